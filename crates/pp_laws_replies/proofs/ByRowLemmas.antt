-- A decision to answer by a row was made of a row that is ready.
use Rattle.std.proofs.Common.{◌≡◌, refl, ℕ, Bool, true, false, not, ◌==◌, ◌&&◌, ◌||◌, if◌then◌else◌, Option, Some, None, sym, subst, ap, ap₂, ◌∙◌}
use Rattle.pp_ask.specs.declared.kind.AskKind.{AskKind}
use Rattle.pp_head.specs.Request.{Request}
use Rattle.pp_plan.specs.Decision.{is_not_modified, by_range, of_known, by_row, by_ready, by_begun, line, is_ready_row, asks_origin, is_only_cached, decision}
use Rattle.pp_plan.specs.Requests.{is_conditional, is_connect, is_get, is_head, never_uses}
use Rattle.pp_plan.specs.Row.{Row}
use Rattle.pp_plan.specs.Spans.{resolved}
use Rattle.pp_ranges.specs.declared.range.Resolved.{Resolved}
use Rattle.pp_ranges.specs.declared.range.Resolved.TheVariants.{Whole as OfAll, Part as OfPart, Unsatisfiable as OfNone}
use Rattle.pp_valid.specs.declared.version.Version.{Version}
use Rattle.pp_plan.specs.declared.table.Begun.{Begun}
use Rattle.pp_plan.specs.declared.table.Begun.TheVariants.{Nothing, Settled, Other, Widened}
use Rattle.pp_target.specs.Key.{Key}
use Rattle.pp_world.specs.declared.note.Decision.{Decision}
use Rattle.pp_world.specs.declared.note.Decision.TheVariants.{Refuse, Hit, Part, Head, NotModified, Unsatisfiable, Relay, Validate, Fetch, Pass}
use Rattle.pp_law.specs.Decisions.{fits, text_for, if_fits}
use Rattle.pp_law.specs.Permits.{is_same_decision}
use Rattle.pp_law.specs.Stages.{is_page}
use Rattle.pp_law.specs.State.{State}
use Rattle.pp_laws.proofs.Tests.{first_holds, same_number, second_holds}
use Rattle.pp_laws_replies.specs.ByRow.{is_by_row}

first_of_two : (b : Bool) → (b || false) ≡ true → b ≡ true
first_of_two true is = refl
first_of_two false is = is

pub no_page : (d : Decision) → is_by_row d ≡ true → is_page d ≡ false
no_page (Refuse status) by = absurd (cc by)
no_page (Hit from to) by = refl
no_page (Part from to) by = refl
no_page Head by = refl
no_page NotModified by = refl
no_page Unsatisfiable by = refl
no_page Relay by = refl
no_page Validate by = refl
no_page Fetch by = refl
no_page Pass by = refl

pub same_decision : (due d : Decision) → is_same_decision due d ≡ true → is_page d ≡ false → due ≡ d
same_decision due (Refuse e) is isnt = absurd (cc isnt)
same_decision (Refuse a) (Hit e f) is isnt = absurd (cc is)
same_decision (Hit a b) (Hit e f) is isnt = ap₂ Hit (same_number a e (first_holds (a == e) (b == f) is)) (same_number b f (second_holds (a == e) (b == f) is))
same_decision (Part a b) (Hit e f) is isnt = absurd (cc is)
same_decision Head (Hit e f) is isnt = absurd (cc is)
same_decision NotModified (Hit e f) is isnt = absurd (cc is)
same_decision Unsatisfiable (Hit e f) is isnt = absurd (cc is)
same_decision Relay (Hit e f) is isnt = absurd (cc is)
same_decision Validate (Hit e f) is isnt = absurd (cc is)
same_decision Fetch (Hit e f) is isnt = absurd (cc is)
same_decision Pass (Hit e f) is isnt = absurd (cc is)
same_decision (Refuse a) (Part e f) is isnt = absurd (cc is)
same_decision (Hit a b) (Part e f) is isnt = absurd (cc is)
same_decision (Part a b) (Part e f) is isnt = ap₂ Part (same_number a e (first_holds (a == e) (b == f) is)) (same_number b f (second_holds (a == e) (b == f) is))
same_decision Head (Part e f) is isnt = absurd (cc is)
same_decision NotModified (Part e f) is isnt = absurd (cc is)
same_decision Unsatisfiable (Part e f) is isnt = absurd (cc is)
same_decision Relay (Part e f) is isnt = absurd (cc is)
same_decision Validate (Part e f) is isnt = absurd (cc is)
same_decision Fetch (Part e f) is isnt = absurd (cc is)
same_decision Pass (Part e f) is isnt = absurd (cc is)
same_decision (Refuse a) Head is isnt = absurd (cc is)
same_decision (Hit a b) Head is isnt = absurd (cc is)
same_decision (Part a b) Head is isnt = absurd (cc is)
same_decision Head Head is isnt = refl
same_decision NotModified Head is isnt = absurd (cc is)
same_decision Unsatisfiable Head is isnt = absurd (cc is)
same_decision Relay Head is isnt = absurd (cc is)
same_decision Validate Head is isnt = absurd (cc is)
same_decision Fetch Head is isnt = absurd (cc is)
same_decision Pass Head is isnt = absurd (cc is)
same_decision (Refuse a) NotModified is isnt = absurd (cc is)
same_decision (Hit a b) NotModified is isnt = absurd (cc is)
same_decision (Part a b) NotModified is isnt = absurd (cc is)
same_decision Head NotModified is isnt = absurd (cc is)
same_decision NotModified NotModified is isnt = refl
same_decision Unsatisfiable NotModified is isnt = absurd (cc is)
same_decision Relay NotModified is isnt = absurd (cc is)
same_decision Validate NotModified is isnt = absurd (cc is)
same_decision Fetch NotModified is isnt = absurd (cc is)
same_decision Pass NotModified is isnt = absurd (cc is)
same_decision (Refuse a) Unsatisfiable is isnt = absurd (cc is)
same_decision (Hit a b) Unsatisfiable is isnt = absurd (cc is)
same_decision (Part a b) Unsatisfiable is isnt = absurd (cc is)
same_decision Head Unsatisfiable is isnt = absurd (cc is)
same_decision NotModified Unsatisfiable is isnt = absurd (cc is)
same_decision Unsatisfiable Unsatisfiable is isnt = refl
same_decision Relay Unsatisfiable is isnt = absurd (cc is)
same_decision Validate Unsatisfiable is isnt = absurd (cc is)
same_decision Fetch Unsatisfiable is isnt = absurd (cc is)
same_decision Pass Unsatisfiable is isnt = absurd (cc is)
same_decision (Refuse a) Relay is isnt = absurd (cc is)
same_decision (Hit a b) Relay is isnt = absurd (cc is)
same_decision (Part a b) Relay is isnt = absurd (cc is)
same_decision Head Relay is isnt = absurd (cc is)
same_decision NotModified Relay is isnt = absurd (cc is)
same_decision Unsatisfiable Relay is isnt = absurd (cc is)
same_decision Relay Relay is isnt = refl
same_decision Validate Relay is isnt = absurd (cc is)
same_decision Fetch Relay is isnt = absurd (cc is)
same_decision Pass Relay is isnt = absurd (cc is)
same_decision (Refuse a) Validate is isnt = absurd (cc is)
same_decision (Hit a b) Validate is isnt = absurd (cc is)
same_decision (Part a b) Validate is isnt = absurd (cc is)
same_decision Head Validate is isnt = absurd (cc is)
same_decision NotModified Validate is isnt = absurd (cc is)
same_decision Unsatisfiable Validate is isnt = absurd (cc is)
same_decision Relay Validate is isnt = absurd (cc is)
same_decision Validate Validate is isnt = refl
same_decision Fetch Validate is isnt = absurd (cc is)
same_decision Pass Validate is isnt = absurd (cc is)
same_decision (Refuse a) Fetch is isnt = absurd (cc is)
same_decision (Hit a b) Fetch is isnt = absurd (cc is)
same_decision (Part a b) Fetch is isnt = absurd (cc is)
same_decision Head Fetch is isnt = absurd (cc is)
same_decision NotModified Fetch is isnt = absurd (cc is)
same_decision Unsatisfiable Fetch is isnt = absurd (cc is)
same_decision Relay Fetch is isnt = absurd (cc is)
same_decision Validate Fetch is isnt = absurd (cc is)
same_decision Fetch Fetch is isnt = refl
same_decision Pass Fetch is isnt = absurd (cc is)
same_decision (Refuse a) Pass is isnt = absurd (cc is)
same_decision (Hit a b) Pass is isnt = absurd (cc is)
same_decision (Part a b) Pass is isnt = absurd (cc is)
same_decision Head Pass is isnt = absurd (cc is)
same_decision NotModified Pass is isnt = absurd (cc is)
same_decision Unsatisfiable Pass is isnt = absurd (cc is)
same_decision Relay Pass is isnt = absurd (cc is)
same_decision Validate Pass is isnt = absurd (cc is)
same_decision Fetch Pass is isnt = absurd (cc is)
same_decision Pass Pass is isnt = refl

-- or memory was refused, which is a page
pub same_or : (due d : Decision) (w : Bool) → (is_same_decision due d || (is_same_decision d (Refuse 500) && w)) ≡ true → is_page d ≡ false → is_same_decision due d ≡ true
same_or due (Refuse status) w is isnt = absurd (cc isnt)
same_or due (Hit a b) w is isnt = first_of_two (is_same_decision due (Hit a b)) is
same_or due (Part a b) w is isnt = first_of_two (is_same_decision due (Part a b)) is
same_or due Head w is isnt = first_of_two (is_same_decision due Head) is
same_or due NotModified w is isnt = first_of_two (is_same_decision due NotModified) is
same_or due Unsatisfiable w is isnt = first_of_two (is_same_decision due Unsatisfiable) is
same_or due Relay w is isnt = first_of_two (is_same_decision due Relay) is
same_or due Validate w is isnt = first_of_two (is_same_decision due Validate) is
same_or due Fetch w is isnt = first_of_two (is_same_decision due Fetch) is
same_or due Pass w is isnt = first_of_two (is_same_decision due Pass) is

-- ---- of two decisions the first is none by a row

pub not_first : (b : Bool) (x y d : Decision) → is_by_row x ≡ false → is_by_row d ≡ true → (if b then x else y) ≡ d → y ≡ d
not_first true x y d isnt_on by is = let both : false ≡ true = sym isnt_on ∙ ap is_by_row is ∙ by in absurd (cc both)
not_first false x y d isnt_on by is = is

-- ---- the row is there, and ready

-- there is one, it is this, and the decision is made of it
pub record HasRow (head : Request) (seen : Option Row) (ready : Bool) (d : Decision) : Type 0 where
  pub row : Row
  pub is : seen ≡ Some row
  pub is_ready : ready ≡ true
  pub made : of_known head row ≡ d

of_row : (head : Request) (seen : Option Row) (ready : Bool) (d : Decision) → is_by_row d ≡ true → by_row head seen ready ≡ d → HasRow head seen ready d
of_row head None ready d by is = absurd (at (is_conditional head.fields) is)
  where
    at : (b : Bool) → (if b then Pass else Fetch) ≡ d → ⊥
    at true has = let both : false ≡ true = ap is_by_row has ∙ by in cc both
    at false has = let both : false ≡ true = ap is_by_row has ∙ by in cc both
of_row head (Some row) true d by is = record { row = row; is = refl; is_ready = refl; made = is }
of_row head (Some row) false d by is = let both : false ≡ true = ap is_by_row is ∙ by in absurd (cc both)

of_ready : (head : Request) (seen : Option Row) (ready : Bool) (d : Decision) → is_by_row d ≡ true → by_ready head seen ready ≡ d → HasRow head seen ready d
of_ready head seen ready d by is = of_row head seen ready d by (not_first (is_head head.method && not ready) Pass (by_row head seen ready) d refl by is)

of_begun : (head : Request) (seen : Option Row) (begun : Begun) (ready : Bool) (d : Decision) → is_by_row d ≡ true → by_begun head seen begun ready ≡ d → HasRow head seen ready d
of_begun head seen Nothing ready d by is = of_ready head seen ready d by is
of_begun head seen Settled ready d by is = of_ready head seen ready d by is
of_begun head seen Other ready d by is = let both : false ≡ true = ap is_by_row is ∙ by in absurd (cc both)
of_begun head seen Widened ready d by is = let both : false ≡ true = ap is_by_row is ∙ by in absurd (cc both)

of_line : (head : Request) (seen : Option Row) (begun : Begun) (ready : Bool) (d : Decision) → is_by_row d ≡ true → line head seen begun ready ≡ d → HasRow head seen ready d
of_line head seen begun ready d by is =
    of_begun head seen begun ready d by
    (not_first (never_uses head.fields) Pass (by_begun head seen begun ready) d refl by
    (not_first (not (is_get head.method || is_head head.method)) Pass (if never_uses head.fields then Pass else by_begun head seen begun ready) d refl by is))

pub has_row : (head : Request) (seen : Option Row) (begun : Begun) (now : ℕ) (d : Decision) → is_by_row d ≡ true → decision head seen begun now ≡ d → HasRow head seen (is_ready_row head seen begun now) d
has_row head seen begun now d by is =
    let first = line head seen begun (is_ready_row head seen begun now) in
    of_line head seen begun (is_ready_row head seen begun now) d by
    (not_first (is_only_cached head && asks_origin first) (Refuse 504) first d refl by
    (not_first (is_connect head.method) (Refuse 400) (if is_only_cached head && asks_origin first then Refuse 504 else first) d refl by is))

-- ---- what has to fit into an ask

pub fitting : (s : State) (head : Request) (key : Key) (kind : Option AskKind) (e d : Decision) → is_page d ≡ false → if_fits s head key kind e ≡ d → e ≡ d
fitting s head key None e d isnt is = is
fitting s head key (Some kind) e d isnt is = at (fits (text_for s head key kind)) is
  where
    at : (b : Bool) → (elim b as (λ c. Decision) [ true ↦ e | false ↦ Refuse 431 ]) ≡ d → e ≡ d
    at true has = has
    at false has = let both : true ≡ false = ap is_page has ∙ isnt in absurd (cc both)

-- ---- what a decision by a row shows

-- of a version of so many bytes
abbrev pub Shows : Resolved → ℕ → ℕ → ℕ → Type 0
Shows OfAll n from to = (from ≡ 0) × (to ≡ n)
Shows (OfPart first end) n from to = (from ≡ first) × (to ≡ end)
Shows OfNone n from to = ⊥

abbrev pub SpanOf : Request → Version → Decision → Type 0
SpanOf head v (Refuse status) = Unit {0}
SpanOf head v (Hit from to) = Shows (resolved head.fields v) v.length from to
SpanOf head v (Part from to) = Shows (resolved head.fields v) v.length from to
SpanOf head v Head = Unit {0}
SpanOf head v NotModified = Unit {0}
SpanOf head v Unsatisfiable = Unit {0}
SpanOf head v Relay = Unit {0}
SpanOf head v Validate = Unit {0}
SpanOf head v Fetch = Unit {0}
SpanOf head v Pass = Unit {0}

pub span_known : (head : Request) (row : Row) → SpanOf head row.version (of_known head row)
span_known head row = modified (is_not_modified head row) (is_head head.method)
  where
    range : (held : Bool) (r : Resolved) → resolved head.fields row.version ≡ r → SpanOf head row.version (by_range held row.version.length r)
    range held OfNone is = tt
    range true (OfPart from to) is = subst (λ r. Shows r row.version.length from to) (sym is) (refl, refl)
    range false (OfPart from to) is = subst (λ r. Shows r row.version.length from to) (sym is) (refl, refl)
    range true OfAll is = subst (λ r. Shows r row.version.length 0 row.version.length) (sym is) (refl, refl)
    range false OfAll is = subst (λ r. Shows r row.version.length 0 row.version.length) (sym is) (refl, refl)

    modified : (a b : Bool) → SpanOf head row.version (if a then NotModified else (if b then Head else by_range row.held row.version.length (resolved head.fields row.version)))
    modified true b = tt
    modified false true = tt
    modified false false = range row.held (resolved head.fields row.version) refl
