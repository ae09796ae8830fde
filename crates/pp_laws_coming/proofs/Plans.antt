-- What is decided by what the exchange of a request brought: what is passed is relayed, and nothing else is.
use Rattle.std.proofs.Common.{◌≡◌, refl, ℕ, Bool, true, false, not, ◌==◌, ◌&&◌, ◌||◌, Option, Some, None, Result, Ok, Err, sym, subst, ap, ◌∙◌}
use Rattle.std.specs.Prelude.{if◌then◌else◌}
use Rattle.pp_ask.specs.declared.kind.AskKind.{AskKind}
use Rattle.pp_head.specs.Request.{Request}
use Rattle.pp_plan.specs.Decision.{asks_origin, by_begun, by_range, by_ready, by_row, decision, is_not_modified, is_only_cached, is_ready_row, line, of_known}
use Rattle.pp_plan.specs.Requests.{is_conditional, is_connect, is_get, is_head, never_uses}
use Rattle.pp_plan.specs.Row.{Row}
use Rattle.pp_plan.specs.Spans.{resolved}
use Rattle.pp_plan.specs.declared.table.Begun.{Begun}
use Rattle.pp_plan.specs.declared.table.Begun.TheVariants.{Nothing, Settled, Other, Widened}
use Rattle.pp_ranges.specs.declared.range.Resolved.{Resolved}
use Rattle.pp_ranges.specs.declared.range.Resolved.TheVariants.{Whole as OfAll, Part as OfPart, Unsatisfiable as OfNone}
use Rattle.pp_target.specs.Key.{Key, text_of}
use Rattle.pp_world.specs.declared.note.Decision.{Decision}
use Rattle.pp_world.specs.declared.note.Decision.TheVariants.{Refuse, Hit, Part, Head, NotModified, Unsatisfiable, Relay, Validate, Fetch, Pass}
use Rattle.pp_law.specs.Decisions.{begun_now, decide, decide_for, decide_head, fits, if_fits, kind_of, text_for}
use Rattle.pp_law.specs.Lists.{Bytes, is_some_with}
use Rattle.pp_law.specs.Requests.{Front, Parsed, NoHeadYet, NoHead, IsRequest, refusal_of}
use Rattle.pp_law.specs.State.{State, Awaited, Brought, Client, Joins, Passed, Passes, TooWide, Useless}
use Rattle.pp_law.specs.Table.{row, row_for}

-- ---- kinds

abbrev pub is_relay : Decision → Bool
is_relay Relay = true
is_relay d = false

-- a reply by the row
abbrev pub is_by_row : Decision → Bool
is_by_row (Hit from to) = true
is_by_row (Part from to) = true
is_by_row Head = true
is_by_row NotModified = true
is_by_row Unsatisfiable = true
is_by_row d = false

if_off : (test : Decision → Bool) (b : Bool) (x y : Decision) → test x ≡ false → test y ≡ false → test (if b then x else y) ≡ false
if_off test true x y hx hy = hx
if_off test false x y hx hy = hy

-- ---- where nothing is passed nothing is relayed

range_off : (held : Bool) (n : ℕ) (r : Resolved) → is_relay (by_range held n r) ≡ false
range_off held n OfNone = refl
range_off true n (OfPart from to) = refl
range_off false n (OfPart from to) = refl
range_off true n OfAll = refl
range_off false n OfAll = refl

known_off : (request : Request) (row : Row) → is_relay (of_known request row) ≡ false
known_off request row =
    if_off is_relay (is_not_modified request row) NotModified (if is_head request.method then Head else by_range row.held row.version.length (resolved request.fields row.version)) refl
    (if_off is_relay (is_head request.method) Head (by_range row.held row.version.length (resolved request.fields row.version)) refl (range_off row.held row.version.length (resolved request.fields row.version)))

row_off : (request : Request) (row : Option Row) (ready : Bool) → is_relay (by_row request row ready) ≡ false
row_off request None ready = if_off is_relay (is_conditional request.fields) Pass Fetch refl refl
row_off request (Some row) ready = if_off is_relay (not ready) Validate (of_known request row) refl (known_off request row)

ready_off : (request : Request) (row : Option Row) (ready : Bool) → is_relay (by_ready request row ready) ≡ false
ready_off request row ready = if_off is_relay (is_head request.method && not ready) Pass (by_row request row ready) refl (row_off request row ready)

pub begun_off : (request : Request) (row : Option Row) (begun : Begun) (ready : Bool) → (begun ≡ Other → ⊥) → is_relay (by_begun request row begun ready) ≡ false
begun_off request row Other ready isnt = absurd (isnt refl)
begun_off request row Widened ready isnt = refl
begun_off request row Nothing ready isnt = ready_off request row ready
begun_off request row Settled ready isnt = ready_off request row ready

-- and what is passed is answered by no row
passed_off : (request : Request) (row : Option Row) (begun : Begun) (ready : Bool) → begun ≡ Other → is_by_row (by_begun request row begun ready) ≡ false
passed_off request row begun ready is = ap (λ b. is_by_row (by_begun request row b ready)) is

pub decision_off : (test : Decision → Bool) (request : Request) (row : Option Row) (begun : Begun) (now : ℕ) → ((status : ℕ) → test (Refuse status) ≡ false) → test Pass ≡ false → test (by_begun request row begun (is_ready_row request row begun now)) ≡ false
    → test (decision request row begun now) ≡ false
decision_off test request row begun now refuses passes by =
    if_off test (is_connect request.method) (Refuse 400) (if is_only_cached request && asks_origin first then Refuse 504 else first) (refuses 400)
    (if_off test (is_only_cached request && asks_origin first) (Refuse 504) first (refuses 504)
    (if_off test (not (is_get request.method || is_head request.method)) Pass (if never_uses request.fields then Pass else by_begun request row begun (is_ready_row request row begun now)) passes
    (if_off test (never_uses request.fields) Pass (by_begun request row begun (is_ready_row request row begun now)) passes by)))
  where
    first : Decision
    first = line request row begun (is_ready_row request row begun now)

-- ---- for a client

abbrev pub DecidesOff : (Decision → Bool) → State → Client → Type 0
DecidesOff test s c = (head : Request) (key : Key) → test (decision head (row_for s head (text_of key)) (begun_now s c (text_of key)) s.clock) ≡ false

pub decide_off : (test : Decision → Bool) (s : State) (c : Client) → ((status : ℕ) → test (Refuse status) ≡ false) → DecidesOff test s c → (x : Decision) → decide s c ≡ Some x → test x ≡ false
decide_off test s c refuses off x is = by c.front is
  where
    fit : (head : Request) (key : Key) (d : Decision) (o : Option AskKind) → test d ≡ false → test (if_fits s head key o d) ≡ false
    fit head key d None hd = hd
    fit head key d (Some kind) hd = at (fits (text_for s head key kind))
      where
        at : (b : Bool) → test (elim b as (λ y. Decision) [ true ↦ d | false ↦ Refuse 431 ]) ≡ false
        at true = hd
        at false = refuses 431

    for_key : (head : Request) (key : Key) → test (decide_for s c head key) ≡ false
    for_key head key =
        let d : Decision = decision head (row_for s head (text_of key)) (begun_now s c (text_of key)) s.clock in
        fit head key d (kind_of head (row_for s head (text_of key)) d) (off head key)

    head_at : (r : Parsed) → test (decide_head s c r) ≡ false
    head_at r = at (refusal_of r)
      where
        keyed : {E : Type 0} (k : Result Key E) → test (elim k as (λ y. Decision) [ Ok key ↦ decide_for s c r.head key | Err fault ↦ Refuse 400 ]) ≡ false
        keyed (Ok key) = for_key r.head key
        keyed (Err fault) = refuses 400

        at : (o : Option ℕ) → test (elim o as (λ y. Decision) [ Some status ↦ Refuse status | None ↦ elim r.key as (λ y. Decision) [ Ok key ↦ decide_for s c r.head key | Err fault ↦ Refuse 400 ] ]) ≡ false
        at (Some status) = refuses status
        at None = keyed r.key

    its : (d : Decision) → test d ≡ false → Some d ≡ Some x → test x ≡ false
    its d hd at = let one : d ≡ x = cc at in subst (λ (y : Decision). test y ≡ false) one hd

    by : (front : Front) → (elim front as (λ y. Option Decision) [ NoHeadYet ↦ None | NoHead status ↦ Some (Refuse status) | IsRequest r ↦ Some (decide_head s c r) ]) ≡ Some x → test x ≡ false
    by NoHeadYet at = absurd (cc at)
    by (NoHead status) at = its (Refuse status) (refuses status) at
    by (IsRequest r) at = its (decide_head s c r) (head_at r) at

abbrev begun_by : State → Bytes → Brought → Begun
begun_by s key b = elim b as (λ y. Begun) [
  | Awaited ↦ Nothing
  | Useless ↦ Nothing
  | Joins id plain ↦ elim (is_some_with (λ x. x.id == id) (row s key)) as (λ y. Begun) [ true ↦ Settled | false ↦ Nothing ]
  | Passes p ↦ Other
  | TooWide ↦ Widened
]

-- who was brought nothing is relayed nothing
pub nothing_relayed : (s : State) (c : Client) (x : Decision) → c.brought ≡ Awaited → decide s c ≡ Some x → is_relay x ≡ false
nothing_relayed s c x none is =
    decide_off is_relay s c (λ status. refl) (λ head key. decision_off is_relay head (row_for s head (text_of key)) (begun_now s c (text_of key)) s.clock (λ status. refl) refl
    (begun_off head (row_for s head (text_of key)) (begun_now s c (text_of key)) (is_ready_row head (row_for s head (text_of key)) (begun_now s c (text_of key)) s.clock) (λ other. let nothing : begun_now s c (text_of key) ≡ Nothing = ap (begun_by s (text_of key)) none in let both : Nothing ≡ Other = sym nothing ∙ other in cc both))) x is

-- who is passed something is answered by no row
pub passed_by_none : (s : State) (c : Client) (p : Passed) (x : Decision) → c.brought ≡ Passes p → decide s c ≡ Some x → is_by_row x ≡ false
passed_by_none s c p x passed is =
    decide_off is_by_row s c (λ status. refl) (λ head key. decision_off is_by_row head (row_for s head (text_of key)) (begun_now s c (text_of key)) s.clock (λ status. refl) refl
    (passed_off head (row_for s head (text_of key)) (begun_now s c (text_of key)) (is_ready_row head (row_for s head (text_of key)) (begun_now s c (text_of key)) s.clock) (ap (begun_by s (text_of key)) passed))) x is
