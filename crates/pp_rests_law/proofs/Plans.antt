-- What a decision that is due is: decided by the row of its key and by its exchange, or what a request is given up with.
use Rattle.std.proofs.Common.{◌≡◌, ◌⊎◌, inl, inr, refl, sym, subst, ap, ◌∙◌, ℕ, Bool, true, false, not, ◌&&◌, ◌||◌, is_some, Option, Some, None, Result, Ok, Err}
use Rattle.std.specs.Prelude.{if◌then◌else◌}
use Rattle.pp_ask.specs.declared.kind.AskKind.{AskKind}
use Rattle.pp_framing.specs.declared.body.BodyRule.{BodyRule}
use Rattle.pp_framing.specs.declared.framing.FramingFault.{FramingFault}
use Rattle.pp_framing.specs.declared.framing.FramingFault.TheVariants.{OtherCoding, TwoLengths, BadLength}
use Rattle.pp_head.specs.Request.{Request}
use Rattle.pp_law.specs.Decisions.{begun_now, decide, decide_for, decide_head, fits, if_fits, kind_of, text_for}
use Rattle.pp_law.specs.Due.{due_by_stage, due_reply, give_up, has_lost_row, is_told}
use Rattle.pp_law.specs.Requests.{Front, Parsed, NoHeadYet, NoHead, IsRequest, refusal_by_rule}
use Rattle.pp_law.specs.Sharing.{due_first, due_undecided, is_patient, may_share, shared_ask}
use Rattle.pp_law.specs.Stages.{is_page}
use Rattle.pp_law.specs.State.{State, AskTooLong, Client, Course, OutOfTries, Reply, RowRefused, Shared, Stage, Trying, Undecided, Waiting, Passing, Answering}
use Rattle.pp_law.specs.Table.{row_for}
use Rattle.pp_plan.specs.Decision.{asks_origin, by_begun, by_range, by_ready, by_row, decision, is_not_modified, is_only_cached, is_ready_row, line, of_known}
use Rattle.pp_plan.specs.Requests.{is_conditional, is_connect, is_get, is_head, never_uses}
use Rattle.pp_plan.specs.Row.{Row}
use Rattle.pp_plan.specs.Spans.{resolved}
use Rattle.pp_plan.specs.declared.table.Begun.{Begun}
use Rattle.pp_plan.specs.declared.table.Begun.TheVariants.{Nothing, Settled, Other, Widened}
use Rattle.pp_ranges.specs.declared.range.Resolved.{Resolved}
use Rattle.pp_ranges.specs.declared.range.Resolved.TheVariants.{Whole as OfAll, Part as OfPart, Unsatisfiable as OfNone}
use Rattle.pp_target.specs.Key.{Key, text_of}
use Rattle.pp_target.specs.declared.target.TargetFault.{TargetFault}
use Rattle.pp_world.specs.declared.note.Decision.{Decision}
use Rattle.pp_world.specs.declared.note.Decision.TheVariants.{Refuse, Hit, Part, Head, NotModified, Unsatisfiable, Relay, Validate, Fetch, Pass}

-- ---- what is due is decided, or given up

give_or : (course : Course) (o : Option Decision) (d : Decision) → give_up course o ≡ Some d → (o ≡ Some d) ⊎ (give_up course None ≡ Some d)
give_or (Trying n) o d is = inl is
give_or OutOfTries o d is = inr is
give_or AskTooLong o d is = inr is
give_or RowRefused o d is = inr is

pub from_undecided : (s : State) (c : Client) (d : Decision) → due_undecided s c ≡ Some d → decide s c ≡ Some d
from_undecided s c d is = by c.waits_on is
  where
    first : (x : Decision) (t : Bool) → (elim t as (λ y. Option Decision) [ true ↦ None | false ↦ Some x ]) ≡ Some d → Some x ≡ Some d
    first x true at = absurd (cc at)
    first x false at = at

    patient : (t : Bool) → (elim t as (λ y. Option Decision) [ true ↦ None | false ↦ decide s c ]) ≡ Some d → decide s c ≡ Some d
    patient true at = absurd (cc at)
    patient false at = at

    alone : (o : Option Decision) → (elim o as (λ y. Option Decision) [ None ↦ None | Some x ↦ due_first s c x ]) ≡ Some d → o ≡ Some d
    alone None at = absurd (cc at)
    alone (Some x) at = first x (s.settings.shares_fetches && may_share x && is_some (shared_ask s c)) at

    by : (o : Option Shared) → (elim o as (λ y. Option Decision) [
      | Some w ↦ elim (is_patient s w) as (λ y. Option Decision) [ true ↦ None | false ↦ decide s c ]
      | None ↦ elim (decide s c) as (λ y. Option Decision) [ None ↦ None | Some x ↦ due_first s c x ]
    ]) ≡ Some d → decide s c ≡ Some d
    by (Some w) at = patient (is_patient s w) at
    by None at = alone (decide s c) at

pub due_from : (s : State) (c : Client) (d : Decision) → due_by_stage s c ≡ Some d → (decide s c ≡ Some d) ⊎ (give_up c.course None ≡ Some d)
due_from s c d = by c.stage
  where
    if_so : (t : Bool) → (elim t as (λ y. Option Decision) [ true ↦ decide s c | false ↦ None ]) ≡ Some d → decide s c ≡ Some d
    if_so true at = at
    if_so false at = absurd (cc at)

    either : (t : Bool) → ((elim t as (λ y. Option Decision) [ true ↦ decide s c | false ↦ None ]) ≡ Some d) ⊎ (give_up c.course None ≡ Some d) → (decide s c ≡ Some d) ⊎ (give_up c.course None ≡ Some d)
    either t (inl at) = inl (if_so t at)
    either t (inr at) = inr at

    told : (t : Bool) → give_up c.course (elim t as (λ y. Option Decision) [ true ↦ decide s c | false ↦ None ]) ≡ Some d → (decide s c ≡ Some d) ⊎ (give_up c.course None ≡ Some d)
    told t at = either t (give_or c.course (elim t as (λ y. Option Decision) [ true ↦ decide s c | false ↦ None ]) d at)

    replied : (r : Reply) (t : Bool) → (elim t as (λ y. Option Decision) [
      | true ↦ None
      | false ↦ give_up c.course (elim (has_lost_row s r) as (λ y. Option Decision) [ true ↦ decide s c | false ↦ None ])
    ]) ≡ Some d → (decide s c ≡ Some d) ⊎ (give_up c.course None ≡ Some d)
    replied r true at = absurd (cc at)
    replied r false at = told (has_lost_row s r) at

    by : (stage : Stage) → (elim stage as (λ y. Option Decision) [
      | Undecided ↦ due_undecided s c
      | Waiting ↦ give_up c.course (elim (is_told c.brought) as (λ y. Option Decision) [ true ↦ decide s c | false ↦ None ])
      | Passing ↦ give_up c.course None
      | Answering r ↦ due_reply s c r
    ]) ≡ Some d → (decide s c ≡ Some d) ⊎ (give_up c.course None ≡ Some d)
    by Undecided at = inl (from_undecided s c d at)
    by Waiting at = told (is_told c.brought) at
    by Passing at = inr at
    by (Answering r) at = replied r r.has_begun at

-- what is given up gets a page
given_page : (course : Course) (d : Decision) → give_up course None ≡ Some d → is_page d ≡ true
given_page (Trying n) d is = absurd (cc is)
given_page OutOfTries d is = let one : Refuse 502 ≡ d = cc is in ap is_page (sym one)
given_page AskTooLong d is = let one : Refuse 431 ≡ d = cc is in ap is_page (sym one)
given_page RowRefused d is = let one : Refuse 500 ≡ d = cc is in ap is_page (sym one)

-- so any other is decided
pub decided_else : (s : State) (c : Client) (d : Decision) → is_page d ≡ false → due_by_stage s c ≡ Some d → decide s c ≡ Some d
decided_else s c d page due = by (due_from s c d due)
  where
    by : (decide s c ≡ Some d) ⊎ (give_up c.course None ≡ Some d) → decide s c ≡ Some d
    by (inl is) = is
    by (inr is) = let both : true ≡ false = sym (given_page c.course d is) ∙ page in absurd (cc both)

-- and of a reply that was decided the row is lost
pub lost_else : (s : State) (c : Client) (d : Decision) (r : Reply) → is_page d ≡ false → c.stage ≡ Answering r → due_by_stage s c ≡ Some d → has_lost_row s r ≡ true
lost_else s c d r page stage due = begun r.has_begun (sym at ∙ due)
  where
    at : due_by_stage s c ≡ due_reply s c r
    at = ap (λ (x : Stage). elim x as (λ y. Option Decision) [
      | Undecided ↦ due_undecided s c
      | Waiting ↦ give_up c.course (elim (is_told c.brought) as (λ y. Option Decision) [ true ↦ decide s c | false ↦ None ])
      | Passing ↦ give_up c.course None
      | Answering q ↦ due_reply s c q
    ]) stage

    none : None ≡ Some d → has_lost_row s r ≡ true
    none is = absurd (cc is)

    kept : (b : Bool) → has_lost_row s r ≡ b → ((elim b as (λ y. Option Decision) [ true ↦ decide s c | false ↦ None ]) ≡ Some d) ⊎ (give_up c.course None ≡ Some d) → has_lost_row s r ≡ true
    kept true is either = is
    kept false is (inl due) = none due
    kept false is (inr given) = let both : true ≡ false = sym (given_page c.course d given) ∙ page in absurd (cc both)

    begun : (b : Bool) → (elim b as (λ y. Option Decision) [
      | true ↦ None
      | false ↦ give_up c.course (elim (has_lost_row s r) as (λ y. Option Decision) [ true ↦ decide s c | false ↦ None ])
    ]) ≡ Some d → has_lost_row s r ≡ true
    begun true is = none is
    begun false is = kept (has_lost_row s r) refl (give_or c.course (elim (has_lost_row s r) as (λ y. Option Decision) [ true ↦ decide s c | false ↦ None ]) d is)

-- ---- who asks, and who is answered by a row, named a key

pub record IsNamed (c : Client) : Type 0 where
  pub request : Parsed
  pub front : c.front ≡ IsRequest request
  pub key : Key
  pub names : request.key ≡ Ok key

pub named_else : (s : State) (c : Client) (d : Decision) → is_page d ≡ false → decide s c ≡ Some d → IsNamed c
named_else s c d page = by c.front refl
  where
    paged : (status : ℕ) → Refuse status ≡ d → IsNamed c
    paged status is = let both : true ≡ false = ap is_page is ∙ page in absurd (cc both)

    keyed : (r : Parsed) → c.front ≡ IsRequest r → (k : Result Key TargetFault) → r.key ≡ k
        → (elim (elim k as (λ t. Option ℕ) [ Err fault ↦ Some 400 | Ok key ↦ refusal_by_rule r.rule ]) as (λ t. Decision) [ Some status ↦ Refuse status | None ↦ elim k as (λ t. Decision) [ Ok key ↦ decide_for s c r.head key | Err fault ↦ Refuse 400 ] ]) ≡ d → IsNamed c
    keyed r front (Ok key) names is = record { request = r; front = front; key = key; names = names }
    keyed r front (Err fault) names is = paged 400 is

    by : (front : Front) → c.front ≡ front → (elim front as (λ y. Option Decision) [ NoHeadYet ↦ None | NoHead status ↦ Some (Refuse status) | IsRequest r ↦ Some (decide_head s c r) ]) ≡ Some d → IsNamed c
    by NoHeadYet front is = absurd (cc is)
    by (NoHead status) front is = paged status (cc is)
    by (IsRequest r) front is = keyed r front r.key refl (cc is)

-- ---- any of what may be decided

module _ (test : Decision → Bool) (plain : (d : Decision) → is_page d ≡ false → test d ≡ true) where
  if_on : (b : Bool) (x y : Decision) → test x ≡ true → test y ≡ true → test (if b then x else y) ≡ true
  if_on true x y hx hy = hx
  if_on false x y hx hy = hy

  range_on : (held : Bool) (n : ℕ) (r : Resolved) → test (by_range held n r) ≡ true
  range_on held n OfNone = plain Unsatisfiable refl
  range_on true n (OfPart from to) = plain (Hit from to) refl
  range_on false n (OfPart from to) = plain (Part from to) refl
  range_on true n OfAll = plain (Hit 0 n) refl
  range_on false n OfAll = plain (Part 0 n) refl

  known_on : (request : Request) (row : Row) → test (of_known request row) ≡ true
  known_on request row =
      if_on (is_not_modified request row) NotModified (if is_head request.method then Head else by_range row.held row.version.length (resolved request.fields row.version)) (plain NotModified refl)
      (if_on (is_head request.method) Head (by_range row.held row.version.length (resolved request.fields row.version)) (plain Head refl) (range_on row.held row.version.length (resolved request.fields row.version)))

  row_on : (request : Request) (row : Option Row) (ready : Bool) → test (by_row request row ready) ≡ true
  row_on request None ready = if_on (is_conditional request.fields) Pass Fetch (plain Pass refl) (plain Fetch refl)
  row_on request (Some row) ready = if_on (not ready) Validate (of_known request row) (plain Validate refl) (known_on request row)

  ready_on : (request : Request) (row : Option Row) (ready : Bool) → test (by_ready request row ready) ≡ true
  ready_on request row ready = if_on (is_head request.method && not ready) Pass (by_row request row ready) (plain Pass refl) (row_on request row ready)

  begun_on : (request : Request) (row : Option Row) (begun : Begun) (ready : Bool) → test (by_begun request row begun ready) ≡ true
  begun_on request row Other ready = plain Relay refl
  begun_on request row Widened ready = plain Pass refl
  begun_on request row Nothing ready = ready_on request row ready
  begun_on request row Settled ready = ready_on request row ready

  decision_on : test (Refuse 400) ≡ true → test (Refuse 504) ≡ true → (request : Request) (row : Option Row) (begun : Begun) (now : ℕ) → test (decision request row begun now) ≡ true
  decision_on h400 h504 request row begun now =
      if_on (is_connect request.method) (Refuse 400) (if is_only_cached request && asks_origin first then Refuse 504 else first) h400
      (if_on (is_only_cached request && asks_origin first) (Refuse 504) first h504
      (if_on (not (is_get request.method || is_head request.method)) Pass (if never_uses request.fields then Pass else by_begun request row begun (is_ready_row request row begun now)) (plain Pass refl)
      (if_on (never_uses request.fields) Pass (by_begun request row begun (is_ready_row request row begun now)) (plain Pass refl) (begun_on request row begun (is_ready_row request row begun now)))))
    where
      first : Decision
      first = line request row begun (is_ready_row request row begun now)

  module _ (h400 : test (Refuse 400) ≡ true) (h411 : test (Refuse 411) ≡ true) (h431 : test (Refuse 431) ≡ true) (h504 : test (Refuse 504) ≡ true) (s : State) (c : Client) (pages : (status : ℕ) → c.front ≡ NoHead status → test (Refuse status) ≡ true) where
    fit : (head : Request) (key : Key) (d : Decision) (o : Option AskKind) → test d ≡ true → test (if_fits s head key o d) ≡ true
    fit head key d None hd = hd
    fit head key d (Some kind) hd = at (fits (text_for s head key kind))
      where
        at : (b : Bool) → test (elim b as (λ y. Decision) [ true ↦ d | false ↦ Refuse 431 ]) ≡ true
        at true = hd
        at false = h431

    for_key : (head : Request) (key : Key) → test (decide_for s c head key) ≡ true
    for_key head key =
        let d : Decision = decision head (row_for s head (text_of key)) (begun_now s c (text_of key)) s.clock in
        fit head key d (kind_of head (row_for s head (text_of key)) d) (decision_on h400 h504 head (row_for s head (text_of key)) (begun_now s c (text_of key)) s.clock)

    head_on : (r : Parsed) → test (decide_head s c r) ≡ true
    head_on r = by r.key r.rule
      where
        by : (k : Result Key TargetFault) (u : Result BodyRule FramingFault)
            → test (elim (elim k as (λ t. Option ℕ) [ Err fault ↦ Some 400 | Ok key ↦ refusal_by_rule u ]) as (λ t. Decision) [ Some status ↦ Refuse status | None ↦ elim k as (λ t. Decision) [ Ok key ↦ decide_for s c r.head key | Err fault ↦ Refuse 400 ] ]) ≡ true
        by (Err fault) u = h400
        by (Ok key) (Ok rule) = for_key r.head key
        by (Ok key) (Err OtherCoding) = h411
        by (Ok key) (Err TwoLengths) = h400
        by (Ok key) (Err BadLength) = h400

    -- a page is one of these, or of what is no head
    pub decide_on : (x : Decision) → decide s c ≡ Some x → test x ≡ true
    decide_on x = by c.front refl
      where
        its : (d : Decision) → test d ≡ true → Some d ≡ Some x → test x ≡ true
        its d hd at = let one : d ≡ x = cc at in subst (λ (y : Decision). test y ≡ true) one hd

        by : (front : Front) → c.front ≡ front → (elim front as (λ y. Option Decision) [ NoHeadYet ↦ None | NoHead status ↦ Some (Refuse status) | IsRequest r ↦ Some (decide_head s c r) ]) ≡ Some x → test x ≡ true
        by NoHeadYet front at = absurd (cc at)
        by (NoHead status) front at = its (Refuse status) (pages status front) at
        by (IsRequest r) front at = its (decide_head s c r) (head_on r) at
