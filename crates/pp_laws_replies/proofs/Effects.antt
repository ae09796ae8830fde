-- A decision that is due has its effect: what is no page is of the key of its request, and what needs the row finds it.
use Rattle.std.proofs.Common.{◌≡◌, refl, ℕ, Bool, true, false, not, ◌&&◌, ◌||◌, if◌then◌else◌, Option, Some, None, Result, Ok, Err, sym, subst, ap, ◌∙◌}
use Rattle.pp_ask.specs.declared.kind.AskKind.{AskKind}
use Rattle.pp_ask.specs.declared.kind.AskKind.TheVariants.{Check as AsCheck, Pass as AsPassed}
use Rattle.pp_head.specs.Request.{Request}
use Rattle.pp_plan.specs.Decision.{asks_origin, by_begun, by_row, decision, is_only_cached, is_ready_row, line}
use Rattle.pp_plan.specs.Requests.{is_conditional, is_connect, is_get, is_head, never_uses}
use Rattle.pp_plan.specs.Row.{Row}
use Rattle.pp_plan.specs.declared.table.Begun.{Begun}
use Rattle.pp_plan.specs.declared.table.Begun.TheVariants.{Nothing, Settled, Other, Widened}
use Rattle.pp_target.specs.Key.{Key, text_of}
use Rattle.pp_target.specs.declared.target.TargetFault.{TargetFault}
use Rattle.pp_world.specs.declared.note.Decision.{Decision}
use Rattle.pp_world.specs.declared.note.Decision.TheVariants.{Refuse, Hit, Part, Head, NotModified, Unsatisfiable, Relay, Validate, Fetch, Pass}
use Rattle.pp_law.specs.Deciding.{enter_row, is_for_memory, mark_row_of}
use Rattle.pp_law.specs.Decisions.{begun_now, fetch_kind, kind_of, lent}
use Rattle.pp_law.specs.Lists.{Bytes}
use Rattle.pp_law.specs.Requests.{Front, Parsed, IsRequest, key_in}
use Rattle.pp_law.specs.State.{State, Client, Entry, Instance}
use Rattle.pp_law.specs.Table.{add_row, enter, mark_row, of_entry, of_instance, row, row_for, row_on_disk, with_room}
use Rattle.pp_laws_replies.proofs.ByRowLemmas.{fitting}
use Rattle.pp_laws_replies.proofs.HasRows.{HasRow, add_row-has, mark_row-has}
use Rattle.pp_laws_replies.proofs.Usable.{KeyFor}

-- ---- a check is of a row

abbrev is_check : Decision → Bool
is_check Validate = true
is_check d = false

if_not : (b : Bool) (x y : Decision) → is_check x ≡ false → is_check y ≡ false → is_check (if b then x else y) ≡ false
if_not true x y hx hy = hx
if_not false x y hx hy = hy

by_none : (request : Request) (begun : Begun) (ready : Bool) → is_check (by_begun request None begun ready) ≡ false
by_none request Other ready = refl
by_none request Widened ready = refl
by_none request Nothing ready = if_not (is_head request.method && not ready) Pass (by_row request None ready) refl (if_not (is_conditional request.fields) Pass Fetch refl refl)
by_none request Settled ready = if_not (is_head request.method && not ready) Pass (by_row request None ready) refl (if_not (is_conditional request.fields) Pass Fetch refl refl)

no_check : (request : Request) (begun : Begun) (now : ℕ) → is_check (decision request None begun now) ≡ false
no_check request begun now =
    let ready = is_ready_row request None begun now in
    if_not (is_connect request.method) (Refuse 400) _ refl
    (if_not (is_only_cached request && asks_origin (line request None begun ready)) (Refuse 504) (line request None begun ready) refl
    (if_not (not (is_get request.method || is_head request.method)) Pass _ refl (if_not (never_uses request.fields) Pass (by_begun request None begun ready) refl (by_none request begun ready))))

check_row : (head : Request) (seen : Option Row) (begun : Begun) (now : ℕ) → decision head seen begun now ≡ Validate → (known : Row) × (seen ≡ Some known)
check_row head (Some known) begun now is = (known, refl)
check_row head None begun now is = let both : false ≡ true = sym (no_check head begun now) ∙ ap is_check is in absurd (cc both)

-- ---- the row comes into memory

mark_row_of-has : (key : Bytes) (s : State) → HasRow key s → HasRow key (mark_row_of key s)
unfolding mark_row_of
mark_row_of-has key s has = by (row s key)
  where
    by : (o : Option Instance) → HasRow key (elim o as (λ x. State) [ None ↦ s | Some x ↦ mark_row x.id s ])
    by None = has
    by (Some x) = mark_row-has key x.id s has

entered-has : (head : Request) (key : Bytes) (known : Row) (s : State) → row_for s head key ≡ Some known → HasRow key (enter key false s)
unfolding enter
entered-has head key known s seen = by (row s key) refl seen
  where
    by_kept : (o : Option Entry) → (elim o as (λ x. Option Row) [ None ↦ None | Some e ↦ Some (of_entry head e) ]) ≡ Some known → HasRow key (elim o as (λ x. State) [ None ↦ s | Some e ↦ add_row key e.version e.fields e.times false (with_room s) ])
    by_kept None is = absurd (cc is)
    by_kept (Some e) is = add_row-has key e.version e.fields e.times false (with_room s)

    by : (o : Option Instance) → row s key ≡ o
        → (elim o as (λ x. Option Row) [ Some x ↦ Some (of_instance s head x) | None ↦ elim (row_on_disk s key) as (λ y. Option Row) [ None ↦ None | Some e ↦ Some (of_entry head e) ] ]) ≡ Some known
        → HasRow key (elim o as (λ x. State) [ Some x ↦ s | None ↦ elim (row_on_disk s key) as (λ y. State) [ None ↦ s | Some e ↦ add_row key e.version e.fields e.times false (with_room s) ] ])
    by None found is none = by_kept (row_on_disk s key) is none
    by (Some x) found is none = let both : Some x ≡ None = sym found ∙ none in cc both

pub enters : (c : Client) (d : Decision) (head : Request) (key : Key) (known : Row) (s : State) → is_for_memory d ≡ false → key_in c.front ≡ Some key → row_for s head (text_of key) ≡ Some known → HasRow (text_of key) (enter_row c d s)
unfolding enter_row
enters c d head key known s isnt_on names seen =
    subst (λ t. HasRow (text_of key) (elim t as (λ x. State) [
      | true ↦ s
      | false ↦ elim (key_in c.front) as (λ y. State) [ None ↦ s | Some k ↦ mark_row_of (text_of k) (enter (text_of k) false s) ]
    ])) (sym isnt_on)
    (subst (λ o. HasRow (text_of key) (elim o as (λ y. State) [ None ↦ s | Some k ↦ mark_row_of (text_of k) (enter (text_of k) false s) ])) (sym names)
    (mark_row_of-has (text_of key) (enter (text_of key) false s) (entered-has head (text_of key) known s seen)))

-- ---- what asks an origin

abbrev pub is_ask : Decision → Bool
is_ask Validate = true
is_ask Fetch = true
is_ask Pass = true
is_ask d = false

-- it begins an exchange
pub record Asks (c : Client) (d : Decision) (s : State) : Type 0 where
  pub request : Parsed
  pub front : c.front ≡ IsRequest request
  pub key : Key
  pub names : request.key ≡ Ok key
  pub kind : AskKind
  pub is : kind_of request.head (row_for s request.head (text_of key)) d ≡ Some kind

some_row : (head : Request) (key : Bytes) (s : State) → HasRow key s → (known : Row) × (row_for s head key ≡ Some known)
some_row head key s has = by (row s key) refl
  where
    by : (o : Option Instance) → row s key ≡ o
        → (known : Row) × ((elim o as (λ x. Option Row) [ Some x ↦ Some (of_instance s head x) | None ↦ elim (row_on_disk s key) as (λ y. Option Row) [ None ↦ None | Some e ↦ Some (of_entry head e) ] ]) ≡ Some known)
    by None found = absurd (has found)
    by (Some x) found = (of_instance s head x, refl)

pub key_of_front : (f : Front) (r : Parsed) (key : Key) → f ≡ IsRequest r → r.key ≡ Ok key → key_in f ≡ Some key
key_of_front f r key asks names = ap key_in asks ∙ ap (λ (k : Result Key TargetFault). elim k as (λ x. Option Key) [ Ok found ↦ Some found | Err fault ↦ None ]) names

-- a check finds its row in memory
checks : (c : Client) (s : State) → KeyFor s c Validate → Asks c Validate (enter_row c Validate s)
checks c s k =
    let head = k.request.head in
    let seen = row_for s head (text_of k.key) in
    let e = decision head seen (begun_now s c (text_of k.key)) s.clock in
    let known = check_row head seen (begun_now s c (text_of k.key)) s.clock (fitting s head k.key (kind_of head seen e) e Validate refl k.made) in
    let now = some_row head (text_of k.key) (enter_row c Validate s) (enters c Validate head k.key known.0 s refl (key_of_front c.front k.request k.key k.asks k.names) known.1) in
    record { request = k.request; front = k.asks; key = k.key; names = k.names; kind = AsCheck (lent now.0.version.tag); is = ap (λ o. kind_of head o Validate) now.1 }

pub asks : (c : Client) (d : Decision) (s : State) → is_ask d ≡ true → KeyFor s c d → Asks c d (enter_row c d s)
asks c Validate s is k = checks c s k
asks c Fetch s is k = record { request = k.request; front = k.asks; key = k.key; names = k.names; kind = fetch_kind k.request.head; is = refl }
asks c Pass s is k = record { request = k.request; front = k.asks; key = k.key; names = k.names; kind = AsPassed; is = refl }
asks c (Refuse status) s is k = absurd (cc is)
asks c (Hit from to) s is k = absurd (cc is)
asks c (Part from to) s is k = absurd (cc is)
asks c Head s is k = absurd (cc is)
asks c NotModified s is k = absurd (cc is)
asks c Unsatisfiable s is k = absurd (cc is)
asks c Relay s is k = absurd (cc is)
