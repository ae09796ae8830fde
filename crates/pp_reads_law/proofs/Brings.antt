-- What the law makes where a kept row comes in: another leaves for it, and all else stays.
use Rattle.std.proofs.Common.{◌≡◌, ◌≤◌, refl, sym, subst, ap, ◌∙◌, ℕ, ◌+◌, Bool, true, false, not, ◌&&◌, cond, find, filter, List, [], ◌∷◌, ◌++◌, Option, Some, None, arith}
use Rattle.std.proofs.lemmas.Bool.Decides.{nat_tests}
use Rattle.std.specs.Prelude.{count_by, nat_lt}
use Rattle.pp_cache_law.proofs.Finds.{find_passes}
use Rattle.pp_cache_law.proofs.Numbers.{same_test, some_is}
use Rattle.pp_cache_law.proofs.PairLemmas.{count_first, count_joined, count_kept}
use Rattle.pp_head.specs.Response.{Response}
use Rattle.pp_law.specs.Connections.{on_conn}
use Rattle.pp_law.specs.Lists.{Bytes}
use Rattle.pp_law.specs.OwnHeads.{key_of}
use Rattle.pp_law.specs.Responses.{bring_row, is_readable}
use Rattle.pp_law.specs.State.{State, Conn, Entry, Exchange, Instance as Known}
use Rattle.pp_law.specs.Table.{add_row, enter, forget, forget_row, idle_row, is_idle_row, is_instance, row, row_on_disk, rows, with_room}

pub record IsBeside (s t : State) : Type 0 where
  pub clients : t.clients ≡ s.clients
  pub conns : t.conns ≡ s.conns
  pub exchanges : t.exchanges ≡ s.exchanges
  pub next_exchange : t.next_exchange ≡ s.next_exchange
  pub settings : t.settings ≡ s.settings
  pub clock : t.clock ≡ s.clock
  pub ticked : t.is_ticked ≡ s.is_ticked
  pub stopped : t.is_stopped ≡ s.is_stopped
  pub entries : t.entries ≡ s.entries
  pub displaced : t.displaced ≡ s.displaced

abbrev pub added : Bytes → Entry → State → State
added key e s = add_row key e.version e.fields e.times true s

-- ---- it is there already, or is not kept

pub stays_with : (s : State) (key : Bytes) (x : Known) → row s key ≡ Some x → enter key true s ≡ s
unfolding enter
stays_with s key x is = ap (λ (o : Option Known). elim o as (λ t. State) [ Some x ↦ s | None ↦ elim (row_on_disk s key) as (λ t. State) [ None ↦ s | Some e ↦ added key e (with_room s) ] ]) is

pub stays_without : (s : State) (key : Bytes) → row s key ≡ None → row_on_disk s key ≡ None → enter key true s ≡ s
unfolding enter
stays_without s key none kept =
    ap (λ (o : Option Known). elim o as (λ t. State) [ Some x ↦ s | None ↦ elim (row_on_disk s key) as (λ t. State) [ None ↦ s | Some e ↦ added key e (with_room s) ] ]) none
    ∙ ap (λ (o : Option Entry). elim o as (λ t. State) [ None ↦ s | Some e ↦ added key e (with_room s) ]) kept

-- ---- it comes in

enters_as : (s : State) (key : Bytes) (e : Entry) → row s key ≡ None → row_on_disk s key ≡ Some e → enter key true s ≡ added key e (with_room s)
unfolding enter
enters_as s key e none kept =
    ap (λ (o : Option Known). elim o as (λ t. State) [ Some x ↦ s | None ↦ elim (row_on_disk s key) as (λ t. State) [ None ↦ s | Some f ↦ added key f (with_room s) ] ]) none
    ∙ ap (λ (o : Option Entry). elim o as (λ t. State) [ None ↦ s | Some f ↦ added key f (with_room s) ]) kept

abbrev room_by : State → Bool → Option Known → State
room_by s b o = elim b as (λ t. State) [ true ↦ s | false ↦ elim o as (λ t. State) [ None ↦ s | Some x ↦ forget_row x s ] ]

has_room : (s : State) → nat_lt (rows s) 1024 ≡ true → with_room s ≡ s
unfolding with_room
has_room s is = ap (λ (b : Bool). room_by s b (idle_row s)) is

makes_room : (s : State) (x : Known) → nat_lt (rows s) 1024 ≡ false → idle_row s ≡ Some x → with_room s ≡ forget_row x s
unfolding with_room
makes_room s x full idle = ap (λ (b : Bool). room_by s b (idle_row s)) full ∙ ap (λ (o : Option Known). room_by s false o) idle

-- ---- all but rows stays, in any case

beside_with_room : (s : State) → IsBeside s (with_room s)
unfolding with_room forget_row forget
beside_with_room s = by (nat_lt (rows s) 1024) (idle_row s)
  where
    by : (b : Bool) (o : Option Known) → IsBeside s (room_by s b o)
    by true o = record { clients = refl; conns = refl; exchanges = refl; next_exchange = refl; settings = refl; clock = refl; ticked = refl; stopped = refl; entries = refl; displaced = refl }
    by false None = record { clients = refl; conns = refl; exchanges = refl; next_exchange = refl; settings = refl; clock = refl; ticked = refl; stopped = refl; entries = refl; displaced = refl }
    by false (Some x) = record { clients = refl; conns = refl; exchanges = refl; next_exchange = refl; settings = refl; clock = refl; ticked = refl; stopped = refl; entries = refl; displaced = refl }

beside_added : (key : Bytes) (e : Entry) (s t : State) → IsBeside s t → IsBeside s (added key e t)
unfolding add_row
beside_added key e s t one = record {
  clients = one.clients;
  conns = one.conns;
  exchanges = one.exchanges;
  next_exchange = one.next_exchange;
  settings = one.settings;
  clock = one.clock;
  ticked = one.ticked;
  stopped = one.stopped;
  entries = one.entries;
  displaced = one.displaced;
}

itself : (s : State) → IsBeside s s
itself s = record { clients = refl; conns = refl; exchanges = refl; next_exchange = refl; settings = refl; clock = refl; ticked = refl; stopped = refl; entries = refl; displaced = refl }

beside_entered : (key : Bytes) (s : State) → IsBeside s (enter key true s)
unfolding enter
beside_entered key s = by (row s key) (row_on_disk s key)
  where
    by : (o : Option Known) (u : Option Entry) → IsBeside s (elim o as (λ t. State) [ Some x ↦ s | None ↦ elim u as (λ t. State) [ None ↦ s | Some e ↦ added key e (with_room s) ] ])
    by (Some x) u = itself s
    by None None = itself s
    by None (Some e) = beside_added key e s (with_room s) (beside_with_room s)

pub beside_brought : (e : Exchange) (head : Response) (s : State) → IsBeside s (bring_row e head s)
unfolding bring_row
beside_brought e head s = by (is_readable e head)
  where
    by : (b : Bool) → IsBeside s (elim b as (λ t. State) [ true ↦ enter (key_of e) true s | false ↦ s ])
    by true = beside_entered (key_of e) s
    by false = itself s

-- ---- a connection may be changed before or behind

abbrev entered_by : Bytes → State → Option Known → Option Entry → Bool → Option Known → State
entered_by key s o u b idle = elim o as (λ t. State) [ Some x ↦ s | None ↦ elim u as (λ t. State) [ None ↦ s | Some e ↦ added key e (room_by s b idle) ] ]

enters_beside : (n : ℕ) (f : Conn → Conn) (key : Bytes) (s : State) → enter key true (on_conn n f s) ≡ on_conn n f (enter key true s)
unfolding enter on_conn with_room add_row forget_row forget
enters_beside n f key s = by (row s key) (row_on_disk s key) (nat_lt (rows s) 1024) (idle_row s)
  where
    by : (o : Option Known) (u : Option Entry) (b : Bool) (idle : Option Known) → entered_by key (on_conn n f s) o u b idle ≡ on_conn n f (entered_by key s o u b idle)
    by (Some x) u b idle = refl
    by None None b idle = refl
    by None (Some e) true idle = refl
    by None (Some e) false None = refl
    by None (Some e) false (Some x) = refl

pub brings_beside : (n : ℕ) (f : Conn → Conn) (e : Exchange) (head : Response) (s : State) → bring_row e head (on_conn n f s) ≡ on_conn n f (bring_row e head s)
unfolding bring_row
brings_beside n f e head s = by (is_readable e head)
  where
    by : (b : Bool) → (elim b as (λ t. State) [ true ↦ enter (key_of e) true (on_conn n f s) | false ↦ on_conn n f s ]) ≡ on_conn n f (elim b as (λ t. State) [ true ↦ enter (key_of e) true s | false ↦ s ])
    by true = enters_beside n f (key_of e) s
    by false = refl

-- ---- how many rows there are then

fewer_found : {A : Type 0} (p q r : A → Bool) (xs : List A) (x : A) → find r xs ≡ Some x → p x ≡ true → q x ≡ true → count_by p (filter (λ y. not (q y)) xs) + 1 ≤ count_by p xs
fewer_found p q r [] x found its out = absurd (cc found)
fewer_found {A = A} p q r (y ∷ ys) x found its out = by (r y) refl found (λ later. fewer_found p q r ys x later its out)
  where
    at : (b : Bool) → q y ≡ b → count_by p (filter (λ z. not (q z)) ys) + 1 ≤ count_by p ys → count_by p (cond (not b) (y ∷ filter (λ z. not (q z)) ys) (filter (λ z. not (q z)) ys)) + 1 ≤ count_by p (y ∷ ys)
    at true is less = omega (arith, less, count_first p y ys)
    at false is less = omega (arith, less, count_first p y ys, count_first p y (filter (λ z. not (q z)) ys))

    here : y ≡ x → count_by p (cond (not (q y)) (y ∷ filter (λ z. not (q z)) ys) (filter (λ z. not (q z)) ys)) + 1 ≤ count_by p (y ∷ ys)
    here same =
        subst (λ (b : Bool). count_by p (cond (not b) (y ∷ filter (λ z. not (q z)) ys) (filter (λ z. not (q z)) ys)) + 1 ≤ count_by p (y ∷ ys)) (sym (ap (λ (z : A). q z) same ∙ out))
        (omega (arith, one, count_kept p (λ z. not (q z)) ys))
      where
        one : count_by p (y ∷ ys) ≡ 1 + count_by p ys
        one = count_first p y ys ∙ ap (λ (b : Bool). cond b 1 0 + count_by p ys) (ap (λ (z : A). p z) same ∙ its)

    by : (b : Bool) → r y ≡ b → cond b (Some y) (find r ys) ≡ Some x → (find r ys ≡ Some x → count_by p (filter (λ z. not (q z)) ys) + 1 ≤ count_by p ys) → count_by p (cond (not (q y)) (y ∷ filter (λ z. not (q z)) ys) (filter (λ z. not (q z)) ys)) + 1 ≤ count_by p (y ∷ ys)
    by true is same rest = here (some_is y x same)
    by false is later rest = at (q y) refl (rest later)

first_holds : (a b c : Bool) → (a && b && c) ≡ true → a ≡ true
first_holds true b c is = refl
first_holds false b c is = is

one_more : (s : State) (key : Bytes) (e : Entry) → rows (added key e s) ≡ rows s + 1
unfolding add_row
one_more s key e = count_joined (λ x. not x.is_retired) s.instances (new ∷ [])
  where
    new : Known
    new = record { id = s.next_instance; key = key; version = e.version; fields = e.fields; times = e.times; is_retired = false; is_new = true }

one_fewer : (s : State) (x : Known) → idle_row s ≡ Some x → rows (forget_row x s) + 1 ≤ rows s
unfolding forget_row forget
one_fewer s x idle = fewer_found (λ y. not y.is_retired) (is_instance x.id) (is_idle_row s) s.instances x idle (idle_is_row (find_passes (is_idle_row s) s.instances x idle)) (same_test x.id x.id refl)
  where
    idle_is_row : is_idle_row s x ≡ true → not x.is_retired ≡ true
    idle_is_row is = first_holds (not x.is_retired) _ _ is

few_then : (n : ℕ) → nat_lt n 1024 ≡ true → n + 1 ≤ 1024
few_then n few = grind (arith, nat_tests, few)

-- ---- all of it

pub record IsEntered (s t : State) (forgotten : List Bytes) : Type 0 where
  pub beside : IsBeside s t
  pub next : t.next_instance ≡ s.next_instance + 1
  pub few : rows t ≤ 1024
  pub noted : t.forgotten ≡ forgotten

pub enters_in : (s : State) (key : Bytes) (e : Entry) → row s key ≡ None → row_on_disk s key ≡ Some e → nat_lt (rows s) 1024 ≡ true → IsEntered s (enter key true s) s.forgotten
unfolding add_row
enters_in s key e none kept few =
    subst (λ (t : State). IsEntered s t s.forgotten) (sym (enters_as s key e none kept ∙ ap (λ (t : State). added key e t) (has_room s few))) (record {
      beside = record { clients = refl; conns = refl; exchanges = refl; next_exchange = refl; settings = refl; clock = refl; ticked = refl; stopped = refl; entries = refl; displaced = refl };
      next = refl;
      few = omega (arith, one_more s key e, few_then (rows s) few);
      noted = refl;
    })

pub enters_for : (s : State) (key : Bytes) (e : Entry) (x : Known) → row s key ≡ None → row_on_disk s key ≡ Some e → nat_lt (rows s) 1024 ≡ false → idle_row s ≡ Some x → rows s ≤ 1024 → IsEntered s (enter key true s) (s.forgotten ++ x.key ∷ [])
unfolding add_row forget_row forget
enters_for s key e x none kept full idle most =
    subst (λ (t : State). IsEntered s t (s.forgotten ++ x.key ∷ [])) (sym (enters_as s key e none kept ∙ ap (λ (t : State). added key e t) (makes_room s x full idle))) (record {
      beside = record { clients = refl; conns = refl; exchanges = refl; next_exchange = refl; settings = refl; clock = refl; ticked = refl; stopped = refl; entries = refl; displaced = refl };
      next = refl;
      few = omega (arith, one_more (forget_row x s) key e, one_fewer s x idle, most);
      noted = refl;
    })
