-- What a permitted wait tells of clients, exchanges and connections.
use Rattle.std.proofs.Common.{◌≡◌, ◌⊎◌, refl, ℕ, ◌-◌, ◌≤◌, Bool, true, false, not, ◌==◌, ◌&&◌, ◌||◌, List, [], ◌∷◌, ◌++◌, drop, length, is_some, find, bytes_eq, Option, Some, None, option_map, inl, inr, sym, ap, ◌∙◌, length-drop, arith}
use Rattle.std.specs.List.{list_any, list_all}
use Rattle.std.proofs.lemmas.Bool.Decides.{nat_tests}
use Rattle.pp_peers.specs.declared.placing.Placed.TheVariants.{On, Dial, CloseThenDial, Wait}
use Rattle.pp_peers.specs.declared.placing.Placed.{Placed}
use Rattle.pp_target.specs.Key.{Key, text_of}
use Rattle.pp_text.specs.Bytes.{is_empty}
use Rattle.pp_world.specs.Log.{Log}
use Rattle.pp_world.specs.declared.event.Wants.{Wants}
use Rattle.pp_world.specs.declared.happening.Happening.TheVariants.{Waits}
use Rattle.pp_law.specs.After.{after}
use Rattle.pp_law.specs.Asking.{body_heard, left_to_ask}
use Rattle.pp_law.specs.Connections.{exchange, front_of_line, is_for, is_outstanding, place_for}
use Rattle.pp_law.specs.Lawful.{LawfulFrom}
use Rattle.pp_law.specs.Lists.{Bytes, is_some_with}
use Rattle.pp_law.specs.Offers.{has_to_say}
use Rattle.pp_law.specs.Permits.{is_permitted, IsPermitted, permits, may_wait}
use Rattle.pp_law.specs.Phases.{ending}
use Rattle.pp_law.specs.Requests.{has_request, key_in}
use Rattle.pp_law.specs.Served.{duties, has_full_pipe, has_to_ask, is_client_served, is_conn_served, is_exchange_served, is_furthest, is_held_back, is_nowhere, is_served, is_stopped, is_waiting, reads_first, reads_rightly, same, waits_for_body, wants_no_more, wants_read, wants_write}
use Rattle.pp_law.specs.Sharing.{has_shared_ask, is_awaited, is_patient, is_shared, is_sharing, shared_ask}
use Rattle.pp_law.specs.Stages.{is_headed, is_own, is_undecided}
use Rattle.pp_law.specs.State.{State, Aim, Through, Own, Filling, Shared, Client, Conn, Exchange, Stage, Undecided, Waiting, Passing, Answering}
use Rattle.pp_law.specs.Table.{Next, brings, next_of}
use Rattle.pp_law.specs.Turn.{waits_for, waits_for_exchange}
use Rattle.pp_laws.specs.Runs.{after_all, IsIn}
use Rattle.pp_laws.proofs.Lists.{in_find}
use Rattle.pp_laws.proofs.Tests.{first_holds, same_number, second_holds}
use Rattle.pp_laws_waits.specs.Waits.{GoesOn, IsAskedForBoth, IsHeldBack, IsPlaced, IsServed, WaitsFor, dialled, held_back, in_line, its_next, its_own, may_ask, nowhere, read, shared, waits, written, written_to}

pub all_in : {A : Type 0} (p : A → Bool) (x : A) (xs : List A) → list_all p xs ≡ true → IsIn x xs → p x ≡ true
all_in p x [] all i = absurd i
all_in p x (y ∷ ys) all (inl e) = ap p e ∙ first_holds (p y) (list_all p ys) all
all_in p x (y ∷ ys) all (inr i) = all_in p x ys (second_holds (p y) (list_all p ys) all) i

-- ---- what was permitted

pub behind_front : (s : State) (front rest : Log) → LawfulFrom s (front ++ rest) → LawfulFrom (after_all s front) rest
behind_front s [] rest lawful = lawful
behind_front s (h ∷ front) rest lawful = behind_front (after s h) front rest lawful.1

pub unhampered : (made : Option ℕ) (t : Bool) → (elim made as (λ c. Bool) [ Some who ↦ false | None ↦ t ]) ≡ true → t ≡ true
unhampered (Some who) t is = absurd (cc is)
unhampered None t is = is

chosen : (t u : Bool) → (elim t as (λ c. Bool) [ true ↦ u | false ↦ false ]) ≡ true → (t ≡ true) × (u ≡ true)
chosen true u is = (refl, is)
chosen false u is = absurd (cc is)

-- a wait is served
pub served_so : (s : State) (w : Wants) → IsPermitted s (Waits w) → (may_wait s ≡ true) × (is_served (ending s) w ≡ true)
unfolding is_permitted permits
served_so s w is = chosen (may_wait s) (is_served (ending s) w) (unhampered s.has_made_room _ is)

pub record Parts (s : State) (w : Wants) : Type 0 where
  pub clients : list_all (is_client_served s w) s.clients ≡ true
  pub conns : list_all (is_conn_served s w) s.conns ≡ true
  pub exchanges : list_all (is_exchange_served s w) s.exchanges ≡ true

pub parts_of : (s : State) (w : Wants) → is_served s w ≡ true → Parts s w
parts_of s w is =
    record {
      clients = all_in (λ is_met. is_met) _ (duties s w) is (inr (inl refl));
      conns = all_in (λ is_met. is_met) _ (duties s w) is (inr (inr (inl refl)));
      exchanges = all_in (λ is_met. is_met) _ (duties s w) is (inr (inr (inr (inl refl))));
    }

-- ---- lists

pub either : (a b : Bool) → (a || b) ≡ true → (a ≡ true) ⊎ (b ≡ true)
either true b is = inl refl
either false b is = inr is

pub any_in : {A : Type 0} (p : A → Bool) (xs : List A) → list_any p xs ≡ true → (x : A) × IsIn x xs × (p x ≡ true)
any_in p [] is = absurd (cc is)
any_in {A} p (y ∷ ys) is = by (either (p y) (list_any p ys) is) (any_in p ys)
  where
    by : (p y ≡ true) ⊎ (list_any p ys ≡ true) → (list_any p ys ≡ true → (x : A) × IsIn x ys × (p x ≡ true)) → (x : A) × IsIn x (y ∷ ys) × (p x ≡ true)
    by (inl hit) more = (y, inl refl, hit)
    by (inr rest) more = let r = more rest in (r.0, inr r.1, r.2)

not_true : (t : Bool) → not t ≡ true → t ≡ false
not_true true is = absurd (cc is)
not_true false is = refl

-- ---- whom a client waits for

own_or_next : (s : State) (c : Client) (e : Exchange) → waits_for s c e ≡ true → WaitsFor s c e
own_or_next s c e is = by (next_of s c) refl is
  where
    by : (o : Option Next) → next_of s c ≡ o → (elim o as (λ x. Bool) [ Some n ↦ brings s n.source n.at e | None ↦ is_for e c ]) ≡ true → WaitsFor s c e
    by None none at = its_own at
    by (Some n) some at = its_next (record { next = n; follows = some; comes = at })

first_of_three : (a b c : Bool) → (not a && b && c) ≡ true → a ≡ false
first_of_three true b c is = absurd (cc is)
first_of_three false b c is = refl

not_headed : (key : Bytes) (e : Exchange) → is_shared key e ≡ true → is_headed e ≡ false
not_headed key e is = first_of_three (is_headed e) (not e.is_ranged) (bytes_eq (text_of e.key) key) (chosen (is_own e) _ is).1

-- it is there, and another asked for both by it
pub IsSharedThere : State → Client → Type 0
IsSharedThere s c = (e : Exchange) × IsIn e s.exchanges × IsAskedForBoth c e

shared_by_key : (s : State) (c : Client) (o : Option Key) → key_in c.front ≡ o → is_some (elim o as (λ x. Option ℕ) [ None ↦ None | Some key ↦ option_map (λ (e : Exchange). e.number) (find (is_shared (text_of key)) s.exchanges) ]) ≡ true → IsSharedThere s c
unfolding IsSharedThere
shared_by_key s c None none is = absurd (cc is)
shared_by_key s c (Some key) some is = by (find (is_shared (text_of key)) s.exchanges) refl is
  where
    by : (o : Option Exchange) → find (is_shared (text_of key)) s.exchanges ≡ o → is_some (option_map (λ (e : Exchange). e.number) o) ≡ true
        → (e : Exchange) × IsIn e s.exchanges × IsAskedForBoth c e
    by None found at = absurd (cc at)
    by (Some e) found at = let w = in_find (is_shared (text_of key)) e s.exchanges found in (e, w.0, (not_headed (text_of key) e w.1, inr (key, some, w.1)))

shared_awaited : (s : State) (c : Client) (w : Shared) → c.waits_on ≡ Some w → is_awaited s w.exchange ≡ true → IsSharedThere s c
unfolding IsSharedThere
shared_awaited s c w waits_on is =
    let r = any_in (λ e. (e.number == w.exchange) && not (is_headed e)) s.exchanges is in
    (r.0, r.1, (not_true (is_headed r.0) (second_holds (r.0.number == w.exchange) (not (is_headed r.0)) r.2), inl (w, waits_on, same_number r.0.number w.exchange (first_holds (r.0.number == w.exchange) (not (is_headed r.0)) r.2))))

shared_there : (s : State) (c : Client) → is_sharing s c ≡ true → IsSharedThere s c
shared_there s c is = by c.waits_on refl (second_holds (has_request c.front) (has_shared_ask s c) (chosen (is_undecided c.stage) _ is).1)
  where
    by : (o : Option Shared) → c.waits_on ≡ o → (elim o as (λ x. Bool) [ Some w ↦ is_patient s w | None ↦ is_some (shared_ask s c) ]) ≡ true → IsSharedThere s c
    by None none at = shared_by_key s c (key_in c.front) refl at
    by (Some w) some at = shared_awaited s c w some (first_holds (is_awaited s w.exchange) _ at)

for_exchange : (s : State) (w : Wants) (c : Client) → waits_for_exchange s c ≡ true → IsServed s w c
unfolding IsSharedThere
for_exchange s w c is = by (either (list_any (waits_for s c) s.exchanges) (is_sharing s c) is)
  where
    by : (list_any (waits_for s c) s.exchanges ≡ true) ⊎ (is_sharing s c ≡ true) → IsServed s w c
    by (inl some) = let r = any_in (waits_for s c) s.exchanges some in waits r.0 r.1 (own_or_next s c r.0 r.2)
    by (inr sharing) = let r = shared_there s c sharing in waits r.0 r.1 (shared r.2)

pub client_served : (s : State) (w : Wants) (c : Client) → is_client_served s w c ≡ true → IsServed s w c
client_served s w c is = by (has_to_say s c) is
  where
    waiting : (not (has_request c.front) && wants_read w c.number ≡ true) ⊎ (waits_for_exchange s c ≡ true) → IsServed s w c
    waiting (inl reads) = may_ask (not_true (has_request c.front) (first_holds (not (has_request c.front)) (wants_read w c.number) reads)) (second_holds (not (has_request c.front)) (wants_read w c.number) reads)
    waiting (inr for_one) = for_exchange s w c for_one

    by : (t : Bool) → (elim t as (λ x. Bool) [ true ↦ wants_write w c.number | false ↦ not (wants_write w c.number) && is_waiting s w c ]) ≡ true → IsServed s w c
    by true at = written_to at
    by false at = waiting (either (not (has_request c.front) && wants_read w c.number) (waits_for_exchange s c) (second_holds (not (wants_write w c.number)) (is_waiting s w c) at))

-- ---- exchanges

nowhere_by : (s : State) (e : Exchange) (p : Placed) → place_for s e ≡ p → is_nowhere p ≡ true → IsPlaced s e
nowhere_by s e Wait is at = nowhere is
nowhere_by s e (On k) is at = absurd (cc at)
nowhere_by s e Dial is at = absurd (cc at)
nowhere_by s e (CloseThenDial k) is at = absurd (cc at)

-- where those that have a place stand in the line of it
pub exchange_served : (s : State) (w : Wants) (e : Exchange) → ((n : ℕ) → e.place ≡ Some n → (k : Conn) × IsIn k s.conns × (k.number ≡ n) × IsIn e.number k.line) → is_exchange_served s w e ≡ true → IsPlaced s e
exchange_served s w e stands is = by e.place refl is
  where
    by : (o : Option ℕ) → e.place ≡ o → (elim o as (λ x. Bool) [ None ↦ is_nowhere (place_for s e) | Some k ↦ not (waits_for_body s e) || is_some_with (wants_read w) e.asker ]) ≡ true → IsPlaced s e
    by None none at = nowhere_by s e (place_for s e) refl at
    by (Some n) some at = let r = stands n some in in_line r.0 r.1 r.3

-- ---- connections

longer_than : (bytes : Bytes) → ¬ (length bytes ≡ 0) → is_empty bytes ≡ false
longer_than [] some = absurd (some refl)
longer_than (b ∷ bytes) some = refl

-- of an ask that is not whole something is left
left_over : (s : State) (e : Exchange) → is_outstanding e ≡ false → e.asked ≤ length e.text → is_empty (left_to_ask s e) ≡ false
left_over s e isnt le =
    ap (λ t. is_empty (elim t as (λ x. Bytes) [ false ↦ drop e.asked e.text | true ↦ body_heard s e ])) isnt ∙ longer_than (drop e.asked e.text) some
  where
    some : ¬ (length (drop e.asked e.text) ≡ 0)
    some none =
        let long : length (drop e.asked e.text) ≡ length e.text - e.asked = length-drop e.asked e.text in
        let eq : e.asked ≡ length e.text = omega arith in
        let whole : (e.asked == length e.text) ≡ true = grind (arith, nat_tests) in
        let both : true ≡ false = sym whole ∙ isnt in cc both

-- the first of the line has some left
asks_first : (s : State) (line : List ℕ) (e : Exchange) → (elim line as (λ x. Option Exchange) [ [] ↦ None | n ∷ ns ↦ exchange s n ]) ≡ Some e → is_empty (left_to_ask s e) ≡ false
    → list_any (λ n. is_some_with (λ d. not (is_empty (left_to_ask s d))) (exchange s n)) line ≡ true
asks_first s [] e first some = absurd (cc first)
asks_first s (n ∷ line) e first some = ap (λ t. t || list_any (λ m. is_some_with (λ d. not (is_empty (left_to_ask s d))) (exchange s m)) line) hit
  where
    hit : is_some_with (λ d. not (is_empty (left_to_ask s d))) (exchange s n) ≡ true
    hit = ap (λ o. is_some_with (λ d. not (is_empty (left_to_ask s d))) o) first ∙ ap not some

held_by_client : (s : State) (w : Wants) (e : Exchange) → is_held_back s w e ≡ true → IsHeldBack s w e
held_by_client s w e is =
    let r = any_in (λ (c : Client). wants_write w c.number && (has_full_pipe e c || is_furthest s e c)) s.clients is in
    record {
      client = r.0;
      there = r.1;
      is_written = first_holds (wants_write w r.0.number) (has_full_pipe e r.0 || is_furthest s e r.0) r.2;
      holds = either (has_full_pipe e r.0) (is_furthest s e r.0) (second_holds (wants_write w r.0.number) (has_full_pipe e r.0 || is_furthest s e r.0) r.2);
    }

same_so : (a b : Bool) → same a b ≡ true → a ≡ true → b ≡ true
same_so true b is at = is
same_so false b is at = absurd (cc at)

pub conn_served : (s : State) (w : Wants) (k : Conn) → ((e : Exchange) → front_of_line s k ≡ Some e → e.asked ≤ length e.text) → is_conn_served s w k ≡ true → GoesOn s w k
conn_served s w k well is = by k.is_reached refl is
  where
    reading : (e : Exchange) → front_of_line s k ≡ Some e → (t : Bool) → (elim t as (λ x. Bool) [ true ↦ not (wants_read w k.number) && is_held_back s w e | false ↦ wants_read w k.number ]) ≡ true → GoesOn s w k
    reading e first true at = held_back e first (held_by_client s w e (second_holds (not (wants_read w k.number)) (is_held_back s w e) at))
    reading e first false at = read at

    asking : (e : Exchange) → front_of_line s k ≡ Some e → same (has_to_ask s k) (wants_write w k.number) ≡ true → (not (is_outstanding e) ≡ true) ⊎ (reads_first s w k e ≡ true) → GoesOn s w k
    asking e first writes (inl isnt) = written (same_so (has_to_ask s k) (wants_write w k.number) writes (asks_first s k.line e first (left_over s e (not_true (is_outstanding e) isnt) (well e first))))
    asking e first writes (inr reads) = reading e first (is_stopped s e) reads

    rightly : same (has_to_ask s k) (wants_write w k.number) ≡ true → (o : Option Exchange) → front_of_line s k ≡ o → (elim o as (λ x. Bool) [ None ↦ wants_read w k.number | Some e ↦ not (is_outstanding e) || reads_first s w k e ]) ≡ true → GoesOn s w k
    rightly writes None none at = read at
    rightly writes (Some e) first at = asking e first writes (either (not (is_outstanding e)) (reads_first s w k e) at)

    by : (t : Bool) → k.is_reached ≡ t → (not t || (same (has_to_ask s k) (wants_write w k.number) && reads_rightly s w k)) ≡ true → GoesOn s w k
    by true reached at = rightly (first_holds (same (has_to_ask s k) (wants_write w k.number)) (reads_rightly s w k) at) (front_of_line s k) refl (second_holds (same (has_to_ask s k) (wants_write w k.number)) (reads_rightly s w k) at)
    by false isnt at = dialled isnt
