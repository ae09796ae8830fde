-- A number that was wanted, and is no client's, is that of a connection that was reached; and it is there behind the wait.
use Rattle.std.proofs.Common.{◌≡◌, refl, sym, subst, ap, ◌∙◌, ℕ, suc, Bool, true, false, ◌==◌, ◌&&◌, ◌||◌, is_some, if◌then◌else◌, List, [], ◌∷◌, Option, Some, None, option_map, inl, inr, IsTrue}
use Rattle.std.specs.List.{list_all, list_any}
use Rattle.pp_comes_law.proofs.OriginThere.{is_there}
use Rattle.pp_comes_law.specs.Awaited.{IsAwaited}
use Rattle.pp_comes_law.specs.Origins.{IsOfOrigin}
use Rattle.pp_law.specs.Connections.{conn, is_client, is_conn}
use Rattle.pp_law.specs.Lists.{Bytes}
use Rattle.pp_law.specs.State.{State, Client, Conn, Term}
use Rattle.pp_law.specs.Turn.{rest_with, rested_client, rested_conn}
use Rattle.pp_laws.proofs.Lists.{in_find, one_of}
use Rattle.pp_laws.proofs.Sound.{conn_number}
use Rattle.pp_laws.proofs.Tests.{first_holds, number_same, same_number, second_holds}
use Rattle.pp_laws.specs.Runs.{IsIn}
use Rattle.pp_laws_bounds.proofs.Counts.{in_map_of}
use Rattle.pp_laws_served.proofs.Fill.{in_any}
use Rattle.pp_laws_sides.proofs.Linked.{numbers_rise}
use Rattle.pp_laws_sides.proofs.Numbers.{in_has, there_is}
use Rattle.pp_proxy.specs.Moving.{Turning}
use Rattle.pp_seats.specs.declared.seat.Seat.{Seat}
use Rattle.pp_seats_law.specs.Clients.{AreShown}
use Rattle.pp_state.specs.Ends.{numbers_of, place_of}
use Rattle.pp_world.specs.Log.{Log}
use Rattle.pp_world.specs.Wire.{has_number}
use Rattle.pp_world.specs.declared.event.Wants.{Wants}

-- ---- of lists

pub is_on : (b : Bool) → IsTrue b → b ≡ true
is_on true is = refl
is_on false is = absurd (cc is)

all_in : (p : ℕ → Bool) (n : ℕ) (ns : List ℕ) → list_all p ns ≡ true → IsIn n ns → p n ≡ true
all_in p n [] all i = absurd i
all_in p n (m ∷ ns) all (inl e) = ap p e ∙ first_holds (p m) (list_all p ns) all
all_in p n (m ∷ ns) all (inr i) = all_in p n ns (second_holds (p m) (list_all p ns) all) i

-- what is wanted may be
pub may_be : (p : ℕ → Bool) (k : ℕ) (ns : List ℕ) → list_all p ns ≡ true → IsTrue (has_number k ns) → p k ≡ true
may_be p k ns all wanted = let one = in_any (λ n. n == k) ns (is_on (has_number k ns) wanted) in subst (λ n. p n ≡ true) (same_number one.0 k one.2) (all_in p one.0 ns all one.1)

pub first_of_three : (a b c : Bool) → (a && b && c) ≡ true → a ≡ true
first_of_three a b c is = first_holds a b (first_holds (a && b) c is)

-- nobody has the number that has no place
some_first : (b : Bool) (o : Option ℕ) → b ≡ true → (if b then Some 0 else o) ≡ None → ⊥
some_first true o is none = cc none
some_first false o is none = cc is

none_behind : (b : Bool) (o : Option ℕ) → (if b then Some 0 else option_map suc o) ≡ None → o ≡ None
none_behind true o none = absurd (cc none)
none_behind false None none = refl
none_behind false (Some n) none = absurd (cc none)

not_placed : (number : ℕ → ℕ) (name : Bytes) (owed : List Bytes) (seats : List Seat) (cs : List Client) (k : ℕ) (c : Client) → AreShown number name owed seats cs → place_of k (numbers_of seats) ≡ None → IsIn c cs → c.number ≡ k → ⊥
not_placed number name owed [] [] k c shows off i is = i
not_placed number name owed [] (d ∷ cs) k c shows off i is = absurd shows
not_placed number name owed (seat ∷ seats) [] k c shows off i is = i
not_placed number name owed (seat ∷ seats) (d ∷ cs) k c shows off (inl e) is = some_first (seat.client.id == k) _ (ap (λ n. n == k) (shows.0.number ∙ ap (λ (b : Client). b.number) (sym e) ∙ is) ∙ number_same k) off
not_placed number name owed (seat ∷ seats) (d ∷ cs) k c shows off (inr i) is = not_placed number name owed seats cs k c shows.1 (none_behind (seat.client.id == k) (place_of k (numbers_of seats)) off) i is

-- ---- behind the wait

rested_there : (w : Wants) (u : State) (c : Client) → IsIn c u.clients → IsIn (rested_client u c) (rest_with w u).clients
unfolding rest_with
rested_there w u c i = in_map_of (rested_client u) c u.clients i

conn_there : (w : Wants) (u : State) (j : Conn) → IsIn j u.conns → IsIn (rested_conn u w j) (rest_with w u).conns
unfolding rest_with
conn_there w u j i = in_map_of (rested_conn u w) j u.conns i

-- a connection of that number, before the wait and behind it
pub record IsWanted (w : Wants) (u : State) (k : ℕ) (test : Conn → Bool) : Type 0 where
  pub was : Conn
  pub before : IsIn was u.conns
  pub holds : test was ≡ true
  pub here : IsIn (rested_conn u w was) (rest_with w u).conns
  pub there : conn (rest_with w u) k ≡ Some (rested_conn u w was)

module _ (terms : List Term) (log : Log) (number : ℕ → ℕ) (w : Wants) (x : Turning) (u : State) (it : IsAwaited terms log number w x u) where
  -- whoever has the number is the one that is found
  found_of : (j : Conn) (k : ℕ) → IsIn j (rest_with w u).conns → j.number ≡ k → conn (rest_with w u) k ≡ Some j
  found_of j k i is =
      let has : is_some (conn (rest_with w u) k) ≡ true = there_is conn_number k (rest_with w u).conns ∙ in_has conn_number k (rest_with w u).conns j i is in
      let one = is_there (conn (rest_with w u) k) has in
      let within = in_find (is_conn k) one.0 (rest_with w u).conns one.1 in
      one.1 ∙ ap (λ (c : Conn). Some c) (one_of conn_number (rest_with w u).conns one.0 j (numbers_rise terms (rest_with w u) log it.obeys).conns_rise within.0 i (same_number one.0.number k within.1 ∙ sym is))

  no_client : (k : ℕ) → IsOfOrigin k x → (c : Client) → IsIn c u.clients → c.number ≡ k → ⊥
  no_client k off c i is =
      not_placed number x.moving.desk.state.name.items [] x.moving.desk.state.seats.items (rest_with w u).clients k (rested_client u c) it.stands.desk.turn.steps.shows.clients off (rested_there w u c i) is

  pub wanted_one : (k : ℕ) (of_client : Client → Bool) (test : Conn → Bool) → IsOfOrigin k x → ((c : Client) → of_client c ≡ true → is_client k c ≡ true) → ((j : Conn) → test j ≡ true → is_conn k j ≡ true) → (list_any of_client u.clients || list_any test u.conns) ≡ true → IsWanted w u k test
  wanted_one k of_client test off its_client its_conn may = by (list_any of_client u.clients) refl
    where
      of_conn : list_any test u.conns ≡ true → IsWanted w u k test
      of_conn is =
          let one = in_any test u.conns is in
          let here = conn_there w u one.0 one.1 in
          record { was = one.0; before = one.1; holds = one.2; here = here; there = found_of (rested_conn u w one.0) k here (same_number one.0.number k (its_conn one.0 one.2)) }

      by : (b : Bool) → list_any of_client u.clients ≡ b → IsWanted w u k test
      by true is = let one = in_any of_client u.clients is in absurd (no_client k off one.0 one.1 (same_number one.0.number k (its_client one.0 one.2)))
      by false is = of_conn (sym (ap (λ (b : Bool). b || list_any test u.conns) is) ∙ may)
