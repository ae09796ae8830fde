-- The laws: there are few rows, few exchanges whose bodies belong to one, and few pins.
use Rattle.std.proofs.Common.{◌≡◌, refl, ℕ, ◌+◌, ◌/◌, ◌≤◌, nat_lt, Bool, true, false, ◌||◌, List, ◌++◌, filter, filter_map, length, is_some, Option, Some, None, subst, le_trans, length-append, arith}
use Rattle.std.proofs.lemmas.List.Sums.{length-filter as counts-as}
use Rattle.pp_world.specs.Log.{Log}
use Rattle.pp_law.proofs.Prefixes.{front_from}
use Rattle.pp_law.specs.Lawful.{Lawful}
use Rattle.pp_law.specs.Stages.{bound_of}
use Rattle.pp_law.specs.State.{State, Term, Bound, Client, Exchange, start}
use Rattle.pp_law.specs.Table.{pin_of_client, pin_of_exchange}
use Rattle.pp_laws.specs.Runs.{state_after}
use Rattle.pp_laws.proofs.Laws.{start-sound}
use Rattle.pp_laws_bounds.specs.Bounds.{Always, HasFewBodies, HasFewPins, HasFewRows, belongs_to_row}
use Rattle.pp_laws_bounds.proofs.Counts.{length-filter}
use Rattle.pp_laws_bounds.proofs.Happenings.{from_now}
use Rattle.pp_laws_bounds.proofs.Laws.{start-kept}
use Rattle.pp_laws_bounds.proofs.Pigeons.{count-more, length-made}
use Rattle.pp_laws_bounds.proofs.Small.{FactsOf, counts_as_bound, facts_of, is_row}
use Rattle.pp_laws_bounds.proofs.SmallDisk.{start-small}
use Rattle.pp_laws_bounds.proofs.SmallHappenings.{IsSmall, after_all-small}
use Rattle.pp_laws_bounds.proofs.SmallPieces.{plain}

whole_small : (terms : List Term) (front rest : Log) → Lawful terms (front ++ rest) → IsSmall (state_after terms front)
whole_small terms front rest lawful = after_all-small (start terms) front (front_from (start terms) front rest lawful) (start-sound from_now terms refl) (start-kept terms) (false, start-small terms)

pub few_rows : Always HasFewRows
few_rows terms front rest lawful = subst (λ n. n ≤ 1024) (counts-as is_row (state_after terms front).instances) (facts_of (whole_small terms front rest lawful).1).few_rows

bodies_few : {b : Bool} (s : State) → FactsOf (plain b) s → length (filter belongs_to_row s.exchanges) ≤ 64
bodies_few s h = le_trans (count-more belongs_to_row (counts_as_bound None) s.exchanges (λ e i is. more (is_some (bound_of e)) is)) h.few_bound
  where
    more : (t : Bool) → t ≡ true → (t || false) ≡ true
    more true is = refl
    more false is = absurd (cc is)

pub few_bodies : Always HasFewBodies
few_bodies terms front rest lawful = bodies_few (state_after terms front) (facts_of (whole_small terms front rest lawful).1)

pinned_by : (e : Exchange) (pin : ℕ × ℕ) → pin_of_exchange e ≡ Some pin → belongs_to_row e ≡ true
pinned_by e pin is = by (bound_of e) refl is
  where
    by : (o : Option Bound) → bound_of e ≡ o → (elim o as (λ c. Option (ℕ × ℕ)) [ None ↦ None | Some b ↦ elim (nat_lt b.next b.to) as (λ c. Option (ℕ × ℕ)) [ true ↦ Some (b.instance, b.next / 4096) | false ↦ None ] ]) ≡ Some pin → is_some o ≡ true
    by None none at = absurd (cc at)
    by (Some b) some at = refl

pub few_pins : Always HasFewPins
few_pins terms front rest lawful =
    let s : State = state_after terms front in
    let h = facts_of (whole_small terms front rest lawful).1 in
    let e : length (filter_map (pin_of_client s) s.clients ++ filter_map pin_of_exchange s.exchanges) ≡ length (filter_map (pin_of_client s) s.clients) + length (filter_map pin_of_exchange s.exchanges) = length-append (filter_map (pin_of_client s) s.clients) (filter_map pin_of_exchange s.exchanges) in
    let clients : length (filter_map (pin_of_client s) s.clients) ≤ length (filter (λ (c : Client). true) s.clients) = length-made (pin_of_client s) (λ (c : Client). true) s.clients (λ c pin is. refl) in
    let all : length (filter (λ (c : Client). true) s.clients) ≤ length s.clients = length-filter (λ (c : Client). true) s.clients in
    let exchanges : length (filter_map pin_of_exchange s.exchanges) ≤ length (filter belongs_to_row s.exchanges) = length-made pin_of_exchange belongs_to_row s.exchanges pinned_by in
    let few : length s.clients ≤ 256 = h.few_clients in
    let bodies : length (filter belongs_to_row s.exchanges) ≤ 64 = bodies_few s h in
    omega arith
