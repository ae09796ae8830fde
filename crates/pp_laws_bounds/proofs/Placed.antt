-- As many exchanges have a place as the lines of the connections are long, at most.
use Rattle.std.proofs.Common.{◌≡◌, ◌⊎◌, refl, ℕ, ◌*◌, ◌+◌, ◌≤◌, true, false, List, [], ◌∷◌, ◌++◌, map, filter, flat_map, length, is_some, Option, Some, None, inl, inr, subst, le_refl, length-append, arith}
use Rattle.pp_law.proofs.Prefixes.{front_from}
use Rattle.pp_law.specs.State.{State, Conn, Exchange, start}
use Rattle.pp_laws.specs.Runs.{state_after, IsIn}
use Rattle.pp_laws.proofs.Laws.{own_numbers}
use Rattle.pp_laws.proofs.Lists.{in_front}
use Rattle.pp_laws.proofs.Sound.{exchange_number}
use Rattle.pp_laws_bounds.specs.Bounds.{Always, HasFewPlaced, has_place}
use Rattle.pp_laws_bounds.proofs.Kept.{FactsOf, Stands, facts_of}
use Rattle.pp_laws_bounds.proofs.Laws.{whole_kept}
use Rattle.pp_laws_bounds.proofs.Pigeons.{pigeons, rise_differ}

in_back : (n : ℕ) (ns ms : List ℕ) → IsIn n ms → IsIn n (ns ++ ms)
in_back n [] ms i = i
in_back n (m ∷ ns) ms i = inr (in_back n ns ms i)

in_lines : (n : ℕ) (k : Conn) (ks : List Conn) → IsIn k ks → IsIn n k.line → IsIn n (flat_map (λ (j : Conn). j.line) ks)
in_lines n k [] i l = absurd i
in_lines n k (j ∷ ks) (inl e) l = in_front n j.line (flat_map (λ (x : Conn). x.line) ks) (subst (λ (x : Conn). IsIn n x.line) e l)
in_lines n k (j ∷ ks) (inr i) l = in_back n j.line (flat_map (λ (x : Conn). x.line) ks) (in_lines n k ks i l)

all_lines : (ks : List Conn) → ((k : Conn) → IsIn k ks → length k.line ≤ 8) → length (flat_map (λ (j : Conn). j.line) ks) ≤ 8 * length ks
all_lines [] short = le_refl 0
all_lines (k ∷ ks) short =
    let e : length (k.line ++ flat_map (λ (j : Conn). j.line) ks) ≡ length k.line + length (flat_map (λ (j : Conn). j.line) ks) = length-append k.line (flat_map (λ (j : Conn). j.line) ks) in
    let one : length k.line ≤ 8 = short k (inl refl) in
    let rest : length (flat_map (λ (j : Conn). j.line) ks) ≤ 8 * length ks = all_lines ks (λ j i. short j (inr i)) in
    omega arith

stands_in : (s : State) → FactsOf [] s → s.is_stopped ≡ false → (e : Exchange) → IsIn e s.exchanges → has_place e ≡ true → IsIn e.number (flat_map (λ (k : Conn). k.line) s.conns)
stands_in s h going e i is = by e.place refl is
  where
    at : (n : ℕ) → Stands e n s.conns ⊎ IsIn e.number [] → IsIn e.number (flat_map (λ (k : Conn). k.line) s.conns)
    at n (inl w) = in_lines e.number w.0 s.conns w.1 w.3
    at n (inr none) = absurd none

    by : (o : Option ℕ) → e.place ≡ o → is_some o ≡ true → IsIn e.number (flat_map (λ (k : Conn). k.line) s.conns)
    by None none some = absurd (cc some)
    by (Some n) placed some = at n (h.lined going e n i placed)

placed_few : (s : State) → FactsOf [] s → s.is_stopped ≡ false → length (filter has_place s.exchanges) ≤ length (flat_map (λ (k : Conn). k.line) s.conns) → length (filter has_place s.exchanges) ≤ 512
placed_few s h going le =
    let long : length (flat_map (λ (k : Conn). k.line) s.conns) ≤ 8 * length s.conns = all_lines s.conns h.lines.short in
    let few : length s.conns ≤ 64 = h.lines.few in
    omega arith

pub few_placed : Always HasFewPlaced
few_placed terms front rest lawful going =
    placed_few (state_after terms front) (facts_of (whole_kept terms front rest lawful)) going
    (pigeons exchange_number (λ (n : ℕ). Some n) has_place (state_after terms front).exchanges (flat_map (λ (k : Conn). k.line) (state_after terms front).conns)
    (rise_differ (map exchange_number (state_after terms front).exchanges) (own_numbers terms front (front_from (start terms) front rest lawful)).exchanges_rise)
    (λ e i is. (e.number, stands_in (state_after terms front) (facts_of (whole_kept terms front rest lawful)) going e i is, refl)))
