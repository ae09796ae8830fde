-- Each client and each connection stands in the wants exactly where it is to.
use Rattle.std.proofs.Common.{◌≡◌, ◌⊎◌, refl, ℕ, Bool, true, false, ◌==◌, ◌||◌, List, [], ◌∷◌, ◌++◌, map, filter, inl, inr, sym, ap, ◌∙◌}
use Rattle.pp_law.specs.Lists.{has_number}
use Rattle.pp_law.specs.Offers.{has_to_say}
use Rattle.pp_law.specs.Phases.{ending}
use Rattle.pp_law.specs.State.{State, Client, Conn}
use Rattle.pp_laws.specs.Numbers.{AreRising}
use Rattle.pp_laws.specs.Runs.{IsIn}
use Rattle.pp_laws.proofs.Lists.{in_front, one_of}
use Rattle.pp_laws.proofs.Sound.{FactsOf, client_number, conn_number, facts_of}
use Rattle.pp_laws.proofs.Steps.{ending-sound}
use Rattle.pp_laws.proofs.Tests.{number_same, same_number}
use Rattle.pp_laws_bounds.proofs.Counts.{in_filter_of, in_map_of}
use Rattle.pp_obeys.proofs.Obeying.{obeys_good}
use Rattle.pp_laws_ends.specs.Ends.{AllStand, AreApart, EachStandsAsItIs, numbers_of, reads_client, reads_conn, writes_conn}
use Rattle.pp_laws_ends.proofs.Ahead.{since}
use Rattle.pp_laws_ends.proofs.Apart.{ends_apart}
use Rattle.pp_laws_ends.proofs.Wanted.{any_of, of_one}

in_back : (n : ℕ) (ns ms : List ℕ) → IsIn n ms → IsIn n (ns ++ ms)
in_back n [] ms i = i
in_back n (m ∷ ns) ms i = inr (in_back n ns ms i)

has_it : (n : ℕ) (ns : List ℕ) → IsIn n ns → has_number n ns ≡ true
has_it n ns i = any_of (λ m. m == n) n ns i (number_same n)

it_is_in : (n : ℕ) (ns : List ℕ) → has_number n ns ≡ true → IsIn n ns
it_is_in n [] is = absurd (cc is)
it_is_in n (m ∷ ns) is = by (m == n) refl is (it_is_in n ns)
  where
    by : (t : Bool) → (m == n) ≡ t → (t || has_number n ns) ≡ true → (has_number n ns ≡ true → IsIn n ns) → IsIn n (m ∷ ns)
    by true same at rest = inl (sym (same_number m n same))
    by false other at rest = inr (rest at)

-- a test that holds where the other does is the same
same_test : (a b : Bool) → (a ≡ true → b ≡ true) → (b ≡ true → a ≡ true) → a ≡ b
same_test true true on back = refl
same_test true false on back = let both : false ≡ true = on refl in absurd (cc both)
same_test false true on back = let both : false ≡ true = back refl in absurd (cc both)
same_test false false on back = refl

pub client_stands : (u : State) → AreApart u → AreRising (map client_number u.clients) → (p : Client → Bool) (q : Conn → Bool) (c : Client) → IsIn c u.clients → has_number c.number (numbers_of p q u) ≡ p c
client_stands u apart rise p q c i =
    same_test (has_number c.number (numbers_of p q u)) (p c) (λ is. by (of_one p q u c.number (it_is_in c.number (numbers_of p q u) is)))
    (λ is. has_it c.number (numbers_of p q u) (in_front c.number (map (λ (d : Client). d.number) (filter p u.clients)) (map (λ (k : Conn). k.number) (filter q u.conns)) (in_map_of (λ (d : Client). d.number) c (filter p u.clients) (in_filter_of p c u.clients i is))))
  where
    by : ((d : Client) × IsIn d u.clients × (p d ≡ true) × (c.number ≡ d.number)) ⊎ ((k : Conn) × IsIn k u.conns × (q k ≡ true) × (c.number ≡ k.number)) → p c ≡ true
    by (inl w) = ap p (one_of client_number u.clients c w.0 rise i w.1 w.3) ∙ w.2
    by (inr w) = absurd (apart c w.0 i w.1 w.3)

pub conn_stands : (u : State) → AreApart u → AreRising (map conn_number u.conns) → (p : Client → Bool) (q : Conn → Bool) (k : Conn) → IsIn k u.conns → has_number k.number (numbers_of p q u) ≡ q k
conn_stands u apart rise p q k i =
    same_test (has_number k.number (numbers_of p q u)) (q k) (λ is. by (of_one p q u k.number (it_is_in k.number (numbers_of p q u) is)))
    (λ is. has_it k.number (numbers_of p q u) (in_back k.number (map (λ (d : Client). d.number) (filter p u.clients)) (map (λ (j : Conn). j.number) (filter q u.conns)) (in_map_of (λ (j : Conn). j.number) k (filter q u.conns) (in_filter_of q k u.conns i is))))
  where
    by : ((d : Client) × IsIn d u.clients × (p d ≡ true) × (k.number ≡ d.number)) ⊎ ((j : Conn) × IsIn j u.conns × (q j ≡ true) × (k.number ≡ j.number)) → q k ≡ true
    by (inl w) = absurd (apart w.0 k w.1 i (sym w.3))
    by (inr w) = ap q (one_of conn_number u.conns k w.0 rise i w.1 w.3) ∙ w.2

pub stand_in : (u : State) → AreApart u → FactsOf since u → AllStand u
stand_in u apart f = record {
  clients = λ c i. (client_stands u apart f.callers.rise (reads_client u) (reads_conn u) c i, client_stands u apart f.callers.rise (has_to_say u) (writes_conn u) c i);
  conns = λ k i. (conn_stands u apart f.lines.rise (reads_client u) (reads_conn u) k i, conn_stands u apart f.lines.rise (has_to_say u) (writes_conn u) k i);
}

pub all_stand : EachStandsAsItIs
all_stand terms s log obeys = stand_in (ending s) (ends_apart terms s log obeys) (facts_of (ending-sound s (obeys_good obeys).sound))
