-- The table is swept behind each client that leaves as behind all of them.
use Rattle.std.proofs.Common.{◌≡◌, ◌≤◌, refl, sym, ap, ◌∙◌, ℕ, Bool, true, false, not, ◌==◌, ◌&&◌, ◌||◌, cond, List, [], ◌∷◌, filter, arith}
use Rattle.std.specs.Prelude.{count_by}
use Rattle.std.specs.List.{list_any}
use Rattle.std.proofs.lemmas.Bool.Decides.{nat_tests}
use Rattle.pp_law.specs.Lists.{without as law_without}
use Rattle.pp_law.specs.State.{Client, Instance as Known, Chunk as Front}
use Rattle.pp_law.specs.Table.{follows, is_chunk_of_any, is_instance, swept}
use Rattle.pp_cache_law.specs.Retires.{SweepsAreTheLaws}
use Rattle.pp_cache_law.proofs.Framing.{frames_of, the_same}
use Rattle.pp_cache_law.proofs.Numbers.{true_false}
use Rattle.pp_cache_law.proofs.PairLemmas.{filter_both, none_of}

abbrev left_by : List Client → Known → Bool
left_by cs x = x.is_retired && not (list_any (follows x.id) cs)

none_then : (a b : ℕ) → b ≤ a → (a == 0) ≡ true → (b == 0) ≡ true
none_then a b less none = grind (arith, nat_tests)

-- whom nobody follows of more, nobody follows of fewer
left_too : (cs ds : List Client) (x : Known) → count_by (follows x.id) ds ≤ count_by (follows x.id) cs → left_by cs x ≡ true → left_by ds x ≡ true
left_too cs ds x less = by x.is_retired
  where
    by : (b : Bool) → (b && not (list_any (follows x.id) cs)) ≡ true → (b && not (list_any (follows x.id) ds)) ≡ true
    by true e = sym (none_of (follows x.id) ds) ∙ none_then (count_by (follows x.id) cs) (count_by (follows x.id) ds) less (none_of (follows x.id) cs ∙ e)
    by false e = e

both_stay : (a b : Bool) → (a ≡ true → b ≡ true) → (not a && not b) ≡ not b
both_stay true b to = ap (λ (t : Bool). not t) (sym (to refl))
both_stay false b to = refl

-- chunks of those that go with the first, or then
any_parts : (p q : Known → Bool) (n : ℕ) (xs : List Known) → ((x : Known) → p x ≡ true → q x ≡ true)
    → (list_any (is_instance n) (filter p xs) || list_any (is_instance n) (filter q (law_without p xs))) ≡ list_any (is_instance n) (filter q xs)
any_parts p q n [] to = refl
any_parts p q n (x ∷ xs) to = by (p x) (q x) refl (to x) (any_parts p q n xs to)
  where
    one : (a b c d : Bool) → (b || c) ≡ d → ((a || b) || c) ≡ (a || d)
    one true b c d e = refl
    one false b c d e = e

    other : (a b c d : Bool) → (b || c) ≡ d → (b || (a || c)) ≡ (a || d)
    other true true c d e = refl
    other true false c d e = refl
    other false b c d e = e

    by : (b c : Bool) → q x ≡ c → (b ≡ true → q x ≡ true) → (list_any (is_instance n) (filter p xs) || list_any (is_instance n) (filter q (law_without p xs))) ≡ list_any (is_instance n) (filter q xs)
        → (list_any (is_instance n) (cond b (x ∷ filter p xs) (filter p xs)) || list_any (is_instance n) (filter q (cond (not b) (x ∷ law_without p xs) (law_without p xs))))
        ≡ list_any (is_instance n) (cond c (x ∷ filter q xs) (filter q xs))
    by true true is go rest = one (is_instance n x) (list_any (is_instance n) (filter p xs)) (list_any (is_instance n) (filter q (law_without p xs))) (list_any (is_instance n) (filter q xs)) rest
    by true false is go rest = absurd (true_false (sym (go refl) ∙ is))
    by false true is go rest =
        ap (λ (t : Bool). list_any (is_instance n) (filter p xs) || list_any (is_instance n) (cond t (x ∷ filter q (law_without p xs)) (filter q (law_without p xs)))) is
        ∙ other (is_instance n x) (list_any (is_instance n) (filter p xs)) (list_any (is_instance n) (filter q (law_without p xs))) (list_any (is_instance n) (filter q xs)) rest
    by false false is go rest =
        ap (λ (t : Bool). list_any (is_instance n) (filter p xs) || list_any (is_instance n) (cond t (x ∷ filter q (law_without p xs)) (filter q (law_without p xs)))) is ∙ rest

neither : (a b c : Bool) → (a || b) ≡ c → (not a && not b) ≡ not c
neither true b c e = ap (λ (t : Bool). not t) e
neither false b c e = ap (λ (t : Bool). not t) e

pub sweeps_of : SweepsAreTheLaws
unfolding swept
sweeps_of number m s cs ds less shows = frames_of number m (swept (record (swept (record s { clients = cs })) { clients = ds })) shows m (swept (record s { clients = ds }))
    (record { instances = refl; lives = refl; chunks = refl; extents = refl })
    (record {
      instances =
          sym (filter_both (λ (x : Known). not (left_by ds x)) (λ (x : Known). not (left_by cs x)) (λ (x : Known). not (left_by ds x)) s.instances
          (λ x. both_stay (left_by cs x) (left_by ds x) (left_too cs ds x (less x.id))));
      made = the_same s.next_instance;
      chunks =
          sym (filter_both (λ (d : Front). not (is_chunk_of_any (filter (left_by ds) (law_without (left_by cs) s.instances)) d)) (λ (d : Front). not (is_chunk_of_any (filter (left_by cs) s.instances) d))
          (λ (d : Front). not (is_chunk_of_any (filter (left_by ds) s.instances) d)) s.chunks
          (λ d. neither (is_chunk_of_any (filter (left_by cs) s.instances) d) (is_chunk_of_any (filter (left_by ds) (law_without (left_by cs) s.instances)) d) (is_chunk_of_any (filter (left_by ds) s.instances) d)
          (any_parts (left_by cs) (left_by ds) d.instance s.instances (λ x. left_too cs ds x (less x.id)))));
      followers = λ n. refl;
      kept = λ y. refl;
    })
