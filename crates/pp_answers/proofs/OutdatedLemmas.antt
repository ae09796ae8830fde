-- Rows that are cleared one behind the other, and clients that are written back.
use Rattle.std.proofs.Common.{◌≡◌, ◌∙◌, ap, sym, subst, ℕ, List, [], ◌∷◌, ◌++◌, length, take, drop}
use Rattle.std.proofs.lemmas.List.{length-map}
use Rattle.pp_seats.specs.declared.seat.Seat.{Seat}
use Rattle.pp_state.specs.Ends.{Parts, numbers_of}
use Rattle.pp_answers.specs.ThroughHeads.{ClearsEach}
use Rattle.pp_state.proofs.SeatsLemmas.{refilled}

pub each_behind : (site : List ℕ) (xs ys : List (List ℕ)) (old between new : Parts) → ClearsEach site xs old between → ClearsEach site ys between new → ClearsEach site (xs ++ ys) old new
each_behind site [] ys old between new first second = let P : Parts → Type 0 = λ p. ClearsEach site ys p new in subst P first second
each_behind site (x ∷ xs) ys old between new first second = (first.0, first.1, each_behind site xs ys first.0 between new first.2 second)

-- ---- clients that are written back

pub as_many : (old new : List Seat) → numbers_of new ≡ numbers_of old → length new ≡ length old
as_many old new same = sym (length-map new (λ (s : Seat). s.client.id)) ∙ ap length same ∙ length-map old (λ (s : Seat). s.client.id)

-- through a borrow of all
pub written_back : (n : ℕ) (old lent new : List Seat) → lent ≡ old → length lent ≡ n → numbers_of new ≡ numbers_of lent → take n (new ++ drop (length new) old) ≡ new
written_back n old lent new value len same =
    ap (λ k. take k (new ++ drop (length new) old)) (sym len ∙ sym (as_many lent new same)) ∙ refilled new (drop (length new) old)
