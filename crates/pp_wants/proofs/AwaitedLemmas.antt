-- Connection after connection is looked at.
use Rattle.std.proofs.Common.{◌≡◌, ◌≤◌, ◌+◌, ℕ, zero, suc, add-one, List, [], ◌∷◌, fold, length, take, slice_get, Some, None, refl, ap, ◌∙◌, arith}
use Rattle.pp_seats.specs.declared.seat.Seat.{Seat}
use Rattle.pp_state.specs.Ends.{Parts, parts}
use Rattle.pp_state.specs.declared.state.State.{State}

folded_at : {A B : Type 0} (f : A → B → A) (z : A) (xs : List B) (i : ℕ) (x : B) → slice_get xs i ≡ Some x → fold f z (take (suc i) xs) ≡ f (fold f z (take i xs)) x
folded_at f z [] i x at = absurd (let bad : None ≡ Some x = at in cc)
folded_at f z (y ∷ xs) zero x at = let same : y ≡ x = cc in ap (λ v. f z v) same
folded_at f z (y ∷ xs) (suc i) x at = folded_at f (f z y) xs i x at

pub folded_more : {A B : Type 0} (f : A → B → A) (z : A) (xs : List B) (i : ℕ) (x : B) → slice_get xs i ≡ Some x → fold f z (take (i + 1) xs) ≡ f (fold f z (take i xs)) x
folded_more f z xs i x at = ap (λ n. fold f z (take n xs)) (add-one i) ∙ folded_at f z xs i x at

pub taken_whole : {A : Type 0} (xs : List A) (i : ℕ) → length xs ≤ i → take i xs ≡ xs
taken_whole [] zero all = refl
taken_whole [] (suc i) all = refl
taken_whole (x ∷ xs) zero all = absurd (omega (arith, all))
taken_whole (x ∷ xs) (suc i) all = ap (λ zs. x ∷ zs) (taken_whole xs i (omega (arith, all)))

-- where the clients are as they were, and all but those
pub same_parts : (s t : State) → t.seats.items ≡ s.seats.items → record t { seats = s.seats } ≡ s → parts t ≡ parts s
same_parts s t seats rest =
    ap (λ (xs : List Seat). with_seats xs t) seats ∙ ap (λ (u : State). with_seats s.seats.items u) rest
  where
    with_seats : List Seat → State → Parts
    with_seats xs u = record { seats = xs; flow = u.flow; cache = u.cache; refused = u.refused; is_astray = u.is_astray }
