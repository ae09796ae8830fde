-- Replies end, one behind the other, and what the next request is read from.
use Rattle.std.proofs.Common.{◌≡◌, ◌≤◌, ◌+◌, ◌||◌, ℕ, zero, suc, Bool, List, [], ◌∷◌, ◌++◌, length, take, slice_get, Option, Some, None, add-one, refl, sym, subst, ap, ◌∙◌, arith}
use Rattle.std.specs.Option.{option_to_list}
use Rattle.std.proofs.lemmas.List.{append-nil}
use Rattle.pp_desk.specs.Closings.{Sides, sides}
use Rattle.pp_desk.specs.Replies.{EndsSaid, EndsSaidIn, EndsSaidOf}
use Rattle.pp_desk.specs.declared.desk.Desk.{Desk}
use Rattle.pp_state.specs.Ends.{parts}
use Rattle.pp_state.specs.declared.state.State.{State}

-- a request is read: where its key was refused memory, this life goes astray
pub looked : (old : Desk) (s : State) (lacks : Bool) → s.is_astray ≡ (old.state.is_astray || lacks) → record s { seats = old.state.seats; is_astray = old.state.is_astray } ≡ old.state
    → record (sides (record old { state = s })) { parts = record (parts s) { seats = old.state.seats.items } } ≡ record (sides old) { parts = record (parts old.state) { is_astray = old.state.is_astray || lacks } }
looked old s lacks astray rest =
    ap (λ (b : Bool). let x : Sides = record { parts = record (parts s) { seats = old.state.seats.items; is_astray = b }; peers = old.peers } in x) astray
    ∙ ap (λ (t : State). let x : Sides = record { parts = record (parts t) { is_astray = old.state.is_astray || lacks }; peers = old.peers } in x) rest

-- ---- one behind the other

one_behind : (i : ℕ) (is : List ℕ) (old mid new : Sides) → EndsSaid is old mid → EndsSaidOf i mid new → EndsSaid (is ++ i ∷ []) old new
one_behind i [] old mid new before ends = (new, subst (λ (x : Sides). EndsSaidOf i x new) before ends, refl)
one_behind i (j ∷ is) old mid new (next, first, rest) ends = (next, first, one_behind i is next mid new rest ends)

behind : (o : Option ℕ) (is : List ℕ) (old mid new : Sides) → EndsSaid is old mid → EndsSaidIn o mid new → EndsSaid (is ++ option_to_list o) old new
behind None is old mid new before same = subst (λ (js : List ℕ). EndsSaid js old new) (sym (append-nil is)) (subst (λ (x : Sides). EndsSaid is old x) (sym same) before)
behind (Some i) is old mid new before ends = one_behind i is old mid new before ends

front_behind : (n : ℕ) (is : List ℕ) → take (suc n) is ≡ take n is ++ option_to_list (slice_get is n)
front_behind zero [] = refl
front_behind (suc n) [] = refl
front_behind zero (j ∷ is) = refl
front_behind (suc n) (j ∷ is) = ap (λ (js : List ℕ). j ∷ js) (front_behind n is)

pub one_more : (n : ℕ) (is : List ℕ) (old mid new : Sides) → EndsSaid (take n is) old mid → EndsSaidIn (slice_get is n) mid new → EndsSaid (take (n + 1) is) old new
one_more n is old mid new before ends =
    subst (λ (js : List ℕ). EndsSaid js old new) (sym (ap (λ m. take m is) (add-one n) ∙ front_behind n is)) (behind (slice_get is n) (take n is) old mid new before ends)

whole : (is : List ℕ) (n : ℕ) → length is ≤ n → take n is ≡ is
whole [] zero all = refl
whole [] (suc n) all = refl
whole (i ∷ is) zero all = absurd (omega (arith, all))
whole (i ∷ is) (suc n) all = ap (λ xs. i ∷ xs) (whole is n (omega (arith, all)))

pub all_ended : (n : ℕ) (is : List ℕ) (old new : Sides) → length is ≤ n → EndsSaid (take n is) old new → EndsSaid is old new
all_ended n is old new all ends = subst (λ (js : List ℕ). EndsSaid js old new) (whole is n all) ends
