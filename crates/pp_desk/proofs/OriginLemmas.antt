-- One after the other is looked at: clients at their places, or connections by their numbers.
use Rattle.std.proofs.Common.{◌≡◌, ◌≤◌, ◌+◌, ℕ, zero, suc, List, [], ◌∷◌, length, take, slice_get, Option, add-one, refl, sym, ◌∙◌, ap, subst, arith}
use Rattle.std.specs.List.{fold}
use Rattle.pp_peers.specs.declared.peers.Peer.{Peer}
use Rattle.pp_desk.specs.Closings.{KeepsDesk, Sides, peer_numbers, sides, where_there}
use Rattle.pp_desk.specs.declared.desk.Desk.{Desk}
use Rattle.pp_state.specs.Ends.{AreInOrder, AreSeated, numbers_of}
use Rattle.pp_desk.proofs.ClosingLemmas.{kept_then}

pub folded_next : {A : Type 0} (step : A → ℕ → A) (x : A) (ns : List ℕ) (i : ℕ) → fold step x (take (suc i) ns) ≡ where_there step (fold step x (take i ns)) (slice_get ns i)
folded_next step x [] zero = refl
folded_next step x [] (suc i) = refl
folded_next step x (n ∷ ns) zero = refl
folded_next step x (n ∷ ns) (suc i) = folded_next step (step x n) ns i

-- the first so many were looked at
pub record AreDone (step : Sides → ℕ → Sides) (ns : List ℕ) (i : ℕ) (old now : Desk) : Type 0 where
  pub is : AreSeated old.state → sides now ≡ fold step (sides old) (take i ns)
  pub numbers : numbers_of now.state.seats.items ≡ numbers_of old.state.seats.items
  pub rest : KeepsDesk old now

pub done_next : (step : Sides → ℕ → Sides) (ns : List ℕ) (i : ℕ) (n : Option ℕ) (old mid new : Desk) → AreDone step ns i old mid → n ≡ slice_get ns i → (AreSeated mid.state → sides new ≡ where_there step (sides mid) n)
    → numbers_of new.state.seats.items ≡ numbers_of mid.state.seats.items → KeepsDesk mid new → AreDone step ns (i + 1) old new
done_next step ns i n old mid new before at now numbers rest = record {
  is = λ seated.
      now (subst (λ (ms : List ℕ). AreInOrder ms) (sym before.numbers) seated) ∙ ap (λ (x : Sides). where_there step x n) (before.is seated)
      ∙ ap (λ (o : Option ℕ). where_there step (fold step (sides old) (take i ns)) o) at ∙ sym (folded_next step (sides old) ns i) ∙ ap (λ m. fold step (sides old) (take m ns)) (sym (add-one i));
  numbers = numbers ∙ before.numbers;
  rest = kept_then old mid new before.rest rest;
}

pub whole : (ns : List ℕ) (i : ℕ) → length ns ≤ i → take i ns ≡ ns
whole [] zero all = refl
whole [] (suc i) all = refl
whole (n ∷ ns) zero all = absurd (omega (arith, all))
whole (n ∷ ns) (suc i) all = ap (λ xs. n ∷ xs) (whole ns i (omega (arith, all)))

-- all were
pub done_whole : (step : Sides → ℕ → Sides) (ns : List ℕ) (i : ℕ) (old now : Desk) → length ns ≤ i → AreDone step ns i old now → AreSeated old.state → sides now ≡ fold step (sides old) ns
done_whole step ns i old now all done seated = done.is seated ∙ ap (fold step (sides old)) (whole ns i all)

pub count : (peers : List Peer) → length (peer_numbers peers) ≡ length peers
count [] = refl
count (peer ∷ peers) = ap suc (count peers)
