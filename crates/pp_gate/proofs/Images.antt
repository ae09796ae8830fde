-- What a crash may leave of one file, before and after one write.
use Rattle.std.proofs.Common.{◌≡◌, ℕ, suc, ◌+◌, ◌<◌, ◌≤◌, ◌-◌, false, [], ◌∷◌, ◌++◌, length, take, drop, get_or, length-append, length-drop, refl, ◌∙◌, ap, arith}
use Rattle.std.specs.Prelude.{nat_le, nat_lt, ◌&&◌, ◌||◌, max}
use Rattle.std.proofs.lemmas.List.{get_or-take, get_or-drop, length-take-le}
use Rattle.std.proofs.Math.Seq.{get_or-append_right}
use Rattle.std.proofs.Math.ListN.{get_or-append}
use Rattle.std.proofs.lemmas.Bool.Decides.{nat_tests}
use Rattle.pp_world.specs.Disk.{Bytes, settled, loosened, written, splice, IsLeft}

pub list_ext : (a b : Bytes) → length a ≡ length b → ((o : ℕ) → o < length a → get_or a o 0 ≡ get_or b o 0) → a ≡ b
list_ext [] [] len same = refl
list_ext [] (y ∷ b) len same = absurd (omega arith)
list_ext (x ∷ a) [] len same = absurd (omega arith)
list_ext (x ∷ a) (y ∷ b) len same =
    let first : x ≡ y = same 0 (omega arith) in
    let rest : a ≡ b = list_ext a b (omega arith) (λ o lt. same (suc o) (omega arith)) in
    cc

-- as it was read, but for one range
pub record Torn (from to : ℕ) (was is : Bytes) : Type 0 where
  pub no_shorter : length was ≤ length is
  pub no_longer : length is ≤ max (length was) to
  pub before : (o : ℕ) → o < length was → o < from → get_or is o 0 ≡ get_or was o 0
  pub after : (o : ℕ) → o < length was → to ≤ o → get_or is o 0 ≡ get_or was o 0

pub settled_leaves : (b c : Bytes) → IsLeft (settled b) c → c ≡ b
unfolding settled
settled_leaves b c left = list_ext c b (omega (arith, left.no_shorter, left.no_longer)) (λ o lt. left.same o (omega (arith, left.no_longer)) refl)

below_range : (o from to : ℕ) → o < from → ((nat_le from o && nat_lt o to) || false) ≡ false
below_range o from to lt = grind (arith, nat_tests)

above_range : (o from to : ℕ) → to ≤ o → ((nat_le from o && nat_lt o to) || false) ≡ false
above_range o from to le = grind (arith, nat_tests)

pub loose_leaves : (from to : ℕ) (b c : Bytes) → IsLeft (loosened from to (settled b)) c → Torn from to b c
unfolding settled loosened
loose_leaves from to b c left = record {
  no_shorter = left.no_shorter;
  no_longer = left.no_longer;
  before = λ o lt below. left.same o lt (below_range o from to below);
  after = λ o lt above. left.same o lt (above_range o from to above);
}

-- the parts of bytes that were written over
module _ (at : ℕ) (x b : Bytes) (le : at ≤ length b) where
  front_len : length (take at b) ≡ at
  front_len = length-take-le at b le

  pub length-splice : length (splice at x b) ≡ max (length b) (at + length x)
  unfolding splice
  length-splice = omega (arith, front_len, length-append (take at b) (x ++ drop (at + length x) b), length-append x (drop (at + length x) b), length-drop (at + length x) b)

  pub splice_before : (o : ℕ) → o < at → get_or (splice at x b) o 0 ≡ get_or b o 0
  unfolding splice
  splice_before o lt = get_or-append (take at b) (x ++ drop (at + length x) b) 0 o (omega (arith, front_len)) ∙ get_or-take at b o 0 lt

  pub splice_in : (o : ℕ) → at ≤ o → o < at + length x → get_or (splice at x b) o 0 ≡ get_or x (o - at) 0
  unfolding splice
  splice_in o le_o lt =
      get_or-append_right (take at b) (x ++ drop (at + length x) b) o 0 (omega (arith, front_len))
      ∙ ap (λ (k : ℕ). get_or (x ++ drop (at + length x) b) (o - k) 0) front_len
      ∙ get_or-append x (drop (at + length x) b) 0 (o - at) (omega arith)

  pub splice_after : (o : ℕ) → at + length x ≤ o → get_or (splice at x b) o 0 ≡ get_or b o 0
  unfolding splice
  splice_after o above =
      get_or-append_right (take at b) (x ++ drop (at + length x) b) o 0 (omega (arith, front_len))
      ∙ ap (λ (k : ℕ). get_or (x ++ drop (at + length x) b) (o - k) 0) front_len
      ∙ get_or-append_right x (drop (at + length x) b) (o - at) 0 (omega arith)
      ∙ get_or-drop (at + length x) b (o - at - length x) 0
      ∙ ap (λ (k : ℕ). get_or b k 0) (index o above)
    where
      index : (o : ℕ) → at + length x ≤ o → (at + length x) + (o - at - length x) ≡ o
      index o above = omega arith

  pub written_torn : Torn at (at + length x) b (splice at x b)
  written_torn = record {
    no_shorter = omega (arith, length-splice);
    no_longer = omega (arith, length-splice);
    before = λ o lt below. splice_before o below;
    after = λ o lt above. splice_after o above;
  }

  pub written_leaves : (c : Bytes) → IsLeft (written at x (loosened at (at + length x) (settled b))) c → Torn at (at + length x) b c
  unfolding settled loosened written
  written_leaves c left = record {
    no_shorter = left.no_shorter;
    no_longer = left.no_longer;
    before = λ o lt below. left.same o lt (below_range o at (at + length x) below) ∙ splice_before o below;
    after = λ o lt above. left.same o lt (above_range o at (at + length x) above) ∙ splice_after o above;
  }

pub same_torn : (from to : ℕ) (b : Bytes) → Torn from to b b
same_torn from to b = record { no_shorter = omega arith; no_longer = omega arith; before = λ o lt below. refl; after = λ o lt above. refl }
