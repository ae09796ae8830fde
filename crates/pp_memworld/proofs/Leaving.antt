-- One of the files that may stand under a name is left.
use Rattle.std.proofs.Common.{◌≡◌, ◌∙◌, ap, inl, inr, ℕ, zero, suc, ◌<◌, arith, List, [], ◌∷◌, length, get_or, Option, Some, None, refl, sym, subst}
use Rattle.std.specs.Prelude.{◌≢◌, Result, Ok, Err, IfOk, OnOk}
use Rattle.std.specs.declared.cmp.Ordering.{Ordering}
use Rattle.std.specs.declared.cmp.Ordering.TheVariants.{Less, Equal, Greater}
use Rattle.std.specs.FinMap.{slice_cmp-IsAntisymmetric, nat_cmp-IsAntisymmetric}
use Rattle.std.specs.Map.{lookup}
use Rattle.std.specs.Ordering.{is_eq}
use Rattle.pp_world.proofs.FileLemmas.{is_eq-name_order}
use Rattle.pp_world.specs.Disk.{Bytes, Stored, IsLeftOf, LeavesOne}
use Rattle.pp_world.specs.Files.{Files, file_of, name_order}
use Rattle.pp_memworld.specs.Slots.{AreListed, Candidates, Slots, files_at, files_in}
use Rattle.pp_memworld.proofs.Listed.{Above, Sorted, head_above, itself, names_of, tail_sorted}

pub for_ok : {A E : Type 0} {P Q : A → Type 0} (result : Result A E) → ((a : A) → P a → Q a) → IfOk result P → IfOk result Q
for_ok (Ok a) step is = step a is
for_ok (Err e) step is = is

pub on_ok : {A E : Type 0} {P Q : Type 0} (result : Result A E) → (P → Q) → OnOk result P → OnOk result Q
on_ok (Ok a) step is = step is
on_ok (Err e) step is = is

-- the file at this place
pub leaves_at : (files : List (Option Stored)) (i : ℕ) (file : Option Stored) (bytes : Option Bytes) → i < length files → file ≡ get_or files i file → IsLeftOf file bytes → LeavesOne files bytes
leaves_at [] i file bytes within is left = absurd (omega (arith, within))
leaves_at (f ∷ files) zero file bytes within is left = inl (subst (λ (g : Option Stored). IsLeftOf g bytes) is left)
leaves_at (f ∷ files) (suc i) file bytes within is left = inr (leaves_at files i file bytes (omega (arith, within)) is left)

-- what a crash leaves, name by name, but for the names of the slots that are not yet reached
pub record LeavesBut (rest : List (Bytes × Candidates)) (slots : Slots) (image : Files) : Type 0 where
  pub reached : (name : Bytes) → lookup (λ n. is_eq (name_order name n)) rest ≡ None → LeavesOne (files_at name slots) (file_of name image)
  pub later : (name : Bytes) (slot : Candidates) → lookup (λ n. is_eq (name_order name n)) rest ≡ Some slot → (file_of name image ≡ None) × (files_at name slots ≡ slot)
  pub order : Sorted (names_of rest)
  pub listed : AreListed image

pub leaves_none : (slots : Slots) (image : Files) → image ≡ [] → Sorted (names_of slots.entries) → LeavesBut slots.entries slots image
leaves_none slots image empty order = record {
  reached = λ name none. inl_none name none;
  later = λ name slot some. (ap (file_of name) empty, ap files_in some);
  order = order;
  listed = subst AreListed (sym empty) refl;
}
  where
    inl_none : (name : Bytes) → lookup (λ n. is_eq (name_order name n)) slots.entries ≡ None → LeavesOne (files_at name slots) (file_of name image)
    inl_none name none = subst (LeavesOne (files_at name slots)) (sym (ap (file_of name) empty)) (subst (λ (files : Candidates). LeavesOne files None) (sym (ap files_in none)) (inl tt))

-- no slot behind the first has its name
lookup_above : {X : Type 0} (name : Bytes) (slots : List (Bytes × X)) → Above name (names_of slots) → lookup (λ n. is_eq (name_order name n)) slots ≡ None
lookup_above name [] above = refl
lookup_above name (s ∷ slots) above = rw above.0 (lookup_above name slots above.1)

pub first_waits : (name : Bytes) (slot : Candidates) (rest : List (Bytes × Candidates)) (slots : Slots) (image : Files) → LeavesBut ((name, slot) ∷ rest) slots image → file_of name image ≡ None
first_waits name slot rest slots image so = (so.later name slot (rw itself refl)).0

pub leaves_more : (name : Bytes) (slot : Candidates) (rest : List (Bytes × Candidates)) (slots : Slots) (image image' : Files) → LeavesBut ((name, slot) ∷ rest) slots image
    → LeavesOne slot (file_of name image') → ((other : Bytes) → other ≢ name → file_of other image' ≡ file_of other image) → AreListed image' → LeavesBut rest slots image'
leaves_more name slot rest slots image image' so left others listed = record {
  reached = λ other none. by other none (name_order other name) refl;
  later = λ other s some. let apart = other_than other s some in (others other apart ∙ (so.later other s (behind_first other s apart some)).0, (so.later other s (behind_first other s apart some)).1);
  order = tail_sorted name (names_of rest) so.order;
  listed = listed;
}
  where
    here : files_at name slots ≡ slot
    here = (so.later name slot (rw itself refl)).1

    same_name : (other : Bytes) → name_order other name ≡ Equal → other ≡ name
    same_name other is = slice_cmp-IsAntisymmetric nat_cmp-IsAntisymmetric other name is

    differs : (other : Bytes) (order : Ordering) → name_order other name ≡ order → (order ≡ Equal → ⊥) → other ≢ name
    differs other order is never same = never (sym is ∙ ap (λ (n : Bytes). name_order n name) same ∙ itself name)

    by : (other : Bytes) → lookup (λ n. is_eq (name_order other n)) rest ≡ None → (order : Ordering) → name_order other name ≡ order → LeavesOne (files_at other slots) (file_of other image')
    by other none Equal is = subst (λ (n : Bytes). LeavesOne (files_at n slots) (file_of n image')) (sym (same_name other is)) (subst (λ (files : Candidates). LeavesOne files (file_of name image')) (sym here) left)
    by other none Less is = subst (LeavesOne (files_at other slots)) (sym (others other (differs other Less is (λ bad. cc)))) (so.reached other (rw is none))
    by other none Greater is = subst (LeavesOne (files_at other slots)) (sym (others other (differs other Greater is (λ bad. cc)))) (so.reached other (rw is none))

    other_than : (other : Bytes) (s : Candidates) → lookup (λ n. is_eq (name_order other n)) rest ≡ Some s → other ≢ name
    other_than other s some same = let none : lookup (λ n. is_eq (name_order other n)) rest ≡ None = subst (λ (n : Bytes). lookup (λ m. is_eq (name_order n m)) rest ≡ None) (sym same) (lookup_above name rest (head_above name (names_of rest) so.order)) in
        (let bad : None ≡ Some s = sym none ∙ some in cc)

    behind_first : (other : Bytes) (s : Candidates) → other ≢ name → lookup (λ n. is_eq (name_order other n)) rest ≡ Some s → lookup (λ n. is_eq (name_order other n)) ((name, slot) ∷ rest) ≡ Some s
    behind_first other s apart some = rw (is_eq-name_order other name (λ same. apart (sym same))) some

pub leaves_all : (rest : List (Bytes × Candidates)) (slots : Slots) (image : Files) → LeavesBut rest slots image → rest ≡ [] → (name : Bytes) → LeavesOne (files_at name slots) (file_of name image)
leaves_all rest slots image so none = λ name. so.reached name (ap (lookup (λ n. is_eq (name_order name n))) none)
