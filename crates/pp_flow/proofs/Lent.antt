-- What becomes of the exchanges where the errand of one was lent.
use Rattle.std.proofs.Common.{◌≡◌, ℕ, Bool, true, false, if◌then◌else◌, List, get_or, set, sym, ◌∙◌, ap, Some, ◌⊎◌, inl, inr}
use Rattle.std.specs.List.{find, list_any}
use Rattle.std.specs.Global.{Box}
use Rattle.pp_flow.specs.declared.entry.Entry.{Entry}
use Rattle.pp_flow.specs.declared.errand.Errand.{Errand}
use Rattle.pp_flow.specs.Entries.{asking, is_number}
use Rattle.pp_flow.specs.Changes.{Exchanges, changed, entry_of, first_of, with_errand}
use Rattle.pp_flow.specs.Inside.{IsFirst, entries}
use Rattle.pp_flow.proofs.First.{absent-find, entries-at, entries-set, first-changed, first-find}

-- what is left of a loan, at each value of what was lent
pub same_lent : {N A B C : Type 0} (name : N) (f g : A → B) → ((a : A) → f a ≡ g a) → ◌≡◌ {A = (N × (A → B)) ⊎ C} (inl (name, f)) (inl (name, g))
same_lent name f g same = λ i. inl (name, λ a. same a i)

pub same_kept : {A B : Type 0} (x y : B) → x ≡ y → ◌≡◌ {A = A ⊎ B} (inr x) (inr y)
same_kept x y same = λ i. inr (same i)

value-at : (bs : List (Box Entry)) (i : ℕ) (b : Box Entry) → b ≡ get_or bs i b → b.value ≡ get_or (entries bs) i b.value
value-at bs i b is = ap (λ (x : Box Entry). x.value) is ∙ sym (entries-at bs i b)

-- the list, where the errand of the first with the number is given back
pub lent-first : (n : ℕ) (bs : List (Box Entry)) (i : ℕ) (b : Box Entry) (e : Entry) (errand : Errand) → IsFirst n (entries bs) i → b ≡ get_or bs i b → e ≡ b.value
    → entries (set bs i (record b { value = asking errand e })) ≡ changed n (asking errand) (entries bs)
lent-first n bs i b e errand first is of =
    entries-set bs i (record b { value = asking errand e })
    ∙ ap (λ (x : Entry). set (entries bs) i (asking errand x)) (of ∙ value-at bs i b is)
    ∙ sym (first-changed n (asking errand) (entries bs) i b.value first)

pub first-at : (n : ℕ) (bs : List (Box Entry)) (i : ℕ) (b : Box Entry) → IsFirst n (entries bs) i → b ≡ get_or bs i b → find (is_number n) (entries bs) ≡ Some b.value
first-at n bs i b first is = first-find n (entries bs) i b.value first ∙ ap Some (sym (value-at bs i b is))

-- it waits for a place
pub lent-waiting : (n : ℕ) (f : Exchanges) (errand : Errand) (es : List Entry) → list_any (is_number n) f.waiting ≡ true → es ≡ changed n (asking errand) f.waiting
    → (record f { waiting = es }) ≡ with_errand n errand f
lent-waiting n f errand es there same =
    ap (λ (xs : List Entry). record f { waiting = xs }) same
    ∙ sym (ap (λ (b : Bool). if b then (record f { waiting = changed n (asking errand) f.waiting }) else (record f { placed = changed n (asking errand) f.placed })) there)

-- it has one
pub lent-placed : (n : ℕ) (f : Exchanges) (errand : Errand) (es : List Entry) → list_any (is_number n) f.waiting ≡ false → es ≡ changed n (asking errand) f.placed
    → (record f { placed = es }) ≡ with_errand n errand f
lent-placed n f errand es there same =
    ap (λ (xs : List Entry). record f { placed = xs }) same
    ∙ sym (ap (λ (b : Bool). if b then (record f { waiting = changed n (asking errand) f.waiting }) else (record f { placed = changed n (asking errand) f.placed })) there)

pub entry-placed : (n : ℕ) (f : Exchanges) → list_any (is_number n) f.waiting ≡ false → entry_of n f ≡ find (is_number n) f.placed
entry-placed n f none = ap (λ o. first_of o (find (is_number n) f.placed)) (absent-find n f.waiting none)
