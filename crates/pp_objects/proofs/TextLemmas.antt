-- Fields that are added to a text, one list after another.
use Rattle.std.proofs.Common.{ℕ, ◌+◌, ◌<◌, ◌≡◌, Bool, true, false, ◌&&◌, cond, List, [], ◌∷◌, ◌++◌, length, take, drop, filter, arith, refl, sym, ◌∙◌, ap, subst, length-append, append_assoc, take-append-drop}
use Rattle.std.specs.Prelude.{Result, Ok, Err, OnOk, OnErr}
use Rattle.std.proofs.lemmas.List.{append-nil, take_more}
use Rattle.std.proofs.lemmas.List.Elements.{filter-append}
use Rattle.pp_text.specs.Fields.{Field, field_at, is_named}
use Rattle.pp_valid.specs.Kept.{is_renewed_of}
use Rattle.pp_objects.specs.Texts.{FieldText, AddsFields, HasRoomFor, size_of}
use Rattle.pp_objects.specs.Kept.{latest, or_else}

pub on_err : {A E : Type 0} {P : Type 0} (r : Result A E) → P → OnErr r P
on_err (Ok a) p = tt
on_err (Err e) p = p

pub on_err_so : {A E : Type 0} {P Q : Type 0} (r : Result A E) → (P → Q) → OnErr r P → OnErr r Q
on_err_so (Ok a) f p = tt
on_err_so (Err e) f p = f p

pub on_ok_so : {A E : Type 0} {P Q : Type 0} (r : Result A E) → (P → Q) → OnOk r P → OnOk r Q
on_ok_so (Ok a) f p = f p
on_ok_so (Err e) f p = tt

pub size_of-append : (xs ys : List Field) → size_of (xs ++ ys) ≡ size_of xs + size_of ys
size_of-append [] ys = omega arith
size_of-append (x ∷ xs) ys = let ih = size_of-append xs ys in omega (arith, ih)

pub adds_none : (a : FieldText) → AddsFields a a []
adds_none a = record {
  fields = sym (append-nil a.fields);
  used = omega arith;
  bytes = omega arith;
  places = omega arith;
}

pub adds_both : (a b c : FieldText) (xs ys : List Field) → AddsFields a b xs → AddsFields b c ys → AddsFields a c (xs ++ ys)
adds_both a b c xs ys f g = record {
  fields = g.fields ∙ ap (λ fs. fs ++ ys) f.fields ∙ append_assoc a.fields xs ys;
  used = omega (arith, f.used, g.used, size_of-append xs ys);
  bytes = omega (arith, f.bytes, g.bytes);
  places = omega (arith, f.places, g.places);
}

-- there was room for the first of two lists
pub room_first : (a : FieldText) (xs ys : List Field) → HasRoomFor (xs ++ ys) a → HasRoomFor xs a
room_first a xs ys h = record {
  bytes = omega (arith, h.bytes, size_of-append xs ys);
  small = omega (arith, h.small, size_of-append xs ys);
  places = omega (arith, h.places, length-append xs ys);
}

-- and there is still room for the second
pub room_second : (a b : FieldText) (xs ys : List Field) → AddsFields a b xs → HasRoomFor (xs ++ ys) a → HasRoomFor ys b
room_second a b xs ys f h = record {
  bytes = omega (arith, h.bytes, f.used, f.bytes, size_of-append xs ys);
  small = omega (arith, h.small, f.used, size_of-append xs ys);
  places = omega (arith, h.places, f.places, ap length f.fields, length-append a.fields xs, length-append xs ys);
}

-- the chosen fields before the one at an index, and it
pub chosen_more : (p : Field → Bool) (fs : List Field) (i : ℕ) → i < length fs → p (field_at fs i) ≡ true
    → filter p (take (i + 1) fs) ≡ filter p (take i fs) ++ field_at fs i ∷ []
chosen_more p fs i lt is =
    ap (filter p) (take_more fs i ([], []) lt) ∙ filter-append p (take i fs) (field_at fs i ∷ [])
    ∙ ap (λ b. filter p (take i fs) ++ cond b (field_at fs i ∷ []) []) is

pub chosen_less : (p : Field → Bool) (fs : List Field) (i : ℕ) → i < length fs → p (field_at fs i) ≡ false
    → filter p (take (i + 1) fs) ≡ filter p (take i fs)
chosen_less p fs i lt is =
    ap (filter p) (take_more fs i ([], []) lt) ∙ filter-append p (take i fs) (field_at fs i ∷ [])
    ∙ ap (λ b. filter p (take i fs) ++ cond b (field_at fs i ∷ []) []) is ∙ append-nil (filter p (take i fs))

-- all the chosen ones are those before an index, it, and those behind it
chosen_split : (p : Field → Bool) (fs : List Field) (i : ℕ) → i < length fs → p (field_at fs i) ≡ true
    → filter p fs ≡ filter p (take i fs) ++ (field_at fs i ∷ []) ++ filter p (drop (i + 1) fs)
chosen_split p fs i lt is =
    ap (filter p) (sym (take-append-drop (i + 1) fs)) ∙ filter-append p (take (i + 1) fs) (drop (i + 1) fs)
    ∙ ap (λ gs. gs ++ filter p (drop (i + 1) fs)) (chosen_more p fs i lt is)

pub room_at : (p : Field → Bool) (fs : List Field) (i : ℕ) (a b : FieldText) → i < length fs → p (field_at fs i) ≡ true → AddsFields a b (filter p (take i fs))
    → HasRoomFor (filter p fs) a → HasRoomFor (field_at fs i ∷ []) b
room_at p fs i a b lt is adds room =
    let P : List Field → Type 0 = λ gs. HasRoomFor gs a in
    room_second a b (filter p (take i fs)) (field_at fs i ∷ []) adds
    (room_first a (filter p (take i fs) ++ field_at fs i ∷ []) (filter p (drop (i + 1) fs)) (subst P (chosen_split p fs i lt is) room))

-- where the first list adds nothing, the second is taken
pub else_none : (xs ys : List Field) → length xs ≡ 0 → or_else xs ys ≡ ys
else_none [] ys e = refl
else_none (x ∷ xs) ys e = absurd (omega (arith, e))

pub else_some : (xs ys : List Field) → 0 < length xs → or_else xs ys ≡ xs
else_some [] ys lt = absurd (omega (arith, lt))
else_some (x ∷ xs) ys lt = refl

-- room for what is taken is room for the first list, which is that or nothing
pub room_either : (xs ys : List Field) (a : FieldText) → HasRoomFor (or_else xs ys) a → HasRoomFor xs a
room_either [] ys a h = record {
  bytes = omega (arith, h.bytes);
  small = omega (arith, h.small);
  places = omega (arith, h.places);
}
room_either (x ∷ xs) ys a h = h

chosen_twice : (p q : Field → Bool) (fs : List Field) → filter q (filter p fs) ≡ filter (λ f. p f && q f) fs
chosen_twice p q [] = refl
chosen_twice p q (f ∷ fs) = by (p f) (chosen_twice p q fs)
  where
    by : (b : Bool) → filter q (filter p fs) ≡ filter (λ g. p g && q g) fs
        → filter q (cond b (f ∷ filter p fs) (filter p fs)) ≡ cond (b && q f) (f ∷ filter (λ g. p g && q g) fs) (filter (λ g. p g && q g) fs)
    by true ih = ap (λ gs. cond (q f) (f ∷ gs) gs) ih
    by false ih = ih

pub latest_is : (name : List ℕ) (kept fields : List Field)
    → latest name kept fields ≡ or_else (filter (λ f. is_renewed_of fields f && is_named name f) fields) (filter (is_named name) kept)
latest_is name kept fields = ap (λ gs. or_else gs (filter (is_named name) kept)) (chosen_twice (is_renewed_of fields) (is_named name) fields)
