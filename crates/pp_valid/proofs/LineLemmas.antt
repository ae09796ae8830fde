-- How many bytes the lines of chosen fields have.
use Rattle.std.proofs.Common.{◌≡◌, ℕ, suc, ◌+◌, ◌-◌, ◌^◌, ◌<◌, ◌≤◌, min, Bool, true, false, List, [], ◌∷◌, ◌++◌, length, take, drop, filter, sym, ap, ◌∙◌, arith, refl, length-append, take-append-drop}
use Rattle.std.specs.Prelude.{nat_le}
use Rattle.std.proofs.Math.Seq.{drop-cons}
use Rattle.std.proofs.lemmas.Bool.Decides.{nat_tests}
use Rattle.pp_text.specs.Fields.{Field, field_at}
use Rattle.pp_text.specs.Lines.{line_of, lines_of}

abbrev pub bytes : (Field → Bool) → List Field → ℕ
bytes p fields = length (lines_of (filter p fields))

cons : (p : Field → Bool) (x : Field) (xs : List Field) → p x ≡ true → bytes p (x ∷ xs) ≡ length (line_of x) + bytes p xs
cons p x xs is = rw is (length-append (line_of x) (lines_of (filter p xs)))

other : (p : Field → Bool) (x : Field) (xs : List Field) → p x ≡ false → bytes p (x ∷ xs) ≡ bytes p xs
other p x xs is = rw is refl

pub bytes-append : (p : Field → Bool) (xs ys : List Field) → bytes p (xs ++ ys) ≡ bytes p xs + bytes p ys
bytes-append p [] ys = omega arith
bytes-append p (x ∷ xs) ys = by (p x) refl (bytes-append p xs ys)
  where
    by : (b : Bool) → p x ≡ b → bytes p (xs ++ ys) ≡ bytes p xs + bytes p ys → bytes p (x ∷ (xs ++ ys)) ≡ bytes p (x ∷ xs) + bytes p ys
    by true is rest = omega (arith, rest, cons p x (xs ++ ys) is, cons p x xs is)
    by false is rest = omega (arith, rest, other p x (xs ++ ys) is, other p x xs is)

-- the lines of the fields before the one at an index, and its own
pub bytes_at_least : (p : Field → Bool) (fields : List Field) (i : ℕ) → i < length fields → p (field_at fields i) ≡ true
    → bytes p (take i fields) + length (line_of (field_at fields i)) ≤ bytes p fields
bytes_at_least p fields i within is =
    let split : bytes p fields ≡ bytes p (take i fields) + bytes p (drop i fields) = ap (bytes p) (sym (take-append-drop i fields)) ∙ bytes-append p (take i fields) (drop i fields) in
    let first : bytes p (drop i fields) ≡ length (line_of (field_at fields i)) + bytes p (drop (suc i) fields) =
    ap (bytes p) (drop-cons fields i ([], []) within) ∙ cons p (field_at fields i) (drop (suc i) fields) is in
    omega (arith, split, first)

-- a line that does not fit what is left
pub no_room : (p : Field → Bool) (fields : List Field) (i left room len : ℕ) → i < length fields → p (field_at fields i) ≡ true
    → left + bytes p (take i fields) ≡ room → room ≤ 16384 → len ≡ min (length (line_of (field_at fields i))) (2 ^ 64 - 1) → left < len
    → false ≡ nat_le (bytes p fields) room
no_room p fields i left room len within is so_far small len_is longer =
    let least = bytes_at_least p fields i within is in
    let above : room < bytes p fields = omega (arith, least, len_is) in
    grind (arith, nat_tests)
