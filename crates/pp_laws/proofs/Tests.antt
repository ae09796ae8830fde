-- What tests tell.
use Rattle.std.proofs.Common.{◌≡◌, refl, ℕ, ◌<◌, nat_lt, Bool, true, false, ◌==◌, ◌&&◌, List, bytes_eq, ap₂, arith}
use Rattle.std.proofs.lemmas.Bool.Decides.{nat_tests}
use Rattle.std.proofs.lemmas.Slice.Eq.{bytes_eq-Decides}
use Rattle.pp_valid.specs.declared.version.Version.{Version}
use Rattle.pp_law.specs.Table.{is_same_version}

pub same_number : (m n : ℕ) → (m == n) ≡ true → m ≡ n
same_number m n is = grind (arith, nat_tests)

pub number_same : (n : ℕ) → (n == n) ≡ true
number_same n = grind (arith, nat_tests)

pub below : (m n : ℕ) → nat_lt m n ≡ true → m < n
below m n is = grind (arith, nat_tests)

pub first_holds : (a b : Bool) → (a && b) ≡ true → a ≡ true
first_holds true b is = refl
first_holds false b is = absurd (cc is)

pub second_holds : (a b : Bool) → (a && b) ≡ true → b ≡ true
second_holds true b is = is
second_holds false b is = absurd (cc is)

pub fourth_holds : (a b c d : Bool) → (a && b && c && d) ≡ true → d ≡ true
fourth_holds true true true d is = is
fourth_holds true true false d is = absurd (cc is)
fourth_holds true false c d is = absurd (cc is)
fourth_holds false b c d is = absurd (cc is)

pub same_bytes : (xs ys : List ℕ) → bytes_eq xs ys ≡ true → xs ≡ ys
same_bytes xs ys is = (bytes_eq-Decides xs ys).0 is

pub same_version : (v w : Version) → is_same_version v w ≡ true → v ≡ w
same_version v w is = by (same_bytes v.tag w.tag (first_holds (bytes_eq v.tag w.tag) (v.length == w.length) is)) (same_number v.length w.length (second_holds (bytes_eq v.tag w.tag) (v.length == w.length) is))
  where
    of : List ℕ → ℕ → Version
    of tag length = record { tag = tag; length = length }

    by : v.tag ≡ w.tag → v.length ≡ w.length → v ≡ w
    by tag length = ap₂ of tag length
