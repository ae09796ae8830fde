-- The name of a key has the form of a name.
use Rattle.std.proofs.Common.{◌≡◌, ℕ, zero, suc, ◌*◌, ◌/◌, ◌%◌, ◌<◌, Bool, true, List, [], ◌∷◌, refl, ◌∙◌, ap, arith}
use Rattle.std.specs.Prelude.{◌==◌, nat_lt, slice_index}
use Rattle.std.specs.Int.{w32, to_le_bytes}
use Rattle.std.specs.List.{list_all}
use Rattle.std.proofs.lemmas.Bool.{and_parts, and_from}
use Rattle.std.proofs.lemmas.Bool.Decides.{nat_tests}
use Rattle.std.proofs.lemmas.List.Folds.{list_all-append}
use Rattle.std.proofs.lemmas.List.Sums.{AllPass-from_list_all}
use Rattle.hex.specs.Hex.{lower_digits, encode_with, encode_lower}
use Rattle.hex.proofs.HexLemmas.{length-encode_with}
use Rattle.md5.specs.Md5.{digest_bytes, md5}
use Rattle.md5.proofs.StandardFacts.{length-md5}
use Rattle.pp_law.specs.Lists.{Bytes}
use Rattle.pp_target.specs.Name.{name_of}
use Rattle.pp_world.specs.Disk.{is_name_byte, is_name}

digit : (d : ℕ) → d < 16 → is_name_byte (slice_index lower_digits d) ≡ true
digit d lt = AllPass-from_list_all is_name_byte lower_digits refl d 0 lt

abbrev is_byte : ℕ → Bool
is_byte b = nat_lt b 256

digits : (bytes : List ℕ) → list_all is_byte bytes ≡ true → list_all is_name_byte (encode_lower bytes) ≡ true
unfolding encode_with
digits [] small = refl
digits (b ∷ bytes) small =
    let parts = and_parts (is_byte b) (list_all is_byte bytes) small in
    and_from _ _ (digit (b / 16) (high b parts.0)) (and_from _ _ (digit (b % 16) (omega arith)) (digits bytes parts.1))
  where
    high : (b : ℕ) → is_byte b ≡ true → b / 16 < 16
    high b small = grind (arith, nat_tests)

word_bytes : (n : ℕ) → list_all is_byte (to_le_bytes w32 n) ≡ true
word_bytes n = grind (arith, nat_tests)

digest_small : (h : List ℕ) (n : ℕ) → list_all is_byte (digest_bytes h n) ≡ true
unfolding digest_bytes
digest_small h zero = refl
digest_small h (suc n) =
    list_all-append is_byte (digest_bytes h n) (to_le_bytes w32 (slice_index h n))
    ∙ and_from (list_all is_byte (digest_bytes h n)) (list_all is_byte (to_le_bytes w32 (slice_index h n))) (digest_small h n) (word_bytes (slice_index h n))

md5_small : (key : Bytes) → list_all is_byte (md5 key) ≡ true
unfolding md5
md5_small key = digest_small _ 4

pub name_formed : (key : Bytes) → is_name (name_of key) ≡ true
unfolding name_of
name_formed key = and_from _ _
    (ap (λ (n : ℕ). n == 32) (length-encode_with lower_digits (md5 key) ∙ ap (λ (n : ℕ). 2 * n) (length-md5 key)))
    (digits (md5 key) (md5_small key))
