-- What a head block that is in the grammar says of its row.
use Rattle.std.proofs.Common.{◌≡◌, ℕ, ◌+◌, ◌-◌, ◌^◌, ◌≤◌, Bool, true, false, List, length, replicate, Option, Some, None, refl, sym, ◌∙◌, ap, subst, arith, length-append}
use Rattle.std.specs.Prelude.{◌&&◌, nat_le, nat_lt, bytes_eq, if◌then◌else◌, option_map}
use Rattle.std.proofs.lemmas.Option.{option_and_then_some}
use Rattle.std.proofs.lemmas.Bool.Decides.{nat_tests}
use Rattle.std.proofs.lemmas.Slice.Eq.{bytes_eq-Decides}
use Rattle.std.proofs.Math.ListN.{length-replicate}
use Rattle.pp_text.specs.Fields.{Field, field_at}
use Rattle.pp_text.specs.Numbers.{number_of}
use Rattle.pp_head.specs.Read.{Read, Whole, TooLong, Bad, More}
use Rattle.pp_head.specs.Response.{Response, response_at}
use Rattle.pp_valid.specs.TagStates.{tag_of}
use Rattle.pp_valid.specs.Versions.{strong_part}
use Rattle.pp_entry.specs.Entries.{Row, Own, is_sized, own_with, own_at, own_in, kept_in, is_spelled, row_with, row_of, row_if_spelled, row_from, row_at}
use Rattle.pp_entry.specs.Fields.{are_allowed}
use Rattle.pp_entry.specs.Texts.{head_text, fits, padded}

pub if_some : {A : Type 0} (b : Bool) (o : Option A) (y : A) → (if b then o else None) ≡ Some y → (b ≡ true) × (o ≡ Some y)
if_some true o y is = (refl, is)
if_some false o y is = absurd (cc)

pub both_true : (a b : Bool) → (a && b) ≡ true → (a ≡ true) × (b ≡ true)
both_true true b is = (refl, is)
both_true false b is = absurd (cc)

pub map_some : {A B : Type 0} (f : A → B) (o : Option A) (y : B) → option_map f o ≡ Some y → (x : A) × (o ≡ Some x) × (f x ≡ y)
map_some f None y is = absurd (cc)
map_some f (Some x) y is = (x, refl, (cc))

-- the block is how its row is written, and the body has 1 to 2^26 bytes
pub record IsSpelt (block : List ℕ) (row : Row) : Type 0 where
  pub block_is : block ≡ padded (head_text row.key row.version.length row.fields row.times)
  pub long : length block ≡ 8192
  pub sized : row.version.length ≤ 2 ^ 26

sized_with : (key : List ℕ) (count response initial n : ℕ) (own : Own) → own_with key count response initial n ≡ Some own → own.length ≤ 2 ^ 26
sized_with key count response initial n own is =
    let parts = if_some (is_sized n) (Some _) own is in
    let same : n ≡ own.length = ap (λ (o : Option Own). length_in o) parts.1 in
    let limits : nat_le n (2 ^ 26) ≡ true = (both_true (nat_le 1 n) (nat_le n (2 ^ 26)) parts.0).1 in
    subst (λ (k : ℕ). k ≤ 2 ^ 26) same (small n limits)
  where
    length_in : Option Own → ℕ
    length_in None = n
    length_in (Some o) = o.length

    small : (n : ℕ) → nat_le n (2 ^ 26) ≡ true → n ≤ 2 ^ 26
    small n le = grind (arith, nat_tests)

sized_at : (fields : List Field) (count : ℕ) (own : Own) → own_at fields count ≡ Some own → own.length ≤ 2 ^ 26
sized_at fields count own is =
    option_and_then_some _ (number_of (field_at fields (count + 1)).1) own is (λ response a one.
    option_and_then_some _ (number_of (field_at fields (count + 2)).1) own one (λ initial b two.
    option_and_then_some _ (number_of (field_at fields (count + 3)).1) own two (λ n c three.
    sized_with (field_at fields count).1 count response initial n own three)))

sized_in : (fields : List Field) (own : Own) → own_in fields ≡ Some own → own.length ≤ 2 ^ 26
sized_in fields own is = by (nat_lt (length fields) 5) is
  where
    by : (b : Bool) → (if b then None else own_at fields (length fields - 5)) ≡ Some own → own.length ≤ 2 ^ 26
    by true is = absurd (cc)
    by false is = sized_at fields (length fields - 5) own is

length-padded : (text : List ℕ) → length text ≤ 8192 → length (padded text) ≡ 8192
length-padded text le = omega (arith, le, length-append text (replicate {A = ℕ} (8192 - length text) 0), length-replicate {A = ℕ} (8192 - length text) 0)

spelt_own : (block : List ℕ) (own : Own) (kept : List Field) (row : Row) → own.length ≤ 2 ^ 26 → row_if_spelled block own kept ≡ Some row → IsSpelt block row
spelt_own block own kept row small is =
    let spelled = if_some (is_spelled block own kept) (row_of own kept) row is in
    let allowed = if_some (are_allowed kept own.times.response) (option_map (row_with own kept) (strong_part (tag_of kept))) row spelled.1 in
    let tag = map_some (row_with own kept) (strong_part (tag_of kept)) row allowed.1 in
    let text = head_text own.key own.length kept own.times in
    let parts = both_true (fits kept text) (bytes_eq (padded text) block) spelled.0 in
    let written : padded text ≡ block = (bytes_eq-Decides (padded text) block).0 parts.1 in
    let short : length text ≤ 8192 = le_of (length text) (both_true (nat_le (length kept) 95) (nat_le (length text) 8192) parts.0).1 in
    subst (IsSpelt block) tag.2 (record {
      block_is = sym written;
      long = ap (λ (b : List ℕ). length b) (sym written) ∙ length-padded text short;
      sized = small;
    })
  where
    le_of : (n : ℕ) → nat_le n 8192 ≡ true → n ≤ 8192
    le_of n le = grind (arith, nat_tests)

pub spelt : (block : List ℕ) (row : Row) → row_at block ≡ Some row → IsSpelt block row
unfolding row_at
spelt block row is = by (response_at block) is
  where
    by : (read : Read Response) → row_from block read ≡ Some row → IsSpelt block row
    by (Whole head) is = option_and_then_some (λ own. row_if_spelled block own (kept_in own head.fields)) (own_in head.fields) row is
        (λ own own_is row_is. spelt_own block own (kept_in own head.fields) row (sized_in head.fields own own_is) row_is)
    by TooLong is = absurd (cc)
    by Bad is = absurd (cc)
    by More is = absurd (cc)

pub none_or : {A : Type 0} (o : Option A) → ((x : A) → o ≡ Some x → ⊥) → o ≡ None
none_or None never = refl
none_or (Some x) never = absurd (never x refl)

-- a block of another length is none
pub row_short : (block : List ℕ) → (length block ≡ 8192 → ⊥) → row_at block ≡ None
row_short block not = none_or (row_at block) (λ row is. not (spelt block row is).long)
