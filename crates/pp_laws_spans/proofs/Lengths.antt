-- What a response tells of its body: how long it is, and which part.
use Rattle.std.proofs.Common.{◌≡◌, refl, ℕ, ◌+◌, ◌-◌, ◌<◌, ◌≤◌, nat_le, nat_lt, Bool, true, false, ◌==◌, ◌&&◌, ◌||◌, cond, List, [], ◌∷◌, map, filter, fold, flat_map, is_some, Option, Some, None, option_and_then, Result, Ok, Err, if◌then◌else◌, codes, slice_get, bytes_eq, subst, ap, ◌∙◌, arith}
use Rattle.std.specs.List.{list_all, list_any, filter_map, cons_option}
use Rattle.std.proofs.lemmas.Bool.Decides.{nat_tests}
use Rattle.pp_framing.specs.Framing.{all_equal, by_length, coding_of, framed, framing_of, has_no_body, is_other, length_of, response_body, rule_of, with_coding}
use Rattle.pp_framing.specs.declared.body.BodyRule.{BodyRule}
use Rattle.pp_framing.specs.declared.body.BodyRule.TheVariants.{Empty, Length}
use Rattle.pp_framing.specs.declared.framing.FramingFault.{FramingFault}
use Rattle.pp_framing.specs.declared.framing.FramingFault.TheVariants.{OtherCoding, TwoLengths, BadLength}
use Rattle.pp_framing.specs.declared.framing.ResponseFault.{ResponseFault}
use Rattle.pp_framing.specs.declared.framing.ResponseFault.TheVariants.{NoStatus}
use Rattle.pp_text.specs.Bytes.{is_same}
use Rattle.pp_text.specs.Fields.{Field, has_field, is_named, list_items, values_of}
use Rattle.pp_text.specs.Lists.{items_of}
use Rattle.pp_text.specs.Numbers.{number_of}
use Rattle.pp_text.specs.Parts.{cut_at, sole}
use Rattle.pp_valid.specs.ContentRanges.{content_range_of, range_in as range_by, range_of_value, response_range, span_in, span_of, unit_range}
use Rattle.pp_valid.specs.EndToEnd.{end_to_end_values, is_dropped}
use Rattle.pp_valid.specs.TagStates.{tag_of}
use Rattle.pp_valid.specs.Versions.{body_length, can_keep, can_share, complete_length, is_number, is_telling, length_in, strong_part, total_by, total_of, version_of, version_with}
use Rattle.pp_valid.specs.declared.content_range.ContentRange.{ContentRange}
use Rattle.pp_valid.specs.declared.content_range.ContentRange.TheVariants.{Span, Unsatisfied}
use Rattle.pp_valid.specs.declared.version.Version.{Version}
use Rattle.pp_laws.proofs.Tests.{first_holds, same_number, second_holds}

-- ---- a Content-Range is in order

abbrev pub Ranged : Option ContentRange → Type 0
Ranged None = Unit {0}
Ranged (Some (Unsatisfied n)) = Unit {0}
Ranged (Some (Span first last n)) = (first ≤ last) × (last < n)

ranged_then : {A : Type 0} (f : A → Option ContentRange) (o : Option A) → ((a : A) → Ranged (f a)) → Ranged (option_and_then f o)
ranged_then f None each = tt
ranged_then f (Some a) each = each a

ranged_if : (t : Bool) (x y : Option ContentRange) → Ranged x → Ranged y → Ranged (if t then x else y)
ranged_if true x y hx hy = hx
ranged_if false x y hx hy = hy

span_ranged : (first last n : ℕ) (t : Bool) → (nat_le first last && nat_lt last n) ≡ t → Ranged (if t then Some (Span first last n) else None)
span_ranged first last n true is = (grind (arith, nat_tests), grind (arith, nat_tests))
span_ranged first last n false is = tt

ends_ranged : (ends : List ℕ × List ℕ) (n : ℕ) → Ranged (span_in ends n)
ends_ranged ends n = ranged_then _ (number_of ends.0) (λ first. ranged_then (λ last. span_of first last n) (number_of ends.1) (λ last. span_ranged first last n (nat_le first last && nat_lt last n) refl))

parts_ranged : (parts : List ℕ × List ℕ) (n : ℕ) → Ranged (range_by parts n)
parts_ranged parts n = ranged_if (bytes_eq parts.0 (codes "*")) (Some (Unsatisfied n)) _ tt (ranged_then (λ ends. span_in ends n) (cut_at 45 parts.0) (λ ends. ends_ranged ends n))

response_ranged : (parts : List ℕ × List ℕ) → Ranged (response_range parts)
response_ranged parts = ranged_then (range_by parts) (number_of parts.1) (parts_ranged parts)

unit_ranged : (parts : List ℕ × List ℕ) → Ranged (unit_range parts)
unit_ranged parts = ranged_if (is_same (codes "bytes") parts.0) _ None (ranged_then response_range (cut_at 47 parts.1) response_ranged) tt

value_ranged : (value : List ℕ) → Ranged (range_of_value value)
value_ranged value = ranged_then unit_range (cut_at 32 value) unit_ranged

pub range_ranged : (fields : List Field) → Ranged (content_range_of fields)
range_ranged fields = ranged_then range_of_value (sole (end_to_end_values (codes "content-range") fields)) value_ranged

-- ---- how long the body is, and which part

pub data Told (status : ℕ) (fields : List Field) (n : ℕ) : Type 0 where
  whole : (status == 200) ≡ true → body_length fields ≡ Some n → Told status fields n
  part : (status == 206) ≡ true → (first last : ℕ) → content_range_of fields ≡ Some (Span first last n) → body_length fields ≡ Some (last - first + 1) → Told status fields n

part_told : (status : ℕ) (fields : List Field) (n len : ℕ) (range : Option ContentRange) → (status == 206) ≡ true → content_range_of fields ≡ range → body_length fields ≡ Some len → complete_length range len ≡ Some n → Told status fields n
part_told status fields n len None is range told total = absurd (cc total)
part_told status fields n len (Some (Unsatisfied m)) is range told total = absurd (cc total)
part_told status fields n len (Some (Span first last m)) is range told total = by (len == last - first + 1) refl total
  where
    by : (t : Bool) → (len == last - first + 1) ≡ t → (if t then Some m else None) ≡ Some n → Told status fields n
    by true same at =
        let one : m ≡ n = cc at in
        part is first last (range ∙ ap (λ k. Some (Span first last k)) one) (told ∙ ap (λ k. Some k) (same_number len (last - first + 1) same))
    by false same at = absurd (cc at)

total_told : (status : ℕ) (fields : List Field) (n : ℕ) → total_of fields status ≡ Some n → Told status fields n
total_told status fields n is = by (body_length fields) refl is
  where
    by_part : (len : ℕ) (t : Bool) → (status == 206) ≡ t → body_length fields ≡ Some len → (if t then complete_length (content_range_of fields) len else None) ≡ Some n → Told status fields n
    by_part len true at told total = part_told status fields n len (content_range_of fields) at refl told total
    by_part len false at told total = absurd (cc total)

    by_status : (len : ℕ) (t : Bool) → (status == 200) ≡ t → body_length fields ≡ Some len → (if t then Some len else (if status == 206 then complete_length (content_range_of fields) len else None)) ≡ Some n → Told status fields n
    by_status len true at told total = whole at (told ∙ total)
    by_status len false at told total = by_part len (status == 206) refl told total

    by : (o : Option ℕ) → body_length fields ≡ o → option_and_then (total_by status fields) o ≡ Some n → Told status fields n
    by None told at = absurd (cc at)
    by (Some len) told at = by_status len (status == 200) refl told at

pub version_told : (fields : List Field) (status : ℕ) (only : Bool) (v : Version) → version_of fields status only ≡ Some v → Told status fields v.length
version_told fields status only v is = by_tag (strong_part (tag_of fields)) is
  where
    by_test : (tag : List ℕ) (n : ℕ) (t : Bool) → total_of fields status ≡ Some n → (if t then Some (record { tag = tag; length = n }) else None) ≡ Some v → Told status fields v.length
    by_test tag n true total at = let e : (record { tag = tag; length = n }) ≡ v = cc at in subst (λ (w : Version). Told status fields w.length) e (total_told status fields n total)
    by_test tag n false total at = absurd (cc at)

    by_total : (tag : List ℕ) (o : Option ℕ) → total_of fields status ≡ o → option_and_then (version_with fields only tag) o ≡ Some v → Told status fields v.length
    by_total tag None total at = absurd (cc at)
    by_total tag (Some n) total at = by_test tag n (is_telling tag && (can_keep fields n && can_share fields only)) total at

    by_tag : (o : Option (List ℕ)) → option_and_then (λ tag. option_and_then (version_with fields only tag) (total_of fields status)) o ≡ Some v → Told status fields v.length
    by_tag None at = absurd (cc at)
    by_tag (Some tag) at = by_total tag (total_of fields status) refl at

-- ---- so its rule is that length

none_named : (p : Field → Bool) (fs : List Field) → list_any p fs ≡ false → filter p fs ≡ []
none_named p [] none = refl
none_named p (f ∷ fs) none = by (p f) none (none_named p fs)
  where
    by : (t : Bool) → (t || list_any p fs) ≡ false → (list_any p fs ≡ false → filter p fs ≡ []) → cond t (f ∷ filter p fs) (filter p fs) ≡ []
    by true is rest = absurd (cc is)
    by false is rest = rest is

no_items : (fields : List Field) → has_field (codes "transfer-encoding") fields ≡ false → list_items (codes "transfer-encoding") fields ≡ []
no_items fields none = ap (λ (fs : List Field). flat_map items_of (map (λ f. f.1) fs)) (none_named (is_named (codes "transfer-encoding")) fields none)

-- its coding is that of a response without fields
uncoded : (fields : List Field) → has_field (codes "transfer-encoding") fields ≡ false → coding_of fields ≡ coding_of []
uncoded fields none = ap (λ (items : List (List ℕ)). fold with_coding (coding_of []) items) (no_items fields none)

-- the others say the same
record Agree (len : ℕ) (values : List (List ℕ)) : Type 0 where
  same : list_all (λ m. m == len) (filter_map number_of values) ≡ true
  read : list_all (λ value. is_some (number_of value)) values ≡ true

agreed : (len : ℕ) (values : List (List ℕ)) → list_all (λ other. is_number len (number_of other)) values ≡ true → Agree len values
agreed len [] is = record { same = refl; read = refl }
agreed len (value ∷ values) is = by (number_of value) refl is (agreed len values)
  where
    by : (o : Option ℕ) → number_of value ≡ o → (is_number len o && list_all (λ other. is_number len (number_of other)) values) ≡ true → (list_all (λ other. is_number len (number_of other)) values ≡ true → Agree len values)
        → Agree len (value ∷ values)
    by None found at rest = absurd (cc at)
    by (Some m) found at rest =
        let more = rest (second_holds (m == len) (list_all (λ other. is_number len (number_of other)) values) at) in
        record {
          same = ap (λ (o : Option ℕ). list_all (λ k. k == len) (cons_option o (filter_map number_of values))) found ∙ ap (λ b. b && list_all (λ k. k == len) (filter_map number_of values)) (first_holds (m == len) _ at) ∙ more.same;
          read = ap (λ (o : Option ℕ). is_some o && list_all (λ v. is_some (number_of v)) values) found ∙ more.read;
        }

length_told : (len : ℕ) (values : List (List ℕ)) → length_in values ≡ Some len → length_of values ≡ Ok (Some len)
length_told len [] is = absurd (cc is)
length_told len (value ∷ values) is = by (number_of value) refl is
  where
    told : (n : ℕ) → number_of value ≡ Some n → Agree n values → length_of (value ∷ values) ≡ Ok (Some n)
    told n found agree =
        ap (λ (o : Option ℕ). elim (all_equal (cons_option o (filter_map number_of values))) as (λ c. Result (Option ℕ) FramingFault) [
          | false ↦ Err TwoLengths
          | true ↦ elim (is_some o && list_all (λ v. is_some (number_of v)) values) as (λ c. Result (Option ℕ) FramingFault) [ true ↦ Ok (slice_get (cons_option o (filter_map number_of values)) 0) | false ↦ Err BadLength ]
        ]) found
        ∙ ap (λ b. elim b as (λ c. Result (Option ℕ) FramingFault) [
          | false ↦ Err TwoLengths
          | true ↦ elim (list_all (λ v. is_some (number_of v)) values) as (λ c. Result (Option ℕ) FramingFault) [ true ↦ Ok (Some n) | false ↦ Err BadLength ]
        ]) agree.same
        ∙ ap (λ b. elim b as (λ c. Result (Option ℕ) FramingFault) [ true ↦ Ok (Some n) | false ↦ Err BadLength ]) agree.read

    by_test : (n : ℕ) (t : Bool) → number_of value ≡ Some n → list_all (λ other. is_number n (number_of other)) values ≡ t → (if t then Some n else None) ≡ Some len → length_of (value ∷ values) ≡ Ok (Some len)
    by_test n true found all at = told n found (agreed n values all) ∙ ap (λ (o : Option ℕ). Ok o) at
    by_test n false found all at = absurd (cc at)

    by : (o : Option ℕ) → number_of value ≡ o → option_and_then (λ n. if list_all (λ other. is_number n (number_of other)) values then Some n else None) o ≡ Some len → length_of (value ∷ values) ≡ Ok (Some len)
    by None found at = absurd (cc at)
    by (Some n) found at = by_test n (list_all (λ other. is_number n (number_of other)) values) found refl at

record Said (fields : List Field) (len : ℕ) : Type 0 where
  uncoded : has_field (codes "transfer-encoding") fields ≡ false
  length : length_in (values_of (codes "content-length") fields) ≡ Some len

said_in : (fields : List Field) (len : ℕ) → body_length fields ≡ Some len → Said fields len
said_in fields len is = by (has_field (codes "transfer-encoding") fields) refl is
  where
    by_drop : (t : Bool) → length_in (if t then [] else values_of (codes "content-length") fields) ≡ Some len → length_in (values_of (codes "content-length") fields) ≡ Some len
    by_drop true at = absurd (cc at)
    by_drop false at = at

    by : (t : Bool) → has_field (codes "transfer-encoding") fields ≡ t → (if t then None else length_in (end_to_end_values (codes "content-length") fields)) ≡ Some len → Said fields len
    by true has at = absurd (cc at)
    by false none at = record { uncoded = none; length = by_drop (is_dropped (codes "content-length") fields) at }

-- of a status that has a body
pub rule_told : (status : ℕ) (fields : List Field) (len : ℕ) → nat_lt status 100 ≡ false → has_no_body false status ≡ false → body_length fields ≡ Some len → rule_of false status fields ≡ Ok (Length len)
rule_told status fields len valid bodied told =
    let said = said_in fields len told in
    let coding = uncoded fields said.uncoded in
    let length = length_told len (values_of (codes "content-length") fields) said.length in
    ap (λ b. elim b as (λ c. Result BodyRule ResponseFault) [ true ↦ Err NoStatus | false ↦ framed (framing_of false status fields) ]) valid
    ∙ ap (λ c0. framed (elim (is_other c0) as (λ c. Result BodyRule FramingFault) [
      | true ↦ Err OtherCoding
      | false ↦ by_length (length_of (values_of (codes "content-length") fields)) (λ n. elim (has_no_body false status) as (λ c. BodyRule) [ true ↦ Empty | false ↦ response_body c0 n ])
    ])) coding
    ∙ ap (λ (r : Result (Option ℕ) FramingFault). framed (by_length r (λ n. elim (has_no_body false status) as (λ c. BodyRule) [ true ↦ Empty | false ↦ response_body (coding_of []) n ]))) length
    ∙ ap (λ b. framed (Ok (elim b as (λ c. BodyRule) [ true ↦ Empty | false ↦ Length len ]))) bodied
