-- What passes the tests can be written, and nothing else.
use Rattle.std.proofs.Common.{◌≡◌, ◌<◌, ◌^◌, ◌∙◌, ℕ, Bool, true, false, ◌&&◌, List, length, Option, Some, None, ap, refl, arith}
use Rattle.std.specs.Prelude.{◌↔◌, nat_lt}
use Rattle.std.proofs.lemmas.Bool.{and_parts}
use Rattle.std.proofs.lemmas.Bool.Decides.{nat_tests}
use Rattle.std.proofs.lemmas.List.Elements.{All-weaker}
use Rattle.std.proofs.lemmas.List.Sums.{AllPass-from_list_all, list_all-from_AllPass}
use Rattle.std.proofs.lemmas.Slice.Eq.{bytes_eq-Decides}
use Rattle.httparse.specs.Grammar.{is_token, is_token_byte, is_uri_byte, is_value_byte}
use Rattle.pp_text.specs.Bytes.{trim}
use Rattle.pp_text.specs.Fields.{Field}
use Rattle.pp_valid.specs.TagStates.{tag_of}
use Rattle.pp_valid.specs.Versions.{strong_part}
use Rattle.pp_head.specs.Agreement.{IsFieldText}
use Rattle.pp_entry.specs.Entries.{Row}
use Rattle.pp_entry.specs.Spelling.{CanBeWritten}
use Rattle.pp_shelf.specs.Texts.{is_tag, is_text, is_trimmed, is_writable}

some_bytes : (n : ℕ) → nat_lt 0 n ≡ true → 0 < n
some_bytes n is = grind (arith, nat_tests)

text_is : (field : Field) → is_text field ≡ true → IsFieldText field
text_is field is =
    let parts = and_parts _ _ is in
    let name = and_parts _ _ parts.0 in
    let value = and_parts _ _ parts.1 in
    record {
      name = (some_bytes (length field.0) name.0, AllPass-from_list_all is_token_byte field.0 name.1);
      value = AllPass-from_list_all is_value_byte field.1 value.0;
      trimmed = (bytes_eq-Decides (trim field.1) field.1).0 value.1;
    }

both_true : (a b : Bool) → a ≡ true → b ≡ true → (a && b) ≡ true
both_true a b one two = ap (λ (t : Bool). t && b) one ∙ two

is_some : (n : ℕ) → 0 < n → nat_lt 0 n ≡ true
is_some n some = grind (arith, nat_tests)

text_of : (field : Field) → IsFieldText field → is_text field ≡ true
text_of field text =
    both_true (is_token field.0) (is_trimmed field.1)
    (both_true _ _ (is_some (length field.0) text.name.0) (list_all-from_AllPass is_token_byte field.0 text.name.1))
    (both_true _ _ (list_all-from_AllPass is_value_byte field.1 text.value) ((bytes_eq-Decides (trim field.1) field.1).1 text.trimmed))

tag_is : (tag : List ℕ) (part : Option (List ℕ)) → is_tag tag part ≡ true → part ≡ Some tag
tag_is tag None is = absurd (let bad : false ≡ true = is in cc)
tag_is tag (Some other) is = ap Some ((bytes_eq-Decides other tag).0 is)

tag_of_part : (tag : List ℕ) (part : Option (List ℕ)) → part ≡ Some tag → is_tag tag part ≡ true
tag_of_part tag part is = ap (is_tag tag) is ∙ (bytes_eq-Decides tag tag).1 refl

can : (row : Row) → row.times.response < 2 ^ 64 → row.times.initial < 2 ^ 64 → is_writable row.key row.version row.fields row.times ≡ true → CanBeWritten row
can row response initial is =
    let tagged = and_parts _ _ is in
    let parts = and_parts _ _ tagged.0 in
    let place = and_parts _ _ parts.0 in
    let kept = and_parts _ _ parts.1 in
    record {
      fields = All-weaker (λ f. is_text f ≡ true) IsFieldText text_is row.fields (AllPass-from_list_all is_text row.fields kept.0);
      allowed = kept.1;
      tag = tag_is row.version.tag (strong_part (tag_of row.fields)) tagged.1;
      key = AllPass-from_list_all is_uri_byte row.key place.0;
      sized = place.1;
      response = response;
      initial = initial;
    }

must : (row : Row) → CanBeWritten row → is_writable row.key row.version row.fields row.times ≡ true
must row held =
    both_true _ _
    (both_true _ _
    (both_true _ _ (list_all-from_AllPass is_uri_byte row.key held.key) held.sized)
    (both_true _ _ (list_all-from_AllPass is_text row.fields (All-weaker IsFieldText (λ f. is_text f ≡ true) text_of row.fields held.fields)) held.allowed))
    (tag_of_part row.version.tag (strong_part (tag_of row.fields)) held.tag)

pub writable : (row : Row) → row.times.response < 2 ^ 64 → row.times.initial < 2 ^ 64 → (is_writable row.key row.version row.fields row.times ≡ true) ↔ CanBeWritten row
writable row response initial = (can row response initial, must row)
