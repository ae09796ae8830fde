-- Worked examples of the grammars that all heads share (RFC 2616, sections 2.1, 2.2, 3.6.1 and 4.2).
use Rattle.std.proofs.Common.{refl, ℕ, List, [], ◌∷◌, Some, None, codes, true, false}
use Rattle.pp_text.proofs.Table.{Rows}
use Rattle.pp_text.specs.Bytes.{is_same, trim}
use Rattle.pp_text.specs.Fields.{Field, first_value, has_field, has_item, list_items, values_of}
use Rattle.pp_text.specs.Forwarding.{end_to_end}
use Rattle.pp_text.specs.Lists.{items_of}
use Rattle.pp_text.specs.Numbers.{hex_number_of, number_of}
use Rattle.pp_text.specs.Parts.{cut_at, sole}

a_number_is_digits_that_fit_64_bits : Rows number_of (
    (codes "0", Some 0)
    ∷ (codes "007", Some 7)
    ∷ (codes "1209600", Some 1209600)
    ∷ (codes "18446744073709551615", Some 18446744073709551615)
    ∷ (codes "00018446744073709551615", Some 18446744073709551615)
    ∷ (codes "18446744073709551616", None)
    ∷ (codes "99999999999999999999", None)
    ∷ (codes "", None)
    ∷ (codes "+1", None)
    ∷ (codes "-1", None)
    ∷ (codes " 1", None)
    ∷ (codes "1a", None)
    ∷ [])
a_number_is_digits_that_fit_64_bits = refl

a_hexadecimal_number_has_digits_of_both_cases : Rows hex_number_of (
    (codes "0", Some 0)
    ∷ (codes "1F", Some 31)
    ∷ (codes "aAfF", Some 43775)
    ∷ (codes "ffffffffffffffff", Some 18446744073709551615)
    ∷ (codes "0ffffffffffffffff", Some 18446744073709551615)
    ∷ (codes "10000000000000000", None)
    ∷ (codes "", None)
    ∷ (codes "0x10", None)
    ∷ (codes "g", None)
    ∷ [])
a_hexadecimal_number_has_digits_of_both_cases = refl

letters_are_the_same_in_either_case_and_nothing_else_is : Rows (λ (t : List ℕ × List ℕ). is_same t.0 t.1) (
    ((codes "Content-Length", codes "content-LENGTH"), true)
    ∷ ((codes "content-LENGTH", codes "Content-Length"), true)
    ∷ ((codes "", codes ""), true)
    ∷ ((codes "date", codes "dates"), false)
    ∷ ((codes "dates", codes "date"), false)
    ∷ ((codes "[", codes "{"), false)
    ∷ ((codes "{", codes "["), false)
    ∷ ((codes "@", codes "`"), false)
    ∷ ((codes "`", codes "@"), false)
    ∷ ((196 ∷ [], 228 ∷ []), false)
    ∷ ((228 ∷ [], 196 ∷ []), false)
    ∷ [])
letters_are_the_same_in_either_case_and_nothing_else_is = refl

spaces_and_tabs_alone_are_trimmed : Rows trim (
    (codes " \t a b\t ", codes "a b")
    ∷ (codes "\n a", codes "\n a")
    ∷ (codes " \t", codes "")
    ∷ [])
spaces_and_tabs_alone_are_trimmed = refl

a_text_is_cut_at_the_first_such_byte : Rows (cut_at 61) (
    (codes "max-age=60", Some (codes "max-age", codes "60"))
    ∷ (codes "a==b", Some (codes "a", codes "=b"))
    ∷ (codes "=", Some (codes "", codes ""))
    ∷ (codes "no-cache", None)
    ∷ [])
a_text_is_cut_at_the_first_such_byte = refl

a_sole_item_has_no_other_beside_it : Rows (λ (t : List ℕ). sole (items_of t)) (
    (codes " , 0-1,", Some (codes "0-1"))
    ∷ (codes "\"a,b\"", Some (codes "\"a,b\""))
    ∷ (codes "0-1, 3-4", None)
    ∷ (codes " ,", None)
    ∷ [])
a_sole_item_has_no_other_beside_it = refl

items_stand_between_commas_outside_quoted_strings : Rows items_of (
    (codes "a", codes "a" ∷ [])
    ∷ (codes "bytes=0-1 ,\tbytes=3-", codes "bytes=0-1" ∷ codes "bytes=3-" ∷ [])
    ∷ (codes ",, a ,,b, ,", codes "a" ∷ codes "b" ∷ [])
    ∷ (codes "", [])
    ∷ (codes " , ", [])
    ∷ (codes "no-cache=\"a, b\", max-age=1", codes "no-cache=\"a, b\"" ∷ codes "max-age=1" ∷ [])
    ∷ (codes "\"a\\\", b\", c", codes "\"a\\\", b\"" ∷ codes "c" ∷ [])
    ∷ (codes "\"a\\\\\", c", codes "\"a\\\\\"" ∷ codes "c" ∷ [])
    ∷ (codes "a\\\"b, c", codes "a\\\"b, c" ∷ [])
    ∷ [])
items_stand_between_commas_outside_quoted_strings = refl

-- ---- the fields of a head

abbrev head : List Field
head =
    (codes "Cache-Control", codes "max-age=60, no-cache") ∷ (codes "Date", codes "") ∷ (codes "cache-control", codes "\"a,b\" , private")
    ∷ (codes "Date", codes "x") ∷ []

fields_of_a_name_are_found_whatever_their_case : Rows (λ (name : List ℕ). values_of name head) (
    (codes "date", codes "" ∷ codes "x" ∷ [])
    ∷ (codes "dat", [])
    ∷ (codes "CACHE-CONTROL", codes "max-age=60, no-cache" ∷ codes "\"a,b\" , private" ∷ [])
    ∷ [])
fields_of_a_name_are_found_whatever_their_case = refl

the_first_field_of_a_name_counts : Rows (λ (name : List ℕ). first_value name head) (
    (codes "DATE", Some (codes ""))
    ∷ (codes "age", None)
    ∷ [])
the_first_field_of_a_name_counts = refl

two_fields_of_a_name_have_no_sole_value : Rows (λ (name : List ℕ). sole (values_of name head)) (
    (codes "date", None)
    ∷ (codes "age", None)
    ∷ [])
two_fields_of_a_name_have_no_sole_value = refl

a_field_is_there_or_not : Rows (λ (name : List ℕ). has_field name head) (
    (codes "Cache-control", true)
    ∷ (codes "expires", false)
    ∷ [])
a_field_is_there_or_not = refl

the_lists_of_all_fields_of_a_name_are_one_list : Rows (λ (name : List ℕ). list_items name head) (
    (codes "CACHE-CONTROL", codes "max-age=60" ∷ codes "no-cache" ∷ codes "\"a,b\"" ∷ codes "private" ∷ [])
    ∷ (codes "date", codes "x" ∷ [])
    ∷ [])
the_lists_of_all_fields_of_a_name_are_one_list = refl

an_item_is_among_them_or_not : Rows (λ (t : List ℕ × List ℕ). has_item t.0 t.1 head) (
    ((codes "cache-control", codes "Private"), true)
    ∷ ((codes "cache-control", codes "max-age"), false)
    ∷ ((codes "connection", codes "close"), false)
    ∷ [])
an_item_is_among_them_or_not = refl

-- ---- fields that a proxy does not forward (sections 13.5.1 and 14.10)

fields_for_one_connection_go_no_further : Rows end_to_end (
    ((codes "Connection", codes "x") ∷ (codes "B", codes "c") ∷ [], (codes "B", codes "c") ∷ [])
    ∷ ((codes "KEEP-ALIVE", codes "5") ∷ [], [])
    ∷ ((codes "Proxy-Authenticate", codes "Basic") ∷ (codes "Proxy-Authorization", codes "Basic a") ∷ [], [])
    ∷ ((codes "Proxy-Connection", codes "keep-alive") ∷ (codes "TE", codes "trailers") ∷ [], [])
    ∷ ((codes "Trailer", codes "a") ∷ (codes "Transfer-Encoding", codes "identity") ∷ (codes "Upgrade", codes "a") ∷ [], [])
    ∷ ((codes "X-Polipo-A", codes "b") ∷ (codes "X-Polipo", codes "b") ∷ [], (codes "X-Polipo", codes "b") ∷ [])
    ∷ ((codes "A", codes "b") ∷ (codes "Connection", codes "c, A") ∷ (codes "C", codes "d") ∷ (codes "D", codes "e") ∷ [], (codes "D", codes "e") ∷ [])
    ∷ [])
fields_for_one_connection_go_no_further = refl
