-- How long a head is that is written anew: of a head within the limits, under a short name.
use Rattle.std.proofs.Common.{◌≡◌, refl, ℕ, ◌+◌, ◌*◌, ◌<◌, ◌≤◌, ◌^◌, nat_lt, Bool, true, false, ◌==◌, ◌&&◌, ◌||◌, not, cond, List, [], ◌∷◌, ◌++◌, filter, fold, length, sum_by, Option, Some, None, Result, Ok, Err, codes, decimal, length-append, subst, sym, zero-le, arith, lit<}
use Rattle.std.proofs.lemmas.Bool.Decides.{nat_tests}
use Rattle.std.proofs.lemmas.Fmt.{length-decimal-le}
use Rattle.std.proofs.lemmas.List.{length-map}
use Rattle.std.proofs.lemmas.List.Sums.{sum_by-cons}
use Rattle.std.specs.Char.{is_digit, to_ascii_lowercase}
use Rattle.std.specs.List.{cons_option, filter_map, flat_map, list_all}
use Rattle.std.specs.Prelude.{option_and_then, slice_get, is_some}
use Rattle.pp_framing.specs.Framing.{all_equal, coding_of, framed, framing_of, by_length, has_no_body, is_identity, is_other, length_of, response_body, rule_of, with_coding}
use Rattle.pp_framing.specs.declared.body.BodyRule.{BodyRule}
use Rattle.pp_framing.specs.declared.body.BodyRule.TheVariants.{Empty, Length, Chunked, ToEnd}
use Rattle.pp_framing.specs.declared.framing.FramingFault.{FramingFault}
use Rattle.pp_framing.specs.declared.framing.FramingFault.TheVariants.{BadLength, OtherCoding, TwoLengths}
use Rattle.pp_framing.specs.declared.framing.ResponseFault.{ResponseFault}
use Rattle.pp_framing.specs.declared.framing.ResponseFault.TheVariants.{NoStatus}
use Rattle.pp_head.specs.Agreement.{field_len}
use Rattle.pp_head.specs.Response.{Response}
use Rattle.pp_origins.proofs.HeadLimits.{read_keeps_limits}
use Rattle.pp_pipe.specs.Answers.{WasRead}
use Rattle.pp_reply.specs.Keeping.{is_end_known, is_old}
use Rattle.pp_reply.specs.Texts.{connection_line, crlf, field_line, framing_line, goes_on, length_line, line, optional_length_line, passed_lines, received_length, status_line, via_line}
use Rattle.pp_text.specs.Bytes.{is_empty, is_same, lower}
use Rattle.pp_text.specs.Fields.{Field, first_value, has_field, list_items, values_of}
use Rattle.pp_text.specs.Numbers.{number_of, value_of}
use Rattle.pp_given_law.proofs.ReadHeads.{head_was_read}
use Rattle.pp_given_law.specs.Heads.{HeadsAreShort}
use Rattle.pp_given_law.specs.Stays.{HasRoomAs}

-- ---- a number that was read has 64 bits

abbrev IsNumber : Option ℕ → Type 0
IsNumber None = Unit {0}
IsNumber (Some n) = n < 2 ^ 64

less_is : (n m : ℕ) → nat_lt n m ≡ true → n < m
less_is n m is = grind (arith, nat_tests)

number_fits : (text : List ℕ) → IsNumber (number_of text)
number_fits text = by (not (is_empty text)) (list_all (λ b. is_digit b 10) text) (nat_lt (value_of 10 text) (2 ^ 64)) refl
  where
    by : (some digits small : Bool) → nat_lt (value_of 10 text) (2 ^ 64) ≡ small → IsNumber (cond (some && digits && small) (Some (value_of 10 text)) None)
    by true true true is = less_is (value_of 10 text) (2 ^ 64) is
    by true true false is = tt
    by true false small is = tt
    by false digits small is = tt

first_fits : (values : List (List ℕ)) → IsNumber (slice_get (filter_map number_of values) 0)
first_fits [] = tt
first_fits (value ∷ values) = by (number_of value) (number_fits value) (first_fits values)
  where
    by : (o : Option ℕ) → IsNumber o → IsNumber (slice_get (filter_map number_of values) 0) → IsNumber (slice_get (cons_option o (filter_map number_of values)) 0)
    by None is others = others
    by (Some n) is others = is

-- ---- so the length has that delimits a body

abbrev IsRule : BodyRule → Type 0
IsRule (Length n) = n < 2 ^ 64
IsRule Empty = Unit {0}
IsRule Chunked = Unit {0}
IsRule ToEnd = Unit {0}

abbrev IsLength : Result (Option ℕ) FramingFault → Type 0
IsLength (Ok o) = IsNumber o
IsLength (Err fault) = Unit {0}

abbrev HasRule : Result BodyRule FramingFault → Type 0
HasRule (Ok rule) = IsRule rule
HasRule (Err fault) = Unit {0}

length_fits : (values : List (List ℕ)) → IsLength (length_of values)
length_fits values = by (all_equal (filter_map number_of values)) (list_all (λ value. is_some (number_of value)) values)
  where
    by : (same all : Bool) → IsLength (elim same as (λ z. Result (Option ℕ) FramingFault) [ false ↦ Err TwoLengths | true ↦ elim all as (λ z. Result (Option ℕ) FramingFault) [ true ↦ Ok (slice_get (filter_map number_of values) 0) | false ↦ Err BadLength ] ])
    by false all = tt
    by true true = first_fits values
    by true false = tt

-- by the items of its codings, one behind the other: what a coding may be has no name out of pp_framing
folded : {C X : Type 0} (P : C → Type 0) (step : C → X → C) (first : C) (xs : List X) → P first → ((c : C) (x : X) → P c → P (step c x)) → P (fold step first xs)
folded P step first [] its next = its
folded P step first (x ∷ xs) its next = folded P step (step first x) xs (next first x its) next

one_of : {C : Type 0} (P : C → Type 0) (a b : Bool) (c d e : C) → P c → P d → P e → P (elim a as (λ z. C) [ true ↦ c | false ↦ elim b as (λ z. C) [ true ↦ d | false ↦ e ] ])
one_of P true b c d e one two three = one
one_of P false true c d e one two three = two
one_of P false false c d e one two three = three

by_its_length : (body : Option ℕ → BodyRule) → body None ≡ ToEnd → ((n : ℕ) → body (Some n) ≡ Length n) → (o : Option ℕ) → IsNumber o → IsRule (body o)
by_its_length body none some None is = subst IsRule (sym none) tt
by_its_length body none some (Some n) is = subst IsRule (sym (some n)) is

body_fits : (fields : List Field) (o : Option ℕ) → IsNumber o → IsRule (response_body (coding_of fields) o)
body_fits fields =
    folded (λ c. (o : Option ℕ) → IsNumber o → IsRule (response_body c o)) with_coding (coding_of []) (list_items (codes "transfer-encoding") fields)
    (by_its_length (response_body (coding_of [])) refl (λ n. refl))
    (λ c item its.
    one_of (λ d. (o : Option ℕ) → IsNumber o → IsRule (response_body d o)) (is_same item (codes "identity")) (is_same item (codes "chunked") && is_identity c) c _ _
    its
    (λ o is. tt)
    (by_its_length (response_body (with_coding (coding_of []) (codes "x"))) refl (λ n. refl)))

framing_fits : (asks_head : Bool) (status : ℕ) (fields : List Field) → HasRule (framing_of asks_head status fields)
framing_fits asks_head status fields = by (is_other (coding_of fields)) (length_of (values_of (codes "content-length") fields)) (length_fits (values_of (codes "content-length") fields))
  where
    rule : Bool → Option ℕ → BodyRule
    rule none o = elim none as (λ z. BodyRule) [ true ↦ Empty | false ↦ response_body (coding_of fields) o ]

    either : (none : Bool) (o : Option ℕ) → IsNumber o → IsRule (rule none o)
    either true o is = tt
    either false o is = body_fits fields o is

    by : (other : Bool) (r : Result (Option ℕ) FramingFault) → IsLength r → HasRule (elim other as (λ z. Result BodyRule FramingFault) [ true ↦ Err OtherCoding | false ↦ by_length r (rule (has_no_body asks_head status)) ])
    by true r is = tt
    by false (Ok o) is = either (has_no_body asks_head status) o is
    by false (Err fault) is = tt

rule_fits : (asks_head : Bool) (status : ℕ) (fields : List Field) (rule : BodyRule) → rule_of asks_head status fields ≡ Ok rule → IsRule rule
rule_fits asks_head status fields rule is = by (nat_lt status 100) (framing_of asks_head status fields) (framing_fits asks_head status fields) is
  where
    by : (few : Bool) (r : Result BodyRule FramingFault) → HasRule r → elim few as (λ z. Result BodyRule ResponseFault) [ true ↦ Err NoStatus | false ↦ framed r ] ≡ Ok rule → IsRule rule
    by true r has is = absurd (cc is)
    by false (Ok x) has is = let same : x ≡ rule = cc is in subst IsRule same has
    by false (Err fault) has is = absurd (cc is)

-- ---- lines

number_len : (n : ℕ) → n < 2 ^ 64 → length (decimal n) ≤ 20
number_len n fits = length-decimal-le 20 n (lit< tt) (omega (arith, fits)) fits

line_len : (name value : List ℕ) → length (line name value) ≡ length name + 4 + length value
line_len name value =
    let a = length-append name (codes ": ") in
    let b = length-append (name ++ codes ": ") value in
    let c = length-append (name ++ codes ": " ++ value) crlf in
    omega arith

length_len : (n : ℕ) → n < 2 ^ 64 → length (length_line n) ≤ 38
length_len n fits = let a = line_len (codes "content-length") (decimal n) in let b = number_len n fits in omega arith

optional_len : (o : Option ℕ) → IsNumber o → length (optional_length_line o) ≤ 38
optional_len None is = zero-le
optional_len (Some n) is = length_len n is

connection_len : (keep : Bool) → length (connection_line keep) ≤ 24
connection_len true = let a = line_len (codes "connection") (codes "keep-alive") in omega arith
connection_len false = let a = line_len (codes "connection") (codes "close") in omega arith

via_len : (name : List ℕ) → length name ≤ 64 → length (via_line name) ≤ 75
via_len name le =
    let a = length-append (codes "via: 1.1 ") name in
    let b = length-append (codes "via: 1.1 " ++ name) crlf in
    omega arith

received_fits : (fields : List Field) → IsNumber (received_length fields)
received_fits fields = by (has_field (codes "transfer-encoding") fields) (first_value (codes "content-length") fields)
  where
    by : (coded : Bool) (o : Option (List ℕ)) → IsNumber (elim coded as (λ z. Option ℕ) [ true ↦ None | false ↦ option_and_then number_of o ])
    by true o = tt
    by false None = tt
    by false (Some text) = number_fits text

chunked_len : (old : Bool) → length (elim old as (λ z. List ℕ) [ true ↦ [] | false ↦ line (codes "transfer-encoding") (codes "chunked") ]) ≤ 38
chunked_len true = zero-le
chunked_len false = let a = line_len (codes "transfer-encoding") (codes "chunked") in omega arith

framing_len : (rule : BodyRule) (minor : ℕ) (is_described : Bool) (fields : List Field) → IsRule rule → length (framing_line rule minor is_described fields) ≤ 38
framing_len Empty minor true fields is = optional_len (received_length fields) (received_fits fields)
framing_len Empty minor false fields is = zero-le
framing_len (Length n) minor is_described fields is = length_len n is
framing_len Chunked minor is_described fields is = chunked_len (is_old minor)
framing_len ToEnd minor is_described fields is = chunked_len (is_old minor)

-- ---- the lines of its fields: each has two bytes more than are counted of it

field_size : (f : Field) → length (field_line f) ≡ field_len f + 2
field_size f = let a = line_len (lower f.0) f.1 in let b = length-map f.0 to_ascii_lowercase in omega arith

lines_len : (p : Field → Bool) (fields : List Field) → length (flat_map field_line (filter p fields)) ≤ sum_by field_len fields + 2 * length fields
lines_len p [] = zero-le
lines_len p (f ∷ fields) = by (p f) (lines_len p fields)
  where
    by : (t : Bool) → length (flat_map field_line (filter p fields)) ≤ sum_by field_len fields + 2 * length fields
        → length (flat_map field_line (cond t (f ∷ filter p fields) (filter p fields))) ≤ sum_by field_len (f ∷ fields) + 2 * length (f ∷ fields)
    by true le =
        let a = length-append (field_line f) (flat_map field_line (filter p fields)) in
        let b = sum_by-cons field_len f fields in
        let c = field_size f in
        omega arith
    by false le = let b = sum_by-cons field_len f fields in omega arith

status_len : (head : Response) → head.status < 1000 → length (status_line head) ≤ 32 + length head.reason
status_len head few =
    let a = length-append (codes "HTTP/1.1 ") (decimal head.status) in
    let b = length-append (codes "HTTP/1.1 " ++ decimal head.status) (codes " ") in
    let c = length-append (codes "HTTP/1.1 " ++ decimal head.status ++ codes " ") head.reason in
    let d = length-append (codes "HTTP/1.1 " ++ decimal head.status ++ codes " " ++ head.reason) crlf in
    let e = number_len head.status (omega (arith, few)) in
    omega arith

-- ---- all of it

texts_len : (status lines via framing connection : List ℕ) (n : ℕ) → length status + length lines ≤ n → length via ≤ 75 → length framing ≤ 38 → length connection ≤ 24
    → length (status ++ lines ++ via ++ framing ++ connection ++ crlf) ≤ n + 139
texts_len status lines via framing connection n le one two three =
    let a = length-append status lines in
    let b = length-append (status ++ lines) via in
    let c = length-append (status ++ lines ++ via) framing in
    let d = length-append (status ++ lines ++ via ++ framing) connection in
    let e = length-append (status ++ lines ++ via ++ framing ++ connection) crlf in
    omega arith

head_len : (name : List ℕ) (head : Response) (rule : BodyRule) → length name ≤ 64 → WasRead head → IsRule rule → HasRoomAs name head rule
head_len name head rule short (bytes, w) fits minor is_head keep =
    let limits = read_keeps_limits head (bytes, w) in
    let a = status_len head w.status in
    let b = lines_len (goes_on head.fields) head.fields in
    let few : length head.fields ≤ 100 = limits.few in
    let texts : length head.reason + sum_by field_len head.fields ≤ 16384 = limits.texts in
    let all = texts_len (status_line head) (passed_lines head.fields) (via_line name) (framing_line rule minor (is_head || (head.status == 304)) head.fields) (connection_line (keep && is_end_known rule minor)) 16616
    (omega arith) (via_len name short) (framing_len rule minor (is_head || (head.status == 304)) head.fields fits) (connection_len (keep && is_end_known rule minor)) in
    omega arith

pub heads_are_short : HeadsAreShort
heads_are_short name short k peer bytes told old new head fed tells there asks_head rule ruled =
    head_len name head rule short (head_was_read k peer bytes told old new head fed tells there) (rule_fits asks_head head.status head.fields rule ruled)
