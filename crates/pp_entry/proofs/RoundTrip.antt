-- What an entry says is read back from how it is written, and a block that says something is written so.
use Rattle.std.proofs.Common.{◌≡◌, ◌≤◌, ◌<◌, ◌+◌, ◌-◌, ◌^◌, ℕ, Bool, true, false, cond, ◌&&◌, not, if◌then◌else◌, List, [], ◌∷◌, ◌++◌, length, map, reverse, flat_map, take, replicate, codes, decimal, refl, sym, ◌∙◌, ap, arith, ◌*◌, append_assoc, append-nil, length-append, Option, Some, None}
use Rattle.std.specs.Prelude.{◌==◌, nat_lt, nat_le, bytes_eq, All, option_map, option_and_then, fold}
use Rattle.std.specs.Char.{digit_value, is_ascii_digit, is_digit}
use Rattle.std.specs.List.{list_all}
use Rattle.std.specs.Str.Parse.{AllDigits, digits_value_after}
use Rattle.std.proofs.lemmas.Bool.{eqb-true}
use Rattle.std.proofs.lemmas.Bool.Decides.{nat_tests}
use Rattle.std.proofs.lemmas.Fmt.{decimal_is_IsNumeral}
use Rattle.std.proofs.lemmas.Grind.{flat_map-append}
use Rattle.std.proofs.lemmas.List.{map-append, length-map, length-reverse, reverse-reverse, length-replicate, get_or-append-add}
use Rattle.std.proofs.lemmas.List.Elements.{All-nil, All-cons, All-head, All-tail, All-append}
use Rattle.std.proofs.lemmas.List.Sums.{AllPass-from_list_all}
use Rattle.std.proofs.lemmas.Slice.Eq.{bytes_eq-Decides}
use Rattle.std.proofs.Math.Seq.{take-append_seam}
use Rattle.httparse.specs.Grammar.{AllPass, IsToken, is_token_byte, is_value_byte, is_ows, skip_ows, trim_ows, crlf, Field as Line, IsField, print_field, ResponseHead as Head, print_response, IsResponseHead}
use Rattle.httparse.specs.Spans.{name_and_value}
use Rattle.httparse.proofs.GrammarLemmas.{print_response-append}
use Rattle.httparse.proofs.TrimLemmas.{AllPass-reverse, trim_ows_space}
use Rattle.pp_text.specs.Bytes.{is_empty, lower, trim}
use Rattle.pp_text.specs.Fields.{Field, field_at}
use Rattle.pp_text.specs.Lines.{line_of, lines_of}
use Rattle.pp_text.specs.Numbers.{number_of, value_of}
use Rattle.pp_head.specs.Agreement.{BeginsWithResponse, IsFieldText}
use Rattle.pp_head.specs.Limits.{line_ends, IsWithinLimits}
use Rattle.pp_head.specs.Read.{Read, Whole, TooLong, Bad, More}
use Rattle.pp_head.specs.Response.{Response, response_of, response_at}
use Rattle.pp_head.proofs.FieldLemmas.{trim-is}
use Rattle.pp_head.proofs.LimitLemmas.{line_ends-append}
use Rattle.pp_head.proofs.ResponseAgrees.{response_only}
use Rattle.pp_fresh.specs.declared.aging.Times.{Times}
use Rattle.pp_valid.specs.TagStates.{tag_of}
use Rattle.pp_valid.specs.Versions.{strong_part}
use Rattle.pp_entry.specs.Entries.{Row, Own, is_sized, is_spelled, own_at, own_in, own_with, kept_in, row_among, row_at, row_from, row_if_spelled, row_of, row_with}
use Rattle.pp_entry.specs.Fields.{are_allowed, lowered}
use Rattle.pp_entry.specs.Texts.{body_at, head_text, own_line, own_lines, fits, padded}
use Rattle.pp_entry.proofs.SpellingLemmas.{in_parts, row_at-is}

-- ---- values without blanks at their ends

length-skip : (v : List ℕ) → length (skip_ows v) ≤ length v
length-skip [] = omega arith
length-skip (b ∷ v) = by (is_ows b) (length-skip v)
  where
    by : (t : Bool) → length (skip_ows v) ≤ length v → length (if t then skip_ows v else b ∷ v) ≤ length (b ∷ v)
    by true less = omega (arith, less)
    by false less = omega arith

skip-same : (v : List ℕ) → length (skip_ows v) ≡ length v → skip_ows v ≡ v
skip-same [] same = refl
skip-same (b ∷ v) same = by (is_ows b) (length-skip v) same
  where
    by : (t : Bool) → length (skip_ows v) ≤ length v → length (if t then skip_ows v else b ∷ v) ≡ length (b ∷ v) → (if t then skip_ows v else b ∷ v) ≡ b ∷ v
    by true less same = absurd (omega (arith, less, same))
    by false less same = refl

record HasNoBlankEnds (v : List ℕ) : Type 0 where
  front : skip_ows v ≡ v
  back : skip_ows (reverse v) ≡ reverse v

trimmed : (v : List ℕ) → trim v ≡ v → HasNoBlankEnds v
unfolding trim_ows
trimmed v is =
    let kept = skip_ows (reverse (skip_ows v)) in
    let whole : reverse kept ≡ v = trim-is v ∙ is in
    let len : length kept ≡ length v = sym (length-reverse kept) ∙ ap length whole in
    let front : skip_ows v ≡ v = skip-same v (omega (arith, len, length-skip (reverse (skip_ows v)), length-reverse (skip_ows v), length-skip v)) in
    record {
      front = front;
      back = skip-same (reverse v) (ap (λ (t : List ℕ). length (skip_ows (reverse t))) (sym front) ∙ len ∙ sym (length-reverse v));
    }

-- a value comes back from behind its space
value-back : (v : List ℕ) → trim v ≡ v → trim_ows (32 ∷ v) ≡ v
value-back v is = let ends = trimmed v is in trim_ows_space v ends.front ends.back

-- ---- numbers

-- not a blank
unfoldable pub is_solid : ℕ → Bool
is_solid b = not (is_ows b)

digit-range : (c : ℕ) → digit_value c < 10 → (48 ≤ c) × (c ≤ 57)
digit-range c small = (grind (arith, nat_tests), grind (arith, nat_tests))

digit-value : (c : ℕ) → 48 ≤ c → c ≤ 57 → is_value_byte c ≡ true
digit-value c low high = grind (arith, nat_tests)

digit-solid : (c : ℕ) → 48 ≤ c → c ≤ 57 → is_solid c ≡ true
unfolding is_solid
digit-solid c low high = grind (arith, nat_tests)

digits-pass : (test : ℕ → Bool) → ((c : ℕ) → 48 ≤ c → c ≤ 57 → test c ≡ true) → (ds : List ℕ) → AllDigits 10 ds → AllPass test ds
digits-pass test passes [] all = All-nil _
digits-pass test passes (c ∷ cs) all =
    let range = digit-range c all.0 in
    All-cons (λ b. test b ≡ true) c cs (passes c range.0 range.1) (digits-pass test passes cs all.1)

solid-stays : (v : List ℕ) → AllPass is_solid v → skip_ows v ≡ v
unfolding is_solid
solid-stays [] all = refl
solid-stays (b ∷ v) all = by (is_ows b) (All-head (λ c. is_solid c ≡ true) b v all)
  where
    by : (t : Bool) → not t ≡ true → (if t then skip_ows v else b ∷ v) ≡ b ∷ v
    by true solid = absurd (cc solid)
    by false solid = refl

-- what has no blanks has none at its ends
pub solid-trimmed : (v : List ℕ) → AllPass is_solid v → trim v ≡ v
unfolding trim_ows
solid-trimmed v all =
    let front : skip_ows v ≡ v = solid-stays v all in
    let back : skip_ows (reverse v) ≡ reverse v = solid-stays (reverse v) (AllPass-reverse is_solid v all) in
    sym (trim-is v) ∙ ap (λ (t : List ℕ). reverse (skip_ows (reverse t))) front ∙ ap reverse back ∙ reverse-reverse v

value-same : (ds : List ℕ) (n : ℕ) → fold (λ m b. m * 10 + digit_value b) n ds ≡ digits_value_after 10 n ds
value-same [] n = refl
value-same (c ∷ cs) n = value-same cs (n * 10 + digit_value c)

all-digits : (ds : List ℕ) → AllDigits 10 ds → list_all (λ b. is_digit b 10) ds ≡ true
all-digits [] all = refl
all-digits (c ∷ cs) all =
    let digit : is_digit c 10 ≡ true = is_below (digit_value c) all.0 in
    ap (λ (t : Bool). t && list_all (λ b. is_digit b 10) cs) digit ∙ all-digits cs all.1
  where
    is_below : (n : ℕ) → n < 10 → nat_lt n 10 ≡ true
    is_below n less = grind (arith, nat_tests)

some-digits : (ds : List ℕ) → 0 < length ds → is_empty ds ≡ false
some-digits [] some = absurd (omega (arith, some))
some-digits (c ∷ cs) some = refl

passed : (a b c : Bool) (n : ℕ) → a ≡ false → b ≡ true → c ≡ true → cond (not a && b && c) (Some n) None ≡ Some n
passed a b c n ea eb ec = rw (ea, eb, ec) refl

below-64 : (n : ℕ) → n < 2 ^ 64 → nat_lt n (2 ^ 64) ≡ true
below-64 n less = grind (arith, nat_tests)

-- a number is read back from its digits
number-back : (n : ℕ) → n < 2 ^ 64 → number_of (decimal n) ≡ Some n
number-back n less =
    let digits = decimal_is_IsNumeral n less in
    let value : value_of 10 (decimal n) ≡ n = value-same (decimal n) 0 ∙ digits.1 in
    ap (λ (m : ℕ). cond (not (is_empty (decimal n)) && list_all (λ b. is_digit b 10) (decimal n) && nat_lt m (2 ^ 64)) (Some m) None) value
    ∙ passed (is_empty (decimal n)) (list_all (λ b. is_digit b 10) (decimal n)) (nat_lt n (2 ^ 64)) n (some-digits (decimal n) digits.0.0) (all-digits (decimal n) digits.0.1) (below-64 n less)

-- ---- the lines of an entry, as a head of the grammar

-- a space stands before each value
line : Field → Line
line f = record { name = f.0; raw = 32 ∷ f.1; end = crlf }

-- the fields of this proxy's own, and all
own_fields : List ℕ → ℕ → Times → List Field
own_fields key n times =
    (codes "X-Polipo-Location", key)
    ∷ (codes "X-Polipo-Date", decimal times.response)
    ∷ (codes "X-Polipo-Age", decimal times.initial)
    ∷ (codes "X-Polipo-Length", decimal n)
    ∷ (codes "X-Polipo-Body-Offset", decimal (body_at n))
    ∷ []

head_of : List Field → Head
head_of fields = record {
  blank = [];
  minor = 1;
  digits = codes "200";
  reason = Some (codes "OK");
  line_end = crlf;
  fields = map line fields;
  last = crlf;
}

line-text : (f : Field) → print_field (line f) ≡ own_line f.0 f.1
unfolding line
line-text f = append_assoc f.0 (58 ∷ 32 ∷ f.1) (13 ∷ 10 ∷ [])

kept-text : (fs : List Field) → map lowered fs ≡ fs → flat_map print_field (map line fs) ≡ lines_of fs
kept-text [] low = refl
kept-text (f ∷ fs) low =
    let first : lowered f ≡ f = cc low in
    let name : f.0 ≡ lower f.0 = sym (ap (λ (g : Field). g.0) first) in
    ap (λ (t : List ℕ). t ++ flat_map print_field (map line fs)) (line-text f ∙ ap (λ (t : List ℕ). own_line t f.1) name)
    ∙ ap (λ (t : List ℕ). line_of f ++ t) (kept-text fs (cc low))

five : (a b c d e : List ℕ) → a ++ (b ++ (c ++ (d ++ (e ++ [])))) ≡ a ++ b ++ c ++ d ++ e
five a b c d e = simp (append_assoc, append-nil)

five-same : (a b c d e v w x y z : List ℕ) → a ≡ v → b ≡ w → c ≡ x → d ≡ y → e ≡ z → a ++ (b ++ (c ++ (d ++ (e ++ [])))) ≡ v ++ w ++ x ++ y ++ z
five-same a b c d e v w x y z p q r s t = five a b c d e ∙ cc

own-text : (key : List ℕ) (n : ℕ) (times : Times) → flat_map print_field (map line (own_fields key n times)) ≡ own_lines key n times
unfolding own_lines own_fields
own-text key n times = five-same _ _ _ _ _ _ _ _ _ _ (line-text _) (line-text _) (line-text _) (line-text _) (line-text _)

all-text : (key : List ℕ) (n : ℕ) (fs : List Field) (times : Times) → map lowered fs ≡ fs
    → flat_map print_field (map line (fs ++ own_fields key n times)) ≡ lines_of fs ++ own_lines key n times
all-text key n fs times low =
    ap (flat_map print_field) (map-append line fs (own_fields key n times))
    ∙ flat_map-append print_field (map line fs) (map line (own_fields key n times))
    ∙ ap (λ (t : List ℕ). t ++ flat_map print_field (map line (own_fields key n times))) (kept-text fs low)
    ∙ ap (λ (t : List ℕ). lines_of fs ++ t) (own-text key n times)

-- the head of these fields, and what follows it
head-text : (fs : List Field) (rest : List ℕ)
    → print_response (head_of fs) ++ rest ≡ codes "HTTP/1.1 200 OK\r\n" ++ (flat_map print_field (map line fs) ++ (13 ∷ 10 ∷ rest))
unfolding head_of
head-text fs rest =
    print_response-append (head_of fs) rest
    ∙ ap (λ (t : List ℕ). codes "HTTP/1.1 200 OK\r\n" ++ t) (append_assoc (flat_map print_field (map line fs)) (13 ∷ 10 ∷ []) rest)

-- the block is that head, and zeros
block-text : (key : List ℕ) (n : ℕ) (fs : List Field) (times : Times) → map lowered fs ≡ fs
    → padded (head_text key n fs times)
    ≡ print_response (head_of (fs ++ own_fields key n times)) ++ replicate (8192 - length (head_text key n fs times)) 0
block-text key n fs times low =
    let zeros = replicate (8192 - length (head_text key n fs times)) 0 in
    in_parts key n fs times
    ∙ ap (λ (t : List ℕ). codes "HTTP/1.1 200 OK\r\n" ++ t) (sym (append_assoc (lines_of fs) (own_lines key n times) (13 ∷ 10 ∷ zeros)))
    ∙ ap (λ (t : List ℕ). codes "HTTP/1.1 200 OK\r\n" ++ (t ++ (13 ∷ 10 ∷ zeros))) (sym (all-text key n fs times low))
    ∙ sym (head-text (fs ++ own_fields key n times) zeros)

-- ---- the fields are valid, and read back

line-back : (f : Field) → IsFieldText f → name_and_value (line f) ≡ f
unfolding line
line-back f text = ap (λ (v : List ℕ). let g : Field = (f.0, v) in g) (value-back f.1 text.trimmed)

lines-back : (fs : List Field) → All IsFieldText fs → map name_and_value (map line fs) ≡ fs
lines-back [] all = refl
lines-back (f ∷ fs) all =
    ap (λ (g : Field). g ∷ map name_and_value (map line fs)) (line-back f (All-head IsFieldText f fs all))
    ∙ ap (λ (gs : List Field). f ∷ gs) (lines-back fs (All-tail IsFieldText f fs all))

line-valid : (f : Field) → IsFieldText f → IsField (line f)
unfolding line
line-valid f text = record { name = text.name; raw = All-cons (λ b. is_value_byte b ≡ true) 32 f.1 refl text.value }

lines-valid : (fs : List Field) → All IsFieldText fs → All IsField (map line fs)
lines-valid [] all = All-nil _
lines-valid (f ∷ fs) all =
    All-cons IsField (line f) (map line fs) (line-valid f (All-head IsFieldText f fs all)) (lines-valid fs (All-tail IsFieldText f fs all))

no-ends : (test : ℕ → Bool) → test 10 ≡ false → (text : List ℕ) → AllPass test text → line_ends text ≡ 0
no-ends test fails [] all = refl
no-ends test fails (b ∷ text) all = by (b == 10) refl (no-ends test fails text (All-tail (λ c. test c ≡ true) b text all))
  where
    passes : test b ≡ true
    passes = All-head (λ c. test c ≡ true) b text all

    by : (v : Bool) → (b == 10) ≡ v → line_ends text ≡ 0 → line_ends (b ∷ text) ≡ 0
    by true is none = absurd (cc (passes, ap test (eqb-true b 10 is), fails))
    by false is none = rw (is, line_ends) none

token-no-end : is_token_byte 10 ≡ false
unfolding is_token_byte
token-no-end = refl

line-ends : (f : Field) → IsFieldText f → line_ends (print_field (line f)) ≡ 1
unfolding line
line-ends f text = omega (
  arith,
  line_ends-append (f.0 ++ 58 ∷ 32 ∷ f.1) (13 ∷ 10 ∷ []),
  line_ends-append f.0 (58 ∷ 32 ∷ f.1),
  no-ends is_token_byte token-no-end f.0 text.name.1,
  no-ends is_value_byte refl f.1 text.value,
)

lines-ends : (fs : List Field) → All IsFieldText fs → line_ends (flat_map print_field (map line fs)) ≡ length fs
lines-ends [] all = refl
lines-ends (f ∷ fs) all = omega (
  arith,
  line_ends-append (print_field (line f)) (flat_map print_field (map line fs)),
  line-ends f (All-head IsFieldText f fs all),
  lines-ends fs (All-tail IsFieldText f fs all),
)

-- ---- this proxy's own fields are valid

own-name : (name : List ℕ) → 0 < length name → list_all is_token_byte name ≡ true → IsToken name
own-name name some all = (some, AllPass-from_list_all is_token_byte name all)

location-name : IsToken (codes "X-Polipo-Location")
unfolding is_token_byte
location-name = own-name (codes "X-Polipo-Location") (omega arith) refl

date-name : IsToken (codes "X-Polipo-Date")
unfolding is_token_byte
date-name = own-name (codes "X-Polipo-Date") (omega arith) refl

age-name : IsToken (codes "X-Polipo-Age")
unfolding is_token_byte
age-name = own-name (codes "X-Polipo-Age") (omega arith) refl

length-name : IsToken (codes "X-Polipo-Length")
unfolding is_token_byte
length-name = own-name (codes "X-Polipo-Length") (omega arith) refl

offset-name : IsToken (codes "X-Polipo-Body-Offset")
unfolding is_token_byte
offset-name = own-name (codes "X-Polipo-Body-Offset") (omega arith) refl

number-text : (name : List ℕ) (n : ℕ) → IsToken name → n < 2 ^ 64 → IsFieldText (name, decimal n)
number-text name n token less =
    let digits = decimal_is_IsNumeral n less in
    record {
      name = token;
      value = digits-pass is_value_byte digit-value (decimal n) digits.0.1;
      trimmed = solid-trimmed (decimal n) (digits-pass is_solid digit-solid (decimal n) digits.0.1);
    }

body_at-small : (n : ℕ) → n ≤ 2 ^ 26 → body_at n < 2 ^ 64
unfolding body_at
body_at-small n sized = omega arith

own-valid : (key : List ℕ) (n : ℕ) (times : Times) → AllPass is_value_byte key → trim key ≡ key → n ≤ 2 ^ 26 → times.response < 2 ^ 64 → times.initial < 2 ^ 64
    → All IsFieldText (own_fields key n times)
unfolding own_fields
own-valid key n times bytes ends sized response initial =
    let less : n < 2 ^ 64 = omega arith in
    let offset : Field = (codes "X-Polipo-Body-Offset", decimal (body_at n)) in
    let size : Field = (codes "X-Polipo-Length", decimal n) in
    let age : Field = (codes "X-Polipo-Age", decimal times.initial) in
    let date : Field = (codes "X-Polipo-Date", decimal times.response) in
    All-cons IsFieldText (codes "X-Polipo-Location", key) (date ∷ age ∷ size ∷ offset ∷ []) (record { name = location-name; value = bytes; trimmed = ends })
    (All-cons IsFieldText date (age ∷ size ∷ offset ∷ []) (number-text (codes "X-Polipo-Date") times.response date-name response)
    (All-cons IsFieldText age (size ∷ offset ∷ []) (number-text (codes "X-Polipo-Age") times.initial age-name initial)
    (All-cons IsFieldText size (offset ∷ []) (number-text (codes "X-Polipo-Length") n length-name less)
    (All-cons IsFieldText offset [] (number-text (codes "X-Polipo-Body-Offset") (body_at n) offset-name (body_at-small n sized))
    (All-nil IsFieldText)))))

-- ---- the block is read as that head

head-valid : (fs : List Field) → All IsFieldText fs → IsResponseHead (head_of fs)
unfolding head_of
head-valid fs all = record {
  minor = omega arith;
  digits = (refl, AllPass-from_list_all is_ascii_digit (codes "200") refl);
  reason = AllPass-from_list_all is_value_byte (codes "OK") refl;
  fields = lines-valid fs all;
}

status-ends : line_ends (codes "HTTP/1.1 200 OK\r\n") ≡ 1
status-ends = refl

head-ends : (fs : List Field) → All IsFieldText fs → line_ends (print_response (head_of fs)) ≡ length fs + 2
head-ends fs all =
    ap line_ends (sym (append-nil (print_response (head_of fs))) ∙ head-text fs [])
    ∙ omega (
      arith,
      line_ends-append (codes "HTTP/1.1 200 OK\r\n") (flat_map print_field (map line fs) ++ (13 ∷ 10 ∷ [])),
      line_ends-append (flat_map print_field (map line fs)) (13 ∷ 10 ∷ []),
      status-ends,
      lines-ends fs all,
    )

head-fields : (fs : List Field) → (head_of fs).fields ≡ map line fs
unfolding head_of
head-fields fs = refl

read-whole : (block : List ℕ) (fs : List Field) (rest : List ℕ) → All IsFieldText fs → length fs ≤ 100 → length block ≤ 16384
    → block ≡ print_response (head_of fs) ++ rest → Whole (response_of (head_of fs)) ≡ response_at block
read-whole block fs rest all few short is =
    let fields : (head_of fs).fields ≡ map line fs = head-fields fs in
    let limits : IsWithinLimits (print_response (head_of fs)) (length (head_of fs).fields) = record {
      few = omega (arith, few, ap length fields, length-map fs line);
      short = omega (arith, short, ap length is, length-append (print_response (head_of fs)) rest);
      lines = omega (arith, few, head-ends fs all);
    } in
    let begins : BeginsWithResponse block (head_of fs) = record { rest = rest; reads = (head-valid fs all, is); limits = limits } in
    response_only block (Whole (response_of (head_of fs))) (head_of fs, begins, refl)

fields-read : (fs : List Field) → All IsFieldText fs → (response_of (head_of fs)).fields ≡ fs
unfolding head_of
fields-read fs all = lines-back fs all

-- ---- what is read is the row

own_of : List ℕ → ℕ → Times → ℕ → Own
own_of key n times count =
    record { key = key; times = record { request = times.response; response = times.response; initial = times.initial; may_guess = false }; length = n; count = count }

own-from : Option ℕ → Option ℕ → Option ℕ → List ℕ → ℕ → Option Own
own-from response initial n key count =
    option_and_then (λ r. option_and_then (λ i. option_and_then (own_with key count r i) n) initial) response

own-numbers : (key : List ℕ) (n : ℕ) (times : Times) (count : ℕ) → is_sized n ≡ true
    → own-from (Some times.response) (Some times.initial) (Some n) key count ≡ Some (own_of key n times count)
unfolding own-from own_of
own-numbers key n times count sized = ap (λ (b : Bool). if b then Some (own_of key n times count) else None) sized

own-behind : (fs gs : List Field) (i : ℕ) → field_at (fs ++ gs) (length fs + i) ≡ field_at gs i
own-behind fs gs i = get_or-append-add fs gs i ([], [])

own-at : (key : List ℕ) (n : ℕ) (fs : List Field) (times : Times) → is_sized n ≡ true → n < 2 ^ 64 → times.response < 2 ^ 64 → times.initial < 2 ^ 64
    → own_at (fs ++ own_fields key n times) (length fs) ≡ Some (own_of key n times (length fs))
unfolding own-from own_fields
own-at key n fs times sized less response initial =
    let all = fs ++ own_fields key n times in
    let count = length fs in
    let none : count ≡ count + 0 = omega arith in
    let k : (field_at all count).1 ≡ key = ap (λ (i : ℕ). (field_at all i).1) none ∙ ap (λ (f : Field). f.1) (own-behind fs (own_fields key n times) 0) in
    let r : number_of (field_at all (count + 1)).1 ≡ Some times.response = ap (λ (f : Field). number_of f.1) (own-behind fs (own_fields key n times) 1) ∙ number-back times.response response in
    let i : number_of (field_at all (count + 2)).1 ≡ Some times.initial = ap (λ (f : Field). number_of f.1) (own-behind fs (own_fields key n times) 2) ∙ number-back times.initial initial in
    let l : number_of (field_at all (count + 3)).1 ≡ Some n = ap (λ (f : Field). number_of f.1) (own-behind fs (own_fields key n times) 3) ∙ number-back n less in
    ap (λ (o : Option ℕ). own-from o (number_of (field_at all (count + 2)).1) (number_of (field_at all (count + 3)).1) (field_at all count).1 count) r
    ∙ ap (λ (o : Option ℕ). own-from (Some times.response) o (number_of (field_at all (count + 3)).1) (field_at all count).1 count) i
    ∙ ap (λ (o : Option ℕ). own-from (Some times.response) (Some times.initial) o (field_at all count).1 count) l
    ∙ ap (λ (t : List ℕ). own-from (Some times.response) (Some times.initial) (Some n) t count) k
    ∙ own-numbers key n times count sized

own-by : (fs : List Field) (count : ℕ) → length fs ≡ count + 5 → own_in fs ≡ own_at fs count
own-by fs count len =
    ap (λ (b : Bool). if b then None else own_at fs (length fs - 5)) (not-few (length fs) (omega (arith, len)))
    ∙ ap (own_at fs) (omega (arith, len))
  where
    not-few : (n : ℕ) → 5 ≤ n → nat_lt n 5 ≡ false
    not-few n enough = grind (arith, nat_tests)

own-count : (key : List ℕ) (n : ℕ) (fs : List Field) (times : Times) → length (fs ++ own_fields key n times) ≡ length fs + 5
unfolding own_fields
own-count key n fs times = length-append fs (own_fields key n times)

-- a row that an entry can stand for
pub record CanStand (row : Row) : Type 0 where
  -- tokens, and values without blanks at their ends: a head is read with no others (IsResponseWithin of pp_head), and
  -- what pp_objects keeps is of a head, or its own date (RFC 2616, section 14.18)
  pub fields : All IsFieldText row.fields
  -- of a row whose names are in any case, the row that is read back (AnyCase)
  pub in_lower_case : map lowered row.fields ≡ row.fields
  -- pp_valid gives no version to a response whose fields exceed the room, and keeps only what is end-to-end
  pub allowed : are_allowed row.fields row.times.response ≡ true
  -- the tag of a version is that of its fields, in pp_valid
  pub tag : strong_part (tag_of row.fields) ≡ Some row.version.tag
  -- a key of pp_target has the bytes of a target, none of which is a control byte or a blank
  pub key : AllPass is_value_byte row.key
  pub key_ends : trim row.key ≡ row.key
  -- a body of 1 to 2^26 bytes: the caller tests it, since no other has an entry
  pub sized : is_sized row.version.length ≡ true
  -- seconds in a u64
  pub response : row.times.response < 2 ^ 64
  pub initial : row.times.initial < 2 ^ 64
  -- an entry does not keep when the response was asked for
  pub request : row.times.request ≡ row.times.response
  pub no_guess : row.times.may_guess ≡ false

text_of : Row → List ℕ
text_of row = head_text row.key row.version.length row.fields row.times

-- the test of the length, as a fact
sized-is : (n : ℕ) → is_sized n ≡ true → n ≤ 2 ^ 26
sized-is n is = grind (arith, nat_tests)

fits-is : (kept : List Field) (text : List ℕ) → fits kept text ≡ true → (length kept ≤ 95) × (length text ≤ 8192)
fits-is kept text is = by (length kept) (length text) is
  where
    by : (k n : ℕ) → (nat_le k 95 && nat_le n 8192) ≡ true → (k ≤ 95) × (n ≤ 8192)
    by k n is = (grind (arith, nat_tests), grind (arith, nat_tests))

pub times-same : (times : Times) → times.request ≡ times.response → times.may_guess ≡ false
    → (let t : Times = record { request = times.response; response = times.response; initial = times.initial; may_guess = false } in t) ≡ times
times-same times is no_guess =
    ap (λ (r : ℕ). let t : Times = record { request = r; response = times.response; initial = times.initial; may_guess = false } in t) (sym is)
    ∙ ap (λ (g : Bool). let t : Times = record { request = times.request; response = times.response; initial = times.initial; may_guess = g } in t) (sym no_guess)

own-times : (row : Row) → CanStand row → (own_of row.key row.version.length row.times (length row.fields)).times ≡ row.times
unfolding own_of
own-times row can = times-same row.times can.request can.no_guess

kept-back : (fs gs : List Field) → map lowered fs ≡ fs → map lowered (take (length fs) (fs ++ gs)) ≡ fs
kept-back fs gs low = ap (map lowered) (take-append_seam fs gs) ∙ low

spelled-by : (block key : List ℕ) (n : ℕ) (kept : List Field) (times : Times) → fits kept (head_text key n kept times) ≡ true → block ≡ padded (head_text key n kept times)
    → (fits kept (head_text key n kept times) && bytes_eq (padded (head_text key n kept times)) block) ≡ true
spelled-by block key n kept times fit is =
    ap (λ (b : Bool). b && bytes_eq (padded (head_text key n kept times)) block) fit
    ∙ (bytes_eq-Decides (padded (head_text key n kept times)) block).1 (sym is)

spelled-so : (row : Row) → CanStand row → fits row.fields (text_of row) ≡ true
    → is_spelled (padded (text_of row)) (own_of row.key row.version.length row.times (length row.fields)) row.fields ≡ true
unfolding text_of own_of
spelled-so row can fit =
    ap (λ (t : Times). fits row.fields (head_text row.key row.version.length row.fields t) && bytes_eq (padded (head_text row.key row.version.length row.fields t)) (padded (text_of row))) (own-times row can)
    ∙ spelled-by (padded (text_of row)) row.key row.version.length row.fields row.times fit refl

row-so : (row : Row) → CanStand row → row_of (own_of row.key row.version.length row.times (length row.fields)) row.fields ≡ Some row
unfolding own_of
row-so row can =
    let own = own_of row.key row.version.length row.times (length row.fields) in
    ap (λ (b : Bool). if b then option_map (row_with own row.fields) (strong_part (tag_of row.fields)) else None) can.allowed
    ∙ ap (option_map (row_with own row.fields)) can.tag
    ∙ ap (λ (t : Times). Some (let r : Row = record { key = row.key; version = row.version; fields = row.fields; times = t } in r)) (own-times row can)

among-so : (row : Row) → CanStand row → fits row.fields (text_of row) ≡ true
    → row_among (padded (text_of row)) (row.fields ++ own_fields row.key row.version.length row.times) ≡ Some row
unfolding own_of
among-so row can fit =
    let own = own_of row.key row.version.length row.times (length row.fields) in
    let gs = own_fields row.key row.version.length row.times in
    let block = padded (text_of row) in
    let less : row.version.length < 2 ^ 64 = omega (arith, sized-is row.version.length can.sized) in
    let found : own_in (row.fields ++ gs) ≡ Some own =
    own-by (row.fields ++ gs) (length row.fields) (own-count row.key row.version.length row.fields row.times)
    ∙ own-at row.key row.version.length row.fields row.times can.sized less can.response can.initial in
    ap (option_and_then (λ o. row_if_spelled block o (kept_in o (row.fields ++ gs)))) found
    ∙ ap (row_if_spelled block own) (kept-back row.fields gs can.in_lower_case)
    ∙ ap (λ (b : Bool). if b then row_of own row.fields else None) (spelled-so row can fit)
    ∙ row-so row can

-- what an entry writes of a row is read back as that row
pub round-trip : (row : Row) → CanStand row → fits row.fields (head_text row.key row.version.length row.fields row.times) ≡ true
    → row_at (padded (head_text row.key row.version.length row.fields row.times)) ≡ Some row
unfolding text_of
round-trip row can fit =
    let gs = own_fields row.key row.version.length row.times in
    let all = row.fields ++ gs in
    let text = text_of row in
    let block = padded text in
    let limits = fits-is row.fields text fit in
    let sized = sized-is row.version.length can.sized in
    let valid : All IsFieldText all = All-append IsFieldText row.fields gs can.fields (own-valid row.key row.version.length row.times can.key can.key_ends sized can.response can.initial) in
    let few : length all ≤ 100 = omega (arith, limits.0, own-count row.key row.version.length row.fields row.times) in
    let short : length block ≤ 16384 = omega (arith, limits.1, length-append text (replicate (8192 - length text) 0), length-replicate {A = ℕ} (8192 - length text) 0) in
    row_at-is block (Whole (response_of (head_of all)))
    (read-whole block all (replicate (8192 - length text) 0) valid few short (block-text row.key row.version.length row.fields row.times can.in_lower_case))
    ∙ ap (row_among block) (fields-read all valid)
    ∙ among-so row can fit

-- ---- and the other way

spelled-row : (block : List ℕ) (own : Own) (kept : List Field) (row : Row) → is_spelled block own kept ≡ true → row_of own kept ≡ Some row
    → block ≡ padded (head_text row.key row.version.length row.fields row.times)
spelled-row block own kept row is found =
    let text = head_text own.key own.length kept own.times in
    let same : padded text ≡ block = (bytes_eq-Decides (padded text) block).0 (second (fits kept text) (bytes_eq (padded text) block) is) in
    by (are_allowed kept own.times.response) (strong_part (tag_of kept)) found (sym same)
  where
    second : (a b : Bool) → (a && b) ≡ true → b ≡ true
    second true b is = is
    second false b is = absurd (cc is)

    by : (a : Bool) (t : Option (List ℕ)) → (if a then option_map (row_with own kept) t else None) ≡ Some row
        → block ≡ padded (head_text own.key own.length kept own.times) → block ≡ padded (head_text row.key row.version.length row.fields row.times)
    by true (Some tag) found is =
        let e : row_with own kept tag ≡ row = cc found in
        is ∙ ap (λ (r : Row). padded (head_text r.key r.version.length r.fields r.times)) e
    by true None found is = absurd (cc found)
    by false t found is = absurd (cc found)

among-row : (block : List ℕ) (fields : List Field) (row : Row) → row_among block fields ≡ Some row
    → block ≡ padded (head_text row.key row.version.length row.fields row.times)
among-row block fields row found = by (own_in fields) found
  where
    spelled : (own : Own) (b : Bool) → is_spelled block own (kept_in own fields) ≡ b → (if b then row_of own (kept_in own fields) else None) ≡ Some row
        → block ≡ padded (head_text row.key row.version.length row.fields row.times)
    spelled own true is found = spelled-row block own (kept_in own fields) row is found
    spelled own false is found = absurd (cc found)

    by : (o : Option Own) → option_and_then (λ own. row_if_spelled block own (kept_in own fields)) o ≡ Some row
        → block ≡ padded (head_text row.key row.version.length row.fields row.times)
    by None found = absurd (cc found)
    by (Some own) found = spelled own (is_spelled block own (kept_in own fields)) refl found

from-row : (block : List ℕ) (state : Read Response) (row : Row) → row_from block state ≡ Some row
    → block ≡ padded (head_text row.key row.version.length row.fields row.times)
from-row block (Whole head) row found = among-row block head.fields row found
from-row block TooLong row found = absurd (cc found)
from-row block Bad row found = absurd (cc found)
from-row block More row found = absurd (cc found)

-- a block that is read as a row is how that row is written
pub one-spelling : (block : List ℕ) (row : Row) → row_at block ≡ Some row → block ≡ padded (head_text row.key row.version.length row.fields row.times)
unfolding row_at
one-spelling block row found = from-row block (response_at block) row found
