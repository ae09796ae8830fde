-- What an entry says of a row whose names are in any case: the same row, with its names in lower case.
use Rattle.std.proofs.Common.{◌≡◌, ◌<◌, ◌+◌, ℕ, Bool, true, false, cond, ◌&&◌, ◌||◌, not, if◌then◌else◌, List, [], ◌∷◌, length, map, filter, flat_map, codes, refl, sym, ◌∙◌, ap, arith}
use Rattle.std.specs.Prelude.{nat_lt, nat_le, nat_eq, bytes_eq, slice_get, is_some, All, Some, None}
use Rattle.std.specs.Char.{to_ascii_lowercase, is_ascii_alphanumeric}
use Rattle.std.specs.List.{list_all, list_any, starts_with}
use Rattle.std.proofs.lemmas.Bool.Decides.{nat_tests}
use Rattle.std.proofs.lemmas.List.{length-map}
use Rattle.std.proofs.lemmas.List.Elements.{All-nil, All-cons, All-head, All-tail, All-weaker}
use Rattle.std.proofs.lemmas.List.Sums.{AllPass-from_list_all}
use Rattle.std.proofs.lemmas.Str.Ascii.{lowercase-lowercase}
use Rattle.httpdate.specs.Date.{parse_secs}
use Rattle.httparse.specs.Grammar.{AllPass, is_token_byte, is_uri_byte, is_value_byte}
use Rattle.pp_text.specs.Bytes.{lower, trim}
use Rattle.pp_text.specs.Fields.{Field, is_named, list_items, values_of}
use Rattle.pp_text.specs.Forwarding.{hop_names, is_connection_token, is_hop_by_hop, is_private}
use Rattle.pp_text.specs.Lines.{lines_of}
use Rattle.pp_text.specs.Lists.{items_of}
use Rattle.pp_head.specs.Agreement.{IsFieldText}
use Rattle.pp_valid.proofs.OnLiterals.{pp_valid_on_literals}
use Rattle.pp_valid.specs.EndToEnd.{is_dropped}
use Rattle.pp_valid.specs.Kept.{is_of_one_message}
use Rattle.pp_valid.specs.TagStates.{state_in, tag_of}
use Rattle.pp_valid.specs.Versions.{strong_part}
use Rattle.pp_entry.specs.Entries.{Row, row_at}
use Rattle.pp_entry.specs.Fields.{are_allowed, are_in_order, is_dated, is_passing, lowered, may_be_kept, may_follow, place_of}
use Rattle.pp_entry.specs.Spelling.{CanBeWritten, IsReadBack, as_read}
use Rattle.pp_entry.specs.Texts.{fits, head_text, own_lines, padded}
use Rattle.pp_entry.proofs.LineLemmas.{lines-lowered}
use Rattle.pp_entry.proofs.RoundTrip.{CanStand, is_solid, round-trip, solid-trimmed}
use Rattle.pp_entry.proofs.SpellingLemmas.{text-lowered}

lower-lower : (text : List ℕ) → lower (lower text) ≡ lower text
lower-lower [] = refl
lower-lower (b ∷ text) = ap (λ (c : ℕ). c ∷ lower (lower text)) (lowercase-lowercase b) ∙ ap (λ (t : List ℕ). to_ascii_lowercase b ∷ t) (lower-lower text)

pub lowered-lowered : (fs : List Field) → map lowered (map lowered fs) ≡ map lowered fs
lowered-lowered [] = refl
lowered-lowered (f ∷ fs) =
    ap (λ (n : List ℕ). let g : Field = (n, f.1) in g ∷ map lowered (map lowered fs)) (lower-lower f.0)
    ∙ ap (λ (gs : List Field). lowered f ∷ gs) (lowered-lowered fs)

-- ---- a name in lower case is a token

token-lower : (b : ℕ) → is_token_byte b ≡ true → is_token_byte (to_ascii_lowercase b) ≡ true
unfolding is_token_byte
token-lower b token = by (nat_lt b 65) refl (nat_lt b 91) refl
  where
    letter : (c : ℕ) → nat_lt c 65 ≡ false → nat_lt c 91 ≡ true → is_ascii_alphanumeric (c + 32) ≡ true
    letter c low high = grind (arith, nat_tests)

    by : (v : Bool) → nat_lt b 65 ≡ v → (u : Bool) → nat_lt b 91 ≡ u → is_token_byte (cond v b (cond u (b + 32) b)) ≡ true
    by true low u high = token
    by false low true high = ap (λ (t : Bool). t || list_any (λ c. nat_eq c (b + 32)) (codes "!#$%&'*+-.^_`|~")) (letter b low high)
    by false low false high = token

tokens-lower : (name : List ℕ) → AllPass is_token_byte name → AllPass is_token_byte (lower name)
tokens-lower [] all = All-nil _
tokens-lower (b ∷ name) all =
    All-cons (λ c. is_token_byte c ≡ true) (to_ascii_lowercase b) (lower name) (token-lower b (All-head (λ c. is_token_byte c ≡ true) b name all))
    (tokens-lower name (All-tail (λ c. is_token_byte c ≡ true) b name all))

text-lower : (f : Field) → IsFieldText f → IsFieldText (lowered f)
text-lower f text = record {
  name = (omega (arith, text.name.0, length-map f.0 to_ascii_lowercase), tokens-lower f.0 text.name.1);
  value = text.value;
  trimmed = text.trimmed;
}

texts-lower : (fs : List Field) → All IsFieldText fs → All IsFieldText (map lowered fs)
texts-lower [] all = All-nil _
texts-lower (f ∷ fs) all =
    All-cons IsFieldText (lowered f) (map lowered fs) (text-lower f (All-head IsFieldText f fs all)) (texts-lower fs (All-tail IsFieldText f fs all))

-- ---- names are compared but for case

named-lower : (name : List ℕ) (f : Field) → is_named name (lowered f) ≡ is_named name f
named-lower name f = ap (bytes_eq (lower name)) (lower-lower f.0)

values-lower : (name : List ℕ) (fs : List Field) → values_of name (map lowered fs) ≡ values_of name fs
values-lower name [] = refl
values-lower name (f ∷ fs) =
    ap (λ (b : Bool). map (λ (g : Field). g.1) (if b then lowered f ∷ filter (is_named name) (map lowered fs) else filter (is_named name) (map lowered fs))) (named-lower name f)
    ∙ by (is_named name f) (values-lower name fs)
  where
    by : (b : Bool) → values_of name (map lowered fs) ≡ values_of name fs
        → map (λ (g : Field). g.1) (if b then lowered f ∷ filter (is_named name) (map lowered fs) else filter (is_named name) (map lowered fs))
        ≡ map (λ (g : Field). g.1) (if b then f ∷ filter (is_named name) fs else filter (is_named name) fs)
    by true more = ap (λ (vs : List (List ℕ)). f.1 ∷ vs) more
    by false more = more

items-lower : (name : List ℕ) (fs : List Field) → list_items name (map lowered fs) ≡ list_items name fs
items-lower name fs = ap (flat_map items_of) (values-lower name fs)

token-same : (fs : List Field) (f : Field) → is_connection_token (map lowered fs) (lowered f) ≡ is_connection_token fs f
token-same fs f =
    ap (λ (t : List ℕ). list_any (λ item. bytes_eq t (lower item)) (list_items (codes "connection") (map lowered fs))) (lower-lower f.0)
    ∙ ap (list_any (λ item. bytes_eq (lower f.0) (lower item))) (items-lower (codes "connection") fs)

hop-lower : (fs : List Field) (f : Field) → is_hop_by_hop (map lowered fs) (lowered f) ≡ is_hop_by_hop fs f
hop-lower fs f =
    ap (λ (t : List ℕ). list_any (λ name. bytes_eq (lower name) t) hop_names || is_connection_token (map lowered fs) (lowered f) || starts_with nat_eq t (codes "x-polipo-")) (lower-lower f.0)
    ∙ ap (λ (b : Bool). list_any (λ name. is_named name f) hop_names || b || is_private f) (token-same fs f)

anew-lower : (f : Field) → is_of_one_message (lowered f) ≡ is_of_one_message f
anew-lower f =
    ap (λ (t : List ℕ). bytes_eq (lower (codes "content-length")) t || bytes_eq (lower (codes "content-range")) t || bytes_eq (lower (codes "age")) t || bytes_eq (lower (codes "date")) t || (bytes_eq (lower (codes "content-md5")) t || bytes_eq (lower (codes "content-digest")) t))
    (lower-lower f.0)

kept-lower : (fs : List Field) (f : Field) → may_be_kept (map lowered fs) (lowered f) ≡ may_be_kept fs f
kept-lower fs f =
    ap (λ (b : Bool). not b && (is_named (codes "date") (lowered f) || not (is_of_one_message (lowered f)))) (hop-lower fs f)
    ∙ ap (λ (b : Bool). not (is_hop_by_hop fs f) && (b || not (is_of_one_message (lowered f)))) (named-lower (codes "date") f)
    ∙ ap (λ (b : Bool). not (is_hop_by_hop fs f) && (is_named (codes "date") f || not b)) (anew-lower f)

all-lower : (all fs : List Field) → list_all (may_be_kept (map lowered all)) (map lowered fs) ≡ list_all (may_be_kept all) fs
all-lower all [] = refl
all-lower all (f ∷ fs) =
    ap (λ (b : Bool). b && list_all (may_be_kept (map lowered all)) (map lowered fs)) (kept-lower all f)
    ∙ ap (λ (b : Bool). may_be_kept all f && b) (all-lower all fs)

passing-lower : (f : Field) → is_passing (lowered f) ≡ is_passing f
passing-lower f =
    ap (λ (t : List ℕ). bytes_eq (lower (codes "date")) t || (bytes_eq (lower (codes "expires")) t || bytes_eq (lower (codes "cache-control")) t)) (lower-lower f.0)

lines-same : (fs : List Field) → lines_of (filter is_passing (map lowered fs)) ≡ lines_of (filter is_passing fs)
lines-same fs = ap lines_of (filtered fs) ∙ lines-lowered (filter is_passing fs)
  where
    by : (f : Field) (fs : List Field) (b : Bool) → filter is_passing (map lowered fs) ≡ map lowered (filter is_passing fs)
        → (if b then lowered f ∷ filter is_passing (map lowered fs) else filter is_passing (map lowered fs)) ≡ map lowered (if b then f ∷ filter is_passing fs else filter is_passing fs)
    by f fs true more = ap (λ (gs : List Field). lowered f ∷ gs) more
    by f fs false more = more

    filtered : (fs : List Field) → filter is_passing (map lowered fs) ≡ map lowered (filter is_passing fs)
    filtered [] = refl
    filtered (f ∷ fs) =
        ap (λ (b : Bool). if b then lowered f ∷ filter is_passing (map lowered fs) else filter is_passing (map lowered fs)) (passing-lower f)
        ∙ by f fs (is_passing f) (filtered fs)

place-lower : (f : Field) → place_of (lowered f) ≡ place_of f
place-lower f =
    ap (λ (t : List ℕ). cond (bytes_eq (lower (codes "date")) t) 1 (cond (bytes_eq (lower (codes "expires")) t) 2 (cond (bytes_eq (lower (codes "cache-control")) t) 3 0))) (lower-lower f.0)

order-lower : (before : ℕ) (fs : List Field) → are_in_order before (map lowered fs) ≡ are_in_order before fs
order-lower before [] = refl
order-lower before (f ∷ fs) =
    ap (λ (place : ℕ). may_follow before place && are_in_order place (map lowered fs)) (place-lower f)
    ∙ ap (λ (b : Bool). may_follow before (place_of f) && b) (order-lower (place_of f) fs)

dated-lower : (fs : List Field) (came : ℕ) → is_dated (map lowered fs) came ≡ is_dated fs came
dated-lower fs came =
    ap (λ (values : List (List ℕ)). elim (slice_get values 0) as (λ o. Bool) [ Some value ↦ is_some (parse_secs value) | None ↦ nat_le 253402300800 came ]) (values-lower (codes "date") fs)

allowed-lower : (fs : List Field) (came : ℕ) → are_allowed (map lowered fs) came ≡ are_allowed fs came
allowed-lower fs came =
    ap (λ (b : Bool). (b && nat_le (length (lines_of (filter is_passing (map lowered fs)))) 2048) && (are_in_order 0 (map lowered fs) && is_dated (map lowered fs) came)) (all-lower fs fs)
    ∙ ap (λ (t : List ℕ). (list_all (may_be_kept fs) fs && nat_le (length t) 2048) && (are_in_order 0 (map lowered fs) && is_dated (map lowered fs) came)) (lines-same fs)
    ∙ ap (λ (b : Bool). (list_all (may_be_kept fs) fs && nat_le (length (lines_of (filter is_passing fs))) 2048) && (b && is_dated (map lowered fs) came)) (order-lower 0 fs)
    ∙ ap (λ (b : Bool). (list_all (may_be_kept fs) fs && nat_le (length (lines_of (filter is_passing fs))) 2048) && (are_in_order 0 fs && b)) (dated-lower fs came)

tag-lower : (fs : List Field) → tag_of (map lowered fs) ≡ tag_of fs
tag-lower fs =
    ap (λ (items : List (List ℕ)). state_in (if list_any (λ item. bytes_eq (lower (codes "etag")) (lower item)) items then [] else values_of (codes "etag") (map lowered fs))) (items-lower (codes "connection") fs)
    ∙ ap (λ (vs : List (List ℕ)). state_in (if is_dropped (codes "etag") fs then [] else vs)) (values-lower (codes "etag") fs)

-- ---- the row

uri-value : (b : ℕ) → is_uri_byte b ≡ true → is_value_byte b ≡ true
uri-value b is = grind (arith, nat_tests)

uri-solid : (b : ℕ) → is_uri_byte b ≡ true → is_solid b ≡ true
unfolding is_solid
uri-solid b is = grind (arith, nat_tests)

can-stand : (row : Row) → CanBeWritten row → CanStand (as_read row)
can-stand row can = record {
  fields = texts-lower row.fields can.fields;
  in_lower_case = lowered-lowered row.fields;
  allowed = allowed-lower row.fields row.times.response ∙ can.allowed;
  tag = ap strong_part (tag-lower row.fields) ∙ can.tag;
  key = All-weaker (λ b. is_uri_byte b ≡ true) (λ b. is_value_byte b ≡ true) uri-value row.key can.key;
  key_ends = solid-trimmed row.key (All-weaker (λ b. is_uri_byte b ≡ true) (λ b. is_solid b ≡ true) uri-solid row.key can.key);
  sized = can.sized;
  response = can.response;
  initial = can.initial;
  request = refl;
  no_guess = refl;
}

kept-text : (row : Row) → head_text row.key row.version.length (map lowered row.fields) (as_read row).times ≡ head_text row.key row.version.length row.fields row.times
unfolding head_text own_lines
kept-text row = text-lowered row.key row.version.length row.fields row.times

fits-lower : (fs : List Field) (a b : List ℕ) → a ≡ b → fits fs b ≡ true → fits (map lowered fs) a ≡ true
fits-lower fs a b same fit =
    ap (fits (map lowered fs)) same ∙ ap (λ (n : ℕ). nat_le n 95 && nat_le (length b) 8192) (length-map fs lowered) ∙ fit

-- what an entry writes of a row is read back as that row, its names in lower case
pub read-back : IsReadBack
read-back row can fit =
    ap (λ (t : List ℕ). row_at (padded t)) (sym (kept-text row))
    ∙ round-trip (as_read row) (can-stand row can) (fits-lower row.fields _ _ (kept-text row) fit)

-- there are such rows
an_etag : Field
an_etag = (codes "ETag", codes "\"x\"")

a_date : Field
a_date = (codes "Date", codes "Sun, 06 Nov 1994 08:49:37 GMT")

a_lifetime : Field
a_lifetime = (codes "Cache-Control", codes "max-age=60")

pub a_row : Row
a_row = record {
  key = codes "http://h/a";
  version = record { tag = codes "\"x\""; length = 5 };
  fields = an_etag ∷ a_date ∷ a_lifetime ∷ [];
  times = record { request = 784111776; response = 784111777; initial = 0; may_guess = true };
}

literal-text : (f : Field) → 0 < length f.0 → list_all is_token_byte f.0 ≡ true → list_all is_value_byte f.1 ≡ true → trim f.1 ≡ f.1 → IsFieldText f
literal-text f some name value ends = record {
  name = (some, AllPass-from_list_all is_token_byte f.0 name);
  value = AllPass-from_list_all is_value_byte f.1 value;
  trimmed = ends;
}

pub a_row-can : CanBeWritten a_row
unfolding a_row an_etag a_date a_lifetime is_token_byte pp_valid_on_literals
a_row-can = record {
  fields =
      All-cons IsFieldText an_etag (a_date ∷ a_lifetime ∷ []) (literal-text an_etag (omega arith) refl refl refl)
      (All-cons IsFieldText a_date (a_lifetime ∷ []) (literal-text a_date (omega arith) refl refl refl)
      (All-cons IsFieldText a_lifetime [] (literal-text a_lifetime (omega arith) refl refl refl) (All-nil IsFieldText)));
  allowed = refl;
  tag = refl;
  key = AllPass-from_list_all is_uri_byte (codes "http://h/a") refl;
  sized = refl;
  response = omega arith;
  initial = omega arith;
}
