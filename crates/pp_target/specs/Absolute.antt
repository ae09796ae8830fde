-- The absolute form of a target (RFC 2616, section 5.1.2), read by the grammar of http_uri as tests that compute.
--   http_URL = "http:" "//" host [ ":" port ] [ abs_path [ "?" query ]]       (section 3.2.2)
use Rattle.std.specs.Prelude.{◌≡◌, ℕ, zero, suc, ◌+◌, ◌-◌, ◌↔◌, Bool, true, not, ◌&&◌, ◌||◌, ◌==◌, nat_lt, nat_le, if◌then◌else◌, List, [], ◌∷◌, length, take, drop, slice_index, codes, bytes_eq, Option, Some, None}
use Rattle.std.specs.List.{list_all}
use Rattle.std.specs.Str.{is_utf8}
use Rattle.http_uri.specs.ByteClasses.{is_scheme_byte, is_authority_byte, is_path_byte, is_query_byte, is_delimiter, count_of, split_once_front, split_once_back, at_sign, colon, left_bracket, percent_sign, question_mark, right_bracket, slash}
use Rattle.http_uri.specs.Grammar.{IsUriText, normal_scheme, last_piece, without_fragment, scheme_len, authority_len}

-- the most bytes that http_uri takes as a target, a path or a query
abbrev pub is_short : List ℕ → Bool
is_short text = nat_le (length text) 65534

abbrev pub is_scheme : List ℕ → Bool
is_scheme text = list_all is_scheme_byte text && nat_le (length text) 64

-- the byte may follow the front of an authority
abbrev pub may_follow : List ℕ → ℕ → Bool
may_follow front b =
    is_authority_byte b
    && (not (b == colon) || nat_lt (count_of colon (last_piece front)) 8)
    && (not (b == left_bracket) || ((count_of left_bracket front == 0) && (count_of percent_sign (last_piece front) == 0)))
    && (not (b == right_bracket) || (nat_lt 0 (count_of left_bracket front) && (count_of right_bracket front == 0)))

-- each of the first n bytes may follow those before it
abbrev pub all_follow : List ℕ → ℕ → Bool
all_follow text zero = true
all_follow text (suc n) = may_follow (take n text) (slice_index text n) && all_follow text n

-- authority = [ userinfo "@" ] host [ ":" port ]
abbrev pub is_authority : List ℕ → Bool
is_authority text =
    nat_lt 0 (length text)
    && (all_follow text (length text)
    && ((count_of left_bracket text == count_of right_bracket text)
    && (nat_le (count_of colon (last_piece text)) 1
    && ((count_of percent_sign (last_piece text) == 0)
    && not (slice_index text (length text - 1) == at_sign)))))

abbrev pub is_query : Option (List ℕ) → Bool
is_query None = true
is_query (Some text) = list_all is_query_byte text

-- path [ "?" query ]
abbrev pub is_path_and_query : List ℕ → Bool
is_path_and_query text =
    (bytes_eq text [] || (bytes_eq text (codes "*") || ((slice_index text 0 == slash) || (slice_index text 0 == question_mark))))
    && (list_all is_path_byte (split_once_front question_mark text)
    && (is_query (split_once_back question_mark text)
    && (is_utf8 text && is_short text)))

-- a path and query, and maybe a fragment, which may hold anything
abbrev pub is_path_input : List ℕ → Bool
is_path_input text =
    (bytes_eq text (codes "*") || is_delimiter (slice_index text 0))
    && (is_short text && is_path_and_query (without_fragment text))

-- nothing, or what begins with a byte that ends an authority
abbrev pub is_tail : List ℕ → Bool
is_tail text = bytes_eq text [] || (is_delimiter (slice_index text 0) && is_path_input text)

-- the three pieces of `scheme://authority` and its tail
abbrev pub scheme_in : List ℕ → List ℕ
scheme_in text = take (scheme_len text) text

abbrev pub after_scheme : List ℕ → List ℕ
after_scheme text = drop (scheme_len text + 3) text

abbrev pub authority_in : List ℕ → List ℕ
authority_in text = take (authority_len (after_scheme text)) (after_scheme text)

abbrev pub tail_in : List ℕ → List ℕ
tail_in text = drop (authority_len (after_scheme text)) (after_scheme text)

abbrev pub is_absolute : List ℕ → Bool
is_absolute text =
    is_short text
    && (bytes_eq (take 3 (drop (scheme_len text) text)) (codes "://")
    && (is_scheme (scheme_in text) && (is_authority (authority_in text) && is_tail (tail_in text))))

-- "the absolute path .. if none is present in the original URI, it MUST be given as "/"" (section 5.1.2)
abbrev pub kept_of : List ℕ → List ℕ
kept_of [] = codes "/"
kept_of (b ∷ text) = without_fragment (b ∷ text)

pub record Absolute : Type 0 where
  pub scheme : List ℕ  -- `http` and `https` in lower case
  pub authority : List ℕ
  pub path : List ℕ  -- path and query, without a fragment

-- the parts of an absolute target
unfoldable pub absolute_at : List ℕ → Option Absolute
absolute_at text =
    if is_absolute text
    then Some (record { scheme = normal_scheme (scheme_in text); authority = authority_in text; path = kept_of (tail_in text) })
    else None

-- these tests and the grammar of http_uri give the same parts to the same texts
abbrev pub HasUriGrammar : List ℕ → Type 0
HasUriGrammar text =
    (scheme authority path : List ℕ)
    → (IsUriText text (Some scheme) (Some authority) path ↔ (absolute_at text ≡ Some (record { scheme = scheme; authority = authority; path = path })))
