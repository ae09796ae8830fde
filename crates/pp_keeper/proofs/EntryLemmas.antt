-- Each entry that this program keeps can be written, and none of its body is kept with it.
use Rattle.std.proofs.Common.{◌≡◌, ◌⊎◌, inl, inr, ◌<◌, ◌≤◌, ◌+◌, ◌^◌, ℕ, true, List, [], ◌∷◌, ◌++◌, length, drop, length-drop, codes, decimal, refl, sym, ◌∙◌, ap, subst, arith, Some}
use Rattle.std.specs.Prelude.{All}
use Rattle.std.specs.Char.{digit_value}
use Rattle.std.specs.Str.Parse.{AllDigits}
use Rattle.std.proofs.lemmas.Bool.Decides.{nat_tests}
use Rattle.std.proofs.lemmas.Fmt.{decimal_is_IsNumeral}
use Rattle.std.proofs.lemmas.List.Elements.{All-nil, All-cons, All-append}
use Rattle.std.proofs.lemmas.List.Sums.{AllPass-from_list_all}
use Rattle.httparse.specs.Grammar.{AllPass, is_token_byte, is_uri_byte, is_value_byte}
use Rattle.pp_text.specs.Fields.{Field}
use Rattle.pp_head.proofs.OnLiterals.{pp_head_on_literals}
use Rattle.pp_head.specs.Agreement.{IsFieldText}
use Rattle.pp_head.specs.Read.{Whole}
use Rattle.pp_head.specs.Response.{Response, response_at}
use Rattle.pp_valid.proofs.OnLiterals.{pp_valid_on_literals}
use Rattle.pp_valid.specs.TagStates.{tag_of}
use Rattle.pp_valid.specs.Versions.{strong_part}
use Rattle.pp_entry.specs.Entries.{Row, is_sized}
use Rattle.pp_entry.specs.Fields.{are_allowed}
use Rattle.pp_entry.specs.Spelling.{CanBeWritten}
use Rattle.pp_entry.specs.Texts.{body_at}
use Rattle.pp_gate.specs.Seal.{IsFront}
use Rattle.pp_keeper.specs.Anything.{anything}

a_tag : Field
a_tag = (codes "etag", codes "\"x\"")

a_date : Field
a_date = (codes "date", codes "Thu, 01 Jan 1970 00:00:00 GMT")

-- the response that each entry keeps
response_is : response_at (codes "HTTP/1.1 200 OK\r\netag: \"x\"\r\ndate: Thu, 01 Jan 1970 00:00:00 GMT\r\n\r\n") ≡ Whole (record { minor = 1; status = 200; reason = codes "OK"; fields = a_tag ∷ a_date ∷ []; length = 67 })
unfolding pp_head_on_literals a_tag a_date
response_is = refl

fields_of : (response : Response) → response_at (codes "HTTP/1.1 200 OK\r\netag: \"x\"\r\ndate: Thu, 01 Jan 1970 00:00:00 GMT\r\n\r\n") ≡ Whole response → response.fields ≡ a_tag ∷ a_date ∷ []
fields_of response is = by (sym is ∙ response_is)
  where
    by : Whole response ≡ Whole (record { minor = 1; status = 200; reason = codes "OK"; fields = a_tag ∷ a_date ∷ []; length = 67 }) → response.fields ≡ a_tag ∷ a_date ∷ []
    by same = cc same

tag-text : IsFieldText a_tag
unfolding a_tag is_token_byte
tag-text = record {
  name = (omega arith, AllPass-from_list_all is_token_byte (codes "etag") refl);
  value = AllPass-from_list_all is_value_byte (codes "\"x\"") refl;
  trimmed = refl;
}

date-text : IsFieldText a_date
unfolding a_date is_token_byte
date-text = record {
  name = (omega arith, AllPass-from_list_all is_token_byte (codes "date") refl);
  value = AllPass-from_list_all is_value_byte (codes "Thu, 01 Jan 1970 00:00:00 GMT") refl;
  trimmed = refl;
}

fields-allowed : (came : ℕ) → are_allowed (a_tag ∷ a_date ∷ []) came ≡ true
unfolding a_tag a_date pp_valid_on_literals
fields-allowed came = refl

digit-passes : (c : ℕ) → digit_value c < 10 → is_uri_byte c ≡ true
digit-passes c small = grind (arith, nat_tests)

digits-pass : (ds : List ℕ) → AllDigits 10 ds → AllPass is_uri_byte ds
digits-pass [] all = All-nil _
digits-pass (c ∷ cs) all = All-cons (λ b. is_uri_byte b ≡ true) c cs (digit-passes c all.0) (digits-pass cs all.1)

key-passes : (number : ℕ) → number < 2 ^ 64 → AllPass is_uri_byte (codes "http://h/" ++ decimal number)
key-passes number less =
    All-append (λ b. is_uri_byte b ≡ true) (codes "http://h/") (decimal number) (AllPass-from_list_all is_uri_byte (codes "http://h/") refl)
    (digits-pass (decimal number) (decimal_is_IsNumeral number less).0.1)

length-sized : (n : ℕ) → 1 ≤ n → n ≤ 2 ^ 26 → is_sized n ≡ true
length-sized n some few = grind (arith, nat_tests)

pub can : (row : Row) (response : Response) (number : ℕ)
    → response_at (codes "HTTP/1.1 200 OK\r\netag: \"x\"\r\ndate: Thu, 01 Jan 1970 00:00:00 GMT\r\n\r\n") ≡ Whole response → row.fields ≡ response.fields
    → number < 2 ^ 64 → row.key ≡ codes "http://h/" ++ decimal number
    → strong_part (tag_of row.fields) ≡ Some row.version.tag
    → 1 ≤ row.version.length → row.version.length ≤ 2 ^ 26
    → row.times.response ≡ 0 → row.times.initial ≡ 0
    → CanBeWritten row
can row response number is fields less key tag some few response_time initial =
    let fields : row.fields ≡ a_tag ∷ a_date ∷ [] = fields ∙ fields_of response is in
    record {
      fields = subst (λ (fs : List Field). All IsFieldText fs) (sym fields) (All-cons IsFieldText a_tag (a_date ∷ []) tag-text (All-cons IsFieldText a_date [] date-text (All-nil IsFieldText)));
      allowed = ap (λ (fs : List Field). are_allowed fs row.times.response) fields ∙ fields-allowed row.times.response;
      tag = tag;
      key = subst (λ (k : List ℕ). AllPass is_uri_byte k) (sym key) (key-passes number less);
      sized = length-sized row.version.length some few;
      response = omega (arith, response_time);
      initial = omega (arith, initial);
    }

-- none of a body, or all of it, may be kept with its entry
none_or_all : (block : List ℕ) (n : ℕ) (kept : List ℕ) → (length kept ≡ 0) ⊎ (length kept ≡ n) → IsFront anything block n kept
none_or_all block n kept size = record {
  whole = grind (arith, size);
  sent_all = λ offset less. refl;
}

size_behind : (n kept : ℕ) (room : List ℕ) → length room ≡ body_at n + kept → length (drop (body_at n) room) ≡ kept
size_behind n kept room size = omega (arith, length-drop (body_at n) room, size)

-- what stands in the room behind the place of the body
pub front_in_room : (block : List ℕ) (n kept : ℕ) (room : List ℕ) → length room ≡ body_at n + kept → (kept ≡ 0) ⊎ (kept ≡ n) → IsFront anything block n (drop (body_at n) room)
front_in_room block n kept room size (inl none) = none_or_all block n _ (inl (size_behind n kept room size ∙ none))
front_in_room block n kept room size (inr all) = none_or_all block n _ (inr (size_behind n kept room size ∙ all))

pub body_at_room : (n : ℕ) → n ≤ 2 ^ 26 → body_at n ≤ 24576
unfolding body_at
body_at_room n few = omega (arith, few)

-- a body of so few chunks stands behind one page of gates
body_at_few : (n : ℕ) → n ≤ 262144 → body_at n ≤ 12288
unfolding body_at
body_at_few n few = omega (arith, few)

-- what is published has room
pub fits_room : (n kept : ℕ) → n ≤ 2 ^ 26 → (kept ≡ 0) ⊎ (kept ≡ n) → kept ≤ 262144 → body_at n + kept ≤ 274432
fits_room n kept sized (inl none) few = omega (arith, none, body_at_room n sized)
fits_room n kept sized (inr all) few = omega (arith, all, body_at_few n (omega arith))
