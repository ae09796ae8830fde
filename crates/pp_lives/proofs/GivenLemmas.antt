-- What a life is given to keep can be written and read back.
use Rattle.std.proofs.Common.{◌≡◌, ◌<◌, ◌≤◌, ℕ, true, List, [], ◌∷◌, length, drop, codes, refl, sym, subst, arith}
use Rattle.std.specs.Prelude.{All}
use Rattle.std.specs.List.{list_all}
use Rattle.std.proofs.lemmas.Bool.Decides.{nat_tests}
use Rattle.std.proofs.lemmas.List.Elements.{All-nil, All-cons}
use Rattle.std.proofs.lemmas.List.Sums.{AllPass-from_list_all}
use Rattle.httparse.specs.Grammar.{is_token_byte, is_uri_byte, is_value_byte}
use Rattle.pp_text.specs.Bytes.{trim}
use Rattle.pp_text.specs.Fields.{Field}
use Rattle.pp_head.specs.Agreement.{IsFieldText}
use Rattle.pp_world.specs.Disk.{Bytes}
use Rattle.pp_entry.specs.Entries.{is_sized}
use Rattle.pp_entry.specs.Spelling.{CanBeWritten}
use Rattle.pp_entry.specs.Texts.{body_at}
use Rattle.pp_gate.specs.Seal.{IsFront}
use Rattle.pp_store.specs.Changes.{entry_with}
use Rattle.pp_valid.proofs.OnLiterals.{pp_valid_on_literals}
use Rattle.pp_valid.specs.declared.version.Version.{Version}
use Rattle.pp_lives.specs.Lives.{IsAnyFront, any_byte, given_fields, given_row, given_version, is_front_of}

literal-text : (f : Field) → 0 < length f.0 → list_all is_token_byte f.0 ≡ true → list_all is_value_byte f.1 ≡ true → trim f.1 ≡ f.1 → IsFieldText f
literal-text f some name value ends = record {
  name = (some, AllPass-from_list_all is_token_byte f.0 name);
  value = AllPass-from_list_all is_value_byte f.1 value;
  trimmed = ends;
}

a_tag : Field
a_tag = (codes "etag", codes "\"x\"")

a_date : Field
a_date = (codes "date", codes "Sun, 06 Nov 1994 08:49:37 GMT")

a_lifetime : Field
a_lifetime = (codes "cache-control", codes "max-age=60")

field-texts : All IsFieldText given_fields
unfolding a_tag a_date a_lifetime is_token_byte
field-texts =
    All-cons IsFieldText a_tag (a_date ∷ a_lifetime ∷ []) (literal-text a_tag (omega arith) refl refl refl)
    (All-cons IsFieldText a_date (a_lifetime ∷ []) (literal-text a_date (omega arith) refl refl refl)
    (All-cons IsFieldText a_lifetime [] (literal-text a_lifetime (omega arith) refl refl refl) (All-nil IsFieldText)))

pub row_written : (key : List ℕ) (n : ℕ) → list_all is_uri_byte key ≡ true → is_sized n ≡ true → CanBeWritten (given_row key n)
unfolding pp_valid_on_literals
row_written key n solid sized = record {
  fields = field-texts;
  allowed = refl;
  tag = refl;
  key = AllPass-from_list_all is_uri_byte key solid;
  sized = sized;
  response = omega arith;
  initial = omega arith;
}

pub any_front : (n : ℕ) (front : Bytes) → is_front_of n (length front) ≡ true → IsAnyFront n front
any_front n front is block = record {
  whole = grind (arith, is, nat_tests);
  sent_all = λ offset below. refl;
}

-- ---- as `keep` asks for it

pub written_as : (key : List ℕ) (n : ℕ) (version : Version) (fields : List Field) → version ≡ given_version n → fields ≡ given_fields → CanBeWritten (given_row key n)
    → CanBeWritten (entry_with key version fields (given_row key n).times)
written_as key n version fields is_version are_fields can =
    subst (λ (v : Version). CanBeWritten (entry_with key v fields (given_row key n).times)) (sym is_version)
    (subst (λ (fs : List Field). CanBeWritten (entry_with key (given_version n) fs (given_row key n).times)) (sym are_fields) can)

pub room_as : (n : ℕ) (version : Version) (room items : Bytes) → version ≡ given_version n → room ≡ items → body_at n ≤ length items → body_at version.length ≤ length room
room_as n version room items is_version is_room has =
    subst (λ (v : Version). body_at v.length ≤ length room) (sym is_version) (subst (λ (xs : Bytes). body_at n ≤ length xs) (sym is_room) has)

pub front_as : (block : Bytes) (n : ℕ) (version : Version) (room items front : Bytes) → version ≡ given_version n → room ≡ items → drop (body_at n) items ≡ front → IsAnyFront n front
    → IsFront any_byte block version.length (drop (body_at version.length) room)
front_as block n version room items front is_version is_room behind any =
    subst (λ (v : Version). IsFront any_byte block v.length (drop (body_at v.length) room)) (sym is_version)
    (subst (λ (xs : Bytes). IsFront any_byte block n (drop (body_at n) xs)) (sym is_room) (subst (IsFront any_byte block n) (sym behind) (any block)))
