-- A head that was read names few other places; and who changes something at its origin goes alone.
use Rattle.std.proofs.Common.{◌≡◌, ◌≤◌, ◌⊎◌, inl, inr, refl, sym, subst, ap, ℕ, Bool, true, false, not, ◌&&◌, ◌||◌, cond, filter, length, map, codes, List, [], ◌∷◌, length-append, arith}
use Rattle.std.proofs.lemmas.Bool.Decides.{nat_tests}
use Rattle.std.specs.Prelude.{bytes_eq, nat_le, nat_lt}
use Rattle.pp_framing.specs.Framing.{request_rule_of}
use Rattle.pp_head.specs.Limits.{is_limit_reached}
use Rattle.pp_head.specs.Read.{Read, Whole, TooLong, Bad, More, read_by}
use Rattle.pp_head.specs.Response.{Response, find_response, is_within, response_at, response_of}
use Rattle.pp_head.specs.Step.{Step, Done, Short, Wrong}
use Rattle.pp_law.specs.Lists.{Bytes}
use Rattle.pp_law.specs.Requests.{body_len_by, goes_alone, is_safe}
use Rattle.pp_law.specs.State.{Exchange}
use Rattle.pp_law.specs.ThroughHeads.{invalidates}
use Rattle.pp_pipe.specs.Authentication.{binds_connection}
use Rattle.pp_text.specs.Fields.{Field, is_named, values_of}
use Rattle.pp_joints_law.specs.HeadsNote.{others_named, others_told}
use Rattle.pp_joints_law.specs.ReadsNoteFew.{PlacesAreFew, ThereIsRoomForAll, UnsafeOnesGoAlone}

mapped_length : {A B : Type 0} (f : A → B) (xs : List A) → length (map f xs) ≤ length xs
mapped_length f [] = omega arith
mapped_length f (x ∷ xs) = omega (arith, mapped_length f xs)

mapped_few : {A B : Type 0} (f : A → B) (xs : List A) (n : ℕ) → length xs ≤ n → length (map f xs) ≤ n
mapped_few f xs n few = omega (arith, mapped_length f xs, few)

kept_length : (p : Field → Bool) (xs : List Field) → length (filter p xs) ≤ length xs
kept_length p [] = omega arith
kept_length p (x ∷ xs) = by (p x) (kept_length p xs)
  where
    by : (b : Bool) → length (filter p xs) ≤ length xs → length (cond b (x ∷ filter p xs) (filter p xs)) ≤ length (x ∷ xs)
    by true rest = omega (arith, rest)
    by false rest = omega (arith, rest)

values_few : (name : Bytes) (fields : List Field) → length (values_of name fields) ≤ length fields
values_few name fields = omega (arith, mapped_length (λ (f : Field). f.1) (filter (is_named name) fields), kept_length (is_named name) fields)

few_of : (n : ℕ) (b : Bool) → (nat_le n 100 && b) ≡ true → n ≤ 100
few_of n b is = by (nat_le n 100) refl is
  where
    low : nat_le n 100 ≡ true → n ≤ 100
    low so = grind (arith, nat_tests, so)

    by : (c : Bool) → nat_le n 100 ≡ c → (c && b) ≡ true → n ≤ 100
    by true so both = low so
    by false so both = absurd (cc both)

whole_is : (a b : Response) → Whole a ≡ Whole b → b ≡ a
whole_is a b is = cc is

read_few : {H : Type 0} (within : H → Bool) (show : H → Response) (text : Bytes) (o : Step H) (head : Response) → ((h : H) → within h ≡ true → length (show h).fields ≤ 100) → read_by within show text o ≡ Whole head → length head.fields ≤ 100
read_few within show text (Done h rest) head few is = at (within h) refl is
  where
    at : (b : Bool) → within h ≡ b → (elim b as (λ r. Read Response) [ true ↦ Whole (show h) | false ↦ TooLong ]) ≡ Whole head → length head.fields ≤ 100
    at true so whole = subst (λ (r : Response). length r.fields ≤ 100) (sym (whole_is (show h) head whole)) (few h so)
    at false so whole = absurd (cc whole)
read_few within show text Short head few is = at (is_limit_reached text) is
  where
    at : (b : Bool) → (elim b as (λ r. Read Response) [ true ↦ TooLong | false ↦ More ]) ≡ Whole head → length head.fields ≤ 100
    at true whole = absurd (cc whole)
    at false whole = absurd (cc whole)
read_few within show text Wrong head few is = at (is_limit_reached text) is
  where
    at : (b : Bool) → (elim b as (λ r. Read Response) [ true ↦ TooLong | false ↦ Bad ]) ≡ Whole head → length head.fields ≤ 100
    at true whole = absurd (cc whole)
    at false whole = absurd (cc whole)

fields_few : (text : Bytes) (head : Response) → response_at text ≡ Whole head → length head.fields ≤ 100
unfolding response_at
fields_few text head is = read_few is_within response_of text (find_response text) head (λ h within. mapped_few _ h.fields 100 (few_of (length h.fields) _ within)) is

pub places_few : PlacesAreFew
places_few text head is =
    omega
    (arith, fields_few text head is, values_few (codes "location") head.fields, values_few (codes "content-location") head.fields, length-append (values_of (codes "location") head.fields) (values_of (codes "content-location") head.fields))

-- ---- requests

first_false : (a b : Bool) → (a || b) ≡ false → a ≡ false
first_false true b is = is
first_false false b is = refl

alone_so : (a b c : Bool) → a ≡ false → ((not a || b) || c) ≡ true
alone_so true b c is = absurd (let both : true ≡ false = is in cc both)
alone_so false b c is = refl

pub unsafe_alone : UnsafeOnesGoAlone
unsafe_alone head is =
    let plain : Bool = bytes_eq head.method (codes "GET") || bytes_eq head.method (codes "HEAD") in
    alone_so plain (nat_lt 0 (body_len_by (request_rule_of head.fields))) (binds_connection head.fields) (first_false plain (bytes_eq head.method (codes "OPTIONS")) (first_false (plain || bytes_eq head.method (codes "OPTIONS")) (bytes_eq head.method (codes "TRACE")) is))

-- so a head names no others where its request is safe, and few where it is not
pub others_few : (e : Exchange) (head : Response) (text : Bytes) → response_at text ≡ Whole head → (others_told e head ≡ 0) ⊎ ((others_told e head ≤ 200) × (goes_alone e.head ≡ true))
others_few e head text read = by (is_safe e.head) refl
  where
    few : (b : Bool) → others_named b head ≤ 200
    few true = places_few text head read
    few false = omega arith

    by : (b : Bool) → is_safe e.head ≡ b → (others_told e head ≡ 0) ⊎ ((others_told e head ≤ 200) × (goes_alone e.head ≡ true))
    by true is = inl (ap (λ (c : Bool). others_named (not c && nat_le 200 head.status && nat_lt head.status 400) head) is)
    by false is = inr (few (invalidates e head), unsafe_alone e.head is)

pub room_for_all : ThereIsRoomForAll
room_for_all names rows heads places one two three four = omega (arith, one, two, three, four)
