-- What lasts stays through a refresh, and what is renewed fits the room for it.
use Rattle.std.proofs.Common.{ℕ, ◌+◌, ◌*◌, ◌≤◌, ◌≡◌, Bool, true, false, ◌&&◌, ◌||◌, not, cond, List, [], ◌∷◌, ◌++◌, length, filter, codes, Option, Some, None, arith, refl, sym, ◌∙◌, ap, subst, length-append}
use Rattle.std.specs.Prelude.{nat_lt, nat_le, Result, Ok, Err, OnOk, OnErr}
use Rattle.std.specs.Result.{is_err}
use Rattle.std.proofs.lemmas.Grind.{common_steps}
use Rattle.std.proofs.lemmas.Bool.Decides.{nat_tests}
use Rattle.std.proofs.lemmas.List.{append-nil, length-map}
use Rattle.std.proofs.lemmas.List.Elements.{filter-append}
use Rattle.std.proofs.lemmas.Slice.Eq.{bytes_eq-Decides}
use Rattle.std.specs.Char.{to_ascii_lowercase}
use Rattle.pp_text.specs.Bytes.{lower, is_same}
use Rattle.pp_text.specs.Fields.{Field, is_named}
use Rattle.pp_text.specs.Lines.{line_of, lines_of, crlf}
use Rattle.pp_fresh.specs.declared.aging.Times.{Times}
use Rattle.pp_valid.specs.Kept.{date_value, is_checksum, is_renewed, is_lasting_of, lasting_fields, renewed_fields}
use Rattle.pp_objects.specs.Dates.{date_text_at}
use Rattle.pp_objects.specs.Kept.{date_field, or_else, latest, renewal_of, kept_of, is_passing, lasting_of, refreshed_of, has_room}
use Rattle.pp_objects.specs.Texts.{size_of, FieldText, AddsFields, HasRoomFor, HoldsRefresh}
use Rattle.pp_objects.proofs.TextLemmas.{size_of-append}

-- choosing again leaves what all chosen ones pass, and nothing where none does
still_by : (p q : Field → Bool) (f : Field) (gs : List Field) (b : Bool) → (b ≡ true → q f ≡ true) → filter q gs ≡ gs → filter q (cond b (f ∷ gs) gs) ≡ cond b (f ∷ gs) gs
still_by p q f gs true h ih = rw (h refl) (ap (λ hs. f ∷ hs) ih)
still_by p q f gs false h ih = ih

all_pass : (p q : Field → Bool) (fs : List Field) → ((f : Field) → p f ≡ true → q f ≡ true) → filter q (filter p fs) ≡ filter p fs
all_pass p q [] h = refl
all_pass p q (f ∷ fs) h = still_by p q f (filter p fs) (p f) (h f) (all_pass p q fs h)

gone_by : (q : Field → Bool) (f : Field) (gs : List Field) (b : Bool) → (b ≡ true → q f ≡ false) → filter q gs ≡ [] → filter q (cond b (f ∷ gs) gs) ≡ []
gone_by q f gs true h ih = rw (h refl) ih
gone_by q f gs false h ih = ih

none_pass : (p q : Field → Bool) (fs : List Field) → ((f : Field) → p f ≡ true → q f ≡ false) → filter q (filter p fs) ≡ []
none_pass p q [] h = refl
none_pass p q (f ∷ fs) h = gone_by q f (filter p fs) (p f) (h f) (none_pass p q fs h)

lasts : (h a b c d s r : Bool) → (not h && not ((a || b || c || d || s) || r)) ≡ true → not (d || r) ≡ true
lasts h a b c d s r e = grind (arith, common_steps, e)

first_passes : (d a b : Bool) → a ≡ true → not (d || (a || b)) ≡ false
first_passes d a b e = grind (arith, common_steps, e)

second_passes : (d a b : Bool) → b ≡ true → not (d || (a || b)) ≡ false
second_passes d a b e = grind (arith, common_steps, e)

date_goes : (found : Option (List ℕ)) (came : ℕ) → lasting_of (date_field found came) ≡ []
date_goes (Some value) came = refl
date_goes None came = by (nat_lt came 253402300800)
  where
    by : (b : Bool) → lasting_of (cond b ((codes "date", date_text_at came) ∷ []) []) ≡ []
    by true = refl
    by false = refl

else_goes : (xs ys : List Field) → lasting_of xs ≡ [] → lasting_of ys ≡ [] → lasting_of (or_else xs ys) ≡ []
else_goes [] ys e f = f
else_goes (x ∷ xs) ys e f = e

renewal_goes : (kept fields : List Field) (times : Times) → lasting_of (renewal_of kept fields times) ≡ []
renewal_goes kept fields times =
    let date = date_field (date_value fields) times.response in
    let expires = latest (codes "expires") kept fields in
    let control = latest (codes "cache-control") kept fields in
    let q : Field → Bool = λ f. not (is_passing f) in
    let e : lasting_of expires ≡ [] = else_goes (filter (is_named (codes "expires")) (renewed_fields fields)) (filter (is_named (codes "expires")) kept)
    (none_pass (is_named (codes "expires")) q (renewed_fields fields) (λ f. first_passes (is_named (codes "date") f) (is_named (codes "expires") f) (is_named (codes "cache-control") f)))
    (none_pass (is_named (codes "expires")) q kept (λ f. first_passes (is_named (codes "date") f) (is_named (codes "expires") f) (is_named (codes "cache-control") f))) in
    let c : lasting_of control ≡ [] = else_goes (filter (is_named (codes "cache-control")) (renewed_fields fields)) (filter (is_named (codes "cache-control")) kept)
    (none_pass (is_named (codes "cache-control")) q (renewed_fields fields) (λ f. second_passes (is_named (codes "date") f) (is_named (codes "expires") f) (is_named (codes "cache-control") f)))
    (none_pass (is_named (codes "cache-control")) q kept (λ f. second_passes (is_named (codes "date") f) (is_named (codes "expires") f) (is_named (codes "cache-control") f))) in
    filter-append q (date ++ expires) control ∙ ap (λ xs. xs ++ lasting_of control) (filter-append q date expires)
    ∙ ap (λ xs. (xs ++ lasting_of expires) ++ lasting_of control) (date_goes (date_value fields) times.response)
    ∙ ap (λ xs. ([] ++ xs) ++ lasting_of control) e ∙ c

lasting_stays : (xs kept fields : List Field) (times : Times) → lasting_of xs ≡ xs → lasting_of (xs ++ renewal_of kept fields times) ≡ xs
lasting_stays xs kept fields times e =
    filter-append (λ f. not (is_passing f)) xs (renewal_of kept fields times)
    ∙ ap (λ ys. ys ++ lasting_of (renewal_of kept fields times)) e ∙ ap (λ ys. xs ++ ys) (renewal_goes kept fields times) ∙ append-nil xs

pub lasting_kept : (fields : List Field) (times : Times) → lasting_of (kept_of fields times) ≡ lasting_fields fields
lasting_kept fields times =
    lasting_stays (lasting_fields fields) [] fields times
    (all_pass (is_lasting_of fields) (λ f. not (is_passing f)) fields
    (λ f. lasts _ (is_named (codes "content-length") f) (is_named (codes "content-range") f) (is_named (codes "age") f) (is_named (codes "date") f) (is_checksum f) (is_renewed f)))

pub lasting_refreshed : (kept fields : List Field) (times : Times) → lasting_of (refreshed_of kept fields times) ≡ lasting_of kept
lasting_refreshed kept fields times =
    lasting_stays (lasting_of kept) kept fields times (all_pass (λ f. not (is_passing f)) (λ f. not (is_passing f)) kept (λ f e. e))

-- a line has its name and value, and 4 bytes more
line_size : (f : Field) → length (line_of f) ≡ length f.0 + length f.1 + 4
line_size f =
    omega (
      arith,
      length-append (lower f.0) (codes ": " ++ (f.1 ++ crlf)),
      length-append (codes ": ") (f.1 ++ crlf),
      length-append f.1 crlf,
      length-map f.0 to_ascii_lowercase,
    )

pub lines_size : (fs : List Field) → length (lines_of fs) ≡ size_of fs + 4 * length fs
lines_size [] = omega arith
lines_size (f ∷ fs) = omega (arith, length-append (line_of f) (lines_of fs), line_size f, lines_size fs)

-- each name has 4 bytes or more
abbrev wide : List Field → Type 0
wide fs = 4 * length fs ≤ size_of fs

wide_both : (xs ys : List Field) → wide xs → wide ys → wide (xs ++ ys)
wide_both xs ys h k = omega (arith, h, k, size_of-append xs ys, length-append xs ys)

same_length : (a b : List ℕ) → is_same a b ≡ true → length a ≡ length b
same_length a b e = sym (length-map a to_ascii_lowercase) ∙ ap length ((bytes_eq-Decides (lower a) (lower b)).0 e) ∙ length-map b to_ascii_lowercase

wide_by : (name : List ℕ) (f : Field) (gs : List Field) (b : Bool) → 4 ≤ length name → (b ≡ true → length name ≡ length f.0) → wide gs → wide (cond b (f ∷ gs) gs)
wide_by name f gs true long h ih = omega (arith, long, h refl, ih)
wide_by name f gs false long h ih = ih

wide_named : (name : List ℕ) (fs : List Field) → 4 ≤ length name → wide (filter (is_named name) fs)
wide_named name [] long = omega arith
wide_named name (f ∷ fs) long = wide_by name f (filter (is_named name) fs) (is_named name f) long (same_length name f.0) (wide_named name fs long)

wide_else : (xs ys : List Field) → wide xs → wide ys → wide (or_else xs ys)
wide_else [] ys h k = k
wide_else (x ∷ xs) ys h k = h

wide_date : (found : Option (List ℕ)) (came : ℕ) → wide (date_field found came)
wide_date (Some value) came = omega arith
wide_date None came = by (nat_lt came 253402300800)
  where
    by : (b : Bool) → wide (cond b ((codes "date", date_text_at came) ∷ []) [])
    by true = omega arith
    by false = omega arith

wide_renewal : (kept fields : List Field) (times : Times) → wide (renewal_of kept fields times)
wide_renewal kept fields times =
    let date = date_field (date_value fields) times.response in
    let expires = latest (codes "expires") kept fields in
    let control = latest (codes "cache-control") kept fields in
    wide_both (date ++ expires) control
    (wide_both date expires (wide_date (date_value fields) times.response)
    (wide_else (filter (is_named (codes "expires")) (renewed_fields fields)) (filter (is_named (codes "expires")) kept) (wide_named (codes "expires") (renewed_fields fields) (omega arith)) (wide_named (codes "expires") kept (omega arith))))
    (wide_else (filter (is_named (codes "cache-control")) (renewed_fields fields)) (filter (is_named (codes "cache-control")) kept) (wide_named (codes "cache-control") (renewed_fields fields) (omega arith)) (wide_named (codes "cache-control") kept (omega arith)))

room_is : (n m : ℕ) → nat_le n m ≡ true → n ≤ m
room_is n m e = grind (arith, nat_tests, e)

-- the room that settling took is enough
pub fits : (kept fields : List Field) (times : Times) (a : FieldText) → has_room kept fields times ≡ true → HoldsRefresh kept a
    → HasRoomFor (refreshed_of kept fields times) (record a { fields = []; used = 0 })
fits kept fields times a room holds =
    let most = room_is (length (lines_of (renewal_of kept fields times))) 2048 room in
    let lines = lines_size (renewal_of kept fields times) in
    let size = size_of-append (lasting_of kept) (renewal_of kept fields times) in
    let count = length-append (lasting_of kept) (renewal_of kept fields times) in
    let names = wide_renewal kept fields times in
    record {
      bytes = omega (arith, most, lines, size, holds.bytes);
      small = omega (arith, most, lines, size, holds.small);
      places = omega (arith, most, lines, count, names, holds.places);
    }

-- a text that holds other fields of the same that last, and has no less room
pub still_holds : (kept more : List Field) (a b : FieldText) → lasting_of more ≡ lasting_of kept → a.bytes ≤ b.bytes → a.places ≤ b.places → HoldsRefresh kept a → HoldsRefresh more b
still_holds kept more a b same bytes places holds = record {
  bytes = omega (arith, ap size_of same, bytes, holds.bytes);
  small = omega (arith, ap size_of same, holds.small);
  places = omega (arith, ap length same, places, holds.places);
}

of_err : {A E : Type 0} {P : Type 0} (r : Result A E) → is_err r ≡ true → OnErr r P → P
of_err (Ok a) e p = absurd cc
of_err (Err x) e p = p

of_ok : {A E : Type 0} {P : Type 0} (r : Result A E) → is_err r ≡ false → OnOk r P → P
of_ok (Ok a) e p = p
of_ok (Err x) e p = absurd cc

-- so a refresh does not fail
pub never_fails : {A E : Type 0} (r : Result A E) (shown kept fields : List Field) (times : Times) (a b : FieldText) → is_err r ≡ true
    → OnErr r (HasRoomFor (refreshed_of shown fields times) b → ⊥) → shown ≡ kept → b ≡ record a { fields = []; used = 0 } → has_room kept fields times ≡ true → HoldsRefresh kept a → ⊥
never_fails r shown kept fields times a b failed full same cleared room holds =
    let P : FieldText → Type 0 = λ t. HasRoomFor (refreshed_of kept fields times) t in
    let Q : List Field → Type 0 = λ fs. HasRoomFor (refreshed_of fs fields times) b → ⊥ in
    subst Q same (of_err r failed full) (subst P (sym cleared) (fits kept fields times a room holds))

-- and what was written has the same room
pub refreshed_holds : {A E : Type 0} (r : Result A E) (shown kept fields : List Field) (times : Times) (a b d : FieldText) → is_err r ≡ false
    → OnOk r (AddsFields b d (refreshed_of shown fields times)) → shown ≡ kept → b ≡ record a { fields = []; used = 0 } → HoldsRefresh kept a
    → (d.fields ≡ refreshed_of kept fields times) × HoldsRefresh d.fields d × ((c : FieldText) → HoldsRefresh kept c → HoldsRefresh d.fields c)
refreshed_holds r shown kept fields times a b d fine ok same cleared holds =
    let adds = of_ok r fine ok in
    let now : d.fields ≡ refreshed_of kept fields times = adds.fields ∙ ap (λ (t : FieldText). t.fields ++ refreshed_of shown fields times) cleared ∙ ap (λ fs. refreshed_of fs fields times) same in
    let lasts : lasting_of d.fields ≡ lasting_of kept = ap lasting_of now ∙ lasting_refreshed kept fields times in (
      now,
      still_holds kept d.fields a d lasts (omega (arith, adds.bytes, ap (λ (t : FieldText). t.bytes) cleared)) (omega (arith, adds.places, ap (λ (t : FieldText). t.places) cleared)) holds,
      λ c other. still_holds kept d.fields c c lasts (omega arith) (omega arith) other,
    )

-- the two texts of a row that was just made
pub kept_holds : (fields : List Field) (times : Times) (a b c d e : FieldText) → a.fields ≡ [] → a.used ≡ 0 → AddsFields a b (lasting_fields fields)
    → b.used ≤ 4294965247 → c.fields ≡ b.fields → b.used + 2048 ≤ c.bytes → length b.fields + 256 ≤ c.places
    → AddsFields c d (renewal_of [] fields times) → b.used + 2048 ≤ e.bytes → length b.fields + 256 ≤ e.places
    → HoldsRefresh d.fields d × HoldsRefresh d.fields e
kept_holds fields times a b c d e none zero first small same bytes places second spare_bytes spare_places =
    let lasting : b.fields ≡ lasting_fields fields = first.fields ∙ ap (λ fs. fs ++ lasting_fields fields) none in
    let all : d.fields ≡ kept_of fields times = second.fields ∙ ap (λ fs. fs ++ renewal_of [] fields times) (same ∙ lasting) in
    let lasts : lasting_of d.fields ≡ lasting_fields fields = ap lasting_of all ∙ lasting_kept fields times in
    let size : size_of (lasting_of d.fields) ≡ b.used = omega (arith, ap size_of lasts, first.used, zero) in
    let count : length (lasting_of d.fields) ≡ length b.fields = omega (arith, ap length lasts, ap length lasting) in (
      record {
        bytes = omega (arith, size, bytes, second.bytes);
        small = omega (arith, size, small);
        places = omega (arith, count, places, second.places);
      },
      record {
        bytes = omega (arith, size, spare_bytes);
        small = omega (arith, size, small);
        places = omega (arith, count, spare_places);
      },
    )

-- the lines of what is renewed, part by part
pub lines-append : (xs ys : List Field) → length (lines_of (xs ++ ys)) ≡ length (lines_of xs) + length (lines_of ys)
lines-append xs ys = omega (arith, lines_size (xs ++ ys), lines_size xs, lines_size ys, size_of-append xs ys, length-append xs ys)

pub lines_none : (xs : List Field) → length (lines_of xs) ≡ 0 → length xs ≡ 0
lines_none xs e = omega (arith, lines_size xs, e)
