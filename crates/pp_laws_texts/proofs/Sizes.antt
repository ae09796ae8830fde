-- How many bytes the lines have that are kept of a response.
use Rattle.std.proofs.Common.{◌≡◌, refl, ℕ, zero, suc, ◌+◌, ◌-◌, ◌≤◌, nat_le, nat_lt, Bool, true, false, cond, List, [], ◌∷◌, ◌++◌, filter, length, Option, Some, None, codes, bytes_eq, slice_index_or, sym, subst, ◌∙◌, le_refl, length-append, zero-le, arith}
use Rattle.std.proofs.lemmas.Bool.Decides.{nat_tests}
use Rattle.httpdate.specs.Text.{day_name, four_digits, imf_fixdate, month_name, time_of_day, two_digits}
use Rattle.httpdate.specs.declared.parts.Parts.{Parts}
use Rattle.pp_fresh.specs.declared.aging.Times.{Times}
use Rattle.pp_objects.specs.Dates.{date_text_at, parts_at}
use Rattle.pp_objects.specs.Kept.{date_field, has_room, kept_of, lasting_of, latest, or_else, refreshed_of, renewal_of}
use Rattle.pp_objects.proofs.Refreshing.{lasting_kept, lasting_refreshed, lines-append}
use Rattle.pp_text.specs.Bytes.{lower}
use Rattle.pp_text.specs.Fields.{Field, is_named}
use Rattle.pp_text.specs.Lines.{crlf, line_of, lines_of}
use Rattle.pp_valid.specs.Kept.{date_line_len, date_value, has_room_for, lasting_fields, renewed_fields}
use Rattle.pp_cache_law.proofs.KeptTwice.{by_name}
use Rattle.pp_laws.proofs.Tests.{first_holds, second_holds}

abbrev pub size : List Field → ℕ
size fields = length (lines_of fields)

-- ---- fewer fields

line_first : (f : Field) (fs : List Field) → size (f ∷ fs) ≡ length (line_of f) + size fs
line_first f fs = length-append (line_of f) (lines_of fs)

pub fewer : (p : Field → Bool) (fs : List Field) → size (filter p fs) ≤ size fs
fewer p [] = le_refl 0
fewer p (f ∷ fs) = by (p f) (fewer p fs)
  where
    by : (t : Bool) → size (filter p fs) ≤ size fs → size (cond t (f ∷ filter p fs) (filter p fs)) ≤ size (f ∷ fs)
    by true le = let one = line_first f (filter p fs) in let two = line_first f fs in omega arith
    by false le = let two = line_first f fs in omega arith

-- two names are not those of one field
pub both_within : (p q : Field → Bool) → ((f : Field) → p f ≡ true → q f ≡ false) → (fs : List Field) → size (filter p fs) + size (filter q fs) ≤ size fs
both_within p q apart [] = le_refl 0
both_within p q apart (f ∷ fs) = by (p f) (q f) refl refl (both_within p q apart fs)
  where
    by : (t u : Bool) → p f ≡ t → q f ≡ u → size (filter p fs) + size (filter q fs) ≤ size fs → size (cond t (f ∷ filter p fs) (filter p fs)) + size (cond u (f ∷ filter q fs) (filter q fs)) ≤ size (f ∷ fs)
    by true true is its le = let both : false ≡ true = sym (apart f is) ∙ its in absurd (cc both)
    by true false is its le = let one = line_first f (filter p fs) in let two = line_first f fs in omega arith
    by false true is its le = let one = line_first f (filter q fs) in let two = line_first f fs in omega arith
    by false false is its le = let two = line_first f fs in omega arith

-- ---- the date

abbrev Short3 : List (List ℕ) → Type 0
Short3 [] = Unit {0}
Short3 (xs ∷ xss) = (length xs ≤ 3) × Short3 xss

short_at : (xss : List (List ℕ)) (i : ℕ) → Short3 xss → length (slice_index_or xss i []) ≤ 3
short_at [] i all = zero-le
short_at (xs ∷ xss) zero all = all.0
short_at (xs ∷ xss) (suc i) all = short_at xss i all.1

day_short : (n : ℕ) → length (day_name n) ≤ 3
day_short n = short_at (codes "Mon" ∷ codes "Tue" ∷ codes "Wed" ∷ codes "Thu" ∷ codes "Fri" ∷ codes "Sat" ∷ codes "Sun" ∷ []) (n - 1) (le_refl 3, (le_refl 3, (le_refl 3, (le_refl 3, (le_refl 3, (le_refl 3, (le_refl 3, tt)))))))

month_short : (n : ℕ) → length (month_name n) ≤ 3
month_short n =
    short_at (codes "Jan" ∷ codes "Feb" ∷ codes "Mar" ∷ codes "Apr" ∷ codes "May" ∷ codes "Jun" ∷ codes "Jul" ∷ codes "Aug" ∷ codes "Sep" ∷ codes "Oct" ∷ codes "Nov" ∷ codes "Dec" ∷ []) (n - 1)
    (le_refl 3, (le_refl 3, (le_refl 3, (le_refl 3, (le_refl 3, (le_refl 3, (le_refl 3, (le_refl 3, (le_refl 3, (le_refl 3, (le_refl 3, (le_refl 3, tt))))))))))))

-- `Sun, 06 Nov 1994 08:49:37 GMT`
date_short : (p : Parts) → length (imf_fixdate p) ≤ 29
date_short p =
    let day : length (day_name p.wday) ≤ 3 = day_short p.wday in
    let month : length (month_name p.mon) ≤ 3 = month_short p.mon in
    let a = length-append (day_name p.wday) (codes ", ") in
    let b = length-append (day_name p.wday ++ codes ", ") (two_digits p.day) in
    let c = length-append (day_name p.wday ++ codes ", " ++ two_digits p.day) (codes " ") in
    let d = length-append (day_name p.wday ++ codes ", " ++ two_digits p.day ++ codes " ") (month_name p.mon) in
    let e = length-append (day_name p.wday ++ codes ", " ++ two_digits p.day ++ codes " " ++ month_name p.mon) (codes " ") in
    let f = length-append (day_name p.wday ++ codes ", " ++ two_digits p.day ++ codes " " ++ month_name p.mon ++ codes " ") (four_digits p.year) in
    let g = length-append (day_name p.wday ++ codes ", " ++ two_digits p.day ++ codes " " ++ month_name p.mon ++ codes " " ++ four_digits p.year) (codes " ") in
    let h = length-append (day_name p.wday ++ codes ", " ++ two_digits p.day ++ codes " " ++ month_name p.mon ++ codes " " ++ four_digits p.year ++ codes " ") (time_of_day p) in
    let i = length-append (day_name p.wday ++ codes ", " ++ two_digits p.day ++ codes " " ++ month_name p.mon ++ codes " " ++ four_digits p.year ++ codes " " ++ time_of_day p) (codes " GMT") in
    omega arith

one_line : (f : Field) → size (f ∷ []) ≡ length (line_of f)
one_line f = let both = line_first f [] in omega arith

date_line : (value : List ℕ) → length (line_of (codes "date", value)) ≡ 8 + length value
date_line value =
    let a = length-append (codes "date") (codes ": " ++ (value ++ crlf)) in
    let b = length-append (codes ": ") (value ++ crlf) in
    let c = length-append value crlf in
    omega arith

date_size : (found : Option (List ℕ)) (came : ℕ) → size (date_field found came) ≤ date_line_len found
date_size (Some value) came = let one = one_line (codes "date", value) in omega arith
date_size None came = by (nat_lt came 253402300800)
  where
    by : (t : Bool) → size (cond t ((codes "date", date_text_at came) ∷ []) []) ≤ 37
    by true = let one = one_line (codes "date", date_text_at came) in let line = date_line (date_text_at came) in let short = date_short (parts_at came) in omega arith
    by false = zero-le

-- ---- what is renewed

new_size : (name : List ℕ) (fields : List Field) → size (latest name [] fields) ≤ size (filter (is_named name) (renewed_fields fields))
new_size name fields = by (filter (is_named name) (renewed_fields fields))
  where
    by : (fs : List Field) → size (or_else fs []) ≤ size fs
    by [] = le_refl 0
    by (f ∷ fs) = le_refl (size (f ∷ fs))

apart : (f : Field) → is_named (codes "expires") f ≡ true → is_named (codes "cache-control") f ≡ false
apart f is = by_name (λ n. bytes_eq (lower (codes "cache-control")) n) (codes "expires") f is

renewal_size : (fields : List Field) (times : Times) → size (renewal_of [] fields times) ≤ date_line_len (date_value fields) + size (renewed_fields fields)
renewal_size fields times =
    let date = date_field (date_value fields) times.response in
    let expires = latest (codes "expires") [] fields in
    let control = latest (codes "cache-control") [] fields in
    let one = lines-append (date ++ expires) control in
    let two = lines-append date expires in
    let a : size date ≤ date_line_len (date_value fields) = date_size (date_value fields) times.response in
    let b : size expires ≤ size (filter (is_named (codes "expires")) (renewed_fields fields)) = new_size (codes "expires") fields in
    let c : size control ≤ size (filter (is_named (codes "cache-control")) (renewed_fields fields)) = new_size (codes "cache-control") fields in
    let d : size (filter (is_named (codes "expires")) (renewed_fields fields)) + size (filter (is_named (codes "cache-control")) (renewed_fields fields)) ≤ size (renewed_fields fields) =
    both_within (is_named (codes "expires")) (is_named (codes "cache-control")) apart (renewed_fields fields) in
    omega arith

room_is : (n m : ℕ) → nat_le n m ≡ true → n ≤ m
room_is n m is = grind (arith, nat_tests)

-- ---- what is kept

pub kept_lasts : (fields : List Field) (times : Times) → has_room_for fields ≡ true → size (lasting_of (kept_of fields times)) ≤ 16384
kept_lasts fields times room =
    subst (λ (fs : List Field). size fs ≤ 16384) (sym (lasting_kept fields times))
    (room_is (size (lasting_fields fields)) 16384 (second_holds (nat_le (date_line_len (date_value fields) + size (renewed_fields fields)) 2048) (nat_le (size (lasting_fields fields)) 16384) room))

pub kept_size : (fields : List Field) (times : Times) → has_room_for fields ≡ true → size (kept_of fields times) ≤ 18432
kept_size fields times room =
    let lasts : size (lasting_fields fields) ≤ 16384 = room_is (size (lasting_fields fields)) 16384 (second_holds (nat_le (date_line_len (date_value fields) + size (renewed_fields fields)) 2048) (nat_le (size (lasting_fields fields)) 16384) room) in
    let new : date_line_len (date_value fields) + size (renewed_fields fields) ≤ 2048 =
    room_is (date_line_len (date_value fields) + size (renewed_fields fields)) 2048 (first_holds (nat_le (date_line_len (date_value fields) + size (renewed_fields fields)) 2048) (nat_le (size (lasting_fields fields)) 16384) room) in
    let both = lines-append (lasting_fields fields) (renewal_of [] fields times) in
    let renewed = renewal_size fields times in
    omega arith

pub refreshed_lasts : (kept fields : List Field) (times : Times) → size (lasting_of kept) ≤ 16384 → size (lasting_of (refreshed_of kept fields times)) ≤ 16384
refreshed_lasts kept fields times le = subst (λ (fs : List Field). size fs ≤ 16384) (sym (lasting_refreshed kept fields times)) le

pub refreshed_size : (kept fields : List Field) (times : Times) → has_room kept fields times ≡ true → size (lasting_of kept) ≤ 16384 → size (refreshed_of kept fields times) ≤ 18432
refreshed_size kept fields times room le =
    let new : size (renewal_of kept fields times) ≤ 2048 = room_is (size (renewal_of kept fields times)) 2048 room in
    let both = lines-append (lasting_of kept) (renewal_of kept fields times) in
    omega arith
