-- Fields that an entry may have are those that are kept of them.
use Rattle.std.proofs.Common.{◌≡◌, refl, sym, subst, ap, ◌∙◌, arith, ℕ, Bool, true, false, not, ◌&&◌, ◌||◌, ◌==◌, cond, List, [], ◌∷◌, ◌++◌, length, map, take, filter, codes, Option, Some, None}
use Rattle.std.specs.Prelude.{⊤, bytes_eq, if◌then◌else◌, is_some, nat_le, nat_lt, option_and_then, option_map, slice_get}
use Rattle.std.specs.List.{list_all, list_any}
use Rattle.std.proofs.lemmas.Bool.Decides.{nat_tests}
use Rattle.std.proofs.lemmas.Slice.Eq.{bytes_eq-Decides}
use Rattle.httpdate.specs.Date.{parse_secs}
use Rattle.pp_cache_law.proofs.KeptTwice.{AllOf, AreOfRow, all_kept, joined, lasts}
use Rattle.pp_cache_law.specs.Kept.{AreKept}
use Rattle.pp_entry.proofs.AnyCase.{lowered-lowered}
use Rattle.pp_entry.specs.Entries.{Own, Row, is_spelled, kept_in, own_in, row_among, row_at, row_from, row_if_spelled, row_of, row_with}
use Rattle.pp_entry.specs.Fields.{are_allowed, are_in_order, is_dated, is_passing, lowered, may_be_kept, may_follow, place_of}
use Rattle.pp_fresh.specs.declared.aging.Times.{Times}
use Rattle.pp_head.specs.Read.{Read, Whole, TooLong, Bad, More}
use Rattle.pp_head.specs.Response.{Response, response_at}
use Rattle.pp_laws.proofs.Tests.{first_holds, second_holds}
use Rattle.pp_objects.specs.Dates.{date_text_at}
use Rattle.pp_objects.specs.Kept.{date_field}
use Rattle.pp_text.specs.Bytes.{lower}
use Rattle.pp_text.specs.Fields.{Field, is_named}
use Rattle.pp_text.specs.Forwarding.{hop_names, is_connection_token, is_private}
use Rattle.pp_text.specs.Lines.{lines_of}
use Rattle.pp_valid.specs.Kept.{date_value, is_of_one_message, is_renewed}
use Rattle.pp_valid.specs.TagStates.{tag_of}
use Rattle.pp_valid.specs.Versions.{strong_part}
use Rattle.pp_shelf_law.specs.AsKept.{AllowedOnesAreKept, ReadOnesAreKept}

-- ---- where a field stands

pub data PlaceOf (f : Field) : Type 0 where
  lasting : is_named (codes "date") f ≡ false → is_renewed f ≡ false → place_of f ≡ 0 → PlaceOf f
  date : is_named (codes "date") f ≡ true → place_of f ≡ 1 → PlaceOf f
  expires : is_named (codes "date") f ≡ false → is_named (codes "expires") f ≡ true → place_of f ≡ 2 → PlaceOf f
  control : is_named (codes "date") f ≡ false → is_named (codes "cache-control") f ≡ true → place_of f ≡ 3 → PlaceOf f

pub placed : (f : Field) → PlaceOf f
placed f = by (is_named (codes "date") f) refl (is_named (codes "expires") f) refl (is_named (codes "cache-control") f) refl
  where
    place : (d e c : Bool) → is_named (codes "date") f ≡ d → is_named (codes "expires") f ≡ e → is_named (codes "cache-control") f ≡ c → place_of f ≡ cond d 1 (cond e 2 (cond c 3 0))
    place d e c is_d is_e is_c =
        ap (λ (b : Bool). cond b 1 (cond (is_named (codes "expires") f) 2 (cond (is_named (codes "cache-control") f) 3 0))) is_d
        ∙ ap (λ (b : Bool). cond d 1 (cond b 2 (cond (is_named (codes "cache-control") f) 3 0))) is_e
        ∙ ap (λ (b : Bool). cond d 1 (cond e 2 (cond b 3 0))) is_c

    renewed : (e c : Bool) → is_named (codes "expires") f ≡ e → is_named (codes "cache-control") f ≡ c → is_renewed f ≡ (e || c)
    renewed e c is_e is_c = ap (λ (b : Bool). b || is_named (codes "cache-control") f) is_e ∙ ap (λ (b : Bool). e || b) is_c

    by : (d : Bool) → is_named (codes "date") f ≡ d → (e : Bool) → is_named (codes "expires") f ≡ e → (c : Bool) → is_named (codes "cache-control") f ≡ c → PlaceOf f
    by true is_d e is_e c is_c = date is_d (place true e c is_d is_e is_c)
    by false is_d true is_e c is_c = expires is_d is_e (place false true c is_d is_e is_c)
    by false is_d false is_e true is_c = control is_d is_c (place false false true is_d is_e is_c)
    by false is_d false is_e false is_c = lasting is_d (renewed false false is_e is_c) (place false false false is_d is_e is_c)

record Follows (before place : ℕ) (fs : List Field) : Type 0 where
  may : may_follow before place ≡ true
  rest : are_in_order place fs ≡ true

follows : (before place : ℕ) (f : Field) (fs : List Field) → are_in_order before (f ∷ fs) ≡ true → place_of f ≡ place → Follows before place fs
follows before place f fs order is =
    let both : (may_follow before place && are_in_order place fs) ≡ true = ap (λ (n : ℕ). may_follow before n && are_in_order n fs) (sym is) ∙ order in
    record { may = first_holds (may_follow before place) (are_in_order place fs) both; rest = second_holds (may_follow before place) (are_in_order place fs) both }

never : {A : Type 0} (before place : ℕ) (fs : List Field) → may_follow before place ≡ false → Follows before place fs → A
never before place fs is it = absurd (let both : false ≡ true = sym is ∙ it.may in cc)

-- ---- behind the date

controls : (fs : List Field) → are_in_order 3 fs ≡ true → AllOf (is_named (codes "cache-control")) fs
controls [] order = tt
controls (f ∷ fs) order = by (placed f) (controls fs)
  where
    by : PlaceOf f → (are_in_order 3 fs ≡ true → AllOf (is_named (codes "cache-control")) fs) → AllOf (is_named (codes "cache-control")) (f ∷ fs)
    by (lasting d r p) more = never 3 0 fs refl (follows 3 0 f fs order p)
    by (date d p) more = never 3 1 fs refl (follows 3 1 f fs order p)
    by (expires d e p) more = never 3 2 fs refl (follows 3 2 f fs order p)
    by (control d c p) more = (c, more (follows 3 3 f fs order p).rest)

record Tail (fs : List Field) : Type 0 where
  expiring : List Field
  controlling : List Field
  is : fs ≡ expiring ++ controlling
  expires_are : AllOf (is_named (codes "expires")) expiring
  controls_are : AllOf (is_named (codes "cache-control")) controlling

tail_with : (f : Field) (fs : List Field) → is_named (codes "expires") f ≡ true → Tail fs → Tail (f ∷ fs)
tail_with f fs named t = record {
  expiring = f ∷ t.expiring;
  controlling = t.controlling;
  is = ap (λ (gs : List Field). f ∷ gs) t.is;
  expires_are = (named, t.expires_are);
  controls_are = t.controls_are;
}

tail_of : (f : Field) (fs : List Field) → is_named (codes "cache-control") f ≡ true → are_in_order 3 fs ≡ true → Tail (f ∷ fs)
tail_of f fs named order = record { expiring = []; controlling = f ∷ fs; is = refl; expires_are = tt; controls_are = (named, controls fs order) }

-- no more may stand there that lasts, and no date
tail : (before : ℕ) → may_follow before 0 ≡ false → may_follow before 1 ≡ false → (fs : List Field) → are_in_order before fs ≡ true → Tail fs
tail before none no_date [] order = record { expiring = []; controlling = []; is = refl; expires_are = tt; controls_are = tt }
tail before none no_date (f ∷ fs) order = by (placed f) (tail 2 refl refl fs)
  where
    by : PlaceOf f → (are_in_order 2 fs ≡ true → Tail fs) → Tail (f ∷ fs)
    by (lasting d r p) more = never before 0 fs none (follows before 0 f fs order p)
    by (date d p) more = never before 1 fs no_date (follows before 1 f fs order p)
    by (expires d e p) more = tail_with f fs e (more (follows before 2 f fs order p).rest)
    by (control d c p) more = tail_of f fs c (follows before 3 f fs order p).rest

-- a field of another name is passed over
passes : (f : Field) (fs : List Field) → is_named (codes "date") f ≡ false → filter (is_named (codes "date")) (f ∷ fs) ≡ filter (is_named (codes "date")) fs
passes f fs is = ap (λ (b : Bool). cond b (f ∷ filter (is_named (codes "date")) fs) (filter (is_named (codes "date")) fs)) is

undated : (before : ℕ) → may_follow before 0 ≡ false → may_follow before 1 ≡ false → (fs : List Field) → are_in_order before fs ≡ true → filter (is_named (codes "date")) fs ≡ []
undated before none no_date [] order = refl
undated before none no_date (f ∷ fs) order = by (placed f) (undated 2 refl refl fs) (undated 3 refl refl fs)
  where
    by : PlaceOf f → (are_in_order 2 fs ≡ true → filter (is_named (codes "date")) fs ≡ []) → (are_in_order 3 fs ≡ true → filter (is_named (codes "date")) fs ≡ []) → filter (is_named (codes "date")) (f ∷ fs) ≡ []
    by (lasting d r p) two three = never before 0 fs none (follows before 0 f fs order p)
    by (date d p) two three = never before 1 fs no_date (follows before 1 f fs order p)
    by (expires d e p) two three = passes f fs d ∙ two (follows before 2 f fs order p).rest
    by (control d c p) two three = passes f fs d ∙ three (follows before 3 f fs order p).rest

-- ---- the date

abbrev pub dated_by : List Field → ℕ → Bool
dated_by fs came = elim (slice_get (map (λ (f : Field). f.1) fs) 0) as (λ o. Bool) [ Some value ↦ is_some (parse_secs value) | None ↦ nat_le 253402300800 came ]

dated_as : (fs gs : List Field) (came : ℕ) → filter (is_named (codes "date")) fs ≡ gs → is_dated fs came ≡ true → dated_by gs came ≡ true
dated_as fs gs came is dated = ap (λ (ds : List Field). dated_by ds came) (sym is) ∙ dated

-- none is assigned
none_assigned : (came : ℕ) → nat_le 253402300800 came ≡ true → date_field (date_value []) came ≡ []
none_assigned came late = ap (λ (b : Bool). cond b ((codes "date", date_text_at came) ∷ []) []) (not_before came late)
  where
    not_before : (n : ℕ) → nat_le 253402300800 n ≡ true → nat_lt n 253402300800 ≡ false
    not_before n le = grind (arith, nat_tests)

-- its value is read
value_read : (value : List ℕ) (fs : List Field) (came : ℕ) → is_dated ((codes "date", value) ∷ fs) came ≡ true → date_field (date_value ((codes "date", value) ∷ [])) came ≡ (codes "date", value) ∷ []
value_read value fs came dated = ap (λ (b : Bool). date_field (if b then Some value else None) came) dated

lower_date : (f : Field) → lowered f ≡ f → is_named (codes "date") f ≡ true → f ≡ (codes "date", f.1)
lower_date f low is =
    let name : codes "date" ≡ f.0 = (bytes_eq-Decides (lower (codes "date")) (lower f.0)).0 is ∙ ap (λ (g : Field). g.0) low in
    ap (λ (n : List ℕ). let g : Field = (n, f.1) in g) (sym name)

its_date : (f : Field) (fs : List Field) (came : ℕ) → f ≡ (codes "date", f.1) → is_dated (f ∷ fs) came ≡ true → date_field (date_value (f ∷ [])) came ≡ f ∷ []
its_date f fs came is dated =
    subst (λ (g : Field). date_field (date_value (g ∷ [])) came ≡ g ∷ []) (sym is)
    (value_read f.1 fs came (subst (λ (g : Field). is_dated (g ∷ fs) came ≡ true) is dated))

-- ---- all of them

does_last : (all : List Field) (f : Field) → may_be_kept all f ≡ true → is_named (codes "date") f ≡ false → is_renewed f ≡ false → lasts f ≡ true
does_last all f may d r = by (list_any (λ name. is_named name f) hop_names) (is_connection_token all f) (is_private f) (is_named (codes "date") f) (is_of_one_message f) (is_renewed f) d r may
  where
    by : (a t p n w x : Bool) → n ≡ false → x ≡ false → (not (a || t || p) && (n || not w)) ≡ true → (not (a || false || p) && not (w || x)) ≡ true
    by true t p n w x is_n is_x may = absurd cc
    by false true p n w x is_n is_x may = absurd cc
    by false false true n w x is_n is_x may = absurd cc
    by false false false true w x is_n is_x may = absurd cc
    by false false false false true x is_n is_x may = absurd cc
    by false false false false false true is_n is_x may = absurd cc
    by false false false false false false is_n is_x may = refl

record Parts (came : ℕ) (fs : List Field) : Type 0 where
  lasting_ones : List Field
  dates : List Field
  expiring : List Field
  controlling : List Field
  is : fs ≡ joined lasting_ones dates expiring controlling
  row : AreOfRow came lasting_ones dates expiring controlling

undated_parts : (came : ℕ) (fs : List Field) → nat_le 253402300800 came ≡ true → Tail fs → Parts came fs
undated_parts came fs late t = record {
  lasting_ones = [];
  dates = [];
  expiring = t.expiring;
  controlling = t.controlling;
  is = t.is;
  row = record { lasts = tt; dates_are = tt; expires_are = t.expires_are; controls_are = t.controls_are; dated = none_assigned came late };
}

dated_parts : (came : ℕ) (f : Field) (fs : List Field) → is_named (codes "date") f ≡ true → date_field (date_value (f ∷ [])) came ≡ f ∷ [] → Tail fs → Parts came (f ∷ fs)
dated_parts came f fs named dated t = record {
  lasting_ones = [];
  dates = f ∷ [];
  expiring = t.expiring;
  controlling = t.controlling;
  is = ap (λ (gs : List Field). f ∷ gs) t.is;
  row = record { lasts = tt; dates_are = (named, tt); expires_are = t.expires_are; controls_are = t.controls_are; dated = dated };
}

lasting_parts : (came : ℕ) (f : Field) (fs : List Field) → lasts f ≡ true → Parts came fs → Parts came (f ∷ fs)
lasting_parts came f fs last parts = record {
  lasting_ones = f ∷ parts.lasting_ones;
  dates = parts.dates;
  expiring = parts.expiring;
  controlling = parts.controlling;
  is = ap (λ (gs : List Field). f ∷ gs) parts.is;
  row = record { lasts = (last, parts.row.lasts); dates_are = parts.row.dates_are; expires_are = parts.row.expires_are; controls_are = parts.row.controls_are; dated = parts.row.dated };
}

-- each of them stays as it is with its name in lower case
abbrev AreLower : List Field → Type 0
AreLower [] = ⊤
AreLower (f ∷ fs) = (lowered f ≡ f) × AreLower fs

are_lower : (fs : List Field) → map lowered fs ≡ fs → AreLower fs
are_lower [] is = tt
are_lower (f ∷ fs) is = (cc is, are_lower fs (cc is))

parts_of : (all : List Field) (came : ℕ) (fs : List Field) → AreLower fs → list_all (may_be_kept all) fs ≡ true → are_in_order 0 fs ≡ true → is_dated fs came ≡ true → Parts came fs
parts_of all came [] low kept order dated = undated_parts came [] dated (record { expiring = []; controlling = []; is = refl; expires_are = tt; controls_are = tt })
parts_of all came (f ∷ fs) low kept order dated = by (placed f) (parts_of all came fs)
  where
    by : PlaceOf f → (AreLower fs → list_all (may_be_kept all) fs ≡ true → are_in_order 0 fs ≡ true → is_dated fs came ≡ true → Parts came fs) → Parts came (f ∷ fs)
    by (lasting d r p) more =
        lasting_parts came f fs (does_last all f (first_holds (may_be_kept all f) (list_all (may_be_kept all) fs) kept) d r)
        (more low.1 (second_holds (may_be_kept all f) (list_all (may_be_kept all) fs) kept) (follows 0 0 f fs order p).rest
        (dated_as (f ∷ fs) (filter (is_named (codes "date")) fs) came (passes f fs d) dated))
    by (date d p) more = dated_parts came f fs d (its_date f fs came (lower_date f low.0 d) dated) (tail 1 refl refl fs (follows 0 1 f fs order p).rest)
    by (expires d e p) more =
        let rest = (follows 0 2 f fs order p).rest in
        undated_parts came (f ∷ fs) (dated_as (f ∷ fs) [] came (passes f fs d ∙ undated 2 refl refl fs rest) dated) (tail_with f fs e (tail 2 refl refl fs rest))
    by (control d c p) more =
        let rest = (follows 0 3 f fs order p).rest in
        undated_parts came (f ∷ fs) (dated_as (f ∷ fs) [] came (passes f fs d ∙ undated 3 refl refl fs rest) dated) (tail_of f fs c rest)

pub allowed_kept : AllowedOnesAreKept
allowed_kept fields times low allowed =
    let fits = first_holds (list_all (may_be_kept fields) fields && nat_le (length (lines_of (filter is_passing fields))) 2048) (are_in_order 0 fields && is_dated fields times.response) allowed in
    let stands = second_holds (list_all (may_be_kept fields) fields && nat_le (length (lines_of (filter is_passing fields))) 2048) (are_in_order 0 fields && is_dated fields times.response) allowed in
    let parts = parts_of fields times.response fields (are_lower fields low) (first_holds (list_all (may_be_kept fields) fields) _ fits) (first_holds (are_in_order 0 fields) (is_dated fields times.response) stands)
    (second_holds (are_in_order 0 fields) (is_dated fields times.response) stands) in
    subst (λ (fs : List Field). AreKept fs times) (sym parts.is) (all_kept times parts.lasting_ones parts.dates parts.expiring parts.controlling parts.row)

-- ---- of a row that is read

row_kept : (own : Own) (kept : List Field) (row : Row) → map lowered kept ≡ kept → row_of own kept ≡ Some row → AreKept row.fields row.times
row_kept own kept row low found = by (are_allowed kept own.times.response) refl (strong_part (tag_of kept)) found
  where
    by : (a : Bool) → are_allowed kept own.times.response ≡ a → (t : Option (List ℕ)) → (if a then option_map (row_with own kept) t else None) ≡ Some row → AreKept row.fields row.times
    by true allowed (Some tag) found = let e : row_with own kept tag ≡ row = cc found in subst (λ (r : Row). AreKept r.fields r.times) e (allowed_kept kept own.times low allowed)
    by true allowed None found = absurd (cc found)
    by false allowed t found = absurd (cc found)

among_kept : (block : List ℕ) (fields : List Field) (row : Row) → row_among block fields ≡ Some row → AreKept row.fields row.times
among_kept block fields row found = by (own_in fields) found
  where
    spelled : (own : Own) (b : Bool) → (if b then row_of own (kept_in own fields) else None) ≡ Some row → AreKept row.fields row.times
    spelled own true found = row_kept own (kept_in own fields) row (lowered-lowered (take own.count fields)) found
    spelled own false found = absurd (cc found)

    by : (o : Option Own) → option_and_then (λ own. row_if_spelled block own (kept_in own fields)) o ≡ Some row → AreKept row.fields row.times
    by None found = absurd (cc found)
    by (Some own) found = spelled own (is_spelled block own (kept_in own fields)) found

from_kept : (block : List ℕ) (state : Read Response) (row : Row) → row_from block state ≡ Some row → AreKept row.fields row.times
from_kept block (Whole head) row found = among_kept block head.fields row found
from_kept block TooLong row found = absurd (cc found)
from_kept block Bad row found = absurd (cc found)
from_kept block More row found = absurd (cc found)

pub read_kept : ReadOnesAreKept
unfolding row_at
read_kept block row found = from_kept block (response_at block) row found
