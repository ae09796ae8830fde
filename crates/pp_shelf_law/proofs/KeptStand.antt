-- Fields that are kept of a response stand as an entry has them.
use Rattle.std.proofs.Common.{◌≡◌, ◌<◌, refl, sym, subst, ap, ◌∙◌, arith, ℕ, Bool, true, false, not, ◌&&◌, ◌||◌, cond, List, [], ◌∷◌, ◌++◌, length, filter, codes, Option, Some, None}
use Rattle.std.specs.Prelude.{bytes_eq, is_some, nat_le, nat_lt, slice_get}
use Rattle.std.specs.List.{list_all}
use Rattle.std.proofs.lemmas.Bool.Decides.{nat_tests}
use Rattle.std.proofs.lemmas.Slice.Eq.{bytes_eq-Decides}
use Rattle.httpdate.specs.Date.{parse_secs}
use Rattle.pp_cache_law.proofs.KeptTwice.{AllOf, AreOfRow, Test, all_last, all_too, by_name, date_was, dates_are_all, is_anew, is_hop, joined, lasts, lasts_by, of_row, same_hop}
use Rattle.pp_cache_law.specs.Kept.{AreKept}
use Rattle.pp_entry.specs.Fields.{are_allowed, are_in_order, is_dated, is_passing, may_be_kept, may_follow, place_of}
use Rattle.pp_fresh.specs.declared.aging.Times.{Times}
use Rattle.pp_objects.specs.Dates.{date_text_at}
use Rattle.pp_objects.specs.Kept.{date_field, kept_of, latest}
use Rattle.pp_obeys.proofs.Silent.{both_hold}
use Rattle.pp_text.specs.Bytes.{lower}
use Rattle.pp_text.specs.Fields.{Field, is_named}
use Rattle.pp_text.specs.Forwarding.{is_hop_by_hop}
use Rattle.pp_text.specs.Lines.{lines_of}
use Rattle.pp_valid.specs.EndToEnd.{end_to_end_values}
use Rattle.pp_valid.specs.Kept.{date_value, is_of_one_message, is_renewed, lasting_fields}
use Rattle.pp_shelf_law.specs.AsKept.{KeptOnesAreAllowed}
use Rattle.pp_shelf_law.proofs.Assigned.{assigned_read}
use Rattle.pp_shelf_law.proofs.KeptFields.{PlaceOf, control, date, dated_by, expires, lasting, placed}

-- ---- their order

abbrev place_at : List ℕ → ℕ
place_at t = cond (bytes_eq (lower (codes "date")) t) 1 (cond (bytes_eq (lower (codes "expires")) t) 2 (cond (bytes_eq (lower (codes "cache-control")) t) 3 0))

place_by : (name : List ℕ) (f : Field) → is_named name f ≡ true → place_of f ≡ place_at (lower name)
place_by name f is = ap place_at (sym ((bytes_eq-Decides (lower name) (lower f.0)).0 is))

place_lasting : (f : Field) → lasts f ≡ true → place_of f ≡ 0
place_lasting f last = by (placed f)
  where
    by : PlaceOf f → place_of f ≡ 0
    by (lasting d r p) = p
    by (date d p) = absurd (let both : true ≡ false = sym last ∙ lasts_by (codes "date") f d in cc)
    by (expires d e p) = absurd (let both : true ≡ false = sym last ∙ lasts_by (codes "expires") f e in cc)
    by (control d c p) = absurd (let both : true ≡ false = sym last ∙ lasts_by (codes "cache-control") f c in cc)

stands : (before place : ℕ) (f : Field) (fs : List Field) → place_of f ≡ place → may_follow before place ≡ true → are_in_order place fs ≡ true → are_in_order before (f ∷ fs) ≡ true
stands before place f fs is may rest = ap (λ (n : ℕ). may_follow before n && are_in_order n fs) is ∙ both_hold (may_follow before place) (are_in_order place fs) may rest

controls_stand : (before : ℕ) → may_follow before 3 ≡ true → (c : List Field) → AllOf (is_named (codes "cache-control")) c → are_in_order before c ≡ true
controls_stand before may [] all = refl
controls_stand before may (f ∷ c) all = stands before 3 f c (place_by (codes "cache-control") f all.0) may (controls_stand 3 refl c all.1)

expires_stand : (before : ℕ) → may_follow before 2 ≡ true → may_follow before 3 ≡ true → (e c : List Field) → AllOf (is_named (codes "expires")) e → AllOf (is_named (codes "cache-control")) c → are_in_order before (e ++ c) ≡ true
expires_stand before may too [] c all_e all_c = controls_stand before too c all_c
expires_stand before may too (f ∷ e) c all_e all_c = stands before 2 f (e ++ c) (place_by (codes "expires") f all_e.0) may (expires_stand 2 refl refl e c all_e.1 all_c)

dates_stand : (o : Option (List ℕ)) (came : ℕ) (e c : List Field) → AllOf (is_named (codes "expires")) e → AllOf (is_named (codes "cache-control")) c → are_in_order 0 ((date_field o came ++ e) ++ c) ≡ true
dates_stand (Some v) came e c all_e all_c = stands 0 1 (codes "date", v) (e ++ c) refl refl (expires_stand 1 refl refl e c all_e all_c)
dates_stand None came e c all_e all_c = by (nat_lt came 253402300800)
  where
    by : (b : Bool) → are_in_order 0 ((cond b ((codes "date", date_text_at came) ∷ []) [] ++ e) ++ c) ≡ true
    by true = stands 0 1 (codes "date", date_text_at came) (e ++ c) refl refl (expires_stand 1 refl refl e c all_e all_c)
    by false = expires_stand 0 refl refl e c all_e all_c

lasting_stand : (l rest : List Field) → AllOf lasts l → are_in_order 0 rest ≡ true → are_in_order 0 (l ++ rest) ≡ true
lasting_stand [] rest all order = order
lasting_stand (f ∷ l) rest all order = stands 0 0 f (l ++ rest) (place_lasting f all.0) refl (lasting_stand l rest all.1 order)

-- ---- their date

dates_read : (o : Option (List ℕ)) (came : ℕ) → ((v : List ℕ) → o ≡ Some v → is_some (parse_secs v) ≡ true) → dated_by (date_field o came) came ≡ true
dates_read (Some v) came read = read v refl
dates_read None came read = by (nat_lt came 253402300800) refl
  where
    early : (n : ℕ) → nat_lt n 253402300800 ≡ true → n < 253402300800
    early n is = grind (arith, nat_tests)

    late : (n : ℕ) → nat_lt n 253402300800 ≡ false → nat_le 253402300800 n ≡ true
    late n is = grind (arith, nat_tests)

    by : (b : Bool) → nat_lt came 253402300800 ≡ b → dated_by (cond b ((codes "date", date_text_at came) ∷ []) []) came ≡ true
    by true is = assigned_read came (early came is)
    by false is = late came is

-- ---- each of them may be kept

all_both : (p : Field → Bool) (xs ys : List Field) → AllOf p xs → AllOf p ys → AllOf p (xs ++ ys)
all_both p [] ys all more = more
all_both p (x ∷ xs) ys all more = (all.0, all_both p xs ys all.1 more)

abbrev alone : Field → Bool
alone f = may_be_kept [] f

abbrev alone_at : Test
alone_at t = not (is_hop t) && (bytes_eq (lower (codes "date")) t || not (is_anew t))

lasting_may : (f : Field) → lasts f ≡ true → alone f ≡ true
lasting_may f last = by (is_hop_by_hop [] f) (is_named (codes "date") f) (is_of_one_message f) (is_renewed f) last
  where
    by : (h n w x : Bool) → (not h && not (w || x)) ≡ true → (not h && (n || not w)) ≡ true
    by true n w x is = absurd cc
    by false n true x is = absurd cc
    by false true false x is = refl
    by false false false x is = refl

date_may : (f : Field) → is_named (codes "date") f ≡ true → alone f ≡ true
date_may f is = by_name alone_at (codes "date") f is

expires_may : (f : Field) → is_named (codes "expires") f ≡ true → alone f ≡ true
expires_may f is = by_name alone_at (codes "expires") f is

control_may : (f : Field) → is_named (codes "cache-control") f ≡ true → alone f ≡ true
control_may f is = by_name alone_at (codes "cache-control") f is

all_may : (all : List Field) → ((f : Field) → is_hop_by_hop all f ≡ is_hop_by_hop [] f) → (fs : List Field) → AllOf alone fs → list_all (may_be_kept all) fs ≡ true
all_may all same [] held = refl
all_may all same (f ∷ fs) held =
    both_hold (may_be_kept all f) (list_all (may_be_kept all) fs) (ap (λ (b : Bool). not b && (is_named (codes "date") f || not (is_of_one_message f))) (same f) ∙ held.0) (all_may all same fs held.1)

-- ---- all of it

room_alone : (room : Bool) → ((true && room) && (true && true)) ≡ room
room_alone true = refl
room_alone false = refl

just_room : (each room order dated : Bool) → each ≡ true → order ≡ true → dated ≡ true → ((each && room) && (order && dated)) ≡ room
just_room each room order dated is_each is_order is_dated =
    ap (λ (b : Bool). (b && room) && (order && dated)) is_each ∙ ap (λ (b : Bool). (true && room) && (b && dated)) is_order ∙ ap (λ (b : Bool). (true && room) && (true && b)) is_dated ∙ room_alone room

module _ (fields : List Field) (times : Times) where
  abbrev came : ℕ
  came = times.response

  abbrev l : List Field
  l = lasting_fields fields

  abbrev d : List Field
  d = date_field (date_value fields) came

  abbrev e : List Field
  e = latest (codes "expires") [] fields

  abbrev c : List Field
  c = latest (codes "cache-control") [] fields

  abbrev all : List Field
  all = joined l d e c

  row : AreOfRow came l d e c
  row = of_row l [] fields times (all_last fields)

  each : list_all (may_be_kept all) all ≡ true
  each =
      all_may all (same_hop times l d e c row) all
      (all_both alone l ((d ++ e) ++ c) (all_too lasts alone l lasting_may row.lasts)
      (all_both alone (d ++ e) c (all_both alone d e (all_too (is_named (codes "date")) alone d date_may row.dates_are) (all_too (is_named (codes "expires")) alone e expires_may row.expires_are))
      (all_too (is_named (codes "cache-control")) alone c control_may row.controls_are)))

  order : are_in_order 0 all ≡ true
  order = lasting_stand l ((d ++ e) ++ c) row.lasts (dates_stand (date_value fields) came e c row.expires_are row.controls_are)

  dated : is_dated all came ≡ true
  dated = ap (λ (ds : List Field). dated_by ds came) (dates_are_all times l d e c row) ∙ dates_read (date_value fields) came (date_was (slice_get (end_to_end_values (codes "date") fields) 0))

  allowed_so : are_allowed (kept_of fields times) came ≡ nat_le (length (lines_of (filter is_passing (kept_of fields times)))) 2048
  allowed_so = just_room (list_all (may_be_kept all) all) (nat_le (length (lines_of (filter is_passing all))) 2048) (are_in_order 0 all) (is_dated all came) each order dated

pub kept_allowed : KeptOnesAreAllowed
kept_allowed fields times are = subst (λ (fs : List Field). are_allowed fs times.response ≡ nat_le (length (lines_of (filter is_passing fs))) 2048) are (allowed_so fields times)
