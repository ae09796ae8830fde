-- What is kept of the fields of a row is all of them.
use Rattle.std.proofs.Common.{◌≡◌, refl, sym, subst, ap, ◌∙◌, ℕ, Bool, true, false, not, ◌&&◌, ◌||◌, cond, List, [], ◌∷◌, ◌++◌, map, filter, flat_map, codes, Option, Some, None, arith}
use Rattle.std.specs.Prelude.{⊤, bytes_eq, drop, nat_eq, is_some, nat_lt, option_and_then, slice_get, if◌then◌else◌}
use Rattle.std.specs.List.{list_any, starts_with}
use Rattle.std.proofs.lemmas.Grind.{common_steps}
use Rattle.std.proofs.lemmas.List.{append-nil}
use Rattle.std.proofs.lemmas.List.Elements.{filter-append}
use Rattle.std.proofs.lemmas.Slice.Eq.{bytes_eq-Decides}
use Rattle.httpdate.specs.Date.{parse_secs}
use Rattle.pp_fresh.specs.declared.aging.Times.{Times}
use Rattle.pp_objects.specs.Dates.{date_text_at}
use Rattle.pp_objects.specs.Kept.{date_field, kept_of, lasting_of, latest, or_else, renewal_of}
use Rattle.pp_objects.proofs.Refreshing.{lasting_kept}
use Rattle.pp_text.specs.Bytes.{is_same, lower}
use Rattle.pp_text.specs.Fields.{Field, is_named, list_items}
use Rattle.pp_text.specs.Forwarding.{hop_names, is_connection_token, is_hop_by_hop, is_private}
use Rattle.pp_text.specs.Lists.{items_of}
use Rattle.pp_valid.specs.EndToEnd.{end_to_end_values}
use Rattle.pp_valid.specs.Kept.{date_value, is_lasting_of, is_of_one_message, is_renewed, is_renewed_of, lasting_fields, renewed_fields}
use Rattle.pp_cache_law.specs.Kept.{KeptAreKept, RefreshedAreKept}
use Rattle.pp_cache_law.proofs.Numbers.{some_is}

-- ---- lists of which a test holds

abbrev pub AllOf : (Field → Bool) → List Field → Type 0
AllOf p [] = ⊤
AllOf p (f ∷ fs) = (p f ≡ true) × AllOf p fs

all_chosen : (p : Field → Bool) (fs : List Field) → AllOf p (filter p fs)
all_chosen p [] = tt
all_chosen p (f ∷ fs) = by (p f) refl (all_chosen p fs)
  where
    by : (b : Bool) → p f ≡ b → AllOf p (filter p fs) → AllOf p (cond b (f ∷ filter p fs) (filter p fs))
    by true is all = (is, all)
    by false isnt all = all

pub all_too : (p q : Field → Bool) (fs : List Field) → ((f : Field) → p f ≡ true → q f ≡ true) → AllOf p fs → AllOf q fs
all_too p q [] to all = tt
all_too p q (f ∷ fs) to all = (to f all.0, all_too p q fs to all.1)

all_else : (p : Field → Bool) (xs ys : List Field) → AllOf p xs → AllOf p ys → AllOf p (or_else xs ys)
all_else p [] ys all more = more
all_else p (x ∷ xs) ys all more = all

all_stay : (p q : Field → Bool) (fs : List Field) → ((f : Field) → p f ≡ true → q f ≡ true) → AllOf p fs → filter q fs ≡ fs
all_stay p q [] to all = refl
all_stay p q (f ∷ fs) to all = ap (λ (b : Bool). cond b (f ∷ filter q fs) (filter q fs)) (to f all.0) ∙ ap (λ (gs : List Field). f ∷ gs) (all_stay p q fs to all.1)

all_go : (p q : Field → Bool) (fs : List Field) → ((f : Field) → p f ≡ true → q f ≡ false) → AllOf p fs → filter q fs ≡ []
all_go p q [] to all = refl
all_go p q (f ∷ fs) to all = ap (λ (b : Bool). cond b (f ∷ filter q fs) (filter q fs)) (to f all.0) ∙ all_go p q fs to all.1

-- ---- a name tells what a field is

abbrev pub Test : Type 0
Test = List ℕ → Bool

pub by_name : (test : Test) (name : List ℕ) (f : Field) → is_named name f ≡ true → test (lower f.0) ≡ test (lower name)
by_name test name f is = ap test (sym ((bytes_eq-Decides (lower name) (lower f.0)).0 is))

abbrev pub is_hop : Test
is_hop t = list_any (λ name. bytes_eq (lower name) t) hop_names || false || starts_with nat_eq t (codes "x-polipo-")

abbrev renews : Test
renews t = bytes_eq (lower (codes "expires")) t || bytes_eq (lower (codes "cache-control")) t

abbrev pub is_anew : Test
is_anew t =
    bytes_eq (lower (codes "content-length")) t || bytes_eq (lower (codes "content-range")) t || bytes_eq (lower (codes "age")) t
    || bytes_eq (lower (codes "date")) t || (bytes_eq (lower (codes "content-md5")) t || bytes_eq (lower (codes "content-digest")) t)

-- of a field alone
abbrev pub lasts : Field → Bool
lasts f = is_lasting_of [] f

abbrev is_new : Field → Bool
is_new f = is_renewed_of [] f

pub lasts_by : (name : List ℕ) (f : Field) → is_named name f ≡ true → lasts f ≡ (not (is_hop (lower name)) && not (is_anew (lower name) || renews (lower name)))
lasts_by name f is = by_name (λ t. not (is_hop t) && not (is_anew t || renews t)) name f is

is_new_by : (name : List ℕ) (f : Field) → is_named name f ≡ true → is_new f ≡ (not (is_hop (lower name)) && renews (lower name))
is_new_by name f is = by_name (λ t. not (is_hop t) && renews t) name f is

named_by : (name other : List ℕ) (f : Field) → is_named name f ≡ true → is_named other f ≡ bytes_eq (lower other) (lower name)
named_by name other f is = by_name (λ t. bytes_eq (lower other) t) name f is

-- ---- a field that lasts

not_connection : (f : Field) → lasts f ≡ true → is_named (codes "connection") f ≡ false
not_connection f is = by (is_named (codes "connection") f) (list_any (λ name. is_named name f) (drop 1 hop_names)) is
  where
    by : (a rest : Bool) → (not ((a || rest) || false || is_private f) && not (is_of_one_message f || is_renewed f)) ≡ true → a ≡ false
    by true rest e = absurd cc
    by false rest e = refl

not_date : (f : Field) → lasts f ≡ true → is_named (codes "date") f ≡ false
not_date f is = grind (arith, common_steps, is)

not_new : (f : Field) → lasts f ≡ true → is_new f ≡ false
not_new f is = by (is_hop_by_hop [] f) (is_of_one_message f) (is_renewed f) is
  where
    by : (h a r : Bool) → (not h && not (a || r)) ≡ true → (not h && r) ≡ false
    by true a r e = refl
    by false true r e = absurd cc
    by false false true e = absurd cc
    by false false false e = refl

lasts_alone : (fields : List Field) (f : Field) → is_lasting_of fields f ≡ true → lasts f ≡ true
lasts_alone fields f is = by (list_any (λ name. is_named name f) hop_names) (is_connection_token fields f) (is_private f) (not (is_of_one_message f || is_renewed f)) is
  where
    by : (a t p r : Bool) → (not (a || t || p) && r) ≡ true → (not (a || false || p) && r) ≡ true
    by true t p r e = absurd cc
    by false true p r e = absurd cc
    by false false p r e = e

-- ---- the date that is assigned is read back

abbrev read_date : List ℕ → Option (List ℕ)
read_date value = if is_some (parse_secs value) then Some value else None

abbrev date_by : List (List ℕ) → List Field → Option (List ℕ)
date_by items fields = option_and_then read_date (slice_get (if list_any (is_same (codes "date")) items then [] else map (λ f. f.1) fields) 0)

pub date_was : (o : Option (List ℕ)) (v : List ℕ) → option_and_then read_date o ≡ Some v → is_some (parse_secs v) ≡ true
date_was None v is = absurd cc
date_was (Some w) v is = by (is_some (parse_secs w)) refl is
  where
    by : (b : Bool) → is_some (parse_secs w) ≡ b → (if b then Some w else None) ≡ Some v → is_some (parse_secs v) ≡ true
    by true e f = ap (λ (x : List ℕ). is_some (parse_secs x)) (sym (some_is w v f)) ∙ e
    by false e f = absurd cc

date_again : (o : Option (List ℕ)) (came : ℕ) → ((v : List ℕ) → o ≡ Some v → is_some (parse_secs v) ≡ true) → date_field (date_value (date_field o came)) came ≡ date_field o came
date_again (Some v) came read = ap (λ (b : Bool). date_field (if b then Some v else None) came) (read v refl)
date_again None came read = by (nat_lt came 253402300800) refl
  where
    read_back : (b : Bool) → nat_lt came 253402300800 ≡ true → date_field (if b then Some (date_text_at came) else None) came ≡ (codes "date", date_text_at came) ∷ []
    read_back true less = refl
    read_back false less = ap (λ (b : Bool). cond b ((codes "date", date_text_at came) ∷ []) []) less

    by : (b : Bool) → nat_lt came 253402300800 ≡ b → date_field (date_value (cond b ((codes "date", date_text_at came) ∷ []) [])) came ≡ cond b ((codes "date", date_text_at came) ∷ []) []
    by true less = read_back (is_some (parse_secs (date_text_at came))) less
    by false more = ap (λ (b : Bool). cond b ((codes "date", date_text_at came) ∷ []) []) more

all_dates : (o : Option (List ℕ)) (came : ℕ) → AllOf (is_named (codes "date")) (date_field o came)
all_dates (Some v) came = (refl, tt)
all_dates None came = by (nat_lt came 253402300800)
  where
    by : (b : Bool) → AllOf (is_named (codes "date")) (cond b ((codes "date", date_text_at came) ∷ []) [])
    by true = (refl, tt)
    by false = tt

-- ---- a row's fields: what lasts, and what is renewed

abbrev pub joined : List Field → List Field → List Field → List Field → List Field
joined lasting dates expires controls = lasting ++ ((dates ++ expires) ++ controls)

pub record AreOfRow (came : ℕ) (lasting dates expires controls : List Field) : Type 0 where
  pub lasts : AllOf (λ f. is_lasting_of [] f) lasting
  pub dates_are : AllOf (is_named (codes "date")) dates
  pub expires_are : AllOf (is_named (codes "expires")) expires
  pub controls_are : AllOf (is_named (codes "cache-control")) controls
  pub dated : date_field (date_value dates) came ≡ dates

chosen : (q : Field → Bool) (l d e c l' d' e' c' : List Field) → filter q l ≡ l' → filter q d ≡ d' → filter q e ≡ e' → filter q c ≡ c' → filter q (joined l d e c) ≡ joined l' d' e' c'
chosen q l d e c l' d' e' c' is_l is_d is_e is_c =
    filter-append q l ((d ++ e) ++ c) ∙ ap (λ (xs : List Field). filter q l ++ xs) (filter-append q (d ++ e) c) ∙ ap (λ (xs : List Field). filter q l ++ (xs ++ filter q c)) (filter-append q d e)
    ∙ ap (λ (xs : List Field). xs ++ ((filter q d ++ filter q e) ++ filter q c)) is_l ∙ ap (λ (xs : List Field). l' ++ ((xs ++ filter q e) ++ filter q c)) is_d
    ∙ ap (λ (xs : List Field). l' ++ ((d' ++ xs) ++ filter q c)) is_e ∙ ap (λ (xs : List Field). l' ++ ((d' ++ e') ++ xs)) is_c

filter_same : (p q : Field → Bool) (fs : List Field) → ((f : Field) → p f ≡ q f) → filter p fs ≡ filter q fs
filter_same p q [] same = refl
filter_same p q (f ∷ fs) same = ap (λ (b : Bool). cond b (f ∷ filter p fs) (filter p fs)) (same f) ∙ ap (λ (gs : List Field). cond (q f) (f ∷ gs) gs) (filter_same p q fs same)

or_none : (fs : List Field) → or_else fs [] ≡ fs
or_none [] = refl
or_none (f ∷ fs) = refl

module _ (times : Times) (l d e c : List Field) (row : AreOfRow times.response l d e c) where
  abbrev all : List Field
  all = joined l d e c

  -- none is named connection
  no_items : list_items (codes "connection") all ≡ []
  no_items =
      ap (λ (fs : List Field). flat_map items_of (map (λ (f : Field). f.1) fs))
      (chosen (is_named (codes "connection")) l d e c [] [] [] [] (all_go lasts (is_named (codes "connection")) l not_connection row.lasts)
      (all_go (is_named (codes "date")) (is_named (codes "connection")) d (λ f is. named_by (codes "date") (codes "connection") f is) row.dates_are)
      (all_go (is_named (codes "expires")) (is_named (codes "connection")) e (λ f is. named_by (codes "expires") (codes "connection") f is) row.expires_are)
      (all_go (is_named (codes "cache-control")) (is_named (codes "connection")) c (λ f is. named_by (codes "cache-control") (codes "connection") f is) row.controls_are))

  pub same_hop : (f : Field) → is_hop_by_hop all f ≡ is_hop_by_hop [] f
  same_hop f = ap (λ (items : List (List ℕ)). list_any (λ name. is_named name f) hop_names || list_any (is_same f.0) items || is_private f) no_items

  lasting_is : lasting_fields all ≡ l
  lasting_is =
      filter_same (is_lasting_of all) lasts all (λ f. ap (λ (b : Bool). not b && not (is_of_one_message f || is_renewed f)) (same_hop f))
      ∙ chosen lasts l d e c l [] [] [] (all_stay lasts lasts l (λ f is. is) row.lasts) (all_go (is_named (codes "date")) lasts d (λ f is. lasts_by (codes "date") f is) row.dates_are)
      (all_go (is_named (codes "expires")) lasts e (λ f is. lasts_by (codes "expires") f is) row.expires_are)
      (all_go (is_named (codes "cache-control")) lasts c (λ f is. lasts_by (codes "cache-control") f is) row.controls_are)
      ∙ append-nil l

  renewed_are : renewed_fields all ≡ e ++ c
  renewed_are =
      filter_same (is_renewed_of all) is_new all (λ f. ap (λ (b : Bool). not b && is_renewed f) (same_hop f))
      ∙ chosen is_new l d e c [] [] e c (all_go lasts is_new l not_new row.lasts) (all_go (is_named (codes "date")) is_new d (λ f is. is_new_by (codes "date") f is) row.dates_are)
      (all_stay (is_named (codes "expires")) is_new e (λ f is. is_new_by (codes "expires") f is) row.expires_are)
      (all_stay (is_named (codes "cache-control")) is_new c (λ f is. is_new_by (codes "cache-control") f is) row.controls_are)

  expires_is : latest (codes "expires") [] all ≡ e
  expires_is =
      ap (λ (fs : List Field). or_else (filter (is_named (codes "expires")) fs) []) renewed_are
      ∙ ap (λ (fs : List Field). or_else fs []) (filter-append (is_named (codes "expires")) e c)
      ∙ ap (λ (fs : List Field). or_else (fs ++ filter (is_named (codes "expires")) c) []) (all_stay (is_named (codes "expires")) (is_named (codes "expires")) e (λ f is. is) row.expires_are)
      ∙ ap (λ (fs : List Field). or_else (e ++ fs) []) (all_go (is_named (codes "cache-control")) (is_named (codes "expires")) c (λ f is. named_by (codes "cache-control") (codes "expires") f is) row.controls_are)
      ∙ or_none (e ++ []) ∙ append-nil e

  controls_is : latest (codes "cache-control") [] all ≡ c
  controls_is =
      ap (λ (fs : List Field). or_else (filter (is_named (codes "cache-control")) fs) []) renewed_are
      ∙ ap (λ (fs : List Field). or_else fs []) (filter-append (is_named (codes "cache-control")) e c)
      ∙ ap (λ (fs : List Field). or_else (fs ++ filter (is_named (codes "cache-control")) c) [])
      (all_go (is_named (codes "expires")) (is_named (codes "cache-control")) e (λ f is. named_by (codes "expires") (codes "cache-control") f is) row.expires_are)
      ∙ ap (λ (fs : List Field). or_else fs []) (all_stay (is_named (codes "cache-control")) (is_named (codes "cache-control")) c (λ f is. is) row.controls_are) ∙ or_none c

  no_items_in_dates : list_items (codes "connection") d ≡ []
  no_items_in_dates =
      ap (λ (fs : List Field). flat_map items_of (map (λ (f : Field). f.1) fs))
      (all_go (is_named (codes "date")) (is_named (codes "connection")) d (λ f is. named_by (codes "date") (codes "connection") f is) row.dates_are)

  dates_stay : filter (is_named (codes "date")) d ≡ d
  dates_stay = all_stay (is_named (codes "date")) (is_named (codes "date")) d (λ f is. is) row.dates_are

  pub dates_are_all : filter (is_named (codes "date")) all ≡ d
  dates_are_all =
      chosen (is_named (codes "date")) l d e c [] d [] [] (all_go lasts (is_named (codes "date")) l not_date row.lasts) dates_stay
      (all_go (is_named (codes "expires")) (is_named (codes "date")) e (λ f is. named_by (codes "expires") (codes "date") f is) row.expires_are)
      (all_go (is_named (codes "cache-control")) (is_named (codes "date")) c (λ f is. named_by (codes "cache-control") (codes "date") f is) row.controls_are)
      ∙ append-nil (d ++ []) ∙ append-nil d

  date_is : date_value all ≡ date_value d
  date_is =
      ap (λ (items : List (List ℕ)). date_by items (filter (is_named (codes "date")) all)) no_items ∙ ap (λ (fs : List Field). date_by [] fs) (dates_are_all ∙ sym dates_stay)
      ∙ sym (ap (λ (items : List (List ℕ)). date_by items (filter (is_named (codes "date")) d)) no_items_in_dates)

  pub all_kept : kept_of all times ≡ all
  all_kept =
      ap (λ (xs : List Field). xs ++ renewal_of [] all times) lasting_is
      ∙ ap (λ (o : Option (List ℕ)). l ++ ((date_field o times.response ++ latest (codes "expires") [] all) ++ latest (codes "cache-control") [] all)) date_is
      ∙ ap (λ (xs : List Field). l ++ ((xs ++ latest (codes "expires") [] all) ++ latest (codes "cache-control") [] all)) row.dated
      ∙ ap (λ (xs : List Field). l ++ ((d ++ xs) ++ latest (codes "cache-control") [] all)) expires_is
      ∙ ap (λ (xs : List Field). l ++ ((d ++ e) ++ xs)) controls_is

-- ---- the fields of a row

all_latest : (name : List ℕ) (kept fields : List Field) → AllOf (is_named name) (latest name kept fields)
all_latest name kept fields = all_else (is_named name) (filter (is_named name) (renewed_fields fields)) (filter (is_named name) kept) (all_chosen (is_named name) (renewed_fields fields)) (all_chosen (is_named name) kept)

pub all_last : (fields : List Field) → AllOf lasts (lasting_fields fields)
all_last fields = all_too (is_lasting_of fields) lasts (lasting_fields fields) (lasts_alone fields) (all_chosen (is_lasting_of fields) fields)

pub of_row : (lasting kept fields : List Field) (times : Times) → AllOf lasts lasting
    → AreOfRow times.response lasting (date_field (date_value fields) times.response) (latest (codes "expires") kept fields) (latest (codes "cache-control") kept fields)
of_row lasting kept fields times all = record {
  lasts = all;
  dates_are = all_dates (date_value fields) times.response;
  expires_are = all_latest (codes "expires") kept fields;
  controls_are = all_latest (codes "cache-control") kept fields;
  dated = date_again (date_value fields) times.response (date_was (slice_get (end_to_end_values (codes "date") fields) 0));
}

rest_kept : (lasting kept fields : List Field) (times : Times) → AllOf lasts lasting → kept_of (lasting ++ renewal_of kept fields times) times ≡ lasting ++ renewal_of kept fields times
rest_kept lasting kept fields times all =
    all_kept times lasting (date_field (date_value fields) times.response) (latest (codes "expires") kept fields) (latest (codes "cache-control") kept fields) (of_row lasting kept fields times all)

pub kept_are_kept : KeptAreKept
kept_are_kept fields times = rest_kept (lasting_fields fields) [] fields times (all_last fields)

pub refreshed_are_kept : RefreshedAreKept
refreshed_are_kept kept fields before times are =
    rest_kept (lasting_of kept) kept fields times
    (subst (λ (fs : List Field). AllOf lasts fs) (sym (lasting_kept kept before) ∙ ap (λ (fs : List Field). lasting_of fs) are) (all_last kept))
