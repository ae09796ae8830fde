-- The law: of each row the fields are those that are kept, and the body is short enough.
use Rattle.std.proofs.Common.{◌≡◌, refl, ℕ, zero, suc, ◌+◌, ◌-◌, ◌≤◌, ◌^◌, nat_le, nat_lt, Bool, true, false, ◌&&◌, List, [], ◌∷◌, length, Option, Some, None, option_and_then, option_map, if◌then◌else◌, subst, arith}
use Rattle.std.proofs.lemmas.Bool.Decides.{nat_tests}
use Rattle.pp_entry.specs.Entries.{Own, Row, is_sized, is_spelled, kept_in, own_at, own_in, own_with, row_at, row_from, row_if_spelled, row_of, row_with}
use Rattle.pp_entry.specs.Fields.{are_allowed}
use Rattle.pp_head.specs.Read.{Read, Whole, TooLong, Bad, More}
use Rattle.pp_head.specs.Response.{Response, response_at}
use Rattle.pp_text.specs.Fields.{Field, field_at}
use Rattle.pp_text.specs.Numbers.{number_of}
use Rattle.pp_valid.specs.Kept.{has_room_for}
use Rattle.pp_valid.specs.TagStates.{tag_of}
use Rattle.pp_valid.specs.Versions.{can_keep, can_share, is_telling, strong_part, total_of, version_of, version_with}
use Rattle.pp_valid.specs.declared.version.Version.{Version}
use Rattle.pp_world.specs.Log.{Log}
use Rattle.pp_cache_law.proofs.KeptTwice.{kept_are_kept, refreshed_are_kept}
use Rattle.pp_law.specs.Lists.{Bytes}
use Rattle.pp_law.specs.State.{State, Term, start}
use Rattle.pp_law.specs.After.{after}
use Rattle.pp_laws.specs.Runs.{after_all, state_after}
use Rattle.pp_laws.proofs.Tests.{first_holds}
use Rattle.pp_obeys.specs.Obeys.{Obeys, phases_on}
use Rattle.pp_law.specs.Phases.{next}
use Rattle.pp_laws_fields.specs.Fields.{IsKept, TurnsKeepFields}
use Rattle.pp_laws_fields.proofs.Happenings.{changed-keeps}
use Rattle.pp_laws_fields.proofs.Turns.{next-keeps}
use Rattle.pp_laws_fields.proofs.View.{Closed, Holds, Like, facts_of, holds}

-- ---- along a log, and some phases on

all-keeps : {R : Like} (k : Closed R) (s : State) (log : Log) → Holds R s → Holds R (after_all s log)
all-keeps k s [] h = h
all-keeps k s (e ∷ log) h = all-keeps k (after s e) log (changed-keeps k s e h)

on-keeps : {R : Like} (n : ℕ) (s : State) → Holds R s → Holds R (phases_on n s)
on-keeps zero s h = h
on-keeps (suc n) s h = on-keeps n (next s) (next-keeps s h)

pub obeys-keeps : {R : Like} (k : Closed R) (terms : List Term) (s : State) (log : Log) → Obeys terms s log → Holds R s
obeys-keeps {R} k terms s log obeys =
    subst (λ (t : State). Holds R t) obeys.goes.there
    (on-keeps obeys.goes.phases (state_after terms log) (all-keeps k (start terms) log (holds (record { own = record { differ = tt; given = λ x i. absurd i }; rows = λ x i. absurd i; kept = λ e i. absurd i; next = λ e i. absurd i }))))

-- ---- a version has 2^30 bytes at most

short_by : (fields : List Field) (only : Bool) (tag : List ℕ) (n : ℕ) (v : Version) (t : Bool) → (is_telling tag && (can_keep fields n && can_share fields only)) ≡ t → (if t then Some (record { tag = tag; length = n }) else None) ≡ Some v → v.length ≤ 2 ^ 30
short_by fields only tag n v true can is =
    let e : (record { tag = tag; length = n }) ≡ v = cc is in
    let le : nat_le n (2 ^ 30) ≡ true = first_holds (nat_le n (2 ^ 30)) (has_room_for fields) (first_holds (can_keep fields n) (can_share fields only) (second (is_telling tag) (can_keep fields n && can_share fields only) can)) in
    subst (λ (w : Version). w.length ≤ 2 ^ 30) e (within n (2 ^ 30) le)
  where
    second : (a b : Bool) → (a && b) ≡ true → b ≡ true
    second true b both = both
    second false b both = absurd (cc both)

    within : (m k : ℕ) → nat_le m k ≡ true → m ≤ k
    within m k le = grind (arith, nat_tests)
short_by fields only tag n v false can is = absurd (cc is)

short_made : (fields : List Field) (status : ℕ) (only : Bool) (v : Version) → version_of fields status only ≡ Some v → v.length ≤ 2 ^ 30
short_made fields status only v is = by_tag (strong_part (tag_of fields)) is
  where
    by_total : (tag : List ℕ) (o : Option ℕ) → option_and_then (version_with fields only tag) o ≡ Some v → v.length ≤ 2 ^ 30
    by_total tag None at = absurd (cc at)
    by_total tag (Some n) at = short_by fields only tag n v (is_telling tag && (can_keep fields n && can_share fields only)) refl at

    by_tag : (o : Option (List ℕ)) → option_and_then (λ tag. option_and_then (version_with fields only tag) (total_of fields status)) o ≡ Some v → v.length ≤ 2 ^ 30
    by_tag None at = absurd (cc at)
    by_tag (Some tag) at = by_total tag (total_of fields status) at

-- ---- so has that of an entry

abbrev Short : Option Own → Type 0
Short None = Unit {0}
Short (Some own) = own.length ≤ 2 ^ 30

own_then : {A : Type 0} (f : A → Option Own) (o : Option A) → ((a : A) → Short (f a)) → Short (option_and_then f o)
own_then f None each = tt
own_then f (Some a) each = each a

sized : (n : ℕ) → is_sized n ≡ true → n ≤ 2 ^ 30
sized n is = grind (arith, nat_tests)

own_sized : (key : List ℕ) (count response initial n : ℕ) → Short (own_with key count response initial n)
own_sized key count response initial n = by (is_sized n) refl
  where
    by : (t : Bool) → is_sized n ≡ t → Short (if t then Some (record { key = key; times = record { request = response; response = response; initial = initial; may_guess = false }; length = n; count = count }) else None)
    by true is = sized n is
    by false is = tt

own_at_sized : (fields : List Field) (count : ℕ) → Short (own_at fields count)
own_at_sized fields count =
    own_then _ (number_of (field_at fields (count + 1)).1)
    (λ response. own_then _ (number_of (field_at fields (count + 2)).1)
    (λ initial. own_then (own_with (field_at fields count).1 count response initial) (number_of (field_at fields (count + 3)).1) (λ n. own_sized (field_at fields count).1 count response initial n)))

own_in_sized : (fields : List Field) → Short (own_in fields)
own_in_sized fields = by (nat_lt (length fields) 5)
  where
    by : (t : Bool) → Short (if t then None else own_at fields (length fields - 5))
    by true = tt
    by false = own_at_sized fields (length fields - 5)

short_own : (own : Own) (kept : List Field) (row : Row) → own.length ≤ 2 ^ 30 → row_of own kept ≡ Some row → row.version.length ≤ 2 ^ 30
short_own own kept row le is = by (are_allowed kept own.times.response) is
  where
    of : (o : Option (List ℕ)) → option_map (row_with own kept) o ≡ Some row → row.version.length ≤ 2 ^ 30
    of None at = absurd (cc at)
    of (Some tag) at = let e : row_with own kept tag ≡ row = cc at in subst (λ (r : Row). r.version.length ≤ 2 ^ 30) e le

    by : (t : Bool) → (if t then option_map (row_with own kept) (strong_part (tag_of kept)) else None) ≡ Some row → row.version.length ≤ 2 ^ 30
    by true at = of (strong_part (tag_of kept)) at
    by false at = absurd (cc at)

short_read : (block : Bytes) (row : Row) → row_at block ≡ Some row → row.version.length ≤ 2 ^ 30
unfolding row_at
short_read block row is = by_read (response_at block) is
  where
    by_spelled : (own : Own) (kept : List Field) (t : Bool) → own.length ≤ 2 ^ 30 → (if t then row_of own kept else None) ≡ Some row → row.version.length ≤ 2 ^ 30
    by_spelled own kept true le at = short_own own kept row le at
    by_spelled own kept false le at = absurd (cc at)

    by_own : (fields : List Field) (o : Option Own) → Short o → option_and_then (λ own. row_if_spelled block own (kept_in own fields)) o ≡ Some row → row.version.length ≤ 2 ^ 30
    by_own fields None le at = absurd (cc at)
    by_own fields (Some own) le at = by_spelled own (kept_in own fields) (is_spelled block own (kept_in own fields)) le at

    by_read : (read : Read Response) → row_from block read ≡ Some row → row.version.length ≤ 2 ^ 30
    by_read (Whole head) at = by_own head.fields (own_in head.fields) (own_in_sized head.fields) at
    by_read TooLong at = absurd (cc at)
    by_read Bad at = absurd (cc at)
    by_read More at = absurd (cc at)

-- ---- all

closed_kept : Closed IsKept
closed_kept = record {
  made = λ fields status only v times is. record { kept = kept_are_kept fields times; short = short_made fields status only v is };
  renewed = λ v kept fields before times room has. record { kept = refreshed_are_kept kept fields before times has.kept; short = has.short };
  read = λ block row is. record { kept = kept_are_kept row.fields row.times; short = short_read block row is };
}

pub turns_keep_fields : TurnsKeepFields
turns_keep_fields terms s log obeys =
    let f = facts_of (obeys-keeps closed_kept terms s log obeys) in
    record { rows = λ x i. f.rows x i; entries = λ e i. f.kept e i }
