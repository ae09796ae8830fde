-- A row is made with the room for it, as the law has it.
use Rattle.std.proofs.Common.{◌≡◌, ◌≤◌, ◌+◌, refl, sym, subst, ap, ◌∙◌, ℕ, Bool, true, false, not, ◌==◌, ◌&&◌, cond, find, List, [], ◌∷◌, ◌++◌, filter, Option, Some, None, arith}
use Rattle.std.specs.Prelude.{bytes_eq, count_by, nat_le, nat_lt}
use Rattle.std.proofs.lemmas.Bool.Decides.{nat_tests}
use Rattle.pp_cache.specs.Memory.{Memory, retired_at, with_outdated, with_row}
use Rattle.pp_fresh.specs.declared.aging.Times.{Times}
use Rattle.pp_law.specs.Lists.{Bytes, change, without as law_without}
use Rattle.pp_law.specs.State.{State, Instance as Known, Chunk as Front}
use Rattle.pp_law.specs.Table.{add_row, clear, forget, forget_row, idle_row, is_chunk_of_any, is_idle_row, is_instance, is_left_over, is_row_of as is_known_row, make_row, row, rows, swept, with_room as law_room}
use Rattle.pp_objects.specs.Changes.{changed_in, retired, retired_from, without_slot}
use Rattle.pp_objects.specs.Instances.{Instance, id_of, in_slot, is_idle, is_in_slot, is_life, is_row, is_row_of, row_of}
use Rattle.pp_objects.specs.Kept.{kept_of}
use Rattle.pp_objects.specs.declared.id.ObjectId.{ObjectId}
use Rattle.pp_text.specs.Fields.{Field}
use Rattle.pp_valid.specs.declared.version.Version.{Version}
use Rattle.pp_cache_law.specs.Frames.{IsSameTable}
use Rattle.pp_cache_law.specs.Pairs.{AreBoth}
use Rattle.pp_cache_law.specs.Reads.{AreBusy}
use Rattle.pp_cache_law.specs.Rooms.{MakingsAreTheLaws, room_by, without_one}
use Rattle.pp_cache_law.specs.Settles.{numbered}
use Rattle.pp_cache_law.specs.Tables.{ShowsCache, ShowsInstance, ShowsTable}
use Rattle.pp_cache_law.proofs.Alike.{idle_rows_of, room_of, rows_of}
use Rattle.pp_cache_law.proofs.Changed.{forgettings_of}
use Rattle.pp_cache_law.proofs.Finds.{find_passes, none_changed, none_within}
use Rattle.pp_cache_law.proofs.Framing.{frames_of, the_same}
use Rattle.pp_cache_law.proofs.Making.{settlings_of}
use Rattle.pp_cache_law.proofs.Numbers.{same_test}
use Rattle.pp_cache_law.proofs.PairLemmas.{fewer_changed, fewer_kept, filter_all}
use Rattle.pp_cache_law.proofs.Retiring.{as_retired, clears_at, row_here}
use Rattle.pp_cache_law.proofs.Sweeping.{all_stay, none_left}

-- ---- where a key has no row, nothing is cleared but its entry

pub record IsCleared (s t : State) : Type 0 where
  pub instances : t.instances ≡ s.instances
  pub chunks : t.chunks ≡ s.chunks

pub nothing_cleared : (number : ℕ → ℕ) (m : Memory) (s : State) (key : Bytes) → ShowsCache number m s → row s key ≡ None → IsCleared s (clear key s)
unfolding clear swept
nothing_cleared number m s key shows none = record {
  instances = ap (λ (xs : List Known). law_without (is_left_over s) xs) same ∙ all_stay number m s shows.table shows.followed;
  chunks =
      ap (λ (xs : List Known). law_without (is_chunk_of_any (filter (is_left_over s) xs)) s.chunks) same
      ∙ ap (λ (xs : List Known). law_without (is_chunk_of_any xs) s.chunks) (none_left number m s shows.table shows.followed) ∙ filter_all s.chunks;
}
  where
    same : change (is_known_row key) as_retired s.instances ≡ s.instances
    same = none_changed (is_known_row key) as_retired s.instances none

-- ---- how many rows there are then

first_of : (a b : Bool) → (a && b) ≡ true → a ≡ true
first_of true b e = refl
first_of false b e = e

row_passes : (key : Bytes) (is : List Instance) (i : Instance) → row_of key is ≡ Some i → is_row i ≡ true
row_passes key is i there = first_of (is_row i) (bytes_eq i.key key) (find_passes (is_row_of key) is i there)

fewer_rows : (key : Bytes) (is : List Instance) (i : Instance) → row_of key is ≡ Some i → in_slot i.slot is ≡ Some i → count_by is_row (retired_from (Some i) is) + 1 ≤ count_by is_row is
fewer_rows key is i there here = by (i.followers == 0)
  where
    by : (b : Bool) → count_by is_row (cond b (without_slot i.slot is) (changed_in i.slot retired is)) + 1 ≤ count_by is_row is
    by true = fewer_kept is_row (is_in_slot i.slot) is i here (row_passes key is i there)
    by false = fewer_changed is_row (is_in_slot i.slot) retired is i here (row_passes key is i there) (λ j. refl)

has_room : (n : ℕ) → n + 1 ≤ 1024 → nat_lt n 1024 ≡ true
has_room n few = grind (arith, nat_tests)

pub is_full : (n : ℕ) → nat_le 1024 n ≡ true → nat_lt n 1024 ≡ false
is_full n full = grind (arith, nat_tests)

pub isnt_full : (n : ℕ) → nat_le 1024 n ≡ false → nat_lt n 1024 ≡ true
isnt_full n few = grind (arith, nat_tests)

pub cleared_room : (number : ℕ → ℕ) (m : Memory) (s : State) (key : Bytes) (i : Instance) → ShowsCache number m s → row_of key m.instances ≡ Some i → rows s ≤ 1024 → nat_lt (rows (clear key s)) 1024 ≡ true
unfolding retired_at
cleared_room number m s key i shows there few =
    has_room (rows (clear key s)) (omega (arith, few, before, behind, fewer_rows key m.instances i there (row_here number m s key i shows.table there)))
  where
    before : count_by is_row m.instances ≡ rows s
    before = room_of number m s shows.table

    behind : count_by is_row (retired_from (Some i) m.instances) ≡ rows (clear key s)
    behind =
        ap (λ (u : Option Instance). count_by is_row (retired_from u m.instances)) (sym there)
        ∙ room_of number (retired_at key m) (clear key s) (clears_at number m s key shows.table shows.followed)

-- ---- a row is made

abbrev pub made_by : State → Bool → Option Known → State
made_by s b o = elim b as (λ c. State) [ true ↦ s | false ↦ elim o as (λ c. State) [ None ↦ s | Some x ↦ forget_row x s ] ]

pub cleared_idle : (s : State) (key : Bytes) → IsCleared s (clear key s) → idle_row (clear key s) ≡ idle_row s
unfolding clear swept
cleared_idle s key cleared = ap (λ (xs : List Known). find (is_idle_row s) xs) cleared.instances

pub cleared_rows : (s : State) (key : Bytes) → IsCleared s (clear key s) → rows (clear key s) ≡ rows s
cleared_rows s key cleared = ap (λ (xs : List Known). count_by (λ (x : Known). not x.is_retired) xs) cleared.instances

-- whether another leaves before or behind
same_made : (s : State) (key : Bytes) (x : Known) (version : Version) (kept : List Field) (times : Times) → IsCleared s (clear key s) → IsCleared (forget x.id s) (clear key (forget x.id s))
    → IsSameTable (add_row key version kept times true (clear key (forget x.id s))) (add_row key version kept times true (forget_row x (clear key s)))
unfolding add_row forget_row forget clear swept
same_made s key x version kept times before behind = record {
  instances = ap (λ (xs : List Known). law_without (is_instance x.id) xs ++ new ∷ []) before.instances ∙ sym (ap (λ (xs : List Known). xs ++ new ∷ []) behind.instances);
  made = the_same (s.next_instance + 1);
  chunks = ap (λ (ds : List Front). law_without (λ (d : Front). d.instance == x.id) ds) before.chunks ∙ sym behind.chunks;
  followers = λ n. refl;
  kept = λ y. refl;
}
  where
    new : Known
    new = record { id = s.next_instance; key = key; version = version; fields = kept; times = times; is_retired = false; is_new = true }

pub no_known : (number : ℕ → ℕ) (m : Memory) (s : State) (key : Bytes) → ShowsTable number m s → row_of key m.instances ≡ None → row s key ≡ None
no_known number m s key shows none = by (row_of key m.instances) (row s key) none (rows_of number m s shows key)
  where
    none_some : (i : Instance) → Some i ≡ None → ⊥
    none_some i e = absurd cc

    by : (u : Option Instance) (v : Option Known) → u ≡ None → AreBoth (ShowsInstance number m s) u v → v ≡ None
    by None None e both = refl
    by None (Some x) e both = absurd both
    by (Some i) v e both = absurd (none_some i e)

pub none_behind : (s : State) (key : Bytes) (n : ℕ) → row s key ≡ None → row (forget n s) key ≡ None
unfolding forget
none_behind s key n none = none_within (is_known_row key) (λ (x : Known). not (is_instance n x)) s.instances none

forgets_and_makes : (number : ℕ → ℕ) (m : Memory) (s : State) (i : Instance) (x : Known) (id : ObjectId) (key : Bytes) (version : Version) (fields : List Field) (times : Times) → ShowsCache number m s → row s key ≡ None → ShowsInstance number m s i x
    → in_slot id.slot (without_slot i.slot m.instances) ≡ None → id.life ≡ m.lives
    → ShowsCache (numbered m.lives s.next_instance number) (with_outdated key (with_row id key version fields times (without_one (Some i) m))) (add_row key version (kept_of fields times) times true (forget_row x (clear key s)))
unfolding forget
forgets_and_makes number m s i x id key version fields times shows none one vacant life =
    frames_of (numbered m.lives s.next_instance number) (with_outdated key (with_row id key version fields times (without_one (Some i) m))) (add_row key version (kept_of fields times) times true (clear key (forget x.id s)))
    (settlings_of number (without_one (Some i) m) (forget x.id s) left id key version fields times true vacant life)
    (with_outdated key (with_row id key version fields times (without_one (Some i) m))) (add_row key version (kept_of fields times) times true (forget_row x (clear key s)))
    (record { instances = refl; lives = refl; chunks = refl; extents = refl })
    (same_made s key x version (kept_of fields times) times (nothing_cleared number m s key shows none) (nothing_cleared number (without_one (Some i) m) (forget x.id s) key left (none_behind s key x.id none)))
  where
    there : is_life i.life (in_slot i.slot m.instances) ≡ true
    there = ap (λ (u : Option Instance). is_life i.life u) one.there ∙ same_test i.life i.life refl

    left : ShowsCache number (without_one (Some i) m) (forget x.id s)
    left = subst (λ (n : ℕ). ShowsCache number (without_one (Some i) m) (forget n s)) one.id (forgettings_of number m s shows (id_of i) there)

makes_in_full : (number : ℕ → ℕ) (m : Memory) (s : State) (u : Option Instance) (v : Option Known) (id : ObjectId) (key : Bytes) (version : Version) (fields : List Field) (times : Times) → ShowsCache number m s → row s key ≡ None
    → AreBoth (ShowsInstance number m s) u v → in_slot id.slot (without_one u m).instances ≡ None → id.life ≡ m.lives
    → ShowsCache (numbered m.lives s.next_instance number) (with_outdated key (with_row id key version fields times (without_one u m))) (add_row key version (kept_of fields times) times true (made_by (clear key s) false v))
makes_in_full number m s None None id key version fields times shows none both vacant life = settlings_of number m s shows id key version fields times true vacant life
makes_in_full number m s None (Some x) id key version fields times shows none both vacant life = absurd both
makes_in_full number m s (Some i) None id key version fields times shows none both vacant life = absurd both
makes_in_full number m s (Some i) (Some x) id key version fields times shows none both vacant life = forgets_and_makes number m s i x id key version fields times shows none both vacant life

makes_anew : (number : ℕ → ℕ) (m : Memory) (s : State) (b : Bool) (busy : List ObjectId) (id : ObjectId) (key : Bytes) (version : Version) (fields : List Field) (times : Times) → ShowsCache number m s → row s key ≡ None
    → AreBusy number m s busy → nat_le 1024 (count_by is_row m.instances) ≡ b → in_slot id.slot (cond b (without_one (find (is_idle busy) m.instances) m) m).instances ≡ None → id.life ≡ m.lives
    → ShowsCache (numbered m.lives s.next_instance number) (with_outdated key (with_row id key version fields times (cond b (without_one (find (is_idle busy) m.instances) m) m)))
    (add_row key version (kept_of fields times) times true (made_by (clear key s) (nat_lt (rows (clear key s)) 1024) (idle_row (clear key s))))
makes_anew number m s true busy id key version fields times shows none alike full vacant life =
    subst (λ (b : Bool). ShowsCache (numbered m.lives s.next_instance number) (with_outdated key (with_row id key version fields times (without_one (find (is_idle busy) m.instances) m)))
    (add_row key version (kept_of fields times) times true (made_by (clear key s) b (idle_row (clear key s)))))
    (sym (is_full (rows (clear key s)) (ap (λ (n : ℕ). nat_le 1024 n) (cleared_rows s key cleared ∙ sym (room_of number m s shows.table)) ∙ full)))
    (subst (λ (v : Option Known). ShowsCache (numbered m.lives s.next_instance number) (with_outdated key (with_row id key version fields times (without_one (find (is_idle busy) m.instances) m)))
    (add_row key version (kept_of fields times) times true (made_by (clear key s) false v)))
    (sym (cleared_idle s key cleared))
    (makes_in_full number m s (find (is_idle busy) m.instances) (idle_row s) id key version fields times shows none (idle_rows_of number m s shows.table busy alike) vacant life))
  where
    cleared : IsCleared s (clear key s)
    cleared = nothing_cleared number m s key shows none
makes_anew number m s false busy id key version fields times shows none alike few vacant life =
    subst (λ (b : Bool). ShowsCache (numbered m.lives s.next_instance number) (with_outdated key (with_row id key version fields times m)) (add_row key version (kept_of fields times) times true (made_by (clear key s) b (idle_row (clear key s)))))
    (sym (isnt_full (rows (clear key s)) (ap (λ (n : ℕ). nat_le 1024 n) (cleared_rows s key (nothing_cleared number m s key shows none) ∙ sym (room_of number m s shows.table)) ∙ few)))
    (settlings_of number m s shows id key version fields times true vacant life)

pub makings_of : MakingsAreTheLaws
unfolding make_row law_room
makings_of number m s shows busy id key version fields times few alike vacant life = by (row_of key m.instances) refl vacant
  where
    by : (u : Option Instance) → row_of key m.instances ≡ u → in_slot id.slot (room_by u busy m).instances ≡ None
        → ShowsCache (numbered m.lives s.next_instance number) (with_outdated key (with_row id key version fields times (room_by u busy m)))
        (add_row key version (kept_of fields times) times true (made_by (clear key s) (nat_lt (rows (clear key s)) 1024) (idle_row (clear key s))))
    by None e free = makes_anew number m s (nat_le 1024 (count_by is_row m.instances)) busy id key version fields times shows (no_known number m s key shows.table e) alike refl free life
    by (Some i) e free =
        subst (λ (b : Bool). ShowsCache (numbered m.lives s.next_instance number) (with_outdated key (with_row id key version fields times m)) (add_row key version (kept_of fields times) times true (made_by (clear key s) b (idle_row (clear key s)))))
        (sym (cleared_room number m s key i shows e few)) (settlings_of number m s shows id key version fields times true free life)
