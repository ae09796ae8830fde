-- A row for which memory was refused is none, as the law has it in the end.
use Rattle.std.proofs.Common.{◌≡◌, ◌≤◌, ◌<◌, ◌+◌, refl, sym, subst, ap, ◌∙◌, ℕ, Bool, true, false, not, ◌==◌, cond, find, List, [], ◌∷◌, ◌++◌, filter, Option, Some, None, arith}
use Rattle.std.specs.Prelude.{count_by, nat_le, nat_lt}
use Rattle.std.proofs.lemmas.Bool.Decides.{nat_tests}
use Rattle.pp_cache.specs.Memory.{Memory, retired_at}
use Rattle.pp_fresh.specs.declared.aging.Times.{Times}
use Rattle.pp_law.specs.Lists.{Bytes, without as law_without}
use Rattle.pp_law.specs.State.{State, Instance as Known, Chunk as Front}
use Rattle.pp_law.specs.Table.{add_row, clear, forget, forget_row, idle_row, is_instance, make_row, row, rows, swept, with_room as law_room}
use Rattle.pp_objects.specs.Instances.{Instance, id_of, in_slot, is_idle, is_life, is_row, row_of}
use Rattle.pp_objects.specs.declared.id.ObjectId.{ObjectId}
use Rattle.pp_text.specs.Fields.{Field}
use Rattle.pp_valid.specs.declared.version.Version.{Version}
use Rattle.pp_cache_law.specs.Frames.{IsSameTable}
use Rattle.pp_cache_law.specs.Pairs.{AreBoth}
use Rattle.pp_cache_law.specs.Reads.{AreBusy}
use Rattle.pp_cache_law.specs.Refusals.{RefusalsAreTheLaws}
use Rattle.pp_cache_law.specs.Rooms.{room_by, without_one}
use Rattle.pp_cache_law.specs.Tables.{ShowsCache, ShowsChunk, ShowsInstance}
use Rattle.pp_cache_law.proofs.Alike.{idle_rows_of, room_of}
use Rattle.pp_cache_law.proofs.Changed.{forgettings_of}
use Rattle.pp_cache_law.proofs.Framing.{frames_of, the_same}
use Rattle.pp_cache_law.proofs.Making.{below_next}
use Rattle.pp_cache_law.proofs.Numbers.{same_test}
use Rattle.pp_cache_law.proofs.PairLemmas.{filter_all, filter_joined, filters_same, joined_none}
use Rattle.pp_cache_law.proofs.Retiring.{retirings_of}
use Rattle.pp_cache_law.proofs.Rooming.{IsCleared, cleared_idle, cleared_room, cleared_rows, is_full, isnt_full, made_by, no_known, none_behind, nothing_cleared}

-- ---- a row is made, and forgotten

isnt : (a b : ℕ) → a < b → (a == b) ≡ false
isnt a b less = grind (arith, nat_tests)

next_more : (n : ℕ) → n ≤ n + 1
next_more n = omega arith

made_and_forgotten : (number : ℕ → ℕ) (m : Memory) (s : State) (key : Bytes) (version : Version) (fields : List Field) (times : Times) → ShowsCache number m s
    → IsSameTable s (forget s.next_instance (add_row key version fields times true s))
unfolding forget add_row
made_and_forgotten number m s key version fields times shows = record {
  instances =
      filter_joined (λ (x : Known). not (is_instance s.next_instance x)) s.instances (new ∷ [])
      ∙ ap (λ (b : Bool). filter (λ (x : Known). not (is_instance s.next_instance x)) s.instances ++ cond (not b) (new ∷ []) []) (same_test s.next_instance s.next_instance refl)
      ∙ joined_none (filter (λ (x : Known). not (is_instance s.next_instance x)) s.instances)
      ∙ filters_same (ShowsInstance number m s) (λ (x : Known). not (is_instance s.next_instance x)) (λ (x : Known). true) m.instances s.instances
      (λ i x one. ap (λ (b : Bool). not b) (isnt x.id s.next_instance one.made)) shows.table.instances
      ∙ filter_all s.instances;
  made = next_more s.next_instance;
  chunks =
      filters_same (ShowsChunk number m) (λ (d : Front). not (d.instance == s.next_instance)) (λ (d : Front). true) m.chunks s.chunks
      (λ c d one. ap (λ (b : Bool). not b) (isnt d.instance s.next_instance (below_next number m s c.owner d.instance shows.table one.owner))) shows.table.chunks
      ∙ filter_all s.chunks;
  followers = λ n. refl;
  kept = λ y. refl;
}
  where
    new : Known
    new = record { id = s.next_instance; key = key; version = version; fields = fields; times = times; is_retired = false; is_new = true }

-- ---- the room for it

same_left : (s : State) (key : Bytes) (x : Known) → IsCleared s (clear key s) → IsCleared (forget x.id s) (clear key (forget x.id s)) → IsSameTable (clear key (forget x.id s)) (forget_row x (clear key s))
unfolding forget_row forget clear swept
same_left s key x before behind = record {
  instances = ap (λ (xs : List Known). law_without (is_instance x.id) xs) before.instances ∙ sym behind.instances;
  made = the_same s.next_instance;
  chunks = ap (λ (ds : List Front). law_without (λ (d : Front). d.instance == x.id) ds) before.chunks ∙ sym behind.chunks;
  followers = λ n. refl;
  kept = λ y. refl;
}

left_in_full : (number : ℕ → ℕ) (m : Memory) (s : State) (u : Option Instance) (v : Option Known) (key : Bytes) → ShowsCache number m s → row s key ≡ None → AreBoth (ShowsInstance number m s) u v
    → ShowsCache number (retired_at key (without_one u m)) (made_by (clear key s) false v)
left_in_full number m s None None key shows none both = retirings_of number m s shows key
left_in_full number m s None (Some x) key shows none both = absurd both
left_in_full number m s (Some i) None key shows none both = absurd both
left_in_full number m s (Some i) (Some x) key shows none both =
    frames_of number (retired_at key (without_one (Some i) m)) (clear key (forget x.id s)) (retirings_of number (without_one (Some i) m) (forget x.id s) left key) (retired_at key (without_one (Some i) m)) (forget_row x (clear key s))
    (record { instances = refl; lives = refl; chunks = refl; extents = refl })
    (same_left s key x (nothing_cleared number m s key shows none) (nothing_cleared number (without_one (Some i) m) (forget x.id s) key left (none_behind s key x.id none)))
  where
    there : is_life i.life (in_slot i.slot m.instances) ≡ true
    there = ap (λ (u : Option Instance). is_life i.life u) both.there ∙ same_test i.life i.life refl

    left : ShowsCache number (without_one (Some i) m) (forget x.id s)
    left = subst (λ (n : ℕ). ShowsCache number (without_one (Some i) m) (forget n s)) both.id (forgettings_of number m s shows (id_of i) there)

left_anew : (number : ℕ → ℕ) (m : Memory) (s : State) (b : Bool) (busy : List ObjectId) (key : Bytes) → ShowsCache number m s → row s key ≡ None → AreBusy number m s busy → nat_le 1024 (count_by is_row m.instances) ≡ b
    → ShowsCache number (retired_at key (cond b (without_one (find (is_idle busy) m.instances) m) m)) (made_by (clear key s) (nat_lt (rows (clear key s)) 1024) (idle_row (clear key s)))
left_anew number m s true busy key shows none alike full =
    subst (λ (b : Bool). ShowsCache number (retired_at key (without_one (find (is_idle busy) m.instances) m)) (made_by (clear key s) b (idle_row (clear key s))))
    (sym (is_full (rows (clear key s)) (ap (λ (n : ℕ). nat_le 1024 n) (cleared_rows s key cleared ∙ sym (room_of number m s shows.table)) ∙ full)))
    (subst (λ (v : Option Known). ShowsCache number (retired_at key (without_one (find (is_idle busy) m.instances) m)) (made_by (clear key s) false v)) (sym (cleared_idle s key cleared))
    (left_in_full number m s (find (is_idle busy) m.instances) (idle_row s) key shows none (idle_rows_of number m s shows.table busy alike)))
  where
    cleared : IsCleared s (clear key s)
    cleared = nothing_cleared number m s key shows none
left_anew number m s false busy key shows none alike few =
    subst (λ (b : Bool). ShowsCache number (retired_at key m) (made_by (clear key s) b (idle_row (clear key s))))
    (sym (isnt_full (rows (clear key s)) (ap (λ (n : ℕ). nat_le 1024 n) (cleared_rows s key (nothing_cleared number m s key shows none) ∙ sym (room_of number m s shows.table)) ∙ few)))
    (retirings_of number m s shows key)

left_at : (number : ℕ → ℕ) (m : Memory) (s : State) (u : Option Instance) (busy : List ObjectId) (key : Bytes) → ShowsCache number m s → rows s ≤ 1024 → AreBusy number m s busy → row_of key m.instances ≡ u
    → ShowsCache number (retired_at key (room_by u busy m)) (made_by (clear key s) (nat_lt (rows (clear key s)) 1024) (idle_row (clear key s)))
left_at number m s None busy key shows few alike e = left_anew number m s (nat_le 1024 (count_by is_row m.instances)) busy key shows (no_known number m s key shows.table e) alike refl
left_at number m s (Some i) busy key shows few alike e =
    subst (λ (b : Bool). ShowsCache number (retired_at key m) (made_by (clear key s) b (idle_row (clear key s)))) (sym (cleared_room number m s key i shows e few)) (retirings_of number m s shows key)

-- whichever is left, the next number is the same
same_next : (s : State) (key : Bytes) (b : Bool) (v : Option Known) → (made_by (clear key s) b v).next_instance ≡ s.next_instance
unfolding clear swept forget_row forget
same_next s key true v = refl
same_next s key false None = refl
same_next s key false (Some x) = refl

pub refusals_of : RefusalsAreTheLaws
unfolding make_row law_room
refusals_of number m s shows busy key version fields times few alike =
    subst (λ (n : ℕ). ShowsCache number behind (forget n (add_row key version fields times true (made_by (clear key s) (nat_lt (rows (clear key s)) 1024) (idle_row (clear key s))))))
    (same_next s key (nat_lt (rows (clear key s)) 1024) (idle_row (clear key s)))
    (frames_of number behind (made_by (clear key s) (nat_lt (rows (clear key s)) 1024) (idle_row (clear key s))) left behind
    (forget (made_by (clear key s) (nat_lt (rows (clear key s)) 1024) (idle_row (clear key s))).next_instance
    (add_row key version fields times true (made_by (clear key s) (nat_lt (rows (clear key s)) 1024) (idle_row (clear key s)))))
    (record { instances = refl; lives = refl; chunks = refl; extents = refl })
    (made_and_forgotten number behind (made_by (clear key s) (nat_lt (rows (clear key s)) 1024) (idle_row (clear key s))) key version fields times left))
  where
    behind : Memory
    behind = retired_at key (room_by (row_of key m.instances) busy m)

    left : ShowsCache number behind (made_by (clear key s) (nat_lt (rows (clear key s)) 1024) (idle_row (clear key s)))
    left = left_at number m s (row_of key m.instances) busy key shows few alike refl
