-- A kept row comes into memory and another leaves behind it, as the law has it.
use Rattle.std.proofs.Common.{◌≡◌, ◌+◌, refl, sym, subst, ap, ◌∙◌, ℕ, Bool, true, false, not, ◌==◌, ◌&&◌, cond, find, List, [], ◌∷◌, ◌++◌, Option, Some, None, arith}
use Rattle.std.specs.Prelude.{bytes_eq, count_by, nat_lt}
use Rattle.std.specs.List.{list_any}
use Rattle.std.proofs.lemmas.Bool.Decides.{nat_tests}
use Rattle.std.proofs.lemmas.Slice.Eq.{bytes_eq-Decides}
use Rattle.pp_cache.specs.Memory.{Memory, with_row}
use Rattle.pp_holes.specs.Places.{Chunk, without_owner}
use Rattle.pp_law.specs.Lists.{Bytes}
use Rattle.pp_law.specs.State.{State, Entry, Instance as Known}
use Rattle.pp_law.specs.Table.{add_row, enter, forget, forget_row, idle_row, row_on_disk, row, rows, with_room as law_room}
use Rattle.pp_objects.specs.Changes.{given_back_by, is_elsewhere, new_row, retired_from, without_slot}
use Rattle.pp_objects.specs.Instances.{Instance, id_of, in_slot, is_idle, is_in_slot, is_life, is_row, is_row_of, is_same_id}
use Rattle.pp_objects.specs.Kept.{kept_of}
use Rattle.pp_objects.specs.declared.id.ObjectId.{ObjectId}
use Rattle.pp_text.specs.Fields.{Field}
use Rattle.pp_cache_law.specs.Frames.{IsSameTable}
use Rattle.pp_cache_law.specs.Pairs.{AreBoth}
use Rattle.pp_cache_law.specs.Reads.{AreBusy}
use Rattle.pp_cache_law.specs.Rooms.{EnteringsWithRoomAreTheLaws, give_way, way_by, without_one}
use Rattle.pp_cache_law.specs.Settles.{MayEnter, entered, numbered}
use Rattle.pp_cache_law.specs.Tables.{ShowsCache, ShowsInstance, ShowsTable}
use Rattle.pp_cache_law.proofs.Alike.{idle_rows_of, room_of}
use Rattle.pp_cache_law.proofs.Changed.{forgettings_of}
use Rattle.pp_cache_law.proofs.Entering.{enterings_of, no_row}
use Rattle.pp_cache_law.proofs.Finds.{find_joined, find_passes, first_of_two, none_passes, none_within}
use Rattle.pp_cache_law.proofs.Framing.{frames_of, the_same}
use Rattle.pp_cache_law.proofs.Making.{not_vacant}
use Rattle.pp_cache_law.proofs.Numbers.{same_test}
use Rattle.pp_cache_law.proofs.PairLemmas.{count_first, count_joined, filter_joined}
use Rattle.pp_cache_law.proofs.Rooming.{made_by, none_behind}

-- ---- what stands there behind it

abbrev new_of : ObjectId → Bytes → List Field → Entry → Instance
new_of id key stored e = new_row id key e.version (kept_of stored e.times) e.times

entered_instances : (number : ℕ → ℕ) (m : Memory) (s : State) (id : ObjectId) (key : Bytes) (stored : List Field) (e : Entry) → ShowsTable number m s → row s key ≡ None → (entered id key stored e m).instances ≡ m.instances ++ new_of id key stored e ∷ []
unfolding with_row
entered_instances number m s id key stored e shows none = ap (λ (u : Option Instance). retired_from u (m.instances ++ new_of id key stored e ∷ [])) (no_row number m s key shows none)

entered_chunks : (number : ℕ → ℕ) (m : Memory) (s : State) (id : ObjectId) (key : Bytes) (stored : List Field) (e : Entry) → ShowsTable number m s → row s key ≡ None → (entered id key stored e m).chunks ≡ m.chunks
unfolding with_row
entered_chunks number m s id key stored e shows none = ap (λ (u : Option Instance). given_back_by u m.chunks) (no_row number m s key shows none)

one_more : (is : List Instance) (new : Instance) → new.is_retired ≡ false → count_by is_row (is ++ new ∷ []) ≡ count_by is_row is + 1
one_more is new row = omega (arith, count_joined is_row is (new ∷ []), one)
  where
    one : count_by is_row (new ∷ []) ≡ 1
    one = count_first is_row new [] ∙ ap (λ (b : Bool). cond (not b) 1 0 + count_by is_row []) row

has_room : (n : ℕ) → nat_lt n 1024 ≡ true → nat_lt 1024 (n + 1) ≡ false
has_room n few = grind (arith, nat_tests)

has_none : (n : ℕ) → nat_lt n 1024 ≡ false → nat_lt 1024 (n + 1) ≡ true
has_none n full = grind (arith, nat_tests)

-- ---- one that leaves

same_left : (s : State) (key : Bytes) (x : Known) (e : Entry) (is_new : Bool) → IsSameTable (add_row key e.version e.fields e.times is_new (forget x.id s)) (add_row key e.version e.fields e.times is_new (forget_row x s))
unfolding add_row forget_row forget
same_left s key x e is_new = record { instances = refl; made = the_same (s.next_instance + 1); chunks = refl; followers = λ n. refl; kept = λ y. refl }

same_lives : (i : Instance) (id : ObjectId) (key : Bytes) (stored : List Field) (e : Entry) (m : Memory) → (without_one (Some i) (entered id key stored e m)).lives ≡ (entered id key stored e (without_one (Some i) m)).lives
unfolding with_row
same_lives i id key stored e m = refl

swap : (a b : ℕ) → (a == b) ≡ false → (b == a) ≡ false
swap a b apart = grind (arith, nat_tests, apart)

leaves_behind : (number : ℕ → ℕ) (m : Memory) (s : State) (i : Instance) (x : Known) (id : ObjectId) (key : Bytes) (stored : List Field) (e : Entry) (is_new : Bool) → ShowsCache number m s → MayEnter m s id key stored e → ShowsInstance number m s i x
    → ShowsCache (numbered m.lives s.next_instance number) (without_one (Some i) (entered id key stored e m)) (add_row key e.version e.fields e.times is_new (forget_row x s))
unfolding forget
leaves_behind number m s i x id key stored e is_new shows may one =
    frames_of (numbered m.lives s.next_instance number) (entered id key stored e (without_one (Some i) m)) (add_row key e.version e.fields e.times is_new (forget x.id s))
    (enterings_of number (without_one (Some i) m) (forget x.id s) left id key stored e is_new (record {
      vacant = none_within (is_in_slot id.slot) (is_elsewhere i.slot) m.instances may.vacant;
      life = may.life;
      slot = may.slot;
      alone = behind;
      kept = may.kept;
      fields = may.fields;
    }))
    (without_one (Some i) (entered id key stored e m)) (add_row key e.version e.fields e.times is_new (forget_row x s))
    (record {
      instances =
          ap (λ (is : List Instance). without_slot i.slot is) (entered_instances number m s id key stored e shows.table may.alone)
          ∙ filter_joined (is_elsewhere i.slot) m.instances (new_of id key stored e ∷ [])
          ∙ ap (λ (b : Bool). without_slot i.slot m.instances ++ cond (not b) (new_of id key stored e ∷ []) []) (swap i.slot id.slot (not_vacant i.slot id.slot m.instances i one.there may.vacant))
          ∙ sym (entered_instances number (without_one (Some i) m) (forget x.id s) id key stored e left.table behind);
      lives = same_lives i id key stored e m;
      chunks =
          ap (λ (cs : List Chunk). without_owner i.slot cs) (entered_chunks number m s id key stored e shows.table may.alone)
          ∙ sym (entered_chunks number (without_one (Some i) m) (forget x.id s) id key stored e left.table behind);
      extents = refl;
    })
    (same_left s key x e is_new)
  where
    there : is_life i.life (in_slot i.slot m.instances) ≡ true
    there = ap (λ (u : Option Instance). is_life i.life u) one.there ∙ same_test i.life i.life refl

    left : ShowsCache number (without_one (Some i) m) (forget x.id s)
    left = subst (λ (n : ℕ). ShowsCache number (without_one (Some i) m) (forget n s)) one.id (forgettings_of number m s shows (id_of i) there)

    behind : row (forget x.id s) key ≡ None
    behind = none_behind s key x.id may.alone

-- ---- whether one leaves

first_of : (a b : Bool) → (a && b) ≡ true → a ≡ true
first_of true b e = refl
first_of false b e = e

other_key : (number : ℕ → ℕ) (m : Memory) (s : State) (busy : List ObjectId) (i : Instance) (key : Bytes) → ShowsTable number m s → row s key ≡ None → find (is_idle busy) m.instances ≡ Some i → bytes_eq i.key key ≡ false
other_key number m s busy i key shows none there =
    ap (λ (b : Bool). b && bytes_eq i.key key) (sym row) ∙ none_passes (is_row_of key) (is_idle busy) m.instances i (no_row number m s key shows none) there
  where
    row : is_row i ≡ true
    row = first_of (is_row i) ((i.followers == 0) && not (list_any (is_same_id (id_of i)) busy)) (find_passes (is_idle busy) m.instances i there)

same_key : (key : Bytes) (busy : List ObjectId) (new : Instance) (m : Memory) → new.key ≡ key → way_by key (find (is_idle busy) (new ∷ [])) m ≡ m
same_key key busy new m is = by (is_idle busy new)
  where
    by : (b : Bool) → way_by key (cond b (Some new) None) m ≡ m
    by true = ap (λ (b : Bool). cond b m (without_one (Some new) m)) ((bytes_eq-Decides new.key key).1 is)
    by false = refl

ways_at : (number : ℕ → ℕ) (m : Memory) (s : State) (u : Option Instance) (v : Option Known) (busy : List ObjectId) (id : ObjectId) (key : Bytes) (stored : List Field) (e : Entry) (is_new : Bool) → ShowsCache number m s → MayEnter m s id key stored e
    → find (is_idle busy) m.instances ≡ u → AreBoth (ShowsInstance number m s) u v
    → ShowsCache (numbered m.lives s.next_instance number) (way_by key (first_of_two u (find (is_idle busy) (new_of id key stored e ∷ []))) (entered id key stored e m)) (add_row key e.version e.fields e.times is_new (made_by s false v))
ways_at number m s None None busy id key stored e is_new shows may there both =
    subst (λ (k : Memory). ShowsCache (numbered m.lives s.next_instance number) k (add_row key e.version e.fields e.times is_new s)) (sym (same_key key busy (new_of id key stored e) (entered id key stored e m) refl))
    (enterings_of number m s shows id key stored e is_new may)
ways_at number m s None (Some x) busy id key stored e is_new shows may there both = absurd both
ways_at number m s (Some i) None busy id key stored e is_new shows may there both = absurd both
ways_at number m s (Some i) (Some x) busy id key stored e is_new shows may there both =
    subst (λ (b : Bool). ShowsCache (numbered m.lives s.next_instance number) (cond b (entered id key stored e m) (without_one (Some i) (entered id key stored e m))) (add_row key e.version e.fields e.times is_new (forget_row x s)))
    (sym (other_key number m s busy i key shows.table may.alone there)) (leaves_behind number m s i x id key stored e is_new shows may both)

ways_by : (number : ℕ → ℕ) (m : Memory) (s : State) (b : Bool) (busy : List ObjectId) (id : ObjectId) (key : Bytes) (stored : List Field) (e : Entry) (is_new : Bool) → ShowsCache number m s → AreBusy number m s busy → MayEnter m s id key stored e → nat_lt (rows s) 1024 ≡ b
    → ShowsCache (numbered m.lives s.next_instance number) (give_way key busy (entered id key stored e m)) (add_row key e.version e.fields e.times is_new (made_by s b (idle_row s)))
ways_by number m s b busy id key stored e is_new shows alike may is = by b is
  where
    count : count_by is_row (entered id key stored e m).instances ≡ rows s + 1
    count =
        ap (λ (is : List Instance). count_by is_row is) (entered_instances number m s id key stored e shows.table may.alone)
        ∙ one_more m.instances (new_of id key stored e) refl ∙ ap (λ (n : ℕ). n + 1) (room_of number m s shows.table)

    found : find (is_idle busy) (entered id key stored e m).instances ≡ first_of_two (find (is_idle busy) m.instances) (find (is_idle busy) (new_of id key stored e ∷ []))
    found = ap (λ (is : List Instance). find (is_idle busy) is) (entered_instances number m s id key stored e shows.table may.alone) ∙ find_joined (is_idle busy) m.instances (new_of id key stored e ∷ [])

    by : (b : Bool) → nat_lt (rows s) 1024 ≡ b → ShowsCache (numbered m.lives s.next_instance number) (give_way key busy (entered id key stored e m)) (add_row key e.version e.fields e.times is_new (made_by s b (idle_row s)))
    by true is =
        subst (λ (t : Bool). ShowsCache (numbered m.lives s.next_instance number) (cond t (way_by key (find (is_idle busy) (entered id key stored e m).instances) (entered id key stored e m)) (entered id key stored e m)) (add_row key e.version e.fields e.times is_new s))
        (sym (ap (λ (n : ℕ). nat_lt 1024 n) count ∙ has_room (rows s) is)) (enterings_of number m s shows id key stored e is_new may)
    by false is =
        subst (λ (t : Bool). ShowsCache (numbered m.lives s.next_instance number) (cond t (way_by key (find (is_idle busy) (entered id key stored e m).instances) (entered id key stored e m)) (entered id key stored e m))
        (add_row key e.version e.fields e.times is_new (made_by s false (idle_row s))))
        (sym (ap (λ (n : ℕ). nat_lt 1024 n) count ∙ has_none (rows s) is))
        (subst (λ (u : Option Instance). ShowsCache (numbered m.lives s.next_instance number) (way_by key u (entered id key stored e m)) (add_row key e.version e.fields e.times is_new (made_by s false (idle_row s)))) (sym found)
        (ways_at number m s (find (is_idle busy) m.instances) (idle_row s) busy id key stored e is_new shows may refl (idle_rows_of number m s shows.table busy alike)))

pub enterings_with_room_of : EnteringsWithRoomAreTheLaws
unfolding enter law_room
enterings_with_room_of number m s shows busy id key stored e is_new alike may =
    subst (λ (v : Option Known). ShowsCache (numbered m.lives s.next_instance number) (give_way key busy (entered id key stored e m)) (elim v as (λ c. State) [
      | Some x ↦ s
      | None ↦ elim (row_on_disk s key) as (λ c. State) [ None ↦ s | Some f ↦ add_row key f.version f.fields f.times is_new (made_by s (nat_lt (rows s) 1024) (idle_row s)) ]
    ]))
    (sym may.alone)
    (subst (λ (o : Option Entry). ShowsCache (numbered m.lives s.next_instance number) (give_way key busy (entered id key stored e m))
    (elim o as (λ c. State) [ None ↦ s | Some f ↦ add_row key f.version f.fields f.times is_new (made_by s (nat_lt (rows s) 1024) (idle_row s)) ]))
    (sym may.kept)
    (ways_by number m s (nat_lt (rows s) 1024) busy id key stored e is_new shows alike may refl))
