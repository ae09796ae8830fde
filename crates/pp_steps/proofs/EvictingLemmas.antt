-- What is noted of what leaves memory, one after the other.
use Rattle.std.proofs.Common.{◌≡◌, ◌≤◌, ◌<◌, ◌+◌, ◌-◌, ℕ, zero, suc, Bool, true, false, ◌==◌, cond, List, [], ◌∷◌, ◌++◌, length, map, take, add-one, refl, sym, ◌∙◌, ap, subst, arith, Option, Some, None}
use Rattle.std.proofs.lemmas.List.{append-nil, append_assoc}
use Rattle.std.proofs.lemmas.List.Elements.{filter_map-append}
use Rattle.std.specs.List.{find, filter_map}
use Rattle.std.specs.Option.{option_to_list}
use Rattle.std.specs.Prelude.{◌&&◌, ◌||◌, count_by, is_some, nat_lt, not, option_and_then, option_map, slice_get}
use Rattle.pp_cache.specs.Memory.{Memory}
use Rattle.pp_holes.specs.Places.{Chunk, without, without_owner}
use Rattle.pp_objects.specs.Changes.{face, faces, without_slot}
use Rattle.pp_objects.specs.Instances.{Instance, followers_of, id_of, in_slot, is_in_slot, is_life, is_row, is_there}
use Rattle.pp_objects.specs.declared.id.ObjectId.{ObjectId}
use Rattle.pp_world.proofs.CallLemmas.{appends_none, appends_then}
use Rattle.pp_world.specs.Log.{AppendsAll, Log}
use Rattle.pp_world.specs.declared.happening.Happening.{Happening}
use Rattle.pp_state.specs.Bodies.{HasJoined}
use Rattle.pp_world.specs.declared.note.Decision.{Decision}
use Rattle.pp_state.specs.Pins.{is_for_memory, busy_rows, idle_row, without_instance}
use Rattle.pp_steps.specs.Evicting.{all_victims, evicted_note, evicted_notes, forgotten_note, forgotten_notes, given_way, is_key_at, next_victim, row_in_way, unless_own, victims, without_all, without_row}
use Rattle.pp_state.specs.declared.state.State.{State}
use Rattle.pp_state.proofs.PinLemmas.{idle_unfollowed}

-- ---- calls one after another, that append what does not depend on the log

pub appends_both : {old mid new : Option Log} (first second all : Log) → AppendsAll old mid (λ l. first) → AppendsAll mid new (λ l. second) → first ++ second ≡ all → AppendsAll old new (λ l. all)
appends_both {old = old} {new = new} first second all one two is = subst (λ (hs : Log). AppendsAll old new (λ l. hs)) is (appends_then (λ l. first) (λ l. second) one two)

-- ---- keys

keys_next : (keys : List (List ℕ)) (i : ℕ) → forgotten_notes (take i keys) ++ forgotten_notes (option_to_list (slice_get keys i)) ≡ forgotten_notes (take (suc i) keys)
keys_next [] zero = refl
keys_next [] (suc i) = refl
keys_next (k ∷ ks) zero = refl
keys_next (k ∷ ks) (suc i) = ap (λ (hs : Log). forgotten_note k ∷ hs) (keys_next ks i)

pub keys_noted : {old mid new : Option Log} (keys : List (List ℕ)) (i : ℕ) (o : Option (List ℕ)) → o ≡ slice_get keys i → AppendsAll old mid (λ l. forgotten_notes (take i keys)) → AppendsAll mid new (λ l. forgotten_notes (option_to_list o))
    → AppendsAll old new (λ l. forgotten_notes (take (i + 1) keys))
keys_noted keys i o is before one =
    appends_both (forgotten_notes (take i keys)) (forgotten_notes (option_to_list o)) (forgotten_notes (take (i + 1) keys)) before one
    (ap (λ (p : Option (List ℕ)). forgotten_notes (take i keys) ++ forgotten_notes (option_to_list p)) is ∙ keys_next keys i ∙ ap (λ n. forgotten_notes (take n keys)) (sym (add-one i)))

-- ---- faces

in_slot-face : (slot : ℕ) (is : List Instance) → in_slot slot (faces is) ≡ option_map face (in_slot slot is)
in_slot-face slot [] = refl
in_slot-face slot (i ∷ is) = by (i.slot == slot) (in_slot-face slot is)
  where
    by : (b : Bool) → in_slot slot (faces is) ≡ option_map face (in_slot slot is) → cond b (Some (face i)) (in_slot slot (faces is)) ≡ option_map face (cond b (Some i) (in_slot slot is))
    by true more = refl
    by false more = more

noted_by_face : (f : Instance → Happening) → ((i : Instance) → f (face i) ≡ f i) → (o : Option Instance) → option_map f (option_map face o) ≡ option_map f o
noted_by_face f same None = refl
noted_by_face f same (Some i) = ap (λ (h : Happening). Some h) (same i)

note-faced : (at : ℕ × ℕ) (is : List Instance) → evicted_note (faces is) at ≡ evicted_note is at
note-faced at is = ap (option_map _) (in_slot-face at.0 is) ∙ noted_by_face _ (λ i. refl) (in_slot at.0 is)

same_note : (at : ℕ × ℕ) (is js : List Instance) → faces is ≡ faces js → evicted_note is at ≡ evicted_note js at
same_note at is js e = sym (note-faced at is) ∙ ap (λ (ks : List Instance). evicted_note ks at) e ∙ note-faced at js

-- what an instance has in memory is no part of what is noted of it
pub same_notes : (places : List (ℕ × ℕ)) (is js : List Instance) → faces is ≡ faces js → evicted_notes is places ≡ evicted_notes js places
same_notes [] is js e = refl
same_notes (at ∷ places) is js e = rw (same_note at is js e, same_notes places is js e) refl

-- ---- chunks

-- with what is left of so many
pub victims-next : (more : ℕ) (pins : List (ℕ × ℕ)) (floor : ℕ) (cs : List Chunk) (at : ℕ × ℕ) → next_victim pins floor cs ≡ Some at → victims (suc more) pins floor cs ≡ at ∷ victims more pins floor (without at cs)
victims-next more pins floor cs at is =
    ap (λ (o : Option (ℕ × ℕ)). elim o as (λ p. List (ℕ × ℕ)) [ None ↦ [] | Some x ↦ x ∷ victims more pins floor (without x cs) ]) is

pub victims-none : (more : ℕ) (pins : List (ℕ × ℕ)) (floor : ℕ) (cs : List Chunk) → next_victim pins floor cs ≡ None → victims more pins floor cs ≡ []
victims-none zero pins floor cs none = refl
victims-none (suc more) pins floor cs none =
    ap (λ (o : Option (ℕ × ℕ)). elim o as (λ p. List (ℕ × ℕ)) [ None ↦ [] | Some x ↦ x ∷ victims more pins floor (without x cs) ]) none

pub victims-split : (n i : ℕ) (pins : List (ℕ × ℕ)) (floor : ℕ) (cs : List Chunk) (o : Option (ℕ × ℕ)) → i < n → o ≡ next_victim pins floor cs
    → victims (n - i) pins floor cs ≡ option_to_list o ++ victims (n - (i + 1)) pins floor (without_all (option_to_list o) cs)
victims-split n i pins floor cs None less is = victims-none (n - i) pins floor cs (sym is) ∙ sym (victims-none (n - (i + 1)) pins floor cs (sym is))
victims-split n i pins floor cs (Some at) less is =
    let e : n - i ≡ suc (n - (i + 1)) = omega (arith, less) in
    ap (λ k. victims k pins floor cs) e ∙ victims-next (n - (i + 1)) pins floor cs at (sym is)

without_all-append : (xs ys : List (ℕ × ℕ)) (cs : List Chunk) → without_all (xs ++ ys) cs ≡ without_all ys (without_all xs cs)
without_all-append [] ys cs = refl
without_all-append (at ∷ xs) ys cs = without_all-append xs ys (without at cs)

-- chunk by chunk, behind so many: what is noted so far and what is still to be noted is what is noted of all, and so with what is left
pub record Evicts (i : ℕ) (pins : List (ℕ × ℕ)) (floor : ℕ) (first now : Memory) (old mid : Option Log) : Type 0 where
  pub is : HasJoined (record first { chunks = now.chunks }) now
  pub rest : without_all (victims (length first.chunks - i) pins floor now.chunks) now.chunks ≡ without_all (all_victims pins floor first.chunks) first.chunks
  pub notes : Log
  pub told : AppendsAll old mid (λ l. notes)
  pub more : notes ++ evicted_notes first.instances (victims (length first.chunks - i) pins floor now.chunks) ≡ evicted_notes first.instances (all_victims pins floor first.chunks)

pub evicts-none : (pins : List (ℕ × ℕ)) (floor : ℕ) (first : Memory) (log : Option Log) → Evicts 0 pins floor first first log log
evicts-none pins floor first log =
    let all : length first.chunks - 0 ≡ length first.chunks = omega arith in
    record {
      is = record { rest = refl; faces = refl };
      rest = ap (λ n. without_all (victims n pins floor first.chunks) first.chunks) all;
      notes = [];
      told = appends_none log;
      more = ap (λ n. evicted_notes first.instances (victims n pins floor first.chunks)) all;
    }

pub evicts-next : {old mid new : Option Log} (i : ℕ) (pins : List (ℕ × ℕ)) (floor : ℕ) (first now next : Memory) → Evicts i pins floor first now old mid → i < length first.chunks
    → HasJoined (record now { chunks = without_all (option_to_list (next_victim pins floor now.chunks)) now.chunks }) next
    → AppendsAll mid new (λ l. evicted_notes now.instances (option_to_list (next_victim pins floor now.chunks)))
    → Evicts (i + 1) pins floor first next old new
evicts-next {mid = mid} {new = new} i pins floor first now next before less is told =
    let one : List (ℕ × ℕ) = option_to_list (next_victim pins floor now.chunks) in
    let left : List Chunk = without_all one now.chunks in
    let others : List Chunk → List (ℕ × ℕ) = λ cs. victims (length first.chunks - (i + 1)) pins floor cs in
    let split : victims (length first.chunks - i) pins floor now.chunks ≡ one ++ others left = victims-split (length first.chunks) i pins floor now.chunks (next_victim pins floor now.chunks) less refl in
    let chunks : next.chunks ≡ left = ap (λ (m : Memory). m.chunks) is.rest in
    let note : List (ℕ × ℕ) → Log = λ places. evicted_notes first.instances places in
    let noted : evicted_notes now.instances one ≡ note one = same_notes one now.instances first.instances before.is.faces in
    let added : AppendsAll mid new (λ l. note one) = subst (λ (hs : Log). AppendsAll mid new (λ l. hs)) noted told in
    record {
      is = record {
        rest =
            ap (λ (m : Memory). record m { instances = first.instances }) is.rest
            ∙ ap (λ (m : Memory). record m { chunks = left }) before.is.rest
            ∙ ap (λ (cs : List Chunk). record first { chunks = cs }) (sym chunks);
        faces = is.faces ∙ before.is.faces;
      };
      rest =
          ap (λ (cs : List Chunk). without_all (others cs) cs) chunks ∙ sym (without_all-append one (others left) now.chunks)
          ∙ ap (λ (places : List (ℕ × ℕ)). without_all places now.chunks) (sym split) ∙ before.rest;
      notes = before.notes ++ note one;
      told = appends_both before.notes (note one) (before.notes ++ note one) before.told added refl;
      more =
          ap (λ (cs : List Chunk). (before.notes ++ note one) ++ note (others cs)) chunks
          ∙ append_assoc before.notes (note one) (note (others left))
          ∙ ap (λ (hs : Log). before.notes ++ hs) (sym (filter_map-append (evicted_note first.instances) one (others left)))
          ∙ ap (λ (places : List (ℕ × ℕ)). before.notes ++ note places) (sym split) ∙ before.more;
    }

-- none is left
pub record AllEvicted (pins : List (ℕ × ℕ)) (floor : ℕ) (first now : Memory) (old new : Option Log) : Type 0 where
  pub is : HasJoined (record first { chunks = without_all (all_victims pins floor first.chunks) first.chunks }) now
  pub told : AppendsAll old new (λ l. evicted_notes first.instances (all_victims pins floor first.chunks))

pub evicts-all : {old new : Option Log} (i : ℕ) (pins : List (ℕ × ℕ)) (floor : ℕ) (first now : Memory) → Evicts i pins floor first now old new → victims (length first.chunks - i) pins floor now.chunks ≡ [] → AllEvicted pins floor first now old new
evicts-all {old = old} {new = new} i pins floor first now before none =
    let chunks : now.chunks ≡ without_all (all_victims pins floor first.chunks) first.chunks = ap (λ (places : List (ℕ × ℕ)). without_all places now.chunks) (sym none) ∙ before.rest in
    record {
      is = record { rest = before.is.rest ∙ ap (λ (cs : List Chunk). record first { chunks = cs }) chunks; faces = before.is.faces };
      told = subst (λ (hs : Log). AppendsAll old new (λ l. hs)) (sym (append-nil before.notes) ∙ ap (λ (places : List (ℕ × ℕ)). before.notes ++ evicted_notes first.instances places) (sym none) ∙ before.more) before.told;
    }

pub victims-behind : (n i : ℕ) (pins : List (ℕ × ℕ)) (floor : ℕ) (cs : List Chunk) → n ≤ i → victims (n - i) pins floor cs ≡ []
victims-behind n i pins floor cs less =
    let none : n - i ≡ 0 = omega (arith, less) in
    ap (λ k. victims k pins floor cs) none

none_there : (o : Option (ℕ × ℕ)) → is_some o ≡ false → o ≡ None
none_there None is = refl
none_there (Some at) is = absurd (let h : true ≡ false = is in cc)

pub evicts-end : {old new : Option Log} (i : ℕ) (pins : List (ℕ × ℕ)) (floor : ℕ) (first now : Memory) → Evicts i pins floor first now old new → length first.chunks ≤ i → AllEvicted pins floor first now old new
evicts-end i pins floor first now before less = evicts-all i pins floor first now before (victims-behind (length first.chunks) i pins floor now.chunks less)

-- no more has to go
pub evicts-last : {old mid new : Option Log} (i : ℕ) (pins : List (ℕ × ℕ)) (floor : ℕ) (first now next : Memory) → Evicts i pins floor first now old mid → i < length first.chunks
    → HasJoined (record now { chunks = without_all (option_to_list (next_victim pins floor now.chunks)) now.chunks }) next
    → AppendsAll mid new (λ l. evicted_notes now.instances (option_to_list (next_victim pins floor now.chunks)))
    → is_some (next_victim pins floor now.chunks) ≡ false
    → AllEvicted pins floor first next old new
evicts-last i pins floor first now next before less is told last =
    let none : next_victim pins floor now.chunks ≡ None = none_there (next_victim pins floor now.chunks) last in
    let chunks : next.chunks ≡ now.chunks = ap (λ (m : Memory). m.chunks) is.rest ∙ ap (λ (o : Option (ℕ × ℕ)). without_all (option_to_list o) now.chunks) none in
    evicts-all (i + 1) pins floor first next (evicts-next i pins floor first now next before less is told)
    (victims-none (length first.chunks - (i + 1)) pins floor next.chunks (ap (next_victim pins floor) chunks ∙ none))

-- ---- the instance of a chunk that went

life_of_face : (life : ℕ) (o : Option Instance) → is_life life (option_map face o) ≡ is_life life o
life_of_face life None = refl
life_of_face life (Some i) = refl

there_face : (id : ObjectId) (is : List Instance) → is_there id (faces is) ≡ is_there id is
there_face id is = ap (is_life id.life) (in_slot-face id.slot is) ∙ life_of_face id.life (in_slot id.slot is)

pub still_there : (id : ObjectId) (is js : List Instance) → faces is ≡ faces js → is_there id js ≡ true → is_there id is ≡ true
still_there id is js e there = sym (there_face id is) ∙ ap (λ (ks : List Instance). is_there id ks) e ∙ there_face id js ∙ there

-- ---- the row that leaves for another

same_number : (n : ℕ) → (n == n) ≡ true
same_number n = grind (arith)

-- an id that is that of the instance in its slot is there
pub there_by : (id : ObjectId) (is : List Instance) (o : Option Instance) → Some id ≡ option_map id_of o → in_slot id.slot is ≡ o → is_there id is ≡ true
there_by id is None so at = absurd (let h : Some id ≡ None = so in cc)
there_by id is (Some i) so at =
    let same : id ≡ id_of i = (let h : Some id ≡ Some (id_of i) = so in cc) in
    ap (is_life id.life) at ∙ ap (λ (x : ObjectId). i.life == x.life) same ∙ same_number i.life

unless_same : (b : Bool) (x y : Instance) → elim b as (λ c. Option Instance) [ true ↦ None | false ↦ Some y ] ≡ Some x → y ≡ x
unless_same true x y is = absurd (let h : None ≡ Some x = is in cc)
unless_same false x y is = let h : Some y ≡ Some x = is in cc

of_idle : (i : ℕ) (s : State) (o : Option Instance) (x : Instance) → option_and_then (unless_own i s) o ≡ Some x → o ≡ Some x
of_idle i s None x is = is
of_idle i s (Some y) x is = ap (λ (z : Instance). Some z) (unless_same (is_key_at i y.key s) x y is)

of_way : (b : Bool) (i : ℕ) (s : State) (o : Option Instance) (x : Instance) → elim b as (λ c. Option Instance) [ true ↦ None | false ↦ option_and_then (unless_own i s) o ] ≡ Some x → o ≡ Some x
of_way true i s o x is = absurd (let h : None ≡ Some x = is in cc)
of_way false i s o x is = of_idle i s o x is

-- it is idle
pub way_idle : (d : Decision) (i : ℕ) (s : State) (x : Instance) → row_in_way d i s ≡ Some x → idle_row s ≡ Some x
way_idle d i s x is = of_way (is_for_memory d || not (nat_lt 1024 (count_by is_row s.cache.instances))) i s (idle_row s) x is

left_one : (d : Decision) (i : ℕ) (s : State) (id : ObjectId) (m : Memory) (o : Option Instance) → row_in_way d i s ≡ o → Some id ≡ option_map id_of o → in_slot id.slot s.cache.instances ≡ o
    → (is_there id s.cache.instances ≡ true → followers_of (in_slot id.slot s.cache.instances) ≡ 0 → m ≡ record s.cache { instances = without_slot id.slot s.cache.instances; chunks = without_owner id.slot s.cache.chunks })
    → record s { cache = m } ≡ without_row o s
left_one d i s id m None found is slot left = absurd (let h : Some id ≡ None = is in cc)
left_one d i s id m (Some x) found is slot left =
    let same : id ≡ id_of x = (let h : Some id ≡ Some (id_of x) = is in cc) in
    let none : followers_of (in_slot id.slot s.cache.instances) ≡ 0 = ap followers_of slot ∙ idle_unfollowed (busy_rows s.flow) s.cache.instances x (way_idle d i s x found) in
    let memory : m ≡ without_instance x s.cache =
    left (there_by id s.cache.instances (Some x) is slot) none ∙ ap (λ (y : ObjectId). record s.cache { instances = without_slot y.slot s.cache.instances; chunks = without_owner y.slot s.cache.chunks }) same in
    ap (λ (y : Memory). record s { cache = y }) memory

-- the row that the cache tells of leaves
pub way_left : (d : Decision) (i : ℕ) (s : State) (id : ObjectId) (m : Memory) → Some id ≡ option_map id_of (row_in_way d i s) → in_slot id.slot s.cache.instances ≡ row_in_way d i s
    → (is_there id s.cache.instances ≡ true → followers_of (in_slot id.slot s.cache.instances) ≡ 0 → m ≡ record s.cache { instances = without_slot id.slot s.cache.instances; chunks = without_owner id.slot s.cache.chunks })
    → record s { cache = m } ≡ given_way d i s
way_left d i s id m is slot left = left_one d i s id m (row_in_way d i s) refl is slot left
