-- One chunk after another goes, as the law has it.
use Rattle.std.proofs.Common.{◌≡◌, ◌≤◌, refl, sym, subst, ap, ap₂, ◌∙◌, ℕ, zero, suc, Bool, true, false, not, ◌==◌, ◌&&◌, cond, List, [], ◌∷◌, length, Option, Some, None, arith}
use Rattle.std.specs.Prelude.{bytes_eq, nat_le, option_map}
use Rattle.std.specs.List.{cons_option, filter, find}
use Rattle.std.proofs.lemmas.Bool.Decides.{nat_tests}
use Rattle.std.proofs.lemmas.Slice.Eq.{bytes_eq-Decides}
use Rattle.pp_cache.specs.Memory.{Memory, all_used, used_of as as_used}
use Rattle.pp_cache_law.proofs.Alike.{instances_of, victims_of}
use Rattle.pp_cache_law.proofs.Numbers.{same_test, some_is}
use Rattle.pp_cache_law.proofs.Touching.{evictions_of}
use Rattle.pp_cache_law.specs.Pairs.{AreBoth}
use Rattle.pp_cache_law.specs.Reads.{ArePinned, IsFound, IsSamePlace}
use Rattle.pp_cache_law.specs.Tables.{ShowsCache, ShowsChunk}
use Rattle.pp_evict.specs.Victims.{victim_in}
use Rattle.pp_holes.specs.Places.{Chunk, is_elsewhere, without}
use Rattle.pp_law.specs.After.{evicted}
use Rattle.pp_law.specs.Chunks.{drop_chunk, floor, victim}
use Rattle.pp_law.specs.Lists.{is_some_with}
use Rattle.pp_law.specs.Permits.{is_chunk_of, may_evict}
use Rattle.pp_law.specs.Phases.{due_victim}
use Rattle.pp_law.specs.State.{State, Instance as Known, Chunk as Front, Evicting}
use Rattle.pp_law.specs.Table.{instance, pins as pins_by}
use Rattle.pp_objects.specs.Instances.{Instance, in_slot, is_life, is_there}
use Rattle.pp_objects.specs.declared.id.ObjectId.{ObjectId}
use Rattle.pp_obeys.specs.Moves.{Moves, MovesAll}
use Rattle.pp_obeys.proofs.Calls.{moves_to}
use Rattle.pp_obeys.proofs.Silent.{both_hold}
use Rattle.pp_obeys.proofs.TurnHappenings.{goes_evicted}
use Rattle.pp_pool.specs.Chunks.{Used, is_pinned, oldest_in, place_of}
use Rattle.pp_steps.specs.Evicting.{evicted_notes, next_victim, victims, without_all}
use Rattle.pp_text.specs.Bytes.{is_empty}
use Rattle.pp_valid.specs.declared.version.Version.{Version}
use Rattle.pp_world.specs.Log.{Log}
use Rattle.pp_world.specs.declared.happening.Happening.TheVariants.{Noted}
use Rattle.pp_world.specs.declared.note.Remark.TheVariants.{Evicted}
use Rattle.pp_leaves_law.specs.Leaves.{evicted_on}

-- ---- the chunk that goes is there, so that there are fewer behind it

kept_or_not : (b : Bool) (n : ℕ) (c : Chunk) (cs : List Chunk) → length cs ≤ n → length (cond b (c ∷ cs) cs) ≤ suc n
kept_or_not true n c cs less = omega (arith, less)
kept_or_not false n c cs less = omega (arith, less)

no_more : (p : Chunk → Bool) (cs : List Chunk) → length (filter p cs) ≤ length cs
no_more p [] = omega arith
no_more p (c ∷ cs) = kept_or_not (p c) (length cs) c (filter p cs) (no_more p cs)

one_less : (b : Bool) (n : ℕ) (c : Chunk) (cs : List Chunk) → suc (length cs) ≤ n → suc (length (cond b (c ∷ cs) cs)) ≤ suc n
one_less true n c cs less = omega (arith, less)
one_less false n c cs less = omega (arith, less)

at_itself : (c : Chunk) (at : ℕ × ℕ) → Some (c.owner, c.index) ≡ Some at → is_elsewhere at c ≡ false
at_itself c at is =
    let same : (c.owner, c.index) ≡ at = cc in
    ap not (ap₂ (λ (a b : Bool). a && b) (same_test c.owner at.0 (ap (λ (q : ℕ × ℕ). q.0) same)) (same_test c.index at.1 (ap (λ (q : ℕ × ℕ). q.1) same)))

fewer : (p : Used → Bool) (cs : List Chunk) (at : ℕ × ℕ) → option_map place_of (find p (all_used cs)) ≡ Some at → suc (length (without at cs)) ≤ length cs
fewer p [] at is = absurd (let h : None ≡ Some at = is in cc)
fewer p (c ∷ cs) at is = by (p (as_used c)) is (λ there. fewer p cs at there)
  where
    by : (b : Bool) → option_map place_of (cond b (Some (as_used c)) (find p (all_used cs))) ≡ Some at → (option_map place_of (find p (all_used cs)) ≡ Some at → suc (length (without at cs)) ≤ length cs)
        → suc (length (cond (is_elsewhere at c) (c ∷ without at cs) (without at cs))) ≤ suc (length cs)
    by true there rest =
        subst (λ (b : Bool). suc (length (cond b (c ∷ without at cs) (without at cs))) ≤ suc (length cs)) (sym (at_itself c at there)) (omega (arith, no_more (is_elsewhere at) cs))
    by false there rest = one_less (is_elsewhere at c) (length cs) c (without at cs) (rest there)

over_floor : (b : Bool) (o : Option (ℕ × ℕ)) (at : ℕ × ℕ) → cond b None o ≡ Some at → o ≡ Some at
over_floor true o at is = absurd (let h : None ≡ Some at = is in cc)
over_floor false o at is = is

fewer_behind : (places : List (ℕ × ℕ)) (low : ℕ) (cs : List Chunk) (at : ℕ × ℕ) → next_victim places low cs ≡ Some at → suc (length (without at cs)) ≤ length cs
fewer_behind places low cs at is =
    fewer (λ u. not (is_pinned places u)) cs at (over_floor (nat_le (length (all_used cs)) low) (option_map place_of (oldest_in places (all_used cs))) at is)

none_of_none : (places : List (ℕ × ℕ)) (low : ℕ) → next_victim places low [] ≡ None
none_of_none places low =
    let few : nat_le 0 low ≡ true = grind (arith, nat_tests) in
    ap (λ (b : Bool). cond b None (option_map place_of (oldest_in places []))) few

-- down to the floor
pub no_victim : (k : ℕ) (places : List (ℕ × ℕ)) (low : ℕ) (cs : List Chunk) → length cs ≤ k → next_victim places low (without_all (victims k places low cs) cs) ≡ None
no_victim zero places low [] few = none_of_none places low
no_victim zero places low (c ∷ cs) few = absurd (omega (arith, few))
no_victim (suc k) places low cs few = by (next_victim places low cs) refl (λ at is. no_victim k places low (without at cs) (omega (arith, few, fewer_behind places low cs at is)))
  where
    by : (o : Option (ℕ × ℕ)) → next_victim places low cs ≡ o → ((at : ℕ × ℕ) → next_victim places low cs ≡ Some at → next_victim places low (without_all (victims k places low (without at cs)) (without at cs)) ≡ None)
        → next_victim places low (without_all (elim o as (λ t. List (ℕ × ℕ)) [ None ↦ [] | Some at ↦ at ∷ victims k places low (without at cs) ]) cs) ≡ None
    by None is rest = is
    by (Some at) is rest = rest at is

pub same_text : (xs ys : List ℕ) → xs ≡ ys → bytes_eq xs ys ≡ true
same_text xs ys is = (bytes_eq-Decides xs ys).1 is

-- ---- where they lead

evicted_one : (s : State) (at : ℕ × ℕ) → due_victim s ≡ Some at → evicted s ≡ drop_chunk at.0 at.1 s
unfolding evicted
evicted_one s at due = ap (λ (o : Option (ℕ × ℕ)). elim o as (λ t. State) [ None ↦ s | Some place ↦ drop_chunk place.0 place.1 s ]) due

-- nowhere, where none has to go
pub evicted_none : (k : ℕ) (s : State) → due_victim s ≡ None → evicted_on k s ≡ s
unfolding evicted
evicted_none zero s none = refl
evicted_none (suc k) s none = ap (evicted_on k) (ap (λ (o : Option (ℕ × ℕ)). elim o as (λ t. State) [ None ↦ s | Some place ↦ drop_chunk place.0 place.1 s ]) none) ∙ evicted_none k s none

-- ---- what stands while they go

-- these of the chunks are left, and all else is as it was
pub record Stands (number : ℕ → ℕ) (m : Memory) (places : List (ℕ × ℕ)) (low : ℕ) (R : State → Type 0) (cs : List Chunk) (s : State) : Type 0 where
  pub none : s.has_made_room ≡ None
  pub at : s.phase ≡ Evicting
  pub nobody : is_empty s.forgotten ≡ true
  pub evicting : s.is_evicting ≡ true
  pub low_is : floor s ≡ low
  pub pinned : ArePinned number m places (pins_by s)
  pub cache : ShowsCache number (record m { chunks = cs }) s
  pub rest : R s

module _ (number : ℕ → ℕ) (m : Memory) (places : List (ℕ × ℕ)) (low : ℕ) (R : State → Type 0) (keeps : (id i : ℕ) (s : State) → R s → R (drop_chunk id i s)) where
  abbrev Going : List Chunk → State → Type 0
  Going cs s = Stands number m places low R cs s

  chunk_again : (cs : List Chunk) (c : Chunk) (d : Front) → ShowsChunk number (record m { chunks = cs }) c d → ShowsChunk number m c d
  chunk_again cs c d one = record { owner = one.owner; index = one.index; bytes = one.bytes; some = one.some }

  pinned_still : (cs : List Chunk) (s : State) → Going cs s → ArePinned number (record m { chunks = cs }) places (pins_by s)
  pinned_still cs s going c d one = going.pinned c d (chunk_again cs c d one)

  -- the law's victim is that of the program
  both : (cs : List Chunk) (s : State) → Going cs s → AreBoth (IsSamePlace number (record m { chunks = cs })) (next_victim places low cs) (due_victim s)
  both cs s going =
      subst (λ (b : Bool). AreBoth (IsSamePlace number (record m { chunks = cs })) (next_victim places low cs) (elim b as (λ t. Option (ℕ × ℕ)) [ true ↦ victim (pins_by s) s | false ↦ None ])) (sym going.evicting)
      (subst (λ (n : ℕ). AreBoth (IsSamePlace number (record m { chunks = cs })) (victim_in places n (all_used cs)) (victim (pins_by s) s)) going.low_is
      (victims_of number (record m { chunks = cs }) s going.cache.table places (pins_by s) (pinned_still cs s going)))

  -- ---- one goes

  dropped : (cs : List Chunk) (s : State) (at other : ℕ × ℕ) → Going cs s → IsSamePlace number (record m { chunks = cs }) at other → Going (without at cs) (drop_chunk other.0 other.1 s)
  unfolding drop_chunk
  dropped cs s at other going same = record {
    none = going.none;
    at = going.at;
    nobody = going.nobody;
    evicting = going.evicting;
    low_is = going.low_is;
    pinned = going.pinned;
    cache = evictions_of number (record m { chunks = cs }) s going.cache m.instances at other refl same;
    rest = keeps other.0 other.1 s going.rest;
  }

  record IsGoing (cs : List Chunk) (s : State) (at other : ℕ × ℕ) : Type 0 where
    going : Going cs s
    due : due_victim s ≡ Some other
    same : IsSamePlace number (record m { chunks = cs }) at other

  -- its note is permitted
  may_go : (cs : List Chunk) (s : State) (at other : ℕ × ℕ) (i : Instance) → IsGoing cs s at other → in_slot at.0 m.instances ≡ Some i → may_evict s i.key i.version.tag i.version.length at.1 ≡ true
  may_go cs s at other i it here =
      let id : ObjectId = record { slot = at.0; life = i.life } in
      let there : is_there id m.instances ≡ true = ap (is_life i.life) here ∙ same_test i.life i.life refl in
      let found : IsFound number (record m { chunks = cs }) s id = instances_of number (record m { chunks = cs }) s it.going.cache.table id there in
      let seen : found.seen ≡ i = some_is found.seen i (sym found.here ∙ here) in
      let number_is : number i.life ≡ other.0 = some_is (number i.life) other.0 (sym (ap (option_map (λ (j : Instance). number j.life)) here) ∙ it.same.0) in
      let known : instance s other.0 ≡ Some found.known = ap (instance s) (sym number_is) ∙ found.there in
      let key : bytes_eq found.known.key i.key ≡ true = same_text found.known.key i.key (sym found.shows.key ∙ ap (λ (j : Instance). j.key) seen) in
      let version : found.known.version ≡ i.version = sym found.shows.version ∙ ap (λ (j : Instance). j.version) seen in
      let tag : bytes_eq found.known.version.tag i.version.tag ≡ true = same_text found.known.version.tag i.version.tag (ap (λ (v : Version). v.tag) version) in
      let total : (found.known.version.length == i.version.length) ≡ true = same_test found.known.version.length i.version.length (ap (λ (v : Version). v.length) version) in
      let index : (other.1 == at.1) ≡ true = same_test other.1 at.1 (sym it.same.1) in
      let test : Option Known → Bool = is_some_with (λ x. bytes_eq x.key i.key && bytes_eq x.version.tag i.version.tag && (x.version.length == i.version.length)) in
      let its : test (instance s other.0) ≡ true = ap test known ∙ both_hold (bytes_eq found.known.key i.key && bytes_eq found.known.version.tag i.version.tag) _ (both_hold (bytes_eq found.known.key i.key) _ key tag) total in
      both_hold (is_empty s.forgotten) _ it.going.nobody
      (ap (λ (o : Option (ℕ × ℕ)). is_some_with (is_chunk_of s i.key i.version.tag i.version.length at.1) o) it.due ∙ both_hold (other.1 == at.1) _ index its)

  goes : (cs : List Chunk) (s : State) (at other : ℕ × ℕ) (i : Instance) (Q : State → Type 0) → IsGoing cs s at other → in_slot at.0 m.instances ≡ Some i → Q (drop_chunk other.0 other.1 s)
      → Moves Q (Noted (Evicted i.key i.version.tag i.version.length at.1)) s
  goes cs s at other i Q it here holds =
      let is : evicted s ≡ drop_chunk other.0 other.1 s = evicted_one s other it.due in
      moves_to refl (goes_evicted s i.key i.version.tag i.version.length at.1 it.going.none it.going.at (may_go cs s at other i it here)) (subst Q (sym is) holds)

  -- ---- all of them

  abbrev going_of : ℕ → List Chunk → Option (ℕ × ℕ) → List (ℕ × ℕ)
  going_of k cs o = elim o as (λ t. List (ℕ × ℕ)) [ None ↦ [] | Some at ↦ at ∷ victims k places low (without at cs) ]

  pub all_go : (Q : State → Type 0) (k : ℕ) (cs : List Chunk) (s : State) → Going cs s → (Going (without_all (victims k places low cs) cs) (evicted_on k s) → Q (evicted_on k s)) → MovesAll Q (evicted_notes m.instances (victims k places low cs)) s
  all_go Q zero cs s going end = end going
  all_go Q (suc k) cs s going end = by (next_victim places low cs) (due_victim s) refl (both cs s going) end (λ at other. all_go Q k (without at cs) (drop_chunk other.0 other.1 s))
    where
      noted : (at other : ℕ × ℕ) (o : Option Instance) → in_slot at.0 m.instances ≡ o → IsGoing cs s at other → (hs : Log) → MovesAll Q hs (drop_chunk other.0 other.1 s)
          → MovesAll Q (cons_option (option_map (λ i. Noted (Evicted i.key i.version.tag i.version.length at.1)) o) hs) s
      noted at other None here it hs rest = absurd (let h : None ≡ Some other.0 = sym (ap (option_map (λ (j : Instance). number j.life)) here) ∙ it.same.0 in cc)
      noted at other (Some i) here it hs rest = goes cs s at other i (MovesAll Q hs) it here rest

      by : (o v : Option (ℕ × ℕ)) → due_victim s ≡ v → AreBoth (IsSamePlace number (record m { chunks = cs })) o v → (Going (without_all (going_of k cs o) cs) (evicted_on k (evicted s)) → Q (evicted_on k (evicted s)))
          → ((at other : ℕ × ℕ) → Going (without at cs) (drop_chunk other.0 other.1 s)
          → (Going (without_all (victims k places low (without at cs)) (without at cs)) (evicted_on k (drop_chunk other.0 other.1 s)) → Q (evicted_on k (drop_chunk other.0 other.1 s)))
          → MovesAll Q (evicted_notes m.instances (victims k places low (without at cs))) (drop_chunk other.0 other.1 s))
          → MovesAll Q (evicted_notes m.instances (going_of k cs o)) s
      by None None due same end rest =
          let is : evicted_on k (evicted s) ≡ s = evicted_none (suc k) s due in
          subst Q is (end (subst (λ (t : State). Going cs t) (sym is) going))
      by None (Some other) due same end rest = absurd same
      by (Some at) None due same end rest = absurd same
      by (Some at) (Some other) due same end rest =
          let is : evicted s ≡ drop_chunk other.0 other.1 s = evicted_one s other due in
          noted at other (in_slot at.0 m.instances) refl (record { going = going; due = due; same = same }) (evicted_notes m.instances (victims k places low (without at cs)))
          (rest at other (dropped cs s at other going same)
          (λ there. subst (λ (t : State). Q (evicted_on k t)) is (end (subst (λ (t : State). Going (without_all (victims k places low (without at cs)) (without at cs)) (evicted_on k t)) (sym is) there))))

  -- none has to go where the program finds none
  pub none_due : (cs : List Chunk) (s : State) → Going cs s → next_victim places low cs ≡ None → due_victim s ≡ None
  none_due cs s going none = by (due_victim s) refl (subst (λ (o : Option (ℕ × ℕ)). AreBoth (IsSamePlace number (record m { chunks = cs })) o (due_victim s)) none (both cs s going))
    where
      by : (o : Option (ℕ × ℕ)) → due_victim s ≡ o → AreBoth (IsSamePlace number (record m { chunks = cs })) None o → due_victim s ≡ None
      by None is same = is
      by (Some other) is same = absurd same
