-- A run of a body is full, and its bytes are at hand, in the cache and in the law alike.
use Rattle.std.proofs.Common.{◌≡◌, refl, sym, subst, ap, ap₂, ◌∙◌, ◌<◌, ◌≤◌, ℕ, ◌+◌, ◌-◌, ◌*◌, ◌/◌, ◌==◌, Bool, true, false, ◌&&◌, ◌||◌, cond, List, length, take, Option, Some, None, arith}
use Rattle.std.specs.Prelude.{min, nat_le, nat_lt}
use Rattle.pp_cache.specs.Bounds.{IsBounded}
use Rattle.pp_cache.specs.Holes.{hole_in, hole_of, missing_from}
use Rattle.pp_cache.specs.Memory.{is_in_memory}
use Rattle.pp_cache_law.proofs.Alike.{bytes_of, instances_of}
use Rattle.pp_cache_law.proofs.Numbers.{some_is}
use Rattle.pp_cache_law.specs.Reads.{IsFound}
use Rattle.pp_cache_law.specs.Tables.{ShowsTable}
use Rattle.pp_client.specs.Replies.{run_at_hand}
use Rattle.pp_holes.specs.Places.{Chunk, bytes_at}
use Rattle.pp_keeping.specs.Runs.{full}
use Rattle.pp_law.specs.Chunks.{chunk_bytes}
use Rattle.pp_law.specs.Lists.{Bytes}
use Rattle.pp_law.specs.State.{State, Entry, Instance as Known}
use Rattle.pp_law.specs.Store.{end_of_run, is_full_run, run_bytes, run_from, run_len}
use Rattle.pp_law.specs.Table.{is_instance}
use Rattle.pp_laws.proofs.Lists.{in_find}
use Rattle.pp_laws.proofs.Tests.{same_number}
use Rattle.pp_laws_crash.proofs.RunBytes.{run_length, run_most, run_whole}
use Rattle.pp_objects.specs.Instances.{total_at, total_of}
use Rattle.pp_objects.specs.declared.id.ObjectId.{ObjectId}
use Rattle.pp_obeys.proofs.Silent.{both_hold}
use Rattle.pp_state.specs.declared.state.State.{State as Turn}
use Rattle.pp_keeps_law.proofs.Held.{IsAtHand, at_hand, full_of, held_of, less_true, off, run_is, up_to, up_to_true}
use Rattle.pp_keeps_law.specs.Runs.{FullRunsAreTheLaws, IsKeptInPart, LaidOnesAreTheLaws}

module _ (number : ℕ → ℕ) (p : Turn) (s : State) (id : ObjectId) (x : Known) (e : Entry) (table : ShowsTable number p.cache s) (bounded : IsBounded p.cache) (run : p.run ≡ run_len s) (part : IsKeptInPart number p.cache s id x e) where
  abbrev n : ℕ
  n = x.version.length

  abbrev cs : List Chunk
  cs = p.cache.chunks

  abbrev j : ℕ
  j = e.extent / 4096

  abbrev count : ℕ
  count = run_from s x e

  one : IsFound number p.cache s id
  one = instances_of number p.cache s table id part.there

  known_is : one.known ≡ x
  known_is = some_is one.known x (sym one.there ∙ part.known)

  total_is : total_at id.slot p.cache.instances ≡ n
  total_is = ap total_of one.here ∙ ap (λ (v : _). v.length) one.shows.version ∙ ap (λ (y : Known). y.version.length) known_is

  number_is : number id.life ≡ x.id
  number_is = sym (same_number x.id (number id.life) (in_find (is_instance (number id.life)) x s.instances part.known).1)

  bytes_same : (i : ℕ) → bytes_at (id.slot, i) cs ≡ chunk_bytes x.id i s.chunks
  bytes_same i = bytes_of number p.cache s table id i part.there ∙ ap (λ (k : ℕ). chunk_bytes k i s.chunks) number_is

  none_behind : (o : ℕ) → n ≤ o → is_in_memory id.slot o cs ≡ false
  none_behind o above = bounded.ends id.slot o (subst (λ (k : ℕ). k ≤ o) (sym total_is) above)

  from_is : 4096 * j ≡ e.extent
  from_is = let whole = part.whole in let inside = part.inside in omega (arith, whole, inside)

  inside : 4096 * j < n
  inside = subst (λ (k : ℕ). k < n) (sym from_is) part.inside

  some_run : 1 ≤ run_len s
  some_run = omega arith

  hole_is : (hole_of id e.extent p.cache).0 ≡ missing_from id.slot n e.extent cs
  hole_is =
      ap (λ (b : Bool). (cond b (hole_in id.slot (total_at id.slot p.cache.instances) e.extent cs) (e.extent, e.extent)).0) part.there
      ∙ ap (λ (k : ℕ). missing_from id.slot k e.extent cs) total_is

  run_same : min (4096 * p.run) (n - e.extent) ≡ min (4096 * run_len s) (n - 4096 * j)
  run_same = ap₂ (λ (a b : ℕ). min (4096 * a) (n - b)) run (sym from_is)

  held_same : (hole_of id e.extent p.cache).0 - e.extent ≡ missing_from id.slot n (4096 * j) cs - 4096 * j
  held_same = ap (λ (k : ℕ). k - e.extent) hole_is ∙ ap (λ (a : ℕ). missing_from id.slot n a cs - a) (sym from_is)

  full_as : (nat_lt 0 count && ((count == run_len s) || (min n (4096 * j + count * 4096) == n))) ≡ is_full_run s x e count
  full_as = ap (λ (k : ℕ). nat_lt 0 count && ((count == run_len s) || (min n (k + count * 4096) == n))) from_is

  -- it is full in the one where it is in the other
  abbrev mine : ℕ
  mine = min (4096 * p.run) (n - e.extent)

  abbrev held : ℕ
  held = (hole_of id e.extent p.cache).0 - e.extent

  long_enough : is_full_run s x e count ≡ true → mine ≤ held
  long_enough is =
      let far = held_of n id.slot x.id cs s.chunks bytes_same (λ i. bounded.fronts id.slot i) none_behind (run_len s) j some_run inside (full_as ∙ is) in
      omega (arith, far, run_same, held_same)

  is_full_so : mine ≤ held → is_full_run s x e count ≡ true
  is_full_so long =
      sym full_as ∙ full_of n id.slot x.id cs s.chunks bytes_same (λ i. bounded.fronts id.slot i) none_behind (run_len s) j some_run inside (omega (arith, long, run_same, held_same))

  size_is : is_full_run s x e count ≡ true → mine ≡ end_of_run x e count - e.extent
  size_is is =
      run_same ∙ run_is n id.slot x.id cs s.chunks bytes_same (λ i. bounded.fronts id.slot i) none_behind (run_len s) j some_run inside (full_as ∙ is)
      ∙ ap (λ (k : ℕ). min n (k + count * 4096) - k) from_is

  some_mine : 0 < mine
  some_mine = let inside = part.inside in omega (arith, inside, run, some_run)

  none_by : (b : Bool) → nat_le mine held ≡ b → is_full_run s x e count ≡ false → full mine held ≡ None
  none_by true is isnt = absurd (off (sym (is_full_so (up_to mine held is)) ∙ isnt))
  none_by false is isnt = ap (λ (b : Bool). cond (nat_lt 0 mine && b) (Some mine) None) is ∙ and_none (nat_lt 0 mine)
    where
      and_none : (b : Bool) → cond (b && false) (Some mine) None ≡ None
      and_none true = refl
      and_none false = refl

  full_by : (b : Bool) → is_full_run s x e count ≡ b → full mine held ≡ (elim b as (λ c. Option ℕ) [ true ↦ Some (end_of_run x e count - e.extent) | false ↦ None ])
  full_by true is =
      ap (λ (b : Bool). cond b (Some mine) None) (both_hold (nat_lt 0 mine) (nat_le mine held) (less_true 0 mine some_mine) (up_to_true mine held (long_enough is)))
      ∙ ap (λ (k : ℕ). Some k) (size_is is)
  full_by false is = none_by (nat_le mine held) refl is

  -- and its bytes are at hand
  length_is : length (run_bytes count x.id s.chunks j) ≡ end_of_run x e count - e.extent
  length_is =
      let size = run_length n x.id s.chunks j count (run_whole (run_len s) n x.id s.chunks j) in
      omega (arith, size, from_is)

  laid_out : (front room : ℕ) → run_len s ≤ 64 → front + (end_of_run x e count - e.extent) ≤ room
      → cond (nat_le (front + (end_of_run x e count - e.extent)) room && nat_le (end_of_run x e count - e.extent) (length (run_at_hand 64 id.slot e.extent cs))) (Some (take (end_of_run x e count - e.extent) (run_at_hand 64 id.slot e.extent cs))) None
      ≡ Some (run_bytes count x.id s.chunks j)
  laid_out front room few fits =
      let most : count ≤ run_len s = run_most (run_len s) n x.id s.chunks j in
      let hand : IsAtHand n id.slot x.id cs s.chunks bytes_same (λ i. bounded.fronts id.slot i) none_behind count j =
      at_hand n id.slot x.id cs s.chunks bytes_same (λ i. bounded.fronts id.slot i) none_behind count j (omega (arith, most, few)) (run_whole (run_len s) n x.id s.chunks j) in
      let same_hand : run_at_hand 64 id.slot (4096 * j) cs ≡ run_at_hand 64 id.slot e.extent cs = ap (λ (a : ℕ). run_at_hand 64 id.slot a cs) from_is in
      let long : end_of_run x e count - e.extent ≤ length (run_at_hand 64 id.slot e.extent cs) = subst (λ (bytes : Bytes). end_of_run x e count - e.extent ≤ length bytes) same_hand (subst (λ (k : ℕ). k ≤ length (run_at_hand 64 id.slot (4096 * j) cs)) length_is hand.long) in
      ap (λ (b : Bool). cond b (Some (take (end_of_run x e count - e.extent) (run_at_hand 64 id.slot e.extent cs))) None)
      (both_hold (nat_le (front + (end_of_run x e count - e.extent)) room) _ (up_to_true (front + (end_of_run x e count - e.extent)) room fits) (up_to_true (end_of_run x e count - e.extent) (length (run_at_hand 64 id.slot e.extent cs)) long))
      ∙ ap (λ (bytes : Bytes). Some (take (end_of_run x e count - e.extent) bytes)) (sym same_hand)
      ∙ ap (λ (k : ℕ). Some (take k (run_at_hand 64 id.slot (4096 * j) cs))) (sym length_is)
      ∙ ap (λ (bytes : Bytes). Some bytes) hand.bytes

pub full_runs : FullRunsAreTheLaws
full_runs number p s id x e table bounded run part = full_by number p s id x e table bounded run part (is_full_run s x e (run_from s x e)) refl

pub laid_ones : LaidOnesAreTheLaws
laid_ones number p s id x e table bounded run part front room few full fits = laid_out number p s id x e table bounded run part front room few fits
