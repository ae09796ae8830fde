-- What a follower asks for.
use Rattle.std.proofs.Common.{◌≡◌, ◌<◌, ◌≤◌, ◌*◌, ◌/◌, ◌⊎◌, inl, inr, refl, sym, subst, ap, ap₂, ◌∙◌, ℕ, Bool, true, false, not, ◌||◌, cond, if◌then◌else◌, min, length, List, Option, Some, None, arith}
use Rattle.std.specs.Prelude.{nat_le, nat_lt}
use Rattle.std.proofs.lemmas.Bool.{cases_lt}
use Rattle.std.proofs.lemmas.Bool.Decides.{nat_tests}
use Rattle.pp_cache.specs.Bounds.{IsBounded}
use Rattle.pp_cache.specs.Holes.{hole_in, hole_of}
use Rattle.pp_cache.specs.Memory.{extent_of as bytes_kept, is_in_memory, stands}
use Rattle.pp_cache_law.proofs.Alike.{bytes_of, extents_of, held_of, instances_of, retired_of}
use Rattle.pp_cache_law.proofs.Gaps.{holes_of}
use Rattle.pp_cache_law.proofs.Numbers.{some_is, true_false}
use Rattle.pp_cache_law.proofs.Reaches.{Fronts, below_extent}
use Rattle.pp_cache_law.specs.Joins.{EndsWhole}
use Rattle.pp_cache_law.specs.Reads.{IsFound}
use Rattle.pp_cache_law.specs.Tables.{ShowsTable}
use Rattle.pp_flow_law.specs.Tables.{Leaving}
use Rattle.pp_law.specs.Chunks.{filled}
use Rattle.pp_law.specs.Followers.{hole_of as hole_by, need_of as need_by}
use Rattle.pp_law.specs.Lists.{Bytes}
use Rattle.pp_law.specs.State.{State, Instance as Known}
use Rattle.pp_law.specs.Table.{Next, extent_of, held_to, is_brought as is_being_brought, is_held}
use Rattle.pp_objects.specs.Instances.{Instance, total_at, total_of}
use Rattle.pp_peers.specs.declared.peers.Peer.{Peer}
use Rattle.pp_plan.specs.Need.{need}
use Rattle.pp_seats.specs.declared.seat.Next.{Next as SeatNext}
use Rattle.pp_seats_law.proofs.Nexts.{found_number}
use Rattle.pp_state.specs.Bringing.{is_brought, is_held as is_held_in, need_of}
use Rattle.pp_state.specs.Ends.{Parts}
use Rattle.pp_states_law.specs.Steps.{ShowsSteps}
use Rattle.pp_turns_law.proofs.Comes.{brought_of}
use Rattle.pp_turns_law.proofs.Holes.{held_past, is_gap, is_hole}
use Rattle.pp_turns_law.specs.Needs.{IsWithin, NeedsAreTheLaws}
use Rattle.pp_turns_law.specs.Nexts.{IsNext}

isnt_le : (a b : ℕ) → a < b → nat_le b a ≡ false
isnt_le a b less = grind (arith, nat_tests)

-- by whether it was retired, is there, and comes
needs_by : (gone over held comes : Bool) (one other : Option (ℕ × ℕ)) → over ≡ false → (gone ≡ false → comes ≡ false → held ≡ false → one ≡ other) → (held ≡ true → other ≡ None)
    → cond (gone || over || (held || comes)) None one ≡ (elim (gone || comes) as (λ b. Option (ℕ × ℕ)) [ true ↦ None | false ↦ other ])
needs_by true over held comes one other isnt same none = refl
needs_by false true held comes one other isnt same none = absurd (true_false isnt)
needs_by false false true true one other isnt same none = refl
needs_by false false true false one other isnt same none = sym (none refl)
needs_by false false false true one other isnt same none = refl
needs_by false false false false one other isnt same none = same refl refl refl

-- where the next byte is before the hole, nothing is needed
none_needed : (at to : ℕ) (hole : ℕ × ℕ) → nat_lt at hole.0 ≡ true → need at to hole ≡ None
none_needed at to hole past = ap (λ (b : Bool). if b then None else Some (hole.0, min hole.1 to)) past

module _ (number : ℕ → ℕ) (name : Bytes) (l : Leaving) (peers : List Peer) (p : Parts) (s : State) (shows : ShowsSteps number name l peers p s) (x : SeatNext) (n : Next) (next : IsNext number p.cache s x n) (bounded : IsBounded p.cache) (within : IsWithin s n) where
  table : ShowsTable number p.cache s
  table = shows.shows.table.table

  found : IsFound number p.cache s x.source
  found = instances_of number p.cache s table x.source next.there

  same_known : found.known ≡ n.source
  same_known = some_is found.known n.source (sym found.there ∙ next.known)

  total : total_at x.source.slot p.cache.instances ≡ n.source.version.length
  total = ap (λ (o : Option Instance). total_of o) found.here ∙ ap (λ v. v.length) found.shows.version ∙ ap (λ (y : Known). y.version.length) same_known

  -- nothing is in memory behind the end of the body
  none_behind : (o : ℕ) → n.source.version.length ≤ o → is_in_memory x.source.slot o p.cache.chunks ≡ false
  none_behind o behind = bounded.ends x.source.slot o (subst (λ (k : ℕ). k ≤ o) (sym total) behind)

  its_number : number x.source.life ≡ n.source.id
  its_number = sym (found_number s (number x.source.life) n.source next.known)

  short : n.at < n.source.version.length
  short = omega (arith, within.some, within.body)

  extent : bytes_kept x.source p.cache ≡ extent_of s n.source
  extent = extents_of number p.cache s table x.source n.source next.there next.known

  few : Fronts n.source.id s.chunks
  few index =
      subst (λ (k : ℕ). k ≤ 4096)
      (ap (λ (bs : Bytes). length bs) (bytes_of number p.cache s table x.source index next.there) ∙ ap (λ (k : ℕ). filled k index s.chunks) its_number) (bounded.fronts x.source.slot index)

  -- ---- one that is not held

  -- the hole of its chunk
  the_hole : hole_of x.source (n.at / 4096 * 4096) p.cache ≡ hole_in x.source.slot n.source.version.length (n.at / 4096 * 4096) p.cache.chunks
  the_hole =
      ap (λ (b : Bool). cond b (hole_in x.source.slot (total_at x.source.slot p.cache.instances) (n.at / 4096 * 4096) p.cache.chunks) (n.at / 4096 * 4096, n.at / 4096 * 4096)) next.there
      ∙ ap (λ (k : ℕ). hole_in x.source.slot k (n.at / 4096 * 4096) p.cache.chunks) total

  above : is_held s n.source n.at ≡ false → bytes_kept x.source p.cache ≤ n.at / 4096 * 4096
  above isnt = by within.whole (cases_lt n.at (extent_of s n.source))
    where
      by : EndsWhole (extent_of s n.source) n.source.version.length → (n.at < extent_of s n.source) ⊎ (extent_of s n.source ≤ n.at) → bytes_kept x.source p.cache ≤ n.at / 4096 * 4096
      by whole (inl below) = absurd (true_false (sym (below_extent n.source.id (extent_of s n.source) s.chunks n.at below) ∙ isnt))
      by (inl chunk) (inr more) = omega (arith, chunk, more, extent)
      by (inr end) (inr more) = absurd (omega (arith, end, more, short))

  hole_same : is_held s n.source n.at ≡ false → hole_by s n ≡ hole_of x.source (n.at / 4096 * 4096) p.cache
  hole_same isnt =
      holes_of number p.cache s table x.source n.source next.there next.known n (hole_in x.source.slot n.source.version.length (n.at / 4096 * 4096) p.cache.chunks) refl short isnt (above isnt) (λ index. bounded.fronts x.source.slot index)
      (is_hole x.source.slot n.source.version.length (n.at / 4096 * 4096) p.cache.chunks) (is_gap x.source.slot n.source.version.length (n.at / 4096 * 4096) p.cache.chunks none_behind)
      ∙ sym the_hole

  -- ---- one that is

  past : is_held s n.source n.at ≡ true → nat_lt n.at (held_to s n.source (n.at / 4096 * 4096)) ≡ true
  past held = held_past n.source.id (extent_of s n.source) n.source.version.length n.at s.chunks few short held

  -- ---- both

  abbrev asked_at : ℕ → ℕ → Option (ℕ × ℕ)
  asked_at at to = cond (not (stands x.source p.cache.instances) || nat_le to at || (is_held_in x.source at p.cache || is_brought x.source at p.cache p.flow)) None (need at to (hole_of x.source (at / 4096 * 4096) p.cache))

  gone_same : (gone : Bool) (held comes : Bool) → not (stands x.source p.cache.instances) ≡ gone → is_held_in x.source n.at p.cache ≡ held → is_brought x.source n.at p.cache p.flow ≡ comes → asked_at n.at n.to ≡ cond (gone || nat_le n.to n.at || (held || comes)) None (need n.at n.to (hole_of x.source (n.at / 4096 * 4096) p.cache))
  gone_same gone held comes a b c =
      ap₂ (λ (u v : Bool). cond (u || nat_le n.to n.at || (v || is_brought x.source n.at p.cache p.flow)) None (need n.at n.to (hole_of x.source (n.at / 4096 * 4096) p.cache))) a b
      ∙ ap (λ (w : Bool). cond (gone || nat_le n.to n.at || (held || w)) None (need n.at n.to (hole_of x.source (n.at / 4096 * 4096) p.cache))) c

  needs_same : need_of x p.cache p.flow ≡ need_by s n
  needs_same =
      ap₂ asked_at next.at next.to
      ∙ gone_same n.source.is_retired (is_held s n.source n.at) (is_being_brought s n.source n.at) (retired_of number p.cache s table x.source n.source next.there next.known)
      (held_of number p.cache s table x.source n.source next.there next.known n.at)
      (ap (λ (at : ℕ). is_brought x.source at p.cache p.flow) (sym next.at) ∙ brought_of number name l peers p s shows x n next)
      ∙ needs_by n.source.is_retired (nat_le n.to n.at) (is_held s n.source n.at) (is_being_brought s n.source n.at) (need n.at n.to (hole_of x.source (n.at / 4096 * 4096) p.cache)) (need n.at n.to (hole_by s n))
      (isnt_le n.at n.to within.some) (λ stays lacks isnt. ap (need n.at n.to) (sym (hole_same isnt))) (λ held. none_needed n.at n.to (hole_by s n) (past held))

pub needs : NeedsAreTheLaws
needs number name l peers p s shows x n next bounded within = needs_same number name l peers p s shows x n next bounded within
