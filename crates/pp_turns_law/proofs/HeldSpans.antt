-- A span that is held.
use Rattle.std.proofs.Common.{◌≡◌, ◌≤◌, ◌||◌, ap, ◌∙◌, sym, ℕ, Bool, true, cond, max, Option, Some}
use Rattle.std.specs.Prelude.{nat_le}
use Rattle.pp_cache.specs.Holes.{hole_in, hole_of}
use Rattle.pp_cache.specs.Memory.{Memory, extent_of as bytes_kept}
use Rattle.pp_cache_law.proofs.Alike.{instances_of}
use Rattle.pp_cache_law.proofs.Numbers.{some_is}
use Rattle.pp_cache_law.proofs.Spans.{spans_of}
use Rattle.pp_cache_law.specs.Reads.{AreFronts}
use Rattle.pp_cache_law.specs.Tables.{ShowsTable}
use Rattle.pp_law.specs.State.{State, Instance as Known}
use Rattle.pp_law.specs.Table.{instance, is_span_held as is_span_held_by}
use Rattle.pp_objects.specs.Instances.{Instance, is_there, total_at, total_of}
use Rattle.pp_objects.specs.declared.id.ObjectId.{ObjectId}
use Rattle.pp_state.specs.Bringing.{is_span_held}
use Rattle.pp_turns_law.proofs.Holes.{is_hole}
use Rattle.pp_turns_law.specs.Spans.{HeldSpansAreTheLaws}

-- what is before is on the disk
abbrev behind : ℕ → ObjectId → Memory → ℕ
behind from id m = max from (bytes_kept id m)

pub spans_in : (number : ℕ → ℕ) (m : Memory) (s : State) → ShowsTable number m s → (id : ObjectId) (x : Known) (span : ℕ × ℕ) → is_there id m.instances ≡ true → instance s (number id.life) ≡ Some x → AreFronts id.slot m.chunks → span.1 ≤ x.version.length
    → is_span_held id span m ≡ is_span_held_by s x span
spans_in number m s table id x span there known fronts within =
    ap (λ (hole : ℕ × ℕ). nat_le span.1 (behind span.0 id m) || nat_le span.1 hole.0) the_hole
    ∙ spans_of number m s table id x there known span.0 span.1 (hole_in id.slot x.version.length (behind span.0 id m) m.chunks).0 fronts within (is_hole id.slot x.version.length (behind span.0 id m) m.chunks)
  where
    total : total_at id.slot m.instances ≡ x.version.length
    total =
        let one = instances_of number m s table id there in
        ap (λ (o : Option Instance). total_of o) one.here ∙ ap (λ v. v.length) one.shows.version ∙ ap (λ (y : Known). y.version.length) (some_is one.known x (sym one.there ∙ known))

    the_hole : hole_of id (behind span.0 id m) m ≡ hole_in id.slot x.version.length (behind span.0 id m) m.chunks
    the_hole =
        ap (λ (b : Bool). cond b (hole_in id.slot (total_at id.slot m.instances) (behind span.0 id m) m.chunks) (behind span.0 id m, behind span.0 id m)) there
        ∙ ap (λ (k : ℕ). hole_in id.slot k (behind span.0 id m) m.chunks) total

pub held_spans : HeldSpansAreTheLaws
held_spans number name l peers p s shows id x span bounded there known within = spans_in number p.cache s shows.shows.table.table id x span there known (λ index. bounded.fronts id.slot index) within
