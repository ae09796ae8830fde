-- What of a row is held, of what a reply would show.
use Rattle.std.proofs.Common.{arith, ◌≡◌, ◌≤◌, refl, sym, subst, ap, ◌∙◌, ℕ, ◌+◌, ◌-◌, min, Bool, true, false, ◌||◌, ◌==◌, nat_lt, nat_le, if◌then◌else◌, List, Option, Some, None}
use Rattle.pp_turns_law.proofs.HeldSpans.{spans_in}
use Rattle.pp_cache.specs.Memory.{Memory, extent_of as bytes_kept}
use Rattle.pp_cache_law.proofs.Alike.{instances_of}
use Rattle.pp_cache_law.proofs.Numbers.{same_test, some_is}
use Rattle.pp_cache_law.specs.Reads.{AreFronts, IsFound}
use Rattle.pp_cache_law.specs.Tables.{ShowsInstance, ShowsTable}
use Rattle.pp_law.specs.State.{State, Instance as Known}
use Rattle.pp_law.specs.Table.{chunks_in, extent_of, is_span_held as held_by_law, reach}
use Rattle.pp_objects.specs.Instances.{Instance, id_of, is_life, is_there}
use Rattle.pp_plan.specs.Spans.{resolve_known, resolved, span_in}
use Rattle.pp_ranges.specs.Ranges.{range_of, resolve}
use Rattle.pp_ranges.specs.declared.range.Range.{Range}
use Rattle.pp_ranges.specs.declared.range.Range.TheVariants.{Span, From, Last}
use Rattle.pp_ranges.specs.declared.range.Resolved.TheVariants.{Whole, Part, Unsatisfiable}
use Rattle.pp_text.specs.Fields.{Field}
use Rattle.pp_valid.specs.Conditions.{if_range_holds}
use Rattle.pp_valid.specs.declared.version.Version.{Version}
use Rattle.pp_state.specs.Bringing.{is_span_held}

-- ---- what a reply would show lies within the body

part_within : (b : Bool) (from to n : ℕ) → to ≤ n → (span_in n (if b then Part from to else Unsatisfiable)).1 ≤ n
part_within true from to n short = short
part_within false from to n short = omega arith

last_within : (b c : Bool) (from n : ℕ) → (span_in n (if b then Unsatisfiable else (if c then Whole else Part from n))).1 ≤ n
last_within true c from n = omega arith
last_within false true from n = omega arith
last_within false false from n = omega arith

resolve_within : (range : Range) (n : ℕ) → (span_in n (resolve range n)).1 ≤ n
resolve_within (Span first last) n = part_within (nat_lt first n) first (min (last + 1) n) n (omega arith)
resolve_within (From first) n = part_within (nat_lt first n) first n n (omega arith)
resolve_within (Last len) n = last_within (len == 0) (n == 0) (n - min len n) n

known_within : (range : Option Range) (n : ℕ) → (span_in n (resolve_known range n)).1 ≤ n
known_within None n = omega arith
known_within (Some range) n = resolve_within range n

by_condition : (b : Bool) (range : Option Range) (n : ℕ) → (span_in n (if b then resolve_known range n else Whole)).1 ≤ n
by_condition true range n = known_within range n
by_condition false range n = omega arith

pub shown_within : (fields : List Field) (v : Version) → (span_in v.length (resolved fields v)).1 ≤ v.length
shown_within fields v = by_condition (if_range_holds fields v.tag) (range_of fields) v.length

-- ---- each offset of a span

held_parts : State → ℕ × ℕ → ℕ → ℕ → ℕ → Bool
held_parts s span id len ext = nat_le span.1 span.0 || nat_le span.1 (reach (chunks_in len + 2) id ext s.chunks span.0)

-- two that show the same instance
same_held : (number : ℕ → ℕ) (m : Memory) (s : State) (i j : Instance) (x y : Known) (span : ℕ × ℕ) → i ≡ j → ShowsInstance number m s i x → ShowsInstance number m s j y → held_by_law s y span ≡ held_by_law s x span
unfolding held_parts
same_held number m s i j x y span same shows other =
    let ids : y.id ≡ x.id = sym other.id ∙ ap (λ (k : Instance). number k.life) (sym same) ∙ shows.id in
    let versions : y.version ≡ x.version = sym other.version ∙ ap (λ (k : Instance). k.version) (sym same) ∙ shows.version in
    let extents : extent_of s y ≡ extent_of s x = sym other.extent ∙ ap (λ (k : Instance). bytes_kept (id_of k) m) (sym same) ∙ shows.extent in
    ap (λ (n : ℕ). held_parts s span n y.version.length (extent_of s y)) ids
    ∙ ap (λ (v : Version). held_parts s span x.id v.length (extent_of s y)) versions
    ∙ ap (λ (n : ℕ). held_parts s span x.id x.version.length n) extents

pub held_same : (number : ℕ → ℕ) (m : Memory) (s : State) (i : Instance) (x : Known) (span : ℕ × ℕ) → ShowsTable number m s → AreFronts i.slot m.chunks → ShowsInstance number m s i x → span.1 ≤ x.version.length
    → is_span_held (id_of i) span m ≡ held_by_law s x span
held_same number m s i x span table fronts shows within =
    let there : is_there (id_of i) m.instances ≡ true = ap (λ (o : Option Instance). is_life i.life o) shows.there ∙ same_test i.life i.life refl in
    let one : IsFound number m s (id_of i) = instances_of number m s table (id_of i) there in
    let seen : i ≡ one.seen = some_is i one.seen (sym shows.there ∙ one.here) in
    let version : x.version ≡ one.known.version = sym shows.version ∙ ap (λ (k : Instance). k.version) seen ∙ one.shows.version in
    spans_in number m s table (id_of i) one.known span there one.there fronts (subst (λ (v : Version). span.1 ≤ v.length) version within)
    ∙ same_held number m s i one.seen x one.known span seen shows one.shows
