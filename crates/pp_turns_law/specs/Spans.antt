-- A span is held where it is by the law (RFC 7233, section 4.1).
use Rattle.std.specs.Prelude.{◌≡◌, ◌≤◌, ℕ, true, Some}
use Rattle.pp_cache.specs.Bounds.{IsBounded}
use Rattle.pp_law.specs.State.{Instance as Known}
use Rattle.pp_law.specs.Table.{instance, is_span_held as is_span_held_by}
use Rattle.pp_objects.specs.Instances.{is_there}
use Rattle.pp_objects.specs.declared.id.ObjectId.{ObjectId}
use Rattle.pp_state.specs.Bringing.{is_span_held}
use Rattle.pp_states_law.specs.Steps.{OfSteps}

-- of the body of an instance that is there
abbrev pub HeldSpansAreTheLaws : Type 0
HeldSpansAreTheLaws = OfSteps (λ number name l peers p s. (id : ObjectId) (x : Known) (span : ℕ × ℕ) → IsBounded p.cache → is_there id p.cache.instances ≡ true → instance s (number id.life) ≡ Some x → span.1 ≤ x.version.length
    → is_span_held id span p.cache ≡ is_span_held_by s x span)
