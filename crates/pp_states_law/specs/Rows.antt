-- The row of a key is not known any more.
use Rattle.pp_cache.specs.Memory.{retired_at}
use Rattle.pp_law.specs.Lists.{Bytes}
use Rattle.pp_law.specs.Table.{clear}
use Rattle.pp_states_law.specs.States.{OfStates, ShowsState}

abbrev pub ClearsAreTheLaws : Type 0
ClearsAreTheLaws = OfStates (λ number name owed l p s. (key : Bytes) → ShowsState number name owed l (record p { memory = retired_at key p.memory }) (clear key s))
