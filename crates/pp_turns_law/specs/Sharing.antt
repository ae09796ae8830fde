-- The exchange whose answer a request may wait for is the one of the law (ours: one fetch for many).
use Rattle.std.specs.Prelude.{◌≡◌, ℕ, ◌++◌, min, option_map}
use Rattle.std.specs.List.{filter_map, find, reduce}
use Rattle.pp_law.specs.Lists.{Bytes}
use Rattle.pp_law.specs.Sharing.{is_awaited as is_awaited_by, is_shared as is_shared_by}
use Rattle.pp_decide.specs.Sharing.{is_awaited, shared_number}
use Rattle.pp_states_law.specs.Steps.{OfSteps}

-- of those that ask for the whole of a key, or check it, and whose answer has not come, the one that began first
abbrev pub SharedAsksAreTheLaws : Type 0
SharedAsksAreTheLaws = OfSteps (λ number name l peers p s. (key : Bytes) → reduce min (filter_map (shared_number key) (p.flow.waiting ++ p.flow.placed)) ≡ option_map (λ e. e.number) (find (is_shared_by key) s.exchanges))

-- one is there, and its answer has not come
abbrev pub AwaitedIsTheLaws : Type 0
AwaitedIsTheLaws = OfSteps (λ number name l peers p s. (n : ℕ) → is_awaited n p.flow ≡ is_awaited_by s n)
