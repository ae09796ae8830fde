-- What no part of the program's state stands for may change.
use Rattle.std.specs.Prelude.{◌≡◌}
use Rattle.pp_law.specs.State.{State, Instance}
use Rattle.pp_law.specs.Table.{extent_of}
use Rattle.pp_states_law.specs.States.{OfStates, ShowsState}

-- but for the disk, the settings and the turn
pub record IsSameState (s t : State) : Type 0 where
  pub clients : t.clients ≡ s.clients
  pub conns : t.conns ≡ s.conns
  pub exchanges : t.exchanges ≡ s.exchanges
  pub next_exchange : t.next_exchange ≡ s.next_exchange
  pub instances : t.instances ≡ s.instances
  pub next_instance : t.next_instance ≡ s.next_instance
  pub chunks : t.chunks ≡ s.chunks
  pub kept : (x : Instance) → extent_of t x ≡ extent_of s x

abbrev pub FramesAreTheLaws : Type 0
FramesAreTheLaws = OfStates (λ number name owed l p s. (t : State) → IsSameState s t → ShowsState number name owed l p t)
