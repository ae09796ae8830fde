-- A turn that shows the law's state shows it behind its keeping (ours).
use Rattle.std.specs.Prelude.{◌≡◌, ℕ, List}
use Rattle.pp_flow_law.specs.Tables.{Leaving}
use Rattle.pp_keeps_law.specs.All.{IsSameBody}
use Rattle.pp_keeps_law.specs.Keeps.{HasKept}
use Rattle.pp_law.specs.State.{State}
use Rattle.pp_peers.specs.declared.peers.Peer.{Peer}
use Rattle.pp_state.specs.declared.state.State.{State as Turn}
use Rattle.pp_store.specs.Kept.{KeptMap}
use Rattle.pp_turns_law.specs.Turns.{ShowsTurn}

-- what `keep` of pp_keeping leaves as it was; the law has nothing of whether this life went astray
pub record IsBeside (p q : Turn) : Type 0 where
  pub same : IsSameBody p q
  pub rest : record q { cache = p.cache; has_lost_draft = p.has_lost_draft; is_astray = p.is_astray } ≡ p

abbrev pub TurnsAreShown : Type 0
TurnsAreShown = (number : ℕ → ℕ) (l : Leaving) (peers : List Peer) (p q : Turn) (shelf : KeptMap) (s t : State) → ShowsTurn number l peers p s → IsBeside p q → HasKept number q shelf s t → ShowsTurn number l peers q t
