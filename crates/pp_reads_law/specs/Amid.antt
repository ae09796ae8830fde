-- What a turn shows amid a read of an origin.
--
-- Where it comes from: `turn`, `disk` and `kept` are those of StandsInTurn, from wait to wait, and of what the program does since; that memory
-- was refused for no row of the turn is of a life that did not go astray. `may` is of IsSoundTurn (`bounded.rows`, `bounded.bodies`), and that each life
-- that clients name was given is carried. `forgotten` and `evicting` are carried from the beginning of the turn, where none is forgotten.
use Rattle.std.specs.Prelude.{◌≡◌, ◌≤◌, ℕ, List}
use Rattle.pp_answers_law.specs.Making.{MayMake}
use Rattle.pp_answers_law.specs.Owns.{KeepsNumbers}
use Rattle.pp_flow_law.specs.Tables.{Leaving}
use Rattle.pp_law.specs.State.{State}
use Rattle.pp_peers.specs.declared.peers.Peer.{Peer}
use Rattle.pp_state.specs.Ends.{parts}
use Rattle.pp_state.specs.declared.state.State.{State as Turn}
use Rattle.pp_store.specs.Kept.{KeptMap}
use Rattle.pp_turns_law.specs.Rows.{AllAreKept}
use Rattle.pp_turns_law.specs.Turns.{ShowsTurn}

-- with what is kept on the disk, and with the keys of rows that left memory and are still to be noted
pub record ShowsRead (number : ℕ → ℕ) (l : Leaving) (peers : List Peer) (shelf : KeptMap) (p : Turn) (s : State) : Type 0 where
  pub turn : ShowsTurn number l peers p s
  pub disk : AllAreKept shelf p.cache s
  pub may : MayMake (parts p) s
  pub forgotten : p.forgotten ≡ s.forgotten

-- by some numbers: a life that is given has one more
pub record IsAmidRead (before : ℕ → ℕ) (lives next : ℕ) (l : Leaving) (peers : List Peer) (shelf : KeptMap) (p : Turn) (s : State) : Type 0 where
  pub number : ℕ → ℕ
  pub keeps : KeepsNumbers before number lives p.cache.lives next
  pub grows : next ≤ s.next_instance
  pub shows : ShowsRead number l peers shelf p s
