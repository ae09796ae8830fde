-- What the law makes of a read that is amid a head (RFC 2616, sections 6 and 10.1).
use Rattle.std.specs.Prelude.{◌≡◌, ℕ, false, ◌∷◌, ◌++◌, length, Some, None}
use Rattle.pp_head.specs.Read.{More}
use Rattle.pp_head.specs.Response.{response_at}
use Rattle.pp_law.specs.Connections.{conn, front_of_line, on_conn}
use Rattle.pp_law.specs.Lists.{Bytes}
use Rattle.pp_law.specs.Responses.{got, is_early, with_unread}
use Rattle.pp_law.specs.State.{State, Conn, Exchange}
use Rattle.pp_peers.specs.declared.peers.Peer.{Peer}
use Rattle.pp_peers_law.specs.Comes.{behind_interim}
use Rattle.pp_pipe.specs.Asks.{awaited}
use Rattle.pp_pipe.specs.Feeding.{IsFed}
use Rattle.pp_pipe.specs.Reading.{Reading}
use Rattle.pp_pipe.specs.declared.step.Step.TheVariants.{Idle}
use Rattle.pp_states_law.specs.Decisions.{AreApart}
use Rattle.pp_states_law.specs.Readings.{IsOpen, reading_of}
use Rattle.pp_states_law.specs.States.{OfStates, ShowsState}

-- a connection that goes on awaits a head, of which no whole one came
pub record IsAmidHead (s : State) (n : ℕ) (k : Conn) : Type 0 where
  pub there : conn s n ≡ Some k
  pub goes_on : k.is_closing ≡ false
  pub none : k.answer ≡ None
  pub due : is_early s k ≡ false
  pub unread : response_at k.unread ≡ More

-- where none is whole behind interim ones, what follows these is left
abbrev pub GotsAreUnread : Type 0
GotsAreUnread = (s : State) (n : ℕ) (k : Conn) (b : ℕ) (bytes : Bytes) → IsAmidHead s n k → response_at (behind_interim (k.unread ++ b ∷ bytes)) ≡ More
    → got (length (b ∷ bytes)) n (b ∷ bytes) s ≡ on_conn n (with_unread (behind_interim (k.unread ++ b ∷ bytes))) s

-- and where its pipe waits for more behind a read, it shows what the law got
abbrev pub GotsAreTheLaws : Type 0
GotsAreTheLaws = OfStates (λ number name owed l p s. (peer : Peer) (k : Conn) (e : Exchange) (b : ℕ) (bytes : Bytes) (used : ℕ) (left : Reading) → AreApart s → IsOpen p s peer k → IsAmidHead s k.number k → front_of_line s k ≡ Some e
    → IsFed (awaited peer.pipe.asks) peer.pipe.reading (b ∷ bytes) used Idle left → ShowsState number name owed l (reading_of k.number peer left peer.stays p) (got (length (b ∷ bytes)) k.number (b ∷ bytes) s))
