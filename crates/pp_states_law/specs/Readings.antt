-- What comes on a connection goes on amid a head or a body, or a head is whole (RFC 2616, sections 4.4, 6, 8.1.2.2 and 10.1).
use Rattle.std.specs.Prelude.{◌≡◌, ℕ, Bool, false, ◌∷◌, ◌++◌, [], find, Option, Some, None}
use Rattle.pp_framing.specs.declared.body.BodyRule.{BodyRule}
use Rattle.pp_head.specs.Response.{Response}
use Rattle.pp_law.specs.Connections.{conn, front_of_line, on_conn}
use Rattle.pp_law.specs.Lists.{Bytes}
use Rattle.pp_law.specs.Responses.{answer_with, answered_by, is_early, with_unread}
use Rattle.pp_law.specs.State.{State, Answer, Conn, Exchange}
use Rattle.pp_peers.specs.Peers.{is_number, with_peer}
use Rattle.pp_peers.specs.declared.peers.Peer.{Peer}
use Rattle.pp_peers_law.specs.Comes.{behind_interim}
use Rattle.pp_peers_law.specs.Peers.{ShowsReading, ShowsStaying}
use Rattle.pp_pipe.specs.Asks.{awaited}
use Rattle.pp_pipe.specs.Feeding.{IsFed}
use Rattle.pp_pipe.specs.Front.{stays_open}
use Rattle.pp_pipe.specs.Reading.{Reading}
use Rattle.pp_pipe.specs.declared.step.Step.TheVariants.{Idle}
use Rattle.pp_states_law.specs.Decisions.{AreApart}
use Rattle.pp_states_law.specs.States.{OfStates, Parts, ShowsState}

-- on this connection, which goes on
pub record IsOpen (p : Parts) (s : State) (peer : Peer) (k : Conn) : Type 0 where
  pub linked : find (is_number k.number) p.peers ≡ Some peer
  pub there : conn s k.number ≡ Some k
  pub goes_on : k.is_closing ≡ false

abbrev pub reading_of : ℕ → Peer → Reading → Bool → Parts → Parts
reading_of n peer left stays p = record p { peers = with_peer n (record peer { pipe = record peer.pipe { reading = left }; stays = stays }) p.peers }

-- its pipe reads what the law has of it; whether it stays open behind the response, the law reads of its head
abbrev pub ReadingsAreTheLaws : Type 0
ReadingsAreTheLaws = OfStates (λ number name owed l p s. (peer : Peer) (k : Conn) (left : Reading) (stays : Bool) (unread : Conn → Bytes) (answer : Conn → Option Answer) → AreApart s → IsOpen p s peer k → ShowsReading left (unread k) (answer k)
    → ShowsStaying stays (answer k) → ShowsState number name owed l (reading_of k.number peer left stays p) (on_conn k.number (λ j. record j { unread = unread j; answer = answer j }) s))

-- no head is whole, but for those that are interim
abbrev pub HeadsGoOnAsTheLaws : Type 0
HeadsGoOnAsTheLaws = OfStates (λ number name owed l p s. (peer : Peer) (k : Conn) (e : Exchange) (b : ℕ) (bytes : Bytes) (used : ℕ) (left : Reading) → AreApart s → IsOpen p s peer k → k.answer ≡ None → is_early s k ≡ false → front_of_line s k ≡ Some e
    → IsFed (awaited peer.pipe.asks) peer.pipe.reading (b ∷ bytes) used Idle left
    → ShowsState number name owed l (reading_of k.number peer left peer.stays p) (on_conn k.number (with_unread (behind_interim (k.unread ++ b ∷ bytes))) s))

-- a final head is, and the answer of an exchange begins; what it says of the connection is noted
abbrev pub AnswersBeginAsTheLaws : Type 0
AnswersBeginAsTheLaws = OfStates (λ number name owed l p s. (peer : Peer) (k : Conn) (e : Exchange) (head : Response) (rule : BodyRule) (left : Reading) → AreApart s → IsOpen p s peer k → ShowsReading left [] (Some (answer_with e head rule))
    → ShowsState number name owed l (reading_of k.number peer left (stays_open head) p) (on_conn k.number (answered_by (answer_with e head rule)) s))

-- of a body these bytes came, and it is not whole
abbrev pub with_raw : Answer → Bytes → Conn → Conn
with_raw a bytes k = record k { answer = Some (record a { raw = a.raw ++ bytes }) }

abbrev pub BodiesGoOnAsTheLaws : Type 0
BodiesGoOnAsTheLaws = OfStates (λ number name owed l p s. (peer : Peer) (k : Conn) (a : Answer) (bytes : Bytes) (left : Reading) → AreApart s → IsOpen p s peer k → k.answer ≡ Some a → ShowsReading left [] (Some (record a { raw = a.raw ++ bytes }))
    → ShowsState number name owed l (reading_of k.number peer left peer.stays p) (on_conn k.number (with_raw a bytes) s))
