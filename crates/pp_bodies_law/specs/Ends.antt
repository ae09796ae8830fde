-- A response is whole (RFC 2616, sections 3.6.1, 8.1 and 8.1.2.2): what its end leaves of the program shows what it leaves of the law.
use Rattle.std.specs.Prelude.{◌≡◌, ℕ, true, false, List}
use Rattle.pp_flow.specs.declared.entry.Exchange.{Exchange as Asking}
use Rattle.pp_flow_law.specs.Frames.{emptied, still}
use Rattle.pp_head.specs.Response.{Response}
use Rattle.pp_law.specs.Connections.{end_exchange, on_conn}
use Rattle.pp_law.specs.Passing.{pour}
use Rattle.pp_law.specs.Responses.{rested, skip_body}
use Rattle.pp_law.specs.State.{State, Conn, Exchange}
use Rattle.pp_pass.specs.Pipe.{finished}
use Rattle.pp_peers.specs.Peers.{with_peer}
use Rattle.pp_peers.specs.declared.peers.Peer.{Peer}
use Rattle.pp_peers_law.specs.Peers.{has_alone}
use Rattle.pp_pipe.specs.Front.{fate_of, stays_open}
use Rattle.pp_pipe.specs.Line.{Line, answered}
use Rattle.pp_pipe.specs.Reading.{behind_it}
use Rattle.pp_seats_law.specs.Fates.{aim_of}
use Rattle.pp_states_law.specs.Decisions.{AreApart}
use Rattle.pp_states_law.specs.Endings.{IsFirst}
use Rattle.pp_state.specs.Bodies.{finished_for, on_asker, without_exchange}
use Rattle.pp_state.specs.Ends.{Parts}
use Rattle.pp_states_law.specs.Charges.{IsFor}
use Rattle.pp_states_law.specs.Losses.{IsComing}
use Rattle.pp_states_law.specs.Steps.{OfSteps, ShowsSteps, whole}

-- the exchange of the program, and that of the law; more of what is passed to its client was to come
pub record IsEnding (s : State) (e : Asking) (d : Exchange) : Type 0 where
  pub asker : e.asker ≡ d.asker
  pub aim : aim_of e.aim ≡ d.aim
  pub number : e.number ≡ d.number
  pub coming : IsFor s d IsComing

-- the body that is passed is whole, and what was not asked of the request's own is dropped
abbrev pub finished_in : Asking → Parts → Parts
finished_in e p = record p { seats = on_asker e (finished_for e.aim) p.seats }

abbrev pub finished_by_law : Exchange → State → State
finished_by_law d s = skip_body d (pour d finished s)

abbrev pub FinishesAreTheLaws : Type 0
FinishesAreTheLaws = OfSteps (λ number name l peers p s. (e : Asking) (d : Exchange) → IsEnding s e d → ShowsSteps number name l peers (finished_in e p) (finished_by_law d s))

-- its exchange, which is the first of its line, is over
abbrev pub over_in : Asking → Parts → Parts
over_in e p = record (finished_in e p) { flow = without_exchange e.number p.flow }

-- the connection rests behind it
abbrev pub RestsAreTheLaws : Type 0
RestsAreTheLaws = OfSteps (λ number name l peers p s. (e : Asking) (d : Exchange) (peer : Peer) (k : Conn) (others : List ℕ) (head : Response) → IsEnding s e d → AreApart s → IsFirst (whole p peers) s peer k d others
    → (k.may_pipeline ≡ false → has_alone s others ≡ false) → stays_open head ≡ true
    → ShowsSteps number name l (with_peer k.number (record peer { pipe = record (answered (fate_of head) peer.pipe) { reading = behind_it (fate_of head) }; has_brought = true }) peers) (over_in e p)
    (on_conn k.number (rested head) (end_exchange d.number (finished_by_law d s))))

-- or it is closed behind it: the others of its line still have to leave it
abbrev pub ClosesAreTheLaws : Type 0
ClosesAreTheLaws = OfSteps (λ number name l peers p s. (e : Asking) (d : Exchange) (peer : Peer) (k : Conn) (others : List ℕ) (head : Response) (pipe : Line) → IsEnding s e d → AreApart s → IsFirst (whole p peers) s peer k d others
    → ShowsSteps number name (still k.number others l) (with_peer k.number (record peer { pipe = pipe; has_brought = true; is_closing = true }) peers) (over_in e p)
    (on_conn k.number emptied (on_conn k.number (rested head) (end_exchange d.number (finished_by_law d s)))))
