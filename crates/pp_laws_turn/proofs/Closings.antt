-- A connection that is closed, and its exchanges that are asked again, keep what is kept by each change.
use Rattle.std.proofs.Common.{refl, ℕ, Bool, true, not, ◌&&◌, [], None, zero-le}
use Rattle.pp_law.specs.Connections.{unplaced, may_ask_again, leave_place, lose_place, close_conn, on_exchange}
use Rattle.pp_law.specs.Stages.{on_passed, is_headed}
use Rattle.pp_law.specs.State.{State, Conn, Exchange, Passed}
use Rattle.pp_laws_turn.proofs.Same.{on_passed-same}
use Rattle.pp_laws_turn.proofs.View.{View, Holds, Lesser, OfKeys, WalkOf}
use Rattle.pp_laws_turn.proofs.Cases.{when}
use Rattle.pp_laws_turn.proofs.Exchanges.{again_ask, each_exchange-keeps, end_exchange-keeps, lose_attempt-keeps, on_client_of-keeps, on_conn-keeps, on_exchange-keeps}

again-keeps : {K : OfKeys} {P : View → Type 0} (w : WalkOf K P) (n : ℕ) (s : State) → Holds P s → Holds P (on_exchange n unplaced s)
again-keeps w n s h = on_exchange-keeps w n unplaced s again_ask h

leave_place-keeps : {K : OfKeys} {P : View → Type 0} (w : WalkOf K P) (e : Exchange) (s : State) → Holds P s → Holds P (leave_place e s)
unfolding leave_place
leave_place-keeps w e s h =
    when (is_headed e)
    (end_exchange-keeps w e.number _ (on_client_of-keeps w e (on_passed shortened) s (on_passed-same shortened) h))
    (when (may_ask_again s e.number) (again-keeps w e.number s h) (end_exchange-keeps w e.number s h))
  where
    shortened : Passed → Passed
    shortened p = record p { is_short = true }

pub lose_place-keeps : {K : OfKeys} {P : View → Type 0} (w : WalkOf K P) (counts : Bool) (e : Exchange) (s : State) → Holds P s → Holds P (lose_place counts e s)
unfolding lose_place
lose_place-keeps w counts e s h = when counts (leave_place-keeps w e _ (lose_attempt-keeps w e s h)) (leave_place-keeps w e s h)

-- a connection that is closed has no line and no answer
abbrev pub off : Conn → Conn
off k = record k { is_closing = true; line = []; answer = None; unread = [] }

lesser_off : (k : Conn) → Lesser (off k) k
lesser_off k = record { number = refl; within = λ n i. absurd i; shorter = zero-le; pipelines = λ is. is }

pub close_conn-keeps : {K : OfKeys} {P : View → Type 0} (w : WalkOf K P) (counts : Bool) (k : Conn) (s : State) → Holds P s → Holds P (close_conn counts k s)
unfolding close_conn
close_conn-keeps w counts k s h = each_exchange-keeps w (lose_place (counts && not k.has_brought)) (λ e t ht. lose_place-keeps w (counts && not k.has_brought) e t ht) k.line _ (on_conn-keeps w k.number off s lesser_off h)
