-- The ends of responses and of connections keep what is kept by each change.
use Rattle.std.proofs.Common.{◌≡◌, refl, ℕ, Bool, true, false, not, ◌&&◌, ◌||◌, le_refl, length, Some, None}
use Rattle.pp_head.specs.Response.{Response}
use Rattle.pp_pass.specs.Pipe.{finished}
use Rattle.pp_reply.specs.Keeping.{is_old}
use Rattle.pp_law.specs.Connections.{conn, on_conn, front_of_line, close_conn, end_exchange, lose_attempt}
use Rattle.pp_law.specs.Passing.{pour}
use Rattle.pp_law.specs.Responses.{skipping, skip_body, rested, close_this, may_go_on, finish, bad_response, bad_head, is_whole_at_end, finish_first, ended}
use Rattle.pp_law.specs.State.{State, Answer, Conn, Exchange}
use Rattle.pp_laws_turn.proofs.View.{View, Holds, Lesser, OfKeys, WalkOf}
use Rattle.pp_laws_turn.proofs.Cases.{by_aim_of, each_of, when}
use Rattle.pp_laws_turn.proofs.Clients.{pour-keeps}
use Rattle.pp_laws_turn.proofs.Closings.{close_conn-keeps}
use Rattle.pp_laws_turn.proofs.Exchanges.{end_exchange-keeps, fail-keeps, lose_attempt-keeps, on_client_of-keeps, on_conn-keeps, same_parts}

pub skip_body-keeps : {K : OfKeys} {P : View → Type 0} (w : WalkOf K P) (e : Exchange) (s : State) → Holds P s → Holds P (skip_body e s)
unfolding skip_body
skip_body-keeps w e s h = by_aim_of e.aim (on_client_of-keeps w e skipping s (λ c. same_parts _ c refl refl refl refl refl (λ is. refl)) h) h (λ v from to. h)

pub close_this-keeps : {K : OfKeys} {P : View → Type 0} (w : WalkOf K P) (n : ℕ) (s : State) → Holds P s → Holds P (close_this n s)
unfolding close_this
close_this-keeps w n s h = each_of (conn s n) h (λ k. close_conn-keeps w true k s h)

pub lesser_rested : (head : Response) (k : Conn) → Lesser (rested head k) k
lesser_rested head k = record { number = refl; within = λ n i. i; shorter = le_refl (length k.line); pipelines = λ is. neither k.may_pipeline (not (is_old head.minor)) is }
  where
    neither : (a b : Bool) → (a || b) ≡ false → a ≡ false
    neither true b is = absurd (cc is)
    neither false b is = refl

-- the exchange is over, and its answer is
pub done-keeps : {K : OfKeys} {P : View → Type 0} (w : WalkOf K P) (k : Conn) (e : Exchange) (a : Answer) (s : State) → Holds P s
    → Holds P (on_conn k.number (rested a.head) (end_exchange e.number (skip_body e (pour e finished s))))
done-keeps w k e a s h = on_conn-keeps w k.number (rested a.head) _ (lesser_rested a.head) (end_exchange-keeps w e.number _ (skip_body-keeps w e _ (pour-keeps w e finished s h)))

pub finish-keeps : {K : OfKeys} {P : View → Type 0} (w : WalkOf K P) (k : Conn) (e : Exchange) (a : Answer) (s : State) → Holds P s → Holds P (finish k e a s)
unfolding finish
finish-keeps w k e a s h = when (may_go_on e a.head) (done-keeps w k e a s h) (close_this-keeps w k.number _ (done-keeps w k e a s h))

pub bad_response-keeps : {K : OfKeys} {P : View → Type 0} (w : WalkOf K P) (k : Conn) (s : State) → Holds P s → Holds P (bad_response k s)
unfolding bad_response
bad_response-keeps w k s h =
    each_of (front_of_line s k) (close_conn-keeps w false k s h)
    (λ e. close_conn-keeps w false k _ (end_exchange-keeps w e.number _ (fail-keeps w e s h)))

pub bad_head-keeps : {K : OfKeys} {P : View → Type 0} (w : WalkOf K P) (k : Conn) (s : State) → Holds P s → Holds P (bad_head k s)
unfolding bad_head
bad_head-keeps {P} w k s h = by k.has_brought
  where
    by : (t : Bool) → Holds P (elim t as (λ c. State) [
      | false ↦ bad_response k s
      | true ↦ elim (front_of_line s k) as (λ c. State) [ None ↦ close_conn false k s | Some e ↦ close_conn false k (lose_attempt e s) ]
    ])
    by false = bad_response-keeps w k s h
    by true = each_of (front_of_line s k) (close_conn-keeps w false k s h) (λ e. close_conn-keeps w false k _ (lose_attempt-keeps w e s h))

-- ---- the end of a connection

finish_first-keeps : {K : OfKeys} {P : View → Type 0} (w : WalkOf K P) (k : Conn) (a : Answer) (s : State) → Holds P s → Holds P (finish_first k a s)
unfolding finish_first
finish_first-keeps w k a s h = each_of (front_of_line s k) h (λ e. finish-keeps w k e a s h)

pub ended-keeps : {K : OfKeys} {P : View → Type 0} (w : WalkOf K P) (is_clean : Bool) (k : Conn) (s : State) → Holds P s → Holds P (ended is_clean k s)
unfolding ended
ended-keeps w is_clean k s h =
    each_of k.answer (close_conn-keeps w true k s h) (λ a. when (is_clean && is_whole_at_end a) (close_this-keeps w k.number _ (finish_first-keeps w k a s h)) (close_conn-keeps w true k s h))
