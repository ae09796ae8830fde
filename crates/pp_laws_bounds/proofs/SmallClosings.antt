-- A connection that is closed, and its exchanges that are asked again, keep what is held small.
use Rattle.std.proofs.Common.{refl, ℕ, Bool, true, not, ◌&&◌, [], None}
use Rattle.pp_law.specs.Connections.{unplaced, may_ask_again, leave_place, lose_place, on_conn, close_conn}
use Rattle.pp_law.specs.Stages.{on_passed, is_headed}
use Rattle.pp_law.specs.State.{State, Conn, Exchange}
use Rattle.pp_laws_bounds.proofs.Small.{As, Small, facts_of, small}
use Rattle.pp_laws_bounds.proofs.SmallCases.{when}
use Rattle.pp_laws_bounds.proofs.SmallChanges.{same_body}
use Rattle.pp_laws_bounds.proofs.SmallExchanges.{each_exchange-small, end_exchange-small, lose_attempt-small, on_client_of-small, on_exchange-small}

leave_place-small : {a : As} (e : Exchange) (s : State) → Small a s → Small a (leave_place e s)
unfolding leave_place
leave_place-small e s h =
    when (is_headed e)
    (end_exchange-small e.number _ (on_client_of-small e (on_passed (λ p. record p { is_short = true })) s h))
    (when (may_ask_again s e.number) (on_exchange-small e.number unplaced s (same_body unplaced (λ x. refl) (λ x. refl)) h) (end_exchange-small e.number s h))

lose_place-small : {a : As} (counts : Bool) (e : Exchange) (s : State) → Small a s → Small a (lose_place counts e s)
unfolding lose_place
lose_place-small counts e s h = when counts (leave_place-small e _ (lose_attempt-small e s h)) (leave_place-small e s h)

off-small : {a : As} (n : ℕ) (f : Conn → Conn) (s : State) → Small a s → Small a (on_conn n f s)
unfolding on_conn
off-small n f s h = small (facts_of h)

pub close_conn-small : {a : As} (counts : Bool) (k : Conn) (s : State) → Small a s → Small a (close_conn counts k s)
unfolding close_conn
close_conn-small counts k s h = each_exchange-small (lose_place (counts && not k.has_brought)) (λ e t ht. lose_place-small (counts && not k.has_brought) e t ht) k.line _ (off-small k.number (λ j. record j { is_closing = true; line = []; answer = None; unread = [] }) s h)
