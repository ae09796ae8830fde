-- Nothing in a turn says Stop: the phases leave it as it is.
use Rattle.std.proofs.Common.{◌≡◌, refl, ℕ, Bool, true, false, not, ◌&&◌, List, [], ◌∷◌, Option, Some, None, option_and_then, ◌∙◌, arith}
use Rattle.pp_target.specs.Key.{text_of}
use Rattle.pp_peers.specs.declared.placing.Placed.TheVariants.{On, Dial, CloseThenDial, Wait}
use Rattle.pp_peers.specs.declared.placing.Placed.{Placed}
use Rattle.pp_law.specs.Connections.{client, conn, exchange, each_client, each_conn, each_exchange, on_conn, on_exchange, on_client, on_client_of, front_of_line, is_unfilled, give_up_row, charge, lose_attempt, may_ask_again, end_exchange, leave_place, lose_place, close_conn, place_for, put_on, if_unplaced, place_each, placing, WaitsDial, WaitsDrop, Placement}
use Rattle.pp_law.specs.Closing.{forsake, leave}
use Rattle.pp_law.specs.Deciding.{add_exchange, begin_exchange}
use Rattle.pp_law.specs.Followers.{fill_with, fill_span, fill_next, fill_for, fill, give_up_asks}
use Rattle.pp_law.specs.Lists.{Bytes}
use Rattle.pp_law.specs.Opening.{is_at}
use Rattle.pp_law.specs.Phases.{phases, in_phase, behind, next, is_done, come, come_to, ending}
use Rattle.pp_law.specs.Replies.{begin_replies}
use Rattle.pp_law.specs.Stages.{is_headed}
use Rattle.pp_law.specs.State.{State, Phase, Before, IsWoken, IsConfigured, IsRooted, IsListed, IsListening, IsStuck, Awaiting, Handling, Evicting, Keeping, Deciding, Following, Connecting, DecidingAgain, Client, Conn, Exchange}
use Rattle.pp_law.specs.Table.{Next, swept, clear}
use Rattle.pp_law.specs.Unseen.{is_unseen, drop_on, drop_unseen}

-- ---- cases and walks

stopped_when : (n : Bool) (t : Bool) (x y : State) → x.is_stopped ≡ n → y.is_stopped ≡ n → (elim t as (λ c. State) [ true ↦ x | false ↦ y ]).is_stopped ≡ n
stopped_when n true x y hx hy = hx
stopped_when n false x y hx hy = hy

stopped_each : {A : Type 0} (n : Bool) (o : Option A) (x : State) (y : A → State) → x.is_stopped ≡ n → ((a : A) → (y a).is_stopped ≡ n) → (elim o as (λ c. State) [ None ↦ x | Some a ↦ y a ]).is_stopped ≡ n
stopped_each n None x y hx hy = hx
stopped_each n (Some a) x y hx hy = hy a

each_client-stopped : (f : Client → State → State) → ((c : Client) (s : State) → (f c s).is_stopped ≡ s.is_stopped) → (ns : List ℕ) (s : State) → (each_client f ns s).is_stopped ≡ s.is_stopped
unfolding each_client
each_client-stopped f each [] s = refl
each_client-stopped f each (n ∷ ns) s = each_client-stopped f each ns _ ∙ stopped_each s.is_stopped (client s n) _ _ refl (λ c. each c s)

each_conn-stopped : (f : Conn → State → State) → ((k : Conn) (s : State) → (f k s).is_stopped ≡ s.is_stopped) → (ns : List ℕ) (s : State) → (each_conn f ns s).is_stopped ≡ s.is_stopped
unfolding each_conn
each_conn-stopped f each [] s = refl
each_conn-stopped f each (n ∷ ns) s = each_conn-stopped f each ns _ ∙ stopped_each s.is_stopped (conn s n) _ _ refl (λ k. each k s)

each_exchange-stopped : (f : Exchange → State → State) → ((e : Exchange) (s : State) → (f e s).is_stopped ≡ s.is_stopped) → (ns : List ℕ) (s : State) → (each_exchange f ns s).is_stopped ≡ s.is_stopped
unfolding each_exchange
each_exchange-stopped f each [] s = refl
each_exchange-stopped f each (n ∷ ns) s = each_exchange-stopped f each ns _ ∙ stopped_each s.is_stopped (exchange s n) _ _ refl (λ e. each e s)

-- ---- each change

put_on-stopped : (n k : ℕ) (s : State) → (put_on n k s).is_stopped ≡ s.is_stopped
unfolding put_on on_conn on_exchange
put_on-stopped n k s = refl

place_by : (n : ℕ) (e : Exchange) (ns : List ℕ) (s : State) (wanted : Placed) → ((t : State) → (place_each ns t).state.is_stopped ≡ t.is_stopped)
    → (elim wanted as (λ c. Placement) [
      | On k ↦ place_each ns (put_on n k s)
      | Wait ↦ place_each ns s
      | Dial ↦ record { state = s; pause = WaitsDial e }
      | CloseThenDial k ↦ record { state = s; pause = WaitsDrop k e }
    ]).state.is_stopped ≡ s.is_stopped
place_by n e ns s (On k) rest = rest (put_on n k s) ∙ put_on-stopped n k s
place_by n e ns s Wait rest = rest s
place_by n e ns s Dial rest = refl
place_by n e ns s (CloseThenDial k) rest = refl

place_at : (unplaced : Option Exchange) (p : Placement) (q : Exchange → Placement) (n : Bool) → p.state.is_stopped ≡ n → ((e : Exchange) → (q e).state.is_stopped ≡ n) → (elim unplaced as (λ c. Placement) [ None ↦ p | Some e ↦ q e ]).state.is_stopped ≡ n
place_at None p q n hp hq = hp
place_at (Some e) p q n hp hq = hq e

place_each-stopped : (ns : List ℕ) (s : State) → (place_each ns s).state.is_stopped ≡ s.is_stopped
place_each-stopped [] s = refl
place_each-stopped (n ∷ ns) s = place_at (option_and_then if_unplaced (exchange s n)) _ _ s.is_stopped (place_each-stopped ns s) (λ e. place_by n e ns s (place_for s e) (λ t. place_each-stopped ns t))

pub placing-stopped : (s : State) → (placing s).state.is_stopped ≡ s.is_stopped
placing-stopped s = place_each-stopped _ s

fill_with-stopped : (e : Exchange) (c : Client) (s : State) → (fill_with e c s).is_stopped ≡ s.is_stopped
unfolding fill_with begin_exchange add_exchange leave forsake on_client
fill_with-stopped e c s = grind arith

fill_span-stopped : (c : Client) (n : Next) (span : ℕ × ℕ) (s : State) → (fill_span c n span s).is_stopped ≡ s.is_stopped
unfolding fill_span
fill_span-stopped c n span s = grind (arith, fill_with-stopped)

fill_next-stopped : (c : Client) (n : Next) (s : State) → (fill_next c n s).is_stopped ≡ s.is_stopped
unfolding fill_next
fill_next-stopped c n s = grind (arith, fill_span-stopped)

fill_for-stopped : (c : Client) (s : State) → (fill_for c s).is_stopped ≡ s.is_stopped
unfolding fill_for
fill_for-stopped c s = grind (arith, fill_next-stopped)

fill-stopped : (s : State) → (fill s).is_stopped ≡ s.is_stopped
unfolding fill
fill-stopped s = stopped_when s.is_stopped s.is_stopped _ _ refl (each_client-stopped fill_for fill_for-stopped _ s)

clear-stopped : (key : Bytes) (s : State) → (clear key s).is_stopped ≡ s.is_stopped
unfolding clear swept
clear-stopped key s = refl

give_up_row-stopped : (e : Exchange) (s : State) → (give_up_row e s).is_stopped ≡ s.is_stopped
unfolding give_up_row on_exchange on_client_of
give_up_row-stopped e s = stopped_when s.is_stopped (is_unfilled s e) _ _ (clear-stopped (text_of e.key) s) refl

lose_attempt-stopped : (e : Exchange) (s : State) → (lose_attempt e s).is_stopped ≡ s.is_stopped
unfolding lose_attempt charge on_client_of
lose_attempt-stopped e s = give_up_row-stopped e _

end_exchange-stopped : (n : ℕ) (s : State) → (end_exchange n s).is_stopped ≡ s.is_stopped
unfolding end_exchange
end_exchange-stopped n s = refl

leave_place-stopped : (e : Exchange) (s : State) → (leave_place e s).is_stopped ≡ s.is_stopped
unfolding leave_place end_exchange on_client_of on_exchange
leave_place-stopped e s = stopped_when s.is_stopped (is_headed e) _ _ refl (stopped_when s.is_stopped (may_ask_again s e.number) _ _ refl refl)

lose_place-stopped : (counts : Bool) (e : Exchange) (s : State) → (lose_place counts e s).is_stopped ≡ s.is_stopped
unfolding lose_place
lose_place-stopped counts e s = stopped_when s.is_stopped counts _ _ (leave_place-stopped e (lose_attempt e s) ∙ lose_attempt-stopped e s) (leave_place-stopped e s)

close_conn-stopped : (counts : Bool) (k : Conn) (s : State) → (close_conn counts k s).is_stopped ≡ s.is_stopped
unfolding close_conn on_conn
close_conn-stopped counts k s = each_exchange-stopped (lose_place (counts && not k.has_brought)) (lose_place-stopped (counts && not k.has_brought)) k.line _

drop_on-stopped : (k : Conn) (s : State) → (drop_on k s).is_stopped ≡ s.is_stopped
unfolding drop_on
drop_on-stopped k s = stopped_each s.is_stopped (front_of_line s k) _ _ refl (λ e. stopped_when s.is_stopped (is_unseen s k e) _ _ (close_conn-stopped false k (end_exchange e.number s) ∙ end_exchange-stopped e.number s) refl)

drop_unseen-stopped : (s : State) → (drop_unseen s).is_stopped ≡ s.is_stopped
unfolding drop_unseen
drop_unseen-stopped s = each_conn-stopped drop_on drop_on-stopped _ s

-- ---- phases

give_up_asks-stopped : (s : State) → (give_up_asks s).is_stopped ≡ s.is_stopped
unfolding give_up_asks
give_up_asks-stopped s = refl

behind-stopped : (phase : Phase) (s : State) → (behind phase s).is_stopped ≡ s.is_stopped
behind-stopped Before s = refl
behind-stopped IsWoken s = refl
behind-stopped IsConfigured s = refl
behind-stopped IsRooted s = refl
behind-stopped IsListed s = refl
behind-stopped IsListening s = refl
behind-stopped IsStuck s = refl
behind-stopped Awaiting s = refl
behind-stopped Handling s = refl
behind-stopped Evicting s = give_up_asks-stopped (in_phase Keeping s)
behind-stopped Keeping s = refl
behind-stopped Deciding s = refl
behind-stopped Following s = fill-stopped (give_up_asks (drop_unseen (in_phase Connecting s))) ∙ give_up_asks-stopped (drop_unseen (in_phase Connecting s)) ∙ drop_unseen-stopped (in_phase Connecting s)
behind-stopped Connecting s = placing-stopped (in_phase DecidingAgain s)
behind-stopped DecidingAgain s = refl

next-stopped : (s : State) → (next s).is_stopped ≡ s.is_stopped
unfolding next
next-stopped s = behind-stopped s.phase s

come-stopped : (stops : State → Bool) (ps : List Phase) (s : State) → (come stops ps s).is_stopped ≡ s.is_stopped
unfolding come
come-stopped stops [] s = refl
come-stopped stops (p ∷ ps) s = come-stopped stops ps _ ∙ stopped_when s.is_stopped (is_at p s) _ _ (stopped_when s.is_stopped (stops s) _ _ refl (stopped_when s.is_stopped (is_done s) _ _ (next-stopped s) refl)) refl

pub come_to-stopped : (phase : Phase) (s : State) → (come_to phase s).is_stopped ≡ s.is_stopped
unfolding come_to
come_to-stopped phase s = come-stopped (is_at phase) phases s

ending-stopped_by : (s : State) → (begin_replies s).is_stopped ≡ s.is_stopped
unfolding begin_replies forsake swept
ending-stopped_by s = refl

pub ending-stopped : (s : State) → (ending s).is_stopped ≡ s.is_stopped
unfolding ending
ending-stopped s = ending-stopped_by (come_to DecidingAgain s) ∙ come_to-stopped DecidingAgain s
