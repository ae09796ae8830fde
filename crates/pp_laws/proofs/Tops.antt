-- Placing and the asks of followers leave the greatest number of a connection as it is.
use Rattle.std.proofs.Common.{◌≡◌, refl, ℕ, Bool, true, false, not, ◌&&◌, List, [], ◌∷◌, Option, Some, None, option_and_then, ◌∙◌, arith}
use Rattle.pp_target.specs.Key.{text_of}
use Rattle.pp_peers.specs.declared.placing.Placed.TheVariants.{On, Dial, CloseThenDial, Wait}
use Rattle.pp_peers.specs.declared.placing.Placed.{Placed}
use Rattle.pp_law.specs.Connections.{client, conn, exchange, each_client, each_conn, each_exchange, on_conn, on_exchange, on_client, on_client_of, front_of_line, is_unfilled, give_up_row, charge, lose_attempt, may_ask_again, end_exchange, leave_place, lose_place, close_conn, place_for, put_on, if_unplaced, place_each, placing, WaitsDial, WaitsDrop, Placement}
use Rattle.pp_law.specs.Closing.{forsake, leave}
use Rattle.pp_law.specs.Deciding.{add_exchange, begin_exchange}
use Rattle.pp_law.specs.Followers.{fill_with, fill_span, fill_next, fill_for, fill, give_up_asks}
use Rattle.pp_law.specs.Lists.{Bytes}
use Rattle.pp_law.specs.Opening.{is_at}
use Rattle.pp_law.specs.Phases.{phases, in_phase, behind, next, is_done, come, come_to}
use Rattle.pp_law.specs.Stages.{is_headed}
use Rattle.pp_law.specs.State.{State, Phase, Before, IsWoken, IsConfigured, IsRooted, IsListed, IsListening, IsStuck, Awaiting, Handling, Evicting, Keeping, Deciding, Following, Connecting, DecidingAgain, Client, Conn, Exchange}
use Rattle.pp_law.specs.Table.{Next, swept, clear}
use Rattle.pp_law.specs.Unseen.{is_unseen, drop_on, drop_unseen}

-- ---- cases and walks

top_when : (n : ℕ) (t : Bool) (x y : State) → x.top ≡ n → y.top ≡ n → (elim t as (λ c. State) [ true ↦ x | false ↦ y ]).top ≡ n
top_when n true x y hx hy = hx
top_when n false x y hx hy = hy

top_each : {A : Type 0} (n : ℕ) (o : Option A) (x : State) (y : A → State) → x.top ≡ n → ((a : A) → (y a).top ≡ n) → (elim o as (λ c. State) [ None ↦ x | Some a ↦ y a ]).top ≡ n
top_each n None x y hx hy = hx
top_each n (Some a) x y hx hy = hy a

each_client-top : (f : Client → State → State) → ((c : Client) (s : State) → (f c s).top ≡ s.top) → (ns : List ℕ) (s : State) → (each_client f ns s).top ≡ s.top
unfolding each_client
each_client-top f each [] s = refl
each_client-top f each (n ∷ ns) s = each_client-top f each ns _ ∙ top_each s.top (client s n) _ _ refl (λ c. each c s)

each_conn-top : (f : Conn → State → State) → ((k : Conn) (s : State) → (f k s).top ≡ s.top) → (ns : List ℕ) (s : State) → (each_conn f ns s).top ≡ s.top
unfolding each_conn
each_conn-top f each [] s = refl
each_conn-top f each (n ∷ ns) s = each_conn-top f each ns _ ∙ top_each s.top (conn s n) _ _ refl (λ k. each k s)

each_exchange-top : (f : Exchange → State → State) → ((e : Exchange) (s : State) → (f e s).top ≡ s.top) → (ns : List ℕ) (s : State) → (each_exchange f ns s).top ≡ s.top
unfolding each_exchange
each_exchange-top f each [] s = refl
each_exchange-top f each (n ∷ ns) s = each_exchange-top f each ns _ ∙ top_each s.top (exchange s n) _ _ refl (λ e. each e s)

-- ---- each change

put_on-top : (n k : ℕ) (s : State) → (put_on n k s).top ≡ s.top
unfolding put_on on_conn on_exchange
put_on-top n k s = refl

place_by : (n : ℕ) (e : Exchange) (ns : List ℕ) (s : State) (wanted : Placed) → ((t : State) → (place_each ns t).state.top ≡ t.top)
    → (elim wanted as (λ c. Placement) [
      | On k ↦ place_each ns (put_on n k s)
      | Wait ↦ place_each ns s
      | Dial ↦ record { state = s; pause = WaitsDial e }
      | CloseThenDial k ↦ record { state = s; pause = WaitsDrop k e }
    ]).state.top ≡ s.top
place_by n e ns s (On k) rest = rest (put_on n k s) ∙ put_on-top n k s
place_by n e ns s Wait rest = rest s
place_by n e ns s Dial rest = refl
place_by n e ns s (CloseThenDial k) rest = refl

place_at : (unplaced : Option Exchange) (p : Placement) (q : Exchange → Placement) (n : ℕ) → p.state.top ≡ n → ((e : Exchange) → (q e).state.top ≡ n) → (elim unplaced as (λ c. Placement) [ None ↦ p | Some e ↦ q e ]).state.top ≡ n
place_at None p q n hp hq = hp
place_at (Some e) p q n hp hq = hq e

place_each-top : (ns : List ℕ) (s : State) → (place_each ns s).state.top ≡ s.top
place_each-top [] s = refl
place_each-top (n ∷ ns) s = place_at (option_and_then if_unplaced (exchange s n)) _ _ s.top (place_each-top ns s) (λ e. place_by n e ns s (place_for s e) (λ t. place_each-top ns t))

pub placing-top : (s : State) → (placing s).state.top ≡ s.top
placing-top s = place_each-top _ s

fill_with-top : (e : Exchange) (c : Client) (s : State) → (fill_with e c s).top ≡ s.top
unfolding fill_with begin_exchange add_exchange leave forsake on_client
fill_with-top e c s = grind arith

fill_span-top : (c : Client) (n : Next) (span : ℕ × ℕ) (s : State) → (fill_span c n span s).top ≡ s.top
unfolding fill_span
fill_span-top c n span s = grind (arith, fill_with-top)

fill_next-top : (c : Client) (n : Next) (s : State) → (fill_next c n s).top ≡ s.top
unfolding fill_next
fill_next-top c n s = grind (arith, fill_span-top)

fill_for-top : (c : Client) (s : State) → (fill_for c s).top ≡ s.top
unfolding fill_for
fill_for-top c s = grind (arith, fill_next-top)

fill-top : (s : State) → (fill s).top ≡ s.top
unfolding fill
fill-top s = top_when s.top s.is_stopped _ _ refl (each_client-top fill_for fill_for-top _ s)

clear-top : (key : Bytes) (s : State) → (clear key s).top ≡ s.top
unfolding clear swept
clear-top key s = refl

give_up_row-top : (e : Exchange) (s : State) → (give_up_row e s).top ≡ s.top
unfolding give_up_row on_exchange on_client_of
give_up_row-top e s = top_when s.top (is_unfilled s e) _ _ (clear-top (text_of e.key) s) refl

lose_attempt-top : (e : Exchange) (s : State) → (lose_attempt e s).top ≡ s.top
unfolding lose_attempt charge on_client_of
lose_attempt-top e s = give_up_row-top e _

end_exchange-top : (n : ℕ) (s : State) → (end_exchange n s).top ≡ s.top
unfolding end_exchange
end_exchange-top n s = refl

leave_place-top : (e : Exchange) (s : State) → (leave_place e s).top ≡ s.top
unfolding leave_place end_exchange on_client_of on_exchange
leave_place-top e s = top_when s.top (is_headed e) _ _ refl (top_when s.top (may_ask_again s e.number) _ _ refl refl)

lose_place-top : (counts : Bool) (e : Exchange) (s : State) → (lose_place counts e s).top ≡ s.top
unfolding lose_place
lose_place-top counts e s = top_when s.top counts _ _ (leave_place-top e (lose_attempt e s) ∙ lose_attempt-top e s) (leave_place-top e s)

close_conn-top : (counts : Bool) (k : Conn) (s : State) → (close_conn counts k s).top ≡ s.top
unfolding close_conn on_conn
close_conn-top counts k s = each_exchange-top (lose_place (counts && not k.has_brought)) (lose_place-top (counts && not k.has_brought)) k.line _

drop_on-top : (k : Conn) (s : State) → (drop_on k s).top ≡ s.top
unfolding drop_on
drop_on-top k s = top_each s.top (front_of_line s k) _ _ refl (λ e. top_when s.top (is_unseen s k e) _ _ (close_conn-top false k (end_exchange e.number s) ∙ end_exchange-top e.number s) refl)

drop_unseen-top : (s : State) → (drop_unseen s).top ≡ s.top
unfolding drop_unseen
drop_unseen-top s = each_conn-top drop_on drop_on-top _ s

-- ---- phases

give_up_asks-top : (s : State) → (give_up_asks s).top ≡ s.top
unfolding give_up_asks
give_up_asks-top s = refl

behind-top : (phase : Phase) (s : State) → (behind phase s).top ≡ s.top
behind-top Before s = refl
behind-top IsWoken s = refl
behind-top IsConfigured s = refl
behind-top IsRooted s = refl
behind-top IsListed s = refl
behind-top IsListening s = refl
behind-top IsStuck s = refl
behind-top Awaiting s = refl
behind-top Handling s = refl
behind-top Evicting s = give_up_asks-top (in_phase Keeping s)
behind-top Keeping s = refl
behind-top Deciding s = refl
behind-top Following s = fill-top (give_up_asks (drop_unseen (in_phase Connecting s))) ∙ give_up_asks-top (drop_unseen (in_phase Connecting s)) ∙ drop_unseen-top (in_phase Connecting s)
behind-top Connecting s = placing-top (in_phase DecidingAgain s)
behind-top DecidingAgain s = refl

next-top : (s : State) → (next s).top ≡ s.top
unfolding next
next-top s = behind-top s.phase s

come-top : (stops : State → Bool) (ps : List Phase) (s : State) → (come stops ps s).top ≡ s.top
unfolding come
come-top stops [] s = refl
come-top stops (p ∷ ps) s = come-top stops ps _ ∙ top_when s.top (is_at p s) _ _ (top_when s.top (stops s) _ _ refl (top_when s.top (is_done s) _ _ (next-top s) refl)) refl

pub come_to-top : (phase : Phase) (s : State) → (come_to phase s).top ≡ s.top
unfolding come_to
come_to-top phase s = come-top (is_at phase) phases s
