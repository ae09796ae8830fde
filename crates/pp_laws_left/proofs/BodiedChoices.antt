-- A response to an exchange that has more of a body to ask goes on: as others begin, requests are decided, and followers ask.
use Rattle.std.proofs.Common.{◌≡◌, ◌⊎◌, refl, ℕ, ◌==◌, true, false, not, ◌&&◌, Some, None, inl, inr, ap, ◌∙◌}
use Rattle.pp_ask.specs.declared.kind.AskKind.{AskKind}
use Rattle.pp_head.specs.Request.{Request}
use Rattle.pp_target.specs.Key.{Key, text_of}
use Rattle.pp_world.specs.declared.note.Decision.{Decision}
use Rattle.pp_world.specs.declared.note.Decision.TheVariants.{Refuse, Hit, Part, Head, NotModified, Unsatisfiable, Relay, Validate, Fetch, Pass}
use Rattle.pp_law.specs.After.{take_decision}
use Rattle.pp_law.specs.Closing.{is_of, leave}
use Rattle.pp_law.specs.Connections.{client, front_of_line, is_trying, placing, put_on}
use Rattle.pp_law.specs.Deciding.{add_exchange, answering_with, ask_as, ask_for, ask_origin, asking_with, begin_exchange, decided, decided_by, follow, follow_row, follow_with, new_exchange, refuse, refused_with, relay, reply_by, serves}
use Rattle.pp_law.specs.Decisions.{fits, kind_of}
use Rattle.pp_law.specs.Followers.{fill, fill_for, fill_next, fill_span, fill_with, filling_exchange, give_up_asks, is_useless_ask, need_of}
use Rattle.pp_law.specs.Lists.{is_some_with}
use Rattle.pp_law.specs.Requests.{key_in}
use Rattle.pp_law.specs.State.{State, AskTooLong, Client, Conn, Exchange}
use Rattle.pp_law.specs.Table.{next_of, row, row_for}
use Rattle.pp_law.specs.Unseen.{drop_on, drop_unseen, is_unseen}
use Rattle.pp_laws.specs.Runs.{IsIn}
use Rattle.pp_laws.proofs.Lists.{in_push}
use Rattle.pp_laws_bounds.proofs.Places.{placing-any}
use Rattle.pp_laws_turn.proofs.Cases.{by_front, by_result, each_of, when}
use Rattle.pp_laws_turn.proofs.Clients.{enter_row-keeps}
use Rattle.pp_laws_turn.proofs.Rows.{swept-keeps}
use Rattle.pp_laws_turn.proofs.View.{Holds, facts_of, holds}
use Rattle.pp_laws_left.specs.Bodies.{is_awaited}
use Rattle.pp_laws_left.proofs.Bodied.{close_conn-suits, each_conn-holds, end_exchange-suits, on_exchange-suits, tame_as}
use Rattle.pp_laws_left.proofs.BodiedFits.{Fit, filtered_fit, fit_suits, leave-fit, on_client-fit, on_conn-fit, regained-fit, rows}
use Rattle.pp_laws_left.proofs.OwnedReplies.{each_client-holds}

-- ---- an exchange begins

pub begin_exchange-fit : (e : Exchange) (s : State) → is_awaited e.body ≡ true → Holds Fit s → Holds Fit (begin_exchange e s)
unfolding begin_exchange add_exchange
begin_exchange-fit e s awaited h = holds (λ d i some. by d some (in_push d _ e i))
  where
    t : State
    t = leave (λ x. is_some_with (λ n. is_of n x) e.asker) s

    by : (d : Exchange) → (d.body_left == 0) ≡ false → IsIn d t.exchanges ⊎ (d ≡ e) → is_awaited d.body ≡ true
    by d some (inl j) = facts_of (leave-fit (λ x. is_some_with (λ n. is_of n x) e.asker) s h) d j some
    by d some (inr eq) = ap (λ (x : Exchange). is_awaited x.body) eq ∙ awaited

-- ---- decisions

refuse-fit : (c : Client) (status : ℕ) (s : State) → Holds Fit s → Holds Fit (refuse c status s)
unfolding refuse
refuse-fit c status s h = swept-keeps rows _ (leave-fit (is_of c.number) _ (on_client-fit c.number (refused_with status) s h))

ask_for-fit : (c : Client) (d : Decision) (head : Request) (key : Key) (kind : AskKind) (s : State) → Holds Fit s → Holds Fit (ask_for c d head key kind s)
unfolding ask_for
ask_for-fit c d head key kind s h = swept-keeps rows _ (begin_exchange-fit (new_exchange s c head key d kind) _ refl (leave-fit (is_of c.number) _ (on_client-fit c.number (asking_with d) s h)))

ask_as-fit : (c : Client) (d : Decision) (head : Request) (key : Key) (s : State) → Holds Fit s → Holds Fit (ask_as c d head key s)
unfolding ask_as
ask_as-fit c d head key s h = each_of (kind_of head (row_for s head (text_of key)) d) h (λ kind. ask_for-fit c d head key kind s h)

ask_origin-fit : (c : Client) (d : Decision) (s : State) → Holds Fit s → Holds Fit (ask_origin c d s)
unfolding ask_origin
ask_origin-fit c d s h = by_front c.front h (λ status. h) (λ r. by_result r.key (λ key. ask_as-fit c d r.head key s h) (λ fault. h))

follow-fit : (c : Client) (d : Decision) (s : State) → Holds Fit s → Holds Fit (follow c d s)
unfolding follow follow_row follow_with
follow-fit c d s h = each_of (key_in c.front) h (λ key. each_of (row s (text_of key)) h (λ x. swept-keeps rows _ (leave-fit (λ e. is_of c.number e && not (serves x (reply_by d (Some x.id)) e)) _ (on_client-fit c.number (answering_with (reply_by d (Some x.id))) s h))))

relay-fit : (c : Client) (s : State) → Holds Fit s → Holds Fit (relay c s)
unfolding relay
relay-fit c s h = swept-keeps rows _ (on_client-fit c.number (answering_with (reply_by Relay None)) s h)

decided_by-fit : (c : Client) (d : Decision) (s : State) → Holds Fit s → Holds Fit (decided_by c d s)
unfolding decided_by
decided_by-fit c (Refuse status) s h = refuse-fit c status s h
decided_by-fit c Pass s h = ask_origin-fit c Pass s h
decided_by-fit c Fetch s h = ask_origin-fit c Fetch s h
decided_by-fit c Validate s h = ask_origin-fit c Validate s h
decided_by-fit c Relay s h = relay-fit c s h
decided_by-fit c (Hit from to) s h = follow-fit c (Hit from to) s h
decided_by-fit c (Part from to) s h = follow-fit c (Part from to) s h
decided_by-fit c Head s h = follow-fit c Head s h
decided_by-fit c NotModified s h = follow-fit c NotModified s h
decided_by-fit c Unsatisfiable s h = follow-fit c Unsatisfiable s h

pub take_decision-fit : (n : ℕ) (d : Decision) (s : State) → Holds Fit s → Holds Fit (take_decision n d s)
unfolding take_decision decided
take_decision-fit n d s h = each_of (client s n) h (λ c. regained-fit _ (holds (facts_of (decided_by-fit c d _ (enter_row-keeps rows c d s h)))))

-- ---- phases

pub put_on-fit : (n k : ℕ) (s : State) → Holds Fit s → Holds Fit (put_on n k s)
unfolding put_on
put_on-fit n k s h = on_conn-fit k _ _ (on_exchange-suits fit_suits n (λ e. record e { place = Some k; asked = 0 }) s (λ e. tame_as _ e refl refl refl (λ some. some) refl) h)

pub placing-fit : (s : State) → Holds Fit s → Holds Fit (placing s).state
placing-fit s h = placing-any (Holds Fit) put_on-fit s h

drop_on-fit : (k : Conn) (s : State) → Holds Fit s → Holds Fit (drop_on k s)
unfolding drop_on
drop_on-fit k s h = each_of (front_of_line s k) h (λ e. when (is_unseen s k e) (close_conn-suits fit_suits false k _ (end_exchange-suits fit_suits e.number s h)) h)

pub drop_unseen-fit : (s : State) → Holds Fit s → Holds Fit (drop_unseen s)
unfolding drop_unseen
drop_unseen-fit s h = each_conn-holds drop_on drop_on-fit _ s h

pub give_up_asks-fit : (s : State) → Holds Fit s → Holds Fit (give_up_asks s)
unfolding give_up_asks
give_up_asks-fit s h = holds (filtered_fit (λ e. not (is_useless_ask s e)) s.exchanges (facts_of h))

fill_for-fit : (c : Client) (s : State) → Holds Fit s → Holds Fit (fill_for c s)
unfolding fill_for fill_next fill_span fill_with
fill_for-fit c s h = when (is_trying c.course) (each_of (next_of s c) h (λ n. each_of (need_of s n) h (λ span. by_front c.front h (λ status. h) (λ r. by_result r.key (λ key. when (fits (filling_exchange s c r.head key n span).text) (begin_exchange-fit (filling_exchange s c r.head key n span) s refl h) (on_client-fit c.number (λ x. record x { course = AskTooLong }) s h)) (λ fault. h))))) h

pub fill-fit : (s : State) → Holds Fit s → Holds Fit (fill s)
unfolding fill
fill-fit s h = when s.is_stopped h (each_client-holds fill_for (λ c t i ht. fill_for-fit c t ht) _ s h)
