-- A decision and what followers ask for leave the numbers of requests; a decision brings at most one row into memory.
use Rattle.std.proofs.Common.{◌+◌, None, refl, ℕ, false, Some}
use Rattle.pp_ask.specs.declared.kind.AskKind.{AskKind}
use Rattle.pp_head.specs.Request.{Request}
use Rattle.pp_target.specs.Key.{Key, text_of}
use Rattle.pp_world.specs.declared.note.Decision.TheVariants.{Refuse, Hit, Part, Head, NotModified, Unsatisfiable, Relay, Validate, Fetch, Pass}
use Rattle.pp_world.specs.declared.note.Decision.{Decision}
use Rattle.pp_law.specs.Closing.{is_of}
use Rattle.pp_law.specs.Connections.{front_of_line, is_trying}
use Rattle.pp_law.specs.Deciding.{answering_with, asking_with, refused_with, refuse, add_exchange, begin_exchange, ask_for, ask_as, ask_origin, reply_by, follow_with, follow_row, follow, relay, is_for_memory, mark_row_of, enter_row, decided_by, decided}
use Rattle.pp_law.specs.Decisions.{kind_of, fits}
use Rattle.pp_law.specs.Followers.{need_of, filling_exchange, fill_with, fill_span, fill_next, fill_for, fill, give_up_asks}
use Rattle.pp_law.specs.Lists.{Bytes}
use Rattle.pp_law.specs.Requests.{key_in}
use Rattle.pp_law.specs.State.{AskTooLong, State, Client, Conn, Exchange, Instance, Reply}
use Rattle.pp_law.specs.Table.{row, row_for, Next, next_of}
use Rattle.pp_law.specs.Unseen.{is_unseen, drop_on, drop_unseen}
use Rattle.pp_laws_sides.proofs.Few.{Few, few, facts_of, when, each_of, by_front, by_result}
use Rattle.pp_laws_sides.proofs.FewTable.{one_more, swept-few, mark_row-few, enter-few, on_client-few, each_client-few, each_conn-few, end_exchange-few, close_conn-few, leave-few}

-- ---- decisions

refuse-few : {m l : ℕ} (c : Client) (status : ℕ) (s : State) → Few m l s → Few m l (refuse c status s)
unfolding refuse
refuse-few c status s h = swept-few _ (leave-few (is_of c.number) _ (on_client-few c.number (refused_with status) s (λ x. refl) h))

add_exchange-few : {m l : ℕ} (e : Exchange) (s : State) → Few m l s → Few m l (add_exchange e s)
unfolding add_exchange
add_exchange-few e s h = few (facts_of h)

begin_exchange-few : {m l : ℕ} (e : Exchange) (s : State) → Few m l s → Few m l (begin_exchange e s)
unfolding begin_exchange
begin_exchange-few e s h = add_exchange-few e _ (leave-few _ s h)

ask_for-few : {m l : ℕ} (c : Client) (d : Decision) (head : Request) (key : Key) (kind : AskKind) (s : State) → Few m l s → Few m l (ask_for c d head key kind s)
unfolding ask_for
ask_for-few c d head key kind s h = swept-few _ (begin_exchange-few _ _ (leave-few (is_of c.number) _ (on_client-few c.number (asking_with d) s (λ x. refl) h)))

ask_as-few : {m l : ℕ} (c : Client) (d : Decision) (head : Request) (key : Key) (s : State) → Few m l s → Few m l (ask_as c d head key s)
unfolding ask_as
ask_as-few c d head key s h = each_of (kind_of head (row_for s head (text_of key)) d) h (λ kind. ask_for-few c d head key kind s h)

ask_origin-few : {m l : ℕ} (c : Client) (d : Decision) (s : State) → Few m l s → Few m l (ask_origin c d s)
unfolding ask_origin
ask_origin-few c d s h = by_front c.front h (λ n. h) (λ r. by_result r.key (λ key. ask_as-few c d r.head key s h) (λ fault. h))

follow_with-few : {m l : ℕ} (c : Client) (r : Reply) (x : Instance) (s : State) → Few m l s → Few m l (follow_with c r x s)
unfolding follow_with
follow_with-few c r x s h = swept-few _ (leave-few _ _ (on_client-few c.number (answering_with r) s (λ x. refl) h))

follow_row-few : {m l : ℕ} (c : Client) (d : Decision) (key : Bytes) (s : State) → Few m l s → Few m l (follow_row c d key s)
unfolding follow_row
follow_row-few c d key s h = each_of (row s key) h (λ x. follow_with-few c (reply_by d (Some x.id)) x s h)

follow-few : {m l : ℕ} (c : Client) (d : Decision) (s : State) → Few m l s → Few m l (follow c d s)
unfolding follow
follow-few c d s h = each_of (key_in c.front) h (λ key. follow_row-few c d (text_of key) s h)

relay-few : {m l : ℕ} (c : Client) (s : State) → Few m l s → Few m l (relay c s)
unfolding relay
relay-few c s h = swept-few _ (on_client-few c.number (answering_with (reply_by Relay None)) s (λ x. refl) h)

mark_row_of-few : {m l : ℕ} (key : Bytes) (s : State) → Few m l s → Few m l (mark_row_of key s)
unfolding mark_row_of
mark_row_of-few key s h = each_of (row s key) h (λ x. mark_row-few x.id s h)

enter_row-few : {m l : ℕ} (c : Client) (d : Decision) (s : State) → Few m l s → Few (m + 1) l (enter_row c d s)
unfolding enter_row
enter_row-few c d s h = when (is_for_memory d) (one_more s h) (each_of (key_in c.front) (one_more s h) (λ key. mark_row_of-few (text_of key) _ (enter-few (text_of key) false s h)))

decided_by-few : {m l : ℕ} (c : Client) (d : Decision) (s : State) → Few m l s → Few m l (decided_by c d s)
unfolding decided_by
decided_by-few c (Refuse status) s h = refuse-few c status s h
decided_by-few c Pass s h = ask_origin-few c Pass s h
decided_by-few c Fetch s h = ask_origin-few c Fetch s h
decided_by-few c Validate s h = ask_origin-few c Validate s h
decided_by-few c Relay s h = relay-few c s h
decided_by-few c (Hit from to) s h = follow-few c (Hit from to) s h
decided_by-few c (Part from to) s h = follow-few c (Part from to) s h
decided_by-few c Head s h = follow-few c Head s h
decided_by-few c NotModified s h = follow-few c NotModified s h
decided_by-few c Unsatisfiable s h = follow-few c Unsatisfiable s h

pub decided-few : {m l : ℕ} (c : Client) (d : Decision) (s : State) → Few m l s → Few (m + 1) l (decided c d s)
unfolding decided
decided-few c d s h = decided_by-few c d _ (enter_row-few c d s h)

-- ---- followers

fill_with-few : {m l : ℕ} (e : Exchange) (c : Client) (s : State) → Few m l s → Few m l (fill_with e c s)
unfolding fill_with
fill_with-few e c s h = when (fits e.text) (begin_exchange-few e s h) (on_client-few c.number (λ x. record x { course = AskTooLong }) s (λ x. refl) h)

fill_span-few : {m l : ℕ} (c : Client) (n : Next) (span : ℕ × ℕ) (s : State) → Few m l s → Few m l (fill_span c n span s)
unfolding fill_span
fill_span-few c n span s h = by_front c.front h (λ m. h) (λ r. by_result r.key (λ key. fill_with-few (filling_exchange s c r.head key n span) c s h) (λ fault. h))

fill_next-few : {m l : ℕ} (c : Client) (n : Next) (s : State) → Few m l s → Few m l (fill_next c n s)
unfolding fill_next
fill_next-few c n s h = each_of (need_of s n) h (λ span. fill_span-few c n span s h)

fill_for-few : {m l : ℕ} (c : Client) (s : State) → Few m l s → Few m l (fill_for c s)
unfolding fill_for
fill_for-few c s h = when (is_trying c.course) (each_of (next_of s c) h (λ n. fill_next-few c n s h)) h

pub fill-few : {m l : ℕ} (s : State) → Few m l s → Few m l (fill s)
unfolding fill
fill-few s h = when s.is_stopped h (each_client-few fill_for (λ c t ht. fill_for-few c t ht) _ s h)

pub give_up_asks-few : {m l : ℕ} (s : State) → Few m l s → Few m l (give_up_asks s)
unfolding give_up_asks
give_up_asks-few s h = few (facts_of h)

drop_on-few : {m l : ℕ} (k : Conn) (s : State) → Few m l s → Few m l (drop_on k s)
unfolding drop_on
drop_on-few k s h = each_of (front_of_line s k) h (λ e. when (is_unseen s k e) (close_conn-few false k _ (end_exchange-few e.number s h)) h)

pub drop_unseen-few : {m l : ℕ} (s : State) → Few m l s → Few m l (drop_unseen s)
unfolding drop_unseen
drop_unseen-few s h = each_conn-few drop_on (λ k t ht. drop_on-few k t ht) _ s h
