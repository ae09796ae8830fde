-- What holds of the law's state as long as its entries, its connections and the numbers that were given stand holds behind decisions, cuts, what
-- nobody sees, what followers ask for and closings.
use Rattle.std.proofs.Common.{◌≡◌, refl, ℕ, Bool, true, false, not, ◌==◌, ◌||◌, nat_lt, List, [], ◌∷◌, map, Option, Some, None, Ok, Err, Result}
use Rattle.pp_ask.specs.declared.kind.AskKind.{AskKind}
use Rattle.pp_deciding_law.specs.Cuts.{behind_cut}
use Rattle.pp_deciding_law.specs.Takes.{behind_taken, room_made, to_take}
use Rattle.pp_turns_law.specs.Ways.{left_for}
use Rattle.pp_flow_law.specs.Frames.{emptied}
use Rattle.pp_head.specs.Request.{Request}
use Rattle.pp_law.specs.After.{out, shut, take_decision}
use Rattle.pp_law.specs.Closing.{close_client, exchanges_of, forsake, leave, leave_one, left_alone}
use Rattle.pp_law.specs.Connections.{client, close_conn, conn, each_client, each_conn, each_exchange, end_exchange, exchange, front_of_line, is_trying, leave_place, lose_place, may_ask_again, on_client, on_client_of, on_conn, on_exchange, unplaced}
use Rattle.pp_law.specs.Deciding.{add_exchange, ask_as, ask_for, ask_origin, begin_exchange, decided, decided_by, enter_row, follow, follow_row, follow_with, is_for_memory, mark_row_of, refuse, relay}
use Rattle.pp_law.specs.Decisions.{fits, kind_of}
use Rattle.pp_law.specs.Due.{first_due}
use Rattle.pp_law.specs.Followers.{fill, fill_for, fill_next, fill_span, fill_with, filling_exchange, give_up_asks, need_of}
use Rattle.pp_law.specs.Leaving.{forgets_next}
use Rattle.pp_law.specs.Lists.{Bytes}
use Rattle.pp_law.specs.Phases.{in_phase}
use Rattle.pp_law.specs.Replies.{regained}
use Rattle.pp_law.specs.Requests.{Front, Parsed, NoHeadYet, NoHead, IsRequest, key_in}
use Rattle.pp_law.specs.Stages.{is_headed, on_passed}
use Rattle.pp_law.specs.State.{State, Client, Conn, Entry, Exchange, Instance as Known, Phase, Reply, Deciding}
use Rattle.pp_law.specs.Table.{Next, add_row, enter, forget, forget_row, idle_row, mark_row, next_of, row, row_for, row_on_disk, rows, swept, with_room}
use Rattle.pp_law.specs.Unseen.{drop_on, drop_unseen, is_unseen}
use Rattle.pp_target.specs.Key.{Key, text_of}
use Rattle.pp_target.specs.declared.target.TargetFault.{TargetFault}
use Rattle.pp_world.specs.declared.note.Decision.{Decision}
use Rattle.pp_world.specs.declared.note.Decision.TheVariants.{Refuse, Hit, Part, Head, NotModified, Unsatisfiable, Relay, Validate, Fetch, Pass}

-- what is kept on the disk, and the connections
pub record IsQuiet (s t : State) : Type 0 where
  pub entries : t.entries ≡ s.entries
  pub displaced : t.displaced ≡ s.displaced
  pub closed : t.closed_names ≡ s.closed_names
  pub conns : t.conns ≡ s.conns
  pub top : t.top ≡ s.top

-- it holds behind what leaves them, behind an exchange that is over, and behind a connection that is gone
pub record Any (P : State → Type 0) : Type 0 where
  pub quiet : (s t : State) → IsQuiet s t → P s → P t
  pub over : (n : ℕ) (s : State) → P s → P (end_exchange n s)
  pub out : (n : ℕ) (s : State) → P s → P (out n s)

module _ (P : State → Type 0) (any : Any P) where
  when : (b : Bool) (x y : State) → P x → P y → P (elim b as (λ c. State) [ true ↦ x | false ↦ y ])
  when true x y one two = one
  when false x y one two = two

  each : {A : Type 0} (o : Option A) (x : State) (f : A → State) → P x → ((a : A) → P (f a)) → P (elim o as (λ c. State) [ None ↦ x | Some a ↦ f a ])
  each None x f one two = one
  each (Some a) x f one two = two a

  pub phased : (phase : Phase) (s : State) → P s → P (in_phase phase s)
  phased phase s h = any.quiet s _ (record { entries = refl; displaced = refl; closed = refl; conns = refl; top = refl }) h

  -- ---- a row comes in, leaves, and is marked

  forget_any : (id : ℕ) (s : State) → P s → P (forget id s)
  unfolding forget
  forget_any id s h = any.quiet s _ (record { entries = refl; displaced = refl; closed = refl; conns = refl; top = refl }) h

  forget_row_any : (x : Known) (s : State) → P s → P (forget_row x s)
  unfolding forget_row forget
  forget_row_any x s h = any.quiet s _ (record { entries = refl; displaced = refl; closed = refl; conns = refl; top = refl }) h

  room_any : (s : State) → P s → P (with_room s)
  unfolding with_room
  room_any s h = when (nat_lt (rows s) 1024) s _ h (each (idle_row s) s (λ x. forget_row x s) h (λ x. forget_row_any x s h))

  add_any : (key : Bytes) (e : Entry) (s : State) → P s → P (add_row key e.version e.fields e.times false s)
  unfolding add_row
  add_any key e s h = any.quiet s _ (record { entries = refl; displaced = refl; closed = refl; conns = refl; top = refl }) h

  enter_any : (key : Bytes) (s : State) → P s → P (enter key false s)
  unfolding enter
  enter_any key s h = by (row s key)
    where
      by : (o : Option Known) → P (elim o as (λ c. State) [ Some x ↦ s | None ↦ elim (row_on_disk s key) as (λ c. State) [ None ↦ s | Some e ↦ add_row key e.version e.fields e.times false (with_room s) ] ])
      by (Some x) = h
      by None = each (row_on_disk s key) s (λ e. add_row key e.version e.fields e.times false (with_room s)) h (λ e. add_any key e (with_room s) (room_any s h))

  mark_any : (n : ℕ) (s : State) → P s → P (mark_row n s)
  unfolding mark_row
  mark_any n s h = any.quiet s _ (record { entries = refl; displaced = refl; closed = refl; conns = refl; top = refl }) h

  mark_of_any : (key : Bytes) (s : State) → P s → P (mark_row_of key s)
  unfolding mark_row_of
  mark_of_any key s h = each (row s key) s (λ x. mark_row x.id s) h (λ x. mark_any x.id s h)

  enter_row_any : (c : Client) (d : Decision) (s : State) → P s → P (enter_row c d s)
  unfolding enter_row
  enter_row_any c d s h =
      when (is_for_memory d) s _ h
      (each (key_in c.front) s (λ key. mark_row_of (text_of key) (enter (text_of key) false s)) h (λ key. mark_of_any (text_of key) (enter (text_of key) false s) (enter_any (text_of key) s h)))

  left_any : (x : Known) (s : State) → P s → P (left_for x s)
  left_any x s h = any.quiet (forget x.id s) _ (record { entries = refl; displaced = refl; closed = refl; conns = refl; top = refl }) (forget_any x.id s h)

  pub to_take_any : (d : Decision) (s : State) → P s → P (to_take d s)
  to_take_any d s h = phased Deciding (room_made d s) (when (is_for_memory d || not (forgets_next s (first_due s))) s _ h (each (idle_row s) s (λ x. left_for x s) h (λ x. left_any x s h)))

  -- ---- it is decided

  refuse_any : (c : Client) (status : ℕ) (s : State) → P s → P (refuse c status s)
  unfolding refuse swept leave forsake on_client
  refuse_any c status s h = any.quiet s _ (record { entries = refl; displaced = refl; closed = refl; conns = refl; top = refl }) h

  ask_for_any : (c : Client) (d : Decision) (head : Request) (key : Key) (kind : AskKind) (s : State) → P s → P (ask_for c d head key kind s)
  unfolding ask_for swept begin_exchange add_exchange leave forsake on_client
  ask_for_any c d head key kind s h = any.quiet s _ (record { entries = refl; displaced = refl; closed = refl; conns = refl; top = refl }) h

  ask_as_any : (c : Client) (d : Decision) (head : Request) (key : Key) (s : State) → P s → P (ask_as c d head key s)
  unfolding ask_as
  ask_as_any c d head key s h = each (kind_of head (row_for s head (text_of key)) d) s (λ kind. ask_for c d head key kind s) h (λ kind. ask_for_any c d head key kind s h)

  ask_any : (c : Client) (d : Decision) (s : State) → P s → P (ask_origin c d s)
  unfolding ask_origin
  ask_any c d s h = by c.front
    where
      by_key : (r : Parsed) (k : Result Key TargetFault) → P (elim k as (λ t. State) [ Ok key ↦ ask_as c d r.head key s | Err fault ↦ s ])
      by_key r (Ok key) = ask_as_any c d r.head key s h
      by_key r (Err fault) = h

      by : (f : Front) → P (elim f as (λ t. State) [ NoHeadYet ↦ s | NoHead status ↦ s | IsRequest r ↦ elim r.key as (λ t. State) [ Ok key ↦ ask_as c d r.head key s | Err fault ↦ s ] ])
      by NoHeadYet = h
      by (NoHead status) = h
      by (IsRequest r) = by_key r r.key

  relay_any : (c : Client) (s : State) → P s → P (relay c s)
  unfolding relay swept on_client
  relay_any c s h = any.quiet s _ (record { entries = refl; displaced = refl; closed = refl; conns = refl; top = refl }) h

  follow_with_any : (c : Client) (r : Reply) (x : Known) (s : State) → P s → P (follow_with c r x s)
  unfolding follow_with swept leave forsake on_client
  follow_with_any c r x s h = any.quiet s _ (record { entries = refl; displaced = refl; closed = refl; conns = refl; top = refl }) h

  follow_any : (c : Client) (d : Decision) (s : State) → P s → P (follow c d s)
  unfolding follow follow_row
  follow_any c d s h = each (key_in c.front) s _ h (λ key. each (row s (text_of key)) s _ h (λ x. follow_with_any c _ x s h))

  decided_by_any : (c : Client) (d : Decision) (s : State) → P s → P (decided_by c d s)
  unfolding decided_by
  decided_by_any c (Refuse status) s h = refuse_any c status s h
  decided_by_any c Pass s h = ask_any c Pass s h
  decided_by_any c Fetch s h = ask_any c Fetch s h
  decided_by_any c Validate s h = ask_any c Validate s h
  decided_by_any c Relay s h = relay_any c s h
  decided_by_any c (Hit from to) s h = follow_any c (Hit from to) s h
  decided_by_any c (Part from to) s h = follow_any c (Part from to) s h
  decided_by_any c Head s h = follow_any c Head s h
  decided_by_any c NotModified s h = follow_any c NotModified s h
  decided_by_any c Unsatisfiable s h = follow_any c Unsatisfiable s h

  decided_any : (c : Client) (d : Decision) (s : State) → P s → P (decided c d s)
  unfolding decided
  decided_any c d s h = decided_by_any c d (enter_row c d s) (enter_row_any c d s h)

  regained_any : (s : State) → P s → P (regained s)
  unfolding regained
  regained_any s h = any.quiet s _ (record { entries = refl; displaced = refl; closed = refl; conns = refl; top = refl }) h

  pub taken_any : (n : ℕ) (d : Decision) (s : State) → P s → P (behind_taken n d s)
  unfolding take_decision
  taken_any n d s h =
      let u : State = to_take d s in
      each (client u n) u (λ c. regained (record (decided c d u) { forgotten = []; made_room_for = None })) (to_take_any d s h)
      (λ c. regained_any (record (decided c d u) { forgotten = []; made_room_for = None })
      (any.quiet (decided c d u) _ (record { entries = refl; displaced = refl; closed = refl; conns = refl; top = refl }) (decided_any c d u (to_take_any d s h))))

  -- ---- a client is closed

  each_exchange_any : (f : Exchange → State → State) → ((e : Exchange) (s : State) → P s → P (f e s)) → (ns : List ℕ) (s : State) → P s → P (each_exchange f ns s)
  unfolding each_exchange
  each_exchange_any f all [] s h = h
  each_exchange_any f all (n ∷ ns) s h = each_exchange_any f all ns _ (each (exchange s n) s (λ e. f e s) h (λ e. all e s h))

  exchange_any : (n : ℕ) (f : Exchange → Exchange) (s : State) → P s → P (on_exchange n f s)
  unfolding on_exchange
  exchange_any n f s h = any.quiet s _ (record { entries = refl; displaced = refl; closed = refl; conns = refl; top = refl }) h

  client_any : (n : ℕ) (f : Client → Client) (s : State) → P s → P (on_client n f s)
  unfolding on_client
  client_any n f s h = any.quiet s _ (record { entries = refl; displaced = refl; closed = refl; conns = refl; top = refl }) h

  client_of_any : (e : Exchange) (f : Client → Client) (s : State) → P s → P (on_client_of e f s)
  unfolding on_client_of
  client_of_any e f s h = any.quiet s _ (record { entries = refl; displaced = refl; closed = refl; conns = refl; top = refl }) h

  swept_any : (s : State) → P s → P (swept s)
  unfolding swept
  swept_any s h = any.quiet s _ (record { entries = refl; displaced = refl; closed = refl; conns = refl; top = refl }) h

  leave_one_any : (e : Exchange) (s : State) → P s → P (leave_one e s)
  unfolding leave_one
  leave_one_any e s h = when (e.asked == 0) (end_exchange e.number s) (on_exchange e.number left_alone s) (any.over e.number s h) (exchange_any e.number left_alone s h)

  close_any : (n : ℕ) (is_cut : Bool) (s : State) → P s → P (close_client n is_cut s)
  unfolding close_client
  close_any n is_cut s h = swept_any _ (each_exchange_any leave_one leave_one_any (exchanges_of n s) _ (client_any n (λ c. record c { is_closing = true; is_cut = c.is_cut || is_cut }) s h))

  pub cut_any : (n : ℕ) (s : State) → P s → P (behind_cut n s)
  cut_any n s h = close_any n true (in_phase Deciding s) (phased Deciding s h)

  pub shut_any : (n : ℕ) (s : State) → P s → P (shut n s)
  unfolding shut
  shut_any n s h = any.quiet (close_client n false s) _ (record { entries = refl; displaced = refl; closed = refl; conns = refl; top = refl }) (close_any n false s h)

  -- ---- asks are given up, and followers ask

  pub given_up_any : (s : State) → P s → P (give_up_asks s)
  unfolding give_up_asks
  given_up_any s h = any.quiet s _ (record { entries = refl; displaced = refl; closed = refl; conns = refl; top = refl }) h

  begin_any : (e : Exchange) (s : State) → P s → P (begin_exchange e s)
  unfolding begin_exchange add_exchange leave forsake
  begin_any e s h = any.quiet s _ (record { entries = refl; displaced = refl; closed = refl; conns = refl; top = refl }) h

  fill_with_any : (e : Exchange) (c : Client) (s : State) → P s → P (fill_with e c s)
  unfolding fill_with
  fill_with_any e c s h = when (fits e.text) (begin_exchange e s) _ (begin_any e s h) (client_any c.number _ s h)

  fill_span_any : (c : Client) (n : Next) (span : ℕ × ℕ) (s : State) → P s → P (fill_span c n span s)
  unfolding fill_span
  fill_span_any c n span s h = by c.front
    where
      by_key : (r : Parsed) (k : Result Key TargetFault) → P (elim k as (λ t. State) [ Ok key ↦ fill_with (filling_exchange s c r.head key n span) c s | Err fault ↦ s ])
      by_key r (Ok key) = fill_with_any (filling_exchange s c r.head key n span) c s h
      by_key r (Err fault) = h

      by : (f : Front) → P (elim f as (λ t. State) [ NoHeadYet ↦ s | NoHead status ↦ s | IsRequest r ↦ elim r.key as (λ t. State) [ Ok key ↦ fill_with (filling_exchange s c r.head key n span) c s | Err fault ↦ s ] ])
      by NoHeadYet = h
      by (NoHead status) = h
      by (IsRequest r) = by_key r r.key

  fill_next_any : (c : Client) (n : Next) (s : State) → P s → P (fill_next c n s)
  unfolding fill_next
  fill_next_any c n s h = each (need_of s n) s (λ span. fill_span c n span s) h (λ span. fill_span_any c n span s h)

  fill_for_any : (c : Client) (s : State) → P s → P (fill_for c s)
  unfolding fill_for
  fill_for_any c s h = when (is_trying c.course) _ s (each (next_of s c) s (λ n. fill_next c n s) h (λ n. fill_next_any c n s h)) h

  each_client_any : (f : Client → State → State) → ((c : Client) (s : State) → P s → P (f c s)) → (ns : List ℕ) (s : State) → P s → P (each_client f ns s)
  unfolding each_client
  each_client_any f all [] s h = h
  each_client_any f all (n ∷ ns) s h = each_client_any f all ns _ (each (client s n) s (λ c. f c s) h (λ c. all c s h))

  pub fill_any : (s : State) → P s → P (fill s)
  unfolding fill
  fill_any s h = when s.is_stopped s _ h (each_client_any fill_for fill_for_any (map (λ (c : Client). c.number) s.clients) s h)

  -- ---- what nobody sees, where it holds behind a connection whose line is empty, too

  module _ (empties : (n : ℕ) (s : State) → P s → P (on_conn n emptied s)) where
    leave_place_any : (e : Exchange) (s : State) → P s → P (leave_place e s)
    unfolding leave_place
    leave_place_any e s h =
        when (is_headed e) _ _ (any.over e.number _ (client_of_any e (on_passed (λ p. record p { is_short = true })) s h))
        (when (may_ask_again s e.number) (on_exchange e.number unplaced s) (end_exchange e.number s) (exchange_any e.number unplaced s h) (any.over e.number s h))

    lose_place_any : (e : Exchange) (s : State) → P s → P (lose_place false e s)
    unfolding lose_place
    lose_place_any e s h = leave_place_any e s h

    close_conn_any : (k : Conn) (s : State) → P s → P (close_conn false k s)
    unfolding close_conn
    close_conn_any k s h = each_exchange_any (lose_place false) lose_place_any k.line (on_conn k.number emptied s) (empties k.number s h)

    drop_on_any : (k : Conn) (s : State) → P s → P (drop_on k s)
    unfolding drop_on
    drop_on_any k s h = each (front_of_line s k) s _ h (λ e. when (is_unseen s k e) (close_conn false k (end_exchange e.number s)) s (close_conn_any k (end_exchange e.number s) (any.over e.number s h)) h)

    each_conn_any : (f : Conn → State → State) → ((k : Conn) (s : State) → P s → P (f k s)) → (ns : List ℕ) (s : State) → P s → P (each_conn f ns s)
    unfolding each_conn
    each_conn_any f all [] s h = h
    each_conn_any f all (n ∷ ns) s h = each_conn_any f all ns _ (each (conn s n) s (λ k. f k s) h (λ k. all k s h))

    pub unseen_any : (s : State) → P s → P (drop_unseen s)
    unfolding drop_unseen
    unseen_any s h = each_conn_any drop_on drop_on_any (map (λ (k : Conn). k.number) s.conns) s h
