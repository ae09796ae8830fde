-- Of what is dropped as much is counted as came, behind the read of a client: exchanges are over or nobody's, and connections stay.
use Rattle.std.proofs.Common.{◌≡◌, sym, subst, ap, ◌∙◌, ℕ, Bool, true, false, ◌==◌, ◌&&◌, not, cond, List, [], ◌∷◌, Option, Some, None}
use Rattle.std.specs.Prelude.{slice_get}
use Rattle.pp_desk.specs.Closings.{Sides, closed_client, sides, with_parts}
use Rattle.pp_desk.specs.Marks.{marked_seat}
use Rattle.pp_desk.specs.Replies.{EndsBy, EndsReplies, EndsSaid, EndsSaidOf, EndsWhere, account_renewed, at_next, closes_in, is_finished_in, without_finished, without_finished_at}
use Rattle.pp_desk.specs.declared.desk.Desk.{Desk}
use Rattle.pp_events_law.proofs.KeysHeard.{roused_parts}
use Rattle.pp_events_law.specs.Stands.{come}
use Rattle.pp_flow.specs.Changes.{Exchanges}
use Rattle.pp_flow_law.specs.Tables.{ShowsFlow, none_leaves}
use Rattle.pp_law.specs.After.{after, changed, event, owing, paid}
use Rattle.pp_law.specs.Asking.{hang_up, hear, is_writing}
use Rattle.pp_law.specs.Closing.{close_client, exchanges_of, forsake, is_of, leave_one, left_alone}
use Rattle.pp_law.specs.Connections.{client, conn, each_client, end_exchange, on_client, on_exchange}
use Rattle.pp_law.specs.Connections.{each_exchange, exchange}
use Rattle.pp_law.specs.Hearing.{heard_by}
use Rattle.pp_law.specs.Replies.{close_finished, end_replies, end_reply, end_said, is_finished, is_said, next_request, regained}
use Rattle.pp_law.specs.State.{State, Client, Conn, Exchange, Owed, ReadOf}
use Rattle.pp_law.specs.Table.{swept}
use Rattle.pp_law.specs.Turn.{marked_conn, touch}
use Rattle.pp_law.specs.Unseen.{came_of}
use Rattle.pp_links.specs.Links.{Link}
use Rattle.pp_obeys.specs.Moves.{Leads}
use Rattle.pp_proxy.specs.Handling.{HearsAt, ReadsBy, Wakes}
use Rattle.pp_proxy.specs.Moving.{Turning, at_desk}
use Rattle.pp_seats.specs.declared.seat.Seat.{Seat}
use Rattle.pp_state.specs.Ends.{Parts, left_source, numbers_of, on_seat, parts, place_of}
use Rattle.pp_state.specs.Hearing.{is_said_in, with_end}
use Rattle.pp_stays_law.proofs.Came.{AllConns}
use Rattle.pp_stays_law.proofs.Counted.{IsAsBefore, all_as_before}
use Rattle.pp_stays_law.proofs.Decided.{cut_fine}
use Rattle.pp_stays_law.proofs.Fits.{AnyEntry, AnyMemory, AnySeat, bodies_suit}
use Rattle.pp_stays_law.proofs.Walk.{AllOf, forsaken_fine, source_fine}
use Rattle.pp_talk.specs.Talking.{IsReadAt}
use Rattle.pp_world.specs.Log.{Log}
use Rattle.pp_world.specs.declared.event.Event.TheVariants.{Readable}
use Rattle.pp_world.specs.declared.happening.Happening.{Happening}
use Rattle.pp_world.specs.declared.happening.Happening.TheVariants.{CanRead, Heard, HungUp, NoneYet}
use Rattle.pp_given_law.proofs.CountedOver.{marked_flow}
use Rattle.pp_given_law.proofs.CountedTicks.{G, HasOld, P, each, old_counted, on_ask, on_one, over, starts_old, when, whole}
use Rattle.pp_given_law.specs.Counts.{AreOfClient, CountedAsHeard, is_of_client}

-- ---- the law

module _ (n c : ℕ) where
  pub on_seat_of : (m : ℕ) (f : Client → Client) (s : State) → P n c s → P n c (on_client m f s)
  unfolding on_client
  on_seat_of m f s h = h

  sweeps : (s : State) → P n c s → P n c (swept s)
  unfolding swept
  sweeps s h = h

  forsakes : (test : Exchange → Bool) (s : State) → P n c s → P n c (forsake test s)
  unfolding forsake
  forsakes test s h = h

  all_clients : (f : Client → State → State) → ((d : Client) (s : State) → P n c s → P n c (f d s)) → (ns : List ℕ) (s : State) → P n c s → P n c (each_client f ns s)
  unfolding each_client
  all_clients f all [] s h = h
  all_clients f all (m ∷ ns) s h = all_clients f all ns _ (each n c (client s m) s (λ d. f d s) h (λ d. all d s h))

  all_exchanges : (f : Exchange → State → State) → ((e : Exchange) (s : State) → P n c s → P n c (f e s)) → (ns : List ℕ) (s : State) → P n c s → P n c (each_exchange f ns s)
  unfolding each_exchange
  all_exchanges f all [] s h = h
  all_exchanges f all (m ∷ ns) s h = all_exchanges f all ns _ (each n c (exchange s m) s (λ e. f e s) h (λ e. all e s h))

  leaves_one : (e : Exchange) (s : State) → P n c s → P n c (leave_one e s)
  unfolding leave_one
  leaves_one e s h = when n c (e.asked == 0) (end_exchange e.number s) (on_exchange e.number left_alone s) (over n c e.number s h) (on_ask n c e.number left_alone s h)

  closes_client : (m : ℕ) (is_cut : Bool) (s : State) → P n c s → P n c (close_client m is_cut s)
  unfolding close_client
  closes_client m is_cut s h = sweeps _ (all_exchanges leave_one leaves_one (exchanges_of m s) _ (on_seat_of m _ s h))

  ends_reply : (d : Client) (s : State) → P n c s → P n c (end_reply d s)
  unfolding end_reply
  ends_reply d s h = when n c d.closes (close_client d.number false s) _ (closes_client d.number false s h) (sweeps _ (forsakes (is_of d.number) _ (on_seat_of d.number next_request s h)))

  ends_said : (d : Client) (s : State) → P n c s → P n c (end_said d s)
  unfolding end_said
  ends_said d s h = when n c (is_said d && not d.is_closing) (end_reply d s) s (ends_reply d s h) h

  finishes : (d : Client) (s : State) → P n c s → P n c (close_finished d s)
  unfolding close_finished
  finishes d s h = when n c (is_finished d) (close_client d.number false s) s (closes_client d.number false s h) h

  pub ends_all : (s : State) → P n c s → P n c (end_replies s)
  unfolding end_replies
  ends_all s h = all_clients close_finished finishes _ _ (all_clients end_said ends_said _ s h)

  pub pays : (s : State) → P n c s → P n c (paid s)
  unfolding paid regained
  pays s h = h

  hears_bytes : (m : ℕ) (bytes : List ℕ) (s : State) → P n c s → P n c (hear m bytes s)
  unfolding hear
  hears_bytes m bytes s h = ends_all _ (on_seat_of m (heard_by bytes) s h)

  hangs_up : (m : ℕ) (s : State) → P n c s → P n c (hang_up m s)
  unfolding hang_up
  hangs_up m s h = when n c (is_writing s.owed m) (close_client m false s) _ (closes_client m false s h) (ends_all _ (on_seat_of m (λ d. record d { has_hung_up = true }) s h))

  pub owes : (owed : Owed) (m : ℕ) (s : State) → P n c s → P n c (event (owing owed m s))
  unfolding event regained owing touch
  owes owed m s h = on_one n c m (marked_conn s.clock) _ (λ k its. its) (on_seat_of m _ s h)

  pub one_comes : (s : State) (h : Happening) → is_of_client h ≡ true → P n c s → P n c (after s h)
  unfolding changed
  one_comes s (Heard m bytes) is its = pays _ (hears_bytes m bytes s its)
  one_comes s (HungUp m) is its = pays _ (hangs_up m s its)
  one_comes s (NoneYet m) is its = pays s its
  one_comes s other is its = absurd (cc is)

  all_come : (hs : Log) (s t : State) → AreOfClient hs → Leads hs s t → P n c s → P n c t
  all_come [] s t only leads its = subst (λ (u : State). P n c u) leads its
  all_come (g ∷ hs) s t only leads its = all_come hs (after s g) t only.1 leads.holds (one_comes s g only.0 its)

  read_old : (id : ℕ) (hs : Log) (s t : State) → AreOfClient hs → Leads (CanRead id ∷ hs) s t → P n c s → P n c t
  unfolding changed
  read_old id hs s t only leads its = all_come hs (after s (CanRead id)) t only leads.holds (owes (ReadOf id) id s its)

pub then_conns : (t u : State) → t ≡ regained u → u.conns ≡ t.conns
unfolding regained
then_conns t u anew = sym (ap (λ (v : State). v.conns) anew)

-- ---- the program

module _ (f : Exchanges) where
  pub same_flow : (p q : Parts) → q.flow ≡ p.flow → G f p → G f q
  same_flow p q same h = subst (λ (g : Exchanges). AllOf (IsAsBefore f) g.placed) (sym same) h

  pub same_sides : (x z : Sides) → z ≡ x → G f x.parts → G f z.parts
  same_sides x z same h = subst (λ (w : Sides). G f w.parts) (sym same) h

  pub closes_on : (i : ℕ) (x : Sides) → G f x.parts → G f (closed_client i x).parts
  closes_on i x h = (cut_fine AnySeat AnyEntry (IsAsBefore f) AnyMemory (bodies_suit f) [] i x (whole f x.parts h)).placed

  next_on : (i : ℕ) (p : Parts) → G f p → G f (at_next i p)
  next_on i p h = (forsaken_fine AnySeat AnyEntry (IsAsBefore f) AnyMemory (bodies_suit f) i (left_source i p) (source_fine AnySeat AnyEntry (IsAsBefore f) AnyMemory (bodies_suit f) i p (whole f p h))).placed

  ends_by : (i : ℕ) (b : Bool) (x z : Sides) → EndsBy b i x z → G f x.parts → G f z.parts
  ends_by i true x z is h = same_sides (closed_client i x) z is (closes_on i x h)
  ends_by i false x z is h = same_flow (at_next i x.parts) z.parts (ap (λ (w : Sides). w.parts.flow) is.1) (next_on i x.parts h)

  ends_where : (i : ℕ) (b : Bool) (x z : Sides) → EndsWhere b i x z → G f x.parts → G f z.parts
  ends_where i true x z is h = ends_by i (closes_in (slice_get x.parts.seats i)) (with_parts (on_seat i account_renewed) x) z is h
  ends_where i false x z is h = same_sides x z is h

  ends_of : (i : ℕ) (x z : Sides) → EndsSaidOf i x z → G f x.parts → G f z.parts
  ends_of i x z is h = ends_where i (is_said_in (slice_get x.parts.seats i)) (with_parts (on_seat i with_end) x) z is h

  said_on : (is : List ℕ) (x z : Sides) → EndsSaid is x z → G f x.parts → G f z.parts
  said_on [] x z ends h = same_sides x z ends h
  said_on (i ∷ is) x z ends h = said_on is ends.0 z ends.2 (ends_of i x ends.0 ends.1 h)

  finished_one : (i : ℕ) (x : Sides) → G f x.parts → G f (without_finished_at x i).parts
  finished_one i x h = by (is_finished_in (slice_get x.parts.seats i))
    where
      by : (b : Bool) → G f (cond b (closed_client i x) x).parts
      by true = closes_on i x h
      by false = h

  finished_on : (is : List ℕ) (x : Sides) → G f x.parts → G f (without_finished is x).parts
  finished_on [] x h = h
  finished_on (i ∷ is) x h = finished_on is (without_finished_at x i) (finished_one i x h)

  pub replies_on : (is : List ℕ) (x z : Sides) → EndsReplies is x z → G f x.parts → G f z.parts
  replies_on is x z ends h = same_sides (without_finished is ends.0) z ends.2 (finished_on is ends.0 (said_on is x ends.0 ends.1 h))

  read_on : (o : Option Seat) (most i : ℕ) (links : List Link) (x z : Sides) (old new : Option Log) → IsReadAt o most i links x z old new → G f x.parts → G f z.parts
  read_on None most i links x z old new is h = same_sides x z is.0 h
  read_on (Some seat) most i links x z old new is h = same_flow x.parts z.parts (ap (λ (w : Sides). w.parts.flow) is.is.rest) h

  hears_on : (i : ℕ) (x y : Turning) → HearsAt i x y → G f (parts x.moving.desk.state) → G f (parts y.moving.desk.state)
  hears_on i x y hears h =
      let r : Sides = sides hears.roused in
      let z : Sides = hears.hears.0 in
      replies_on hears.roused.state.awake.items z (sides y.moving.desk) hears.hears.2
      (read_on (slice_get r.parts.seats i) _ i x.moving.links r z x.log y.log hears.hears.1 (subst (λ (p : Parts). G f p) (sym (roused_parts i x.moving.desk hears.roused hears.rouses)) h))

  pub wakes_on : (id : ℕ) (x y : Desk) → Wakes id x y → G f (parts x.state) → G f (parts y.state)
  wakes_on id x y is h =
      same_flow (parts x.state) (parts y.state)
      (ap (λ (w : Sides). w.parts.flow) is.touches.is
      ∙ marked_flow (place_of id (numbers_of is.anew.state.seats.items)) (marked_seat is.anew.state.now) (parts is.anew.state)
      ∙ ap (λ (d : Desk). d.state.flow) is.regains.rest) h

-- ---- both

pub as_heard : CountedAsHeard
as_heard number id i x y s stands place is it only counted = old_counted number x.moving.desk.state.flow y.moving.desk.state.flow s it.handled.handled shows it.handled.stands.desk.turn.steps.shows.exchanges bodies old counted
  where
    shows : ShowsFlow number none_leaves x.moving.desk.state.flow s
    shows = stands.desk.turn.steps.shows.exchanges

    place_is : place_of id (numbers_of is.woken.state.seats.items) ≡ Some i
    place_is = ap (λ (ns : List ℕ). place_of id ns) (is.wakes.touches.numbers ∙ is.wakes.regains.numbers) ∙ place

    hears : HearsAt i (at_desk is.woken (come (Readable id) x)) y
    hears = subst (λ (o : Option ℕ). ReadsBy o id (at_desk is.woken (come (Readable id) x)) y) place_is is.reads

    bodies : AllOf (IsAsBefore x.moving.desk.state.flow) y.moving.desk.state.flow.placed
    bodies =
        hears_on x.moving.desk.state.flow i (at_desk is.woken (come (Readable id) x)) y hears
        (wakes_on x.moving.desk.state.flow id x.moving.desk is.woken is.wakes (all_as_before number x.moving.desk.state.flow s shows))

    old : (m : ℕ) (k : Conn) → conn s m ≡ Some k → AllConns (HasOld m (came_of k)) it.handled.handled.conns
    old m k here =
        subst (λ (ks : List Conn). AllConns (HasOld m (came_of k)) ks) (sym (then_conns it.then it.handled.handled it.handled.anew))
        (read_old m (came_of k) id it.log s it.then only it.leads (starts_old s m k (stands.desk.may.apart m) here))
