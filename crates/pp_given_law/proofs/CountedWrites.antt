-- Of what is dropped as much is counted as came, behind a write: what is asked of an exchange leaves its body, and what came on connections stays.
use Rattle.std.proofs.Common.{◌≡◌, refl, sym, subst, ap, ◌∙◌, inl, inr, ℕ, zero, suc, Bool, true, false, ◌||◌, ◌+◌, ◌-◌, ◌/◌, cond, find, length, List, [], ◌∷◌, Option, Some, None, option_map, Ok, Err}
use Rattle.std.specs.List.{list_any}
use Rattle.std.specs.Option.{option_and_then}
use Rattle.std.specs.Prelude.{nat_lt, slice_get}
use Rattle.pp_cache_law.proofs.Numbers.{some_is}
use Rattle.pp_turns_law.specs.Unread.{IsCountedOn}
use Rattle.pp_desk.specs.Calls.{Took}
use Rattle.pp_desk.specs.Closings.{Sides, sides}
use Rattle.pp_desk.specs.Marks.{marked_seat}
use Rattle.pp_desk.specs.declared.desk.Desk.{Desk}
use Rattle.pp_due.specs.OnDisk.{next_on_disk}
use Rattle.pp_events_law.specs.Losses.{without_entry}
use Rattle.pp_events_law.specs.Stands.{come}
use Rattle.pp_flow.specs.Changes.{Exchanges, changed as entries_changed, first_of}
use Rattle.pp_flow.specs.Entries.{asking as asking_now, is_number}
use Rattle.pp_flow.specs.declared.entry.Entry.{Entry}
use Rattle.pp_flow.specs.declared.errand.Errand.{Errand}
use Rattle.pp_flow_law.specs.Tables.{ShowsFlow, none_leaves}
use Rattle.pp_law.specs.After.{after, changed, event, noted, owing, said, unread}
use Rattle.pp_law.specs.Asking.{ask, ask_body, ask_next, asked_text, asking}
use Rattle.pp_law.specs.Chunks.{chunk_len, is_chunk, note_use, put_chunk, use_chunk}
use Rattle.pp_law.specs.Connections.{client, conn, is_conn, is_outstanding, on_client, on_client_of, on_conn, on_exchange}
use Rattle.pp_law.specs.Opening.{is_opening, lose_in_opening}
use Rattle.pp_law.specs.Replies.{of_body, regained, said_by, use_chunks, use_from, use_said}
use Rattle.pp_law.specs.State.{State, Client, Conn, Entry as KeptEntry, Exchange, Instance, Owed, WriteTo}
use Rattle.pp_law.specs.Store.{close_name, load, load_from, lose_entry, note_gone, remove_entry}
use Rattle.pp_law.specs.Table.{Next, is_entry_of, kept_row, next_of, row}
use Rattle.pp_law.specs.Turn.{marked_conn, touch}
use Rattle.pp_law.specs.Unseen.{came_of}
use Rattle.pp_links.specs.Links.{Link}
use Rattle.pp_objects.specs.Instances.{Instance as InMemory}
use Rattle.pp_objects.specs.declared.id.ObjectId.{ObjectId}
use Rattle.pp_obeys.specs.Moves.{Leads}
use Rattle.pp_origins.specs.Asked.{AsksBy, BodyIsAsked, TakenAs, TextIsAsked, asked_more, asked_of_body, body_asked, errand_changed, on_errand, text_asked}
use Rattle.pp_origins.specs.Responses.{origin_gone}
use Rattle.pp_peers.specs.Peers.{is_number as is_peer}
use Rattle.pp_peers.specs.declared.peers.Peer.{Peer}
use Rattle.pp_proxy.specs.Handling.{AsksOn, SaysAt, WritesBy}
use Rattle.pp_proxy.specs.Moving.{Turning, at_desk}
use Rattle.pp_seats.specs.declared.seat.Next.{Next as NextIn}
use Rattle.pp_seats.specs.declared.seat.Seat.{Seat}
use Rattle.pp_state.specs.Asking.{asking as asking_in}
use Rattle.pp_state.specs.Bringing.{instance_of}
use Rattle.pp_state.specs.Ends.{numbers_of, parts, place_of}
use Rattle.pp_state.specs.declared.asking.Asking.{Asking}
use Rattle.pp_state.specs.declared.asking.Asking.TheVariants.{Text, Body}
use Rattle.pp_state.specs.declared.state.State.{State as Turn}
use Rattle.pp_stays_law.proofs.Came.{AllConns}
use Rattle.pp_stays_law.proofs.Counted.{IsAsBefore, all_as_before}
use Rattle.pp_stays_law.proofs.Walk.{AllOf, all_found}
use Rattle.pp_store.specs.Kept.{KeptMap}
use Rattle.pp_talk.specs.Loading.{Answer, LoadsOf, LoadsWhere, TakesChunk, chunk_at}
use Rattle.pp_talk.specs.Talking.{IsWrittenAt, said_as, told_in}
use Rattle.pp_target.specs.Name.{name_of}
use Rattle.pp_world.specs.Log.{Log}
use Rattle.pp_world.specs.declared.event.Event.TheVariants.{Writable}
use Rattle.pp_world.specs.declared.happening.Happening.{Happening}
use Rattle.pp_world.specs.declared.happening.Happening.TheVariants.{Asked, Broke, CanWrite, HungUp, Noted, Said}
use Rattle.pp_world.specs.declared.note.Remark.{Remark}
use Rattle.pp_world.specs.declared.note.Remark.TheVariants.{Loaded}
use Rattle.pp_given_law.proofs.CountedBreaks.{breaks_old, gone_on}
use Rattle.pp_given_law.proofs.CountedOver.{mapped_counted, marked_flow, where_alike}
use Rattle.pp_given_law.proofs.CountedReads.{closes_on, ends_all, on_seat_of, one_comes, owes, pays, replies_on, same_flow, same_sides, then_conns, wakes_on}
use Rattle.pp_given_law.proofs.CountedTicks.{G, HasOld, P, each, old_counted, on_ask, starts_old, when}
use Rattle.pp_given_law.specs.Writes.{AreOfWrite, CountedAsLost, CountedAsOwed, CountedAsSaid, CountedAsWritten, is_of_write, is_read_back}

-- ---- the law

module _ (n c : ℕ) where
  uses_chunk : (id i : ℕ) (s : State) → P n c s → P n c (use_chunk id i s)
  unfolding use_chunk
  uses_chunk id i s h = each n c (find (is_chunk id i) s.chunks) s (λ x. record s { chunks = put_chunk id i x.bytes s.chunks }) h (λ x. h)

  uses_all : (more id i : ℕ) (s : State) → P n c s → P n c (use_chunks more id i s)
  unfolding use_chunks
  uses_all zero id i s h = h
  uses_all (suc more) id i s h = uses_all more id (i + 1) (use_chunk id i s) (uses_chunk id i s h)

  uses_from : (m : ℕ) (x : Next) (s : State) → P n c s → P n c (use_from m x s)
  unfolding use_from
  uses_from m x s h = uses_all ((x.at + m - 1) / chunk_len + 1 - x.at / chunk_len) x.source.id (x.at / chunk_len) s h

  uses_said : (m : ℕ) (d : Client) (s : State) → P n c s → P n c (use_said m d s)
  unfolding use_said
  uses_said m d s h = when n c (nat_lt 0 (of_body m d)) _ s (each n c (next_of s d) s (λ x. use_from (of_body m d) x s) h (λ x. uses_from (of_body m d) x s h)) h

  says : (k m : ℕ) (s : State) → P n c s → P n c (said k m s)
  unfolding said
  says k m s h = each n c (client s k) s _ h (λ d. ends_all n c _ (on_seat_of n c k (said_by m) (use_said m d s) (uses_said m d s h)))

  asks_body : (e : Exchange) (m : ℕ) (s : State) → P n c s → P n c (ask_body e m s)
  unfolding ask_body on_client_of on_exchange
  asks_body e m s h = h

  asks_next : (e : Exchange) (m : ℕ) (s : State) → P n c s → P n c (ask_next e m s)
  unfolding ask_next
  asks_next e m s h = when n c (is_outstanding e) (ask_body e m s) (on_exchange e.number (asked_text m s.clock) s) (asks_body e m s h) (on_ask n c e.number (asked_text m s.clock) s h)

  asks : (k m : ℕ) (s : State) → P n c s → P n c (ask k m s)
  unfolding ask
  asks k m s h = each n c (asking s k) s (λ e. ask_next e m s) h (λ e. asks_next e m s h)

  loads_one : (x : Instance) (e : KeptEntry) (i : ℕ) (s : State) → P n c s → P n c (load_from x e i s)
  unfolding load_from note_use
  loads_one x e i s h = h

  loads : (key : List ℕ) (i : ℕ) (s : State) → P n c s → P n c (load key i s)
  unfolding load
  loads key i s h = each n c (row s key) s _ h (λ x. each n c (kept_row s key) s (λ e. load_from x e i s) h (λ e. loads_one x e i s h))

  one_noted : (s : State) (r : Remark) → is_read_back r ≡ true → P n c s → P n c (noted r s)
  unfolding noted
  one_noted s (Loaded key tag m i) is its = loads key i s its
  one_noted s other is its = absurd (cc is)

  one_written : (s : State) (h : Happening) → is_of_write h ≡ true → P n c s → P n c (after s h)
  unfolding changed
  one_written s (Said m offered bytes) is its = pays n c _ (says m (length bytes) s its)
  one_written s (HungUp m) is its = one_comes n c s (HungUp m) refl its
  one_written s (Asked m bytes) is its = pays n c _ (asks m (length bytes) s its)
  one_written s (Broke m) is its = breaks_old n c m s its
  one_written s (Noted remark) is its = one_noted s remark is its
  one_written s other is its = absurd (cc is)

  pub all_written : (hs : Log) (s t : State) → AreOfWrite hs → Leads hs s t → P n c s → P n c t
  all_written [] s t only leads its = subst (λ (u : State). P n c u) leads its
  all_written (g ∷ hs) s t only leads its = all_written hs (after s g) t only.1 leads.holds (one_written s g only.0 its)

  written_old : (id : ℕ) (hs : Log) (s t : State) → AreOfWrite hs → Leads (CanWrite id ∷ hs) s t → P n c s → P n c t
  unfolding changed
  written_old id hs s t only leads its = all_written hs (after s (CanWrite id)) t only leads.holds (owes n c (WriteTo id) id s its)

  removes : (e : KeptEntry) (s : State) → P n c s → P n c (remove_entry e s)
  unfolding remove_entry
  removes e s h = h

  in_opening : (name : List ℕ) (s : State) → P n c s → P n c (lose_in_opening name s)
  unfolding lose_in_opening lose_entry
  in_opening name s h = when n c (is_opening s) (lose_entry name s) s h h

  unreads : (name : List ℕ) (s : State) → P n c s → P n c (unread name s)
  unfolding unread close_name
  unreads name s h = pays n c (lose_in_opening name (close_name name s)) (in_opening name (close_name name s) h)

  loses_entry : (key : List ℕ) (s : State) → P n c s → P n c (without_entry key s)
  unfolding note_gone
  loses_entry key s h =
      let t : State = unread (name_of key) s in
      each n c (find (is_entry_of key) t.entries) t (λ e. remove_entry e t) (unreads (name_of key) s h) (λ e. removes e t (unreads (name_of key) s h))

-- ---- the program

found_any : (n : ℕ) (xs : List Entry) (x : Entry) → find (is_number n) xs ≡ Some x → list_any (is_number n) xs ≡ true
found_any n [] x found = absurd (cc found)
found_any n (y ∷ ys) x found = by (is_number n y) found (λ later. found_any n ys x later)
  where
    by : (b : Bool) → cond b (Some y) (find (is_number n) ys) ≡ Some x → (find (is_number n) ys ≡ Some x → list_any (is_number n) ys ≡ true) → (b || list_any (is_number n) ys) ≡ true
    by true is rest = refl
    by false is rest = rest is

change_first : (W : Entry → Type 0) (n : ℕ) (g : Entry → Entry) (xs : List Entry) (x : Entry) → find (is_number n) xs ≡ Some x → W (g x) → AllOf W xs → AllOf W (entries_changed n g xs)
change_first W n g [] x found one all = tt
change_first W n g (y ∷ ys) x found one all = by (is_number n y) found (λ later. change_first W n g ys x later one all.1)
  where
    by : (b : Bool) → cond b (Some y) (find (is_number n) ys) ≡ Some x → (find (is_number n) ys ≡ Some x → AllOf W (entries_changed n g ys)) → AllOf W (cond b (g y ∷ ys) (y ∷ entries_changed n g ys))
    by true is rest = (subst (λ (z : Entry). W (g z)) (sym (some_is y x is)) one, all.1)
    by false is rest = (all.0, rest is)

took_flow : (a : Answer) (out : List ℕ) (index : ℕ) (id : ObjectId) (p q : Turn) → TakesChunk a out index id p q → q.flow ≡ p.flow
took_flow None out index id p q is = ap (λ (t : Turn). t.flow) is
took_flow (Some (Ok count)) out index id p q is = ap (λ (t : Turn). t.flow) is.rest
took_flow (Some (Err fault)) out index id p q is = ap (λ (t : Turn). t.flow) is

of_flow : (id : ObjectId) (o : Option InMemory) (at : Option ℕ) (shelf behind : KeptMap) (p q : Turn) (old new : Option Log) (before now : ℕ) → LoadsOf id o at shelf p behind q old new before now → q.flow ≡ p.flow
of_flow id None at shelf behind p q old new before now is = ap (λ (t : Turn). t.flow) is.1
of_flow id (Some i) None shelf behind p q old new before now is = ap (λ (t : Turn). t.flow) is.1
of_flow id (Some i) (Some index) shelf behind p q old new before now is = took_flow is.answer is.out index id p q is.is

loads_flow : (o : Option NextIn) (shelf behind : KeptMap) (p q : Turn) (old new : Option Log) (before now : ℕ) → LoadsWhere o shelf p behind q old new before now → q.flow ≡ p.flow
loads_flow None shelf behind p q old new before now is = ap (λ (t : Turn). t.flow) is.1
loads_flow (Some next) shelf behind p q old new before now is = of_flow next.source (instance_of next.source p.cache.instances) (chunk_at next.at) shelf behind p q old new before now is

module _ (f : Exchanges) where
  -- ---- to a client

  said_on : (took : Took) (i : ℕ) (x : Sides) → G f x.parts → G f (said_as took i x).parts
  said_on None i x h = h
  said_on (Some (Ok n)) i x h = by (slice_get x.parts.seats i)
    where
      by : (o : Option Seat) → G f (told_in o i n x.parts)
      by None = h
      by (Some seat) = h
  said_on (Some (Err fault)) i x h = closes_on f i x h

  written_on : (o : Option Seat) (i : ℕ) (links : List Link) (x z : Sides) (old new : Option Log) → IsWrittenAt o i links x z old new → G f x.parts → G f z.parts
  written_on None i links x z old new is h = same_sides f x z is.0 h
  written_on (Some seat) i links x z old new is h = same_sides f (said_as is.took i x) z is.is (said_on is.took i x h)

  pub says_on : (i : ℕ) (x y : Turning) → SaysAt i x y → G f (parts x.moving.desk.state) → G f (parts y.moving.desk.state)
  says_on i x y is h =
      let d : Desk = is.says.loaded in
      let z : Sides = is.says.says.0 in
      replies_on f d.state.awake.items z (sides y.moving.desk) is.says.says.2
      (written_on (slice_get d.state.seats.items i) i x.moving.links (sides d) z is.says.between y.log is.says.says.1
      (same_flow f (parts x.moving.desk.state) (parts d.state)
      (loads_flow (option_and_then (next_on_disk is.roused.state) (slice_get is.roused.state.seats.items i)) x.shelf y.shelf is.roused.state d.state x.log is.says.between x.faults is.says.count is.says.loads
      ∙ ap (λ (e : Desk). e.state.flow) is.rouses.rest) h))

  -- ---- to an origin

  errand_on : (n : ℕ) (to : Errand → Errand) (g : Exchanges) → ((errand : Errand) → (to errand).body ≡ errand.body) → AllOf (IsAsBefore f) g.placed → AllOf (IsAsBefore f) (on_errand n to g).placed
  errand_on n to g same h = by (find (is_number n) g.waiting) (find (is_number n) g.placed) refl refl
    where
      chosen : Entry → Bool → Exchanges
      chosen x b = cond b (record g { waiting = entries_changed n (asking_now (to x.errand)) g.waiting }) (record g { placed = entries_changed n (asking_now (to x.errand)) g.placed })

      asked : (x : Entry) → IsAsBefore f x → IsAsBefore f (asking_now (to x.errand) x)
      asked x (inl none) = inl (same x.errand ∙ none)
      asked x (inr was) = inr (record { before = was.before; there = was.there; place = was.place; body = same x.errand ∙ was.body })

      either : (b : Bool) (x : Entry) → find (is_number n) g.placed ≡ Some x → AllOf (IsAsBefore f) (chosen x b).placed
      either true x found = h
      either false x found = change_first (IsAsBefore f) n (asking_now (to x.errand)) g.placed x found (asked x (all_found (IsAsBefore f) (is_number n) g.placed x found h)) h

      by : (a b : Option Entry) → find (is_number n) g.waiting ≡ a → find (is_number n) g.placed ≡ b → AllOf (IsAsBefore f) (errand_changed n to (option_map (λ e. e.errand) (first_of a b)) g).placed
      by (Some x) b one other = subst (λ (t : Bool). AllOf (IsAsBefore f) (chosen x t).placed) (sym (found_any n g.waiting x one)) h
      by None (Some x) one other = either (list_any (is_number n) g.waiting) x other
      by None None one other = h

  taken_on : (took : Took) (k : ℕ) (awake : List ℕ) (as_taken : ℕ → Sides → Sides) (x z : Sides) → ((n : ℕ) → G f (as_taken n x).parts) → TakenAs took k awake as_taken x z → G f x.parts → G f z.parts
  taken_on None k awake as_taken x z one is h = same_sides f x z is h
  taken_on (Some (Ok n)) k awake as_taken x z one is h = same_sides f (as_taken n x) z is (one n)
  taken_on (Some (Err fault)) k awake as_taken x z one is h = replies_on f awake (origin_gone false k x) z is (gone_on f false k x h)

  text_on : (o : Option Peer) (k n left at : ℕ) (awake : List ℕ) (links : List Link) (x z : Sides) (old new : Option Log) → TextIsAsked o k n left at awake links x z old new → G f x.parts → G f z.parts
  text_on None k n left at awake links x z old new is h = same_sides f x z is.is h
  text_on (Some peer) k n left at awake links x z old new is h = taken_on is.took k awake (text_asked k n at) x z (λ m. errand_on n (asked_more m at) x.parts.flow (λ errand. refl) h) is.is h

  body_on : (o : Option Seat) (k n left i : ℕ) (awake : List ℕ) (links : List Link) (x z : Sides) (old new : Option Log) → BodyIsAsked o k n left i awake links x z old new → G f x.parts → G f z.parts
  body_on None k n left i awake links x z old new is h = same_sides f x z is.is h
  body_on (Some seat) k n left i awake links x z old new is h = taken_on is.took k awake (body_asked n i) x z (λ m. errand_on n (asked_of_body m) x.parts.flow (λ errand. refl) h) is.is h

  asked_on : (o : Option Asking) (k at : ℕ) (awake : List ℕ) (links : List Link) (x z : Sides) (old new : Option Log) → AsksBy o k at awake links x z old new → G f x.parts → G f z.parts
  asked_on None k at awake links x z old new is h = same_sides f x z is.is h
  asked_on (Some (Text n left)) k at awake links x z old new is h = text_on (find (is_peer k) x.peers) k n left at awake links x z old new is h
  asked_on (Some (Body n left i)) k at awake links x z old new is h = body_on (slice_get x.parts.seats i) k n left i awake links x z old new is h

  asks_on : (k : ℕ) (x y : Turning) → AsksOn k x y → G f (parts x.moving.desk.state) → G f (parts y.moving.desk.state)
  asks_on k x y is h =
      let d : Desk = x.moving.desk in
      asked_on (asking_in k d.state.seats.items d.state.flow) k d.state.now d.state.awake.items x.moving.links (sides d) (sides y.moving.desk) x.log y.log is.asks h

  writes_on : (o : Option ℕ) (id : ℕ) (x y : Turning) → WritesBy o id x y → G f (parts x.moving.desk.state) → G f (parts y.moving.desk.state)
  writes_on (Some i) id x y is h = says_on i x y is h
  writes_on None id x y is h = asks_on id x y is h

-- ---- both

pub as_written : CountedAsWritten
as_written number id x y s stands is it only counted = old_counted number x.moving.desk.state.flow y.moving.desk.state.flow s it.handled.handled shows it.handled.stands.desk.turn.steps.shows.exchanges bodies old counted
  where
    shows : ShowsFlow number none_leaves x.moving.desk.state.flow s
    shows = stands.desk.turn.steps.shows.exchanges

    bodies : AllOf (IsAsBefore x.moving.desk.state.flow) y.moving.desk.state.flow.placed
    bodies =
        writes_on x.moving.desk.state.flow (place_of id (numbers_of is.woken.state.seats.items)) id (at_desk is.woken (come (Writable id) x)) y is.writes
        (wakes_on x.moving.desk.state.flow id x.moving.desk is.woken is.wakes (all_as_before number x.moving.desk.state.flow s shows))

    old : (m : ℕ) (k : Conn) → conn s m ≡ Some k → AllConns (HasOld m (came_of k)) it.handled.handled.conns
    old m k here =
        subst (λ (ks : List Conn). AllConns (HasOld m (came_of k)) ks) (sym (then_conns it.then it.handled.handled it.handled.anew))
        (written_old m (came_of k) id it.log s it.then only it.leads (starts_old s m k (stands.desk.may.apart m) here))

pub as_said : CountedAsSaid
as_said number id i x y s stands is it only counted = old_counted number x.moving.desk.state.flow y.moving.desk.state.flow s it.handled.handled.handled shows it.handled.handled.stands.desk.turn.steps.shows.exchanges bodies old counted
  where
    shows : ShowsFlow number none_leaves x.moving.desk.state.flow s
    shows = stands.desk.turn.steps.shows.exchanges

    bodies : AllOf (IsAsBefore x.moving.desk.state.flow) y.moving.desk.state.flow.placed
    bodies = says_on x.moving.desk.state.flow i x y is (all_as_before number x.moving.desk.state.flow s shows)

    old : (m : ℕ) (k : Conn) → conn s m ≡ Some k → AllConns (HasOld m (came_of k)) it.handled.handled.handled.conns
    old m k here =
        subst (λ (ks : List Conn). AllConns (HasOld m (came_of k)) ks) (sym (then_conns it.then it.handled.handled.handled it.handled.handled.anew))
        (all_written m (came_of k) it.log s it.then only it.handled.leads (starts_old s m k (stands.desk.may.apart m) here))

pub as_lost : CountedAsLost
as_lost number id i x y s stands is it counted = old_counted number x.moving.desk.state.flow y.moving.desk.state.flow s it.handled.handled shows it.handled.stands.desk.turn.steps.shows.exchanges bodies old counted
  where
    shows : ShowsFlow number none_leaves x.moving.desk.state.flow s
    shows = stands.desk.turn.steps.shows.exchanges

    bodies : AllOf (IsAsBefore x.moving.desk.state.flow) y.moving.desk.state.flow.placed
    bodies = says_on x.moving.desk.state.flow i x y is (all_as_before number x.moving.desk.state.flow s shows)

    old : (m : ℕ) (k : Conn) → conn s m ≡ Some k → AllConns (HasOld m (came_of k)) it.handled.handled.conns
    old m k here =
        subst (λ (ks : List Conn). AllConns (HasOld m (came_of k)) ks) (sym (then_conns (without_entry it.key s) it.handled.handled it.handled.anew))
        (loses_entry m (came_of k) it.key s (starts_old s m k (stands.desk.may.apart m) here))

-- ---- where it is owed

owed_conns : (f : Exchanges) (owed : Owed) (id : ℕ) (s : State) → ((n : ℕ) (k : Conn) → conn s n ≡ Some k → IsCountedOn f k) → (n : ℕ) (k : Conn) → conn (event (owing owed id s)) n ≡ Some k → IsCountedOn f k
unfolding event regained owing touch on_conn on_client
owed_conns f owed id s counted = mapped_counted f _ s.conns (where_alike (is_conn id) (marked_conn s.clock) (λ k. record { number = refl; line = refl; answer = refl })) counted

pub as_owed : CountedAsOwed
as_owed owed id old woken s wakes counted = owed_conns woken.state.flow owed id s (λ n k there. subst (λ (f : Exchanges). IsCountedOn f k) (sym same) (counted n k there))
  where
    same : woken.state.flow ≡ old.state.flow
    same =
        ap (λ (w : Sides). w.parts.flow) wakes.touches.is ∙ marked_flow (place_of id (numbers_of wakes.anew.state.seats.items)) (marked_seat wakes.anew.state.now) (parts wakes.anew.state)
        ∙ ap (λ (d : Desk). d.state.flow) wakes.regains.rest
