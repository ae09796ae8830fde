-- A client is written to, and the turn stands behind what was said and is not the last of its reply, or behind its loss.
use Rattle.std.proofs.Common.{◌≡◌, ◌≤◌, ◌<◌, refl, sym, subst, ap, ap₂, ◌∙◌, ℕ, Bool, true, false, ◌==◌, ◌&&◌, find, is_some, length, length-take-le, nat_lt, take, List, [], ◌∷◌, Option, Some, None, Ok, Err, arith}
use Rattle.std.proofs.lemmas.Bool.Decides.{nat_tests}
use Rattle.std.specs.Option.{option_and_then}
use Rattle.std.specs.Prelude.{count_by, slice_get, slice_set}
use Rattle.pp_cache.specs.Bounds.{IsBounded}
use Rattle.pp_cache.specs.Memory.{Memory}
use Rattle.pp_cache_law.proofs.Numbers.{is_same, some_is}
use Rattle.pp_client.specs.Clients.{Client as ClientSide}
use Rattle.pp_client.specs.Replies.{at_hand, ended as ended_reply, is_said, left_next, said}
use Rattle.pp_client.specs.Requests.{answered}
use Rattle.pp_clients_obey.proofs.Closes.{losses_lead}
use Rattle.pp_clients_obey.proofs.Says.{writes_lead}
use Rattle.pp_clients_obey.specs.Closing.{MayWrite}
use Rattle.pp_clients_obey.specs.Ending.{IsSettled}
use Rattle.pp_clients_obey.specs.Hearing.{Sits}
use Rattle.pp_clients_obey.specs.Saying.{LeavesSome, OwesWrite, told_to}
use Rattle.pp_turns_law.proofs.Quit.{quit, same_client}
use Rattle.pp_turns_law.specs.Sides.{MayClose}
use Rattle.pp_turns_law.proofs.Changed.{get_set}
use Rattle.pp_turns_law.proofs.Regained.{get_other}
use Rattle.pp_turns_law.proofs.Sitting.{is_at, shown_at}
use Rattle.pp_turns_law.specs.Decides.{IsAtPlace}
use Rattle.pp_desk.specs.Calls.{write_log}
use Rattle.pp_desk.specs.Closings.{KeepsDesk, Sides, closed_client, peer_numbers, sides, with_parts}
use Rattle.pp_desk.specs.Replies.{EndsReplies}
use Rattle.pp_desk.specs.declared.desk.Desk.{Desk}
use Rattle.pp_due.specs.OnDisk.{next_on_disk}
use Rattle.pp_endings_law.proofs.Closes.{closes}
use Rattle.pp_endings_law.proofs.Left.{IsShut, is_shut}
use Rattle.pp_endings_law.proofs.Walk.{IsButFor, IsGood, IsStepped}
use Rattle.pp_events_law.proofs.Beside.{closes_one}
use Rattle.pp_events_law.proofs.Calls.{is_linked, its_side, told_as}
use Rattle.pp_events_law.proofs.Ends.{has_with, in_exchanges, loud}
use Rattle.pp_events_law.proofs.Heard.{client_may}
use Rattle.pp_events_law.proofs.Left.{AreLeft, closes_one as left_closed, left_then, replies_left, set_left}
use Rattle.pp_events_law.proofs.Newcomer.{rising}
use Rattle.pp_events_law.proofs.ReadyBehind.{ready_behind}
use Rattle.pp_events_law.proofs.Standing.{may_as}
use Rattle.pp_events_law.proofs.Touched.{client_link}
use Rattle.pp_events_law.specs.Hears.{AreSettled}
use Rattle.pp_events_law.specs.Ready.{HasLedReady, StaysReady}
use Rattle.pp_events_law.specs.Stands.{AreReadyAt, IsHandled, StandsAtEvent}
use Rattle.pp_flow_law.specs.Tables.{none_leaves}
use Rattle.pp_law.specs.After.{paid}
use Rattle.pp_law.specs.Closing.{close_client, is_of}
use Rattle.pp_law.specs.Connections.{exchange, is_client, is_exchange, on_client}
use Rattle.pp_law.specs.Lists.{Bytes, has_number}
use Rattle.pp_law.specs.Offers.{offer}
use Rattle.pp_law.specs.Permits.{is_said_of}
use Rattle.pp_law.specs.Replies.{end_replies, said_by, use_said}
use Rattle.pp_law.specs.State.{State, Client, Exchange, Handling, WriteTo}
use Rattle.pp_law.specs.Table.{Next, next_of}
use Rattle.pp_laws_turn.specs.SoundTurn.{IsSoundTurn}
use Rattle.pp_links.specs.Links.{has_link, is_link}
use Rattle.pp_objects.specs.Instances.{Instance, is_there}
use Rattle.pp_objects.specs.declared.id.ObjectId.{ObjectId}
use Rattle.pp_obeys.specs.Moves.{Leads}
use Rattle.pp_proxy.specs.Handling.{SaysAt}
use Rattle.pp_proxy.specs.Moving.{Turning}
use Rattle.pp_seats.specs.Follows.{answer_in, next_of as seat_next}
use Rattle.pp_seats.specs.Said.{used_by}
use Rattle.pp_seats.specs.Seats.{told_by}
use Rattle.pp_seats.specs.declared.seat.Next.{Next as SeatNext}
use Rattle.pp_seats.specs.declared.seat.Seat.{Seat}
use Rattle.pp_seats.specs.declared.seat.Stage.{Stage}
use Rattle.pp_seats_law.proofs.AllSeats.{places}
use Rattle.pp_seats_law.proofs.Nexts.{nexts}
use Rattle.pp_seats_law.proofs.SaidOn.{sayings}
use Rattle.pp_seats_law.proofs.Uses.{uses as uses_same}
use Rattle.pp_seats_law.specs.Clients.{AreShown, IsAt, IsFound}
use Rattle.pp_seats_law.specs.Seats.{ShowsSeat}
use Rattle.pp_seats_law.specs.Words.{HasSource, IsSameNext, ShowsNext}
use Rattle.pp_state.specs.Ends.{AreInOrder, Parts, numbers_of, parts, source_of}
use Rattle.pp_state.specs.declared.state.State.{State as Turn}
use Rattle.pp_states_law.proofs.Changed.{changes}
use Rattle.pp_states_law.proofs.Places.{at_place, numbers_set}
use Rattle.pp_states_law.specs.Steps.{ShowsSteps, whole}
use Rattle.pp_talk.specs.Loading.{LoadsWhere, StaysAll}
use Rattle.pp_talk.specs.Talking.{IsWritten, IsWrittenAt, offered, told_at, told_in, used_chunks}
use Rattle.pp_turns_law.proofs.Follows.{has_source, is_next}
use Rattle.pp_turns_law.proofs.Offering.{offers}
use Rattle.pp_turns_law.specs.Marks.{AreLoud}
use Rattle.pp_turns_law.specs.Turns.{IsFollowing}
use Rattle.pp_world.specs.Connections.{side_of}
use Rattle.pp_world.specs.Log.{AppendsAll, Log}
use Rattle.pp_world.specs.Wire.{by_side}
use Rattle.pp_world.specs.declared.event.Side.{Side}
use Rattle.pp_world.specs.declared.event.Side.TheVariants.{Client as OfClient}
use Rattle.pp_world.specs.declared.happening.Happening.TheVariants.{Asked, Broke, HungUp, Said}
use Rattle.pp_world.specs.declared.wire.WireFault.{WireFault}
use Rattle.pp_events_law.proofs.HandledBehind.{behind_handled, behind_next}
use Rattle.pp_events_law.proofs.Bytes.{offered_few, permitted}
use Rattle.pp_events_law.proofs.Kept.{said_follows, said_through}
use Rattle.pp_events_law.proofs.Rests.{all_rest, none_ends, quit_settled}
use Rattle.pp_events_law.proofs.Used.{IsChunks, IsOfNext, same_instances, same_lives, used_next, used_rest, uses}
use Rattle.pp_events_law.specs.Says.{MaySay}

-- ---- numbers

less_true : (n : ℕ) → 0 < n → nat_lt 0 n ≡ true
less_true n some = grind (arith, nat_tests, some)

small_still : (a b c : ℕ) → a ≤ b → b ≤ c → a ≤ c
small_still a b c one two = omega (arith, one, two)

-- ---- a write

module _ (number : ℕ → ℕ) (id i : ℕ) (x y : Turning) (seat : Seat) (s : State) (stands : StandsAtEvent number Handling (WriteTo id) x.moving s) (ready : AreReadyAt number x.moving s) (sound : IsSoundTurn s) (may : MaySay id i x seat) (bounded : IsBounded y.moving.desk.state.cache) (says : SaysAt i x y) where
  abbrev old : Desk
  old = x.moving.desk

  abbrev p : Turn
  p = old.state

  abbrev name : Bytes
  name = p.name.items

  abbrev seats : List Seat
  seats = p.seats.items

  abbrev os : Bytes
  os = offered seat.client.reply p.cache

  abbrev roused : Desk
  roused = says.roused

  sits : IsAt id i seats
  sits = at_place id i seats stands.desk.turn.steps.order may.place

  pub found : IsFound number name [] seat id s.clients
  found = places number name [] seats s.clients id i seat stands.desk.turn.steps.shows.clients sits may.here

  abbrev c : Client
  c = found.client

  its_number : c.number ≡ id
  its_number = same_client id s c found.there

  pub its_id : seat.client.id ≡ id
  its_id = found.shows.number ∙ its_number

  pub going : c.is_closing ≡ false
  going = sym found.shows.closing ∙ may.going

  follow : IsFollowing p.cache seat
  follow = (ready i seat may.here may.going).follows

  pub sitting : Sits id i seats seat
  sitting = record { at = sits; there = may.here; going = may.going }

  link : find (is_link id) x.moving.links ≡ Some (id, OfClient)
  link = client_link id i (numbers_of seats) x.moving.links may.place stands.opened.clients

  side : (l : Log) → x.log ≡ Some l → side_of seat.client.id l ≡ Some OfClient
  side l told = ap (λ (n : ℕ). side_of n l) its_id ∙ its_side x.log x.moving.top x.moving.links id OfClient l may.linked link told

  -- ---- it is looked at, and nothing has to be read

  pub is_loud : AreLoud roused.state
  is_loud = loud number i x y seat (WriteTo id) s stands ready sound may.here may.still may.settled roused says.rouses may.looks

  pub its_awake : has_number i roused.state.awake.items ≡ true
  its_awake = ap (λ (ns : List ℕ). has_number i ns) (says.rouses.awake (rising p.awake.items 0 (length seats) stands.awake.order) may.looks) ∙ has_with i p.awake.items

  nothing : option_and_then (next_on_disk roused.state) (slice_get roused.state.seats.items i) ≡ None
  nothing = ap (λ (d : Desk). option_and_then (next_on_disk d.state) (slice_get d.state.seats.items i)) says.rouses.rest ∙ ap (λ (o : Option Seat). option_and_then (next_on_disk p) o) may.here ∙ may.held

  stays : StaysAll x.shelf roused.state y.shelf says.says.loaded.state x.log says.says.between x.faults says.says.count
  stays = subst (λ (o : Option SeatNext). LoadsWhere o x.shelf roused.state y.shelf says.says.loaded.state x.log says.says.between x.faults says.says.count) nothing says.says.loads

  loaded_is : says.says.loaded ≡ roused
  loaded_is = ap (λ (t : Turn). record says.says.loaded { state = t }) stays.1 ∙ says.says.stays

  sides_are : sides says.says.loaded ≡ sides old
  sides_are = ap (λ (d : Desk). sides d) loaded_is ∙ ap (λ (d : Desk). sides d) says.rouses.rest

  abbrev next : Sides
  next = says.says.says.0

  abbrev Wrote : Option Seat → Sides → Option Log → Type 0
  Wrote o z l = IsWrittenAt o i x.moving.links z next l y.log

  pub wrote : IsWritten i seat x.moving.links (sides old) next x.log y.log
  wrote =
      subst (λ (o : Option Seat). Wrote o (sides old) x.log) may.here
      (subst (λ (z : Sides). Wrote (slice_get z.parts.seats i) z x.log) sides_are
      (subst (λ (l : Option Log). Wrote (slice_get (sides says.says.loaded).parts.seats i) (sides says.says.loaded) l) stays.2 says.says.says.1))

  pub ends : EndsReplies roused.state.awake.items next (sides y.moving.desk)
  ends = subst (λ (d : Desk). EndsReplies d.state.awake.items next (sides y.moving.desk)) loaded_is says.says.says.2

  pub keeps : KeepsDesk roused (record y.moving.desk { room = roused.room })
  keeps = subst (λ (d : Desk). KeepsDesk d (record y.moving.desk { room = d.room })) loaded_is says.says.rest

  pub called : is_some wrote.took ≡ true
  called = wrote.called ∙ ap₂ (λ (a b : Bool). a && b) (ap (λ (n : ℕ). has_link n x.moving.links) its_id ∙ is_linked id x.moving.links (id, OfClient) link) (less_true (length os) may.some)

  -- what stands behind it
  handled : (z : Sides) (m : State) → next ≡ z → IsGood number name z m → IsButFor s m → numbers_of z.parts.seats ≡ numbers_of seats → ((j : ℕ) → (i == j) ≡ false → slice_get z.parts.seats j ≡ slice_get seats j) → peer_numbers z.peers ≡ peer_numbers old.peers
      → IsHandled number y.moving (paid (end_replies m))
  handled z m is good rest numbers others peers =
      behind_handled number i x y (WriteTo id) s stands may.still roused says.rouses is_loud its_awake z m good rest numbers others peers (subst (λ (w : Sides). EndsReplies roused.state.awake.items w (sides y.moving.desk)) is ends) says.numbers keeps says.links says.top bounded

  -- each client that goes on can be decided
  handled_next : (z : Sides) (m : State) → next ≡ z → IsGood number name z m → IsButFor s m → numbers_of z.parts.seats ≡ numbers_of seats → ((j : ℕ) → (i == j) ≡ false → slice_get z.parts.seats j ≡ slice_get seats j) → peer_numbers z.peers ≡ peer_numbers old.peers
      → (paid (end_replies m)).next_instance ≡ s.next_instance
  handled_next z m is good rest numbers others peers =
      behind_next number i x y (WriteTo id) s stands may.still roused says.rouses is_loud its_awake z m good rest numbers others peers (subst (λ (w : Sides). EndsReplies roused.state.awake.items w (sides y.moving.desk)) is ends) says.numbers keeps says.links says.top bounded

  pub ready_then : (t : State) → IsHandled number y.moving t → t.next_instance ≡ s.next_instance → AreLeft (parts p) next.parts → StaysReady number x y t
  ready_then t behind same left = ready_behind number x y s t same (left_then (parts p) next.parts (parts y.moving.desk.state) left (replies_left roused.state.awake.items next (sides y.moving.desk) ends)) behind.follows ready

  pub once : (m : State) → m.exchanges ≡ s.exchanges → (n : ℕ) → count_by (is_of n) m.exchanges ≤ 1
  once m same n = subst (λ (es : List Exchange). count_by (is_of n) es ≤ 1) (sym same) (sound.once n)

  pub rests_so : (m : State) → m.exchanges ≡ s.exchanges → (n : ℕ) (e : Exchange) → exchange m n ≡ Some e → e.place ≡ None → (e.asked == 0) ≡ true
  rests_so m same n e there none = sound.rests e (in_exchanges n s.exchanges e (sym (ap (λ (es : List Exchange). find (is_exchange n) es) same) ∙ there)) none

  -- ---- its client is lost

  before_good : IsGood number name (sides old) s
  before_good = record {
    shows = record { steps = stands.desk.turn.steps; may = stands.desk.may };
    may = record { follow = λ j other d place on. (ready j other place.here (closing_at j other d place ∙ on)).follows; once = once s refl; rests = rests_so s refl };
    ends = λ j other d place on all. absurd (let both : true ≡ false = sym all ∙ (may.settled j other place.here).said (closing_at j other d place ∙ on) in cc both);
  }
    where
      closing_at : (j : ℕ) (other : Seat) (d : Client) → IsAtPlace j (parts p) s other d → other.is_closing ≡ d.is_closing
      closing_at j other d place =
          let shown : ShowsSeat number name [] other d = shown_at number name [] seats s.clients other.client.id j other d stands.desk.turn.steps.shows.clients (is_at j seats other stands.desk.turn.steps.order place.here) place.here place.there in
          shown.closing

  pub its_place : IsAtPlace i (parts p) s seat c
  its_place = record { here = may.here; there = ap (λ (n : ℕ). find (is_client n) s.clients) its_id ∙ found.there }

  abbrev lost : State
  lost = close_client id false s

  closed : IsStepped number name i (sides old) (closed_client i (sides old)) s lost
  closed = subst (λ (n : ℕ). IsStepped number name i (sides old) (closed_client i (sides old)) s (close_client n false s)) its_number (closes number name i false (sides old) s seat c before_good its_place going)

  shut : IsShut i (sides old) seat (closed_client i (sides old))
  shut = is_shut i (sides old) seat may.here

  closed_settled : AreSettled (closed_client i (sides old)).parts.seats
  closed_settled j other at = by (i == j) refl
    where
      by : (b : Bool) → (i == j) ≡ b → IsSettled other
      by false off = may.settled j other (sym (closed.others j off) ∙ at)
      by true is =
          let one : quit (source_of seat) seat ≡ other =
          some_is (quit (source_of seat) seat) other (sym (get_set i seats seat (quit (source_of seat) seat) may.here) ∙ ap (λ (ss : List Seat). slice_get ss i) (sym shut.seats) ∙ ap (λ (k : ℕ). slice_get (closed_client i (sides old)).parts.seats k) (is_same i j is) ∙ at) in
          subst IsSettled one (quit_settled (source_of seat) seat)

  none_more : end_replies lost ≡ lost
  none_more = none_ends lost (λ n d there. all_rest number name (closed_client i (sides old)).parts.seats lost.clients closed.good.shows.steps.shows.clients closed_settled n d there)

  may_write : MayWrite number [] id seats s
  may_write = record { none = stands.law.none; writes = stands.law.owes; shown = subst (λ (text : Bytes). AreShown number text [] seats s.clients) stands.desk.turn.name stands.desk.turn.steps.shows.clients }

  lost_handled : next ≡ closed_client i (sides old) → IsHandled number y.moving (paid (end_replies lost))
  lost_handled is = handled (closed_client i (sides old)) lost is closed.good closed.rest closed.numbers closed.others (closes_one i (sides old)).peers

  lost_next : next ≡ closed_client i (sides old) → (paid (end_replies lost)).next_instance ≡ s.next_instance
  lost_next is = handled_next (closed_client i (sides old)) lost is closed.good closed.rest closed.numbers closed.others (closes_one i (sides old)).peers

  pub fails : (fault : WireFault) → AppendsAll x.log y.log (write_log seat.client.id os (Some (Err fault))) → next ≡ closed_client i (sides old) → HasLedReady number x y s
  fails fault told is = record {
    led = record {
      log = HungUp id ∷ [];
      then = paid lost;
      handled = record {
        told = told_as x.log y.log (write_log seat.client.id os (Some (Err fault))) (HungUp id ∷ []) told (λ l log. ap₂ (λ (o : Option Side) (n : ℕ). by_side o (HungUp n) (Broke n) ∷ []) (side l log) its_id);
        leads = (losses_lead number id i [] seats seat (record seat { is_closing = true }) s sits may.here (record { number = refl; closing = refl }) may_write).0;
        handled = subst (λ (t : State). IsHandled number y.moving (paid t)) none_more (lost_handled is);
      };
    };
    ready = subst (λ (t : State). StaysReady number x y (paid t)) none_more (ready_then (paid (end_replies lost)) (lost_handled is) (lost_next is) (subst (λ (w : Sides). AreLeft (parts p) w.parts) (sym is) (left_closed i (sides old))));
  }

  -- ---- so much was taken

  pub said_told : (n : ℕ) → AppendsAll x.log y.log (write_log seat.client.id os (Some (Ok n))) → AppendsAll x.log y.log (λ l. Said id (length os) (take n os) ∷ [])
  said_told n told = told_as x.log y.log (write_log seat.client.id os (Some (Ok n))) (Said id (length os) (take n os) ∷ []) told (λ l log. ap₂ (λ (o : Option Side) (m : ℕ). by_side o (Said m (length os) (take n os)) (Asked m (take n os)) ∷ []) (side l log) its_id)

  has_its : HasSource s c
  has_its = has_source number none_leaves old.peers p s name seat c stands.desk.turn found.shows going follow

  its_nexts : ShowsNext number (seat_next seat) (next_of s c)
  its_nexts = nexts number s name [] seat c found.shows (λ on. has_its)

  offers_it : at_hand seat.client.reply p.cache.chunks ≡ offer s c
  offers_it = offers number none_leaves old.peers p s name seat c stands.desk.turn found.shows going follow

  pub owes : (n : ℕ) → n ≤ length os → OwesWrite number [] id (length os) (take n os) seats s
  owes n few = record {
    none = stands.law.none;
    writes = stands.law.owes;
    shown = subst (λ (text : Bytes). AreShown number text [] seats s.clients) stands.desk.turn.name stands.desk.turn.steps.shows.clients;
    first = λ d there. subst (λ (e : Client). is_said_of (length os) (take n os) (offer s e) ≡ true) (some_is c d (sym found.there ∙ there)) (permitted n seat.client.reply p.cache (offer s c) offers_it may.some few);
  }

  module _ (n : ℕ) (few : n ≤ length os) where
    pub left_few : n ≤ left_next seat.client.reply
    left_few = small_still n (length os) (left_next seat.client.reply) few (offered_few seat.client.reply p.cache may.some)

    abbrev new : Seat
    new = told_by n seat

    abbrev cache : Memory
    cache = used_chunks (used_by n seat) p.cache

    abbrev q : Parts
    q = record (parts p) { cache = cache }

    abbrev z : Sides
    z = record (sides old) { parts = record (parts p) { seats = slice_set seats i new; cache = cache } }

    pub z_is : with_parts (told_at i n) (sides old) ≡ z
    z_is =
        ap (λ (o : Option Seat). let w : Sides = record (sides old) { parts = told_in o i n (parts p) } in w) may.here
        ∙ ap (λ (o : Option Seat). let w : Sides = record (sides old) { parts = record (parts p) { seats = elim o as (λ t. List Seat) [ None ↦ seats | Some other ↦ slice_set seats i (told_by n other) ]; cache = cache } } in w) may.here

    abbrev u : State
    u = use_said n c s

    abbrev m : State
    m = on_client id (said_by n) u

    pub used : IsChunks s u
    used = used_rest n c s

    there : (one : SeatNext) (two : Next) → used_by n seat ≡ Some one → next_of s c ≡ Some two → is_there one.source p.cache.instances ≡ true
    there one two its law =
        let w : IsOfNext seat one = used_next n seat one its in
        let same : IsSameNext number w.next two = subst (λ (o : Option Next). ShowsNext number (Some w.next) o) law (subst (λ (o : Option SeatNext). ShowsNext number o (next_of s c)) w.its its_nexts) in
        subst (λ (k : ObjectId). is_there k p.cache.instances ≡ true) w.source (is_next number none_leaves old.peers p s name seat c w.next two stands.desk.turn found.shows going follow w.its law same).there

    small : (one : SeatNext) → used_by n seat ≡ Some one → one.to ≤ 1073741824
    small one its = let w : IsOfNext seat one = used_next n seat one its in small_still one.to w.next.to 1073741824 w.to (may.within w.next w.its)

    pub used_steps : ShowsSteps number name none_leaves old.peers q u
    used_steps = uses number name old.peers (parts p) s stands.desk.turn.steps n seat c (uses_same number n s name [] seat c found.shows going has_its left_few) there small

    pub told_left : next ≡ with_parts (told_at i n) (sides old) → AreLeft (parts p) next.parts
    told_left is =
        subst (λ (w : Sides). AreLeft (parts p) w.parts) (sym (is ∙ z_is))
        (record {
          was = set_left i seats seat new may.here (record { going = λ on. on; joins = λ id plain it. it });
          lives = same_lives (used_by n seat) p.cache;
          there = λ id at. subst (λ (is : List Instance). is_there id is ≡ true) (same_instances (used_by n seat) p.cache) at;
        })

    -- not the last of its reply
    module _ (more : is_said (said n seat.client.reply) ≡ false) where
      -- its reply goes on
      new_client : new.client ≡ record seat.client { reply = said n seat.client.reply }
      new_client = ap (λ (b : Bool). elim b as (λ t. ClientSide) [ true ↦ record seat.client { heard = answered seat.client.heard; reply = ended_reply (said n seat.client.reply) } | false ↦ record seat.client { reply = said n seat.client.reply } ]) more

      new_number : new.client.id ≡ seat.client.id
      new_number = ap (λ (k : ClientSide). k.id) new_client

      steps : ShowsSteps number name none_leaves old.peers (record (parts p) { seats = slice_set seats i new; cache = cache }) m
      unfolding on_client
      steps = record {
        shows = changes number name [] none_leaves (whole q old.peers) u used_steps.shows id i new (said_by n) sits (λ k d. said_follows n k d)
            (λ other d at its shows. sayings number n name [] seat d (subst (λ (o : Seat). ShowsSeat number name [] o d) (same_other other at) shows) (sym (shows_closing other d at shows) ∙ may.going) left_few more);
        order = subst (λ (ns : List ℕ). AreInOrder ns) (sym (numbers_set i seats seat new may.here new_number)) stands.desk.turn.steps.order;
        told = used_steps.told;
        refused = stands.desk.turn.steps.refused;
      }
        where
          same_other : (other : Seat) → slice_get seats i ≡ Some other → other ≡ seat
          same_other other at = some_is other seat (sym at ∙ may.here)

          shows_closing : (other : Seat) (d : Client) → slice_get seats i ≡ Some other → ShowsSeat number name [] other d → seat.is_closing ≡ d.is_closing
          shows_closing other d at shows = ap (λ (o : Seat). o.is_closing) (sym (same_other other at)) ∙ shows.closing

      closes_so : MayClose m
      closes_so = client_may id (said_by n) (said_through n) u (may_as s u (ap (λ (t : State). t.clients) used) (ap (λ (t : State). t.exchanges) used) (ap (λ (t : State). t.conns) used) stands.desk.may)

      same_exchanges : m.exchanges ≡ s.exchanges
      unfolding on_client
      same_exchanges = ap (λ (t : State). t.exchanges) used

      rest : IsButFor s m
      unfolding on_client
      rest = ap (λ (t : State). record t { clients = m.clients; conns = u.conns; exchanges = u.exchanges; instances = u.instances; chunks = u.chunks }) used

      -- each that is there was there, and only this one said some
      record WasSo (j : ℕ) (other : Seat) : Type 0 where
        before : Seat
        was : slice_get seats j ≡ Some before
        stage : other.stage ≡ before.stage
        closing : other.is_closing ≡ before.is_closing
        unsaid : other.is_closing ≡ false → is_said other.client.reply ≡ false

      was_so : (j : ℕ) (other : Seat) → slice_get (slice_set seats i new) j ≡ Some other → WasSo j other
      was_so j other at = by (i == j) refl
        where
          by : (b : Bool) → (i == j) ≡ b → WasSo j other
          by false off = let here : slice_get seats j ≡ Some other = sym (get_other i j seats new off) ∙ at in record { before = other; was = here; stage = refl; closing = refl; unsaid = (may.settled j other here).said }
          by true same =
              let one : new ≡ other = some_is new other (sym (get_set i seats seat new may.here) ∙ ap (λ (k : ℕ). slice_get (slice_set seats i new) k) (is_same i j same) ∙ at) in
              record {
                before = seat;
                was = ap (λ (k : ℕ). slice_get seats k) (sym (is_same i j same)) ∙ may.here;
                stage = ap (λ (o : Seat). o.stage) (sym one);
                closing = ap (λ (o : Seat). o.is_closing) (sym one);
                unsaid = λ on. ap (λ (o : Seat). is_said o.client.reply) (sym one) ∙ ap (λ (k : ClientSide). is_said k.reply) new_client ∙ more;
              }

      closing_at : (j : ℕ) (other : Seat) (d : Client) → IsAtPlace j z.parts m other d → other.is_closing ≡ d.is_closing
      closing_at j other d place =
          let shown : ShowsSeat number name [] other d = shown_at number name [] z.parts.seats m.clients other.client.id j other d steps.shows.clients (is_at j z.parts.seats other steps.order place.here) place.here place.there in
          shown.closing

      good : IsGood number name z m
      good = record {
        shows = record { steps = steps; may = closes_so };
        may = record {
          follow = λ j other d place on a k answer source.
              let was : WasSo j other = was_so j other place.here in
              subst (λ (is : List Instance). is_there k is ≡ true) (sym (same_instances (used_by n seat) p.cache))
              ((ready j was.before was.was (sym was.closing ∙ closing_at j other d place ∙ on)).follows a k (sym (ap (λ (t : Stage). answer_in t) was.stage) ∙ answer) source);
          once = once m same_exchanges;
          rests = rests_so m same_exchanges;
        };
        ends = λ j other d place on all. absurd (let both : true ≡ false = sym all ∙ (was_so j other place.here).unsaid (closing_at j other d place ∙ on) in cc both);
      }

      as_long : length (take n os) ≡ n
      as_long = length-take-le n os few

      leaves : LeavesSome seat (take n os)
      leaves = record { few = subst (λ (k : ℕ). k ≤ left_next seat.client.reply) (sym as_long) left_few; more = ap (λ (k : ℕ). is_said (said k seat.client.reply)) as_long ∙ more }

      leads : Leads (Said id (length os) (take n os) ∷ []) s (paid (end_replies m))
      leads = subst (λ (k : ℕ). Leads (Said id (length os) (take n os) ∷ []) s (paid (end_replies (told_to k id c s)))) as_long (writes_lead number id i (length os) [] seats seat (take n os) c s found.there sitting leaves (owes n few)).0

      part_handled : next ≡ with_parts (told_at i n) (sides old) → IsHandled number y.moving (paid (end_replies m))
      part_handled is = handled z m (is ∙ z_is) good rest (numbers_set i seats seat new may.here new_number) (λ j off. get_other i j seats new off) refl

      pub part_said : AppendsAll x.log y.log (write_log seat.client.id os (Some (Ok n))) → next ≡ with_parts (told_at i n) (sides old) → HasLedReady number x y s
      part_said told is = record {
        led = record { log = Said id (length os) (take n os) ∷ []; then = paid (end_replies m); handled = record { told = said_told n told; leads = leads; handled = part_handled is } };
        ready = ready_then (paid (end_replies m)) (part_handled is) (handled_next z m (is ∙ z_is) good rest (numbers_set i seats seat new may.here new_number) (λ j off. get_other i j seats new off) refl) (told_left is);
      }
