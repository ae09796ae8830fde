-- A client is read, and the turn stands behind what it brought.
use Rattle.std.proofs.Common.{◌≡◌, ◌≤◌, ◌<◌, refl, sym, subst, ap, ap₂, ◌∙◌, ℕ, zero, suc, Bool, true, ◌&&◌, find, length, length-take-le, min, nat_lt, take, is_some, List, [], ◌∷◌, Option, Some, None, Ok, Err, arith}
use Rattle.std.proofs.lemmas.Bool.Decides.{nat_tests}
use Rattle.std.specs.Prelude.{slice_get, slice_set, IfOk, IfSome}
use Rattle.pp_cache.specs.Bounds.{IsBounded}
use Rattle.pp_cache_law.proofs.Numbers.{is_same, some_is}
use Rattle.pp_client.specs.Requests.{room_of}
use Rattle.pp_clients_obey.proofs.Hears.{hang_ups_lead, nones_lead, reads_lead}
use Rattle.pp_clients_obey.specs.Hearing.{HasCome, OwesRead, Sits, hung_up}
use Rattle.pp_desk.specs.Calls.{Found, read_log}
use Rattle.pp_desk.specs.Closings.{Sides, sides}
use Rattle.pp_desk.specs.declared.desk.Desk.{Desk}
use Rattle.pp_flow_law.specs.Tables.{none_leaves}
use Rattle.pp_law.specs.After.{paid}
use Rattle.pp_law.specs.Connections.{on_client}
use Rattle.pp_law.specs.Hearing.{heard_by}
use Rattle.pp_law.specs.Lists.{Bytes}
use Rattle.pp_law.specs.Replies.{end_replies}
use Rattle.pp_law.specs.State.{State, Client, Handling, ReadOf}
use Rattle.pp_laws_turn.specs.SoundTurn.{IsSoundTurn}
use Rattle.pp_links.specs.Links.{has_link, is_link}
use Rattle.pp_proxy.specs.Handling.{HearsAt}
use Rattle.pp_proxy.specs.Moving.{Turning}
use Rattle.pp_seats.specs.Seats.{IsRead}
use Rattle.pp_seats.specs.declared.seat.Seat.{Seat}
use Rattle.pp_seats_law.proofs.Hears.{hang_ups, reads}
use Rattle.pp_seats_law.specs.Clients.{AreShown, IsAt}
use Rattle.pp_seats_law.specs.Reads.{heard_on}
use Rattle.pp_seats_law.specs.Seats.{ShowsSeat}
use Rattle.pp_state.specs.Ends.{AreInOrder, changed_at, numbers_of, parts}
use Rattle.pp_state.specs.Places.{IsChangedAt, IsChangedIn}
use Rattle.pp_state.specs.declared.state.State.{State as Turn}
use Rattle.pp_states_law.proofs.Changed.{changes}
use Rattle.pp_states_law.specs.Clients.{FollowsOn}
use Rattle.pp_states_law.proofs.Kept.{GoesThrough}
use Rattle.pp_states_law.proofs.Places.{at_place, numbers_set}
use Rattle.pp_states_law.specs.Steps.{ShowsSteps, whole}
use Rattle.pp_talk.specs.Talking.{IsReadFrom, IsReadAt, TakesIn, heard_by as heard_at}
use Rattle.pp_world.specs.Connections.{side_of}
use Rattle.pp_world.specs.Log.{AppendsAll, Log}
use Rattle.pp_world.specs.Wire.{IsWithin, by_side}
use Rattle.pp_world.specs.declared.event.Got.TheVariants.{Bytes as Came, End, NotYet}
use Rattle.pp_world.specs.declared.event.Side.{Side}
use Rattle.pp_world.specs.declared.event.Side.TheVariants.{Client as OfClient}
use Rattle.pp_world.specs.declared.happening.Happening.TheVariants.{Broke, Ended, Got as GotBytes, Heard, HungUp, NoneYet}
use Rattle.pp_world.specs.declared.wire.WireFault.{WireFault}
use Rattle.pp_events_law.proofs.Calls.{is_linked, its_side, told_as}
use Rattle.pp_events_law.proofs.Ends.{end_handled, end_ready}
use Rattle.pp_events_law.proofs.Heard.{IsSameReply, client_may, heard_follows, heard_through, hung_through, read_same}
use Rattle.pp_events_law.proofs.Left.{IsLeft, left_as, read_left}
use Rattle.pp_events_law.proofs.Rests.{all_rest, none_ends}
use Rattle.pp_events_law.proofs.Touched.{client_link}
use Rattle.pp_events_law.specs.Hears.{HearingsLead, MayHear}
use Rattle.pp_events_law.specs.Ready.{HasLedReady, StaysReady}
use Rattle.pp_events_law.specs.Stands.{AreReadyAt, IsHandled, StandsAtEvent}

set_same : (i : ℕ) (seats : List Seat) (seat : Seat) → slice_get seats i ≡ Some seat → slice_set seats i seat ≡ seats
set_same i [] seat here = refl
set_same zero (first ∷ seats) seat here = ap (λ (o : Seat). o ∷ seats) (sym (some_is first seat here))
set_same (suc i) (first ∷ seats) seat here = ap (λ (ss : List Seat). first ∷ ss) (set_same i seats seat here)

set_twice : (i : ℕ) (seats : List Seat) (one two : Seat) → slice_set (slice_set seats i one) i two ≡ slice_set seats i two
set_twice i [] one two = refl
set_twice zero (first ∷ seats) one two = refl
set_twice (suc i) (first ∷ seats) one two = ap (λ (ss : List Seat). first ∷ ss) (set_twice i seats one two)

get_after : (i : ℕ) (seats : List Seat) (seat new : Seat) → slice_get seats i ≡ Some seat → slice_get (slice_set seats i new) i ≡ Some new
get_after i [] seat new here = absurd (cc here)
get_after zero (first ∷ seats) seat new here = refl
get_after (suc i) (first ∷ seats) seat new here = get_after i seats seat new here

one_at_least : (n : ℕ) → 0 < n → 1 ≤ n
one_at_least n some = omega (arith, some)

less_true : (n : ℕ) → 0 < n → nat_lt 0 n ≡ true
less_true n some = grind (arith, nat_tests, some)

some_room : (a b n : ℕ) → n ≡ min a b → 0 < a → 0 < b → 0 < n
some_room a b n is one two = omega (arith, is, one, two)

within_room : (a b n m : ℕ) → n ≡ min a b → m ≤ n → m ≤ a
within_room a b n m is less = omega (arith, is, less)

number_here : (i : ℕ) (seats : List Seat) (n : ℕ) (seat : Seat) → IsAt n i seats → slice_get seats i ≡ Some seat → seat.client.id ≡ n
number_here i [] n seat at here = absurd at
number_here zero (first ∷ seats) n seat at here = ap (λ (o : Seat). o.client.id) (sym (some_is first seat here)) ∙ is_same first.client.id n at.0
number_here (suc i) (first ∷ seats) n seat at here = number_here i seats n seat at.1 here

-- ---- what the read brought

module _ (number : ℕ → ℕ) (id i : ℕ) (x y : Turning) (seat : Seat) (s : State) (stands : StandsAtEvent number Handling (ReadOf id) x.moving s) (ready : AreReadyAt number x.moving s) (sound : IsSoundTurn s) (may : MayHear id i x seat) (bounded : IsBounded y.moving.desk.state.cache) (hears : HearsAt i x y) where
  abbrev old : Desk
  old = x.moving.desk

  abbrev p : Turn
  p = old.state

  abbrev name : Bytes
  name = p.name.items

  abbrev seats : List Seat
  seats = p.seats.items

  abbrev next : Sides
  next = hears.hears.0

  sits : IsAt id i seats
  sits = at_place id i seats stands.desk.turn.steps.order may.place

  its_id : seat.client.id ≡ id
  its_id = number_here i seats id seat sits may.here

  same_sides : sides hears.roused ≡ sides old
  same_sides = ap (λ (d : Desk). sides d) hears.rouses.rest

  read : IsReadFrom (length hears.roused.buffer.items) i seat x.moving.links (sides hears.roused) next x.log y.log
  read = subst (λ (o : Option Seat). IsReadAt o (length hears.roused.buffer.items) i x.moving.links (sides hears.roused) next x.log y.log) (ap (λ (z : Sides). slice_get z.parts.seats i) same_sides ∙ may.here) hears.hears.1

  link : find (is_link id) x.moving.links ≡ Some (id, OfClient)
  link = client_link id i (numbers_of seats) x.moving.links may.place stands.opened.clients

  long : 0 < length read.front
  long = some_room (room_of seat.client.heard) (length hears.roused.buffer.items) (length read.front) read.room may.room (subst (λ (n : ℕ). 0 < n) (sym (ap (λ (d : Desk). length d.buffer.items) hears.rouses.rest)) may.long)

  called : is_some read.found ≡ true
  called = read.called ∙ ap₂ (λ (a b : Bool). a && b) (ap (λ (n : ℕ). has_link n x.moving.links) its_id ∙ is_linked id x.moving.links (id, OfClient) link) (less_true (length read.front) long)

  side : (l : Log) → x.log ≡ Some l → side_of seat.client.id l ≡ Some OfClient
  side l told = ap (λ (n : ℕ). side_of n l) its_id ∙ its_side x.log x.moving.top x.moving.links id OfClient l may.linked link told

  owes : OwesRead number [] id seats s
  owes = record { none = stands.law.none; reads = stands.law.owes; shown = subst (λ (text : Bytes). AreShown number text [] seats s.clients) stands.desk.turn.name stands.desk.turn.steps.shows.clients }

  sitting : Sits id i seats seat
  sitting = record { at = sits; there = may.here; going = may.going }

  -- whether this life went astray by it is none of the law's
  abbrev astray : Bool
  astray = next.parts.is_astray

  -- the parts with another seat there
  abbrev with_seat : Seat → Sides
  with_seat new = record (sides old) { parts = record (parts p) { seats = slice_set seats i new; is_astray = astray } }

  next_as : (new : Seat) → next.parts.seats ≡ slice_set seats i new → next ≡ with_seat new
  next_as new is =
      ap (λ (z : Sides). record z { parts = record z.parts { seats = next.parts.seats; is_astray = astray } }) (read.is.rest ∙ same_sides) ∙ ap (λ (ss : List Seat). record (sides old) { parts = record (parts p) { seats = ss; is_astray = astray } }) is

  -- and the law's client there changed as well
  module _ (new : Seat) (f : Client → Client) (like : IsSameReply seat new) (goes : GoesThrough f) (follows_on : FollowsOn f) (one : (c : Client) → ShowsSeat number name [] seat c → ShowsSeat number name [] new (f c)) where
    shown : ShowsSteps number name none_leaves old.peers (record (parts p) { seats = slice_set seats i new; is_astray = astray }) (on_client id f s)
    unfolding on_client
    shown = record {
      shows = changes number name [] none_leaves (whole (parts p) old.peers) s stands.desk.turn.steps.shows id i new f sits follows_on (λ other c at there shows. one c (subst (λ (o : Seat). ShowsSeat number name [] o c) (some_is other seat (sym at ∙ may.here)) shows));
      order = subst (λ (ns : List ℕ). AreInOrder ns) (sym (numbers_set i seats seat new may.here like.id)) stands.desk.turn.steps.order;
      told = stands.desk.turn.steps.told;
      refused = stands.desk.turn.steps.refused;
    }

    rest : on_client id f s ≡ record s { clients = (on_client id f s).clients }
    unfolding on_client
    rest = refl

    handled : next.parts.seats ≡ slice_set seats i new → IsHandled number y.moving (paid (end_replies (on_client id f s)))
    handled is =
        end_handled number i x y seat (ReadOf id) s stands ready sound may.here may.still may.settled hears.roused hears.rouses may.looks astray new (on_client id f s) shown (client_may id f goes s stands.desk.may) like rest next (next_as new is) hears.hears.2 hears.numbers hears.rest hears.one.links hears.one.top bounded

    stays_ready : IsLeft seat new → next.parts.seats ≡ slice_set seats i new → StaysReady number x y (paid (end_replies (on_client id f s)))
    stays_ready left is =
        end_ready number i x y seat (ReadOf id) s stands ready sound may.here may.still may.settled hears.roused hears.rouses may.looks astray new (on_client id f s) shown (client_may id f goes s stands.desk.may) like rest next (next_as new is) hears.hears.2 hears.numbers hears.rest hears.one.links hears.one.top bounded left

  -- ---- bytes came

  abbrev heard : Bytes → Seat
  heard bytes = heard_on bytes seat

  abbrev found_as : Found → Type 0
  found_as found = (AppendsAll x.log y.log (read_log seat.client.id found read.front)) × IfSome found (λ r. IfOk r (IsWithin (length read.front))) × TakesIn found read.front i (sides hears.roused) next

  set_at : (f : Seat → Seat) → changed_at i f (sides hears.roused).parts.seats ≡ slice_set seats i (f seat)
  set_at f = ap (λ (z : Sides). changed_at i f z.parts.seats) same_sides ∙ ap (λ (o : Option Seat). elim o as (λ t. List Seat) [ None ↦ seats | Some other ↦ slice_set seats i (f other) ]) may.here

  module _ (n : ℕ) (found : found_as (Some (Ok (Came n)))) where
    abbrev bytes : Bytes
    bytes = take n read.front

    as_long : length bytes ≡ n
    as_long = length-take-le n read.front found.1.1

    -- it is read as a request
    change : IsChangedIn IsRead (Some (heard bytes)) i (slice_set seats i (heard bytes)) next.parts.seats
    change = subst (λ (o : Option Seat). IsChangedIn IsRead o i (slice_set seats i (heard bytes)) next.parts.seats) (get_after i seats seat (heard bytes) may.here)
        (subst (λ (ss : List Seat). IsChangedAt IsRead i ss next.parts.seats) (set_at (heard_at (Some (Ok (Came n))) read.front)) found.2.seats)

    abbrev after : Seat
    after = change.0

    is_read : IsRead (heard bytes) after
    is_read = change.1

    like : IsSameReply (heard bytes) after
    like = read_same (heard bytes) after is_read

    becomes : next.parts.seats ≡ slice_set seats i after
    becomes = change.2 ∙ set_twice i seats (heard bytes) after

    has_come : HasCome seat bytes
    has_come = record {
      some = subst (λ (m : ℕ). 1 ≤ m) (sym as_long) (one_at_least n found.1.0);
      within = subst (λ (m : ℕ). m ≤ room_of seat.client.heard) (sym as_long) (within_room (room_of seat.client.heard) (length hears.roused.buffer.items) (length read.front) n read.room found.1.1);
    }

    now_like : IsSameReply seat after
    now_like = record { id = like.id; stage = like.stage; reply = like.reply; closing = like.closing }

    now_shown : (c : Client) → ShowsSeat number name [] seat c → ShowsSeat number name [] after (heard_by bytes c)
    now_shown c shows = reads number name [] seat after c bytes shows (sym shows.closing ∙ may.going) is_read

    was_read : IsLeft (heard bytes) after
    was_read = read_left (heard bytes) after is_read

    came : HasLedReady number x y s
    came = record {
      led = record {
        log = Heard id bytes ∷ [];
        then = paid (end_replies (on_client id (heard_by bytes) s));
        handled = record {
          told = told_as x.log y.log (read_log seat.client.id (Some (Ok (Came n))) read.front) (Heard id bytes ∷ []) found.0
              (λ l told. ap₂ (λ (o : Option Side) (m : ℕ). by_side o (Heard m bytes) (GotBytes m bytes) ∷ []) (side l told) its_id);
          leads = (reads_lead number id i [] seats seat after bytes s sitting has_come is_read owes).0;
          handled = handled after (heard_by bytes) now_like (heard_through bytes) (heard_follows bytes) now_shown becomes;
        };
      };
      ready = stays_ready after (heard_by bytes) now_like (heard_through bytes) (heard_follows bytes) now_shown (record { going = was_read.going; joins = was_read.joins }) becomes;
    }

  -- ---- no more comes

  hangs_up : AppendsAll x.log y.log (λ l. HungUp id ∷ []) → next.parts.seats ≡ slice_set seats i (record seat { has_hung_up = true }) → HasLedReady number x y s
  hangs_up told becomes = record {
    led = record {
      log = HungUp id ∷ [];
      then = paid (end_replies (on_client id hung_up s));
      handled = record {
        told = told;
        leads = (hang_ups_lead number id i [] seats seat s sitting owes).0;
        handled = handled (record seat { has_hung_up = true }) hung_up (record { id = refl; stage = refl; reply = refl; closing = refl }) hung_through (λ other c. refl) (λ c shows. hang_ups number name [] seat c shows) becomes;
      };
    };
    ready = stays_ready (record seat { has_hung_up = true }) hung_up (record { id = refl; stage = refl; reply = refl; closing = refl }) hung_through (λ other c. refl) (λ c shows. hang_ups number name [] seat c shows) (record { going = λ on. on; joins = λ k plain is. is }) becomes;
  }

  ended : found_as (Some (Ok End)) → HasLedReady number x y s
  ended found = hangs_up (told_as x.log y.log (read_log seat.client.id (Some (Ok End)) read.front) (HungUp id ∷ []) found.0 (λ l told. ap₂ (λ (o : Option Side) (m : ℕ). by_side o (HungUp m) (Ended m) ∷ []) (side l told) its_id))
      (found.2.seats ∙ set_at (heard_at (Some (Ok End)) read.front))

  failed : (fault : WireFault) → found_as (Some (Err fault)) → HasLedReady number x y s
  failed fault found = hangs_up (told_as x.log y.log (read_log seat.client.id (Some (Err fault)) read.front) (HungUp id ∷ []) found.0 (λ l told. ap₂ (λ (o : Option Side) (m : ℕ). by_side o (HungUp m) (Broke m) ∷ []) (side l told) its_id))
      (found.2.seats ∙ set_at (heard_at (Some (Err fault)) read.front))

  -- ---- nothing came yet

  none_over : end_replies s ≡ s
  none_over = none_ends s (λ n c there. all_rest number name seats s.clients stands.desk.turn.steps.shows.clients may.settled n c there)

  same_steps : ShowsSteps number name none_leaves old.peers (record (parts p) { seats = slice_set seats i seat; is_astray = astray }) s
  same_steps =
      let steps : ShowsSteps number name none_leaves old.peers (parts p) s = stands.desk.turn.steps in
      subst (λ (ss : List Seat). ShowsSteps number name none_leaves old.peers (record (parts p) { seats = ss; is_astray = astray }) s) (sym (set_same i seats seat may.here))
      (record { shows = steps.shows; order = steps.order; told = steps.told; refused = steps.refused })

  nothing : found_as (Some (Ok NotYet)) → HasLedReady number x y s
  nothing found = record {
    led = record {
      log = NoneYet id ∷ [];
      then = paid s;
      handled = record {
        told = told_as x.log y.log (read_log seat.client.id (Some (Ok NotYet)) read.front) (NoneYet id ∷ []) found.0 (λ l told. ap (λ (m : ℕ). NoneYet m ∷ []) its_id);
        leads = nones_lead number id [] seats s owes;
        handled = subst (λ (t : State). IsHandled number y.moving (paid t)) none_over
            (end_handled number i x y seat (ReadOf id) s stands ready sound may.here may.still may.settled hears.roused hears.rouses may.looks astray seat s same_steps stands.desk.may
            (record { id = refl; stage = refl; reply = refl; closing = refl }) refl next (next_as seat (found.2.seats ∙ set_at (heard_at (Some (Ok NotYet)) read.front))) hears.hears.2 hears.numbers hears.rest hears.one.links hears.one.top bounded);
      };
    };
    ready = subst (λ (t : State). StaysReady number x y (paid t)) none_over
        (end_ready number i x y seat (ReadOf id) s stands ready sound may.here may.still may.settled hears.roused hears.rouses may.looks astray seat s same_steps stands.desk.may
        (record { id = refl; stage = refl; reply = refl; closing = refl }) refl next (next_as seat (found.2.seats ∙ set_at (heard_at (Some (Ok NotYet)) read.front))) hears.hears.2 hears.numbers hears.rest hears.one.links hears.one.top bounded (left_as seat));
  }

  by_found : (found : Found) → is_some found ≡ true → found_as found → HasLedReady number x y s
  by_found None none found = absurd (cc none)
  by_found (Some (Ok (Came n))) some found = came n found
  by_found (Some (Ok End)) some found = ended found
  by_found (Some (Ok NotYet)) some found = nothing found
  by_found (Some (Err fault)) some found = failed fault found

  lead : HasLedReady number x y s
  lead = by_found read.found called (read.told, read.within, read.is)

pub hearings_lead : HearingsLead
hearings_lead number id i x y seat s stands ready sound may bounded hears = lead number id i x y seat s stands ready sound may bounded hears
