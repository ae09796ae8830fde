-- The event of a client that can be read, from the wait on.
use Rattle.std.proofs.Common.{◌≡◌, ◌<◌, sym, subst, ap, ◌∙◌, ℕ, Bool, ◌&&◌, ◌||◌, not, length, nat_lt, List, [], ◌∷◌, Option, Some}
use Rattle.std.specs.Prelude.{vec_capacity}
use Rattle.pp_cache.specs.Bounds.{IsBounded}
use Rattle.pp_cache_law.proofs.Numbers.{some_is}
use Rattle.pp_client.specs.Replies.{Reply, is_said}
use Rattle.pp_client.specs.Requests.{Heard, body_in, room_of}
use Rattle.pp_clients_obey.specs.Ending.{IsSettled}
use Rattle.pp_desk.specs.declared.desk.Desk.{Desk}
use Rattle.pp_law.specs.After.{event, owing}
use Rattle.pp_law.specs.State.{State, Awaiting, Free, ReadOf}
use Rattle.pp_laws_turn.specs.SoundTurn.{IsSoundTurn}
use Rattle.pp_obeys.proofs.Moving.{lead_joined}
use Rattle.pp_proxy.specs.Handling.{HearsAt, ReadsAt, ReadsBy}
use Rattle.pp_proxy.specs.Moving.{Turning, at_desk}
use Rattle.pp_seats.specs.Heads.{is_there_in}
use Rattle.pp_seats.specs.Seats.{finished_in}
use Rattle.pp_seats.specs.declared.front.Front.{Front}
use Rattle.pp_seats.specs.declared.seat.Seat.{Seat}
use Rattle.pp_state.specs.Ends.{numbers_of, parts, place_of}
use Rattle.pp_states_law.proofs.Places.{HasSeat, at_place, has_seat}
use Rattle.pp_world.specs.declared.event.Event.TheVariants.{Readable}
use Rattle.pp_world.specs.declared.happening.Happening.TheVariants.{CanRead}
use Rattle.pp_events_law.proofs.Alike.{AreAlike, IsAlike, WasAlike}
use Rattle.pp_events_law.proofs.Hears.{hearings_lead}
use Rattle.pp_events_law.proofs.ReadyBehind.{given_on}
use Rattle.pp_events_law.proofs.Woken.{client_reads, woken_alike}
use Rattle.pp_events_law.specs.Hears.{MayHear}
use Rattle.pp_events_law.specs.Readable.{ClientReadsLead}
use Rattle.pp_events_law.specs.Ready.{HasLedReady, HasLedReadyBehind}
use Rattle.pp_events_law.specs.Stands.{AreReadyAt, StandsAtEvent, come}
use Rattle.pp_events_law.specs.Woken.{IsOwed}

-- ---- nothing that is settled changes

finished_as : (seat new : Seat) → IsAlike seat new → finished_in new ≡ finished_in seat
finished_as seat new is =
    ap (λ (b : Bool). b && not new.is_closing && (not (is_there_in new.front) || nat_lt (length (body_in new.client.heard)) new.body_left)) is.hung_up
    ∙ ap (λ (b : Bool). seat.has_hung_up && not b && (not (is_there_in new.front) || nat_lt (length (body_in new.client.heard)) new.body_left)) is.closing
    ∙ ap (λ (f : Front). seat.has_hung_up && not seat.is_closing && (not (is_there_in f) || nat_lt (length (body_in new.client.heard)) new.body_left)) is.front
    ∙ ap (λ (h : Heard). seat.has_hung_up && not seat.is_closing && (not (is_there_in seat.front) || nat_lt (length (body_in h)) new.body_left)) is.heard
    ∙ ap (λ (n : ℕ). seat.has_hung_up && not seat.is_closing && (not (is_there_in seat.front) || nat_lt (length (body_in seat.client.heard)) n)) is.body_left

pub settled_as : (seat new : Seat) → IsAlike seat new → IsSettled seat → IsSettled new
settled_as seat new is settled = record { said = λ going. ap (λ (r : Reply). is_said r) is.reply ∙ settled.said (sym is.closing ∙ going); finished = finished_as seat new is ∙ settled.finished }

-- ---- from the wait on

module _ (number : ℕ → ℕ) (id i : ℕ) (x y : Turning) (seat : Seat) (s : State) (stands : StandsAtEvent number Awaiting Free x.moving s) (ready : AreReadyAt number x.moving s) (sound : IsSoundTurn (event (owing (ReadOf id) id s))) (may : MayHear id i x seat) (bounded : IsBounded y.moving.desk.state.cache)
    (reads : ReadsAt id (come (Readable id) x) y) where
  abbrev old : Desk
  old = x.moving.desk

  abbrev woken : Desk
  woken = reads.woken

  abbrev v : State
  v = event (owing (ReadOf id) id s)

  abbrev next : Turning
  next = at_desk woken x

  place : place_of id (numbers_of woken.state.seats.items) ≡ Some i
  place = ap (λ (ns : List ℕ). place_of id ns) (reads.wakes.touches.numbers ∙ reads.wakes.regains.numbers) ∙ may.place

  hears : HearsAt i next y
  hears = subst (λ (o : Option ℕ). ReadsBy o id next y) place reads.reads

  owed : IsOwed number (ReadOf id) (CanRead id) next.moving s v
  owed = client_reads number id x.moving woken s stands ready reads.wakes i may.place

  alike : AreAlike (parts old.state) (parts woken.state)
  alike = woken_alike number id x.moving woken s stands ready reads.wakes (ReadOf id)

  its : HasSeat i woken.state.seats.items
  its = has_seat id i woken.state.seats.items (at_place id i woken.state.seats.items owed.stands.desk.turn.steps.order place)

  was : WasAlike old.state.seats.items i its.seat
  was = alike.was i its.seat its.there

  same : was.old ≡ seat
  same = some_is was.old seat (sym was.here ∙ may.here)

  -- what the desk has beside its parts
  kept : (P : Desk → Type 0) → P old → P (record reads.wakes.anew { state = record reads.wakes.anew.state { seats = old.state.seats } })
  kept P holds = subst P (sym reads.wakes.regains.rest) holds

  may_now : MayHear id i next its.seat
  may_now = record {
    place = place;
    here = its.there;
    going = was.is.closing ∙ ap (λ (o : Seat). o.is_closing) same ∙ may.going;
    room = subst (λ (h : Heard). 0 < room_of h) (sym (was.is.heard ∙ ap (λ (o : Seat). o.client.heard) same)) may.room;
    long = subst (λ (d : Desk). 0 < length d.buffer.items) (sym reads.wakes.touches.rest) (kept (λ d. 0 < length d.buffer.items) may.long);
    looks = subst (λ (d : Desk). length d.state.awake.items < vec_capacity d.state.awake) (sym reads.wakes.touches.rest) (kept (λ d. length d.state.awake.items < vec_capacity d.state.awake) may.looks);
    still = ap (λ (d : Desk). d.state.is_ticked) reads.wakes.touches.rest ∙ ap (λ (d : Desk). d.state.is_ticked) reads.wakes.regains.rest ∙ may.still;
    linked = may.linked;
    settled = λ j other here. let one : WasAlike old.state.seats.items j other = alike.was j other here in settled_as one.old other one.is (may.settled j one.old one.here);
  }

  heard : HasLedReady number next y v
  heard = hearings_lead number id i next y its.seat v owed.stands owed.ready sound may_now bounded hears

  read_whole : HasLedReadyBehind number (CanRead id) x y s
  read_whole = record {
    led = record { log = heard.led.log; then = heard.led.then; told = heard.led.handled.told; leads = lead_joined (CanRead id ∷ []) heard.led.log s v heard.led.then owed.leads heard.led.handled.leads; handled = heard.led.handled.handled };
    ready = λ given. heard.ready (given_on x next y alike given);
  }

pub reads_whole : ClientReadsLead
reads_whole number id i x y seat s stands ready sound may bounded reads = read_whole number id i x y seat s stands ready sound may bounded reads
