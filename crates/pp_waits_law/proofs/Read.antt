-- At a wait each client is read that is to be, and each origin; and nobody else is.
use Rattle.std.proofs.Common.{◌≡◌, ◌≤◌, ◌<◌, inl, refl, sym, subst, ap, ap₂, ◌∙◌, ℕ, suc, ◌+◌, ◌-◌, Bool, true, false, not, ◌&&◌, ◌||◌, ◌==◌, cond, filter, nat_lt, length, List, [], ◌∷◌, ◌++◌, Some, arith}
use Rattle.std.proofs.lemmas.Bool.Decides.{nat_tests}
use Rattle.std.specs.List.{list_all, list_any}
use Rattle.std.specs.Prelude.{slice_get}
use Rattle.pp_cache_law.proofs.Numbers.{some_is}
use Rattle.pp_desk.specs.declared.desk.Desk.{Desk}
use Rattle.pp_due.specs.Waits.{all_read, is_read}
use Rattle.pp_flow_law.proofs.Entries.{other_way}
use Rattle.pp_flow_law.specs.Tables.{none_leaves}
use Rattle.pp_head.proofs.RequestAgrees.{request_holds}
use Rattle.pp_head.specs.Agreement.{IsRequestRead}
use Rattle.pp_head.specs.Read.{Read, Whole, TooLong, Bad, More}
use Rattle.pp_head.specs.Request.{Request, request_at}
use Rattle.pp_law.specs.Connections.{is_conn}
use Rattle.pp_law.specs.Lists.{Bytes, has_number}
use Rattle.pp_law.specs.Requests.{Front, NoHeadYet, NoHead, IsRequest, front_in, front_of}
use Rattle.pp_law.specs.Served.{may_read}
use Rattle.pp_law.specs.State.{State, Client, Conn}
use Rattle.pp_peers.specs.declared.peers.Peer.{Peer}
use Rattle.pp_proxy.specs.Awaiting.{Awaits, loud_of}
use Rattle.pp_seats.specs.Heads.{is_there_in}
use Rattle.pp_seats.specs.Seats.{is_silent, is_undecided_in}
use Rattle.pp_seats.specs.declared.front.Front.{Front as SeatFront}
use Rattle.pp_seats.specs.declared.front.Front.TheVariants.{NoHeadYet as NoneYet, NoHead as NoneThere, Request as IsThere}
use Rattle.pp_seats.specs.declared.seat.Seat.{Seat}
use Rattle.pp_seats_law.specs.Fronts.{IsHeadTaken, ShowsFront, StandsStill}
use Rattle.pp_seats_law.specs.Seats.{ShowsOpen}
use Rattle.pp_state.specs.Ends.{numbers_of, parts}
use Rattle.pp_state.specs.Lines.{first_on}
use Rattle.pp_states_law.proofs.Lines.{same_itself}
use Rattle.pp_turns_law.proofs.First.{IsShownAt, client_shown, seat_shown}
use Rattle.pp_turns_law.proofs.Wanted.{no_more_read as clients_may, reads}
use Rattle.pp_waits_law.proofs.Others.{any_at, one_more, or_last}
use Rattle.pp_waits_law.proofs.ReadWritten.{read_written}
use Rattle.pp_waits_law.proofs.Says.{none_of}
use Rattle.pp_waits_law.proofs.Waited.{seat_out}
use Rattle.pp_waits_law.proofs.Wanted.{HasConn, and_off, conn_at, end_d, gets_wanted, less_room}
use Rattle.pp_waits_law.proofs.Written.{or_none, written as written_down}
use Rattle.pp_waits_law.specs.Reads.{ClientsAreRead, MayRead, NoMoreIsRead, OriginsAreRead, ReadAreWritten}
use Rattle.pp_wants.specs.Awaited.{all_got, has_room_on, is_read as is_got, with_got}
use Rattle.pp_world.specs.declared.event.Wants.{Wants}

-- ---- whoever is silent is to be read: what it sent is no head yet, and so shorter than one may be

not_yet : (bytes : Bytes) → front_of bytes ≡ NoHeadYet → length bytes < 16384
unfolding front_of
not_yet bytes none = by (request_at bytes) (request_holds bytes) none
  where
    under : (t : Bool) → nat_lt (length bytes) 16384 ≡ t → (16384 ≤ length bytes → ⊥) → length bytes < 16384
    under true is off = grind (arith, nat_tests, is)
    under false is off = absurd (off (grind (arith, nat_tests, is)))

    by : (r : Read Request) → IsRequestRead bytes r → front_in r ≡ NoHeadYet → length bytes < 16384
    by (Whole head) holds is = absurd (cc is)
    by TooLong holds is = absurd (cc is)
    by Bad holds is = absurd (cc is)
    by More holds is = under (nat_lt (length bytes) 16384) refl (λ long. holds.0 (inl long))

no_request : (f : SeatFront) (front : Front) → ShowsFront f front → is_there_in f ≡ false → front ≡ NoHeadYet
no_request NoneYet NoHeadYet shows is = refl
no_request NoneYet (NoHead status) shows is = absurd shows
no_request NoneYet (IsRequest r) shows is = absurd shows
no_request (NoneThere status) front shows is = absurd (cc is)
no_request (IsThere a) front shows is = absurd (cc is)

no_head : (head : Bytes) → IsHeadTaken head NoHeadYet → head ≡ []
no_head [] taken = refl
no_head (b ∷ head) taken = absurd taken

room_by : (n : ℕ) → n < 16384 → nat_lt 0 (16384 - n) ≡ true
room_by n less = grind (arith, nat_tests, less)

split : (a b c d : Bool) → (a && b && c && d) ≡ true → (b ≡ true) × (c ≡ true) × (d ≡ true)
split true b c d is = by b c d is
  where
    by : (b c d : Bool) → (b && c && d) ≡ true → (b ≡ true) × (c ≡ true) × (d ≡ true)
    by true true true is = (refl, refl, refl)
    by true true false is = absurd (cc is)
    by true false d is = absurd (cc is)
    by false c d is = absurd (cc is)
split false b c d is = absurd (cc is)

not_true : (b : Bool) → not b ≡ true → b ≡ false
not_true true is = absurd (cc is)
not_true false is = refl

has_room_for_more : (number : ℕ → ℕ) (name : Bytes) (seat : Seat) (c : Client) → ShowsOpen number name [] seat c → is_silent seat ≡ true → is_read seat ≡ true
has_room_for_more number name seat c live silent =
    ap₂ (λ (hung room : Bool). not hung && room) (not_true seat.has_hung_up its.1) (room_by (length seat.client.heard.rest) short)
  where
    its : (not (is_there_in seat.front) ≡ true) × (not seat.has_hung_up ≡ true) × (not seat.is_closing ≡ true)
    its = split (is_undecided_in seat.stage) (not (is_there_in seat.front)) (not seat.has_hung_up) (not seat.is_closing) silent

    none : c.front ≡ NoHeadYet
    none = no_request seat.front c.front live.front (not_true (is_there_in seat.front) its.0)

    head : seat.client.heard.head ≡ []
    head = no_head seat.client.heard.head (subst (λ (f : Front). IsHeadTaken seat.client.heard.head f) none live.heard.head)

    still : front_of (seat.client.heard.head ++ seat.client.heard.rest) ≡ NoHeadYet
    still = subst (λ (f : Front). StandsStill f (front_of (seat.client.heard.head ++ seat.client.heard.rest))) none live.heard.is_front

    short : length seat.client.heard.rest < 16384
    short = not_yet seat.client.heard.rest (ap (λ (bytes : Bytes). front_of (bytes ++ seat.client.heard.rest)) (sym head) ∙ still)

-- ---- at a wait

fewer : (test : Seat → Bool) (seats : List Seat) → length (numbers_of (filter test seats)) ≤ length seats
fewer test [] = omega arith
fewer test (seat ∷ seats) = by (test seat) (fewer test seats)
  where
    by : (b : Bool) → length (numbers_of (filter test seats)) ≤ length seats → length (numbers_of (cond b (seat ∷ filter test seats) (filter test seats))) ≤ suc (length seats)
    by true rest = omega (arith, rest)
    by false rest = omega (arith, rest)

first_of : (a b : Bool) → (a && b) ≡ true → a ≡ true
first_of true b is = refl
first_of false b is = absurd (cc is)

added_room : (a b c : ℕ) → a ≤ b → b + c ≤ 320 → a + c ≤ 320
added_room a b c less room = omega (arith, less, room)

module _ (number : ℕ → ℕ) (before : List ℕ) (w : Wants) (clients : ℕ) (d e : Desk) (s : State) (can : MayRead number before d s) (awaits : Awaits before w clients d e) where
  abbrev seats : List Seat
  seats = d.state.seats.items

  abbrev read : List ℕ
  read = numbers_of (filter is_read seats)

  pub silent_read : (i : ℕ) (seat : Seat) → slice_get seats i ≡ Some seat → is_silent seat ≡ true → is_read seat ≡ true
  silent_read i seat here silent =
      subst (λ (x : Seat). is_read x ≡ true) its (has_room_for_more number d.state.name.items one.seat one.client (one.shows.going (sym one.shows.closing ∙ going)) (ap (λ (x : Seat). is_silent x) its ∙ silent))
    where
      one : IsShownAt number d.state.name.items seats s.clients i
      one = seat_shown number d.state.name.items seats s.clients i seat can.may.stands.turn.steps.shows.clients here

      its : one.seat ≡ seat
      its = some_is one.seat seat (sym one.here ∙ here)

      going : one.seat.is_closing ≡ false
      going = ap (λ (x : Seat). x.is_closing) its
          ∙ not_true seat.is_closing (split (is_undecided_in seat.stage) (not (is_there_in seat.front)) (not seat.has_hung_up) (not seat.is_closing) silent).2

  all_written : all_read d.state before ≡ read
  all_written =
      read_written d.state before can.may.stands.turn.steps.order can.may.stands.awake.order (less_room (length seats) (length d.peers) can.may.room) can.were
      (λ i seat here out. silent_read i seat here (can.may.stands.awake.others i seat here out).silent)

  room : length read + length d.peers ≤ 320
  room = added_room (length read) (length seats) (length d.peers) (fewer is_read seats) can.may.room

  read_is : w.read.items ≡ all_got (loud_of d) (parts d.state) d.peers read
  read_is = awaits.read can.may.stands.turn.steps.order can.may.order ∙ ap (λ (ns : List ℕ). all_got (loud_of d) (parts d.state) d.peers ns) all_written

  read_of : (i : ℕ) (c : Client) → slice_get s.clients i ≡ Some c → has_number c.number w.read.items ≡ has_number c.number read
  read_of i c at =
      ap (λ (ns : List ℕ). has_number c.number ns) read_is
      ∙ written_down (is_got (loud_of d) (parts d.state)) (λ (x : Peer). x.number) c.number d.peers read room
      ∙ ap (λ (b : Bool). has_number c.number read || b)
      (none_of (λ x. is_got (loud_of d) (parts d.state) x && (x.number == c.number)) d.peers (λ j y here. ap (λ (b : Bool). is_got (loud_of d) (parts d.state) y && b) (away j y here) ∙ and_off (is_got (loud_of d) (parts d.state) y)))
      ∙ or_none (has_number c.number read)
    where
      one : IsShownAt number d.state.name.items seats s.clients i
      one = client_shown number d.state.name.items seats s.clients i c can.may.stands.turn.steps.shows.clients at

      own : one.seat.client.id ≡ c.number
      own = one.shows.number ∙ ap (λ (x : Client). x.number) (some_is one.client c (sym one.there ∙ at))

      away : (j : ℕ) (y : Peer) → slice_get d.peers j ≡ Some y → (y.number == c.number) ≡ false
      away j y here = other_way c.number y.number (ap (λ (n : ℕ). n == y.number) (sym own) ∙ seat_out y.number seats i one.seat (can.may.apart j y here).clients one.here)

  got_at : (j : ℕ) (peer : Peer) → slice_get d.peers j ≡ Some peer → is_got (loud_of d) (parts d.state) peer ≡ true → may_read s peer.number ≡ true
  got_at j peer here is =
      or_last (list_any (λ (c : Client). (c.number == peer.number) && not c.has_hung_up && nat_lt (length c.heard) 16384) s.clients) (list_any (λ (k : Conn). is_conn peer.number k && k.is_reached) s.conns)
      (any_at (λ (k : Conn). is_conn peer.number k && k.is_reached) s.conns j its.conn its.there
      (ap₂ (λ (a b : Bool). a && b) (ap (λ (n : ℕ). n == peer.number) (sym its.shown.number) ∙ same_itself peer.number) (sym its.shown.is_reached ∙ reached)))
    where
      its : HasConn s s.conns j peer
      its = conn_at s d.peers s.conns j peer can.may.stands.turn.steps.shows.conns here

      reached : peer.is_reached ≡ true
      reached = first_of peer.is_reached (has_room_on (loud_of d) (parts d.state) (first_on peer.number (parts d.state))) is

  all_may : (ps : List Peer) (ms : List ℕ) → ((j : ℕ) (peer : Peer) → slice_get ps j ≡ Some peer → is_got (loud_of d) (parts d.state) peer ≡ true → may_read s peer.number ≡ true) → list_all (may_read s) ms ≡ true
      → list_all (may_read s) (all_got (loud_of d) (parts d.state) ps ms) ≡ true
  all_may [] ms each all = all
  all_may (peer ∷ ps) ms each all =
      all_may ps (with_got (loud_of d) (parts d.state) ms peer) (λ j x at is. each (suc j) x at is) (one_more (may_read s) (is_got (loud_of d) (parts d.state) peer) peer.number ms all (λ is. each 0 peer refl is))

pub written : ReadAreWritten
written number before w clients d e s can awaits = all_written number before w clients d e s can awaits

pub clients_read : ClientsAreRead
clients_read number before w clients d e s can awaits i c at =
    read_of number before w clients d e s can awaits i c at ∙ reads number none_leaves d.peers d.state s (end_d number before w clients d e s can.may awaits) i c at

pub no_more_read : NoMoreIsRead
no_more_read number before w clients d e s can awaits =
    ap (λ (ns : List ℕ). list_all (may_read s) ns) (read_is number before w clients d e s can awaits)
    ∙ all_may number before w clients d e s can awaits d.peers (numbers_of (filter is_read d.state.seats.items)) (got_at number before w clients d e s can awaits)
    (clients_may number none_leaves d.peers d.state s (end_d number before w clients d e s can.may awaits))

pub origins_read : OriginsAreRead
origins_read number before w clients d e s can awaits i k at =
    gets_wanted number before w clients d e s can.may awaits (subst (λ (ns : List ℕ). length ns + length d.peers ≤ 320) (sym (all_written number before w clients d e s can awaits)) (room number before w clients d e s can awaits)) i k at
