-- A client is accepted, and the clock ticks.
use Rattle.std.proofs.Common.{◌≡◌, sym, subst, refl, ap, ◌∙◌, ℕ, Bool, true, false, map, List, [], ◌∷◌, ◌++◌, arith, Option, Some, None}
use Rattle.std.specs.Prelude.{count_by, option_map, slice_get, slice_set}
use Rattle.pp_cache_law.proofs.Finds.{find_mapped, none_changed}
use Rattle.pp_cache_law.proofs.Framing.{frames_of, the_same}
use Rattle.pp_cache_law.proofs.PairLemmas.{count_joined, count_mapped_same}
use Rattle.pp_client.specs.Clients.{new_client as new_side}
use Rattle.pp_client.specs.Replies.{Reply as Said}
use Rattle.pp_flow_law.proofs.Framed.{frames as flow_frames}
use Rattle.pp_flow_law.specs.Tables.{Leaving, line_at, line_in}
use Rattle.pp_law.specs.After.{new_client, opened}
use Rattle.pp_law.specs.Connections.{client, conn, exchange, is_client, is_conn, on_client, on_conn}
use Rattle.pp_law.specs.Lists.{Bytes}
use Rattle.pp_law.specs.State.{State, Client, Conn}
use Rattle.pp_law.specs.Table.{follows}
use Rattle.pp_law.specs.Turn.{is_leap, marked_client, marked_conn, marks_anew, touch}
use Rattle.pp_peers.specs.Peers.{with_peer}
use Rattle.pp_peers.specs.declared.peers.Peer.{Peer}
use Rattle.pp_peers_law.specs.Peers.{ShowsConn, ShowConns}
use Rattle.pp_seats.specs.Seats.{new_seat}
use Rattle.pp_seats.specs.declared.account.Account.{Account}
use Rattle.pp_seats.specs.declared.seat.Brought.{Brought as SeatBrought}
use Rattle.pp_seats.specs.declared.seat.Brought.TheVariants.{Awaited as IsAwaited, Useless, Joins, Passes, TooWide, Refused}
use Rattle.pp_seats.specs.declared.seat.Course.{Course as SeatCourse}
use Rattle.pp_seats.specs.declared.seat.Seat.{Seat}
use Rattle.pp_seats_law.proofs.Begins.{new_seats}
use Rattle.pp_seats_law.specs.Clients.{AreShown}
use Rattle.pp_seats_law.specs.Replies.{ShowsFate}
use Rattle.pp_seats_law.specs.Seats.{ShowsOpen, ShowsSeat}
use Rattle.pp_states_law.specs.Asks.{AllAreAskedAs, AreAskedAs}
use Rattle.pp_states_law.specs.States.{Parts, ShowsState}
use Rattle.pp_states_law.specs.Turns.{ClocksAreTheLaws, LeapsAreTheLaws, OpensAreTheLaws, OriginTouchesAreTheLaws, TouchesAreTheLaws, all_marked, marked_peer, marked_seat}
use Rattle.pp_states_law.proofs.Asked.{all_as, conn_again, frames, itself}
use Rattle.pp_states_law.proofs.Alone.{same_some}
use Rattle.pp_states_law.proofs.Changed.{changes}
use Rattle.pp_states_law.proofs.Connected.{as_it_was, marks}
use Rattle.pp_states_law.proofs.Framed.{states}

-- ---- a client is accepted

new_shown : (number : ℕ → ℕ) (name : Bytes) (owed : List Bytes) (n now : ℕ) (account : Account) → ShowsSeat number name owed (record (new_seat (new_side n now)) { account = account }) (new_client n now)
new_shown number name owed n now account =
    let seat : ShowsSeat number name [] (new_seat (new_side n now)) (new_client n now) = new_seats number name n now in
    record { number = seat.number; closing = seat.closing; going = λ going. shown (seat.going going) }
  where
    shown : ShowsOpen number name [] (new_seat (new_side n now)) (new_client n now) → ShowsOpen number name owed (record (new_seat (new_side n now)) { account = account }) (new_client n now)
    shown shows = record {
      hung_up = shows.hung_up;
      mark = shows.mark;
      heard = shows.heard;
      body = shows.body;
      over = shows.over;
      front = shows.front;
      body_left = shows.body_left;
      index = shows.index;
      stage = shows.stage;
      waits_on = shows.waits_on;
      fate = shows.fate;
      asked = shows.asked;
      piped = shows.piped;
      given_up = shows.given_up;
      interim = shows.interim;
      before_body = shows.before_body;
      closes = shows.closes;
    }

one_more : (number : ℕ → ℕ) (name : Bytes) (owed : List Bytes) (seats : List Seat) (cs : List Client) (seat : Seat) (c : Client) → AreShown number name owed seats cs → ShowsSeat number name owed seat c → AreShown number name owed (seats ++ seat ∷ []) (cs ++ c ∷ [])
one_more number name owed [] [] seat c shows one = (one, tt)
one_more number name owed [] (d ∷ cs) seat c shows one = absurd shows
one_more number name owed (other ∷ seats) [] seat c shows one = absurd shows
one_more number name owed (other ∷ seats) (d ∷ cs) seat c shows one = (shows.0, one_more number name owed seats cs seat c shows.1 one)

follows_none : (id n now : ℕ) (cs : List Client) → count_by (follows id) (cs ++ new_client n now ∷ []) ≡ count_by (follows id) cs
follows_none id n now cs = omega (arith, count_joined (follows id) cs (new_client n now ∷ []))

pub opens : OpensAreTheLaws
unfolding opened
opens number name owed l p s shows n account = record {
  clients = one_more number name owed p.seats s.clients (record (new_seat (new_side n s.clock)) { account = account }) (new_client n s.clock) shows.clients (new_shown number name owed n s.clock account);
  exchanges = flow_frames number l p.flow s shows.exchanges l (opened n s) (record { exchanges = refl; next = refl; lines = λ m. refl });
  table =
      frames_of number p.memory s shows.table p.memory (opened n s) (record { instances = refl; lives = refl; chunks = refl; extents = refl })
      (record { instances = refl; made = the_same s.next_instance; chunks = refl; followers = λ id. follows_none id n s.clock s.clients; kept = λ x. refl });
  conns = frames s (opened n s) p.peers s.conns (all_as s (opened n s) (λ m. itself (exchange s m)) s.conns) shows.conns;
}

-- ---- all are marked

fate_marked : (number : ℕ → ℕ) (name : Bytes) (owed : List Bytes) (said : Said) (course : SeatCourse) (brought : SeatBrought) (c : Client) (now : ℕ) → ShowsFate number name owed said course brought c → ShowsFate number name owed said course brought (marked_client now c)
fate_marked number name owed said course Refused c now shows = record { waits = shows.waits; joins = shows.joins; refused = shows.refused }
fate_marked number name owed said course IsAwaited c now shows = shows
fate_marked number name owed said course Useless c now shows = shows
fate_marked number name owed said course (Joins id plain) c now shows = shows
fate_marked number name owed said course (Passes x) c now shows = shows
fate_marked number name owed said course TooWide c now shows = shows

open_marked : (number : ℕ → ℕ) (name : Bytes) (owed : List Bytes) (seat : Seat) (c : Client) (now : ℕ) → ShowsOpen number name owed seat c → ShowsOpen number name owed (marked_seat now seat) (marked_client now c)
open_marked number name owed seat c now shows = record {
  hung_up = shows.hung_up;
  mark = refl;
  heard = shows.heard;
  body = shows.body;
  over = shows.over;
  front = shows.front;
  body_left = shows.body_left;
  index = shows.index;
  stage = shows.stage;
  waits_on = shows.waits_on;
  fate = fate_marked number name owed seat.client.reply seat.course seat.brought c now shows.fate;
  asked = shows.asked;
  piped = shows.piped;
  given_up = shows.given_up;
  interim = shows.interim;
  before_body = shows.before_body;
  closes = shows.closes;
}

pub seat_marked : (number : ℕ → ℕ) (name : Bytes) (owed : List Bytes) (seat : Seat) (c : Client) (now : ℕ) → ShowsSeat number name owed seat c → ShowsSeat number name owed (marked_seat now seat) (marked_client now c)
seat_marked number name owed seat c now shows = record { number = shows.number; closing = shows.closing; going = λ going. open_marked number name owed seat c now (shows.going going) }

seats_marked : (number : ℕ → ℕ) (name : Bytes) (owed : List Bytes) (seats : List Seat) (cs : List Client) (now : ℕ) → AreShown number name owed seats cs → AreShown number name owed (map (marked_seat now) seats) (map (marked_client now) cs)
seats_marked number name owed [] [] now shows = tt
seats_marked number name owed [] (c ∷ cs) now shows = absurd shows
seats_marked number name owed (seat ∷ seats) [] now shows = absurd shows
seats_marked number name owed (seat ∷ seats) (c ∷ cs) now shows = (seat_marked number name owed seat c now shows.0, seats_marked number name owed seats cs now shows.1)

abbrev marked_state : ℕ → State → State
marked_state now s = record s { has_ticked = true; clients = map (marked_client now) s.clients; conns = map (marked_conn now) s.conns }

conn_marked : (s t : State) (p : Peer) (k : Conn) (now : ℕ) → (k.is_closing ≡ false → AreAskedAs s t k.line) → ShowsConn s p k → ShowsConn t (marked_peer now p) (marked_conn now k)
conn_marked s t p k now same shows = record {
  number = those.number;
  host = those.host;
  port = those.port;
  is_reached = those.is_reached;
  has_brought = those.has_brought;
  may_pipeline = those.may_pipeline;
  is_closing = those.is_closing;
  stays = those.stays;
  mark = refl;
  has_waited = those.has_waited;
  pipe = λ going. as_it_was t p (marked_peer now p) k (marked_conn now k) refl refl refl refl refl (those.pipe going);
}
  where
    those : ShowsConn t p k
    those = conn_again s t p k same shows

conns_marked : (s t : State) (ps : List Peer) (ks : List Conn) (now : ℕ) → AllAreAskedAs s t ks → ShowConns s ps ks → ShowConns t (map (marked_peer now) ps) (map (marked_conn now) ks)
conns_marked s t [] [] now same shows = tt
conns_marked s t [] (k ∷ ks) now same shows = absurd shows
conns_marked s t (p ∷ ps) [] now same shows = absurd shows
conns_marked s t (p ∷ ps) (k ∷ ks) now same shows = (conn_marked s t p k now same.0 shows.0, conns_marked s t ps ks now same.1 shows.1)

line_marked : (s : State) (now n : ℕ) → line_at (marked_state now s) n ≡ line_at s n
line_marked s now n = ap (λ (o : Option Conn). line_in o) (find_mapped (is_conn n) (marked_conn now) s.conns (λ k. refl)) ∙ kept (conn s n)
  where
    kept : (o : Option Conn) → line_in (option_map (marked_conn now) o) ≡ line_in o
    kept None = refl
    kept (Some k) = refl

all_shown : (number : ℕ → ℕ) (name : Bytes) (owed : List Bytes) (l : Leaving) (p : Parts) (s : State) (now : ℕ) → ShowsState number name owed l p s → ShowsState number name owed l (all_marked now p) (marked_state now s)
all_shown number name owed l p s now shows = record {
  clients = seats_marked number name owed p.seats s.clients now shows.clients;
  exchanges = flow_frames number l p.flow s shows.exchanges l (marked_state now s) (record { exchanges = refl; next = refl; lines = λ m. ap (λ (ns : List ℕ). l m ++ ns) (line_marked s now m) });
  table =
      frames_of number p.memory s shows.table p.memory (marked_state now s) (record { instances = refl; lives = refl; chunks = refl; extents = refl })
      (record { instances = refl; made = the_same s.next_instance; chunks = refl; followers = λ id. count_mapped_same (follows id) (marked_client now) s.clients (λ c. refl); kept = λ x. refl });
  conns = conns_marked s (marked_state now s) p.peers s.conns now (all_as s (marked_state now s) (λ m. itself (exchange s m)) s.conns) shows.conns;
}

pub leaps : LeapsAreTheLaws
unfolding marks_anew
leaps number name owed l p s shows now = by (is_leap now s)
  where
    by : (b : Bool) → ShowsState number name owed l (elim b as (λ t. Parts) [ true ↦ all_marked now p | false ↦ p ]) (elim b as (λ t. State) [ false ↦ s | true ↦ marked_state now s ])
    by true = all_shown number name owed l p s now shows
    by false = shows

pub clocks : ClocksAreTheLaws
clocks number name owed l p s shows now =
    states number name owed l p s shows (record s { clock = now; is_ticked = true; has_lost_draft = false })
    (record { clients = refl; conns = refl; exchanges = refl; next_exchange = refl; instances = refl; next_instance = refl; chunks = refl; kept = λ x. refl })

-- ---- an event comes

no_conn : (s : State) (n : ℕ) (f : Conn → Conn) (g : Client → Client) → conn s n ≡ None → on_client n g s ≡ on_conn n f (on_client n g s)
unfolding on_conn on_client
no_conn s n f g none = ap (λ (ks : List Conn). record (on_client n g s) { conns = ks }) (sym (none_changed (is_conn n) f s.conns none))

no_client : (s : State) (n : ℕ) (f : Conn → Conn) (g : Client → Client) → client s n ≡ None → on_conn n f s ≡ on_conn n f (on_client n g s)
unfolding on_conn on_client
no_client s n f g none = ap (λ (cs : List Client). on_conn n f (record s { clients = cs })) (sym (none_changed (is_client n) g s.clients none))

pub touches : TouchesAreTheLaws
unfolding touch
touches number name owed l p s shows n i seat at here none =
    subst (λ (t : State). ShowsState number name owed l (record p { seats = slice_set p.seats i (marked_seat s.clock seat) }) t) (no_conn s n (marked_conn s.clock) (marked_client s.clock) none)
    (changes number name owed l p s shows n i (marked_seat s.clock seat) (marked_client s.clock) at (λ id c. refl)
    (λ old c found there shown. seat_marked number name owed seat c s.clock (subst (λ (o : Seat). ShowsSeat number name owed o c) (same_some seat old (slice_get p.seats i) here found) shown)))

pub origin_touches : OriginTouchesAreTheLaws
unfolding touch
origin_touches number name owed l p s shows n peer few found none =
    subst (λ (t : State). ShowsState number name owed l (record p { peers = with_peer n (marked_peer s.clock peer) p.peers }) t) (no_client s n (marked_conn s.clock) (marked_client s.clock) none)
    (marks number name owed l p s shows n s.clock peer few found)
