-- Who is waited for is marked anew, and noted.
use Rattle.std.proofs.Common.{◌≡◌, refl, ap, ap₂, ◌∙◌, ℕ, suc, Bool, true, false, ◌&&◌, not, cond, map, List, [], ◌∷◌, ◌++◌, Some, None, Option}
use Rattle.std.specs.Prelude.{option_map, slice_get}
use Rattle.pp_cache_law.proofs.Finds.{find_mapped}
use Rattle.pp_cache_law.proofs.Framing.{frames_of, the_same}
use Rattle.pp_cache_law.proofs.PairLemmas.{count_mapped_same}
use Rattle.pp_flow_law.proofs.Framed.{frames as flow_frames}
use Rattle.pp_flow_law.specs.Tables.{line_at, line_in}
use Rattle.pp_law.specs.Connections.{conn, exchange, is_conn}
use Rattle.pp_law.specs.Lists.{Bytes}
use Rattle.pp_law.specs.Offers.{has_to_say}
use Rattle.pp_law.specs.State.{State, Client, Conn}
use Rattle.pp_law.specs.Table.{follows}
use Rattle.pp_law.specs.Turn.{is_waited_for, marked_client, renew_marks, rested_conn, waits_for_exchange, woken_client}
use Rattle.pp_peers.specs.declared.peers.Peer.{Peer}
use Rattle.pp_peers_law.specs.Peers.{ShowsConn, ShowConns}
use Rattle.pp_seats.specs.declared.seat.Seat.{Seat}
use Rattle.pp_seats_law.specs.Clients.{AreShown}
use Rattle.pp_seats_law.specs.Seats.{ShowsSeat}
use Rattle.pp_states_law.specs.Asks.{AllAreAskedAs, AreAskedAs}
use Rattle.pp_states_law.specs.Turns.{marked_seat}
use Rattle.pp_states_law.specs.Waiting.{RenewalsAreTheLaws, RestingAreTheLaws, marked_if, rested_peer}
use Rattle.pp_states_law.proofs.Asked.{all_as, conn_again, frames, itself}
use Rattle.pp_states_law.proofs.Begun.{seat_marked}
use Rattle.pp_states_law.proofs.Connected.{as_it_was}
use Rattle.pp_world.specs.declared.event.Wants.{Wants}

-- ---- clients

abbrev woken_if : Bool → ℕ → Client → Client
woken_if b now c = elim b [ true ↦ marked_client now c | false ↦ c ]

woken : (number : ℕ → ℕ) (name : Bytes) (owed : List Bytes) (seat : Seat) (c : Client) (now : ℕ) (a b : Bool) → (c.is_closing ≡ false → a ≡ b) → ShowsSeat number name owed seat c → ShowsSeat number name owed (cond a (marked_seat now seat) seat) (woken_if b now c)
woken number name owed seat c now true true same shows = seat_marked number name owed seat c now shows
woken number name owed seat c now false false same shows = shows
woken number name owed seat c now true false same shows = record { number = shows.number; closing = shows.closing; going = λ going. absurd (cc (same going)) }
woken number name owed seat c now false true same shows = record { number = shows.number; closing = shows.closing; going = λ going. absurd (cc (same going)) }

all_woken : (number : ℕ → ℕ) (name : Bytes) (owed : List Bytes) (seats : List Seat) (cs : List Client) (now : ℕ) (waits : Seat → Bool) (other : Client → Bool)
    → ((i : ℕ) (seat : Seat) (c : Client) → slice_get seats i ≡ Some seat → slice_get cs i ≡ Some c → ShowsSeat number name owed seat c → c.is_closing ≡ false → waits seat ≡ other c) → AreShown number name owed seats cs
    → AreShown number name owed (map (marked_if waits now) seats) (map (λ c. woken_if (other c) now c) cs)
all_woken number name owed [] [] now waits other tells shows = tt
all_woken number name owed [] (c ∷ cs) now waits other tells shows = absurd shows
all_woken number name owed (seat ∷ seats) [] now waits other tells shows = absurd shows
all_woken number name owed (seat ∷ seats) (c ∷ cs) now waits other tells shows = (
  woken number name owed seat c now (waits seat) (other c) (λ going. tells 0 seat c refl refl shows.0 going) shows.0,
  all_woken number name owed seats cs now waits other (λ i x d here there shown going. tells (suc i) x d here there shown going) shows.1,
)

follows_on : (id now : ℕ) (b : Bool) (c : Client) → follows id (woken_if b now c) ≡ follows id c
follows_on id now true c = refl
follows_on id now false c = refl

pub renewals : RenewalsAreTheLaws
unfolding renew_marks
renewals number name owed l p s shows now waits tells = record {
  clients = all_woken number name owed p.seats s.clients now waits (λ c. waits_for_exchange s c && not (has_to_say s c)) tells shows.clients;
  exchanges = flow_frames number l p.flow s shows.exchanges l (renew_marks now s) (record { exchanges = refl; next = refl; lines = λ m. refl });
  table =
      frames_of number p.memory s shows.table p.memory (renew_marks now s) (record { instances = refl; lives = refl; chunks = refl; extents = refl })
      (record {
        instances = refl;
        made = the_same s.next_instance;
        chunks = refl;
        followers = λ id. count_mapped_same (follows id) (woken_client now s) s.clients (λ c. follows_on id now (waits_for_exchange s c && not (has_to_say s c)) c);
        kept = λ x. refl;
      });
  conns = frames s (renew_marks now s) p.peers s.conns (all_as s (renew_marks now s) (λ m. itself (exchange s m)) s.conns) shows.conns;
}

-- ---- connections

chosen : (b : Bool) (m n : ℕ) → cond b m n ≡ (elim b as (λ x. ℕ) [ true ↦ m | false ↦ n ])
chosen true m n = refl
chosen false m n = refl

conn_rested : (s t : State) (p : Peer) (k : Conn) (w : Wants) (waited : Peer → Bool) → waited p ≡ is_waited_for w k → (k.is_closing ≡ false → AreAskedAs s t k.line) → ShowsConn s p k → ShowsConn t (rested_peer waited s.clock p) (rested_conn s w k)
conn_rested s t p k w waited tells same shows = record {
  number = those.number;
  host = those.host;
  port = those.port;
  is_reached = those.is_reached;
  has_brought = those.has_brought;
  may_pipeline = those.may_pipeline;
  is_closing = those.is_closing;
  stays = those.stays;
  mark = ap₂ (λ (b : Bool) (m : ℕ). cond b m s.clock) (ap₂ (λ (a b : Bool). a && b) tells those.has_waited) those.mark ∙ chosen (is_waited_for w k && k.has_waited) k.mark s.clock;
  has_waited = tells;
  pipe = λ going. as_it_was t p (rested_peer waited s.clock p) k (rested_conn s w k) refl refl refl refl refl (those.pipe going);
}
  where
    those : ShowsConn t p k
    those = conn_again s t p k same shows

all_rested : (s t : State) (ps : List Peer) (ks : List Conn) (w : Wants) (waited : Peer → Bool) → ((i : ℕ) (peer : Peer) (k : Conn) → slice_get ps i ≡ Some peer → slice_get ks i ≡ Some k → ShowsConn s peer k → waited peer ≡ is_waited_for w k) → AllAreAskedAs s t ks
    → ShowConns s ps ks → ShowConns t (map (rested_peer waited s.clock) ps) (map (rested_conn s w) ks)
all_rested s t [] [] w waited tells same shows = tt
all_rested s t [] (k ∷ ks) w waited tells same shows = absurd shows
all_rested s t (p ∷ ps) [] w waited tells same shows = absurd shows
all_rested s t (p ∷ ps) (k ∷ ks) w waited tells same shows =
    (conn_rested s t p k w waited (tells 0 p k refl refl shows.0) same.0 shows.0, all_rested s t ps ks w waited (λ i q j here there shown. tells (suc i) q j here there shown) same.1 shows.1)

abbrev with_rested : Wants → State → State
with_rested w s = record s { conns = map (rested_conn s w) s.conns }

line_rested : (s : State) (w : Wants) (n : ℕ) → line_at (with_rested w s) n ≡ line_at s n
line_rested s w n = ap (λ (o : Option Conn). line_in o) (find_mapped (is_conn n) (rested_conn s w) s.conns (λ k. refl)) ∙ kept (conn s n)
  where
    kept : (o : Option Conn) → line_in (option_map (rested_conn s w) o) ≡ line_in o
    kept None = refl
    kept (Some k) = refl

pub restings : RestingAreTheLaws
restings number name owed l p s shows w waited tells = record {
  clients = shows.clients;
  exchanges = flow_frames number l p.flow s shows.exchanges l (with_rested w s) (record { exchanges = refl; next = refl; lines = λ m. ap (λ (ns : List ℕ). l m ++ ns) (line_rested s w m) });
  table =
      frames_of number p.memory s shows.table p.memory (with_rested w s) (record { instances = refl; lives = refl; chunks = refl; extents = refl })
      (record { instances = refl; made = the_same s.next_instance; chunks = refl; followers = λ id. refl; kept = λ x. refl });
  conns = all_rested s (with_rested w s) p.peers s.conns w waited tells (all_as s (with_rested w s) (λ m. itself (exchange s m)) s.conns) shows.conns;
}
