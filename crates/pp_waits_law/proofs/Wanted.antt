-- What is waited for is what the law has waited for: whether a client is accepted, and of origins who is asked and who is read.
use Rattle.std.proofs.Common.{◌≡◌, ◌≤◌, refl, sym, subst, ap, ap₂, ◌∙◌, ℕ, zero, suc, ◌+◌, Bool, true, false, not, ◌&&◌, ◌||◌, ◌==◌, length, List, [], ◌∷◌, Option, Some, None, arith}
use Rattle.std.specs.List.{fold, list_any}
use Rattle.std.specs.Prelude.{slice_get}
use Rattle.pp_cache_law.proofs.Finds.{one_only}
use Rattle.pp_cache_law.proofs.Numbers.{some_is}
use Rattle.pp_cache_law.proofs.PairLemmas.{AreOnly}
use Rattle.pp_desk.specs.declared.desk.Desk.{Desk}
use Rattle.pp_due.specs.Waits.{all_read, all_written, is_written, with_written, with_written_by, with_written_of}
use Rattle.pp_endings_law.proofs.Asks.{origins_asked}
use Rattle.pp_endings_law.proofs.Read.{origins_read}
use Rattle.pp_endings_law.specs.Waits.{MayBeAsked}
use Rattle.pp_flow_law.specs.Tables.{AreGiven, none_leaves}
use Rattle.pp_law.specs.Connections.{conn, front_of_line, is_conn}
use Rattle.pp_law.specs.Lists.{has_number, is_some_with}
use Rattle.pp_law.specs.Served.{has_to_ask, is_stopped, wants_read, wants_write}
use Rattle.pp_law.specs.State.{State, Client, Conn}
use Rattle.pp_peers.specs.declared.peers.Peer.{Peer}
use Rattle.pp_peers_law.specs.Peers.{ShowConns, ShowsConn}
use Rattle.pp_proxy.specs.Awaiting.{Awaits, loud_of}
use Rattle.pp_seats.specs.declared.seat.Seat.{Seat}
use Rattle.pp_state.specs.Ends.{Parts, numbers_of, parts}
use Rattle.pp_state.specs.declared.state.State.{State as Turn}
use Rattle.pp_states_law.proofs.Lines.{AllFound, all_found, same_itself}
use Rattle.pp_turns_law.proofs.First.{IsShownAt, seat_shown}
use Rattle.pp_turns_law.proofs.Wanted.{accepting}
use Rattle.pp_turns_law.specs.Wants.{ShowsEnd}
use Rattle.pp_waits_law.proofs.Left.{same_parts, wants_leave}
use Rattle.pp_waits_law.proofs.Places.{how_many}
use Rattle.pp_waits_law.proofs.Rested.{first_none, none_at}
use Rattle.pp_waits_law.proofs.Waited.{all_read_out, seat_out}
use Rattle.pp_waits_law.proofs.Written.{added, chosen, written}
use Rattle.pp_waits_law.specs.Rests.{StandsLoud}
use Rattle.pp_waits_law.specs.Waits.{IsApart}
use Rattle.pp_waits_law.specs.Wanted.{AcceptsAreWanted, AsksAreWanted, GetsAreWanted, MayWant}
use Rattle.pp_wants.specs.Awaited.{is_asked, is_read}
use Rattle.pp_world.specs.declared.event.Wants.{Wants}

-- ---- each connection, with its own

pub record HasConn (s : State) (ks : List Conn) (i : ℕ) (peer : Peer) : Type 0 where
  pub conn : Conn
  pub there : slice_get ks i ≡ Some conn
  pub shown : ShowsConn s peer conn

pub conn_at : (s : State) (ps : List Peer) (ks : List Conn) (i : ℕ) (peer : Peer) → ShowConns s ps ks → slice_get ps i ≡ Some peer → HasConn s ks i peer
conn_at s [] ks i peer shows at = absurd (cc at)
conn_at s (p ∷ ps) [] i peer shows at = absurd shows
conn_at s (p ∷ ps) (k ∷ ks) zero peer shows at = record { conn = k; there = refl; shown = subst (λ (q : Peer). ShowsConn s q k) (some_is p peer at) shows.0 }
conn_at s (p ∷ ps) (k ∷ ks) (suc i) peer shows at = let rest : HasConn s ks i peer = conn_at s ps ks i peer shows.1 at in record { conn = rest.conn; there = rest.there; shown = rest.shown }

pub record HasPeer (s : State) (ps : List Peer) (i : ℕ) (k : Conn) : Type 0 where
  pub peer : Peer
  pub here : slice_get ps i ≡ Some peer
  pub shown : ShowsConn s peer k

peer_at : (s : State) (ps : List Peer) (ks : List Conn) (i : ℕ) (k : Conn) → ShowConns s ps ks → slice_get ks i ≡ Some k → HasPeer s ps i k
peer_at s ps [] i k shows at = absurd (cc at)
peer_at s [] (j ∷ ks) i k shows at = absurd shows
peer_at s (p ∷ ps) (j ∷ ks) zero k shows at = record { peer = p; here = refl; shown = subst (λ (x : Conn). ShowsConn s p x) (some_is j k at) shows.0 }
peer_at s (p ∷ ps) (j ∷ ks) (suc i) k shows at = let rest : HasPeer s ps i k = peer_at s ps ks i k shows.1 at in record { peer = rest.peer; here = rest.here; shown = rest.shown }

found_at : (s : State) (ks : List Conn) (i : ℕ) (k : Conn) → AllFound s ks → slice_get ks i ≡ Some k → conn s k.number ≡ Some k
found_at s [] i k all at = absurd (cc at)
found_at s (j ∷ ks) zero k all at = subst (λ (x : Conn). conn s x.number ≡ Some x) (some_is j k at) all.0
found_at s (j ∷ ks) (suc i) k all at = found_at s ks i k all.1 at

only_at : (n : ℕ) (ks : List Conn) (j : ℕ) (y k : Conn) → AreOnly (is_conn n) k ks → slice_get ks j ≡ Some y → (y.number == n) ≡ true → y ≡ k
only_at n [] j y k only at is = absurd (cc at)
only_at n (x ∷ ks) zero y k only at is = sym (some_is x y at) ∙ only.0 (ap (λ (z : Conn). z.number == n) (some_is x y at) ∙ is)
only_at n (x ∷ ks) (suc j) y k only at is = only_at n ks j y k only.1 at is

-- ---- those that are written to, at the places of those that are looked at

abbrev pub seat_written : Turn → Option Seat → Bool
seat_written q None = false
seat_written q (Some seat) = is_written q seat

abbrev pub seat_number : Option Seat → ℕ
seat_number None = 0
seat_number (Some seat) = seat.client.id

abbrev at_written : Turn → ℕ → Bool
at_written q i = seat_written q (slice_get q.seats.items i)

abbrev at_number : Turn → ℕ → ℕ
at_number q i = seat_number (slice_get q.seats.items i)

one_written : (q : Turn) (o : Option Seat) (ms : List ℕ) → with_written_of q o ms ≡ with_written_by (seat_written q o) (seat_number o) ms
one_written q None ms = refl
one_written q (Some seat) ms = refl

folds : (q : Turn) (is : List ℕ) (ms : List ℕ) → fold (with_written q) ms is ≡ fold (λ (ns : List ℕ) (i : ℕ). with_written_by (at_written q i) (at_number q i) ns) ms is
folds q [] ms = refl
folds q (i ∷ is) ms =
    folds q is (with_written q ms i)
    ∙ ap (λ (ns : List ℕ). fold (λ (ks : List ℕ) (j : ℕ). with_written_by (at_written q j) (at_number q j) ks) ns is) (one_written q (slice_get q.seats.items i) ms)

pub few_written : (q : Turn) (others : ℕ) → AreGiven 0 (length q.seats.items) q.awake.items → length q.seats.items + others ≤ 320 → length (all_written q []) + others ≤ 320
few_written q others given room =
    let more : length (fold (λ (ks : List ℕ) (j : ℕ). with_written_by (at_written q j) (at_number q j) ks) [] q.awake.items) ≤ 0 + length q.awake.items = added (at_written q) (at_number q) q.awake.items [] in
    let same : length (all_written q []) ≡ length (fold (λ (ks : List ℕ) (j : ℕ). with_written_by (at_written q j) (at_number q j) ks) [] q.awake.items) = ap (λ (ns : List ℕ). length ns) (folds q q.awake.items []) in
    let few : 0 + length q.awake.items ≤ length q.seats.items = how_many 0 (length q.seats.items) q.awake.items given in
    omega (arith, more, same, few, room)

pub written_is : (n : ℕ) (q : Turn) → AreGiven 0 (length q.seats.items) q.awake.items → length q.seats.items ≤ 320
    → has_number n (all_written q []) ≡ list_any (λ i. at_written q i && (at_number q i == n)) q.awake.items
written_is n q given room =
    let few : 0 + length q.awake.items ≤ length q.seats.items = how_many 0 (length q.seats.items) q.awake.items given in
    ap (λ (ns : List ℕ). has_number n ns) (folds q q.awake.items []) ∙ written (at_written q) (at_number q) n q.awake.items [] (omega (arith, few, room))

none_any : {A : Type 0} (f : A → Bool) (xs : List A) → ((x : A) → f x ≡ false) → list_any f xs ≡ false
none_any f [] none = refl
none_any f (x ∷ xs) none = ap₂ (λ (a b : Bool). a || b) (none x) (none_any f xs none)

pub and_off : (a : Bool) → (a && false) ≡ false
and_off true = refl
and_off false = refl

written_out : (n : ℕ) (q : Turn) → AreGiven 0 (length q.seats.items) q.awake.items → length q.seats.items ≤ 320 → has_number n (numbers_of q.seats.items) ≡ false → has_number n (all_written q []) ≡ false
written_out n q given room out = written_is n q given room ∙ none_any (λ i. at_written q i && (at_number q i == n)) q.awake.items (λ i. by i (slice_get q.seats.items i) refl)
  where
    by : (i : ℕ) (o : Option Seat) → slice_get q.seats.items i ≡ o → (seat_written q o && (seat_number o == n)) ≡ false
    by i None none = refl
    by i (Some seat) here = ap (λ (b : Bool). is_written q seat && b) (seat_out n q.seats.items i seat out here) ∙ and_off (is_written q seat)

pub less_room : (a b : ℕ) → a + b ≤ 320 → a ≤ 320
less_room a b room = omega (arith, room)

module _ (number : ℕ → ℕ) (before : List ℕ) (w : Wants) (clients : ℕ) (d e : Desk) (s : State) (may : MayWant number before d s) (awaits : Awaits before w clients d e) where
  going : (i : ℕ) (c : Client) → slice_get s.clients i ≡ Some c → c.is_closing ≡ false
  going i c at = none_at (λ (x : Client). x.is_closing) s.clients i c (first_none (list_any (λ (x : Client). x.is_closing) s.clients) (list_any (λ (k : Conn). k.is_closing) s.conns) may.stands.closed).0 at

  ends : (q : Desk) → StandsLoud number q s → ShowsEnd number none_leaves q.peers q.state s
  ends q loud = record {
    turn = loud.turn;
    going = going;
    follows = λ i seat at.
        let one : IsShownAt number q.state.name.items q.state.seats.items s.clients i = seat_shown number q.state.name.items q.state.seats.items s.clients i seat loud.turn.steps.shows.clients at in
        (loud.ready i seat at (ap (λ (x : Seat). x.is_closing) (some_is seat one.seat (sym at ∙ one.here)) ∙ one.shows.closing ∙ going i one.client one.there)).follows;
  }

  loud : StandsLoud number e s
  loud = wants_leave number before w clients d e s may.stands awaits

  end_e : ShowsEnd number none_leaves e.peers e.state s
  end_e = ends e loud

  pub end_d : ShowsEnd number none_leaves d.peers d.state s
  end_d = record {
    turn = may.stands.turn;
    going = going;
    follows = λ i seat at.
        let one : IsShownAt number d.state.name.items d.state.seats.items s.clients i = seat_shown number d.state.name.items d.state.seats.items s.clients i seat may.stands.turn.steps.shows.clients at in
        (may.stands.ready i seat at (ap (λ (x : Seat). x.is_closing) (some_is seat one.seat (sym at ∙ one.here)) ∙ one.shows.closing ∙ going i one.client one.there)).follows;
  }

  -- ---- one origin

  -- who is written down of them, behind those that stand first
  one_of : (t : Peer → Bool) (P : Conn → Bool) (ms : List ℕ) → ((i : ℕ) (peer : Peer) (k : Conn) → slice_get d.peers i ≡ Some peer → slice_get s.conns i ≡ Some k → t peer ≡ P k) → length ms + length d.peers ≤ 320
      → (i : ℕ) (k : Conn) → slice_get s.conns i ≡ Some k → has_number k.number ms ≡ false → has_number k.number (fold (λ (ns : List ℕ) (x : Peer). with_written_by (t x) x.number ns) ms d.peers) ≡ P k
  one_of t P ms same room i k at out =
      written t (λ (x : Peer). x.number) k.number d.peers ms room
      ∙ ap (λ (b : Bool). b || list_any (λ (x : Peer). t x && (x.number == k.number)) d.peers) out
      ∙ chosen t (λ (x : Peer). x.number) k.number (P k) d.peers i its.peer its.here (ap (λ (n : ℕ). n == k.number) its.shown.number ∙ same_itself k.number) others
    where
      its : HasPeer s d.peers i k
      its = peer_at s d.peers s.conns i k may.stands.turn.steps.shows.conns at

      only : AreOnly (is_conn k.number) k s.conns
      only = one_only (is_conn k.number) s.conns k (may.alone k.number) (found_at s s.conns i k (all_found s may.alone) at)

      others : (j : ℕ) (y : Peer) → slice_get d.peers j ≡ Some y → (y.number == k.number) ≡ true → t y ≡ P k
      others j y here is =
          let other : HasConn s s.conns j y = conn_at s d.peers s.conns j y may.stands.turn.steps.shows.conns here in
          same j y other.conn here other.there
          ∙ ap P (only_at k.number s.conns j other.conn k only other.there (ap (λ (n : ℕ). n == k.number) (sym other.shown.number) ∙ is))

  apart_at : (i : ℕ) (k : Conn) → slice_get s.conns i ≡ Some k → (has_number k.number (numbers_of d.state.seats.items) ≡ false) × (has_number k.number before ≡ false)
  apart_at i k at =
      let its : HasPeer s d.peers i k = peer_at s d.peers s.conns i k may.stands.turn.steps.shows.conns at in
      let one : IsApart before d its.peer = may.apart i its.peer its.here in
      (ap (λ (n : ℕ). has_number n (numbers_of d.state.seats.items)) (sym its.shown.number) ∙ one.clients, ap (λ (n : ℕ). has_number n before) (sym its.shown.number) ∙ one.read)

  gets : length (all_read d.state before) + length d.peers ≤ 320 → (i : ℕ) (k : Conn) → slice_get s.conns i ≡ Some k → wants_read w k.number ≡ (k.is_reached && not (is_some_with (is_stopped s) (front_of_line s k)))
  gets room i k at =
      ap (λ (ns : List ℕ). has_number k.number ns) (awaits.read may.stands.turn.steps.order may.order)
      ∙ one_of (is_read (loud_of d) (parts d.state)) (λ (j : Conn). j.is_reached && not (is_some_with (is_stopped s) (front_of_line s j))) (all_read d.state before) read_so room i k at
      (let out = apart_at i k at in all_read_out k.number before d.state out.0 out.1)
    where
      same_peers : e.peers ≡ d.peers
      same_peers = ap (λ (x : Desk). x.peers) awaits.rest

      read_so : (j : ℕ) (peer : Peer) (k : Conn) → slice_get d.peers j ≡ Some peer → slice_get s.conns j ≡ Some k → is_read (loud_of d) (parts d.state) peer ≡ (k.is_reached && not (is_some_with (is_stopped s) (front_of_line s k)))
      read_so j peer k here there =
          ap₂ (λ (awake : List ℕ) (r : Parts). is_read awake r peer) (sym awaits.awake) (sym (same_parts number before w clients d e s may.stands awaits))
          ∙ origins_read number e.peers e.state s j peer k end_e loud.loud may.alone (ap (λ (ps : List Peer). slice_get ps j) same_peers ∙ here) there

  asks : ((i : ℕ) (k : Conn) → slice_get s.conns i ≡ Some k → MayBeAsked s k) → (i : ℕ) (k : Conn) → slice_get s.conns i ≡ Some k → wants_write w k.number ≡ (k.is_reached && has_to_ask s k)
  asks asked i k at =
      ap (λ (ns : List ℕ). has_number k.number ns) (awaits.write may.stands.turn.steps.order)
      ∙ one_of (is_asked (parts d.state)) (λ (j : Conn). j.is_reached && has_to_ask s j) (all_written d.state []) (λ j peer c here there. origins_asked number d.peers d.state s j peer c end_d may.alone here there (asked j c there))
      (few_written d.state (length d.peers) may.stands.awake.order may.room) i k at
      (written_out k.number d.state may.stands.awake.order (less_room (length d.state.seats.items) (length d.peers) may.room) (apart_at i k at).0)

pub accepts_wanted : AcceptsAreWanted
accepts_wanted number before w clients d e s may awaits = awaits.accept ∙ accepting number none_leaves d.peers d.state s (end_d number before w clients d e s may awaits)

pub gets_wanted : GetsAreWanted
gets_wanted number before w clients d e s may awaits room i k at = gets number before w clients d e s may awaits room i k at

pub asks_wanted : AsksAreWanted
asks_wanted number before w clients d e s may awaits asked i k at = asks number before w clients d e s may awaits asked i k at
