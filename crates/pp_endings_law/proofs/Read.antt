-- Which connections to origins are read at the end of a turn.
use Rattle.std.proofs.Common.{◌≡◌, refl, sym, subst, ap, ap₂, ◌∙◌, ℕ, zero, suc, Bool, true, false, not, ◌==◌, ◌&&◌, ◌||◌, min, nat_lt, List, [], ◌∷◌, Some, None, Option, arith}
use Rattle.std.proofs.lemmas.Bool.Decides.{nat_tests}
use Rattle.std.specs.List.{list_any}
use Rattle.std.specs.Prelude.{option_and_then, option_map, slice_get}
use Rattle.pp_cache_law.proofs.Framing.{frames_of, the_same}
use Rattle.pp_cache_law.proofs.Numbers.{some_is}
use Rattle.pp_cache_law.specs.Pairs.{AreBoth}
use Rattle.pp_client.specs.Replies.{Reply as Said}
use Rattle.pp_flow.specs.Changes.{entry_of, line_of}
use Rattle.pp_flow.specs.declared.entry.Entry.{Entry}
use Rattle.pp_flow_law.proofs.Entries.{none_some, other_way}
use Rattle.pp_flow_law.proofs.Framed.{frames as flow_frames}
use Rattle.pp_flow_law.specs.Tables.{Leaving, line_in, none_leaves}
use Rattle.pp_law.specs.Connections.{conn, exchange, front_of_line, is_outstanding}
use Rattle.pp_law.specs.Lists.{Bytes, is_some_with, is_this}
use Rattle.pp_law.specs.Requests.{Front}
use Rattle.pp_law.specs.Served.{has_full_pipe, is_far_ahead as is_far_by_law, is_held_back, is_stopped, wants_read}
use Rattle.pp_law.specs.Stages.{passed_of}
use Rattle.pp_law.specs.State.{State, Client, Conn, Exchange, Passed}
use Rattle.pp_pass.specs.Pipe.{Pipe, room_of}
use Rattle.pp_peers.specs.declared.peers.Peer.{Peer}
use Rattle.pp_peers_law.specs.Peers.{ShowConns, ShowsConn}
use Rattle.pp_seats.specs.Seats.{passed_in}
use Rattle.pp_seats.specs.declared.seat.Passed.{Passed as SeatPassed}
use Rattle.pp_seats.specs.declared.seat.Seat.{Seat}
use Rattle.pp_seats_law.proofs.Stages.{passed}
use Rattle.pp_seats_law.specs.Clients.{AreShown, IsAt, IsNowhere}
use Rattle.pp_seats_law.specs.Exchanges.{ShowsExchange}
use Rattle.pp_seats_law.specs.Seats.{ShowsSeat}
use Rattle.pp_seats_law.specs.Words.{ShowsMaybePassed}
use Rattle.pp_state.specs.Bodies.{room_for, room_of_seat, seat_in}
use Rattle.pp_state.specs.Ends.{numbers_of, parts, place_of}
use Rattle.pp_state.specs.Readers.{is_far_ahead as is_far_in_turn}
use Rattle.pp_state.specs.declared.state.State.{State as Turn}
use Rattle.pp_states_law.proofs.Asked.{all_as, frames, itself}
use Rattle.pp_states_law.proofs.Lines.{AllFound, all_found}
use Rattle.pp_states_law.specs.States.{ShowsState}
use Rattle.pp_states_law.proofs.Places.{at_place, no_place}
use Rattle.pp_states_law.specs.Steps.{whole}
use Rattle.pp_turns_law.proofs.Ahead.{far_ahead}
use Rattle.pp_turns_law.proofs.Looked.{not_ticked}
use Rattle.pp_turns_law.specs.Marks.{AreLoud}
use Rattle.pp_turns_law.specs.Wants.{ShowsEnd}
use Rattle.pp_wants.specs.Awaited.{has_room_for, has_room_on}
use Rattle.pp_world.specs.declared.event.Wants.{Wants}
use Rattle.pp_endings_law.specs.Waits.{OriginsAreReadAsTheLaws, ReadsAreRight}

-- ---- whether the clock ticked is no part of it

abbrev stood : Turn → Turn
stood p = record p { is_ticked = false }

abbrev stood_by_law : State → State
stood_by_law s = record s { is_ticked = false }

state_stood : (number : ℕ → ℕ) (name : Bytes) (l : Leaving) (peers : List Peer) (p : Turn) (s : State) → ShowsState number name [] l (whole (parts p) peers) s → ShowsState number name [] l (whole (parts p) peers) (stood_by_law s)
state_stood number name l peers p s shows = record {
  clients = shows.clients;
  exchanges = flow_frames number l p.flow s shows.exchanges l (stood_by_law s) (record { exchanges = refl; next = refl; lines = λ n. refl });
  table =
      frames_of number p.cache s shows.table p.cache (stood_by_law s) (record { instances = refl; lives = refl; chunks = refl; extents = refl })
      (record { instances = refl; made = the_same s.next_instance; chunks = refl; followers = λ id. refl; kept = λ x. refl });
  conns = frames s (stood_by_law s) peers s.conns (all_as s (stood_by_law s) (λ m. itself (exchange s m)) s.conns) shows.conns;
}

end_stood : (number : ℕ → ℕ) (l : Leaving) (peers : List Peer) (p : Turn) (s : State) → ShowsEnd number l peers p s → ShowsEnd number l peers (stood p) (stood_by_law s)
end_stood number l peers p s shows = record {
  turn = record {
    steps = record { shows = state_stood number p.name.items l peers p s shows.turn.steps.shows; order = shows.turn.steps.order; told = shows.turn.steps.told; refused = shows.turn.steps.refused };
    name = shows.turn.name;
    shares = shows.turn.shares;
    clock = shows.turn.clock;
    ticked = refl;
    stopped = shows.turn.stopped;
    bounded = shows.turn.bounded;
  };
  going = shows.going;
  follows = shows.follows;
}

far_same : (number : ℕ → ℕ) (l : Leaving) (peers : List Peer) (p : Turn) (s : State) → ShowsEnd number l peers p s → AreLoud p → (n : ℕ) (x : Entry) (e : Exchange) → entry_of n p.flow ≡ Some x → exchange s n ≡ Some e
    → is_far_in_turn x.exchange.bound p.cache p.awake.items p.seats.items ≡ is_far_by_law s e
far_same number l peers p s shows loud n x e here there =
    far_ahead number l peers (stood p) (stood_by_law s) (end_stood number l peers p s shows) n x e (not_ticked (stood p) (record { order = loud.order; others = loud.others }) refl) here there

-- ---- the pipe of the client that a response is passed to

room_is : (n : ℕ) → nat_lt 0 (min n 1) ≡ not (n == 0)
room_is zero = refl
room_is (suc n) =
    let one : min (suc n) 1 ≡ 1 = omega arith in
    let some : (suc n == 0) ≡ false = grind (arith, nat_tests) in
    ap (λ (m : ℕ). nat_lt 0 m) one ∙ sym (ap not some)

abbrev is_full : Option Passed → Bool
is_full o = is_some_with (λ n. n == 0) (option_map (λ p. room_of p.pipe) o)

abbrev room_by : Pipe → Option SeatPassed → ℕ
room_by pipe o = elim o [ None ↦ 1 | Some x ↦ min (room_of pipe) 1 ]

full_same : (name : Bytes) (said : Said) (front : Front) (x : Option SeatPassed) (p : Option Passed) → ShowsMaybePassed name said front x p → nat_lt 0 (room_by said.pipe x) ≡ not (is_full p)
full_same name said front None None shows = refl
full_same name said front (Some x) (Some p) shows = room_is (room_of said.pipe) ∙ ap (λ (pipe : Pipe). not (room_of pipe == 0)) shows.pipe
full_same name said front None (Some p) shows = absurd shows
full_same name said front (Some x) None shows = absurd shows

-- of the clients an exchange has one at most
abbrev full_if : Client → Bool → Bool
full_if c b = is_some_with (λ n. n == 0) (elim b as (λ t. Option ℕ) [ false ↦ None | true ↦ option_map (λ p. room_of p.pipe) (passed_of c) ])

nobodys : (e : Exchange) → e.asker ≡ None → (cs : List Client) → list_any (has_full_pipe e) cs ≡ false
nobodys e none [] = refl
nobodys e none (c ∷ cs) = ap₂ (λ (a b : Bool). a || b) (ap (λ (o : Option ℕ). full_if c (is_this c.number o)) none) (nobodys e none cs)

module _ (number : ℕ → ℕ) (name : Bytes) (e : Exchange) (n : ℕ) (asks : e.asker ≡ Some n) where
  not_its : (seat : Seat) (c : Client) → ShowsSeat number name [] seat c → (seat.client.id == n) ≡ false → has_full_pipe e c ≡ false
  not_its seat c shows off = ap (λ (o : Option ℕ). full_if c (is_this c.number o)) asks ∙ ap (λ (b : Bool). full_if c b) (other_way c.number n (ap (λ (m : ℕ). m == n) (sym shows.number) ∙ off))

  nowhere_full : (seats : List Seat) (cs : List Client) → AreShown number name [] seats cs → IsNowhere n seats → list_any (has_full_pipe e) cs ≡ false
  nowhere_full [] [] shown none = refl
  nowhere_full [] (c ∷ cs) shown none = absurd shown
  nowhere_full (seat ∷ seats) [] shown none = absurd shown
  nowhere_full (seat ∷ seats) (c ∷ cs) shown none = ap₂ (λ (a b : Bool). a || b) (not_its seat c shown.0 none.0) (nowhere_full seats cs shown.1 none.1)

  itself_is : (m k : ℕ) → m ≡ k → (k == m) ≡ true
  itself_is m k same = grind (arith, nat_tests, same)

  its_full : (c : Client) → c.number ≡ n → has_full_pipe e c ≡ is_full (passed_of c)
  its_full c same = ap (λ (o : Option ℕ). full_if c (is_this c.number o)) asks ∙ ap (λ (b : Bool). full_if c b) (itself_is c.number n same)

  or_none : (b : Bool) → (b || false) ≡ b
  or_none true = refl
  or_none false = refl

  same_id : (m k : ℕ) → (m == k) ≡ true → m ≡ k
  same_id m k is = grind (arith, nat_tests, is)

  -- the one at a place is not full where the program finds room
  place_full : (i : ℕ) (seats : List Seat) (cs : List Client) → AreShown number name [] seats cs → ((j : ℕ) (c : Client) → slice_get cs j ≡ Some c → c.is_closing ≡ false) → IsAt n i seats
      → nat_lt 0 (room_of_seat 1 (slice_get seats i)) ≡ not (list_any (has_full_pipe e) cs)
  place_full i [] cs shown going at = absurd at
  place_full zero (seat ∷ seats) [] shown going at = absurd shown
  place_full (suc i) (seat ∷ seats) [] shown going at = absurd shown
  place_full zero (seat ∷ seats) (c ∷ cs) shown going at =
      let same : c.number ≡ n = sym shown.0.number ∙ same_id seat.client.id n at.0 in
      full_same name seat.client.reply c.front (passed_in seat.brought) (passed_of c) (passed number name [] seat c (shown.0.going (going 0 c refl)))
      ∙ ap not (sym (ap₂ (λ (a b : Bool). a || b) (its_full c same) (nowhere_full seats cs shown.1 at.1) ∙ or_none (is_full (passed_of c))))
  place_full (suc i) (seat ∷ seats) (c ∷ cs) shown going at =
      place_full i seats cs shown.1 (λ j d here. going (suc j) d here) at.1
      ∙ ap not (sym (ap (λ (b : Bool). b || list_any (has_full_pipe e) cs) (not_its seat c shown.0 at.0)))

room_same : (number : ℕ → ℕ) (l : Leaving) (peers : List Peer) (p : Turn) (s : State) → ShowsEnd number l peers p s → (x : Entry) (e : Exchange) → ShowsExchange number x e
    → nat_lt 0 (room_for x.exchange 1 p.seats.items) ≡ not (list_any (has_full_pipe e) s.clients)
room_same number l peers p s shows x e same = by e.asker refl
  where
    room_at : Option ℕ → Bool
    room_at asker = nat_lt 0 (room_of_seat 1 (seat_in (option_and_then (λ client. place_of client (numbers_of p.seats.items)) asker) p.seats.items))

    at : (n : ℕ) → e.asker ≡ Some n → (o : Option ℕ) → place_of n (numbers_of p.seats.items) ≡ o → nat_lt 0 (room_of_seat 1 (seat_in o p.seats.items)) ≡ not (list_any (has_full_pipe e) s.clients)
    at n asks None none = ap not (sym (nowhere_full number p.name.items e n asks p.seats.items s.clients shows.turn.steps.shows.clients (no_place n p.seats.items none)))
    at n asks (Some i) found = place_full number p.name.items e n asks i p.seats.items s.clients shows.turn.steps.shows.clients shows.going (at_place n i p.seats.items shows.turn.steps.order found)

    by : (o : Option ℕ) → e.asker ≡ o → nat_lt 0 (room_for x.exchange 1 p.seats.items) ≡ not (list_any (has_full_pipe e) s.clients)
    by None none = ap room_at (same.asker ∙ none) ∙ ap not (sym (nobodys e none s.clients))
    by (Some n) asks = ap room_at (same.asker ∙ asks) ∙ at n asks (place_of n (numbers_of p.seats.items)) refl

-- ---- of one connection

neither : (a b : Bool) → (not a && not b) ≡ not (a || b)
neither true b = refl
neither false b = refl

pub conn_shown : (s : State) (i : ℕ) (ps : List Peer) (ks : List Conn) (peer : Peer) (k : Conn) → ShowConns s ps ks → slice_get ps i ≡ Some peer → slice_get ks i ≡ Some k → ShowsConn s peer k
conn_shown s i [] ks peer k shows here there = absurd (none_some peer here)
conn_shown s i (p ∷ ps) [] peer k shows here there = absurd shows
conn_shown s zero (p ∷ ps) (j ∷ ks) peer k shows here there = subst (λ (q : Peer). ShowsConn s q k) (some_is p peer here) (subst (λ (q : Conn). ShowsConn s p q) (some_is j k there) shows.0)
conn_shown s (suc i) (p ∷ ps) (j ∷ ks) peer k shows here there = conn_shown s i ps ks peer k shows.1 here there

pub conn_found : (s : State) (i : ℕ) (ks : List Conn) (k : Conn) → AllFound s ks → slice_get ks i ≡ Some k → conn s k.number ≡ Some k
conn_found s i [] k all there = absurd (none_some k there)
conn_found s zero (j ∷ ks) k all there = subst (λ (q : Conn). conn s q.number ≡ Some q) (some_is j k there) all.0
conn_found s (suc i) (j ∷ ks) k all there = conn_found s i ks k all.1 there

abbrev first_in : State → List ℕ → Option Exchange
first_in s line = elim line as (λ t. Option Exchange) [ [] ↦ None | m ∷ others ↦ exchange s m ]

pub origins_read : OriginsAreReadAsTheLaws
origins_read number peers p s i peer k shows loud apart here there =
    ap₂ (λ (b : Bool) (m : ℕ). b && has_room_on p.awake.items (parts p) (slice_get (line_of m p.flow.placed) 0)) seen.is_reached seen.number
    ∙ ap (λ (ns : List ℕ). k.is_reached && has_room_on p.awake.items (parts p) (slice_get ns 0)) line
    ∙ ap (λ (b : Bool). k.is_reached && b) (by_line k.line)
  where
    seen : ShowsConn s peer k
    seen = conn_shown s i peers s.conns peer k shows.turn.steps.shows.conns here there

    line : line_of k.number p.flow.placed ≡ k.line
    line = shows.turn.steps.shows.exchanges.lines k.number ∙ ap (λ (o : Option Conn). line_in o) (conn_found s i s.conns k (all_found s apart) there)

    by_entry : (m : ℕ) (x : Option Entry) (e : Option Exchange) → entry_of m p.flow ≡ x → exchange s m ≡ e → AreBoth (ShowsExchange number) x e
        → has_room_for p.awake.items (parts p) (option_map (λ (y : Entry). y.exchange) x) ≡ not (is_some_with (is_stopped s) e)
    by_entry m None None one two both = refl
    by_entry m None (Some e) one two both = absurd both
    by_entry m (Some x) None one two both = absurd both
    by_entry m (Some x) (Some e) one two both =
        ap₂ (λ (a b : Bool). a && not b) (room_same number none_leaves peers p s shows x e both) (far_same number none_leaves peers p s shows loud m x e one two)
        ∙ neither (list_any (has_full_pipe e) s.clients) (is_far_by_law s e)

    by_line : (ns : List ℕ) → has_room_on p.awake.items (parts p) (slice_get ns 0) ≡ not (is_some_with (is_stopped s) (first_in s ns))
    by_line [] = refl
    by_line (m ∷ others) = by_entry m (entry_of m p.flow) (exchange s m) refl refl (shows.turn.steps.shows.exchanges.each m)

-- ---- so it is read rightly

abbrev first_by : State → Wants → Conn → Exchange → Bool → Bool
first_by s w k e stops = elim stops as (λ t. Bool) [ true ↦ not (wants_read w k.number) && is_held_back s w e | false ↦ wants_read w k.number ]

first_right : (s : State) (w : Wants) (k : Conn) (e : Exchange) (b : Bool) → is_stopped s e ≡ b → wants_read w k.number ≡ not b → (is_stopped s e ≡ true → is_held_back s w e ≡ true) → first_by s w k e b ≡ true
first_right s w k e true stops reads held = ap₂ (λ (a b : Bool). not a && b) reads (held stops)
first_right s w k e false stops reads held = reads

or_right : (a b : Bool) → b ≡ true → (a || b) ≡ true
or_right true b is = refl
or_right false b is = is

pub reads_right : ReadsAreRight
reads_right s w k = by (front_of_line s k)
  where
    rightly : Option Exchange → Bool
    rightly o = elim o as (λ t. Bool) [ None ↦ wants_read w k.number | Some e ↦ not (is_outstanding e) || first_by s w k e (is_stopped s e) ]

    by : (o : Option Exchange) → wants_read w k.number ≡ not (is_some_with (is_stopped s) o) → ((e : Exchange) → o ≡ Some e → is_stopped s e ≡ true → is_held_back s w e ≡ true) → rightly o ≡ true
    by None reads held = reads
    by (Some e) reads held = or_right (not (is_outstanding e)) (first_by s w k e (is_stopped s e)) (first_right s w k e (is_stopped s e) refl reads (held e refl))
