-- An event comes on a connection: it is not idle, in the program as in the law.
use Rattle.std.proofs.Common.{◌≡◌, refl, sym, subst, ap, ap₂, ◌∙◌, ℕ, suc, Bool, true, false, ◌==◌, cond, find, List, [], ◌∷◌, Option, Some, None}
use Rattle.std.specs.Prelude.{option_map, slice_set}
use Rattle.pp_cache_law.proofs.Numbers.{is_same, some_is}
use Rattle.pp_turns_law.proofs.Peers.{HasPeer, linked}
use Rattle.pp_turns_law.specs.Log.{AreLinked}
use Rattle.pp_turns_law.specs.Sides.{IsOrderly, MayClose}
use Rattle.pp_turns_law.proofs.Sitting.{on_seat_is}
use Rattle.pp_desk.proofs.ClosingLemmas.{changed_numbers}
use Rattle.pp_desk.specs.Closings.{Sides, peer_numbers}
use Rattle.pp_desk.specs.Marks.{marked_on, marked_peer, marked_seat, touched}
use Rattle.pp_flow_law.proofs.Entries.{none_some, same_number}
use Rattle.pp_flow_law.specs.Tables.{none_leaves}
use Rattle.pp_law.specs.Connections.{is_client, is_conn, on_client, on_conn}
use Rattle.pp_law.specs.Lists.{Bytes}
use Rattle.pp_law.specs.State.{State, Client, Conn}
use Rattle.pp_law.specs.Turn.{marked_client, marked_conn, touch}
use Rattle.pp_links.specs.Links.{Link, is_link}
use Rattle.pp_peers.specs.Peers.{is_number, with_peer}
use Rattle.pp_peers.specs.declared.peers.Peer.{Peer}
use Rattle.pp_peers_law.specs.Peers.{ShowConns}
use Rattle.pp_seats.specs.declared.seat.Seat.{Seat}
use Rattle.pp_seats_law.specs.Clients.{AreShown, IsAt, IsNowhere}
use Rattle.pp_state.specs.Ends.{AreInOrder, Parts, numbers_of, on_seat_where, place_of}
use Rattle.pp_states_law.proofs.Begun.{origin_touches, touches}
use Rattle.pp_states_law.proofs.Kept.{GoesThrough}
use Rattle.pp_states_law.proofs.Places.{HasSeat, at_place, has_seat, no_place, numbers_set}
use Rattle.pp_states_law.proofs.Told.{told_next}
use Rattle.pp_states_law.specs.Charges.{GoesOn}
use Rattle.pp_states_law.specs.Losses.{IsComing}
use Rattle.pp_states_law.specs.Steps.{ShowsSteps, whole}
use Rattle.pp_world.specs.declared.event.Side.TheVariants.{Client as OfClient, Origin as OfOrigin}
use Rattle.pp_events_law.proofs.Standing.{GoesOnLine, go_through, may_by}
use Rattle.pp_events_law.specs.Stands.{AreClients}

-- ---- no connection is a client's and an origin's

pub link_of : (n : ℕ) (ps : List Peer) (links : List Link) (peer : Peer) → AreLinked (peer_numbers ps) links → find (is_number n) ps ≡ Some peer → find (is_link n) links ≡ Some (n, OfOrigin)
link_of n [] links peer linked there = absurd (none_some peer there)
link_of n (p ∷ ps) links peer linked there = by (is_number n p) refl there (λ later. link_of n ps links peer linked.1 later)
  where
    by : (b : Bool) → is_number n p ≡ b → cond b (Some p) (find (is_number n) ps) ≡ Some peer → (find (is_number n) ps ≡ Some peer → find (is_link n) links ≡ Some (n, OfOrigin)) → find (is_link n) links ≡ Some (n, OfOrigin)
    by true is found rest = subst (λ (m : ℕ). find (is_link m) links ≡ Some (m, OfOrigin)) (same_number p.number n is) linked.0
    by false is found rest = rest found

pub client_link : (n i : ℕ) (ns : List ℕ) (links : List Link) → place_of n ns ≡ Some i → AreClients ns links → find (is_link n) links ≡ Some (n, OfClient)
client_link n i [] links there linked = absurd (none_some i there)
client_link n i (m ∷ ns) links there linked = by (m == n) refl there (λ j at. client_link n j ns links at linked.1)
  where
    later : (o : Option ℕ) → place_of n ns ≡ o → option_map (λ (j : ℕ). suc j) o ≡ Some i → ((j : ℕ) → place_of n ns ≡ Some j → find (is_link n) links ≡ Some (n, OfClient)) → find (is_link n) links ≡ Some (n, OfClient)
    later None at found rest = absurd (none_some i found)
    later (Some j) at found rest = rest j at

    by : (b : Bool) → (m == n) ≡ b → cond b (Some 0) (option_map (λ (j : ℕ). suc j) (place_of n ns)) ≡ Some i → ((j : ℕ) → place_of n ns ≡ Some j → find (is_link n) links ≡ Some (n, OfClient)) → find (is_link n) links ≡ Some (n, OfClient)
    by true is found rest = subst (λ (j : ℕ). find (is_link j) links ≡ Some (j, OfClient)) (is_same m n is) linked.0
    by false off found rest = later (place_of n ns) refl found rest

sides_differ : (n : ℕ) (links : List Link) → find (is_link n) links ≡ Some (n, OfClient) → find (is_link n) links ≡ Some (n, OfOrigin) → ⊥
sides_differ n links one other = absurd (let same : OfClient ≡ OfOrigin = ap (λ (l : Link). l.1) (some_is (n, OfClient) (n, OfOrigin) (sym one ∙ other)) in cc same)

-- a client has no connection to an origin
pub no_peer : (n i : ℕ) (ns : List ℕ) (ps : List Peer) (links : List Link) → place_of n ns ≡ Some i → AreClients ns links → AreLinked (peer_numbers ps) links → find (is_number n) ps ≡ None
no_peer n i ns ps links there clients origins = by (find (is_number n) ps) refl
  where
    by : (o : Option Peer) → find (is_number n) ps ≡ o → o ≡ None
    by None is = refl
    by (Some peer) is = absurd (sides_differ n links (client_link n i ns links there clients) (link_of n ps links peer origins is))

-- and the other way
pub no_seat : (n : ℕ) (ns : List ℕ) (ps : List Peer) (links : List Link) (peer : Peer) → find (is_number n) ps ≡ Some peer → AreClients ns links → AreLinked (peer_numbers ps) links → place_of n ns ≡ None
no_seat n ns ps links peer there clients origins = by (place_of n ns) refl
  where
    by : (o : Option ℕ) → place_of n ns ≡ o → o ≡ None
    by None is = refl
    by (Some i) is = absurd (sides_differ n links (client_link n i ns links is clients) (link_of n ps links peer origins there))

-- ---- who is there in the law

pub none_client : (number : ℕ → ℕ) (name : Bytes) (n : ℕ) (seats : List Seat) (cs : List Client) → AreShown number name [] seats cs → IsNowhere n seats → find (is_client n) cs ≡ None
none_client number name n [] [] shown none = refl
none_client number name n [] (c ∷ cs) shown none = absurd shown
none_client number name n (seat ∷ seats) [] shown none = absurd shown
none_client number name n (seat ∷ seats) (c ∷ cs) shown none =
    ap (λ (b : Bool). cond b (Some c) (find (is_client n) cs)) (sym (ap (λ (m : ℕ). m == n) shown.0.number) ∙ none.0) ∙ none_client number name n seats cs shown.1 none.1

none_conn : (n : ℕ) (s : State) (ps : List Peer) (ks : List Conn) → ShowConns s ps ks → find (is_number n) ps ≡ None → find (is_conn n) ks ≡ None
none_conn n s ps ks shown none = by (find (is_conn n) ks) refl
  where
    by : (o : Option Conn) → find (is_conn n) ks ≡ o → o ≡ None
    by None is = refl
    by (Some k) is = let one : HasPeer s n ps k = linked s n ps ks k is shown in absurd (none_some one.peer (sym none ∙ one.there))

-- ---- a mark is no part of what closings rest on

pub mark_through : (now : ℕ) → GoesThrough (marked_client now)
mark_through now = record { number = λ c. refl; goes = λ c on. record { going = on.going; given = on.given }; comes = λ c on. on }

pub through_if : (n : ℕ) (f : Client → Client) → GoesThrough f → GoesThrough (λ c. elim (is_client n c) as (λ t. Client) [ true ↦ f c | false ↦ c ])
through_if n f goes = record { number = λ c. number_by c (is_client n c); goes = λ c on. goes_by c (is_client n c) on; comes = λ c on. comes_by c (is_client n c) on }
  where
    number_by : (c : Client) (b : Bool) → (elim b as (λ t. Client) [ true ↦ f c | false ↦ c ]).number ≡ c.number
    number_by c true = goes.number c
    number_by c false = refl

    goes_by : (c : Client) (b : Bool) → GoesOn c → GoesOn (elim b as (λ t. Client) [ true ↦ f c | false ↦ c ])
    goes_by c true on = goes.goes c on
    goes_by c false on = on

    comes_by : (c : Client) (b : Bool) → IsComing c → IsComing (elim b as (λ t. Client) [ true ↦ f c | false ↦ c ])
    comes_by c true on = goes.comes c on
    comes_by c false on = on

pub line_if : (n : ℕ) (f : Conn → Conn) → GoesOnLine f → GoesOnLine (λ k. elim (is_conn n k) as (λ t. Conn) [ true ↦ f k | false ↦ k ])
line_if n f keeps = record { number = λ k. number_by k (is_conn n k); orderly = λ k all. orderly_by k (is_conn n k) all }
  where
    number_by : (k : Conn) (b : Bool) → (elim b as (λ t. Conn) [ true ↦ f k | false ↦ k ]).number ≡ k.number
    number_by k true = keeps.number k
    number_by k false = refl

    orderly_by : (k : Conn) (b : Bool) → IsOrderly k → IsOrderly (elim b as (λ t. Conn) [ true ↦ f k | false ↦ k ])
    orderly_by k true all = keeps.orderly k all
    orderly_by k false all = all

pub mark_line : (now : ℕ) → GoesOnLine (marked_conn now)
mark_line now = record { number = λ k. refl; orderly = λ k all. record { closed = all.closed; few = all.few } }

pub touch_may : (n : ℕ) (s : State) → MayClose s → MayClose (touch n s)
unfolding touch on_conn on_client
touch_may n s may =
    may_by s (touch n s) (λ k. elim (is_conn n k) as (λ t. Conn) [ true ↦ marked_conn s.clock k | false ↦ k ]) (line_if n (marked_conn s.clock) (mark_line s.clock)) refl
    (go_through (λ c. elim (is_client n c) as (λ t. Client) [ true ↦ marked_client s.clock c | false ↦ c ]) (through_if n (marked_client s.clock) (mark_through s.clock)) s (touch n s) refl refl may.go) may

-- ---- it is touched

touch_next : (n : ℕ) (s : State) → (touch n s).next_instance ≡ s.next_instance
unfolding touch on_conn on_client
touch_next n s = refl

-- the connection of a client
module _ (number : ℕ → ℕ) (name : Bytes) (x : Sides) (s : State) (shows : ShowsSteps number name none_leaves x.peers x.parts s) (n i : ℕ) (there : place_of n (numbers_of x.parts.seats) ≡ Some i) (nobody : find (is_number n) x.peers ≡ None) where
  abbrev sits : IsAt n i x.parts.seats
  sits = at_place n i x.parts.seats shows.order there

  abbrev its : HasSeat i x.parts.seats
  its = has_seat n i x.parts.seats sits

  touched_is : touched s.clock n x ≡ record x { parts = record x.parts { seats = slice_set x.parts.seats i (marked_seat s.clock its.seat) } }
  touched_is =
      ap₂ (λ (o : Option ℕ) (u : Option Peer). let z : Sides = record { parts = on_seat_where o (marked_seat s.clock) x.parts; peers = marked_on s.clock n u x.peers } in z) there nobody
      ∙ ap (λ (p : Parts). record x { parts = p }) (on_seat_is i (marked_seat s.clock) x.parts its.seat its.there)

  pub client_touched : ShowsSteps number name none_leaves (touched s.clock n x).peers (touched s.clock n x).parts (touch n s)
  client_touched = subst (λ (y : Sides). ShowsSteps number name none_leaves y.peers y.parts (touch n s)) (sym touched_is) (record {
    shows = touches number name [] none_leaves (whole x.parts x.peers) s shows.shows n i its.seat sits its.there (none_conn n s x.peers s.conns shows.shows.conns nobody);
    order = subst (λ (ns : List ℕ). AreInOrder ns) (sym (numbers_set i x.parts.seats its.seat (marked_seat s.clock its.seat) its.there refl)) shows.order;
    told = told_next number x.parts.cache s.next_instance (touch n s).next_instance x.parts.flow (touch_next n s) shows.told;
    refused = shows.refused;
  })

-- and that of an origin
module _ (number : ℕ → ℕ) (name : Bytes) (x : Sides) (s : State) (shows : ShowsSteps number name none_leaves x.peers x.parts s) (may : MayClose s) (n : ℕ) (peer : Peer) (there : find (is_number n) x.peers ≡ Some peer) (nobody : place_of n (numbers_of x.parts.seats) ≡ None) where
  pub origin_is : touched s.clock n x ≡ record x { peers = with_peer n (marked_peer s.clock peer) x.peers }
  origin_is = ap₂ (λ (o : Option ℕ) (u : Option Peer). let z : Sides = record { parts = on_seat_where o (marked_seat s.clock) x.parts; peers = marked_on s.clock n u x.peers } in z) nobody there

  pub origin_touched : ShowsSteps number name none_leaves (touched s.clock n x).peers (touched s.clock n x).parts (touch n s)
  origin_touched = subst (λ (y : Sides). ShowsSteps number name none_leaves y.peers y.parts (touch n s)) (sym origin_is) (record {
    shows = origin_touches number name [] none_leaves (whole x.parts x.peers) s shows.shows n peer (may.apart n) there (none_client number name n x.parts.seats s.clients shows.shows.clients (no_place n x.parts.seats nobody));
    order = shows.order;
    told = told_next number x.parts.cache s.next_instance (touch n s).next_instance x.parts.flow (touch_next n s) shows.told;
    refused = shows.refused;
  })

-- the numbers of connections stay
pub touched_numbers : (now n : ℕ) (x : Sides) → peer_numbers (touched now n x).peers ≡ peer_numbers x.peers
touched_numbers now n x = by (find (is_number n) x.peers) refl
  where
    by : (o : Option Peer) → find (is_number n) x.peers ≡ o → peer_numbers (marked_on now n o x.peers) ≡ peer_numbers x.peers
    by None is = refl
    by (Some peer) is = changed_numbers n peer (marked_peer now peer) x.peers is refl
