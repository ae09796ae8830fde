-- No origin has the number of a client that was read: that number was given, so that it is no other's ever.
use Rattle.std.proofs.Common.{◌≡◌, ◌≤◌, ◌⊎◌, inl, inr, refl, sym, subst, ap, ap₂, ◌∙◌, ℕ, zero, suc, Bool, true, false, ◌==◌, ◌||◌, filter, take, map, List, [], ◌∷◌, ◌++◌, Some, None, le_refl}
use Rattle.std.specs.Prelude.{slice_get}
use Rattle.pp_cache_law.proofs.Numbers.{some_is}
use Rattle.pp_desk.specs.Closings.{peer_numbers}
use Rattle.pp_desk.specs.declared.desk.Desk.{Desk}
use Rattle.pp_due.specs.Waits.{is_read}
use Rattle.pp_flow_law.specs.Tables.{Leaving}
use Rattle.pp_law.specs.Lists.{Bytes, has_number}
use Rattle.pp_law.specs.Phases.{ending}
use Rattle.pp_law.specs.State.{State, Client, Conn, Term}
use Rattle.pp_laws.proofs.Sound.{client_number, conn_number}
use Rattle.pp_laws.proofs.Tests.{number_same}
use Rattle.pp_laws_pool.proofs.View.{Holds, holds, facts_of}
use Rattle.pp_laws_sides.proofs.Linked.{numbers_rise}
use Rattle.pp_laws_sides.proofs.Names.{Named, names_of}
use Rattle.pp_laws_sides.proofs.Numbers.{has_in, has_none, side_named}
use Rattle.pp_laws_sides.proofs.Tops.{come_once}
use Rattle.pp_laws_sides.proofs.Turns.{ending-named}
use Rattle.pp_laws_sides.specs.Linked.{AreNumbered}
use Rattle.pp_laws_sides.specs.Sides.{side_by, side_in}
use Rattle.pp_obeys.specs.Obeys.{Obeys}
use Rattle.pp_peers.specs.declared.peers.Peer.{Peer}
use Rattle.pp_peers_law.specs.Peers.{ShowConns}
use Rattle.pp_proxy.specs.Awaiting.{Awaits, Rests}
use Rattle.pp_seats.specs.declared.seat.Seat.{Seat}
use Rattle.pp_seats_law.specs.Clients.{AreShown}
use Rattle.pp_state.specs.Ends.{numbers_of}
use Rattle.pp_turns_law.specs.Turns.{ShowsTurn}
use Rattle.pp_waits_law.proofs.Like.{all_numbers, waiting_is}
use Rattle.pp_waits_law.proofs.Read.{written}
use Rattle.pp_waits_law.proofs.ReadWritten.{in_those}
use Rattle.pp_waits_law.proofs.Waited.{clients_taken}
use Rattle.pp_waits_law.specs.Reads.{MayRead}
use Rattle.pp_waits_law.specs.Waits.{OriginsAreApart}
use Rattle.pp_world.specs.Log.{Log}
use Rattle.pp_world.specs.declared.event.Side.TheVariants.{Client as OfClient, Origin}
use Rattle.pp_world.specs.declared.event.Wants.{Wants}
use Rattle.pp_given_law.specs.Apart.{AreClients, OriginsStayApart, ReadOnesAreClients}

-- ---- behind a wait

module _ (number : ℕ → ℕ) (before : List ℕ) (w : Wants) (clients : ℕ) (d e f : Desk) (s : State) (can : MayRead number before d s) (awaits : Awaits before w clients d e) (rests : Rests w clients e f) where
  taken : take clients w.read.items ≡ numbers_of (filter is_read d.state.seats.items)
  taken = clients_taken before w clients d e can.may.stands.turn.steps.order can.may.order awaits ∙ written number before w clients d e s can awaits

  numbers : numbers_of f.state.seats.items ≡ numbers_of d.state.seats.items
  numbers = ap (λ (xs : List Seat). numbers_of xs) (rests.seats ∙ waiting_is e.state) ∙ all_numbers e.state e.state.awake.items e.state.seats.items ∙ ap (λ (xs : List Seat). numbers_of xs) awaits.seats

  pub read_clients : AreClients (take clients w.read.items) f
  read_clients n has = ap (λ (ns : List ℕ). has_number n ns) numbers ∙ in_those is_read n d.state.seats.items (ap (λ (ns : List ℕ). has_number n ns) (sym taken) ∙ has)

pub read_ones : ReadOnesAreClients
read_ones number before w clients d e f s can awaits rests = read_clients number before w clients d e f s can awaits rests

-- ---- numbers of the turn are the law's

client_numbers : (number : ℕ → ℕ) (name : Bytes) (owed : List Bytes) (seats : List Seat) (cs : List Client) → AreShown number name owed seats cs → numbers_of seats ≡ map client_number cs
client_numbers number name owed [] [] shown = refl
client_numbers number name owed [] (c ∷ cs) shown = absurd shown
client_numbers number name owed (seat ∷ seats) [] shown = absurd shown
client_numbers number name owed (seat ∷ seats) (c ∷ cs) shown = ap₂ (λ (n : ℕ) (ns : List ℕ). n ∷ ns) shown.0.number (client_numbers number name owed seats cs shown.1)

conn_numbers : (s : State) (ps : List Peer) (ks : List Conn) → ShowConns s ps ks → peer_numbers ps ≡ map conn_number ks
conn_numbers s [] [] shows = refl
conn_numbers s [] (k ∷ ks) shows = absurd shows
conn_numbers s (p ∷ ps) [] shows = absurd shows
conn_numbers s (p ∷ ps) (k ∷ ks) shows = ap₂ (λ (n : ℕ) (ns : List ℕ). n ∷ ns) shows.0.number (conn_numbers s ps ks shows.1)

here_has : (ps : List Peer) (i : ℕ) (peer : Peer) → slice_get ps i ≡ Some peer → has_number peer.number (peer_numbers ps) ≡ true
here_has [] i peer here = absurd (cc here)
here_has (p ∷ ps) zero peer here = ap (λ (b : Bool). b || has_number peer.number (peer_numbers ps)) (ap (λ (x : Peer). x.number == peer.number) (some_is p peer here) ∙ number_same peer.number)
here_has (p ∷ ps) (suc i) peer here = ap (λ (b : Bool). (p.number == peer.number) || b) (here_has ps i peer here) ∙ by (p.number == peer.number)
  where
    by : (b : Bool) → (b || true) ≡ true
    by true = refl
    by false = refl

-- ---- at the next wait

module _ (terms : List Term) (before hs : Log) (s t : State) (one : Obeys terms s before) (two : Obeys terms t (before ++ hs)) where
  rise : AreNumbered t
  rise = numbers_rise terms t (before ++ hs) two

  -- an origin of the later is no client of it
  no_client : (n : ℕ) → has_number n (map conn_number t.conns) ≡ true → has_number n (map client_number t.clients) ≡ false
  no_client n is = let k = has_in conn_number n t.conns is in has_none client_number n t.clients (λ c i number. rise.apart c k.0 i k.1 (number ∙ sym k.2))

  was : (n : ℕ) → has_number n (map client_number s.clients) ≡ true → side_in s n ≡ Some OfClient
  was n is = side_named s n ∙ ap (λ (b : Bool). side_by b (has_number n (map conn_number s.conns))) is

  now : (n : ℕ) → has_number n (map conn_number t.conns) ≡ true → side_in t n ≡ Some Origin
  now n is = side_named t n ∙ ap₂ side_by (no_client n is) is

  given : (n : ℕ) → has_number n (map client_number s.clients) ≡ true → n ≤ s.top
  given n is = let c = has_in client_number n s.clients is in subst (λ (m : ℕ). m ≤ s.top) c.2 ((numbers_rise terms s before one).clients_given c.0 c.1)

  -- nor a client of the earlier
  pub never_both : (n : ℕ) → has_number n (map client_number s.clients) ≡ true → has_number n (map conn_number t.conns) ≡ true → ⊥
  never_both n client conn = by (come_once terms before hs s t n one two (given n client))
    where
      by : (side_in t n ≡ side_in s n) ⊎ (side_in t n ≡ None) → ⊥
      by (inl same) = let both : Some Origin ≡ Some OfClient = sym (now n conn) ∙ same ∙ was n client in absurd (cc both)
      by (inr gone) = let both : Some Origin ≡ None = sym (now n conn) ∙ gone in absurd (cc both)

  itself : Holds (Named (names_of t) t.next_exchange) t
  itself = holds (record { clients_are = refl; conns_are = refl; few = le_refl t.next_exchange })

  module _ (number later : ℕ → ℕ) (l m : Leaving) (read : List ℕ) (d f : Desk) (then : ShowsTurn number l d.peers d.state s) (clients : AreClients read d) (ends : ShowsTurn later m f.peers f.state (ending t)) where
    its_conn : (i : ℕ) (peer : Peer) → slice_get f.peers i ≡ Some peer → has_number peer.number (map conn_number t.conns) ≡ true
    its_conn i peer here =
        ap (λ (ns : List ℕ). has_number peer.number ns) (sym (conn_numbers (ending t) f.peers (ending t).conns ends.steps.shows.conns ∙ (facts_of (ending-named t itself)).conns_are))
        ∙ here_has f.peers i peer here

    no_seat : (n : ℕ) → has_number n (map conn_number t.conns) ≡ true → has_number n (numbers_of f.state.seats.items) ≡ false
    no_seat n is =
        ap (λ (ns : List ℕ). has_number n ns) (client_numbers later f.state.name.items [] f.state.seats.items (ending t).clients ends.steps.shows.clients ∙ (facts_of (ending-named t itself)).clients_are)
        ∙ no_client n is

    not_read : (n : ℕ) → has_number n (map conn_number t.conns) ≡ true → has_number n read ≡ false
    not_read n is = by (has_number n read) refl
      where
        by : (b : Bool) → has_number n read ≡ b → b ≡ false
        by false out = refl
        by true in_it =
            absurd (never_both n (ap (λ (ns : List ℕ). has_number n ns) (sym (client_numbers number d.state.name.items [] d.state.seats.items s.clients then.steps.shows.clients)) ∙ clients n in_it) is)

    pub apart_there : OriginsAreApart read f
    apart_there i peer here = record { clients = no_seat peer.number (its_conn i peer here); read = not_read peer.number (its_conn i peer here) }

pub stay_apart : OriginsStayApart
stay_apart terms before hs number later l m read d f s t one then clients two ends = apart_there terms before hs s t one two number later l m read d f then clients ends
