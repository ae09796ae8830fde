-- Lives go on where a connection is closed, where a response is whole or none, and where data come.
use Rattle.std.proofs.Common.{refl, sym, subst, ap, ℕ, zero, suc, ◌+◌, Bool, true, false, ◌&&◌, not, nat_le, cond, drop, find, length, take, List, [], ◌∷◌, Option, Some, None, option_and_then}
use Rattle.pp_answers_law.proofs.GivenCosts.{attempt_on, failed_on}
use Rattle.pp_answers_law.proofs.GivenRows.{keeps_as, keeps_joined, keeps_none, keeps_then}
use Rattle.pp_answers_law.proofs.GivenSeats.{Names, asker_given, end_given, on_beside, on_memory, on_none, on_same, on_seats, on_then, where_on}
use Rattle.pp_answers_law.specs.Lives.{GivesLives, KeepsLives, LivesGoOn}
use Rattle.pp_answers_law.specs.Making.{AreGivenSeats, IsGivenSeat}
use Rattle.pp_cache.specs.Memory.{Memory, extent_of}
use Rattle.pp_cache.specs.OnDisk.{grown_by}
use Rattle.pp_desk.specs.Closings.{Sides, closed_conn, closed_line, with_parts}
use Rattle.pp_flow.specs.Changes.{entry_of}
use Rattle.pp_flow.specs.Entries.{Span}
use Rattle.pp_flow.specs.declared.entry.Aim.{Aim}
use Rattle.pp_flow.specs.declared.entry.Aim.TheVariants.{Own, Hole, Pass as Through}
use Rattle.pp_flow.specs.declared.entry.Entry.{Entry}
use Rattle.pp_flow.specs.declared.entry.Exchange.{Exchange}
use Rattle.pp_holes.specs.Adding.{added}
use Rattle.pp_objects.specs.Instances.{is_there, total_at}
use Rattle.pp_objects.specs.declared.id.ObjectId.{ObjectId}
use Rattle.pp_origins.specs.Gots.{DataCame, DeliversTo}
use Rattle.pp_origins.specs.Responses.{bad_answer, bad_by, bad_for, bad_on, bad_response, brought_by, charged_by, closed_unless, finished, goes_on_by, has_brought_in, response_whole, whole_for}
use Rattle.pp_peers.specs.Peers.{is_number}
use Rattle.pp_peers.specs.declared.peers.Peer.{Peer}
use Rattle.pp_seats.specs.Seats.{brought_to, passed_in}
use Rattle.pp_seats.specs.declared.seat.Passed.{Passed}
use Rattle.pp_seats.specs.declared.seat.PassedEnd.TheVariants.{Short, Whole}
use Rattle.pp_seats.specs.declared.seat.Seat.{Seat}
use Rattle.pp_state.specs.Asking.{is_outstanding}
use Rattle.pp_state.specs.Bodies.{delivered_for, finished_for, joined_by, joined_within, left_for, on_disk, on_pipe, passed_whole, poured, poured_for, poured_into, skipped, with_bytes}
use Rattle.pp_state.specs.Ends.{Parts, asked_elsewhere, charged_where, cut_short, ended, exchange_at, failed, left_place, left_place_at, lost_place, may_go_elsewhere, parts, seat_for}
use Rattle.pp_state.specs.Lines.{first_on, lost_line}
use Rattle.pp_state.specs.declared.state.State.{State}

-- ---- a line is lost

ended_on : (n : ℕ) (p q : Parts) → LivesGoOn p q → LivesGoOn p (ended n q)
ended_on n p q on = on_beside p q (ended n q) refl refl on

leaves_on : (e : Exchange) (p : Parts) → LivesGoOn p (left_place e p)
unfolding left_place
leaves_on e p = by e.headed (may_go_elsewhere e.number p)
  where
    short : LivesGoOn p (cut_short e p)
    short = where_on (seat_for e p.seats) (λ seat. record seat { brought = brought_to Short seat.brought }) p (λ gives seat given. record { source = given.source; brought = end_given p.cache.lives Short seat.brought given.brought })

    by : (a b : Bool) → LivesGoOn p (cond a (ended e.number (cut_short e p)) (cond b (asked_elsewhere e.number p) (ended e.number p)))
    by true b = ended_on e.number p (cut_short e p) short
    by false true = on_beside p p (asked_elsewhere e.number p) refl refl (on_none p)
    by false false = ended_on e.number p p (on_none p)

loses_on : (n : ℕ) (counts : Bool) (p : Parts) → LivesGoOn p (lost_place n counts p)
loses_on n counts p = by (exchange_at n p.flow)
  where
    pays : (b : Bool) (e : Exchange) → LivesGoOn p (charged_where b e p)
    pays true e = attempt_on e p
    pays false e = on_none p

    by : (o : Option Exchange) → LivesGoOn p (left_place_at o counts p)
    by None = on_none p
    by (Some e) = on_then p (charged_where counts e p) (left_place e (charged_where counts e p)) (pays counts e) (leaves_on e (charged_where counts e p))

line_on : (most k : ℕ) (counts : Bool) (p : Parts) → LivesGoOn p (lost_line most k counts p)
line_on zero k counts p = on_none p
line_on (suc more) k counts p = by (first_on k p) (λ n. on_then p (lost_place n counts p) (lost_line more k counts (lost_place n counts p)) (loses_on n counts p) (line_on more k counts (lost_place n counts p)))
  where
    by : (o : Option ℕ) → ((n : ℕ) → LivesGoOn p (lost_line more k counts (lost_place n counts p))) → LivesGoOn p (elim o as (λ t. Parts) [ None ↦ p | Some n ↦ lost_line more k counts (lost_place n counts p) ])
    by None rest = on_none p
    by (Some n) rest = rest n

closed_on : (k : ℕ) (counts : Bool) (x : Sides) → LivesGoOn x.parts (closed_conn k counts x).parts
closed_on k counts x = by (find (is_number k) x.peers)
  where
    at : (b : Bool) (peer : Peer) → LivesGoOn x.parts (cond b x.parts (lost_line 1024 k (counts && not peer.has_brought) x.parts))
    at true peer = on_none x.parts
    at false peer = line_on 1024 k (counts && not peer.has_brought) x.parts

    by : (o : Option Peer) → LivesGoOn x.parts (closed_line k counts o x.parts)
    by None = on_none x.parts
    by (Some peer) = at peer.is_closing peer

-- ---- a response is whole

whole_names : (n : ℕ) (aim : Aim) → Names n (finished_for aim)
whole_names n aim seat given = by aim (passed_in seat.brought)
  where
    ends : (o : Option Passed) → IsGivenSeat n (elim o as (λ t. Seat) [ None ↦ seat | Some passed ↦ passed_whole seat ])
    ends None = given
    ends (Some passed) = record { source = given.source; brought = end_given n Whole seat.brought given.brought }

    drops : (o : Option Passed) → IsGivenSeat n (skipped Through (elim o as (λ t. Seat) [ None ↦ seat | Some passed ↦ passed_whole seat ]))
    drops None = record { source = given.source; brought = given.brought }
    drops (Some passed) = record { source = given.source; brought = end_given n Whole seat.brought given.brought }

    by : (a : Aim) (o : Option Passed) → IsGivenSeat n (skipped a (elim o as (λ t. Seat) [ None ↦ seat | Some passed ↦ passed_whole seat ]))
    by Own o = ends o
    by (Hole v from to) o = ends o
    by Through o = drops o

unless_on : (b : Bool) (k : ℕ) (x : Sides) → LivesGoOn x.parts (closed_unless b k x).parts
unless_on true k x = on_none x.parts
unless_on false k x = closed_on k true x

pub whole_on : (k : ℕ) (x : Sides) → LivesGoOn x.parts (response_whole k x).parts
whole_on k x = by (option_and_then (λ number. entry_of number x.parts.flow) (first_on k x.parts))
  where
    by : (o : Option Entry) → LivesGoOn x.parts (whole_for k o x).parts
    by None = on_none x.parts
    by (Some e) =
        let y : Sides = with_parts (finished e.exchange) x in
        let z : Sides = record y { peers = brought_by k (find (is_number k) y.peers) y.peers } in
        on_then x.parts z.parts (whole_for k (Some e) x).parts (on_seats x.parts y.parts refl (λ given. asker_given x.parts.cache.lives e.exchange (finished_for e.exchange.aim) x.parts.seats (whole_names x.parts.cache.lives e.exchange.aim) given))
        (unless_on (goes_on_by (find (is_number k) y.peers) e.errand.body_left e.errand.binds_connection) k z)

-- ---- or is none

charges_on : (b : Bool) (number : ℕ) (e : Exchange) (p : Parts) → LivesGoOn p (charged_by b number e p)
charges_on true number e p = attempt_on e p
charges_on false number e p = ended_on number p (failed e p) (failed_on e p)

pub bad_on_lives : (k : ℕ) (x : Sides) → LivesGoOn x.parts (bad_response k x).parts
bad_on_lives k x = by (first_on k x.parts)
  where
    at : (b : Bool) (number : ℕ) (e : Exchange) → LivesGoOn x.parts (bad_by b k number e x).parts
    at false number e = closed_on k true x
    at true number e =
        let costs : Parts → Parts = charged_by (not e.headed && has_brought_in (find (is_number k) x.peers)) number e in
        on_then x.parts (costs x.parts) (bad_answer k number e x).parts (charges_on (not e.headed && has_brought_in (find (is_number k) x.peers)) number e x.parts) (closed_on k false (with_parts costs x))

    found : (number : ℕ) (o : Option Entry) → LivesGoOn x.parts (bad_for k number o x).parts
    found number None = closed_on k false x
    found number (Some e) = at (is_outstanding e) number e.exchange

    by : (o : Option ℕ) → LivesGoOn x.parts (bad_on k o x).parts
    by None = closed_on k false x
    by (Some number) = found number (entry_of number x.parts.flow)

-- ---- data

pour_names : (n : ℕ) (bytes : List ℕ) → Names n (poured_into bytes)
pour_names n bytes seat given = by (passed_in seat.brought)
  where
    by : (o : Option Passed) → IsGivenSeat n (elim o as (λ t. Seat) [ None ↦ seat | Some passed ↦ on_pipe (poured bytes) seat ])
    by None = given
    by (Some passed) = record { source = given.source; brought = given.brought }

pours_given : (n : ℕ) (o : Option Exchange) (bytes : List ℕ) (seats : List Seat) → AreGivenSeats n seats → AreGivenSeats n (poured_for o bytes seats)
pours_given n None bytes seats given = given
pours_given n (Some e) bytes seats given = asker_given n e (poured_into bytes) seats (pour_names n bytes) given

-- bytes come to an instance that is there
bytes_keep : (id : ObjectId) (at : ℕ) (bytes : List ℕ) (m : Memory) → GivesLives m → KeepsLives m (with_bytes id at bytes m)
bytes_keep id at bytes m gives = by (is_there id m.instances && nat_le (at + length bytes) (total_at id.slot m.instances))
  where
    by : (b : Bool) → KeepsLives m (elim b as (λ t. Memory) [ true ↦ record m { chunks = (added m.size id.slot at bytes m.chunks).chunks; grown = grown_by id m.grown } | false ↦ m ])
    by true = keeps_as m (record m { chunks = (added m.size id.slot at bytes m.chunks).chunks; grown = grown_by id m.grown }) refl refl gives
    by false = keeps_none m gives

joined_keep : (number : ℕ) (o : Option Span) (bytes : List ℕ) (s : State) → GivesLives s.cache → KeepsLives s.cache (joined_by number o bytes s).cache
joined_keep number None bytes s gives = keeps_none s.cache gives
joined_keep number (Some span) bytes s gives = by (left_for number s.flow)
  where
    by : (o : Option ℕ) → KeepsLives s.cache (joined_within number o span bytes s).cache
    by None = keeps_none s.cache gives
    by (Some left) =
        let kept : ℕ = on_disk (extent_of span.0 s.cache) span.1 (length (take left bytes)) in
        bytes_keep span.0 (span.1 + kept) (drop kept (take left bytes)) s.cache gives

delivered_keep : (o : Option Exchange) (number : ℕ) (bytes : List ℕ) (s : State) → GivesLives s.cache → KeepsLives s.cache (delivered_for o number bytes s).cache
delivered_keep None number bytes s gives = keeps_none s.cache gives
delivered_keep (Some e) number bytes s gives = joined_keep e.number e.bound bytes s gives

pub data_on : (k : ℕ) (bytes : List ℕ) (old new : State) → DataCame k bytes old new → LivesGoOn (parts old) (parts new)
data_on k [] old new it = on_same (parts old) (parts new) (ap (λ (s : State). parts s) it)
data_on k (b ∷ bytes) old new it = by (first_on k (parts old)) it
  where
    by : (o : Option ℕ) → DeliversTo o (b ∷ bytes) old new → LivesGoOn (parts old) (parts new)
    by None is = on_same (parts old) (parts new) (ap (λ (s : State). parts s) is)
    by (Some number) is = on_then (parts old) mid (parts new) (on_memory (parts old) new.cache keeps) (on_seats mid (parts new) refl seats)
      where
        mid : Parts
        mid = record { seats = old.seats.items; flow = old.flow; cache = new.cache; refused = old.refused; is_astray = old.is_astray }

        keeps : GivesLives old.cache → KeepsLives old.cache new.cache
        keeps gives =
            let wanted : State = delivered_for (exchange_at number old.flow) number (b ∷ bytes) old in
            let one : KeepsLives old.cache wanted.cache = delivered_keep (exchange_at number old.flow) number (b ∷ bytes) old gives in
            keeps_then old.cache wanted.cache new.cache one (keeps_joined wanted.cache new.cache is.rest.cache one.gives)

        seats : AreGivenSeats new.cache.lives old.seats.items → AreGivenSeats new.cache.lives new.seats.items
        seats given = subst (λ (ss : List Seat). AreGivenSeats new.cache.lives ss) (sym is.seats) (pours_given new.cache.lives (exchange_at number old.flow) (b ∷ bytes) old.seats.items given)
