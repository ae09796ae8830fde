-- Where a connection ended, what exchanges joined is what they joined before.
use Rattle.std.proofs.Common.{◌≡◌, ℕ, Bool, true, false, find, Option, Some, None, option_and_then}
use Rattle.pp_desk.specs.Closings.{Sides, closed_conn, with_parts}
use Rattle.pp_events_law.proofs.Closed.{closes}
use Rattle.pp_events_law.proofs.Left.{AreLeft, IsLeft, alike_left, left_as, left_flow, left_then, on_left}
use Rattle.pp_flow.specs.Changes.{entry_of}
use Rattle.pp_flow.specs.declared.entry.Aim.{Aim}
use Rattle.pp_flow.specs.declared.entry.Aim.TheVariants.{Own, Hole, Pass as Through}
use Rattle.pp_flow.specs.declared.entry.Entry.{Entry}
use Rattle.pp_flow.specs.declared.entry.Exchange.{Exchange}
use Rattle.pp_framing.specs.declared.body.Ending.{Ending}
use Rattle.pp_framing.specs.declared.body.Ending.TheVariants.{Whole, Short}
use Rattle.pp_objects.specs.declared.id.ObjectId.{ObjectId}
use Rattle.pp_origins.specs.Responses.{brought_by, closed_unless, ended_by, ending_by, finished, goes_on_by, origin_gone, response_whole, whole_for, whole_where}
use Rattle.pp_peers.specs.Peers.{is_number}
use Rattle.pp_seats.specs.Seats.{brought_to, passed_in}
use Rattle.pp_seats.specs.declared.seat.Brought.{Brought}
use Rattle.pp_seats.specs.declared.seat.Brought.TheVariants.{Awaited, Useless, Joins, Passes, TooWide, Refused}
use Rattle.pp_seats.specs.declared.seat.Passed.{Passed}
use Rattle.pp_seats.specs.declared.seat.PassedEnd.{PassedEnd}
use Rattle.pp_seats.specs.declared.seat.PassedEnd.TheVariants.{Whole as WholeBody}
use Rattle.pp_seats.specs.declared.seat.Seat.{Seat}
use Rattle.pp_state.specs.Bodies.{finished_for, on_place, passed_whole, skipped}
use Rattle.pp_state.specs.Ends.{Parts, on_seat, seat_for}
use Rattle.pp_state.specs.Lines.{first_on}

joined_before : (end : PassedEnd) (b : Brought) (id : ObjectId) (plain : Bool) → brought_to end b ≡ Joins id plain → b ≡ Joins id plain
joined_before end Awaited id plain is = absurd (cc is)
joined_before end Useless id plain is = absurd (cc is)
joined_before end (Joins other is_plain) id plain is = is
joined_before end (Passes x) id plain is = absurd (cc is)
joined_before end TooWide id plain is = absurd (cc is)
joined_before end Refused id plain is = absurd (cc is)

seat_left : (aim : Aim) (seat : Seat) → IsLeft seat (finished_for aim seat)
seat_left aim seat = by aim (passed_in seat.brought)
  where
    ends : Option Passed → Seat
    ends o = elim o as (λ t. Seat) [ None ↦ seat | Some passed ↦ passed_whole seat ]

    same : (o : Option Passed) → IsLeft seat (ends o)
    same None = left_as seat
    same (Some passed) = record { going = λ on. on; joins = λ id plain is. joined_before WholeBody seat.brought id plain is }

    drops : (o : Option Passed) → IsLeft seat (skipped Through (ends o))
    drops None = record { going = λ on. on; joins = λ id plain is. is }
    drops (Some passed) = record { going = λ on. on; joins = λ id plain is. joined_before WholeBody seat.brought id plain is }

    by : (a : Aim) (o : Option Passed) → IsLeft seat (skipped a (ends o))
    by Own o = same o
    by (Hole v from to) o = same o
    by Through o = drops o

finished_left : (e : Exchange) (p : Parts) → AreLeft p (finished e p)
finished_left e p = by (seat_for e p.seats)
  where
    by : (o : Option ℕ) → AreLeft p (record p { seats = on_place o (finished_for e.aim) p.seats; flow = (finished e p).flow })
    by None = left_flow p (finished e p).flow
    by (Some i) =
        let q : Parts = on_seat i (finished_for e.aim) p in
        left_then p q (record q { flow = (finished e p).flow }) (on_left i (finished_for e.aim) p (λ seat. seat_left e.aim seat)) (left_flow q (finished e p).flow)

closed_left : (k : ℕ) (counts : Bool) (x : Sides) → AreLeft x.parts (closed_conn k counts x).parts
closed_left k counts x = alike_left x.parts (closed_conn k counts x).parts (closes k counts x)

whole_left : (k : ℕ) (x : Sides) → AreLeft x.parts (response_whole k x).parts
whole_left k x = by (option_and_then (λ number. entry_of number x.parts.flow) (first_on k x.parts))
  where
    unless : (b : Bool) (z : Sides) → AreLeft z.parts (closed_unless b k z).parts
    unless true z = left_flow z.parts z.parts.flow
    unless false z = closed_left k true z

    by : (o : Option Entry) → AreLeft x.parts (whole_for k o x).parts
    by None = left_flow x.parts x.parts.flow
    by (Some e) =
        let y : Sides = with_parts (finished e.exchange) x in
        let z : Sides = record y { peers = brought_by k (find (is_number k) y.peers) y.peers } in
        left_then x.parts z.parts (whole_for k (Some e) x).parts (finished_left e.exchange x.parts) (unless (goes_on_by (find (is_number k) y.peers) e.errand.body_left e.errand.binds_connection) z)

pub origin_left : (is_clean : Bool) (k : ℕ) (x : Sides) → AreLeft x.parts (origin_gone is_clean k x).parts
origin_left is_clean k x = by (ending_by is_clean (find (is_number k) x.peers))
  where
    over : Sides
    over = record x { peers = ended_by is_clean k (find (is_number k) x.peers) x.peers }

    by : (e : Ending) → AreLeft x.parts (closed_conn k true (whole_where e k over)).parts
    by Whole = left_then x.parts (response_whole k over).parts (closed_conn k true (response_whole k over)).parts (whole_left k over) (closed_left k true (response_whole k over))
    by Short = closed_left k true over
