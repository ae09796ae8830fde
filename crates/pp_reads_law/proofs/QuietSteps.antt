-- No life is given, and nothing is joined, where a connection is closed, where a response is whole or none, and where data come.
use Rattle.std.proofs.Common.{◌≡◌, ◌⊎◌, inl, refl, sym, subst, ap, ◌∙◌, ℕ, zero, suc, ◌+◌, Bool, true, false, ◌&&◌, not, nat_le, cond, drop, find, length, take, List, [], ◌∷◌, Option, Some, None, option_and_then}
use Rattle.pp_answers_law.proofs.Carried.{numbers_stay}
use Rattle.pp_answers_law.proofs.Joining.{Joining, joined_asker, joined_none}
use Rattle.pp_answers_law.proofs.QuietCosts.{Quiet, q_attempt, q_beside, q_failed, q_is, q_none, q_same, q_then, q_where}
use Rattle.pp_answers_law.specs.Joined.{IsThereIn, JoinedOr}
use Rattle.pp_cache.specs.Memory.{Memory, extent_of}
use Rattle.pp_cache.specs.OnDisk.{grown_by}
use Rattle.pp_desk.specs.Closings.{Sides, closed_conn, closed_line, with_parts}
use Rattle.pp_flow.specs.Changes.{entry_of}
use Rattle.pp_flow.specs.Entries.{Span}
use Rattle.pp_flow.specs.declared.entry.Aim.{Aim}
use Rattle.pp_flow.specs.declared.entry.Aim.TheVariants.{Own, Hole, Pass as Through}
use Rattle.pp_flow.specs.declared.entry.Entry.{Entry}
use Rattle.pp_flow.specs.declared.entry.Exchange.{Exchange}
use Rattle.pp_holes.specs.Adding.{added}
use Rattle.pp_objects.specs.Instances.{is_there, total_at}
use Rattle.pp_objects.specs.declared.id.ObjectId.{ObjectId}
use Rattle.pp_origins.specs.Gots.{Both, DataCame, DataCameThen, DeliversTo, Makes, TakesStep, sides_of}
use Rattle.pp_origins.specs.Responses.{bad_answer, bad_by, bad_for, bad_on, bad_response, brought_by, charged_by, closed_unless, finished, goes_on_by, has_brought_in, response_whole, whole_for}
use Rattle.pp_peers.specs.Peers.{is_number}
use Rattle.pp_peers.specs.declared.peers.Peer.{Peer}
use Rattle.pp_pipe.specs.declared.step.Step.{Step}
use Rattle.pp_pipe.specs.declared.step.Step.TheVariants.{Head, Body, End, Bad, Idle}
use Rattle.pp_seats.specs.Seats.{brought_to, passed_in}
use Rattle.pp_seats.specs.declared.seat.Brought.{Brought}
use Rattle.pp_seats.specs.declared.seat.Brought.TheVariants.{Awaited, Joins, Passes, Refused, TooWide, Useless}
use Rattle.pp_seats.specs.declared.seat.Passed.{Passed}
use Rattle.pp_seats.specs.declared.seat.PassedEnd.{PassedEnd}
use Rattle.pp_seats.specs.declared.seat.PassedEnd.TheVariants.{Short, Whole}
use Rattle.pp_seats.specs.declared.seat.Seat.{Seat}
use Rattle.pp_state.specs.Asking.{is_outstanding}
use Rattle.pp_state.specs.Bodies.{delivered_for, finished_for, joined_by, joined_within, left_for, on_disk, on_pipe, passed_whole, poured, poured_for, poured_into, skipped, with_bytes}
use Rattle.pp_state.specs.Ends.{Parts, asked_elsewhere, charged_where, cut_short, ended, exchange_at, failed, left_place, left_place_at, lost_place, may_go_elsewhere, parts, seat_for}
use Rattle.pp_state.specs.Lines.{first_on, lost_line}
use Rattle.pp_state.specs.declared.state.State.{State}
use Rattle.pp_store.specs.Kept.{KeptMap}
use Rattle.pp_reads_law.proofs.GivenReads.{takes_on as step_lives}
use Rattle.pp_reads_law.proofs.ToldSteps.{step_told, table_gives}
use Rattle.pp_reads_law.specs.Told.{IsNoHead, StepsLeaveAllTold}

-- what of a response ends is none that is joined
end_joins : (end : PassedEnd) (b : Brought) (id : ObjectId) (plain : Bool) → brought_to end b ≡ Joins id plain → b ≡ Joins id plain
end_joins end Awaited id plain is = is
end_joins end Useless id plain is = is
end_joins end (Joins x y) id plain is = is
end_joins end (Passes x) id plain is = absurd (cc is)
end_joins end TooWide id plain is = is
end_joins end Refused id plain is = is

-- ---- a line is lost

ended_on : (G : ObjectId → Type 0) (n : ℕ) (p q : Parts) → Quiet G p q → Quiet G p (ended n q)
ended_on G n p q on = q_beside G p q (ended n q) refl refl on

leaves_on : (G : ObjectId → Type 0) (e : Exchange) (p : Parts) → Quiet G p (left_place e p)
unfolding left_place
leaves_on G e p = by e.headed (may_go_elsewhere e.number p)
  where
    short : Quiet G p (cut_short e p)
    short = q_where G (seat_for e p.seats) (λ seat. record seat { brought = brought_to Short seat.brought }) p (λ seat id plain is. inl (end_joins Short seat.brought id plain is))

    by : (a b : Bool) → Quiet G p (cond a (ended e.number (cut_short e p)) (cond b (asked_elsewhere e.number p) (ended e.number p)))
    by true b = ended_on G e.number p (cut_short e p) short
    by false true = q_beside G p p (asked_elsewhere e.number p) refl refl (q_none G p)
    by false false = ended_on G e.number p p (q_none G p)

loses_on : (G : ObjectId → Type 0) (n : ℕ) (counts : Bool) (p : Parts) → Quiet G p (lost_place n counts p)
loses_on G n counts p = by (exchange_at n p.flow)
  where
    pays : (b : Bool) (e : Exchange) → Quiet G p (charged_where b e p)
    pays true e = q_attempt G e p
    pays false e = q_none G p

    by : (o : Option Exchange) → Quiet G p (left_place_at o counts p)
    by None = q_none G p
    by (Some e) = q_then G p (charged_where counts e p) (left_place e (charged_where counts e p)) (pays counts e) (leaves_on G e (charged_where counts e p))

line_on : (G : ObjectId → Type 0) (most k : ℕ) (counts : Bool) (p : Parts) → Quiet G p (lost_line most k counts p)
line_on G zero k counts p = q_none G p
line_on G (suc more) k counts p = by (first_on k p) (λ n. q_then G p (lost_place n counts p) (lost_line more k counts (lost_place n counts p)) (loses_on G n counts p) (line_on G more k counts (lost_place n counts p)))
  where
    by : (o : Option ℕ) → ((n : ℕ) → Quiet G p (lost_line more k counts (lost_place n counts p))) → Quiet G p (elim o as (λ t. Parts) [ None ↦ p | Some n ↦ lost_line more k counts (lost_place n counts p) ])
    by None rest = q_none G p
    by (Some n) rest = rest n

closed_on : (G : ObjectId → Type 0) (k : ℕ) (counts : Bool) (x : Sides) → Quiet G x.parts (closed_conn k counts x).parts
closed_on G k counts x = by (find (is_number k) x.peers)
  where
    at : (b : Bool) (peer : Peer) → Quiet G x.parts (cond b x.parts (lost_line 1024 k (counts && not peer.has_brought) x.parts))
    at true peer = q_none G x.parts
    at false peer = line_on G 1024 k (counts && not peer.has_brought) x.parts

    by : (o : Option Peer) → Quiet G x.parts (closed_line k counts o x.parts)
    by None = q_none G x.parts
    by (Some peer) = at peer.is_closing peer

-- ---- a response is whole

whole_joins : (G : ObjectId → Type 0) (aim : Aim) → Joining G (finished_for aim)
whole_joins G aim seat id plain is = by aim (passed_in seat.brought) is
  where
    ends : (o : Option Passed) → (elim o as (λ t. Seat) [ None ↦ seat | Some passed ↦ passed_whole seat ]).brought ≡ Joins id plain → (seat.brought ≡ Joins id plain) ⊎ G id
    ends None it = inl it
    ends (Some passed) it = inl (end_joins Whole seat.brought id plain it)

    drops : (o : Option Passed) → (skipped Through (elim o as (λ t. Seat) [ None ↦ seat | Some passed ↦ passed_whole seat ])).brought ≡ Joins id plain → (seat.brought ≡ Joins id plain) ⊎ G id
    drops None it = inl it
    drops (Some passed) it = inl (end_joins Whole seat.brought id plain it)

    by : (a : Aim) (o : Option Passed) → (skipped a (elim o as (λ t. Seat) [ None ↦ seat | Some passed ↦ passed_whole seat ])).brought ≡ Joins id plain → (seat.brought ≡ Joins id plain) ⊎ G id
    by Own o it = ends o it
    by (Hole v from to) o it = ends o it
    by Through o it = drops o it

unless_on : (G : ObjectId → Type 0) (b : Bool) (k : ℕ) (x : Sides) → Quiet G x.parts (closed_unless b k x).parts
unless_on G true k x = q_none G x.parts
unless_on G false k x = closed_on G k true x

pub whole_on : (G : ObjectId → Type 0) (k : ℕ) (x : Sides) → Quiet G x.parts (response_whole k x).parts
whole_on G k x = by (option_and_then (λ number. entry_of number x.parts.flow) (first_on k x.parts))
  where
    by : (o : Option Entry) → Quiet G x.parts (whole_for k o x).parts
    by None = q_none G x.parts
    by (Some e) =
        let y : Sides = with_parts (finished e.exchange) x in
        let z : Sides = record y { peers = brought_by k (find (is_number k) y.peers) y.peers } in
        q_then G x.parts z.parts (whole_for k (Some e) x).parts (record { joined = joined_asker G e.exchange (finished_for e.exchange.aim) x.parts.seats (whole_joins G e.exchange.aim); lives = refl })
        (unless_on G (goes_on_by (find (is_number k) y.peers) e.errand.body_left e.errand.binds_connection) k z)

-- ---- or is none

charges_on : (G : ObjectId → Type 0) (b : Bool) (number : ℕ) (e : Exchange) (p : Parts) → Quiet G p (charged_by b number e p)
charges_on G true number e p = q_attempt G e p
charges_on G false number e p = ended_on G number p (failed e p) (q_failed G e p)

pub bad_on_lives : (G : ObjectId → Type 0) (k : ℕ) (x : Sides) → Quiet G x.parts (bad_response k x).parts
bad_on_lives G k x = by (first_on k x.parts)
  where
    at : (b : Bool) (number : ℕ) (e : Exchange) → Quiet G x.parts (bad_by b k number e x).parts
    at false number e = closed_on G k true x
    at true number e =
        let costs : Parts → Parts = charged_by (not e.headed && has_brought_in (find (is_number k) x.peers)) number e in
        q_then G x.parts (costs x.parts) (bad_answer k number e x).parts (charges_on G (not e.headed && has_brought_in (find (is_number k) x.peers)) number e x.parts) (closed_on G k false (with_parts costs x))

    found : (number : ℕ) (o : Option Entry) → Quiet G x.parts (bad_for k number o x).parts
    found number None = closed_on G k false x
    found number (Some e) = at (is_outstanding e) number e.exchange

    by : (o : Option ℕ) → Quiet G x.parts (bad_on k o x).parts
    by None = closed_on G k false x
    by (Some number) = found number (entry_of number x.parts.flow)

-- ---- data

pour_joins : (G : ObjectId → Type 0) (bytes : List ℕ) → Joining G (poured_into bytes)
pour_joins G bytes seat id plain is = by (passed_in seat.brought) is
  where
    by : (o : Option Passed) → (elim o as (λ t. Seat) [ None ↦ seat | Some passed ↦ on_pipe (poured bytes) seat ]).brought ≡ Joins id plain → (seat.brought ≡ Joins id plain) ⊎ G id
    by None it = inl it
    by (Some passed) it = inl it

pours_join : (G : ObjectId → Type 0) (o : Option Exchange) (bytes : List ℕ) (seats : List Seat) → JoinedOr G seats (poured_for o bytes seats)
pours_join G None bytes seats = joined_none G seats
pours_join G (Some e) bytes seats = joined_asker G e (poured_into bytes) seats (pour_joins G bytes)

bytes_lives : (id : ObjectId) (at : ℕ) (bytes : List ℕ) (m : Memory) → (with_bytes id at bytes m).lives ≡ m.lives
bytes_lives id at bytes m = by (is_there id m.instances && nat_le (at + length bytes) (total_at id.slot m.instances))
  where
    by : (b : Bool) → (elim b as (λ t. Memory) [ true ↦ record m { chunks = (added m.size id.slot at bytes m.chunks).chunks; grown = grown_by id m.grown } | false ↦ m ]).lives ≡ m.lives
    by true = refl
    by false = refl

joined_lives : (number : ℕ) (o : Option Span) (bytes : List ℕ) (s : State) → (joined_by number o bytes s).cache.lives ≡ s.cache.lives
joined_lives number None bytes s = refl
joined_lives number (Some span) bytes s = by (left_for number s.flow)
  where
    by : (o : Option ℕ) → (joined_within number o span bytes s).cache.lives ≡ s.cache.lives
    by None = refl
    by (Some left) =
        let kept : ℕ = on_disk (extent_of span.0 s.cache) span.1 (length (take left bytes)) in
        bytes_lives span.0 (span.1 + kept) (drop kept (take left bytes)) s.cache

delivered_lives : (o : Option Exchange) (number : ℕ) (bytes : List ℕ) (s : State) → (delivered_for o number bytes s).cache.lives ≡ s.cache.lives
delivered_lives None number bytes s = refl
delivered_lives (Some e) number bytes s = joined_lives e.number e.bound bytes s

data_on : (G : ObjectId → Type 0) (k : ℕ) (bytes : List ℕ) (old new : State) → DataCame k bytes old new → Quiet G (parts old) (parts new)
data_on G k [] old new it = q_same G (parts old) (parts new) (ap (λ (s : State). parts s) it)
data_on G k (b ∷ bytes) old new it = by (first_on k (parts old)) it
  where
    by : (o : Option ℕ) → DeliversTo o (b ∷ bytes) old new → Quiet G (parts old) (parts new)
    by None is = q_same G (parts old) (parts new) (ap (λ (s : State). parts s) is)
    by (Some number) is = record {
      joined = subst (λ (ss : List Seat). JoinedOr G old.seats.items ss) (sym is.seats) (pours_join G (exchange_at number old.flow) (b ∷ bytes) old.seats.items);
      lives = ap (λ (l : Memory). l.lives) is.rest.cache.rest ∙ delivered_lives (exchange_at number old.flow) number (b ∷ bytes) old;
    }

-- ---- one step

same_on : (G : ObjectId → Type 0) (x y : Both) → y.state ≡ x.state → Quiet G (parts x.state) (parts y.state)
same_on G x y is = q_same G (parts x.state) (parts y.state) (ap (λ (s : State). parts s) is)

made_on : (G : ObjectId → Type 0) (made : Sides → Sides) → ((x : Sides) → Quiet G x.parts (made x).parts) → (x y : Both) → Makes made x y → Quiet G (parts x.state) (parts y.state)
made_on G made on x y it = q_is G (parts x.state) (made (sides_of x)).parts (parts y.state) (ap (λ (s : Sides). s.parts) it.is) (on (sides_of x))

then_on : (G : ObjectId → Type 0) (made : Sides → Sides) → ((x : Sides) → Quiet G x.parts (made x).parts) → (k : ℕ) (came : List ℕ) (x y : Both) → DataCameThen made k came x y → Quiet G (parts x.state) (parts y.state)
then_on G made on k came x y it = q_then G (parts x.state) (parts it.between) (parts y.state) (data_on G k came x.state it.between it.delivers) (made_on G made on (record x { state = it.between }) y it.makes)

takes_on : (G : ObjectId → Type 0) (step : Step) (shelf : KeptMap) (k : ℕ) (came : List ℕ) (x y : Both) → IsNoHead step → TakesStep step shelf k came x y → Quiet G (parts x.state) (parts y.state)
takes_on G Head shelf k came x y none it = absurd none
takes_on G (Body from to) shelf k came x y none it = same_on G x y (ap (λ (z : Both). z.state) it)
takes_on G End shelf k came x y none it = then_on G (response_whole k) (whole_on G k) k came x y it
takes_on G Bad shelf k came x y none it = then_on G (bad_response k) (bad_on_lives G k) k came x y it
takes_on G Idle shelf k came x y none it = data_on G k came x.state y.state it.0

pub steps_tell : StepsLeaveAllTold
steps_tell number step shelf k came x y s t none it table then grows =
    let quiet : Quiet (IsThereIn (parts x.state) (parts y.state)) (parts x.state) (parts y.state) = takes_on (IsThereIn (parts x.state) (parts y.state)) step shelf k came x y none it in
    step_told number number (parts x.state) (parts y.state) s t table then (step_lives step shelf k came x y it (table_gives number x.state.cache s table)).memory
    (numbers_stay number x.state.cache.lives y.state.cache.lives s.next_instance quiet.lives) grows quiet.joined
