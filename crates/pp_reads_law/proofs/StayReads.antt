-- Step by step a read leaves each client at its request, each connection with its number, and what the turn knows beside them.
use Rattle.std.proofs.Common.{◌≡◌, refl, sym, subst, ap, ◌∙◌, ℕ, zero, suc, Bool, true, false, ◌&&◌, not, find, is_some, List, [], ◌∷◌, Option, Some, None, option_and_then}
use Rattle.pp_answers.specs.FinalHeads.{answer_to, roomed_by}
use Rattle.pp_desk.proofs.ClosingLemmas.{changed_numbers, closed_numbers, piped_numbers}
use Rattle.pp_desk.specs.Closings.{Sides, closed_conn, peer_numbers, with_parts}
use Rattle.pp_flow.specs.Changes.{entry_of}
use Rattle.pp_flow.specs.declared.entry.Aim.{Aim}
use Rattle.pp_flow.specs.declared.entry.Aim.TheVariants.{Own, Hole, Pass as Through}
use Rattle.pp_flow.specs.declared.entry.Entry.{Entry}
use Rattle.pp_flow.specs.declared.entry.Exchange.{Exchange}
use Rattle.pp_head.specs.Response.{Response}
use Rattle.pp_origins.specs.Gots.{Answers, Both, DataCame, DataCameThen, DeliversTo, GoesOnBehind, GotFrom, HeadCame, HeadCameFor, IsStepOn, IsTaken, Makes, Remains, TakesStep, going_on, head_on, sides_of, staying}
use Rattle.pp_origins.specs.Responses.{bad_answer, bad_by, bad_for, bad_on, bad_response, brought_by, charged_by, closed_unless, finished, goes_on_by, has_brought_in, response_whole, whole_for}
use Rattle.pp_peers.specs.Peers.{is_number}
use Rattle.pp_peers.specs.declared.peers.Peer.{Peer}
use Rattle.pp_pipe.specs.declared.step.Step.{Step}
use Rattle.pp_pipe.specs.declared.step.Step.TheVariants.{Head, Body, End, Bad, Idle}
use Rattle.pp_seats.specs.Seats.{passed_in}
use Rattle.pp_seats.specs.declared.seat.Passed.{Passed}
use Rattle.pp_seats.specs.declared.seat.Seat.{Seat}
use Rattle.pp_state.specs.Asking.{is_outstanding}
use Rattle.pp_state.specs.Astray.{gone_astray_where}
use Rattle.pp_state.specs.Bodies.{finished_for, passed_whole, poured, poured_for, poured_into, on_pipe, skipped}
use Rattle.pp_state.specs.Ends.{Parts, exchange_at, failed, parts}
use Rattle.pp_state.specs.Keys.{key_of}
use Rattle.pp_state.specs.Lines.{first_on}
use Rattle.pp_state.specs.declared.state.State.{State}
use Rattle.pp_store.specs.Kept.{KeptMap}
use Rattle.pp_reads_law.proofs.Costs.{all_failed, attempt_lost, conn_closed, over}
use Rattle.pp_reads_law.proofs.Knows.{IsBesideRows, TurnsStay, astray_where, beside_stays, delivered_stays, head_beside, knows_rest, knows_same, knows_then, row_beside}
use Rattle.pp_reads_law.proofs.Stayed.{Stay, becomes, seated, stay_same, stay_then}
use Rattle.pp_reads_law.proofs.StillClients.{are_as, asker, itself, none, then}
use Rattle.pp_reads_law.proofs.StillAnswers.{answers}
use Rattle.pp_reads_law.specs.Stays.{AreStill, IsStill, ReadsStay, StaysBeside}

-- ---- joined

stays_same : (x : Both) → StaysBeside x x
stays_same x = record { clients = none x.state.seats.items; conns = refl; knows = knows_same x.state; astray = λ on. on; refused = λ on is. is }

stays_then : (x y z : Both) → StaysBeside x y → StaysBeside y z → StaysBeside x z
stays_then x y z one two = record {
  clients = then x.state.seats.items y.state.seats.items z.state.seats.items one.clients two.clients;
  conns = two.conns ∙ one.conns;
  knows = knows_then x.state y.state z.state one.knows two.knows;
  astray = λ on. one.astray (two.astray on);
  refused = λ on is. two.refused on (one.refused (two.astray on) is);
}

stays_as : (x y z : Both) → z ≡ y → StaysBeside x y → StaysBeside x z
stays_as x y z is all = subst (λ (w : Both). StaysBeside x w) (sym is) all

-- ---- what becomes of clients and connections

pub record SidesStay (x y : Sides) : Type 0 where
  pub parts : Stay x.parts y.parts
  pub conns : peer_numbers y.peers ≡ peer_numbers x.peers

pub sides_then : (x y z : Sides) → SidesStay x y → SidesStay y z → SidesStay x z
sides_then x y z one two = record { parts = stay_then x.parts y.parts z.parts one.parts two.parts; conns = two.conns ∙ one.conns }

sides_same : (x : Sides) → SidesStay x x
sides_same x = record { parts = stay_same x.parts; conns = refl }

-- by a turn of which the clients, and what is no part of them, stay
by_turn : (x y : Both) → TurnsStay x.state y.state → peer_numbers y.peers ≡ peer_numbers x.peers → StaysBeside x y
by_turn x y all conns = record { clients = all.parts.clients; conns = conns; knows = all.knows; astray = all.parts.astray; refused = all.parts.refused }

makes_stay : (made : Sides → Sides) → ((x : Sides) → SidesStay x (made x)) → (x y : Both) → Makes made x y → StaysBeside x y
makes_stay made stay x y it =
    let all : SidesStay (sides_of x) (made (sides_of x)) = stay (sides_of x) in
    by_turn x y (record { parts = becomes (parts x.state) (made (sides_of x)).parts (parts y.state) (ap (λ (s : Sides). s.parts) it.is) all.parts; knows = knows_rest x.state y.state it.rest }) (ap (λ (s : Sides). peer_numbers s.peers) it.is ∙ all.conns)

pub closed_stays : (k : ℕ) (counts : Bool) (x : Sides) → SidesStay x (closed_conn k counts x)
closed_stays k counts x = record { parts = conn_closed k counts x; conns = closed_numbers k x.peers }

-- ---- a response is whole

whole_seat : (aim : Aim) (seat : Seat) → IsStill seat (finished_for aim seat)
whole_seat aim seat = by aim (passed_in seat.brought)
  where
    ends : (o : Option Passed) → IsStill seat (elim o as (λ t. Seat) [ None ↦ seat | Some passed ↦ passed_whole seat ])
    ends None = itself seat
    ends (Some passed) = record { id = refl; front = refl; stage = refl; hung_up = refl; closing = refl }

    drops : (o : Option Passed) → IsStill seat (skipped Through (elim o as (λ t. Seat) [ None ↦ seat | Some passed ↦ passed_whole seat ]))
    drops None = record { id = refl; front = refl; stage = refl; hung_up = refl; closing = refl }
    drops (Some passed) = record { id = refl; front = refl; stage = refl; hung_up = refl; closing = refl }

    by : (a : Aim) (o : Option Passed) → IsStill seat (skipped a (elim o as (λ t. Seat) [ None ↦ seat | Some passed ↦ passed_whole seat ]))
    by Own o = ends o
    by (Hole v from to) o = ends o
    by Through o = drops o

brings : (k : ℕ) (peers : List Peer) → peer_numbers (brought_by k (find (is_number k) peers) peers) ≡ peer_numbers peers
brings k peers = by (find (is_number k) peers) refl
  where
    by : (o : Option Peer) → find (is_number k) peers ≡ o → peer_numbers (brought_by k o peers) ≡ peer_numbers peers
    by None is = refl
    by (Some peer) is = changed_numbers k peer (record peer { has_brought = true }) peers is refl

unless : (b : Bool) (k : ℕ) (x : Sides) → SidesStay x (closed_unless b k x)
unless true k x = sides_same x
unless false k x = closed_stays k true x

pub whole_stays : (k : ℕ) (x : Sides) → SidesStay x (response_whole k x)
whole_stays k x = by (option_and_then (λ number. entry_of number x.parts.flow) (first_on k x.parts))
  where
    by : (o : Option Entry) → SidesStay x (whole_for k o x)
    by None = sides_same x
    by (Some e) =
        let y : Sides = with_parts (finished e.exchange) x in
        let z : Sides = record y { peers = brought_by k (find (is_number k) y.peers) y.peers } in
        sides_then x z (whole_for k (Some e) x) (record { parts = seated x.parts y.parts refl refl (asker e.exchange (finished_for e.exchange.aim) x.parts.seats (whole_seat e.exchange.aim)); conns = brings k x.peers })
        (unless (goes_on_by (find (is_number k) y.peers) e.errand.body_left e.errand.binds_connection) k z)

-- ---- or is none

charges : (b : Bool) (number : ℕ) (e : Exchange) (p : Parts) → Stay p (charged_by b number e p)
charges true number e p = attempt_lost e p
charges false number e p = over number p (failed e p) (all_failed e p)

bad_stays : (k : ℕ) (x : Sides) → SidesStay x (bad_response k x)
bad_stays k x = by (first_on k x.parts)
  where
    at : (b : Bool) (number : ℕ) (e : Exchange) → SidesStay x (bad_by b k number e x)
    at false number e = closed_stays k true x
    at true number e =
        let costs : Parts → Parts = charged_by (not e.headed && has_brought_in (find (is_number k) x.peers)) number e in
        sides_then x (with_parts costs x) (bad_answer k number e x) (record { parts = charges (not e.headed && has_brought_in (find (is_number k) x.peers)) number e x.parts; conns = refl }) (closed_stays k false (with_parts costs x))

    found : (number : ℕ) (o : Option Entry) → SidesStay x (bad_for k number o x)
    found number None = closed_stays k false x
    found number (Some e) = at (is_outstanding e) number e.exchange

    by : (o : Option ℕ) → SidesStay x (bad_on k o x)
    by None = closed_stays k false x
    by (Some number) = found number (entry_of number x.parts.flow)

-- ---- data

pour_seat : (bytes : List ℕ) (seat : Seat) → IsStill seat (poured_into bytes seat)
pour_seat bytes seat = by (passed_in seat.brought)
  where
    by : (o : Option Passed) → IsStill seat (elim o as (λ t. Seat) [ None ↦ seat | Some passed ↦ on_pipe (poured bytes) seat ])
    by None = itself seat
    by (Some passed) = record { id = refl; front = refl; stage = refl; hung_up = refl; closing = refl }

pours : (o : Option Exchange) (bytes : List ℕ) (seats : List Seat) → AreStill seats (poured_for o bytes seats)
pours None bytes seats = none seats
pours (Some e) bytes seats = asker e (poured_into bytes) seats (pour_seat bytes)

turn_same : (s : State) → TurnsStay s s
turn_same s = record { parts = stay_same (parts s); knows = knows_same s }

turn_as : (s t u : State) → u ≡ t → TurnsStay s t → TurnsStay s u
turn_as s t u is all = subst (λ (v : State). TurnsStay s v) (sym is) all

beside : (s t : State) → IsBesideRows s t → TurnsStay s t
beside s t it = record { parts = beside_stays s t it; knows = it.knows }

data_stay : (k : ℕ) (bytes : List ℕ) (old new : State) → DataCame k bytes old new → TurnsStay old new
data_stay k [] old new it = turn_as old old new it (turn_same old)
data_stay k (b ∷ bytes) old new it = by (first_on k (parts old)) it
  where
    by : (o : Option ℕ) → DeliversTo o (b ∷ bytes) old new → TurnsStay old new
    by None is = turn_as old old new is (turn_same old)
    by (Some number) is =
        delivered_stays number (b ∷ bytes) old new
        (are_as old.seats.items (poured_for (exchange_at number old.flow) (b ∷ bytes) old.seats.items) new.seats.items (sym is.seats) (pours (exchange_at number old.flow) (b ∷ bytes) old.seats.items)) is.rest

at_turn : (x : Both) (t : State) → TurnsStay x.state t → StaysBeside x (record x { state = t })
at_turn x t all = by_turn x (record x { state = t }) all refl

data_then : (made : Sides → Sides) → ((x : Sides) → SidesStay x (made x)) → (k : ℕ) (came : List ℕ) (x y : Both) → DataCameThen made k came x y → StaysBeside x y
data_then made stay k came x y it = stays_then x (record x { state = it.between }) y (at_turn x it.between (data_stay k came x.state it.between it.delivers)) (makes_stay made stay (record x { state = it.between }) y it.makes)

-- ---- heads

stay_conn : (k : ℕ) (b : Bool) (peers : List Peer) → peer_numbers (staying k b (find (is_number k) peers) peers) ≡ peer_numbers peers
stay_conn k b peers = by (find (is_number k) peers) refl
  where
    by : (o : Option Peer) → find (is_number k) peers ≡ o → peer_numbers (staying k b o peers) ≡ peer_numbers peers
    by None is = refl
    by (Some peer) is = changed_numbers k peer (record peer { stays = b }) peers is refl

taken_stay : (o : Option Response) (number : ℕ) (stays : Option Bool) (old new : State) → IsTaken o number stays old new → TurnsStay old new
taken_stay None number stays old new it = turn_as old old new it.1 (turn_same old)
taken_stay (Some head) number stays old new it = record {
  parts = answers number head (answer_to head (entry_of number old.flow)) old (parts new) it.is;
  knows = knows_then old (roomed_by head (answer_to head (entry_of number old.flow)) old) new (head_beside head (answer_to head (entry_of number old.flow)) old).knows (knows_rest (roomed_by head (answer_to head (entry_of number old.flow)) old) new it.rest);
}

goes_stay : (o : Option Bool) (k : ℕ) (x y : Both) → GoesOnBehind o k x y → StaysBeside x y
goes_stay None k x y it = makes_stay (bad_response k) (bad_stays k) x y it
goes_stay (Some stays) k x y it = stays_as x (record x { peers = staying k stays (find (is_number k) x.peers) x.peers }) y it (by_turn x _ (turn_same x.state) (stay_conn k stays x.peers))

pub answers_stay : (k number : ℕ) (x y : Both) → Answers k number x y → StaysBeside x y
answers_stay k number x y it =
    stays_then x (record x { state = it.between }) y (at_turn x it.between (taken_stay (head_on k x.peers) number it.stays x.state it.between it.taken)) (goes_stay it.stays k (record x { state = it.between }) y it.goes_on)

pub head_stays : (shelf : KeptMap) (k : ℕ) (x y : Both) → HeadCame shelf k x y → StaysBeside x y
head_stays shelf k x y it = by (first_on k (parts x.state)) it
  where
    by : (o : Option ℕ) → HeadCameFor o shelf k x y → StaysBeside x y
    by None is = makes_stay (bad_response k) (bad_stays k) x y is
    by (Some number) is =
        stays_then x (record x { state = is.beside }) y (at_turn x is.beside (beside x.state is.beside (row_beside shelf (key_of number x.state.flow) x.state is.beside is.row))) (answers_stay k number (record x { state = is.beside }) y is.answers)

-- ---- one step, and all of them

step_takes : (step : Step) (shelf : KeptMap) (k : ℕ) (came : List ℕ) (x y : Both) → TakesStep step shelf k came x y → StaysBeside x y
step_takes Head shelf k came x y it = head_stays shelf k x y it
step_takes (Body from to) shelf k came x y it = stays_as x x y it (stays_same x)
step_takes End shelf k came x y it = data_then (response_whole k) (whole_stays k) k came x y it
step_takes Bad shelf k came x y it = data_then (bad_response k) (bad_stays k) k came x y it
step_takes Idle shelf k came x y it =
    by_turn x y (data_stay k came x.state y.state it.0) (ap (λ (ps : List Peer). peer_numbers ps) it.1)

pub step_stays : (o : Option Peer) (shelf : KeptMap) (k : ℕ) (here : Remains) (x y : Both) (behind : Option Remains) → IsStepOn o shelf k here x y behind → StaysBeside x y
step_stays None shelf k here x y behind it = stays_as x x y it.0 (stays_same x)
step_stays (Some peer) shelf k here x y behind it =
    let fed : Both = record x { peers = it.fed } in
    stays_then x fed y (by_turn x fed (turn_same x.state) (ap (λ (ps : List Peer). peer_numbers ps) it.feeds.leaves ∙ piped_numbers k _ x.peers)) (step_takes it.told.1 shelf k here.came fed y it.takes)

pub reads_stay : ReadsStay
unfolding GotFrom
reads_stay zero shelf k here x y it =
    let one : IsBesideRows x.state (gone_astray_where (is_some here) x.state) = astray_where (is_some here) x.state in
    stays_as x (record x { state = gone_astray_where (is_some here) x.state }) y it (at_turn x (gone_astray_where (is_some here) x.state) (beside x.state (gone_astray_where (is_some here) x.state) one))
reads_stay (suc more) shelf k None x y it = stays_as x x y it (stays_same x)
reads_stay (suc more) shelf k (Some here) x y it = stays_then x it.0 y (step_stays (going_on (find (is_number k) x.peers)) shelf k here x it.0 it.1 it.2) (reads_stay more shelf k it.1 it.0 y it.3)
