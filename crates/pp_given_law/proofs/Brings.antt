-- What holds of each client holds behind each step of a read of an origin, where each head that is passed fits.
use Rattle.std.proofs.Common.{◌≡◌, refl, sym, subst, ap, ◌∙◌, ℕ, zero, suc, Bool, true, false, ◌&&◌, not, find, is_some, List, [], ◌∷◌, Option, Some, None, option_and_then, option_map, Result, Ok, Err}
use Rattle.pp_answers.specs.FinalHeads.{answer_to, right_rule}
use Rattle.pp_answers.specs.OwnHeads.{is_wrong}
use Rattle.pp_cache_law.proofs.Numbers.{some_is}
use Rattle.pp_framing.specs.Framing.{rule_of}
use Rattle.pp_framing.specs.declared.framing.ResponseFault.{ResponseFault}
use Rattle.pp_desk.specs.Closings.{Sides, with_parts}
use Rattle.pp_flow.specs.Changes.{entry_of}
use Rattle.pp_flow.specs.declared.entry.Aim.{Aim}
use Rattle.pp_flow.specs.declared.entry.Aim.TheVariants.{Own, Hole, Pass as Through}
use Rattle.pp_flow.specs.declared.entry.Entry.{Entry}
use Rattle.pp_flow.specs.declared.entry.Exchange.{Exchange}
use Rattle.pp_framing.specs.declared.body.BodyRule.{BodyRule}
use Rattle.pp_head.specs.Response.{Response}
use Rattle.pp_origins.specs.Gots.{Answers, Both, DataCame, DataCameThen, DeliversTo, GoesOnBehind, GotFrom, HeadCame, HeadCameFor, IsStepOn, IsTaken, Makes, Remains, TakesStep, going_on, head_on, sides_of}
use Rattle.pp_origins.specs.Responses.{bad_answer, bad_by, bad_for, bad_on, bad_response, brought_by, charged_by, closed_unless, ended_by, ending_by, finished, goes_on_by, has_brought_in, origin_gone, response_whole, whole_for, whole_where}
use Rattle.pp_peers.specs.Peers.{is_number}
use Rattle.pp_peers.specs.declared.peers.Peer.{Peer}
use Rattle.pp_pipe.specs.declared.step.Step.{Step}
use Rattle.pp_pipe.specs.declared.step.Step.TheVariants.{Head, Body, End, Bad, Idle}
use Rattle.pp_seats.specs.Seats.{brought_to, passed_in, without_body}
use Rattle.pp_seats.specs.declared.seat.Passed.{Passed}
use Rattle.pp_seats.specs.declared.seat.Seat.{Seat}
use Rattle.pp_state.specs.Asking.{is_outstanding}
use Rattle.pp_state.specs.Astray.{gone_astray_where}
use Rattle.pp_state.specs.Bodies.{delivered_for, finished_for, joined_by, joined_within, left_for, on_passed, passed_whole, poured, poured_for, poured_into, on_pipe, skipped}
use Rattle.pp_state.specs.Ends.{Parts, exchange_at, failed, parts}
use Rattle.pp_state.specs.Keys.{key_of}
use Rattle.pp_state.specs.Lines.{first_on}
use Rattle.pp_state.specs.declared.state.State.{State}
use Rattle.pp_store.specs.Kept.{KeptMap}
use Rattle.pp_flow.specs.Entries.{Span}
use Rattle.pp_framing.specs.declared.body.Ending.{Ending}
use Rattle.pp_framing.specs.declared.body.Ending.TheVariants.{Whole as IsOver, Short}
use Rattle.pp_seats.specs.Dues.{is_refused_in}
use Rattle.pp_seats.specs.declared.seat.Brought.{Brought}
use Rattle.pp_seats.specs.declared.seat.Brought.TheVariants.{Awaited, Useless, Joins, Passes, TooWide, Refused}
use Rattle.pp_seats.specs.declared.seat.PassedEnd.TheVariants.{Whole}
use Rattle.pp_reads_law.proofs.Knows.{IsBesideRows, row_beside}
use Rattle.pp_reads_law.proofs.StayReads.{step_stays as step_stays_as}
use Rattle.pp_stays_law.proofs.Walk.{AllAt}
use Rattle.pp_given_law.proofs.Carried.{HeadFits, ReadsFit, Stay, Suits, asker_all, becomes, same, seated, stay_same, stay_then, strays}
use Rattle.pp_given_law.proofs.Costs.{all_failed, attempt_lost, conn_closed, over}
use Rattle.pp_given_law.proofs.Answers.{answers, beside_rows}

module _ (S : Seat → Type 0) (Fits : List ℕ → Response → BodyRule → Type 0) (suits : Suits S Fits) where
  abbrev StayBoth : Both → Both → Type 0
  StayBoth x y = Stay S (parts x.state) (parts y.state)

  makes_stay : (made : Sides → Sides) → ((x : Sides) → Stay S x.parts (made x).parts) → (x y : Both) → Makes made x y → StayBoth x y
  makes_stay made stay x y it = becomes (parts x.state) (made (sides_of x)).parts (parts y.state) (ap (λ (s : Sides). s.parts) it.is) (stay (sides_of x))

  -- ---- a response is whole

  whole_seat : (aim : Aim) (seat : Seat) → S seat → S (finished_for aim seat)
  whole_seat aim seat its = by aim
    where
      whole_given : (b : Brought) → is_refused_in b ≡ false → is_refused_in (brought_to Whole b) ≡ false
      whole_given Awaited is = refl
      whole_given Useless is = refl
      whole_given (Joins id plain) is = refl
      whole_given (Passes x) is = refl
      whole_given TooWide is = refl
      whole_given Refused is = is

      ended : (o : Option Passed) → S (elim o as (λ t. Seat) [ None ↦ seat | Some passed ↦ passed_whole seat ])
      ended None = its
      ended (Some passed) = suits.carry seat (passed_whole seat) (whole_given seat.brought) (λ is. is) its

      by : (a : Aim) → S (skipped a (on_passed passed_whole seat))
      by Own = ended (passed_in seat.brought)
      by (Hole v from to) = ended (passed_in seat.brought)
      by Through = suits.carry (on_passed passed_whole seat) (without_body (on_passed passed_whole seat)) (λ is. is) (λ is. is) (ended (passed_in seat.brought))

  unless : (b : Bool) (k : ℕ) (x : Sides) → Stay S x.parts (closed_unless b k x).parts
  unless true k x = stay_same x.parts
  unless false k x = conn_closed S Fits suits k true x

  pub whole_stays : (k : ℕ) (x : Sides) → Stay S x.parts (response_whole k x).parts
  whole_stays k x = by (option_and_then (λ number. entry_of number x.parts.flow) (first_on k x.parts))
    where
      by : (o : Option Entry) → Stay S x.parts (whole_for k o x).parts
      by None = stay_same x.parts
      by (Some e) =
          let y : Sides = with_parts (finished e.exchange) x in
          let z : Sides = record y { peers = brought_by k (find (is_number k) y.peers) y.peers } in
          stay_then x.parts y.parts (whole_for k (Some e) x).parts (seated x.parts y.parts refl (asker_all S e.exchange (finished_for e.exchange.aim) x.parts.seats (whole_seat e.exchange.aim)))
          (unless (goes_on_by (find (is_number k) y.peers) e.errand.body_left e.errand.binds_connection) k z)

  -- ---- or is none

  charges : (b : Bool) (number : ℕ) (e : Exchange) (p : Parts) → Stay S p (charged_by b number e p)
  charges true number e p = attempt_lost S Fits suits e p
  charges false number e p = over S Fits suits number p (failed e p) (all_failed S Fits suits e p)

  bad_stays : (k : ℕ) (x : Sides) → Stay S x.parts (bad_response k x).parts
  bad_stays k x = by (first_on k x.parts)
    where
      at : (b : Bool) (number : ℕ) (e : Exchange) → Stay S x.parts (bad_by b k number e x).parts
      at false number e = conn_closed S Fits suits k true x
      at true number e =
          let costs : Parts → Parts = charged_by (not e.headed && has_brought_in (find (is_number k) x.peers)) number e in
          stay_then x.parts (costs x.parts) (bad_answer k number e x).parts (charges (not e.headed && has_brought_in (find (is_number k) x.peers)) number e x.parts) (conn_closed S Fits suits k false (with_parts costs x))

      found : (number : ℕ) (o : Option Entry) → Stay S x.parts (bad_for k number o x).parts
      found number None = conn_closed S Fits suits k false x
      found number (Some e) = at (is_outstanding e) number e.exchange

      by : (o : Option ℕ) → Stay S x.parts (bad_on k o x).parts
      by None = conn_closed S Fits suits k false x
      by (Some number) = found number (entry_of number x.parts.flow)

  -- ---- its connection is gone

  pub gone_stays : (is_clean : Bool) (k : ℕ) (x : Sides) → Stay S x.parts (origin_gone is_clean k x).parts
  gone_stays is_clean k x =
      let w : Sides = record x { peers = ended_by is_clean k (find (is_number k) x.peers) x.peers } in
      let z : Sides = whole_where (ending_by is_clean (find (is_number k) x.peers)) k w in
      stay_then x.parts z.parts (origin_gone is_clean k x).parts (by w (ending_by is_clean (find (is_number k) x.peers))) (conn_closed S Fits suits k true z)
    where
      by : (w : Sides) (e : Ending) → Stay S w.parts (whole_where e k w).parts
      by w IsOver = whole_stays k w
      by w Short = stay_same w.parts

  -- ---- data

  pours : (o : Option Exchange) (bytes : List ℕ) (seats : List Seat) → AllAt S seats → AllAt S (poured_for o bytes seats)
  pours None bytes seats all = all
  pours (Some e) bytes seats all = asker_all S e (poured_into bytes) seats pour_seat all
    where
      pour_seat : (seat : Seat) → S seat → S (poured_into bytes seat)
      pour_seat seat its = by (passed_in seat.brought)
        where
          by : (o : Option Passed) → S (elim o as (λ t. Seat) [ None ↦ seat | Some passed ↦ on_pipe (poured bytes) seat ])
          by None = its
          by (Some passed) = suits.carry seat (on_pipe (poured bytes) seat) (λ is. is) (λ is. is) its

  joined_astray : (number : ℕ) (o : Option Span) (bytes : List ℕ) (s : State) → (joined_by number o bytes s).is_astray ≡ s.is_astray
  joined_astray number None bytes s = refl
  joined_astray number (Some span) bytes s = by (left_for number s.flow)
    where
      by : (o : Option ℕ) → (joined_within number o span bytes s).is_astray ≡ s.is_astray
      by None = refl
      by (Some left) = refl

  delivered_astray : (o : Option Exchange) (number : ℕ) (bytes : List ℕ) (s : State) → (delivered_for o number bytes s).is_astray ≡ s.is_astray
  delivered_astray None number bytes s = refl
  delivered_astray (Some e) number bytes s = joined_astray e.number e.bound bytes s

  data_stay : (k : ℕ) (bytes : List ℕ) (old new : State) → DataCame k bytes old new → Stay S (parts old) (parts new)
  data_stay k [] old new it = same (parts old) (parts new) (ap (λ (s : State). parts s) it)
  data_stay k (b ∷ bytes) old new it = by (first_on k (parts old)) it
    where
      by : (o : Option ℕ) → DeliversTo o (b ∷ bytes) old new → Stay S (parts old) (parts new)
      by None is = same (parts old) (parts new) (ap (λ (s : State). parts s) is)
      by (Some number) is =
          seated (parts old) (parts new) (ap (λ (s : State). s.is_astray) is.rest.rest ∙ delivered_astray (exchange_at number old.flow) number (b ∷ bytes) old)
          (λ h. subst (λ (ss : List Seat). AllAt S ss) (sym is.seats) (pours (exchange_at number old.flow) (b ∷ bytes) old.seats.items h))

  data_then : (made : Sides → Sides) → ((x : Sides) → Stay S x.parts (made x).parts) → (k : ℕ) (came : List ℕ) (x y : Both) → DataCameThen made k came x y → StayBoth x y
  data_then made stay k came x y it = stay_then (parts x.state) (parts it.between) (parts y.state) (data_stay k came x.state it.between it.delivers) (makes_stay made stay (record x { state = it.between }) y it.makes)

  -- ---- heads: each fits that was read

  abbrev AtHeadFits : ℕ → Both → Type 0
  AtHeadFits k x = (head : Response) → head_on k x.peers ≡ Some head → HeadFits Fits x.state.name.items head

  -- by the rule of its body, where it answers an ask of its kind
  answer_fits : (name : List ℕ) (head : Response) → HeadFits Fits name head → (o : Option Entry) (a : Entry × BodyRule) → answer_to head o ≡ Some a → Fits name head a.1
  answer_fits name head may None a is = absurd (cc is)
  answer_fits name head may (Some x) a is = by (is_wrong x.exchange.aim x.errand.kind head) (rule_of x.errand.asks_head head.status head.fields) refl is
    where
      by : (w : Bool) (r : Result BodyRule ResponseFault) → rule_of x.errand.asks_head head.status head.fields ≡ r → option_map (λ rule. (x, rule)) (right_rule w r) ≡ Some a → Fits name head a.1
      by true r at is = absurd (cc is)
      by false (Err fault) at is = absurd (cc is)
      by false (Ok rule) at is = subst (λ (b : Entry × BodyRule). Fits name head b.1) (some_is (x, rule) a is) (may x.errand.asks_head rule at)

  taken_stay : (o : Option Response) (number : ℕ) (stays : Option Bool) (old new : State) → ((head : Response) → o ≡ Some head → HeadFits Fits old.name.items head) → IsTaken o number stays old new → Stay S (parts old) (parts new)
  taken_stay None number stays old new fits it = same (parts old) (parts new) (ap (λ (s : State). parts s) it.1)
  taken_stay (Some head) number stays old new fits it = answers S Fits suits number head (answer_to head (entry_of number old.flow)) old (parts new) (answer_fits old.name.items head (fits head refl) (entry_of number old.flow)) it.is

  goes_stay : (o : Option Bool) (k : ℕ) (x y : Both) → GoesOnBehind o k x y → StayBoth x y
  goes_stay None k x y it = makes_stay (bad_response k) (bad_stays k) x y it
  goes_stay (Some stays) k x y it = same (parts x.state) (parts y.state) (ap (λ (b : Both). parts b.state) it)

  answers_stay : (k number : ℕ) (x y : Both) → AtHeadFits k x → Answers k number x y → StayBoth x y
  answers_stay k number x y fits it =
      stay_then (parts x.state) (parts it.between) (parts y.state) (taken_stay (head_on k x.peers) number it.stays x.state it.between fits it.taken) (goes_stay it.stays k (record x { state = it.between }) y it.goes_on)

  head_stays : (shelf : KeptMap) (k : ℕ) (x y : Both) → AtHeadFits k x → HeadCame shelf k x y → StayBoth x y
  head_stays shelf k x y fits it = by (first_on k (parts x.state)) it
    where
      by : (o : Option ℕ) → HeadCameFor o shelf k x y → StayBoth x y
      by None is = makes_stay (bad_response k) (bad_stays k) x y is
      by (Some number) is =
          let row : IsBesideRows x.state is.beside = row_beside shelf (key_of number x.state.flow) x.state is.beside is.row in
          stay_then (parts x.state) (parts is.beside) (parts y.state) (beside_rows S Fits suits x.state is.beside row)
          (answers_stay k number (record x { state = is.beside }) y (λ head there. subst (λ (name : List ℕ). HeadFits Fits name head) (sym row.knows.name) (fits head there)) is.answers)

  -- ---- one step, and all of them

  step_takes : (step : Step) (shelf : KeptMap) (k : ℕ) (came : List ℕ) (x y : Both) → (step ≡ Head → AtHeadFits k x) → TakesStep step shelf k came x y → StayBoth x y
  step_takes Head shelf k came x y fits it = head_stays shelf k x y (fits refl) it
  step_takes (Body from to) shelf k came x y fits it = same (parts x.state) (parts y.state) (ap (λ (b : Both). parts b.state) it)
  step_takes End shelf k came x y fits it = data_then (response_whole k) (whole_stays k) k came x y it
  step_takes Bad shelf k came x y fits it = data_then (bad_response k) (bad_stays k) k came x y it
  step_takes Idle shelf k came x y fits it = data_stay k came x.state y.state it.0

  step_stays : (o : Option Peer) (shelf : KeptMap) (k : ℕ) (here : Remains) (x y : Both) (behind : Option Remains) → ReadsFit Fits x.state.name.items → IsStepOn o shelf k here x y behind → StayBoth x y
  step_stays None shelf k here x y behind fits it = same (parts x.state) (parts y.state) (ap (λ (b : Both). parts b.state) it.0)
  step_stays (Some peer) shelf k here x y behind fits it =
      step_takes it.told.1 shelf k here.came (record x { peers = it.fed }) y (λ is head there. fits k peer here.bytes it.told x.peers it.fed head it.feeds is there) it.takes

  pub reads_stay : (most : ℕ) (shelf : KeptMap) (k : ℕ) (here : Option Remains) (x y : Both) → ReadsFit Fits x.state.name.items → GotFrom most shelf k here x y → StayBoth x y
  unfolding GotFrom
  reads_stay zero shelf k here x y fits it = becomes (parts x.state) (parts (gone_astray_where (is_some here) x.state)) (parts y.state) (ap (λ (b : Both). parts b.state) it) (by (is_some here))
    where
      by : (b : Bool) → Stay S (parts x.state) (parts (gone_astray_where b x.state))
      by true = strays (parts x.state) (parts (gone_astray_where true x.state)) refl
      by false = stay_same (parts x.state)
  reads_stay (suc more) shelf k None x y fits it = same (parts x.state) (parts y.state) (ap (λ (b : Both). parts b.state) it)
  reads_stay (suc more) shelf k (Some here) x y fits it =
      stay_then (parts x.state) (parts it.0.state) (parts y.state) (step_stays (going_on (find (is_number k) x.peers)) shelf k here x it.0 it.1 fits it.2)
      (reads_stay more shelf k it.1 it.0 y (subst (λ (name : List ℕ). ReadsFit Fits name) (sym (step_stays_as (going_on (find (is_number k) x.peers)) shelf k here x it.0 it.1 it.2).knows.name) fits) it.3)
