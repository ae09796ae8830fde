-- From the end of a turn, over its wait, to where an event is awaited.
use Rattle.std.proofs.Common.{◌≡◌, ◌≤◌, refl, sym, subst, ℕ, zero, suc, ◌+◌, false, List, [], ◌∷◌, ◌++◌, length, Option, Some, None, arith}
use Rattle.std.specs.List.{fold, list_any}
use Rattle.std.specs.Prelude.{slice_get, slice_set}
use Rattle.pp_deciding_law.proofs.Disk.{in_place}
use Rattle.pp_desk.specs.declared.desk.Desk.{Desk}
use Rattle.pp_due.specs.Waits.{rested_seat}
use Rattle.pp_given_law.proofs.Counted.{counted_waits}
use Rattle.pp_given_law.proofs.Stands.{texts_wait}
use Rattle.pp_joints_law.proofs.Awaited.{rested_await}
use Rattle.pp_joints_law.proofs.Given.{given_ones}
use Rattle.pp_joints_law.proofs.Resting.{waits}
use Rattle.pp_joints_law.specs.Awaiting.{NoSeatIsRefused}
use Rattle.pp_law.specs.Phases.{ending}
use Rattle.pp_law.specs.State.{State, Client, Conn, Term}
use Rattle.pp_laws_left.proofs.BodiedLaws.{left_is_whole}
use Rattle.pp_laws_left.proofs.Unended.{turns_may_end}
use Rattle.pp_laws_served.specs.Served.{MayEnd}
use Rattle.pp_obeys.specs.Obeys.{Life}
use Rattle.pp_places_law.proofs.Links.{as_many}
use Rattle.pp_proxy.specs.Awaiting.{Awaits, Rests, Standing}
use Rattle.pp_rounds_law.proofs.Coming.{comes_by, none_fail}
use Rattle.pp_rounds_law.specs.Coming.{ComesTo}
use Rattle.pp_seats.specs.Dues.{is_refused_in}
use Rattle.pp_seats.specs.declared.seat.Seat.{Seat}
use Rattle.pp_state.specs.declared.state.State.{State as Turn}
use Rattle.pp_turns_law.proofs.Wanted.{same_length}
use Rattle.pp_waits_law.proofs.Good.{as_good, wanted_waits}
use Rattle.pp_waits_law.proofs.Read.{origins_read}
use Rattle.pp_waits_law.proofs.Rested.{first_none}
use Rattle.pp_waits_law.proofs.StillRead.{left_read}
use Rattle.pp_waits_law.specs.Good.{MayReadAndAsk}
use Rattle.pp_waits_law.specs.Waits.{HasWaited}
use Rattle.pp_wants.specs.Rests.{rested_at}
use Rattle.pp_world.specs.Log.{Log}
use Rattle.pp_world.specs.declared.event.Wants.{Wants}
use Rattle.pp_world.specs.declared.happening.Happening.TheVariants.{Waits}
use Rattle.pp_turn_law.specs.Waited.{HasWaitedOn, StandsAtWait, TurnsWait, rested}
use Rattle.pp_turn_law.proofs.DeskOn.{waits_set}
use Rattle.pp_turn_law.proofs.Ends.{apart_there, few_clients, few_conns, may_be_asked}

-- ---- a wait leaves what exchanges brought

abbrev AreGiven : List Seat → Type 0
AreGiven seats = (i : ℕ) (seat : Seat) → slice_get seats i ≡ Some seat → is_refused_in seat.brought ≡ false

set_given : (seats : List Seat) (j : ℕ) (x : Seat) → is_refused_in x.brought ≡ false → AreGiven seats → AreGiven (slice_set seats j x)
set_given [] j x is given i seat at = absurd (cc at)
set_given (y ∷ ys) zero x is given zero seat at = let same : x ≡ seat = cc at in subst (λ (z : Seat). is_refused_in z.brought ≡ false) same is
set_given (y ∷ ys) zero x is given (suc i) seat at = given (suc i) seat at
set_given (y ∷ ys) (suc j) x is given zero seat at = given 0 seat at
set_given (y ∷ ys) (suc j) x is given (suc i) seat at = set_given ys j x is (λ k z there. given (suc k) z there) i seat at

one_given : (p : Turn) (seats : List Seat) (j : ℕ) → AreGiven seats → AreGiven (rested_at p seats j)
one_given p seats j given = by (slice_get seats j) refl
  where
    by : (o : Option Seat) → slice_get seats j ≡ o → AreGiven (elim o as (λ t. List Seat) [ None ↦ seats | Some seat ↦ slice_set seats j (rested_seat p seat) ])
    by None none = given
    by (Some seat) here = set_given seats j (rested_seat p seat) (given j seat here) given

all_given : (p : Turn) (places : List ℕ) (seats : List Seat) → AreGiven seats → AreGiven (fold (rested_at p) seats places)
all_given p [] seats given = given
all_given p (j ∷ js) seats given = all_given p js (rested_at p seats j) (one_given p seats j given)

-- ---- all

module _ (life : Life) (budget : ℕ) (log : Log) (x : Standing) (w : Wants) (clients : ℕ) (e f : Desk) (s : State) (st : StandsAtWait life budget log x s) (awaits : Awaits x.read w clients x.turning.moving.desk e) (rests : Rests w clients e f) where
  abbrev terms : List Term
  terms = life.terms budget

  abbrev d : Desk
  d = x.turning.moving.desk

  may : MayEnd terms s log
  may = turns_may_end terms s log st.obeys st.none st.ended.may st.going

  none_closing : (list_any (λ (c : Client). c.is_closing) (ending s).clients ≡ false) × (list_any (λ (k : Conn). k.is_closing) (ending s).conns ≡ false)
  none_closing = first_none (list_any (λ (c : Client). c.is_closing) (ending s).clients) (list_any (λ (k : Conn). k.is_closing) (ending s).conns) st.ended.closed

  room : length d.state.seats.items + length d.peers ≤ 320
  room =
      let seats : length d.state.seats.items ≡ length (ending s).clients = same_length st.number d.state.name.items d.state.seats.items (ending s).clients st.ended.turn.steps.shows.clients in
      let peers : length d.peers ≡ length (ending s).conns = as_many (ending s) d.peers (ending s).conns st.ended.turn.steps.shows.conns in
      omega (arith, seats, peers, few_clients terms s log st.obeys, few_conns terms s log st.obeys)

  pub can : MayReadAndAsk st.number x.read d (ending s)
  can = record {
    can = record {
      may = record {
        stands = record { turn = st.ended.turn; ready = st.ended.ready; awake = st.ended.awake; closed = st.ended.closed };
        order = st.read.order;
        apart = st.apart;
        alone = apart_there terms s log st.obeys;
        room = room;
      };
      were = st.read;
    };
    asked = λ i k at. may_be_asked terms s log st.obeys none_closing.1 k (in_place i (ending s).conns k at);
  }

  waited : HasWaited st.number w d f s
  waited = wanted_waits terms s log st.number x.read w clients d e f may (left_is_whole terms s log may) st.none can awaits rests

  comes : ComesTo terms log (Waits w ∷ []) s (rested w s)
  comes = comes_by terms (Waits w ∷ []) log s (rested w s) (none_fail s 0 refl) st.obeys waited.leads

  given : NoSeatIsRefused f.state
  given = subst (λ (seats : List Seat). AreGiven seats) (sym rests.seats) (all_given e.state e.state.awake.items e.state.seats.items (subst (λ (seats : List Seat). AreGiven seats) (sym awaits.seats) st.given))

  pub waited_on : HasWaitedOn life budget log x w clients f st.number s
  waited_on = record {
    comes = comes;
    rests = waited.rested;
    awaits = rested_await terms (log ++ Waits w ∷ []) st.number x.turning.shelf x.turning.moving f (ending s) (rested w s) comes.obeys waited.rested st.ended.none st.carried (given_ones st.number d f (ending s) (rested w s) waited.rested given);
    carried = waits st.number x.turning.shelf x.read w clients x.turning.moving e f (ending s) st.carried awaits rests waited.rested;
    good = as_good st.number x.read w clients d e (ending s) can awaits;
    gets = origins_read st.number x.read w clients d e (ending s) can.can awaits;
    read = left_read st.number x.read w clients d e f (ending s) can.can awaits rests;
    given = given;
    supplied = record {
      given = given;
      texts = texts_wait x.read w clients d e f awaits rests st.texts;
      counted = counted_waits x.read w clients d e f (ending s) awaits rests st.counted;
      name = subst (λ (name : List ℕ). length name ≤ 64) (sym (waits_set x.read w clients d e f awaits rests).name) st.name;
    };
  }

pub turns_wait : TurnsWait
turns_wait life budget log x w clients e f s st awaits rests = waited_on life budget log x w clients e f s st awaits rests
