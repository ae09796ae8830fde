-- Wherever the places of a round come to, a dial may be refused.
use Rattle.std.proofs.Common.{◌≡◌, ◌≤◌, ◌+◌, refl, sym, subst, ap, ◌∙◌, ℕ, Bool, true, false, ◌||◌, length, List, [], ◌∷◌, ◌++◌, Option, Some, None, arith}
use Rattle.std.specs.List.{list_any}
use Rattle.std.specs.Prelude.{count_by}
use Rattle.pp_turns_law.proofs.Over.{over_conns, over_with}
use Rattle.pp_turns_law.proofs.StandsIn.{nowhere}
use Rattle.pp_turns_law.proofs.Sitting.{is_at, shown_at}
use Rattle.pp_turns_law.specs.Decides.{IsAtPlace}
use Rattle.pp_turns_law.specs.Fills.{HasRoomForAll, MayAllFill}
use Rattle.pp_deciding_law.proofs.Disk.{in_place}
use Rattle.pp_deciding_law.proofs.Stays.{AreSourced}
use Rattle.pp_desk.specs.Closings.{Sides}
use Rattle.pp_flow.specs.Changes.{entry_of}
use Rattle.pp_flow.specs.declared.entry.Entry.{Entry}
use Rattle.pp_flow_law.specs.Tables.{AreGiven, none_leaves}
use Rattle.pp_law.specs.Closing.{is_of, is_over}
use Rattle.pp_law.specs.Connections.{WaitsDial, attempts_of, end_exchange, lose_attempt, lost_one, placing}
use Rattle.pp_law.specs.State.{State, Client, Conn, Exchange, Reply, Stage, Term, Undecided, Waiting, Passing, Answering}
use Rattle.pp_laws_coming.proofs.Laws.{asks_told}
use Rattle.pp_laws_coming.specs.Coming.{IsToldOn, is_behind_evicting}
use Rattle.pp_laws_turn.proofs.Amid.{attempt_is_lost, exchange_ends, places_are_given}
use Rattle.pp_laws_turn.proofs.Kept.{Turn as TurnFacts}
use Rattle.pp_laws_turn.proofs.Laws.{has_source, sound_turns}
use Rattle.pp_laws_turn.proofs.Lifts.{turn_on}
use Rattle.pp_laws_turn.proofs.View.{Holds, facts_of, holds, joined_in}
use Rattle.pp_laws_turn.specs.SoundTurn.{IsSoundTurn}
use Rattle.pp_obeys.proofs.Frames.{Stays, frame, frame_of, stays}
use Rattle.pp_obeys.proofs.StaysTable.{end_exchange-stays, lose_attempt-stays}
use Rattle.pp_obeys.specs.Obeys.{Obeys}
use Rattle.pp_places.specs.Around.{Around, moment_of}
use Rattle.pp_places_law.proofs.Fits.{placing_may}
use Rattle.pp_places_law.proofs.Still.{lost_may, over_may}
use Rattle.pp_places_law.specs.Around.{MayPlace, ShowsAround}
use Rattle.pp_places_law.specs.Places.{IsUnplaced, Reaches}
use Rattle.pp_places_law.specs.Refusals.{MayBeRefused, MayFillThen, lost_in}
use Rattle.pp_rounds_law.proofs.Carried.{Carries, carries_ended, carries_lost, carries_then}
use Rattle.pp_rounds_law.proofs.Coming.{comes_by, enough_of}
use Rattle.pp_rounds_law.proofs.Quiet.{carries_filled}
use Rattle.pp_rounds_law.proofs.Ready.{awake_on, ready_on}
use Rattle.pp_seats.specs.declared.seat.Seat.{Seat}
use Rattle.pp_seats_law.specs.Seats.{ShowsSeat}
use Rattle.pp_state.specs.Ends.{Parts, ended, lost_attempt, parts}
use Rattle.pp_state.specs.declared.state.State.{State as Turn}
use Rattle.pp_states_law.proofs.Framed.{states}
use Rattle.pp_states_law.proofs.Lines.{all_found}
use Rattle.pp_states_law.specs.Exchanges.{StandsNowhere}
use Rattle.pp_states_law.proofs.Charged.{losses, lost_given}
use Rattle.pp_states_law.proofs.Paid.{Stays as StaysThere, charge_stays}
use Rattle.pp_states_law.specs.Charges.{GoesOn, IsFor}
use Rattle.pp_states_law.specs.Steps.{ShowsSteps, whole}
use Rattle.pp_take.specs.Filling.{filled}
use Rattle.pp_turns_law.proofs.Wanted.{same_length}
use Rattle.pp_turns_law.specs.Firsts.{AreAwake}
use Rattle.pp_turns_law.specs.Rows.{AreReady}
use Rattle.pp_world.specs.Log.{Log}
use Rattle.pp_rounds_law.proofs.Bounded.{lost_bounded}
use Rattle.pp_rounds_law.proofs.Exchanges.{over_exchanges, over_few, over_going, over_once, placed_clients, placed_few, placed_going, placed_once}
use Rattle.pp_rounds_law.proofs.Places.{carries_reached}
use Rattle.pp_rounds_law.proofs.Waits.{goes_on, waits_there}
use Rattle.pp_rounds_law.specs.Dials.{AllDialsMayBeRefused, DialsMayBeRefused, MayAskBehind, MayGoWithout, StandsToPlace}

-- ---- of the law

abbrev reply_at : Stage → Option Reply
reply_at stage = elim stage [ Undecided ↦ None | Waiting ↦ None | Passing ↦ None | Answering r ↦ Some r ]

sourced_in : (t : State) → Holds TurnFacts t → AreSourced t
sourced_in t h = record {
  source = λ j d reply id at going stage source. has_source t (facts_of h) d (in_place j t.clients d at) going reply id (ap (λ (y : Stage). reply_at y) stage) source;
  made = λ j d id plain at brought. (facts_of h).made d id (in_place j t.clients d at) (ap joined_in brought);
}

abbrev failed_in : State → State
failed_in t = record t { failures = t.failures + 1 }

failed_holds : (t : State) → Holds TurnFacts t → Holds TurnFacts (failed_in t)
failed_holds t h = holds (facts_of h)

failed_may : (t : State) → MayPlace t → MayPlace (failed_in t)
failed_may t may = record { connecting = record { at = may.connecting.at; none = may.connecting.none }; going = may.going; closed = may.closed; apart = may.apart; given = may.given }

failed_steps : (number : ℕ → ℕ) (name : List ℕ) (x : Sides) (t : State) → ShowsSteps number name none_leaves x.peers x.parts t → ShowsSteps number name none_leaves x.peers x.parts (failed_in t)
failed_steps number name x t steps = record {
  shows = states number name [] none_leaves (whole x.parts x.peers) t steps.shows (failed_in t) (record { clients = refl; conns = refl; exchanges = refl; next_exchange = refl; instances = refl; next_instance = refl; chunks = refl; kept = λ y. refl });
  order = steps.order;
  told = steps.told;
  refused = steps.refused;
}

nobody_closes : (s : State) → MayPlace s → list_any (λ (c : Client). c.is_closing) s.clients ≡ false
nobody_closes s may = first (list_any (λ (c : Client). c.is_closing) s.clients) may.closed
  where
    first : (a : Bool) → (a || list_any (λ (k : Conn). k.is_closing) s.conns) ≡ false → a ≡ false
    first true none = absurd (let bad : true ≡ false = none in cc bad)
    first false none = refl

given_length : (low next : ℕ) (ns : List ℕ) → AreGiven low next ns → length ns + low ≤ next
given_length low next [] given = omega (arith, given)
given_length low next (n ∷ ns) given = omega (arith, given.0, given_length (n + 1) next ns given.1)

enough_room : (a b c d : ℕ) → a ≤ 768 → b + 0 ≤ c → c ≡ d → d ≤ 256 → a + b ≤ 1024
enough_room a b c d one two three four = omega (arith, one, two, three, four)

-- ---- of the turn

module _ (terms : List Term) (log : Log) (number : ℕ → ℕ) (p : Turn) (x z : Around) (steps : ℕ) (hs : Log) (s t : State) (e : Exchange) (stands : StandsToPlace number p x s) (reaches : Reaches steps (moment_of p) None x hs z) (obeys : Obeys terms t log) (may : MayPlace t)
    (shows : ShowsAround number p z (placing t).state) (waits : (placing t).pause ≡ WaitsDial e) (without : MayGoWithout p z (placing t).state e) where
  abbrev now : State
  now = (placing t).state

  un : IsUnplaced now e
  un = waits_there t e waits

  may_now : MayPlace now
  may_now = placing_may t may

  sound : IsSoundTurn t
  sound = sound_turns terms t log obeys

  told : IsToldOn t
  told = asks_told terms t log obeys

  goes : IsFor now e GoesOn
  goes n c asks found = record { going = goes_on n now.clients c (nobody_closes now may_now) found; given = without.given n c found }

  began : ShowsSteps number p.name.items none_leaves x.sides.peers (parts p) s
  began = subst (λ (q : Parts). ShowsSteps number p.name.items none_leaves x.sides.peers q s) stands.is stands.shows.turn.steps

  carried : Carries false (parts p) z.sides.parts
  carried = subst (λ (q : Parts). Carries false q z.sides.parts) stands.is (carries_reached steps (moment_of p) None x z hs reaches)

  -- ---- it is over

  module _ (y : Entry) (here : entry_of e.number z.sides.parts.flow ≡ Some y) where
    abbrev lost : Parts
    lost = lost_attempt y.exchange z.sides.parts

    abbrev left : Parts
    left = ended e.number lost

    abbrev u : State
    u = lost_in e now

    abbrev over : State
    over = end_exchange e.number u

    lost_steps : ShowsSteps number p.name.items none_leaves z.sides.peers lost u
    lost_steps =
        losses number p.name.items none_leaves z.sides.peers z.sides.parts (failed_in now) (failed_steps number p.name.items z.sides now shows.turn.steps) e.number y e (record { here = here; there = un.there }) goes

    lost_stays : Stays false (frame false (failed_in now)) u
    lost_stays = lose_attempt-stays e (failed_in now) (stays refl)

    may_lost : MayPlace u
    may_lost = lost_may e (failed_in now) (failed_may now may_now) (frame_of lost_stays)

    may_over : MayPlace over
    may_over = over_may e.number u may_lost (frame_of {all = false} (end_exchange-stays e.number u (stays refl)))

    still : StaysThere (failed_in now) u e.number e
    unfolding lose_attempt
    still = charge_stays (lost_one (attempts_of e)) (failed_in now) e e.number (lost_given (attempts_of e)) un.there refl

    stands_nowhere : StandsNowhere e.number u.conns
    stands_nowhere = nowhere number lost.flow u lost_steps.shows.exchanges e.number still.known still.there (still.place ∙ un.waits) u.conns (all_found u may_lost.apart)

    abbrev lost_sides : Sides
    lost_sides = record { parts = lost; peers = z.sides.peers }

    over_steps : ShowsSteps number p.name.items none_leaves z.sides.peers left over
    over_steps = over_with number p.name.items e.number lost_sides u z.sides.peers lost_steps (over_conns number p.name.items e.number lost_sides u lost_steps stands_nowhere)

    over_holds : Holds TurnFacts over
    over_holds = exchange_ends e.number u (attempt_is_lost e (failed_in now) (failed_holds now (places_are_given t (turn_on terms t log obeys))))

    -- ---- the turn then

    carried_left : Carries false (parts p) left
    carried_left =
        carries_then false (parts p) lost left (carries_then false (parts p) z.sides.parts lost carried (carries_lost y.exchange z.sides.parts)) (carries_ended false e.number lost)

    abbrev turn : Turn
    turn = record p { seats = record p.seats { items = left.seats; ok = (p.seats.ok.0 ∙ sym carried_left.count, p.seats.ok.1) }; flow = left.flow; cache = left.cache; refused = left.refused; is_astray = left.is_astray }

    abbrev asked : Parts
    asked = filled turn.is_stopped turn.name.items turn.awake.items (parts turn)

    carried_asked : Carries true (parts turn) asked
    carried_asked = carries_filled turn.is_stopped turn.name.items turn.awake.items (parts turn)

    abbrev behind : Turn
    behind = record turn { seats = record turn.seats { items = asked.seats; ok = (turn.seats.ok.0 ∙ sym carried_asked.count, turn.seats.ok.1) }; flow = asked.flow; cache = asked.cache; refused = asked.refused; is_astray = asked.is_astray }

    awake_then : AreAwake turn
    awake_then = awake_on false p turn carried_left refl refl stands.awake

    -- ---- what is followed is there

    ready_then : AreReady number left.cache over.next_instance left.seats
    ready_then =
        ready_on number p.name.items p.cache left.cache s.next_instance p.seats.items left.seats s over began.shows.table.table stands.ready
        (λ j new at. (j, carried_left.each j new at)) carried_left.memory over_steps.shows.table.table over_steps.shows.clients (sourced_in over over_holds)

    shown : (i : ℕ) (seat : Seat) (c : Client) → IsAtPlace i left over seat c → ShowsSeat number p.name.items [] seat c
    shown i seat c place = shown_at number p.name.items [] left.seats over.clients seat.client.id i seat c over_steps.shows.clients (is_at i left.seats seat over_steps.order place.here) place.here place.there

    may_ask : MayAskBehind p.awake.items left over
    may_ask = without.asks y here

    few : length over.exchanges ≤ 768
    few = subst (λ (es : List Exchange). length es ≤ 768) (sym (over_exchanges e (failed_in now))) (over_few 768 e.number now.exchanges (placed_few 768 t (sound.bounded.exchanges may.going)))

    none_over : list_any is_over over.exchanges ≡ false
    none_over =
        ap (λ (es : List Exchange). list_any is_over es) (over_exchanges e (failed_in now))
        ∙ over_going e.number now.exchanges (placed_going t (told.going (ap is_behind_evicting may.connecting.at)))

    once : (n : ℕ) → count_by (is_of n) over.exchanges ≤ 1
    once n = subst (λ (es : List Exchange). count_by (is_of n) es ≤ 1) (sym (over_exchanges e (failed_in now))) (over_once n e.number now.exchanges (placed_once n t (sound.once n)))

    may_fill : MayAllFill turn over
    may_fill = record {
      follow = λ i seat c place going. record {
        there = (ready_then i seat place.here ((shown i seat c place).closing ∙ going)).follows;
        wants = λ n is. may_ask.wants i seat c n place going is;
        within = λ n is. may_ask.within i seat c n place going is;
      };
      asks = λ n. record { once = once n; going = none_over; apart = may_over.apart };
    }

    room : over.is_stopped ≡ false → HasRoomForAll turn over
    room going = record {
      exchanges =
          enough_room (length over.exchanges) (length p.awake.items) (length p.seats.items) (length t.clients) few (given_length 0 (length p.seats.items) p.awake.items stands.awake.order)
          (sym carried.count ∙ same_length number p.name.items z.sides.parts.seats now.clients shows.turn.steps.shows.clients ∙ ap (λ (cs : List Client). length cs) (placed_clients t)) sound.bounded.clients;
      numbers = may_ask.numbers;
    }

    may_fill_then : MayFillThen p left over
    may_fill_then = record { turn = turn; is = refl; rest = refl; behind = behind; filled = record { is = refl; rest = refl }; awake = awake_then; fill = may_fill; room = room }

  pub may_be_refused : MayBeRefused p z now e
  may_be_refused = record {
    goes = goes;
    bounded = λ y here. lost_bounded y.exchange z.sides.parts shows.turn.bounded;
    then = λ y here over. may_fill_then y here;
  }

pub one_refused : DialsMayBeRefused
one_refused terms log number p x z steps hs s t e stands reaches obeys may shows waits without = may_be_refused terms log number p x z steps hs s t e stands reaches obeys may shows waits without

pub all_refused : AllDialsMayBeRefused
all_refused terms most before number p x s obeys stands without steps hs z t e affords brief reaches leads may shows waits =
    one_refused terms (before ++ hs) number p x z steps hs s t e stands reaches (comes_by terms hs before s t (enough_of s hs affords) obeys leads).obeys may shows waits (without steps hs z t e affords brief reaches leads may shows waits)
