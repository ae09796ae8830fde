-- Wherever the places of a round come to, a dial that is refused leaves its followers with what they may ask for.
use Rattle.std.proofs.Common.{◌≡◌, ◌≤◌, refl, sym, subst, ap, ◌∙◌, ℕ, ◌+◌, ◌-◌, ◌*◌, ◌^◌, ◌<◌, Bool, true, false, ◌||◌, is_some, length, List, [], ◌∷◌, ◌++◌, Some, None, inl, inr, arith}
use Rattle.std.specs.List.{list_any}
use Rattle.pp_asks_law.proofs.Along.{AreOfPlaces, failed-narrow, leads-narrow}
use Rattle.pp_asks_law.proofs.Counted.{begun_placing}
use Rattle.pp_asks_law.proofs.Few.{few_awake}
use Rattle.pp_asks_law.proofs.Happened.{reached_is}
use Rattle.pp_asks_law.proofs.Keyed.{given_then, keyed}
use Rattle.pp_asks_law.proofs.Narrow.{Narrows, end_exchange-narrow, narrow_same, placing-narrow}
use Rattle.pp_asks_law.proofs.Nobodys.{none_begins_behind}
use Rattle.pp_asks_law.proofs.Wanted.{body_within, kept_whole, next_by}
use Rattle.pp_asks_law.specs.Dials.{DialsMayGoWithout, FewNumbersAreGiven}
use Rattle.pp_asks_law.specs.Rests.{HasNumbers, RestsOn}
use Rattle.pp_cache_law.proofs.Numbers.{some_is}
use Rattle.pp_turns_law.specs.Decides.{IsAtPlace}
use Rattle.pp_deciding_law.proofs.Disk.{in_place}
use Rattle.pp_flow.specs.Changes.{entry_of}
use Rattle.pp_flow.specs.declared.entry.Entry.{Entry}
use Rattle.pp_flow_law.specs.Tables.{none_leaves}
use Rattle.pp_law.specs.Connections.{client, end_exchange, is_client, placing}
use Rattle.pp_law.specs.State.{State, Client, Conn, Exchange, Term}
use Rattle.pp_laws.proofs.Lists.{in_find}
use Rattle.pp_laws.specs.Runs.{IsIn}
use Rattle.pp_laws_sides.proofs.Counted.{exchanges_counted}
use Rattle.pp_laws_turn.proofs.Laws.{sound_turns}
use Rattle.pp_obeys.specs.Moves.{Leads}
use Rattle.pp_obeys.specs.Obeys.{Obeys}
use Rattle.pp_places.specs.Around.{Around, moment_of}
use Rattle.pp_places_law.proofs.Fits.{placing_may}
use Rattle.pp_places_law.specs.Around.{MayPlace}
use Rattle.pp_places_law.specs.Places.{Reaches}
use Rattle.pp_places_law.specs.Refusals.{lost_in}
use Rattle.pp_rounds_law.proofs.Carried.{Carries, WasAt, carries_ended, carries_lost, carries_then}
use Rattle.pp_rounds_law.proofs.Coming.{comes_by, enough_of}
use Rattle.pp_rounds_law.proofs.Places.{carries_reached}
use Rattle.pp_rounds_law.specs.Dials.{MayAskBehind, MayGoWithout, StandsToPlace}
use Rattle.pp_seats.specs.Follows.{next_of as next_in_turn}
use Rattle.pp_seats.specs.Heads.{asked_in, owned_in}
use Rattle.pp_seats.specs.declared.seat.Next.{Next as SeatNext}
use Rattle.pp_seats.specs.declared.seat.Seat.{Seat}
use Rattle.pp_seats_law.specs.Clients.{AreShown}
use Rattle.pp_seats_law.specs.Fates.{is_refused}
use Rattle.pp_seats_law.specs.Seats.{ShowsSeat}
use Rattle.pp_state.specs.Ends.{Parts, ended, lost_attempt, parts}
use Rattle.pp_state.specs.declared.state.State.{State as Turn}
use Rattle.pp_states_law.specs.Steps.{ShowsSteps}
use Rattle.pp_store.specs.Kept.{KeptMap}
use Rattle.pp_turns_law.proofs.First.{IsShownAt, seat_shown}
use Rattle.pp_world.specs.Log.{Log}

-- ---- nobody is closing

first_none : (a b : Bool) → (a || b) ≡ false → a ≡ false
first_none true b none = absurd (cc none)
first_none false b none = refl

then_none : (a b : Bool) → (a || b) ≡ false → b ≡ false
then_none true b none = absurd (cc none)
then_none false b none = none

goes_on : (cs : List Client) (c : Client) → list_any (λ (d : Client). d.is_closing) cs ≡ false → IsIn c cs → c.is_closing ≡ false
goes_on [] c none i = absurd i
goes_on (d ∷ cs) c none (inl same) = ap (λ (e : Client). e.is_closing) same ∙ first_none d.is_closing (list_any (λ (e : Client). e.is_closing) cs) none
goes_on (d ∷ cs) c none (inr i) = goes_on cs c (then_none d.is_closing (list_any (λ (e : Client). e.is_closing) cs) none) i

-- ---- of one dial

module _ (terms : List Term) (before : Log) (number : ℕ → ℕ) (shelf : KeptMap) (p : Turn) (x : Around) (s : State) (obeys : Obeys terms s before) (stands : StandsToPlace number p x s) (rests : RestsOn shelf p s)
    (steps : ℕ) (hs : Log) (z : Around) (t : State) (e : Exchange) (reaches : Reaches steps (moment_of p) None x hs z) (leads : Leads hs s t) (may : MayPlace t) (low : HasNumbers p (placing t).state) where
  abbrev now : State
  now = (placing t).state

  abbrev over : State
  over = end_exchange e.number (lost_in e now)

  began : ShowsSteps number p.name.items none_leaves x.sides.peers (parts p) s
  began = subst (λ (q : Parts). ShowsSteps number p.name.items none_leaves x.sides.peers q s) stands.is stands.shows.turn.steps

  are : AreOfPlaces hs
  are = reached_is steps (moment_of p) None x z hs reaches

  narrow_now : Narrows s now
  narrow_now = placing-narrow t (leads-narrow hs s t are leads (narrow_same s))

  narrow : Narrows s over
  narrow = end_exchange-narrow e.number (lost_in e now) (failed-narrow e now narrow_now)

  given : (n : ℕ) (c : Client) → client now n ≡ Some c → is_refused c.course ≡ false
  given n c found =
      let i : IsIn c now.clients = (in_find (is_client n) c now.clients found).0 in
      given_then number p.name.items p.seats.items s now began.shows.clients rests.given narrow_now c i (goes_on now.clients c (first_none (list_any (λ (d : Client). d.is_closing) now.clients) (list_any (λ (k : Conn). k.is_closing) now.conns) (placing_may t may).closed) i)

  -- where it is over
  module _ (y : Entry) (here : entry_of e.number z.sides.parts.flow ≡ Some y) where
    abbrev left : Parts
    left = ended e.number (lost_attempt y.exchange z.sides.parts)

    carried : Carries false (parts p) left
    carried =
        carries_then false (parts p) (lost_attempt y.exchange z.sides.parts) left
        (carries_then false (parts p) z.sides.parts (lost_attempt y.exchange z.sides.parts) (subst (λ (q : Parts). Carries false q z.sides.parts) stands.is (carries_reached steps (moment_of p) None x z hs reaches)) (carries_lost y.exchange z.sides.parts))
        (carries_ended false e.number (lost_attempt y.exchange z.sides.parts))

    inside : (i : ℕ) (seat : Seat) (c : Client) → IsAtPlace i left over seat c → IsIn c over.clients
    inside i seat c place = (in_find (is_client seat.client.id) c over.clients place.there).0

    wants_key : (i : ℕ) (seat : Seat) (n : SeatNext) → (was : WasAt p.seats.items i seat) → next_in_turn seat ≡ Some n → is_some (owned_in (asked_in seat.front)) ≡ true
    wants_key i seat n was next =
        let one : IsShownAt number p.name.items p.seats.items s.clients i = seat_shown number p.name.items p.seats.items s.clients i was.old began.shows.clients was.here in
        let same : one.seat ≡ was.old = some_is one.seat was.old (sym one.here ∙ was.here) in
        keyed terms before s number p.name.items was.old seat one.client n obeys (subst (λ (w : Seat). ShowsSeat number p.name.items [] w one.client) same one.shows) (in_place i s.clients one.client one.there) (λ going. (stands.ready i was.old was.here going).key) was.is.stage was.is.front was.is.closing next

    behind : MayAskBehind p.awake.items left over
    behind = record {
      wants = λ i seat c n place going next. record {
        keyed = wants_key i seat n (carried.each i seat place.here) next;
        given = given_then number p.name.items p.seats.items s over began.shows.clients rests.given narrow c (inside i seat c place) going;
      };
      within = λ i seat c n place going next. record {
        some = (next_by over c n next).some;
        body = body_within terms before s over obeys narrow c n (inside i seat c place) (next_by over c n next);
        whole = kept_whole terms before s over obeys narrow c n (inside i seat c place) (next_by over c n next) shelf rests.shows rests.names;
      };
      numbers = subst (λ (m : ℕ). m + length p.awake.items ≤ 2 ^ 64 - 1) (sym (none_begins_behind e (record now { failures = now.failures + 1 }))) low;
    }

  pub may_go : MayGoWithout p z now e
  may_go = record { given = given; asks = λ y here. behind y here }

pub dials_may : DialsMayGoWithout
dials_may terms most before number shelf p x s obeys stands rests low steps hs z t e affords brief reaches leads may shows waits = may_go terms before number shelf p x s obeys stands rests steps hs z t e reaches leads may (low steps hs z t e affords brief reaches leads may shows waits)

-- ---- numbers

far_from_end : (n k most awake : ℕ) → n ≤ 4096 * (k + 1) → k ≤ most → most < 2 ^ 50 → awake ≤ 256 → n + awake ≤ 2 ^ 64 - 1
far_from_end n k most awake le brief few here = omega (arith, le, brief, few, here)

pub few_given : FewNumbersAreGiven
few_given terms most before number p x s obeys stands begins short steps hs z t e affords brief reaches leads may shows waits =
    let clients : length s.clients ≤ 256 = (sound_turns terms s before obeys).bounded.clients in
    let shown : AreShown number p.name.items [] p.seats.items s.clients = subst (λ (q : Parts). AreShown number p.name.items [] q.seats s.clients) stands.is stands.shows.turn.steps.shows.clients in
    far_from_end (placing t).state.next_exchange (length (before ++ hs)) most (length p.awake.items)
    (begun_placing (4096 * (length (before ++ hs) + 1)) t (exchanges_counted terms t (before ++ hs) (comes_by terms hs before s t (enough_of s hs affords) obeys leads).obeys) may.connecting.at)
    brief short (few_awake number p.name.items p.seats.items s.clients p.awake.items shown stands.awake.order clients)
