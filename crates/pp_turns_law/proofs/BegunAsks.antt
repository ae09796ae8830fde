-- What a client that asks leaves of all: an exchange begins, or what it would ask is too long.
use Rattle.std.proofs.Common.{◌≡◌, refl, sym, subst, ap, ◌∙◌, ℕ, zero, suc, Bool, true, false, List, [], ◌∷◌, ◌++◌, Some, None, Option}
use Rattle.std.specs.Prelude.{slice_get, slice_set}
use Rattle.pp_cache_law.proofs.Numbers.{some_is}
use Rattle.pp_turns_law.proofs.Asked.{room_left}
use Rattle.pp_turns_law.proofs.Left.{left_is, told_by_left}
use Rattle.pp_turns_law.proofs.Sitting.{is_at, on_seat_is, shown_at}
use Rattle.pp_turns_law.specs.Decides.{IsAtPlace}
use Rattle.pp_flow.specs.Changes.{Exchanges}
use Rattle.pp_flow.specs.Entries.{begun_with}
use Rattle.pp_flow.specs.declared.entry.Aim.{Aim}
use Rattle.pp_flow.specs.declared.entry.Entry.{Entry}
use Rattle.pp_flow.specs.declared.errand.Errand.{Errand}
use Rattle.pp_flow_law.proofs.Entries.{none_some}
use Rattle.pp_flow_law.specs.Changes.{begun_by as flow_begun, left_by as flow_left}
use Rattle.pp_flow_law.specs.Tables.{Leaving, ShowsFlow}
use Rattle.pp_law.specs.Closing.{forsake, leave}
use Rattle.pp_law.specs.Connections.{on_client}
use Rattle.pp_law.specs.Deciding.{add_exchange, begin_exchange}
use Rattle.pp_law.specs.Lists.{Bytes}
use Rattle.pp_law.specs.State.{State, Client, Exchange}
use Rattle.pp_peers.specs.declared.peers.Peer.{Peer}
use Rattle.pp_seats.specs.Heads.{asked_in, owned_in}
use Rattle.pp_seats.specs.declared.key.Key.{Key}
use Rattle.pp_seats.specs.declared.seat.Course.TheVariants.{AskTooLong as IsTooLong}
use Rattle.pp_seats.specs.declared.seat.Seat.{Seat}
use Rattle.pp_seats_law.proofs.Fates.{long_asks}
use Rattle.pp_seats_law.specs.Clients.{IsAt}
use Rattle.pp_seats_law.specs.Exchanges.{ShowsExchange}
use Rattle.pp_seats_law.specs.Fates.{is_refused}
use Rattle.pp_seats_law.specs.Seats.{ShowsSeat}
use Rattle.pp_states_law.proofs.Changed.{changes}
use Rattle.pp_states_law.proofs.Decided.{asks as states_ask}
use Rattle.pp_states_law.specs.Decisions.{AsksOnce}
use Rattle.pp_take.specs.Deciding.{begun_at, begun_for, begun_of, exchange_begun, may_ask}
use Rattle.pp_state.specs.Ends.{AreInOrder, Parts, numbers_of, on_seat}
use Rattle.pp_states_law.proofs.Places.{numbers_set}
use Rattle.pp_states_law.proofs.Told.{told_next}
use Rattle.pp_states_law.specs.Steps.{whole}
use Rattle.pp_states_law.specs.Told.{AreTold, EachIsTold, IsToldBy}
use Rattle.pp_turns_law.proofs.KeptAsks.{HasOneMore, none_but_long, none_more, one_more, too_long}
use Rattle.pp_turns_law.specs.Fills.{ShowsParts}

-- ---- what a step leaves

-- a seat that was there, but for its course
pub record WasSeat (seats : List Seat) (j : ℕ) (seat : Seat) : Type 0 where
  pub before : Seat
  pub there : slice_get seats j ≡ Some before
  pub same : seat ≡ record before { course = seat.course }

pub record IsDone (number : ℕ → ℕ) (name : Bytes) (l : Leaving) (peers : List Peer) (p : Parts) (s : State) (q : Parts) (t : State) : Type 0 where
  pub shows : ShowsParts number name l peers q t
  pub seats : (j : ℕ) (seat : Seat) → slice_get q.seats j ≡ Some seat → WasSeat p.seats j seat
  pub numbers : numbers_of q.seats ≡ numbers_of p.seats
  pub cache : q.cache ≡ p.cache
  pub more : HasOneMore s t

same_seat : (seats : List Seat) (j : ℕ) (seat : Seat) → slice_get seats j ≡ Some seat → WasSeat seats j seat
same_seat seats j seat there = record { before = seat; there = there; same = refl }

pub none_done : (number : ℕ → ℕ) (name : Bytes) (l : Leaving) (peers : List Peer) (p : Parts) (s : State) → ShowsParts number name l peers p s → IsDone number name l peers p s p s
none_done number name l peers p s shows = record { shows = shows; seats = same_seat p.seats; numbers = refl; cache = refl; more = none_more s }

-- ---- an exchange begins

begins_is : (o : Option Seat) (key : Key) (aim : Aim) (errand : Errand) (text : List ℕ) (f : Exchanges) (seat : Seat) → o ≡ Some seat → owned_in (asked_in seat.front) ≡ Some key → may_ask f ≡ true
    → begun_for o aim errand text f ≡ flow_begun seat.client.id key.text.items aim errand text f
begins_is None key aim errand text f seat is owned room = absurd (none_some seat is)
begins_is (Some other) key aim errand text f seat is owned room =
    ap (λ (s : Seat). begun_for (Some s) aim errand text f) (some_is other seat is)
    ∙ ap (λ (k : Option Key). begun_of k seat.client.id aim errand text f) owned
    ∙ ap (λ (b : Bool). elim b as (λ t. Exchanges) [ true ↦ flow_begun seat.client.id key.text.items aim errand text f | false ↦ f ]) room

pub begun_is : (number : ℕ → ℕ) (l : Leaving) (p : Parts) (s : State) → ShowsFlow number l p.flow s → (i : ℕ) (aim : Aim) (errand : Errand) (text : List ℕ) (seat : Seat) (key : Key) → slice_get p.seats i ≡ Some seat
    → owned_in (asked_in seat.front) ≡ Some key → may_ask p.flow ≡ true → exchange_begun i aim errand text p ≡ record p { flow = flow_begun seat.client.id key.text.items aim errand text (flow_left seat.client.id p.flow) }
unfolding exchange_begun
begun_is number l p s shows i aim errand text seat key here owned room =
    ap (begun_at i aim errand text) (left_is number l p s shows i seat here)
    ∙ ap (λ (f : Exchanges). record p { flow = f })
    (begins_is (slice_get p.seats i) key aim errand text (flow_left seat.client.id p.flow) seat here owned (room_left seat.client.id p.flow room))

begin_keeps : (e : Exchange) (s : State) → ((begin_exchange e s).next_instance ≡ s.next_instance) × ((begin_exchange e s).settings ≡ s.settings)
unfolding begin_exchange add_exchange leave forsake
begin_keeps e s = (refl, refl)

each_more : (number : ℕ → ℕ) (p : Parts) (next : ℕ) (xs : List Entry) (x : Entry) → x.exchange.bound ≡ None → EachIsTold number p.cache next xs → EachIsTold number p.cache next (xs ++ x ∷ [])
each_more number p next [] x none told = (subst (λ o. IsToldBy number p.cache next o) (sym none) tt, tt)
each_more number p next (y ∷ ys) x none told = (told.0, each_more number p next ys x none told.1)

pub begun_done : (number : ℕ → ℕ) (name : Bytes) (l : Leaving) (peers : List Peer) (p : Parts) (s : State) → ShowsParts number name l peers p s → (c : ℕ) (key : Bytes) (aim : Aim) (errand : Errand) (text : Bytes) (e : Exchange) → e.asker ≡ Some c → AsksOnce c s
    → ShowsExchange number (begun_with p.flow.begun c key aim errand text) e
    → IsDone number name l peers p s (record p { flow = flow_begun c key aim errand text (flow_left c p.flow) }) (begin_exchange e s)
begun_done number name l peers p s shows c key aim errand text e asks once shown =
    let told : AreTold number p.cache s.next_instance (flow_left c p.flow) = told_by_left number p s.next_instance c shows.steps.told in
    record {
      shows = record {
        steps = record {
          shows = states_ask number name [] l (whole p peers) s shows.steps.shows c key aim errand text e once shown;
          order = shows.steps.order;
          told = subst (λ (m : ℕ). AreTold number p.cache m (flow_begun c key aim errand text (flow_left c p.flow))) (sym (begin_keeps e s).0) (record {
            waiting = each_more number p s.next_instance (flow_left c p.flow).waiting (begun_with (flow_left c p.flow).begun c key aim errand text) refl told.waiting;
            placed = told.placed;
          });
          refused = shows.steps.refused;
        };
        named = shows.named ∙ ap (λ settings. settings.name) (sym (begin_keeps e s).1);
        bounded = shows.bounded;
      };
      seats = same_seat p.seats;
      numbers = refl;
      cache = refl;
      more = one_more e c s asks;
    }

-- ---- what it would ask is too long

abbrev pub asks_nothing : Seat → Seat
asks_nothing seat = record seat { course = IsTooLong }

long_keeps : (n : ℕ) (s : State) → ((on_client n too_long s).next_instance ≡ s.next_instance) × ((on_client n too_long s).settings ≡ s.settings)
unfolding on_client
long_keeps n s = (refl, refl)

set_was : (i j : ℕ) (seats : List Seat) (old seat : Seat) → slice_get seats i ≡ Some old → slice_get (slice_set seats i (asks_nothing old)) j ≡ Some seat → WasSeat seats j seat
set_was i j [] old seat here there = absurd (none_some old here)
set_was zero zero (first ∷ seats) old seat here there =
    let same : asks_nothing old ≡ seat = some_is (asks_nothing old) seat there in
    let before : first ≡ old = some_is first old here in
    record {
      before = first;
      there = refl;
      same = sym same ∙ ap asks_nothing (sym before) ∙ ap (λ (x : Seat). record first { course = x.course }) same;
    }
set_was zero (suc j) (first ∷ seats) old seat here there = record { before = seat; there = there; same = refl }
set_was (suc i) zero (first ∷ seats) old seat here there = record { before = seat; there = there; same = refl }
set_was (suc i) (suc j) (first ∷ seats) old seat here there =
    let rest : WasSeat seats j seat = set_was i j seats old seat here there in
    record { before = rest.before; there = rest.there; same = rest.same }

pub long_done : (number : ℕ → ℕ) (name : Bytes) (l : Leaving) (peers : List Peer) (p : Parts) (s : State) → ShowsParts number name l peers p s → (i : ℕ) (seat : Seat) (c : Client) → IsAtPlace i p s seat c → is_refused c.course ≡ false
    → IsDone number name l peers p s (on_seat i asks_nothing p) (on_client seat.client.id too_long s)
long_done number name l peers p s shows i seat c place given =
    let n : ℕ = seat.client.id in
    let set : Parts = record p { seats = slice_set p.seats i (asks_nothing seat) } in
    let at : IsAt n i p.seats = is_at i p.seats seat shows.steps.order place.here in
    let seen : ShowsSeat number name [] seat c = shown_at number name [] p.seats s.clients n i seat c shows.steps.shows.clients at place.here place.there in
    let numbers : numbers_of set.seats ≡ numbers_of p.seats = numbers_set i p.seats seat (asks_nothing seat) place.here refl in
    subst (λ (q : Parts). IsDone number name l peers p s q (on_client n too_long s)) (sym (on_seat_is i asks_nothing p seat place.here)) (record {
      shows = record {
        steps = record {
          shows = changes number name [] l (whole p peers) s shows.steps.shows n i (asks_nothing seat) too_long at (λ id d. refl)
              (λ other d here there shown. subst (λ (x : Client). ShowsSeat number name [] (asks_nothing seat) (too_long x)) (some_is c d (sym place.there ∙ there)) (long_asks number name [] seat c seen given));
          order = subst (λ (ns : List ℕ). AreInOrder ns) (sym numbers) shows.steps.order;
          told = told_next number p.cache s.next_instance (on_client n too_long s).next_instance p.flow (long_keeps n s).0 shows.steps.told;
          refused = shows.steps.refused;
        };
        named = shows.named ∙ ap (λ settings. settings.name) (sym (long_keeps n s).1);
        bounded = shows.bounded;
      };
      seats = λ j new there. set_was i j p.seats seat new place.here there;
      numbers = numbers;
      cache = refl;
      more = none_but_long n s;
    })
