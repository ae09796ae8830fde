-- What a client that is closed, or that goes on to its next request, leaves in the program, whatever else of its seat is changed before.
use Rattle.std.proofs.Common.{◌≡◌, ◌≤◌, refl, sym, subst, ap, ◌∙◌, ℕ, zero, suc, Bool, true, false, ◌==◌, cond, find, List, [], ◌∷◌, Some, None, Option}
use Rattle.std.specs.Prelude.{count_by, option_and_then, option_map, slice_get, slice_set}
use Rattle.pp_turns_law.proofs.Own.{HasEntry, has_entry, its_number}
use Rattle.pp_turns_law.proofs.Quit.{closing_is, quit}
use Rattle.pp_turns_law.specs.Sides.{ShowsSides}
use Rattle.pp_turns_law.proofs.Changed.{get_set, set_set}
use Rattle.pp_turns_law.proofs.Quitting.{left_memory}
use Rattle.pp_turns_law.proofs.Sitting.{leaves_none, on_seat_is}
use Rattle.pp_desk.specs.Closings.{Sides, closed_client, closing_at, left_at, left_by_errand, left_own, with_parts, withdrawn}
use Rattle.pp_desk.specs.Replies.{at_next}
use Rattle.pp_flow.specs.Changes.{Exchanges, changed, entry_of}
use Rattle.pp_flow.specs.Entries.{nobodys}
use Rattle.pp_flow.specs.declared.entry.Entry.{Entry}
use Rattle.pp_flow.specs.declared.entry.Exchange.{Exchange as Asked}
use Rattle.pp_flow.specs.declared.errand.Errand.{Errand}
use Rattle.pp_flow_law.proofs.Told.{askers}
use Rattle.pp_flow_law.specs.Tables.{Leaving, ShowsFlow}
use Rattle.pp_law.specs.Closing.{is_of}
use Rattle.pp_law.specs.Lists.{Bytes}
use Rattle.pp_law.specs.State.{State, Client, Exchange}
use Rattle.pp_objects.specs.declared.id.ObjectId.{ObjectId}
use Rattle.pp_seats.specs.Seats.{at_next_request}
use Rattle.pp_seats.specs.declared.seat.Seat.{Seat}
use Rattle.pp_seats_law.specs.Clients.{AreShown}
use Rattle.pp_state.specs.Ends.{AreInOrder, Parts, asked_by, changed_at, exchange_at, exchange_of, forsaken, left, left_source, numbers_of, on_seat, source_at, source_of, unfollowed, without_source}
use Rattle.pp_states_law.proofs.Places.{numbers_set}

abbrev pub with_seats : List Seat → Sides → Sides
with_seats seats x = record x { parts = record x.parts { seats = seats } }

-- ---- what its exchange becomes is told by its number alone

abbrev asks_of : ℕ → Exchanges → Option Asked
asks_of n f = option_and_then (λ number. exchange_at number f) (asked_by n f)

asks_is : (i : ℕ) (p : Parts) (a : Seat) → slice_get p.seats i ≡ Some a → exchange_of i p ≡ asks_of a.client.id p.flow
asks_is i p a here = ap (λ (o : Option Seat). option_and_then (λ (seat : Seat). asks_of seat.client.id p.flow) o) here

abbrev forsaken_if : Option Asked → Parts → Parts
forsaken_if o p = elim o [ None ↦ p | Some e ↦ left e.number p ]

forsaken_moved : (o : Option Asked) (seats : List Seat) (p : Parts) → forsaken_if o (record p { seats = seats }) ≡ record (forsaken_if o p) { seats = seats }
forsaken_moved None seats p = refl
forsaken_moved (Some e) seats p = refl

module _ (i : ℕ) (seats : List Seat) (z : Sides) (same : exchange_of i (record z.parts { seats = seats }) ≡ exchange_of i z.parts) where
  forsaken_same : forsaken i (record z.parts { seats = seats }) ≡ record (forsaken i z.parts) { seats = seats }
  forsaken_same = ap (λ (o : Option Asked). forsaken_if o (record z.parts { seats = seats })) same ∙ forsaken_moved (exchange_of i z.parts) seats z.parts

  on_moved : (number k : ℕ) (b : Bool) → cond b (withdrawn number k (with_seats seats z)) (with_parts (forsaken i) (with_seats seats z)) ≡ with_seats seats (cond b (withdrawn number k z) (with_parts (forsaken i) z))
  on_moved number k true = refl
  on_moved number k false = ap (λ (p : Parts). let y : Sides = record z { parts = p } in y) forsaken_same

  at_moved : (number : ℕ) (errand : Errand) (o : Option ℕ) → left_at i number errand o (with_seats seats z) ≡ with_seats seats (left_at i number errand o z)
  at_moved number errand None = refl
  at_moved number errand (Some k) = on_moved number k (errand.asked == 0)

  errand_moved : (e : Asked) (o : Option Errand) → left_by_errand i e o (with_seats seats z) ≡ with_seats seats (left_by_errand i e o z)
  errand_moved e None = refl
  errand_moved e (Some errand) = at_moved e.number errand e.place

  own_moved : (o : Option Asked) → left_own i o (with_seats seats z) ≡ with_seats seats (left_own i o z)
  own_moved None = refl
  own_moved (Some e) = errand_moved e (option_map (λ (x : Entry). x.errand) (entry_of e.number z.parts.flow))

-- and clients and memory stay as they are
record Stays (z y : Sides) : Type 0 where
  seats : y.parts.seats ≡ z.parts.seats
  cache : y.parts.cache ≡ z.parts.cache

module _ (i : ℕ) (z : Sides) where
  forsaken_stays : (o : Option Asked) → Stays z (record z { parts = forsaken_if o z.parts })
  forsaken_stays None = record { seats = refl; cache = refl }
  forsaken_stays (Some e) = record { seats = refl; cache = refl }

  on_stays : (number k : ℕ) (b : Bool) → Stays z (cond b (withdrawn number k z) (with_parts (forsaken i) z))
  on_stays number k true = record { seats = refl; cache = refl }
  on_stays number k false = forsaken_stays (exchange_of i z.parts)

  at_stays : (number : ℕ) (errand : Errand) (o : Option ℕ) → Stays z (left_at i number errand o z)
  at_stays number errand None = record { seats = refl; cache = refl }
  at_stays number errand (Some k) = on_stays number k (errand.asked == 0)

  errand_stays : (e : Asked) (o : Option Errand) → Stays z (left_by_errand i e o z)
  errand_stays e None = record { seats = refl; cache = refl }
  errand_stays e (Some errand) = at_stays e.number errand e.place

  own_stays : (o : Option Asked) → Stays z (left_own i o z)
  own_stays None = record { seats = refl; cache = refl }
  own_stays (Some e) = errand_stays e (option_map (λ (x : Entry). x.errand) (entry_of e.number z.parts.flow))

-- ---- one that is closed

pub record IsShut (i : ℕ) (x : Sides) (seat : Seat) (y : Sides) : Type 0 where
  pub seats : y.parts.seats ≡ slice_set x.parts.seats i (quit (source_of seat) seat)
  pub cache : y.parts.cache ≡ left_memory (source_of seat) x.parts.cache

pub is_shut : (i : ℕ) (x : Sides) (seat : Seat) → slice_get x.parts.seats i ≡ Some seat → IsShut i x seat (closed_client i x)
is_shut i x seat here =
    let z : Sides = with_parts (closing_at i) x in
    let closing : closing_at i x.parts ≡ record x.parts { seats = slice_set x.parts.seats i (quit (source_of seat) seat); cache = left_memory (source_of seat) x.parts.cache } = closing_is i x.parts seat (source_of seat) here refl in
    let stays : Stays z (closed_client i x) = own_stays i z (exchange_of i (closing_at i x.parts)) in
    record { seats = stays.seats ∙ ap (λ (p : Parts). p.seats) closing; cache = stays.cache ∙ ap (λ (p : Parts). p.cache) closing }

-- it may stand there as another seat of that number, which follows the same
pub record IsBeside (seat y : Seat) : Type 0 where
  pub number : y.client.id ≡ seat.client.id
  pub source : source_of y ≡ source_of seat

quit_number : (o : Option ObjectId) (seat : Seat) → (quit o seat).client.id ≡ seat.client.id
quit_number None seat = refl
quit_number (Some id) seat = refl

quit_closing : (o : Option ObjectId) (seat : Seat) → (quit o seat).is_closing ≡ true
quit_closing None seat = refl
quit_closing (Some id) seat = refl

pub shut_beside : (i : ℕ) (x : Sides) (seat y : Seat) → slice_get x.parts.seats i ≡ Some seat → IsBeside seat y
    → closed_client i (with_seats (slice_set x.parts.seats i y) x) ≡ with_seats (slice_set x.parts.seats i (quit (source_of seat) y)) (closed_client i x)
shut_beside i x seat y here beside =
    let o : Option ObjectId = source_of seat in
    let p : Parts = x.parts in
    let q : Parts = record p { seats = slice_set p.seats i y } in
    let first : Parts = record p { seats = slice_set p.seats i (quit o seat); cache = left_memory o p.cache } in
    let second : Parts = record p { seats = slice_set p.seats i (quit o y); cache = left_memory o p.cache } in
    let one : closing_at i p ≡ first = closing_is i p seat o here refl in
    let two : closing_at i q ≡ second =
    closing_is i q y o (get_set i p.seats seat y here) beside.source ∙ ap (λ (seats : List Seat). let r : Parts = record p { seats = seats; cache = left_memory o p.cache } in r) (set_set i p.seats y (quit o y)) in
    let asks : exchange_of i second ≡ exchange_of i first =
    asks_is i second (quit o y) (get_set i p.seats seat (quit o y) here)
    ∙ ap (λ (n : ℕ). asks_of n p.flow) (quit_number o y ∙ beside.number ∙ sym (quit_number o seat))
    ∙ sym (asks_is i first (quit o seat) (get_set i p.seats seat (quit o seat) here)) in
    ap (λ (r : Parts). left_own i (exchange_of i r) (let z : Sides = record x { parts = r } in z)) two
    ∙ ap (λ (a : Option Asked). left_own i a (let z : Sides = record x { parts = second } in z)) asks
    ∙ own_moved i (slice_set p.seats i (quit o y)) (record x { parts = first }) asks (exchange_of i first)
    ∙ ap (λ (r : Parts). with_seats (slice_set p.seats i (quit o y)) (left_own i (exchange_of i r) (let z : Sides = record x { parts = r } in z))) (sym one)

-- of one that is closing nothing else is shown
shown_closing : (number : ℕ → ℕ) (name : Bytes) (i : ℕ) (a b : Seat) → b.client.id ≡ a.client.id → a.is_closing ≡ true → b.is_closing ≡ true → (seats : List Seat) (cs : List Client) → AreShown number name [] (slice_set seats i a) cs
    → AreShown number name [] (slice_set seats i b) cs
shown_closing number name i a b same one two [] cs shown = shown
shown_closing number name zero a b same one two (seat ∷ seats) [] shown = shown
shown_closing number name (suc i) a b same one two (seat ∷ seats) [] shown = shown
shown_closing number name zero a b same one two (seat ∷ seats) (c ∷ cs) shown = (
  record {
    number = same ∙ shown.0.number;
    closing = two ∙ sym one ∙ shown.0.closing;
    going = λ going. absurd (let bad : true ≡ false = sym one ∙ shown.0.closing ∙ going in cc bad);
  },
  shown.1,
)
shown_closing number name (suc i) a b same one two (seat ∷ seats) (c ∷ cs) shown = (shown.0, shown_closing number name i a b same one two seats cs shown.1)

pub shows_beside : (number : ℕ → ℕ) (name : Bytes) (i : ℕ) (x z : Sides) (s : State) (seat y : Seat) → slice_get x.parts.seats i ≡ Some seat → IsBeside seat y → IsShut i x seat z → ShowsSides number name z s
    → ShowsSides number name (with_seats (slice_set x.parts.seats i (quit (source_of seat) y)) z) s
shows_beside number name i x z s seat y here beside shut shows =
    let o : Option ObjectId = source_of seat in
    let same : (quit o y).client.id ≡ (quit o seat).client.id = quit_number o y ∙ beside.number ∙ sym (quit_number o seat) in
    record {
      steps = record {
        shows = record {
          clients = shown_closing number name i (quit o seat) (quit o y) same (quit_closing o seat) (quit_closing o y) x.parts.seats s.clients (subst (λ (seats : List Seat). AreShown number name [] seats s.clients) shut.seats shows.steps.shows.clients);
          exchanges = shows.steps.shows.exchanges;
          table = shows.steps.shows.table;
          conns = shows.steps.shows.conns;
        };
        order = subst (λ (ns : List ℕ). AreInOrder ns)
            (ap (λ (seats : List Seat). numbers_of seats) shut.seats ∙ numbers_set i x.parts.seats seat (quit o seat) here (quit_number o seat) ∙ sym (numbers_set i x.parts.seats seat (quit o y) here (quit_number o y ∙ beside.number)))
            shows.steps.order;
        told = shows.steps.told;
        refused = shows.steps.refused;
      };
      may = shows.may;
    }

-- ---- one that goes on to its next request

abbrev pub flow_left : Option Exchange → Exchanges → Exchanges
flow_left None f = f
flow_left (Some e) f = record f { waiting = changed e.number nobodys f.waiting; placed = changed e.number nobodys f.placed }

abbrev forsaken_by : Option Exchange → Parts → Parts
forsaken_by o p = record p { flow = flow_left o p.flow }

module _ (number : ℕ → ℕ) (l : Leaving) (s : State) (n : ℕ) (once : count_by (is_of n) s.exchanges ≤ 1) where
  forsaken_is : (i : ℕ) (p : Parts) (a : Seat) → ShowsFlow number l p.flow s → slice_get p.seats i ≡ Some a → a.client.id ≡ n → forsaken i p ≡ forsaken_by (find (is_of n) s.exchanges) p
  forsaken_is i p a shows here same = ap (λ (o : Option Asked). forsaken_if o p) asked ∙ by (find (is_of n) s.exchanges) refl
    where
      asked_in : Option ℕ → Option Asked
      asked_in o = option_and_then (λ number. exchange_at number p.flow) o

      asked : exchange_of i p ≡ asked_in (option_map (λ e. e.number) (find (is_of n) s.exchanges))
      asked = asks_is i p a here ∙ ap (λ (m : ℕ). asks_of m p.flow) same ∙ ap asked_in (askers number l p.flow s shows n once)

      by : (o : Option Exchange) → find (is_of n) s.exchanges ≡ o → forsaken_if (asked_in (option_map (λ e. e.number) o)) p ≡ forsaken_by o p
      by None none = refl
      by (Some e) its =
          let it : HasEntry number p.flow e = has_entry number l p.flow s shows e (its_number number l p.flow s shows n e its) in
          ap (λ (o : Option Entry). forsaken_if (option_map (λ (x : Entry). x.exchange) o) p) it.here ∙ ap (λ (m : ℕ). left m p) it.shows.number

  seat_in : (o : Option Exchange) (i : ℕ) (p : Parts) (a y : Seat) → slice_get p.seats i ≡ Some a → on_seat i at_next_request (forsaken_by o p) ≡ record p { seats = slice_set p.seats i (at_next_request a); flow = flow_left o p.flow }
  seat_in o i p a y here = on_seat_is i at_next_request (forsaken_by o p) a here

  pub next_is : (i : ℕ) (p : Parts) (seat : Seat) → ShowsFlow number l p.flow s → slice_get p.seats i ≡ Some seat → seat.client.id ≡ n
      → at_next i p ≡ record p { seats = slice_set p.seats i (at_next_request seat); cache = left_memory (source_of seat) p.cache; flow = flow_left (find (is_of n) s.exchanges) p.flow }
  next_is i p seat shows here same = by (source_of seat) (ap (λ (x : Option Seat). option_and_then source_of x) here)
    where
      its : Option Exchange
      its = find (is_of n) s.exchanges

      by : (o : Option ObjectId) → source_at i p ≡ o → at_next i p ≡ record p { seats = slice_set p.seats i (at_next_request seat); cache = left_memory o p.cache; flow = flow_left (find (is_of n) s.exchanges) p.flow }
      by None none =
          ap (λ (r : Parts). on_seat i at_next_request (forsaken i r)) (leaves_none i p none)
          ∙ ap (on_seat i at_next_request) (forsaken_is i p seat shows here same)
          ∙ seat_in (find (is_of n) s.exchanges) i p seat seat here
      by (Some id) some =
          let q : Parts = record p { seats = slice_set p.seats i (without_source seat); cache = unfollowed id p.cache } in
          let left : left_source i p ≡ q =
          ap (λ (x : Option ObjectId). elim x as (λ t. Parts) [ None ↦ p | Some y ↦ record p { seats = changed_at i without_source p.seats; cache = unfollowed y p.cache } ]) some
          ∙ ap (λ (x : Option Seat). let r : Parts = record p { seats = elim x as (λ t. List Seat) [ None ↦ p.seats | Some y ↦ slice_set p.seats i (without_source y) ]; cache = unfollowed id p.cache } in r) here in
          let there : slice_get q.seats i ≡ Some (without_source seat) = get_set i p.seats seat (without_source seat) here in
          ap (λ (r : Parts). on_seat i at_next_request (forsaken i r)) left
          ∙ ap (on_seat i at_next_request) (forsaken_is i q (without_source seat) shows there same)
          ∙ seat_in (find (is_of n) s.exchanges) i q (without_source seat) seat there
          ∙ ap (λ (seats : List Seat). let r : Parts = record q { seats = seats; flow = flow_left (find (is_of n) s.exchanges) p.flow } in r) (set_set i p.seats (without_source seat) (at_next_request seat))
