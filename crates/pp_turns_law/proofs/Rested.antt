-- At a wait, a request that shares what another one asks waits for that exchange from then on.
use Rattle.std.proofs.Common.{arith, ◌≡◌, refl, sym, subst, ap, ap₂, ◌∙◌, ℕ, zero, suc, ◌+◌, Bool, true, false, ◌==◌, ◌&&◌, ◌||◌, not, cond, is_some, length, map, List, [], ◌∷◌, Option, Some, None, option_map}
use Rattle.std.proofs.lemmas.Bool.Decides.{nat_tests}
use Rattle.std.specs.Prelude.{slice_get, slice_set}
use Rattle.pp_cache_law.proofs.Framing.{frames_of, the_same}
use Rattle.pp_cache_law.proofs.Numbers.{is_same, some_is}
use Rattle.pp_cache_law.proofs.PairLemmas.{count_mapped_same}
use Rattle.pp_turns_law.proofs.Follows.{none_some}
use Rattle.pp_turns_law.proofs.Shares.{shared_same}
use Rattle.pp_turns_law.specs.Rows.{AreReady, IsReady}
use Rattle.pp_turns_law.specs.Turns.{ShowsTurn}
use Rattle.pp_flow_law.proofs.Framed.{frames as flow_frames}
use Rattle.pp_flow_law.specs.Tables.{AreGiven, Leaving}
use Rattle.pp_law.specs.Connections.{exchange}
use Rattle.pp_law.specs.Lists.{Bytes, has_number}
use Rattle.pp_law.specs.Requests.{has_request}
use Rattle.pp_law.specs.Sharing.{has_shared_ask as has_by_law, shared_ask as shared_by_law}
use Rattle.pp_law.specs.Stages.{is_undecided}
use Rattle.pp_law.specs.State.{State, Client, Shared}
use Rattle.pp_law.specs.Table.{follows}
use Rattle.pp_law.specs.Turn.{awaited_by as awaited_by_law, rested_client, shared_with as shared_with_law}
use Rattle.pp_peers.specs.declared.peers.Peer.{Peer}
use Rattle.pp_seats.specs.Heads.{is_there_in}
use Rattle.pp_seats.specs.Seats.{is_silent, is_undecided_in}
use Rattle.pp_client.specs.Replies.{Reply as Said}
use Rattle.pp_seats.specs.declared.seat.Brought.{Brought as SeatBrought}
use Rattle.pp_seats.specs.declared.seat.Brought.TheVariants.{Awaited as IsAwaited, Useless, Joins, Passes, TooWide, Refused}
use Rattle.pp_seats.specs.declared.seat.Course.{Course as SeatCourse}
use Rattle.pp_seats.specs.declared.seat.Seat.{Seat}
use Rattle.pp_seats.specs.declared.seat.Shared.{Shared as SeatShared}
use Rattle.pp_seats_law.specs.Clients.{AreShown}
use Rattle.pp_seats_law.specs.Replies.{ShowsFate, shared_of}
use Rattle.pp_seats_law.specs.Seats.{ShowsOpen, ShowsSeat}
use Rattle.pp_states_law.proofs.Asked.{all_as, frames, itself}
use Rattle.pp_states_law.specs.States.{ShowsState}
use Rattle.pp_decide.specs.Sharing.{is_sharing, shared_ask}
use Rattle.pp_state.specs.Ends.{AreInOrder, changed_at, numbers_of}
use Rattle.pp_due.specs.Waits.{awaited_by, awaited_in, rested_seat, shared_from, shared_with, waiting_on}
use Rattle.pp_state.specs.declared.state.State.{State as Turn}
use Rattle.pp_states_law.proofs.Places.{numbers_set}
use Rattle.pp_states_law.specs.Steps.{ShowsSteps, whole}
use Rattle.pp_turns_law.proofs.First.{IsShownAt, above, client_shown}
use Rattle.pp_turns_law.proofs.Wanted.{same_length}
use Rattle.pp_turns_law.proofs.Waiting.{shares, there_same}
use Rattle.pp_turns_law.proofs.Woken.{turn_with, with_seats}
use Rattle.pp_turns_law.specs.Marks.{AreLoud, RestingIsTheLaws, all_rested, with_rested}

-- ---- what it waits for

from_now : (now : ℕ) (o : Option ℕ) → option_map shared_of (shared_from now o) ≡ option_map (λ (n : ℕ). let w : Shared = record { exchange = n; since = now } in w) o
from_now now None = refl
from_now now (Some n) = refl

abbrev shared_law : ℕ → Bool → Option ℕ → Option Shared
shared_law now b o = elim b as (λ t. Option Shared) [ true ↦ option_map (λ (n : ℕ). let w : Shared = record { exchange = n; since = now } in w) o | false ↦ None ]

abbrev shared_if : ℕ → Bool → Option ℕ → Option Shared
shared_if now b o = option_map shared_of (cond b (shared_from now o) None)

shared_by : (now : ℕ) (b : Bool) (o : Option ℕ) → shared_if now b o ≡ shared_law now b o
shared_by now true o = from_now now o
shared_by now false o = refl

shared_same_by : (number : ℕ → ℕ) (l : Leaving) (peers : List Peer) (p : Turn) (s : State) (name : Bytes) (seat : Seat) (c : Client) (b : Bool) → ShowsTurn number l peers p s → ShowsSeat number name [] seat c → c.is_closing ≡ false → IsReady number p.cache s.next_instance seat
    → shared_if p.now b (shared_ask seat p.flow) ≡ shared_law s.clock b (shared_by_law s c)
shared_same_by number l peers p s name seat c b shows seen going ready =
    shared_by p.now b (shared_ask seat p.flow)
    ∙ ap₂ (λ (now : ℕ) (o : Option ℕ). shared_law now b o) shows.clock (shared_same number l peers p s name seat c shows (seen.going going).front ready.key)

shared_with_same : (number : ℕ → ℕ) (l : Leaving) (peers : List Peer) (p : Turn) (s : State) (name : Bytes) (seat : Seat) (c : Client) → ShowsTurn number l peers p s → ShowsSeat number name [] seat c → c.is_closing ≡ false → IsReady number p.cache s.next_instance seat
    → option_map shared_of (shared_with p seat) ≡ shared_with_law s c
shared_with_same number l peers p s name seat c shows seen going ready =
    shared_same_by number l peers p s name seat c (is_sharing p seat) shows seen going ready
    ∙ ap (λ (b : Bool). shared_law s.clock b (shared_by_law s c)) (shares number l peers p s name seat c shows seen going ready)

abbrev awaited_law : State → Client → Option Shared → Option Shared
awaited_law s c o = elim o as (λ t. Option Shared) [ Some w ↦ Some w | None ↦ shared_with_law s c ]

awaited_same_by : (p : Turn) (s : State) (seat : Seat) (c : Client) (o : Option SeatShared) → option_map shared_of (shared_with p seat) ≡ shared_with_law s c → option_map shared_of (awaited_in p seat o) ≡ awaited_law s c (option_map shared_of o)
awaited_same_by p s seat c None same = same
awaited_same_by p s seat c (Some w) same = refl

awaited_same : (number : ℕ → ℕ) (l : Leaving) (peers : List Peer) (p : Turn) (s : State) (name : Bytes) (seat : Seat) (c : Client) → ShowsTurn number l peers p s → ShowsSeat number name [] seat c → c.is_closing ≡ false → IsReady number p.cache s.next_instance seat
    → option_map shared_of (awaited_by p seat) ≡ awaited_by_law s c
awaited_same number l peers p s name seat c shows seen going ready =
    awaited_same_by p s seat c seat.waits_on (shared_with_same number l peers p s name seat c shows seen going ready) ∙ ap (λ (o : Option Shared). awaited_law s c o) (seen.going going).waits_on

-- ---- one client

fate_rested : (number : ℕ → ℕ) (name : Bytes) (said : Said) (course : SeatCourse) (brought : SeatBrought) (c : Client) (known : Option Shared) → ShowsFate number name [] said course brought c
    → ShowsFate number name [] said course brought (record c { waits_on = known; is_new = false })
fate_rested number name said course Refused c known shows = record { waits = shows.waits; joins = shows.joins; refused = shows.refused }
fate_rested number name said course IsAwaited c known shows = shows
fate_rested number name said course Useless c known shows = shows
fate_rested number name said course (Joins id plain) c known shows = shows
fate_rested number name said course (Passes x) c known shows = shows
fate_rested number name said course TooWide c known shows = shows

open_rested : (number : ℕ → ℕ) (name : Bytes) (seat : Seat) (c : Client) (awaited : Option SeatShared) (known : Option Shared) → ShowsOpen number name [] seat c → option_map shared_of awaited ≡ known
    → ShowsOpen number name [] (waiting_on awaited seat) (record c { waits_on = known; is_new = false })
open_rested number name seat c awaited known live same = record {
  hung_up = live.hung_up;
  mark = live.mark;
  heard = live.heard;
  body = live.body;
  over = live.over;
  front = live.front;
  body_left = live.body_left;
  index = live.index;
  stage = live.stage;
  waits_on = same;
  fate = fate_rested number name seat.client.reply seat.course seat.brought c known live.fate;
  asked = live.asked;
  piped = live.piped;
  given_up = live.given_up;
  interim = live.interim;
  before_body = live.before_body;
  closes = live.closes;
}

seat_rested : (number : ℕ → ℕ) (l : Leaving) (peers : List Peer) (p : Turn) (s : State) (seat : Seat) (c : Client) → ShowsTurn number l peers p s → ShowsSeat number p.name.items [] seat c → (c.is_closing ≡ false → IsReady number p.cache s.next_instance seat)
    → ShowsSeat number p.name.items [] (rested_seat p seat) (rested_client s c)
seat_rested number l peers p s seat c shows seen ready = record {
  number = seen.number;
  closing = seen.closing;
  going = λ going. open_rested number p.name.items seat c (awaited_by p seat) (awaited_by_law s c) (seen.going going) (awaited_same number l peers p s p.name.items seat c shows seen going (ready going));
}

-- one that is silent waits as it did
not_so : (b : Bool) → not b ≡ true → b ≡ false
not_so false is = refl
not_so true is = absurd (cc is)

silent_second : (a b c d : Bool) → (a && b && c && d) ≡ true → b ≡ true
silent_second true true c d is = refl
silent_second true false c d is = absurd (cc is)
silent_second false b c d is = absurd (cc is)

none_shared : (undecided there shared : Bool) → there ≡ false → (elim undecided as (λ t. Bool) [ true ↦ there && shared | false ↦ false ]) ≡ false
none_shared true there shared isnt = ap (λ (b : Bool). b && shared) isnt
none_shared false there shared isnt = refl

silent_rested : (number : ℕ → ℕ) (name : Bytes) (s : State) (seat : Seat) (c : Client) → ShowsSeat number name [] seat c → is_silent seat ≡ true → ShowsSeat number name [] seat (rested_client s c)
silent_rested number name s seat c seen silent = record {
  number = seen.number;
  closing = seen.closing;
  going = λ going. open_rested number name seat c seat.waits_on (awaited_by_law s c) (seen.going going) (same (seen.going going));
}
  where
    same : ShowsOpen number name [] seat c → option_map shared_of seat.waits_on ≡ awaited_by_law s c
    same live =
        let none : has_request c.front ≡ false =
        sym (there_same seat.front c.front live.front) ∙ not_so (is_there_in seat.front) (silent_second (is_undecided_in seat.stage) (not (is_there_in seat.front)) (not seat.has_hung_up) (not seat.is_closing) silent) in
        let alone : shared_with_law s c ≡ None =
        ap (λ (b : Bool). shared_law s.clock b (shared_by_law s c)) (none_shared (is_undecided c.stage) (has_request c.front) (has_by_law s c) none) in
        live.waits_on ∙ by c.waits_on alone
      where
        by : (o : Option Shared) → shared_with_law s c ≡ None → o ≡ awaited_law s c o
        by None alone = sym alone
        by (Some w) alone = refl

-- ---- those at these places

at_set : (i j : ℕ) (seats : List Seat) (old new : Seat) (b : Bool) → slice_get seats i ≡ Some old → (i == j) ≡ b → slice_get (slice_set seats i new) j ≡ cond b (Some new) (slice_get seats j)
at_set i j [] old new b here is = absurd (none_some here)
at_set zero zero (first ∷ seats) old new true here is = refl
at_set zero zero (first ∷ seats) old new false here is = absurd (cc is)
at_set zero (suc j) (first ∷ seats) old new true here is = absurd (let same : zero ≡ suc j = is_same zero (suc j) is in omega (arith, same))
at_set zero (suc j) (first ∷ seats) old new false here is = refl
at_set (suc i) zero (first ∷ seats) old new true here is = absurd (let same : suc i ≡ zero = is_same (suc i) zero is in omega (arith, same))
at_set (suc i) zero (first ∷ seats) old new false here is = refl
at_set (suc i) (suc j) (first ∷ seats) old new b here is = at_set i j seats old new b here (one_less i j b is)
  where
    one_less : (i j : ℕ) (b : Bool) → (suc i == suc j) ≡ b → (i == j) ≡ b
    one_less i j b is = grind (arith, nat_tests, is)

-- rested once, or not at all
abbrev rested_at : (Seat → Seat) → Bool → Option Seat → Option Seat
rested_at f b o = cond b (option_map f o) o

at_changed : (i j : ℕ) (f : Seat → Seat) (seats : List Seat) → slice_get (changed_at i f seats) j ≡ rested_at f (i == j) (slice_get seats j)
at_changed i j f seats = by (slice_get seats i) refl
  where
    there : (b : Bool) (old : Seat) → (i == j) ≡ b → slice_get seats i ≡ Some old → cond b (Some (f old)) (slice_get seats j) ≡ rested_at f b (slice_get seats j)
    there true old is here = sym (ap (λ (o : Option Seat). option_map f o) (ap (λ (k : ℕ). slice_get seats k) (sym (is_same i j is)) ∙ here))
    there false old is here = refl

    nowhere : (b : Bool) → (i == j) ≡ b → slice_get seats i ≡ None → slice_get seats j ≡ rested_at f b (slice_get seats j)
    nowhere true is none =
        let at_j : slice_get seats j ≡ None = ap (λ (k : ℕ). slice_get seats k) (sym (is_same i j is)) ∙ none in
        at_j ∙ sym (ap (λ (o : Option Seat). option_map f o) at_j)
    nowhere false is none = refl

    by : (o : Option Seat) → slice_get seats i ≡ o → slice_get (elim o as (λ t. List Seat) [ None ↦ seats | Some seat ↦ slice_set seats i (f seat) ]) j ≡ rested_at f (i == j) (slice_get seats j)
    by None none = nowhere (i == j) refl none
    by (Some old) here = at_set i j seats old (f old) (i == j) here refl ∙ there (i == j) old refl here

at_rested : (p : Turn) (next : ℕ) (is : List ℕ) (low : ℕ) (seats : List Seat) (j : ℕ) → AreGiven low next is → slice_get (all_rested p is seats) j ≡ rested_at (rested_seat p) (has_number j is) (slice_get seats j)
at_rested p next [] low seats j given = refl
at_rested p next (i ∷ is) low seats j given =
    at_rested p next is (i + 1) (changed_at i (rested_seat p) seats) j given.1
    ∙ ap (λ (o : Option Seat). rested_at (rested_seat p) (has_number j is) o) (at_changed i j (rested_seat p) seats)
    ∙ by (i == j) (has_number j is) (λ same. above (i + 1) next j is given.1 (let e : i ≡ j = is_same i j same in omega (arith, e)))
  where
    -- none is rested twice
    by : (b c : Bool) → (b ≡ true → c ≡ false) → rested_at (rested_seat p) c (rested_at (rested_seat p) b (slice_get seats j)) ≡ rested_at (rested_seat p) (b || c) (slice_get seats j)
    by true true none = absurd (let both : true ≡ false = none refl in cc both)
    by true false none = refl
    by false c none = refl

changed_numbers : (i : ℕ) (p : Turn) (seats : List Seat) → numbers_of (changed_at i (rested_seat p) seats) ≡ numbers_of seats
changed_numbers i p seats = by (slice_get seats i) refl
  where
    by : (o : Option Seat) → slice_get seats i ≡ o → numbers_of (elim o as (λ t. List Seat) [ None ↦ seats | Some seat ↦ slice_set seats i (rested_seat p seat) ]) ≡ numbers_of seats
    by None none = refl
    by (Some seat) here = numbers_set i seats seat (rested_seat p seat) here refl

rested_numbers : (p : Turn) (is : List ℕ) (seats : List Seat) → numbers_of (all_rested p is seats) ≡ numbers_of seats
rested_numbers p [] seats = refl
rested_numbers p (i ∷ is) seats = rested_numbers p is (changed_at i (rested_seat p) seats) ∙ changed_numbers i p seats

-- ---- all of them

as_many : (seats : List Seat) → length (numbers_of seats) ≡ length seats
as_many [] = refl
as_many (seat ∷ seats) = ap suc (as_many seats)

shown_by : (number : ℕ → ℕ) (name : Bytes) (f : Client → Client) (news : List Seat) (cs : List Client) → length news ≡ length cs
    → ((j : ℕ) (new : Seat) (c : Client) → slice_get news j ≡ Some new → slice_get cs j ≡ Some c → ShowsSeat number name [] new (f c)) → AreShown number name [] news (map f cs)
shown_by number name f [] [] same each = tt
shown_by number name f [] (c ∷ cs) same each = absurd (omega (arith, same))
shown_by number name f (new ∷ news) [] same each = absurd (omega (arith, same))
shown_by number name f (new ∷ news) (c ∷ cs) same each = (each 0 new c refl refl, shown_by number name f news cs (omega (arith, same)) (λ j other d here there. each (suc j) other d here there))

module _ (number : ℕ → ℕ) (l : Leaving) (peers : List Peer) (p : Turn) (s : State) (shows : ShowsTurn number l peers p s) (loud : AreLoud p) (ready : AreReady number p.cache s.next_instance p.seats.items) where
  as_rested : (j : ℕ) (b : Bool) (one : IsShownAt number p.name.items p.seats.items s.clients j) (new : Seat) → has_number j p.awake.items ≡ b → rested_at (rested_seat p) b (Some one.seat) ≡ Some new → ShowsSeat number p.name.items [] new (rested_client s one.client)
  as_rested j true one new is its =
      subst (λ (x : Seat). ShowsSeat number p.name.items [] x (rested_client s one.client)) (some_is (rested_seat p one.seat) new its)
      (seat_rested number l peers p s one.seat one.client shows one.shows (λ going. ready j one.seat one.here (one.shows.closing ∙ going)))
  as_rested j false one new is its =
      subst (λ (x : Seat). ShowsSeat number p.name.items [] x (rested_client s one.client)) (some_is one.seat new its)
      (silent_rested number p.name.items s one.seat one.client one.shows (loud.others j one.seat one.here is))

  clients_rested : AreShown number p.name.items [] (all_rested p p.awake.items p.seats.items) (map (rested_client s) s.clients)
  clients_rested =
      shown_by number p.name.items (rested_client s) (all_rested p p.awake.items p.seats.items) s.clients
      (sym (as_many (all_rested p p.awake.items p.seats.items)) ∙ ap (λ (ns : List ℕ). length ns) (rested_numbers p p.awake.items p.seats.items) ∙ as_many p.seats.items
      ∙ same_length number p.name.items p.seats.items s.clients shows.steps.shows.clients)
      (λ j new c here there.
      let one : IsShownAt number p.name.items p.seats.items s.clients j = client_shown number p.name.items p.seats.items s.clients j c shows.steps.shows.clients there in
      subst (λ (d : Client). ShowsSeat number p.name.items [] new (rested_client s d)) (some_is one.client c (sym one.there ∙ there))
      (as_rested j (has_number j p.awake.items) one new refl
      (ap (λ (o : Option Seat). rested_at (rested_seat p) (has_number j p.awake.items) o) (sym one.here) ∙ sym (at_rested p (length p.seats.items) p.awake.items 0 p.seats.items j loud.order) ∙ here)))

  state_rested : ShowsState number p.name.items [] l (whole (with_seats (all_rested p p.awake.items p.seats.items) p) peers) (with_rested s)
  state_rested = record {
    clients = clients_rested;
    exchanges = flow_frames number l p.flow s shows.steps.shows.exchanges l (with_rested s) (record { exchanges = refl; next = refl; lines = λ m. refl });
    table =
        frames_of number p.cache s shows.steps.shows.table p.cache (with_rested s) (record { instances = refl; lives = refl; chunks = refl; extents = refl })
        (record { instances = refl; made = the_same s.next_instance; chunks = refl; followers = λ id. count_mapped_same (follows id) (rested_client s) s.clients (λ c. refl); kept = λ x. refl });
    conns = frames s (with_rested s) peers s.conns (all_as s (with_rested s) (λ m. itself (exchange s m)) s.conns) shows.steps.shows.conns;
  }

  steps_rested : ShowsSteps number p.name.items l peers (with_seats (all_rested p p.awake.items p.seats.items) p) (with_rested s)
  steps_rested = record {
    shows = state_rested;
    order = subst (λ (ns : List ℕ). AreInOrder ns) (sym (rested_numbers p p.awake.items p.seats.items)) shows.steps.order;
    told = shows.steps.told;
    refused = shows.steps.refused;
  }

pub rests_all : RestingIsTheLaws
rests_all number l peers p q s shows loud ready has =
    turn_with number l peers p q s (with_rested s) (all_rested p p.awake.items p.seats.items) shows has (record { settings = refl; clock = refl; ticked = refl; stopped = refl }) (steps_rested number l peers p s shows loud ready)
