-- Which clients are read and written to at a wait.
use Rattle.std.proofs.Common.{arith, ◌≡◌, ◌<◌, refl, sym, subst, ap, ap₂, ◌∙◌, ℕ, zero, suc, ◌-◌, Bool, true, false, not, ◌&&◌, ◌||◌, ◌==◌, cond, nat_lt, List, [], ◌∷◌, length, filter, Option, Some, None}
use Rattle.std.specs.Prelude.{get_or, slice_get}
use Rattle.std.specs.List.{list_all, list_any}
use Rattle.std.proofs.lemmas.Bool.Decides.{nat_tests}
use Rattle.pp_cache_law.proofs.Numbers.{same_test}
use Rattle.pp_turns_law.proofs.Drying.{dry}
use Rattle.pp_flow_law.specs.Tables.{Leaving}
use Rattle.pp_law.specs.Asking.{has_room}
use Rattle.pp_law.specs.Connections.{is_client, is_conn}
use Rattle.pp_law.specs.Lists.{Bytes, has_number, is_some_with}
use Rattle.pp_law.specs.Offers.{has_to_say}
use Rattle.pp_law.specs.Served.{has_to_ask, may_read, may_write}
use Rattle.pp_law.specs.State.{State, Client, Reply, Stage, Undecided, Waiting, Passing, Answering}
use Rattle.pp_law.specs.Table.{Next, is_next_held, next_of}
use Rattle.pp_client.specs.declared.interim.Interim.{Interim}
use Rattle.pp_client.specs.declared.interim.Interim.TheVariants.{Unasked, Left}
use Rattle.pp_client.specs.Replies.{Reply as Said}
use Rattle.pp_peers.specs.declared.peers.Peer.{Peer}
use Rattle.pp_seats.specs.Heads.{is_there_in}
use Rattle.pp_seats.specs.Seats.{is_silent, is_undecided_in}
use Rattle.pp_seats.specs.declared.seat.Seat.{Seat}
use Rattle.pp_seats.specs.declared.seat.Stage.{Stage as SeatStage}
use Rattle.pp_seats.specs.declared.seat.Stage.TheVariants.{Undecided as IsUndecided, Waiting as IsWaiting, Passing as IsPassing, Answering as IsAnswering}
use Rattle.pp_seats_law.specs.Clients.{AreShown, IsAt, IsNowhere}
use Rattle.pp_seats_law.specs.Replies.{ShowsInterim, ShowsStage}
use Rattle.pp_seats_law.specs.Seats.{ShowsOpen}
use Rattle.pp_state.proofs.SeatsLemmas.{found-at}
use Rattle.pp_due.specs.Due.{is_dry}
use Rattle.pp_state.specs.Ends.{AreInOrder, numbers_of}
use Rattle.pp_state.specs.declared.state.State.{State as Turn}
use Rattle.pp_states_law.proofs.Places.{at_place}
use Rattle.pp_text.specs.Bytes.{is_empty}
use Rattle.pp_turns_law.proofs.Asleep.{silent_first}
use Rattle.pp_turns_law.proofs.Brought.{part_by}
use Rattle.pp_turns_law.proofs.First.{IsShownAt, client_shown, seat_shown}
use Rattle.pp_turns_law.specs.Wants.{AcceptsAreTheLaws, NoMoreIsRead, NoMoreIsWritten, ReadsAreTheLaws, ShowsEnd, WritesAreTheLaws, is_read, is_written, numbers_with}

none_some : {A : Type 0} {x : A} → None ≡ Some x → ⊥
none_some e = absurd (cc e)

same_some : {A : Type 0} {x y : A} → Some x ≡ Some y → x ≡ y
same_some e = cc e

-- ---- a number among those of whom a test holds

nowhere : (n : ℕ) (seats : List Seat) (test : Seat → Bool) → IsNowhere n seats → has_number n (numbers_with test seats) ≡ false
nowhere n [] test none = refl
nowhere n (seat ∷ seats) test none = by (test seat) (nowhere n seats test none.1)
  where
    by : (b : Bool) → has_number n (numbers_with test seats) ≡ false → has_number n (numbers_of (cond b (seat ∷ filter test seats) (filter test seats))) ≡ false
    by true rest = ap (λ (b : Bool). b || has_number n (numbers_with test seats)) none.0 ∙ rest
    by false rest = rest

at_number : (n i : ℕ) (seats : List Seat) (test : Seat → Bool) (seat : Seat) → IsAt n i seats → slice_get seats i ≡ Some seat → has_number n (numbers_with test seats) ≡ test seat
at_number n i [] test seat at there = absurd at
at_number n zero (first ∷ seats) test seat at there = by (test first) refl ∙ ap test (same_some there)
  where
    by : (b : Bool) → test first ≡ b → has_number n (numbers_of (cond b (first ∷ filter test seats) (filter test seats))) ≡ b
    by true is = ap (λ (b : Bool). b || has_number n (numbers_with test seats)) at.0
    by false is = nowhere n seats test at.1
at_number n (suc i) (first ∷ seats) test seat at there = by (test first) (at_number n i seats test seat at.1 there)
  where
    by : (b : Bool) → has_number n (numbers_with test seats) ≡ test seat → has_number n (numbers_of (cond b (first ∷ filter test seats) (filter test seats))) ≡ test seat
    by true rest = ap (λ (b : Bool). b || has_number n (numbers_with test seats)) at.0 ∙ rest
    by false rest = rest

within : (seats : List Seat) (i : ℕ) (seat : Seat) → slice_get seats i ≡ Some seat → i < length (numbers_of seats)
within [] i seat there = absurd (none_some there)
within (first ∷ seats) zero seat there = omega arith
within (first ∷ seats) (suc i) seat there = omega (arith, within seats i seat there)

number_at : (seats : List Seat) (i : ℕ) (seat : Seat) → slice_get seats i ≡ Some seat → get_or (numbers_of seats) i 0 ≡ seat.client.id
number_at [] i seat there = absurd (none_some there)
number_at (first ∷ seats) zero seat there = ap (λ (x : Seat). x.client.id) (same_some there)
number_at (first ∷ seats) (suc i) seat there = number_at seats i seat there

its_number : (seats : List Seat) (test : Seat → Bool) (i : ℕ) (seat : Seat) → AreInOrder (numbers_of seats) → slice_get seats i ≡ Some seat → has_number seat.client.id (numbers_with test seats) ≡ test seat
its_number seats test i seat order there =
    at_number seat.client.id i seats test seat
    (at_place seat.client.id i seats order (found-at seat.client.id (numbers_of seats) i order (within seats i seat there) (number_at seats i seat there))) there

-- ---- the tests

room_same : (a b : ℕ) → a ≡ b → nat_lt 0 (16384 - a) ≡ nat_lt b 16384
room_same a b same = grind (arith, nat_tests, same)

read_same : (number : ℕ → ℕ) (name : Bytes) (seat : Seat) (c : Client) → ShowsOpen number name [] seat c → is_read seat ≡ (not c.has_hung_up && has_room c)
read_same number name seat c live =
    ap₂ (λ (hung room : Bool). not hung && room) live.hung_up (room_same (length seat.client.heard.rest) (length c.heard) (ap (λ (rest : Bytes). length rest) live.heard.behind))

interim_none : (interim : Interim) (left : Bytes) → interim ≡ Unasked → ShowsInterim interim left → left ≡ []
interim_none Unasked left is shows = shows
interim_none (Left n) left is shows = absurd (cc is)

unasked : (number : ℕ → ℕ) (said : Said) (stage : SeatStage) (known : Stage) → ShowsStage number said stage known → is_undecided_in stage ≡ true → (known ≡ Undecided) × (said.interim ≡ Unasked)
unasked number said IsUndecided Undecided shows is = (refl, shows.1)
unasked number said IsWaiting known shows is = absurd (cc is)
unasked number said IsPassing known shows is = absurd (cc is)
unasked number said (IsAnswering a) known shows is = absurd (cc is)
unasked number said stage known shows is = absurd shows

says_at : State → Client → Bytes → Option Reply → Option Next → Bool
says_at s c left o next =
    not (is_empty (elim (is_empty left) as (λ b. Bytes) [ false ↦ left | true ↦ elim o as (λ b. Bytes) [ None ↦ [] | Some r ↦ part_by s c next r ] ]))
    || ((is_empty left && is_some_with (λ (r : Reply). r.has_begun && is_empty r.head_left) o) && is_some_with (is_next_held s) next)

-- nothing is left to say to one that is silent
silent_none : (number : ℕ → ℕ) (name : Bytes) (s : State) (seat : Seat) (c : Client) → ShowsOpen number name [] seat c → is_silent seat ≡ true → has_to_say s c ≡ false
unfolding says_at
silent_none number name s seat c live silent =
    let its : (c.stage ≡ Undecided) × (seat.client.reply.interim ≡ Unasked) =
    unasked number seat.client.reply seat.stage c.stage live.stage (silent_first (is_undecided_in seat.stage) (not (is_there_in seat.front)) (not seat.has_hung_up) (not seat.is_closing) silent) in
    ap₂ (λ (left : Bytes) (stage : Stage). says_at s c left (elim stage as (λ b. Option Reply) [ Undecided ↦ None | Waiting ↦ None | Passing ↦ None | Answering r ↦ Some r ]) (next_of s c))
    (interim_none seat.client.reply.interim c.interim_left its.1 live.interim) its.0

written_by : (silent dried says : Bool) → (silent ≡ true → says ≡ false) → dried ≡ not says → (not silent && not dried) ≡ says
written_by true dried says none same = sym (none refl)
written_by false true true none same = absurd (cc same)
written_by false true false none same = refl
written_by false false true none same = refl
written_by false false false none same = absurd (cc same)

module _ (number : ℕ → ℕ) (l : Leaving) (peers : List Peer) (p : Turn) (s : State) (end : ShowsEnd number l peers p s) where
  one_at : (i : ℕ) (c : Client) → slice_get s.clients i ≡ Some c → IsShownAt number p.name.items p.seats.items s.clients i
  one_at i c there = client_shown number p.name.items p.seats.items s.clients i c end.turn.steps.shows.clients there

  live_of : (i : ℕ) (one : IsShownAt number p.name.items p.seats.items s.clients i) → ShowsOpen number p.name.items [] one.seat one.client
  live_of i one = one.shows.going (end.going i one.client one.there)

  written_same : (i : ℕ) (one : IsShownAt number p.name.items p.seats.items s.clients i) → is_written p one.seat ≡ has_to_say s one.client
  written_same i one =
      written_by (is_silent one.seat) (is_dry p one.seat) (has_to_say s one.client) (λ silent. silent_none number p.name.items s one.seat one.client (live_of i one) silent)
      (dry number l peers p s p.name.items one.seat one.client end.turn one.shows (end.going i one.client one.there) (end.follows i one.seat one.here))

  -- ---- each client

  by_client : (P : Client → Bool) (test : Seat → Bool) → ((i : ℕ) (one : IsShownAt number p.name.items p.seats.items s.clients i) → test one.seat ≡ P one.client)
      → (i : ℕ) (c : Client) → slice_get s.clients i ≡ Some c → has_number c.number (numbers_with test p.seats.items) ≡ P c
  by_client P test same i c there =
      let one : IsShownAt number p.name.items p.seats.items s.clients i = one_at i c there in
      let its : one.client ≡ c = same_some (sym one.there ∙ there) in
      subst (λ (d : Client). has_number d.number (numbers_with test p.seats.items) ≡ P d) its
      (ap (λ (n : ℕ). has_number n (numbers_with test p.seats.items)) (sym one.shows.number) ∙ its_number p.seats.items test i one.seat end.turn.steps.order one.here ∙ same i one)

  -- ---- and no other

  all_in : (P : ℕ → Bool) (test : Seat → Bool) (seats : List Seat) → ((i : ℕ) (seat : Seat) → slice_get seats i ≡ Some seat → test seat ≡ true → P seat.client.id ≡ true) → list_all P (numbers_with test seats) ≡ true
  all_in P test [] each = refl
  all_in P test (seat ∷ seats) each = by (test seat) refl (all_in P test seats (λ i other there is. each (suc i) other there is))
    where
      by : (b : Bool) → test seat ≡ b → list_all P (numbers_with test seats) ≡ true → list_all P (numbers_of (cond b (seat ∷ filter test seats) (filter test seats))) ≡ true
      by true is rest = ap₂ (λ (a b : Bool). a && b) (each 0 seat refl is) rest
      by false is rest = rest

  any_at : (f : Client → Bool) (cs : List Client) (i : ℕ) (c : Client) → slice_get cs i ≡ Some c → f c ≡ true → list_any f cs ≡ true
  any_at f [] i c there is = absurd (none_some there)
  any_at f (d ∷ cs) zero c there is = ap (λ (b : Bool). b || list_any f cs) (ap f (same_some there) ∙ is)
  any_at f (d ∷ cs) (suc i) c there is = either (f d) (any_at f cs i c there is)
    where
      either : (a : Bool) → list_any f cs ≡ true → (a || list_any f cs) ≡ true
      either true rest = refl
      either false rest = rest

  one_of : (i : ℕ) (seat : Seat) → slice_get p.seats.items i ≡ Some seat → IsShownAt number p.name.items p.seats.items s.clients i
  one_of i seat there = seat_shown number p.name.items p.seats.items s.clients i seat end.turn.steps.shows.clients there

  may : (i : ℕ) (seat : Seat) (f : ℕ → Client → Bool) (Q : ℕ → Bool) → slice_get p.seats.items i ≡ Some seat → ((one : IsShownAt number p.name.items p.seats.items s.clients i) → one.seat ≡ seat → f one.client.number one.client ≡ true)
      → (list_any (f seat.client.id) s.clients || Q seat.client.id) ≡ true
  may i seat f Q there its =
      let one : IsShownAt number p.name.items p.seats.items s.clients i = one_of i seat there in
      let same : one.seat ≡ seat = same_some (sym one.here ∙ there) in
      let known : one.client.number ≡ seat.client.id = sym one.shows.number ∙ ap (λ (x : Seat). x.client.id) same in
      ap (λ (b : Bool). b || Q seat.client.id) (any_at (f seat.client.id) s.clients i one.client one.there (subst (λ (n : ℕ). f n one.client ≡ true) known (its one same)))

  is_itself : (n : ℕ) (b : Bool) → b ≡ true → ((n == n) && b) ≡ true
  is_itself n b is = ap₂ (λ (x y : Bool). x && y) (same_test n n refl) is

  is_itself_too : (n : ℕ) (b c : Bool) → (b && c) ≡ true → ((n == n) && b && c) ≡ true
  is_itself_too n b c is = ap (λ (x : Bool). x && b && c) (same_test n n refl) ∙ is

pub writes : WritesAreTheLaws
writes number l peers p s end i c there = by_client number l peers p s end (has_to_say s) (is_written p) (λ j one. written_same number l peers p s end j one) i c there

pub reads : ReadsAreTheLaws
reads number l peers p s end i c there =
    by_client number l peers p s end (λ d. not d.has_hung_up && has_room d) is_read (λ j one. read_same number p.name.items one.seat one.client (live_of number l peers p s end j one)) i c there

pub same_length : (number : ℕ → ℕ) (name : Bytes) (seats : List Seat) (cs : List Client) → AreShown number name [] seats cs → length seats ≡ length cs
same_length number name [] [] shown = refl
same_length number name [] (c ∷ cs) shown = absurd shown
same_length number name (seat ∷ seats) [] shown = absurd shown
same_length number name (seat ∷ seats) (c ∷ cs) shown = ap suc (same_length number name seats cs shown.1)

pub accepting : AcceptsAreTheLaws
accepting number l peers p s end = ap (λ (n : ℕ). nat_lt n 256) (same_length number p.name.items p.seats.items s.clients end.turn.steps.shows.clients)

pub no_more_written : NoMoreIsWritten
no_more_written number l peers p s end =
    all_in number l peers p s end (may_write s) (is_written p) p.seats.items
    (λ i seat there is. may number l peers p s end i seat (λ n c. is_client n c && has_to_say s c) (λ n. list_any (λ k. is_conn n k && k.is_reached && has_to_ask s k) s.conns) there
    (λ one same. is_itself number l peers p s end one.client.number (has_to_say s one.client) (sym (written_same number l peers p s end i one) ∙ ap (λ (x : Seat). is_written p x) same ∙ is)))

pub no_more_read : NoMoreIsRead
no_more_read number l peers p s end =
    all_in number l peers p s end (may_read s) is_read p.seats.items
    (λ i seat there is. may number l peers p s end i seat (λ n c. is_client n c && not c.has_hung_up && has_room c) (λ n. list_any (λ k. is_conn n k && k.is_reached) s.conns) there
    (λ one same. is_itself_too number l peers p s end one.client.number (not one.client.has_hung_up) (has_room one.client)
    (sym (read_same number p.name.items one.seat one.client (live_of number l peers p s end i one)) ∙ ap (λ (x : Seat). is_read x) same ∙ is)))
