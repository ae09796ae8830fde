-- To whom there is something to say is written to, and nobody else of the clients.
use Rattle.std.proofs.Common.{◌≡◌, ◌≤◌, ◌<◌, refl, sym, ap, ap₂, ◌∙◌, ℕ, zero, suc, Bool, true, false, not, ◌&&◌, ◌||◌, ◌==◌, cond, filter, length, List, [], ◌∷◌, Option, Some, None, arith}
use Rattle.std.specs.List.{list_any}
use Rattle.std.specs.Prelude.{get_or, slice_get}
use Rattle.pp_cache_law.proofs.Numbers.{is_same, some_is}
use Rattle.pp_due.specs.Due.{is_dry}
use Rattle.pp_due.specs.Waits.{all_written, is_written}
use Rattle.pp_flow_law.proofs.Entries.{other_way}
use Rattle.pp_flow_law.specs.Tables.{none_leaves}
use Rattle.pp_law.specs.Lists.{has_number}
use Rattle.pp_law.specs.State.{Client}
use Rattle.pp_peers.specs.declared.peers.Peer.{Peer}
use Rattle.pp_seats.specs.declared.seat.Seat.{Seat}
use Rattle.pp_state.proofs.SeatsLemmas.{found-at}
use Rattle.pp_state.specs.Ends.{AreInOrder, numbers_of, parts, place_of}
use Rattle.pp_state.specs.declared.state.State.{State as Turn}
use Rattle.pp_states_law.proofs.Lines.{same_itself}
use Rattle.pp_turns_law.proofs.First.{IsShownAt, client_shown}
use Rattle.pp_turns_law.proofs.Wanted.{writes}
use Rattle.pp_turns_law.specs.Firsts.{AreAwake}
use Rattle.pp_turns_law.specs.Wants.{numbers_with}
use Rattle.pp_waits_law.proofs.Like.{none_some}
use Rattle.pp_waits_law.proofs.Rising.{false_true}
use Rattle.pp_waits_law.proofs.Waited.{seat_out}
use Rattle.pp_waits_law.proofs.Wanted.{and_off, end_d, few_written, less_room, seat_number, seat_written, written_is}
use Rattle.pp_waits_law.proofs.Written.{chosen, or_none, written}
use Rattle.pp_waits_law.specs.Wanted.{SaysAreWanted}
use Rattle.pp_wants.specs.Awaited.{is_asked}

-- ---- one number, one place

within : (seats : List Seat) (i : ℕ) (seat : Seat) → slice_get seats i ≡ Some seat → i < length (numbers_of seats)
within [] i seat there = absurd (none_some there)
within (first ∷ seats) zero seat there = omega (arith)
within (first ∷ seats) (suc i) seat there = omega (arith, within seats i seat there)

number_at : (seats : List Seat) (i : ℕ) (seat : Seat) → slice_get seats i ≡ Some seat → get_or (numbers_of seats) i 0 ≡ seat.client.id
number_at [] i seat there = absurd (none_some there)
number_at (first ∷ seats) zero seat there = ap (λ (x : Seat). x.client.id) (some_is first seat there)
number_at (first ∷ seats) (suc i) seat there = number_at seats i seat there

place_is : (seats : List Seat) (i : ℕ) (seat : Seat) (n : ℕ) → AreInOrder (numbers_of seats) → slice_get seats i ≡ Some seat → seat.client.id ≡ n → place_of n (numbers_of seats) ≡ Some i
place_is seats i seat n order here is = found-at n (numbers_of seats) i order (within seats i seat here) (number_at seats i seat here ∙ is)

same_seat : (seats : List Seat) (i j : ℕ) (a b : Seat) → AreInOrder (numbers_of seats) → slice_get seats i ≡ Some a → slice_get seats j ≡ Some b → b.client.id ≡ a.client.id → (i ≡ j) × (b ≡ a)
same_seat seats i j a b order here there same =
    let place : i ≡ j = some_is i j (sym (place_is seats i a a.client.id order here refl) ∙ place_is seats j b a.client.id order there same) in
    (place, some_is b a (sym there ∙ ap (λ (k : ℕ). slice_get seats k) (sym place) ∙ here))

-- ---- a test of one of them

numbers_any : (n : ℕ) (test : Seat → Bool) (seats : List Seat) → has_number n (numbers_of (filter test seats)) ≡ list_any (λ seat. test seat && (seat.client.id == n)) seats
numbers_any n test [] = refl
numbers_any n test (seat ∷ seats) = by (test seat) (numbers_any n test seats)
  where
    by : (b : Bool) → has_number n (numbers_of (filter test seats)) ≡ list_any (λ seat. test seat && (seat.client.id == n)) seats
        → has_number n (numbers_of (cond b (seat ∷ filter test seats) (filter test seats))) ≡ ((b && (seat.client.id == n)) || list_any (λ seat. test seat && (seat.client.id == n)) seats)
    by true rest = ap (λ (b : Bool). (seat.client.id == n) || b) rest
    by false rest = rest

pub its_test : (test : Seat → Bool) (seats : List Seat) (i : ℕ) (seat : Seat) → AreInOrder (numbers_of seats) → slice_get seats i ≡ Some seat → has_number seat.client.id (numbers_of (filter test seats)) ≡ test seat
its_test test seats i seat order here =
    numbers_any seat.client.id test seats
    ∙ chosen test (λ (x : Seat). x.client.id) seat.client.id (test seat) seats i seat here (same_itself seat.client.id)
    (λ j y at is. ap test (same_seat seats i j seat y order here at (is_same y.client.id seat.client.id is)).1)

-- ---- of those that are looked at

any_has : (f : ℕ → Bool) (i : ℕ) (ns : List ℕ) → has_number i ns ≡ true → f i ≡ true → list_any f ns ≡ true
any_has f i [] has is = has
any_has f i (n ∷ ns) has is = by (n == i) refl has (λ there. any_has f i ns there is)
  where
    or_all : (a : Bool) → (a || true) ≡ true
    or_all true = refl
    or_all false = refl

    by : (b : Bool) → (n == i) ≡ b → (b || has_number i ns) ≡ true → (has_number i ns ≡ true → list_any f ns ≡ true) → (f n || list_any f ns) ≡ true
    by true same there rest = ap (λ (b : Bool). b || list_any f ns) (ap f (is_same n i same) ∙ is)
    by false same there rest = ap (λ (b : Bool). f n || b) (rest there) ∙ or_all (f n)

none_holds : (f : ℕ → Bool) (ns : List ℕ) → ((n : ℕ) → f n ≡ true → ⊥) → list_any f ns ≡ false
none_holds f [] none = refl
none_holds f (n ∷ ns) none = ap₂ (λ (a b : Bool). a || b) (by (f n) refl) (none_holds f ns none)
  where
    by : (b : Bool) → f n ≡ b → f n ≡ false
    by true is = absurd (none n is)
    by false is = is

both : (a b : Bool) → (a && b) ≡ true → (a ≡ true) × (b ≡ true)
both true true is = (refl, refl)
both true false is = absurd (cc is)
both false b is = absurd (cc is)

abbrev says_at : Turn → ℕ → ℕ → Bool
says_at q n j = seat_written q (slice_get q.seats.items j) && (seat_number (slice_get q.seats.items j) == n)

pub one_said : (q : Turn) (i : ℕ) (seat : Seat) → AreAwake q → AreInOrder (numbers_of q.seats.items) → length q.seats.items ≤ 320 → slice_get q.seats.items i ≡ Some seat → has_number seat.client.id (all_written q []) ≡ is_written q seat
one_said q i seat awake order room here = written_is seat.client.id q awake.order room ∙ by (is_written q seat) refl
  where
    its : says_at q seat.client.id i ≡ (is_written q seat && (seat.client.id == seat.client.id))
    its = ap (λ (o : Option Seat). seat_written q o && (seat_number o == seat.client.id)) here

    loud : is_written q seat ≡ true → (b : Bool) → has_number i q.awake.items ≡ b → has_number i q.awake.items ≡ true
    loud is true has = has
    loud is false out = absurd (false_true (ap (λ (b : Bool). not b && not (is_dry q seat)) (awake.others i seat here out).silent) is)

    holds : (o : Option Seat) (j : ℕ) → slice_get q.seats.items j ≡ o → (seat_written q o && (seat_number o == seat.client.id)) ≡ true → is_written q seat ≡ true
    holds None j at is = absurd (cc is)
    holds (Some other) j at is =
        let so : (is_written q other ≡ true) × ((other.client.id == seat.client.id) ≡ true) = both (is_written q other) (other.client.id == seat.client.id) is in
        ap (λ (x : Seat). is_written q x) (sym (same_seat q.seats.items i j seat other order here at (is_same other.client.id seat.client.id so.1)).1) ∙ so.0

    by : (b : Bool) → is_written q seat ≡ b → list_any (says_at q seat.client.id) q.awake.items ≡ b
    by true is = any_has (says_at q seat.client.id) i q.awake.items (loud is (has_number i q.awake.items) refl) (its ∙ ap₂ (λ (a b : Bool). a && b) is (same_itself seat.client.id))
    by false is = none_holds (says_at q seat.client.id) q.awake.items (λ j holding. false_true is (holds (slice_get q.seats.items j) j refl holding))

-- ---- and behind the origins

pub none_of : (f : Peer → Bool) (ps : List Peer) → ((j : ℕ) (y : Peer) → slice_get ps j ≡ Some y → f y ≡ false) → list_any f ps ≡ false
none_of f [] none = refl
none_of f (y ∷ ys) none = ap₂ (λ (a b : Bool). a || b) (none 0 y refl) (none_of f ys (λ j z at. none (suc j) z at))

pub says_wanted : SaysAreWanted
says_wanted number before w clients d e s may awaits i c at =
    ap (λ (ns : List ℕ). has_number c.number ns) (awaits.write may.stands.turn.steps.order)
    ∙ written (is_asked (parts d.state)) (λ (x : Peer). x.number) c.number d.peers (all_written d.state []) (few_written d.state (length d.peers) may.stands.awake.order may.room)
    ∙ ap (λ (b : Bool). has_number c.number (all_written d.state []) || b)
    (none_of (λ x. is_asked (parts d.state) x && (x.number == c.number)) d.peers (λ j y here. ap (λ (b : Bool). is_asked (parts d.state) y && b) (away j y here) ∙ and_off (is_asked (parts d.state) y)))
    ∙ or_none (has_number c.number (all_written d.state []))
    ∙ ap (λ (n : ℕ). has_number n (all_written d.state [])) (sym own)
    ∙ one_said d.state i one.seat may.stands.awake may.stands.turn.steps.order (less_room (length d.state.seats.items) (length d.peers) may.room) one.here
    ∙ sym (its_test (is_written d.state) d.state.seats.items i one.seat may.stands.turn.steps.order one.here)
    ∙ ap (λ (n : ℕ). has_number n (numbers_with (is_written d.state) d.state.seats.items)) own
    ∙ writes number none_leaves d.peers d.state s (end_d number before w clients d e s may awaits) i c at
  where
    one : IsShownAt number d.state.name.items d.state.seats.items s.clients i
    one = client_shown number d.state.name.items d.state.seats.items s.clients i c may.stands.turn.steps.shows.clients at

    own : one.seat.client.id ≡ c.number
    own = one.shows.number ∙ ap (λ (x : Client). x.number) (some_is one.client c (sym one.there ∙ at))

    away : (j : ℕ) (y : Peer) → slice_get d.peers j ≡ Some y → (y.number == c.number) ≡ false
    away j y here = other_way c.number y.number (ap (λ (n : ℕ). n == y.number) (sym own) ∙ seat_out y.number d.state.seats.items i one.seat (may.apart j y here).clients one.here)
