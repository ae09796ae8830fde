-- An origin is asked: the request waits for an exchange that begins, in the program as in the law.
use Rattle.std.proofs.Common.{◌≡◌, ◌≤◌, ◌<◌, refl, subst, ap, ap₂, ◌∙◌, ℕ, ◌+◌, Bool, true, false, ◌&&◌, not, ◌||◌, cond, nat_lt, find, length, List, [], ◌∷◌, ◌++◌, Some, None, Option, option_map, Ok, Err, arith}
use Rattle.std.proofs.lemmas.Bool.Decides.{nat_tests}
use Rattle.std.specs.Prelude.{is_some, slice_get, slice_set}
use Rattle.pp_ask.specs.declared.kind.AskKind.{AskKind}
use Rattle.pp_flow.specs.Changes.{Exchanges, changed, first_of, without}
use Rattle.pp_flow.specs.Entries.{begun_with, is_asked_by, is_number, nobodys}
use Rattle.pp_flow.specs.declared.entry.Aim.{Aim}
use Rattle.pp_flow.specs.declared.entry.Entry.{Entry}
use Rattle.pp_flow.specs.declared.errand.Errand.{Errand}
use Rattle.pp_flow_law.specs.Changes.{begun_by as flow_begun, left_by as flow_left}
use Rattle.pp_law.specs.Closing.{forsake, is_of, is_over, leave, left_alone}
use Rattle.pp_law.specs.Deciding.{add_exchange, begin_exchange}
use Rattle.pp_law.specs.Lists.{Bytes, change, is_some_with, is_this, without as without_any}
use Rattle.pp_law.specs.State.{State, Exchange}
use Rattle.pp_objects.specs.declared.id.ObjectId.{ObjectId}
use Rattle.pp_seats.specs.Decided.{asking, with_interim}
use Rattle.pp_seats.specs.Heads.{asked_in, owned_in}
use Rattle.pp_seats.specs.declared.key.Key.{Key}
use Rattle.pp_seats.specs.declared.seat.Seat.{Seat}
use Rattle.pp_take.specs.Deciding.{Ask, aim_for, asked_with, begun_at, begun_for, begun_of, exchange_begun, is_pass, may_ask}
use Rattle.pp_state.specs.Ends.{Parts, left_at_decision, left_source, on_seat, source_of}
use Rattle.pp_flow_law.specs.Tables.{Leaving, ShowsFlow}
use Rattle.pp_turns_law.proofs.Changed.{get_set}
use Rattle.pp_turns_law.proofs.Left.{left_is}
use Rattle.pp_turns_law.proofs.Quitting.{left_memory}
use Rattle.pp_turns_law.proofs.Refused.{quit, quit_front, quit_is, quit_number}
use Rattle.pp_turns_law.proofs.Sitting.{seat_again}

-- ---- there is room for another, also behind the one that is left

no_more : (n : ℕ) (xs : List Entry) → length (without n xs) ≤ length xs
no_more n [] = omega arith
no_more n (x ∷ xs) = by (is_number n x) (no_more n xs)
  where
    by : (b : Bool) → length (without n xs) ≤ length xs → length (cond b xs (x ∷ without n xs)) ≤ length (x ∷ xs)
    by true less = omega arith
    by false less = omega (arith, less)

as_many : (n : ℕ) (xs : List Entry) → length (changed n nobodys xs) ≡ length xs
as_many n [] = refl
as_many n (x ∷ xs) = by (is_number n x) (as_many n xs)
  where
    by : (b : Bool) → length (changed n nobodys xs) ≡ length xs → length (cond b (nobodys x ∷ xs) (x ∷ changed n nobodys xs)) ≡ length (x ∷ xs)
    by true same = refl
    by false same = omega (arith, same)

room_by : (a b c d n m : ℕ) → (nat_lt (a + b) 1024 && nat_lt n 18446744073709551615) ≡ true → c ≤ a → d ≤ b → m ≡ n → (nat_lt (c + d) 1024 && nat_lt m 18446744073709551615) ≡ true
room_by a b c d n m room one two same = grind (arith, nat_tests, room, one, two, same)

pub room_left : (c : ℕ) (f : Exchanges) → may_ask f ≡ true → may_ask (flow_left c f) ≡ true
room_left c f room = by (first_of (find (is_asked_by c) f.waiting) (find (is_asked_by c) f.placed))
  where
    at : (n : ℕ) (place : Option ℕ) → may_ask (elim place as (λ t. Exchanges) [
      | None ↦ record f { waiting = without n f.waiting; placed = without n f.placed }
      | Some k ↦ record f { waiting = changed n nobodys f.waiting; placed = changed n nobodys f.placed }
    ]) ≡ true
    at n None = room_by (length f.waiting) (length f.placed) (length (without n f.waiting)) (length (without n f.placed)) f.begun f.begun room (no_more n f.waiting) (no_more n f.placed) refl
    at n (Some k) =
        room_by (length f.waiting) (length f.placed) (length (changed n nobodys f.waiting)) (length (changed n nobodys f.placed)) f.begun f.begun room
        (omega (arith, as_many n f.waiting)) (omega (arith, as_many n f.placed)) refl

    by : (o : Option Entry) → may_ask (elim o as (λ t. Exchanges) [
      | None ↦ f
      | Some x ↦ elim x.exchange.place as (λ t. Exchanges) [
        | None ↦ record f { waiting = without x.exchange.number f.waiting; placed = without x.exchange.number f.placed }
        | Some k ↦ record f { waiting = changed x.exchange.number nobodys f.waiting; placed = changed x.exchange.number nobodys f.placed }
      ]
    ]) ≡ true
    by None = room
    by (Some x) = at x.exchange.number x.exchange.place

-- ---- the program's

begins_is : (o : Option Seat) (key : Key) (aim : Aim) (errand : Errand) (text : List ℕ) (f : Exchanges) (seat : Seat) → o ≡ Some seat → owned_in (asked_in seat.front) ≡ Some key → may_ask f ≡ true
    → begun_for o aim errand text f ≡ flow_begun seat.client.id key.text.items aim errand text f
begins_is None key aim errand text f seat is owned room = absurd (cc is)
begins_is (Some other) key aim errand text f seat is owned room =
    let same : other ≡ seat = cc is in
    ap (λ (s : Seat). begun_for (Some s) aim errand text f) same
    ∙ ap (λ (k : Option Key). begun_of k seat.client.id aim errand text f) owned
    ∙ ap (λ (b : Bool). elim b as (λ t. Exchanges) [ true ↦ flow_begun seat.client.id key.text.items aim errand text f | false ↦ f ]) room

asks_same : (passes : Bool) (o : Option ObjectId) (seat : Seat) → asking passes (quit o seat) ≡ asking passes (with_interim seat)
asks_same passes None seat = refl
asks_same passes (Some id) seat = refl

pub asked_is : (number : ℕ → ℕ) (l : Leaving) (p : Parts) (s : State) → ShowsFlow number l p.flow s → (i : ℕ) (passes : Bool) (aim : Aim) (errand : Errand) (text : List ℕ) (seat : Seat) (key : Key) → slice_get p.seats i ≡ Some seat
    → owned_in (asked_in seat.front) ≡ Some key → may_ask p.flow ≡ true
    → on_seat i (asking passes) (exchange_begun i aim errand text (left_source i (on_seat i with_interim p)))
    ≡ record p {
      seats = slice_set p.seats i (asking passes (with_interim seat));
      cache = left_memory (source_of seat) p.cache;
      flow = flow_begun seat.client.id key.text.items aim errand text (flow_left seat.client.id p.flow);
    }
unfolding exchange_begun
asked_is number l p s shows i passes aim errand text seat key here owned room =
    let o : Option ObjectId = source_of seat in
    let one : Seat = quit o seat in
    let first : Parts = record p { seats = slice_set p.seats i one; cache = left_memory o p.cache } in
    let there : slice_get first.seats i ≡ Some one = get_set i p.seats seat one here in
    let left : Parts = record first { flow = flow_left seat.client.id p.flow } in
    let leaves : left_at_decision i first ≡ left = left_is number l first s shows i one there ∙ ap (λ (n : ℕ). record first { flow = flow_left n p.flow }) (quit_number o seat) in
    let begun : Exchanges = flow_begun seat.client.id key.text.items aim errand text (flow_left seat.client.id p.flow) in
    let begins : begun_at i aim errand text left ≡ record first { flow = begun } =
    ap (λ (f : Exchanges). record first { flow = f }) (begins_is (slice_get first.seats i) key aim errand text (flow_left seat.client.id p.flow) one there (ap (λ front. owned_in (asked_in front)) (quit_front o seat) ∙ owned) (room_left seat.client.id p.flow room)
    ∙ ap (λ (n : ℕ). flow_begun n key.text.items aim errand text (flow_left seat.client.id p.flow)) (quit_number o seat)) in
    ap (λ (t : Parts). on_seat i (asking passes) (begun_at i aim errand text (left_at_decision i t))) (quit_is i p seat o here refl)
    ∙ ap (λ (t : Parts). on_seat i (asking passes) (begun_at i aim errand text t)) leaves
    ∙ ap (on_seat i (asking passes)) begins
    ∙ seat_again i (asking passes) (record p { cache = left_memory o p.cache; flow = begun }) seat one here
    ∙ ap (λ (new : Seat). record p { seats = slice_set p.seats i new; cache = left_memory o p.cache; flow = begun }) (asks_same passes o seat)

-- ---- the law's: what was left is left once

kept_once : (c : ℕ) (rest : List Exchange) (d : Exchange) (over : Bool) → without_any is_over (change (is_of c) left_alone rest) ≡ rest → is_of c d ≡ false → is_over d ≡ over
    → without_any is_over (change (is_of c) left_alone (cond (not over) (d ∷ rest) rest)) ≡ cond (not over) (d ∷ rest) rest
kept_once c rest d true again isnt is = again
kept_once c rest d false again isnt is =
    ap (λ (b : Bool). without_any is_over ((elim b as (λ t. Exchange) [ true ↦ left_alone d | false ↦ d ]) ∷ change (is_of c) left_alone rest)) isnt
    ∙ ap (λ (b : Bool). cond (not b) (d ∷ without_any is_over (change (is_of c) left_alone rest)) (without_any is_over (change (is_of c) left_alone rest))) is
    ∙ ap (λ (xs : List Exchange). d ∷ xs) again

abbrev left_if : Bool → Exchange → Exchange
left_if b e = elim b as (λ t. Exchange) [ true ↦ left_alone e | false ↦ e ]

once_by : (c : ℕ) (es : List Exchange) (e : Exchange) (b : Bool) → is_of c e ≡ b → without_any is_over (change (is_of c) left_alone (without_any is_over (change (is_of c) left_alone es))) ≡ without_any is_over (change (is_of c) left_alone es)
    → without_any is_over (change (is_of c) left_alone (without_any is_over (left_if b e ∷ change (is_of c) left_alone es))) ≡ without_any is_over (left_if b e ∷ change (is_of c) left_alone es)
once_by c es e true is again = kept_once c (without_any is_over (change (is_of c) left_alone es)) (left_alone e) (is_over (left_alone e)) again refl refl
once_by c es e false is again = kept_once c (without_any is_over (change (is_of c) left_alone es)) e (is_over e) again is refl

twice : (c : ℕ) (es : List Exchange) → without_any is_over (change (is_of c) left_alone (without_any is_over (change (is_of c) left_alone es))) ≡ without_any is_over (change (is_of c) left_alone es)
twice c [] = refl
twice c (e ∷ es) = once_by c es e (is_of c e) refl (twice c es)

left_once : (c : ℕ) (s : State) → leave (is_of c) (leave (is_of c) s) ≡ leave (is_of c) s
unfolding leave forsake
left_once c s = ap (λ (es : List Exchange). let t : State = record s { exchanges = es } in t) (twice c s.exchanges)

pub begins_once : (e : Exchange) (c : ℕ) (s : State) → e.asker ≡ Some c → begin_exchange e (leave (is_of c) s) ≡ add_exchange e (leave (is_of c) s)
unfolding begin_exchange
begins_once e c s asks =
    ap (λ (asker : Option ℕ). add_exchange e (leave (λ x. is_some_with (λ n. is_of n x) asker) (leave (is_of c) s))) asks ∙ ap (add_exchange e) (left_once c s)
