-- What is done to those who are looked at, one behind the other, is what the law does to all: it does nothing to whoever is silent.
use Rattle.std.proofs.Common.{◌≡◌, ◌≤◌, ◌<◌, refl, sym, subst, ap, ap₂, ◌∙◌, ℕ, zero, suc, ◌+◌, ◌-◌, Bool, true, false, ◌||◌, ◌==◌, find, length, map, List, [], ◌∷◌, Some, None, Option, arith}
use Rattle.std.proofs.lemmas.Bool.Decides.{nat_tests}
use Rattle.std.proofs.lemmas.Option.{slice_get_within}
use Rattle.std.specs.Prelude.{slice_get}
use Rattle.pp_cache_law.proofs.Numbers.{is_same, some_is}
use Rattle.pp_turns_law.specs.Sides.{ShowsSides}
use Rattle.pp_turns_law.proofs.Sitting.{is_at}
use Rattle.pp_turns_law.specs.Decides.{IsAtPlace}
use Rattle.pp_desk.specs.Closings.{Sides}
use Rattle.pp_flow_law.proofs.Entries.{none_some}
use Rattle.pp_flow_law.specs.Tables.{AreGiven}
use Rattle.pp_law.specs.Connections.{client, each_client, is_client}
use Rattle.pp_law.specs.Lists.{Bytes, has_number}
use Rattle.pp_law.specs.State.{State, Client}
use Rattle.pp_seats.specs.Seats.{is_silent}
use Rattle.pp_seats.specs.declared.seat.Seat.{Seat}
use Rattle.pp_seats_law.proofs.AllSeats.{places}
use Rattle.pp_seats_law.specs.Clients.{AreShown, IsFound}
use Rattle.pp_seats_law.specs.Seats.{ShowsSeat}
use Rattle.pp_state.specs.Ends.{numbers_of}
use Rattle.pp_turns_law.proofs.First.{above}
use Rattle.pp_endings_law.proofs.Law.{rest_then}
use Rattle.pp_endings_law.specs.Replies.{AllMayEnd, MayLeave}

abbrev pub IsButFor : State → State → Type 0
IsButFor s t = t ≡ record s { clients = t.clients; conns = t.conns; exchanges = t.exchanges; instances = t.instances; chunks = t.chunks }

pub record IsGood (number : ℕ → ℕ) (name : Bytes) (x : Sides) (s : State) : Type 0 where
  pub shows : ShowsSides number name x s
  pub may : MayLeave x s
  pub ends : AllMayEnd x s

-- one client is changed
pub record IsStepped (number : ℕ → ℕ) (name : Bytes) (i : ℕ) (x z : Sides) (s t : State) : Type 0 where
  pub good : IsGood number name z t
  pub numbers : numbers_of z.parts.seats ≡ numbers_of x.parts.seats
  pub others : (j : ℕ) → (i == j) ≡ false → slice_get z.parts.seats j ≡ slice_get x.parts.seats j
  pub rest : IsButFor s t

-- those at these places, one behind the other
abbrev pub AllStep : (ℕ → Sides → Sides → Type 0) → List ℕ → Sides → Sides → Type 0
AllStep step [] x y = y ≡ x
AllStep step (i ∷ is) x y = (z : Sides) × step i x z × AllStep step is z y

pub record IsWalked (number : ℕ → ℕ) (name : Bytes) (is : List ℕ) (x y : Sides) (s t : State) : Type 0 where
  pub good : IsGood number name y t
  pub numbers : numbers_of y.parts.seats ≡ numbers_of x.parts.seats
  pub others : (j : ℕ) → has_number j is ≡ false → slice_get y.parts.seats j ≡ slice_get x.parts.seats j
  pub rest : IsButFor s t

-- the law goes over these numbers from that place on
abbrev pub AreLeft : List ℕ → ℕ → Sides → Type 0
AreLeft ns k x = (j : ℕ) → slice_get ns j ≡ slice_get (numbers_of x.parts.seats) (j + k)

record IsNumbered (seats : List Seat) (k n : ℕ) : Type 0 where
  seat : Seat
  here : slice_get seats k ≡ Some seat
  its : seat.client.id ≡ n

numbered : (seats : List Seat) (k n : ℕ) → slice_get (numbers_of seats) k ≡ Some n → IsNumbered seats k n
numbered [] k n there = absurd (none_some n there)
numbered (first ∷ seats) zero n there = record { seat = first; here = refl; its = some_is first.client.id n there }
numbered (first ∷ seats) (suc k) n there =
    let rest : IsNumbered seats k n = numbered seats k n there in
    record { seat = rest.seat; here = rest.here; its = rest.its }

apart : (k j : ℕ) → k + 1 ≤ j → (k == j) ≡ false
apart k j less = grind (arith, nat_tests, less)

not_same : (i k : ℕ) → k ≤ i → (i == k) ≡ false → k + 1 ≤ i
not_same i k less isnt = grind (arith, nat_tests, less, isnt)

pub same_numbers : (number : ℕ → ℕ) (name : Bytes) (seats : List Seat) (cs : List Client) → AreShown number name [] seats cs → map (λ (c : Client). c.number) cs ≡ numbers_of seats
same_numbers number name [] [] shown = refl
same_numbers number name [] (c ∷ cs) shown = absurd shown
same_numbers number name (seat ∷ seats) [] shown = absurd shown
same_numbers number name (seat ∷ seats) (c ∷ cs) shown = ap₂ (λ (n : ℕ) (ns : List ℕ). n ∷ ns) (sym shown.0.number) (same_numbers number name seats cs shown.1)

pub as_many : (seats : List Seat) → length (numbers_of seats) ≡ length seats
as_many [] = refl
as_many (seat ∷ seats) = ap suc (as_many seats)

-- by what the program does to the one at a place, and the law to the client
module _ (number : ℕ → ℕ) (name : Bytes) (step : ℕ → Sides → Sides → Type 0) (f : Client → State → State)
    (one_step : (i : ℕ) (x z : Sides) (s : State) (seat : Seat) (c : Client) → IsGood number name x s → IsAtPlace i x.parts s seat c → step i x z → IsStepped number name i x z s (f c s))
    (none_silent : (s : State) (seat : Seat) (c : Client) → ShowsSeat number name [] seat c → is_silent seat ≡ true → f c s ≡ s) where
  record Goes (k : ℕ) (is : List ℕ) (x : Sides) (s : State) : Type 0 where
    good : IsGood number name x s
    given : AreGiven k (length (numbers_of x.parts.seats)) is
    silent : (j : ℕ) (seat : Seat) → k ≤ j → slice_get x.parts.seats j ≡ Some seat → has_number j is ≡ false → is_silent seat ≡ true

  abbrev Walked : List ℕ → Sides → Sides → State → State → Type 0
  Walked is x y s t = IsWalked number name is x y s t

  abbrev Walks : List ℕ → Type 0
  Walks ns = (is : List ℕ) (k : ℕ) (x y : Sides) (s : State) → AreLeft ns k x → Goes k is x s → AllStep step is x y → Walked is x y s (each_client f ns s)

  record IsThere (k n : ℕ) (x : Sides) (s : State) : Type 0 where
    seat : Seat
    c : Client
    place : IsAtPlace k x.parts s seat c
    known : client s n ≡ Some c
    shows : ShowsSeat number name [] seat c

  its_client : (n k : ℕ) (ns is : List ℕ) (x : Sides) (s : State) → AreLeft (n ∷ ns) k x → Goes k is x s → IsThere k n x s
  its_client n k ns is x s left goes =
      let first : 0 + k ≡ k = omega arith in
      let one : IsNumbered x.parts.seats k n = numbered x.parts.seats k n (ap (λ (j : ℕ). slice_get (numbers_of x.parts.seats) j) (sym first) ∙ sym (left 0)) in
      let found : IsFound number name [] one.seat one.seat.client.id s.clients =
      places number name [] x.parts.seats s.clients one.seat.client.id k one.seat goes.good.shows.steps.shows.clients (is_at k x.parts.seats one.seat goes.good.shows.steps.order one.here) one.here in
      record {
        seat = one.seat;
        c = found.client;
        place = record { here = one.here; there = found.there };
        known = ap (λ (m : ℕ). find (is_client m) s.clients) (sym one.its) ∙ found.there;
        shows = found.shows;
      }

  later : (n k : ℕ) (ns : List ℕ) (x z : Sides) → numbers_of z.parts.seats ≡ numbers_of x.parts.seats → AreLeft (n ∷ ns) k x → AreLeft ns (k + 1) z
  later n k ns x z same left j =
      let next : suc j + k ≡ j + (k + 1) = omega arith in
      left (suc j) ∙ ap₂ (λ (numbers : List ℕ) (m : ℕ). slice_get numbers m) (sym same) next

  law_goes : (n : ℕ) (ns : List ℕ) (c : Client) (s : State) → client s n ≡ Some c → each_client f (n ∷ ns) s ≡ each_client f ns (f c s)
  unfolding each_client
  law_goes n ns c s known = ap (λ (o : Option Client). each_client f ns (elim o as (λ x. State) [ None ↦ s | Some d ↦ f d s ])) known

  -- one that is silent is passed
  passes : (n : ℕ) (ns is : List ℕ) (k : ℕ) (x y : Sides) (s : State) → Walks ns → AreLeft (n ∷ ns) k x → Goes k is x s → AreGiven (k + 1) (length (numbers_of x.parts.seats)) is → AllStep step is x y → Walked is x y s (each_client f (n ∷ ns) s)
  passes n ns is k x y s more left goes given steps =
      let one : IsThere k n x s = its_client n k ns is x s left goes in
      let isnt : has_number k is ≡ false = above (k + 1) (length (numbers_of x.parts.seats)) k is given (omega arith) in
      let silent : is_silent one.seat ≡ true = goes.silent k one.seat (omega arith) one.place.here isnt in
      let law : each_client f (n ∷ ns) s ≡ each_client f ns s = law_goes n ns one.c s one.known ∙ ap (each_client f ns) (none_silent s one.seat one.c one.shows silent) in
      subst (λ (t : State). Walked is x y s t) (sym law)
      (more is (k + 1) x y s (later n k ns x x refl left) (record {
        good = goes.good;
        given = given;
        silent = λ j seat above_it here none. goes.silent j seat (omega (arith, above_it)) here none;
      }) steps)

  -- one that is looked at is changed
  goes_on : (k : ℕ) (is : List ℕ) (x z : Sides) (s t : State) → IsStepped number name k x z s t → Goes k (k ∷ is) x s → Goes (k + 1) is z t
  goes_on k is x z s t done goes = record {
    good = done.good;
    given = subst (λ (ns : List ℕ). AreGiven (k + 1) (length ns) is) (sym done.numbers) goes.given.1;
    silent = λ j seat above_it here none. goes.silent j seat (omega (arith, above_it)) (sym (done.others j (apart k j above_it)) ∙ here) (ap (λ (b : Bool). b || has_number j is) (apart k j above_it) ∙ none);
  }

  joined : (k : ℕ) (is : List ℕ) (x z y : Sides) (s t u : State) → IsStepped number name k x z s t → Walked is z y t u → Walked (k ∷ is) x y s u
  joined k is x z y s t u done walked = record {
    good = walked.good;
    numbers = walked.numbers ∙ done.numbers;
    others = λ j none. by j (k == j) refl none;
    rest = rest_then s t u done.rest walked.rest;
  }
    where
      by : (j : ℕ) (b : Bool) → (k == j) ≡ b → (b || has_number j is) ≡ false → slice_get y.parts.seats j ≡ slice_get x.parts.seats j
      by j true same none = absurd (cc none)
      by j false off none = walked.others j none ∙ done.others j off

  looks : (n : ℕ) (ns is : List ℕ) (k : ℕ) (x y : Sides) (s : State) → Walks ns → AreLeft (n ∷ ns) k x → Goes k (k ∷ is) x s → AllStep step (k ∷ is) x y → Walked (k ∷ is) x y s (each_client f (n ∷ ns) s)
  looks n ns is k x y s more left goes steps =
      let one : IsThere k n x s = its_client n k ns (k ∷ is) x s left goes in
      let z : Sides = steps.0 in
      let done : IsStepped number name k x z s (f one.c s) = one_step k x z s one.seat one.c goes.good one.place steps.1 in
      subst (λ (t : State). Walked (k ∷ is) x y s t) (sym (law_goes n ns one.c s one.known))
      (joined k is x z y s (f one.c s) (each_client f ns (f one.c s)) done
      (more is (k + 1) z y (f one.c s) (later n k ns x z done.numbers left) (goes_on k is x z s (f one.c s) done goes) steps.2))

  past : (i k : ℕ) (x : Sides) (low : ℕ) (is : List ℕ) → AreGiven low (length (numbers_of x.parts.seats)) is → low ≤ length (numbers_of x.parts.seats)
  past i k x low [] given = given
  past i k x low (j ∷ is) given = let rest : j + 1 ≤ length (numbers_of x.parts.seats) = past i k x (j + 1) is given.1 in omega (arith, rest, given.0)

  none_left : (i k : ℕ) (is : List ℕ) (x : Sides) → AreLeft [] k x → AreGiven k (length (numbers_of x.parts.seats)) (i ∷ is) → ⊥
  none_left i k is x left given =
      let within : i < length (numbers_of x.parts.seats) = (let rest : i + 1 ≤ length (numbers_of x.parts.seats) = past i k x (i + 1) is given.1 in omega (arith, rest)) in
      let there : (i - k) + k ≡ i = omega (arith, given.0) in
      let none : slice_get (numbers_of x.parts.seats) i ≡ None = ap (λ (j : ℕ). slice_get (numbers_of x.parts.seats) j) (sym there) ∙ sym (left (i - k)) in
      absurd (gone (numbers_of x.parts.seats) i within none)
    where
      gone : (ns : List ℕ) (j : ℕ) → j < length ns → slice_get ns j ≡ None → ⊥
      gone [] j less none = absurd (omega (arith, less))
      gone (n ∷ ns) zero less none = absurd (cc none)
      gone (n ∷ ns) (suc j) less none = gone ns j (omega (arith, less)) none

  none_looks : (n : ℕ) (ns : List ℕ) (k : ℕ) (x : Sides) → AreLeft (n ∷ ns) k x → AreGiven (k + 1) (length (numbers_of x.parts.seats)) []
  none_looks n ns k x left =
      let first : 0 + k ≡ k = omega arith in
      let within : k < length (numbers_of x.parts.seats) = slice_get_within (numbers_of x.parts.seats) k n (ap (λ (j : ℕ). slice_get (numbers_of x.parts.seats) j) (sym first) ∙ sym (left 0)) in
      omega (arith, within)

  ends : (x y : Sides) (s : State) → IsGood number name x s → AllStep step [] x y → Walked [] x y s (each_client f [] s)
  unfolding each_client
  ends x y s good same = subst (λ (z : Sides). Walked [] x z s s) (sym same) (record { good = good; numbers = refl; others = λ j none. refl; rest = refl })

  next_looks : (n i : ℕ) (ns is : List ℕ) (k : ℕ) (x y : Sides) (s : State) (b : Bool) → (i == k) ≡ b → Walks ns → AreLeft (n ∷ ns) k x → Goes k (i ∷ is) x s → AllStep step (i ∷ is) x y → Walked (i ∷ is) x y s (each_client f (n ∷ ns) s)
  next_looks n i ns is k x y s true is_it more left goes steps =
      let same : i ≡ k = is_same i k is_it in
      subst (λ (j : ℕ). Walked (j ∷ is) x y s (each_client f (n ∷ ns) s)) (sym same)
      (looks n ns is k x y s more left (subst (λ (j : ℕ). Goes k (j ∷ is) x s) same goes) (subst (λ (j : ℕ). AllStep step (j ∷ is) x y) same steps))
  next_looks n i ns is k x y s false isnt more left goes steps = passes n ns (i ∷ is) k x y s more left goes (not_same i k goes.given.0 isnt, goes.given.1) steps

  walk : (ns : List ℕ) → Walks ns
  walk [] [] k x y s left goes steps = ends x y s goes.good steps
  walk [] (i ∷ is) k x y s left goes steps = absurd (none_left i k is x left goes.given)
  walk (n ∷ ns) [] k x y s left goes steps = passes n ns [] k x y s (walk ns) left goes (none_looks n ns k x left) steps
  walk (n ∷ ns) (i ∷ is) k x y s left goes steps = next_looks n i ns is k x y s (i == k) refl (walk ns) left goes steps

  -- over the numbers of all
  pub walks : (ns awake : List ℕ) (x y : Sides) (s : State) → ns ≡ numbers_of x.parts.seats → IsGood number name x s → AreGiven 0 (length x.parts.seats) awake
      → ((j : ℕ) (seat : Seat) → slice_get x.parts.seats j ≡ Some seat → has_number j awake ≡ false → is_silent seat ≡ true) → AllStep step awake x y → Walked awake x y s (each_client f ns s)
  walks ns awake x y s same good given silent steps =
      walk ns awake 0 x y s (λ j. let first : j + 0 ≡ j = omega arith in ap₂ (λ (ms : List ℕ) (m : ℕ). slice_get ms m) same (sym first)) (record {
        good = good;
        given = subst (λ (m : ℕ). AreGiven 0 m awake) (sym (as_many x.parts.seats)) given;
        silent = λ j seat above_it here none. silent j seat here none;
      }) steps
