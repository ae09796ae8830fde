-- Those who are looked at ask for what they lack, one behind the other; whoever is not is silent, and lacks nothing by the law.
use Rattle.std.proofs.Common.{◌≡◌, ◌≤◌, ◌<◌, refl, sym, subst, ap, ap₂, ◌∙◌, ℕ, zero, suc, ◌+◌, ◌-◌, Bool, true, false, ◌&&◌, ◌||◌, ◌==◌, nat_lt, find, length, List, [], ◌∷◌, Some, None, Option, arith}
use Rattle.std.proofs.lemmas.Bool.Decides.{nat_tests}
use Rattle.std.proofs.lemmas.Option.{slice_get_within}
use Rattle.std.specs.Prelude.{slice_get}
use Rattle.pp_cache.specs.Memory.{Memory}
use Rattle.pp_cache_law.proofs.Numbers.{is_same, some_is}
use Rattle.pp_turns_law.proofs.Sitting.{is_at}
use Rattle.pp_turns_law.specs.Decides.{IsAtPlace}
use Rattle.pp_flow_law.proofs.Entries.{none_some}
use Rattle.pp_flow_law.proofs.Told.{counts}
use Rattle.pp_flow_law.specs.Tables.{AreGiven, Leaving}
use Rattle.pp_law.specs.Connections.{client, each_client, is_client}
use Rattle.pp_law.specs.Followers.{fill_for}
use Rattle.pp_law.specs.Lists.{Bytes, has_number}
use Rattle.pp_law.specs.State.{State, Client}
use Rattle.pp_peers.specs.declared.peers.Peer.{Peer}
use Rattle.pp_seats.specs.Seats.{is_silent}
use Rattle.pp_seats.specs.declared.seat.Seat.{Seat}
use Rattle.pp_seats_law.proofs.AllSeats.{places}
use Rattle.pp_seats_law.specs.Clients.{IsFound}
use Rattle.pp_seats_law.specs.Seats.{ShowsSeat}
use Rattle.pp_states_law.specs.Decisions.{AsksOnce}
use Rattle.pp_state.specs.Ends.{Parts, numbers_of}
use Rattle.pp_take.specs.Filling.{all_filled, filled_for}
use Rattle.pp_turns_law.proofs.First.{above}
use Rattle.pp_turns_law.proofs.BegunAsks.{IsDone, WasSeat}
use Rattle.pp_turns_law.proofs.Filled.{is_done}
use Rattle.pp_turns_law.proofs.KeptAsks.{WasClient}
use Rattle.pp_turns_law.proofs.Silent.{fills_none, follow_still, follows_none}
use Rattle.pp_turns_law.specs.Fills.{MayFill, MayFollow, ShowsParts}

-- ---- the walk

-- of those from this place on, these are looked at, and the others are silent
pub record Goes (number : ℕ → ℕ) (name : Bytes) (l : Leaving) (peers : List Peer) (k : ℕ) (is : List ℕ) (p : Parts) (s : State) : Type 0 where
  pub shows : ShowsParts number name l peers p s
  pub given : AreGiven k (length (numbers_of p.seats)) is
  pub silent : (j : ℕ) (seat : Seat) → k ≤ j → slice_get p.seats j ≡ Some seat → has_number j is ≡ false → is_silent seat ≡ true
  pub follow : (i : ℕ) (seat : Seat) (c : Client) → IsAtPlace i p s seat c → c.is_closing ≡ false → MayFollow p.cache s seat c
  pub asks : (n : ℕ) → AsksOnce n s
  pub room : length s.exchanges + length is ≤ 1024
  pub numbers : s.next_exchange + length is ≤ 18446744073709551615

-- the law goes over these numbers from that place on
abbrev pub AreLeft : List ℕ → ℕ → Parts → Type 0
AreLeft ns k p = (j : ℕ) → slice_get ns j ≡ slice_get (numbers_of p.seats) (j + k)

pub record IsWalked (number : ℕ → ℕ) (name : Bytes) (l : Leaving) (peers : List Peer) (p : Parts) (s : State) (q : Parts) (t : State) : Type 0 where
  pub shows : ShowsParts number name l peers q t
  pub asks : (n : ℕ) → AsksOnce n t
  pub rest : t ≡ record s { clients = t.clients; exchanges = t.exchanges; next_exchange = t.next_exchange }

-- the client at a place
record IsNumbered (seats : List Seat) (k n : ℕ) : Type 0 where
  seat : Seat
  here : slice_get seats k ≡ Some seat
  its : seat.client.id ≡ n

numbered : (seats : List Seat) (k n : ℕ) → slice_get (numbers_of seats) k ≡ Some n → IsNumbered seats k n
numbered [] k n there = absurd (none_some n there)
numbered (first ∷ seats) zero n there = record { seat = first; here = refl; its = some_is first.client.id n there }
numbered (first ∷ seats) (suc k) n there =
    let rest : IsNumbered seats k n = numbered seats k n there in
    record { seat = rest.seat; here = rest.here; its = rest.its }

apart : (k j : ℕ) → k + 1 ≤ j → (k == j) ≡ false
apart k j less = grind (arith, nat_tests, less)

not_same : (i k : ℕ) → k ≤ i → (i == k) ≡ false → k + 1 ≤ i
not_same i k less isnt = grind (arith, nat_tests, less, isnt)

room_there : (a b n m more : ℕ) → (a + b ≡ n) → m + (more + 1) ≤ 18446744073709551615 → n + (more + 1) ≤ 1024 → (nat_lt (a + b) 1024 && nat_lt m 18446744073709551615) ≡ true
room_there a b n m more same one two = grind (arith, nat_tests, same, one, two)

module _ (number : ℕ → ℕ) (name : Bytes) (l : Leaving) (peers : List Peer) where
  abbrev pub Walked : Parts → State → Parts → State → Type 0
  Walked p s q t = IsWalked number name l peers p s q t

  abbrev pub Walks : List ℕ → Type 0
  Walks ns = (is : List ℕ) (k : ℕ) (p : Parts) (s : State) → AreLeft ns k p → Goes number name l peers k is p s → Walked p s (all_filled name is p) (each_client fill_for ns s)

  -- the client of that number
  record IsThere (k n : ℕ) (p : Parts) (s : State) : Type 0 where
    seat : Seat
    c : Client
    place : IsAtPlace k p s seat c
    known : client s n ≡ Some c
    shows : ShowsSeat number name [] seat c

  its_client : (n k : ℕ) (ns is : List ℕ) (p : Parts) (s : State) → AreLeft (n ∷ ns) k p → Goes number name l peers k is p s → IsThere k n p s
  its_client n k ns is p s left goes =
      let first : 0 + k ≡ k = omega arith in
      let one : IsNumbered p.seats k n = numbered p.seats k n (ap (λ (j : ℕ). slice_get (numbers_of p.seats) j) (sym first) ∙ sym (left 0)) in
      let found : IsFound number name [] one.seat one.seat.client.id s.clients =
      places number name [] p.seats s.clients one.seat.client.id k one.seat goes.shows.steps.shows.clients (is_at k p.seats one.seat goes.shows.steps.order one.here) one.here in
      record {
        seat = one.seat;
        c = found.client;
        place = record { here = one.here; there = found.there };
        known = ap (λ (m : ℕ). find (is_client m) s.clients) (sym one.its) ∙ found.there;
        shows = found.shows;
      }

  later : (n k : ℕ) (ns : List ℕ) (p q : Parts) → numbers_of q.seats ≡ numbers_of p.seats → AreLeft (n ∷ ns) k p → AreLeft ns (k + 1) q
  later n k ns p q same left j =
      let next : suc j + k ≡ j + (k + 1) = omega arith in
      left (suc j) ∙ ap₂ (λ (numbers : List ℕ) (m : ℕ). slice_get numbers m) (sym same) next

  law_goes : (n : ℕ) (ns : List ℕ) (c : Client) (s : State) → client s n ≡ Some c → each_client fill_for (n ∷ ns) s ≡ each_client fill_for ns (fill_for c s)
  unfolding each_client
  law_goes n ns c s known = ap (λ (o : Option Client). each_client fill_for ns (elim o as (λ x. State) [ None ↦ s | Some d ↦ fill_for d s ])) known

  -- one that is silent is passed
  passes : (n : ℕ) (ns is : List ℕ) (k : ℕ) (p : Parts) (s : State) → Walks ns → AreLeft (n ∷ ns) k p → Goes number name l peers k is p s → AreGiven (k + 1) (length (numbers_of p.seats)) is
      → Walked p s (all_filled name is p) (each_client fill_for (n ∷ ns) s)
  passes n ns is k p s more left goes given =
      let one : IsThere k n p s = its_client n k ns is p s left goes in
      let isnt : has_number k is ≡ false = above (k + 1) (length (numbers_of p.seats)) k is given (omega arith) in
      let silent : is_silent one.seat ≡ true = goes.silent k one.seat (omega arith) one.place.here isnt in
      let law : each_client fill_for (n ∷ ns) s ≡ each_client fill_for ns s =
      law_goes n ns one.c s one.known ∙ ap (each_client fill_for ns) (fills_none s one.c (follows_none number name s one.seat one.c one.shows silent)) in
      subst (λ (t : State). Walked p s (all_filled name is p) t) (sym law)
      (more is (k + 1) p s (later n k ns p p refl left) (record {
        shows = goes.shows;
        given = given;
        silent = λ j seat above_it here none. goes.silent j seat (omega (arith, above_it)) here none;
        follow = goes.follow;
        asks = goes.asks;
        room = goes.room;
        numbers = goes.numbers;
      }))

  joined : (p q r : Parts) (s t u : State) → t ≡ record s { clients = t.clients; exchanges = t.exchanges; next_exchange = t.next_exchange } → Walked q t r u → Walked p s r u
  joined p q r s t u rest walked = record {
    shows = walked.shows;
    asks = walked.asks;
    rest = walked.rest ∙ ap (λ (v : State). let w : State = record v { clients = u.clients; exchanges = u.exchanges; next_exchange = u.next_exchange } in w) rest;
  }

  -- one that is looked at asks
  goes_on : (k : ℕ) (is : List ℕ) (p q : Parts) (s t : State) → IsDone number name l peers p s q t → Goes number name l peers k (k ∷ is) p s → Goes number name l peers (k + 1) is q t
  goes_on k is p q s t done goes = record {
    shows = done.shows;
    given = subst (λ (ns : List ℕ). AreGiven (k + 1) (length ns) is) (sym done.numbers) goes.given.1;
    silent = λ j seat above_it here none. silent_still j seat above_it none (done.seats j seat here);
    follow = λ i seat c place going. follow_on i seat c going (done.seats i seat place.here) place.there;
    asks = λ n. done.more.asks n (goes.asks n);
    room = omega (arith, goes.room, done.more.exchanges, counted);
    numbers = omega (arith, goes.numbers, done.more.next, counted);
  }
    where
      counted : length (k ∷ is) ≡ length is + 1
      counted = omega arith

      silent_still : (j : ℕ) (seat : Seat) → k + 1 ≤ j → has_number j is ≡ false → WasSeat p.seats j seat → is_silent seat ≡ true
      silent_still j seat above_it none was =
          ap (λ (x : Seat). is_silent x) was.same ∙ goes.silent j was.before (omega (arith, above_it)) was.there (ap (λ (b : Bool). b || has_number j is) (apart k j above_it) ∙ none)

      follow_on : (i : ℕ) (seat : Seat) (c : Client) → c.is_closing ≡ false → WasSeat p.seats i seat → find (is_client seat.client.id) t.clients ≡ Some c → MayFollow q.cache t seat c
      follow_on i seat c going was there =
          let known : WasClient s seat.client.id c = done.more.client seat.client.id c there in
          let its : seat.client.id ≡ was.before.client.id = ap (λ (x : Seat). x.client.id) was.same in
          let open_before : known.before.is_closing ≡ false = sym (ap (λ (x : Client). x.is_closing) known.same) ∙ going in
          let before : MayFollow p.cache s was.before known.before =
          goes.follow i was.before known.before (record { here = was.there; there = ap (λ (m : ℕ). find (is_client m) s.clients) (sym its) ∙ known.there }) open_before in
          subst (λ (m : Memory). MayFollow m t seat c) (sym done.cache)
          (subst (λ (x : Seat). MayFollow p.cache t x c) (sym was.same)
          (subst (λ (d : Client). MayFollow p.cache t (record was.before { course = seat.course }) d) (sym known.same)
          (follow_still p.cache s t was.before known.before seat.course c.course before known.given done.more.rest)))

  looks : (n : ℕ) (ns is : List ℕ) (k : ℕ) (p : Parts) (s : State) → Walks ns → AreLeft (n ∷ ns) k p → Goes number name l peers k (k ∷ is) p s → Walked p s (all_filled name (k ∷ is) p) (each_client fill_for (n ∷ ns) s)
  unfolding all_filled
  looks n ns is k p s more left goes =
      let one : IsThere k n p s = its_client n k ns (k ∷ is) p s left goes in
      let counted : length (k ∷ is) ≡ length is + 1 = omega arith in
      let may : MayFill k p s one.seat one.c = record {
        place = one.place;
        follows = goes.follow k one.seat one.c one.place;
        asks = goes.asks one.c.number;
        room = room_there (length p.flow.waiting) (length p.flow.placed) (length s.exchanges) p.flow.begun (length is) (counts number l p.flow s goes.shows.steps.shows.exchanges).0
            (omega (arith, goes.numbers, counted, goes.shows.steps.shows.exchanges.begun)) (omega (arith, goes.room, counted));
      } in
      let done : IsDone number name l peers p s (filled_for name k p) (fill_for one.c s) = is_done number name l peers p s goes.shows k one.seat one.c may in
      subst (λ (t : State). Walked p s (all_filled name is (filled_for name k p)) t) (sym (law_goes n ns one.c s one.known))
      (joined p (filled_for name k p) (all_filled name is (filled_for name k p)) s (fill_for one.c s) (each_client fill_for ns (fill_for one.c s)) done.more.rest
      (more is (k + 1) (filled_for name k p) (fill_for one.c s) (later n k ns p (filled_for name k p) done.numbers left) (goes_on k is p (filled_for name k p) s (fill_for one.c s) done goes)))

  past : (i k : ℕ) (p : Parts) (low : ℕ) (is : List ℕ) → AreGiven low (length (numbers_of p.seats)) is → low ≤ length (numbers_of p.seats)
  past i k p low [] given = given
  past i k p low (j ∷ is) given = let rest : j + 1 ≤ length (numbers_of p.seats) = past i k p (j + 1) is given.1 in omega (arith, rest, given.0)

  none_left : (i k : ℕ) (is : List ℕ) (p : Parts) → AreLeft [] k p → AreGiven k (length (numbers_of p.seats)) (i ∷ is) → ⊥
  none_left i k is p left given =
      let within : i < length (numbers_of p.seats) = (let rest : i + 1 ≤ length (numbers_of p.seats) = past i k p (i + 1) is given.1 in omega (arith, rest)) in
      let there : (i - k) + k ≡ i = omega (arith, given.0) in
      let none : slice_get (numbers_of p.seats) i ≡ None = ap (λ (j : ℕ). slice_get (numbers_of p.seats) j) (sym there) ∙ sym (left (i - k)) in
      absurd (gone (numbers_of p.seats) i within none)
    where
      gone : (ns : List ℕ) (j : ℕ) → j < length ns → slice_get ns j ≡ None → ⊥
      gone [] j less none = absurd (omega (arith, less))
      gone (n ∷ ns) zero less none = absurd (cc none)
      gone (n ∷ ns) (suc j) less none = gone ns j (omega (arith, less)) none

  none_looks : (n : ℕ) (ns : List ℕ) (k : ℕ) (p : Parts) (s : State) → AreLeft (n ∷ ns) k p → AreGiven (k + 1) (length (numbers_of p.seats)) []
  none_looks n ns k p s left =
      let first : 0 + k ≡ k = omega arith in
      let within : k < length (numbers_of p.seats) = slice_get_within (numbers_of p.seats) k n (ap (λ (j : ℕ). slice_get (numbers_of p.seats) j) (sym first) ∙ sym (left 0)) in
      omega (arith, within)

  ends : (p : Parts) (s : State) → ShowsParts number name l peers p s → ((n : ℕ) → AsksOnce n s) → Walked p s (all_filled name [] p) (each_client fill_for [] s)
  unfolding all_filled each_client
  ends p s shows asks = record { shows = shows; asks = asks; rest = refl }

  next_looks : (n i : ℕ) (ns is : List ℕ) (k : ℕ) (p : Parts) (s : State) (b : Bool) → (i == k) ≡ b → Walks ns → AreLeft (n ∷ ns) k p → Goes number name l peers k (i ∷ is) p s → Walked p s (all_filled name (i ∷ is) p) (each_client fill_for (n ∷ ns) s)
  next_looks n i ns is k p s true is_it more left goes =
      let same : i ≡ k = is_same i k is_it in
      subst (λ (j : ℕ). Walked p s (all_filled name (j ∷ is) p) (each_client fill_for (n ∷ ns) s)) (sym same)
      (looks n ns is k p s more left (subst (λ (j : ℕ). Goes number name l peers k (j ∷ is) p s) same goes))
  next_looks n i ns is k p s false isnt more left goes = passes n ns (i ∷ is) k p s more left goes (not_same i k goes.given.0 isnt, goes.given.1)

  pub walk : (ns : List ℕ) → Walks ns
  walk [] [] k p s left goes = ends p s goes.shows goes.asks
  walk [] (i ∷ is) k p s left goes = absurd (none_left i k is p left goes.given)
  walk (n ∷ ns) [] k p s left goes = passes n ns [] k p s (walk ns) left goes (none_looks n ns k p s left)
  walk (n ∷ ns) (i ∷ is) k p s left goes = next_looks n i ns is k p s (i == k) refl (walk ns) left goes
