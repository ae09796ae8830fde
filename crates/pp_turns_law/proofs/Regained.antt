-- Attempts count anew of those who are looked at, and of the others none would.
use Rattle.std.proofs.Common.{◌≡◌, refl, sym, subst, ap, ap₂, ◌∙◌, ℕ, zero, suc, Bool, true, false, ◌==◌, ◌&&◌, ◌||◌, not, cond, map, is_some, List, [], ◌∷◌, Option, Some, None, arith}
use Rattle.std.proofs.lemmas.Bool.Decides.{nat_tests}
use Rattle.std.specs.Prelude.{slice_get, slice_set}
use Rattle.pp_client.specs.Replies.{Reply as Said}
use Rattle.pp_cache.specs.Memory.{Memory}
use Rattle.pp_cache_law.proofs.Alike.{held_of}
use Rattle.pp_cache_law.proofs.Framing.{frames_of, the_same}
use Rattle.pp_cache_law.proofs.Numbers.{is_same, some_is}
use Rattle.pp_cache_law.proofs.PairLemmas.{count_mapped_same}
use Rattle.pp_turns_law.proofs.Changed.{get_set}
use Rattle.pp_turns_law.proofs.Follows.{has_source, is_next}
use Rattle.pp_turns_law.specs.Turns.{IsFollowing, ShowsTurn}
use Rattle.pp_flow_law.proofs.Entries.{none_some}
use Rattle.pp_flow_law.proofs.Framed.{frames as flow_frames}
use Rattle.pp_flow_law.specs.Tables.{Leaving}
use Rattle.pp_turns_law.specs.Nexts.{IsNext}
use Rattle.pp_law.specs.Connections.{anew, exchange}
use Rattle.pp_law.specs.Lists.{Bytes, has_number, is_some_with}
use Rattle.pp_law.specs.Replies.{is_regained as is_regained_by_law, regained as regained_by_law, regained_by}
use Rattle.pp_law.specs.Requests.{Front}
use Rattle.pp_law.specs.Stages.{passed_of, reply_of}
use Rattle.pp_law.specs.State.{State, Client, Passed}
use Rattle.pp_law.specs.Table.{Next, follows, is_next_held, next_in, next_of as next_of_law}
use Rattle.pp_peers.specs.declared.peers.Peer.{Peer}
use Rattle.pp_seats.specs.Follows.{answer_in, next_by, next_of}
use Rattle.pp_seats.specs.Heads.{is_there_in}
use Rattle.pp_seats.specs.Seats.{is_silent, is_undecided_in, passed_in}
use Rattle.pp_seats.specs.declared.seat.Course.TheVariants.{Trying as IsTrying}
use Rattle.pp_seats.specs.declared.seat.Next.{Next as SeatNext}
use Rattle.pp_seats.specs.declared.seat.Passed.{Passed as SeatPassed}
use Rattle.pp_seats.specs.declared.seat.Seat.{Seat}
use Rattle.pp_seats.specs.declared.seat.Stage.{Stage as SeatStage}
use Rattle.pp_seats.specs.declared.seat.Stage.TheVariants.{Undecided as IsUndecided, Waiting as IsWaiting, Passing as IsPassing, Answering as IsAnswering}
use Rattle.pp_seats_law.proofs.Fates.{counts_anew}
use Rattle.pp_seats_law.proofs.Nexts.{nexts}
use Rattle.pp_seats_law.proofs.Stages.{passed}
use Rattle.pp_seats_law.specs.Clients.{AreShown}
use Rattle.pp_seats_law.specs.Seats.{ShowsSeat}
use Rattle.pp_seats_law.specs.Words.{ShowsMaybePassed, ShowsNext}
use Rattle.pp_states_law.proofs.Asked.{all_as, frames, itself}
use Rattle.pp_state.specs.Ends.{AreInOrder, all_regained, changed_at, is_held_next, is_regained, numbers_of, regained}
use Rattle.pp_state.specs.declared.state.State.{State as Turn}
use Rattle.pp_turns_law.proofs.Asleep.{silent_first}
use Rattle.pp_turns_law.specs.Regains.{RegainsAreTheLaws}
use Rattle.pp_turns_law.proofs.Each.{Each, maps_none}

-- ---- one seat is changed

pub next_suc : (j i : ℕ) → (suc j == suc i) ≡ (j == i)
next_suc j i = grind (arith, nat_tests)

itself_is : (n : ℕ) → (n == n) ≡ true
itself_is n = grind (arith, nat_tests)

pub get_other : (j i : ℕ) (seats : List Seat) (y : Seat) → (j == i) ≡ false → slice_get (slice_set seats j y) i ≡ slice_get seats i
get_other j i [] y isnt = refl
get_other zero zero (seat ∷ seats) y isnt = absurd (cc (sym (itself_is 0) ∙ isnt))
get_other zero (suc i) (seat ∷ seats) y isnt = refl
get_other (suc j) zero (seat ∷ seats) y isnt = refl
get_other (suc j) (suc i) (seat ∷ seats) y isnt = get_other j i seats y (sym (next_suc j i) ∙ isnt)

-- ---- each of those is looked at once or more, and the others stay

twice : (m : Memory) (seat : Seat) → regained m (regained m seat) ≡ regained m seat
twice m seat = by (is_regained m seat) refl
  where
    at : (b : Bool) → cond b (record seat { course = IsTrying 0 }) (record seat { course = IsTrying 0 }) ≡ record seat { course = IsTrying 0 }
    at true = refl
    at false = refl

    by : (b : Bool) → is_regained m seat ≡ b → regained m (cond b (record seat { course = IsTrying 0 }) seat) ≡ cond b (record seat { course = IsTrying 0 }) seat
    by true is = at (is_regained m seat)
    by false is = ap (λ (b : Bool). cond b (record seat { course = IsTrying 0 }) seat) is

fixed_on : (m : Memory) (j : ℕ) (js : List ℕ) (seats : List Seat) → ((i : ℕ) (seat : Seat) → slice_get seats i ≡ Some seat → has_number i (j ∷ js) ≡ false → regained m seat ≡ seat)
    → (i : ℕ) (x : Seat) → slice_get (changed_at j (regained m) seats) i ≡ Some x → has_number i js ≡ false → regained m x ≡ x
fixed_on m j js seats still i x there isnt = by (slice_get seats j) (j == i) refl refl there
  where
    by : (o : Option Seat) (b : Bool) → slice_get seats j ≡ o → (j == i) ≡ b → slice_get (elim o as (λ t. List Seat) [ None ↦ seats | Some seat ↦ slice_set seats j (regained m seat) ]) i ≡ Some x → regained m x ≡ x
    by None true here same at = absurd (none_some x (sym here ∙ ap (λ (k : ℕ). slice_get seats k) (is_same j i same) ∙ at))
    by None false here apart at = still i x at (ap (λ (b : Bool). b || has_number i js) apart ∙ isnt)
    by (Some seat) true here same at =
        let one : regained m seat ≡ x = some_is (regained m seat) x (sym (get_set j seats seat (regained m seat) here) ∙ ap (λ (k : ℕ). slice_get (slice_set seats j (regained m seat)) k) (is_same j i same) ∙ at) in
        subst (λ (y : Seat). regained m y ≡ y) one (twice m seat)
    by (Some seat) false here apart at = still i x (sym (get_other j i seats (regained m seat) apart) ∙ at) (ap (λ (b : Bool). b || has_number i js) apart ∙ isnt)

each_at : (P : Seat → Type 0) (seats : List Seat) → ((i : ℕ) (seat : Seat) → slice_get seats i ≡ Some seat → P seat) → Each P seats
each_at P [] all = tt
each_at P (seat ∷ seats) all = (all 0 seat refl, each_at P seats (λ i x at. all (suc i) x at))

all_fixed : (m : Memory) (places : List ℕ) (seats : List Seat) → ((i : ℕ) (seat : Seat) → slice_get seats i ≡ Some seat → has_number i places ≡ false → regained m seat ≡ seat)
    → Each (λ seat. regained m seat ≡ seat) (all_regained m places seats)
all_fixed m [] seats still = each_at (λ seat. regained m seat ≡ seat) seats (λ i seat at. still i seat at refl)
all_fixed m (j ∷ js) seats still = all_fixed m js (changed_at j (regained m) seats) (fixed_on m j js seats still)

changed_map : (m : Memory) (j : ℕ) (seats : List Seat) → map (regained m) (changed_at j (regained m) seats) ≡ map (regained m) seats
changed_map m j seats = by (slice_get seats j) refl
  where
    set : (k : ℕ) (xs : List Seat) (seat : Seat) → slice_get xs k ≡ Some seat → map (regained m) (slice_set xs k (regained m seat)) ≡ map (regained m) xs
    set k [] seat at = refl
    set zero (x ∷ xs) seat at = ap (λ (y : Seat). y ∷ map (regained m) xs) (twice m seat ∙ ap (regained m) (sym (some_is x seat at)))
    set (suc k) (x ∷ xs) seat at = ap (λ (ys : List Seat). regained m x ∷ ys) (set k xs seat at)

    by : (o : Option Seat) → slice_get seats j ≡ o → map (regained m) (elim o as (λ t. List Seat) [ None ↦ seats | Some seat ↦ slice_set seats j (regained m seat) ]) ≡ map (regained m) seats
    by None at = refl
    by (Some seat) at = set j seats seat at

all_map : (m : Memory) (places : List ℕ) (seats : List Seat) → map (regained m) (all_regained m places seats) ≡ map (regained m) seats
all_map m [] seats = refl
all_map m (j ∷ js) seats = all_map m js (changed_at j (regained m) seats) ∙ changed_map m j seats

all_same : (m : Memory) (places : List ℕ) (seats : List Seat) → ((i : ℕ) (seat : Seat) → slice_get seats i ≡ Some seat → has_number i places ≡ false → regained m seat ≡ seat) → all_regained m places seats ≡ map (regained m) seats
all_same m places seats still = sym (maps_none (regained m) (all_regained m places seats) (all_fixed m places seats still)) ∙ all_map m places seats

-- ---- who is asleep follows nothing

pub next_none : (seat : Seat) → is_undecided_in seat.stage ≡ true → next_of seat ≡ None
next_none seat is = by seat.is_closing (at seat.stage is)
  where
    at : (t : SeatStage) → is_undecided_in t ≡ true → next_by (answer_in t) seat.client.reply ≡ None
    at IsUndecided un = refl
    at IsWaiting un = absurd (cc un)
    at IsPassing un = absurd (cc un)
    at (IsAnswering a) un = absurd (cc un)

    by : (b : Bool) → next_by (answer_in seat.stage) seat.client.reply ≡ None → (elim b as (λ t. Option SeatNext) [ true ↦ None | false ↦ next_by (answer_in seat.stage) seat.client.reply ]) ≡ None
    by true none = refl
    by false none = none

asleep_same : (m : Memory) (seat : Seat) → is_silent seat ≡ true → regained m seat ≡ seat
asleep_same m seat silent =
    ap (λ (o : Option SeatNext). cond (is_held_next o m && not (is_some (passed_in seat.brought))) (record seat { course = IsTrying 0 }) seat)
    (next_none seat (silent_first (is_undecided_in seat.stage) (not (is_there_in seat.front)) (not seat.has_hung_up) (not seat.is_closing) silent))

-- ---- one seat

as_passed : (name : Bytes) (said : Said) (front : Front) (x : Option SeatPassed) (p : Option Passed) → ShowsMaybePassed name said front x p → is_some x ≡ is_some p
as_passed name said front None None shows = refl
as_passed name said front (Some x) (Some p) shows = refl
as_passed name said front None (Some p) shows = absurd shows
as_passed name said front (Some x) None shows = absurd shows

module _ (number : ℕ → ℕ) (l : Leaving) (peers : List Peer) (p : Turn) (s : State) (shows : ShowsTurn number l peers p s) where
  held_as : (name : Bytes) (seat : Seat) (c : Client) → ShowsSeat number name [] seat c → (c.is_closing ≡ false → IsFollowing p.cache seat) → is_held_next (next_of seat) p.cache ≡ is_some_with (is_next_held s) (next_of_law s c)
  held_as name seat c seen there = by c.is_closing refl
    where
      at : (x : Option SeatNext) (k : Option Next) → ShowsNext number x k → ((n : SeatNext) (j : Next) → x ≡ Some n → k ≡ Some j → IsNext number p.cache s n j) → is_held_next x p.cache ≡ is_some_with (is_next_held s) k
      at None None same one = refl
      at (Some n) (Some j) same one =
          let next : IsNext number p.cache s n j = one n j refl refl in
          held_of number p.cache s shows.steps.shows.table.table n.source j.source next.there next.known n.at ∙ ap (λ (i : ℕ). is_next_held s (record j { at = i })) next.at
      at None (Some j) same one = absurd same
      at (Some n) None same one = absurd same

      by : (b : Bool) → c.is_closing ≡ b → is_held_next (next_of seat) p.cache ≡ is_some_with (is_next_held s) (next_of_law s c)
      by true closing =
          ap (λ (b : Bool). is_held_next (elim b as (λ t. Option SeatNext) [ true ↦ None | false ↦ next_by (answer_in seat.stage) seat.client.reply ]) p.cache) (seen.closing ∙ closing)
          ∙ sym (ap (λ (b : Bool). is_some_with (is_next_held s) (elim b as (λ t. Option Next) [ true ↦ None | false ↦ elim (reply_of c) as (λ t. Option Next) [ None ↦ None | Some r ↦ next_in s r ] ])) closing)
      by false going =
          at (next_of seat) (next_of_law s c) (nexts number s name [] seat c seen (λ on. has_source number l peers p s name seat c shows seen going (there going)))
          (λ n j own law. is_next number l peers p s name seat c n j shows seen going (there going) own law
          (subst (λ (y : Option Next). ShowsNext number (Some n) y) law (subst (λ (x : Option SeatNext). ShowsNext number x (next_of_law s c)) own (nexts number s name [] seat c seen (λ on. has_source number l peers p s name seat c shows seen going (there going))))))

  as_regained : (name : Bytes) (seat : Seat) (c : Client) → ShowsSeat number name [] seat c → (c.is_closing ≡ false → IsFollowing p.cache seat) → is_regained p.cache seat ≡ is_regained_by_law s c
  as_regained name seat c seen there = by c.is_closing refl
    where
      by : (b : Bool) → c.is_closing ≡ b → is_regained p.cache seat ≡ is_regained_by_law s c
      by true closing =
          ap (λ (b : Bool). is_held_next (elim b as (λ t. Option SeatNext) [ true ↦ None | false ↦ next_by (answer_in seat.stage) seat.client.reply ]) p.cache && not (is_some (passed_in seat.brought))) (seen.closing ∙ closing)
          ∙ sym (ap (λ (b : Bool). is_some_with (is_next_held s) (elim b as (λ t. Option Next) [ true ↦ None | false ↦ elim (reply_of c) as (λ t. Option Next) [ None ↦ None | Some r ↦ next_in s r ] ]) && not (is_some (passed_of c))) closing)
      by false going =
          ap₂ (λ (held passes : Bool). held && not passes) (held_as name seat c seen there)
          (as_passed name seat.client.reply c.front (passed_in seat.brought) (passed_of c) (passed number name [] seat c (seen.going going)))

  one_regains : (name : Bytes) (seat : Seat) (c : Client) → ShowsSeat number name [] seat c → (c.is_closing ≡ false → IsFollowing p.cache seat) → ShowsSeat number name [] (regained p.cache seat) (regained_by s c)
  one_regains name seat c seen there = by (is_regained p.cache seat) (is_regained_by_law s c) (as_regained name seat c seen there)
    where
      by : (a b : Bool) → a ≡ b → ShowsSeat number name [] (cond a (record seat { course = IsTrying 0 }) seat) (elim b as (λ t. Client) [ true ↦ record c { course = anew c.course } | false ↦ c ])
      by true true same = counts_anew number name [] seat c seen
      by false false same = seen
      by true false same = absurd (cc same)
      by false true same = absurd (cc same)

  all_regain : (name : Bytes) (seats : List Seat) (cs : List Client) → AreShown number name [] seats cs → ((i : ℕ) (seat : Seat) → slice_get seats i ≡ Some seat → seat.is_closing ≡ false → IsFollowing p.cache seat)
      → AreShown number name [] (map (regained p.cache) seats) (map (regained_by s) cs)
  all_regain name [] [] shown there = tt
  all_regain name [] (c ∷ cs) shown there = absurd shown
  all_regain name (seat ∷ seats) [] shown there = absurd shown
  all_regain name (seat ∷ seats) (c ∷ cs) shown there =
      (one_regains name seat c shown.0 (λ going. there 0 seat refl (shown.0.closing ∙ going)), all_regain name seats cs shown.1 (λ i x at. there (suc i) x at))

-- ---- in all

same_numbers : (m : Memory) (seats : List Seat) → numbers_of (map (regained m) seats) ≡ numbers_of seats
same_numbers m [] = refl
same_numbers m (seat ∷ seats) = ap₂ (λ (n : ℕ) (ns : List ℕ). n ∷ ns) (by (is_regained m seat)) (same_numbers m seats)
  where
    by : (b : Bool) → (cond b (record seat { course = IsTrying 0 }) seat).client.id ≡ seat.client.id
    by true = refl
    by false = refl

follows_same : (s : State) (id : ℕ) (c : Client) → follows id (regained_by s c) ≡ follows id c
follows_same s id c = by (is_regained_by_law s c)
  where
    by : (b : Bool) → follows id (elim b as (λ t. Client) [ true ↦ record c { course = anew c.course } | false ↦ c ]) ≡ follows id c
    by true = refl
    by false = refl

pub regains : RegainsAreTheLaws
unfolding regained_by_law
regains number l peers p q s shows awake follow has =
    let m : Memory = p.cache in
    let still : (i : ℕ) (seat : Seat) → slice_get p.seats.items i ≡ Some seat → has_number i p.awake.items ≡ false → regained m seat ≡ seat = λ i seat at isnt. asleep_same m seat (awake.others i seat at isnt).silent in
    let items : q.seats.items ≡ map (regained m) p.seats.items = has.seats ∙ all_same m p.awake.items p.seats.items still in
    let same : q ≡ record p { seats = q.seats } = ap (λ (t : Turn). record t { seats = q.seats }) has.rest in
    subst (λ (t : Turn). ShowsTurn number l peers t (regained_by_law s)) (sym same) (record {
      steps = record {
        shows = record {
          clients = subst (λ (seats : List Seat). AreShown number p.name.items [] seats (map (regained_by s) s.clients)) (sym items) (all_regain number l peers p s shows p.name.items p.seats.items s.clients shows.steps.shows.clients follow);
          exchanges = flow_frames number l p.flow s shows.steps.shows.exchanges l (regained_by_law s) (record { exchanges = refl; next = refl; lines = λ k. refl });
          table =
              frames_of number m s shows.steps.shows.table m (regained_by_law s) (record { instances = refl; lives = refl; chunks = refl; extents = refl })
              (record { instances = refl; made = the_same s.next_instance; chunks = refl; followers = λ id. count_mapped_same (follows id) (regained_by s) s.clients (follows_same s id); kept = λ x. refl });
          conns = frames s (regained_by_law s) peers s.conns (all_as s (regained_by_law s) (λ k. itself (exchange s k)) s.conns) shows.steps.shows.conns;
        };
        order = subst (λ (seats : List Seat). AreInOrder (numbers_of seats)) (sym items) (subst (λ (ns : List ℕ). AreInOrder ns) (sym (same_numbers m p.seats.items)) shows.steps.order);
        told = shows.steps.told;
        refused = shows.steps.refused;
      };
      name = shows.name;
      shares = shows.shares;
      clock = shows.clock;
      ticked = shows.ticked;
      stopped = shows.stopped;
      bounded = shows.bounded;
    })
