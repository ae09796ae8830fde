-- Where the furthest follower of what an exchange is bound to stands is where the law has it.
use Rattle.std.proofs.Common.{arith, ◌≡◌, ◌<◌, ◌≤◌, refl, sym, subst, ap, ap₂, ◌∙◌, ℕ, suc, ◌+◌, max, Bool, true, false, not, ◌&&◌, ◌||◌, ◌==◌, cond, List, [], ◌∷◌, length, Option, Some, None}
use Rattle.std.specs.Prelude.{option_and_then, slice_get}
use Rattle.std.specs.List.{cons_option, filter_map, reduce}
use Rattle.std.proofs.lemmas.Bool.Decides.{nat_tests}
use Rattle.pp_cache.specs.Memory.{Memory}
use Rattle.pp_cache_law.proofs.Numbers.{some_is}
use Rattle.pp_flow_law.specs.Tables.{AreGiven, Leaving}
use Rattle.pp_law.specs.Lists.{has_number}
use Rattle.pp_law.specs.State.{State, Bound, Client}
use Rattle.pp_law.specs.Table.{Next, next_of as next_by_law}
use Rattle.pp_law.specs.Unseen.{at_of as at_by_law, furthest_at}
use Rattle.pp_objects.specs.Instances.{is_same_id}
use Rattle.pp_objects.specs.declared.id.ObjectId.{ObjectId}
use Rattle.pp_peers.specs.declared.peers.Peer.{Peer}
use Rattle.pp_seats.specs.Follows.{answer_in, next_by, next_of}
use Rattle.pp_seats.specs.Heads.{is_there_in}
use Rattle.pp_seats.specs.Seats.{is_silent, is_undecided_in}
use Rattle.pp_seats.specs.declared.seat.Next.{Next as SeatNext}
use Rattle.pp_seats.specs.declared.seat.Seat.{Seat}
use Rattle.pp_seats.specs.declared.seat.Stage.{Stage as SeatStage}
use Rattle.pp_seats.specs.declared.seat.Stage.TheVariants.{Undecided, Waiting, Passing, Answering}
use Rattle.pp_seats_law.proofs.Nexts.{nexts}
use Rattle.pp_seats_law.specs.Exchanges.{Binding, IsBoundAs, ShowsBound}
use Rattle.pp_seats_law.specs.Words.{ShowsNext}
use Rattle.pp_state.specs.Readers.{at_of, furthest, next_at}
use Rattle.pp_state.specs.Unseen.{wanted_of}
use Rattle.pp_state.specs.declared.state.State.{State as Turn}
use Rattle.pp_states_law.specs.Told.{IsTold, IsToldBy}
use Rattle.pp_turns_law.proofs.Asleep.{silent_first}
use Rattle.pp_turns_law.proofs.First.{IsShownAt, above, seat_shown}
use Rattle.pp_turns_law.proofs.Follows.{has_source, is_next}
use Rattle.pp_turns_law.proofs.Wanted.{same_length}
use Rattle.pp_turns_law.specs.Marks.{AreLoud}
use Rattle.pp_turns_law.specs.Nexts.{IsNext}
use Rattle.pp_turns_law.specs.Wants.{ShowsEnd}

-- ---- those that are looked at, of all

below : (low next : ℕ) (ns : List ℕ) → AreGiven low next ns → low ≤ next
below low next [] given = given
below low next (n ∷ ns) given = omega (arith, given.0, below (n + 1) next ns given.1)

same_number : (n m : ℕ) → (n == m) ≡ true → n ≡ m
same_number n m is = grind (arith, nat_tests)

other_number : (n m : ℕ) → (n == m) ≡ false → m ≤ n → m + 1 ≤ n
other_number n m isnt less = grind (arith, nat_tests)

apart : (n j : ℕ) → n < j → (n == j) ≡ false
apart n j less = grind (arith, nat_tests, less)

shift : (low i : ℕ) → low + 1 + i ≡ low + suc i
shift low i = omega arith

no_more : (low : ℕ) → low + 0 ≡ low
no_more low = omega arith

none_more : (i : ℕ) → 0 + i ≡ i
none_more i = omega arith

one_more : (low n : ℕ) → low + suc n ≡ low + 1 + n
one_more low n = omega arith

before : (low n i : ℕ) → n ≡ low → n < low + suc i
before low n i here = omega (arith, here)

module _ (f : ℕ → Option ℕ) (g : Seat → Option ℕ) where
  abbrev IsSame : ℕ → List Seat → Type 0
  IsSame low seats = (i : ℕ) (seat : Seat) → slice_get seats i ≡ Some seat → f (low + i) ≡ g seat

  abbrev IsNone : ℕ → List Seat → List ℕ → Type 0
  IsNone low seats awake = (i : ℕ) (seat : Seat) → slice_get seats i ≡ Some seat → has_number (low + i) awake ≡ false → g seat ≡ None

  abbrev IsPicked : ℕ → List Seat → List ℕ → Type 0
  IsPicked low seats awake = AreGiven low (low + length seats) awake → IsSame low seats → IsNone low seats awake → filter_map f awake ≡ filter_map g seats

  same_later : (low : ℕ) (seat : Seat) (seats : List Seat) → IsSame low (seat ∷ seats) → IsSame (low + 1) seats
  same_later low seat seats same i other there = ap f (shift low i) ∙ same (suc i) other there

  pick : (low : ℕ) (seat : Seat) (seats : List Seat) (n : ℕ) (ns : List ℕ) (b : Bool) → (n == low) ≡ b → AreGiven low (low + length (seat ∷ seats)) (n ∷ ns) → IsSame low (seat ∷ seats) → IsNone low (seat ∷ seats) (n ∷ ns)
      → IsPicked (low + 1) seats ns → IsPicked (low + 1) seats (n ∷ ns) → filter_map f (n ∷ ns) ≡ filter_map g (seat ∷ seats)
  pick low seat seats n ns true is given same none rest all =
      let here : n ≡ low = same_number n low is in
      ap₂ (λ (o : Option ℕ) (more : List ℕ). cons_option o more) (ap f (here ∙ sym (no_more low)) ∙ same 0 seat refl)
      (rest (subst (λ (k : ℕ). AreGiven (low + 1) k ns) (one_more low (length seats)) (subst (λ (k : ℕ). AreGiven (k + 1) (low + length (seat ∷ seats)) ns) here given.1)) (same_later low seat seats same)
      (λ i other there isnt. none (suc i) other there (ap (λ (b : Bool). b || has_number (low + suc i) ns) (apart n (low + suc i) (before low n i here)) ∙ ap (λ (k : ℕ). has_number k ns) (sym (shift low i)) ∙ isnt)))
  pick low seat seats n ns false isnt given same none rest all =
      let behind : low + 1 ≤ n = other_number n low isnt given.0 in
      all (behind, subst (λ (k : ℕ). AreGiven (n + 1) k ns) (one_more low (length seats)) given.1) (same_later low seat seats same)
      (λ i other there off. none (suc i) other there (ap (λ (k : ℕ). has_number k (n ∷ ns)) (sym (shift low i)) ∙ off))
      ∙ ap (λ (o : Option ℕ). cons_option o (filter_map g seats)) (sym (none 0 seat refl (ap (λ (k : ℕ). has_number k (n ∷ ns)) (no_more low) ∙ above (low + 1) (low + length (seat ∷ seats)) low (n ∷ ns) (behind, given.1) (omega arith))))

  picked : (low : ℕ) (seats : List Seat) (awake : List ℕ) → IsPicked low seats awake
  picked low [] [] given same none = refl
  picked low [] (n ∷ ns) given same none = let more : n + 1 ≤ low + 0 = below (n + 1) (low + 0) ns given.1 in absurd (omega (arith, more, given.0))
  picked low (seat ∷ seats) [] given same none =
      picked (low + 1) seats [] (omega arith) (same_later low seat seats same) (λ i other there isnt. none (suc i) other there refl) ∙ ap (λ (o : Option ℕ). cons_option o (filter_map g seats)) (sym (none 0 seat refl refl))
  picked low (seat ∷ seats) (n ∷ ns) given same none = pick low seat seats n ns (n == low) refl given same none (picked (low + 1) seats ns) (picked (low + 1) seats (n ∷ ns))

-- ---- one follower

undecided_none : (stage : SeatStage) → is_undecided_in stage ≡ true → stage ≡ Undecided
undecided_none Undecided is = refl
undecided_none Waiting is = absurd (cc is)
undecided_none Passing is = absurd (cc is)
undecided_none (Answering a) is = absurd (cc is)

-- one that is silent follows nothing
silent_none : (seat : Seat) → is_silent seat ≡ true → next_of seat ≡ None
silent_none seat silent =
    let stage : seat.stage ≡ Undecided = undecided_none seat.stage (silent_first (is_undecided_in seat.stage) (not (is_there_in seat.front)) (not seat.has_hung_up) (not seat.is_closing) silent) in
    ap (λ (t : SeatStage). elim seat.is_closing as (λ c. Option SeatNext) [ true ↦ None | false ↦ next_by (answer_in t) seat.client.reply ]) stage ∙ by seat.is_closing
  where
    by : (b : Bool) → (elim b as (λ c. Option SeatNext) [ true ↦ None | false ↦ None ]) ≡ None
    by true = refl
    by false = refl

either_way : (i j : ℕ) → (i == j) ≡ (j == i)
either_way i j = grind (arith, nat_tests)

same_ids : (a b : ObjectId) → is_same_id a b ≡ is_same_id b a
same_ids a b = ap₂ (λ (x y : Bool). x && y) (either_way a.slot b.slot) (either_way a.life b.life)

abbrev at_if : Bool → ℕ → Option ℕ
at_if same at = elim same as (λ c. Option ℕ) [ true ↦ Some at | false ↦ None ]

chosen : (same : Bool) (at : ℕ) → cond same (Some at) None ≡ at_if same at
chosen true at = refl
chosen false at = refl

abbrev at_next : Bound → Option Next → Option ℕ
at_next b v = elim v as (λ c. Option ℕ) [ None ↦ None | Some n ↦ at_if (n.source.id == b.instance) n.at ]

module _ (number : ℕ → ℕ) (m : Memory) (s : State) (x : Binding) (far : ℕ) (b : Bound) (bound : IsBoundAs number x far b) (told : IsTold number m s.next_instance x.0) where
  source_same : (u : SeatNext) (n : Next) → IsNext number m s u n → number u.source.life ≡ n.source.id → is_same_id u.source x.0 ≡ (n.source.id == b.instance)
  source_same u n next same =
      same_ids u.source x.0 ∙ told.apart u.source next.there ∙ either_way (number x.0.life) (number u.source.life) ∙ ap₂ (λ (i j : ℕ). i == j) same bound.joined

  at_same : (u : Option SeatNext) (v : Option Next) → ShowsNext number u v → ((y : SeatNext) (n : Next) → u ≡ Some y → v ≡ Some n → IsNext number m s y n) → at_of x.0 u ≡ at_next b v
  at_same None None shows next = refl
  at_same None (Some n) shows next = absurd shows
  at_same (Some u) None shows next = absurd shows
  at_same (Some u) (Some n) shows next =
      let one : IsNext number m s u n = next u n refl refl in
      ap₂ (λ (same : Bool) (at : ℕ). cond same (Some at) None) (source_same u n one shows.source) one.at ∙ chosen (n.source.id == b.instance) n.at

-- ---- all of them

module _ (number : ℕ → ℕ) (l : Leaving) (peers : List Peer) (p : Turn) (s : State) (end : ShowsEnd number l peers p s) (loud : AreLoud p) where
  next_shown : (i : ℕ) (one : IsShownAt number p.name.items p.seats.items s.clients i) → ShowsNext number (next_of one.seat) (next_by_law s one.client)
  next_shown i one =
      nexts number s p.name.items [] one.seat one.client one.shows
      (λ on. has_source number l peers p s p.name.items one.seat one.client end.turn one.shows (end.going i one.client one.there) (end.follows i one.seat one.here))

  next_there : (i : ℕ) (one : IsShownAt number p.name.items p.seats.items s.clients i) (y : SeatNext) (n : Next) → next_of one.seat ≡ Some y → next_by_law s one.client ≡ Some n → IsNext number p.cache s y n
  next_there i one y n its law =
      is_next number l peers p s p.name.items one.seat one.client y n end.turn one.shows (end.going i one.client one.there) (end.follows i one.seat one.here) its law
      (subst (λ (v : Option Next). ShowsNext number (Some y) v) law (subst (λ (u : Option SeatNext). ShowsNext number u (next_by_law s one.client)) its (next_shown i one)))

  of_awake : (id : ObjectId) → filter_map (λ i. at_of id (next_at p.seats.items i)) p.awake.items ≡ filter_map (λ seat. at_of id (next_of seat)) p.seats.items
  of_awake id =
      picked (λ i. at_of id (next_at p.seats.items i)) (λ seat. at_of id (next_of seat)) 0 p.seats.items p.awake.items
      (subst (λ (n : ℕ). AreGiven 0 n p.awake.items) (sym (none_more (length p.seats.items))) loud.order)
      (λ i seat there. ap (λ (n : ℕ). at_of id (next_at p.seats.items n)) (none_more i) ∙ ap (λ (o : Option Seat). at_of id (option_and_then next_of o)) there)
      (λ i seat there isnt. ap (λ (o : Option SeatNext). at_of id o) (silent_none seat (loud.others i seat there (ap (λ (n : ℕ). has_number n p.awake.items) (sym (none_more i)) ∙ isnt))))

  module _ (x : Binding) (far : ℕ) (b : Bound) (bound : IsBoundAs number x far b) (told : IsTold number p.cache s.next_instance x.0) where
    one_at : (i : ℕ) (seat : Seat) (c : Client) → slice_get p.seats.items i ≡ Some seat → slice_get s.clients i ≡ Some c → at_of x.0 (next_of seat) ≡ at_by_law s b c
    one_at i seat c there known =
        let one : IsShownAt number p.name.items p.seats.items s.clients i = seat_shown number p.name.items p.seats.items s.clients i seat end.turn.steps.shows.clients there in
        ap (λ (y : Seat). at_of x.0 (next_of y)) (some_is seat one.seat (sym there ∙ one.here))
        ∙ at_same number p.cache s x far b bound told (next_of one.seat) (next_by_law s one.client) (next_shown i one) (λ y n its law. next_there i one y n its law)
        ∙ ap (λ (d : Client). at_by_law s b d) (some_is one.client c (sym one.there ∙ known))

    all_at : (seats : List Seat) (cs : List Client) → ((i : ℕ) (seat : Seat) (c : Client) → slice_get seats i ≡ Some seat → slice_get cs i ≡ Some c → at_of x.0 (next_of seat) ≡ at_by_law s b c) → length seats ≡ length cs
        → filter_map (λ seat. at_of x.0 (next_of seat)) seats ≡ filter_map (at_by_law s b) cs
    all_at [] [] each same = refl
    all_at [] (c ∷ cs) each same = absurd (omega (arith, same))
    all_at (seat ∷ seats) [] each same = absurd (omega (arith, same))
    all_at (seat ∷ seats) (c ∷ cs) each same =
        ap₂ (λ (o : Option ℕ) (rest : List ℕ). cons_option o rest) (each 0 seat c refl refl) (all_at seats cs (λ i other d there known. each (suc i) other d there known) (omega (arith, same)))

    furthest_same : furthest x.0 p.awake.items p.seats.items ≡ furthest_at s b
    furthest_same =
        ap (λ (ns : List ℕ). reduce max ns) (of_awake x.0)
        ∙ ap (λ (ns : List ℕ). reduce max ns) (all_at p.seats.items s.clients one_at (same_length number p.name.items p.seats.items s.clients end.turn.steps.shows.clients))

  -- of what an exchange is bound to
  abbrev pub wanted_by : Option Bound → Option ℕ
  wanted_by v = elim v as (λ c. Option ℕ) [ None ↦ None | Some b ↦ furthest_at s b ]

  pub wanted_same : (u : Option Binding) (v : Option Bound) → ShowsBound number u v → IsToldBy number p.cache s.next_instance u → wanted_of p.awake.items p.seats.items u ≡ wanted_by v
  wanted_same None None shows told = refl
  wanted_same None (Some b) shows told = absurd shows
  wanted_same (Some x) None shows told = absurd shows
  wanted_same (Some x) (Some b) shows told = furthest_same x shows.0 b shows.1 told
