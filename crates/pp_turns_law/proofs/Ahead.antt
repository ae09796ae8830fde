-- What comes of an exchange is far ahead of all its readers where it is by the law.
use Rattle.std.proofs.Common.{arith, ◌≡◌, ◌<◌, ◌≤◌, refl, sym, subst, ap, ap₂, ◌∙◌, ℕ, suc, ◌+◌, ◌/◌, max, Bool, true, false, not, ◌&&◌, ◌||◌, ◌==◌, cond, nat_le, List, [], ◌∷◌, length, Option, Some, None}
use Rattle.std.specs.Prelude.{option_and_then, slice_get}
use Rattle.std.specs.List.{cons_option, filter_map, reduce}
use Rattle.std.proofs.lemmas.Bool.Decides.{nat_tests}
use Rattle.pp_turns_law.proofs.Comes.{shown_as}
use Rattle.pp_turns_law.specs.Nexts.{IsNext}
use Rattle.pp_cache.specs.Memory.{Memory}
use Rattle.pp_cache_law.proofs.Alike.{held_of, instances_of}
use Rattle.pp_cache_law.proofs.Numbers.{true_false}
use Rattle.pp_cache_law.specs.Reads.{IsFound}
use Rattle.pp_cache_law.specs.Tables.{ShowsTable}
use Rattle.pp_turns_law.proofs.Follows.{has_source, is_next}
use Rattle.pp_flow_law.specs.Tables.{AreGiven, Leaving}
use Rattle.pp_law.specs.Lists.{has_number, is_some_with}
use Rattle.pp_law.specs.Served.{furthest_read as furthest_by_law, is_brought_to as is_brought_by_law, is_past as is_past_by_law, read_at as read_by_law}
use Rattle.pp_law.specs.Stages.{bound_of}
use Rattle.pp_law.specs.State.{State, Bound, Client, Instance as Known}
use Rattle.pp_law.specs.Table.{Next, instance, is_held as is_held_by_law, next_of as next_by_law}
use Rattle.pp_objects.specs.Instances.{is_same_id, is_there}
use Rattle.pp_objects.specs.declared.id.ObjectId.{ObjectId}
use Rattle.pp_peers.specs.declared.peers.Peer.{Peer}
use Rattle.pp_plan.specs.Need.{is_near}
use Rattle.pp_seats.specs.Follows.{answer_in, next_by, next_of}
use Rattle.pp_seats.specs.Seats.{is_silent, is_undecided_in}
use Rattle.pp_seats.specs.Heads.{is_there_in}
use Rattle.pp_seats.specs.declared.seat.Next.{Next as SeatNext}
use Rattle.pp_seats.specs.declared.seat.Seat.{Seat}
use Rattle.pp_seats.specs.declared.seat.Stage.{Stage as SeatStage}
use Rattle.pp_seats.specs.declared.seat.Stage.TheVariants.{Undecided, Waiting, Passing, Answering}
use Rattle.pp_seats_law.proofs.Entries.{exchanges}
use Rattle.pp_seats_law.proofs.Nexts.{nexts}
use Rattle.pp_seats_law.specs.Exchanges.{Binding, IsBoundAs, IsTheLaws, ShowsBound}
use Rattle.pp_seats_law.specs.Words.{ShowsNext}
use Rattle.pp_state.specs.Bringing.{is_held}
use Rattle.pp_state.specs.Readers.{furthest_read, is_far_ahead, is_past_read, next_at, read_at}
use Rattle.pp_state.specs.declared.state.State.{State as Turn}
use Rattle.pp_states_law.proofs.Told.{told_of}
use Rattle.pp_states_law.specs.Told.{IsTold, IsToldBy}
use Rattle.pp_turns_law.proofs.Asleep.{silent_first}
use Rattle.pp_turns_law.proofs.First.{above, IsShownAt, seat_shown}
use Rattle.pp_turns_law.proofs.Reading.{same_id}
use Rattle.pp_turns_law.proofs.Wanted.{same_length}
use Rattle.pp_turns_law.specs.Firsts.{AreAwake, IsAsleep}
use Rattle.pp_turns_law.specs.Readers.{FarAheadIsTheLaws}
use Rattle.pp_turns_law.specs.Wants.{ShowsEnd}

none_some : {A : Type 0} {x : A} → None ≡ Some x → ⊥
none_some e = absurd (cc e)

same_some : {A : Type 0} {x y : A} → Some x ≡ Some y → x ≡ y
same_some e = cc e

-- ---- those that are looked at, of all

below : (low next : ℕ) (ns : List ℕ) → AreGiven low next ns → low ≤ next
below low next [] given = given
below low next (n ∷ ns) given = omega (arith, given.0, below (n + 1) next ns given.1)

same_number : (n m : ℕ) → (n == m) ≡ true → n ≡ m
same_number n m is = grind (arith, nat_tests)

other_number : (n m : ℕ) → (n == m) ≡ false → m ≤ n → m + 1 ≤ n
other_number n m isnt less = grind (arith, nat_tests)

apart : (n j : ℕ) → n < j → (n == j) ≡ false
apart n j less = grind (arith, nat_tests, less)

shift : (low i : ℕ) → low + 1 + i ≡ low + suc i
shift low i = omega arith

no_more : (low : ℕ) → low + 0 ≡ low
no_more low = omega arith

none_more : (i : ℕ) → 0 + i ≡ i
none_more i = omega arith

one_more : (low n : ℕ) → low + suc n ≡ low + 1 + n
one_more low n = omega arith

before : (low n i : ℕ) → n ≡ low → n < low + suc i
before low n i here = omega (arith, here)

module _ (f : ℕ → Option ℕ) (g : Seat → Option ℕ) where
  abbrev IsSame : ℕ → List Seat → Type 0
  IsSame low seats = (i : ℕ) (seat : Seat) → slice_get seats i ≡ Some seat → f (low + i) ≡ g seat

  abbrev IsNone : ℕ → List Seat → List ℕ → Type 0
  IsNone low seats awake = (i : ℕ) (seat : Seat) → slice_get seats i ≡ Some seat → has_number (low + i) awake ≡ false → g seat ≡ None

  abbrev IsPicked : ℕ → List Seat → List ℕ → Type 0
  IsPicked low seats awake = AreGiven low (low + length seats) awake → IsSame low seats → IsNone low seats awake → filter_map f awake ≡ filter_map g seats

  same_later : (low : ℕ) (seat : Seat) (seats : List Seat) → IsSame low (seat ∷ seats) → IsSame (low + 1) seats
  same_later low seat seats same i other there = ap f (shift low i) ∙ same (suc i) other there

  pick : (low : ℕ) (seat : Seat) (seats : List Seat) (n : ℕ) (ns : List ℕ) (b : Bool) → (n == low) ≡ b → AreGiven low (low + length (seat ∷ seats)) (n ∷ ns) → IsSame low (seat ∷ seats) → IsNone low (seat ∷ seats) (n ∷ ns)
      → IsPicked (low + 1) seats ns → IsPicked (low + 1) seats (n ∷ ns) → filter_map f (n ∷ ns) ≡ filter_map g (seat ∷ seats)
  pick low seat seats n ns true is given same none rest all =
      let here : n ≡ low = same_number n low is in
      ap₂ (λ (o : Option ℕ) (more : List ℕ). cons_option o more) (ap f (here ∙ sym (no_more low)) ∙ same 0 seat refl)
      (rest (subst (λ (k : ℕ). AreGiven (low + 1) k ns) (one_more low (length seats)) (subst (λ (k : ℕ). AreGiven (k + 1) (low + length (seat ∷ seats)) ns) here given.1)) (same_later low seat seats same)
      (λ i other there isnt. none (suc i) other there (ap (λ (b : Bool). b || has_number (low + suc i) ns) (apart n (low + suc i) (before low n i here)) ∙ ap (λ (k : ℕ). has_number k ns) (sym (shift low i)) ∙ isnt)))
  pick low seat seats n ns false isnt given same none rest all =
      let behind : low + 1 ≤ n = other_number n low isnt given.0 in
      all (behind, subst (λ (k : ℕ). AreGiven (n + 1) k ns) (one_more low (length seats)) given.1) (same_later low seat seats same)
      (λ i other there off. none (suc i) other there (ap (λ (k : ℕ). has_number k (n ∷ ns)) (sym (shift low i)) ∙ off))
      ∙ ap (λ (o : Option ℕ). cons_option o (filter_map g seats)) (sym (none 0 seat refl (ap (λ (k : ℕ). has_number k (n ∷ ns)) (no_more low) ∙ above (low + 1) (low + length (seat ∷ seats)) low (n ∷ ns) (behind, given.1) (omega arith))))

  picked : (low : ℕ) (seats : List Seat) (awake : List ℕ) → IsPicked low seats awake
  picked low [] [] given same none = refl
  picked low [] (n ∷ ns) given same none = let more : n + 1 ≤ low + 0 = below (n + 1) (low + 0) ns given.1 in absurd (omega (arith, more, given.0))
  picked low (seat ∷ seats) [] given same none =
      picked (low + 1) seats [] (omega arith) (same_later low seat seats same) (λ i other there isnt. none (suc i) other there refl) ∙ ap (λ (o : Option ℕ). cons_option o (filter_map g seats)) (sym (none 0 seat refl refl))
  picked low (seat ∷ seats) (n ∷ ns) given same none = pick low seat seats n ns (n == low) refl given same none (picked (low + 1) seats ns) (picked (low + 1) seats (n ∷ ns))

-- one that is silent follows nothing
undecided_none : (stage : SeatStage) → is_undecided_in stage ≡ true → stage ≡ Undecided
undecided_none Undecided is = refl
undecided_none Waiting is = absurd (cc is)
undecided_none Passing is = absurd (cc is)
undecided_none (Answering a) is = absurd (cc is)

-- ---- one reader

either_way : (i j : ℕ) → (i == j) ≡ (j == i)
either_way i j = grind (arith, nat_tests)

same_ids : (a b : ObjectId) → is_same_id a b ≡ is_same_id b a
same_ids a b = ap₂ (λ (x y : Bool). x && y) (either_way a.slot b.slot) (either_way a.life b.life)

at_by : Bool → Option ℕ → Option ℕ
at_by b o = elim b as (λ c. Option ℕ) [ true ↦ o | false ↦ None ]

both_ways : (same brought : Bool) (at : ℕ) → cond (same && brought) (Some at) None ≡ at_by brought (at_by same (Some at))
unfolding at_by
both_ways true true at = refl
both_ways true false at = refl
both_ways false true at = refl
both_ways false false at = refl

module _ (number : ℕ → ℕ) (m : Memory) (s : State) (table : ShowsTable number m s) (x : Binding) (far : ℕ) (b : Bound) (bound : IsBoundAs number x far b) (told : IsTold number m s.next_instance x.0) where
  reader_by : Option Next → Option ℕ
  reader_by v = elim (is_some_with (is_brought_by_law s b) v) as (λ c. Option ℕ) [
    | true ↦ elim v as (λ c. Option ℕ) [ None ↦ None | Some n ↦ elim (n.source.id == b.instance) as (λ c. Option ℕ) [ true ↦ Some n.at | false ↦ None ] ]
    | false ↦ None
  ]

  held_same : (u : SeatNext) (n : Next) → IsNext number m s u n → is_held u.source u.at m ≡ is_held_by_law s n.source n.at
  held_same u n next = held_of number m s table u.source n.source next.there next.known u.at ∙ ap (λ (at : ℕ). is_held_by_law s n.source at) next.at

  source_same : (u : SeatNext) (n : Next) → IsNext number m s u n → number u.source.life ≡ n.source.id → is_same_id u.source x.0 ≡ (n.source.id == b.instance)
  source_same u n next same =
      same_ids u.source x.0 ∙ told.apart u.source next.there ∙ either_way (number x.0.life) (number u.source.life) ∙ ap₂ (λ (i j : ℕ). i == j) same bound.joined

  brought_same : (u : SeatNext) (n : Next) → IsNext number m s u n → (nat_le u.at x.1 || ((x.3 || is_near x.1 u.at) && not (is_held u.source u.at m))) ≡ is_brought_by_law s b n
  brought_same u n next =
      ap₂ (λ (from : ℕ) (all : Bool). nat_le u.at from || ((all || is_near from u.at) && not (is_held u.source u.at m))) bound.next bound.is_all
      ∙ ap₂ (λ (at : ℕ) (held : Bool). nat_le at b.next || ((b.is_all || is_near b.next at) && not held)) next.at (held_same u n next)

  reader_same : (u : Option SeatNext) (v : Option Next) → ShowsNext number u v → ((y : SeatNext) (n : Next) → u ≡ Some y → v ≡ Some n → IsNext number m s y n) → read_at x.0 x.1 x.3 m u ≡ reader_by v
  unfolding reader_by at_by
  reader_same None None shows next = refl
  reader_same None (Some n) shows next = absurd shows
  reader_same (Some u) None shows next = absurd shows
  reader_same (Some u) (Some n) shows next =
      let one : IsNext number m s u n = next u n refl refl in
      ap₂ (λ (same brought : Bool). cond (same && brought) (Some u.at) None) (source_same u n one shows.source) (brought_same u n one)
      ∙ ap (λ (at : ℕ). cond ((n.source.id == b.instance) && is_brought_by_law s b n) (Some at) None) one.at
      ∙ both_ways (n.source.id == b.instance) (is_brought_by_law s b n) n.at

  -- an instance that is gone has no reader
  none_gone : (u : Option SeatNext) → is_there x.0 m.instances ≡ false → ((y : SeatNext) → u ≡ Some y → is_there y.source m.instances ≡ true) → read_at x.0 x.1 x.3 m u ≡ None
  none_gone None gone there = refl
  none_gone (Some u) gone there = by (is_same_id u.source x.0) refl
    where
      by : (same : Bool) → is_same_id u.source x.0 ≡ same → cond (same && (nat_le u.at x.1 || ((x.3 || is_near x.1 u.at) && not (is_held u.source u.at m)))) (Some u.at) None ≡ None
      by false is = refl
      by true is = absurd (true_false (sym (subst (λ (id : ObjectId). is_there id m.instances ≡ true) (same_id u.source x.0 is) (there u refl)) ∙ gone))

  -- ---- past the furthest

  held_there : (at : ℕ) → is_there x.0 m.instances ≡ true → is_held x.0 at m ≡ is_some_with (λ (k : Known). is_held_by_law s k at) (instance s b.instance)
  held_there at there =
      let one : IsFound number m s x.0 = instances_of number m s table x.0 there in
      held_of number m s table x.0 one.known there one.there at ∙ sym (ap (λ (o : Option Known). is_some_with (λ (k : Known). is_held_by_law s k at) o) (ap (λ (n : ℕ). instance s n) (sym bound.joined) ∙ one.there))

  past_same : (o : Option ℕ) → (is_there x.0 m.instances ≡ true) → is_past_read x.0 x.1 m o ≡ is_some_with (is_past_by_law s b) o
  past_same None there = refl
  past_same (Some at) there = ap₂ (λ (from : ℕ) (held : Bool). nat_le (at / 4096 + 256) (from / 4096) && held) bound.next (held_there at there)

-- ---- all of them

module _ (number : ℕ → ℕ) (l : Leaving) (peers : List Peer) (p : Turn) (s : State) (end : ShowsEnd number l peers p s) (awake : AreAwake p) where
  table : ShowsTable number p.cache s
  table = end.turn.steps.shows.table.table

  next_shown : (i : ℕ) (one : IsShownAt number p.name.items p.seats.items s.clients i) → ShowsNext number (next_of one.seat) (next_by_law s one.client)
  next_shown i one =
      nexts number s p.name.items [] one.seat one.client one.shows
      (λ on. has_source number l peers p s p.name.items one.seat one.client end.turn one.shows (end.going i one.client one.there) (end.follows i one.seat one.here))

  next_there : (i : ℕ) (one : IsShownAt number p.name.items p.seats.items s.clients i) (y : SeatNext) (n : Next) → next_of one.seat ≡ Some y → next_by_law s one.client ≡ Some n → IsNext number p.cache s y n
  next_there i one y n its law =
      is_next number l peers p s p.name.items one.seat one.client y n end.turn one.shows (end.going i one.client one.there) (end.follows i one.seat one.here) its law
      (subst (λ (v : Option Next). ShowsNext number (Some y) v) law (subst (λ (u : Option SeatNext). ShowsNext number u (next_by_law s one.client)) its (next_shown i one)))

  some_next : (u : Option SeatNext) (v : Option Next) (y : SeatNext) → ShowsNext number u v → u ≡ Some y → (n : Next) × (v ≡ Some n)
  some_next None v y shows its = absurd (none_some its)
  some_next (Some u) None y shows its = absurd shows
  some_next (Some u) (Some n) y shows its = (n, refl)

  source_there : (i : ℕ) (one : IsShownAt number p.name.items p.seats.items s.clients i) (y : SeatNext) → next_of one.seat ≡ Some y → is_there y.source p.cache.instances ≡ true
  source_there i one y its =
      let known : (n : Next) × (next_by_law s one.client ≡ Some n) = some_next (next_of one.seat) (next_by_law s one.client) y (next_shown i one) its in
      let next : IsNext number p.cache s y known.0 = next_there i one y known.0 its known.1 in
      next.there

  -- ---- those that are awake

  asleep_none : (seat : Seat) → is_silent seat ≡ true → next_of seat ≡ None
  asleep_none seat silent =
      let stage : seat.stage ≡ Undecided = undecided_none seat.stage (silent_first (is_undecided_in seat.stage) (not (is_there_in seat.front)) (not seat.has_hung_up) (not seat.is_closing) silent) in
      ap (λ (t : SeatStage). elim seat.is_closing as (λ c. Option SeatNext) [ true ↦ None | false ↦ next_by (answer_in t) seat.client.reply ]) stage ∙ by seat.is_closing
    where
      by : (b : Bool) → (elim b as (λ c. Option SeatNext) [ true ↦ None | false ↦ None ]) ≡ None
      by true = refl
      by false = refl

  of_awake : (x : Binding) → filter_map (λ i. read_at x.0 x.1 x.3 p.cache (next_at p.seats.items i)) p.awake.items ≡ filter_map (λ seat. read_at x.0 x.1 x.3 p.cache (next_of seat)) p.seats.items
  of_awake x =
      picked (λ i. read_at x.0 x.1 x.3 p.cache (next_at p.seats.items i)) (λ seat. read_at x.0 x.1 x.3 p.cache (next_of seat)) 0 p.seats.items p.awake.items
      (subst (λ (n : ℕ). AreGiven 0 n p.awake.items) (sym (none_more (length p.seats.items))) awake.order)
      (λ i seat there. ap (λ (n : ℕ). read_at x.0 x.1 x.3 p.cache (next_at p.seats.items n)) (none_more i) ∙ ap (λ (o : Option Seat). read_at x.0 x.1 x.3 p.cache (option_and_then next_of o)) there)
      (λ i seat there isnt.
      let asleep : IsAsleep p seat = awake.others i seat there (ap (λ (n : ℕ). has_number n p.awake.items) (sym (none_more i)) ∙ isnt) in
      ap (λ (o : Option SeatNext). read_at x.0 x.1 x.3 p.cache o) (asleep_none seat asleep.silent))

  -- ---- of each

  module _ (x : Binding) (far : ℕ) (b : Bound) (bound : IsBoundAs number x far b) (told : IsTold number p.cache s.next_instance x.0) where
    readers_same : (seats : List Seat) (cs : List Client) → ((i : ℕ) (seat : Seat) (c : Client) → slice_get seats i ≡ Some seat → slice_get cs i ≡ Some c → read_at x.0 x.1 x.3 p.cache (next_of seat) ≡ read_by_law s b c) → length seats ≡ length cs
        → filter_map (λ seat. read_at x.0 x.1 x.3 p.cache (next_of seat)) seats ≡ filter_map (read_by_law s b) cs
    readers_same [] [] each same = refl
    readers_same [] (c ∷ cs) each same = absurd (omega (arith, same))
    readers_same (seat ∷ seats) [] each same = absurd (omega (arith, same))
    readers_same (seat ∷ seats) (c ∷ cs) each same =
        ap₂ (λ (o : Option ℕ) (rest : List ℕ). cons_option o rest) (each 0 seat c refl refl) (readers_same seats cs (λ i other d there known. each (suc i) other d there known) (omega (arith, same)))

    one_reader : (i : ℕ) (seat : Seat) (c : Client) → slice_get p.seats.items i ≡ Some seat → slice_get s.clients i ≡ Some c → read_at x.0 x.1 x.3 p.cache (next_of seat) ≡ read_by_law s b c
    unfolding reader_by
    one_reader i seat c there known =
        let one : IsShownAt number p.name.items p.seats.items s.clients i = seat_shown number p.name.items p.seats.items s.clients i seat end.turn.steps.shows.clients there in
        ap (λ (y : Seat). read_at x.0 x.1 x.3 p.cache (next_of y)) (same_some (sym there ∙ one.here))
        ∙ reader_same number p.cache s table x far b bound told (next_of one.seat) (next_by_law s one.client) (next_shown i one) (λ y n its law. next_there i one y n its law)
        ∙ ap (λ (d : Client). read_by_law s b d) (same_some (sym one.there ∙ known))

    furthest_same : furthest_read x.0 x.1 x.3 p.cache p.awake.items p.seats.items ≡ furthest_by_law s b
    furthest_same =
        ap (λ (ns : List ℕ). reduce max ns) (of_awake x)
        ∙ ap (λ (ns : List ℕ). reduce max ns) (readers_same p.seats.items s.clients one_reader (same_length number p.name.items p.seats.items s.clients end.turn.steps.shows.clients))

    no_reader : (seats : List Seat) → ((i : ℕ) (seat : Seat) → slice_get seats i ≡ Some seat → read_at x.0 x.1 x.3 p.cache (next_of seat) ≡ None) → filter_map (λ seat. read_at x.0 x.1 x.3 p.cache (next_of seat)) seats ≡ []
    no_reader [] none = refl
    no_reader (seat ∷ seats) none = ap₂ (λ (o : Option ℕ) (rest : List ℕ). cons_option o rest) (none 0 seat refl) (no_reader seats (λ i other there. none (suc i) other there))

    none_furthest : is_there x.0 p.cache.instances ≡ false → furthest_read x.0 x.1 x.3 p.cache p.awake.items p.seats.items ≡ None
    none_furthest gone =
        ap (λ (ns : List ℕ). reduce max ns) (of_awake x ∙ no_reader p.seats.items (λ i seat there.
        let one : IsShownAt number p.name.items p.seats.items s.clients i = seat_shown number p.name.items p.seats.items s.clients i seat end.turn.steps.shows.clients there in
        ap (λ (y : Seat). read_at x.0 x.1 x.3 p.cache (next_of y)) (same_some (sym there ∙ one.here))
        ∙ none_gone number p.cache s table x far b bound told (next_of one.seat) gone (λ y its. source_there i one y its)))

    far_same : (there : Bool) → is_there x.0 p.cache.instances ≡ there → is_past_read x.0 x.1 p.cache (furthest_read x.0 x.1 x.3 p.cache p.awake.items p.seats.items) ≡ is_some_with (is_past_by_law s b) (furthest_by_law s b)
    far_same true there = past_same number p.cache s table x far b bound told (furthest_read x.0 x.1 x.3 p.cache p.awake.items p.seats.items) there ∙ ap (λ (o : Option ℕ). is_some_with (is_past_by_law s b) o) furthest_same
    far_same false gone =
        ap (λ (o : Option ℕ). is_past_read x.0 x.1 p.cache o) (none_furthest gone) ∙ sym (ap (λ (o : Option ℕ). is_some_with (is_past_by_law s b) o) (sym furthest_same ∙ none_furthest gone))

  far_by : (u : Option Binding) (v : Option Bound) → ShowsBound number u v → IsToldBy number p.cache s.next_instance u
      → is_far_ahead u p.cache p.awake.items p.seats.items ≡ is_some_with (λ b. is_some_with (is_past_by_law s b) (furthest_by_law s b)) v
  far_by None None shows told = refl
  far_by None (Some b) shows told = absurd shows
  far_by (Some x) None shows told = absurd shows
  far_by (Some x) (Some b) shows told = far_same x shows.0 b shows.1 told (is_there x.0 p.cache.instances) refl

pub far_ahead : FarAheadIsTheLaws
far_ahead number l peers p s end n x e awake here there =
    let its : IsTheLaws number x e = exchanges number x e (shown_as number l p.flow s end.turn.steps.shows.exchanges n x e here there) in
    far_by number l peers p s end awake x.exchange.bound (bound_of e) its.bound (told_of number p.cache s.next_instance n p.flow x end.turn.steps.told here)
