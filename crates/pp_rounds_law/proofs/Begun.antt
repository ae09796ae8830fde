-- What replies that begin leave: each client goes on as it did, it follows no more, and nothing comes into memory.
use Rattle.std.proofs.Common.{◌≡◌, refl, sym, subst, ap, ◌∙◌, ℕ, Bool, true, false, ◌==◌, ◌||◌, cond, length, List, [], ◌∷◌, Option, Some, None, le_trans}
use Rattle.std.specs.Prelude.{option_and_then, slice_get, slice_set}
use Rattle.pp_cache.specs.Memory.{Memory}
use Rattle.pp_cache_law.proofs.Numbers.{is_same, some_is}
use Rattle.pp_turns_law.proofs.Changed.{get_set}
use Rattle.pp_turns_law.proofs.Refused.{left_stands}
use Rattle.pp_turns_law.proofs.Regained.{get_other}
use Rattle.pp_turns_law.proofs.Turned.{left_is}
use Rattle.pp_deciding_law.proofs.Keeps.{set_length}
use Rattle.pp_flow.specs.Changes.{Exchanges, changed, entry_of}
use Rattle.pp_flow.specs.Entries.{is_number, nobodys}
use Rattle.pp_flow.specs.declared.entry.Entry.{Entry}
use Rattle.pp_law.specs.Lists.{has_number}
use Rattle.pp_objects.specs.declared.id.ObjectId.{ObjectId}
use Rattle.pp_peers_law.proofs.Finds.{no_or}
use Rattle.pp_places_law.specs.Around.{AreAskable}
use Rattle.pp_reply.specs.declared.kept.KeptReply.{KeptReply}
use Rattle.pp_seats.specs.Follows.{answer_in}
use Rattle.pp_seats.specs.Heads.{asked_in}
use Rattle.pp_seats.specs.Seats.{passed_in}
use Rattle.pp_seats.specs.declared.front.Asked.{Asked}
use Rattle.pp_seats.specs.declared.seat.Answer.{Answer}
use Rattle.pp_seats.specs.declared.seat.Passed.{Passed}
use Rattle.pp_seats.specs.declared.seat.Seat.{Seat}
use Rattle.pp_seats.specs.declared.seat.Stage.{Stage}
use Rattle.pp_seats.specs.declared.seat.Stage.TheVariants.{Undecided, Waiting, Passing, Answering}
use Rattle.pp_state.specs.Ends.{source_of}
use Rattle.pp_state.specs.Passing.{may_answer}
use Rattle.pp_state.specs.Places.{IsChangedIn}
use Rattle.pp_state.specs.declared.state.State.{State as Turn}
use Rattle.pp_steps.specs.Begins.{BeginsAnswer, BeginsAt, BeginsBy, BeginsDecided, BeginsFrom, BeginsKept, BeginsOf, BeginsPassed, BeginsReplies, BeginsReply, BeginsRow, HasBegunPassed, HasBegunShown, IsKeptBegun, IsPassBegun, Kept, after_shown, asked_by, kept_of, left_unanswered, may_be_shown, may_begin, shown_of, with_left, without_outrun, without_unanswered}
use Rattle.pp_states_law.proofs.Told.{Stands}
use Rattle.pp_world.specs.declared.note.Decision.{Decision}
use Rattle.pp_world.specs.declared.note.Decision.TheVariants.{Refuse, Hit, Part, Head, NotModified, Unsatisfiable, Relay, Validate, Fetch, Pass}

-- ---- one seat

pub record IsLike (old new : Seat) : Type 0 where
  pub front : new.front ≡ old.front
  pub closing : new.is_closing ≡ old.is_closing
  pub brought : new.brought ≡ old.brought
  pub follows : (id : ObjectId) → source_of new ≡ Some id → source_of old ≡ Some id

itself : (seat : Seat) → IsLike seat seat
itself seat = record { front = refl; closing = refl; brought = refl; follows = λ id is. is }

so_same : (old new : Seat) → new ≡ old → IsLike old new
so_same old new is = subst (λ (x : Seat). IsLike old x) (sym is) (itself old)

then_like : (a b c : Seat) → IsLike a b → IsLike b c → IsLike a c
then_like a b c one two = record { front = two.front ∙ one.front; closing = two.closing ∙ one.closing; brought = two.brought ∙ one.brought; follows = λ id is. one.follows id (two.follows id is) }

passed_like : (d : Decision) (p : Option Passed) (a : Option Asked) (may : Bool) (old new : Seat) → HasBegunPassed d p a may old new → IsLike old new
passed_like d None a may old new same = so_same old new same
passed_like d (Some p) None may old new same = so_same old new same
passed_like d (Some p) (Some a) false old new same = so_same old new same
passed_like d (Some p) (Some a) true old new has = record {
  front = ap (λ (x : Seat). x.front) has.seat;
  closing = ap (λ (x : Seat). x.is_closing) has.seat;
  brought = ap (λ (x : Seat). x.brought) has.seat;
  follows = λ id is. absurd (cc (sym (ap source_of has.seat) ∙ is));
}

kept_like : (id : ObjectId) (answer : Answer) (k : Kept) (a : Option Asked) (shows : Option KeptReply) (old new : Seat) → old.stage ≡ Answering answer → HasBegunShown id answer k a shows old new → IsLike old new
kept_like id answer k None shows old new stage same = so_same old new same
kept_like id answer k (Some a) None old new stage same = so_same old new same
kept_like id answer k (Some a) (Some shows) old new stage has = record {
  front = ap (λ (x : Seat). x.front) has.seat;
  closing = ap (λ (x : Seat). x.is_closing) has.seat;
  brought = ap (λ (x : Seat). x.brought) has.seat;
  follows = λ other is. ap (λ (t : Stage). option_and_then (λ (x : Answer). x.source) (answer_in t)) stage ∙ less other (answer.from == answer.to) (sym (ap source_of has.seat) ∙ is);
}
  where
    less : (other : ObjectId) (b : Bool) → (elim b as (λ t. Answer) [ true ↦ record answer { source = None; has_begun = true } | false ↦ record answer { has_begun = true } ]).source ≡ Some other → answer.source ≡ Some other
    less other true is = absurd (cc is)
    less other false is = is

-- ---- an exchange that its request leaves can be asked as before

abbrev pub CanBeAsked : Exchanges → Type 0
CanBeAsked f = AreAskable f.waiting × AreAskable f.placed

all_left : (n : ℕ) (xs : List Entry) → AreAskable xs → AreAskable (changed n nobodys xs)
all_left n [] all = tt
all_left n (x ∷ xs) all = by (is_number n x) (all_left n xs all.1)
  where
    by : (b : Bool) → AreAskable (changed n nobodys xs) → AreAskable (cond b (nobodys x ∷ xs) (x ∷ changed n nobodys xs))
    by true rest = (record { place = all.0.place; short = all.0.short }, all.1)
    by false rest = (all.0, rest)

unanswered_can : (n : ℕ) (o : Option Entry) (f : Exchanges) → CanBeAsked f → CanBeAsked (left_unanswered n o f)
unanswered_can n None f can = can
unanswered_can n (Some e) f can = by e.exchange.headed
  where
    by : (b : Bool) → CanBeAsked (elim b as (λ t. Exchanges) [ true ↦ f | false ↦ record f { waiting = changed n nobodys f.waiting; placed = changed n nobodys f.placed } ])
    by true = can
    by false = (all_left n f.waiting can.0, all_left n f.placed can.1)

outrun_can : (client : ℕ) (f : Exchanges) → CanBeAsked f → CanBeAsked (without_outrun client f)
outrun_can client f can = by (asked_by client f)
  where
    by : (o : Option ℕ) → CanBeAsked (without_unanswered o f)
    by None = can
    by (Some n) = unanswered_can n (entry_of n f) f can

-- ---- all of a turn, behind those at these places

pub record Was (p : Turn) (j : ℕ) (new : Seat) : Type 0 where
  pub old : Seat
  pub here : slice_get p.seats.items j ≡ Some old
  pub like : IsLike old new

pub record Begun (is : List ℕ) (p q : Turn) : Type 0 where
  pub count : length q.seats.items ≡ length p.seats.items
  pub others : (j : ℕ) → has_number j is ≡ false → slice_get q.seats.items j ≡ slice_get p.seats.items j
  pub was : (j : ℕ) (new : Seat) → slice_get q.seats.items j ≡ Some new → Was p j new
  pub rest : record q { seats = p.seats; cache = p.cache; flow = p.flow } ≡ p
  pub stands : Stands p.cache q.cache 0 0
  pub outdated : q.cache.outdated ≡ p.cache.outdated
  pub asked : CanBeAsked p.flow → CanBeAsked q.flow

none_begun : (is : List ℕ) (p : Turn) → Begun is p p
none_begun is p = record { count = refl; others = λ j off. refl; was = λ j new at. record { old = new; here = at; like = itself new }; rest = refl; stands = left_stands None p.cache 0; outdated = refl; asked = λ can. can }

same_turn : (is : List ℕ) (p q : Turn) → q ≡ p → Begun is p q
same_turn is p q same = subst (λ (t : Turn). Begun is p t) (sym same) (none_begun is p)

-- all but clients
record AllElse (p w : Turn) : Type 0 where
  rest : record w { seats = p.seats; cache = p.cache; flow = p.flow } ≡ p
  stands : Stands p.cache w.cache 0 0
  outdated : w.cache.outdated ≡ p.cache.outdated
  asked : CanBeAsked p.flow → CanBeAsked w.flow

module _ (i : ℕ) (p q : Turn) where
  set : (seat changed : Seat) (w : Turn) → slice_get p.seats.items i ≡ Some seat → IsLike seat changed → q.seats.items ≡ slice_set p.seats.items i changed → record q { seats = p.seats } ≡ w → AllElse p w → Begun (i ∷ []) p q
  set seat changed w here like items is else_ = record {
    count = ap (λ (xs : List Seat). length xs) items ∙ set_length i p.seats.items changed;
    others = λ j off. ap (λ (xs : List Seat). slice_get xs j) items ∙ get_other i j p.seats.items changed (no_or (i == j) false off).0;
    was = λ j new at. by j new (sym (ap (λ (xs : List Seat). slice_get xs j) items) ∙ at) (i == j) refl;
    rest = ap (λ (t : Turn). let u : Turn = record t { cache = p.cache; flow = p.flow } in u) is ∙ sym (ap (λ (t : Turn). let u : Turn = record t { cache = p.cache; flow = p.flow } in u) (seats_same w is)) ∙ else_.rest;
    stands = subst (λ (m : Memory). Stands p.cache m 0 0) (sym (ap (λ (t : Turn). t.cache) is)) else_.stands;
    outdated = ap (λ (t : Turn). t.cache.outdated) is ∙ else_.outdated;
    asked = λ can. subst (λ (f : Exchanges). CanBeAsked f) (sym (ap (λ (t : Turn). t.flow) is)) (else_.asked can);
  }
    where
      seats_same : (u : Turn) → record q { seats = p.seats } ≡ u → record u { seats = p.seats } ≡ u
      seats_same u same = subst (λ (t : Turn). let v : Turn = record t { seats = p.seats } in v ≡ t) same refl

      by : (j : ℕ) (new : Seat) → slice_get (slice_set p.seats.items i changed) j ≡ Some new → (b : Bool) → (i == j) ≡ b → Was p j new
      by j new at false off = record { old = new; here = sym (get_other i j p.seats.items changed off) ∙ at; like = itself new }
      by j new at true same =
          let its : changed ≡ new = some_is changed new (sym (get_set i p.seats.items seat changed here) ∙ ap (λ (k : ℕ). slice_get (slice_set p.seats.items i changed) k) (is_same i j same) ∙ at) in
          record { old = seat; here = ap (λ (k : ℕ). slice_get p.seats.items k) (sym (is_same i j same)) ∙ here; like = subst (λ (x : Seat). IsLike seat x) its like }

  changes : (P : Seat → Seat → Type 0) (w : Turn) (seat : Seat) → slice_get p.seats.items i ≡ Some seat → ((changed : Seat) → P seat changed → IsLike seat changed) → AllElse p w → BeginsAt P i w p q → Begun (i ∷ []) p q
  changes P w seat here like else_ begins =
      let at : (changed : Seat) × P seat changed × (q.seats.items ≡ slice_set p.seats.items i changed) = subst (λ (o : Option Seat). IsChangedIn P o i p.seats.items q.seats.items) here begins.seat in
      set seat at.0 w here (like at.0 at.1) at.2 begins.rest else_

  untouched : AllElse p p
  untouched = record { rest = refl; stands = left_stands None p.cache 0; outdated = refl; asked = λ can. can }

  passes : (d : Decision) (seat : Seat) → slice_get p.seats.items i ≡ Some seat → BeginsPassed i d p q → Begun (i ∷ []) p q
  passes d seat here begins = changes (IsPassBegun d) p seat here (λ changed is. passed_like d (passed_in seat.brought) (asked_in seat.front) (may_answer seat.client) seat changed is) untouched begins

  left : (id : ObjectId) (answer : Answer) (client : ℕ) (b : Bool) → AllElse p (after_shown b id answer client p)
  left id answer client false = untouched
  left id answer client true = record { rest = refl; stands = by (answer.from == answer.to); outdated = noted (answer.from == answer.to); asked = λ can. outrun_can client p.flow can }
    where
      by : (b : Bool) → Stands p.cache (elim b as (λ t. Memory) [ true ↦ with_left id p.cache | false ↦ p.cache ]) 0 0
      by true = subst (λ (m : Memory). Stands p.cache m 0 0) (sym (left_is id p.cache)) (left_stands (Some id) p.cache 0)
      by false = left_stands None p.cache 0

      noted_if : (b : Bool) (m : Memory) → m.outdated ≡ p.cache.outdated → (elim b as (λ t. Memory) [ true ↦ m | false ↦ p.cache ]).outdated ≡ p.cache.outdated
      noted_if true m same = same
      noted_if false m same = refl

      noted : (b : Bool) → (elim b as (λ t. Memory) [ true ↦ with_left id p.cache | false ↦ p.cache ]).outdated ≡ p.cache.outdated
      noted true = noted_if _ _ refl
      noted false = refl

  from_row : (id : ObjectId) (answer : Answer) (k : Option Kept) (seat : Seat) (o : Option Seat) → slice_get p.seats.items i ≡ Some seat → seat.stage ≡ Answering answer → o ≡ Some seat → BeginsRow i id answer k o p q → Begun (i ∷ []) p q
  from_row id answer None seat o here stage is same = same_turn (i ∷ []) p q same
  from_row id answer (Some k) seat None here stage is same = same_turn (i ∷ []) p q same
  from_row id answer (Some k) seat (Some other) here stage is begins =
      let same : other ≡ seat = some_is other seat is in
      let its : BeginsAt (IsKeptBegun id answer k) i (after_shown (may_be_shown answer k.version k.fields seat) id answer seat.client.id p) p q =
      subst (λ (x : Seat). BeginsAt (IsKeptBegun id answer k) i (after_shown (may_be_shown answer k.version k.fields x) id answer x.client.id p) p q) same begins in
      changes (IsKeptBegun id answer k) (after_shown (may_be_shown answer k.version k.fields seat) id answer seat.client.id p) seat here
      (λ changed so. kept_like id answer k (asked_in seat.front) (shown_of seat answer k.version k.fields) seat changed stage so) (left id answer seat.client.id (may_be_shown answer k.version k.fields seat)) its

  from_source : (answer : Answer) (seat : Seat) (o : Option ObjectId) → slice_get p.seats.items i ≡ Some seat → seat.stage ≡ Answering answer → BeginsFrom i answer o p q → Begun (i ∷ []) p q
  from_source answer seat None here stage same = same_turn (i ∷ []) p q same
  from_source answer seat (Some id) here stage begins = by (may_begin id answer p.cache) begins
    where
      by : (b : Bool) → BeginsKept i id answer b p q → Begun (i ∷ []) p q
      by false same = same_turn (i ∷ []) p q same
      by true row = from_row id answer (kept_of id p.name.items p.now p.cache) seat (slice_get p.seats.items i) here stage here row

  decided : (answer : Answer) (seat : Seat) → slice_get p.seats.items i ≡ Some seat → seat.stage ≡ Answering answer → (d : Decision) → BeginsDecided i answer d p q → Begun (i ∷ []) p q
  decided answer seat here stage Pass begins = passes Pass seat here begins
  decided answer seat here stage Relay begins = passes Relay seat here begins
  decided answer seat here stage (Refuse status) begins = from_source answer seat answer.source here stage begins
  decided answer seat here stage (Hit from to) begins = from_source answer seat answer.source here stage begins
  decided answer seat here stage (Part from to) begins = from_source answer seat answer.source here stage begins
  decided answer seat here stage Head begins = from_source answer seat answer.source here stage begins
  decided answer seat here stage NotModified begins = from_source answer seat answer.source here stage begins
  decided answer seat here stage Unsatisfiable begins = from_source answer seat answer.source here stage begins
  decided answer seat here stage Validate begins = from_source answer seat answer.source here stage begins
  decided answer seat here stage Fetch begins = from_source answer seat answer.source here stage begins

  answers : (answer : Answer) (seat : Seat) → slice_get p.seats.items i ≡ Some seat → seat.stage ≡ Answering answer → (b : Bool) → BeginsAnswer i answer b p q → Begun (i ∷ []) p q
  answers answer seat here stage true same = same_turn (i ∷ []) p q same
  answers answer seat here stage false begins = decided answer seat here stage answer.decision begins

  by_stage : (seat : Seat) → slice_get p.seats.items i ≡ Some seat → (b : Bool) (t : Stage) → seat.stage ≡ t → BeginsBy i b t p q → Begun (i ∷ []) p q
  by_stage seat here true t is same = same_turn (i ∷ []) p q same
  by_stage seat here false Undecided is same = same_turn (i ∷ []) p q same
  by_stage seat here false Waiting is same = same_turn (i ∷ []) p q same
  by_stage seat here false Passing is begins = passes Pass seat here begins
  by_stage seat here false (Answering answer) is begins = answers answer seat here is answer.has_begun begins

  one_begun : BeginsReply i p q → Begun (i ∷ []) p q
  one_begun begins = by (slice_get p.seats.items i) refl begins
    where
      by : (o : Option Seat) → slice_get p.seats.items i ≡ o → BeginsOf i o p q → Begun (i ∷ []) p q
      by None here same = same_turn (i ∷ []) p q same
      by (Some seat) here it = by_stage seat here seat.is_closing seat.stage refl it

-- ---- one behind the other

stands_then : (k m n : Memory) → Stands k m 0 0 → Stands m n 0 0 → Stands k n 0 0
stands_then k m n one two = record { lives = le_trans one.lives two.lives; numbers = one.numbers; there = λ id is. one.there id (two.there id is) }

joined : (i : ℕ) (is : List ℕ) (p m q : Turn) → Begun (i ∷ []) p m → Begun is m q → Begun (i ∷ is) p q
joined i is p m q one two = record {
  count = two.count ∙ one.count;
  others = λ j off.
      let these : ((i == j) ≡ false) × (has_number j is ≡ false) = no_or (i == j) (has_number j is) off in
      two.others j these.1 ∙ one.others j (ap (λ (b : Bool). b || false) these.0);
  was = λ j new at.
      let mid : Was m j new = two.was j new at in
      let first : Was p j mid.old = one.was j mid.old mid.here in
      record { old = first.old; here = first.here; like = then_like first.old mid.old new first.like mid.like };
  rest = ap (λ (t : Turn). let u : Turn = record t { seats = p.seats; cache = p.cache; flow = p.flow } in u) two.rest ∙ one.rest;
  stands = stands_then p.cache m.cache q.cache one.stands two.stands;
  outdated = two.outdated ∙ one.outdated;
  asked = λ can. two.asked (one.asked can);
}

pub all_begun : (is : List ℕ) (p q : Turn) → BeginsReplies is p q → Begun is p q
unfolding BeginsReplies
all_begun [] p q same = same_turn [] p q same
all_begun (i ∷ is) p q (mid, one, others) = joined i is p mid q (one_begun i p mid one) (all_begun is mid q others)
