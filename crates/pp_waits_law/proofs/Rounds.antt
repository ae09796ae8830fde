-- In the rounds behind the decisions nobody falls asleep, and where a client goes all are looked at.
use Rattle.std.proofs.Common.{◌≡◌, ◌≤◌, refl, sym, subst, ap, ◌∙◌, ℕ, zero, suc, Bool, true, false, cond, filter, length, List, [], ◌∷◌, Option, Some, None, arith}
use Rattle.std.specs.Prelude.{slice_get, vec_capacity}
use Rattle.pp_desk.specs.Shutting.{is_any_over, seats_left, stays}
use Rattle.pp_desk.specs.declared.desk.Desk.{Desk}
use Rattle.pp_law.specs.Lists.{has_number}
use Rattle.pp_objects.specs.declared.id.ObjectId.{ObjectId}
use Rattle.pp_proxy.specs.Closing.{ClosesOver}
use Rattle.pp_proxy.specs.Moving.{Moving, with_desk}
use Rattle.pp_proxy.specs.Rounds.{BeginsAll, GoRounds, GoesRound, Serves}
use Rattle.pp_proxy.specs.Settling.{GoesOn}
use Rattle.pp_seats.specs.declared.seat.Answer.{Answer}
use Rattle.pp_seats.specs.declared.seat.Seat.{Seat}
use Rattle.pp_seats.specs.declared.seat.Stage.{Stage}
use Rattle.pp_seats.specs.declared.seat.Stage.TheVariants.{Undecided, Waiting, Passing, Answering}
use Rattle.pp_state.specs.Astray.{gone_astray_where}
use Rattle.pp_state.specs.Ends.{numbers_of}
use Rattle.pp_state.specs.Numbers.{places}
use Rattle.pp_state.specs.declared.state.State.{State}
use Rattle.pp_steps.specs.Begins.{BeginsAnswer, BeginsAt, BeginsBy, BeginsDecided, BeginsFrom, BeginsKept, BeginsOf, BeginsReplies, BeginsRow, IsKeptBegun, IsPassBegun, Kept, after_shown, kept_of, may_begin, may_be_shown}
use Rattle.pp_store.specs.Kept.{KeptMap}
use Rattle.pp_waits_law.proofs.Awake.{Goes, all_awake, goes, goes_then, stay}
use Rattle.pp_waits_law.proofs.Deciding.{decides_all, goes_on, goes_so}
use Rattle.pp_waits_law.specs.Asleep.{KeepsAwake}
use Rattle.pp_waits_law.specs.Steps.{HasRoom, SettlingKeepsAwake}
use Rattle.pp_world.specs.Log.{Log}
use Rattle.pp_world.specs.declared.note.Decision.{Decision}
use Rattle.pp_world.specs.declared.note.Decision.TheVariants.{Refuse, Hit, Part, Head, NotModified, Unsatisfiable, Relay, Validate, Fetch, Pass}

-- ---- those that are over go

fewer : (test : Seat → Bool) (seats : List Seat) → length (filter test seats) ≤ length seats
fewer test [] = omega arith
fewer test (seat ∷ seats) = by (test seat) (fewer test seats)
  where
    by : (b : Bool) → length (filter test seats) ≤ length seats → length (cond b (seat ∷ filter test seats) (filter test seats)) ≤ suc (length seats)
    by true rest = omega (arith, rest)
    by false rest = omega (arith, rest)

closes : (x : Moving) (log : Log) (y : Moving) → ClosesOver x log y → Goes x.desk.state y.desk.state
closes x log y over room = (by (is_any_over p) over.seats (over.awake few), subst (λ (n : ℕ). n ≤ vec_capacity y.desk.state.awake) (sym count) (more over.room few))
  where
    p : State
    p = x.desk.state

    few_by : (b : Bool) → length (cond b (filter (stays p.is_stopped) p.seats.items) p.seats.items) ≤ length p.seats.items
    few_by true = fewer (stays p.is_stopped) p.seats.items
    few_by false = omega arith

    below : (a b c : ℕ) → a ≤ b → b ≤ c → a ≤ c
    below a b c one two = omega (arith, one, two)

    few : length (seats_left p) ≤ vec_capacity p.awake
    few = below (length (seats_left p)) (length p.seats.items) (vec_capacity p.awake) (few_by (is_any_over p)) room

    more : vec_capacity p.awake ≤ vec_capacity y.desk.state.awake → length (seats_left p) ≤ vec_capacity p.awake → length (seats_left p) ≤ vec_capacity y.desk.state.awake
    more one two = below (length (seats_left p)) (vec_capacity p.awake) (vec_capacity y.desk.state.awake) two one

    count : length y.desk.state.seats.items ≡ length (seats_left p)
    count = ap (λ (seats : List Seat). length seats) over.seats

    by : (b : Bool) → y.desk.state.seats.items ≡ cond b (filter (stays p.is_stopped) p.seats.items) p.seats.items → y.desk.state.awake.items ≡ cond b (places (length (seats_left p))) p.awake.items → KeepsAwake p y.desk.state
    by true left looked = all_awake p y.desk.state (looked ∙ ap places (sym count))
    by false left looked = stay p y.desk.state (ap numbers_of left) (λ i is. ap (λ (ns : List ℕ). has_number i ns) looked ∙ is)

-- ---- replies begin

module _ (i : ℕ) (old new : State) where
  abbrev Same : Type 0
  Same = new.awake ≡ old.awake

  none : new ≡ old → Same
  none is = ap (λ (s : State). s.awake) is

  begins_at : (P : Seat → Seat → Type 0) (wanted : State) → wanted.awake ≡ old.awake → BeginsAt P i wanted old new → Same
  begins_at P wanted same begins = ap (λ (s : State). s.awake) begins.rest ∙ same

  shown : (b : Bool) (id : ObjectId) (answer : Answer) (client : ℕ) → (after_shown b id answer client old).awake ≡ old.awake
  shown true id answer client = refl
  shown false id answer client = refl

  row : (id : ObjectId) (answer : Answer) (o : Option Kept) (at : Option Seat) → BeginsRow i id answer o at old new → Same
  row id answer None at is = none is
  row id answer (Some k) None is = none is
  row id answer (Some k) (Some seat) begins =
      begins_at (IsKeptBegun id answer k) (after_shown (may_be_shown answer k.version k.fields seat) id answer seat.client.id old) (shown (may_be_shown answer k.version k.fields seat) id answer seat.client.id) begins

  kept : (id : ObjectId) (answer : Answer) (b : Bool) → BeginsKept i id answer b old new → Same
  kept id answer false is = none is
  kept id answer true begins = row id answer (kept_of id old.name.items old.now old.cache) (slice_get old.seats.items i) begins

  from : (answer : Answer) (o : Option ObjectId) → BeginsFrom i answer o old new → Same
  from answer None is = none is
  from answer (Some id) begins = kept id answer (may_begin id answer old.cache) begins

  decided : (answer : Answer) (d : Decision) → BeginsDecided i answer d old new → Same
  decided answer Pass begins = begins_at (IsPassBegun Pass) old refl begins
  decided answer Relay begins = begins_at (IsPassBegun Relay) old refl begins
  decided answer (Refuse status) begins = from answer answer.source begins
  decided answer (Hit a b) begins = from answer answer.source begins
  decided answer (Part a b) begins = from answer answer.source begins
  decided answer Head begins = from answer answer.source begins
  decided answer NotModified begins = from answer answer.source begins
  decided answer Unsatisfiable begins = from answer answer.source begins
  decided answer Validate begins = from answer answer.source begins
  decided answer Fetch begins = from answer answer.source begins

  answered : (answer : Answer) (b : Bool) → BeginsAnswer i answer b old new → Same
  answered answer true is = none is
  answered answer false begins = decided answer answer.decision begins

  begun_by : (b : Bool) (stage : Stage) → BeginsBy i b stage old new → Same
  begun_by true stage is = none is
  begun_by false Undecided is = none is
  begun_by false Waiting is = none is
  begun_by false Passing begins = begins_at (IsPassBegun Pass) old refl begins
  begun_by false (Answering answer) begins = answered answer answer.has_begun begins

  begun : (o : Option Seat) → BeginsOf i o old new → Same
  begun None is = none is
  begun (Some seat) begins = begun_by seat.is_closing seat.stage begins

all_begun : (places : List ℕ) (old new : State) → BeginsReplies places old new → new.awake ≡ old.awake
unfolding BeginsReplies
all_begun [] old new is = ap (λ (s : State). s.awake) is
all_begun (i ∷ is) old new (next, one, rest) = all_begun is next new rest ∙ begun i old next (slice_get old.seats.items i) one

begins : (old new : Desk) → BeginsAll old new → Goes old.state new.state
begins old new all = goes old.state new.state all.numbers (all_begun old.state.awake.items old.state new.state all.is)

-- ---- rounds

round : (shelf : KeptMap) (x : Moving) (log : Log) (y : Moving) (any : Bool) → GoesRound shelf x log y any → Goes x.desk.state y.desk.state
round shelf x log y any r =
    goes_then x.desk.state r.seen.state y.desk.state (goes_on x.desk r.seen r.drops.numbers r.drops.rest)
    (goes_then r.seen.state r.given.state y.desk.state (goes_on r.seen r.given r.gives.numbers r.gives.rest)
    (goes_then r.given.state r.asked.state y.desk.state (goes_on r.given r.asked r.fills.numbers r.fills.rest)
    (goes_then r.asked.state r.closed.desk.state y.desk.state (closes (with_desk r.asked x) r.closing r.closed r.closes)
    (goes_then r.closed.desk.state r.placed.desk.state y.desk.state (goes_on r.closed.desk r.placed.desk r.places.numbers r.places.rest)
    (decides_all shelf r.placed r.deciding y any r.decides)))))

gone : (b : Bool) (s : State) → ((gone_astray_where b s).seats ≡ s.seats) × ((gone_astray_where b s).awake ≡ s.awake)
gone true s = (refl, refl)
gone false s = (refl, refl)

rounds : (more : ℕ) (shelf : KeptMap) (any : Bool) (x : Moving) (log : Log) (y : Moving) → GoRounds more shelf any x log y → Goes x.desk.state y.desk.state
unfolding GoRounds
rounds zero shelf any x log y r = goes_so x y (gone_astray_where any x.desk.state) r.1 (gone any x.desk.state).0 (gone any x.desk.state).1
rounds (suc more) shelf false x log y r = goes_so x y x.desk.state r.1 refl refl
rounds (suc more) shelf true x log y (next, one, others, again, log_is, first, rest) =
    goes_then x.desk.state next.desk.state y.desk.state (round shelf x one next again first) (rounds more shelf again next others y rest)

serves : (shelf : KeptMap) (x : Moving) (log : Log) (y : Moving) → Serves shelf x log y → Goes x.desk.state y.desk.state
serves shelf x log y s = goes_then x.desk.state s.between.desk.state y.desk.state (rounds 65536 shelf true x log s.between s.rounds) (begins s.between.desk y.desk s.begins)

on_by : (b : Bool) (shelf : KeptMap) (x : Moving) (log : Log) (y : Moving) → GoesOn b shelf x log y → Goes x.desk.state y.desk.state
on_by true shelf x log y over = closes x log y over
on_by false shelf x log y s = serves shelf x log y s

pub settles : SettlingKeepsAwake
settles shelf x log y room s =
    let its : KeepsAwake x.desk.state y.desk.state × HasRoom y.desk.state =
    goes_then x.desk.state s.between.desk.state y.desk.state (decides_all shelf x s.first s.between s.any s.decides) (on_by s.between.desk.state.is_stopped shelf s.between s.rest y s.goes) room in
    its.0
