-- A life that went astray stays so, over all that follows an event.
use Rattle.std.proofs.Common.{◌≡◌, refl, sym, subst, ap, ◌∙◌, ℕ, Bool, true, false, List, [], ◌∷◌, Option, Some, None}
use Rattle.std.specs.Prelude.{length, slice_get}
use Rattle.pp_grown_law.proofs.Repeats.{all_so}
use Rattle.pp_grown_law.proofs.Staying.{run_stays}
use Rattle.pp_keeping.specs.Keeping.{GrownNext, Keeping as Kept, KeepsRun, TakesNext, ends_astray, ends_there}
use Rattle.pp_objects.specs.declared.id.ObjectId.{ObjectId}
use Rattle.pp_proxy.specs.Moving.{Moving}
use Rattle.pp_proxy.specs.Rounds.{Serves}
use Rattle.pp_proxy.specs.Settling.{GoesOn}
use Rattle.pp_rounds_law.proofs.Astray.{all_stay, closings_stay, loops_stay}
use Rattle.pp_rounds_law.specs.Astray.{IsAstray}
use Rattle.pp_seats.specs.declared.seat.Answer.{Answer}
use Rattle.pp_seats.specs.declared.seat.Seat.{Seat}
use Rattle.pp_seats.specs.declared.seat.Stage.{Stage}
use Rattle.pp_seats.specs.declared.seat.Stage.TheVariants.{Undecided, Waiting, Passing, Answering}
use Rattle.pp_state.specs.declared.state.State.{State as Turn}
use Rattle.pp_steps.specs.Begins.{BeginsAnswer, BeginsAt, BeginsBy, BeginsDecided, BeginsFrom, BeginsKept, BeginsOf, BeginsReplies, BeginsRow, IsKeptBegun, IsPassBegun, Kept as KeptRow, after_shown, kept_of, may_begin, may_be_shown}
use Rattle.pp_store.specs.Kept.{KeptMap}
use Rattle.pp_world.specs.Log.{Log}
use Rattle.pp_world.specs.declared.note.Decision.{Decision}
use Rattle.pp_world.specs.declared.note.Decision.TheVariants.{Refuse, Hit, Part, Head, NotModified, Unsatisfiable, Relay, Validate, Fetch, Pass}
use Rattle.pp_turn_law.specs.Straight.{KeepingsStayAstray, LeavingsStayAstray, SettlingsStayAstray}

-- ---- what leaves memory

pub leavings : LeavingsStayAstray
leavings x y log it is =
    it.gives.astray ∙ ap (λ (p : Turn). p.is_astray) it.leaves.is.rest ∙ ap (λ d. d.state.is_astray) it.regains.rest ∙ is

-- ---- what is kept

abbrev StaysSo : Kept → Type 0
StaysSo x = x.state.is_astray ≡ true

ends_so : (goes : Bool) (x : Kept) → StaysSo x → StaysSo (ends_astray goes x)
ends_so true x is = refl
ends_so false x is = is

taken_so : (x y : Kept) (goes : Bool) → TakesNext x y goes → StaysSo x → StaysSo y
taken_so x y false step is = subst StaysSo (sym step.1) is
taken_so x y true step is = ap (λ (p : Turn). p.is_astray) step.state ∙ is

run_so : (id : ObjectId) (room : ℕ) (x y : Kept) (goes : Bool) → KeepsRun id room x y goes → StaysSo x → StaysSo y
run_so id room x y goes run is = (run_stays id room x y goes run).astray ∙ is

grown_so : (room : ℕ) (x y : Kept) (goes : Bool) → GrownNext room x y goes → StaysSo x → StaysSo y
grown_so room x y false step is = subst StaysSo (sym step.1) is
grown_so room x y true step is = all_so StaysSo ends_astray (KeepsRun step.id room) ends_so (run_so step.id room) 16386 true _ y step.runs is

pub keepings : KeepingsStayAstray
keepings x y it is =
    all_so StaysSo ends_astray (GrownNext (length x.moving.desk.file.items)) ends_so (grown_so (length x.moving.desk.file.items)) 17 true it.is.between _ it.is.keeps
    (all_so StaysSo ends_there TakesNext (λ goes z so. so) taken_so (length x.moving.desk.state.cache.outdated) true _ it.is.between it.is.takes is)

-- ---- replies begin

module _ (i : ℕ) (old new : Turn) where
  abbrev Same : Type 0
  Same = new.is_astray ≡ old.is_astray

  none : new ≡ old → Same
  none is = ap (λ (s : Turn). s.is_astray) is

  begins_at : (P : Seat → Seat → Type 0) (wanted : Turn) → wanted.is_astray ≡ old.is_astray → BeginsAt P i wanted old new → Same
  begins_at P wanted same begins = ap (λ (s : Turn). s.is_astray) begins.rest ∙ same

  shown : (b : Bool) (id : ObjectId) (answer : Answer) (client : ℕ) → (after_shown b id answer client old).is_astray ≡ old.is_astray
  shown true id answer client = refl
  shown false id answer client = refl

  row : (id : ObjectId) (answer : Answer) (o : Option KeptRow) (at : Option Seat) → BeginsRow i id answer o at old new → Same
  row id answer None at is = none is
  row id answer (Some k) None is = none is
  row id answer (Some k) (Some seat) begins =
      begins_at (IsKeptBegun id answer k) (after_shown (may_be_shown answer k.version k.fields seat) id answer seat.client.id old) (shown (may_be_shown answer k.version k.fields seat) id answer seat.client.id) begins

  kept : (id : ObjectId) (answer : Answer) (b : Bool) → BeginsKept i id answer b old new → Same
  kept id answer false is = none is
  kept id answer true begins = row id answer (kept_of id old.name.items old.now old.cache) (slice_get old.seats.items i) begins

  from : (answer : Answer) (o : Option ObjectId) → BeginsFrom i answer o old new → Same
  from answer None is = none is
  from answer (Some id) begins = kept id answer (may_begin id answer old.cache) begins

  decided : (answer : Answer) (d : Decision) → BeginsDecided i answer d old new → Same
  decided answer Pass begins = begins_at (IsPassBegun Pass) old refl begins
  decided answer Relay begins = begins_at (IsPassBegun Relay) old refl begins
  decided answer (Refuse status) begins = from answer answer.source begins
  decided answer (Hit a b) begins = from answer answer.source begins
  decided answer (Part a b) begins = from answer answer.source begins
  decided answer Head begins = from answer answer.source begins
  decided answer NotModified begins = from answer answer.source begins
  decided answer Unsatisfiable begins = from answer answer.source begins
  decided answer Validate begins = from answer answer.source begins
  decided answer Fetch begins = from answer answer.source begins

  answered : (answer : Answer) (b : Bool) → BeginsAnswer i answer b old new → Same
  answered answer true is = none is
  answered answer false begins = decided answer answer.decision begins

  begun_by : (b : Bool) (stage : Stage) → BeginsBy i b stage old new → Same
  begun_by true stage is = none is
  begun_by false Undecided is = none is
  begun_by false Waiting is = none is
  begun_by false Passing begins = begins_at (IsPassBegun Pass) old refl begins
  begun_by false (Answering answer) begins = answered answer answer.has_begun begins

  begun : (o : Option Seat) → BeginsOf i o old new → Same
  begun None is = none is
  begun (Some seat) begins = begun_by seat.is_closing seat.stage begins

all_begun : (places : List ℕ) (old new : Turn) → BeginsReplies places old new → new.is_astray ≡ old.is_astray
unfolding BeginsReplies
all_begun [] old new is = ap (λ (s : Turn). s.is_astray) is
all_begun (i ∷ is) old new (next, one, rest) = all_begun is next new rest ∙ begun i old next (slice_get old.seats.items i) one

-- ---- decisions, and what follows of them

serves : (shelf : KeptMap) (x y : Moving) (log : Log) → Serves shelf x log y → IsAstray x → IsAstray y
serves shelf x y log it is =
    all_begun it.between.desk.state.awake.items it.between.desk.state y.desk.state it.begins.is ∙ loops_stay 65536 shelf true x it.between log it.rounds is

on_by : (stopped : Bool) (shelf : KeptMap) (x y : Moving) (log : Log) → GoesOn stopped shelf x log y → IsAstray x → IsAstray y
on_by true shelf x y log over is = closings_stay x y log over is
on_by false shelf x y log it is = serves shelf x y log it is

pub settlings : SettlingsStayAstray
settlings shelf x y log it is = on_by it.between.desk.state.is_stopped shelf it.between y it.rest it.goes (all_stay shelf x it.between it.first it.any it.decides is)
