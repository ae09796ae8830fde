-- From a wait to the next nobody falls asleep.
use Rattle.std.proofs.Common.{◌≡◌, ◌≤◌, sym, subst, ap, ◌∙◌, ℕ, length, List, Some, None}
use Rattle.std.specs.Prelude.{vec_capacity}
use Rattle.pp_desk.specs.declared.desk.Desk.{Desk}
use Rattle.pp_law.specs.Lists.{has_number}
use Rattle.pp_proxy.specs.Awaiting.{behind}
use Rattle.pp_proxy.specs.Events.{Keeps, TakesEvent}
use Rattle.pp_proxy.specs.Leaving.{Leaves}
use Rattle.pp_proxy.specs.Moving.{LeadsOn, Moving, Turning}
use Rattle.pp_proxy.specs.Settling.{Settles}
use Rattle.pp_state.specs.Ends.{AreInOrder, AreSeated, numbers_of}
use Rattle.pp_state.specs.declared.state.State.{State}
use Rattle.pp_waits_law.proofs.Awake.{read_stay, stay, then_awake}
use Rattle.pp_waits_law.proofs.Events.{handled}
use Rattle.pp_waits_law.proofs.Like.{count_same}
use Rattle.pp_waits_law.proofs.Rounds.{settles}
use Rattle.pp_waits_law.specs.Asleep.{KeepsAwake, WereRead}
use Rattle.pp_waits_law.specs.Steps.{CanGoOn, CanTake, HasRoom, KeepingKeepsAwake, LeavingKeepsAwake, ReadStayToNextWait, TurnsKeepAwake}
use Rattle.pp_world.specs.Log.{Log}
use Rattle.pp_world.specs.declared.event.Event.{Event}

-- the same clients, of whom the same are looked at
record Stays (old new : State) : Type 0 where
  numbers : numbers_of new.seats.items ≡ numbers_of old.seats.items
  awake : new.awake ≡ old.awake

leaves : (x : Moving) (log : Log) (y : Moving) → Leaves x log y → Stays x.desk.state y.desk.state
leaves x log y l = record {
  numbers = l.gives.numbers ∙ ap (λ (s : State). numbers_of s.seats.items) l.leaves.is.rest ∙ l.regains.numbers;
  awake = ap (λ (d : Desk). d.state.awake) l.gives.rest ∙ ap (λ (s : State). s.awake) l.leaves.is.rest ∙ ap (λ (d : Desk). d.state.awake) l.regains.rest;
}

keeps : (x y : Turning) → Keeps x y → Stays x.moving.desk.state y.moving.desk.state
keeps x y k = record { numbers = ap (λ (d : Desk). numbers_of d.state.seats.items) k.rest; awake = ap (λ (d : Desk). d.state.awake) k.rest }

awake_as : (old new : State) → Stays old new → KeepsAwake old new
awake_as old new s = stay old new s.numbers (λ i is. ap (λ a. has_number i a.items) s.awake ∙ is)

pub leaving : LeavingKeepsAwake
leaving x log y l = awake_as x.desk.state y.desk.state (leaves x log y l)

pub keeping : KeepingKeepsAwake
keeping x y k = awake_as x.moving.desk.state y.moving.desk.state (keeps x y k)

module _ (event : Event) (x y : Turning) (can : CanTake event x) (takes : TakesEvent event x y) where
  abbrev a : State
  a = x.moving.desk.state

  abbrev b : State
  b = takes.handled.moving.desk.state

  abbrev c : State
  c = takes.left.moving.desk.state

  abbrev d : State
  d = takes.kept.moving.desk.state

  abbrev e : State
  e = y.moving.desk.state

  well : CanGoOn b
  well = can.behind takes.handled (takes.handles can.seated)

  left : Stays b c
  left = let on = takes.leaves well.seated in leaves takes.handled.moving on.added takes.left.moving on.is

  kept : Stays c d
  kept = keeps takes.left takes.kept takes.keeps

  seated : AreSeated d
  seated = subst (λ (ns : List ℕ). AreInOrder ns) (sym (kept.numbers ∙ left.numbers)) well.seated

  room : HasRoom d
  room = subst (λ a. length d.seats.items ≤ vec_capacity a) (sym (kept.awake ∙ left.awake))
      (subst (λ (n : ℕ). n ≤ vec_capacity b.awake) (sym (count_same d.seats.items b.seats.items (kept.numbers ∙ left.numbers))) well.room)

  settled : LeadsOn (Settles takes.kept.shelf) takes.kept.moving y.moving takes.kept.log y.log takes.kept.faults y.faults
  settled = takes.settles seated

  all_awake : KeepsAwake a e
  all_awake =
      then_awake a b e (handled event x takes.handled can.looks (takes.handles can.seated))
      (then_awake b c e (awake_as b c left) (then_awake c d e (awake_as c d kept) (settles takes.kept.shelf takes.kept.moving settled.added y.moving room settled.is)))

pub turns : TurnsKeepAwake
turns event x y can takes = all_awake event x y can takes

pub to_next_wait : ReadStayToNextWait
to_next_wait read wants None x y may comes were = subst (λ (d : Desk). WereRead read d.state) (sym comes.desk) were
to_next_wait read wants (Some event) x y may comes were =
    read_stay read x.moving.desk.state y.moving.desk.state (turns event (behind event comes.log comes.faults x) y (may event comes.log comes.faults) comes.takes) were
