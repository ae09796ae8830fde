-- What a step adds to the log, and that nothing of it is a failure of the outside.
use Rattle.std.proofs.Common.{◌≡◌, ◌<◌, ◌≤◌, ◌-◌, ◌+◌, ℕ, suc, List, [], ◌∷◌, ◌++◌, Option, Some, None, find, refl, arith}
use Rattle.std.specs.Prelude.{count_by}
use Rattle.pp_desk.specs.Shutting.{closed_as, closings}
use Rattle.pp_links.proofs.FailureLemmas.{counted_then, none_in_both}
use Rattle.pp_links.specs.Failures.{fails}
use Rattle.pp_links.specs.Links.{Link, is_link, without}
use Rattle.pp_objects.specs.Instances.{Instance}
use Rattle.pp_places.proofs.PlacingLemmas.{told_then}
use Rattle.pp_proxy.specs.Deciding.{turned_log}
use Rattle.pp_proxy.specs.Moving.{LeadsOn, Moving}
use Rattle.pp_proxy.specs.Taking.{decision_log, due_log, due_log_of, who_at}
use Rattle.pp_seats.specs.declared.due.Due.{Due}
use Rattle.pp_seats.specs.declared.due.Due.TheVariants.{Decide, CutOff}
use Rattle.pp_state.specs.declared.state.State.{State}
use Rattle.pp_steps.specs.Evicting.{row_in_way, row_notes}
use Rattle.pp_take.specs.Deciding.{afforded}
use Rattle.pp_world.specs.Log.{Log}
use Rattle.pp_world.specs.Wire.{by_side}
use Rattle.pp_world.specs.declared.event.Side.{Side}
use Rattle.pp_world.specs.declared.event.Side.TheVariants.{Client, Origin}
use Rattle.pp_world.specs.declared.happening.Happening.TheVariants.{Dropped, Noted, Shut}
use Rattle.pp_world.specs.declared.note.Cause.TheVariants.{Memory}
use Rattle.pp_world.specs.declared.note.Remark.TheVariants.{Cut, Taken}
use Rattle.pp_world.specs.declared.note.Decision.{Decision}

-- ---- of so many steps, i were made

pub one_less : (most i : ℕ) → i < most → most - i ≡ suc (most - (i + 1))
one_less most i less = grind (arith)

pub none_left : (most i : ℕ) → most ≤ i → most - i ≡ 0
none_left most i all = grind (arith)

-- ---- closings

closed_fails : (o : Option Link) → count_by fails (closed_as o) ≡ 0
closed_fails None = refl
closed_fails (Some link) = by link.1
  where
    by : (side : Side) → count_by fails (by_side (Some side) (Shut link.0) (Dropped link.0) ∷ []) ≡ 0
    by Client = refl
    by Origin = refl

pub closings_fail : (ids : List ℕ) (links : List Link) → count_by fails (closings ids links) ≡ 0
closings_fail [] links = refl
closings_fail (id ∷ ids) links = none_in_both (closed_as (find (is_link id) links)) (closings ids (without id links)) (closed_fails (find (is_link id) links)) (closings_fail ids (without id links))

pub turned_fails : (o : Option ℕ) (links : List Link) → count_by fails (turned_log o links) ≡ 0
turned_fails None links = refl
turned_fails (Some c) links = none_in_both (Noted (Cut c Memory) ∷ []) (closings (c ∷ []) links) refl (closings_fail (c ∷ []) links)

-- ---- what is due

decision_fails : (who : ℕ × ℕ) (i : ℕ) (d : Decision) (s : State) → count_by fails (decision_log who i d s) ≡ 0
decision_fails who i d s = by (row_in_way d i s)
  where
    by : (o : Option Instance) → count_by fails (row_notes o ++ Noted (Taken who.0 who.1 d) ∷ []) ≡ 0
    by None = refl
    by (Some x) = refl

pub due_fails : (i : ℕ) (due : Due) (s : State) → count_by fails (due_log i due s) ≡ 0
due_fails i due s = by (who_at i s) due
  where
    by : (o : Option (ℕ × ℕ)) (due : Due) → count_by fails (due_log_of o i due s) ≡ 0
    by None due = refl
    by (Some who) (Decide d) = decision_fails who i (afforded i d s) s
    by (Some who) (CutOff cause) = refl

-- ---- one behind the other

pub leads_then : {First Second Both : Moving → Log → Moving → Type 0} {x mid y : Moving} {old log new : Option Log} {before between now : ℕ} → ((one two : Log) → First x one mid → Second mid two y → Both x (one ++ two) y)
    → LeadsOn First x mid old log before between → LeadsOn Second mid y log new between now → LeadsOn Both x y old new before now
leads_then {First} {Second} {Both} {x} {mid} {y} {old} {log} {new} {before} {between} {now} joins first second = record {
  added = first.added ++ second.added;
  is = joins first.added second.added first.is second.is;
  told = told_then first.added second.added first.told second.told;
  counted = counted_then before between now first.added second.added first.counted second.told second.counted;
}
