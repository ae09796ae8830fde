-- Where a read or a write is owed what is carried stands.
use Rattle.std.proofs.Common.{◌≡◌, refl, sym, ◌∙◌, [], ◌∷◌, List, ℕ}
use Rattle.pp_turns_law.proofs.Twice.{regains_once}
use Rattle.pp_desk.specs.declared.desk.Desk.{Desk}
use Rattle.pp_events_law.specs.Woken.{IsOwed}
use Rattle.pp_joints_law.proofs.CarriedOn.{StandsTo, awaited_from, still_on}
use Rattle.pp_joints_law.proofs.DeskBehind.{wakes_behind, wakes_lost, wakes_stay}
use Rattle.pp_joints_law.proofs.ClearedAll.{BringNone}
use Rattle.pp_joints_law.proofs.LawBehind.{NeverTick, not_ticked}
use Rattle.pp_joints_law.specs.Behind.{HasFew, StandsBefore}
use Rattle.pp_joints_law.specs.BehindLosses.{ReadsAreOwedSo, StandsOwed, WritesAreOwedSo}
use Rattle.pp_law.specs.After.{event, owing}
use Rattle.pp_law.specs.Phases.{in_phase}
use Rattle.pp_law.specs.Replies.{regained}
use Rattle.pp_law.specs.State.{State, Owed, Term, Handling, ReadOf, WriteTo}
use Rattle.pp_proxy.specs.Handling.{Wakes}
use Rattle.pp_proxy.specs.Moving.{Moving, with_desk}
use Rattle.pp_store.specs.Kept.{KeptMap}
use Rattle.pp_world.specs.Log.{Log}
use Rattle.pp_world.specs.declared.happening.Happening.{Happening}
use Rattle.pp_world.specs.declared.happening.Happening.TheVariants.{CanRead, CanWrite}

module _ (terms : List Term) (log : Log) (number : ℕ → ℕ) (shelf : KeptMap) (id : ℕ) (owed : Owed) (h : Happening) (x : Moving) (woken : Desk) (s : State) (before : StandsBefore terms log number shelf x s) (wakes : Wakes id x.desk woken) (few : HasFew (with_desk woken x))
    (it : IsOwed number owed h (with_desk woken x) s (event (owing owed id s))) where
  abbrev t : State
  t = event (owing owed id s)

  once : t ≡ regained t
  unfolding event
  once = sym (regains_once (in_phase Handling (owing owed id s)))

  abbrev there : StandsTo number (with_desk woken x) t
  there = record { here = t; anew = once; table = it.stands.desk.turn.steps.shows.table.table; ticked = it.stands.ticked; opened = it.stands.opened }

  owed_so : BringNone (h ∷ []) → NeverTick (h ∷ []) → StandsOwed shelf (with_desk woken x) t
  owed_so none still =
      still_on terms log number number shelf x (with_desk woken x) s t (h ∷ []) (awaited_from terms log number shelf x s before) none it.leads there few (wakes_behind id x.desk woken wakes)
      (wakes_lost id x.desk woken wakes ∙ before.carried.disk.lost ∙ sym (not_ticked terms (h ∷ []) log s t none still before.obeys it.leads).lost) (wakes_stay id x.desk woken wakes)

pub reads_owed : ReadsAreOwedSo
reads_owed terms log number shelf id x woken s before wakes few it = owed_so terms log number shelf id (ReadOf id) (CanRead id) x woken s before wakes few it refl (refl, tt)

pub writes_owed : WritesAreOwedSo
writes_owed terms log number shelf id x woken s before wakes few it = owed_so terms log number shelf id (WriteTo id) (CanWrite id) x woken s before wakes few it refl (refl, tt)
