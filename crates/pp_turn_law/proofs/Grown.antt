-- What an event rests on of what grew, and where nothing is to be kept.
use Rattle.std.proofs.Common.{◌≡◌, ◌≤◌, sym, subst, ap, ◌∙◌, ℕ, length, List, [], ◌∷◌, ◌++◌, Some, None, arith}
use Rattle.std.specs.Prelude.{vec_capacity}
use Rattle.pp_turns_law.proofs.GivenUp.{waiting_in_order}
use Rattle.pp_desk.specs.declared.desk.Desk.{Desk}
use Rattle.pp_events_law.specs.Stands.{come}
use Rattle.pp_flow_law.specs.Tables.{none_leaves}
use Rattle.pp_grown_law.proofs.Grown.{settlings_leave, waits_leave}
use Rattle.pp_grown_law.proofs.Handled.{chunks_whole}
use Rattle.pp_grown_law.proofs.Numbers.{shown_numbered}
use Rattle.pp_grown_law.proofs.Reading.{handlings_note, lines_short}
use Rattle.pp_grown_law.specs.Grown.{HasNothingToKeep}
use Rattle.pp_grown_law.specs.Numbered.{AreNumbered}
use Rattle.pp_grown_law.specs.Reads.{StandsToGrow}
use Rattle.pp_law.specs.Phases.{ending}
use Rattle.pp_law.specs.State.{State}
use Rattle.pp_law.specs.Turn.{rest_with}
use Rattle.pp_laws_turn.proofs.Laws.{sound_turns}
use Rattle.pp_objects.specs.Instances.{Instance}
use Rattle.pp_proxy.specs.Moving.{Turning}
use Rattle.pp_state.specs.Bringing.{instance_of}
use Rattle.pp_state.specs.Ends.{parts}
use Rattle.pp_store.specs.Kept.{KeptMap}
use Rattle.pp_turns_law.specs.Turns.{ShowsTurn}
use Rattle.pp_turn_law.proofs.HandledSo.{come_so, waited}
use Rattle.pp_turn_law.proofs.Kept.{go_to_decide, nothing_left}
use Rattle.pp_turn_law.specs.Awaited.{awaiting}
use Rattle.pp_turn_law.specs.Grown.{AwaitedOnesMayGrow, EmptyOnesHaveNothing, HandledOnesLeaveNothing, HandledOnesNoteGrown, ServedOnesLeaveNothing, TurnsLeaveNothing}
use Rattle.pp_turn_law.specs.Kept.{HasGoneToDecide, LeavesAndKeeps}
use Rattle.pp_turn_law.specs.Waited.{HasWaitedOn}
use Rattle.pp_world.specs.declared.happening.Happening.TheVariants.{Waits}

pub are_numbered : (number : ℕ → ℕ) (d : Desk) (s : State) → ShowsTurn number none_leaves d.peers d.state s → AreNumbered d.state.flow
are_numbered number d s shows = shown_numbered number none_leaves d.state.flow s (waiting_in_order number d.state.name.items none_leaves d.peers (parts d.state) s shows.steps) shows.steps.shows.exchanges

has_room : (n cap : ℕ) → n ≡ 32768 → 32768 ≤ cap → n ≤ cap
has_room n cap is holds = omega (arith, is, holds)

pub awaited_grow : AwaitedOnesMayGrow
awaited_grow terms log number w x u it carried = record {
  bounded = it.stands.desk.turn.bounded;
  numbered = are_numbered number x.moving.desk (rest_with w u) it.stands.desk.turn;
  short = λ k. lines_short number x.moving.desk.state.flow (rest_with w u) k it.stands.desk.turn.steps.shows.exchanges (sound_turns terms (rest_with w u) log it.obeys).bounded.lines;
  room = has_room (length x.moving.desk.buffer.items) (vec_capacity x.moving.desk.«data») it.buffer it.holds;
  whole = chunks_whole x.shelf (rest_with w u) carried.disk.shows;
}

pub empty_have : EmptyOnesHaveNothing
empty_have p shelf none grown = record { none = λ id i found next. absurd (let both : None ≡ Some i = sym (ap (λ (is : List Instance). instance_of id is) none) ∙ found in cc both); grown = grown }

pub handled_note : HandledOnesNoteGrown
handled_note life budget log w event x f all faults y s it handles nothing =
    handlings_note event (come event came) y (record { bounded = grows.bounded; numbered = grows.numbered; short = grows.short; room = grows.room; whole = grows.whole }) handles
    (waits_leave x.turning.shelf x.read w it.clients x.turning.moving.desk it.awaiting f it.awaits it.rests nothing)
  where
    came : Turning
    came = awaiting x f all faults

    waits : HasWaitedOn life budget log x w it.clients f it.stands.number s
    waits = waited life budget log w event x f all faults y s it

    grows : StandsToGrow came
    grows = awaited_grow (life.terms budget) (log ++ Waits w ∷ []) it.stands.number w came (ending s) (come_so life budget log w event x f all faults y s it).stands waits.carried

pub handled_leave : HandledOnesLeaveNothing
handled_leave life budget log after number x y s st does told few straight = nothing_left life budget log after number x y s st does told few straight

pub served_leave : ServedOnesLeaveNothing
served_leave number x y s kept does nothing =
    subst (λ (shelf : KeptMap). HasNothingToKeep y.moving.desk.state shelf) (sym does.shelf)
    (settlings_leave x.shelf x.moving y.moving does.settles.added kept.turn.bounded (are_numbered number x.moving.desk s kept.turn) does.settles.is nothing)

pub turns_leave : TurnsLeaveNothing
turns_leave life budget log behind after w event x f all faults handled kept y number s t turns handles stands keeps told few straight serves nothing =
    served_leave gone.number kept y gone.then gone.kept serves (nothing_left life budget behind after number handled kept t stands does told few straight)
  where
    does : LeavesAndKeeps handled kept
    does = keeps (handled_note life budget log w event x f all faults handled s turns handles nothing)

    gone : HasGoneToDecide life budget behind handled kept t
    gone = go_to_decide life budget behind after number handled kept t stands does told few
