use Rattle.std.proofs.Common.{◌≡◌, ◌∙◌, ap, sym, slice_get}
use Rattle.pp_state.proofs.RestingLemmas.{numbers_of, rested_next, rested_once, still_numbers}
use Rattle.pp_state.proofs.state.State.note_wanted.Goals as goal
use Rattle.pp_state.proofs.state.State.note_wanted.Goals.{in-Some, in_default}

pub loop-index-preserved : goal.loop-index-preserved
loop-index-preserved c =
    let s = c.args.self.now in
    let t = c.loop-index.self in
    let u = c.match-number_at.self in
    let i = c.loop-index.index in
    let n = c.number_at.result in
    let at : n ≡ slice_get (numbers_of s.flow) i = c.number_at.ensures ∙ ap (λ ns. slice_get ns i) c.loop-index.invariant.same in
    let now : u ≡ rested_once t n = elim c.match-number_at.branch [
      | in-Some w ↦ w.self-is ∙ w.note_wanted_of.ensures ∙ ap (rested_once t) (sym w.in-Some.is)
      | in_default w ↦ w.self-is ∙ ap (rested_once t) (sym w.in_default.is)
    ] in
    record {
      noted = rested_next s t u (numbers_of s.flow) i n c.loop-index.invariant.noted at now;
      same = still_numbers t u n now ∙ c.loop-index.invariant.same;
    }
