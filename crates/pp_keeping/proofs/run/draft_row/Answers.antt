use Rattle.std.proofs.Common.{◌≡◌, ◌+◌, ◌∙◌, ℕ, refl, sym, subst, ap, arith, length, drop, length-drop}
use Rattle.pp_entry.specs.Texts.{body_at}
use Rattle.pp_keeping.specs.Kept.{Notes, outside}
use Rattle.pp_keeping.specs.Runs.{draft_notes, drafted_to, entry_in}
use Rattle.pp_shelf.proofs.SteadyLemmas.{steady_then_quiet}
use Rattle.pp_keeping.proofs.run.draft_row.Goals as goal

pub returns-clause-steady : goal.returns-clause-steady
returns-clause-steady g c = steady_then_quiet c.draft-answer.ensures.steady c.note_drafted.ensures.quiet

pub returns-clause-is : goal.returns-clause-is
returns-clause-is g c =
    let log = g.W.Logged.log in
    let faults = g.W.Logged.faults in
    let shelf = c.draft-answer.new.shelf in
    let entry = entry_in c.args.row.now in
    let front = body_at entry.version.length in
    let mid = outside shelf (log c.draft-answer.new.world) (faults c.draft-answer.new.world) in
    let new = outside shelf (log c.note_drafted.new.world) (faults c.note_drafted.new.world) in
    let len : length (drop front c.args.room.now) ≡ c.args.extent = omega (arith, length-drop front c.args.room.now, c.requires.long) in
    record {
      answer = c.draft-answer.result;
      between = mid;
      drafts = c.draft-answer.ensures.is;
      notes = subst (λ (n : ℕ). Notes (draft_notes c.draft-answer.result entry n) mid new) (sym len) (record { shelf = refl; told = c.note_drafted.ensures.told; count = c.note_drafted.ensures.faults });
      is = c.drafted_to.ensures ∙ ap (λ (n : ℕ). drafted_to c.draft-answer.result n) (sym len);
    }
