use Rattle.std.proofs.Common.{◌∙◌, ap, get_or, sym}
use Rattle.pp_state.specs.Ends.{changed_at, regained}
use Rattle.pp_state.proofs.SeatsLemmas.{all_regained-next}
use Rattle.pp_state.proofs.state.regain_all.Goals as goal

pub loop-i-preserved : goal.loop-i-preserved
loop-i-preserved c =
    c.regain_at.ensures ∙ ap (changed_at (get_or c.args.places.now c.loop-i.i-index 0) (regained c.args.cache.now)) c.loop-i.invariant
    ∙ sym (all_regained-next c.args.cache.now c.args.places.now c.loop-i.i-index c.args.seats.now c.loop-i-test.true)
