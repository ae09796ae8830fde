use Rattle.std.proofs.Common.{◌∙◌, ap, arith, le_trans, length, refl, subst}
use Rattle.std.proofs.lemmas.List.{take_all}
use Rattle.std.specs.Prelude.{option_copied}
use Rattle.pp_links.proofs.QuietLemmas.{quiet_none, quiet_then}
use Rattle.pp_world.proofs.CallLemmas.{appends_none}
use Rattle.pp_world.specs.Log.{AppendsAll, Log}
use Rattle.pp_steps.specs.Evicting.{forgotten_notes}
use Rattle.pp_steps.proofs.EvictingLemmas.{keys_noted}
use Rattle.pp_steps.proofs.evict.note_forgotten.Goals as goal

pub loop-place-init : goal.loop-place-init
loop-place-init g c = record {
  linked = c.requires;
  quiet = quiet_none (g.W.Logged.log c.args.world.now);
  told = appends_none (g.W.Logged.log c.args.world.now);
  faults = omega arith;
  top = refl;
}

pub loop-place-preserved : goal.loop-place-preserved
loop-place-preserved g c = record {
  linked = c.note_key.ensures.linked;
  quiet = quiet_then c.loop-place.invariant.quiet c.note_key.ensures.quiet;
  told = keys_noted c.args.keys.now c.loop-place.place (option_copied c.get.result) c.get.ensures c.loop-place.invariant.told c.note_key.ensures.told;
  faults = le_trans c.loop-place.invariant.faults c.note_key.ensures.faults;
  top = c.note_key.ensures.top ∙ c.loop-place.invariant.top;
}

pub returns-clause-told : goal.returns-clause-told
returns-clause-told g c =
    subst (λ (hs : Log). AppendsAll (g.W.Logged.log c.args.world.now) (g.W.Logged.log c.loop-place.world) (λ l. hs))
    (ap forgotten_notes (take_all c.loop-place.place c.args.keys.now (omega (arith, c.loop-place-test.false, c.len-place-end.ensures)))) c.loop-place.invariant.told
