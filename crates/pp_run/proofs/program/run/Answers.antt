use Rattle.std.proofs.Common.{◌∙◌, ap, is_some, le_refl, refl, sym, map, string_bytes, None, rules}
use Rattle.pp_run.proofs.Breaking.{asked_breaks}
use Rattle.pp_run.proofs.Living.{asked_none, faults_serve_none, none_served}
use Rattle.pp_run.proofs.Starting.{ends_unnamed}
use Rattle.pp_run.specs.Lives.{has_served, outside}
use Rattle.pp_run.proofs.program.run.Goals as goal

pub returns-in-Ok-None : goal.returns-in-Ok-None
returns-in-Ok-None g c =
    let words = map string_bytes c.args.words.now in
    let unnamed = sym (rw c.in-Ok-None.field-0-is at (c.in-Ok-None.ensures.1)) in
    let from = outside (g.W.Logged.log c.args.world.now) (g.W.Logged.top c.args.world.now) (g.W.Logged.faults c.args.world.now) in
    record {
      judges = c.start.ensures.words;
      ends = ends_unnamed _ _ words c.start.result _ _ unnamed c.start.ensures.told;
      served = λ served. record {
        text = None;
        named = ap is_some (sym unnamed);
        asked = from;
        asks = asked_none _ words unnamed;
        by = record { top = refl; count = le_refl _ };
        read = c.start.ensures.read served;
      };
      breaks = asked_breaks words None c.start.result from from _ c.in-Ok-None.ensures.0 (ap is_some (sym unnamed)) (asked_none _ words unnamed) (le_refl _) c.start.ensures.breaks;
    }

pub returns-in-Err : goal.returns-in-Err
returns-in-Err g c = record {
  judges = search rules;
  ends = search rules;
  served = none_served (map string_bytes c.args.words.now) c.refuse.result _ (ap has_served c.refuse.ensures.exit ∙ faults_serve_none c.in-Err.fault);
  breaks = search rules;
}
