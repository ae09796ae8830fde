use Rattle.std.proofs.Common.{ap, refl, ◌∙◌, [], ◌∷◌, Some, None, arith}
use Rattle.pp_desk.proofs.ShuttingLemmas.{closed_one, none_added}
use Rattle.pp_desk.specs.Shutting.{closings}
use Rattle.pp_desk.specs.declared.desk.Desk.{Desk}
use Rattle.pp_links.proofs.FailureLemmas.{counted_none}
use Rattle.pp_places.proofs.PlacingLemmas.{told_then}
use Rattle.pp_proxy.proofs.DecidingLemmas.{none_turned, turned_as}
use Rattle.pp_proxy.proofs.LeadingLemmas.{turned_fails}
use Rattle.pp_proxy.specs.Deciding.{turned_log}
use Rattle.pp_proxy.specs.Moving.{moving}
use Rattle.pp_world.specs.declared.happening.Happening.TheVariants.{Noted}
use Rattle.pp_world.specs.declared.note.Cause.TheVariants.{Memory}
use Rattle.pp_world.specs.declared.note.Remark.TheVariants.{Cut}
use Rattle.pp_proxy.proofs.steps.turn_away.Goals as goal

pub returns-in-None-clause-is : goal.returns-in-None-clause-is
returns-in-None-clause-is g c =
    let old : Desk = c.args.desk.now in
    let x = moving old c.args.links.now (g.W.Logged.top c.args.world.now) in
    record { added = []; is = turned_as None x x c.in-None.is (none_turned old c.in-None.is) refl refl; told = none_added [] refl refl; counted = counted_none [] refl (omega arith) }

pub returns-in-Some-clause-is : goal.returns-in-Some-clause-is
returns-in-Some-clause-is g c =
    let old : Desk = c.args.desk.now in
    let client = c.in-Some.client in
    let top = g.W.Logged.top in
    let links = c.args.links.now in
    let x = moving old links (top c.args.world.now) in
    let y = moving (record old { turned_away = None }) c.close.new.self (top c.close.new.world) in
    record {
      added = turned_log (Some client) links;
      is = turned_as (Some client) x y c.in-Some.is refl c.close.ensures.links (c.close.ensures.top ∙ c.note.ensures.top);
      told = told_then (Noted (Cut client Memory) ∷ []) (closings (client ∷ []) links) c.note.ensures.told (closed_one links client c.note.ensures.linked c.close.ensures.told (λ none. ap g.W.Logged.log (c.close.ensures.none none)));
      counted = counted_none (turned_log (Some client) links) (turned_fails (Some client) links) (omega (arith, c.note.ensures.faults, c.close.ensures.faults));
    }
