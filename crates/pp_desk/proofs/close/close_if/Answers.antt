use Rattle.std.proofs.Common.{Option, ℕ, ap, subst, sym}
use Rattle.std.specs.Option.{option_to_list}
use Rattle.pp_desk.specs.Shutting.{closings}
use Rattle.pp_desk.proofs.ShuttingLemmas.{closed_one}
use Rattle.pp_world.specs.Log.{AppendsAll}
use Rattle.pp_desk.proofs.close.close_if.Goals as goal

pub returns-in-Some-clause-told : goal.returns-in-Some-clause-told
returns-in-Some-clause-told g c =
    let Closes : Option ℕ → Type 0 = λ over. AppendsAll (g.W.Logged.log c.args.world.now) (g.W.Logged.log c.close.new.world) (λ l. closings (option_to_list over) c.args.links.now) in
    subst Closes (sym c.in-Some.is) (closed_one c.args.links.now c.in-Some.id c.requires c.close.ensures.told (λ none. ap g.W.Logged.log (c.close.ensures.none none)))
