use Rattle.std.proofs.Common.{◌≡◌, ◌∙◌, option_map, sym, true, Some}
use Rattle.pp_take.specs.Deciding.{may_ask}
use Rattle.pp_state.specs.Ends.{parts}
use Rattle.pp_take.specs.Filling.{instance_of}
use Rattle.pp_take.proofs.FillingLemmas.{span_there}
use Rattle.pp_take.proofs.filling.ask_for.Goals as goal

pub returns-clause-is : goal.returns-clause-is
returns-clause-is c =
    let s = c.args.state.now in
    let room : may_ask s.flow ≡ true = sym c.may_ask.ensures ∙ c.if-not-may_ask.false in
    let is : Some c.in-Some.version ≡ option_map (λ x. x.version) (instance_of c.args.next.now.source s.cache) = sym c.in-Some.is ∙ c.version_of.ensures in
    span_there s.name.items c.args.i c.args.next.now c.args.span c.in-Some.version (parts s) (parts c.ask_hole.new.state) room is c.ask_hole.ensures.is
