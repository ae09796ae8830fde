use Rattle.std.proofs.Common.{Option, ℕ, subst}
use Rattle.std.specs.Option.{option_to_list}
use Rattle.pp_links.proofs.QuietLemmas.{quiet_then}
use Rattle.pp_desk.specs.Shutting.{closings, over_at}
use Rattle.pp_world.specs.Log.{AppendsAll, Log}
use Rattle.pp_desk.proofs.desk.Desk.shut.Goals as goal

pub returns-clause-quiet : goal.returns-clause-quiet
returns-clause-quiet g c = quiet_then c.log_cut.ensures.quiet c.close_if.ensures.quiet

pub returns-clause-told : goal.returns-clause-told
returns-clause-told g c =
    let Closes : Option Log → Option ℕ → Type 0 = λ old over. AppendsAll old (g.W.Logged.log c.close_if.new.world) (λ l. closings (option_to_list over) c.args.links.now) in
    subst (λ (old : Option Log). Closes old (over_at c.args.self.now.state c.args.i)) c.log_cut.ensures.told (subst (λ (over : Option ℕ). Closes (g.W.Logged.log c.log_cut.new.world) over) c.over_at.ensures c.close_if.ensures.told)
