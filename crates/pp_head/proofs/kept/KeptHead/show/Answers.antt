use Rattle.std.proofs.Common.{◌∙◌}
use Rattle.pp_head.proofs.KeptLemmas.{kept_within, shown_alone}
use Rattle.pp_head.proofs.RequestAgrees.{request_exact, request_stays}
use Rattle.pp_head.proofs.RequestSpansLemmas.{shown_within, shown_cut}
use Rattle.pp_head.proofs.kept.KeptHead.show.Goals as goal

pub show-requires : goal.show-requires
show-requires c = kept_within c.args.self.now c.args.bytes.now c.requires

pub returns-clause-within : goal.returns-clause-within
returns-clause-within c = shown_within c.args.bytes.now c.show.result (c.show.ensures ∙ c.requires.value)

pub returns-clause-cut : goal.returns-clause-cut
returns-clause-cut c = shown_cut c.args.bytes.now c.show.result (c.show.ensures ∙ c.requires.value)

pub returns-clause-alone : goal.returns-clause-alone
returns-clause-alone c = shown_alone c.args.self.now c.args.bytes.now c.requires c.show.result (c.show.ensures ∙ c.requires.value)

pub returns-clause-exact : goal.returns-clause-exact
returns-clause-exact c = request_exact c.args.bytes.now

pub returns-clause-stays : goal.returns-clause-stays
returns-clause-stays c = request_stays c.args.bytes.now
