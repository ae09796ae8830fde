use Rattle.std.proofs.Common.{◌∙◌}
use Rattle.pp_head.proofs.ResponseAgrees.{response_exact, response_stays}
use Rattle.pp_head.proofs.ResponseSpansLemmas.{shown_within, shown_cut}
use Rattle.pp_head.proofs.response.read_response.Goals as goal

pub returns-clause-within : goal.returns-clause-within
returns-clause-within c = shown_within c.args.bytes.now c.show.result (c.show.ensures ∙ c.locate-located.ensures.value)

pub returns-clause-cut : goal.returns-clause-cut
returns-clause-cut c = shown_cut c.args.bytes.now c.show.result (c.show.ensures ∙ c.locate-located.ensures.value)

pub returns-clause-exact : goal.returns-clause-exact
returns-clause-exact c = response_exact c.args.bytes.now

pub returns-clause-stays : goal.returns-clause-stays
returns-clause-stays c = response_stays c.args.bytes.now
