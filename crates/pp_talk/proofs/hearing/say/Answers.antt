use Rattle.pp_links.proofs.QuietLemmas.{quiet_then}
use Rattle.pp_talk.proofs.hearing.say.Goals as goal

pub returns-clause-quiet : goal.returns-clause-quiet
returns-clause-quiet g c = quiet_then c.write_to.ensures.quiet c.end_replies.ensures.quiet
