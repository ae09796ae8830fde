use Rattle.pp_links.proofs.QuietLemmas.{quiet_then}
use Rattle.pp_talk.proofs.hearing.hear.Goals as goal

pub returns-clause-quiet : goal.returns-clause-quiet
returns-clause-quiet g c = quiet_then c.take_in.ensures.quiet c.end_replies.ensures.quiet
