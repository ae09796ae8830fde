use Rattle.std.proofs.Common.{take}
use Rattle.pp_head.specs.Shown.{shown_request}
use Rattle.pp_client.proofs.HeadLemmas.{whole_is_head}
use Rattle.pp_client.proofs.heard.find.Goals as goal

pub returns-in-Whole-clause-head : goal.returns-in-Whole-clause-head
returns-in-Whole-clause-head c = whole_is_head (take c.in-Whole.head.length c.args.bytes.now) (shown_request c.in-Whole.head) c.in-Whole.ensures.cut.enough
