use Rattle.pp_shelf_law.proofs.Drafted.{drafts}
use Rattle.pp_shelf_law.proofs.drafting.what_is_drafted_is_the_laws.Goals as goal

pub returns : goal.returns
returns c = drafts
