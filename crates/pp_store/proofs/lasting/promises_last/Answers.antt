use Rattle.pp_store.proofs.Backing.{outlast-crashes, outlast-others, outlast-sending}
use Rattle.pp_store.proofs.lasting.promises_last.Goals as goal

pub returns-clause-sending : goal.returns-clause-sending
returns-clause-sending c = outlast-sending

pub returns-clause-others : goal.returns-clause-others
returns-clause-others c = outlast-others

pub returns-clause-crashes : goal.returns-clause-crashes
returns-clause-crashes c = outlast-crashes
