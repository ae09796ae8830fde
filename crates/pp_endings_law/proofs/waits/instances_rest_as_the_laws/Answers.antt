use Rattle.pp_endings_law.proofs.Instances.{instances_rest}
use Rattle.pp_endings_law.proofs.waits.instances_rest_as_the_laws.Goals as goal

pub returns : goal.returns
returns c = record { rests = instances_rest }
