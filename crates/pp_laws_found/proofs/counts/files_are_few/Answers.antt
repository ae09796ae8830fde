use Rattle.pp_laws_found.proofs.CountsLaws.{images_small}
use Rattle.pp_laws_found.proofs.counts.files_are_few.Goals as goal

pub returns : goal.returns
returns c = record { few = images_small }
