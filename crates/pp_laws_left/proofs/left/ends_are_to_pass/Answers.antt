use Rattle.pp_laws_left.proofs.Passes.{ends_are_to_pass}
use Rattle.pp_laws_left.proofs.left.ends_are_to_pass.Goals as goal

pub returns : goal.returns
returns c = record { pass = ends_are_to_pass }
