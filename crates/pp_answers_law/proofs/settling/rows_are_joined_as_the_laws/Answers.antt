use Rattle.pp_answers_law.proofs.Joined.{joins}
use Rattle.pp_answers_law.proofs.Renewed.{not_modifieds, renewals}
use Rattle.pp_answers_law.proofs.settling.rows_are_joined_as_the_laws.Goals as goal

pub returns : goal.returns
returns c = record { joins = joins; renewals = renewals; not_modified = not_modifieds }
