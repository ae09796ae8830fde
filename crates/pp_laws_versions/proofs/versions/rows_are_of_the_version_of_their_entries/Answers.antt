use Rattle.pp_laws_versions.proofs.Laws.{found_have_one, turns_have_one}
use Rattle.pp_laws_versions.proofs.versions.rows_are_of_the_version_of_their_entries.Goals as goal

pub returns : goal.returns
returns c = record { turns = turns_have_one; found = found_have_one }
