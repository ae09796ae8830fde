use Rattle.pp_cache_law.proofs.Changed.{followings_of, forgettings_of, marks_of, renewals_of}
use Rattle.pp_cache_law.proofs.changing.changes_are_the_laws.Goals as goal

pub returns : goal.returns
returns c = record { marks = marks_of; renewals = renewals_of; followings = followings_of; forgettings = forgettings_of }
