-- Every prefix of a lawful log is lawful.
use Rattle.std.proofs.Common.{[], ◌∷◌, ◌++◌}
use Rattle.pp_world.specs.Log.{Log}
use Rattle.pp_law.specs.After.{after}
use Rattle.pp_law.specs.Lawful.{LawfulFrom, EachPrefixIsLawful}
use Rattle.pp_law.specs.State.{State, start}

pub front_from : (s : State) (front rest : Log) → LawfulFrom s (front ++ rest) → LawfulFrom s front
front_from s [] rest lawful = tt
front_from s (h ∷ front) rest lawful = (lawful.0, front_from (after s h) front rest lawful.1)

pub each_prefix : EachPrefixIsLawful
each_prefix terms front rest lawful = front_from (start terms) front rest lawful
