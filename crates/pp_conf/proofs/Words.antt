-- When words have a reading.
use Rattle.std.proofs.Common.{◌≡◌, Bool, true, ◌&&◌, [], refl}
use Rattle.clap.specs.Kinds.{Kinds}
use Rattle.clap.specs.Walk.{is_empty}

-- where the command takes the words and each positional assigns, the seed decides
pub reads_by : (fault : Kinds) (assigns stands : Bool) → fault ≡ [] → assigns ≡ true → (is_empty fault && (assigns && stands)) ≡ stands
reads_by fault assigns stands none all = rw (none, all) refl
