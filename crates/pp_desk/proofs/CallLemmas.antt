-- What one read of a connection and one write to it add to the log.
use Rattle.std.proofs.Common.{◌≡◌, ℕ, IfNone, IfSome, List, [], Option, Some, None, refl}
use Rattle.pp_desk.specs.Calls.{Found, Took, read_log, write_log}
use Rattle.pp_desk.proofs.ShuttingLemmas.{none_added}
use Rattle.pp_world.specs.Log.{Appends, AppendsAll, Log}
use Rattle.pp_world.specs.Wire.{read_happening, write_happening}

pub if_none : {A : Type 0} {P Q : Type 0} (o : Option A) → (P → Q) → IfNone o P → IfNone o Q
if_none None f p = f p
if_none (Some x) f p = tt

pub read_told : {old new : Option Log} (id : ℕ) (found : Found) (front : List ℕ) → IfNone found (new ≡ old) → IfSome found (λ r. Appends old new (read_happening id r front)) → AppendsAll old new (read_log id found front)
read_told id None front none some = none_added [] none refl
read_told id (Some r) front none some = some

pub write_told : {old new : Option Log} (id : ℕ) (bytes : List ℕ) (took : Took) → IfNone took (new ≡ old) → IfSome took (λ r. Appends old new (write_happening id bytes r)) → AppendsAll old new (write_log id bytes took)
write_told id bytes None none some = none_added [] none refl
write_told id bytes (Some r) none some = some
