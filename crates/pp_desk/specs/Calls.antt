-- What one read of a connection and one write to it add to the log.
use Rattle.std.specs.Prelude.{ℕ, List, [], ◌∷◌, Option, Some, None, Result}
use Rattle.pp_world.specs.Log.{Log}
use Rattle.pp_world.specs.Wire.{read_happening, write_happening}
use Rattle.pp_world.specs.declared.event.Got.{Got}
use Rattle.pp_world.specs.declared.wire.WireFault.{WireFault}

-- None where no call is made
abbrev pub Found : Type 0
Found = Option (Result Got WireFault)

abbrev pub read_log : ℕ → Found → List ℕ → Log → Log
read_log id None front log = []
read_log id (Some found) front log = read_happening id found front log ∷ []

-- None where no call is made
abbrev pub Took : Type 0
Took = Option (Result ℕ WireFault)

abbrev pub write_log : ℕ → List ℕ → Took → Log → Log
write_log id bytes None log = []
write_log id bytes (Some taken) log = write_happening id bytes taken log ∷ []
