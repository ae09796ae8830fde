-- What came and went on each connection, as joined bytes.
use Rattle.std.specs.Prelude.{ℕ, List, [], ◌==◌, if◌then◌else◌}
use Rattle.std.specs.List.{flat_map}
use Rattle.pp_world.specs.declared.happening.Happening.{Happening}
use Rattle.pp_world.specs.declared.happening.Happening.TheVariants.{Heard, Said, Asked, Got}
use Rattle.pp_world.specs.Log.{Log}

abbrev pub heard_in : ℕ → Happening → List ℕ
heard_in c (Heard n bytes) = if n == c then bytes else []
heard_in c happening = []

abbrev pub said_in : ℕ → Happening → List ℕ
said_in c (Said n offered bytes) = if n == c then bytes else []
said_in c happening = []

abbrev pub asked_in : ℕ → Happening → List ℕ
asked_in k (Asked n bytes) = if n == k then bytes else []
asked_in k happening = []

abbrev pub got_in : ℕ → Happening → List ℕ
got_in k (Got n bytes) = if n == k then bytes else []
got_in k happening = []

-- what client c sent
unfoldable pub heard : ℕ → Log → List ℕ
heard c log = flat_map (heard_in c) log

-- what client c was sent
unfoldable pub said : ℕ → Log → List ℕ
said c log = flat_map (said_in c) log

-- what the origin of connection k was sent
unfoldable pub asked : ℕ → Log → List ℕ
asked k log = flat_map (asked_in k) log

-- what the origin of connection k sent
unfoldable pub got : ℕ → Log → List ℕ
got k log = flat_map (got_in k) log
