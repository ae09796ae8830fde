-- What this program asks of the bytes that it keeps.
use Rattle.std.specs.Prelude.{true}
use Rattle.pp_gate.specs.Files.{Sent}

-- nothing: no origin sent them
abbrev pub anything : Sent
anything block offset byte = true
