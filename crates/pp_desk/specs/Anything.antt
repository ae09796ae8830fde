-- What the proxy says of the bytes that it keeps.
use Rattle.std.specs.Prelude.{true}
use Rattle.pp_gate.specs.Files.{Sent}

-- nothing yet: that an origin sent them is tested
abbrev pub anything : Sent
anything block offset byte = true
