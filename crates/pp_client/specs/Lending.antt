-- What is written through a buffer that was lent.
use Rattle.std.specs.Prelude.{ℕ, List}
use Rattle.std.specs.Borrow.{Lends, MutBor, Fml, RattleType, unit, u8}
use denote.Param.{number}
use Rattle.arrayvec.specs.ArrayVec.{ArrayVec}
use Rattle.arrayvec.specs.contracts.array_vec.ArrayVec as vec
use Rattle.pp_client.specs.contracts.buffer.Buffer as buffer

-- the type of a buffer of 20,480 bytes
abbrev pub text_row : RattleType
text_row = vec.the_row u8 (number 20480) unit

abbrev pub LendsBytes : MutBor (List ℕ) → MutBor (ArrayVec ℕ) → Fml
LendsBytes b r = Lends buffer.the_row text_row b r (λ text. text.items)
