-- What is still to be read says what the whole text says.
use Rattle.std.proofs.Common.{◌≡◌, drop}
use Rattle.pp_text.specs.Numbers.{number_in}
use Rattle.pp_text.proofs.Digits.{read_from}
use Rattle.pp_text.proofs.numbers.read_number.Given as goal

abbrev pub invariant-loop-byte : goal.invariant-loop-byte
invariant-loop-byte l = number_in l.base l.text ≡ read_from l.base l.number (drop l.byte-index l.text)
