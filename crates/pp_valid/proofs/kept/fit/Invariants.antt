use Rattle.std.proofs.Common.{◌≡◌, ◌+◌, take}
use Rattle.pp_valid.specs.Kept.{is_of}
use Rattle.pp_valid.proofs.LineLemmas.{bytes}
use Rattle.pp_valid.proofs.kept.fit.Given as goal

abbrev pub invariant-loop-index : goal.invariant-loop-index
invariant-loop-index l = l.left + bytes (is_of l.kind l.fields) (take l.index l.fields) ≡ l.room
