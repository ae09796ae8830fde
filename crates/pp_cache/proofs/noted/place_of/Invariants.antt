use Rattle.std.proofs.Common.{◌≡◌, false, take}
use Rattle.pp_cache.specs.Notes.{has_noted, keys_of}
use Rattle.pp_cache.proofs.noted.place_of.Given as goal

abbrev pub invariant-loop-place : goal.invariant-loop-place
invariant-loop-place l = has_noted l.key (take l.place (keys_of l.keys)) ≡ false
