-- The row of an exchange's key, and its version (RFC 2616, section 13.3).
use Rattle.std.specs.Prelude.{ℕ, List, Option, option_map, option_and_then}
use Rattle.pp_cache.specs.Memory.{Memory}
use Rattle.pp_objects.specs.Instances.{id_of, row_of}
use Rattle.pp_objects.specs.declared.id.ObjectId.{ObjectId}
use Rattle.pp_valid.specs.declared.version.Version.{Version}
use Rattle.pp_state.specs.Ends.{Parts}
use Rattle.pp_state.specs.Keys.{key_of}

abbrev pub row_in : List ℕ → Memory → Option (ObjectId × Version)
row_in key m = option_map (λ i. (id_of i, i.version)) (row_of key m.instances)

-- and its version
abbrev pub row_for : ℕ → Parts → Option (ObjectId × Version)
row_for number p = option_and_then (λ key. row_in key p.cache) (key_of number p.flow)
