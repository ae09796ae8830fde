-- How the entries that are kept, and the closed names, stand in memory.
use Rattle.std.specs.Prelude.{◌≤◌, ◌+◌, length, vec_capacity}
use Rattle.pp_store.specs.declared.store.Store.TheInside.{Inside}
use Rattle.pp_store.specs.Kept.{KeptMap, HasOwnNames}

abbrev pub map_in : Inside → KeptMap
map_in store = record { rows = store.rows; closed = store.closed.items }

-- there is room to close each name that is kept, and for 10,000 names
pub record IsSound (store : Inside) : Type 0 where
  pub names : HasOwnNames (map_in store)
  pub room : length store.rows + length store.closed.items ≤ vec_capacity store.closed
  pub many : 10000 ≤ vec_capacity store.closed
