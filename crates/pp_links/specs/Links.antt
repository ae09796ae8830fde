-- The connections that are open: each is open in the log, where that is told, and each stands in the list once.
use Rattle.std.specs.Prelude.{◌≡◌, ◌≢◌, ◌≤◌, ℕ, Bool, ◌==◌, not, List, [], ◌∷◌, ◌++◌, Option, Some, Result, Ok, Err}
use Rattle.std.specs.List.{All, AllPairs, filter, list_any}
use Rattle.pp_world.specs.declared.event.Side.{Side}
use Rattle.pp_world.specs.declared.event.Side.TheVariants.{Origin}
use Rattle.pp_world.specs.declared.wire.WireFault.{WireFault}
use Rattle.pp_world.specs.Connections.{side_of}
use Rattle.pp_world.specs.Log.{Log, Told}

-- a connection by its number, and whose it is
abbrev pub Link : Type 0
Link = ℕ × Side

-- ours: the most connections at once
abbrev pub max_links : ℕ
max_links = 512

abbrev pub is_link : ℕ → Link → Bool
is_link id link = link.0 == id

abbrev pub has_link : ℕ → List Link → Bool
has_link id links = list_any (is_link id) links

abbrev pub is_other : ℕ → Link → Bool
is_other id link = not (is_link id link)

-- all but the one with this number
abbrev pub without : ℕ → List Link → List Link
without id links = filter (is_other id) links

-- an origin that was dialled stands behind the others
abbrev pub links_with : Result ℕ WireFault → List Link → List Link
links_with (Ok k) links = links ++ (k, Origin) ∷ []
links_with (Err fault) links = links

-- where the log is told
abbrev pub AreOpen : List Link → Log → Type 0
AreOpen links log = All (λ link. side_of link.0 log ≡ Some link.1) links

-- no number stands there that was not given, and none twice
pub record IsLinked (log : Option Log) (top : ℕ) (links : List Link) : Type 0 where
  pub given : All (λ link. link.0 ≤ top) links
  pub apart : AllPairs (λ one other. one.0 ≢ other.0) links
  pub opened : Told log (AreOpen links)
