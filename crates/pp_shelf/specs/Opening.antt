-- What the log gains where a folder is opened, and the shelf that is made.
use Rattle.std.specs.Prelude.{◌≡◌, ◌⊎◌, true, false, List, [], ◌∷◌, ◌++◌, ℕ, Option, Result, Ok, Err}
use Rattle.pp_world.specs.declared.happening.Happening.TheVariants.{Listed, Rooted}
use Rattle.pp_world.specs.Files.{Files}
use Rattle.pp_world.specs.Log.{AppendsAll, Log}
use Rattle.pp_links.specs.Quiet.{GrowsBy}
use Rattle.pp_shelf.specs.Steady.{IsOnDisk}
use Rattle.pp_recover.specs.Opening.{Opens}
use Rattle.pp_recover.specs.declared.faults.RecoverFault.{RecoverFault}
use Rattle.pp_recover.specs.declared.faults.RecoverFault.TheVariants.{DiskFault, OutOfMemory}
use Rattle.pp_store.specs.Kept.{KeptMap}

-- memory was refused before the folder was listed, or behind that
abbrev pub MayBeListed : Log → Type 0
MayBeListed log = (log ≡ []) ⊎ ((rest : Log) × (log ≡ Listed true ∷ rest) × IsOnDisk rest)

-- the folder is used and listed, and behind that stray gates are closed and files may stay unread; or it could not be listed
abbrev pub OpensAs : {A : Type 0} → List ℕ → Result A RecoverFault → Option Log → Option Log → Type 0
OpensAs folder (Ok shelf) old new = GrowsBy (Rooted folder ∷ Listed true ∷ []) IsOnDisk old new
OpensAs folder (Err DiskFault) old new = AppendsAll old new (λ l. Rooted folder ∷ Listed false ∷ [])
OpensAs folder (Err OutOfMemory) old new = GrowsBy (Rooted folder ∷ []) MayBeListed old new

-- the folder is used, and its entries are found behind that as pp_recover finds them
abbrev pub Recovers : List ℕ → Result KeptMap RecoverFault → Files → Log → Log → Type 0
Recovers folder result files before hs = (rest : Log) × (hs ≡ Rooted folder ∷ rest) × Opens result files (before ++ Rooted folder ∷ []) rest
