-- How many files the folder has, whatever a crash leaves. All of it is ours.
use Rattle.std.specs.Prelude.{◌≡◌, ◌≤◌, Bool, true, not, List, length, map, filter, is_some}
use Rattle.pp_world.specs.Disk.{IsLeftBehind, is_rising}
use Rattle.pp_world.specs.Files.{Files}
use Rattle.pp_world.specs.Log.{Log}
use Rattle.pp_law.specs.Entries.{entries_in, entry_in}
use Rattle.pp_law.specs.Lawful.{Lawful}
use Rattle.pp_law.specs.Lists.{Bytes}
use Rattle.pp_law.specs.State.{Term}
use Rattle.pp_laws.specs.Runs.{state_after}

abbrev pub is_no_entry : Bytes × Bytes → Bool
is_no_entry file = not (is_some (entry_in file.0 file.1))

-- at most 10,000 entries, and at most 1,000 other files
pub record HasFewFiles (image : Files) : Type 0 where
  pub entries : length (entries_in image) ≤ 10000
  pub others : length (filter is_no_entry image) ≤ 1000

-- whatever a crash may leave behind a lawful log, each name once
abbrev pub ImagesAreSmall : Type 0
ImagesAreSmall = (terms : List Term) (log : Log) (image : Files)
    → Lawful terms log → is_rising (map (λ file. file.0) image) ≡ true → IsLeftBehind (state_after terms log).disk image → HasFewFiles image
