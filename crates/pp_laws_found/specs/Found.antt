-- What was acknowledged is found again. A key's body is acknowledged so far where that is what the log notes of it last.
use Rattle.std.specs.Prelude.{◌≡◌, ◌≤◌, ℕ, List, [], ◌∷◌, ◌++◌, fold, bytes_eq, true, false, Option, Some, None}
use Rattle.pp_target.specs.Name.{name_of}
use Rattle.pp_valid.specs.declared.version.Version.{Version}
use Rattle.pp_world.specs.Disk.{IsLeftBehind}
use Rattle.pp_world.specs.Files.{Files, file_of}
use Rattle.pp_world.specs.Log.{Log}
use Rattle.pp_world.specs.declared.happening.Happening.{Happening}
use Rattle.pp_world.specs.declared.happening.Happening.TheVariants.{Woke, Noted}
use Rattle.pp_world.specs.declared.note.Remark.TheVariants.{Kept, Gone}
use Rattle.pp_law.specs.Entries.{entry_in}
use Rattle.pp_law.specs.Lawful.{Lawful}
use Rattle.pp_law.specs.Lists.{Bytes}
use Rattle.pp_law.specs.State.{Term, Entry}
use Rattle.pp_laws.specs.Runs.{IsIn, state_after}

-- so much of the body of this version
pub record Acknowledged : Type 0 where
  pub version : Version
  pub extent : ℕ

-- Kept comes behind the sync of what it notes; Gone before the removal
abbrev pub noted_of : Bytes → Option Acknowledged → Happening → Option Acknowledged
noted_of key was (Noted (Kept k tag n extent)) = elim (bytes_eq k key) [ true ↦ Some (record { version = record { tag = tag; length = n }; extent = extent }) | false ↦ was ]
noted_of key was (Noted (Gone k)) = elim (bytes_eq k key) [ true ↦ None | false ↦ was ]
noted_of key was happening = was

-- the last note of the key, over all lives
abbrev pub acknowledged : Bytes → Log → Option Acknowledged
acknowledged key log = fold (noted_of key) None log

-- the file is the entry of the key, of that version, and reaches at least so far
pub record IsEntryOf (key : Bytes) (a : Acknowledged) (file : Bytes) : Type 0 where
  pub entry : Entry
  pub is : entry_in (name_of key) file ≡ Some entry
  pub of_key : entry.key ≡ key
  pub of_version : entry.version ≡ a.version
  pub reaches : a.extent ≤ entry.extent

-- and it stands under the name of the key
pub record IsFoundIn (image : Files) (key : Bytes) (a : Acknowledged) : Type 0 where
  pub file : Bytes
  pub stands : file_of (name_of key) image ≡ Some file
  pub entry : IsEntryOf key a file

-- whatever a crash may leave behind a lawful log
abbrev pub AcknowledgedIsFound : Type 0
AcknowledgedIsFound = (terms : List Term) (log : Log) (image : Files) (key : Bytes) (a : Acknowledged)
    → Lawful terms log → IsLeftBehind (state_after terms log).disk image → acknowledged key log ≡ Some a → IsFoundIn image key a

-- ---- the next life

-- a kept row of the key, of that version, that reaches at least so far
pub record HasRow (entries : List Entry) (key : Bytes) (a : Acknowledged) : Type 0 where
  pub entry : Entry
  pub there : IsIn entry entries
  pub of_key : entry.key ≡ key
  pub of_version : entry.version ≡ a.version
  pub reaches : a.extent ≤ entry.extent

-- it begins with all that was acknowledged
abbrev pub AcknowledgedIsRecovered : Type 0
AcknowledgedIsRecovered = (terms : List Term) (log : Log) (image : Files) (key : Bytes) (a : Acknowledged)
    → Lawful terms (log ++ Woke image ∷ []) → acknowledged key log ≡ Some a → HasRow (state_after terms (log ++ Woke image ∷ [])).entries key a
