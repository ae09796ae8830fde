-- What a crash leaves of the folder, and what is read back from it. An entry is a file whose head block, gates, length and name agree.
use Rattle.std.specs.Prelude.{◌≡◌, ℕ, List, [], ◌∷◌, ◌++◌, drop, take, Some}
use Rattle.pp_entry.specs.Texts.{body_at}
use Rattle.pp_world.specs.Disk.{IsLeftBehind}
use Rattle.pp_world.specs.Files.{Files, file_of}
use Rattle.pp_world.specs.Log.{Log}
use Rattle.pp_world.specs.declared.happening.Happening.TheVariants.{Said}
use Rattle.pp_law.specs.Entries.{entry_in}
use Rattle.pp_law.specs.Lawful.{Lawful}
use Rattle.pp_law.specs.Lists.{Bytes}
use Rattle.pp_law.specs.State.{Sent, Term, Entry}
use Rattle.pp_laws.specs.Origin.{AllSent, HoldsWhatWasSent, SaysWhatWasSent}
use Rattle.pp_laws.specs.Runs.{state_after}

-- the bytes of an entry's file that stand below its extent
abbrev pub kept_bytes : Entry → Bytes → Bytes
kept_bytes e file = take e.extent (drop (body_at e.version.length) file)

-- of each file that is an entry these were sent by an origin, for its key, at their offsets, under its version
abbrev pub IsBacked : List Sent → Files → Type 0
IsBacked sent image = (name file : Bytes) → file_of name image ≡ Some file → (e : Entry) → entry_in name file ≡ Some e → AllSent sent e.key e.version 0 (kept_bytes e file)

-- whatever a crash may leave behind a lawful log
abbrev pub EachImageIsBacked : Type 0
EachImageIsBacked = (terms : List Term) (log : Log) (image : Files) → Lawful terms log → IsLeftBehind (state_after terms log).disk image → IsBacked (state_after terms log).sent image

-- ---- what is read back was sent: so this holds with no more said of the disk

-- each byte in memory was sent, for that key, at that offset, under that version
abbrev pub AllHeldWasSent : Type 0
AllHeldWasSent = (terms : List Term) (log : Log) → Lawful terms log → HoldsWhatWasSent (state_after terms log)

-- and so was each byte of a body that is said from memory
abbrev pub AllSaidWasSent : Type 0
AllSaidWasSent = (terms : List Term) (log : Log) (n offered : ℕ) (bytes : Bytes) → Lawful terms (log ++ Said n offered bytes ∷ []) → SaysWhatWasSent (state_after terms log) n bytes
