-- Which entries stand for no row any more, or give their name to another key, in the cache and in the table of the law alike. The
-- cache notes them by their names.
use Rattle.std.specs.Prelude.{◌≡◌, ◌<◌, ◌&&◌, ◌||◌, not, false, List, [], ◌∷◌, ◌++◌, length, bytes_eq, ⊤}
use Rattle.std.specs.List.{find, list_any}
use Rattle.pp_cache.specs.Memory.{Memory, retired_at, with_outdated}
use Rattle.pp_law.specs.Lists.{Bytes, has_text}
use Rattle.pp_law.specs.State.{State, Entry}
use Rattle.pp_law.specs.Store.{note_gone}
use Rattle.pp_law.specs.Table.{clear, is_entry_of, is_namesake, row_on_disk}
use Rattle.pp_target.specs.Name.{name_of}

-- an entry is stale, or its key displaced, where its name is noted
abbrev pub AreNoted : List Bytes → List Bytes → List Entry → Type 0
AreNoted names displaced [] = ⊤
AreNoted names displaced (e ∷ es) = ((e.is_stale || has_text e.key displaced) ≡ list_any (bytes_eq e.name) names) × AreNoted names displaced es

-- each entry has the name of its key
abbrev pub AreNamed : List Entry → Type 0
AreNamed [] = ⊤
AreNamed (e ∷ es) = (e.name ≡ name_of e.key) × AreNamed es

-- what comes into memory of a key is the entry that is not noted
abbrev pub KeptRowsAreTheLaws : Type 0
KeptRowsAreTheLaws = (m : Memory) (s : State) (key : Bytes) → AreNoted m.outdated s.displaced s.entries → find (λ e. not (list_any (bytes_eq e.name) m.outdated) && is_entry_of key e) s.entries ≡ row_on_disk s key

-- a row is cleared, or another made in its place: ours, where fewer names are noted than may be
abbrev pub ClearingsAreTheLaws : Type 0
ClearingsAreTheLaws = (m : Memory) (s : State) (key : Bytes) → AreNoted m.outdated s.displaced s.entries → AreNamed s.entries → length m.outdated < 2048
    → AreNoted (retired_at key m).outdated (clear key s).displaced (clear key s).entries × AreNoted (with_outdated key m).outdated (clear key s).displaced (clear key s).entries

-- an entry is taken away, and its name is noted no more: no two entries have one name
abbrev pub TakingsAreTheLaws : Type 0
TakingsAreTheLaws = (m : Memory) (s : State) (key : Bytes) (names : List Bytes) → m.outdated ≡ names ++ name_of key ∷ [] → AreNoted m.outdated s.displaced s.entries → list_any (is_namesake key) s.entries ≡ false
    → AreNoted names (note_gone key s).displaced (note_gone key s).entries
