-- Each head that a connection reads is short enough to be written anew (ours).
use Rattle.std.specs.Prelude.{◌≤◌, ℕ, List, length}
use Rattle.pp_given_law.specs.Stays.{HeadsHaveRoom}

-- under a name of at most 64 bytes
abbrev pub HeadsAreShort : Type 0
HeadsAreShort = (name : List ℕ) → length name ≤ 64 → HeadsHaveRoom name
