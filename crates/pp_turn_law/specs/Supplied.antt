-- What rounds of a turn rest on is supplied, in a log of so many happenings, wherever this stands as they begin (ours).
use Rattle.std.specs.Prelude.{◌≤◌, length}
use Rattle.pp_given_law.specs.MayNote.{NamesAreFew, most_names}
use Rattle.pp_law.specs.State.{State}
use Rattle.pp_state.specs.Ends.{parts}
use Rattle.pp_state.specs.declared.state.State.{State as Turn}
use Rattle.pp_stays_law.specs.Turns.{AreCounted, NoSeatIsRefused, StandsInTurn, TextsHaveRoom}
use Rattle.pp_store.specs.Kept.{KeptMap}

-- beside what each step shows: nobody waits for a row that memory was refused for, texts have room, what is dropped is counted, and what is
-- kept on the disk is known (`pp_stays_law`); and the name of the proxy has 64 bytes at most, as its type says
pub record StandsSupplied (shelf : KeptMap) (p : Turn) (s : State) : Type 0 where
  pub stays : StandsInTurn shelf p s
  pub name : length p.name.items ≤ 64

-- and few names are noted, with those that may be (MayNote of `pp_given_law`): so before Stop
pub record StandsServing (shelf : KeptMap) (p : Turn) (s : State) : Type 0 where
  pub supplied : StandsSupplied shelf p s
  pub names : NamesAreFew most_names (parts p)

-- all of it but what is kept on the disk: from one wait to the next (`pp_given_law`)
pub record StandsGiven (p : Turn) (s : State) : Type 0 where
  pub given : NoSeatIsRefused p
  pub texts : TextsHaveRoom p
  pub counted : AreCounted p s
  pub name : length p.name.items ≤ 64
