-- A row in memory, and the entry on the disk that stands for it, are of one version: where another comes the key is cleared, and its entry stale (ours).
use Rattle.std.specs.Prelude.{◌≡◌, ℕ, false, List, Some}
use Rattle.pp_law.specs.State.{State, Term, Entry, Instance}
use Rattle.pp_law.specs.Table.{instance, kept_row}
use Rattle.pp_laws.specs.Runs.{IsIn}
use Rattle.pp_obeys.specs.Obeys.{Obeys}
use Rattle.pp_world.specs.Log.{Log}

-- of each row that was not replaced, and each entry of its key that is not stale
abbrev pub AreOfOneVersion : State → Type 0
AreOfOneVersion s = (x : Instance) (e : Entry) → IsIn x s.instances → x.is_retired ≡ false → IsIn e s.entries → e.is_stale ≡ false → e.key ≡ x.key → e.version ≡ x.version

-- in each state that a lawful log may go on as from
abbrev pub TurnsHaveOneVersion : Type 0
TurnsHaveOneVersion = (terms : List Term) (s : State) (log : Log) → Obeys terms s log → AreOfOneVersion s

-- so of the entry that is found for a row
abbrev pub FoundOnesHaveOneVersion : Type 0
FoundOnesHaveOneVersion = (terms : List Term) (s : State) (log : Log) → Obeys terms s log → (id : ℕ) (x : Instance) (e : Entry) → instance s id ≡ Some x → x.is_retired ≡ false → kept_row s x.key ≡ Some e → e.version ≡ x.version
