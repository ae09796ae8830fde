-- How long the lines of a row are, and a head that is made from it (RFC 2616, sections 6, 10.3.5 and 13.5.3).
use Rattle.std.specs.Prelude.{◌≤◌, List, length}
use Rattle.pp_text.specs.Lines.{lines_of}
use Rattle.pp_world.specs.Log.{Log}
use Rattle.pp_world.specs.declared.note.Decision.{Decision}
use Rattle.pp_law.specs.Deciding.{span_of}
use Rattle.pp_law.specs.Replies.{instance_head}
use Rattle.pp_law.specs.Requests.{Parsed}
use Rattle.pp_law.specs.State.{State, Term, Client, Entry, Instance}
use Rattle.pp_laws.specs.Runs.{IsIn}
use Rattle.pp_obeys.specs.Obeys.{Obeys}

-- ours: at most 16,384 bytes that last, and 2,048 that are renewed
pub record HasShortTexts (s : State) : Type 0 where
  -- of each instance in memory
  pub rows : (x : Instance) → IsIn x s.instances → length (lines_of x.fields) ≤ 18432
  -- and of each entry on the disk
  pub entries : (e : Entry) → IsIn e s.entries → length (lines_of e.fields) ≤ 18432

-- in each state that a lawful log may go on as from
abbrev pub TurnsHaveLines : Type 0
TurnsHaveLines = (terms : List Term) (s : State) (log : Log) → Obeys terms s log → HasShortTexts s

-- so a head that is made from an instance in memory has 20,480 bytes at most, where what it shows ends with the body. The name of this
-- proxy has 64 bytes at most, by its type
abbrev pub HeadsHaveRoom : Type 0
HeadsHaveRoom = (terms : List Term) (s : State) (log : Log) → Obeys terms s log → length s.settings.name ≤ 64
    → (c : Client) (r : Parsed) (x : Instance) (d : Decision) → IsIn x s.instances → (span_of d).0 ≤ (span_of d).1 → (span_of d).1 ≤ x.version.length → length (instance_head s r c x d) ≤ 20480
