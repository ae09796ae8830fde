-- What is known of each row (RFC 2616, sections 10.3.5, 13.5.1, 13.5.3 and 14.18).
use Rattle.std.specs.Prelude.{◌≡◌, ◌≤◌, ◌^◌, List}
use Rattle.pp_fresh.specs.declared.aging.Times.{Times}
use Rattle.pp_objects.specs.Kept.{kept_of}
use Rattle.pp_text.specs.Fields.{Field}
use Rattle.pp_valid.specs.declared.version.Version.{Version}
use Rattle.pp_world.specs.Log.{Log}
use Rattle.pp_law.specs.State.{State, Term, Entry, Instance}
use Rattle.pp_laws.specs.Runs.{IsIn}
use Rattle.pp_obeys.specs.Obeys.{Obeys}

-- the fields are those that are kept of them (section 13.5.3); ours: the body has at most 2^30 bytes
pub record IsKept (v : Version) (fields : List Field) (times : Times) : Type 0 where
  pub kept : kept_of fields times ≡ fields
  pub short : v.length ≤ 2 ^ 30

pub record KeepsFields (s : State) : Type 0 where
  -- of each instance in memory
  pub rows : (x : Instance) → IsIn x s.instances → IsKept x.version x.fields x.times
  -- and of each entry on the disk
  pub entries : (e : Entry) → IsIn e s.entries → IsKept e.version e.fields e.times

-- in each state that a lawful log may go on as from
abbrev pub TurnsKeepFields : Type 0
TurnsKeepFields = (terms : List Term) (s : State) (log : Log) → Obeys terms s log → KeepsFields s
