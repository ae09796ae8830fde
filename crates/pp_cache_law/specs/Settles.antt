-- A new row is made, and the table of the law is changed alike.
use Rattle.std.specs.Prelude.{◌≡◌, ◌<◌, ℕ, Bool, ◌==◌, cond, List, length, Some, None}
use Rattle.pp_cache.specs.Memory.{Memory, with_outdated, with_row}
use Rattle.pp_cache.specs.OnDisk.{kept_to}
use Rattle.pp_fresh.specs.declared.aging.Times.{Times}
use Rattle.pp_law.specs.Lists.{Bytes}
use Rattle.pp_law.specs.State.{State, Entry}
use Rattle.pp_law.specs.Table.{add_row, clear, row, row_on_disk}
use Rattle.pp_objects.specs.Instances.{in_slot}
use Rattle.pp_objects.specs.Kept.{kept_of}
use Rattle.pp_objects.specs.declared.id.ObjectId.{ObjectId}
use Rattle.pp_text.specs.Fields.{Field}
use Rattle.pp_valid.specs.declared.version.Version.{Version}
use Rattle.pp_cache_law.specs.Tables.{OfCaches, ShowsCache}

-- a life that is given has the next number of the law
abbrev pub numbered : ℕ → ℕ → (ℕ → ℕ) → ℕ → ℕ
numbered life n number k = cond (k == life) n (number k)

-- in a vacant slot. The row that stood there before is cleared
abbrev pub SettlingsAreTheLaws : Type 0
SettlingsAreTheLaws = OfCaches (λ number m s. (id : ObjectId) (key : Bytes) (version : Version) (fields : List Field) (times : Times) (is_new : Bool) → in_slot id.slot m.instances ≡ None → id.life ≡ m.lives
    → ShowsCache (numbered m.lives s.next_instance number) (with_outdated key (with_row id key version fields times m)) (add_row key version (kept_of fields times) times is_new (clear key s)))

-- a row that is kept on the disk alone may come into memory, in a vacant slot. In memory it has the fields that are kept of those
-- that stand there
pub record MayEnter (m : Memory) (s : State) (id : ObjectId) (key : Bytes) (stored : List Field) (e : Entry) : Type 0 where
  pub vacant : in_slot id.slot m.instances ≡ None
  pub life : id.life ≡ m.lives
  pub slot : id.slot < length m.extents
  pub alone : row s key ≡ None
  pub kept : row_on_disk s key ≡ Some e
  pub fields : e.fields ≡ kept_of stored e.times

abbrev pub entered : ObjectId → Bytes → List Field → Entry → Memory → Memory
entered id key stored e m = record (with_row id key e.version stored e.times m) { extents = kept_to id e.extent m.extents }

abbrev pub EnteringsAreTheLaws : Type 0
EnteringsAreTheLaws = OfCaches (λ number m s. (id : ObjectId) (key : Bytes) (stored : List Field) (e : Entry) (is_new : Bool) → MayEnter m s id key stored e
    → ShowsCache (numbered m.lives s.next_instance number) (entered id key stored e m) (add_row key e.version e.fields e.times is_new s))
