-- How the instances are kept: a slab of rows by slot, and the slots in the order of use.
use Rattle.std.specs.Prelude.{ℕ, Bool, ◌<◌, ◌≤◌, ◌≡◌, ◌==◌, true, false, List, [], length, map, get_or, vec_capacity, Option, Some, None, is_some}
use Rattle.std.specs.BTreeMap.{BTreeMap}
use Rattle.std.specs.declared.vec.Vec.{Vec}
use Rattle.slab.specs.Slab.{Slab, slab_len, with_value}
use Rattle.pp_pool.specs.Chunks.{is_in, AreDistinct}
use Rattle.pp_objects.specs.declared.id.ObjectId.{ObjectId}
use Rattle.pp_objects.specs.declared.row.Row.{Row}
use Rattle.pp_objects.specs.declared.objects.Objects.TheInside.{Inside}
use Rattle.pp_text.specs.Fields.{Field}
use Rattle.pp_valid.specs.declared.version.Version.{Version}
use Rattle.pp_fresh.specs.declared.aging.Times.{Times}
use Rattle.pp_holes.specs.Cells.{empty_table}
use Rattle.pp_holes.specs.Spans.{EndsWithin}
use Rattle.pp_objects.specs.ByKey.{slot_for}
use Rattle.pp_objects.specs.Instances.{Instance, Rows, is_row_of}

abbrev pub row_at : List (Option Row) → ℕ → Option Row
row_at rs slot = get_or rs slot None

abbrev pub instance_as : ℕ → Option Row → Instance
instance_as slot None = record {
  slot = slot;
  life = 0;
  key = [];
  version = record { tag = []; length = 0 };
  fields = [];
  times = record { request = 0; response = 0; initial = 0; may_guess = false };
  is_retired = true;
  followers = 0;
  cells = [];
}
instance_as slot (Some r) = record {
  slot = slot;
  life = r.life;
  key = r.key;
  version = r.version;
  fields = r.fields;
  times = r.times;
  is_retired = r.is_retired;
  followers = r.followers;
  cells = r.cells.cells;
}

abbrev pub instance_at : List (Option Row) → ℕ → Instance
instance_at rs slot = instance_as slot (row_at rs slot)

abbrev pub rows_in : Inside → Rows
rows_in o = record { instances = map (instance_at o.rows.slots) o.order.items; lives = o.lives }

-- the slot of a row is the owner of its chunks, and its version's length that of its cells, behind which nothing is in memory
pub record IsOwned (slot : ℕ) (r : Row) : Type 0 where
  pub owner : r.cells.owner ≡ slot
  pub total : r.cells.total ≡ r.version.length
  pub ends : EndsWithin r.cells.cells r.cells.total

-- the order has each slot with a row, once, all of them low; all memory of both lists is there
pub record IsSound (o : Inside) : Type 0 where
  pub distinct : AreDistinct o.order.items
  pub there : (slot : ℕ) → is_in slot o.order.items ≡ is_some (row_at o.rows.slots slot)
  pub owned : (slot : ℕ) (r : Row) → row_at o.rows.slots slot ≡ Some r → IsOwned slot r
  pub count : slab_len o.rows ≡ length o.order.items
  pub few : length o.order.items ≤ 1345
  pub low : (slot : ℕ) → is_in slot o.order.items ≡ true → slot < 1345
  pub room : 1345 ≤ o.rows.capacity
  pub order_room : 1345 ≤ vec_capacity o.order

abbrev pub is_at : ℕ → Option ℕ → Bool
is_at slot None = false
is_at slot (Some n) = slot == n

-- under each key the index has the slot of its row, and nothing else
abbrev pub IsIndexed : {Z : Type 0} → List (Option Row) → BTreeMap (Vec ℕ Z) ℕ → Type 0
IsIndexed rs index = (key : List ℕ) (slot : ℕ) → is_row_of key (instance_at rs slot) ≡ is_at slot (slot_for key index)

pub record IsWhole (o : Inside) : Type 0 where
  pub sound : IsSound o
  pub indexed : IsIndexed o.rows.slots o.index

-- the former row of a key is retired in its slot
abbrev pub IsAside : Slab Row → Slab Row → Option ObjectId → Type 0
IsAside old new None = new ≡ old
IsAside old new (Some id) = (r : Row) → row_at old.slots id.slot ≡ Some r → new ≡ with_value old id.slot (record r { is_retired = true })

-- a row that was just made
pub record IsNew (r : Row) (slot born : ℕ) (text : List ℕ) (of_version : Version) (kept : List Field) (when : Times) : Type 0 where
  pub life : r.life ≡ born
  pub key : r.key ≡ text
  pub version : r.version ≡ of_version
  pub fields : r.fields ≡ kept
  pub times : r.times ≡ when
  pub current : r.is_retired ≡ false
  pub unfollowed : r.followers ≡ 0
  pub cells : r.cells ≡ empty_table slot of_version.length
