-- Nothing more is to be kept where bytes leave memory, where rows come in without bytes, and where bytes are read back (ours).
use Rattle.std.specs.Prelude.{◌≡◌, ◌≤◌, ℕ, true, false, List, Some}
use Rattle.pp_cache.specs.Memory.{is_in_memory}
use Rattle.pp_keeps_law.specs.All.{AreAmong}
use Rattle.pp_law.specs.Lists.{Bytes}
use Rattle.pp_objects.specs.Instances.{Instance}
use Rattle.pp_objects.specs.declared.id.ObjectId.{ObjectId}
use Rattle.pp_state.specs.Bringing.{instance_of}
use Rattle.pp_state.specs.declared.state.State.{State as Turn}
use Rattle.pp_store.specs.Kept.{Kept as KeptRow, KeptMap, kept_of}

-- a byte of an instance of that key is in memory, and not kept
pub record IsUnkept (p : Turn) (shelf : KeptMap) (id : ObjectId) (key : Bytes) (o : ℕ) : Type 0 where
  pub kept : KeptRow
  pub there : kept_of key shelf ≡ Some kept
  pub behind : kept.extent ≤ o
  pub held : is_in_memory id.slot o p.cache.chunks ≡ true

-- an instance was there, and each such byte of it was in memory; or it has none
pub data BringsNone (p q : Turn) (shelf : KeptMap) (id : ObjectId) (j : Instance) : Type 0 where
  was : (i : Instance) → instance_of id p.cache.instances ≡ Some i → i.is_retired ≡ false → i.key ≡ j.key → i.version ≡ j.version → ((o : ℕ) → IsUnkept q shelf id j.key o → is_in_memory id.slot o p.cache.chunks ≡ true) → BringsNone p q shelf id j
  bare : ((o : ℕ) → IsUnkept q shelf id j.key o → ⊥) → BringsNone p q shelf id j

-- from one turn and what is kept in it to another
pub record BringsNothing (p q : Turn) (shelf new : KeptMap) : Type 0 where
  pub run : q.run ≡ p.run
  pub kept : (key : Bytes) (k : KeptRow) → kept_of key new ≡ Some k → kept_of key shelf ≡ Some k
  pub rows : (id : ObjectId) (j : Instance) → instance_of id q.cache.instances ≡ Some j → j.is_retired ≡ false → BringsNone p q new id j

-- so each of which a run is full is among the same
abbrev pub NoneComesOfLess : Type 0
NoneComesOfLess = (ids : List ObjectId) (p q : Turn) (shelf new : KeptMap) → BringsNothing p q shelf new → AreAmong ids p shelf → AreAmong ids q new
