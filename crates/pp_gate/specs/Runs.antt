-- Runs of operations: all were done, or the last failed; and what holds at each prefix.
use Rattle.std.specs.Prelude.{◌≡◌, ◌⊎◌, ⊤, Bool, true, false, List, [], ◌∷◌, ◌++◌, Option, Some}
use Rattle.pp_world.specs.declared.happening.Happening.TheVariants.{Began, Did}
use Rattle.pp_world.specs.declared.op.DiskOp.{DiskOp}
use Rattle.pp_world.specs.declared.op.DiskOp.TheVariants.{Draft, SyncDraft, Publish, Write, Sync, Remove}
use Rattle.pp_world.specs.Log.{Log}
use Rattle.pp_world.specs.Disk.{Bytes, View, began, done, undone}

-- these happenings are the operations, all of them done, or up to one that failed
abbrev pub Ran : List DiskOp → Bool → Log → Type 0
Ran [] ok hs = (ok ≡ true) × (hs ≡ [])
Ran (op ∷ ops) ok hs =
    ((ok ≡ false) × (hs ≡ Began op ∷ Did op false ∷ []))
    ⊎ ((rest : Log) × (hs ≡ Began op ∷ Did op true ∷ rest) × Ran ops ok rest)

-- the operations that a call ran, where the log is told
pub record RunsOps (old new : Option Log) (ops : List DiskOp) (ok : Bool) : Type 0 where
  pub was : (l : Log) → new ≡ Some l → (k : Log) × (hs : Log) × (old ≡ Some k) × (l ≡ k ++ hs) × Ran ops ok hs

-- P holds of each log from k on, up to the whole of k ++ hs
pub record AtEach (k hs : Log) (P : Log → Type 0) : Type 0 where
  pub at : (p q : Log) → hs ≡ p ++ q → P (k ++ p)

-- at each moment of a call, where the log is told; P has the log from before the call and the one of the moment
pub record EachMoment (old new : Option Log) (P : Log → Log → Type 0) : Type 0 where
  pub at : (k hs : Log) → old ≡ Some k → new ≡ Some (k ++ hs) → AtEach k hs (P k)

-- the same on the view of one name: Q at the start, and at each step of the operations
abbrev pub During : Bytes → View → List DiskOp → (View → Type 0) → Type 0
During name v [] Q = Q v
During name v (op ∷ ops) Q = Q v × Q (began name op v) × Q (undone name op (began name op v)) × During name (done name op (began name op v)) ops Q

-- an operation on this name, or on the draft
abbrev pub IsOn : Bytes → DiskOp → Type 0
IsOn name (Draft bytes) = ⊤
IsOn name SyncDraft = ⊤
IsOn name (Publish n) = n ≡ name
IsOn name (Write n at bytes) = n ≡ name
IsOn name (Sync n) = n ≡ name
IsOn name (Remove n) = n ≡ name

abbrev pub AllOn : Bytes → List DiskOp → Type 0
AllOn name [] = ⊤
AllOn name (op ∷ ops) = IsOn name op × AllOn name ops
