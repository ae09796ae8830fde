-- What the disk holds after each call, and that an entry stands under a kept or a closed name alone.
use Rattle.std.proofs.Common.{◌≡◌, ℕ, Bool, true, false, cond, List, [], ◌∷◌, Option, None, refl}
use Rattle.std.specs.Prelude.{IsSome}
use Rattle.pp_world.specs.declared.happening.Happening.TheVariants.{Unread}
use Rattle.pp_world.specs.declared.op.DiskOp.{DiskOp}
use Rattle.pp_world.specs.declared.op.DiskOp.TheVariants.{Remove}
use Rattle.pp_world.specs.Log.{Log, AppendsAll, Told}
use Rattle.pp_world.specs.Disk.{Bytes}
use Rattle.pp_target.specs.Name.{name_of}
use Rattle.pp_gate.specs.Gate.{OthersSame}
use Rattle.pp_gate.specs.Runs.{AllOn, RunsOps, EachMoment}
use Rattle.pp_store.specs.Kept.{Kept, KeptMap, HasOwnNames, name_at, is_closed, is_of, kept_of, kept_under, row_of}
use Rattle.pp_store.specs.Changes.{closed_once, with_row, with_closed, without, lost, extended, extended_to}
use Rattle.pp_gate.specs.Files.{Sent}
use Rattle.pp_store.specs.Held.{IsOnDisk, IsHeld, Holds, Covers}
use Rattle.pp_store.proofs.Lists.{All-found}
use Rattle.pp_store.proofs.Names.{found_row, name-kept}
use Rattle.pp_store.proofs.Running.{after_runs, after_appends, after_unread, after_none, removed_slot, told_both, told_map}
use Rattle.pp_store.proofs.Holding.{holds-without, holds-lost, holds-extended, holds-with_row, holds-with_closed, covers-without, covers-lost, covers-extended, covers-with_row, covers-with_closed}

-- after a run of operations on the name of a key that is kept
module _ (old new : Option Log) (ops : List DiskOp) (sent : Sent) (store : KeptMap) (key : List ℕ)
    (own : HasOwnNames store) (kept : IsSome (kept_of key store)) (on : AllOn (name_of key) ops) (others : EachMoment old new (OthersSame (name_of key))) where
  pub lost_holds : (ok : Bool) → RunsOps old new ops ok → Told old (Holds sent store) → Told new (Holds sent (lost key store))
  lost_holds ok runs told = after_runs old new ops ok (name_of key) (Holds sent store) (Holds sent (lost key store)) on runs others told
      (λ k l was is held after. holds-lost sent store key (row_of key store) ok k l own (found_row key store kept) held after)

  pub lost_covers : (ok : Bool) → RunsOps old new ops ok → Told old (Covers store) → Told new (Covers (lost key store))
  lost_covers ok runs told = after_runs old new ops ok (name_of key) (Covers store) (Covers (lost key store)) on runs others told
      (λ k l was is covers after. covers-lost store key ok k l after covers)

  pub extended_holds : (extent : ℕ) → RunsOps old new ops true → Told old (Holds sent store) → Told new (IsOnDisk sent (extended_to extent (row_of key store))) → Told new (Holds sent (extended key extent store))
  extended_holds extent runs told done = after_runs old new ops true (name_of key) (Holds sent store) (Holds sent (extended key extent store)) on runs others told
      (λ k l was is held after. holds-extended sent store key (row_of key store) extent k l own (found_row key store kept) held after
      (record { keeps = done.at l is; reads = (All-found (is_of key) (IsHeld sent k) store.rows (row_of key store) held.rows (found_row key store kept)).reads }))

  pub extended_covers : (extent : ℕ) → RunsOps old new ops true → Told old (Covers store) → Told new (Covers (extended key extent store))
  extended_covers extent runs told = after_runs old new ops true (name_of key) (Covers store) (Covers (extended key extent store)) on runs others told
      (λ k l was is covers after. covers-extended store key extent k l (name-kept key store kept) after covers)

-- after the removal of its file
module _ (old new : Option Log) (sent : Sent) (store : KeptMap) (key : List ℕ)
    (own : HasOwnNames store) (kept : IsSome (kept_of key store)) (runs : RunsOps old new (Remove (name_of key) ∷ []) true) (others : EachMoment old new (OthersSame (name_of key))) where
  pub withdrawn_holds : Told old (Holds sent store) → Told new (Holds sent (without key store))
  withdrawn_holds told = after_runs old new (Remove (name_of key) ∷ []) true (name_of key) (Holds sent store) (Holds sent (without key store)) (refl, tt) runs others told
      (λ k l was is held after. holds-without sent store key (row_of key store) k l own (found_row key store kept) held after)

  pub withdrawn_covers : Told old (Covers store) → Told new (Covers (without key store))
  withdrawn_covers told = after_runs old new (Remove (name_of key) ∷ []) true (name_of key) (Covers store) (Covers (without key store)) (refl, tt) runs others told
      (λ k l was is covers after. covers-without store key k l ((removed_slot old new (name_of key) runs).at l is) after covers)

-- after a read of its file that failed
module _ (old new : Option Log) (sent : Sent) (store : KeptMap) (key : List ℕ)
    (own : HasOwnNames store) (kept : IsSome (kept_of key store)) where
  pub unread_holds : AppendsAll old new (λ l. Unread (name_of key) ∷ []) → Told old (Holds sent store) → Told new (Holds sent (lost key store))
  unread_holds call told = after_appends old new (Unread (name_of key) ∷ []) false (name_of key) (Holds sent store) (Holds sent (lost key store)) call (after_unread (name_of key)) told
      (λ k l held after. holds-lost sent store key (row_of key store) false k l own (found_row key store kept) held after)

  pub unread_covers : AppendsAll old new (λ l. Unread (name_of key) ∷ []) → Told old (Covers store) → Told new (Covers (lost key store))
  unread_covers call told = after_appends old new (Unread (name_of key) ∷ []) false (name_of key) (Covers store) (Covers (lost key store)) call (after_unread (name_of key)) told
      (λ k l covers after. covers-lost store key false k l after covers)

-- after a run of operations on a name that is neither kept nor closed
module _ (old new : Option Log) (ops : List DiskOp) (sent : Sent) (store : KeptMap) (row : Kept)
    (absent : kept_under (name_at row) store ≡ None) (on : AllOn (name_at row) ops) (others : EachMoment old new (OthersSame (name_at row))) where
  pub kept_holds : RunsOps old new ops true → Told old (Holds sent store) → Told new (λ l. IsHeld sent l row) → Told new (Holds sent (with_row row.entry row.extent store))
  kept_holds runs told done = after_runs old new ops true (name_at row) (Holds sent store) (Holds sent (with_row row.entry row.extent store)) on runs others told
      (λ k l was is held after. holds-with_row sent store row k l absent held after (done.at l is))

  pub kept_covers : RunsOps old new ops true → Told old (Covers store) → Told new (Covers (with_row row.entry row.extent store))
  kept_covers runs told = after_runs old new ops true (name_at row) (Covers store) (Covers (with_row row.entry row.extent store)) on runs others told
      (λ k l was is covers after. covers-with_row store row k l after covers)

  pub closed_holds : (ok : Bool) → RunsOps old new ops ok → Told old (Holds sent store) → Told new (Holds sent (with_closed (name_at row) store))
  closed_holds ok runs told = after_runs old new ops ok (name_at row) (Holds sent store) (Holds sent (with_closed (name_at row) store)) on runs others told
      (λ k l was is held after. holds-with_closed sent store (name_at row) ok k l absent held after)

  pub closed_covers : (ok : Bool) → RunsOps old new ops ok → Told old (Covers store) → Told new (Covers (with_closed (name_at row) store))
  closed_covers ok runs told = after_runs old new ops ok (name_at row) (Covers store) (Covers (with_closed (name_at row) store)) on runs others told
      (λ k l was is covers after. covers-with_closed store (name_at row) ok k l after covers)

-- an entry that an earlier life left, and a name that is closed
pub found_holds : (log : Option Log) (sent : Sent) (store : KeptMap) (row : Kept) → kept_under (name_at row) store ≡ None → Told log (Holds sent store) → Told log (λ l. IsHeld sent l row)
    → Told log (Holds sent (with_row row.entry row.extent store))
found_holds log sent store row absent told held =
    told_both log (Holds sent store) (λ l. IsHeld sent l row) (Holds sent (with_row row.entry row.extent store)) told held
    (λ l holds there. holds-with_row sent store row l l absent holds (after_none (name_at row) l) there)

pub close_holds : (log : Option Log) (sent : Sent) (store : KeptMap) (name : Bytes) → kept_under name store ≡ None → Told log (Holds sent store) → Told log (Holds sent (closed_once name store))
close_holds log sent store name absent told = by (is_closed name store)
  where
    by : (b : Bool) → Told log (Holds sent (cond b store (with_closed name store)))
    by true = told
    by false = told_map log (Holds sent store) (Holds sent (with_closed name store)) told (λ l holds. holds-with_closed sent store name true l l absent holds (after_none name l))
