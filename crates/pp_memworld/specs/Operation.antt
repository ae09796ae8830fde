-- An operation as the log keeps it.
use Rattle.pp_world.specs.declared.op.DiskOp.{DiskOp}
use Rattle.pp_world.specs.declared.op.DiskOp.TheVariants.{Draft, SyncDraft, Publish, Write, Sync, Remove}
use Rattle.pp_memworld.specs.declared.operation.Operation.{Operation}
use Rattle.pp_memworld.specs.declared.operation.Operation.TheVariants.{Draft as Drafts, SyncDraft as SyncsDraft, Publish as Publishes, Write as Writes, Sync as Syncs, Remove as Removes}

abbrev pub op_of : Operation → DiskOp
op_of (Drafts bytes) = Draft bytes.now
op_of SyncsDraft = SyncDraft
op_of (Publishes name) = Publish name.now
op_of (Writes name at bytes) = Write name.now at bytes.now
op_of (Syncs name) = Sync name.now
op_of (Removes name) = Remove name.now
