-- One file worked out: drafted, synced, published, written over, a sync that fails, and a removal that fails.
use Rattle.std.proofs.Common.{◌≡◌, [], ◌∷◌, ◌++◌, true, false, None, Some, refl}
use Rattle.pp_world.specs.declared.happening.Happening.TheVariants.{Woke, Began, Did}
use Rattle.pp_world.specs.declared.op.DiskOp.TheVariants.{Draft, SyncDraft, Publish, Write, Sync, Remove}
use Rattle.pp_world.specs.Disk.{Bytes, Stored, View, view_of, image_of, settled, unsynced, loosened, written, splice, is_left}
use Rattle.pp_world.specs.Log.{Log}

abbrev name : Bytes
name = 97 ∷ []

abbrev published : Log
published = Woke [] ∷ Began (Draft (1 ∷ 2 ∷ 3 ∷ [])) ∷ Did (Draft (1 ∷ 2 ∷ 3 ∷ [])) true ∷ Began SyncDraft ∷ Did SyncDraft true ∷ Began (Publish name) ∷ Did (Publish name) true ∷ []

abbrev writing : Log
writing = published ++ Began (Write name 1 (9 ∷ [])) ∷ []

abbrev wrote : Log
wrote = writing ++ Did (Write name 1 (9 ∷ [])) true ∷ []

abbrev rests : Bytes → View
rests bytes = record { draft = None; slot = Some (record { bytes = bytes; synced = 3; end = 3; loose = [] }) ∷ []; failed = false }

-- the range that is being written
abbrev in_doubt : Bytes → Stored
in_doubt bytes = record { bytes = bytes; synced = 3; end = 3; loose = (1, 2) ∷ [] }

views : (view_of name published ≡ rests (1 ∷ 2 ∷ 3 ∷ []))
    × (view_of name writing ≡ record { draft = None; slot = Some (in_doubt (1 ∷ 2 ∷ 3 ∷ [])) ∷ []; failed = false })
    × (view_of name wrote ≡ record { draft = None; slot = Some (in_doubt (1 ∷ 9 ∷ 3 ∷ [])) ∷ []; failed = false })
    × (view_of name (wrote ++ (Began (Sync name) ∷ Did (Sync name) true ∷ [])) ≡ rests (1 ∷ 9 ∷ 3 ∷ []))
    × (view_of (98 ∷ []) wrote ≡ record { draft = None; slot = None ∷ []; failed = false })
unfolding view_of settled unsynced loosened written splice
views = (refl, refl, refl, refl, refl)

-- a crash in the midst of that write leaves any byte at 1, and all the others
left : (is_left (in_doubt (1 ∷ 2 ∷ 3 ∷ [])) (1 ∷ 7 ∷ 3 ∷ []) ≡ true)
    × (is_left (in_doubt (1 ∷ 2 ∷ 3 ∷ [])) (7 ∷ 2 ∷ 3 ∷ []) ≡ false)
    × (is_left (in_doubt (1 ∷ 2 ∷ 3 ∷ [])) (1 ∷ 2 ∷ []) ≡ false)
left = (refl, refl, refl)

-- a draft that is published without a sync may lose any of its bytes
unsynced_draft : view_of name (Woke [] ∷ Began (Draft (5 ∷ [])) ∷ Did (Draft (5 ∷ [])) true ∷ Began (Publish name) ∷ Did (Publish name) true ∷ [])
    ≡ record { draft = None; slot = Some (record { bytes = 5 ∷ []; synced = 0; end = 1; loose = [] }) ∷ []; failed = false }
unfolding view_of unsynced
unsynced_draft = refl

-- a sync that failed leaves the write loose, and so does each sync of that name behind it, until the next start
failed_syncs : (view_of name (wrote ++ (Began (Sync name) ∷ Did (Sync name) false ∷ [])) ≡ record { draft = None; slot = Some (in_doubt (1 ∷ 9 ∷ 3 ∷ [])) ∷ []; failed = true })
    × (view_of name (wrote ++ (Began (Sync name) ∷ Did (Sync name) false ∷ Began (Sync name) ∷ Did (Sync name) true ∷ [])) ≡ record { draft = None; slot = Some (in_doubt (1 ∷ 9 ∷ 3 ∷ [])) ∷ []; failed = true })
    × (view_of name (wrote ++ (Began (Sync (98 ∷ [])) ∷ Did (Sync (98 ∷ [])) false ∷ Began (Sync name) ∷ Did (Sync name) true ∷ [])) ≡ rests (1 ∷ 9 ∷ 3 ∷ []))
unfolding view_of settled unsynced loosened written splice
failed_syncs = (refl, refl, refl)

-- a publish that failed leaves two files in doubt, of which a sync reaches one, and which is not known: it settles none
abbrev doubtful : Log
doubtful = wrote ++ (Began (Draft (5 ∷ [])) ∷ Did (Draft (5 ∷ [])) true ∷ Began SyncDraft ∷ Did SyncDraft true ∷ Began (Publish name) ∷ Did (Publish name) false ∷ [])

two_candidates : view_of name (doubtful ++ (Began (Sync name) ∷ Did (Sync name) true ∷ [])) ≡ record { draft = None; slot = Some (in_doubt (1 ∷ 9 ∷ 3 ∷ [])) ∷ Some (settled (5 ∷ [])) ∷ []; failed = true }
unfolding view_of settled unsynced loosened written splice
two_candidates = refl

-- a draft whose sync failed is none: a later sync of it has nothing to make stand
failed_drafts : (view_of name (Woke [] ∷ Began (Draft (5 ∷ [])) ∷ Did (Draft (5 ∷ [])) true ∷ Began SyncDraft ∷ Did SyncDraft false ∷ []) ≡ record { draft = None; slot = None ∷ []; failed = false })
    × (view_of name (Woke [] ∷ Began (Draft (5 ∷ [])) ∷ Did (Draft (5 ∷ [])) true ∷ Began SyncDraft ∷ Did SyncDraft false ∷ Began SyncDraft ∷ Did SyncDraft true ∷ []) ≡ record { draft = None; slot = None ∷ []; failed = false })
unfolding view_of settled unsynced
failed_drafts = (refl, refl)

-- a removal that failed leaves the file or none, and after the next start the one that the crash left
removals : (view_of name (published ++ (Began (Remove name) ∷ Did (Remove name) false ∷ [])) ≡ record { draft = None; slot = Some (record { bytes = 1 ∷ 2 ∷ 3 ∷ []; synced = 3; end = 3; loose = [] }) ∷ None ∷ []; failed = true })
    × (view_of name (published ++ (Began (Remove name) ∷ Did (Remove name) true ∷ [])) ≡ record { draft = None; slot = None ∷ []; failed = false })
    × (view_of name (published ++ (Began (Remove name) ∷ Woke ((name, 8 ∷ []) ∷ []) ∷ [])) ≡ record { draft = None; slot = Some (record { bytes = 8 ∷ []; synced = 1; end = 1; loose = [] }) ∷ []; failed = false })
unfolding view_of settled unsynced
removals = (refl, refl, refl)

-- names are those of the image until something is changed
images : (image_of (Woke ((name, 8 ∷ []) ∷ []) ∷ []) ≡ Some ((name, 8 ∷ []) ∷ [])) × (image_of published ≡ None)
unfolding image_of
images = (refl, refl)
