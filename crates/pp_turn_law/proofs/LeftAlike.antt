-- What one operation does to two views of a name under which the same stands.
use Rattle.std.proofs.Common.{◌≡◌, refl, sym, ap, ◌∙◌, Bool, true, false, ◌||◌, List, [], ◌∷◌, ◌++◌, Option}
use Rattle.pp_law.specs.Lists.{Bytes}
use Rattle.pp_law.specs.Store.{is_of_draft}
use Rattle.pp_laws_crash.proofs.Views.{undone_slot}
use Rattle.pp_turn_law.specs.Left.{StandsAs}
use Rattle.pp_world.specs.Disk.{Stored, View, began, done, draft_behind, is_on, on_file, synced, undone, where_on}
use Rattle.pp_world.specs.declared.op.DiskOp.{DiskOp}
use Rattle.pp_world.specs.declared.op.DiskOp.TheVariants.{Draft, SyncDraft, Publish, Write, Sync, Remove}

pub same_view : {v w : View} → v ≡ w → StandsAs v w
same_view is = record { slot = ap (λ (u : View). u.slot) is; draft = ap (λ (u : View). u.draft) is }

pub began_as : (name : Bytes) (op : DiskOp) (v w : View) → StandsAs v w → StandsAs (began name op v) (began name op w)
began_as name (Draft bytes) v w h = record { slot = h.slot; draft = refl }
began_as name SyncDraft v w h = h
began_as name (Publish n) v w h = record {
  slot = ap (λ (fs : List (Option Stored)). where_on (is_on name (Publish n)) (fs ++ v.draft ∷ []) fs) h.slot
      ∙ ap (λ (f : Option Stored). where_on (is_on name (Publish n)) (w.slot ++ f ∷ []) w.slot) h.draft;
  draft = h.draft;
}
began_as name (Write n at bytes) v w h = record {
  slot = ap (λ (fs : List (Option Stored)). (began name (Write n at bytes) (record { draft = v.draft; slot = fs; failed = v.failed })).slot) h.slot;
  draft = h.draft;
}
began_as name (Sync n) v w h = h
began_as name (Remove n) v w h = record {
  slot = ap (λ (fs : List (Option Stored)). (began name (Remove n) (record { draft = v.draft; slot = fs; failed = v.failed })).slot) h.slot;
  draft = h.draft;
}

pub done_draft : (name : Bytes) (op : DiskOp) (v w : View) → v.draft ≡ w.draft → (done name op v).draft ≡ (done name op w).draft
done_draft name (Draft bytes) v w is = refl
done_draft name SyncDraft v w is = ap (on_file synced) is
done_draft name (Publish n) v w is = refl
done_draft name (Write n at bytes) v w is = is
done_draft name (Sync n) v w is = is
done_draft name (Remove n) v w is = is

pub undone_as : (name : Bytes) (op : DiskOp) (v w : View) → StandsAs v w → StandsAs (undone name op v) (undone name op w)
undone_as name op v w h = record { slot = undone_slot name op v ∙ h.slot ∙ sym (undone_slot name op w); draft = ap (draft_behind op) h.draft }

pub or_none : (b : Bool) → (b || false) ≡ b
or_none true = refl
or_none false = refl

-- no name fails by an operation on the draft
pub draft_undone : (name : Bytes) (op : DiskOp) (v : View) → is_of_draft op ≡ true → (undone name op v).failed ≡ v.failed
draft_undone name (Draft bytes) v is = or_none v.failed
draft_undone name SyncDraft v is = or_none v.failed
draft_undone name (Publish n) v is = absurd (cc is)
draft_undone name (Write n at bytes) v is = absurd (cc is)
draft_undone name (Sync n) v is = absurd (cc is)
draft_undone name (Remove n) v is = absurd (cc is)
