-- The names on which an operation failed, and the file that a sync settles unless its name is one of them.
use Rattle.std.proofs.Common.{◌≡◌, ◌∙◌, ap, sym, refl, Bool, true, false, cond}
use Rattle.std.specs.Prelude.{◌||◌, bytes_eq}
use Rattle.std.specs.BTreeMap.{is_at}
use Rattle.std.specs.BTreeSet.{BTreeSet, contains}
use Rattle.std.specs.Cmp.Lexicographic.{bytes_decides}
use Rattle.std.proofs.lemmas.Map.Text.{is_eq-slice_cmp}
use Rattle.pp_world.specs.declared.happening.Happening.TheVariants.{Did}
use Rattle.pp_world.specs.declared.op.DiskOp.TheVariants.{Sync}
use Rattle.pp_world.specs.Disk.{Bytes, View, synced_unless}
use Rattle.pp_world.specs.Files.{name_order}
use Rattle.pp_memworld.specs.declared.folder.Folder.{Folder}
use Rattle.pp_memworld.specs.Failures.{has_failed}
use Rattle.pp_memworld.specs.Folder.{Hears, IsShown}
use Rattle.pp_memworld.specs.Slots.{Candidates, Changes, files_at}

cond-or : (b had : Bool) → cond b true had ≡ (had || b)
cond-or true true = refl
cond-or true false = refl
cond-or false true = refl
cond-or false false = refl

pub added_at : (name other : Bytes) (old new : BTreeSet Bytes) → contains name_order new other ≡ cond (is_at (name_order name) other) true (contains name_order old other)
    → has_failed other new ≡ (has_failed other old || bytes_eq name other)
added_at name other old new is = is ∙ ap (λ (b : Bool). cond b true (has_failed other old)) (is_eq-slice_cmp name other) ∙ cond-or (bytes_eq name other) (has_failed other old)

-- a sync that was done
pub hears_sync : (on : Bytes) (old new : Folder) → Changes on (synced_unless (has_failed on old.failed)) old.slots new.slots → new.draft ≡ old.draft → new.failed ≡ old.failed → Hears (Did (Sync on) true) old new
hears_sync on old new changes drafted failed = record {
  hears = λ name view shown. record {
    draft = shown.draft ∙ sym drafted;
    slot = by name view shown (bytes_eq on name) refl ∙ sym (changes name);
    failed = shown.failed ∙ ap (has_failed name) (sym failed);
  };
}
  where
    by : (name : Bytes) (view : View) → IsShown name view old → (b : Bool) → bytes_eq on name ≡ b
        → cond b (synced_unless view.failed view.slot) view.slot ≡ cond b (synced_unless (has_failed on old.failed) (files_at name old.slots)) (files_at name old.slots)
    by name view shown true is =
        let same : on ≡ name = (bytes_decides on name).0 is in
        ap (λ (files : Candidates). synced_unless view.failed files) shown.slot
        ∙ ap (λ (b : Bool). synced_unless b (files_at name old.slots)) (shown.failed ∙ ap (λ (n : Bytes). has_failed n old.failed) (sym same))
    by name view shown false is = shown.slot
