-- What stands under each name after one of them is changed.
use Rattle.std.proofs.Common.{◌≡◌, ◌∙◌, ap, sym, refl, Bool, true, false, cond, Option, Some, None}
use Rattle.std.specs.Prelude.{bytes_eq}
use Rattle.std.specs.BTreeMap.{get, is_at}
use Rattle.std.proofs.lemmas.Map.Text.{is_eq-slice_cmp}
use Rattle.std.specs.Cmp.Lexicographic.{bytes_decides}
use Rattle.pp_world.specs.Disk.{Bytes}
use Rattle.pp_world.specs.Files.{name_order}
use Rattle.pp_memworld.specs.Slots.{Candidates, Slots, Changes, files_in, files_at}

files_in-cond : (b : Bool) (slot : Candidates) (other : Option Candidates) → files_in (cond b (Some slot) other) ≡ cond b slot (files_in other)
files_in-cond true slot other = refl
files_in-cond false slot other = refl

pub put_at : (name other : Bytes) (slot : Candidates) (old new : Slots) → get name_order new other ≡ cond (is_at (name_order name) other) (Some slot) (get name_order old other)
    → files_at other new ≡ cond (bytes_eq name other) slot (files_at other old)
put_at name other slot old new is = ap files_in is ∙ files_in-cond (is_at (name_order name) other) slot (get name_order old other) ∙ ap (λ (b : Bool). cond b slot (files_at other old)) (is_eq-slice_cmp name other)

pub left_at : (name other : Bytes) (old new : Slots) → get name_order new other ≡ cond (is_at (name_order name) other) None (get name_order old other) → bytes_eq name other ≡ false
    → files_at other new ≡ files_at other old
left_at name other old new is differs = ap files_in (is ∙ ap (λ (b : Bool). cond b None (get name_order old other)) (is_eq-slice_cmp name other ∙ differs))

-- what stood there was taken out, and was put back changed
pub changes_by : (name : Bytes) (change : Candidates → Candidates) (slot : Candidates) (old between new : Slots) → slot ≡ files_at name old
    → ((other : Bytes) → bytes_eq name other ≡ false → files_at other between ≡ files_at other old)
    → Changes name (λ files. change slot) between new → Changes name change old new
changes_by name change slot old between new taken others put = λ other. by other (bytes_eq name other) refl
  where
    by : (other : Bytes) (b : Bool) → bytes_eq name other ≡ b → files_at other new ≡ cond (bytes_eq name other) (change (files_at other old)) (files_at other old)
    by other true is =
        let same : name ≡ other = (bytes_decides name other).0 is in
        put other ∙ ap (λ (b : Bool). cond b (change slot) (files_at other between)) is ∙ ap change (taken ∙ ap (λ (n : Bytes). files_at n old) same)
        ∙ sym (ap (λ (b : Bool). cond b (change (files_at other old)) (files_at other old)) is)
    by other false is =
        put other ∙ ap (λ (b : Bool). cond b (change slot) (files_at other between)) is ∙ others other is
        ∙ sym (ap (λ (b : Bool). cond b (change (files_at other old)) (files_at other old)) is)
