-- How much of the chunk of an offset is in memory.
use Rattle.std.proofs.Common.{◌≡◌, ◌*◌, ◌/◌, ◌%◌, ℕ, Bool, true, false, cond, List, [], drop, length, refl, ap, ◌∙◌, arith}
use Rattle.pp_cache.specs.Memory.{Memory}
use Rattle.pp_holes.specs.Places.{bytes_at}
use Rattle.pp_objects.specs.Instances.{is_there}
use Rattle.pp_objects.specs.declared.id.ObjectId.{ObjectId}
use Rattle.pp_state.specs.Bringing.{filled}

front_index : (at : ℕ) → at / 4096 * 4096 / 4096 ≡ at / 4096
front_index at = omega arith

front_offset : (at : ℕ) → at / 4096 * 4096 % 4096 ≡ 0
front_offset at = omega arith

length_by : (there : Bool) (bytes all : List ℕ) → (there ≡ true → bytes ≡ all) → (there ≡ false → bytes ≡ []) → length bytes ≡ cond there (length all) 0
length_by true bytes all is gone = ap length (is refl)
length_by false bytes all is gone = ap length (gone refl)

pub piece_filled : (id : ObjectId) (at : ℕ) (m : Memory) (bytes : List ℕ)
    → (is_there id m.instances ≡ true → bytes ≡ drop (at / 4096 * 4096 % 4096) (bytes_at (id.slot, at / 4096 * 4096 / 4096) m.chunks)) → (is_there id m.instances ≡ false → bytes ≡ []) → length bytes ≡ filled id (at / 4096) m
piece_filled id at m bytes is gone =
    length_by (is_there id m.instances) bytes (bytes_at (id.slot, at / 4096) m.chunks)
    (λ there. is there ∙ ap (λ n. drop n (bytes_at (id.slot, at / 4096 * 4096 / 4096) m.chunks)) (front_offset at) ∙ ap (λ i. bytes_at (id.slot, i) m.chunks) (front_index at)) gone
