-- Bytes that join an instance, by whether it is there, and whether they reach past its end.
use Rattle.std.proofs.Common.{◌≡◌, ◌+◌, ◌<◌, ◌≤◌, refl, ap, ℕ, Bool, true, false, ◌&&◌, List, length, arith}
use Rattle.std.specs.Prelude.{nat_le}
use Rattle.std.proofs.lemmas.Bool.Decides.{nat_tests}
use Rattle.pp_cache.specs.Memory.{Memory}
use Rattle.pp_cache.specs.OnDisk.{grown_by}
use Rattle.pp_holes.specs.Adding.{added}
use Rattle.pp_objects.specs.Changes.{faces}
use Rattle.pp_objects.specs.Instances.{is_there, total_at}
use Rattle.pp_objects.specs.declared.id.ObjectId.{ObjectId}
use Rattle.pp_state.specs.Bodies.{HasJoined, with_bytes}

pub joins : (id : ObjectId) (at : ℕ) (bytes : List ℕ) (old new : Memory)
    → (is_there id old.instances ≡ true → at + length bytes ≤ total_at id.slot old.instances → new ≡ record old { instances = new.instances; chunks = (added old.size id.slot at bytes old.chunks).chunks; grown = grown_by id old.grown })
    → faces new.instances ≡ faces old.instances
    → (is_there id old.instances ≡ true → total_at id.slot old.instances < at + length bytes → new ≡ old)
    → (is_there id old.instances ≡ false → new ≡ old)
    → HasJoined (with_bytes id at bytes old) new
joins id at bytes old new adds same long gone = by (is_there id old.instances) (nat_le (at + length bytes) (total_at id.slot old.instances)) refl refl
  where
    chosen : Bool → Memory
    chosen b = elim b [ true ↦ record old { chunks = (added old.size id.slot at bytes old.chunks).chunks; grown = grown_by id old.grown } | false ↦ old ]

    as_before : new ≡ old → HasJoined old new
    as_before is = record { rest = ap (λ (m : Memory). record m { instances = old.instances }) is; faces = same }

    by : (b c : Bool) → is_there id old.instances ≡ b → nat_le (at + length bytes) (total_at id.slot old.instances) ≡ c → HasJoined (chosen (is_there id old.instances && nat_le (at + length bytes) (total_at id.slot old.instances))) new
    by true true there fits = rw (there, fits) (record { rest = ap (λ (m : Memory). record m { instances = old.instances }) (adds there (grind (arith, nat_tests, fits))); faces = same })
    by true false there fits = rw (there, fits) (as_before (long there (grind (arith, nat_tests, fits))))
    by false c there fits = rw there (as_before (gone there))
