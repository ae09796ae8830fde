-- A piece is empty exactly where its offset is not in memory.
use Rattle.std.proofs.Common.{ℕ, ◌≤◌, ◌≡◌, ◌/◌, ◌%◌, false, List, [], length, drop, arith, sym, ◌∙◌, ap, Option}
use Rattle.std.specs.Prelude.{nat_lt, ◌↔◌}
use Rattle.std.proofs.lemmas.Grind.{common_steps}
use Rattle.std.proofs.lemmas.List.{drop_all, length-drop}
use Rattle.pp_pool.specs.Chunks.{Used}
use Rattle.pp_holes.specs.declared.cell.Cell.{Cell}
use Rattle.pp_holes.specs.Places.{shown, bytes_at}
use Rattle.pp_holes.specs.Cells.{OwnsItsChunks, is_in_memory, cell_of, filled_of}
use Rattle.pp_holes.proofs.Runs.{held_length}

at_least : (n m : ℕ) → nat_lt n m ≡ false → m ≤ n
at_least n m e = grind (arith, common_steps)

not_below : (n m : ℕ) → m ≤ n → nat_lt n m ≡ false
not_below n m le = grind (arith, common_steps)

pub empty_piece : (cs : List (Option Cell)) (o at : ℕ) (us : List Used) (bs : List ℕ) → OwnsItsChunks cs o us → bs ≡ drop (at % 4096) (bytes_at (o, at / 4096) (shown us))
    → (bs ≡ []) ↔ (is_in_memory cs at ≡ false)
empty_piece cs o at us bs own e =
    let held = held_length cs o (at / 4096) us own in (
      λ none. not_below (at % 4096) (filled_of (cell_of cs (at / 4096)))
          (omega (arith, held, length-drop (at % 4096) (bytes_at (o, at / 4096) (shown us)), ap length (sym e ∙ none))),
      λ missing. e ∙ drop_all (at % 4096) (bytes_at (o, at / 4096) (shown us)) (omega (arith, held, at_least (at % 4096) (filled_of (cell_of cs (at / 4096))) missing)),
    )
