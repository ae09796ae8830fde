use Rattle.std.proofs.Common.{◌≡◌, ℕ, List, [], Option, ◌/◌, ◌%◌, drop, false, sym, subst}
use Rattle.std.specs.Prelude.{◌↔◌}
use Rattle.pp_holes.specs.declared.cell.Cell.{Cell}
use Rattle.pp_holes.specs.Cells.{is_in_memory}
use Rattle.pp_holes.specs.Places.{bytes_at, shown}
use Rattle.pp_objects.proofs.Slots.{none_there, cells_seen}
use Rattle.pp_objects.proofs.Agreeing.{row_agrees}
use Rattle.pp_objects.proofs.objects.Objects.piece.Goals as goal

pub piece-requires : goal.piece-requires
piece-requires c = row_agrees c.self.inside c.args.self.now c.args.id.slot c.in-Some.row.now c.args.pool.now.used c.self.invariant.sound c.self.view_is c.in-Some.ensures c.requires.agrees

pub returns-in-Some-clause-piece : goal.returns-in-Some-clause-piece
returns-in-Some-clause-piece c =
    let P : ℕ → Type 0 = λ n. c.piece.result.now ≡ drop (c.args.at % 4096) (bytes_at (n, c.args.at / 4096) (shown c.args.pool.now.used)) in
    subst P (c.self.invariant.sound.owned c.args.id.slot c.in-Some.row.now (sym c.in-Some.ensures)).owner c.piece.ensures.piece

pub returns-in-Some-clause-empty : goal.returns-in-Some-clause-empty
returns-in-Some-clause-empty c =
    let P : List (Option Cell) → Type 0 = λ cs. (c.piece.result.now ≡ []) ↔ (is_in_memory cs c.args.at ≡ false) in
    subst P (sym (cells_seen c.self.inside c.args.self.now c.args.id.slot c.in-Some.row.now c.self.invariant.sound c.self.view_is c.in-Some.ensures)) c.piece.ensures.empty

pub returns-in-None-clause-piece : goal.returns-in-None-clause-piece
returns-in-None-clause-piece c = absurd (none_there c.self.inside c.args.self.now c.args.id c.self.invariant.sound c.self.view_is c.requires.there c.in-None.ensures)

pub returns-in-None-clause-empty : goal.returns-in-None-clause-empty
returns-in-None-clause-empty c = absurd (none_there c.self.inside c.args.self.now c.args.id c.self.invariant.sound c.self.view_is c.requires.there c.in-None.ensures)
