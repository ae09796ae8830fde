use Rattle.std.proofs.Common.{arith, ◌≡◌, ◌/◌, ◌%◌, [], drop, None, Some, sym, ◌∙◌, ap}
use Rattle.std.proofs.lemmas.List.{drop_all, take_rest}
use Rattle.pp_holes.specs.Cells.{Table, cell_of}
use Rattle.pp_holes.proofs.Changes.{is_there, reads, reads_none}
use Rattle.pp_holes.proofs.Pieces.{empty_piece}
use Rattle.pp_holes.proofs.cells.Cells.piece.Goals as goal

pub bytes-bytes-requires : goal.bytes-bytes-requires
bytes-bytes-requires c =
    let at : cell_of c.args.self.now.cells (c.args.at / 4096) ≡ Some c.in-Some.cell.now = ap (λ (v : Table). cell_of v.cells (c.args.at / 4096)) (sym c.self.view_is) ∙ ap (λ l. cell_of l (c.args.at / 4096)) (sym c.deref.ensures.value) ∙ sym c.in-Some.ensures in
    is_there c.args.self.now.cells c.args.self.now.owner (c.args.at / 4096) c.in-Some.cell.now c.args.pool.now.used c.requires.owns at

pub returns-in-None-clause-piece : goal.returns-in-None-clause-piece
returns-in-None-clause-piece c =
    let at : cell_of c.args.self.now.cells (c.args.at / 4096) ≡ None = ap (λ (v : Table). cell_of v.cells (c.args.at / 4096)) (sym c.self.view_is) ∙ ap (λ l. cell_of l (c.args.at / 4096)) (sym c.deref.ensures.value) ∙ sym c.in-None.ensures in
    sym (ap (drop (c.args.at % 4096)) (reads_none c.args.self.now.cells c.args.self.now.owner (c.args.at / 4096) c.args.pool.now.used c.requires.owns at) ∙ drop_all (c.args.at % 4096) [] (omega arith))

pub returns-in-None-clause-empty : goal.returns-in-None-clause-empty
returns-in-None-clause-empty c =
    let at : cell_of c.args.self.now.cells (c.args.at / 4096) ≡ None = ap (λ (v : Table). cell_of v.cells (c.args.at / 4096)) (sym c.self.view_is) ∙ ap (λ l. cell_of l (c.args.at / 4096)) (sym c.deref.ensures.value) ∙ sym c.in-None.ensures in
    empty_piece c.args.self.now.cells c.args.self.now.owner c.args.at c.args.pool.now.used _ c.requires.owns (sym (ap (drop (c.args.at % 4096)) (reads_none c.args.self.now.cells c.args.self.now.owner (c.args.at / 4096) c.args.pool.now.used c.requires.owns at) ∙ drop_all (c.args.at % 4096) [] (omega arith)))

pub returns-then-front-bytes-clause-piece : goal.returns-then-front-bytes-clause-piece
returns-then-front-bytes-clause-piece c =
    let at : cell_of c.args.self.now.cells (c.args.at / 4096) ≡ Some c.in-Some.cell.now = ap (λ (v : Table). cell_of v.cells (c.args.at / 4096)) (sym c.self.view_is) ∙ ap (λ l. cell_of l (c.args.at / 4096)) (sym c.deref.ensures.value) ∙ sym c.in-Some.ensures in
    take_rest c.bytes-bytes.result.now (c.args.at % 4096) ∙ ap (drop (c.args.at % 4096)) (c.bytes-bytes.ensures ∙ reads c.args.self.now.cells c.args.self.now.owner (c.args.at / 4096) c.in-Some.cell.now c.args.pool.now.used c.requires.distinct c.requires.owns at)

pub returns-then-front-bytes-clause-empty : goal.returns-then-front-bytes-clause-empty
returns-then-front-bytes-clause-empty c =
    let at : cell_of c.args.self.now.cells (c.args.at / 4096) ≡ Some c.in-Some.cell.now = ap (λ (v : Table). cell_of v.cells (c.args.at / 4096)) (sym c.self.view_is) ∙ ap (λ l. cell_of l (c.args.at / 4096)) (sym c.deref.ensures.value) ∙ sym c.in-Some.ensures in
    empty_piece c.args.self.now.cells c.args.self.now.owner c.args.at c.args.pool.now.used _ c.requires.owns (take_rest c.bytes-bytes.result.now (c.args.at % 4096) ∙ ap (drop (c.args.at % 4096)) (c.bytes-bytes.ensures ∙ reads c.args.self.now.cells c.args.self.now.owner (c.args.at / 4096) c.in-Some.cell.now c.args.pool.now.used c.requires.distinct c.requires.owns at))

pub returns-else-front-bytes-clause-piece : goal.returns-else-front-bytes-clause-piece
returns-else-front-bytes-clause-piece c =
    let at : cell_of c.args.self.now.cells (c.args.at / 4096) ≡ Some c.in-Some.cell.now = ap (λ (v : Table). cell_of v.cells (c.args.at / 4096)) (sym c.self.view_is) ∙ ap (λ l. cell_of l (c.args.at / 4096)) (sym c.deref.ensures.value) ∙ sym c.in-Some.ensures in
    sym (drop_all (c.args.at % 4096) c.bytes-bytes.result.now c.if-front-bytes.false) ∙ ap (drop (c.args.at % 4096)) (c.bytes-bytes.ensures ∙ reads c.args.self.now.cells c.args.self.now.owner (c.args.at / 4096) c.in-Some.cell.now c.args.pool.now.used c.requires.distinct c.requires.owns at)

pub returns-else-front-bytes-clause-empty : goal.returns-else-front-bytes-clause-empty
returns-else-front-bytes-clause-empty c =
    let at : cell_of c.args.self.now.cells (c.args.at / 4096) ≡ Some c.in-Some.cell.now = ap (λ (v : Table). cell_of v.cells (c.args.at / 4096)) (sym c.self.view_is) ∙ ap (λ l. cell_of l (c.args.at / 4096)) (sym c.deref.ensures.value) ∙ sym c.in-Some.ensures in
    empty_piece c.args.self.now.cells c.args.self.now.owner c.args.at c.args.pool.now.used _ c.requires.owns (sym (drop_all (c.args.at % 4096) c.bytes-bytes.result.now c.if-front-bytes.false) ∙ ap (drop (c.args.at % 4096)) (c.bytes-bytes.ensures ∙ reads c.args.self.now.cells c.args.self.now.owner (c.args.at / 4096) c.in-Some.cell.now c.args.pool.now.used c.requires.distinct c.requires.owns at))
