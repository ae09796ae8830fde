use Rattle.std.proofs.Common.{arith, ◌≡◌, ◌+◌, ◌-◌, ◌/◌, ◌%◌, [], length, drop, sym, ◌∙◌, ap}
use Rattle.std.proofs.lemmas.List.{take_rest, length-drop}
use Rattle.pp_holes.specs.Places.{shown, bytes_at, joined}
use Rattle.pp_holes.specs.Adding.{part_of_run}
use Rattle.pp_holes.specs.Cells.{cell_of, filled_of}
use Rattle.pp_holes.proofs.Counting.{held_raised}
use Rattle.pp_holes.proofs.Runs.{held_length, part_far, part_near, part_known, joined_none, joined_some, goes_none, goes_held, stops, nothing_known, no_bytes}
use Rattle.pp_holes.proofs.join.join.Goals as goal

pub returns-then-filled-front-clause-joined : goal.returns-then-filled-front-clause-joined
returns-then-filled-front-clause-joined c =
    let held : length (bytes_at (c.args.owner, c.args.at / 4096) (shown c.args.pool.now.used)) ≡ c.filled_in-filled.result = held_length c.args.cells.now.items c.args.owner (c.args.at / 4096) c.args.pool.now.used c.requires.agrees.owns ∙ sym (c.filled_in-filled.ensures ∙ ap (λ l. filled_of (cell_of l (c.args.at / 4096))) c.deref.ensures.value) in
    let part : part_of_run c.args.owner (c.args.at, c.args.run.now) (shown c.args.pool.now.used) ≡ [] = part_far c.args.owner c.args.at c.filled_in-filled.result c.args.run.now (shown c.args.pool.now.used) held c.if-filled-front.true in
    joined_none c.args.owner c.args.at c.args.run.now (shown c.args.pool.now.used) part

pub returns-then-filled-front-clause-count : goal.returns-then-filled-front-clause-count
returns-then-filled-front-clause-count c =
    let held : length (bytes_at (c.args.owner, c.args.at / 4096) (shown c.args.pool.now.used)) ≡ c.filled_in-filled.result = held_length c.args.cells.now.items c.args.owner (c.args.at / 4096) c.args.pool.now.used c.requires.agrees.owns ∙ sym (c.filled_in-filled.ensures ∙ ap (λ l. filled_of (cell_of l (c.args.at / 4096))) c.deref.ensures.value) in
    let part : part_of_run c.args.owner (c.args.at, c.args.run.now) (shown c.args.pool.now.used) ≡ [] = part_far c.args.owner c.args.at c.filled_in-filled.result c.args.run.now (shown c.args.pool.now.used) held c.if-filled-front.true in
    sym (ap length part)

pub returns-then-filled-front-clause-goes : goal.returns-then-filled-front-clause-goes
returns-then-filled-front-clause-goes c =
    let held : length (bytes_at (c.args.owner, c.args.at / 4096) (shown c.args.pool.now.used)) ≡ c.filled_in-filled.result = held_length c.args.cells.now.items c.args.owner (c.args.at / 4096) c.args.pool.now.used c.requires.agrees.owns ∙ sym (c.filled_in-filled.ensures ∙ ap (λ l. filled_of (cell_of l (c.args.at / 4096))) c.deref.ensures.value) in
    let part : part_of_run c.args.owner (c.args.at, c.args.run.now) (shown c.args.pool.now.used) ≡ [] = part_far c.args.owner c.args.at c.filled_in-filled.result c.args.run.now (shown c.args.pool.now.used) held c.if-filled-front.true in
    goes_none c.args.pool.now.size c.args.owner c.args.at c.args.run.now (shown c.args.pool.now.used) part

pub returns-then-run-known-clause-joined : goal.returns-then-run-known-clause-joined
returns-then-run-known-clause-joined c =
    let held : length (bytes_at (c.args.owner, c.args.at / 4096) (shown c.args.pool.now.used)) ≡ c.filled_in-filled.result = held_length c.args.cells.now.items c.args.owner (c.args.at / 4096) c.args.pool.now.used c.requires.agrees.owns ∙ sym (c.filled_in-filled.ensures ∙ ap (λ l. filled_of (cell_of l (c.args.at / 4096))) c.deref.ensures.value) in
    let part : part_of_run c.args.owner (c.args.at, c.args.run.now) (shown c.args.pool.now.used) ≡ [] = part_known c.args.owner c.args.at c.filled_in-filled.result c.args.run.now (shown c.args.pool.now.used) held c.if-filled-front.false c.if-run-known.true in
    joined_none c.args.owner c.args.at c.args.run.now (shown c.args.pool.now.used) part

pub returns-then-run-known-clause-count : goal.returns-then-run-known-clause-count
returns-then-run-known-clause-count c =
    let held : length (bytes_at (c.args.owner, c.args.at / 4096) (shown c.args.pool.now.used)) ≡ c.filled_in-filled.result = held_length c.args.cells.now.items c.args.owner (c.args.at / 4096) c.args.pool.now.used c.requires.agrees.owns ∙ sym (c.filled_in-filled.ensures ∙ ap (λ l. filled_of (cell_of l (c.args.at / 4096))) c.deref.ensures.value) in
    let part : part_of_run c.args.owner (c.args.at, c.args.run.now) (shown c.args.pool.now.used) ≡ [] = part_known c.args.owner c.args.at c.filled_in-filled.result c.args.run.now (shown c.args.pool.now.used) held c.if-filled-front.false c.if-run-known.true in
    sym (ap length part)

pub returns-then-run-known-clause-goes : goal.returns-then-run-known-clause-goes
returns-then-run-known-clause-goes c =
    let held : length (bytes_at (c.args.owner, c.args.at / 4096) (shown c.args.pool.now.used)) ≡ c.filled_in-filled.result = held_length c.args.cells.now.items c.args.owner (c.args.at / 4096) c.args.pool.now.used c.requires.agrees.owns ∙ sym (c.filled_in-filled.ensures ∙ ap (λ l. filled_of (cell_of l (c.args.at / 4096))) c.deref.ensures.value) in
    let part : part_of_run c.args.owner (c.args.at, c.args.run.now) (shown c.args.pool.now.used) ≡ [] = part_known c.args.owner c.args.at c.filled_in-filled.result c.args.run.now (shown c.args.pool.now.used) held c.if-filled-front.false c.if-run-known.true in
    goes_none c.args.pool.now.size c.args.owner c.args.at c.args.run.now (shown c.args.pool.now.used) part

pub returns-then-begin-clause-joined : goal.returns-then-begin-clause-joined
returns-then-begin-clause-joined c =
    let held : length (bytes_at (c.args.owner, c.args.at / 4096) (shown c.args.pool.now.used)) ≡ c.filled_in-filled.result = held_length c.args.cells.now.items c.args.owner (c.args.at / 4096) c.args.pool.now.used c.requires.agrees.owns ∙ sym (c.filled_in-filled.ensures ∙ ap (λ l. filled_of (cell_of l (c.args.at / 4096))) c.deref.ensures.value) in
    let part : part_of_run c.args.owner (c.args.at, c.args.run.now) (shown c.args.pool.now.used) ≡ drop (c.filled_in-filled.result - c.args.at % 4096) c.args.run.now = part_near c.args.owner c.args.at c.filled_in-filled.result c.args.run.now (shown c.args.pool.now.used) held c.if-filled-front.false in
    let whole : part_of_run c.args.owner (c.args.at, c.args.run.now) (shown c.args.pool.now.used) ≡ c.args.run.now = part ∙ ap (λ n. drop n c.args.run.now) (nothing_known c.filled_in-filled.result (c.args.at % 4096) c.if-filled-eq0.true) in
    c.begin.ensures.joined c.if-begin.true ∙ joined_some c.args.owner c.args.at c.args.run.now c.args.run.now (shown c.args.pool.now.used) whole c.requires.some

pub returns-then-begin-clause-count : goal.returns-then-begin-clause-count
returns-then-begin-clause-count c =
    let held : length (bytes_at (c.args.owner, c.args.at / 4096) (shown c.args.pool.now.used)) ≡ c.filled_in-filled.result = held_length c.args.cells.now.items c.args.owner (c.args.at / 4096) c.args.pool.now.used c.requires.agrees.owns ∙ sym (c.filled_in-filled.ensures ∙ ap (λ l. filled_of (cell_of l (c.args.at / 4096))) c.deref.ensures.value) in
    let part : part_of_run c.args.owner (c.args.at, c.args.run.now) (shown c.args.pool.now.used) ≡ drop (c.filled_in-filled.result - c.args.at % 4096) c.args.run.now = part_near c.args.owner c.args.at c.filled_in-filled.result c.args.run.now (shown c.args.pool.now.used) held c.if-filled-front.false in
    let whole : part_of_run c.args.owner (c.args.at, c.args.run.now) (shown c.args.pool.now.used) ≡ c.args.run.now = part ∙ ap (λ n. drop n c.args.run.now) (nothing_known c.filled_in-filled.result (c.args.at % 4096) c.if-filled-eq0.true) in
    sym (ap length whole)

pub returns-else-begin-clause-stops : goal.returns-else-begin-clause-stops
returns-else-begin-clause-stops c =
    let held : length (bytes_at (c.args.owner, c.args.at / 4096) (shown c.args.pool.now.used)) ≡ c.filled_in-filled.result = held_length c.args.cells.now.items c.args.owner (c.args.at / 4096) c.args.pool.now.used c.requires.agrees.owns ∙ sym (c.filled_in-filled.ensures ∙ ap (λ l. filled_of (cell_of l (c.args.at / 4096))) c.deref.ensures.value) in
    let part : part_of_run c.args.owner (c.args.at, c.args.run.now) (shown c.args.pool.now.used) ≡ drop (c.filled_in-filled.result - c.args.at % 4096) c.args.run.now = part_near c.args.owner c.args.at c.filled_in-filled.result c.args.run.now (shown c.args.pool.now.used) held c.if-filled-front.false in
    let whole : part_of_run c.args.owner (c.args.at, c.args.run.now) (shown c.args.pool.now.used) ≡ c.args.run.now = part ∙ ap (λ n. drop n c.args.run.now) (nothing_known c.filled_in-filled.result (c.args.at % 4096) c.if-filled-eq0.true) in
    stops c.args.pool.now.size c.args.owner c.args.at c.args.run.now c.args.pool.now.used (omega (arith, ap length whole, c.requires.some)) (no_bytes _ (held ∙ c.if-filled-eq0.true)) (c.begin.ensures.full c.if-begin.false)

pub returns-else-filled-eq0-clause-joined : goal.returns-else-filled-eq0-clause-joined
returns-else-filled-eq0-clause-joined c =
    let held : length (bytes_at (c.args.owner, c.args.at / 4096) (shown c.args.pool.now.used)) ≡ c.filled_in-filled.result = held_length c.args.cells.now.items c.args.owner (c.args.at / 4096) c.args.pool.now.used c.requires.agrees.owns ∙ sym (c.filled_in-filled.ensures ∙ ap (λ l. filled_of (cell_of l (c.args.at / 4096))) c.deref.ensures.value) in
    let part : part_of_run c.args.owner (c.args.at, c.args.run.now) (shown c.args.pool.now.used) ≡ drop (c.filled_in-filled.result - c.args.at % 4096) c.args.run.now = part_near c.args.owner c.args.at c.filled_in-filled.result c.args.run.now (shown c.args.pool.now.used) held c.if-filled-front.false in
    c.extend.ensures.joined ∙ ap (λ r. joined (c.args.owner, c.args.at / 4096) r (shown c.args.pool.now.used)) (take_rest c.args.run.now (c.filled_in-filled.result - c.args.at % 4096)) ∙ joined_some c.args.owner c.args.at c.args.run.now _ (shown c.args.pool.now.used) part (omega (arith, length-drop (c.filled_in-filled.result - c.args.at % 4096) c.args.run.now, c.if-run-known.false))

pub returns-else-filled-eq0-clause-count : goal.returns-else-filled-eq0-clause-count
returns-else-filled-eq0-clause-count c =
    let held : length (bytes_at (c.args.owner, c.args.at / 4096) (shown c.args.pool.now.used)) ≡ c.filled_in-filled.result = held_length c.args.cells.now.items c.args.owner (c.args.at / 4096) c.args.pool.now.used c.requires.agrees.owns ∙ sym (c.filled_in-filled.ensures ∙ ap (λ l. filled_of (cell_of l (c.args.at / 4096))) c.deref.ensures.value) in
    let part : part_of_run c.args.owner (c.args.at, c.args.run.now) (shown c.args.pool.now.used) ≡ drop (c.filled_in-filled.result - c.args.at % 4096) c.args.run.now = part_near c.args.owner c.args.at c.filled_in-filled.result c.args.run.now (shown c.args.pool.now.used) held c.if-filled-front.false in
    sym (ap length part ∙ length-drop (c.filled_in-filled.result - c.args.at % 4096) c.args.run.now)

pub returns-else-filled-eq0-clause-goes : goal.returns-else-filled-eq0-clause-goes
returns-else-filled-eq0-clause-goes c =
    let held : length (bytes_at (c.args.owner, c.args.at / 4096) (shown c.args.pool.now.used)) ≡ c.filled_in-filled.result = held_length c.args.cells.now.items c.args.owner (c.args.at / 4096) c.args.pool.now.used c.requires.agrees.owns ∙ sym (c.filled_in-filled.ensures ∙ ap (λ l. filled_of (cell_of l (c.args.at / 4096))) c.deref.ensures.value) in
    goes_held c.args.pool.now.size c.args.owner c.args.at c.args.run.now (shown c.args.pool.now.used) (omega (arith, held, c.if-filled-eq0.false))

pub returns-then-begin-clause-held : goal.returns-then-begin-clause-held
returns-then-begin-clause-held c =
    let known : filled_of (cell_of c.args.cells.now.items (c.args.at / 4096)) ≡ c.filled_in-filled.result = sym (c.filled_in-filled.ensures ∙ ap (λ l. filled_of (cell_of l (c.args.at / 4096))) c.deref.ensures.value) in
    held_raised c.args.cells.now.items c.begin.new.cells.items (c.args.at / 4096) (length c.args.run.now) (length c.args.run.now) (c.begin.ensures.raised c.if-begin.true) c.begin.ensures.length c.requires.inside (omega (arith, known, c.if-filled-eq0.true))

pub returns-else-filled-eq0-clause-held : goal.returns-else-filled-eq0-clause-held
returns-else-filled-eq0-clause-held c =
    held_raised c.args.cells.now.items c.extend.new.cells.items (c.args.at / 4096) _ (length c.args.run.now - (c.filled_in-filled.result - c.args.at % 4096)) c.extend.ensures.raised c.extend.ensures.length c.requires.inside
    (ap (λ n. filled_of (cell_of c.args.cells.now.items (c.args.at / 4096)) + n) (sym (ap length (take_rest c.args.run.now (c.filled_in-filled.result - c.args.at % 4096)) ∙ length-drop (c.filled_in-filled.result - c.args.at % 4096) c.args.run.now)))
