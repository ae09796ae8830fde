use Rattle.std.proofs.Common.{◌≡◌, ◌+◌, ◌∙◌, ℕ, ap, sym, subst, List, drop, take}
use Rattle.std.proofs.lemmas.List.{drop-take}
use Rattle.pp_entry.specs.Texts.{body_at}
use Rattle.pp_keeping.specs.Kept.{outside}
use Rattle.pp_keeping.specs.Runs.{entry_in, in_file, DraftsRow, KeepsBytes}
use Rattle.pp_keeping.specs.declared.plan.Plan.{Plan}
use Rattle.pp_keeping.proofs.run.write.Goals as goal

pub returns-in-Draft-clause-is : goal.returns-in-Draft-clause-is
returns-in-Draft-clause-is g c =
    let log = g.W.Logged.log in
    let faults = g.W.Logged.faults in
    let entry = entry_in c.args.row.now in
    let front = body_at entry.version.length in
    let whole : ℕ = c.in-Draft.whole in
    let file : List ℕ = c.args.file.now in
    let x = outside c.args.shelf.now (log c.args.world.now) (faults c.args.world.now) in
    let y = outside c.draft_row.new.shelf (log c.draft_row.new.world) (faults c.draft_row.new.world) in
    let bytes : drop front (take (c.body_at.result + whole) file) ≡ take whole (drop front file) = ap (λ (n : ℕ). drop front (take (n + whole) file)) c.body_at.ensures ∙ drop-take front whole file in
    subst (λ (p : Plan). KeepsBytes p (in_file p entry.version.length file) entry x y c.draft_row.result) (sym c.in-Draft.is)
    (subst (λ (bs : List ℕ). DraftsRow entry bs x y c.draft_row.result) bytes c.draft_row.ensures.is)
