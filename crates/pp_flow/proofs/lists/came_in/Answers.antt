use Rattle.std.proofs.Common.{◌∙◌, ◌≡◌, sym, ap, set, Some}
use Rattle.std.specs.List.{find}
use Rattle.pp_flow.specs.declared.entry.Entry.{Entry}
use Rattle.pp_flow.specs.Entries.{is_number, moved_by}
use Rattle.pp_flow.specs.Inside.{entries}
use Rattle.pp_flow.proofs.First.{absent-changed, entries-at, entries-set, first-changed, first-find}
use Rattle.pp_flow.proofs.lists.came_in.Goals as goal

pub came-requires : goal.came-requires
came-requires c =
    let es = entries c.args.list.now in
    let b = c.index-list-index.result in
    let there : find (is_number c.args.number) es ≡ Some c.deref_mut.result.now =
    first-find c.args.number es c.in-Some.index b.value c.in-Some.ensures.some
    ∙ ap Some (entries-at c.args.list.now c.in-Some.index b ∙ sym c.deref_mut.ensures.value) in
    rw there at c.requires

pub returns-in-Some-clause-change : goal.returns-in-Some-clause-change
returns-in-Some-clause-change c =
    let es = entries c.args.list.now in
    let b = c.index-list-index.result in
    entries-set c.args.list.now c.in-Some.index _
    ∙ ap (λ (e : Entry). set es c.in-Some.index e) (c.came.ensures ∙ ap (moved_by c.args.n) (c.deref_mut.ensures.value ∙ sym (entries-at c.args.list.now c.in-Some.index b)))
    ∙ sym (first-changed c.args.number (moved_by c.args.n) es c.in-Some.index b.value c.in-Some.ensures.some)

pub returns-in-None-clause-change : goal.returns-in-None-clause-change
returns-in-None-clause-change c = sym (absent-changed c.args.number (moved_by c.args.n) (entries c.args.list.now) c.in-None.ensures.none)
