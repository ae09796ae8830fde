use Rattle.std.proofs.Common.{◌∙◌, sym, ap, set}
use Rattle.pp_flow.specs.declared.entry.Entry.{Entry}
use Rattle.pp_flow.specs.Entries.{nobodys}
use Rattle.pp_flow.specs.Inside.{entries}
use Rattle.pp_flow.proofs.First.{absent-changed, entries-at, entries-set, first-changed}
use Rattle.pp_flow.proofs.lists.leave_in.Goals as goal

pub returns-in-Some-clause-change : goal.returns-in-Some-clause-change
returns-in-Some-clause-change c =
    let es = entries c.args.list.now in
    let b = c.index-list-index.result in
    entries-set c.args.list.now c.in-Some.index _
    ∙ ap (λ (e : Entry). set es c.in-Some.index e) (c.leave.ensures ∙ ap nobodys (c.deref_mut.ensures.value ∙ sym (entries-at c.args.list.now c.in-Some.index b)))
    ∙ sym (first-changed c.args.number nobodys es c.in-Some.index b.value c.in-Some.ensures.some)

pub returns-in-None-clause-change : goal.returns-in-None-clause-change
returns-in-None-clause-change c = sym (absent-changed c.args.number nobodys (entries c.args.list.now) c.in-None.ensures.none)
