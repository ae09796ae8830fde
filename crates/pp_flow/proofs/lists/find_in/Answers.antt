use Rattle.std.proofs.Common.{◌∙◌, sym, ap, Some}
use Rattle.std.specs.Global.{Box}
use Rattle.pp_flow.specs.declared.entry.Entry.{Entry}
use Rattle.pp_flow.specs.Inside.{entries}
use Rattle.pp_flow.proofs.First.{absent-find, entries-at, first-find}
use Rattle.pp_flow.proofs.lists.find_in.Goals as goal

pub returns-in-Some : goal.returns-in-Some
returns-in-Some c =
    let b = c.index-list-index.result in
    ap Some (c.deref.ensures ∙ ap (λ (x : Box Entry). x.value) c.index-list-index.is ∙ sym (entries-at c.args.list.now c.in-Some.index b))
    ∙ sym (first-find c.args.number (entries c.args.list.now) c.in-Some.index b.value c.in-Some.ensures.some)

pub returns-in-None : goal.returns-in-None
returns-in-None c = sym (absent-find c.args.number (entries c.args.list.now) c.in-None.ensures.none)
