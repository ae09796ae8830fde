use Rattle.std.proofs.Common.{◌∙◌, sym, ap, Some}
use Rattle.std.specs.Global.{Box}
use Rattle.pp_flow.specs.declared.entry.Entry.{Entry}
use Rattle.pp_flow.specs.Inside.{IsFirst, entries}
use Rattle.pp_flow.proofs.First.{absent-find, absent-without, entries-at, entries-remove, first-find, first-without}
use Rattle.pp_flow.proofs.lists.take_out.Goals as goal

pub returns-in-Some-clause-rest : goal.returns-in-Some-clause-rest
returns-in-Some-clause-rest c =
    let first : IsFirst c.args.number (entries c.args.list.now.items) c.in-Some.index = rw (← c.deref.ensures.value) c.in-Some.ensures.some in
    ap entries c.remove.ensures.items ∙ entries-remove c.args.list.now.items c.in-Some.index ∙ sym (first-without c.args.number (entries c.args.list.now.items) c.in-Some.index first)

pub returns-in-Some-clause-out : goal.returns-in-Some-clause-out
returns-in-Some-clause-out c =
    let first : IsFirst c.args.number (entries c.args.list.now.items) c.in-Some.index = rw (← c.deref.ensures.value) c.in-Some.ensures.some in
    let b = c.remove.result in
    ap (λ (x : Box Entry). Some x.value) c.remove.ensures.value ∙ ap Some (sym (entries-at c.args.list.now.items c.in-Some.index b))
    ∙ sym (first-find c.args.number (entries c.args.list.now.items) c.in-Some.index b.value first)

pub returns-in-None-clause-rest : goal.returns-in-None-clause-rest
returns-in-None-clause-rest c = sym (absent-without c.args.number _ (rw (← c.deref.ensures.value) c.in-None.ensures.none))

pub returns-in-None-clause-out : goal.returns-in-None-clause-out
returns-in-None-clause-out c = sym (absent-find c.args.number _ (rw (← c.deref.ensures.value) c.in-None.ensures.none))
