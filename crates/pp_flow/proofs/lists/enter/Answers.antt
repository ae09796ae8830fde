use Rattle.std.proofs.Common.{◌≡◌, ◌∙◌, ◌<◌, ap, insert, List, ℕ, rules, vec_len, vec_capacity}
use Rattle.std.specs.Global.{Box}
use Rattle.pp_flow.specs.declared.entry.Entry.{Entry}
use Rattle.pp_flow.specs.Changes.{place_in}
use Rattle.pp_flow.specs.Inside.{entries}
use Rattle.pp_flow.proofs.Entering.{entered-at, entries-insert, taken}
use Rattle.pp_flow.proofs.lists.enter.Goals as goal

pub returns-clause-entered : goal.returns-clause-entered
returns-clause-entered c =
    let bs = c.args.list.now.items in
    let e = c.args.entry.value in
    let at : c.place_in-at.result ≡ place_in e.exchange.number (entries bs) =
    c.place_in-at.ensures.place ∙ ap (λ (xs : List (Box Entry)). place_in c.deref-2.result.now.exchange.number (entries xs)) c.deref.ensures.value
    ∙ ap (λ (x : Entry). place_in x.exchange.number (entries bs)) c.deref-2.ensures in
    let fits : vec_len c.args.list.now < vec_capacity c.args.list.now = search rules in
    ap entries (c.insert.ensures.items ∙ taken c.insert.result (vec_len c.args.list.now) (vec_capacity c.args.list.now) bs (insert bs c.place_in-at.result c.args.entry) c.insert.ensures.full fits)
    ∙ entries-insert bs c.place_in-at.result c.args.entry ∙ ap (λ (n : ℕ). insert (entries bs) n e) at ∙ entered-at e (entries bs)
