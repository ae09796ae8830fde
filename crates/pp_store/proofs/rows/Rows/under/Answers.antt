use Rattle.std.proofs.Common.{◌≤◌, List, Some, arith, sym, ◌∙◌, ap, subst}
use Rattle.std.specs.Prelude.{count_by, find}
use Rattle.std.specs.Option.{option_copied}
use Rattle.pp_store.specs.Kept.{Kept, is_under}
use Rattle.pp_store.proofs.TableLemmas.{found_at, found_nowhere, place_in}
use Rattle.pp_store.proofs.rows.Rows.under.Goals as goal

pub index-requires : goal.index-requires
index-requires c =
    omega (arith, place_in c.self.inside.places c.self.inside.list.items c.args.name.now c.in-Some.place.now c.self.invariant.at (sym c.get.ensures.value ∙ ap option_copied c.in-Some.is), c.self.inside.list.ok)

pub returns-in-Some-clause-under : goal.returns-in-Some-clause-under
returns-in-Some-clause-under c =
    ap (λ (row : Kept). Some row) c.index.ensures
    ∙ sym (found_at c.self.inside.places c.self.inside.list.items c.args.name.now c.in-Some.place.now c.index.result.now c.self.invariant.at (sym c.get.ensures.value ∙ ap option_copied c.in-Some.is))
    ∙ ap (find (is_under c.args.name.now)) c.self.view_is

pub returns-in-None-clause-under : goal.returns-in-None-clause-under
returns-in-None-clause-under c =
    sym (found_nowhere c.self.inside.places c.self.inside.list.items c.args.name.now c.self.invariant.at (sym c.get.ensures.value ∙ ap option_copied c.in-None.is))
    ∙ ap (find (is_under c.args.name.now)) c.self.view_is

pub returns-in-Some-clause-alone : goal.returns-in-Some-clause-alone
returns-in-Some-clause-alone c = subst (λ (list : List Kept). count_by (is_under c.args.name.now) list ≤ 1) c.self.view_is (c.self.invariant.once c.args.name.now)

pub returns-in-None-clause-alone : goal.returns-in-None-clause-alone
returns-in-None-clause-alone c = subst (λ (list : List Kept). count_by (is_under c.args.name.now) list ≤ 1) c.self.view_is (c.self.invariant.once c.args.name.now)
