use Rattle.std.proofs.Common.{rules, List, filter, sym, ◌∙◌, ap, subst}
use Rattle.std.specs.Prelude.{IsSome, find}
use Rattle.std.proofs.lemmas.Fn.{filter_same}
use Rattle.pp_store.specs.Changes.{is_other}
use Rattle.pp_store.specs.Kept.{Kept, is_of}
use Rattle.pp_store.specs.Table.{Leaves}
use Rattle.pp_store.proofs.TableLemmas.{table_left}
use Rattle.pp_store.proofs.rows.Rows.forget.Goals as goal

pub invariant_of-self : goal.invariant_of-self
invariant_of-self c =
    table_left c.self.inside _ c.args.key.now c.self.invariant (subst (λ (list : List Kept). IsSome (find (is_of c.args.key.now) list)) (sym c.self.view_is) c.requires)
    (filter_same _ (is_other c.args.key.now) _ (λ x b f' k. search rules) _ _ c.retain.ensures.filtered)
    (subst (λ (n : List _). Leaves n c.self.inside.places c.leave.new.places) c.file_name.ensures c.leave.ensures)

pub returns : goal.returns
returns c = filter_same _ (is_other c.args.key.now) _ (λ x b f' k. search rules) _ _ c.retain.ensures.filtered ∙ ap (filter (is_other c.args.key.now)) c.self.view_is
