use Rattle.std.proofs.Common.{ℕ, List, [], ◌∷◌, ◌++◌, Some, cond, arith, refl, ◌∙◌, ap}
use Rattle.std.specs.Prelude.{bytes_eq, find}
use Rattle.std.specs.BTreeMap.{get}
use Rattle.pp_world.specs.Files.{name_order}
use Rattle.pp_store.specs.Kept.{Kept, is_under, name_at}
use Rattle.pp_store.proofs.TableLemmas.{table_pushed, table_same}
use Rattle.pp_store.proofs.rows.Rows.push.Goals as goal

pub invariant_of-self : goal.invariant_of-self
invariant_of-self c = table_same c.self.inside _ c.self.invariant c.reserve.ensures.items (λ name. refl)

pub invariant_of-self-in_err-put : goal.invariant_of-self-in_err-put
invariant_of-self-in_err-put c = table_same c.self.inside _ c.self.invariant c.reserve.ensures.items c.in_err-put.ensures.err

pub invariant_of-self-2 : goal.invariant_of-self-2
invariant_of-self-2 c =
    table_pushed c.self.inside _ c.args.row c.self.invariant (ap (find (is_under (name_at c.args.row))) c.self.view_is ∙ c.requires)
    (c.push_reserved.ensures.items ∙ ap (λ (rows : List Kept). rows ++ c.args.row ∷ []) c.reserve.ensures.items)
    (λ other. c.in_ok-put.ensures.ok other
    ∙ ap (λ (n : List ℕ). cond (bytes_eq n other) (Some c.len.result) (get name_order c.self.inside.places other)) c.name.ensures
    ∙ ap (λ (k : ℕ). cond (bytes_eq (name_at c.args.row) other) (Some k) (get name_order c.self.inside.places other)) (omega (arith, c.len.ensures, c.reserve.ensures.len, c.self.inside.list.ok)))
