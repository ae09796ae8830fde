use Rattle.std.proofs.Common.{ℕ, Bool, List, None, cond, ◌∙◌, ap}
use Rattle.std.specs.Prelude.{bytes_eq}
use Rattle.std.specs.BTreeMap.{get}
use Rattle.std.proofs.lemmas.Map.Text.{is_eq-slice_cmp}
use Rattle.pp_world.specs.Files.{name_order}
use Rattle.pp_store.proofs.TableLemmas.{table_popped}
use Rattle.pp_store.proofs.rows.Rows.pop.Goals as goal

pub invariant_of-self : goal.invariant_of-self
invariant_of-self c =
    table_popped c.self.inside _ c.in-Some.row c.self.invariant c.in-Some.ensures.items
    (λ other. c.remove.ensures.updates.0 other
    ∙ ap (λ (b : Bool). cond b None (get name_order c.self.inside.places other)) (is_eq-slice_cmp c.name.result.now other)
    ∙ ap (λ (n : List ℕ). cond (bytes_eq n other) None (get name_order c.self.inside.places other)) c.name.ensures)
