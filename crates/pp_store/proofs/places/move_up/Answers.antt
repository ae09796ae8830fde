use Rattle.std.proofs.Common.{rules, ◌∙◌, ap}
use Rattle.std.specs.BTreeMap.{is_at}
use Rattle.std.specs.Map.{lookup}
use Rattle.std.proofs.lemmas.Map.Made.{lookup-map_values, map_same_pairs}
use Rattle.pp_world.specs.Files.{name_order}
use Rattle.pp_store.specs.Table.{moved_up}
use Rattle.pp_store.proofs.places.move_up.Goals as goal

pub returns : goal.returns
returns c = λ other.
    ap (lookup (is_at (name_order other))) (map_same_pairs _ (moved_up c.args.gone) _ (λ k v b w f' t. search rules) _ _ c.retain.ensures.filtered)
    ∙ lookup-map_values (moved_up c.args.gone) (is_at (name_order other)) c.args.places.now.entries
