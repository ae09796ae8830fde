use Rattle.std.proofs.Common.{List, Option, ◌∙◌, sym, ap}
use Rattle.std.specs.List.{find}
use Rattle.std.specs.Prelude.{option_map}
use Rattle.pp_objects.specs.Instances.{Instance, id_of, is_idle}
use Rattle.pp_objects.specs.declared.id.ObjectId.{ObjectId}
use Rattle.pp_state.proofs.PinLemmas.{forgotten_so}
use Rattle.pp_state.proofs.state.State.forget_idle_row.Goals as goal

pub returns-in-Some : goal.returns-in-Some
returns-in-Some c =
    let s = c.args.self.now in
    let idle : List ObjectId → Option Instance = λ busy. find (is_idle busy) s.cache.instances in
    forgotten_so s c.in-Some.id c.forget.new.self c.note_key_of.new.forgotten
    (sym c.in-Some.is ∙ c.idle_row.ensures.idle ∙ ap (λ busy. option_map id_of (idle busy)) c.busy_rows-busy.ensures)
    (c.in-Some.ensures.there ∙ ap idle c.busy_rows-busy.ensures) c.note_key_of.ensures.there c.forget.ensures.forgotten
