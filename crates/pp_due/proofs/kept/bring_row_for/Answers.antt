use Rattle.std.proofs.Common.{arith, ◌≡◌, Some}
use Rattle.std.proofs.lemmas.Grind.{common_steps}
use Rattle.pp_due.proofs.RoomLemmas.{row_for}
use Rattle.pp_state.specs.Keys.{key_of}
use Rattle.pp_due.proofs.kept.bring_row_for.Goals as goal

pub returns : goal.returns
returns c =
    let is : key_of c.args.number c.args.state.now.flow ≡ Some c.in-Some.key.now = grind (arith, common_steps) in
    row_for c.args.shelf.now (key_of c.args.number c.args.state.now.flow) c.in-Some.key.now c.args.state.now c.make_room_if_over.new.state c.bring.new.cache c.bring.result c.is_ok-is_brought.result c.note_brought.new.is_astray is c.bring.ensures.brought c.bring.ensures.refused c.is_ok-is_brought.ensures.value c.note_brought.ensures c.make_room_if_over.ensures
