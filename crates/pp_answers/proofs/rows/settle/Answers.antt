use Rattle.std.proofs.Common.{◌≡◌, ◌∙◌, Option, None, ℕ, ap, sym, subst}
use Rattle.pp_head.specs.Shown.{shown_response}
use Rattle.pp_objects.specs.declared.id.ObjectId.{ObjectId}
use Rattle.pp_valid.specs.declared.version.Version.{Version}
use Rattle.pp_state.specs.Ends.{AreSeated, AreInOrder, numbers_of, parts}
use Rattle.pp_state.specs.Keys.{key_of}
use Rattle.pp_state.specs.Pins.{with_room}
use Rattle.pp_answers.specs.Rows.{MakesRowOf, Settles, with_room_for}
use Rattle.pp_state.specs.Known.{row_for}
use Rattle.pp_state.specs.declared.state.State.{State}
use Rattle.pp_answers.proofs.AnswerLemmas.{room_now, room_seats}
use Rattle.pp_answers.proofs.rows.settle.Goals as goal

pub returns-in-None-clause-is : goal.returns-in-None-clause-is
returns-in-None-clause-is c = λ ordered.
    let s = c.args.state.now in
    let e = c.args.e.now in
    let errand = c.args.errand.now in
    let head = shown_response c.args.head.now in
    let v = c.args.version.now in
    let new = parts c.make_row.new.state in
    let none : row_for e.number (parts s) ≡ None = sym c.row_of.ensures ∙ c.in-None.is in
    let room = c.make_room_for_row.ensures in
    let seated : AreSeated c.make_room_for_row.new.self = subst AreInOrder (sym (ap (λ (t : State). numbers_of t.seats.items) room ∙ ap (λ v. numbers_of v.items) (room_seats s))) ordered in
    let Q : State → Type 0 = λ t. MakesRowOf e errand head v t.now (key_of e.number t.flow) (parts t) new in
    let R : ℕ → Type 0 = λ n. MakesRowOf e errand head v n (key_of e.number (with_room s).flow) (parts (with_room s)) new in
    let P : Option (ObjectId × Version) → Type 0 = λ r. Settles e errand head v s.now r (parts (with_room_for r s)) new in
    subst P (sym none) (subst R (room_now s) (subst Q room (c.make_row.ensures.is seated)))
