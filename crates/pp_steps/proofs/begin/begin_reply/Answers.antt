use Rattle.std.proofs.Common.{rules, ◌≡◌, Some}
use Rattle.std.specs.Prelude.{slice_get}
use Rattle.std.proofs.lemmas.Option.{slice_get_read}
use Rattle.pp_steps.proofs.BeginLemmas.{reply_begins}
use Rattle.pp_steps.proofs.begin.begin_reply.Goals as goal

pub returns-clause-is : goal.returns-clause-is
returns-clause-is c =
    let is : slice_get c.args.state.now.seats.items c.args.i ≡ Some c.in-Some.seat.now = search (rules, slice_get_read, c.in-Some.ensures.lookup, c.deref.ensures.value) in
    reply_begins c.args.i c.in-Some.seat.now c.args.state.now c.begin_by.new.state is c.if-seat.false c.begin_by.ensures.is
