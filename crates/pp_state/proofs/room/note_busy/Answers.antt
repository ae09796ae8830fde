use Rattle.std.proofs.Common.{◌<◌, ◌≤◌, length, arith}
use Rattle.pp_state.proofs.PinLemmas.{full, nothing, pushed}
use Rattle.pp_state.proofs.room.note_busy.Goals as goal

pub returns-in-None : goal.returns-in-None
returns-in-None c =
    let least : length c.args.busy.now.items ≤ 64 = omega (arith, c.len.ensures.fits) in
    nothing 64 c.args.busy.now.items c.args.id c.in-None.is least

pub returns-in-Some : goal.returns-in-Some
returns-in-Some c =
    let less : length c.args.busy.now.items < 64 = omega (arith, c.if-len-lt64.true, c.len.ensures.value) in
    pushed 64 c.args.busy.now.items c.push.new.self.items c.args.id c.in-Some.id c.in-Some.is less c.push.ensures.items

pub returns-else-len-lt64 : goal.returns-else-len-lt64
returns-else-len-lt64 c =
    let most : 64 ≤ length c.args.busy.now.items = omega (arith, c.if-len-lt64.false, c.len.ensures.value) in
    full 64 c.args.busy.now.items c.args.id most (omega (arith, c.len.ensures.fits))
