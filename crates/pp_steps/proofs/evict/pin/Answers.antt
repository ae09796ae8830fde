use Rattle.std.proofs.Common.{◌<◌, ◌≤◌, length, arith}
use Rattle.pp_state.proofs.PinLemmas.{full, nothing, pushed}
use Rattle.pp_steps.proofs.evict.pin.Goals as goal

pub returns-in-None : goal.returns-in-None
returns-in-None c =
    let least : length c.args.pins.now.items ≤ 320 = omega (arith, c.len.ensures.fits) in
    nothing 320 c.args.pins.now.items c.args.chunk c.in-None.is least

pub returns-in-Some : goal.returns-in-Some
returns-in-Some c =
    let less : length c.args.pins.now.items < 320 = omega (arith, c.if-len-lt320.true, c.len.ensures.value) in
    pushed 320 c.args.pins.now.items c.push.new.self.items c.args.chunk c.in-Some.chunk c.in-Some.is less c.push.ensures.items

pub returns-else-len-lt320 : goal.returns-else-len-lt320
returns-else-len-lt320 c =
    let most : 320 ≤ length c.args.pins.now.items = omega (arith, c.if-len-lt320.false, c.len.ensures.value) in
    full 320 c.args.pins.now.items c.args.chunk most (omega (arith, c.len.ensures.fits))
