use Rattle.std.proofs.Common.{◌<◌, arith, length, rules, vec_capacity, vec_len}
use Rattle.pp_state.proofs.NumbersLemmas.{one_place_more}
use Rattle.pp_state.proofs.state.State.wake.Goals as goal

pub loop-i-preserved : goal.loop-i-preserved
loop-i-preserved c =
    let within : c.loop-i.i < length c.args.self.now.seats.items = omega (arith, c.loop-i-test.true, c.len-i-end.ensures) in
    record {
      all = λ room.
          one_place_more c.loop-i.i (length c.args.self.now.seats.items) (vec_capacity c.args.self.now.awake) (vec_capacity c.loop-i.self.awake) c.loop-i.self.awake.items c.push.new.self.items c.push.result
          (c.loop-i.invariant.all room) within room c.loop-i.invariant.room (λ less. c.push.ensures.succeeds (let fits : vec_len c.loop-i.self.awake < vec_capacity c.loop-i.self.awake = search (rules, less) in fits)) c.push.ensures.items;
      room = omega (arith, c.loop-i.invariant.room, c.push.ensures.capacity);
      rest = c.loop-i.invariant.rest;
    }
