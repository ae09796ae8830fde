use Rattle.std.proofs.Common.{◌≡◌, ◌∙◌, length, ap, refl, arith}
use Rattle.pp_state.specs.Ends.{decided_anew}
use Rattle.pp_state.proofs.SeatsLemmas.{front-all, front-done, front-mapped}
use Rattle.pp_state.proofs.rows.decide_all_anew.Goals as goal

pub loop-seat-init : goal.loop-seat-init
loop-seat-init c = refl

pub loop-seat-preserved : goal.loop-seat-preserved
loop-seat-preserved c =
    front-done (decided_anew c.args.key.now) c.loop-seat.seat-index c.args.seats.now c.loop-seat.seats c.decide_anew.new.seat c.seat-item.result c.loop-seat.invariant c.loop-seat-test.true c.decide_anew.ensures

pub returns : goal.returns
returns c =
    let all : c.loop-seat.seat-index ≡ length c.args.seats.now = omega (arith, c.loop-seat-test.false, c.loop-seat.auto.seat-index-end) in
    c.loop-seat.invariant ∙ ap (λ n. front-mapped (decided_anew c.args.key.now) n c.args.seats.now) all ∙ front-all (decided_anew c.args.key.now) c.args.seats.now
