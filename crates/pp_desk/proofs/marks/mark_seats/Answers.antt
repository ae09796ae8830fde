use Rattle.std.proofs.Common.{◌≡◌, ◌∙◌, length, ap, refl, arith}
use Rattle.pp_desk.specs.Marks.{marked_seat}
use Rattle.pp_state.proofs.SeatsLemmas.{front-all, front-done, front-mapped}
use Rattle.pp_desk.proofs.marks.mark_seats.Goals as goal

pub loop-seat-init : goal.loop-seat-init
loop-seat-init c = refl

pub loop-seat-preserved : goal.loop-seat-preserved
loop-seat-preserved c = front-done (marked_seat c.args.now) c.loop-seat.seat-index c.args.seats.now c.loop-seat.seats c.mark_seat.new.seat c.seat-item.result c.loop-seat.invariant c.loop-seat-test.true c.mark_seat.ensures

pub returns : goal.returns
returns c =
    let all : c.loop-seat.seat-index ≡ length c.args.seats.now = omega (arith, c.loop-seat-test.false, c.loop-seat.auto.seat-index-end) in
    c.loop-seat.invariant ∙ ap (λ n. front-mapped (marked_seat c.args.now) n c.args.seats.now) all ∙ front-all (marked_seat c.args.now) c.args.seats.now
