use Rattle.std.proofs.Common.{◌≡◌, ◌-◌, ◌++◌, ◌∙◌, sym, ap, arith, take}
use Rattle.pp_holes.specs.Places.{shown}
use Rattle.pp_client.specs.Replies.{body_at_hand, run_at_hand}
use Rattle.pp_client.proofs.RunLemmas.{fits_nothing, fits_thrice}
use Rattle.pp_client.proofs.gather.put_body.Goals as goal

pub returns-in-Page : goal.returns-in-Page
returns-in-Page c =
    sym (ap (λ r. take 65536 (c.args.room.now.items ++ body_at_hand r c.args.pass.now (shown c.args.pool.now.used))) c.in-Page.is
    ∙ fits_nothing 65536 c.args.room.now.items c.requires.within)

pub returns-else-next-to : goal.returns-else-next-to
returns-else-next-to c =
    let none : c.in-Instance.to - c.in-Instance.next ≡ 0 = omega (arith, c.if-next-to.false) in
    sym (ap (λ r. take 65536 (c.args.room.now.items ++ body_at_hand r c.args.pass.now (shown c.args.pool.now.used))) c.in-Instance.is
    ∙ ap (λ k. take 65536 (c.args.room.now.items ++ take k (run_at_hand 16 c.in-Instance.id.slot c.in-Instance.next (shown c.args.pool.now.used)))) none
    ∙ fits_nothing 65536 c.args.room.now.items c.requires.within)

pub returns-in-Passed : goal.returns-in-Passed
returns-in-Passed c =
    c.put-in-Passed.ensures.bytes
    ∙ ap (λ l. take 65536 (l ++ c.pieces.result.1.now)) c.put.ensures.bytes
    ∙ fits_thrice 65536 c.args.room.now.items c.pieces.result.0.now c.pieces.result.1.now
    ∙ ap (λ l. take 65536 (c.args.room.now.items ++ l)) c.pieces.ensures.all
    ∙ sym (ap (λ r. take 65536 (c.args.room.now.items ++ body_at_hand r c.args.pass.now (shown c.args.pool.now.used))) c.in-Passed.is)
