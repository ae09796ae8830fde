use Rattle.std.proofs.Common.{◌≡◌, ◌-◌, ◌∙◌, [], sym, subst, ap, length, take}
use Rattle.std.specs.Prelude.{◌↔◌}
use Rattle.pp_holes.specs.Places.{shown}
use Rattle.pp_client.specs.Replies.{body_at_hand}
use Rattle.pp_client.specs.declared.reply.Begin.{Begin}
use Rattle.pp_client.proofs.RunLemmas.{piece_empty, piece_first}
use Rattle.pp_client.proofs.span.first_piece.Goals as goal

pub returns-then-next-to-clause-front : goal.returns-then-next-to-clause-front
returns-then-next-to-clause-front c =
    piece_first 15 c.in-Instance.id.slot c.in-Instance.next c.in-Instance.to (shown c.args.pool.now.used) c.front.result.now
    (c.front.ensures ∙ ap (take (c.in-Instance.to - c.in-Instance.next)) c.piece.ensures.piece)
    ∙ ap (λ r. take (length c.front.result.now) (body_at_hand r c.args.pass.now (shown c.args.pool.now.used))) (sym c.in-Instance.is)

pub returns-then-next-to-clause-empty : goal.returns-then-next-to-clause-empty
returns-then-next-to-clause-empty c =
    subst (λ (r : Begin). (c.front.result.now ≡ []) ↔ (body_at_hand r c.args.pass.now (shown c.args.pool.now.used) ≡ [])) (sym c.in-Instance.is)
    (piece_empty 15 c.in-Instance.id.slot c.in-Instance.next c.in-Instance.to (shown c.args.pool.now.used) c.front.result.now
    (c.front.ensures ∙ ap (take (c.in-Instance.to - c.in-Instance.next)) c.piece.ensures.piece))
