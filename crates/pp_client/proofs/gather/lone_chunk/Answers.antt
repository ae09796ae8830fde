use Rattle.std.proofs.Common.{◌≡◌, ◌-◌, ◌∙◌, inl, inr, sym, ap, length, take}
use Rattle.std.proofs.lemmas.Bool.{eqb-true}
use Rattle.std.proofs.lemmas.List.{nil_from_length}
use Rattle.pp_holes.specs.Places.{shown}
use Rattle.pp_client.proofs.RunLemmas.{piece_is_all}
use Rattle.pp_client.proofs.gather.lone_chunk.Goals as goal

pub returns-then-end-to : goal.returns-then-end-to
returns-then-end-to c =
    piece_is_all 15 c.args.id.slot c.args.next c.args.to (shown c.args.pool.now.used) c.front-piece.result.now
    (c.front-piece.ensures ∙ ap (take (c.args.to - c.args.next)) c.piece.ensures.piece) (inl c.if-end-to.true)

pub returns-then-is_empty : goal.returns-then-is_empty
returns-then-is_empty c =
    piece_is_all 15 c.args.id.slot c.args.next c.args.to (shown c.args.pool.now.used) c.front-piece.result.now
    (c.front-piece.ensures ∙ ap (take (c.args.to - c.args.next)) c.piece.ensures.piece)
    (inr (sym c.piece-behind.ensures.piece ∙ nil_from_length c.piece-behind.result.now (eqb-true (length c.piece-behind.result.now) 0 (sym c.is_empty.ensures ∙ c.if-is_empty.true))))
