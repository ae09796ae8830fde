use Rattle.std.proofs.Common.{◌≡◌, ◌+◌, ◌-◌, ◌++◌, ◌∙◌, sym, ap, length, take}
use Rattle.pp_holes.specs.Places.{shown}
use Rattle.pp_client.specs.Replies.{run_at_hand}
use Rattle.pp_client.proofs.RunLemmas.{run_ends, run_goes_on, run_none_left}
use Rattle.pp_client.proofs.gather.+put_run.Goals as goal

pub returns-then-chunks-eq0 : goal.returns-then-chunks-eq0
returns-then-chunks-eq0 t c =
    run_none_left 65536 c.args.id.slot c.args.at c.args.to (shown c.args.pool.now.used) c.args.room.now.items c.requires.within
    ∙ ap (λ k. take 65536 (c.args.room.now.items ++ take (c.args.to - c.args.at) (run_at_hand k c.args.id.slot c.args.at (shown c.args.pool.now.used)))) (sym c.if-chunks-eq0.true)

pub returns-then-filled-eq-CHUNK_LEN : goal.returns-then-filled-eq-CHUNK_LEN
returns-then-filled-eq-CHUNK_LEN t c =
    c.put_run.ensures
    ∙ ap (λ l. take 65536 (l ++ take (c.args.to - (c.args.at + length c.front-piece.result.now)) (run_at_hand (c.args.chunks - 1) c.args.id.slot (c.args.at + length c.front-piece.result.now) (shown c.args.pool.now.used)))) c.put.ensures.bytes
    ∙ run_goes_on 65536 c.args.chunks c.args.id.slot c.args.at c.args.to (shown c.args.pool.now.used) c.args.room.now.items c.front-piece.result.now c.if-chunks-eq0.false
    (c.front-piece.ensures ∙ ap (λ k. take k c.piece.result.now) c.saturating_sub.ensures ∙ ap (take (c.args.to - c.args.at)) c.piece.ensures.piece) c.if-filled-eq-CHUNK_LEN.true

pub returns-else-filled-eq-CHUNK_LEN : goal.returns-else-filled-eq-CHUNK_LEN
returns-else-filled-eq-CHUNK_LEN t c =
    c.put.ensures.bytes
    ∙ run_ends 65536 c.args.chunks c.args.id.slot c.args.at c.args.to (shown c.args.pool.now.used) c.args.room.now.items c.front-piece.result.now c.if-chunks-eq0.false
    (c.front-piece.ensures ∙ ap (λ k. take k c.piece.result.now) c.saturating_sub.ensures ∙ ap (take (c.args.to - c.args.at)) c.piece.ensures.piece) c.if-filled-eq-CHUNK_LEN.false
