use Rattle.std.proofs.Common.{◌≡◌, ◌<◌, ◌≤◌, ◌+◌, ◌-◌, ◌%◌, ◌++◌, ◌∙◌, ℕ, false, List, ap, arith, length, sym, subst, take}
use Rattle.std.specs.Prelude.{nat_le}
use Rattle.pp_client.proofs.RunLemmas.{chunk_from}
use Rattle.pp_client.specs.Replies.{run_at_hand}
use Rattle.pp_holes.specs.Places.{Chunk}
use Rattle.pp_keeping.proofs.CopyLemmas.{all_in_first, and_the_rest, both_copied, none_read, not_all}
use Rattle.pp_keeping.proofs.plan.+copy.Goals as goal

pub returns-then-chunks-eq0-clause-is : goal.returns-then-chunks-eq0-clause-is
returns-then-chunks-eq0-clause-is t c =
    let n : ℕ = length c.args.out.now in
    let slot : ℕ = c.args.id.slot in
    let at : ℕ = c.args.at in
    let cs : List Chunk = c.args.cache.now.chunks in
    let some : 0 < n = omega (arith, c.if-len-eq0.false) in
    sym (subst (λ (k : ℕ). nat_le n (length (run_at_hand k slot at cs)) ≡ false) (sym c.if-chunks-eq0.true) (none_read slot at n cs some))

pub returns-then-len-piece-clause-is : goal.returns-then-len-piece-clause-is
returns-then-len-piece-clause-is t c =
    sym (all_in_first c.args.chunks c.args.id.slot c.args.at (length c.args.out.now) c.args.cache.now.chunks c.piece-piece.result.now c.if-chunks-eq0.false (c.piece-piece.ensures.piece c.requires.there) c.if-len-piece.true).0

pub returns-then-len-piece-clause-bytes : goal.returns-then-len-piece-clause-bytes
returns-then-len-piece-clause-bytes t c = λ all.
    c.copy_from_slice.ensures.after
    ∙ (all_in_first c.args.chunks c.args.id.slot c.args.at (length c.args.out.now) c.args.cache.now.chunks c.piece-piece.result.now c.if-chunks-eq0.false (c.piece-piece.ensures.piece c.requires.there) c.if-len-piece.true).1

pub returns-then-filled-ne-CHUNK_LEN-clause-is : goal.returns-then-filled-ne-CHUNK_LEN-clause-is
returns-then-filled-ne-CHUNK_LEN-clause-is t c =
    let less : length c.piece-piece.result.now < length c.args.out.now = omega (arith, c.if-len-piece.false) in
    sym (not_all c.args.chunks c.args.id.slot c.args.at (length c.args.out.now) c.args.cache.now.chunks c.piece-piece.result.now c.if-chunks-eq0.false (c.piece-piece.ensures.piece c.requires.there) less c.if-filled-ne-CHUNK_LEN.true)

pub returns-clause-is : goal.returns-clause-is
returns-clause-is t c =
    let piece : List ℕ = c.piece-piece.result.now in
    let rest : ℕ = length c.split_at_mut-front.result.1.now in
    let long : length c.args.out.now ≡ length piece + rest = omega (arith, c.split_at_mut-front.ensures.back_len) in
    c.copy.ensures.is
    ∙ and_the_rest c.args.chunks c.args.id.slot c.args.at (length c.args.out.now) rest c.args.cache.now.chunks piece c.if-chunks-eq0.false (c.piece-piece.ensures.piece c.requires.there) c.if-filled-ne-CHUNK_LEN.false long

pub returns-clause-bytes : goal.returns-clause-bytes
returns-clause-bytes t c = λ all.
    let piece : List ℕ = c.piece-piece.result.now in
    let rest : ℕ = length c.split_at_mut-front.result.1.now in
    let long : length c.args.out.now ≡ length piece + rest = omega (arith, c.split_at_mut-front.ensures.back_len) in
    both_copied c.args.chunks c.args.id.slot c.args.at (length c.args.out.now) rest c.args.cache.now.chunks piece c.copy.new.out (c.copy_from_slice-2.new.self ++ c.copy.new.out) c.if-chunks-eq0.false
    (c.piece-piece.ensures.piece c.requires.there) c.if-filled-ne-CHUNK_LEN.false long (c.copy.ensures.bytes all) (ap (λ (l : List ℕ). l ++ c.copy.new.out) c.copy_from_slice-2.ensures.after)
