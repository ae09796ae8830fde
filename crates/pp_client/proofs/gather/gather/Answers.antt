use Rattle.std.proofs.Common.{◌≡◌, ◌++◌, ◌∙◌, ℕ, List, ap, take}
use Rattle.pp_holes.specs.Places.{shown}
use Rattle.pp_client.specs.Replies.{body_at_hand}
use Rattle.pp_client.proofs.RunLemmas.{fits_twice}
use Rattle.pp_client.proofs.gather.gather.Goals as goal

pub returns : goal.returns
returns c =
    let body : List ℕ = body_at_hand c.args.reply c.args.pass.now (shown c.args.pool.now.used) in
    c.as_slice.ensures.value
    ∙ c.put_body.ensures
    ∙ ap (λ l. take 65536 (l ++ body)) (c.put.ensures.bytes ∙ ap (λ l. take 65536 (l ++ c.args.text.now)) c.clear.ensures)
    ∙ fits_twice 65536 c.args.text.now body
