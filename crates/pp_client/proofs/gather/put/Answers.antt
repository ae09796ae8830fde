use Rattle.std.proofs.Common.{◌≡◌, ◌+◌, ◌++◌, ◌∙◌, ap, arith, length}
use Rattle.pp_client.proofs.RunLemmas.{fits_rest}
use Rattle.pp_client.proofs.gather.put.Goals as goal

pub returns-clause-bytes : goal.returns-clause-bytes
returns-clause-bytes c =
    let room : c.remaining_capacity-left.result + length c.args.room.now.items ≡ 65536 = omega (arith, c.remaining_capacity-left.ensures) in
    c.put_all.ensures ∙ ap (λ l. c.args.room.now.items ++ l) c.front.ensures ∙ fits_rest 65536 c.remaining_capacity-left.result c.args.room.now.items c.args.bytes.now room
