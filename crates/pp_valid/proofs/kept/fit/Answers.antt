use Rattle.std.proofs.Common.{◌≡◌, ◌<◌, true, length, rules}
use Rattle.pp_text.specs.Fields.{field_at}
use Rattle.pp_valid.specs.Kept.{is_of}
use Rattle.pp_valid.proofs.LineLemmas.{no_room}
use Rattle.pp_valid.proofs.kept.fit.Goals as goal

pub returns-then-len-left : goal.returns-then-len-left
returns-then-len-left c =
    let chosen : is_of c.args.kind c.args.fields.now (field_at c.args.fields.now c.loop-index.index) ≡ true = search rules in
    let within : c.loop-index.index < length c.args.fields.now = search rules in
    no_room (is_of c.args.kind c.args.fields.now) c.args.fields.now c.loop-index.index c.loop-index.left c.args.room c.line_len-len.result
    within chosen c.loop-index.invariant c.requires c.line_len-len.ensures c.if-len-left.true
