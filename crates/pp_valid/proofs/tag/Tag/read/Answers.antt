use Rattle.std.proofs.Common.{◌≡◌, true, rules}
use Rattle.pp_valid.specs.Tags.{is_strong_tag}
use Rattle.pp_valid.proofs.TagRoom.{tag_room}
use Rattle.pp_valid.proofs.tag.Tag.read.Goals as goal

pub invariant_of-result : goal.invariant_of-result
invariant_of-result c =
    let strong : is_strong_tag c.args.text.now ≡ true = search rules in
    rw c.padded.ensures (tag_room c.args.text.now c.if-text-gt-ROOM.false strong)
