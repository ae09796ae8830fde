use Rattle.pp_valid.proofs.TagRoom.{copied}
use Rattle.pp_valid.proofs.tag.padded.Goals as goal

pub returns : goal.returns
returns c = copied c.args.text.now c.copy_from_slice.new.self c.copy_from_slice.ensures.after
