use Rattle.pp_entry.proofs.Parts.{copied}
use Rattle.pp_entry.proofs.write.padded.Goals as goal

pub returns : goal.returns
returns c = copied c.args.text.now c.copy_from_slice.new.self c.copy_from_slice.ensures.after
