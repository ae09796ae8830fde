use Rattle.std.proofs.Common.{◌∙◌, sym, length-take-le}
use Rattle.pp_gate.proofs.publishing.put.Goals as goal

pub copy_from_slice-requires : goal.copy_from_slice-requires
copy_from_slice-requires c = length-take-le 8192 c.args.room.now c.requires ∙ sym c.told-block
