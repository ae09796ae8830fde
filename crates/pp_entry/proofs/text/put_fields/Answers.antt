use Rattle.std.proofs.Common.{arith}
use Rattle.pp_entry.proofs.LineLemmas.{lines-over}
use Rattle.pp_entry.proofs.text.put_fields.Goals as goal

pub returns-in_err-put_field : goal.returns-in_err-put_field
returns-in_err-put_field c = grind (arith, lines-over)
