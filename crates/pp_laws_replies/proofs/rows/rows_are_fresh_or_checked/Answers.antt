use Rattle.pp_laws_replies.proofs.Usable.{rows_usable}
use Rattle.pp_laws_replies.proofs.rows.rows_are_fresh_or_checked.Goals as goal

pub returns : goal.returns
returns c = record { usable = rows_usable }
