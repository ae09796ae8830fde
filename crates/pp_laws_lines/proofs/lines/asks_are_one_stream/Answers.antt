use Rattle.pp_laws_lines.proofs.Stream.{one_stream}
use Rattle.pp_laws_lines.proofs.lines.asks_are_one_stream.Goals as goal

pub returns : goal.returns
returns c = record { one = one_stream }
