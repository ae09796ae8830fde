use Rattle.pp_laws_lines.proofs.Stream.{dialled_once, lines_go, were_dialled}
use Rattle.pp_laws_lines.proofs.lines.lines_go_to_their_hosts.Goals as goal

pub returns : goal.returns
returns c = record { hosts = lines_go; dialled = were_dialled; once = dialled_once }
