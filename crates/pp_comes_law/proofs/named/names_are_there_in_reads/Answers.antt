use Rattle.pp_comes_law.proofs.NamesThere.{followed_amid, followed_behind, given_amid}
use Rattle.pp_comes_law.proofs.named.names_are_there_in_reads.Goals as goal

pub returns : goal.returns
returns c = record { amid = given_amid; followed = followed_amid; behind = followed_behind }
