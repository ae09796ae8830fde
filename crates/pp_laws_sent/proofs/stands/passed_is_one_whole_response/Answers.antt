use Rattle.pp_laws_sent.proofs.WholeLaw.{passed_is_one_so_far, passed_is_one_whole, seen_is_just_before}
use Rattle.pp_laws_sent.proofs.stands.passed_is_one_whole_response.Goals as goal

pub returns : goal.returns
returns c = record { so_far = passed_is_one_so_far; whole = passed_is_one_whole; seen = seen_is_just_before }
