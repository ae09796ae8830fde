use Rattle.pp_rests_law.proofs.FrontTurns.{heads_paged}
use Rattle.pp_rests_law.proofs.keeping.what_is_no_head_has_a_page.Goals as goal

pub returns : goal.returns
returns c = record { pages = heads_paged }
