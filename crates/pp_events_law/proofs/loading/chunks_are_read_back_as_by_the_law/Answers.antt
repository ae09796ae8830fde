use Rattle.pp_events_law.proofs.Back.{chunks_are_read_back}
use Rattle.pp_events_law.proofs.loading.chunks_are_read_back_as_by_the_law.Goals as goal

pub returns : goal.returns
returns c = chunks_are_read_back
