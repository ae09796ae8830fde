use Rattle.pp_events_law.proofs.Written.{loads_lead}
use Rattle.pp_events_law.proofs.loading.writes_lead_behind_reads_as_by_the_law.Goals as goal

pub returns : goal.returns
returns c = loads_lead
