use Rattle.pp_keeps_law.proofs.Planned.{drafts_may_begin, seals_may_begin}
use Rattle.pp_keeps_law.proofs.running.plans_are_the_laws.Goals as goal

pub returns : goal.returns
returns c = record { drafts = drafts_may_begin; seals = seals_may_begin }
