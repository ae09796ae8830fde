use Rattle.pp_objects.proofs.Slots.{ends_within, low_slots}
use Rattle.pp_objects.proofs.objects.Objects.bounds.Goals as goal

pub returns-clause-slots : goal.returns-clause-slots
returns-clause-slots c = low_slots c.self.inside c.args.self.now c.self.invariant.sound c.self.view_is

pub returns-clause-ends : goal.returns-clause-ends
returns-clause-ends c = ends_within c.self.inside c.args.self.now c.self.invariant.sound c.self.view_is
