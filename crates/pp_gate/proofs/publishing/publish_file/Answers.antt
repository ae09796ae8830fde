use Rattle.pp_gate.proofs.PublishLemmas.{publish_done, publish_moments, publish_others}
use Rattle.pp_gate.proofs.publishing.publish_file.Goals as goal

pub returns-clause-old_or_new : goal.returns-clause-old_or_new
returns-clause-old_or_new g c = publish_moments _ _ c.args.name.now c.args.file.now c.publish_steps.result c.publish_steps.ensures.ops

pub returns-clause-others : goal.returns-clause-others
returns-clause-others g c = publish_others _ _ c.args.name.now c.args.file.now c.publish_steps.result c.publish_steps.ensures.ops

pub returns-clause-done : goal.returns-clause-done
returns-clause-done g c = publish_done _ _ c.args.name.now c.args.file.now c.publish_steps.result c.publish_steps.ensures.ops
