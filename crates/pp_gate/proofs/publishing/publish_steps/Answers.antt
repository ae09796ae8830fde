use Rattle.pp_gate.specs.Gate.{draft_ops}
use Rattle.pp_gate.proofs.Ops.{draft_there}
use Rattle.pp_gate.proofs.PublishLemmas.{draft_done, draft_failed, publish_failed, published_runs}
use Rattle.pp_gate.proofs.publishing.publish_steps.Goals as goal

pub publish-requires : goal.publish-requires
publish-requires g c = record {
  drafted = draft_there _ _ c.args.file.now (draft_done _ _ (draft_ops c.args.file.now) c.draft.result c.is_err.result c.draft.ensures.ops c.is_err.ensures.value c.if-is_err.false);
}

pub returns-in-Ok-clause-ops : goal.returns-in-Ok-clause-ops
returns-in-Ok-clause-ops g c = published_runs _ _ _ c.args.name.now c.args.file.now
    (draft_done _ _ (draft_ops c.args.file.now) c.draft.result c.is_err.result c.draft.ensures.ops c.is_err.ensures.value c.if-is_err.false) c.in-Ok.ensures.told

pub returns-in-Err-clause-ops : goal.returns-in-Err-clause-ops
returns-in-Err-clause-ops g c = publish_failed _ _ _ c.args.name.now c.args.file.now
    (draft_done _ _ (draft_ops c.args.file.now) c.draft.result c.is_err.result c.draft.ensures.ops c.is_err.ensures.value c.if-is_err.false) c.in-Err.ensures.told

pub returns-then-is_err-clause-ops : goal.returns-then-is_err-clause-ops
returns-then-is_err-clause-ops g c = draft_failed _ _ (draft_ops c.args.file.now) c.draft.result c.is_err.result c.draft.ensures.ops c.is_err.ensures.value c.if-is_err.true
