use Rattle.std.proofs.Common.{ℕ, List, ◌++◌, ◌∙◌, ap, sym}
use Rattle.pp_reply.specs.Kept.{kept_reply, part_head}
use Rattle.pp_reply.specs.declared.kept.KeptReply.{KeptReply}
use Rattle.pp_reply.proofs.kept.write_kept_reply.Goals as goal

pub returns-in-Part : goal.returns-in-Part
returns-in-Part c =
    c.put_part.ensures
    ∙ ap (λ (t : List ℕ). t ++ part_head c.in-Part.from c.in-Part.to c.args.kept.now.length c.args.kept.now.fields c.args.kept.now.age c.args.name.now c.args.keep) c.clear.ensures
    ∙ ap (λ (s : KeptReply). kept_reply s c.args.kept.now.length c.args.kept.now.fields c.args.kept.now.age c.args.name.now c.args.keep) (sym c.in-Part.is)
