use Rattle.std.proofs.Common.{length, subst, sym, rules}
use Rattle.pp_pipe.proofs.Opening.{none_awaited, none_came}
use Rattle.pp_pipe.specs.Answers.{IsBeforeFed}
use Rattle.pp_pipe.specs.Reading.{Broken}
use Rattle.pp_pipe.specs.declared.step.Step.TheVariants.{Bad}
use Rattle.pp_pipe.proofs.answer.Answer.feed_head.Goals as goal

pub returns-then-is_empty-clause-fed : goal.returns-then-is_empty-clause-fed
returns-then-is_empty-clause-fed c = none_came c.args.awaited c.args.self.now c.args.bytes.now (search rules)

pub returns-in-None-clause-fed : goal.returns-in-None-clause-fed
returns-in-None-clause-fed c =
    subst (λ a. IsBeforeFed a c.args.self.now c.args.bytes.now (length c.args.bytes.now) Bad Broken) (sym c.in-None.is)
    (none_awaited c.args.self.now c.args.bytes.now (search rules))
