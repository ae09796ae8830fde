use Rattle.std.proofs.Common.{refl, inr}
use Rattle.pp_target.proofs.UriGrammar.{has_uri_grammar, parsed_is, unparsed_is}
use Rattle.pp_target.proofs.absolute.parse.Goals as goal

pub returns-in-Ok-clause-ok : goal.returns-in-Ok-clause-ok
returns-in-Ok-clause-ok c = parsed_is c.args.target.now c.in-Ok.uri c.in-Ok.ensures.ok

pub returns-in-Ok-clause-grammar : goal.returns-in-Ok-clause-grammar
returns-in-Ok-clause-grammar c = has_uri_grammar c.args.target.now

pub returns-in-Err-OutOfMemory-clause-grammar : goal.returns-in-Err-OutOfMemory-clause-grammar
returns-in-Err-OutOfMemory-clause-grammar c = has_uri_grammar c.args.target.now

pub returns-in-Err-Invalid-clause-err : goal.returns-in-Err-Invalid-clause-err
returns-in-Err-Invalid-clause-err c =
    inr (refl, unparsed_is c.args.target.now ((rw c.in-Err-Invalid.field-0-is at c.in-Err-Invalid.ensures.err) (λ e. cc)))

pub returns-in-Err-Invalid-clause-grammar : goal.returns-in-Err-Invalid-clause-grammar
returns-in-Err-Invalid-clause-grammar c = has_uri_grammar c.args.target.now
