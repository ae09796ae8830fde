use Rattle.std.proofs.Common.{◌≡◌, ◌∙◌, ℕ, Option, ap, length, position, reverse, rules, tests, unwrap_or}
use Rattle.std.proofs.lemmas.Iterator.Adapters.{YieldsList-from_rev_slice}
use Rattle.std.proofs.lemmas.Iterator.Search.{position_from_yields_List}
use Rattle.pp_demo.specs.Summary.{is_woke}
use Rattle.pp_demo.proofs.crashing.past_woke.Goals as goal

pub returns-clause-past : goal.returns-clause-past
returns-clause-past c =
    let log = c.args.log.now in
    let found : c.position.result ≡ position is_woke (reverse log)
    = position_from_yields_List is_woke _ _ c.position.result c.position.ensures.ran (YieldsList-from_rev_slice log cc) (λ x b q k. search (rules, tests)) in
    c.unwrap_or.ensures ∙ ap (λ (o : Option ℕ). unwrap_or o (length log)) found
