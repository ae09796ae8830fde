use Rattle.std.proofs.Common.{sym, subst, Option}
use Rattle.pp_entry.specs.Entries.{Row, PlacedIfSome}
use Rattle.pp_entry.proofs.SpellingLemmas.{row_at-is}
use Rattle.pp_entry.proofs.read.locate.Goals as goal

pub returns-in-Whole-clause-placed : goal.returns-in-Whole-clause-placed
returns-in-Whole-clause-placed c =
    let P : Option Row → Type 0 = λ row. PlacedIfSome row c.args.block.now c.locate_in.new.spans c.locate_in.result in
    subst P (sym (row_at-is c.args.block.now _ c.in-Whole.ensures.value)) c.locate_in.ensures.placed

pub returns-in-TooLong-clause-placed : goal.returns-in-TooLong-clause-placed
returns-in-TooLong-clause-placed c = row_at-is c.args.block.now _ c.in-TooLong.ensures.value

pub returns-in-Bad-clause-placed : goal.returns-in-Bad-clause-placed
returns-in-Bad-clause-placed c = row_at-is c.args.block.now _ c.in-Bad.ensures.value

pub returns-in-More-clause-placed : goal.returns-in-More-clause-placed
returns-in-More-clause-placed c = row_at-is c.args.block.now _ c.in-More.ensures.value
