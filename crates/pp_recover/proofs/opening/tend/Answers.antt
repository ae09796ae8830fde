use Rattle.std.specs.Prelude.{Ok, Err}
use Rattle.pp_entry.specs.Entries.{shown_entry}
use Rattle.pp_entry.proofs.ReadRows.{read-again}
use Rattle.pp_recover.specs.Shown.{shown_found}
use Rattle.pp_recover.proofs.CountLemmas.{counts_examined}
use Rattle.pp_recover.proofs.RowLemmas.{spelt}
use Rattle.pp_recover.proofs.NameLemmas.{free_found, free_closed}
use Rattle.pp_recover.proofs.opening.tend.Goals as goal

pub found-requires-clause-sized : goal.found-requires-clause-sized
found-requires-clause-sized g c =
    let row = rw c.in-Ok-Some.field-0-is at c.in-Ok-Some.ensures.row in
    (spelt row.0.block (shown_entry c.in-Ok-Some.found.entry) row.0.is).sized

pub found-requires-clause-reads : goal.found-requires-clause-reads
found-requires-clause-reads g c =
    let row = rw c.in-Ok-Some.field-0-is at c.in-Ok-Some.ensures.row in
    read-again row.0.block (shown_entry c.in-Ok-Some.found.entry) row.0.is

pub returns-in-Ok-Some-clause-others : goal.returns-in-Ok-Some-clause-others
returns-in-Ok-Some-clause-others g c = λ other differ free.
    let row = rw c.in-Ok-Some.field-0-is at c.in-Ok-Some.ensures.row in
    free_found c.args.name.now other (shown_entry c.in-Ok-Some.found.entry) c.in-Ok-Some.found.extent c.args.store.now c.found.new.self c.found.result row.0.own differ c.found.ensures.ok c.found.ensures.err free

pub returns-in-Err-clause-others : goal.returns-in-Err-clause-others
returns-in-Err-clause-others g c = λ other differ free.
    free_closed c.args.name.now other c.args.store.now c.close.new.self c.close.result c.requires.free differ c.close.ensures.ok c.close.ensures.err free

pub returns-in-Ok-Some-clause-counted : goal.returns-in-Ok-Some-clause-counted
returns-in-Ok-Some-clause-counted g c =
    counts_examined shown_found _ _ c.args.name.now _ _ (Ok c.in-Ok-Some.field-0) c.requires.stands c.in-Ok-Some.ensures.entry c.in-Ok-Some.ensures.cause c.in-Ok-Some.ensures.faults

pub returns-in-Err-clause-counted : goal.returns-in-Err-clause-counted
returns-in-Err-clause-counted g c =
    counts_examined shown_found _ _ c.args.name.now _ _ (Err c.in-Err.field-0) c.requires.stands c.in-Err.ensures.entry c.in-Err.ensures.cause c.in-Err.ensures.faults
