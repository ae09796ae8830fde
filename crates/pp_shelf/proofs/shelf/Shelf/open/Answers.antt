use Rattle.std.proofs.Common.{Ok, Err}
use Rattle.pp_shelf.proofs.OpeningLemmas.{counts_behind, fresh_behind, holds_behind, opens_as, recovers_behind}
use Rattle.pp_shelf.proofs.shelf.Shelf.open.Goals as goal

pub open-requires : goal.open-requires
open-requires g c = record { fresh = fresh_behind c.args.folder.now c.requires.1.0 c.root.ensures.told }

pub returns-in-Ok-clause-opens : goal.returns-in-Ok-clause-opens
returns-in-Ok-clause-opens g c = opens_as c.args.folder.now (Ok c.in-Ok.store) c.requires.1.0 c.root.ensures.told c.in-Ok.ensures.opens

pub returns-in-Ok-clause-holds : goal.returns-in-Ok-clause-holds
returns-in-Ok-clause-holds g c = rw c.new.ensures (holds_behind c.args.folder.now g.sent _ c.requires.1.0 c.requires.1.1 c.root.ensures.told c.in-Ok.ensures.holds)

pub returns-in-Err-clause-opens : goal.returns-in-Err-clause-opens
returns-in-Err-clause-opens g c = opens_as c.args.folder.now (Err c.in-Err.fault) c.requires.1.0 c.root.ensures.told c.in-Err.ensures.opens

pub returns-in-Ok-clause-recovers : goal.returns-in-Ok-clause-recovers
returns-in-Ok-clause-recovers g c = rw c.new.ensures (recovers_behind c.args.folder.now (Ok c.in-Ok.store) c.root.ensures.told c.in-Ok.ensures.opens)

pub returns-in-Err-clause-recovers : goal.returns-in-Err-clause-recovers
returns-in-Err-clause-recovers g c = recovers_behind c.args.folder.now (Err c.in-Err.fault) c.root.ensures.told c.in-Err.ensures.opens

pub returns-in-Ok-clause-counted : goal.returns-in-Ok-clause-counted
returns-in-Ok-clause-counted g c = counts_behind c.args.folder.now _ _ _ c.root.ensures.told c.root.ensures.faults c.in-Ok.ensures.counted

pub returns-in-Err-clause-counted : goal.returns-in-Err-clause-counted
returns-in-Err-clause-counted g c = counts_behind c.args.folder.now _ _ _ c.root.ensures.told c.root.ensures.faults c.in-Err.ensures.counted
