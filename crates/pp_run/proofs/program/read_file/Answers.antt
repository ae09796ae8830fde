use Rattle.std.proofs.Common.{ap, is_some, sym, map, string_bytes, inl, rules}
use Rattle.pp_world.proofs.CallLemmas.{appends_then}
use Rattle.pp_run.proofs.Breaking.{asked_breaks}
use Rattle.pp_run.proofs.Folders.{fresh_later}
use Rattle.pp_run.proofs.Living.{asked_named}
use Rattle.pp_run.proofs.Starting.{ends_later, unread}
use Rattle.pp_run.proofs.program.read_file.Goals as goal

pub start-requires : goal.start-requires
start-requires g c = fresh_later c.args.name.now _ c.in-Ok.ensures.told c.requires.fresh

pub returns-in-Ok : goal.returns-in-Ok
returns-in-Ok g c =
    let words = map string_bytes c.args.words.now in
    let asks = asked_named words c.args.name.now _ c.requires.named c.in-Ok.ensures.told in
    record {
      judges = c.start.ensures.words;
      ends = ends_later _ words c.args.name.now _ c.start.result _ _ _ c.requires.reads c.requires.named c.in-Ok.ensures.told c.in-Ok.ensures.faults c.start.ensures.words (rw c.as_slice.ensures at (c.start.ensures.told));
      served = λ served. record {
        text = _;
        named = sym (ap is_some c.requires.named);
        asked = _;
        asks = asks;
        by = record { top = c.in-Ok.ensures.top; count = c.in-Ok.ensures.faults };
        read = rw c.as_slice.ensures at (c.start.ensures.read served);
      };
      breaks = asked_breaks words _ c.start.result _ _ _ c.requires.reads (sym (ap is_some c.requires.named)) asks c.in-Ok.ensures.faults (rw c.as_slice.ensures at (c.start.ensures.breaks));
    }

pub returns-in-Err-Unreadable : goal.returns-in-Err-Unreadable
returns-in-Err-Unreadable g c =
    let unreadable = c.in-Err-Unreadable in
    record {
      judges = search rules;
      ends = inl (unread (map string_bytes c.args.words.now) c.args.name.now _ _ _ c.requires.named
          (rw unreadable.field-0-is at (unreadable.ensures.told)) (rw unreadable.field-0-is at (unreadable.ensures.cause))
          (rw c.as_bytes.ensures.value at (c.print.ensures.told)) c.print.ensures.faults);
      served = search rules;
      breaks = tt;
    }

pub returns-in-Err-OutOfMemory : goal.returns-in-Err-OutOfMemory
returns-in-Err-OutOfMemory g c =
    let refused = c.in-Err-OutOfMemory in
    let printed = appends_then _ _ (rw refused.field-0-is at (refused.ensures.told)) (rw c.as_bytes-in-Err-OutOfMemory.ensures.value at (c.print-in-Err-OutOfMemory.ensures.told)) in
    record { judges = tt; ends = inl printed; served = search rules; breaks = inl printed }
