use Rattle.std.proofs.Common.{◌≡◌, inr, true, false}
use Rattle.pp_run.proofs.Breaking.{opened_breaks}
use Rattle.pp_run.proofs.Folders.{no_disk, opens_then, wants_memory}
use Rattle.pp_run.specs.Lives.{outside}
use Rattle.pp_run.proofs.serving.open_folder.Goals as goal

pub returns-in-Ok : goal.returns-in-Ok
returns-in-Ok g c = record {
  told = opens_then _ c.args.conf.now.root c.args.conf.now.port c.args.conf.now.max_turns c.listen.result _ _ _
      (rw c.as_slice.ensures at (c.in-Ok.ensures.opens)) c.in-Ok.ensures.faults (rw c.door_of.ensures.port at (c.listen.ensures.told));
  lived = λ served. record {
    shelf = _;
    left = _;
    first = _;
    last = _;
    opened = _;
    is_opened = c.requires.opened;
    opens = record {
      opens = rw c.as_slice.ensures at (c.in-Ok.ensures.opens);
      recovers = rw c.as_slice.ensures at (c.in-Ok.ensures.recovers);
      counted = c.in-Ok.ensures.counted;
      by = record { top = c.in-Ok.ensures.top; count = c.in-Ok.ensures.faults };
    };
    goes = rw c.door_of.ensures.port at (c.listen.ensures.turns served);
  };
  breaks = opened_breaks c.args.conf.now.root c.args.conf.now.port c.args.conf.now.max_turns _ _ _ _ c.listen.result _ _ _ _
      (record {
        opens = rw c.as_slice.ensures at (c.in-Ok.ensures.opens);
        recovers = rw c.as_slice.ensures at (c.in-Ok.ensures.recovers);
        counted = c.in-Ok.ensures.counted;
        by = record { top = c.in-Ok.ensures.top; count = c.in-Ok.ensures.faults };
      }) (rw c.door_of.ensures.port at (c.listen.ensures.told)) (rw c.door_of.ensures.port at (c.listen.ensures.shuts));
}

pub returns-in-Err-DiskFault : goal.returns-in-Err-DiskFault
returns-in-Err-DiskFault g c =
    let failed = c.in-Err-DiskFault in
    record {
      told = no_disk c.args.conf.now.root _ _ _
          (rw c.as_slice.ensures at (rw failed.field-0-is at (failed.ensures.opens))) (rw failed.field-0-is at (failed.ensures.cause))
          (rw c.as_bytes.ensures.value at (c.print.ensures.told)) c.print.ensures.faults;
      lived = λ served. let bad : false ≡ true = served in absurd (cc);
      breaks = (outside _ (g.W.Logged.top c.open.new.disk) _, record { recovers = rw c.as_slice.ensures at (rw failed.field-0-is at (failed.ensures.recovers)); counted = failed.ensures.counted }, record { told = rw c.as_bytes.ensures.value at (c.print.ensures.told); count = c.print.ensures.faults });
    }

pub returns-in-Err-OutOfMemory : goal.returns-in-Err-OutOfMemory
returns-in-Err-OutOfMemory g c =
    let refused = c.in-Err-OutOfMemory in
    record {
      told = wants_memory c.args.conf.now.root
          (rw c.as_slice.ensures at (rw refused.field-0-is at (refused.ensures.opens)))
          (rw c.as_bytes-in-Err-OutOfMemory.ensures.value at (c.print-in-Err-OutOfMemory.ensures.told));
      lived = λ served. let bad : false ≡ true = served in absurd (cc);
      breaks = inr (outside _ (g.W.Logged.top c.open.new.disk) _, record { recovers = rw c.as_slice.ensures at (rw refused.field-0-is at (refused.ensures.recovers)); counted = refused.ensures.counted }, record { told = rw c.as_bytes-in-Err-OutOfMemory.ensures.value at (c.print-in-Err-OutOfMemory.ensures.told); count = c.print-in-Err-OutOfMemory.ensures.faults });
    }
