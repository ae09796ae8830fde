use Rattle.std.proofs.Common.{◌≡◌, inl, true, false}
use Rattle.pp_run.proofs.Folders.{wants_memory_first}
use Rattle.pp_run.proofs.serving.open.Goals as goal

pub returns-in-Err : goal.returns-in-Err
returns-in-Err g c = record { told = wants_memory_first _ (rw c.as_bytes.ensures.value at (c.print.ensures.told)); lived = λ served. let bad : false ≡ true = served in absurd (cc); breaks = inl (rw c.as_bytes.ensures.value at (c.print.ensures.told)) }
