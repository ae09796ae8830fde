-- The run of data, whole or in part.
use Rattle.std.proofs.Common.{arith}
use Rattle.pp_framing.proofs.DecoderLemmas.{read_from-Chunk, read_from-Chunk-part, read_from-Counted, read_from-Counted-part, read_from-Unbounded}
use Rattle.pp_framing.proofs.decoder.data_run.Goals as goal

pub returns-then-run-left-clause-reads : goal.returns-then-run-left-clause-reads
returns-then-run-left-clause-reads c run more e = rw c.in-Chunk.is (read_from-Chunk c.in-Chunk.left run more (omega arith) (rw c.in-Chunk.is at c.requires))

pub returns-else-run-left-clause-reads : goal.returns-else-run-left-clause-reads
returns-else-run-left-clause-reads c run more e =
    rw (c.in-Chunk.is, ← e) (read_from-Chunk-part c.in-Chunk.left run more (omega arith))

pub returns-then-run-left-2-clause-reads : goal.returns-then-run-left-2-clause-reads
returns-then-run-left-2-clause-reads c run more e = rw c.in-Counted.is (read_from-Counted c.in-Counted.left run more (omega arith) (rw c.in-Counted.is at c.requires))

pub returns-else-run-left-2-clause-reads : goal.returns-else-run-left-2-clause-reads
returns-else-run-left-2-clause-reads c run more e =
    rw (c.in-Counted.is, ← e) (read_from-Counted-part c.in-Counted.left run more (omega arith))

pub returns-in-Unbounded-clause-reads : goal.returns-in-Unbounded-clause-reads
returns-in-Unbounded-clause-reads c run more e = rw c.in-Unbounded.is (read_from-Unbounded run more)
