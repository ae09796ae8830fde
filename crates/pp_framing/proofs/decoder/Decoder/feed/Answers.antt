-- Framing, and a run of data behind it.
use Rattle.pp_framing.proofs.DecoderLemmas.{reads_both}
use Rattle.pp_framing.proofs.decoder.Decoder.feed.Goals as goal

pub returns-clause-reads : goal.returns-clause-reads
returns-clause-reads c =
    rw (← c.self.view_is) (reads_both c.self.inside.place c.framing-head.result.place c.data_run-run.result.place c.args.bytes.now c.framing-head.result.used c.data_run-run.result.used
    c.framing-head.ensures.within c.data_run-run.ensures.within c.framing-head.ensures.reads c.data_run-run.ensures.reads)
