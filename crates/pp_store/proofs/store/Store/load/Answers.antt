use Rattle.std.proofs.Common.{Ok, Err, sym, ◌∙◌, ap, subst}
use Rattle.pp_world.specs.Log.{AppendsAll, Told}
use Rattle.pp_world.specs.Disk.{Bytes}
use Rattle.pp_store.specs.declared.row.Site.{Site}
use Rattle.pp_store.specs.Kept.{KeptMap, row_of}
use Rattle.pp_store.specs.Held.{Holds, Covers}
use Rattle.pp_store.specs.Loads.{chunk_len, load_happenings, ReadCause}
use Rattle.pp_store.proofs.Names.{site-name}
use Rattle.pp_store.proofs.Sealing.{site-whole}
use Rattle.pp_store.proofs.ChunkLemmas.{read-as, gives_chunk, gives_sent, failed_holds, failed_covers, load_cause}
use Rattle.pp_store.proofs.Backing.{loaded_backed}
use Rattle.pp_store.proofs.store.Store.load.Goals as goal

pub returns-in-Ok-clause-bytes : goal.returns-in-Ok-clause-bytes
returns-in-Ok-clause-bytes g c =
    gives_chunk (g.D.Logged.log c.args.disk.now) g.sent c.args.self.now c.args.key.now c.args.index c.in-Ok.count c.read_chunk.new.out c.site-site.ensures.names c.requires.1.0 c.requires.1.1.1
    (c.in-Ok.ensures.cause ∙ ap (λ (s : Site). chunk_len s.length c.args.index) c.site-site.ensures.site)
    (read-as (g.D.Logged.log c.args.disk.now) (row_of c.args.key.now c.args.self.now) c.site-site.result c.args.index c.read_chunk.new.out (Ok c.in-Ok.count) c.site-site.ensures.site c.in-Ok.ensures.bytes)

pub returns-in-Ok-clause-sent : goal.returns-in-Ok-clause-sent
returns-in-Ok-clause-sent g c =
    gives_sent (g.D.Logged.log c.args.disk.now) g.sent c.args.self.now c.args.key.now c.args.index c.in-Ok.count c.read_chunk.new.out c.requires.1.0 c.requires.1.1.1
    (site-whole (row_of c.args.key.now c.args.self.now) c.site-site.result c.site-site.ensures.site c.site-site.ensures.whole) c.requires.1.1.0
    (c.in-Ok.ensures.cause ∙ ap (λ (s : Site). chunk_len s.length c.args.index) c.site-site.ensures.site)
    (returns-in-Ok-clause-bytes g c)

pub returns-in-Err-clause-told : goal.returns-in-Err-clause-told
returns-in-Err-clause-told g c =
    subst (λ (n : Bytes). AppendsAll (g.D.Logged.log c.args.disk.now) (g.D.Logged.log c.read_chunk.new.disk) (λ l. load_happenings n (Err c.in-Err.fault)))
    (site-name c.args.key.now c.args.self.now c.site-site.result c.requires.1.0 c.site-site.ensures.site) c.in-Err.ensures.told

pub returns-in-Err-clause-holds : goal.returns-in-Err-clause-holds
returns-in-Err-clause-holds g c =
    subst (λ (w : KeptMap). Told (g.D.Logged.log c.read_chunk.new.disk) (Holds g.sent w)) (sym c.lose.ensures)
    (failed_holds _ _ g.sent c.args.self.now c.args.key.now c.site-site.ensures.names c.requires.1.0 c.in-Err.fault (returns-in-Err-clause-told g c) c.requires.1.1.1)

pub returns-in-Err-clause-covers : goal.returns-in-Err-clause-covers
returns-in-Err-clause-covers g c told =
    subst (λ (w : KeptMap). Told (g.D.Logged.log c.read_chunk.new.disk) (Covers w)) (sym c.lose.ensures)
    (failed_covers _ _ g.sent c.args.self.now c.args.key.now c.site-site.ensures.names c.requires.1.0 c.in-Err.fault (returns-in-Err-clause-told g c) told)

pub returns-in-Err-clause-cause : goal.returns-in-Err-clause-cause
returns-in-Err-clause-cause g c =
    load_cause (g.D.Logged.log c.args.disk.now) (g.D.Logged.log c.read_chunk.new.disk) g.sent c.args.self.now c.args.key.now c.args.index _ _ c.read_chunk.new.out c.in-Err.fault
    c.site-site.ensures.names c.requires.1.0 c.requires.1.1.1
    (site-whole (row_of c.args.key.now c.args.self.now) c.site-site.result c.site-site.ensures.site c.site-site.ensures.whole) c.requires.1.1.0
    (returns-in-Err-clause-told g c)
    (read-as (g.D.Logged.log c.args.disk.now) (row_of c.args.key.now c.args.self.now) c.site-site.result c.args.index c.read_chunk.new.out (Err c.in-Err.fault) c.site-site.ensures.site c.in-Err.ensures.bytes)
    (subst (λ (s : Site). ReadCause (g.D.Logged.log c.read_chunk.new.disk) (g.D.Logged.faults c.args.disk.now) (g.D.Logged.faults c.read_chunk.new.disk) (chunk_len s.length c.args.index) (Err c.in-Err.fault)) c.site-site.ensures.site c.in-Err.ensures.cause)

pub returns-in-Ok-clause-backed : goal.returns-in-Ok-clause-backed
returns-in-Ok-clause-backed g c = loaded_backed (g.D.Logged.log c.args.disk.now) (g.D.Logged.log c.read_chunk.new.disk) g.sent c.site-site.result.name (Ok c.in-Ok.count) c.in-Ok.ensures.told

pub returns-in-Err-clause-backed : goal.returns-in-Err-clause-backed
returns-in-Err-clause-backed g c = loaded_backed (g.D.Logged.log c.args.disk.now) (g.D.Logged.log c.read_chunk.new.disk) g.sent c.site-site.result.name (Err c.in-Err.fault) c.in-Err.ensures.told
