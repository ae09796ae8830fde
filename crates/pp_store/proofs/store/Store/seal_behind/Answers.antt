use Rattle.std.proofs.Common.{◌+◌, ◌*◌, ◌/◌, length, sym, ◌∙◌, ap, subst}
use Rattle.std.specs.Prelude.{min}
use Rattle.std.proofs.lemmas.Result.{on_ok_weaker}
use Rattle.pp_world.specs.Log.{Told}
use Rattle.pp_world.specs.Disk.{Bytes}
use Rattle.pp_entry.specs.Texts.{chunks_of}
use Rattle.pp_gate.specs.Gate.{OthersSame}
use Rattle.pp_gate.specs.Runs.{EachMoment}
use Rattle.pp_gate.specs.Seal.{Keeps, IsRun, StaysHonest}
use Rattle.pp_store.specs.declared.row.Site.{Site}
use Rattle.pp_store.specs.Kept.{block_of, name_at, row_of}
use Rattle.pp_store.proofs.Names.{site-name}
use Rattle.pp_store.proofs.Sealing.{first-is, count-is, least-is, run-is, row_on_disk, moved, site-whole}
use Rattle.pp_store.proofs.store.Store.seal_behind.Goals as goal

pub seal-requires : goal.seal-requires
seal-requires g c κs within =
    let row = row_of c.args.key.now c.args.self.now in
    let is = c.site-site.ensures.site in
    let more = c.requires.1.1.1.0 in
    let whole = site-whole row c.site-site.result is c.site-site.ensures.whole in (
      within,
      (
        c.site-site.ensures.sized,
        (
          moved (λ name block n m. Told (g.D.Logged.log c.args.disk.now) (Keeps g.claim'.sent name block n m))
              (name_at row) c.site-site.result.name (block_of row.entry) g.claim'.block row.entry.version.length c.site-site.result.length (chunks_of row.extent) (c.site-site.result.extent / 4096)
              (sym (ap (λ (s : Site). s.name) is)) (sym c.requires.1.1.0) (sym (ap (λ (s : Site). s.length) is))
              (sym (ap (λ (s : Site). s.extent / 4096) is ∙ first-is row.entry.version.length row.extent (length c.args.bytes.now) whole more.whole more.some))
              (row_on_disk (g.D.Logged.log c.args.disk.now) g.claim'.sent c.args.self.now c.args.key.now c.requires.1.0 c.requires.1.1.1.1),
          moved (λ name block n m. IsRun g.claim'.sent block n m (chunks_of (length c.args.bytes.now)) c.args.bytes.now)
              (name_at row) c.site-site.result.name (block_of row.entry) g.claim'.block row.entry.version.length c.site-site.result.length (row.extent / 4096) (c.site-site.result.extent / 4096)
              (sym (ap (λ (s : Site). s.name) is)) (sym c.requires.1.1.0) (sym (ap (λ (s : Site). s.length) is)) (sym (ap (λ (s : Site). s.extent / 4096) is))
              (run-is g.claim'.sent row c.args.bytes.now whole more),
        ),
      ),
    )

pub returns-clause-done : goal.returns-clause-done
returns-clause-done g c =
    let row = row_of c.args.key.now c.args.self.now in
    let is = c.site-site.ensures.site in
    let more = c.requires.1.1.1.0 in
    on_ok_weaker c.seal.result
    (moved (λ name block n m. Told (g.D.Logged.log c.seal.new.disk) (Keeps g.claim'.sent name block n m))
    c.site-site.result.name (name_at row) g.claim'.block (block_of row.entry) c.site-site.result.length row.entry.version.length (c.site-site.result.extent / 4096 + chunks_of (length c.args.bytes.now)) (chunks_of (row.extent + length c.args.bytes.now))
    (ap (λ (s : Site). s.name) is) c.requires.1.1.0 (ap (λ (s : Site). s.length) is)
    (ap (λ (s : Site). s.extent / 4096 + chunks_of (length c.args.bytes.now)) is ∙ count-is row.entry.version.length row.extent (length c.args.bytes.now) (site-whole row c.site-site.result is c.site-site.ensures.whole) more.whole more.some))
    c.seal.ensures.done

pub returns-clause-any_moment : goal.returns-clause-any_moment
returns-clause-any_moment g c =
    let row = row_of c.args.key.now c.args.self.now in
    let is = c.site-site.ensures.site in
    let more = c.requires.1.1.1.0 in
    moved (λ name block n m. EachMoment (g.D.Logged.log c.args.disk.now) (g.D.Logged.log c.seal.new.disk) (StaysHonest g.claim'.sent name block n m))
    c.site-site.result.name _ g.claim'.block (block_of row.entry) c.site-site.result.length row.entry.version.length (min c.site-site.result.length (4096 * (c.site-site.result.extent / 4096))) row.extent
    (site-name c.args.key.now c.args.self.now c.site-site.result c.requires.1.0 is) c.requires.1.1.0 (ap (λ (s : Site). s.length) is)
    (ap (λ (s : Site). min s.length (4096 * (s.extent / 4096))) is ∙ least-is row.entry.version.length row.extent (length c.args.bytes.now) (site-whole row c.site-site.result is c.site-site.ensures.whole) more.whole more.some)
    c.seal.ensures.any_moment

pub returns-clause-others : goal.returns-clause-others
returns-clause-others g c =
    subst (λ (n : Bytes). EachMoment (g.D.Logged.log c.args.disk.now) (g.D.Logged.log c.seal.new.disk) (OthersSame n))
    (site-name c.args.key.now c.args.self.now c.site-site.result c.requires.1.0 c.site-site.ensures.site) c.seal.ensures.others
