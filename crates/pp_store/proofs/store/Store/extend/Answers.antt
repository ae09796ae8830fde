use Rattle.std.proofs.Common.{ℕ, false, sym, subst}
use Rattle.pp_world.specs.Log.{Told}
use Rattle.pp_store.specs.Answers.{extend_ops}
use Rattle.pp_store.specs.Kept.{KeptMap, IsExtent, row_of}
use Rattle.pp_store.specs.Changes.{extended_to}
use Rattle.pp_store.specs.Held.{Holds, Covers, IsOnDisk}
use Rattle.pp_store.proofs.Names.{row-name}
use Rattle.pp_store.proofs.Calls.{extended_holds, extended_covers, lost_holds, lost_covers}
use Rattle.pp_store.proofs.Backing.{sealed_backed}
use Rattle.pp_store.proofs.Sealing.{row_reads}
use Rattle.pp_store.proofs.store.Store.extend.Goals as goal

pub extend_to-requires-clause-whole : goal.extend_to-requires-clause-whole
extend_to-requires-clause-whole g c =
    subst (λ (e : ℕ). IsExtent (row_of c.args.key.now c.args.self.now).entry.version.length e) (sym c.in-Ok.ensures.extent) c.requires.1.1.0.whole

pub returns-in-Ok-clause-holds : goal.returns-in-Ok-clause-holds
returns-in-Ok-clause-holds g c =
    let on = row-name c.args.key.now c.args.self.now c.requires.1.0 in
    subst (λ (w : KeptMap). Told (g.D.Logged.log c.seal_behind.new.disk) (Holds g.sent w)) (sym c.extend_to.ensures)
    (extended_holds _ _ (extend_ops (row_of c.args.key.now c.args.self.now) c.args.bytes.now) g.sent c.args.self.now c.args.key.now c.seal_behind.ensures.names c.requires.1.0 (on, (on, (on, (on, tt)))) c.in-Ok.ensures.others c.in-Ok.extent c.in-Ok.ensures.ops c.requires.1.1.1
    (subst (λ (e : ℕ). Told (g.D.Logged.log c.seal_behind.new.disk) (IsOnDisk g.sent (extended_to e (row_of c.args.key.now c.args.self.now)))) (sym c.in-Ok.ensures.extent) c.in-Ok.ensures.done))

pub returns-in-Ok-clause-covers : goal.returns-in-Ok-clause-covers
returns-in-Ok-clause-covers g c told =
    let on = row-name c.args.key.now c.args.self.now c.requires.1.0 in
    subst (λ (w : KeptMap). Told (g.D.Logged.log c.seal_behind.new.disk) (Covers w)) (sym c.extend_to.ensures)
    (extended_covers _ _ (extend_ops (row_of c.args.key.now c.args.self.now) c.args.bytes.now) g.sent c.args.self.now c.args.key.now c.seal_behind.ensures.names c.requires.1.0 (on, (on, (on, (on, tt)))) c.in-Ok.ensures.others c.in-Ok.extent c.in-Ok.ensures.ops told)

pub returns-in-Err-clause-holds : goal.returns-in-Err-clause-holds
returns-in-Err-clause-holds g c =
    let on = row-name c.args.key.now c.args.self.now c.requires.1.0 in
    subst (λ (w : KeptMap). Told (g.D.Logged.log c.seal_behind.new.disk) (Holds g.sent w)) (sym c.lose.ensures)
    (lost_holds _ _ (extend_ops (row_of c.args.key.now c.args.self.now) c.args.bytes.now) g.sent c.args.self.now c.args.key.now c.seal_behind.ensures.names c.requires.1.0 (on, (on, (on, (on, tt)))) c.in-Err.ensures.others false c.in-Err.ensures.ops c.requires.1.1.1)

pub returns-in-Err-clause-covers : goal.returns-in-Err-clause-covers
returns-in-Err-clause-covers g c told =
    let on = row-name c.args.key.now c.args.self.now c.requires.1.0 in
    subst (λ (w : KeptMap). Told (g.D.Logged.log c.seal_behind.new.disk) (Covers w)) (sym c.lose.ensures)
    (lost_covers _ _ (extend_ops (row_of c.args.key.now c.args.self.now) c.args.bytes.now) g.sent c.args.self.now c.args.key.now c.seal_behind.ensures.names c.requires.1.0 (on, (on, (on, (on, tt)))) c.in-Err.ensures.others false c.in-Err.ensures.ops told)

pub returns-in-Ok-clause-backed : goal.returns-in-Ok-clause-backed
returns-in-Ok-clause-backed g c =
    sealed_backed _ _ g.sent (row_of c.args.key.now c.args.self.now).entry _ _ (row_reads _ g.sent c.args.self.now c.args.key.now c.requires.1.0 c.requires.1.1.1) c.in-Ok.ensures.any_moment c.in-Ok.ensures.others

pub returns-in-Err-clause-backed : goal.returns-in-Err-clause-backed
returns-in-Err-clause-backed g c =
    sealed_backed _ _ g.sent (row_of c.args.key.now c.args.self.now).entry _ _ (row_reads _ g.sent c.args.self.now c.args.key.now c.requires.1.0 c.requires.1.1.1) c.in-Err.ensures.any_moment c.in-Err.ensures.others
