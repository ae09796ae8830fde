use Rattle.std.proofs.Common.{[], ◌∷◌, None, true, false, refl, sym, subst}
use Rattle.pp_world.specs.declared.op.DiskOp.TheVariants.{Remove}
use Rattle.pp_world.specs.Log.{Told}
use Rattle.pp_world.specs.Disk.{Bytes}
use Rattle.pp_gate.specs.Gate.{OldOr, OthersSame}
use Rattle.pp_gate.specs.Runs.{EachMoment, RunsOps}
use Rattle.pp_store.specs.Kept.{KeptMap}
use Rattle.pp_store.specs.Held.{Holds, Covers}
use Rattle.pp_store.proofs.Names.{site-name}
use Rattle.pp_store.proofs.Calls.{withdrawn_holds, withdrawn_covers, lost_holds, lost_covers}
use Rattle.pp_store.proofs.Backing.{removed_backed}
use Rattle.pp_store.proofs.store.Store.withdraw.Goals as goal

pub returns-in-Ok-clause-ops : goal.returns-in-Ok-clause-ops
returns-in-Ok-clause-ops g c =
    subst (λ (n : Bytes). RunsOps (g.D.Logged.log c.args.disk.now) (g.D.Logged.log c.remove.new.disk) (Remove n ∷ []) true)
    (site-name c.args.key.now c.args.self.now c.site-site.result c.requires.1.0 c.site-site.ensures.site) c.in-Ok.ensures.ops

pub returns-in-Ok-clause-old_or_none : goal.returns-in-Ok-clause-old_or_none
returns-in-Ok-clause-old_or_none g c =
    subst (λ (n : Bytes). EachMoment (g.D.Logged.log c.args.disk.now) (g.D.Logged.log c.remove.new.disk) (OldOr n None))
    (site-name c.args.key.now c.args.self.now c.site-site.result c.requires.1.0 c.site-site.ensures.site) c.in-Ok.ensures.old_or_none

pub returns-in-Ok-clause-others : goal.returns-in-Ok-clause-others
returns-in-Ok-clause-others g c =
    subst (λ (n : Bytes). EachMoment (g.D.Logged.log c.args.disk.now) (g.D.Logged.log c.remove.new.disk) (OthersSame n))
    (site-name c.args.key.now c.args.self.now c.site-site.result c.requires.1.0 c.site-site.ensures.site) c.in-Ok.ensures.others

pub returns-in-Ok-clause-holds : goal.returns-in-Ok-clause-holds
returns-in-Ok-clause-holds g c =
    subst (λ (w : KeptMap). Told (g.D.Logged.log c.remove.new.disk) (Holds g.sent w)) (sym c.forget.ensures)
    (withdrawn_holds _ _ g.sent c.args.self.now c.args.key.now c.site-site.ensures.names c.requires.1.0 (returns-in-Ok-clause-ops g c) (returns-in-Ok-clause-others g c) c.requires.1.1)

pub returns-in-Ok-clause-covers : goal.returns-in-Ok-clause-covers
returns-in-Ok-clause-covers g c told =
    subst (λ (w : KeptMap). Told (g.D.Logged.log c.remove.new.disk) (Covers w)) (sym c.forget.ensures)
    (withdrawn_covers _ _ g.sent c.args.self.now c.args.key.now c.site-site.ensures.names c.requires.1.0 (returns-in-Ok-clause-ops g c) (returns-in-Ok-clause-others g c) told)

pub returns-in-Err-clause-ops : goal.returns-in-Err-clause-ops
returns-in-Err-clause-ops g c =
    subst (λ (n : Bytes). RunsOps (g.D.Logged.log c.args.disk.now) (g.D.Logged.log c.remove.new.disk) (Remove n ∷ []) false)
    (site-name c.args.key.now c.args.self.now c.site-site.result c.requires.1.0 c.site-site.ensures.site) c.in-Err.ensures.ops

pub returns-in-Err-clause-old_or_none : goal.returns-in-Err-clause-old_or_none
returns-in-Err-clause-old_or_none g c =
    subst (λ (n : Bytes). EachMoment (g.D.Logged.log c.args.disk.now) (g.D.Logged.log c.remove.new.disk) (OldOr n None))
    (site-name c.args.key.now c.args.self.now c.site-site.result c.requires.1.0 c.site-site.ensures.site) c.in-Err.ensures.old_or_none

pub returns-in-Err-clause-others : goal.returns-in-Err-clause-others
returns-in-Err-clause-others g c =
    subst (λ (n : Bytes). EachMoment (g.D.Logged.log c.args.disk.now) (g.D.Logged.log c.remove.new.disk) (OthersSame n))
    (site-name c.args.key.now c.args.self.now c.site-site.result c.requires.1.0 c.site-site.ensures.site) c.in-Err.ensures.others

pub returns-in-Err-clause-holds : goal.returns-in-Err-clause-holds
returns-in-Err-clause-holds g c =
    subst (λ (w : KeptMap). Told (g.D.Logged.log c.remove.new.disk) (Holds g.sent w)) (sym c.lose.ensures)
    (lost_holds _ _ _ g.sent c.args.self.now c.args.key.now c.site-site.ensures.names c.requires.1.0 (refl, tt) (returns-in-Err-clause-others g c) false (returns-in-Err-clause-ops g c) c.requires.1.1)

pub returns-in-Err-clause-covers : goal.returns-in-Err-clause-covers
returns-in-Err-clause-covers g c told =
    subst (λ (w : KeptMap). Told (g.D.Logged.log c.remove.new.disk) (Covers w)) (sym c.lose.ensures)
    (lost_covers _ _ _ g.sent c.args.self.now c.args.key.now c.site-site.ensures.names c.requires.1.0 (refl, tt) (returns-in-Err-clause-others g c) false (returns-in-Err-clause-ops g c) told)

pub returns-in-Ok-clause-backed : goal.returns-in-Ok-clause-backed
returns-in-Ok-clause-backed g c = removed_backed _ _ g.sent _ c.in-Ok.ensures.old_or_none c.in-Ok.ensures.others

pub returns-in-Err-clause-backed : goal.returns-in-Err-clause-backed
returns-in-Err-clause-backed g c = removed_backed _ _ g.sent _ c.in-Err.ensures.old_or_none c.in-Err.ensures.others
