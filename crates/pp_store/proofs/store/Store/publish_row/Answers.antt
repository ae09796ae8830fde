use Rattle.std.proofs.Common.{◌≡◌, [], ◌∷◌, ◌++◌, length, false, arith, refl, sym, ◌∙◌, ap, subst}
use Rattle.pp_world.specs.Log.{Told}
use Rattle.pp_world.specs.Disk.{Bytes}
use Rattle.std.specs.Prelude.{Err, Result}
use Rattle.pp_gate.specs.Gate.{OthersSame, RunsPublish, publish_ops}
use Rattle.pp_gate.specs.declared.publishing.PublishFault.{PublishFault}
use Rattle.pp_gate.proofs.PublishLemmas.{failed_runs}
use Rattle.pp_gate.specs.Runs.{EachMoment}
use Rattle.pp_store.specs.declared.row.Site.{Site}
use Rattle.pp_store.specs.Kept.{KeptMap, name_at}
use Rattle.pp_store.specs.Held.{Holds, Covers}
use Rattle.pp_store.proofs.Sound.{room-left, sound-same, sound-with_row, sound-with_closed, view-same, view-with_row, view-with_closed}
use Rattle.pp_store.proofs.TableLemmas.{popped_is}
use Rattle.pp_store.proofs.Backing.{quiet_backed}
use Rattle.pp_store.proofs.Quiet.{quiet_honest, quiet_old, quiet_others}
use Rattle.pp_store.proofs.KeepLemmas.{drafted_covers, drafted_holds, kept_backed, kept_there}
use Rattle.pp_store.proofs.Calls.{kept_holds, kept_covers, closed_holds, closed_covers}
use Rattle.pp_store.proofs.store.Store.publish_row.Goals as goal

abbrev bad : PublishFault → Result (Unit {0}) PublishFault
bad f = Err f

pub returns-in_err-push-clause-old_or_new : goal.returns-in_err-push-clause-old_or_new
returns-in_err-push-clause-old_or_new g c = quiet_old _ (name_at c.args.row) _

pub returns-in_err-push-clause-any_moment : goal.returns-in_err-push-clause-any_moment
returns-in_err-push-clause-any_moment g c = quiet_honest _ g.sent (name_at c.args.row) _ _ _

pub returns-in_err-push-clause-others : goal.returns-in_err-push-clause-others
returns-in_err-push-clause-others g c = quiet_others _ (name_at c.args.row)

pub returns-in_err-push-clause-backed : goal.returns-in_err-push-clause-backed
returns-in_err-push-clause-backed g c = quiet_backed _ g.sent

pub returns-in-Ok-clause-backed : goal.returns-in-Ok-clause-backed
returns-in-Ok-clause-backed g c = kept_backed _ _ g.sent c.args.row c.site-site.result c.args.block.now _ c.site-site.ensures.site c.requires.1.0 c.requires.1.1.0 c.in-Ok.ensures.any_moment c.in-Ok.ensures.others

pub returns-in-Err-NoDraft-clause-backed : goal.returns-in-Err-NoDraft-clause-backed
returns-in-Err-NoDraft-clause-backed g c = kept_backed _ _ g.sent c.args.row c.site-site.result c.args.block.now _ c.site-site.ensures.site c.requires.1.0 c.requires.1.1.0 c.in-Err-NoDraft.ensures.any_moment c.in-Err-NoDraft.ensures.others

pub returns-in-Err-DiskFault-clause-backed : goal.returns-in-Err-DiskFault-clause-backed
returns-in-Err-DiskFault-clause-backed g c = kept_backed _ _ g.sent c.args.row c.site-site.result c.args.block.now _ c.site-site.ensures.site c.requires.1.0 c.requires.1.1.0 c.in-Err-DiskFault.ensures.any_moment c.in-Err-DiskFault.ensures.others

pub invariant_of-self-in-Err-NoDraft : goal.invariant_of-self-in-Err-NoDraft
invariant_of-self-in-Err-NoDraft g c = sound-same c.self.inside _ c.self.invariant (popped_is c.self.inside.rows c.push.new.self c.pop.new.self c.args.row c.in_ok-push.ensures.ok c.pop.ensures) refl

pub invariant_of-self-in-Ok : goal.invariant_of-self-in-Ok
invariant_of-self-in-Ok g c =
    sound-with_row c.self.inside _ c.args.self.now c.args.row c.self.invariant c.self.view_is c.requires.1.1.1.1.1.1.0 c.requires.1.1.1.1.1.1.1.0
    c.in_ok-push.ensures.ok refl
    (room-left c.self.inside c.args.self.now c.self.invariant c.self.view_is c.requires.1.1.1.1.1.1.1.1.0) c.self.invariant.many

pub returns-in-Ok-clause-holds : goal.returns-in-Ok-clause-holds
returns-in-Ok-clause-holds g c =
    let is = c.site-site.ensures.site in
    let name : c.site-site.result.name ≡ name_at c.args.row = ap (λ (s : Site). s.name) is in
    let others = subst (λ (n : Bytes). EachMoment (g.D.Logged.log c.args.disk.now) (g.D.Logged.log c.publish.new.disk) (OthersSame n)) name c.in-Ok.ensures.others in
    subst (λ (w : KeptMap). Told (g.D.Logged.log c.publish.new.disk) (Holds g.sent w))
    (sym (view-with_row c.self.inside (record { rows = c.push.new.self; closed = c.self.inside.closed }) c.args.self.now c.args.row c.self.view_is c.in_ok-push.ensures.ok refl))
    (kept_holds _ _ (publish_ops c.site-site.result.name c.publish.new.room) g.sent c.args.self.now c.args.row c.requires.1.1.1.1.1.1.0 (tt, (tt, (name, tt))) others c.in-Ok.ensures.ops c.requires.1.1.1.1.1.1.1.1.1
    (kept_there c.args.row c.site-site.result c.args.block.now is c.requires.1.0 _ g.sent (length c.args.room.now) c.requires.1.1.1.1.1.0 c.requires.1.1.0 c.in-Ok.ensures.done))

pub returns-in-Ok-clause-covers : goal.returns-in-Ok-clause-covers
returns-in-Ok-clause-covers g c told =
    let name : c.site-site.result.name ≡ name_at c.args.row = ap (λ (s : Site). s.name) c.site-site.ensures.site in
    let others = subst (λ (n : Bytes). EachMoment (g.D.Logged.log c.args.disk.now) (g.D.Logged.log c.publish.new.disk) (OthersSame n)) name c.in-Ok.ensures.others in
    subst (λ (w : KeptMap). Told (g.D.Logged.log c.publish.new.disk) (Covers w))
    (sym (view-with_row c.self.inside (record { rows = c.push.new.self; closed = c.self.inside.closed }) c.args.self.now c.args.row c.self.view_is c.in_ok-push.ensures.ok refl))
    (kept_covers _ _ (publish_ops c.site-site.result.name c.publish.new.room) g.sent c.args.self.now c.args.row c.requires.1.1.1.1.1.1.0 (tt, (tt, (name, tt))) others c.in-Ok.ensures.ops told)

pub returns-in-Err-NoDraft-clause-holds : goal.returns-in-Err-NoDraft-clause-holds
returns-in-Err-NoDraft-clause-holds g c =
    subst (λ (w : KeptMap). Told (g.D.Logged.log c.publish.new.disk) (Holds g.sent w)) (sym (view-same c.self.inside (record { rows = c.pop.new.self; closed = c.self.inside.closed }) c.args.self.now c.self.view_is (popped_is c.self.inside.rows c.push.new.self c.pop.new.self c.args.row c.in_ok-push.ensures.ok c.pop.ensures) refl))
    (drafted_holds _ _ c.publish.new.room false g.sent c.args.self.now
    (subst (λ (f : PublishFault). RunsPublish (g.D.Logged.log c.args.disk.now) (g.D.Logged.log c.publish.new.disk) c.site-site.result.name c.publish.new.room (bad f)) c.in-Err-NoDraft.field-0-is c.in-Err-NoDraft.ensures.ops) c.requires.1.1.1.1.1.1.1.1.1)

pub returns-in-Err-NoDraft-clause-covers : goal.returns-in-Err-NoDraft-clause-covers
returns-in-Err-NoDraft-clause-covers g c told =
    subst (λ (w : KeptMap). Told (g.D.Logged.log c.publish.new.disk) (Covers w)) (sym (view-same c.self.inside (record { rows = c.pop.new.self; closed = c.self.inside.closed }) c.args.self.now c.self.view_is (popped_is c.self.inside.rows c.push.new.self c.pop.new.self c.args.row c.in_ok-push.ensures.ok c.pop.ensures) refl))
    (drafted_covers _ _ c.publish.new.room false c.args.self.now
    (subst (λ (f : PublishFault). RunsPublish (g.D.Logged.log c.args.disk.now) (g.D.Logged.log c.publish.new.disk) c.site-site.result.name c.publish.new.room (bad f)) c.in-Err-NoDraft.field-0-is c.in-Err-NoDraft.ensures.ops) told)

pub invariant_of-self-in-Err-DiskFault : goal.invariant_of-self-in-Err-DiskFault
invariant_of-self-in-Err-DiskFault g c =
    sound-with_closed c.self.inside _ c.args.self.now (name_at c.args.row) c.self.invariant c.self.view_is c.requires.1.1.1.1.1.1.0 c.requires.1.1.1.1.1.1.1.0
    (popped_is c.self.inside.rows c.push.new.self c.pop-in-Err-DiskFault.new.self c.args.row c.in_ok-push.ensures.ok c.pop-in-Err-DiskFault.ensures) (c.push_reserved.ensures.items ∙ ap (λ (s : Site). c.self.inside.closed.items ++ s.name ∷ []) c.site-site.ensures.site)
    (omega (arith, room-left c.self.inside c.args.self.now c.self.invariant c.self.view_is c.requires.1.1.1.1.1.1.1.1.0, c.push_reserved.ensures.capacity)) (omega (arith, c.push_reserved.ensures.capacity, c.self.invariant.many))

pub returns-in-Err-DiskFault-clause-holds : goal.returns-in-Err-DiskFault-clause-holds
returns-in-Err-DiskFault-clause-holds g c =
    let name : c.site-site.result.name ≡ name_at c.args.row = ap (λ (s : Site). s.name) c.site-site.ensures.site in
    let others = subst (λ (n : Bytes). EachMoment (g.D.Logged.log c.args.disk.now) (g.D.Logged.log c.publish.new.disk) (OthersSame n)) name c.in-Err-DiskFault.ensures.others in
    subst (λ (w : KeptMap). Told (g.D.Logged.log c.publish.new.disk) (Holds g.sent w))
    (sym (view-with_closed c.self.inside (record { rows = c.pop-in-Err-DiskFault.new.self; closed = c.push_reserved.new.self }) c.args.self.now (name_at c.args.row) c.self.view_is (popped_is c.self.inside.rows c.push.new.self c.pop-in-Err-DiskFault.new.self c.args.row c.in_ok-push.ensures.ok c.pop-in-Err-DiskFault.ensures) (c.push_reserved.ensures.items ∙ ap (λ (s : Site). c.self.inside.closed.items ++ s.name ∷ []) c.site-site.ensures.site)))
    (closed_holds _ _ (publish_ops c.site-site.result.name c.publish.new.room) g.sent c.args.self.now c.args.row c.requires.1.1.1.1.1.1.0 (tt, (tt, (name, tt))) others false
    (failed_runs _ _ c.site-site.result.name c.publish.new.room
    (subst (λ (f : PublishFault). RunsPublish (g.D.Logged.log c.args.disk.now) (g.D.Logged.log c.publish.new.disk) c.site-site.result.name c.publish.new.room (bad f)) c.in-Err-DiskFault.field-0-is c.in-Err-DiskFault.ensures.ops))
    c.requires.1.1.1.1.1.1.1.1.1)

pub returns-in-Err-DiskFault-clause-covers : goal.returns-in-Err-DiskFault-clause-covers
returns-in-Err-DiskFault-clause-covers g c told =
    let name : c.site-site.result.name ≡ name_at c.args.row = ap (λ (s : Site). s.name) c.site-site.ensures.site in
    let others = subst (λ (n : Bytes). EachMoment (g.D.Logged.log c.args.disk.now) (g.D.Logged.log c.publish.new.disk) (OthersSame n)) name c.in-Err-DiskFault.ensures.others in
    subst (λ (w : KeptMap). Told (g.D.Logged.log c.publish.new.disk) (Covers w))
    (sym (view-with_closed c.self.inside (record { rows = c.pop-in-Err-DiskFault.new.self; closed = c.push_reserved.new.self }) c.args.self.now (name_at c.args.row) c.self.view_is (popped_is c.self.inside.rows c.push.new.self c.pop-in-Err-DiskFault.new.self c.args.row c.in_ok-push.ensures.ok c.pop-in-Err-DiskFault.ensures) (c.push_reserved.ensures.items ∙ ap (λ (s : Site). c.self.inside.closed.items ++ s.name ∷ []) c.site-site.ensures.site)))
    (closed_covers _ _ (publish_ops c.site-site.result.name c.publish.new.room) g.sent c.args.self.now c.args.row c.requires.1.1.1.1.1.1.0 (tt, (tt, (name, tt))) others false
    (failed_runs _ _ c.site-site.result.name c.publish.new.room
    (subst (λ (f : PublishFault). RunsPublish (g.D.Logged.log c.args.disk.now) (g.D.Logged.log c.publish.new.disk) c.site-site.result.name c.publish.new.room (bad f)) c.in-Err-DiskFault.field-0-is c.in-Err-DiskFault.ensures.ops))
    told)
