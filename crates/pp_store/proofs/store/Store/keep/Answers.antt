use Rattle.std.proofs.Common.{◌≡◌, ◌-◌, ◌≤◌, ℕ, length, drop, None, false, sym, ◌∙◌, ap, subst}
use Rattle.pp_entry.specs.Texts.{body_at}
use Rattle.pp_gate.specs.Seal.{IsFront}
use Rattle.pp_store.specs.Changes.{entry_with}
use Rattle.pp_store.specs.Held.{IsReadable}
use Rattle.pp_store.specs.Kept.{Kept, block_of, is_closed, kept_under, name_at}
use Rattle.pp_store.proofs.Backing.{quiet_backed}
use Rattle.pp_store.proofs.KeepLemmas.{readable, refusal-none}
use Rattle.pp_target.specs.Name.{name_of}
use Rattle.pp_store.proofs.Quiet.{quiet_honest, quiet_old, quiet_others}
use Rattle.pp_store.proofs.store.Store.keep.Goals as goal

pub returns-in_err-block-clause-old_or_new : goal.returns-in_err-block-clause-old_or_new
returns-in_err-block-clause-old_or_new g c = quiet_old _ (name_of c.args.key.now) _

pub returns-in_err-block-clause-any_moment : goal.returns-in_err-block-clause-any_moment
returns-in_err-block-clause-any_moment g c = quiet_honest _ g.sent (name_of c.args.key.now) _ _ _

pub returns-in_err-block-clause-others : goal.returns-in_err-block-clause-others
returns-in_err-block-clause-others g c = quiet_others _ (name_of c.args.key.now)

pub returns-in_err-row-clause-old_or_new : goal.returns-in_err-row-clause-old_or_new
returns-in_err-row-clause-old_or_new g c = quiet_old _ (name_of c.args.key.now) _

pub returns-in_err-row-clause-any_moment : goal.returns-in_err-row-clause-any_moment
returns-in_err-row-clause-any_moment g c = quiet_honest _ g.sent (name_of c.args.key.now) _ _ _

pub returns-in_err-row-clause-others : goal.returns-in_err-row-clause-others
returns-in_err-row-clause-others g c = quiet_others _ (name_of c.args.key.now)

pub returns-in_err-block-clause-backed : goal.returns-in_err-block-clause-backed
returns-in_err-block-clause-backed g c = quiet_backed _ g.sent

pub returns-in_err-row-clause-backed : goal.returns-in_err-row-clause-backed
returns-in_err-row-clause-backed g c = quiet_backed _ g.sent

pub publish_row-requires : goal.publish_row-requires
publish_row-requires g c κs within =
    let entry = entry_with c.args.key.now c.args.version.now c.args.fields.now c.args.times.now in
    let clear = refusal-none entry c.args.self.now c.in_ok-block.ensures.0 in
    let is = c.in_ok-row.ensures in
    let room = c.args.room.now in (
      within,
      (
        c.in_ok-block.ensures.1 ∙ sym (ap (λ (k : Kept). block_of k.entry) is),
        (
          subst (λ (k : Kept). IsReadable k.entry) (sym is) (readable entry c.requires.1.0 clear.2),
          (
            subst (λ (k : Kept). body_at k.entry.version.length ≤ length room) (sym is) c.requires.1.1.0,
            (
              subst (λ (k : Kept). IsFront g.sent (block_of k.entry) k.entry.version.length (drop (body_at k.entry.version.length) room)) (sym is) c.requires.1.1.1.0,
              (
                ap (λ (k : Kept). k.extent) is ∙ ap (λ (m : ℕ). length room - m) c.body_at.ensures ∙ ap (λ (k : Kept). length room - body_at k.entry.version.length) (sym is),
                (
                  subst (λ (k : Kept). kept_under (name_at k) c.args.self.now ≡ None) (sym is) c.requires.1.1.1.1.0,
                  (subst (λ (k : Kept). is_closed (name_at k) c.args.self.now ≡ false) (sym is) clear.0, (clear.1, c.requires.1.1.1.1.1)),
                ),
              ),
            ),
          ),
        ),
      ),
    )
