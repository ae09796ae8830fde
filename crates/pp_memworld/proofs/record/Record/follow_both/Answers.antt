use Rattle.std.proofs.Common.{◌≡◌, ◌∙◌, ◌++◌, ◌∷◌, [], ap, refl, subst, true, arith}
use Rattle.pp_world.specs.declared.happening.Happening.TheVariants.{Began, Did}
use Rattle.pp_world.specs.declared.op.DiskOp.{DiskOp}
use Rattle.pp_memworld.specs.Folder.{Hears}
use Rattle.pp_memworld.proofs.Keeping.{kept_op}
use Rattle.pp_memworld.proofs.Ties.{tied_keep}
use Rattle.pp_memworld.proofs.record.Record.follow_both.Goals as goal

pub invariant_of-self : goal.invariant_of-self
invariant_of-self c =
    let pushed : c.follow-self.result ≡ true → c.follow-self.new.log.items ≡ c.follow-first.new.log.items ++ Did c.args.begun c.args.is_done ∷ []
    = λ is. c.follow-self.ensures.pushed is ∙ ap (λ (op : DiskOp). c.follow-first.new.log.items ++ Did op c.args.is_done ∷ []) c.requires in
    record {
      tied = tied_keep {faults = c.args.self.now.faults} (Did c.args.begun c.args.is_done)
          (tied_keep {faults = c.args.self.now.faults} (Began c.args.begun) c.args.self.now.tied (record { side = λ id side. refl; top = λ top. refl }) c.follow-first.ensures.told c.follow-first.ensures.pushed (omega arith))
          (record { side = λ id side. refl; top = λ top. refl }) c.follow-self.ensures.told pushed (omega arith);
      kept = kept_op c.args.begun c.args.is_done c.args.self.now.kept c.follow-first.ensures.told c.follow-first.ensures.pushed c.follow-first.ensures.hears c.follow-self.ensures.told pushed
          (λ is. subst (λ (op : DiskOp). Hears (Did op c.args.is_done) c.follow-first.new.folder c.follow-self.new.folder) c.requires (c.follow-self.ensures.hears is));
    }
