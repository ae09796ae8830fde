use Rattle.std.proofs.Common.{IsTrue, sym, subst}
use Rattle.std.specs.List.{list_all}
use Rattle.pp_world.specs.Disk.{is_name}
use Rattle.pp_net.proofs.NameLemmas.{list_all-insert_key, list_all-popped}
use Rattle.pp_net.proofs.listing.keep.Goals as goal

pub returns-then-len-gt-MOST_NAMES-clause-form : goal.returns-then-len-gt-MOST_NAMES-clause-form
returns-then-len-gt-MOST_NAMES-clause-form c = list_all-popped c.insert.new.self.keys c.pop_last.new.self.keys c.pop_last.result c.pop_last.ensures.removal c.pop_last.ensures.unchanged
    (subst (λ keys. IsTrue (list_all is_name keys)) (sym c.in_ok-insert.ensures.keys) (list_all-insert_key c.args.least.now.keys c.args.name c.requires.form c.requires.name))

pub returns-else-len-gt-MOST_NAMES-clause-form : goal.returns-else-len-gt-MOST_NAMES-clause-form
returns-else-len-gt-MOST_NAMES-clause-form c = subst (λ keys. IsTrue (list_all is_name keys)) (sym c.in_ok-insert.ensures.keys) (list_all-insert_key c.args.least.now.keys c.args.name c.requires.form c.requires.name)
