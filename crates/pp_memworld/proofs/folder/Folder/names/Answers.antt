use Rattle.std.proofs.Common.{◌≡◌, ◌∷◌, List, sym, subst}
use Rattle.std.proofs.lemmas.Map.Iter.{rest_more, rest_all}
use Rattle.std.specs.Map.Iter.{deref_pair}
use Rattle.pp_world.specs.Disk.{AreNames, Bytes}
use Rattle.pp_memworld.specs.Slots.{Candidates}
use Rattle.pp_memworld.proofs.Listing.{IsListedTo, listed_step, listed_end, listed_form}
use Rattle.pp_memworld.proofs.folder.Folder.names.Goals as goal

pub loop-name-preserved : goal.loop-name-preserved
loop-name-preserved c =
    let first : c.loop-name.name-iterator ≡ (c.in-Some.name.now, c.in-Some.slot.now) ∷ c.next.new.self = rest_more deref_pair c.loop-name.name-iterator c.next.new.self c.next.result (c.in-Some.name, c.in-Some.slot) c.in-Some.is c.next.ensures.steps in
    listed_step c.in-Some.name.now c.in-Some.slot.now c.loop-name.names.items c.list.new.names.items c.next.new.self c.args.self.now.slots.entries
    (subst (λ (rest : List (Bytes × Candidates)). IsListedTo c.loop-name.names.items rest c.args.self.now.slots.entries) first c.loop-name.invariant) c.in_ok-list.ensures

pub returns-clause-listed : goal.returns-clause-listed
returns-clause-listed c =
    listed_end c.loop-name.names.items c.loop-name.name-iterator c.args.self.now.slots.entries c.loop-name.invariant
    (rest_all deref_pair c.loop-name.name-iterator c.next.new.self c.next.result c.in-None.is c.next.ensures.steps)

pub returns-clause-form : goal.returns-clause-form
returns-clause-form c =
    subst AreNames
    (sym (listed_end c.loop-name.names.items c.loop-name.name-iterator c.args.self.now.slots.entries c.loop-name.invariant
    (rest_all deref_pair c.loop-name.name-iterator c.next.new.self c.next.result c.in-None.is c.next.ensures.steps)))
    (listed_form c.args.self.now.slots.entries c.iter-name-items.ensures.ordered)
