use Rattle.std.proofs.Common.{◌≡◌, ◌∷◌, List, subst}
use Rattle.std.proofs.lemmas.Map.Iter.{rest_more}
use Rattle.std.specs.Map.Iter.{deref_pair}
use Rattle.pp_world.specs.Disk.{Bytes}
use Rattle.pp_memworld.specs.Slots.{Candidates}
use Rattle.pp_memworld.proofs.Leaving.{LeavesBut, first_waits, leaves_more}
use Rattle.pp_memworld.proofs.folder.Folder.left.Goals as goal

pub leave-requires-clause-absent : goal.leave-requires-clause-absent
leave-requires-clause-absent c =
    let first : c.loop-name.name-iterator ≡ (c.in-Some.name.now, c.in-Some.slot.now) ∷ c.next.new.self = rest_more deref_pair c.loop-name.name-iterator c.next.new.self c.next.result (c.in-Some.name, c.in-Some.slot) c.in-Some.is c.next.ensures.steps in
    first_waits c.in-Some.name.now c.in-Some.slot.now c.next.new.self c.args.self.now.slots c.loop-name.image
    (subst (λ (rest : List (Bytes × Candidates)). LeavesBut rest c.args.self.now.slots c.loop-name.image) first c.loop-name.invariant)

pub loop-name-preserved : goal.loop-name-preserved
loop-name-preserved c =
    let first : c.loop-name.name-iterator ≡ (c.in-Some.name.now, c.in-Some.slot.now) ∷ c.next.new.self = rest_more deref_pair c.loop-name.name-iterator c.next.new.self c.next.result (c.in-Some.name, c.in-Some.slot) c.in-Some.is c.next.ensures.steps in
    leaves_more c.in-Some.name.now c.in-Some.slot.now c.next.new.self c.args.self.now.slots c.loop-name.image c.leave.new.image
    (subst (λ (rest : List (Bytes × Candidates)). LeavesBut rest c.args.self.now.slots c.loop-name.image) first c.loop-name.invariant)
    c.in_ok-leave.ensures.left c.in_ok-leave.ensures.others c.in_ok-leave.ensures.listed
