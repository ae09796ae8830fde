use Rattle.std.proofs.Common.{arith, refl, ℕ, List, ◌++◌, ◌∷◌, [], ◌∙◌, ap}
use Rattle.pp_store.proofs.Sound.{sound-with_closed}
use Rattle.pp_store.proofs.store.Store.shut.Goals as goal

pub invariant_of-self-2 : goal.invariant_of-self-2
invariant_of-self-2 c =
    sound-with_closed c.self.inside _ c.args.self.now c.args.name.now c.self.invariant c.self.view_is c.requires.absent c.requires.sound refl
    (c.push_reserved.ensures.items ∙ ap (λ (names : List (List ℕ)). names ++ c.args.name.now ∷ []) c.reserve.ensures.items)
    (omega (arith, c.in_ok-reserve.ensures.ok, c.push_reserved.ensures.capacity, c.len-more.ensures, c.self.inside.closed.ok))
    (omega (arith, c.push_reserved.ensures.capacity, c.reserve.ensures.capacity, c.self.invariant.many))
