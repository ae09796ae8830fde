use Rattle.std.proofs.Common.{◌≡◌, ◌∙◌, ap, arith, length, replicate, ℕ}
use Rattle.std.proofs.lemmas.List.{length-replicate}
use Rattle.pp_cache.specs.OnDisk.{nowhere}
use Rattle.pp_cache.specs.declared.extents.Extent.{Extent}
use Rattle.pp_cache.proofs.extents.no_extents.Goals as goal

pub returns-clause-none : goal.returns-clause-none
returns-clause-none c =
    let all : c.loop-slot._slot ≡ 1345 = omega (arith, c.loop-slot.auto._slot-end, c.loop-slot-test.false) in
    c.loop-slot.invariant.none ∙ ap (λ (n : ℕ). replicate n nowhere) all

pub returns-clause-count : goal.returns-clause-count
returns-clause-count c = ap length (returns-clause-none c) ∙ length-replicate 1345 nowhere
