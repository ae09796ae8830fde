use Rattle.std.proofs.Common.{◌≡◌, length, refl, sym, ◌∙◌, ap, arith}
use Rattle.std.proofs.lemmas.List.{get_or_read}
use Rattle.pp_pool.specs.Chunks.{is_in}
use Rattle.pp_pool.proofs.Links.{front_long, ring-taken, line-taken, taken_below, taken_free}
use Rattle.pp_pool.proofs.ring.Ring.take.Goals as goal

pub returns-then-self-clause-none : goal.returns-then-self-clause-none
returns-then-self-clause-none c =
    let whole : c.self.inside.used ≡ c.self.inside.end = omega arith in
    sym (ap (λ l. length l.used) c.self.view_is) ∙ front_long c.self.inside c.self.invariant ∙ whole ∙ ap (λ l. l.size) c.self.view_is

pub index-requires : goal.index-requires
index-requires c =
    let apart : c.self.inside.used ≡ c.self.inside.end → ⊥ = omega arith in
    omega (arith, taken_below c.self.inside c.self.invariant apart, c.self.invariant.nexts, c.self.inside.next.ok.0)

pub invariant_of-self : goal.invariant_of-self
invariant_of-self c =
    let apart : c.self.inside.used ≡ c.self.inside.end → ⊥ = omega arith in
    ring-taken c.self.inside _ c.self.invariant apart refl refl refl refl
    (get_or_read c.self.inside.next.items c.self.inside.first_free c.index.result.now (omega (arith, taken_below c.self.inside c.self.invariant apart, c.self.invariant.nexts)) c.index.ensures 0)

pub returns-clause-below : goal.returns-clause-below
returns-clause-below c =
    let apart : c.self.inside.used ≡ c.self.inside.end → ⊥ = omega arith in
    omega (arith, taken_below c.self.inside c.self.invariant apart, ap (λ l. l.size) c.self.view_is)

pub returns-clause-free : goal.returns-clause-free
returns-clause-free c =
    let apart : c.self.inside.used ≡ c.self.inside.end → ⊥ = omega arith in
    sym (ap (λ l. is_in c.self.inside.first_free l.used) c.self.view_is) ∙ taken_free c.self.inside c.self.invariant apart

pub returns-clause-taken : goal.returns-clause-taken
returns-clause-taken c =
    let apart : c.self.inside.used ≡ c.self.inside.end → ⊥ = omega arith in
    line-taken c.self.inside c.args.self.now c.self.invariant apart c.self.view_is
