use Rattle.std.proofs.Common.{◌≡◌, true, length, take, refl, ◌∙◌, ap, arith}
use Rattle.std.proofs.lemmas.List.{length-set}
use Rattle.pp_pool.specs.Chunks.{is_in}
use Rattle.pp_pool.specs.Links.{ring_of}
use Rattle.pp_pool.proofs.Links.{used_below, free_below, before_below, behind_below, last_in_links, touched_chain, ring-touched, line-touched}
use Rattle.pp_pool.proofs.ring.Ring.touch.Goals as goal

pub index-before-requires : goal.index-before-requires
index-before-requires c =
    let there : is_in c.args.number (take c.self.inside.used (ring_of c.self.inside)) ≡ true = ap (λ l. is_in c.args.number l.used) c.self.view_is ∙ c.requires in
    omega (arith, used_below c.self.inside c.args.number c.self.invariant there, c.self.invariant.previouses, c.self.inside.previous.ok.0)

pub index-behind-requires : goal.index-behind-requires
index-behind-requires c =
    let there : is_in c.args.number (take c.self.inside.used (ring_of c.self.inside)) ≡ true = ap (λ l. is_in c.args.number l.used) c.self.view_is ∙ c.requires in
    omega (arith, used_below c.self.inside c.args.number c.self.invariant there, c.self.invariant.nexts, c.self.inside.next.ok.0)

pub join-requires-clause-number : goal.join-requires-clause-number
join-requires-clause-number c =
    let there : is_in c.args.number (take c.self.inside.used (ring_of c.self.inside)) ≡ true = ap (λ l. is_in c.args.number l.used) c.self.view_is ∙ c.requires in
    before_below c.self.inside c.args.number c.index-before.result.now c.self.invariant there c.index-before.ensures

pub join-requires-clause-behind : goal.join-requires-clause-behind
join-requires-clause-behind c =
    let there : is_in c.args.number (take c.self.inside.used (ring_of c.self.inside)) ≡ true = ap (λ l. is_in c.args.number l.used) c.self.view_is ∙ c.requires in
    behind_below c.self.inside c.args.number c.index-behind.result.now c.self.invariant there c.index-behind.ensures

pub index-last-requires : goal.index-last-requires
index-last-requires c =
    omega (arith, free_below c.self.inside c.self.invariant, c.self.invariant.previouses, ap length c.join.ensures.previous, length-set c.self.inside.previous.items c.index-behind.result.now c.index-before.result.now, c.join.new.previous.ok.0)

pub join-requires-2-clause-number : goal.join-requires-2-clause-number
join-requires-2-clause-number c =
    let there : is_in c.args.number (take c.self.inside.used (ring_of c.self.inside)) ≡ true = ap (λ l. is_in c.args.number l.used) c.self.view_is ∙ c.requires in
    omega (arith, used_below c.self.inside c.args.number c.self.invariant there, c.self.invariant.nexts, ap length c.join.ensures.next, length-set c.self.inside.next.items c.index-before.result.now c.index-behind.result.now)

pub join-requires-2-clause-behind : goal.join-requires-2-clause-behind
join-requires-2-clause-behind c =
    omega (arith, free_below c.self.inside c.self.invariant, c.self.invariant.previouses, ap length c.join.ensures.previous, length-set c.self.inside.previous.items c.index-behind.result.now c.index-before.result.now)

pub join-requires-3-clause-number : goal.join-requires-3-clause-number
join-requires-3-clause-number c =
    let there : is_in c.args.number (take c.self.inside.used (ring_of c.self.inside)) ≡ true = ap (λ l. is_in c.args.number l.used) c.self.view_is ∙ c.requires in
    omega (
      arith,
      last_in_links c.self.inside c.args.number c.index-before.result.now c.index-behind.result.now c.index-last.result.now c.join.new.next.items c.join.new.previous.items
          c.self.invariant there c.index-before.ensures c.index-behind.ensures c.join.ensures.next c.join.ensures.previous c.index-last.ensures,
      c.self.invariant.nexts,
      ap length c.join.ensures.next,
      length-set c.self.inside.next.items c.index-before.result.now c.index-behind.result.now,
      ap length c.join-2.ensures.next,
      length-set c.join.new.next.items c.args.number c.self.inside.first_free,
    )

pub join-requires-3-clause-behind : goal.join-requires-3-clause-behind
join-requires-3-clause-behind c =
    let there : is_in c.args.number (take c.self.inside.used (ring_of c.self.inside)) ≡ true = ap (λ l. is_in c.args.number l.used) c.self.view_is ∙ c.requires in
    omega (arith, used_below c.self.inside c.args.number c.self.invariant there, c.self.invariant.previouses, ap length c.join.ensures.previous, length-set c.self.inside.previous.items c.index-behind.result.now c.index-before.result.now, ap length c.join-2.ensures.previous, length-set c.join.new.previous.items c.self.inside.first_free c.args.number)

pub invariant_of-self : goal.invariant_of-self
invariant_of-self c =
    let there : is_in c.args.number (take c.self.inside.used (ring_of c.self.inside)) ≡ true = ap (λ l. is_in c.args.number l.used) c.self.view_is ∙ c.requires in
    ring-touched c.self.inside _ c.args.number c.self.invariant there
    (touched_chain c.self.inside c.args.number c.index-before.result.now c.index-behind.result.now c.index-last.result.now c.join.new.next.items c.join.new.previous.items c.join-2.new.next.items c.join-2.new.previous.items c.join-3.new.next.items c.join-3.new.previous.items
    c.self.invariant there c.index-before.ensures c.index-behind.ensures c.join.ensures.next c.join.ensures.previous c.index-last.ensures c.join-2.ensures.next c.join-2.ensures.previous c.join-3.ensures.next c.join-3.ensures.previous)
    refl refl refl
    (ap length c.join-3.ensures.next ∙ length-set c.join-2.new.next.items c.index-last.result.now c.args.number ∙ ap length c.join-2.ensures.next ∙ length-set c.join.new.next.items c.args.number c.self.inside.first_free ∙ ap length c.join.ensures.next ∙ length-set c.self.inside.next.items c.index-before.result.now c.index-behind.result.now)
    (ap length c.join-3.ensures.previous ∙ length-set c.join-2.new.previous.items c.args.number c.index-last.result.now ∙ ap length c.join-2.ensures.previous ∙ length-set c.join.new.previous.items c.self.inside.first_free c.args.number ∙ ap length c.join.ensures.previous ∙ length-set c.self.inside.previous.items c.index-behind.result.now c.index-before.result.now)

pub returns : goal.returns
returns c =
    let there : is_in c.args.number (take c.self.inside.used (ring_of c.self.inside)) ≡ true = ap (λ l. is_in c.args.number l.used) c.self.view_is ∙ c.requires in
    line-touched c.self.inside c.args.self.now c.args.number c.join-3.new.next.items c.join-3.new.previous.items c.self.invariant c.requires c.self.view_is
    (touched_chain c.self.inside c.args.number c.index-before.result.now c.index-behind.result.now c.index-last.result.now c.join.new.next.items c.join.new.previous.items c.join-2.new.next.items c.join-2.new.previous.items c.join-3.new.next.items c.join-3.new.previous.items
    c.self.invariant there c.index-before.ensures c.index-behind.ensures c.join.ensures.next c.join.ensures.previous c.index-last.ensures c.join-2.ensures.next c.join-2.ensures.previous c.join-3.ensures.next c.join-3.ensures.previous)
