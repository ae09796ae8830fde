use Rattle.std.proofs.Common.{◌≡◌, ◌<◌, ℕ, length, get_or, subst, arith, ◌∙◌, sym}
use Rattle.pp_pool.proofs.Oldest.{pinned_step, found_step, nothing_found, none_where_pinned}
use Rattle.pp_pool.proofs.pool.Pool.oldest.Goals as goal

pub returns-then-not-is_pinned_at-clause-oldest : goal.returns-then-not-is_pinned_at-clause-oldest
returns-then-not-is_pinned_at-clause-oldest c =
    let lt : c.loop-passed._passed < length c.self.inside.order.used = omega (arith, c.loop-passed-test.true, c.used-passed-end.ensures) in
    let here = c.loop-passed.invariant.here lt in
    let P : ℕ → Type 0 = λ n. c.index-slot.result.now ≡ get_or c.self.inside.slots.items n c.index-slot.result.now in
    let read = subst P here c.index-slot.ensures in
    found_step c.args.pins.now.items c.self.inside c.args.self.now c.loop-passed._passed c.index-slot.result.now c.self.invariant c.self.view_is lt read
    (sym c.is_pinned_at.ensures ∙ c.if-not-is_pinned_at.true) c.loop-passed.invariant.so_far

pub returns-then-not-is_pinned_at-clause-none : goal.returns-then-not-is_pinned_at-clause-none
returns-then-not-is_pinned_at-clause-none c =
    let lt : c.loop-passed._passed < length c.self.inside.order.used = omega (arith, c.loop-passed-test.true, c.used-passed-end.ensures) in
    let here = c.loop-passed.invariant.here lt in
    let P : ℕ → Type 0 = λ n. c.index-slot.result.now ≡ get_or c.self.inside.slots.items n c.index-slot.result.now in
    let read = subst P here c.index-slot.ensures in
    none_where_pinned c.args.pins.now.items c.args.self.now.used _
    (found_step c.args.pins.now.items c.self.inside c.args.self.now c.loop-passed._passed c.index-slot.result.now c.self.invariant c.self.view_is lt read
    (sym c.is_pinned_at.ensures ∙ c.if-not-is_pinned_at.true) c.loop-passed.invariant.so_far)

pub loop-passed-preserved : goal.loop-passed-preserved
loop-passed-preserved c =
    let lt : c.loop-passed._passed < length c.self.inside.order.used = omega (arith, c.loop-passed-test.true, c.used-passed-end.ensures) in
    let here = c.loop-passed.invariant.here lt in
    let P : ℕ → Type 0 = λ n. c.index-slot.result.now ≡ get_or c.self.inside.slots.items n c.index-slot.result.now in
    let read = subst P here c.index-slot.ensures in
    record {
      here = λ more. c.after-number.ensures c.loop-passed._passed more here;
      so_far = pinned_step c.args.pins.now.items c.self.inside c.loop-passed._passed c.index-slot.result.now c.self.invariant lt read
          (sym c.is_pinned_at.ensures ∙ c.if-not-is_pinned_at.false) c.loop-passed.invariant.so_far;
    }

pub returns-clause-none : goal.returns-clause-none
returns-clause-none c =
    none_where_pinned c.args.pins.now.items c.args.self.now.used _
    (nothing_found c.args.pins.now.items c.self.inside c.args.self.now c.loop-passed._passed c.self.view_is
    (omega (arith, c.loop-passed-test.false, c.used-passed-end.ensures)) c.loop-passed.invariant.so_far)
