use Rattle.std.proofs.Common.{◌+◌, ◌≡◌, get_or, length, refl, ◌∙◌, ap, arith}
use Rattle.std.proofs.lemmas.List.{get_or_append_left, get_or_push, length_push}
use Rattle.pp_pool.proofs.Links.{ring-new}
use Rattle.pp_pool.proofs.ring.Ring.new.Goals as goal

pub invariant_of-result : goal.invariant_of-result
invariant_of-result c =
    let done : c.loop-number.number ≡ c.args.size = omega (arith, c.loop-number-test.false, c.loop-number.auto.number-end) in
    let long : length c.loop-number.next.items ≡ c.args.size = c.loop-number.invariant.nexts ∙ done in
    ring-new _ c.requires.least c.requires.most refl refl
    (ap length c.push_reserved-2.ensures.items ∙ length_push c.loop-number.next.items 0 ∙ ap (λ n. n + 1) long)
    (c.loop-number.invariant.previouses ∙ ap (λ n. n + 1) done)
    (ap (λ ns. get_or ns c.args.size 0) c.push_reserved-2.ensures.items ∙ get_or_push c.loop-number.next.items 0 0 c.args.size long)
    c.loop-number.invariant.begin
    (λ i lt. ap (λ ns. get_or ns i 0) c.push_reserved-2.ensures.items ∙ get_or_append_left c.loop-number.next.items _ 0 i (omega (arith, lt, long)) ∙ c.loop-number.invariant.behind i (omega (arith, lt, done)))
    (λ i lt. c.loop-number.invariant.before i (omega (arith, lt, done)))
