use Rattle.std.proofs.Common.{arith, ◌<◌, ◌+◌, ◌-◌, length, false, ◌∙◌, ap}
use Rattle.pp_pool.specs.Chunks.{Chunks}
use Rattle.pp_holes.specs.Places.{shown}
use Rattle.pp_holes.specs.Adding.{Adding, added, add_runs, runs}
use Rattle.pp_holes.proofs.SpanLemmas.{grows_on, grows_wider}
use Rattle.pp_holes.proofs.AddingSteps.{some_left, step_joins, step_ends}
use Rattle.pp_holes.proofs.join.add_bytes.Goals as goal

pub returns-in_default-clause-chunks : goal.returns-in_default-clause-chunks
returns-in_default-clause-chunks c =
    let some : 0 < length c.loop-rest.rest.now = some_left c.loop-rest.rest.now c.is_empty.result c.is_empty.ensures c.loop-rest-test.true in
    let end = step_ends c.loop-rest.pool.size c.args.owner c.loop-rest.from c.min.result (shown c.loop-rest.pool.used) c.loop-rest.joined c.loop-rest.ignored c.loop-rest.rest.now c.split_at.result.0.now
    (added c.args.pool.now.size c.args.owner c.args.at c.args.bytes.now (shown c.args.pool.now.used)) some c.min.ensures c.split_at.ensures.front c.in_default.ensures.stops c.loop-rest.invariant.so_far in
    ap (λ (v : Chunks). shown v.used) c.in_default.ensures.unchanged ∙ ap (λ (a : Adding). a.chunks) end

pub returns-in_default-clause-joined : goal.returns-in_default-clause-joined
returns-in_default-clause-joined c =
    let some : 0 < length c.loop-rest.rest.now = some_left c.loop-rest.rest.now c.is_empty.result c.is_empty.ensures c.loop-rest-test.true in
    let end = step_ends c.loop-rest.pool.size c.args.owner c.loop-rest.from c.min.result (shown c.loop-rest.pool.used) c.loop-rest.joined c.loop-rest.ignored c.loop-rest.rest.now c.split_at.result.0.now
    (added c.args.pool.now.size c.args.owner c.args.at c.args.bytes.now (shown c.args.pool.now.used)) some c.min.ensures c.split_at.ensures.front c.in_default.ensures.stops c.loop-rest.invariant.so_far in
    ap (λ (a : Adding). a.joined) end

pub returns-in_default-clause-ignored : goal.returns-in_default-clause-ignored
returns-in_default-clause-ignored c =
    let some : 0 < length c.loop-rest.rest.now = some_left c.loop-rest.rest.now c.is_empty.result c.is_empty.ensures c.loop-rest-test.true in
    let end = step_ends c.loop-rest.pool.size c.args.owner c.loop-rest.from c.min.result (shown c.loop-rest.pool.used) c.loop-rest.joined c.loop-rest.ignored c.loop-rest.rest.now c.split_at.result.0.now
    (added c.args.pool.now.size c.args.owner c.args.at c.args.bytes.now (shown c.args.pool.now.used)) some c.min.ensures c.split_at.ensures.front c.in_default.ensures.stops c.loop-rest.invariant.so_far in
    ap (λ (a : Adding). a.ignored) end

pub returns-in_default-clause-need_chunk : goal.returns-in_default-clause-need_chunk
returns-in_default-clause-need_chunk c =
    let some : 0 < length c.loop-rest.rest.now = some_left c.loop-rest.rest.now c.is_empty.result c.is_empty.ensures c.loop-rest-test.true in
    let end = step_ends c.loop-rest.pool.size c.args.owner c.loop-rest.from c.min.result (shown c.loop-rest.pool.used) c.loop-rest.joined c.loop-rest.ignored c.loop-rest.rest.now c.split_at.result.0.now
    (added c.args.pool.now.size c.args.owner c.args.at c.args.bytes.now (shown c.args.pool.now.used)) some c.min.ensures c.split_at.ensures.front c.in_default.ensures.stops c.loop-rest.invariant.so_far in
    ap (λ (a : Adding). a.need_chunk) end

pub loop-rest-preserved : goal.loop-rest-preserved
loop-rest-preserved c =
    let some : 0 < length c.loop-rest.rest.now = some_left c.loop-rest.rest.now c.is_empty.result c.is_empty.ensures c.loop-rest-test.true in
    let step = step_joins c.loop-rest.pool.size c.args.owner c.loop-rest.from c.min.result (shown c.loop-rest.pool.used) (shown c.join.new.pool.used) c.loop-rest.joined c.loop-rest.ignored c.in-Some.count
    c.loop-rest.rest.now c.split_at.result.0.now c.split_at.result.1.now (added c.args.pool.now.size c.args.owner c.args.at c.args.bytes.now (shown c.args.pool.now.used)) some c.min.ensures
    c.split_at.ensures.front c.split_at.ensures.back c.split_at.ensures.front_len c.in-Some.ensures.goes c.in-Some.ensures.count c.in-Some.ensures.joined c.loop-rest.invariant.so_far in
    record {
      agrees = c.in-Some.ensures.agrees;
      count = c.in-Some.ensures.length ∙ c.loop-rest.invariant.count;
      size = c.in-Some.ensures.size ∙ c.loop-rest.invariant.size;
      others = c.in-Some.ensures.others ∙ c.loop-rest.invariant.others;
      inside = omega (arith, c.split_at.ensures.front_len, c.split_at.ensures.back_len, c.in-Some.ensures.length, c.loop-rest.invariant.inside);
      small = omega (arith, c.split_at.ensures.front_len, c.split_at.ensures.back_len, c.loop-rest.invariant.small);
      sum = omega (arith, c.split_at.ensures.front_len, c.split_at.ensures.back_len, c.loop-rest.invariant.sum);
      grows = grows_on _ _ _ _ _ c.loop-rest.invariant.grows c.in-Some.ensures.grows (omega arith);
      held = omega (arith, c.in-Some.ensures.held, c.loop-rest.invariant.held);
      counted = omega (arith, c.loop-rest.invariant.counted, c.in-Some.ensures.bound);
      so_far = ap (λ z. add_runs z c.args.owner (record { chunks = shown c.join.new.pool.used; joined = c.loop-rest.joined + c.in-Some.count; ignored = c.loop-rest.ignored + (length c.split_at.result.0.now - c.in-Some.count); need_chunk = false }) (runs (c.loop-rest.from + length c.split_at.result.0.now) c.split_at.result.1.now)) c.in-Some.ensures.size ∙ step;
    }

pub returns-in_default-clause-grows : goal.returns-in_default-clause-grows
returns-in_default-clause-grows c =
    grows_on _ _ _ _ _ c.loop-rest.invariant.grows (grows_wider _ _ _ _ c.in_default.ensures.grows (omega (arith, c.split_at.ensures.front_len, c.split_at.ensures.back_len, c.loop-rest.invariant.sum))) (omega (arith, c.loop-rest.invariant.sum))

pub returns-clause-grows : goal.returns-clause-grows
returns-clause-grows c = grows_wider _ _ _ _ c.loop-rest.invariant.grows (omega (arith, c.loop-rest.invariant.sum))
