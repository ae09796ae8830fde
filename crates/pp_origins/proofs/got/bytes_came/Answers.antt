use Rattle.std.proofs.Common.{◌≡◌, ◌∙◌, ◌<◌, ◌+◌, [], ap, subst, take, slice_range, ℕ, List, Option, Some, None, arith}
use Rattle.std.specs.List.{find}
use Rattle.pp_desk.specs.declared.desk.Desk.{Desk}
use Rattle.pp_origins.proofs.GotLemmas.{all_got, most_got, one_more_got, still_seated}
use Rattle.pp_origins.specs.Gots.{IsStepOn, Remains, both, going_on, remaining}
use Rattle.pp_peers.specs.Peers.{is_number}
use Rattle.pp_origins.proofs.got.bytes_came.Goals as goal

pub loop-step-preserved : goal.loop-step-preserved
loop-step-preserved c =
    let old : Desk = c.args.desk.now in
    let mid : Desk = c.loop-step.desk in
    let new : Desk = c.step_came-step.new.desk in
    let before = c.loop-step.invariant in
    let step = c.in-Some.ensures in
    let shelf = c.args.shelf.now in
    let k = c.args.k in
    let n : ℕ = c.args.n in
    let at : ℕ = c.loop-step.at in
    let next : ℕ = c.in-Some.next in
    let bytes : List ℕ = old.buffer.items in
    let same : mid.buffer.items ≡ bytes = ap (λ (d : Desk). d.buffer.items) before.rest in
    let less : c.loop-step._step < 65600 = omega (arith, c.loop-step-test.true) in
    record {
      is = λ seated room.
          one_more_got 65600 c.loop-step._step shelf k (Some (remaining (take n bytes) [])) (remaining (slice_range bytes at n) mid.«data».items) (Some (remaining (slice_range bytes next n) new.«data».items)) (both old) (both mid) (both new) less (before.is seated room)
          (subst (λ (xs : List ℕ). IsStepOn (going_on (find (is_number k) mid.peers)) shelf k (remaining (slice_range xs at n) mid.«data».items) (both mid) (both new) (Some (remaining (slice_range xs next n) new.«data».items))) same
          (step.is (still_seated old.state mid.state before.numbers seated) c.bounds.ensures (before.fits room)));
      fits = λ room. step.fits (before.fits room);
      within = step.within;
      numbers = step.numbers ∙ before.numbers;
      room = omega (arith, before.room, step.room);
      rest = ap (λ (d : Desk). record d { state = old.state; peers = old.peers; «data» = old.«data» }) step.rest ∙ before.rest;
    }

pub returns-clause-is : goal.returns-clause-is
returns-clause-is c = λ seated room.
    let old : Desk = c.args.desk.now in
    let mid : Desk = c.loop-step.desk in
    let bytes : List ℕ = old.buffer.items in
    let n : ℕ = c.args.n in
    most_got 65600 c.loop-step._step c.args.shelf.now c.args.k (Some (remaining (take n bytes) [])) (remaining (slice_range bytes c.loop-step.at n) mid.«data».items) (both old) (both mid) (omega (arith, c.loop-step-test.false)) (c.loop-step.invariant.is seated room)

pub returns-in-None-clause-is : goal.returns-in-None-clause-is
returns-in-None-clause-is c = λ seated room.
    let old : Desk = c.args.desk.now in
    let mid : Desk = c.loop-step.desk in
    let new : Desk = c.step_came-step.new.desk in
    let before = c.loop-step.invariant in
    let shelf = c.args.shelf.now in
    let k = c.args.k in
    let n : ℕ = c.args.n in
    let at : ℕ = c.loop-step.at in
    let bytes : List ℕ = old.buffer.items in
    let first : Option Remains = Some (remaining (take n bytes) []) in
    let same : mid.buffer.items ≡ bytes = ap (λ (d : Desk). d.buffer.items) before.rest in
    let less : c.loop-step._step < 65600 = omega (arith, c.loop-step-test.true) in
    all_got 65600 (c.loop-step._step + 1) shelf k first (both old) (both new)
    (one_more_got 65600 c.loop-step._step shelf k first (remaining (slice_range bytes at n) mid.«data».items) None (both old) (both mid) (both new) less (before.is seated room)
    (subst (λ (xs : List ℕ). IsStepOn (going_on (find (is_number k) mid.peers)) shelf k (remaining (slice_range xs at n) mid.«data».items) (both mid) (both new) None) same
    (c.in-None.ensures.is (still_seated old.state mid.state before.numbers seated) c.bounds.ensures (before.fits room))))
