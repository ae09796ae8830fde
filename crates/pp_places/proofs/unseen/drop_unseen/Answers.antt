use Rattle.std.proofs.Common.{◌∙◌, ap, List, ℕ, slice_get, refl, arith}
use Rattle.pp_desk.specs.Closings.{peer_numbers}
use Rattle.pp_desk.specs.Origins.{without_unseen_on}
use Rattle.pp_desk.proofs.OriginLemmas.{count, done_next, done_whole}
use Rattle.pp_places.proofs.unseen.drop_unseen.Goals as goal

pub loop-place-init : goal.loop-place-init
loop-place-init c = record { done = record { is = λ seated. refl; numbers = refl; rest = refl }; connections = refl }

pub loop-place-preserved : goal.loop-place-preserved
loop-place-preserved c =
    let old = c.args.desk.now in
    let mid = c.loop-place.desk in
    let step = c.drop_unseen_at.ensures in
    let before = c.loop-place.invariant in
    record {
      done = done_next without_unseen_on (peer_numbers old.peers) c.loop-place.place (slice_get (peer_numbers mid.peers) c.loop-place.place) old mid c.drop_unseen_at.new.desk before.done
          (ap (λ (ns : List ℕ). slice_get ns c.loop-place.place) before.connections) step.is step.numbers step.rest;
      connections = step.connections ∙ before.connections;
    }

pub returns-clause-is : goal.returns-clause-is
returns-clause-is c =
    let old = c.args.desk.now in
    done_whole without_unseen_on (peer_numbers old.peers) c.loop-place.place old c.loop-place.desk (omega (arith, c.loop-place-test.false, c.len-place-end.ensures.count, count old.peers)) c.loop-place.invariant.done
