use Rattle.std.proofs.Common.{◌≡◌, ◌∙◌, ap, List, ℕ, slice_get, subst, refl, arith}
use Rattle.pp_desk.specs.Closings.{peer_numbers, sides, where_there}
use Rattle.pp_desk.specs.Origins.{without_idle_on}
use Rattle.pp_desk.specs.declared.desk.Desk.{Desk}
use Rattle.pp_state.specs.Ends.{AreSeated}
use Rattle.pp_desk.proofs.OriginLemmas.{count, done_next, done_whole}
use Rattle.pp_origins.proofs.idle.close_idle.Goals as goal

pub loop-place-init : goal.loop-place-init
loop-place-init c = record { done = record { is = λ seated. refl; numbers = refl; rest = refl }; connections = refl }

pub loop-place-preserved : goal.loop-place-preserved
loop-place-preserved c =
    let old : Desk = c.args.desk.now in
    let mid : Desk = c.loop-place.desk in
    let new : Desk = c.close_idle_at.new.desk in
    let step = c.close_idle_at.ensures in
    let before = c.loop-place.invariant in
    let at = slice_get (peer_numbers mid.peers) c.loop-place.place in
    let Is : ℕ → Type 0 = λ now. AreSeated mid.state → sides new ≡ where_there (without_idle_on now) (sides mid) at in
    record {
      done = done_next (without_idle_on old.state.now) (peer_numbers old.peers) c.loop-place.place at old mid new before.done (ap (λ (ns : List ℕ). slice_get ns c.loop-place.place) before.connections)
          (subst Is (ap (λ (d : Desk). d.state.now) before.done.rest) step.is) step.numbers step.rest;
      connections = step.connections ∙ before.connections;
    }

pub returns-clause-is : goal.returns-clause-is
returns-clause-is c =
    let old : Desk = c.args.desk.now in
    done_whole (without_idle_on old.state.now) (peer_numbers old.peers) c.loop-place.place old c.loop-place.desk (omega (arith, c.loop-place-test.false, c.len-place-end.ensures.count, count old.peers)) c.loop-place.invariant.done
