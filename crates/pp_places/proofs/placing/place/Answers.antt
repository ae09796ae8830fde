use Rattle.std.proofs.Common.{◌≡◌, ◌∙◌, ap, sym, subst, List, ℕ, None, Some, le_trans, arith}
use Rattle.std.proofs.lemmas.Grind.{common_steps}
use Rattle.pp_links.proofs.QuietLemmas.{quiet_then}
use Rattle.pp_links.specs.Leading.{LeadsOn}
use Rattle.pp_places.specs.Around.{around, moment_of}
use Rattle.pp_desk.specs.Closings.{Sides, sides}
use Rattle.pp_places.specs.Placing.{ArePlaced, IsPlaced, goes_on_behind, next_waiting, place_for}
use Rattle.pp_desk.specs.declared.desk.Desk.{Desk}
use Rattle.pp_desk.proofs.ClosingLemmas.{kept_then}
use Rattle.pp_places.proofs.PlacingLemmas.{all_placed, most_placed, one_more_placed}
use Rattle.pp_state.specs.Ends.{AreInOrder}
use Rattle.pp_places.proofs.placing.place.Goals as goal

pub loop-place-preserved : goal.loop-place-preserved
loop-place-preserved g c =
    let old : Desk = c.args.desk.now in
    let mid : Desk = c.loop-place.desk in
    let new : Desk = c.place_one-after.new.desk in
    let top = g.W.Logged.top in
    let log = g.W.Logged.log in
    let faults = g.W.Logged.faults in
    let step = c.place_one-after.ensures in
    let before = c.loop-place.invariant in
    let number = c.in-Some.number in
    let here = around mid c.loop-place.links (top c.loop-place.world) in
    let there = around new c.place_one-after.new.links (top c.place_one-after.new.world) in
    let waits : next_waiting c.loop-place.after (sides mid) ≡ Some number = sym c.waiting.ensures ∙ c.in-Some.is in
    record {
      linked = step.linked;
      quiet = quiet_then before.quiet step.quiet;
      is = λ seated.
          one_more_placed 65536 c.loop-place._place (moment_of old.state) number c.loop-place.after c.place_one-after.result (around old c.args.links.now (top c.args.world.now)) here there
          (log c.args.world.now) (log c.loop-place.world) (log c.place_one-after.new.world) (faults c.args.world.now) (faults c.loop-place.world) (faults c.place_one-after.new.world) c.loop-place-test.true (before.is seated) waits
          (subst (λ (d : Desk). LeadsOn (IsPlaced (moment_of d.state) number) here there (log c.loop-place.world) (log c.place_one-after.new.world) (faults c.loop-place.world) (faults c.place_one-after.new.world)) before.rest (step.is (subst (λ (ns : List ℕ). AreInOrder ns) (sym before.numbers) seated)))
          (step.after ∙ ap (λ (d : Desk). goes_on_behind (place_for d.state.limits number (sides mid)) number) before.rest);
      numbers = step.numbers ∙ before.numbers;
      rest = kept_then old mid new before.rest step.rest;
      faults = le_trans before.faults step.faults;
    }

pub returns-clause-is : goal.returns-clause-is
returns-clause-is g c = λ seated.
    let old : Desk = c.args.desk.now in
    let top = g.W.Logged.top in
    let log = g.W.Logged.log in
    let faults = g.W.Logged.faults in
    let x = around old c.args.links.now (top c.args.world.now) in
    let mid = around c.loop-place.desk c.loop-place.links (top c.loop-place.world) in
    subst (λ (s : Sides). LeadsOn (ArePlaced 65536 (moment_of old.state) None) x (record mid { sides = s }) (log c.args.world.now) (log c.loop-place.world) (faults c.args.world.now) (faults c.loop-place.world)) (sym c.note_left.ensures.is)
    (most_placed 65536 c.loop-place._place (moment_of old.state) c.loop-place.after x mid (log c.args.world.now) (log c.loop-place.world) (faults c.args.world.now) (faults c.loop-place.world)
    (omega (arith, c.loop-place-test.false)) (c.loop-place.invariant.is seated))

pub returns-clause-rest : goal.returns-clause-rest
returns-clause-rest g c = kept_then c.args.desk.now c.loop-place.desk c.note_left.new.desk c.loop-place.invariant.rest c.note_left.ensures.rest

pub returns-in_default-clause-is : goal.returns-in_default-clause-is
returns-in_default-clause-is g c = λ seated.
    let old : Desk = c.args.desk.now in
    let top = g.W.Logged.top in
    let log = g.W.Logged.log in
    let faults = g.W.Logged.faults in
    let none : next_waiting c.loop-place.after (sides c.loop-place.desk) ≡ None = grind (arith, common_steps) in
    all_placed 65536 c.loop-place._place (moment_of old.state) c.loop-place.after (around old c.args.links.now (top c.args.world.now)) (around c.loop-place.desk c.loop-place.links (top c.loop-place.world)) (log c.args.world.now) (log c.loop-place.world) (faults c.args.world.now) (faults c.loop-place.world)
    (c.loop-place.invariant.is seated) none
