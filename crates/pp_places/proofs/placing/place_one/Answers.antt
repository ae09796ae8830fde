use Rattle.std.proofs.Common.{◌≡◌, ◌∙◌, ap, sym, List, ℕ, [], ◌∷◌, refl}
use Rattle.pp_links.specs.Links.{Link}
use Rattle.pp_peers.specs.declared.placing.Placed.TheVariants.{CloseThenDial}
use Rattle.pp_places.specs.Around.{around, moment_of}
use Rattle.pp_places.specs.Placing.{given_way}
use Rattle.pp_desk.specs.Shutting.{closings}
use Rattle.pp_desk.specs.declared.desk.Desk.{Desk}
use Rattle.pp_links.proofs.FailureLemmas.{counted_none}
use Rattle.pp_places.proofs.PlacingLemmas.{as_placed, closings_fail_not}
use Rattle.pp_places.proofs.placing.place_one.Goals as goal

pub returns-in-CloseThenDial-clause-is : goal.returns-in-CloseThenDial-clause-is
returns-in-CloseThenDial-clause-is g c = λ seated.
    let old : Desk = c.args.desk.now in
    let new : Desk = c.give_way.new.desk in
    let k = c.in-CloseThenDial.k in
    let top = g.W.Logged.top in
    let step = c.give_way.ensures in
    let x = around old c.args.links.now (top c.args.world.now) in
    let y = around new c.give_way.new.links (top c.give_way.new.world) in
    let same : y ≡ given_way k x =
    ap (λ (d : Desk). around d c.give_way.new.links (top c.give_way.new.world)) step.rest
    ∙ ap (λ (ls : List Link). record (given_way k x) { links = ls; top = top c.give_way.new.world }) step.links
    ∙ ap (λ (n : ℕ). record (given_way k x) { top = n }) step.top in
    record {
      added = closings (k ∷ []) c.args.links.now;
      is = as_placed (moment_of old.state) c.args.number x (closings (k ∷ []) c.args.links.now) y (CloseThenDial k) (sym c.in-CloseThenDial.is ∙ c.place_of.ensures) (refl, same);
      told = step.told;
      counted = counted_none (closings (k ∷ []) c.args.links.now) (closings_fail_not (k ∷ []) c.args.links.now) step.faults;
    }
