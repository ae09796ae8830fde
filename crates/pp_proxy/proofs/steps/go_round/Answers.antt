use Rattle.std.proofs.Common.{◌≡◌, ◌∙◌, sym, subst, refl, ℕ, List}
use Rattle.pp_desk.specs.declared.desk.Desk.{Desk}
use Rattle.pp_proxy.proofs.StepsLemmas.{all_filled, closes_on, given_up, gone_round, places_on}
use Rattle.pp_proxy.specs.Moving.{moving}
use Rattle.pp_state.specs.Ends.{AreInOrder, AreSeated, numbers_of}
use Rattle.pp_state.specs.declared.state.State.{State}
use Rattle.pp_proxy.proofs.steps.go_round.Goals as goal

as_many : (old new : State) → numbers_of new.seats.items ≡ numbers_of old.seats.items → AreSeated old → AreSeated new
as_many old new numbers seated = subst (λ (ns : List ℕ). AreInOrder ns) (sym numbers) seated

pub returns-clause-is : goal.returns-clause-is
returns-clause-is g c = λ seated.
    let old : Desk = c.args.desk.now in
    let seen : Desk = c.drop_unseen.new.desk in
    let given : Desk = record seen { state = c.give_up_asks.new.state } in
    let asked : Desk = record seen { state = c.fill.new.state } in
    let closed : Desk = c.close_over.new.self in
    let placed : Desk = c.place.new.desk in
    let new : Desk = c.decide.new.desk in
    let top = g.W.Logged.top in
    let log = g.W.Logged.log in
    let faults = g.W.Logged.faults in
    let drops = c.drop_unseen.ensures in
    let gives = c.give_up_asks.ensures in
    let fills = c.fill.ensures in
    let closes = c.close_over.ensures in
    let places = c.place.ensures in
    let decides = c.decide.ensures in
    let seen_seated : AreSeated seen.state = as_many old.state seen.state drops.numbers seated in
    let asked_seated : AreSeated asked.state = as_many seen.state asked.state (fills.numbers ∙ gives.numbers) seen_seated in
    let closed_seated : AreSeated closed.state = closes.seated asked_seated in
    let placed_seated : AreSeated placed.state = as_many closed.state placed.state places.numbers closed_seated in
    let x = moving old c.args.links.now (top c.args.world.now) in
    let asking = moving asked c.args.links.now (top c.args.world.now) in
    let left = moving closed c.close_over.new.links (top c.close_over.new.world) in
    let there = moving placed c.place.new.links (top c.place.new.world) in
    let y = moving new c.decide.new.links (top c.decide.new.world) in
    gone_round c.args.shelf.now x seen given asked left there y c.decide.result (log c.args.world.now) (log c.close_over.new.world) (log c.place.new.world) (log c.decide.new.world)
    (faults c.args.world.now) (faults c.close_over.new.world) (faults c.place.new.world) (faults c.decide.new.world)
    (record { is = drops.is seated; numbers = drops.numbers; rest = drops.rest })
    (given_up seen given.state (gives.is seen_seated) gives.numbers gives.astray gives.rest)
    (all_filled given asked.state fills.is fills.numbers fills.rest)
    (closes_on asking left (log c.args.world.now) (log c.close_over.new.world) (faults c.args.world.now) (faults c.close_over.new.world)
    (record { log_is = refl; links = closes.links; top = closes.top; seats = closes.seats; awake = closes.awake; room = closes.room; peers = closes.peers; rest = closes.rest }) closes.told closes.faults)
    (places_on left there (log c.close_over.new.world) (log c.place.new.world) (faults c.close_over.new.world) (faults c.place.new.world) (places.is closed_seated) places.numbers places.rest)
    (decides.is placed_seated)

pub returns-clause-seated : goal.returns-clause-seated
returns-clause-seated g c = λ seated.
    let old : Desk = c.args.desk.now in
    let seen : Desk = c.drop_unseen.new.desk in
    let asked : Desk = record seen { state = c.fill.new.state } in
    let closed : Desk = c.close_over.new.self in
    let asked_seated : AreSeated asked.state = as_many old.state asked.state (c.fill.ensures.numbers ∙ c.give_up_asks.ensures.numbers ∙ c.drop_unseen.ensures.numbers) seated in
    let closed_seated : AreSeated closed.state = c.close_over.ensures.seated asked_seated in
    as_many closed.state c.decide.new.desk.state (c.decide.ensures.numbers ∙ c.place.ensures.numbers) closed_seated
