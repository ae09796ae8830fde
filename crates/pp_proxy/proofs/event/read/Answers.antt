use Rattle.std.proofs.Common.{◌≡◌, ◌∙◌, ap, refl, sym, subst, ℕ, List, Option, Some, None}
use Rattle.pp_desk.specs.declared.desk.Desk.{Desk}
use Rattle.pp_proxy.specs.Handling.{ReadsBy}
use Rattle.pp_proxy.specs.Moving.{turning}
use Rattle.pp_state.specs.Ends.{AreInOrder, AreSeated, numbers_of, place_of}
use Rattle.pp_state.specs.declared.state.State.{State}
use Rattle.pp_proxy.proofs.event.read.Goals as goal

pub returns-in-Some-clause-is : goal.returns-in-Some-clause-is
returns-in-Some-clause-is g c = λ seated.
    let top = g.W.Logged.top in
    let log = g.W.Logged.log in
    let faults = g.W.Logged.faults in
    let woken : Desk = c.wake.new.desk in
    let roused : Desk = record woken { state = c.rouse.new.self } in
    let new = c.hear.new in
    let links = c.args.links.now in
    let shelf = c.args.shelf.now in
    let id = c.args.id in
    let x = turning shelf woken links (top c.args.world.now) (log c.args.world.now) (faults c.args.world.now) in
    let y = turning shelf new.desk links (top new.world) (log new.world) (faults new.world) in
    let woken_seated : AreSeated woken.state = subst (λ (ns : List ℕ). AreInOrder ns) (sym c.wake.ensures.numbers) seated in
    let same : numbers_of roused.state.seats.items ≡ numbers_of woken.state.seats.items = ap (λ (s : State). numbers_of s.seats.items) c.rouse.ensures.rest in
    let roused_seated : AreSeated roused.state = subst (λ (ns : List ℕ). AreInOrder ns) (sym same) woken_seated in
    let at : place_of id (numbers_of woken.state.seats.items) ≡ Some c.in-Some.i = sym (c.seat_of.ensures.place woken_seated) ∙ c.in-Some.is in
    record {
      woken = woken;
      wakes = c.wake.ensures.is seated;
      reads = subst (λ (o : Option ℕ). ReadsBy o id x y) (sym at) (record {
        roused = roused;
        rouses = record { awake = c.rouse.ensures.too; room = c.rouse.ensures.room; rest = ap (λ (s : State). record woken { state = s }) c.rouse.ensures.rest };
        hears = c.hear.ensures.is roused_seated;
        numbers = c.hear.ensures.numbers ∙ same;
        rest = c.hear.ensures.rest;
        long = c.hear.ensures.long;
        one = record { shelf = refl; links = refl; top = c.hear.ensures.top; count = c.hear.ensures.faults };
      });
    }

pub returns-in-None-clause-is : goal.returns-in-None-clause-is
returns-in-None-clause-is g c = λ seated.
    let top = g.W.Logged.top in
    let log = g.W.Logged.log in
    let faults = g.W.Logged.faults in
    let woken : Desk = c.wake.new.desk in
    let new = c.receive.new in
    let shelf = c.args.shelf.now in
    let id = c.args.id in
    let x = turning shelf woken c.args.links.now (top c.args.world.now) (log c.args.world.now) (faults c.args.world.now) in
    let y = turning shelf new.desk c.args.links.now (top new.world) (log new.world) (faults new.world) in
    let woken_seated : AreSeated woken.state = subst (λ (ns : List ℕ). AreInOrder ns) (sym c.wake.ensures.numbers) seated in
    let at : place_of id (numbers_of woken.state.seats.items) ≡ None = sym (c.seat_of.ensures.place woken_seated) ∙ c.in-None.is in
    record {
      woken = woken;
      wakes = c.wake.ensures.is seated;
      reads = subst (λ (o : Option ℕ). ReadsBy o id x y) (sym at) (record {
        receives = c.receive.ensures.is woken_seated;
        numbers = c.receive.ensures.numbers;
        long = c.receive.ensures.long;
        room = c.receive.ensures.room;
        rest = c.receive.ensures.rest;
        one = record { shelf = refl; links = refl; top = c.receive.ensures.top; count = c.receive.ensures.faults };
      });
    }
