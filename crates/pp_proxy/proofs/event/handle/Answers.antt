use Rattle.std.proofs.Common.{refl, sym, subst, arith}
use Rattle.pp_proxy.specs.Handling.{Handles}
use Rattle.pp_proxy.specs.Moving.{turning}
use Rattle.pp_world.specs.declared.event.Event.{Event}
use Rattle.pp_proxy.proofs.event.handle.Goals as goal

pub returns-in-Stop-clause-is : goal.returns-in-Stop-clause-is
returns-in-Stop-clause-is g c = λ seated.
    let top = g.W.Logged.top in
    let log = g.W.Logged.log in
    let faults = g.W.Logged.faults in
    let x = turning c.args.shelf.now c.args.desk.now c.args.links.now (top c.args.world.now) (log c.args.world.now) (faults c.args.world.now) in
    let y = turning c.args.shelf.now c.stop.new.desk c.args.links.now (top c.args.world.now) (log c.args.world.now) (faults c.args.world.now) in
    subst (λ (e : Event). Handles e x y) (sym c.in-Stop.is) (c.stop.ensures, record { shelf = refl; links = refl; top = refl; told = refl; count = omega arith })

pub returns-in-Tick-clause-is : goal.returns-in-Tick-clause-is
returns-in-Tick-clause-is g c = λ seated.
    let top = g.W.Logged.top in
    let log = g.W.Logged.log in
    let faults = g.W.Logged.faults in
    let x = turning c.args.shelf.now c.args.desk.now c.args.links.now (top c.args.world.now) (log c.args.world.now) (faults c.args.world.now) in
    let y = turning c.args.shelf.now c.tick.new.desk c.args.links.now (top c.args.world.now) (log c.args.world.now) (faults c.args.world.now) in
    subst (λ (e : Event). Handles e x y) (sym c.in-Tick.is) (record { is = c.tick.ensures.is seated; awake = c.tick.ensures.awake; room = c.tick.ensures.room; rest = c.tick.ensures.rest }, record { shelf = refl; links = refl; top = refl; told = refl; count = omega arith })

pub returns-in-Accepted-clause-is : goal.returns-in-Accepted-clause-is
returns-in-Accepted-clause-is g c = λ seated.
    let top = g.W.Logged.top in
    let log = g.W.Logged.log in
    let faults = g.W.Logged.faults in
    let x = turning c.args.shelf.now c.args.desk.now c.args.links.now (top c.args.world.now) (log c.args.world.now) (faults c.args.world.now) in
    let y = turning c.args.shelf.now c.accept.new.desk c.args.links.now (top c.args.world.now) (log c.args.world.now) (faults c.args.world.now) in
    subst (λ (e : Event). Handles e x y) (sym c.in-Accepted.is) (c.accept.ensures, record { shelf = refl; links = refl; top = refl; told = refl; count = omega arith })

pub returns-in-Readable-clause-is : goal.returns-in-Readable-clause-is
returns-in-Readable-clause-is g c = λ seated.
    let top = g.W.Logged.top in
    let log = g.W.Logged.log in
    let faults = g.W.Logged.faults in
    let x = turning c.args.shelf.now c.args.desk.now c.args.links.now (top c.args.world.now) (log c.args.world.now) (faults c.args.world.now) in
    let y = turning c.args.shelf.now c.read.new.desk c.read.new.links (top c.read.new.world) (log c.read.new.world) (faults c.read.new.world) in
    subst (λ (e : Event). Handles e x y) (sym c.in-Readable.is) (c.read.ensures.is seated)

pub returns-in-Writable-clause-is : goal.returns-in-Writable-clause-is
returns-in-Writable-clause-is g c = λ seated.
    let top = g.W.Logged.top in
    let log = g.W.Logged.log in
    let faults = g.W.Logged.faults in
    let x = turning c.args.shelf.now c.args.desk.now c.args.links.now (top c.args.world.now) (log c.args.world.now) (faults c.args.world.now) in
    let y = turning c.write.new.shelf c.write.new.desk c.write.new.links (top c.write.new.world) (log c.write.new.world) (faults c.write.new.world) in
    subst (λ (e : Event). Handles e x y) (sym c.in-Writable.is) (c.write.ensures.is seated)

pub returns-in-Reached-clause-is : goal.returns-in-Reached-clause-is
returns-in-Reached-clause-is g c = λ seated.
    let top = g.W.Logged.top in
    let log = g.W.Logged.log in
    let faults = g.W.Logged.faults in
    let x = turning c.args.shelf.now c.args.desk.now c.args.links.now (top c.args.world.now) (log c.args.world.now) (faults c.args.world.now) in
    let y = turning c.args.shelf.now c.reach.new.desk c.args.links.now (top c.args.world.now) (log c.args.world.now) (faults c.args.world.now) in
    subst (λ (e : Event). Handles e x y) (sym c.in-Reached.is) (c.reach.ensures seated, record { shelf = refl; links = refl; top = refl; told = refl; count = omega arith })

pub returns-in-Broken-clause-is : goal.returns-in-Broken-clause-is
returns-in-Broken-clause-is g c = λ seated.
    let top = g.W.Logged.top in
    let log = g.W.Logged.log in
    let faults = g.W.Logged.faults in
    let x = turning c.args.shelf.now c.args.desk.now c.args.links.now (top c.args.world.now) (log c.args.world.now) (faults c.args.world.now) in
    let y = turning c.args.shelf.now c.lose.new.desk c.args.links.now (top c.lose.new.world) (log c.lose.new.world) (faults c.lose.new.world) in
    subst (λ (e : Event). Handles e x y) (sym c.in-Broken.is) (c.lose.ensures.is seated, record { shelf = refl; links = refl; top = c.lose.ensures.top; told = c.lose.ensures.told; count = c.lose.ensures.faults })
