use Rattle.std.proofs.Common.{◌+◌, ◌-◌, ◌≡◌, List, ℕ, refl, ap, arith}
use Rattle.std.specs.List.{filter}
use Rattle.pp_pool.specs.Chunks.{is_not}
use Rattle.pp_pool.proofs.Links.{some_used, ring-given, line-given}
use Rattle.pp_pool.proofs.ring.Ring.give.Goals as goal

pub invariant_of-self : goal.invariant_of-self
invariant_of-self c =
    let xs : List ℕ = filter (is_not c.args.number) c.args.self.now.used in
    let some = some_used c.self.inside c.touch.new.self xs c.args.number c.self.invariant c.self.view_is (ap (λ l. l.used) c.touch.ensures) in
    let less : c.self.inside.used - 1 + 1 ≡ c.self.inside.used = omega (arith, some) in
    ring-given c.self.inside _ c.touch.new.self xs c.args.number c.self.invariant c.self.view_is (ap (λ l. l.used) c.touch.ensures) refl refl refl less refl

pub returns : goal.returns
returns c =
    let xs : List ℕ = filter (is_not c.args.number) c.args.self.now.used in
    let some = some_used c.self.inside c.touch.new.self xs c.args.number c.self.invariant c.self.view_is (ap (λ l. l.used) c.touch.ensures) in
    let less : c.self.inside.used - 1 + 1 ≡ c.self.inside.used = omega (arith, some) in
    line-given c.self.inside c.touch.new.self c.args.self.now xs c.args.number (c.self.inside.used - 1) c.self.invariant c.self.view_is (ap (λ l. l.used) c.touch.ensures) (ap (λ l. l.size) c.touch.ensures) less
