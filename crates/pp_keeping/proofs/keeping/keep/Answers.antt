use Rattle.std.proofs.Common.{◌≡◌, ℕ, ap, length, subst, true}
use Rattle.pp_desk.specs.declared.desk.Desk.{Desk}
use Rattle.pp_keeping.specs.Keeping.{keeping, GrownNext, RepeatsOn}
use Rattle.pp_keeping.proofs.keeping.keep.Goals as goal

pub returns-clause-is : goal.returns-clause-is
returns-clause-is g c =
    let log = g.W.Logged.log in
    let faults = g.W.Logged.faults in
    let old : Desk = c.args.desk.now in
    let mid = c.take_names.new in
    let new = c.keep_rows.new in
    let taken : Desk = mid.desk in
    let between = keeping taken.state mid.shelf (log mid.world) (faults mid.world) in
    let y = keeping new.desk.state new.shelf (log new.world) (faults new.world) in
    let long : length taken.file.items ≡ length old.file.items = ap (λ (d : Desk). length d.file.items) c.take_names.ensures.rest in
    record {
      between = between;
      takes = c.take_names.ensures.is;
      keeps = subst (λ (n : ℕ). RepeatsOn (GrownNext n) 17 true between y) long c.keep_rows.ensures.is;
    }
