use Rattle.std.proofs.Common.{◌≡◌, ◌+◌, ◌-◌, length, take, drop, sym, arith}
use Rattle.std.proofs.lemmas.Grind.{common_steps}
use Rattle.pp_conf.proofs.Lines.{lines_found, lines_missed}
use Rattle.pp_conf.proofs.text.cut_line.Goals as goal

pub returns-in-Some-clause-lines : goal.returns-in-Some-clause-lines
returns-in-Some-clause-lines c =
    let tail : take (length c.args.text.now - (c.in-Some.at + 1)) (drop (c.in-Some.at + 1) c.args.text.now) ≡ drop (c.in-Some.at + 1) c.args.text.now
    = grind (arith, common_steps) in
    rw (tail, c.strip_cr.ensures) (lines_found c.args.text.now c.in-Some.at (sym c.in-Some.ensures.place))

pub returns-in-None-clause-lines : goal.returns-in-None-clause-lines
returns-in-None-clause-lines c = lines_missed c.args.text.now (sym c.in-None.ensures.place)
