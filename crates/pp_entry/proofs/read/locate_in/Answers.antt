use Rattle.std.proofs.Common.{◌≡◌, ◌≤◌, ◌∙◌, sym, ap, true, length, take, arith, rules, length-take-le}
use Rattle.pp_entry.specs.Entries.{Own, shown_own, is_spelled, kept_in, row_if_spelled, row_among}
use Rattle.std.specs.Prelude.{option_and_then}
use Rattle.pp_entry.proofs.SpellingLemmas.{lines_short, placed, spelled}
use Rattle.pp_entry.proofs.read.locate_in.Goals as goal

pub place-requires-clause-short : goal.place-requires-clause-short
place-requires-clause-short c =
    let own = shown_own c.in_ok-own.own in
    let s = spelled c.args.block.now own c.args.fields.now (sym c.is_spelled.ensures ∙ c.if-not-is_spelled.false) in
    omega (arith, s.short, lines_short own.key own.length (take own.count c.args.fields.now) own.times)

pub place-requires-clause-room : goal.place-requires-clause-room
place-requires-clause-room c =
    let own = shown_own c.in_ok-own.own in
    let s = spelled c.args.block.now own c.args.fields.now (sym c.is_spelled.ensures ∙ c.if-not-is_spelled.false) in
    let within : own.count ≤ length c.args.fields.now = search rules in
    omega (arith, s.few, length-take-le own.count c.args.fields.now within, c.told-spans)

pub returns-clause-placed : goal.returns-clause-placed
returns-clause-placed c =
    let own = shown_own c.in_ok-own.own in
    let is : is_spelled c.args.block.now own (kept_in own c.args.fields.now) ≡ true = sym c.is_spelled.ensures ∙ c.if-not-is_spelled.false in
    placed c.args.block.now own c.args.fields.now c.place.new.spans (row_among c.args.block.now c.args.fields.now)
    (ap (option_and_then (λ (o : Own). row_if_spelled c.args.block.now o (kept_in o c.args.fields.now))) (sym c.in_ok-own.ensures))
    c.told-block is c.place.ensures

pub returns-clause-few : goal.returns-clause-few
returns-clause-few c =
    let own = shown_own c.in_ok-own.own in
    let s = spelled c.args.block.now own c.args.fields.now (sym c.is_spelled.ensures ∙ c.if-not-is_spelled.false) in
    let within : own.count ≤ length c.args.fields.now = search rules in
    omega (arith, s.few, length-take-le own.count c.args.fields.now within)
