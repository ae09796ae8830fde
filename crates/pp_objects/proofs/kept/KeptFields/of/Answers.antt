use Rattle.std.proofs.Common.{List, arith, subst}
use Rattle.pp_text.specs.Fields.{Field}
use Rattle.pp_objects.specs.Kept.{renewal_of}
use Rattle.pp_objects.specs.Texts.{AddsFields}
use Rattle.pp_objects.proofs.Refreshing.{kept_holds}
use Rattle.pp_objects.proofs.kept.KeptFields.of.Goals as goal

pub invariant_of-result : goal.invariant_of-result
invariant_of-result c =
    let P : List Field → Type 0 = λ none. AddsFields c.reserve.new.self c.put_renewal.new.text (renewal_of none c.args.fields.now c.args.times) in
    kept_holds c.args.fields.now c.args.times c.in_ok-shown.shown c.put_chosen.new.text c.reserve.new.self c.put_renewal.new.text c.in_ok-spare.spare
    c.in_ok-shown.ensures.fields c.in_ok-shown.ensures.used c.in_ok-put_chosen.ensures.ok (omega (arith, c.used-used.ensures, c.if-used.false))
    c.reserve.ensures.same.0 (omega (arith, c.reserve.ensures.same.1, c.in_ok-reserve.ensures.bytes)) (omega (arith, c.in_ok-reserve.ensures.places))
    (subst P c.new-none.ensures c.in_ok-put_renewal.ensures.ok)
    (omega (arith, c.used-used.ensures, c.in_ok-spare.ensures.bytes)) (omega (arith, c.len-count.ensures, c.in_ok-spare.ensures.places))
