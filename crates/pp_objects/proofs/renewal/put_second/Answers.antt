use Rattle.std.proofs.Common.{List, refl, subst}
use Rattle.std.specs.Prelude.{OnOk, OnErr}
use Rattle.pp_text.specs.Fields.{Field}
use Rattle.pp_objects.specs.Texts.{AddsFields, HasRoomFor}
use Rattle.pp_objects.proofs.DateLemmas.{date_line}
use Rattle.pp_objects.proofs.renewal.put_second.Goals as goal

pub returns-clause-ok : goal.returns-clause-ok
returns-clause-ok c =
    let P : List Field → Type 0 = λ fs. OnOk c.put.result (AddsFields c.args.text.now c.put.new.self fs) in
    subst P (date_line c.args.came c.in-Ok.date c.to_bytes.result (c.in-Ok.ensures.succeeds.0 refl) c.in-Ok.ensures.value c.to_bytes.ensures) c.put.ensures.ok

pub returns-clause-full : goal.returns-clause-full
returns-clause-full c =
    let P : List Field → Type 0 = λ fs. OnErr c.put.result (HasRoomFor fs c.args.text.now → ⊥) in
    subst P (date_line c.args.came c.in-Ok.date c.to_bytes.result (c.in-Ok.ensures.succeeds.0 refl) c.in-Ok.ensures.value c.to_bytes.ensures) c.put.ensures.full
