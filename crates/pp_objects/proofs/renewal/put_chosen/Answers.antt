use Rattle.std.proofs.Common.{◌∷◌, [], List, filter, take, sym, ◌+◌, subst, arith, rules}
use Rattle.pp_text.specs.Fields.{Field, field_at}
use Rattle.pp_objects.specs.Texts.{FieldText, AddsFields, HasRoomFor, is_chosen}
use Rattle.pp_objects.proofs.TextLemmas.{on_err, adds_both, chosen_more, chosen_less, room_at}
use Rattle.pp_objects.proofs.renewal.put_chosen.Goals.{then-is_chosen+in_ok-put, else-is_chosen}
use Rattle.pp_objects.proofs.renewal.put_chosen.Goals as goal

pub returns-in_err-put-clause-full : goal.returns-in_err-put-clause-full
returns-in_err-put-clause-full c =
    let P : Field → Type 0 = λ f. HasRoomFor (f ∷ []) c.loop-index.text in
    let name = sym c.name.ensures in
    let value = sym c.value.ensures in
    on_err c.from_residual.result (λ room. c.in_err-put.ensures.full (subst P (λ i. (name i, value i))
    (room_at (is_chosen c.args.choice c.args.fields.now) c.args.fields.now c.loop-index.index c.args.text.now c.loop-index.text (search rules) (search rules) c.loop-index.invariant room)))

pub loop-index-preserved : goal.loop-index-preserved
loop-index-preserved c = elim c.if-is_chosen.branch [
  | then-is_chosen+in_ok-put w ↦ (
      let P : List Field → Type 0 = λ fs. AddsFields c.args.text.now w.put.new.self fs in
      let Q : FieldText → Type 0 = λ t. AddsFields c.args.text.now t (filter (is_chosen c.args.choice c.args.fields.now) (take (c.loop-index.index + 1) c.args.fields.now)) in
      let R : Field → Type 0 = λ f. AddsFields c.loop-index.text w.put.new.self (f ∷ []) in
      subst Q (sym w.text-is) (subst P (sym (chosen_more (is_chosen c.args.choice c.args.fields.now) c.args.fields.now c.loop-index.index (omega (arith, c.loop-index-test.true, c.len-index-end.ensures)) (sym w.if-is_chosen.ensures)))
      (adds_both c.args.text.now c.loop-index.text w.put.new.self _ (field_at c.args.fields.now c.loop-index.index ∷ []) c.loop-index.invariant (subst R (λ i. (w.name.ensures i, w.value.ensures i)) w.in_ok-put.ensures.ok))))
  | else-is_chosen w ↦ (
      let Q : FieldText → Type 0 = λ t. AddsFields c.args.text.now t (filter (is_chosen c.args.choice c.args.fields.now) (take (c.loop-index.index + 1) c.args.fields.now)) in
      let P : List Field → Type 0 = λ fs. AddsFields c.args.text.now c.loop-index.text fs in
      subst Q (sym w.text-is) (subst P (sym (chosen_less (is_chosen c.args.choice c.args.fields.now) c.args.fields.now c.loop-index.index (omega (arith, c.loop-index-test.true, c.len-index-end.ensures)) (sym w.if-is_chosen.ensures))) c.loop-index.invariant))
]
