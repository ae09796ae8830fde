use Rattle.std.proofs.Common.{◌∷◌, ◌++◌, [], length, map, arith, ◌∙◌, ap, length-append}
use Rattle.pp_text.specs.Fields.{field_in}
use Rattle.pp_objects.specs.Texts.{FieldText}
use Rattle.pp_objects.proofs.KeptLemmas.{fields_more}
use Rattle.pp_objects.proofs.text.KeptText.put.Goals as goal

pub returns-clause-ok : goal.returns-clause-ok
returns-clause-ok c = record {
  fields = ap (map (field_in c.append.new.text.items)) (c.push_reserved.ensures.items ∙ ap (λ ss. ss ++ c.in_ok-span.span ∷ []) c.reserve.ensures.items)
      ∙ fields_more c.self.inside.text.items c.append.new.text.items c.args.name.now c.args.value.now c.in_ok-span.span c.self.inside.spans.items c.in_ok-span.ensures.ok c.self.invariant
      ∙ ap (λ (t : FieldText). t.fields ++ (c.args.name.now, c.args.value.now) ∷ []) c.self.view_is;
  used = omega (
    arith,
    ap length c.in_ok-span.ensures.ok.text,
    length-append (c.self.inside.text.items ++ c.args.name.now) c.args.value.now,
    length-append c.self.inside.text.items c.args.name.now,
    ap (λ (t : FieldText). t.used) c.self.view_is,
  );
  bytes = omega (arith, c.append.ensures.capacity, ap (λ (t : FieldText). t.bytes) c.self.view_is);
  places = omega (arith, c.push_reserved.ensures.capacity, c.reserve.ensures.capacity, ap (λ (t : FieldText). t.places) c.self.view_is);
}
