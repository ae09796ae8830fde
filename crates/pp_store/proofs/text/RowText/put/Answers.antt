use Rattle.std.proofs.Common.{ℕ, List, [], ◌∷◌, ◌++◌, map, take, ◌∙◌, ap}
use Rattle.pp_text.specs.declared.fields.FieldSpan.{FieldSpan}
use Rattle.pp_text.specs.Fields.{Field, field_in}
use Rattle.pp_store.specs.Texts.{KeyAndFields}
use Rattle.pp_store.proofs.FieldLemmas.{fields_more, key_kept}
use Rattle.pp_store.proofs.text.RowText.put.Goals as goal

pub returns : goal.returns
returns c =
    ap (λ (k : List ℕ). record { key = k; fields = map (field_in c.append.new.text.items) c.push_reserved.new.self.items })
    (key_kept c.self.inside.text.items c.append.new.text.items c.args.name.now c.args.value.now c.in_ok-span.span c.self.inside.key_len c.in_ok-span.ensures.ok c.self.invariant.0)
    ∙ ap (λ (fs : List Field). record { key = take c.self.inside.key_len c.self.inside.text.items; fields = fs })
    (ap (map (field_in c.append.new.text.items)) (c.push_reserved.ensures.items ∙ ap (λ (ss : List FieldSpan). ss ++ c.in_ok-span.span ∷ []) c.reserve.ensures.items)
    ∙ fields_more c.self.inside.text.items c.append.new.text.items c.args.name.now c.args.value.now c.in_ok-span.span c.self.inside.spans.items c.in_ok-span.ensures.ok c.self.invariant.1)
    ∙ ap (λ (t : KeyAndFields). record { key = t.key; fields = t.fields ++ (c.args.name.now, c.args.value.now) ∷ [] }) c.self.view_is
