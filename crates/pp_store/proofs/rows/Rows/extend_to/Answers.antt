use Rattle.std.proofs.Common.{List, arith, refl, sym, ◌∙◌, ap, subst}
use Rattle.std.specs.Prelude.{IsSome, cond, find, map}
use Rattle.std.specs.BTreeMap.{get}
use Rattle.std.specs.Option.{option_copied}
use Rattle.pp_world.specs.Files.{name_order}
use Rattle.pp_store.specs.Changes.{extended_to}
use Rattle.pp_store.specs.Kept.{Kept, IsExtent, is_of, no_row}
use Rattle.pp_store.proofs.TableLemmas.{no_place, place_in, place_of_key, row-there, set-extended, table_extended}
use Rattle.pp_store.proofs.rows.Rows.extend_to.Goals as goal

pub returns-in_default : goal.returns-in_default
returns-in_default c =
    absurd (no_place c.self.inside.list.items c.args.key.now c.self.invariant.once (subst (λ (list : List Kept). IsSome (find (is_of c.args.key.now) list)) (sym c.self.view_is) c.requires.kept) c.self.inside.places c.self.invariant.at
    (ap (get name_order c.self.inside.places) (sym c.file_name.ensures) ∙ sym c.get.ensures.value ∙ ap option_copied c.in_default.is))

pub index_mut-row-requires : goal.index_mut-row-requires
index_mut-row-requires c =
    omega (arith, place_in c.self.inside.places c.self.inside.list.items c.file_name.result c.in-Some.place.now c.self.invariant.at (sym c.get.ensures.value ∙ ap option_copied c.in-Some.is), c.self.inside.list.ok)

pub extend_to-requires : goal.extend_to-requires
extend_to-requires c =
    let kept = subst (λ (list : List Kept). IsSome (find (is_of c.args.key.now) list)) (sym c.self.view_is) c.requires.kept in
    let there = place_of_key c.self.inside.list.items c.args.key.now c.self.invariant.once kept c.self.inside.places c.self.invariant.at c.in-Some.place.now
    (ap (get name_order c.self.inside.places) (sym c.file_name.ensures) ∙ sym c.get.ensures.value ∙ ap option_copied c.in-Some.is) in
    subst (λ (row : Kept). IsExtent row.entry.version.length c.args.extent)
    (ap (λ (list : List Kept). Rattle.std.specs.Prelude.unwrap_or (find (is_of c.args.key.now) list) no_row) (sym c.self.view_is)
    ∙ row-there c.self.inside.list.items c.args.key.now c.self.invariant.once kept c.in-Some.place.now c.index_mut-row.result.now there c.index_mut-row.ensures.value)
    c.requires.whole

pub invariant_of-self : goal.invariant_of-self
invariant_of-self c =
    let kept = subst (λ (list : List Kept). IsSome (find (is_of c.args.key.now) list)) (sym c.self.view_is) c.requires.kept in
    let there = place_of_key c.self.inside.list.items c.args.key.now c.self.invariant.once kept c.self.inside.places c.self.invariant.at c.in-Some.place.now
    (ap (get name_order c.self.inside.places) (sym c.file_name.ensures) ∙ sym c.get.ensures.value ∙ ap option_copied c.in-Some.is) in
    table_extended c.self.inside _ c.args.key.now c.args.extent c.self.invariant
    (set-extended c.self.inside.list.items c.args.key.now c.self.invariant.once kept c.in-Some.place.now c.args.extent c.index_mut-row.result.now c.extend_to.new.self there c.index_mut-row.ensures.value c.extend_to.ensures) refl

pub returns : goal.returns
returns c =
    let kept = subst (λ (list : List Kept). IsSome (find (is_of c.args.key.now) list)) (sym c.self.view_is) c.requires.kept in
    let there = place_of_key c.self.inside.list.items c.args.key.now c.self.invariant.once kept c.self.inside.places c.self.invariant.at c.in-Some.place.now
    (ap (get name_order c.self.inside.places) (sym c.file_name.ensures) ∙ sym c.get.ensures.value ∙ ap option_copied c.in-Some.is) in
    set-extended c.self.inside.list.items c.args.key.now c.self.invariant.once kept c.in-Some.place.now c.args.extent c.index_mut-row.result.now c.extend_to.new.self there c.index_mut-row.ensures.value c.extend_to.ensures
    ∙ ap (map (λ row. cond (is_of c.args.key.now row) (extended_to c.args.extent row) row)) c.self.view_is
