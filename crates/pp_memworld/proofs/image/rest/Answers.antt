use Rattle.std.proofs.Common.{◌≡◌, ◌∙◌, ◌++◌, ◌∷◌, [], List, map, ap, sym, Option, Some, None}
use Rattle.std.specs.Option.{option_map}
use Rattle.std.specs.Map.Iter.{deref_pair}
use Rattle.std.specs.BTreeMap.{insert_entry}
use Rattle.pp_world.specs.Disk.{Bytes, Stored, settled}
use Rattle.pp_world.specs.Files.{name_order}
use Rattle.pp_memworld.specs.Images.{first_file}
use Rattle.pp_memworld.specs.Slots.{Candidates, rested}
use Rattle.pp_memworld.proofs.Listed.{all_behind, behind, rested_one, fewer_behind}
use Rattle.pp_memworld.proofs.image.rest.Goals as goal

pub loop-name-init : goal.loop-name-init
loop-name-init c = ap (λ (slots : List (Bytes × Candidates)). slots ++ map rested (behind None c.args.image.now)) c.new-slots.ensures.empty ∙ ap (map rested) (all_behind c.args.image.now)

pub loop-name-smaller : goal.loop-name-smaller
loop-name-smaller c =
    let first : Some (c.in-Some.name.now, c.in-Some.file.now) ≡ first_file (behind c.loop-name.after c.args.image.now) = sym (ap (option_map deref_pair) c.in-Some.is) ∙ c.next_file.ensures ∙ ap (λ (after : Option Bytes). first_file (behind after c.args.image.now)) c.as_ref.ensures.value in
    fewer_behind c.loop-name.after c.args.image.now (c.in-Some.name.now, c.in-Some.file.now) c.requires first

pub loop-name-preserved : goal.loop-name-preserved
loop-name-preserved c =
    let first : Some (c.in-Some.name.now, c.in-Some.file.now) ≡ first_file (behind c.loop-name.after c.args.image.now) = sym (ap (option_map deref_pair) c.in-Some.is) ∙ c.next_file.ensures ∙ ap (λ (after : Option Bytes). first_file (behind after c.args.image.now)) c.as_ref.ensures.value in
    let rests : c.of-slot.result ≡ Some (settled c.in-Some.file.now) ∷ [] = c.of-slot.ensures ∙ ap (λ (f : Stored). Some f ∷ []) (c.in_ok-file.ensures ∙ ap settled c.as_slice.ensures) in
    rested_one c.loop-name.after c.args.image.now c.loop-name.slots.entries c.put.new.slots.entries (c.in-Some.name.now, c.in-Some.file.now) c.requires c.loop-name.invariant first
    (c.in_ok-put.ensures.entries ∙ ap (insert_entry name_order c.loop-name.slots.entries c.in-Some.name.now) rests)
