use Rattle.std.proofs.Common.{◌≡◌, ◌∙◌, ◌++◌, ap, sym, Option, Some, None}
use Rattle.std.specs.Option.{option_map}
use Rattle.std.specs.Map.Iter.{deref_pair}
use Rattle.pp_world.specs.Disk.{Bytes}
use Rattle.pp_world.specs.Files.{Files, with_file}
use Rattle.pp_memworld.specs.Images.{first_file}
use Rattle.pp_memworld.proofs.Listed.{all_behind, behind, copied_one, fewer_behind, none_behind}
use Rattle.pp_memworld.proofs.image.copy_of.Goals as goal

pub loop-name-init : goal.loop-name-init
loop-name-init c = ap (λ (copy : Files). copy ++ behind None c.args.image.now) c.new-copy.ensures ∙ all_behind c.args.image.now

pub loop-name-smaller : goal.loop-name-smaller
loop-name-smaller c =
    let first : Some (c.in-Some.name.now, c.in-Some.file.now) ≡ first_file (behind c.loop-name.after c.args.image.now) = sym (ap (option_map deref_pair) c.in-Some.is) ∙ c.next_file.ensures ∙ ap (λ (after : Option Bytes). first_file (behind after c.args.image.now)) c.as_ref.ensures.value in
    fewer_behind c.loop-name.after c.args.image.now (c.in-Some.name.now, c.in-Some.file.now) c.requires first

pub loop-name-preserved : goal.loop-name-preserved
loop-name-preserved c =
    let first : Some (c.in-Some.name.now, c.in-Some.file.now) ≡ first_file (behind c.loop-name.after c.args.image.now) = sym (ap (option_map deref_pair) c.in-Some.is) ∙ c.next_file.ensures ∙ ap (λ (after : Option Bytes). first_file (behind after c.args.image.now)) c.as_ref.ensures.value in
    copied_one c.loop-name.after c.args.image.now c.loop-name.copy c.put.new.self (c.in-Some.name.now, c.in-Some.file.now) c.requires c.loop-name.invariant first
    (c.in_ok-put.ensures.ok ∙ ap (λ (f : Bytes). with_file c.in-Some.name.now f c.loop-name.copy) (c.in_ok-copy.ensures ∙ c.as_slice.ensures))

pub returns : goal.returns
returns c =
    none_behind c.loop-name.after c.args.image.now c.loop-name.copy c.loop-name.invariant
    (sym (ap (option_map deref_pair) c.in_default.is) ∙ c.next_file.ensures ∙ ap (λ (after : Option Bytes). first_file (behind after c.args.image.now)) c.as_ref.ensures.value)
