use Rattle.std.proofs.Common.{◌≡◌, ◌∙◌, ap, sym, Some, None}
use Rattle.std.specs.Option.{option_copied, option_map}
use Rattle.pp_world.specs.Disk.{Bytes}
use Rattle.pp_world.specs.Files.{file_of, next_name}
use Rattle.pp_memworld.proofs.Listed.{found_next}
use Rattle.pp_memworld.proofs.image.next_file.Goals as goal

pub returns-in_err-file : goal.returns-in_err-file
returns-in_err-file c =
    let next : next_name (option_copied c.args.after) c.args.image.now ≡ Some c.in_ok-name.name.now = sym c.next_name.ensures ∙ ap option_copied c.in_ok-name.was in
    let file = found_next (option_copied c.args.after) c.args.image.now c.in_ok-name.name.now c.requires next in
    let bad : None ≡ Some file.0 = sym (ap option_copied c.in_err-file.was) ∙ c.get.ensures ∙ file.2 in
    absurd (cc)

pub returns : goal.returns
returns c =
    let next : next_name (option_copied c.args.after) c.args.image.now ≡ Some c.in_ok-name.name.now = sym c.next_name.ensures ∙ ap option_copied c.in_ok-name.was in
    let file = found_next (option_copied c.args.after) c.args.image.now c.in_ok-name.name.now c.requires next in
    let got : Some c.in_ok-file.file.now ≡ file_of c.in_ok-name.name.now c.args.image.now = sym (ap option_copied c.in_ok-file.was) ∙ c.get.ensures in
    ap (option_map (λ (f : Bytes). (c.in_ok-name.name.now, f))) (got ∙ file.2) ∙ sym file.1
