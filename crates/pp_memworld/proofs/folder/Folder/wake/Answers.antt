use Rattle.std.proofs.Common.{◌∙◌, ap, sym, refl}
use Rattle.std.specs.List.{list_any}
use Rattle.std.specs.Map.{lookup}
use Rattle.std.specs.Ordering.{is_eq}
use Rattle.pp_world.specs.Files.{name_order}
use Rattle.pp_memworld.specs.Slots.{files_in}
use Rattle.pp_memworld.proofs.Listed.{rested_at}
use Rattle.pp_memworld.proofs.folder.Folder.wake.Goals as goal

pub returns-clause-hears : goal.returns-clause-hears
returns-clause-hears c = record {
  hears = λ name view shown. record {
    draft = refl;
    failed = sym (ap (list_any (λ n. is_eq (name_order name n))) c.new.ensures.empty);
    slot = sym (ap (λ es. files_in (lookup (λ n. is_eq (name_order name n)) es)) c.in_ok-self.ensures ∙ rested_at (λ n. is_eq (name_order name n)) c.args.image.now);
  };
}
