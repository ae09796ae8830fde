use Rattle.std.proofs.Common.{ap, sym, refl}
use Rattle.std.specs.List.{list_any}
use Rattle.std.specs.Map.{lookup}
use Rattle.std.specs.Ordering.{is_eq}
use Rattle.pp_world.specs.Disk.{view_of}
use Rattle.pp_world.specs.Files.{name_order}
use Rattle.pp_memworld.specs.Slots.{files_in}
use Rattle.pp_memworld.proofs.folder.Folder.new.Goals as goal

pub returns : goal.returns
unfolding view_of
returns c = record {
  shown = λ name. record {
    draft = refl;
    failed = sym (ap (list_any (λ n. is_eq (name_order name n))) c.new-2.ensures.empty);
    slot = sym (ap (λ es. files_in (lookup (λ n. is_eq (name_order name n)) es)) c.new.ensures.empty);
  };
}
