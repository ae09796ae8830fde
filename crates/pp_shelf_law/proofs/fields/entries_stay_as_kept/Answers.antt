use Rattle.pp_shelf_law.proofs.KeptEntries.{drafts_kept, each_so, loads_kept, opened_kept, seals_kept, takings_kept}
use Rattle.pp_shelf_law.proofs.fields.entries_stay_as_kept.Goals as goal

pub returns : goal.returns
returns c = record { each = each_so; opened = opened_kept; drafted = drafts_kept; sealed = seals_kept; taken = takings_kept; loaded = loads_kept }
