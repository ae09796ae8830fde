-- What the code holds of an entry.
use Rattle.pp_entry.specs.Entries.{shown_entry}
use Rattle.pp_recover.specs.declared.examine.Found.{Found}
use Rattle.pp_store.specs.Kept.{Kept}

abbrev pub shown_found : Found → Kept
shown_found found = record { entry = shown_entry found.entry; extent = found.extent }
