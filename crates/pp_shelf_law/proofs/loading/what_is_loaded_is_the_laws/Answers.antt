use Rattle.pp_shelf_law.proofs.Loaded.{loaded_bytes, loads, unreads}
use Rattle.pp_shelf_law.proofs.loading.what_is_loaded_is_the_laws.Goals as goal

pub returns : goal.returns
returns c = record { loads = loads; bytes = loaded_bytes; unread = unreads }
