use Rattle.pp_shelf_law.proofs.Opened.{opened_ones}
use Rattle.pp_shelf_law.proofs.Recovering.{fresh_ones, unread_names}
use Rattle.pp_shelf_law.proofs.opening.what_is_found_is_the_laws.Goals as goal

pub returns : goal.returns
returns c = record { fresh = fresh_ones; unread = unread_names; opened = opened_ones }
