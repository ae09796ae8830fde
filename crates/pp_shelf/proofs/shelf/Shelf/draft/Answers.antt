use Rattle.std.proofs.Common.{rules, refl, sym, subst}
use Rattle.pp_store.specs.Held.{Holds}
use Rattle.pp_store.specs.Kept.{KeptMap}
use Rattle.pp_world.specs.Log.{Told}
use Rattle.pp_shelf.proofs.GivenLemmas.{front_of_room, room_reaches}
use Rattle.pp_shelf.proofs.shelf.Shelf.draft.Goals as goal

pub keep-requires : goal.keep-requires
keep-requires g c κs within =
    let whole = c.if-not-has_body.ensures.0 refl in (
      within,
      (
        c.if-not-can_be_written.ensures.0 refl,
        (
          room_reaches _ _ whole,
          (front_of_room g.sent _ _ c.args.room.now whole c.requires.1.0, (search rules, subst (λ (m : KeptMap). Told (g.D.Logged.log c.args.disk.now) (Holds g.sent m)) (sym c.self.view_is) c.requires.1.1)),
        ),
      ),
    )
