use Rattle.std.proofs.Common.{refl, rules}
use Rattle.pp_lives.proofs.GivenLemmas.{front_as, room_as, written_as}
use Rattle.pp_lives.proofs.given.keep_in.Goals as goal

pub keep-requires : goal.keep-requires
keep-requires g c κs within = (
  within,
  (
    written_as _ c.args.length _ _ c.in_ok-version.ensures c.fields.ensures (c.if-not-may_be_asked.ensures.written refl),
    (
      room_as c.args.length _ _ _ c.in_ok-version.ensures c.deref_mut.ensures.value c.in-Ok.ensures.room,
      (
        front_as _ c.args.length _ _ _ _ c.in_ok-version.ensures c.deref_mut.ensures.value c.in-Ok.ensures.front (c.if-not-may_be_asked.ensures.front refl),
        (search rules, search),
      ),
    ),
  ),
)
