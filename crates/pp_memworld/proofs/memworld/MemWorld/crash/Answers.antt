use Rattle.pp_memworld.proofs.Replaying.{sound_front}
use Rattle.pp_memworld.proofs.memworld.MemWorld.crash.Goals as goal

pub next_life-requires : goal.next_life-requires
next_life-requires c = sound_front c.args.at c.in-Some.log.now c.in-Some.ensures.sound
