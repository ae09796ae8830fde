use Rattle.std.proofs.Common.{arith}
use Rattle.pp_store.proofs.PlaceLemmas.{place_fits}
use Rattle.pp_store.proofs.loading.read_chunk.Goals as goal

pub overflow_add-body_at : goal.overflow_add-body_at
overflow_add-body_at g c =
    omega (arith, place_fits c.args.site.now.length c.body_at.result c.args.index c.requires.sized c.requires.below c.body_at.ensures, c.from-at.ensures)
