use Rattle.std.proofs.lemmas.Result.{IfOk-weaker}
use Rattle.pp_lives.proofs.LifeLemmas.{fresh_rooted, opened_holds}
use Rattle.pp_lives.proofs.life.open_folder.Goals as goal

pub open-requires : goal.open-requires
open-requires c = record { fresh = fresh_rooted _ _ _ c.requires.woken c.root.ensures.told }

pub returns : goal.returns
returns c = record {
  holds = IfOk-weaker _ _ _ (λ store holds. opened_holds _ _ store (fresh_rooted _ _ _ c.requires.woken c.root.ensures.told) holds) c.open.ensures.holds;
}
