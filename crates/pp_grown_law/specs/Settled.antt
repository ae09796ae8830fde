-- From the first decision of a turn to its next event nothing comes that is to be kept: rows come in without bytes, and go (ours).
--
-- Where the premises come from: the cache is bounded behind what is kept on the disk (TakesEvent of `pp_proxy`), and exchanges are numbered as they
-- show the law's (Numbered).
use Rattle.std.specs.Prelude.{◌≡◌, ℕ, List}
use Rattle.pp_cache.specs.Bounds.{IsBounded}
use Rattle.pp_desk.specs.declared.desk.Desk.{Desk}
use Rattle.pp_proxy.specs.Awaiting.{Awaits, Rests}
use Rattle.pp_proxy.specs.Moving.{Moving}
use Rattle.pp_proxy.specs.Settling.{Settles}
use Rattle.pp_state.specs.declared.state.State.{State as Turn}
use Rattle.pp_store.specs.Kept.{KeptMap}
use Rattle.pp_world.specs.Log.{Log}
use Rattle.pp_world.specs.declared.event.Wants.{Wants}
use Rattle.pp_grown_law.specs.Less.{BringsNothing}
use Rattle.pp_grown_law.specs.Numbered.{AreNumbered}

-- nothing is brought behind what is kept, and no instance is noted as grown
pub record StaysAsGrown (p q : Turn) (shelf new : KeptMap) : Type 0 where
  pub brings : BringsNothing p q shelf new
  pub grown : q.cache.grown ≡ p.cache.grown

-- decisions and rounds; at Stop, closings
abbrev pub SettlingsBringNothing : Type 0
SettlingsBringNothing = (shelf : KeptMap) (x y : Moving) (log : Log) → IsBounded x.desk.state.cache → AreNumbered x.desk.state.flow → Settles shelf x log y → StaysAsGrown x.desk.state y.desk.state shelf shelf

-- and the wait
abbrev pub WaitsBringNothing : Type 0
WaitsBringNothing = (shelf : KeptMap) (before : List ℕ) (w : Wants) (clients : ℕ) (d e f : Desk) → Awaits before w clients d e → Rests w clients e f → StaysAsGrown d.state f.state shelf shelf
