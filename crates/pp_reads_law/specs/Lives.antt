-- Which lives were given, and which instances clients follow, amid a read of an origin and behind it (RFC 2616, sections 8.1 and 13.5.4; ours). Of the
-- program alone.
--
-- Where the premise of LivesGoOn comes from: as in Lives of pp_answers_law.
use Rattle.std.specs.Prelude.{ℕ, Option}
use Rattle.pp_answers_law.specs.Lives.{LivesGoOn}
use Rattle.pp_law.specs.Lists.{Bytes}
use Rattle.pp_law.specs.State.{State}
use Rattle.pp_origins.specs.Gots.{Both, GotFrom, Remains}
use Rattle.pp_reads_law.specs.Brings.{IsMoment}
use Rattle.pp_state.specs.Ends.{parts}
use Rattle.pp_store.specs.Kept.{KeptMap}

-- step by step, as many as there are
abbrev pub LivesGoOnInReads : Type 0
LivesGoOnInReads = (most : ℕ) (shelf : KeptMap) (n : ℕ) (here : Option Remains) (x y : Both) → GotFrom most shelf n here x y → LivesGoOn (parts x.state) (parts y.state)

-- and up to each moment between two pieces of the law
abbrev pub LivesGoOnToMoments : Type 0
LivesGoOnToMoments = (pieces : ℕ) (name : Bytes) (shelf : KeptMap) (n : ℕ) (begins x : Both) (from s : State) (all bytes : Bytes) → IsMoment pieces name shelf n begins from all x s bytes → LivesGoOn (parts begins.state) (parts x.state)
