-- Followers ask for what is missing, where nobody sees what was dropped, and what they asked for in vain is given up (RFC 7233, section 3.2).
use Rattle.std.specs.Prelude.{◌≡◌, ℕ, List}
use Rattle.pp_asks_law.specs.Rests.{AreCounted, HasNumbers, RestsOn}
use Rattle.pp_desk.specs.Origins.{without_unseen}
use Rattle.pp_desk.specs.declared.desk.Desk.{Desk}
use Rattle.pp_law.specs.State.{State, Term, Deciding}
use Rattle.pp_obeys.specs.Obeys.{Obeys}
use Rattle.pp_proxy.specs.Moving.{Moving}
use Rattle.pp_proxy.specs.Rounds.{Becomes, GivesUp}
use Rattle.pp_rounds_law.specs.Stands.{StandsAmid}
use Rattle.pp_rounds_law.specs.Supplies.{MayAskMore, without_useless}
use Rattle.pp_store.specs.Kept.{KeptMap}
use Rattle.pp_world.specs.Log.{Log}

-- behind the last decision. What follows a row has a key, as its source is one of the key that its request names (`pp_laws`); its next byte is one of the
-- body (`pp_laws_decided`), of which what is kept ends with a chunk, or with the body; and no exchange is nobody's and nowhere (`pp_laws_coming`)
abbrev pub FollowersMayAsk : Type 0
FollowersMayAsk = (terms : List Term) (before : Log) (number : ℕ → ℕ) (shelf : KeptMap) (x : Moving) (seen given : Desk) (s : State) → Obeys terms s before → StandsAmid number shelf x s → RestsOn shelf x.desk.state s → AreCounted x.desk.state s → HasNumbers x.desk.state s
    → s.phase ≡ Deciding → Becomes without_unseen x.desk seen → GivesUp seen given → MayAskMore given.state (without_useless s)
