-- What stands in a turn stands as replies begin at its end (ours).
--
-- Where the premises come from: where a turn shows a state of the law that a lawful log may go on as from, no body has more than 2^30 bytes
-- (`pp_laws_fields`), and the last round of a turn stands so (HasServedWith of `pp_rounds_law`). The name has 64 bytes at most by its type.
use Rattle.std.specs.Prelude.{◌≤◌, ◌<◌, ◌^◌, List, [], ◌∷◌, length, ⊤}
use Rattle.pp_desk.specs.declared.desk.Desk.{Desk}
use Rattle.pp_law.specs.Replies.{begin_replies}
use Rattle.pp_law.specs.State.{State}
use Rattle.pp_objects.specs.Instances.{Instance}
use Rattle.pp_proxy.specs.Rounds.{BeginsAll}
use Rattle.pp_stays_law.specs.Turns.{AreCounted, NoSeatIsRefused, TextsHaveRoom}

-- the length of each body has 64 bits
abbrev pub BodiesAreShort : List Instance → Type 0
BodiesAreShort [] = ⊤
BodiesAreShort (i ∷ is) = (i.version.length < 2 ^ 64) × BodiesAreShort is

abbrev pub GivenAsRepliesBegin : Type 0
GivenAsRepliesBegin = (old new : Desk) → BeginsAll old new → NoSeatIsRefused old.state → NoSeatIsRefused new.state

abbrev pub TextsAsRepliesBegin : Type 0
TextsAsRepliesBegin = (old new : Desk) → length old.state.name.items ≤ 64 → BodiesAreShort old.state.cache.instances → BeginsAll old new → TextsHaveRoom old.state → TextsHaveRoom new.state

-- in the law's state behind them
abbrev pub CountedAsRepliesBegin : Type 0
CountedAsRepliesBegin = (old new : Desk) (s : State) → BeginsAll old new → AreCounted old.state s → AreCounted new.state (begin_replies s)
