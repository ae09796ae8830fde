-- What the read of a chunk rests on before a write (ours): nothing has to leave memory where a write is owed, and the disk is at rest.
--
-- Where the premises come from: `rest_with` of pp_law leaves nothing to leave memory. A row and its entry are of one version, and of a
-- chunk that is kept all is in memory or nothing (`pp_laws_versions`, with the bounds of the cache: WholeChunks, in the proofs of `pp_turn_law`).
use Rattle.std.specs.Prelude.{◌≡◌, ℕ, false, List, []}
use Rattle.pp_events_law.specs.Losses.{IsFirstOwed}
use Rattle.pp_events_law.specs.ToLoad.{AreWhole, HaveOneVersion, StandsOnDisk}
use Rattle.pp_joints_law.specs.Carried.{IsCarried}
use Rattle.pp_law.specs.After.{event, owing}
use Rattle.pp_law.specs.State.{State, Term, WriteTo}
use Rattle.pp_law.specs.Turn.{rest_with}
use Rattle.pp_obeys.specs.Obeys.{Obeys}
use Rattle.pp_proxy.specs.Moving.{Moving}
use Rattle.pp_store.specs.Kept.{KeptMap}
use Rattle.pp_world.specs.Log.{Log}
use Rattle.pp_world.specs.declared.event.Wants.{Wants}

-- nothing has to leave memory
pub record NoneHasToLeave (s : State) : Type 0 where
  pub evicting : s.is_evicting ≡ false
  pub forgotten : s.forgotten ≡ []

-- at the wait
abbrev pub NoneLeavesAtWaits : Type 0
NoneLeavesAtWaits = (w : Wants) (s : State) → NoneHasToLeave (rest_with w s)

-- so it is where a write is owed, before which attempts counted anew
abbrev pub OwedOnesAreFirst : Type 0
OwedOnesAreFirst = (id : ℕ) (s : State) → NoneHasToLeave s → IsFirstOwed (event (owing (WriteTo id) id s))

-- what is carried of the disk, with what it rests on beside
abbrev pub CarriedOnesAreOnDisk : Type 0
CarriedOnesAreOnDisk = (terms : List Term) (log : Log) (shelf : KeptMap) (x : Moving) (s : State) → Obeys terms s log → IsCarried shelf x s → HaveOneVersion s → AreWhole s → StandsOnDisk shelf s
