-- What clients name is there, where an event is awaited and where an origin is read, and so at each moment of the read and behind it (RFC 2616,
-- section 13.5.4; ours): each life was given, and each instance that a client follows is in memory.
--
-- Where the premises come from: that the turn shows the law's table, and that each client can be decided, is of the wait (IsAwaited).
use Rattle.std.specs.Prelude.{ℕ, List, Option}
use Rattle.pp_answers_law.specs.Lives.{GivesLives}
use Rattle.pp_answers_law.specs.Making.{AreGivenSeats}
use Rattle.pp_comes_law.specs.Awaited.{IsAwaited}
use Rattle.pp_desk.specs.declared.desk.Desk.{Desk}
use Rattle.pp_law.specs.Lists.{Bytes}
use Rattle.pp_law.specs.State.{State, Term}
use Rattle.pp_origins.specs.Gots.{Both, GotFrom, Remains}
use Rattle.pp_proxy.specs.Handling.{Wakes}
use Rattle.pp_proxy.specs.Moving.{Turning}
use Rattle.pp_reads_law.specs.Brings.{IsMoment}
use Rattle.pp_reads_law.specs.Heads.{FollowedAreThere}
use Rattle.pp_reads_law.specs.Readable.{AreFollowed}
use Rattle.pp_state.specs.Ends.{Parts, parts}
use Rattle.pp_store.specs.Kept.{KeptMap}
use Rattle.pp_world.specs.Log.{Log}
use Rattle.pp_world.specs.declared.event.Wants.{Wants}

-- ---- at one moment

pub record NamesAreThere (p : Parts) : Type 0 where
  pub lives : GivesLives p.cache
  pub given : AreGivenSeats p.cache.lives p.seats
  pub followed : FollowedAreThere p

-- ---- where it begins

abbrev pub AwaitedNamesAreThere : Type 0
AwaitedNamesAreThere = (terms : List Term) (log : Log) (number : ℕ → ℕ) (w : Wants) (x : Turning) (u : State) → IsAwaited terms log number w x u → NamesAreThere (parts x.moving.desk.state)

-- and where it is woken
abbrev pub WokenNamesAreThere : Type 0
WokenNamesAreThere = (terms : List Term) (log : Log) (number : ℕ → ℕ) (w : Wants) (x : Turning) (u : State) (id : ℕ) (woken : Desk) → IsAwaited terms log number w x u → Wakes id x.moving.desk woken → NamesAreThere (parts woken.state)

-- ---- amid a read, and behind it

abbrev pub NamesAreGivenAmidReads : Type 0
NamesAreGivenAmidReads = (pieces : ℕ) (name : Bytes) (shelf : KeptMap) (n : ℕ) (begins x : Both) (from s : State) (all bytes : Bytes) → NamesAreThere (parts begins.state) → IsMoment pieces name shelf n begins from all x s bytes → AreGivenSeats x.state.cache.lives x.state.seats.items

abbrev pub FollowedOnesAreThereAmidReads : Type 0
FollowedOnesAreThereAmidReads = (pieces : ℕ) (name : Bytes) (shelf : KeptMap) (n : ℕ) (begins x : Both) (from s : State) (all bytes : Bytes) → NamesAreThere (parts begins.state) → IsMoment pieces name shelf n begins from all x s bytes → FollowedAreThere (parts x.state)

abbrev pub FollowedOnesAreThereBehindReads : Type 0
FollowedOnesAreThereBehindReads = (most : ℕ) (shelf : KeptMap) (n : ℕ) (here : Option Remains) (begins ends : Both) → NamesAreThere (parts begins.state) → GotFrom most shelf n here begins ends → AreFollowed ends.state
