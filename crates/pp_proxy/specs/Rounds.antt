-- The steps behind the decisions, as long as they bring decisions, and then replies begin (the order is ours).
use Rattle.std.specs.Prelude.{◌≡◌, ℕ, zero, suc, Bool, true, false, [], ◌++◌, None}
use Rattle.pp_desk.specs.Closings.{KeepsDesk, Sides, sides, with_parts}
use Rattle.pp_desk.specs.Origins.{without_unseen}
use Rattle.pp_desk.specs.declared.desk.Desk.{Desk}
use Rattle.pp_flow.specs.Changes.{numbers as flow_numbers}
use Rattle.pp_places.specs.Around.{around, moment_of}
use Rattle.pp_places.specs.Placing.{ArePlaced}
use Rattle.pp_proxy.specs.Closing.{ClosesOver}
use Rattle.pp_proxy.specs.Deciding.{DecidesAll}
use Rattle.pp_proxy.specs.Moving.{Moving, with_desk, with_state}
use Rattle.pp_state.specs.Astray.{gone_astray_where}
use Rattle.pp_state.specs.Ends.{AreInOrder, numbers_of}
use Rattle.pp_steps.specs.Begins.{BeginsReplies}
use Rattle.pp_store.specs.Kept.{KeptMap}
use Rattle.pp_take.specs.Filling.{filled}
use Rattle.pp_take.specs.GivingUp.{all_given_up}
use Rattle.pp_world.specs.Log.{Log}

-- ---- without a word

-- clients, exchanges, the cache and connections become this, and all else stays
pub record Becomes (f : Sides → Sides) (old new : Desk) : Type 0 where
  pub is : sides new ≡ f (sides old)
  pub numbers : numbers_of new.state.seats.items ≡ numbers_of old.state.seats.items
  pub rest : KeepsDesk old new

-- asks without a place that bring nothing are given up, where those without a place stand in the order of their beginnings
pub record GivesUp (old new : Desk) : Type 0 where
  pub is : AreInOrder (flow_numbers old.state.flow.waiting) → sides new ≡ with_parts (all_given_up (flow_numbers old.state.flow.waiting)) (sides old)
  pub numbers : numbers_of new.state.seats.items ≡ numbers_of old.state.seats.items
  pub astray : new.state.is_astray ≡ old.state.is_astray
  pub rest : KeepsDesk old new

-- followers ask
abbrev pub Fills : Desk → Desk → Type 0
Fills old new = Becomes (with_parts (filled old.state.is_stopped old.state.name.items old.state.awake.items)) old new

-- replies begin
pub record BeginsAll (old new : Desk) : Type 0 where
  pub is : BeginsReplies old.state.awake.items old.state new.state
  pub numbers : numbers_of new.state.seats.items ≡ numbers_of old.state.seats.items
  pub rest : record new { state = old.state } ≡ old

-- ---- places

pub record Places (x : Moving) (log : Log) (y : Moving) : Type 0 where
  pub is : ArePlaced 65536 (moment_of x.desk.state) None (around x.desk x.links x.top) log (around y.desk y.links y.top)
  pub numbers : numbers_of y.desk.state.seats.items ≡ numbers_of x.desk.state.seats.items
  pub rest : KeepsDesk x.desk y.desk

-- ---- one round: what nobody will see, asks that bring nothing, followers, connections that are over, places, and decisions again

pub record GoesRound (shelf : KeptMap) (x : Moving) (log : Log) (y : Moving) (any : Bool) : Type 0 where
  pub seen : Desk
  pub given : Desk
  pub asked : Desk
  pub closed : Moving
  pub placed : Moving
  pub closing : Log
  pub placing : Log
  pub deciding : Log
  pub log_is : log ≡ closing ++ placing ++ deciding
  pub drops : Becomes without_unseen x.desk seen
  pub gives : GivesUp seen given
  pub fills : Fills given asked
  pub closes : ClosesOver (with_desk asked x) closing closed
  pub places : Places closed placing placed
  pub decides : DecidesAll shelf placed deciding y any

-- ---- as long as one decided anything

-- so often at most: where the last decided anything, this life goes astray
unfoldable pub GoRounds : ℕ → KeptMap → Bool → Moving → Log → Moving → Type 0
GoRounds zero shelf any x log y = (log ≡ []) × (y ≡ with_state (gone_astray_where any x.desk.state) x)
GoRounds (suc more) shelf false x log y = (log ≡ []) × (y ≡ x)
GoRounds (suc more) shelf true x log y =
    (next : Moving) × (first : Log) × (rest : Log) × (again : Bool) × (log ≡ first ++ rest) × GoesRound shelf x first next again × GoRounds more shelf again next rest y

pub record Serves (shelf : KeptMap) (x : Moving) (log : Log) (y : Moving) : Type 0 where
  pub between : Moving
  pub rounds : GoRounds 65536 shelf true x log between
  pub begins : BeginsAll between.desk y.desk
  pub links : y.links ≡ between.links
  pub top : y.top ≡ between.top
