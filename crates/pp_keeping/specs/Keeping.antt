-- What is taken away and kept in a turn, one behind the other (ours).
use Rattle.std.specs.Prelude.{◌≡◌, ℕ, zero, suc, ◌-◌, Bool, true, false, List, [], ◌∷◌, ◌++◌, length, take, Option, Some, None}
use Rattle.pp_cache.specs.Memory.{Memory}
use Rattle.pp_cache.specs.OnDisk.{kept_to}
use Rattle.pp_keeping.specs.Kept.{Outside, TakesAway, key_under, outside, unkept_of}
use Rattle.pp_keeping.specs.Runs.{KeepsNext}
use Rattle.pp_keeping.specs.declared.run.Outcome.{Outcome}
use Rattle.pp_keeping.specs.declared.run.Outcome.TheVariants.{LostDraft, To}
use Rattle.pp_objects.specs.declared.id.ObjectId.{ObjectId}
use Rattle.pp_state.specs.Astray.{gone_astray_where}
use Rattle.pp_state.specs.declared.state.State.{State}
use Rattle.pp_store.specs.Kept.{KeptMap}
use Rattle.pp_world.specs.Log.{Log}

-- what changes together
pub record Keeping : Type 0 where
  pub state : State
  pub outside : Outside

abbrev pub keeping : State → KeptMap → Option Log → ℕ → Keeping
keeping s shelf log faults = record { state = s; outside = outside shelf log faults }

abbrev pub with_memory : Memory → State → State
with_memory m s = record s { cache = m }

abbrev pub all_but_last : {A : Type 0} → List A → List A
all_but_last xs = take (length xs - 1) xs

-- as long as it goes on, and so often at most; behind the last it ends so, by whether it would go on
unfoldable pub RepeatsTo : (Bool → Keeping → Keeping) → (Keeping → Keeping → Bool → Type 0) → ℕ → Bool → Keeping → Keeping → Type 0
RepeatsTo End Step zero goes x y = y ≡ End goes x
RepeatsTo End Step (suc more) false x y = y ≡ x
RepeatsTo End Step (suc more) true x y = (next : Keeping) × (again : Bool) × Step x next again × RepeatsTo End Step more again next y

abbrev pub ends_there : Bool → Keeping → Keeping
ends_there goes x = x

-- for each of a list, of which none is left
abbrev pub Repeats : (Keeping → Keeping → Bool → Type 0) → ℕ → Bool → Keeping → Keeping → Type 0
Repeats Step more goes x y = RepeatsTo ends_there Step more goes x y

-- this life goes astray
abbrev pub ends_astray : Bool → Keeping → Keeping
ends_astray goes x = record x { state = gone_astray_where goes x.state }

-- more often than there can be anything to do; where there is more all the same, this life goes astray
abbrev pub RepeatsOn : (Keeping → Keeping → Bool → Type 0) → ℕ → Bool → Keeping → Keeping → Type 0
RepeatsOn Step more goes x y = RepeatsTo ends_astray Step more goes x y

-- ---- what stands no more is taken away

abbrev pub without_name : Memory → Memory
without_name m = record m { outdated = all_but_last m.outdated }

-- the last of the names whose entry stands for its row no more is forgotten, and its entry taken away
pub record TakesName (x y : Keeping) : Type 0 where
  pub name : List ℕ
  pub last : x.state.cache.outdated ≡ all_but_last x.state.cache.outdated ++ name ∷ []
  pub takes : TakesAway (key_under name x.outside.shelf) x.outside y.outside
  pub state : y.state ≡ with_memory (unkept_of (key_under name x.outside.shelf) (without_name x.state.cache)) x.state

abbrev pub TakesNext : Keeping → Keeping → Bool → Type 0
TakesNext x y false = (x.state.cache.outdated ≡ []) × (y ≡ x)
TakesNext x y true = TakesName x y

-- ---- what came is kept as far as it is whole

abbrev pub goes_on : Option Outcome → Bool
goes_on None = false
goes_on (Some (To extent)) = true
goes_on (Some LostDraft) = false

abbrev pub with_outcome : ObjectId → Option Outcome → State → State
with_outcome id None s = s
with_outcome id (Some (To extent)) s = record s { cache = record s.cache { extents = kept_to id extent s.cache.extents } }
with_outcome id (Some LostDraft) s = record s { has_lost_draft = true }

pub record KeepsRun (id : ObjectId) (room : ℕ) (x y : Keeping) (goes : Bool) : Type 0 where
  pub outcome : Option Outcome
  pub keeps : KeepsNext x.state id room x.outside y.outside outcome
  pub state : y.state ≡ with_outcome id outcome x.state
  pub goes_is : goes ≡ goes_on outcome

abbrev pub without_grown : Memory → Memory
without_grown m = record m { grown = all_but_last m.grown }

-- the last of the instances to which bytes joined is forgotten, and kept run for run: a row has a draft, and the longest body 16,384
-- of one chunk, and behind them there is none
pub record KeepsGrown (room : ℕ) (x y : Keeping) : Type 0 where
  pub id : ObjectId
  pub last : x.state.cache.grown ≡ all_but_last x.state.cache.grown ++ id ∷ []
  pub runs : RepeatsOn (KeepsRun id room) 16386 true (record x { state = with_memory (without_grown x.state.cache) x.state }) y

abbrev pub GrownNext : ℕ → Keeping → Keeping → Bool → Type 0
GrownNext room x y false = (x.state.cache.grown ≡ []) × (y ≡ x)
GrownNext room x y true = KeepsGrown room x y

-- ---- all of it: each name that is outdated, and then each of 16 instances at most, behind which there is none

pub record KeepsAll (room : ℕ) (x y : Keeping) : Type 0 where
  pub between : Keeping
  pub takes : Repeats TakesNext (length x.state.cache.outdated) true x between
  pub keeps : RepeatsOn (GrownNext room) 17 true between y
