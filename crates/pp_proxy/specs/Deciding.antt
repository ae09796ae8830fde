-- What is due is taken, one after the other, behind a client for whom there was no memory (the order is ours).
use Rattle.std.specs.Prelude.{◌≡◌, ℕ, zero, suc, Bool, true, false, ◌||◌, List, [], ◌∷◌, ◌++◌, is_some, Option, Some, None}
use Rattle.pp_cache.specs.Bounds.{IsBounded}
use Rattle.pp_desk.specs.Closings.{KeepsDesk}
use Rattle.pp_desk.specs.Shutting.{closings}
use Rattle.pp_due.specs.Entering.{FirstDue}
use Rattle.pp_links.specs.Links.{Link, without}
use Rattle.pp_proxy.specs.Moving.{Moving, with_state}
use Rattle.pp_proxy.specs.Taking.{TakesDue, due_log}
use Rattle.pp_seats.specs.declared.due.Due.{Due}
use Rattle.pp_state.specs.Astray.{gone_astray}
use Rattle.pp_state.specs.Ends.{numbers_of}
use Rattle.pp_state.specs.declared.state.State.{State}
use Rattle.pp_store.specs.Kept.{KeptMap}
use Rattle.pp_world.specs.Log.{Log}
use Rattle.pp_world.specs.declared.happening.Happening.TheVariants.{Noted}
use Rattle.pp_world.specs.declared.note.Cause.TheVariants.{Memory}
use Rattle.pp_world.specs.declared.note.Remark.TheVariants.{Cut}

-- ---- a client for whom there is no memory is cut

abbrev pub turned_log : Option ℕ → List Link → Log
turned_log None links = []
turned_log (Some c) links = Noted (Cut c Memory) ∷ closings (c ∷ []) links

abbrev pub turned_links : Option ℕ → List Link → List Link
turned_links None links = links
turned_links (Some c) links = without c links

pub record TurnsAway (x : Moving) (log : Log) (y : Moving) : Type 0 where
  pub log_is : log ≡ turned_log x.desk.turned_away x.links
  pub desk : y.desk ≡ record x.desk { turned_away = None }
  pub links : y.links ≡ turned_links x.desk.turned_away x.links
  pub top : y.top ≡ x.top

-- ---- what is due to the client at this place is taken

pub record TakesOne (i : ℕ) (due : Due) (x : Moving) (log : Log) (y : Moving) : Type 0 where
  pub log_is : log ≡ due_log i due x.desk.state
  pub is : TakesDue i due x.desk y.desk
  pub bounded : IsBounded y.desk.state.cache
  pub numbers : numbers_of y.desk.state.seats.items ≡ numbers_of x.desk.state.seats.items
  pub rest : KeepsDesk x.desk y.desk
  pub links : y.links ≡ x.links
  pub top : y.top ≡ x.top

-- ---- what is due first, and then what is due first behind it

-- so often at most: where something was due each time, this life goes astray. Whether anything was
unfoldable pub Decides : ℕ → KeptMap → Moving → Log → Moving → Bool → Type 0
Decides zero shelf x log y any = (log ≡ []) × (y ≡ with_state (gone_astray x.desk.state) x) × (any ≡ false)
Decides (suc more) shelf x log y any =
    (found : State) × (due : Option (ℕ × Due)) × FirstDue shelf x.desk.state.awake.items x.desk.state found due × (elim due [
      | None ↦ (log ≡ []) × (y ≡ with_state found x) × (any ≡ false)
      | Some d ↦ (next : Moving) × (first : Log) × (rest : Log) × (later : Bool) × (log ≡ first ++ rest) × TakesOne d.0 d.1 (with_state found x) first next × Decides more shelf next rest y later × (any ≡ true)
    ])

-- ---- both

pub record DecidesAll (shelf : KeptMap) (x : Moving) (log : Log) (y : Moving) (any : Bool) : Type 0 where
  pub between : Moving
  pub first : Log
  pub rest : Log
  pub log_is : log ≡ first ++ rest
  pub turned : TurnsAway x first between
  pub later : Bool
  pub decides : Decides 65536 shelf between rest y later
  pub any_is : any ≡ (is_some x.desk.turned_away || later)
