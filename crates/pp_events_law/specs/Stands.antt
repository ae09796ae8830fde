-- How a turn stands for the law's state around an event: as one is awaited, as a read or write is owed to it, and once it is handled (RFC
-- 2616, section 8.1; the order is ours).
use Rattle.std.specs.Prelude.{◌≡◌, ◌≤◌, ℕ, List, [], ◌∷◌, find, Some, None, ⊤}
use Rattle.std.specs.List.{All}
use Rattle.pp_turns_law.specs.Log.{AreLinked}
use Rattle.pp_turns_law.specs.Regains.{AllFollow}
use Rattle.pp_desk.specs.Closings.{peer_numbers}
use Rattle.pp_endings_law.specs.Replies.{ShowsDesk}
use Rattle.pp_law.specs.Replies.{regained}
use Rattle.pp_law.specs.State.{State, Phase, Handling, Owed, Free}
use Rattle.pp_links.specs.Links.{Link, is_link}
use Rattle.pp_links.specs.Waits.{links_after}
use Rattle.pp_obeys.specs.Moves.{Leads}
use Rattle.pp_proxy.specs.Moving.{Moving, Turning, moving}
use Rattle.pp_state.specs.Ends.{numbers_of}
use Rattle.pp_turns_law.specs.Firsts.{AreAwake}
use Rattle.pp_turns_law.specs.Rows.{AreReady}
use Rattle.pp_world.specs.Log.{AppendsAll, Log}
use Rattle.pp_world.specs.Wire.{top_after}
use Rattle.pp_world.specs.declared.event.Event.{Event}
use Rattle.pp_world.specs.declared.event.Side.TheVariants.{Client as OfClient}
use Rattle.pp_world.specs.declared.happening.Happening.{Happening}

-- ---- what stands

-- the law is there, and this is still owed to the event; no row left memory for a decision
pub record IsAt (phase : Phase) (owed : Owed) (s : State) : Type 0 where
  pub at : s.phase ≡ phase
  pub owes : s.owed ≡ owed
  pub none : s.made_room_for ≡ None

-- each of these connections is open, as a client's
abbrev pub AreClients : List ℕ → List Link → Type 0
AreClients [] links = ⊤
AreClients (n ∷ ns) links = (find (is_link n) links ≡ Some (n, OfClient)) × AreClients ns links

-- each client and each connection to an origin is open, on its side. No number is above the greatest that was given, of which the law knows
pub record AreOpen (x : Moving) (known : ℕ) : Type 0 where
  -- both from one opening, dial and closing to the next
  pub clients : AreClients (numbers_of x.desk.state.seats.items) x.links
  pub origins : AreLinked (peer_numbers x.desk.peers) x.links
  -- Links.`IsLinked` of `pp_links`
  pub given : All (λ link. link.0 ≤ x.top) x.links
  -- from one number that is given to the next (Wire.`IsNewNumber` of `pp_world`)
  pub top : known ≤ x.top

-- the turn shows the law's state; who is not looked at is asleep
pub record StandsAtEvent (number : ℕ → ℕ) (phase : Phase) (owed : Owed) (x : Moving) (s : State) : Type 0 where
  pub law : IsAt phase owed s
  -- from step to step. Of its `may` IsSoundTurn has all but that more of a response that is passed is to come, as long as its exchange is
  -- there: IsToldOn of `pp_laws_coming`, `told`, has that (`coming`)
  pub desk : ShowsDesk number x.desk s
  -- from a tick to the next
  pub ticked : x.desk.state.has_ticked ≡ s.has_ticked
  -- from wait to wait (Looks of `pp_turns_law`)
  pub awake : AreAwake x.desk.state
  pub opened : AreOpen x s.top

-- each client that goes on can be decided: of its fields `follows` is IsSoundTurn's `sources`, and the others are from step to step
abbrev pub AreReadyAt : (ℕ → ℕ) → Moving → State → Type 0
AreReadyAt number x s = AreReady number x.desk.state.cache s.next_instance x.desk.state.seats.items

-- ---- behind an event

-- nothing is owed any more, and what each client follows is there. Attempts count anew now: in the law with the event, and in the program
-- behind it
pub record IsHandled (number : ℕ → ℕ) (x : Moving) (s : State) : Type 0 where
  pub handled : State
  pub anew : s ≡ regained handled
  pub stands : StandsAtEvent number Handling Free x handled
  pub follows : AllFollow x.desk.state

-- what the program adds for it may come, and leads to this state, behind which the turn stands
pub record HasHandled (number : ℕ → ℕ) (x y : Turning) (log : Log) (s t : State) : Type 0 where
  pub told : AppendsAll x.log y.log (λ l. log)
  pub leads : Leads log s t
  pub handled : IsHandled number y.moving t

-- by whatever it adds
pub record HasLed (number : ℕ → ℕ) (x y : Turning) (s : State) : Type 0 where
  pub log : Log
  pub then : State
  pub handled : HasHandled number x y log s then

-- the same from the wait on, which added the event itself before
pub record HasLedBehind (number : ℕ → ℕ) (h : Happening) (x y : Turning) (s : State) : Type 0 where
  pub log : Log
  pub then : State
  pub told : AppendsAll x.log y.log (λ l. log)
  pub leads : Leads (h ∷ log) s then
  pub handled : IsHandled number y.moving then

-- what comes with an event: the connection of a newcomer is open, and its number is the greatest
abbrev pub come : Event → Turning → Turning
come event x = record x { moving = moving x.moving.desk (links_after (Some event) x.moving.links) (top_after x.moving.top event) }
