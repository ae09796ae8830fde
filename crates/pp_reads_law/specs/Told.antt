-- What exchanges of clients joined is told by its number, amid a read of an origin and behind it (RFC 2616, section 13.5.4; ours).
--
-- Of each client by itself. Behind a head HeadIsTaken and HeadIsRefused of Heads have it, and behind a whole read IsReadTo of Reads; here of each
-- other step of the pipe.
--
-- Where the premises come from: the turn shows the law's table before the step and behind it (ShowsSides of `pp_turns_law`), and the law takes no
-- number back (`got-quiet` in proofs/QuietHeads of `pp_laws_replies`).
use Rattle.std.specs.Prelude.{◌≡◌, ◌≤◌, ℕ, Bool, List, slice_get, Some, ⊤}
use Rattle.pp_cache_law.specs.Tables.{ShowsTable}
use Rattle.pp_law.specs.State.{State}
use Rattle.pp_objects.specs.declared.id.ObjectId.{ObjectId}
use Rattle.pp_origins.specs.Gots.{Both, TakesStep}
use Rattle.pp_pipe.specs.declared.step.Step.{Step}
use Rattle.pp_pipe.specs.declared.step.Step.TheVariants.{Head, Body, End, Bad, Idle}
use Rattle.pp_seats.specs.declared.seat.Brought.TheVariants.{Joins}
use Rattle.pp_seats.specs.declared.seat.Seat.{Seat}
use Rattle.pp_state.specs.Ends.{Parts, parts}
use Rattle.pp_states_law.specs.Told.{IsTold}
use Rattle.pp_store.specs.Kept.{KeptMap}

-- of the client at this place
abbrev pub IsToldAt : ℕ → (ℕ → ℕ) → Parts → State → Type 0
IsToldAt i number p s = (seat : Seat) (id : ObjectId) (plain : Bool) → slice_get p.seats i ≡ Some seat → seat.brought ≡ Joins id plain → IsTold number p.cache s.next_instance id

-- what each joined that was told by these numbers is told by those
abbrev pub StaysTold : (ℕ → ℕ) → Parts → State → (ℕ → ℕ) → Parts → State → Type 0
StaysTold before p s number q t = (i : ℕ) → IsToldAt i before p s → IsToldAt i number q t

abbrev pub IsNoHead : Step → Type 0
IsNoHead Head = ⊥
IsNoHead (Body from to) = ⊤
IsNoHead End = ⊤
IsNoHead Bad = ⊤
IsNoHead Idle = ⊤

-- by the same numbers: nothing is joined in it
abbrev pub StepsLeaveAllTold : Type 0
StepsLeaveAllTold = (number : ℕ → ℕ) (step : Step) (shelf : KeptMap) (k : ℕ) (came : List ℕ) (x y : Both) (s t : State) → IsNoHead step → TakesStep step shelf k came x y → ShowsTable number x.state.cache s → ShowsTable number y.state.cache t → s.next_instance ≤ t.next_instance
    → StaysTold number (parts x.state) s number (parts y.state) t
