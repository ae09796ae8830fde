-- What exchanges of clients joined, behind the final head of a response: each joined it before, or it is in memory (RFC 2616, section 13.5.4; ours). Of
-- the program alone.
use Rattle.std.specs.Prelude.{◌≡◌, ◌⊎◌, ℕ, Bool, true, List, slice_get, Some, ⊤}
use Rattle.pp_answers.specs.FinalHeads.{TakesHead}
use Rattle.pp_flow.specs.declared.entry.Aim.{Aim}
use Rattle.pp_flow.specs.declared.entry.Aim.TheVariants.{Own, Hole, Pass as Through}
use Rattle.pp_flow.specs.declared.entry.Exchange.{Exchange}
use Rattle.pp_flow.specs.declared.errand.Errand.{Errand}
use Rattle.pp_framing.specs.declared.body.BodyRule.{BodyRule}
use Rattle.pp_head.specs.Response.{Response}
use Rattle.pp_objects.specs.Instances.{is_there}
use Rattle.pp_objects.specs.declared.id.ObjectId.{ObjectId}
use Rattle.pp_seats.specs.declared.seat.Brought.TheVariants.{Joins}
use Rattle.pp_seats.specs.declared.seat.Seat.{Seat}
use Rattle.pp_state.specs.Ends.{Parts, parts}
use Rattle.pp_state.specs.declared.state.State.{State as Turn}

-- the exchange of the client at this place had joined it
pub record WasJoined (seats : List Seat) (i : ℕ) (id : ObjectId) : Type 0 where
  pub old : Seat
  pub here : slice_get seats i ≡ Some old
  pub plain : Bool
  pub joined : old.brought ≡ Joins id plain

-- each that is joined was joined before, or is one of these
abbrev pub JoinedOr : (ObjectId → Type 0) → List Seat → List Seat → Type 0
JoinedOr G olds news = (i : ℕ) (seat : Seat) (id : ObjectId) (plain : Bool) → slice_get news i ≡ Some seat → seat.brought ≡ Joins id plain → WasJoined olds i id ⊎ G id

-- it is there, before or then
abbrev pub IsThereIn : Parts → Parts → ObjectId → Type 0
IsThereIn p q id = (is_there id p.cache.instances ≡ true) ⊎ (is_there id q.cache.instances ≡ true)

-- to a request, and not to the ask of a follower, which may be over behind the head
abbrev pub IsWhole : Aim → Type 0
IsWhole Own = ⊤
IsWhole (Hole v from to) = ⊥
IsWhole Through = ⊤

-- also where memory is refused
abbrev pub HeadsJoinWhatIsThere : Type 0
HeadsJoinWhatIsThere = (n : ℕ) (head : Response) (rule : BodyRule) (e : Exchange) (errand : Errand) (p : Turn) (q : Parts) → IsWhole e.aim → TakesHead n e errand head rule p q → JoinedOr (IsThereIn (parts p) q) p.seats.items q.seats
