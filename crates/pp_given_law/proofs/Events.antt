-- What holds of each client holds behind each event, in a life that did not go astray by it.
use Rattle.std.proofs.Common.{◌≡◌, ◌≤◌, inl, inr, sym, subst, ap, ◌∙◌, ℕ, Bool, true, false, length, take, List, [], Option, Some, None, Ok, Err}
use Rattle.std.specs.Prelude.{vec_capacity}
use Rattle.pp_desk.specs.Calls.{Found}
use Rattle.pp_desk.specs.Closings.{Sides}
use Rattle.pp_desk.specs.declared.desk.Desk.{Desk}
use Rattle.pp_framing.specs.declared.body.BodyRule.{BodyRule}
use Rattle.pp_head.specs.Response.{Response}
use Rattle.pp_origins.specs.Gots.{Both, EndsBehind, IsReceived, Receives, both, remaining, sides_of}
use Rattle.pp_origins.specs.Responses.{origin_gone}
use Rattle.pp_proxy.specs.Accepting.{IsAccepted, newcomer}
use Rattle.pp_proxy.specs.Handling.{Handles, ReadsBy, ReceivesOn, Wakes, WritesBy}
use Rattle.pp_proxy.specs.Moving.{Turning, at_desk}
use Rattle.pp_reads_law.specs.Keys.{HasRoomForData}
use Rattle.pp_seats.specs.declared.seat.Seat.{Seat}
use Rattle.pp_state.specs.Ends.{numbers_of, parts, place_of}
use Rattle.pp_state.specs.declared.state.State.{State}
use Rattle.pp_store.specs.Kept.{KeptMap}
use Rattle.pp_world.specs.declared.event.Event.{Event}
use Rattle.pp_world.specs.declared.event.Event.TheVariants.{Stop, Tick, Accepted, Readable, Writable, Reached, Broken}
use Rattle.pp_world.specs.declared.event.Got.TheVariants.{Bytes, End as Ended, NotYet}
use Rattle.pp_given_law.proofs.Carried.{ReadsFit, Stay, Suits, same, stay_then, strays}
use Rattle.pp_given_law.proofs.Brings.{gone_stays, reads_stay}
use Rattle.pp_given_law.proofs.Talks.{hears_stay, replies_stay}
use Rattle.pp_given_law.proofs.Written.{asks_stay, breaks_stay, reaches_stay, says_stay, seated_stays, stops_stay, ticks_stay, wakes_stay}

module _ (S : Seat → Type 0) (Fits : List ℕ → Response → BodyRule → Type 0) (suits : Suits S Fits) where
  -- ---- an origin is read

  ends_stay : (made : Sides → Sides) (x y : Both) → EndsBehind made x y → Stay S (made (sides_of x)).parts (parts y.state)
  ends_stay made x y behind = replies_stay S Fits suits x.state.awake.items (made (sides_of x)) (sides_of y) behind.is

  gone : (is_clean : Bool) (k : ℕ) (x y : Both) → EndsBehind (origin_gone is_clean k) x y → Stay S (parts x.state) (parts y.state)
  gone is_clean k x y is = stay_then (parts x.state) (origin_gone is_clean k (sides_of x)).parts (parts y.state) (gone_stays S Fits suits is_clean k (sides_of x)) (ends_stay (origin_gone is_clean k) x y is)

  as_it_was : (x y : Both) → y ≡ x → Stay S (parts x.state) (parts y.state)
  as_it_was x y is = same (parts x.state) (parts y.state) (ap (λ (b : Both). parts b.state) is)

  received : (found : Found) (shelf : KeptMap) (k : ℕ) (front : List ℕ) (x y : Both) → ReadsFit Fits x.state.name.items → IsReceived found shelf k front x y → Stay S (parts x.state) (parts y.state)
  received None shelf k front x y fits is = as_it_was x y is
  received (Some (Ok (Bytes n))) shelf k front x y fits is =
      stay_then (parts x.state) (parts is.0.state) (parts y.state) (reads_stay S Fits suits 65600 shelf k (Some (remaining (take n front) [])) x is.0 fits is.1) (ends_stay (λ z. z) is.0 y is.2)
  received (Some (Ok Ended)) shelf k front x y fits is = gone true k x y is
  received (Some (Ok NotYet)) shelf k front x y fits is = as_it_was x y is
  received (Some (Err fault)) shelf k front x y fits is = gone false k x y is

  receives_stay : (k : ℕ) (x y : Turning) → ReadsFit Fits x.moving.desk.state.name.items → HasRoomForData x → ReceivesOn k x y → Stay S (parts x.moving.desk.state) (parts y.moving.desk.state)
  receives_stay k x y fits room receives =
      let all : Receives (length x.moving.desk.buffer.items) x.shelf k x.moving.links (both x.moving.desk) (both y.moving.desk) x.log y.log = receives.receives room in
      let old : Both = both x.moving.desk in
      let new : Both = both y.moving.desk in
      stay_then (parts old.state) (parts all.begins.state) (parts new.state)
      (same (parts old.state) (parts all.begins.state) (ap (λ (z : Sides). z.parts) all.same.is))
      (received all.found x.shelf k all.front all.begins new (subst (λ (name : List ℕ). ReadsFit Fits name) (sym (ap (λ (s : State). s.name.items) all.same.rest)) fits) all.is)

  -- ---- each

  accepts_stay : (c : ℕ) (old new : Desk) → S (newcomer c old) → IsAccepted c old new → Stay S (parts old.state) (parts new.state)
  accepts_stay c old new its (inl is) = seated_stays S Fits suits (newcomer c old) old new its is
  accepts_stay c old new its (inr is) = strays (parts old.state) (parts new.state) (ap (λ (d : Desk). d.state.is_astray) is.rest)

  woken_name : (id : ℕ) (old woken : Desk) → Wakes id old woken → woken.state.name.items ≡ old.state.name.items
  woken_name id old woken wakes = ap (λ (d : Desk). d.state.name.items) wakes.touches.rest ∙ ap (λ (d : Desk). d.state.name.items) wakes.regains.rest

  woken_room : (id : ℕ) (x : Turning) (woken : Desk) → Wakes id x.moving.desk woken → HasRoomForData x → HasRoomForData (at_desk woken x)
  woken_room id x woken wakes room =
      subst (λ (n : ℕ). length woken.buffer.items ≤ n) (sym (ap (λ (d : Desk). vec_capacity d.«data») wakes.touches.rest ∙ ap (λ (d : Desk). vec_capacity d.«data») wakes.regains.rest))
      (subst (λ (n : ℕ). n ≤ vec_capacity x.moving.desk.«data») (sym (ap (λ (d : Desk). length d.buffer.items) wakes.touches.rest ∙ ap (λ (d : Desk). length d.buffer.items) wakes.regains.rest)) room)

  reads_by : (o : Option ℕ) (id : ℕ) (x y : Turning) (woken : Desk) → ReadsFit Fits x.moving.desk.state.name.items → HasRoomForData x → Wakes id x.moving.desk woken → ReadsBy o id (at_desk woken x) y → Stay S (parts x.moving.desk.state) (parts y.moving.desk.state)
  reads_by (Some i) id x y woken fits room wakes is = stay_then (parts x.moving.desk.state) (parts woken.state) (parts y.moving.desk.state) (wakes_stay S Fits suits id x.moving.desk woken wakes) (hears_stay S Fits suits i (at_desk woken x) y is)
  reads_by None id x y woken fits room wakes is =
      stay_then (parts x.moving.desk.state) (parts woken.state) (parts y.moving.desk.state) (wakes_stay S Fits suits id x.moving.desk woken wakes)
      (receives_stay id (at_desk woken x) y (subst (λ (name : List ℕ). ReadsFit Fits name) (sym (woken_name id x.moving.desk woken wakes)) fits) (woken_room id x woken wakes room) is)

  writes_by : (o : Option ℕ) (id : ℕ) (x y : Turning) (woken : Desk) → Wakes id x.moving.desk woken → WritesBy o id (at_desk woken x) y → Stay S (parts x.moving.desk.state) (parts y.moving.desk.state)
  writes_by (Some i) id x y woken wakes is = stay_then (parts x.moving.desk.state) (parts woken.state) (parts y.moving.desk.state) (wakes_stay S Fits suits id x.moving.desk woken wakes) (says_stay S Fits suits i (at_desk woken x) y is)
  writes_by None id x y woken wakes is = stay_then (parts x.moving.desk.state) (parts woken.state) (parts y.moving.desk.state) (wakes_stay S Fits suits id x.moving.desk woken wakes) (asks_stay S Fits suits id (at_desk woken x) y is)

  pub handles_stay : ((c : ℕ) (d : Desk) → S (newcomer c d)) → (event : Event) (x y : Turning) → ReadsFit Fits x.moving.desk.state.name.items → HasRoomForData x → Handles event x y → Stay S (parts x.moving.desk.state) (parts y.moving.desk.state)
  handles_stay new Stop x y fits room is = stops_stay S Fits suits x.moving.desk y.moving.desk is.0
  handles_stay new (Tick seconds) x y fits room is = ticks_stay S Fits suits seconds x.moving.desk y.moving.desk is.0
  handles_stay new (Accepted c) x y fits room is = accepts_stay c x.moving.desk y.moving.desk (new c x.moving.desk) is.0
  handles_stay new (Readable id) x y fits room is = reads_by (place_of id (numbers_of is.woken.state.seats.items)) id x y is.woken fits room is.wakes is.reads
  handles_stay new (Writable id) x y fits room is = writes_by (place_of id (numbers_of is.woken.state.seats.items)) id x y is.woken is.wakes is.writes
  handles_stay new (Reached k) x y fits room is = reaches_stay S Fits suits k x.moving.desk y.moving.desk is.0
  handles_stay new (Broken k) x y fits room is = breaks_stay S Fits suits k x.moving.desk y.moving.desk is.0
