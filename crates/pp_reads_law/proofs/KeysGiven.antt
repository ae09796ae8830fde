-- Memory was given for the key of each head that was read where an origin is read, and so in each event, in a life that did not go astray by it.
use Rattle.std.proofs.Common.{◌≡◌, ◌≤◌, refl, sym, subst, ap, ◌∙◌, ℕ, Bool, true, false, length, take, List, [], Some, None, Ok, Err}
use Rattle.std.specs.Prelude.{vec_capacity}
use Rattle.pp_desk.specs.Calls.{Found}
use Rattle.pp_desk.specs.Closings.{Sides}
use Rattle.pp_desk.specs.declared.desk.Desk.{Desk}
use Rattle.pp_origins.specs.Gots.{Both, EndsBehind, IsReceived, Receives, both, remaining, sides_of}
use Rattle.pp_origins.specs.Responses.{origin_gone}
use Rattle.pp_proxy.specs.Handling.{ReceivesOn, Wakes}
use Rattle.pp_proxy.specs.Moving.{Turning, at_desk}
use Rattle.pp_seats.specs.Dues.{refused_in}
use Rattle.pp_seats.specs.declared.front.Front.{Front}
use Rattle.pp_state.specs.Ends.{parts}
use Rattle.pp_store.specs.Kept.{KeptMap}
use Rattle.pp_world.specs.declared.event.Got.TheVariants.{Bytes, End as Ended, NotYet}
use Rattle.pp_events_law.proofs.KeysGiven.{gone_gives, handles_give, wakes_give}
use Rattle.pp_events_law.proofs.KeysHeard.{replies_give}
use Rattle.pp_events_law.proofs.KeysKept.{Gives, beside, gives_as, gives_then, keeps}
use Rattle.pp_reads_law.proofs.StayReads.{reads_stay}
use Rattle.pp_reads_law.specs.Keys.{EventsGiveKeys, HasRoomForData, OriginReadsGiveKeys}
use Rattle.pp_reads_law.specs.Stays.{StaysBeside, WasStill}

still_gives : (x y : Both) → StaysBeside x y → Gives (parts x.state) (parts y.state)
still_gives x y all = record {
  calm = all.astray;
  was = λ on j new at. let was : WasStill x.state.seats.items j new = all.clients.was j new at in record { old = was.old; here = was.here; key = λ is. ap (λ (f : Front). refused_in f) (sym was.is.front) ∙ is };
}

ends_give : (made : Sides → Sides) (x y : Both) → EndsBehind made x y → Gives (made (sides_of x)).parts (parts y.state)
ends_give made x y behind = replies_give x.state.awake.items (made (sides_of x)) (sides_of y) behind.is

gone : (is_clean : Bool) (k : ℕ) (x y : Both) → EndsBehind (origin_gone is_clean k) x y → Gives (parts x.state) (parts y.state)
gone is_clean k x y is = gives_then (parts x.state) (origin_gone is_clean k (sides_of x)).parts (parts y.state) (gone_gives is_clean k (sides_of x)) (ends_give (origin_gone is_clean k) x y is)

same : (x y : Both) → y ≡ x → Gives (parts x.state) (parts y.state)
same x y is = gives_as (parts x.state) (parts x.state) (parts y.state) (ap (λ (b : Both). parts b.state) is) (beside (parts x.state) (parts x.state) refl refl)

received : (found : Found) (shelf : KeptMap) (k : ℕ) (front : List ℕ) (x y : Both) → IsReceived found shelf k front x y → Gives (parts x.state) (parts y.state)
received None shelf k front x y is = same x y is
received (Some (Ok (Bytes n))) shelf k front x y is =
    gives_then (parts x.state) (parts is.0.state) (parts y.state) (still_gives x is.0 (reads_stay 65600 shelf k (Some (remaining (take n front) [])) x is.0 is.1)) (ends_give (λ z. z) is.0 y is.2)
received (Some (Ok Ended)) shelf k front x y is = gone true k x y is
received (Some (Ok NotYet)) shelf k front x y is = same x y is
received (Some (Err fault)) shelf k front x y is = gone false k x y is

receives_give : (k : ℕ) (x y : Turning) → HasRoomForData x → ReceivesOn k x y → Gives (parts x.moving.desk.state) (parts y.moving.desk.state)
receives_give k x y room receives =
    let all : Receives (length x.moving.desk.buffer.items) x.shelf k x.moving.links (both x.moving.desk) (both y.moving.desk) x.log y.log = receives.receives room in
    let old : Both = both x.moving.desk in
    let new : Both = both y.moving.desk in
    gives_then (parts old.state) (parts all.begins.state) (parts new.state)
    (gives_as (parts old.state) (parts old.state) (parts all.begins.state) (ap (λ (z : Sides). z.parts) all.same.is) (beside (parts old.state) (parts old.state) refl refl))
    (received all.found x.shelf k all.front all.begins new all.is)

pub origin_reads_give : OriginReadsGiveKeys
origin_reads_give k x y room receives = keeps (parts x.moving.desk.state) (parts y.moving.desk.state) (receives_give k x y room receives)

-- what wakes leaves the room as it is
woken_room : (id : ℕ) (x : Turning) (woken : Desk) → Wakes id x.moving.desk woken → HasRoomForData x → HasRoomForData (at_desk woken x)
woken_room id x woken wakes room =
    subst (λ (n : ℕ). length woken.buffer.items ≤ n) (sym (ap (λ (d : Desk). vec_capacity d.«data») wakes.touches.rest ∙ ap (λ (d : Desk). vec_capacity d.«data») wakes.regains.rest))
    (subst (λ (n : ℕ). n ≤ vec_capacity x.moving.desk.«data») (sym (ap (λ (d : Desk). length d.buffer.items) wakes.touches.rest ∙ ap (λ (d : Desk). length d.buffer.items) wakes.regains.rest)) room)

pub events_give : EventsGiveKeys
events_give event x y room handles =
    handles_give event x y
    (λ k woken wakes receives.
    keeps (parts x.moving.desk.state) (parts y.moving.desk.state)
    (gives_then (parts x.moving.desk.state) (parts woken.state) (parts y.moving.desk.state) (wakes_give k x.moving.desk woken wakes) (receives_give k (at_desk woken x) y (woken_room k x woken wakes room) receives))) handles
