-- Behind the read of an origin that brings nothing of a response what is carried stands.
use Rattle.std.proofs.Common.{◌≡◌, ◌≤◌, refl, sym, subst, ap, ◌∙◌, ℕ, Bool, true, false, length, take, List, [], ◌∷◌, Option, Some, None, Ok, Err, le_refl}
use Rattle.std.specs.Prelude.{vec_capacity}
use Rattle.pp_turns_law.proofs.Peers.{HasPeer, linked}
use Rattle.pp_desk.specs.Calls.{Found, read_log}
use Rattle.pp_desk.specs.declared.desk.Desk.{Desk}
use Rattle.pp_events_law.proofs.Calls.{its_side}
use Rattle.pp_events_law.proofs.Touched.{link_of, no_seat}
use Rattle.pp_joints_law.proofs.CallsBehind.{AreSilent, WasAdded, none_silent, silent_as, was_added}
use Rattle.pp_joints_law.proofs.CarriedOn.{IsBehind, carries_cleared, set_of}
use Rattle.pp_joints_law.proofs.Carries.{joined_none, still_lost}
use Rattle.pp_joints_law.proofs.ClearedParts.{ClearsIn, clears_stay, clears_then, itself, stays_as}
use Rattle.pp_joints_law.proofs.ClearedSides.{replies_stay}
use Rattle.pp_joints_law.proofs.ClearedWire.{clears_gone}
use Rattle.pp_joints_law.proofs.DeskBehind.{behind_then, wakes_behind, wakes_lost, wakes_stay}
use Rattle.pp_joints_law.specs.BehindEnds.{BringsNoBytes, OriginEndsCarry}
use Rattle.pp_origins.specs.Gots.{Both, EndsBehind, IsReceived, Receives, both, sides_of}
use Rattle.pp_origins.specs.Responses.{origin_gone}
use Rattle.pp_proxy.specs.Handling.{ReadsBy, ReceivesOn}
use Rattle.pp_proxy.specs.Moving.{Turning, at_desk}
use Rattle.pp_state.specs.Ends.{numbers_of, parts, place_of}
use Rattle.pp_state.specs.declared.state.State.{State as Turn}
use Rattle.pp_store.specs.Kept.{KeptMap}
use Rattle.pp_world.specs.Connections.{side_of}
use Rattle.pp_world.specs.Log.{Log}
use Rattle.pp_world.specs.Wire.{by_side}
use Rattle.pp_world.specs.declared.event.Got.TheVariants.{Bytes, End, NotYet}
use Rattle.pp_world.specs.declared.event.Side.{Side}
use Rattle.pp_world.specs.declared.event.Side.TheVariants.{Origin as OfOrigin}
use Rattle.pp_world.specs.declared.happening.Happening.{Happening}
use Rattle.pp_world.specs.declared.happening.Happening.TheVariants.{Broke, CanRead, Ended, Got, Heard, HungUp}

-- ---- what the call adds

of_origin : (o : Option Side) (a b : Happening) → o ≡ Some OfOrigin → by_side o a b ∷ [] ≡ b ∷ []
of_origin o a b is = ap (λ (z : Option Side). by_side z a b ∷ []) is

-- it brought no bytes
pub BringsNone : Found → Type 0
BringsNone found = (n : ℕ) → found ≡ Some (Ok (Bytes n)) → ⊥

added_silent : (id : ℕ) (found : Found) (front : List ℕ) (l : Log) → side_of id l ≡ Some OfOrigin → BringsNoBytes id (read_log id found front l) → AreSilent (read_log id found front l)
added_silent id None front l side none = none_silent
added_silent id (Some (Ok (Bytes n))) front l side none = absurd (none (take n front) (of_origin (side_of id l) (Heard id (take n front)) (Got id (take n front)) side))
added_silent id (Some (Ok End)) front l side none = silent_as _ (Ended id ∷ []) (of_origin (side_of id l) (HungUp id) (Ended id) side) (record { none = refl; still = (refl, tt) })
added_silent id (Some (Ok NotYet)) front l side none = record { none = refl; still = (refl, tt) }
added_silent id (Some (Err fault)) front l side none = silent_as _ (Broke id ∷ []) (of_origin (side_of id l) (HungUp id) (Broke id) side) (record { none = refl; still = (refl, tt) })

no_bytes : (id : ℕ) (found : Found) (front : List ℕ) (l : Log) → side_of id l ≡ Some OfOrigin → BringsNoBytes id (read_log id found front l) → (n : ℕ) → found ≡ Some (Ok (Bytes n)) → ⊥
no_bytes id found front l side none n is =
    none (take n front) (ap (λ (o : Found). read_log id o front l) is ∙ of_origin (side_of id l) (Heard id (take n front)) (Got id (take n front)) side)

-- ---- what it changes

-- all that is set stays
pub record IsReadOn (p q : Turn) : Type 0 where
  pub rest : record q { seats = p.seats; flow = p.flow; cache = p.cache; refused = p.refused; is_astray = p.is_astray } ≡ p
  pub clears : ClearsIn (parts p) (parts q)

ends_on : (is_clean : Bool) (k : ℕ) (x y : Both) → EndsBehind (origin_gone is_clean k) x y → IsReadOn x.state y.state
ends_on is_clean k x y it = record {
  rest = it.rest;
  clears = clears_then (parts x.state) (origin_gone is_clean k (sides_of x)).parts (parts y.state) (clears_gone is_clean k (sides_of x))
      (clears_stay (origin_gone is_clean k (sides_of x)).parts (parts y.state) (replies_stay x.state.awake.items (origin_gone is_clean k (sides_of x)) (sides_of y) it.is));
}

same_on : (x y : Both) → y ≡ x → IsReadOn x.state y.state
same_on x y same = record {
  rest = ap (λ (b : Both). record b.state { seats = x.state.seats; flow = x.state.flow; cache = x.state.cache; refused = x.state.refused; is_astray = x.state.is_astray }) same;
  clears = clears_stay (parts x.state) (parts y.state) (stays_as (parts x.state) (parts x.state) (parts y.state) (ap (λ (b : Both). parts b.state) same) (itself (parts x.state)));
}

received_on : (found : Found) (shelf : KeptMap) (k : ℕ) (front : List ℕ) (x y : Both) → ((n : ℕ) → found ≡ Some (Ok (Bytes n)) → ⊥) → IsReceived found shelf k front x y → IsReadOn x.state y.state
received_on None shelf k front x y none it = same_on x y it
received_on (Some (Ok (Bytes n))) shelf k front x y none it = absurd (none n refl)
received_on (Some (Ok End)) shelf k front x y none it = ends_on true k x y it
received_on (Some (Ok NotYet)) shelf k front x y none it = same_on x y it
received_on (Some (Err fault)) shelf k front x y none it = ends_on false k x y it

-- ---- all of it

le_same : (m n : ℕ) → n ≡ m → m ≤ n
le_same m n is = subst (λ (z : ℕ). m ≤ z) (sym is) (le_refl m)

pub origin_ends_carry : OriginEndsCarry
origin_ends_carry terms log number other shelf k x y s j before there link told long handles few noted it none =
    carries_cleared terms log number other shelf x.moving y.moving s it.then (CanRead k ∷ it.log) before (joined_none (CanRead k) it.log refl silent.none) it.leads it.handled few
    (behind_then x.moving.desk woken y.moving.desk (wakes_behind k x.moving.desk woken handles.wakes) behind)
    (still_lost terms log number shelf x.moving y.moving s it.then (CanRead k ∷ it.log) before (joined_none (CanRead k) it.log refl silent.none) (refl, silent.still) it.leads (lost_so ∙ wakes_lost k x.moving.desk woken handles.wakes))
    (clears_then (parts x.moving.desk.state) (parts woken.state) (parts y.moving.desk.state) (clears_stay (parts x.moving.desk.state) (parts woken.state) (wakes_stay k x.moving.desk woken handles.wakes)) clears) noted
  where
    woken : Desk
    woken = handles.woken

    next : Turning
    next = at_desk woken x

    its : HasPeer s k x.moving.desk.peers j
    its = linked s k x.moving.desk.peers s.conns j there before.stands.desk.turn.steps.shows.conns

    nobody : place_of k (numbers_of woken.state.seats.items) ≡ None
    nobody =
        ap (λ (ns : List ℕ). place_of k ns) (handles.wakes.touches.numbers ∙ handles.wakes.regains.numbers)
        ∙ no_seat k (numbers_of x.moving.desk.state.seats.items) x.moving.desk.peers x.moving.links its.peer its.there before.stands.opened.clients before.stands.opened.origins

    reads : ReceivesOn k next y
    reads = subst (λ (o : Option ℕ). ReadsBy o k next y) nobody handles.reads

    has_room : length woken.buffer.items ≤ vec_capacity woken.«data»
    has_room =
        subst (λ (d : Desk). length d.buffer.items ≤ vec_capacity d.«data») (sym handles.wakes.touches.rest) (subst (λ (d : Desk). length d.buffer.items ≤ vec_capacity d.«data») (sym handles.wakes.regains.rest) long)

    receives : Receives (length woken.buffer.items) x.shelf k x.moving.links (both woken) (both y.moving.desk) x.log y.log
    receives = reads.receives has_room

    -- what came is none

    was : WasAdded x.log (read_log k receives.found receives.front) it.log
    was = was_added x.log y.log told.log it.log (read_log k receives.found receives.front) told.told it.told receives.told

    side : side_of k was.before ≡ Some OfOrigin
    side = its_side x.log x.moving.top x.moving.links k OfOrigin was.before link (link_of k x.moving.desk.peers x.moving.links its.peer before.stands.opened.origins its.there) was.told

    none_there : BringsNoBytes k (read_log k receives.found receives.front was.before)
    none_there = subst (λ (hs : Log). BringsNoBytes k hs) was.is none

    silent : AreSilent it.log
    silent = silent_as it.log (read_log k receives.found receives.front was.before) was.is (added_silent k receives.found receives.front was.before side none_there)

    -- what it changed

    on : IsReadOn receives.begins.state y.moving.desk.state
    on = received_on receives.found x.shelf k receives.front receives.begins (both y.moving.desk) (no_bytes k receives.found receives.front was.before side none_there) receives.is

    clears : ClearsIn (parts woken.state) (parts y.moving.desk.state)
    clears =
        clears_then (parts woken.state) (parts receives.begins.state) (parts y.moving.desk.state)
        (clears_stay (parts woken.state) (parts receives.begins.state) (stays_as (parts woken.state) (parts woken.state) (parts receives.begins.state) (ap (λ z. z.parts) receives.same.is) (itself (parts woken.state)))) on.clears

    behind : IsBehind woken y.moving.desk
    behind = record {
      set = ap (λ (p : Turn). set_of (record y.moving.desk { state = p })) on.rest ∙ ap (λ (p : Turn). set_of (record y.moving.desk { state = p })) receives.same.rest ∙ ap set_of reads.rest;
      room = le_same (vec_capacity woken.state.awake) (vec_capacity y.moving.desk.state.awake) (ap (λ (p : Turn). vec_capacity p.awake) on.rest ∙ ap (λ (p : Turn). vec_capacity p.awake) receives.same.rest);
    }

    lost_so : y.moving.desk.state.has_lost_draft ≡ woken.state.has_lost_draft
    lost_so = ap (λ (p : Turn). p.has_lost_draft) on.rest ∙ ap (λ (p : Turn). p.has_lost_draft) receives.same.rest
