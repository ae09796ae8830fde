-- An origin is read from where that is owed, and the turn stands behind what was found.
use Rattle.std.proofs.Common.{◌≡◌, ◌≤◌, ◌<◌, refl, sym, subst, ap, ap₂, ◌∙◌, ℕ, Bool, true, false, ◌&&◌, ◌||◌, find, is_some, length, length-take-le, min, nat_le, nat_lt, take, List, [], ◌∷◌, Option, Some, None, Ok, Err, arith}
use Rattle.std.proofs.lemmas.Bool.Decides.{nat_tests}
use Rattle.std.specs.Prelude.{IfOk, IfSome, vec_capacity}
use Rattle.pp_cache.specs.Bounds.{IsBounded}
use Rattle.pp_turns_law.proofs.Peers.{HasPeer, linked}
use Rattle.pp_desk.specs.Calls.{Found, read_log}
use Rattle.pp_desk.specs.Closings.{sides}
use Rattle.pp_desk.specs.declared.desk.Desk.{Desk}
use Rattle.pp_events_law.proofs.Calls.{is_linked, its_side, told_as}
use Rattle.pp_events_law.proofs.Standing.{one_leads}
use Rattle.pp_events_law.proofs.Touched.{link_of}
use Rattle.pp_events_law.specs.Stands.{AreReadyAt, StandsAtEvent}
use Rattle.pp_law.specs.After.{event, gone, paid}
use Rattle.pp_law.specs.Asking.{is_read, is_reading, is_writing, read_room as room_by_law}
use Rattle.pp_law.specs.Connections.{conn}
use Rattle.pp_law.specs.Lists.{Bytes}
use Rattle.pp_law.specs.Permits.{is_owed}
use Rattle.pp_law.specs.Replies.{end_replies, regained}
use Rattle.pp_law.specs.Responses.{got}
use Rattle.pp_law.specs.State.{State, Conn, Owed, Phase, Term, Handling, ReadOf}
use Rattle.pp_links.specs.Links.{is_link}
use Rattle.pp_obeys.proofs.Happenings.{goes_broke, goes_ended, goes_got, goes_none_yet}
use Rattle.pp_obeys.specs.Obeys.{Obeys}
use Rattle.pp_origins.specs.Gots.{Both, EndsBehind, HasGot, IsReceived, Makes, Receives, both}
use Rattle.pp_origins.specs.Responses.{origin_gone, read_room}
use Rattle.pp_proxy.specs.Handling.{ReceivesOn}
use Rattle.pp_proxy.specs.Moving.{Turning}
use Rattle.pp_reads_law.specs.Heads.{HeadsComeAsTheLaws}
use Rattle.pp_state.specs.Ends.{parts}
use Rattle.pp_states_law.proofs.Lines.{same_itself}
use Rattle.pp_world.specs.Connections.{side_of}
use Rattle.pp_world.specs.Log.{AppendsAll, Log}
use Rattle.pp_world.specs.Wire.{IsWithin, by_side}
use Rattle.pp_world.specs.declared.event.Got.TheVariants.{Bytes as Came, End, NotYet}
use Rattle.pp_world.specs.declared.event.Side.{Side}
use Rattle.pp_world.specs.declared.event.Side.TheVariants.{Origin as OfOrigin}
use Rattle.pp_world.specs.declared.happening.Happening.TheVariants.{Broke, Ended, Got, Heard, HungUp, NoneYet}
use Rattle.pp_world.specs.declared.wire.WireFault.{WireFault}
use Rattle.pp_reads_law.proofs.Ends.{ended_handled, ended_ready}
use Rattle.pp_reads_law.proofs.Gets.{got_handled, got_ready, got_through, number as number_behind}
use Rattle.pp_reads_law.proofs.NotYet.{none_handled, none_ready}
use Rattle.pp_reads_law.proofs.Rooms.{rooms_same}
use Rattle.pp_reads_law.specs.Readable.{HasLedTold, IsBrought, IsReadThrough, MayBring, MayRead, ReadingsLead}

-- ---- lengths

less_true : (n : ℕ) → 0 < n → nat_lt 0 n ≡ true
less_true n some = grind (arith, nat_tests, some)

some_room : (n front room : ℕ) → front ≡ min room 32768 → min room 32768 ≡ min 32768 n → 0 < n → 0 < front
some_room n front room is same some = omega (arith, is, same, some)

fits : (n front room : ℕ) → front ≡ min room 32768 → min room 32768 ≡ min 32768 n → (m : ℕ) → 0 < m → m ≤ front → (nat_le 1 m && nat_le m (min 32768 n)) ≡ true
fits n front room is same m some within = ap₂ (λ (a b : Bool). a && b) (at_least m some) (at_most m (min 32768 n) (omega (arith, is, same, within)))
  where
    at_least : (m : ℕ) → 0 < m → nat_le 1 m ≡ true
    at_least m some = grind (arith, nat_tests, some)

    at_most : (m l : ℕ) → m ≤ l → nat_le m l ≡ true
    at_most m l le = grind (arith, nat_tests, le)

got_in : Log → Bytes
got_in (Got k bytes ∷ log) = bytes
got_in log = []

same_bytes : (k : ℕ) (one other : Bytes) → Got k one ∷ [] ≡ Got k other ∷ [] → one ≡ other
unfolding got_in
same_bytes k one other is = ap (λ (hs : Log). got_in hs) is

few_enough : (front room m : ℕ) → front ≡ min room 32768 → m ≤ front → m ≤ 32768
few_enough front room m is within = omega (arith, is, within)

module _ (comes : HeadsComeAsTheLaws) (terms : List Term) (log : Log) (number : ℕ → ℕ) (k : ℕ) (x y : Turning) (s : State) (j : Conn) (obeys : Obeys terms s log) (stands : StandsAtEvent number Handling (ReadOf k) x.moving s) (ready : AreReadyAt number x.moving s) (may : MayRead k x s j) (brings : MayBring k x y s)
    (bounded : IsBounded y.moving.desk.state.cache) (calm : y.moving.desk.state.is_astray ≡ false) (receives : ReceivesOn k x y) where
  abbrev old : Desk
  old = x.moving.desk

  it : Receives 32768 x.shelf k x.moving.links (both old) (both y.moving.desk) x.log y.log
  it = subst (λ (n : ℕ). Receives n x.shelf k x.moving.links (both old) (both y.moving.desk) x.log y.log) may.long (receives.receives (subst (λ (n : ℕ). n ≤ vec_capacity old.«data») (sym may.long) may.holds))

  its : HasPeer s k old.peers j
  its = linked s k old.peers s.conns j may.there stands.desk.turn.steps.shows.conns

  link : find (is_link k) x.moving.links ≡ Some (k, OfOrigin)
  link = link_of k old.peers x.moving.links its.peer stands.opened.origins its.there

  side : (l : Log) → x.log ≡ Some l → side_of k l ≡ Some OfOrigin
  side l told = its_side x.log x.moving.top x.moving.links k OfOrigin l may.linked link told

  rooms : min (read_room k (parts old.state)) 32768 ≡ min 32768 (room_by_law s k)
  rooms = rooms_same number old.state.name.items (sides old) s (record { steps = stands.desk.turn.steps; may = stands.desk.may }) k j may.there

  called : is_some it.found ≡ true
  called = it.called ∙ ap₂ (λ (a b : Bool). a && b) (is_linked k x.moving.links (k, OfOrigin) link) (less_true (length it.front) (some_room (room_by_law s k) (length it.front) (read_room k (parts old.state)) it.room rooms may.room))

  has_conn : is_some (conn s k) ≡ true
  has_conn = ap (λ (o : Option Conn). is_some o) may.there

  -- ---- nothing yet

  nothing : AppendsAll x.log y.log (read_log k (Some (Ok NotYet)) it.front) → both y.moving.desk ≡ it.begins → HasLedTold k x y s
  nothing told is =
      let same : Makes (λ z. z) (both old) (both y.moving.desk) = subst (λ (b : Both). Makes (λ z. z) (both old) b) (sym is) it.same in
      record {
        number = number;
        led = record {
          log = NoneYet k ∷ [];
          then = paid s;
          handled = record {
            told = told_as x.log y.log (read_log k (Some (Ok NotYet)) it.front) (NoneYet k ∷ []) told (λ l is_told. refl);
            leads = one_leads s (paid s) (NoneYet k) refl (goes_none_yet s k stands.law.none stands.law.owes);
            handled = none_handled number k x y s stands ready bounded receives same;
          };
        };
        ready = none_ready number k x y s stands ready bounded receives same;
        through = λ bytes is. absurd (let none : NoneYet k ∷ [] ≡ Got k bytes ∷ [] = is in cc none);
      }

  -- ---- it ended, or broke

  ended : AppendsAll x.log y.log (read_log k (Some (Ok End)) it.front) → EndsBehind (origin_gone true k) it.begins (both y.moving.desk) → HasLedTold k x y s
  ended told behind = record {
    number = number;
    led = record {
      log = Ended k ∷ [];
      then = paid (gone true k s);
      handled = record {
        told = told_as x.log y.log (read_log k (Some (Ok End)) it.front) (Ended k ∷ []) told (λ l is. ap (λ (o : Option Side). by_side o (HungUp k) (Ended k) ∷ []) (side l is));
        leads = one_leads s (paid (gone true k s)) (Ended k) refl (goes_ended s k stands.law.none stands.law.owes has_conn);
        handled = ended_handled terms log number k x y s j obeys stands ready may bounded receives it.begins it.same true behind;
      };
    };
    ready = ended_ready terms log number k x y s j obeys stands ready may bounded receives it.begins it.same true behind;
    through = λ bytes is. absurd (let none : Ended k ∷ [] ≡ Got k bytes ∷ [] = is in cc none);
  }

  -- attempts count anew no more
  event_is : event s ≡ s
  unfolding event
  event_is = ap (λ (ph : Phase). regained (record s { phase = ph })) (sym stands.law.at) ∙ may.anew

  owed_it : is_owed s k ≡ true
  owed_it = ap (λ (o : Owed). is_reading o k || is_writing o k) stands.law.owes ∙ ap (λ (b : Bool). b || false) (same_itself k)

  broken : (fault : WireFault) → AppendsAll x.log y.log (read_log k (Some (Err fault)) it.front) → EndsBehind (origin_gone false k) it.begins (both y.moving.desk) → HasLedTold k x y s
  broken fault told behind = record {
    number = number;
    led = record {
      log = Broke k ∷ [];
      then = paid (gone false k s);
      handled = record {
        told = told_as x.log y.log (read_log k (Some (Err fault)) it.front) (Broke k ∷ []) told (λ l is. ap (λ (o : Option Side). by_side o (HungUp k) (Broke k) ∷ []) (side l is));
        leads = one_leads s (paid (gone false k s)) (Broke k) refl (subst (λ (t : State). Rattle.pp_obeys.specs.Moves.Goes s (Broke k) (paid (gone false k t))) event_is (goes_broke s k stands.law.none owed_it has_conn));
        handled = ended_handled terms log number k x y s j obeys stands ready may bounded receives it.begins it.same false behind;
      };
    };
    ready = ended_ready terms log number k x y s j obeys stands ready may bounded receives it.begins it.same false behind;
    through = λ bytes is. absurd (let none : Broke k ∷ [] ≡ Got k bytes ∷ [] = is in cc none);
  }

  -- ---- bytes came

  module _ (n : ℕ) (told : AppendsAll x.log y.log (read_log k (Some (Ok (Came n))) it.front)) (within : (0 < n) × (n ≤ length it.front)) (next : Both) (has_got : HasGot x.shelf k (take n it.front) it.begins next) (behind : EndsBehind (λ z. z) next (both y.moving.desk)) where
    abbrev bytes : Bytes
    bytes = take n it.front

    as_long : length bytes ≡ n
    as_long = length-take-le n it.front within.1

    few : length bytes ≤ 32768
    few = subst (λ (m : ℕ). m ≤ 32768) (sym as_long) (few_enough (length it.front) (read_room k (parts old.state)) n it.room within.1)

    permitted : is_read (room_by_law s k) bytes ≡ true
    permitted = subst (λ (m : ℕ). (nat_le 1 m && nat_le m (min 32768 (room_by_law s k))) ≡ true) (sym as_long) (fits (room_by_law s k) (length it.front) (read_room k (parts old.state)) it.room rooms n within.0 within.1)

    was_told : AppendsAll x.log y.log (λ l. Got k bytes ∷ [])
    was_told = told_as x.log y.log (read_log k (Some (Ok (Came n))) it.front) (Got k bytes ∷ []) told (λ l is. ap (λ (o : Option Side). by_side o (Heard k bytes) (Got k bytes) ∷ []) (side l is))

    brought : IsBrought k x y s bytes
    brought = record { told = was_told; fits = permitted }

    came : HasLedTold k x y s
    came = record {
      number = number_behind comes terms log number k x y s j obeys stands ready may brings bounded calm receives it.begins next it.same bytes few brought has_got behind;
      led = record {
        log = Got k bytes ∷ [];
        then = paid (end_replies (got (length bytes) k bytes s));
        handled = record {
          told = was_told;
          leads = one_leads s (paid (end_replies (got (length bytes) k bytes s))) (Got k bytes) refl (goes_got s k bytes stands.law.none stands.law.owes permitted);
          handled = got_handled comes terms log number k x y s j obeys stands ready may brings bounded calm receives it.begins next it.same bytes few brought has_got behind;
        };
      };
      ready = got_ready comes terms log number k x y s j obeys stands ready may brings bounded calm receives it.begins next it.same bytes few brought has_got behind;
      through = λ other is.
          subst (λ (bs : Bytes). IsReadThrough k x y s bs (got_handled comes terms log number k x y s j obeys stands ready may brings bounded calm receives it.begins next it.same bytes few brought has_got behind).handled) (same_bytes k bytes other is)
          (got_through comes terms log number k x y s j obeys stands ready may brings bounded calm receives it.begins next it.same bytes few brought has_got behind);
    }

  -- ---- by what was found

  by_found : (found : Found) → is_some found ≡ true → AppendsAll x.log y.log (read_log k found it.front) → IfSome found (λ r. IfOk r (IsWithin (length it.front))) → IsReceived found x.shelf k it.front it.begins (both y.moving.desk) → HasLedTold k x y s
  by_found None none told within is = absurd (cc none)
  by_found (Some (Ok (Came n))) some told within is = came n told within is.0 is.1 is.2
  by_found (Some (Ok End)) some told within is = ended told is
  by_found (Some (Ok NotYet)) some told within is = nothing told is
  by_found (Some (Err fault)) some told within is = broken fault told is

  pub read_led : HasLedTold k x y s
  read_led = by_found it.found called it.told it.within it.is

pub readings : HeadsComeAsTheLaws → ReadingsLead
readings comes terms log number k x y s j obeys stands ready may brings bounded calm receives = read_led comes terms log number k x y s j obeys stands ready may brings bounded calm receives
