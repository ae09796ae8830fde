-- Behind each event in which nothing is read of an origin, or from the disk, what is carried stands.
use Rattle.std.proofs.Common.{◌≡◌, refl, sym, subst, ap, ◌∙◌, ℕ, suc, Bool, true, false, ◌==◌, cond, length, List, [], ◌∷◌, Option, Some, None, option_map, append-nil}
use Rattle.std.specs.Prelude.{slice_get}
use Rattle.pp_cache_law.proofs.Numbers.{is_same, some_is}
use Rattle.pp_turns_law.proofs.Peers.{HasPeer, linked}
use Rattle.pp_desk.specs.Calls.{read_log, write_log}
use Rattle.pp_desk.specs.Closings.{Sides, sides}
use Rattle.pp_desk.specs.declared.desk.Desk.{Desk}
use Rattle.pp_events_law.proofs.Calls.{its_side}
use Rattle.pp_events_law.proofs.Touched.{client_link, no_seat}
use Rattle.pp_events_law.specs.Silent.{stopped}
use Rattle.pp_events_law.specs.Stands.{HasLedBehind, come}
use Rattle.pp_flow_law.proofs.Entries.{none_some}
use Rattle.pp_joints_law.proofs.CarriedOn.{carries_cleared, carries_still}
use Rattle.pp_joints_law.proofs.CallsBehind.{AreSilent, WasAdded, none_silent, read_silent, silent_as, was_added, write_silent}
use Rattle.pp_joints_law.proofs.ClearedAll.{BringNone, brings_none}
use Rattle.pp_joints_law.proofs.ClearedParts.{clears_stay, clears_then, stays_then}
use Rattle.pp_joints_law.proofs.DeskBehind.{SaysNow, asks_behind, asks_clear, asks_lost, behind_then, breaks_behind, breaks_clear, breaks_lost, hears_behind, hears_lost, hears_stay, reaches_behind, reaches_stay, says_behind, says_lost, says_now, says_stay, seated_behind, seated_stays, stops_behind, stops_stay, ticks_behind, ticks_clear, wakes_behind, wakes_lost, wakes_stay}
use Rattle.pp_joints_law.proofs.LawBehind.{NeverTick, not_ticked, tick_lost}
use Rattle.pp_joints_law.specs.Behind.{AcceptsCarry, CarriesOn, HasFew, MayNote, ReachesCarry, StandsBefore, StopsCarry, TicksCarry}
use Rattle.pp_joints_law.specs.BehindReads.{BreaksCarry, ClientReadsCarry, ClientWritesCarry, HoldsNext, IsTold, OriginWritesCarry}
use Rattle.pp_law.specs.Connections.{conn}
use Rattle.pp_law.specs.After.{event, gone, opened, paid, reached}
use Rattle.pp_law.specs.State.{State, Conn, Term}
use Rattle.pp_law.specs.Turn.{tick}
use Rattle.pp_laws.proofs.Tests.{first_holds}
use Rattle.pp_links.specs.Links.{IsLinked, Link}
use Rattle.pp_obeys.proofs.Silent.{both_hold}
use Rattle.pp_obeys.specs.Moves.{Leads}
use Rattle.pp_origins.specs.Asked.{AsksBy, BodyIsAsked, TextIsAsked}
use Rattle.pp_peers.specs.declared.peers.Peer.{Peer}
use Rattle.pp_proxy.specs.Accepting.{newcomer}
use Rattle.pp_proxy.specs.Handling.{AsksOn, Handles, HearsAt, ReadsBy, SaysAt, WritesBy}
use Rattle.pp_proxy.specs.Moving.{Moving, Turning, at_desk}
use Rattle.pp_seats.specs.declared.seat.Seat.{Seat}
use Rattle.pp_state.specs.Asking.{asking}
use Rattle.pp_state.specs.Ends.{numbers_of, parts, place_of}
use Rattle.pp_state.specs.declared.asking.Asking.{Asking}
use Rattle.pp_state.specs.declared.asking.Asking.TheVariants.{Text, Body}
use Rattle.pp_store.specs.Kept.{KeptMap}
use Rattle.pp_talk.specs.Talking.{IsReadAt, IsWrittenAt, offered}
use Rattle.pp_world.specs.Connections.{side_of}
use Rattle.pp_world.specs.Log.{AppendsAll, Log}
use Rattle.pp_world.specs.declared.event.Event.TheVariants.{Readable, Writable}
use Rattle.pp_world.specs.declared.event.Side.TheVariants.{Client as OfClient}
use Rattle.pp_world.specs.declared.happening.Happening.{Happening}
use Rattle.pp_world.specs.declared.happening.Happening.TheVariants.{Broke, CanRead, CanWrite, Clock, Opened, Reached, Stopped}

-- where the clock does not tick, whether a draft failed is what it was
pub still_lost : (terms : List Term) (log : Log) (number : ℕ → ℕ) (shelf : KeptMap) (x y : Moving) (s t : State) (hs : Log) → StandsBefore terms log number shelf x s → BringNone hs → NeverTick hs → Leads hs s t → y.desk.state.has_lost_draft ≡ x.desk.state.has_lost_draft
    → y.desk.state.has_lost_draft ≡ t.has_lost_draft
still_lost terms log number shelf x y s t hs before none still leads same = same ∙ before.carried.disk.lost ∙ sym (not_ticked terms hs log s t none still before.obeys leads).lost

-- ---- events that add nothing

pub stops_carry : StopsCarry
stops_carry terms log number shelf x y s before handles few it =
    carries_still terms log number shelf x.moving y.moving s (event (stopped s)) (Stopped ∷ []) before refl it.leads it.handled few (stops_behind x.moving.desk y.moving.desk handles.0)
    (still_lost terms log number shelf x.moving y.moving s (event (stopped s)) (Stopped ∷ []) before refl (refl, tt) it.leads (ap (λ (d : Desk). d.state.has_lost_draft) handles.0.rest))
    (stops_stay x.moving.desk y.moving.desk handles.0)

pub accepts_carry : AcceptsCarry
accepts_carry terms log number shelf c x y s before seated silent few it =
    let seat : Seat = newcomer c x.moving.desk in
    carries_still terms log number shelf x.moving y.moving s (event (opened c s)) (Opened c ∷ []) before refl it.leads it.handled few (seated_behind seat x.moving.desk y.moving.desk seated)
    (still_lost terms log number shelf x.moving y.moving s (event (opened c s)) (Opened c ∷ []) before refl (refl, tt) it.leads (ap (λ (d : Desk). d.state.has_lost_draft) seated.rest))
    (seated_stays seat x.moving.desk y.moving.desk seated)

pub reaches_carry : ReachesCarry
reaches_carry terms log number shelf k x y s before handles few it =
    carries_still terms log number shelf x.moving y.moving s (event (reached k s)) (Reached k ∷ []) before refl it.leads it.handled few (reaches_behind k x.moving.desk y.moving.desk handles.0)
    (still_lost terms log number shelf x.moving y.moving s (event (reached k s)) (Reached k ∷ []) before refl (refl, tt) it.leads
    (ap (λ (d : Desk). d.state.has_lost_draft) handles.0.reaches.rest ∙ ap (λ (d : Desk). d.state.has_lost_draft) handles.0.touches.rest))
    (reaches_stay k x.moving.desk y.moving.desk handles.0)

pub ticks_carry : TicksCarry
ticks_carry terms log number shelf seconds x y s before handles few noted it =
    carries_cleared terms log number number shelf x.moving y.moving s (event (tick seconds s)) (Clock seconds ∷ []) before refl it.leads it.handled few (ticks_behind seconds x.moving.desk y.moving.desk handles.0 handles.0.room)
    (ap (λ (d : Desk). d.state.has_lost_draft) handles.0.rest ∙ sym (tick_lost seconds s)) (ticks_clear seconds x.moving.desk y.moving.desk handles.0) noted

-- ---- a client is read

-- whose place that is
its_number : (n i : ℕ) (seats : List Seat) (seat : Seat) → place_of n (numbers_of seats) ≡ Some i → slice_get seats i ≡ Some seat → seat.client.id ≡ n
its_number n i [] seat there here = absurd (none_some i there)
its_number n i (first ∷ seats) seat there here = by (first.client.id == n) refl there (λ j at found. its_number n j seats seat at found)
  where
    later : (o : Option ℕ) → place_of n (numbers_of seats) ≡ o → option_map (λ (j : ℕ). suc j) o ≡ Some i → ((j : ℕ) → place_of n (numbers_of seats) ≡ Some j → slice_get seats j ≡ Some seat → seat.client.id ≡ n) → seat.client.id ≡ n
    later None at found rest = absurd (none_some i found)
    later (Some j) at found rest = rest j at (ap (λ (k : ℕ). slice_get (first ∷ seats) k) (some_is (suc j) i found) ∙ here)

    by : (b : Bool) → (first.client.id == n) ≡ b → cond b (Some 0) (option_map (λ (j : ℕ). suc j) (place_of n (numbers_of seats))) ≡ Some i → ((j : ℕ) → place_of n (numbers_of seats) ≡ Some j → slice_get seats j ≡ Some seat → seat.client.id ≡ n) → seat.client.id ≡ n
    by true is found rest = ap (λ (o : Seat). o.client.id) (sym (some_is first seat (ap (λ (k : ℕ). slice_get (first ∷ seats) k) (some_is 0 i found) ∙ here))) ∙ is_same first.client.id n is
    by false off found rest = later (place_of n (numbers_of seats)) refl found rest

pub same_added : (old new : Option Log) → new ≡ old → AppendsAll old new (λ l. [])
same_added old new same = record { was = λ l is. (l, sym same ∙ is, sym (append-nil l)) }

read_added : (o : Option Seat) (most i : ℕ) (links : List Link) (x z : Sides) (old new : Option Log) (now hs : Log) → new ≡ Some now → AppendsAll old new (λ l. hs) → ((seat : Seat) (l : Log) → o ≡ Some seat → old ≡ Some l → side_of seat.client.id l ≡ Some OfClient)
    → IsReadAt o most i links x z old new → AreSilent hs
read_added None most i links x z old new now hs told added side is = silent_as hs [] (was_added old new now hs (λ l. []) told added (same_added old new is.1)).is none_silent
read_added (Some seat) most i links x z old new now hs told added side is =
    let was : WasAdded old (read_log seat.client.id is.found is.front) hs = was_added old new now hs (read_log seat.client.id is.found is.front) told added is.told in
    silent_as hs (read_log seat.client.id is.found is.front was.before) was.is (read_silent seat.client.id is.found is.front was.before (side seat was.before refl was.told))

pub joined_none : (h : Happening) (hs : Log) → BringNone (h ∷ []) → BringNone hs → BringNone (h ∷ hs)
joined_none h hs one two = both_hold (brings_none h) _ (first_holds (brings_none h) _ one) two

module _ (terms : List Term) (log : Log) (number : ℕ → ℕ) (shelf : KeptMap) (id i : ℕ) (x y : Turning) (s : State) (before : StandsBefore terms log number shelf x.moving s) (place : place_of id (numbers_of x.moving.desk.state.seats.items) ≡ Some i) (link : IsLinked x.log x.moving.top x.moving.links) (told : IsTold y)
    (handles : Handles (Readable id) (come (Readable id) x) y) (it : HasLedBehind number (CanRead id) x y s) where
  abbrev heard_woken : Desk
  heard_woken = handles.woken

  abbrev heard_next : Turning
  heard_next = at_desk heard_woken x

  heard_numbers : numbers_of heard_woken.state.seats.items ≡ numbers_of x.moving.desk.state.seats.items
  heard_numbers = handles.wakes.touches.numbers ∙ handles.wakes.regains.numbers

  heard_placed : place_of id (numbers_of heard_woken.state.seats.items) ≡ Some i
  heard_placed = ap (λ (ns : List ℕ). place_of id ns) heard_numbers ∙ place

  pub heard_hears : HearsAt i heard_next y
  heard_hears = subst (λ (o : Option ℕ). ReadsBy o id heard_next y) heard_placed handles.reads

  heard_same_seats : heard_hears.roused.state.seats.items ≡ heard_woken.state.seats.items
  heard_same_seats = ap (λ (d : Desk). d.state.seats.items) heard_hears.rouses.rest

  pub heard_side : (seat : Seat) (l : Log) → slice_get heard_hears.roused.state.seats.items i ≡ Some seat → x.log ≡ Some l → side_of seat.client.id l ≡ Some OfClient
  heard_side seat l here at =
      ap (λ (n : ℕ). side_of n l) (its_number id i heard_woken.state.seats.items seat heard_placed (ap (λ (ss : List Seat). slice_get ss i) (sym heard_same_seats) ∙ here))
      ∙ its_side x.log x.moving.top x.moving.links id OfClient l link (client_link id i (numbers_of x.moving.desk.state.seats.items) x.moving.links place before.stands.opened.clients) at

  pub heard_silent : AreSilent it.log
  heard_silent = read_added (slice_get heard_hears.roused.state.seats.items i) (length heard_hears.roused.buffer.items) i x.moving.links (sides heard_hears.roused) heard_hears.hears.0 x.log y.log told.log it.log told.told it.told heard_side heard_hears.hears.1

  heard_carries : HasFew y.moving → CarriesOn shelf y.moving it.handled.handled
  heard_carries few =
      carries_still terms log number shelf x.moving y.moving s it.then (CanRead id ∷ it.log) before (joined_none (CanRead id) it.log refl heard_silent.none) it.leads it.handled few
      (behind_then x.moving.desk heard_woken y.moving.desk (wakes_behind id x.moving.desk heard_woken handles.wakes) (hears_behind i heard_next y heard_hears))
      (still_lost terms log number shelf x.moving y.moving s it.then (CanRead id ∷ it.log) before (joined_none (CanRead id) it.log refl heard_silent.none) (refl, heard_silent.still) it.leads (hears_lost i heard_next y heard_hears ∙ wakes_lost id x.moving.desk heard_woken handles.wakes))
      (stays_then (parts x.moving.desk.state) (parts heard_woken.state) (parts y.moving.desk.state) (wakes_stay id x.moving.desk heard_woken handles.wakes) (hears_stay i heard_next y heard_hears))

pub client_reads_carry : ClientReadsCarry
client_reads_carry terms log number shelf id i x y s before place link told handles few it = heard_carries terms log number shelf id i x y s before place link told handles it few

-- ---- a client is written to

written_added : (o : Option Seat) (i : ℕ) (links : List Link) (x z : Sides) (old new : Option Log) (now hs : Log) → new ≡ Some now → AppendsAll old new (λ l. hs) → IsWrittenAt o i links x z old new → AreSilent hs
written_added None i links x z old new now hs told added is = silent_as hs [] (was_added old new now hs (λ l. []) told added (same_added old new is.1)).is none_silent
written_added (Some seat) i links x z old new now hs told added is =
    let bytes : List ℕ = offered seat.client.reply x.parts.cache in
    let was : WasAdded old (write_log seat.client.id bytes is.took) hs = was_added old new now hs (write_log seat.client.id bytes is.took) told added is.told in
    silent_as hs (write_log seat.client.id bytes is.took was.before) was.is (write_silent seat.client.id bytes is.took was.before)

module _ (terms : List Term) (log : Log) (number : ℕ → ℕ) (shelf : KeptMap) (id i : ℕ) (x y : Turning) (seat : Seat) (s : State) (before : StandsBefore terms log number shelf x.moving s) (holds : HoldsNext id i x seat) (told : IsTold y)
    (handles : Handles (Writable id) (come (Writable id) x) y) (it : HasLedBehind number (CanWrite id) x y s) where
  abbrev written_woken : Desk
  written_woken = handles.woken

  abbrev written_next : Turning
  written_next = at_desk written_woken x

  written_placed : place_of id (numbers_of written_woken.state.seats.items) ≡ Some i
  written_placed = ap (λ (ns : List ℕ). place_of id ns) (handles.wakes.touches.numbers ∙ handles.wakes.regains.numbers) ∙ holds.place

  pub written_says : SaysAt i written_next y
  written_says = subst (λ (o : Option ℕ). WritesBy o id written_next y) written_placed handles.writes

  pub written_now : SaysNow i written_next y seat written_says
  written_now = says_now i written_next y seat written_says (holds.here written_woken handles.wakes) (holds.held written_woken handles.wakes)

  pub written_silent : AreSilent it.log
  written_silent =
      written_added (slice_get written_says.says.loaded.state.seats.items i) i x.moving.links (sides written_says.says.loaded) written_says.says.says.0 x.log y.log told.log it.log told.told it.told
      (subst (λ (l : Option Log). IsWrittenAt (slice_get written_says.says.loaded.state.seats.items i) i x.moving.links (sides written_says.says.loaded) written_says.says.says.0 l y.log) written_now.log written_says.says.says.1)

  written_carries : HasFew y.moving → CarriesOn shelf y.moving it.handled.handled
  written_carries few =
      carries_still terms log number shelf x.moving y.moving s it.then (CanWrite id ∷ it.log) before (joined_none (CanWrite id) it.log refl written_silent.none) it.leads it.handled few
      (behind_then x.moving.desk written_woken y.moving.desk (wakes_behind id x.moving.desk written_woken handles.wakes) (says_behind i written_next y seat written_says written_now))
      (still_lost terms log number shelf x.moving y.moving s it.then (CanWrite id ∷ it.log) before (joined_none (CanWrite id) it.log refl written_silent.none) (refl, written_silent.still) it.leads (says_lost i written_next y seat written_says written_now ∙ wakes_lost id x.moving.desk written_woken handles.wakes))
      (stays_then (parts x.moving.desk.state) (parts written_woken.state) (parts y.moving.desk.state) (wakes_stay id x.moving.desk written_woken handles.wakes) (says_stay i written_next y seat written_says written_now))

pub client_writes_carry : ClientWritesCarry
client_writes_carry terms log number shelf id i x y seat s before holds told handles few it = written_carries terms log number shelf id i x y seat s before holds told handles it few

-- ---- an origin is asked

text_added : (o : Option Peer) (k n left at : ℕ) (awake : List ℕ) (links : List Link) (x z : Sides) (old new : Option Log) (now hs : Log) → new ≡ Some now → AppendsAll old new (λ l. hs) → TextIsAsked o k n left at awake links x z old new → AreSilent hs
text_added None k n left at awake links x z old new now hs told added is = silent_as hs [] (was_added old new now hs (λ l. []) told added (same_added old new is.told)).is none_silent
text_added (Some peer) k n left at awake links x z old new now hs told added is =
    let was = was_added old new now hs _ told added is.told in silent_as hs _ was.is (write_silent k _ is.took was.before)

body_added : (o : Option Seat) (k n left i : ℕ) (awake : List ℕ) (links : List Link) (x z : Sides) (old new : Option Log) (now hs : Log) → new ≡ Some now → AppendsAll old new (λ l. hs) → BodyIsAsked o k n left i awake links x z old new → AreSilent hs
body_added None k n left i awake links x z old new now hs told added is = silent_as hs [] (was_added old new now hs (λ l. []) told added (same_added old new is.told)).is none_silent
body_added (Some seat) k n left i awake links x z old new now hs told added is =
    let was = was_added old new now hs _ told added is.told in silent_as hs _ was.is (write_silent k _ is.took was.before)

asked_added : (o : Option Asking) (k at : ℕ) (awake : List ℕ) (links : List Link) (x z : Sides) (old new : Option Log) (now hs : Log) → new ≡ Some now → AppendsAll old new (λ l. hs) → AsksBy o k at awake links x z old new → AreSilent hs
asked_added None k at awake links x z old new now hs told added is = silent_as hs [] (was_added old new now hs (λ l. []) told added (same_added old new is.told)).is none_silent
asked_added (Some (Text n left)) k at awake links x z old new now hs told added is = text_added _ k n left at awake links x z old new now hs told added is
asked_added (Some (Body n left i)) k at awake links x z old new now hs told added is = body_added _ k n left i awake links x z old new now hs told added is

module _ (terms : List Term) (log : Log) (number : ℕ → ℕ) (shelf : KeptMap) (k : ℕ) (x y : Turning) (s : State) (j : Conn) (before : StandsBefore terms log number shelf x.moving s) (there : conn s k ≡ Some j) (told : IsTold y)
    (handles : Handles (Writable k) (come (Writable k) x) y) (noted : MayNote x.moving) (it : HasLedBehind number (CanWrite k) x y s) where
  abbrev asked_woken : Desk
  asked_woken = handles.woken

  abbrev asked_next : Turning
  asked_next = at_desk asked_woken x

  asked_its : HasPeer s k x.moving.desk.peers j
  asked_its = linked s k x.moving.desk.peers s.conns j there before.stands.desk.turn.steps.shows.conns

  asked_nobody : place_of k (numbers_of asked_woken.state.seats.items) ≡ None
  asked_nobody =
      ap (λ (ns : List ℕ). place_of k ns) (handles.wakes.touches.numbers ∙ handles.wakes.regains.numbers)
      ∙ no_seat k (numbers_of x.moving.desk.state.seats.items) x.moving.desk.peers x.moving.links asked_its.peer asked_its.there before.stands.opened.clients before.stands.opened.origins

  pub asked_asks : AsksOn k asked_next y
  asked_asks = subst (λ (o : Option ℕ). WritesBy o k asked_next y) asked_nobody handles.writes

  pub asked_silent : AreSilent it.log
  asked_silent = asked_added (asking k asked_woken.state.seats.items asked_woken.state.flow) k asked_woken.state.now asked_woken.state.awake.items x.moving.links (sides asked_woken) (sides y.moving.desk) x.log y.log told.log it.log told.told it.told asked_asks.asks

  asked_carries : HasFew y.moving → CarriesOn shelf y.moving it.handled.handled
  asked_carries few =
      carries_cleared terms log number number shelf x.moving y.moving s it.then (CanWrite k ∷ it.log) before (joined_none (CanWrite k) it.log refl asked_silent.none) it.leads it.handled few
      (behind_then x.moving.desk asked_woken y.moving.desk (wakes_behind k x.moving.desk asked_woken handles.wakes) (asks_behind k asked_next y asked_asks))
      (still_lost terms log number shelf x.moving y.moving s it.then (CanWrite k ∷ it.log) before (joined_none (CanWrite k) it.log refl asked_silent.none) (refl, asked_silent.still) it.leads (asks_lost k asked_next y asked_asks ∙ wakes_lost k x.moving.desk asked_woken handles.wakes))
      (clears_then (parts x.moving.desk.state) (parts asked_woken.state) (parts y.moving.desk.state) (clears_stay (parts x.moving.desk.state) (parts asked_woken.state) (wakes_stay k x.moving.desk asked_woken handles.wakes)) (asks_clear k asked_next y asked_asks)) noted

pub origin_writes_carry : OriginWritesCarry
origin_writes_carry terms log number shelf k x y s j before there told handles few noted it = asked_carries terms log number shelf k x y s j before there told handles noted it few

-- ---- its connection breaks

pub breaks_carry : BreaksCarry
breaks_carry terms log number shelf k x y s before handles few noted it =
    carries_cleared terms log number number shelf x.moving y.moving s (paid (gone false k (event s))) (Broke k ∷ []) before refl it.leads it.handled few (breaks_behind k x.moving.desk y.moving.desk handles.0)
    (still_lost terms log number shelf x.moving y.moving s (paid (gone false k (event s))) (Broke k ∷ []) before refl (refl, tt) it.leads (breaks_lost k x.moving.desk y.moving.desk handles.0))
    (breaks_clear k x.moving.desk y.moving.desk handles.0) noted
