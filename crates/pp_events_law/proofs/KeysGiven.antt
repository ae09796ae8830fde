-- Memory was given for the key of each head that was read in an event, in a life that did not go astray by it.
use Rattle.std.proofs.Common.{◌≡◌, inl, inr, refl, sym, subst, ap, ap₂, ◌∙◌, ℕ, zero, suc, Bool, true, false, cond, find, map, max, List, [], ◌∷◌, ◌++◌, Option, Some, None, option_and_then, Ok, Err}
use Rattle.std.specs.Prelude.{slice_get}
use Rattle.pp_decide.specs.Patience.{is_leap}
use Rattle.pp_desk.specs.Calls.{Took}
use Rattle.pp_desk.specs.Closings.{Sides, closed_conn, peer_numbers, sides, with_parts}
use Rattle.pp_desk.specs.Marks.{marked_seat, touched}
use Rattle.pp_desk.specs.Origins.{without_idle}
use Rattle.pp_desk.specs.declared.desk.Desk.{Desk}
use Rattle.pp_due.specs.OnDisk.{next_on_disk}
use Rattle.pp_due.specs.Waits.{is_waiting, woken_by, woken_seat}
use Rattle.pp_flow.specs.Changes.{entry_of}
use Rattle.pp_flow.specs.declared.entry.Aim.{Aim}
use Rattle.pp_flow.specs.declared.entry.Aim.TheVariants.{Own, Hole, Pass as Through}
use Rattle.pp_flow.specs.declared.entry.Entry.{Entry}
use Rattle.pp_flow.specs.declared.entry.Exchange.{Exchange}
use Rattle.pp_flow_law.proofs.Entries.{none_some}
use Rattle.pp_framing.specs.declared.body.Ending.{Ending}
use Rattle.pp_framing.specs.declared.body.Ending.TheVariants.{Whole, Short}
use Rattle.pp_links.specs.Links.{Link}
use Rattle.pp_objects.specs.Instances.{Instance}
use Rattle.pp_objects.specs.declared.id.ObjectId.{ObjectId}
use Rattle.pp_cache_law.proofs.Numbers.{some_is}
use Rattle.pp_origins.specs.Asked.{AsksBy, BodyIsAsked, TakenAs, TextIsAsked, body_asked, body_sent, text_asked}
use Rattle.pp_origins.specs.Responses.{brought_by, closed_unless, ended_by, ending_by, finished, goes_on_by, origin_gone, response_whole, whole_for, whole_where}
use Rattle.pp_peers.specs.Peers.{is_number}
use Rattle.pp_peers.specs.declared.peers.Peer.{Peer}
use Rattle.pp_proxy.specs.Accepting.{IsAccepted, IsSeated, newcomer}
use Rattle.pp_proxy.specs.Handling.{AsksOn, Breaks, Reaches, ReadsBy, SaysAt, Stops, TicksOn, Wakes, WritesBy}
use Rattle.pp_proxy.specs.Leaving.{Regains}
use Rattle.pp_proxy.specs.Moving.{Turning, at_desk}
use Rattle.pp_proxy.specs.Ticks.{second_begun}
use Rattle.pp_seats.specs.Dues.{refused_in}
use Rattle.pp_seats.specs.Seats.{passed_in, told_by}
use Rattle.pp_seats.specs.declared.seat.Next.{Next}
use Rattle.pp_seats.specs.declared.seat.Passed.{Passed}
use Rattle.pp_seats.specs.declared.seat.Seat.{Seat}
use Rattle.pp_state.specs.Asking.{asking}
use Rattle.pp_state.specs.Bodies.{finished_for, on_place, passed_whole, skipped}
use Rattle.pp_state.specs.Bringing.{instance_of}
use Rattle.pp_state.specs.Ends.{Parts, all_regained, numbers_of, on_seat, parts, place_of, seat_for}
use Rattle.pp_state.specs.Lines.{first_on}
use Rattle.pp_state.specs.declared.asking.Asking.{Asking}
use Rattle.pp_state.specs.declared.asking.Asking.TheVariants.{Text, Body}
use Rattle.pp_state.specs.declared.state.State.{State}
use Rattle.pp_store.specs.Kept.{KeptMap}
use Rattle.pp_talk.specs.Loading.{Answer, LoadsOf, LoadsWhere, TakesChunk, chunk_at}
use Rattle.pp_talk.specs.Talking.{IsWrittenAt, said_as, told_in}
use Rattle.pp_world.specs.Log.{Log}
use Rattle.pp_world.specs.declared.event.Event.TheVariants.{Stop, Tick, Accepted, Readable, Writable, Reached, Broken}
use Rattle.pp_events_law.proofs.Anew.{all_anew}
use Rattle.pp_events_law.proofs.Closed.{all_idle_on, closes}
use Rattle.pp_events_law.proofs.KeysHeard.{hears_give, replies_give, roused_parts}
use Rattle.pp_events_law.proofs.KeysKept.{Gives, KeepsKey, beside, closes_one, gives_alike, gives_as, gives_then, keeps, on_all, on_one, on_some}
use Rattle.pp_events_law.proofs.SameAstray.{closes_same, idle_same}
use Rattle.pp_events_law.specs.Keys.{ClientWritesGiveKeys, GivesKeys, HandlesGiveKeys, KeepsKeys, OriginReadGives, OriginWritesGiveKeys}

itself : (p : Parts) → Gives p p
itself p = beside p p refl refl

-- ---- a connection is gone

whole_keeps : (aim : Aim) (seat : Seat) → KeepsKey seat (finished_for aim seat)
whole_keeps aim seat = by aim (passed_in seat.brought)
  where
    by : (a : Aim) (o : Option Passed) → KeepsKey seat (skipped a (elim o as (λ t. Seat) [ None ↦ seat | Some passed ↦ passed_whole seat ]))
    by Own None is = is
    by Own (Some passed) is = is
    by (Hole v from to) None is = is
    by (Hole v from to) (Some passed) is = is
    by Through None is = is
    by Through (Some passed) is = is

abbrev by_seats : Option ℕ → Exchange → Parts → Parts
by_seats None e p = p
by_seats (Some i) e p = on_seat i (finished_for e.aim) p

finishes : (e : Exchange) (p : Parts) → Gives p (finished e p)
finishes e p = gives_then p (by_seats (seat_for e p.seats) e p) (finished e p) (seated (seat_for e p.seats)) (same (seat_for e p.seats) refl)
  where
    seated : (o : Option ℕ) → Gives p (by_seats o e p)
    seated None = itself p
    seated (Some i) = on_one i (finished_for e.aim) p (whole_keeps e.aim)

    same : (o : Option ℕ) → seat_for e p.seats ≡ o → Gives (by_seats o e p) (finished e p)
    same None is = beside p (finished e p) (ap (λ (o : Option ℕ). on_place o (finished_for e.aim) p.seats) is) refl
    same (Some i) is = beside (on_seat i (finished_for e.aim) p) (finished e p) (ap (λ (o : Option ℕ). on_place o (finished_for e.aim) p.seats) is) refl

gives_closed : (k : ℕ) (counts : Bool) (x : Sides) → Gives x.parts (closed_conn k counts x).parts
gives_closed k counts x = gives_alike x.parts (closed_conn k counts x).parts (closes k counts x) (closes_same k counts x)

unless : (b : Bool) (k : ℕ) (x : Sides) → Gives x.parts (closed_unless b k x).parts
unless true k x = itself x.parts
unless false k x = gives_closed k true x

pub whole_gives : (k : ℕ) (x : Sides) → Gives x.parts (response_whole k x).parts
whole_gives k x = by (option_and_then (λ number. entry_of number x.parts.flow) (first_on k x.parts))
  where
    by : (o : Option Entry) → Gives x.parts (whole_for k o x).parts
    by None = itself x.parts
    by (Some e) =
        let y : Sides = with_parts (finished e.exchange) x in
        let z : Sides = record y { peers = brought_by k (find (is_number k) y.peers) y.peers } in
        gives_then x.parts y.parts (whole_for k (Some e) x).parts (finishes e.exchange x.parts) (unless (goes_on_by (find (is_number k) y.peers) e.errand.body_left e.errand.binds_connection) k z)

abbrev ending : Bool → ℕ → Sides → Sides
ending is_clean k x = record x { peers = ended_by is_clean k (find (is_number k) x.peers) x.peers }

pub gone_gives : (is_clean : Bool) (k : ℕ) (x : Sides) → Gives x.parts (origin_gone is_clean k x).parts
gone_gives is_clean k x =
    let z : Sides = whole_where (ending_by is_clean (find (is_number k) x.peers)) k (ending is_clean k x) in
    gives_then x.parts z.parts (origin_gone is_clean k x).parts (by (ending_by is_clean (find (is_number k) x.peers))) (gives_closed k true z)
  where
    by : (e : Ending) → Gives x.parts (whole_where e k (ending is_clean k x)).parts
    by Whole = whole_gives k (ending is_clean k x)
    by Short = itself x.parts

-- ---- an origin is asked

took_as_gives : (took : Took) (k : ℕ) (awake : List ℕ) (took_as : ℕ → Sides → Sides) (x y : Sides) → ((n : ℕ) → Gives x.parts (took_as n x).parts) → TakenAs took k awake took_as x y → Gives x.parts y.parts
took_as_gives None k awake took_as x y one is = gives_as x.parts x.parts y.parts (ap (λ (w : Sides). w.parts) is) (itself x.parts)
took_as_gives (Some (Ok n)) k awake took_as x y one is = gives_as x.parts (took_as n x).parts y.parts (ap (λ (w : Sides). w.parts) is) (one n)
took_as_gives (Some (Err fault)) k awake took_as x y one is = gives_then x.parts (origin_gone false k x).parts y.parts (gone_gives false k x) (replies_give awake (origin_gone false k x) y is)

text_gives : (o : Option Peer) (k number left now : ℕ) (awake : List ℕ) (links : List Link) (x y : Sides) (old new : Option Log) → TextIsAsked o k number left now awake links x y old new → Gives x.parts y.parts
text_gives None k number left now awake links x y old new is = gives_as x.parts x.parts y.parts (ap (λ (w : Sides). w.parts) is.is) (itself x.parts)
text_gives (Some peer) k number left now awake links x y old new is = took_as_gives is.took k awake (text_asked k number now) x y (λ n. beside x.parts (text_asked k number now n x).parts refl refl) is.is

body_gives : (o : Option Seat) (k number left i : ℕ) (awake : List ℕ) (links : List Link) (x y : Sides) (old new : Option Log) → BodyIsAsked o k number left i awake links x y old new → Gives x.parts y.parts
body_gives None k number left i awake links x y old new is = gives_as x.parts x.parts y.parts (ap (λ (w : Sides). w.parts) is.is) (itself x.parts)
body_gives (Some seat) k number left i awake links x y old new is =
    took_as_gives is.took k awake (body_asked number i) x y
    (λ n. let q : Parts = on_seat i (body_sent n) x.parts in gives_then x.parts q (body_asked number i n x).parts (on_one i (body_sent n) x.parts (λ other keeps. keeps)) (beside q (body_asked number i n x).parts refl refl)) is.is

asks_by : (o : Option Asking) (k now : ℕ) (awake : List ℕ) (links : List Link) (x y : Sides) (old new : Option Log) → AsksBy o k now awake links x y old new → Gives x.parts y.parts
asks_by None k now awake links x y old new is = gives_as x.parts x.parts y.parts (ap (λ (w : Sides). w.parts) is.is) (itself x.parts)
asks_by (Some (Text number left)) k now awake links x y old new is = text_gives (find (is_number k) x.peers) k number left now awake links x y old new is
asks_by (Some (Body number left i)) k now awake links x y old new is = body_gives (slice_get x.parts.seats i) k number left i awake links x y old new is

asks_give : (k : ℕ) (x y : Turning) → AsksOn k x y → Gives (parts x.moving.desk.state) (parts y.moving.desk.state)
asks_give k x y asks =
    let d : Desk = x.moving.desk in
    asks_by (asking k (sides d).parts.seats (sides d).parts.flow) k d.state.now d.state.awake.items x.moving.links (sides d) (sides y.moving.desk) x.log y.log asks.asks

pub origin_writes_give : OriginWritesGiveKeys
origin_writes_give k x y asks = keeps (parts x.moving.desk.state) (parts y.moving.desk.state) (asks_give k x y asks)

-- ---- a client is written to, behind the read of a chunk

chunk_gives : (answer : Answer) (out : List ℕ) (index : ℕ) (id : ObjectId) (s t : State) → TakesChunk answer out index id s t → Gives (parts s) (parts t)
chunk_gives None out index id s t is = beside (parts s) (parts t) (ap (λ (u : State). u.seats.items) is) (ap (λ (u : State). u.is_astray) is)
chunk_gives (Some (Ok count)) out index id s t is = beside (parts s) (parts t) (ap (λ (u : State). u.seats.items) is.rest) (ap (λ (u : State). u.is_astray) is.rest)
chunk_gives (Some (Err fault)) out index id s t is = beside (parts s) (parts t) (ap (λ (u : State). u.seats.items) is) (ap (λ (u : State). u.is_astray) is)

loads_of : (id : ObjectId) (o : Option Instance) (index : Option ℕ) (shelf : KeptMap) (s : State) (behind : KeptMap) (t : State) (old new : Option Log) (before now : ℕ) → LoadsOf id o index shelf s behind t old new before now → Gives (parts s) (parts t)
loads_of id None index shelf s behind t old new before now is = gives_as (parts s) (parts s) (parts t) (ap (λ (u : State). parts u) is.1) (itself (parts s))
loads_of id (Some i) None shelf s behind t old new before now is = gives_as (parts s) (parts s) (parts t) (ap (λ (u : State). parts u) is.1) (itself (parts s))
loads_of id (Some i) (Some index) shelf s behind t old new before now is = chunk_gives is.answer is.out index id s t is.is

loads_where : (o : Option Next) (shelf : KeptMap) (s : State) (behind : KeptMap) (t : State) (old new : Option Log) (before now : ℕ) → LoadsWhere o shelf s behind t old new before now → Gives (parts s) (parts t)
loads_where None shelf s behind t old new before now is = gives_as (parts s) (parts s) (parts t) (ap (λ (u : State). parts u) is.1) (itself (parts s))
loads_where (Some next) shelf s behind t old new before now is = loads_of next.source (instance_of next.source s.cache.instances) (chunk_at next.at) shelf s behind t old new before now is

told_gives : (o : Option Seat) (i n : ℕ) (p : Parts) → Gives p (told_in o i n p)
told_gives None i n p = itself p
told_gives (Some seat) i n p = let q : Parts = on_seat i (told_by n) p in gives_then p q (told_in (Some seat) i n p) (on_one i (told_by n) p (λ other keeps. keeps)) (beside q (told_in (Some seat) i n p) refl refl)

said_gives : (took : Took) (i : ℕ) (x : Sides) → Gives x.parts (said_as took i x).parts
said_gives None i x = itself x.parts
said_gives (Some (Ok n)) i x = told_gives (slice_get x.parts.seats i) i n x.parts
said_gives (Some (Err fault)) i x = closes_one i x

written_gives : (o : Option Seat) (i : ℕ) (links : List Link) (x y : Sides) (old new : Option Log) → IsWrittenAt o i links x y old new → Gives x.parts y.parts
written_gives None i links x y old new is = gives_as x.parts x.parts y.parts (ap (λ (w : Sides). w.parts) is.0) (itself x.parts)
written_gives (Some seat) i links x y old new is = gives_as x.parts (said_as is.took i x).parts y.parts (ap (λ (w : Sides). w.parts) is.is) (said_gives is.took i x)

says_give : (i : ℕ) (x y : Turning) → SaysAt i x y → Gives (parts x.moving.desk.state) (parts y.moving.desk.state)
says_give i x y says =
    let r : Desk = says.roused in
    let l : Desk = says.says.loaded in
    let z : Sides = says.says.says.0 in
    subst (λ (p : Parts). Gives p (parts y.moving.desk.state)) (roused_parts i x.moving.desk r says.rouses)
    (gives_then (parts r.state) (parts l.state) (parts y.moving.desk.state)
    (loads_where (option_and_then (next_on_disk r.state) (slice_get r.state.seats.items i)) x.shelf r.state y.shelf l.state x.log says.says.between x.faults says.says.count says.says.loads)
    (gives_then (parts l.state) z.parts (parts y.moving.desk.state) (written_gives (slice_get l.state.seats.items i) i x.moving.links (sides l) z says.says.between y.log says.says.says.1)
    (replies_give l.state.awake.items z (sides y.moving.desk) says.says.says.2)))

pub client_writes_give : ClientWritesGiveKeys
client_writes_give i x y says = keeps (parts x.moving.desk.state) (parts y.moving.desk.state) (says_give i x y says)

-- ---- of the desk alone

regains_give : (old new : Desk) → Regains old new → Gives (parts old.state) (parts new.state)
regains_give old new is =
    let q : Parts = record (parts old.state) { seats = all_regained old.state.cache old.state.awake.items old.state.seats.items } in
    gives_as (parts old.state) q (parts new.state) (ap₂ (λ (p : Parts) (ss : List Seat). record p { seats = ss }) (ap (λ (d : Desk). parts d.state) is.rest) is.is)
    (gives_alike (parts old.state) q (all_anew old.state.cache old.state.awake.items (parts old.state)) refl)

touched_gives : (now id : ℕ) (old new : Desk) → sides new ≡ touched now id (sides old) → Gives (parts old.state) (parts new.state)
touched_gives now id old new is =
    gives_as (parts old.state) (touched now id (sides old)).parts (parts new.state) (ap (λ (w : Sides). w.parts) is) (on_some (place_of id (numbers_of old.state.seats.items)) (marked_seat now) (parts old.state) (λ seat keeps. keeps))

pub wakes_give : (id : ℕ) (old new : Desk) → Wakes id old new → Gives (parts old.state) (parts new.state)
wakes_give id old new is = gives_then (parts old.state) (parts is.anew.state) (parts new.state) (regains_give old is.anew is.regains) (touched_gives is.anew.state.now id is.anew new is.touches.is)

breaks_give : (k : ℕ) (old new : Desk) → Breaks k old new → Gives (parts old.state) (parts new.state)
breaks_give k old new is =
    let z : Sides = origin_gone false k (sides is.anew) in
    gives_then (parts old.state) (parts is.anew.state) (parts new.state) (regains_give old is.anew is.regains)
    (gives_then (parts is.anew.state) z.parts (parts new.state) (gone_gives false k (sides is.anew)) (replies_give is.anew.state.awake.items z (sides new) is.ends))

reaches_give : (k : ℕ) (old new : Desk) → Reaches k old new → Gives (parts old.state) (parts new.state)
reaches_give k old new is =
    gives_then (parts old.state) (parts is.woken.state) (parts new.state) (touched_gives old.state.now k old is.woken is.touches.is)
    (gives_as (parts is.woken.state) (parts is.woken.state) (parts new.state) (ap (λ (w : Sides). w.parts) is.reaches.is) (itself (parts is.woken.state)))

stops_give : (old new : Desk) → Stops old new → Gives (parts old.state) (parts new.state)
stops_give old new is = beside (parts old.state) (parts new.state) (ap (λ (d : Desk). d.state.seats.items) is.rest) (ap (λ (d : Desk). d.state.is_astray) is.rest)

-- a second begins
woken_keeps : (now : ℕ) (s : State) (seat : Seat) → KeepsKey seat (woken_seat now s seat)
woken_keeps now s seat = by (is_waiting s seat)
  where
    by : (b : Bool) → KeepsKey seat (woken_by b now seat)
    by true is = is
    by false is = is

begun_gives : (b : Bool) (now : ℕ) (s : State) (p : Parts) → Gives p (record p { seats = map (woken_seat now s) (cond b (map (marked_seat now) p.seats) p.seats) })
begun_gives true now s p =
    let q : Parts = record p { seats = map (marked_seat now) p.seats } in
    gives_then p q (record q { seats = map (woken_seat now s) q.seats }) (on_all (marked_seat now) p (λ seat is. is)) (on_all (woken_seat now s) q (woken_keeps now s))
begun_gives false now s p = on_all (woken_seat now s) p (woken_keeps now s)

ticks_give : (seconds : ℕ) (old new : Desk) → TicksOn seconds old new → Gives (parts old.state) (parts new.state)
ticks_give seconds old new is =
    let now : ℕ = max old.state.now seconds in
    let x : Sides = second_begun now old.state (sides old) in
    let z : Sides = without_idle now x in
    gives_as (parts old.state) z.parts (parts new.state) (ap (λ (w : Sides). w.parts) is.is)
    (gives_then (parts old.state) x.parts z.parts (begun_gives (is_leap now old.state.has_ticked old.state.now) now old.state (parts old.state))
    (gives_alike x.parts z.parts (all_idle_on now (peer_numbers x.peers) x) (idle_same now (peer_numbers x.peers) x)))

-- a client comes
get_more : (i : ℕ) (seats more : List Seat) (seat : Seat) → slice_get seats i ≡ Some seat → slice_get (seats ++ more) i ≡ Some seat
get_more i [] more seat here = absurd (none_some seat here)
get_more zero (first ∷ seats) more seat here = here
get_more (suc i) (first ∷ seats) more seat here = get_more i seats more seat here

seated_keeps : (seat : Seat) (old new : Desk) → IsSeated seat old new → KeepsKeys (parts old.state) (parts new.state)
seated_keeps seat old new is = record {
  astray = λ on. ap (λ (d : Desk). d.state.is_astray) is.rest ∙ on;
  given = λ calm i before after here there going refused.
      let same : before ≡ after = some_is before after (sym (get_more i old.state.seats.items (seat ∷ []) before here) ∙ ap (λ (ss : List Seat). slice_get ss i) (sym is.seats) ∙ there) in
      ap (λ (o : Seat). refused_in o.front) same ∙ refused;
}

accepts_keep : (c : ℕ) (old new : Desk) → IsAccepted c old new → KeepsKeys (parts old.state) (parts new.state)
accepts_keep c old new (inl is) = seated_keeps (newcomer c old) old new is
accepts_keep c old new (inr is) =
    let astray : new.state.is_astray ≡ true = ap (λ (d : Desk). d.state.is_astray) is.rest in
    record { astray = λ on. astray; given = λ calm i before after here there going refused. absurd (let both : true ≡ false = sym astray ∙ calm in cc both) }

-- ---- each

reads_by : (o : Option ℕ) (id : ℕ) (x y : Turning) (woken : Desk) → OriginReadGives x y → Wakes id x.moving.desk woken → ReadsBy o id (at_desk woken x) y → GivesKeys x y
reads_by (Some i) id x y woken origin wakes is =
    keeps (parts x.moving.desk.state) (parts y.moving.desk.state) (gives_then (parts x.moving.desk.state) (parts woken.state) (parts y.moving.desk.state) (wakes_give id x.moving.desk woken wakes) (hears_give i (at_desk woken x) y is))
reads_by None id x y woken origin wakes is = origin id woken wakes is

writes_by : (o : Option ℕ) (id : ℕ) (x y : Turning) (woken : Desk) → Wakes id x.moving.desk woken → WritesBy o id (at_desk woken x) y → Gives (parts x.moving.desk.state) (parts y.moving.desk.state)
writes_by (Some i) id x y woken wakes is = gives_then (parts x.moving.desk.state) (parts woken.state) (parts y.moving.desk.state) (wakes_give id x.moving.desk woken wakes) (says_give i (at_desk woken x) y is)
writes_by None id x y woken wakes is = gives_then (parts x.moving.desk.state) (parts woken.state) (parts y.moving.desk.state) (wakes_give id x.moving.desk woken wakes) (asks_give id (at_desk woken x) y is)

pub handles_give : HandlesGiveKeys
handles_give Stop x y origin is = keeps (parts x.moving.desk.state) (parts y.moving.desk.state) (stops_give x.moving.desk y.moving.desk is.0)
handles_give (Tick seconds) x y origin is = keeps (parts x.moving.desk.state) (parts y.moving.desk.state) (ticks_give seconds x.moving.desk y.moving.desk is.0)
handles_give (Accepted c) x y origin is = accepts_keep c x.moving.desk y.moving.desk is.0
handles_give (Readable id) x y origin is = reads_by (place_of id (numbers_of is.woken.state.seats.items)) id x y is.woken origin is.wakes is.reads
handles_give (Writable id) x y origin is = keeps (parts x.moving.desk.state) (parts y.moving.desk.state) (writes_by (place_of id (numbers_of is.woken.state.seats.items)) id x y is.woken is.wakes is.writes)
handles_give (Reached k) x y origin is = keeps (parts x.moving.desk.state) (parts y.moving.desk.state) (reaches_give k x.moving.desk y.moving.desk is.0)
handles_give (Broken k) x y origin is = keeps (parts x.moving.desk.state) (parts y.moving.desk.state) (breaks_give k x.moving.desk y.moving.desk is.0)
