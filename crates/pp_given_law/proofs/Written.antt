-- What holds of each client holds where one is written to, where an origin is asked, and where the desk alone is changed.
use Rattle.std.proofs.Common.{◌≡◌, refl, sym, subst, ap, ℕ, zero, suc, Bool, true, false, cond, find, map, max, List, [], ◌∷◌, ◌++◌, Option, Some, None, option_and_then, Ok, Err}
use Rattle.pp_cache.specs.Memory.{Memory}
use Rattle.pp_cache_law.proofs.Numbers.{some_is}
use Rattle.pp_decide.specs.Patience.{is_leap}
use Rattle.pp_desk.specs.Calls.{Took}
use Rattle.pp_desk.specs.Closings.{peer_numbers, Sides, sides}
use Rattle.pp_desk.specs.Marks.{marked_seat, touched}
use Rattle.pp_desk.specs.Origins.{without_idle}
use Rattle.pp_desk.specs.declared.desk.Desk.{Desk}
use Rattle.pp_due.specs.OnDisk.{next_on_disk}
use Rattle.pp_due.specs.Waits.{is_waiting, woken_by, woken_seat}
use Rattle.pp_events_law.proofs.KeysHeard.{roused_parts}
use Rattle.pp_given_law.proofs.Carried.{becomes, beside, one, onward, seated, Stay, stay_same, stay_then, Suits, where_stays}
use Rattle.pp_given_law.proofs.Costs.{all_idle_on}
use Rattle.pp_given_law.proofs.Brings.{gone_stays}
use Rattle.pp_given_law.proofs.Said.{said_short}
use Rattle.pp_given_law.proofs.Talks.{closes_one, replies_stay}
use Rattle.pp_framing.specs.declared.body.BodyRule.{BodyRule}
use Rattle.pp_head.specs.Response.{Response}
use Rattle.pp_links.specs.Links.{Link}
use Rattle.pp_objects.specs.Instances.{Instance}
use Rattle.pp_objects.specs.declared.id.ObjectId.{ObjectId}
use Rattle.pp_origins.specs.Asked.{AsksBy, body_asked, body_sent, BodyIsAsked, TakenAs, text_asked, TextIsAsked}
use Rattle.pp_origins.specs.Responses.{origin_gone}
use Rattle.pp_peers.specs.Peers.{is_number}
use Rattle.pp_peers.specs.declared.peers.Peer.{Peer}
use Rattle.pp_proxy.specs.Accepting.{IsSeated}
use Rattle.pp_proxy.specs.Handling.{AsksOn, Breaks, Reaches, SaysAt, Stops, TicksOn, Wakes}
use Rattle.pp_proxy.specs.Leaving.{Regains}
use Rattle.pp_proxy.specs.Moving.{Turning}
use Rattle.pp_proxy.specs.Ticks.{second_begun}
use Rattle.pp_seats.specs.Seats.{told_by}
use Rattle.pp_seats.specs.declared.seat.Next.{Next}
use Rattle.pp_seats.specs.declared.seat.Seat.{Seat}
use Rattle.pp_state.specs.Asking.{asking}
use Rattle.pp_state.specs.Bringing.{instance_of}
use Rattle.pp_state.specs.Ends.{all_regained, changed_at, numbers_of, on_seat, Parts, parts, place_of, regained}
use Rattle.pp_state.specs.declared.asking.Asking.{Asking}
use Rattle.pp_state.specs.declared.asking.Asking.TheVariants.{Body, Text}
use Rattle.pp_state.specs.declared.state.State.{State}
use Rattle.pp_stays_law.proofs.Onward.{regained_on}
use Rattle.pp_stays_law.proofs.Walk.{AllAt, changed_all, mapped_all}
use Rattle.pp_store.specs.Kept.{KeptMap}
use Rattle.pp_talk.specs.Loading.{Answer, chunk_at, LoadsOf, LoadsWhere, TakesChunk}
use Rattle.pp_talk.specs.Talking.{IsWrittenAt, said_as, told_in}
use Rattle.pp_world.specs.Log.{Log}
use Rattle.std.specs.Prelude.{slice_get}

module _ (S : Seat → Type 0) (Fits : List ℕ → Response → BodyRule → Type 0) (suits : Suits S Fits) where
  -- ---- an origin is asked

  took_as_stays : (took : Took) (k : ℕ) (awake : List ℕ) (took_as : ℕ → Sides → Sides) (x y : Sides) → ((n : ℕ) → Stay S x.parts (took_as n x).parts) → TakenAs took k awake took_as x y → Stay S x.parts y.parts
  took_as_stays None k awake took_as x y one is = becomes x.parts x.parts y.parts (ap (λ (w : Sides). w.parts) is) (stay_same x.parts)
  took_as_stays (Some (Ok n)) k awake took_as x y one is = becomes x.parts (took_as n x).parts y.parts (ap (λ (w : Sides). w.parts) is) (one n)
  took_as_stays (Some (Err fault)) k awake took_as x y one is = stay_then x.parts (origin_gone false k x).parts y.parts (gone_stays S Fits suits false k x) (replies_stay S Fits suits awake (origin_gone false k x) y is)

  text_stays : (o : Option Peer) (k number left now : ℕ) (awake : List ℕ) (links : List Link) (x y : Sides) (old new : Option Log) → TextIsAsked o k number left now awake links x y old new → Stay S x.parts y.parts
  text_stays None k number left now awake links x y old new is = becomes x.parts x.parts y.parts (ap (λ (w : Sides). w.parts) is.is) (stay_same x.parts)
  text_stays (Some peer) k number left now awake links x y old new is = took_as_stays is.took k awake (text_asked k number now) x y (λ n. beside x.parts (text_asked k number now n x).parts refl refl) is.is

  body_stays : (o : Option Seat) (k number left i : ℕ) (awake : List ℕ) (links : List Link) (x y : Sides) (old new : Option Log) → BodyIsAsked o k number left i awake links x y old new → Stay S x.parts y.parts
  body_stays None k number left i awake links x y old new is = becomes x.parts x.parts y.parts (ap (λ (w : Sides). w.parts) is.is) (stay_same x.parts)
  body_stays (Some seat) k number left i awake links x y old new is =
      took_as_stays is.took k awake (body_asked number i) x y
      (λ n. let q : Parts = on_seat i (body_sent n) x.parts in stay_then x.parts q (body_asked number i n x).parts (one S i (body_sent n) x.parts (λ seat its. suits.carry seat (body_sent n seat) (λ is. is) (λ is. is) its)) (beside q (body_asked number i n x).parts refl refl)) is.is

  asks_by : (o : Option Asking) (k now : ℕ) (awake : List ℕ) (links : List Link) (x y : Sides) (old new : Option Log) → AsksBy o k now awake links x y old new → Stay S x.parts y.parts
  asks_by None k now awake links x y old new is = becomes x.parts x.parts y.parts (ap (λ (w : Sides). w.parts) is.is) (stay_same x.parts)
  asks_by (Some (Text number left)) k now awake links x y old new is = text_stays (find (is_number k) x.peers) k number left now awake links x y old new is
  asks_by (Some (Body number left i)) k now awake links x y old new is = body_stays (slice_get x.parts.seats i) k number left i awake links x y old new is

  pub asks_stay : (k : ℕ) (x y : Turning) → AsksOn k x y → Stay S (parts x.moving.desk.state) (parts y.moving.desk.state)
  asks_stay k x y asks =
      let d : Desk = x.moving.desk in
      asks_by (asking k (sides d).parts.seats (sides d).parts.flow) k d.state.now d.state.awake.items x.moving.links (sides d) (sides y.moving.desk) x.log y.log asks.asks

  -- ---- a client is written to, behind the read of a chunk

  chunk_stays : (answer : Answer) (out : List ℕ) (index : ℕ) (id : ObjectId) (s t : State) → TakesChunk answer out index id s t → Stay S (parts s) (parts t)
  chunk_stays None out index id s t is = beside (parts s) (parts t) (ap (λ (u : State). u.seats.items) is) (ap (λ (u : State). u.is_astray) is)
  chunk_stays (Some (Ok count)) out index id s t is = beside (parts s) (parts t) (ap (λ (u : State). u.seats.items) is.rest) (ap (λ (u : State). u.is_astray) is.rest)
  chunk_stays (Some (Err fault)) out index id s t is = beside (parts s) (parts t) (ap (λ (u : State). u.seats.items) is) (ap (λ (u : State). u.is_astray) is)

  loads_of : (id : ObjectId) (o : Option Instance) (index : Option ℕ) (shelf : KeptMap) (s : State) (behind : KeptMap) (t : State) (old new : Option Log) (before now : ℕ) → LoadsOf id o index shelf s behind t old new before now → Stay S (parts s) (parts t)
  loads_of id None index shelf s behind t old new before now is = becomes (parts s) (parts s) (parts t) (ap (λ (u : State). parts u) is.1) (stay_same (parts s))
  loads_of id (Some i) None shelf s behind t old new before now is = becomes (parts s) (parts s) (parts t) (ap (λ (u : State). parts u) is.1) (stay_same (parts s))
  loads_of id (Some i) (Some index) shelf s behind t old new before now is = chunk_stays is.answer is.out index id s t is.is

  loads_where : (o : Option Next) (shelf : KeptMap) (s : State) (behind : KeptMap) (t : State) (old new : Option Log) (before now : ℕ) → LoadsWhere o shelf s behind t old new before now → Stay S (parts s) (parts t)
  loads_where None shelf s behind t old new before now is = becomes (parts s) (parts s) (parts t) (ap (λ (u : State). parts u) is.1) (stay_same (parts s))
  loads_where (Some next) shelf s behind t old new before now is = loads_of next.source (instance_of next.source s.cache.instances) (chunk_at next.at) shelf s behind t old new before now is

  told_stays : (o : Option Seat) (i n : ℕ) (p : Parts) → Stay S p (told_in o i n p)
  told_stays None i n p = stay_same p
  told_stays (Some seat) i n p = let q : Parts = on_seat i (told_by n) p in stay_then p q (told_in (Some seat) i n p) (one S i (told_by n) p (λ other its. suits.carry other (told_by n other) (λ is. is) (said_short n other.client) its)) (beside q (told_in (Some seat) i n p) refl refl)

  said_stays : (took : Took) (i : ℕ) (x : Sides) → Stay S x.parts (said_as took i x).parts
  said_stays None i x = stay_same x.parts
  said_stays (Some (Ok n)) i x = told_stays (slice_get x.parts.seats i) i n x.parts
  said_stays (Some (Err fault)) i x = closes_one S Fits suits i x

  written_stays : (o : Option Seat) (i : ℕ) (links : List Link) (x y : Sides) (old new : Option Log) → IsWrittenAt o i links x y old new → Stay S x.parts y.parts
  written_stays None i links x y old new is = becomes x.parts x.parts y.parts (ap (λ (w : Sides). w.parts) is.0) (stay_same x.parts)
  written_stays (Some seat) i links x y old new is = becomes x.parts (said_as is.took i x).parts y.parts (ap (λ (w : Sides). w.parts) is.is) (said_stays is.took i x)

  pub says_stay : (i : ℕ) (x y : Turning) → SaysAt i x y → Stay S (parts x.moving.desk.state) (parts y.moving.desk.state)
  says_stay i x y says =
      let r : Desk = says.roused in
      let l : Desk = says.says.loaded in
      let z : Sides = says.says.says.0 in
      subst (λ (p : Parts). Stay S p (parts y.moving.desk.state)) (roused_parts i x.moving.desk r says.rouses)
      (stay_then (parts r.state) (parts l.state) (parts y.moving.desk.state)
      (loads_where (option_and_then (next_on_disk r.state) (slice_get r.state.seats.items i)) x.shelf r.state y.shelf l.state x.log says.says.between x.faults says.says.count says.says.loads)
      (stay_then (parts l.state) z.parts (parts y.moving.desk.state) (written_stays (slice_get l.state.seats.items i) i x.moving.links (sides l) z says.says.between y.log says.says.says.1)
      (replies_stay S Fits suits l.state.awake.items z (sides y.moving.desk) says.says.says.2)))

  -- ---- of the desk alone

  pub regained_all : (m : Memory) (places : List ℕ) (seats : List Seat) → AllAt S seats → AllAt S (all_regained m places seats)
  regained_all m [] seats h = h
  regained_all m (i ∷ places) seats h = regained_all m places (changed_at i (regained m) seats) (changed_all S i (regained m) seats (λ seat its. onward suits seat (regained m seat) (regained_on m seat) its) h)

  regains_stay : (old new : Desk) → Regains old new → Stay S (parts old.state) (parts new.state)
  regains_stay old new is =
      seated (parts old.state) (parts new.state) (ap (λ (d : Desk). d.state.is_astray) is.rest)
      (λ h. subst (λ (ss : List Seat). AllAt S ss) (sym is.is) (regained_all old.state.cache old.state.awake.items old.state.seats.items h))

  touched_stays : (now id : ℕ) (old new : Desk) → sides new ≡ touched now id (sides old) → Stay S (parts old.state) (parts new.state)
  touched_stays now id old new is =
      becomes (parts old.state) (touched now id (sides old)).parts (parts new.state) (ap (λ (w : Sides). w.parts) is) (where_stays S (place_of id (numbers_of old.state.seats.items)) (marked_seat now) (parts old.state) (λ seat its. suits.carry seat (marked_seat now seat) (λ is. is) (λ is. is) its))

  pub wakes_stay : (id : ℕ) (old new : Desk) → Wakes id old new → Stay S (parts old.state) (parts new.state)
  wakes_stay id old new is = stay_then (parts old.state) (parts is.anew.state) (parts new.state) (regains_stay old is.anew is.regains) (touched_stays is.anew.state.now id is.anew new is.touches.is)

  pub breaks_stay : (k : ℕ) (old new : Desk) → Breaks k old new → Stay S (parts old.state) (parts new.state)
  breaks_stay k old new is =
      let z : Sides = origin_gone false k (sides is.anew) in
      stay_then (parts old.state) (parts is.anew.state) (parts new.state) (regains_stay old is.anew is.regains)
      (stay_then (parts is.anew.state) z.parts (parts new.state) (gone_stays S Fits suits false k (sides is.anew)) (replies_stay S Fits suits is.anew.state.awake.items z (sides new) is.ends))

  pub reaches_stay : (k : ℕ) (old new : Desk) → Reaches k old new → Stay S (parts old.state) (parts new.state)
  reaches_stay k old new is =
      stay_then (parts old.state) (parts is.woken.state) (parts new.state) (touched_stays old.state.now k old is.woken is.touches.is)
      (becomes (parts is.woken.state) (parts is.woken.state) (parts new.state) (ap (λ (w : Sides). w.parts) is.reaches.is) (stay_same (parts is.woken.state)))

  pub stops_stay : (old new : Desk) → Stops old new → Stay S (parts old.state) (parts new.state)
  stops_stay old new is = beside (parts old.state) (parts new.state) (ap (λ (d : Desk). d.state.seats.items) is.rest) (ap (λ (d : Desk). d.state.is_astray) is.rest)

  -- a second begins
  woken_keeps : (now : ℕ) (s : State) (seat : Seat) → S seat → S (woken_seat now s seat)
  woken_keeps now s seat its = by (is_waiting s seat)
    where
      by : (b : Bool) → S (woken_by b now seat)
      by true = suits.carry seat (woken_by true now seat) (λ is. is) (λ is. is) its
      by false = its

  begun_stays : (b : Bool) (now : ℕ) (s : State) (p : Parts) → Stay S p (record p { seats = map (woken_seat now s) (cond b (map (marked_seat now) p.seats) p.seats) })
  begun_stays b now s p = seated p (record p { seats = map (woken_seat now s) (cond b (map (marked_seat now) p.seats) p.seats) }) refl (λ h. mapped_all S (woken_seat now s) (cond b (map (marked_seat now) p.seats) p.seats) (woken_keeps now s) (marks b h))
    where
      marks : (b : Bool) → AllAt S p.seats → AllAt S (cond b (map (marked_seat now) p.seats) p.seats)
      marks true h = mapped_all S (marked_seat now) p.seats (λ seat its. suits.carry seat (marked_seat now seat) (λ is. is) (λ is. is) its) h
      marks false h = h

  pub ticks_stay : (seconds : ℕ) (old new : Desk) → TicksOn seconds old new → Stay S (parts old.state) (parts new.state)
  ticks_stay seconds old new is =
      let now : ℕ = max old.state.now seconds in
      let x : Sides = second_begun now old.state (sides old) in
      let z : Sides = without_idle now x in
      becomes (parts old.state) z.parts (parts new.state) (ap (λ (w : Sides). w.parts) is.is)
      (stay_then (parts old.state) x.parts z.parts (begun_stays (is_leap now old.state.has_ticked old.state.now) now old.state (parts old.state))
      (all_idle_on S Fits suits now (peer_numbers x.peers) x))

  pub seated_stays : (seat : Seat) (old new : Desk) → S seat → IsSeated seat old new → Stay S (parts old.state) (parts new.state)
  seated_stays seat old new its is =
      seated (parts old.state) (parts new.state) (ap (λ (d : Desk). d.state.is_astray) is.rest)
      (λ h. subst (λ (ss : List Seat). AllAt S ss) (sym is.seats) (more old.state.seats.items h))
    where
      more : (seats : List Seat) → AllAt S seats → AllAt S (seats ++ seat ∷ [])
      more [] h zero other at = subst S (some_is seat other at) its
      more [] h (suc i) other at = absurd (cc at)
      more (first ∷ seats) h zero other at = h zero other at
      more (first ∷ seats) h (suc i) other at = more seats (λ j last here. h (suc j) last here) i other at
