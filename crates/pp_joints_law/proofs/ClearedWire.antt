-- Where a client is read or written to no row is cleared; where an origin is asked, or is gone, some may be.
use Rattle.std.proofs.Common.{◌≡◌, refl, sym, subst, ap, ℕ, Bool, true, false, find, List, Option, Some, None, option_map, option_and_then, Ok, Err}
use Rattle.std.specs.Prelude.{slice_get}
use Rattle.pp_cache.specs.Memory.{Memory}
use Rattle.pp_desk.specs.Calls.{Found, Took}
use Rattle.pp_desk.specs.Closings.{Sides, with_parts}
use Rattle.pp_desk.specs.Replies.{EndsReplies}
use Rattle.pp_flow.specs.Changes.{Exchanges, entry_of}
use Rattle.pp_flow.specs.declared.entry.Entry.{Entry}
use Rattle.pp_flow.specs.declared.entry.Exchange.{Exchange}
use Rattle.pp_flow.specs.declared.errand.Errand.{Errand}
use Rattle.pp_framing.specs.declared.body.Ending.{Ending}
use Rattle.pp_framing.specs.declared.body.Ending.TheVariants.{Whole, Short}
use Rattle.pp_holes.specs.Places.{Chunk}
use Rattle.pp_links.specs.Links.{Link}
use Rattle.pp_objects.specs.Instances.{is_there}
use Rattle.pp_origins.specs.Asked.{AsksBy, BodyIsAsked, TakenAs, TextIsAsked, asked_more, asked_of_body, body_asked, errand_changed, on_errand, text_asked}
use Rattle.pp_origins.specs.Responses.{brought_by, closed_unless, ended_by, ending_by, finished, goes_on_by, origin_gone, response_whole, whole_for, whole_where}
use Rattle.pp_peers.specs.Peers.{is_number}
use Rattle.pp_peers.specs.declared.peers.Peer.{Peer}
use Rattle.pp_joints_law.proofs.Askables.{can_end, can_errand}
use Rattle.pp_joints_law.proofs.ClearedParts.{ClearsIn, Stays, clears_stay, clears_then, itself, stays_as, stays_beside, stays_then}
use Rattle.pp_joints_law.proofs.ClearedSides.{clears_closed, replies_stay, stays_closed}
use Rattle.pp_joints_law.proofs.Asks.{Can}
use Rattle.pp_seats.specs.Said.{used_by}
use Rattle.pp_seats.specs.declared.seat.Next.{Next}
use Rattle.pp_seats.specs.declared.seat.Seat.{Seat}
use Rattle.pp_state.specs.Ends.{Parts}
use Rattle.pp_state.specs.Lines.{first_on}
use Rattle.pp_state.specs.declared.asking.Asking.{Asking}
use Rattle.pp_state.specs.declared.asking.Asking.TheVariants.{Text, Body}
use Rattle.pp_talk.specs.Talking.{Hears, IsReadAt, IsWrittenAt, Says, TakesIn, said_as, told_in, used_chunks}
use Rattle.pp_world.specs.Log.{Log}

same_parts : (x z : Sides) → z ≡ x → Stays x.parts z.parts
same_parts x z is = stays_as x.parts x.parts z.parts (ap (λ (w : Sides). w.parts) is) (itself x.parts)

-- ---- a client is read

takes_in : (found : Found) (front : List ℕ) (i : ℕ) (x z : Sides) → TakesIn found front i x z → Stays x.parts z.parts
takes_in found front i x z is =
    stays_beside x.parts z.parts (ap (λ (w : Sides). w.parts.cache.instances) is.rest) (ap (λ (w : Sides). w.parts.cache.outdated) is.rest) (λ can. subst Can (sym (ap (λ (w : Sides). w.parts.flow) is.rest)) can)

reads_at : (o : Option Seat) (most i : ℕ) (links : List Link) (x z : Sides) (old new : Option Log) → IsReadAt o most i links x z old new → Stays x.parts z.parts
reads_at None most i links x z old new is = same_parts x z is.0
reads_at (Some seat) most i links x z old new is = takes_in is.found is.front i x z is.is

pub stays_heard : (most i : ℕ) (awake : List ℕ) (links : List Link) (x z : Sides) (old new : Option Log) → Hears most i awake links x z old new → Stays x.parts z.parts
stays_heard most i awake links x z old new is = stays_then x.parts is.0.parts z.parts (reads_at (slice_get x.parts.seats i) most i links x is.0 old new is.1) (replies_stay awake is.0 z is.2)

-- ---- a client is written to

chunks_same : (b : Bool) (cs : List Chunk) (m : Memory) → ((elim b as (λ t. Memory) [ true ↦ record m { chunks = cs } | false ↦ m ]).instances ≡ m.instances) × ((elim b as (λ t. Memory) [ true ↦ record m { chunks = cs } | false ↦ m ]).outdated ≡ m.outdated)
chunks_same true cs m = (refl, refl)
chunks_same false cs m = (refl, refl)

used_same : (o : Option Next) (m : Memory) → ((used_chunks o m).instances ≡ m.instances) × ((used_chunks o m).outdated ≡ m.outdated)
used_same None m = (refl, refl)
used_same (Some used) m = chunks_same (is_there used.source m.instances) _ m

told_stays : (o : Option Seat) (i n : ℕ) (p : Parts) → Stays p (told_in o i n p)
told_stays None i n p = itself p
told_stays (Some seat) i n p = stays_beside p (told_in (Some seat) i n p) (used_same (used_by n seat) p.cache).0 (used_same (used_by n seat) p.cache).1 (λ can. can)

said_stays : (took : Took) (i : ℕ) (x : Sides) → Stays x.parts (said_as took i x).parts
said_stays None i x = itself x.parts
said_stays (Some (Ok n)) i x = told_stays (slice_get x.parts.seats i) i n x.parts
said_stays (Some (Err fault)) i x = stays_closed i x

written_stays : (o : Option Seat) (i : ℕ) (links : List Link) (x z : Sides) (old new : Option Log) → IsWrittenAt o i links x z old new → Stays x.parts z.parts
written_stays None i links x z old new is = same_parts x z is.0
written_stays (Some seat) i links x z old new is = stays_as x.parts (said_as is.took i x).parts z.parts (ap (λ (w : Sides). w.parts) is.is) (said_stays is.took i x)

pub stays_said : (i : ℕ) (awake : List ℕ) (links : List Link) (x z : Sides) (old new : Option Log) → Says i awake links x z old new → Stays x.parts z.parts
stays_said i awake links x z old new is = stays_then x.parts is.0.parts z.parts (written_stays (slice_get x.parts.seats i) i links x is.0 old new is.1) (replies_stay awake is.0 z is.2)

-- ---- a connection to an origin is gone

finishes : (e : Exchange) (p : Parts) → Stays p (finished e p)
finishes e p = stays_beside p (finished e p) refl refl (λ can. can_end e.number p.flow can)

unless : (b : Bool) (k : ℕ) (x : Sides) → ClearsIn x.parts (closed_unless b k x).parts
unless true k x = clears_stay x.parts x.parts (itself x.parts)
unless false k x = clears_closed k true x

pub clears_whole : (k : ℕ) (x : Sides) → ClearsIn x.parts (response_whole k x).parts
clears_whole k x = by (option_and_then (λ number. entry_of number x.parts.flow) (first_on k x.parts))
  where
    by : (o : Option Entry) → ClearsIn x.parts (whole_for k o x).parts
    by None = clears_stay x.parts x.parts (itself x.parts)
    by (Some e) =
        let y : Sides = with_parts (finished e.exchange) x in
        let z : Sides = record y { peers = brought_by k (find (is_number k) y.peers) y.peers } in
        clears_then x.parts y.parts (whole_for k (Some e) x).parts (clears_stay x.parts y.parts (finishes e.exchange x.parts)) (unless (goes_on_by (find (is_number k) y.peers) e.errand.body_left e.errand.binds_connection) k z)

abbrev ending : Bool → ℕ → Sides → Sides
ending is_clean k x = record x { peers = ended_by is_clean k (find (is_number k) x.peers) x.peers }

pub clears_gone : (is_clean : Bool) (k : ℕ) (x : Sides) → ClearsIn x.parts (origin_gone is_clean k x).parts
clears_gone is_clean k x =
    let z : Sides = whole_where (ending_by is_clean (find (is_number k) x.peers)) k (ending is_clean k x) in
    clears_then x.parts z.parts (origin_gone is_clean k x).parts (by (ending_by is_clean (find (is_number k) x.peers))) (clears_closed k true z)
  where
    by : (e : Ending) → ClearsIn x.parts (whole_where e k (ending is_clean k x)).parts
    by Whole = clears_whole k (ending is_clean k x)
    by Short = clears_stay x.parts x.parts (itself x.parts)

pub clears_broken : (k : ℕ) (awake : List ℕ) (x z : Sides) → EndsReplies awake (origin_gone false k x) z → ClearsIn x.parts z.parts
clears_broken k awake x z is = clears_then x.parts (origin_gone false k x).parts z.parts (clears_gone false k x) (clears_stay (origin_gone false k x).parts z.parts (replies_stay awake (origin_gone false k x) z is))

-- ---- an origin is asked

can_on : (n : ℕ) (f : Errand → Errand) (flow : Exchanges) → ((errand : Errand) → (f errand).place ≡ errand.place) → Can flow → Can (on_errand n f flow)
can_on n f flow same can = by (entry_of n flow) refl
  where
    by : (o : Option Entry) → entry_of n flow ≡ o → Can (errand_changed n f (option_map (λ e. e.errand) o) flow)
    by None is = can
    by (Some x) is = can_errand n (f x.errand) flow x is (same x.errand) can

took_as : (took : Took) (k : ℕ) (awake : List ℕ) (as_taken : ℕ → Sides → Sides) (x z : Sides) → ((n : ℕ) → Stays x.parts (as_taken n x).parts) → TakenAs took k awake as_taken x z → ClearsIn x.parts z.parts
took_as None k awake as_taken x z one is = clears_stay x.parts z.parts (same_parts x z is)
took_as (Some (Ok n)) k awake as_taken x z one is = clears_stay x.parts z.parts (stays_as x.parts (as_taken n x).parts z.parts (ap (λ (w : Sides). w.parts) is) (one n))
took_as (Some (Err fault)) k awake as_taken x z one is = clears_broken k awake x z is

text_clears : (o : Option Peer) (k number left now : ℕ) (awake : List ℕ) (links : List Link) (x z : Sides) (old new : Option Log) → TextIsAsked o k number left now awake links x z old new → ClearsIn x.parts z.parts
text_clears None k number left now awake links x z old new is = clears_stay x.parts z.parts (same_parts x z is.is)
text_clears (Some peer) k number left now awake links x z old new is =
    took_as is.took k awake (text_asked k number now) x z (λ n. stays_beside x.parts (text_asked k number now n x).parts refl refl (λ can. can_on number (asked_more n now) x.parts.flow (λ errand. refl) can)) is.is

body_clears : (o : Option Seat) (k number left i : ℕ) (awake : List ℕ) (links : List Link) (x z : Sides) (old new : Option Log) → BodyIsAsked o k number left i awake links x z old new → ClearsIn x.parts z.parts
body_clears None k number left i awake links x z old new is = clears_stay x.parts z.parts (same_parts x z is.is)
body_clears (Some seat) k number left i awake links x z old new is =
    took_as is.took k awake (body_asked number i) x z (λ n. stays_beside x.parts (body_asked number i n x).parts refl refl (λ can. can_on number (asked_of_body n) x.parts.flow (λ errand. refl) can)) is.is

pub clears_asked : (o : Option Asking) (k now : ℕ) (awake : List ℕ) (links : List Link) (x z : Sides) (old new : Option Log) → AsksBy o k now awake links x z old new → ClearsIn x.parts z.parts
clears_asked None k now awake links x z old new is = clears_stay x.parts z.parts (same_parts x z is.is)
clears_asked (Some (Text number left)) k now awake links x z old new is = text_clears (find (is_number k) x.peers) k number left now awake links x z old new is
clears_asked (Some (Body number left i)) k now awake links x z old new is = body_clears (slice_get x.parts.seats i) k number left i awake links x z old new is
