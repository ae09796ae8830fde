-- Of what is in memory nothing comes where a client is read or written to, and where an origin is asked or is gone.
use Rattle.std.proofs.Common.{◌≡◌, refl, ap, ℕ, ◌+◌, ◌-◌, ◌/◌, min, Bool, true, false, find, List, Option, Some, None, option_map, option_and_then, Ok, Err}
use Rattle.std.specs.Prelude.{slice_get}
use Rattle.pp_cache.specs.Memory.{Memory}
use Rattle.pp_cache.specs.Uses.{used_run}
use Rattle.pp_desk.specs.Calls.{Took}
use Rattle.pp_desk.specs.Closings.{Sides, with_parts}
use Rattle.pp_desk.specs.Replies.{EndsReplies}
use Rattle.pp_flow.specs.Changes.{Exchanges, entry_of}
use Rattle.pp_flow.specs.declared.entry.Entry.{Entry}
use Rattle.pp_flow.specs.declared.entry.Exchange.{Exchange}
use Rattle.pp_flow.specs.declared.errand.Errand.{Errand}
use Rattle.pp_framing.specs.declared.body.Ending.{Ending}
use Rattle.pp_framing.specs.declared.body.Ending.TheVariants.{Whole, Short}
use Rattle.pp_links.specs.Links.{Link}
use Rattle.pp_objects.specs.Instances.{is_there}
use Rattle.pp_origins.specs.Asked.{AsksBy, BodyIsAsked, TakenAs, TextIsAsked, asked_more, asked_of_body, body_asked, errand_changed, on_errand, text_asked}
use Rattle.pp_origins.specs.Responses.{brought_by, closed_unless, ended_by, ending_by, finished, goes_on_by, origin_gone, response_whole, whole_for, whole_where}
use Rattle.pp_peers.specs.Peers.{is_number}
use Rattle.pp_peers.specs.declared.peers.Peer.{Peer}
use Rattle.pp_seats.specs.Said.{used_by}
use Rattle.pp_seats.specs.declared.seat.Next.{Next}
use Rattle.pp_seats.specs.declared.seat.Seat.{Seat}
use Rattle.pp_state.specs.Ends.{Parts}
use Rattle.pp_state.specs.Lines.{first_on}
use Rattle.pp_state.specs.declared.asking.Asking.{Asking}
use Rattle.pp_state.specs.declared.asking.Asking.TheVariants.{Text, Body}
use Rattle.pp_talk.specs.Talking.{Hears, IsReadAt, IsWrittenAt, Says, said_as, told_in, used_chunks}
use Rattle.pp_world.specs.Log.{Log}
use Rattle.pp_grown_law.proofs.Joins.{held_used}
use Rattle.pp_grown_law.proofs.Numbers.{Flows, flows_ended, flows_errand, flows_same}
use Rattle.pp_grown_law.proofs.Passing.{Goes, goes_beside, goes_none, goes_same, goes_then}
use Rattle.pp_grown_law.proofs.Shut.{client_goes, conn_goes, goes_sides, replies_go}
use Rattle.pp_grown_law.proofs.Slots.{Lessens, lessens_none, lessens_rows}

same_goes : (x z : Sides) → z ≡ x → Goes x.parts z.parts
same_goes x z is = goes_sides x x z is (goes_none x.parts)

-- ---- a client is read

reads_go : (o : Option Seat) (most i : ℕ) (links : List Link) (x z : Sides) (old new : Option Log) → IsReadAt o most i links x z old new → Goes x.parts z.parts
reads_go None most i links x z old new is = same_goes x z is.0
reads_go (Some seat) most i links x z old new is = goes_same x.parts z.parts (ap (λ (w : Sides). w.parts.cache) is.is.rest) (ap (λ (w : Sides). w.parts.flow) is.is.rest)

pub heard_goes : (most i : ℕ) (awake : List ℕ) (links : List Link) (x z : Sides) (old new : Option Log) → Hears most i awake links x z old new → Goes x.parts z.parts
heard_goes most i awake links x z old new is = goes_then x.parts is.0.parts z.parts (reads_go (slice_get x.parts.seats i) most i links x is.0 old new is.1) (replies_go awake is.0 z is.2)

-- ---- a client is written to

used_less : (o : Option Next) (m : Memory) → Lessens m (used_chunks o m)
used_less None m = lessens_none m
used_less (Some used) m = by (is_there used.source m.instances)
  where
    count : ℕ
    count = (min used.to 1073741824 + 4095) / 4096 - used.at / 4096

    by : (b : Bool) → Lessens m (elim b as (λ t. Memory) [ true ↦ record m { chunks = used_run count used.source.slot (used.at / 4096) m.chunks } | false ↦ m ])
    by true = lessens_rows m (record m { chunks = used_run count used.source.slot (used.at / 4096) m.chunks }) refl (λ slot o held. held_used count used.source.slot (used.at / 4096) slot o m.chunks held) refl refl
    by false = lessens_none m

told_goes : (o : Option Seat) (i n : ℕ) (p : Parts) → Goes p (told_in o i n p)
told_goes None i n p = goes_none p
told_goes (Some seat) i n p = record { memory = used_less (used_by n seat) p.cache; flow = flows_same p.flow p.flow refl }

said_goes : (took : Took) (i : ℕ) (x : Sides) → Goes x.parts (said_as took i x).parts
said_goes None i x = goes_none x.parts
said_goes (Some (Ok n)) i x = told_goes (slice_get x.parts.seats i) i n x.parts
said_goes (Some (Err fault)) i x = client_goes i x

written_goes : (o : Option Seat) (i : ℕ) (links : List Link) (x z : Sides) (old new : Option Log) → IsWrittenAt o i links x z old new → Goes x.parts z.parts
written_goes None i links x z old new is = same_goes x z is.0
written_goes (Some seat) i links x z old new is = goes_sides x (said_as is.took i x) z is.is (said_goes is.took i x)

pub says_go : (i : ℕ) (awake : List ℕ) (links : List Link) (x z : Sides) (old new : Option Log) → Says i awake links x z old new → Goes x.parts z.parts
says_go i awake links x z old new is = goes_then x.parts is.0.parts z.parts (written_goes (slice_get x.parts.seats i) i links x is.0 old new is.1) (replies_go awake is.0 z is.2)

-- ---- a connection to an origin is gone

finished_goes : (e : Exchange) (p : Parts) → Goes p (finished e p)
finished_goes e p = goes_beside p (finished e p) refl (flows_ended e.number p.flow)

pub unless_goes : (b : Bool) (k : ℕ) (x : Sides) → Goes x.parts (closed_unless b k x).parts
unless_goes true k x = goes_none x.parts
unless_goes false k x = conn_goes k true x

pub whole_goes : (k : ℕ) (x : Sides) → Goes x.parts (response_whole k x).parts
whole_goes k x = by (option_and_then (λ number. entry_of number x.parts.flow) (first_on k x.parts))
  where
    by : (o : Option Entry) → Goes x.parts (whole_for k o x).parts
    by None = goes_none x.parts
    by (Some e) =
        let y : Sides = with_parts (finished e.exchange) x in
        let z : Sides = record y { peers = brought_by k (find (is_number k) y.peers) y.peers } in
        goes_then x.parts y.parts (whole_for k (Some e) x).parts (finished_goes e.exchange x.parts) (unless_goes (goes_on_by (find (is_number k) y.peers) e.errand.body_left e.errand.binds_connection) k z)

abbrev ending : Bool → ℕ → Sides → Sides
ending is_clean k x = record x { peers = ended_by is_clean k (find (is_number k) x.peers) x.peers }

pub gone_goes : (is_clean : Bool) (k : ℕ) (x : Sides) → Goes x.parts (origin_gone is_clean k x).parts
gone_goes is_clean k x =
    let z : Sides = whole_where (ending_by is_clean (find (is_number k) x.peers)) k (ending is_clean k x) in
    goes_then x.parts z.parts (origin_gone is_clean k x).parts (by (ending_by is_clean (find (is_number k) x.peers))) (conn_goes k true z)
  where
    by : (e : Ending) → Goes x.parts (whole_where e k (ending is_clean k x)).parts
    by Whole = whole_goes k (ending is_clean k x)
    by Short = goes_none x.parts

pub broken_goes : (k : ℕ) (awake : List ℕ) (x z : Sides) → EndsReplies awake (origin_gone false k x) z → Goes x.parts z.parts
broken_goes k awake x z is = goes_then x.parts (origin_gone false k x).parts z.parts (gone_goes false k x) (replies_go awake (origin_gone false k x) z is)

-- ---- an origin is asked

errand_flows : (n : ℕ) (f : Errand → Errand) (flow : Exchanges) → Flows flow (on_errand n f flow)
errand_flows n f flow = by (option_map (λ e. e.errand) (entry_of n flow))
  where
    by : (o : Option Errand) → Flows flow (errand_changed n f o flow)
    by None = flows_same flow flow refl
    by (Some errand) = flows_errand n (f errand) flow

took_goes : (took : Took) (k : ℕ) (awake : List ℕ) (as_taken : ℕ → Sides → Sides) (x z : Sides) → ((n : ℕ) → Goes x.parts (as_taken n x).parts) → TakenAs took k awake as_taken x z → Goes x.parts z.parts
took_goes None k awake as_taken x z one is = same_goes x z is
took_goes (Some (Ok n)) k awake as_taken x z one is = goes_sides x (as_taken n x) z is (one n)
took_goes (Some (Err fault)) k awake as_taken x z one is = broken_goes k awake x z is

text_goes : (o : Option Peer) (k number left now : ℕ) (awake : List ℕ) (links : List Link) (x z : Sides) (old new : Option Log) → TextIsAsked o k number left now awake links x z old new → Goes x.parts z.parts
text_goes None k number left now awake links x z old new is = same_goes x z is.is
text_goes (Some peer) k number left now awake links x z old new is =
    took_goes is.took k awake (text_asked k number now) x z (λ n. goes_beside x.parts (text_asked k number now n x).parts refl (errand_flows number (asked_more n now) x.parts.flow)) is.is

body_goes : (o : Option Seat) (k number left i : ℕ) (awake : List ℕ) (links : List Link) (x z : Sides) (old new : Option Log) → BodyIsAsked o k number left i awake links x z old new → Goes x.parts z.parts
body_goes None k number left i awake links x z old new is = same_goes x z is.is
body_goes (Some seat) k number left i awake links x z old new is =
    took_goes is.took k awake (body_asked number i) x z (λ n. goes_beside x.parts (body_asked number i n x).parts refl (errand_flows number (asked_of_body n) x.parts.flow)) is.is

pub asked_goes : (o : Option Asking) (k now : ℕ) (awake : List ℕ) (links : List Link) (x z : Sides) (old new : Option Log) → AsksBy o k now awake links x z old new → Goes x.parts z.parts
asked_goes None k now awake links x z old new is = same_goes x z is.is
asked_goes (Some (Text number left)) k now awake links x z old new is = text_goes (find (is_number k) x.peers) k number left now awake links x z old new is
asked_goes (Some (Body number left i)) k now awake links x z old new is = body_goes (slice_get x.parts.seats i) k number left i awake links x z old new is
