-- What one write asks an origin (RFC 2616, sections 5 and 8.2).
use Rattle.std.specs.Prelude.{◌≡◌, ℕ, ◌≤◌, ◌+◌, ◌-◌, false, ◌&&◌, nat_lt, min, IfOk, IfSome, List, is_some, length, slice_get, take, Option, Some, None, option_map, Ok, Err}
use Rattle.std.specs.List.{find}
use Rattle.pp_client.specs.Requests.{body_in, body_taken}
use Rattle.pp_flow.specs.Changes.{Exchanges, entry_of, with_errand}
use Rattle.pp_flow.specs.declared.errand.Errand.{Errand}
use Rattle.pp_links.specs.Links.{Link, has_link}
use Rattle.pp_peers.specs.Peers.{is_number, with_pipe}
use Rattle.pp_peers.specs.declared.peers.Peer.{Peer}
use Rattle.pp_pipe.specs.Line.{taken}
use Rattle.pp_desk.specs.Closings.{Sides}
use Rattle.pp_desk.specs.Replies.{EndsReplies}
use Rattle.pp_origins.specs.Responses.{origin_gone}
use Rattle.pp_desk.specs.Calls.{Took, write_log}
use Rattle.pp_seats.specs.declared.seat.Seat.{Seat}
use Rattle.pp_state.specs.Asking.{asking}
use Rattle.pp_state.specs.Ends.{changed_at}
use Rattle.pp_state.specs.declared.asking.Asking.{Asking}
use Rattle.pp_state.specs.declared.asking.Asking.TheVariants.{Text, Body}
use Rattle.pp_world.specs.Log.{AppendsAll, Log}

-- what is asked of the exchange is changed
abbrev pub errand_changed : ℕ → (Errand → Errand) → Option Errand → Exchanges → Exchanges
errand_changed number f None flow = flow
errand_changed number f (Some errand) flow = with_errand number (f errand) flow

abbrev pub on_errand : ℕ → (Errand → Errand) → Exchanges → Exchanges
on_errand number f flow = errand_changed number f (option_map (λ e. e.errand) (entry_of number flow)) flow

-- ---- of its text: from the front of what is to be written there

abbrev pub asked_more : ℕ → ℕ → Errand → Errand
asked_more n now errand = record errand { asked = min (errand.asked + n) 18446744073709551615; requested = now }

abbrev pub pipe_taken : ℕ → ℕ → Option Peer → List Peer → List Peer
pipe_taken k n None peers = peers
pipe_taken k n (Some peer) peers = with_pipe k (taken n peer.pipe) peers

abbrev pub text_asked : ℕ → ℕ → ℕ → ℕ → Sides → Sides
text_asked k number now n x = record {
  parts = record x.parts { flow = on_errand number (asked_more n now) x.parts.flow };
  peers = pipe_taken k n (find (is_number k) x.peers) x.peers;
}

-- ---- of the body of its request: of what its client sent

abbrev pub asked_of_body : ℕ → Errand → Errand
asked_of_body n errand = record errand { body_left = errand.body_left - n }

abbrev pub body_sent : ℕ → Seat → Seat
body_sent n seat = record seat { client = record seat.client { heard = body_taken n seat.client.heard }; body_left = seat.body_left - n }

abbrev pub body_asked : ℕ → ℕ → ℕ → Sides → Sides
body_asked number i n x = record x { parts = record x.parts { seats = changed_at i (body_sent n) x.parts.seats; flow = on_errand number (asked_of_body n) x.parts.flow } }

-- ---- the origin took so many; or its connection broke

abbrev pub TakenAs : Took → ℕ → List ℕ → (ℕ → Sides → Sides) → Sides → Sides → Type 0
TakenAs None k awake took_as x y = y ≡ x
TakenAs (Some (Ok n)) k awake took_as x y = y ≡ took_as n x
TakenAs (Some (Err fault)) k awake took_as x y = EndsReplies awake (origin_gone false k x) y

pub record IsAskedOf (k : ℕ) (bytes awake : List ℕ) (links : List Link) (took_as : ℕ → Sides → Sides) (x y : Sides) (old new : Option Log) : Type 0 where
  pub took : Took
  pub told : AppendsAll old new (write_log k bytes took)
  pub called : is_some took ≡ (has_link k links && nat_lt 0 (length bytes))
  pub within : IfSome took (λ r. IfOk r (λ n. n ≤ length bytes))
  pub is : TakenAs took k awake took_as x y

-- no word
pub record IsSilent (x y : Sides) (old new : Option Log) : Type 0 where
  pub is : y ≡ x
  pub told : new ≡ old

abbrev pub TextIsAsked : Option Peer → ℕ → ℕ → ℕ → ℕ → List ℕ → List Link → Sides → Sides → Option Log → Option Log → Type 0
TextIsAsked None k number left now awake links x y old new = IsSilent x y old new
TextIsAsked (Some peer) k number left now awake links x y old new = IsAskedOf k (take left peer.pipe.out) awake links (text_asked k number now) x y old new

abbrev pub BodyIsAsked : Option Seat → ℕ → ℕ → ℕ → ℕ → List ℕ → List Link → Sides → Sides → Option Log → Option Log → Type 0
BodyIsAsked None k number left i awake links x y old new = IsSilent x y old new
BodyIsAsked (Some seat) k number left i awake links x y old new = IsAskedOf k (take left (body_in seat.client.heard)) awake links (body_asked number i) x y old new

-- what is left to ask on the connection
abbrev pub AsksBy : Option Asking → ℕ → ℕ → List ℕ → List Link → Sides → Sides → Option Log → Option Log → Type 0
AsksBy None k now awake links x y old new = IsSilent x y old new
AsksBy (Some (Text number left)) k now awake links x y old new = TextIsAsked (find (is_number k) x.peers) k number left now awake links x y old new
AsksBy (Some (Body number left i)) k now awake links x y old new = BodyIsAsked (slice_get x.parts.seats i) k number left i awake links x y old new

abbrev pub Asks : ℕ → ℕ → List ℕ → List Link → Sides → Sides → Option Log → Option Log → Type 0
Asks k now awake links x y old new = AsksBy (asking k x.parts.seats x.parts.flow) k now awake links x y old new
