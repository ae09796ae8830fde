-- What one read of a client brings, and what one write says to it (RFC 2616, sections 5 and 6).
use Rattle.std.specs.Prelude.{◌≡◌, ℕ, ◌≤◌, ◌+◌, ◌-◌, ◌/◌, Bool, true, false, ◌&&◌, ◌||◌, nat_lt, min, IfOk, IfSome, List, [], is_some, length, slice_get, take, Option, Some, None, Ok, Err}
use Rattle.pp_cache.specs.Memory.{Memory}
use Rattle.pp_cache.specs.Uses.{used_run}
use Rattle.pp_client.specs.Replies.{Reply, at_hand, left_next, next_byte}
use Rattle.pp_client.specs.Requests.{heard_in, room_of}
use Rattle.pp_links.specs.Links.{Link, has_link}
use Rattle.pp_objects.specs.Instances.{is_there}
use Rattle.pp_objects.specs.declared.id.ObjectId.{ObjectId}
use Rattle.pp_desk.specs.Closings.{Sides, closed_client, with_parts}
use Rattle.pp_desk.specs.Replies.{EndsReplies}
use Rattle.pp_seats.specs.Said.{used_by}
use Rattle.pp_seats.specs.Seats.{IsRead, told_by}
use Rattle.pp_seats.specs.declared.seat.Next.{Next}
use Rattle.pp_seats.specs.declared.seat.Seat.{Seat}
use Rattle.pp_state.specs.Ends.{Parts, changed_at}
use Rattle.pp_state.specs.Hearing.{lacks_key_at}
use Rattle.pp_state.specs.Places.{IsChangedAt}
use Rattle.pp_world.specs.Log.{AppendsAll, Log}
use Rattle.pp_world.specs.Wire.{IsWithin}
use Rattle.pp_world.specs.declared.event.Got.TheVariants.{Bytes, End, NotYet}
use Rattle.pp_desk.specs.Calls.{Found, Took, read_log, write_log}

-- ---- a read

abbrev pub hung_up : Seat → Seat
hung_up seat = record seat { has_hung_up = true }

-- what came stands at the front of what was read into
abbrev pub heard_by : Found → List ℕ → Seat → Seat
heard_by None front seat = seat
heard_by (Some (Ok (Bytes n))) front seat = record seat { client = record seat.client { heard = heard_in (take n front) seat.client.heard } }
heard_by (Some (Ok End)) front seat = hung_up seat
heard_by (Some (Ok NotYet)) front seat = seat
heard_by (Some (Err fault)) front seat = hung_up seat

abbrev pub brings : Found → Bool
brings None = false
brings (Some (Ok (Bytes n))) = true
brings (Some (Ok End)) = false
brings (Some (Ok NotYet)) = false
brings (Some (Err fault)) = false

-- what it sent is read as a request
abbrev pub LooksAtWhere : Bool → ℕ → List Seat → List Seat → Type 0
LooksAtWhere true i old new = IsChangedAt IsRead i old new
LooksAtWhere false i old new = new ≡ old

abbrev pub IsFoundAt : Found → List ℕ → ℕ → List Seat → List Seat → Type 0
IsFoundAt found front i old new = LooksAtWhere (brings found) i (changed_at i (heard_by found front) old) new

-- where memory was refused for the key of a request that was read, this life goes astray
abbrev pub astray_behind : Bool → Bool → ℕ → List Seat → Bool
astray_behind true astray i seats = astray || lacks_key_at i seats
astray_behind false astray i seats = astray

-- all but the clients stays, and whether it went astray
pub record TakesIn (found : Found) (front : List ℕ) (i : ℕ) (old new : Sides) : Type 0 where
  pub seats : IsFoundAt found front i old.parts.seats new.parts.seats
  pub astray : new.parts.is_astray ≡ astray_behind (brings found) old.parts.is_astray i new.parts.seats
  pub rest : record new { parts = record new.parts { seats = old.parts.seats; is_astray = old.parts.is_astray } } ≡ old

-- of the client at this place, with so much room to read into
pub record IsReadFrom (most i : ℕ) (seat : Seat) (links : List Link) (x y : Sides) (old new : Option Log) : Type 0 where
  pub found : Found
  pub front : List ℕ
  pub told : AppendsAll old new (read_log seat.client.id found front)
  pub called : is_some found ≡ (has_link seat.client.id links && nat_lt 0 (length front))
  pub room : length front ≡ min (room_of seat.client.heard) most
  pub within : IfSome found (λ r. IfOk r (IsWithin (length front)))
  pub is : TakesIn found front i x y

abbrev pub IsReadAt : Option Seat → ℕ → ℕ → List Link → Sides → Sides → Option Log → Option Log → Type 0
IsReadAt None most i links x y old new = (y ≡ x) × (new ≡ old)
IsReadAt (Some seat) most i links x y old new = IsReadFrom most i seat links x y old new

-- and replies that are over end
abbrev pub Hears : ℕ → ℕ → List ℕ → List Link → Sides → Sides → Option Log → Option Log → Type 0
Hears most i awake links x y old new = (next : Sides) × IsReadAt (slice_get x.parts.seats i) most i links x next old new × EndsReplies awake next y

-- ---- a write

-- all that is at hand, up to 65,536 bytes; of an instance that is gone nothing
abbrev pub offered_in : Option (ObjectId × ℕ) → Reply → Memory → List ℕ
offered_in None reply m = take 65536 (at_hand reply m.chunks)
offered_in (Some next) reply m = elim (is_there next.0 m.instances) [ true ↦ take 65536 (at_hand reply m.chunks) | false ↦ [] ]

abbrev pub offered : Reply → Memory → List ℕ
offered reply m = offered_in (next_byte reply) reply m

-- the chunks of what was said are the ones used last
abbrev pub used_chunks : Option Next → Memory → Memory
used_chunks None m = m
used_chunks (Some used) m = elim (is_there used.source m.instances) [
  | true ↦ record m { chunks = used_run ((min used.to 1073741824 + 4095) / 4096 - used.at / 4096) used.source.slot (used.at / 4096) m.chunks }
  | false ↦ m
]

abbrev pub told_in : Option Seat → ℕ → ℕ → Parts → Parts
told_in None i n p = p
told_in (Some seat) i n p = record p { seats = changed_at i (told_by n) p.seats; cache = used_chunks (used_by n seat) p.cache }

abbrev pub told_at : ℕ → ℕ → Parts → Parts
told_at i n p = told_in (slice_get p.seats i) i n p

-- no more was said than was left
abbrev pub IsSaidTo : ℕ → Option Seat → Type 0
IsSaidTo n seat = IfSome seat (λ s. n ≤ left_next s.client.reply)

abbrev pub IsSaidWithin : Took → Option Seat → Type 0
IsSaidWithin took seat = IfSome took (λ r. IfOk r (λ n. IsSaidTo n seat))

-- where it fails, the client is closed
abbrev pub said_as : Took → ℕ → Sides → Sides
said_as None i x = x
said_as (Some (Ok n)) i x = with_parts (told_at i n) x
said_as (Some (Err fault)) i x = closed_client i x

pub record IsWritten (i : ℕ) (seat : Seat) (links : List Link) (x y : Sides) (old new : Option Log) : Type 0 where
  pub took : Took
  pub told : AppendsAll old new (write_log seat.client.id (offered seat.client.reply x.parts.cache) took)
  pub called : is_some took ≡ (has_link seat.client.id links && nat_lt 0 (length (offered seat.client.reply x.parts.cache)))
  pub within : IfSome took (λ r. IfOk r (λ n. n ≤ length (offered seat.client.reply x.parts.cache)))
  pub is : y ≡ said_as took i x

abbrev pub IsWrittenAt : Option Seat → ℕ → List Link → Sides → Sides → Option Log → Option Log → Type 0
IsWrittenAt None i links x y old new = (y ≡ x) × (new ≡ old)
IsWrittenAt (Some seat) i links x y old new = IsWritten i seat links x y old new

-- and replies that are over end
abbrev pub Says : ℕ → List ℕ → List Link → Sides → Sides → Option Log → Option Log → Type 0
Says i awake links x y old new = (next : Sides) × IsWrittenAt (slice_get x.parts.seats i) i links x next old new × EndsReplies awake next y
