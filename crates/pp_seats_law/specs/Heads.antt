-- What is kept of a head is what the law reads in it (RFC 2616, sections 4.4, 5, 8.2.3 and 9.1).
use Rattle.std.specs.Prelude.{◌≡◌, ℕ, ◌++◌, Some}
use Rattle.pp_client.specs.Requests.{Heard, current_of}
use Rattle.pp_target.specs.Key.{key_in}
use Rattle.pp_law.specs.Requests.{Front, asks_head, front_of, has_request, keeps_after, key_in as key_of}
use Rattle.pp_seats.specs.declared.front.Front.{Front as SeatFront}
use Rattle.pp_seats.specs.declared.key.Key.{Key as OwnedKey}
use Rattle.pp_seats.specs.Heads.{IsFrontOf, asked_in, head_asked_in, is_there_in, keeps_in, owned_in}
use Rattle.pp_seats_law.specs.Fronts.{ShowsFront}

-- ---- a head that was heard whole

-- what stands at the front of what the client sent
abbrev pub FrontsAreTheLaws : Type 0
FrontsAreTheLaws = (front : SeatFront) (h : Heard) → IsFrontOf front (current_of h) → ShowsFront front (front_of (h.head ++ h.rest))

-- ---- what is read of it

pub record IsReadAs (front : SeatFront) (f : Front) : Type 0 where
  pub there : is_there_in front ≡ has_request f
  pub head_asked : head_asked_in (asked_in front) ≡ asks_head f
  pub keeps : (status : ℕ) → keeps_in status (asked_in front) ≡ keeps_after status f
  pub key : (key : OwnedKey) → owned_in (asked_in front) ≡ Some key → key_of f ≡ Some (key_in key.text.items key.place)

abbrev pub FrontsAreReadAsTheLaws : Type 0
FrontsAreReadAsTheLaws = (front : SeatFront) (f : Front) → ShowsFront front f → IsReadAs front f
