-- A response of another version, or the first of its key, makes a new row (RFC 2616, section 13.5.4; RFC 7233, section 4.1).
use Rattle.std.specs.Prelude.{◌≡◌, ◌<◌, ◌≤◌, ℕ, length, List, [], ◌∷◌, Option, Some, None, ⊤}
use Rattle.std.specs.List.{filter_map}
use Rattle.pp_cache_law.specs.Rooms.{with_room}
use Rattle.pp_cache_law.specs.Settles.{numbered}
use Rattle.pp_flow.specs.declared.entry.Entry.{Entry}
use Rattle.pp_head.specs.Response.{Response}
use Rattle.pp_law.specs.OwnHeads.{key_of, settle_on, times_for}
use Rattle.pp_law.specs.State.{State, Exchange}
use Rattle.pp_law.specs.Table.{make_row, rows}
use Rattle.pp_objects.specs.Instances.{in_slot}
use Rattle.pp_objects.specs.Kept.{kept_of}
use Rattle.pp_objects.specs.declared.id.ObjectId.{ObjectId}
use Rattle.pp_seats.specs.declared.seat.Brought.{Brought}
use Rattle.pp_seats.specs.declared.seat.Brought.TheVariants.{Joins}
use Rattle.pp_seats.specs.declared.seat.Seat.{Seat}
use Rattle.pp_seats.specs.declared.seat.Stage.{Stage}
use Rattle.pp_seats.specs.declared.seat.Stage.TheVariants.{Answering}
use Rattle.pp_state.specs.Ends.{Parts}
use Rattle.pp_answers.specs.FinalHeads.{noted_body}
use Rattle.pp_state.specs.Pins.{busy_row, busy_rows, exchanges_of}
use Rattle.pp_answers.specs.Rows.{in_memory, made_row}
use Rattle.pp_states_law.specs.Charges.{IsFor}
use Rattle.pp_states_law.specs.Steps.{OfSteps, ShowsSteps}
use Rattle.pp_valid.specs.declared.version.Version.{Version}
use Rattle.pp_answers_law.specs.Answers.{IsAnswered, Stands}

-- ---- each life that clients name was given

abbrev pub IsGiven : ℕ → Option ObjectId → Type 0
IsGiven lives None = ⊤
IsGiven lives (Some id) = id.life < lives

abbrev pub IsGivenSource : ℕ → Stage → Type 0
IsGivenSource lives (Answering a) = IsGiven lives a.source
IsGivenSource lives stage = ⊤

abbrev pub IsGivenBrought : ℕ → Brought → Type 0
IsGivenBrought lives (Joins id plain) = id.life < lives
IsGivenBrought lives brought = ⊤

pub record IsGivenSeat (lives : ℕ) (seat : Seat) : Type 0 where
  pub source : IsGivenSource lives seat.stage
  pub brought : IsGivenBrought lives seat.brought

abbrev pub AreGivenSeats : ℕ → List Seat → Type 0
AreGivenSeats lives [] = ⊤
AreGivenSeats lives (seat ∷ seats) = IsGivenSeat lives seat × AreGivenSeats lives seats

-- ---- a row may be made

-- there are no more rows, nor exchanges that are bound to one, than may be, and no client names a life to come
pub record MayMake (p : Parts) (s : State) : Type 0 where
  pub few : rows s ≤ 1024
  pub busy : length (filter_map busy_row (exchanges_of p.flow)) ≤ 64
  pub given : AreGivenSeats p.cache.lives p.seats

-- the first row of its key needs room, for which another leaves memory
abbrev pub roomed : List ℕ → Parts → Parts
roomed key p = in_memory (with_room key (busy_rows p.flow)) p

-- where memory is not refused for it, in a vacant slot: its life has the next number of the law
abbrev pub MakesAreTheLaws : Type 0
MakesAreTheLaws = OfSteps (λ number name l peers p s. (n : ℕ) (x : Entry) (e : Exchange) (head : Response) (v : Version) (id : ObjectId) → IsAnswered n p s x e → IsFor s e Stands → MayMake p s
    → in_slot id.slot (roomed (key_of e) p).cache.instances ≡ None → id.life ≡ p.cache.lives
    → ShowsSteps (numbered p.cache.lives s.next_instance number) name l peers (noted_body n (made_row x.exchange x.errand head v s.clock (key_of e) id (roomed (key_of e) p)))
    (settle_on e head v (make_row (key_of e) v (kept_of head.fields (times_for e head s)) (times_for e head s) s)))
