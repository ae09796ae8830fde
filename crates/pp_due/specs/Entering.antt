-- A kept row comes into memory where a request names it, before that is decided (ours).
use Rattle.std.specs.Prelude.{ℕ, ◌≡◌, ◌⊎◌, Bool, true, false, ◌&&◌, ◌||◌, not, nat_lt, nat_le, count_by, List, [], ◌∷◌, is_some, slice_get, slice_set, Option, Some, None, option_map}
use Rattle.std.specs.Option.{option_and_then}
use Rattle.pp_client.specs.Requests.{Front, Nothing as NoRequest, Begun as More, Asked as IsAsked, Refused as NoHead, current_of}
use Rattle.pp_head.specs.Request.{Request}
use Rattle.pp_objects.specs.Instances.{is_row}
use Rattle.pp_plan.specs.Decision.{decision}
use Rattle.pp_plan.specs.Row.{Row}
use Rattle.pp_seats.specs.Dues.{begun_in, is_refused_in, may_share}
use Rattle.pp_seats.specs.Heads.{asked_in, owned_in}
use Rattle.pp_seats.specs.Seats.{is_undecided_in}
use Rattle.pp_seats.specs.declared.due.Due.{Due}
use Rattle.pp_seats.specs.declared.front.Asked.{Asked}
use Rattle.pp_seats.specs.declared.key.Key.{Key}
use Rattle.pp_seats.specs.declared.seat.Brought.TheVariants.{Refused}
use Rattle.pp_seats.specs.declared.seat.Seat.{Seat}
use Rattle.pp_store.specs.Kept.{Kept, KeptMap}
use Rattle.pp_world.specs.declared.note.Decision.{Decision}
use Rattle.pp_decide.specs.Decide.{if_fits, kind_of, shown_span}
use Rattle.pp_due.specs.Due.{cut_of, decision_of, due_at}
use Rattle.pp_due.specs.OnDisk.{IsBrought, kept_alone}
use Rattle.pp_state.specs.Astray.{gone_astray}
use Rattle.pp_state.specs.Pins.{with_room}
use Rattle.pp_decide.specs.Sharing.{shared_ask}
use Rattle.pp_state.specs.declared.state.State.{State}

-- ---- what is due by the row of its key, in memory or kept

abbrev pub is_below : ℕ → ℕ × ℕ → Bool
is_below extent span = nat_le span.1 span.0 || nat_le span.1 extent

abbrev pub kept_row : Request → Kept → Row
kept_row head row = record { version = row.entry.version; fields = row.entry.fields; times = row.entry.times; held = is_below row.extent (shown_span head row.entry.version) }

abbrev pub decide_by_kept : State → Seat → Key → Kept → Request → Decision
decide_by_kept s seat key row head =
    let d = decision head (Some (kept_row head row)) (begun_in seat.brought None) s.now in
    if_fits s head key (kind_of head (Some row.entry.version) d) d

-- by this kept row it is to ask what another may have asked already
abbrev pub asks_by_kept : State → Seat → Key → Kept → Front → Bool
asks_by_kept s seat key row NoRequest = false
asks_by_kept s seat key row More = false
asks_by_kept s seat key row (IsAsked head fault) = may_share (decide_by_kept s seat key row head)
asks_by_kept s seat key row (NoHead status) = false

-- the key of a request that is not refused for itself
abbrev pub plain_key : Option Asked → Option Key
plain_key None = None
plain_key (Some a) = elim a.refusal [ Some status ↦ None | None ↦ a.key ]

-- it may wait for what is asked already
abbrev pub may_share_first : State → Seat → Bool
may_share_first s seat = not (is_refused_in seat.brought) && (is_undecided_in seat.stage && not (is_some seat.waits_on)) && s.shares_fetches && is_some (shared_ask seat s.flow)

-- by what is in memory of its key
abbrev pub has_decision : State → Seat → Bool
has_decision s seat = is_some (decision_of s seat)

abbrev pub decides_by_row : State → Seat → Key → Option Kept → Bool
decides_by_row s seat key None = has_decision s seat
decides_by_row s seat key (Some row) = not (asks_by_kept s seat key row (current_of seat.client.heard))

abbrev pub decides_by_key : KeptMap → State → Seat → Option Key → Bool
decides_by_key shelf s seat None = has_decision s seat
decides_by_key shelf s seat (Some key) = decides_by_row s seat key (kept_alone key.text.items shelf s.cache)

-- a decision is due: one that waits for the answer to another's ask has none
abbrev pub is_to_decide : KeptMap → State → Seat → Bool
is_to_decide shelf s seat = elim (may_share_first s seat) [ true ↦ decides_by_key shelf s seat (plain_key (asked_in seat.front)) | false ↦ has_decision s seat ]

-- a cut, or a decision
abbrev pub is_due_to : KeptMap → State → Seat → Bool
is_due_to shelf s seat = elim seat.is_closing [
  | true ↦ false
  | false ↦ elim (is_some (cut_of s seat) || s.is_stopped) [ true ↦ is_some (cut_of s seat) | false ↦ is_to_decide shelf s seat ]
]

-- of the client at this place
abbrev pub is_due_at : KeptMap → ℕ → State → Bool
is_due_at shelf i s = elim (slice_get s.seats.items i) [ None ↦ false | Some seat ↦ is_due_to shelf s seat ]

-- ---- memory is refused for the kept row: the request is refused, and this life goes astray

abbrev pub refused_at : ℕ → List Seat → List Seat
refused_at i seats = elim (slice_get seats i) [ None ↦ seats | Some seat ↦ slice_set seats i (record seat { brought = Refused }) ]

-- all but the clients stays
pub record IsRefused (i : ℕ) (old new : State) : Type 0 where
  pub seats : new.seats.items ≡ refused_at i old.seats.items
  pub rest : record new { seats = old.seats } ≡ gone_astray old

-- ---- it comes into memory

-- all but what is in memory stays
pub record Comes (shelf : KeptMap) (key : List ℕ) (old new : State) : Type 0 where
  pub cache : IsBrought key (kept_alone key shelf old.cache) old.cache new.cache
  pub rest : record new { cache = old.cache } ≡ old

abbrev pub ComesOrIsRefused : KeptMap → ℕ → List ℕ → State → State → Type 0
ComesOrIsRefused shelf i key old new = Comes shelf key old new ⊎ IsRefused i old new

-- where something is due to it: that is a decision, and not one for want of memory
abbrev pub is_to_enter : State → Seat → Bool
is_to_enter s seat = not (is_some (cut_of s seat)) && not (is_refused_in seat.brought)

abbrev pub enters_at : ℕ → State → Bool
enters_at i s = elim (slice_get s.seats.items i) [ None ↦ false | Some seat ↦ is_to_enter s seat ]

-- the key whose row comes in with it
abbrev pub key_due : State → Seat → Option (List ℕ)
key_due s seat = elim (is_to_enter s seat) [ true ↦ option_map (λ key. key.text.items) (owned_in (asked_in seat.front)) | false ↦ None ]

abbrev pub key_at : ℕ → State → Option (List ℕ)
key_at i s = option_and_then (key_due s) (slice_get s.seats.items i)

abbrev pub HasRowOf : KeptMap → ℕ → Option (List ℕ) → State → State → Type 0
HasRowOf shelf i None old new = new ≡ old
HasRowOf shelf i (Some key) old new = ComesOrIsRefused shelf i key old new

-- the row that the request of the client at this place names, to whom something is due
abbrev pub HasRow : KeptMap → ℕ → State → State → Type 0
HasRow shelf i old new = HasRowOf shelf i (key_at i old) old new

-- ---- for a response that came: with room for it

-- it comes in, or memory is refused for it, and this life goes astray
abbrev pub MayCome : KeptMap → List ℕ → State → State → Type 0
MayCome shelf key old new = Comes shelf key old new ⊎ (new ≡ gone_astray old)

-- there may be one row too many
abbrev pub with_room_if_over : State → State
with_room_if_over s = elim (nat_lt 1024 (count_by is_row s.cache.instances)) [ true ↦ with_room s | false ↦ s ]

pub record ComesWithRoom (shelf : KeptMap) (key : List ℕ) (old new : State) : Type 0 where
  pub entered : State
  pub comes : MayCome shelf key old entered
  pub room : new ≡ with_room_if_over entered

abbrev pub HasRowFor : KeptMap → Option (List ℕ) → State → State → Type 0
HasRowFor shelf None old new = new ≡ old
HasRowFor shelf (Some key) old new = ComesWithRoom shelf key old new

-- ---- what is due first, among the clients at these places

-- nothing; or what is due, with its row in memory where that is a decision
abbrev pub IsDueWithRow : KeptMap → ℕ → State → State → Option Due → Type 0
IsDueWithRow shelf i old new due = elim (is_due_at shelf i old) [ true ↦ HasRow shelf i old new × (due ≡ due_at i new) | false ↦ (new ≡ old) × (due ≡ None) ]

unfoldable pub FirstDue : KeptMap → List ℕ → State → State → Option (ℕ × Due) → Type 0
FirstDue shelf [] old new found = (new ≡ old) × (found ≡ None)
FirstDue shelf (i ∷ places) old new found =
    (now : State) × (due : Option Due) × IsDueWithRow shelf i old now due × (elim due [ Some d ↦ (new ≡ now) × (found ≡ Some (i, d)) | None ↦ FirstDue shelf places now new found ])
