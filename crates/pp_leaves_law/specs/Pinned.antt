-- What may not leave memory is what may not by the law: rows that exchanges are bound to, and chunks in which a next byte lies (ours).
use Rattle.std.specs.Prelude.{◌≡◌, ◌≤◌, ◌<◌, ◌+◌, ◌/◌, ◌^◌, ℕ, List, [], ◌∷◌, length, Some, IfSome, ⊤}
use Rattle.std.specs.List.{filter_map}
use Rattle.pp_turns_law.specs.Unseen.{AreFollowing}
use Rattle.pp_cache_law.specs.Reads.{AreBusy, ArePinned}
use Rattle.pp_flow.specs.Changes.{entry_of}
use Rattle.pp_flow.specs.declared.entry.Entry.{Entry}
use Rattle.pp_law.specs.State.{State}
use Rattle.pp_law.specs.Table.{pins as pins_by}
use Rattle.pp_seats.specs.Follows.{next_of}
use Rattle.pp_seats.specs.declared.seat.Seat.{Seat}
use Rattle.pp_state.specs.Ends.{parts}
use Rattle.pp_state.specs.Pins.{busy_row, busy_rows, exchanges_of, pin_of_entry, pin_of_seat, pins}
use Rattle.pp_state.specs.declared.state.State.{State as Steps}
use Rattle.pp_states_law.specs.Steps.{OfSteps}

-- the next byte of each client is in a chunk that the pool can number
abbrev pub AreNear : List Seat → Type 0
AreNear [] = ⊤
AreNear (seat ∷ seats) = IfSome (next_of seat) (λ x. x.at / 4096 < 2 ^ 32) × AreNear seats

-- what each of the clients that go on follows is there. No more chunks are pinned than there is room for; and each has a number that
-- the pool can give, which is so of each version that is held: it has no more than 1 GiB
pub record ArePinnable (st : Steps) (s : State) : Type 0 where
  pub following : AreFollowing st.cache s st.seats.items s.clients
  pub clients : AreNear st.seats.items
  pub exchanges : (n : ℕ) (x : Entry) → entry_of n st.flow ≡ Some x → IfSome x.exchange.bound (λ b. b.1 / 4096 < 2 ^ 32)
  pub few : length (filter_map pin_of_seat st.seats.items) + length (filter_map (pin_of_entry st.cache.instances) (exchanges_of st.flow)) ≤ 320

abbrev pub PinnedIsTheLaws : Type 0
PinnedIsTheLaws = OfSteps (λ number name l peers p s. (st : Steps) → parts st ≡ p → ArePinnable st s → ArePinned number st.cache (pins st) (pins_by s))

-- no more rows are bound to than there are exchanges with a place: 64
abbrev pub BusyIsTheLaws : Type 0
BusyIsTheLaws = OfSteps (λ number name l peers p s. length (filter_map busy_row (exchanges_of p.flow)) ≤ 64 → AreBusy number p.cache s (busy_rows p.flow))
