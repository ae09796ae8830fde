-- At a tick a second begins, and then those that are idle are given up.
use Rattle.std.proofs.Common.{◌≡◌, ◌≤◌, ℕ, Bool, true, false, List, length, map, vec_capacity, refl, sym, ◌∙◌, ap, subst, arith}
use Rattle.std.proofs.lemmas.List.{length-map}
use Rattle.pp_peers.specs.declared.peers.Peer.{Peer}
use Rattle.pp_desk.specs.Closings.{KeepsDesk, Sides, sides}
use Rattle.pp_desk.specs.Marks.{marked_peers, marked_seat, marked_seats}
use Rattle.pp_proxy.specs.Ticks.{ticked}
use Rattle.pp_desk.specs.Origins.{without_idle}
use Rattle.pp_desk.specs.declared.desk.Desk.{Desk}
use Rattle.pp_seats.specs.declared.seat.Seat.{Seat}
use Rattle.pp_state.specs.Ends.{AreInOrder, AreSeated, Parts, numbers_of, parts}
use Rattle.pp_decide.specs.Patience.{is_leap}
use Rattle.pp_due.specs.Waits.{is_waiting, woken_by, woken_seat}
use Rattle.pp_state.specs.Numbers.{places}
use Rattle.pp_state.specs.declared.state.State.{State}
use Rattle.pp_state.proofs.SeatsLemmas.{mapped_numbers}

-- ---- clients keep their numbers, and are as many

marked_numbers : (b : Bool) (now : ℕ) (seats : List Seat) → numbers_of (marked_seats b now seats) ≡ numbers_of seats
marked_numbers true now seats = mapped_numbers (marked_seat now) seats (λ seat. refl)
marked_numbers false now seats = refl

marked_count : (b : Bool) (now : ℕ) (seats : List Seat) → length (marked_seats b now seats) ≡ length seats
marked_count true now seats = length-map seats (marked_seat now)
marked_count false now seats = refl

woken_number : (now : ℕ) (s : State) (seat : Seat) → (woken_seat now s seat).client.id ≡ seat.client.id
woken_number now s seat = by (is_waiting s seat)
  where
    by : (b : Bool) → (woken_by b now seat).client.id ≡ seat.client.id
    by true = refl
    by false = refl

-- ---- where these clients are marked, and those woken

abbrev begun_seats : Bool → ℕ → State → List Seat
begun_seats b now s = map (woken_seat now s) (marked_seats b now s.seats.items)

abbrev with_seats : List Seat → State → Parts
with_seats seats s = record { seats = seats; flow = s.flow; cache = s.cache; refused = s.refused; is_astray = s.is_astray }

abbrev begun : Bool → ℕ → Desk → Sides
begun b now d = record { parts = with_seats (begun_seats b now d.state) d.state; peers = marked_peers b now d.peers }

-- what is told of the clock
abbrev pub with_clock : ℕ → State → State
with_clock now s = record s { now = now; has_ticked = true; is_ticked = true; has_lost_draft = false }

module _ (b : Bool) (now : ℕ) (old mid : Desk) (s : State) (marked : mid.state.seats.items ≡ marked_seats b now old.state.seats.items) (kept : record mid { state = record mid.state { seats = old.state.seats }; peers = old.peers } ≡ old)
    (woken : s.seats.items ≡ map (woken_seat now mid.state) mid.state.seats.items) (rest : record s { seats = mid.state.seats; awake = mid.state.awake } ≡ with_clock now mid.state) where
  seats_are : s.seats.items ≡ begun_seats b now old.state
  seats_are = woken ∙ ap (λ (xs : List Seat). map (woken_seat now mid.state) xs) marked ∙ ap (λ (d : Desk). map (woken_seat now d.state) (marked_seats b now old.state.seats.items)) kept

  parts_are : parts s ≡ with_seats (begun_seats b now old.state) old.state
  parts_are =
      ap (λ (xs : List Seat). with_seats xs s) seats_are
      ∙ ap (λ (t : State). with_seats (begun_seats b now old.state) t) rest
      ∙ ap (λ (d : Desk). with_seats (begun_seats b now old.state) d.state) kept

  numbers_are : numbers_of s.seats.items ≡ numbers_of old.state.seats.items
  numbers_are =
      ap numbers_of seats_are
      ∙ mapped_numbers (woken_seat now old.state) (marked_seats b now old.state.seats.items) (woken_number now old.state)
      ∙ marked_numbers b now old.state.seats.items

  -- those that are idle are given up then
  pub all_ticked : (new : Sides) → mid.peers ≡ marked_peers b now old.peers → b ≡ is_leap now old.state.has_ticked old.state.now → (AreSeated s → new ≡ without_idle s.now (record { parts = parts s; peers = mid.peers })) → AreSeated old.state
      → new ≡ ticked now old.state (sides old)
  all_ticked new peers leaps ends seated =
      ends (subst (λ (ns : List ℕ). AreInOrder ns) (sym numbers_are) seated)
      ∙ ap (λ n. without_idle n (record { parts = parts s; peers = mid.peers })) (ap (λ (t : State). t.now) rest)
      ∙ ap (λ (p : Parts). without_idle now (record { parts = p; peers = mid.peers })) parts_are
      ∙ ap (λ (ps : List Peer). without_idle now (record { parts = with_seats (begun_seats b now old.state) old.state; peers = ps })) peers
      ∙ ap (λ (l : Bool). without_idle now (begun l now old)) leaps

  -- all are looked at
  pub all_awake : (new : Desk) → (length mid.state.seats.items ≤ vec_capacity mid.state.awake → s.awake.items ≡ places (length mid.state.seats.items)) → KeepsDesk (record mid { state = s }) new → length old.state.seats.items ≤ vec_capacity old.state.awake
      → new.state.awake.items ≡ places (length old.state.seats.items)
  all_awake new woke keeps few =
      let count : length mid.state.seats.items ≡ length old.state.seats.items = ap length marked ∙ marked_count b now old.state.seats.items in
      let room : vec_capacity mid.state.awake ≡ vec_capacity old.state.awake = ap (λ (d : Desk). vec_capacity d.state.awake) kept in
      ap (λ (d : Desk). d.state.awake.items) keeps ∙ woke (omega (arith, few, count, room)) ∙ ap places count

  -- all else stays, but for the clock
  pub all_else : (new : Desk) → KeepsDesk (record mid { state = s }) new
      → record new { state = record new.state { seats = old.state.seats; flow = old.state.flow; cache = old.state.cache; refused = old.state.refused; is_astray = old.state.is_astray; awake = old.state.awake }; peers = old.peers } ≡ record old { state = with_clock now old.state }
  all_else new keeps =
      ap (λ (d : Desk). record d { state = back d.state; peers = old.peers }) keeps
      ∙ ap (λ (t : State). record mid { state = back t; peers = old.peers }) rest
      ∙ ap (λ (d : Desk). record d { state = with_clock now d.state }) kept_back
    where
      back : State → State
      back t = record t { seats = old.state.seats; flow = old.state.flow; cache = old.state.cache; refused = old.state.refused; is_astray = old.state.is_astray; awake = old.state.awake }

      kept_back : record mid { state = back mid.state; peers = old.peers } ≡ old
      kept_back = ap (λ (d : Desk). record d { state = back d.state }) kept
