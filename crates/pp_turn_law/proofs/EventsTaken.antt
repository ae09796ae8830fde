-- Each event is handled, or the chunk of a client that was to be written to could not be read back.
use Rattle.std.proofs.Common.{◌≡◌, ◌≤◌, ◌+◌, inl, refl, sym, ap, ◌∙◌, ℕ, zero, suc, Bool, true, false, ◌==◌, cond, List, [], ◌∷◌, ◌++◌, Option, Some, None}
use Rattle.std.specs.Prelude.{option_map, slice_get}
use Rattle.pp_comes_law.specs.Origins.{OriginReadsCome}
use Rattle.pp_desk.specs.Anything.{anything}
use Rattle.pp_desk.specs.declared.desk.Desk.{Desk}
use Rattle.pp_due.specs.OnDisk.{next_on_disk}
use Rattle.pp_joints_law.specs.Behind.{MayNote}
use Rattle.pp_law.specs.State.{State}
use Rattle.pp_laws_sides.specs.Counts.{IsShortLog}
use Rattle.pp_obeys.specs.Obeys.{Life}
use Rattle.pp_proxy.specs.Awaiting.{Standing}
use Rattle.pp_proxy.specs.Moving.{Turning}
use Rattle.pp_seats.specs.declared.seat.Next.{Next}
use Rattle.pp_seats.specs.declared.seat.Seat.{Seat}
use Rattle.pp_state.specs.Ends.{numbers_of, place_of}
use Rattle.pp_store.specs.Held.{Holds}
use Rattle.pp_world.specs.Log.{Log, Told}
use Rattle.pp_world.specs.declared.event.Event.{Event}
use Rattle.pp_world.specs.declared.event.Event.TheVariants.{Accepted, Broken, Readable, Reached, Stop, Tick, Writable}
use Rattle.pp_world.specs.declared.event.Wants.{Wants}
use Rattle.pp_world.specs.declared.happening.Happening.TheVariants.{Waits}
use Rattle.pp_turn_law.proofs.CallsHandled.{client_reads_handled, client_writes_handled, origin_writes_handled}
use Rattle.pp_turn_law.proofs.LoadsHandled.{loads_handled}
use Rattle.pp_turn_law.proofs.NextWait.{room_behind}
use Rattle.pp_turn_law.proofs.ReadSo.{SaysOfBytes, origin_reads_handled}
use Rattle.pp_turn_law.proofs.SilentOnes.{broken_handled, clients_handled, reached_handled, stops_handled, ticks_handled}
use Rattle.pp_turn_law.specs.Awaited.{awaiting}
use Rattle.pp_turn_law.specs.Called.{Calls}
use Rattle.pp_turn_law.specs.Going.{IsTaken, StandsOn}
use Rattle.pp_turn_law.specs.Turned.{EventsAreTaken}
use Rattle.pp_turn_law.specs.Handled.{IsHandledOn}

-- who has a place is there
seat_at : (n i : ℕ) (seats : List Seat) → place_of n (numbers_of seats) ≡ Some i → (seat : Seat) × (slice_get seats i ≡ Some seat)
seat_at n i [] there = absurd (cc there)
seat_at n i (first ∷ seats) there = by (first.client.id == n) there (λ j at. seat_at n j seats at)
  where
    later : (o : Option ℕ) → option_map (λ (j : ℕ). suc j) o ≡ Some i → ((j : ℕ) → o ≡ Some j → (seat : Seat) × (slice_get seats j ≡ Some seat)) → (seat : Seat) × (slice_get (first ∷ seats) i ≡ Some seat)
    later None at rest = absurd (cc at)
    later (Some j) at rest = let found : (seat : Seat) × (slice_get seats j ≡ Some seat) = rest j refl in let same : suc j ≡ i = cc at in (found.0, ap (λ (m : ℕ). slice_get (first ∷ seats) m) (sym same) ∙ found.1)

    by : (b : Bool) → cond b (Some 0) (option_map (λ (j : ℕ). suc j) (place_of n (numbers_of seats))) ≡ Some i → ((j : ℕ) → place_of n (numbers_of seats) ≡ Some j → (seat : Seat) × (slice_get seats j ≡ Some seat)) → (seat : Seat) × (slice_get (first ∷ seats) i ≡ Some seat)
    by true at rest = let same : zero ≡ i = cc at in (first, ap (λ (m : ℕ). slice_get (first ∷ seats) m) (sym same))
    by false at rest = later (place_of n (numbers_of seats)) at rest

module _ (leads : OriginReadsCome) (says : SaysOfBytes) (life : Life) (budget : ℕ) (log : Log) (x : Standing) (s : State) (st : StandsOn life budget log x s) (w : Wants) (f : Desk) (all : Log) (faults : ℕ) (h : Turning) (short : IsShortLog (log ++ Waits w ∷ [])) (holds : Told x.turning.log (Holds anything x.turning.shelf)) (few : h.faults ≤ budget + life.base) where
  may : (event : Event) → Calls life budget log w event x f all faults h s → MayNote (awaiting x f all faults).moving
  may event calls = room_behind life budget log all faults x w calls.turns.clients calls.turns.awaiting f s st.wait st.few calls.turns.awaits calls.turns.rests

  read_one : (id : ℕ) (o : Option ℕ) → place_of id (numbers_of f.state.seats.items) ≡ o → Calls life budget log w (Readable id) x f all faults h s → IsHandledOn life budget log w (Readable id) h
  read_one id None off calls = origin_reads_handled leads says id life budget log w x f all faults h s off short calls (may (Readable id) calls) st.size st.few
  read_one id (Some i) here calls = client_reads_handled id i life budget log w x f all faults h s here calls

  -- the chunk of its next byte is in memory, or is read back, or lost
  seated_one : (id i : ℕ) (seat : Seat) (o : Option Next) → place_of id (numbers_of f.state.seats.items) ≡ Some i → slice_get f.state.seats.items i ≡ Some seat → next_on_disk f.state seat ≡ o → Calls life budget log w (Writable id) x f all faults h s
      → IsTaken life budget log w (Writable id) h
  seated_one id i seat None place here held calls = inl (client_writes_handled id i seat life budget log w x f all faults h s place here held short calls)
  seated_one id i seat (Some next) place here alone calls = loads_handled id i seat next life budget log w x f all faults h s place here alone short calls (record { holds = holds; bounded = st.bounded; size = st.size; few = few })

  written_one : (id : ℕ) (o : Option ℕ) → place_of id (numbers_of f.state.seats.items) ≡ o → Calls life budget log w (Writable id) x f all faults h s → IsTaken life budget log w (Writable id) h
  written_one id None off calls = inl (origin_writes_handled id life budget log w x f all faults h s off calls (may (Writable id) calls))
  written_one id (Some i) here calls =
      let seat : (seat : Seat) × (slice_get f.state.seats.items i ≡ Some seat) = seat_at id i f.state.seats.items here in
      seated_one id i seat.0 (next_on_disk f.state seat.0) here seat.1 refl calls

  pub one_handled : (event : Event) → Calls life budget log w event x f all faults h s → IsTaken life budget log w event h
  one_handled Stop calls = stops_handled life budget log w x f all faults h s calls.turns calls.handles
  one_handled (Tick seconds) calls = ticks_handled seconds life budget log w x f all faults h s calls.turns calls.handles (may (Tick seconds) calls)
  one_handled (Accepted c) calls = clients_handled c life budget log w x f all faults h s calls.turns calls.handles
  one_handled (Readable id) calls = read_one id (place_of id (numbers_of f.state.seats.items)) refl calls
  one_handled (Writable id) calls = written_one id (place_of id (numbers_of f.state.seats.items)) refl calls
  one_handled (Reached k) calls = reached_handled k life budget log w x f all faults h s calls.turns calls.handles
  one_handled (Broken k) calls = broken_handled k life budget log w x f all faults h s calls.turns calls.handles (may (Broken k) calls)

pub events_taken : OriginReadsCome → SaysOfBytes → EventsAreTaken
events_taken leads says life budget log after x y s st turns straight told few brief event is all faults h calls short counted = one_handled leads says life budget log x s st turns.wants turns.rested all faults h short turns.holds counted event calls
