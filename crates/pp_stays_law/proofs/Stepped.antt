-- What holds of each client, of each exchange and of what is in memory holds behind each step of a turn, as the program tells it.
use Rattle.std.proofs.Common.{refl, sym, subst, ℕ, zero, suc, Bool, true, false, cond, filter, List, [], ◌∷◌, Option, Some, None}
use Rattle.pp_cache.specs.Memory.{Memory}
use Rattle.pp_cache_law.proofs.Numbers.{some_is}
use Rattle.pp_deciding_law.proofs.Found.{IsButForMemory, first_keeps, first_notes_none}
use Rattle.pp_desk.specs.Closings.{Sides, sides}
use Rattle.pp_desk.specs.Shutting.{is_any_over, seats_left, stays}
use Rattle.pp_desk.specs.declared.desk.Desk.{Desk}
use Rattle.pp_flow.specs.declared.entry.Entry.{Entry}
use Rattle.pp_places.specs.Around.{around, moment_of}
use Rattle.pp_proxy.specs.Closing.{ClosesOver}
use Rattle.pp_proxy.specs.Deciding.{TakesOne}
use Rattle.pp_proxy.specs.Moving.{Moving}
use Rattle.pp_proxy.specs.Rounds.{Places}
use Rattle.pp_proxy.specs.Taking.{TakesDueOf, who_at}
use Rattle.pp_seats.specs.declared.due.Due.{Due}
use Rattle.pp_seats.specs.declared.due.Due.TheVariants.{Decide, CutOff}
use Rattle.pp_seats.specs.declared.seat.Seat.{Seat}
use Rattle.pp_state.specs.Ends.{Parts, parts}
use Rattle.pp_state.specs.declared.state.State.{State as Turn}
use Rattle.pp_steps.specs.Evicting.{given_way}
use Rattle.pp_store.specs.Kept.{KeptMap}
use Rattle.pp_take.specs.Deciding.{afforded}
use Rattle.pp_turns_law.specs.Firsts.{FirstDueInMemory}
use Rattle.pp_world.specs.Log.{Log}
use Rattle.pp_world.specs.declared.note.Decision.{Decision}
use Rattle.pp_stays_law.proofs.Decided.{anew_all, cut_fine, takes_fine, way_fine}
use Rattle.pp_stays_law.proofs.Rested.{SuitsPlaces, places_fine}
use Rattle.pp_stays_law.proofs.Walk.{AllAt, Holds, Suits}

-- ---- clients leave

cons_all : (S : Seat → Type 0) (x : Seat) (seats : List Seat) → S x → AllAt S seats → AllAt S (x ∷ seats)
cons_all S x seats one all zero seat at = subst S (some_is x seat at) one
cons_all S x seats one all (suc i) seat at = all i seat at

filter_all : (S : Seat → Type 0) (q : Seat → Bool) (seats : List Seat) → AllAt S seats → AllAt S (filter q seats)
filter_all S q [] all = all
filter_all S q (x ∷ seats) all = by (q x) (filter_all S q seats (λ i seat at. all (suc i) seat at))
  where
    by : (b : Bool) → AllAt S (filter q seats) → AllAt S (cond b (x ∷ filter q seats) (filter q seats))
    by true rest = cons_all S x (filter q seats) (all zero x refl) rest
    by false rest = rest

left_all : (S : Seat → Type 0) (p : Turn) → AllAt S p.seats.items → AllAt S (seats_left p)
left_all S p all = by (is_any_over p)
  where
    by : (b : Bool) → AllAt S (cond b (filter (stays p.is_stopped) p.seats.items) p.seats.items)
    by true = filter_all S (stays p.is_stopped) p.seats.items all
    by false = all

module _ (S : Seat → Type 0) (W Q : Entry → Type 0) (C : Memory → Type 0) (suits : Suits S W Q C) where
  abbrev Good : Parts → Type 0
  Good p = Holds S W Q C p

  -- ---- what is due is looked for

  pub found_fine : (shelf : KeptMap) (places : List ℕ) (p q : Turn) (found : Option (ℕ × Due)) → FirstDueInMemory shelf places p q found → Good (parts p) → Good (parts q)
  found_fine shelf places p q found first h =
      let same : IsButForMemory p q = first_keeps shelf places p q found first in
      let was : Good (parts (record q { cache = p.cache })) = subst (λ (r : Turn). Good (parts r)) (sym same) h in
      record { seats = was.seats; waiting = was.waiting; placed = was.placed; memory = suits.memory p.cache q.cache (first_notes_none shelf places p q found first) h.memory }

  -- ---- it is taken

  due_fine : (o : Option (ℕ × ℕ)) (i : ℕ) (due : Due) (old new : Desk) → TakesDueOf o i due old new → Good (parts old.state) → Good (parts new.state)
  due_fine None i due old new takes h = subst (λ (x : Sides). Good x.parts) (sym takes) h
  due_fine (Some who) i (CutOff cause) old new takes h = subst (λ (x : Sides). Good x.parts) (sym takes) (cut_fine S W Q C suits old.state.name.items i (sides old) h)
  due_fine (Some who) i (Decide d) old new takes h =
      let e : Decision = afforded i d old.state in
      let between : Good takes.0.between = takes_fine S W Q C suits old.state.name.items i e (parts (given_way e i old.state)) takes.0.between (way_fine S W Q C suits old.state.name.items i e old.state h) takes.0.takes in
      subst (λ (p : Parts). Good p) (sym takes.0.is)
      (record {
        seats = anew_all S W Q C suits old.state.name.items i takes.0.between.cache old.state.awake.items takes.0.between.seats between.seats;
        waiting = between.waiting;
        placed = between.placed;
        memory = between.memory;
      })

  pub one_fine : (i : ℕ) (due : Due) (x y : Moving) (log : Log) → TakesOne i due x log y → Good (parts x.desk.state) → Good (parts y.desk.state)
  one_fine i due x y log takes h = due_fine (who_at i x.desk.state) i due x.desk y.desk takes.is h

  -- ---- connections are closed

  pub closed_fine : (x y : Moving) (log : Log) → ClosesOver x log y → Good (parts x.desk.state) → Good (parts y.desk.state)
  closed_fine x y log over h =
      let was : Good (parts (record y.desk.state { seats = x.desk.state.seats; awake = x.desk.state.awake })) = subst (λ (d : Desk). Good (parts d.state)) (sym over.rest) h in
      record {
        seats = subst (λ (seats : List Seat). AllAt S seats) (sym over.seats) (left_all S x.desk.state h.seats);
        waiting = was.waiting;
        placed = was.placed;
        memory = was.memory;
      }

  -- ---- exchanges get their places

  pub all_placed_fine : SuitsPlaces W Q C → (x y : Moving) (log : Log) → Places x log y → Good (parts x.desk.state) → Good (parts y.desk.state)
  all_placed_fine placing x y log places h = places_fine S W Q C suits placing 65536 (moment_of x.desk.state) None (around x.desk x.links x.top) (around y.desk y.links y.top) log places.is h
