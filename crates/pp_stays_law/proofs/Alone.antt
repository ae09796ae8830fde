-- What the program tells alone: memory is refused for nobody, what is to be said first has room, and so have the names that are noted.
use Rattle.std.proofs.Common.{ℕ, List, Some, None}
use Rattle.pp_cache.specs.Memory.{Memory}
use Rattle.pp_flow.specs.Entries.{with_place}
use Rattle.pp_flow.specs.declared.entry.Entry.{Entry}
use Rattle.pp_law.specs.State.{State, Term}
use Rattle.pp_seats.specs.declared.due.Due.TheVariants.{Decide, CutOff}
use Rattle.pp_seats.specs.declared.seat.Seat.{Seat}
use Rattle.pp_state.specs.Ends.{parts}
use Rattle.pp_state.specs.declared.state.State.{State as Turn}
use Rattle.pp_store.specs.Kept.{KeptMap}
use Rattle.pp_stays_law.proofs.Fits.{AnyEntry, AnyMemory, HasNameAmong, IsGiven, IsShort, all_named, any_entries, any_places, are_named, given_suits, named_places, named_suits, short_suits}
use Rattle.pp_stays_law.proofs.Rested.{SuitsPlaces}
use Rattle.pp_stays_law.proofs.Stepped.{all_placed_fine, closed_fine, found_fine, one_fine}
use Rattle.pp_stays_law.proofs.Unseen.{silent_fine}
use Rattle.pp_stays_law.proofs.Walk.{Holds, Suits}
use Rattle.pp_stays_law.specs.Names.{AsksAmong, HasRoomFor, HasRoomToNote}
use Rattle.pp_stays_law.specs.Steps.{StaysInATurn, StaysInDecisions, StaysInRounds}
use Rattle.pp_stays_law.specs.Turns.{NoSeatIsRefused, TextsHaveRoom}

module _ (terms : List Term) (shelf : KeptMap) where
  -- ---- said in other words

  pub as_well : (I J : Turn → State → Type 0) → ((p : Turn) (s : State) → I p s → J p s) → ((p : Turn) (s : State) → J p s → I p s) → StaysInATurn terms shelf I → StaysInATurn terms shelf J
  as_well I J to back stays = record {
    decisions = record {
      taken = λ before i due p x y log s seat c at h next takes well then. to _ _ (stays.decisions.taken before i due p x y log s seat c at (back p s h) next takes well then);
      cut = λ before i cause p x y log s seat c at h next takes well then. to _ _ (stays.decisions.cut before i cause p x y log s seat c at (back p s h) next takes well then);
      none = λ before peers p q s at h none well then. to _ _ (stays.decisions.none before peers p q s at (back p s h) none well then);
    };
    rounds = record {
      silent = λ before number x seen given asked s obeys amid may counted h phase none drops gives fills later then well.
          to _ _ (stays.rounds.silent before number x seen given asked s obeys amid may counted (back x.desk.state s h) phase none drops gives fills later then well);
      closed = λ before number x y log s t obeys amid h phase over leads later then well. to _ _ (stays.rounds.closed before number x y log s t obeys amid (back x.desk.state s h) phase over leads later then well);
      placed = λ before number x y log s t obeys amid h phase closed dials places leads done later then well.
          to _ _ (stays.rounds.placed before number x y log s t obeys amid (back x.desk.state s h) phase closed dials places leads done later then well);
    };
  }

  -- with something that is the same behind each
  pub with_any : (A : Type 0) (I : A → Turn → State → Type 0) → ((a : A) → StaysInATurn terms shelf (I a)) → StaysInATurn terms shelf (λ p s. (a : A) × I a p s)
  with_any A I stays = record {
    decisions = record {
      taken = λ before i due p x y log s seat c at h next takes well then. (h.0, (stays h.0).decisions.taken before i due p x y log s seat c at h.1 next takes well then);
      cut = λ before i cause p x y log s seat c at h next takes well then. (h.0, (stays h.0).decisions.cut before i cause p x y log s seat c at h.1 next takes well then);
      none = λ before peers p q s at h none well then. (h.0, (stays h.0).decisions.none before peers p q s at h.1 none well then);
    };
    rounds = record {
      silent = λ before number x seen given asked s obeys amid may counted h phase none drops gives fills later then well.
          (h.0, (stays h.0).rounds.silent before number x seen given asked s obeys amid may counted h.1 phase none drops gives fills later then well);
      closed = λ before number x y log s t obeys amid h phase over leads later then well. (h.0, (stays h.0).rounds.closed before number x y log s t obeys amid h.1 phase over leads later then well);
      placed = λ before number x y log s t obeys amid h phase closed dials places leads done later then well.
          (h.0, (stays h.0).rounds.placed before number x y log s t obeys amid h.1 phase closed dials places leads done later then well);
    };
  }

  -- ---- what the program tells

  module _ (S : Seat → Type 0) (W Q : Entry → Type 0) (C : Memory → Type 0) (suits : Suits S W Q C) where
    pub decisions_alone : StaysInDecisions terms shelf (λ p s. Holds S W Q C (parts p))
    decisions_alone = record {
      taken = λ before i due p x y log s seat c at h next takes well then. one_fine S W Q C suits i (Decide due) x y log takes (found_fine S W Q C suits shelf p.awake.items p x.desk.state (Some (i, Decide due)) next.first h);
      cut = λ before i cause p x y log s seat c at h next takes well then. one_fine S W Q C suits i (CutOff cause) x y log takes (found_fine S W Q C suits shelf p.awake.items p x.desk.state (Some (i, CutOff cause)) next.first h);
      none = λ before peers p q s at h none well then. found_fine S W Q C suits shelf p.awake.items p q None none h;
    }

    pub rounds_alone : ((e : Entry) → Q e → W (with_place None e)) → SuitsPlaces W Q C → StaysInRounds terms shelf (λ p s. Holds S W Q C (parts p))
    rounds_alone again placing = record {
      silent = λ before number x seen given asked s obeys amid may counted h phase none drops gives fills later then well. silent_fine number shelf x seen given asked s amid may counted drops gives fills S W Q C suits again h;
      closed = λ before number x y log s t obeys amid h phase over leads later then well. closed_fine S W Q C suits x y log over h;
      placed = λ before number x y log s t obeys amid h phase closed dials places leads done later then well. all_placed_fine S W Q C suits placing x y log places h;
    }

    pub all_alone : ((e : Entry) → Q e → W (with_place None e)) → SuitsPlaces W Q C → StaysInATurn terms shelf (λ p s. Holds S W Q C (parts p))
    all_alone again placing = record { decisions = decisions_alone; rounds = rounds_alone again placing }

  -- ---- each

  pub given_stays : StaysInATurn terms shelf (λ p s. NoSeatIsRefused p)
  given_stays =
      as_well (λ p s. Holds IsGiven AnyEntry AnyEntry AnyMemory (parts p)) (λ p s. NoSeatIsRefused p) (λ p s h. h.seats)
      (λ p s h. record { seats = h; waiting = any_entries p.flow.waiting; placed = any_entries p.flow.placed; memory = tt })
      (all_alone IsGiven AnyEntry AnyEntry AnyMemory given_suits (λ e its. tt) any_places)

  pub texts_stay : StaysInATurn terms shelf (λ p s. TextsHaveRoom p)
  texts_stay =
      as_well (λ p s. Holds IsShort AnyEntry AnyEntry AnyMemory (parts p)) (λ p s. TextsHaveRoom p) (λ p s h. h.seats)
      (λ p s h. record { seats = h; waiting = any_entries p.flow.waiting; placed = any_entries p.flow.placed; memory = tt })
      (all_alone IsShort AnyEntry AnyEntry AnyMemory short_suits (λ e its. tt) any_places)

  abbrev pub HoldNames : List (List ℕ) → Turn → State → Type 0
  HoldNames names p s = Holds (AsksAmong names) (HasNameAmong names) (HasNameAmong names) (HasRoomFor names) (parts p)

  pub room_stays : StaysInATurn terms shelf (λ p s. HasRoomToNote (parts p))
  room_stays =
      as_well (λ p s. (names : List (List ℕ)) × HoldNames names p s) (λ p s. HasRoomToNote (parts p))
      (λ p s h. record { names = h.0; seats = h.1.seats; waiting = are_named h.0 p.flow.waiting h.1.waiting; placed = are_named h.0 p.flow.placed h.1.placed; room = h.1.memory })
      (λ p s h. (h.names, record { seats = h.seats; waiting = all_named h.names p.flow.waiting h.waiting; placed = all_named h.names p.flow.placed h.placed; memory = h.room }))
      (with_any (List (List ℕ)) HoldNames (λ names. all_alone (AsksAmong names) (HasNameAmong names) (HasNameAmong names) (HasRoomFor names) (named_suits names) (λ e its. its) (named_places names)))
