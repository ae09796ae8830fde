-- From where Stop is handled, over decisions, to where all is closed.
use Rattle.std.proofs.Common.{◌≡◌, ◌≤◌, ◌<◌, refl, sym, subst, ap, ◌∙◌, ℕ, suc, ◌+◌, ◌^◌, length, List, [], ◌∷◌, ◌++◌, Some, arith}
use Rattle.std.specs.Prelude.{count_by}
use Rattle.pp_deciding_law.proofs.Law.{cut_phase}
use Rattle.pp_deciding_law.specs.Takes.{behind_taken, to_take}
use Rattle.pp_desk.specs.declared.desk.Desk.{Desk}
use Rattle.pp_joints_law.proofs.Decided.{stops_there}
use Rattle.pp_law.specs.State.{State, Term, Deciding}
use Rattle.pp_laws_coming.proofs.Laws.{asks_told}
use Rattle.pp_laws_coming.specs.Coming.{is_behind_evicting}
use Rattle.pp_laws_unused.proofs.Turning.{taken_phase}
use Rattle.pp_obeys.specs.Failures.{fails}
use Rattle.pp_obeys.specs.Obeys.{Life}
use Rattle.pp_proxy.specs.Leaving.{Leaves}
use Rattle.pp_proxy.specs.Moving.{Moving, Turning}
use Rattle.pp_rounds_law.proofs.Stopped.{stops_lead}
use Rattle.pp_rounds_law.specs.Coming.{Affords}
use Rattle.pp_rounds_law.specs.Decisions.{Supplies}
use Rattle.pp_rounds_law.specs.Settles.{HasStopped, StopSupplies}
use Rattle.pp_seats.specs.declared.seat.Seat.{Seat}
use Rattle.pp_state.specs.Ends.{numbers_of}
use Rattle.pp_state.specs.Numbers.{places}
use Rattle.pp_state.specs.declared.state.State.{State as Turn}
use Rattle.pp_store.specs.Kept.{KeptMap}
use Rattle.pp_world.specs.Log.{Log}
use Rattle.pp_world.specs.declared.note.Decision.{Decision}
use Rattle.pp_turn_law.proofs.Kept.{go_to_decide, some_log}
use Rattle.pp_turn_law.proofs.ServedOn.{counted_on, in_budget}
use Rattle.pp_turn_law.proofs.Serves.{fewer}
use Rattle.pp_turn_law.proofs.Supplied.{rounds_supplied}
use Rattle.pp_turn_law.specs.Kept.{HasGoneToDecide, LeavesAndKeeps}
use Rattle.pp_turn_law.specs.Served.{ServesOn}
use Rattle.pp_turn_law.specs.Stopped.{DecidingOnesStop, HandledOnesStop, HasStoppedOn, IsToStop, StandsToStop, StopsAreSaid}
use Rattle.pp_turn_law.specs.Supplied.{StandsSupplied}

-- ---- as Stop is handled

pub stops_said : StopsAreSaid
stops_said x y handles room = record {
  stopped = ap (λ (d : Desk). d.state.is_stopped) handles.0.rest;
  awake = handles.0.awake room ∙ ap (λ (seats : List Seat). places (length seats)) (sym (ap (λ (d : Desk). d.state.seats.items) handles.0.rest));
}

-- ---- what decisions rest on

-- decisions come still
pub record StandsDeciding (shelf : KeptMap) (p : Turn) (s : State) : Type 0 where
  pub supplied : StandsSupplied shelf p s
  pub at : s.phase ≡ Deciding

behind_phase : (n : ℕ) (due : Decision) (s : State) → (behind_taken n due s).phase ≡ Deciding
behind_phase n due s = taken_phase n due (to_take due s)

pub stop_supplied : (terms : List Term) (most : ℕ) → most < 2 ^ 50 → (shelf : KeptMap) → StopSupplies terms most shelf (StandsDeciding shelf)
stop_supplied terms most few shelf = record {
  decides = record {
    rests = λ before i due p x y log s seat c moment holds next one straight. d.rests before i due p x y log s seat c moment holds.supplied next one straight;
    closes = λ before peers p s moment holds. d.closes before peers p s moment holds.supplied;
    taken = λ before i due p x y log s seat c moment holds next one straight behind.
        record { supplied = d.taken before i due p x y log s seat c moment holds.supplied next one straight behind; at = behind_phase seat.client.id due s };
    cut = λ before i cause p x y log s seat c moment holds next one straight behind.
        record { supplied = d.cut before i cause p x y log s seat c moment holds.supplied next one straight behind; at = cut_phase seat.client.id s };
    none = λ before peers p q s moment holds first straight behind. record { supplied = d.none before peers p q s moment holds.supplied first straight behind; at = holds.at };
  };
  at = λ before peers p s moment holds. holds.at;
  going = λ before peers p s moment holds. (asks_told terms s before moment.obeys).going (ap is_behind_evicting holds.at);
}
  where
    d : Supplies terms most shelf (StandsSupplied shelf)
    d = (rounds_supplied terms most few shelf).decides

-- ---- to where all is closed

module _ (life : Life) (budget : ℕ) (log after : Log) (number : ℕ → ℕ) (x y : Turning) (s : State) (st : StandsToStop life budget log number x s) (supplied : StandsSupplied x.shelf x.moving.desk.state s) (does : ServesOn x y) (told : y.log ≡ Some after) (few : y.faults ≤ budget + life.base) (brief : length after < 2 ^ 50) where
  abbrev added : Log
  added = does.settles.added

  before : (k : Log) × (x.log ≡ Some k) × (after ≡ k ++ added)
  before = does.settles.told.was after told

  all : after ≡ log ++ added
  all = before.2 ∙ ap (λ (k : Log). k ++ added) (some_log before.0 log (sym before.1 ∙ st.told))

  counted : x.faults + count_by fails added ≤ y.faults
  counted = does.settles.counted.at after told

  affords : Affords s added
  affords = in_budget s.failures life.base x.faults (count_by fails added) y.faults budget s.term.faults st.allows.failed counted few st.allows.allowed

  stopped : HasStopped (life.terms budget) log y.moving added s
  stopped =
      stops_lead (life.terms budget) (length after) log x.shelf (StandsDeciding x.shelf) x.moving y.moving added s (stop_supplied (life.terms budget) (length after) brief x.shelf) st.obeys
      (subst (λ (l : Log). length l ≤ length after) all (omega arith)) affords (stops_there number x s st.kept (sym st.kept.turn.stopped ∙ st.said.stopped) st.said.awake) (record { supplied = supplied; at = st.kept.at }) does.settles.is does.straight

  pub stopped_on : HasStoppedOn life budget log y s
  stopped_on = record {
    added = added;
    told = told ∙ ap (λ (l : Log). Some l) all;
    stopped = stopped;
    allows = record { failed = counted_on s.failures life.base x.faults (count_by fails added) y.faults stopped.then.failures st.allows.failed counted stopped.comes.failures; allowed = subst (λ (w : Term). budget ≤ w.faults) (sym stopped.comes.term) st.allows.allowed };
  }

pub deciding_stop : DecidingOnesStop
deciding_stop life budget log after number x y s st supplied does told few brief = stopped_on life budget log after number x y s st supplied does told few brief

-- ---- over memory and the disk

pub same_long : (xs ys : List Seat) → numbers_of xs ≡ numbers_of ys → length xs ≡ length ys
same_long [] [] is = refl
same_long [] (y ∷ ys) is = absurd (cc is)
same_long (x ∷ xs) [] is = absurd (cc is)
same_long (x ∷ xs) (y ∷ ys) is = ap (λ (n : ℕ). suc n) (same_long xs ys (rest (numbers_of xs) (numbers_of ys) is))
  where
    rest : (ms ns : List ℕ) → x.client.id ∷ ms ≡ y.client.id ∷ ns → ms ≡ ns
    rest ms ns both = cc both

still_left : (x y : Moving) (log : Log) → Leaves x log y → IsToStop x.desk.state → IsToStop y.desk.state
still_left x y log leaves said = record {
  stopped = ap (λ (d : Desk). d.state.is_stopped) leaves.gives.rest ∙ ap (λ (t : Turn). t.is_stopped) leaves.leaves.is.rest ∙ ap (λ (d : Desk). d.state.is_stopped) leaves.regains.rest ∙ said.stopped;
  awake =
      ap (λ (d : Desk). d.state.awake.items) leaves.gives.rest ∙ ap (λ (t : Turn). t.awake.items) leaves.leaves.is.rest ∙ ap (λ (d : Desk). d.state.awake.items) leaves.regains.rest ∙ said.awake
      ∙ ap places (sym (same_long y.desk.state.seats.items leaves.left.state.seats.items leaves.gives.numbers ∙ ap (λ (t : Turn). length t.seats.items) leaves.leaves.is.rest ∙ same_long leaves.anew.state.seats.items x.desk.state.seats.items leaves.regains.numbers));
}

still_kept : (x y : Turning) → LeavesAndKeeps x y → IsToStop x.moving.desk.state → IsToStop y.moving.desk.state
still_kept x y does said =
    let left : IsToStop does.left.moving.desk.state = still_left x.moving does.left.moving does.leaves.added does.leaves.is said in
    record {
      stopped = ap (λ (d : Desk). d.state.is_stopped) does.keeps.rest ∙ left.stopped;
      awake = ap (λ (d : Desk). d.state.awake.items) does.keeps.rest ∙ left.awake ∙ ap (λ (seats : List Seat). places (length seats)) (sym (ap (λ (d : Desk). d.state.seats.items) does.keeps.rest));
    }

pub handled_stop : HandledOnesStop
handled_stop life budget log after number x k y s st keeps room does said told few brief =
    let before = does.settles.told.was after told in
    let counted : k.faults + count_by fails does.settles.added ≤ y.faults = does.settles.counted.at after told in
    let gone : HasGoneToDecide life budget log x k s = go_to_decide life budget log before.0 number x k s st keeps before.1 (fewer k.faults (count_by fails does.settles.added) y.faults budget life.base counted few) in
    let stands : StandsToStop life budget (log ++ gone.goes.added) gone.number k gone.then = record { obeys = gone.goes.comes.obeys; allows = gone.goes.allows; told = gone.goes.told; kept = gone.kept; said = still_kept x k keeps said } in
    let supplied : StandsSupplied k.shelf k.moving.desk.state gone.then = record {
      stays = record {
        given = gone.supplied.given;
        texts = gone.supplied.texts;
        counted = gone.supplied.counted;
        disk = record { shows = gone.kept.carried.disk.shows; noted = gone.kept.carried.disk.noted; names = gone.kept.carried.disk.names; room = room };
      };
      name = gone.supplied.name;
    } in
    record { kept = k; gone = gone; stopped = deciding_stop life budget (log ++ gone.goes.added) after gone.number k y gone.then stands supplied does told few brief }
