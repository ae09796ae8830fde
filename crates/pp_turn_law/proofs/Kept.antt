-- From an event that is handled, over memory and the disk, to where decisions come next; and so from wherever memory may be left.
use Rattle.std.proofs.Common.{◌≡◌, ◌≤◌, sym, subst, ap, ◌∙◌, ℕ, ◌+◌, true, false, List, [], ◌++◌, append_assoc, length, Option, Some, arith}
use Rattle.std.specs.Prelude.{count_by}
use Rattle.pp_cache_law.proofs.PairLemmas.{count_joined as joined}
use Rattle.pp_turns_law.proofs.GivenUp.{waiting_in_order}
use Rattle.pp_desk.specs.declared.desk.Desk.{Desk}
use Rattle.pp_evicting_law.proofs.Left.{leaving}
use Rattle.pp_evicting_law.specs.Evicting.{HasLeft, IsDoneWithEvent, MayLeave, left_behind}
use Rattle.pp_turns_law.proofs.GivenUp.{waiting_in_order}
use Rattle.pp_flow.specs.Changes.{numbers as flow_numbers}
use Rattle.pp_flow_law.specs.Tables.{none_leaves}
use Rattle.pp_given_law.proofs.CountedOver.{as_kept, as_left}
use Rattle.pp_given_law.proofs.Stands.{given_behind, texts_behind}
use Rattle.pp_grown_law.proofs.AsKept.{kept_stays}
use Rattle.pp_grown_law.proofs.Grown.{keepings_leave, leavings_note, noted_grown}
use Rattle.pp_grown_law.specs.Grown.{HasNothingToKeep, NotesGrown}
use Rattle.pp_joints_law.proofs.Done.{handled_done}
use Rattle.pp_joints_law.proofs.Kept.{keepings_carry, stands_to_keep}
use Rattle.pp_joints_law.proofs.Left.{leavings_carry}
use Rattle.pp_joints_law.proofs.Near.{memory_may}
use Rattle.pp_joints_law.specs.Carried.{IsCarried}
use Rattle.pp_joints_law.specs.Keeping.{deciding, kept_in}
use Rattle.pp_keeps_law.proofs.AllKept.{keepings_lead_on}
use Rattle.pp_keeps_law.specs.All.{HasGrown, IsDoneWith}
use Rattle.pp_keeps_law.specs.Stands.{StandsToKeep}
use Rattle.pp_law.specs.Phases.{behind, is_done, is_done_with, next}
use Rattle.pp_law.specs.Replies.{regained}
use Rattle.pp_law.specs.State.{State, Keeping, Phase, Term}
use Rattle.pp_obeys.specs.Failures.{fails}
use Rattle.pp_obeys.specs.Moves.{Leaves as GoesOn, MovesAll}
use Rattle.pp_obeys.specs.Obeys.{Allows, Life, Obeys}
use Rattle.pp_proxy.specs.Leaving.{Leaves}
use Rattle.pp_proxy.specs.Moving.{Moving, Turning}
use Rattle.pp_rounds_law.proofs.Coming.{comes_silently, none_fail}
use Rattle.pp_rounds_law.specs.Coming.{ComesTo}
use Rattle.pp_shelf_law.specs.AsKept.{EachIsAsKept}
use Rattle.pp_state.specs.Ends.{AreInOrder, parts}
use Rattle.pp_store.specs.Kept.{KeptMap}
use Rattle.pp_world.specs.Log.{Log}
use Rattle.pp_turn_law.specs.Kept.{HandledOnesGoToDecide, HasGoneToDecide, LeavesAndKeeps, StandsHandled}
use Rattle.pp_turn_law.specs.Supplied.{StandsGiven}
use Rattle.pp_turn_law.proofs.Along.{LedTo, calm_none, led_to, then_done, then_more}

-- ---- counts

-- what failed before in the life, beside what was counted before it, and twice more
within : (a base b c d e f budget most : ℕ) → a + base ≤ b → b + c ≤ d → d + e ≤ f → f ≤ budget + base → budget ≤ most → (a + c) + e ≤ most
within a base b c d e f budget most h1 h2 h3 h4 h5 = omega (arith, h1, h2, h3, h4, h5)

so_many : (a base b c d e f : ℕ) → a + base ≤ b → b + c ≤ d → d + e ≤ f → (a + (c + e)) + base ≤ f
so_many a base b c d e f h1 h2 h3 = omega (arith, h1, h2, h3)

count_joined : (one two : Log) → count_by fails (one ++ two) ≡ count_by fails one + count_by fails two
count_joined one two = joined fails one two

pub some_log : (k l : Log) → (let o : Option Log = Some k in o ≡ Some l) → k ≡ l
some_log k l is = cc is

-- ---- from wherever memory may be left

-- the turn shows this state, and the log goes on from that one: to where memory was left
pub record StandsToLeave (life : Life) (budget : ℕ) (log : Log) (number : ℕ → ℕ) (x : Turning) (h s : State) : Type 0 where
  pub told : x.log ≡ Some log
  pub allows : Allows life budget x.faults s
  pub done : IsDoneWithEvent number x.moving h
  pub may : MayLeave x.moving h
  pub carried : IsCarried x.shelf x.moving h
  pub supplied : StandsGiven x.moving.desk.state h
  pub comes : (z : Moving) (added : Log) → Leaves x.moving added z → HasLeft number x.moving z added (regained h) (left_behind (regained h)) → ComesTo (life.terms budget) log added s (left_behind (regained h))

module _ (life : Life) (budget : ℕ) (log after : Log) (number : ℕ → ℕ) (x y : Turning) (handled s : State) (st : StandsToLeave life budget log number x handled s) (does : LeavesAndKeeps x y) (told : y.log ≡ Some after) (few : y.faults ≤ budget + life.base) where
  abbrev terms : List Term
  terms = life.terms budget

  abbrev anew : State
  anew = regained handled

  abbrev gone : State
  gone = left_behind anew

  abbrev added : Log
  added = does.leaves.added

  left : HasLeft number x.moving does.left.moving added anew gone
  left = leaving number x.moving does.left.moving added handled st.done st.may does.leaves.is does.bounded

  carried : IsCarried x.shelf does.left.moving gone
  carried = leavings_carry number x.shelf x.moving does.left.moving added handled gone st.done st.carried does.leaves.is left

  -- ---- the log: what leaves memory is noted, and then what was done for the disk

  abbrev IsKeptSo : Log → Type 0
  IsKeptSo hs = (n : ℕ → ℕ) (u : State) → StandsToKeep n does.left.moving.desk.state does.left.shelf u → HasGrown (kept_in does.left) → MovesAll (IsDoneWith n (kept_in does.left) (kept_in y) u) hs u

  kept_log : (k : Log) × (hs : Log) × (does.left.log ≡ Some k) × (after ≡ k ++ hs) × IsKeptSo hs × (does.left.faults + count_by fails hs ≤ y.faults)
  kept_log = (keepings_lead_on (length does.left.moving.desk.file.items) (kept_in does.left) (kept_in y) (omega (arith, carried.set.file)) does.keeps.is).was after told

  abbrev ops : Log
  ops = kept_log.1

  before : (k : Log) × (x.log ≡ Some k) × (kept_log.0 ≡ k ++ added)
  before = does.leaves.told.was kept_log.0 kept_log.2

  noted : kept_log.0 ≡ log ++ added
  noted = before.2 ∙ ap (λ (k : Log). k ++ added) (some_log before.0 log (sym before.1 ∙ st.told))

  all : after ≡ log ++ (added ++ ops)
  all = kept_log.3 ∙ ap (λ (k : Log). k ++ ops) noted ∙ append_assoc log added ops

  -- ---- memory is left

  comes_gone : ComesTo terms log added s gone
  comes_gone = st.comes does.left.moving added does.leaves.is left

  -- ---- and the disk is worked on

  stands : StandsToKeep number does.left.moving.desk.state does.left.shelf gone
  stands = subst (λ (shelf : KeptMap). StandsToKeep number does.left.moving.desk.state shelf gone) (sym does.shelf) (stands_to_keep terms (log ++ added) number x.shelf does.left.moving gone comes_gone.obeys left.stands carried)

  -- what grew is noted still, and each entry has the fields that are kept of them
  grown : HasGrown (kept_in does.left)
  grown =
      let noted : NotesGrown does.left.moving.desk.state x.shelf =
      leavings_note x.shelf x.moving does.left.moving added
      (waiting_in_order number x.moving.desk.state.name.items none_leaves x.moving.desk.peers (parts x.moving.desk.state) handled st.done.turn.steps) does.leaves.is does.grown in
      noted_grown does.left.moving.desk.state does.left.shelf does.left.log does.left.faults (subst (λ (shelf : KeptMap). NotesGrown does.left.moving.desk.state shelf) (sym does.shelf) noted)

  each : EachIsAsKept y.shelf
  each = kept_stays number (length does.left.moving.desk.file.items) (kept_in does.left) (kept_in y) gone stands (subst EachIsAsKept (sym does.shelf) carried.disk.kept) does.keeps.is

  kept : LedTo (IsDoneWith number (kept_in does.left) (kept_in y) gone) ops gone
  kept = led_to (IsDoneWith number (kept_in does.left) (kept_in y) gone) ops gone (kept_log.4 number gone stands grown)

  -- all that failed in it is counted
  enough : gone.failures + count_by fails ops ≤ gone.term.faults
  enough =
      let counted : x.faults + count_by fails added ≤ does.left.faults = does.leaves.counted.at kept_log.0 kept_log.2 in
      subst (λ (w : Term). gone.failures + count_by fails ops ≤ w.faults) (sym comes_gone.term)
      (subst (λ (n : ℕ). n + count_by fails ops ≤ s.term.faults) (sym comes_gone.failures)
      (within s.failures life.base x.faults (count_by fails added) does.left.faults (count_by fails ops) y.faults budget s.term.faults st.allows.failed counted kept_log.5 few st.allows.allowed))

  comes_kept : ComesTo terms log (added ++ ops) s kept.then
  comes_kept = then_more terms log added ops s gone kept.then comes_gone (λ some. enough) kept.leads

  at : kept.then.phase ≡ Keeping
  at = kept.holds.kept.stands.rests.at

  is_over : is_done kept.then ≡ true
  is_over = ap (λ (p : Phase). is_done_with p kept.then) at ∙ kept.holds.done

  next_is : next kept.then ≡ deciding kept.then
  unfolding next
  next_is = ap (λ (p : Phase). behind p kept.then) at

  comes : ComesTo terms log (added ++ ops) s (deciding kept.then)
  comes = subst (λ (u : State). ComesTo terms log (added ++ ops) s u) next_is (then_done terms log (added ++ ops) s kept.then comes_kept is_over)

  failed_then : kept.then.failures + life.base ≤ y.faults
  failed_then =
      let counted : x.faults + count_by fails added ≤ does.left.faults = does.leaves.counted.at kept_log.0 kept_log.2 in
      subst (λ (n : ℕ). n + life.base ≤ y.faults) (sym comes_kept.failures)
      (subst (λ (n : ℕ). (s.failures + n) + life.base ≤ y.faults) (sym (count_joined added ops)) (so_many s.failures life.base x.faults (count_by fails added) does.left.faults (count_by fails ops) y.faults st.allows.failed counted kept_log.5))

  in_order : AreInOrder (flow_numbers x.moving.desk.state.flow.waiting)
  in_order = waiting_in_order number x.moving.desk.state.name.items none_leaves x.moving.desk.peers (parts x.moving.desk.state) handled st.done.turn.steps

  same_name : y.moving.desk.state.name.items ≡ x.moving.desk.state.name.items
  same_name = ap (λ (d : Desk). d.state.name.items) does.keeps.rest ∙ ap (λ (d : Desk). d.state.name.items) left.turn.desk

  supplied : StandsGiven y.moving.desk.state (deciding kept.then)
  supplied = record {
    given = given_behind.keeps does.left y does.keeps (given_behind.leaves x.moving does.left.moving added in_order does.leaves.is st.supplied.given);
    texts = texts_behind.keeps does.left y does.keeps (texts_behind.leaves x.moving does.left.moving added in_order does.leaves.is st.supplied.texts);
    counted = as_kept number does.left y gone kept.then does.keeps kept.holds (as_left number x.moving does.left.moving added handled gone st.done does.leaves.is left st.supplied.counted);
    name = subst (λ (name : List ℕ). length name ≤ 64) (sym same_name) st.supplied.name;
  }

  pub left_to_decide : HasGoneToDecide life budget log x y s
  left_to_decide = record {
    then = deciding kept.then;
    goes = record {
      added = added ++ ops;
      told = told ∙ ap (λ (l : Log). Some l) all;
      comes = comes;
      allows = record { failed = failed_then; allowed = subst (λ (w : Term). budget ≤ w.faults) (sym comes_kept.term) st.allows.allowed };
    };
    number = number;
    kept = keepings_carry number does.left y gone kept.then left.stands (subst (λ (shelf : KeptMap). IsCarried shelf does.left.moving gone) (sym does.shelf) carried) does.keeps kept.holds each;
    supplied = supplied;
    stopped = ap (λ (d : Desk). d.state.is_stopped) does.keeps.rest ∙ ap (λ (d : Desk). d.state.is_stopped) left.turn.desk;
  }

  pub nothing_kept : y.moving.desk.state.is_astray ≡ false → HasNothingToKeep y.moving.desk.state y.shelf
  nothing_kept straight = keepings_leave number (length does.left.moving.desk.file.items) (kept_in does.left) (kept_in y) gone kept.then does.keeps.is kept.holds straight

-- ---- where an event is handled

module _ (life : Life) (budget : ℕ) (log : Log) (number : ℕ → ℕ) (x : Turning) (s : State) (st : StandsHandled life budget log number x s) where
  abbrev h : State
  h = st.handled.handled

  abbrev u : State
  u = regained h

  obeys : Obeys (life.terms budget) u log
  obeys = subst (λ (t : State). Obeys (life.terms budget) t log) st.handled.anew st.obeys

  done_so : IsDoneWithEvent number x.moving h
  done_so = handled_done number x.moving s st.handled st.ready

  -- the event is left without a happening, and then what leaves memory is noted
  went : (z : Moving) (added : Log) → HasLeft number x.moving z added u (left_behind u) → ComesTo (life.terms budget) log added u (left_behind u)
  went z added left =
      let terms : List Term = life.terms budget in
      let led : LedTo (GoesOn (λ t. t ≡ left_behind u)) added (next u) = led_to (GoesOn (λ t. t ≡ left_behind u)) added (next u) left.leads.holds in
      let first : ComesTo terms log [] u (next u) = comes_silently terms log u obeys left.leads.done in
      let notes : ComesTo terms log added u led.then = then_more terms log [] added u (next u) led.then first (none_fail (next u) (count_by fails added) (calm_none added left.calm)) led.leads in
      subst (λ (t : State). ComesTo terms log added u t) led.holds.holds (then_done terms log added u led.then notes led.holds.done)

  to_leave : StandsToLeave life budget log number x h s
  to_leave = record {
    told = st.told;
    allows = st.allows;
    done = done_so;
    may = memory_may (life.terms budget) log number x.shelf x.moving h obeys done_so st.carried st.leave;
    carried = st.carried;
    supplied = st.supplied;
    comes = λ z added leaves left. subst (λ (t : State). ComesTo (life.terms budget) log added t (left_behind u)) (sym st.handled.anew) (went z added left);
  }

pub nothing_left : (life : Life) (budget : ℕ) (log after : Log) (number : ℕ → ℕ) (x y : Turning) (s : State) → StandsHandled life budget log number x s → LeavesAndKeeps x y → y.log ≡ Some after → y.faults ≤ budget + life.base → y.moving.desk.state.is_astray ≡ false
    → HasNothingToKeep y.moving.desk.state y.shelf
nothing_left life budget log after number x y s st does told few straight = nothing_kept life budget log after number x y st.handled.handled s (to_leave life budget log number x s st) does told few straight

pub go_to_decide : HandledOnesGoToDecide
go_to_decide life budget log after number x y s st does told few = left_to_decide life budget log after number x y st.handled.handled s (to_leave life budget log number x s st) does told few
