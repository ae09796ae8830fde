-- From the first decision of a turn to where it may wait again, over whatever supplies what its rounds rest on.
use Rattle.std.proofs.Common.{◌≡◌, ◌≤◌, ◌<◌, ◌^◌, inl, inr, refl, sym, subst, ap, ◌∙◌, ℕ, ◌+◌, length, List, [], ◌∷◌, ◌++◌, Some, arith}
use Rattle.std.specs.Prelude.{count_by}
use Rattle.pp_cache.specs.Memory.{Memory}
use Rattle.pp_cache_law.specs.Pairs.{AreAll}
use Rattle.pp_cache_law.specs.Tables.{ShowsInstance}
use Rattle.pp_deciding_law.specs.Stands.{StandsToDecide}
use Rattle.pp_desk.specs.declared.desk.Desk.{Desk}
use Rattle.pp_given_law.proofs.Begun.{counted_begins, given_begins, texts_begin}
use Rattle.pp_given_law.specs.Begins.{BodiesAreShort}
use Rattle.pp_joints_law.proofs.Decided.{decides_there}
use Rattle.pp_joints_law.proofs.Settlings.{settlings}
use Rattle.pp_given_law.specs.MayNote.{most_names}
use Rattle.pp_joints_law.specs.Carried.{IsCarried}
use Rattle.pp_law.specs.Lists.{Bytes}
use Rattle.pp_law.specs.Opening.{is_at, is_same_phase}
use Rattle.pp_law.specs.Phases.{come_to, ending, phases}
use Rattle.pp_law.specs.Replies.{begin_replies}
use Rattle.pp_law.specs.State.{State, Instance as Known, Phase, Term, DecidingAgain}
use Rattle.pp_laws.specs.Runs.{IsIn}
use Rattle.pp_laws_fields.proofs.Laws.{turns_keep_fields}
use Rattle.pp_objects.specs.Instances.{Instance}
use Rattle.pp_obeys.proofs.Come.{come-stopped}
use Rattle.pp_obeys.specs.Failures.{fails}
use Rattle.pp_obeys.specs.Obeys.{Life, Obeys}
use Rattle.pp_proxy.specs.Moving.{Turning}
use Rattle.pp_proxy.specs.Rounds.{BeginsAll}
use Rattle.pp_rounds_law.proofs.Begun.{all_begun}
use Rattle.pp_rounds_law.proofs.Settled.{settles_lead}
use Rattle.pp_rounds_law.specs.Coming.{Affords, IsBrief}
use Rattle.pp_rounds_law.specs.Serves.{EndSupplies, HasServed, HasServedWith}
use Rattle.pp_rounds_law.specs.Supplies.{RoundSupplies}
use Rattle.pp_state.specs.declared.state.State.{State as Turn}
use Rattle.pp_stays_law.specs.Turns.{AreCounted}
use Rattle.pp_store.specs.Kept.{KeptMap}
use Rattle.pp_valid.specs.declared.version.Version.{Version}
use Rattle.pp_world.specs.Log.{Log}
use Rattle.pp_turn_law.specs.Served.{HasServedOn, ServesOn, StandsToServe}
use Rattle.pp_turn_law.specs.Supplied.{StandsGiven}
use Rattle.pp_turn_law.proofs.Kept.{some_log}

pub in_budget : (a base b c d budget most : ℕ) → a + base ≤ b → b + c ≤ d → d ≤ budget + base → budget ≤ most → a + c ≤ most
in_budget a base b c d budget most h1 h2 h3 h4 = omega (arith, h1, h2, h3, h4)

pub counted_on : (a base b c d e : ℕ) → a + base ≤ b → b + c ≤ d → e ≡ a + c → e + base ≤ d
counted_on a base b c d e h1 h2 is = omega (arith, h1, h2, is)

-- ---- where replies have begun

fewer : (n : ℕ) → n ≤ 2 ^ 30 → n < 2 ^ 64
fewer n few = omega (arith, few)

all_short : (number : ℕ → ℕ) (m : Memory) (s : State) (is : List Instance) (xs : List Known) → AreAll (ShowsInstance number m s) is xs → ((x : Known) → IsIn x xs → x.version.length ≤ 2 ^ 30) → BodiesAreShort is
all_short number m s [] [] shows short = tt
all_short number m s [] (x ∷ xs) shows short = absurd shows
all_short number m s (i ∷ is) [] shows short = absurd shows
all_short number m s (i ∷ is) (x ∷ xs) shows short =
    (subst (λ (v : Version). v.length < 2 ^ 64) (sym shows.0.version) (fewer x.version.length (short x (inl refl))), all_short number m s is xs shows.1 (λ y there. short y (inr there)))

ending_at : (s : State) → s.phase ≡ DecidingAgain → ending s ≡ begin_replies s
unfolding ending come_to
ending_at s at = ap begin_replies (come-stopped (is_at DecidingAgain) phases s (ap (λ (f : Phase). is_same_phase DecidingAgain f) at))

begun_given : (terms : List Term) (log : Log) (number : ℕ → ℕ) (shelf : KeptMap) (d e : Desk) (s : State) → Obeys terms s log → StandsToDecide number d.peers shelf d.state s → s.phase ≡ DecidingAgain → BeginsAll d e → StandsGiven d.state s → StandsGiven e.state (ending s)
begun_given terms log number shelf d e s obeys stands at begins holds = record {
  given = given_begins d e begins holds.given;
  texts = texts_begin d e holds.name
      (all_short number d.state.cache s d.state.cache.instances s.instances stands.turn.steps.shows.table.table.instances (λ x there. ((turns_keep_fields terms s log obeys).rows x there).short)) begins holds.texts;
  counted = subst (λ (t : State). AreCounted e.state t) (sym (ending_at s at)) (counted_begins d e s begins holds.counted);
  name = subst (λ (name : List ℕ). length name ≤ 64) (sym (ap (λ (t : Turn). t.name.items) (all_begun d.state.awake.items d.state e.state begins.is).rest)) holds.name;
}

-- ---- over whatever supplies it

module _ (I : Turn → State → Type 0) (gives : (p : Turn) (t : State) → I p t → StandsGiven p t) (few_of : (p : Turn) (t : State) → I p t → length p.cache.outdated ≤ most_names) (most : ℕ) (life : Life) (budget : ℕ) (log after : Log) (number : ℕ → ℕ) (x y : Turning) (s : State) (rounds : RoundSupplies (life.terms budget) most x.shelf I) (ends : EndSupplies (life.terms budget) most x.shelf I) (st : StandsToServe life budget log number x s) (holds : I x.moving.desk.state s) (does : ServesOn x y) (told : y.log ≡ Some after) (few : y.faults ≤ budget + life.base) (brief : IsBrief most after) where
  abbrev added : Log
  added = does.settles.added

  before : (k : Log) × (x.log ≡ Some k) × (after ≡ k ++ added)
  before = does.settles.told.was after told

  all : after ≡ log ++ added
  all = before.2 ∙ ap (λ (k : Log). k ++ added) (some_log before.0 log (sym before.1 ∙ st.told))

  counted : x.faults + count_by fails added ≤ y.faults
  counted = does.settles.counted.at after told

  affords : Affords s added
  affords = in_budget s.failures life.base x.faults (count_by fails added) y.faults budget s.term.faults st.allows.failed counted few st.allows.allowed

  abbrev served_with : HasServedWith (life.terms budget) log x.shelf I y.moving added s
  served_with = settles_lead (life.terms budget) most log x.shelf I x.moving y.moving added s rounds ends (record { obeys = st.obeys; affords = affords; stands = decides_there number x s st.kept st.going; holds = holds; at = st.kept.at }) (subst (λ (l : Log). IsBrief most l) all brief) does.settles.is does.bounded does.straight

  abbrev served : HasServed (life.terms budget) log x.shelf y.moving added s
  served = served_with.served

  supplied : StandsGiven y.moving.desk.state (ending served.then)
  supplied =
      begun_given (life.terms budget) (log ++ added) served.number x.shelf served_with.last y.moving.desk served.then served.comes.obeys served_with.stands served_with.at served_with.begins
      (gives served_with.last.state served.then served_with.holds)

  few_noted : length y.moving.desk.state.cache.outdated ≤ most_names
  few_noted = subst (λ (ns : List Bytes). length ns ≤ most_names) (sym (all_begun served_with.last.state.awake.items served_with.last.state y.moving.desk.state served_with.begins.is).outdated) (few_of served_with.last.state served.then served_with.holds)

  carried : IsCarried x.shelf y.moving (ending served.then)
  carried = settlings (life.terms budget) log x.shelf x.moving y.moving added s served st.obeys st.kept.at st.kept.carried does.settles.is

  pub served_on : HasServedOn life budget log y s
  served_on = subst (λ (shelf : KeptMap). (it : HasServed (life.terms budget) log shelf y.moving added s) → IsCarried shelf y.moving (ending it.then) → StandsGiven y.moving.desk.state (ending it.then) → HasServedOn life budget log y s) does.shelf (λ it carried_it supplied_it. record {
    added = added;
    told = told ∙ ap (λ (l : Log). Some l) all;
    served = it;
    allows = record { failed = counted_on s.failures life.base x.faults (count_by fails added) y.faults it.then.failures st.allows.failed counted it.comes.failures; allowed = subst (λ (w : Term). budget ≤ w.faults) (sym it.comes.term) st.allows.allowed };
    carried = carried_it;
    supplied = supplied_it;
    few = few_noted;
  }) served carried supplied
