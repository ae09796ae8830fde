-- Rounds lead on, one behind the other.
use Rattle.std.proofs.Common.{◌≡◌, refl, sym, subst, ap, ◌∙◌, ℕ, zero, suc, Bool, true, false, List, [], ◌++◌, append-nil}
use Rattle.pp_law.specs.State.{State, Term}
use Rattle.pp_proxy.specs.Moving.{Moving}
use Rattle.pp_proxy.specs.Rounds.{GoRounds, GoesRound}
use Rattle.pp_rounds_law.proofs.Astray.{loops_stay, well_before}
use Rattle.pp_rounds_law.proofs.Coming.{affords_front, affords_then, comes_then, brief_as, brief_front, brief_then}
use Rattle.pp_rounds_law.proofs.Round.{rounds_lead}
use Rattle.pp_rounds_law.specs.Coming.{Affords, ComesTo, IsBrief}
use Rattle.pp_rounds_law.specs.Rounds.{EndsRound, HasGoneRound}
use Rattle.pp_rounds_law.specs.Supplies.{RoundSupplies}
use Rattle.pp_rounds_law.specs.Decisions.{Passes}
use Rattle.pp_state.specs.declared.state.State.{State as Turn}
use Rattle.pp_store.specs.Kept.{KeptMap}
use Rattle.pp_world.specs.Log.{Log}
use Rattle.pp_rounds_law.specs.Loops.{LoopsLead, MayGoRound}

module _ (terms : List Term) (most : ℕ) (shelf : KeptMap) (I : Turn → State → Type 0) (supplies : RoundSupplies terms most shelf I) where
  abbrev Gone : Log → Moving → Log → Bool → State → Type 0
  Gone before y log any s = HasGoneRound terms before shelf I y log any s

  abbrev Ends : Log → Moving → Log → Bool → State → Type 0
  Ends before y log any s = EndsRound terms before shelf I y log any s

  -- behind no more
  ended : (more : ℕ) (x : Moving) (log : Log) (y : Moving) → GoRounds more shelf false x log y → (log ≡ []) × (y ≡ x)
  unfolding GoRounds
  ended zero x log y is = is
  ended (suc more) x log y is = is

  last : (before first rest log : Log) (next y : Moving) (s : State) → log ≡ first ++ rest → (rest ≡ []) × (y ≡ next) → Ends before next first false s → Ends before y log false s
  last before first rest log next y s is over round =
      subst (λ (z : Moving). Ends before z log false s) (sym over.1) (subst (λ (hs : Log). Ends before next hs false s) (sym (is ∙ ap (λ (hs : Log). first ++ hs) over.0 ∙ append-nil first)) round)

  -- one before others
  before_others : (before first rest log : Log) (next y : Moving) (s : State) → log ≡ first ++ rest → (gone : Gone before next first true s) → Ends (before ++ first) y rest false gone.then → Ends before y log false s
  before_others before first rest log next y s is gone others = record {
    gone = record {
      then = others.gone.then;
      comes = subst (λ (hs : Log). ComesTo terms before hs s others.gone.then) (sym is) (comes_then terms before first rest s gone.then others.gone.then gone.comes others.gone.comes);
      stands = others.gone.stands;
      holds = others.gone.holds;
      phase = others.gone.phase;
      none = others.gone.none;
    };
    closed = others.closed;
  }

  abbrev Onward : ℕ → Type 0
  Onward more = (before : Log) (x y : Moving) (log : Log) (s : State) → MayGoRound terms before shelf I x log s → IsBrief most (before ++ log) → GoRounds more shelf true x log y → y.desk.state.is_astray ≡ false → Ends before y log false s

  step : (more : ℕ) → Onward more → (before : Log) (x y : Moving) (log : Log) (s : State) → MayGoRound terms before shelf I x log s → IsBrief most (before ++ log) → (next : Moving) (first rest : Log) (again : Bool) → log ≡ first ++ rest → GoesRound shelf x first next again → GoRounds more shelf again next rest y
      → y.desk.state.is_astray ≡ false → Ends before y log false s
  step more onward before x y log s begins brief next first rest again is round others well =
      by again refl (rounds_lead terms most before shelf I x next first again s supplies begins.obeys (brief_front most before first rest all) (affords_front s first rest affords) begins.stands begins.holds begins.at begins.none round next_well)
    where
      all : IsBrief most (before ++ (first ++ rest))
      all = brief_as most before log (first ++ rest) is brief

      affords : Affords s (first ++ rest)
      affords = subst (λ (hs : Log). Affords s hs) is begins.affords

      next_well : next.desk.state.is_astray ≡ false
      next_well = well_before next.desk.state.is_astray y.desk.state.is_astray (loops_stay more shelf again next y rest others) well

      by : (b : Bool) → again ≡ b → Ends before next first again s → Ends before y log false s
      by false any one =
          last before first rest log next y s is (ended more next rest y (subst (λ (c : Bool). GoRounds more shelf c next rest y) any others))
          (subst (λ (c : Bool). Ends before next first c s) any one)
      by true any one =
          let so : Gone before next first true s = (subst (λ (c : Bool). Ends before next first c s) any one).gone in
          before_others before first rest log next y s is so
          (onward (before ++ first) next y rest so.then (record {
            obeys = so.comes.obeys;
            affords = affords_then terms before first rest s so.then so.comes affords;
            stands = so.stands;
            holds = so.holds;
            at = so.phase;
            none = so.none;
          }) (brief_then most before first rest all) (subst (λ (c : Bool). GoRounds more shelf c next rest y) any others) well)

  loop : (more : ℕ) → Onward more
  unfolding GoRounds
  loop zero before x y log s begins brief is well = absurd (let both : true ≡ false = sym (ap (λ (z : Moving). z.desk.state.is_astray) is.1) ∙ well in cc both)
  loop (suc more) before x y log s begins brief (next, first, rest, again, is, round, others) well = step more (loop more) before x y log s begins brief next first rest again is round others well

-- whatever holds from one step to the next
pub loops_lead : (terms : List Term) (most : ℕ) (before : Log) (shelf : KeptMap) (I : Turn → State → Type 0) (more : ℕ) (x y : Moving) (log : Log) (s : State) → RoundSupplies terms most shelf I → MayGoRound terms before shelf I x log s → IsBrief most (before ++ log) → GoRounds more shelf true x log y → y.desk.state.is_astray ≡ false
    → EndsRound terms before shelf I y log false s
loops_lead terms most before shelf I more x y log s supplies begins brief so well = loop terms most shelf I supplies more before x y log s begins brief so well

pub loops : LoopsLead
loops terms most before shelf test more x y log s supplies begins brief so well = loops_lead terms most before shelf (Passes test) more x y log s supplies begins brief so well
