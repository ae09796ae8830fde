-- Before Stop a turn decides, goes round and ends.
use Rattle.std.proofs.Common.{◌≡◌, refl, sym, subst, ◌∙◌, ℕ, Bool, true, false, List, ◌++◌}
use Rattle.pp_cache.specs.Bounds.{IsBounded}
use Rattle.pp_law.specs.State.{State, Phase, Term, Deciding}
use Rattle.pp_proxy.specs.Moving.{Moving}
use Rattle.pp_proxy.specs.Rounds.{Serves}
use Rattle.pp_proxy.specs.Settling.{GoesOn, Settles}
use Rattle.pp_rounds_law.proofs.Astray.{all_stay, closings_stay, well_before}
use Rattle.pp_rounds_law.proofs.Coming.{affords_then, comes_then, brief_as, brief_front, brief_then}
use Rattle.pp_rounds_law.proofs.Decided.{decides_round}
use Rattle.pp_rounds_law.specs.Astray.{IsAstray}
use Rattle.pp_rounds_law.specs.Coming.{Affords, ComesTo, IsBrief}
use Rattle.pp_rounds_law.specs.InRounds.{AreDecided, phase_behind}
use Rattle.pp_rounds_law.specs.Supplies.{RoundSupplies}
use Rattle.pp_rounds_law.specs.Decisions.{Passes}
use Rattle.pp_state.specs.declared.state.State.{State as Turn}
use Rattle.pp_store.specs.Kept.{KeptMap}
use Rattle.pp_world.specs.Log.{Log}
use Rattle.pp_rounds_law.proofs.Serves.{serves_lead, serves_stay}
use Rattle.pp_rounds_law.proofs.Unturned.{DecidesAlone, alone}
use Rattle.pp_rounds_law.specs.Serves.{EndSupplies, HasServedWith}
use Rattle.pp_rounds_law.specs.Settles.{MaySettle, SettlesLead}

deciding_still : (any : Bool) (p : Phase) → p ≡ Deciding → phase_behind any p ≡ Deciding
deciding_still true p is = refl
deciding_still false p is = is

goes_on_stays : (stopped : Bool) (shelf : KeptMap) (x y : Moving) (log : Log) → GoesOn stopped shelf x log y → IsAstray x → IsAstray y
goes_on_stays true shelf x y log closes is = closings_stay x y log closes is
goes_on_stays false shelf x y log served is = serves_stay shelf x y log served is

-- whether this life went astray is as it was, or it did
pub settles_stay : (shelf : KeptMap) (x y : Moving) (log : Log) → Settles shelf x log y → IsAstray x → IsAstray y
settles_stay shelf x y log settles is =
    goes_on_stays settles.between.desk.state.is_stopped shelf settles.between y settles.rest settles.goes (all_stay shelf x settles.between settles.first settles.any settles.decides is)

module _ (terms : List Term) (most : ℕ) (before : Log) (shelf : KeptMap) (I : Turn → State → Type 0) (x y : Moving) (log : Log) (s : State) (supplies : RoundSupplies terms most shelf I) (ends : EndSupplies terms most shelf I) (may : MaySettle terms before shelf I x log s) (brief : IsBrief most (before ++ log))
    (settles : Settles shelf x log y) (bounded : IsBounded y.desk.state.cache) (well : y.desk.state.is_astray ≡ false) where
  decides : DecidesAlone shelf x settles.first settles.between
  decides = alone shelf x settles.between settles.first settles.any may.stands.amid.away settles.decides

  affords : Affords s (settles.first ++ settles.rest)
  affords = subst (λ (hs : Log). Affords s hs) settles.log_is may.affords

  brief_all : IsBrief most (before ++ (settles.first ++ settles.rest))
  brief_all = brief_as most before log (settles.first ++ settles.rest) settles.log_is brief

  well_between : settles.between.desk.state.is_astray ≡ false
  well_between = well_before settles.between.desk.state.is_astray y.desk.state.is_astray (goes_on_stays settles.between.desk.state.is_stopped shelf settles.between y settles.rest settles.goes) well

  decided : AreDecided terms before shelf I settles.between settles.first decides.any s
  decided = decides_round terms most shelf I supplies 65536 before x settles.between settles.first decides.any s may.obeys (brief_front most before settles.first settles.rest brief_all) may.stands may.holds decides.decides well_between

  going : settles.between.desk.state.is_stopped ≡ false
  going = decided.stands.amid.turn.stopped ∙ decided.stands.amid.going

  goes : Serves shelf settles.between settles.rest y
  goes = subst (λ (b : Bool). GoesOn b shelf settles.between settles.rest y) going settles.goes

  behind : HasServedWith terms (before ++ settles.first) shelf I y settles.rest decided.then
  behind =
      serves_lead terms most (before ++ settles.first) shelf I settles.between y settles.rest decided.then supplies ends
      (record {
        obeys = decided.comes.obeys;
        affords = affords_then terms before settles.first settles.rest s decided.then decided.comes affords;
        stands = decided.stands;
        holds = decided.holds;
        at = decided.phase ∙ deciding_still decides.any s.phase may.at;
        none = decided.none;
      })
      (brief_then most before settles.first settles.rest brief_all) goes bounded well

  settled_so : HasServedWith terms before shelf I y log s
  settled_so = record {
    served = record {
      then = behind.served.then;
      comes = subst (λ (hs : Log). ComesTo terms before hs s behind.served.then) (sym settles.log_is) (comes_then terms before settles.first settles.rest s decided.then behind.served.then decided.comes behind.served.comes);
      number = behind.served.number;
      ended = behind.served.ended;
      set = behind.served.set;
    };
    last = behind.last;
    stands = behind.stands;
    at = behind.at;
    holds = behind.holds;
    begins = behind.begins;
  }

-- whatever holds from one step to the next
pub settles_lead : (terms : List Term) (most : ℕ) (before : Log) (shelf : KeptMap) (I : Turn → State → Type 0) (x y : Moving) (log : Log) (s : State) → RoundSupplies terms most shelf I → EndSupplies terms most shelf I → MaySettle terms before shelf I x log s → IsBrief most (before ++ log) → Settles shelf x log y → IsBounded y.desk.state.cache
    → y.desk.state.is_astray ≡ false → HasServedWith terms before shelf I y log s
settles_lead terms most before shelf I x y log s supplies ends may brief settles bounded well = settled_so terms most before shelf I x y log s supplies ends may brief settles bounded well

pub settled : SettlesLead
settled terms most before shelf test x y log s supplies ends may brief settles bounded well = settles_lead terms most before shelf (Passes test) x y log s supplies ends may brief settles bounded well
