-- One round, step by step.
use Rattle.std.proofs.Common.{◌≡◌, sym, subst, ap, ◌∙◌, Bool, false, ◌||◌, List, [], ◌++◌, append_assoc, ℕ, Option, None}
use Rattle.std.specs.Prelude.{is_some}
use Rattle.pp_deciding_law.specs.Stands.{IsDeciding}
use Rattle.pp_desk.specs.declared.desk.Desk.{Desk}
use Rattle.pp_law.specs.Due.{first_due}
use Rattle.pp_law.specs.Opening.{is_same_phase}
use Rattle.pp_law.specs.Phases.{has_closings}
use Rattle.pp_law.specs.State.{State, Phase, Term, Deciding, DecidingAgain}
use Rattle.pp_links.specs.Links.{Link}
use Rattle.pp_obeys.specs.Obeys.{Obeys}
use Rattle.pp_places.specs.Around.{around, moment_of}
use Rattle.pp_proxy.specs.Deciding.{Decides, DecidesAll, turned_links, turned_log}
use Rattle.pp_proxy.specs.Moving.{Moving, moving, with_desk}
use Rattle.pp_proxy.specs.Rounds.{GoesRound}
use Rattle.pp_rounds_law.specs.Decisions.{Passes}
use Rattle.pp_state.specs.declared.state.State.{State as Turn}
use Rattle.pp_store.specs.Kept.{KeptMap}
use Rattle.pp_world.specs.Log.{Log}
use Rattle.pp_rounds_law.proofs.Astray.{all_stay, closings_stay, places_stay, well_before}
use Rattle.pp_rounds_law.proofs.Closing.{has_closed}
use Rattle.pp_rounds_law.proofs.Coming.{affords_front, affords_then, comes_then, brief_as, brief_before, brief_front, brief_then}
use Rattle.pp_rounds_law.proofs.Decided.{decides_round}
use Rattle.pp_rounds_law.proofs.Following.{has_followed}
use Rattle.pp_rounds_law.proofs.Placing.{places_end}
use Rattle.pp_rounds_law.specs.Coming.{Affords, ComesTo, IsBrief}
use Rattle.pp_rounds_law.specs.InRounds.{AreDecided, phase_behind}
use Rattle.pp_rounds_law.specs.Rounds.{EndsRound, RoundsEnd, RoundsLead}
use Rattle.pp_rounds_law.specs.Stands.{StandsInRound}
use Rattle.pp_rounds_law.specs.Steps.{HasClosed, HasFollowed, HavePlacesNow}
use Rattle.pp_rounds_law.specs.Supplies.{RoundSupplies, followed}

-- ---- nobody is turned away

record IsTurned (shelf : KeptMap) (x : Moving) (log : Log) (y : Moving) (any : Bool) : Type 0 where
  decides : Decides 65536 shelf x log y any

turned_none : (shelf : KeptMap) (x : Moving) (log : Log) (y : Moving) (any : Bool) → x.desk.turned_away ≡ None → DecidesAll shelf x log y any → IsTurned shelf x log y any
turned_none shelf x log y any away all =
    let first : all.first ≡ [] = all.turned.log_is ∙ ap (λ (o : Option ℕ). turned_log o x.links) away in
    let desk : all.between.desk ≡ x.desk = all.turned.desk ∙ ap (λ (o : Option ℕ). record x.desk { turned_away = o }) (sym away) in
    let links : all.between.links ≡ x.links = all.turned.links ∙ ap (λ (o : Option ℕ). turned_links o x.links) away in
    let between : all.between ≡ x = ap (λ (d : Desk). moving d all.between.links all.between.top) desk ∙ ap (λ (ls : List Link). moving x.desk ls all.between.top) links ∙ ap (λ (n : ℕ). moving x.desk x.links n) all.turned.top in
    let log_is : log ≡ all.rest = all.log_is ∙ ap (λ (hs : Log). hs ++ all.rest) first in
    let any_is : any ≡ all.later = all.any_is ∙ ap (λ (o : Option ℕ). is_some o || all.later) away in
    record {
      decides =
          subst (λ (b : Bool). Decides 65536 shelf x log y b) (sym any_is)
          (subst (λ (hs : Log). Decides 65536 shelf x hs y all.later) (sym log_is) (subst (λ (z : Moving). Decides 65536 shelf z all.rest y all.later) between all.decides));
    }

-- ---- all of it

module _ (terms : List Term) (most : ℕ) (before : Log) (shelf : KeptMap) (I : Turn → State → Type 0) (x y : Moving) (log : Log) (any : Bool) (s : State) (supplies : RoundSupplies terms most shelf I) (obeys : Obeys terms s before) (brief : IsBrief most (before ++ log)) (affords : Affords s log) (stands : StandsInRound shelf x s) (holds : I x.desk.state s)
    (at : s.phase ≡ Deciding) (none : first_due s ≡ None) (round : GoesRound shelf x log y any) (well : y.desk.state.is_astray ≡ false) where
  abbrev number : ℕ → ℕ
  number = stands.number

  abbrev asked : Moving
  asked = with_desk round.asked x

  -- each step left this life as it was, since none behind it brings it back
  placed_well : round.placed.desk.state.is_astray ≡ false
  placed_well = well_before round.placed.desk.state.is_astray y.desk.state.is_astray (all_stay shelf round.placed y round.deciding any round.decides) well

  closed_well : round.closed.desk.state.is_astray ≡ false
  closed_well =
      well_before round.closed.desk.state.is_astray round.placed.desk.state.is_astray
      (places_stay 65536 (moment_of round.closed.desk.state) None (around round.closed.desk round.closed.links round.closed.top) (around round.placed.desk round.placed.links round.placed.top) round.placing round.places.is) placed_well

  asked_well : round.asked.state.is_astray ≡ false
  asked_well = well_before round.asked.state.is_astray round.closed.desk.state.is_astray (closings_stay asked round.closed round.closing round.closes) closed_well

  log_is : log ≡ round.closing ++ (round.placing ++ round.deciding)
  log_is = round.log_is ∙ append_assoc round.closing round.placing round.deciding

  brief_all : IsBrief most ((before ++ []) ++ (round.closing ++ (round.placing ++ round.deciding)))
  brief_all = brief_then most before [] (round.closing ++ (round.placing ++ round.deciding)) (brief_as most before log (round.closing ++ (round.placing ++ round.deciding)) log_is brief)

  silent : HasFollowed terms before number shelf I asked s
  silent = has_followed terms most before number shelf I x round.seen round.given round.asked s supplies obeys (brief_before most before log brief) stands.amid holds at none round.drops round.gives round.fills asked_well

  closed : HasClosed terms (before ++ []) number shelf I round.closed round.closing (followed s)
  closed = has_closed terms most (before ++ []) number shelf I asked round.closed round.closing (followed s) supplies silent.comes.obeys (brief_front most (before ++ []) round.closing (round.placing ++ round.deciding) brief_all) silent.amid silent.holds silent.phase round.closes closed_well

  abbrev behind_closings : Log
  behind_closings = (before ++ []) ++ round.closing

  -- behind the closings
  brief_places : IsBrief most (behind_closings ++ (round.placing ++ round.deciding))
  brief_places = brief_then most (before ++ []) round.closing (round.placing ++ round.deciding) brief_all

  afford_all : Affords (followed s) (round.closing ++ (round.placing ++ round.deciding))
  afford_all = affords_then terms before [] (round.closing ++ (round.placing ++ round.deciding)) s (followed s) silent.comes (subst (λ (hs : Log). Affords s hs) log_is affords)

  afford_places : Affords closed.then round.placing
  afford_places = affords_front closed.then round.placing round.deciding (affords_then terms (before ++ []) round.closing (round.placing ++ round.deciding) (followed s) closed.then closed.comes afford_all)

  deciding_at : (t : State) → t.phase ≡ DecidingAgain → t.made_room_for ≡ None → IsDeciding t
  deciding_at t is room = record { at = ap (λ (f : Phase). is_same_phase Deciding f || is_same_phase DecidingAgain f) is; none = room }

  have : HavePlacesNow terms behind_closings number shelf I round.placed round.placing closed.then
  have =
      places_end terms most behind_closings number shelf I round.closed round.placed round.placing closed.then supplies closed.comes.obeys (brief_front most behind_closings round.placing round.deciding brief_places) closed.amid closed.holds afford_places closed.phase closed.closed round.places placed_well

  stands_again : StandsInRound shelf round.placed have.then
  stands_again = record {
    number = number;
    amid = have.amid;
    deciding = deciding_at have.then have.phase have.amid.none;
    disk = supplies.keeps (behind_closings ++ round.placing) number round.placed have.then have.comes.obeys (brief_front most behind_closings round.placing round.deciding brief_places) have.amid have.holds;
  }

  decided : AreDecided terms (behind_closings ++ round.placing) shelf I y round.deciding any have.then
  decided =
      decides_round terms most shelf I supplies 65536 (behind_closings ++ round.placing) round.placed y round.deciding any have.then have.comes.obeys (brief_then most behind_closings round.placing round.deciding brief_places) stands_again have.holds
      (turned_none shelf round.placed round.deciding y any have.amid.away round.decides).decides well

  comes : ComesTo terms before log s decided.then
  comes =
      subst (λ (hs : Log). ComesTo terms before hs s decided.then) (sym log_is)
      (comes_then terms before [] (round.closing ++ (round.placing ++ round.deciding)) s (followed s) decided.then silent.comes
      (comes_then terms (before ++ []) round.closing (round.placing ++ round.deciding) (followed s) closed.then decided.then closed.comes
      (comes_then terms behind_closings round.placing round.deciding closed.then have.then decided.then have.comes decided.comes)))

  pub goes_round : EndsRound terms before shelf I y log any s
  goes_round = record {
    gone = record { then = decided.then; comes = comes; stands = decided.stands; holds = decided.holds; phase = decided.phase ∙ ap (λ (p : Phase). phase_behind any p) have.phase; none = decided.none };
    closed = λ none_more. subst (λ (t : State). has_closings t ≡ false) (sym (decided.unless none_more)) have.closed;
  }

-- whatever holds from one step to the next
pub rounds_lead : (terms : List Term) (most : ℕ) (before : Log) (shelf : KeptMap) (I : Turn → State → Type 0) (x y : Moving) (log : Log) (any : Bool) (s : State) → RoundSupplies terms most shelf I → Obeys terms s before → IsBrief most (before ++ log) → Affords s log → StandsInRound shelf x s → I x.desk.state s → s.phase ≡ Deciding → first_due s ≡ None
    → GoesRound shelf x log y any → y.desk.state.is_astray ≡ false → EndsRound terms before shelf I y log any s
rounds_lead terms most before shelf I x y log any s supplies obeys brief affords stands holds at none round well = goes_round terms most before shelf I x y log any s supplies obeys brief affords stands holds at none round well

pub rounds_end : RoundsEnd
rounds_end terms most before shelf test x y log any s supplies obeys brief affords stands holds at none round well = rounds_lead terms most before shelf (Passes test) x y log any s supplies obeys brief affords stands holds at none round well

pub rounds : RoundsLead
rounds terms most before shelf test x y log any s supplies obeys brief affords stands holds at none round well = (rounds_end terms most before shelf test x y log any s supplies obeys brief affords stands holds at none round well).gone
