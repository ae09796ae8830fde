-- Each exchange without a place gets one, one behind the other, where dials may be refused as often as the outside may fail.
use Rattle.std.proofs.Common.{◌≡◌, ◌≤◌, ◌+◌, refl, subst, ℕ, suc, List, [], ◌++◌, Option, Some, None, arith, append_assoc}
use Rattle.std.specs.Prelude.{count_by}
use Rattle.pp_cache_law.proofs.PairLemmas.{count_joined}
use Rattle.pp_law.specs.State.{State, Term}
use Rattle.pp_obeys.proofs.Moving.{lead_joined}
use Rattle.pp_obeys.specs.Failures.{fails}
use Rattle.pp_obeys.specs.Obeys.{Obeys}
use Rattle.pp_places.specs.Around.{Around, Moment, moment_of}
use Rattle.pp_places.specs.Placing.{ArePlaced, IsPlaced, goes_on_behind, next_waiting, place_for}
use Rattle.pp_places_law.proofs.Loops.{run}
use Rattle.pp_places_law.proofs.Refused.{answers}
use Rattle.pp_places_law.specs.Around.{MayPlace, ShowsAround}
use Rattle.pp_places_law.specs.Places.{AreLed, Reaches}
use Rattle.pp_places_law.specs.Refusals.{MayBeRefused}
use Rattle.pp_rounds_law.proofs.Coming.{affords_front, affords_then, comes_by, enough_of, brief_as, brief_front, brief_then}
use Rattle.pp_rounds_law.specs.Coming.{Affords, ComesTo, IsBrief}
use Rattle.pp_state.specs.declared.state.State.{State as Turn}
use Rattle.pp_world.specs.Log.{Log}
use Rattle.pp_rounds_law.proofs.Dials.{all_refused}
use Rattle.pp_rounds_law.specs.Dials.{OfAffordedDials}
use Rattle.pp_rounds_law.specs.Led.{PlacesLead}

one_more : (steps : ℕ) (m : Moment) (after : Option ℕ) (n : ℕ) (x next y : Around) (one two : Log) → next_waiting after x.sides ≡ Some n → IsPlaced m n x one next → Reaches steps m (goes_on_behind (place_for m.limits n x.sides) n) next two y
    → Reaches (suc steps) m after x (one ++ two) y
unfolding Reaches
one_more steps m after n x next y one two waiting placed rest = (n, next, one, two, waiting, refl, placed, rest)

none_yet : (m : Moment) (after : Option ℕ) (x : Around) → Reaches 0 m after x [] x
unfolding Reaches
none_yet m after x = (refl, refl)

count_both : (one two : Log) → count_by fails (one ++ two) ≡ count_by fails one + count_by fails two
count_both one two = count_joined fails one two

-- what is left of the budget, before it
affords_all : (terms : List Term) (before one two : Log) (s t : State) → ComesTo terms before one s t → Affords t two → Affords s (one ++ two)
affords_all terms before one two s t comes affords =
    subst (λ (w : Term). s.failures + count_by fails (one ++ two) ≤ w.faults) comes.term
    (in_all s.failures (count_by fails one) (count_by fails two) (count_by fails (one ++ two)) t.failures t.term.faults comes.failures (count_both one two) affords)
  where
    in_all : (a b c d e f : ℕ) → e ≡ a + b → d ≡ b + c → e + c ≤ f → a + d ≤ f
    in_all a b c d e f one_is two_is less = omega (arith, one_is, two_is, less)

brief_all : (most : ℕ) (before one two : Log) → IsBrief most ((before ++ one) ++ two) → IsBrief most (before ++ (one ++ two))
brief_all most before one two brief = subst (λ (hs : Log). IsBrief most hs) (append_assoc before one two) brief

-- a log that obeys the law led there, the outside may fail so often still, and each dial may be refused
record Stands (terms : List Term) (most : ℕ) (number : ℕ → ℕ) (p : Turn) (after : Option ℕ) (x : Around) (log : Log) (s : State) : Type 0 where
  before : Log
  obeys : Obeys terms s before
  affords : Affords s log
  brief : IsBrief most (before ++ log)
  dials : OfAffordedDials (MayBeRefused p) most before number p after x s

-- whatever they rest on
pub dials_lead : (terms : List Term) (most : ℕ) (start : Log) (number : ℕ → ℕ) (p : Turn) (x : Around) (s : State) (more : ℕ) (log : Log) (y : Around) → Obeys terms s start → ShowsAround number p x s → MayPlace s → Affords s log → IsBrief most (start ++ log) → OfAffordedDials (MayBeRefused p) most start number p None x s → ArePlaced more (moment_of p) None x log y
    → AreLed number p log y s
dials_lead terms most start number p x s more log y obeys shows may affords brief dials steps =
    run number p (λ (after : Option ℕ) (z : Around) (hs : Log) (t : State). Stands terms most number p after z hs t)
    (record {
      front = λ after z one two hs t is so. record { before = so.before; obeys = so.obeys; affords = affords_front t one two (subst (λ (l : Log). Affords t l) is so.affords); brief = brief_front most so.before one two (brief_as most so.before hs (one ++ two) is so.brief); dials = so.dials };
      behind_it = λ after z next n one two hs t u waiting placed is leads so.
          (let all : Affords t (one ++ two) = subst (λ (l : Log). Affords t l) is so.affords in
          let comes : ComesTo terms so.before one t u = comes_by terms one so.before t u (enough_of t one (affords_front t one two all)) so.obeys leads in
          record {
            before = so.before ++ one;
            obeys = comes.obeys;
            affords = affords_then terms so.before one two t u comes all;
            brief = brief_then most so.before one two (brief_as most so.before hs (one ++ two) is so.brief);
            dials = λ count on v w e budget short reached led ok shown waits.
                so.dials (suc count) (one ++ on) v w e (affords_all terms so.before one on t u comes budget) (brief_all most so.before one on short) (one_more count (moment_of p) after n z next v one on waiting placed reached) (lead_joined one on t u w leads led) ok shown waits;
          });
      dials = λ after z t e hs w shown ok un waits so dial. answers number p z t shown ok e hs w un waits (so.dials 0 [] z t e (affords_front t [] hs so.affords) (brief_front most so.before [] hs so.brief) (none_yet (moment_of p) after z) refl ok shown waits) dial;
    })
    x s shows may more log y (record { before = start; obeys = obeys; affords = affords; brief = brief; dials = dials }) steps

pub places_lead : PlacesLead
places_lead terms most start number p x s more log y obeys stands may affords brief without steps =
    dials_lead terms most start number p x s more log y obeys stands.shows may affords brief (all_refused terms most start number p x s obeys stands without) steps
