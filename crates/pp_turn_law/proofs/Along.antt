-- A log goes on along what may come: to the state that it leads to, in which whatever is shown of that holds.
use Rattle.std.proofs.Common.{◌≡◌, ◌≤◌, refl, subst, ◌+◌, Bool, true, false, ◌&&◌, not, cond, List, [], ◌∷◌, ◌++◌, append-nil, arith}
use Rattle.std.specs.List.{list_all}
use Rattle.std.specs.Prelude.{count_by}
use Rattle.pp_cache_law.proofs.PairLemmas.{count_first}
use Rattle.pp_law.specs.After.{after}
use Rattle.pp_law.specs.Phases.{is_done, next}
use Rattle.pp_law.specs.State.{State, Term}
use Rattle.pp_obeys.specs.Failures.{fails}
use Rattle.pp_obeys.specs.Moves.{AreCalm, Leads, MovesAll}
use Rattle.pp_rounds_law.specs.Coming.{ComesTo}
use Rattle.pp_rounds_law.proofs.Coming.{comes_by, comes_silently, comes_then}
use Rattle.pp_world.specs.Log.{Log}

-- ---- where what may come leads

pub record LedTo (Q : State → Type 0) (hs : Log) (s : State) : Type 0 where
  pub then : State
  pub leads : Leads hs s then
  pub holds : Q then

pub led_to : (Q : State → Type 0) (hs : Log) (s : State) → MovesAll Q hs s → LedTo Q hs s
led_to Q [] s holds = record { then = s; leads = refl; holds = holds }
led_to Q (h ∷ hs) s moves =
    let rest : LedTo Q hs (after s h) = led_to Q hs (after s h) moves.holds in record { then = rest.then; leads = record { awake = moves.awake; may = moves.may; holds = rest.leads }; holds = rest.holds }

-- ---- how often the outside failed in it

-- in what is calm, never
pub calm_none : (hs : Log) → AreCalm hs → count_by fails hs ≡ 0
calm_none [] calm = refl
calm_none (h ∷ hs) calm = omega (arith, count_first fails h hs, by (calm_none hs) (fails h) calm)
  where
    by : (AreCalm hs → count_by fails hs ≡ 0) → (b : Bool) → (not b && list_all (λ x. not (fails x)) hs) ≡ true → cond b 1 0 + count_by fails hs ≡ 0
    by rest true off = absurd (cc off)
    by rest false on = let none : count_by fails hs ≡ 0 = rest on in omega (arith, none)

-- ---- a phase that is done, behind it and before it

pub then_done : (terms : List Term) (before hs : Log) (s t : State) → ComesTo terms before hs s t → is_done t ≡ true → ComesTo terms before hs s (next t)
then_done terms before hs s t comes done =
    subst (λ (log : Log). ComesTo terms before log s (next t)) (append-nil hs) (comes_then terms before hs [] s t (next t) comes (comes_silently terms (before ++ hs) t comes.obeys done))

pub then_more : (terms : List Term) (before hs more : Log) (s t u : State) → ComesTo terms before hs s t → (1 ≤ count_by fails more → t.failures + count_by fails more ≤ t.term.faults) → Leads more t u → ComesTo terms before (hs ++ more) s u
then_more terms before hs more s t u comes enough leads = comes_then terms before hs more s t u comes (comes_by terms more (before ++ hs) t u enough comes.obeys leads)
