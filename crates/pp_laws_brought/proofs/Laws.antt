-- The law: no more comes than is still to come, which is 2^30 bytes at most.
use Rattle.std.proofs.Common.{refl, ℕ, ◌/◌, ◌≤◌, ◌<◌, ◌^◌, false, List, [], None, sym, subst, div-le_self, arith}
use Rattle.std.proofs.lemmas.List.{append-nil}
use Rattle.pp_world.specs.Log.{Log}
use Rattle.pp_law.specs.Lawful.{Lawful}
use Rattle.pp_law.specs.State.{State, Term}
use Rattle.pp_laws.specs.Runs.{state_after}
use Rattle.pp_laws.proofs.Happenings.{after-sound}
use Rattle.pp_laws.proofs.Laws.{start-sound}
use Rattle.pp_laws.proofs.Sound.{Since, Sound}
use Rattle.pp_laws_pool.proofs.Along.{Steps, along}
use Rattle.pp_laws_turn.proofs.Lifts.{obeying}
use Rattle.pp_obeys.specs.Obeys.{Obeys}
use Rattle.pp_laws_brought.specs.Brought.{BoundsAreInOrder, DataFit, DataStayWithin}
use Rattle.pp_laws_brought.proofs.Fits.{added_fits}
use Rattle.pp_laws_brought.proofs.Happenings.{changed-keeps}
use Rattle.pp_laws_brought.proofs.Turns.{next-keeps, next-sound}
use Rattle.pp_laws_brought.proofs.View.{Holds, facts_of, holds, lines_of, plain}

-- ---- along a log, and some phases on

abbrev since : Since
since = record { old = []; counts_loads = false; excepts = None }

abbrev Both : State → Type 0
Both s = Sound since s × Holds None s

both_steps : Steps Both
both_steps terms front h one now = (after-sound (state_after terms front) h refl (λ counts. absurd (cc counts)) one.permitted now.0, changed-keeps (state_after terms front) h refl now.0 now.1)

both_at : (terms : List Term) (log : Log) → Lawful terms log → Both (state_after terms log)
both_at terms log lawful =
    along Both (λ ts. (start-sound since ts refl, holds (plain [] [] (λ k e a b i j l is bound. absurd i) (λ e b i bound. absurd i)))) both_steps terms log [] (subst (λ (l : Log). Lawful terms l) (sym (append-nil log)) lawful)

both_on : (terms : List Term) (s : State) (log : Log) → Obeys terms s log → Both s
both_on terms s log obeys = obeying Both (λ t done h. (next-sound t h.0, next-keeps t h.0 h.1)) terms s log obeys (both_at terms log obeys.lawful)

pub brought_on : (terms : List Term) (s : State) (log : Log) → Obeys terms s log → Holds None s
brought_on terms s log obeys = (both_on terms s log obeys).1

-- ---- all

near_by : (next to : ℕ) → next ≤ to → to ≤ 2 ^ 30 → next / 4096 < 2 ^ 32
near_by next to order short = let less : next / 4096 ≤ next = div-le_self next 4096 in omega (arith, less)

pub bounds_in_order : BoundsAreInOrder
bounds_in_order terms s log obeys e b i bound = let w = (facts_of (brought_on terms s log obeys)).within e b i bound in record { order = w.order; short = w.short; near = near_by b.next b.to w.order w.short }

pub data_fit : DataFit
data_fit terms s log obeys k e a b i j l is bound bytes = added_fits a b.next b.to bytes (lines_of s.conns s.exchanges (facts_of (brought_on terms s log obeys)) k e a b i j l is bound)

pub data_stay : DataStayWithin
data_stay terms s log obeys k e a b v i j l is bound told = (lines_of s.conns s.exchanges (facts_of (brought_on terms s log obeys)) k e a b i j l is bound).ends v told
