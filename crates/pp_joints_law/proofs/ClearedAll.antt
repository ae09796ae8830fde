-- The happenings of an event in which no bytes come of an origin, and nothing from the disk: rows are cleared as attempts are lost.
use Rattle.std.proofs.Common.{◌≡◌, subst, Bool, true, false, length, [], ◌∷◌}
use Rattle.std.specs.List.{list_all}
use Rattle.pp_law.specs.After.{after, changed}
use Rattle.pp_law.specs.State.{State, ReadOf, WriteTo}
use Rattle.pp_laws.proofs.Tests.{first_holds, second_holds}
use Rattle.pp_obeys.specs.Moves.{Leads}
use Rattle.pp_joints_law.proofs.ClearedLaw.{Clears, clears, clears_none, facts_of}
use Rattle.pp_joints_law.proofs.ClearedSteps.{ask-clears, event-clears, gone-clears, hang_up-clears, hear-clears, opened-clears, owing-clears, paid-clears, reached-clears, said-clears, tick-clears}
use Rattle.pp_world.specs.Log.{Log}
use Rattle.pp_world.specs.declared.happening.Happening.{Happening}
use Rattle.pp_world.specs.declared.happening.Happening.TheVariants.{Clock, Opened, CanRead, CanWrite, Heard, HungUp, Said, Reached, Broke, Ended, Asked, NoneYet, Stopped}

-- no bytes come of an origin, and nothing from the disk
abbrev pub brings_none : Happening → Bool
brings_none Stopped = true
brings_none (Clock seconds) = true
brings_none (Opened n) = true
brings_none (Reached k) = true
brings_none (Broke k) = true
brings_none (Ended k) = true
brings_none (CanRead n) = true
brings_none (CanWrite n) = true
brings_none (Heard c bytes) = true
brings_none (HungUp c) = true
brings_none (Said c offered bytes) = true
brings_none (Asked k bytes) = true
brings_none (NoneYet n) = true
brings_none h = false

abbrev pub BringNone : Log → Type 0
BringNone hs = list_all brings_none hs ≡ true

one_clears : {o : State} (s : State) (h : Happening) → brings_none h ≡ true → Clears o s → Clears o (after s h)
unfolding changed
one_clears s Stopped is h = event-clears _ (clears (facts_of h))
one_clears s (Clock seconds) is h = event-clears _ (tick-clears seconds s h)
one_clears s (Opened n) is h = event-clears _ (opened-clears n s h)
one_clears s (Reached k) is h = event-clears _ (reached-clears k s h)
one_clears s (Broke k) is h = paid-clears _ (gone-clears false k _ (event-clears s h))
one_clears s (Ended k) is h = paid-clears _ (gone-clears true k s h)
one_clears s (CanRead n) is h = event-clears _ (owing-clears (ReadOf n) n s h)
one_clears s (CanWrite n) is h = event-clears _ (owing-clears (WriteTo n) n s h)
one_clears s (Heard c bytes) is h = paid-clears _ (hear-clears c bytes s h)
one_clears s (HungUp c) is h = paid-clears _ (hang_up-clears c s h)
one_clears s (Said c offered bytes) is h = paid-clears _ (said-clears c (length bytes) s h)
one_clears s (Asked k bytes) is h = paid-clears _ (ask-clears k (length bytes) s h)
one_clears s (NoneYet n) is h = paid-clears s h
one_clears s other is h = absurd (cc is)

all_clear : {o : State} (hs : Log) (s t : State) → BringNone hs → Leads hs s t → Clears o s → Clears o t
all_clear {o} [] s t none leads h = subst (λ (u : State). Clears o u) leads h
all_clear (g ∷ hs) s t none leads h = all_clear hs (after s g) t (second_holds (brings_none g) _ none) leads.holds (one_clears s g (first_holds (brings_none g) _ none) h)

pub event_clears : (hs : Log) (s t : State) → BringNone hs → Leads hs s t → Clears s t
event_clears hs s t none leads = all_clear hs s t none leads (clears_none s)
