-- The laws: numbers are distinct, what was sent is never forgotten, and what is held was sent.
use Rattle.std.proofs.Common.{◌≡◌, refl, Bool, true, false, List, [], ◌∷◌, ◌++◌, None, sym, subst}
use Rattle.pp_world.specs.Log.{Log}
use Rattle.pp_world.specs.declared.happening.Happening.TheVariants.{Said}
use Rattle.pp_law.proofs.Prefixes.{front_from}
use Rattle.pp_law.specs.After.{after}
use Rattle.pp_law.specs.Lawful.{LawfulFrom, Lawful}
use Rattle.pp_law.specs.State.{State, Term, start}
use Rattle.pp_laws.specs.Numbers.{NumbersAreDistinct}
use Rattle.pp_laws.specs.Origin.{IsBackPart, SentOnlyGrows, LoadsWhatWasSent, HeldWasSent, SaidWasSent}
use Rattle.pp_laws.specs.Runs.{after_all, state_after}
use Rattle.pp_laws.proofs.Happenings.{after_all-sound}
use Rattle.pp_laws.proofs.Said.{says}
use Rattle.pp_laws.proofs.Sound.{Since, Sound, facts_of, sound}

after_all-append : (s : State) (front rest : Log) → after_all s (front ++ rest) ≡ after_all (after_all s front) rest
after_all-append s [] rest = refl
after_all-append s (h ∷ front) rest = after_all-append (after s h) front rest

back_from : (s : State) (front rest : Log) → LawfulFrom s (front ++ rest) → LawfulFrom (after_all s front) rest
back_from s [] rest lawful = lawful
back_from s (h ∷ front) rest lawful = back_from (after s h) front rest lawful.1

pub start-sound : (b : Since) (terms : List Term) → b.old ≡ [] → Sound b (start terms)
start-sound b terms none = sound (record {
  grew = ([], sym none);
  lines = record { rise = tt; given = λ k i. absurd i; asked = λ k n i l. absurd i };
  asks = record {
    rise = tt;
    given = λ e i. absurd i;
    bounds = λ e to i is. absurd i;
    noted = λ e to i is. absurd i;
    unplaced = λ e i is. absurd i;
    unheaded = λ e i is. absurd i;
  };
  rows = record { differ = tt; given = λ x i. absurd i; own_keys = λ key x y i. absurd i; chunks_given = λ c i. absurd i };
  placed = λ k e i j l. absurd i;
  brings = λ k e to i j l is but. absurd i;
  keyed = λ e to x i is j id. absurd i;
  callers = record { rise = tt; given = λ c i. absurd i; follows = λ c id i is. absurd i };
  held = λ counts x i. absurd i;
})

from_start : Bool → Since
from_start counts = record { old = []; counts_loads = counts; excepts = None }

-- whatever is loaded
whole_sound : (terms : List Term) (log : Log) → Lawful terms log → Sound (from_start false) (state_after terms log)
unfolding from_start
whole_sound terms log lawful = after_all-sound (start terms) log refl (λ counts. absurd (cc counts)) lawful (start-sound (from_start false) terms refl)

-- what is sound since the start is sound since now
since_now : (s : State) → Sound (from_start false) s → Sound (record { old = s.sent; counts_loads = false; excepts = None }) s
unfolding from_start
since_now s h = let f = facts_of h in sound (record { grew = ([], refl); lines = f.lines; asks = f.asks; rows = f.rows; placed = f.placed; brings = f.brings; keyed = f.keyed; callers = f.callers; held = f.held })

pub sent_grows : SentOnlyGrows
sent_grows terms front rest lawful =
    let s = state_after terms front in
    let here : Sound (from_start false) s = whole_sound terms front (front_from (start terms) front rest lawful) in
    let there : Sound (record { old = s.sent; counts_loads = false; excepts = None }) (after_all s rest) =
    after_all-sound s rest refl (λ counts. absurd (cc counts)) (back_from (start terms) front rest lawful) (since_now s here) in
    subst (λ (t : State). IsBackPart s.sent t.sent) (sym (after_all-append (start terms) front rest)) (facts_of there).grew

pub own_numbers : NumbersAreDistinct
own_numbers terms log lawful =
    let f = facts_of (whole_sound terms log lawful) in
    record {
      clients_rise = f.callers.rise;
      clients_given = f.callers.given;
      conns_rise = f.lines.rise;
      conns_given = f.lines.given;
      exchanges_rise = f.asks.rise;
      exchanges_given = f.asks.given;
      instances_differ = f.rows.differ;
      instances_given = f.rows.given;
      chunks_given = f.rows.chunks_given;
      bounds_given = λ e b i is. f.asks.bounds e b i is;
    }

-- where what is loaded was sent
loaded_sound : (terms : List Term) (log : Log) → Lawful terms log → LoadsWhatWasSent (start terms) log → Sound (from_start true) (state_after terms log)
unfolding from_start
loaded_sound terms log lawful loads = after_all-sound (start terms) log refl (λ counts. loads) lawful (start-sound (from_start true) terms refl)

pub held_was_sent : HeldWasSent
unfolding from_start
held_was_sent terms log lawful loads x c i j is = (facts_of (loaded_sound terms log lawful loads)).held refl x i c j is

pub said_was_sent : SaidWasSent
unfolding from_start
said_was_sent terms log n offered bytes lawful loads =
    says (state_after terms log) n offered bytes refl (facts_of (loaded_sound terms log (front_from (start terms) log (Said n offered bytes ∷ []) lawful) loads)) (back_from (start terms) log (Said n offered bytes ∷ []) lawful).0
