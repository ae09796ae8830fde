-- One round, by what its steps say.
use Rattle.std.proofs.Common.{◌≡◌, ◌≤◌, ap, refl, ℕ, Bool, ◌++◌, Option, None}
use Rattle.pp_desk.specs.Closings.{KeepsDesk, sides}
use Rattle.pp_desk.specs.Origins.{without_unseen}
use Rattle.pp_desk.specs.Shutting.{all_over, closings}
use Rattle.pp_desk.specs.declared.desk.Desk.{Desk}
use Rattle.pp_flow.specs.Changes.{numbers as flow_numbers}
use Rattle.pp_links.proofs.FailureLemmas.{counted_none, counted_then}
use Rattle.pp_places.proofs.PlacingLemmas.{told_then}
use Rattle.pp_places.specs.Around.{around, moment_of}
use Rattle.pp_places.specs.Placing.{ArePlaced}
use Rattle.pp_proxy.proofs.LeadingLemmas.{closings_fail}
use Rattle.pp_proxy.specs.Closing.{ClosesOver}
use Rattle.pp_proxy.specs.Deciding.{DecidesAll}
use Rattle.pp_proxy.specs.Moving.{LeadsOn, Moving, with_desk}
use Rattle.pp_proxy.specs.Rounds.{Becomes, Fills, GivesUp, GoesRound, Places}
use Rattle.pp_state.specs.Ends.{AreInOrder, KeepsRest, Parts, numbers_of, parts}
use Rattle.pp_state.specs.declared.state.State.{State}
use Rattle.pp_store.specs.Kept.{KeptMap}
use Rattle.pp_take.specs.Filling.{filled}
use Rattle.pp_take.specs.GivingUp.{all_given_up}
use Rattle.pp_world.specs.Log.{AppendsAll, Log}

-- ---- of the state alone: the connections stay

keeps_desk : (d : Desk) (s : State) → KeepsRest d.state s → KeepsDesk d (record d { state = s })
keeps_desk d s rest = ap (λ (t : State). record d { state = t }) rest

pub given_up : (d : Desk) (s : State) → (AreInOrder (flow_numbers d.state.flow.waiting) → parts s ≡ all_given_up (flow_numbers d.state.flow.waiting) (parts d.state)) → numbers_of s.seats.items ≡ numbers_of d.state.seats.items
    → s.is_astray ≡ d.state.is_astray → KeepsRest d.state s → GivesUp d (record d { state = s })
given_up d s is numbers astray rest = record { is = λ rises. ap (λ (p : Parts). record (sides d) { parts = p }) (is rises); numbers = numbers; astray = astray; rest = keeps_desk d s rest }

pub all_filled : (d : Desk) (s : State) → parts s ≡ filled d.state.is_stopped d.state.name.items d.state.awake.items (parts d.state) → numbers_of s.seats.items ≡ numbers_of d.state.seats.items → KeepsRest d.state s
    → Fills d (record d { state = s })
all_filled d s is numbers rest = record { is = ap (λ (p : Parts). record (sides d) { parts = p }) is; numbers = numbers; rest = keeps_desk d s rest }

-- ---- closings and places

pub closes_on : (x y : Moving) (old new : Option Log) (before now : ℕ) → ClosesOver x (closings (all_over x.desk) x.links) y → AppendsAll old new (λ l. closings (all_over x.desk) x.links) → before ≤ now → LeadsOn ClosesOver x y old new before now
closes_on x y old new before now is told more =
    record { added = closings (all_over x.desk) x.links; is = is; told = told; counted = counted_none (closings (all_over x.desk) x.links) (closings_fail (all_over x.desk) x.links) more }

pub places_on : (x y : Moving) (old new : Option Log) (before now : ℕ) → LeadsOn (ArePlaced 65536 (moment_of x.desk.state) None) (around x.desk x.links x.top) (around y.desk y.links y.top) old new before now
    → numbers_of y.desk.state.seats.items ≡ numbers_of x.desk.state.seats.items → KeepsDesk x.desk y.desk → LeadsOn Places x y old new before now
places_on x y old new before now led numbers rest = record { added = led.added; is = record { is = led.is; numbers = numbers; rest = rest }; told = led.told; counted = led.counted }

-- ---- all six

pub gone_round : (shelf : KeptMap) (x : Moving) (seen given asked : Desk) (closed placed y : Moving) (any : Bool) (old shut log new : Option Log) (before between later now : ℕ) → Becomes without_unseen x.desk seen → GivesUp seen given → Fills given asked
    → LeadsOn ClosesOver (with_desk asked x) closed old shut before between → LeadsOn Places closed placed shut log between later → LeadsOn (λ a l b. DecidesAll shelf a l b any) placed y log new later now
    → LeadsOn (λ a l b. GoesRound shelf a l b any) x y old new before now
gone_round shelf x seen given asked closed placed y any old shut log new before between later now drops gives fills closes places decides = record {
  added = closes.added ++ places.added ++ decides.added;
  is = record {
    seen = seen;
    given = given;
    asked = asked;
    closed = closed;
    placed = placed;
    closing = closes.added;
    placing = places.added;
    deciding = decides.added;
    log_is = refl;
    drops = drops;
    gives = gives;
    fills = fills;
    closes = closes.is;
    places = places.is;
    decides = decides.is;
  };
  told = told_then (closes.added ++ places.added) decides.added (told_then closes.added places.added closes.told places.told) decides.told;
  counted = counted_then before later now (closes.added ++ places.added) decides.added (counted_then before between later closes.added places.added closes.counted places.told places.counted) decides.told decides.counted;
}
