-- Where what is due is taken, nobody falls asleep.
use Rattle.std.proofs.Common.{◌≡◌, ap, ◌∙◌, ℕ, zero, suc, Bool, true, false, [], ◌++◌, Option, Some, None}
use Rattle.pp_desk.specs.Closings.{KeepsDesk}
use Rattle.pp_desk.specs.declared.desk.Desk.{Desk}
use Rattle.pp_proxy.proofs.FoundLemmas.{Stays, found_stays}
use Rattle.pp_proxy.specs.Deciding.{Decides, DecidesAll, TakesOne}
use Rattle.pp_proxy.specs.Moving.{Moving, with_state}
use Rattle.pp_seats.specs.declared.due.Due.{Due}
use Rattle.pp_state.specs.Ends.{numbers_of}
use Rattle.pp_state.specs.declared.state.State.{State}
use Rattle.pp_store.specs.Kept.{KeptMap}
use Rattle.pp_waits_law.proofs.Awake.{Goes, goes, goes_then}
use Rattle.pp_world.specs.Log.{Log}

-- a desk of which what the steps change is another
pub goes_on : (old new : Desk) → numbers_of new.state.seats.items ≡ numbers_of old.state.seats.items → KeepsDesk old new → Goes old.state new.state
goes_on old new same keeps = goes old.state new.state same (ap (λ (d : Desk). d.state.awake) keeps)

-- or none
pub goes_so : (x y : Moving) (s : State) → y ≡ with_state s x → s.seats ≡ x.desk.state.seats → s.awake ≡ x.desk.state.awake → Goes x.desk.state y.desk.state
goes_so x y s is seats awake =
    goes x.desk.state y.desk.state (ap (λ (m : Moving). numbers_of m.desk.state.seats.items) is ∙ ap (λ v. numbers_of v.items) seats) (ap (λ (m : Moving). m.desk.state.awake) is ∙ awake)

pub found_goes : (old new : State) → Stays old new → Goes old new
found_goes old new found = goes old new found.numbers (ap (λ (s : State). s.awake) found.rest)

-- ---- one behind the other

decides_goes : (more : ℕ) (shelf : KeptMap) (x : Moving) (log : Log) (y : Moving) (any : Bool) → Decides more shelf x log y any → Goes x.desk.state y.desk.state
unfolding Decides
decides_goes zero shelf x log y any decides = goes x.desk.state y.desk.state (ap (λ (m : Moving). numbers_of m.desk.state.seats.items) decides.1) (ap (λ (m : Moving). m.desk.state.awake) decides.1)
decides_goes (suc more) shelf x log y any (found, due, first, rest) =
    goes_then x.desk.state found y.desk.state (found_goes x.desk.state found (found_stays shelf x.desk.state.awake.items x.desk.state found due first))
    (by due rest (λ next others later decides. decides_goes more shelf next others y later decides))
  where
    by : (o : Option (ℕ × Due)) → (elim o as (λ c. Type 0) [
      | None ↦ (log ≡ []) × (y ≡ with_state found x) × (any ≡ false)
      | Some d ↦ (next : Moving) × (one : Log) × (others : Log) × (later : Bool) × (log ≡ one ++ others) × TakesOne d.0 d.1 (with_state found x) one next × Decides more shelf next others y later × (any ≡ true)
    ]) → ((next : Moving) (others : Log) (later : Bool) → Decides more shelf next others y later → Goes next.desk.state y.desk.state) → Goes found y.desk.state
    by None none behind = goes found y.desk.state (ap (λ (m : Moving). numbers_of m.desk.state.seats.items) none.1) (ap (λ (m : Moving). m.desk.state.awake) none.1)
    by (Some d) (next, one, others, later, log_is, takes, decides, is) behind =
        goes_then found next.desk.state y.desk.state (goes_on (with_state found x).desk next.desk takes.numbers takes.rest) (behind next others later decides)

pub decides_all : (shelf : KeptMap) (x : Moving) (log : Log) (y : Moving) (any : Bool) → DecidesAll shelf x log y any → Goes x.desk.state y.desk.state
decides_all shelf x log y any all =
    goes_then x.desk.state all.between.desk.state y.desk.state
    (goes x.desk.state all.between.desk.state (ap (λ (d : Desk). numbers_of d.state.seats.items) all.turned.desk) (ap (λ (d : Desk). d.state.awake) all.turned.desk))
    (decides_goes 65536 shelf all.between all.rest y all.later all.decides)
