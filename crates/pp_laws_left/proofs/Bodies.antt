-- The laws: no place, dial or drop leaves an exchange that has more of a body to ask; and what a turn leaves, where each is somebody's.
use Rattle.std.proofs.Common.{◌≡◌, refl, ◌==◌, ℕ, nat_lt, Bool, true, false, ◌&&◌, List, [], ◌∷◌, ◌++◌, is_some, Option, Some, None, sym, ap, ◌∙◌, arith}
use Rattle.std.proofs.lemmas.Bool.Decides.{nat_tests}
use Rattle.pp_text.specs.Bytes.{is_empty}
use Rattle.pp_world.specs.Log.{Log}
use Rattle.pp_law.specs.After.{dialled, dropped, new_conn, out}
use Rattle.pp_law.specs.Asking.{left_to_ask}
use Rattle.pp_law.specs.Connections.{Pause, AllPlaced, Placement, WaitsDial, WaitsDrop, conn, is_exchange, is_outstanding, on_conn, on_exchange, placing, put_on}
use Rattle.pp_law.specs.Lists.{Bytes}
use Rattle.pp_law.specs.Phases.{come_to}
use Rattle.pp_law.specs.Replies.{begin_replies}
use Rattle.pp_law.specs.State.{State, Term, Conn, DecidingAgain, Exchange}
use Rattle.pp_laws.specs.Runs.{IsIn}
use Rattle.pp_laws.proofs.Lists.{Changed, in_change, other, same}
use Rattle.pp_laws.proofs.Tests.{first_holds, second_holds}
use Rattle.pp_laws_bounds.proofs.Places.{placing-any}
use Rattle.pp_laws_coming.proofs.Laws.{asks_told}
use Rattle.pp_laws_served.specs.Served.{IsLeft, MayEnd}
use Rattle.pp_laws_left.specs.Bodies.{AreBodiesOwned, PlacesKeepBodies}
use Rattle.pp_laws_left.proofs.AllLeft.{left_is_left}
use Rattle.pp_laws_left.proofs.BodiesBegins.{beginnings_keep_bodies}
use Rattle.pp_laws_left.proofs.BodiesPassed.{bodies_are_passed, fills_none}
use Rattle.pp_laws_left.proofs.SpokenLaws.{obeys_to}

-- ---- places

-- each is somebody's, with a place or without
abbrev AllOwned : State → Type 0
AllOwned t = (e : Exchange) → IsIn e t.exchanges → (e.body_left == 0) ≡ false → is_some e.asker ≡ true

put_owned : (n k : ℕ) (t : State) → AllOwned t → AllOwned (put_on n k t)
unfolding put_on on_conn on_exchange
put_owned n k t h e i left = by (in_change (is_exchange n) (λ d. record d { place = Some k; asked = 0 }) e t.exchanges i)
  where
    by : Changed (is_exchange n) (λ d. record d { place = Some k; asked = 0 }) t.exchanges e → is_some e.asker ≡ true
    by (same j isnt) = h e j left
    by (other d j hit eq) = ap (λ (y : Exchange). is_some y.asker) eq ∙ h d j (ap (λ (y : Exchange). y.body_left == 0) (sym eq) ∙ left)

dialled_owned : (n : ℕ) (host : Bytes) (port : ℕ) (p : Placement) → AllOwned p.state → AllOwned (dialled n host port p)
unfolding dialled
dialled_owned n host port p h = by p.pause
  where
    by : (o : Pause) → AllOwned (elim o as (λ y. State) [
      | AllPlaced ↦ p.state
      | WaitsDrop k e ↦ p.state
      | WaitsDial e ↦ put_on e.number n (record p.state { conns = p.state.conns ++ new_conn n host port p.state.clock ∷ []; top = n })
    ])
    by AllPlaced = h
    by (WaitsDrop k e) = h
    by (WaitsDial e) = put_owned e.number n (record p.state { conns = p.state.conns ++ new_conn n host port p.state.clock ∷ []; top = n }) h

dropped_owned : (n : ℕ) (s : State) → AllOwned s → AllOwned (placing s).state → AllOwned (dropped n s)
unfolding dropped out
dropped_owned n s h placed = by (conn s n)
  where
    at : (b : Bool) → AllOwned (elim b as (λ y. State) [ true ↦ out n s | false ↦ out n (placing s).state ])
    at true = h
    at false = placed

    by : (o : Option Conn) → AllOwned (elim o as (λ y. State) [ None ↦ s | Some k ↦ elim k.is_closing as (λ z. State) [ true ↦ out n s | false ↦ out n (placing s).state ] ])
    by None = h
    by (Some k) = at k.is_closing

pub places_keep_bodies : PlacesKeepBodies
places_keep_bodies terms s log obeys owned = (
  λ e i placed left. put e i left,
  λ n host port e i placed left. dialled_owned n host port (placing s) put e i left,
  λ n e i placed left. dropped_owned n s (λ x j some. all x j some x.place x.asker refl refl) put e i left,
)
  where
    all : (x : Exchange) → IsIn x s.exchanges → (x.body_left == 0) ≡ false → (p o : Option ℕ) → x.place ≡ p → x.asker ≡ o → is_some x.asker ≡ true
    all x j some (Some k) o at is = owned x j (ap (λ (y : Option ℕ). is_some y) at) some
    all x j some None (Some m) at is = ap (λ (y : Option ℕ). is_some y) is
    all x j some None None at is =
        let w = (asks_told terms s log obeys).placeless x j at is in
        let both : Some w.0 ≡ None = sym w.1 ∙ fills_none x.aim (bodies_are_passed terms s log obeys x j some) in
        absurd (cc both)

    put : AllOwned (placing s).state
    put = placing-any AllOwned put_owned s (λ x j some. all x j some x.place x.asker refl refl)

some_left : (n : ℕ) → nat_lt 0 n ≡ true → (n == 0) ≡ false
some_left n some = grind (arith, nat_tests)

-- all that a turn leaves, where it is so before replies begin
pub left_with_bodies : (terms : List Term) (s : State) (log : Log) → MayEnd terms s log → AreBodiesOwned (come_to DecidingAgain s) → IsLeft (come_to DecidingAgain s)
left_with_bodies terms s log ends bodies = left_is_left terms s log ends (λ e i placed waits. (
    let left : nat_lt 0 e.body_left ≡ true = second_holds (is_outstanding e) (nat_lt 0 e.body_left) (first_holds (is_outstanding e && nat_lt 0 e.body_left) (is_empty (left_to_ask (begin_replies (come_to DecidingAgain s)) e)) waits) in
    beginnings_keep_bodies terms (come_to DecidingAgain s) log (obeys_to DecidingAgain terms s log ends.obeys) bodies e i placed (some_left e.body_left left)))
