-- A refused dial keeps it: an ask that is given up there is over.
use Rattle.std.proofs.Common.{◌≡◌, refl, ℕ, Bool, true, false, Some, sym, ap, ◌∙◌}
use Rattle.pp_target.specs.Key.{text_of}
use Rattle.pp_law.specs.After.{refused_dial}
use Rattle.pp_law.specs.Closing.{left_alone}
use Rattle.pp_law.specs.Connections.{attempts_of, charge, end_exchange, exchange, give_up_row, is_exchange, is_unfilled, lose_attempt, lost_one, may_ask_again, on_client_of, on_exchange, without_row}
use Rattle.pp_law.specs.Lists.{change}
use Rattle.pp_law.specs.State.{State, Exchange}
use Rattle.pp_law.specs.Table.{clear}
use Rattle.pp_laws.specs.Runs.{IsIn}
use Rattle.pp_laws.proofs.Lists.{Changed, in_change, in_find, other, same}
use Rattle.pp_laws_turn.proofs.Cases.{when, when_so}
use Rattle.pp_laws_turn.proofs.Rows.{clear-keeps}
use Rattle.pp_laws_turn.proofs.View.{Holds, facts_of, holds}
use Rattle.pp_laws_coming.proofs.Attempts.{without_row_goes}
use Rattle.pp_laws_coming.proofs.Clients.{end_exchange-comes, on_client_of-comes}
use Rattle.pp_laws_coming.proofs.Facts.{Coming, rows}
use Rattle.pp_laws_coming.proofs.Filled.{fill-comes}
use Rattle.pp_laws_coming.proofs.Given.{given_over}
use Rattle.pp_laws_coming.proofs.Lost.{again_asked, found_one}
use Rattle.pp_laws_coming.proofs.Stays.{goes_as}

-- it is asked elsewhere, or over
dial-comes : {late : Bool} → (e : Exchange) (s : State) → Holds (Coming late) s → Holds (Coming late) (refused_dial e s)
unfolding refused_dial
dial-comes e s h = when (may_ask_again s e.number) h (fill-comes _ (end_exchange-comes e.number s h))

-- its request left it
left_over : {late : Bool} → (n : ℕ) (s : State) → Holds (Coming late) s → Holds (Coming late) (end_exchange n (on_exchange n left_alone s))
unfolding end_exchange on_exchange
left_over n s h = holds (given_over n s.clients s.exchanges s.next_exchange s.instances s.next_instance (facts_of h))

never_again : (n : ℕ) (s : State) → may_ask_again (on_exchange n left_alone s) n ≡ true → ⊥
unfolding on_exchange
never_again n s may = by w.0 w.1 (in_change (is_exchange n) left_alone w.0 s.exchanges r.0)
  where
    w : (x : Exchange) × (exchange (on_exchange n left_alone s) n ≡ Some x)
    w = found_one (on_exchange n left_alone s) n may

    r : IsIn w.0 (change (is_exchange n) left_alone s.exchanges) × (is_exchange n w.0 ≡ true)
    r = in_find (is_exchange n) w.0 (change (is_exchange n) left_alone s.exchanges) w.1

    by : (x : Exchange) → exchange (on_exchange n left_alone s) n ≡ Some x → Changed (is_exchange n) left_alone s.exchanges w.0 → ⊥
    by x found (same j isnt) = let both : true ≡ false = sym r.1 ∙ isnt in cc both
    by x found (other y j hit eq) = again_asked (on_exchange n left_alone s) n may w.0 w.1 (ap (λ (z : Exchange). z.asker) eq)

given_up : {late : Bool} → (e : Exchange) (s : State) → Holds (Coming late) s → Holds (Coming late) (refused_dial e (on_exchange e.number left_alone s))
unfolding refused_dial
given_up e s h = when_so (may_ask_again (on_exchange e.number left_alone s) e.number) (λ may. absurd (never_again e.number s may)) (λ isnt. fill-comes _ (left_over e.number s h))

pub refused_dial-comes : {late : Bool} → (e : Exchange) (s : State) → Holds (Coming late) s → Holds (Coming late) (refused_dial e (lose_attempt e s))
unfolding lose_attempt charge give_up_row
refused_dial-comes {late} e s h = by (is_unfilled t e)
  where
    t : State
    t = on_client_of e (λ c. record c { course = lost_one (attempts_of e) c.course }) s

    charged : Holds (Coming late) (on_client_of e (λ c. record c { course = lost_one (attempts_of e) c.course }) s)
    charged = on_client_of-comes e (λ c. record c { course = lost_one (attempts_of e) c.course }) s (λ c. goes_as _ c refl refl refl refl refl) h

    by : (b : Bool) → Holds (Coming late) (refused_dial e (elim b as (λ c. State) [
      | false ↦ on_client_of e (λ c. record c { course = lost_one (attempts_of e) c.course }) s
      | true ↦ on_exchange e.number left_alone (on_client_of e without_row (clear (text_of e.key) (on_client_of e (λ c. record c { course = lost_one (attempts_of e) c.course }) s)))
    ]))
    by false = dial-comes e _ charged
    by true = given_up e _ (on_client_of-comes e without_row _ without_row_goes (clear-keeps rows (text_of e.key) _ charged))
