-- Attempts that are lost keep it.
use Rattle.std.proofs.Common.{◌≡◌, refl, ℕ, Bool, true, false, ◌&&◌, ◌||◌, List, Option, Some, None, sym, ap, ◌∙◌}
use Rattle.std.specs.List.{list_any}
use Rattle.pp_target.specs.Key.{text_of}
use Rattle.pp_valid.specs.declared.version.Version.{Version}
use Rattle.pp_law.specs.Closing.{left_alone}
use Rattle.pp_law.specs.Connections.{anew, attempts_of, charge, fail, give_up_row, is_exchange, is_for, is_out, is_unfilled, lose_attempt, lost_one, on_client_of, on_exchange, out_of_tries, without_row}
use Rattle.pp_law.specs.Lists.{change, is_some_with}
use Rattle.pp_law.specs.Stages.{filled_of, is_begun, is_headed}
use Rattle.pp_law.specs.State.{State, Client, Course, Exchange}
use Rattle.pp_law.specs.Table.{clear, is_same_version, row, swept}
use Rattle.pp_laws.specs.Runs.{IsIn}
use Rattle.pp_laws.proofs.Lists.{Changed, in_change, other, same}
use Rattle.pp_laws.proofs.Tests.{first_holds, same_number}
use Rattle.pp_laws_turn.proofs.Cases.{when_so}
use Rattle.pp_laws_turn.proofs.Rows.{clear-keeps}
use Rattle.pp_laws_turn.proofs.View.{Holds, facts_of}
use Rattle.pp_laws_coming.proofs.Alone.{MayLeave}
use Rattle.pp_laws_coming.proofs.Asks.{early_fills}
use Rattle.pp_laws_coming.proofs.Clients.{left_by_number, on_client_of-comes}
use Rattle.pp_laws_coming.proofs.Facts.{Coming, rows}
use Rattle.pp_laws_coming.proofs.Stays.{Goes, goes_as, goes_on}

-- ---- an attempt is lost

-- where its row is given up, it may be left
abbrev pub MayBeLeft : Bool → Exchange → List Exchange → Type 0
MayBeLeft late e es = (v : Version) → filled_of e ≡ Some v → (x : Exchange) → IsIn x es → x.number ≡ e.number → MayLeave late x

unfilled_fills : (s : State) (e : Exchange) → is_unfilled s e ≡ true → (v : Version) × (filled_of e ≡ Some v)
unfilled_fills s e is = by (filled_of e) (first_holds (is_some_with (λ v. is_some_with (λ x. is_same_version v x.version) (row s (text_of e.key))) (filled_of e)) (list_any (λ c. is_for e c && is_out c.course) s.clients) is)
  where
    by : (o : Option Version) → is_some_with (λ v. is_some_with (λ x. is_same_version v x.version) (row s (text_of e.key))) o ≡ true → (v : Version) × (o ≡ Some v)
    by None at = absurd (cc at)
    by (Some v) at = (v, refl)

pub without_row_goes : (c : Client) → Goes (without_row c) c
without_row_goes c = by (is_begun c || c.has_given_up)
  where
    by : (t : Bool) → Goes (elim t as (λ d. Client) [ true ↦ c | false ↦ record c { course = anew c.course; has_given_up = true } ]) c
    by true = goes_on c
    by false = goes_as _ c refl refl refl refl refl

give_up_row-comes : {late : Bool} → (e : Exchange) (s : State) → MayBeLeft late e s.exchanges → Holds (Coming late) s → Holds (Coming late) (give_up_row e s)
unfolding give_up_row clear swept on_client_of
give_up_row-comes e s may h =
    when_so (is_unfilled s e)
    (λ is. let w = unfilled_fills s e is in left_by_number e.number _ (λ x i hit. may w.0 w.1 x i (same_number x.number e.number hit)) (on_client_of-comes e without_row _ without_row_goes (clear-keeps rows (text_of e.key) s h)))
    (λ isnt. h)

charge-comes : {late : Bool} → (cost : Course → Course) (e : Exchange) (s : State) → MayBeLeft late e s.exchanges → Holds (Coming late) s → Holds (Coming late) (charge cost e s)
unfolding charge on_client_of
charge-comes cost e s may h = give_up_row-comes e _ may (on_client_of-comes e (λ c. record c { course = cost c.course }) s (λ c. goes_as _ c refl refl refl refl refl) h)

pub lose_attempt-comes : {late : Bool} → (e : Exchange) (s : State) → MayBeLeft late e s.exchanges → Holds (Coming late) s → Holds (Coming late) (lose_attempt e s)
unfolding lose_attempt
lose_attempt-comes e s may h = charge-comes (lost_one (attempts_of e)) e s may h

pub fail-comes : {late : Bool} → (e : Exchange) (s : State) → MayBeLeft late e s.exchanges → Holds (Coming late) s → Holds (Coming late) (fail e s)
unfolding fail
fail-comes e s may h = charge-comes out_of_tries e s may h

-- ---- what is known of it

-- whoever has its number is headed where it is, and fills what it fills
abbrev pub AreAlike : Exchange → List Exchange → Type 0
AreAlike e es = (x : Exchange) → IsIn x es → x.number ≡ e.number → (is_headed x ≡ is_headed e) × (filled_of x ≡ filled_of e)

pub alike : {late : Bool} → (e : Exchange) (s : State) → IsIn e s.exchanges → Holds (Coming late) s → AreAlike e s.exchanges
alike e s there h x i number = let one : x ≡ e = (facts_of h).apart x e i there number in (ap is_headed one, ap filled_of one)

pub alike_left : (e : Exchange) (es : List Exchange) → AreAlike e es → MayBeLeft false e es
alike_left e es known v fills x i number counts nowhere = let both : None ≡ Some v = sym (early_fills x counts) ∙ (known x i number).1 ∙ fills in cc both

alike_on : (e : Exchange) (n : ℕ) (es : List Exchange) → AreAlike e es → AreAlike e (change (is_exchange n) left_alone es)
alike_on e n es known x i number = by (in_change (is_exchange n) left_alone x es i)
  where
    by : Changed (is_exchange n) left_alone es x → (is_headed x ≡ is_headed e) × (filled_of x ≡ filled_of e)
    by (same j isnt) = known x j number
    by (other y j hit eq) = let w = known y j (ap (λ (z : Exchange). z.number) (sym eq) ∙ number) in (ap is_headed eq ∙ w.0, ap filled_of eq ∙ w.1)

pub alike_lost : (e : Exchange) (s : State) → AreAlike e s.exchanges → AreAlike e (lose_attempt e s).exchanges
unfolding lose_attempt charge give_up_row clear swept on_client_of on_exchange
alike_lost e s known = by (is_unfilled (on_client_of e (λ c. record c { course = lost_one (attempts_of e) c.course }) s) e)
  where
    lost : State
    lost = on_client_of e (λ c. record c { course = lost_one (attempts_of e) c.course }) s

    by : (t : Bool) → AreAlike e (elim t as (λ c. State) [ false ↦ lost | true ↦ on_exchange e.number left_alone (on_client_of e without_row (clear (text_of e.key) lost)) ]).exchanges
    by false = known
    by true = alike_on e e.number s.exchanges known
