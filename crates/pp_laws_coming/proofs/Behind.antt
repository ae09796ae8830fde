-- What is known behind a head, and what that costs.
use Rattle.std.proofs.Common.{◌≡◌, refl, ℕ, Bool, true, false, List, Option, Some, None, sym, ap, ◌∙◌}
use Rattle.pp_target.specs.Key.{text_of}
use Rattle.pp_law.specs.Closing.{left_alone}
use Rattle.pp_law.specs.Connections.{attempts_of, charge, give_up_row, is_exchange, is_unfilled, lose_attempt, lost_one, on_client_of, on_exchange, without_row}
use Rattle.pp_law.specs.Lists.{change, is_some_with}
use Rattle.pp_law.specs.OwnHeads.{drop_answer, tell, use_body, useless}
use Rattle.pp_law.specs.Stages.{filled_of, is_pending}
use Rattle.pp_law.specs.State.{State, Body, Dropping, Brought, Useless, Client, Exchange, Instance, Passed}
use Rattle.pp_law.specs.Table.{clear, swept}
use Rattle.pp_laws.specs.Runs.{IsIn}
use Rattle.pp_laws.proofs.Lists.{Changed, in_change, other, same}
use Rattle.pp_laws_turn.proofs.View.{Holds, View, facts_of, holds}
use Rattle.pp_laws_coming.proofs.Alone.{MayLeave}
use Rattle.pp_laws_coming.proofs.Asks.{counts_on}
use Rattle.pp_laws_coming.proofs.Attempts.{MayBeLeft, alike, alike_left, lose_attempt-comes}
use Rattle.pp_laws_coming.proofs.Clients.{on_client_of-comes}
use Rattle.pp_laws_coming.proofs.Facts.{Early, Follows}
use Rattle.pp_laws_coming.proofs.Ready.{Ready}
use Rattle.pp_laws_coming.proofs.Stays.{Goes, is_whole_in, passed_in}
use Rattle.pp_laws_coming.proofs.Told.{left_told, told_come}

-- ---- behind it

-- where its row is given up, it may be left
abbrev pub Done : Exchange → View → Type 0
Done e v = Early v × MayBeLeft false e v.exchanges

pub comes : (e : Exchange) (s : State) → Holds (Ready e) s → Holds (Done e) s
comes e s h = let w = facts_of h in holds (w.facts, alike_left e s.exchanges (alike {late = false} e s w.there (holds w.facts)))

left_on : (e : Exchange) (es : List Exchange) → MayBeLeft false e es → MayBeLeft false e (change (is_exchange e.number) left_alone es)
left_on e es may v fills x i number = by (in_change (is_exchange e.number) left_alone x es i)
  where
    by : Changed (is_exchange e.number) left_alone es x → MayLeave false x
    by (same j isnt) = may v fills x j number
    by (other y j hit eq) = λ counts nowhere. may v fills y j (sym (ap (λ (z : Exchange). z.number) eq) ∙ number) (counts_on false x y (ap filled_of eq) counts) (sym (ap (λ (z : Exchange). z.place) eq) ∙ nowhere)

left_lost : (e : Exchange) (s : State) → MayBeLeft false e s.exchanges → MayBeLeft false e (lose_attempt e s).exchanges
unfolding lose_attempt charge give_up_row clear swept on_client_of on_exchange
left_lost e s may = by (is_unfilled (on_client_of e (λ c. record c { course = lost_one (attempts_of e) c.course }) s) e)
  where
    lost : State
    lost = on_client_of e (λ c. record c { course = lost_one (attempts_of e) c.course }) s

    by : (t : Bool) → MayBeLeft false e (elim t as (λ c. State) [ false ↦ lost | true ↦ on_exchange e.number left_alone (on_client_of e without_row (clear (text_of e.key) lost)) ]).exchanges
    by false = may
    by true = left_on e s.exchanges may

pub lose_attempt-done : (e : Exchange) (s : State) → Holds (Done e) s → Holds (Done e) (lose_attempt e s)
lose_attempt-done e s h = let w = facts_of h in holds (facts_of (lose_attempt-comes {late = false} e s w.1 (holds w.0)), left_lost e s w.1)

pub on_client_of-done : (e : Exchange) (f : Client → Client) (s : State) → ((c : Client) → Goes (f c) c) → Holds (Done e) s → Holds (Done e) (on_client_of e f s)
unfolding on_client_of
on_client_of-done e f s goes h = let w = facts_of h in holds (facts_of (on_client_of-comes {late = false} e f s goes (holds w.0)), w.1)

-- its client is told of it, and its body goes somewhere
pub told-by : (e : Exchange) (b : Brought) (body : Body) (s : State) → is_pending body ≡ false → is_whole_in b ≡ false → ((n : ℕ) (c : Client) (x : Instance) → e.asker ≡ Some n → IsIn c s.clients → c.number ≡ n → IsIn x s.instances → Follows x c → passed_in b ≡ None) → Holds (Ready e) s
    → Holds (Done e) (tell e b (use_body e body s))
unfolding tell use_body on_exchange
told-by e b body s come more bare h =
    let w = facts_of h in
    holds (told_come e body come s.clients s.exchanges s.next_exchange s.instances s.next_instance w.there w.placed w.keyed w.facts b more bare, left_told e body come s.clients s.exchanges s.next_exchange s.instances s.next_instance w.there w.placed w.keyed w.facts)

-- nothing is passed to it
pub told-comes : (e : Exchange) (b : Brought) (body : Body) (s : State) → is_pending body ≡ false → passed_in b ≡ None → Holds (Ready e) s → Holds (Done e) (tell e b (use_body e body s))
told-comes e b body s come none h = told-by e b body s come (ap (λ (o : Option Passed). is_some_with (λ p. p.pipe.is_finished) o) none) (λ n c x asks i is j follows. none) h

pub drop_answer-comes : (e : Exchange) (s : State) → Holds (Ready e) s → Holds (Done e) (drop_answer e s)
unfolding drop_answer
drop_answer-comes e s h = told-comes e Useless Dropping s refl refl h

pub useless-comes : (e : Exchange) (s : State) → Holds (Ready e) s → Holds (Done e) (useless e s)
unfolding useless
useless-comes e s h = lose_attempt-done e (drop_answer e s) (drop_answer-comes e s h)
