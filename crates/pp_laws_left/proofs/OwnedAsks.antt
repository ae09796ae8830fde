-- Whoever waits for an exchange has it, also where attempts are lost.
use Rattle.std.proofs.Common.{◌≡◌, refl, ℕ, Bool, true, false, not, ◌&&◌, ◌||◌, List, is_some, Option, Some, None, inl, sym, subst, ap, ◌∙◌}
use Rattle.std.specs.List.{list_any}
use Rattle.pp_target.specs.Key.{text_of}
use Rattle.pp_law.specs.Closing.{left_alone}
use Rattle.pp_law.specs.Connections.{anew, attempts_of, charge, conn, fail, give_up_row, is_client, is_conn, is_exchange, is_for, is_out, is_trying, is_unfilled, lose_attempt, lost_one, on_client, on_client_of, on_conn, on_exchange, out_of_tries, without_row}
use Rattle.pp_law.specs.Lists.{change, is_some_with, is_this}
use Rattle.pp_law.specs.Stages.{filled_of, is_begun, is_headed, passed_of}
use Rattle.pp_law.specs.State.{State, Aim, Through, Own, Filling, Client, Conn, Course, Trying, OutOfTries, AskTooLong, RowRefused, Exchange, Instance, Passed, Stage, Undecided, Waiting, Passing, Answering}
use Rattle.pp_law.specs.Table.{clear, is_same_version, row, swept}
use Rattle.pp_laws.specs.Runs.{IsIn}
use Rattle.pp_laws.proofs.Lists.{Changed, changed_at, in_change, other, same}
use Rattle.pp_laws.proofs.Shrinks.{off}
use Rattle.pp_laws.proofs.Tests.{first_holds, same_number, second_holds}
use Rattle.pp_laws_coming.specs.Coming.{is_waiting}
use Rattle.pp_laws_served.specs.Served.{is_unanswered}
use Rattle.pp_laws_turn.proofs.Rows.{clear-keeps}
use Rattle.pp_laws_turn.proofs.View.{Holds, facts_of, holds}
use Rattle.pp_laws_waits.proofs.Served.{any_in}
use Rattle.pp_laws_left.proofs.Owned.{Amid, AreFree, Asks, But, KeptAsk, KeptClient, Owned, as_it_was, ask_if, answers_as, asker_of, filled_in, no_test, asks_kept, asks_left, clients_kept, is_coming_in, kept_if, kept_same, rows, unanswered_in}
use Rattle.pp_laws_left.proofs.OwnedConns.{KeptConn, conns_changed}

-- ---- one of each

pub on_conn-owned : {but : But} {At : Type 0} (n : ℕ) (f : Conn → Conn) (s : State) → ((k : Conn) → KeptConn (f k) k) → Holds (Owned but At) s → Holds (Owned but At) (on_conn n f s)
unfolding on_conn
on_conn-owned n f s kept h = holds (conns_changed (is_conn n) f (λ k i hit. kept k) (facts_of h))

pub on_exchange-owned : {but : But} {At : Type 0} (n : ℕ) (f : Exchange → Exchange) (s : State) → ((e : Exchange) → IsIn e s.exchanges → is_exchange n e ≡ true → KeptAsk s.conns (f e) e) → Holds (Owned but At) s → Holds (Owned but At) (on_exchange n f s)
unfolding on_exchange
on_exchange-owned n f s kept h = holds (asks_kept (changed_at (is_exchange n) f) (λ e i. ask_if f e (is_exchange n e) (λ hit. kept e i hit)) (facts_of h))

pub number_if : (f : Client → Client) → ((c : Client) → (f c).number ≡ c.number) → (c : Client) (t : Bool) → (elim t as (λ x. Client) [ true ↦ f c | false ↦ c ]).number ≡ c.number
number_if f number c true = number c
number_if f number c false = refl

pub on_client_of-owned : {but : But} {At : Type 0} (e : Exchange) (f : Client → Client) (s : State) → ((c : Client) → (f c).number ≡ c.number) → ((c : Client) → IsIn c s.clients → is_for e c ≡ true → KeptClient (f c) c) → Holds (Owned but At) s → Holds (Owned but At) (on_client_of e f s)
unfolding on_client_of
on_client_of-owned e f s number kept h = holds (clients_kept (changed_at (is_for e) f) (λ c i. number_if f number c (is_for e c)) (λ c i isnt. kept_if f c (is_for e c) (λ hit. kept c i hit)) (facts_of h))

pub on_client-owned : {but : But} {At : Type 0} (n : ℕ) (f : Client → Client) (s : State) → ((c : Client) → (f c).number ≡ c.number) → ((c : Client) → IsIn c s.clients → is_client n c ≡ true → (but.client ≡ Some c.number → ⊥) → KeptClient (f c) c) → Holds (Owned but At) s → Holds (Owned but At) (on_client n f s)
unfolding on_client
on_client-owned n f s number kept h = holds (clients_kept (changed_at (is_client n) f) (λ c i. number_if f number c (is_client n c)) (λ c i isnt. kept_if f c (is_client n c) (λ hit. kept c i hit isnt)) (facts_of h))

-- ---- attempts

-- no client stands apart
abbrev pub some_but : Option ℕ → Option ℕ → But
some_but ask conn = record { ask = ask; conn = conn; client = None }

pub unwaited : (c : Client) → is_waiting c.stage ≡ false → is_unanswered c ≡ false
unwaited c off = by c.stage off
  where
    by : (g : Stage) → is_waiting g ≡ false → unanswered_in g c.brought ≡ false
    by Undecided is = refl
    by Waiting is = absurd (cc is)
    by Passing is = absurd (cc is)
    by (Answering r) is = refl

pub asks_not : (c : Client) → is_waiting c.stage ≡ false → Asks c → ⊥
asks_not c off a = let both : false ≡ true = sym (unwaited c off) ∙ a.unanswered in cc both

pub more_some : (c : Client) → passed_of c ≡ None → is_coming_in c.brought ≡ false
more_some c none = ap (λ (o : Option Passed). is_some_with (λ p. not (p.is_short || p.pipe.is_finished)) o) none

pub amid_not : (c : Client) → passed_of c ≡ None → Amid c → ⊥
amid_not c none a = let both : false ≡ true = sym (more_some c none) ∙ a.more in cc both

-- where its row may be given up, nothing is passed to a client that has not begun
abbrev pub Sure : Exchange → State → Type 0
Sure e s = (x : Instance) (c : Client) → row s (text_of e.key) ≡ Some x → is_some (filled_of e) ≡ true → IsIn c s.clients → is_for e c ≡ true → is_begun c ≡ false → passed_of c ≡ None

pub sure_unheaded : {ask conn : Option ℕ} {At : Type 0} (e : Exchange) (s : State) → IsIn e s.exchanges → is_headed e ≡ false → Holds (Owned (some_but ask conn) At) s → Sure e s
sure_unheaded e s i off h x c found some j its begun = ((facts_of h).fills e c i j its some (λ is. cc is)).untold off

pub sure_calm : {conn : Option ℕ} {At : Type 0} (e : Exchange) (s : State) → IsIn e s.exchanges → At → Holds (Owned (some_but None conn) At) s → Sure e s
sure_calm e s i at h x c found some j its begun = ((facts_of h).fills e c i j its some (λ is. cc is)).calm at begun (λ is. cc is)

pub tries_less : (most : ℕ) (c : Course) → is_trying (lost_one most c) ≡ true → is_trying c ≡ true
tries_less most (Trying n) is = refl
tries_less most OutOfTries is = is
tries_less most AskTooLong is = is
tries_less most RowRefused is = is

pub tries_none : (c : Course) → is_trying (out_of_tries c) ≡ true → ⊥
tries_none (Trying n) is = cc is
tries_none OutOfTries is = cc is
tries_none AskTooLong is = cc is
tries_none RowRefused is = cc is

out_not : (c : Course) → is_out c ≡ true → is_trying c ≡ true → ⊥
out_not (Trying n) out is = cc out
out_not OutOfTries out is = cc is
out_not AskTooLong out is = cc is
out_not RowRefused out is = cc is

some_row : (o : Option Instance) (v : _) → is_some_with (λ (x : Instance). is_same_version v x.version) o ≡ true → (x : Instance) × (o ≡ Some x)
some_row None v is = absurd (cc is)
some_row (Some x) v is = (x, refl)

-- where it is given up
record GivesUp (s : State) (e : Exchange) : Type 0 where
  fills : is_some (filled_of e) ≡ true
  x : Instance
  row_is : row s (text_of e.key) ≡ Some x
  out : Client
  there : IsIn out s.clients
  its : is_for e out ≡ true
  is : is_out out.course ≡ true

gives_up : (s : State) (e : Exchange) → is_unfilled s e ≡ true → GivesUp s e
gives_up s e is = by (filled_of e) refl (first_holds (is_some_with (λ v. is_some_with (λ x. is_same_version v x.version) (row s (text_of e.key))) (filled_of e)) (list_any (λ c. is_for e c && is_out c.course) s.clients) is)
  where
    w : (c : Client) × IsIn c s.clients × ((is_for e c && is_out c.course) ≡ true)
    w = any_in (λ c. is_for e c && is_out c.course) s.clients (second_holds (is_some_with (λ v. is_some_with (λ x. is_same_version v x.version) (row s (text_of e.key))) (filled_of e)) (list_any (λ c. is_for e c && is_out c.course) s.clients) is)

    by : (o : Option _) → filled_of e ≡ o → is_some_with (λ v. is_some_with (λ x. is_same_version v x.version) (row s (text_of e.key))) o ≡ true → GivesUp s e
    by None none at = absurd (cc at)
    by (Some v) some at =
        let r = some_row (row s (text_of e.key)) v at in
        record { fills = ap (λ (o : Option _). is_some o) some; x = r.0; row_is = r.1; out = w.0; there = w.1; its = first_holds (is_for e w.0) (is_out w.0.course) w.2; is = second_holds (is_for e w.0) (is_out w.0.course) w.2 }

given_up : (c : Client) (begun given : Bool) → is_begun c ≡ begun → c.has_given_up ≡ given → (begun ≡ false → passed_of c ≡ None) → is_waiting c.stage ≡ false → KeptClient (elim (begun || given) as (λ x. Client) [ true ↦ c | false ↦ record c { course = anew c.course; has_given_up = true } ]) c
given_up c true given is its none waits = kept_same c
given_up c false true is its none waits = kept_same c
given_up c false false is its none waits = record {
  number = refl;
  asks = λ a. absurd (asks_not (record c { course = anew c.course; has_given_up = true }) waits a);
  amid = λ a. absurd (amid_not (record c { course = anew c.course; has_given_up = true }) (none refl) a);
  stage = λ is. refl;
  none = λ none_. none_;
  begun = λ off. inl off;
}

-- behind it, who goes on trying was passed nothing
still_tries : (c : Client) (begun given : Bool) → (begun ≡ false → passed_of c ≡ None) → is_out c.course ≡ true → Amid (elim (begun || given) as (λ x. Client) [ true ↦ c | false ↦ record c { course = anew c.course; has_given_up = true } ]) → ⊥
still_tries c true given none out a = out_not c.course out a.tries
still_tries c false true none out a = out_not c.course out a.tries
still_tries c false false none out a = amid_not (record c { course = anew c.course; has_given_up = true }) (none refl) a

-- it is there, as it was for its client
pub record Stands (e : Exchange) (es : List Exchange) : Type 0 where
  pub now : Exchange
  pub there : IsIn now es
  pub number : now.number ≡ e.number
  pub asker : now.asker ≡ e.asker
  pub aim : now.aim ≡ e.aim

pub stands_there : (e : Exchange) (es : List Exchange) → IsIn e es → Stands e es
stands_there e es i = record { now = e; there = i; number = refl; asker = refl; aim = refl }

-- who has one that fills a hole waits for no other
pub filling_waits : (e : Exchange) (c : Client) → is_some (filled_of e) ≡ true → (is_waiting c.stage ≡ true → answers_as c.stage e.aim ≡ true) → is_waiting c.stage ≡ false
filling_waits e c some kind = no_test (is_waiting c.stage) (λ is. by e.aim c.stage some (kind is))
  where
    by : (a : Aim) (g : Stage) → is_some (filled_in a) ≡ true → answers_as g a ≡ true → ⊥
    by Through g is at = cc is
    by Own g is at = cc is
    by (Filling v from to) Undecided is at = cc at
    by (Filling v from to) Waiting is at = cc at
    by (Filling v from to) Passing is at = cc at
    by (Filling v from to) (Answering r) is at = cc at

give_up_row-owned : {ask conn : Option ℕ} {At : Type 0} (e : Exchange) (s : State) → Stands e s.exchanges → Sure e s → Holds (Owned (some_but ask conn) At) s → Holds (Owned (some_but ask conn) At) (give_up_row e s)
unfolding give_up_row clear swept on_client_of on_exchange
give_up_row-owned {ask} {conn} {At} e s stands sure h = by (is_unfilled s e) refl
  where
    cleared : State
    cleared = clear (text_of e.key) s

    waits : GivesUp s e → (c : Client) → IsIn c s.clients → is_for e c ≡ true → is_waiting c.stage ≡ false
    waits w c i its = filling_waits e c w.fills (λ is. ap (answers_as c.stage) (sym stands.aim) ∙ (facts_of h).kinds stands.now c stands.there i (ap (is_this c.number) stands.asker ∙ its) (λ isnt. cc isnt) is)

    none : GivesUp s e → (c : Client) → IsIn c s.clients → is_for e c ≡ true → is_begun c ≡ false → passed_of c ≡ None
    none w c i its off = sure w.x c w.row_is w.fills i its off

    number : (c : Client) (t : Bool) → (elim t as (λ x. Client) [ true ↦ c | false ↦ record c { course = anew c.course; has_given_up = true } ]).number ≡ c.number
    number c true = refl
    number c false = refl

    ends : GivesUp s e → Holds (Owned (some_but ask conn) At) (on_client_of e without_row (clear (text_of e.key) s))
    ends w = on_client_of-owned e without_row (clear (text_of e.key) s) (λ c. number c (is_begun c || c.has_given_up)) (λ c i its. given_up c (is_begun c) c.has_given_up refl refl (none w c i its) (waits w c i its)) (clear-keeps (rows (some_but ask conn) At) (text_of e.key) s h)

    stage_by : (c : Client) (t : Bool) → (elim t as (λ x. Client) [ true ↦ c | false ↦ record c { course = anew c.course; has_given_up = true } ]).stage ≡ c.stage
    stage_by c true = refl
    stage_by c false = refl

    free : GivesUp s e → AreFree (some_but ask conn) (is_exchange e.number) (change (is_for e) without_row s.clients) s.exchanges
    free w x d i hit j isnt its = record { waited = λ off. asks_not d waits_d; more = λ body a. amid_at a (in_change (is_for e) without_row d s.clients j) }
      where
        one : x ≡ stands.now
        one = (facts_of h).apart x stands.now i stands.there (same_number x.number e.number hit ∙ sym stands.number)

        for_e : is_for e d ≡ true
        for_e = ap (is_this d.number) (sym stands.asker) ∙ subst (λ (y : Exchange). is_for y d ≡ true) one its

        waits_at : Changed (is_for e) without_row s.clients d → is_waiting d.stage ≡ false
        waits_at (same k off) = let both : true ≡ false = sym for_e ∙ off in absurd (cc both)
        waits_at (other c k on eq) = ap (λ (y : Client). is_waiting y.stage) eq ∙ ap is_waiting (stage_by c (is_begun c || c.has_given_up)) ∙ waits w c k on

        waits_d : is_waiting d.stage ≡ false
        waits_d = waits_at (in_change (is_for e) without_row d s.clients j)

        amid_at : Amid d → Changed (is_for e) without_row s.clients d → ⊥
        amid_at a (same k off) = let both : true ≡ false = sym for_e ∙ off in cc both
        amid_at a (other c k on eq) =
            let number : c.number ≡ w.out.number = let both : Some c.number ≡ Some w.out.number = sym (asker_of c.number e.asker on) ∙ asker_of w.out.number e.asker w.its in cc both in
            let is : c ≡ w.out = (facts_of h).callers c w.out k w.there number in
            still_tries c (is_begun c) c.has_given_up (none w c k on) (ap (λ (y : Client). is_out y.course) is ∙ w.is) (subst (λ (y : Client). Amid y) eq a)

    given : GivesUp s e → Holds (Owned (some_but ask conn) At) (on_exchange e.number left_alone (on_client_of e without_row (clear (text_of e.key) s)))
    given w = holds (asks_left (is_exchange e.number) (free w) (facts_of (ends w)))

    by : (t : Bool) → is_unfilled s e ≡ t → Holds (Owned (some_but ask conn) At) (elim t as (λ c. State) [ false ↦ s | true ↦ on_exchange e.number left_alone (on_client_of e without_row (clear (text_of e.key) s)) ])
    by false is = h
    by true is = given (gives_up s e is)

charge-owned : {ask conn : Option ℕ} {At : Type 0} (cost : Course → Course) (e : Exchange) (s : State) → ((c : Course) → is_trying (cost c) ≡ true → is_trying c ≡ true) → Stands e s.exchanges → Sure e s → Holds (Owned (some_but ask conn) At) s → Holds (Owned (some_but ask conn) At) (charge cost e s)
unfolding charge on_client_of
charge-owned {ask} {conn} {At} cost e s tries there sure h = give_up_row-owned e _ there sure_then (on_client_of-owned e (λ c. record c { course = cost c.course }) s (λ c. refl) (λ c i its. as_it_was _ c refl refl refl (λ is. is) (λ is. tries c.course is)) h)
  where
    sure_then : Sure e (on_client_of e (λ c. record c { course = cost c.course }) s)
    sure_then x d found some j its begun = by (in_change (is_for e) (λ c. record c { course = cost c.course }) d s.clients j)
      where
        by : Changed (is_for e) (λ c. record c { course = cost c.course }) s.clients d → passed_of d ≡ None
        by (same i off) = sure x d found some i its begun
        by (other c i on eq) = ap (λ (y : Client). passed_of y) eq ∙ sure x c found some i on (sym (ap is_begun eq) ∙ begun)

pub lose_attempt-owned : {ask conn : Option ℕ} {At : Type 0} (e : Exchange) (s : State) → Stands e s.exchanges → Sure e s → Holds (Owned (some_but ask conn) At) s → Holds (Owned (some_but ask conn) At) (lose_attempt e s)
unfolding lose_attempt
lose_attempt-owned e s there sure h = charge-owned (lost_one (attempts_of e)) e s (tries_less (attempts_of e)) there sure h

pub fail-owned : {ask conn : Option ℕ} {At : Type 0} (e : Exchange) (s : State) → Stands e s.exchanges → Sure e s → Holds (Owned (some_but ask conn) At) s → Holds (Owned (some_but ask conn) At) (fail e s)
unfolding fail
fail-owned e s there sure h = charge-owned out_of_tries e s (λ c is. absurd (tries_none c is)) there sure h

-- ---- those of its number

-- each is this one, or what it left alone
abbrev pub Was : Exchange → Exchange → Type 0
Was x e = ((n : ℕ) → x.asker ≡ Some n → e.asker ≡ Some n) × (is_headed x ≡ is_headed e) × (x.aim ≡ e.aim) × (x.asked ≡ e.asked) × (x.key ≡ e.key)

abbrev pub AreAlike : Exchange → List Exchange → Type 0
AreAlike e es = (x : Exchange) → IsIn x es → x.number ≡ e.number → Was x e

pub alike : {but : But} {At : Type 0} (e : Exchange) (s : State) → IsIn e s.exchanges → Holds (Owned but At) s → AreAlike e s.exchanges
alike e s there h x i number = let one : x ≡ e = (facts_of h).apart x e i there number in (λ n is. ap (λ (y : Exchange). y.asker) (sym one) ∙ is, ap is_headed one, ap (λ (y : Exchange). y.aim) one, ap (λ (y : Exchange). y.asked) one, ap (λ (y : Exchange). y.key) one)

pub alike_left : (e : Exchange) (test : Exchange → Bool) (es : List Exchange) → AreAlike e es → AreAlike e (change test left_alone es)
alike_left e test es known x i number = by (in_change test left_alone x es i)
  where
    by : Changed test left_alone es x → Was x e
    by (same j isnt) = known x j number
    by (other y j hit eq) =
        let w = known y j (ap (λ (z : Exchange). z.number) (sym eq) ∙ number) in
        (λ n is. (let both : None ≡ Some n = sym (ap (λ (z : Exchange). z.asker) eq) ∙ is in absurd (cc both)), ap is_headed eq ∙ w.1, ap (λ (z : Exchange). z.aim) eq ∙ w.2, ap (λ (z : Exchange). z.asked) eq ∙ w.3, ap (λ (z : Exchange). z.key) eq ∙ w.4)

pub alike_charged : (cost : Course → Course) (d e : Exchange) (s : State) → AreAlike e s.exchanges → AreAlike e (charge cost d s).exchanges
unfolding charge give_up_row clear swept on_client_of on_exchange
alike_charged cost d e s known = by (is_unfilled (on_client_of d (λ c. record c { course = cost c.course }) s) d)
  where
    lost : State
    lost = on_client_of d (λ c. record c { course = cost c.course }) s

    by : (t : Bool) → AreAlike e (elim t as (λ c. State) [ false ↦ lost | true ↦ on_exchange d.number left_alone (on_client_of d without_row (clear (text_of d.key) lost)) ]).exchanges
    by false = known
    by true = alike_left e (is_exchange d.number) s.exchanges known

pub alike_lost : (d e : Exchange) (s : State) → AreAlike e s.exchanges → AreAlike e (lose_attempt d s).exchanges
unfolding lose_attempt
alike_lost d e s known = alike_charged (lost_one (attempts_of d)) d e s known
