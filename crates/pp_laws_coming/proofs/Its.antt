-- Whoever is for the client of an exchange has its number; and a response that is whole.
use Rattle.std.proofs.Common.{◌≡◌, refl, ℕ, Bool, true, false, not, ◌==◌, List, [], ◌∷◌, filter, Option, Some, None, sym, ap, ◌∙◌}
use Rattle.pp_pass.specs.Pipe.{finished}
use Rattle.pp_law.specs.Closing.{exchanges_of, is_of, leave_one, left_alone}
use Rattle.pp_law.specs.Connections.{each_exchange, end_exchange, exchange, is_exchange, is_for, on_client, on_client_of, on_exchange}
use Rattle.pp_law.specs.Lists.{change, is_this}
use Rattle.pp_law.specs.Passing.{pour}
use Rattle.pp_law.specs.Stages.{on_passed, passed_of}
use Rattle.pp_law.specs.State.{State, Passes, Client, Exchange, Passed}
use Rattle.pp_laws.specs.Runs.{IsIn}
use Rattle.pp_laws.proofs.Lists.{Changed, changed_at, in_change, in_filter, in_map, other, same}
use Rattle.pp_laws.proofs.Tests.{same_number}
use Rattle.pp_laws_turn.proofs.View.{Holds, View, Walk, facts_of, holds}
use Rattle.pp_laws_coming.proofs.Facts.{Coming, ComingBut}
use Rattle.pp_laws_coming.proofs.Stays.{Goes, Stays, but_more, clients_but, goes_on, stays_on}

-- ---- whoever is for its client has its number

abbrev pub OnlyIts : Exchange → List Exchange → Type 0
OnlyIts e es = (d : Exchange) (m : ℕ) → IsIn d es → e.asker ≡ Some m → d.asker ≡ Some m → d.number ≡ e.number

abbrev pub Its : Exchange → View → Type 0
Its e v = OnlyIts e v.exchanges

pub only_its : {late : Bool} → (e : Exchange) (s : State) → IsIn e s.exchanges → Holds (Coming late) s → Holds (Its e) s
only_its e s there h = holds (λ d m i asks its. (facts_of h).one d e m i there its asks)

its_left : (e : Exchange) (test : Exchange → Bool) (es : List Exchange) → OnlyIts e es → OnlyIts e (change test left_alone es)
its_left e test es only d m i asks its = by (in_change test left_alone d es i)
  where
    by : Changed test left_alone es d → d.number ≡ e.number
    by (same j isnt) = only d m j asks its
    by (other x j hit eq) = let both : None ≡ Some m = sym (ap (λ (y : Exchange). y.asker) eq) ∙ its in absurd (cc both)

its_filtered : (e : Exchange) (test : Exchange → Bool) (es : List Exchange) → OnlyIts e es → OnlyIts e (filter test es)
its_filtered e test es only d m i asks its = only d m (in_filter test d es i).0 asks its

its_closed : (e : Exchange) (ns : List ℕ) (s : State) → OnlyIts e s.exchanges → OnlyIts e (each_exchange leave_one ns s).exchanges
unfolding each_exchange leave_one end_exchange on_exchange
its_closed e [] s only = only
its_closed e (n ∷ ns) s only = its_closed e ns _ (by (exchange s n))
  where
    at : (x : Exchange) (b : Bool) → OnlyIts e (elim b as (λ t. State) [ true ↦ end_exchange x.number s | false ↦ on_exchange x.number left_alone s ]).exchanges
    at x true = its_filtered e (λ y. not (is_exchange x.number y)) s.exchanges only
    at x false = its_left e (is_exchange x.number) s.exchanges only

    by : (o : Option Exchange) → OnlyIts e (elim o as (λ t. State) [ None ↦ s | Some x ↦ leave_one x s ]).exchanges
    by None = only
    by (Some x) = at x (x.asked == 0)

pub its_walk : (e : Exchange) → Walk (Its e)
unfolding on_client
its_walk e = record {
  clients = λ f kept v only. only;
  asks = λ f v kept only d m i asks its.
      let r = in_map f d v.exchanges i in
      let k = kept r.was r.there in
      ap (λ (x : Exchange). x.number) r.is ∙ k.number ∙ only r.was m r.there asks (sym k.asker ∙ ap (λ (x : Exchange). x.asker) (sym r.is) ∙ its);
  left = λ test v only. its_left e test v.exchanges only;
  over = λ test v only. its_filtered e test v.exchanges only;
  conns = λ f lesser v only. only;
  rows = λ xs next v from only. only;
  leaves = λ n f moves v only. its_left e (is_of n) v.exchanges only;
  closes = λ n f number closing body brought s only. its_closed e (exchanges_of n s) (on_client n f s) only;
  tells = λ test b v there only. only;
}

-- ---- a response is whole

abbrev piped : Passed → Passed
piped p = record p { pipe = finished p.pipe }

passed_stays : (f : Passed → Passed) (c : Client) → Stays (on_passed f c) c
passed_stays f c = by (passed_of c) refl
  where
    by : (o : Option Passed) → passed_of c ≡ o → Stays (elim o as (λ x. Client) [ None ↦ c | Some p ↦ record c { brought = Passes (f p) } ]) c
    by None is = stays_on c
    by (Some p) is = record { number = refl; source = λ id at. at; front = λ key at. at; untold = λ none. (let both : Some p ≡ None = sym is ∙ none in absurd (cc both)); stands = λ on. on }

pub poured-comes : {late : Bool} → (e : Exchange) (s : State) → Holds (Coming late) s → Holds (ComingBut late e.asker) (pour e finished s)
unfolding pour on_client_of
poured-comes e s h =
    holds
    (clients_but e.asker (changed_at (is_for e) (on_passed piped)) s.clients s.exchanges s.next_exchange s.instances s.next_instance (λ c. (stays_by c (is_for e c)).number) (λ c i. stays_by c (is_for e c)) (λ c i off. goes_by c (is_for e c) refl off)
    (but_more e.asker s.clients s.exchanges s.next_exchange s.instances s.next_instance (facts_of h)))
  where
    stays_by : (c : Client) (t : Bool) → Stays (elim t as (λ x. Client) [ true ↦ on_passed piped c | false ↦ c ]) c
    stays_by c true = passed_stays piped c
    stays_by c false = stays_on c

    is_its : (n : ℕ) (o : Option ℕ) → is_this n o ≡ true → o ≡ Some n
    is_its n None is = absurd (cc is)
    is_its n (Some m) is = ap (λ k. Some k) (same_number m n is)

    goes_by : (c : Client) (t : Bool) → is_for e c ≡ t → (e.asker ≡ Some c.number → ⊥) → Goes (elim t as (λ x. Client) [ true ↦ on_passed piped c | false ↦ c ]) c
    goes_by c true hit off = absurd (off (is_its c.number e.asker hit))
    goes_by c false isnt off = goes_on c
