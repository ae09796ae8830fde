-- No exchange is nobody's and nowhere, as what nobody will see is dropped and clients are closed.
use Rattle.std.proofs.Common.{◌≡◌, refl, sym, subst, ap, ◌∙◌, ℕ, Bool, true, false, not, ◌||◌, ◌&&◌, ◌==◌, find, filter, List, [], ◌∷◌, map, is_some, Option, Some, None}
use Rattle.std.specs.List.{list_any}
use Rattle.pp_law.specs.Closing.{close_client, exchanges_of, is_over, leave_one, left_alone}
use Rattle.pp_law.specs.Connections.{close_conn, conn, each_conn, each_exchange, end_exchange, exchange, front_of_line, is_exchange, is_for, is_trying, leave_place, lose_place, may_ask_again, on_client, on_client_of, on_conn, on_exchange, unplaced}
use Rattle.pp_law.specs.Followers.{give_up_asks, is_useless_ask}
use Rattle.pp_law.specs.Lists.{change, is_some_with, is_this}
use Rattle.pp_law.specs.Stages.{is_headed}
use Rattle.pp_law.specs.State.{State, Client, Conn, Exchange}
use Rattle.pp_law.specs.Table.{swept}
use Rattle.pp_law.specs.Unseen.{drop_on, drop_unseen, is_unseen}
use Rattle.pp_laws.proofs.Lists.{Changed, in_change, in_filter, in_find, one_of, other, rise_change, rise_filter, same}
use Rattle.pp_laws.proofs.Sound.{exchange_number}
use Rattle.pp_laws.proofs.Tests.{same_number}
use Rattle.pp_laws.specs.Numbers.{AreRising}
use Rattle.pp_laws.specs.Runs.{IsIn}

-- ---- of a list of exchanges

-- it is somebody's, or stands somewhere; and where it stands nowhere, nothing of it was asked
pub record IsGoing (e : Exchange) : Type 0 where
  pub one : is_over e ≡ false
  pub rests : e.place ≡ None → (e.asked == 0) ≡ true

pub record AllAreGoing (es : List Exchange) : Type 0 where
  pub rise : AreRising (map exchange_number es)
  pub each : (e : Exchange) → IsIn e es → IsGoing e

filtered : (q : Exchange → Bool) (es : List Exchange) → AllAreGoing es → AllAreGoing (filter q es)
filtered q es all = record { rise = rise_filter exchange_number q es all.rise; each = λ e i. all.each e (in_filter q e es i).0 }

changed : (n : ℕ) (f : Exchange → Exchange) → ((e : Exchange) → (f e).number ≡ e.number) → (es : List Exchange) (e : Exchange) → find (is_exchange n) es ≡ Some e → IsGoing (f e) → AllAreGoing es → AllAreGoing (change (is_exchange n) f es)
changed n f kept es e there going all = record {
  rise = rise_change exchange_number (is_exchange n) f kept es all.rise;
  each = λ d i. by d (in_change (is_exchange n) f d es i);
}
  where
    at : IsIn e es × (is_exchange n e ≡ true)
    at = in_find (is_exchange n) e es there

    by : (d : Exchange) → Changed (is_exchange n) f es d → IsGoing d
    by d (same i isnt) = all.each d i
    by d (other x i is eq) =
        let one : x ≡ e = one_of exchange_number es x e all.rise i at.0 (same_number x.number n is ∙ sym (same_number e.number n at.1)) in
        subst IsGoing (sym (eq ∙ ap f one)) going

-- ---- of a state

pub data AreGoing (s : State) : Type 0 where
  are_going : AllAreGoing s.exchanges → AreGoing s

pub going_of : {s : State} → AreGoing s → AllAreGoing s.exchanges
going_of (are_going all) = all

when : (t : Bool) {x y : State} → (t ≡ true → AreGoing x) → (t ≡ false → AreGoing y) → AreGoing (elim t as (λ c. State) [ true ↦ x | false ↦ y ])
when true hx hy = hx refl
when false hx hy = hy refl

each_of : {A : Type 0} (o : Option A) {x : State} {y : A → State} → AreGoing x → ((a : A) → o ≡ Some a → AreGoing (y a)) → AreGoing (elim o as (λ c. State) [ None ↦ x | Some a ↦ y a ])
each_of None hx hy = hx
each_of (Some a) hx hy = hy a refl

each_exchange-going : (f : Exchange → State → State) → ((n : ℕ) (e : Exchange) (s : State) → exchange s n ≡ Some e → AreGoing s → AreGoing (f e s)) → (ns : List ℕ) (s : State) → AreGoing s → AreGoing (each_exchange f ns s)
unfolding each_exchange
each_exchange-going f each [] s all = all
each_exchange-going f each (n ∷ ns) s all = each_exchange-going f each ns _ (each_of (exchange s n) all (λ e there. each n e s there all))

each_conn-going : (f : Conn → State → State) → ((k : Conn) (s : State) → AreGoing s → AreGoing (f k s)) → (ns : List ℕ) (s : State) → AreGoing s → AreGoing (each_conn f ns s)
unfolding each_conn
each_conn-going f each [] s all = all
each_conn-going f each (n ∷ ns) s all = each_conn-going f each ns _ (each_of (conn s n) all (λ k there. each k s all))

end_exchange-going : (n : ℕ) (s : State) → AreGoing s → AreGoing (end_exchange n s)
unfolding end_exchange
end_exchange-going n s all = are_going (filtered (λ e. not (is_exchange n e)) s.exchanges (going_of all))

on_client-going : (n : ℕ) (f : Client → Client) (s : State) → AreGoing s → AreGoing (on_client n f s)
unfolding on_client
on_client-going n f s all = are_going (going_of all)

on_client_of-going : (e : Exchange) (f : Client → Client) (s : State) → AreGoing s → AreGoing (on_client_of e f s)
unfolding on_client_of
on_client_of-going e f s all = are_going (going_of all)

on_conn-going : (n : ℕ) (f : Conn → Conn) (s : State) → AreGoing s → AreGoing (on_conn n f s)
unfolding on_conn
on_conn-going n f s all = are_going (going_of all)

on_exchange-going : (n : ℕ) (f : Exchange → Exchange) → ((e : Exchange) → (f e).number ≡ e.number) → (s : State) (e : Exchange) → exchange s n ≡ Some e → IsGoing (f e) → AreGoing s → AreGoing (on_exchange n f s)
unfolding on_exchange
on_exchange-going n f kept s e there going all = are_going (changed n f kept s.exchanges e there going (going_of all))

swept-going : (s : State) → AreGoing s → AreGoing (swept s)
unfolding swept
swept-going s all = are_going (going_of all)

-- ---- its connection is gone

-- one that may be asked again is somebody's
its_asker : (e : Exchange) (cs : List Client) → list_any (λ c. is_for e c && is_trying c.course) cs ≡ true → is_some e.asker ≡ true
its_asker e cs may = by e.asker refl
  where
    nobody : (ds : List Client) → e.asker ≡ None → list_any (λ c. is_for e c && is_trying c.course) ds ≡ false
    nobody [] none = refl
    nobody (d ∷ ds) none = ap (λ (o : Option ℕ). (is_this d.number o && is_trying d.course) || list_any (λ c. is_for e c && is_trying c.course) ds) none ∙ nobody ds none

    by : (o : Option ℕ) → e.asker ≡ o → is_some e.asker ≡ true
    by (Some n) is = ap (λ (o : Option ℕ). is_some o) is
    by None is = absurd (let both : true ≡ false = sym may ∙ nobody cs is in cc both)

again : (n : ℕ) (s : State) → may_ask_again s n ≡ true → AreGoing s → AreGoing (on_exchange n unplaced s)
again n s may all = by (exchange s n) refl may
  where
    by : (o : Option Exchange) → exchange s n ≡ o → is_some_with (λ e. list_any (λ c. is_for e c && is_trying c.course) s.clients) o ≡ true → AreGoing (on_exchange n unplaced s)
    by None is so = absurd (cc so)
    by (Some e) is so =
        on_exchange-going n unplaced (λ d. refl) s e is
        (record { one = ap (λ (b : Bool). not (b || false)) (its_asker e s.clients so); rests = λ none. refl })
        all

leave_place-going : (e : Exchange) (s : State) → AreGoing s → AreGoing (leave_place e s)
unfolding leave_place
leave_place-going e s all =
    when (is_headed e) (λ is. end_exchange-going e.number _ (on_client_of-going e _ s all))
    (λ isnt. when (may_ask_again s e.number) (λ may. again e.number s may all) (λ none. end_exchange-going e.number s all))

close_conn-going : (k : Conn) (s : State) → AreGoing s → AreGoing (close_conn false k s)
unfolding close_conn lose_place
close_conn-going k s all = each_exchange-going (lose_place false) (λ n e t there so. leave_place-going e t so) k.line _ (on_conn-going k.number _ s all)

drop_on-going : (k : Conn) (s : State) → AreGoing s → AreGoing (drop_on k s)
unfolding drop_on
drop_on-going k s all =
    each_of (front_of_line s k) all
    (λ e there. when (is_unseen s k e) (λ is. close_conn-going k _ (end_exchange-going e.number s all)) (λ isnt. all))

pub drop_unseen-going : (s : State) → AreGoing s → AreGoing (drop_unseen s)
unfolding drop_unseen
drop_unseen-going s all = each_conn-going drop_on drop_on-going _ s all

pub give_up_asks-going : (s : State) → AreGoing s → AreGoing (give_up_asks s)
unfolding give_up_asks
give_up_asks-going s all = are_going (filtered (λ e. not (is_useless_ask s e)) s.exchanges (going_of all))

-- ---- a client is closed

leave_one-going : (n : ℕ) (e : Exchange) (s : State) → exchange s n ≡ Some e → AreGoing s → AreGoing (leave_one e s)
unfolding leave_one
leave_one-going n e s there all = when (e.asked == 0) (λ is. end_exchange-going e.number s all) left
  where
    at : IsIn e s.exchanges × (is_exchange n e ≡ true)
    at = in_find (is_exchange n) e s.exchanges there

    its : IsGoing e
    its = (going_of all).each e at.0

    its_place : (e.asked == 0) ≡ false → (o : Option ℕ) → e.place ≡ o → is_some o ≡ true
    its_place asked (Some k) is = refl
    its_place asked None is = absurd (let both : true ≡ false = sym (its.rests is) ∙ asked in cc both)

    left : (e.asked == 0) ≡ false → AreGoing (on_exchange e.number left_alone s)
    left asked =
        on_exchange-going e.number left_alone (λ d. refl) s e (ap (λ (m : ℕ). exchange s m) (same_number e.number n at.1) ∙ there)
        (record { one = ap (λ (b : Bool). not (false || b)) (its_place asked e.place refl); rests = its.rests })
        all

pub close_client-going : (n : ℕ) (is_cut : Bool) (s : State) → AreGoing s → AreGoing (close_client n is_cut s)
unfolding close_client
close_client-going n is_cut s all = swept-going _ (each_exchange-going leave_one leave_one-going (exchanges_of n s) _ (on_client-going n _ s all))
