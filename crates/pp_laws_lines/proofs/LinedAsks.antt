-- What becomes of exchanges and connections keeps the lines: attempts, closings, places, and what followers ask for.
use Rattle.std.proofs.Common.{◌≡◌, refl, ℕ, ◌+◌, ◌-◌, ◌<◌, Bool, true, false, not, ◌==◌, ◌&&◌, ◌||◌, List, [], ◌∷◌, ◌++◌, length, is_some, Option, Some, None, option_and_then, inl, inr, sym, subst, ap, ◌∙◌, length-append, arith}
use Rattle.pp_ask.specs.Texts.{ask_text, crlf}
use Rattle.pp_ask.specs.declared.kind.AskKind.{AskKind}
use Rattle.pp_ask.specs.declared.kind.AskKind.TheVariants.{Hole as AsHole}
use Rattle.pp_head.specs.Request.{Request}
use Rattle.pp_peers.specs.declared.placing.Placed.TheVariants.{On, Dial, CloseThenDial, Wait}
use Rattle.pp_peers.specs.declared.placing.Placed.{Placed}
use Rattle.pp_target.specs.Key.{Key, text_of}
use Rattle.pp_law.proofs.OnLiterals.{pp_law_on_literals}
use Rattle.pp_law.specs.Closing.{is_of, is_over, left_alone, forsake, leave, leave_one, exchanges_of, close_client}
use Rattle.pp_law.specs.Connections.{without_ask, client, conn, exchange, is_conn, is_exchange, is_trying, each_client, each_conn, each_exchange, on_conn, on_exchange, on_client, on_client_of, attempts_of, lost_one, without_row, is_unfilled, give_up_row, charge, lose_attempt, fail, end_exchange, unplaced, may_ask_again, leave_place, lose_place, close_conn, place_for, put_on, if_unplaced, place_each, placing, Placement, WaitsDial, WaitsDrop, out_of_tries}
use Rattle.pp_law.specs.Deciding.{add_exchange, begin_exchange}
use Rattle.pp_law.specs.Decisions.{fits, lent}
use Rattle.pp_law.specs.Followers.{need_of, filling_exchange, fill_with, fill_span, fill_next, fill_for, fill, is_useless_ask, is_wanted_by, give_up_asks}
use Rattle.pp_law.specs.Lists.{Bytes, change, is_some_with}
use Rattle.pp_law.specs.Stages.{filled_of, is_headed, on_passed}
use Rattle.pp_law.specs.State.{State, AskTooLong, Course, Client, Conn, Exchange}
use Rattle.std.specs.List.{list_any}
use Rattle.pp_law.specs.Table.{Next, clear, next_of, swept}
use Rattle.pp_laws.specs.Runs.{IsIn}
use Rattle.pp_laws.proofs.Closings.{IsOwnLine}
use Rattle.pp_laws.proofs.Lists.{Changed, in_change, in_find, in_map, one_of, other, same}
use Rattle.pp_laws.proofs.Shrinks.{NoLine, Shrinks, lose_attempt-shrinks, lose_place-shrinks, no_line_shrunk, off, shrinks_each, shrinks_same}
use Rattle.pp_laws.proofs.Sound.{conn_number, exchange_number}
use Rattle.pp_laws.proofs.Tests.{number_same, same_number}
use Rattle.pp_laws_bounds.proofs.Places.{HasRoom, on_room}
use Rattle.pp_laws_passed.proofs.Same.{itself}
use Rattle.pp_laws_passed.proofs.SameRows.{clear-same, swept-same}
use Rattle.pp_laws_lines.proofs.Cases.{by_front, by_result, each_of, each_so, when, when_so}
use Rattle.pp_laws_lines.proofs.Lined.{Lined, MayEnd, SameConn, conns_changed, conns_off, ended_facts, exchange_added, exchange_moved, exchanges_changed, exchanges_fewer, facts_of, lined, of_fresh, pushed_facts, still}
use Rattle.pp_laws_lines.proofs.Hosts.{GoesTo, IsToHost, goes_as, goes_with, on_host}
use Rattle.pp_laws_lines.proofs.Stands.{SameAsk, Since}

pub clear-lined : {b : Since} (key : Bytes) (s : State) → Lined b s → Lined b (clear key s)
clear-lined key s h = still (clear-same key s (itself s)) h

pub swept-lined : {b : Since} (s : State) → Lined b s → Lined b (swept s)
swept-lined s h = still (swept-same s (itself s)) h

pub on_conn-lined : {b : Since} (n : ℕ) (f : Conn → Conn) (s : State) → ((k : Conn) → SameConn (f k) k) → Lined b s → Lined b (on_conn n f s)
unfolding on_conn
on_conn-lined {b} n f s kept h = lined (conns_changed b s (is_conn n) f kept (facts_of h))

pub on_exchange-lined : {b : Since} (n : ℕ) (f : Exchange → Exchange) (s : State) → ((e : Exchange) → SameAsk (f e) e) → Lined b s → Lined b (on_exchange n f s)
unfolding on_exchange
on_exchange-lined {b} n f s kept h = lined (exchanges_changed b s (is_exchange n) f kept (facts_of h))

pub on_client-lined : {b : Since} (n : ℕ) (f : Client → Client) (s : State) → Lined b s → Lined b (on_client n f s)
unfolding on_client
on_client-lined n f s h = lined (facts_of h)

pub on_client_of-lined : {b : Since} (e : Exchange) (f : Client → Client) (s : State) → Lined b s → Lined b (on_client_of e f s)
unfolding on_client_of
on_client_of-lined e f s h = lined (facts_of h)

-- ---- of these numbers one behind the other

pub each_client-lined : {b : Since} (f : Client → State → State) → ((c : Client) (s : State) → Lined b s → Lined b (f c s)) → (ns : List ℕ) (s : State) → Lined b s → Lined b (each_client f ns s)
unfolding each_client
each_client-lined f each [] s h = h
each_client-lined f each (n ∷ ns) s h = each_client-lined f each ns _ (each_of (client s n) h (λ c. each c s h))

pub each_conn-lined : {b : Since} (f : Conn → State → State) → ((k : Conn) (s : State) → IsIn k s.conns → Lined b s → Lined b (f k s)) → (ns : List ℕ) (s : State) → Lined b s → Lined b (each_conn f ns s)
unfolding each_conn
each_conn-lined f each [] s h = h
each_conn-lined f each (n ∷ ns) s h = each_conn-lined f each ns _ (each_so (conn s n) (λ none. h) (λ k found. each k s (in_find (is_conn n) k s.conns found).0 h))

pub each_exchange-lined : {b : Since} (f : Exchange → State → State) → ((e : Exchange) (s : State) → IsIn e s.exchanges → Lined b s → Lined b (f e s)) → (ns : List ℕ) (s : State) → Lined b s → Lined b (each_exchange f ns s)
unfolding each_exchange
each_exchange-lined f each [] s h = h
each_exchange-lined f each (n ∷ ns) s h = each_exchange-lined f each ns _ (each_so (exchange s n) (λ none. h) (λ e found. each e s (in_find (is_exchange n) e s.exchanges found).0 h))

-- ---- attempts

left_alone-same : (e : Exchange) → SameAsk (left_alone e) e
left_alone-same e = record { number = refl; place = refl; text = refl; asked = refl; left = refl; key = refl; head = refl; aim = refl }

give_up_row-lined : {b : Since} (e : Exchange) (s : State) → Lined b s → Lined b (give_up_row e s)
unfolding give_up_row
give_up_row-lined e s h = when (is_unfilled s e) (on_exchange-lined e.number left_alone _ left_alone-same (on_client_of-lined e without_row _ (clear-lined (text_of e.key) s h))) h

charge-lined : {b : Since} (cost : Course → Course) (e : Exchange) (s : State) → Lined b s → Lined b (charge cost e s)
unfolding charge
charge-lined cost e s h = give_up_row-lined e _ (on_client_of-lined e (λ c. record c { course = cost c.course }) s h)

pub lose_attempt-lined : {b : Since} (e : Exchange) (s : State) → Lined b s → Lined b (lose_attempt e s)
unfolding lose_attempt
lose_attempt-lined e s h = charge-lined (lost_one (attempts_of e)) e s h

pub fail-lined : {b : Since} (e : Exchange) (s : State) → Lined b s → Lined b (fail e s)
unfolding fail
fail-lined e s h = charge-lined out_of_tries e s h

pub end_exchange-lined : {b : Since} (n : ℕ) (s : State) → ((k : Conn) → IsIn k s.conns → IsIn n k.line → MayEnd b n s.exchanges k) → Lined b s → Lined b (end_exchange n s)
unfolding end_exchange
end_exchange-lined {b} n s may h = lined (ended_facts b n s may (facts_of h))

-- ---- exchanges that are left, and clients that are closed

pub forsake-lined : {b : Since} (test : Exchange → Bool) (s : State) → Lined b s → Lined b (forsake test s)
unfolding forsake
forsake-lined {b} test s h = lined (exchanges_changed b s test left_alone left_alone-same (facts_of h))

over_nowhere : (e : Exchange) → not (is_over e) ≡ false → e.place ≡ None
over_nowhere e is = by (is_some e.asker) e.place refl is
  where
    by : (a : Bool) (p : Option ℕ) → e.place ≡ p → not (not (a || is_some p)) ≡ false → e.place ≡ None
    by a None place at = place
    by true (Some k) place at = absurd (cc at)
    by false (Some k) place at = absurd (cc at)

pub leave-lined : {b : Since} (test : Exchange → Bool) (s : State) → Lined b s → Lined b (leave test s)
unfolding leave
leave-lined {b} test s h = lined (exchanges_fewer b (forsake test s) (λ e. not (is_over e)) over_nowhere (facts_of (forsake-lined test s h)))

leave_one-lined : {b : Since} (e : Exchange) (s : State) → IsIn e s.exchanges → Lined b s → Lined b (leave_one e s)
unfolding leave_one
leave_one-lined e s there h = when_so (e.asked == 0) (λ none. end_exchange-lined e.number s (λ k i l. of_fresh e there refl (same_number e.asked 0 none)) h) (λ some. on_exchange-lined e.number left_alone s left_alone-same h)

pub close_client-lined : {b : Since} (n : ℕ) (is_cut : Bool) (s : State) → Lined b s → Lined b (close_client n is_cut s)
unfolding close_client
close_client-lined n is_cut s h = swept-lined _ (each_exchange-lined leave_one (λ e t there ht. leave_one-lined e t there ht) (exchanges_of n s) _ (on_client-lined n (λ c. record c { is_closing = true; is_cut = c.is_cut || is_cut }) s h))

-- ---- connections that are closed

leave_place-lined : {b : Since} (e : Exchange) (s : State) → b.kept ≡ None → NoLine e.number s → Lined b s → Lined b (leave_place e s)
unfolding leave_place on_client_of on_exchange
leave_place-lined {b} e s none no_line h =
    when (is_headed e)
    (end_exchange-lined e.number _ gone (on_client_of-lined e (on_passed (λ p. record p { is_short = true })) s h))
    (when (may_ask_again s e.number) again (end_exchange-lined e.number s (λ k i l. absurd (no_line k i l)) h))
  where
    gone : (k : Conn) → IsIn k (on_client_of e (on_passed (λ p. record p { is_short = true })) s).conns → IsIn e.number k.line → MayEnd b e.number (on_client_of e (on_passed (λ p. record p { is_short = true })) s).exchanges k
    gone k i l = absurd (no_line k i l)

    again : Lined b (on_exchange e.number unplaced s)
    again = lined (exchange_moved b s e.number unplaced none (λ x. refl) (λ x. refl) no_line (facts_of h))

lose_place-lined : {b : Since} (counts : Bool) (e : Exchange) (s : State) → b.kept ≡ None → NoLine e.number s → Lined b s → Lined b (lose_place counts e s)
unfolding lose_place
lose_place-lined counts e s none no_line h =
    when counts (leave_place-lined e _ none (no_line_shrunk e.number s _ (lose_attempt-shrinks e s) no_line) (lose_attempt-lined e s h)) (leave_place-lined e s none no_line h)

-- of these, what is still there is in no line
abbrev NotInLines : List ℕ → State → Type 0
NotInLines line s = (n : ℕ) (e : Exchange) → IsIn n line → IsIn e s.exchanges → e.number ≡ n → NoLine n s

not_in_shrunk : (line : List ℕ) (s t : State) → Shrinks s t → NotInLines line s → NotInLines line t
not_in_shrunk line s t shrinks not_in n e i j is k m l =
    let f = shrinks.exchanges e j in
    let g = shrinks.conns k m in
    not_in n f.0 i f.1 (sym f.2 ∙ is) g.0 g.1 (g.3 n l)

lose_places-lined : {b : Since} (counts : Bool) (line : List ℕ) (s : State) → b.kept ≡ None → NotInLines line s → Lined b s → Lined b (each_exchange (lose_place counts) line s)
unfolding each_exchange
lose_places-lined counts [] s none not_in h = h
lose_places-lined {b} counts (n ∷ line) s none not_in h =
    lose_places-lined counts line _ none
    (not_in_shrunk line s _ (shrinks_each s (exchange s n) (shrinks_same s) (λ e. lose_place-shrinks counts e s)) (λ m e i j is. not_in m e (inr i) j is))
    (each_so (exchange s n) (λ isnt. h) (λ e found. by e (in_find (is_exchange n) e s.exchanges found)))
  where
    by : (e : Exchange) → IsIn e s.exchanges × (is_exchange n e ≡ true) → Lined b (lose_place counts e s)
    by e there = lose_place-lined counts e s none (not_in e.number e (inl (same_number e.number n there.1)) there.0 refl) h

pub own_line : {b : Since} (k : Conn) (s : State) → IsIn k s.conns → Lined b s → IsOwnLine k s
own_line k s i h e j m l n r = let both : Some j.number ≡ Some k.number = sym ((facts_of h).placed j e n m r) ∙ (facts_of h).placed k e i m l in cc both

off-lined : {b : Since} (n : ℕ) (s : State) → Lined b s → Lined b (on_conn n off s)
unfolding on_conn
off-lined {b} n s h = lined (conns_off b s n (facts_of h))

off-not_in : (k : Conn) (s : State) → IsOwnLine k s → NotInLines k.line (on_conn k.number off s)
unfolding on_conn
off-not_in k s own n e i m is j at l = by (in_change (is_conn k.number) off j s.conns at)
  where
    by : Changed (is_conn k.number) off s.conns j → ⊥
    by (same there isnt) =
        let number : j.number ≡ k.number = own e j m (subst (λ x. IsIn x k.line) (sym is) i) there (subst (λ x. IsIn x j.line) (sym is) l) in
        let both : true ≡ false = sym (number_same k.number) ∙ sym (ap (λ x. x == k.number) number) ∙ isnt in
        cc both
    by (other g there hit eq) = subst (λ (x : Conn). IsIn n x.line) eq l

pub close_conn-lined : {b : Since} (counts : Bool) (k : Conn) (s : State) → b.kept ≡ None → IsOwnLine k s → Lined b s → Lined b (close_conn counts k s)
unfolding close_conn
close_conn-lined counts k s none own h = lose_places-lined (counts && not k.has_brought) k.line _ none (off-not_in k s own) (off-lined k.number s h)

-- all of that number are closed then
abbrev pub AreShut : ℕ → State → Type 0
AreShut n s = (k : Conn) → IsIn k s.conns → k.number ≡ n → k.is_closing ≡ true

shut_off : (n : ℕ) (s : State) → AreShut n (on_conn n off s)
unfolding on_conn
shut_off n s k i is = by (in_change (is_conn n) off k s.conns i)
  where
    by : Changed (is_conn n) off s.conns k → k.is_closing ≡ true
    by (same j isnt) = let both : true ≡ false = sym (number_same n) ∙ ap (λ m. m == n) (sym is) ∙ isnt in absurd (cc both)
    by (other g j hit eq) = ap (λ (x : Conn). x.is_closing) eq

-- what loses its place opens none
conns_ended : (n m : ℕ) (s : State) → AreShut n s → AreShut n (end_exchange m s)
unfolding end_exchange
conns_ended n m s shut k i is = let r = in_map (without_ask m) k s.conns i in ap (λ (x : Conn). x.is_closing) r.is ∙ shut r.was r.there (sym (ap (λ (x : Conn). x.number) r.is) ∙ is)

given_up_shut : (n : ℕ) (e : Exchange) (s : State) → AreShut n s → AreShut n (give_up_row e s)
unfolding give_up_row on_exchange on_client_of clear swept
given_up_shut n e s shut = by (is_unfilled s e)
  where
    by : (t : Bool) → AreShut n (elim t as (λ x. State) [ false ↦ s | true ↦ on_exchange e.number left_alone (on_client_of e without_row (clear (text_of e.key) s)) ])
    by false = shut
    by true = shut

lost_shut : (n : ℕ) (e : Exchange) (s : State) → AreShut n s → AreShut n (lose_attempt e s)
unfolding lose_attempt charge on_client_of
lost_shut n e s shut = given_up_shut n e (on_client_of e (λ c. record c { course = lost_one (attempts_of e) c.course }) s) shut

shut_when : (n : ℕ) (t : Bool) (x y : State) → AreShut n x → AreShut n y → AreShut n (elim t as (λ c. State) [ true ↦ x | false ↦ y ])
shut_when n true x y hx hy = hx
shut_when n false x y hx hy = hy

left_shut : (n : ℕ) (e : Exchange) (s : State) → AreShut n s → AreShut n (leave_place e s)
unfolding leave_place on_exchange on_client_of
left_shut n e s shut = shut_when n (is_headed e) _ _ (conns_ended n e.number _ shut) (shut_when n (may_ask_again s e.number) _ _ shut (conns_ended n e.number s shut))

lost_place_shut : (n : ℕ) (counts : Bool) (e : Exchange) (s : State) → AreShut n s → AreShut n (lose_place counts e s)
unfolding lose_place
lost_place_shut n counts e s shut = shut_when n counts _ _ (left_shut n e _ (lost_shut n e s shut)) (left_shut n e s shut)

lost_places_shut : (n : ℕ) (counts : Bool) (line : List ℕ) (s : State) → AreShut n s → AreShut n (each_exchange (lose_place counts) line s)
unfolding each_exchange
lost_places_shut n counts [] s shut = shut
lost_places_shut n counts (m ∷ line) s shut = lost_places_shut n counts line _ (by (exchange s m))
  where
    by : (o : Option Exchange) → AreShut n (elim o as (λ c. State) [ None ↦ s | Some e ↦ lose_place counts e s ])
    by None = shut
    by (Some e) = lost_place_shut n counts e s shut

pub closed_shut : (counts : Bool) (k : Conn) (s : State) → AreShut k.number (close_conn counts k s)
unfolding close_conn
closed_shut counts k s = lost_places_shut k.number (counts && not k.has_brought) k.line _ (shut_off k.number s)

-- ---- places

-- it has no place, and stands in no line
pub record IsReady (n : ℕ) (s : State) : Type 0 where
  pub no_line : NoLine n s
  pub given : n < s.next_exchange

pub put_on-lined : {b : Since} (n k : ℕ) (s : State) → b.kept ≡ None → IsReady n s → ((j : Conn) → IsIn j s.conns → j.number ≡ k → j.is_closing ≡ false) → ((e : Exchange) (j : Conn) → IsIn e s.exchanges → e.number ≡ n → IsIn j s.conns → j.number ≡ k → GoesTo e j) → Lined b s
    → Lined b (put_on n k s)
unfolding put_on on_conn on_exchange
put_on-lined {b} n k s none ready open_one goes h =
    lined (pushed_facts b n k (record s { exchanges = change (is_exchange n) (λ e. record e { place = Some k; asked = 0 }) s.exchanges }) ready.given (λ e i is. fresh_by e is (in_change (is_exchange n) (λ d. record d { place = Some k; asked = 0 }) e s.exchanges i)) open_one ready.no_line
    (λ e j i is at number. goes_by e j is (in_change (is_exchange n) (λ d. record d { place = Some k; asked = 0 }) e s.exchanges i) at number)
    (exchange_moved b s n (λ e. record e { place = Some k; asked = 0 }) none (λ e. refl) (λ e. refl) ready.no_line (facts_of h)))
  where
    fresh_by : (e : Exchange) → e.number ≡ n → Changed (is_exchange n) (λ d. record d { place = Some k; asked = 0 }) s.exchanges e → (e.asked ≡ 0) × (e.place ≡ Some k)
    fresh_by e is (same i isnt) = let both : true ≡ false = sym (number_same n) ∙ ap (λ m. m == n) (sym is) ∙ isnt in absurd (cc both)
    fresh_by e is (other d i hit eq) = (ap (λ (x : Exchange). x.asked) eq, ap (λ (x : Exchange). x.place) eq)

    goes_by : (e : Exchange) (j : Conn) → e.number ≡ n → Changed (is_exchange n) (λ d. record d { place = Some k; asked = 0 }) s.exchanges e → IsIn j s.conns → j.number ≡ k → GoesTo e j
    goes_by e j is (same i isnt) at number = goes e j i is at number
    goes_by e j is (other d i hit eq) at number = goes_as e d j (ap (λ (x : Exchange). x.key) eq) (goes d j i (same_number d.number n hit) at number)

-- where there is room, it is open
open_by : {b : Since} (s : State) (k : ℕ) → HasRoom s k → Lined b s → (j : Conn) → IsIn j s.conns → j.number ≡ k → j.is_closing ≡ false
open_by s k room h j i is = ap (λ (x : Conn). x.is_closing) (one_of conn_number s.conns j room.conn (facts_of h).apart i room.there (is ∙ sym room.number)) ∙ room.is_open

-- where one of its host is, it goes there
host_by : {b : Since} (n k : ℕ) (e : Exchange) (s : State) → IsIn e s.exchanges → e.number ≡ n → IsToHost s e k → Lined b s → (d : Exchange) (j : Conn) → IsIn d s.exchanges → d.number ≡ n → IsIn j s.conns → j.number ≡ k → GoesTo d j
host_by n k e s there number to h d j i is at at_k =
    let it : d ≡ e = one_of exchange_number s.exchanges d e (facts_of h).rise i there (is ∙ sym number) in
    let its : j ≡ to.conn = one_of conn_number s.conns j to.conn (facts_of h).apart at to.there (at_k ∙ sym to.number) in
    goes_as d e j (ap (λ (x : Exchange). x.key) it) (goes_with e j to.conn (ap (λ (x : Conn). x.host) its) (ap (λ (x : Conn). x.port) its) to.goes)

ready : {b : Since} (e : Exchange) (s : State) → IsIn e s.exchanges → e.place ≡ None → Lined b s → IsReady e.number s
ready e s i none h = record {
  no_line = λ k j l. let both : None ≡ Some k.number = sym none ∙ (facts_of h).placed k e j i l in cc both;
  given = (facts_of h).given e i;
}

unplaced_by : (d e : Exchange) (place : Option ℕ) → d.place ≡ place → (elim place as (λ c. Option Exchange) [ Some k ↦ None | None ↦ Some d ]) ≡ Some e → (d ≡ e) × (d.place ≡ None)
unplaced_by d e None none is = (cc, none)
unplaced_by d e (Some k) some is = absurd (cc is)

unplaced_in : (o : Option Exchange) (e : Exchange) → option_and_then if_unplaced o ≡ Some e → (o ≡ Some e) × (e.place ≡ None)
unplaced_in None e is = absurd (cc is)
unplaced_in (Some d) e is = let w = unplaced_by d e d.place refl is in (ap (λ x. Some x) w.0, subst (λ (x : Exchange). x.place ≡ None) w.0 w.1)

unplaced_ready : {b : Since} (n : ℕ) (s : State) (e : Exchange) → option_and_then if_unplaced (exchange s n) ≡ Some e → Lined b s → IsReady n s × IsReady e.number s × IsIn e s.exchanges × (e.number ≡ n)
unplaced_ready {b} n s e is h = (subst (λ m. IsReady m s) (same_number e.number n there.1) it, it, there.0, same_number e.number n there.1)
  where
    w : (exchange s n ≡ Some e) × (e.place ≡ None)
    w = unplaced_in (exchange s n) e is

    there : IsIn e s.exchanges × (is_exchange n e ≡ true)
    there = in_find (is_exchange n) e s.exchanges w.0

    it : IsReady e.number s
    it = ready e s there.0 w.1 h

-- the state behind it, and the one for which a dial is waited for: it is there
pub record Settles (b : Since) (p : Placement) : Type 0 where
  pub state : Lined b p.state
  pub dial : (e : Exchange) → p.pause ≡ WaitsDial e → IsReady e.number p.state
  pub there : (e : Exchange) → p.pause ≡ WaitsDial e → IsIn e p.state.exchanges

place_by : {b : Since} (n : ℕ) (e : Exchange) (ns : List ℕ) (s : State) (wanted : Placed) → b.kept ≡ None → place_for s e ≡ wanted → IsReady n s → IsReady e.number s → IsIn e s.exchanges → e.number ≡ n → ((t : State) → Lined b t → Settles b (place_each ns t)) → Lined b s
    → Settles b (elim wanted as (λ c. Placement) [
      | On k ↦ place_each ns (put_on n k s)
      | Wait ↦ place_each ns s
      | Dial ↦ record { state = s; pause = WaitsDial e }
      | CloseThenDial k ↦ record { state = s; pause = WaitsDrop k e }
    ])
place_by n e ns s (On k) none is its_ready its there number rest h = rest (put_on n k s) (put_on-lined n k s none its_ready (open_by s k (on_room s e k is) h) (host_by n k e s there number (on_host s e k is) h) h)
place_by n e ns s Wait none is its_ready its there number rest h = rest s h
place_by n e ns s Dial none is its_ready its there number rest h = record {
  state = h;
  dial = λ d eq. let one : e ≡ d = cc in subst (λ (x : Exchange). IsReady x.number s) one its;
  there = λ d eq. let one : e ≡ d = cc in subst (λ (x : Exchange). IsIn x s.exchanges) one there;
}
place_by n e ns s (CloseThenDial k) none is its_ready its there number rest h = record { state = h; dial = λ d eq. absurd (cc eq); there = λ d eq. absurd (cc eq) }

place_at : {b : Since} (unplaced : Option Exchange) (p : Placement) (q : Exchange → Placement) → Settles b p → ((e : Exchange) → unplaced ≡ Some e → Settles b (q e))
    → Settles b (elim unplaced as (λ c. Placement) [ None ↦ p | Some e ↦ q e ])
place_at None p q hp hq = hp
place_at (Some e) p q hp hq = hq e refl

place_each-lined : {b : Since} (ns : List ℕ) (s : State) → b.kept ≡ None → Lined b s → Settles b (place_each ns s)
place_each-lined [] s none h = record { state = h; dial = λ e is. absurd (cc is); there = λ e is. absurd (cc is) }
place_each-lined (n ∷ ns) s none h =
    place_at (option_and_then if_unplaced (exchange s n)) _ _ (place_each-lined ns s none h)
    (λ e is. let w = unplaced_ready n s e is h in place_by n e ns s (place_for s e) none refl w.0 w.1 w.2 w.3 (λ t ht. place_each-lined ns t none ht) h)

pub placing-lined : {b : Since} (s : State) → b.kept ≡ None → Lined b s → Settles b (placing s)
placing-lined s none h = place_each-lined _ s none h

-- ---- an exchange begins

crlf_is : crlf ≡ 13 ∷ 10 ∷ []
unfolding pp_law_on_literals
crlf_is = refl

-- no ask is empty
pub text_some : (kind : AskKind) (head : Request) (key : Key) (name : Bytes) → 0 < length (ask_text kind head key name)
text_some kind head key name = ends _ crlf (ap (λ (bs : Bytes). length bs) crlf_is)
  where
    ends : (xs ys : Bytes) → length ys ≡ 2 → 0 < length (xs ++ ys)
    ends xs ys is = let sum : length (xs ++ ys) ≡ length xs + length ys = length-append xs ys in omega arith

left_next : (test : Exchange → Bool) (s : State) → (leave test s).next_exchange ≡ s.next_exchange
unfolding leave forsake
left_next test s = refl

pub begin_exchange-lined : {b : Since} (e : Exchange) (s : State) → b.kept ≡ None → e.number ≡ s.next_exchange → 0 < length e.text → Lined b s → Lined b (begin_exchange e s)
unfolding begin_exchange add_exchange
begin_exchange-lined {b} e s none number spelled h =
    let test : Exchange → Bool = λ x. is_some_with (λ n. is_of n x) e.asker in
    lined (exchange_added b (leave test s) e none (number ∙ sym (left_next test s)) spelled (facts_of (leave-lined test s h)))

-- ---- what followers ask for

fill_with-lined : {b : Since} (e : Exchange) (c : Client) (s : State) → b.kept ≡ None → e.number ≡ s.next_exchange → 0 < length e.text → Lined b s → Lined b (fill_with e c s)
unfolding fill_with
fill_with-lined e c s none number spelled h = when (fits e.text) (begin_exchange-lined e s none number spelled h) (on_client-lined c.number (λ x. record x { course = AskTooLong }) s h)

fill_span-lined : {b : Since} (c : Client) (n : Next) (span : ℕ × ℕ) (s : State) → b.kept ≡ None → Lined b s → Lined b (fill_span c n span s)
unfolding fill_span
fill_span-lined c n span s none h = by_front c.front h (λ status. h) (λ r. by_result r.key (λ key. fill_with-lined (filling_exchange s c r.head key n span) c s none refl (text_some (AsHole span.0 (span.1 - 1) (lent n.source.version.tag)) r.head key s.settings.name) h) (λ fault. h))

fill_for-lined : {b : Since} (c : Client) (s : State) → b.kept ≡ None → Lined b s → Lined b (fill_for c s)
unfolding fill_for fill_next
fill_for-lined c s none h = when (is_trying c.course) (each_of (next_of s c) h (λ n. each_of (need_of s n) h (λ span. fill_span-lined c n span s none h))) h

pub fill-lined : {b : Since} (s : State) → b.kept ≡ None → Lined b s → Lined b (fill s)
unfolding fill
fill-lined s none h = when s.is_stopped h (each_client-lined fill_for (λ c t ht. fill_for-lined c t none ht) _ s h)

useless_nowhere : (s : State) (e : Exchange) → not (is_useless_ask s e) ≡ false → e.place ≡ None
useless_nowhere s e is = by (is_some (filled_of e)) e.place (list_any (is_wanted_by s e) s.clients) refl is
  where
    by : (a : Bool) (p : Option ℕ) (w : Bool) → e.place ≡ p → not (a && not (is_some p) && not w) ≡ false → e.place ≡ None
    by a None w place at = place
    by true (Some k) w place at = absurd (cc at)
    by false (Some k) w place at = absurd (cc at)

pub give_up_asks-lined : {b : Since} (s : State) → Lined b s → Lined b (give_up_asks s)
unfolding give_up_asks
give_up_asks-lined {b} s h = lined (exchanges_fewer b s (λ e. not (is_useless_ask s e)) (useless_nowhere s) (facts_of h))
