-- Asks, their ends, connections and places keep what is still to come.
use Rattle.std.proofs.Common.{◌≡◌, ◌⊎◌, ◌<◌, refl, ℕ, Bool, true, false, ◌==◌, ◌&&◌, ◌||◌, not, List, [], ◌∷◌, ◌++◌, Option, Some, None, option_and_then, inl, inr, sym, subst, ap, ◌∙◌}
use Rattle.pp_peers.specs.declared.placing.Placed.TheVariants.{On, Dial, CloseThenDial, Wait}
use Rattle.pp_peers.specs.declared.placing.Placed.{Placed}
use Rattle.pp_target.specs.Key.{text_of}
use Rattle.pp_law.specs.Closing.{is_over, left_alone, forsake, leave, leave_one, exchanges_of, close_client}
use Rattle.pp_law.specs.Connections.{client, conn, exchange, is_conn, is_exchange, each_client, each_conn, each_exchange, on_conn, on_exchange, on_client, on_client_of, attempts_of, lost_one, out_of_tries, without_row, is_unfilled, give_up_row, charge, lose_attempt, fail, is_trying, may_ask_again, without_ask, end_exchange, unplaced, leave_place, lose_place, close_conn, place_for, put_on, if_unplaced, place_each, placing, Placement, WaitsDial, WaitsDrop}
use Rattle.pp_law.specs.Deciding.{add_exchange, begin_exchange}
use Rattle.pp_law.specs.Decisions.{fits}
use Rattle.pp_law.specs.Followers.{need_of, filling_exchange, fill_with, fill_span, fill_next, fill_for, fill, give_up_asks, is_useless_ask}
use Rattle.pp_law.specs.Lists.{change}
use Rattle.pp_law.specs.Stages.{bound_of, is_headed, on_passed}
use Rattle.pp_law.specs.State.{State, AskTooLong, Course, Answer, Bound, Client, Conn, Exchange}
use Rattle.pp_law.specs.Table.{Next, next_of}
use Rattle.pp_laws.specs.Runs.{IsIn}
use Rattle.pp_laws.proofs.Lists.{Changed, changed_at, in_change, in_filter, in_find, in_push, one_of, other, same}
use Rattle.pp_laws.proofs.Places.{IsReady, put_on-sound}
use Rattle.pp_laws.proofs.Sound.{Since, Sound, exchange_number, facts_of as sound_facts}
use Rattle.pp_laws.proofs.Tests.{same_number}
use Rattle.pp_laws_brought.proofs.Cases.{by_front, by_result, each_of, when}
use Rattle.pp_laws_brought.proofs.Rows.{clear-keeps, swept-keeps}
use Rattle.pp_laws_brought.proofs.View.{Apart, Facts, Fits, Holds, Lesser, SameBound, ask_pushed, asks_filtered, asks_mapped, bound_same, conns_mapped, facts_of, holds, lines_of, plain}

-- ---- what is changed as it is, and what is not

lesser_same : (k : Conn) → Lesser k k
lesser_same k = record { number = refl; line = λ n i. i; answer = λ a is. is }

lesser_at : (f : Conn → Conn) (k : Conn) (t : Bool) → Lesser (f k) k → Lesser (elim t as (λ c. Conn) [ true ↦ f k | false ↦ k ]) k
lesser_at f k true less = less
lesser_at f k false less = lesser_same k

bound_at : (f : Exchange → Exchange) (e : Exchange) (t : Bool) → SameBound (f e) e → SameBound (elim t as (λ c. Exchange) [ true ↦ f e | false ↦ e ]) e
bound_at f e true same_bound = same_bound
bound_at f e false same_bound = bound_same e

-- its body is as it was
pub as_bound : (d e : Exchange) → d.number ≡ e.number → bound_of d ≡ bound_of e → SameBound d e
as_bound d e number bound = record { number = number; bound = λ b is. record { bound = b; is = sym bound ∙ is; next = refl; to = refl } }

pub as_lined : (j k : Conn) → j.number ≡ k.number → j.line ≡ k.line → j.answer ≡ k.answer → Lesser j k
as_lined j k number line answer = record { number = number; line = λ n i. subst (λ ns. IsIn n ns) line i; answer = λ a is. sym answer ∙ is }

pub changed-asks : {but : Apart} (p : Exchange → Bool) (f : Exchange → Exchange) (cs : List Conn) (es : List Exchange) → ((e : Exchange) → SameBound (f e) e) → Facts but cs es → Facts but cs (change p f es)
changed-asks p f cs es same_bound h = asks_mapped (changed_at p f) cs es (λ e. bound_at f e (p e) (same_bound e)) h

pub on_conn-keeps : {but : Apart} (n : ℕ) (f : Conn → Conn) (s : State) → ((k : Conn) → Lesser (f k) k) → Holds but s → Holds but (on_conn n f s)
unfolding on_conn
on_conn-keeps n f s lesser h = holds (conns_mapped (changed_at (is_conn n) f) s.conns s.exchanges (λ k. lesser_at f k (is_conn n k) (lesser k)) (facts_of h))

pub on_exchange-keeps : {but : Apart} (n : ℕ) (f : Exchange → Exchange) (s : State) → ((e : Exchange) → SameBound (f e) e) → Holds but s → Holds but (on_exchange n f s)
unfolding on_exchange
on_exchange-keeps n f s same_bound h = holds (changed-asks (is_exchange n) f s.conns s.exchanges same_bound (facts_of h))

pub on_client-keeps : {but : Apart} (n : ℕ) (f : Client → Client) (s : State) → Holds but s → Holds but (on_client n f s)
unfolding on_client
on_client-keeps n f s h = holds (facts_of h)

pub on_client_of-keeps : {but : Apart} (e : Exchange) (f : Client → Client) (s : State) → Holds but s → Holds but (on_client_of e f s)
unfolding on_client_of
on_client_of-keeps e f s h = holds (facts_of h)

-- ---- of these numbers one behind the other

pub each_client-keeps : {but : Apart} (f : Client → State → State) → ((c : Client) (s : State) → Holds but s → Holds but (f c s)) → (ns : List ℕ) (s : State) → Holds but s → Holds but (each_client f ns s)
unfolding each_client
each_client-keeps f each [] s h = h
each_client-keeps f each (n ∷ ns) s h = each_client-keeps f each ns _ (each_of (client s n) h (λ c. each c s h))

pub each_conn-keeps : {but : Apart} (f : Conn → State → State) → ((k : Conn) (s : State) → Holds but s → Holds but (f k s)) → (ns : List ℕ) (s : State) → Holds but s → Holds but (each_conn f ns s)
unfolding each_conn
each_conn-keeps f each [] s h = h
each_conn-keeps f each (n ∷ ns) s h = each_conn-keeps f each ns _ (each_of (conn s n) h (λ k. each k s h))

pub each_exchange-keeps : {but : Apart} (f : Exchange → State → State) → ((e : Exchange) (s : State) → Holds but s → Holds but (f e s)) → (ns : List ℕ) (s : State) → Holds but s → Holds but (each_exchange f ns s)
unfolding each_exchange
each_exchange-keeps f each [] s h = h
each_exchange-keeps f each (n ∷ ns) s h = each_exchange-keeps f each ns _ (each_of (exchange s n) h (λ e. each e s h))

-- ---- attempts

give_up_row-keeps : {but : Apart} (e : Exchange) (s : State) → Holds but s → Holds but (give_up_row e s)
unfolding give_up_row
give_up_row-keeps e s h =
    when (is_unfilled s e) (on_exchange-keeps e.number (λ x. record x { asker = None }) _ (λ x. as_bound _ x refl refl) (on_client_of-keeps e without_row _ (clear-keeps (text_of e.key) s h))) h

charge-keeps : {but : Apart} (cost : Course → Course) (e : Exchange) (s : State) → Holds but s → Holds but (charge cost e s)
unfolding charge
charge-keeps cost e s h = give_up_row-keeps e _ (on_client_of-keeps e (λ c. record c { course = cost c.course }) s h)

pub lose_attempt-keeps : {but : Apart} (e : Exchange) (s : State) → Holds but s → Holds but (lose_attempt e s)
unfolding lose_attempt
lose_attempt-keeps e s h = charge-keeps (lost_one (attempts_of e)) e s h

pub fail-keeps : {but : Apart} (e : Exchange) (s : State) → Holds but s → Holds but (fail e s)
unfolding fail
fail-keeps e s h = charge-keeps out_of_tries e s h

pub end_exchange-keeps : {but : Apart} (n : ℕ) (s : State) → Holds but s → Holds but (end_exchange n s)
unfolding end_exchange
end_exchange-keeps n s h = holds (conns_mapped (without_ask n) s.conns _ (λ k. record { number = refl; line = λ m i. (in_filter (λ x. not (x == n)) m k.line i).0; answer = λ a is. is }) (asks_filtered (λ e. not (is_exchange n e)) s.conns s.exchanges (facts_of h)))

-- ---- exchanges that are left, and clients that are closed

pub forsake-keeps : {but : Apart} (test : Exchange → Bool) (s : State) → Holds but s → Holds but (forsake test s)
unfolding forsake
forsake-keeps test s h = holds (changed-asks test left_alone s.conns s.exchanges (λ e. as_bound _ e refl refl) (facts_of h))

pub leave-keeps : {but : Apart} (test : Exchange → Bool) (s : State) → Holds but s → Holds but (leave test s)
unfolding leave
leave-keeps test s h = holds (asks_filtered (λ e. not (is_over e)) (forsake test s).conns (forsake test s).exchanges (facts_of (forsake-keeps test s h)))

leave_one-keeps : {but : Apart} (e : Exchange) (s : State) → Holds but s → Holds but (leave_one e s)
unfolding leave_one
leave_one-keeps e s h = when (e.asked == 0) (end_exchange-keeps e.number s h) (on_exchange-keeps e.number left_alone s (λ x. as_bound _ x refl refl) h)

pub close_client-keeps : {but : Apart} (n : ℕ) (is_cut : Bool) (s : State) → Holds but s → Holds but (close_client n is_cut s)
unfolding close_client
close_client-keeps n is_cut s h =
    swept-keeps _ (each_exchange-keeps leave_one leave_one-keeps (exchanges_of n s) _ (on_client-keeps n (λ c. record c { is_closing = true; is_cut = c.is_cut || is_cut }) s h))

-- ---- connections that are closed

leave_place-keeps : {but : Apart} (e : Exchange) (s : State) → Holds but s → Holds but (leave_place e s)
unfolding leave_place
leave_place-keeps e s h =
    when (is_headed e)
    (end_exchange-keeps e.number _ (on_client_of-keeps e (on_passed (λ p. record p { is_short = true })) s h))
    (when (may_ask_again s e.number) (on_exchange-keeps e.number unplaced s (λ x. as_bound _ x refl refl) h) (end_exchange-keeps e.number s h))

lose_place-keeps : {but : Apart} (counts : Bool) (e : Exchange) (s : State) → Holds but s → Holds but (lose_place counts e s)
unfolding lose_place
lose_place-keeps counts e s h = when counts (leave_place-keeps e _ (lose_attempt-keeps e s h)) (leave_place-keeps e s h)

pub close_conn-keeps : {but : Apart} (counts : Bool) (k : Conn) (s : State) → Holds but s → Holds but (close_conn counts k s)
unfolding close_conn
close_conn-keeps counts k s h = each_exchange-keeps (lose_place (counts && not k.has_brought)) (lose_place-keeps (counts && not k.has_brought)) k.line _ (on_conn-keeps k.number _ s (λ j. record { number = refl; line = λ n i. absurd i; answer = λ a is. absurd (cc is) }) h)

-- ---- places

-- one that is not bound gets a place
pub put_on-keeps : (n k : ℕ) (s : State) → ((e : Exchange) → IsIn e s.exchanges → e.number ≡ n → bound_of e ≡ None) → Holds None s → Holds None (put_on n k s)
unfolding put_on on_conn on_exchange
put_on-keeps n k s unbound h = holds (plain _ _ (λ j e a b i m l is bound. lines_by j e a b m l is bound (in_change (is_conn k) (λ g. record g { line = g.line ++ n ∷ [] }) j s.conns i)) placed.within)
  where
    placed : Facts None s.conns (change (is_exchange n) (λ e. record e { place = Some k; asked = 0 }) s.exchanges)
    placed = changed-asks (is_exchange n) (λ e. record e { place = Some k; asked = 0 }) s.conns s.exchanges (λ e. as_bound _ e refl refl) (facts_of h)

    none_by : (e : Exchange) → e.number ≡ n → Changed (is_exchange n) (λ x. record x { place = Some k; asked = 0 }) s.exchanges e → bound_of e ≡ None
    none_by e at (same i isnt) = unbound e i at
    none_by e at (other d i hit eq) = ap bound_of eq ∙ unbound d i (same_number d.number n hit)

    lines_by : (j : Conn) (e : Exchange) (a : Answer) (b : Bound) → IsIn e (change (is_exchange n) (λ x. record x { place = Some k; asked = 0 }) s.exchanges) → IsIn e.number j.line → j.answer ≡ Some a → bound_of e ≡ Some b
        → Changed (is_conn k) (λ g. record g { line = g.line ++ n ∷ [] }) s.conns j → Fits a b.next b.to
    lines_by j e a b m l is bound (same i isnt) = lines_of s.conns _ placed j e a b i m l is bound
    lines_by j e a b m l is bound (other g i hit eq) = by (in_push e.number g.line n (subst (λ (x : Conn). IsIn e.number x.line) eq l))
      where
        by : IsIn e.number g.line ⊎ (e.number ≡ n) → Fits a b.next b.to
        by (inl r) = lines_of s.conns _ placed g e a b i m r (ap (λ (x : Conn). x.answer) (sym eq) ∙ is) bound
        by (inr r) = let both : None ≡ Some b = sym (none_by e r (in_change (is_exchange n) (λ x. record x { place = Some k; asked = 0 }) e s.exchanges m)) ∙ bound in absurd (cc both)

unplaced_by : (d e : Exchange) (place : Option ℕ) → d.place ≡ place → (elim place as (λ c. Option Exchange) [ Some k ↦ None | None ↦ Some d ]) ≡ Some e → (d ≡ e) × (d.place ≡ None)
unplaced_by d e None none is = (cc, none)
unplaced_by d e (Some k) some is = absurd (cc is)

unplaced_in : (o : Option Exchange) (e : Exchange) → option_and_then if_unplaced o ≡ Some e → (o ≡ Some e) × (e.place ≡ None)
unplaced_in None e is = absurd (cc is)
unplaced_in (Some d) e is = let w = unplaced_by d e d.place refl is in (ap (λ x. Some x) w.0, subst (λ (x : Exchange). x.place ≡ None) w.0 w.1)

-- whoever has the number of one without a place is ready for one
ready_by : {b : Since} (n : ℕ) (s : State) (e : Exchange) → option_and_then if_unplaced (exchange s n) ≡ Some e → Sound b s → IsReady n s
ready_by {b} n s e is was = record {
  no_line = λ k j l. let both : None ≡ Some k.number = sym w.1 ∙ (sound_facts was).placed k e j there.0 (subst (λ m. IsIn m k.line) (sym number) l) in cc both;
  given = subst (λ m. m < s.next_exchange) number ((sound_facts was).asks.given e there.0);
  unbound = λ d j at. ap bound_of (one_of exchange_number s.exchanges d e (sound_facts was).asks.rise j there.0 (at ∙ sym number)) ∙ (sound_facts was).asks.unplaced e there.0 w.1;
}
  where
    w : (exchange s n ≡ Some e) × (e.place ≡ None)
    w = unplaced_in (exchange s n) e is

    there : IsIn e s.exchanges × (is_exchange n e ≡ true)
    there = in_find (is_exchange n) e s.exchanges w.0

    number : e.number ≡ n
    number = same_number e.number n there.1

place_by : {b : Since} (n : ℕ) (e : Exchange) (ns : List ℕ) (s : State) (wanted : Placed) → IsReady n s → ((t : State) → Sound b t → Holds None t → Holds None (place_each ns t).state) → Sound b s → Holds None s
    → Holds None (elim wanted as (λ c. Placement) [
      | On k ↦ place_each ns (put_on n k s)
      | Wait ↦ place_each ns s
      | Dial ↦ record { state = s; pause = WaitsDial e }
      | CloseThenDial k ↦ record { state = s; pause = WaitsDrop k e }
    ]).state
place_by n e ns s (On k) ready rest was h = rest (put_on n k s) (put_on-sound n k s ready was) (put_on-keeps n k s ready.unbound h)
place_by n e ns s Wait ready rest was h = rest s was h
place_by n e ns s Dial ready rest was h = h
place_by n e ns s (CloseThenDial k) ready rest was h = h

place_at : (unplaced : Option Exchange) (p : Placement) (q : Exchange → Placement) → Holds None p.state → ((e : Exchange) → unplaced ≡ Some e → Holds None (q e).state)
    → Holds None (elim unplaced as (λ c. Placement) [ None ↦ p | Some e ↦ q e ]).state
place_at None p q hp hq = hp
place_at (Some e) p q hp hq = hq e refl

place_each-keeps : {b : Since} (ns : List ℕ) (s : State) → Sound b s → Holds None s → Holds None (place_each ns s).state
place_each-keeps [] s was h = h
place_each-keeps (n ∷ ns) s was h =
    place_at (option_and_then if_unplaced (exchange s n)) _ _ (place_each-keeps ns s was h)
    (λ e is. place_by n e ns s (place_for s e) (ready_by n s e is was) (λ t wt ht. place_each-keeps ns t wt ht) was h)

pub placing-keeps : {b : Since} (s : State) → Sound b s → Holds None s → Holds None (placing s).state
placing-keeps s was h = place_each-keeps _ s was h

-- ---- what followers ask for

add_exchange-keeps : {but : Apart} (e : Exchange) (s : State) → bound_of e ≡ None → Holds but s → Holds but (add_exchange e s)
unfolding add_exchange
add_exchange-keeps e s none h = holds (ask_pushed e s.conns s.exchanges none (facts_of h))

pub begin_exchange-keeps : {but : Apart} (e : Exchange) (s : State) → bound_of e ≡ None → Holds but s → Holds but (begin_exchange e s)
unfolding begin_exchange
begin_exchange-keeps e s none h = add_exchange-keeps e _ none (leave-keeps _ s h)

fill_with-keeps : {but : Apart} (e : Exchange) (c : Client) (s : State) → bound_of e ≡ None → Holds but s → Holds but (fill_with e c s)
unfolding fill_with
fill_with-keeps e c s none h = when (fits e.text) (begin_exchange-keeps e s none h) (on_client-keeps c.number (λ x. record x { course = AskTooLong }) s h)

fill_span-keeps : {but : Apart} (c : Client) (n : Next) (span : ℕ × ℕ) (s : State) → Holds but s → Holds but (fill_span c n span s)
unfolding fill_span
fill_span-keeps c n span s h = by_front c.front h (λ status. h) (λ r. by_result r.key (λ key. fill_with-keeps (filling_exchange s c r.head key n span) c s refl h) (λ fault. h))

fill_next-keeps : {but : Apart} (c : Client) (n : Next) (s : State) → Holds but s → Holds but (fill_next c n s)
unfolding fill_next
fill_next-keeps c n s h = each_of (need_of s n) h (λ span. fill_span-keeps c n span s h)

fill_for-keeps : {but : Apart} (c : Client) (s : State) → Holds but s → Holds but (fill_for c s)
unfolding fill_for
fill_for-keeps c s h = when (is_trying c.course) (each_of (next_of s c) h (λ n. fill_next-keeps c n s h)) h

pub fill-keeps : {but : Apart} (s : State) → Holds but s → Holds but (fill s)
unfolding fill
fill-keeps s h = when s.is_stopped h (each_client-keeps fill_for fill_for-keeps _ s h)

pub give_up_asks-keeps : {but : Apart} (s : State) → Holds but s → Holds but (give_up_asks s)
unfolding give_up_asks
give_up_asks-keeps s h = holds (asks_filtered (λ e. not (is_useless_ask s e)) s.conns s.exchanges (facts_of h))
