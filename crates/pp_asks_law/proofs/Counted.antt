-- How many exchanges begin as places are given: one of each client at most, where a dial is refused.
use Rattle.std.proofs.Common.{◌≡◌, ◌≤◌, sym, subst, ap, ℕ, ◌+◌, ◌*◌, Bool, true, false, not, ◌==◌, ◌||◌, length, map, List, [], ◌∷◌, ◌++◌, Option, Some, None, Result, Ok, Err, le_refl, le_trans, filter, suc, arith}
use Rattle.std.specs.Option.{option_and_then}
use Rattle.std.specs.Prelude.{count_by}
use Rattle.pp_asks_law.proofs.Along.{AreOfPlaces, IsOfPlaces, dials, drops, refuses, shuts}
use Rattle.pp_law.specs.After.{after, changed, dialled, dropped, new_conn, out, refused_dial, shut, undialled}
use Rattle.pp_law.specs.Closing.{close_client, exchanges_of, forsake, leave, leave_one, left_alone}
use Rattle.pp_law.specs.Connections.{AllPlaced, Pause, Placement, WaitsDial, WaitsDrop, attempts_of, charge, client, conn, each_client, each_exchange, end_exchange, exchange, give_up_row, if_unplaced, is_client, is_for, is_trying, is_unfilled, lose_attempt, lost_one, may_ask_again, on_client, on_client_of, on_conn, on_exchange, place_each, place_for, placing, put_on, without_row}
use Rattle.pp_law.specs.Deciding.{add_exchange, begin_exchange}
use Rattle.pp_law.specs.Decisions.{fits}
use Rattle.pp_law.specs.Followers.{fill, fill_for, fill_next, fill_span, fill_with, filling_exchange, need_of}
use Rattle.pp_law.specs.Lists.{Bytes, change}
use Rattle.pp_law.specs.Opening.{is_at, is_same_phase}
use Rattle.pp_law.specs.Phases.{come_to, phases}
use Rattle.pp_law.specs.Requests.{Front, Parsed, NoHeadYet, NoHead, IsRequest}
use Rattle.pp_law.specs.State.{State, AskTooLong, Client, Conn, Exchange, Phase, Connecting}
use Rattle.pp_law.specs.Table.{Next, clear, next_of, swept}
use Rattle.pp_laws_bounds.proofs.Counts.{length-filter, length-map}
use Rattle.pp_links.specs.Failures.{fails}
use Rattle.pp_obeys.proofs.Come.{come-stopped}
use Rattle.pp_obeys.specs.Moves.{Leads}
use Rattle.pp_peers.specs.declared.placing.Placed.{Placed}
use Rattle.pp_peers.specs.declared.placing.Placed.TheVariants.{On, Dial, CloseThenDial, Wait}
use Rattle.pp_store.proofs.Lists.{count-cons, one}
use Rattle.pp_target.specs.Key.{Key, text_of}
use Rattle.pp_target.specs.declared.target.TargetFault.{TargetFault}
use Rattle.pp_world.specs.Log.{Log}
use Rattle.pp_world.specs.declared.happening.Happening.{Happening}

-- so many began, there are so many clients, and places are given
pub record Facts (k m next clients : ℕ) (phase : Phase) : Type 0 where
  pub begun : next ≤ k
  pub few : clients ≤ m
  pub at : phase ≡ Connecting

pub data Counts (k m : ℕ) (s : State) : Type 0 where
  counts : Facts k m s.next_exchange (length s.clients) s.phase → Counts k m s

pub facts_of : {k m : ℕ} {s : State} → Counts k m s → Facts k m s.next_exchange (length s.clients) s.phase
facts_of (counts facts) = facts

more : {k m : ℕ} (j : ℕ) (s : State) → k ≤ j → Counts k m s → Counts j m s
more j s le h = counts (record { begun = le_trans (facts_of h).begun le; few = (facts_of h).few; at = (facts_of h).at })

when : {k m : ℕ} (t : Bool) {x y : State} → Counts k m x → Counts k m y → Counts k m (elim t as (λ c. State) [ true ↦ x | false ↦ y ])
when true hx hy = hx
when false hx hy = hy

each_of : {A : Type 0} {k m : ℕ} (x : Option A) {u : State} {v : A → State} → Counts k m u → ((a : A) → Counts k m (v a)) → Counts k m (elim x as (λ c. State) [ None ↦ u | Some a ↦ v a ])
each_of None hx hy = hx
each_of (Some a) hx hy = hy a

changed-counts : {k m : ℕ} (p : Client → Bool) (f : Client → Client) (s : State) → Counts k m s → Counts k m (record s { clients = change p f s.clients })
changed-counts {k} {m} p f s h = counts (record { begun = (facts_of h).begun; few = subst (λ (n : ℕ). n ≤ m) (sym (length-map (λ x. elim (p x) as (λ y. Client) [ true ↦ f x | false ↦ x ]) s.clients)) (facts_of h).few; at = (facts_of h).at })

-- ---- attempts

on_client_of-counts : {k m : ℕ} (e : Exchange) (f : Client → Client) (s : State) → Counts k m s → Counts k m (on_client_of e f s)
unfolding on_client_of
on_client_of-counts e f s h = changed-counts (is_for e) f s h

on_exchange-counts : {k m : ℕ} (n : ℕ) (f : Exchange → Exchange) (s : State) → Counts k m s → Counts k m (on_exchange n f s)
unfolding on_exchange
on_exchange-counts n f s h = counts (facts_of h)

on_conn-counts : {k m : ℕ} (n : ℕ) (f : Conn → Conn) (s : State) → Counts k m s → Counts k m (on_conn n f s)
unfolding on_conn
on_conn-counts n f s h = counts (facts_of h)

end_exchange-counts : {k m : ℕ} (n : ℕ) (s : State) → Counts k m s → Counts k m (end_exchange n s)
unfolding end_exchange
end_exchange-counts n s h = counts (facts_of h)

swept-counts : {k m : ℕ} (s : State) → Counts k m s → Counts k m (swept s)
unfolding swept
swept-counts s h = counts (facts_of h)

clear-counts : {k m : ℕ} (key : Bytes) (s : State) → Counts k m s → Counts k m (clear key s)
unfolding clear
clear-counts key s h = swept-counts _ (counts (facts_of h))

give_up_row-counts : {k m : ℕ} (e : Exchange) (s : State) → Counts k m s → Counts k m (give_up_row e s)
unfolding give_up_row
give_up_row-counts e s h = when (is_unfilled s e) (on_exchange-counts e.number (λ x. record x { asker = None }) _ (on_client_of-counts e without_row _ (clear-counts (text_of e.key) s h))) h

lose_attempt-counts : {k m : ℕ} (e : Exchange) (s : State) → Counts k m s → Counts k m (lose_attempt e s)
unfolding lose_attempt charge
lose_attempt-counts e s h = give_up_row-counts e _ (on_client_of-counts e (λ c. record c { course = lost_one (attempts_of e) c.course }) s h)

-- ---- places

put_on-counts : {k m : ℕ} (n j : ℕ) (s : State) → Counts k m s → Counts k m (put_on n j s)
unfolding put_on
put_on-counts n j s h = on_conn-counts j _ _ (on_exchange-counts n _ s h)

place_by : {k m : ℕ} (n : ℕ) (e : Exchange) (ns : List ℕ) (s : State) (wanted : Placed) → ((t : State) → Counts k m t → Counts k m (place_each ns t).state) → Counts k m s
    → Counts k m (elim wanted as (λ c. Placement) [
      | On j ↦ place_each ns (put_on n j s)
      | Wait ↦ place_each ns s
      | Dial ↦ record { state = s; pause = WaitsDial e }
      | CloseThenDial j ↦ record { state = s; pause = WaitsDrop j e }
    ]).state
place_by n e ns s (On j) rest h = rest (put_on n j s) (put_on-counts n j s h)
place_by n e ns s Wait rest h = rest s h
place_by n e ns s Dial rest h = h
place_by n e ns s (CloseThenDial j) rest h = h

place_at : {k m : ℕ} (waits : Option Exchange) (p : Placement) (q : Exchange → Placement) → Counts k m p.state → ((e : Exchange) → Counts k m (q e).state) → Counts k m (elim waits as (λ c. Placement) [ None ↦ p | Some e ↦ q e ]).state
place_at None p q hp hq = hp
place_at (Some e) p q hp hq = hq e

place_each-counts : {k m : ℕ} (ns : List ℕ) (s : State) → Counts k m s → Counts k m (place_each ns s).state
place_each-counts [] s h = h
place_each-counts (n ∷ ns) s h = place_at (option_and_then if_unplaced (exchange s n)) _ _ (place_each-counts ns s h) (λ e. place_by n e ns s (place_for s e) (λ t ht. place_each-counts ns t ht) h)

pub placing-counts : {k m : ℕ} (s : State) → Counts k m s → Counts k m (placing s).state
placing-counts s h = place_each-counts _ s h

-- ---- what followers ask for

begin_exchange-counts : {k m : ℕ} (e : Exchange) (s : State) → Counts k m s → Counts (k + 1) m (begin_exchange e s)
unfolding begin_exchange add_exchange leave forsake
begin_exchange-counts {k} e s h = counts (record { begun = next s.next_exchange (facts_of h).begun; few = (facts_of h).few; at = (facts_of h).at })
  where
    next : (n : ℕ) → n ≤ k → n + 1 ≤ k + 1
    next n le = omega (arith, le)

one_more : (k : ℕ) → k ≤ k + 1
one_more k = omega arith

fill_with-counts : {k m : ℕ} (e : Exchange) (c : Client) (s : State) → Counts k m s → Counts (k + 1) m (fill_with e c s)
unfolding fill_with on_client
fill_with-counts {k} e c s h = when (fits e.text) (begin_exchange-counts e s h) (more (k + 1) _ (one_more k) (changed-counts (is_client c.number) (λ x. record x { course = AskTooLong }) s h))

fill_span-counts : {k m : ℕ} (c : Client) (n : Next) (span : ℕ × ℕ) (s : State) → Counts k m s → Counts (k + 1) m (fill_span c n span s)
unfolding fill_span
fill_span-counts {k} {m} c n span s h = by c.front
  where
    by_key : (r : Parsed) (o : Result Key TargetFault) → Counts (k + 1) m (elim o as (λ x. State) [ Ok key ↦ fill_with (filling_exchange s c r.head key n span) c s | Err fault ↦ s ])
    by_key r (Ok key) = fill_with-counts (filling_exchange s c r.head key n span) c s h
    by_key r (Err fault) = more (k + 1) s (one_more k) h

    by : (front : Front) → Counts (k + 1) m (elim front as (λ x. State) [
      | NoHeadYet ↦ s
      | NoHead status ↦ s
      | IsRequest r ↦ elim r.key as (λ x. State) [ Ok key ↦ fill_with (filling_exchange s c r.head key n span) c s | Err fault ↦ s ]
    ])
    by NoHeadYet = more (k + 1) s (one_more k) h
    by (NoHead status) = more (k + 1) s (one_more k) h
    by (IsRequest r) = by_key r r.key

fill_for-counts : {k m : ℕ} (c : Client) (s : State) → Counts k m s → Counts (k + 1) m (fill_for c s)
unfolding fill_for fill_next
fill_for-counts {k} c s h =
    let same : Counts (k + 1) _ s = more (k + 1) s (one_more k) h in
    when (is_trying c.course) (each_of (next_of s c) same (λ n. each_of (need_of s n) same (λ span. fill_span-counts c n span s h))) same

each_client-counts : {m : ℕ} (k : ℕ) (ns : List ℕ) (s : State) → Counts k m s → Counts (k + length ns) m (each_client fill_for ns s)
unfolding each_client
each_client-counts k [] s h = more (k + 0) s (no_more k) h
  where
    no_more : (n : ℕ) → n ≤ n + 0
    no_more n = omega arith
each_client-counts {m} k (n ∷ ns) s h = more (k + length (n ∷ ns)) _ (as_many (length ns)) (each_client-counts (k + 1) ns _ (each_of (client s n) (more (k + 1) s (one_more k) h) (λ c. fill_for-counts c s h)))
  where
    as_many : (j : ℕ) → (k + 1) + j ≤ k + suc j
    as_many j = omega arith

fill-counts : {k m : ℕ} (s : State) → Counts k m s → Counts (k + m) m (fill s)
unfolding fill
fill-counts {k} {m} s h =
    when s.is_stopped (more (k + m) s (at_least k m) h)
    (more (k + m) _ (within k m (length (map (λ c. c.number) s.clients)) (subst (λ (n : ℕ). n ≤ m) (sym (length-map (λ (c : Client). c.number) s.clients)) (facts_of h).few)) (each_client-counts k (map (λ c. c.number) s.clients) s h))
  where
    at_least : (a b : ℕ) → a ≤ a + b
    at_least a b = omega arith

    within : (a b n : ℕ) → n ≤ b → a + n ≤ a + b
    within a b n le = omega (arith, le)

-- ---- closings and dials

filtered-counts : {k m : ℕ} (p : Client → Bool) (s : State) → Counts k m s → Counts k m (record s { clients = filter p s.clients })
filtered-counts p s h = counts (record { begun = (facts_of h).begun; few = le_trans (length-filter p s.clients) (facts_of h).few; at = (facts_of h).at })

each_exchange-counts : {k m : ℕ} (f : Exchange → State → State) → ((e : Exchange) (s : State) → Counts k m s → Counts k m (f e s)) → (ns : List ℕ) (s : State) → Counts k m s → Counts k m (each_exchange f ns s)
unfolding each_exchange
each_exchange-counts f each [] s h = h
each_exchange-counts f each (n ∷ ns) s h = each_exchange-counts f each ns _ (each_of (exchange s n) h (λ e. each e s h))

leave_one-counts : {k m : ℕ} (e : Exchange) (s : State) → Counts k m s → Counts k m (leave_one e s)
unfolding leave_one
leave_one-counts e s h = when (e.asked == 0) (end_exchange-counts e.number s h) (on_exchange-counts e.number left_alone s h)

shut-counts : {k m : ℕ} (n : ℕ) (s : State) → Counts k m s → Counts k m (shut n s)
unfolding shut close_client on_client
shut-counts n s h =
    filtered-counts (λ c. not (is_client n c)) _
    (swept-counts _ (each_exchange-counts leave_one leave_one-counts (exchanges_of n s) _ (changed-counts (is_client n) (λ c. record c { is_closing = true; is_cut = c.is_cut || false }) s h)))

dialled-counts : {k m : ℕ} (n : ℕ) (host : Bytes) (port : ℕ) (s : State) → Counts k m s → Counts k m (dialled n host port (placing s))
unfolding dialled
dialled-counts {k} {m} n host port s h = by (placing s).pause
  where
    by : (pause : Pause) → Counts k m (elim pause as (λ x. State) [
      | AllPlaced ↦ (placing s).state
      | WaitsDrop j e ↦ (placing s).state
      | WaitsDial e ↦ put_on e.number n (record (placing s).state { conns = (placing s).state.conns ++ new_conn n host port (placing s).state.clock ∷ []; top = n })
    ])
    by AllPlaced = placing-counts s h
    by (WaitsDrop j e) = placing-counts s h
    by (WaitsDial e) = put_on-counts e.number n _ (counts (facts_of (placing-counts s h)))

failed-counts : {k m : ℕ} (e : Exchange) (s : State) → Counts k m s → Counts k m (lose_attempt e (record s { failures = s.failures + 1 }))
failed-counts e s h = lose_attempt-counts e _ (counts (facts_of h))

undialled-counts : {k m : ℕ} (s : State) → Counts k m s → Counts (k + m) m (undialled (placing s))
unfolding undialled refused_dial
undialled-counts {k} {m} s h = by (placing s).pause
  where
    at_least : (a b : ℕ) → a ≤ a + b
    at_least a b = omega arith

    lost : Exchange → State
    lost e = lose_attempt e (record (placing s).state { failures = (placing s).state.failures + 1 })

    lost-counts : (e : Exchange) → Counts k m (lost e)
    lost-counts e = failed-counts e _ (placing-counts s h)

    by : (pause : Pause) → Counts (k + m) m (elim pause as (λ x. State) [
      | AllPlaced ↦ (placing s).state
      | WaitsDrop j e ↦ (placing s).state
      | WaitsDial e ↦ elim (may_ask_again (lost e) e.number) as (λ x. State) [ true ↦ lost e | false ↦ fill (end_exchange e.number (lost e)) ]
    ])
    by AllPlaced = more (k + m) _ (at_least k m) (placing-counts s h)
    by (WaitsDrop j e) = more (k + m) _ (at_least k m) (placing-counts s h)
    by (WaitsDial e) = when (may_ask_again (lost e) e.number) (more (k + m) _ (at_least k m) (lost-counts e)) (fill-counts _ (end_exchange-counts e.number _ (lost-counts e)))

dropped-counts : {k m : ℕ} (n : ℕ) (s : State) → Counts k m s → Counts k m (dropped n s)
unfolding dropped out
dropped-counts n s h = each_of (conn s n) h (λ j. when j.is_closing (counts (facts_of h)) (counts (facts_of (placing-counts s h))))

-- ---- whatever happens as places are given

here : (s : State) → s.phase ≡ Connecting → come_to Connecting s ≡ s
unfolding come_to
here s at = come-stopped (is_at Connecting) phases s (ap (is_same_phase Connecting) at)

stays_here : {k m : ℕ} (s : State) → Counts k m s → Counts k m (come_to Connecting s)
stays_here {k} {m} s h = subst (λ (t : State). Counts k m t) (sym (here s (facts_of h).at)) h

as_one : (k m : ℕ) → k ≤ k + m * 0
as_one k m = omega arith

pub after-counts : {k m : ℕ} (s : State) (h : Happening) → IsOfPlaces h → Counts k m s → Counts (k + m * one (fails h)) m (after s h)
unfolding changed
after-counts {k} {m} s h (dials n host port) it = more (k + m * 0) _ (as_one k m) (dialled-counts n host port _ (stays_here s it))
after-counts {k} {m} s h (refuses host port) it = more (k + m * 1) _ (once k m) (undialled-counts _ (stays_here s it))
  where
    once : (a b : ℕ) → a + b ≤ a + b * 1
    once a b = omega arith
after-counts {k} {m} s h (drops n) it = more (k + m * 0) _ (as_one k m) (dropped-counts n _ (stays_here s it))
after-counts {k} {m} s h (shuts n) it = more (k + m * 0) _ (as_one k m) (shut-counts n _ (stays_here s it))

leads-counts : {m : ℕ} (k : ℕ) (hs : Log) (s t : State) → AreOfPlaces hs → Leads hs s t → Counts k m s → Counts (k + m * count_by fails hs) m t
leads-counts {m} k [] s t are leads it = more (k + m * 0) t (as_one k m) (subst (λ (u : State). Counts k m u) leads it)
leads-counts {m} k (h ∷ hs) s t are leads it =
    more (k + m * count_by fails (h ∷ hs)) t (both k m (one (fails h)) (count_by fails hs) (count_by fails (h ∷ hs)) (count-cons fails h hs))
    (leads-counts (k + m * one (fails h)) hs (after s h) t are.1 leads.holds (after-counts s h are.0 it))
  where
    both : (a b c d n : ℕ) → n ≡ c + d → (a + b * c) + b * d ≤ a + b * n
    both a b c d n is = grind (arith, is)

-- so where there are at most 256 clients
pub begun_by : (hs : Log) (s t : State) → AreOfPlaces hs → Leads hs s t → s.phase ≡ Connecting → length s.clients ≤ 256 → t.next_exchange ≤ s.next_exchange + 256 * count_by fails hs
begun_by hs s t are leads at few = (facts_of (leads-counts {m = 256} s.next_exchange hs s t are leads (counts (record { begun = le_refl s.next_exchange; few = few; at = at })))).begun

pub begun_placing : (k : ℕ) (s : State) → s.next_exchange ≤ k → s.phase ≡ Connecting → (placing s).state.next_exchange ≤ k
begun_placing k s begun at = (facts_of (placing-counts {k = k} {m = length s.clients} s (counts (record { begun = begun; few = le_refl (length s.clients); at = at })))).begun
