-- What becomes of exchanges and connections keeps it: attempts, closings, places, and what followers ask for.
use Rattle.std.proofs.Common.{◌≡◌, refl, ℕ, Bool, true, false, not, ◌==◌, ◌&&◌, ◌||◌, List, [], ◌∷◌, map, filter, cond, Option, Some, None, option_and_then, sym, subst, ap, ◌∙◌}
use Rattle.pp_peers.specs.declared.placing.Placed.TheVariants.{On, Dial, CloseThenDial, Wait}
use Rattle.pp_peers.specs.declared.placing.Placed.{Placed}
use Rattle.pp_target.specs.Key.{text_of}
use Rattle.pp_law.specs.Closing.{is_of, is_over, left_alone, forsake, leave, leave_one, exchanges_of, close_client}
use Rattle.pp_law.specs.Connections.{client, conn, exchange, is_client, is_conn, is_exchange, is_for, without_ask, each_client, each_conn, each_exchange, on_conn, on_exchange, on_client, on_client_of, attempts_of, lost_one, without_row, is_unfilled, give_up_row, charge, lose_attempt, fail, end_exchange, unplaced, may_ask_again, leave_place, lose_place, close_conn, place_for, put_on, if_unplaced, place_each, placing, Placement, WaitsDial, WaitsDrop, anew, out_of_tries}
use Rattle.pp_law.specs.Deciding.{add_exchange, begin_exchange}
use Rattle.pp_law.specs.Followers.{need_of, filling_exchange, fill_with, fill_span, fill_next, fill_for, fill, is_useless_ask, give_up_asks}
use Rattle.pp_law.specs.Connections.{is_trying}
use Rattle.pp_law.specs.Decisions.{fits}
use Rattle.pp_law.specs.Stages.{is_begun, is_headed, on_passed, passed_of, reply_of}
use Rattle.pp_law.specs.State.{State, AskTooLong, Course, Client, Conn, Exchange, Instance, Passed, Passes, Reply, Stage, Undecided, Waiting, Passing, Answering}
use Rattle.pp_law.specs.Lists.{Bytes, is_some_with, is_this}
use Rattle.pp_law.specs.Table.{Next, clear, instance, next_from, next_in, next_of, swept}
use Rattle.pp_laws_passed.proofs.Cases.{by_front, by_result, each_of, each_so, when, when_so}
use Rattle.pp_laws_passed.proofs.Fed.{Fed, FromAnswer, FromConn, SameClient, SameConn, SameExchange, SameHead, Tale, client_same, clients_changed, conns_changed, conns_emptied, conns_from, conns_pushed, exchange_added, exchanges_changed, exchanges_filtered, facts_of, fed, parts_same, relays_on, still}
use Rattle.pp_laws_passed.proofs.Same.{itself}
use Rattle.pp_laws_passed.proofs.SameRows.{clear-same, swept-same}
use Rattle.pp_laws_passed.specs.Passed.{is_in_passed}
use Rattle.pp_laws.specs.Runs.{IsIn}
use Rattle.pp_laws.proofs.Lists.{Changed, From, in_change, in_filter, in_find, in_map, one_of, other, same}
use Rattle.pp_laws.proofs.Sound.{client_number, exchange_number, first_of, source_in}
use Rattle.pp_laws.proofs.Tests.{number_same, same_number}

-- the exchange of that number is headed as it is
abbrev pub HeadedAs : Exchange → State → Type 0
HeadedAs e s = (x : Exchange) → IsIn x s.exchanges → x.number ≡ e.number → is_headed x ≡ is_headed e

-- no head came to one without a place
abbrev pub IsUnheaded : ℕ → State → Type 0
IsUnheaded n s = (e : Exchange) → IsIn e s.exchanges → e.number ≡ n → is_headed e ≡ false

module _ {tale : Tale} where
  pub clear-fed : (key : Bytes) (s : State) → Fed tale s → Fed tale (clear key s)
  clear-fed key s h = still (clear-same key s (itself s)) h

  pub swept-fed : (s : State) → Fed tale s → Fed tale (swept s)
  swept-fed s h = still (swept-same s (itself s)) h

  pub on_conn-fed : (n : ℕ) (f : Conn → Conn) (s : State) → ((k : Conn) → SameConn (f k) k) → Fed tale s → Fed tale (on_conn n f s)
  unfolding on_conn
  on_conn-fed n f s kept h = fed (conns_changed s (is_conn n) f kept (facts_of h))

  pub on_exchange-fed : (n : ℕ) (f : Exchange → Exchange) (s : State) → ((e : Exchange) → SameExchange (f e) e) → Fed tale s → Fed tale (on_exchange n f s)
  unfolding on_exchange
  on_exchange-fed n f s kept h = fed (exchanges_changed s (is_exchange n) f (λ e i is. kept e) (λ e. (kept e).number) (facts_of h))

  pub on_client-fed : (n : ℕ) (f : Client → Client) (s : State) → ((c : Client) → SameClient tale tale (f c) c) → Fed tale s → Fed tale (on_client n f s)
  unfolding on_client
  on_client-fed n f s kept h = fed (clients_changed s (is_client n) f kept (facts_of h))

  pub on_client_of-fed : (e : Exchange) (f : Client → Client) (s : State) → ((c : Client) → SameClient tale tale (f c) c) → Fed tale s → Fed tale (on_client_of e f s)
  unfolding on_client_of
  on_client_of-fed e f s kept h = fed (clients_changed s (is_for e) f kept (facts_of h))

  -- ---- of these numbers one behind the other

  pub each_client-fed : (f : Client → State → State) → ((c : Client) (s : State) → IsIn c s.clients → Fed tale s → Fed tale (f c s)) → (ns : List ℕ) (s : State) → Fed tale s → Fed tale (each_client f ns s)
  unfolding each_client
  each_client-fed f each [] s h = h
  each_client-fed f each (n ∷ ns) s h = each_client-fed f each ns _ (each_so (client s n) (λ none. h) (λ c found. each c s (in_find (is_client n) c s.clients found).0 h))

  pub each_conn-fed : (f : Conn → State → State) → ((k : Conn) (s : State) → Fed tale s → Fed tale (f k s)) → (ns : List ℕ) (s : State) → Fed tale s → Fed tale (each_conn f ns s)
  unfolding each_conn
  each_conn-fed f each [] s h = h
  each_conn-fed f each (n ∷ ns) s h = each_conn-fed f each ns _ (each_of (conn s n) h (λ k. each k s h))

  pub each_exchange-fed : (f : Exchange → State → State) → ((e : Exchange) (s : State) → IsIn e s.exchanges → Fed tale s → Fed tale (f e s)) → (ns : List ℕ) (s : State) → Fed tale s → Fed tale (each_exchange f ns s)
  unfolding each_exchange
  each_exchange-fed f each [] s h = h
  each_exchange-fed f each (n ∷ ns) s h = each_exchange-fed f each ns _ (each_so (exchange s n) (λ none. h) (λ e found. each e s (in_find (is_exchange n) e s.exchanges found).0 h))

  -- ---- attempts

  pub without_row-by : (c : Client) (begun : Bool) → SameClient tale tale (elim begun as (λ x. Client) [ true ↦ c | false ↦ record c { course = anew c.course; has_given_up = true } ]) c
  without_row-by c true = client_same c
  without_row-by c false = parts_same _ c refl refl refl refl refl

left_alone-same : (e : Exchange) → SameExchange (left_alone e) e
left_alone-same e = record { number = refl; asker = λ n is. absurd (cc is); headed = refl; place = λ is none. none }

module _ {tale : Tale} where
  give_up_row-fed : (e : Exchange) (s : State) → Fed tale s → Fed tale (give_up_row e s)
  unfolding give_up_row
  give_up_row-fed e s h =
      when (is_unfilled s e) (on_exchange-fed e.number left_alone _ left_alone-same (on_client_of-fed e without_row _ (λ c. without_row-by c (is_begun c || c.has_given_up)) (clear-fed (text_of e.key) s h))) h

  charge-fed : (cost : Course → Course) (e : Exchange) (s : State) → Fed tale s → Fed tale (charge cost e s)
  unfolding charge
  charge-fed cost e s h = give_up_row-fed e _ (on_client_of-fed e (λ c. record c { course = cost c.course }) s (λ c. parts_same _ c refl refl refl refl refl) h)

  pub lose_attempt-fed : (e : Exchange) (s : State) → Fed tale s → Fed tale (lose_attempt e s)
  unfolding lose_attempt
  lose_attempt-fed e s h = charge-fed (lost_one (attempts_of e)) e s h

  pub fail-fed : (e : Exchange) (s : State) → Fed tale s → Fed tale (fail e s)
  unfolding fail
  fail-fed e s h = charge-fed out_of_tries e s h

first_filter : (p : ℕ → Bool) (n : ℕ) (ns : List ℕ) → p n ≡ true → first_of ns ≡ Some n → first_of (filter p ns) ≡ Some n
first_filter p n [] holds is = absurd (cc is)
first_filter p n (m ∷ ms) holds is = let e : m ≡ n = cc in subst (λ t. first_of (cond t (m ∷ filter p ms) (filter p ms)) ≡ Some n) (sym (ap p e ∙ holds)) is

module _ {tale : Tale} where
  pub end_exchange-fed : (n : ℕ) (s : State) → Fed tale s → Fed tale (end_exchange n s)
  unfolding end_exchange
  end_exchange-fed n s h = fed (conns_from (record s { exchanges = filter (λ e. not (is_exchange n e)) s.exchanges }) (map (without_ask n) s.conns) (λ k i. from k (in_map (without_ask n) k s.conns i)) (λ k i. heads k (in_map (without_ask n) k s.conns i)) (exchanges_filtered s (λ e. not (is_exchange n e)) (facts_of h)))
    where
      of_was : (j : Conn) → IsIn j s.conns → FromConn s.conns (without_ask n j)
      of_was j i = record {
        was = j;
        there = i;
        line = λ m l. (in_filter (λ x. not (x == n)) m j.line l).0;
        front = λ m l is. first_filter (λ x. not (x == n)) m j.line (in_filter (λ x. not (x == n)) m j.line l).1 is;
        answer = λ m a l is. is;
      }

      heads : (k : Conn) → From (without_ask n) s.conns k → FromAnswer s.conns k
      heads k r = record { was = r.was; there = r.there; number = ap (λ (x : Conn). x.number) r.is; answered = λ a is. sym (ap (λ (x : Conn). x.answer) r.is) ∙ is }

      from : (k : Conn) → From (without_ask n) s.conns k → FromConn s.conns k
      from k r = subst (λ (x : Conn). FromConn s.conns x) (sym r.is) (of_was r.was r.there)

  -- ---- exchanges that are left, and clients that are closed

  pub forsake-fed : (test : Exchange → Bool) (s : State) → Fed tale s → Fed tale (forsake test s)
  unfolding forsake
  forsake-fed test s h = fed (exchanges_changed s test left_alone (λ e i is. left_alone-same e) (λ e. refl) (facts_of h))

  pub leave-fed : (test : Exchange → Bool) (s : State) → Fed tale s → Fed tale (leave test s)
  unfolding leave
  leave-fed test s h = fed (exchanges_filtered (forsake test s) (λ e. not (is_over e)) (facts_of (forsake-fed test s h)))

  leave_one-fed : (e : Exchange) (s : State) → Fed tale s → Fed tale (leave_one e s)
  unfolding leave_one
  leave_one-fed e s h = when (e.asked == 0) (end_exchange-fed e.number s h) (on_exchange-fed e.number left_alone s left_alone-same h)

  pub close_client-fed : (n : ℕ) (is_cut : Bool) (s : State) → Fed tale s → Fed tale (close_client n is_cut s)
  unfolding close_client
  close_client-fed n is_cut s h =
      swept-fed _ (each_exchange-fed leave_one (λ e t there ht. leave_one-fed e t ht) (exchanges_of n s) _ (on_client-fed n (λ c. record c { is_closing = true; is_cut = c.is_cut || is_cut }) s (λ c. parts_same _ c refl refl refl refl refl) h))

  -- ---- connections that are closed

  pub on_passed-fed : (f : Passed → Passed) (c : Client) → ((p : Passed) → SameHead tale tale (record c { brought = Passes (f p) }) c (f p) p) → SameClient tale tale (on_passed f c) c
  on_passed-fed f c kept = by (passed_of c) refl
    where
      some : (p q : Passed) → passed_of c ≡ Some p → Some (f p) ≡ Some q → (r : Passed) × (passed_of c ≡ Some r) × SameHead tale tale (record c { brought = Passes (f p) }) c q r
      some p q has is = let eq : f p ≡ q = cc in (p, has, subst (λ (x : Passed). SameHead tale tale (record c { brought = Passes (f p) }) c x p) eq (kept p))

      by : (passed : Option Passed) → passed_of c ≡ passed → SameClient tale tale (elim passed as (λ x. Client) [ None ↦ c | Some p ↦ record c { brought = Passes (f p) } ]) c
      by None has = client_same c
      by (Some p) has = record { number = refl; passing = λ is. is; source = λ on id is. is; passed = λ q off is. let s = some p q has is in (s.0, off, s.1, s.2) }

  headed_as : (e : Exchange) (s : State) → IsIn e s.exchanges → Fed tale s → HeadedAs e s
  headed_as e s there h x i number = ap (λ (y : Exchange). is_headed y) (one_of exchange_number s.exchanges x e (facts_of h).rise i there number)

  unplaced-fed : (e : Exchange) (s : State) → is_headed e ≡ false → HeadedAs e s → Fed tale s → Fed tale (on_exchange e.number unplaced s)
  unfolding on_exchange
  unplaced-fed e s unheaded headed h = fed (exchanges_changed s (is_exchange e.number) unplaced (λ x i hit. by x (headed x i (same_number x.number e.number hit) ∙ unheaded)) (λ x. refl) (facts_of h))
    where
      by : (x : Exchange) → is_headed x ≡ false → SameExchange (unplaced x) x
      by x off = record { number = refl; asker = λ n is. is; headed = refl; place = λ is none. let both : false ≡ true = sym off ∙ is in absurd (cc both) }

  short_same : (c : Client) (p : Passed) → SameHead tale tale (record c { brought = Passes (record p { is_short = true }) }) c (record p { is_short = true }) p
  short_same c p = record { index = refl; head = refl; rule = refl; ends = refl; relays = relays_on (tale.said c.number) (tale.said c.number) (record c { brought = Passes (record p { is_short = true }) }) c (record p { is_short = true }) p refl refl (λ on. refl) refl refl refl }

  leave_place-fed : (e : Exchange) (s : State) → HeadedAs e s → Fed tale s → Fed tale (leave_place e s)
  unfolding leave_place
  leave_place-fed e s headed h =
      when_so (is_headed e)
      (λ is. end_exchange-fed e.number _ (on_client_of-fed e (on_passed (λ p. record p { is_short = true })) s (λ c. on_passed-fed (λ p. record p { is_short = true }) c (short_same c)) h))
      (λ isnt. when (may_ask_again s e.number) (unplaced-fed e s isnt headed h) (end_exchange-fed e.number s h))

-- to lose an attempt changes no head
given_up_headed : (e d : Exchange) (s : State) → HeadedAs d s → HeadedAs d (give_up_row e s)
unfolding give_up_row on_exchange on_client_of clear swept
given_up_headed e d s headed = by (is_unfilled s e)
  where
    by : (t : Bool) → HeadedAs d (elim t as (λ x. State) [ false ↦ s | true ↦ on_exchange e.number left_alone (on_client_of e without_row (clear (text_of e.key) s)) ])
    by false x i number = headed x i number
    by true x i number = at (in_change (is_exchange e.number) left_alone x s.exchanges i)
      where
        at : Changed (is_exchange e.number) left_alone s.exchanges x → is_headed x ≡ is_headed d
        at (same j isnt) = headed x j number
        at (other y j hit eq) = ap (λ (z : Exchange). is_headed z) eq ∙ headed y j (sym (ap exchange_number eq) ∙ number)

lost_headed : (e d : Exchange) (s : State) → HeadedAs d s → HeadedAs d (lose_attempt e s)
unfolding lose_attempt charge on_client_of
lost_headed e d s headed = given_up_headed e d (on_client_of e (λ c. record c { course = lost_one (attempts_of e) c.course }) s) headed

module _ {tale : Tale} where
  lose_place-fed : (counts : Bool) (e : Exchange) (s : State) → IsIn e s.exchanges → Fed tale s → Fed tale (lose_place counts e s)
  unfolding lose_place
  lose_place-fed counts e s there h = when counts (leave_place-fed e _ (lost_headed e e s (headed_as e s there h)) (lose_attempt-fed e s h)) (leave_place-fed e s (headed_as e s there h) h)

  pub close_conn-fed : (counts : Bool) (k : Conn) (s : State) → Fed tale s → Fed tale (close_conn counts k s)
  unfolding close_conn on_conn
  close_conn-fed counts k s h = each_exchange-fed (lose_place (counts && not k.has_brought)) (lose_place-fed (counts && not k.has_brought)) k.line _ (fed (conns_emptied s (is_conn k.number) (λ j. record j { is_closing = true; line = []; answer = None; unread = [] }) (λ j. refl) (λ j. (refl, refl)) (facts_of h)))

  -- ---- places

  pub put_on-fed : (n k : ℕ) (s : State) → ((e : Exchange) → IsIn e s.exchanges → e.number ≡ n → is_headed e ≡ false) → Fed tale s → Fed tale (put_on n k s)
  unfolding put_on on_conn on_exchange
  put_on-fed n k s unheaded h = fed (conns_pushed (on_exchange n to s) (is_conn k) n (λ e i number. by e (in_change (is_exchange n) to e s.exchanges i) number) (facts_of placed))
    where
      to : Exchange → Exchange
      to e = record e { place = Some k; asked = 0 }

      placed : Fed tale (on_exchange n to s)
      placed = on_exchange-fed n to s (λ e. record { number = refl; asker = λ m is. is; headed = refl; place = λ is none. absurd (cc none) }) h

      by : (e : Exchange) → Changed (is_exchange n) to s.exchanges e → e.number ≡ n → is_headed e ≡ false
      by e (same i isnt) number = unheaded e i number
      by e (other d i hit eq) number = ap (λ (x : Exchange). is_headed x) eq ∙ unheaded d i (same_number d.number n hit)

headless : (e : Exchange) (b : Bool) → is_headed e ≡ b → (is_headed e ≡ true → ⊥) → is_headed e ≡ false
headless e true is isnt = absurd (isnt is)
headless e false is isnt = is

module _ {tale : Tale} where
  pub unplaced_unheaded : (n : ℕ) (e : Exchange) (s : State) → option_and_then if_unplaced (exchange s n) ≡ Some e → Fed tale s → IsUnheaded n s
  unplaced_unheaded n e s is h = by (exchange s n) refl is
    where
      by : (o : Option Exchange) → exchange s n ≡ o → option_and_then if_unplaced o ≡ Some e → (x : Exchange) → IsIn x s.exchanges → x.number ≡ n → is_headed x ≡ false
      by None found has x i number = absurd (cc has)
      by (Some d) found has x i number = at d.place refl has
        where
          there : IsIn d s.exchanges × (is_exchange n d ≡ true)
          there = in_find (is_exchange n) d s.exchanges found

          eq : x ≡ d
          eq = one_of exchange_number s.exchanges x d (facts_of h).rise i there.0 (number ∙ sym (same_number d.number n there.1))

          at : (place : Option ℕ) → d.place ≡ place → (elim place as (λ y. Option Exchange) [ Some k ↦ None | None ↦ Some d ]) ≡ Some e → is_headed x ≡ false
          at (Some k) placed some = absurd (cc some)
          at None none some = ap (λ (y : Exchange). is_headed y) eq ∙ headless d (is_headed d) refl (λ on. (facts_of h).headed d there.0 on none)

  place_by : (n : ℕ) (e : Exchange) (ns : List ℕ) (s : State) (wanted : Placed) → ((t : State) → Fed tale t → Fed tale (place_each ns t).state) → IsUnheaded n s → Fed tale s
      → Fed tale (elim wanted as (λ c. Placement) [
        | On k ↦ place_each ns (put_on n k s)
        | Wait ↦ place_each ns s
        | Dial ↦ record { state = s; pause = WaitsDial e }
        | CloseThenDial k ↦ record { state = s; pause = WaitsDrop k e }
      ]).state
  place_by n e ns s (On k) rest unheaded h = rest (put_on n k s) (put_on-fed n k s unheaded h)
  place_by n e ns s Wait rest unheaded h = rest s h
  place_by n e ns s Dial rest unheaded h = h
  place_by n e ns s (CloseThenDial k) rest unheaded h = h

  place_at : (unplaced : Option Exchange) (p : Placement) (q : Exchange → Placement) → Fed tale p.state → ((e : Exchange) → unplaced ≡ Some e → Fed tale (q e).state)
      → Fed tale (elim unplaced as (λ c. Placement) [ None ↦ p | Some e ↦ q e ]).state
  place_at None p q hp hq = hp
  place_at (Some e) p q hp hq = hq e refl

  place_each-fed : (ns : List ℕ) (s : State) → Fed tale s → Fed tale (place_each ns s).state
  place_each-fed [] s h = h
  place_each-fed (n ∷ ns) s h = place_at (option_and_then if_unplaced (exchange s n)) _ _ (place_each-fed ns s h) (λ e is. place_by n e ns s (place_for s e) (λ t ht. place_each-fed ns t ht) (unplaced_unheaded n e s is h) h)

  pub placing-fed : (s : State) → Fed tale s → Fed tale (placing s).state
  placing-fed s h = place_each-fed _ s h
  -- ---- what followers ask for

forsaken : (e d : Exchange) (n : ℕ) (s : State) → e.asker ≡ Some n → IsIn d (forsake (λ x. is_some_with (λ m. is_of m x) e.asker) s).exchanges → ¬ (d.asker ≡ Some n)
unfolding forsake
forsaken e d n s asks i = by (in_change (λ x. is_some_with (λ m. is_of m x) e.asker) left_alone d s.exchanges i)
  where
    by : Changed (λ x. is_some_with (λ m. is_of m x) e.asker) left_alone s.exchanges d → ¬ (d.asker ≡ Some n)
    by (same j isnt) is =
        let hit : is_some_with (λ m. is_of m d) e.asker ≡ true = ap (λ o. is_some_with (λ m. is_of m d) o) asks ∙ ap (λ o. is_this n o) is ∙ number_same n in
        let both : false ≡ true = sym isnt ∙ hit in cc both
    by (other x j hit eq) is = let both : None ≡ Some n = sym (ap (λ (y : Exchange). y.asker) eq) ∙ is in cc both

left_next : (test : Exchange → Bool) (s : State) → (leave test s).next_exchange ≡ s.next_exchange
unfolding leave forsake
left_next test s = refl

left_clients : (test : Exchange → Bool) (s : State) → (leave test s).clients ≡ s.clients
unfolding leave forsake
left_clients test s = refl

module _ {tale : Tale} where
  -- one of which nothing came, of a request that is in no passed reply
  pub begin_exchange-fed : (e : Exchange) (s : State) → e.number ≡ s.next_exchange → is_headed e ≡ false → ((c : Client) → IsIn c s.clients → is_for e c ≡ true → is_in_passed c.stage ≡ false) → Fed tale s → Fed tale (begin_exchange e s)
  unfolding begin_exchange add_exchange leave
  begin_exchange-fed e s number unheaded waits h =
      let test : Exchange → Bool = λ x. is_some_with (λ n. is_of n x) e.asker in
      fed (exchange_added (leave test s) e (number ∙ sym (left_next test s)) unheaded (λ d n i asks. forsaken e d n s asks (in_filter (λ x. not (is_over x)) d (forsake test s).exchanges i).0)
      (λ c i. waits c (subst (λ cs. IsIn c cs) (left_clients test s) i)) (facts_of (leave-fed test s h)))

  -- who follows an instance is in no passed reply
  follows_none : (s : State) (c : Client) (n : Next) → IsIn c s.clients → next_of s c ≡ Some n → Fed tale s → is_in_passed c.stage ≡ false
  follows_none s c n there is h = by c.is_closing is
    where
      off : (b : Bool) → is_in_passed c.stage ≡ b → (is_in_passed c.stage ≡ true → ⊥) → is_in_passed c.stage ≡ false
      off true on isnt = absurd (isnt on)
      off false on isnt = on

      of_reply : (r : Reply) (source : Option ℕ) → c.stage ≡ Answering r → r.source ≡ source → (elim (elim source as (λ y. Option Instance) [ None ↦ None | Some id ↦ instance s id ]) as (λ y. Option Next) [ None ↦ None | Some x ↦ next_from x r ]) ≡ Some n → is_in_passed c.stage ≡ false
      of_reply r None stage source has = absurd (cc has)
      of_reply r (Some id) stage source has = off (is_in_passed c.stage) refl (λ on. (facts_of h).sourced c id there on (ap source_in stage ∙ source))

      of_stage : (stage : Stage) → c.stage ≡ stage → (elim (elim stage as (λ y. Option Reply) [ Undecided ↦ None | Waiting ↦ None | Passing ↦ None | Answering r ↦ Some r ]) as (λ y. Option Next) [ None ↦ None | Some r ↦ next_in s r ]) ≡ Some n → is_in_passed c.stage ≡ false
      of_stage Undecided stage has = ap is_in_passed stage
      of_stage Waiting stage has = ap is_in_passed stage
      of_stage Passing stage has = ap is_in_passed stage
      of_stage (Answering r) stage has = of_reply r r.source stage refl has

      by : (t : Bool) → (elim t as (λ y. Option Next) [ true ↦ None | false ↦ elim (reply_of c) as (λ z. Option Next) [ None ↦ None | Some r ↦ next_in s r ] ]) ≡ Some n → is_in_passed c.stage ≡ false
      by true has = absurd (cc has)
      by false has = of_stage c.stage refl has

-- of the clients with its number
abbrev IsOff : Client → State → Type 0
IsOff c s = (d : Client) → IsIn d s.clients → d.number ≡ c.number → is_in_passed d.stage ≡ false

module _ {tale : Tale} where
  fill_with-fed : (e : Exchange) (c : Client) (s : State) → e.asker ≡ Some c.number → e.number ≡ s.next_exchange → is_headed e ≡ false → IsOff c s → Fed tale s → Fed tale (fill_with e c s)
  unfolding fill_with
  fill_with-fed e c s asks number unheaded off h =
      when (fits e.text) (begin_exchange-fed e s number unheaded (λ d i hit. off d i (sym (same_number c.number d.number (sym (ap (λ o. is_this d.number o) asks) ∙ hit)))) h)
      (on_client-fed c.number (λ x. record x { course = AskTooLong }) s (λ x. parts_same _ x refl refl refl refl refl) h)

  fill_span-fed : (c : Client) (n : Next) (span : ℕ × ℕ) (s : State) → IsOff c s → Fed tale s → Fed tale (fill_span c n span s)
  unfolding fill_span
  fill_span-fed c n span s off h = by_front c.front h (λ status. h) (λ r. by_result r.key (λ key. fill_with-fed (filling_exchange s c r.head key n span) c s refl refl refl off h) (λ fault. h))

  fill_next-fed : (c : Client) (n : Next) (s : State) → IsOff c s → Fed tale s → Fed tale (fill_next c n s)
  unfolding fill_next
  fill_next-fed c n s off h = each_of (need_of s n) h (λ span. fill_span-fed c n span s off h)

  fill_for-fed : (c : Client) (s : State) → IsIn c s.clients → Fed tale s → Fed tale (fill_for c s)
  unfolding fill_for
  fill_for-fed c s there h =
      when (is_trying c.course)
      (each_so (next_of s c) (λ none. h) (λ n is. fill_next-fed c n s (λ d i number. ap (λ (x : Client). is_in_passed x.stage) (one_of client_number s.clients d c (facts_of h).apart i there number) ∙ follows_none s c n there is h) h)) h

  pub fill-fed : (s : State) → Fed tale s → Fed tale (fill s)
  unfolding fill
  fill-fed s h = when s.is_stopped h (each_client-fed fill_for fill_for-fed _ s h)

  pub give_up_asks-fed : (s : State) → Fed tale s → Fed tale (give_up_asks s)
  unfolding give_up_asks
  give_up_asks-fed s h = fed (exchanges_filtered s (λ e. not (is_useless_ask s e)) (facts_of h))
