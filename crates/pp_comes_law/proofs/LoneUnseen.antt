-- Where what nobody sees is dropped, what goes alone, is passed for nobody and is not answered yet goes with its connection.
use Rattle.std.proofs.Common.{◌≡◌, refl, ◌==◌, ℕ, nat_lt, Bool, true, false, not, ◌&&◌, List, [], ◌∷◌, filter, map, cond, is_some, Option, Some, None, inl, inr, sym, subst, ap, ◌∙◌}
use Rattle.pp_world.specs.Log.{Log}
use Rattle.pp_law.specs.Connections.{close_conn, conn, each_conn, each_exchange, end_exchange, exchange, front_of_line, is_conn, is_exchange, leave_place, lose_place, may_ask_again, on_client_of, on_conn, on_exchange, unplaced, without_ask}
use Rattle.pp_law.specs.Followers.{give_up_asks, is_useless_ask}
use Rattle.pp_law.specs.Phases.{in_phase}
use Rattle.pp_law.specs.Stages.{is_headed, is_pending, is_through, on_passed}
use Rattle.pp_law.specs.State.{State, Term, Body, Pending as IsPending, Joining, Relaying, Dropping, Conn, Connecting, Exchange, Passed}
use Rattle.pp_law.specs.Unseen.{came_of, drop_limit, drop_on, drop_unseen, is_unseen, is_worth_keeping}
use Rattle.pp_laws.specs.Runs.{IsIn}
use Rattle.pp_laws.proofs.Lists.{Changed, changed_at, in_change, in_filter, in_find, other, same}
use Rattle.pp_laws.proofs.Shrinks.{off}
use Rattle.pp_laws.proofs.Sound.{conn_number}
use Rattle.pp_laws.proofs.Tests.{number_same, same_number}
use Rattle.pp_laws_bounds.proofs.Counts.{in_map_of}
use Rattle.pp_laws_turn.specs.SoundTurn.{IsInLine}
use Rattle.pp_laws_turn.proofs.Cases.{each_so}
use Rattle.pp_laws_turn.proofs.Laws.{sound_turns}
use Rattle.pp_laws_turn.proofs.View.{Holds, facts_of, holds}
use Rattle.pp_obeys.specs.Obeys.{Obeys}
use Rattle.pp_laws_left.proofs.Owned.{Owned, no_test, none_but}
use Rattle.pp_laws_left.proofs.OwnedEnds.{owned_on}
use Rattle.pp_laws_left.proofs.OwnedOver.{find_some}
use Rattle.pp_laws_left.proofs.OwnedPhases.{drop_on-owned}
use Rattle.pp_comes_law.specs.Lone.{is_lone}
use Rattle.pp_comes_law.proofs.Lones.{alone_of, pending_of, through_of}

-- ---- what stands alone

-- nobody's, with a place
record Bad (e : Exchange) : Type 0 where
  nobody : e.asker ≡ None
  placed : is_some e.place ≡ true
  lone : is_lone e ≡ true

-- it stands alone in the line of one of these connections
record Stand (ns : List ℕ) (ks : List Conn) (x : Exchange) : Type 0 where
  conn : Conn
  there : IsIn conn ks
  number : IsIn conn.number ns
  line : conn.line ≡ x.number ∷ []

abbrev Alone : List ℕ → State → Type 0
Alone ns t = (x : Exchange) → IsIn x t.exchanges → Bad x → Stand ns t.conns x

rest_of : (m n : ℕ) (ns : List ℕ) → IsIn m (n ∷ ns) → (m ≡ n → ⊥) → IsIn m ns
rest_of m n ns (inl eq) away = absurd (away eq)
rest_of m n ns (inr i) away = i

abbrev others : (n : ℕ) (ns : List ℕ) (ks : List Conn) (x : Exchange) → (st : Stand (n ∷ ns) ks x) → (st.conn.number ≡ n → ⊥) → Stand ns ks x
others n ns ks x st away = record { conn = st.conn; there = st.there; number = rest_of st.conn.number n ns st.number away; line = st.line }

-- ---- where one is over, or asked elsewhere

abbrev stand_ended : (ns : List ℕ) (m : ℕ) (ks : List Conn) (x : Exchange) → Stand ns ks x → not (x.number == m) ≡ true → Stand ns (map (without_ask m) ks) x
stand_ended ns m ks x st isnt = record {
  conn = without_ask m st.conn;
  there = in_map_of (without_ask m) st.conn ks st.there;
  number = st.number;
  line = ap (λ ms. filter (λ j. not (j == m)) ms) st.line ∙ ap (λ b. cond b (x.number ∷ []) []) isnt;
}

ended : (ns : List ℕ) (m : ℕ) (t : State) → Alone ns t → Alone ns (end_exchange m t)
unfolding end_exchange
ended ns m t h x i bad = let w = in_filter (λ e. not (is_exchange m e)) x t.exchanges i in stand_ended ns m t.conns x (h x w.0 bad) w.1

moved : (ns : List ℕ) (n : ℕ) (t : State) → Alone ns t → Alone ns (on_exchange n unplaced t)
unfolding on_exchange
moved ns n t h x i bad = by (in_change (is_exchange n) unplaced x t.exchanges i)
  where
    by : Changed (is_exchange n) unplaced t.exchanges x → Stand ns t.conns x
    by (same j isnt) = h x j bad
    by (other y j hit eq) = let both : true ≡ false = sym bad.placed ∙ ap (λ (e : Exchange). is_some e.place) eq in absurd (cc both)

short : Passed → Passed
short p = record p { is_short = true }

left_one : (ns : List ℕ) (e : Exchange) (t : State) → Alone ns t → Alone ns (leave_place e t)
unfolding leave_place on_client_of
left_one ns e t h = by (is_headed e)
  where
    again : (b : Bool) → Alone ns (elim b as (λ c. State) [ true ↦ on_exchange e.number unplaced t | false ↦ end_exchange e.number t ])
    again true = moved ns e.number t h
    again false = ended ns e.number t h

    by : (b : Bool) → Alone ns (elim b as (λ c. State) [ true ↦ end_exchange e.number (on_client_of e (on_passed (λ p. record p { is_short = true })) t) | false ↦ elim (may_ask_again t e.number) as (λ c. State) [ true ↦ on_exchange e.number unplaced t | false ↦ end_exchange e.number t ] ])
    by true = ended ns e.number (on_client_of e (on_passed (λ p. record p { is_short = true })) t) h
    by false = again (may_ask_again t e.number)

left_each : (ns line : List ℕ) (t : State) → Alone ns t → Alone ns (each_exchange (lose_place false) line t)
unfolding each_exchange lose_place
left_each ns [] t h = h
left_each ns (m ∷ line) t h = left_each ns line _ (by (exchange t m))
  where
    by : (o : Option Exchange) → Alone ns (elim o as (λ c. State) [ None ↦ t | Some e ↦ lose_place false e t ])
    by None = h
    by (Some e) = left_one ns e t h

-- ---- where a connection is closed

closed : (ns : List ℕ) (k : Conn) (t : State) → ((x : Exchange) → IsIn x t.exchanges → Bad x → (st : Stand ns t.conns x) × (st.conn.number ≡ k.number → ⊥)) → Alone ns (close_conn false k t)
unfolding close_conn on_conn
closed ns k t h = left_each ns k.line (on_conn k.number off t) (λ x i bad. let w = h x i bad in record {
  conn = w.0.conn;
  there = subst (λ (j : Conn). IsIn j (map (changed_at (is_conn k.number) off) t.conns)) (ap (λ b. elim b as (λ z. Conn) [ true ↦ off w.0.conn | false ↦ w.0.conn ]) (no_test (w.0.conn.number == k.number) (λ hit. w.1 (same_number w.0.conn.number k.number hit)))) (in_map_of (changed_at (is_conn k.number) off) w.0.conn t.conns w.0.there);
  number = w.0.number;
  line = w.0.line;
})

-- nobody sees it
unseen_so : (t : State) (k : Conn) (x : Exchange) → x.asker ≡ None → is_through x ≡ true → is_pending x.body ≡ true → is_unseen t k x ≡ true
unseen_so t k x nobody through pending = by x.body pending
  where
    by : (b : Body) → is_pending b ≡ true → (elim b as (λ y. Bool) [ IsPending ↦ is_through x && not (is_some x.asker) | Joining c ↦ not (is_worth_keeping t c) | Relaying ↦ not (is_some x.asker) | Dropping ↦ nat_lt drop_limit (came_of k) ]) ≡ true
    by IsPending is = ap (λ b. b && not (is_some x.asker)) through ∙ ap (λ (o : Option ℕ). not (is_some o)) nobody
    by (Joining c) is = absurd (cc is)
    by Relaying is = absurd (cc is)
    by Dropping is = absurd (cc is)

step : {At : Type 0} (n : ℕ) (ns : List ℕ) (k : Conn) (t : State) → conn t n ≡ Some k → Holds (Owned none_but At) t → Alone (n ∷ ns) t → Alone ns (drop_on k t)
unfolding drop_on end_exchange
step n ns k t found own h = by (front_of_line t k) refl
  where
    there : IsIn k t.conns × (is_conn n k ≡ true)
    there = in_find (is_conn n) k t.conns found

    number : k.number ≡ n
    number = same_number k.number n there.1

    its : (x : Exchange) → IsIn x t.exchanges → exchange t x.number ≡ Some x
    its x i =
        let y = find_some (is_exchange x.number) x t.exchanges i (number_same x.number) in
        let w = in_find (is_exchange x.number) y.0 t.exchanges y.1 in
        let one : y.0 ≡ x = (facts_of own).apart y.0 x w.0 i (same_number y.0.number x.number w.1) in
        y.1 ∙ ap (λ (z : Exchange). Some z) one

    mine : (x : Exchange) → IsIn x t.exchanges → (st : Stand (n ∷ ns) t.conns x) → st.conn.number ≡ n → front_of_line t k ≡ Some x
    mine x i st at =
        let one : st.conn ≡ k = (facts_of own).conns st.conn k st.there there.0 (at ∙ sym number) in
        let line : k.line ≡ x.number ∷ [] = ap (λ (j : Conn). j.line) (sym one) ∙ st.line in
        ap (λ (ms : List ℕ). elim ms as (λ c. Option Exchange) [ [] ↦ None | m ∷ more ↦ exchange t m ]) line ∙ its x i

    seen : (e : Exchange) → front_of_line t k ≡ Some e → (b : Bool) → is_unseen t k e ≡ b → Alone ns (elim b as (λ c. State) [ true ↦ close_conn false k (end_exchange e.number t) | false ↦ t ])
    seen e first false isnt = λ x i bad. let st = h x i bad in others n ns t.conns x st (λ at.
        let both : Some e ≡ Some x = sym first ∙ mine x i st at in
        let one : e ≡ x = cc both in
        let two : true ≡ false = sym (unseen_so t k x bad.nobody (through_of x bad.lone) (pending_of x bad.lone)) ∙ ap (λ (y : Exchange). is_unseen t k y) (sym one) ∙ isnt in
        cc two)
    seen e first true hit = closed ns k (end_exchange e.number t) (gone e first)
      where
        gone : (e : Exchange) → front_of_line t k ≡ Some e → (x : Exchange) → IsIn x (end_exchange e.number t).exchanges → Bad x → (st : Stand ns (end_exchange e.number t).conns x) × (st.conn.number ≡ k.number → ⊥)
        gone e first x i bad =
            let w = in_filter (λ y. not (is_exchange e.number y)) x t.exchanges i in
            let st : Stand (n ∷ ns) t.conns x = h x w.0 bad in
            let away : st.conn.number ≡ n → ⊥ = λ at. (
            let both : Some e ≡ Some x = sym first ∙ mine x w.0 st at in
            let one : e ≡ x = cc both in
            let two : false ≡ true = sym (ap not (ap (λ (y : Exchange). x.number == y.number) one ∙ number_same x.number)) ∙ w.1 in
            cc two) in
            (stand_ended ns e.number t.conns x (others n ns t.conns x st away) w.1, λ at. away (◌∙◌ {a = st.conn.number} at number))

    by : (o : Option Exchange) → front_of_line t k ≡ o → Alone ns (elim o as (λ c. State) [ None ↦ t | Some e ↦ elim (is_unseen t k e) as (λ d. State) [ true ↦ close_conn false k (end_exchange e.number t) | false ↦ t ] ])
    by None none = λ x i bad. let st = h x i bad in others n ns t.conns x st (λ at. let both : None ≡ Some x = sym none ∙ mine x i st at in cc both)
    by (Some e) first = seen e first (is_unseen t k e) refl

walk : {At : Type 0} (ns : List ℕ) (t : State) → Holds (Owned none_but At) t → Alone ns t → Alone [] (each_conn drop_on ns t)
unfolding each_conn
walk [] t own h = h
walk (n ∷ ns) t own h = walk ns _ (each_so (conn t n) (λ none. own) (λ k found. drop_on-owned k t (in_find (is_conn n) k t.conns found).0 own)) (by (conn t n) refl)
  where
    by : (o : Option Conn) → conn t n ≡ o → Alone ns (elim o as (λ c. State) [ None ↦ t | Some k ↦ drop_on k t ])
    by None none = λ x i bad. let st = h x i bad in others n ns t.conns x st (λ at.
        let f = find_some (is_conn n) st.conn t.conns st.there (ap (λ m. m == n) at ∙ number_same n) in
        let both : None ≡ Some f.0 = sym none ∙ f.1 in
        cc both)
    by (Some k) found = step n ns k t found own h

-- ---- all of it

pub lone_go : (terms : List Term) (s : State) (log : Log) → Obeys terms s log → s.is_stopped ≡ false → (e : Exchange) → IsIn e (give_up_asks (drop_unseen (in_phase Connecting s))).exchanges → is_some e.place ≡ true → is_lone e ≡ true → is_some e.asker ≡ true
unfolding drop_unseen give_up_asks
lone_go terms s log obeys runs e i placed lone = by e.asker refl
  where
    stands : (x : Exchange) → IsIn x s.exchanges → Bad x → (o : Option ℕ) → x.place ≡ o → is_some o ≡ true → Stand (map conn_number s.conns) s.conns x
    stands x j bad None at some = absurd (cc some)
    stands x j bad (Some n) at some =
        let t = sound_turns terms s log obeys in
        let l : IsInLine s x n = t.lined x n runs j at in
        record {
          conn = l.place;
          there = l.there;
          number = in_map_of conn_number l.place s.conns l.there;
          line = t.by_itself l.place x l.there j l.here (alone_of x bad.lone);
        }

    none : Alone [] (drop_unseen (in_phase Connecting s))
    none = walk (map conn_number s.conns) (in_phase Connecting s) (holds (facts_of (owned_on terms s log obeys))) (λ x j bad. stands x j bad x.place refl bad.placed)

    by : (o : Option ℕ) → e.asker ≡ o → is_some e.asker ≡ true
    by (Some n) is = ap (λ (p : Option ℕ). is_some p) is
    by None is = absurd ((none e (in_filter (λ x. not (is_useless_ask (drop_unseen (in_phase Connecting s)) x)) e (drop_unseen (in_phase Connecting s)).exchanges i).0 (record { nobody = is; placed = placed; lone = lone })).number)
