-- Of what is dropped as much is counted as came, behind a tick: connections that are idle have no line any more, and on the others all is as it was.
use Rattle.std.proofs.Common.{◌≡◌, ◌≤◌, ◌⊎◌, inl, inr, refl, sym, subst, ap, ◌∙◌, ℕ, Bool, true, false, ◌==◌, ◌&&◌, not, cond, find, map, max, List, [], ◌∷◌, Option, Some, None, le_refl}
use Rattle.std.specs.List.{fold}
use Rattle.std.specs.Prelude.{count_by, option_map}
use Rattle.pp_cache_law.proofs.Numbers.{is_same, some_is}
use Rattle.pp_turns_law.specs.Unread.{IsCountedOn}
use Rattle.pp_desk.specs.Closings.{Sides, closed_line, peer_numbers, sides}
use Rattle.pp_desk.specs.Origins.{given_up, is_idle_in, patience_ended, unanswered, without_idle_on}
use Rattle.pp_flow.specs.Changes.{Exchanges}
use Rattle.pp_flow.specs.declared.entry.Exchange.{Exchange as OfEntry}
use Rattle.pp_flow_law.proofs.Framed.{frames}
use Rattle.pp_flow_law.specs.Frames.{emptied}
use Rattle.pp_flow_law.specs.Tables.{ShowsFlow, line_in, none_leaves}
use Rattle.pp_law.specs.Connections.{attempts_of, charge, close_conn, conn, each_conn, each_exchange, end_exchange, exchange, fail, front_of_line, give_up_row, is_conn, is_unfilled, leave_place, lose_attempt, lose_place, lost_one, may_ask_again, on_client_of, on_conn, on_exchange, out_of_tries, unplaced, without_ask, without_row}
use Rattle.pp_law.specs.Closing.{left_alone}
use Rattle.pp_law.specs.Lists.{has_number}
use Rattle.pp_law.specs.Stages.{is_headed, on_passed}
use Rattle.pp_law.specs.State.{State, Answer, Client, Conn, Course, Exchange}
use Rattle.pp_law.specs.Table.{clear, swept}
use Rattle.pp_law.specs.Turn.{close_idle_conn, end_patience, is_idle_conn, is_leap, marked_client, marked_conn, marks_anew, owes_answer, renew_marks, tick, tick_to}
use Rattle.pp_law.specs.Unseen.{came_of}
use Rattle.pp_peers.specs.Peers.{is_number as is_peer}
use Rattle.pp_peers.specs.declared.peers.Peer.{Peer}
use Rattle.pp_proxy.specs.Ticks.{second_begun, ticked}
use Rattle.pp_state.specs.Asking.{owed_answer}
use Rattle.pp_state.specs.Ends.{Parts, seat_for}
use Rattle.pp_state.specs.declared.state.State.{State as Turn}
use Rattle.pp_stays_law.proofs.Came.{AllConns, HasCome, came_at}
use Rattle.pp_stays_law.proofs.Counted.{IsAsBefore, all_as_before, counted_behind}
use Rattle.pp_stays_law.proofs.Fits.{AnyEntry, AnyMemory, AnySeat, any_entries, bodies_suit}
use Rattle.pp_stays_law.proofs.Walk.{AllOf, Holds}
use Rattle.pp_target.specs.Key.{text_of}
use Rattle.pp_given_law.proofs.CountedOver.{handled_conns}
use Rattle.pp_given_law.proofs.CountedWalk.{charged_on as charged_all, line_closed as line_shut}
use Rattle.pp_given_law.specs.Counts.{CountedAsTicked}

-- ---- the law: each connection has what it had, or no line

all_map : (R : Conn → Type 0) (f : Conn → Conn) (ks : List Conn) → ((k : Conn) → R k → R (f k)) → AllConns R ks → AllConns R (map f ks)
all_map R f [] each all = tt
all_map R f (k ∷ ks) each all = (each k all.0, all_map R f ks each all.1)

abbrev pub HasOld : ℕ → ℕ → Conn → Type 0
HasOld n c k = (k.number == n) ≡ true → (came_of k ≡ c) ⊎ (k.line ≡ [])

module _ (n c : ℕ) where
  abbrev pub P : State → Type 0
  P s = AllConns (HasOld n c) s.conns

  pub when : (b : Bool) (x y : State) → P x → P y → P (elim b as (λ t. State) [ true ↦ x | false ↦ y ])
  when true x y one two = one
  when false x y one two = two

  pub each : {A : Type 0} (o : Option A) (x : State) (f : A → State) → P x → ((a : A) → P (f a)) → P (elim o as (λ t. State) [ None ↦ x | Some a ↦ f a ])
  each None x f one two = one
  each (Some a) x f one two = two a

  over_one : (m : ℕ) (k : Conn) → HasOld n c k → HasOld n c (without_ask m k)
  over_one m k its is = by (its is)
    where
      by : (came_of k ≡ c) ⊎ (k.line ≡ []) → (came_of k ≡ c) ⊎ ((without_ask m k).line ≡ [])
      by (inl same) = inl same
      by (inr none) = inr (ap (λ (line : List ℕ). (without_ask m (record k { line = line })).line) none)

  pub on_one : (m : ℕ) (f : Conn → Conn) (s : State) → ((k : Conn) → HasOld n c k → HasOld n c (f k)) → P s → P (on_conn m f s)
  unfolding on_conn
  on_one m f s keeps h = all_map (HasOld n c) _ s.conns at h
    where
      at : (k : Conn) → HasOld n c k → HasOld n c (elim (is_conn m k) as (λ b. Conn) [ true ↦ f k | false ↦ k ])
      at k its = by (is_conn m k)
        where
          by : (b : Bool) → HasOld n c (elim b as (λ d. Conn) [ true ↦ f k | false ↦ k ])
          by true = keeps k its
          by false = its

  pub over : (m : ℕ) (s : State) → P s → P (end_exchange m s)
  unfolding end_exchange
  over m s h = all_map (HasOld n c) (without_ask m) s.conns (over_one m) h

  pub on_ask : (m : ℕ) (f : Exchange → Exchange) (s : State) → P s → P (on_exchange m f s)
  unfolding on_exchange
  on_ask m f s h = h

  pub on_asker : (e : Exchange) (f : Client → Client) (s : State) → P s → P (on_client_of e f s)
  unfolding on_client_of
  on_asker e f s h = h

  cleared : (key : List ℕ) (s : State) → P s → P (clear key s)
  unfolding clear swept
  cleared key s h = h

  without_row_of : (e : Exchange) (s : State) → P s → P (give_up_row e s)
  unfolding give_up_row
  without_row_of e s h = when (is_unfilled s e) (on_exchange e.number left_alone (on_client_of e without_row (clear (text_of e.key) s))) s (on_ask e.number left_alone _ (on_asker e without_row _ (cleared (text_of e.key) s h))) h

  charges : (cost : Course → Course) (e : Exchange) (s : State) → P s → P (charge cost e s)
  unfolding charge
  charges cost e s h = without_row_of e _ (on_asker e (λ d. record d { course = cost d.course }) s h)

  pub loses : (e : Exchange) (s : State) → P s → P (lose_attempt e s)
  unfolding lose_attempt
  loses e s h = charges (lost_one (attempts_of e)) e s h

  pub fails : (e : Exchange) (s : State) → P s → P (fail e s)
  unfolding fail
  fails e s h = charges out_of_tries e s h

  leaves : (e : Exchange) (s : State) → P s → P (leave_place e s)
  unfolding leave_place
  leaves e s h =
      when (is_headed e) _ _ (over e.number _ (on_asker e (on_passed (λ p. record p { is_short = true })) s h))
      (when (may_ask_again s e.number) (on_exchange e.number unplaced s) (end_exchange e.number s) (on_ask e.number unplaced s h) (over e.number s h))

  pub loses_place : (counts : Bool) (e : Exchange) (s : State) → P s → P (lose_place counts e s)
  unfolding lose_place
  loses_place counts e s h = when counts (leave_place e (lose_attempt e s)) (leave_place e s) (leaves e (lose_attempt e s) (loses e s h)) (leaves e s h)

  pub all_exchanges : (f : Exchange → State → State) → ((e : Exchange) (s : State) → P s → P (f e s)) → (ns : List ℕ) (s : State) → P s → P (each_exchange f ns s)
  unfolding each_exchange
  all_exchanges f all [] s h = h
  all_exchanges f all (m ∷ ns) s h = all_exchanges f all ns _ (each (exchange s m) s (λ e. f e s) h (λ e. all e s h))

  all_conns : (f : Conn → State → State) → ((k : Conn) (s : State) → P s → P (f k s)) → (ns : List ℕ) (s : State) → P s → P (each_conn f ns s)
  unfolding each_conn
  all_conns f all [] s h = h
  all_conns f all (m ∷ ns) s h = all_conns f all ns _ (each (conn s m) s (λ k. f k s) h (λ k. all k s h))

  pub closes : (counts : Bool) (k : Conn) (s : State) → P s → P (close_conn counts k s)
  unfolding close_conn
  closes counts k s h = all_exchanges (lose_place (counts && not k.has_brought)) (loses_place (counts && not k.has_brought)) k.line _ (on_one k.number emptied s (λ j its is. inr refl) h)

  impatient : (k : Conn) (s : State) → P s → P (end_patience k s)
  unfolding end_patience
  impatient k s h = when (owes_answer s k) _ s (each (front_of_line s k) s (λ e. fail e s) h (λ e. fails e s h)) h

  idle : (k : Conn) (s : State) → P s → P (close_idle_conn k s)
  unfolding close_idle_conn
  idle k s h = when (is_idle_conn s k) (close_conn true k (end_patience k s)) s (closes true k (end_patience k s) (impatient k s h)) h

  marks : (now : ℕ) (s : State) → P s → P (marks_anew now s)
  unfolding marks_anew
  marks now s h = when (is_leap now s) (record s { has_ticked = true; clients = map (marked_client now) s.clients; conns = map (marked_conn now) s.conns }) s (all_map (HasOld n c) (marked_conn now) s.conns (λ k its. its) h) h

  renewed : (now : ℕ) (s : State) → P s → P (renew_marks now s)
  unfolding renew_marks
  renewed now s h = h

  ticks_to : (now : ℕ) (s : State) → P s → P (tick_to now s)
  unfolding tick_to
  ticks_to now s h = all_conns close_idle_conn idle _ _ (renewed now (marks_anew now s) (marks now s h))

  ticks_on : (seconds : ℕ) (s : State) → P s → P (tick seconds s)
  unfolding tick
  ticks_on seconds s h = ticks_to (max s.clock seconds) s h

-- ---- the program: bodies are as they were

module _ (f : Exchanges) where
  abbrev pub G : Parts → Type 0
  G p = AllOf (IsAsBefore f) p.flow.placed

  pub whole : (p : Parts) → G p → Holds AnySeat AnyEntry (IsAsBefore f) AnyMemory p
  whole p h = record { seats = λ i seat at. tt; waiting = any_entries p.flow.waiting; placed = h; memory = tt }

  pub line_closed : (k : ℕ) (counts : Bool) (o : Option Peer) (p : Parts) → G p → G (closed_line k counts o p)
  line_closed k counts o p h = line_shut (IsAsBefore f) (bodies_suit f) k counts o p h

  patience_on : (k : ℕ) (p : Parts) → G p → G (patience_ended k p)
  patience_on k p h = by (owed_answer k p.flow)
    where
      by : (o : Option OfEntry) → G (unanswered o p)
      by None = h
      by (Some e) = charged_all (IsAsBefore f) (bodies_suit f) (seat_for e p.seats) _ e p h

  idle_on : (now k : ℕ) (x : Sides) → G x.parts → G (without_idle_on now x k).parts
  idle_on now k x h = by (is_idle_in now x.parts.flow (find (is_peer k) x.peers))
    where
      by : (b : Bool) → G (cond b (given_up k x) x).parts
      by true = line_closed k true (find (is_peer k) x.peers) (patience_ended k x.parts) (patience_on k x.parts h)
      by false = h

  all_idle : (now : ℕ) (ks : List ℕ) (x : Sides) → G x.parts → G (fold (without_idle_on now) x ks).parts
  all_idle now [] x h = h
  all_idle now (k ∷ ks) x h = all_idle now ks (without_idle_on now x k) (idle_on now k x h)

  begins_second : (now : ℕ) (s : Turn) (x : Sides) → G x.parts → G (ticked now s x).parts
  begins_second now s x h = all_idle now (peer_numbers (second_begun now s x).peers) (second_begun now s x) h

-- ---- both

answer_at : Option Conn → Option Answer
answer_at None = None
answer_at (Some k) = k.answer

-- what came on a connection that has no line is of no account: as if it were there still
fixed : State → List ℕ → Conn → Conn
fixed s [] k = record k { answer = answer_at (conn s k.number) }
fixed s (m ∷ ms) k = k

abbrev fix : State → Conn → Conn
fix s k = fixed s k.line k

fixed_number : (s : State) (line : List ℕ) (k : Conn) → (fixed s line k).number ≡ k.number
unfolding fixed
fixed_number s [] k = refl
fixed_number s (m ∷ ms) k = refl

fixed_line : (s : State) (line : List ℕ) (k : Conn) → (fixed s line k).line ≡ k.line
unfolding fixed
fixed_line s [] k = refl
fixed_line s (m ∷ ms) k = refl

find_fixed : (s : State) (n : ℕ) (ks : List Conn) → find (is_conn n) (map (fix s) ks) ≡ option_map (fix s) (find (is_conn n) ks)
find_fixed s n [] = refl
find_fixed s n (k ∷ ks) = ap (λ (m : ℕ). cond (m == n) (Some (fix s k)) (find (is_conn n) (map (fix s) ks))) (fixed_number s k.line k) ∙ by (is_conn n k) (find_fixed s n ks)
  where
    by : (b : Bool) → find (is_conn n) (map (fix s) ks) ≡ option_map (fix s) (find (is_conn n) ks) → cond b (Some (fix s k)) (find (is_conn n) (map (fix s) ks)) ≡ option_map (fix s) (cond b (Some k) (find (is_conn n) ks))
    by true rest = refl
    by false rest = rest

line_fixed : (s : State) (o : Option Conn) → line_in (option_map (fix s) o) ≡ line_in o
line_fixed s None = refl
line_fixed s (Some k) = fixed_line s k.line k

all_old : (n c : ℕ) (ks : List Conn) → AllConns (HasCome n c) ks → AllConns (HasOld n c) ks
all_old n c [] all = tt
all_old n c (k ∷ ks) all = ((λ is. inl (all.0 is)), all_old n c ks all.1)

old_found : (n c : ℕ) (ks : List Conn) (k : Conn) → find (is_conn n) ks ≡ Some k → AllConns (HasOld n c) ks → ((came_of k ≡ c) ⊎ (k.line ≡ [])) × (k.number ≡ n)
old_found n c [] k there all = absurd (cc there)
old_found n c (j ∷ ks) k there all = by (is_conn n j) refl there (λ later. old_found n c ks k later all.1)
  where
    by : (b : Bool) → is_conn n j ≡ b → cond b (Some j) (find (is_conn n) ks) ≡ Some k → (find (is_conn n) ks ≡ Some k → ((came_of k ≡ c) ⊎ (k.line ≡ [])) × (k.number ≡ n)) → ((came_of k ≡ c) ⊎ (k.line ≡ [])) × (k.number ≡ n)
    by true is found rest = subst (λ (i : Conn). ((came_of i ≡ c) ⊎ (i.line ≡ [])) × (i.number ≡ n)) (some_is j k found) (all.0 is, is_same j.number n is)
    by false is found rest = rest found

came_fixed : (s : State) (n : ℕ) (k j : Conn) (line : List ℕ) → conn s n ≡ Some k → j.number ≡ n → (came_of j ≡ came_of k) ⊎ (line ≡ []) → came_of (fixed s line j) ≡ came_of k
unfolding fixed answer_at
came_fixed s n k j [] there is old = ap (λ (o : Option Conn). came_of (record j { answer = answer_at o })) (ap (λ (m : ℕ). conn s m) is ∙ there)
came_fixed s n k j (m ∷ ms) there is (inl same) = same
came_fixed s n k j (m ∷ ms) there is (inr none) = absurd (cc none)

-- so as much is counted
pub old_counted_by : (number other : ℕ → ℕ) (f g : Exchanges) (s t : State) → ShowsFlow number none_leaves f s → ShowsFlow other none_leaves g t → AllOf (IsAsBefore f) g.placed → ((m : ℕ) (k : Conn) → conn s m ≡ Some k → AllConns (HasOld m (came_of k)) t.conns)
    → ((m : ℕ) (k : Conn) → conn s m ≡ Some k → IsCountedOn f k) → (n : ℕ) (j : Conn) → conn t n ≡ Some j → IsCountedOn g j
unfolding fixed
old_counted_by number other f g s t shows later bodies old counted n j there = back j.line refl (counted_behind number other f g s u shows behind bodies came counted n (fix s j) (find_fixed s n t.conns ∙ ap (λ (o : Option Conn). option_map (fix s) o) there))
  where
    u : State
    u = record t { conns = map (fix s) t.conns }

    behind : ShowsFlow other none_leaves g u
    behind =
        frames other none_leaves g t later none_leaves u
        (record { exchanges = refl; next = refl; lines = λ m. ap (λ (o : Option Conn). line_in o) (find_fixed s m t.conns) ∙ line_fixed s (find (is_conn m) t.conns) })

    came : (m : ℕ) (k i : Conn) → conn s m ≡ Some k → conn u m ≡ Some i → came_of i ≡ came_of k
    came m k i here at = by (find (is_conn m) t.conns) refl (sym (find_fixed s m t.conns) ∙ at)
      where
        by : (o : Option Conn) → find (is_conn m) t.conns ≡ o → option_map (fix s) o ≡ Some i → came_of i ≡ came_of k
        by None found same = absurd (cc same)
        by (Some d) found same =
            let its : ((came_of d ≡ came_of k) ⊎ (d.line ≡ [])) × (d.number ≡ m) = old_found m (came_of k) t.conns d found (old m k here) in
            ap (λ (a : Conn). came_of a) (sym (some_is (fix s d) i same)) ∙ came_fixed s m k d d.line here its.1 its.0

    back : (line : List ℕ) → j.line ≡ line → IsCountedOn g (fixed s line j) → IsCountedOn g j
    back [] none h m e has here = absurd (let bad : false ≡ true = sym (ap (λ (line : List ℕ). has_number m line) none) ∙ has in cc bad)
    back (a ∷ more) none h m e has here = h m e has here

pub old_counted : (number : ℕ → ℕ) (f g : Exchanges) (s t : State) → ShowsFlow number none_leaves f s → ShowsFlow number none_leaves g t → AllOf (IsAsBefore f) g.placed → ((m : ℕ) (k : Conn) → conn s m ≡ Some k → AllConns (HasOld m (came_of k)) t.conns)
    → ((m : ℕ) (k : Conn) → conn s m ≡ Some k → IsCountedOn f k) → (n : ℕ) (j : Conn) → conn t n ≡ Some j → IsCountedOn g j
old_counted number f g s t shows later bodies old counted = old_counted_by number number f g s t shows later bodies old counted

-- each has what it had, where it stands
pub starts_old : (s : State) (m : ℕ) (k : Conn) → count_by (is_conn m) s.conns ≤ 1 → conn s m ≡ Some k → AllConns (HasOld m (came_of k)) s.conns
starts_old s m k few here = all_old m (came_of k) s.conns (came_at m k (record s { top = m }) few (le_refl m) here).conns

pub as_ticked : CountedAsTicked
as_ticked seconds number x y s stands is it counted = old_counted number x.moving.desk.state.flow y.moving.desk.state.flow s it.handled.handled shows it.handled.stands.desk.turn.steps.shows.exchanges bodies old counted
  where
    shows : ShowsFlow number none_leaves x.moving.desk.state.flow s
    shows = stands.desk.turn.steps.shows.exchanges

    bodies : AllOf (IsAsBefore x.moving.desk.state.flow) y.moving.desk.state.flow.placed
    bodies =
        subst (λ (w : Sides). AllOf (IsAsBefore x.moving.desk.state.flow) w.parts.flow.placed) (sym is.0.is)
        (begins_second x.moving.desk.state.flow (max x.moving.desk.state.now seconds) x.moving.desk.state (sides x.moving.desk) (all_as_before number x.moving.desk.state.flow s shows))

    old : (m : ℕ) (k : Conn) → conn s m ≡ Some k → AllConns (HasOld m (came_of k)) it.handled.handled.conns
    old m k here =
        subst (λ (ks : List Conn). AllConns (HasOld m (came_of k)) ks) (sym (handled_conns number _ y s (tick seconds s) it))
        (ticks_on m (came_of k) seconds s (starts_old s m k (stands.desk.may.apart m) here))
