-- An exchange of a line is over, and its connection is closed with it.
use Rattle.std.proofs.Common.{◌≡◌, ◌≤◌, refl, sym, subst, ap, ap₂, ◌∙◌, ℕ, Bool, true, false, not, ◌==◌, cond, filter, find, length, map, List, [], ◌∷◌, Some, None, Option, arith}
use Rattle.std.specs.Prelude.{option_map}
use Rattle.pp_cache_law.proofs.Finds.{find_mapped, find_passes}
use Rattle.pp_cache_law.proofs.PairLemmas.{count_mapped_same}
use Rattle.pp_flow_law.proofs.Entries.{none_some, same_number}
use Rattle.pp_flow_law.specs.Changes.{but}
use Rattle.pp_flow_law.specs.Frames.{emptied}
use Rattle.pp_flow_law.specs.Tables.{line_in, none_leaves}
use Rattle.pp_law.specs.Connections.{close_conn, conn, each_exchange, end_exchange, exchange, is_conn, lose_place, on_conn, without_ask}
use Rattle.pp_law.specs.Lists.{Bytes, has_number}
use Rattle.pp_law.specs.State.{State, Conn, Exchange}
use Rattle.pp_peers.specs.Peers.{is_number, with_peer}
use Rattle.pp_peers.specs.declared.peers.Peer.{Peer}
use Rattle.pp_peers_law.specs.Peers.{ShowsConn}
use Rattle.pp_desk.specs.Closings.{Sides, closed_line, closing, dropped_with}
use Rattle.pp_states_law.proofs.Alone.{same_some}
use Rattle.pp_states_law.proofs.Connected.{kept_line}
use Rattle.pp_states_law.proofs.Ended.{ends}
use Rattle.pp_states_law.proofs.Lines.{IsPlaced, all_found, in_line}
use Rattle.pp_states_law.specs.Decisions.{AreApart}
use Rattle.pp_states_law.specs.Exchanges.{StandsNowhere}
use Rattle.pp_state.specs.Ends.{ended}
use Rattle.pp_state.specs.Lines.{lost_line}
use Rattle.pp_states_law.proofs.Closed.{closes}
use Rattle.pp_states_law.proofs.Kept.{lost_kept}
use Rattle.pp_states_law.proofs.Told.{conn_next, over_next, told_next, told_over}
use Rattle.pp_states_law.specs.Lines.{AllGo}
use Rattle.pp_states_law.specs.Steps.{ShowsSteps, whole}
use Rattle.pp_turns_law.proofs.Orderly.{closed, ended_apart, ended_go, ended_orderly, found, out, shorter}
use Rattle.pp_turns_law.proofs.Peers.{HasPeer, find_set, linked, set_twice}
use Rattle.pp_turns_law.proofs.Shut.{Steps}
use Rattle.pp_turns_law.proofs.StandsIn.{OnlyOn, only_on}
use Rattle.pp_turns_law.specs.Connections.{DropsAreTheLaws}
use Rattle.pp_turns_law.specs.Sides.{AreOrderly, IsOrderly, ShowsSides}

-- ---- the law's: it is closed at once, or first is closing with its line

abbrev doomed : Conn → Conn
doomed k = record k { is_closing = true }

abbrev doomed_if : ℕ → Conn → Conn
doomed_if n k = elim (is_conn n k) as (λ t. Conn) [ true ↦ doomed k | false ↦ k ]

abbrev emptied_if : ℕ → Conn → Conn
emptied_if n k = elim (is_conn n k) as (λ t. Conn) [ true ↦ emptied k | false ↦ k ]

one_by_one : (m n : ℕ) (ks : List Conn) → map (emptied_if n) (map (without_ask m) (map (doomed_if n) ks)) ≡ map (emptied_if n) (map (without_ask m) ks)
one_by_one m n [] = refl
one_by_one m n (k ∷ ks) = ap₂ (λ (j : Conn) (js : List Conn). j ∷ js) (by (is_conn n k) refl) (one_by_one m n ks)
  where
    by : (b : Bool) → is_conn n k ≡ b → emptied_if n (without_ask m (elim b as (λ t. Conn) [ true ↦ doomed k | false ↦ k ])) ≡ emptied_if n (without_ask m k)
    by false is = refl
    by true is =
        ap (λ (c : Bool). elim c as (λ t. Conn) [ true ↦ emptied (without_ask m (doomed k)) | false ↦ without_ask m (doomed k) ]) is
        ∙ sym (ap (λ (c : Bool). elim c as (λ t. Conn) [ true ↦ emptied (without_ask m k) | false ↦ without_ask m k ]) is)

emptied_same : (m n : ℕ) (s : State) → on_conn n emptied (end_exchange m (on_conn n doomed s)) ≡ on_conn n emptied (end_exchange m s)
unfolding on_conn end_exchange
emptied_same m n s = ap (λ (ks : List Conn). let t : State = record (end_exchange m s) { conns = ks } in t) (one_by_one m n s.conns)

-- one that is over loses no place
still_out : (m : ℕ) (e : Exchange) (s : State) → exchange s m ≡ None → exchange (lose_place false e s) m ≡ None
still_out m e s none = by (exchange (lose_place false e s) m) refl
  where
    by : (o : Option Exchange) → exchange (lose_place false e s) m ≡ o → o ≡ None
    by None is = refl
    by (Some d) is = absurd (none_some ((lost_kept 0 false e s).exchange m d is).before (sym none ∙ ((lost_kept 0 false e s).exchange m d is).there))

abbrev lost_at : State → Option Exchange → State
lost_at s o = elim o as (λ t. State) [ None ↦ s | Some e ↦ lose_place false e s ]

passed_over : (m : ℕ) (ns : List ℕ) (s : State) → exchange s m ≡ None → each_exchange (lose_place false) (filter (λ n. not (n == m)) ns) s ≡ each_exchange (lose_place false) ns s
unfolding each_exchange
passed_over m [] s none = refl
passed_over m (n ∷ ns) s none = by (n == m) refl (passed_over m ns s none) (passed_over m ns (lost_at s (exchange s n)) (next (exchange s n)))
  where
    next : (o : Option Exchange) → exchange (lost_at s o) m ≡ None
    next None = none
    next (Some e) = still_out m e s none

    by : (b : Bool) → (n == m) ≡ b → each_exchange (lose_place false) (filter (λ i. not (i == m)) ns) s ≡ each_exchange (lose_place false) ns s
        → each_exchange (lose_place false) (filter (λ i. not (i == m)) ns) (lost_at s (exchange s n)) ≡ each_exchange (lose_place false) ns (lost_at s (exchange s n))
        → each_exchange (lose_place false) (cond (not b) (n ∷ filter (λ i. not (i == m)) ns) (filter (λ i. not (i == m)) ns)) s ≡ each_exchange (lose_place false) ns (lost_at s (exchange s n))
    by true is rest other =
        rest
        ∙ sym (ap (λ (o : Option Exchange). each_exchange (lose_place false) ns (lost_at s o)) (ap (λ (i : ℕ). exchange s i) (same_number n m is) ∙ none))
    by false is rest other = other

empty_out : (m n : ℕ) (s : State) → exchange (on_conn n emptied (end_exchange m s)) m ≡ None
unfolding on_conn
empty_out m n s = out m s

pub same_closing : (m : ℕ) (k : Conn) (s : State) → close_conn false (without_ask m (doomed k)) (end_exchange m (on_conn k.number doomed s)) ≡ close_conn false k (end_exchange m s)
unfolding close_conn
same_closing m k s =
    ap (λ (t : State). each_exchange (lose_place false) (filter (λ n. not (n == m)) k.line) t) (emptied_same m k.number s)
    ∙ passed_over m k.line (on_conn k.number emptied (end_exchange m s)) (empty_out m k.number s)

-- ---- it is closing, with its line

doomed_conn : (s : State) (n : ℕ) (k : Conn) → conn s n ≡ Some k → conn (on_conn n doomed s) n ≡ Some (doomed k)
unfolding on_conn
doomed_conn s n k there =
    find_mapped (is_conn n) (doomed_if n) s.conns (λ j. by (is_conn n j) j)
    ∙ ap (λ (o : Option Conn). option_map (doomed_if n) o) there
    ∙ ap (λ (b : Bool). let o : Option Conn = Some (elim b as (λ t. Conn) [ true ↦ doomed k | false ↦ k ]) in o) (find_passes (is_conn n) s.conns k there)
  where
    by : (b : Bool) (j : Conn) → is_conn n (elim b as (λ t. Conn) [ true ↦ doomed j | false ↦ j ]) ≡ is_conn n j
    by true j = refl
    by false j = refl

ended_conn_is : (m n : ℕ) (s : State) (k : Conn) → conn s n ≡ Some k → conn (end_exchange m s) n ≡ Some (without_ask m k)
unfolding end_exchange
ended_conn_is m n s k there = find_mapped (is_conn n) (without_ask m) s.conns (λ j. refl) ∙ ap (λ (o : Option Conn). option_map (without_ask m) o) there

doomed_apart : (n : ℕ) (s : State) → AreApart s → AreApart (on_conn n doomed s)
unfolding on_conn
doomed_apart n s apart i = subst (λ (c : ℕ). c ≤ 1) (sym (count_mapped_same (is_conn i) (doomed_if n) s.conns (λ j. by (is_conn n j) j))) (apart i)
  where
    by : (b : Bool) (j : Conn) → is_conn i (elim b as (λ t. Conn) [ true ↦ doomed j | false ↦ j ]) ≡ is_conn i j
    by true j = refl
    by false j = refl

doomed_go : (m n : ℕ) (s : State) → AllGo (end_exchange m s) → AllGo (end_exchange m (on_conn n doomed s))
unfolding end_exchange on_conn
doomed_go m n s go = record { going = go.going; coming = go.coming }

-- the one that is over stands in its line alone
doomed_alone : (m n : ℕ) (ks : List Conn) → OnlyOn m n ks → StandsNowhere m (map (doomed_if n) ks)
doomed_alone m n [] only = tt
doomed_alone m n (k ∷ ks) only = (by (is_conn n k) refl, doomed_alone m n ks only.1)
  where
    by : (b : Bool) → is_conn n k ≡ b → (elim b as (λ t. Conn) [ true ↦ doomed k | false ↦ k ]).is_closing ≡ false → has_number m (elim b as (λ t. Conn) [ true ↦ doomed k | false ↦ k ]).line ≡ false
    by true is goes = absurd cc
    by false is goes = only.0 is

all_conns : (n : ℕ) (s : State) → (on_conn n doomed s).conns ≡ map (doomed_if n) s.conns
unfolding on_conn
all_conns n s = refl

shown_doomed : (s t : State) (peer : Peer) (k : Conn) → ShowsConn s peer k → ShowsConn t (record peer { is_closing = true }) (doomed k)
shown_doomed s t peer k shows = record {
  number = shows.number;
  host = shows.host;
  port = shows.port;
  is_reached = shows.is_reached;
  has_brought = shows.has_brought;
  may_pipeline = λ goes. absurd cc;
  is_closing = refl;
  stays = λ goes. absurd cc;
  mark = shows.mark;
  has_waited = shows.has_waited;
  pipe = λ goes. absurd cc;
}

abbrev with_closing : ℕ → Peer → List Peer → List Peer
with_closing n peer ps = with_peer n (record peer { is_closing = true }) ps

placed_there : (number : ℕ → ℕ) (name : Bytes) (x : Sides) (s : State) → Steps number name x s → (m n : ℕ) (k : Conn) → conn s n ≡ Some k → has_number m k.line ≡ true → IsPlaced n m s
placed_there number name x s steps m n k there has = in_line number none_leaves x.parts.flow s steps.shows.exchanges n m (ap (λ (o : Option Conn). has_number m (line_in o)) there ∙ has)

over_there : (number : ℕ → ℕ) (name : Bytes) (x : Sides) (s : State) → Steps number name x s → AreApart s → (m n : ℕ) (k : Conn) (peer : Peer) → conn s n ≡ Some k → has_number m k.line ≡ true → find (is_number n) x.peers ≡ Some peer
    → ShowsSteps number name (but m none_leaves) (with_closing n peer x.peers) (ended m x.parts) (end_exchange m (on_conn n doomed s))
over_there number name x s steps apart m n k peer there has here = record {
  shows =
      ends number name [] none_leaves (whole x.parts (with_closing n peer x.peers)) (on_conn n doomed s)
      (kept_line number name [] none_leaves (whole x.parts x.peers) s steps.shows n (record peer { is_closing = true }) doomed (apart n) (λ j. (refl, refl))
      (λ p j one other shown. subst (λ (q : Peer). ShowsConn (on_conn n doomed s) (record q { is_closing = true }) (doomed j)) (same_some peer p (find (is_number n) x.peers) here one) (shown_doomed s (on_conn n doomed s) p j shown)))
      m
      (subst (λ (ks : List Conn). StandsNowhere m ks) (sym (all_conns n s)) (doomed_alone m n s.conns (only_on number x.parts.flow s steps.shows.exchanges m n (placed_there number name x s steps m n k there has) s.conns (all_found s apart))));
  order = steps.order;
  told =
      told_next number x.parts.cache s.next_instance (end_exchange m (on_conn n doomed s)).next_instance (ended m x.parts).flow (over_next m (on_conn n doomed s) ∙ conn_next n doomed s)
      (told_over number x.parts.cache s.next_instance m x.parts.flow steps.told);
  refused = steps.refused;
}

-- ---- in all

abbrev dropped_by : ℕ → ℕ → Sides → Option Peer → Sides
dropped_by m n x o = record { parts = closed_line n false o (ended m x.parts); peers = closing n o x.peers }

abbrev dropped_if : ℕ → ℕ → Sides → Peer → Bool → Sides
dropped_if m n x peer b = record { parts = cond b (ended m x.parts) (lost_line 1024 n false (ended m x.parts)); peers = cond b x.peers (with_closing n peer x.peers) }

short_of : (a b c : ℕ) → a ≤ b → b ≤ c → a ≤ c
short_of a b c one two = omega (arith, one, two)

none_has : (m : ℕ) (ns : List ℕ) → ns ≡ [] → has_number m ns ≡ true → ⊥
none_has m ns none has = absurd (let bad : false ≡ true = sym (ap (λ (is : List ℕ). has_number m is) none) ∙ has in cc)

-- of the exchange that is over, whatever becomes of its client
module _ (number : ℕ → ℕ) (name : Bytes) (x : Sides) (s : State) (steps : Steps number name x s) (apart : AreApart s) (orderly : AreOrderly s.conns) (m n : ℕ) (k : Conn) (there : conn s n ≡ Some k) (has : has_number m k.line ≡ true)
    (go : AllGo (end_exchange m s)) where
  at : k.number ≡ n
  at = same_number k.number n (find_passes (is_conn n) s.conns k there)

  order : IsOrderly k
  order = found (is_conn n) s.conns k there orderly

  law_same : close_conn false (without_ask m (doomed k)) (end_exchange m (on_conn n doomed s)) ≡ close_conn false k (end_exchange m s)
  law_same = ap (λ (i : ℕ). close_conn false (without_ask m (doomed k)) (end_exchange m (on_conn i doomed s))) (sym at) ∙ same_closing m k s

  closed_behind : (peer : Peer) → find (is_number n) x.peers ≡ Some peer → ShowsSteps number name none_leaves (with_closing n peer x.peers) (lost_line 1024 n false (ended m x.parts)) (close_conn false k (end_exchange m s))
  closed_behind peer here =
      let t : State = end_exchange m (on_conn n doomed s) in
      let num : is_number n peer ≡ true = find_passes (is_number n) x.peers peer here in
      let q : Peer = record peer { is_closing = true } in
      subst (λ (u : State). ShowsSteps number name none_leaves (with_closing n peer x.peers) (lost_line 1024 n false (ended m x.parts)) u) law_same
      (subst (λ (ps : List Peer). ShowsSteps number name none_leaves ps (lost_line 1024 n false (ended m x.parts)) (close_conn false (without_ask m (doomed k)) t)) (set_twice n q q x.peers num)
      (closes number name (but m none_leaves) (with_closing n peer x.peers) (ended m x.parts) t (over_there number name x s steps apart m n k peer there has here) n 1024 false q (without_ask m (doomed k)) (λ j. refl)
      (ended_apart m (on_conn n doomed s) (doomed_apart n s apart)) (doomed_go m n s go) (find_set n peer q x.peers num here)
      (ended_conn_is m n (on_conn n doomed s) (doomed k) (doomed_conn s n k there)) (short_of (length (filter (λ i. not (i == m)) k.line)) (length k.line) 1024 (shorter (λ i. not (i == m)) k.line) order.few)))

  by_peer : (peer : Peer) → find (is_number n) x.peers ≡ Some peer → peer.is_closing ≡ k.is_closing → (b : Bool) → peer.is_closing ≡ b → Steps number name (dropped_if m n x peer b) (close_conn false k (end_exchange m s))
  by_peer peer here same true is = absurd (none_has m k.line (order.closed (sym same ∙ is)) has)
  by_peer peer here same false is = closed_behind peer here

  pub drops_by : ShowsSides number name (dropped_with m n x) (close_conn false k (end_exchange m s))
  drops_by =
      let one : HasPeer s n x.peers k = linked s n x.peers s.conns k there steps.shows.conns in
      record {
        steps = subst (λ (o : Option Peer). Steps number name (dropped_by m n x o) (close_conn false k (end_exchange m s))) (sym one.there) (by_peer one.peer one.there one.shows.is_closing one.peer.is_closing refl);
        may = closed false k (end_exchange m s) (record { apart = ended_apart m s apart; orderly = ended_orderly m s orderly; go = go });
      }

pub drops : DropsAreTheLaws
drops number name x s shows m n k there has = drops_by number name x s shows.steps shows.may.apart shows.may.orderly m n k there has (ended_go m s shows.may.go)
