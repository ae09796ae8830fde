-- What becomes of the line of a connection that is closed.
use Rattle.std.proofs.Common.{◌≡◌, ◌≤◌, ◌+◌, refl, sym, subst, ap, ap₂, ◌∙◌, ℕ, zero, suc, Bool, true, false, not, ◌==◌, ◌&&◌, ◌||◌, cond, filter, length, List, [], ◌∷◌, ◌++◌, Some, None, Option, arith}
use Rattle.std.proofs.lemmas.Bool.Decides.{nat_tests}
use Rattle.std.specs.Prelude.{count_by, slice_get, option_map}
use Rattle.pp_cache_law.proofs.Numbers.{some_is}
use Rattle.pp_cache_law.proofs.PairLemmas.{count_first, joined_none, count_mapped_same}
use Rattle.pp_flow.specs.Changes.{entry_of, is_on, line_of}
use Rattle.pp_flow.specs.Entries.{is_number}
use Rattle.pp_flow.specs.declared.entry.Entry.{Entry}
use Rattle.pp_flow_law.proofs.Entries.{line_first, same_number}
use Rattle.pp_flow_law.proofs.Framed.{frames as flow_frames}
use Rattle.pp_flow_law.proofs.Standing.{IsShown, entry_placed, few_placed, is_shown, none_waits}
use Rattle.pp_flow_law.specs.Changes.{HasLeft, but}
use Rattle.pp_flow_law.specs.Frames.{emptied, still}
use Rattle.pp_flow_law.specs.Tables.{Leaving, line_at, line_in, none_leaves}
use Rattle.pp_law.specs.Connections.{close_conn, conn, each_exchange, exchange, is_conn, lose_place, on_conn}
use Rattle.pp_law.specs.Lists.{Bytes, has_number}
use Rattle.pp_law.specs.State.{State, Conn, Exchange}
use Rattle.pp_peers.specs.Peers.{with_peer}
use Rattle.pp_peers.specs.declared.peers.Peer.{Peer}
use Rattle.pp_states_law.proofs.Connected.{closings}
use Rattle.pp_states_law.proofs.Lines.{AllFound, IsOn, IsPlaced, all_found, found_on, in_line, place_is}
use Rattle.pp_states_law.specs.Decisions.{AreApart}
use Rattle.pp_states_law.specs.Exchanges.{StandsNowhere}
use Rattle.pp_states_law.proofs.Kept.{Kept, all_go, lost_kept}
use Rattle.pp_states_law.proofs.Lost.{places_lost}
use Rattle.pp_states_law.proofs.Told.{conn_next, told_next}
use Rattle.pp_states_law.specs.Charges.{IsThere}
use Rattle.pp_state.specs.Ends.{Parts, lost_place}
use Rattle.pp_state.specs.Lines.{first_on, lost_line}
use Rattle.pp_states_law.specs.Lines.{AllGo, LinesAreTheLaws}
use Rattle.pp_states_law.specs.Losses.{HasLost}
use Rattle.pp_states_law.specs.Steps.{ShowsSteps, whole}
use Rattle.pp_cache_law.proofs.Finds.{find_mapped, find_passes}

-- ---- those that still have to leave the line

pub record Remains (k : ℕ) (ns : List ℕ) (l : Leaving) (s : State) : Type 0 where
  pub here : l k ≡ ns
  pub elsewhere : (j : ℕ) → (j == k) ≡ false → l j ≡ []
  pub empty : line_at s k ≡ []

-- no more than one of a number stands in a line
few_on : (k n : ℕ) (es : List Entry) → count_by (λ m. m == n) (line_of k es) ≤ count_by (is_number n) es
few_on k n [] = omega arith
few_on k n (e ∷ es) = subst (λ (ns : List ℕ). count_by (λ m. m == n) ns ≤ count_by (is_number n) (e ∷ es)) (sym (line_first k e es)) (at (is_on k e) (few_on k n es))
  where
    at : (c : Bool) → count_by (λ m. m == n) (line_of k es) ≤ count_by (is_number n) es → count_by (λ m. m == n) (cond c (e.exchange.number ∷ line_of k es) (line_of k es)) ≤ count_by (is_number n) (e ∷ es)
    at true less = omega (arith, less, count_first (is_number n) e es, count_first (λ m. m == n) e.exchange.number (line_of k es))
    at false less = omega (arith, less, count_first (is_number n) e es)

none_counted : (n : ℕ) (ns : List ℕ) → count_by (λ m. m == n) ns ≡ 0 → has_number n ns ≡ false
none_counted n [] none = refl
none_counted n (m ∷ ns) none = by (m == n) refl (sym (count_first (λ i. i == n) m ns) ∙ none) (λ rest. none_counted n ns rest)
  where
    by : (b : Bool) → (m == n) ≡ b → cond b 1 0 + count_by (λ i. i == n) ns ≡ 0 → (count_by (λ i. i == n) ns ≡ 0 → has_number n ns ≡ false) → (m == n) || has_number n ns ≡ false
    by true is few rest = absurd (omega (arith, few))
    by false is few rest = ap₂ (λ (a b : Bool). a || b) is (rest (omega (arith, few)))

same_itself : (n : ℕ) → (n == n) ≡ true
same_itself n = grind (arith, nat_tests)

kept : (n : ℕ) (ns : List ℕ) → has_number n ns ≡ false → filter (λ m. not (m == n)) ns ≡ ns
kept n [] none = refl
kept n (m ∷ ns) none = by (m == n) none (λ f. kept n ns f)
  where
    by : (b : Bool) → b || has_number n ns ≡ false → (has_number n ns ≡ false → filter (λ i. not (i == n)) ns ≡ ns) → cond (not b) (m ∷ filter (λ i. not (i == n)) ns) (filter (λ i. not (i == n)) ns) ≡ m ∷ ns
    by true f rest = absurd cc
    by false f rest = ap (λ (os : List ℕ). m ∷ os) (rest f)

others_left : (n : ℕ) (ns : List ℕ) → has_number n ns ≡ false → filter (λ m. not (m == n)) (n ∷ ns) ≡ ns
others_left n ns none = ap (λ (b : Bool). cond (not b) (n ∷ filter (λ m. not (m == n)) ns) (filter (λ m. not (m == n)) ns)) (same_itself n) ∙ kept n ns none

-- ---- the first of them

pub record IsFirst (k n : ℕ) (ns : List ℕ) (p : Parts) (s : State) : Type 0 where
  pub entry : Entry
  pub known : Exchange
  pub there : IsThere n p s entry known
  pub lost : HasLost n p s entry
  pub line : line_of k p.flow.placed ≡ n ∷ ns
  pub once : has_number n ns ≡ false

nowhere_in : (s : State) (n : ℕ) → HasLeft n s → (ks : List Conn) → AllFound s ks → StandsNowhere n ks
nowhere_in s n left [] found = tt
nowhere_in s n left (k ∷ ks) found = ((λ goes. sym (ap (λ (o : Option Conn). has_number n (line_in o)) found.0) ∙ left k.number), nowhere_in s n left ks found.1)

first_is : (number : ℕ → ℕ) (name : Bytes) (l : Leaving) (peers : List Peer) (p : Parts) (s : State) → ShowsSteps number name l peers p s → (k n : ℕ) (ns : List ℕ) → Remains k (n ∷ ns) l s → AreApart s → IsFirst k n ns p s
first_is number name l peers p s shows k n ns remains apart =
    record {
      entry = on.entry;
      known = known.known;
      there = record { here = here; there = known.there };
      lost = record { placed = on.there; left = left; nowhere = nowhere_in s n left s.conns (all_found s apart) };
      line = line;
      once = no_other;
    }
  where
    line : line_of k p.flow.placed ≡ n ∷ ns
    line = shows.shows.exchanges.lines k ∙ ap₂ (λ (a b : List ℕ). a ++ b) remains.here remains.empty ∙ joined_none (n ∷ ns)

    on : IsOn k n p.flow.placed
    on = found_on k n p.flow.placed (few_placed number l p.flow s shows.shows.exchanges n) (ap (λ (os : List ℕ). has_number n os) line ∙ ap (λ (b : Bool). b || has_number n ns) (same_itself n))

    here : entry_of n p.flow ≡ Some on.entry
    here = entry_placed n p.flow on.entry (none_waits number l p.flow s shows.shows.exchanges n on.entry on.there) on.there

    known : IsShown number s n on.entry
    known = is_shown number l p.flow s shows.shows.exchanges n on.entry here

    -- it stands on that connection alone, whose line is empty
    left : HasLeft n s
    left j = by (has_number n (line_at s j)) refl
      where
        by : (b : Bool) → has_number n (line_at s j) ≡ b → b ≡ false
        by false is = refl
        by true is =
            let there : IsPlaced j n s = in_line number l p.flow s shows.shows.exchanges j n is in
            let same : there.known ≡ known.known = some_is there.known known.known (sym there.there ∙ known.there) in
            let at : j ≡ k = some_is j k (sym there.place ∙ ap (λ (e : Exchange). e.place) same ∙ sym known.shows.place ∙ place_is k on.entry.exchange.place on.on) in
            sym is ∙ ap (λ (i : ℕ). has_number n (line_at s i)) at ∙ ap (λ (os : List ℕ). has_number n os) remains.empty

    no_other : has_number n ns ≡ false
    no_other =
        none_counted n ns
        (omega (
          arith,
          few_on k n p.flow.placed,
          few_placed number l p.flow s shows.shows.exchanges n,
          ap (λ (os : List ℕ). count_by (λ m. m == n) os) line,
          count_first (λ m. m == n) n ns,
          ap {B = ℕ} (λ (b : Bool). cond b 1 0) (same_itself n),
        ))

-- ---- one behind the other

goes_out : (k n : ℕ) (ns : List ℕ) (l : Leaving) (s t : State) → Remains k (n ∷ ns) l s → has_number n ns ≡ false → (line_at s k ≡ [] → line_at t k ≡ []) → Remains k ns (but n l) t
goes_out k n ns l s t remains once empty = record {
  here = ap (λ (os : List ℕ). filter (λ m. not (m == n)) os) remains.here ∙ others_left n ns once;
  elsewhere = λ j off. ap (λ (os : List ℕ). filter (λ m. not (m == n)) os) (remains.elsewhere j off);
  empty = empty remains.empty;
}

at_rest : (number : ℕ → ℕ) (name : Bytes) (l : Leaving) (peers : List Peer) (p : Parts) (s : State) → ShowsSteps number name l peers p s → (k : ℕ) → Remains k [] l s → ShowsSteps number name none_leaves peers p s
at_rest number name l peers p s shows k remains = record {
  shows = record {
    clients = shows.shows.clients;
    exchanges = flow_frames number l p.flow s shows.shows.exchanges none_leaves s (record { exchanges = refl; next = refl; lines = λ j. sym (ap (λ (os : List ℕ). os ++ line_at s j) (none j)) });
    table = shows.shows.table;
    conns = shows.shows.conns;
  };
  order = shows.order;
  told = shows.told;
  refused = shows.refused;
}
  where
    by : (j : ℕ) (b : Bool) → (j == k) ≡ b → l j ≡ []
    by j true is = ap (λ (i : ℕ). l i) (same_number j k is) ∙ remains.here
    by j false is = remains.elsewhere j is

    none : (j : ℕ) → l j ≡ []
    none j = by j (j == k) refl

no_first : (number : ℕ → ℕ) (name : Bytes) (l : Leaving) (peers : List Peer) (p : Parts) (s : State) → ShowsSteps number name l peers p s → (k : ℕ) → Remains k [] l s → first_on k p ≡ None
no_first number name l peers p s shows k remains = ap (λ (os : List ℕ). slice_get os 0) (shows.shows.exchanges.lines k ∙ ap₂ (λ (a b : List ℕ). a ++ b) remains.here remains.empty)

abbrev step_by : ℕ → ℕ → Bool → Parts → Option ℕ → Parts
step_by more k counts p o = elim o as (λ t. Parts) [ None ↦ p | Some n ↦ lost_line more k counts (lost_place n counts p) ]

lines : (number : ℕ → ℕ) (name : Bytes) (peers : List Peer) (k : ℕ) (counts : Bool) (ns : List ℕ) (most : ℕ) → length ns ≤ most → (l : Leaving) (p : Parts) (s : State) → ShowsSteps number name l peers p s → Remains k ns l s → AreApart s → AllGo s
    → ShowsSteps number name none_leaves peers (lost_line most k counts p) (each_exchange (lose_place counts) ns s)
unfolding each_exchange
lines number name peers k counts [] zero short l p s shows remains apart go = at_rest number name l peers p s shows k remains
lines number name peers k counts [] (suc more) short l p s shows remains apart go =
    subst (λ (o : Option ℕ). ShowsSteps number name none_leaves peers (step_by more k counts p o) s) (sym (no_first number name l peers p s shows k remains)) (at_rest number name l peers p s shows k remains)
lines number name peers k counts (n ∷ ns) zero short l p s shows remains apart go = absurd (omega (arith, short))
lines number name peers k counts (n ∷ ns) (suc more) short l p s shows remains apart go =
    let first : IsFirst k n ns p s = first_is number name l peers p s shows k n ns remains apart in
    let kept_all : Kept k s (lose_place counts first.known s) = lost_kept k counts first.known s in
    subst (λ (o : Option ℕ). ShowsSteps number name none_leaves peers (step_by more k counts p o) (each_exchange (lose_place counts) ns (elim (exchange s n) as (λ t. State) [ None ↦ s | Some e ↦ lose_place counts e s ])))
    (sym (ap (λ (os : List ℕ). slice_get os 0) first.line))
    (subst (λ (o : Option Exchange). ShowsSteps number name none_leaves peers (lost_line more k counts (lost_place n counts p)) (each_exchange (lose_place counts) ns (elim o as (λ t. State) [ None ↦ s | Some e ↦ lose_place counts e s ]))) (sym first.there.there)
    (lines number name peers k counts ns more (omega (arith, short)) (but n l) (lost_place n counts p) (lose_place counts first.known s)
    (places_lost number name l peers p s shows n first.entry first.known counts first.there first.lost (go.going n first.known first.there.there) (go.coming n first.known first.there.there))
    (goes_out k n ns l s (lose_place counts first.known s) remains first.once kept_all.empty) (kept_all.apart apart) (all_go k s (lose_place counts first.known s) kept_all go)))

-- ---- from its cause on

abbrev emptied_if : ℕ → Conn → Conn
emptied_if n j = elim (is_conn n j) as (λ t. Conn) [ true ↦ emptied j | false ↦ j ]

closed_apart : (n : ℕ) (s : State) → AreApart s → AreApart (on_conn n emptied s)
unfolding on_conn
closed_apart n s apart m = subst (λ (i : ℕ). i ≤ 1) (sym (count_mapped_same (is_conn m) (emptied_if n) s.conns (λ j. number m j (is_conn n j)))) (apart m)
  where
    number : (m : ℕ) (j : Conn) (b : Bool) → is_conn m (elim b as (λ t. Conn) [ true ↦ emptied j | false ↦ j ]) ≡ is_conn m j
    number m j true = refl
    number m j false = refl

closed_go : (n : ℕ) (s : State) → AllGo s → AllGo (on_conn n emptied s)
unfolding on_conn
closed_go n s go = record { going = go.going; coming = go.coming }

closed_line : (n : ℕ) (s : State) (k : Conn) → conn s n ≡ Some k → line_at (on_conn n emptied s) n ≡ []
unfolding on_conn
closed_line n s k there =
    ap (λ (o : Option Conn). line_in o) (find_mapped (is_conn n) (emptied_if n) s.conns (λ j. number j (is_conn n j)))
    ∙ ap (λ (o : Option Conn). line_in (option_map (emptied_if n) o)) there
    ∙ ap (λ (b : Bool). line_in (Some (elim b as (λ t. Conn) [ true ↦ emptied k | false ↦ k ]))) (find_passes (is_conn n) s.conns k there)
  where
    number : (j : Conn) (b : Bool) → is_conn n (elim b as (λ t. Conn) [ true ↦ emptied j | false ↦ j ]) ≡ is_conn n j
    number j true = refl
    number j false = refl

pub closes : LinesAreTheLaws
unfolding close_conn
closes number name l peers p s shows n most counts peer k none apart go found there short =
    subst (λ (m : ℕ). ShowsSteps number name none_leaves (with_peer n (record peer { is_closing = true }) peers) (lost_line most n (counts && not k.has_brought) p) (each_exchange (lose_place (counts && not k.has_brought)) k.line (on_conn m emptied s))) (sym at)
    (lines number name (with_peer n (record peer { is_closing = true }) peers) n (counts && not k.has_brought) k.line most short (still n k.line l) p (on_conn n emptied s)
    (record {
      shows = closings number name [] l (whole p peers) s shows.shows n peer k (apart n) found there;
      order = shows.order;
      told = told_next number p.cache s.next_instance (on_conn n emptied s).next_instance p.flow (conn_next n emptied s) shows.told;
      refused = shows.refused;
    })
    (record { here = here; elsewhere = elsewhere; empty = closed_line n s k there }) (closed_apart n s apart) (closed_go n s go))
  where
    at : k.number ≡ n
    at = same_number k.number n (find_passes (is_conn n) s.conns k there)

    here : still n k.line l n ≡ k.line
    here = ap (λ (b : Bool). cond b (l n ++ k.line) (l n)) (same_itself n) ∙ ap (λ (os : List ℕ). os ++ k.line) (none n)

    elsewhere : (j : ℕ) → (j == n) ≡ false → still n k.line l j ≡ []
    elsewhere j off = ap (λ (b : Bool). cond b (l j ++ k.line) (l j)) off ∙ none j
