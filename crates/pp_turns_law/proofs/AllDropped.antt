-- Connections that are closing are dropped, one behind the other.
use Rattle.std.proofs.Common.{◌≡◌, ◌≤◌, ◌+◌, refl, sym, subst, ap, ap₂, ◌∙◌, ℕ, Bool, true, false, not, ◌==◌, ◌&&◌, ◌||◌, cond, filter, find, map, List, [], ◌∷◌, ◌++◌, Some, None, Option, arith}
use Rattle.std.specs.List.{cons_option, fold, list_any}
use Rattle.std.specs.Prelude.{count_by, ⊤}
use Rattle.pp_cache_law.proofs.Finds.{find_kept}
use Rattle.pp_cache_law.proofs.Numbers.{some_is}
use Rattle.pp_cache_law.proofs.PairLemmas.{count_first}
use Rattle.pp_flow_law.proofs.Entries.{none_some, same_number}
use Rattle.pp_flow_law.specs.Tables.{line_in, none_leaves}
use Rattle.pp_law.specs.After.{after, changed, dropped, out}
use Rattle.pp_law.specs.Connections.{conn, is_conn, placing}
use Rattle.pp_law.specs.Lists.{Bytes, has_number, without}
use Rattle.pp_law.specs.Opening.{is_at, is_same_phase}
use Rattle.pp_law.specs.Permits.{IsPermitted, is_permitted, may_drop, gives_way, permits, permits_behind_forgotten}
use Rattle.pp_law.specs.Phases.{come, come_to, is_done, may_in, next, phases}
use Rattle.pp_law.specs.State.{State, Conn, Phase, Connecting}
use Rattle.pp_links.specs.Links.{Link, is_link, is_other, without as without_link}
use Rattle.pp_peers.specs.Peers.{goes_on, without as without_peer}
use Rattle.pp_peers.specs.declared.peers.Peer.{Peer}
use Rattle.pp_peers_law.proofs.Finds.{no_or, other_way}
use Rattle.pp_peers_law.specs.Asked.{AreDistinct}
use Rattle.pp_peers_law.specs.Peers.{ShowConns}
use Rattle.pp_desk.specs.Closings.{Sides}
use Rattle.pp_desk.specs.Shutting.{closed_as, closings, over_peers}
use Rattle.pp_states_law.proofs.Alone.{none_counted}
use Rattle.pp_states_law.proofs.Dialled.{empty_drops}
use Rattle.pp_states_law.proofs.Lines.{AllFound, all_found, same_itself}
use Rattle.pp_states_law.specs.Decisions.{AreApart}
use Rattle.pp_states_law.proofs.Told.{told_next}
use Rattle.pp_states_law.specs.Lines.{AllGo}
use Rattle.pp_states_law.specs.Steps.{whole}
use Rattle.pp_world.specs.Log.{Log}
use Rattle.pp_world.specs.declared.happening.Happening.TheVariants.{Dropped}
use Rattle.pp_turns_law.proofs.Orderly.{found}
use Rattle.pp_turns_law.specs.Log.{AreLinked, ClosingOnesAreDroppedAsTheLaws, IsConnecting, MayCome}
use Rattle.pp_turns_law.specs.Sides.{AreOrderly, IsOrderly, ShowsSides}

-- ---- one may be dropped

come_here : (stops : State → Bool) (ps : List Phase) (s : State) → stops s ≡ true → come stops ps s ≡ s
unfolding come
come_here stops [] s here = refl
come_here stops (p ∷ ps) s here = ap (λ (t : State). come stops ps t) (by (is_at p s)) ∙ come_here stops ps s here
  where
    by : (b : Bool) → (elim b as (λ t. State) [ true ↦ elim (stops s) as (λ t. State) [ true ↦ s | false ↦ elim (is_done s) as (λ t. State) [ true ↦ next s | false ↦ s ] ] | false ↦ s ]) ≡ s
    by true = ap (λ (c : Bool). elim c as (λ t. State) [ true ↦ s | false ↦ elim (is_done s) as (λ t. State) [ true ↦ next s | false ↦ s ] ]) here
    by false = refl

pub at_it : (s : State) → IsConnecting s → is_at Connecting s ≡ true
at_it s is = ap (λ (p : Phase). is_same_phase Connecting p) is.at

pub stays : (s : State) → IsConnecting s → come_to Connecting s ≡ s
unfolding come_to
stays s is = come_here (is_at Connecting) phases s (at_it s is)

any_over : (b : Bool) (n : ℕ) (ks : List Conn) (k : Conn) → find (is_conn n) ks ≡ Some k → k.is_closing ≡ true → list_any (λ j. is_conn n j && (j.is_closing || b)) ks ≡ true
any_over b n [] k there closing = absurd (none_some k there)
any_over b n (j ∷ ks) k there closing = by (is_conn n j) there (λ rest. any_over b n ks k rest closing)
  where
    one : (c d : Bool) → c ≡ true → (c || d) ≡ true
    one c d is = ap (λ (e : Bool). e || d) is

    later : (c : Bool) → list_any (λ i. is_conn n i && (i.is_closing || b)) ks ≡ true → (c || list_any (λ i. is_conn n i && (i.is_closing || b)) ks) ≡ true
    later true rest = refl
    later false rest = rest

    by : (c : Bool) → cond c (Some j) (find (is_conn n) ks) ≡ Some k → (find (is_conn n) ks ≡ Some k → list_any (λ i. is_conn n i && (i.is_closing || b)) ks ≡ true)
        → ((c && (j.is_closing || b)) || list_any (λ i. is_conn n i && (i.is_closing || b)) ks) ≡ true
    by true is rest = one (j.is_closing || b) (list_any (λ i. is_conn n i && (i.is_closing || b)) ks) (one j.is_closing b (ap (λ (i : Conn). i.is_closing) (some_is j k is) ∙ closing))
    by false is rest = rest is

permitted : (s : State) (n : ℕ) (k : Conn) → IsConnecting s → conn s n ≡ Some k → k.is_closing ≡ true → IsPermitted s (Dropped n)
unfolding is_permitted permits
permitted s n k is there closing =
    ap (λ (o : Option ℕ). elim o as (λ t. Bool) [ Some who ↦ permits_behind_forgotten s (Dropped n) | None ↦ may_in Connecting (λ t. may_drop t n) s ]) is.none
    ∙ ap (λ (t : State). elim (is_at Connecting t) as (λ u. Bool) [ true ↦ may_drop t n | false ↦ false ]) (stays s is)
    ∙ ap (λ (b : Bool). elim b as (λ u. Bool) [ true ↦ may_drop s n | false ↦ false ]) (at_it s is)
    ∙ ap (λ (b : Bool). b || gives_way s n) (any_over s.is_stopped n s.conns k there closing)

goes_out : (s : State) (n : ℕ) (k : Conn) → IsConnecting s → conn s n ≡ Some k → k.is_closing ≡ true → after s (Dropped n) ≡ out n s
unfolding changed dropped
goes_out s n k is there closing =
    ap (λ (t : State). dropped n t) (stays s is)
    ∙ ap (λ (o : Option Conn). elim o as (λ t. State) [ None ↦ s | Some j ↦ elim j.is_closing as (λ t. State) [ true ↦ out n s | false ↦ out n (placing s).state ] ]) there
    ∙ ap (λ (b : Bool). elim b as (λ t. State) [ true ↦ out n s | false ↦ out n (placing s).state ]) closing

-- ---- what is behind it

out_conns : (n : ℕ) (s : State) → (out n s).conns ≡ without (is_conn n) s.conns
unfolding out
out_conns n s = refl

out_next : (n : ℕ) (s : State) → (out n s).next_instance ≡ s.next_instance
unfolding out
out_next n s = refl

out_connecting : (n : ℕ) (s : State) → IsConnecting s → IsConnecting (out n s)
unfolding out
out_connecting n s is = record { at = is.at; none = is.none }

out_go : (n : ℕ) (s : State) → AllGo s → AllGo (out n s)
unfolding out
out_go n s go = record { going = go.going; coming = go.coming }

few_within : (q p : Conn → Bool) (ks : List Conn) → count_by q (filter p ks) ≤ count_by q ks
few_within q p [] = omega arith
few_within q p (k ∷ ks) = by (p k) (few_within q p ks)
  where
    by : (b : Bool) → count_by q (filter p ks) ≤ count_by q ks → count_by q (cond b (k ∷ filter p ks) (filter p ks)) ≤ count_by q (k ∷ ks)
    by true less = omega (arith, less, count_first q k (filter p ks), count_first q k ks)
    by false less = omega (arith, less, count_first q k ks)

less_than : (a b : ℕ) → a ≤ b → b ≤ 1 → a ≤ 1
less_than a b one two = omega (arith, one, two)

out_apart : (n : ℕ) (s : State) → AreApart s → AreApart (out n s)
out_apart n s apart m =
    subst (λ (ks : List Conn). count_by (is_conn m) ks ≤ 1) (sym (out_conns n s))
    (less_than (count_by (is_conn m) (without (is_conn n) s.conns)) (count_by (is_conn m) s.conns) (few_within (is_conn m) (λ k. not (is_conn n k)) s.conns) (apart m))

kept_orderly : (p : Conn → Bool) (ks : List Conn) → AreOrderly ks → AreOrderly (filter p ks)
kept_orderly p [] all = tt
kept_orderly p (k ∷ ks) all = by (p k) (kept_orderly p ks all.1)
  where
    by : (b : Bool) → AreOrderly (filter p ks) → AreOrderly (cond b (k ∷ filter p ks) (filter p ks))
    by true rest = (all.0, rest)
    by false rest = rest

other_conn : (n m : ℕ) (s : State) → (m == n) ≡ false → conn (out n s) m ≡ conn s m
other_conn n m s off = ap (λ (ks : List Conn). find (is_conn m) ks) (out_conns n s) ∙ find_kept (is_conn m) (λ k. not (is_conn n k)) s.conns (λ k is. ap not (isnt k is))
  where
    isnt : (k : Conn) → is_conn m k ≡ true → is_conn n k ≡ false
    isnt k is = ap (λ (i : ℕ). i == n) (same_number k.number m is) ∙ off

one_out : (number : ℕ → ℕ) (name : Bytes) (x : Sides) (s : State) → ShowsSides number name x s → (n : ℕ) (k : Conn) → conn s n ≡ Some k → k.is_closing ≡ true → ShowsSides number name (record x { peers = without_peer n x.peers }) (out n s)
one_out number name x s shows n k there closing =
    let order : IsOrderly k = found (is_conn n) s.conns k there shows.may.orderly in
    record {
      steps = record {
        shows = empty_drops number name [] none_leaves (whole x.parts x.peers) s shows.steps.shows n (shows.may.apart n) (ap (λ (o : Option Conn). line_in o) there ∙ order.closed closing);
        order = shows.steps.order;
        told = told_next number x.parts.cache s.next_instance (out n s).next_instance x.parts.flow (out_next n s) shows.steps.told;
        refused = shows.steps.refused;
      };
      may = record {
        apart = out_apart n s shows.may.apart;
        orderly = subst (λ (ks : List Conn). AreOrderly ks) (sym (out_conns n s)) (kept_orderly (λ j. not (is_conn n j)) s.conns shows.may.orderly);
        go = out_go n s shows.may.go;
      };
    }

-- ---- one behind the other

abbrev dropped_in : List ℕ → Log
dropped_in ns = map (λ n. Dropped n) ns

abbrev AllClosing : State → List ℕ → Type 0
AllClosing s [] = ⊤
AllClosing s (n ∷ ns) = ((k : Conn) × (conn s n ≡ Some k) × (k.is_closing ≡ true)) × AllClosing s ns

still_closing : (n : ℕ) (s : State) (ns : List ℕ) → has_number n ns ≡ false → AllClosing s ns → AllClosing (out n s) ns
still_closing n s [] none all = tt
still_closing n s (m ∷ ns) none all =
    let these : ((m == n) ≡ false) × (has_number n ns ≡ false) = no_or (m == n) (has_number n ns) none in
    ((all.0.0, other_conn n m s these.0 ∙ all.0.1, all.0.2), still_closing n s ns these.1 all.1)

abbrev without_all_of : Sides → List ℕ → Sides
without_all_of x ns = record x { peers = fold (λ ps n. without_peer n ps) x.peers ns }

each_out : (number : ℕ → ℕ) (name : Bytes) (ns : List ℕ) (x : Sides) (s : State) → ShowsSides number name x s → IsConnecting s → AreDistinct ns → AllClosing s ns
    → MayCome (dropped_in ns) s × ShowsSides number name (without_all_of x ns) (fold after s (dropped_in ns))
each_out number name [] x s shows is once all = (tt, shows)
each_out number name (n ∷ ns) x s shows is once all =
    let k : Conn = all.0.0 in
    let same : after s (Dropped n) ≡ out n s = goes_out s n k is all.0.1 all.0.2 in
    let rest : MayCome (dropped_in ns) (out n s) × ShowsSides number name (without_all_of (record x { peers = without_peer n x.peers }) ns) (fold after (out n s) (dropped_in ns)) =
    each_out number name ns (record x { peers = without_peer n x.peers }) (out n s) (one_out number name x s shows n k all.0.1 all.0.2) (out_connecting n s is) once.1 (still_closing n s ns once.0 all.1) in (
      (permitted s n k is all.0.1 all.0.2, subst (λ (t : State). MayCome (dropped_in ns) t) (sym same) rest.0),
      subst (λ (t : State). ShowsSides number name (without_all_of (record x { peers = without_peer n x.peers }) ns) (fold after t (dropped_in ns))) (sym same) rest.1,
    )

-- ---- those that are closing

-- none of them is one that none of all is
none_over : (n : ℕ) (ps : List Peer) → has_number n (map (λ (p : Peer). p.number) ps) ≡ false → has_number n (over_peers false ps) ≡ false
none_over n [] none = refl
none_over n (p ∷ ps) none = by p.is_closing (none_over n ps these.1)
  where
    these : ((p.number == n) ≡ false) × (has_number n (map (λ (q : Peer). q.number) ps) ≡ false)
    these = no_or (p.number == n) (has_number n (map (λ (q : Peer). q.number) ps)) none

    by : (b : Bool) → has_number n (over_peers false ps) ≡ false → has_number n (cons_option (cond b (Some p.number) None) (over_peers false ps)) ≡ false
    by true rest = ap₂ (λ (a b : Bool). a || b) these.0 rest
    by false rest = rest

distinct_over : (ps : List Peer) → AreDistinct (map (λ (p : Peer). p.number) ps) → AreDistinct (over_peers false ps)
distinct_over [] once = tt
distinct_over (p ∷ ps) once = by p.is_closing (distinct_over ps once.1)
  where
    by : (b : Bool) → AreDistinct (over_peers false ps) → AreDistinct (cons_option (cond b (Some p.number) None) (over_peers false ps))
    by true rest = (none_over p.number ps once.0, rest)
    by false rest = rest

passes : (p : Peer) (ps : List Peer) (ns : List ℕ) → has_number p.number ns ≡ false → fold (λ qs n. without_peer n qs) (p ∷ ps) ns ≡ p ∷ fold (λ qs n. without_peer n qs) ps ns
passes p ps [] none = refl
passes p ps (n ∷ ns) none =
    let these : ((n == p.number) ≡ false) × (has_number p.number ns ≡ false) = no_or (n == p.number) (has_number p.number ns) none in
    ap (λ (b : Bool). fold (λ qs m. without_peer m qs) (cond b ps (p ∷ without_peer n ps)) ns) (other_way n p.number these.0) ∙ passes p (without_peer n ps) ns these.1

all_gone : (ps : List Peer) → AreDistinct (map (λ (p : Peer). p.number) ps) → fold (λ qs n. without_peer n qs) ps (over_peers false ps) ≡ filter (goes_on false) ps
all_gone [] once = refl
all_gone (p ∷ ps) once = by p.is_closing (all_gone ps once.1)
  where
    by : (b : Bool) → fold (λ qs n. without_peer n qs) ps (over_peers false ps) ≡ filter (goes_on false) ps
        → fold (λ qs n. without_peer n qs) (p ∷ ps) (cons_option (cond b (Some p.number) None) (over_peers false ps)) ≡ cond (not b) (p ∷ filter (goes_on false) ps) (filter (goes_on false) ps)
    by true rest = ap (λ (b : Bool). fold (λ qs n. without_peer n qs) (cond b ps (p ∷ without_peer p.number ps)) (over_peers false ps)) (same_itself p.number) ∙ rest
    by false rest = passes p ps (over_peers false ps) (none_over p.number ps once.0) ∙ ap (λ (qs : List Peer). p ∷ qs) rest

-- as the law's, no two have one number
count_numbers : (n : ℕ) (s : State) (ps : List Peer) (ks : List Conn) → ShowConns s ps ks → count_by (λ m. m == n) (map (λ (p : Peer). p.number) ps) ≡ count_by (is_conn n) ks
count_numbers n s [] [] shows = refl
count_numbers n s [] (k ∷ ks) shows = absurd shows
count_numbers n s (p ∷ ps) [] shows = absurd shows
count_numbers n s (p ∷ ps) (k ∷ ks) shows =
    count_first (λ m. m == n) p.number (map (λ (q : Peer). q.number) ps)
    ∙ ap₂ (λ (b : Bool) (i : ℕ). cond b 1 0 + i) (ap (λ (m : ℕ). m == n) shows.0.number) (count_numbers n s ps ks shows.1)
    ∙ sym (count_first (is_conn n) k ks)

distinct : (ns : List ℕ) → ((n : ℕ) → count_by (λ m. m == n) ns ≤ 1) → AreDistinct ns
distinct [] few = tt
distinct (n ∷ ns) few = (none_counted n ns here, distinct ns (λ m. later m (few m)))
  where
    one : cond (n == n) 1 0 + 0 ≡ 1 + 0
    one = ap (λ (b : Bool). cond b 1 0 + 0) (same_itself n)

    here : count_by (λ m. m == n) ns ≡ 0
    here = omega (arith, one, few n, count_first (λ m. m == n) n ns)

    later : (m : ℕ) → count_by (λ i. i == m) (n ∷ ns) ≤ 1 → count_by (λ i. i == m) ns ≤ 1
    later m less = omega (arith, less, count_first (λ i. i == m) n ns)

closing_ones : (s : State) (ps : List Peer) (ks : List Conn) → ShowConns s ps ks → AllFound s ks → AllClosing s (over_peers false ps)
closing_ones s [] [] shows all = tt
closing_ones s [] (k ∷ ks) shows all = absurd shows
closing_ones s (p ∷ ps) [] shows all = absurd shows
closing_ones s (p ∷ ps) (k ∷ ks) shows all = by p.is_closing refl (closing_ones s ps ks shows.1 all.1)
  where
    by : (b : Bool) → p.is_closing ≡ b → AllClosing s (over_peers false ps) → AllClosing s (cons_option (cond b (Some p.number) None) (over_peers false ps))
    by true is rest = ((k, ap (λ (i : ℕ). conn s i) shows.0.number ∙ all.0, sym shows.0.is_closing ∙ is), rest)
    by false is rest = rest

-- ---- in the log

still_linked : (n : ℕ) (links : List Link) (ns : List ℕ) → has_number n ns ≡ false → AreLinked ns links → AreLinked ns (without_link n links)
still_linked n links [] none all = tt
still_linked n links (m ∷ ns) none all =
    let these : ((m == n) ≡ false) × (has_number n ns ≡ false) = no_or (m == n) (has_number n ns) none in
    (find_kept (is_link m) (is_other n) links (λ link is. ap not (ap (λ (i : ℕ). i == n) (same_number link.0 m is) ∙ these.0)) ∙ all.0, still_linked n links ns these.1 all.1)

in_log : (ns : List ℕ) (links : List Link) → AreDistinct ns → AreLinked ns links → closings ns links ≡ dropped_in ns
in_log [] links once all = refl
in_log (n ∷ ns) links once all =
    ap (λ (o : Option Link). closed_as o ++ closings ns (without_link n links)) all.0
    ∙ ap (λ (hs : Log). Dropped n ∷ hs) (in_log ns (without_link n links) once.1 (still_linked n links ns once.0 all.1))

pub closing_drop : ClosingOnesAreDroppedAsTheLaws
closing_drop number name x s shows links is linked =
    let over : List ℕ = over_peers false x.peers in
    let once : AreDistinct (map (λ (p : Peer). p.number) x.peers) = distinct (map (λ (p : Peer). p.number) x.peers) (λ n. subst (λ (i : ℕ). i ≤ 1) (sym (count_numbers n s x.peers s.conns shows.steps.shows.conns)) (shows.may.apart n)) in
    let all : MayCome (dropped_in over) s × ShowsSides number name (without_all_of x over) (fold after s (dropped_in over)) =
    each_out number name over x s shows is (distinct_over x.peers once) (closing_ones s x.peers s.conns shows.steps.shows.conns (all_found s shows.may.apart)) in
    let same : closings over links ≡ dropped_in over = in_log over links (distinct_over x.peers once) linked in
    record {
      permitted = subst (λ (hs : Log). MayCome hs s) (sym same) all.0;
      behind =
          subst (λ (hs : Log). ShowsSides number name (record x { peers = filter (goes_on false) x.peers }) (fold after s hs)) (sym same)
          (subst (λ (ps : List Peer). ShowsSides number name (record x { peers = ps }) (fold after s (dropped_in over))) (all_gone x.peers once) all.1);
    }
