-- The connections that are open, as one of them is closed, or one is dialled.
use Rattle.std.proofs.Common.{◌≡◌, ◌≤◌, ◌+◌, refl, sym, subst, ap, ap₂, ◌∙◌, ℕ, suc, Bool, true, false, not, ◌==◌, cond, find, length, List, [], ◌∷◌, ◌++◌, Option, Some, None, arith}
use Rattle.std.specs.List.{All}
use Rattle.std.specs.Prelude.{count_by}
use Rattle.std.proofs.lemmas.Bool.Decides.{nat_tests}
use Rattle.pp_cache_law.proofs.Finds.{find_kept}
use Rattle.pp_cache_law.proofs.PairLemmas.{count_first}
use Rattle.pp_turns_law.specs.Log.{AreLinked}
use Rattle.pp_desk.specs.Closings.{peer_numbers}
use Rattle.pp_desk.specs.Shutting.{closed_as, closings}
use Rattle.pp_flow_law.proofs.Entries.{none_some, same_number}
use Rattle.pp_law.specs.Connections.{is_conn}
use Rattle.pp_law.specs.State.{State, Conn}
use Rattle.pp_links.specs.Links.{Link, is_link, is_other, without as without_link}
use Rattle.pp_peers.specs.Peers.{is_number, with_pipe, without as without_peer}
use Rattle.pp_peers.specs.declared.peers.Peer.{Peer}
use Rattle.pp_peers_law.specs.Peers.{ShowConns}
use Rattle.pp_pipe.specs.Line.{Line}
use Rattle.pp_world.specs.declared.event.Side.TheVariants.{Origin}
use Rattle.pp_world.specs.declared.happening.Happening.TheVariants.{Dropped}

-- ---- one is open

pub link_of : (n : ℕ) (ps : List Peer) (links : List Link) (peer : Peer) → AreLinked (peer_numbers ps) links → find (is_number n) ps ≡ Some peer → find (is_link n) links ≡ Some (n, Origin)
link_of n [] links peer linked there = absurd (none_some peer there)
link_of n (p ∷ ps) links peer linked there = by (is_number n p) refl there (λ later. link_of n ps links peer linked.1 later)
  where
    by : (b : Bool) → is_number n p ≡ b → cond b (Some p) (find (is_number n) ps) ≡ Some peer → (find (is_number n) ps ≡ Some peer → find (is_link n) links ≡ Some (n, Origin)) → find (is_link n) links ≡ Some (n, Origin)
    by true is found rest = subst (λ (m : ℕ). find (is_link m) links ≡ Some (m, Origin)) (same_number p.number n is) linked.0
    by false is found rest = rest found

pub closing_is : (n : ℕ) (links : List Link) → find (is_link n) links ≡ Some (n, Origin) → closings (n ∷ []) links ≡ Dropped n ∷ []
closing_is n links there = ap (λ (o : Option Link). closed_as o ++ []) there

-- ---- one is closed

pub one_linked : (k n : ℕ) (links : List Link) → (n == k) ≡ false → find (is_link n) links ≡ Some (n, Origin) → find (is_link n) (without_link k links) ≡ Some (n, Origin)
one_linked k n links off there = find_kept (is_link n) (is_other k) links (λ link is. ap not (ap (λ (i : ℕ). i == k) (same_number link.0 n is) ∙ off)) ∙ there

none_linked : (k : ℕ) (ps : List Peer) (links : List Link) → count_by (is_number k) ps ≡ 0 → AreLinked (peer_numbers ps) links → AreLinked (peer_numbers ps) (without_link k links)
none_linked k [] links none linked = tt
none_linked k (p ∷ ps) links none linked = by (is_number k p) refl (sym (count_first (is_number k) p ps) ∙ none) (λ few. none_linked k ps links few linked.1)
  where
    by : (b : Bool) → is_number k p ≡ b → cond b 1 0 + count_by (is_number k) ps ≡ 0 → (count_by (is_number k) ps ≡ 0 → AreLinked (peer_numbers ps) (without_link k links)) → AreLinked (peer_numbers (p ∷ ps)) (without_link k links)
    by true is few rest = absurd (omega (arith, few))
    by false is few rest = (one_linked k p.number links is linked.0, rest (omega (arith, few)))

pub linked_without : (k : ℕ) (ps : List Peer) (links : List Link) → count_by (is_number k) ps ≤ 1 → AreLinked (peer_numbers ps) links → AreLinked (peer_numbers (without_peer k ps)) (without_link k links)
linked_without k [] links few linked = tt
linked_without k (p ∷ ps) links few linked = by (is_number k p) refl (let e : cond (is_number k p) 1 0 + count_by (is_number k) ps ≤ 1 = omega (arith, few, count_first (is_number k) p ps) in e) (λ less. linked_without k ps links less linked.1)
  where
    by : (b : Bool) → is_number k p ≡ b → cond b 1 0 + count_by (is_number k) ps ≤ 1 → (count_by (is_number k) ps ≤ 1 → AreLinked (peer_numbers (without_peer k ps)) (without_link k links)) → AreLinked (peer_numbers (cond b ps (p ∷ without_peer k ps))) (without_link k links)
    by true is less rest = none_linked k ps links (omega (arith, less)) linked.1
    by false is less rest = (one_linked k p.number links is linked.0, rest (omega (arith, less)))

pub fewer_peers : (k : ℕ) (ps : List Peer) (peer : Peer) → find (is_number k) ps ≡ Some peer → length (without_peer k ps) + 1 ≡ length ps
fewer_peers k [] peer there = absurd (none_some peer there)
fewer_peers k (p ∷ ps) peer there = by (is_number k p) there (λ later. fewer_peers k ps peer later)
  where
    by : (b : Bool) → cond b (Some p) (find (is_number k) ps) ≡ Some peer → (find (is_number k) ps ≡ Some peer → length (without_peer k ps) + 1 ≡ length ps) → length (cond b ps (p ∷ without_peer k ps)) + 1 ≡ length (p ∷ ps)
    by true found rest = omega arith
    by false found rest = omega (arith, rest found)

no_more_links : (k : ℕ) (links : List Link) → length (without_link k links) ≤ length links
no_more_links k [] = omega arith
no_more_links k (link ∷ links) = by (is_other k link) (no_more_links k links)
  where
    by : (b : Bool) → length (without_link k links) ≤ length links → length (cond b (link ∷ without_link k links) (without_link k links)) ≤ length (link ∷ links)
    by true less = omega (arith, less)
    by false less = omega (arith, less)

pub fewer_links : (k : ℕ) (links : List Link) (l : Link) → find (is_link k) links ≡ Some l → length (without_link k links) + 1 ≤ length links
fewer_links k [] l there = absurd (none_some l there)
fewer_links k (link ∷ links) l there = by (is_link k link) there (no_more_links k links) (λ later. fewer_links k links l later)
  where
    by : (b : Bool) → cond b (Some link) (find (is_link k) links) ≡ Some l → length (without_link k links) ≤ length links → (find (is_link k) links ≡ Some l → length (without_link k links) + 1 ≤ length links)
        → length (cond (not b) (link ∷ without_link k links) (without_link k links)) + 1 ≤ length (link ∷ links)
    by true found less rest = omega (arith, less)
    by false found less rest = omega (arith, rest found)

-- ---- one is dialled, whose number none of them has

none_there : (n : ℕ) (links : List Link) → All (λ link. link.0 + 1 ≤ n) links → find (is_link n) links ≡ None
none_there n [] above = refl
none_there n (link ∷ links) above =
    ap (λ (b : Bool). cond b (Some link) (find (is_link n) links)) (off link.0 (above 0 link (omega arith))) ∙ none_there n links (λ k d within. above (suc k) d (omega (arith, within)))
  where
    off : (m : ℕ) → m + 1 ≤ n → (m == n) ≡ false
    off m less = grind (arith, nat_tests)

found_front : (n : ℕ) (links : List Link) (l other : Link) → find (is_link n) links ≡ Some l → find (is_link n) (links ++ other ∷ []) ≡ Some l
found_front n [] l other there = absurd (none_some l there)
found_front n (link ∷ links) l other there = by (is_link n link) there (λ later. found_front n links l other later)
  where
    by : (b : Bool) → cond b (Some link) (find (is_link n) links) ≡ Some l → (find (is_link n) links ≡ Some l → find (is_link n) (links ++ other ∷ []) ≡ Some l) → cond b (Some link) (find (is_link n) (links ++ other ∷ [])) ≡ Some l
    by true found rest = found
    by false found rest = rest found

found_last : (n : ℕ) (links : List Link) → find (is_link n) links ≡ None → find (is_link n) (links ++ (n, Origin) ∷ []) ≡ Some (n, Origin)
found_last n [] none = ap (λ (b : Bool). cond b (Some (n, Origin)) None) (itself n)
  where
    itself : (m : ℕ) → (m == m) ≡ true
    itself m = grind (arith, nat_tests)
found_last n (link ∷ links) none = by (is_link n link) none (λ later. found_last n links later)
  where
    by : (b : Bool) → cond b (Some link) (find (is_link n) links) ≡ None → (find (is_link n) links ≡ None → find (is_link n) (links ++ (n, Origin) ∷ []) ≡ Some (n, Origin)) → cond b (Some link) (find (is_link n) (links ++ (n, Origin) ∷ [])) ≡ Some (n, Origin)
    by true found rest = absurd (none_some link (sym found))
    by false found rest = rest found

all_linked : (ns : List ℕ) (links : List Link) (other : Link) → AreLinked ns links → AreLinked ns (links ++ other ∷ [])
all_linked [] links other linked = tt
all_linked (n ∷ ns) links other linked = (found_front n links (n, Origin) other linked.0, all_linked ns links other linked.1)

one_linked_more : (ns : List ℕ) (n : ℕ) (links : List Link) → AreLinked ns links → find (is_link n) links ≡ Some (n, Origin) → AreLinked (ns ++ n ∷ []) links
one_linked_more [] n links linked there = (there, tt)
one_linked_more (m ∷ ns) n links linked there = (linked.0, one_linked_more ns n links linked.1 there)

pub linked_more : (ns : List ℕ) (n : ℕ) (links : List Link) → All (λ link. link.0 + 1 ≤ n) links → AreLinked ns links → AreLinked (ns ++ n ∷ []) (links ++ (n, Origin) ∷ [])
linked_more ns n links above linked = one_linked_more ns n (links ++ (n, Origin) ∷ []) (all_linked ns links (n, Origin) linked) (found_last n links (none_there n links above))

pub numbers_more : (ps : List Peer) (p : Peer) → peer_numbers (ps ++ p ∷ []) ≡ peer_numbers ps ++ p.number ∷ []
numbers_more [] p = refl
numbers_more (q ∷ ps) p = ap (λ (ns : List ℕ). q.number ∷ ns) (numbers_more ps p)

pub one_longer : {A : Type 0} (xs : List A) (y : A) → length (xs ++ y ∷ []) ≡ length xs + 1
one_longer [] y = refl
one_longer (x ∷ xs) y = omega (arith, one_longer xs y)

-- ---- a pipe is changed

pub numbers_piped : (k : ℕ) (pipe : Line) (ps : List Peer) → peer_numbers (with_pipe k pipe ps) ≡ peer_numbers ps
numbers_piped k pipe [] = refl
numbers_piped k pipe (p ∷ ps) = by (is_number k p) (numbers_piped k pipe ps)
  where
    by : (b : Bool) → peer_numbers (with_pipe k pipe ps) ≡ peer_numbers ps → peer_numbers (cond b ((record p { pipe = pipe }) ∷ ps) (p ∷ with_pipe k pipe ps)) ≡ p.number ∷ peer_numbers ps
    by true rest = refl
    by false rest = ap (λ (ns : List ℕ). p.number ∷ ns) rest

pub length_piped : (k : ℕ) (pipe : Line) (ps : List Peer) → length (with_pipe k pipe ps) ≡ length ps
length_piped k pipe [] = refl
length_piped k pipe (p ∷ ps) = by (is_number k p) (length_piped k pipe ps)
  where
    by : (b : Bool) → length (with_pipe k pipe ps) ≡ length ps → length (cond b ((record p { pipe = pipe }) ∷ ps) (p ∷ with_pipe k pipe ps)) ≡ length (p ∷ ps)
    by true rest = refl
    by false rest = omega (arith, rest)

-- ---- as many of each number as the law has

pub counted : (n : ℕ) (s : State) (ps : List Peer) (ks : List Conn) → ShowConns s ps ks → count_by (is_number n) ps ≡ count_by (is_conn n) ks
counted n s [] [] shows = refl
counted n s [] (k ∷ ks) shows = absurd shows
counted n s (p ∷ ps) [] shows = absurd shows
counted n s (p ∷ ps) (k ∷ ks) shows =
    count_first (is_number n) p ps
    ∙ ap₂ (λ (b : Bool) (i : ℕ). cond b 1 0 + i) (ap (λ (m : ℕ). m == n) shows.0.number) (counted n s ps ks shows.1)
    ∙ sym (count_first (is_conn n) k ks)

pub as_many : (s : State) (ps : List Peer) (ks : List Conn) → ShowConns s ps ks → length ps ≡ length ks
as_many s [] [] shows = refl
as_many s [] (k ∷ ks) shows = absurd shows
as_many s (p ∷ ps) [] shows = absurd shows
as_many s (p ∷ ps) (k ∷ ks) shows = omega (arith, as_many s ps ks shows.1)
