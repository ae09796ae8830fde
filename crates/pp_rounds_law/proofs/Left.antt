-- Behind closings each client that is left is open still, and no more connections are open than may be.
use Rattle.std.proofs.Common.{◌≡◌, ◌≤◌, ◌+◌, refl, sym, subst, ap, ap₂, ◌∙◌, ℕ, Bool, true, false, not, ◌==◌, ◌||◌, cond, filter, find, length, List, [], ◌∷◌, ◌++◌, Some, None, le_trans, arith}
use Rattle.std.proofs.lemmas.Bool.Decides.{nat_tests}
use Rattle.std.proofs.lemmas.List.Elements.{All-filter}
use Rattle.std.specs.List.{All, cons_option}
use Rattle.std.specs.Prelude.{count_by}
use Rattle.pp_cache_law.proofs.Finds.{find_kept}
use Rattle.pp_cache_law.proofs.Numbers.{some_is}
use Rattle.pp_cache_law.proofs.PairLemmas.{count_first}
use Rattle.pp_turns_law.specs.Log.{AreLinked}
use Rattle.pp_desk.specs.Closings.{peer_numbers}
use Rattle.pp_desk.specs.Shutting.{over_peers, without_all}
use Rattle.pp_flow_law.proofs.Entries.{other_way, same_number}
use Rattle.pp_law.specs.Lists.{has_number}
use Rattle.pp_links.specs.Links.{Link, is_link, is_other, without as without_link}
use Rattle.pp_peers.specs.Peers.{goes_on, is_number, without as without_peer}
use Rattle.pp_peers.specs.declared.peers.Peer.{Peer}
use Rattle.pp_peers_law.proofs.Finds.{no_or}
use Rattle.pp_places_law.proofs.Links.{fewer_links, linked_without}
use Rattle.pp_places_law.specs.Closings.{AreOpen}
use Rattle.pp_world.specs.declared.event.Side.{Side}
use Rattle.pp_world.specs.declared.event.Side.TheVariants.{Client as OfClient, Origin}

-- ---- one that is not of these numbers is open still

pub off_both : (n : ℕ) (ids more : List ℕ) → has_number n ids ≡ false → has_number n more ≡ false → has_number n (ids ++ more) ≡ false
off_both n [] more one two = two
off_both n (id ∷ ids) more one two =
    let these : ((id == n) ≡ false) × (has_number n ids ≡ false) = no_or (id == n) (has_number n ids) one in ap₂ (λ (a b : Bool). a || b) these.0 (off_both n ids more these.1 two)

pub one_kept : (id n : ℕ) (side : Side) (links : List Link) → (n == id) ≡ false → find (is_link n) links ≡ Some (n, side) → find (is_link n) (without_link id links) ≡ Some (n, side)
one_kept id n side links off there = find_kept (is_link n) (is_other id) links (λ link is. ap not (ap (λ (i : ℕ). i == id) (same_number link.0 n is) ∙ off)) ∙ there

pub kept_link : (n : ℕ) (side : Side) (ids : List ℕ) (links : List Link) → has_number n ids ≡ false → find (is_link n) links ≡ Some (n, side) → find (is_link n) (without_all ids links) ≡ Some (n, side)
kept_link n side [] links off there = there
kept_link n side (id ∷ ids) links off there =
    let these : ((id == n) ≡ false) × (has_number n ids ≡ false) = no_or (id == n) (has_number n ids) off in
    kept_link n side ids (without_link id links) these.1 (one_kept id n side links (other_way id n these.0) there)

-- of another side it is none of these
pub apart : (id n : ℕ) (links : List Link) → find (is_link id) links ≡ Some (id, OfClient) → find (is_link n) links ≡ Some (n, Origin) → (id == n) ≡ false
apart id n links one other = off (id == n) refl
  where
    off : (b : Bool) → (id == n) ≡ b → (id == n) ≡ false
    off false is = is
    off true is =
        absurd (let bad : Origin ≡ OfClient = ap (λ (l : Link). l.1) (some_is (n, Origin) (id, OfClient) (sym other ∙ ap (λ (i : ℕ). find (is_link i) links) (sym (same_number id n is)) ∙ one)) in cc bad)

off_clients : (n : ℕ) (ids : List ℕ) (links : List Link) → AreOpen ids links → find (is_link n) links ≡ Some (n, Origin) → has_number n ids ≡ false
off_clients n [] links ones there = refl
off_clients n (id ∷ ids) links ones there = ap₂ (λ (a b : Bool). a || b) (apart id n links ones.0 there) (off_clients n ids links ones.1 there)

off_origins : (n : ℕ) (ids : List ℕ) (links : List Link) → AreLinked ids links → find (is_link n) links ≡ Some (n, OfClient) → has_number n ids ≡ false
off_origins n [] links ones there = refl
off_origins n (id ∷ ids) links ones there = ap₂ (λ (a b : Bool). a || b) (other_way n id (apart n id links there ones.0)) (off_origins n ids links ones.1 there)

-- ---- those that are over are open

pub over_linked : (ps : List Peer) (links : List Link) → AreLinked (peer_numbers ps) links → AreLinked (over_peers false ps) links
over_linked [] links linked = tt
over_linked (p ∷ ps) links linked = by p.is_closing (over_linked ps links linked.1)
  where
    by : (b : Bool) → AreLinked (over_peers false ps) links → AreLinked (cons_option (cond b (Some p.number) None) (over_peers false ps)) links
    by true rest = (linked.0, rest)
    by false rest = rest

-- a client that is left, of which no number is that of one that goes
pub left_open : (n : ℕ) (cs : List ℕ) (ps : List Peer) (links : List Link) → has_number n cs ≡ false → AreLinked (peer_numbers ps) links → find (is_link n) links ≡ Some (n, OfClient) → find (is_link n) (without_all (cs ++ over_peers false ps) links) ≡ Some (n, OfClient)
left_open n cs ps links off linked there = kept_link n OfClient (cs ++ over_peers false ps) links (off_both n cs (over_peers false ps) off (off_origins n (over_peers false ps) links (over_linked ps links linked) there)) there

-- ---- how many are open

clients_out : (ns cs : List ℕ) (links : List Link) → AreOpen cs links → AreLinked ns links → AreLinked ns (without_all cs links)
clients_out [] cs links ones linked = tt
clients_out (n ∷ ns) cs links ones linked = (kept_link n Origin cs links (off_clients n cs links ones linked.0) linked.0, clients_out ns cs links ones linked.1)

no_more_links : (id : ℕ) (links : List Link) → length (without_link id links) ≤ length links
no_more_links id [] = omega arith
no_more_links id (l ∷ links) = by (is_other id l) (no_more_links id links)
  where
    by : (b : Bool) → length (without_link id links) ≤ length links → length (cond b (l ∷ without_link id links) (without_link id links)) ≤ length (l ∷ links)
    by true rest = omega (arith, rest)
    by false rest = omega (arith, rest)

fewer_all : (ids : List ℕ) (links : List Link) → length (without_all ids links) ≤ length links
fewer_all [] links = omega arith
fewer_all (id ∷ ids) links = le_trans (fewer_all ids (without_link id links)) (no_more_links id links)

one_behind : (cs ps : List ℕ) (links : List Link) → without_all (cs ++ ps) links ≡ without_all ps (without_all cs links)
one_behind [] ps links = refl
one_behind (c ∷ cs) ps links = one_behind cs ps (without_link c links)

origins_out : (ps : List Peer) (links : List Link) → ((n : ℕ) → count_by (is_number n) ps ≤ 1) → AreLinked (peer_numbers ps) links → length (without_all (over_peers false ps) links) + length ps ≤ length links + length (filter (goes_on false) ps)
origins_out [] links few linked = omega arith
origins_out (p ∷ ps) links few linked = by p.is_closing (λ ls less. origins_out ps ls (λ n. fewer n) less)
  where
    itself : (n : ℕ) → (n == n) ≡ true
    itself n = grind (arith, nat_tests)

    fewer : (n : ℕ) → count_by (is_number n) ps ≤ 1
    fewer n = omega (arith, few n, count_first (is_number n) p ps)

    less_one : AreLinked (peer_numbers ps) (without_link p.number links)
    less_one =
        subst (λ (b : Bool). AreLinked (peer_numbers (cond b ps (p ∷ without_peer p.number ps))) (without_link p.number links)) (itself p.number)
        (linked_without p.number (p ∷ ps) links (few p.number) linked)

    by : (b : Bool) → ((ls : List Link) → AreLinked (peer_numbers ps) ls → length (without_all (over_peers false ps) ls) + length ps ≤ length ls + length (filter (goes_on false) ps))
        → length (without_all (cons_option (cond b (Some p.number) None) (over_peers false ps)) links) + length (p ∷ ps) ≤ length links + length (cond (not b) (p ∷ filter (goes_on false) ps) (filter (goes_on false) ps))
    by true rest = omega (arith, rest (without_link p.number links) less_one, fewer_links p.number links (p.number, Origin) linked.0)
    by false rest = omega (arith, rest links linked.1)

sum_few : (a b c d e : ℕ) → a + d ≤ b + e → b ≤ c → c ≤ 256 + d → a ≤ 256 + e
sum_few a b c d e one two few = omega (arith, one, two, few)

pub few_left : (cs : List ℕ) (ps : List Peer) (links : List Link) → ((n : ℕ) → count_by (is_number n) ps ≤ 1) → AreOpen cs links → AreLinked (peer_numbers ps) links → length links ≤ 256 + length ps
    → length (without_all (cs ++ over_peers false ps) links) ≤ 256 + length (filter (goes_on false) ps)
few_left cs ps links once ones linked few =
    subst (λ (ls : List Link). length ls ≤ 256 + length (filter (goes_on false) ps)) (sym (one_behind cs (over_peers false ps) links))
    (sum_few (length (without_all (over_peers false ps) (without_all cs links))) (length (without_all cs links)) (length links) (length ps) (length (filter (goes_on false) ps))
    (origins_out ps (without_all cs links) once (clients_out (peer_numbers ps) cs links ones linked)) (fewer_all cs links) few)

pub given_left : (top : ℕ) (ids : List ℕ) (links : List Link) → All (λ link. link.0 ≤ top) links → All (λ link. link.0 ≤ top) (without_all ids links)
given_left top [] links given = given
given_left top (id ∷ ids) links given = given_left top ids (without_link id links) (All-filter (is_other id) (λ link. link.0 ≤ top) links given)
