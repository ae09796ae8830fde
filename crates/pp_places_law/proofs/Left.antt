-- Whoever is left of connections to origins is open still.
use Rattle.std.proofs.Common.{◌≡◌, ◌≤◌, ◌+◌, refl, sym, subst, ap, ap₂, ◌∙◌, ℕ, Bool, true, false, not, ◌==◌, ◌||◌, cond, filter, find, List, [], ◌∷◌, ◌++◌, Some, None, arith}
use Rattle.std.proofs.lemmas.Bool.Decides.{nat_tests}
use Rattle.std.specs.List.{cons_option}
use Rattle.std.specs.Prelude.{count_by, ⊤}
use Rattle.pp_cache_law.proofs.Numbers.{some_is}
use Rattle.pp_cache_law.proofs.PairLemmas.{count_first}
use Rattle.pp_turns_law.specs.Log.{AreLinked}
use Rattle.pp_desk.specs.Closings.{peer_numbers}
use Rattle.pp_desk.specs.Shutting.{over_clients, over_peers, without_all}
use Rattle.pp_flow_law.proofs.Entries.{other_way, same_number}
use Rattle.pp_law.specs.Lists.{has_number}
use Rattle.pp_links.specs.Links.{Link, is_link, without as without_link}
use Rattle.pp_peers.specs.Peers.{goes_on, is_number}
use Rattle.pp_peers.specs.declared.peers.Peer.{Peer}
use Rattle.pp_peers_law.proofs.Finds.{no_or}
use Rattle.pp_world.specs.declared.event.Side.TheVariants.{Client as OfClient, Origin}
use Rattle.pp_places_law.proofs.Links.{counted, one_linked}
use Rattle.pp_places_law.specs.Closings.{AreOpen, LinksAreLeft}

-- ---- none of these numbers is that of one of these connections

abbrev AreOff : List ℕ → List Peer → Type 0
AreOff ids [] = ⊤
AreOff ids (p ∷ ps) = (has_number p.number ids ≡ false) × AreOff ids ps

found_still : (n : ℕ) (ids : List ℕ) (links : List Link) → has_number n ids ≡ false → find (is_link n) links ≡ Some (n, Origin) → find (is_link n) (without_all ids links) ≡ Some (n, Origin)
found_still n [] links off there = there
found_still n (id ∷ ids) links off there =
    let these : ((id == n) ≡ false) × (has_number n ids ≡ false) = no_or (id == n) (has_number n ids) off in
    found_still n ids (without_link id links) these.1 (one_linked id n links (other_way id n these.0) there)

linked_still : (ids : List ℕ) (ps : List Peer) (links : List Link) → AreOff ids ps → AreLinked (peer_numbers ps) links → AreLinked (peer_numbers ps) (without_all ids links)
linked_still ids [] links off linked = tt
linked_still ids (p ∷ ps) links off linked = (found_still p.number ids links off.0 linked.0, linked_still ids ps links off.1 linked.1)

in_both : (n : ℕ) (ids more : List ℕ) → has_number n ids ≡ false → has_number n more ≡ false → has_number n (ids ++ more) ≡ false
in_both n [] more one two = two
in_both n (id ∷ ids) more one two =
    let these : ((id == n) ≡ false) × (has_number n ids ≡ false) = no_or (id == n) (has_number n ids) one in ap₂ (λ (a b : Bool). a || b) these.0 (in_both n ids more these.1 two)

off_both : (ids more : List ℕ) (ps : List Peer) → AreOff ids ps → AreOff more ps → AreOff (ids ++ more) ps
off_both ids more [] one two = tt
off_both ids more (p ∷ ps) one two = (in_both p.number ids more one.0 two.0, off_both ids more ps one.1 two.1)

-- ---- of clients

open_off : (n : ℕ) (ids : List ℕ) (links : List Link) → AreOpen ids links → find (is_link n) links ≡ Some (n, Origin) → has_number n ids ≡ false
open_off n [] links open_ones there = refl
open_off n (id ∷ ids) links open_ones there = ap₂ (λ (a b : Bool). a || b) (off (id == n) refl) (open_off n ids links open_ones.1 there)
  where
    off : (b : Bool) → (id == n) ≡ b → (id == n) ≡ false
    off false is = is
    off true is =
        absurd (let bad : Origin ≡ OfClient = ap (λ (l : Link). l.1) (some_is (n, Origin) (id, OfClient) (sym there ∙ ap (λ (i : ℕ). find (is_link i) links) (sym (same_number id n is)) ∙ open_ones.0)) in cc bad)

clients_off : (ids : List ℕ) (ps : List Peer) (links : List Link) → AreOpen ids links → AreLinked (peer_numbers ps) links → AreOff ids ps
clients_off ids [] links open_ones linked = tt
clients_off ids (p ∷ ps) links open_ones linked = (open_off p.number ids links open_ones linked.0, clients_off ids ps links open_ones linked.1)

linked_kept : (q : Peer → Bool) (ps : List Peer) (links : List Link) → AreLinked (peer_numbers ps) links → AreLinked (peer_numbers (filter q ps)) links
linked_kept q [] links linked = tt
linked_kept q (p ∷ ps) links linked = by (q p) (linked_kept q ps links linked.1)
  where
    by : (b : Bool) → AreLinked (peer_numbers (filter q ps)) links → AreLinked (peer_numbers (cond b (p ∷ filter q ps) (filter q ps))) links
    by true rest = (linked.0, rest)
    by false rest = rest

-- ---- of those that are closing

none_over : (n : ℕ) (ps : List Peer) → count_by (is_number n) ps ≡ 0 → has_number n (over_peers false ps) ≡ false
none_over n [] none = refl
none_over n (p ∷ ps) none = by p.is_closing (is_number n p) refl (sym (count_first (is_number n) p ps) ∙ none) (λ less. none_over n ps less)
  where
    by : (b c : Bool) → is_number n p ≡ c → cond c 1 0 + count_by (is_number n) ps ≡ 0 → (count_by (is_number n) ps ≡ 0 → has_number n (over_peers false ps) ≡ false) → has_number n (cons_option (cond b (Some p.number) None) (over_peers false ps)) ≡ false
    by b true is few rest = absurd (omega (arith, few))
    by true false is few rest = ap₂ (λ (a b : Bool). a || b) is (rest (omega (arith, few)))
    by false false is few rest = rest (omega (arith, few))

one_off : (n : ℕ) (ids : List ℕ) (q : Peer → Bool) (ps : List Peer) → count_by (is_number n) ps ≡ 0 → AreOff ids (filter q ps) → AreOff (n ∷ ids) (filter q ps)
one_off n ids q [] none off = tt
one_off n ids q (p ∷ ps) none off = by (q p) (is_number n p) refl (sym (count_first (is_number n) p ps) ∙ none) off (λ less later. one_off n ids q ps less later)
  where
    by : (b c : Bool) → is_number n p ≡ c → cond c 1 0 + count_by (is_number n) ps ≡ 0 → AreOff ids (cond b (p ∷ filter q ps) (filter q ps)) → (count_by (is_number n) ps ≡ 0 → AreOff ids (filter q ps) → AreOff (n ∷ ids) (filter q ps))
        → AreOff (n ∷ ids) (cond b (p ∷ filter q ps) (filter q ps))
    by b true is few off rest = absurd (omega (arith, few))
    by true false is few off rest = (ap₂ (λ (a b : Bool). a || b) (other_way p.number n is) off.0, rest (omega (arith, few)) off.1)
    by false false is few off rest = rest (omega (arith, few)) off

others_off : (ps : List Peer) → ((n : ℕ) → count_by (is_number n) ps ≤ 1) → AreOff (over_peers false ps) (filter (goes_on false) ps)
others_off [] few = tt
others_off (p ∷ ps) few = by p.is_closing (none p.number (itself p.number)) (others_off ps (λ n. less n))
  where
    itself : (n : ℕ) → (n == n) ≡ true
    itself n = grind (arith, nat_tests)

    less : (n : ℕ) → count_by (is_number n) ps ≤ 1
    less n = omega (arith, few n, count_first (is_number n) p ps)

    none : (n : ℕ) → is_number n p ≡ true → count_by (is_number n) ps ≡ 0
    none n is = let first : count_by (is_number n) (p ∷ ps) ≡ 1 + count_by (is_number n) ps = count_first (is_number n) p ps ∙ ap (λ (b : Bool). cond b 1 0 + count_by (is_number n) ps) is in omega (arith, few n, first)

    by : (b : Bool) → count_by (is_number p.number) ps ≡ 0 → AreOff (over_peers false ps) (filter (goes_on false) ps)
        → AreOff (cons_option (cond b (Some p.number) None) (over_peers false ps)) (cond (not b) (p ∷ filter (goes_on false) ps) (filter (goes_on false) ps))
    by true zero rest = one_off p.number (over_peers false ps) (goes_on false) ps zero rest
    by false zero rest = (none_over p.number ps zero, rest)

-- ---- all of them

pub links_left : LinksAreLeft
links_left number p peers s links shows going open_ones linked =
    subst (λ (b : Bool). AreLinked (peer_numbers (filter (goes_on b) peers)) (without_all (over_clients p ++ over_peers b peers) links)) (sym going)
    (linked_still (over_clients p ++ over_peers false peers) (filter (goes_on false) peers) links
    (off_both (over_clients p) (over_peers false peers) (filter (goes_on false) peers) (clients_off (over_clients p) (filter (goes_on false) peers) links open_ones (linked_kept (goes_on false) peers links linked))
    (others_off peers (λ n. subst (λ (i : ℕ). i ≤ 1) (sym (counted n s peers s.conns shows.steps.shows.conns)) (shows.may.apart n))))
    (linked_kept (goes_on false) peers links linked))
