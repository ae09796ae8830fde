-- Each client is open still behind places: what is dialled or gives way is a connection to an origin.
use Rattle.std.proofs.Common.{◌≡◌, ◌≤◌, ◌<◌, ◌+◌, ◌⊎◌, inl, inr, refl, sym, subst, ap, ap₂, ◌∙◌, ℕ, zero, suc, Bool, true, false, ◌==◌, ◌||◌, cond, find, length, map, List, [], ◌∷◌, ◌++◌, Option, Some, None, Result, Ok, Err, le_trans, nat_lt, arith}
use Rattle.std.proofs.lemmas.List.Elements.{All-filter, All-push, All-weaker}
use Rattle.std.specs.List.{All, list_any}
use Rattle.std.specs.Prelude.{IfOk, count_by, is_some}
use Rattle.std.specs.Result.{result_unwrap_or}
use Rattle.pp_cache_law.proofs.Numbers.{is_same}
use Rattle.pp_cache_law.proofs.PairLemmas.{count_first, count_joined}
use Rattle.pp_turns_law.specs.Log.{AreLinked}
use Rattle.pp_desk.specs.Closings.{Sides, peer_numbers}
use Rattle.pp_flow.specs.Changes.{Exchanges, entry_of}
use Rattle.pp_flow.specs.Entries.{is_number as is_exchange}
use Rattle.pp_flow.specs.declared.entry.Entry.{Entry}
use Rattle.pp_flow_law.proofs.Entries.{none_some}
use Rattle.pp_laws_bounds.proofs.Peers.{Has, NewPlace, PlaceBy, idle_there, new_by, piped_by, place_by}
use Rattle.pp_links.specs.Links.{Link, is_link, is_other, links_with, without as without_link}
use Rattle.pp_peers.specs.Peers.{Loaded, is_number, unused, with_load, without as without_peer}
use Rattle.pp_peers.specs.Placing.{new_place, pipelined_place, place}
use Rattle.pp_peers.specs.Searches.{count_of, is_any, is_idle, is_of, lowest_idle}
use Rattle.pp_peers.specs.declared.peers.Peer.{Peer}
use Rattle.pp_peers.specs.declared.placing.Limits.{Limits}
use Rattle.pp_peers.specs.declared.placing.Placed.{Placed}
use Rattle.pp_peers.specs.declared.placing.Placed.TheVariants.{On, Dial, CloseThenDial, Wait}
use Rattle.pp_desk.specs.Closings.{with_parts}
use Rattle.pp_state.specs.Astray.{astray_where}
use Rattle.pp_places.specs.Around.{Around, Moment, with_sides}
use Rattle.pp_places.specs.Placing.{ArePlaced, IsDialledFor, IsDialledTo, IsPlaced, IsPlacedAs, dials_to, given_way, goes_alone, goes_on_behind, host_of, met_at, new_one, next_waiting, place_at, place_for, place_of, put_on, put_text, put_text_where, text_on}
use Rattle.pp_places_law.proofs.Links.{linked_more, linked_without, numbers_more, numbers_piped}
use Rattle.pp_places_law.specs.Closings.{AreOpen}
use Rattle.pp_world.specs.Log.{Log}
use Rattle.pp_world.specs.Wire.{IsNewNumber}
use Rattle.pp_world.specs.declared.event.Side.TheVariants.{Client as OfClient, Origin}
use Rattle.pp_world.specs.declared.wire.WireFault.{WireFault}
use Rattle.pp_rounds_law.proofs.Left.{apart, one_kept}

-- ---- what stands for it: each is open as it is meant, no number is above the greatest, and no two connections have one

pub record Stays (ns : List ℕ) (x : Around) : Type 0 where
  pub seated : AreOpen ns x.links
  pub linked : AreLinked (peer_numbers x.sides.peers) x.links
  pub given : All (λ link. link.0 ≤ x.top) x.links
  pub once : (n : ℕ) → count_by (is_number n) x.sides.peers ≤ 1

abbrev is_this : ℕ → ℕ → Bool
is_this n m = m == n

counted_by : (n : ℕ) (ps : List Peer) → count_by (is_number n) ps ≡ count_by (is_this n) (peer_numbers ps)
counted_by n [] = refl
counted_by n (p ∷ ps) = count_first (is_number n) p ps ∙ ap (λ (i : ℕ). cond (p.number == n) 1 0 + i) (counted_by n ps) ∙ sym (count_first (is_this n) p.number (peer_numbers ps))

once_by : (ps others : List Peer) → peer_numbers others ≡ peer_numbers ps → ((n : ℕ) → count_by (is_number n) ps ≤ 1) → (n : ℕ) → count_by (is_number n) others ≤ 1
once_by ps others same once n = subst (λ (i : ℕ). i ≤ 1) (counted_by n ps ∙ ap (λ (ns : List ℕ). count_by (is_this n) ns) (sym same) ∙ sym (counted_by n others)) (once n)

stays_same : (ns : List ℕ) (x y : Around) → Stays ns x → y ≡ x → Stays ns y
stays_same ns x y stays same = subst (λ (z : Around). Stays ns z) (sym same) stays

-- connections alone change, and not their numbers
stays_numbered : (ns : List ℕ) (x y : Around) → Stays ns x → peer_numbers y.sides.peers ≡ peer_numbers x.sides.peers → y.links ≡ x.links → y.top ≡ x.top → Stays ns y
stays_numbered ns x y stays same links top = record {
  seated = subst (λ (ls : List Link). AreOpen ns ls) (sym links) stays.seated;
  linked = subst (λ (ms : List ℕ). AreLinked ms y.links) (sym same) (subst (λ (ls : List Link). AreLinked (peer_numbers x.sides.peers) ls) (sym links) stays.linked);
  given = subst (λ (t : ℕ). All (λ (link : Link). link.0 ≤ t) y.links) (sym top) (subst (λ (ls : List Link). All (λ (link : Link). link.0 ≤ x.top) ls) (sym links) stays.given);
  once = once_by x.sides.peers y.sides.peers same stays.once;
}

-- ---- it is put on a line

put_numbers : (number k : ℕ) (o : Option Entry) (f : Exchanges) (ps : List Peer) → peer_numbers (put_text number k o f ps) ≡ peer_numbers ps
put_numbers number k None f ps = refl
put_numbers number k (Some e) f ps = by (is_some (find (is_exchange number) f.waiting))
  where
    on : (o : Option Peer) → peer_numbers (text_on k e.text.items e.errand.asks_head o ps) ≡ peer_numbers ps
    on None = refl
    on (Some peer) = numbers_piped k _ ps

    by : (b : Bool) → peer_numbers (put_text_where b k e ps) ≡ peer_numbers ps
    by true = on (find (is_number k) ps)
    by false = refl

-- ---- one gives way: it is there

has_peer : (k : ℕ) (test : Loaded → Bool) (ps : List Peer) (links : List Link) → AreLinked (peer_numbers ps) links → Has test k (map with_load ps) → find (is_link k) links ≡ Some (k, Origin)
has_peer k test [] links linked (l, within, number, passes) = absurd within
has_peer k test (p ∷ ps) links linked (l, inl same, number, passes) =
    subst (λ (n : ℕ). find (is_link n) links ≡ Some (n, Origin)) (ap (λ (w : Loaded). w.number) (sym same) ∙ number) linked.0
has_peer k test (p ∷ ps) links linked (l, inr within, number, passes) = has_peer k test ps links linked.1 (l, within, number, passes)

idle_linked : (k : ℕ) (among : Loaded → Bool) (ps : List Peer) (links : List Link) → AreLinked (peer_numbers ps) links → lowest_idle among (map with_load ps) ≡ Some k → find (is_link k) links ≡ Some (k, Origin)
idle_linked k among ps links linked lowest = has_peer k (is_idle among) ps links linked (idle_there among (map with_load ps) k lowest)

way_linked : (limits : Limits) (host : List ℕ) (port k : ℕ) (alone : Bool) (ps : List Peer) (links : List Link) → AreLinked (peer_numbers ps) links → place limits host port alone (map with_load ps) ≡ CloseThenDial k → find (is_link k) links ≡ Some (k, Origin)
way_linked limits host port k alone ps links linked is = by (place_by alone (lowest_idle (is_of host port) ls) (new_place limits.host_connections host port ls) (pipelined_place limits.pipelines_asks host port ls) (CloseThenDial k) is)
  where
    ls : List Loaded
    ls = map with_load ps

    lowest : (m : ℕ) → k ≡ m → (lowest_idle is_any ls ≡ Some m) ⊎ (lowest_idle (is_of host port) ls ≡ Some m) → find (is_link k) links ≡ Some (k, Origin)
    lowest m same (inl w) = idle_linked k is_any ps links linked (w ∙ ap (λ (n : ℕ). Some n) (sym same))
    lowest m same (inr w) = idle_linked k (is_of host port) ps links linked (w ∙ ap (λ (n : ℕ). Some n) (sym same))

    new_one : NewPlace (nat_lt (count_of (is_of host port) ls) limits.host_connections) (nat_lt (length ls) 64) (lowest_idle is_any ls) (lowest_idle (is_of host port) ls) (CloseThenDial k) → find (is_link k) links ≡ Some (k, Origin)
    new_one (inl w) = absurd (cc w.0)
    new_one (inr w) = let same : k ≡ w.0 = cc w.1 in lowest w.0 same w.2

    by : PlaceBy (lowest_idle (is_of host port) ls) (new_place limits.host_connections host port ls) (pipelined_place limits.pipelines_asks host port ls) (CloseThenDial k) → find (is_link k) links ≡ Some (k, Origin)
    by (inl w) = absurd (cc w)
    by (inr (inl w)) = new_one (new_by (nat_lt (count_of (is_of host port) ls) limits.host_connections) (nat_lt (length ls) 64) (lowest_idle is_any ls) (lowest_idle (is_of host port) ls) (CloseThenDial k) w)
    by (inr (inr (inl w))) = absurd (cc w.2)
    by (inr (inr (inr w))) = let v = piped_by limits.pipelines_asks host port ls (CloseThenDial k) w in absurd (cc v.2)

way_of : (limits : Limits) (k : ℕ) (o : Option Entry) (ps : List Peer) (links : List Link) → AreLinked (peer_numbers ps) links → place_of limits o ps ≡ CloseThenDial k → find (is_link k) links ≡ Some (k, Origin)
way_of limits k None ps links linked is = absurd (cc is)
way_of limits k (Some e) ps links linked is = by (host_of e) is
  where
    by : (o : Option (List ℕ)) → place_at limits e o ps ≡ CloseThenDial k → find (is_link k) links ≡ Some (k, Origin)
    by None none = absurd (cc none)
    by (Some host) placed = way_linked limits host e.errand.place.port k (goes_alone e) ps links linked placed

kept_open : (k : ℕ) (ns : List ℕ) (links : List Link) → find (is_link k) links ≡ Some (k, Origin) → AreOpen ns links → AreOpen ns (without_link k links)
kept_open k [] links there ones = tt
kept_open k (n ∷ ns) links there ones = (one_kept k n OfClient links (apart n k links ones.0 there) ones.0, kept_open k ns links there ones.1)

fewer : (n k : ℕ) (ps : List Peer) → count_by (is_number n) (without_peer k ps) ≤ count_by (is_number n) ps
fewer n k [] = omega arith
fewer n k (p ∷ ps) = by (is_number k p) (fewer n k ps)
  where
    by : (b : Bool) → count_by (is_number n) (without_peer k ps) ≤ count_by (is_number n) ps → count_by (is_number n) (cond b ps (p ∷ without_peer k ps)) ≤ count_by (is_number n) (p ∷ ps)
    by true rest = omega (arith, count_first (is_number n) p ps)
    by false rest = omega (arith, rest, count_first (is_number n) p ps, count_first (is_number n) p (without_peer k ps))

gone : (ns : List ℕ) (k : ℕ) (x : Around) → find (is_link k) x.links ≡ Some (k, Origin) → Stays ns x → Stays ns (given_way k x)
gone ns k x there stays = record {
  seated = kept_open k ns x.links there stays.seated;
  linked = linked_without k x.sides.peers x.links (stays.once k) stays.linked;
  given = All-filter (is_other k) (λ link. link.0 ≤ x.top) x.links stays.given;
  once = λ n. le_trans (fewer n k x.sides.peers) (stays.once n);
}

-- ---- one is dialled

found_front : (n : ℕ) (links : List Link) (l other : Link) → find (is_link n) links ≡ Some l → find (is_link n) (links ++ other ∷ []) ≡ Some l
found_front n [] l other there = absurd (none_some l there)
found_front n (link ∷ links) l other there = by (is_link n link) there (λ later. found_front n links l other later)
  where
    by : (b : Bool) → cond b (Some link) (find (is_link n) links) ≡ Some l → (find (is_link n) links ≡ Some l → find (is_link n) (links ++ other ∷ []) ≡ Some l) → cond b (Some link) (find (is_link n) (links ++ other ∷ [])) ≡ Some l
    by true found rest = found
    by false found rest = rest found

open_more : (ns : List ℕ) (links : List Link) (other : Link) → AreOpen ns links → AreOpen ns (links ++ other ∷ [])
open_more [] links other ones = tt
open_more (n ∷ ns) links other ones = (found_front n links (n, OfClient) other ones.0, open_more ns links other ones.1)

linked_front : (ns : List ℕ) (links : List Link) (other : Link) → AreLinked ns links → AreLinked ns (links ++ other ∷ [])
linked_front [] links other linked = tt
linked_front (n ∷ ns) links other linked = (found_front n links (n, Origin) other linked.0, linked_front ns links other linked.1)

below : (top k : ℕ) (links : List Link) → top < k → All (λ link. link.0 ≤ top) links → All (λ link. link.0 ≤ k) (links ++ (k, Origin) ∷ [])
below top k links less given = All-push (λ link. link.0 ≤ k) links (k, Origin) (All-weaker (λ link. link.0 ≤ top) (λ link. link.0 ≤ k) (λ link at. omega (arith, at, less)) links given) (omega arith)

none_any : (n : ℕ) (ps : List Peer) → list_any (is_number n) ps ≡ false → count_by (is_number n) ps ≡ 0
none_any n [] none = refl
none_any n (p ∷ ps) none = by (is_number n p) refl none (λ less. none_any n ps less)
  where
    by : (b : Bool) → is_number n p ≡ b → (b || list_any (is_number n) ps) ≡ false → (list_any (is_number n) ps ≡ false → count_by (is_number n) ps ≡ 0) → count_by (is_number n) (p ∷ ps) ≡ 0
    by true is both rest = absurd (cc both)
    by false is both rest = count_first (is_number n) p ps ∙ ap₂ (λ (b : Bool) (i : ℕ). cond b 1 0 + i) is (rest both) ∙ omega arith

once_more : (ps : List Peer) (p : Peer) → list_any (is_number p.number) ps ≡ false → ((n : ℕ) → count_by (is_number n) ps ≤ 1) → (n : ℕ) → count_by (is_number n) (ps ++ p ∷ []) ≤ 1
once_more ps p new once n = by (is_number n p) refl
  where
    all : count_by (is_number n) (ps ++ p ∷ []) ≡ count_by (is_number n) ps + (cond (is_number n p) 1 0 + 0)
    all = count_joined (is_number n) ps (p ∷ []) ∙ ap (λ (i : ℕ). count_by (is_number n) ps + i) (count_first (is_number n) p [])

    by : (b : Bool) → is_number n p ≡ b → count_by (is_number n) (ps ++ p ∷ []) ≤ 1
    by true is =
        let none : count_by (is_number n) ps ≡ 0 = subst (λ (m : ℕ). count_by (is_number m) ps ≡ 0) (is_same p.number n is) (none_any p.number ps new) in
        let one : count_by (is_number n) (ps ++ p ∷ []) ≡ count_by (is_number n) ps + (1 + 0) = all ∙ ap (λ (b : Bool). count_by (is_number n) ps + (cond b 1 0 + 0)) is in
        omega (arith, one, none)
    by false is =
        let one : count_by (is_number n) (ps ++ p ∷ []) ≡ count_by (is_number n) ps + (0 + 0) = all ∙ ap (λ (b : Bool). count_by (is_number n) ps + (cond b 1 0 + 0)) is in
        omega (arith, one, once n)

-- the connections that are there then
abbrev peers_met : Moment → ℕ → Entry → List ℕ → Option ℕ → Sides → List Peer
peers_met m number e host o x = (met_at m number e host o x).peers

dialled_as : (ns : List ℕ) (m : Moment) (number : ℕ) (e : Entry) (host : List ℕ) (x y : Around) (answer : Result ℕ WireFault) → Stays ns x → IfOk answer (IsNewNumber x.top) → y.sides.peers ≡ peers_met m number e host (new_one answer x.sides.peers) x.sides → y.links ≡ links_with answer x.links
    → y.top ≡ result_unwrap_or answer x.top → Stays ns y
dialled_as ns m number e host x y (Err fault) stays new peers links top = stays_numbered ns x y stays (ap peer_numbers peers) links top
dialled_as ns m number e host x y (Ok k) stays new peers links top = by (list_any (is_number k) x.sides.peers) refl peers
  where
    less : x.top < k
    less = new.above

    given : All (λ link. link.0 ≤ y.top) y.links
    given = subst (λ (t : ℕ). All (λ (link : Link). link.0 ≤ t) y.links) (sym top) (subst (λ (ls : List Link). All (λ (link : Link). link.0 ≤ k) ls) (sym links) (below x.top k x.links less stays.given))

    seated : AreOpen ns y.links
    seated = subst (λ (ls : List Link). AreOpen ns ls) (sym links) (open_more ns x.links (k, Origin) stays.seated)

    above : All (λ link. link.0 + 1 ≤ k) x.links
    above = All-weaker (λ link. link.0 ≤ x.top) (λ link. link.0 + 1 ≤ k) (λ link at. omega (arith, at, less)) x.links stays.given

    by : (b : Bool) → list_any (is_number k) x.sides.peers ≡ b → y.sides.peers ≡ peers_met m number e host (cond b None (Some k)) x.sides → Stays ns y
    by true is there = record {
      seated = seated;
      linked = subst (λ (ps : List Peer). AreLinked (peer_numbers ps) y.links) (sym there) (subst (λ (ls : List Link). AreLinked (peer_numbers x.sides.peers) ls) (sym links) (linked_front (peer_numbers x.sides.peers) x.links (k, Origin) stays.linked));
      given = given;
      once = subst (λ (ps : List Peer). (n : ℕ) → count_by (is_number n) ps ≤ 1) (sym there) stays.once;
    }
    by false is there =
        let one : Peer = unused k host e.errand.place.port m.now in
        let numbers : peer_numbers y.sides.peers ≡ peer_numbers (x.sides.peers ++ one ∷ []) =
        ap peer_numbers there ∙ put_numbers number k (entry_of number x.sides.parts.flow) x.sides.parts.flow (x.sides.peers ++ one ∷ []) in
        record {
          seated = seated;
          linked =
              subst (λ (ms : List ℕ). AreLinked ms y.links) (sym (numbers ∙ numbers_more x.sides.peers one))
              (subst (λ (ls : List Link). AreLinked (peer_numbers x.sides.peers ++ k ∷ []) ls) (sym links) (linked_more (peer_numbers x.sides.peers) k x.links above stays.linked));
          given = given;
          once = once_by (x.sides.peers ++ one ∷ []) y.sides.peers numbers (once_more x.sides.peers one is stays.once);
        }

dialled_to : (ns : List ℕ) (m : Moment) (number : ℕ) (e : Entry) (o : Option (List ℕ)) (x y : Around) (log : Log) → Stays ns x → IsDialledTo m number e o x log y → Stays ns y
dialled_to ns m number e None x y log stays is = subst (λ (z : Around). Stays ns z) (sym is.1) (record { seated = stays.seated; linked = stays.linked; given = stays.given; once = stays.once })
dialled_to ns m number e (Some host) x y log stays is = dialled_as ns m number e host x y is.answer stays is.number_is (ap (λ (z : Sides). z.peers) is.sides) is.links is.top

dialled : (ns : List ℕ) (m : Moment) (number : ℕ) (o : Option Entry) (x y : Around) (log : Log) → Stays ns x → IsDialledFor m number o x log y → Stays ns y
dialled ns m number None x y log stays is = stays_same ns x y stays is.1
dialled ns m number (Some e) x y log stays is = dialled_to ns m number e (dials_to (host_of e) x.sides.peers) x y log stays is

-- ---- one behind the other

placed_as : (ns : List ℕ) (w : Placed) (m : Moment) (number : ℕ) (x y : Around) (log : Log) → place_for m.limits number x.sides ≡ w → Stays ns x → IsPlacedAs w m number x log y → Stays ns y
placed_as ns (On k) m number x y log place stays is =
    subst (λ (z : Around). Stays ns z) (sym is.1) (stays_numbered ns x (with_sides (put_on number k) x) stays (put_numbers number k (entry_of number x.sides.parts.flow) x.sides.parts.flow x.sides.peers) refl refl)
placed_as ns Dial m number x y log place stays is = dialled ns m number (entry_of number x.sides.parts.flow) x y log stays is
placed_as ns (CloseThenDial k) m number x y log place stays is =
    subst (λ (z : Around). Stays ns z) (sym is.1) (gone ns k x (way_of m.limits k (entry_of number x.sides.parts.flow) x.sides.peers x.links stays.linked place) stays)
placed_as ns Wait m number x y log place stays is = stays_same ns x y stays is.1

abbrev Onward : ℕ → List ℕ → Moment → Type 0
Onward more ns m = (after : Option ℕ) (x y : Around) (log : Log) → Stays ns x → ArePlaced more m after x log y → Stays ns y

abbrev Steps : ℕ → Moment → Around → Log → Around → Option ℕ → Type 0
Steps more m x log y o = elim o [
  | None ↦ (log ≡ []) × (y ≡ x)
  | Some number ↦ (next : Around) × (first : Log) × (rest : Log) × (log ≡ first ++ rest) × IsPlaced m number x first next × ArePlaced more m (goes_on_behind (place_for m.limits number x.sides) number) next rest y
]

one_more : (more : ℕ) (ns : List ℕ) (m : Moment) → Onward more ns m → (x y : Around) (log : Log) (o : Option ℕ) → Stays ns x → Steps more m x log y o → Stays ns y
one_more more ns m onward x y log None stays is = stays_same ns x y stays is.1
one_more more ns m onward x y log (Some number) stays (next, first, rest, is, placed, others) =
    onward (goes_on_behind (place_for m.limits number x.sides) number) next y rest (placed_as ns (place_for m.limits number x.sides) m number x next first refl stays placed) others

stays_astray : (b : Bool) (ns : List ℕ) (x : Around) → Stays ns x → Stays ns (with_sides (with_parts (astray_where b)) x)
stays_astray false ns x stays = stays
stays_astray true ns x stays = record { seated = stays.seated; linked = stays.linked; given = stays.given; once = stays.once }

pub stays_seated : (more : ℕ) (ns : List ℕ) (m : Moment) → Onward more ns m
unfolding ArePlaced
stays_seated zero ns m after x y log stays is = subst (λ (z : Around). Stays ns z) (sym is.1) (stays_astray (is_some (next_waiting after x.sides)) ns x stays)
stays_seated (suc more) ns m after x y log stays is = one_more more ns m (stays_seated more ns m) x y log (next_waiting after x.sides) stays is
