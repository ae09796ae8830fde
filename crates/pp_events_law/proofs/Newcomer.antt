-- A newcomer's connection is open behind the others, and its number is the greatest.
use Rattle.std.proofs.Common.{◌≡◌, ◌≤◌, ◌<◌, refl, subst, ap, ◌∙◌, ℕ, zero, suc, ◌+◌, Bool, true, false, ◌==◌, cond, find, length, List, [], ◌∷◌, ◌++◌, Option, Some, None, arith}
use Rattle.std.proofs.lemmas.Bool.Decides.{nat_tests}
use Rattle.std.specs.List.{All}
use Rattle.std.specs.Prelude.{slice_index}
use Rattle.pp_cache_law.proofs.Finds.{find_joined, find_passes, first_of_two}
use Rattle.pp_cache_law.proofs.Numbers.{some_is}
use Rattle.pp_turns_law.specs.Log.{AreLinked}
use Rattle.pp_flow_law.proofs.Entries.{none_some}
use Rattle.pp_flow_law.specs.Tables.{AreGiven}
use Rattle.pp_links.specs.Links.{Link, is_link}
use Rattle.pp_seats.specs.declared.seat.Seat.{Seat}
use Rattle.pp_state.specs.Ends.{AreInOrder, numbers_of}
use Rattle.pp_states_law.proofs.Lines.{same_itself}
use Rattle.pp_world.specs.declared.event.Side.TheVariants.{Client as OfClient}
use Rattle.pp_events_law.specs.Stands.{AreClients}

-- ---- numbers that rise

each_more : (m n : ℕ) (ns : List ℕ) → ((j : ℕ) → j < length ns → m < slice_index ns j) → m < n → (j : ℕ) → j < length (ns ++ n ∷ []) → m < slice_index (ns ++ n ∷ []) j
each_more m n [] each less zero within = less
each_more m n [] each less (suc j) within = absurd (omega (arith, within))
each_more m n (k ∷ ns) each less zero within = each 0 (omega arith)
each_more m n (k ∷ ns) each less (suc j) within = each_more m n ns (λ i inside. each (suc i) (omega (arith, inside))) less j (omega (arith, within))

pub order_more : (ns : List ℕ) (n : ℕ) → AreInOrder ns → ((i : ℕ) → i < length ns → slice_index ns i < n) → AreInOrder (ns ++ n ∷ [])
order_more [] n order above i j less within = absurd (omega (arith, less, within))
order_more (m ∷ ns) n order above i j less within =
    by i j less within (order_more ns n (λ k l before inside. order (suc k) (suc l) (omega (arith, before)) (omega (arith, inside))) (λ k inside. above (suc k) (omega (arith, inside))))
  where
    by : (a b : ℕ) → a < b → b < length (m ∷ (ns ++ n ∷ [])) → AreInOrder (ns ++ n ∷ []) → slice_index (m ∷ (ns ++ n ∷ [])) a < slice_index (m ∷ (ns ++ n ∷ [])) b
    by a zero before inside rest = absurd (omega (arith, before))
    by zero (suc b) before inside rest = each_more m n ns (λ k in_ns. order 0 (suc k) (omega arith) (omega (arith, in_ns))) (above 0 (omega arith)) b (omega (arith, inside))
    by (suc a) (suc b) before inside rest = rest a b (omega (arith, before)) (omega (arith, inside))

-- places that are given rise
given_above : (low next : ℕ) (ns : List ℕ) → AreGiven low next ns → (j : ℕ) → j < length ns → low ≤ slice_index ns j
given_above low next [] given j within = absurd (omega (arith, within))
given_above low next (n ∷ ns) given zero within = given.0
given_above low next (n ∷ ns) given (suc j) within = omega (arith, given.0, given_above (n + 1) next ns given.1 j (omega (arith, within)))

pub rising : (ns : List ℕ) (low next : ℕ) → AreGiven low next ns → AreInOrder ns
rising [] low next given i j less within = absurd (omega (arith, within))
rising (n ∷ ns) low next given i j less within = by i j less within (rising ns (n + 1) next given.1)
  where
    by : (a b : ℕ) → a < b → b < length (n ∷ ns) → AreInOrder ns → slice_index (n ∷ ns) a < slice_index (n ∷ ns) b
    by a zero before inside rest = absurd (omega (arith, before))
    by zero (suc b) before inside rest = omega (arith, given_above (n + 1) next ns given.1 b (omega (arith, inside)))
    by (suc a) (suc b) before inside rest = rest a b (omega (arith, before)) (omega (arith, inside))

pub seats_more : (seats : List Seat) (seat : Seat) → numbers_of (seats ++ seat ∷ []) ≡ numbers_of seats ++ seat.client.id ∷ []
seats_more [] seat = refl
seats_more (first ∷ seats) seat = ap (λ (ns : List ℕ). first.client.id ∷ ns) (seats_more seats seat)

-- ---- the numbers that were given

found_given : (n top : ℕ) (links : List Link) (l : Link) → All (λ link. link.0 ≤ top) links → find (is_link n) links ≡ Some l → l.0 ≤ top
found_given n top [] l all there = absurd (none_some l there)
found_given n top (link ∷ links) l all there = by (is_link n link) there (λ later. found_given n top links l (λ k d within. all (suc k) d (omega (arith, within))) later)
  where
    by : (b : Bool) → cond b (Some link) (find (is_link n) links) ≡ Some l → (find (is_link n) links ≡ Some l → l.0 ≤ top) → l.0 ≤ top
    by true found rest = subst (λ (o : Link). o.0 ≤ top) (some_is link l found) (all 0 link (omega arith))
    by false found rest = rest found

pub each_given : (ns : List ℕ) (links : List Link) (top : ℕ) → All (λ link. link.0 ≤ top) links → AreClients ns links → (i : ℕ) → i < length ns → slice_index ns i ≤ top
each_given [] links top all linked i within = absurd (omega (arith, within))
each_given (n ∷ ns) links top all linked zero within = found_given n top links (n, OfClient) all linked.0
each_given (n ∷ ns) links top all linked (suc i) within = each_given ns links top all linked.1 i (omega (arith, within))

too_great : (n m top : ℕ) → (m == n) ≡ true → m ≤ top → top < n → ⊥
too_great n m top same less above = absurd (grind (arith, nat_tests, same, less, above))

none_new : (n top : ℕ) (links : List Link) → All (λ link. link.0 ≤ top) links → top < n → find (is_link n) links ≡ None
none_new n top links all above = by (find (is_link n) links) refl
  where
    by : (o : Option Link) → find (is_link n) links ≡ o → o ≡ None
    by None is = refl
    by (Some l) is = absurd (too_great n l.0 top (find_passes (is_link n) links l is) (found_given n top links l all is) above)

-- ---- one more is open

still_first : (n : ℕ) (links : List Link) (l other : Link) → find (is_link n) links ≡ Some l → find (is_link n) (links ++ other ∷ []) ≡ Some l
still_first n links l other there = find_joined (is_link n) links (other ∷ []) ∙ ap (λ (o : Option Link). first_of_two o (find (is_link n) (other ∷ []))) there

pub origins_more : (ns : List ℕ) (links : List Link) (other : Link) → AreLinked ns links → AreLinked ns (links ++ other ∷ [])
origins_more [] links other linked = tt
origins_more (n ∷ ns) links other linked = (still_first n links _ other linked.0, origins_more ns links other linked.1)

all_still : (ns : List ℕ) (links : List Link) (other : Link) → AreClients ns links → AreClients ns (links ++ other ∷ [])
all_still [] links other linked = tt
all_still (n ∷ ns) links other linked = (still_first n links (n, OfClient) other linked.0, all_still ns links other linked.1)

and_one : (ns : List ℕ) (n : ℕ) (links : List Link) → AreClients ns links → find (is_link n) links ≡ Some (n, OfClient) → AreClients (ns ++ n ∷ []) links
and_one [] n links linked there = (there, tt)
and_one (m ∷ ns) n links linked there = (linked.0, and_one ns n links linked.1 there)

pub clients_more : (ns : List ℕ) (n top : ℕ) (links : List Link) → All (λ link. link.0 ≤ top) links → top < n → AreClients ns links → AreClients (ns ++ n ∷ []) (links ++ (n, OfClient) ∷ [])
clients_more ns n top links all above linked =
    and_one ns n (links ++ (n, OfClient) ∷ []) (all_still ns links (n, OfClient) linked)
    (find_joined (is_link n) links ((n, OfClient) ∷ []) ∙ ap (λ (o : Option Link). first_of_two o (find (is_link n) ((n, OfClient) ∷ []))) (none_new n top links all above) ∙ ap (λ (b : Bool). cond b (Some (n, OfClient)) None) (same_itself n))

less_still : (m top n : ℕ) → m ≤ top → top < n → m ≤ n
less_still m top n less above = omega (arith, less, above)

pub given_more : (links : List Link) (n top : ℕ) → All (λ link. link.0 ≤ top) links → top < n → All (λ link. link.0 ≤ n) (links ++ (n, OfClient) ∷ [])
given_more [] n top all above zero d within = omega arith
given_more [] n top all above (suc k) d within = absurd (omega (arith, within))
given_more (link ∷ links) n top all above zero d within = less_still link.0 top n (all 0 link (omega arith)) above
given_more (link ∷ links) n top all above (suc k) d within = given_more links n top (λ j e inside. all (suc j) e (omega (arith, inside))) above k d (omega (arith, within))
