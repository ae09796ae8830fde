-- Exchanges get their places, one behind the other.
use Rattle.std.proofs.Common.{◌≡◌, ◌<◌, ◌≤◌, ◌-◌, ◌+◌, ◌↔◌, ◌==◌, not, ℕ, zero, suc, Bool, true, false, cond, nat_lt, is_ok, is_some, IfOk, IsErr, OnErr, List, [], ◌∷◌, ◌++◌, Option, Some, None, Result, Ok, Err, append_assoc, le_refl, refl, sym, ap, subst, ◌∙◌, arith}
use Rattle.std.specs.Prelude.{count_by}
use Rattle.std.proofs.lemmas.Bool.Decides.{nat_tests}
use Rattle.std.specs.List.{find}
use Rattle.std.proofs.lemmas.List.{append-nil}
use Rattle.pp_links.specs.Failures.{fails}
use Rattle.pp_links.specs.Leading.{LeadsOn}
use Rattle.pp_links.specs.Links.{Link, is_link, max_links, without}
use Rattle.pp_links.proofs.FailureLemmas.{counted_none, counted_one, counted_then, none_in_both}
use Rattle.pp_places.specs.Around.{Around, Moment, with_sides}
use Rattle.pp_flow.specs.Changes.{entry_of}
use Rattle.pp_flow.specs.declared.entry.Entry.{Entry}
use Rattle.pp_peers.specs.declared.placing.Placed.{Placed}
use Rattle.pp_desk.specs.Closings.{with_parts}
use Rattle.pp_state.specs.Astray.{astray_where}
use Rattle.pp_places.specs.Placing.{ArePlaced, IsDialledFor, IsDialledTo, IsPlaced, IsPlacedAs, dial_log, astray_behind, dials_to, goes_on_behind, host_of, next_waiting, place_for}
use Rattle.pp_desk.specs.Shutting.{closed_as, closings}
use Rattle.pp_desk.proofs.ShuttingLemmas.{none_added}
use Rattle.pp_world.specs.Log.{Appends, AppendsAll, Log, Rises, Told}
use Rattle.pp_world.specs.Wire.{by_side, dial_happening}
use Rattle.pp_world.specs.declared.event.Side.{Side}
use Rattle.pp_world.specs.declared.event.Side.TheVariants.{Client, Origin}
use Rattle.pp_world.specs.declared.happening.Happening.TheVariants.{Dialled, Dropped, Shut, Undialled}
use Rattle.pp_world.specs.declared.wire.WireFault.{WireFault}

-- ---- an ask is taken while there are fewer than there may be

pub pushed_ok : {A E : Type 0} (r : Result A E) (n m : ℕ) → IsErr r ↔ (n ≡ m) → is_ok r ≡ not (n == m)
pushed_ok (Ok x) n m full = by (n == m) refl
  where
    by : (b : Bool) → (n == m) ≡ b → true ≡ not b
    by true same = let bad : false ≡ true = full.1 (grind (arith, nat_tests, same)) in sym bad
    by false other = refl
pushed_ok (Err e) n m full =
    let same : n ≡ m = full.0 refl in
    let is : (n == m) ≡ true = grind (arith, nat_tests, same) in
    ap not (sym is)

-- ---- a call leads on

pub told_then : {old mid new : Option Log} (one two : Log) → AppendsAll old mid (λ l. one) → AppendsAll mid new (λ l. two) → AppendsAll old new (λ l. one ++ two)
told_then one two first second = record {
  was = λ l is.
      let later = second.was l is in
      let earlier = first.was later.0 later.1 in
      (earlier.0, earlier.1, later.2 ∙ ap (λ (b : Log). b ++ two) earlier.2 ∙ append_assoc earlier.0 one two);
}

-- without a word
pub leads_silently : {Step : Around → Log → Around → Type 0} {x y : Around} {old new : Option Log} {before now : ℕ} → new ≡ old → before ≤ now → Step x [] y → LeadsOn Step x y old new before now
leads_silently same more is = record { added = []; is = is; told = none_added [] same refl; counted = counted_none [] refl more }

-- ---- a dial

below_of : (n m : ℕ) → nat_lt n m ≡ true → n < m
below_of n m is = grind (arith, nat_tests, is)

above_of : (n m : ℕ) → nat_lt n m ≡ false → m ≤ n
above_of n m is = grind (arith, nat_tests, is)

pub dial_told : {old new : Option Log} (n : ℕ) (host : List ℕ) (port : ℕ) (answer : Result ℕ WireFault) → IfOk answer (λ k. Appends old new (λ l. Dialled k host port)) → (max_links ≤ n → IsErr answer) → (max_links ≤ n → new ≡ old)
    → (n < max_links → OnErr answer (Appends old new (λ l. Undialled host port))) → AppendsAll old new (λ l. dial_log n host port answer)
dial_told {old} {new} n host port answer reached full same refused = by (nat_lt n max_links) refl answer reached full refused
  where
    by : (b : Bool) → nat_lt n max_links ≡ b → (a : Result ℕ WireFault) → IfOk a (λ k. Appends old new (λ l. Dialled k host port)) → (max_links ≤ n → IsErr a) → (n < max_links → OnErr a (Appends old new (λ l. Undialled host port)))
        → AppendsAll old new (λ l. cond b (dial_happening host port a ∷ []) [])
    by true below (Ok k) reached full refused = reached
    by true below (Err fault) reached full refused = refused (below_of n max_links below)
    by false above a reached full refused = none_added [] (same (above_of n max_links above)) refl

-- the outside failed where it was refused
pub dial_counted : {new : Option Log} {before now : ℕ} (n : ℕ) (host : List ℕ) (port : ℕ) (answer : Result ℕ WireFault) → (n < max_links → OnErr answer (Rises new before now)) → before ≤ now → Told new (λ l. before + count_by fails (dial_log n host port answer) ≤ now)
dial_counted {new} {before} {now} n host port answer refused more = by (nat_lt n max_links) refl answer refused
  where
    by : (b : Bool) → nat_lt n max_links ≡ b → (a : Result ℕ WireFault) → (n < max_links → OnErr a (Rises new before now)) → Told new (λ l. before + count_by fails (cond b (dial_happening host port a ∷ []) []) ≤ now)
    by true below (Ok k) refused = counted_none (Dialled k host port ∷ []) refl more
    by true below (Err fault) refused = counted_one before now (refused (below_of n max_links below))
    by false above a refused = counted_none [] refl more

-- ---- a closing is no failure

closed_alone : (side : Side) (id : ℕ) → count_by fails (by_side (Some side) (Shut id) (Dropped id) ∷ []) ≡ 0
closed_alone Client id = refl
closed_alone Origin id = refl

closed_well : (o : Option Link) → count_by fails (closed_as o) ≡ 0
closed_well None = refl
closed_well (Some link) = closed_alone link.1 link.0

pub closings_fail_not : (ids : List ℕ) (links : List Link) → count_by fails (closings ids links) ≡ 0
closings_fail_not [] links = refl
closings_fail_not (id ∷ ids) links = none_in_both (closed_as (find (is_link id) links)) (closings ids (without id links)) (closed_well (find (is_link id) links)) (closings_fail_not ids (without id links))

-- ---- one behind the other

-- so far i of so many steps were made
pub record AreSoFar (most i : ℕ) (m : Moment) (after : Option ℕ) (x mid : Around) (old log : Option Log) (before now : ℕ) : Type 0 where
  pub added : Log
  pub told : AppendsAll old log (λ l. added)
  pub counted : Told log (λ l. before + count_by fails added ≤ now)
  pub on : (rest : Log) (y : Around) → ArePlaced (most - i) m after mid rest y → ArePlaced most m None x (added ++ rest) y

pub none_so_far : (most : ℕ) (m : Moment) (x : Around) (log : Option Log) (count : ℕ) → AreSoFar most 0 m None x x log log count count
none_so_far most m x log count = record { added = []; told = none_added [] refl refl; counted = counted_none [] refl (le_refl count); on = λ rest y all. subst (λ (n : ℕ). ArePlaced n m None x rest y) (none_less most) all }
  where
    none_less : (most : ℕ) → most - 0 ≡ most
    none_less most = grind (arith)

one_less : (most i : ℕ) → i < most → most - i ≡ suc (most - (i + 1))
one_less most i less = grind (arith)

abbrev next_by : ℕ → Moment → Around → Log → Around → Option ℕ → Type 0
next_by more m x log y o = elim o as (λ c. Type 0) [
  | None ↦ (log ≡ []) × (y ≡ x)
  | Some number ↦ (next : Around) × (first : Log) × (rest : Log) × (log ≡ first ++ rest) × IsPlaced m number x first next × ArePlaced more m (goes_on_behind (place_for m.limits number x.sides) number) next rest y
]

placed_next : (more : ℕ) (m : Moment) (number : ℕ) (after : Option ℕ) (x next y : Around) (first rest : Log) → next_waiting after x.sides ≡ Some number → IsPlaced m number x first next
    → ArePlaced more m (goes_on_behind (place_for m.limits number x.sides) number) next rest y → ArePlaced (suc more) m after x (first ++ rest) y
unfolding ArePlaced
placed_next more m number after x next y first rest waits is others = subst (λ (o : Option ℕ). next_by more m x (first ++ rest) y o) (sym waits) (next, first, rest, refl, is, others)

pub one_more_placed : (most i : ℕ) (m : Moment) (number : ℕ) (after behind : Option ℕ) (x mid new : Around) (old log log' : Option Log) (first counts now : ℕ) → i < most → AreSoFar most i m after x mid old log first counts → next_waiting after mid.sides ≡ Some number
    → LeadsOn (IsPlaced m number) mid new log log' counts now → behind ≡ goes_on_behind (place_for m.limits number mid.sides) number → AreSoFar most (i + 1) m behind x new old log' first now
one_more_placed most i m number after behind x mid new old log log' first counts now less before waits led goes = record {
  added = before.added ++ led.added;
  told = told_then before.added led.added before.told led.told;
  counted = counted_then first counts now before.added led.added before.counted led.told led.counted;
  on = λ rest y others.
      let here : ArePlaced (suc (most - (i + 1))) m after mid (led.added ++ rest) y = placed_next (most - (i + 1)) m number after mid new y led.added rest waits led.is (subst (λ (o : Option ℕ). ArePlaced (most - (i + 1)) m o new rest y) goes others) in
      subst (λ (l : Log). ArePlaced most m None x l y) (sym (append_assoc before.added led.added rest))
      (before.on (led.added ++ rest) y (subst (λ (n : ℕ). ArePlaced n m after mid (led.added ++ rest) y) (sym (one_less most i less)) here));
}

placed_over : (more : ℕ) (m : Moment) (after : Option ℕ) (x : Around) → next_waiting after x.sides ≡ None → ArePlaced more m after x [] x
unfolding ArePlaced
placed_over zero m after x none = (refl, ap (λ (o : Option ℕ). with_sides (with_parts (astray_where (is_some o))) x) (sym none))
placed_over (suc more) m after x none = subst (λ (o : Option ℕ). next_by more m x [] x o) (sym none) (refl, refl)

-- none waits any more
pub all_placed : (most i : ℕ) (m : Moment) (after : Option ℕ) (x mid : Around) (old log : Option Log) (first counts : ℕ) → AreSoFar most i m after x mid old log first counts → next_waiting after mid.sides ≡ None → LeadsOn (ArePlaced most m None) x mid old log first counts
all_placed most i m after x mid old log first counts before none = record {
  added = before.added;
  is = subst (λ (l : Log). ArePlaced most m None x l mid) (append-nil before.added) (before.on [] mid (placed_over (most - i) m after mid none));
  told = before.told;
  counted = before.counted;
}

none_left : (most i : ℕ) → most ≤ i → most - i ≡ 0
none_left most i all = grind (arith)

none_more : (m : Moment) (after : Option ℕ) (x : Around) → ArePlaced 0 m after x [] (astray_behind after x)
unfolding ArePlaced
none_more m after x = (refl, refl)

-- or there were as many as may be, and one may be left
pub most_placed : (most i : ℕ) (m : Moment) (after : Option ℕ) (x mid : Around) (old log : Option Log) (first counts : ℕ) → most ≤ i → AreSoFar most i m after x mid old log first counts → LeadsOn (ArePlaced most m None) x (astray_behind after mid) old log first counts
most_placed most i m after x mid old log first counts all before = record {
  added = before.added;
  is =
      let y : Around = astray_behind after mid in
      subst (λ (l : Log). ArePlaced most m None x l y) (append-nil before.added) (before.on [] y (subst (λ (n : ℕ). ArePlaced n m after mid [] y) (sym (none_left most i all)) (none_more m after mid)));
  told = before.told;
  counted = before.counted;
}

-- ---- one place

pub as_placed : (m : Moment) (number : ℕ) (x : Around) (log : Log) (y : Around) (placed : Placed) → placed ≡ place_for m.limits number x.sides → IsPlacedAs placed m number x log y → IsPlaced m number x log y
as_placed m number x log y placed at is = subst (λ (p : Placed). IsPlacedAs p m number x log y) at is

pub dialled_for : (m : Moment) (number : ℕ) (x : Around) (log : Log) (y : Around) (o : Option Entry) → o ≡ entry_of number x.sides.parts.flow → IsDialledFor m number o x log y → IsDialledFor m number (entry_of number x.sides.parts.flow) x log y
dialled_for m number x log y o at is = subst (λ (e : Option Entry). IsDialledFor m number e x log y) at is

pub dialled_to : (m : Moment) (number : ℕ) (e : Entry) (x : Around) (log : Log) (y : Around) (o : Option (List ℕ)) → o ≡ dials_to (host_of e) x.sides.peers → IsDialledTo m number e o x log y → IsDialledTo m number e (dials_to (host_of e) x.sides.peers) x log y
dialled_to m number e x log y o at is = subst (λ (host : Option (List ℕ)). IsDialledTo m number e host x log y) at is
