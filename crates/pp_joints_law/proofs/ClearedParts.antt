-- Which rows are cleared, in the program, as attempts are lost: of each of these the name is noted, and no other row goes. Exchanges stay such as
-- can be asked.
use Rattle.std.proofs.Common.{◌≡◌, ◌≤◌, ◌<◌, refl, sym, subst, ap, ◌∙◌, ℕ, zero, suc, Bool, true, false, not, ◌&&◌, ◌||◌, cond, is_some, length, nat_le, List, [], ◌∷◌, ◌++◌, Option, Some, None, option_map, arith, ◌+◌}
use Rattle.std.proofs.lemmas.Bool.Decides.{nat_tests}
use Rattle.std.proofs.lemmas.Slice.Eq.{bytes_eq-Decides}
use Rattle.std.specs.List.{list_any}
use Rattle.std.specs.Prelude.{bytes_eq, slice_get, count_by}
use Rattle.pp_cache.specs.Memory.{Memory, retired_at}
use Rattle.pp_cache.specs.OnDisk.{outdated_by}
use Rattle.pp_flow.specs.Changes.{Exchanges, entry_of, unplaced, with_errand}
use Rattle.pp_flow.specs.Errands.{attempts_in}
use Rattle.pp_flow.specs.declared.entry.Entry.{Entry}
use Rattle.pp_flow.specs.declared.entry.Exchange.{Exchange}
use Rattle.pp_law.specs.Lists.{Bytes, has_text}
use Rattle.pp_objects.specs.Instances.{Instance, in_slot, is_there, row_of, is_row}
use Rattle.pp_objects.specs.declared.id.ObjectId.{ObjectId}
use Rattle.pp_joints_law.proofs.Askables.{can_end, can_errand, can_left, can_unplaced}
use Rattle.pp_joints_law.proofs.Names.{any_both, names_of}
use Rattle.pp_joints_law.proofs.RowsCleared.{AreTidy, fewer_rows, no_more_rows, rowed_in, rows_left, rows_retired, tidy_left, tidy_retired}
use Rattle.pp_joints_law.proofs.Asks.{Can}
use Rattle.pp_seats.specs.Courses.{lost_one, without_row}
use Rattle.pp_seats.specs.Seats.{brought_to}
use Rattle.pp_seats.specs.declared.seat.Course.{Course}
use Rattle.pp_seats.specs.declared.seat.PassedEnd.TheVariants.{Short}
use Rattle.pp_seats.specs.declared.seat.Seat.{Seat}
use Rattle.pp_state.specs.Ends.{Parts, asked_anew, asked_elsewhere, changed_at, charged, charged_at, charged_where, cleared_key, cleared_of, cut_short, dropped_row, ended, exchange_at, exchange_of, failed, followed_less, forsaken, given_up_row, is_unfilled_at, is_unfilled_by, left, left_place, left_place_at, left_source, lost_attempt, lost_place, may_go_elsewhere, on_seat, on_seat_where, seat_for, source_at, unfollowed, version_at, with_course, without_source}
use Rattle.pp_state.specs.Keys.{key_of}
use Rattle.pp_state.specs.Lines.{first_on, lost_line}
use Rattle.pp_target.specs.Name.{name_of}

-- ---- no row is cleared

pub record Stays (p q : Parts) : Type 0 where
  pub same : q.cache.outdated ≡ p.cache.outdated
  pub tidy : AreTidy p.cache.instances → AreTidy q.cache.instances
  pub rows : AreTidy p.cache.instances → (key : Bytes) → rowed_in key q.cache.instances ≡ rowed_in key p.cache.instances
  pub fewer : count_by is_row q.cache.instances ≤ count_by is_row p.cache.instances
  pub can : Can p.flow → Can q.flow

fewer_same : (xs ys : List Instance) → ys ≡ xs → count_by is_row ys ≤ count_by is_row xs
fewer_same xs ys is = subst (λ (zs : List Instance). count_by is_row zs ≤ count_by is_row xs) (sym is) (omega arith)

le_two : (a b c : ℕ) → a ≤ b → b ≤ c → a ≤ c
le_two a b c one two = omega (arith, one, two)

pub stays_beside : (p q : Parts) → q.cache.instances ≡ p.cache.instances → q.cache.outdated ≡ p.cache.outdated → (Can p.flow → Can q.flow) → Stays p q
stays_beside p q is outdated can = record { same = outdated; tidy = λ tidy. subst AreTidy (sym is) tidy; rows = λ tidy key. ap (λ (xs : List Instance). rowed_in key xs) is; fewer = fewer_same p.cache.instances q.cache.instances is; can = can }

pub itself : (p : Parts) → Stays p p
itself p = stays_beside p p refl refl (λ can. can)

pub stays_then : (p q r : Parts) → Stays p q → Stays q r → Stays p r
stays_then p q r one two = record {
  same = two.same ∙ one.same;
  tidy = λ tidy. two.tidy (one.tidy tidy);
  rows = λ tidy key. two.rows (one.tidy tidy) key ∙ one.rows tidy key;
  fewer = le_two _ _ _ two.fewer one.fewer;
  can = λ can. two.can (one.can can);
}

pub stays_as : (p q r : Parts) → r ≡ q → Stays p q → Stays p r
stays_as p q r is all = subst (λ (o : Parts). Stays p o) (sym is) all

-- what changes is clients alone, or exchanges
pub stays_flow : (p : Parts) (f : Exchanges) → (Can p.flow → Can f) → Stays p (record p { flow = f })
stays_flow p f can = stays_beside p (record p { flow = f }) refl refl can

less_followed : (id : ObjectId) (p : Parts) (seats : List Seat) → Stays p (record p { seats = seats; cache = unfollowed id p.cache })
less_followed id p seats = by (is_there id p.cache.instances && _)
  where
    one : Stays p (record p { seats = seats; cache = followed_less id p.cache })
    one = record {
      same = refl;
      tidy = λ tidy. tidy_left id.slot (in_slot id.slot p.cache.instances) p.cache.instances tidy;
      rows = λ tidy key. rows_left id.slot key p.cache.instances tidy;
      fewer = no_more_rows id.slot (in_slot id.slot p.cache.instances) p.cache.instances;
      can = λ can. can;
    }

    by : (b : Bool) → Stays p (record p { seats = seats; cache = cond b (followed_less id p.cache) p.cache })
    by true = one
    by false = stays_beside p (record p { seats = seats }) refl refl (λ can. can)

pub leaves_source : (i : ℕ) (p : Parts) → Stays p (left_source i p)
leaves_source i p = by (source_at i p)
  where
    by : (o : Option ObjectId) → Stays p (elim o as (λ t. Parts) [ None ↦ p | Some id ↦ record p { seats = changed_at i without_source p.seats; cache = unfollowed id p.cache } ])
    by None = itself p
    by (Some id) = less_followed id p (changed_at i without_source p.seats)

pub stays_ended : (n : ℕ) (p : Parts) → Stays p (ended n p)
stays_ended n p = stays_flow p (ended n p).flow (can_end n p.flow)

pub stays_left : (n : ℕ) (p : Parts) → Stays p (left n p)
stays_left n p = stays_flow p (left n p).flow (can_left n p.flow)

pub forsakes : (i : ℕ) (p : Parts) → Stays p (forsaken i p)
forsakes i p = by (exchange_of i p)
  where
    by : (o : Option Exchange) → Stays p (elim o as (λ t. Parts) [ None ↦ p | Some e ↦ left e.number p ])
    by None = itself p
    by (Some e) = stays_left e.number p

-- ---- some are

pub record ClearsIn (p q : Parts) : Type 0 where
  pub keys : List Bytes
  pub tidy : AreTidy p.cache.instances → AreTidy q.cache.instances
  pub rows : AreTidy p.cache.instances → (key : Bytes) → rowed_in key q.cache.instances ≡ (rowed_in key p.cache.instances && not (has_text key keys))
  pub there : AreTidy p.cache.instances → (key : Bytes) → has_text key keys ≡ true → rowed_in key p.cache.instances ≡ true
  pub grows : length p.cache.outdated ≤ length q.cache.outdated
  -- each of them had a row
  pub few : length q.cache.outdated + count_by is_row q.cache.instances ≤ length p.cache.outdated + count_by is_row p.cache.instances
  pub names : length q.cache.outdated < 2048 → (n : Bytes) → list_any (bytes_eq n) q.cache.outdated ≡ (list_any (bytes_eq n) (names_of keys) || list_any (bytes_eq n) p.cache.outdated)
  pub can : Can p.flow → Can q.flow

and_true : (b : Bool) → b ≡ (b && true)
and_true true = refl
and_true false = refl

le_same : (a b : List Bytes) → b ≡ a → length a ≤ length b
le_same a b is = subst (λ (xs : List Bytes). length a ≤ length xs) (sym is) (omega arith)

pub clears_stay : (p q : Parts) → Stays p q → ClearsIn p q
clears_stay p q all = record {
  keys = [];
  tidy = all.tidy;
  rows = λ tidy key. all.rows tidy key ∙ and_true (rowed_in key p.cache.instances);
  there = λ tidy key has. absurd (cc has);
  grows = le_same p.cache.outdated q.cache.outdated all.same;
  few = omega (arith, all.fewer, ap (λ (ns : List Bytes). length ns) all.same);
  names = λ few n. ap (λ (ns : List Bytes). list_any (bytes_eq n) ns) all.same;
  can = all.can;
}

-- the same names are noted, however many
pub same_named : (p q : Parts) (all : Stays p q) (n : Bytes) → list_any (bytes_eq n) q.cache.outdated ≡ (list_any (bytes_eq n) (names_of (clears_stay p q all).keys) || list_any (bytes_eq n) p.cache.outdated)
unfolding clears_stay
same_named p q all n = ap (λ (ns : List Bytes). list_any (bytes_eq n) ns) all.same

less_then : (a b c : ℕ) → a ≤ b → b < c → a < c
less_then a b c one two = omega (arith, one, two)

behind_two : (a b c : Bool) → ((a && not b) && not c) ≡ (a && not (c || b))
behind_two true b true = by b
  where
    by : (b : Bool) → (not b && false) ≡ false
    by true = refl
    by false = refl
behind_two false b c = refl
behind_two true true false = refl
behind_two true false false = refl

or_three : (a b c : Bool) → (a || (b || c)) ≡ ((a || b) || c)
or_three true b c = refl
or_three false b c = refl

names_joined : (xs ys : List Bytes) → names_of (xs ++ ys) ≡ names_of xs ++ names_of ys
names_joined [] ys = refl
names_joined (x ∷ xs) ys = ap (λ (ns : List Bytes). name_of x ∷ ns) (names_joined xs ys)

first_of : (a b : Bool) → (a && b) ≡ true → a ≡ true
first_of true b is = refl
first_of false b is = absurd (cc is)

pub clears_then : (p q r : Parts) → ClearsIn p q → ClearsIn q r → ClearsIn p r
clears_then p q r one two = record {
  keys = two.keys ++ one.keys;
  tidy = λ tidy. two.tidy (one.tidy tidy);
  rows = λ tidy key.
      two.rows (one.tidy tidy) key ∙ ap (λ (b : Bool). b && not (has_text key two.keys)) (one.rows tidy key) ∙ behind_two (rowed_in key p.cache.instances) (has_text key one.keys) (has_text key two.keys)
      ∙ ap (λ (b : Bool). rowed_in key p.cache.instances && not b) (sym (any_both (λ t. bytes_eq t key) two.keys one.keys));
  there = λ tidy key has. by tidy key (has_text key two.keys) refl (sym (any_both (λ t. bytes_eq t key) two.keys one.keys) ∙ has);
  grows = le_two _ _ _ one.grows two.grows;
  few = le_two _ _ _ two.few one.few;
  names = λ few n.
      two.names few n ∙ ap (λ (b : Bool). list_any (bytes_eq n) (names_of two.keys) || b) (one.names (less_then _ _ _ two.grows few) n) ∙ or_three (list_any (bytes_eq n) (names_of two.keys)) (list_any (bytes_eq n) (names_of one.keys)) (list_any (bytes_eq n) p.cache.outdated)
      ∙ ap (λ (b : Bool). b || list_any (bytes_eq n) p.cache.outdated) (sym (any_both (bytes_eq n) (names_of two.keys) (names_of one.keys)) ∙ sym (ap (λ (ns : List Bytes). list_any (bytes_eq n) ns) (names_joined two.keys one.keys)));
  can = λ can. two.can (one.can can);
}
  where
    by : AreTidy p.cache.instances → (key : Bytes) (b : Bool) → has_text key two.keys ≡ b → (b || has_text key one.keys) ≡ true → rowed_in key p.cache.instances ≡ true
    by tidy key true has some = first_of (rowed_in key p.cache.instances) (not (has_text key one.keys)) (sym (one.rows tidy key) ∙ two.there (one.tidy tidy) key has)
    by tidy key false isnt some = one.there tidy key some

pub clears_as : (p q r : Parts) → r ≡ q → ClearsIn p q → ClearsIn p r
clears_as p q r is all = subst (λ (o : Parts). ClearsIn p o) (sym is) all

-- ---- a key is cleared

few_names : (n : ℕ) → n < 2048 → nat_le 2048 n ≡ false
few_names n few = grind (arith, nat_tests)

or_false : (c : Bool) → (c || false) ≡ c
or_false true = refl
or_false false = refl

any_last : (p : Bytes → Bool) (xs : List Bytes) (y : Bytes) → list_any p (xs ++ y ∷ []) ≡ (p y || list_any p xs)
any_last p xs y = any_both p xs (y ∷ []) ∙ by (list_any p xs) (p y)
  where
    by : (a b : Bool) → (a || (b || false)) ≡ (b || a)
    by true true = refl
    by true false = refl
    by false true = refl
    by false false = refl

one_more : (n other : Bytes) (names : List Bytes) → length names < 2048 → list_any (bytes_eq n) (outdated_by other names) ≡ (bytes_eq n other || list_any (bytes_eq n) names)
one_more n other names few =
    ap (λ (c : Bool). list_any (bytes_eq n) (cond (list_any (bytes_eq other) names || c) names (names ++ other ∷ []))) (few_names (length names) few) ∙ by (list_any (bytes_eq other) names) refl (bytes_eq n other) refl
  where
    by : (a : Bool) → list_any (bytes_eq other) names ≡ a → (b : Bool) → bytes_eq n other ≡ b → list_any (bytes_eq n) (cond (a || false) names (names ++ other ∷ [])) ≡ (b || list_any (bytes_eq n) names)
    by true e true f = ap (λ (t : Bytes). list_any (bytes_eq t) names) ((bytes_eq-Decides n other).0 f) ∙ e
    by true e false f = refl
    by false e b f = any_last (bytes_eq n) names other ∙ ap (λ (c : Bool). c || list_any (bytes_eq n) names) f

longer : (names : List Bytes) (y : Bytes) → length names ≤ length (names ++ y ∷ [])
longer [] y = omega arith
longer (x ∷ xs) y = omega (arith, longer xs y)

no_fewer : (other : Bytes) (names : List Bytes) → length names ≤ length (outdated_by other names)
no_fewer other names = by (list_any (bytes_eq other) names || nat_le 2048 (length names))
  where
    by : (b : Bool) → length names ≤ length (cond b names (names ++ other ∷ []))
    by true = omega arith
    by false = longer names other

last_longer : (names : List Bytes) (y : Bytes) → length (names ++ y ∷ []) ≤ length names + 1
last_longer [] y = omega arith
last_longer (x ∷ xs) y = omega (arith, last_longer xs y)

pub one_longer : (other : Bytes) (names : List Bytes) → length (outdated_by other names) ≤ length names + 1
one_longer other names = by (list_any (bytes_eq other) names || nat_le 2048 (length names))
  where
    by : (b : Bool) → length (cond b names (names ++ other ∷ [])) ≤ length names + 1
    by true = omega arith
    by false = last_longer names other

pub key_cleared : (key : Bytes) (p : Parts) → rowed_in key p.cache.instances ≡ true → ClearsIn p (cleared_key key p)
unfolding retired_at
key_cleared key p has = record {
  keys = key ∷ [];
  tidy = λ tidy. tidy_retired key p.cache.instances tidy;
  rows = λ tidy k. rows_retired key k p.cache.instances tidy has ∙ ap (λ (b : Bool). rowed_in k p.cache.instances && not b) (sym (or_false (bytes_eq key k)));
  there = λ tidy k is. ap (λ (t : Bytes). rowed_in t p.cache.instances) (sym ((bytes_eq-Decides key k).0 (sym (or_false (bytes_eq key k)) ∙ is))) ∙ has;
  grows = no_fewer (name_of key) p.cache.outdated;
  few = omega (arith, fewer_rows key p.cache.instances has, one_longer (name_of key) p.cache.outdated);
  names = λ few n.
      one_more n (name_of key) p.cache.outdated (less_then _ _ _ (no_fewer (name_of key) p.cache.outdated) few) ∙ ap (λ (b : Bool). b || list_any (bytes_eq n) p.cache.outdated) (sym (or_false (bytes_eq n (name_of key))));
  can = λ can. can;
}

-- ---- an attempt is lost

has_row : (e : Exchange) (o : Option Seat) (key : Bytes) (m : Memory) → is_unfilled_by e o (version_at (Some key) m) ≡ true → rowed_in key m.instances ≡ true
has_row e None key m is = absurd (cc is)
has_row e (Some seat) key m is = by (row_of key m.instances) is
  where
    by : (x : Option Instance) → is_unfilled_by e (Some seat) (option_map (λ i. i.version) x) ≡ true → is_some x ≡ true
    by None some = absurd (cc some)
    by (Some i) some = refl

gives_up : (i : ℕ) (e : Exchange) (p : Parts) → ClearsIn p (given_up_row i e p)
unfolding given_up_row
gives_up i e p = by (is_unfilled_at i e p) refl
  where
    dropped : Option Bytes → Parts
    dropped o = left e.number (on_seat i without_row (cleared_of o p))

    behind : (q : Parts) → Stays q (left e.number (on_seat i without_row q))
    behind q = stays_then q (on_seat i without_row q) (left e.number (on_seat i without_row q)) (stays_beside q (on_seat i without_row q) refl refl (λ can. can)) (stays_left e.number (on_seat i without_row q))

    at : (o : Option Bytes) → is_unfilled_by e (slice_get p.seats i) (version_at o p.cache) ≡ true → ClearsIn p (dropped o)
    at None is = clears_stay p (dropped None) (behind p)
    at (Some key) is = clears_then p (cleared_key key p) (dropped (Some key)) (key_cleared key p (has_row e (slice_get p.seats i) key p.cache is)) (clears_stay (cleared_key key p) (dropped (Some key)) (behind (cleared_key key p)))

    by : (b : Bool) → is_unfilled_at i e p ≡ b → ClearsIn p (cond b (dropped_row i e p) p)
    by true is = at (key_of e.number p.flow) is
    by false isnt = clears_stay p p (itself p)

charges : (o : Option ℕ) (cost : Course → Course) (e : Exchange) (p : Parts) → ClearsIn p (charged_at o cost e p)
unfolding charged_at
charges None cost e p = clears_stay p p (itself p)
charges (Some i) cost e p =
    let q : Parts = on_seat i (with_course cost) p in clears_then p q (given_up_row i e q) (clears_stay p q (stays_beside p q refl refl (λ can. can))) (gives_up i e q)

pub loses : (e : Exchange) (p : Parts) → ClearsIn p (lost_attempt e p)
loses e p = by (entry_of e.number p.flow)
  where
    by : (o : Option Entry) → ClearsIn p (elim o as (λ t. Parts) [ None ↦ p | Some x ↦ charged (lost_one (attempts_in x.errand.is_asked_once)) e p ])
    by None = clears_stay p p (itself p)
    by (Some x) = charges (seat_for e p.seats) (lost_one (attempts_in x.errand.is_asked_once)) e p

pub fails : (e : Exchange) (p : Parts) → ClearsIn p (failed e p)
fails e p = charges (seat_for e p.seats) _ e p

-- ---- the connection of an exchange is gone

pub on_one : (o : Option ℕ) (f : Seat → Seat) (p : Parts) → Stays p (on_seat_where o f p)
on_one None f p = itself p
on_one (Some i) f p = stays_beside p (on_seat i f p) refl refl (λ can. can)

stays_cut : (e : Exchange) (p : Parts) → Stays p (cut_short e p)
stays_cut e p = on_one (seat_for e p.seats) (λ seat. record seat { brought = brought_to Short seat.brought }) p

can_anew : (n : ℕ) (f : Exchanges) → Can f → Can (asked_anew n f)
can_anew n f can = by (entry_of n f) refl
  where
    by : (o : Option Entry) → entry_of n f ≡ o → Can (elim o as (λ t. Exchanges) [ None ↦ f | Some x ↦ with_errand n (record x.errand { asked = 0 }) f ])
    by None is = can
    by (Some x) is = can_errand n (record x.errand { asked = 0 }) f x is refl can

goes_elsewhere : (n : ℕ) (p : Parts) → Stays p (asked_elsewhere n p)
goes_elsewhere n p = stays_flow p (asked_elsewhere n p).flow (λ can. can_anew n (unplaced n p.flow) (can_unplaced n p.flow can))

leaves_place : (e : Exchange) (p : Parts) → Stays p (left_place e p)
unfolding left_place
leaves_place e p = by e.headed (may_go_elsewhere e.number p)
  where
    by : (b c : Bool) → Stays p (cond b (ended e.number (cut_short e p)) (cond c (asked_elsewhere e.number p) (ended e.number p)))
    by true c = stays_then p (cut_short e p) (ended e.number (cut_short e p)) (stays_cut e p) (stays_ended e.number (cut_short e p))
    by false true = goes_elsewhere e.number p
    by false false = stays_ended e.number p

loses_place : (n : ℕ) (counts : Bool) (p : Parts) → ClearsIn p (lost_place n counts p)
loses_place n counts p = by (exchange_at n p.flow)
  where
    counted : (e : Exchange) (b : Bool) → ClearsIn p (charged_where b e p)
    counted e true = loses e p
    counted e false = clears_stay p p (itself p)

    by : (o : Option Exchange) → ClearsIn p (left_place_at o counts p)
    by None = clears_stay p p (itself p)
    by (Some e) = let q : Parts = charged_where counts e p in clears_then p q (left_place e q) (counted e counts) (clears_stay q (left_place e q) (leaves_place e q))

pub loses_line : (most k : ℕ) (counts : Bool) (p : Parts) → ClearsIn p (lost_line most k counts p)
loses_line zero k counts p = clears_stay p p (itself p)
loses_line (suc more) k counts p = by (first_on k p) (λ q. loses_line more k counts q)
  where
    by : (o : Option ℕ) → ((q : Parts) → ClearsIn q (lost_line more k counts q)) → ClearsIn p (elim o as (λ t. Parts) [ None ↦ p | Some n ↦ lost_line more k counts (lost_place n counts p) ])
    by None later = clears_stay p p (itself p)
    by (Some n) later = let q : Parts = lost_place n counts p in clears_then p q (lost_line more k counts q) (loses_place n counts p) (later q)
