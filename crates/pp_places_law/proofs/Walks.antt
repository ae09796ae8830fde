-- The law goes through all exchanges, and the turn from one that waits to the next: both come to the same.
use Rattle.std.proofs.Common.{◌≡◌, ◌≤◌, ◌+◌, ◌<◌, refl, sym, subst, ap, ap₂, ◌∙◌, ℕ, Bool, true, false, not, ◌==◌, cond, nat_lt, find, filter, map, List, [], ◌∷◌, Option, Some, None, arith}
use Rattle.std.proofs.lemmas.Bool.Decides.{nat_tests}
use Rattle.std.specs.Prelude.{is_some, option_and_then, ⊤}
use Rattle.pp_cache_law.specs.Pairs.{AreAll}
use Rattle.pp_flow.specs.Changes.{is_after}
use Rattle.pp_flow.specs.declared.entry.Entry.{Entry}
use Rattle.pp_flow_law.specs.Tables.{AreGiven, has_none}
use Rattle.pp_law.specs.Connections.{AllPlaced, Placement, WaitsDial, WaitsDrop, exchange, if_unplaced, is_exchange, on_conn, on_exchange, place_each, place_for, put_on}
use Rattle.pp_law.specs.State.{State, Exchange}
use Rattle.pp_peers.specs.declared.placing.Placed.{Placed}
use Rattle.pp_peers.specs.declared.placing.Placed.TheVariants.{On, Dial, CloseThenDial, Wait}
use Rattle.pp_seats_law.specs.Exchanges.{ShowsExchange}
use Rattle.pp_places_law.specs.Places.{IsUnplaced}

-- ---- those behind one

abbrev pub numbers_of : List Exchange → List ℕ
numbers_of es = map (λ (e : Exchange). e.number) es

abbrev pub is_behind : Option ℕ → Exchange → Bool
is_behind None e = true
is_behind (Some n) e = nat_lt n e.number

abbrev pub behind : Option ℕ → List Exchange → List ℕ
behind after es = numbers_of (filter (is_behind after) es)

abbrev IsBelow : Option ℕ → ℕ → Type 0
IsBelow None low = ⊤
IsBelow (Some n) low = n < low

is_below : (after : Option ℕ) (low : ℕ) (e : Exchange) → IsBelow after low → low ≤ e.number → is_behind after e ≡ true
is_below None low e below less = refl
is_below (Some n) low e below less = lt n e.number (omega (arith, below, less))
  where
    lt : (m k : ℕ) → m < k → nat_lt m k ≡ true
    lt m k is = grind (arith, nat_tests)

below_more : (after : Option ℕ) (low m : ℕ) → IsBelow after low → low ≤ m → IsBelow after (m + 1)
below_more None low m below less = tt
below_more (Some n) low m below less = omega (arith, below, less)

all_behind : (after : Option ℕ) (low next : ℕ) (es : List Exchange) → AreGiven low next (numbers_of es) → IsBelow after low → behind after es ≡ numbers_of es
all_behind after low next [] given below = refl
all_behind after low next (e ∷ es) given below =
    ap (λ (b : Bool). numbers_of (cond b (e ∷ filter (is_behind after) es) (filter (is_behind after) es))) (is_below after low e below given.0)
    ∙ ap (λ (ns : List ℕ). e.number ∷ ns) (all_behind after (e.number + 1) next es given.1 (below_more after low e.number below given.0))

-- ---- by their numbers they are found

abbrev AreIn : List Exchange → List Exchange → Type 0
AreIn es [] = ⊤
AreIn es (d ∷ ds) = (find (is_exchange d.number) es ≡ Some d) × AreIn es ds

off : (m low n : ℕ) → m + 1 ≤ low → low ≤ n → (m == n) ≡ false
off m low n one two = isnt m n (omega (arith, one, two))
  where
    isnt : (a b : ℕ) → a < b → (a == b) ≡ false
    isnt a b less = grind (arith, nat_tests)

more_in : (e : Exchange) (es : List Exchange) (low next : ℕ) (ds : List Exchange) → e.number + 1 ≤ low → AreGiven low next (numbers_of ds) → AreIn es ds → AreIn (e ∷ es) ds
more_in e es low next [] less given all = tt
more_in e es low next (d ∷ ds) less given all = (
  ap (λ (b : Bool). cond b (Some e) (find (is_exchange d.number) es)) (off e.number low d.number less given.0) ∙ all.0,
  more_in e es (d.number + 1) next ds (omega (arith, less, given.0)) given.1 all.1,
)

all_in : (low next : ℕ) (es : List Exchange) → AreGiven low next (numbers_of es) → AreIn es es
all_in low next [] given = tt
all_in low next (e ∷ es) given = (
  ap (λ (b : Bool). cond b (Some e) (find (is_exchange e.number) es)) (itself e.number),
  more_in e es (e.number + 1) next es (omega arith) given.1 (all_in (e.number + 1) next es given.1),
)
  where
    itself : (n : ℕ) → (n == n) ≡ true
    itself n = grind (arith, nat_tests)

-- ---- one that has a place is passed over, and one that has none gets one

skip_by : (t : State) (e : Exchange) (ns : List ℕ) (o : Option ℕ) → e.place ≡ o → is_some o ≡ true
    → (elim (elim o as (λ c. Option Exchange) [ Some k ↦ None | None ↦ Some e ]) as (λ c. Placement) [
      | None ↦ place_each ns t
      | Some d ↦ elim (place_for t d) as (λ c. Placement) [
        | On k ↦ place_each ns (put_on e.number k t)
        | Wait ↦ place_each ns t
        | Dial ↦ record { state = t; pause = WaitsDial d }
        | CloseThenDial k ↦ record { state = t; pause = WaitsDrop k d }
      ]
    ]) ≡ place_each ns t
skip_by t e ns None is has = absurd (let bad : false ≡ true = has in cc bad)
skip_by t e ns (Some k) is has = refl

placed_some : (b : Bool) → not b ≡ false → b ≡ true
placed_some true is = refl
placed_some false is = absurd (let bad : true ≡ false = is in cc bad)

abbrev pub by_place : State → List ℕ → ℕ → Exchange → Placed → Placement
by_place t ns n d w = elim w as (λ c. Placement) [
  | On k ↦ place_each ns (put_on n k t)
  | Wait ↦ place_each ns t
  | Dial ↦ record { state = t; pause = WaitsDial d }
  | CloseThenDial k ↦ record { state = t; pause = WaitsDrop k d }
]

abbrev pub by_one : State → List ℕ → ℕ → Option Exchange → Placement
by_one t ns n o = elim o as (λ c. Placement) [ None ↦ place_each ns t | Some d ↦ by_place t ns n d (place_for t d) ]

skipped : (t : State) (e : Exchange) (ns : List ℕ) → exchange t e.number ≡ Some e → has_none e ≡ false → place_each (e.number ∷ ns) t ≡ place_each ns t
skipped t e ns there has =
    ap (λ (o : Option Exchange). by_one t ns e.number (option_and_then if_unplaced o)) there ∙ skip_by t e ns e.place refl (placed_some (is_some e.place) has)

pub stops_at : (t : State) (e : Exchange) (ns : List ℕ) (w : Placed) → IsUnplaced t e → place_for t e ≡ w → place_each (e.number ∷ ns) t ≡ by_place t ns e.number e w
stops_at t e ns w un is =
    ap (λ (o : Option Exchange). by_one t ns e.number (option_and_then if_unplaced o)) un.there
    ∙ ap (λ (o : Option ℕ). by_one t ns e.number (elim o as (λ c. Option Exchange) [ Some k ↦ None | None ↦ Some e ])) un.waits
    ∙ ap (λ (v : Placed). by_place t ns e.number e v) is

-- ---- the next

abbrev pub AllThere : State → List Exchange → Type 0
AllThere t [] = ⊤
AllThere t (e ∷ es) = (exchange t e.number ≡ Some e) × AllThere t es

pub record Next (number : ℕ → ℕ) (t : State) (after : Option ℕ) (low : ℕ) (es : List Exchange) (x : Entry) : Type 0 where
  pub known : Exchange
  pub un : IsUnplaced t known
  pub shows : ShowsExchange number x known
  pub above : low ≤ known.number
  pub walks : place_each (behind after es) t ≡ place_each (known.number ∷ behind (Some known.number) es) t

abbrev pub IsNext : (ℕ → ℕ) → State → Option ℕ → ℕ → List Exchange → Option Entry → Type 0
IsNext number t after low es None = place_each (behind after es) t ≡ record { state = t; pause = AllPlaced }
IsNext number t after low es (Some x) = Next number t after low es x

-- with one before them, that is passed over
not_behind : (n : ℕ) (e : Exchange) → e.number ≤ n → nat_lt n e.number ≡ false
not_behind n e less = ge n e.number less
  where
    ge : (a b : ℕ) → b ≤ a → nat_lt a b ≡ false
    ge a b is = grind (arith, nat_tests)

lower : (a b c : ℕ) → a ≤ b → b + 1 ≤ c → a ≤ c
lower a b c one two = omega (arith, one, two)

lower_still : (b c : ℕ) → b + 1 ≤ c → b ≤ c
lower_still b c one = omega (arith, one)

one_more : (number : ℕ → ℕ) (t : State) (after : Option ℕ) (low : ℕ) (e : Exchange) (es : List Exchange) (o : Option Entry) → low ≤ e.number → place_each (behind after (e ∷ es)) t ≡ place_each (behind after es) t
    → IsNext number t after (e.number + 1) es o → IsNext number t after low (e ∷ es) o
one_more number t after low e es None less same next = same ∙ next
one_more number t after low e es (Some x) less same next = record {
  known = next.known;
  un = next.un;
  shows = next.shows;
  above = lower low e.number next.known.number less next.above;
  walks =
      same ∙ next.walks
      ∙ sym (ap (λ (b : Bool). place_each (next.known.number ∷ numbers_of (cond b (e ∷ filter (is_behind (Some next.known.number)) es) (filter (is_behind (Some next.known.number)) es))) t)
      (not_behind next.known.number e (lower_still e.number next.known.number next.above)));
}

same_after : (after : Option ℕ) (w : Entry) (e : Exchange) → w.exchange.number ≡ e.number → is_after after w ≡ is_behind after e
same_after None w e same = refl
same_after (Some n) w e same = ap (λ (m : ℕ). nat_lt n m) same

none_place : (o : Option ℕ) → not (is_some o) ≡ true → o ≡ None
none_place None is = refl
none_place (Some k) is = absurd (let bad : false ≡ true = is in cc bad)

pub walks : (number : ℕ → ℕ) (t : State) (after : Option ℕ) (low next : ℕ) (es : List Exchange) (ws : List Entry) → AreGiven low next (numbers_of es) → AllThere t es → AreAll (ShowsExchange number) ws (filter has_none es)
    → IsNext number t after low es (find (is_after after) ws)
walks number t after low next [] [] given there all = refl
walks number t after low next [] (w ∷ ws) given there all = absurd all
walks number t after low next (e ∷ es) ws given there all = by (has_none e) refl all (λ vs rest. walks number t after (e.number + 1) next es vs given.1 there.1 rest)
  where
    behind_all : is_behind after e ≡ true → behind after es ≡ behind (Some e.number) (e ∷ es)
    behind_all is =
        all_behind after (e.number + 1) next es given.1 (at after is)
        ∙ sym (ap (λ (b : Bool). numbers_of (cond b (e ∷ filter (is_behind (Some e.number)) es) (filter (is_behind (Some e.number)) es))) (not_behind e.number e (omega arith))
        ∙ all_behind (Some e.number) (e.number + 1) next es given.1 (omega arith))
      where
        at : (o : Option ℕ) → is_behind o e ≡ true → IsBelow o (e.number + 1)
        at None so = tt
        at (Some n) so = more n e.number so
          where
            more : (a b : ℕ) → nat_lt a b ≡ true → a < b + 1
            more a b so = let less : a < b = grind (arith, nat_tests) in omega (arith, less)

    passed : (b : Bool) → is_behind after e ≡ b → has_none e ≡ false → place_each (numbers_of (cond b (e ∷ filter (is_behind after) es) (filter (is_behind after) es))) t ≡ place_each (behind after es) t
    passed true is has = skipped t e (behind after es) there.0 has
    passed false is has = refl

    not_yet : is_behind after e ≡ false → place_each (behind after (e ∷ es)) t ≡ place_each (behind after es) t
    not_yet is = ap (λ (b : Bool). place_each (numbers_of (cond b (e ∷ filter (is_behind after) es) (filter (is_behind after) es))) t) is

    here : (w : Entry) → ShowsExchange number w e → has_none e ≡ true → is_behind after e ≡ true → Next number t after low (e ∷ es) w
    here w shows none is = record {
      known = e;
      un = record { there = there.0; waits = none_place e.place none };
      shows = shows;
      above = given.0;
      walks =
          ap (λ (b : Bool). place_each (numbers_of (cond b (e ∷ filter (is_behind after) es) (filter (is_behind after) es))) t) is
          ∙ ap (λ (ns : List ℕ). place_each (e.number ∷ ns) t) (behind_all is);
    }

    first : (w : Entry) (vs : List Entry) → ShowsExchange number w e → AreAll (ShowsExchange number) vs (filter has_none es) → has_none e ≡ true → (b : Bool) → is_behind after e ≡ b → ((vs : List Entry) → AreAll (ShowsExchange number) vs (filter has_none es) → IsNext number t after (e.number + 1) es (find (is_after after) vs))
        → IsNext number t after low (e ∷ es) (cond b (Some w) (find (is_after after) vs))
    first w vs shows rest none true is again = here w shows none is
    first w vs shows rest none false is again = one_more number t after low e es (find (is_after after) vs) given.0 (not_yet is) (again vs rest)

    waiting : (vs : List Entry) → AreAll (ShowsExchange number) vs (e ∷ filter has_none es) → has_none e ≡ true → ((vs : List Entry) → AreAll (ShowsExchange number) vs (filter has_none es) → IsNext number t after (e.number + 1) es (find (is_after after) vs)) → IsNext number t after low (e ∷ es) (find (is_after after) vs)
    waiting [] both none again = absurd both
    waiting (w ∷ vs) both none again =
        subst (λ (b : Bool). IsNext number t after low (e ∷ es) (cond b (Some w) (find (is_after after) vs))) (sym (same_after after w e both.0.number)) (first w vs both.0 both.1 none (is_behind after e) refl again)

    by : (b : Bool) → has_none e ≡ b → AreAll (ShowsExchange number) ws (cond b (e ∷ filter has_none es) (filter has_none es)) → ((vs : List Entry) → AreAll (ShowsExchange number) vs (filter has_none es) → IsNext number t after (e.number + 1) es (find (is_after after) vs)) → IsNext number t after low (e ∷ es) (find (is_after after) ws)
    by true none both again = waiting ws both none again
    by false has rest again = one_more number t after low e es (find (is_after after) ws) given.0 (passed (is_behind after e) refl has) (again ws rest)

there_of : (t : State) (es : List Exchange) → AreIn t.exchanges es → AllThere t es
there_of t [] all = tt
there_of t (e ∷ es) all = (all.0, there_of t es all.1)

pub all_there : (t : State) (next : ℕ) → AreGiven 0 next (numbers_of t.exchanges) → AllThere t t.exchanges
all_there t next given = there_of t t.exchanges (all_in 0 next t.exchanges given)

-- ---- from the first, and behind one that got its place

pub from_first : (next : ℕ) (es : List Exchange) → AreGiven 0 next (numbers_of es) → behind None es ≡ numbers_of es
from_first next es given = all_behind None 0 next es given tt

behind_kept : (after : Option ℕ) (f : Exchange → Exchange) (es : List Exchange) → ((e : Exchange) → (f e).number ≡ e.number) → behind after (map f es) ≡ behind after es
behind_kept after f [] same = refl
behind_kept after f (e ∷ es) same =
    by (is_behind after (f e)) (is_behind after e) (at after) (behind_kept after f es same)
  where
    at : (o : Option ℕ) → is_behind o (f e) ≡ is_behind o e
    at None = refl
    at (Some n) = ap (λ (m : ℕ). nat_lt n m) (same e)

    by : (b c : Bool) → b ≡ c → behind after (map f es) ≡ behind after es
        → numbers_of (cond b (f e ∷ filter (is_behind after) (map f es)) (filter (is_behind after) (map f es))) ≡ numbers_of (cond c (e ∷ filter (is_behind after) es) (filter (is_behind after) es))
    by true true is rest = ap₂ (λ (n : ℕ) (ns : List ℕ). n ∷ ns) (same e) rest
    by true false is rest = absurd cc
    by false true is rest = absurd cc
    by false false is rest = rest

pub behind_put : (after : Option ℕ) (n k : ℕ) (t : State) → behind after (put_on n k t).exchanges ≡ behind after t.exchanges
unfolding put_on on_conn on_exchange
behind_put after n k t = behind_kept after (λ e. elim (is_exchange n e) as (λ c. Exchange) [ true ↦ record e { place = Some k; asked = 0 } | false ↦ e ]) t.exchanges (λ e. by e (is_exchange n e))
  where
    by : (e : Exchange) (b : Bool) → (elim b as (λ c. Exchange) [ true ↦ record e { place = Some k; asked = 0 } | false ↦ e ]).number ≡ e.number
    by e true = refl
    by e false = refl
