-- The first of those that are shared.
use Rattle.std.proofs.Common.{◌≡◌, ◌<◌, ◌≤◌, ◌+◌, ◌⊎◌, inl, inr, refl, sym, subst, ap, ap₂, ◌∙◌, ℕ, Bool, true, false, not, ◌==◌, ◌&&◌, ◌||◌, cond, find, min, List, [], ◌∷◌, ◌++◌, Option, Some, None, option_map, arith}
use Rattle.std.specs.Prelude.{bytes_eq, nat_lt}
use Rattle.std.specs.List.{cons_option, filter_map, fold, list_any, reduce}
use Rattle.std.proofs.lemmas.Bool.{cases_lt}
use Rattle.std.proofs.lemmas.Bool.Decides.{nat_tests}
use Rattle.pp_cache_law.proofs.Finds.{find_passes}
use Rattle.pp_cache_law.proofs.Numbers.{some_is, true_false}
use Rattle.pp_flow.specs.Changes.{Exchanges, entry_of}
use Rattle.pp_flow.specs.Entries.{is_number}
use Rattle.pp_flow.specs.declared.entry.Aim.{Aim}
use Rattle.pp_flow.specs.declared.entry.Aim.TheVariants.{Own as OfItself, Hole, Pass}
use Rattle.pp_flow.specs.declared.entry.Entry.{Entry}
use Rattle.pp_flow.specs.declared.errand.Kind.{Kind}
use Rattle.pp_flow.specs.declared.errand.Kind.TheVariants.{Whole, Range, Hole as AsHole, Check, Pass as AsPassed}
use Rattle.pp_flow_law.proofs.Entries.{none_some, same_as, same_number}
use Rattle.pp_flow_law.proofs.Exchanges.{none_below, numbers_of}
use Rattle.pp_flow_law.proofs.Standing.{IsShown, is_shown}
use Rattle.pp_flow_law.specs.Tables.{AreGiven, Leaving, ShowsFlow}
use Rattle.pp_law.specs.Connections.{is_exchange}
use Rattle.pp_law.specs.Lists.{Bytes}
use Rattle.pp_law.specs.Sharing.{is_shared as is_shared_by}
use Rattle.pp_law.specs.Stages.{is_headed, is_own as is_own_by}
use Rattle.pp_law.specs.State.{State, Exchange, Aim as ItsAim, Through, Own, Filling}
use Rattle.pp_seats_law.proofs.Entries.{exchanges}
use Rattle.pp_seats_law.specs.Exchanges.{ShowsExchange, is_ranged_in}
use Rattle.pp_seats_law.specs.Fates.{aim_of}
use Rattle.pp_decide.specs.Sharing.{asks_part, is_own, is_shared, is_unanswered, shared_number}
use Rattle.pp_target.specs.Key.{text_of}
use Rattle.pp_turns_law.proofs.AllCome.{IsKept, any_alike, any_by, entry_among, found_itself, is_kept, known_itself, none_of_them}
use Rattle.pp_turns_law.specs.Sharing.{AwaitedIsTheLaws, SharedAsksAreTheLaws}

-- ---- one exchange

part_same : (kind : Kind) → asks_part kind ≡ is_ranged_in kind
part_same Whole = refl
part_same (Range first last) = refl
part_same (AsHole first last tag) = refl
part_same (Check tag) = refl
part_same AsPassed = refl

abbrev own_in : ItsAim → Bool
own_in aim = elim aim as (λ a. Bool) [ Through ↦ false | Own ↦ true | Filling v from to ↦ false ]

own_same : (aim : Aim) → is_own aim ≡ own_in (aim_of aim)
own_same OfItself = refl
own_same (Hole v from to) = refl
own_same Pass = refl

where_own : (own headed part same : Bool) → (own && not headed && not part && same) ≡ (elim own as (λ b. Bool) [ true ↦ not headed && not part && same | false ↦ false ])
where_own true headed part same = refl
where_own false headed part same = refl

pub shared_same : (number : ℕ → ℕ) (key : Bytes) (x : Entry) (e : Exchange) → ShowsExchange number x e → is_shared key x ≡ is_shared_by key e
shared_same number key x e shows =
    ap₂ (λ (own headed : Bool). own && not headed && not (asks_part x.errand.kind) && bytes_eq x.key.items key) (own_same x.exchange.aim ∙ ap own_in shows.aim) (exchanges number x e shows).headed
    ∙ ap₂ (λ (part : Bool) (text : Bytes). is_own_by e && not (is_headed e) && not part && bytes_eq text key) (part_same x.errand.kind ∙ shows.is_ranged) shows.text_key
    ∙ where_own (is_own_by e) (is_headed e) e.is_ranged (bytes_eq (text_of e.key) key)

-- ---- the least number of those of a list

abbrev is_below : Bytes → ℕ → Entry → Bool
is_below key k x = is_shared key x && nat_lt x.exchange.number k

abbrev is_at : Bytes → ℕ → Entry → Bool
is_at key k x = is_shared key x && (x.exchange.number == k)

or_none : (a b : Bool) → (a || b) ≡ false → (a ≡ false) × (b ≡ false)
or_none true b e = absurd (true_false e)
or_none false b e = (refl, e)

not_less : (n k : ℕ) → nat_lt n k ≡ false → k ≤ n
not_less n k e = grind (arith, nat_tests)

min_least : (a n k : ℕ) → k ≤ a → k ≤ n → (a ≡ k) ⊎ (n ≡ k) → min a n ≡ k
min_least a n k low above (inl is) = omega (arith, low, above, is)
min_least a n k low above (inr is) = omega (arith, low, above, is)

fold_least : (key : Bytes) (xs : List Entry) (a k : ℕ) → k ≤ a → list_any (is_below key k) xs ≡ false → (a ≡ k) ⊎ (list_any (is_at key k) xs ≡ true) → fold min a (filter_map (shared_number key) xs) ≡ k
fold_least key [] a k low none (inl is) = is
fold_least key [] a k low none (inr is) = absurd (true_false (sym is))
fold_least key (x ∷ xs) a k low none some =
    by (is_shared key x) (or_none (is_below key k x) (list_any (is_below key k) xs) none) some (λ b under lower here. fold_least key xs b k under lower here)
  where
    by : (b : Bool) → ((b && nat_lt x.exchange.number k) ≡ false) × (list_any (is_below key k) xs ≡ false) → (a ≡ k) ⊎ (((b && (x.exchange.number == k)) || list_any (is_at key k) xs) ≡ true)
        → ((c : ℕ) → k ≤ c → list_any (is_below key k) xs ≡ false → (c ≡ k) ⊎ (list_any (is_at key k) xs ≡ true) → fold min c (filter_map (shared_number key) xs) ≡ k)
        → fold min a (cons_option (cond b (Some x.exchange.number) None) (filter_map (shared_number key) xs)) ≡ k
    by false (here, rest) some go = go a low rest some
    by true (here, rest) some go = go (min a x.exchange.number) (omega (arith, low, above)) rest (of some)
      where
        above : k ≤ x.exchange.number
        above = not_less x.exchange.number k here

        at : (b : Bool) → (x.exchange.number == k) ≡ b → (b || list_any (is_at key k) xs) ≡ true → (min a x.exchange.number ≡ k) ⊎ (list_any (is_at key k) xs ≡ true)
        at true is e = inl (min_least a x.exchange.number k low above (inr (same_number x.exchange.number k is)))
        at false is e = inr e

        of : (a ≡ k) ⊎ (((x.exchange.number == k) || list_any (is_at key k) xs) ≡ true) → (min a x.exchange.number ≡ k) ⊎ (list_any (is_at key k) xs ≡ true)
        of (inl is) = inl (min_least a x.exchange.number k low above (inl is))
        of (inr e) = at (x.exchange.number == k) refl e

least_is : (key : Bytes) (xs : List Entry) (k : ℕ) → list_any (is_below key k) xs ≡ false → list_any (is_at key k) xs ≡ true → reduce min (filter_map (shared_number key) xs) ≡ Some k
least_is key [] k none some = absurd (true_false (sym some))
least_is key (x ∷ xs) k none some =
    by (is_shared key x) (or_none (is_below key k x) (list_any (is_below key k) xs) none) some (λ lower here. least_is key xs k lower here)
  where
    by : (b : Bool) → ((b && nat_lt x.exchange.number k) ≡ false) × (list_any (is_below key k) xs ≡ false) → ((b && (x.exchange.number == k)) || list_any (is_at key k) xs) ≡ true
        → (list_any (is_below key k) xs ≡ false → list_any (is_at key k) xs ≡ true → reduce min (filter_map (shared_number key) xs) ≡ Some k)
        → reduce min (cons_option (cond b (Some x.exchange.number) None) (filter_map (shared_number key) xs)) ≡ Some k
    by false (here, rest) some go = go rest some
    by true (here, rest) some go = ap (λ (n : ℕ). Some n) (fold_least key xs x.exchange.number k (not_less x.exchange.number k here) rest (at (x.exchange.number == k) refl some))
      where
        at : (b : Bool) → (x.exchange.number == k) ≡ b → (b || list_any (is_at key k) xs) ≡ true → (x.exchange.number ≡ k) ⊎ (list_any (is_at key k) xs ≡ true)
        at true is e = inl (same_number x.exchange.number k is)
        at false is e = inr e

none_seen : (key : Bytes) (xs : List Entry) → list_any (is_shared key) xs ≡ false → filter_map (shared_number key) xs ≡ []
none_seen key [] none = refl
none_seen key (x ∷ xs) none = by (is_shared key x) (or_none (is_shared key x) (list_any (is_shared key) xs) none) (λ rest. none_seen key xs rest)
  where
    by : (b : Bool) → (b ≡ false) × (list_any (is_shared key) xs ≡ false) → (list_any (is_shared key) xs ≡ false → filter_map (shared_number key) xs ≡ []) → cons_option (cond b (Some x.exchange.number) None) (filter_map (shared_number key) xs) ≡ []
    by true (here, rest) go = absurd (true_false here)
    by false (here, rest) go = go rest

-- ---- in the order of their numbers the first is the least

first_least : (q : Exchange → Bool) (low next n : ℕ) (es : List Exchange) (e d : Exchange) → AreGiven low next (numbers_of es) → find q es ≡ Some e → find (is_exchange n) es ≡ Some d → q d ≡ true → e.number ≤ n
first_least q low next n [] e d given first there holds = absurd (none_some e first)
first_least q low next n (y ∷ ys) e d given first there holds = by (q y) (is_exchange n y) refl refl first there (λ f g. first_least q (y.number + 1) next n ys e d given.1 f g holds)
  where
    later : (o : Option Exchange) → find (is_exchange n) ys ≡ o → o ≡ Some d → (n < y.number + 1) ⊎ (y.number + 1 ≤ n) → y.number ≤ n
    later o is some (inl less) = absurd (none_some d (sym (none_below n (y.number + 1) next ys less given.1) ∙ is ∙ some))
    later o is some (inr more) = omega (arith, more)

    split : (a b : ℕ) → (a < b) ⊎ (b ≤ a)
    split a b = cases_lt a b

    by : (b c : Bool) → q y ≡ b → is_exchange n y ≡ c → cond b (Some y) (find q ys) ≡ Some e → cond c (Some y) (find (is_exchange n) ys) ≡ Some d → (find q ys ≡ Some e → find (is_exchange n) ys ≡ Some d → e.number ≤ n) → e.number ≤ n
    by true true is at one other go = let same : y ≡ e = some_is y e one in let numbered : y.number ≡ n = same_number y.number n at in omega (arith, numbered, ap (λ (z : Exchange). z.number) same)
    by true false is at one other go =
        let same : y ≡ e = some_is y e one in omega (arith, later (find (is_exchange n) ys) refl other (split n (y.number + 1)), ap (λ (z : Exchange). z.number) same)
    by false true is at one other go = absurd (true_false (sym holds ∙ ap q (sym (some_is y d other)) ∙ is))
    by false false is at one other go = go one other

-- ---- both

none_any : {A : Type 0} (p : A → Bool) (xs : List A) → ((x : A) → find p xs ≡ Some x → ⊥) → list_any p xs ≡ false
none_any {A = A} p xs isnt = by (find p xs) refl
  where
    by : (o : Option A) → find p xs ≡ o → list_any p xs ≡ false
    by None is = none_of_them p xs is
    by (Some x) is = absurd (isnt x is)

and_left : (a b : Bool) → (a && b) ≡ true → a ≡ true
and_left true b e = refl
and_left false b e = absurd (true_false (sym e))

and_right : (a b : Bool) → (a && b) ≡ true → b ≡ true
and_right true b e = e
and_right false b e = absurd (true_false (sym e))

is_lower : (n k : ℕ) → nat_lt n k ≡ true → n < k
is_lower n k e = grind (arith, nat_tests)

module _ (number : ℕ → ℕ) (l : Leaving) (f : Exchanges) (s : State) (shows : ShowsFlow number l f s) (key : Bytes) where
  alike : list_any (is_shared key) (f.waiting ++ f.placed) ≡ list_any (is_shared_by key) s.exchanges
  alike = any_alike number l f s shows (is_shared key) (is_shared_by key) (λ n x e here there one. shared_same number key x e one)

  none_lower : (e : Exchange) → find (is_shared_by key) s.exchanges ≡ Some e → (x : Entry) → find (is_below key e.number) (f.waiting ++ f.placed) ≡ Some x → ⊥
  none_lower e first x there = by (is_shown number l f s shows x.exchange.number x (found_itself number l f s shows (is_below key e.number) x there))
    where
      holds : is_below key e.number x ≡ true
      holds = find_passes (is_below key e.number) (f.waiting ++ f.placed) x there

      by : IsShown number s x.exchange.number x → ⊥
      by one =
          omega (
            arith,
            first_least (is_shared_by key) 0 s.next_exchange x.exchange.number s.exchanges e one.known shows.given first one.there
                (sym (shared_same number key x one.known one.shows) ∙ and_left (is_shared key x) (nat_lt x.exchange.number e.number) holds),
            is_lower x.exchange.number e.number (and_right (is_shared key x) (nat_lt x.exchange.number e.number) holds),
          )

  one_there : (e : Exchange) → find (is_shared_by key) s.exchanges ≡ Some e → list_any (is_at key e.number) (f.waiting ++ f.placed) ≡ true
  one_there e first = by (is_kept number l f s shows e.number e (known_itself number l f s shows (is_shared_by key) e first))
    where
      by : IsKept number f e.number e → list_any (is_at key e.number) (f.waiting ++ f.placed) ≡ true
      by one =
          any_by (is_at key e.number) (is_number e.number) (f.waiting ++ f.placed) one.seen (sym (entry_among e.number f) ∙ one.here)
          (ap₂ (λ (a b : Bool). a && b) (shared_same number key one.seen e one.shows ∙ find_passes (is_shared_by key) s.exchanges e first) (same_as one.seen.exchange.number e.number one.shows.number))

  first_same : reduce min (filter_map (shared_number key) (f.waiting ++ f.placed)) ≡ option_map (λ e. e.number) (find (is_shared_by key) s.exchanges)
  first_same = by (find (is_shared_by key) s.exchanges) refl
    where
      none : find (is_shared_by key) s.exchanges ≡ None → list_any (is_shared_by key) s.exchanges ≡ false
      none is = none_any (is_shared_by key) s.exchanges (λ e there. none_some e (sym is ∙ there))

      by : (o : Option Exchange) → find (is_shared_by key) s.exchanges ≡ o → reduce min (filter_map (shared_number key) (f.waiting ++ f.placed)) ≡ option_map (λ e. e.number) o
      by None is = ap (reduce min) (none_seen key (f.waiting ++ f.placed) (alike ∙ none is))
      by (Some e) is = least_is key (f.waiting ++ f.placed) e.number (none_any (is_below key e.number) (f.waiting ++ f.placed) (none_lower e is)) (one_there e is)

pub shared_asks : SharedAsksAreTheLaws
shared_asks number name l peers p s shows key = first_same number l p.flow s shows.shows.exchanges key

-- ---- one that is waited for

abbrev waits_in : ℕ → Entry → Bool
waits_in n x = (x.exchange.number == n) && not x.exchange.headed

awaited_among : (n : ℕ) (o : Option Entry) (xs : List Entry) → find (is_number n) xs ≡ o → ((x : Entry) → find (waits_in n) xs ≡ Some x → o ≡ Some x) → is_unanswered o ≡ list_any (waits_in n) xs
awaited_among n None xs is alone = sym (none_any (waits_in n) xs (λ x there. none_some x (alone x there)))
awaited_among n (Some x) xs is alone = by x.exchange.headed refl
  where
    by : (b : Bool) → x.exchange.headed ≡ b → not x.exchange.headed ≡ list_any (waits_in n) xs
    by true headed =
        ap not headed ∙ sym (none_any (waits_in n) xs (λ y there. true_false (sym (and_right (y.exchange.number == n) (not y.exchange.headed) (find_passes (waits_in n) xs y there)) ∙ ap (λ (z : Entry). not z.exchange.headed) (some_is y x (sym (alone y there))) ∙ ap not headed)))
    by false headed =
        ap not headed ∙ sym (any_by (waits_in n) (is_number n) xs x is (ap₂ (λ (a b : Bool). a && b) (find_passes (is_number n) xs x is) (ap not headed)))

pub awaited : AwaitedIsTheLaws
awaited number name l peers p s shows n =
    awaited_among n (entry_of n p.flow) (p.flow.waiting ++ p.flow.placed) (sym (entry_among n p.flow)) (λ x there. by x there)
    ∙ any_alike number l p.flow s shows.shows.exchanges (waits_in n) (λ e. (e.number == n) && not (is_headed e))
    (λ k x e here there one. ap₂ (λ (a b : Bool). a && not b) (ap (λ (i : ℕ). i == n) one.number) (exchanges number x e one).headed)
  where
    by : (x : Entry) → find (waits_in n) (p.flow.waiting ++ p.flow.placed) ≡ Some x → entry_of n p.flow ≡ Some x
    by x there =
        let itself : entry_of x.exchange.number p.flow ≡ Some x = found_itself number l p.flow s shows.shows.exchanges (waits_in n) x there in
        let numbered : x.exchange.number ≡ n = same_number x.exchange.number n (and_left (x.exchange.number == n) (not x.exchange.headed) (find_passes (waits_in n) (p.flow.waiting ++ p.flow.placed) x there)) in
        subst (λ (i : ℕ). entry_of i p.flow ≡ Some x) numbered itself
