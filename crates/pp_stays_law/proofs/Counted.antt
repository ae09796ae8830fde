-- Of what is dropped as much is counted as came, behind what leaves the bodies of exchanges that have a place, and what came on connections.
use Rattle.std.proofs.Common.{◌≡◌, ◌≤◌, ◌+◌, ◌⊎◌, inl, inr, refl, sym, subst, ap, ◌∙◌, ℕ, Bool, true, false, not, ◌==◌, ◌||◌, cond, find, filter, List, [], ◌∷◌, Option, Some, None, arith}
use Rattle.std.proofs.lemmas.Bool.Decides.{nat_tests}
use Rattle.std.specs.Prelude.{count_by, is_some}
use Rattle.pp_cache_law.proofs.Finds.{find_passes, found_counted}
use Rattle.pp_cache_law.proofs.Numbers.{is_same, some_is}
use Rattle.pp_cache_law.proofs.PairLemmas.{count_first}
use Rattle.pp_cache_law.specs.Pairs.{AreAll}
use Rattle.pp_turns_law.specs.Unread.{IsCountedOn}
use Rattle.pp_flow.specs.Changes.{Exchanges, entry_of, is_on, line_of, numbers}
use Rattle.pp_flow.specs.Entries.{is_number}
use Rattle.pp_flow.specs.declared.entry.Entry.{Entry}
use Rattle.pp_flow.specs.declared.errand.Body.{Body}
use Rattle.pp_flow.specs.declared.errand.Body.TheVariants.{Pending, Joining, Relaying, Dropping}
use Rattle.pp_flow_law.proofs.Standing.{entry_placed, few_placed, none_waits}
use Rattle.pp_flow_law.specs.Tables.{ShowsFlow, has_none, line_in, none_leaves}
use Rattle.pp_law.specs.Connections.{conn}
use Rattle.pp_law.specs.Lists.{has_number}
use Rattle.pp_law.specs.Stages.{is_headed}
use Rattle.pp_law.specs.State.{State, Body as LawBody, Conn, Exchange, Pending as IsPending, Joining as IsJoining, Relaying as IsRelaying, Dropping as IsDropping}
use Rattle.pp_law.specs.Unseen.{came_of}
use Rattle.pp_laws.specs.Runs.{IsIn}
use Rattle.pp_laws_coming.specs.Coming.{IsToldOn}
use Rattle.pp_seats_law.specs.Exchanges.{Binding, ShowsBody, ShowsExchange}
use Rattle.pp_turns_law.specs.Unseen.{IsCounted}
use Rattle.pp_stays_law.proofs.Walk.{AllOf}

-- it had that place, and what becomes of its body is as it was
pub record WasPlaced (f : Exchanges) (x : Entry) : Type 0 where
  pub before : Entry
  pub there : find (is_number x.exchange.number) f.placed ≡ Some before
  pub place : x.exchange.place ≡ before.exchange.place
  pub body : x.errand.body ≡ before.errand.body

-- nothing came of it, or it did before
abbrev pub IsAsBefore : Exchanges → Entry → Type 0
IsAsBefore f x = (x.errand.body ≡ Pending) ⊎ WasPlaced f x

abbrev pub NothingCame : Entry → Type 0
NothingCame x = x.errand.body ≡ Pending

-- ---- each is as itself

number_self : (n : ℕ) → (n == n) ≡ true
number_self n = grind (arith, nat_tests)

later : (x y : Entry) (xs : List Entry) → count_by (is_number y.exchange.number) (x ∷ xs) ≤ 1 → find (is_number y.exchange.number) xs ≡ Some y → find (is_number y.exchange.number) (x ∷ xs) ≡ Some y
later x y xs few there = by (is_number y.exchange.number x) refl
  where
    bad : (m : ℕ) → 1 ≤ m → cond true 1 0 + m ≤ 1 → ⊥
    bad m one less = omega (arith, one, less)

    by : (b : Bool) → is_number y.exchange.number x ≡ b → cond b (Some x) (find (is_number y.exchange.number) xs) ≡ Some y
    by true is =
        absurd
        (bad (count_by (is_number y.exchange.number) xs) (found_counted (is_number y.exchange.number) xs y there)
        (subst (λ (b : Bool). cond b 1 0 + count_by (is_number y.exchange.number) xs ≤ 1) is (subst (λ (m : ℕ). m ≤ 1) (count_first (is_number y.exchange.number) x xs) few)))
    by false is = there

less_few : (test : Entry → Bool) (x : Entry) (xs : List Entry) → count_by test (x ∷ xs) ≤ 1 → count_by test xs ≤ 1
less_few test x xs few = by (cond (test x) 1 0) (count_by test xs) (subst (λ (m : ℕ). m ≤ 1) (count_first test x xs) few)
  where
    by : (a b : ℕ) → a + b ≤ 1 → b ≤ 1
    by a b less = omega (arith, less)

abbrev IsFound : List Entry → Entry → Type 0
IsFound xs x = find (is_number x.exchange.number) xs ≡ Some x

all_later : (x : Entry) (xs ys : List Entry) → ((n : ℕ) → count_by (is_number n) (x ∷ xs) ≤ 1) → AllOf (IsFound xs) ys → AllOf (IsFound (x ∷ xs)) ys
all_later x xs [] few all = tt
all_later x xs (y ∷ ys) few all = (later x y xs (few y.exchange.number) all.0, all_later x xs ys few all.1)

all_themselves : (xs : List Entry) → ((n : ℕ) → count_by (is_number n) xs ≤ 1) → AllOf (IsFound xs) xs
all_themselves [] few = tt
all_themselves (x ∷ xs) few = (
  ap (λ (b : Bool). cond b (Some x) (find (is_number x.exchange.number) xs)) (number_self x.exchange.number),
  all_later x xs xs few (all_themselves xs (λ n. less_few (is_number n) x xs (few n))),
)

as_found : (f : Exchanges) (xs : List Entry) → AllOf (IsFound f.placed) xs → AllOf (IsAsBefore f) xs
as_found f [] all = tt
as_found f (x ∷ xs) all = (inr (record { before = x; there = all.0; place = refl; body = refl }), as_found f xs all.1)

pub all_as_before : (number : ℕ → ℕ) (f : Exchanges) (s : State) → ShowsFlow number none_leaves f s → AllOf (IsAsBefore f) f.placed
all_as_before number f s shows = as_found f f.placed (all_themselves f.placed (few_placed number none_leaves f s shows))

-- ---- of those without a place nothing came

pending_body : (number : ℕ → ℕ) (body : Body) (headed : Bool) (bound : Option Binding) (other : LawBody) → ShowsBody number body headed bound other → other ≡ IsPending → body ≡ Pending
pending_body number Pending headed bound other shows is = refl
pending_body number (Joining far) headed bound IsPending shows is = absurd (by headed bound shows)
  where
    by : (b : Bool) (o : Option Binding) → ShowsBody number (Joining far) b o IsPending → ⊥
    by true None it = it
    by true (Some x) it = it
    by false o it = it
pending_body number (Joining far) headed bound (IsJoining b) shows is = absurd (cc is)
pending_body number (Joining far) headed bound IsRelaying shows is = absurd (cc is)
pending_body number (Joining far) headed bound IsDropping shows is = absurd (cc is)
pending_body number Relaying headed bound IsPending shows is = absurd (by headed bound shows)
  where
    by : (b : Bool) (o : Option Binding) → ShowsBody number Relaying b o IsPending → ⊥
    by true None it = it
    by true (Some x) it = it
    by false o it = it
pending_body number Relaying headed bound (IsJoining b) shows is = absurd (cc is)
pending_body number Relaying headed bound IsRelaying shows is = absurd (cc is)
pending_body number Relaying headed bound IsDropping shows is = absurd (cc is)
pending_body number (Dropping n) headed bound IsPending shows is = absurd (by headed bound shows)
  where
    by : (b : Bool) (o : Option Binding) → ShowsBody number (Dropping n) b o IsPending → ⊥
    by true None it = it
    by true (Some x) it = it
    by false o it = it
pending_body number (Dropping n) headed bound (IsJoining b) shows is = absurd (cc is)
pending_body number (Dropping n) headed bound IsRelaying shows is = absurd (cc is)
pending_body number (Dropping n) headed bound IsDropping shows is = absurd (cc is)

not_headed : (e : Exchange) → is_headed e ≡ false → e.body ≡ IsPending
not_headed e isnt = by e.body isnt
  where
    by : (b : LawBody) → is_headed (record e { body = b }) ≡ false → b ≡ IsPending
    by IsPending is = refl
    by (IsJoining x) is = absurd (cc is)
    by IsRelaying is = absurd (cc is)
    by IsDropping is = absurd (cc is)

-- all of these, which are among the exchanges
nothing_of : (number : ℕ → ℕ) (xs : List Entry) (es : List Exchange) → AreAll (ShowsExchange number) xs es → ((e : Exchange) → IsIn e es → is_headed e ≡ false) → AllOf NothingCame xs
nothing_of number [] [] all none = tt
nothing_of number [] (e ∷ es) all none = absurd all
nothing_of number (x ∷ xs) [] all none = absurd all
nothing_of number (x ∷ xs) (e ∷ es) all none =
    (pending_body number x.errand.body x.exchange.headed x.exchange.bound e.body all.0.body (not_headed e (none e (inl refl))), nothing_of number xs es all.1 (λ d i. none d (inr i)))

in_filtered : (q : Exchange → Bool) (es : List Exchange) (e : Exchange) → IsIn e (filter q es) → IsIn e es × (q e ≡ true)
in_filtered q [] e i = absurd i
in_filtered q (d ∷ es) e i = by (q d) refl i (in_filtered q es e)
  where
    by : (b : Bool) → q d ≡ b → IsIn e (cond b (d ∷ filter q es) (filter q es)) → (IsIn e (filter q es) → IsIn e es × (q e ≡ true)) → IsIn e (d ∷ es) × (q e ≡ true)
    by true is (inl same) rest = (inl same, ap q same ∙ is)
    by true is (inr j) rest = let its : IsIn e es × (q e ≡ true) = rest j in (inr its.0, its.1)
    by false is j rest = let its : IsIn e es × (q e ≡ true) = rest j in (inr its.0, its.1)

placeless : (o : Option ℕ) → not (is_some o) ≡ true → o ≡ None
placeless None is = refl
placeless (Some n) is = absurd (cc is)

pub nothing_came : (number : ℕ → ℕ) (f : Exchanges) (s : State) → ShowsFlow number none_leaves f s → IsToldOn s → AllOf NothingCame f.waiting
nothing_came number f s shows told = nothing_of number f.waiting (filter has_none s.exchanges) shows.waiting none
  where
    none : (e : Exchange) → IsIn e (filter has_none s.exchanges) → is_headed e ≡ false
    none e i = let its : IsIn e s.exchanges × (has_none e ≡ true) = in_filtered has_none s.exchanges e i in by (is_headed e) refl (placeless e.place its.1) its.0
      where
        by : (b : Bool) → is_headed e ≡ b → e.place ≡ None → IsIn e s.exchanges → b ≡ false
        by true is at there = absurd (told.headed e there is at)
        by false is at there = refl

-- ---- who stands in a line has that place

abbrev is_in : ℕ → ℕ → List Entry → Bool
is_in m n es = has_number m (line_of n es)

record StandsAt (m n : ℕ) (es : List Entry) : Type 0 where
  entry : Entry
  there : find (is_number m) es ≡ Some entry
  on : is_on n entry ≡ true

counted_in : (m n : ℕ) (es : List Entry) → is_in m n es ≡ true → 1 ≤ count_by (is_number m) es
counted_in m n [] has = absurd (cc has)
counted_in m n (x ∷ es) has = subst (λ (i : ℕ). 1 ≤ i) (sym (count_first (is_number m) x es)) (by (is_on n x) (is_number m x) refl has (counted_in m n es))
  where
    more : (a b : ℕ) → 1 ≤ b → 1 ≤ a + b
    more a b less = omega (arith, less)

    by : (b c : Bool) → is_number m x ≡ c → has_number m (numbers (cond b (x ∷ filter (is_on n) es) (filter (is_on n) es))) ≡ true → (is_in m n es ≡ true → 1 ≤ count_by (is_number m) es) → 1 ≤ cond c 1 0 + count_by (is_number m) es
    by true true is its rest = omega arith
    by true false is its rest = more 0 (count_by (is_number m) es) (rest (sym (ap (λ (t : Bool). t || is_in m n es) is) ∙ its))
    by false c is its rest = more (cond c 1 0) (count_by (is_number m) es) (rest its)

stands_at : (m n : ℕ) (es : List Entry) → count_by (is_number m) es ≤ 1 → is_in m n es ≡ true → StandsAt m n es
stands_at m n [] few has = absurd (cc has)
stands_at m n (x ∷ es) few has = by (is_number m x) (is_on n x) refl refl has (λ its. stands_at m n es (less_few (is_number m) x es few) its)
  where
    bad : (k : ℕ) → 1 ≤ k → cond true 1 0 + k ≤ 1 → ⊥
    bad k one less = omega (arith, one, less)

    by : (c b : Bool) → is_number m x ≡ c → is_on n x ≡ b → has_number m (numbers (cond b (x ∷ filter (is_on n) es) (filter (is_on n) es))) ≡ true → (is_in m n es ≡ true → StandsAt m n es) → StandsAt m n (x ∷ es)
    by true true is on its rest = record { entry = x; there = ap (λ (t : Bool). cond t (Some x) (find (is_number m) es)) is; on = on }
    by true false is on its rest =
        absurd (bad (count_by (is_number m) es) (counted_in m n es its) (subst (λ (t : Bool). cond t 1 0 + count_by (is_number m) es ≤ 1) is (subst (λ (k : ℕ). k ≤ 1) (count_first (is_number m) x es) few)))
    by false true is on its rest =
        let one : StandsAt m n es = rest (sym (ap (λ (t : Bool). t || is_in m n es) is) ∙ its) in
        record { entry = one.entry; there = ap (λ (t : Bool). cond t (Some x) (find (is_number m) es)) is ∙ one.there; on = one.on }
    by false false is on its rest = let one : StandsAt m n es = rest its in record { entry = one.entry; there = ap (λ (t : Bool). cond t (Some x) (find (is_number m) es)) is ∙ one.there; on = one.on }

-- and who has it stands there
stands_in : (m n : ℕ) (es : List Entry) (x : Entry) → find (is_number m) es ≡ Some x → is_on n x ≡ true → is_in m n es ≡ true
stands_in m n [] x there on = absurd (cc there)
stands_in m n (y ∷ es) x there on = by (is_number m y) refl there (λ rest. stands_in m n es x rest on)
  where
    or_true : (b : Bool) → (b || true) ≡ true
    or_true true = refl
    or_true false = refl

    behind : (b : Bool) → is_in m n es ≡ true → has_number m (numbers (cond b (y ∷ filter (is_on n) es) (filter (is_on n) es))) ≡ true
    behind true its = ap (λ (t : Bool). is_number m y || t) its ∙ or_true (is_number m y)
    behind false its = its

    by : (c : Bool) → is_number m y ≡ c → cond c (Some y) (find (is_number m) es) ≡ Some x → (find (is_number m) es ≡ Some x → is_in m n es ≡ true) → is_in m n (y ∷ es) ≡ true
    by true is found rest =
        ap (λ (t : Bool). has_number m (numbers (cond t (y ∷ filter (is_on n) es) (filter (is_on n) es)))) (ap (λ (z : Entry). is_on n z) (some_is y x found) ∙ on)
        ∙ ap (λ (t : Bool). t || is_in m n es) is
    by false is found rest = behind (is_on n y) (rest found)

-- ---- so it is counted behind them

pub counted_as : (body : Body) (k j : Conn) → came_of j ≡ came_of k → IsCounted body k → IsCounted body j
counted_as Pending k j same counted = tt
counted_as (Joining wanted) k j same counted = tt
counted_as Relaying k j same counted = tt
counted_as (Dropping count) k j same counted = counted ∙ sym same

pending_counted : (body : Body) (k : Conn) → body ≡ Pending → IsCounted body k
pending_counted body k is = subst (λ (b : Body). IsCounted b k) (sym is) tt

pub found_of : (W : Entry → Type 0) (n : ℕ) (xs : List Entry) (x : Entry) → find (is_number n) xs ≡ Some x → AllOf W xs → W x
found_of W n [] x there all = absurd (cc there)
found_of W n (y ∷ ys) x there all = by (is_number n y) there (λ rest. found_of W n ys x rest all.1)
  where
    by : (b : Bool) → cond b (Some y) (find (is_number n) ys) ≡ Some x → (find (is_number n) ys ≡ Some x → W x) → W x
    by true found rest = subst W (some_is y x found) all.0
    by false found rest = rest found

-- ---- what becomes of each body, where it stood

-- it had that place, and so it is related to what it was
pub record Stood (R : Entry → Entry → Type 0) (f : Exchanges) (x : Entry) : Type 0 where
  pub before : Entry
  pub there : find (is_number x.exchange.number) f.placed ≡ Some before
  pub place : x.exchange.place ≡ before.exchange.place
  pub related : R before x

-- nothing came of it, or it stood there
abbrev pub HasStood : (Entry → Entry → Type 0) → Exchanges → Entry → Type 0
HasStood R f x = (x.errand.body ≡ Pending) ⊎ Stood R f x

-- such a one stood in the line of a connection, and stands in it
pub record StandsStill (f g : Exchanges) (s t : State) (n m : ℕ) (k j : Conn) (b x : Entry) : Type 0 where
  pub before : conn s n ≡ Some k
  pub there : conn t n ≡ Some j
  pub was : entry_of m f ≡ Some b
  pub is : entry_of m g ≡ Some x
  pub stood : has_number m k.line ≡ true
  pub stands : has_number m j.line ≡ true
  pub number : x.exchange.number ≡ m

-- of it as much is counted
abbrev pub CountsOn : (Entry → Entry → Type 0) → Exchanges → Exchanges → State → State → Type 0
CountsOn R f g s t = (n m : ℕ) (k j : Conn) (b x : Entry) → StandsStill f g s t n m k j b x → R b x → IsCounted b.errand.body k → IsCounted x.errand.body j

module _ (number later_number : ℕ → ℕ) (R : Entry → Entry → Type 0) (f g : Exchanges) (s t : State) (shows : ShowsFlow number none_leaves f s) (behind : ShowsFlow later_number none_leaves g t) (before : AllOf (HasStood R f) g.placed)
    (counts : CountsOn R f g s t) (counted : (n : ℕ) (k : Conn) → conn s n ≡ Some k → IsCountedOn f k) where
  record WasOn (n m : ℕ) (d : Entry) : Type 0 where
    conn_is : Conn
    there : conn s n ≡ Some conn_is
    has : has_number m conn_is.line ≡ true

  was_on : (n m : ℕ) (d : Entry) → find (is_number m) f.placed ≡ Some d → is_on n d ≡ true → WasOn n m d
  was_on n m d here on = by (conn s n) refl (sym (ap (λ (line : List ℕ). has_number m line) (shows.lines n)) ∙ stands_in m n f.placed d here on)
    where
      by : (o : Option Conn) → conn s n ≡ o → has_number m (line_in o) ≡ true → WasOn n m d
      by None is has = absurd (cc has)
      by (Some k) is has = record { conn_is = k; there = is; has = has }

  was_counted : (n m : ℕ) (j : Conn) (x : Entry) → conn t n ≡ Some j → has_number m j.line ≡ true → entry_of m g ≡ Some x → is_number m x ≡ true → is_on n x ≡ true → Stood R f x → IsCounted x.errand.body j
  was_counted n m j x there has at num on was =
      let same : x.exchange.number ≡ m = is_same x.exchange.number m num in
      let here : find (is_number m) f.placed ≡ Some was.before = ap (λ (i : ℕ). find (is_number i) f.placed) (sym same) ∙ was.there in
      let old : WasOn n m was.before = was_on n m was.before here (ap (λ (o : Option ℕ). elim o as (λ b. Bool) [ None ↦ false | Some k ↦ k == n ]) (sym was.place) ∙ on) in
      let at_first : entry_of m f ≡ Some was.before = entry_placed m f was.before (none_waits number none_leaves f s shows m was.before here) here in
      counts n m old.conn_is j was.before x (record { before = old.there; there = there; was = at_first; is = at; stood = old.has; stands = has; number = same }) was.related
      (counted n old.conn_is old.there m was.before old.has at_first)

  pub counted_as_stood : (n : ℕ) (j : Conn) → conn t n ≡ Some j → IsCountedOn g j
  counted_as_stood n j there m e has here =
      let in_line : is_in m n g.placed ≡ true = ap (λ (line : List ℕ). has_number m line) (behind.lines n ∙ ap (λ (o : Option Conn). line_in o) there) ∙ has in
      let one : StandsAt m n g.placed = stands_at m n g.placed (few_placed later_number none_leaves g t behind m) in_line in
      let at : entry_of m g ≡ Some one.entry = entry_placed m g one.entry (none_waits later_number none_leaves g t behind m one.entry one.there) one.there in
      let same : one.entry ≡ e = some_is one.entry e (sym at ∙ here) in
      subst (λ (x : Entry). IsCounted x.errand.body j) same (by one at (found_of (HasStood R f) m g.placed one.entry one.there before))
    where
      by : (one : StandsAt m n g.placed) → entry_of m g ≡ Some one.entry → HasStood R f one.entry → IsCounted one.entry.errand.body j
      by one at (inl nothing) = pending_counted one.entry.errand.body j nothing
      by one at (inr was) = was_counted n m j one.entry there has at (find_passes (is_number m) g.placed one.entry one.there) one.on was

-- ---- where each is as it was

abbrev pub SameBody : Entry → Entry → Type 0
SameBody b x = x.errand.body ≡ b.errand.body

pub all_stood : (R : Entry → Entry → Type 0) (f : Exchanges) (xs : List Entry) → ((b x : Entry) → SameBody b x → R b x) → AllOf (IsAsBefore f) xs → AllOf (HasStood R f) xs
all_stood R f [] suits all = tt
all_stood R f (x ∷ xs) suits all = (by all.0, all_stood R f xs suits all.1)
  where
    by : IsAsBefore f x → HasStood R f x
    by (inl nothing) = inl nothing
    by (inr was) = inr (record { before = was.before; there = was.there; place = was.place; related = suits was.before x was.body })

-- each stands where it stood
stood_found : (f : Exchanges) (xs : List Entry) → AllOf (IsFound f.placed) xs → AllOf (Stood SameBody f) xs
stood_found f [] all = tt
stood_found f (x ∷ xs) all = (record { before = x; there = all.0; place = refl; related = refl }, stood_found f xs all.1)

pub all_stand : (number : ℕ → ℕ) (f : Exchanges) (s : State) → ShowsFlow number none_leaves f s → AllOf (Stood SameBody f) f.placed
all_stand number f s shows = stood_found f f.placed (all_themselves f.placed (few_placed number none_leaves f s shows))

pub counted_behind : (number later_number : ℕ → ℕ) (f g : Exchanges) (s t : State) → ShowsFlow number none_leaves f s → ShowsFlow later_number none_leaves g t → AllOf (IsAsBefore f) g.placed → ((n : ℕ) (k j : Conn) → conn s n ≡ Some k → conn t n ≡ Some j → came_of j ≡ came_of k)
    → ((n : ℕ) (k : Conn) → conn s n ≡ Some k → IsCountedOn f k) → (n : ℕ) (j : Conn) → conn t n ≡ Some j → IsCountedOn g j
counted_behind number later_number f g s t shows behind before came counted =
    counted_as_stood number later_number SameBody f g s t shows behind (all_stood SameBody f g.placed (λ b x is. is) before)
    (λ n m k j b x on same its. subst (λ (body : Body). IsCounted body j) (sym same) (counted_as b.errand.body k j (came n k j on.before on.there) its)) counted
