-- Each exchange of a line has that place.
use Rattle.std.proofs.Common.{◌≡◌, ◌≤◌, ◌+◌, refl, sym, ap, ◌∙◌, ℕ, Bool, true, false, ◌==◌, ◌||◌, cond, find, List, [], ◌∷◌, ◌++◌, Some, None, Option, arith}
use Rattle.std.specs.Prelude.{count_by, ⊤}
use Rattle.std.proofs.lemmas.Bool.Decides.{nat_tests}
use Rattle.std.proofs.lemmas.List.{append_assoc}
use Rattle.pp_cache_law.proofs.Finds.{find_joined, first_of_two, found_counted}
use Rattle.pp_cache_law.proofs.PairLemmas.{count_first, count_joined}
use Rattle.pp_flow.specs.Changes.{Exchanges, is_on, is_place, line_of}
use Rattle.pp_flow.specs.Entries.{is_number}
use Rattle.pp_flow.specs.declared.entry.Entry.{Entry}
use Rattle.pp_flow_law.proofs.Entries.{line_first, none_left, same_number}
use Rattle.pp_flow_law.proofs.Standing.{IsShown, entry_placed, few_placed, is_shown, none_waits}
use Rattle.pp_flow_law.specs.Tables.{Leaving, ShowsFlow, line_at}
use Rattle.pp_law.specs.Connections.{conn, exchange, is_conn}
use Rattle.pp_law.specs.Lists.{has_number}
use Rattle.pp_law.specs.State.{State, Conn, Exchange}
use Rattle.pp_states_law.specs.Decisions.{AreApart}

-- ---- of the program

pub record IsOn (k m : ℕ) (es : List Entry) : Type 0 where
  pub entry : Entry
  pub there : find (is_number m) es ≡ Some entry
  pub on : is_on k entry ≡ true

pub found_on : (k m : ℕ) (es : List Entry) → count_by (is_number m) es ≤ 1 → has_number m (line_of k es) ≡ true → IsOn k m es
found_on k m [] few has = absurd cc
found_on k m (e ∷ es) few has =
    by (is_on k e) (is_number m e) refl refl (let less : cond (is_number m e) 1 0 + count_by (is_number m) es ≤ 1 = omega (arith, few, count_first (is_number m) e es) in less)
    (sym (ap (λ (ns : List ℕ). has_number m ns) (line_first k e es)) ∙ has) (λ less more. found_on k m es less more)
  where
    later : is_number m e ≡ false → IsOn k m es → IsOn k m (e ∷ es)
    later isnt one = record { entry = one.entry; there = ap (λ (b : Bool). cond b (Some e) (find (is_number m) es)) isnt ∙ one.there; on = one.on }

    by : (b c : Bool) → is_on k e ≡ b → is_number m e ≡ c → cond c 1 0 + count_by (is_number m) es ≤ 1 → has_number m (cond b (e.exchange.number ∷ line_of k es) (line_of k es)) ≡ true
        → (count_by (is_number m) es ≤ 1 → has_number m (line_of k es) ≡ true → IsOn k m es) → IsOn k m (e ∷ es)
    by true true on is less more rest = record { entry = e; there = ap (λ (b : Bool). cond b (Some e) (find (is_number m) es)) is; on = on }
    by true false on is less more rest = later is (rest (omega (arith, less)) (sym (ap (λ (b : Bool). b || has_number m (line_of k es)) is) ∙ more))
    by false true on is less more rest =
        let one : IsOn k m es = rest (omega (arith, less)) more in
        absurd (omega (arith, less, found_counted (is_number m) es one.entry one.there))
    by false false on is less more rest = later is (rest (omega (arith, less)) more)

has_behind : (m : ℕ) (xs ys : List ℕ) → has_number m ys ≡ true → has_number m (xs ++ ys) ≡ true
has_behind m [] ys has = has
has_behind m (x ∷ xs) ys has = by (x == m) (has_behind m xs ys has)
  where
    by : (b : Bool) → has_number m (xs ++ ys) ≡ true → b || has_number m (xs ++ ys) ≡ true
    by true rest = refl
    by false rest = rest

pub place_is : (k : ℕ) (o : Option ℕ) → is_place k o ≡ true → o ≡ Some k
place_is k None is = absurd cc
place_is k (Some n) is = ap (λ (i : ℕ). Some i) (same_number n k is)

-- ---- of the law

pub record IsPlaced (k m : ℕ) (s : State) : Type 0 where
  pub known : Exchange
  pub there : exchange s m ≡ Some known
  pub place : known.place ≡ Some k

pub in_line : (number : ℕ → ℕ) (l : Leaving) (f : Exchanges) (s : State) → ShowsFlow number l f s → (k m : ℕ) → has_number m (line_at s k) ≡ true → IsPlaced k m s
in_line number l f s shows k m has =
    let one : IsOn k m f.placed = found_on k m f.placed (few_placed number l f s shows m) (ap (λ (ns : List ℕ). has_number m ns) (shows.lines k) ∙ has_behind m (l k) (line_at s k) has) in
    let known : IsShown number s m one.entry = is_shown number l f s shows m one.entry (entry_placed m f one.entry (none_waits number l f s shows m one.entry one.there) one.there) in
    record { known = known.known; there = known.there; place = sym known.shows.place ∙ place_is k one.entry.exchange.place one.on }

-- ---- each connection is the one of its number

abbrev pub AllFound : State → List Conn → Type 0
AllFound s [] = ⊤
AllFound s (k ∷ ks) = (conn s k.number ≡ Some k) × AllFound s ks

pub same_itself : (n : ℕ) → (n == n) ≡ true
same_itself n = grind (arith, nat_tests)

found_behind : (s : State) (pre ks : List Conn) → s.conns ≡ pre ++ ks → AreApart s → AllFound s ks
found_behind s pre [] all apart = tt
found_behind s pre (k ∷ ks) all apart = (here, found_behind s (pre ++ k ∷ []) ks (all ∙ sym (append_assoc pre (k ∷ []) ks)) apart)
  where
    itself : is_conn k.number k ≡ true
    itself = same_itself k.number

    first : find (is_conn k.number) (k ∷ ks) ≡ Some k
    first = ap (λ (b : Bool). cond b (Some k) (find (is_conn k.number) ks)) itself

    none : find (is_conn k.number) pre ≡ None
    none =
        none_left (is_conn k.number) pre
        (omega (arith, apart k.number, ap (λ (xs : List Conn). count_by (is_conn k.number) xs) all, count_joined (is_conn k.number) pre (k ∷ ks), found_counted (is_conn k.number) (k ∷ ks) k first))

    here : conn s k.number ≡ Some k
    here =
        ap (λ (xs : List Conn). find (is_conn k.number) xs) all
        ∙ find_joined (is_conn k.number) pre (k ∷ ks)
        ∙ ap (λ (o : Option Conn). first_of_two o (find (is_conn k.number) (k ∷ ks))) none
        ∙ first

pub all_found : (s : State) → AreApart s → AllFound s s.conns
all_found s apart = found_behind s [] s.conns refl apart
