-- A lawful log has no more failures than there may be.
use Rattle.std.proofs.Common.{◌≡◌, ◌≤◌, ◌+◌, refl, sym, subst, ap, ◌∙◌, ℕ, zero, suc, Bool, true, false, not, ◌||◌, cond, nat_lt, append_assoc, append-nil, List, [], ◌∷◌, ◌++◌, Option, Some, None, arith}
use Rattle.std.proofs.lemmas.Bool.Decides.{nat_tests}
use Rattle.std.specs.Prelude.{count_by, is_some}
use Rattle.pp_cache_law.proofs.PairLemmas.{count_first}
use Rattle.pp_conf.specs.Conf.{Settings}
use Rattle.pp_conf.specs.Words.{reading_of}
use Rattle.pp_law.specs.After.{after, changed}
use Rattle.pp_law.specs.Lawful.{Lawful, LawfulFrom}
use Rattle.pp_law.specs.Opening.{are_texts, begun, is_at, may_fail, names_file, permits_configured, permits_listens, settings_in, with_settings, woken}
use Rattle.pp_law.specs.Permits.{permits, permits_dial, permits_unread}
use Rattle.pp_law.specs.Phases.{next}
use Rattle.pp_law.specs.State.{State, Term, IsRooted, IsWoken, start}
use Rattle.pp_law.specs.Store.{may_end_op}
use Rattle.pp_laws.proofs.Tests.{first_holds, second_holds}
use Rattle.pp_laws.specs.Runs.{state_after}
use Rattle.pp_laws_pool.proofs.Along.{after_all-append, back_from}
use Rattle.pp_obeys.proofs.Frames.{Frame}
use Rattle.pp_obeys.proofs.Obeying.{life_goes_on, obeys_at_first, obeys_good}
use Rattle.pp_obeys.proofs.Silent.{permitted_wide}
use Rattle.pp_obeys.proofs.StaysTurns.{next-frame}
use Rattle.pp_obeys.specs.Failures.{GoesOnIn, fails, wakes}
use Rattle.pp_obeys.specs.Moves.{Leads}
use Rattle.pp_obeys.specs.Obeys.{phases_on}
use Rattle.pp_world.specs.Files.{Files}
use Rattle.pp_world.specs.Log.{Log}
use Rattle.pp_world.specs.declared.happening.Happening.{Happening}
use Rattle.pp_world.specs.declared.happening.Happening.TheVariants.{Woke, Waits, Clock, Opened, CanRead, CanWrite, Heard, HungUp, Said, Shut, Dialled, Undialled, Reached, Ended, Broke, Asked, Got, Dropped, NoneYet, Began, Did, Unread, Noted, Rooted, Listed, Listens, Configured, Printed, Stopped}
use Rattle.pp_stays_law.specs.Afforded.{WhatIsLawfulIsAfforded}

-- ---- a failure comes only where there may be one more

abbrev IsLess : State → Type 0
IsLess s = nat_lt s.failures s.term.faults ≡ true

or_not : (ok b : Bool) → (ok || b) ≡ true → not ok ≡ true → b ≡ true
or_not true b is isnt = absurd (cc isnt)
or_not false b is isnt = is

may_fail_more : (s : State) (h : Happening) → permits s h ≡ true → fails h ≡ true → IsLess s
unfolding permits
may_fail_more s (Undialled host port) may is = first_holds (may_fail s false) (permits_dial s host port) may
may_fail_more s (Did op ok) may is = or_not ok (nat_lt s.failures s.term.faults) (second_holds (may_end_op s op) (may_fail s ok) may) is
may_fail_more s (Unread name) may is = first_holds (may_fail s false) (permits_unread s name) may
may_fail_more s (Listed ok) may is = or_not ok (nat_lt s.failures s.term.faults) (second_holds (is_at IsRooted s) (may_fail s ok) may) is
may_fail_more s (Listens port ok) may is = or_not ok (nat_lt s.failures s.term.faults) (second_holds (permits_listens s port) (may_fail s ok) may) is
may_fail_more s (Configured file text) may is = or_not (is_some text) (nat_lt s.failures s.term.faults) (second_holds (permits_configured s file) (may_fail s (is_some text)) may) is
may_fail_more s (Woke image) may is = absurd (cc is)
may_fail_more s (Waits w) may is = absurd (cc is)
may_fail_more s (Clock seconds) may is = absurd (cc is)
may_fail_more s (Opened n) may is = absurd (cc is)
may_fail_more s (CanRead n) may is = absurd (cc is)
may_fail_more s (CanWrite n) may is = absurd (cc is)
may_fail_more s (Heard c bytes) may is = absurd (cc is)
may_fail_more s (HungUp c) may is = absurd (cc is)
may_fail_more s (Said c offered bytes) may is = absurd (cc is)
may_fail_more s (Shut c) may is = absurd (cc is)
may_fail_more s (Dialled n host port) may is = absurd (cc is)
may_fail_more s (Reached k) may is = absurd (cc is)
may_fail_more s (Ended k) may is = absurd (cc is)
may_fail_more s (Broke k) may is = absurd (cc is)
may_fail_more s (Asked k bytes) may is = absurd (cc is)
may_fail_more s (Got k bytes) may is = absurd (cc is)
may_fail_more s (Dropped k) may is = absurd (cc is)
may_fail_more s (NoneYet n) may is = absurd (cc is)
may_fail_more s (Began op) may is = absurd (cc is)
may_fail_more s (Noted remark) may is = absurd (cc is)
may_fail_more s (Rooted folder) may is = absurd (cc is)
may_fail_more s (Printed text) may is = absurd (cc is)
may_fail_more s Stopped may is = absurd (cc is)

-- ---- a life begins without any

set_failures : (o : Option Settings) (s : State) → (with_settings o s).failures ≡ s.failures
unfolding with_settings
set_failures None s = refl
set_failures (Some settings) s = refl

begun_failures : (s : State) → (begun s).failures ≡ s.failures
unfolding begun
begun_failures s = by (are_texts s.term) (names_file s.term)
  where
    by : (texts names : Bool)
        → (elim texts as (λ c. State) [
          | false ↦ with_settings None s
          | true ↦ elim names as (λ c. State) [ true ↦ record s { phase = IsWoken } | false ↦ with_settings (settings_in (reading_of s.term.words None)) s ]
        ]).failures ≡ s.failures
    by false names = set_failures None s
    by true true = refl
    by true false = set_failures (settings_in (reading_of s.term.words None)) s

woken_none : (image : Files) (s : State) → (woken image s).failures ≡ 0
unfolding woken
woken_none image s = begun_failures _

wakes_none : (s : State) (h : Happening) → wakes h ≡ true → (after s h).failures ≡ 0
unfolding changed
wakes_none s (Woke image) is = woken_none image s
wakes_none s (Waits w) is = absurd (cc is)
wakes_none s (Clock seconds) is = absurd (cc is)
wakes_none s (Opened n) is = absurd (cc is)
wakes_none s (CanRead n) is = absurd (cc is)
wakes_none s (CanWrite n) is = absurd (cc is)
wakes_none s (Heard c bytes) is = absurd (cc is)
wakes_none s (HungUp c) is = absurd (cc is)
wakes_none s (Said c offered bytes) is = absurd (cc is)
wakes_none s (Shut c) is = absurd (cc is)
wakes_none s (Dialled n host port) is = absurd (cc is)
wakes_none s (Undialled host port) is = absurd (cc is)
wakes_none s (Reached k) is = absurd (cc is)
wakes_none s (Ended k) is = absurd (cc is)
wakes_none s (Broke k) is = absurd (cc is)
wakes_none s (Asked k bytes) is = absurd (cc is)
wakes_none s (Got k bytes) is = absurd (cc is)
wakes_none s (Dropped k) is = absurd (cc is)
wakes_none s (NoneYet n) is = absurd (cc is)
wakes_none s (Began op) is = absurd (cc is)
wakes_none s (Did op ok) is = absurd (cc is)
wakes_none s (Unread name) is = absurd (cc is)
wakes_none s (Noted remark) is = absurd (cc is)
wakes_none s (Rooted folder) is = absurd (cc is)
wakes_none s (Listed ok) is = absurd (cc is)
wakes_none s (Listens port ok) is = absurd (cc is)
wakes_none s (Configured file text) is = absurd (cc is)
wakes_none s (Printed text) is = absurd (cc is)
wakes_none s Stopped is = absurd (cc is)

-- ---- there are never more than there may be

abbrev Fine : State → Type 0
Fine s = s.failures ≤ s.term.faults

lawful_front : (s : State) (front rest : Log) → LawfulFrom s (front ++ rest) → LawfulFrom s front
lawful_front s [] rest lawful = tt
lawful_front s (h ∷ front) rest lawful = (lawful.0, lawful_front (after s h) front rest lawful.1)

-- one more
counted_fine : (b : Bool) (s t : State) → GoesOnIn s t b → (b ≡ true → IsLess s) → Fine s → Fine t
counted_fine true s t goes less fine =
    subst (λ (n : ℕ). n ≤ t.term.faults) (sym goes.failures) (subst (λ (w : Term). s.failures + 1 ≤ w.faults) (sym goes.term) (below s.failures s.term.faults (less refl)))
  where
    below : (a b : ℕ) → nat_lt a b ≡ true → a + 1 ≤ b
    below a b is = grind (arith, nat_tests)
counted_fine false s t goes less fine = subst (λ (n : ℕ). n ≤ t.term.faults) (sym goes.failures) (subst (λ (w : Term). s.failures ≤ w.faults) (sym goes.term) fine)

goes_in : (terms : List Term) (front : Log) (h : Happening) (rest : Log) → Lawful terms (front ++ h ∷ rest) → wakes h ≡ false → GoesOnIn (state_after terms front) (after (state_after terms front) h) (fails h)
goes_in terms front h rest lawful awake =
    life_goes_on (state_after terms front) h awake (back_from (start terms) front (h ∷ rest) lawful).0 (obeys_good (obeys_at_first terms front (lawful_front (start terms) front (h ∷ rest) lawful)))

one_fine : (terms : List Term) (front : Log) (h : Happening) (rest : Log) → Lawful terms (front ++ h ∷ rest) → Fine (state_after terms front) → Fine (after (state_after terms front) h)
one_fine terms front h rest lawful fine = by (wakes h) refl
  where
    none : (m n : ℕ) → m ≡ 0 → m ≤ n
    none m n is = omega (arith, is)

    by : (b : Bool) → wakes h ≡ b → Fine (after (state_after terms front) h)
    by true is = none (after (state_after terms front) h).failures (after (state_after terms front) h).term.faults (wakes_none (state_after terms front) h is)
    by false is =
        counted_fine (fails h) (state_after terms front) (after (state_after terms front) h) (goes_in terms front h rest lawful is)
        (may_fail_more (state_after terms front) h (permitted_wide (state_after terms front) h (back_from (start terms) front (h ∷ rest) lawful).0)) fine

snoc_state : (terms : List Term) (front : Log) (h : Happening) → state_after terms (front ++ h ∷ []) ≡ after (state_after terms front) h
snoc_state terms front h = after_all-append (start terms) front (h ∷ [])

all_fine : (terms : List Term) (front rest : Log) → Lawful terms (front ++ rest) → Fine (state_after terms front) → Fine (state_after terms (front ++ rest))
all_fine terms front [] lawful fine = subst (λ (log : Log). Fine (state_after terms log)) (sym (append-nil front)) fine
all_fine terms front (h ∷ rest) lawful fine =
    subst (λ (log : Log). Fine (state_after terms log)) (append_assoc front (h ∷ []) rest)
    (all_fine terms (front ++ h ∷ []) rest (subst (λ (log : Log). Lawful terms log) (sym (append_assoc front (h ∷ []) rest)) lawful)
    (subst Fine (sym (snoc_state terms front h)) (one_fine terms front h rest lawful fine)))

-- ---- those of a log are counted

abbrev AreAwake : Log → Type 0
AreAwake [] = Unit {0}
AreAwake (h ∷ hs) = (wakes h ≡ false) × AreAwake hs

awake_of : (hs : Log) (s t : State) → Leads hs s t → AreAwake hs
awake_of [] s t leads = tt
awake_of (h ∷ hs) s t leads = (leads.awake, awake_of hs (after s h) t leads.holds)

record Counts (s t : State) (n : ℕ) : Type 0 where
  failures : t.failures ≡ s.failures + n
  term : t.term ≡ s.term

counts_one : (b : Bool) (s t u : State) (n all : ℕ) → GoesOnIn s t b → Counts t u n → all ≡ cond b 1 0 + n → Counts s u all
counts_one true s t u n all goes more is = record { failures = sum u.failures t.failures s.failures n all more.failures goes.failures is; term = more.term ∙ goes.term }
  where
    sum : (a b c d e : ℕ) → a ≡ b + d → b ≡ c + 1 → e ≡ 1 + d → a ≡ c + e
    sum a b c d e one two three = omega (arith, one, two, three)
counts_one false s t u n all goes more is = record { failures = sum u.failures t.failures s.failures n all more.failures goes.failures is; term = more.term ∙ goes.term }
  where
    sum : (a b c d e : ℕ) → a ≡ b + d → b ≡ c → e ≡ 0 + d → a ≡ c + e
    sum a b c d e one two three = omega (arith, one, two, three)

no_more : (n : ℕ) → n ≡ n + 0
no_more n = omega arith

counts : (terms : List Term) (front hs : Log) → Lawful terms (front ++ hs) → AreAwake hs → Counts (state_after terms front) (state_after terms (front ++ hs)) (count_by fails hs)
counts terms front [] lawful awake = subst (λ (log : Log). Counts (state_after terms front) (state_after terms log) 0) (sym (append-nil front)) (record { failures = no_more (state_after terms front).failures; term = refl })
counts terms front (h ∷ hs) lawful awake =
    let more : Counts (state_after terms (front ++ h ∷ [])) (state_after terms ((front ++ h ∷ []) ++ hs)) (count_by fails hs) =
    counts terms (front ++ h ∷ []) hs (subst (λ (log : Log). Lawful terms log) (sym (append_assoc front (h ∷ []) hs)) lawful) awake.1 in
    counts_one (fails h) (state_after terms front) (after (state_after terms front) h) (state_after terms (front ++ h ∷ hs)) (count_by fails hs) (count_by fails (h ∷ hs)) (goes_in terms front h hs lawful awake.0)
    (subst (λ (log : Log). Counts (after (state_after terms front) h) (state_after terms log) (count_by fails hs)) (append_assoc front (h ∷ []) hs)
    (subst (λ (r : State). Counts r (state_after terms ((front ++ h ∷ []) ++ hs)) (count_by fails hs)) (snoc_state terms front h) more)) (count_first fails h hs)

-- ---- some phases on

phases_count : (n : ℕ) (r s : State) → phases_on n r ≡ s → Counts r s 0
phases_count zero r s is = subst (λ (t : State). Counts r t 0) is (record { failures = no_more r.failures; term = refl })
phases_count (suc n) r s is =
    let rest : Counts (next r) s 0 = phases_count n (next r) s is in record {
      failures = rest.failures ∙ ap (λ (m : ℕ). m + 0) (ap (λ (o : Frame). o.failures) (next-frame true r));
      term = rest.term ∙ ap (λ (o : Frame). o.term) (next-frame true r);
    }

pub afforded : WhatIsLawfulIsAfforded
afforded terms before hs s t u obeys leads behind =
    let r : State = state_after terms before in
    let v : State = state_after terms (before ++ hs) in
    let on : Counts r s 0 = phases_count obeys.goes.phases r s obeys.goes.there in
    let all : Counts r v (count_by fails hs) = counts terms before hs behind.lawful (awake_of hs s t leads) in
    let fine : Fine v = all_fine terms [] (before ++ hs) behind.lawful (omega arith) in
    subst (λ (w : Term). s.failures + count_by fails hs ≤ w.faults) (sym on.term)
    (subst (λ (w : Term). s.failures + count_by fails hs ≤ w.faults) all.term (in_all s.failures r.failures v.failures (count_by fails hs) v.term.faults on.failures all.failures fine))
  where
    in_all : (a b c n f : ℕ) → a ≡ b + 0 → c ≡ b + n → c ≤ f → a + n ≤ f
    in_all a b c n f one two less = omega (arith, one, two, less)
