-- A log goes on step by step: by happenings that lead there, by a phase that is done, and by both.
use Rattle.std.proofs.Common.{◌≡◌, ◌≤◌, refl, sym, subst, ap, ◌∙◌, ℕ, ◌+◌, Bool, true, false, cond, List, [], ◌∷◌, ◌++◌, append_assoc, append-nil, length-append, nat_lt, arith, Option}
use Rattle.std.proofs.lemmas.Bool.Decides.{nat_tests}
use Rattle.std.specs.Prelude.{count_by}
use Rattle.pp_cache_law.proofs.PairLemmas.{count_first, count_joined}
use Rattle.pp_law.specs.After.{after}
use Rattle.pp_law.specs.Opening.{may_fail}
use Rattle.pp_law.specs.Phases.{is_done, next}
use Rattle.pp_law.specs.State.{State, Term}
use Rattle.pp_obeys.proofs.Frames.{Frame}
use Rattle.pp_obeys.proofs.Happenings.{obeys_by}
use Rattle.pp_obeys.proofs.Obeying.{life_goes_on, obeys_good, obeys_silently}
use Rattle.pp_obeys.proofs.StaysTurns.{next-frame}
use Rattle.pp_obeys.specs.Calls.{Passes}
use Rattle.pp_obeys.specs.Failures.{GoesOnIn, fails}
use Rattle.pp_obeys.specs.Moves.{Adds, Is, Leads}
use Rattle.pp_obeys.specs.Obeys.{From, Keeps, Obeys, Stands}
use Rattle.pp_rounds_law.specs.Coming.{Affords, ComesTo, ComesWhere, ComingKeeps, IsBrief}
use Rattle.pp_world.specs.Log.{Log}

-- so many failures, if any, are allowed
abbrev pub Enough : State → ℕ → Type 0
Enough s n = 1 ≤ n → s.failures + n ≤ s.term.faults

pub enough_of : (s : State) (hs : Log) → Affords s hs → Enough s (count_by fails hs)
enough_of s hs affords some = affords

pub none_fail : (s : State) (n : ℕ) → n ≡ 0 → Enough s n
none_fail s n none some = absurd (omega (arith, none, some))

abbrev one : Bool → ℕ
one b = cond b 1 0

more_enough : (b : Bool) (s t : State) (n : ℕ) → GoesOnIn s t b → Enough s (one b + n) → Enough t n
more_enough true s t n goes enough some =
    let was : s.failures + (1 + n) ≤ s.term.faults = enough (omega arith) in
    subst (λ (m : ℕ). m + n ≤ t.term.faults) (sym goes.failures) (subst (λ (w : Term). (s.failures + 1) + n ≤ w.faults) (sym goes.term) (omega (arith, was)))
more_enough false s t n goes enough some =
    let was : s.failures + (0 + n) ≤ s.term.faults = enough (omega (arith, some)) in
    subst (λ (m : ℕ). m + n ≤ t.term.faults) (sym goes.failures) (subst (λ (w : Term). s.failures + n ≤ w.faults) (sym goes.term) (omega (arith, was)))

fails_once : (b : Bool) (s : State) (n : ℕ) → Enough s (one b + n) → b ≡ true → may_fail s false ≡ true
fails_once true s n enough is =
    let was : s.failures + (1 + n) ≤ s.term.faults = enough (omega arith) in below s.failures s.term.faults (omega (arith, was))
  where
    below : (a b : ℕ) → a + 1 ≤ b → nat_lt a b ≡ true
    below a b lt = grind (arith, nat_tests)
fails_once false s n enough is = absurd (cc is)

sum_of : (b : Bool) (now n all : ℕ) (s t : State) → GoesOnIn s t b → all ≡ one b + n → now ≡ t.failures + n → now ≡ s.failures + all
sum_of true now n all s t goes count is = let more : t.failures ≡ s.failures + 1 = goes.failures in omega (arith, count, is, more)
sum_of false now n all s t goes count is = let more : t.failures ≡ s.failures = goes.failures in omega (arith, count, is, more)

pub comes_by : (terms : List Term) (hs before : Log) (s t : State) → Enough s (count_by fails hs) → Obeys terms s before → Leads hs s t → ComesTo terms before hs s t
comes_by terms [] before s t enough obeys is = record {
  obeys = subst (λ (log : Log). Obeys terms t log) (sym (append-nil before)) (subst (λ (u : State). Obeys terms u before) is obeys);
  failures = ap (λ (u : State). u.failures) (sym is) ∙ omega arith;
  term = ap (λ (u : State). u.term) (sym is);
}
comes_by terms (h ∷ hs) before s t enough obeys moves =
    let count : count_by fails (h ∷ hs) ≡ one (fails h) + count_by fails hs = count_first fails h hs in
    let less : Enough s (one (fails h) + count_by fails hs) = subst (λ (n : ℕ). Enough s n) count enough in
    let may : fails h ≡ true → may_fail s false ≡ true = λ is. fails_once (fails h) s (count_by fails hs) less is in
    let goes : GoesOnIn s (after s h) (fails h) = life_goes_on s h moves.awake (moves.may may) (obeys_good obeys) in
    let step : Obeys terms (after s h) (before ++ h ∷ []) = obeys_by h obeys (record { may = moves.may; leads = refl }) may in
    let rest : ComesTo terms (before ++ h ∷ []) hs (after s h) t = comes_by terms hs (before ++ h ∷ []) (after s h) t (more_enough (fails h) s (after s h) (count_by fails hs) goes less) step moves.holds in
    record {
      obeys = subst (λ (log : Log). Obeys terms t log) (append_assoc before (h ∷ []) hs) rest.obeys;
      failures = sum_of (fails h) t.failures (count_by fails hs) (count_by fails (h ∷ hs)) s (after s h) goes count rest.failures;
      term = rest.term ∙ goes.term;
    }

pub comes_silently : (terms : List Term) (before : Log) (s : State) → Obeys terms s before → is_done s ≡ true → ComesTo terms before [] s (next s)
comes_silently terms before s obeys done = record {
  obeys = subst (λ (log : Log). Obeys terms (next s) log) (sym (append-nil before)) (obeys_silently obeys done);
  failures = ap (λ (o : Frame). o.failures) (next-frame true s) ∙ omega arith;
  term = ap (λ (o : Frame). o.term) (next-frame true s);
}

pub comes_then : (terms : List Term) (before first rest : Log) (s t u : State) → ComesTo terms before first s t → ComesTo terms (before ++ first) rest t u → ComesTo terms before (first ++ rest) s u
comes_then terms before first rest s t u a b = record {
  obeys = subst (λ (log : Log). Obeys terms u log) (append_assoc before first rest) b.obeys;
  failures = omega (arith, a.failures, b.failures, count_joined fails first rest);
  term = b.term ∙ a.term;
}

-- what is allowed before is allowed behind the first
pub affords_then : (terms : List Term) (before first rest : Log) (s t : State) → ComesTo terms before first s t → Affords s (first ++ rest) → Affords t rest
affords_then terms before first rest s t comes affords =
    subst (λ (n : ℕ). n + count_by fails rest ≤ t.term.faults) (sym comes.failures)
    (subst (λ (w : Term). (s.failures + count_by fails first) + count_by fails rest ≤ w.faults) (sym comes.term) (omega (arith, affords, count_joined fails first rest)))

pub affords_front : (s : State) (first rest : Log) → Affords s (first ++ rest) → Affords s first
affords_front s first rest affords = omega (arith, affords, count_joined fails first rest)

-- so many happenings: in all of it, and in what stands before
pub brief_before : (most : ℕ) (before log : Log) → IsBrief most (before ++ log) → IsBrief most before
brief_before most before log brief = omega (arith, brief, length-append before log)

pub brief_then : (most : ℕ) (before first rest : Log) → IsBrief most (before ++ (first ++ rest)) → IsBrief most ((before ++ first) ++ rest)
brief_then most before first rest brief = subst (λ (hs : Log). IsBrief most hs) (sym (append_assoc before first rest)) brief

pub brief_front : (most : ℕ) (before first rest : Log) → IsBrief most (before ++ (first ++ rest)) → IsBrief most (before ++ first)
brief_front most before first rest brief = brief_before most (before ++ first) rest (brief_then most before first rest brief)

pub brief_as : (most : ℕ) (before log hs : Log) → log ≡ hs → IsBrief most (before ++ log) → IsBrief most (before ++ hs)
brief_as most before log hs is brief = subst (λ (ks : Log). IsBrief most (before ++ ks)) is brief

-- ---- calls that add them

in_budget : (failed base count before now budget most : ℕ) → failed + base ≤ before → before + count ≤ now → now ≤ budget + base → budget ≤ most → failed + count ≤ most
in_budget failed base count before now budget most one two three four = omega (arith, one, two, three, four)

counted_in : (failed base count before now other : ℕ) → failed + base ≤ before → before + count ≤ now → other ≡ failed + count → other + base ≤ now
counted_in failed base count before now other one two is = omega (arith, one, two, is)

still_enough : (before count now budget base : ℕ) → before + count ≤ now → now ≤ budget + base → before ≤ budget + base
still_enough before count now budget base one two = omega (arith, one, two)

allowed_in : (s t : State) (budget : ℕ) → t.term ≡ s.term → budget ≤ s.term.faults → budget ≤ t.term.faults
allowed_in s t budget same less = subst (λ (w : Term). budget ≤ w.faults) (sym same) less

pub keeps_coming : {old new : Option Log} (before now : ℕ) (hs : Log) (P Q : State → Type 0) → Adds old new before now (Is hs) → ((terms : List Term) (log : Log) (s : State) → P s → Obeys terms s log → Affords s hs → ComesWhere Q terms log hs s) → Keeps old new before now P Q
keeps_coming {old} {new} before now hs P Q adds step = record {
  keeps = λ life known. record {
    at = λ l is.
        let was = adds.was l is in
        let stood : Stands life before P was.0 = known.at was.0 was.2 in
        let less : before + count_by fails hs ≤ now = subst (λ (ks : Log). before + count_by fails ks ≤ now) was.4 was.5 in
        subst (λ (k : Log). Stands life now Q k) (sym (was.3 ∙ ap (λ (ks : Log). was.0 ++ ks) was.4)) (record {
          at = λ budget enough.
              let from : From life budget before P was.0 = stood.at budget (still_enough before (count_by fails hs) now budget life.base less enough) in
              let came : ComesWhere Q (life.terms budget) was.0 hs from.state =
              step (life.terms budget) was.0 from.state from.holds from.obeys
              (in_budget from.state.failures life.base (count_by fails hs) before now budget from.state.term.faults from.allows.failed less enough from.allows.allowed) in
              record {
                state = came.then;
                obeys = came.comes.obeys;
                allows = record {
                  failed = counted_in from.state.failures life.base (count_by fails hs) before now came.then.failures from.allows.failed less came.comes.failures;
                  allowed = allowed_in from.state came.then budget came.comes.term from.allows.allowed;
                };
                holds = came.holds;
              };
        });
  };
}

pub coming_keeps : ComingKeeps
coming_keeps old new before now hs p q adds step = keeps_coming before now hs (Passes p) (Passes q) adds step
