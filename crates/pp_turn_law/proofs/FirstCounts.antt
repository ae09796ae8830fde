-- As a life begins each failure of the outside is counted.
use Rattle.std.proofs.Common.{◌≡◌, ◌≤◌, refl, sym, subst, ap, ◌∙◌, ℕ, ◌+◌, Bool, true, false, [], ◌∷◌, ◌++◌, append_assoc, is_some, Option, Some, None, arith}
use Rattle.std.specs.Prelude.{count_by}
use Rattle.pp_conf.specs.Conf.{Settings}
use Rattle.pp_conf.specs.Words.{file_of, reading_of}
use Rattle.pp_joints_law.specs.Opened.{asked_for}
use Rattle.pp_law.specs.Lists.{Bytes}
use Rattle.pp_law.specs.Opening.{are_texts, begun, names_file, settings_in, term_in, with_settings, woken}
use Rattle.pp_law.specs.State.{State, Term, IsWoken}
use Rattle.pp_links.proofs.FailureLemmas.{failures-append}
use Rattle.pp_obeys.specs.Failures.{fails}
use Rattle.pp_world.specs.Files.{Files}
use Rattle.pp_world.specs.Log.{Log}
use Rattle.pp_world.specs.declared.happening.Happening.TheVariants.{Listens}
use Rattle.pp_turn_law.proofs.Kept.{some_log}
use Rattle.pp_turn_law.specs.Opening.{CountedOnesAreAfforded, ListenedOnesAllow, OpeningsAreCounted}

-- ---- a life that wakes has no failure yet

pub record HasNone (t : Term) (s : State) : Type 0 where
  pub failures : s.failures ≡ 0
  pub term : s.term ≡ t

none_with : (t : Term) (o : Option Settings) (s : State) → HasNone t s → HasNone t (with_settings o s)
unfolding with_settings
none_with t None s none = record { failures = none.failures; term = none.term }
none_with t (Some c) s none = record { failures = none.failures; term = none.term }

none_begun : (t : Term) (s : State) → HasNone t s → HasNone t (begun s)
unfolding begun
none_begun t s none = by (are_texts s.term) (names_file s.term)
  where
    by : (texts named : Bool) → HasNone t (elim texts as (λ b. State) [ false ↦ with_settings None s | true ↦ elim named as (λ b. State) [ true ↦ record s { phase = IsWoken } | false ↦ with_settings (settings_in (reading_of s.term.words None)) s ] ])
    by false named = none_with t None s none
    by true true = record { failures = none.failures; term = none.term }
    by true false = none_with t (settings_in (reading_of s.term.words None)) s none

pub none_woken : (files : Files) (s : State) → HasNone (term_in s.terms) (woken files s)
unfolding woken
none_woken files s = none_begun (term_in s.terms) _ (record { failures = refl; term = refl })

-- ---- the steps of the opening

-- FILE was read
pub asked_none : (named text : Option Bytes) → is_some text ≡ is_some named → count_by fails (asked_for named text) ≡ 0
asked_none None text both = refl
asked_none (Some file) (Some bytes) both = refl
asked_none (Some file) None both = absurd (cc both)

in_all : (before between after now a b c : ℕ) → before ≤ between → between + b ≤ after → after ≤ now → a ≡ 0 → c ≡ 0 → before + (a + (b + c)) ≤ now
in_all before between after now a b c h1 h2 h3 none last = omega (arith, h1, h2, h3, none, last)

pub same_added : (front one two : Log) → front ++ one ≡ front ++ two → one ≡ two
same_added [] one two is = is
same_added (h ∷ hs) one two is = same_added hs one two (cc is)

pub counted : OpeningsAreCounted
counted words text c front log added old asked opened new before between after now h was asks first opens listens last is whole =
    let end = listens.was log is in
    let mid = opens.was end.0 end.1 in
    let start = asks.was mid.0 mid.2 in
    let said : Log = asked_for (file_of words) text in
    let there : start.0 ≡ front = some_log start.0 front (sym start.1 ∙ was) in
    let at : mid.0 ≡ front ++ said = start.2 ∙ ap (λ (k : Log). k ++ said) there in
    let all : log ≡ front ++ (said ++ (mid.1 ++ Listens c.port true ∷ [])) =
    end.2 ∙ ap (λ (k : Log). k ++ Listens c.port true ∷ []) (mid.3 ∙ ap (λ (k : Log). k ++ mid.1) at)
    ∙ append_assoc (front ++ said) mid.1 (Listens c.port true ∷ []) ∙ append_assoc front said (mid.1 ++ Listens c.port true ∷ []) in
    let same : added ≡ said ++ (mid.1 ++ Listens c.port true ∷ []) = same_added front added (said ++ (mid.1 ++ Listens c.port true ∷ [])) (sym whole ∙ all) in
    let sum : count_by fails added ≡ count_by fails said + (count_by fails mid.1 + count_by fails (Listens c.port true ∷ [])) =
    ap (count_by fails) same ∙ failures-append said (mid.1 ++ Listens c.port true ∷ []) ∙ ap (λ (n : ℕ). count_by fails said + n) (failures-append mid.1 (Listens c.port true ∷ [])) in
    subst (λ (n : ℕ). before + n ≤ now) (sym sum)
    (in_all before between after now (count_by fails said) (count_by fails mid.1) (count_by fails (Listens c.port true ∷ [])) first mid.4 last (asked_none (file_of words) text h.named) refl)

-- ---- so many there may be

within : (failures base n now budget most : ℕ) → failures ≡ 0 → base + n ≤ now → now ≤ budget + base → budget ≤ most → failures + n ≤ most
within failures base n now budget most none counted few less = omega (arith, none, counted, few, less)

pub afforded : CountedOnesAreAfforded
afforded life budget now files s added less counted few =
    let none : HasNone (term_in s.terms) (woken files s) = none_woken files s in
    within (woken files s).failures life.base (count_by fails added) now budget (woken files s).term.faults none.failures counted few (subst (λ (t : Term). budget ≤ t.faults) (sym none.term) less)

so_many : (before n after base now : ℕ) → before ≡ 0 → after ≡ before + n → base + n ≤ now → after + base ≤ now
so_many before n after base now none is counted = omega (arith, none, is, counted)

pub listened_allow : ListenedOnesAllow
listened_allow life budget now terms front log c shelf given files s it less counted =
    let none : HasNone (term_in s.terms) (woken files s) = none_woken files s in
    record {
      failed = so_many (woken files s).failures (count_by fails it.added) it.comes.then.failures life.base now none.failures it.comes.comes.failures counted;
      allowed = subst (λ (t : Term). budget ≤ t.faults) (sym (it.comes.comes.term ∙ none.term)) less;
    }
