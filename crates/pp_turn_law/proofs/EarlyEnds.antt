-- A life that does not come to serve, or shows the demo.
use Rattle.std.proofs.Common.{◌≡◌, ◌≤◌, refl, sym, subst, ap, ◌∙◌, inl, inr, ℕ, ◌+◌, true, false, not, List, [], ◌∷◌, ◌++◌, append_assoc, is_some, map, Option, Some, None, Result, Ok, Err, le_trans, arith}
use Rattle.std.proofs.lemmas.List.{append-nil}
use Rattle.std.specs.List.{list_all, list_any}
use Rattle.std.specs.Prelude.{count_by, string_bytes}
use Rattle.std.specs.Str.{is_utf8}
use Rattle.pp_conf.specs.Conf.{Settings}
use Rattle.pp_conf.specs.Words.{Serves, file_of, has_reading, reading_of, seed_of}
use Rattle.pp_demo.specs.Summary.{summary_text}
use Rattle.pp_joints_law.proofs.OpenedBreaks.{doors_stay, folders_break, lives_break, words_break}
use Rattle.pp_joints_law.proofs.OpenedFresh.{fresh_asked, fresh_woken}
use Rattle.pp_joints_law.proofs.OpenedWords.{strings_are, words_lead}
use Rattle.pp_joints_law.specs.Opened.{StandsConfigured, StillOpens, asked_for}
use Rattle.pp_law.specs.Lists.{Bytes}
use Rattle.pp_law.specs.Opening.{is_same_phase, woken}
use Rattle.pp_law.specs.Phases.{is_under_way, may_end, phases}
use Rattle.pp_law.specs.State.{State, Phase, Term, Before, IsWoken, IsConfigured, IsRooted, IsListed, IsListening, IsStuck, Awaiting, Handling, Evicting, Keeping, Deciding, Following, Connecting, DecidingAgain}
use Rattle.pp_laws.proofs.Tests.{first_holds}
use Rattle.pp_laws_unused.proofs.Laws.{openings_are_unused}
use Rattle.pp_links.proofs.FailureLemmas.{failures-append}
use Rattle.pp_obeys.proofs.Moving.{moves_append, moves_map}
use Rattle.pp_obeys.specs.Failures.{fails}
use Rattle.pp_obeys.specs.Moves.{MovesAll}
use Rattle.pp_obeys.specs.Obeys.{Life}
use Rattle.pp_recover.specs.Faults.{CountsFailures}
use Rattle.pp_recover.specs.Looks.{Extends}
use Rattle.pp_recover.specs.Opening.{IsFresh}
use Rattle.pp_recover.specs.declared.faults.RecoverFault.{RecoverFault}
use Rattle.pp_recover.specs.declared.faults.RecoverFault.TheVariants.{DiskFault, OutOfMemory}
use Rattle.pp_rounds_law.specs.Coming.{ComesWhere}
use Rattle.pp_run.proofs.Judging.{asks, judged}
use Rattle.pp_run.specs.Breaks.{BreaksAs, BreaksWith, HasAsked, LeavesFolder, MayNotListenOn, Prints, PrintsOn}
use Rattle.pp_run.specs.Exits.{EndsAs, JudgesWords, asked_for as asks_for, asks_to_serve}
use Rattle.pp_run.specs.Lines.{fault_line, no_disk_line, no_listener_line, no_memory_line, unread_line, usage_line}
use Rattle.pp_run.specs.Lives.{OpensFolder, Outside}
use Rattle.pp_run.specs.declared.ending.Exit.{Exit}
use Rattle.pp_run.specs.declared.ending.Exit.TheVariants.{NoConfig, NoDisk, NoListener, NoMemory, Served, ServedAstray, Usage}
use Rattle.pp_shelf.specs.Opening.{Recovers}
use Rattle.pp_store.specs.Kept.{KeptMap}
use Rattle.pp_world.proofs.CallLemmas.{appends_then}
use Rattle.pp_world.specs.Files.{Files}
use Rattle.pp_world.specs.Log.{AppendsAll, Log, Rises}
use Rattle.pp_world.specs.declared.happening.Happening.TheVariants.{Listens, Printed, Woke}
use Rattle.pp_turn_law.proofs.FewNames.{few_names}
use Rattle.pp_turn_law.proofs.FirstCounts.{asked_none, none_woken, same_added}
use Rattle.pp_turn_law.proofs.Kept.{some_log}
use Rattle.pp_turn_law.proofs.LifeServed.{same_asked}
use Rattle.pp_turn_law.proofs.WaysOut.{none_over}
use Rattle.pp_turn_law.proofs.Woken.{asked_disk, woke_rises, woken_opens}
use Rattle.pp_turn_law.specs.Ended.{EarlyEndsAreLawful, EndsLawfully, ends_early}
use Rattle.pp_turn_law.specs.Lives.{Wakes}

-- no turn is under way in an opening
none_under : (p : Phase) → list_any (λ q. is_same_phase q p) (IsWoken ∷ IsConfigured ∷ IsRooted ∷ IsListed ∷ IsListening ∷ IsStuck ∷ []) ≡ true → list_any (λ q. is_same_phase q p) phases ≡ false
none_under Before is = absurd (cc is)
none_under IsWoken is = refl
none_under IsConfigured is = refl
none_under IsRooted is = refl
none_under IsListed is = refl
none_under IsListening is = refl
none_under IsStuck is = refl
none_under Awaiting is = absurd (cc is)
none_under Handling is = absurd (cc is)
none_under Evicting is = absurd (cc is)
none_under Keeping is = absurd (cc is)
none_under Deciding is = absurd (cc is)
none_under Following is = absurd (cc is)
none_under Connecting is = absurd (cc is)
none_under DecidingAgain is = absurd (cc is)

-- as many as the life may have
in_budget : (failures n budget most : ℕ) → failures ≡ 0 → n ≤ budget → budget ≤ most → failures + n ≤ most
in_budget failures n budget most none fewer less = omega (arith, none, fewer, less)

-- one was counted
one_in_budget : (log : Option Log) (after : Log) (before now budget base : ℕ) → log ≡ Some after → Rises log before now → base ≤ before → now ≤ budget + base → 1 ≤ budget
one_in_budget log after before now budget base told (inl less) counted few = omega (arith, less, counted, few)
one_in_budget log after before now budget base told (inr none) counted few = absurd (let both : Some after ≡ None = sym told ∙ none.0 in cc both)

-- what came as the folder was opened was counted
all_in_budget : (base before asked n opened now budget : ℕ) → base ≤ before → before ≤ asked → asked + n ≤ opened → opened ≤ now → now ≤ budget + base → n ≤ budget
all_in_budget base before asked n opened now budget h1 h2 h3 h4 few = omega (arith, h1, h2, h3, h4, few)

-- and so was one more
more_in_budget : (log : Option Log) (l : Log) (base before asked n opened shut now budget : ℕ) → log ≡ Some l → Rises log opened shut → base ≤ before → before ≤ asked → asked + n ≤ opened → shut ≤ now → now ≤ budget + base → n + 1 ≤ budget
more_in_budget log l base before asked n opened shut now budget told (inl less) h1 h2 h3 h4 few = omega (arith, less, h1, h2, h3, h4, few)
more_in_budget log l base before asked n opened shut now budget told (inr none) h1 h2 h3 h4 few = absurd (let both : Some l ≡ None = sym told ∙ none.0 in cc both)

behind_none : (n a b most : ℕ) → n ≡ a + b → a ≡ 0 → b ≤ most → n ≤ most
behind_none n a b most is none less = omega (arith, is, none, less)

-- FILE may have failed
asked_one : (named : Option Bytes) → count_by fails (asked_for named None) ≤ 1
asked_one None = let is : count_by fails (asked_for None None) ≡ 0 = refl in omega (arith, is)
asked_one (Some file) = let is : count_by fails (asked_for (Some file) None) ≡ 1 = refl in omega (arith, is)

module _ (life : Life) (budget : ℕ) (words : List Bytes) (files : Files) (before after : Log) (x y : Outside) (texts : list_all is_utf8 words ≡ true) (wakes : Wakes life budget words files before x) (told : y.log ≡ Some after) (few : y.faults ≤ budget + life.base) where
  abbrev terms : List Term
  terms = life.terms budget

  abbrev front : Log
  front = before ++ Woke files ∷ []

  abbrev s : State
  s = woken files wakes.state

  -- ---- its line

  module _ (added : Log) (line : Bytes) (adds : AppendsAll x.log y.log (λ l. added ++ Printed line ∷ [])) (moves : MovesAll StillOpens added s) (fewer : count_by fails added ≤ budget) where
    fewer_all : count_by fails (added ++ Printed line ∷ []) ≤ budget
    fewer_all = subst (λ (n : ℕ). n ≤ budget) (sym (failures-append added (Printed line ∷ []))) (none_more (count_by fails added) (count_by fails (Printed line ∷ [])) budget refl fewer)
      where
        none_more : (n m most : ℕ) → m ≡ 0 → n ≤ most → n + m ≤ most
        none_more n m most none less = omega (arith, none, less)

    comes : ComesWhere StillOpens terms front (added ++ Printed line ∷ []) s
    comes =
        lives_break terms before wakes.state files added line wakes.obeys wakes.may moves
        (in_budget s.failures (count_by fails (added ++ Printed line ∷ [])) budget s.term.faults (none_woken files wakes.state).failures fewer_all (subst (λ (t : Term). budget ≤ t.faults) (sym (none_woken files wakes.state).term) wakes.faults))

    abbrev then : State
    then = comes.then

    is : after ≡ front ++ (added ++ Printed line ∷ [])
    is = let was = adds.was after told in was.2 ∙ ap (λ (k : Log). k ++ (added ++ Printed line ∷ [])) (same was.0 (sym was.1 ∙ wakes.told))
      where
        same : (k : Log) → Some k ≡ Some front → k ≡ front
        same k both = cc both

    line_ends : EndsLawfully terms front y
    line_ends = record {
      added = added ++ Printed line ∷ [];
      then = then;
      told = told ∙ ap (λ (l : Log). Some l) is;
      obeys = comes.comes.obeys;
      over = none_over (is_under_way then) (may_end then) then.is_stopped _ (none_under then.phase comes.holds.opens) (openings_are_unused terms then (front ++ (added ++ Printed line ∷ [])) comes.comes.obeys comes.holds.opens).goes;
    }

  -- ---- FILE is asked for where the words name one, and then the line is printed

  said : (text : Option Bytes) (line : Bytes) → has_reading words ≡ true → count_by fails (asked_for (file_of words) text) ≤ budget → AppendsAll x.log y.log (λ l. asks_for (file_of words) text ++ Printed line ∷ []) → EndsLawfully terms front y
  said text line reads fewer adds =
      line_ends (asked_for (file_of words) text) line
      (record { was = λ l is. let it = adds.was l is in (it.0, it.1, it.2 ∙ ap (λ (k : Log). it.0 ++ (k ++ Printed line ∷ [])) (same_asked (file_of words) text)) })
      (words_break words text files wakes.state texts (λ named. reads) wakes.words_are) fewer

  none_failed : (text : Option Bytes) → is_some text ≡ is_some (file_of words) → count_by fails (asked_for (file_of words) text) ≤ budget
  none_failed text named = subst (λ (n : ℕ). n ≤ budget) (sym (asked_none (file_of words) text named)) (omega arith)

  reads_so : asks_to_serve words ≡ true → has_reading words ≡ true
  reads_so asks = first_holds (has_reading words) (not (is_some (seed_of words))) asks

  -- ---- FILE is asked for, this came of its folder, and then the line is printed

  behind : (text : Option Bytes) (asked opened : Outside) (P : Log → Log → Type 0) (l : Log) → AppendsAll x.log asked.log (λ k. asks_for (file_of words) text) → Extends asked.log opened.log P → opened.log ≡ Some l
      → (hs : Log) × (l ≡ front ++ (asked_for (file_of words) text ++ hs)) × P (front ++ asked_for (file_of words) text) hs
  behind text asked opened P l asks opens at =
      let mid = opens.was l at in
      let start = asks.was mid.0 mid.2 in
      let named : Log = asked_for (file_of words) text in
      let there : mid.0 ≡ front ++ named = start.2 ∙ ap (λ (k : Log). start.0 ++ k) (same_asked (file_of words) text) ∙ ap (λ (k : Log). k ++ named) (some_log start.0 front (sym start.1 ∙ wakes.told)) in
      (mid.1, mid.3 ∙ ap (λ (k : Log). k ++ mid.1) there ∙ append_assoc front named mid.1, subst (λ (k : Log). P k mid.1) there mid.4)

  module _ (result : Result KeptMap RecoverFault) (line : Bytes) (rest : Log) (text : Option Bytes) (c : Settings) (asked opened : Outside) (l : Log) (named : is_some text ≡ is_some (file_of words)) (says : reading_of words text ≡ Ok (Serves c))
      (asks : AppendsAll x.log asked.log (λ k. asks_for (file_of words) text)) (recovers : Extends asked.log opened.log (λ k hs. (image : Files) → IsFresh image k → Recovers c.root result image k hs)) (counted : Extends asked.log opened.log (CountsFailures asked.faults opened.faults))
      (at : opened.log ≡ Some l) (is : after ≡ l ++ (rest ++ Printed line ∷ [])) (moves : (hs : Log) (t : State) → Recovers c.root result files (front ++ asked_for (file_of words) text) hs → StandsConfigured c files wakes.state.top t → MovesAll StillOpens (hs ++ rest) t)
      (fewer : (hs : Log) → asked.faults + count_by fails hs ≤ opened.faults → count_by fails (hs ++ rest) ≤ budget) where
    abbrev first : Log
    first = asked_for (file_of words) text

    abbrev printed : Log
    printed = Printed line ∷ []

    joined : (hs : Log) → (front ++ (first ++ hs)) ++ (rest ++ printed) ≡ front ++ ((first ++ (hs ++ rest)) ++ printed)
    joined hs =
        append_assoc front (first ++ hs) (rest ++ printed)
        ∙ ap (λ (k : Log). front ++ k) (append_assoc first hs (rest ++ printed) ∙ ap (λ (k : Log). first ++ k) (sym (append_assoc hs rest printed)) ∙ sym (append_assoc first (hs ++ rest) printed))

    folder_ends : EndsLawfully terms front y
    folder_ends =
        let one = behind text asked opened (λ k hs. (image : Files) → IsFresh image k → Recovers c.root result image k hs) l asks recovers at in
        let two = behind text asked opened (CountsFailures asked.faults opened.faults) l asks counted at in
        let hs : Log = one.0 in
        let same : two.0 ≡ hs = same_added first two.0 hs (same_added front (first ++ two.0) (first ++ hs) (sym two.1 ∙ one.1)) in
        line_ends (first ++ (hs ++ rest)) line
        (record { was = λ k told_k. (front, wakes.told, some_log k after (sym told_k ∙ told) ∙ is ∙ ap (λ (m : Log). m ++ (rest ++ printed)) one.1 ∙ joined hs) })
        (moves_append StillOpens first (hs ++ rest) s
        (moves_map (StandsConfigured c files wakes.state.top) (λ t. MovesAll StillOpens (hs ++ rest) t) (λ t stands. moves hs t (one.2 files (fresh_asked files front (file_of words) text (fresh_woken before files))) stands)
        first s (words_lead words text c files wakes.state (record { texts = texts; named = named; says = says }) wakes.words_are)))
        (behind_none _ (count_by fails first) (count_by fails (hs ++ rest)) budget (failures-append first (hs ++ rest)) (asked_none (file_of words) text named) (fewer hs (subst (λ (k : Log). asked.faults + count_by fails k ≤ opened.faults) same two.2)))

  -- the folder could not be listed, or memory was refused meanwhile
  unopened : (fault : RecoverFault) (line : Bytes) (text : Option Bytes) (c : Settings) (asked opened : Outside) → is_some text ≡ is_some (file_of words) → reading_of words text ≡ Ok (Serves c) → AppendsAll x.log asked.log (λ k. asks_for (file_of words) text) → x.faults ≤ asked.faults
      → LeavesFolder c.root fault asked opened → PrintsOn line opened y → EndsLawfully terms front y
  unopened fault line text c asked opened named says asks count left prints =
      let end = prints.told.was after told in
      folder_ends (Err fault) line [] text c asked opened end.0 named says asks left.recovers left.counted end.1 end.2
      (λ hs t recovers stands. subst (λ (k : Log). MovesAll StillOpens k t) (sym (append-nil hs))
      (folders_break c files fault wakes.state.top (front ++ asked_for (file_of words) text) hs t (woke_rises wakes.state files wakes.may) (few_names terms before wakes.state files wakes.obeys wakes.may)
      (fresh_asked files front (file_of words) text (fresh_woken before files)) (asked_disk files before (file_of words) text) recovers stands))
      (λ hs fewer. subst (λ (k : Log). count_by fails k ≤ budget) (sym (append-nil hs)) (all_in_budget life.base x.faults asked.faults (count_by fails hs) opened.faults y.faults budget wakes.counted count fewer prints.count few))

  -- it may not listen
  shut_out : (text : Option Bytes) (c : Settings) (shelf : KeptMap) (asked opened shut : Outside) → is_some text ≡ is_some (file_of words) → reading_of words text ≡ Ok (Serves c) → AppendsAll x.log asked.log (λ k. asks_for (file_of words) text) → x.faults ≤ asked.faults
      → OpensFolder c.root shelf asked opened → MayNotListenOn c.port opened shut → PrintsOn (no_listener_line c.port) shut y → EndsLawfully terms front y
  shut_out text c shelf asked opened shut named says asks count opens may prints =
      let end = prints.told.was after told in
      let mid = may.told.was end.0 end.1 in
      folder_ends (Ok shelf) (no_listener_line c.port) (Listens c.port false ∷ []) text c asked opened mid.0 named says asks opens.recovers opens.counted mid.1
      (end.2 ∙ ap (λ (k : Log). k ++ Printed (no_listener_line c.port) ∷ []) mid.2 ∙ append_assoc mid.0 (Listens c.port false ∷ []) (Printed (no_listener_line c.port) ∷ []))
      (λ hs t recovers stands. doors_stay c files shelf wakes.state.top (front ++ asked_for (file_of words) text) hs t (woke_rises wakes.state files wakes.may) (few_names terms before wakes.state files wakes.obeys wakes.may)
      (fresh_asked files front (file_of words) text (fresh_woken before files)) (asked_disk files before (file_of words) text) recovers stands)
      (λ hs fewer. subst (λ (n : ℕ). n ≤ budget) (sym (failures-append hs (Listens c.port false ∷ [])))
      (more_in_budget shut.log end.0 life.base x.faults asked.faults (count_by fails hs) opened.faults shut.faults y.faults budget end.1 may.rises wakes.counted count fewer prints.count few))

  -- memory was refused behind FILE
  refused : (has : HasAsked words NoMemory x y) → BreaksWith words has.text NoMemory has.asked y → EndsLawfully terms front y
  refused has breaks = by breaks
    where
      printed : Prints no_memory_line has.asked y → EndsLawfully terms front y
      printed prints = said has.text no_memory_line has.reads (none_failed has.text has.named) (appends_then (λ l. asks_for (file_of words) has.text) (λ l. Printed no_memory_line ∷ []) has.asks prints)

      by : BreaksWith words has.text NoMemory has.asked y → EndsLawfully terms front y
      by (inl prints) = printed prints
      by (inr (c, says, inl prints)) = printed prints
      by (inr (c, says, inr (opened, left, prints))) = unopened OutOfMemory no_memory_line has.text c has.asked opened has.named says has.asks has.count left prints

  unlisted : (has : HasAsked words NoDisk x y) → BreaksWith words has.text NoDisk has.asked y → EndsLawfully terms front y
  unlisted has (c, says, (opened, left, prints)) = unopened DiskFault no_disk_line has.text c has.asked opened has.named says has.asks has.count left prints

  unheard : (has : HasAsked words NoListener x y) → BreaksWith words has.text NoListener has.asked y → EndsLawfully terms front y
  unheard has (c, says, (shelf, opened, opens, (shut, may, prints))) = shut_out has.text c shelf has.asked opened shut has.named says has.asks has.count opens may prints

  -- ---- which it is

  early : (exit : Exit) → ends_early words exit ≡ true → JudgesWords words exit → EndsAs words exit x.log y.log x.faults y.faults → BreaksAs words exit x y → EndsLawfully terms front y
  early Usage is judges ends breaks = line_ends [] usage_line ends (woken_opens files wakes.state) (let none : count_by fails [] ≡ 0 = refl in omega (arith, none))
  early NoConfig is judges (inl unread) breaks =
      said None unread_line (reads_so judges) (le_trans (asked_one (file_of words)) (one_in_budget y.log after x.faults y.faults budget life.base told unread.rises wakes.counted few)) unread.told
  early NoConfig is judges (inr (text, named, (fault, exit_is, refused))) breaks = said text (fault_line fault) (reads_so judges) (none_failed text named) refused.told
  early NoDisk is judges ends has = unlisted has has.breaks
  early Served is judges (text, named, inl (c, says, goes)) breaks = absurd (let asks_so : asks_to_serve words ≡ true = judged words text ∙ ap asks says in let no : not true ≡ true = ap not (sym asks_so) ∙ is in cc no)
  early Served is judges (text, named, inr shown) breaks = said text (summary_text shown.summary) judges (none_failed text named) shown.told
  early ServedAstray is judges ends breaks = absurd (cc is)
  early NoMemory is judges ends (inl prints) = line_ends [] no_memory_line prints (woken_opens files wakes.state) (let none : count_by fails [] ≡ 0 = refl in omega (arith, none))
  early NoMemory is judges ends (inr has) = refused has has.breaks
  early NoListener is judges ends has = unheard has has.breaks

pub early_ends : EarlyEndsAreLawful
early_ends life budget strings exit files before after x y is wakes judges ends breaks told few = early life budget (map string_bytes strings) files before after x y (strings_are strings) wakes told few exit is judges ends breaks
