-- A life that served, from the log before it to its end.
use Rattle.std.proofs.Common.{◌≡◌, ◌≤◌, ◌<◌, refl, sym, subst, ap, ◌∙◌, ℕ, ◌+◌, Bool, true, false, List, [], ◌∷◌, ◌++◌, append_assoc, length, map, Option, Some, None, le_trans}
use Rattle.std.specs.Global.{Global}
use Rattle.std.specs.Prelude.{String, count_by, string_bytes}
use Rattle.pp_conf.specs.Shown.{shown_conf}
use Rattle.pp_conf.specs.Words.{file_of}
use Rattle.pp_conf.specs.declared.conf.Conf.{Conf}
use Rattle.pp_joints_law.proofs.OpenedLife.{told_begin}
use Rattle.pp_joints_law.proofs.OpenedTops.{tops_are}
use Rattle.pp_joints_law.proofs.OpenedWait.{listened_begin}
use Rattle.pp_joints_law.proofs.OpenedWords.{strings_are}
use Rattle.pp_joints_law.specs.Opened.{BeginsWith, HasListened, HasSettings, asked_for}
use Rattle.pp_law.specs.Lists.{Bytes}
use Rattle.pp_law.specs.Opening.{woken}
use Rattle.pp_law.specs.State.{Term}
use Rattle.pp_obeys.specs.Failures.{fails}
use Rattle.pp_obeys.specs.Obeys.{Allows, Life, Obeys}
use Rattle.pp_proxy.specs.Awaiting.{Standing, standing}
use Rattle.pp_rounds_law.specs.Coming.{Affords}
use Rattle.pp_run.specs.Exits.{asked_for as asks_for, served_as}
use Rattle.pp_run.specs.Lives.{HasLived, HasServed, Outside, standing_at}
use Rattle.pp_run.specs.Serving.{TurnsUpTo}
use Rattle.pp_run.specs.declared.ending.Exit.TheVariants.{Served}
use Rattle.pp_world.specs.Files.{Files}
use Rattle.pp_world.specs.Log.{AppendsAll, Log}
use Rattle.pp_world.specs.declared.happening.Happening.TheVariants.{Woke}
use Rattle.pp_turn_law.proofs.AllTurns.{LedTo, all_led}
use Rattle.pp_turn_law.proofs.FewNames.{few_names}
use Rattle.pp_turn_law.proofs.FirstCounts.{afforded, counted, listened_allow}
use Rattle.pp_turn_law.proofs.FirstOver.{opened_sized}
use Rattle.pp_turn_law.proofs.LifeNamed.{named_told}
use Rattle.pp_turn_law.specs.Lives.{IsLawfulToItsEnd, ServedLivesAreLawful, Wakes}
use Rattle.pp_turn_law.specs.Opening.{opened_at}
use Rattle.pp_turn_law.specs.Served.{most_happenings}
use Rattle.pp_turn_law.specs.Straight.{IsStraight}
use Rattle.pp_turn_law.specs.Turned.{HasGoneOn, LivesGoOn}

-- FILE is asked for in the words of the law as in those of `run`
pub same_asked : (named text : Option Bytes) → asks_for named text ≡ asked_for named text
same_asked None text = refl
same_asked (Some file) text = refl

-- a life that served did not go astray
not_astray : (astray : Bool) → Served ≡ served_as astray → astray ≡ false
not_astray false is = refl
not_astray true is = absurd (cc is)

module _ (go : LivesGoOn) (life : Life) (budget : ℕ) (strings : List (String Global)) (files : Files) (before after : Log) (x y : Outside)
    (wakes : Wakes life budget (map string_bytes strings) files before x) (served : HasServed (map string_bytes strings) Served x y) (told : y.log ≡ Some after) (few : y.faults ≤ budget + life.base) (brief : length after < most_happenings) where
  abbrev words : List Bytes
  words = map string_bytes strings

  abbrev terms : List Term
  terms = life.terms budget

  abbrev conf : Conf
  conf = served.read.conf

  lived : HasLived conf Served served.asked y
  lived = served.read.lived

  abbrev listening : Outside
  listening = lived.goes.listening

  abbrev end : Standing
  end = standing_at lived.left lived.last y

  abbrev front : Log
  front = before ++ Woke files ∷ []

  settings : HasSettings words served.text (shown_conf conf)
  settings = record { texts = strings_are strings; named = served.named; says = served.read.says }

  -- ---- where it listens

  abbrev start : Standing
  start = standing_at lived.shelf lived.first listening

  led : LedTo start.turning end.turning
  led = all_led conf.max_turns start end lived.goes.turns

  was : (l : Log) × (listening.log ≡ Some l) × ((more : Log) × (after ≡ l ++ more))
  was = led.told after told

  abbrev log : Log
  log = was.0

  asks : AppendsAll x.log served.asked.log (λ l. asked_for (file_of words) served.text)
  asks = record { was = λ l is. let it = served.asks.was l is in (it.0, it.1, it.2 ∙ ap (λ (k : Log). it.0 ++ k) (same_asked (file_of words) served.text)) }

  counts : (added : Log) → log ≡ front ++ added → life.base + count_by fails added ≤ listening.faults
  counts added is =
      counted words served.text (shown_conf conf) front log added x.log served.asked.log lived.opened.log listening.log life.base served.asked.faults lived.opened.faults listening.faults settings wakes.told asks (le_trans wakes.counted served.by.count)
      lived.opens.counted lived.goes.listens.told lived.goes.listens.by.count was.1 is

  in_budget : listening.faults ≤ budget + life.base
  in_budget = le_trans led.count few

  affords : (added : Log) → log ≡ front ++ added → Affords (woken files wakes.state) added
  affords added is = afforded life budget listening.faults files wakes.state added wakes.faults (counts added is) in_budget

  listened : HasListened terms front (shown_conf conf) lived.shelf wakes.state.top (woken files wakes.state) log
  listened =
      told_begin terms before log wakes.state words served.text (shown_conf conf) files lived.shelf x.log served.asked.log lived.opened.log listening.log wakes.obeys wakes.may wakes.words_are settings (few_names terms before wakes.state files wakes.obeys wakes.may) wakes.told asks
      lived.opens.recovers lived.goes.listens.told was.1 affords

  -- ---- its turns

  given : wakes.state.top ≤ listening.top
  given = subst (λ (n : ℕ). wakes.state.top ≤ n) (sym (lived.goes.listens.by.top ∙ lived.opens.by.top ∙ served.by.top)) (le_trans (tops_are terms wakes.state before wakes.obeys) wakes.top)

  begins : BeginsWith terms log conf lived.first lived.shelf listening.top listened.comes.then
  begins = listened_begin terms front log conf lived.first lived.shelf wakes.state.top listening.top (woken files wakes.state) listened lived.is_opened given

  allows : Allows life budget listening.faults listened.comes.then
  allows = listened_allow life budget listening.faults terms front log (shown_conf conf) lived.shelf wakes.state.top files wakes.state listened wakes.faults (counts listened.added listened.is)

  turns : TurnsUpTo conf.max_turns (opened_at lived.first lived.shelf listening.top log listening.faults) end
  turns = subst (λ (o : Option Log). TurnsUpTo conf.max_turns (standing lived.shelf lived.first listening.top o listening.faults) end) was.1 lived.goes.turns

  straight : IsStraight end.turning
  straight = not_astray lived.last.desk.state.is_astray lived.goes.exit_is

  gone : HasGoneOn life budget log end
  gone =
      go life budget conf.max_turns log after conf lived.first lived.shelf listening.top listening.faults end listened.comes.then begins
      (subst (λ (name : Bytes). length name ≤ 64) (sym lived.is_opened.set.name) (named_told words served.text (shown_conf conf) served.read.says))
      (opened_sized terms words served.text log conf lived.first lived.shelf listening.top listened.comes.then settings begins) allows turns straight told few brief

  whole : log ++ gone.added ≡ front ++ (listened.added ++ gone.added)
  whole = ap (λ (l : Log). l ++ gone.added) listened.is ∙ append_assoc front listened.added gone.added

  pub lawful_to_its_end : IsLawfulToItsEnd life budget front y
  lawful_to_its_end = record {
    added = listened.added ++ gone.added;
    then = gone.then;
    told = gone.told ∙ ap (λ (l : Log). Some l) whole;
    obeys = subst (λ (l : Log). Obeys terms gone.then l) whole gone.obeys;
    allows = gone.allows;
    over = gone.over;
  }

pub served_lawful : LivesGoOn → ServedLivesAreLawful
served_lawful go life budget words files before after x y wakes served told few brief = lawful_to_its_end go life budget words files before after x y wakes served told few brief
