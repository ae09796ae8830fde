-- What `run` says of its life, beside the law.
use Rattle.std.proofs.Common.{◌≡◌, ◌≤◌, ◌<◌, refl, sym, subst, ap, ◌∙◌, ℕ, ◌+◌, Bool, true, false, not, ◌&&◌, List, [], ◌∷◌, ◌++◌, length, map, Some}
use Rattle.std.specs.Global.{Global}
use Rattle.std.specs.Prelude.{String, string_bytes}
use Rattle.pp_law.specs.Lawful.{Lawful}
use Rattle.pp_obeys.specs.Obeys.{Life}
use Rattle.pp_run.specs.Exits.{asks_to_serve}
use Rattle.pp_run.specs.Lives.{HasServed, Outside, has_served}
use Rattle.pp_run.specs.Runs.{RunsAs}
use Rattle.pp_run.specs.declared.ending.Exit.{Exit}
use Rattle.pp_run.specs.declared.ending.Exit.TheVariants.{NoConfig, NoDisk, NoListener, NoMemory, Served, ServedAstray, Usage}
use Rattle.pp_world.specs.Files.{Files}
use Rattle.pp_world.specs.Log.{Log}
use Rattle.pp_world.specs.declared.happening.Happening.TheVariants.{Woke}
use Rattle.pp_turn_law.proofs.EarlyEnds.{early_ends}
use Rattle.pp_turn_law.specs.Ended.{EndsLawfully, ends_early}
use Rattle.pp_turn_law.specs.Headline.{LawfulLogsHaveTheHeadline}
use Rattle.pp_turn_law.specs.Lives.{IsLawfulToItsEnd, ServedLivesAreLawful, Wakes}
use Rattle.pp_turn_law.specs.Running.{Means, RunsBesideTheLaw, is_said}
use Rattle.pp_turn_law.specs.Served.{most_happenings}

module _ (lawful : ServedLivesAreLawful) (laws : LawfulLogsHaveTheHeadline) (words : List (String Global)) (exit : Exit) (x y : Outside) (runs : RunsAs (map string_bytes words) exit x y)
    (life : Life) (budget : ℕ) (files : Files) (before after : Log) (wakes : Wakes life budget (map string_bytes words) files before x) (told : y.log ≡ Some after) (few : y.faults ≤ budget + life.base) (brief : length after < most_happenings) where
  abbrev front : Log
  front = before ++ Woke files ∷ []

  means : EndsLawfully (life.terms budget) front y → Means (life.terms budget) front after y
  means it = record { ends = it; headline = laws (life.terms budget) after (subst (λ (l : Log). Lawful (life.terms budget) l) (same (front ++ it.added) (sym it.told ∙ told)) it.obeys.lawful) }
    where
      same : (k : Log) → Some k ≡ Some after → k ≡ after
      same k is = cc is

  by_serving : exit ≡ Served → asks_to_serve (map string_bytes words) ≡ true → EndsLawfully (life.terms budget) front y
  by_serving is asks =
      let has : HasServed (map string_bytes words) Served x y = subst (λ (e : Exit). HasServed (map string_bytes words) e x y) is (runs.served (ap (λ (b : Bool). b && has_served exit) asks ∙ ap has_served is)) in
      let it : IsLawfulToItsEnd life budget front y = lawful life budget words files before after x y wakes has told few brief in
      record { added = it.added; then = it.then; told = it.told; obeys = it.obeys; over = it.over }

  early : ends_early (map string_bytes words) exit ≡ true → EndsLawfully (life.terms budget) front y
  early is = early_ends life budget words exit files before after x y is wakes runs.judges runs.ends runs.breaks told few

  all : (e : Exit) → exit ≡ e → is_said e ≡ true → EndsLawfully (life.terms budget) front y
  all Served is said = by (asks_to_serve (map string_bytes words)) refl
    where
      by : (b : Bool) → asks_to_serve (map string_bytes words) ≡ b → EndsLawfully (life.terms budget) front y
      by true asks = by_serving is asks
      by false none = early (ap (ends_early (map string_bytes words)) is ∙ ap not none)
  all Usage is said = early (ap (ends_early (map string_bytes words)) is)
  all NoDisk is said = early (ap (ends_early (map string_bytes words)) is)
  all NoConfig is said = early (ap (ends_early (map string_bytes words)) is)
  all NoMemory is said = early (ap (ends_early (map string_bytes words)) is)
  all NoListener is said = early (ap (ends_early (map string_bytes words)) is)
  all ServedAstray is said = absurd (cc said)

  pub said_means : is_said exit ≡ true → Means (life.terms budget) front after y
  said_means said = means (all exit refl said)

pub runs_beside : ServedLivesAreLawful → LawfulLogsHaveTheHeadline → (words : List (String Global)) (exit : Exit) (x y : Outside) → RunsAs (map string_bytes words) exit x y → RunsBesideTheLaw words exit x y
runs_beside lawful laws words exit x y runs life budget files before after wakes said told few brief = said_means lawful laws words exit x y runs life budget files before after wakes told few brief said
