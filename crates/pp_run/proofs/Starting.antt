-- The parts of a run, put together.
use Rattle.std.proofs.Common.{◌≡◌, ◌≤◌, ◌∙◌, ap, sym, subst, ℕ, List, [], ◌∷◌, ◌++◌, Option, Some, None, Ok, true, false, append_assoc, is_some, inl, inr}
use Rattle.pp_world.specs.declared.happening.Happening.TheVariants.{Configured, Printed}
use Rattle.pp_world.specs.Log.{Log, AppendsAll, Rises}
use Rattle.pp_world.proofs.CallLemmas.{appends_then, rises_earlier, rises_later}
use Rattle.pp_links.specs.Quiet.{GrowsBy}
use Rattle.pp_run.specs.Lines.{unread_line, usage_line}
use Rattle.pp_conf.specs.Conf.{Settings}
use Rattle.pp_conf.specs.Words.{Serves, ShowsDemo, file_of, has_reading, reading_of}
use Rattle.pp_run.specs.Exits.{EndsAs, IsUnread, JudgesWords, OpensOn, ShowsAs, StartsAs, asked_for}
use Rattle.pp_run.proofs.Judging.{asks, judged, read, reads}
use Rattle.pp_run.specs.declared.ending.Exit.{Exit}
use Rattle.pp_run.specs.declared.ending.Exit.TheVariants.{Served, ServedAstray, Usage, NoMemory, NoDisk, NoListener, NoConfig}

-- what came behind a call is also behind all that the call appended
pub grows_later : {old mid new : Option Log} (P : Log → Type 0) (asked first : Log) → AppendsAll old mid (λ l. asked) → GrowsBy first P mid new → GrowsBy (asked ++ first) P old new
grows_later P asked first call rest = record {
  was = λ l is.
      let later = rest.was l is in
      let earlier = call.was later.0 later.1 in
      let there : l ≡ (earlier.0 ++ asked) ++ (first ++ later.2.0)
      = later.2.1 ∙ ap (λ (b : Log). b ++ (first ++ later.2.0)) earlier.2 in
      let joined : l ≡ earlier.0 ++ ((asked ++ first) ++ later.2.0)
      = there ∙ append_assoc earlier.0 asked (first ++ later.2.0) ∙ ap (λ (b : Log). earlier.0 ++ b) (sym (append_assoc asked first later.2.0)) in
      (earlier.0, earlier.1, (later.2.0, joined, later.2.2));
}

pub grows_behind : {old mid new : Option Log} (P : Log → Type 0) (asked : Log) → AppendsAll old mid (λ l. asked) → GrowsBy [] P mid new → GrowsBy asked P old new
grows_behind P asked first rest = record {
  was = λ l is.
      let later = rest.was l is in
      let earlier = first.was later.0 later.1 in
      (earlier.0, earlier.1, (later.2.0, later.2.1 ∙ ap (λ (b : Log). b ++ later.2.0) earlier.2 ∙ append_assoc earlier.0 asked later.2.0, later.2.2));
}

-- what a run came to that has its settings, behind the asking for FILE
opens_later : {old mid : Option Log} (new : Option Log) (asked : Log) (root : List ℕ) (port most_turns : ℕ) (exit : Exit) (before between now : ℕ)
    → AppendsAll old mid (λ l. asked) → before ≤ between → OpensOn [] root port most_turns exit mid new between now → OpensOn asked root port most_turns exit old new before now
opens_later new asked root port most_turns Served before between now first more opens = grows_behind _ asked first opens
opens_later new asked root port most_turns ServedAstray before between now first more opens = grows_behind _ asked first opens
opens_later new asked root port most_turns NoListener before between now first more opens =
    record { rises = rises_later before between now more opens.rises; told = grows_behind _ asked first opens.told }
opens_later new asked root port most_turns NoDisk before between now first more opens =
    record { rises = rises_later before between now more opens.rises; told = grows_behind _ asked first opens.told }
opens_later new asked root port most_turns NoMemory before between now first more opens = grows_behind _ asked first opens
opens_later new asked root port most_turns Usage before between now first more opens = opens
opens_later new asked root port most_turns NoConfig before between now first more opens = opens

-- what a start with this text came to, behind the asking for FILE
starts_later : {old mid : Option Log} (new : Option Log) (asked : Log) (words : List (List ℕ)) (text : Option (List ℕ)) (exit : Exit) (before between now : ℕ)
    → AppendsAll old mid (λ l. asked) → before ≤ between → StartsAs [] words text exit mid new between now → StartsAs asked words text exit old new before now
starts_later new asked words text Served before between now first more (inl (c, says, opens)) = inl (c, says, opens_later new asked c.root c.port c.max_turns Served before between now first more opens)
starts_later new asked words text Served before between now first more (inr shown) =
    inr (record { seed = shown.seed; says = shown.says; summary = shown.summary; told = appends_then (λ l. asked) _ first shown.told })
starts_later new asked words text ServedAstray before between now first more (c, says, opens) = (c, says, opens_later new asked c.root c.port c.max_turns ServedAstray before between now first more opens)
starts_later new asked words text Usage before between now first more start = appends_then (λ l. asked) _ first start
starts_later new asked words text NoMemory before between now first more (inl told) = inl (appends_then (λ l. asked) _ first told)
starts_later new asked words text NoMemory before between now first more (inr (c, says, opens)) = inr (c, says, opens_later new asked c.root c.port c.max_turns NoMemory before between now first more opens)
starts_later new asked words text NoDisk before between now first more (c, says, opens) = (c, says, opens_later new asked c.root c.port c.max_turns NoDisk before between now first more opens)
starts_later new asked words text NoListener before between now first more (c, says, opens) = (c, says, opens_later new asked c.root c.port c.max_turns NoListener before between now first more opens)
starts_later new asked words text NoConfig before between now first more start =
    (start.0, start.1, record { says = start.2.says; told = appends_then (λ l. asked) _ first start.2.told })

ends_by : (old new : Option Log) (words : List (List ℕ)) (text : List ℕ) (exit : Exit) (before now : ℕ)
    → has_reading words ≡ true → true ≡ is_some (file_of words) → JudgesWords words exit
    → StartsAs (asked_for (file_of words) (Some text)) words (Some text) exit old new before now → EndsAs words exit old new before now
ends_by old new words text Served before now reads named judges start = (Some text, named, start)
ends_by old new words text ServedAstray before now reads named judges start = (Some text, named, start)
ends_by old new words text NoListener before now reads named judges start = (Some text, named, start)
ends_by old new words text NoConfig before now reads named judges start = inr (Some text, named, start)
ends_by old new words text NoMemory before now reads named judges start = inr (Some text, named, start)
ends_by old new words text NoDisk before now reads named judges start = (Some text, named, start)
ends_by old new words text Usage before now reads named judges start = let bad : false ≡ true = sym judges ∙ reads in absurd (cc)

-- FILE was asked for, and what came of its text
pub ends_later : {old mid : Option Log} (new : Option Log) (words : List (List ℕ)) (file text : List ℕ) (exit : Exit) (before between now : ℕ)
    → has_reading words ≡ true → file_of words ≡ Some file → AppendsAll old mid (λ l. Configured file (Some text) ∷ []) → before ≤ between
    → JudgesWords words exit → StartsAs [] words (Some text) exit mid new between now → EndsAs words exit old new before now
ends_later {old} {mid} new words file text exit before between now reads named first more judges start =
    let asked : AppendsAll old mid (λ l. asked_for (file_of words) (Some text))
    = subst (λ (f : Option (List ℕ)). AppendsAll old mid (λ l. asked_for f (Some text))) (sym named) first in
    let whole : StartsAs (asked_for (file_of words) (Some text)) words (Some text) exit old new before now
    = starts_later new (asked_for (file_of words) (Some text)) words (Some text) exit before between now asked more start in
    ends_by old new words text exit before now reads (sym (ap is_some named)) judges whole

-- the words name none
pub ends_unnamed : (old new : Option Log) (words : List (List ℕ)) (exit : Exit) (before now : ℕ) → file_of words ≡ None → StartsAs [] words None exit old new before now → EndsAs words exit old new before now
ends_unnamed old new words exit before now none start = by exit (subst (λ (f : Option (List ℕ)). StartsAs (asked_for f None) words None exit old new before now) (sym none) start)
  where
    named : false ≡ is_some (file_of words)
    named = sym (ap is_some none)

    by : (e : Exit) → StartsAs (asked_for (file_of words) None) words None e old new before now → EndsAs words e old new before now
    by Served there = (None, named, there)
    by ServedAstray there = (None, named, there)
    by NoListener there = (None, named, there)
    by NoConfig there = inr (None, named, there)
    by NoMemory there = inr (None, named, there)
    by NoDisk there = (None, named, there)
    by Usage there = subst (λ (f : Option (List ℕ)). AppendsAll old new (λ l. asked_for f None ++ Printed usage_line ∷ [])) none there

-- FILE was asked for and could not be read
pub unread : {old mid new : Option Log} (words : List (List ℕ)) (file : List ℕ) (before between now : ℕ) → file_of words ≡ Some file
    → AppendsAll old mid (λ l. Configured file None ∷ []) → Rises mid before between → AppendsAll mid new (λ l. Printed unread_line ∷ []) → between ≤ now → IsUnread words old new before now
unread {old} {mid} words file before between now named first rose printed more = record {
  named = ap is_some named;
  rises = rises_earlier _ before between now printed rose more;
  told = appends_then (λ l. asked_for (file_of words) None) _ (subst (λ (f : Option (List ℕ)). AppendsAll old mid (λ l. asked_for f None)) (sym named) first) printed;
}

-- a run that has its settings
pub starts_with : (old new : Option Log) (words : List (List ℕ)) (text : Option (List ℕ)) (c : Settings) (exit : Exit) (before now : ℕ) → reading_of words text ≡ Ok (Serves c)
    → OpensOn [] c.root c.port c.max_turns exit old new before now → StartsAs [] words text exit old new before now
starts_with old new words text c Served before now says opens = inl (c, says, opens)
starts_with old new words text c ServedAstray before now says opens = (c, says, opens)
starts_with old new words text c NoListener before now says opens = (c, says, opens)
starts_with old new words text c NoDisk before now says opens = (c, says, opens)
starts_with old new words text c NoMemory before now says opens = inr (c, says, opens)
starts_with old new words text c Usage before now says opens = absurd opens
starts_with old new words text c NoConfig before now says opens = absurd opens

pub judges_with : (old new : Option Log) (words : List (List ℕ)) (text : Option (List ℕ)) (c : Settings) (exit : Exit) (before now : ℕ) → reading_of words text ≡ Ok (Serves c)
    → OpensOn [] c.root c.port c.max_turns exit old new before now → JudgesWords words exit
judges_with old new words text c Served before now says opens = read words text ∙ ap reads says
judges_with old new words text c ServedAstray before now says opens = judged words text ∙ ap asks says
judges_with old new words text c NoListener before now says opens = judged words text ∙ ap asks says
judges_with old new words text c NoDisk before now says opens = judged words text ∙ ap asks says
judges_with old new words text c NoMemory before now says opens = tt
judges_with old new words text c Usage before now says opens = absurd opens
judges_with old new words text c NoConfig before now says opens = absurd opens

-- a run that shows the demo
pub starts_shown : (old new : Option Log) (words : List (List ℕ)) (text : Option (List ℕ)) (seed : ℕ) (exit : Exit) (before now : ℕ) → reading_of words text ≡ Ok (ShowsDemo seed)
    → ShowsAs exit old new → StartsAs [] words text exit old new before now
starts_shown old new words text seed Served before now says (summary, told) = inr (record { seed = seed; says = says; summary = summary; told = told })
starts_shown old new words text seed ServedAstray before now says shows = absurd shows
starts_shown old new words text seed NoMemory before now says told = inl told
starts_shown old new words text seed NoListener before now says shows = absurd shows
starts_shown old new words text seed NoDisk before now says shows = absurd shows
starts_shown old new words text seed Usage before now says shows = absurd shows
starts_shown old new words text seed NoConfig before now says shows = absurd shows

pub judges_shown : (old new : Option Log) (words : List (List ℕ)) (exit : Exit) → has_reading words ≡ true → ShowsAs exit old new → JudgesWords words exit
judges_shown old new words Served read shows = read
judges_shown old new words ServedAstray read shows = absurd shows
judges_shown old new words NoMemory read shows = tt
judges_shown old new words NoListener read shows = absurd shows
judges_shown old new words NoDisk read shows = absurd shows
judges_shown old new words Usage read shows = absurd shows
judges_shown old new words NoConfig read shows = absurd shows
