-- What words and the text of FILE lead to, as a life begins.
use Rattle.std.proofs.Common.{◌≡◌, ◌≤◌, refl, sym, subst, ap, ◌∙◌, ℕ, Bool, true, false, ◌&&◌, cond, nat_le, is_some, List, [], ◌∷◌, ◌++◌, Option, Some, None, Result, Ok, Err, arith}
use Rattle.std.proofs.lemmas.Bool.Decides.{nat_tests}
use Rattle.std.proofs.lemmas.Str.{IsUtf8-string_bytes, is_utf8-from_IsUtf8}
use Rattle.std.specs.List.{list_all}
use Rattle.std.specs.Option.{option_and_then}
use Rattle.std.specs.Prelude.{bytes_eq, map, string_bytes, unwrap_or}
use Rattle.std.specs.Str.{is_utf8}
use Rattle.pp_conf.specs.Conf.{Assignment, Settings, assigned, defaults, first_refused, fitting, misfit, or_refused, settings_of, with_value}
use Rattle.pp_conf.specs.Numbers.{is_padded}
use Rattle.pp_conf.specs.Words.{Serves, Told, Refusal, NoReading, TooLong, file_of, has_reading, is_too_long, or_out_of_range, reading_of, seed_of, text_assignments, told_by, with_words, word_assignments}
use Rattle.pp_conf.specs.declared.setting.Setting.{Setting}
use Rattle.pp_conf.specs.declared.setting.Setting.TheVariants.{ProxyPort, ProxyAddress, AllowedClients, ProxyName, DiskCacheRoot, ChunkLowMark, ChunkHighMark, ChunkCriticalMark, DiskRun, MaxTurns, ShareFetches, PipelineAsks, HostConnections, AccessLog}
use Rattle.pp_joints_law.specs.Opened.{HasSettings, StandsConfigured, StringsAreTexts, WordsLead, asked_for}
use Rattle.pp_law.specs.Entries.{entries_in}
use Rattle.pp_law.specs.Lists.{Bytes, is_some_with}
use Rattle.pp_law.specs.Opening.{are_texts, begun, configured, names_file, settings_in, term_in, terms_behind, with_settings, woken}
use Rattle.pp_law.specs.State.{State, IsConfigured, IsWoken, start}
use Rattle.pp_obeys.proofs.Calls.{moves_to}
use Rattle.pp_obeys.proofs.Happenings.{goes_configured}
use Rattle.pp_obeys.proofs.Silent.{both_hold}
use Rattle.pp_obeys.specs.Moves.{Goes, MovesAll}
use Rattle.pp_shelf_law.proofs.Shelves.{bytes_same}
use Rattle.pp_text.specs.Numbers.{number_of}
use Rattle.pp_world.specs.Files.{Files}
use Rattle.pp_world.specs.declared.happening.Happening.TheVariants.{Configured, Woke}

and_false : (b : Bool) → (b && false) ≡ false
and_false true = refl
and_false false = refl

-- ---- what the defaults have, and each assignment leaves, all settings have that words and text give

not_refused : (o : Option Setting) (r : Result Settings Setting) (c : Settings) → or_refused o r ≡ Ok c → r ≡ Ok c
not_refused None r c is = is
not_refused (Some s) r c is = absurd (cc is)

module _ (P : Settings → Type 0) (first : P defaults) (one : (c : Settings) (s : Setting) (text : List ℕ) → P c → P (with_value c s text)) where
  assigned_so : (c : Settings) (all : List Assignment) → P c → P (assigned c all)
  assigned_so c [] so = so
  assigned_so c (a ∷ all) so = assigned_so (with_value c a.0 a.1) all (one c a.0 a.1 so)

  so_of : (all : List Assignment) (c : Settings) → settings_of all ≡ Ok c → P c
  so_of all c is =
      let fits : fitting (assigned defaults all) ≡ Ok c = not_refused (first_refused all) (fitting (assigned defaults all)) c is in
      let whole : Ok (assigned defaults all) ≡ Ok c = not_refused (misfit (assigned defaults all)) (Ok (assigned defaults all)) c fits in
      let same : assigned defaults all ≡ c = cc whole in
      subst P same (assigned_so defaults all first)

  told_so : (words : List Bytes) (text : Option Bytes) (c : Settings) → reading_of words text ≡ Ok (Serves c) → P c
  told_so words text c is = read (has_reading words) is
    where
      set : (r : Result Settings Setting) → or_out_of_range r ≡ Ok (Serves c) → r ≡ Ok c
      set (Ok d) same = let e : d ≡ c = cc same in ap (λ (x : Settings). Ok x) e
      set (Err s) same = absurd (cc same)

      parsed : (r : Result (List Assignment) ℕ) → with_words words r ≡ Ok (Serves c) → P c
      parsed (Ok by_text) same = so_of (by_text ++ word_assignments words) c (set (settings_of (by_text ++ word_assignments words)) same)
      parsed (Err line) same = absurd (cc same)

      served : (long : Bool) → cond long (Err TooLong) (with_words words (text_assignments text)) ≡ Ok (Serves c) → P c
      served true same = absurd (cc same)
      served false same = parsed (text_assignments text) same

      told : (seed : Option Bytes) → told_by words text seed ≡ Ok (Serves c) → P c
      told None same = served (is_too_long text) same
      told (Some seed) same = absurd (cc same)

      read : (reads : Bool) → cond reads (told_by words text (seed_of words)) (Err NoReading) ≡ Ok (Serves c) → P c
      read true same = told (seed_of words) same
      read false same = absurd (cc same)

-- a number is not above its range
few_in : (least most : ℕ) (padded : Bool) (o : Option ℕ) → unwrap_or (cond padded None (option_and_then (λ n. cond (nat_le least n && nat_le n most) (Some n) None) o)) 0 ≤ most
few_in least most true o = omega arith
few_in least most false None = omega arith
few_in least most false (Some n) = by (nat_le least n) (nat_le n most) refl
  where
    by : (low high : Bool) → nat_le n most ≡ high → unwrap_or (cond (low && high) (Some n) None) 0 ≤ most
    by true true is = grind (arith, nat_tests, is)
    by true false is = omega arith
    by false high is = omega arith

-- a run has 64 chunks at most
few_with : (c : Settings) (s : Setting) (text : List ℕ) → c.disk_run ≤ 64 → (with_value c s text).disk_run ≤ 64
few_with c DiskRun text few = few_in 1 64 (is_padded text) (number_of text)
few_with c ProxyPort text few = few
few_with c ProxyAddress text few = few
few_with c AllowedClients text few = few
few_with c ProxyName text few = few
few_with c DiskCacheRoot text few = few
few_with c ChunkLowMark text few = few
few_with c ChunkHighMark text few = few
few_with c ChunkCriticalMark text few = few
few_with c MaxTurns text few = few
few_with c ShareFetches text few = few
few_with c PipelineAsks text few = few
few_with c HostConnections text few = few
few_with c AccessLog text few = few

pub few_told : (words : List Bytes) (text : Option Bytes) (c : Settings) → reading_of words text ≡ Ok (Serves c) → c.disk_run ≤ 64
few_told words text c is = told_so (λ (d : Settings). d.disk_run ≤ 64) (omega arith) few_with words text c is

-- the critical mark is 65,536 at most; `reading_marked` of `pp_laws_pool` has it that it is 512 at least
marked_with : (c : Settings) (s : Setting) (text : List ℕ) → c.critical ≤ 65536 → (with_value c s text).critical ≤ 65536
marked_with c ChunkCriticalMark text most = few_in 512 65536 (is_padded text) (number_of text)
marked_with c ProxyPort text most = most
marked_with c ProxyAddress text most = most
marked_with c AllowedClients text most = most
marked_with c ProxyName text most = most
marked_with c DiskCacheRoot text most = most
marked_with c ChunkLowMark text most = most
marked_with c ChunkHighMark text most = most
marked_with c DiskRun text most = most
marked_with c MaxTurns text most = most
marked_with c ShareFetches text most = most
marked_with c PipelineAsks text most = most
marked_with c HostConnections text most = most
marked_with c AccessLog text most = most

pub marked_told : (words : List Bytes) (text : Option Bytes) (c : Settings) → reading_of words text ≡ Ok (Serves c) → c.critical ≤ 65536
marked_told words text c is = told_so (λ (d : Settings). d.critical ≤ 65536) (omega arith) marked_with words text c is

pub has_read : (words : List Bytes) (text : Option Bytes) (c : Settings) → reading_of words text ≡ Ok (Serves c) → has_reading words ≡ true
has_read words text c is = by (has_reading words) is
  where
    by : (reads : Bool) → cond reads (told_by words text (seed_of words)) (Err NoReading) ≡ Ok (Serves c) → reads ≡ true
    by true same = refl
    by false same = absurd (cc same)

-- ---- the life has them

module _ (words : List Bytes) (files : Files) (s : State) (are_utf8 : list_all is_utf8 words ≡ true) (same : (term_in s.terms).words ≡ words) where
  -- as it woke, before its words are read
  abbrev pub base : State
  base = record (start (terms_behind s.terms)) {
    sent = s.sent;
    acknowledged = s.acknowledged;
    top = s.top;
    term = term_in s.terms;
    disk = Woke files ∷ [];
    entries = entries_in files;
  }

  texts : are_texts base.term ≡ true
  texts = ap (λ (ws : List Bytes). list_all is_utf8 ws) same ∙ are_utf8

  pub awake : (names : Bool) → names_file base.term ≡ names
      → woken files s ≡ elim names as (λ d. State) [ true ↦ record base { phase = IsWoken } | false ↦ with_settings (settings_in (reading_of base.term.words None)) base ]
  unfolding woken begun
  awake names is =
      ap (λ (b : Bool). elim b as (λ d. State) [
        | false ↦ with_settings None base
        | true ↦ elim (names_file base.term) as (λ d. State) [ true ↦ record base { phase = IsWoken } | false ↦ with_settings (settings_in (reading_of base.term.words None)) base ]
      ]) texts
      ∙ ap (λ (b : Bool). elim b as (λ d. State) [ true ↦ record base { phase = IsWoken } | false ↦ with_settings (settings_in (reading_of base.term.words None)) base ]) is

  pub names_so : has_reading words ≡ true → (named : Option Bytes) → file_of words ≡ named → names_file base.term ≡ is_some named
  names_so reads named is =
      ap (λ (ws : List Bytes). has_reading ws && is_some (file_of ws)) same
      ∙ ap (λ (b : Bool). b && is_some (file_of words)) reads
      ∙ ap (λ (o : Option Bytes). is_some o) is

  pub is_named_so : (file : Bytes) → file_of words ≡ Some file → is_some_with (λ named. bytes_eq named file) (file_of base.term.words) ≡ true
  is_named_so file is =
      ap (λ (ws : List Bytes). is_some_with (λ named. bytes_eq named file) (file_of ws)) same ∙ ap (λ (o : Option Bytes). is_some_with (λ named. bytes_eq named file) o) is ∙ bytes_same file

module _ (words : List Bytes) (text : Option Bytes) (c : Settings) (files : Files) (s : State) (h : HasSettings words text c) (same : (term_in s.terms).words ≡ words) where
  abbrev first : State
  first = base words files s h.texts same

  -- with these settings
  abbrev given : State
  given = record first { phase = IsConfigured; settings = c }

  stands : StandsConfigured c files s.top given
  stands = record {
    opens = record { at = refl; settings = refl; run = few_told words text c h.says; none = refl; idle = refl; done = refl; displaced = refl; lost = refl; ticked = refl; top = refl };
    entries = refl;
    closed = refl;
    disk = refl;
  }

  told : (r : Result Told Refusal) (v : State) → r ≡ Ok (Serves c) → with_settings (settings_in r) v ≡ record v { phase = IsConfigured; settings = c }
  unfolding with_settings
  told r v is = ap (λ (k : Result Told Refusal). with_settings (settings_in k) v) is

  awake_so : (named : Option Bytes) → file_of words ≡ named
      → woken files s ≡ elim (is_some named) as (λ d. State) [ true ↦ record first { phase = IsWoken } | false ↦ with_settings (settings_in (reading_of first.term.words None)) first ]
  awake_so named is = awake words files s h.texts same (is_some named) (names_so words files s h.texts same (has_read words text c h.says) named is)

  by_name : (named t : Option Bytes) → file_of words ≡ named → text ≡ t → is_some t ≡ is_some named → MovesAll (StandsConfigured c files s.top) (asked_for named t) (woken files s)
  unfolding configured
  by_name None None is is_text both =
      let says : reading_of first.term.words None ≡ Ok (Serves c) = ap (λ (ws : List Bytes). reading_of ws None) same ∙ ap (λ (o : Option Bytes). reading_of words o) (sym is_text) ∙ h.says in
      subst (StandsConfigured c files s.top) (sym (awake_so None is ∙ told (reading_of first.term.words None) first says)) stands
  by_name None (Some t) is is_text both = absurd (cc both)
  by_name (Some file) None is is_text both = absurd (cc both)
  by_name (Some file) (Some t) is is_text both =
      let v : State = record first { phase = IsWoken } in
      let says : reading_of v.term.words (Some t) ≡ Ok (Serves c) = ap (λ (ws : List Bytes). reading_of ws (Some t)) same ∙ ap (λ (o : Option Bytes). reading_of words o) (sym is_text) ∙ h.says in
      let goes : Goes v (Configured file (Some t)) (configured (Some t) v) = goes_configured v file (Some t) refl refl (is_named_so words files s h.texts same file is) in
      subst (MovesAll (StandsConfigured c files s.top) (Configured file (Some t) ∷ [])) (sym (awake_so (Some file) is))
      (moves_to refl goes (subst (StandsConfigured c files s.top) (sym (told (reading_of v.term.words (Some t)) v says)) stands))

pub words_lead : WordsLead
words_lead words text c files s h same = by_name words text c files s h same (file_of words) text refl refl h.named

-- each word of the program is text
pub strings_are : StringsAreTexts
strings_are [] = refl
strings_are (word ∷ words) = both_hold (is_utf8 (string_bytes word)) (list_all is_utf8 (map string_bytes words)) (is_utf8-from_IsUtf8 (string_bytes word) (IsUtf8-string_bytes word)) (strings_are words)
