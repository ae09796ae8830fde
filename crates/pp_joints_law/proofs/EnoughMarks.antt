-- Settings that words and a text give have a high mark of 512 at least.
use Rattle.std.proofs.Common.{◌≡◌, refl, ℕ, ◌≤◌, Bool, true, false, ◌&&◌, not, nat_le, cond, List, [], ◌∷◌, ◌++◌, find, is_some, unwrap_or, Option, Some, None, option_map, option_and_then, Result, Ok, Err, subst, arith}
use Rattle.std.proofs.lemmas.Bool.Decides.{nat_tests}
use Rattle.pp_text.specs.Numbers.{number_of}
use Rattle.pp_conf.specs.Conf.{Assignment, Settings, number_or_0, with_value, assigned, first_refused, fitting, misfit, or_refused, settings_of, defaults}
use Rattle.pp_conf.specs.Numbers.{is_padded, number_in}
use Rattle.pp_conf.specs.Settings.{accepts, number_for}
use Rattle.pp_conf.specs.Words.{NoReading, TooLong, has_reading, seed_of, is_too_long, or_out_of_range, reading_of, told_by, text_assignments, with_words, word_assignments}
use Rattle.pp_conf.specs.declared.setting.Setting.{Setting}
use Rattle.pp_conf.specs.declared.setting.Setting.TheVariants.{ProxyPort, ProxyAddress, AllowedClients, ProxyName, DiskCacheRoot, ChunkLowMark, ChunkHighMark, ChunkCriticalMark, DiskRun, MaxTurns, ShareFetches, PipelineAsks, HostConnections, AccessLog}
use Rattle.pp_law.specs.Lists.{Bytes}
use Rattle.pp_law.specs.Opening.{settings_in}

-- ---- a number is in its range

in_range : (low high n m : ℕ) (t : Bool) → (nat_le low n && nat_le n high) ≡ t → cond t (Some n) None ≡ Some m → low ≤ m
in_range low high n m true is found = let e : n ≡ m = cc in grind (arith, nat_tests)
in_range low high n m false is found = absurd (cc found)

number_least : (low high : ℕ) (text : List ℕ) (m : ℕ) → number_in low high text ≡ Some m → low ≤ m
number_least low high text m is = by (is_padded text) (number_of text) is
  where
    by : (t : Bool) (o : Option ℕ) → cond t None (option_and_then (λ n. cond (nat_le low n && nat_le n high) (Some n) None) o) ≡ Some m → low ≤ m
    by true o found = absurd (cc found)
    by false None found = absurd (cc found)
    by false (Some n) found = in_range low high n m (nat_le low n && nat_le n high) refl found

high_least : (text : List ℕ) → accepts ChunkHighMark text ≡ true → 512 ≤ number_or_0 ChunkHighMark text
high_least text is = by (number_for ChunkHighMark text) refl is
  where
    by : (o : Option ℕ) → number_for ChunkHighMark text ≡ o → is_some o ≡ true → 512 ≤ unwrap_or o 0
    by None none at = absurd (cc at)
    by (Some n) some at = number_least 512 65536 text n some

-- ---- all assignments

abbrev IsHigh : Settings → Type 0
IsHigh c = 512 ≤ c.high

one_high : (c : Settings) (s : Setting) (text : List ℕ) → accepts s text ≡ true → IsHigh c → IsHigh (with_value c s text)
one_high c ProxyPort text is h = h
one_high c ProxyAddress text is h = h
one_high c AllowedClients text is h = h
one_high c ProxyName text is h = h
one_high c DiskCacheRoot text is h = h
one_high c ChunkLowMark text is h = h
one_high c ChunkHighMark text is h = high_least text is
one_high c ChunkCriticalMark text is h = h
one_high c DiskRun text is h = h
one_high c MaxTurns text is h = h
one_high c ShareFetches text is h = h
one_high c PipelineAsks text is h = h
one_high c HostConnections text is h = h
one_high c AccessLog text is h = h

accepted : (a : Assignment) (rest : Option Assignment) (t : Bool) → accepts a.0 a.1 ≡ t → option_map (λ (b : Assignment). b.0) (cond (not t) (Some a) rest) ≡ None → (t ≡ true) × (option_map (λ (b : Assignment). b.0) rest ≡ None)
accepted a rest true is none = (refl, none)
accepted a rest false is none = absurd (cc none)

all_high : (as_ : List Assignment) (c : Settings) → first_refused as_ ≡ None → IsHigh c → IsHigh (assigned c as_)
all_high [] c none h = h
all_high (a ∷ as_) c none h =
    let w = accepted a (find (λ (b : Assignment). not (accepts b.0 b.1)) as_) (accepts a.0 a.1) refl none in
    all_high as_ (with_value c a.0 a.1) w.1 (one_high c a.0 a.1 w.0 h)

fitting-same : (c d : Settings) (o : Option Setting) → or_refused o (Ok c) ≡ Ok d → c ≡ d
fitting-same c d None is = cc
fitting-same c d (Some s) is = absurd (cc is)

first : 512 ≤ defaults.high
first = omega arith

settings_high : (as_ : List Assignment) (c : Settings) → settings_of as_ ≡ Ok c → IsHigh c
settings_high as_ c is = by (first_refused as_) refl is
  where
    by : (o : Option Setting) → first_refused as_ ≡ o → or_refused o (fitting (assigned defaults as_)) ≡ Ok c → IsHigh c
    by None none found = subst IsHigh (fitting-same (assigned defaults as_) c (misfit (assigned defaults as_)) found) (all_high as_ defaults none first)
    by (Some s) some found = absurd (cc found)

-- ---- words and a text

told_ok : (r : Result Settings Setting) (c : Settings) → settings_in (or_out_of_range r) ≡ Some c → r ≡ Ok c
told_ok (Ok d) c is = cc
told_ok (Err s) c is = absurd (cc is)

worded : (words : List Bytes) (r : Result (List Assignment) ℕ) (c : Settings) → settings_in (with_words words r) ≡ Some c → IsHigh c
worded words (Ok by_text) c is = settings_high (by_text ++ word_assignments words) c (told_ok (settings_of (by_text ++ word_assignments words)) c is)
worded words (Err line) c is = absurd (cc is)

served : (words : List Bytes) (text : Option Bytes) (c : Settings) (t : Bool) → settings_in (cond t (Err TooLong) (with_words words (text_assignments text))) ≡ Some c → IsHigh c
served words text c true is = absurd (cc is)
served words text c false is = worded words (text_assignments text) c is

told : (words : List Bytes) (text : Option Bytes) (seed : Option Bytes) (c : Settings) → settings_in (told_by words text seed) ≡ Some c → IsHigh c
told words text None c is = served words text c (is_too_long text) is
told words text (Some seed) c is = absurd (cc is)

-- where they ask to serve
pub reading_high : (words : List Bytes) (text : Option Bytes) (c : Settings) → settings_in (reading_of words text) ≡ Some c → 512 ≤ c.high
reading_high words text c is = by (has_reading words) is
  where
    by : (t : Bool) → settings_in (cond t (told_by words text (seed_of words)) (Err NoReading)) ≡ Some c → IsHigh c
    by true found = told words text (seed_of words) c found
    by false found = absurd (cc found)
