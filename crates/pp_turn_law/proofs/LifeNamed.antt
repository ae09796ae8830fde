-- Settings that words and a text give have a name of 64 bytes at most.
use Rattle.std.proofs.Common.{◌≡◌, ◌≤◌, refl, subst, ap, ℕ, Bool, true, false, ◌&&◌, not, nat_le, cond, List, [], ◌∷◌, ◌++◌, find, length, Option, Some, None, option_map, Result, Ok, Err, arith}
use Rattle.std.proofs.lemmas.Bool.Decides.{nat_tests}
use Rattle.std.specs.List.{list_all}
use Rattle.pp_conf.specs.Conf.{Assignment, Settings, assigned, defaults, first_refused, fitting, misfit, or_refused, settings_of, with_value}
use Rattle.pp_conf.specs.Settings.{accepts, is_name_byte}
use Rattle.pp_conf.specs.Words.{NoReading, Serves, TooLong, has_reading, is_too_long, or_out_of_range, reading_of, seed_of, text_assignments, told_by, with_words, word_assignments}
use Rattle.pp_conf.specs.declared.setting.Setting.{Setting}
use Rattle.pp_conf.specs.declared.setting.Setting.TheVariants.{ProxyPort, ProxyAddress, AllowedClients, ProxyName, DiskCacheRoot, ChunkLowMark, ChunkHighMark, ChunkCriticalMark, DiskRun, MaxTurns, ShareFetches, PipelineAsks, HostConnections, AccessLog}
use Rattle.pp_law.specs.Lists.{Bytes}
use Rattle.pp_laws.proofs.Tests.{first_holds, second_holds}

abbrev IsNamed : Settings → Type 0
IsNamed c = length c.name ≤ 64

short_name : (text : Bytes) → accepts ProxyName text ≡ true → length text ≤ 64
short_name text is =
    let within : nat_le (length text) 64 ≡ true = second_holds (nat_le 1 (length text)) (nat_le (length text) 64) (first_holds (nat_le 1 (length text) && nat_le (length text) 64) (list_all is_name_byte text) is) in
    grind (arith, nat_tests, within)

one_named : (c : Settings) (s : Setting) (text : Bytes) → accepts s text ≡ true → IsNamed c → IsNamed (with_value c s text)
one_named c ProxyName text is named = short_name text is
one_named c ProxyPort text is named = named
one_named c ProxyAddress text is named = named
one_named c AllowedClients text is named = named
one_named c DiskCacheRoot text is named = named
one_named c ChunkLowMark text is named = named
one_named c ChunkHighMark text is named = named
one_named c ChunkCriticalMark text is named = named
one_named c DiskRun text is named = named
one_named c MaxTurns text is named = named
one_named c ShareFetches text is named = named
one_named c PipelineAsks text is named = named
one_named c HostConnections text is named = named
one_named c AccessLog text is named = named

accepted : (a : Assignment) (rest : Option Assignment) (t : Bool) → accepts a.0 a.1 ≡ t → option_map (λ (b : Assignment). b.0) (cond (not t) (Some a) rest) ≡ None → (t ≡ true) × (option_map (λ (b : Assignment). b.0) rest ≡ None)
accepted a rest true is none = (refl, none)
accepted a rest false is none = absurd (cc none)

all_named : (all : List Assignment) (c : Settings) → first_refused all ≡ None → IsNamed c → IsNamed (assigned c all)
all_named [] c none named = named
all_named (a ∷ all) c none named =
    let it = accepted a (find (λ (b : Assignment). not (accepts b.0 b.1)) all) (accepts a.0 a.1) refl none in
    all_named all (with_value c a.0 a.1) it.1 (one_named c a.0 a.1 it.0 named)

named_of : (all : List Assignment) (c : Settings) → settings_of all ≡ Ok c → IsNamed c
named_of all c is = by (first_refused all) refl is
  where
    fits : (o : Option Setting) (d : Settings) → or_refused o (Ok d) ≡ Ok c → d ≡ c
    fits None d same = cc same
    fits (Some s) d same = absurd (cc same)

    by : (o : Option Setting) → first_refused all ≡ o → or_refused o (fitting (assigned defaults all)) ≡ Ok c → IsNamed c
    by None none same = subst IsNamed (fits (misfit (assigned defaults all)) (assigned defaults all) same) (all_named all defaults none (let six : length defaults.name ≡ 6 = refl in omega (arith, six)))
    by (Some s) some same = absurd (cc same)

pub named_told : (words : List Bytes) (text : Option Bytes) (c : Settings) → reading_of words text ≡ Ok (Serves c) → length c.name ≤ 64
named_told words text c is = read (has_reading words) is
  where
    set : (r : Result Settings Setting) → or_out_of_range r ≡ Ok (Serves c) → r ≡ Ok c
    set (Ok d) same = let e : d ≡ c = cc same in ap (λ (x : Settings). Ok x) e
    set (Err s) same = absurd (cc same)

    parsed : (r : Result (List Assignment) ℕ) → with_words words r ≡ Ok (Serves c) → IsNamed c
    parsed (Ok by_text) same = named_of (by_text ++ word_assignments words) c (set (settings_of (by_text ++ word_assignments words)) same)
    parsed (Err line) same = absurd (cc same)

    served : (long : Bool) → cond long (Err TooLong) (with_words words (text_assignments text)) ≡ Ok (Serves c) → IsNamed c
    served true same = absurd (cc same)
    served false same = parsed (text_assignments text) same

    told : (seed : Option Bytes) → told_by words text seed ≡ Ok (Serves c) → IsNamed c
    told None same = served (is_too_long text) same
    told (Some seed) same = absurd (cc same)

    read : (reads : Bool) → cond reads (told_by words text (seed_of words)) (Err NoReading) ≡ Ok (Serves c) → IsNamed c
    read true same = told (seed_of words) same
    read false same = absurd (cc same)
