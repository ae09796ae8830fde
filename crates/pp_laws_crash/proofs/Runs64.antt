-- A reading never sets runs of more than 64 chunks.
use Rattle.std.proofs.Common.{◌≡◌, refl, ℕ, ◌≤◌, nat_le, Bool, true, false, ◌&&◌, List, [], ◌∷◌, ◌++◌, cond, Option, Some, None, option_and_then, Result, Ok, Err, subst, ap, arith}
use Rattle.std.specs.Prelude.{unwrap_or}
use Rattle.std.proofs.lemmas.Bool.Decides.{nat_tests}
use Rattle.pp_conf.specs.Conf.{Assignment, Settings, assigned, defaults, first_refused, fitting, number_or_0, or_refused, misfit, settings_of, with_value}
use Rattle.pp_conf.specs.Numbers.{is_padded}
use Rattle.pp_conf.specs.Words.{NoReading, TooLong, Serves, has_reading, is_too_long, or_out_of_range, reading_of, seed_of, text_assignments, told_by, with_words, word_assignments}
use Rattle.pp_conf.specs.declared.setting.Setting.{Setting}
use Rattle.pp_conf.specs.declared.setting.Setting.TheVariants.{ProxyPort, ProxyAddress, AllowedClients, ProxyName, DiskCacheRoot, ChunkLowMark, ChunkHighMark, ChunkCriticalMark, DiskRun, MaxTurns, ShareFetches, PipelineAsks, HostConnections, AccessLog}
use Rattle.pp_text.specs.Numbers.{number_of}
use Rattle.pp_law.specs.Lists.{Bytes}
use Rattle.pp_laws.proofs.Tests.{second_holds}

le_of : (a b : ℕ) → nat_le a b ≡ true → a ≤ b
le_of a b is = grind (arith, nat_tests)

within : (n : ℕ) (b : Bool) → (nat_le 1 n && nat_le n 64) ≡ b → unwrap_or (cond b (Some n) None) 0 ≤ 64
within n true is = le_of n 64 (second_holds (nat_le 1 n) _ is)
within n false is = omega arith

of_number : (o : Option ℕ) → unwrap_or (option_and_then (λ n. cond (nat_le 1 n && nat_le n 64) (Some n) None) o) 0 ≤ 64
of_number None = omega arith
of_number (Some n) = within n (nat_le 1 n && nat_le n 64) refl

of_text : (padded : Bool) (o : Option ℕ) → unwrap_or (cond padded None (option_and_then (λ n. cond (nat_le 1 n && nat_le n 64) (Some n) None) o)) 0 ≤ 64
of_text true o = omega arith
of_text false o = of_number o

run_few : (text : List ℕ) → number_or_0 DiskRun text ≤ 64
run_few text = of_text (is_padded text) (number_of text)

value_few : (c : Settings) (s : Setting) (text : List ℕ) → c.disk_run ≤ 64 → (with_value c s text).disk_run ≤ 64
value_few c ProxyPort text few = few
value_few c ProxyAddress text few = few
value_few c AllowedClients text few = few
value_few c ProxyName text few = few
value_few c DiskCacheRoot text few = few
value_few c ChunkLowMark text few = few
value_few c ChunkHighMark text few = few
value_few c ChunkCriticalMark text few = few
value_few c DiskRun text few = run_few text
value_few c MaxTurns text few = few
value_few c ShareFetches text few = few
value_few c PipelineAsks text few = few
value_few c HostConnections text few = few
value_few c AccessLog text few = few

assigned_few : (c : Settings) (as_ : List Assignment) → c.disk_run ≤ 64 → (assigned c as_).disk_run ≤ 64
assigned_few c [] few = few
assigned_few c (a ∷ as_) few = assigned_few (with_value c a.0 a.1) as_ (value_few c a.0 a.1 few)

or_few : (o : Option Setting) (r : Result Settings Setting) (c : Settings) → or_refused o r ≡ Ok c → r ≡ Ok c
or_few None r c is = is
or_few (Some s) r c is = absurd (cc is)

settings_few : (as_ : List Assignment) (c : Settings) → settings_of as_ ≡ Ok c → c.disk_run ≤ 64
settings_few as_ c is =
    let one : fitting (assigned defaults as_) ≡ Ok c = or_few (first_refused as_) (fitting (assigned defaults as_)) c is in
    let two : Ok (assigned defaults as_) ≡ Ok c = or_few (misfit (assigned defaults as_)) (Ok (assigned defaults as_)) c one in
    let same : assigned defaults as_ ≡ c = cc two in
    subst (λ (x : Settings). x.disk_run ≤ 64) same (assigned_few defaults as_ (omega arith))

serves_by : (r : Result Settings Setting) (c : Settings) → or_out_of_range r ≡ Ok (Serves c) → r ≡ Ok c
serves_by (Ok d) c is = let same : d ≡ c = cc is in ap (λ (x : Settings). Ok x) same
serves_by (Err s) c is = absurd (cc is)

words_few : (words : List Bytes) (r : Result (List Assignment) ℕ) (c : Settings) → with_words words r ≡ Ok (Serves c) → c.disk_run ≤ 64
words_few words (Ok by_text) c is = settings_few (by_text ++ word_assignments words) c (serves_by (settings_of (by_text ++ word_assignments words)) c is)
words_few words (Err line) c is = absurd (cc is)

long_few : (words : List Bytes) (text : Option Bytes) (c : Settings) (long : Bool) → cond long (Err TooLong) (with_words words (text_assignments text)) ≡ Ok (Serves c) → c.disk_run ≤ 64
long_few words text c true is = absurd (cc is)
long_few words text c false is = words_few words (text_assignments text) c is

seed_few : (words : List Bytes) (text seed : Option Bytes) (c : Settings) → told_by words text seed ≡ Ok (Serves c) → c.disk_run ≤ 64
seed_few words text (Some seed) c is = absurd (cc is)
seed_few words text None c is = long_few words text c (is_too_long text) is

read_by : (words : List Bytes) (text : Option Bytes) (c : Settings) (has : Bool) → cond has (told_by words text (seed_of words)) (Err NoReading) ≡ Ok (Serves c) → c.disk_run ≤ 64
read_by words text c true is = seed_few words text (seed_of words) c is
read_by words text c false is = absurd (cc is)

pub few_read : (words : List Bytes) (text : Option Bytes) (c : Settings) → reading_of words text ≡ Ok (Serves c) → c.disk_run ≤ 64
few_read words text c is = read_by words text c (has_reading words) is
