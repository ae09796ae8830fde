-- Of which exits a life is told.
use Rattle.std.proofs.Common.{◌≡◌, ◌∙◌, ◌&&◌, refl, subst, sym, Bool, true, false, List, [], ◌∷◌, ℕ, Option, Some, None}
use Rattle.pp_conf.specs.declared.fault.ConfFault.{ConfFault}
use Rattle.pp_conf.specs.declared.fault.ConfFault.TheVariants.{Usage, TooLong, BadLine, BadValue, OutOfMemory}
use Rattle.pp_conf.specs.Words.{file_of}
use Rattle.pp_run.specs.Exits.{asked_for, asks_to_serve, exit_of}
use Rattle.pp_run.specs.Lives.{ServingBy, has_served}
use Rattle.pp_run.specs.declared.ending.Exit.{Exit}
use Rattle.pp_world.proofs.CallLemmas.{appends_none}
use Rattle.pp_world.specs.Log.{Log, AppendsAll}
use Rattle.pp_world.specs.declared.happening.Happening.TheVariants.{Configured}

pub second : (a b : Bool) → (a && b) ≡ true → b ≡ true
second true b both = both
second false b both = let bad : false ≡ true = both in absurd (cc)

first : (a b : Bool) → (a && b) ≡ true → a ≡ true
first true b both = refl
first false b both = both

-- it did not serve
pub none_served : (words : List (List ℕ)) (exit : Exit) (P : Type 0) → has_served exit ≡ false → ServingBy words exit P
none_served words exit P never served = let bad : false ≡ true = sym never ∙ second (asks_to_serve words) (has_served exit) served in absurd (cc)

-- it was not to
pub none_asked : (words : List (List ℕ)) (exit : Exit) (P : Type 0) → asks_to_serve words ≡ false → ServingBy words exit P
none_asked words exit P never served = let bad : false ≡ true = sym never ∙ first (asks_to_serve words) (has_served exit) served in absurd (cc)

pub faults_serve_none : (fault : ConfFault) → has_served (exit_of fault) ≡ false
faults_serve_none Usage = refl
faults_serve_none TooLong = refl
faults_serve_none (BadLine k) = refl
faults_serve_none (BadValue s) = refl
faults_serve_none OutOfMemory = refl

-- FILE was asked for
pub asked_named : {old mid : Option Log} (words : List (List ℕ)) (file text : List ℕ) → file_of words ≡ Some file → AppendsAll old mid (λ l. Configured file (Some text) ∷ []) → AppendsAll old mid (λ l. asked_for (file_of words) (Some text))
asked_named {old} {mid} words file text named first = subst (λ (f : Option (List ℕ)). AppendsAll old mid (λ l. asked_for f (Some text))) (sym named) first

-- or not
pub asked_none : (log : Option Log) (words : List (List ℕ)) → file_of words ≡ None → AppendsAll log log (λ l. asked_for (file_of words) None)
asked_none log words named = subst (λ (f : Option (List ℕ)). AppendsAll log log (λ l. asked_for f None)) (sym named) (appends_none log)
