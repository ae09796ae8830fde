-- What a life came to that is to serve, and does not.
use Rattle.std.proofs.Common.{◌≡◌, ◌≤◌, inl, inr, is_some, subst, sym, Bool, true, false, List, [], ◌∷◌, ℕ, Option, Ok}
use Rattle.pp_conf.specs.Conf.{Settings}
use Rattle.pp_conf.specs.Words.{Serves, file_of, has_reading, reading_of}
use Rattle.pp_conf.specs.declared.fault.ConfFault.{ConfFault}
use Rattle.pp_conf.specs.declared.fault.ConfFault.TheVariants.{Usage as IsUsage, TooLong, BadLine, BadValue, OutOfMemory}
use Rattle.pp_store.specs.Kept.{KeptMap}
use Rattle.pp_world.specs.Log.{AppendsAll, Log}
use Rattle.pp_world.specs.declared.happening.Happening.TheVariants.{Printed}
use Rattle.pp_run.specs.Breaks.{BreaksAs, BreaksOff, BreaksWith, ShutsAs}
use Rattle.pp_run.specs.Exits.{ListensAs, ShowsAs, asked_for, exit_of, served_as}
use Rattle.pp_run.specs.Lines.{fault_line}
use Rattle.pp_run.specs.Lives.{OpensFolder, Outside}
use Rattle.pp_run.specs.declared.ending.Exit.{Exit}
use Rattle.pp_run.specs.declared.ending.Exit.TheVariants.{Served, ServedAstray, Usage, NoMemory, NoDisk, NoListener, NoConfig}

-- it serves
pub served_shuts : (astray : Bool) (port : ℕ) (exit : Exit) (x y : Outside) → exit ≡ served_as astray → ShutsAs port exit x y
served_shuts astray port exit x y is = subst (λ (e : Exit). ShutsAs port e x y) (sym is) (by astray)
  where
    by : (b : Bool) → ShutsAs port (served_as b) x y
    by false = tt
    by true = tt

-- with its folder it serves, or may not listen
pub opened_breaks : (root : List ℕ) (port most_turns : ℕ) (shelf : KeptMap) (x opened y : Outside) (exit : Exit) (old new : Option Log) (before now : ℕ) → OpensFolder root shelf x opened → ListensAs port most_turns exit old new before now → ShutsAs port exit opened y → BreaksOff root port exit x y
opened_breaks root port most_turns shelf x opened y NoListener old new before now opens told shuts = (shelf, opened, opens, shuts)
opened_breaks root port most_turns shelf x opened y Served old new before now opens told shuts = tt
opened_breaks root port most_turns shelf x opened y ServedAstray old new before now opens told shuts = tt
opened_breaks root port most_turns shelf x opened y Usage old new before now opens told shuts = tt
opened_breaks root port most_turns shelf x opened y NoMemory old new before now opens told shuts = absurd told
opened_breaks root port most_turns shelf x opened y NoDisk old new before now opens told shuts = absurd told
opened_breaks root port most_turns shelf x opened y NoConfig old new before now opens told shuts = tt

-- with its settings
pub set_breaks : (words : List (List ℕ)) (text : Option (List ℕ)) (c : Settings) (exit : Exit) (x y : Outside) → reading_of words text ≡ Ok (Serves c) → BreaksOff c.root c.port exit x y → BreaksWith words text exit x y
set_breaks words text c NoMemory x y says breaks = inr (c, says, breaks)
set_breaks words text c NoDisk x y says breaks = (c, says, breaks)
set_breaks words text c NoListener x y says breaks = (c, says, breaks)
set_breaks words text c Served x y says breaks = tt
set_breaks words text c ServedAstray x y says breaks = tt
set_breaks words text c Usage x y says breaks = tt
set_breaks words text c NoConfig x y says breaks = tt

-- the demo
pub shown_breaks : (words : List (List ℕ)) (text : Option (List ℕ)) (exit : Exit) (x y : Outside) → ShowsAs exit x.log y.log → BreaksWith words text exit x y
shown_breaks words text NoMemory x y shows = inl shows
shown_breaks words text NoDisk x y shows = absurd shows
shown_breaks words text NoListener x y shows = absurd shows
shown_breaks words text Served x y shows = tt
shown_breaks words text ServedAstray x y shows = tt
shown_breaks words text Usage x y shows = tt
shown_breaks words text NoConfig x y shows = tt

-- no settings
pub refused_breaks : (words : List (List ℕ)) (text : Option (List ℕ)) (fault : ConfFault) (exit : Exit) (x y : Outside) → exit ≡ exit_of fault → AppendsAll x.log y.log (λ l. Printed (fault_line fault) ∷ []) → BreaksWith words text exit x y
refused_breaks words text fault exit x y is told = subst (λ (e : Exit). BreaksWith words text e x y) (sym is) (by fault told)
  where
    by : (f : ConfFault) → AppendsAll x.log y.log (λ l. Printed (fault_line f) ∷ []) → BreaksWith words text (exit_of f) x y
    by IsUsage printed = tt
    by TooLong printed = tt
    by (BadLine k) printed = tt
    by (BadValue s) printed = tt
    by OutOfMemory printed = inl printed

-- from its words
pub asked_breaks : (words : List (List ℕ)) (text : Option (List ℕ)) (exit : Exit) (x asked y : Outside) → has_reading words ≡ true → is_some text ≡ is_some (file_of words) → AppendsAll x.log asked.log (λ l. asked_for (file_of words) text) → x.faults ≤ asked.faults → BreaksWith words text exit asked y → BreaksAs words exit x y
asked_breaks words text NoMemory x asked y reads named asks count breaks = inr (record { reads = reads; text = text; named = named; asked = asked; asks = asks; count = count; breaks = breaks })
asked_breaks words text NoDisk x asked y reads named asks count breaks = record { reads = reads; text = text; named = named; asked = asked; asks = asks; count = count; breaks = breaks }
asked_breaks words text NoListener x asked y reads named asks count breaks = record { reads = reads; text = text; named = named; asked = asked; asks = asks; count = count; breaks = breaks }
asked_breaks words text Served x asked y reads named asks count breaks = tt
asked_breaks words text ServedAstray x asked y reads named asks count breaks = tt
asked_breaks words text Usage x asked y reads named asks count breaks = tt
asked_breaks words text NoConfig x asked y reads named asks count breaks = tt
