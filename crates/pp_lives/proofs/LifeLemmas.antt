-- A world that has just woken, and what is kept once its folder is rooted and opened.
use Rattle.std.proofs.Common.{◌≡◌, ◌∙◌, ℕ, [], ◌∷◌, ◌++◌, take, Option, Some, None, refl, sym, ap, subst, append_assoc}
use Rattle.pp_world.specs.declared.happening.Happening.TheVariants.{Rooted, Woke}
use Rattle.pp_world.specs.Disk.{Bytes}
use Rattle.pp_world.specs.Files.{Files}
use Rattle.pp_world.specs.Log.{Appends, Log, Told}
use Rattle.pp_memworld.specs.declared.memworld.MemWorld.{MemWorld}
use Rattle.pp_memworld.specs.Crash.{Crashes}
use Rattle.pp_memworld.specs.MemWorld.{told_log}
use Rattle.pp_gate.specs.Files.{Sent}
use Rattle.pp_store.specs.Held.{Holds}
use Rattle.pp_store.specs.Kept.{KeptMap}
use Rattle.pp_recover.specs.Looks.{Extends}
use Rattle.pp_recover.specs.Opening.{AllSent, IsFresh}
use Rattle.pp_recover.proofs.OpenLemmas.{fresh_woken}
use Rattle.pp_lives.specs.Lives.{HasWoken, any_byte}

same_log : (k l : Log) → Some k ≡ Some l → k ≡ l
same_log k l is = cc

pub new_wakes : (log : Option Log) (files : Files) → log ≡ Some (Woke files ∷ []) → Told log HasWoken
new_wakes log files is = record { at = λ l told. ([], files, same_log l (Woke files ∷ []) (sym told ∙ is)) }

pub crash_wakes : (at : ℕ) (log : Option Log) (w : MemWorld) → Crashes at log (Some w) → Told (told_log w) HasWoken
crash_wakes at None w crash = absurd (cc)
crash_wakes at (Some log) w crash = record { at = λ l told. (take at log, crash.1.image, same_log l _ (sym told ∙ crash.1.goes_on)) }

-- to root a folder changes nothing
pub fresh_rooted : (old new : Option Log) (folder : Bytes) → Told old HasWoken → Appends old new (λ l. Rooted folder) → Told new (λ l. (files : Files) × IsFresh files l)
fresh_rooted old new folder woken roots = record {
  at = λ l told.
      let w = roots.was l told in
      let h = woken.at w.0 w.1 in
      let is : l ≡ h.0 ++ (Woke h.1 ∷ Rooted folder ∷ []) = w.2 ∙ ap (λ (k : Log). k ++ Rooted folder ∷ []) h.2 ∙ append_assoc h.0 (Woke h.1 ∷ []) (Rooted folder ∷ []) in
      (h.1, subst (IsFresh h.1) (sym is) (fresh_woken h.0 h.1 folder));
}

all_sent : (files : Files) → AllSent any_byte files
all_sent files = λ name file there kept entry offset below. refl

-- what is opened is kept
pub opened_holds : (old new : Option Log) (store : KeptMap) → Told old (λ l. (files : Files) × IsFresh files l)
    → Extends old new (λ before hs. (files : Files) → IsFresh files before → (sent : Sent) → AllSent sent files → Holds sent store (before ++ hs))
    → Told new (Holds any_byte store)
opened_holds old new store fresh holds = record {
  at = λ l told.
      let w = holds.was l told in
      let f = fresh.at w.0 w.2 in
      subst (Holds any_byte store) (sym w.3) (w.4 f.0 f.1 any_byte (all_sent f.0));
}
