-- Where the operator's log of replies is written. Ours.
use Rattle.std.specs.Prelude.{ℕ, List, [], cond, codes, bytes_eq}
use Rattle.pp_world.specs.declared.access.AccessLog.{AccessLog}
use Rattle.pp_world.specs.declared.access.AccessLog.TheVariants.{Nowhere, Console, File}

pub data LogPlace : Type 0 where
  NoLog OnConsole : LogPlace
  InFile : List ℕ → LogPlace

-- nothing: nowhere; a hyphen: the console; else the file of that name
abbrev pub log_place : List ℕ → LogPlace
log_place name = cond (bytes_eq name []) NoLog (cond (bytes_eq name (codes "-")) OnConsole (InFile name))

abbrev pub shown_place : AccessLog → LogPlace
shown_place Nowhere = NoLog
shown_place Console = OnConsole
shown_place (File name) = InFile name.now
