-- What a life has before its first event.
use Rattle.std.specs.Prelude.{◌≡◌, ℕ, false, []}
use Rattle.pp_conf.specs.Conf.{Settings}
use Rattle.pp_conf.specs.Shown.{shown_conf}
use Rattle.pp_conf.specs.declared.conf.Conf.{Conf}
use Rattle.pp_desk.specs.Opening.{IsNew, IsSet}
use Rattle.pp_flow_law.specs.Tables.{none_leaves}
use Rattle.pp_law.specs.Chunks.{floor, trigger}
use Rattle.pp_law.specs.Connections.{limits}
use Rattle.pp_law.specs.State.{State}
use Rattle.pp_law.specs.Store.{run_len}
use Rattle.pp_state.specs.declared.state.State.{State as Turn}
use Rattle.pp_turns_law.specs.Turns.{ShowsTurn}

-- ---- of the law

-- nobody is there, nothing is under way, nothing is in memory, and the clock has not ticked
pub record IsUnused (s : State) : Type 0 where
  pub clients : s.clients ≡ []
  pub conns : s.conns ≡ []
  pub exchanges : s.exchanges ≡ []
  pub begun : s.next_exchange ≡ 0
  pub instances : s.instances ≡ []
  pub chunks : s.chunks ≡ []
  pub clock : s.clock ≡ 0
  pub still : s.is_ticked ≡ false
  pub goes : s.is_stopped ≡ false

-- ---- the settings in force

pub record IsInForce (p : Turn) (s : State) : Type 0 where
  pub name : p.name.items ≡ s.settings.name
  pub trigger : p.trigger ≡ trigger s
  pub floor : p.floor ≡ floor s
  pub shares : p.shares_fetches ≡ s.settings.shares_fetches
  pub limits : p.limits ≡ limits s
  pub run : p.run ≡ run_len s

abbrev pub SettingsAreTheLaws : Type 0
SettingsAreTheLaws = (conf : Conf) (p : Turn) (s : State) → IsSet conf p → s.settings ≡ shown_conf conf → IsInForce p s

-- ---- all

-- by any map of numbers
abbrev pub MemoryIsTheLaws : Type 0
MemoryIsTheLaws = (number : ℕ → ℕ) (conf : Conf) (p : Turn) (s : State) → IsSet conf p → IsNew conf p → s.settings ≡ shown_conf conf → IsUnused s → ShowsTurn number none_leaves [] p s
