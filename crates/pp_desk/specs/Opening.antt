-- The memory of the proxy as it begins: the settings in force, nobody, and nothing.
use Rattle.std.specs.Prelude.{◌≡◌, ◌≤◌, ◌-◌, ◌/◌, Bool, true, false, [], length, min, max, vec_capacity}
use Rattle.pp_cache.specs.Memory.{empty_memory}
use Rattle.pp_conf.specs.Logs.{LogPlace, NoLog, OnConsole, InFile}
use Rattle.pp_conf.specs.declared.conf.Conf.{Conf}
use Rattle.pp_desk.specs.declared.desk.Desk.{Desk}
use Rattle.pp_state.specs.declared.state.State.{State}

-- ---- the settings in force

pub record IsSet (conf : Conf) (s : State) : Type 0 where
  pub name : s.name.items ≡ conf.name.items
  pub trigger : s.trigger ≡ min conf.high (conf.critical - 31)  -- ours: so many chunks are free at least, whatever was set
  pub floor : s.floor ≡ min conf.low (conf.critical - 32)
  pub shares : s.shares_fetches ≡ conf.share_fetches
  pub limits : s.limits ≡ record { host_connections = conf.host_connections; pipelines_asks = conf.pipeline_asks }
  pub run : s.run ≡ max 1 (min conf.disk_run (conf.critical / 128))  -- ours: a chunk at least, and at most so small a part of the pool

-- the operator keeps a log of replies
abbrev pub is_logged : LogPlace → Bool
is_logged NoLog = false
is_logged OnConsole = true
is_logged (InFile name) = true

-- ---- nobody is there, nothing is under way, and nothing is in memory

pub record IsNew (conf : Conf) (s : State) : Type 0 where
  pub seats : s.seats.items ≡ []
  pub awake : s.awake.items ≡ []
  pub flow : s.flow ≡ record { waiting = []; placed = []; begun = 0 }
  pub cache : s.cache ≡ empty_memory conf.critical
  pub draft : s.has_lost_draft ≡ false
  pub now : s.now ≡ 0
  pub unticked : s.has_ticked ≡ false
  pub still : s.is_ticked ≡ false
  pub goes : s.is_stopped ≡ false
  pub evicting : s.is_evicting ≡ false
  pub forgotten : s.forgotten ≡ []
  pub refused : s.refused ≡ []
  pub astray : s.is_astray ≡ false

-- ---- the memory that is taken once

-- for all clients that there may be. Where all are looked at, there is still room to note one
pub record HasRoom (s : State) : Type 0 where
  pub seats : 256 ≤ vec_capacity s.seats
  pub awake : 257 ≤ vec_capacity s.awake

-- and for one read, its data, and a file of the disk
pub record HasBuffers (d : Desk) : Type 0 where
  pub buffer : length d.buffer.items ≡ 32768
  pub bytes : 32768 ≤ vec_capacity d.«data»
  pub file : length d.file.items ≡ 286720
