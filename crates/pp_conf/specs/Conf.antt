-- What all assignments together set.
use Rattle.std.specs.Prelude.{ℕ, Bool, true, false, ◌==◌, ◌&&◌, not, nat_lt, cond, List, [], ◌∷◌, fold, find, Option, Some, None, unwrap_or, option_map, Result, Ok, Err, codes}
use Rattle.std.specs.List.{list_all}
use Rattle.pp_world.specs.declared.door.AddressRange.{AddressRange}
use Rattle.pp_world.specs.Doors.{is_in}
use Rattle.pp_conf.specs.Addresses.{address_of, is_local, loopback, ranges_of}
use Rattle.pp_conf.specs.Settings.{accepts, number_for}
use Rattle.pp_conf.specs.declared.setting.Setting.{Setting}
use Rattle.pp_conf.specs.declared.setting.Setting.TheVariants.{ProxyPort, ProxyAddress, AllowedClients, ProxyName, DiskCacheRoot, ChunkLowMark, ChunkHighMark, ChunkCriticalMark, DiskRun, MaxTurns, ShareFetches, PipelineAsks, HostConnections, AccessLog}

-- a setting and the text of its value
abbrev pub Assignment : Type 0
Assignment = Setting × List ℕ

pub record Settings : Type 0 where
  pub port : ℕ
  pub address : ℕ
  pub allowed : List AddressRange
  pub name : List ℕ
  pub root : List ℕ
  pub low : ℕ
  pub high : ℕ
  pub critical : ℕ
  pub disk_run : ℕ
  pub max_turns : ℕ
  pub shares_fetches : Bool
  pub pipelines_asks : Bool
  pub host_connections : ℕ
  pub access_log : List ℕ

abbrev pub defaults : Settings
defaults = record {
  port = 8123;
  address = 2130706433;
  allowed = loopback ∷ [];
  name = codes "polipo";
  root = codes "polipo-cache";
  low = 2560;
  high = 3072;
  critical = 4096;
  disk_run = 16;
  max_turns = 140737488355327;
  shares_fetches = true;
  pipelines_asks = false;
  host_connections = 8;
  access_log = [];
}

abbrev pub number_or_0 : Setting → List ℕ → ℕ
number_or_0 s text = unwrap_or (number_for s text) 0

-- "a later setting replaces an earlier one"
abbrev pub with_value : Settings → Setting → List ℕ → Settings
with_value c ProxyPort text = record c { port = number_or_0 ProxyPort text }
with_value c ProxyAddress text = record c { address = unwrap_or (address_of text) 0 }
with_value c AllowedClients text = record c { allowed = ranges_of text }
with_value c ProxyName text = record c { name = text }
with_value c DiskCacheRoot text = record c { root = text }
with_value c ChunkLowMark text = record c { low = number_or_0 ChunkLowMark text }
with_value c ChunkHighMark text = record c { high = number_or_0 ChunkHighMark text }
with_value c ChunkCriticalMark text = record c { critical = number_or_0 ChunkCriticalMark text }
with_value c DiskRun text = record c { disk_run = number_or_0 DiskRun text }
with_value c MaxTurns text = record c { max_turns = number_or_0 MaxTurns text }
with_value c ShareFetches text = record c { shares_fetches = number_or_0 ShareFetches text == 1 }
with_value c PipelineAsks text = record c { pipelines_asks = number_or_0 PipelineAsks text == 1 }
with_value c HostConnections text = record c { host_connections = number_or_0 HostConnections text }
with_value c AccessLog text = record c { access_log = text }

abbrev pub assigned : Settings → List Assignment → Settings
assigned c assignments = fold (λ c a. with_value c a.0 a.1) c assignments

-- the first setting whose value is outside its own range
abbrev pub first_refused : List Assignment → Option Setting
first_refused assignments = option_map (λ a. a.0) (find (λ a. not (accepts a.0 a.1)) assignments)

-- it listens where other machines can reach it, and allows none of them
abbrev pub shuts_all_out : ℕ → List AddressRange → Bool
shuts_all_out address allowed = not (is_in address loopback) && list_all is_local allowed

-- the first setting that does not go with the others: the low mark is at most the high mark, and that at most the
-- critical mark; and who listens for other machines says which
abbrev pub misfit : Settings → Option Setting
misfit c =
    cond (nat_lt c.high c.low) (Some ChunkHighMark)
    (cond (nat_lt c.critical c.high) (Some ChunkCriticalMark) (cond (shuts_all_out c.address c.allowed) (Some AllowedClients) None))

abbrev pub or_refused : Option Setting → Result Settings Setting → Result Settings Setting
or_refused None r = r
or_refused (Some s) r = Err s

abbrev pub fitting : Settings → Result Settings Setting
fitting c = or_refused (misfit c) (Ok c)

-- the settings of all assignments, the defaults where nothing is assigned; or the setting that is refused
abbrev pub settings_of : List Assignment → Result Settings Setting
settings_of assignments = or_refused (first_refused assignments) (fitting (assigned defaults assignments))
