-- The settings: their names, and the values that each takes. All of them are ours.
use Rattle.std.specs.Prelude.{ℕ, Bool, ◌==◌, ◌&&◌, ◌||◌, not, nat_le, List, [], ◌∷◌, length, Option, is_some, find, codes, bytes_eq}
use Rattle.std.specs.List.{list_all}
use Rattle.std.specs.Char.{is_ascii_alphanumeric}
use Rattle.std.specs.Str.{is_utf8}
use Rattle.pp_conf.specs.Addresses.{are_ranges, is_address}
use Rattle.pp_conf.specs.Numbers.{number_in}
use Rattle.pp_conf.specs.declared.setting.Setting.{Setting}
use Rattle.pp_conf.specs.declared.setting.Setting.TheVariants.{ProxyPort, ProxyAddress, AllowedClients, ProxyName, DiskCacheRoot, ChunkLowMark, ChunkHighMark, ChunkCriticalMark, DiskRun, MaxTurns, ShareFetches, PipelineAsks, HostConnections, AccessLog}

abbrev pub name_of : Setting → List ℕ
name_of ProxyPort = codes "proxyPort"
name_of ProxyAddress = codes "proxyAddress"
name_of AllowedClients = codes "allowedClients"
name_of ProxyName = codes "proxyName"
name_of DiskCacheRoot = codes "diskCacheRoot"
name_of ChunkLowMark = codes "chunkLowMark"
name_of ChunkHighMark = codes "chunkHighMark"
name_of ChunkCriticalMark = codes "chunkCriticalMark"
name_of DiskRun = codes "diskRun"
name_of MaxTurns = codes "maxTurns"
name_of ShareFetches = codes "shareFetches"
name_of PipelineAsks = codes "pipelineAsks"
name_of HostConnections = codes "hostConnections"
name_of AccessLog = codes "accessLog"

abbrev pub all_settings : List Setting
all_settings = ProxyPort ∷ ProxyAddress ∷ AllowedClients ∷ ProxyName ∷ DiskCacheRoot ∷ ChunkLowMark ∷ ChunkHighMark ∷ ChunkCriticalMark ∷ DiskRun ∷ MaxTurns ∷ ShareFetches ∷ PipelineAsks ∷ HostConnections ∷ AccessLog ∷ []

-- the setting of that name, letter for letter
abbrev pub setting_named : List ℕ → Option Setting
setting_named name = find (λ s. bytes_eq (name_of s) name) all_settings

-- a letter, a digit, a dot, a hyphen or an underscore
abbrev pub is_name_byte : ℕ → Bool
is_name_byte b = is_ascii_alphanumeric b || (b == 46) || (b == 45) || (b == 95)

-- the received-by pseudonym of Via: ours, a part of token (RFC 2616, section 14.45)
abbrev pub is_proxy_name : List ℕ → Bool
is_proxy_name text = nat_le 1 (length text) && nat_le (length text) 64 && list_all is_name_byte text

-- a path: UTF-8 without NUL
abbrev pub is_path : List ℕ → Bool
is_path text = is_utf8 text && list_all (λ b. not (b == 0)) text

abbrev pub is_root : List ℕ → Bool
is_root text = nat_le 1 (length text) && nat_le (length text) 255 && is_path text

-- nothing, or a name
abbrev pub is_log : List ℕ → Bool
is_log text = nat_le (length text) 255 && is_path text

-- the numbers that a setting takes by itself, whatever the others are
abbrev pub least_of : Setting → ℕ
least_of ProxyPort = 1
least_of ProxyAddress = 0
least_of AllowedClients = 0
least_of ProxyName = 0
least_of DiskCacheRoot = 0
least_of ChunkLowMark = 512
least_of ChunkHighMark = 512
least_of ChunkCriticalMark = 512
least_of DiskRun = 1
least_of MaxTurns = 1
least_of ShareFetches = 0
least_of PipelineAsks = 0
least_of HostConnections = 1
least_of AccessLog = 0

abbrev pub most_of : Setting → ℕ
most_of ProxyPort = 65535
most_of ProxyAddress = 0
most_of AllowedClients = 0
most_of ProxyName = 0
most_of DiskCacheRoot = 0
most_of ChunkLowMark = 65536
most_of ChunkHighMark = 65536
most_of ChunkCriticalMark = 65536
most_of DiskRun = 64
most_of MaxTurns = 140737488355327
most_of ShareFetches = 1
most_of PipelineAsks = 1
most_of HostConnections = 64
most_of AccessLog = 0

abbrev pub number_for : Setting → List ℕ → Option ℕ
number_for s text = number_in (least_of s) (most_of s) text

-- the value is in the setting's own range
abbrev pub accepts : Setting → List ℕ → Bool
accepts ProxyPort text = is_some (number_for ProxyPort text)
accepts ProxyAddress text = is_address text
accepts AllowedClients text = are_ranges text
accepts ProxyName text = is_proxy_name text
accepts DiskCacheRoot text = is_root text
accepts ChunkLowMark text = is_some (number_for ChunkLowMark text)
accepts ChunkHighMark text = is_some (number_for ChunkHighMark text)
accepts ChunkCriticalMark text = is_some (number_for ChunkCriticalMark text)
accepts DiskRun text = is_some (number_for DiskRun text)
accepts MaxTurns text = is_some (number_for MaxTurns text)
accepts ShareFetches text = is_some (number_for ShareFetches text)
accepts PipelineAsks text = is_some (number_for PipelineAsks text)
accepts HostConnections text = is_some (number_for HostConnections text)
accepts AccessLog text = is_log text
