-- How long the parts of a line are.
use Rattle.std.proofs.Common.{◌≤◌, length, arith}
use Rattle.pp_conf.specs.Settings.{name_of}
use Rattle.pp_conf.specs.declared.setting.Setting.{Setting}
use Rattle.pp_conf.specs.declared.setting.Setting.TheVariants.{ProxyPort, ProxyAddress, AllowedClients, ProxyName, DiskCacheRoot, ChunkLowMark, ChunkHighMark, ChunkCriticalMark, DiskRun, MaxTurns, ShareFetches, PipelineAsks, HostConnections, AccessLog}

pub name_fits : (s : Setting) → length (name_of s) ≤ 17
name_fits ProxyPort = omega arith
name_fits ProxyAddress = omega arith
name_fits AllowedClients = omega arith
name_fits ProxyName = omega arith
name_fits DiskCacheRoot = omega arith
name_fits ChunkLowMark = omega arith
name_fits ChunkHighMark = omega arith
name_fits ChunkCriticalMark = omega arith
name_fits DiskRun = omega arith
name_fits MaxTurns = omega arith
name_fits ShareFetches = omega arith
name_fits PipelineAsks = omega arith
name_fits HostConnections = omega arith
name_fits AccessLog = omega arith
