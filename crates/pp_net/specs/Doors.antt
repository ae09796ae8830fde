-- Who may come to a door.
use Rattle.std.specs.Prelude.{Bool, false, List}
use Rattle.std.specs.List.{list_any}
use Rattle.std.specs.Net.Addr.{ipv4_bits}
use Rattle.std.specs.Net.Socket.{v4_ip}
use Rattle.std.specs.declared.net.socket_addr.SocketAddr.{SocketAddr}
use Rattle.std.specs.declared.net.socket_addr.SocketAddr.TheVariants.{V4, V6}
use Rattle.pp_world.specs.declared.door.AddressRange.{AddressRange}
use Rattle.pp_world.specs.Doors.{is_in}

-- who comes from an address of IPv4 that is in one of the ranges
abbrev pub may_come : List AddressRange → SocketAddr → Bool
may_come allowed (V4 from) = list_any (is_in (ipv4_bits (v4_ip from))) allowed
may_come allowed (V6 from) = false
