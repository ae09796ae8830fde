-- Addresses of IPv4, and ranges of them.
use Rattle.std.specs.Prelude.{ℕ, ◌-◌, ◌*◌, ◌/◌, ◌^◌, ◌==◌, ◌&&◌, Bool, nat_le, List, length, cond, filter_map, Option, Some, None, is_some, option_and_then, option_map}
use Rattle.std.specs.List.{list_all}
use Rattle.std.specs.Int.{w32, from_be_bytes}
use Rattle.std.specs.Net.Reader.{read_ipv4, whole_value}
use Rattle.pp_text.specs.Lists.{items_of}
use Rattle.pp_text.specs.Parts.{cut_at}
use Rattle.pp_world.specs.declared.door.AddressRange.{AddressRange}
use Rattle.pp_world.specs.Doors.{is_in}
use Rattle.pp_conf.specs.Numbers.{number_in}

-- dotted decimal: four numbers from 0 to 255 without leading zeros, the strict form (RFC 6943, section 3.1.1)
unfoldable pub address_of : List ℕ → Option ℕ
address_of text = option_map (from_be_bytes w32) (whole_value (read_ipv4 text))

abbrev pub is_address : List ℕ → Bool
is_address text = is_some (address_of text)

-- ours: no bit is set behind the prefix, so that a machine's address is not taken for its network
abbrev pub range_at : ℕ → ℕ → Option AddressRange
range_at address bits =
    cond (address / 2 ^ (32 - bits) * 2 ^ (32 - bits) == address) (Some (record { address = address; bits = bits })) None

-- an address, "/" and the length of the prefix, from 0 to 32 (RFC 4632, section 3.1)
abbrev pub prefix_of : List ℕ × List ℕ → Option AddressRange
prefix_of p = option_and_then (λ address. option_and_then (range_at address) (number_in 0 32 p.1)) (address_of p.0)

-- or an address alone
abbrev pub range_by : Option (List ℕ × List ℕ) → List ℕ → Option AddressRange
range_by None text = option_map (λ address. record { address = address; bits = 32 }) (address_of text)
range_by (Some p) text = prefix_of p

abbrev pub range_of : List ℕ → Option AddressRange
range_of text = range_by (cut_at 47 text) text

abbrev pub is_range : List ℕ → Bool
is_range text = is_some (range_of text)

-- 1#range (RFC 2616, section 2.1); ours: 16 at most
abbrev pub are_ranges : List ℕ → Bool
are_ranges text = nat_le 1 (length (items_of text)) && nat_le (length (items_of text)) 16 && list_all is_range (items_of text)

abbrev pub ranges_of : List ℕ → List AddressRange
ranges_of text = filter_map range_of (items_of text)

-- 127.0.0.0/8, "internal host loopback address" (RFC 1122, section 3.2.1.3)
abbrev pub loopback : AddressRange
loopback = record { address = 2130706432; bits = 8 }

-- each address of the range is one of this machine alone
abbrev pub is_local : AddressRange → Bool
is_local range = nat_le 8 range.bits && is_in range.address loopback
