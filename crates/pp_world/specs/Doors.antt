-- Ranges of addresses (RFC 4632, section 3.1).
use Rattle.std.specs.Prelude.{ℕ, ◌-◌, ◌/◌, ◌^◌, ◌==◌, Bool}
use Rattle.pp_world.specs.declared.door.AddressRange.{AddressRange}

-- "a prefix .. consists of the leftmost contiguous significant bits": the address has those of the range
abbrev pub is_in : ℕ → AddressRange → Bool
is_in address range = address / 2 ^ (32 - range.bits) == range.address / 2 ^ (32 - range.bits)
