-- What is read of addresses and ranges.
use Rattle.std.proofs.Common.{◌≡◌, ◌∙◌, codes, ℕ, List, [], ◌∷◌, ◌++◌, Option, Some, None, option_map, refl, ap, sym, subst, append-nil, length, lit≤, ne_eqb, arith}
use Rattle.std.specs.Int.{w32, from_be_bytes}
use Rattle.std.specs.Net.Grammar.{IsDotted}
use Rattle.std.specs.Net.Reader.{read_ipv4, read_number, read_octet, whole_value}
use Rattle.std.proofs.NetLemmas.Ipv4.{read_ipv4_sound, read_ipv4_complete}
use Rattle.pp_conf.specs.Addresses.{address_of, loopback, ranges_of}

-- a text of dotted decimal is read to its end
pub address_of-dotted : (text octets : List ℕ) → IsDotted text octets → address_of text ≡ Some (from_be_bytes w32 octets)
unfolding address_of
address_of-dotted text octets h =
    ap (λ r. option_map (from_be_bytes w32) (whole_value r)) (rw append-nil at (read_ipv4_complete text octets [] h (lit≤ tt)))

-- and no other
pub address_of-none : (text : List ℕ) → ((octets : List ℕ) → IsDotted text octets → ⊥) → address_of text ≡ None
unfolding address_of
address_of-none text never = by (read_ipv4 text) refl
  where
    by : (r : Option (List ℕ × List ℕ)) → read_ipv4 text ≡ r → option_map (from_be_bytes w32) (whole_value r) ≡ None
    by None is = refl
    by (Some (octets, [])) is =
        let found = read_ipv4_sound text octets [] is in
        absurd (never octets (subst (λ t. IsDotted t octets) (sym (found.1 ∙ append-nil found.0)) found.2))
    by (Some (octets, b ∷ rest)) is = rw (ne_eqb (length (b ∷ rest)) 0 (omega arith)) refl

pub default_clients : ranges_of (codes "127.0.0.0/8") ≡ loopback ∷ []
unfolding address_of read_ipv4 read_octet read_number
default_clients = refl
