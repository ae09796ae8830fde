use Rattle.std.proofs.Common.{◌≡◌, ◌∙◌, Some, ap, sym}
use Rattle.std.specs.Net.Addr.{ipv4_bits, ipv4_octets}
use Rattle.pp_conf.proofs.AddressLemmas.{address_of-dotted, address_of-none}
use Rattle.pp_conf.proofs.addresses.address_of.Goals as goal

pub returns-in-Ok : goal.returns-in-Ok
unfolding ipv4_bits
returns-in-Ok c = ap Some c.to_bits.ensures ∙ sym (address_of-dotted c.args.text.now (ipv4_octets c.in-Ok.address) c.in-Ok.ensures)

pub returns-in-Err : goal.returns-in-Err
returns-in-Err c = sym (address_of-none c.args.text.now (λ octets h. c.in-Err.ensures (record { octets = octets }) h))
