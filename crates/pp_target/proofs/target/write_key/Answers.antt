use Rattle.std.proofs.Common.{◌≡◌, true, codes, Some, rules}
use Rattle.std.specs.Prelude.{bytes_eq}
use Rattle.pp_target.specs.Key.{is_host, port_in}
use Rattle.pp_target.proofs.KeyLemmas.{due}
use Rattle.pp_target.proofs.target.write_key.Goals as goal

pub returns : goal.returns
returns c =
    let http : bytes_eq c.args.scheme.now (codes "http") ≡ true = search rules in
    let host : is_host c.args.authority.now ≡ true = search rules in
    let port : port_in c.args.authority.now ≡ Some c.in-Some.port = search rules in
    let read = c.host_in.ensures in
    due c.args.scheme.now c.args.authority.now c.args.path.now c.write_parts.new.out.items c.in-Some.port http host port c.write_parts.result
    (rw read at c.write_parts.ensures.ok) (rw read at c.write_parts.ensures.err)
