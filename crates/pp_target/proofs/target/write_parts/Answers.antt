use Rattle.std.proofs.Common.{◌≡◌, ◌≤◌, ◌+◌, ◌++◌, length, codes, rules}
use Rattle.pp_text.specs.Bytes.{lower}
use Rattle.pp_target.specs.Key.{port_text, with_slash}
use Rattle.pp_target.proofs.KeyLemmas.{spelled}
use Rattle.pp_target.proofs.target.write_parts.Goals as goal

pub returns-clause-ok : goal.returns-clause-ok
returns-clause-ok c =
    let a = c.append_lower.new.out.items in
    let b = c.append_port.new.out.items in
    let host : a ≡ codes "http://" ++ lower c.args.host.now = search rules in
    let port : b ≡ a ++ port_text c.args.port = search rules in
    let path : c.append_path.new.out.items ≡ b ++ with_slash c.args.path.now = search rules in
    let from : c.len-host_from.result ≡ 7 = search rules in
    let room : length b + length (with_slash c.args.path.now) ≤ 8192 = search rules in
    spelled c.args.host.now c.args.path.now c.append_path.new.out.items a b c.args.port c.len-host_from.result c.len-host_to.result c.len-path_from.result
    host port path from c.len-host_to.ensures.value c.len-path_from.ensures.value room
