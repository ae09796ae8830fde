-- The law: where an exchange stood in the line of a connection, that connection was dialled to the host and port of its key.
use Rattle.std.proofs.Common.{◌++◌, sym, subst}
use Rattle.pp_world.specs.Log.{Log}
use Rattle.pp_law.proofs.Prefixes.{front_from}
use Rattle.pp_law.specs.Lawful.{Lawful}
use Rattle.pp_law.specs.Lists.{Bytes}
use Rattle.pp_law.specs.State.{start}
use Rattle.pp_laws_lines.specs.Hosts.{WasDialled}
use Rattle.pp_laws_lines.proofs.Hosts.{GoesTo, dialled_later}
use Rattle.pp_laws_lines.proofs.Stream.{lines_go, were_dialled}
use Rattle.pp_laws_sent.specs.Stands.{AsksGoToTheirHosts}

pub asks_go : AsksGoToTheirHosts
asks_go terms log number e lawful w =
    let whole : Lawful terms (w.front ++ w.behind) = subst (λ (l : Log). Lawful terms l) (sym w.parts) lawful in
    let so_far : Lawful terms w.front = front_from (start terms) w.front w.behind whole in
    let goes : GoesTo e w.then.conn = lines_go terms w.front so_far w.then.conn e w.then.there w.then.exchange w.then.line in
    dialled_later w.front w.behind log number e.key.host e.key.port w.parts
    (subst (λ n. WasDialled w.front n e.key.host e.key.port) w.then.numbered
    (subst (λ (bs : Bytes). WasDialled w.front w.then.conn.number bs e.key.port) (sym goes.0)
    (subst (λ n. WasDialled w.front w.then.conn.number w.then.conn.host n) (sym goes.1) (were_dialled terms w.front so_far w.then.conn w.then.there))))
