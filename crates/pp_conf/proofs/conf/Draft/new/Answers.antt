use Rattle.std.proofs.Common.{refl}
use Rattle.pp_conf.proofs.AddressLemmas.{default_clients}
use Rattle.pp_conf.proofs.conf.Draft.new.Goals as goal

pub returns : goal.returns
returns c = rw (c.name_from.ensures, default_clients) refl
