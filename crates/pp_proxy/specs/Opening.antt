-- What a proxy has before its first turn (ours).
use Rattle.std.specs.Prelude.{◌≡◌, None, []}
use Rattle.pp_conf.specs.declared.conf.Conf.{Conf}
use Rattle.pp_desk.specs.Opening.{HasBuffers, HasRoom, IsNew, IsSet}
use Rattle.pp_proxy.specs.declared.proxy.Proxy.{Proxy}

-- the settings in force, the memory that is taken once, nobody, and nothing
pub record IsOpened (conf : Conf) (p : Proxy) : Type 0 where
  pub set : IsSet conf p.desk.state
  pub new : IsNew conf p.desk.state
  pub room : HasRoom p.desk.state
  pub buffers : HasBuffers p.desk
  pub peers : p.desk.peers ≡ []
  pub nobody : p.desk.turned_away ≡ None
  pub links : p.links ≡ []
  -- of a wait before
  pub read : p.wants.read.items ≡ []
