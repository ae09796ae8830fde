-- What a world of sockets counts.
use Rattle.std.specs.Prelude.{◌≡◌, ℕ}
use Rattle.pp_net.specs.declared.net_world.NetWorld.{NetWorld}

module _ {R : Type 0} where
  -- how often it failed
  abbrev pub faults_of : NetWorld R → ℕ
  faults_of world = world.faults

  -- the greatest number that a connection was given, or 0
  abbrev pub top_of : NetWorld R → ℕ
  top_of world = world.top

  -- nothing failed yet, and no number was given
  pub record IsNew (world : NetWorld R) : Type 0 where
    pub faults : faults_of world ≡ 0
    pub top : top_of world ≡ 0
