-- Behind a wait no instance is new.
use Rattle.std.proofs.Common.{refl, ℕ, map, List, [], ◌∷◌}
use Rattle.pp_cache.specs.Memory.{Memory}
use Rattle.pp_cache_law.specs.Pairs.{AreAll}
use Rattle.pp_cache_law.specs.Tables.{ShowsInstance}
use Rattle.pp_flow_law.proofs.Framed.{frames as flow_frames}
use Rattle.pp_law.specs.Connections.{exchange}
use Rattle.pp_law.specs.State.{State, Instance as Known}
use Rattle.pp_law.specs.Turn.{rested_instance}
use Rattle.pp_objects.specs.Instances.{Instance}
use Rattle.pp_states_law.proofs.Asked.{all_as, frames, itself}
use Rattle.pp_endings_law.specs.Waits.{InstancesRestAsTheLaws}

abbrev rested : State → State
rested s = record s { instances = map rested_instance s.instances }

one_rests : (number : ℕ → ℕ) (m : Memory) (s : State) (i : Instance) (x : Known) → ShowsInstance number m s i x → ShowsInstance number m (rested s) i (rested_instance x)
one_rests number m s i x shows = record {
  there = shows.there;
  id = shows.id;
  key = shows.key;
  version = shows.version;
  fields = shows.fields;
  times = shows.times;
  retired = shows.retired;
  followers = shows.followers;
  extent = shows.extent;
  given = shows.given;
  made = shows.made;
}

all_rest : (number : ℕ → ℕ) (m : Memory) (s : State) (is : List Instance) (xs : List Known) → AreAll (ShowsInstance number m s) is xs → AreAll (ShowsInstance number m (rested s)) is (map rested_instance xs)
all_rest number m s [] [] shows = shows
all_rest number m s [] (x ∷ xs) shows = absurd shows
all_rest number m s (i ∷ is) [] shows = absurd shows
all_rest number m s (i ∷ is) (x ∷ xs) shows = (one_rests number m s i x shows.0, all_rest number m s is xs shows.1)

pub instances_rest : InstancesRestAsTheLaws
instances_rest number name owed l p s shows = record {
  clients = shows.clients;
  exchanges = flow_frames number l p.flow s shows.exchanges l (rested s) (record { exchanges = refl; next = refl; lines = λ n. refl });
  table = record {
    table = record {
      instances = all_rest number p.memory s p.memory.instances s.instances shows.table.table.instances;
      chunks = shows.table.table.chunks;
      alone = shows.table.table.alone;
      apart = shows.table.table.apart;
      rows = shows.table.table.rows;
      once = shows.table.table.once;
      unkept = shows.table.table.unkept;
    };
    followed = shows.table.followed;
    ahead = shows.table.ahead;
  };
  conns = frames s (rested s) p.peers s.conns (all_as s (rested s) (λ m. itself (exchange s m)) s.conns) shows.conns;
}
