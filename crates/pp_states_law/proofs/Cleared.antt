-- The row of a key is not known any more.
use Rattle.std.proofs.Common.{refl}
use Rattle.pp_cache_law.proofs.Retiring.{retirings_of}
use Rattle.pp_flow_law.proofs.Framed.{frames as flow_frames}
use Rattle.pp_law.specs.Connections.{exchange}
use Rattle.pp_law.specs.Table.{clear, swept}
use Rattle.pp_states_law.specs.Rows.{ClearsAreTheLaws}
use Rattle.pp_states_law.proofs.Asked.{all_as, frames, itself}

pub clears : ClearsAreTheLaws
unfolding clear swept
clears number name owed l p s shows key = record {
  clients = shows.clients;
  exchanges = flow_frames number l p.flow s shows.exchanges l (clear key s) (record { exchanges = refl; next = refl; lines = λ m. refl });
  table = retirings_of number p.memory s shows.table key;
  conns = frames s (clear key s) p.peers s.conns (all_as s (clear key s) (λ m. itself (exchange s m)) s.conns) shows.conns;
}
