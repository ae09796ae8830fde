-- What no part of the program's state stands for may change.
use Rattle.std.proofs.Common.{◌≡◌, ◌≤◌, refl, sym, subst, ap, ℕ, find, List, ◌++◌, arith}
use Rattle.std.specs.Prelude.{count_by}
use Rattle.pp_cache_law.proofs.Framing.{frames_of}
use Rattle.pp_cache_law.specs.Pairs.{AreBoth}
use Rattle.pp_flow_law.proofs.Framed.{frames as flow_frames}
use Rattle.pp_flow_law.specs.Tables.{line_in}
use Rattle.pp_law.specs.Connections.{exchange, is_conn, is_exchange}
use Rattle.pp_law.specs.State.{Client, Conn, Exchange}
use Rattle.pp_law.specs.Table.{follows}
use Rattle.pp_peers_law.specs.Peers.{ShowConns}
use Rattle.pp_seats_law.specs.Clients.{AreShown}
use Rattle.pp_states_law.specs.Asks.{IsAskedAs}
use Rattle.pp_states_law.specs.Frames.{FramesAreTheLaws}
use Rattle.pp_states_law.proofs.Asked.{all_as, frames, itself}

no_less : (m n : ℕ) → m ≡ n → n ≤ m
no_less m n is = omega (arith, is)

pub states : FramesAreTheLaws
states number name owed l p s shows t same = record {
  clients = subst (λ (cs : List Client). AreShown number name owed p.seats cs) (sym same.clients) shows.clients;
  exchanges =
      flow_frames number l p.flow s shows.exchanges l t
      (record { exchanges = same.exchanges; next = same.next_exchange; lines = λ n. ap (λ (ks : List Conn). l n ++ line_in (find (is_conn n) ks)) same.conns });
  table =
      frames_of number p.memory s shows.table p.memory t (record { instances = refl; lives = refl; chunks = refl; extents = refl })
      (record { instances = same.instances; made = no_less t.next_instance s.next_instance same.next_instance; chunks = same.chunks; followers = λ id. ap (λ (cs : List Client). count_by (follows id) cs) same.clients; kept = same.kept });
  conns = subst (λ (ks : List Conn). ShowConns t p.peers ks) (sym same.conns) (frames s t p.peers s.conns (all_as s t as_before s.conns) shows.conns);
}
  where
    as_before : (m : ℕ) → AreBoth IsAskedAs (exchange s m) (exchange t m)
    as_before m = subst (λ (es : List Exchange). AreBoth IsAskedAs (exchange s m) (find (is_exchange m) es)) (sym same.exchanges) (itself (exchange s m))
