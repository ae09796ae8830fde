-- Connections that are over are closed, and whoever is over goes (ours).
use Rattle.std.specs.Prelude.{◌≡◌, ◌≤◌, length, filter, vec_capacity}
use Rattle.pp_desk.specs.Shutting.{all_over, awake_left, closings, seats_left, without_all}
use Rattle.pp_peers.specs.Peers.{goes_on}
use Rattle.pp_proxy.specs.Moving.{Moving}
use Rattle.pp_world.specs.Log.{Log}

pub record ClosesOver (x : Moving) (log : Log) (y : Moving) : Type 0 where
  pub log_is : log ≡ closings (all_over x.desk) x.links
  pub links : y.links ≡ without_all (all_over x.desk) x.links
  pub top : y.top ≡ x.top
  pub seats : y.desk.state.seats.items ≡ seats_left x.desk.state
  pub awake : length (seats_left x.desk.state) ≤ vec_capacity x.desk.state.awake → y.desk.state.awake.items ≡ awake_left x.desk.state
  pub room : vec_capacity x.desk.state.awake ≤ vec_capacity y.desk.state.awake
  pub peers : y.desk.peers ≡ filter (goes_on x.desk.state.is_stopped) x.desk.peers
  pub rest : record y.desk { state = record y.desk.state { seats = x.desk.state.seats; awake = x.desk.state.awake }; peers = x.desk.peers } ≡ x.desk
