-- Where an exchange is put on a connection, it is for the host and port of that; and what a log says of dials it says for ever.
use Rattle.std.proofs.Common.{◌≡◌, ℕ, nat_lt, Bool, true, not, ◌==◌, ◌&&◌, List, ◌∷◌, ◌++◌, map, length, bytes_eq, Option, inl, inr, sym, subst, ap, ◌∙◌, append_assoc}
use Rattle.pp_peers.specs.Peers.{Loaded}
use Rattle.pp_peers.specs.Placing.{new_place, pipelined_place}
use Rattle.pp_peers.specs.Searches.{count_of, is_any, is_idle, is_of, lowest_idle, takes_more}
use Rattle.pp_peers.specs.declared.placing.Placed.TheVariants.{On}
use Rattle.pp_peers.specs.declared.placing.Placed.{Placed}
use Rattle.pp_target.specs.Key.{Key}
use Rattle.pp_world.specs.Log.{Log}
use Rattle.pp_world.specs.declared.happening.Happening.TheVariants.{Dialled}
use Rattle.pp_law.specs.Connections.{open_conns, place_for, with_load, WaitsDial}
use Rattle.pp_law.specs.Lists.{Bytes}
use Rattle.pp_law.specs.Permits.{is_dial_of}
use Rattle.pp_law.specs.Requests.{goes_alone}
use Rattle.pp_law.specs.State.{State, Conn, Exchange}
use Rattle.pp_laws.specs.Runs.{IsIn}
use Rattle.pp_laws.proofs.Lists.{in_filter, in_map}
use Rattle.pp_laws.proofs.Tests.{first_holds, same_bytes, same_number, second_holds}
use Rattle.pp_laws_bounds.proofs.Peers.{Has, NewPlace, PlaceBy, idle_there, lightest_there, new_by, piped_by, place_by}
use Rattle.pp_laws_lines.specs.Hosts.{WasDialled}

-- it is for the host and port of that connection
abbrev pub GoesTo : Exchange → Conn → Type 0
GoesTo e k = (e.key.host ≡ k.host) × (e.key.port ≡ k.port)

pub goes_as : (e d : Exchange) (k : Conn) → e.key ≡ d.key → GoesTo d k → GoesTo e k
goes_as e d k is goes = (ap (λ (x : Key). x.host) is ∙ goes.0, ap (λ (x : Key). x.port) is ∙ goes.1)

pub goes_with : (e : Exchange) (k j : Conn) → k.host ≡ j.host → k.port ≡ j.port → GoesTo e j → GoesTo e k
goes_with e k j host port goes = (goes.0 ∙ sym host, goes.1 ∙ sym port)

-- ---- what was dialled

pub dialled_as : (log : Log) (k j : Conn) → k.number ≡ j.number → k.host ≡ j.host → k.port ≡ j.port → WasDialled log j.number j.host j.port → WasDialled log k.number k.host k.port
dialled_as log k j number host port w =
    subst (λ n. WasDialled log n k.host k.port) (sym number) (subst (λ (bs : Bytes). WasDialled log j.number bs k.port) (sym host) (subst (λ n. WasDialled log j.number j.host n) (sym port) w))

pub dialled_later : (front behind log : Log) (number : ℕ) (host : Bytes) (port : ℕ) → front ++ behind ≡ log → WasDialled front number host port → WasDialled log number host port
dialled_later front behind log number host port parts w = record {
  front = w.front;
  behind = w.behind ++ behind;
  parts = sym (append_assoc w.front (Dialled number host port ∷ w.behind) behind) ∙ ap (λ (l : Log). l ++ behind) w.parts ∙ parts;
}

-- the one that a dial is for
pub dial_for : (e : Exchange) (host : Bytes) (port : ℕ) → is_dial_of (WaitsDial e) host port ≡ true → (e.key.host ≡ host) × (e.key.port ≡ port)
dial_for e host port is = (same_bytes e.key.host host (first_holds (bytes_eq e.key.host host) (e.key.port == port) is), same_number e.key.port port (second_holds (bytes_eq e.key.host host) (e.key.port == port) is))

-- ---- where it is put

-- a connection of that number that goes there
pub record IsToHost (s : State) (e : Exchange) (n : ℕ) : Type 0 where
  pub conn : Conn
  pub there : IsIn conn s.conns
  pub number : conn.number ≡ n
  pub goes : GoesTo e conn

abbrev peers_of : State → List Loaded
peers_of s = map (with_load s) (open_conns s)

abbrev among : Exchange → Loaded → Bool
among e = is_of e.key.host e.key.port

abbrev idle_for : State → Exchange → Option ℕ
idle_for s e = lowest_idle (among e) (peers_of s)

abbrev new_for : State → Exchange → Option Placed
new_for s e = new_place s.settings.host_connections e.key.host e.key.port (peers_of s)

abbrev piped_for : State → Exchange → Option Placed
piped_for s e = pipelined_place s.settings.pipelines_asks e.key.host e.key.port (peers_of s)

of_host : (s : State) (e : Exchange) (p : Loaded) (n : ℕ) → IsIn p (peers_of s) → p.number ≡ n → among e p ≡ true → IsToHost s e n
of_host s e p n i number is =
    let r = in_map (with_load s) p (open_conns s) i in
    record {
      conn = r.was;
      there = (in_filter (λ k. not k.is_closing) r.was s.conns r.there).0;
      number = sym (ap (λ (x : Loaded). x.number) r.is) ∙ number;
      goes = (
        sym (same_bytes p.host e.key.host (first_holds (bytes_eq p.host e.key.host) (p.port == e.key.port) is)) ∙ ap (λ (x : Loaded). x.host) r.is,
        sym (same_number p.port e.key.port (second_holds (bytes_eq p.host e.key.host) (p.port == e.key.port) is)) ∙ ap (λ (x : Loaded). x.port) r.is,
      );
    }

idle_of : (s : State) (e : Exchange) (n : ℕ) → Has (is_idle (among e)) n (peers_of s) → IsToHost s e n
idle_of s e n w = of_host s e w.0 n w.1 w.2 (first_holds (among e w.0) (w.0.load.asks == 0) w.3)

light_of : (s : State) (e : Exchange) (n : ℕ) → Has (takes_more (among e)) n (peers_of s) → IsToHost s e n
light_of s e n w = of_host s e w.0 n w.1 w.2 (first_holds (among e w.0) (w.0.load.may_pipeline && nat_lt w.0.load.asks 8) w.3)

never_on : (b c : Bool) (x y : Option ℕ) (n : ℕ) → NewPlace b c x y (On n) → ⊥
never_on b c x y n (inl w) = cc w.0
never_on b c x y n (inr w) = cc w.1

pub on_host : (s : State) (e : Exchange) (n : ℕ) → place_for s e ≡ On n → IsToHost s e n
on_host s e n is = by (place_by (goes_alone e.head) (idle_for s e) (new_for s e) (piped_for s e) (On n) is)
  where
    by : PlaceBy (idle_for s e) (new_for s e) (piped_for s e) (On n) → IsToHost s e n
    by (inl w) = absurd (cc w)
    by (inr (inl w)) =
        absurd (never_on (nat_lt (count_of (among e) (peers_of s)) s.settings.host_connections) (nat_lt (length (peers_of s)) 64) (lowest_idle is_any (peers_of s)) (idle_for s e) n
        (new_by (nat_lt (count_of (among e) (peers_of s)) s.settings.host_connections) (nat_lt (length (peers_of s)) 64) (lowest_idle is_any (peers_of s)) (idle_for s e) (On n) w))
    by (inr (inr (inl w))) = let eq : n ≡ w.0 = cc w.2 in subst (λ m. IsToHost s e m) (sym eq) (idle_of s e w.0 (idle_there (among e) (peers_of s) w.0 w.1))
    by (inr (inr (inr w))) =
        let v = piped_by s.settings.pipelines_asks e.key.host e.key.port (peers_of s) (On n) w in
        let eq : n ≡ v.0.1 = cc v.2 in
        subst (λ m. IsToHost s e m) (sym eq) (light_of s e v.0.1 (lightest_there (among e) (peers_of s) v.0 v.1))
