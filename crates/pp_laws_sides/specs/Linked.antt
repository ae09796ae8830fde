-- What follows where the connections that are open in a log are those of the law's state: who each is, how many there are, and on whose side
-- each stands in a list of them (ours).
use Rattle.std.specs.Prelude.{◌≡◌, ◌+◌, ◌≤◌, ℕ, true, find, is_some, length, map, List, Some}
use Rattle.pp_law.specs.Connections.{client}
use Rattle.pp_law.specs.Permits.{has_conn}
use Rattle.pp_law.specs.State.{State, Term, Client, Conn}
use Rattle.pp_laws.specs.Numbers.{AreRising}
use Rattle.pp_laws.specs.Runs.{IsIn}
use Rattle.pp_laws_ends.specs.Ends.{AreApart}
use Rattle.pp_links.specs.Links.{IsLinked, Link, has_link, is_link}
use Rattle.pp_obeys.specs.Obeys.{Obeys}
use Rattle.pp_world.specs.Connections.{side_of}
use Rattle.pp_world.specs.Log.{Log}
use Rattle.pp_world.specs.declared.event.Side.TheVariants.{Client as OfClient, Origin}

-- what is open as an origin's is a connection of the state
abbrev pub OpenOriginsAreThere : Type 0
OpenOriginsAreThere = (terms : List Term) (s : State) (log : Log) → Obeys terms s log → (n : ℕ) → side_of n log ≡ Some Origin → has_conn s n ≡ true

-- and as a client's, a client
abbrev pub OpenClientsAreThere : Type 0
OpenClientsAreThere = (terms : List Term) (s : State) (log : Log) → Obeys terms s log → (n : ℕ) → side_of n log ≡ Some OfClient → is_some (client s n) ≡ true

-- each of the state is open, on its side
pub record AreOpenIn (log : Log) (s : State) : Type 0 where
  pub clients : (c : Client) → IsIn c s.clients → side_of c.number log ≡ Some OfClient
  pub conns : (k : Conn) → IsIn k s.conns → side_of k.number log ≡ Some Origin

abbrev pub OwnOnesAreOpen : Type 0
OwnOnesAreOpen = (terms : List Term) (s : State) (log : Log) → Obeys terms s log → AreOpenIn log s

-- ---- numbers

-- each is above those before it, none above the greatest that was given, and none is both a client's and a connection's
pub record AreNumbered (s : State) : Type 0 where
  pub clients_rise : AreRising (map (λ c. c.number) s.clients)
  pub clients_given : (c : Client) → IsIn c s.clients → c.number ≤ s.top
  pub conns_rise : AreRising (map (λ k. k.number) s.conns)
  pub conns_given : (k : Conn) → IsIn k s.conns → k.number ≤ s.top
  pub apart : AreApart s

abbrev pub NumbersRise : Type 0
NumbersRise = (terms : List Term) (s : State) (log : Log) → Obeys terms s log → AreNumbered s

-- ---- a list of open ones

-- it is no longer than clients and connections are many
abbrev pub LinksAreFew : Type 0
LinksAreFew = (terms : List Term) (s : State) (log : Log) (top : ℕ) (links : List Link) → Obeys terms s log → IsLinked (Some log) top links → length links ≤ length s.clients + length s.conns

-- whoever stands there stands on its side
pub record AreOnTheirSides (links : List Link) (s : State) : Type 0 where
  pub clients : (c : Client) → IsIn c s.clients → has_link c.number links ≡ true → find (is_link c.number) links ≡ Some (c.number, OfClient)
  pub conns : (k : Conn) → IsIn k s.conns → has_link k.number links ≡ true → find (is_link k.number) links ≡ Some (k.number, Origin)

abbrev pub LinksAreOnTheirSides : Type 0
LinksAreOnTheirSides = (terms : List Term) (s : State) (log : Log) (top : ℕ) (links : List Link) → Obeys terms s log → IsLinked (Some log) top links → AreOnTheirSides links s
