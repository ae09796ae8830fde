-- The best of some connections.
use Rattle.std.specs.Prelude.{ℕ, Bool, true, ◌==◌, ◌&&◌, ◌||◌, nat_lt, if◌then◌else◌, min, List, [], ◌∷◌, map, filter, fold, length, bytes_eq, Option, Some, None}
use Rattle.pp_peers.specs.Peers.{Loaded}
use Rattle.pp_peers.specs.declared.searches.Among.{Among}
use Rattle.pp_peers.specs.declared.searches.Among.TheVariants.{All, Host}

-- those that are meant: any, or those to this host and port
abbrev pub is_any : Loaded → Bool
is_any peer = true

abbrev pub is_of : List ℕ → ℕ → Loaded → Bool
is_of host port peer = bytes_eq peer.host host && (peer.port == port)

abbrev pub is_among : Among → Loaded → Bool
is_among All = is_any
is_among (Host host port) = is_of host.now port

abbrev pub count_of : (Loaded → Bool) → List Loaded → ℕ
count_of among peers = length (filter among peers)

-- it carries nothing
abbrev pub is_idle : (Loaded → Bool) → Loaded → Bool
is_idle among peer = among peer && (peer.load.asks == 0)

-- "Clients which assume persistent connections and pipeline immediately after connection establishment SHOULD be
-- prepared to retry" (section 8.1.2.2); ours: only after a response that shows that it may, and 8 asks
abbrev pub takes_more : (Loaded → Bool) → Loaded → Bool
takes_more among peer = among peer && (peer.load.may_pipeline && nat_lt peer.load.asks 8)

abbrev pub lower : Option ℕ → ℕ → ℕ
lower None number = number
lower (Some lowest) number = min lowest number

abbrev pub lowest : List ℕ → Option ℕ
lowest [] = None
lowest (number ∷ numbers) = Some (fold min number numbers)

abbrev pub numbers : (Loaded → Bool) → List Loaded → List ℕ
numbers test peers = map (λ p. p.number) (filter test peers)

abbrev pub lowest_idle : (Loaded → Bool) → List Loaded → Option ℕ
lowest_idle among peers = lowest (numbers (is_idle among) peers)

-- outstanding asks, and the number
abbrev pub Weight : Type 0
Weight = ℕ × ℕ

-- fewer asks, and of as many the lower number
abbrev pub is_lighter : Weight → Weight → Bool
is_lighter weight other = nat_lt weight.0 other.0 || ((weight.0 == other.0) && nat_lt weight.1 other.1)

abbrev pub lighter_of : Weight → Weight → Weight
lighter_of other weight = if is_lighter weight other then weight else other

abbrev pub lighter : Option Weight → Weight → Weight
lighter None weight = weight
lighter (Some other) weight = lighter_of other weight

abbrev pub lightest_of : List Weight → Option Weight
lightest_of [] = None
lightest_of (weight ∷ weights) = Some (fold lighter_of weight weights)

abbrev pub weights : (Loaded → Bool) → List Loaded → List Weight
weights test peers = map (λ p. (p.load.outstanding, p.number)) (filter test peers)

abbrev pub lightest : (Loaded → Bool) → List Loaded → Option Weight
lightest among peers = lightest_of (weights (takes_more among) peers)
