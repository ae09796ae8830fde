-- What a chunk that is read back changes of the program's memory: it shows what the law puts there, and all else of the turn stands.
use Rattle.std.proofs.Common.{◌≡◌, ◌<◌, ◌≤◌, refl, sym, subst, ap, ap₂, ◌∙◌, ℕ, ◌+◌, ◌-◌, ◌*◌, ◌/◌, Bool, true, false, ◌&&◌, find, length, min, nat_le, take, List, [], ◌++◌, Option, Some, None, option_map, arith}
use Rattle.std.proofs.lemmas.Bool.Decides.{nat_tests}
use Rattle.pp_cache.specs.Bounds.{IsBounded}
use Rattle.pp_cache.specs.Memory.{Memory}
use Rattle.pp_cache.specs.OnDisk.{grown_by}
use Rattle.pp_cache_law.proofs.Alike.{instances_of}
use Rattle.pp_cache_law.proofs.Faces.{in_slot-faced}
use Rattle.pp_cache_law.proofs.Loading.{loads_of}
use Rattle.pp_cache_law.proofs.Numbers.{some_is}
use Rattle.pp_cache_law.proofs.Room.{room_is_enough}
use Rattle.pp_cache_law.specs.Pairs.{AreBoth}
use Rattle.pp_cache_law.specs.Reads.{IsFound}
use Rattle.pp_cache_law.specs.Tables.{ShowsCache}
use Rattle.pp_flow_law.proofs.Framed.{frames as flow_frames}
use Rattle.pp_flow_law.specs.Tables.{line_in, none_leaves}
use Rattle.pp_holes.specs.Adding.{added}
use Rattle.pp_holes.specs.Places.{bytes_at}
use Rattle.pp_law.specs.Connections.{exchange, is_conn, is_exchange}
use Rattle.pp_law.specs.Lists.{Bytes}
use Rattle.pp_law.specs.State.{State, Client, Conn, Entry, Exchange, Instance as Known}
use Rattle.pp_law.specs.Store.{chunk_in_file, load}
use Rattle.pp_law.specs.Table.{instance, kept_row, row}
use Rattle.pp_objects.specs.Changes.{face, faces}
use Rattle.pp_objects.specs.Instances.{Instance, in_slot, is_life, is_there, total_at, total_of}
use Rattle.pp_objects.specs.declared.id.ObjectId.{ObjectId}
use Rattle.pp_peers.specs.declared.peers.Peer.{Peer}
use Rattle.pp_peers_law.specs.Peers.{ShowConns}
use Rattle.pp_seats_law.specs.Clients.{AreShown}
use Rattle.pp_state.specs.Bodies.{HasJoined, IsButForCells, with_bytes, with_use}
use Rattle.pp_state.specs.Ends.{Parts, parts}
use Rattle.pp_state.specs.declared.state.State.{State as Turn}
use Rattle.pp_states_law.proofs.Asked.{all_as, frames, itself}
use Rattle.pp_states_law.specs.Asks.{IsAskedAs}
use Rattle.pp_states_law.proofs.Told.{Stands, are_told_on, told_next}
use Rattle.pp_states_law.specs.Steps.{ShowsSteps}
use Rattle.pp_turns_law.specs.Turns.{ShowsTurn}
use Rattle.pp_valid.specs.declared.version.Version.{Version}
use Rattle.pp_events_law.specs.ReadsBack.{IsLoaded}

-- ---- memory

same_life : (life : ℕ) (o : Option Instance) → is_life life o ≡ is_life life (option_map face o)
same_life life None = refl
same_life life (Some i) = refl

pub there_faced : (is js : List Instance) → faces is ≡ faces js → (id : ObjectId) → is_there id is ≡ is_there id js
there_faced is js same id = same_life id.life (in_slot id.slot is) ∙ ap (λ (o : Option Instance). is_life id.life o) (in_slot-faced id.slot is js same) ∙ sym (same_life id.life (in_slot id.slot js))

fits_in : (index count n k : ℕ) → index * 4096 < n → count ≡ min 4096 (n - 4096 * index) → k ≡ count → nat_le (index * 4096 + k) n ≡ true
fits_in index count n k inside few is = grind (arith, nat_tests, inside, few, is)

room_for_one : (used size n : ℕ) → used + 3 ≤ size → n ≤ 4096 → used + (n / 4096 + 2) ≤ size
room_for_one used size n room few = omega (arith, room, few)

few_of : (count n k : ℕ) → count ≡ min 4096 n → k ≡ count → k ≤ 4096
few_of count n k is same = omega (arith, is, same)

-- as `with_bytes` leaves it
abbrev pub with_added : ObjectId → ℕ → Bytes → Memory → Memory
with_added id index bytes m = record m { chunks = (added m.size id.slot (index * 4096) bytes m.chunks).chunks; grown = grown_by id m.grown }

module _ (number : ℕ → ℕ) (m : Memory) (s : State) (shows : ShowsCache number m s) (id : ObjectId) (x : Known) (e : Entry) (index : ℕ) (there : is_there id m.instances ≡ true) (known : instance s (number id.life) ≡ Some x) (stands : row s x.key ≡ Some x) (kept : kept_row s x.key ≡ Some e)
    (count : ℕ) (some : 0 < count) (few : count ≡ min 4096 (x.version.length - 4096 * index)) (inside : index * 4096 < x.version.length) (long : length (chunk_in_file s e index) ≡ count) (none : bytes_at (id.slot, index) m.chunks ≡ []) (room : length m.chunks + 3 ≤ m.size) where
  abbrev c : Bytes
  c = chunk_in_file s e index

  one : IsFound number m s id
  one = instances_of number m s shows.table id there

  total : total_at id.slot m.instances ≡ x.version.length
  total = ap total_of one.here ∙ ap (λ (v : Version). v.length) one.shows.version ∙ ap (λ (y : Known). y.version.length) (some_is one.known x (sym one.there ∙ known))

  pub bytes_added : (bytes : Bytes) → bytes ≡ c → with_bytes id (index * 4096) bytes m ≡ with_added id index c m
  bytes_added bytes is =
      ap (λ (bs : Bytes). with_bytes id (index * 4096) bs m) is
      ∙ ap₂ (λ (a : Bool) (n : ℕ). let k : Memory = elim (a && nat_le (index * 4096 + length c) n) as (λ t. Memory) [ true ↦ with_added id index c m | false ↦ m ] in k) there total
      ∙ ap (λ (b : Bool). elim b as (λ t. Memory) [ true ↦ with_added id index c m | false ↦ m ]) (fits_in index count x.version.length (length c) inside few long)

  free : (added m.size id.slot (index * 4096) c m.chunks).need_chunk ≡ false
  free = room_is_enough m.size id.slot (index * 4096) c m.chunks (room_for_one (length m.chunks) m.size (length c) room (few_of count (x.version.length - 4096 * index) (length c) few long))

  front : bytes_at (id.slot, index) m.chunks ≡ take (length (bytes_at (id.slot, index) m.chunks)) c
  front = none ∙ ap (λ (bs : Bytes). take (length bs) c) (sym none)

  more : length (bytes_at (id.slot, index) m.chunks) < length c
  more = subst (λ (bs : Bytes). length bs < length c) (sym none) (subst (λ (n : ℕ). 0 < n) (sym long) some)

  pub cache_shows : (k : Memory) → HasJoined (with_added id index c m) k → ShowsCache number k (load x.key index s)
  cache_shows k has =
      subst (λ (j : Memory). ShowsCache number j (load x.key index s)) (sym (ap (λ (j : Memory). record j { instances = k.instances }) has.rest))
      (loads_of number m s shows k.instances id x e index there known stands kept front more free has.faces)

-- ---- all that is shown

-- clients, exchanges and connections are as they were
pub record IsSameBeside (s t : State) : Type 0 where
  pub clients : t.clients ≡ s.clients
  pub exchanges : t.exchanges ≡ s.exchanges
  pub next_exchange : t.next_exchange ≡ s.next_exchange
  pub conns : t.conns ≡ s.conns
  pub next_instance : t.next_instance ≡ s.next_instance

same_beside : (s t : State) → IsLoaded s t → IsSameBeside s t
same_beside s t rest = record {
  clients = ap (λ (u : State). u.clients) rest;
  exchanges = ap (λ (u : State). u.exchanges) rest;
  next_exchange = ap (λ (u : State). u.next_exchange) rest;
  conns = ap (λ (u : State). u.conns) rest;
  next_instance = ap (λ (u : State). u.next_instance) rest;
}

module _ (number : ℕ → ℕ) (name : Bytes) (peers : List Peer) (p : Parts) (k : Memory) (s t : State) (steps : ShowsSteps number name none_leaves peers p s) (same : IsSameBeside s t) (cache : ShowsCache number k t) (on : Stands p.cache k s.next_instance s.next_instance) where
  as_before : (m : ℕ) → AreBoth IsAskedAs (exchange s m) (exchange t m)
  as_before m = subst (λ (es : List Exchange). AreBoth IsAskedAs (exchange s m) (find (is_exchange m) es)) (sym same.exchanges) (itself (exchange s m))

  pub steps_beside : ShowsSteps number name none_leaves peers (record p { cache = k }) t
  steps_beside = record {
    shows = record {
      clients = subst (λ (ds : List Client). AreShown number name [] p.seats ds) (sym same.clients) steps.shows.clients;
      exchanges =
          flow_frames number none_leaves p.flow s steps.shows.exchanges none_leaves t
          (record { exchanges = same.exchanges; next = same.next_exchange; lines = λ n. ap (λ (ks : List Conn). none_leaves n ++ line_in (find (is_conn n) ks)) same.conns });
      table = cache;
      conns = subst (λ (ks : List Conn). ShowConns t peers ks) (sym same.conns) (frames s t peers s.conns (all_as s t as_before s.conns) steps.shows.conns);
    };
    order = steps.order;
    told = told_next number k s.next_instance t.next_instance p.flow same.next_instance (are_told_on number p.cache k s.next_instance s.next_instance on p.flow steps.told);
    refused = steps.refused;
  }

module _ (number : ℕ → ℕ) (peers : List Peer) (p q : Turn) (wanted : Memory) (s t : State) (turn : ShowsTurn number none_leaves peers p s) (rest : IsLoaded s t) (lives : wanted.lives ≡ p.cache.lives) (instances : wanted.instances ≡ p.cache.instances) (is : IsButForCells (with_use (record p { cache = wanted })) q)
    (cache : ShowsCache number q.cache t) (bounded : IsBounded q.cache) where
  pub same_there : (id : ObjectId) → is_there id q.cache.instances ≡ is_there id p.cache.instances
  same_there id = there_faced q.cache.instances wanted.instances is.cache.faces id ∙ ap (λ (js : List Instance). is_there id js) instances

  pub still_stands : Stands p.cache q.cache s.next_instance s.next_instance
  still_stands = record {
    lives = omega (arith, ap (λ (j : Memory). j.lives) is.cache.rest, lives);
    numbers = omega arith;
    there = λ id there. sym (same_there id) ∙ there;
  }

  pub turn_loaded : ShowsTurn number none_leaves peers q t
  turn_loaded = record {
    steps =
        subst (λ (u : Turn). ShowsSteps number u.name.items none_leaves peers (record (parts u) { cache = q.cache }) t) (sym is.rest)
        (steps_beside number p.name.items peers (parts p) q.cache s t turn.steps (same_beside s t rest) cache still_stands);
    name = ap (λ (u : Turn). u.name.items) is.rest ∙ turn.name ∙ sym (ap (λ (u : State). u.settings.name) rest);
    shares = ap (λ (u : Turn). u.shares_fetches) is.rest ∙ turn.shares ∙ sym (ap (λ (u : State). u.settings.shares_fetches) rest);
    clock = ap (λ (u : Turn). u.now) is.rest ∙ turn.clock ∙ sym (ap (λ (u : State). u.clock) rest);
    ticked = ap (λ (u : Turn). u.is_ticked) is.rest ∙ turn.ticked ∙ sym (ap (λ (u : State). u.is_ticked) rest);
    stopped = ap (λ (u : Turn). u.is_stopped) is.rest ∙ turn.stopped ∙ sym (ap (λ (u : State). u.is_stopped) rest);
    bounded = bounded;
  }
