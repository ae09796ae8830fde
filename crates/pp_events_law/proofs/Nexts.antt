-- Who is written to, and the next byte for it, in the program and in the law.
use Rattle.std.proofs.Common.{◌≡◌, ◌<◌, refl, sym, subst, ap, ◌∙◌, ℕ, ◌/◌, ◌%◌, Bool, true, false, ◌&&◌, not, nat_lt, List, [], length, Option, Some, None, arith}
use Rattle.std.proofs.lemmas.Bool.Decides.{nat_tests}
use Rattle.std.specs.Option.{option_and_then}
use Rattle.pp_cache.specs.Memory.{Memory, extent_of as bytes_kept, is_in_memory}
use Rattle.pp_cache_law.proofs.Alike.{bytes_of, extents_of}
use Rattle.pp_cache_law.proofs.Changed.{its_number}
use Rattle.pp_cache_law.proofs.Numbers.{is_same}
use Rattle.pp_cache_law.specs.Tables.{ShowsTable}
use Rattle.pp_due.specs.OnDisk.{if_on_disk, next_on_disk}
use Rattle.pp_flow_law.specs.Tables.{none_leaves}
use Rattle.pp_holes.specs.Places.{bytes_at}
use Rattle.pp_law.specs.Chunks.{chunk_bytes, is_in_memory as is_in_law_memory}
use Rattle.pp_law.specs.Connections.{is_client}
use Rattle.pp_law.specs.Lists.{Bytes}
use Rattle.pp_law.specs.Offers.{is_at_body as at_body_of_law}
use Rattle.pp_law.specs.Stages.{reply_of}
use Rattle.pp_law.specs.State.{State, Client, Instance as Known, Owed}
use Rattle.pp_law.specs.Table.{Next, extent_of, instance, next_of as next_of_law}
use Rattle.pp_laws.proofs.Lists.{in_find}
use Rattle.pp_laws.specs.Runs.{IsIn}
use Rattle.pp_objects.specs.Instances.{is_there}
use Rattle.pp_peers.specs.declared.peers.Peer.{Peer}
use Rattle.pp_seats.specs.Courses.{has_begun}
use Rattle.pp_seats.specs.Follows.{next_of}
use Rattle.pp_seats.specs.Seats.{is_at_body}
use Rattle.pp_seats.specs.declared.seat.Next.{Next as SeatNext}
use Rattle.pp_seats.specs.declared.seat.Seat.{Seat}
use Rattle.pp_seats_law.proofs.AllSeats.{places}
use Rattle.pp_seats_law.proofs.Nexts.{nexts}
use Rattle.pp_seats_law.proofs.Stages.{begun}
use Rattle.pp_seats_law.specs.Clients.{IsAt, IsFound}
use Rattle.pp_seats_law.specs.Seats.{ShowsOpen, ShowsSeat}
use Rattle.pp_seats_law.specs.Words.{HasSource, ShowsNext}
use Rattle.pp_state.specs.declared.state.State.{State as Turn}
use Rattle.pp_states_law.proofs.Places.{at_place}
use Rattle.pp_store.specs.Kept.{KeptMap}
use Rattle.pp_turns_law.proofs.Dry.{at_body}
use Rattle.pp_turns_law.proofs.Follows.{has_source, is_next, none_some}
use Rattle.pp_turns_law.specs.Nexts.{IsNext}
use Rattle.pp_events_law.specs.ToLoad.{IsToLoad, StandsInEvent}

-- ---- of the program

-- the byte is next, is kept, and is not in memory
pub record IsAlone (m : Memory) (seat : Seat) (next : SeatNext) : Type 0 where
  pub body : is_at_body seat ≡ true
  pub its : next_of seat ≡ Some next
  pub below : nat_lt next.at (bytes_kept next.source m) ≡ true
  pub absent : (is_there next.source m.instances && is_in_memory next.source.slot next.at m.chunks) ≡ false

pub is_alone : (p : Turn) (seat : Seat) (next : SeatNext) → next_on_disk p seat ≡ Some next → IsAlone p.cache seat next
is_alone p seat next is = by (is_at_body seat) refl (next_of seat) refl is
  where
    of : (n : SeatNext) (a b : Bool) → nat_lt n.at (bytes_kept n.source p.cache) ≡ a → (is_there n.source p.cache.instances && is_in_memory n.source.slot n.at p.cache.chunks) ≡ b → is_at_body seat ≡ true → next_of seat ≡ Some n
        → (elim (a && not b) as (λ t. Option SeatNext) [ true ↦ Some n | false ↦ None ]) ≡ Some next → IsAlone p.cache seat next
    of n false b below absent body its found = absurd (none_some found)
    of n true true below absent body its found = absurd (none_some found)
    of n true false below absent body its found =
        let same : n ≡ next = cc found in
        subst (λ (k : SeatNext). IsAlone p.cache seat k) same (record { body = body; its = its; below = below; absent = absent })

    by : (b : Bool) → is_at_body seat ≡ b → (o : Option SeatNext) → next_of seat ≡ o → (elim b as (λ t. Option SeatNext) [ true ↦ option_and_then (if_on_disk p.cache) o | false ↦ None ]) ≡ Some next → IsAlone p.cache seat next
    by false body o its found = absurd (none_some found)
    by true body None its found = absurd (none_some found)
    by true body (Some n) its found = of n (nat_lt n.at (bytes_kept n.source p.cache)) (is_there n.source p.cache.instances && is_in_memory n.source.slot n.at p.cache.chunks) refl refl body its found

-- ---- of both

less : (m n : ℕ) → nat_lt m n ≡ true → m < n
less m n is = grind (arith, nat_tests)

-- the client, and the next byte for it, of an instance that is there
pub record IsSeen (number : ℕ → ℕ) (id : ℕ) (p : Turn) (s : State) (seat : Seat) (next : SeatNext) : Type 0 where
  pub client : Client
  pub in_law : IsIn client s.clients
  pub number_is : client.number ≡ id
  pub going : client.is_closing ≡ false
  pub shows : ShowsSeat number p.name.items [] seat client
  pub body : at_body_of_law client ≡ true
  pub alone : IsAlone p.cache seat next
  pub known_next : Next
  pub its : next_of_law s client ≡ Some known_next
  pub at : next.at ≡ known_next.at
  pub there : is_there next.source p.cache.instances ≡ true
  pub known : instance s (number next.source.life) ≡ Some known_next.source
  pub its_id : number next.source.life ≡ known_next.source.id
  pub below : next.at < extent_of s known_next.source
  -- what is in memory of a chunk
  pub bytes : (index : ℕ) → bytes_at (next.source.slot, index) p.cache.chunks ≡ chunk_bytes known_next.source.id index s.chunks
  pub missing : is_in_law_memory s known_next.source.id next.at ≡ false

record IsKnownNext (number : ℕ → ℕ) (m : Memory) (s : State) (c : Client) (x : SeatNext) : Type 0 where
  next : Next
  its : next_of_law s c ≡ Some next
  same : IsNext number m s x next

module _ (number : ℕ → ℕ) (id i : ℕ) (owed : Owed) (peers : List Peer) (p : Turn) (shelf : KeptMap) (s : State) (seat : Seat) (next : SeatNext) (stands : StandsInEvent number owed peers p shelf s) (to : IsToLoad id i p seat next) where
  abbrev m : Memory
  m = p.cache

  abbrev name : Bytes
  name = p.name.items

  table : ShowsTable number m s
  table = stands.turn.steps.shows.table.table

  sits : IsAt id i p.seats.items
  sits = at_place id i p.seats.items stands.turn.steps.order to.place

  found : IsFound number name [] seat id s.clients
  found = places number name [] p.seats.items s.clients id i seat stands.turn.steps.shows.clients sits to.here

  abbrev c : Client
  c = found.client

  in_law : IsIn c s.clients
  in_law = (in_find (is_client id) c s.clients found.there).0

  its_client : c.number ≡ id
  its_client = is_same c.number id (in_find (is_client id) c s.clients found.there).1

  going : c.is_closing ≡ false
  going = sym found.shows.closing ∙ to.going

  alone : IsAlone m seat next
  alone = is_alone p seat next to.alone

  at_its_body : at_body_of_law c ≡ true
  at_its_body =
      let live : ShowsOpen number name [] seat c = found.shows.going going in
      sym (at_body c.interim_left (reply_of c) (has_begun seat) seat.before_body (begun number name [] seat c live) live.before_body) ∙ alone.body

  has_its : HasSource s c
  has_its = has_source number none_leaves peers p s name seat c stands.turn found.shows going to.follows

  its_nexts : ShowsNext number (Some next) (next_of_law s c)
  its_nexts = subst (λ (o : Option SeatNext). ShowsNext number o (next_of_law s c)) alone.its (nexts number s name [] seat c found.shows (λ on. has_its))

  known_next : IsKnownNext number m s c next
  known_next = by (next_of_law s c) refl its_nexts
    where
      by : (o : Option Next) → next_of_law s c ≡ o → ShowsNext number (Some next) o → IsKnownNext number m s c next
      by None law shows = absurd shows
      by (Some n) law same = record { next = n; its = law; same = is_next number none_leaves peers p s name seat c next n stands.turn found.shows going to.follows alone.its law same }

  -- ---- the instance, and the byte of it

  abbrev n : Next
  n = known_next.next

  abbrev x : Known
  x = n.source

  there : is_there next.source m.instances ≡ true
  there = known_next.same.there

  known : instance s (number next.source.life) ≡ Some x
  known = known_next.same.known

  its_id : number next.source.life ≡ x.id
  its_id = its_number number m s next.source x table there known

  below_extent : next.at < extent_of s x
  below_extent =
      let is : nat_lt next.at (extent_of s x) ≡ true = ap (λ (k : ℕ). nat_lt next.at k) (sym (extents_of number m s table next.source x there known)) ∙ alone.below in
      less next.at (extent_of s x) is

  -- what is in memory of a chunk
  same_bytes : (index : ℕ) → bytes_at (next.source.slot, index) m.chunks ≡ chunk_bytes x.id index s.chunks
  same_bytes index = bytes_of number m s table next.source index there ∙ ap (λ (k : ℕ). chunk_bytes k index s.chunks) its_id

  missing : is_in_law_memory s x.id next.at ≡ false
  missing =
      ap (λ (bytes : Bytes). nat_lt (next.at % 4096) (length bytes)) (sym (same_bytes (next.at / 4096)))
      ∙ ap (λ (b : Bool). b && is_in_memory next.source.slot next.at m.chunks) (sym there) ∙ alone.absent

  pub is_seen : IsSeen number id p s seat next
  is_seen = record {
    client = c;
    in_law = in_law;
    number_is = its_client;
    going = going;
    shows = found.shows;
    body = at_its_body;
    alone = alone;
    known_next = n;
    its = known_next.its;
    at = known_next.same.at;
    there = there;
    known = known;
    its_id = its_id;
    below = below_extent;
    bytes = same_bytes;
    missing = missing;
  }
