-- A chunk is read back before a write, or it cannot be read.
use Rattle.std.proofs.Common.{◌≡◌, ◌⊎◌, ◌≤◌, inl, inr, sym, subst, ap, ◌∙◌, ℕ, ◌*◌, ◌/◌, Bool, true, false, ◌&&◌, cond, is_some, nat_lt, List, [], Option, Some, None, Ok, Err, arith}
use Rattle.std.proofs.lemmas.Bool.Decides.{nat_tests}
use Rattle.std.specs.Option.{option_and_then}
use Rattle.std.specs.Prelude.{slice_get, IfSome}
use Rattle.pp_cache.specs.Bounds.{IsBounded}
use Rattle.pp_cache.specs.Memory.{is_in_memory}
use Rattle.pp_cache_law.proofs.Alike.{instances_of}
use Rattle.pp_cache_law.proofs.Numbers.{some_is}
use Rattle.pp_cache_law.specs.Reads.{IsFound}
use Rattle.pp_cache_law.specs.Tables.{ShowsInstance}
use Rattle.pp_due.specs.OnDisk.{next_on_disk}
use Rattle.pp_law.specs.Lists.{Bytes}
use Rattle.pp_law.specs.State.{State, Instance as Known, Free, WriteTo}
use Rattle.pp_law.specs.Store.{load}
use Rattle.pp_laws.proofs.Tests.{first_holds, second_holds}
use Rattle.pp_objects.specs.Instances.{Instance, in_slot}
use Rattle.pp_peers.specs.declared.peers.Peer.{Peer}
use Rattle.pp_seats.specs.Follows.{answer_in, next_by}
use Rattle.pp_seats.specs.declared.seat.Next.{Next}
use Rattle.pp_seats.specs.declared.seat.Seat.{Seat}
use Rattle.pp_shelf.specs.Given.{keeps_byte}
use Rattle.pp_shelf_law.specs.Loads.{IsToLoad as IsLoadedNext}
use Rattle.pp_state.specs.Bringing.{instance_of}
use Rattle.pp_state.specs.declared.state.State.{State as Turn}
use Rattle.pp_store.specs.Kept.{Kept, KeptMap, kept_of, row_of}
use Rattle.pp_store.specs.Loads.{GivesChunk, LoadCause, chunk_len}
use Rattle.pp_store.specs.declared.faults.LoadFault.TheVariants.{DiskFault, Short}
use Rattle.pp_talk.specs.Loading.{Answer, LoadsChunk, LoadsNext, LoadsOf, LoadsWhere, TakesChunk, chunk_at, load_log, shelf_after, with_none_kept}
use Rattle.pp_talk.specs.Talking.{offered}
use Rattle.pp_text.specs.Bytes.{is_empty}
use Rattle.pp_turns_law.specs.Rows.{AreReady}
use Rattle.pp_valid.specs.declared.version.Version.{Version}
use Rattle.pp_world.specs.Log.{AppendsAll, Log, Told}
use Rattle.pp_events_law.proofs.Entries.{IsReadOf, is_read_of}
use Rattle.pp_events_law.proofs.Losing.{anew_lost, held_lost, law_lost, leads_lost, ready_lost, stands_lost}
use Rattle.pp_events_law.proofs.Nexts.{IsSeen, is_seen}
use Rattle.pp_events_law.proofs.ReadBack.{held_behind, leads, ready_behind, rest, rest_behind, some_behind, stands_behind, to_load}
use Rattle.pp_events_law.proofs.Unsaid.{nothing_offered}
use Rattle.pp_events_law.specs.Losses.{HasLost, IsFirstOwed, without_entry}
use Rattle.pp_events_law.specs.ReadsBack.{ChunksAreReadBack, HasRead}
use Rattle.pp_events_law.specs.ToLoad.{IsOnLog, IsToLoad, StandsInEvent}

near_chunk : (at : ℕ) → at ≤ 1073741824 → nat_lt (at / 4096) 4294967296 ≡ true
near_chunk at near = grind (arith, nat_tests, near)

module _ (number : ℕ → ℕ) (id i : ℕ) (peers : List Peer) (p q : Turn) (shelf behind : KeptMap) (seat : Seat) (next : Next) (old new : Option Log) (before now : ℕ) (s : State) (stands : StandsInEvent number (WriteTo id) peers p shelf s) (to : IsToLoad id i p seat next) (on : IsOnLog shelf old new s) (first : IsFirstOwed s)
    (bounded : IsBounded q.cache) (loads : LoadsNext i shelf p behind q old new before now) where
  w : IsSeen number id p s seat next
  w = is_seen number id i (WriteTo id) peers p shelf s seat next stands to

  abbrev x : Known
  x = w.known_next.source

  abbrev index : ℕ
  index = next.at / 4096

  r : IsReadOf shelf s x next.at
  r = is_read_of shelf s stands.disk (number next.source.life) x next.at w.known w.its_id w.below w.missing

  -- ---- of the program: the chunk of that row

  one : IsFound number p.cache s next.source
  one = instances_of number p.cache s stands.turn.steps.shows.table.table next.source w.there

  shown : ShowsInstance number p.cache s one.seen x
  shown = subst (λ (y : Known). ShowsInstance number p.cache s one.seen y) (some_is one.known x (sym one.there ∙ w.known)) one.shows

  its_next : option_and_then (next_on_disk p) (slice_get p.seats.items i) ≡ Some next
  its_next = ap (λ (o : Option Seat). option_and_then (next_on_disk p) o) to.here ∙ to.alone

  its_instance : instance_of next.source p.cache.instances ≡ Some one.seen
  its_instance = ap (λ (b : Bool). cond b (in_slot next.source.slot p.cache.instances) None) w.there ∙ one.here

  its_chunk : chunk_at next.at ≡ Some index
  its_chunk = ap (λ (b : Bool). cond b (Some index) None) (near_chunk next.at to.near)

  chunk : LoadsChunk next.source index x.key x.version shelf p behind q old new before now
  chunk =
      subst (λ (v : Version). LoadsChunk next.source index x.key v shelf p behind q old new before now) shown.version
      (subst (λ (k : Bytes). LoadsChunk next.source index k one.seen.version shelf p behind q old new before now) shown.key
      (subst (λ (o : Option ℕ). LoadsOf next.source (Some one.seen) o shelf p behind q old new before now) its_chunk
      (subst (λ (o : Option Instance). LoadsOf next.source o (chunk_at next.at) shelf p behind q old new before now) its_instance
      (subst (λ (o : Option Next). LoadsWhere o shelf p behind q old new before now) its_next loads))))

  to_read : IsLoadedNext s x r.entry index
  to_read = to_load number id peers p shelf seat next s stands w r

  -- where nothing more is kept, nothing is at hand
  none_at_hand : offered seat.client.reply (with_none_kept next.source p).cache ≡ []
  none_at_hand =
      nothing_offered number p.name.items seat w.client (with_none_kept next.source p).cache next (w.shows.going w.going)
      (ap (λ (b : Bool). elim b as (λ t. Option Next) [ true ↦ None | false ↦ next_by (answer_in seat.stage) seat.client.reply ]) (sym to.going) ∙ w.alone.its)
      (first_holds (is_empty w.client.interim_left) _ w.body) (second_holds (is_empty w.client.interim_left) _ w.body)
      (ap (λ (b : Bool). b && is_in_memory next.source.slot next.at p.cache.chunks) (sym w.there) ∙ w.alone.absent)

  -- ---- by what it gives

  by : (a : Answer) → is_some a ≡ keeps_byte (4096 * index) (kept_of x.key shelf) → IfSome a (λ g. Told old (GivesChunk (row_of x.key shelf) index chunk.out g)) → AppendsAll old new (λ l. load_log a x.key x.version index)
      → IfSome a (LoadCause new before now (chunk_len (row_of x.key shelf).entry.version.length index)) → behind ≡ shelf_after a x.key shelf → TakesChunk a chunk.out index next.source p q → HasRead number id peers p q shelf behind seat old new s ⊎ HasLost number peers p q shelf behind seat old new s
  by None answered gives told cause map takes =
      absurd (let both : false ≡ true = answered ∙ ap (λ (o : Option Kept). keeps_byte (4096 * index) o) r.there ∙ r.keeps in cc both)
  by (Some (Ok count)) answered gives told cause map takes =
      let was = told.was on.log on.told in
      let holds = on.holds.at was.0 was.1 in
      let disk = on.disk.at was.0 was.1 in
      let given = gives.at was.0 was.1 in
      inl
      (record {
        key = x.key;
        version = x.version;
        index = index;
        told = told;
        leads = leads number id peers p shelf seat next s stands w r;
        stands = subst (λ (m : KeptMap). StandsInEvent number (WriteTo id) peers q m (load x.key index s)) (sym map) (stands_behind number id peers p shelf seat next s stands w r q was.0 chunk.out count holds disk given cause to.room takes to.follows bounded);
        held = held_behind number id peers p shelf seat next s stands w r q was.0 chunk.out count holds disk given cause to.room takes to.follows bounded;
        some = some_behind number id peers p shelf seat next s stands w r q was.0 chunk.out count holds disk given cause to.room takes to.follows bounded;
        rest = rest_behind number id peers p shelf seat next s stands w r q was.0 chunk.out count holds disk given cause to.room takes to.follows bounded;
        law = rest number id peers p shelf seat next s stands w r;
        ready = ready_behind number id peers p shelf seat next s stands w r q was.0 chunk.out count holds disk given cause to.room takes to.follows bounded;
      })
  by (Some (Err DiskFault)) answered gives told cause map takes =
      inr
      (record {
        key = x.key;
        told = told;
        leads = leads_lost number id peers p shelf seat next s stands w r to_read first;
        map = map;
        stands =
            subst (λ (u : Turn). StandsInEvent number Free peers u behind (without_entry x.key s)) (sym takes)
            (subst (λ (m : KeptMap). StandsInEvent number Free peers (with_none_kept next.source p) m (without_entry x.key s)) (sym map)
            (stands_lost number id peers p shelf seat next s stands w r to_read first (subst (λ (u : Turn). IsBounded u.cache) takes bounded)));
        held = ap (λ (u : Turn). next_on_disk u seat) takes ∙ held_lost number id peers p shelf seat next s stands w r to_read first;
        none = subst (λ (u : Turn). offered seat.client.reply u.cache ≡ []) (sym takes) none_at_hand;
        rest = ap (λ (u : Turn). record u { cache = record u.cache { extents = p.cache.extents } }) takes;
        law = law_lost number id peers p shelf seat next s stands w r to_read first;
        anew = anew_lost number id peers p shelf seat next s stands w r to_read first;
        ready = λ on. subst (λ (u : Turn). AreReady number u.cache (without_entry x.key s).next_instance u.seats.items) (sym takes) (ready_lost number id peers p shelf seat next s stands w r to_read first on);
      })
  by (Some (Err (Short wanted got))) answered gives told cause map takes = absurd (cause.2.at on.log on.told)

  pub read_back : HasRead number id peers p q shelf behind seat old new s ⊎ HasLost number peers p q shelf behind seat old new s
  read_back = by chunk.answer chunk.answered chunk.bytes chunk.told chunk.cause chunk.map chunk.is

pub chunks_are_read_back : ChunksAreReadBack
chunks_are_read_back number id i peers p q shelf behind seat next old new before now s stands to on first bounded loads = read_back number id i peers p q shelf behind seat next old new before now s stands to on first bounded loads
