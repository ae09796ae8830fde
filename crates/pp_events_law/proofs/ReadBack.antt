-- The chunk of the next byte is read back, and the turn shows the law's state behind it.
use Rattle.std.proofs.Common.{◌≡◌, ◌<◌, ◌≤◌, refl, sym, subst, ap, ap₂, ◌∙◌, ℕ, ◌+◌, ◌-◌, ◌*◌, ◌/◌, ◌%◌, Bool, true, false, ◌&&◌, ◌||◌, not, length, min, nat_lt, take, List, [], Option, None, Ok, arith}
use Rattle.std.specs.Prelude.{slice_get}
use Rattle.pp_cache.specs.Bounds.{IsBounded}
use Rattle.pp_cache.specs.Memory.{Memory}
use Rattle.pp_cache_law.proofs.Alike.{bytes_of}
use Rattle.pp_cache_law.proofs.Numbers.{same_test}
use Rattle.pp_cache_law.specs.Tables.{ShowsCache}
use Rattle.pp_due.specs.Due.{is_dry}
use Rattle.pp_due.specs.OnDisk.{next_on_disk}
use Rattle.pp_flow_law.specs.Tables.{none_leaves}
use Rattle.pp_holes.specs.Places.{bytes_at}
use Rattle.pp_law.specs.Asking.{is_writing}
use Rattle.pp_law.specs.Chunks.{chunk_bytes, filled, is_in_memory as is_in_law_memory}
use Rattle.pp_law.specs.Lists.{Bytes, is_some_with}
use Rattle.pp_law.specs.Offers.{has_to_say, is_at_body, offer}
use Rattle.pp_law.specs.State.{State, Chunk, Entry, Instance as Known, Owed, WriteTo}
use Rattle.pp_law.specs.Store.{chunk_in_file, load}
use Rattle.pp_law.specs.Table.{Next, extent_of, is_next_held, next_of as next_of_law}
use Rattle.pp_objects.specs.Instances.{is_there}
use Rattle.pp_objects.specs.declared.id.ObjectId.{ObjectId}
use Rattle.pp_obeys.proofs.Silent.{or_second}
use Rattle.pp_obeys.specs.Moves.{Leads}
use Rattle.pp_peers.specs.declared.peers.Peer.{Peer}
use Rattle.pp_seats.specs.declared.seat.Next.{Next as SeatNext}
use Rattle.pp_seats.specs.declared.seat.Seat.{Seat}
use Rattle.pp_shelf_law.proofs.Loaded.{loads}
use Rattle.pp_shelf_law.specs.Folder.{disk_of}
use Rattle.pp_shelf_law.specs.Loads.{IsToLoad as IsLoadedNext}
use Rattle.pp_desk.specs.Anything.{anything}
use Rattle.pp_state.specs.Bodies.{IsButForCells, with_bytes, with_use}
use Rattle.pp_state.specs.declared.state.State.{State as Turn}
use Rattle.pp_states_law.specs.Told.{IsTold}
use Rattle.pp_store.specs.Held.{Holds}
use Rattle.pp_store.specs.Kept.{Kept, KeptMap, kept_of, row_of}
use Rattle.pp_store.specs.Loads.{GivesChunk, chunk_len as chunk_of}
use Rattle.pp_talk.specs.Talking.{offered}
use Rattle.pp_text.specs.Bytes.{is_empty}
use Rattle.pp_turns_law.proofs.Drying.{dry}
use Rattle.pp_turns_law.specs.Rows.{AreReady, IsReady}
use Rattle.pp_turns_law.specs.Turns.{IsFollowing, ShowsTurn}
use Rattle.pp_valid.specs.declared.version.Version.{Version}
use Rattle.pp_world.specs.Log.{Log}
use Rattle.pp_events_law.proofs.ChunkBytes.{IsChunk, is_chunk}
use Rattle.pp_events_law.proofs.Entries.{IsReadOf}
use Rattle.pp_events_law.proofs.Loaded.{disk_stands, its_chunks, load_is, only_chunks, put_there, with_chunk}
use Rattle.pp_events_law.proofs.Memory.{bytes_added, cache_shows, same_there, still_stands, turn_loaded, with_added}
use Rattle.pp_events_law.proofs.Nexts.{IsSeen}
use Rattle.pp_events_law.proofs.AtHand.{held, in_memory, less_test, some_offered}
use Rattle.pp_events_law.specs.ReadsBack.{IsLoaded, loaded_note}
use Rattle.pp_events_law.specs.ToLoad.{StandsInEvent, StandsOnDisk}

-- ---- numbers

chunk_begins : (at n : ℕ) → at < n → at / 4096 * 4096 < n
chunk_begins at n inside = omega (arith, inside)

chunk_has : (at n count : ℕ) → at < n → count ≡ min 4096 (n - 4096 * (at / 4096)) → at % 4096 < count
chunk_has at n count inside few = omega (arith, inside, few)

some_of : (at n count : ℕ) → at < n → count ≡ min 4096 (n - 4096 * (at / 4096)) → 0 < count
some_of at n count inside few = omega (arith, inside, few)

other_way : (n i k : ℕ) → k ≡ min 4096 (n - 4096 * i) → k ≡ min 4096 (n - i * 4096)
other_way n i k is = omega (arith, is)

or_first : (a b : Bool) → a ≡ true → (a || b) ≡ true
or_first true b is = refl
or_first false b is = absurd (cc is)

-- ---- what is read is permitted

module _ (number : ℕ → ℕ) (id : ℕ) (peers : List Peer) (p : Turn) (shelf : KeptMap) (seat : Seat) (next : SeatNext) (s : State) (stands : StandsInEvent number (WriteTo id) peers p shelf s) (w : IsSeen number id p s seat next) (r : IsReadOf shelf s w.known_next.source next.at) where
  abbrev m : Memory
  m = p.cache

  abbrev at : ℕ
  at = next.at

  abbrev index : ℕ
  index = next.at / 4096

  abbrev x : Known
  x = w.known_next.source

  abbrev e : Entry
  e = r.entry

  pub to_load : IsLoadedNext s x e index
  to_load = record {
    none = stands.none;
    at = stands.at;
    rests = stands.disk.rests;
    client = w.client;
    there = w.in_law;
    writes = ap (λ (o : Owed). is_writing o w.client.number) stands.owes ∙ same_test id w.client.number (sym w.number_is);
    body = w.body;
    next = w.known_next;
    follows = w.its;
    source = refl;
    row = r.unretired;
    kept = r.kept_in_law;
    version = r.version;
    inside = subst (λ (k : ℕ). k < x.version.length) w.at r.inside;
    chunk = ap (λ (k : ℕ). k / 4096) (sym w.at);
    absent = ap (λ (k : ℕ). is_in_law_memory s x.id k) (sym w.at) ∙ w.missing;
  }

  abbrev t : State
  t = load x.key index s

  abbrev c : Bytes
  c = chunk_in_file s e index

  pub leads : Leads (loaded_note x.key x.version index) s t
  leads = (loads shelf s x e r.kept index stands.disk.shows to_load r.there r.keeps).0

  t_is : t ≡ with_chunk x index c s
  t_is = load_is s x e index r.stands_for r.kept_in_law

  pub rest : IsLoaded s t
  rest = subst (λ (u : State). IsLoaded s u) (sym t_is) (only_chunks x index c s)

  -- ---- it was read

  module _ (q : Turn) (log : Log) (out : Bytes) (count : ℕ) (holds : Holds anything shelf log) (disk : s.disk ≡ disk_of log) (gives : GivesChunk (row_of x.key shelf) index out (Ok count) log) (count_is : count ≡ chunk_of (row_of x.key shelf).entry.version.length index) (room : length m.chunks + 3 ≤ m.size)
      (takes : IsButForCells (with_use (record p { cache = with_bytes next.source (index * 4096) (take count out) m })) q) (follows : IsFollowing m seat) (bounded : IsBounded q.cache) where
    chunk : IsChunk s e index count out
    chunk =
        is_chunk shelf log s e r.kept index count out holds disk (ap (λ (k : Bytes). kept_of k shelf) r.key ∙ r.there) r.shows r.first
        (subst (λ (k : Kept). GivesChunk k index out (Ok count) log) r.row_is gives) (count_is ∙ ap (λ (k : Kept). chunk_of k.entry.version.length index) r.row_is)

    few : count ≡ min 4096 (x.version.length - 4096 * index)
    few = chunk.few ∙ ap (λ (v : Version). min 4096 (v.length - 4096 * index)) r.version

    abbrev wanted : Memory
    wanted = with_added next.source index c m

    none : bytes_at (next.source.slot, index) m.chunks ≡ []
    none = w.bytes index ∙ r.none

    is : IsButForCells (with_use (record p { cache = wanted })) q
    is =
        subst (λ (k : Memory). IsButForCells (with_use (record p { cache = k })) q)
        (bytes_added number m s stands.turn.steps.shows.table next.source x e index w.there w.known r.stands_for r.kept_in_law count (some_of at x.version.length count r.inside few) few (chunk_begins at x.version.length r.inside) chunk.long none room (take count out) chunk.same) takes

    cache : ShowsCache number q.cache t
    cache =
        cache_shows number m s stands.turn.steps.shows.table next.source x e index w.there w.known r.stands_for r.kept_in_law count (some_of at x.version.length count r.inside few) few (chunk_begins at x.version.length r.inside) chunk.long none room q.cache is.cache

    turn : ShowsTurn number none_leaves peers q t
    turn = turn_loaded number peers p q wanted s t stands.turn rest refl refl is cache bounded

    pub stands_behind : StandsInEvent number (WriteTo id) peers q shelf t
    stands_behind = record {
      none = ap (λ (u : State). u.made_room_for) rest ∙ stands.none;
      at = ap (λ (u : State). u.phase) rest ∙ stands.at;
      owes = ap (λ (u : State). u.owed) rest ∙ stands.owes;
      turn = turn;
      disk = subst (λ (u : State). StandsOnDisk shelf u) (sym t_is) (disk_stands shelf s stands.disk (number next.source.life) index x c w.known (chunk.long ∙ other_way x.version.length index count few));
    }

    there : is_there next.source q.cache.instances ≡ true
    there = same_there number peers p q wanted s t stands.turn rest refl refl is cache bounded next.source ∙ w.there

    in_chunk : bytes_at (next.source.slot, index) q.cache.chunks ≡ c
    in_chunk =
        bytes_of number q.cache t cache.table next.source index there
        ∙ ap₂ (λ (k : ℕ) (ds : List Chunk). chunk_bytes k index ds) w.its_id (ap (λ (u : State). u.chunks) t_is ∙ its_chunks x index c s)
        ∙ put_there x.id index c s.chunks

    pub held_behind : next_on_disk q seat ≡ None
    held_behind =
        held q seat next w.alone.its there
        (in_memory next.source.slot at q.cache (subst (λ (bs : Bytes). at % 4096 < length bs) (sym in_chunk) (subst (λ (k : ℕ). at % 4096 < k) (sym chunk.long) (chunk_has at x.version.length count r.inside few))))

    -- ---- some of it is said next

    abbrev n : Next
    n = w.known_next

    next_held : is_next_held t n ≡ true
    next_held =
        or_first (nat_lt n.at (extent_of t x)) (nat_lt (n.at % 4096) (filled x.id (n.at / 4096) t.chunks))
        (ap₂ (λ (a k : ℕ). nat_lt a k) (sym w.at) (ap (λ (u : State). extent_of u x) rest) ∙ less_test at (extent_of s x) w.below)

    says : has_to_say t w.client ≡ true
    says =
        or_second (not (is_empty (offer t w.client))) (is_at_body w.client && is_some_with (is_next_held t) (next_of_law t w.client))
        (ap₂ (λ (b : Bool) (o : Option Next). b && is_some_with (is_next_held t) o) w.body (ap (λ (u : State). next_of_law u w.client) rest ∙ w.its) ∙ next_held)

    follows_behind : IsFollowing q.cache seat
    follows_behind a k answer source = same_there number peers p q wanted s t stands.turn rest refl refl is cache bounded k ∙ follows a k answer source

    wet : is_dry q seat ≡ false
    wet = dry number none_leaves peers q t p.name.items seat w.client turn w.shows w.going follows_behind ∙ ap not says

    pub some_behind : 0 < length (offered seat.client.reply q.cache)
    some_behind = some_offered q seat wet held_behind

    pub rest_behind : record q { cache = p.cache; is_evicting = p.is_evicting } ≡ p
    rest_behind = ap (λ (u : Turn). record u { cache = p.cache; is_evicting = p.is_evicting }) is.rest

    -- each that goes on can be decided

    same_next : t.next_instance ≡ s.next_instance
    same_next = ap (λ (u : State). u.next_instance) rest

    told_behind : (k : ObjectId) → IsTold number p.cache s.next_instance k → IsTold number q.cache t.next_instance k
    told_behind k told = record {
      given = omega (arith, told.given, (still_stands number peers p q wanted s t stands.turn rest refl refl is cache bounded).lives);
      made = omega (arith, told.made, same_next);
      apart = λ other within. told.apart other (sym (same_there number peers p q wanted s t stands.turn rest refl refl is cache bounded other) ∙ within);
    }

    pub ready_behind : AreReady number p.cache s.next_instance p.seats.items → AreReady number q.cache t.next_instance q.seats.items
    ready_behind ready j other here on =
        let one : IsReady number p.cache s.next_instance other = ready j other (ap (λ (u : Turn). slice_get u.seats.items j) (sym rest_behind) ∙ here) on in record {
          follows = λ a k answer source. same_there number peers p q wanted s t stands.turn rest refl refl is cache bounded k ∙ one.follows a k answer source;
          key = one.key;
          joined = λ k plain brought. told_behind k (one.joined k plain brought);
        }
