-- Behind a write before which a chunk was read back what is carried stands.
use Rattle.std.proofs.Common.{◌≡◌, ◌≤◌, sym, subst, ap, ap₂, ◌∙◌, ℕ, ◌*◌, ◌/◌, ◌+◌, Bool, true, false, ◌&&◌, ◌||◌, cond, is_some, length, nat_le, nat_lt, List, [], ◌∷◌, ◌++◌, Option, Some, None, Ok, Err, append_assoc, arith, le_trans}
use Rattle.std.proofs.lemmas.Bool.Decides.{nat_tests}
use Rattle.std.specs.Option.{option_and_then}
use Rattle.std.specs.Prelude.{IfSome, slice_get, take, vec_capacity}
use Rattle.pp_cache.specs.Bounds.{IsBounded}
use Rattle.pp_cache.specs.Memory.{Memory, is_in_memory}
use Rattle.pp_cache_law.proofs.Alike.{instances_of}
use Rattle.pp_cache_law.proofs.Numbers.{some_is}
use Rattle.pp_cache_law.proofs.PairLemmas.{lengths_same}
use Rattle.pp_cache_law.specs.Reads.{IsFound}
use Rattle.pp_cache_law.specs.Tables.{ShowsChunk, ShowsInstance, ShowsTable}
use Rattle.pp_turns_law.specs.Log.{AreLinked}
use Rattle.pp_desk.specs.Closings.{peer_numbers, sides}
use Rattle.pp_desk.specs.declared.desk.Desk.{Desk}
use Rattle.pp_due.specs.OnDisk.{next_on_disk}
use Rattle.pp_events_law.proofs.Entries.{IsReadOf, is_read_of}
use Rattle.pp_events_law.proofs.Loaded.{load_is, with_chunk}
use Rattle.pp_events_law.proofs.Nexts.{IsSeen, is_seen}
use Rattle.pp_events_law.proofs.ReadBack.{leads as read_leads, rest as read_rest, stands_behind}
use Rattle.pp_events_law.proofs.Unsaid.{nothing_offered}
use Rattle.pp_events_law.specs.Loads.{MayLoad}
use Rattle.pp_events_law.specs.ReadsBack.{IsLoaded, loaded_note}
use Rattle.pp_events_law.specs.Stands.{HasLed, StandsAtEvent}
use Rattle.pp_events_law.specs.ToLoad.{IsOnLog, IsToLoad, StandsInEvent}
use Rattle.pp_flow_law.specs.Tables.{none_leaves}
use Rattle.pp_joints_law.proofs.Asks.{Can}
use Rattle.pp_joints_law.proofs.CallsBehind.{drop_front, some_same}
use Rattle.pp_joints_law.proofs.CarriedOn.{IsBehind, StandsFrom, handled_to, leaves_behind, set_of, still_on}
use Rattle.pp_joints_law.proofs.ClearedParts.{Stays, stays_then}
use Rattle.pp_joints_law.proofs.ClearedWire.{stays_said}
use Rattle.pp_joints_law.proofs.DeskBehind.{roused_stays}
use Rattle.pp_joints_law.proofs.DeskLosses.{IsLoadedOf, loaded_says}
use Rattle.pp_joints_law.proofs.LawBehind.{not_ticked}
use Rattle.pp_joints_law.proofs.LawLeft.{never_gone}
use Rattle.pp_joints_law.proofs.Losses.{WroteThen, none_wrote, wrote_then}
use Rattle.pp_joints_law.proofs.Same.{IsSameDisk, disk_as, set_from}
use Rattle.pp_joints_law.specs.Behind.{CarriesOn, HasFew}
use Rattle.pp_joints_law.specs.BehindLoads.{LoadsCarry}
use Rattle.pp_joints_law.specs.BehindLosses.{StandsOwed}
use Rattle.pp_joints_law.specs.Carried.{IsCarried, StandsLinked}
use Rattle.pp_law.specs.Chunks.{note_use, trigger}
use Rattle.pp_law.specs.Lists.{Bytes}
use Rattle.pp_law.specs.State.{State, Chunk as Front, Instance as Known, Phase, Term, Handling, WriteTo}
use Rattle.pp_law.specs.Store.{chunk_in_file, load}
use Rattle.pp_laws.proofs.Tests.{first_holds, second_holds}
use Rattle.pp_laws_quiet.specs.Quiet.{takes_turns}
use Rattle.pp_objects.specs.Instances.{Instance, in_slot}
use Rattle.pp_obeys.proofs.Obeying.{obeys_more}
use Rattle.pp_obeys.specs.Moves.{Leads}
use Rattle.pp_obeys.specs.Obeys.{Obeys}
use Rattle.pp_peers.specs.declared.peers.Peer.{Peer}
use Rattle.pp_places_law.specs.Closings.{AreOpen}
use Rattle.pp_proxy.specs.Handling.{SaysAt}
use Rattle.pp_proxy.specs.Moving.{Moving, Turning}
use Rattle.pp_seats.specs.Follows.{answer_in, next_by}
use Rattle.pp_seats.specs.declared.seat.Next.{Next}
use Rattle.pp_seats.specs.declared.seat.Seat.{Seat}
use Rattle.pp_shelf.specs.Given.{keeps_byte}
use Rattle.pp_shelf_law.proofs.Disks.{disks}
use Rattle.pp_shelf_law.specs.Folder.{disk_of}
use Rattle.pp_state.specs.Bodies.{IsButForCells, with_bytes, with_use}
use Rattle.pp_state.specs.Bringing.{instance_of}
use Rattle.pp_state.specs.Ends.{numbers_of, parts}
use Rattle.pp_state.specs.declared.state.State.{State as Turn}
use Rattle.pp_store.specs.Kept.{Kept, KeptMap, kept_of, row_of}
use Rattle.pp_store.specs.Loads.{GivesChunk, LoadCause, chunk_len}
use Rattle.pp_store.specs.declared.faults.LoadFault.TheVariants.{DiskFault, Short}
use Rattle.pp_talk.specs.Loading.{Answer, LoadsChunk, LoadsOf, LoadsWhere, TakesChunk, chunk_at, load_log, shelf_after, with_none_kept}
use Rattle.pp_talk.specs.Talking.{offered}
use Rattle.pp_target.specs.Name.{name_of}
use Rattle.pp_text.specs.Bytes.{is_empty}
use Rattle.pp_turns_law.specs.Turns.{ShowsTurn}
use Rattle.pp_valid.specs.declared.version.Version.{Version}
use Rattle.pp_world.specs.Log.{AppendsAll, Log, Told}
use Rattle.pp_world.specs.declared.happening.Happening.{Happening}
use Rattle.pp_world.specs.declared.happening.Happening.TheVariants.{Noted, Unread}
use Rattle.pp_world.specs.declared.note.Remark.TheVariants.{Gone, Loaded}

near_chunk : (at : ℕ) → at ≤ 1073741824 → nat_lt (at / 4096) 4294967296 ≡ true
near_chunk at near = grind (arith, nat_tests, near)

-- what the read adds comes first
added_then : (old between new : Option Log) (now hs first : Log) → new ≡ Some now → AppendsAll old new (λ l. hs) → AppendsAll old between (λ l. first) → (w : WroteThen between new now) → hs ≡ first ++ w.wrote
added_then old between new now hs first told all one w =
    let a : (before : Log) × (old ≡ Some before) × (now ≡ before ++ hs) = all.was now told in
    let b : (before : Log) × (old ≡ Some before) × (w.log ≡ before ++ first) = one.was w.log w.told in
    let same : b.0 ≡ a.0 = some_same b.0 a.0 (sym b.1 ∙ a.1) in
    drop_front a.0 hs (first ++ w.wrote) (sym a.2 ∙ w.is ∙ ap (λ (l : Log). l ++ w.wrote) b.2 ∙ append_assoc b.0 first w.wrote ∙ ap (λ (l : Log). l ++ (first ++ w.wrote)) same)

-- the note of the chunk, and then what the write adds
pub record HasReadBack (between new : Option Log) (now hs : Log) : Type 0 where
  pub key : Bytes
  pub tag : Bytes
  pub total : ℕ
  pub index : ℕ
  pub wrote : WroteThen between new now
  pub is : hs ≡ Noted (Loaded key tag total index) ∷ wrote.wrote

module _ (terms : List Term) (before : Log) (number : ℕ → ℕ) (id i : ℕ) (x y : Turning) (seat : Seat) (next : Next) (s : State) (told_before : x.log ≡ Some before) (obeys : Obeys terms s before) (stands : StandsAtEvent number Handling (WriteTo id) x.moving s) (may : MayLoad id i x y seat next s) (says : SaysAt i x y)
    (mid_bounded : IsBounded says.says.loaded.state.cache) (owed : StandsOwed x.shelf x.moving s) (few : HasFew y.moving) (it : HasLed number x y s) where
  abbrev old : Desk
  old = x.moving.desk

  abbrev read : Desk
  read = says.says.loaded

  abbrev p : Turn
  p = says.roused.state

  abbrev q : Turn
  q = read.state

  abbrev between : Option Log
  between = says.says.between

  was : record says.roused { state = record p { awake = old.state.awake } } ≡ old
  was = says.rouses.rest

  -- ---- where it is roused

  turn_roused : ShowsTurn number none_leaves old.peers p s
  turn_roused =
      let same : ShowsTurn number none_leaves old.peers (record p { awake = old.state.awake }) s = subst (λ (d : Desk). ShowsTurn number none_leaves old.peers d.state s) (sym was) stands.desk.turn in
      record { steps = same.steps; name = same.name; shares = same.shares; clock = same.clock; ticked = same.ticked; stopped = same.stopped; bounded = same.bounded }

  to : IsToLoad id i p seat next
  to =
      let same : IsToLoad id i (record p { awake = old.state.awake }) seat next = subst (λ (d : Desk). IsToLoad id i d.state seat next) (sym was) may.to in
      record { place = same.place; here = same.here; going = same.going; follows = same.follows; alone = same.alone; near = same.near; room = same.room }

  event : StandsInEvent number (WriteTo id) old.peers p x.shelf s
  event = record { none = stands.law.none; at = stands.law.at; owes = stands.law.owes; turn = turn_roused; disk = may.disk }

  abbrev wrote : WroteThen between y.log may.log
  wrote = wrote_then (slice_get read.state.seats.items i) i x.moving.links (sides read) says.says.says.0 between y.log may.log may.told says.says.says.1

  on : IsOnLog x.shelf x.log between s
  on = record {
    log = wrote.log;
    told = wrote.told;
    holds = may.holds;
    disk = record { at = λ l is. disks terms s before obeys ∙ ap disk_of (some_is before l (sym told_before ∙ is)) };
  }

  -- ---- the chunk

  w : IsSeen number id p s seat next
  w = is_seen number id i (WriteTo id) old.peers p x.shelf s seat next event to

  abbrev k : Known
  k = w.known_next.source

  abbrev index : ℕ
  index = next.at / 4096

  r : IsReadOf x.shelf s k next.at
  r = is_read_of x.shelf s may.disk (number next.source.life) k next.at w.known w.its_id w.below w.missing

  one : IsFound number p.cache s next.source
  one = instances_of number p.cache s event.turn.steps.shows.table.table next.source w.there

  shown : ShowsInstance number p.cache s one.seen k
  shown = subst (λ (z : Known). ShowsInstance number p.cache s one.seen z) (some_is one.known k (sym one.there ∙ w.known)) one.shows

  its_next : option_and_then (next_on_disk p) (slice_get p.seats.items i) ≡ Some next
  its_next = ap (λ (o : Option Seat). option_and_then (next_on_disk p) o) to.here ∙ to.alone

  its_instance : instance_of next.source p.cache.instances ≡ Some one.seen
  its_instance = ap (λ (b : Bool). cond b (in_slot next.source.slot p.cache.instances) None) w.there ∙ one.here

  its_chunk : chunk_at next.at ≡ Some index
  its_chunk = ap (λ (b : Bool). cond b (Some index) None) (near_chunk next.at to.near)

  chunk : LoadsChunk next.source index k.key k.version x.shelf p y.shelf q x.log between x.faults says.says.count
  chunk =
      subst (λ (v : Version). LoadsChunk next.source index k.key v x.shelf p y.shelf q x.log between x.faults says.says.count) shown.version
      (subst (λ (name : Bytes). LoadsChunk next.source index name one.seen.version x.shelf p y.shelf q x.log between x.faults says.says.count) shown.key
      (subst (λ (o : Option ℕ). LoadsOf next.source (Some one.seen) o x.shelf p y.shelf q x.log between x.faults says.says.count) its_chunk
      (subst (λ (o : Option Instance). LoadsOf next.source o (chunk_at next.at) x.shelf p y.shelf q x.log between x.faults says.says.count) its_instance
      (subst (λ (o : Option Next). LoadsWhere o x.shelf p y.shelf q x.log between x.faults says.says.count) its_next says.says.loads))))

  none_at_hand : offered seat.client.reply (with_none_kept next.source p).cache ≡ []
  none_at_hand =
      nothing_offered number p.name.items seat w.client (with_none_kept next.source p).cache next (w.shows.going w.going)
      (ap (λ (b : Bool). elim b as (λ t. Option Next) [ true ↦ None | false ↦ next_by (answer_in seat.stage) seat.client.reply ]) (sym to.going) ∙ w.alone.its)
      (first_holds (is_empty w.client.interim_left) _ w.body) (second_holds (is_empty w.client.interim_left) _ w.body)
      (ap (λ (b : Bool). b && is_in_memory next.source.slot next.at p.cache.chunks) (sym w.there) ∙ w.alone.absent)

  -- ---- the desk behind the read

  loaded : IsLoadedOf p q
  loaded = loaded_says i x y says

  same_desk : record read { state = record q { cache = old.state.cache; is_evicting = old.state.is_evicting; awake = old.state.awake } } ≡ old
  same_desk =
      ap (λ (d : Desk). record read { state = record q { cache = d.state.cache; is_evicting = d.state.is_evicting; awake = old.state.awake } }) (sym was)
      ∙ ap (λ (t : Turn). record read { state = record t { awake = old.state.awake } }) loaded.rest
      ∙ ap (λ (d : Desk). record d { state = record p { awake = old.state.awake } }) says.says.stays
      ∙ was

  stays_read : Stays (parts old.state) (parts q)
  stays_read = stays_then (parts old.state) (parts p) (parts q) (roused_stays i old says.roused says.rouses) loaded.stays

  here_read : slice_get q.seats.items i ≡ Some seat
  here_read = ap (λ (d : Desk). slice_get d.state.seats.items i) same_desk ∙ may.to.here

  abbrev mid : Moving
  mid = record { desk = read; links = x.moving.links; top = x.moving.top }

  -- ---- it was read

  module _ (count : ℕ) (told : AppendsAll x.log between (λ l. loaded_note k.key k.version index)) (gives : Told x.log (GivesChunk (row_of k.key x.shelf) index chunk.out (Ok count))) (cause : count ≡ chunk_len (row_of k.key x.shelf).entry.version.length index) (map_is : y.shelf ≡ x.shelf)
      (takes : IsButForCells (with_use (record p { cache = with_bytes next.source (index * 4096) (take count chunk.out) p.cache })) q) where
    abbrev t : State
    t = load k.key index s

    abbrev note : Happening
    note = Noted (Loaded k.key k.version.tag k.version.length index)

    read_leads_there : Leads (note ∷ []) s t
    read_leads_there = read_leads number id old.peers p x.shelf seat next s event w r

    law : IsLoaded s t
    law = read_rest number id old.peers p x.shelf seat next s event w r

    log_told : (l : Log) × (x.log ≡ Some l) × (on.log ≡ l ++ (note ∷ []))
    log_told = told.was on.log on.told

    behind : StandsInEvent number (WriteTo id) old.peers q x.shelf t
    behind =
        stands_behind number id old.peers p x.shelf seat next s event w r q log_told.0 chunk.out count (on.holds.at log_told.0 log_told.1) (on.disk.at log_told.0 log_told.1) (gives.at log_told.0 log_told.1) cause to.room takes to.follows mid_bounded

    -- the mark is reached on both sides, or on none
    t_is : t ≡ with_chunk k index (chunk_in_file s r.entry index) s
    t_is = load_is s k r.entry index r.stands_for r.kept_in_law

    law_mark : t.is_evicting ≡ (s.is_evicting || nat_le (trigger s) (length t.chunks))
    unfolding note_use
    law_mark = ap (λ (u : State). u.is_evicting) t_is ∙ ap (λ (cs : List Front). s.is_evicting || nat_le (trigger s) (length cs)) (sym (ap (λ (u : State). u.chunks) t_is))

    turn_mark : q.is_evicting ≡ (p.is_evicting || nat_le p.trigger (length q.cache.chunks))
    turn_mark = ap (λ (u : Turn). u.is_evicting) takes.rest ∙ ap (λ (m : Memory). p.is_evicting || nat_le p.trigger (length m.chunks)) (sym takes.cache.rest)

    table : ShowsTable number q.cache t
    table = behind.turn.steps.shows.table.table

    as_many : length q.cache.chunks ≡ length t.chunks
    as_many = lengths_same (ShowsChunk number q.cache) q.cache.chunks t.chunks table.chunks

    p_trigger : p.trigger ≡ trigger s
    p_trigger = ap (λ (d : Desk). d.state.trigger) was ∙ owed.carried.set.force.trigger

    p_evicting : p.is_evicting ≡ s.is_evicting
    p_evicting = ap (λ (d : Desk). d.state.is_evicting) was ∙ owed.evicting

    same_mark : q.is_evicting ≡ t.is_evicting
    same_mark =
        turn_mark ∙ ap (λ (b : Bool). b || nat_le p.trigger (length q.cache.chunks)) p_evicting ∙ ap₂ (λ (m n : ℕ). s.is_evicting || nat_le m n) p_trigger as_many ∙ sym law_mark

    -- ---- what is carried stands there

    same_law : IsSameDisk s t
    same_law = record {
      idle = ap (λ (u : State). u.under_way) law;
      agenda = ap (λ (u : State). u.agenda) law;
      entries = ap (λ (u : State). u.entries) law;
      closed = ap (λ (u : State). u.closed_names) law;
      displaced = ap (λ (u : State). u.displaced) law;
      lost = ap (λ (u : State). u.has_lost_draft) law;
    }

    same_peers : read.peers ≡ old.peers
    same_peers = ap (λ (d : Desk). d.peers) same_desk

    same_seats : q.seats.items ≡ old.state.seats.items
    same_seats = ap (λ (d : Desk). d.state.seats.items) same_desk

    room_read : vec_capacity old.state.awake ≤ vec_capacity q.awake
    room_read = subst (λ (n : ℕ). vec_capacity old.state.awake ≤ n) (sym (ap (λ (u : Turn). vec_capacity u.awake) loaded.rest)) says.rouses.room

    linked_mid : StandsLinked mid t
    linked_mid = record {
      clients = subst (λ (ss : List Seat). AreOpen (numbers_of ss) x.moving.links) (sym same_seats) owed.carried.links.clients;
      origins = subst (λ (ps : List Peer). AreLinked (peer_numbers ps) x.moving.links) (sym same_peers) owed.carried.links.origins;
      given = owed.carried.links.given;
      few = subst (λ (ps : List Peer). length x.moving.links ≤ 256 + length ps) (sym same_peers) owed.carried.links.few;
      top = subst (λ (n : ℕ). n ≤ x.moving.top) (sym (ap (λ (u : State). u.top) law)) owed.carried.links.top;
    }

    can_mid : Can q.flow
    can_mid = stays_read.can (owed.carried.waiting, owed.carried.placed)

    carried_mid : IsCarried x.shelf mid t
    carried_mid = record {
      disk = disk_as x.shelf old.state q s t same_law stays_read.same (ap (λ (d : Desk). d.state.has_lost_draft) same_desk) owed.carried.disk;
      set = set_from old read s t
          (record {
            name = ap (λ (d : Desk). d.state.name.items) same_desk;
            trigger = ap (λ (d : Desk). d.state.trigger) same_desk;
            floor = ap (λ (d : Desk). d.state.floor) same_desk;
            shares = ap (λ (d : Desk). d.state.shares_fetches) same_desk;
            limits = ap (λ (d : Desk). d.state.limits) same_desk;
            run = ap (λ (d : Desk). d.state.run) same_desk;
            file = ap (λ (d : Desk). length d.file.items) same_desk;
            ticked = ap (λ (d : Desk). d.state.has_ticked) same_desk;
          })
          (le_trans owed.carried.set.room room_read) (ap (λ (u : State). u.settings) law) (ap (λ (u : State). u.has_ticked) law) owed.carried.set;
      links = linked_mid;
      waiting = can_mid.0;
      placed = can_mid.1;
      away = ap (λ (d : Desk). d.turned_away) same_desk ∙ owed.carried.away;
    }

    -- ---- and the write leads on from there

    log_is : it.log ≡ note ∷ wrote.wrote
    log_is = added_then x.log between y.log may.log it.log (note ∷ []) may.told it.handled.told told wrote

    its_leads : Leads (note ∷ wrote.wrote) s it.then
    its_leads = subst (λ (hs : Log). Leads hs s it.then) log_is it.handled.leads

    leads_on : Leads wrote.wrote t it.then
    leads_on = subst (λ (u : State). Leads wrote.wrote u it.then) read_leads_there.holds its_leads.holds

    obeys_on : Obeys terms t (before ++ note ∷ [])
    obeys_on = subst (λ (u : State). Obeys terms u (before ++ note ∷ [])) read_leads_there.holds (obeys_more note obeys (read_leads_there.may (λ fails. absurd (cc fails))))

    from : StandsFrom terms (before ++ note ∷ []) number x.shelf mid t
    from = record {
      obeys = obeys_on;
      turns = ap (λ (f : Phase). takes_turns (record t { phase = f })) behind.at;
      table = table;
      carried = carried_mid;
      forgotten = ap (λ (d : Desk). d.state.forgotten) same_desk ∙ owed.forgotten ∙ sym (ap (λ (u : State). u.forgotten) law);
      evicting = same_mark;
    }

    says_behind : IsBehind read y.moving.desk
    says_behind = record { set = ap set_of says.says.rest; room = subst (λ (n : ℕ). vec_capacity q.awake ≤ n) (sym (ap (λ (d : Desk). vec_capacity d.state.awake) says.says.rest)) (omega arith) }

    says_stay : Stays (parts q) (parts y.moving.desk.state)
    says_stay = stays_said i q.awake.items x.moving.links (sides read) (sides y.moving.desk) between y.log says.says.says

    lost_so : y.moving.desk.state.has_lost_draft ≡ it.then.has_lost_draft
    lost_so = ap (λ (d : Desk). d.state.has_lost_draft) says.says.rest ∙ carried_mid.disk.lost ∙ sym (not_ticked terms wrote.wrote (before ++ note ∷ []) t it.then wrote.silent.none wrote.silent.still obeys_on leads_on).lost

    was_read : CarriesOn y.shelf y.moving it.handled.handled.handled
    was_read =
        subst (λ (m : KeptMap). CarriesOn m y.moving it.handled.handled.handled) (sym map_is)
        (leaves_behind x.shelf y.moving it.handled.handled.handled
        (still_on terms (before ++ note ∷ []) number number x.shelf mid y.moving t it.then wrote.wrote from wrote.silent.none leads_on (handled_to number y.moving it.then it.handled.handled) few says_behind lost_so says_stay))

  -- ---- by what the read gave

  never_lost : AppendsAll x.log between (λ l. Unread (name_of k.key) ∷ Noted (Gone k.key) ∷ []) → q ≡ with_none_kept next.source p → ⊥
  never_lost told takes =
      let none : wrote.wrote ≡ [] =
      none_wrote (slice_get read.state.seats.items i) seat i x.moving.links (sides read) says.says.says.0 between y.log may.log may.told says.says.says.1 here_read
      (ap (λ (u : Turn). offered seat.client.reply u.cache) takes ∙ none_at_hand) in
      let log_is : it.log ≡ Unread (name_of k.key) ∷ Noted (Gone k.key) ∷ [] =
      added_then x.log between y.log may.log it.log (Unread (name_of k.key) ∷ Noted (Gone k.key) ∷ []) may.told it.handled.told told wrote
      ∙ ap (λ (hs : Log). Unread (name_of k.key) ∷ Noted (Gone k.key) ∷ hs) none in
      never_gone number y.moving (name_of k.key) k.key s it.then (subst (λ (hs : Log). Leads hs s it.then) log_is it.handled.leads) it.handled.handled

  by : (a : Answer) → is_some a ≡ keeps_byte (4096 * index) (kept_of k.key x.shelf) → IfSome a (λ g. Told x.log (GivesChunk (row_of k.key x.shelf) index chunk.out g)) → AppendsAll x.log between (λ l. load_log a k.key k.version index)
      → IfSome a (LoadCause between x.faults says.says.count (chunk_len (row_of k.key x.shelf).entry.version.length index)) → y.shelf ≡ shelf_after a k.key x.shelf → TakesChunk a chunk.out index next.source p q → CarriesOn y.shelf y.moving it.handled.handled.handled
  by None answered gives told cause map_is takes = absurd (let both : false ≡ true = answered ∙ ap (λ (o : Option Kept). keeps_byte (4096 * index) o) r.there ∙ r.keeps in cc both)
  by (Some (Ok count)) answered gives told cause map_is takes = was_read count told gives cause map_is takes
  by (Some (Err DiskFault)) answered gives told cause map_is takes = absurd (never_lost told takes)
  by (Some (Err (Short wanted got))) answered gives told cause map_is takes = absurd (cause.2.at on.log on.told)

  -- ---- what came to the log

  pub read_back : HasReadBack between y.log may.log it.log
  read_back = by_log chunk.answer chunk.answered chunk.told chunk.cause chunk.is
    where
      by_log : (a : Answer) → is_some a ≡ keeps_byte (4096 * index) (kept_of k.key x.shelf) → AppendsAll x.log between (λ l. load_log a k.key k.version index) → IfSome a (LoadCause between x.faults says.says.count (chunk_len (row_of k.key x.shelf).entry.version.length index)) → TakesChunk a chunk.out index next.source p q
          → HasReadBack between y.log may.log it.log
      by_log None answered told cause takes = absurd (let both : false ≡ true = answered ∙ ap (λ (o : Option Kept). keeps_byte (4096 * index) o) r.there ∙ r.keeps in cc both)
      by_log (Some (Ok count)) answered told cause takes = record {
        key = k.key;
        tag = k.version.tag;
        total = k.version.length;
        index = index;
        wrote = wrote;
        is = added_then x.log between y.log may.log it.log (loaded_note k.key k.version index) may.told it.handled.told told wrote;
      }
      by_log (Some (Err DiskFault)) answered told cause takes = absurd (never_lost told takes)
      by_log (Some (Err (Short wanted got))) answered told cause takes = absurd (cause.2.at on.log on.told)

  loads_so : CarriesOn y.shelf y.moving it.handled.handled.handled
  loads_so = by chunk.answer chunk.answered chunk.bytes chunk.told chunk.cause chunk.map chunk.is

pub loads_carry : LoadsCarry
loads_carry terms before number id i x y seat next s told_before obeys stands may says mid_bounded owed few it = loads_so terms before number id i x y seat next s told_before obeys stands may says mid_bounded owed few it
