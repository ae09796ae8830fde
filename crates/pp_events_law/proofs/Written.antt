-- A client is written to whose next byte is on the disk alone: behind the read of its chunk it is a write with nothing to be read before.
use Rattle.std.proofs.Common.{◌≡◌, ◌⊎◌, ◌≤◌, inl, inr, refl, sym, subst, ap, ◌∙◌, ℕ, List, [], ◌∷◌, ◌++◌, Option, Some, None, append_assoc, arith}
use Rattle.std.specs.Option.{option_and_then}
use Rattle.std.specs.Prelude.{slice_get, vec_capacity}
use Rattle.pp_cache.specs.Bounds.{IsBounded}
use Rattle.pp_cache_law.proofs.Numbers.{some_is}
use Rattle.pp_events_law.specs.Hears.{AreSettled}
use Rattle.pp_target.specs.Name.{name_of}
use Rattle.pp_desk.specs.Closings.{peer_numbers, sides}
use Rattle.pp_desk.specs.declared.desk.Desk.{Desk}
use Rattle.pp_due.specs.OnDisk.{next_on_disk}
use Rattle.pp_events_law.proofs.Standing.{awake_as, may_as, open_as}
use Rattle.pp_events_law.proofs.Sayings.{sayings_lead}
use Rattle.pp_events_law.specs.Ready.{HasLedReady, KeysAreGiven, StaysReady}
use Rattle.pp_events_law.specs.Says.{MaySay}
use Rattle.pp_events_law.specs.Stands.{AreReadyAt, IsAt, StandsAtEvent}
use Rattle.pp_flow_law.specs.Tables.{none_leaves}
use Rattle.pp_law.specs.After.{after}
use Rattle.pp_law.specs.State.{State, Owed, Term, Handling, Free, WriteTo}
use Rattle.pp_law.specs.Store.{load}
use Rattle.pp_laws_turn.proofs.Laws.{sound_turns}
use Rattle.pp_laws_turn.specs.SoundTurn.{IsSoundTurn}
use Rattle.pp_links.specs.Links.{AreOpen, IsLinked, Link}
use Rattle.pp_obeys.proofs.Moving.{lead_joined}
use Rattle.pp_obeys.proofs.Obeying.{obeys_more}
use Rattle.pp_obeys.specs.Obeys.{Obeys}
use Rattle.pp_peers.specs.declared.peers.Peer.{Peer}
use Rattle.pp_proxy.specs.Handling.{Rouses, SaysAt}
use Rattle.pp_proxy.specs.Moving.{Turning}
use Rattle.pp_seats.specs.declared.seat.Next.{Next}
use Rattle.pp_seats.specs.declared.seat.Seat.{Seat}
use Rattle.pp_shelf_law.proofs.Disks.{disks}
use Rattle.pp_shelf_law.specs.Folder.{disk_of}
use Rattle.pp_state.specs.Ends.{numbers_of, place_of}
use Rattle.pp_state.specs.declared.state.State.{State as Turn}
use Rattle.pp_talk.specs.Loading.{LoadsWhere}
use Rattle.pp_talk.specs.Talking.{IsWrittenAt}
use Rattle.pp_turns_law.specs.Rows.{AreReady}
use Rattle.pp_turns_law.specs.Turns.{ShowsTurn}
use Rattle.pp_world.proofs.CallLemmas.{told_after}
use Rattle.pp_world.proofs.LogLemmas.{side_of-push}
use Rattle.pp_world.specs.Log.{AppendsAll, Log}
use Rattle.pp_world.specs.declared.happening.Happening.{Happening}
use Rattle.pp_world.specs.declared.happening.Happening.TheVariants.{Noted, Unread}
use Rattle.pp_world.specs.declared.note.Remark.{Remark}
use Rattle.pp_world.specs.declared.note.Remark.TheVariants.{Gone, Loaded}
use Rattle.pp_events_law.proofs.Back.{chunks_are_read_back}
use Rattle.pp_events_law.proofs.Unwritten.{handled_so, ready_so, mid as unread_turn, mid_desk as unread_desk, told_none}
use Rattle.pp_events_law.specs.Losses.{HasLost, without_entry}
use Rattle.pp_events_law.specs.ReadsBack.{HasRead, loaded_note}
use Rattle.pp_events_law.specs.ToLoad.{IsOnLog, IsToLoad, StandsInEvent}
use Rattle.pp_events_law.specs.Loads.{HasLostChunk, LoadsLead, MayLoad}

-- ---- the log

told_then : {old mid new : Option Log} (one two : Log) → AppendsAll old mid (λ l. one) → AppendsAll mid new (λ l. two) → AppendsAll old new (λ l. one ++ two)
told_then one two first then = record {
  was = λ l is.
      let b = then.was l is in
      let a = first.was b.0 b.1 in
      (a.0, a.1, b.2 ∙ ap (λ (k : Log). k ++ two) a.2 ∙ append_assoc a.0 one two);
}

-- a note opens and closes nothing
noted_linked : {old new : Option Log} (top : ℕ) (links : List Link) (remark : Remark) → IsLinked old top links → AppendsAll old new (λ l. Noted remark ∷ []) → IsLinked new top links
noted_linked top links remark linked told = record {
  given = linked.given;
  apart = linked.apart;
  opened = told_after (λ l. Noted remark ∷ []) (AreOpen links) (AreOpen links) linked.opened told (λ l are k d within. side_of-push _ l (Noted remark) ∙ are k d within);
}

-- who is looked at, and who sits where, are as they were
record IsSameTurn (p q : Turn) : Type 0 where
  seats : q.seats.items ≡ p.seats.items
  awake : q.awake.items ≡ p.awake.items
  room : vec_capacity q.awake ≡ vec_capacity p.awake
  ticked : q.is_ticked ≡ p.is_ticked
  has_ticked : q.has_ticked ≡ p.has_ticked

-- and so are clients, exchanges and connections
record IsSameLaw (s t : State) : Type 0 where
  clients : t.clients ≡ s.clients
  exchanges : t.exchanges ≡ s.exchanges
  conns : t.conns ≡ s.conns
  has_ticked : t.has_ticked ≡ s.has_ticked
  top : t.top ≡ s.top

module _ (terms : List Term) (before : Log) (number : ℕ → ℕ) (id i : ℕ) (x y : Turning) (seat : Seat) (next : Next) (s : State) (told_before : x.log ≡ Some before) (obeys : Obeys terms s before) (stands : StandsAtEvent number Handling (WriteTo id) x.moving s) (ready : AreReadyAt number x.moving s) (may : MayLoad id i x y seat next s) (says : SaysAt i x y)
    (mid_bounded : IsBounded says.says.loaded.state.cache) (bounded : IsBounded y.moving.desk.state.cache) where
  abbrev old : Desk
  old = x.moving.desk

  abbrev roused : Desk
  roused = says.roused

  abbrev read : Desk
  read = says.says.loaded

  abbrev p : Turn
  p = roused.state

  abbrev q : Turn
  q = read.state

  abbrev between : Option Log
  between = says.says.between

  was : record roused { state = record roused.state { awake = old.state.awake } } ≡ old
  was = says.rouses.rest

  -- ---- where it is roused

  turn_roused : ShowsTurn number none_leaves old.peers p s
  turn_roused =
      let same : ShowsTurn number none_leaves old.peers (record p { awake = old.state.awake }) s = subst (λ (d : Desk). ShowsTurn number none_leaves old.peers d.state s) (sym was) stands.desk.turn in
      record { steps = same.steps; name = same.name; shares = same.shares; clock = same.clock; ticked = same.ticked; stopped = same.stopped; bounded = same.bounded }

  to_roused : IsToLoad id i p seat next
  to_roused =
      let same : IsToLoad id i (record p { awake = old.state.awake }) seat next = subst (λ (d : Desk). IsToLoad id i d.state seat next) (sym was) may.to in
      record { place = same.place; here = same.here; going = same.going; follows = same.follows; alone = same.alone; near = same.near; room = same.room }

  event : StandsInEvent number (WriteTo id) old.peers p x.shelf s
  event = record { none = stands.law.none; at = stands.law.at; owes = stands.law.owes; turn = turn_roused; disk = may.disk }

  between_told : (k : Log) × (between ≡ Some k)
  between_told = by (slice_get (sides read).parts.seats i) says.says.says.1
    where
      by : (o : Option Seat) → IsWrittenAt o i x.moving.links (sides read) says.says.says.0 between y.log → (k : Log) × (between ≡ Some k)
      by None same = (may.log, sym same.1 ∙ may.told)
      by (Some other) wrote = let w = wrote.told.was may.log may.told in (w.0, w.1)

  on_log : IsOnLog x.shelf x.log between s
  on_log = record {
    log = between_told.0;
    told = between_told.1;
    holds = may.holds;
    disk = record { at = λ l is. disks terms s before obeys ∙ ap disk_of (some_is before l (sym told_before ∙ is)) };
  }

  result : HasRead number id old.peers p q x.shelf y.shelf seat x.log between s ⊎ HasLost number old.peers p q x.shelf y.shelf seat x.log between s
  result = chunks_are_read_back number id i old.peers p q x.shelf y.shelf seat next x.log between x.faults says.says.count s event to_roused on_log may.first mid_bounded says.says.loads

  -- ---- behind the read, where nobody is roused yet

  abbrev mid_desk : Desk
  mid_desk = unread_desk x read

  abbrev mid : Turning
  mid = unread_turn x read y.shelf between says.says.count

  same_peers : read.peers ≡ old.peers
  same_peers = ap (λ (d : Desk). d.peers) says.says.stays ∙ ap (λ (d : Desk). d.peers) was

  module _ (owed : Owed) (t : State) (same : IsSameTurn p q) (law : IsSameLaw s t) (at : IsAt Handling owed t) (turn : ShowsTurn number none_leaves old.peers q t) where
    seats_mid : q.seats.items ≡ old.state.seats.items
    seats_mid = same.seats ∙ ap (λ (d : Desk). d.state.seats.items) was

    ticked_mid : q.is_ticked ≡ old.state.is_ticked
    ticked_mid = same.ticked ∙ ap (λ (d : Desk). d.state.is_ticked) was

    stands_mid : StandsAtEvent number Handling owed mid.moving t
    stands_mid = record {
      law = at;
      desk = record {
        turn = subst (λ (ps : List Peer). ShowsTurn number none_leaves ps mid_desk.state t) (sym same_peers)
            (record { steps = turn.steps; name = turn.name; shares = turn.shares; clock = turn.clock; ticked = turn.ticked; stopped = turn.stopped; bounded = turn.bounded });
        may = may_as s t law.clients law.exchanges law.conns stands.desk.may;
      };
      ticked = same.has_ticked ∙ ap (λ (d : Desk). d.state.has_ticked) was ∙ stands.ticked ∙ sym law.has_ticked;
      awake = awake_as old.state mid_desk.state seats_mid refl ticked_mid stands.awake;
      opened = open_as x.moving mid.moving s.top t.top (ap numbers_of seats_mid) (ap peer_numbers same_peers) refl refl law.top stands.opened;
    }

    here_mid : slice_get q.seats.items i ≡ Some seat
    here_mid = ap (λ (ss : List Seat). slice_get ss i) seats_mid ∙ may.to.here

    rouses_mid : Rouses i mid_desk read
    rouses_mid = record {
      awake = λ order few. same.awake ∙ says.rouses.awake order few;
      room = subst (λ (k : ℕ). vec_capacity old.state.awake ≤ k) (sym same.room) says.rouses.room;
      rest = refl;
    }

    stays_mid : next_on_disk q seat ≡ None → LoadsWhere (option_and_then (next_on_disk q) (slice_get q.seats.items i)) y.shelf q y.shelf q between between says.says.count says.says.count
    stays_mid held =
        subst (λ (o : Option Next). LoadsWhere o y.shelf q y.shelf q between between says.says.count says.says.count) (sym (ap (λ (o : Option Seat). option_and_then (next_on_disk q) o) here_mid ∙ held))
        (refl, refl, refl, (let le : says.says.count ≤ says.says.count = omega arith in le))

    says_mid : next_on_disk q seat ≡ None → SaysAt i mid y
    says_mid held = record {
      roused = read;
      rouses = rouses_mid;
      says = record {
        loaded = read;
        between = between;
        count = says.says.count;
        loads = stays_mid held;
        stays = refl;
        says = says.says.says;
        rest = says.says.rest;
        counted = says.says.counted;
        bounded = says.says.bounded;
      };
      numbers = says.numbers ∙ sym (ap numbers_of seats_mid);
      links = says.links;
      top = says.top;
    }

  ready_roused : AreReady number p.cache s.next_instance p.seats.items
  ready_roused = subst (λ (d : Desk). AreReady number d.state.cache s.next_instance d.state.seats.items) (sym was) ready

  keys_on : q.seats.items ≡ old.state.seats.items → KeysAreGiven old.state.seats.items y.moving.desk.state.seats.items → KeysAreGiven q.seats.items y.moving.desk.state.seats.items
  keys_on same given = subst (λ (ss : List Seat). KeysAreGiven ss y.moving.desk.state.seats.items) (sym same) given

  -- ---- it was read

  module _ (r : HasRead number id old.peers p q x.shelf y.shelf seat x.log between s) where
    abbrev t : State
    t = load r.key r.index s

    same_read : IsSameTurn p q
    same_read = record { seats = ap (λ (u : Turn). u.seats.items) r.rest; awake = ap (λ (u : Turn). u.awake.items) r.rest; room = ap (λ (u : Turn). vec_capacity u.awake) r.rest; ticked = ap (λ (u : Turn). u.is_ticked) r.rest; has_ticked = ap (λ (u : Turn). u.has_ticked) r.rest }

    law_read : IsSameLaw s t
    law_read = record { clients = ap (λ (u : State). u.clients) r.law; exchanges = ap (λ (u : State). u.exchanges) r.law; conns = ap (λ (u : State). u.conns) r.law; has_ticked = ap (λ (u : State). u.has_ticked) r.law; top = ap (λ (u : State). u.top) r.law }

    at_read : IsAt Handling (WriteTo id) t
    at_read = record { at = r.stands.at; owes = r.stands.owes; none = r.stands.none }

    stands_read : StandsAtEvent number Handling (WriteTo id) mid.moving t
    stands_read = stands_mid (WriteTo id) t same_read law_read at_read r.stands.turn

    ready_read : AreReadyAt number mid.moving t
    ready_read = r.ready ready_roused

    seats_read : q.seats.items ≡ old.state.seats.items
    seats_read = seats_mid (WriteTo id) t same_read law_read at_read r.stands.turn

    abbrev note : Happening
    note = Noted (Loaded r.key r.version.tag r.version.length r.index)

    sound_read : IsSoundTurn t
    sound_read = subst IsSoundTurn r.leads.holds (sound_turns terms (after s note) (before ++ note ∷ []) (obeys_more note obeys (r.leads.may (λ fails. absurd (cc fails)))))

    may_say : MaySay id i mid seat
    may_say = record {
      place = subst (λ (ns : List ℕ). place_of id ns ≡ Some i) (sym (ap numbers_of seats_read)) may.to.place;
      here = here_mid (WriteTo id) t same_read law_read at_read r.stands.turn;
      going = may.to.going;
      held = r.held;
      some = r.some;
      within = may.within;
      looks = may.looks;
      still = ticked_mid (WriteTo id) t same_read law_read at_read r.stands.turn ∙ may.still;
      linked = noted_linked x.moving.top x.moving.links (Loaded r.key r.version.tag r.version.length r.index) may.linked r.told;
      settled = λ j other at. may.settled j other (ap (λ (ss : List Seat). slice_get ss j) (sym seats_read) ∙ at);
      goes = may.goes;
    }

    said : HasLedReady number mid y t
    said = sayings_lead number id i mid y seat t stands_read ready_read sound_read may_say bounded (says_mid (WriteTo id) t same_read law_read at_read r.stands.turn r.held)

    was_read : HasLedReady number x y s
    was_read = record {
      led = record {
        log = loaded_note r.key r.version r.index ++ said.led.log;
        then = said.led.then;
        handled = record {
          told = told_then (loaded_note r.key r.version r.index) said.led.log r.told said.led.handled.told;
          leads = lead_joined (loaded_note r.key r.version r.index) said.led.log s t said.led.then r.leads said.led.handled.leads;
          handled = said.led.handled.handled;
        };
      };
      ready = λ given. said.ready (keys_on seats_read given);
    }

  -- ---- it could not be read

  module _ (r : HasLost number old.peers p q x.shelf y.shelf seat x.log between s) where
    abbrev u : State
    u = without_entry r.key s

    same_lost : IsSameTurn p q
    same_lost = record { seats = ap (λ (v : Turn). v.seats.items) r.rest; awake = ap (λ (v : Turn). v.awake.items) r.rest; room = ap (λ (v : Turn). vec_capacity v.awake) r.rest; ticked = ap (λ (v : Turn). v.is_ticked) r.rest; has_ticked = ap (λ (v : Turn). v.has_ticked) r.rest }

    law_lost : IsSameLaw s u
    law_lost = record { clients = ap (λ (v : State). v.clients) r.law; exchanges = ap (λ (v : State). v.exchanges) r.law; conns = ap (λ (v : State). v.conns) r.law; has_ticked = ap (λ (v : State). v.has_ticked) r.law; top = ap (λ (v : State). v.top) r.law }

    at_lost : IsAt Handling Free u
    at_lost = record { at = r.stands.at; owes = r.stands.owes; none = r.stands.none }

    stands_lost : StandsAtEvent number Handling Free mid.moving u
    stands_lost = stands_mid Free u same_lost law_lost at_lost r.stands.turn

    settled_lost : AreSettled q.seats.items
    settled_lost j other at = may.settled j other (ap (λ (ss : List Seat). slice_get ss j) (sym (seats_mid Free u same_lost law_lost at_lost r.stands.turn)) ∙ at)

    numbers_lost : numbers_of y.moving.desk.state.seats.items ≡ numbers_of q.seats.items
    numbers_lost = says.numbers ∙ sym (ap numbers_of (seats_mid Free u same_lost law_lost at_lost r.stands.turn))

    ready_lost : StaysReady number mid y u
    ready_lost =
        ready_so number i x y read y.shelf between says.says.count seat s u stands_lost (r.ready ready_roused) (here_mid Free u same_lost law_lost at_lost r.stands.turn) (ticked_mid Free u same_lost law_lost at_lost r.stands.turn ∙ may.still) settled_lost
        (rouses_mid Free u same_lost law_lost at_lost r.stands.turn) may.looks (sound_turns terms s before obeys) law_lost.exchanges r.none r.anew says.says.says says.says.rest numbers_lost says.links says.top bounded

    was_lost : HasLostChunk number x y s
    was_lost = record {
      key = r.key;
      told = told_then (Unread (name_of r.key) ∷ Noted (Gone r.key) ∷ []) [] r.told
          (told_none number i x y read y.shelf between says.says.count seat s u stands_lost (r.ready ready_roused) (here_mid Free u same_lost law_lost at_lost r.stands.turn) (ticked_mid Free u same_lost law_lost at_lost r.stands.turn ∙ may.still) settled_lost
          (rouses_mid Free u same_lost law_lost at_lost r.stands.turn) may.looks (sound_turns terms s before obeys) law_lost.exchanges r.none r.anew says.says.says says.says.rest numbers_lost says.links says.top bounded);
      leads = r.leads;
      map = r.map;
      disk = r.stands.disk;
      handled =
          handled_so number i x y read y.shelf between says.says.count seat s u stands_lost (r.ready ready_roused) (here_mid Free u same_lost law_lost at_lost r.stands.turn) (ticked_mid Free u same_lost law_lost at_lost r.stands.turn ∙ may.still) settled_lost
          (rouses_mid Free u same_lost law_lost at_lost r.stands.turn) may.looks (sound_turns terms s before obeys) law_lost.exchanges r.none r.anew says.says.says says.says.rest numbers_lost says.links says.top bounded;
      ready = λ given. ready_lost (keys_on (seats_mid Free u same_lost law_lost at_lost r.stands.turn) given);
    }

  all : HasRead number id old.peers p q x.shelf y.shelf seat x.log between s ⊎ HasLost number old.peers p q x.shelf y.shelf seat x.log between s → HasLedReady number x y s ⊎ HasLostChunk number x y s
  all (inl r) = inl (was_read r)
  all (inr r) = inr (was_lost r)

  loads_lead_so : HasLedReady number x y s ⊎ HasLostChunk number x y s
  loads_lead_so = all result

pub loads_lead : LoadsLead
loads_lead terms before number id i x y seat next s told_before obeys stands ready may says mid_bounded bounded = loads_lead_so terms before number id i x y seat next s told_before obeys stands ready may says mid_bounded bounded
