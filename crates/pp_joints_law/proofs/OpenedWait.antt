-- At the first wait of a life all stands that a turn begins with, and the life may wait.
use Rattle.std.proofs.Common.{◌≡◌, ◌≤◌, refl, sym, subst, ap, ap₂, ◌∙◌, ℕ, ◌/◌, Bool, true, false, not, ◌&&◌, ◌||◌, filter, fold, List, [], ◌∷◌, ◌++◌, ◌+◌, length, map, max, min, take, Some, None, arith}
use Rattle.std.proofs.lemmas.List.Elements.{All-nil}
use Rattle.std.specs.List.{All, list_all, list_any}
use Rattle.std.specs.Prelude.{count_by, slice_get}
use Rattle.pp_cache.specs.Memory.{Memory}
use Rattle.pp_cache_law.specs.Outdated.{AreNoted}
use Rattle.pp_turns_law.specs.Log.{AreLinked}
use Rattle.pp_conf.specs.Conf.{Settings}
use Rattle.pp_conf.specs.Shown.{shown_conf}
use Rattle.pp_conf.specs.declared.conf.Conf.{Conf}
use Rattle.pp_desk.specs.Closings.{peer_numbers}
use Rattle.pp_desk.specs.Opening.{IsNew}
use Rattle.pp_desk.specs.declared.desk.Desk.{Desk}
use Rattle.pp_flow.specs.Changes.{Exchanges}
use Rattle.pp_flow_law.specs.Tables.{AreGiven, none_leaves}
use Rattle.pp_joints_law.proofs.Awaited.{rested_await}
use Rattle.pp_joints_law.proofs.Resting.{waits}
use Rattle.pp_joints_law.specs.Awaiting.{AwaitsEvent}
use Rattle.pp_joints_law.specs.Carried.{IsCarried, StandsAsSet, StandsLinked, StandsOnDisk}
use Rattle.pp_rests_law.specs.Closing.{NoneIsRefused}
use Rattle.pp_joints_law.specs.Opened.{BeginsWith, FirstTurnsBegin, ListenedOnesBegin, MayWaitFirst, OpenedOnesAreCarried, OpenedOnesMayWait, OpeningsEndAsTheyAre, at_first}
use Rattle.pp_law.specs.Closing.{forsake, left_alone}
use Rattle.pp_law.specs.Connections.{is_conn}
use Rattle.pp_law.specs.Lists.{Bytes, change, has_text, without}
use Rattle.pp_law.specs.Opening.{is_opening, is_same_phase}
use Rattle.pp_law.specs.Permits.{may_wait, permits_waits}
use Rattle.pp_law.specs.Phases.{come_to, ending, has_closings, may_end, phases}
use Rattle.pp_law.specs.Replies.{begin_replies, begun_at_end, is_outrun}
use Rattle.pp_law.specs.Served.{accepts, accepts_rightly, is_client_served, is_conn_served, is_exchange_served, is_served, same, wants_no_more}
use Rattle.pp_law.specs.State.{State, Chunk, Client, Conn, Exchange, Instance, Phase, Term, IsWoken, IsConfigured, IsRooted, IsListed, IsListening, IsStuck, DecidingAgain}
use Rattle.pp_law.specs.Table.{is_chunk_of_any, is_left_over, swept}
use Rattle.pp_law.specs.Turn.{rest_with, rested_client, rested_conn, rested_instance}
use Rattle.pp_law.specs.Unseen.{rested_exchange}
use Rattle.pp_laws.specs.Runs.{IsIn}
use Rattle.pp_laws_served.specs.Served.{IsAsGood}
use Rattle.pp_laws_unused.proofs.Laws.{openings_are_unused}
use Rattle.pp_links.specs.Links.{Link}
use Rattle.pp_obeys.proofs.Silent.{both_hold}
use Rattle.pp_obeys.proofs.Steps.{come_off}
use Rattle.pp_obeys.specs.Obeys.{Obeys}
use Rattle.pp_opening_law.proofs.Beginning.{memory_is, set_as}
use Rattle.pp_opening_law.specs.Openings.{IsUnused}
use Rattle.pp_peers.specs.declared.peers.Peer.{Peer}
use Rattle.pp_places_law.specs.Around.{AreAskable}
use Rattle.pp_places_law.specs.Closings.{AreOpen}
use Rattle.pp_proxy.specs.Awaiting.{Awaits, Rests}
use Rattle.pp_proxy.specs.Moving.{Moving, with_desk}
use Rattle.pp_proxy.specs.declared.proxy.Proxy.{Proxy}
use Rattle.pp_rounds_law.proofs.Coming.{comes_by, none_fail}
use Rattle.pp_seats.specs.declared.seat.Seat.{Seat}
use Rattle.pp_state.specs.Ends.{numbers_of}
use Rattle.pp_store.specs.Kept.{KeptMap}
use Rattle.pp_turns_law.specs.Firsts.{AreAwake}
use Rattle.pp_turns_law.specs.Turns.{ShowsTurn}
use Rattle.pp_waits_law.proofs.Awake.{nobody_read}
use Rattle.pp_waits_law.proofs.Good.{as_good}
use Rattle.pp_waits_law.proofs.StillRead.{left_read}
use Rattle.pp_waits_law.proofs.Waited.{waits_lead}
use Rattle.pp_waits_law.specs.Asleep.{WereRead}
use Rattle.pp_waits_law.specs.Good.{MayReadAndAsk}
use Rattle.pp_waits_law.specs.Rests.{StandsToWait}
use Rattle.pp_waits_law.specs.Waits.{HasWaited}
use Rattle.pp_due.specs.Waits.{is_loud}
use Rattle.pp_state.specs.Unseen.{all_rested}
use Rattle.pp_wants.specs.Rests.{all_waiting, rested_at, rested_peer}
use Rattle.pp_world.specs.Log.{Log}
use Rattle.pp_world.specs.declared.event.Wants.{Wants}
use Rattle.pp_world.specs.declared.happening.Happening.TheVariants.{Waits}

-- ---- the law: no reply begins where nobody is

none_changed : {A : Type 0} (f : List A → List A) (xs : List A) → f [] ≡ [] → xs ≡ [] → f xs ≡ xs
none_changed f xs none is = ap f is ∙ none ∙ sym is

swept_none : (s : State) → s.instances ≡ [] → s.chunks ≡ [] → swept s ≡ s
unfolding swept
swept_none s instances chunks =
    ap (λ (xs : List Instance). record s { instances = xs; chunks = without (is_chunk_of_any (filter (is_left_over s) s.instances)) s.chunks }) (none_changed (λ xs. without (is_left_over s) xs) s.instances refl instances)
    ∙ ap (λ (cs : List Chunk). record s { chunks = cs }) (none_changed (λ cs. without (is_chunk_of_any (filter (is_left_over s) s.instances)) cs) s.chunks refl chunks)

forsaken_none : (test : Exchange → Bool) (s : State) → s.exchanges ≡ [] → forsake test s ≡ s
unfolding forsake
forsaken_none test s exchanges = ap (λ (es : List Exchange). record s { exchanges = es }) (none_changed (λ es. change test left_alone es) s.exchanges refl exchanges)

begun_none : (s : State) → IsUnused s → begin_replies s ≡ s
unfolding begin_replies
begun_none s unused =
    ap (λ (cs : List Client). swept (forsake (is_outrun s) (record s { clients = cs }))) (none_changed (λ cs. map (begun_at_end s) cs) s.clients refl unused.clients)
    ∙ ap (λ (t : State). swept t) (forsaken_none (is_outrun s) s unused.exchanges)
    ∙ swept_none s unused.instances unused.chunks

opens : (s : State) → s.phase ≡ IsListening → is_opening s ≡ true
opens s at = ap (λ (q : Phase). list_any (λ p. is_same_phase p q) (IsWoken ∷ IsConfigured ∷ IsRooted ∷ IsListed ∷ IsListening ∷ IsStuck ∷ [])) at

pub still : OpeningsEndAsTheyAre
unfolding ending
still terms log s obeys at =
    let here : come_to DecidingAgain s ≡ s = come_off DecidingAgain s (ap (λ (q : Phase). list_any (λ p. is_same_phase p q) phases) at) in
    ap (λ (t : State). begin_replies t) here ∙ begun_none s (openings_are_unused terms s log obeys (opens s at))

-- ---- the law: nobody is to be served

same_both : (b : Bool) → same b b ≡ true
same_both true = refl
same_both false = refl

served_none : (s : State) (w : Wants) → IsUnused s → IsAsGood s w → is_served s w ≡ true
served_none s w unused good =
    both_hold (accepts_rightly s w) _ (ap (same (accepts s)) good.accept ∙ same_both (accepts s))
    (both_hold (list_all (is_client_served s w) s.clients) _ (ap (list_all (is_client_served s w)) unused.clients)
    (both_hold (list_all (is_conn_served s w) s.conns) _ (ap (list_all (is_conn_served s w)) unused.conns)
    (both_hold (list_all (is_exchange_served s w) s.exchanges) _ (ap (list_all (is_exchange_served s w)) unused.exchanges)
    (both_hold (wants_no_more s w) true good.no_more refl))))

permitted_first : (s : State) (w : Wants) → s.phase ≡ IsListening → is_served (ending s) w ≡ true → permits_waits s w ≡ true
permitted_first s w at served =
    let waits_now : may_wait s ≡ true = ap (λ (b : Bool). b || (not s.is_stopped && may_end s)) (ap (is_same_phase IsListening) at) in
    ap (λ (b : Bool). elim b as (λ c. Bool) [ true ↦ is_served (ending s) w | false ↦ false ]) waits_now ∙ served

-- ---- what is carried

short_run : (set most : ℕ) → set ≤ 64 → max 1 (min set most) ≤ 64
short_run set most few = omega (arith, few)

module _ (terms : List Term) (log : Log) (conf : Conf) (p : Proxy) (shelf : KeptMap) (top : ℕ) (s : State) (it : BeginsWith terms log conf p shelf top s) where
  unused : IsUnused s
  unused = openings_are_unused terms s log it.obeys (opens s it.stands.opens.at)

  nothing_displaced : (key : Bytes) → has_text key s.displaced ≡ true → ⊥
  nothing_displaced key has = absurd (let no : false ≡ true = sym (ap (λ (keys : List Bytes). has_text key keys) it.stands.opens.displaced) ∙ has in cc no)

  on_disk : StandsOnDisk shelf p.desk.state s
  on_disk = record {
    idle = it.stands.opens.idle;
    done = it.stands.opens.done;
    shows = it.stands.shows;
    noted = subst (λ (names : List Bytes). AreNoted names s.displaced s.entries) (sym (ap (λ (m : Memory). m.outdated) it.opened.new.cache)) it.stands.noted;
    names = it.stands.names;
    short = it.stands.short;
    lost = it.opened.new.draft ∙ sym it.stands.opens.lost;
    displaced = λ key has. absurd (nothing_displaced key has);
    kept = it.stands.kept;
  }

  as_set : StandsAsSet p.desk s
  as_set = record {
    force = set_as conf p.desk.state s it.opened.set it.stands.opens.settings;
    few = subst (λ (c : Settings). max 1 (min c.disk_run (c.critical / 128)) ≤ 64) (sym it.stands.opens.settings) (short_run (shown_conf conf).disk_run ((shown_conf conf).critical / 128) it.stands.opens.run);
    room = it.opened.room.awake;
    file = it.opened.buffers.file;
    ticked = it.opened.new.unticked ∙ sym it.stands.opens.ticked;
  }

  linked : StandsLinked (at_first p top) s
  linked = record {
    clients = subst (λ (seats : List Seat). AreOpen (numbers_of seats) p.links) (sym it.opened.new.seats) tt;
    origins = subst (λ (peers : List Peer). AreLinked (peer_numbers peers) p.links) (sym it.opened.peers) tt;
    given = subst (λ (links : List Link). All (λ link. link.0 ≤ top) links) (sym it.opened.links) (All-nil (λ (link : Link). link.0 ≤ top));
    few = subst (λ (links : List Link). length links ≤ 256 + length p.desk.peers) (sym it.opened.links) (omega arith);
    top = subst (λ (n : ℕ). n ≤ top) (sym it.stands.opens.top) it.top;
  }

  carried : IsCarried shelf (at_first p top) s
  carried = record {
    disk = on_disk;
    set = as_set;
    links = linked;
    waiting = subst (λ (f : Exchanges). AreAskable f.waiting) (sym it.opened.new.flow) tt;
    placed = subst (λ (f : Exchanges). AreAskable f.placed) (sym it.opened.new.flow) tt;
    away = it.opened.nobody;
  }

  -- ---- who is there

  no_seat : (i : ℕ) (seat : Seat) → slice_get p.desk.state.seats.items i ≡ Some seat → ⊥
  no_seat i seat at = let no : None ≡ Some seat = ap (λ (seats : List Seat). slice_get seats i) (sym it.opened.new.seats) ∙ at in cc no

  no_peer : (i : ℕ) (peer : Peer) → slice_get p.desk.peers i ≡ Some peer → ⊥
  no_peer i peer at = let no : None ≡ Some peer = ap (λ (peers : List Peer). slice_get peers i) (sym it.opened.peers) ∙ at in cc no

  no_conn : (i : ℕ) (k : Conn) → slice_get s.conns i ≡ Some k → ⊥
  no_conn i k at = let no : None ≡ Some k = ap (λ (conns : List Conn). slice_get conns i) (sym unused.conns) ∙ at in cc no

  none_closes : has_closings s ≡ false
  none_closes = ap₂ (λ (cs : List Client) (ks : List Conn). list_any (λ c. c.is_closing) cs || list_any (λ k. k.is_closing) ks) unused.clients unused.conns

  same_state : ending s ≡ s
  same_state = still terms log s it.obeys it.stands.opens.at

  all_awake : AreAwake p.desk.state
  all_awake = record {
    order = subst (λ (awake : List ℕ). AreGiven 0 (length p.desk.state.seats.items) awake) (sym it.opened.new.awake) (omega arith);
    others = λ i seat at out. absurd (no_seat i seat at);
  }

  module _ (number : ℕ → ℕ) where
    stands_there : StandsToWait number p.desk s
    stands_there = record {
      turn = subst (λ (peers : List Peer). ShowsTurn number none_leaves peers p.desk.state s) (sym it.opened.peers) (memory_is number conf p.desk.state s it.opened.set it.opened.new it.stands.opens.settings unused);
      ready = λ i seat at open_one. absurd (no_seat i seat at);
      awake = all_awake;
      closed = none_closes;
    }

    reads_there : MayReadAndAsk number [] p.desk s
    reads_there = record {
      can = record {
        may = record {
          stands = stands_there;
          order = λ i j before within. absurd (omega (arith, within));
          apart = λ i peer at. absurd (no_peer i peer at);
          alone = λ n. subst (λ (conns : List Conn). count_by (is_conn n) conns ≤ 1) (sym unused.conns) (omega arith);
          room = subst (λ (peers : List Peer). length p.desk.state.seats.items + length peers ≤ 320) (sym it.opened.peers) (subst (λ (seats : List Seat). length seats + 0 ≤ 320) (sym it.opened.new.seats) (omega arith));
        };
        were = nobody_read p.desk.state it.opened.new.seats;
      };
      asked = λ i k at. absurd (no_conn i k at);
    }

    pub may_first : (w : Wants) (clients : ℕ) (e : Desk) → Awaits [] w clients p.desk e → MayWaitFirst number w p.desk s
    may_first w clients e awaits =
        let read : MayReadAndAsk number [] p.desk (ending s) = subst (λ (t : State). MayReadAndAsk number [] p.desk t) (sym same_state) reads_there in
        let good : IsAsGood (ending s) w = as_good number [] w clients p.desk e (ending s) read awaits in
        record {
          read = read;
          waits = record {
            stands = read.can.may.stands;
            permitted = permitted_first s w it.stands.opens.at (served_none (ending s) w (subst (λ (t : State). IsUnused t) (sym same_state) unused) good);
            none = it.stands.opens.none;
            order = read.can.may.order;
            apart = read.can.may.apart;
          };
        }

-- ---- all

pub listened_begin : ListenedOnesBegin
listened_begin terms front log conf p shelf given top s it opened less = record {
  obeys = subst (λ (k : Log). Obeys terms it.comes.then k) (sym it.is) it.comes.comes.obeys;
  opened = opened;
  given = given;
  stands = it.comes.holds;
  top = less;
}

pub opened_carried : OpenedOnesAreCarried
opened_carried terms log conf p shelf top s it = carried terms log conf p shelf top s it

pub opened_wait : OpenedOnesMayWait
opened_wait terms log conf p shelf top s number w clients e it awaits = may_first terms log conf p shelf top s it number w clients e awaits

rests_alone : (w : Wants) (s : State) → s.clients ≡ [] → NoneIsRefused (rest_with w s)
unfolding rest_with
rests_alone w s none c there = absurd (subst (λ (cs : List Client). IsIn c (map (rested_client s) cs)) none there)

rests_unused : (w : Wants) (s : State) → IsUnused s → IsUnused (rest_with w s)
unfolding rest_with
rests_unused w s u = record {
  clients = ap (λ (cs : List Client). map (rested_client s) cs) u.clients;
  conns = ap (λ (ks : List Conn). map (rested_conn s w) ks) u.conns;
  exchanges = ap (λ (es : List Exchange). map (rested_exchange s) es) u.exchanges;
  begun = u.begun;
  instances = ap (λ (xs : List Instance). map rested_instance xs) u.instances;
  chunks = u.chunks;
  clock = u.clock;
  still = refl;
  goes = u.goes;
}

-- the memory is as it was
module _ (conf : Conf) (w : Wants) (clients : ℕ) (d e f : Desk) (new : IsNew conf d.state) (awaits : Awaits [] w clients d e) (rests : Rests w clients e f) where
  seats_none : e.state.seats.items ≡ []
  seats_none = awaits.seats ∙ new.seats

  awake_none : e.state.awake.items ≡ []
  awake_none = awaits.awake ∙ ap (λ (ns : List ℕ). filter (is_loud d.state.seats.items) ns) new.awake

  still_new : IsNew conf f.state
  still_new = record {
    seats = rests.seats ∙ ap (λ (ns : List ℕ). fold (rested_at e.state) e.state.seats.items ns) awake_none ∙ seats_none;
    awake = ap (λ (x : Desk). x.state.awake.items) rests.rest ∙ awake_none;
    flow = rests.flow ∙ ap (λ (x : Exchanges). all_rested e.state.awake.items (all_waiting e.state) x) (ap (λ (x : Desk). x.state.flow) awaits.rest ∙ new.flow);
    cache = ap (λ (x : Desk). x.state.cache) rests.rest ∙ ap (λ (x : Desk). x.state.cache) awaits.rest ∙ new.cache;
    draft = ap (λ (x : Desk). x.state.has_lost_draft) rests.rest ∙ ap (λ (x : Desk). x.state.has_lost_draft) awaits.rest ∙ new.draft;
    now = ap (λ (x : Desk). x.state.now) rests.rest ∙ ap (λ (x : Desk). x.state.now) awaits.rest ∙ new.now;
    unticked = ap (λ (x : Desk). x.state.has_ticked) rests.rest ∙ ap (λ (x : Desk). x.state.has_ticked) awaits.rest ∙ new.unticked;
    still = ap (λ (x : Desk). x.state.is_ticked) rests.rest;
    goes = ap (λ (x : Desk). x.state.is_stopped) rests.rest ∙ ap (λ (x : Desk). x.state.is_stopped) awaits.rest ∙ new.goes;
    evicting = ap (λ (x : Desk). x.state.is_evicting) rests.rest;
    forgotten = ap (λ (x : Desk). x.state.forgotten) rests.rest ∙ ap (λ (x : Desk). x.state.forgotten) awaits.rest ∙ new.forgotten;
    refused = ap (λ (x : Desk). x.state.refused) rests.rest ∙ ap (λ (x : Desk). x.state.refused) awaits.rest ∙ new.refused;
    astray = ap (λ (x : Desk). x.state.is_astray) rests.rest ∙ ap (λ (x : Desk). x.state.is_astray) awaits.rest ∙ new.astray;
  }

  still_alone : d.peers ≡ [] → f.peers ≡ []
  still_alone none = rests.peers ∙ ap (λ (peers : List Peer). map (rested_peer clients w e.state.now) peers) (ap (λ (x : Desk). x.peers) awaits.rest ∙ none)

pub turns_begin : FirstTurnsBegin
turns_begin terms log conf p shelf top s number w clients e f it awaits rests = record {
  waited = waited;
  obeys = obeys;
  carried = over;
  awaits = stands;
  read = read;
  new = still_new conf w clients p.desk e f it.opened.new awaits rests;
  alone = still_alone conf w clients p.desk e f it.opened.new awaits rests it.opened.peers;
  unused = rests_unused w (ending s) (subst (λ (t : State). IsUnused t) (sym (same_state terms log conf p shelf top s it)) (unused terms log conf p shelf top s it));
}
  where
    x : Moving
    x = at_first p top

    first : MayWaitFirst number w p.desk s
    first = may_first terms log conf p shelf top s it number w clients e awaits

    waited : HasWaited number w p.desk f s
    waited = waits_lead number [] w clients p.desk e f s first.waits awaits rests

    obeys : Obeys terms (rest_with w (ending s)) (log ++ Waits w ∷ [])
    obeys = (comes_by terms (Waits w ∷ []) log s (rest_with w (ending s)) (none_fail s 0 refl) it.obeys waited.leads).obeys

    over : IsCarried shelf (with_desk f x) (rest_with w (ending s))
    over = waits number shelf [] w clients x e f (ending s) (subst (λ (t : State). IsCarried shelf x t) (sym (same_state terms log conf p shelf top s it)) (carried terms log conf p shelf top s it)) awaits rests waited.rested

    stands : AwaitsEvent number (with_desk f x) (rest_with w (ending s))
    stands = rested_await terms (log ++ Waits w ∷ []) number shelf x f (ending s) (rest_with w (ending s)) obeys waited.rested
        (ap (λ (t : State). t.made_room_for) (same_state terms log conf p shelf top s it) ∙ it.stands.opens.none)
        (subst (λ (t : State). IsCarried shelf x t) (sym (same_state terms log conf p shelf top s it)) (carried terms log conf p shelf top s it))
        (rests_alone w (ending s) (ap (λ (t : State). t.clients) (same_state terms log conf p shelf top s it) ∙ (unused terms log conf p shelf top s it).clients))

    read : WereRead (take clients w.read.items) f.state
    read = left_read number [] w clients p.desk e f (ending s) first.read.can awaits rests
