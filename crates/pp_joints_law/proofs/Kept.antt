-- Before and behind the disk: the turn stands to keep what came, and then to decide, and what is carried stands.
use Rattle.std.proofs.Common.{◌≡◌, ◌≤◌, ◌<◌, ◌+◌, refl, sym, subst, ap, ◌∙◌, ℕ, true, length, List}
use Rattle.std.specs.List.{All}
use Rattle.std.specs.Prelude.{slice_get, vec_capacity}
use Rattle.pp_turns_law.specs.Log.{AreLinked}
use Rattle.pp_desk.specs.Closings.{peer_numbers}
use Rattle.pp_desk.specs.declared.desk.Desk.{Desk}
use Rattle.pp_evicting_law.proofs.Leaving.{steps_in}
use Rattle.pp_evicting_law.specs.Evicting.{StandsBehind}
use Rattle.pp_flow.specs.Changes.{Exchanges}
use Rattle.pp_flow_law.specs.Tables.{AreGiven, none_leaves}
use Rattle.pp_joints_law.proofs.Same.{IsSameDesk, set_as}
use Rattle.pp_joints_law.specs.Carried.{IsCarried, StandsLinked}
use Rattle.pp_joints_law.specs.Keeping.{HasBeenKept, KeepingsCarry, TurnsStandToKeep, deciding, kept_in}
use Rattle.pp_keeps_law.specs.All.{IsDoneWith, IsSameBody}
use Rattle.pp_kept_law.proofs.Behind.{shown_still}
use Rattle.pp_kept_law.proofs.MayComeIn.{may_come_in}
use Rattle.pp_kept_law.specs.Turns.{IsBeside}
use Rattle.pp_law.specs.Lists.{has_number}
use Rattle.pp_law.specs.Phases.{in_phase}
use Rattle.pp_law.specs.State.{State, Phase}
use Rattle.pp_laws_fields.proofs.Laws.{turns_keep_fields}
use Rattle.pp_links.specs.Links.{Link}
use Rattle.pp_objects.specs.Instances.{Instance, is_there}
use Rattle.pp_peers.specs.declared.peers.Peer.{Peer}
use Rattle.pp_places_law.specs.Around.{AreAskable}
use Rattle.pp_places_law.specs.Closings.{AreOpen}
use Rattle.pp_proxy.specs.Events.{Keeps}
use Rattle.pp_proxy.specs.Moving.{Turning}
use Rattle.pp_seats.specs.declared.seat.Seat.{Seat}
use Rattle.pp_shelf_law.proofs.Finding.{stand_alone}
use Rattle.pp_shelf_law.proofs.KeptEntries.{each_so}
use Rattle.pp_shelf_law.specs.AsKept.{EachIsAsKept}
use Rattle.pp_state.specs.Ends.{numbers_of, parts}
use Rattle.pp_state.specs.declared.state.State.{State as Turn}
use Rattle.pp_states_law.specs.Told.{IsTold}
use Rattle.pp_turns_law.specs.Firsts.{AreAwake, IsAsleep}
use Rattle.pp_turns_law.specs.Rows.{AreReady, IsReady}
use Rattle.pp_turns_law.specs.Turns.{ShowsTurn}

-- ---- before

pub stands_to_keep : TurnsStandToKeep
stands_to_keep terms log number shelf x s obeys behind carried = record {
  rests = record { none = behind.none; at = behind.at; idle = carried.disk.idle; done = carried.disk.done; shows = carried.disk.shows };
  cache = behind.turn.steps.shows.table;
  bounded = behind.turn.bounded;
  noted = carried.disk.noted;
  names = carried.disk.names;
  displaced = carried.disk.displaced;
  short = carried.disk.short;
  lost = carried.disk.lost;
  alone = stand_alone terms s log obeys;
  fields = λ i there. ((turns_keep_fields terms s log obeys).rows i there).kept;
  clock = behind.turn.clock;
  run = carried.set.force.run;
  few = carried.set.few;
}

-- ---- behind

-- of each that can be decided what it follows, and what its exchange joins, is there still
ready_still : (number : ℕ → ℕ) (p q : Turn) (next : ℕ) (seats : List Seat) → AreReady number p.cache next seats → IsSameBody p q → AreReady number q.cache next seats
ready_still number p q next seats ready same i seat at going =
    let one : IsReady number p.cache next seat = ready i seat at going in
    record {
      follows = λ a id answer source. subst (λ (is : List Instance). is_there id is ≡ true) (sym same.instances) (one.follows a id answer source);
      key = one.key;
      joined = λ id plain brought.
          let told : IsTold number p.cache next id = one.joined id plain brought in
          record {
            given = subst (λ (n : ℕ). id.life < n) (sym same.lives) told.given;
            made = told.made;
            apart = λ other there. told.apart other (subst (λ (is : List Instance). is_there other is ≡ true) same.instances there);
          };
    }

turn_in : (phase : Phase) (number : ℕ → ℕ) (peers : List Peer) (p : Turn) (s : State) → ShowsTurn number none_leaves peers p s → ShowsTurn number none_leaves peers p (in_phase phase s)
turn_in phase number peers p s shows = record {
  steps = steps_in phase number p.name.items none_leaves peers (parts p) s shows.steps;
  name = shows.name;
  shares = shows.shares;
  clock = shows.clock;
  ticked = shows.ticked;
  stopped = shows.stopped;
  bounded = shows.bounded;
}

module _ (number : ℕ → ℕ) (x y : Turning) (s t : State) (behind : StandsBehind number x.moving s) (carried : IsCarried x.shelf x.moving s) (keeps : Keeps x y) (kept : IsDoneWith number (kept_in x) (kept_in y) s t) (as_kept : EachIsAsKept y.shelf) where
  abbrev old : Desk
  old = x.moving.desk

  abbrev new : Desk
  new = y.moving.desk

  abbrev rest_of : Desk → Desk
  rest_of d = record d { state = record d.state { cache = old.state.cache; has_lost_draft = old.state.has_lost_draft; is_astray = old.state.is_astray }; file = old.file }

  desk_is : rest_of new ≡ old
  desk_is = keeps.rest

  beside : IsBeside old.state new.state
  beside = record { same = kept.same; rest = ap (λ (d : Desk). d.state) desk_is }

  same_peers : new.peers ≡ old.peers
  same_peers = ap (λ (d : Desk). d.peers) desk_is

  same_seats : new.state.seats.items ≡ old.state.seats.items
  same_seats = ap (λ (d : Desk). d.state.seats.items) desk_is

  same_awake : new.state.awake.items ≡ old.state.awake.items
  same_awake = ap (λ (d : Desk). d.state.awake.items) desk_is

  turn : ShowsTurn number none_leaves new.peers new.state (deciding t)
  turn = subst (λ (ps : List Peer). ShowsTurn number none_leaves ps new.state (deciding t)) (sym same_peers)
      (turn_in (deciding t).phase number old.peers new.state t (shown_still number none_leaves old.peers old.state new.state y.shelf s t behind.turn beside kept.kept))

  same_next : t.next_instance ≡ s.next_instance
  same_next = ap (λ (u : State). u.next_instance) kept.kept.rest

  ready : AreReady number new.state.cache (deciding t).next_instance new.state.seats.items
  ready =
      subst (λ (ss : List Seat). AreReady number new.state.cache t.next_instance ss) (sym same_seats)
      (subst (λ (n : ℕ). AreReady number new.state.cache n old.state.seats.items) (sym same_next) (ready_still number old.state new.state s.next_instance old.state.seats.items behind.ready kept.same))

  awake : AreAwake new.state
  awake = record {
    order = subst (λ (ss : List Seat). AreGiven 0 (length ss) new.state.awake.items) (sym same_seats) (subst (λ (ns : List ℕ). AreGiven 0 (length old.state.seats.items) ns) (sym same_awake) behind.awake.order);
    others = λ i seat at off.
        let one : IsAsleep old.state seat = behind.awake.others i seat (ap (λ (ss : List Seat). slice_get ss i) (sym same_seats) ∙ at) (ap (λ (ns : List ℕ). has_number i ns) (sym same_awake) ∙ off) in
        record { silent = one.silent; ticked = ap (λ (d : Desk). d.state.is_ticked) desk_is ∙ one.ticked };
  }

  -- ---- what is carried

  same_desk : IsSameDesk old new
  same_desk = record {
    name = ap (λ (d : Desk). d.state.name.items) desk_is;
    trigger = ap (λ (d : Desk). d.state.trigger) desk_is;
    floor = ap (λ (d : Desk). d.state.floor) desk_is;
    shares = ap (λ (d : Desk). d.state.shares_fetches) desk_is;
    limits = ap (λ (d : Desk). d.state.limits) desk_is;
    run = ap (λ (d : Desk). d.state.run) desk_is;
    room = ap (λ (d : Desk). vec_capacity d.state.awake) desk_is;
    file = keeps.long;
    ticked = ap (λ (d : Desk). d.state.has_ticked) desk_is;
  }

  same_flow : new.state.flow ≡ old.state.flow
  same_flow = ap (λ (d : Desk). d.state.flow) desk_is

  same_top : t.top ≡ s.top
  same_top = ap (λ (u : State). u.top) kept.kept.rest

  linked : StandsLinked y.moving (deciding t)
  linked = record {
    clients = subst (λ (ss : List Seat). AreOpen (numbers_of ss) y.moving.links) (sym same_seats) (subst (λ (ls : List Link). AreOpen (numbers_of old.state.seats.items) ls) (sym keeps.links) carried.links.clients);
    origins = subst (λ (ps : List Peer). AreLinked (peer_numbers ps) y.moving.links) (sym same_peers) (subst (λ (ls : List Link). AreLinked (peer_numbers old.peers) ls) (sym keeps.links) carried.links.origins);
    given = subst (λ (n : ℕ). All (λ link. link.0 ≤ n) y.moving.links) (sym keeps.top) (subst (λ (ls : List Link). All (λ link. link.0 ≤ x.moving.top) ls) (sym keeps.links) carried.links.given);
    few = subst (λ (ps : List Peer). length y.moving.links ≤ 256 + length ps) (sym same_peers) (subst (λ (ls : List Link). length ls ≤ 256 + length old.peers) (sym keeps.links) carried.links.few);
    top = subst (λ (n : ℕ). n ≤ y.moving.top) (sym same_top) (subst (λ (n : ℕ). s.top ≤ n) (sym keeps.top) carried.links.top);
  }

  pub has_been_kept : HasBeenKept number y (deciding t)
  has_been_kept = record {
    at = refl;
    none = kept.kept.stands.rests.none;
    turn = turn;
    ready = ready;
    awake = awake;
    disk = may_come_in y.shelf new.state.cache (deciding t) kept.kept.stands.rests.shows kept.kept.stands.noted kept.kept.stands.names;
    kept = each_so y.shelf as_kept;
    carried = record {
      disk = record {
        idle = kept.kept.stands.rests.idle;
        done = kept.kept.stands.rests.done;
        shows = kept.kept.stands.rests.shows;
        noted = kept.kept.stands.noted;
        names = kept.kept.stands.names;
        short = kept.kept.stands.short;
        lost = kept.kept.stands.lost;
        displaced = kept.kept.stands.displaced;
        kept = as_kept;
      };
      set = set_as old new s (deciding t) same_desk (ap (λ (u : State). u.settings) kept.kept.rest) (ap (λ (u : State). u.has_ticked) kept.kept.rest) carried.set;
      links = linked;
      waiting = subst (λ (f : Exchanges). AreAskable f.waiting) (sym same_flow) carried.waiting;
      placed = subst (λ (f : Exchanges). AreAskable f.placed) (sym same_flow) carried.placed;
      away = ap (λ (d : Desk). d.turned_away) desk_is ∙ carried.away;
    };
  }

pub keepings_carry : KeepingsCarry
keepings_carry number x y s t behind carried keeps kept as_kept = has_been_kept number x y s t behind carried keeps kept as_kept
