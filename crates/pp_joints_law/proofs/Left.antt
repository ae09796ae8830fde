-- Behind an event what is carried stands, once memory was left.
use Rattle.std.proofs.Common.{◌≡◌, ◌≤◌, ◌+◌, sym, subst, ap, ◌∙◌, ℕ, Bool, true, false, length, List, [], ◌∷◌}
use Rattle.std.specs.List.{All}
use Rattle.std.specs.Prelude.{vec_capacity}
use Rattle.pp_cache.specs.Memory.{Memory}
use Rattle.pp_turns_law.specs.Log.{AreLinked}
use Rattle.pp_turns_law.proofs.GivenUp.{waiting_in_order}
use Rattle.pp_desk.specs.Closings.{Sides, peer_numbers}
use Rattle.pp_desk.specs.declared.desk.Desk.{Desk}
use Rattle.pp_evicting_law.specs.Evicting.{HasLeft, IsDoneWithEvent}
use Rattle.pp_flow.specs.Changes.{Exchanges, entry_of, numbers as flow_numbers}
use Rattle.pp_flow_law.specs.Tables.{none_leaves}
use Rattle.pp_joints_law.proofs.Same.{IsSameDesk, IsSameDisk, disk_as, set_as}
use Rattle.pp_joints_law.specs.Carried.{IsCarried, StandsLinked}
use Rattle.pp_joints_law.specs.Leaving.{LeavingsCarry}
use Rattle.pp_law.specs.Replies.{regained}
use Rattle.pp_law.specs.State.{State}
use Rattle.pp_links.specs.Links.{Link}
use Rattle.pp_peers.specs.declared.peers.Peer.{Peer}
use Rattle.pp_places_law.proofs.Askable.{CanBeAsked, ended_can}
use Rattle.pp_places_law.specs.Around.{AreAskable}
use Rattle.pp_places_law.specs.Closings.{AreOpen}
use Rattle.pp_proxy.specs.Leaving.{Leaves}
use Rattle.pp_proxy.specs.Moving.{Moving}
use Rattle.pp_state.specs.Asking.{is_useless}
use Rattle.pp_state.specs.Ends.{AreInOrder, Parts, ended, numbers_of, parts}
use Rattle.pp_state.specs.declared.state.State.{State as Turn}
use Rattle.pp_store.specs.Kept.{KeptMap}
use Rattle.pp_take.specs.GivingUp.{all_given_up}
use Rattle.pp_world.specs.Log.{Log}

-- asks that are given up leave the others as they can be asked
given_up_can : (ns : List ℕ) (p : Parts) → CanBeAsked p → CanBeAsked (all_given_up ns p)
unfolding all_given_up
given_up_can [] p can = can
given_up_can (n ∷ ns) p can = by (is_useless p.cache p.seats (entry_of n p.flow)) (given_up_can ns p can) (given_up_can ns (ended n p) (ended_can n p can))
  where
    by : (b : Bool) → CanBeAsked (all_given_up ns p) → CanBeAsked (all_given_up ns (ended n p)) → CanBeAsked (all_given_up ns (elim b as (λ t. Parts) [ true ↦ ended n p | false ↦ p ]))
    by true kept out = out
    by false kept out = kept

-- ---- what is carried

module _ (number : ℕ → ℕ) (shelf : KeptMap) (x y : Moving) (log : Log) (h t : State) (done : IsDoneWithEvent number x h) (carried : IsCarried shelf x h) (leaves : Leaves x log y) (left : HasLeft number x y log (regained h) t) where
  abbrev desk_is : record y.desk { state = record y.desk.state { seats = x.desk.state.seats; flow = x.desk.state.flow; cache = x.desk.state.cache; refused = x.desk.state.refused; is_astray = x.desk.state.is_astray; forgotten = x.desk.state.forgotten } } ≡ x.desk
  desk_is = left.turn.desk

  same_disk : IsSameDisk h t
  unfolding regained
  same_disk = record {
    idle = ap (λ (s : State). s.under_way) left.law;
    agenda = ap (λ (s : State). s.agenda) left.law;
    entries = ap (λ (s : State). s.entries) left.law;
    closed = ap (λ (s : State). s.closed_names) left.law;
    displaced = ap (λ (s : State). s.displaced) left.law;
    lost = ap (λ (s : State). s.has_lost_draft) left.law;
  }

  same_desk : IsSameDesk x.desk y.desk
  same_desk = record {
    name = ap (λ (d : Desk). d.state.name.items) desk_is;
    trigger = ap (λ (d : Desk). d.state.trigger) desk_is;
    floor = ap (λ (d : Desk). d.state.floor) desk_is;
    shares = ap (λ (d : Desk). d.state.shares_fetches) desk_is;
    limits = ap (λ (d : Desk). d.state.limits) desk_is;
    run = ap (λ (d : Desk). d.state.run) desk_is;
    room = ap (λ (d : Desk). vec_capacity d.state.awake) desk_is;
    file = ap (λ (d : Desk). length d.file.items) desk_is;
    ticked = ap (λ (d : Desk). d.state.has_ticked) desk_is;
  }

  same_peers : y.desk.peers ≡ x.desk.peers
  same_peers = ap (λ (d : Desk). d.peers) desk_is

  same_top : t.top ≡ h.top
  unfolding regained
  same_top = ap (λ (s : State). s.top) left.law

  same_settings : t.settings ≡ h.settings
  unfolding regained
  same_settings = ap (λ (s : State). s.settings) left.law

  same_ticked : t.has_ticked ≡ h.has_ticked
  unfolding regained
  same_ticked = ap (λ (s : State). s.has_ticked) left.law

  linked : StandsLinked y t
  linked = record {
    clients = subst (λ (ns : List ℕ). AreOpen ns y.links) (sym left.turn.numbers) (subst (λ (ls : List Link). AreOpen (numbers_of x.desk.state.seats.items) ls) (sym left.turn.links) carried.links.clients);
    origins = subst (λ (ps : List Peer). AreLinked (peer_numbers ps) y.links) (sym same_peers) (subst (λ (ls : List Link). AreLinked (peer_numbers x.desk.peers) ls) (sym left.turn.links) carried.links.origins);
    given = subst (λ (n : ℕ). All (λ link. link.0 ≤ n) y.links) (sym left.turn.top) (subst (λ (ls : List Link). All (λ link. link.0 ≤ x.top) ls) (sym left.turn.links) carried.links.given);
    few = subst (λ (ps : List Peer). length y.links ≤ 256 + length ps) (sym same_peers) (subst (λ (ls : List Link). length ls ≤ 256 + length x.desk.peers) (sym left.turn.links) carried.links.few);
    top = subst (λ (n : ℕ). n ≤ y.top) (sym same_top) (subst (λ (n : ℕ). h.top ≤ n) (sym left.turn.top) carried.links.top);
  }

  -- ---- exchanges that are given up leave the others as they were

  abbrev gone : Desk
  gone = leaves.left

  same_flow : gone.state.flow ≡ x.desk.state.flow
  same_flow = ap (λ (p : Turn). p.flow) leaves.leaves.is.rest ∙ ap (λ (d : Desk). d.state.flow) leaves.regains.rest

  in_order : AreInOrder (flow_numbers gone.state.flow.waiting)
  in_order = subst (λ (f : Exchanges). AreInOrder (flow_numbers f.waiting)) (sym same_flow) (waiting_in_order number x.desk.state.name.items none_leaves x.desk.peers (parts x.desk.state) h done.turn.steps)

  given_is : parts y.desk.state ≡ all_given_up (flow_numbers gone.state.flow.waiting) (parts gone.state)
  given_is = ap (λ (z : Sides). z.parts) (leaves.gives.is in_order)

  can_gone : CanBeAsked (parts gone.state)
  can_gone = subst (λ (f : Exchanges). AreAskable f.waiting × AreAskable f.placed) (sym same_flow) (carried.waiting, carried.placed)

  asked : CanBeAsked (parts y.desk.state)
  asked = subst (λ (p : Parts). CanBeAsked p) (sym given_is) (given_up_can (flow_numbers gone.state.flow.waiting) (parts gone.state) can_gone)

  pub carried_behind : IsCarried shelf y t
  carried_behind = record {
    disk = disk_as shelf x.desk.state y.desk.state h t same_disk (ap (λ (m : Memory). m.outdated) left.turn.cache) (ap (λ (d : Desk). d.state.has_lost_draft) desk_is) carried.disk;
    set = set_as x.desk y.desk h t same_desk same_settings same_ticked carried.set;
    links = linked;
    waiting = asked.0;
    placed = asked.1;
    away = ap (λ (d : Desk). d.turned_away) desk_is ∙ carried.away;
  }

pub leavings_carry : LeavingsCarry
leavings_carry number shelf x y log h t done carried leaves left = carried_behind number shelf x y log h t done carried leaves left
