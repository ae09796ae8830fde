-- Behind an event attempts count anew, and rows and chunks leave memory as by the law.
use Rattle.std.proofs.Common.{◌≡◌, ◌⊎◌, inl, inr, refl, sym, subst, ap, ap₂, ◌∙◌, ℕ, ◌+◌, ◌<◌, ◌≤◌, ◌/◌, ◌^◌, false, length, List, [], ◌++◌, Some, None, arith}
use Rattle.std.specs.List.{filter_map}
use Rattle.std.specs.Prelude.{IfSome, slice_get, take}
use Rattle.pp_cache.specs.Memory.{Memory}
use Rattle.pp_turns_law.proofs.Regained.{regains}
use Rattle.pp_desk.specs.declared.desk.Desk.{Desk}
use Rattle.pp_flow.specs.Changes.{Exchanges, entry_of}
use Rattle.pp_flow_law.specs.Tables.{Leaving, none_leaves}
use Rattle.pp_law.specs.Lists.{Bytes, has_number}
use Rattle.pp_law.specs.Phases.{in_phase}
use Rattle.pp_law.specs.Replies.{regained}
use Rattle.pp_law.specs.State.{State, Phase, Evicting, Keeping}
use Rattle.pp_leaves_law.proofs.Left.{leavings}
use Rattle.pp_leaves_law.proofs.Pins.{pinned}
use Rattle.pp_leaves_law.specs.Leaves.{AreLeaving, HaveLeft, left_by}
use Rattle.pp_leaves_law.specs.Pinned.{ArePinnable}
use Rattle.pp_obeys.specs.Moves.{Leads}
use Rattle.pp_peers.specs.declared.peers.Peer.{Peer}
use Rattle.pp_proxy.specs.Leaving.{Leaves}
use Rattle.pp_proxy.specs.Moving.{Moving}
use Rattle.pp_seats.specs.Follows.{next_of}
use Rattle.pp_seats.specs.declared.seat.Seat.{Seat}
use Rattle.pp_state.specs.Bodies.{IsButForCells}
use Rattle.pp_state.specs.Ends.{Parts, all_regained, parts, regained as regained_seat}
use Rattle.pp_state.specs.Pins.{exchanges_of, pin_of_entry, pin_of_seat, pins}
use Rattle.pp_state.specs.declared.state.State.{State as Turn}
use Rattle.pp_states_law.proofs.Framed.{states}
use Rattle.pp_steps.specs.Evicting.{evicted_notes, forgotten_notes, leaving_chunks, leaving_notes, left_memory, next_victim, without_all}
use Rattle.pp_states_law.specs.Steps.{ShowsSteps, whole}
use Rattle.pp_turns_law.proofs.Wanted.{same_length}
use Rattle.pp_turns_law.specs.Firsts.{IsAsleep}
use Rattle.pp_turns_law.specs.Rows.{AreReady, IsReady}
use Rattle.pp_turns_law.specs.Turns.{IsFollowing, ShowsTurn}
use Rattle.pp_world.specs.Log.{Log}
use Rattle.pp_evicting_law.proofs.Anew.{asleep_on, each_on, near_all, near_on, pins_same, ready_on}
use Rattle.pp_evicting_law.proofs.Few.{few_entries, few_seats}
use Rattle.pp_evicting_law.proofs.Follows.{followers}
use Rattle.pp_evicting_law.proofs.Going.{same_go}
use Rattle.pp_evicting_law.specs.Evicting.{IsDoneWithEvent, MayLeave, left_behind}

-- the phase is no part of what is shown
pub steps_in : (phase : Phase) (number : ℕ → ℕ) (name : Bytes) (l : Leaving) (peers : List Peer) (p : Parts) (s : State) → ShowsSteps number name l peers p s → ShowsSteps number name l peers p (in_phase phase s)
steps_in phase number name l peers p s steps = record {
  shows =
      states number name [] l (whole p peers) s steps.shows (in_phase phase s)
      (record { clients = refl; conns = refl; exchanges = refl; next_exchange = refl; instances = refl; next_instance = refl; chunks = refl; kept = λ x. refl });
  order = steps.order;
  told = steps.told;
  refused = steps.refused;
}

module _ (number : ℕ → ℕ) (x y : Moving) (log : Log) (h : State) (done : IsDoneWithEvent number x h) (may : MayLeave x h) (leaves : Leaves x log y) where
  abbrev anew : Desk
  anew = leaves.anew

  abbrev left : Desk
  left = leaves.left

  abbrev name : List ℕ
  name = x.desk.state.name.items

  abbrev peers : List Peer
  peers = x.desk.peers

  abbrev u : State
  u = regained h

  abbrev e : State
  e = in_phase Evicting u

  abbrev v : State
  v = left_by e

  abbrev w : State
  w = in_phase Keeping v

  abbrev t : State
  t = left_behind u

  -- ---- attempts count anew

  anew_state : record anew.state { seats = x.desk.state.seats } ≡ x.desk.state
  anew_state = ap (λ (d : Desk). d.state) leaves.regains.rest

  anew_seats : anew.state.seats.items ≡ all_regained x.desk.state.cache x.desk.state.awake.items x.desk.state.seats.items
  anew_seats = leaves.regains.is

  pub anew_cache : anew.state.cache ≡ x.desk.state.cache
  anew_cache = ap (λ (p : Turn). p.cache) anew_state

  anew_flow : anew.state.flow ≡ x.desk.state.flow
  anew_flow = ap (λ (p : Turn). p.flow) anew_state

  anew_name : anew.state.name.items ≡ name
  anew_name = ap (λ (p : Turn). p.name.items) anew_state

  turn_anew : ShowsTurn number none_leaves peers anew.state u
  turn_anew = regains number none_leaves peers x.desk.state anew.state h done.turn done.awake (λ i seat here going. (done.ready i seat here going).follows) (record { seats = anew_seats; rest = anew_state })

  steps_anew : ShowsSteps number name none_leaves peers (parts anew.state) u
  steps_anew = subst (λ (n : List ℕ). ShowsSteps number n none_leaves peers (parts anew.state) u) anew_name turn_anew.steps

  -- of each client that is there anew
  of_each : (P : ℕ → Seat → Type 0) → ((i : ℕ) (seat : Seat) → P i seat → P i (regained_seat x.desk.state.cache seat)) → ((i : ℕ) (seat : Seat) → slice_get x.desk.state.seats.items i ≡ Some seat → P i seat)
      → (i : ℕ) (seat : Seat) → slice_get anew.state.seats.items i ≡ Some seat → P i seat
  of_each P on all i seat at = each_on x.desk.state.cache P on x.desk.state.awake.items x.desk.state.seats.items all i seat (ap (λ (ss : List Seat). slice_get ss i) (sym anew_seats) ∙ at)

  pub ready_anew : AreReady number x.desk.state.cache h.next_instance anew.state.seats.items
  ready_anew = of_each (λ i seat. seat.is_closing ≡ false → IsReady number x.desk.state.cache h.next_instance seat) (ready_on x.desk.state.cache number x.desk.state.cache h.next_instance) done.ready

  pub asleep_anew : (i : ℕ) (seat : Seat) → slice_get anew.state.seats.items i ≡ Some seat → has_number i x.desk.state.awake.items ≡ false → IsAsleep x.desk.state seat
  asleep_anew = of_each (λ i seat. has_number i x.desk.state.awake.items ≡ false → IsAsleep x.desk.state seat) (asleep_on x.desk.state.cache x.desk.state x.desk.state.awake.items) done.awake.others

  -- ---- rows and chunks leave

  -- with the law's mark
  abbrev st : Turn
  st = record anew.state { is_evicting = u.is_evicting }

  abbrev after : Turn
  after = record left.state { is_evicting = u.is_evicting }

  pins_are : pins anew.state ≡ pins x.desk.state
  pins_are =
      ap₂ (λ (ss : List (ℕ × ℕ)) (p : Turn). take 320 (take 320 ss ++ filter_map (pin_of_entry p.cache.instances) (exchanges_of p.flow)))
      (ap (λ (ss : List Seat). filter_map pin_of_seat ss) anew_seats ∙ pins_same x.desk.state.cache x.desk.state.awake.items x.desk.state.seats.items) anew_state

  pub follow_anew : (i : ℕ) (seat : Seat) → slice_get anew.state.seats.items i ≡ Some seat → seat.is_closing ≡ false → IsFollowing x.desk.state.cache seat
  follow_anew i seat here going = (ready_anew i seat here going).follows

  few_now : length (filter_map pin_of_seat x.desk.state.seats.items) + length (filter_map (pin_of_entry x.desk.state.cache.instances) (exchanges_of x.desk.state.flow)) ≤ 320
  few_now =
      omega (
        arith,
        few_seats x.desk.state.seats.items,
        same_length number name x.desk.state.seats.items h.clients done.turn.steps.shows.clients,
        may.clients,
        few_entries number none_leaves x.desk.state.flow h x.desk.state.cache.instances done.turn.steps.shows.exchanges may.bodies,
      )

  pinnable : ArePinnable st e
  unfolding regained
  pinnable = record {
    following = followers number name anew.state.cache e (steps_in Evicting number name none_leaves peers (parts anew.state) u steps_anew).shows.table.table anew.state.seats.items e.clients steps_anew.shows.clients
        (λ i seat here going. subst (λ (m : Memory). IsFollowing m seat) (sym anew_cache) (follow_anew i seat here going));
    clients = near_all anew.state.seats.items (of_each (λ i seat. IfSome (next_of seat) (λ n. n.at / 4096 < 2 ^ 32)) (near_on x.desk.state.cache) may.near);
    exchanges = λ n d at. may.exchanges n d (ap (λ (f : Exchanges). entry_of n f) (sym anew_flow) ∙ at);
    few =
        subst (λ (p : Turn). length (filter_map pin_of_seat anew.state.seats.items) + length (filter_map (pin_of_entry p.cache.instances) (exchanges_of p.flow)) ≤ 320) (sym anew_state)
        (subst (λ (ps : List (ℕ × ℕ)). length ps + length (filter_map (pin_of_entry x.desk.state.cache.instances) (exchanges_of x.desk.state.flow)) ≤ 320)
        (sym (ap (λ (ss : List Seat). filter_map pin_of_seat ss) anew_seats ∙ pins_same x.desk.state.cache x.desk.state.awake.items x.desk.state.seats.items)) few_now);
  }

  evicting_anew : (anew.state.is_evicting ≡ u.is_evicting) ⊎ (next_victim (pins anew.state) anew.state.floor anew.state.cache.chunks ≡ None)
  unfolding regained
  evicting_anew = by may.evicting
    where
      by : (x.desk.state.is_evicting ≡ h.is_evicting) ⊎ (next_victim (pins x.desk.state) x.desk.state.floor x.desk.state.cache.chunks ≡ None) → (anew.state.is_evicting ≡ h.is_evicting) ⊎ (next_victim (pins anew.state) anew.state.floor anew.state.cache.chunks ≡ None)
      by (inl same) = inl (ap (λ (p : Turn). p.is_evicting) anew_state ∙ same)
      by (inr none) = inr (ap₂ (λ (ps : List (ℕ × ℕ)) (p : Turn). next_victim ps p.floor p.cache.chunks) pins_are anew_state ∙ none)

  steps_e : ShowsSteps number name none_leaves peers (parts anew.state) e
  steps_e = steps_in Evicting number name none_leaves peers (parts anew.state) u steps_anew

  are_leaving : AreLeaving number name none_leaves peers st e
  unfolding regained
  are_leaving = record {
    none = done.none;
    at = refl;
    shows = steps_e;
    forgotten = ap (λ (p : Turn). p.forgotten) anew_state ∙ may.forgotten;
    evicting = refl;
    floor_is = ap (λ (p : Turn). p.floor) anew_state ∙ may.floor_is;
    pinned = pinned number name none_leaves peers (parts anew.state) e steps_e st refl pinnable;
  }

  same : leaving_chunks st ≡ leaving_chunks anew.state
  same = same_go anew.state u.is_evicting evicting_anew

  pub notes_are : leaving_notes st ≡ log
  notes_are =
      ap (λ (places : List (ℕ × ℕ)). forgotten_notes anew.state.forgotten ++ forgotten_notes anew.state.refused ++ evicted_notes anew.state.cache.instances places) same ∙ sym leaves.log_is

  left_same : left_memory st ≡ record (left_memory anew.state) { is_evicting = u.is_evicting }
  left_same = ap (λ (places : List (ℕ × ℕ)). record st { cache = record st.cache { chunks = without_all places st.cache.chunks }; forgotten = []; refused = [] }) same

  pub left_rest : record left.state { cache = (left_memory anew.state).cache } ≡ left_memory anew.state
  left_rest = leaves.leaves.is.rest

  but : IsButForCells (left_memory st) after
  but = subst (λ (p : Turn). IsButForCells p after) (sym left_same) (record { rest = ap (λ (p : Turn). record p { is_evicting = u.is_evicting }) left_rest; cache = leaves.leaves.is.cache })

  pub led : Leads (leaving_notes st) e v × HaveLeft number name none_leaves peers after v
  led = leavings number name none_leaves peers st after e but are_leaving
