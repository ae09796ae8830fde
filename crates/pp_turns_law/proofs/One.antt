-- One client begins its reply, where it may: what the turn has shows what the law makes of its state.
use Rattle.std.proofs.Common.{◌≡◌, ◌≤◌, refl, sym, subst, ap, ◌∙◌, ℕ, Bool, true, false, not, ◌&&◌, find, List, [], Option, Some, None}
use Rattle.std.specs.Prelude.{count_by, slice_get, slice_set}
use Rattle.pp_cache_law.proofs.Numbers.{some_is, true_false}
use Rattle.pp_turns_law.proofs.Changed.{client_changed, counts_same}
use Rattle.pp_turns_law.proofs.Quitting.{client_left, left_memory, still_swept}
use Rattle.pp_turns_law.proofs.Refused.{left_stands}
use Rattle.pp_turns_law.proofs.Sitting.{is_at}
use Rattle.pp_flow_law.proofs.Framed.{frames as flow_frames}
use Rattle.pp_flow_law.specs.Tables.{Leaving}
use Rattle.pp_law.specs.Closing.{forsake, is_of, left_alone}
use Rattle.pp_law.specs.Connections.{exchange, is_client, is_for, on_client}
use Rattle.pp_law.specs.Lists.{Bytes, change}
use Rattle.pp_law.specs.Replies.{begins, begun_at_end}
use Rattle.pp_law.specs.Stages.{is_headed}
use Rattle.pp_law.specs.State.{State, Client, Exchange}
use Rattle.pp_law.specs.Table.{follows, swept}
use Rattle.pp_objects.specs.declared.id.ObjectId.{ObjectId}
use Rattle.pp_peers.specs.declared.peers.Peer.{Peer}
use Rattle.pp_seats.specs.declared.seat.Seat.{Seat}
use Rattle.pp_seats_law.specs.Clients.{IsAt}
use Rattle.pp_seats_law.specs.Seats.{ShowsSeat}
use Rattle.pp_states_law.proofs.Asked.{all_as, frames, itself}
use Rattle.pp_states_law.specs.States.{Parts as Whole, ShowsState}
use Rattle.pp_state.specs.Ends.{AreInOrder, Parts, parts}
use Rattle.pp_state.specs.declared.state.State.{State as Turn}
use Rattle.pp_states_law.proofs.Places.{numbers_set}
use Rattle.pp_states_law.proofs.Told.{are_told_on}
use Rattle.pp_states_law.specs.Steps.{ShowsSteps, whole}
use Rattle.pp_states_law.specs.Told.{AreTold}
use Rattle.pp_turns_law.proofs.AtOnce.{begun_one, number_is, outrun_by, stays_silent}
use Rattle.pp_turns_law.proofs.Each.{each_of, maps_same}
use Rattle.pp_turns_law.proofs.Outrun.{is_unanswered, outrun_shows, told_outrun, with_exchanges}
use Rattle.pp_turns_law.proofs.Turned.{AmidTurn, FollowsOn, Outruns, Turned, closed_is, outrun_flow}
use Rattle.pp_turns_law.specs.Begins.{IsReadyAt}

-- swept behind a change of one client
pub swept_too : (number : ℕ → ℕ) (name : Bytes) (l : Leaving) (p : Whole) (u : State) → ShowsState number name [] l p u → ShowsState number name [] l p (swept u)
unfolding swept
swept_too number name l p u shows = record {
  clients = shows.clients;
  exchanges = flow_frames number l p.flow u shows.exchanges l (swept u) (record { exchanges = refl; next = refl; lines = λ k. refl });
  table = still_swept number p.memory u shows.table;
  conns = frames u (swept u) p.peers u.conns (all_as u (swept u) (λ k. itself (exchange u k)) u.conns) shows.conns;
}

module _ (number : ℕ → ℕ) (l : Leaving) (peers : List Peer) (i : ℕ) (p q : Turn) (s : State) (seat : Seat) (c : Client) (shows : AmidTurn number l peers p s) (ready : IsReadyAt number i p s seat c)
    (there : find (is_client seat.client.id) s.clients ≡ Some c) (few : c.is_closing ≡ false → count_by (is_of seat.client.id) s.exchanges ≤ 1) (one : Turned number i p q s seat c) where
  abbrev n : ℕ
  n = seat.client.id

  abbrev name : Bytes
  name = p.name.items

  abbrev f : Client → Client
  f d = begun_at_end s d

  abbrev old : Whole
  old = whole (parts p) peers

  at : IsAt n i p.seats.items
  at = is_at i p.seats.items seat shows.steps.order ready.here

  goes : (other : Seat) (x : Client) → slice_get p.seats.items i ≡ Some other → find (is_client n) s.clients ≡ Some x → ShowsSeat number name [] other x → ShowsSeat number name [] one.new (f x)
  goes other x here found seen = subst (λ (d : Client). ShowsSeat number name [] one.new (f d)) (some_is c x (sym there ∙ found)) one.shows

  client_shows : (own : Option ObjectId) → FollowsOn number p.cache c (f c) own → ShowsState number name [] l (record old { seats = slice_set p.seats.items i one.new; memory = left_memory own p.cache }) (swept (on_client n f s))
  client_shows None on =
      swept_too number name l (record old { seats = slice_set p.seats.items i one.new }) (on_client n f s)
      (client_changed number name [] l old s shows.steps.shows n i one.new f at (λ id. counts_same number name [] (follows id) n i f p.seats.items s.clients c shows.steps.shows.clients at there (on id)) goes)
  client_shows (Some id) on = client_left number name [] l old s shows.steps.shows n i one.new f c (Some id) at there on.2 (on.0, on.1) goes

  abbrev behind : State
  behind = swept (on_client n f s)

  same_exchanges : behind.exchanges ≡ s.exchanges
  unfolding swept on_client
  same_exchanges = refl

  numbered : c.number ≡ n
  numbered = sym ready.shows.number

  outrun_shown : (b : Bool) → Outruns s c b → ShowsState number name [] l (record old { seats = slice_set p.seats.items i one.new; memory = left_memory one.own p.cache; flow = outrun_flow b n p.flow }) (forsake (outrun_by s c) behind)
  outrun_shown true begins_so =
      subst (λ (t : State). ShowsState number name [] l (record old { seats = slice_set p.seats.items i one.new; memory = left_memory one.own p.cache; flow = outrun_flow true n p.flow }) t)
      (with_exchanges (is_unanswered n) behind
      ∙ ap (λ (es : List Exchange). let t : State = record behind { exchanges = es } in t)
      (maps_same (λ (e : Exchange). elim (is_unanswered n e) as (λ t. Exchange) [ true ↦ left_alone e | false ↦ e ]) (λ (e : Exchange). elim (outrun_by s c e) as (λ t. Exchange) [ true ↦ left_alone e | false ↦ e ]) behind.exchanges
      (each_of (λ (e : Exchange). (elim (is_unanswered n e) as (λ t. Exchange) [ true ↦ left_alone e | false ↦ e ]) ≡ (elim (outrun_by s c e) as (λ t. Exchange) [ true ↦ left_alone e | false ↦ e ])) behind.exchanges
      (λ e. ap (λ (b : Bool). elim b as (λ t. Exchange) [ true ↦ left_alone e | false ↦ e ]) (tests_same e))))
      ∙ sym (with_exchanges (outrun_by s c) behind))
      (outrun_shows number name [] l (record old { seats = slice_set p.seats.items i one.new; memory = left_memory one.own p.cache }) behind (client_shows one.own one.on) n (subst (λ (es : List Exchange). count_by (is_of n) es ≤ 1) (sym same_exchanges) (few (going begins_so))))
    where
      open_by : (b : Bool) → c.is_closing ≡ b → begins s c ≡ true → c.is_closing ≡ false
      open_by true closing begun = absurd (true_false (sym begun ∙ stays_silent s c (closed_is s c closing)))
      open_by false stays begun = stays

      going : begins s c ≡ true → c.is_closing ≡ false
      going begun = open_by c.is_closing refl begun

      and_so : (b : Bool) → (b && true) ≡ b
      and_so true = refl
      and_so false = refl

      tests_same : (e : Exchange) → is_unanswered n e ≡ outrun_by s c e
      tests_same e =
          ap (λ (m : ℕ). not (is_headed e) && is_of m e) (sym numbered) ∙ ap (λ (b : Bool). not (is_headed e) && b) (sym (and_so (is_for e c)) ∙ ap (λ (b : Bool). is_for e c && b) (sym begins_so))
  outrun_shown false none =
      subst (λ (t : State). ShowsState number name [] l (record old { seats = slice_set p.seats.items i one.new; memory = left_memory one.own p.cache }) t)
      (ap (λ (es : List Exchange). let t : State = record behind { exchanges = es } in t) (same_exchanges ∙ sym none ∙ ap (λ (es : List Exchange). change (outrun_by s c) left_alone es) (sym same_exchanges)) ∙ sym (with_exchanges (outrun_by s c) behind))
      (client_shows one.own one.on)

  sweep_first : forsake (outrun_by s c) behind ≡ begun_one n c s
  unfolding begun_one forsake swept on_client
  sweep_first = refl

  next_same : (begun_one n c s).next_instance ≡ s.next_instance
  unfolding begun_one forsake swept on_client
  next_same = refl

  abbrev made : Parts
  made = record (parts p) { seats = slice_set p.seats.items i one.new; cache = left_memory one.own p.cache; flow = outrun_flow one.outruns n p.flow }

  told_by : (b : Bool) → AreTold number p.cache s.next_instance (outrun_flow b n p.flow)
  told_by true = told_outrun number p.cache s.next_instance n p.flow shows.steps.told
  told_by false = shows.steps.told

  made_shows : ShowsSteps number name l peers made (begun_one n c s)
  made_shows = record {
    shows = subst (λ (t : State). ShowsState number name [] l (whole made peers) t) sweep_first (outrun_shown one.outruns one.outrun);
    order = subst (λ (ns : List ℕ). AreInOrder ns) (sym (numbers_set i p.seats.items seat one.new ready.here (one.shows.number ∙ number_is s c ∙ numbered))) shows.steps.order;
    told = subst (λ (m : ℕ). AreTold number (left_memory one.own p.cache) m (outrun_flow one.outruns n p.flow)) (sym next_same)
        (are_told_on number p.cache (left_memory one.own p.cache) s.next_instance s.next_instance (left_stands one.own p.cache s.next_instance) (outrun_flow one.outruns n p.flow) (told_by one.outruns));
    refused = shows.steps.refused;
  }

  parts_are : parts q ≡ made
  parts_are =
      ap (λ (t : Turn). let x : Parts = record (parts t) { seats = q.seats.items } in x) one.rest
      ∙ ap (λ (seats : List Seat). let x : Parts = record made { seats = seats } in x) one.seats

  pub one_shows : ShowsSteps number q.name.items l peers (parts q) (begun_one n c s)
  one_shows =
      subst (λ (b : Bytes). ShowsSteps number b l peers (parts q) (begun_one n c s)) (sym (ap (λ (t : Turn). t.name.items) one.rest))
      (subst (λ (x : Parts). ShowsSteps number name l peers x (begun_one n c s)) (sym parts_are) made_shows)
