-- Behind a decision the turn stands as before it.
use Rattle.std.proofs.Common.{◌≡◌, ◌⊎◌, ◌<◌, inl, inr, refl, sym, subst, ap, ap₂, ◌∙◌, ℕ, zero, suc, Bool, true, false, ◌==◌, ◌||◌, cond, find, map, filter, length, List, [], ◌∷◌, Option, Some, None, option_map}
use Rattle.std.specs.Prelude.{slice_get, slice_set}
use Rattle.pp_cache.specs.Bounds.{IsBounded}
use Rattle.pp_cache.specs.Memory.{Memory}
use Rattle.pp_cache_law.proofs.Numbers.{is_same, same_test, some_is}
use Rattle.pp_cache_law.specs.Pairs.{AreAll}
use Rattle.pp_conf.specs.Conf.{Settings}
use Rattle.pp_due.specs.Entering.{key_at}
use Rattle.pp_laws.proofs.Lists.{in_append, in_filter, in_find}
use Rattle.pp_law.specs.Connections.{anew}
use Rattle.pp_objects.specs.Changes.{is_elsewhere}
use Rattle.pp_seats.specs.declared.key.Key.{Key as OwnedKey}
use Rattle.pp_state.specs.Pins.{is_for_memory}
use Rattle.pp_cache_law.specs.Tables.{ShowsInstance, ShowsTable}
use Rattle.pp_turns_law.proofs.BegunAsks.{WasSeat}
use Rattle.pp_turns_law.proofs.Changed.{get_set}
use Rattle.pp_turns_law.proofs.Regained.{get_other, regains}
use Rattle.pp_turns_law.specs.Regains.{AllFollow}
use Rattle.pp_turns_law.specs.Takes.{taken}
use Rattle.pp_flow_law.specs.Tables.{AreGiven, none_leaves}
use Rattle.pp_law.specs.Lists.{Bytes, has_number}
use Rattle.pp_law.specs.Opening.{is_at, is_same_phase}
use Rattle.pp_law.specs.Replies.{regained, regained_by}
use Rattle.pp_law.specs.State.{State, Joins, Client, Instance as Known, Phase, Reply, Stage, Undecided, Waiting, Passing, Answering, Deciding, DecidingAgain}
use Rattle.pp_law.specs.Table.{instance, is_instance}
use Rattle.pp_laws.specs.Runs.{IsIn}
use Rattle.pp_laws_turn.specs.SoundTurn.{IsSoundTurn}
use Rattle.pp_objects.specs.Instances.{Instance, id_of, in_slot, is_in_slot, is_life, is_row_of, is_there}
use Rattle.pp_peers.specs.declared.peers.Peer.{Peer}
use Rattle.pp_seats.specs.Dues.{refused_in}
use Rattle.pp_seats.specs.Follows.{answer_in}
use Rattle.pp_seats.specs.declared.seat.Course.TheVariants.{Trying}
use Rattle.pp_seats.specs.declared.seat.Seat.{Seat}
use Rattle.pp_state.specs.Ends.{Parts, all_regained, changed_at, parts, regained as regained_seat}
use Rattle.pp_state.specs.declared.state.State.{State as Turn}
use Rattle.pp_steps.specs.Evicting.{given_way, row_in_way, without_row}
use Rattle.pp_states_law.specs.Steps.{ShowsSteps}
use Rattle.pp_states_law.specs.Told.{IsTold}
use Rattle.pp_store.specs.Kept.{KeptMap}
use Rattle.pp_take.specs.Deciding.{Takes, accounted, key_for, marked_for, row_at, row_by, with_marked}
use Rattle.pp_turns_law.specs.Firsts.{AreAwake, FirstDueInMemory, IsAsleep, IsFirst, with_row_if}
use Rattle.pp_turns_law.specs.Rows.{AreReady, IsReady}
use Rattle.pp_turns_law.specs.Turns.{ShowsTurn}
use Rattle.pp_seats.specs.declared.due.Due.{Due as SeatDue}
use Rattle.pp_seats.specs.declared.due.Due.TheVariants.{Decide as IsDecidedDue}
use Rattle.pp_world.specs.declared.note.Decision.{Decision}
use Rattle.pp_deciding_law.proofs.Disk.{in_place}
use Rattle.pp_deciding_law.proofs.Found.{found_at, same_place, IsButForMemory, awake_on, first_keeps, first_notes_none, kept_on}
use Rattle.pp_deciding_law.proofs.Keeps.{Keeps, keeps_then, set_length, takes_keep, way_keeps}
use Rattle.pp_deciding_law.proofs.Law.{SameWords, row_kept, regained_as, taken_disk, taken_phase, taken_words}
use Rattle.pp_deciding_law.proofs.Leads.{found, its_taking}
use Rattle.pp_deciding_law.specs.Behind.{DecisionsStand, IsBehind}
use Rattle.pp_deciding_law.specs.Stands.{StandsBehind, StandsToDecide}
use Rattle.pp_deciding_law.specs.Takes.{IsNext, RestsOn, TakesAsTheLaw, behind_taken, to_take}
use Rattle.pp_deciding_law.proofs.Stays.{AreSourced, awake_now, ready_now}

-- ---- attempts that count anew leave all else of a seat

module _ (m : Memory) where
  one_length : (i : ℕ) (seats : List Seat) → length (changed_at i (regained_seat m) seats) ≡ length seats
  one_length i seats = by (slice_get seats i)
    where
      by : (o : Option Seat) → length (elim o as (λ t. List Seat) [ None ↦ seats | Some seat ↦ slice_set seats i (regained_seat m seat) ]) ≡ length seats
      by None = refl
      by (Some seat) = set_length i seats (regained_seat m seat)

  pub regained_length : (places : List ℕ) (seats : List Seat) → length (all_regained m places seats) ≡ length seats
  regained_length [] seats = refl
  regained_length (i ∷ is) seats = regained_length is (changed_at i (regained_seat m) seats) ∙ one_length i seats

  one_was : (seat : Seat) → regained_seat m seat ≡ record seat { course = (regained_seat m seat).course }
  one_was seat = by _
    where
      by : (b : Bool) → (let x : Seat = cond b (record seat { course = Trying 0 }) seat in x ≡ record seat { course = x.course })
      by true = refl
      by false = refl

  was_before : (i : ℕ) (seats : List Seat) (j : ℕ) (seat : Seat) → slice_get (changed_at i (regained_seat m) seats) j ≡ Some seat → WasSeat seats j seat
  was_before i seats j seat at = by (slice_get seats i) (i == j) refl refl at
    where
      stays : slice_get seats j ≡ Some seat → WasSeat seats j seat
      stays there = record { before = seat; there = there; same = refl }

      by : (o : Option Seat) (b : Bool) → slice_get seats i ≡ o → (i == j) ≡ b → slice_get (elim o as (λ t. List Seat) [ None ↦ seats | Some x ↦ slice_set seats i (regained_seat m x) ]) j ≡ Some seat → WasSeat seats j seat
      by None b here same there = stays there
      by (Some x) false here apart there = stays (sym (get_other i j seats (regained_seat m x) apart) ∙ there)
      by (Some x) true here same there =
          let is : regained_seat m x ≡ seat = some_is (regained_seat m x) seat (sym (get_set i seats x (regained_seat m x) here) ∙ ap (λ (k : ℕ). slice_get (slice_set seats i (regained_seat m x)) k) (is_same i j same) ∙ there) in
          record {
            before = x;
            there = ap (λ (k : ℕ). slice_get seats k) (sym (is_same i j same)) ∙ here;
            same = subst (λ (y : Seat). y ≡ record x { course = y.course }) is (one_was x);
          }

  pub all_were : (places : List ℕ) (seats : List Seat) (j : ℕ) (seat : Seat) → slice_get (all_regained m places seats) j ≡ Some seat → WasSeat seats j seat
  all_were [] seats j seat at = record { before = seat; there = at; same = refl }
  all_were (i ∷ is) seats j seat at =
      let later : WasSeat (changed_at i (regained_seat m) seats) j seat = all_were is (changed_at i (regained_seat m) seats) j seat at in
      let earlier : WasSeat seats j later.before = was_before i seats j later.before later.there in
      record { before = earlier.before; there = earlier.there; same = later.same ∙ ap (λ (x : Seat). let y : Seat = record x { course = seat.course } in y) earlier.same }

  other_seat : (i : ℕ) (seats : List Seat) (j : ℕ) → (i == j) ≡ false → slice_get (changed_at i (regained_seat m) seats) j ≡ slice_get seats j
  other_seat i seats j apart = by (slice_get seats i)
    where
      by : (o : Option Seat) → slice_get (elim o as (λ t. List Seat) [ None ↦ seats | Some x ↦ slice_set seats i (regained_seat m x) ]) j ≡ slice_get seats j
      by None = refl
      by (Some x) = get_other i j seats (regained_seat m x) apart

  pub others_were : (places : List ℕ) (seats : List Seat) (j : ℕ) → has_number j places ≡ false → slice_get (all_regained m places seats) j ≡ slice_get seats j
  others_were [] seats j none = refl
  others_were (i ∷ is) seats j none = by (i == j) refl none (λ isnt. others_were is (changed_at i (regained_seat m) seats) j isnt)
    where
      by : (b : Bool) → (i == j) ≡ b → (b || has_number j is) ≡ false → (has_number j is ≡ false → slice_get (all_regained m is (changed_at i (regained_seat m) seats)) j ≡ slice_get (changed_at i (regained_seat m) seats) j)
          → slice_get (all_regained m is (changed_at i (regained_seat m) seats)) j ≡ slice_get seats j
      by true same isnt rest = absurd (cc isnt)
      by false apart isnt rest = rest isnt ∙ other_seat i seats j apart

-- ---- what is found is of one who is looked at

or_true : (b : Bool) → (b || true) ≡ true
or_true true = refl
or_true false = refl

pub found_in : (shelf : KeptMap) (places : List ℕ) (p q : Turn) (i : ℕ) (d : SeatDue) → FirstDueInMemory shelf places p q (found_at i d) → has_number i places ≡ true
unfolding FirstDueInMemory
found_in shelf [] p q i d first = absurd (cc first.1)
found_in shelf (j ∷ places) p q i d (now, due, its, rest) = by (λ more. found_in shelf places now q i d more) due rest
  where
    by : (FirstDueInMemory shelf places now q (found_at i d) → has_number i places ≡ true) → (o : Option SeatDue) → (elim o as (λ c. Type 0) [ Some e ↦ (q ≡ now) × (found_at i d ≡ found_at j e) | None ↦ FirstDueInMemory shelf places now q (found_at i d) ]) → has_number i (j ∷ places) ≡ true
    by later (Some e) here = ap (λ (b : Bool). b || has_number i places) (same_test j i (sym (same_place i j d e here.1).0))
    by later None more = ap (λ (b : Bool). (j == i) || b) (later more) ∙ or_true (j == i)

-- ---- what the law's client follows

abbrev reply_at : Stage → Option Reply
reply_at stage = elim stage [ Undecided ↦ None | Waiting ↦ None | Passing ↦ None | Answering r ↦ Some r ]

-- attempts that count anew leave all else of it
record IsClientStill (c d : Client) : Type 0 where
  closing : d.is_closing ≡ c.is_closing
  stage : d.stage ≡ c.stage
  brought : d.brought ≡ c.brought

client_still : (s : State) (c : Client) → IsClientStill c (regained_by s c)
client_still s c = by _
  where
    by : (b : Bool) → IsClientStill c (elim b as (λ t. Client) [ true ↦ record c { course = anew c.course } | false ↦ c ])
    by true = record { closing = refl; stage = refl; brought = refl }
    by false = record { closing = refl; stage = refl; brought = refl }

map_at : (f : Client → Client) (cs : List Client) (j : ℕ) (c : Client) → slice_get cs j ≡ Some c → slice_get (map f cs) j ≡ Some (f c)
map_at f [] j c at = absurd (cc at)
map_at f (d ∷ cs) zero c at = ap (λ (o : Option Client). option_map f o) at
map_at f (d ∷ cs) (suc j) c at = map_at f cs j c at

module _ (s : State) where
  behind_clients : (regained s).clients ≡ map (regained_by s) s.clients
  unfolding regained
  behind_clients = refl

  behind_instances : (regained s).instances ≡ s.instances
  unfolding regained
  behind_instances = refl

  behind_next : (regained s).next_instance ≡ s.next_instance
  unfolding regained
  behind_next = refl

  behind_in : (j : ℕ) (c : Client) → slice_get s.clients j ≡ Some c → IsIn (regained_by s c) (regained s).clients
  behind_in j c at = in_place j (regained s).clients (regained_by s c) (ap (λ (cs : List Client). slice_get cs j) behind_clients ∙ map_at (regained_by s) s.clients j c at)

  -- what it is answered from is there
  source_at_place : IsSoundTurn (regained s) → (j : ℕ) (c : Client) (r : Reply) (id : ℕ) → slice_get s.clients j ≡ Some c → c.is_closing ≡ false → c.stage ≡ Answering r → r.source ≡ Some id → (x : Known) × (instance s id ≡ Some x)
  source_at_place sound j c r id at going stage source =
      let still : IsClientStill c (regained_by s c) = client_still s c in
      let has : (x : Known) × (instance (regained s) id ≡ Some x) = sound.sources (regained_by s c) (behind_in j c at) (still.closing ∙ going) r id (ap (λ (t : Stage). reply_at t) (still.stage ∙ stage)) source in
      (has.0, ap (λ (xs : List Known). find (is_instance id) xs) (sym behind_instances) ∙ has.1)

  made_at_place : IsSoundTurn (regained s) → (j : ℕ) (c : Client) (id : ℕ) (plain : Bool) → slice_get s.clients j ≡ Some c → c.brought ≡ Joins id plain → id < s.next_instance
  made_at_place sound j c id plain at brought =
      subst (λ (n : ℕ). id < n) behind_next (sound.made (regained_by s c) id plain (behind_in j c at) ((client_still s c).brought ∙ brought))

-- ---- a row of the turn is there

there_of : (number : ℕ → ℕ) (m : Memory) (s : State) → ShowsTable number m s → (x : Instance) → IsIn x m.instances → is_there (id_of x) m.instances ≡ true
there_of number m s table x here = by m.instances s.instances table.instances here
  where
    by : (is : List Instance) (xs : List Known) → AreAll (ShowsInstance number m s) is xs → IsIn x is → is_there (id_of x) m.instances ≡ true
    by [] xs all none = absurd none
    by (i ∷ is) [] all one = absurd all
    by (i ∷ is) (y ∷ ys) all (inl same) = ap (λ (o : Option Instance). is_life x.life o) (subst (λ (z : Instance). in_slot z.slot m.instances ≡ Some z) (sym same) all.0.there) ∙ same_test x.life x.life refl
    by (i ∷ is) (y ∷ ys) all (inr later) = by is ys all.1 later

row_in_turn : (i : ℕ) (d : Decision) (q : Turn) (x : Instance) → row_at i (accounted i d (marked_for i d (parts (given_way d i q)))) ≡ Some x → IsIn x q.cache.instances
row_in_turn i d q x at = in_way (row_in_way d i q) (in_marked (is_for_memory d) (row_at i (parts (given_way d i q))) (in_key (key_for i (accounted i d (marked_for i d (parts (given_way d i q)))).seats) at))
  where
    in_key : (o : Option OwnedKey) → row_by o (marked_for i d (parts (given_way d i q))).cache ≡ Some x → IsIn x (marked_for i d (parts (given_way d i q))).cache.instances
    in_key None is = absurd (cc is)
    in_key (Some key) is = (in_find (is_row_of key.text.items) x (marked_for i d (parts (given_way d i q))).cache.instances is).0

    in_marked : (b : Bool) (o : Option Instance) → IsIn x (elim b as (λ t. Parts) [ true ↦ parts (given_way d i q) | false ↦ record (parts (given_way d i q)) { cache = with_marked o (given_way d i q).cache } ]).cache.instances → IsIn x (given_way d i q).cache.instances
    in_marked true o here = here
    in_marked false None here = here
    in_marked false (Some y) here = either (in_append x (filter (is_elsewhere y.slot) (given_way d i q).cache.instances) (filter (is_in_slot y.slot) (given_way d i q).cache.instances) here)
      where
        either : IsIn x (filter (is_elsewhere y.slot) (given_way d i q).cache.instances) ⊎ IsIn x (filter (is_in_slot y.slot) (given_way d i q).cache.instances) → IsIn x (given_way d i q).cache.instances
        either (inl one) = (in_filter (is_elsewhere y.slot) x (given_way d i q).cache.instances one).0
        either (inr one) = (in_filter (is_in_slot y.slot) x (given_way d i q).cache.instances one).0

    in_way : (o : Option Instance) → IsIn x (without_row o q).cache.instances → IsIn x q.cache.instances
    in_way None here = here
    in_way (Some j) here = (in_filter (is_elsewhere j.slot) x q.cache.instances here).0

-- ---- all

module _ (number0 : ℕ → ℕ) (peers : List Peer) (shelf : KeptMap) (i : ℕ) (due : Decision) (p q r : Turn) (s : State) (seat : Seat) (c : Client) (between : Parts) (stands : StandsToDecide number0 peers shelf p s) (sound : IsSoundTurn s) (next : IsNext shelf i due p q s seat c)
    (rests : RestsOn i due p q s seat c) (it : Takes q.name.items i due (parts (given_way due i q)) between) (behind : IsBehind q r between) (bounded : IsBounded r.cache) (then : IsSoundTurn (behind_taken seat.client.id due s)) where
  abbrev text : Option Bytes
  text = key_at i p

  abbrev t : State
  t = taken c due (to_take due s)

  abbrev turn : Turn
  turn = given_way due i q

  abbrev first : IsFirst none_leaves peers shelf p q s (Some (i, IsDecidedDue due))
  first = found number0 peers shelf i due p q s seat c between stands sound next rests it

  abbrev number : ℕ → ℕ
  number = first.number

  takes_so : TakesAsTheLaw number i due peers q s seat c between
  takes_so = its_taking number0 peers shelf i due p q s seat c between stands sound next rests it

  sound_then : IsSoundTurn (regained t)
  sound_then = subst (λ (v : State). IsSoundTurn v) takes_so.regains then

  before_table : ShowsTable number q.cache (with_row_if text s)
  before_table = first.shows.turn.steps.shows.table.table

  -- ---- before attempts count anew

  row_there : (x : Instance) → row_at i (accounted i due (marked_for i due (parts turn))) ≡ Some x → is_there (id_of x) q.cache.instances ≡ true
  row_there x at = there_of number q.cache (with_row_if text s) before_table x (row_in_turn i due q x at)

  keeps_between : Keeps q.cache i (parts q) between
  keeps_between = keeps_then q.cache i (parts q) (parts turn) between (way_keeps q.cache i (row_in_way due i q) q) (takes_keep q.cache i q.name.items due (parts turn) between row_there it)

  same_count : length r.seats.items ≡ length between.seats
  same_count = ap (λ (x : Parts). length x.seats) behind.is ∙ regained_length between.cache q.awake.items between.seats

  abbrev mid : Turn
  mid = record r { seats = record r.seats { items = between.seats; ok = (r.seats.ok.0 ∙ same_count, r.seats.ok.1) } }

  mid_parts : parts mid ≡ between
  mid_parts = ap (λ (x : Parts). let y : Parts = record x { seats = between.seats } in y) behind.is

  keeps : Keeps q.cache i (parts q) (parts mid)
  keeps = subst (λ (x : Parts). Keeps q.cache i (parts q) x) (sym mid_parts) keeps_between

  same_name : r.name.items ≡ q.name.items
  same_name = ap (λ (v : Turn). v.name.items) behind.rest

  same_awake : r.awake.items ≡ q.awake.items
  same_awake = ap (λ (v : Turn). v.awake.items) behind.rest

  same_ticked : r.is_ticked ≡ q.is_ticked
  same_ticked = ap (λ (v : Turn). v.is_ticked) behind.rest

  -- all that is set is as before
  set : IsButForMemory p q
  set = first_keeps shelf p.awake.items p q (Some (i, IsDecidedDue due)) next.first

  turn_mid : ShowsTurn number none_leaves peers mid t
  turn_mid =
      let words : SameWords s t = taken_words c due s in
      record {
        steps = subst (λ (x : Parts). ShowsSteps number r.name.items none_leaves peers x t) (sym mid_parts) (subst (λ (name : Bytes). ShowsSteps number name none_leaves peers between t) (sym same_name) takes_so.shows);
        name = same_name ∙ ap (λ (v : Turn). v.name.items) set ∙ stands.turn.name ∙ ap (λ (x : Settings). x.name) (sym words.settings);
        shares = ap (λ (v : Turn). v.shares_fetches) behind.rest ∙ ap (λ (v : Turn). v.shares_fetches) set ∙ stands.turn.shares ∙ ap (λ (x : Settings). x.shares_fetches) (sym words.settings);
        clock = ap (λ (v : Turn). v.now) behind.rest ∙ ap (λ (v : Turn). v.now) set ∙ stands.turn.clock ∙ sym words.clock;
        ticked = same_ticked ∙ ap (λ (v : Turn). v.is_ticked) set ∙ stands.turn.ticked ∙ sym words.ticked;
        stopped = ap (λ (v : Turn). v.is_stopped) behind.rest ∙ ap (λ (v : Turn). v.is_stopped) set ∙ stands.turn.stopped ∙ sym words.stopped;
        bounded = bounded;
      }

  looked_at : has_number i q.awake.items ≡ true
  looked_at = ap (λ (v : Turn). has_number i v.awake.items) set ∙ found_in shelf p.awake.items p q i (IsDecidedDue due) next.first

  awake_mid : AreAwake mid
  awake_mid = awake_now q mid q.cache i keeps same_awake same_ticked looked_at (awake_on p q set stands.awake)

  sourced : AreSourced t
  sourced = record { source = source_at_place t sound_then; made = made_at_place t sound_then }

  ready_mid : AreReady number r.cache t.next_instance between.seats
  ready_mid = ready_now number r.name.items peers i q mid (with_row_if text s) t seat before_table first.shows.ready next.here keeps turn_mid.steps sourced

  follow_mid : AllFollow mid
  follow_mid j new at going = (ready_mid j new at going).follows

  -- ---- attempts count anew

  mid_cache : r.cache ≡ between.cache
  mid_cache = ap (λ (x : Parts). x.cache) behind.is

  seats_are : r.seats.items ≡ all_regained r.cache r.awake.items between.seats
  seats_are = ap (λ (x : Parts). x.seats) behind.is ∙ ap₂ (λ (m : Memory) (places : List ℕ). all_regained m places between.seats) (sym mid_cache) (sym same_awake)

  turn_behind : ShowsTurn number none_leaves peers r (regained t)
  turn_behind = regains number none_leaves peers mid r t turn_mid awake_mid follow_mid (record { seats = seats_are; rest = refl })

  ready_behind : AreReady number r.cache (regained t).next_instance r.seats.items
  ready_behind j new at going =
      let was : WasSeat between.seats j new = all_were r.cache r.awake.items between.seats j new (ap (λ (seats : List Seat). slice_get seats j) (sym seats_are) ∙ at) in
      let one : IsReady number r.cache t.next_instance was.before = ready_mid j was.before was.there (ap (λ (x : Seat). x.is_closing) (sym was.same) ∙ going) in
      record {
        follows = λ a id answer source. one.follows a id (ap (λ (x : Seat). answer_in x.stage) (sym was.same) ∙ answer) source;
        key = λ refused. one.key (ap (λ (x : Seat). refused_in x.front) (sym was.same) ∙ refused);
        joined = λ id plain brought. subst (λ (n : ℕ). IsTold number r.cache n id) (sym (behind_next t)) (one.joined id plain (ap (λ (x : Seat). x.brought) (sym was.same) ∙ brought));
      }

  awake_behind : AreAwake r
  awake_behind = record {
    order = subst (λ (n : ℕ). AreGiven 0 n r.awake.items) (sym (ap (λ (seats : List Seat). length seats) seats_are ∙ regained_length r.cache r.awake.items between.seats)) awake_mid.order;
    others = λ j other here none.
        let one : IsAsleep mid other = awake_mid.others j other (sym (others_were r.cache r.awake.items between.seats j none) ∙ ap (λ (seats : List Seat). slice_get seats j) (sym seats_are) ∙ here) none in
        record { silent = one.silent; ticked = one.ticked };
  }

  -- ---- and the rest

  at_deciding : (is_at Deciding (regained t) || is_at DecidingAgain (regained t)) ≡ true
  at_deciding = ap (λ (f : Phase). is_same_phase Deciding f || is_same_phase DecidingAgain f) ((regained_as t).phase ∙ taken_phase c due s)

  noted : r.cache.outdated ≡ p.cache.outdated
  noted = ap (λ (m : Memory). m.outdated) mid_cache ∙ keeps_between.outdated ∙ first_notes_none shelf p.awake.items p q (Some (i, IsDecidedDue due)) next.first

  stands_behind : StandsToDecide number peers shelf r (regained t)
  stands_behind = record {
    deciding = record { at = at_deciding; none = (regained_as t).room };
    turn = turn_behind;
    disk = kept_on shelf p.cache r.cache s (regained t) noted (row_kept s (regained t) (taken_disk c due s)) stands.disk;
    ready = ready_behind;
    kept = stands.kept;
    awake = awake_behind;
  }

  stands_so : StandsBehind peers shelf r (behind_taken seat.client.id due s)
  stands_so = record { number = number; stands = subst (λ (v : State). StandsToDecide number peers shelf r v) (sym takes_so.regains) stands_behind }

pub stand : DecisionsStand
stand number peers shelf i due p q r s seat c between stands sound next rests it behind bounded then = stands_so number peers shelf i due p q r s seat c between stands sound next rests it behind bounded then
