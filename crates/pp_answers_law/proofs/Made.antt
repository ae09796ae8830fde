-- A response of another version makes a new row, to which its body belongs, as the law has it.
use Rattle.std.proofs.Common.{◌≡◌, ◌<◌, ◌⊎◌, inl, inr, refl, sym, subst, ap, ap₂, ◌∙◌, ℕ, ◌+◌, Bool, true, false, ◌==◌, ◌&&◌, cond, find, List, [], ◌∷◌, ◌++◌, Some, None, Option, nat_le, nat_lt, arith}
use Rattle.std.proofs.lemmas.Bool.Decides.{nat_tests}
use Rattle.std.proofs.lemmas.Slice.Eq.{bytes_eq-Decides}
use Rattle.std.specs.Prelude.{count_by}
use Rattle.pp_cache.specs.Memory.{Memory, with_outdated, with_row}
use Rattle.pp_cache_law.proofs.Alike.{instances_of, rows_of}
use Rattle.pp_cache_law.proofs.Finds.{find_joined, first_of_two, none_passes}
use Rattle.pp_cache_law.proofs.Moves.{in_slot-elsewhere, in_slot-other}
use Rattle.pp_cache_law.proofs.Numbers.{is_same, same_test, true_false}
use Rattle.pp_cache_law.proofs.Rooming.{makings_of}
use Rattle.pp_cache_law.specs.Pairs.{AreBoth}
use Rattle.pp_cache_law.specs.Reads.{IsFound}
use Rattle.pp_cache_law.specs.Rooms.{room_by, with_room, without_one}
use Rattle.pp_cache_law.specs.Settles.{numbered}
use Rattle.pp_cache_law.specs.Tables.{ShowsInstance}
use Rattle.pp_flow.specs.Entries.{Span}
use Rattle.pp_flow.specs.declared.entry.Entry.{Entry}
use Rattle.pp_flow_law.proofs.Framed.{frames as flow_frames}
use Rattle.pp_flow_law.proofs.Told.{found_alone}
use Rattle.pp_flow_law.specs.Tables.{Leaving, line_in}
use Rattle.pp_fresh.specs.declared.aging.Times.{Times}
use Rattle.pp_heads_law.proofs.Ruled.{times}
use Rattle.pp_law.specs.Connections.{exchange, is_client, is_conn, is_exchange}
use Rattle.pp_law.specs.Lists.{Bytes}
use Rattle.pp_law.specs.OwnHeads.{key_of, settle_on, times_for as law_times}
use Rattle.pp_law.specs.State.{State, Client, Conn, Exchange, Instance as Known}
use Rattle.pp_law.specs.Table.{add_row, clear, forget, forget_row, idle_row, make_row, row, rows, swept, with_room as law_room}
use Rattle.pp_objects.specs.Changes.{changed_in, new_row, retired, retired_from, without_slot}
use Rattle.pp_objects.specs.Instances.{Instance, in_slot, is_idle, is_in_slot, is_life, is_row, is_row_of, is_same_id, is_there, row_of}
use Rattle.pp_objects.specs.Kept.{kept_of}
use Rattle.pp_objects.specs.declared.id.ObjectId.{ObjectId}
use Rattle.pp_peers.specs.declared.peers.Peer.{Peer}
use Rattle.pp_peers_law.specs.Peers.{ShowConns}
use Rattle.pp_seats_law.specs.Clients.{AreShown}
use Rattle.pp_states_law.proofs.Asked.{all_as, frames, itself}
use Rattle.pp_states_law.specs.Asks.{IsAskedAs}
use Rattle.pp_states_law.specs.States.{ShowsState}
use Rattle.pp_state.specs.Ends.{Parts}
use Rattle.pp_answers.specs.FinalHeads.{noted_body}
use Rattle.pp_state.specs.Pins.{busy_rows}
use Rattle.pp_answers.specs.Rows.{in_memory, not_refused, settled_on}
use Rattle.pp_states_law.proofs.Charged.{same_entry}
use Rattle.pp_states_law.proofs.Told.{there_before}
use Rattle.pp_states_law.specs.Steps.{ShowsSteps, whole}
use Rattle.pp_states_law.specs.Told.{EachIsTold, IsTold, IsToldBy}
use Rattle.pp_text.specs.Fields.{Field}
use Rattle.pp_valid.specs.declared.version.Version.{Version}
use Rattle.pp_answers_law.specs.Making.{MakesAreTheLaws, MayMake, roomed}
use Rattle.pp_answers_law.proofs.Busy.{busies}
use Rattle.pp_answers_law.proofs.Dropped.{there_too}
use Rattle.pp_answers_law.proofs.Joined.{joins}
use Rattle.pp_answers_law.proofs.Numbered.{clients_kept, flow_kept, keeps}

-- ---- the law changes nothing but rows

record IsBut (s t : State) : Type 0 where
  clients : t.clients ≡ s.clients
  conns : t.conns ≡ s.conns
  exchanges : t.exchanges ≡ s.exchanges
  next_exchange : t.next_exchange ≡ s.next_exchange
  next_instance : t.next_instance ≡ s.next_instance

roomed_rest : (s : State) → IsBut s (law_room s)
unfolding law_room forget_row forget
roomed_rest s = by (nat_lt (rows s) 1024) (idle_row s)
  where
    by : (b : Bool) (o : Option Known) → IsBut s (elim b as (λ t. State) [ true ↦ s | false ↦ elim o as (λ t. State) [ None ↦ s | Some x ↦ forget_row x s ] ])
    by true o = record { clients = refl; conns = refl; exchanges = refl; next_exchange = refl; next_instance = refl }
    by false None = record { clients = refl; conns = refl; exchanges = refl; next_exchange = refl; next_instance = refl }
    by false (Some x) = record { clients = refl; conns = refl; exchanges = refl; next_exchange = refl; next_instance = refl }

cleared_rest : (key : Bytes) (s : State) → IsBut s (clear key s)
unfolding clear swept
cleared_rest key s = record { clients = refl; conns = refl; exchanges = refl; next_exchange = refl; next_instance = refl }

record IsMade (s t : State) : Type 0 where
  clients : t.clients ≡ s.clients
  conns : t.conns ≡ s.conns
  exchanges : t.exchanges ≡ s.exchanges
  next_exchange : t.next_exchange ≡ s.next_exchange
  next_instance : t.next_instance ≡ s.next_instance + 1

added_rest : (key : Bytes) (v : Version) (fields : List Field) (at : Times) (s : State) → IsMade s (add_row key v fields at true s)
unfolding add_row
added_rest key v fields at s = record { clients = refl; conns = refl; exchanges = refl; next_exchange = refl; next_instance = refl }

made_rest : (key : Bytes) (v : Version) (fields : List Field) (at : Times) (s : State) → IsMade s (make_row key v fields at s)
unfolding make_row
made_rest key v fields at s =
    let one : IsBut s (clear key s) = cleared_rest key s in
    let two : IsBut (clear key s) (law_room (clear key s)) = roomed_rest (clear key s) in
    let three : IsMade (law_room (clear key s)) (add_row key v fields at true (law_room (clear key s))) = added_rest key v fields at (law_room (clear key s)) in
    record {
      clients = three.clients ∙ two.clients ∙ one.clients;
      conns = three.conns ∙ two.conns ∙ one.conns;
      exchanges = three.exchanges ∙ two.exchanges ∙ one.exchanges;
      next_exchange = three.next_exchange ∙ two.next_exchange ∙ one.next_exchange;
      next_instance = three.next_instance ∙ ap (λ (n : ℕ). n + 1) (two.next_instance ∙ one.next_instance);
    }

-- ---- who is there then

pub room_lives : (o : Option Instance) (busy : List ObjectId) (m : Memory) → (room_by o busy m).lives ≡ m.lives
room_lives (Some i) busy m = refl
room_lives None busy m = by (nat_le 1024 (count_by is_row m.instances)) (find (is_idle busy) m.instances)
  where
    by : (b : Bool) (o : Option Instance) → (cond b (without_one o m) m).lives ≡ m.lives
    by true None = refl
    by true (Some i) = refl
    by false o = refl

there_in_room : (o : Option Instance) (busy : List ObjectId) (m : Memory) (other : ObjectId) → is_there other (room_by o busy m).instances ≡ true → is_there other m.instances ≡ true
there_in_room (Some i) busy m other there = there
there_in_room None busy m other there = by (nat_le 1024 (count_by is_row m.instances)) (find (is_idle busy) m.instances) there
  where
    by : (b : Bool) (o : Option Instance) → is_there other (cond b (without_one o m) m).instances ≡ true → is_there other m.instances ≡ true
    by true None is = is
    by true (Some i) is = there_before other (Some (record i { followers = 0 })) m.instances is
    by false o is = is

abbrev at_end : List Instance → Instance → List Instance
at_end is new = is ++ new ∷ []

there_at_end : (other : ObjectId) (is : List Instance) (new : Instance) → is_there other (at_end is new) ≡ true → (new.life ≡ other.life) ⊎ (is_there other is ≡ true)
there_at_end other is new there = by (in_slot other.slot is) refl (sym (ap (λ (o : Option Instance). is_life other.life o) (find_joined (is_in_slot other.slot) is (new ∷ []))) ∙ there)
  where
    at : (b : Bool) → is_life other.life (cond b (Some new) None) ≡ true → (new.life ≡ other.life) ⊎ (is_there other is ≡ true)
    at true is_it = inl (is_same new.life other.life is_it)
    at false none = absurd (true_false (sym none))

    by : (o : Option Instance) → in_slot other.slot is ≡ o → is_life other.life (first_of_two o (in_slot other.slot (new ∷ []))) ≡ true → (new.life ≡ other.life) ⊎ (is_there other is ≡ true)
    by None none life = at (is_in_slot other.slot new) life
    by (Some j) is_j life = inr (ap (λ (o : Option Instance). is_life other.life o) is_j ∙ life)

-- ---- the new one stands in its slot

abbrev made : ObjectId → List ℕ → Version → List Field → Times → Instance
made id key v fields at = new_row id key v (kept_of fields at) at

end_found : (is : List Instance) (new : Instance) → in_slot new.slot is ≡ None → in_slot new.slot (at_end is new) ≡ Some new
end_found is new vacant =
    find_joined (is_in_slot new.slot) is (new ∷ [])
    ∙ ap (λ (u : Option Instance). first_of_two u (in_slot new.slot (new ∷ []))) vacant
    ∙ ap (λ (b : Bool). cond b (Some new) None) (same_test new.slot new.slot refl)

former_apart : (slot : ℕ) (key : List ℕ) (is : List Instance) (i : Instance) → in_slot slot is ≡ None → row_of key is ≡ Some i → (slot == i.slot) ≡ false
former_apart slot key is i vacant found = by (slot == i.slot) refl
  where
    by : (b : Bool) → (slot == i.slot) ≡ b → b ≡ false
    by false isnt = refl
    by true is_it = absurd (true_false (sym (same_test i.slot slot (sym (is_same slot i.slot is_it))) ∙ none_passes (is_in_slot slot) (is_row_of key) is i vacant found))

pub stands_in : (is : List Instance) (key : List ℕ) (new : Instance) → in_slot new.slot is ≡ None → in_slot new.slot (retired_from (row_of key is) (at_end is new)) ≡ Some new
stands_in is key new vacant = by (row_of key is) refl
  where
    at : (i : Instance) (b : Bool) → (new.slot == i.slot) ≡ false → in_slot new.slot (cond b (without_slot i.slot (at_end is new)) (changed_in i.slot retired (at_end is new))) ≡ Some new
    at i true apart = in_slot-elsewhere new.slot i.slot (at_end is new) apart ∙ end_found is new vacant
    at i false apart = in_slot-other new.slot i.slot retired (at_end is new) (λ j. refl) apart ∙ end_found is new vacant

    by : (o : Option Instance) → row_of key is ≡ o → in_slot new.slot (retired_from o (at_end is new)) ≡ Some new
    by None none = end_found is new vacant
    by (Some i) found = at i (i.followers == 0) (former_apart new.slot key is i vacant found)

module _ (number : ℕ → ℕ) (name : Bytes) (l : Leaving) (peers : List Peer) (p : Parts) (s : State) (shows : ShowsSteps number name l peers p s) (key : Bytes) (v : Version) (fields : List Field) (at : Times) (id : ObjectId) (may : MayMake p s) (vacant : in_slot id.slot (roomed key p).cache.instances ≡ None) (life : id.life ≡ p.cache.lives) where
  abbrev after : ℕ → ℕ
  after = numbered p.cache.lives s.next_instance number

  abbrev then : State
  then = make_row key v (kept_of fields at) at s

  abbrev room : Memory
  room = with_room key (busy_rows p.flow) p.cache

  abbrev memory : Memory
  memory = with_outdated key (with_row id key v fields at room)

  rest : IsMade s then
  rest = made_rest key v (kept_of fields at) at s

  instances_are : memory.instances ≡ retired_from (row_of key room.instances) (at_end room.instances (made id key v fields at))
  unfolding with_outdated with_row
  instances_are = refl

  lives_are : memory.lives ≡ p.cache.lives + 1
  unfolding with_outdated with_row
  lives_are = ap (λ (n : ℕ). n + 1) (room_lives (row_of key p.cache.instances) (busy_rows p.flow) p.cache)

  -- ---- by its number

  below : (other : ObjectId) → is_there other p.cache.instances ≡ true → other.life < p.cache.lives
  below other there =
      let one : IsFound number p.cache s other = instances_of number p.cache s shows.shows.table.table other there in
      subst (λ (o : ObjectId). o.life < p.cache.lives) one.same one.shows.given

  who : (other : ObjectId) → is_there other memory.instances ≡ true → (id.life ≡ other.life) ⊎ (is_there other p.cache.instances ≡ true)
  who other there = by (there_at_end other room.instances (made id key v fields at) (there_before other (row_of key room.instances) (at_end room.instances (made id key v fields at)) (subst (λ (js : List Instance). is_there other js ≡ true) instances_are there)))
    where
      by : (id.life ≡ other.life) ⊎ (is_there other room.instances ≡ true) → (id.life ≡ other.life) ⊎ (is_there other p.cache.instances ≡ true)
      by (inl new) = inl new
      by (inr old) = inr (there_in_room (row_of key p.cache.instances) (busy_rows p.flow) p.cache other old)

  neither : (a : Bool) (j k n m : ℕ) → j < n → k ≡ n → m < s.next_instance → (a && (j == k)) ≡ (m == s.next_instance)
  neither a j k n m less same small = and_off a (j == k) (m == s.next_instance) (isnt j k n less same) (small_off m s.next_instance small)
    where
      isnt : (x y z : ℕ) → x < z → y ≡ z → (x == y) ≡ false
      isnt x y z x_less y_is = grind (arith, nat_tests)

      small_off : (x y : ℕ) → x < y → (x == y) ≡ false
      small_off x y x_less = grind (arith, nat_tests)

      and_off : (x y z : Bool) → y ≡ false → z ≡ false → (x && y) ≡ z
      and_off true y z no_y no_z = no_y ∙ sym no_z
      and_off false y z no_y no_z = sym no_z

  new_number : (k : ℕ) → k ≡ p.cache.lives → after k ≡ s.next_instance
  new_number k is = ap (λ (b : Bool). cond b s.next_instance (number k)) (same_test k p.cache.lives is)

  one_told : (b : ObjectId) → IsTold number p.cache s.next_instance b → IsTold after memory then.next_instance b
  one_told b told = record {
    given = omega (arith, told.given, lives_are);
    made = subst (λ (n : ℕ). n < then.next_instance) (sym (keeps p.cache.lives s.next_instance b.life number told.given)) (omega (arith, told.made, rest.next_instance));
    apart = λ other there. by other (who other there);
  }
    where
      by : (other : ObjectId) → (id.life ≡ other.life) ⊎ (is_there other p.cache.instances ≡ true) → is_same_id b other ≡ (after b.life == after other.life)
      by other (inl new) =
          neither (b.slot == other.slot) b.life other.life p.cache.lives (number b.life) told.given (sym new ∙ life) told.made
          ∙ sym (ap₂ (λ (j k : ℕ). j == k) (keeps p.cache.lives s.next_instance b.life number told.given) (new_number other.life (sym new ∙ life)))
      by other (inr old) =
          told.apart other old ∙ sym (ap₂ (λ (j k : ℕ). j == k) (keeps p.cache.lives s.next_instance b.life number told.given) (keeps p.cache.lives s.next_instance other.life number (below other old)))

  each_told : (xs : List Entry) → EachIsTold number p.cache s.next_instance xs → EachIsTold after memory then.next_instance xs
  each_told [] told = tt
  each_told (x ∷ xs) told = (by x.exchange.bound told.0, each_told xs told.1)
    where
      by : (o : Option Span) → IsToldBy number p.cache s.next_instance o → IsToldBy after memory then.next_instance o
      by None one = tt
      by (Some b) one = one_told b.0 one

  -- ---- all of it

  as_before : (m : ℕ) → AreBoth IsAskedAs (exchange s m) (exchange then m)
  as_before m = subst (λ (es : List Exchange). AreBoth IsAskedAs (exchange s m) (find (is_exchange m) es)) (sym rest.exchanges) (itself (exchange s m))

  made_state : ShowsState after name [] l (whole (record p { cache = memory }) peers) then
  made_state = record {
    clients = subst (λ (cs : List Client). AreShown after name [] p.seats cs) (sym rest.clients) (clients_kept p.cache.lives s.next_instance number name [] p.seats s.clients may.given shows.shows.clients);
    exchanges =
        flow_frames after l p.flow s (flow_kept p.cache.lives s.next_instance number p.cache refl s.next_instance l p.flow s shows.told shows.shows.exchanges) l then
        (record { exchanges = rest.exchanges; next = rest.next_exchange; lines = λ n. ap (λ (ks : List Conn). l n ++ line_in (find (is_conn n) ks)) rest.conns });
    table = makings_of number p.cache s shows.shows.table (busy_rows p.flow) id key v fields at may.few (busies number name l peers p s shows may.busy) vacant life;
    conns = subst (λ (ks : List Conn). ShowConns then peers ks) (sym rest.conns) (frames s then peers s.conns (all_as s then as_before s.conns) shows.shows.conns);
  }

  pub made_steps : ShowsSteps after name l peers (record p { cache = memory; refused = [] }) then
  made_steps = record { shows = made_state; order = shows.order; told = record { waiting = each_told p.flow.waiting shows.told.waiting; placed = each_told p.flow.placed shows.told.placed }; refused = refl }

  pub not_refused_steps : ShowsSteps after name l peers (not_refused key (in_memory (λ m. with_outdated key (with_row id key v fields at m)) (roomed key p))) then
  not_refused_steps =
      subst (λ (keys : List (List ℕ)). ShowsSteps after name l peers (not_refused key (record p { cache = memory; refused = keys })) then) (sym shows.refused) made_steps

  -- ---- it is the row of its key

  here : row_of key memory.instances ≡ Some (made id key v fields at)
  here =
      found_alone (is_row_of key) (is_in_slot id.slot) memory.instances (made id key v fields at)
      (ap (λ (js : List Instance). in_slot id.slot js) instances_are ∙ stands_in room.instances key (made id key v fields at) vacant)
      ((bytes_eq-Decides key key).1 refl) (made_state.table.table.rows key)

  pub record IsRowNow : Type 0 where
    pub known : Known
    pub there : row then key ≡ Some known

  pub row_now : IsRowNow
  row_now = by (row then key) refl (rows_of after memory then made_state.table.table key)
    where
      by : (o : Option Known) → row then key ≡ o → AreBoth (ShowsInstance after memory then) (row_of key memory.instances) o → IsRowNow
      by None is both = absurd (subst (λ (u : Option Instance). AreBoth (ShowsInstance after memory then) u None) here both)
      by (Some y) is both = record { known = y; there = is }

pub makes : MakesAreTheLaws
makes number name l peers p s shows n x e head v id answered stands may vacant life =
    subst (λ (at : Times). ShowsSteps (numbered p.cache.lives s.next_instance number) name l peers (noted_body n (settled_on x.exchange x.errand head v id (not_refused (key_of e) (in_memory (λ m. with_outdated (key_of e) (with_row id (key_of e) v head.fields at m)) (roomed (key_of e) p)))))
    (settle_on e head v (make_row (key_of e) v (kept_of head.fields (law_times e head s)) (law_times e head s) s)))
    (sym (times number x e head (same_entry number name l peers p s shows n x e (there_too number name l peers p s shows n x e answered)) s))
    (joins (numbered p.cache.lives s.next_instance number) name l peers (not_refused (key_of e) (in_memory (λ m. with_outdated (key_of e) (with_row id (key_of e) v head.fields at m)) (roomed (key_of e) p))) (make_row (key_of e) v (kept_of head.fields at) at s)
    (not_refused_steps number name l peers p s shows (key_of e) v head.fields at id may vacant life) n x e head v (made id (key_of e) v head.fields at) now.known
    (record { placed = answered.placed; there = ap (λ (es : List Exchange). find (is_exchange n) es) rest.exchanges ∙ answered.there })
    (λ m c asks found. stands m c asks (ap (λ (cs : List Client). find (is_client m) cs) (sym rest.clients) ∙ found))
    (record { here = here number name l peers p s shows (key_of e) v head.fields at id may vacant life; there = now.there }))
  where
    at : Times
    at = law_times e head s

    rest : IsMade s (make_row (key_of e) v (kept_of head.fields at) at s)
    rest = made_rest (key_of e) v (kept_of head.fields at) at s

    now : IsRowNow number name l peers p s shows (key_of e) v head.fields at id may vacant life
    now = row_now number name l peers p s shows (key_of e) v head.fields at id may vacant life
