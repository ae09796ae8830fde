-- A kept row that comes into memory: what the turn has shows the law's state with it.
use Rattle.std.proofs.Common.{arith, ◌≡◌, ◌<◌, ◌⊎◌, inl, inr, refl, sym, subst, ap, ap₂, ◌∙◌, ℕ, ◌+◌, Bool, true, false, ◌&&◌, ◌||◌, ◌==◌, cond, find, is_some, List, [], ◌∷◌, ◌++◌, filter, Option, Some, None}
use Rattle.std.specs.Prelude.{bytes_eq}
use Rattle.std.specs.List.{list_any}
use Rattle.std.proofs.lemmas.Bool.Decides.{nat_tests}
use Rattle.std.proofs.lemmas.Slice.Eq.{bytes_eq-Decides}
use Rattle.pp_cache.specs.Memory.{Memory, with_row}
use Rattle.pp_cache.specs.OnDisk.{kept_to}
use Rattle.pp_cache_law.proofs.Alike.{instances_of, rows_of}
use Rattle.pp_cache_law.proofs.Entering.{enterings_of, no_row}
use Rattle.pp_cache_law.proofs.Finds.{find_joined, first_of_two}
use Rattle.pp_cache_law.proofs.Making.{after_m}
use Rattle.pp_cache_law.proofs.Numbers.{is_same, same_test}
use Rattle.pp_cache_law.specs.Pairs.{AreAll, AreBoth}
use Rattle.pp_cache_law.specs.Reads.{IsFound}
use Rattle.pp_cache_law.specs.Settles.{entered, numbered}
use Rattle.pp_cache_law.specs.Tables.{ShowsCache, ShowsInstance, ShowsTable}
use Rattle.pp_flow.specs.Changes.{Exchanges, entry_of}
use Rattle.pp_flow.specs.Entries.{Span}
use Rattle.pp_flow.specs.declared.entry.Entry.{Entry as Asking}
use Rattle.pp_flow_law.proofs.Framed.{frames as flow_frames}
use Rattle.pp_flow_law.specs.Tables.{Leaving, ShowsFlow, has_none}
use Rattle.pp_fresh.specs.declared.aging.Times.{Times}
use Rattle.pp_law.specs.Connections.{exchange}
use Rattle.pp_law.specs.Lists.{Bytes}
use Rattle.pp_law.specs.State.{State, Entry, Exchange, Instance as Known}
use Rattle.pp_law.specs.Table.{add_row, is_row_of, row, row_on_disk}
use Rattle.pp_objects.specs.Changes.{given_back_by, new_row, retired_from}
use Rattle.pp_objects.specs.Instances.{Instance, id_of, in_slot, is_in_slot, is_life, is_same_id, is_there, row_of}
use Rattle.pp_objects.specs.Kept.{kept_of}
use Rattle.pp_objects.specs.declared.id.ObjectId.{ObjectId}
use Rattle.pp_peers.specs.declared.peers.Peer.{Peer}
use Rattle.pp_peers_law.specs.Peers.{ShowConns}
use Rattle.pp_seats.specs.declared.seat.Seat.{Seat}
use Rattle.pp_seats_law.specs.Exchanges.{Binding, ShowsExchange}
use Rattle.pp_states_law.proofs.Asked.{all_as, frames, itself}
use Rattle.pp_due.specs.OnDisk.{Enters, IsBrought, kept_alone as kept_in_turn, with_kept}
use Rattle.pp_state.specs.declared.state.State.{State as Turn}
use Rattle.pp_states_law.proofs.Told.{told_of}
use Rattle.pp_states_law.specs.Told.{AreTold, EachIsTold, IsTold, IsToldBy}
use Rattle.pp_store.specs.Kept.{Kept, KeptMap, kept_of as kept_in_store}
use Rattle.pp_target.specs.Name.{name_of}
use Rattle.pp_text.specs.Fields.{Field}
use Rattle.pp_valid.specs.declared.version.Version.{Version}
use Rattle.pp_turns_law.specs.Turns.{ShowsTurn}
use Rattle.pp_turns_law.proofs.Decides.{grown, known_of}
use Rattle.pp_turns_law.proofs.Numbered.{AreGivenLives, AreSame, exchange_as, seats_as}
use Rattle.pp_turns_law.specs.Rows.{AreReady, HasComeIn, IsKeptAs, IsReady, RowsComeInAsTheLaws, ShowsDisk, ShowsKept, kept_alone, with_entry, with_row_of}

none_some : {A : Type 0} {x : A} → None ≡ Some x → ⊥
none_some e = absurd (cc e)

-- ---- what is there behind it

after : Memory → ObjectId → Bytes → Entry → Memory
after m id key e = after_m m (kept_to id e.extent m.extents) id key e.version e.fields e.times

life_by : (other : ObjectId) (new : Instance) (o : Option Instance) (b : Bool) → (new.slot == other.slot) ≡ b → is_life other.life (first_of_two o (cond b (Some new) None)) ≡ true → (is_life other.life o ≡ true) ⊎ (other ≡ id_of new)
life_by other new (Some i) b at there = inl there
life_by other new None false at there = absurd (cc there)
life_by other new None true at there = inr (ap₂ (λ (slot life : ℕ). record { slot = slot; life = life }) (sym (is_same new.slot other.slot at)) (sym (is_same new.life other.life there)))

there_or_new : (other : ObjectId) (is : List Instance) (new : Instance) → is_there other (is ++ new ∷ []) ≡ true → (is_there other is ≡ true) ⊎ (other ≡ id_of new)
there_or_new other is new there =
    life_by other new (in_slot other.slot is) (new.slot == other.slot) refl (sym (ap (λ (o : Option Instance). is_life other.life o) (find_joined (is_in_slot other.slot) is (new ∷ []))) ∙ there)

still_by : (other : ObjectId) (o v : Option Instance) → is_life other.life o ≡ true → is_life other.life (first_of_two o v) ≡ true
still_by other (Some i) v there = there
still_by other None v there = absurd (cc there)

still_there : (other : ObjectId) (is : List Instance) (new : Instance) → is_there other is ≡ true → is_there other (is ++ new ∷ []) ≡ true
still_there other is new there =
    ap (λ (o : Option Instance). is_life other.life o) (find_joined (is_in_slot other.slot) is (new ∷ [])) ∙ still_by other (in_slot other.slot is) (in_slot other.slot (new ∷ [])) there

-- ---- numbers

isnt : (a b : ℕ) → a < b → (a == b) ≡ false
isnt a b less = grind (arith, nat_tests, less)

same_numbers : (lives next : ℕ) (number : ℕ → ℕ) → AreSame lives number (numbered lives next number)
same_numbers lives next number life less = ap (λ (b : Bool). cond b next (number life)) (isnt life lives less)

new_number : (lives next : ℕ) (number : ℕ → ℕ) → numbered lives next number lives ≡ next
new_number lives next number = ap (λ (b : Bool). cond b next (number lives)) (same_test lives lives refl)

given_there : (number : ℕ → ℕ) (m : Memory) (s : State) (id : ObjectId) → ShowsTable number m s → is_there id m.instances ≡ true → id.life < m.lives
given_there number m s id table there =
    let one : IsFound number m s id = instances_of number m s table id there in
    subst (λ (other : ObjectId). other.life < m.lives) one.same one.shows.given

and_false : (b : Bool) → (b && false) ≡ false
and_false true = refl
and_false false = refl

-- it is told apart from the new one too
told_as : (number : ℕ → ℕ) (m : Memory) (s : State) (new : Instance) (k : Memory) (id : ObjectId) → ShowsTable number m s → new.life ≡ m.lives → k.instances ≡ m.instances ++ new ∷ [] → k.lives ≡ m.lives + 1 → IsTold number m s.next_instance id
    → IsTold (numbered m.lives s.next_instance number) k (s.next_instance + 1) id
told_as number m s new k id table life instances lives told = record {
  given = omega (arith, told.given, lives);
  made = omega (arith, told.made, same_numbers m.lives s.next_instance number id.life told.given);
  apart = λ other there. by other (there_or_new other m.instances new (sym (ap (λ (is : List Instance). is_there other is) instances) ∙ there));
}
  where
    by : (other : ObjectId) → (is_there other m.instances ≡ true) ⊎ (other ≡ id_of new) → is_same_id id other ≡ (numbered m.lives s.next_instance number id.life == numbered m.lives s.next_instance number other.life)
    by other (inl there) =
        told.apart other there
        ∙ ap₂ (λ (a b : ℕ). a == b) (sym (same_numbers m.lives s.next_instance number id.life told.given)) (sym (same_numbers m.lives s.next_instance number other.life (given_there number m s other table there)))
    by other (inr same) =
        let here : other.life ≡ m.lives = ap (λ (i : ObjectId). i.life) same ∙ life in
        let apart : id.life < other.life = omega (arith, told.given, here) in
        let less : numbered m.lives s.next_instance number id.life < s.next_instance = omega (arith, told.made, same_numbers m.lives s.next_instance number id.life told.given) in
        ap (λ (b : Bool). (id.slot == other.slot) && b) (isnt id.life other.life apart) ∙ and_false (id.slot == other.slot)
        ∙ sym (ap (λ (n : ℕ). numbered m.lives s.next_instance number id.life == n) (ap (λ (n : ℕ). numbered m.lives s.next_instance number n) here ∙ new_number m.lives s.next_instance number) ∙ isnt (numbered m.lives s.next_instance number id.life) s.next_instance less)

bound_as : (number : ℕ → ℕ) (m : Memory) (s : State) (new : Instance) (k : Memory) (o : Option Span) → ShowsTable number m s → new.life ≡ m.lives → k.instances ≡ m.instances ++ new ∷ [] → k.lives ≡ m.lives + 1 → IsToldBy number m s.next_instance o
    → IsToldBy (numbered m.lives s.next_instance number) k (s.next_instance + 1) o
bound_as number m s new k None table life instances lives told = tt
bound_as number m s new k (Some b) table life instances lives told = told_as number m s new k b.0 table life instances lives told

each_as : (number : ℕ → ℕ) (m : Memory) (s : State) (new : Instance) (k : Memory) (xs : List Asking) → ShowsTable number m s → new.life ≡ m.lives → k.instances ≡ m.instances ++ new ∷ [] → k.lives ≡ m.lives + 1 → EachIsTold number m s.next_instance xs
    → EachIsTold (numbered m.lives s.next_instance number) k (s.next_instance + 1) xs
each_as number m s new k [] table life instances lives told = tt
each_as number m s new k (x ∷ xs) table life instances lives told = (bound_as number m s new k x.exchange.bound table life instances lives told.0, each_as number m s new k xs table life instances lives told.1)

-- ---- exchanges

life_of : (number : ℕ → ℕ) (m : Memory) (next : ℕ) (o : Option Span) (b : Binding) → IsToldBy number m next o → o ≡ Some b → b.0.life < m.lives
life_of number m next o b told is = let one : IsTold number m next b.0 = subst (λ (u : Option Span). IsToldBy number m next u) is told in one.given

both_as : (number other : ℕ → ℕ) (m : Memory) (next : ℕ) (x : Option Asking) (e : Option Exchange) → AreSame m.lives number other → ((y : Asking) → x ≡ Some y → IsToldBy number m next y.exchange.bound) → AreBoth (ShowsExchange number) x e
    → AreBoth (ShowsExchange other) x e
both_as number other m next None None same told both = tt
both_as number other m next (Some x) (Some e) same told both = exchange_as m.lives number other x e same (λ b is. life_of number m next x.exchange.bound b (told x refl) is) both
both_as number other m next None (Some e) same told both = absurd both
both_as number other m next (Some x) None same told both = absurd both

waiting_as : (number other : ℕ → ℕ) (m : Memory) (next : ℕ) (xs : List Asking) (es : List Exchange) → AreSame m.lives number other → EachIsTold number m next xs → AreAll (ShowsExchange number) xs es → AreAll (ShowsExchange other) xs es
waiting_as number other m next [] [] same told all = tt
waiting_as number other m next [] (e ∷ es) same told all = absurd all
waiting_as number other m next (x ∷ xs) [] same told all = absurd all
waiting_as number other m next (x ∷ xs) (e ∷ es) same told all =
    (exchange_as m.lives number other x e same (λ b is. life_of number m next x.exchange.bound b told.0 is) all.0, waiting_as number other m next xs es same told.1 all.1)

flow_as : (number other : ℕ → ℕ) (m : Memory) (next : ℕ) (l : Leaving) (f : Exchanges) (s : State) → AreSame m.lives number other → AreTold number m next f → ShowsFlow number l f s → ShowsFlow other l f s
flow_as number other m next l f s same told shows = record {
  each = λ n. both_as number other m next (entry_of n f) (exchange s n) same (λ x there. told_of number m next n f x told there) (shows.each n);
  waiting = waiting_as number other m next f.waiting (filter has_none s.exchanges) same told.waiting shows.waiting;
  lines = shows.lines;
  once = shows.once;
  begun = shows.begun;
  given = shows.given;
}

-- ---- the memory

memory_by : Memory → ObjectId → Bytes → Option Instance → Version → List Field → Times → ℕ → Memory
memory_by m id key u version fields times extent = record m {
  instances = retired_from u (m.instances ++ new_row id key version fields times ∷ []);
  lives = m.lives + 1;
  chunks = given_back_by u m.chunks;
  extents = kept_to id extent m.extents;
}

kept_memory : (m : Memory) (id : ObjectId) (key : Bytes) (row : Kept) (e : Entry) → IsKeptAs row e → row_of key m.instances ≡ None → with_kept id key row m ≡ after m id key e
unfolding with_row memory_by after
kept_memory m id key row e is none =
    ap (λ (u : Option Instance). memory_by m id key u row.entry.version (kept_of row.entry.fields row.entry.times) row.entry.times row.extent) none
    ∙ ap₂ (λ (v : Version) (ts : Times). memory_by m id key None v (kept_of row.entry.fields ts) ts row.extent) is.version is.times
    ∙ ap₂ (λ (fs : List Field) (n : ℕ). memory_by m id key None e.version fs e.times n) (sym is.fields) is.extent

entered_memory : (m : Memory) (id : ObjectId) (key : Bytes) (row : Kept) (e : Entry) → IsKeptAs row e → with_kept id key row m ≡ entered id key row.entry.fields e m
entered_memory m id key row e is =
    ap₂ (λ (v : Version) (ts : Times). record (with_row id key v row.entry.fields ts m) { extents = kept_to id row.extent m.extents }) is.version is.times
    ∙ ap (λ (n : ℕ). record (with_row id key e.version row.entry.fields e.times m) { extents = kept_to id n m.extents }) is.extent

-- ---- the turn

-- what comes in, where it is kept alone
record Entering (number : ℕ → ℕ) (m : Memory) (s : State) (key : Bytes) (kept : Kept) (e : Entry) (k : Memory) : Type 0 where
  pub cache : ShowsCache number m s
  pub enters : Enters key kept m k
  pub alone : row s key ≡ None
  pub is : row_on_disk s key ≡ Some e
  pub like : IsKeptAs kept e

new_of : Memory → ObjectId → Bytes → Entry → Instance
new_of m id key e = new_row id key e.version e.fields e.times

memory_of : (number : ℕ → ℕ) (m : Memory) (s : State) (key : Bytes) (kept : Kept) (e : Entry) (k : Memory) (in_it : Entering number m s key kept e k) → k ≡ after m in_it.enters.id key e
memory_of number m s key kept e k in_it = in_it.enters.entered ∙ kept_memory m in_it.enters.id key kept e in_it.like (no_row number m s key in_it.cache.table in_it.alone)

cache_of : (number : ℕ → ℕ) (m : Memory) (s : State) (key : Bytes) (kept : Kept) (e : Entry) (k : Memory) → Entering number m s key kept e k → ShowsCache (numbered m.lives s.next_instance number) k (grown s key e)
unfolding add_row
cache_of number m s key kept e k in_it =
    subst (λ (j : Memory). ShowsCache (numbered m.lives s.next_instance number) j (grown s key e)) (sym (in_it.enters.entered ∙ entered_memory m in_it.enters.id key kept e in_it.like))
    (enterings_of number m s in_it.cache in_it.enters.id key kept.entry.fields e false (record {
      vacant = in_it.enters.vacant;
      life = in_it.enters.life;
      slot = in_it.enters.slot;
      alone = in_it.alone;
      kept = in_it.is;
      fields = in_it.like.fields;
    }))

conns_of : (s : State) (key : Bytes) (e : Entry) (peers : List Peer) → ShowConns s peers s.conns → ShowConns (grown s key e) peers s.conns
conns_of s key e peers shows = frames s (grown s key e) peers s.conns (all_as s (grown s key e) (λ n. itself (exchange s n)) s.conns) shows

-- ---- what goes on

ready_as : (number : ℕ → ℕ) (m : Memory) (s : State) (key : Bytes) (kept : Kept) (e : Entry) (k : Memory) (seat : Seat) → Entering number m s key kept e k → IsReady number m s.next_instance seat
    → IsReady (numbered m.lives s.next_instance number) k (s.next_instance + 1) seat
unfolding after new_of
ready_as number m s key kept e k seat in_it ready = record {
  follows = λ a id answers own. sym (ap (λ (j : Memory). is_there id j.instances) (sym same)) ∙ still_there id m.instances (new_of m in_it.enters.id key e) (ready.follows a id answers own);
  key = ready.key;
  joined = λ id plain is. told_as number m s (new_of m in_it.enters.id key e) k id in_it.cache.table in_it.enters.life (ap (λ (j : Memory). j.instances) same) (ap (λ (j : Memory). j.lives) same) (ready.joined id plain is);
}
  where
    same : k ≡ after m in_it.enters.id key e
    same = memory_of number m s key kept e k in_it

row_before : (o v : Option Known) → first_of_two o v ≡ None → o ≡ None
row_before None v none = refl
row_before (Some x) v none = none

-- of the other keys it is kept as before
kept_as : (number : ℕ → ℕ) (m : Memory) (s : State) (shelf : KeptMap) (key : Bytes) (kept : Kept) (e : Entry) (k : Memory) → Entering number m s key kept e k → ShowsKept shelf m s → ShowsKept shelf k (grown s key e)
unfolding after
kept_as number m s shelf key kept e k in_it shows other none =
    let before : row s other ≡ None = row_before (row s other) (find (is_row_of other) (known_of s key e ∷ [])) (sym (find_joined (is_row_of other) s.instances (known_of s key e ∷ [])) ∙ none) in
    subst (λ (o : Option Kept). AreBoth IsKeptAs o (row_on_disk s other)) (sym (kept_same before)) (shows other before)
  where
    kept_by : Option Instance → List Bytes → Option Kept
    kept_by o names = elim (is_some o || list_any (bytes_eq (name_of other)) names) [ true ↦ None | false ↦ kept_in_store other shelf ]

    kept_same : row s other ≡ None → kept_in_turn other shelf k ≡ kept_in_turn other shelf m
    kept_same before =
        ap₂ (λ (o : Option Instance) (names : List Bytes). elim (is_some o || list_any (bytes_eq (name_of other)) names) as (λ c. Option Kept) [ true ↦ None | false ↦ kept_in_store other shelf ])
        (no_row (numbered m.lives s.next_instance number) k (grown s key e) other (cache_of number m s key kept e k in_it).table none ∙ sym (no_row number m s other in_it.cache.table before))
        (ap (λ (j : Memory). j.outdated) (memory_of number m s key kept e k in_it))

-- ---- all of it

with_cache : Turn → Memory → Turn
with_cache p k = record p { cache = k }

all_given : (number : ℕ → ℕ) (m : Memory) (s : State) (seats : List Seat) → ShowsTable number m s → AreReady number m s.next_instance seats → AreGivenLives m.lives seats
all_given number m s seats table ready i seat at going =
    let one : IsReady number m s.next_instance seat = ready i seat at going in
    record { source = λ a id answers own. given_there number m s id table (one.follows a id answers own); joined = λ id plain is. let told : IsTold number m s.next_instance id = one.joined id plain is in told.given }

turn_as : (number : ℕ → ℕ) (l : Leaving) (peers : List Peer) (shelf : KeptMap) (p : Turn) (s : State) (key : Bytes) (kept : Kept) (e : Entry) (k : Memory) → ShowsDisk number l peers shelf p s → Entering number p.cache s key kept e k
    → ShowsTurn (numbered p.cache.lives s.next_instance number) l peers (with_cache p k) (grown s key e)
unfolding after new_of with_cache
turn_as number l peers shelf p s key kept e k shows in_it = record {
  steps = record {
    shows = record {
      clients = seats_as p.cache.lives number (numbered p.cache.lives s.next_instance number) p.name.items [] p.seats.items s.clients same (all_given number p.cache s p.seats.items in_it.cache.table shows.ready) shows.turn.steps.shows.clients;
      exchanges =
          flow_frames (numbered p.cache.lives s.next_instance number) l p.flow s (flow_as number (numbered p.cache.lives s.next_instance number) p.cache s.next_instance l p.flow s same shows.turn.steps.told shows.turn.steps.shows.exchanges) l (grown s key e)
          (record { exchanges = refl; next = refl; lines = λ n. refl });
      table = cache_of number p.cache s key kept e k in_it;
      conns = conns_of s key e peers shows.turn.steps.shows.conns;
    };
    order = shows.turn.steps.order;
    told = record {
      waiting = each_as number p.cache s new k p.flow.waiting in_it.cache.table in_it.enters.life (ap (λ (j : Memory). j.instances) memory) (ap (λ (j : Memory). j.lives) memory) shows.turn.steps.told.waiting;
      placed = each_as number p.cache s new k p.flow.placed in_it.cache.table in_it.enters.life (ap (λ (j : Memory). j.instances) memory) (ap (λ (j : Memory). j.lives) memory) shows.turn.steps.told.placed;
    };
    refused = shows.turn.steps.refused;
  };
  name = shows.turn.name;
  shares = shows.turn.shares;
  clock = shows.turn.clock;
  ticked = shows.turn.ticked;
  stopped = shows.turn.stopped;
  bounded = in_it.enters.bounded;
}
  where
    same : AreSame p.cache.lives number (numbered p.cache.lives s.next_instance number)
    same = same_numbers p.cache.lives s.next_instance number

    new : Instance
    new = new_of p.cache in_it.enters.id key e

    memory : k ≡ after p.cache in_it.enters.id key e
    memory = memory_of number p.cache s key kept e k in_it

disk_as : (number : ℕ → ℕ) (l : Leaving) (peers : List Peer) (shelf : KeptMap) (p : Turn) (s : State) (key : Bytes) (kept : Kept) (e : Entry) (k : Memory) → ShowsDisk number l peers shelf p s → Entering number p.cache s key kept e k
    → ShowsDisk (numbered p.cache.lives s.next_instance number) l peers shelf (with_cache p k) (grown s key e)
unfolding with_cache
disk_as number l peers shelf p s key kept e k shows in_it = record {
  turn = turn_as number l peers shelf p s key kept e k shows in_it;
  kept = kept_as number p.cache s shelf key kept e k in_it shows.kept;
  ready = λ i seat at going. ready_as number p.cache s key kept e k seat in_it (shows.ready i seat at going);
  made = λ i c id plain at is. omega (arith, shows.made i c id plain at is);
}

its_row : (s : State) (key : Bytes) (e : Entry) → row s key ≡ None → row (grown s key e) key ≡ None → ⊥
its_row s key e alone none =
    none_some (sym none ∙ find_joined (is_row_of key) s.instances (known_of s key e ∷ []) ∙ ap (λ (o : Option Known). first_of_two o (find (is_row_of key) (known_of s key e ∷ []))) alone
    ∙ ap (λ (b : Bool). cond b (Some (known_of s key e)) None) ((bytes_eq-Decides key key).1 refl))

-- ---- by what is kept

alone_if : (number : ℕ → ℕ) (m : Memory) (s : State) (shelf : KeptMap) (key : Bytes) (kept : Kept) → ShowsTable number m s → kept_in_turn key shelf m ≡ Some kept → row s key ≡ None
alone_if number m s shelf key kept table is = by (row_of key m.instances) (row s key) refl (rows_of number m s table key)
  where
    by : (o : Option Instance) (q : Option Known) → row_of key m.instances ≡ o → AreBoth (ShowsInstance number m s) o q → q ≡ None
    by None None at both = refl
    by None (Some x) at both = absurd both
    by (Some i) None at both = absurd both
    by (Some i) (Some x) at both =
        absurd (none_some (sym (ap (λ (o : Option Instance). elim (is_some o || list_any (bytes_eq (name_of key)) m.outdated) as (λ c. Option Kept) [ true ↦ None | false ↦ kept_in_store key shelf ]) at) ∙ is))

same_turn : (p q : Turn) → record q { cache = p.cache } ≡ p → q ≡ with_cache p q.cache
unfolding with_cache
same_turn p q rest = ap (λ (r : Turn). record r { cache = q.cache }) rest

stays_as : (number : ℕ → ℕ) (l : Leaving) (peers : List Peer) (shelf : KeptMap) (p q : Turn) (s : State) → q ≡ p → ShowsDisk number l peers shelf p s → ShowsDisk number l peers shelf q s
stays_as number l peers shelf p q s same shows = subst (λ (r : Turn). ShowsDisk number l peers shelf r s) (sym same) shows

pub come_in : RowsComeInAsTheLaws
unfolding with_cache add_row
come_in number l peers shelf key p q s shows comes = by (kept_in_turn key shelf p.cache) refl comes.cache
  where
    table : ShowsTable number p.cache s
    table = shows.turn.steps.shows.table.table

    none_by : (o : Option Entry) → AreBoth IsKeptAs None o → o ≡ None
    none_by None both = refl
    none_by (Some e) both = absurd both

    none_on_disk : kept_in_turn key shelf p.cache ≡ None → row s key ≡ None → row_on_disk s key ≡ None
    none_on_disk is alone = none_by (row_on_disk s key) (subst (λ (o : Option Kept). AreBoth IsKeptAs o (row_on_disk s key)) is (shows.kept key alone))

    none_alone : (o : Option Known) → row s key ≡ o → (row s key ≡ None → row_on_disk s key ≡ None) → kept_alone s key ≡ None
    none_alone None at none = ap (λ (o : Option Known). elim o as (λ c. Option Entry) [ Some x ↦ None | None ↦ row_on_disk s key ]) at ∙ none at
    none_alone (Some x) at none = ap (λ (o : Option Known). elim o as (λ c. Option Entry) [ Some x ↦ None | None ↦ row_on_disk s key ]) at

    nothing : kept_in_turn key shelf p.cache ≡ None → q.cache ≡ p.cache → HasComeIn l peers shelf key q s
    nothing is same =
        let law : with_row_of key s ≡ s = ap (λ (o : Option Entry). with_entry key o s) (none_alone (row s key) refl (none_on_disk is)) in
        let turn : q ≡ p = same_turn p q comes.rest ∙ ap (λ (k : Memory). record p { cache = k }) same in
        record {
          number = number;
          shows = subst (λ (t : State). ShowsDisk number l peers shelf q t) (sym law) (stays_as number l peers shelf p q s turn shows);
          there = subst (λ (t : State). row t key ≡ None → row_on_disk t key ≡ None) (sym law) (none_on_disk is);
        }

    something : (kept : Kept) (e : Entry) → row s key ≡ None → row_on_disk s key ≡ Some e → IsKeptAs kept e → Enters key kept p.cache q.cache → HasComeIn l peers shelf key q s
    something kept e alone is like enters =
        let law : with_row_of key s ≡ grown s key e = ap (λ (o : Option Entry). with_entry key o s) (ap (λ (o : Option Known). elim o as (λ c. Option Entry) [ Some x ↦ None | None ↦ row_on_disk s key ]) alone ∙ is) in
        let in_it : Entering number p.cache s key kept e q.cache = record { cache = shows.turn.steps.shows.table; enters = enters; alone = alone; is = is; like = like } in
        record {
          number = numbered p.cache.lives s.next_instance number;
          shows =
              subst (λ (t : State). ShowsDisk (numbered p.cache.lives s.next_instance number) l peers shelf q t) (sym law)
              (subst (λ (r : Turn). ShowsDisk (numbered p.cache.lives s.next_instance number) l peers shelf r (grown s key e)) (sym (same_turn p q comes.rest)) (disk_as number l peers shelf p s key kept e q.cache shows in_it));
          there = subst (λ (t : State). row t key ≡ None → row_on_disk t key ≡ None) (sym law) (λ none. absurd (its_row s key e alone none));
        }

    some_by : (kept : Kept) (o : Option Entry) → row s key ≡ None → row_on_disk s key ≡ o → AreBoth IsKeptAs (Some kept) o → Enters key kept p.cache q.cache → HasComeIn l peers shelf key q s
    some_by kept None alone is both enters = absurd both
    some_by kept (Some e) alone is both enters = something kept e alone is both enters

    by : (o : Option Kept) → kept_in_turn key shelf p.cache ≡ o → IsBrought key o p.cache q.cache → HasComeIn l peers shelf key q s
    by None is same = nothing is same
    by (Some kept) is enters =
        let alone : row s key ≡ None = alone_if number p.cache s shelf key kept table is in
        some_by kept (row_on_disk s key) alone refl (subst (λ (o : Option Kept). AreBoth IsKeptAs o (row_on_disk s key)) is (shows.kept key alone)) enters
