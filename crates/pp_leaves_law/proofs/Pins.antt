-- The chunks in which a next byte lies, and the rows that exchanges are bound to, are those of the law.
use Rattle.std.proofs.Common.{◌≡◌, ◌≤◌, ◌<◌, refl, sym, subst, ap, ap₂, ◌∙◌, ℕ, ◌+◌, ◌/◌, ◌^◌, Bool, true, false, ◌==◌, ◌&&◌, ◌||◌, nat_lt, List, [], ◌∷◌, ◌++◌, length, take, Option, Some, None, arith}
use Rattle.std.specs.List.{cons_option, filter_map, list_any}
use Rattle.std.specs.Prelude.{IfSome, option_and_then, option_map}
use Rattle.std.proofs.lemmas.List.{length-append, take_all}
use Rattle.std.proofs.lemmas.Bool.Decides.{nat_tests}
use Rattle.pp_turns_law.specs.Unseen.{AreFollowing}
use Rattle.pp_turns_law.proofs.AllCome.{any_alike}
use Rattle.pp_cache.specs.Memory.{Memory, used_of as as_used}
use Rattle.pp_cache_law.proofs.Finds.{find_passes}
use Rattle.pp_cache_law.proofs.Numbers.{chunks_alike, is_same, number_of_there, same_test}
use Rattle.pp_cache_law.specs.Tables.{ShowsChunk, ShowsInstance, ShowsTable}
use Rattle.pp_flow.specs.Changes.{entry_of}
use Rattle.pp_flow.specs.Entries.{Span}
use Rattle.pp_flow.specs.declared.entry.Entry.{Entry}
use Rattle.pp_holes.specs.Places.{Chunk}
use Rattle.pp_law.specs.Chunks.{is_chunk, used_of}
use Rattle.pp_law.specs.Connections.{exchange}
use Rattle.pp_law.specs.Lists.{Bytes, is_some_with}
use Rattle.pp_law.specs.Stages.{bound_of}
use Rattle.pp_law.specs.State.{State, Bound, Client, Exchange, Instance as Known, Chunk as Front}
use Rattle.pp_laws.proofs.Tests.{first_holds, second_holds}
use Rattle.pp_law.specs.Table.{Next, is_bound_to, next_of as next_by, pin_of_client, pin_of_exchange}
use Rattle.pp_objects.specs.Instances.{Instance, id_of, in_slot, is_in_slot, is_life, is_same_id, is_there}
use Rattle.pp_objects.specs.declared.id.ObjectId.{ObjectId}
use Rattle.pp_pool.specs.Chunks.{is_pinned, is_place}
use Rattle.pp_seats.specs.Follows.{next_of}
use Rattle.pp_seats.specs.declared.seat.Next.{Next as SeatNext}
use Rattle.pp_seats.specs.declared.seat.Seat.{Seat}
use Rattle.pp_seats_law.proofs.Entries.{exchanges}
use Rattle.pp_seats_law.proofs.Nexts.{nexts}
use Rattle.pp_seats_law.specs.Clients.{AreShown}
use Rattle.pp_seats_law.specs.Exchanges.{ShowsBound, ShowsExchange}
use Rattle.pp_seats_law.specs.Seats.{ShowsSeat}
use Rattle.pp_seats_law.specs.Words.{HasSource, ShowsNext}
use Rattle.pp_state.specs.Ends.{Parts, parts}
use Rattle.pp_state.specs.Pins.{busy_row, chunk_at, exchanges_of, pin_of_entry, pin_of_next, pin_of_seat, pin_of_span}
use Rattle.pp_states_law.proofs.Told.{told_of}
use Rattle.pp_states_law.specs.Steps.{ShowsSteps}
use Rattle.pp_states_law.specs.Told.{IsTold, IsToldBy}
use Rattle.pp_leaves_law.specs.Pinned.{AreNear, BusyIsTheLaws, PinnedIsTheLaws}

-- ---- any of what is gathered

abbrev pub holds : {B : Type 0} → (B → Bool) → Option B → Bool
holds P None = false
holds P (Some y) = P y

any_consed : {B : Type 0} (P : B → Bool) (o : Option B) (ys : List B) → list_any P (cons_option o ys) ≡ (holds P o || list_any P ys)
any_consed P None ys = refl
any_consed P (Some y) ys = refl

any_gathered : {A B : Type 0} (P : B → Bool) (f : A → Option B) (xs : List A) → list_any P (filter_map f xs) ≡ list_any (λ x. holds P (f x)) xs
any_gathered P f [] = refl
any_gathered P f (x ∷ xs) = any_consed P (f x) (filter_map f xs) ∙ ap (λ (b : Bool). holds P (f x) || b) (any_gathered P f xs)

or_three : (a b c : Bool) → (a || (b || c)) ≡ ((a || b) || c)
or_three true b c = refl
or_three false b c = refl

any_joined : {B : Type 0} (P : B → Bool) (xs ys : List B) → list_any P (xs ++ ys) ≡ (list_any P xs || list_any P ys)
any_joined P [] ys = refl
any_joined P (x ∷ xs) ys = ap (λ (b : Bool). P x || b) (any_joined P xs ys) ∙ or_three (P x) (list_any P xs) (list_any P ys)

-- ---- none is left out

all_taken : {B : Type 0} (n : ℕ) (xs ys : List B) → length xs + length ys ≤ n → take n (take n xs ++ ys) ≡ xs ++ ys
all_taken n xs ys few =
    ap (λ (zs : List _). take n (zs ++ ys)) (take_all n xs (omega (arith, few))) ∙ take_all n (xs ++ ys) (omega (arith, few, length-append xs ys))

-- ---- a chunk, and the next bytes

-- an id that is that of an instance in a slot is there
there_by : (id : ObjectId) (is : List Instance) (i : Instance) → in_slot id.slot is ≡ Some i → i.life ≡ id.life → is_there id is ≡ true
there_by id is i at life = ap (is_life id.life) at ∙ same_test i.life id.life life

abbrev id_with : ℕ → ℕ → ObjectId
id_with slot life = record { slot = slot; life = life }

same_slot : (id : ObjectId) (i : Instance) → is_same_id id (id_of i) ≡ true → id ≡ id_of i
same_slot id i same =
    ap (λ (n : ℕ). id_with n id.life) (is_same id.slot i.slot (first_holds (id.slot == i.slot) (id.life == i.life) same))
    ∙ ap (λ (n : ℕ). id_with i.slot n) (is_same id.life i.life (second_holds (id.slot == i.slot) (id.life == i.life) same))

either_way : (a b : ℕ) → (a == b) ≡ (b == a)
either_way a b = grind (arith, nat_tests)

same_ids : (a b : ObjectId) → is_same_id a b ≡ is_same_id b a
same_ids a b = ap₂ (λ (s t : Bool). s && t) (either_way a.slot b.slot) (either_way a.life b.life)

found_slot : (slot : ℕ) (is : List Instance) (i : Instance) → in_slot slot is ≡ Some i → i.slot ≡ slot
found_slot slot is i at = is_same i.slot slot (find_passes (is_in_slot slot) is i at)

module _ (number : ℕ → ℕ) (m : Memory) (s : State) (table : ShowsTable number m s) (c : Chunk) (d : Front) (one : ShowsChunk number m c d) where
  abbrev lies_here : ℕ × ℕ → Bool
  lies_here p = is_place p (as_used c)

  abbrev lies_there : ℕ × ℕ → Bool
  lies_there p = is_place p (used_of d)

  at_same : (id : ObjectId) (n at index : ℕ) → is_there id m.instances ≡ true → number id.life ≡ n → at ≡ index → lies_here (id.slot, at) ≡ lies_there (n, index)
  at_same id n at index there is same =
      chunks_alike number m id.slot n at c d table.apart (number_of_there number id m.instances there ∙ ap (λ (k : ℕ). Some k) is) one
      ∙ ap (λ (i : ℕ). is_chunk n i d) same

  numbered : (id : ObjectId) (at : ℕ) → at / 4096 < 2 ^ 32 → chunk_at id at ≡ Some (id.slot, at / 4096)
  numbered id at near =
      let is : nat_lt (at / 4096) (2 ^ 32) ≡ true = grind (arith, nat_tests, near) in
      ap (λ (b : Bool). elim b as (λ t. Option (ℕ × ℕ)) [ true ↦ Some (id.slot, at / 4096) | false ↦ None ]) is

  -- ---- of a client

  next_same : (u : Option SeatNext) (v : Option Next) → ShowsNext number u v → IfSome u (λ x. is_there x.source m.instances ≡ true) → IfSome u (λ x. x.at / 4096 < 2 ^ 32)
      → holds lies_here (option_and_then pin_of_next u) ≡ holds lies_there (elim v as (λ o. Option (ℕ × ℕ)) [ None ↦ None | Some n ↦ Some (n.source.id, n.at / 4096) ])
  next_same None None next there near = refl
  next_same None (Some n) next there near = absurd next
  next_same (Some x) None next there near = absurd next
  next_same (Some x) (Some n) next there near =
      ap (holds lies_here) (numbered x.source x.at near) ∙ at_same x.source n.source.id (x.at / 4096) (n.at / 4096) there next.source (ap (λ (k : ℕ). k / 4096) next.at)

  client_same : (name : Bytes) (owed : List Bytes) (seat : Seat) (x : Client) → ShowsSeat number name owed seat x → (x.is_closing ≡ false → HasSource s x) → IfSome (next_of seat) (λ y. is_there y.source m.instances ≡ true) → IfSome (next_of seat) (λ y. y.at / 4096 < 2 ^ 32)
      → holds lies_here (pin_of_seat seat) ≡ holds lies_there (pin_of_client s x)
  client_same name owed seat x shows has there near = next_same (next_of seat) (next_by s x) (nexts number s name owed seat x shows has) there near

  clients_same : (name : Bytes) (owed : List Bytes) (seats : List Seat) (cs : List Client) → AreShown number name owed seats cs → AreFollowing m s seats cs → AreNear seats
      → list_any (λ seat. holds lies_here (pin_of_seat seat)) seats ≡ list_any (λ x. holds lies_there (pin_of_client s x)) cs
  clients_same name owed [] [] shown following near = refl
  clients_same name owed [] (x ∷ cs) shown following near = absurd shown
  clients_same name owed (seat ∷ seats) [] shown following near = absurd shown
  clients_same name owed (seat ∷ seats) (x ∷ cs) shown following near =
      ap₂ (λ (a b : Bool). a || b) (client_same name owed seat x shown.0 following.1 following.0 near.0) (clients_same name owed seats cs shown.1 following.2 near.1)

  -- ---- of an exchange

  -- what is there and has its number is it
  aliased : (id : ObjectId) (next n : ℕ) → IsTold number m next id → number id.life ≡ n → is_there id m.instances ≡ false → d.instance ≡ n → ⊥
  aliased id next n told is gone same = by (in_slot c.owner m.instances) refl one.owner
    where
      by : (o : Option Instance) → in_slot c.owner m.instances ≡ o → option_map (λ (i : Instance). number i.life) o ≡ Some d.instance → ⊥
      by None at numbered = let h : None ≡ Some d.instance = numbered in cc
      by (Some i) at numbered =
          let has : number i.life ≡ n = (let h : Some (number i.life) ≡ Some d.instance = numbered in let g : number i.life ≡ d.instance = cc in g ∙ same) in
          let slot : i.slot ≡ c.owner = found_slot c.owner m.instances i at in
          let here : in_slot i.slot m.instances ≡ Some i = ap (λ (k : ℕ). in_slot k m.instances) slot ∙ at in
          let there : is_there (id_of i) m.instances ≡ true = there_by (id_of i) m.instances i here refl in
          let told_same : is_same_id id (id_of i) ≡ true = told.apart (id_of i) there ∙ same_test (number id.life) (number i.life) (is ∙ sym has) in
          let id_is : id ≡ id_of i = same_slot id i told_same in
          let bad : true ≡ false = sym there ∙ ap (λ (other : ObjectId). is_there other m.instances) (sym id_is) ∙ gone in
          cc bad

  -- what is gone has no chunk
  none_here : (id : ObjectId) (next n index : ℕ) → IsTold number m next id → number id.life ≡ n → is_there id m.instances ≡ false → lies_there (n, index) ≡ false
  none_here id next n index told is gone = by (d.instance == n) refl
    where
      by : (b : Bool) → (d.instance == n) ≡ b → (b && (d.index == index)) ≡ false
      by false isnt = refl
      by true same = absurd (aliased id next n told is gone (is_same d.instance n same))

  bound_same : (next : ℕ) (u : Option Span) (v : Option Bound) → ShowsBound number u v → IsToldBy number m next u → IfSome u (λ b. b.1 / 4096 < 2 ^ 32)
      → holds lies_here (option_and_then (pin_of_span m.instances) u)
      ≡ holds lies_there (elim v as (λ o. Option (ℕ × ℕ)) [ None ↦ None | Some b ↦ elim (nat_lt b.next b.to) as (λ t. Option (ℕ × ℕ)) [ true ↦ Some (b.instance, b.next / 4096) | false ↦ None ] ])
  bound_same next None None bound told near = refl
  bound_same next None (Some b) bound told near = absurd bound
  bound_same next (Some x) None bound told near = absurd bound
  bound_same next (Some x) (Some b) bound told near = by (nat_lt x.1 x.2) (nat_lt b.next b.to) (is_there x.0 m.instances) refl (ap₂ nat_lt bound.1.next bound.1.to)
    where
      by : (less other there : Bool) → is_there x.0 m.instances ≡ there → less ≡ other
          → holds lies_here (elim (less && there) as (λ t. Option (ℕ × ℕ)) [ true ↦ chunk_at x.0 x.1 | false ↦ None ])
          ≡ holds lies_there (elim other as (λ t. Option (ℕ × ℕ)) [ true ↦ Some (b.instance, b.next / 4096) | false ↦ None ])
      by false false there is same = refl
      by true true true is same = ap (holds lies_here) (numbered x.0 x.1 near) ∙ at_same x.0 b.instance (x.1 / 4096) (b.next / 4096) is bound.1.joined (ap (λ (k : ℕ). k / 4096) bound.1.next)
      by true true false is same = sym (none_here x.0 next b.instance (b.next / 4096) told bound.1.joined is)
      by true false there is same = absurd (let h : true ≡ false = same in cc)
      by false true there is same = absurd (let h : false ≡ true = same in cc)

-- ---- all of them

pub pinned : PinnedIsTheLaws
pinned number name l peers p s shows st is may c d one =
    let here : ℕ × ℕ → Bool = λ q. is_place q (as_used c) in
    let there : ℕ × ℕ → Bool = λ q. is_place q (used_of d) in
    let seats : List (ℕ × ℕ) = filter_map pin_of_seat st.seats.items in
    let entries : List (ℕ × ℕ) = filter_map (pin_of_entry st.cache.instances) (exchanges_of st.flow) in
    let whole : ShowsSteps number name l peers (parts st) s = subst (λ (q : Parts). ShowsSteps number name l peers q s) (sym is) shows in
    let table : ShowsTable number st.cache s = whole.shows.table.table in
    let clients : list_any (λ seat. holds here (pin_of_seat seat)) st.seats.items ≡ list_any (λ x. holds there (pin_of_client s x)) s.clients =
    clients_same number st.cache s table c d one name [] st.seats.items s.clients whole.shows.clients may.following may.clients in
    let bound : list_any (λ x. holds here (pin_of_entry st.cache.instances x)) (exchanges_of st.flow) ≡ list_any (λ e. holds there (pin_of_exchange e)) s.exchanges =
    any_alike number l st.flow s whole.shows.exchanges (λ x. holds here (pin_of_entry st.cache.instances x)) (λ e. holds there (pin_of_exchange e)) (λ n x e at known shown.
    bound_same number st.cache s table c d one s.next_instance x.exchange.bound (bound_of e) (exchanges number x e shown).bound (told_of number st.cache s.next_instance n st.flow x whole.told at) (may.exchanges n x at)) in
    ap (λ (places : List (ℕ × ℕ)). is_pinned places (as_used c)) (all_taken 320 seats entries may.few)
    ∙ any_joined here seats entries
    ∙ ap₂ (λ (a b : Bool). a || b)
    (any_gathered here pin_of_seat st.seats.items ∙ clients ∙ sym (any_gathered there (pin_of_client s) s.clients))
    (any_gathered here (pin_of_entry st.cache.instances) (exchanges_of st.flow) ∙ bound ∙ sym (any_gathered there pin_of_exchange s.exchanges))
    ∙ sym (any_joined there (filter_map (pin_of_client s) s.clients) (filter_map pin_of_exchange s.exchanges))

-- ---- rows that exchanges are bound to

bound_to : (number : ℕ → ℕ) (m : Memory) (s : State) (next : ℕ) (i : Instance) (x : Known) (u : Option Span) (v : Option Bound) → ShowsInstance number m s i x → ShowsBound number u v → IsToldBy number m next u
    → holds (is_same_id (id_of i)) (option_map (λ (b : Span). b.0) u) ≡ is_some_with (λ b. b.instance == x.id) v
bound_to number m s next i x None None one bound told = refl
bound_to number m s next i x None (Some b) one bound told = absurd bound
bound_to number m s next i x (Some y) None one bound told = absurd bound
bound_to number m s next i x (Some y) (Some b) one bound told =
    same_ids (id_of i) y.0 ∙ told.apart (id_of i) (there_by (id_of i) m.instances i one.there refl) ∙ ap₂ (λ (a b : ℕ). a == b) bound.1.joined one.id

pub busy : BusyIsTheLaws
busy number name l peers p s shows few i x one =
    ap (list_any (is_same_id (id_of i))) (take_all 64 (filter_map busy_row (exchanges_of p.flow)) few)
    ∙ any_gathered (is_same_id (id_of i)) busy_row (exchanges_of p.flow)
    ∙ any_alike number l p.flow s shows.shows.exchanges (λ e. holds (is_same_id (id_of i)) (busy_row e)) (is_bound_to x.id) each
  where
    each : (n : ℕ) (e : Entry) (d : Exchange) → entry_of n p.flow ≡ Some e → exchange s n ≡ Some d → ShowsExchange number e d → holds (is_same_id (id_of i)) (busy_row e) ≡ is_bound_to x.id d
    each n e d at known shown =
        bound_to number p.cache s s.next_instance i x e.exchange.bound (bound_of d) one (exchanges number e d shown).bound (told_of number p.cache s.next_instance n p.flow e shows.told at)
