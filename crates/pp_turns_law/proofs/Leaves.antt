-- An idle row leaves memory, also where another one stands behind the others.
use Rattle.std.proofs.Common.{◌≡◌, ◌≤◌, ◌+◌, refl, sym, subst, ap, ap₂, ◌∙◌, ℕ, Bool, true, false, ◌==◌, ◌&&◌, not, cond, nat_lt, find, List, [], ◌∷◌, ◌++◌, Some, None, Option, arith}
use Rattle.std.specs.Prelude.{count_by, is_some}
use Rattle.pp_cache.specs.Memory.{Memory}
use Rattle.pp_cache_law.proofs.Changed.{forgettings_of}
use Rattle.pp_cache_law.proofs.Moves.{in_slot-elsewhere, in_slot-gone}
use Rattle.pp_cache_law.proofs.Numbers.{instances_alike, is_same, number_of_shown, same_test, some_is}
use Rattle.pp_cache_law.proofs.PairLemmas.{count_first, count_joined, counted, fewer_kept, filter_joined}
use Rattle.pp_cache_law.proofs.Reaches.{is_less}
use Rattle.pp_cache_law.proofs.Rooming.{none_behind}
use Rattle.pp_cache_law.specs.Tables.{ShowsCache, ShowsInstance, ShowsTable}
use Rattle.pp_flow_law.proofs.Entries.{none_some}
use Rattle.pp_flow_law.proofs.Framed.{frames as flow_frames}
use Rattle.pp_flow_law.proofs.Told.{found_alone}
use Rattle.pp_flow_law.specs.Tables.{Leaving}
use Rattle.pp_law.specs.Connections.{exchange}
use Rattle.pp_law.specs.Lists.{Bytes, without}
use Rattle.pp_law.specs.State.{State, Chunk, Entry, Instance as Known}
use Rattle.pp_law.specs.Table.{add_row, forget, idle_row, is_idle_row, is_instance, must_forget, row, row_on_disk, rows}
use Rattle.pp_objects.specs.Changes.{without_slot}
use Rattle.pp_objects.specs.Instances.{Instance, id_of, in_slot, is_in_slot, is_life, is_there}
use Rattle.pp_objects.specs.declared.id.ObjectId.{ObjectId}
use Rattle.pp_peers.specs.declared.peers.Peer.{Peer}
use Rattle.pp_states_law.proofs.Asked.{all_as, frames, itself}
use Rattle.pp_states_law.specs.States.{Parts as Whole, ShowsState}
use Rattle.pp_state.specs.Ends.{Parts}
use Rattle.pp_state.specs.Pins.{without_instance}
use Rattle.pp_states_law.proofs.Told.{Stands, are_told_on}
use Rattle.pp_states_law.specs.Steps.{ShowsSteps, whole}
use Rattle.pp_states_law.specs.Told.{AreTold}
use Rattle.pp_turns_law.specs.Rows.{with_entry, with_row_of}

-- ---- in the program

there_before : (id : ObjectId) (slot : ℕ) (is : List Instance) → is_there id (without_slot slot is) ≡ true → is_there id is ≡ true
there_before id slot is out = at (id.slot == slot) refl
  where
    at : (b : Bool) → (id.slot == slot) ≡ b → is_there id is ≡ true
    at true same =
        let none : in_slot id.slot (without_slot slot is) ≡ None = ap (λ (n : ℕ). in_slot n (without_slot slot is)) (is_same id.slot slot same) ∙ in_slot-gone slot is in
        absurd (cc (sym (ap (λ (o : Option Instance). is_life id.life o) none) ∙ out))
    at false apart = sym (ap (λ (o : Option Instance). is_life id.life o) (in_slot-elsewhere id.slot slot is apart)) ∙ out

leaving_stands : (j : Instance) (m : Memory) (next : ℕ) → Stands m (without_instance j m) next next
leaving_stands j m next = record { lives = omega arith; numbers = omega arith; there = λ other there. there_before other j.slot m.instances there }

forgotten_state : (number : ℕ → ℕ) (name : Bytes) (l : Leaving) (p : Whole) (s : State) (m : Memory) (n : ℕ) → ShowsState number name [] l p s → ShowsCache number m (forget n s) → ShowsState number name [] l (record p { memory = m }) (forget n s)
unfolding forget
forgotten_state number name l p s m n shows table = record {
  clients = shows.clients;
  exchanges = flow_frames number l p.flow s shows.exchanges l (forget n s) (record { exchanges = refl; next = refl; lines = λ k. refl });
  table = table;
  conns = frames s (forget n s) p.peers s.conns (all_as s (forget n s) (λ k. itself (exchange s k)) s.conns) shows.conns;
}

next_kept : (n : ℕ) (s : State) → (forget n s).next_instance ≡ s.next_instance
unfolding forget
next_kept n s = refl

pub forgets_show : (number : ℕ → ℕ) (name : Bytes) (l : Leaving) (peers : List Peer) (p : Parts) (s : State) (j : Instance) (x : Known) → ShowsSteps number name l peers p s → ShowsInstance number p.cache s j x
    → ShowsSteps number name l peers (record p { cache = without_instance j p.cache }) (forget x.id s)
forgets_show number name l peers p s j x steps one =
    let there : is_there (id_of j) p.cache.instances ≡ true = ap (λ (o : Option Instance). is_life j.life o) one.there ∙ same_test j.life j.life refl in
    let table : ShowsCache number (without_instance j p.cache) (forget x.id s) = subst (λ (n : ℕ). ShowsCache number (without_instance j p.cache) (forget n s)) one.id (forgettings_of number p.cache s steps.shows.table (id_of j) there) in
    record {
      shows = forgotten_state number name l (whole p peers) s (without_instance j p.cache) x.id steps.shows table;
      order = steps.order;
      told = subst (λ (n : ℕ). AreTold number (without_instance j p.cache) n p.flow) (sym (next_kept x.id s)) (are_told_on number p.cache (without_instance j p.cache) s.next_instance s.next_instance (leaving_stands j p.cache s.next_instance) p.flow steps.told);
      refused = steps.refused;
    }

-- ---- in the law

pub few_known : (number : ℕ → ℕ) (m : Memory) (s : State) (j : Instance) (x : Known) → ShowsTable number m s → ShowsInstance number m s j x → count_by (is_instance x.id) s.instances ≤ 1
few_known number m s j x table one =
    subst (λ (n : ℕ). n ≤ 1)
    (counted (ShowsInstance number m s) (is_in_slot j.slot) (is_instance x.id) m.instances s.instances
    (λ (i : Instance) (y : Known) (shows : ShowsInstance number m s i y). instances_alike number m s j.slot x.id i y table.apart (number_of_shown number m s j x one) shows) table.instances)
    (table.alone j.slot)

some_counted : (p q : Known → Bool) (xs : List Known) (y : Known) → find q xs ≡ Some y → p y ≡ true → 1 ≤ count_by p xs
some_counted p q [] y found is = absurd (none_some y found)
some_counted p q (x ∷ xs) y found is = by (q x) found (λ there. some_counted p q xs y there is)
  where
    by : (b : Bool) → cond b (Some x) (find q xs) ≡ Some y → (find q xs ≡ Some y → 1 ≤ count_by p xs) → 1 ≤ count_by p (x ∷ xs)
    by true there rest =
        let first : count_by p (x ∷ xs) ≡ 1 + count_by p xs = count_first p x xs ∙ ap (λ (b : Bool). cond b 1 0 + count_by p xs) (ap p (some_is x y there) ∙ is) in
        omega (arith, first)
    by false there rest = let more : 1 ≤ count_by p xs = rest there in omega (arith, more, count_first p x xs)

apart_by : (a b n m : ℕ) (t : Bool) → n ≡ a + b → n ≤ 1 → 1 ≤ a → b ≡ cond t 1 0 + m → t ≡ false
apart_by a b n m true joined few some one = absurd (omega (arith, joined, few, some, one))
apart_by a b n m false joined few some one = refl

module _ (s : State) (key : Bytes) (e : Entry) (x : Known) (idle : idle_row s ≡ Some x) (few : count_by (is_instance x.id) (add_row key e.version e.fields e.times false s).instances ≤ 1) where
  abbrev new : Known
  new = record { id = s.next_instance; key = key; version = e.version; fields = e.fields; times = e.times; is_retired = false; is_new = false }

  few_both : count_by (is_instance x.id) (s.instances ++ new ∷ []) ≤ 1
  unfolding add_row
  few_both = few

  its_number : is_instance x.id x ≡ true
  its_number = same_test x.id x.id refl

  -- the one behind them has a number of its own
  apart : is_instance x.id new ≡ false
  apart =
      apart_by (count_by (is_instance x.id) s.instances) (count_by (is_instance x.id) (new ∷ [])) (count_by (is_instance x.id) (s.instances ++ new ∷ [])) (count_by (is_instance x.id) []) (is_instance x.id new)
      (count_joined (is_instance x.id) s.instances (new ∷ [])) few_both (some_counted (is_instance x.id) (is_idle_row s) s.instances x idle its_number) (count_first (is_instance x.id) new [])

  forgets_first : forget x.id (add_row key e.version e.fields e.times false s) ≡ add_row key e.version e.fields e.times false (forget x.id s)
  unfolding forget add_row
  forgets_first =
      ap (λ (is : List Known). let t : State = record s { instances = is; next_instance = s.next_instance + 1; chunks = without (λ (c : Chunk). c.instance == x.id) s.chunks } in t)
      (filter_joined (λ (y : Known). not (is_instance x.id y)) s.instances (new ∷ []) ∙ ap (λ (b : Bool). without (is_instance x.id) s.instances ++ cond (not b) (new ∷ []) []) apart)

  few_before : count_by (is_instance x.id) s.instances ≤ 1
  few_before = omega (arith, few_both, count_joined (is_instance x.id) s.instances (new ∷ []))

  abbrev is_kept_row : Known → Bool
  is_kept_row y = not y.is_retired

  fewer : is_kept_row x ≡ true → rows (forget x.id s) + 1 ≤ rows s
  unfolding forget
  fewer stands = fewer_kept is_kept_row (is_instance x.id) s.instances x (found_alone (is_instance x.id) (is_idle_row s) s.instances x idle its_number few_before) stands

no_third : (a b c d : Bool) → c ≡ false → (a && b && c && d) ≡ false
no_third a b c d is = ap (λ (t : Bool). a && b && t && d) is ∙ by a b
  where
    by : (a b : Bool) → (a && b && false && d) ≡ false
    by true true = refl
    by true false = refl
    by false true = refl
    by false false = refl

pub has_room : (s : State) (key : Bytes) (n : ℕ) → rows s + 1 ≤ n → n ≤ 1024 → must_forget s key ≡ false
has_room s key n fewer most =
    no_third (not (is_some (row s key))) (is_some (row_on_disk s key)) (not (nat_lt (rows s) 1024)) (is_some (idle_row s)) (ap not (is_less (rows s) 1024 (omega (arith, fewer, most))))

disk_kept : (n : ℕ) (s : State) (key : Bytes) → row_on_disk (forget n s) key ≡ row_on_disk s key
unfolding forget
disk_kept n s key = refl

-- of a row that is kept alone
pub with_kept : (s : State) (key : Bytes) (e : Entry) → row s key ≡ None → row_on_disk s key ≡ Some e → with_row_of key s ≡ add_row key e.version e.fields e.times false s
with_kept s key e none kept = ap₂ (λ (o : Option Known) (d : Option Entry). with_entry key (elim o as (λ t. Option Entry) [ Some x ↦ None | None ↦ d ]) s) none kept

pub forgets_before : (s : State) (key : Bytes) (e : Entry) (x : Known) → row s key ≡ None → row_on_disk s key ≡ Some e → idle_row s ≡ Some x → count_by (is_instance x.id) (add_row key e.version e.fields e.times false s).instances ≤ 1
    → forget x.id (add_row key e.version e.fields e.times false s) ≡ with_row_of key (forget x.id s)
forgets_before s key e x none kept idle few =
    forgets_first s key e x idle few ∙ sym (with_kept (forget x.id s) key e (none_behind s key x.id none) (disk_kept x.id s key ∙ kept))

pub room_behind : (s : State) (key : Bytes) (e : Entry) (x : Known) → idle_row s ≡ Some x → count_by (is_instance x.id) (add_row key e.version e.fields e.times false s).instances ≤ 1 → not x.is_retired ≡ true → rows s ≤ 1024 → must_forget (forget x.id s) key ≡ false
room_behind s key e x idle few stands most = has_room (forget x.id s) key (rows s) (fewer s key e x idle few stands) most
