-- One client more follows a row, and one less what it followed: how many follow each is the law's.
use Rattle.std.proofs.Common.{◌≡◌, ◌≤◌, ◌<◌, refl, sym, subst, ap, ap₂, ◌∙◌, ℕ, ◌+◌, Bool, true, false, ◌==◌, ◌&&◌, not, cond, find, nat_lt, length, List, [], ◌∷◌, ◌++◌, filter, Some, None, Option, option_map, arith}
use Rattle.std.specs.Prelude.{count_by, slice_set}
use Rattle.pp_cache.specs.Memory.{Memory}
use Rattle.pp_cache_law.proofs.Changed.{followings_of}
use Rattle.pp_cache_law.proofs.Finds.{find_passes}
use Rattle.pp_cache_law.proofs.Framing.{frames_of, the_same}
use Rattle.pp_cache_law.proofs.Leaving.{leavings_of}
use Rattle.pp_cache_law.proofs.Moves.{changed_if, in_slot-changed}
use Rattle.pp_cache_law.proofs.Numbers.{instances_alike, number_of_shown, same_test, some_is}
use Rattle.pp_cache_law.proofs.PairLemmas.{count_first, count_joined, counted}
use Rattle.pp_cache_law.proofs.Reaches.{is_less}
use Rattle.pp_cache_law.specs.Changes.{IsFollowedToo}
use Rattle.pp_cache_law.specs.Tables.{ShowsCache, ShowsInstance, ShowsTable}
use Rattle.pp_turns_law.proofs.Quitting.{IsLeftBy, left_memory, less_is, still_swept}
use Rattle.pp_flow_law.proofs.Entries.{none_some}
use Rattle.pp_flow_law.proofs.Framed.{frames as flow_frames}
use Rattle.pp_flow_law.proofs.Told.{found_alone}
use Rattle.pp_flow_law.specs.Tables.{Leaving}
use Rattle.pp_law.specs.Connections.{exchange, is_client, on_client}
use Rattle.pp_law.specs.Lists.{Bytes, change}
use Rattle.pp_law.specs.State.{State, Client, Instance as Known}
use Rattle.pp_law.specs.Table.{follows, instance, is_followed, is_instance, is_left_over, is_row_of, row, swept}
use Rattle.pp_objects.specs.Changes.{changed_in, followed}
use Rattle.pp_objects.specs.Instances.{Instance, followers_of, id_of, in_slot, is_in_slot, is_life, is_there}
use Rattle.pp_objects.specs.declared.id.ObjectId.{ObjectId}
use Rattle.pp_seats.specs.declared.seat.Seat.{Seat}
use Rattle.pp_seats_law.proofs.AllSeats.{changes_there as seats_change}
use Rattle.pp_seats_law.specs.Clients.{IsAt}
use Rattle.pp_states_law.proofs.Asked.{all_as, frames, itself}
use Rattle.pp_states_law.specs.Clients.{GoesOnAs}
use Rattle.pp_states_law.specs.States.{Parts as Whole, ShowsState}
use Rattle.pp_take.specs.Deciding.{followed_more, may_follow}
use Rattle.pp_states_law.proofs.Told.{Stands}
use Rattle.pp_states_law.specs.Told.{IsTold}

-- ---- the instances, one of which is followed by one more

abbrev pub followed_by_one : ObjectId → Memory → Memory
followed_by_one id m = record m { instances = changed_in id.slot followed m.instances }

life_kept : (life slot : ℕ) (o : Option Instance) → is_life life (option_map (changed_if slot followed) o) ≡ is_life life o
life_kept life slot None = refl
life_kept life slot (Some i) = by (i.slot == slot)
  where
    by : (b : Bool) → ((cond b (followed i) i).life == life) ≡ (i.life == life)
    by true = refl
    by false = refl

there_still : (id : ObjectId) (slot : ℕ) (is : List Instance) → is_there id (changed_in slot followed is) ≡ is_there id is
there_still id slot is = ap (λ (o : Option Instance). is_life id.life o) (in_slot-changed id.slot slot followed is (λ j. refl)) ∙ life_kept id.life slot (in_slot id.slot is)

pub more_stands : (id : ObjectId) (m : Memory) (next : ℕ) → Stands m (followed_by_one id m) next next
more_stands id m next = record { lives = omega arith; numbers = omega arith; there = λ other there. sym (there_still other id.slot m.instances) ∙ there }

pub told_again : (number : ℕ → ℕ) (m k : Memory) (next later : ℕ) → Stands m k next later → (id : ObjectId) → IsTold number m next id → IsTold number k later id
told_again number m k next later stands id told = record {
  given = omega (arith, told.given, stands.lives);
  made = omega (arith, told.made, stands.numbers);
  apart = λ other there. told.apart other (stands.there other there);
}

-- ---- there is room for one more

within : {A : Type 0} (p : A → Bool) (xs : List A) → count_by p xs ≤ length xs
within p [] = omega arith
within p (x ∷ xs) = by (p x) (count_first p x xs) (within p xs)
  where
    by : (b : Bool) → count_by p (x ∷ xs) ≡ cond b 1 0 + count_by p xs → count_by p xs ≤ length xs → count_by p (x ∷ xs) ≤ length (x ∷ xs)
    by true first less = omega (arith, first, less)
    by false first less = omega (arith, first, less)

as_long : (test : Client → Bool) (f : Client → Client) (cs : List Client) → length (change test f cs) ≡ length cs
as_long test f [] = refl
as_long test f (c ∷ cs) = by (as_long test f cs)
  where
    by : length (change test f cs) ≡ length cs → length (change test f (c ∷ cs)) ≡ length (c ∷ cs)
    by same = omega (arith, same)

few_by : (f a b u v most : ℕ) → f ≡ a → b + u ≡ a + v → u ≡ 0 → v ≡ 1 → b ≤ most → f < most
few_by f a b u v most e moved none one few = omega (arith, e, moved, none, one, few)

-- one more may follow it that does not yet, where there are 256 clients at most
pub may_follow_by : (m : Memory) (j : Instance) (n : ℕ) (f : Client → Client) (test : Client → Bool) (cs : List Client) (c : Client) → in_slot j.slot m.instances ≡ Some j → j.followers ≡ count_by (follows n) cs
    → count_by (follows n) (change test f cs) + cond (follows n c) 1 0 ≡ count_by (follows n) cs + cond (follows n (f c)) 1 0 → follows n c ≡ false → follows n (f c) ≡ true → length cs ≤ 256 → may_follow (id_of j) m ≡ true
may_follow_by m j n f test cs c here followers moved none one few =
    ap₂ (λ (a b : Bool). a && b) (ap (λ (o : Option Instance). is_life j.life o) here ∙ same_test j.life j.life refl)
    (ap (λ (o : Option Instance). nat_lt (followers_of o) 256) here
    ∙ is_less j.followers 256
    (few_by j.followers (count_by (follows n) cs) (count_by (follows n) (change test f cs)) (cond (follows n c) 1 0) (cond (follows n (f c)) 1 0) 256 followers moved (ap (λ (b : Bool). cond b 1 0) none) (ap (λ (b : Bool). cond b 1 0) one)
    (omega (arith, within (follows n) (change test f cs), as_long test f cs, few))))

pub more_is : (id : ObjectId) (m : Memory) → may_follow id m ≡ true → followed_more id m ≡ followed_by_one id m
more_is id m may = ap (λ (b : Bool). elim b as (λ t. Memory) [ true ↦ followed_by_one id m | false ↦ m ]) may

-- ---- how many follow each

alone : (b : Bool) → cond b 1 0 + 0 ≡ cond b 1 0
alone true = refl
alone false = refl

more_by : (z a b v : ℕ) → z ≡ a + b → b ≡ v → z ≡ a + v
more_by z a b v joined one = omega (arith, joined, one)

-- with one more behind them that follows it
one_more : (n : ℕ) (g : Client) (cs : List Client) → ((k : ℕ) → follows k g ≡ (k == n)) → IsFollowedToo n cs (cs ++ g ∷ [])
one_more n g cs too k =
    more_by (count_by (follows k) (cs ++ g ∷ [])) (count_by (follows k) cs) (count_by (follows k) (g ∷ [])) (cond (k == n) 1 0) (count_joined (follows k) cs (g ∷ []))
    (count_first (follows k) g [] ∙ ap (λ (b : Bool). cond b 1 0 + 0) (too k) ∙ alone (k == n))

same_by : (a u b z : ℕ) → a + u ≡ b → u ≡ 0 → z ≡ b → a ≡ z
same_by a u b z moved none joined = omega (arith, moved, none, joined)

less_by : (a u v b z : ℕ) → a + u ≡ b → u ≡ v → z ≡ b → z ≡ a + v
less_by a u v b z moved one joined = omega (arith, moved, one, joined)

-- by the client that comes to follow it, as it was and as it is
pub table_follows : (number : ℕ → ℕ) (m : Memory) (s : State) (id : ObjectId) (o : Option ObjectId) (c g : Client) (ds : List Client) → ShowsCache number m s → is_there id m.instances ≡ true → ((k : ℕ) → follows k g ≡ (k == number id.life))
    → ((k : ℕ) → count_by (follows k) ds + cond (follows k c) 1 0 ≡ count_by (follows k) s.clients + cond (k == number id.life) 1 0) → IsLeftBy number m c o
    → ShowsCache number (left_memory o (followed_by_one id m)) (swept (record s { clients = ds }))
table_follows number m s id None c g ds shows there too moved none =
    let cs : List Client = s.clients ++ g ∷ [] in
    let more : IsFollowedToo (number id.life) s.clients cs = one_more (number id.life) g s.clients too in
    let first : ShowsCache number (followed_by_one id m) (record s { clients = cs }) = followings_of number m s shows id cs there more in
    still_swept number (followed_by_one id m) (record s { clients = ds })
    (frames_of number (followed_by_one id m) (record s { clients = cs }) first (followed_by_one id m) (record s { clients = ds }) (record { instances = refl; lives = refl; chunks = refl; extents = refl }) (record {
      instances = refl;
      made = the_same s.next_instance;
      chunks = refl;
      followers = λ k.
          same_by (count_by (follows k) ds) (cond (follows k c) 1 0) (count_by (follows k) s.clients + cond (k == number id.life) 1 0) (count_by (follows k) cs) (moved k) (ap (λ (b : Bool). cond b 1 0) (none k)) (more k);
      kept = λ x. refl;
    }))
table_follows number m s id (Some old) c g ds shows there too moved leaves =
    let cs : List Client = s.clients ++ g ∷ [] in
    let more : IsFollowedToo (number id.life) s.clients cs = one_more (number id.life) g s.clients too in
    let first : ShowsCache number (followed_by_one id m) (record s { clients = cs }) = followings_of number m s shows id cs there more in
    let still : is_there old (followed_by_one id m).instances ≡ true = there_still old id.slot m.instances ∙ leaves.0 in
    let less : IsFollowedToo (number old.life) ds cs =
    λ k.
    less_by (count_by (follows k) ds) (cond (follows k c) 1 0) (cond (k == number old.life) 1 0) (count_by (follows k) s.clients + cond (k == number id.life) 1 0) (count_by (follows k) cs) (moved k)
    (ap (λ (b : Bool). cond b 1 0) (leaves.1 k)) (more k) in
    subst (λ (k : Memory). ShowsCache number k (swept (record s { clients = ds }))) (sym (less_is number (followed_by_one id m) (record s { clients = cs }) old ds first still less))
    (leavings_of number (followed_by_one id m) (record s { clients = cs }) first old ds still less)

-- ---- one client is changed, and with it what is followed

pub client_follows : (number : ℕ → ℕ) (name : Bytes) (owed : List Bytes) (l : Leaving) (p : Whole) (s : State) → ShowsState number name owed l p s → (n i : ℕ) (new : Seat) (f : Client → Client) (m : Memory) → IsAt n i p.seats
    → GoesOnAs number name owed p.seats s.clients n i new f → ShowsCache number m (swept (record s { clients = change (is_client n) f s.clients }))
    → ShowsState number name owed l (record p { seats = slice_set p.seats i new; memory = m }) (swept (on_client n f s))
unfolding swept on_client
client_follows number name owed l p s shows n i new f m at goes table = record {
  clients = seats_change number name owed p.seats s.clients n i new f shows.clients at goes;
  exchanges = flow_frames number l p.flow s shows.exchanges l (swept (on_client n f s)) (record { exchanges = refl; next = refl; lines = λ k. refl });
  table = table;
  conns = frames s (swept (on_client n f s)) p.peers s.conns (all_as s (swept (on_client n f s)) (λ k. itself (exchange s k)) s.conns) shows.conns;
}

-- ---- the row is the instance of its number, also behind the sweep

few_known : (number : ℕ → ℕ) (m : Memory) (s : State) (j : Instance) (x : Known) → ShowsTable number m s → ShowsInstance number m s j x → count_by (is_instance x.id) s.instances ≤ 1
few_known number m s j x table one =
    subst (λ (n : ℕ). n ≤ 1)
    (counted (ShowsInstance number m s) (is_in_slot j.slot) (is_instance x.id) m.instances s.instances
    (λ (i : Instance) (y : Known) (shows : ShowsInstance number m s i y). instances_alike number m s j.slot x.id i y table.apart (number_of_shown number m s j x one) shows) table.instances)
    (table.alone j.slot)

pub row_known : (number : ℕ → ℕ) (m : Memory) (s : State) (key : Bytes) (j : Instance) (x : Known) → ShowsTable number m s → ShowsInstance number m s j x → row s key ≡ Some x → instance s x.id ≡ Some x
row_known number m s key j x table one there = found_alone (is_instance x.id) (is_row_of key) s.instances x there (same_test x.id x.id refl) (few_known number m s j x table one)

not_first : (a b : Bool) → (not a && b) ≡ true → a ≡ false
not_first true b is = absurd (cc is)
not_first false b is = refl

pub row_stands : (s : State) (key : Bytes) (x : Known) → row s key ≡ Some x → x.is_retired ≡ false
row_stands s key x there = not_first x.is_retired _ (find_passes (is_row_of key) s.instances x there)

pub found_kept : {A : Type 0} (p q : A → Bool) (x : A) (xs : List A) → find p xs ≡ Some x → q x ≡ true → find p (filter q xs) ≡ Some x
found_kept p q x [] found is = absurd (none_some x found)
found_kept {A = A} p q x (y ∷ ys) found is = by (p y) (q y) refl refl found (λ there. found_kept p q x ys there is)
  where
    by : (b c : Bool) → p y ≡ b → q y ≡ c → cond b (Some y) (find p ys) ≡ Some x → (find p ys ≡ Some x → find p (filter q ys) ≡ Some x) → find p (cond c (y ∷ filter q ys) (filter q ys)) ≡ Some x
    by true true holds keeps there rest = ap (λ (b : Bool). cond b (Some y) (find p (filter q ys))) holds ∙ there
    by true false holds keeps there rest = absurd (cc (sym keeps ∙ ap q (some_is y x there) ∙ is))
    by false true holds keeps there rest = ap (λ (b : Bool). cond b (Some y) (find p (filter q ys))) holds ∙ rest there
    by false false holds keeps there rest = rest there

pub still_known : (n : ℕ) (f : Client → Client) (s : State) (k : ℕ) (x : Known) → instance s k ≡ Some x → x.is_retired ≡ false → instance (swept (on_client n f s)) k ≡ Some x
unfolding swept on_client
still_known n f s k x there stands =
    found_kept (is_instance k) (λ (y : Known). not (is_left_over (on_client n f s) y)) x s.instances there
    (ap (λ (b : Bool). not (b && not (is_followed (on_client n f s) x.id))) stands)
