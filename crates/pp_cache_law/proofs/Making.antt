-- A new row of a key is made as the law has it.
use Rattle.std.proofs.Common.{◌≡◌, ◌≤◌, ◌<◌, ◌+◌, refl, sym, subst, ap, ◌∙◌, ℕ, Bool, true, false, not, ◌==◌, ◌&&◌, cond, find, List, [], ◌∷◌, ◌++◌, map, Option, Some, None, option_map, arith}
use Rattle.std.specs.Prelude.{bytes_eq, count_by, slice_get}
use Rattle.std.proofs.lemmas.Bool.Decides.{nat_tests}
use Rattle.pp_cache.specs.Memory.{Memory, is_row_in, retired_at, with_outdated, with_row}
use Rattle.pp_cache.specs.OnDisk.{bytes_of, outdated_by}
use Rattle.pp_cache.specs.declared.extents.Extent.{Extent}
use Rattle.pp_fresh.specs.declared.aging.Times.{Times}
use Rattle.pp_holes.specs.Places.{Chunk}
use Rattle.pp_law.specs.Lists.{change}
use Rattle.pp_law.specs.State.{State, Client, Entry, Instance as Known, Chunk as Front}
use Rattle.pp_law.specs.Table.{add_row, clear, follows, is_entry_of, is_kept_row_of, kept_row, swept}
use Rattle.pp_objects.specs.Changes.{changed_in, given_back_by, is_elsewhere, new_row, retired, retired_from, without_slot}
use Rattle.pp_objects.specs.Instances.{Instance, id_of, in_slot, is_in_slot, is_life, row_of}
use Rattle.pp_objects.specs.Kept.{kept_of}
use Rattle.pp_objects.specs.OneRow.{HasOneRow}
use Rattle.pp_objects.specs.declared.id.ObjectId.{ObjectId}
use Rattle.pp_objects.proofs.OneRow.{one_row-settled}
use Rattle.pp_target.specs.Name.{name_of}
use Rattle.pp_text.specs.Fields.{Field}
use Rattle.pp_valid.specs.declared.version.Version.{Version}
use Rattle.pp_cache_law.specs.Pairs.{AreAll}
use Rattle.pp_cache_law.specs.Settles.{SettlingsAreTheLaws, numbered}
use Rattle.pp_cache_law.specs.Tables.{AreFollowed, ShowsCache, ShowsChunk, ShowsInstance, ShowsTable, number_in}
use Rattle.pp_cache_law.proofs.Finds.{find_joined, first_of_two, none_found}
use Rattle.pp_cache_law.proofs.Moves.{changed_if, in_slot-changed, in_slot-elsewhere, in_slot-gone}
use Rattle.pp_cache_law.proofs.Numbers.{is_same, same_test, some_is, true_false}
use Rattle.pp_cache_law.proofs.PairLemmas.{also, count_first, count_joined, filter_joined, joined}
use Rattle.pp_cache_law.proofs.Retiring.{cleared_followed, clears_at, row_here, stale}

-- ---- what stands in the slots

or_first : (u v : Option Instance) → v ≡ None → first_of_two u v ≡ u
or_first None v e = e
or_first (Some i) v e = refl

slot_kept : (slot k : ℕ) (is : List Instance) (new : Instance) → new.slot ≡ k → (slot == k) ≡ false → in_slot slot (is ++ new ∷ []) ≡ in_slot slot is
slot_kept slot k is new at apart =
    find_joined (is_in_slot slot) is (new ∷ []) ∙ or_first (in_slot slot is) (in_slot slot (new ∷ [])) (ap (λ (b : Bool). cond b (Some new) None) (ap (λ (n : ℕ). n == slot) at ∙ other slot k apart))
  where
    other : (a b : ℕ) → (a == b) ≡ false → (b == a) ≡ false
    other a b e = grind (arith, nat_tests, e)

slot_new : (is : List Instance) (new : Instance) → in_slot new.slot is ≡ None → in_slot new.slot (is ++ new ∷ []) ≡ Some new
slot_new is new vacant =
    find_joined (is_in_slot new.slot) is (new ∷ []) ∙ ap (λ (u : Option Instance). first_of_two u (in_slot new.slot (new ∷ []))) vacant
    ∙ ap (λ (b : Bool). cond b (Some new) None) (same_test new.slot new.slot refl)

some_none : (i : Instance) → Some i ≡ None → ⊥
some_none i e = absurd cc

-- what stands in a slot stands in no vacant one
pub not_vacant : (slot k : ℕ) (is : List Instance) (i : Instance) → in_slot slot is ≡ Some i → in_slot k is ≡ None → (slot == k) ≡ false
not_vacant slot k is i there vacant = by (slot == k) refl
  where
    by : (b : Bool) → (slot == k) ≡ b → b ≡ false
    by true e = absurd (some_none i (sym there ∙ ap (λ (n : ℕ). in_slot n is) (is_same slot k e) ∙ vacant))
    by false e = refl

-- the law knows each that stands in a slot
pub record IsPair (number : ℕ → ℕ) (m : Memory) (s : State) (i : Instance) : Type 0 where
  pub known : Known
  pub shows : ShowsInstance number m s i known

pair_of : (number : ℕ → ℕ) (m : Memory) (s : State) (p : Instance → Bool) (is : List Instance) (xs : List Known) (i : Instance) → AreAll (ShowsInstance number m s) is xs → find p is ≡ Some i → IsPair number m s i
pair_of number m s p [] xs i all there = absurd cc
pair_of number m s p (j ∷ is) [] i all there = absurd all
pair_of number m s p (j ∷ is) (x ∷ xs) i all there = by (p j) (λ e. pair_of number m s p is xs i all.1 e) there
  where
    by : (b : Bool) → (find p is ≡ Some i → IsPair number m s i) → cond b (Some j) (find p is) ≡ Some i → IsPair number m s i
    by true rest e = record { known = x; shows = subst (λ (k : Instance). ShowsInstance number m s k x) (some_is j i e) all.0 }
    by false rest e = rest e

-- ---- numbers

old_number : (life n : ℕ) (number : ℕ → ℕ) (k : ℕ) → k < life → numbered life n number k ≡ number k
old_number life n number k less = ap (λ (b : Bool). cond b n (number k)) (isnt k life less)
  where
    isnt : (a b : ℕ) → a < b → (a == b) ≡ false
    isnt a b e = grind (arith, nat_tests, e)

new_number : (life n : ℕ) (number : ℕ → ℕ) → numbered life n number life ≡ n
new_number life n number = ap (λ (b : Bool). cond b n (number life)) (same_test life life refl)

same_number : (number : ℕ → ℕ) (m : Memory) (s : State) (slot : ℕ) (i : Instance) → ShowsTable number m s → in_slot slot m.instances ≡ Some i → numbered m.lives s.next_instance number i.life ≡ number i.life
same_number number m s slot i shows there =
    let pair : IsPair number m s i = pair_of number m s (is_in_slot slot) m.instances s.instances i shows.instances there in
    old_number m.lives s.next_instance number i.life pair.shows.given

number_kept : (number : ℕ → ℕ) (m : Memory) (s : State) (slot k : ℕ) (new : Instance) → ShowsTable number m s → new.slot ≡ k → (slot == k) ≡ false
    → number_in (numbered m.lives s.next_instance number) slot (m.instances ++ new ∷ []) ≡ number_in number slot m.instances
number_kept number m s slot k new shows at apart =
    ap (λ (u : Option Instance). option_map (λ i. numbered m.lives s.next_instance number i.life) u) (slot_kept slot k m.instances new at apart) ∙ by (in_slot slot m.instances) refl
  where
    by : (u : Option Instance) → in_slot slot m.instances ≡ u → option_map (λ i. numbered m.lives s.next_instance number i.life) u ≡ option_map (λ i. number i.life) u
    by None e = refl
    by (Some i) e = ap (λ (n : ℕ). Some n) (same_number number m s slot i shows e)

number_new : (number : ℕ → ℕ) (m : Memory) (s : State) (new : Instance) → in_slot new.slot m.instances ≡ None → new.life ≡ m.lives
    → number_in (numbered m.lives s.next_instance number) new.slot (m.instances ++ new ∷ []) ≡ Some s.next_instance
number_new number m s new vacant life =
    ap (λ (u : Option Instance). option_map (λ i. numbered m.lives s.next_instance number i.life) u) (slot_new m.instances new vacant)
    ∙ ap (λ (k : ℕ). Some (numbered m.lives s.next_instance number k)) life ∙ ap (λ (k : ℕ). Some k) (new_number m.lives s.next_instance number)

-- each number is below that of the next
pub below_next : (number : ℕ → ℕ) (m : Memory) (s : State) (slot n : ℕ) → ShowsTable number m s → number_in number slot m.instances ≡ Some n → n < s.next_instance
below_next number m s slot n shows at = by (in_slot slot m.instances) refl at
  where
    by : (u : Option Instance) → in_slot slot m.instances ≡ u → option_map (λ i. number i.life) u ≡ Some n → n < s.next_instance
    by None e f = absurd cc
    by (Some i) e f =
        let pair : IsPair number m s i = pair_of number m s (is_in_slot slot) m.instances s.instances i shows.instances e in
        subst (λ (k : ℕ). k < s.next_instance) (sym pair.shows.id ∙ some_is (number i.life) n f) pair.shows.made

-- ---- a row more

abbrev pub after_m : Memory → List Extent → ObjectId → List ℕ → Version → List Field → Times → Memory
after_m m es id key version kept times = record m { instances = m.instances ++ new_row id key version kept times ∷ []; lives = m.lives + 1; extents = es }

abbrev pub after_s : State → List ℕ → Version → List Field → Times → Bool → State
after_s s key version kept times is_new = record s {
  instances = s.instances ++ record { id = s.next_instance; key = key; version = version; fields = kept; times = times; is_retired = false; is_new = is_new } ∷ [];
  next_instance = s.next_instance + 1;
}

less_next : (a b : ℕ) → a < b → a < b + 1
less_next a b e = omega (arith, e)

same_if : (b : Bool) (n k : ℕ) → n ≡ k → cond b n 0 ≡ cond b k 0
same_if b n k e = ap (λ (j : ℕ). cond b j 0) e

joined_alone : (k : ℕ) (is : List Instance) (new : Instance) → in_slot new.slot is ≡ None → ((slot : ℕ) → count_by (is_in_slot slot) is ≤ 1) → count_by (is_in_slot k) (is ++ new ∷ []) ≤ 1
joined_alone k is new vacant few = by (new.slot == k) refl
  where
    no_more : (n : ℕ) → count_by (is_in_slot n) [] ≡ 0
    no_more n = refl

    by : (b : Bool) → (new.slot == k) ≡ b → count_by (is_in_slot k) (is ++ new ∷ []) ≤ 1
    by true e =
        let none : count_by (is_in_slot k) is ≡ 0 = none_found (is_in_slot k) is (ap (λ (n : ℕ). in_slot n is) (sym (is_same new.slot k e)) ∙ vacant) in
        let one : count_by (is_in_slot k) (new ∷ []) ≡ 1 + count_by (is_in_slot k) [] = count_first (is_in_slot k) new [] ∙ ap (λ (b : Bool). cond b 1 0 + count_by (is_in_slot k) []) e in
        omega (arith, count_joined (is_in_slot k) is (new ∷ []), none, one, no_more k)
    by false e =
        let one : count_by (is_in_slot k) (new ∷ []) ≡ 0 + count_by (is_in_slot k) [] = count_first (is_in_slot k) new [] ∙ ap (λ (b : Bool). cond b 1 0 + count_by (is_in_slot k) []) e in
        omega (arith, count_joined (is_in_slot k) is (new ∷ []), few k, one, no_more k)

-- how far the others are kept is as before, the new one is as far as its entry, and nothing is kept of lives to come
pub record KeepsOn (m : Memory) (s : State) (es : List Extent) (id : ObjectId) (key : List ℕ) : Type 0 where
  pub others : (other : ObjectId) → (other.slot == id.slot) ≡ false → bytes_of other (slice_get es other.slot) ≡ bytes_of other (slice_get m.extents other.slot)
  pub own : bytes_of id (slice_get es id.slot) ≡ elim (kept_row s key) as (λ b. ℕ) [ None ↦ 0 | Some e ↦ e.extent ]
  pub later : (other : ObjectId) → m.lives + 1 ≤ other.life → bytes_of other (slice_get es other.slot) ≡ 0

pub adds_at : (number : ℕ → ℕ) (m : Memory) (s : State) (es : List Extent) (id : ObjectId) (key : List ℕ) (version : Version) (kept : List Field) (times : Times) (is_new : Bool) → ShowsTable number m s → in_slot id.slot m.instances ≡ None
    → id.life ≡ m.lives → KeepsOn m s es id key → count_by (follows s.next_instance) s.clients ≡ 0 → HasOneRow (m.instances ++ new_row id key version kept times ∷ [])
    → ShowsTable (numbered m.lives s.next_instance number) (after_m m es id key version kept times) (add_row key version kept times is_new s)
unfolding add_row
adds_at number m s es id key version kept times is_new shows vacant life keeps unfollowed rows = record {
  instances =
      joined (ShowsInstance (numbered m.lives s.next_instance number) (after_m m es id key version kept times) (after_s s key version kept times is_new)) m.instances (new_row id key version kept times ∷ []) s.instances
      (record { id = s.next_instance; key = key; version = version; fields = kept; times = times; is_retired = false; is_new = is_new } ∷ [])
      (also (ShowsInstance number m s) (ShowsInstance (numbered m.lives s.next_instance number) (after_m m es id key version kept times) (after_s s key version kept times is_new)) m.instances s.instances old shows.instances) (
        record {
          there = slot_new m.instances (new_row id key version kept times) vacant;
          id = ap (λ (k : ℕ). numbered m.lives s.next_instance number k) life ∙ new_number m.lives s.next_instance number;
          key = refl;
          version = refl;
          fields = refl;
          times = refl;
          retired = refl;
          followers = sym unfollowed;
          extent =
              ap (λ (u : Option Instance). cond (is_life id.life u && is_row_in u) (bytes_of id (slice_get es id.slot)) 0) (slot_new m.instances (new_row id key version kept times) vacant)
              ∙ ap (λ (b : Bool). cond (b && true) (bytes_of id (slice_get es id.slot)) 0) (same_test id.life id.life refl) ∙ keeps.own;
          given = omega (arith, life);
          made = omega arith;
        },
        tt,
      );
  chunks = also (ShowsChunk number m) (ShowsChunk (numbered m.lives s.next_instance number) (after_m m es id key version kept times)) m.chunks s.chunks chunk shows.chunks;
  alone = λ k. joined_alone k m.instances (new_row id key version kept times) vacant shows.alone;
  apart = λ a b n first second. one a b n (a == id.slot) (b == id.slot) refl refl first second;
  rows = rows;
  once = shows.once;
  unkept = λ other more. keeps.later other more;
}
  where
    old : (i : Instance) (x : Known) → ShowsInstance number m s i x → ShowsInstance (numbered m.lives s.next_instance number) (after_m m es id key version kept times) (after_s s key version kept times is_new) i x
    old i x pair =
        let apart : (i.slot == id.slot) ≡ false = not_vacant i.slot id.slot m.instances i pair.there vacant in
        let there = slot_kept i.slot id.slot m.instances (new_row id key version kept times) refl apart in
        record {
          there = there ∙ pair.there;
          id = old_number m.lives s.next_instance number i.life pair.given ∙ pair.id;
          key = pair.key;
          version = pair.version;
          fields = pair.fields;
          times = pair.times;
          retired = pair.retired;
          followers = pair.followers;
          extent =
              ap (λ (u : Option Instance). cond (is_life i.life u && is_row_in u) (bytes_of (id_of i) (slice_get es i.slot)) 0) there
              ∙ same_if (is_life i.life (in_slot i.slot m.instances) && is_row_in (in_slot i.slot m.instances)) (bytes_of (id_of i) (slice_get es i.slot)) (bytes_of (id_of i) (slice_get m.extents i.slot)) (keeps.others (id_of i) apart)
              ∙ pair.extent;
          given = less_next i.life m.lives pair.given;
          made = less_next x.id s.next_instance pair.made;
        }

    apart_chunk : (c : Chunk) (n : ℕ) → number_in number c.owner m.instances ≡ Some n → (c.owner == id.slot) ≡ false
    apart_chunk c n at = by (in_slot c.owner m.instances) refl at
      where
        by : (u : Option Instance) → in_slot c.owner m.instances ≡ u → option_map (λ i. number i.life) u ≡ Some n → (c.owner == id.slot) ≡ false
        by None e f = absurd cc
        by (Some i) e f = not_vacant c.owner id.slot m.instances i e vacant

    chunk : (c : Chunk) (d : Front) → ShowsChunk number m c d → ShowsChunk (numbered m.lives s.next_instance number) (after_m m es id key version kept times) c d
    chunk c d pair = record {
      owner = number_kept number m s c.owner id.slot (new_row id key version kept times) shows refl (apart_chunk c d.instance pair.owner) ∙ pair.owner;
      index = pair.index;
      bytes = pair.bytes;
      some = pair.some;
    }

    at_new : (a n : ℕ) → a ≡ id.slot → number_in (numbered m.lives s.next_instance number) a (m.instances ++ new_row id key version kept times ∷ []) ≡ Some n → n ≡ s.next_instance
    at_new a n e at =
        some_is n s.next_instance (sym at ∙ ap (λ (k : ℕ). number_in (numbered m.lives s.next_instance number) k (m.instances ++ new_row id key version kept times ∷ [])) e
        ∙ number_new number m s (new_row id key version kept times) vacant life)

    at_old : (a n : ℕ) → (a == id.slot) ≡ false → number_in (numbered m.lives s.next_instance number) a (m.instances ++ new_row id key version kept times ∷ []) ≡ Some n → number_in number a m.instances ≡ Some n
    at_old a n apart at = sym (number_kept number m s a id.slot (new_row id key version kept times) shows refl apart) ∙ at

    both : (a n : ℕ) → n ≡ s.next_instance → number_in number a m.instances ≡ Some n → ⊥
    both a n e at = let less : n < s.next_instance = below_next number m s a n shows at in absurd (omega (arith, less, e))

    one : (a b n : ℕ) (t u : Bool) → (a == id.slot) ≡ t → (b == id.slot) ≡ u → number_in (numbered m.lives s.next_instance number) a (m.instances ++ new_row id key version kept times ∷ []) ≡ Some n
        → number_in (numbered m.lives s.next_instance number) b (m.instances ++ new_row id key version kept times ∷ []) ≡ Some n → a ≡ b
    one a b n true true e f first second = is_same a id.slot e ∙ sym (is_same b id.slot f)
    one a b n true false e f first second = absurd (both b n (at_new a n (is_same a id.slot e) first) (at_old b n f second))
    one a b n false true e f first second = absurd (both a n (at_new b n (is_same b id.slot f) second) (at_old a n e first))
    one a b n false false e f first second = shows.apart a b n (at_old a n e first) (at_old b n f second)

-- ---- the former row is cleared

map_joined : (f : Instance → Instance) (is js : List Instance) → map f (is ++ js) ≡ map f is ++ map f js
map_joined f [] js = refl
map_joined f (i ∷ is) js = ap (λ (ks : List Instance). f i ∷ ks) (map_joined f is js)

-- a row that is found stands in another slot
former_elsewhere : (key : List ℕ) (is : List Instance) (i new : Instance) → in_slot i.slot is ≡ Some i → in_slot new.slot is ≡ None → (new.slot == i.slot) ≡ false
former_elsewhere key is i new there vacant = swap new.slot i.slot (not_vacant i.slot new.slot is i there vacant)
  where
    swap : (a b : ℕ) → (b == a) ≡ false → (a == b) ≡ false
    swap a b e = grind (arith, nat_tests, e)

retired-joined : (x : Option Instance) (is : List Instance) (new : Instance) → ((i : Instance) → x ≡ Some i → (new.slot == i.slot) ≡ false) → retired_from x (is ++ new ∷ []) ≡ retired_from x is ++ new ∷ []
retired-joined None is new apart = refl
retired-joined (Some i) is new apart = by (i.followers == 0)
  where
    by : (b : Bool) → cond b (without_slot i.slot (is ++ new ∷ [])) (changed_in i.slot retired (is ++ new ∷ [])) ≡ cond b (without_slot i.slot is) (changed_in i.slot retired is) ++ new ∷ []
    by true = filter_joined (is_elsewhere i.slot) is (new ∷ []) ∙ ap (λ (b : Bool). without_slot i.slot is ++ cond (not b) (new ∷ []) []) (apart i refl)
    by false = map_joined (changed_if i.slot retired) is (new ∷ []) ∙ ap (λ (b : Bool). changed_in i.slot retired is ++ cond b (retired new) new ∷ []) (apart i refl)

still_vacant : (x : Option Instance) (is : List Instance) (slot : ℕ) → in_slot slot is ≡ None → in_slot slot (retired_from x is) ≡ None
still_vacant None is slot vacant = vacant
still_vacant (Some i) is slot vacant = by (i.followers == 0)
  where
    out : (b : Bool) → (slot == i.slot) ≡ b → in_slot slot (without_slot i.slot is) ≡ None
    out true e = ap (λ (k : ℕ). in_slot k (without_slot i.slot is)) (is_same slot i.slot e) ∙ in_slot-gone i.slot is
    out false e = in_slot-elsewhere slot i.slot is e ∙ vacant

    by : (b : Bool) → in_slot slot (cond b (without_slot i.slot is) (changed_in i.slot retired is)) ≡ None
    by true = out (slot == i.slot) refl
    by false = in_slot-changed slot i.slot retired is (λ j. refl) ∙ ap (λ (u : Option Instance). option_map (changed_if i.slot retired) u) vacant

-- no entry of the key is kept behind it
stale_none : (key : List ℕ) (es : List Entry) → find (is_kept_row_of key) (change (is_entry_of key) stale es) ≡ None
stale_none key [] = refl
stale_none key (e ∷ es) = by (bytes_eq e.key key) refl (stale_none key es)
  where
    not_it : (b c : Bool) → c ≡ false → (not b && c) ≡ false
    not_it true c f = refl
    not_it false c f = f

    by : (b : Bool) → bytes_eq e.key key ≡ b → find (is_kept_row_of key) (change (is_entry_of key) stale es) ≡ None
        → cond (is_kept_row_of key (elim b as (λ c. Entry) [ true ↦ stale e | false ↦ e ])) (Some (elim b as (λ c. Entry) [ true ↦ stale e | false ↦ e ])) (find (is_kept_row_of key) (change (is_entry_of key) stale es)) ≡ None
    by true is rest = rest
    by false isnt rest = ap (λ (b : Bool). cond b (Some e) (find (is_kept_row_of key) (change (is_entry_of key) stale es))) (not_it e.is_stale (bytes_eq e.key key) isnt) ∙ rest

cleared_none : (key : List ℕ) (s : State) → kept_row (clear key s) key ≡ None
unfolding clear swept
cleared_none key s = stale_none key s.entries

cleared_same : (key : List ℕ) (s : State) → ((clear key s).next_instance ≡ s.next_instance) × ((clear key s).clients ≡ s.clients)
unfolding clear swept
cleared_same key s = (refl, refl)

-- where nothing is kept of its key
unkept_on : (m : Memory) (s : State) (id : ObjectId) (key : List ℕ) → ((other : ObjectId) → m.lives ≤ other.life → bytes_of other (slice_get m.extents other.slot) ≡ 0) → id.life ≡ m.lives → kept_row s key ≡ None → KeepsOn m s m.extents id key
unkept_on m s id key unkept life none = record {
  others = λ other apart. refl;
  own = unkept id (omega (arith, life)) ∙ sym (ap (λ (o : Option Entry). elim o as (λ b. ℕ) [ None ↦ 0 | Some e ↦ e.extent ]) none);
  later = λ other more. unkept other (omega (arith, more));
}

pub joined_followed : (is : List Instance) (new : Instance) → in_slot new.slot is ≡ None → new.is_retired ≡ false → AreFollowed is → AreFollowed (is ++ new ∷ [])
joined_followed is new vacant row needed slot j there gone = by (slot == new.slot) refl
  where
    by : (b : Bool) → (slot == new.slot) ≡ b → (j.followers == 0) ≡ false
    by true same =
        let is_it : new ≡ j = some_is new j (sym (slot_new is new vacant) ∙ ap (λ (k : ℕ). in_slot k (is ++ new ∷ [])) (sym (is_same slot new.slot same)) ∙ there) in
        absurd (true_false (sym gone ∙ ap (λ (i : Instance). i.is_retired) (sym is_it) ∙ row))
    by false apart = needed slot j (sym (slot_kept slot new.slot is new refl apart) ∙ there) gone

former_apart : (number : ℕ → ℕ) (m : Memory) (s : State) (key : List ℕ) (new : Instance) → ShowsTable number m s → in_slot new.slot m.instances ≡ None → (i : Instance) → row_of key m.instances ≡ Some i → (new.slot == i.slot) ≡ false
former_apart number m s key new shows vacant i e = former_elsewhere key m.instances i new (row_here number m s key i shows e) vacant

settles_at : (number : ℕ → ℕ) (m : Memory) (s : State) (id : ObjectId) (key : List ℕ) (version : Version) (kept : List Field) (times : Times) (is_new : Bool) → ShowsTable number m s → in_slot id.slot m.instances ≡ None → id.life ≡ m.lives
    → AreFollowed m.instances → count_by (follows s.next_instance) s.clients ≡ 0
    → ShowsTable (numbered m.lives (clear key s).next_instance number) (after_m (retired_at key m) m.extents id key version kept times) (add_row key version kept times is_new (clear key s))
unfolding retired_at
settles_at number m s id key version kept times is_new shows vacant life needed unfollowed =
    adds_at number (retired_at key m) (clear key s) m.extents id key version kept times is_new (clears_at number m s key shows needed) (still_vacant (row_of key m.instances) m.instances id.slot vacant) life
    (unkept_on (retired_at key m) (clear key s) id key shows.unkept life (cleared_none key s)) (none_follows (clear key s).next_instance (clear key s).clients (cleared_same key s).0 (cleared_same key s).1)
    (subst (λ (js : List Instance). HasOneRow js) (retired-joined (row_of key m.instances) m.instances (new_row id key version kept times) (former_apart number m s key (new_row id key version kept times) shows vacant))
    (one_row-settled id key version kept times m.instances shows.rows))
  where
    none_follows : (n : ℕ) (cs : List Client) → n ≡ s.next_instance → cs ≡ s.clients → count_by (follows n) cs ≡ 0
    none_follows n cs e f = ap (λ (k : ℕ). count_by (follows k) cs) e ∙ ap (λ (ds : List Client). count_by (follows s.next_instance) ds) f ∙ unfollowed

pub settlings_of : SettlingsAreTheLaws
unfolding with_row with_outdated retired_at add_row clear swept
settlings_of number m s shows id key version fields times is_new vacant life =
    subst (λ (js : List Instance). ShowsCache (numbered m.lives s.next_instance number)
    (record m { instances = js; lives = m.lives + 1; chunks = given_back_by (row_of key m.instances) m.chunks; outdated = outdated_by (name_of key) m.outdated })
    (add_row key version (kept_of fields times) times is_new (clear key s)))
    (sym (retired-joined (row_of key m.instances) m.instances (new_row id key version (kept_of fields times) times) (former_apart number m s key (new_row id key version (kept_of fields times) times) shows.table vacant)))
    (record {
      table = settles_at number m s id key version (kept_of fields times) times is_new shows.table vacant life shows.followed (shows.ahead s.next_instance (omega arith));
      followed =
          joined_followed (retired_from (row_of key m.instances) m.instances) (new_row id key version (kept_of fields times) times) (still_vacant (row_of key m.instances) m.instances id.slot vacant) refl
          (cleared_followed number m s key shows.table shows.followed);
      ahead = λ n more. shows.ahead n (omega (arith, more));
    })
