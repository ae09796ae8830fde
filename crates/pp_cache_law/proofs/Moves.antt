-- Instances that stay in their slots, in another order or beside others that are gone.
use Rattle.std.proofs.Common.{◌≡◌, ◌≤◌, refl, sym, ap, ◌∙◌, ℕ, Bool, true, false, not, ◌==◌, ◌&&◌, cond, List, [], ◌∷◌, ◌++◌, filter, Option, Some, None, option_map, arith}
use Rattle.std.specs.Prelude.{count_by, slice_get}
use Rattle.pp_cache.specs.Memory.{Memory, is_row_in}
use Rattle.pp_cache.specs.OnDisk.{bytes_of}
use Rattle.pp_holes.specs.Places.{Chunk, is_at, is_of_other, without_owner}
use Rattle.pp_law.specs.Lists.{without as law_without}
use Rattle.pp_law.specs.State.{State, Instance as Known, Chunk as Front}
use Rattle.pp_law.specs.Table.{is_instance, mark_row}
use Rattle.pp_objects.specs.Changes.{changed_in, is_elsewhere, marked, without_slot}
use Rattle.pp_objects.specs.Instances.{Instance, id_of, in_slot, is_in_slot, is_life}
use Rattle.pp_objects.proofs.OneRow.{one_row-forgotten, one_row-marked}
use Rattle.pp_cache_law.specs.Tables.{ShowsChunk, ShowsInstance, ShowsTable, number_in}
use Rattle.pp_cache_law.proofs.Finds.{find_joined, find_kept, find_mapped, find_out, find_passes, first_of_two}
use Rattle.pp_cache_law.proofs.Numbers.{instances_alike, is_same, owners_alike, same_test, true_false}
use Rattle.pp_cache_law.proofs.PairLemmas.{also, count_joined, count_kept, count_mapped_same, count_parts, joined, kept}

-- ---- what stands in a slot

elsewhere_test : (slot k : ℕ) (i : Instance) → (slot == k) ≡ false → is_in_slot slot i ≡ true → is_elsewhere k i ≡ true
elsewhere_test slot k i apart is = ap (λ (n : ℕ). not (n == k)) (is_same i.slot slot is) ∙ ap (λ (b : Bool). not b) apart

not_true : (b : Bool) → not b ≡ true → b ≡ false
not_true true e = absurd cc
not_true false e = refl

apart_test : (slot k : ℕ) (i : Instance) → (slot == k) ≡ false → is_in_slot k i ≡ true → is_in_slot slot i ≡ false
apart_test slot k i apart is = by (i.slot == slot) refl
  where
    by : (b : Bool) → (i.slot == slot) ≡ b → b ≡ false
    by true e = absurd (true_false (sym (same_test slot k (sym (is_same i.slot slot e) ∙ is_same i.slot k is)) ∙ apart))
    by false e = refl

pub in_slot-elsewhere : (slot k : ℕ) (is : List Instance) → (slot == k) ≡ false → in_slot slot (without_slot k is) ≡ in_slot slot is
in_slot-elsewhere slot k is apart = find_kept (is_in_slot slot) (is_elsewhere k) is (λ i there. elsewhere_test slot k i apart there)

pub in_slot-gone : (k : ℕ) (is : List Instance) → in_slot k (without_slot k is) ≡ None
in_slot-gone k is = find_out (is_in_slot k) (is_elsewhere k) is (λ i out. not_true (is_in_slot k i) out)

or_none : (u : Option Instance) → first_of_two u None ≡ u
or_none None = refl
or_none (Some i) = refl

pub in_slot-marked : (slot k : ℕ) (is : List Instance) → in_slot slot (marked k is) ≡ in_slot slot is
in_slot-marked slot k is = find_joined (is_in_slot slot) (filter (is_elsewhere k) is) (filter (is_in_slot k) is) ∙ by (slot == k) refl
  where
    by : (b : Bool) → (slot == k) ≡ b → first_of_two (in_slot slot (filter (is_elsewhere k) is)) (in_slot slot (filter (is_in_slot k) is)) ≡ in_slot slot is
    by true same =
        let at : slot ≡ k = is_same slot k same in
        ap (λ (u : Option Instance). first_of_two u (in_slot slot (filter (is_in_slot k) is))) (ap (λ (n : ℕ). in_slot n (filter (is_elsewhere k) is)) at ∙ in_slot-gone k is)
        ∙ find_kept (is_in_slot slot) (is_in_slot k) is (λ i there. ap (λ (n : ℕ). i.slot == n) (sym at) ∙ there)
    by false apart =
        ap (λ (u : Option Instance). first_of_two u (in_slot slot (filter (is_in_slot k) is))) (in_slot-elsewhere slot k is apart)
        ∙ ap (λ (u : Option Instance). first_of_two (in_slot slot is) u) (find_out (is_in_slot slot) (is_in_slot k) is (λ i there. apart_test slot k i apart there))
        ∙ or_none (in_slot slot is)

abbrev pub changed_if : ℕ → (Instance → Instance) → Instance → Instance
changed_if k f i = cond (is_in_slot k i) (f i) i

changed_slot : (slot k : ℕ) (f : Instance → Instance) → ((i : Instance) → (f i).slot ≡ i.slot) → (i : Instance) → is_in_slot slot (changed_if k f i) ≡ is_in_slot slot i
changed_slot slot k f same i = by (is_in_slot k i)
  where
    by : (b : Bool) → is_in_slot slot (cond b (f i) i) ≡ is_in_slot slot i
    by true = ap (λ (n : ℕ). n == slot) (same i)
    by false = refl

pub in_slot-changed : (slot k : ℕ) (f : Instance → Instance) (is : List Instance) → ((i : Instance) → (f i).slot ≡ i.slot) → in_slot slot (changed_in k f is) ≡ option_map (changed_if k f) (in_slot slot is)
in_slot-changed slot k f is same = find_mapped (is_in_slot slot) (changed_if k f) is (changed_slot slot k f same)

pub in_slot-other : (slot k : ℕ) (f : Instance → Instance) (is : List Instance) → ((i : Instance) → (f i).slot ≡ i.slot) → (slot == k) ≡ false → in_slot slot (changed_in k f is) ≡ in_slot slot is
in_slot-other slot k f is same apart = in_slot-changed slot k f is same ∙ by (in_slot slot is) refl
  where
    by : (u : Option Instance) → in_slot slot is ≡ u → option_map (changed_if k f) u ≡ u
    by None e = refl
    by (Some i) e = ap (λ (b : Bool). Some (cond b (f i) i)) (ap (λ (n : ℕ). n == k) (is_same i.slot slot (find_passes (is_in_slot slot) is i e)) ∙ apart)

pub without-changed : (k : ℕ) (f : Instance → Instance) (is : List Instance) → ((i : Instance) → (f i).slot ≡ i.slot) → without_slot k (changed_in k f is) ≡ without_slot k is
without-changed k f [] same = refl
without-changed k f (i ∷ is) same = by (i.slot == k) refl (without-changed k f is same)
  where
    by : (b : Bool) → (i.slot == k) ≡ b → without_slot k (changed_in k f is) ≡ without_slot k is
        → cond (is_elsewhere k (cond b (f i) i)) (cond b (f i) i ∷ without_slot k (changed_in k f is)) (without_slot k (changed_in k f is)) ≡ cond (not b) (i ∷ without_slot k is) (without_slot k is)
    by true is_it rest = ap (λ (b : Bool). cond (not b) (f i ∷ without_slot k (changed_in k f is)) (without_slot k (changed_in k f is))) (ap (λ (n : ℕ). n == k) (same i) ∙ is_it) ∙ rest
    by false isnt rest = ap (λ (b : Bool). cond (not b) (i ∷ without_slot k (changed_in k f is)) (without_slot k (changed_in k f is))) isnt ∙ ap (λ (js : List Instance). i ∷ js) rest

pub number_in-changed : (number : ℕ → ℕ) (slot k : ℕ) (f : Instance → Instance) (is : List Instance) → ((i : Instance) → (f i).slot ≡ i.slot) → ((i : Instance) → (f i).life ≡ i.life)
    → number_in number slot (changed_in k f is) ≡ number_in number slot is
number_in-changed number slot k f is same lives = ap (λ (u : Option Instance). option_map (λ i. number i.life) u) (in_slot-changed slot k f is same) ∙ by (in_slot slot is)
  where
    one : (b : Bool) (i : Instance) → (cond b (f i) i).life ≡ i.life
    one true i = lives i
    one false i = refl

    by : (u : Option Instance) → option_map (λ i. number i.life) (option_map (changed_if k f) u) ≡ option_map (λ i. number i.life) u
    by None = refl
    by (Some i) = ap (λ (n : ℕ). Some (number n)) (one (is_in_slot k i) i)

pub changed_alone : (k slot : ℕ) (f : Instance → Instance) (is : List Instance) → ((i : Instance) → (f i).slot ≡ i.slot) → count_by (is_in_slot k) is ≤ 1 → count_by (is_in_slot k) (changed_in slot f is) ≤ 1
changed_alone k slot f is same few = omega (arith, count_mapped_same (is_in_slot k) (changed_if slot f) is (changed_slot k slot f same), few)

-- ---- one that stays

abbrev pub kept_by : Memory → Instance → Option Instance → ℕ
kept_by m i u = cond (is_life i.life u && is_row_in u) (bytes_of (id_of i) (slice_get m.extents i.slot)) 0

pub stays : (number : ℕ → ℕ) (m : Memory) (s : State) (js : List Instance) (ys : List Known) (cs : List Chunk) (ds : List Front) (i : Instance) (x : Known) → in_slot i.slot js ≡ in_slot i.slot m.instances
    → ShowsInstance number m s i x → ShowsInstance number (record m { instances = js; chunks = cs }) (record s { instances = ys; chunks = ds }) i x
stays number m s js ys cs ds i x same one = record {
  there = same ∙ one.there;
  id = one.id;
  key = one.key;
  version = one.version;
  fields = one.fields;
  times = one.times;
  retired = one.retired;
  followers = one.followers;
  extent = ap (λ (u : Option Instance). kept_by m i u) same ∙ one.extent;
  given = one.given;
  made = one.made;
}

pub chunk_stays : (number : ℕ → ℕ) (m : Memory) (js : List Instance) (cs : List Chunk) (c : Chunk) (d : Front) → number_in number c.owner js ≡ number_in number c.owner m.instances
    → ShowsChunk number m c d → ShowsChunk number (record m { instances = js; chunks = cs }) c d
chunk_stays number m js cs c d same one = record { owner = same ∙ one.owner; index = one.index; bytes = one.bytes; some = one.some }

-- ---- the most recently used

abbrev ys_marked : ℕ → List Known → List Known
ys_marked n ys = law_without (is_instance n) ys ++ filter (is_instance n) ys

number_in-marked : (number : ℕ → ℕ) (slot k : ℕ) (is : List Instance) → number_in number slot (marked k is) ≡ number_in number slot is
number_in-marked number slot k is = ap (λ (u : Option Instance). option_map (λ i. number i.life) u) (in_slot-marked slot k is)

marked_alone : (k slot : ℕ) (is : List Instance) → count_by (is_in_slot k) is ≤ 1 → count_by (is_in_slot k) (marked slot is) ≤ 1
marked_alone k slot is few =
    let parts = count_joined (is_in_slot k) (filter (is_elsewhere slot) is) (filter (is_in_slot slot) is) in
    omega (arith, parts, count_parts (is_in_slot k) (is_in_slot slot) is, few)

pub marks_at : (number : ℕ → ℕ) (m : Memory) (s : State) (slot n : ℕ) → ShowsTable number m s → number_in number slot m.instances ≡ Some n
    → ShowsTable number (record m { instances = marked slot m.instances }) (mark_row n s)
unfolding mark_row
marks_at number m s slot n shows at = record {
  instances =
      joined (ShowsInstance number (record m { instances = marked slot m.instances }) (record s { instances = ys_marked n s.instances }))
      (filter (is_elsewhere slot) m.instances) (filter (is_in_slot slot) m.instances) (law_without (is_instance n) s.instances) (filter (is_instance n) s.instances)
      (kept (ShowsInstance number m s) (ShowsInstance number (record m { instances = marked slot m.instances }) (record s { instances = ys_marked n s.instances })) (is_elsewhere slot) (λ x. not (is_instance n x)) m.instances s.instances
      (λ i x one. ap (λ (b : Bool). not b) (instances_alike number m s slot n i x shows.apart at one)) (λ i x one is. still i x one) shows.instances)
      (kept (ShowsInstance number m s) (ShowsInstance number (record m { instances = marked slot m.instances }) (record s { instances = ys_marked n s.instances })) (is_in_slot slot) (is_instance n) m.instances s.instances
      (λ i x one. instances_alike number m s slot n i x shows.apart at one) (λ i x one is. still i x one) shows.instances);
  chunks =
      also (ShowsChunk number m) (ShowsChunk number (record m { instances = marked slot m.instances })) m.chunks s.chunks
      (λ c d one. chunk_stays number m (marked slot m.instances) m.chunks c d (number_in-marked number c.owner slot m.instances) one) shows.chunks;
  alone = λ k. marked_alone k slot m.instances (shows.alone k);
  apart = λ a b k first second. shows.apart a b k (sym (number_in-marked number a slot m.instances) ∙ first) (sym (number_in-marked number b slot m.instances) ∙ second);
  rows = one_row-marked slot m.instances shows.rows;
  once = shows.once;
  unkept = shows.unkept;
}
  where
    still : (i : Instance) (x : Known) → ShowsInstance number m s i x → ShowsInstance number (record m { instances = marked slot m.instances }) (record s { instances = ys_marked n s.instances }) i x
    still i x one = stays number m s (marked slot m.instances) (ys_marked n s.instances) m.chunks s.chunks i x (in_slot-marked i.slot slot m.instances) one

-- ---- one leaves

abbrev pub ds_without : ℕ → List Front → List Front
ds_without n ds = law_without (λ d. d.instance == n) ds

number_in-elsewhere : (number : ℕ → ℕ) (slot k : ℕ) (is : List Instance) → (slot == k) ≡ false → number_in number slot (without_slot k is) ≡ number_in number slot is
number_in-elsewhere number slot k is apart = ap (λ (u : Option Instance). option_map (λ i. number i.life) u) (in_slot-elsewhere slot k is apart)

none_there : (n : ℕ) → None ≡ Some n → ⊥
none_there n e = absurd cc

number_in-before : (number : ℕ → ℕ) (slot k n : ℕ) (is : List Instance) → number_in number slot (without_slot k is) ≡ Some n → number_in number slot is ≡ Some n
number_in-before number slot k n is has = by (slot == k) refl
  where
    by : (b : Bool) → (slot == k) ≡ b → number_in number slot is ≡ Some n
    by true same =
        let gone : number_in number slot (without_slot k is) ≡ None = ap (λ (j : ℕ). number_in number j (without_slot k is)) (is_same slot k same) ∙ ap (λ (u : Option Instance). option_map (λ i. number i.life) u) (in_slot-gone k is) in
        absurd (none_there n (sym gone ∙ has))
    by false apart = sym (number_in-elsewhere number slot k is apart) ∙ has

pub forgets_at : (number : ℕ → ℕ) (m : Memory) (s : State) (slot n : ℕ) → ShowsTable number m s → number_in number slot m.instances ≡ Some n
    → ShowsTable number (record m { instances = without_slot slot m.instances; chunks = without_owner slot m.chunks }) (record s { instances = law_without (is_instance n) s.instances; chunks = ds_without n s.chunks })
forgets_at number m s slot n shows at = record {
  instances =
      kept (ShowsInstance number m s)
      (ShowsInstance number (record m { instances = without_slot slot m.instances; chunks = without_owner slot m.chunks }) (record s { instances = law_without (is_instance n) s.instances; chunks = ds_without n s.chunks }))
      (is_elsewhere slot) (λ x. not (is_instance n x)) m.instances s.instances
      (λ i x one. ap (λ (b : Bool). not b) (instances_alike number m s slot n i x shows.apart at one))
      (λ i x one is. stays number m s (without_slot slot m.instances) (law_without (is_instance n) s.instances) (without_owner slot m.chunks) (ds_without n s.chunks) i x (in_slot-elsewhere i.slot slot m.instances (not_true (i.slot == slot) is)) one)
      shows.instances;
  chunks =
      kept (ShowsChunk number m) (ShowsChunk number (record m { instances = without_slot slot m.instances; chunks = without_owner slot m.chunks })) (is_of_other slot) (λ d. not (d.instance == n)) m.chunks s.chunks
      (λ c d one. ap (λ (b : Bool). not b) (owners_alike number m slot n c d shows.apart at one))
      (λ c d one is. chunk_stays number m (without_slot slot m.instances) (without_owner slot m.chunks) c d (number_in-elsewhere number c.owner slot m.instances (not_true (c.owner == slot) is)) one)
      shows.chunks;
  alone = λ k. omega (arith, count_kept (is_in_slot k) (is_elsewhere slot) m.instances, shows.alone k);
  apart = λ a b k first second. shows.apart a b k (number_in-before number a slot k m.instances first) (number_in-before number b slot k m.instances second);
  rows = one_row-forgotten slot m.instances shows.rows;
  once = λ place. omega (arith, count_kept (is_at place) (is_of_other slot) m.chunks, shows.once place);
  unkept = shows.unkept;
}
