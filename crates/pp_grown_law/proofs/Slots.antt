-- What stands in each slot, and what is in memory of it, behind what brings no byte.
use Rattle.std.proofs.Common.{◌≡◌, refl, sym, subst, ap, ◌∙◌, ℕ, ◌/◌, ◌%◌, ◌==◌, Bool, true, false, ◌&&◌, cond, List, [], length, filter, Option, Some, None, option_map, arith}
use Rattle.std.proofs.lemmas.Bool.Decides.{nat_tests}
use Rattle.std.specs.Prelude.{⊤, nat_lt}
use Rattle.pp_cache.specs.Memory.{Memory, is_in_memory}
use Rattle.pp_cache_law.proofs.Moves.{changed_if, in_slot-changed, in_slot-elsewhere, in_slot-gone, in_slot-marked}
use Rattle.pp_cache_law.proofs.Numbers.{is_same}
use Rattle.pp_cache_law.proofs.Faces.{in_slot-faced}
use Rattle.pp_holes.specs.Places.{Chunk, first_bytes, is_at, is_of_other, without_owner}
use Rattle.pp_keeps_law.proofs.Entries.{off_of}
use Rattle.pp_objects.specs.Changes.{changed_in, face, faces, followed, given_back, given_back_by, is_last, left, left_from, marked, retired, retired_from, without_slot}
use Rattle.pp_objects.specs.Instances.{Instance, in_slot, is_in_slot}
use Rattle.pp_grown_law.proofs.Rows.{filter_out, held_without}

-- ---- the instance of a slot

-- but for what changes as it is used; one that is retired stays so
pub record IsLike (i j : Instance) : Type 0 where
  pub life : j.life ≡ i.life
  pub key : j.key ≡ i.key
  pub version : j.version ≡ i.version
  pub row : j.is_retired ≡ false → i.is_retired ≡ false

-- nothing of a slot is in memory
abbrev pub IsBare : List Chunk → ℕ → Type 0
IsBare cs slot = (o : ℕ) → is_in_memory slot o cs ≡ false

-- it stays, or is out with its chunks
abbrev pub StaysIn : List Chunk → ℕ → Option Instance → Option Instance → Type 0
StaysIn cs slot None None = ⊤
StaysIn cs slot None (Some j) = ⊥
StaysIn cs slot (Some i) None = IsBare cs slot
StaysIn cs slot (Some i) (Some j) = IsLike i j

pub record Lessens (m n : Memory) : Type 0 where
  pub slots : (slot : ℕ) → StaysIn n.chunks slot (in_slot slot m.instances) (in_slot slot n.instances)
  pub held : (slot o : ℕ) → is_in_memory slot o n.chunks ≡ true → is_in_memory slot o m.chunks ≡ true
  pub grown : n.grown ≡ m.grown
  pub size : n.size ≡ m.size

-- ---- one behind the other

like_itself : (i : Instance) → IsLike i i
like_itself i = record { life = refl; key = refl; version = refl; row = λ is. is }

still : (cs : List Chunk) (slot : ℕ) (a : Option Instance) → StaysIn cs slot a a
still cs slot None = tt
still cs slot (Some i) = like_itself i

still_as : (cs : List Chunk) (slot : ℕ) (a b : Option Instance) → b ≡ a → StaysIn cs slot a b
still_as cs slot a b is = subst (λ (o : Option Instance). StaysIn cs slot a o) (sym is) (still cs slot a)

pub bare_less : (cs ds : List Chunk) (slot : ℕ) → ((o : ℕ) → is_in_memory slot o ds ≡ true → is_in_memory slot o cs ≡ true) → IsBare cs slot → IsBare ds slot
bare_less cs ds slot less bare o = by (is_in_memory slot o ds) (λ is. less o is)
  where
    by : (b : Bool) → (b ≡ true → is_in_memory slot o cs ≡ true) → b ≡ false
    by true is = absurd (let both : true ≡ false = sym (is refl) ∙ bare o in cc both)
    by false is = refl

stays_then : (cs ds : List Chunk) (slot : ℕ) (a b c : Option Instance) → ((o : ℕ) → is_in_memory slot o ds ≡ true → is_in_memory slot o cs ≡ true) → StaysIn cs slot a b → StaysIn ds slot b c → StaysIn ds slot a c
stays_then cs ds slot None None None less one two = tt
stays_then cs ds slot None None (Some k) less one two = two
stays_then cs ds slot None (Some j) c less one two = absurd one
stays_then cs ds slot (Some i) None None less one two = bare_less cs ds slot less one
stays_then cs ds slot (Some i) None (Some k) less one two = absurd two
stays_then cs ds slot (Some i) (Some j) None less one two = two
stays_then cs ds slot (Some i) (Some j) (Some k) less one two =
    record { life = two.life ∙ one.life; key = two.key ∙ one.key; version = two.version ∙ one.version; row = λ is. one.row (two.row is) }

pub lessens_then : (k m n : Memory) → Lessens k m → Lessens m n → Lessens k n
lessens_then k m n one two = record {
  slots = λ slot. stays_then m.chunks n.chunks slot (in_slot slot k.instances) (in_slot slot m.instances) (in_slot slot n.instances) (two.held slot) (one.slots slot) (two.slots slot);
  held = λ slot o is. one.held slot o (two.held slot o is);
  grown = two.grown ∙ one.grown;
  size = two.size ∙ one.size;
}

-- where instances stay as they are
pub lessens_rows : (m n : Memory) → n.instances ≡ m.instances → ((slot o : ℕ) → is_in_memory slot o n.chunks ≡ true → is_in_memory slot o m.chunks ≡ true) → n.grown ≡ m.grown → n.size ≡ m.size → Lessens m n
lessens_rows m n rows held grown size = record { slots = λ slot. still_as n.chunks slot (in_slot slot m.instances) (in_slot slot n.instances) (ap (λ (is : List Instance). in_slot slot is) rows); held = held; grown = grown; size = size }

pub lessens_none : (m : Memory) → Lessens m m
lessens_none m = lessens_rows m m refl (λ slot o is. is) refl refl

pub lessens_as : (m n k : Memory) → k ≡ n → Lessens m n → Lessens m k
lessens_as m n k is less = subst (λ (l : Memory). Lessens m l) (sym is) less

-- ---- instances change in their slots

change_in : (cs : List Chunk) (slot k : ℕ) (f : Instance → Instance) → ((i : Instance) → IsLike i (f i)) → (a : Option Instance) → StaysIn cs slot a (option_map (changed_if k f) a)
change_in cs slot k f like None = tt
change_in cs slot k f like (Some i) = by (is_in_slot k i)
  where
    by : (b : Bool) → IsLike i (cond b (f i) i)
    by true = like i
    by false = like_itself i

changed_stay : (cs : List Chunk) (k : ℕ) (f : Instance → Instance) (is : List Instance) → ((i : Instance) → (f i).slot ≡ i.slot) → ((i : Instance) → IsLike i (f i)) → (slot : ℕ) → StaysIn cs slot (in_slot slot is) (in_slot slot (changed_in k f is))
changed_stay cs k f is same like slot = subst (λ (o : Option Instance). StaysIn cs slot (in_slot slot is) o) (sym (in_slot-changed slot k f is same)) (change_in cs slot k f like (in_slot slot is))

pub lessens_changed : (k : ℕ) (f : Instance → Instance) (m : Memory) → ((i : Instance) → (f i).slot ≡ i.slot) → ((i : Instance) → IsLike i (f i)) → Lessens m (record m { instances = changed_in k f m.instances })
lessens_changed k f m same like = record { slots = changed_stay m.chunks k f m.instances same like; held = λ slot o is. is; grown = refl; size = refl }

pub lessens_marked : (k : ℕ) (m : Memory) → Lessens m (record m { instances = marked k m.instances })
lessens_marked k m = record {
  slots = λ slot. still_as m.chunks slot (in_slot slot m.instances) (in_slot slot (marked k m.instances)) (in_slot-marked slot k m.instances);
  held = λ slot o is. is;
  grown = refl;
  size = refl;
}

pub lessens_followed : (k : ℕ) (m : Memory) → Lessens m (record m { instances = changed_in k followed m.instances })
lessens_followed k m = lessens_changed k followed m (λ i. refl) (λ i. record { life = refl; key = refl; version = refl; row = λ is. is })

-- what an instance has in memory is told by its chunks
faced_in : (cs : List Chunk) (slot : ℕ) (a b : Option Instance) → option_map face b ≡ option_map face a → StaysIn cs slot a b
faced_in cs slot None None same = tt
faced_in cs slot None (Some j) same = absurd (cc same)
faced_in cs slot (Some i) None same = absurd (cc same)
faced_in cs slot (Some i) (Some j) same =
    let one : face j ≡ face i = cc same in
    record { life = ap (λ (x : Instance). x.life) one; key = ap (λ (x : Instance). x.key) one; version = ap (λ (x : Instance). x.version) one; row = λ is. sym (ap (λ (x : Instance). x.is_retired) one) ∙ is }

pub lessens_faced : (m n : Memory) → faces n.instances ≡ faces m.instances → ((slot o : ℕ) → is_in_memory slot o n.chunks ≡ true → is_in_memory slot o m.chunks ≡ true) → n.grown ≡ m.grown → n.size ≡ m.size → Lessens m n
lessens_faced m n same held grown size = record {
  slots = λ slot. faced_in n.chunks slot (in_slot slot m.instances) (in_slot slot n.instances) (in_slot-faced slot n.instances m.instances same);
  held = held;
  grown = grown;
  size = size;
}

-- ---- an instance is out with its chunks

none_below : (n : ℕ) → nat_lt n 0 ≡ false
none_below n = grind (arith, nat_tests)

bare_owner : (k : ℕ) (cs : List Chunk) → IsBare (without_owner k cs) k
bare_owner k cs o =
    let out : filter (is_at (k, o / 4096)) (without_owner k cs) ≡ [] = filter_out (is_at (k, o / 4096)) (is_of_other k) cs (λ c other. ap (λ (b : Bool). b && (c.index == o / 4096)) (off_of (c.owner == k) other)) in
    ap (λ (ds : List Chunk). nat_lt (o % 4096) (length (first_bytes ds))) out ∙ none_below (o % 4096)

out_in : (k : ℕ) (cs : List Chunk) (a : Option Instance) → StaysIn (without_owner k cs) k a None
out_in k cs None = tt
out_in k cs (Some i) = bare_owner k cs

out_stay : (k : ℕ) (is : List Instance) (cs : List Chunk) (slot : ℕ) → StaysIn (without_owner k cs) slot (in_slot slot is) (in_slot slot (without_slot k is))
out_stay k is cs slot = by (slot == k) refl
  where
    here : slot ≡ k → StaysIn (without_owner k cs) slot (in_slot slot is) (in_slot slot (without_slot k is))
    here same = subst (λ (n : ℕ). StaysIn (without_owner k cs) n (in_slot n is) (in_slot n (without_slot k is))) (sym same)
        (subst (λ (o : Option Instance). StaysIn (without_owner k cs) k (in_slot k is) o) (sym (in_slot-gone k is)) (out_in k cs (in_slot k is)))

    by : (b : Bool) → (slot == k) ≡ b → StaysIn (without_owner k cs) slot (in_slot slot is) (in_slot slot (without_slot k is))
    by true same = here (is_same slot k same)
    by false apart = still_as (without_owner k cs) slot (in_slot slot is) (in_slot slot (without_slot k is)) (in_slot-elsewhere slot k is apart)

pub lessens_out : (k : ℕ) (m : Memory) → Lessens m (record m { instances = without_slot k m.instances; chunks = without_owner k m.chunks })
lessens_out k m = record { slots = out_stay k m.instances m.chunks; held = λ slot o is. held_without slot o k m.chunks is; grown = refl; size = refl }

-- ---- one that is followed less, or is not known any more

pub lessens_left : (k : ℕ) (o : Option Instance) (m : Memory) → Lessens m (record m { instances = left_from k o m.instances; chunks = given_back (is_last o) k m.chunks })
lessens_left k o m = by (is_last o)
  where
    by : (b : Bool) → Lessens m (record m { instances = cond b (without_slot k m.instances) (changed_in k left m.instances); chunks = cond b (without_owner k m.chunks) m.chunks })
    by true = lessens_out k m
    by false = lessens_changed k left m (λ i. refl) (λ i. record { life = refl; key = refl; version = refl; row = λ is. is })

pub lessens_retired : (o : Option Instance) (m : Memory) → Lessens m (record m { instances = retired_from o m.instances; chunks = given_back_by o m.chunks })
lessens_retired None m = lessens_none m
lessens_retired (Some i) m = by (i.followers == 0)
  where
    by : (b : Bool) → Lessens m (record m { instances = cond b (without_slot i.slot m.instances) (changed_in i.slot retired m.instances); chunks = cond b (without_owner i.slot m.chunks) m.chunks })
    by true = lessens_out i.slot m
    by false = lessens_changed i.slot retired m (λ j. refl) (λ j. record { life = refl; key = refl; version = refl; row = λ is. absurd (cc is) })
