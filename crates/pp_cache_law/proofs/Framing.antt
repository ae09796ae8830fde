-- What is no part of the table may change.
use Rattle.std.proofs.Common.{◌≡◌, ◌<◌, ◌≤◌, refl, sym, subst, ap, ◌∙◌, ℕ, Bool, true, false, ◌&&◌, cond, List, [], Some, None, replicate, zero, suc, arith}
use Rattle.std.specs.Prelude.{count_by, slice_get}
use Rattle.pp_cache.specs.Memory.{Memory, empty_memory, is_row_in}
use Rattle.pp_cache.specs.OnDisk.{bytes_of, nowhere}
use Rattle.pp_cache.specs.declared.extents.Extent.{Extent}
use Rattle.pp_holes.specs.Places.{Chunk, is_at}
use Rattle.pp_law.specs.State.{State, Client, Instance as Known, Chunk as Front}
use Rattle.pp_objects.specs.Instances.{Instance, id_of, in_slot, is_in_slot, is_life, is_same_id}
use Rattle.pp_objects.specs.OneRow.{HasOneRow}
use Rattle.pp_objects.specs.declared.id.ObjectId.{ObjectId}
use Rattle.pp_cache_law.specs.Frames.{BeginningsAreTheLaws, FramesAreTheLaws, IsSameMemory, IsSameTable}
use Rattle.pp_cache_law.specs.Pairs.{AreAll}
use Rattle.pp_cache_law.specs.Tables.{AreFollowed, ShowsCache, ShowsChunk, ShowsInstance, ShowsTable, number_in}
use Rattle.pp_cache_law.proofs.PairLemmas.{also}

less_more : (a b c : ℕ) → a < b → b ≤ c → a < c
less_more a b c e f = omega (arith, e, f)

no_less : (a b c : ℕ) → a ≤ b → b ≤ c → a ≤ c
no_less a b c e f = omega (arith, e, f)

-- none is passed over
pub the_same : (n : ℕ) → n ≤ n
the_same n = omega arith

again : (number : ℕ → ℕ) (m k : Memory) (s t : State) (i : Instance) (x : Known) → IsSameMemory m k → IsSameTable s t → ShowsInstance number m s i x → ShowsInstance number k t i x
again number m k s t i x one other shows = record {
  there = ap (λ (is : List Instance). in_slot i.slot is) one.instances ∙ shows.there;
  id = shows.id;
  key = shows.key;
  version = shows.version;
  fields = shows.fields;
  times = shows.times;
  retired = shows.retired;
  followers = shows.followers ∙ sym (other.followers x.id);
  extent =
      ap (λ (is : List Instance). cond (is_life i.life (in_slot i.slot is) && is_row_in (in_slot i.slot is)) (bytes_of (id_of i) (slice_get k.extents i.slot)) 0) one.instances
      ∙ ap (λ (es : List Extent). cond (is_life i.life (in_slot i.slot m.instances) && is_row_in (in_slot i.slot m.instances)) (bytes_of (id_of i) (slice_get es i.slot)) 0) one.extents
      ∙ shows.extent ∙ sym (other.kept x);
  given = subst (λ (n : ℕ). i.life < n) (sym one.lives) shows.given;
  made = less_more x.id s.next_instance t.next_instance shows.made other.made;
}

again_chunk : (number : ℕ → ℕ) (m k : Memory) (c : Chunk) (d : Front) → IsSameMemory m k → ShowsChunk number m c d → ShowsChunk number k c d
again_chunk number m k c d one shows = record {
  owner = ap (λ (is : List Instance). number_in number c.owner is) one.instances ∙ shows.owner;
  index = shows.index;
  bytes = shows.bytes;
  some = shows.some;
}

pub table-again : (number : ℕ → ℕ) (m k : Memory) (s t : State) → IsSameMemory m k → IsSameTable s t → ShowsTable number m s → ShowsTable number k t
table-again number m k s t one other shows = record {
  instances =
      subst (λ (is : List Instance). AreAll (ShowsInstance number k t) is t.instances) (sym one.instances)
      (subst (λ (xs : List Known). AreAll (ShowsInstance number k t) m.instances xs) (sym other.instances)
      (also (ShowsInstance number m s) (ShowsInstance number k t) m.instances s.instances (λ i x shown. again number m k s t i x one other shown) shows.instances));
  chunks =
      subst (λ (cs : List Chunk). AreAll (ShowsChunk number k) cs t.chunks) (sym one.chunks)
      (subst (λ (ds : List Front). AreAll (ShowsChunk number k) m.chunks ds) (sym other.chunks)
      (also (ShowsChunk number m) (ShowsChunk number k) m.chunks s.chunks (λ c d shown. again_chunk number m k c d one shown) shows.chunks));
  alone = subst (λ (is : List Instance). (slot : ℕ) → count_by (is_in_slot slot) is ≤ 1) (sym one.instances) shows.alone;
  apart = subst (λ (is : List Instance). (a b n : ℕ) → number_in number a is ≡ Some n → number_in number b is ≡ Some n → a ≡ b) (sym one.instances) shows.apart;
  rows = subst (λ (is : List Instance). HasOneRow is) (sym one.instances) shows.rows;
  once = subst (λ (cs : List Chunk). (at : ℕ × ℕ) → count_by (is_at at) cs ≤ 1) (sym one.chunks) shows.once;
  unkept =
      subst (λ (n : ℕ). (id : ObjectId) → n ≤ id.life → bytes_of id (slice_get k.extents id.slot) ≡ 0) (sym one.lives)
      (subst (λ (es : List Extent). (id : ObjectId) → m.lives ≤ id.life → bytes_of id (slice_get es id.slot) ≡ 0) (sym one.extents) shows.unkept);
}

pub frames_of : FramesAreTheLaws
frames_of number m s shows k t one other = record {
  table = table-again number m k s t one other shows.table;
  followed = subst (λ (is : List Instance). AreFollowed is) (sym one.instances) shows.followed;
  ahead = λ n more. other.followers n ∙ shows.ahead n (no_less s.next_instance t.next_instance n other.made more);
}

-- ---- an empty one

nothing_there : (n slot : ℕ) (id : ObjectId) → bytes_of id (slice_get (replicate n nowhere) slot) ≡ 0
nothing_there zero slot id = refl
nothing_there (suc n) zero id = by (is_same_id nowhere.id id)
  where
    by : (b : Bool) → cond {A = ℕ} b 0 0 ≡ 0
    by true = refl
    by false = refl
nothing_there (suc n) (suc slot) id = nothing_there n slot id

empty_shows : (number : ℕ → ℕ) (size : ℕ) (s : State) (xs : List Known) (ds : List Front) (cs : List Client) → xs ≡ [] → ds ≡ [] → cs ≡ []
    → ShowsCache number (empty_memory size) (record s { instances = xs; chunks = ds; clients = cs })
empty_shows number size s xs ds cs e f g =
    subst (λ (xs : List Known). ShowsCache number (empty_memory size) (record s { instances = xs; chunks = ds; clients = cs })) (sym e)
    (subst (λ (ds : List Front). ShowsCache number (empty_memory size) (record s { instances = []; chunks = ds; clients = cs })) (sym f)
    (subst (λ (cs : List Client). ShowsCache number (empty_memory size) (record s { instances = []; chunks = []; clients = cs })) (sym g)
    (record {
      table = record {
        instances = tt;
        chunks = tt;
        alone = λ slot. omega arith;
        apart = λ a b n first second. absurd (none_there n first);
        rows = λ key. omega arith;
        once = λ at. omega arith;
        unkept = λ id more. nothing_there 1345 id.slot id;
      };
      followed = λ slot i there retired. absurd (nobody i there);
      ahead = λ n more. refl;
    })))
  where
    none_there : (n : ℕ) → None ≡ Some n → ⊥
    none_there n e = absurd cc

    nobody : (i : Instance) → None ≡ Some i → ⊥
    nobody i e = absurd cc

pub beginnings_of : BeginningsAreTheLaws
beginnings_of number size s none few nobody = empty_shows number size s s.instances s.chunks s.clients none few nobody
