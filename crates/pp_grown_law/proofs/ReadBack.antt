-- A chunk that is read back was kept: so it brings nothing.
use Rattle.std.proofs.Common.{◌≡◌, ◌<◌, ◌≤◌, refl, sym, subst, ap, ◌∙◌, ℕ, ◌+◌, ◌*◌, Bool, true, false, ◌&&◌, ◌||◌, not, cond, find, filter, length, take, List, [], ◌∷◌, ◌++◌, Option, Some, None, Ok, Err, arith}
use Rattle.std.proofs.lemmas.Bool.Decides.{nat_tests}
use Rattle.std.proofs.lemmas.List.{length-take}
use Rattle.std.proofs.lemmas.Slice.Eq.{bytes_eq-Decides}
use Rattle.std.specs.List.{list_any}
use Rattle.std.specs.Option.{option_and_then}
use Rattle.std.specs.Prelude.{IfSome, bytes_eq, is_some, nat_le, slice_get, unwrap_or}
use Rattle.pp_cache.specs.Memory.{Memory, is_in_memory}
use Rattle.pp_cache.specs.OnDisk.{grown_by}
use Rattle.pp_cache_law.proofs.Finds.{find_kept, find_out}
use Rattle.pp_due.specs.OnDisk.{next_on_disk}
use Rattle.pp_holes.specs.Adding.{added}
use Rattle.pp_law.specs.Lists.{Bytes}
use Rattle.pp_objects.specs.Changes.{faces}
use Rattle.pp_objects.specs.Instances.{Instance, in_slot, is_same_id, is_there, total_at}
use Rattle.pp_objects.specs.declared.id.ObjectId.{ObjectId}
use Rattle.pp_seats.specs.declared.seat.Next.{Next}
use Rattle.pp_shelf.specs.Given.{keeps_byte}
use Rattle.pp_state.specs.Bodies.{HasJoined, IsButForCells, with_bytes, with_use}
use Rattle.pp_state.specs.Bringing.{instance_of}
use Rattle.pp_state.specs.declared.state.State.{State as Turn}
use Rattle.pp_store.specs.Changes.{is_other, lost}
use Rattle.pp_store.specs.Kept.{IsExtent, Kept as KeptRow, KeptMap, is_of, kept_of, no_row, row_of}
use Rattle.pp_store.specs.Loads.{LoadCause, chunk_len}
use Rattle.pp_talk.specs.Loading.{Answer, LoadsChunk, LoadsNext, LoadsOf, LoadsWhere, StaysAll, TakesChunk, chunk_at, shelf_after, with_none_kept}
use Rattle.pp_world.specs.Log.{Log}
use Rattle.pp_grown_law.proofs.Bytes.{HasFace, faced_of}
use Rattle.pp_grown_law.proofs.Joins.{WasOrJoins, among, before, held_added}
use Rattle.pp_grown_law.proofs.Less.{there_of}
use Rattle.pp_grown_law.specs.Handled.{GrowsFew, KeepsWholeChunks}
use Rattle.pp_grown_law.specs.Less.{BringsNone, BringsNothing, IsUnkept, bare, was}

-- ---- one behind the other

pub brings_then : (p q r : Turn) (a b c : KeptMap) → BringsNothing p q a b → BringsNothing q r b c → BringsNothing p r a c
brings_then p q r a b c one two = record { run = two.run ∙ one.run; kept = λ key k is. one.kept key k (two.kept key k is); rows = λ id j found row. by id j (two.rows id j found row) }
  where
    unkept : (id : ObjectId) (i j : Instance) → i.key ≡ j.key → ((o : ℕ) → IsUnkept r c id j.key o → is_in_memory id.slot o q.cache.chunks ≡ true) → (o : ℕ) → IsUnkept r c id j.key o → IsUnkept q b id i.key o
    unkept id i j key bytes o u = record { kept = u.kept; there = ap (λ (k : Bytes). kept_of k b) key ∙ two.kept j.key u.kept u.there; behind = u.behind; held = bytes o u }

    on : (id : ObjectId) (i j : Instance) → i.key ≡ j.key → i.version ≡ j.version → ((o : ℕ) → IsUnkept r c id j.key o → is_in_memory id.slot o q.cache.chunks ≡ true) → BringsNone p q b id i → BringsNone p r c id j
    on id i j key version bytes (was h there row its same more) = was h there row (its ∙ key) (same ∙ version) (λ o u. more o (unkept id i j key bytes o u))
    on id i j key version bytes (bare never) = bare (λ o u. never o (unkept id i j key bytes o u))

    by : (id : ObjectId) (j : Instance) → BringsNone q r c id j → BringsNone p r c id j
    by id j (was i there row key version bytes) = on id i j key version bytes (one.rows id i there row)
    by id j (bare never) = bare never

pub grows_then : (p q r : Turn) (a b c : KeptMap) → GrowsFew p q a b → GrowsFew q r b c → GrowsFew p r a c
grows_then p q r a b c one two = record { brings = brings_then p q r a b c one.brings two.brings; few = λ few. two.few (one.few few) }

pub grows_as : (p q r : Turn) (a b : KeptMap) → r ≡ q → GrowsFew p q a b → GrowsFew p r a b
grows_as p q r a b is grows = subst (λ (t : Turn). GrowsFew p t a b) (sym is) grows

-- ---- an entry is gone

other_so : (key k : Bytes) (row : KeptRow) → bytes_eq key k ≡ false → is_of k row ≡ true → is_other key row ≡ true
other_so key k row apart is = by (is_of key row) refl
  where
    by : (b : Bool) → is_of key row ≡ b → not b ≡ true
    by true its =
        let one : row.entry.key ≡ key = (bytes_eq-Decides row.entry.key key).0 its in
        let two : row.entry.key ≡ k = (bytes_eq-Decides row.entry.key k).0 is in
        absurd (let both : true ≡ false = sym (same_keys key k (sym one ∙ two)) ∙ apart in cc both)
      where
        same_keys : (a b : Bytes) → a ≡ b → bytes_eq a b ≡ true
        same_keys a b same = (bytes_eq-Decides a b).1 same
    by false its = refl

lost_kept : (key : Bytes) (shelf : KeptMap) (k : Bytes) (kept : KeptRow) → kept_of k (lost key shelf) ≡ Some kept → kept_of k shelf ≡ Some kept
lost_kept key shelf k kept is = by (bytes_eq key k) refl
  where
    by : (b : Bool) → bytes_eq key k ≡ b → kept_of k shelf ≡ Some kept
    by true same =
        let one : key ≡ k = (bytes_eq-Decides key k).0 same in
        let none : find (is_of k) (filter (is_other key) shelf.rows) ≡ None = find_out (is_of k) (is_other key) shelf.rows (λ row out. ap (λ (t : Bytes). bytes_eq row.entry.key t) (sym one) ∙ off (is_of key row) out) in
        absurd (let both : None ≡ Some kept = sym none ∙ is in cc both)
      where
        off : (b : Bool) → not b ≡ true → b ≡ false
        off true e = absurd (cc e)
        off false e = refl
    by false apart = sym (find_kept (is_of k) (is_other key) shelf.rows (λ row its. other_so key k row apart its)) ∙ is

-- ---- nothing of its instance is kept then

pub same_rows : (p q : Turn) (shelf new : KeptMap) → q.run ≡ p.run → q.cache.instances ≡ p.cache.instances → q.cache.chunks ≡ p.cache.chunks → q.cache.grown ≡ p.cache.grown → ((key : Bytes) (k : KeptRow) → kept_of key new ≡ Some k → kept_of key shelf ≡ Some k) → GrowsFew p q shelf new
same_rows p q shelf new run instances chunks grown kept = record {
  brings = record {
    run = run;
    kept = kept;
    rows = λ id j found row. was j (ap (λ (is : List Instance). instance_of id is) (sym instances) ∙ found) row refl refl (λ o u. ap (λ cs. is_in_memory id.slot o cs) (sym chunks) ∙ u.held);
  };
  few = λ few. subst (λ (ids : List ObjectId). length ids ≤ 16) (sym grown) few;
}

-- ---- its bytes join

chunk_within : (n index extent count : ℕ) → IsExtent n extent → 4096 * index < extent → count ≡ chunk_len n index → index * 4096 + count ≤ extent
chunk_within n index extent count whole inside is = omega (arith, whole, inside, is)

grown_few : (id : ObjectId) (ids : List ObjectId) → length ids ≤ 16 → length (grown_by id ids) ≤ 16
grown_few id ids few = by (list_any (is_same_id id) ids) (nat_le 16 (length ids)) refl
  where
    last : (xs : List ObjectId) → length (xs ++ id ∷ []) ≡ length xs + 1
    last [] = refl
    last (x ∷ xs) = omega (arith, last xs)

    by : (a b : Bool) → nat_le 16 (length ids) ≡ b → length (cond (a || b) ids (ids ++ id ∷ [])) ≤ 16
    by true b is = few
    by false true is = few
    by false false is = let less : length ids < 16 = grind (arith, nat_tests, is) in omega (arith, last ids, less)

module _ (id : ObjectId) (at : ℕ) (bytes : Bytes) (i : Instance) (shelf : KeptMap) (kept : KeptRow) (p q : Turn) where
  abbrev pub wanted : Turn
  wanted = with_use (record p { cache = with_bytes id at bytes p.cache })

  -- of the instance of that key, of which so much is kept
  pub bytes_bring : instance_of id p.cache.instances ≡ Some i → kept_of i.key shelf ≡ Some kept → at + length bytes ≤ kept.extent → IsButForCells wanted q → GrowsFew p q shelf shelf
  bytes_bring found its within but = record {
    brings = record { run = ap (λ (t : Turn). t.run) but.rest; kept = λ key k is. is; rows = rows };
    few = λ few. subst (λ (ids : List ObjectId). length ids ≤ 16) (sym grown) (few_by (is_there id p.cache.instances && nat_le (at + length bytes) (total_at id.slot p.cache.instances)) few);
  }
    where
      memory : HasJoined wanted.cache q.cache
      memory = but.cache

      grown : q.cache.grown ≡ wanted.cache.grown
      grown = ap (λ (m : Memory). m.grown) memory.rest

      few_by : (b : Bool) → length p.cache.grown ≤ 16 → length (elim b as (λ t. Memory) [ true ↦ record p.cache { chunks = (added p.cache.size id.slot at bytes p.cache.chunks).chunks; grown = grown_by id p.cache.grown } | false ↦ p.cache ]).grown ≤ 16
      few_by true few = grown_few id p.cache.grown few
      few_by false few = few

      instances_by : (b : Bool) → (elim b as (λ t. Memory) [ true ↦ record p.cache { chunks = (added p.cache.size id.slot at bytes p.cache.chunks).chunks; grown = grown_by id p.cache.grown } | false ↦ p.cache ]).instances ≡ p.cache.instances
      instances_by true = refl
      instances_by false = refl

      held_by : (slot o : ℕ) (b : Bool) → is_in_memory slot o (elim b as (λ t. Memory) [ true ↦ record p.cache { chunks = (added p.cache.size id.slot at bytes p.cache.chunks).chunks; grown = grown_by id p.cache.grown } | false ↦ p.cache ]).chunks ≡ true → WasOrJoins p.cache.chunks id.slot at (at + length bytes) slot o
      held_by slot o true held = held_added p.cache.size id.slot at bytes p.cache.chunks slot o held
      held_by slot o false held = before held

      held_so : (slot o : ℕ) → is_in_memory slot o q.cache.chunks ≡ true → WasOrJoins p.cache.chunks id.slot at (at + length bytes) slot o
      held_so slot o held = held_by slot o (is_there id p.cache.instances && nat_le (at + length bytes) (total_at id.slot p.cache.instances)) (ap (λ (m : Memory). is_in_memory slot o m.chunks) (sym memory.rest) ∙ held)

      rows : (other : ObjectId) (j : Instance) → instance_of other q.cache.instances ≡ Some j → j.is_retired ≡ false → BringsNone p q shelf other j
      rows other j here row = was one.one one.there (ap (λ (x : Instance). x.is_retired) one.same ∙ row) (ap (λ (x : Instance). x.key) one.same) (ap (λ (x : Instance). x.version) one.same) (λ o u. by o u (held_so other.slot o u.held))
        where
          one : HasFace other j p.cache.instances
          one = faced_of other j p.cache.instances q.cache.instances (memory.faces ∙ ap (λ (is : List Instance). faces is) (instances_by (is_there id p.cache.instances && nat_le (at + length bytes) (total_at id.slot p.cache.instances)))) here

          -- of that slot it is that instance
          key : other.slot ≡ id.slot → j.key ≡ i.key
          key same =
              let a : in_slot other.slot p.cache.instances ≡ Some one.one = (there_of other p.cache.instances one.one one.there).1 in
              let b : in_slot id.slot p.cache.instances ≡ Some i = (there_of id p.cache.instances i found).1 in
              let both : Some one.one ≡ Some i = sym a ∙ ap (λ (n : ℕ). in_slot n p.cache.instances) same ∙ b in
              let its : one.one ≡ i = cc both in
              sym (ap (λ (x : Instance). x.key) one.same) ∙ ap (λ (x : Instance). x.key) its

          by : (o : ℕ) → IsUnkept q shelf other j.key o → WasOrJoins p.cache.chunks id.slot at (at + length bytes) other.slot o → is_in_memory other.slot o p.cache.chunks ≡ true
          by o u (before held) = held
          by o u (among same above less) =
              let both : Some u.kept ≡ Some kept = sym u.there ∙ ap (λ (k : Bytes). kept_of k shelf) (key same) ∙ its in
              let one_kept : u.kept ≡ kept = cc both in
              absurd (omega (arith, u.behind, ap (λ (k : KeptRow). k.extent) one_kept, within, less))

-- ---- all of it

module _ (shelf behind : KeptMap) (p q : Turn) (whole : KeepsWholeChunks shelf) where
  stays_all : (old new : Option Log) (a b : ℕ) → StaysAll shelf p behind q old new a b → GrowsFew p q shelf behind
  stays_all old new a b is = subst (λ (s : KeptMap). GrowsFew p q shelf s) (sym is.0) (grows_as p p q shelf shelf is.1 (same_rows p p shelf shelf refl refl refl refl (λ key k here. here)))

  none_kept : (id : ObjectId) (new : KeptMap) → q ≡ with_none_kept id p → behind ≡ new → ((key : Bytes) (k : KeptRow) → kept_of key new ≡ Some k → kept_of key shelf ≡ Some k) → GrowsFew p q shelf behind
  none_kept id new is map kept = subst (λ (s : KeptMap). GrowsFew p q shelf s) (sym map) (grows_as p (with_none_kept id p) q shelf new is (same_rows p (with_none_kept id p) shelf new refl refl refl refl kept))

  -- which chunk is kept
  kept_for : (key : Bytes) (index : ℕ) → keeps_byte (4096 * index) (kept_of key shelf) ≡ true → (kept : KeptRow) × (kept_of key shelf ≡ Some kept) × (row_of key shelf ≡ kept) × (4096 * index < kept.extent)
  kept_for key index keeps = by (kept_of key shelf) refl keeps
    where
      by : (o : Option KeptRow) → kept_of key shelf ≡ o → keeps_byte (4096 * index) o ≡ true → (kept : KeptRow) × (kept_of key shelf ≡ Some kept) × (row_of key shelf ≡ kept) × (4096 * index < kept.extent)
      by None here is = absurd (cc is)
      by (Some kept) here is = (kept, here, row here, (let less : 4096 * index < kept.extent = grind (arith, nat_tests, is) in less))
        where
          row : kept_of key shelf ≡ Some kept → row_of key shelf ≡ kept
          row at = ap (λ (o : Option KeptRow). unwrap_or o no_row) at

  chunk_brings : (id : ObjectId) (index : ℕ) (i : Instance) (old new : Option Log) (a b : ℕ) → instance_of id p.cache.instances ≡ Some i → LoadsChunk id index i.key i.version shelf p behind q old new a b → GrowsFew p q shelf behind
  chunk_brings id index i old new a b found it = by it.answer it.answered it.cause it.map it.is
    where
      by : (answer : Answer) → is_some answer ≡ keeps_byte (4096 * index) (kept_of i.key shelf) → IfSome answer (LoadCause new a b (chunk_len (row_of i.key shelf).entry.version.length index)) → behind ≡ shelf_after answer i.key shelf → TakesChunk answer it.out index id p q → GrowsFew p q shelf behind
      by None answered cause map is = none_kept id shelf is map (λ key k here. here)
      by (Some (Err fault)) answered cause map is = none_kept id (lost i.key shelf) is map (lost_kept i.key shelf)
      by (Some (Ok count)) answered cause map is = subst (λ (s : KeptMap). GrowsFew p q shelf s) (sym map) joined
        where
          its : (kept : KeptRow) × (kept_of i.key shelf ≡ Some kept) × (row_of i.key shelf ≡ kept) × (4096 * index < kept.extent)
          its = kept_for i.key index (sym answered)

          long : count ≡ chunk_len its.0.entry.version.length index
          long = cause ∙ ap (λ (k : KeptRow). chunk_len k.entry.version.length index) its.2

          within : index * 4096 + length (take count it.out) ≤ its.0.extent
          within = omega (arith, length-take count it.out, chunk_within its.0.entry.version.length index its.0.extent count (whole i.key its.0 its.1) its.3 long)

          joined : GrowsFew p q shelf shelf
          joined = bytes_bring id (index * 4096) (take count it.out) i shelf its.0 p q found its.1 within is

  loads_of : (id : ObjectId) (o : Option Instance) (index : Option ℕ) (old new : Option Log) (a b : ℕ) → instance_of id p.cache.instances ≡ o → LoadsOf id o index shelf p behind q old new a b → GrowsFew p q shelf behind
  loads_of id None index old new a b found is = stays_all old new a b is
  loads_of id (Some i) None old new a b found is = stays_all old new a b is
  loads_of id (Some i) (Some index) old new a b found is = chunk_brings id index i old new a b found is

  loads_where : (o : Option Next) (old new : Option Log) (a b : ℕ) → LoadsWhere o shelf p behind q old new a b → GrowsFew p q shelf behind
  loads_where None old new a b is = stays_all old new a b is
  loads_where (Some next) old new a b is = loads_of next.source (instance_of next.source p.cache.instances) (chunk_at next.at) old new a b refl is

  pub loads_bring : (i : ℕ) (old new : Option Log) (a b : ℕ) → LoadsNext i shelf p behind q old new a b → GrowsFew p q shelf behind
  loads_bring i old new a b is = loads_where (option_and_then (next_on_disk p) (slice_get p.seats.items i)) old new a b is
