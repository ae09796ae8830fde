-- Rows come in without bytes: what else is in memory was there.
use Rattle.std.proofs.Common.{◌≡◌, refl, sym, subst, ap, ◌∙◌, ℕ, ◌+◌, ◌==◌, Bool, true, false, cond, List, [], ◌∷◌, ◌++◌, Option, Some, None}
use Rattle.pp_cache.specs.Memory.{Memory, is_in_memory, with_row}
use Rattle.pp_cache_law.proofs.Finds.{find_joined, first_of_two}
use Rattle.pp_due.specs.OnDisk.{IsBrought, with_kept}
use Rattle.pp_fresh.specs.declared.aging.Times.{Times}
use Rattle.pp_law.specs.Lists.{Bytes}
use Rattle.pp_objects.specs.Changes.{new_row}
use Rattle.pp_objects.specs.Instances.{Instance, in_slot, is_in_slot, is_life, is_there, row_of}
use Rattle.pp_objects.specs.Kept.{kept_of as fields_kept}
use Rattle.pp_objects.specs.declared.id.ObjectId.{ObjectId}
use Rattle.pp_state.specs.Bringing.{instance_of}
use Rattle.pp_store.specs.Kept.{Kept as KeptRow}
use Rattle.pp_text.specs.Fields.{Field}
use Rattle.pp_valid.specs.declared.version.Version.{Version}
use Rattle.pp_grown_law.proofs.Less.{there_of}
use Rattle.pp_grown_law.proofs.Slots.{IsBare, IsLike, Lessens, StaysIn, bare_less, lessens_as, lessens_none, lessens_retired, lessens_rows}

-- nothing is in memory of a slot in which no instance stands
abbrev pub HasOwners : Memory → Type 0
HasOwners m = (slot : ℕ) → in_slot slot m.instances ≡ None → IsBare m.chunks slot

-- the row was there, with what is in memory of it; or nothing is
pub data RowIn (m n : Memory) (id : ObjectId) (j : Instance) : Type 0 where
  there : (i : Instance) → instance_of id m.instances ≡ Some i → i.is_retired ≡ false → i.key ≡ j.key → i.version ≡ j.version → ((o : ℕ) → is_in_memory id.slot o n.chunks ≡ true → is_in_memory id.slot o m.chunks ≡ true) → RowIn m n id j
  empty : IsBare n.chunks id.slot → RowIn m n id j

pub record Less (m n : Memory) : Type 0 where
  pub owners : HasOwners n
  pub grown : n.grown ≡ m.grown
  pub rows : (id : ObjectId) (j : Instance) → instance_of id n.instances ≡ Some j → j.is_retired ≡ false → RowIn m n id j

-- of a row that was there
pub row_then : (k m n : Memory) (id : ObjectId) (i j : Instance) → i.key ≡ j.key → i.version ≡ j.version → ((o : ℕ) → is_in_memory id.slot o n.chunks ≡ true → is_in_memory id.slot o m.chunks ≡ true) → RowIn k m id i → RowIn k n id j
row_then k m n id i j key version bytes (there h at row its same more) = there h at row (its ∙ key) (same ∙ version) (λ o is. more o (bytes o is))
row_then k m n id i j key version bytes (empty bare) = empty (bare_less m.chunks n.chunks id.slot bytes bare)

pub less_then : (k m n : Memory) → Less k m → Less m n → Less k n
less_then k m n one two = record { owners = two.owners; grown = two.grown ∙ one.grown; rows = λ id j found row. by id j (two.rows id j found row) }
  where
    by : (id : ObjectId) (j : Instance) → RowIn m n id j → RowIn k n id j
    by id j (there i at row key version bytes) = row_then k m n id i j key version bytes (one.rows id i at row)
    by id j (empty bare) = empty bare

-- each row that is there was
pub rows_of : (m n : Memory) → Lessens m n → (id : ObjectId) (j : Instance) → instance_of id n.instances ≡ Some j → j.is_retired ≡ false → RowIn m n id j
rows_of m n less id j found row = by (in_slot id.slot m.instances) refl (subst (λ (o : Option Instance). StaysIn n.chunks id.slot (in_slot id.slot m.instances) o) at.1 (less.slots id.slot))
  where
    at : (is_there id n.instances ≡ true) × (in_slot id.slot n.instances ≡ Some j)
    at = there_of id n.instances j found

    was : (i : Instance) → in_slot id.slot m.instances ≡ Some i → IsLike i j → RowIn m n id j
    was i here like =
        let life : is_life id.life (Some i) ≡ true = ap (λ (k : ℕ). k == id.life) (sym like.life) ∙ sym (ap (λ (o : Option Instance). is_life id.life o) at.1) ∙ at.0 in
        let its : is_there id m.instances ≡ true = ap (λ (o : Option Instance). is_life id.life o) here ∙ life in
        there i (ap (λ (b : Bool). cond b (in_slot id.slot m.instances) None) its ∙ here) (like.row row) (sym like.key) (sym like.version) (less.held id.slot)

    by : (o : Option Instance) → in_slot id.slot m.instances ≡ o → StaysIn n.chunks id.slot (in_slot id.slot m.instances) (Some j) → RowIn m n id j
    by None here stays = absurd (let never : ⊥ = subst (λ (o : Option Instance). StaysIn n.chunks id.slot o (Some j)) here stays in never)
    by (Some i) here stays = was i here (subst (λ (o : Option Instance). StaysIn n.chunks id.slot o (Some j)) here stays)

pub less_of : (m n : Memory) → HasOwners m → Lessens m n → Less m n
less_of m n owners less = record {
  owners = λ slot none. own slot (in_slot slot m.instances) refl (subst (λ (o : Option Instance). StaysIn n.chunks slot (in_slot slot m.instances) o) none (less.slots slot));
  grown = less.grown;
  rows = rows_of m n less;
}
  where
    own : (slot : ℕ) (o : Option Instance) → in_slot slot m.instances ≡ o → StaysIn n.chunks slot (in_slot slot m.instances) None → IsBare n.chunks slot
    own slot None at stays = bare_less m.chunks n.chunks slot (less.held slot) (owners slot at)
    own slot (Some i) at stays = subst (λ (o : Option Instance). StaysIn n.chunks slot o None) at stays

-- a row comes in
appended : (i : Instance) (m : Memory) (lives : ℕ) → HasOwners m → Less m (record m { instances = m.instances ++ i ∷ []; lives = lives })
appended i m lives owners = record { owners = λ slot none. owners slot (first slot (in_slot slot m.instances) refl none); grown = refl; rows = rows }
  where
    joined : (slot : ℕ) → in_slot slot (m.instances ++ i ∷ []) ≡ first_of_two (in_slot slot m.instances) (in_slot slot (i ∷ []))
    joined slot = find_joined (is_in_slot slot) m.instances (i ∷ [])

    first : (slot : ℕ) (o : Option Instance) → in_slot slot m.instances ≡ o → in_slot slot (m.instances ++ i ∷ []) ≡ None → in_slot slot m.instances ≡ None
    first slot None at none = at
    first slot (Some k) at none = absurd (let both : Some k ≡ None = sym (joined slot ∙ ap (λ (o : Option Instance). first_of_two o (in_slot slot (i ∷ []))) at) ∙ none in cc both)

    rows : (id : ObjectId) (j : Instance) → instance_of id (m.instances ++ i ∷ []) ≡ Some j → j.is_retired ≡ false → RowIn m (record m { instances = m.instances ++ i ∷ []; lives = lives }) id j
    rows id j found row = by (in_slot id.slot m.instances) refl
      where
        at : (is_there id (m.instances ++ i ∷ []) ≡ true) × (in_slot id.slot (m.instances ++ i ∷ []) ≡ Some j)
        at = there_of id (m.instances ++ i ∷ []) j found

        by : (o : Option Instance) → in_slot id.slot m.instances ≡ o → RowIn m (record m { instances = m.instances ++ i ∷ []; lives = lives }) id j
        by None here = empty (owners id.slot here)
        by (Some k) here =
            let same : Some k ≡ Some j = sym (joined id.slot ∙ ap (λ (o : Option Instance). first_of_two o (in_slot id.slot (i ∷ []))) here) ∙ at.1 in
            let its : is_there id m.instances ≡ true = ap (λ (o : Option Instance). is_life id.life o) (here ∙ same ∙ sym at.1) ∙ at.0 in
            there j (ap (λ (b : Bool). cond b (in_slot id.slot m.instances) None) its ∙ here ∙ same) row refl refl (λ o is. is)

pub row_less : (id : ObjectId) (key : Bytes) (version : Version) (fields : List Field) (times : Times) (m : Memory) → HasOwners m → Less m (with_row id key version fields times m)
unfolding with_row
row_less id key version fields times m owners =
    let i : Instance = new_row id key version (fields_kept fields times) times in
    let k : Memory = record m { instances = m.instances ++ i ∷ []; lives = m.lives + 1 } in
    let one : Less m k = appended i m (m.lives + 1) owners in
    less_then m k _ one (less_of k _ one.owners (lessens_retired (row_of key m.instances) k))

kept_less : (id : ObjectId) (key : Bytes) (row : KeptRow) (m : Memory) → HasOwners m → Less m (with_kept id key row m)
kept_less id key row m owners =
    let k : Memory = with_row id key row.entry.version row.entry.fields row.entry.times m in
    let one : Less m k = row_less id key row.entry.version row.entry.fields row.entry.times m owners in
    less_then m k (with_kept id key row m) one (less_of k (with_kept id key row m) one.owners (lessens_rows k (with_kept id key row m) refl (λ slot o is. is) refl refl))

pub brought_less : (key : Bytes) (o : Option KeptRow) (m n : Memory) → IsBrought key o m n → HasOwners m → Less m n
brought_less key None m n same owners = less_of m n owners (lessens_as m m n same (lessens_none m))
brought_less key (Some row) m n enters owners = subst (λ (k : Memory). Less m k) (sym enters.entered) (kept_less enters.id key row m owners)

-- the cache may have as many chunks
pub row_size : (id : ObjectId) (key : Bytes) (version : Version) (fields : List Field) (times : Times) (m : Memory) → (with_row id key version fields times m).size ≡ m.size
unfolding with_row
row_size id key version fields times m = refl

pub brought_size : (key : Bytes) (o : Option KeptRow) (m n : Memory) → IsBrought key o m n → n.size ≡ m.size
brought_size key None m n same = ap (λ (k : Memory). k.size) same
brought_size key (Some row) m n enters = ap (λ (k : Memory). k.size) enters.entered ∙ row_size enters.id key row.entry.version row.entry.fields row.entry.times m
