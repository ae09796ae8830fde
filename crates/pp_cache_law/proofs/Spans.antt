-- A span is held where it reaches into no hole.
use Rattle.std.proofs.Common.{◌≡◌, ◌<◌, ◌≤◌, ◌+◌, ◌/◌, ◌%◌, ◌⊎◌, inl, inr, min, max, refl, sym, subst, ap, ap₂, ◌∙◌, ℕ, Bool, true, false, ◌||◌, List, length, Some, arith}
use Rattle.std.specs.Prelude.{nat_le, nat_lt}
use Rattle.std.proofs.lemmas.Bool.{cases_lt}
use Rattle.std.proofs.lemmas.Bool.Decides.{nat_tests}
use Rattle.pp_cache.specs.Memory.{extent_of as bytes_kept, is_in_memory}
use Rattle.pp_holes.specs.Places.{bytes_at}
use Rattle.pp_law.specs.Chunks.{filled}
use Rattle.pp_law.specs.Lists.{Bytes}
use Rattle.pp_law.specs.State.{Chunk as Front}
use Rattle.pp_law.specs.Table.{chunks_in, extent_of, is_held_by, is_span_held, reach}
use Rattle.pp_cache_law.specs.Reads.{SpansAreTheLaws}
use Rattle.pp_cache_law.specs.Tables.{number_in}
use Rattle.pp_cache_law.proofs.Alike.{bytes_in_chunks, extents_of}
use Rattle.pp_cache_law.proofs.Changed.{its_number}
use Rattle.pp_cache_law.proofs.Numbers.{number_of_there, true_false}
use Rattle.pp_cache_law.proofs.Reaches.{Fronts, below_extent, enough_steps, in_chunk, isnt_less, less_is, reach_ends, reach_held, reach_on}

le_is : (a b : ℕ) → a ≤ b → nat_le a b ≡ true
le_is a b less = grind (arith, nat_tests)

le_isnt : (a b : ℕ) → b < a → nat_le a b ≡ false
le_isnt a b more = grind (arith, nat_tests)

or_true : (b : Bool) → (b || true) ≡ true
or_true true = refl
or_true false = refl

either : (a b c d t u v w : Bool) → a ≡ t → b ≡ u → c ≡ v → d ≡ w → (t || u) ≡ (v || w) → (a || b) ≡ (c || d)
either a b c d t u v w e f g h same = ap₂ (λ (x y : Bool). x || y) e f ∙ same ∙ sym (ap₂ (λ (x y : Bool). x || y) g h)

-- what the hole tells, in the words of the law
record EndsAt (id ext from hole len : ℕ) (cs : List Front) : Type 0 where
  pub behind : min (max from ext) len ≤ hole
  pub held : (o : ℕ) → max from ext ≤ o → o < hole → nat_lt (o % 4096) (filled id (o / 4096) cs) ≡ true
  pub missing : hole < len → nat_lt (hole % 4096) (filled id (hole / 4096) cs) ≡ false

span_same : (id ext len from to hole r : ℕ) (cs : List Front) → from ≤ r → ((o : ℕ) → from ≤ o → o < r → is_held_by id ext cs o ≡ true) → (r < len → is_held_by id ext cs r ≡ false) → to ≤ len → EndsAt id ext from hole len cs
    → (nat_le to (max from ext) || nat_le to hole) ≡ (nat_le to from || nat_le to r)
span_same id ext len from to hole r cs on all ends within at = by (cases_lt from to) (cases_lt r to) (cases_lt (max from ext) to) (cases_lt hole to)
  where
    -- all before r is held, and the hole is not
    hole_held : max from ext < to → hole < to → to ≤ r → ⊥
    hole_held far less more =
        let start : max from ext ≤ hole = omega (arith, far, within, at.behind) in
        let held : is_held_by id ext cs hole ≡ true = all hole (omega (arith, start)) (omega (arith, less, more)) in
        let isnt : is_held_by id ext cs hole ≡ false =
        ap₂ (λ (x y : Bool). x || y) (isnt_less hole ext (omega (arith, start))) (at.missing (omega (arith, less, within))) in
        true_false (sym held ∙ isnt)

    -- r is not held, and all below the extent is
    extent_held : from < to → r < to → to ≤ max from ext → ⊥
    extent_held some less far = true_false (sym (below_extent id ext cs r (omega (arith, some, less, far))) ∙ ends (omega (arith, less, within)))

    -- and all before the hole
    before_hole : r < to → to ≤ hole → ⊥
    before_hole less more = of (cases_lt r ext)
      where
        of : (r < ext) ⊎ (ext ≤ r) → ⊥
        of (inl below) = true_false (sym (below_extent id ext cs r below) ∙ ends (omega (arith, less, within)))
        of (inr above) =
            let held : is_held_by id ext cs r ≡ true = in_chunk id ext cs r (less_is (r % 4096) (filled id (r / 4096) cs) (at.held r (omega (arith, above, on)) (omega (arith, less, more)))) in
            true_false (sym held ∙ ends (omega (arith, less, within)))

    by : (from < to) ⊎ (to ≤ from) → (r < to) ⊎ (to ≤ r) → (max from ext < to) ⊎ (to ≤ max from ext) → (hole < to) ⊎ (to ≤ hole) → (nat_le to (max from ext) || nat_le to hole) ≡ (nat_le to from || nat_le to r)
    by (inr none) b c d = ap (λ (x : Bool). x || nat_le to hole) (le_is to (max from ext) (omega (arith, none))) ∙ sym (ap (λ (x : Bool). x || nat_le to r) (le_is to from none))
    by (inl some) (inr more) (inr far) d = ap (λ (x : Bool). x || nat_le to hole) (le_is to (max from ext) far) ∙ sym (ap (λ (x : Bool). nat_le to from || x) (le_is to r more) ∙ or_true (nat_le to from))
    by (inl some) (inr more) (inl near) (inr deep) =
        ap (λ (x : Bool). nat_le to (max from ext) || x) (le_is to hole deep) ∙ or_true (nat_le to (max from ext)) ∙ sym (ap (λ (x : Bool). nat_le to from || x) (le_is to r more) ∙ or_true (nat_le to from))
    by (inl some) (inr more) (inl near) (inl short) = absurd (hole_held near short more)
    by (inl some) (inl less) (inr far) d = absurd (extent_held some less far)
    by (inl some) (inl less) (inl near) (inr deep) = absurd (before_hole less deep)
    by (inl some) (inl less) (inl near) (inl short) =
        either (nat_le to (max from ext)) (nat_le to hole) (nat_le to from) (nat_le to r) false false false false (le_isnt to (max from ext) near) (le_isnt to hole short) (le_isnt to from some) (le_isnt to r less) refl

pub spans_of : SpansAreTheLaws
spans_of number m s shows id x there known from to hole fronts within is =
    subst (λ (e : ℕ). (nat_le to (max from e) || nat_le to hole) ≡ is_span_held s x (from, to)) (sym extent)
    (span_same x.id (extent_of s x) x.version.length from to hole (reach (chunks_in x.version.length + 2) x.id (extent_of s x) s.chunks from) s.chunks (reach_on (chunks_in x.version.length + 2) x.id (extent_of s x) s.chunks from)
    (λ o start before. reach_held (chunks_in x.version.length + 2) x.id (extent_of s x) s.chunks o few from start before)
    (λ less. reach_ends (chunks_in x.version.length + 2) x.id (extent_of s x) s.chunks x.version.length few from (enough_steps (extent_of s x) x.version.length from) less) within
    (record {
      behind = subst (λ (e : ℕ). min (max from e) x.version.length ≤ hole) extent is.behind;
      held = λ o start before. sym (memory o) ∙ is.held o (subst (λ (e : ℕ). max from e ≤ o) (sym extent) start) before;
      missing = λ less. sym (memory hole) ∙ is.missing less;
    }))
  where
    extent : bytes_kept id m ≡ extent_of s x
    extent = extents_of number m s shows id x there known

    at : number_in number id.slot m.instances ≡ Some x.id
    at = number_of_there number id m.instances there ∙ ap (λ (n : ℕ). Some n) (its_number number m s id x shows there known)

    bytes : (index : ℕ) → length (bytes_at (id.slot, index) m.chunks) ≡ filled x.id index s.chunks
    bytes index = ap (λ (xs : Bytes). length xs) (bytes_in_chunks number m id.slot x.id index m.chunks s.chunks shows.apart at shows.chunks)

    few : Fronts x.id s.chunks
    few index = subst (λ (n : ℕ). n ≤ 4096) (bytes index) (fronts index)

    memory : (o : ℕ) → is_in_memory id.slot o m.chunks ≡ nat_lt (o % 4096) (filled x.id (o / 4096) s.chunks)
    memory o = ap (λ (n : ℕ). nat_lt (o % 4096) n) (bytes (o / 4096))
