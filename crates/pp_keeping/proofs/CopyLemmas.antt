-- What chunks hold one behind the other, copied piece for piece.
use Rattle.std.proofs.Common.{◌≡◌, ◌<◌, ◌≤◌, ◌+◌, ◌-◌, ◌/◌, ◌%◌, ◌⊎◌, inl, inr, ℕ, zero, suc, Bool, true, false, ◌&&◌, cond, List, [], ◌++◌, Option, Some, None, length, take, drop, refl, sym, ◌∙◌, ap, subst, arith, length-append, length-drop}
use Rattle.std.specs.Prelude.{nat_le}
use Rattle.std.proofs.lemmas.Bool.{cases_eq}
use Rattle.std.proofs.lemmas.Bool.Decides.{nat_tests}
use Rattle.std.proofs.lemmas.List.{take-append-le, take_all}
use Rattle.pp_client.specs.Replies.{run_at_hand}
use Rattle.pp_client.proofs.RunLemmas.{chunk_from, run_full, run_short, taken_both}
use Rattle.pp_holes.specs.Places.{Chunk, bytes_at}
use Rattle.pp_cache.specs.Memory.{Memory}
use Rattle.pp_keeping.specs.Runs.{laid}
use Rattle.pp_objects.specs.declared.id.ObjectId.{ObjectId}

is_le : (n m : ℕ) → n ≤ m → nat_le n m ≡ true
is_le n m le = grind (arith, nat_tests, le)

is_above : (n m : ℕ) → m < n → nat_le n m ≡ false
is_above n m above = grind (arith, nat_tests, above)

first_len : (slot at : ℕ) (cs : List Chunk) → length (chunk_from slot at cs) ≡ length (bytes_at (slot, at / 4096) cs) - at % 4096
first_len slot at cs = length-drop (at % 4096) (bytes_at (slot, at / 4096) cs)

-- the first chunk has all of them
pub all_in_first : (chunks slot at n : ℕ) (cs : List Chunk) (piece : List ℕ) → ¬ (chunks ≡ 0) → piece ≡ chunk_from slot at cs → n ≤ length piece
    → (nat_le n (length (run_at_hand chunks slot at cs)) ≡ true) × (take n piece ≡ take n (run_at_hand chunks slot at cs))
all_in_first zero slot at n cs piece some is le = absurd (some refl)
all_in_first (suc more) slot at n cs piece some is le = by (cases_eq (length (bytes_at (slot, at / 4096) cs)) 4096)
  where
    in_run : (run : List ℕ) → run_at_hand (suc more) slot at cs ≡ piece ++ run → (nat_le n (length (run_at_hand (suc more) slot at cs)) ≡ true) × (take n piece ≡ take n (run_at_hand (suc more) slot at cs))
    in_run run there =
        let long : length (run_at_hand (suc more) slot at cs) ≡ length piece + length run = ap length there ∙ length-append piece run in
        (is_le n (length (run_at_hand (suc more) slot at cs)) (omega (arith, le, long)), sym (ap (take n) there ∙ take-append-le n piece run le))

    by : (length (bytes_at (slot, at / 4096) cs) ≡ 4096) ⊎ ¬ (length (bytes_at (slot, at / 4096) cs) ≡ 4096) → (nat_le n (length (run_at_hand (suc more) slot at cs)) ≡ true) × (take n piece ≡ take n (run_at_hand (suc more) slot at cs))
    by (inl full) = in_run (run_at_hand more slot (at + (4096 - at % 4096)) cs) (run_full more slot at cs full ∙ ap (λ l. l ++ run_at_hand more slot (at + (4096 - at % 4096)) cs) (sym is))
    by (inr short) =
        let there : run_at_hand (suc more) slot at cs ≡ piece = run_short more slot at cs short ∙ sym is in
        (is_le n (length (run_at_hand (suc more) slot at cs)) (omega (arith, le, ap length there)), ap (take n) (sym there))

-- there are none where no chunk may be read
pub none_read : (slot at n : ℕ) (cs : List Chunk) → 0 < n → nat_le n (length (run_at_hand 0 slot at cs)) ≡ false
unfolding run_at_hand
none_read slot at n cs some = is_above n 0 some

-- the first chunk has not, and is not full
pub not_all : (chunks slot at n : ℕ) (cs : List Chunk) (piece : List ℕ) → ¬ (chunks ≡ 0) → piece ≡ chunk_from slot at cs → length piece < n → ¬ (at % 4096 + length piece ≡ 4096) → nat_le n (length (run_at_hand chunks slot at cs)) ≡ false
not_all zero slot at n cs piece some is less unfilled = absurd (some refl)
not_all (suc more) slot at n cs piece some is less unfilled = by (cases_eq (length (bytes_at (slot, at / 4096) cs)) 4096)
  where
    by : (length (bytes_at (slot, at / 4096) cs) ≡ 4096) ⊎ ¬ (length (bytes_at (slot, at / 4096) cs) ≡ 4096) → nat_le n (length (run_at_hand (suc more) slot at cs)) ≡ false
    by (inl full) = absurd (unfilled (let e : at % 4096 + length piece ≡ 4096 = omega (arith, full, ap length is, first_len slot at cs) in e))
    by (inr short) =
        let there : run_at_hand (suc more) slot at cs ≡ piece = run_short more slot at cs short ∙ sym is in
        is_above n (length (run_at_hand (suc more) slot at cs)) (omega (arith, less, ap length there))

-- behind a full one the next one follows
run_on : (chunks slot at : ℕ) (cs : List Chunk) (piece : List ℕ) → ¬ (chunks ≡ 0) → piece ≡ chunk_from slot at cs → at % 4096 + length piece ≡ 4096 → run_at_hand chunks slot at cs ≡ piece ++ run_at_hand (chunks - 1) slot (at + length piece) cs
run_on zero slot at cs piece some is end = absurd (some refl)
run_on (suc more) slot at cs piece some is end =
    let full : length (bytes_at (slot, at / 4096) cs) ≡ 4096 = omega (arith, end, ap length is, first_len slot at cs) in
    let next : at + (4096 - at % 4096) ≡ at + length piece = omega (arith, end) in
    let one : more ≡ suc more - 1 = omega arith in
    run_full more slot at cs full
    ∙ ap (λ l. l ++ run_at_hand more slot (at + (4096 - at % 4096)) cs) (sym is)
    ∙ ap (λ n. piece ++ run_at_hand more slot n cs) next
    ∙ ap (λ k. piece ++ run_at_hand k slot (at + length piece) cs) one

same_by : (a b : Bool) → (a ≡ true → b ≡ true) → (a ≡ false → b ≡ false) → a ≡ b
same_by true b above below = sym (above refl)
same_by false b above below = sym (below refl)

le_both : (p k m n r : ℕ) → n ≡ p + k → r ≡ p + m → nat_le k m ≡ nat_le n r
le_both p k m n r one two = same_by (nat_le k m) (nat_le n r) (λ within. grind (arith, nat_tests, within, one, two)) (λ behind. grind (arith, nat_tests, behind, one, two))

pub and_the_rest : (chunks slot at n k : ℕ) (cs : List Chunk) (piece : List ℕ) → ¬ (chunks ≡ 0) → piece ≡ chunk_from slot at cs → at % 4096 + length piece ≡ 4096 → n ≡ length piece + k
    → nat_le k (length (run_at_hand (chunks - 1) slot (at + length piece) cs)) ≡ nat_le n (length (run_at_hand chunks slot at cs))
and_the_rest chunks slot at n k cs piece some is end long =
    le_both (length piece) k (length (run_at_hand (chunks - 1) slot (at + length piece) cs)) n (length (run_at_hand chunks slot at cs)) long
    (ap length (run_on chunks slot at cs piece some is end) ∙ length-append piece (run_at_hand (chunks - 1) slot (at + length piece) cs))

pub both_copied : (chunks slot at n k : ℕ) (cs : List Chunk) (piece rest out : List ℕ) → ¬ (chunks ≡ 0) → piece ≡ chunk_from slot at cs → at % 4096 + length piece ≡ 4096 → n ≡ length piece + k
    → rest ≡ take k (run_at_hand (chunks - 1) slot (at + length piece) cs) → out ≡ piece ++ rest → out ≡ take n (run_at_hand chunks slot at cs)
both_copied chunks slot at n k cs piece rest out some is end long behind all =
    let more : List ℕ = run_at_hand (chunks - 1) slot (at + length piece) cs in
    let left : n - length piece ≡ k = omega (arith, long) in
    all ∙ ap (λ l. piece ++ l) behind
    ∙ ap (λ l. l ++ take k more) (sym (take_all n piece (omega (arith, long))))
    ∙ ap (λ m. take n piece ++ take m more) (sym left)
    ∙ sym (taken_both n piece more)
    ∙ ap (take n) (sym (run_on chunks slot at cs piece some is end))

-- ---- laid out in a file

module _ (front len from : ℕ) (id : ObjectId) (m : Memory) (file : List ℕ) where
  -- all of it is in memory, and there is room for it
  pub laid_all : (part : List ℕ) → front + len ≤ length file → true ≡ nat_le len (length (run_at_hand 64 id.slot from m.chunks)) → part ≡ take len (run_at_hand 64 id.slot from m.chunks) → laid front (length file) id from len m ≡ Some part
  laid_all part fits all is =
      ap (λ (b : Bool). cond (b && nat_le len (length (run_at_hand 64 id.slot from m.chunks))) (Some (take len (run_at_hand 64 id.slot from m.chunks))) None) (is_le (front + len) (length file) fits)
      ∙ ap (λ (b : Bool). cond b (Some (take len (run_at_hand 64 id.slot from m.chunks))) None) (sym all)
      ∙ ap (λ (bs : List ℕ). Some bs) (sym is)

  -- there is no room
  pub laid_nowhere : length file < front + len → laid front (length file) id from len m ≡ None
  laid_nowhere above =
      ap (λ (b : Bool). cond (b && nat_le len (length (run_at_hand 64 id.slot from m.chunks))) (Some (take len (run_at_hand 64 id.slot from m.chunks))) None) (is_above (front + len) (length file) above)

  -- not all of it is in memory
  pub laid_in_part : false ≡ nat_le len (length (run_at_hand 64 id.slot from m.chunks)) → laid front (length file) id from len m ≡ None
  laid_in_part none = by (nat_le (front + len) (length file))
    where
      by : (b : Bool) → cond (b && nat_le len (length (run_at_hand 64 id.slot from m.chunks))) (Some (take len (run_at_hand 64 id.slot from m.chunks))) None ≡ None
      by true = ap (λ (b : Bool). cond b (Some (take len (run_at_hand 64 id.slot from m.chunks))) None) (sym none)
      by false = refl
