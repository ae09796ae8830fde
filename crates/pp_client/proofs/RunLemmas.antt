-- What chunks hold one behind the other: its first piece, what is behind that, and what of it fits.
use Rattle.std.proofs.Common.{◌≡◌, ◌<◌, ◌≤◌, ◌+◌, ◌-◌, ◌*◌, ◌/◌, ◌%◌, ◌⊎◌, inl, inr, ℕ, zero, suc, Bool, true, false, ◌==◌, List, [], ◌∷◌, ◌++◌, length, take, drop, min, refl, sym, ◌∙◌, ap, subst, arith, append_assoc, append-nil, length-take, length-drop}
use Rattle.std.proofs.Math.Seq.{take-append_seam, take-length}
use Rattle.std.specs.Prelude.{◌↔◌}
use Rattle.std.proofs.lemmas.Bool.{cases_eq, eq-eqb, ne_eqb}
use Rattle.std.proofs.lemmas.List.{take-append-le, take_all}
use Rattle.pp_holes.specs.Places.{Chunk, bytes_at}
use Rattle.pp_client.specs.Replies.{run_at_hand}

-- ---- what fits

-- what is put behind what fitted fits as far as what is put behind all
pub fits_twice : (n : ℕ) (a b : List ℕ) → take n (take n a ++ b) ≡ take n (a ++ b)
fits_twice zero a b = refl
fits_twice (suc n) [] b = refl
fits_twice (suc n) (x ∷ a) b = ap (λ l. x ∷ l) (fits_twice n a b)

pub fits_thrice : (n : ℕ) (a b c : List ℕ) → take n (take n (a ++ b) ++ c) ≡ take n (a ++ (b ++ c))
fits_thrice n a b c = fits_twice n (a ++ b) c ∙ ap (take n) (append_assoc a b c)

pub fits_nothing : (n : ℕ) (a : List ℕ) → length a ≤ n → take n (a ++ []) ≡ a
fits_nothing n a le = ap (take n) (append-nil a) ∙ take_all n a le

pub take_nothing : (k : ℕ) → take k (let l : List ℕ = [] in l) ≡ []
take_nothing zero = refl
take_nothing (suc k) = refl

pub taken_both : (k : ℕ) (a b : List ℕ) → take k (a ++ b) ≡ take k a ++ take (k - length a) b
taken_both zero a b = sym (ap (λ m. take m b) (let e : 0 - length a ≡ 0 = omega arith in e))
taken_both (suc k) [] b = ap (λ m. take m b) (let e : suc k ≡ suc k - 0 = omega arith in e)
taken_both (suc k) (x ∷ a) b =
    ap (λ l. x ∷ l) (taken_both k a b ∙ ap (λ m. take k a ++ take m b) (let e : k - length a ≡ suc k - suc (length a) = omega arith in e))

pub fits_rest : (n left : ℕ) (a b : List ℕ) → left + length a ≡ n → a ++ take left b ≡ take n (a ++ b)
fits_rest n left a b room =
    ap (λ k. a ++ take k b) (let e : left ≡ n - length a = omega (arith, room) in e)
    ∙ ap (λ l. l ++ take (n - length a) b) (sym (take_all n a (omega (arith, room))))
    ∙ sym (taken_both n a b)

-- ---- a run, and its first chunk

-- what its chunk holds from an offset on
abbrev pub chunk_from : ℕ → ℕ → List Chunk → List ℕ
chunk_from slot at cs = drop (at % 4096) (bytes_at (slot, at / 4096) cs)

-- behind a full chunk the next one follows
pub run_full : (more slot at : ℕ) (cs : List Chunk) → length (bytes_at (slot, at / 4096) cs) ≡ 4096
    → run_at_hand (suc more) slot at cs ≡ chunk_from slot at cs ++ run_at_hand more slot (at + (4096 - at % 4096)) cs
unfolding run_at_hand
run_full more slot at cs full =
    ap (λ b. chunk_from slot at cs ++ (elim b as (λ x. List ℕ) [ true ↦ run_at_hand more slot ((at / 4096 + 1) * 4096) cs | false ↦ [] ])) (eq-eqb (length (bytes_at (slot, at / 4096) cs)) 4096 full)
    ∙ ap (λ n. chunk_from slot at cs ++ run_at_hand more slot n cs) (let e : (at / 4096 + 1) * 4096 ≡ at + (4096 - at % 4096) = omega arith in e)

-- behind any other nothing does
pub run_short : (more slot at : ℕ) (cs : List Chunk) → ¬ (length (bytes_at (slot, at / 4096) cs) ≡ 4096) → run_at_hand (suc more) slot at cs ≡ chunk_from slot at cs
unfolding run_at_hand
run_short more slot at cs short =
    ap (λ b. chunk_from slot at cs ++ (elim b as (λ x. List ℕ) [ true ↦ run_at_hand more slot ((at / 4096 + 1) * 4096) cs | false ↦ [] ])) (ne_eqb (length (bytes_at (slot, at / 4096) cs)) 4096 short)
    ∙ append-nil (chunk_from slot at cs)

-- there is none where the first byte is not there
run_none : (more slot at : ℕ) (cs : List Chunk) → chunk_from slot at cs ≡ [] → run_at_hand more slot at cs ≡ []
unfolding run_at_hand
run_none zero slot at cs none = refl
run_none (suc more) slot at cs none = run_short more slot at cs (λ full. absurd (let past : 4096 - at % 4096 ≡ 0 = omega (arith, full, length-drop (at % 4096) (bytes_at (slot, at / 4096) cs), ap length none) in omega arith)) ∙ none

-- ---- the first piece of a span

module _ (more slot at to : ℕ) (cs : List Chunk) (piece : List ℕ) (is : piece ≡ take (to - at) (drop (at % 4096) (bytes_at (slot, at / 4096) cs))) where
  len : length piece ≡ min (to - at) (length (chunk_from slot at cs))
  len = ap length is ∙ length-take (to - at) (chunk_from slot at cs)

  first_len : length (chunk_from slot at cs) ≡ length (bytes_at (slot, at / 4096) cs) - at % 4096
  first_len = length-drop (at % 4096) (bytes_at (slot, at / 4096) cs)

  -- it reaches to the end of its chunk: what the next ones hold follows
  pub piece_then : at % 4096 + length piece ≡ 4096
      → take (to - at) (run_at_hand (suc more) slot at cs) ≡ piece ++ take (to - (at + length piece)) (run_at_hand more slot (at + length piece) cs)
  piece_then end = by (cases_eq (length (bytes_at (slot, at / 4096) cs)) 4096)
    where
      by : (length (bytes_at (slot, at / 4096) cs) ≡ 4096) ⊎ ¬ (length (bytes_at (slot, at / 4096) cs) ≡ 4096)
          → take (to - at) (run_at_hand (suc more) slot at cs) ≡ piece ++ take (to - (at + length piece)) (run_at_hand more slot (at + length piece) cs)
      by (inl full) =
          let next : at + (4096 - at % 4096) ≡ at + length piece = omega (arith, end) in
          let left : to - at - length (chunk_from slot at cs) ≡ to - (at + length piece) = omega (arith, end, full, len, first_len) in
          ap (take (to - at)) (run_full more slot at cs full)
          ∙ taken_both (to - at) (chunk_from slot at cs) (run_at_hand more slot (at + (4096 - at % 4096)) cs)
          ∙ ap (λ l. l ++ take (to - at - length (chunk_from slot at cs)) (run_at_hand more slot (at + (4096 - at % 4096)) cs)) (sym is)
          ∙ ap (λ n. piece ++ take n (run_at_hand more slot (at + (4096 - at % 4096)) cs)) left
          ∙ ap (λ n. piece ++ take (to - (at + length piece)) (run_at_hand more slot n cs)) next
      by (inr short) =
          let none : to - (at + length piece) ≡ 0 = omega (arith, end, short, len, first_len) in
          ap (take (to - at)) (run_short more slot at cs short) ∙ sym is ∙ sym (append-nil piece)
          ∙ ap (λ n. piece ++ take n (run_at_hand more slot (at + length piece) cs)) (sym none)

  -- it does not: it is all
  pub piece_alone : ¬ (at % 4096 + length piece ≡ 4096) → take (to - at) (run_at_hand (suc more) slot at cs) ≡ piece
  piece_alone short = by (cases_eq (length (bytes_at (slot, at / 4096) cs)) 4096)
    where
      by : (length (bytes_at (slot, at / 4096) cs) ≡ 4096) ⊎ ¬ (length (bytes_at (slot, at / 4096) cs) ≡ 4096) → take (to - at) (run_at_hand (suc more) slot at cs) ≡ piece
      by (inl full) =
          ap (take (to - at)) (run_full more slot at cs full)
          ∙ take-append-le (to - at) (chunk_from slot at cs) (run_at_hand more slot (at + (4096 - at % 4096)) cs) (omega (arith, short, full, len, first_len)) ∙ sym is
      by (inr other) = ap (take (to - at)) (run_short more slot at cs other) ∙ sym is

  pub piece_first : piece ≡ take (length piece) (take (to - at) (run_at_hand (suc more) slot at cs))
  piece_first = by (cases_eq (at % 4096 + length piece) 4096)
    where
      by : (at % 4096 + length piece ≡ 4096) ⊎ ¬ (at % 4096 + length piece ≡ 4096) → piece ≡ take (length piece) (take (to - at) (run_at_hand (suc more) slot at cs))
      by (inl end) = sym (ap (take (length piece)) (piece_then end) ∙ take-append_seam piece (take (to - (at + length piece)) (run_at_hand more slot (at + length piece) cs)))
      by (inr short) = sym (ap (take (length piece)) (piece_alone short) ∙ take-length piece)

  pub piece_empty : (piece ≡ []) ↔ (take (to - at) (run_at_hand (suc more) slot at cs) ≡ [])
  piece_empty = (to_none, from_none)
    where
      to_none : piece ≡ [] → take (to - at) (run_at_hand (suc more) slot at cs) ≡ []
      to_none none = piece_alone (λ end. absurd (let no : length piece ≡ 0 = ap length none in omega (arith, no, end))) ∙ none

      from_none : take (to - at) (run_at_hand (suc more) slot at cs) ≡ [] → piece ≡ []
      from_none none = piece_first ∙ ap (take (length piece)) none ∙ take_nothing (length piece)

  -- nothing is there behind it
  pub piece_is_all : (at + length piece ≡ to) ⊎ (drop ((at + length piece) % 4096) (bytes_at (slot, (at + length piece) / 4096) cs) ≡ []) → piece ≡ take (to - at) (run_at_hand (suc more) slot at cs)
  piece_is_all none = by (cases_eq (at % 4096 + length piece) 4096)
    where
      behind : (at + length piece ≡ to) ⊎ (chunk_from slot (at + length piece) cs ≡ []) → take (to - (at + length piece)) (run_at_hand more slot (at + length piece) cs) ≡ []
      behind (inl end) = ap (λ n. take n (run_at_hand more slot (at + length piece) cs)) (let e : to - (at + length piece) ≡ 0 = omega (arith, end) in e)
      behind (inr hole) = ap (take (to - (at + length piece))) (run_none more slot (at + length piece) cs hole) ∙ take_nothing (to - (at + length piece))

      by : (at % 4096 + length piece ≡ 4096) ⊎ ¬ (at % 4096 + length piece ≡ 4096) → piece ≡ take (to - at) (run_at_hand (suc more) slot at cs)
      by (inl end) = sym (piece_then end ∙ ap (λ l. piece ++ l) (behind none) ∙ append-nil piece)
      by (inr short) = sym (piece_alone short)

-- ---- a run is put into a room

pub run_none_left : (n slot at to : ℕ) (cs : List Chunk) (room : List ℕ) → length room ≤ n → room ≡ take n (room ++ take (to - at) (run_at_hand 0 slot at cs))
unfolding run_at_hand
run_none_left n slot at to cs room le = sym (ap (λ l. take n (room ++ l)) (take_nothing (to - at)) ∙ fits_nothing n room le)

pub run_goes_on : (n chunks slot at to : ℕ) (cs : List Chunk) (room piece : List ℕ) → ¬ (chunks ≡ 0) → piece ≡ take (to - at) (drop (at % 4096) (bytes_at (slot, at / 4096) cs)) → at % 4096 + length piece ≡ 4096
    → take n (take n (room ++ piece) ++ take (to - (at + length piece)) (run_at_hand (chunks - 1) slot (at + length piece) cs)) ≡ take n (room ++ take (to - at) (run_at_hand chunks slot at cs))
run_goes_on n zero slot at to cs room piece some is end = absurd (some refl)
run_goes_on n (suc more) slot at to cs room piece some is end =
    ap (λ k. take n (take n (room ++ piece) ++ take (to - (at + length piece)) (run_at_hand k slot (at + length piece) cs))) (let e : suc more - 1 ≡ more = omega arith in e)
    ∙ fits_thrice n room piece (take (to - (at + length piece)) (run_at_hand more slot (at + length piece) cs))
    ∙ ap (λ l. take n (room ++ l)) (sym (piece_then more slot at to cs piece is end))

pub run_ends : (n chunks slot at to : ℕ) (cs : List Chunk) (room piece : List ℕ) → ¬ (chunks ≡ 0) → piece ≡ take (to - at) (drop (at % 4096) (bytes_at (slot, at / 4096) cs)) → ¬ (at % 4096 + length piece ≡ 4096)
    → take n (room ++ piece) ≡ take n (room ++ take (to - at) (run_at_hand chunks slot at cs))
run_ends n zero slot at to cs room piece some is short = absurd (some refl)
run_ends n (suc more) slot at to cs room piece some is short = ap (λ l. take n (room ++ l)) (sym (piece_alone more slot at to cs piece is short))
