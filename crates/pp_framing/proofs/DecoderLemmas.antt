-- What a run of data is from its place on.
use Rattle.std.proofs.Common.{◌≡◌, ℕ, ◌+◌, ◌-◌, ◌<◌, ◌≤◌, ◌==◌, true, false, List, [], ◌∷◌, ◌++◌, length, arith, ap, sym, ◌∙◌, refl, take, drop, slice_range, append_assoc, length-take, length-drop, drop-drop}
use Rattle.std.proofs.lemmas.Bool.{ne_eqb}
use Rattle.std.proofs.lemmas.List.{take-append-drop}
use Rattle.pp_framing.specs.Body.{behind}
use Rattle.std.proofs.Common.{Bool, true, false, ◌*◌, nat_lt, nat_le, Option, Some, None}
use Rattle.pp_text.specs.Bytes.{is_blank}
use Rattle.pp_framing.specs.Places.{read_from, step, is_unbounded, data_of, chunk_line, hex_digit, trailer_byte}
use Rattle.pp_framing.specs.declared.place.Place.{Place}
use Rattle.pp_framing.specs.declared.place.Place.TheVariants.{ChunkStart, Size, Blanks, Extension, SizeReturn, Chunk, ChunkEnd, ChunkReturn, TrailerStart, Trailer, TrailerReturn, LastReturn, Counted, Unbounded, Over, Wrong}

-- one byte, and not the last
read_from-Chunk-cons : (left b : ℕ) (text : List ℕ) → 1 < left → read_from (Chunk left) (b ∷ text) ≡ behind (b ∷ []) (read_from (Chunk (left - 1)) text)
read_from-Chunk-cons left b text more = let other : (left == 1) ≡ false = ne_eqb left 1 (omega arith) in ap (λ t. behind (b ∷ []) (read_from (elim t [ true ↦ ChunkEnd | false ↦ Chunk (left - 1) ]) text)) other

read_from-Counted-cons : (left b : ℕ) (text : List ℕ) → 1 < left → read_from (Counted left) (b ∷ text) ≡ behind (b ∷ []) (read_from (Counted (left - 1)) text)
read_from-Counted-cons left b text more = let other : (left == 1) ≡ false = ne_eqb left 1 (omega arith) in ap (λ t. behind (b ∷ []) (read_from (elim t [ true ↦ Over | false ↦ Counted (left - 1) ]) text)) other

-- all of a chunk's data
pub read_from-Chunk : (left : ℕ) (run more : List ℕ) → length run ≡ left → 0 < left → read_from (Chunk left) (run ++ more) ≡ behind run (read_from ChunkEnd more)
read_from-Chunk left [] more whole some = absurd (omega arith)
read_from-Chunk left (b ∷ []) more whole some = let last : left ≡ 1 = omega arith in rw last
read_from-Chunk left (b ∷ c ∷ run) more whole some =
    read_from-Chunk-cons left b (c ∷ run ++ more) (omega arith) ∙ ap (behind (b ∷ [])) (read_from-Chunk (left - 1) (c ∷ run) more (omega arith) (omega arith))

-- a part of it
pub read_from-Chunk-part : (left : ℕ) (run more : List ℕ) → length run < left → read_from (Chunk left) (run ++ more) ≡ behind run (read_from (Chunk (left - length run)) more)
read_from-Chunk-part left [] more part = ap (λ n. read_from (Chunk n) more) (let e : left ≡ left - 0 = omega arith in e)
read_from-Chunk-part left (b ∷ run) more part =
    read_from-Chunk-cons left b (run ++ more) (omega arith)
    ∙ ap (behind (b ∷ [])) (read_from-Chunk-part (left - 1) run more (omega arith))
    ∙ ap (λ n. behind (b ∷ run) (read_from (Chunk n) more)) (let e : left - 1 - length run ≡ left - length (b ∷ run) = omega arith in e)

-- all of a body of known length
pub read_from-Counted : (left : ℕ) (run more : List ℕ) → length run ≡ left → 0 < left → read_from (Counted left) (run ++ more) ≡ behind run (read_from Over more)
read_from-Counted left [] more whole some = absurd (omega arith)
read_from-Counted left (b ∷ []) more whole some = let last : left ≡ 1 = omega arith in rw last
read_from-Counted left (b ∷ c ∷ run) more whole some =
    read_from-Counted-cons left b (c ∷ run ++ more) (omega arith) ∙ ap (behind (b ∷ [])) (read_from-Counted (left - 1) (c ∷ run) more (omega arith) (omega arith))

-- a part of it
pub read_from-Counted-part : (left : ℕ) (run more : List ℕ) → length run < left → read_from (Counted left) (run ++ more) ≡ behind run (read_from (Counted (left - length run)) more)
read_from-Counted-part left [] more part = ap (λ n. read_from (Counted n) more) (let e : left ≡ left - 0 = omega arith in e)
read_from-Counted-part left (b ∷ run) more part =
    read_from-Counted-cons left b (run ++ more) (omega arith)
    ∙ ap (behind (b ∷ [])) (read_from-Counted-part (left - 1) run more (omega arith))
    ∙ ap (λ n. behind (b ∷ run) (read_from (Counted n) more)) (let e : left - 1 - length run ≡ left - length (b ∷ run) = omega arith in e)

-- a body that the end of the connection ends
pub read_from-Unbounded : (run more : List ℕ) → read_from Unbounded (run ++ more) ≡ behind run (read_from Unbounded more)
read_from-Unbounded [] more = refl
read_from-Unbounded (b ∷ run) more = ap (behind (b ∷ [])) (read_from-Unbounded run more)

-- framing up to h, and a run of r bytes of data behind it
pub reads_both : (start mid last : Place) (bytes : List ℕ) (h r : ℕ) → h ≤ length bytes → r ≤ length bytes - h
    → ((more : List ℕ) → read_from start (bytes ++ more) ≡ read_from mid (drop h bytes ++ more))
    → ((run more : List ℕ) → length run ≡ r → read_from mid (run ++ more) ≡ behind run (read_from last more))
    → (more : List ℕ) → read_from start (bytes ++ more) ≡ behind (slice_range bytes h (h + r)) (read_from last (drop (h + r) bytes ++ more))
reads_both start mid last bytes h r within room head run more =
    let rest : List ℕ = drop h bytes in
    let taken : length (take r rest) ≡ r = omega (arith, length-take r rest, length-drop h bytes) in
    let parts : rest ++ more ≡ take r rest ++ (drop r rest ++ more) = ap (λ x. x ++ more) (sym (take-append-drop r rest)) ∙ append_assoc (take r rest) (drop r rest) more in
    let behind_run : drop r rest ≡ drop (h + r) bytes = drop-drop r h bytes in
    let range : take r rest ≡ slice_range bytes h (h + r) = ap (λ n. take n rest) (let e : r ≡ h + r - h = omega arith in e) in
    head more ∙ ap (read_from mid) parts ∙ run (take r rest) (drop r rest ++ more) taken
    ∙ ap (λ x. behind x (read_from last (drop r rest ++ more))) range
    ∙ ap (λ x. behind (slice_range bytes h (h + r)) (read_from last (x ++ more))) behind_run

-- no byte makes a body one that the end of the connection ends
bounded : (t : Bool) (p q : Place) → is_unbounded p ≡ false → is_unbounded q ≡ false → is_unbounded (elim t [ true ↦ p | false ↦ q ]) ≡ false
bounded true p q first second = first
bounded false p q first second = second

bounded_data : (size : ℕ) → is_unbounded (data_of size) ≡ false
bounded_data size = bounded (size == 0) (TrailerStart 0) (Chunk size) refl refl

bounded_line : (size b : ℕ) → is_unbounded (chunk_line size b) ≡ false
bounded_line size b =
    bounded (b == 10) (data_of size) (elim (b == 13) [ true ↦ SizeReturn size | false ↦ elim (b == 59) [ true ↦ Extension 0 size | false ↦ elim (is_blank b) [ true ↦ Blanks size | false ↦ Wrong ] ] ]) (bounded_data size)
    (bounded (b == 13) (SizeReturn size) (elim (b == 59) [ true ↦ Extension 0 size | false ↦ elim (is_blank b) [ true ↦ Blanks size | false ↦ Wrong ] ]) refl
    (bounded (b == 59) (Extension 0 size) (elim (is_blank b) [ true ↦ Blanks size | false ↦ Wrong ]) refl (bounded (is_blank b) (Blanks size) Wrong refl refl)))

bounded_digit : (digit : Option ℕ) (found : ℕ → Place) (none : Place) → ((d : ℕ) → is_unbounded (found d) ≡ false) → is_unbounded none ≡ false → is_unbounded (elim digit [ Some d ↦ found d | None ↦ none ]) ≡ false
bounded_digit (Some d) found none first second = first d
bounded_digit None found none first second = second

bounded_trailer : (len b : ℕ) (at_feed at_return : Place) → is_unbounded at_feed ≡ false → is_unbounded at_return ≡ false
    → is_unbounded (elim (b == 10) [ true ↦ at_feed | false ↦ elim (b == 13) [ true ↦ at_return | false ↦ trailer_byte len (Trailer (len + 1)) ] ]) ≡ false
bounded_trailer len b at_feed at_return first second =
    bounded (b == 10) at_feed (elim (b == 13) [ true ↦ at_return | false ↦ trailer_byte len (Trailer (len + 1)) ]) first
    (bounded (b == 13) at_return (trailer_byte len (Trailer (len + 1))) second (bounded (nat_le (len + 2) 16384) (Trailer (len + 1)) Wrong refl refl))

pub is_unbounded-step : (place : Place) (b : ℕ) → is_unbounded (step place b) ≡ is_unbounded place
is_unbounded-step ChunkStart b = bounded_digit (hex_digit b) (λ d. Size 1 d) Wrong (λ d. refl) refl
is_unbounded-step (Size digits size) b =
    bounded_digit (hex_digit b) (λ d. elim (nat_lt digits 16) [ true ↦ Size (digits + 1) (size * 16 + d) | false ↦ Wrong ]) (chunk_line size b)
    (λ d. bounded (nat_lt digits 16) (Size (digits + 1) (size * 16 + d)) Wrong refl refl) (bounded_line size b)
is_unbounded-step (Blanks size) b = bounded_line size b
is_unbounded-step (Extension len size) b =
    bounded (b == 10) (data_of size) (elim (b == 13) [ true ↦ SizeReturn size | false ↦ elim (nat_lt len 4096) [ true ↦ Extension (len + 1) size | false ↦ Wrong ] ]) (bounded_data size)
    (bounded (b == 13) (SizeReturn size) (elim (nat_lt len 4096) [ true ↦ Extension (len + 1) size | false ↦ Wrong ]) refl (bounded (nat_lt len 4096) (Extension (len + 1) size) Wrong refl refl))
is_unbounded-step (SizeReturn size) b = bounded (b == 10) (data_of size) Wrong (bounded_data size) refl
is_unbounded-step (Chunk left) b = bounded (left == 1) ChunkEnd (Chunk (left - 1)) refl refl
is_unbounded-step ChunkEnd b = bounded (b == 10) ChunkStart (elim (b == 13) [ true ↦ ChunkReturn | false ↦ Wrong ]) refl (bounded (b == 13) ChunkReturn Wrong refl refl)
is_unbounded-step ChunkReturn b = bounded (b == 10) ChunkStart Wrong refl refl
is_unbounded-step (TrailerStart len) b = bounded_trailer len b Over LastReturn refl refl
is_unbounded-step (Trailer len) b = bounded_trailer len b (TrailerStart (len + 1)) (trailer_byte len (TrailerReturn (len + 1))) refl (bounded (nat_le (len + 2) 16384) (TrailerReturn (len + 1)) Wrong refl refl)
is_unbounded-step (TrailerReturn len) b = bounded (b == 10) (TrailerStart (len + 1)) Wrong refl refl
is_unbounded-step LastReturn b = bounded (b == 10) Over Wrong refl refl
is_unbounded-step (Counted left) b = bounded (left == 1) Over (Counted (left - 1)) refl refl
is_unbounded-step Unbounded b = refl
is_unbounded-step Over b = refl
is_unbounded-step Wrong b = refl

pub ruleset kinds = (is_unbounded-step)
