-- The places of a decoder read the bodies of the grammar.
use Rattle.std.proofs.Common.{◌≡◌, ℕ, suc, ◌+◌, ◌*◌, ◌≤◌, ◌==◌, ◌&&◌, ◌||◌, not, Bool, true, false, nat_lt, nat_le, List, [], ◌∷◌, length, arith, ap, sym, ◌∙◌, refl, subst, inl, inr, fold, Option, Some, None}
use Rattle.std.proofs.lemmas.Bool.{le-leb, lt-leb}
use Rattle.std.proofs.lemmas.Bool.Decides.{eqb_tells, leb_tells}
use Rattle.std.specs.Char.{is_digit, digit_value}
use Rattle.pp_text.specs.Bytes.{is_blank}
use Rattle.pp_text.specs.Numbers.{value_of}
use Rattle.pp_framing.specs.Body.{Body, behind}
use Rattle.pp_framing.specs.Chunked.{Piece, Found, Unfinished, Absent, then, front, past, is_hex, is_text, line_feed, line_end, extension_end, size_end, chunk_size, chunk_line}
use Rattle.pp_framing.specs.Places.{read_from, step, data_of, chunk_line as place_in_line}
use Rattle.pp_framing.specs.declared.place.Place.{Place}
use Rattle.pp_framing.specs.declared.place.Place.TheVariants.{ChunkStart, Size, Blanks, Extension, SizeReturn, ChunkEnd, ChunkReturn, Wrong}

-- what follows a chunk's line
abbrev pub behind_line : ℕ → List ℕ → Body
behind_line size rest = read_from (data_of size) rest

-- a byte that has to be LF
pub feed : (is_feed : Bool) (text : List ℕ) (next : Place) → read_from (elim is_feed [ true ↦ next | false ↦ Wrong ]) text ≡ then (elim is_feed [ true ↦ Found text | false ↦ Absent ]) (read_from next)
feed true text next = refl
feed false text next = refl

read_from-SizeReturn : (size : ℕ) (text : List ℕ) → read_from (SizeReturn size) text ≡ then (line_feed text) (behind_line size)
read_from-SizeReturn size [] = refl
read_from-SizeReturn size (b ∷ text) = feed (b == 10) text (data_of size)

read_from-ChunkReturn : (text : List ℕ) → read_from ChunkReturn text ≡ then (line_feed text) (read_from ChunkStart)
read_from-ChunkReturn [] = refl
read_from-ChunkReturn (b ∷ text) = feed (b == 10) text ChunkStart

chunk_end : (is_feed is_return : Bool) (text : List ℕ)
    → read_from (elim is_feed [ true ↦ ChunkStart | false ↦ elim is_return [ true ↦ ChunkReturn | false ↦ Wrong ] ]) text
    ≡ then (elim is_feed [ true ↦ Found text | false ↦ elim is_return [ true ↦ line_feed text | false ↦ Absent ] ]) (read_from ChunkStart)
chunk_end true is_return text = refl
chunk_end false true text = read_from-ChunkReturn text
chunk_end false false text = refl

pub read_from-ChunkEnd : (text : List ℕ) → read_from ChunkEnd text ≡ then (line_end text) (read_from ChunkStart)
read_from-ChunkEnd [] = refl
read_from-ChunkEnd (b ∷ text) = chunk_end (b == 10) (b == 13) text

-- a text and its front: whether its first byte passes the test
pub front-cons : (test : ℕ → Bool) (b : ℕ) (text : List ℕ) → test b ≡ true → front test (b ∷ text) ≡ b ∷ front test text
front-cons test b text e = ap (λ t. elim t [ true ↦ b ∷ front test text | false ↦ [] ]) e

pub past-cons : (test : ℕ → Bool) (b : ℕ) (text : List ℕ) → test b ≡ true → past test (b ∷ text) ≡ past test text
past-cons test b text e = ap (λ t. elim t [ true ↦ past test text | false ↦ b ∷ text ]) e

front-stop : (test : ℕ → Bool) (b : ℕ) (text : List ℕ) → test b ≡ false → front test (b ∷ text) ≡ []
front-stop test b text e = ap (λ t. elim t [ true ↦ b ∷ front test text | false ↦ [] ]) e

past-stop : (test : ℕ → Bool) (b : ℕ) (text : List ℕ) → test b ≡ false → past test (b ∷ text) ≡ b ∷ text
past-stop test b text e = ap (λ t. elim t [ true ↦ past test text | false ↦ b ∷ text ]) e

pub is_text-other : (b : ℕ) → (b == 10) ≡ false → (b == 13) ≡ false → is_text b ≡ true
is_text-other b no_lf no_cr = ap (λ t. not (t || (b == 13))) no_lf ∙ ap (λ t. not (false || t)) no_cr

-- the extension, so many bytes of it being in
abbrev extension_by : ℕ → List ℕ → List ℕ → Piece
extension_by len line rest = elim (nat_le (len + length line) 4096) [ true ↦ line_end rest | false ↦ Absent ]

abbrev extension_from : ℕ → List ℕ → Piece
extension_from len text = extension_by len (front is_text text) (past is_text text)

extension_from-cons : (len b : ℕ) (text : List ℕ) → is_text b ≡ true → extension_from len (b ∷ text) ≡ extension_from (len + 1) text
extension_from-cons len b text passes =
    let sum : len + length (b ∷ front is_text text) ≡ len + 1 + length (front is_text text) = omega arith in
    ap (λ line. extension_by len line (past is_text (b ∷ text))) (front-cons is_text b text passes)
    ∙ ap (λ rest. extension_by len (b ∷ front is_text text) rest) (past-cons is_text b text passes)
    ∙ ap (λ n. elim (nat_le n 4096) [ true ↦ line_end (past is_text text) | false ↦ Absent ]) sum

extension-step : (len size b : ℕ) → (b == 10) ≡ false → (b == 13) ≡ false → step (Extension len size) b ≡ elim (nat_lt len 4096) [ true ↦ Extension (len + 1) size | false ↦ Wrong ]
extension-step len size b no_lf no_cr =
    ap (λ t. elim t [ true ↦ data_of size | false ↦ elim (b == 13) [ true ↦ SizeReturn size | false ↦ elim (nat_lt len 4096) [ true ↦ Extension (len + 1) size | false ↦ Wrong ] ] ]) no_lf
    ∙ ap (λ t. elim t [ true ↦ SizeReturn size | false ↦ elim (nat_lt len 4096) [ true ↦ Extension (len + 1) size | false ↦ Wrong ] ]) no_cr

read_from-Extension : (len size : ℕ) (text : List ℕ) → len ≤ 4096 → read_from (Extension len size) text ≡ then (extension_from len text) (behind_line size)
read_from-Extension len size [] few =
    let fits : nat_le (len + 0) 4096 ≡ true = le-leb (len + 0) 4096 (omega arith) in
    sym (ap (λ t. then (elim t [ true ↦ Unfinished | false ↦ Absent ]) (behind_line size)) fits)
read_from-Extension len size (b ∷ text) few =
    let P : ℕ → Type 0 = λ b. read_from (Extension len size) (b ∷ text) ≡ then (extension_from len (b ∷ text)) (behind_line size) in
    let none : nat_le (len + 0) 4096 ≡ true = le-leb (len + 0) 4096 (omega arith) in
    elim (eqb_tells b 10) [
      | inl lf ↦ subst P (sym lf.1) (sym (ap (λ t. then (elim t [ true ↦ Found text | false ↦ Absent ]) (behind_line size)) none))
      | inr no_lf ↦ elim (eqb_tells b 13) [
        | inl cr ↦ subst P (sym cr.1) (read_from-SizeReturn size text ∙ sym (ap (λ t. then (elim t [ true ↦ line_feed text | false ↦ Absent ]) (behind_line size)) none))
        | inr no_cr ↦
            let next : step (Extension len size) b ≡ elim (nat_lt len 4096) [ true ↦ Extension (len + 1) size | false ↦ Wrong ] = extension-step len size b no_lf.0 no_cr.0 in
            let passes : is_text b ≡ true = is_text-other b no_lf.0 no_cr.0 in
            let rest = ap (λ p. then p (behind_line size)) (extension_from-cons len b text passes) in
            elim (leb_tells (suc len) 4096) [
              | inl fits ↦
                  ap (λ p. behind [] (read_from p text)) (next ∙ ap (λ t. elim t [ true ↦ Extension (len + 1) size | false ↦ Wrong ]) fits.0)
                  ∙ read_from-Extension (len + 1) size text (omega (arith, fits.1)) ∙ sym rest
              | inr full ↦
                  let over : nat_le (len + 1 + length (front is_text text)) 4096 ≡ false = lt-leb (len + 1 + length (front is_text text)) 4096 (omega (arith, full.1)) in
                  ap (λ p. behind [] (read_from p text)) (next ∙ ap (λ t. elim t [ true ↦ Extension (len + 1) size | false ↦ Wrong ]) full.0)
                  ∙ sym (rest ∙ ap (λ t. then (elim t [ true ↦ line_end (past is_text text) | false ↦ Absent ]) (behind_line size)) over)
            ]
      ]
    ]

-- behind the size: blanks, an extension, the line's end
line_step : (size b : ℕ) → (b == 10) ≡ false → (b == 13) ≡ false → (b == 59) ≡ false → is_blank b ≡ false → place_in_line size b ≡ Wrong
line_step size b no_lf no_cr no_semicolon no_blank =
    ap (λ t. elim t [ true ↦ data_of size | false ↦ elim (b == 13) [ true ↦ SizeReturn size | false ↦ elim (b == 59) [ true ↦ Extension 0 size | false ↦ elim (is_blank b) [ true ↦ Blanks size | false ↦ Wrong ] ] ] ]) no_lf
    ∙ ap (λ t. elim t [ true ↦ SizeReturn size | false ↦ elim (b == 59) [ true ↦ Extension 0 size | false ↦ elim (is_blank b) [ true ↦ Blanks size | false ↦ Wrong ] ] ]) no_cr
    ∙ ap (λ t. elim t [ true ↦ Extension 0 size | false ↦ elim (is_blank b) [ true ↦ Blanks size | false ↦ Wrong ] ]) no_semicolon
    ∙ ap (λ t. elim t [ true ↦ Blanks size | false ↦ Wrong ]) no_blank

line_end-other : (b : ℕ) (text : List ℕ) → (b == 10) ≡ false → (b == 13) ≡ false → line_end (b ∷ text) ≡ Absent
line_end-other b text no_lf no_cr =
    ap (λ t. elim t [ true ↦ Found text | false ↦ elim (b == 13) [ true ↦ line_feed text | false ↦ Absent ] ]) no_lf
    ∙ ap (λ t. elim t [ true ↦ line_feed text | false ↦ Absent ]) no_cr

size_end-other : (b : ℕ) (text : List ℕ) → (b == 10) ≡ false → (b == 13) ≡ false → (b == 59) ≡ false → is_blank b ≡ false → size_end (past is_blank (b ∷ text)) ≡ Absent
size_end-other b text no_lf no_cr no_semicolon no_blank =
    ap (λ t. size_end (elim t [ true ↦ past is_blank text | false ↦ b ∷ text ])) no_blank
    ∙ ap (λ t. elim t [ true ↦ extension_end text | false ↦ line_end (b ∷ text) ]) no_semicolon
    ∙ line_end-other b text no_lf no_cr

read_from-Blanks : (size : ℕ) (text : List ℕ) → read_from (Blanks size) text ≡ then (size_end (past is_blank text)) (behind_line size)
read_from-Blanks size [] = refl
read_from-Blanks size (b ∷ text) =
    let P : ℕ → Type 0 = λ b. read_from (Blanks size) (b ∷ text) ≡ then (size_end (past is_blank (b ∷ text))) (behind_line size) in
    elim (eqb_tells b 10) [
      | inl lf ↦ subst P (sym lf.1) refl
      | inr no_lf ↦ elim (eqb_tells b 13) [
        | inl cr ↦ subst P (sym cr.1) (read_from-SizeReturn size text)
        | inr no_cr ↦ elim (eqb_tells b 59) [
          | inl semicolon ↦ subst P (sym semicolon.1) (read_from-Extension 0 size text (omega arith) ∙ ap (λ n. then (elim (nat_le n 4096) [ true ↦ line_end (past is_text text) | false ↦ Absent ]) (behind_line size)) (let e : 0 + length (front is_text text) ≡ length (front is_text text) = omega arith in e))
          | inr no_semicolon ↦ elim (eqb_tells b 32) [
            | inl space ↦ subst P (sym space.1) (read_from-Blanks size text)
            | inr no_space ↦ elim (eqb_tells b 9) [
              | inl tab ↦ subst P (sym tab.1) (read_from-Blanks size text)
              | inr no_tab ↦
                  let no_blank : is_blank b ≡ false = ap (λ t. t || (b == 9)) no_space.0 ∙ no_tab.0 in
                  ap (λ p. behind [] (read_from p text)) (line_step size b no_lf.0 no_cr.0 no_semicolon.0 no_blank)
                  ∙ sym (ap (λ p. then p (behind_line size)) (size_end-other b text no_lf.0 no_cr.0 no_semicolon.0 no_blank))
            ]
          ]
        ]
      ]
    ]

-- the size, so many digits of it being in
abbrev and_digit : ℕ → ℕ → ℕ
and_digit size b = size * 16 + digit_value b

abbrev line_by : ℕ → List ℕ → List ℕ → Piece
line_by digits line rest = elim (nat_le (digits + length line) 16) [ true ↦ size_end (past is_blank rest) | false ↦ Absent ]

abbrev line_from : ℕ → List ℕ → Piece
line_from digits text = line_by digits (front is_hex text) (past is_hex text)

line_from-cons : (digits b : ℕ) (text : List ℕ) → is_hex b ≡ true → line_from digits (b ∷ text) ≡ line_from (digits + 1) text
line_from-cons digits b text passes =
    let sum : digits + length (b ∷ front is_hex text) ≡ digits + 1 + length (front is_hex text) = omega arith in
    ap (λ line. line_by digits line (past is_hex (b ∷ text))) (front-cons is_hex b text passes)
    ∙ ap (λ rest. line_by digits (b ∷ front is_hex text) rest) (past-cons is_hex b text passes)
    ∙ ap (λ n. elim (nat_le n 16) [ true ↦ size_end (past is_blank (past is_hex text)) | false ↦ Absent ]) sum

-- a digit, where the test says so
abbrev digit_by : Bool → ℕ → Option ℕ
digit_by is_digit b = elim is_digit [ true ↦ Some (digit_value b) | false ↦ None ]

digit_step : (digits size b : ℕ) → is_hex b ≡ true → step (Size digits size) b ≡ elim (nat_lt digits 16) [ true ↦ Size (digits + 1) (and_digit size b) | false ↦ Wrong ]
digit_step digits size b passes =
    ap (λ t. elim (digit_by t b) [ Some d ↦ elim (nat_lt digits 16) [ true ↦ Size (digits + 1) (size * 16 + d) | false ↦ Wrong ] | None ↦ place_in_line size b ]) passes

digit_stop : (digits size b : ℕ) → is_hex b ≡ false → step (Size digits size) b ≡ place_in_line size b
digit_stop digits size b stops =
    ap (λ t. elim (digit_by t b) [ Some d ↦ elim (nat_lt digits 16) [ true ↦ Size (digits + 1) (size * 16 + d) | false ↦ Wrong ] | None ↦ place_in_line size b ]) stops

read_from-Size : (digits size : ℕ) (text : List ℕ) → digits ≤ 16
    → read_from (Size digits size) text ≡ then (line_from digits text) (behind_line (fold and_digit size (front is_hex text)))
read_from-Size digits size [] few =
    let fits : nat_le (digits + 0) 16 ≡ true = le-leb (digits + 0) 16 (omega arith) in
    sym (ap (λ t. then (elim t [ true ↦ Unfinished | false ↦ Absent ]) (behind_line size)) fits)
read_from-Size digits size (b ∷ text) few = by_test (λ more. read_from-Size (digits + 1) (and_digit size b) text more) (is_hex b) refl
  where
    by_test : (digits + 1 ≤ 16 → read_from (Size (digits + 1) (and_digit size b)) text ≡ then (line_from (digits + 1) text) (behind_line (fold and_digit (and_digit size b) (front is_hex text))))
        → (t : Bool) → is_hex b ≡ t → read_from (Size digits size) (b ∷ text) ≡ then (line_from digits (b ∷ text)) (behind_line (fold and_digit size (front is_hex (b ∷ text))))
    by_test again false stops =
        let none : nat_le (digits + 0) 16 ≡ true = le-leb (digits + 0) 16 (omega arith) in
        ap (λ p. behind [] (read_from p text)) (digit_stop digits size b stops)
        ∙ read_from-Blanks size (b ∷ text)
        ∙ sym (ap (λ line. then (line_by digits line (past is_hex (b ∷ text))) (behind_line (fold and_digit size line))) (front-stop is_hex b text stops)
        ∙ ap (λ rest. then (line_by digits [] rest) (behind_line size)) (past-stop is_hex b text stops)
        ∙ ap (λ t. then (elim t [ true ↦ size_end (past is_blank (b ∷ text)) | false ↦ Absent ]) (behind_line size)) none)
    by_test again true passes =
        let rest = ap (λ line. then (line_from digits (b ∷ text)) (behind_line (fold and_digit size line))) (front-cons is_hex b text passes)
        ∙ ap (λ p. then p (behind_line (fold and_digit (and_digit size b) (front is_hex text)))) (line_from-cons digits b text passes) in
        elim (leb_tells (suc digits) 16) [
          | inl fits ↦
              ap (λ p. behind [] (read_from p text)) (digit_step digits size b passes ∙ ap (λ t. elim t [ true ↦ Size (digits + 1) (and_digit size b) | false ↦ Wrong ]) fits.0)
              ∙ again (omega (arith, fits.1)) ∙ sym rest
          | inr full ↦
              let over : nat_le (digits + 1 + length (front is_hex text)) 16 ≡ false = lt-leb (digits + 1 + length (front is_hex text)) 16 (omega (arith, full.1)) in
              ap (λ p. behind [] (read_from p text)) (digit_step digits size b passes ∙ ap (λ t. elim t [ true ↦ Size (digits + 1) (and_digit size b) | false ↦ Wrong ]) full.0)
              ∙ sym (rest ∙ ap (λ t. then (elim t [ true ↦ size_end (past is_blank (past is_hex text)) | false ↦ Absent ]) (behind_line (fold and_digit (and_digit size b) (front is_hex text)))) over)
        ]

-- a chunk's line
abbrev line_of : ℕ → List ℕ → Piece
line_of digits rest = elim (nat_le digits 16) [ true ↦ size_end (past is_blank rest) | false ↦ Absent ]

pub read_from-ChunkStart : (text : List ℕ) → read_from ChunkStart text ≡ then (chunk_line text) (behind_line (chunk_size text))
read_from-ChunkStart [] = refl
read_from-ChunkStart (b ∷ text) = by_test (is_hex b) refl
  where
    by_test : (t : Bool) → is_hex b ≡ t → read_from ChunkStart (b ∷ text) ≡ then (chunk_line (b ∷ text)) (behind_line (chunk_size (b ∷ text)))
    by_test false stops =
        ap (λ t. behind [] (read_from (elim (digit_by t b) [ Some d ↦ Size 1 d | None ↦ Wrong ]) text)) stops
        ∙ sym (ap (λ t. then (elim (t && nat_le (length (front is_hex (b ∷ text))) 16) [ true ↦ size_end (past is_blank (past is_hex (b ∷ text))) | false ↦ Absent ]) (behind_line (chunk_size (b ∷ text)))) stops)
    by_test true passes =
        let first : 0 * 16 + digit_value b ≡ digit_value b = omega arith in
        let sum : 1 + length (front is_hex text) ≡ length (b ∷ front is_hex text) = omega arith in
        ap (λ t. behind [] (read_from (elim (digit_by t b) [ Some d ↦ Size 1 d | None ↦ Wrong ]) text)) passes
        ∙ read_from-Size 1 (digit_value b) text (omega arith)
        ∙ ap (λ n. then (line_of n (past is_hex text)) (behind_line (fold and_digit (digit_value b) (front is_hex text)))) sum
        ∙ sym (ap (λ t. then (elim (t && nat_le (length (front is_hex (b ∷ text))) 16) [ true ↦ size_end (past is_blank (past is_hex (b ∷ text))) | false ↦ Absent ]) (behind_line (chunk_size (b ∷ text)))) passes
        ∙ ap (λ line. then (line_of (length line) (past is_hex (b ∷ text))) (behind_line (value_of 16 line))) (front-cons is_hex b text passes)
        ∙ ap (λ rest. then (line_of (length (b ∷ front is_hex text)) rest) (behind_line (value_of 16 (b ∷ front is_hex text)))) (past-cons is_hex b text passes)
        ∙ ap (λ d. then (line_of (length (b ∷ front is_hex text)) (past is_hex text)) (behind_line (fold and_digit d (front is_hex text)))) first)
