-- The places in a trailer read the trailer of the grammar.
use Rattle.std.proofs.Common.{◌≡◌, ℕ, zero, suc, ◌+◌, ◌-◌, ◌<◌, ◌≤◌, ◌==◌, Bool, true, false, nat_lt, nat_le, List, [], ◌∷◌, length, arith, ap, sym, ◌∙◌, refl, subst, inl, inr}
use Rattle.std.proofs.lemmas.Bool.{le-leb, lt-leb, lt-ltb}
use Rattle.std.proofs.lemmas.Bool.Decides.{eqb_tells, leb_tells}
use Rattle.pp_framing.specs.Body.{Body, Done, behind, no_data}
use Rattle.pp_framing.specs.Chunked.{Piece, Found, Unfinished, Absent, then, past, is_text, line_feed, line_end, fitting, trailer}
use Rattle.pp_framing.specs.Places.{read_from, step, trailer_byte}
use Rattle.pp_framing.specs.declared.place.Place.{Place}
use Rattle.pp_framing.specs.declared.place.Place.TheVariants.{TrailerStart, Trailer, TrailerReturn, LastReturn, Over, Wrong}
use Rattle.pp_framing.proofs.BodyLemmas.{feed, front-cons, past-cons, is_text-other}

-- pieces are shorter than the text that they stand in
line_feed-shorter : (text rest : List ℕ) → line_feed text ≡ Found rest → length rest < length text
line_feed-shorter [] rest found = cc
line_feed-shorter (b ∷ text) rest found = by_feed (b == 10) found
  where
    by_feed : (t : Bool) → elim t [ true ↦ Found text | false ↦ Absent ] ≡ Found rest → length rest < suc (length text)
    by_feed true found = let same : text ≡ rest = cc in omega (arith, ap length same)
    by_feed false found = cc

pub line_end-shorter : (text rest : List ℕ) → line_end text ≡ Found rest → length rest < length text
line_end-shorter [] rest found = cc
line_end-shorter (b ∷ text) rest found = by_feed (b == 10) found
  where
    by_return : (t : Bool) → elim t [ true ↦ line_feed text | false ↦ Absent ] ≡ Found rest → length rest < suc (length text)
    by_return true found = omega (arith, line_feed-shorter text rest found)
    by_return false found = cc

    by_feed : (t : Bool) → elim t [ true ↦ Found text | false ↦ elim (b == 13) [ true ↦ line_feed text | false ↦ Absent ] ] ≡ Found rest → length rest < suc (length text)
    by_feed true found = let same : text ≡ rest = cc in omega (arith, ap length same)
    by_feed false found = by_return (b == 13) found

pub length-past : (test : ℕ → Bool) (text : List ℕ) → length (past test text) ≤ length text
length-past test [] = omega arith
length-past test (b ∷ text) = by_test (length-past test text) (test b)
  where
    by_test : length (past test text) ≤ length text → (t : Bool) → length {A = ℕ} (elim t [ true ↦ past test text | false ↦ b ∷ text ]) ≤ suc (length text)
    by_test less true = omega arith
    by_test less false = omega arith

-- what follows a piece matters only where it is found
pub then-same : (piece : Piece) (f g : List ℕ → Body) → ((rest : List ℕ) → piece ≡ Found rest → f rest ≡ g rest) → then piece f ≡ then piece g
then-same (Found rest) f g same = same rest refl
then-same Unfinished f g same = refl
then-same Absent f g same = refl

-- the place behind a trailer line that fits
abbrev behind_trailer_line : ℕ → List ℕ → List ℕ → Body
behind_trailer_line room text rest = read_from (TrailerStart (16384 - (room + length rest - length text))) rest

-- one byte of the line less, and one of the room
fitting-cons : (room b : ℕ) (text : List ℕ) (piece : Piece) → 1 < room → fitting (room - 1) text piece ≡ fitting room (b ∷ text) piece
fitting-cons room b text (Found rest) more =
    elim (leb_tells (length text) (room - 1 + length rest)) [
      | inl fits ↦ ap (λ t. elim t [ true ↦ Found rest | false ↦ Absent ]) (fits.0 ∙ sym (le-leb (suc (length text)) (room + length rest) (omega (arith, fits.1))))
      | inr full ↦ ap (λ t. elim t [ true ↦ Found rest | false ↦ Absent ]) (full.0 ∙ sym (lt-leb (suc (length text)) (room + length rest) (omega (arith, full.1))))
    ]
fitting-cons room b text Unfinished more =
    elim (leb_tells (suc (length text)) (room - 1)) [
      | inl fits ↦ ap (λ t. elim t [ true ↦ Unfinished | false ↦ Absent ]) (fits.0 ∙ sym (le-leb (suc (suc (length text))) room (omega (arith, fits.1))))
      | inr full ↦ ap (λ t. elim t [ true ↦ Unfinished | false ↦ Absent ]) (full.0 ∙ sym (lt-leb (suc (suc (length text))) room (omega (arith, full.1))))
    ]
fitting-cons room b text Absent more = refl

fitting-full : (room : ℕ) (text : List ℕ) (piece : Piece) → ((rest : List ℕ) → piece ≡ Found rest → room + length rest < length text) → room ≤ length text → fitting room text piece ≡ Absent
fitting-full room text (Found rest) short full =
    ap (λ t. elim t [ true ↦ Found rest | false ↦ Absent ]) (lt-leb (length text) (room + length rest) (short rest refl))
fitting-full room text Unfinished short full =
    ap (λ t. elim t [ true ↦ Unfinished | false ↦ Absent ]) (lt-leb (suc (length text)) room (omega arith))
fitting-full room text Absent short full = refl

-- the room for one more byte and its LF
byte-fits : (len room : ℕ) (next : Place) → len + room ≡ 16384 → 1 < room → trailer_byte len next ≡ next
byte-fits len room next all more = ap (λ t. elim t [ true ↦ next | false ↦ Wrong ]) (le-leb (len + 2) 16384 (omega arith))

byte-full : (len room : ℕ) (next : Place) → len + room ≡ 16384 → room ≤ 1 → trailer_byte len next ≡ Wrong
byte-full len room next all full = ap (λ t. elim t [ true ↦ next | false ↦ Wrong ]) (lt-leb (len + 2) 16384 (omega arith))

trailer-step : (len b : ℕ) → (b == 10) ≡ false → (b == 13) ≡ false → step (Trailer len) b ≡ trailer_byte len (Trailer (len + 1))
trailer-step len b no_lf no_cr =
    ap (λ t. elim t [ true ↦ TrailerStart (len + 1) | false ↦ elim (b == 13) [ true ↦ trailer_byte len (TrailerReturn (len + 1)) | false ↦ trailer_byte len (Trailer (len + 1)) ] ]) no_lf
    ∙ ap (λ t. elim t [ true ↦ trailer_byte len (TrailerReturn (len + 1)) | false ↦ trailer_byte len (Trailer (len + 1)) ]) no_cr

start-step : (len b : ℕ) → (b == 10) ≡ false → (b == 13) ≡ false → step (TrailerStart len) b ≡ trailer_byte len (Trailer (len + 1))
start-step len b no_lf no_cr =
    ap (λ t. elim t [ true ↦ Over | false ↦ elim (b == 13) [ true ↦ LastReturn | false ↦ trailer_byte len (Trailer (len + 1)) ] ]) no_lf
    ∙ ap (λ t. elim t [ true ↦ LastReturn | false ↦ trailer_byte len (Trailer (len + 1)) ]) no_cr

read_from-TrailerReturn : (len room : ℕ) (text : List ℕ) → len + room ≡ 16384 → 1 < room
    → read_from (TrailerReturn (len + 1)) text ≡ then (fitting room (13 ∷ text) (line_feed text)) (behind_trailer_line room (13 ∷ text))
read_from-TrailerReturn len room [] all more = sym (ap (λ t. then (elim t [ true ↦ Unfinished | false ↦ Absent ]) (behind_trailer_line room (13 ∷ []))) (lt-ltb 1 room more))
read_from-TrailerReturn len room (b ∷ text) all more = by_feed (b == 10)
  where
    by_feed : (t : Bool) → read_from (elim t [ true ↦ TrailerStart (len + 1 + 1) | false ↦ Wrong ]) text ≡ then (fitting room (13 ∷ b ∷ text) (elim t [ true ↦ Found text | false ↦ Absent ])) (behind_trailer_line room (13 ∷ b ∷ text))
    by_feed true =
        ap (λ n. read_from (TrailerStart n) text) (let e : len + 1 + 1 ≡ 16384 - (room + length text - suc (suc (length text))) = omega arith in e)
        ∙ sym (ap (λ t. then (elim t [ true ↦ Found text | false ↦ Absent ]) (behind_trailer_line room (13 ∷ b ∷ text))) (le-leb (suc (suc (length text))) (room + length text) (omega arith)))
    by_feed false = refl

read_from-Trailer : (len room : ℕ) (text : List ℕ) → len + room ≡ 16384 → 0 < room
    → read_from (Trailer len) text ≡ then (fitting room text (line_end (past is_text text))) (behind_trailer_line room text)
read_from-Trailer len room [] all some = sym (ap (λ t. then (elim t [ true ↦ Unfinished | false ↦ Absent ]) (behind_trailer_line room [])) (lt-ltb 0 room some))
read_from-Trailer len room (b ∷ text) all some =
    let P : ℕ → Type 0 = λ b. read_from (Trailer len) (b ∷ text) ≡ then (fitting room (b ∷ text) (line_end (past is_text (b ∷ text)))) (behind_trailer_line room (b ∷ text)) in
    elim (eqb_tells b 10) [
      | inl lf ↦ subst P (sym lf.1) (
          ap (λ n. read_from (TrailerStart n) text) (let e : len + 1 ≡ 16384 - (room + length text - suc (length text)) = omega arith in e)
          ∙ sym (ap (λ t. then (elim t [ true ↦ Found text | false ↦ Absent ]) (behind_trailer_line room (10 ∷ text))) (le-leb (suc (length text)) (room + length text) (omega arith))))
      | inr no_lf ↦ elim (eqb_tells b 13) [
        | inl cr ↦ subst P (sym cr.1) (elim (leb_tells 2 room) [
          | inl more ↦ ap (λ p. behind [] (read_from p text)) (byte-fits len room (TrailerReturn (len + 1)) all (omega (arith, more.1))) ∙ read_from-TrailerReturn len room text all (omega (arith, more.1))
          | inr full ↦
              ap (λ p. behind [] (read_from p text)) (byte-full len room (TrailerReturn (len + 1)) all (omega (arith, full.1)))
              ∙ sym (ap (λ p. then p (behind_trailer_line room (13 ∷ text))) (fitting-full room (13 ∷ text) (line_feed text) (λ rest found. omega (arith, full.1, line_feed-shorter text rest found)) (omega (arith, full.1))))
        ])
        | inr no_cr ↦
            let passes : is_text b ≡ true = is_text-other b no_lf.0 no_cr.0 in
            let line = ap (λ rest. then (fitting room (b ∷ text) (line_end rest)) (behind_trailer_line room (b ∷ text))) (past-cons is_text b text passes) in
            let next : step (Trailer len) b ≡ trailer_byte len (Trailer (len + 1)) = trailer-step len b no_lf.0 no_cr.0 in
            elim (leb_tells 2 room) [
              | inl more ↦
                  ap (λ p. behind [] (read_from p text)) (next ∙ byte-fits len room (Trailer (len + 1)) all (omega (arith, more.1)))
                  ∙ read_from-Trailer (len + 1) (room - 1) text (omega (arith, more.1)) (omega (arith, more.1))
                  ∙ ap (λ p. then p (behind_trailer_line (room - 1) text)) (fitting-cons room b text (line_end (past is_text text)) (omega (arith, more.1)))
                  ∙ then-same (fitting room (b ∷ text) (line_end (past is_text text))) (behind_trailer_line (room - 1) text) (behind_trailer_line room (b ∷ text))
                  (λ rest found. ap (λ n. read_from (TrailerStart n) rest) (let e : 16384 - (room - 1 + length rest - length text) ≡ 16384 - (room + length rest - suc (length text)) = omega (arith, more.1) in e))
                  ∙ sym line
              | inr full ↦
                  ap (λ p. behind [] (read_from p text)) (next ∙ byte-full len room (Trailer (len + 1)) all (omega (arith, full.1)))
                  ∙ sym (line ∙ ap (λ p. then p (behind_trailer_line room (b ∷ text))) (fitting-full room (b ∷ text) (line_end (past is_text text))
                  (λ rest found. omega (arith, full.1, line_end-shorter (past is_text text) rest found, length-past is_text text)) (omega (arith, full.1))))
            ]
      ]
    ]

fitting-found : (room : ℕ) (text rest : List ℕ) (piece : Piece) → fitting room text piece ≡ Found rest → piece ≡ Found rest
fitting-found room text rest (Found other) found = by_test (nat_le (length text) (room + length other)) found
  where
    by_test : (t : Bool) → elim t [ true ↦ Found other | false ↦ Absent ] ≡ Found rest → Found other ≡ Found rest
    by_test true found = found
    by_test false found = cc
fitting-found room text rest Unfinished found = by_test (nat_lt (length text) room) found
  where
    by_test : (t : Bool) → elim t [ true ↦ Unfinished | false ↦ Absent ] ≡ Found rest → Unfinished ≡ Found rest
    by_test true found = found
    by_test false found = cc
fitting-found room text rest Absent found = found

read_from-LastReturn : (text : List ℕ) → read_from LastReturn text ≡ then (line_feed text) (λ rest. no_data (Done rest))
read_from-LastReturn [] = refl
read_from-LastReturn (b ∷ text) = feed (b == 10) text Over

-- the trailer of the grammar, by the front of its first line and what is behind it
abbrev trailer_by : ℕ → ℕ → List ℕ → List ℕ → List ℕ → Body
trailer_by most room text line past_line = elim line [
  | [] ↦ then (line_end text) (λ rest. no_data (Done rest))
  | b ∷ line ↦ then (fitting room text (line_end past_line)) (λ rest. trailer most (room + length rest - length text) rest)
]

pub read_from-TrailerStart : (most len room : ℕ) (text : List ℕ) → len + room ≡ 16384 → length text ≤ most → read_from (TrailerStart len) text ≡ trailer most room text
read_from-TrailerStart zero len room [] all within = refl
read_from-TrailerStart zero len room (b ∷ text) all within = absurd (omega arith)
read_from-TrailerStart (suc most) len room [] all within = refl
read_from-TrailerStart (suc most) len room (b ∷ text) all within =
    let P : ℕ → Type 0 = λ b. read_from (TrailerStart len) (b ∷ text) ≡ trailer (suc most) room (b ∷ text) in
    elim (eqb_tells b 10) [
      | inl lf ↦ subst P (sym lf.1) refl
      | inr no_lf ↦ elim (eqb_tells b 13) [
        | inl cr ↦ subst P (sym cr.1) (read_from-LastReturn text)
        | inr no_cr ↦
            let passes : is_text b ≡ true = is_text-other b no_lf.0 no_cr.0 in
            let piece : Piece = line_end (past is_text text) in
            let line : trailer (suc most) room (b ∷ text) ≡ then (fitting room (b ∷ text) piece) (λ rest. trailer most (room + length rest - suc (length text)) rest) =
            ap (λ line. trailer_by most room (b ∷ text) line (past is_text (b ∷ text))) (front-cons is_text b text passes)
            ∙ ap (λ rest. then (fitting room (b ∷ text) (line_end rest)) (λ rest. trailer most (room + length rest - suc (length text)) rest)) (past-cons is_text b text passes) in
            let next : step (TrailerStart len) b ≡ trailer_byte len (Trailer (len + 1)) = start-step len b no_lf.0 no_cr.0 in
            elim (leb_tells 2 room) [
              | inl more ↦
                  ap (λ p. behind [] (read_from p text)) (next ∙ byte-fits len room (Trailer (len + 1)) all (omega (arith, more.1)))
                  ∙ read_from-Trailer (len + 1) (room - 1) text (omega (arith, more.1)) (omega (arith, more.1))
                  ∙ ap (λ p. then p (behind_trailer_line (room - 1) text)) (fitting-cons room b text piece (omega (arith, more.1)))
                  ∙ then-same (fitting room (b ∷ text) piece) (behind_trailer_line (room - 1) text) (λ rest. trailer most (room + length rest - suc (length text)) rest)
                  (λ rest found.
                  let shorter : length rest < length text = omega (arith, line_end-shorter (past is_text text) rest (fitting-found room (b ∷ text) rest piece found), length-past is_text text) in
                  let left : 16384 - (room - 1 + length rest - length text) + (room + length rest - suc (length text)) ≡ 16384 = omega (arith, more.1) in
                  read_from-TrailerStart most (16384 - (room - 1 + length rest - length text)) (room + length rest - suc (length text)) rest left (omega arith))
                  ∙ sym line
              | inr full ↦
                  ap (λ p. behind [] (read_from p text)) (next ∙ byte-full len room (Trailer (len + 1)) all (omega (arith, full.1)))
                  ∙ sym (line ∙ ap (λ p. then p (λ rest. trailer most (room + length rest - suc (length text)) rest)) (fitting-full room (b ∷ text) piece
                  (λ rest found. omega (arith, full.1, line_end-shorter (past is_text text) rest found, length-past is_text text)) (omega (arith, full.1))))
            ]
      ]
    ]
