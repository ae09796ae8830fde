-- A decoder that begins at the front of a body reads the bodies of the grammar.
use Rattle.std.proofs.Common.{◌≡◌, ℕ, zero, suc, ◌<◌, ◌≤◌, ◌==◌, ◌&&◌, Bool, true, false, nat_le, List, [], ◌∷◌, length, arith, ap, sym, ◌∙◌, refl, subst, inl, inr, take, drop, length-take, length-drop}
use Rattle.std.proofs.lemmas.Bool.{le-leb}
use Rattle.std.proofs.lemmas.Bool.Decides.{eqb_tells, leb_tells}
use Rattle.std.proofs.lemmas.List.{take_all, drop_all, append-nil, take-append-drop}
use Rattle.pp_text.specs.Bytes.{is_blank}
use Rattle.pp_framing.specs.Body.{Body, Outcome, Done, Going, behind, no_data}
use Rattle.pp_framing.specs.Chunked.{Found, Absent, then, front, past, is_hex, is_text, line_end, extension_end, size_end, chunk_line, chunk_size, trailer, chunks}
use Rattle.std.proofs.Common.{◌++◌}
use Rattle.pp_framing.specs.Body.{Bad}
use Rattle.pp_framing.specs.declared.place.Place.{Place}
use Rattle.pp_framing.specs.Places.{ending_of, is_unbounded, read_from, first_place, data_of, step}
use Rattle.pp_framing.specs.Rules.{body_of, ending_in}
use Rattle.pp_framing.specs.declared.body.BodyRule.{BodyRule}
use Rattle.pp_framing.specs.declared.body.BodyRule.TheVariants.{Empty, Length, Chunked, ToEnd}
use Rattle.pp_framing.specs.declared.place.Place.TheVariants.{ChunkStart, Chunk, TrailerStart, Counted, Unbounded, Over, Wrong}
use Rattle.pp_framing.proofs.BodyLemmas.{behind_line, read_from-ChunkStart, read_from-ChunkEnd}
use Rattle.pp_framing.proofs.TrailerLemmas.{line_end-shorter, length-past, then-same, read_from-TrailerStart}
use Rattle.pp_framing.proofs.DecoderLemmas.{read_from-Chunk, read_from-Chunk-part, read_from-Counted, read_from-Counted-part, read_from-Unbounded}

-- a chunk's data, its line end, and what follows
read_from-data : (size : ℕ) (rest : List ℕ) → 0 < size → read_from (Chunk size) rest ≡ behind (take size rest) (then (line_end (drop size rest)) (read_from ChunkStart))
read_from-data size rest some =
    elim (leb_tells size (length rest)) [
      | inl all ↦
          ap (read_from (Chunk size)) (sym (take-append-drop size rest))
          ∙ read_from-Chunk size (take size rest) (drop size rest) (omega (arith, length-take size rest, all.1)) some
          ∙ ap (behind (take size rest)) (read_from-ChunkEnd (drop size rest))
      | inr part ↦
          ap (read_from (Chunk size)) (sym (append-nil rest))
          ∙ read_from-Chunk-part size rest [] (part.1)
          ∙ ap (λ x. behind x (no_data Going)) (sym (take_all size rest (omega (arith, part.1))))
          ∙ sym (ap (λ x. behind (take size rest) (then (line_end x) (read_from ChunkStart))) (drop_all size rest (omega (arith, part.1))))
    ]

extension_end-shorter : (text rest : List ℕ) → extension_end text ≡ Found rest → length rest < length text
extension_end-shorter text rest found = by_test (nat_le (length (front is_text text)) 4096) found
  where
    by_test : (t : Bool) → elim t [ true ↦ line_end (past is_text text) | false ↦ Absent ] ≡ Found rest → length rest < length text
    by_test true found = omega (arith, line_end-shorter (past is_text text) rest found, length-past is_text text)
    by_test false found = cc

size_end-shorter : (text rest : List ℕ) → size_end text ≡ Found rest → length rest < length text
size_end-shorter [] rest found = cc
size_end-shorter (b ∷ text) rest found = by_test (b == 59) found
  where
    by_test : (t : Bool) → elim t [ true ↦ extension_end text | false ↦ line_end (b ∷ text) ] ≡ Found rest → length rest < suc (length text)
    by_test true found = omega (arith, extension_end-shorter text rest found)
    by_test false found = line_end-shorter (b ∷ text) rest found

chunk_line-shorter : (text rest : List ℕ) → chunk_line text ≡ Found rest → length rest < length text
chunk_line-shorter [] rest found = cc
chunk_line-shorter (b ∷ text) rest found = by_test (is_hex b && nat_le (length (front is_hex (b ∷ text))) 16) found
  where
    by_test : (t : Bool) → elim t [ true ↦ size_end (past is_blank (past is_hex (b ∷ text))) | false ↦ Absent ] ≡ Found rest → length rest < suc (length text)
    by_test true found =
        omega (arith, size_end-shorter (past is_blank (past is_hex (b ∷ text))) rest found, length-past is_blank (past is_hex (b ∷ text)), length-past is_hex (b ∷ text))
    by_test false found = cc

-- what the chunks of the grammar have behind a chunk's line
abbrev chunk_behind : ℕ → Bool → ℕ → List ℕ → Body
chunk_behind most is_last size rest = elim is_last [
  | true ↦ trailer (length rest) 16384 rest
  | false ↦ behind (take size rest) (then (line_end (drop size rest)) (λ next. chunks most next))
]

read_from-chunks : (most : ℕ) (text : List ℕ) → length text ≤ most → read_from ChunkStart text ≡ chunks most text
read_from-chunks zero [] within = refl
read_from-chunks zero (b ∷ text) within = absurd (omega arith)
read_from-chunks (suc most) text within =
    let size : ℕ = chunk_size text in
    read_from-ChunkStart text
    ∙ then-same (chunk_line text) (behind_line size) (chunk_behind most (size == 0) size) (λ rest found.
    let shorter : length rest < length text = chunk_line-shorter text rest found in
    elim (eqb_tells size 0) [
      | inl last ↦
          ap (λ n. read_from (data_of n) rest) last.1
          ∙ read_from-TrailerStart (length rest) 0 16384 rest refl (omega arith)
          ∙ sym (ap (λ t. chunk_behind most t size rest) last.0)
      | inr more ↦
          ap (λ t. read_from (elim t [ true ↦ TrailerStart 0 | false ↦ Chunk size ]) rest) more.0
          ∙ read_from-data size rest (omega (arith, more.1))
          ∙ ap (behind (take size rest)) (then-same (line_end (drop size rest)) (read_from ChunkStart) (chunks most) (λ next there.
          read_from-chunks most next (omega (arith, line_end-shorter (drop size rest) next there, length-drop size rest))))
          ∙ sym (ap (λ t. chunk_behind most t size rest) more.0)
    ])

-- a body of known length
abbrev counted : ℕ → Bool → List ℕ → Body
counted n is_whole text = record { payload = take n text; outcome = elim is_whole [ true ↦ Done (drop n text) | false ↦ Going ] }

read_from-length : (n : ℕ) (text : List ℕ) → 0 < n → read_from (Counted n) text ≡ body_of (Length n) text
read_from-length n text some =
    elim (leb_tells n (length text)) [
      | inl all ↦
          ap (read_from (Counted n)) (sym (take-append-drop n text))
          ∙ read_from-Counted n (take n text) (drop n text) (omega (arith, length-take n text, all.1)) some
          ∙ same_payload (take n text) (Done (drop n text))
          ∙ sym (ap (λ t. counted n t text) all.0)
      | inr part ↦
          ap (read_from (Counted n)) (sym (append-nil text))
          ∙ read_from-Counted-part n text [] part.1
          ∙ same_payload text Going
          ∙ sym (ap (λ t. counted n t text) part.0 ∙ ap (λ x. record { payload = x; outcome = Going }) (take_all n text (omega (arith, part.1))))
    ]
  where
    same_payload : (front : List ℕ) (outcome : Outcome) → behind front (no_data outcome) ≡ record { payload = front; outcome = outcome }
    same_payload front outcome = ap (λ x. record { payload = x; outcome = outcome }) (append-nil front)

pub read_from-first_place : (rule : BodyRule) (text : List ℕ) → read_from (first_place rule) text ≡ body_of rule text
read_from-first_place Empty text = refl
read_from-first_place Chunked text = read_from-chunks (length text) text (omega arith)
read_from-first_place ToEnd text =
    ap (read_from Unbounded) (sym (append-nil text)) ∙ read_from-Unbounded text [] ∙ ap (λ x. record { payload = x; outcome = Going }) (append-nil text)
read_from-first_place (Length n) text =
    elim (eqb_tells n 0) [
      | inl none ↦ subst (λ (n : ℕ). read_from (first_place (Length n)) text ≡ body_of (Length n) text) (sym none.1) (sym (ap (λ t. counted 0 t text) (le-leb 0 (length text) (omega arith))))
      | inr some ↦ ap (λ t. read_from (elim t [ true ↦ Over | false ↦ Counted n ]) text) some.0 ∙ read_from-length n text (omega (arith, some.1))
    ]

-- what begins no body begins none, whatever follows
read_from-bad : (place : Place) (text more : List ℕ) → (read_from place text).outcome ≡ Bad → (read_from place (text ++ more)).outcome ≡ Bad
read_from-bad Over text more bad = cc
read_from-bad Wrong text more bad = refl
read_from-bad place [] more bad = cc
read_from-bad place (b ∷ text) more bad = read_from-bad (step place b) text more bad

pub body_of-bad : (rule : BodyRule) (text more : List ℕ) → (body_of rule text).outcome ≡ Bad → (body_of rule (text ++ more)).outcome ≡ Bad
body_of-bad rule text more bad =
    ap (λ body. body.outcome) (sym (read_from-first_place rule (text ++ more)))
    ∙ read_from-bad (first_place rule) text more (ap (λ body. body.outcome) (read_from-first_place rule text) ∙ bad)

pub ruleset bodies_exact = (read_from-first_place, body_of-bad)

-- the end of the connection, at each place of a body by each rule
bounded_first : (n : ℕ) → is_unbounded (first_place (Length n)) ≡ false
bounded_first n = by_test (n == 0)
  where
    by_test : (t : Bool) → is_unbounded (elim t [ true ↦ Over | false ↦ Counted n ]) ≡ false
    by_test true = refl
    by_test false = refl

pub ending_of-exact : (rule : BodyRule) (place : Place) → is_unbounded place ≡ is_unbounded (first_place rule) → ending_of place ≡ ending_in rule (read_from place []).outcome
ending_of-exact Empty Over kind = refl
ending_of-exact Empty Unbounded kind = cc
ending_of-exact Empty place kind = refl
ending_of-exact (Length n) Over kind = refl
ending_of-exact (Length n) Unbounded kind = let no : true ≡ false = kind ∙ bounded_first n in cc
ending_of-exact (Length n) place kind = refl
ending_of-exact Chunked Over kind = refl
ending_of-exact Chunked Unbounded kind = cc
ending_of-exact Chunked place kind = refl
ending_of-exact ToEnd Over kind = refl
ending_of-exact ToEnd Unbounded kind = refl
ending_of-exact ToEnd place kind = cc

pub ruleset endings_exact = (ending_of-exact)
