-- The map from offset to byte after each change.
use Rattle.std.proofs.Common.{ℕ, ◌≡◌, ◌/◌, ◌%◌, Bool, true, false, ◌==◌, ◌&&◌, not, cond, List, [], ◌∷◌, ◌++◌, arith, refl, ◌∙◌, ap}
use Rattle.std.specs.Prelude.{slice_get}
use Rattle.std.proofs.lemmas.Grind.{common_steps}
use Rattle.std.proofs.lemmas.List.{append-nil}
use Rattle.std.proofs.lemmas.List.Elements.{filter-append}
use Rattle.std.specs.List.{filter}
use Rattle.pp_holes.specs.Places.{Chunk, is_at, is_elsewhere, first_bytes, bytes_at, byte_at, joined, without}

-- two places are apart
abbrev pub Apart : ℕ × ℕ → ℕ × ℕ → Type 0
Apart p q = (c : Chunk) → is_at q c ≡ true → is_at p c ≡ false

pub apart_chunks : (o p i j : ℕ) → (i ≡ j → ⊥) → Apart (o, i) (p, j)
apart_chunks o p i j h c e = grind (arith, common_steps, e)

pub apart_owners : (o p i j : ℕ) → (o ≡ p → ⊥) → Apart (o, i) (p, j)
apart_owners o p i j h c e = grind (arith, common_steps, e)

kept_by : (b : Bool) (p q : ℕ × ℕ) (c : Chunk) (cs : List Chunk) → Apart p q → is_at q c ≡ b → filter (is_at p) (filter (is_elsewhere q) cs) ≡ filter (is_at p) cs
    → filter (is_at p) (cond (not b) (c ∷ filter (is_elsewhere q) cs) (filter (is_elsewhere q) cs)) ≡ filter (is_at p) (c ∷ cs)
kept_by true p q c cs apart e ih = rw (apart c e) ih
kept_by false p q c cs apart e ih = ap (λ ds. cond (is_at p c) (c ∷ ds) ds) ih

kept : (p q : ℕ × ℕ) (cs : List Chunk) → Apart p q → filter (is_at p) (filter (is_elsewhere q) cs) ≡ filter (is_at p) cs
kept p q [] apart = refl
kept p q (c ∷ cs) apart = kept_by (is_at q c) p q c cs apart refl (kept p q cs apart)

gone_by : (b : Bool) (q : ℕ × ℕ) (c : Chunk) (cs : List Chunk) → is_at q c ≡ b → filter (is_at q) (filter (is_elsewhere q) cs) ≡ []
    → filter (is_at q) (cond (not b) (c ∷ filter (is_elsewhere q) cs) (filter (is_elsewhere q) cs)) ≡ []
gone_by true q c cs e ih = ih
gone_by false q c cs e ih = rw e ih

gone : (q : ℕ × ℕ) (cs : List Chunk) → filter (is_at q) (filter (is_elsewhere q) cs) ≡ []
gone q [] = refl
gone q (c ∷ cs) = gone_by (is_at q c) q c cs refl (gone q cs)

same : (q : ℕ × ℕ) → ((q.0 == q.0) && (q.1 == q.1)) ≡ true
same q = grind (arith, common_steps)

-- bytes join the chunk of one place, and no other place changes
pub joined-here : (q : ℕ × ℕ) (bs : List ℕ) (cs : List Chunk) → bytes_at q (joined q bs cs) ≡ bytes_at q cs ++ bs
joined-here q bs cs =
    let x : Chunk = record { owner = q.0; index = q.1; bytes = bytes_at q cs ++ bs } in
    ap first_bytes (filter-append (is_at q) (filter (is_elsewhere q) cs) (x ∷ [])
    ∙ ap (λ ds. ds ++ cond (is_at q x) (x ∷ []) []) (gone q cs) ∙ ap (λ b. cond b (x ∷ []) []) (same q))

pub joined-there : (p q : ℕ × ℕ) (bs : List ℕ) (cs : List Chunk) → Apart p q → bytes_at p (joined q bs cs) ≡ bytes_at p cs
joined-there p q bs cs apart =
    let x : Chunk = record { owner = q.0; index = q.1; bytes = bytes_at q cs ++ bs } in
    ap first_bytes (filter-append (is_at p) (filter (is_elsewhere q) cs) (x ∷ [])
    ∙ ap (λ b. filter (is_at p) (filter (is_elsewhere q) cs) ++ cond b (x ∷ []) []) (apart x (same q))
    ∙ append-nil (filter (is_at p) (filter (is_elsewhere q) cs)) ∙ kept p q cs apart)

-- after a drop just the bytes of that chunk are out
pub without-here : (q : ℕ × ℕ) (cs : List Chunk) → bytes_at q (without q cs) ≡ []
without-here q cs = ap first_bytes (gone q cs)

pub without-there : (p q : ℕ × ℕ) (cs : List Chunk) → Apart p q → bytes_at p (without q cs) ≡ bytes_at p cs
without-there p q cs apart = ap first_bytes (kept p q cs apart)

pub dropped : (o i at : ℕ) (cs : List Chunk) → (at / 4096 ≡ i → ⊥) → byte_at o (without (o, i) cs) at ≡ byte_at o cs at
dropped o i at cs apart = ap (λ bs. slice_get bs (at % 4096)) (without-there (o, at / 4096) (o, i) cs (apart_chunks o o (at / 4096) i apart))

pub other_owner : (o p i : ℕ) (bs : List ℕ) (cs : List Chunk) (at : ℕ) → (p ≡ o → ⊥) → byte_at p (joined (o, i) bs cs) at ≡ byte_at p cs at
other_owner o p i bs cs at apart = ap (λ bs. slice_get bs (at % 4096)) (joined-there (p, at / 4096) (o, i) bs cs (apart_owners p o (at / 4096) i apart))
