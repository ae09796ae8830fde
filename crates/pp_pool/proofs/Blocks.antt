-- A write to the bytes of one chunk: what the block has there, and at the other chunks.
use Rattle.std.proofs.Common.{ℕ, ◌+◌, ◌*◌, ◌≤◌, ◌<◌, ◌≡◌, List, ◌++◌, length, take, drop, arith, sym, ◌∙◌, ap, ◌⊎◌, inl, inr}
use Rattle.std.proofs.lemmas.Bool.{cases_lt}
use Rattle.std.proofs.lemmas.List.{drop-take, drop-append-le, length-append, length-drop, length-take-le, take-take}
use Rattle.std.proofs.lemmas.Slice.{take-put_mid_below, take-put_mid, drop-put_mid}
use borrow.Rule.Slice.PartMut.{put_mid}

part_below : (a k m l : ℕ) (block ys : List ℕ) → a ≤ length block → m + l ≤ a → take l (drop m (put_mid a k block ys)) ≡ take l (drop m block)
part_below a k m l block ys lt le =
    sym (drop-take m l (put_mid a k block ys)) ∙ ap (drop m) (take-put_mid_below a k block ys (m + l) le lt) ∙ drop-take m l block

part_above : (a k m l : ℕ) (block ys : List ℕ) → a ≤ length block → length ys ≡ k → a + k ≤ m → take l (drop m (put_mid a k block ys)) ≡ take l (drop m block)
part_above a k m l block ys lt long le = ap (take l) (drop-put_mid a k block ys m le lt long)

part_by : (a k n c l : ℕ) (block ys : List ℕ) → a ≤ length block → length ys ≡ k → c * 4096 ≤ a → a + k ≤ c * 4096 + 4096 → l ≤ 4096 → (n ≡ c → ⊥)
    → (n < c) ⊎ (c ≤ n) → take l (drop (n * 4096) (put_mid a k block ys)) ≡ take l (drop (n * 4096) block)
part_by a k n c l block ys lt long from to short apart (inl below) = part_below a k (n * 4096) l block ys lt (omega arith)
part_by a k n c l block ys lt long from to short apart (inr above) = part_above a k (n * 4096) l block ys lt long (omega arith)

-- the other chunks stay
pub part_other : (a k n c l : ℕ) (block ys : List ℕ) → a ≤ length block → length ys ≡ k → c * 4096 ≤ a → a + k ≤ c * 4096 + 4096 → l ≤ 4096 → (n ≡ c → ⊥)
    → take l (drop (n * 4096) (put_mid a k block ys)) ≡ take l (drop (n * 4096) block)
part_other a k n c l block ys lt long from to short apart = part_by a k n c l block ys lt long from to short apart (cases_lt n c)

-- more bytes stand behind those of the chunk
pub part_longer : (m l k : ℕ) (block ys : List ℕ) → m + l ≤ length block → length ys ≡ k
    → take (l + k) (drop m (put_mid (m + l) k block ys)) ≡ take l (drop m block) ++ ys
part_longer m l k block ys lt long =
    let short : m ≤ length (take (m + l) block) = omega (arith, length-take-le (m + l) block lt) in
    sym (drop-take m (l + k) (put_mid (m + l) k block ys))
    ∙ ap (drop m) (take-put_mid (m + l) k block ys (m + (l + k)) (omega arith) lt)
    ∙ drop-append-le m (take (m + l) block) ys short
    ∙ ap (λ xs. xs ++ ys) (drop-take m l block)

-- a block that has grown has the same bytes at its front
pub part_grown : (m l : ℕ) (block longer : List ℕ) → take (length block) longer ≡ block → m + l ≤ length block → take l (drop m longer) ≡ take l (drop m block)
part_grown m l block longer kept le =
    sym (drop-take m l longer) ∙ ap (drop m) (sym (take-take (m + l) (length block) longer le) ∙ ap (take (m + l)) kept) ∙ drop-take m l block

pub length-put_mid : (a k : ℕ) (block ys : List ℕ) → a + k ≤ length block → length ys ≡ k → length (put_mid a k block ys) ≡ length block
length-put_mid a k block ys le long =
    let lt : a ≤ length block = omega arith in
    length-append (take a block) (ys ++ drop k (drop a block))
    ∙ (omega (arith, length-take-le a block lt, length-append ys (drop k (drop a block)), length-drop k (drop a block), length-drop a block))
