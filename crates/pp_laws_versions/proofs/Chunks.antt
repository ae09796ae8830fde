-- What is in memory of a chunk: all of it, or nothing, where it is kept on the disk; and what each change of chunks keeps of that.
use Rattle.std.proofs.Common.{◌≡◌, ◌⊎◌, refl, sym, subst, ap, ap₂, ◌∙◌, inl, inr, ℕ, zero, suc, ◌+◌, ◌-◌, ◌*◌, ◌/◌, ◌%◌, ◌<◌, ◌≤◌, nat_le, nat_lt, Bool, true, false, not, ◌==◌, ◌&&◌, cond, find, filter, length, take, drop, List, [], ◌∷◌, ◌++◌, Option, Some, None, length-append, arith}
use Rattle.std.proofs.lemmas.Bool.Decides.{nat_tests}
use Rattle.std.specs.Prelude.{min}
use Rattle.pp_law.specs.Chunks.{chunk_bytes, chunk_len, filled, is_chunk, join_run, join_runs, joined, joining, put_chunk, put_joining, to_chunk_end}
use Rattle.pp_law.specs.Lists.{Bytes, without}
use Rattle.pp_law.specs.State.{Chunk}
use Rattle.pp_laws.proofs.Tests.{first_holds, number_same, same_number, second_holds}
use Rattle.pp_laws.specs.Runs.{IsIn}
use Rattle.pp_text.specs.Bytes.{is_empty}

-- so many bytes of a chunk are nothing of it, or all
abbrev pub IsAllOrNone : ℕ → ℕ → ℕ → Type 0
IsAllOrNone n i k = (k ≡ 0) ⊎ (min 4096 (n - i * 4096) ≤ k)

-- of each chunk below the extent
abbrev pub Whole : ℕ → ℕ → ℕ → List Chunk → Type 0
Whole n id extent cs = (i : ℕ) → i * 4096 < extent → IsAllOrNone n i (filled id i cs)

-- ---- found by place

abbrev held_in : Option Chunk → ℕ
held_in o = length (elim o as (λ t. Bytes) [ None ↦ [] | Some d ↦ d.bytes ])

same_place : (k j : ℕ) (c : Chunk) → is_chunk k j c ≡ true → (c.instance ≡ k) × (c.index ≡ j)
same_place k j c is = (same_number c.instance k (first_holds (c.instance == k) (c.index == j) is), same_number c.index j (second_holds (c.instance == k) (c.index == j) is))

module _ (q : ℕ → ℕ → Bool) (k j : ℕ) where
  stays : (cs : List Chunk) → q k j ≡ true → find (is_chunk k j) (filter (λ c. q c.instance c.index) cs) ≡ find (is_chunk k j) cs
  stays [] on = refl
  stays (c ∷ cs) on = by (q c.instance c.index) refl (is_chunk k j c) refl (stays cs on)
    where
      by : (a : Bool) → q c.instance c.index ≡ a → (b : Bool) → is_chunk k j c ≡ b → find (is_chunk k j) (filter (λ d. q d.instance d.index) cs) ≡ find (is_chunk k j) cs
          → find (is_chunk k j) (cond a (c ∷ filter (λ d. q d.instance d.index) cs) (filter (λ d. q d.instance d.index) cs)) ≡ cond b (Some c) (find (is_chunk k j) cs)
      by true is true at rest = ap (λ (t : Bool). cond t (Some c) (find (is_chunk k j) (filter (λ d. q d.instance d.index) cs))) at
      by true is false at rest = ap (λ (t : Bool). cond t (Some c) (find (is_chunk k j) (filter (λ d. q d.instance d.index) cs))) at ∙ rest
      by false is true at rest = let w = same_place k j c at in absurd (let both : false ≡ true = sym is ∙ ap₂ (λ (a b : ℕ). q a b) w.0 w.1 ∙ on in cc both)
      by false is false at rest = rest

  leaves : (cs : List Chunk) → q k j ≡ false → find (is_chunk k j) (filter (λ c. q c.instance c.index) cs) ≡ None
  leaves [] off = refl
  leaves (c ∷ cs) off = by (q c.instance c.index) refl (is_chunk k j c) refl (leaves cs off)
    where
      by : (a : Bool) → q c.instance c.index ≡ a → (b : Bool) → is_chunk k j c ≡ b → find (is_chunk k j) (filter (λ d. q d.instance d.index) cs) ≡ None
          → find (is_chunk k j) (cond a (c ∷ filter (λ d. q d.instance d.index) cs) (filter (λ d. q d.instance d.index) cs)) ≡ None
      by true is true at rest = let w = same_place k j c at in absurd (let both : true ≡ false = sym is ∙ ap₂ (λ (a b : ℕ). q a b) w.0 w.1 ∙ off in cc both)
      by true is false at rest = ap (λ (t : Bool). cond t (Some c) (find (is_chunk k j) (filter (λ d. q d.instance d.index) cs))) at ∙ rest
      by false is b at rest = rest

-- ---- chunks that leave

-- each chunk is as it was, or out
abbrev pub Fewer : List Chunk → List Chunk → Type 0
Fewer cs ds = (k j : ℕ) → (filled k j ds ≡ filled k j cs) ⊎ (filled k j ds ≡ 0)

pub fewer_same : (cs : List Chunk) → Fewer cs cs
fewer_same cs k j = inl refl

pub fewer_filtered : (q : ℕ → ℕ → Bool) (cs : List Chunk) → Fewer cs (filter (λ c. q c.instance c.index) cs)
fewer_filtered q cs k j = by (q k j) refl
  where
    by : (b : Bool) → q k j ≡ b → (filled k j (filter (λ c. q c.instance c.index) cs) ≡ filled k j cs) ⊎ (filled k j (filter (λ c. q c.instance c.index) cs) ≡ 0)
    by true on = inl (ap held_in (stays q k j cs on))
    by false off = inr (ap held_in (leaves q k j cs off))

pub whole_fewer : (n id extent : ℕ) (cs ds : List Chunk) → Fewer cs ds → Whole n id extent cs → Whole n id extent ds
whole_fewer n id extent cs ds fewer whole i below = by (fewer id i) (whole i below)
  where
    by : (filled id i ds ≡ filled id i cs) ⊎ (filled id i ds ≡ 0) → IsAllOrNone n i (filled id i cs) → IsAllOrNone n i (filled id i ds)
    by (inr none) was = inl none
    by (inl same) was = subst (λ (k : ℕ). IsAllOrNone n i k) (sym same) was

-- ---- a chunk in its place

abbrev new_chunk : ℕ → ℕ → Bytes → Chunk
new_chunk id i bytes = record { instance = id; index = i; bytes = bytes }

find_push : (p : Chunk → Bool) (cs : List Chunk) (c : Chunk) → find p (cs ++ c ∷ []) ≡ (elim (find p cs) as (λ t. Option Chunk) [ None ↦ cond (p c) (Some c) None | Some d ↦ Some d ])
find_push p [] c = refl
find_push p (d ∷ cs) c = by (p d) (find_push p cs c)
  where
    by : (b : Bool) → find p (cs ++ c ∷ []) ≡ (elim (find p cs) as (λ t. Option Chunk) [ None ↦ cond (p c) (Some c) None | Some e ↦ Some e ])
        → cond b (Some d) (find p (cs ++ c ∷ [])) ≡ (elim (cond b (Some d) (find p cs)) as (λ t. Option Chunk) [ None ↦ cond (p c) (Some c) None | Some e ↦ Some e ])
    by true rest = refl
    by false rest = rest

abbrev other_than : ℕ → ℕ → ℕ → ℕ → Bool
other_than id i a b = not ((a == id) && (b == i))

pub put_there : (id i : ℕ) (bytes : Bytes) (cs : List Chunk) → filled id i (put_chunk id i bytes cs) ≡ length bytes
put_there id i bytes cs =
    ap held_in (find_push (is_chunk id i) (without (is_chunk id i) cs) (new_chunk id i bytes)
    ∙ ap (λ (o : Option Chunk). elim o as (λ t. Option Chunk) [ None ↦ cond (is_chunk id i (new_chunk id i bytes)) (Some (new_chunk id i bytes)) None | Some d ↦ Some d ])
    (leaves (other_than id i) id i cs (ap₂ (λ (a b : Bool). not (a && b)) (number_same id) (number_same i)))
    ∙ ap₂ (λ (a b : Bool). cond (a && b) (Some (new_chunk id i bytes)) None) (number_same id) (number_same i))

pub put_elsewhere : (id i k j : ℕ) (bytes : Bytes) (cs : List Chunk) → ((id == k) && (i == j)) ≡ false → filled k j (put_chunk id i bytes cs) ≡ filled k j cs
put_elsewhere id i k j bytes cs apart =
    ap held_in (find_push (is_chunk k j) (without (is_chunk id i) cs) (new_chunk id i bytes)
    ∙ ap₂ (λ (o : Option Chunk) (b : Bool). elim o as (λ t. Option Chunk) [ None ↦ cond b (Some (new_chunk id i bytes)) None | Some d ↦ Some d ]) (stays (other_than id i) k j cs other) apart
    ∙ or_none (find (is_chunk k j) cs))
  where
    or_none : (o : Option Chunk) → (elim o as (λ t. Option Chunk) [ None ↦ None | Some d ↦ Some d ]) ≡ o
    or_none None = refl
    or_none (Some d) = refl

    other : not ((k == id) && (j == i)) ≡ true
    other = by ((k == id) && (j == i)) refl
      where
        by : (b : Bool) → ((k == id) && (j == i)) ≡ b → not b ≡ true
        by false is = refl
        by true is =
            let a : id ≡ k = sym (same_number k id (first_holds (k == id) (j == i) is)) in
            let b : i ≡ j = sym (same_number j i (second_holds (k == id) (j == i) is)) in
            absurd (let both : true ≡ false = sym (ap₂ (λ (x y : Bool). x && y) (number_same id) (number_same i)) ∙ ap₂ (λ (x y : ℕ). (id == x) && (i == y)) a b ∙ apart in cc both)

-- the same bytes in their place again
pub fewer_used : (id i : ℕ) (c : Chunk) (cs : List Chunk) → find (is_chunk id i) cs ≡ Some c → Fewer cs (put_chunk id i c.bytes cs)
fewer_used id i c cs found k j = by ((id == k) && (i == j)) refl
  where
    by : (b : Bool) → ((id == k) && (i == j)) ≡ b → (filled k j (put_chunk id i c.bytes cs) ≡ filled k j cs) ⊎ (filled k j (put_chunk id i c.bytes cs) ≡ 0)
    by false apart = inl (put_elsewhere id i k j c.bytes cs apart)
    by true is =
        let a : id ≡ k = same_number id k (first_holds (id == k) (i == j) is) in
        let b : i ≡ j = same_number i j (second_holds (id == k) (i == j) is) in
        inl (ap₂ (λ (x y : ℕ). filled x y (put_chunk id i c.bytes cs)) (sym a) (sym b) ∙ put_there id i c.bytes cs ∙ sym (ap held_in found) ∙ ap₂ (λ (x y : ℕ). filled x y cs) a b)

-- all of a chunk is there
pub whole_put : (n id extent to i : ℕ) (bytes : Bytes) (cs : List Chunk) → (to ≡ id → min 4096 (n - i * 4096) ≤ length bytes) → Whole n id extent cs → Whole n id extent (put_chunk to i bytes cs)
whole_put n id extent to i bytes cs long whole j below = by ((to == id) && (i == j)) refl
  where
    by : (b : Bool) → ((to == id) && (i == j)) ≡ b → IsAllOrNone n j (filled id j (put_chunk to i bytes cs))
    by false apart = subst (λ (k : ℕ). IsAllOrNone n j k) (sym (put_elsewhere to i id j bytes cs apart)) (whole j below)
    by true is =
        let a : to ≡ id = same_number to id (first_holds (to == id) (i == j) is) in
        let b : i ≡ j = same_number i j (second_holds (to == id) (i == j) is) in
        let there : filled id j (put_chunk to i bytes cs) ≡ length bytes = ap₂ (λ (x y : ℕ). filled x y (put_chunk to i bytes cs)) (sym a) (sym b) ∙ put_there to i bytes cs in
        inr (subst (λ (k : ℕ). min 4096 (n - j * 4096) ≤ k) (sym there) (subst (λ (y : ℕ). min 4096 (n - y * 4096) ≤ length bytes) b (long a)))

-- ---- bytes that join

-- where more is there of a chunk below the extent, some was there
abbrev Grows : ℕ → ℕ → List Chunk → List Chunk → Type 0
Grows id extent cs ds = (k j : ℕ) → (filled k j ds ≡ filled k j cs) ⊎ ((k ≡ id) × (filled k j cs ≤ filled k j ds) × (j * 4096 < extent → 0 < filled k j cs))

grows_then : (id extent : ℕ) (cs ds es : List Chunk) → Grows id extent cs ds → Grows id extent ds es → Grows id extent cs es
grows_then id extent cs ds es one two k j = by (one k j) (two k j)
  where
    by : (filled k j ds ≡ filled k j cs) ⊎ ((k ≡ id) × (filled k j cs ≤ filled k j ds) × (j * 4096 < extent → 0 < filled k j cs))
        → (filled k j es ≡ filled k j ds) ⊎ ((k ≡ id) × (filled k j ds ≤ filled k j es) × (j * 4096 < extent → 0 < filled k j ds))
        → (filled k j es ≡ filled k j cs) ⊎ ((k ≡ id) × (filled k j cs ≤ filled k j es) × (j * 4096 < extent → 0 < filled k j cs))
    by (inl a) (inl b) = inl (b ∙ a)
    by (inl a) (inr b) = inr (b.0, omega (arith, a, b.1), λ below. let some : 0 < filled k j ds = b.2 below in omega (arith, some, a))
    by (inr a) (inl b) = inr (a.0, omega (arith, a.1, b), a.2)
    by (inr a) (inr b) = inr (a.0, omega (arith, a.1, b.1), a.2)

at_most : (m n : ℕ) → nat_le m n ≡ true → m ≤ n
at_most m n is = grind (arith, nat_tests)

not_below : (m n : ℕ) → nat_lt m n ≡ false → n ≤ m
not_below m n isnt = grind (arith, nat_tests)

some_before : (at extent front i : ℕ) → extent ≤ at → at % 4096 ≤ front → i ≡ at / 4096 → i * 4096 < extent → 0 < front
some_before at extent front i over follows is below = omega (arith, over, follows, is, below)

put_grows : (id extent at : ℕ) (bytes : Bytes) (cs : List Chunk) → extent ≤ at → (is_empty bytes ≡ false → at % 4096 ≤ filled id (at / 4096) cs) → Grows id extent cs (put_joining id (at / 4096) bytes cs)
put_grows id extent at bytes cs over follows k j = by (is_empty bytes) refl
  where
    long : length (chunk_bytes id (at / 4096) cs ++ bytes) ≡ filled id (at / 4096) cs + length bytes
    long = length-append (chunk_bytes id (at / 4096) cs) bytes

    more : (b : Bool) → ((id == k) && (at / 4096 == j)) ≡ b → is_empty bytes ≡ false
        → (filled k j (put_chunk id (at / 4096) (chunk_bytes id (at / 4096) cs ++ bytes) cs) ≡ filled k j cs)
        ⊎ ((k ≡ id) × (filled k j cs ≤ filled k j (put_chunk id (at / 4096) (chunk_bytes id (at / 4096) cs ++ bytes) cs)) × (j * 4096 < extent → 0 < filled k j cs))
    more false apart some = inl (put_elsewhere id (at / 4096) k j (chunk_bytes id (at / 4096) cs ++ bytes) cs apart)
    more true is some =
        let a : id ≡ k = same_number id k (first_holds (id == k) (at / 4096 == j) is) in
        let b : at / 4096 ≡ j = same_number (at / 4096) j (second_holds (id == k) (at / 4096 == j) is) in
        let was : filled id (at / 4096) cs ≡ filled k j cs = ap₂ (λ (x y : ℕ). filled x y cs) a b in
        let there : filled k j (put_chunk id (at / 4096) (chunk_bytes id (at / 4096) cs ++ bytes) cs) ≡ filled k j cs + length bytes = ap₂ (λ (x y : ℕ). filled x y (put_chunk id (at / 4096) (chunk_bytes id (at / 4096) cs ++ bytes) cs)) (sym a) (sym b) ∙ put_there id (at / 4096) (chunk_bytes id (at / 4096) cs ++ bytes) cs ∙ long ∙ ap (λ (m : ℕ). m + length bytes) was in
        inr (sym a, omega (arith, there), λ below. some_before at extent (filled k j cs) j over (subst (λ (m : ℕ). at % 4096 ≤ m) was (follows some)) (sym b) below)

    by : (b : Bool) → is_empty bytes ≡ b → (filled k j (elim b as (λ t. List Chunk) [ true ↦ cs | false ↦ put_chunk id (at / 4096) (chunk_bytes id (at / 4096) cs ++ bytes) cs ]) ≡ filled k j cs)
        ⊎ ((k ≡ id) × (filled k j cs ≤ filled k j (elim b as (λ t. List Chunk) [ true ↦ cs | false ↦ put_chunk id (at / 4096) (chunk_bytes id (at / 4096) cs ++ bytes) cs ])) × (j * 4096 < extent → 0 < filled k j cs))
    by true is = inl refl
    by false is = more ((id == k) && (at / 4096 == j)) refl is

-- what joins follows what is there
joins_behind : (at front : ℕ) (run : Bytes) → is_empty (joining at front run) ≡ false → at ≤ front
joins_behind at front run = by (nat_le at front) refl
  where
    by : (b : Bool) → nat_le at front ≡ b → is_empty (elim b as (λ t. Bytes) [ true ↦ drop (front - at) run | false ↦ [] ]) ≡ false → at ≤ front
    by true is some = at_most at front is
    by false is some = absurd (cc some)

run_grows : (id extent at : ℕ) (run : Bytes) (cs : List Chunk) → Grows id extent cs (join_run id extent at run cs)
run_grows id extent at run cs = by (nat_lt at extent) refl
  where
    by : (b : Bool) → nat_lt at extent ≡ b → Grows id extent cs (elim b as (λ t. List Chunk) [ true ↦ cs | false ↦ put_joining id (at / chunk_len) (joining (at % chunk_len) (filled id (at / chunk_len) cs) run) cs ])
    by true is = λ k j. inl refl
    by false isnt = put_grows id extent at (joining (at % 4096) (filled id (at / 4096) cs) run) cs (not_below at extent isnt) (λ some. joins_behind (at % 4096) (filled id (at / 4096) cs) run some)

runs_grow : (more id extent at : ℕ) (bytes : Bytes) (cs : List Chunk) → Grows id extent cs (join_runs more id extent at bytes cs)
runs_grow zero id extent at bytes cs = λ k j. inl refl
runs_grow (suc more) id extent at bytes cs = by (runs_grow more id extent (at + to_chunk_end at) (drop (to_chunk_end at) bytes) (join_run id extent at (take (to_chunk_end at) bytes) cs)) (is_empty bytes)
  where
    by : Grows id extent (join_run id extent at (take (to_chunk_end at) bytes) cs) (join_runs more id extent (at + to_chunk_end at) (drop (to_chunk_end at) bytes) (join_run id extent at (take (to_chunk_end at) bytes) cs))
        → (b : Bool) → Grows id extent cs (elim b as (λ t. List Chunk) [
          | true ↦ cs
          | false ↦ join_runs more id extent (at + to_chunk_end at) (drop (to_chunk_end at) bytes) (join_run id extent at (take (to_chunk_end at) bytes) cs)
        ])
    by rest true = λ k j. inl refl
    by rest false = grows_then id extent cs (join_run id extent at (take (to_chunk_end at) bytes) cs) _ (run_grows id extent at (take (to_chunk_end at) bytes) cs) rest

-- below the extent nothing joins of which nothing is there
pub whole_joined : (n id extent to far at : ℕ) (bytes : Bytes) (cs : List Chunk) → (id ≡ to → extent ≤ far) → Whole n id extent cs → Whole n id extent (joined to far at bytes cs)
whole_joined n id extent to far at bytes cs within whole i below = by (runs_grow (length bytes / chunk_len + 2) to far at bytes cs id i) (whole i below)
  where
    by : (filled id i (joined to far at bytes cs) ≡ filled id i cs) ⊎ ((id ≡ to) × (filled id i cs ≤ filled id i (joined to far at bytes cs)) × (i * 4096 < far → 0 < filled id i cs)) → IsAllOrNone n i (filled id i cs) → IsAllOrNone n i (filled id i (joined to far at bytes cs))
    by (inl same) was = subst (λ (k : ℕ). IsAllOrNone n i k) (sym same) was
    by (inr more) (inl none) = absurd (let le : extent ≤ far = within more.0 in let some : 0 < filled id i cs = more.2 (omega (arith, below, le)) in omega (arith, some, none))
    by (inr more) (inr all) = inr (let le : filled id i cs ≤ filled id i (joined to far at bytes cs) = more.1 in omega (arith, all, le))

-- ---- nothing is there of an instance that is still to come

pub none_given : (next id i : ℕ) (cs : List Chunk) → next ≤ id → ((c : Chunk) → IsIn c cs → c.instance < next) → filled id i cs ≡ 0
none_given next id i cs over given = ap held_in (by cs given)
  where
    by : (ds : List Chunk) → ((c : Chunk) → IsIn c ds → c.instance < next) → find (is_chunk id i) ds ≡ None
    by [] each = refl
    by (d ∷ ds) each = one (is_chunk id i d) refl (by ds (λ c j. each c (inr j)))
      where
        one : (b : Bool) → is_chunk id i d ≡ b → find (is_chunk id i) ds ≡ None → cond b (Some d) (find (is_chunk id i) ds) ≡ None
        one true is rest = absurd (let lt : d.instance < next = each d (inl refl) in let same : d.instance ≡ id = (same_place id i d is).0 in omega (arith, lt, same, over))
        one false is rest = rest
