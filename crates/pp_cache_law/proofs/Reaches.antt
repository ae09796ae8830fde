-- How far an instance is held from an offset on.
use Rattle.std.proofs.Common.{◌≡◌, ◌<◌, ◌≤◌, ◌+◌, ◌-◌, ◌*◌, ◌/◌, ◌%◌, ◌⊎◌, inl, inr, refl, sym, subst, ap, ◌∙◌, ℕ, zero, suc, Bool, true, false, ◌==◌, ◌||◌, cond, List, arith}
use Rattle.std.specs.Prelude.{nat_lt}
use Rattle.std.proofs.lemmas.Bool.{cases_lt}
use Rattle.std.proofs.lemmas.Bool.Decides.{nat_tests}
use Rattle.pp_law.specs.Chunks.{filled}
use Rattle.pp_law.specs.State.{Chunk as Front}
use Rattle.pp_law.specs.Table.{chunks_in, is_held_by, reach}
use Rattle.pp_cache_law.proofs.Numbers.{is_same}

-- ---- tests

pub less_is : (a b : ℕ) → nat_lt a b ≡ true → a < b
less_is a b e = grind (arith, nat_tests)

pub less_isnt : (a b : ℕ) → nat_lt a b ≡ false → b ≤ a
less_isnt a b e = grind (arith, nat_tests)

pub is_less : (a b : ℕ) → a < b → nat_lt a b ≡ true
is_less a b e = grind (arith, nat_tests)

pub isnt_less : (a b : ℕ) → b ≤ a → nat_lt a b ≡ false
isnt_less a b e = grind (arith, nat_tests)

isnt_same : (a b : ℕ) → (a == b) ≡ false → a ≤ b → a < b
isnt_same a b e few = grind (arith, nat_tests)

-- ---- one step

-- what follows where the extent, the chunk and its length say this
abbrev stepped : ℕ → ℕ → ℕ → List Front → ℕ → Bool → Bool → Bool → ℕ
stepped more id extent cs at under there whole = elim under as (λ c. ℕ) [
  | true ↦ reach more id extent cs extent
  | false ↦ elim there as (λ c. ℕ) [
    | false ↦ at
    | true ↦ elim whole as (λ c. ℕ) [ true ↦ reach more id extent cs ((at / 4096 + 1) * 4096) | false ↦ at / 4096 * 4096 + filled id (at / 4096) cs ]
  ]
]

abbrev pub Fronts : ℕ → List Front → Type 0
Fronts id cs = (index : ℕ) → filled id index cs ≤ 4096

-- ---- it goes on

goes_on : (more id extent : ℕ) (cs : List Front) (at : ℕ) → ((to : ℕ) → to ≤ reach more id extent cs to) → (under there whole : Bool) → nat_lt at extent ≡ under → nat_lt (at % 4096) (filled id (at / 4096) cs) ≡ there
    → at ≤ stepped more id extent cs at under there whole
goes_on more id extent cs at on true there whole e f = let less : at < extent = less_is at extent e in let behind : extent ≤ reach more id extent cs extent = on extent in omega (arith, less, behind)
goes_on more id extent cs at on false false whole e f = omega arith
goes_on more id extent cs at on false true true e f = let behind : (at / 4096 + 1) * 4096 ≤ reach more id extent cs ((at / 4096 + 1) * 4096) = on ((at / 4096 + 1) * 4096) in omega (arith, behind)
goes_on more id extent cs at on false true false e f = let less : at % 4096 < filled id (at / 4096) cs = less_is (at % 4096) (filled id (at / 4096) cs) f in omega (arith, less)

pub reach_on : (more id extent : ℕ) (cs : List Front) (at : ℕ) → at ≤ reach more id extent cs at
reach_on zero id extent cs at = omega arith
reach_on (suc more) id extent cs at = goes_on more id extent cs at (reach_on more id extent cs) (nat_lt at extent) (nat_lt (at % 4096) (filled id (at / 4096) cs)) (filled id (at / 4096) cs == 4096) refl refl

-- ---- all before is held

pub below_extent : (id extent : ℕ) (cs : List Front) (o : ℕ) → o < extent → is_held_by id extent cs o ≡ true
below_extent id extent cs o less = ap (λ (b : Bool). b || nat_lt (o % 4096) (filled id (o / 4096) cs)) (is_less o extent less)

pub in_chunk : (id extent : ℕ) (cs : List Front) (o : ℕ) → o % 4096 < filled id (o / 4096) cs → is_held_by id extent cs o ≡ true
in_chunk id extent cs o less = ap (λ (b : Bool). nat_lt o extent || b) (is_less (o % 4096) (filled id (o / 4096) cs) less) ∙ by (nat_lt o extent)
  where
    by : (b : Bool) → (b || true) ≡ true
    by true = refl
    by false = refl

same_chunk : (at o : ℕ) → at ≤ o → o < (at / 4096 + 1) * 4096 → o / 4096 ≡ at / 4096
same_chunk at o from to = omega (arith, from, to)

place_in : (at o n : ℕ) → at ≤ o → o < at / 4096 * 4096 + n → n ≤ 4096 → o % 4096 < n
place_in at o n from to few = omega (arith, from, to, few)

chunk_end : (at o n : ℕ) → o < at / 4096 * 4096 + n → n ≤ 4096 → o < (at / 4096 + 1) * 4096
chunk_end at o n to few = omega (arith, to, few)

held_in : (id extent : ℕ) (cs : List Front) (at o : ℕ) → Fronts id cs → at ≤ o → o < at / 4096 * 4096 + filled id (at / 4096) cs → is_held_by id extent cs o ≡ true
held_in id extent cs at o fronts from to =
    in_chunk id extent cs o
    (subst (λ (k : ℕ). o % 4096 < filled id k cs) (sym (same_chunk at o from (chunk_end at o (filled id (at / 4096) cs) to (fronts (at / 4096)))))
    (place_in at o (filled id (at / 4096) cs) from to (fronts (at / 4096))))

held_step : (more id extent : ℕ) (cs : List Front) (at o : ℕ) → Fronts id cs → ((to : ℕ) → to ≤ o → o < reach more id extent cs to → is_held_by id extent cs o ≡ true) → (under there whole : Bool) → nat_lt at extent ≡ under
    → nat_lt (at % 4096) (filled id (at / 4096) cs) ≡ there → (filled id (at / 4096) cs == 4096) ≡ whole → at ≤ o → o < stepped more id extent cs at under there whole → is_held_by id extent cs o ≡ true
held_step more id extent cs at o fronts rest true there whole e f g from to = by (cases_lt o extent)
  where
    by : (o < extent) ⊎ (extent ≤ o) → is_held_by id extent cs o ≡ true
    by (inl less) = below_extent id extent cs o less
    by (inr behind) = rest extent behind to
held_step more id extent cs at o fronts rest false false whole e f g from to = absurd (omega (arith, from, to))
held_step more id extent cs at o fronts rest false true true e f g from to = by (cases_lt o ((at / 4096 + 1) * 4096))
  where
    full : (n : ℕ) → n ≡ 4096 → o < (at / 4096 + 1) * 4096 → o < at / 4096 * 4096 + n
    full n is less = omega (arith, is, less)

    by : (o < (at / 4096 + 1) * 4096) ⊎ ((at / 4096 + 1) * 4096 ≤ o) → is_held_by id extent cs o ≡ true
    by (inl less) = held_in id extent cs at o fronts from (full (filled id (at / 4096) cs) (is_same (filled id (at / 4096) cs) 4096 g) less)
    by (inr behind) = rest ((at / 4096 + 1) * 4096) behind to
held_step more id extent cs at o fronts rest false true false e f g from to = held_in id extent cs at o fronts from to

pub reach_held : (more id extent : ℕ) (cs : List Front) (o : ℕ) → Fronts id cs → (at : ℕ) → at ≤ o → o < reach more id extent cs at → is_held_by id extent cs o ≡ true
reach_held zero id extent cs o fronts at from to = absurd (omega (arith, from, to))
reach_held (suc more) id extent cs o fronts at from to =
    held_step more id extent cs at o fronts (reach_held more id extent cs o fronts) (nat_lt at extent) (nat_lt (at % 4096) (filled id (at / 4096) cs)) (filled id (at / 4096) cs == 4096) refl refl refl from to

-- ---- it ends where nothing is held

-- so many steps it may take
abbrev steps : ℕ → ℕ → ℕ → ℕ
steps extent n at = chunks_in n - at / 4096 + cond (nat_lt at extent) 1 0

not_held : (id extent : ℕ) (cs : List Front) (o n : ℕ) → extent ≤ o → filled id (o / 4096) cs ≡ n → n ≤ o % 4096 → is_held_by id extent cs o ≡ false
not_held id extent cs o n behind is more =
    ap (λ (b : Bool). b || nat_lt (o % 4096) (filled id (o / 4096) cs)) (isnt_less o extent behind) ∙ ap (λ (k : ℕ). nat_lt (o % 4096) k) is ∙ isnt_less (o % 4096) n more

ends_step : (more id extent : ℕ) (cs : List Front) (n at : ℕ) → Fronts id cs → at < n → ((to : ℕ) → steps extent n to + 1 ≤ more → reach more id extent cs to < n → is_held_by id extent cs (reach more id extent cs to) ≡ false)
    → (under there whole : Bool) → nat_lt at extent ≡ under → nat_lt (at % 4096) (filled id (at / 4096) cs) ≡ there → (filled id (at / 4096) cs == 4096) ≡ whole → chunks_in n - at / 4096 + cond under 1 0 + 1 ≤ suc more
    → stepped more id extent cs at under there whole < n → is_held_by id extent cs (stepped more id extent cs at under there whole) ≡ false
ends_step more id extent cs n at fronts in_it rest true there whole e f g enough to = rest extent (fewer (less_is at extent e) (at_extent (nat_lt extent extent) (isnt_less extent extent (omega arith)))) to
  where
    at_extent : (b : Bool) → b ≡ false → cond {A = ℕ} b 1 0 ≡ 0
    at_extent b is = ap (λ (c : Bool). cond {A = ℕ} c 1 0) is

    fewer : at < extent → cond {A = ℕ} (nat_lt extent extent) 1 0 ≡ 0 → steps extent n extent + 1 ≤ more
    fewer less none = omega (arith, less, none, enough)
ends_step more id extent cs n at fronts in_it rest false false whole e f g enough to = not_held id extent cs at (filled id (at / 4096) cs) (less_isnt at extent e) refl (less_isnt (at % 4096) (filled id (at / 4096) cs) f)
ends_step more id extent cs n at fronts in_it rest false true true e f g enough to = rest ((at / 4096 + 1) * 4096) (fewer (none (isnt_less ((at / 4096 + 1) * 4096) extent (behind (less_isnt at extent e))))) to
  where
    behind : extent ≤ at → extent ≤ (at / 4096 + 1) * 4096
    behind less = omega (arith, less)

    none : nat_lt ((at / 4096 + 1) * 4096) extent ≡ false → cond {A = ℕ} (nat_lt ((at / 4096 + 1) * 4096) extent) 1 0 ≡ 0
    none is = ap (λ (c : Bool). cond {A = ℕ} c 1 0) is

    next_index : (at / 4096 + 1) * 4096 / 4096 ≡ at / 4096 + 1
    next_index = omega arith

    fewer : cond {A = ℕ} (nat_lt ((at / 4096 + 1) * 4096) extent) 1 0 ≡ 0 → steps extent n ((at / 4096 + 1) * 4096) + 1 ≤ more
    fewer zero_more = omega (arith, zero_more, next_index, enough, in_it)
ends_step more id extent cs n at fronts in_it rest false true false e f g enough to =
    not_held id extent cs (at / 4096 * 4096 + filled id (at / 4096) cs) (filled id (at / 4096) cs) (omega (arith, less_isnt at extent e, there))
    (ap (λ (k : ℕ). filled id k cs) (index (filled id (at / 4096) cs) part)) (place (filled id (at / 4096) cs) part)
  where
    there : at % 4096 < filled id (at / 4096) cs
    there = less_is (at % 4096) (filled id (at / 4096) cs) f

    part : filled id (at / 4096) cs < 4096
    part = isnt_same (filled id (at / 4096) cs) 4096 g (fronts (at / 4096))

    index : (k : ℕ) → k < 4096 → (at / 4096 * 4096 + k) / 4096 ≡ at / 4096
    index k few = omega (arith, few)

    place : (k : ℕ) → k < 4096 → k ≤ (at / 4096 * 4096 + k) % 4096
    place k few = omega (arith, few)

pub reach_ends : (more id extent : ℕ) (cs : List Front) (n : ℕ) → Fronts id cs → (at : ℕ) → steps extent n at + 1 ≤ more → reach more id extent cs at < n → is_held_by id extent cs (reach more id extent cs at) ≡ false
reach_ends zero id extent cs n fronts at enough to = absurd (omega (arith, enough))
reach_ends (suc more) id extent cs n fronts at enough to =
    ends_step more id extent cs n at fronts (in_it (reach_on (suc more) id extent cs at)) (reach_ends more id extent cs n fronts) (nat_lt at extent) (nat_lt (at % 4096) (filled id (at / 4096) cs)) (filled id (at / 4096) cs == 4096) refl refl refl
    enough to
  where
    in_it : at ≤ reach (suc more) id extent cs at → at < n
    in_it on = omega (arith, on, to)

pub enough_steps : (extent n at : ℕ) → steps extent n at + 1 ≤ chunks_in n + 2
enough_steps extent n at = by (nat_lt at extent)
  where
    by : (b : Bool) → chunks_in n - at / 4096 + cond b 1 0 + 1 ≤ chunks_in n + 2
    by true = omega arith
    by false = omega arith
