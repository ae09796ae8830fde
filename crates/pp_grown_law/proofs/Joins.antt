-- What is in memory where chunks are used, and where bytes join: it was, or it is one of them.
use Rattle.std.proofs.Common.{◌≡◌, ◌<◌, ◌≤◌, refl, sym, subst, ap, ap₂, ◌∙◌, ℕ, zero, suc, ◌+◌, ◌-◌, ◌/◌, ◌%◌, ◌==◌, Bool, true, false, ◌&&◌, ◌||◌, not, cond, List, [], ◌∷◌, ◌++◌, length, take, drop, filter, arith}
use Rattle.std.proofs.lemmas.List.{length-append, length-drop, length-take}
use Rattle.std.proofs.lemmas.List.Elements.{filter-append}
use Rattle.std.proofs.lemmas.Bool.Decides.{nat_tests}
use Rattle.std.specs.List.{fold}
use Rattle.std.specs.Prelude.{nat_le, nat_lt}
use Rattle.pp_cache.specs.Memory.{is_in_memory}
use Rattle.pp_cache.specs.Uses.{used_at, used_run}
use Rattle.pp_cache_law.proofs.Numbers.{is_same}
use Rattle.pp_holes.proofs.Map.{joined-here, joined-there}
use Rattle.pp_holes.specs.Adding.{Adding, add_run, added, is_stopped, join_run, joined_if, part_of_run, room_at, runs_up_to}
use Rattle.pp_holes.specs.Places.{Chunk, bytes_at, first_bytes, is_at, is_elsewhere, joined, touched}
use Rattle.pp_laws.proofs.Tests.{below, first_holds, second_holds}
use Rattle.pp_text.specs.Bytes.{is_empty}
use Rattle.pp_grown_law.proofs.Bytes.{apart_of}
use Rattle.pp_grown_law.proofs.Rows.{filter_kept, filter_out}

-- ---- chunks are used

not_both : (b : Bool) → not b ≡ true → b ≡ false
not_both true e = absurd (cc e)
not_both false e = refl

elsewhere_so : (b : Bool) → b ≡ false → not b ≡ true
elsewhere_so true e = absurd (cc e)
elsewhere_so false e = refl

at_of : (p w : ℕ × ℕ) → ((p.0 == w.0) && (p.1 == w.1)) ≡ true → p ≡ w
at_of p w is = ap₂ (λ (a b : ℕ). (a, b)) (is_same p.0 w.0 (first_holds (p.0 == w.0) (p.1 == w.1) is)) (is_same p.1 w.1 (second_holds (p.0 == w.0) (p.1 == w.1) is))

touched_same : (p w : ℕ × ℕ) (cs : List Chunk) → bytes_at p (touched w cs) ≡ bytes_at p cs
touched_same p w cs = ap first_bytes (filter-append (is_at p) (filter (is_elsewhere w) cs) (filter (is_at w) cs) ∙ by ((p.0 == w.0) && (p.1 == w.1)) refl)
  where
    none_before : (ds es : List Chunk) → ds ≡ [] → es ≡ filter (is_at p) cs → ds ++ es ≡ filter (is_at p) cs
    none_before ds es none is = ap (λ (xs : List Chunk). xs ++ es) none ∙ is

    none_behind : (ds es : List Chunk) → ds ≡ filter (is_at p) cs → es ≡ [] → ds ++ es ≡ filter (is_at p) cs
    none_behind ds es is none = ap (λ (xs : List Chunk). ds ++ xs) none ∙ joined_none ds ∙ is
      where
        joined_none : (xs : List Chunk) → xs ++ [] ≡ xs
        joined_none [] = refl
        joined_none (x ∷ xs) = ap (λ (ys : List Chunk). x ∷ ys) (joined_none xs)

    here : p ≡ w → filter (is_at p) (filter (is_elsewhere w) cs) ++ filter (is_at p) (filter (is_at w) cs) ≡ filter (is_at p) cs
    here same = subst (λ (v : ℕ × ℕ). filter (is_at p) (filter (is_elsewhere v) cs) ++ filter (is_at p) (filter (is_at v) cs) ≡ filter (is_at p) cs) same
        (none_before _ _ (filter_out (is_at p) (is_elsewhere p) cs (λ c out. not_both (is_at p c) out)) (filter_kept (is_at p) (is_at p) cs (λ c is. is)))

    by : (b : Bool) → ((p.0 == w.0) && (p.1 == w.1)) ≡ b → filter (is_at p) (filter (is_elsewhere w) cs) ++ filter (is_at p) (filter (is_at w) cs) ≡ filter (is_at p) cs
    by true is = here (at_of p w is)
    by false apart =
        none_behind _ _ (filter_kept (is_at p) (is_elsewhere w) cs (λ c is. elsewhere_so (is_at w c) (off c is (is_at w c) refl)))
        (filter_out (is_at p) (is_at w) cs (λ c is. apart_of p w apart c is))
      where
        off : (c : Chunk) → is_at p c ≡ true → (b : Bool) → is_at w c ≡ b → b ≡ false
        off c is true at = absurd (let both : true ≡ false = sym is ∙ apart_of p w apart c at in cc both)
        off c is false at = refl

used_same : (p w : ℕ × ℕ) (cs : List Chunk) → bytes_at p (used_at w cs) ≡ bytes_at p cs
unfolding used_at
used_same p w cs = by (is_empty (bytes_at w cs))
  where
    by : (b : Bool) → bytes_at p (cond b cs (touched w cs)) ≡ bytes_at p cs
    by true = refl
    by false = touched_same p w cs

run_same : (more slot index : ℕ) (p : ℕ × ℕ) (cs : List Chunk) → bytes_at p (used_run more slot index cs) ≡ bytes_at p cs
unfolding used_run
run_same zero slot index p cs = refl
run_same (suc more) slot index p cs = run_same more slot (index + 1) p (used_at (slot, index) cs) ∙ used_same p (slot, index) cs

pub held_used : (more owner index slot o : ℕ) (cs : List Chunk) → is_in_memory slot o (used_run more owner index cs) ≡ true → is_in_memory slot o cs ≡ true
held_used more owner index slot o cs held = ap (λ (bs : List ℕ). nat_lt (o % 4096) (length bs)) (sym (run_same more owner index (slot, o / 4096) cs)) ∙ held

-- ---- bytes join

-- it was there, or is one of these offsets of the owner
pub data WasOrJoins (cs : List Chunk) (owner low high slot o : ℕ) : Type 0 where
  before : is_in_memory slot o cs ≡ true → WasOrJoins cs owner low high slot o
  among : slot ≡ owner → low ≤ o → o < high → WasOrJoins cs owner low high slot o

under : (n m : ℕ) → n < m → nat_lt n m ≡ true
under n m less = grind (arith, nat_tests, less)

-- a byte of a run, behind the front that is held
in_run : (o a front long part : ℕ) → o / 4096 ≡ a / 4096 → a % 4096 ≤ front → part ≡ long - (front - a % 4096) → 0 < part → front ≤ o % 4096 → o % 4096 < front + part → (a ≤ o) × (o < a + long)
in_run o a front long part same near is some above less = (omega (arith, same, near, above), omega (arith, same, near, is, some, above, less))

run_joins : (owner a : ℕ) (run : List ℕ) (cs : List Chunk) (slot o : ℕ) → is_in_memory slot o (join_run owner (a, run) cs) ≡ true → WasOrJoins cs owner a (a + length run) slot o
run_joins owner a run cs slot o held = by (part_of_run owner (a, run) cs) refl held
  where
    front : ℕ
    front = length (bytes_at (owner, a / 4096) cs)

    by : (bs : List ℕ) → part_of_run owner (a, run) cs ≡ bs → is_in_memory slot o (joined_if (owner, a / 4096) bs cs) ≡ true → WasOrJoins cs owner a (a + length run) slot o
    by [] part now = before now
    by (b ∷ bs) part now = at ((slot == owner) && (o / 4096 == a / 4096)) refl
      where
        here : slot ≡ owner → o / 4096 ≡ a / 4096 → WasOrJoins cs owner a (a + length run) slot o
        here its index = near (nat_le (a % 4096) front) refl (nat_lt (o % 4096) front) refl
          where
            place : ◌≡◌ {A = ℕ × ℕ} (slot, o / 4096) (owner, a / 4096)
            place = ap₂ (λ (c d : ℕ). (c, d)) its index

            long : length (bytes_at (slot, o / 4096) (joined (owner, a / 4096) (b ∷ bs) cs)) ≡ front + length (b ∷ bs)
            long = ap (λ (p : ℕ × ℕ). length (bytes_at p (joined (owner, a / 4096) (b ∷ bs) cs))) place ∙ ap (λ (xs : List ℕ). length xs) (joined-here (owner, a / 4096) (b ∷ bs) cs) ∙ length-append (bytes_at (owner, a / 4096) cs) (b ∷ bs)

            less : o % 4096 < front + length (b ∷ bs)
            less = subst (λ (n : ℕ). o % 4096 < n) long (below (o % 4096) _ now)

            was : o % 4096 < front → WasOrJoins cs owner a (a + length run) slot o
            was low = before (ap (λ (p : ℕ × ℕ). nat_lt (o % 4096) (length (bytes_at p cs))) place ∙ under (o % 4096) front low)

            near : (c : Bool) → nat_le (a % 4096) front ≡ c → (d : Bool) → nat_lt (o % 4096) front ≡ d → WasOrJoins cs owner a (a + length run) slot o
            near false far d is = absurd (let both : [] ≡ b ∷ bs = ap (λ (c : Bool). cond c (drop (front - a % 4096) run) []) (sym far) ∙ part in cc both)
            near true close true is = was (below (o % 4096) front is)
            near true close false is =
                let size : length (b ∷ bs) ≡ length run - (front - a % 4096) = ap (λ (xs : List ℕ). length xs) (sym part ∙ ap (λ (c : Bool). cond c (drop (front - a % 4096) run) []) close) ∙ length-drop (front - a % 4096) run in
                let above : front ≤ o % 4096 = grind (arith, nat_tests, is) in
                let within : a % 4096 ≤ front = grind (arith, nat_tests, close) in
                let both : (a ≤ o) × (o < a + length run) = in_run o a front (length run) (length (b ∷ bs)) index within size (omega arith) above less in
                among its both.0 both.1

        at : (c : Bool) → ((slot == owner) && (o / 4096 == a / 4096)) ≡ c → WasOrJoins cs owner a (a + length run) slot o
        at true is = here (is_same slot owner (first_holds (slot == owner) (o / 4096 == a / 4096) is)) (is_same (o / 4096) (a / 4096) (second_holds (slot == owner) (o / 4096 == a / 4096) is))
        at false apart = before (ap (λ (xs : List ℕ). nat_lt (o % 4096) (length xs)) (sym (joined-there (slot, o / 4096) (owner, a / 4096) (b ∷ bs) cs (apart_of (slot, o / 4096) (owner, a / 4096) apart))) ∙ now)

-- one run, where adding did not stop
step_joins : (size owner a : ℕ) (run : List ℕ) (c : Adding) (low high slot o : ℕ) → low ≤ a → a + length run ≤ high → is_in_memory slot o (add_run size owner c (a, run)).chunks ≡ true → WasOrJoins c.chunks owner low high slot o
step_joins size owner a run c low high slot o least most held = by (c.need_chunk || is_stopped size owner (a, run) c.chunks) held
  where
    wider : WasOrJoins c.chunks owner a (a + length run) slot o → WasOrJoins c.chunks owner low high slot o
    wider (before was) = before was
    wider (among its above less) = among its (omega (arith, least, above)) (omega (arith, most, less))

    by : (b : Bool) → is_in_memory slot o (cond b (record c { need_chunk = true }) (record { chunks = join_run owner (a, run) c.chunks; joined = c.joined + length (part_of_run owner (a, run) c.chunks); ignored = c.ignored + (length run - length (part_of_run owner (a, run) c.chunks)); need_chunk = false })).chunks ≡ true → WasOrJoins c.chunks owner low high slot o
    by true was = before was
    by false now = wider (run_joins owner a run c.chunks slot o now)

runs_join : (n size owner at : ℕ) (bytes : List ℕ) (c : Adding) (low high slot o : ℕ) → low ≤ at → (0 < length bytes → at + length bytes ≤ high) → is_in_memory slot o (fold (add_run size owner) c (runs_up_to n at bytes)).chunks ≡ true
    → WasOrJoins c.chunks owner low high slot o
runs_join zero size owner at bytes c low high slot o least most held = before held
runs_join (suc n) size owner at [] c low high slot o least most held = before held
runs_join (suc n) size owner at (b ∷ bytes) c low high slot o least most held =
    then (runs_join n size owner (at + room_at at) (drop (room_at at) (b ∷ bytes)) (add_run size owner c (at, take (room_at at) (b ∷ bytes))) low high slot o (omega (arith, least)) rest held)
  where
    all : at + length (b ∷ bytes) ≤ high
    all = most (omega arith)

    first : at + length (take (room_at at) (b ∷ bytes)) ≤ high
    first = omega (arith, length-take (room_at at) (b ∷ bytes), all)

    rest : 0 < length (drop (room_at at) (b ∷ bytes)) → at + room_at at + length (drop (room_at at) (b ∷ bytes)) ≤ high
    rest some = omega (arith, length-drop (room_at at) (b ∷ bytes), all, some)

    then : WasOrJoins (add_run size owner c (at, take (room_at at) (b ∷ bytes))).chunks owner low high slot o → WasOrJoins c.chunks owner low high slot o
    then (before was) = step_joins size owner at (take (room_at at) (b ∷ bytes)) c low high slot o least first was
    then (among its above less) = among its above less

pub held_added : (size owner at : ℕ) (bytes : List ℕ) (cs : List Chunk) (slot o : ℕ) → is_in_memory slot o (added size owner at bytes cs).chunks ≡ true → WasOrJoins cs owner at (at + length bytes) slot o
held_added size owner at bytes cs slot o held = runs_join (length bytes) size owner at bytes (record { chunks = cs; joined = 0; ignored = 0; need_chunk = false }) at (at + length bytes) slot o (omega arith) (λ some. omega arith) held
