-- How many chunks there are where some join, go or are used, and that no two are of one place.
use Rattle.std.proofs.Common.{◌≡◌, ◌⊎◌, refl, ℕ, zero, suc, ◌+◌, ◌-◌, ◌*◌, ◌/◌, ◌%◌, ◌≤◌, nat_le, nat_lt, Bool, true, false, not, ◌==◌, ◌&&◌, ◌||◌, List, [], ◌∷◌, ◌++◌, map, filter, find, cond, length, take, drop, is_some, option_map, Option, Some, None, inl, inr, sym, subst, ap, ◌∙◌, zero-le, le_refl, le_trans, arith}
use Rattle.std.specs.List.{list_any}
use Rattle.std.proofs.lemmas.Bool.Decides.{nat_tests}
use Rattle.pp_evict.specs.Victims.{victim_in}
use Rattle.pp_pool.specs.Chunks.{Used, is_pinned, is_place, oldest_in, place_of}
use Rattle.pp_text.specs.Bytes.{is_empty}
use Rattle.pp_law.specs.Chunks.{is_chunk, chunk_len, put_chunk, put_joining, join_run, join_runs, joined, joining, filled, chunk_bytes, to_chunk_end, used_of}
use Rattle.pp_law.specs.Lists.{Bytes}
use Rattle.pp_law.specs.State.{Chunk}
use Rattle.pp_laws.specs.Runs.{IsIn}
use Rattle.pp_laws.proofs.Lists.{in_filter, in_find, in_push}
use Rattle.pp_laws.proofs.Tests.{first_holds, number_same, same_number, second_holds}
use Rattle.pp_laws_bounds.proofs.Counts.{length-filter, length-map, length-push}
use Rattle.pp_laws_bounds.proofs.Pigeons.{count-out}

-- ---- each is of a place of its own

abbrev pub IsElsewhere : Chunk → List Chunk → Type 0
IsElsewhere c cs = (d : Chunk) → IsIn d cs → is_chunk c.instance c.index d ≡ false

abbrev pub AreApart : List Chunk → Type 0
AreApart [] = Unit {0}
AreApart (c ∷ cs) = IsElsewhere c cs × AreApart cs

apart_by : (test : Chunk → Bool) (c : Chunk) (cs : List Chunk) (t : Bool) → IsElsewhere c cs → AreApart (filter test cs) → AreApart (cond t (c ∷ filter test cs) (filter test cs))
apart_by test c cs true away rest = (λ d i. away d (in_filter test d cs i).0, rest)
apart_by test c cs false away rest = rest

pub apart_filter : (test : Chunk → Bool) (cs : List Chunk) → AreApart cs → AreApart (filter test cs)
apart_filter test [] apart = tt
apart_filter test (c ∷ cs) apart = apart_by test c cs (test c) apart.0 (apart_filter test cs apart.1)

-- two of one place see the same others
is_chunk_back : (c d : Chunk) → is_chunk d.instance d.index c ≡ false → is_chunk c.instance c.index d ≡ false
is_chunk_back c d is = grind (arith, nat_tests)

apart_push : (cs : List Chunk) (new : Chunk) → AreApart cs → ((d : Chunk) → IsIn d cs → is_chunk new.instance new.index d ≡ false) → AreApart (cs ++ new ∷ [])
apart_push [] new apart away = (λ d i. absurd i, tt)
apart_push (c ∷ cs) new apart away = (λ d i. by d (in_push d cs new i), apart_push cs new apart.1 (λ d i. away d (inr i)))
  where
    by : (d : Chunk) → IsIn d cs ⊎ (d ≡ new) → is_chunk c.instance c.index d ≡ false
    by d (inl i) = apart.0 d i
    by d (inr e) = subst (λ (x : Chunk). is_chunk c.instance c.index x ≡ false) (sym e) (is_chunk_back c new (away c (inl refl)))

not_so : (t : Bool) → not t ≡ true → t ≡ false
not_so true is = absurd (cc is)
not_so false is = refl

pub put_apart : (id i : ℕ) (bytes : Bytes) (cs : List Chunk) → AreApart cs → AreApart (put_chunk id i bytes cs)
put_apart id i bytes cs apart = apart_push (filter (λ c. not (is_chunk id i c)) cs) (record { instance = id; index = i; bytes = bytes }) (apart_filter (λ c. not (is_chunk id i c)) cs apart) (λ d j. not_so (is_chunk id i d) (in_filter (λ c. not (is_chunk id i c)) d cs j).1)

-- ---- how many

pub put_length : (id i : ℕ) (bytes : Bytes) (cs : List Chunk) → length (put_chunk id i bytes cs) ≡ length (filter (λ c. not (is_chunk id i c)) cs) + 1
put_length id i bytes cs = length-push (filter (λ c. not (is_chunk id i c)) cs) (record { instance = id; index = i; bytes = bytes })

pub put_one : (id i : ℕ) (bytes : Bytes) (cs : List Chunk) → length (put_chunk id i bytes cs) ≤ length cs + 1
put_one id i bytes cs = let e = put_length id i bytes cs in let le = length-filter (λ c. not (is_chunk id i c)) cs in omega arith

-- one that is there is moved
pub used_length : (id i : ℕ) (bytes : Bytes) (c : Chunk) (cs : List Chunk) → find (is_chunk id i) cs ≡ Some c → length (put_chunk id i bytes cs) ≤ length cs
used_length id i bytes c cs found =
    let there = in_find (is_chunk id i) c cs found in
    let out : length (filter (λ (d : Chunk). true) (filter (λ d. not (is_chunk id i d)) cs)) + 1 ≤ length (filter (λ (d : Chunk). true) cs) = count-out (λ (d : Chunk). true) (λ d. not (is_chunk id i d)) c cs there.0 refl (ap not there.1) in
    let one : length (filter (λ (d : Chunk). true) cs) ≤ length cs = length-filter (λ (d : Chunk). true) cs in
    let e = put_length id i bytes cs in
    let same = all_pass (filter (λ d. not (is_chunk id i d)) cs) in
    omega arith
  where
    all_pass : (ds : List Chunk) → length (filter (λ (d : Chunk). true) ds) ≡ length ds
    all_pass [] = refl
    all_pass (d ∷ ds) = let e : length (filter (λ (x : Chunk). true) ds) ≡ length ds = all_pass ds in grind arith

-- ---- what joins

record Joins (cs ds : List Chunk) (n : ℕ) : Type 0 where
  few : length ds ≤ length cs + n
  apart : AreApart cs → AreApart ds

put_joins : (id i : ℕ) (bytes : Bytes) (cs : List Chunk) → Joins cs (put_joining id i bytes cs) 1
put_joins id i bytes cs = by (is_empty bytes)
  where
    by : (t : Bool) → Joins cs (elim t as (λ c. List Chunk) [ true ↦ cs | false ↦ put_chunk id i (chunk_bytes id i cs ++ bytes) cs ]) 1
    by true = record { few = omega arith; apart = λ h. h }
    by false = record { few = put_one id i (chunk_bytes id i cs ++ bytes) cs; apart = put_apart id i (chunk_bytes id i cs ++ bytes) cs }

run_joins : (id extent at : ℕ) (run : Bytes) (cs : List Chunk) → Joins cs (join_run id extent at run cs) 1
run_joins id extent at run cs = by (nat_lt at extent)
  where
    by : (t : Bool) → Joins cs (elim t as (λ c. List Chunk) [ true ↦ cs | false ↦ put_joining id (at / chunk_len) (joining (at % chunk_len) (filled id (at / chunk_len) cs) run) cs ]) 1
    by true = record { few = omega arith; apart = λ h. h }
    by false = put_joins id (at / chunk_len) (joining (at % chunk_len) (filled id (at / chunk_len) cs) run) cs

runs_join : (more id extent at : ℕ) (bytes : Bytes) (cs : List Chunk) → Joins cs (join_runs more id extent at bytes cs) more
runs_join zero id extent at bytes cs = record { few = omega arith; apart = λ h. h }
runs_join (suc more) id extent at bytes cs = by (is_empty bytes) (run_joins id extent at (take (to_chunk_end at) bytes) cs) (runs_join more id extent (at + to_chunk_end at) (drop (to_chunk_end at) bytes) (join_run id extent at (take (to_chunk_end at) bytes) cs))
  where
    by : (t : Bool) → Joins cs (join_run id extent at (take (to_chunk_end at) bytes) cs) 1
        → Joins (join_run id extent at (take (to_chunk_end at) bytes) cs) (join_runs more id extent (at + to_chunk_end at) (drop (to_chunk_end at) bytes) (join_run id extent at (take (to_chunk_end at) bytes) cs)) more
        → Joins cs (elim t as (λ c. List Chunk) [ true ↦ cs | false ↦ join_runs more id extent (at + to_chunk_end at) (drop (to_chunk_end at) bytes) (join_run id extent at (take (to_chunk_end at) bytes) cs) ]) (suc more)
    by true one rest = record { few = omega arith; apart = λ h. h }
    by false one rest = record { few = let a = one.few in let b = rest.few in omega arith; apart = λ h. rest.apart (one.apart h) }

-- so many bytes are of so many chunks at most
pub joined_few : (id extent at : ℕ) (bytes : Bytes) (cs : List Chunk) → length (joined id extent at bytes cs) ≤ length cs + (length bytes / 4096 + 2)
joined_few id extent at bytes cs = (runs_join (length bytes / chunk_len + 2) id extent at bytes cs).few

pub joined_apart : (id extent at : ℕ) (bytes : Bytes) (cs : List Chunk) → AreApart cs → AreApart (joined id extent at bytes cs)
joined_apart id extent at bytes cs = (runs_join (length bytes / chunk_len + 2) id extent at bytes cs).apart

-- ---- where all are pinned there are few

abbrev is_at : ℕ × ℕ → Chunk → Bool
is_at pin c = is_place pin (used_of c)

-- of a place at most one
one_place : (pin : ℕ × ℕ) (cs : List Chunk) → AreApart cs → length cs ≤ length (filter (λ c. not (is_at pin c)) cs) + 1
one_place pin [] apart = zero-le
one_place pin (c ∷ cs) apart = by (is_at pin c) refl (one_place pin cs apart.1)
  where
    others : is_at pin c ≡ true → (ds : List Chunk) → ((d : Chunk) → IsIn d ds → IsIn d cs) → length (filter (λ d. not (is_at pin d)) ds) ≡ length ds
    others is [] into = refl
    others is (d ∷ ds) into = of (is_at pin d) refl (others is ds (λ x i. into x (inr i)))
      where
        of : (t : Bool) → is_at pin d ≡ t → length (filter (λ x. not (is_at pin x)) ds) ≡ length ds → length (cond (not t) (d ∷ filter (λ x. not (is_at pin x)) ds) (filter (λ x. not (is_at pin x)) ds)) ≡ length (d ∷ ds)
        of true hit e = let away : is_chunk c.instance c.index d ≡ false = apart.0 d (into d (inl refl)) in absurd (clash away hit)
          where
            clash : is_chunk c.instance c.index d ≡ false → is_at pin d ≡ true → ⊥
            clash away hits =
                let a : c.instance ≡ pin.0 = same_number c.instance pin.0 (first_holds (c.instance == pin.0) (c.index == pin.1) is) in
                let b : c.index ≡ pin.1 = same_number c.index pin.1 (second_holds (c.instance == pin.0) (c.index == pin.1) is) in
                let both : true ≡ false = sym (subst (λ n. (d.instance == n) && (d.index == c.index) ≡ true) (sym a) (subst (λ n. (d.instance == pin.0) && (d.index == n) ≡ true) (sym b) hits)) ∙ away in
                cc both
        of false isnt e = grind arith

    by : (t : Bool) → is_at pin c ≡ t → length cs ≤ length (filter (λ d. not (is_at pin d)) cs) + 1 → length (c ∷ cs) ≤ length (cond (not t) (c ∷ filter (λ d. not (is_at pin d)) cs) (filter (λ d. not (is_at pin d)) cs)) + 1
    by true is le = let e = others is cs (λ d i. i) in omega arith
    by false isnt le = omega arith

pub pinned_few : (pins : List (ℕ × ℕ)) (cs : List Chunk) → AreApart cs → ((c : Chunk) → IsIn c cs → is_pinned pins (used_of c) ≡ true) → length cs ≤ length pins
pinned_few [] [] apart all = le_refl 0
pinned_few [] (c ∷ cs) apart all = absurd (cc (all c (inl refl)))
pinned_few (pin ∷ pins) cs apart all = let one = one_place pin cs apart in let rest = pinned_few pins (filter (λ c. not (is_at pin c)) cs) (apart_filter (λ c. not (is_at pin c)) cs apart) others in omega arith
  where
    split : (t u : Bool) → (t || u) ≡ true → not t ≡ true → u ≡ true
    split true u is isnt = absurd (cc isnt)
    split false u is isnt = is

    others : (c : Chunk) → IsIn c (filter (λ d. not (is_at pin d)) cs) → is_pinned pins (used_of c) ≡ true
    others c i = let w = in_filter (λ d. not (is_at pin d)) c cs i in split (is_at pin c) (is_pinned pins (used_of c)) (all c w.0) w.1

none_found : (pins : List (ℕ × ℕ)) (cs : List Chunk) → oldest_in pins (map used_of cs) ≡ None → (c : Chunk) → IsIn c cs → is_pinned pins (used_of c) ≡ true
none_found pins [] none c i = absurd i
none_found pins (d ∷ ds) none c i = by (is_pinned pins (used_of d)) refl none i (λ rest j. none_found pins ds rest c j)
  where
    by : (t : Bool) → is_pinned pins (used_of d) ≡ t → cond (not t) (Some (used_of d)) (oldest_in pins (map used_of ds)) ≡ None → (c ≡ d) ⊎ IsIn c ds → (oldest_in pins (map used_of ds) ≡ None → IsIn c ds → is_pinned pins (used_of c) ≡ true) → is_pinned pins (used_of c) ≡ true
    by true is rest (inl e) more = ap (λ (x : Chunk). is_pinned pins (used_of x)) e ∙ is
    by true is rest (inr j) more = more rest j
    by false is rest j more = absurd (cc rest)

-- where none has to go, there are no more than the floor, or than are pinned
pub no_victim : (pins : List (ℕ × ℕ)) (floor : ℕ) (cs : List Chunk) → AreApart cs → victim_in pins floor (map used_of cs) ≡ None → (length cs ≤ floor) ⊎ (length cs ≤ length pins)
no_victim pins floor cs apart none = by (nat_le (length (map used_of cs)) floor) refl none
  where
    nothing : (o : Option Used) → option_map place_of o ≡ None → o ≡ None
    nothing None is = refl
    nothing (Some u) is = absurd (cc is)

    by : (t : Bool) → nat_le (length (map used_of cs)) floor ≡ t → cond t None (option_map place_of (oldest_in pins (map used_of cs))) ≡ None → (length cs ≤ floor) ⊎ (length cs ≤ length pins)
    by true is rest = inl (let e : length (map used_of cs) ≡ length cs = length-map used_of cs in let le : length (map used_of cs) ≤ floor = at_most (length (map used_of cs)) floor is in omega arith)
      where
        at_most : (m n : ℕ) → nat_le m n ≡ true → m ≤ n
        at_most m n at = grind (arith, nat_tests)
    by false is rest = inr (pinned_few pins cs apart (none_found pins cs (nothing (oldest_in pins (map used_of cs)) rest)))
