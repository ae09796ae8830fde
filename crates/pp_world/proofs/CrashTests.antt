-- The test says exactly what a crash may leave of a file.
use Rattle.std.proofs.Common.{◌≡◌, ◌⊎◌, ⊎_elim, ℕ, zero, suc, ◌<◌, ◌≤◌, Bool, true, false, length, get_or, refl, sym, subst, arith}
use Rattle.std.specs.Prelude.{nat_le, ◌==◌, ◌&&◌, ◌||◌}
use Rattle.std.proofs.lemmas.Bool.Decides.{nat_tests}
use Rattle.pp_world.specs.Disk.{Bytes, Stored, IsLeft, is_loose, same_below, is_left}

both_of : (a b : Bool) → (a && b) ≡ true → (a ≡ true) × (b ≡ true)
both_of true b is = (refl, is)
both_of false b is = absurd (cc)

and_both : (a b : Bool) → a ≡ true → b ≡ true → (a && b) ≡ true
and_both true b one two = two
and_both false b one two = absurd (cc)

first_of_two : (a b : Bool) → (a || b) ≡ true → b ≡ false → a ≡ true
first_of_two true b is no_b = refl
first_of_two false b is no_b = absurd (cc)

is_either : (a b : Bool) → (b ≡ false → a ≡ true) → (a || b) ≡ true
is_either true b step = refl
is_either false true step = refl
is_either false false step = absurd (let bad : false ≡ true = step refl in cc)

le_of : (a b : ℕ) → nat_le a b ≡ true → a ≤ b
le_of a b is = grind (arith, nat_tests)

of_le : (a b : ℕ) → a ≤ b → nat_le a b ≡ true
of_le a b is = grind (arith, nat_tests)

eq_of : (a b : ℕ) → (a == b) ≡ true → a ≡ b
eq_of a b is = grind (arith, nat_tests)

of_eq : (a b : ℕ) → a ≡ b → (a == b) ≡ true
of_eq a b is = grind (arith, nat_tests)

last_or_before : (o k : ℕ) → o < suc k → (o ≡ k) ⊎ (o < k)
last_or_before o k lt = grind arith

below_same : (k : ℕ) (f : Stored) (c : Bytes) → same_below k f c ≡ true → (o : ℕ) → o < k → is_loose o f.loose ≡ false → get_or c o 0 ≡ get_or f.bytes o 0
below_same zero f c is o lt tight = absurd (omega (arith, lt))
below_same (suc k) f c is o lt tight =
    let parts = both_of ((get_or c k 0 == get_or f.bytes k 0) || is_loose k f.loose) (same_below k f c) is in
    ⊎_elim
    (λ (here : o ≡ k). let loose_k : is_loose k f.loose ≡ false = subst (λ (j : ℕ). is_loose j f.loose ≡ false) here tight in
    subst (λ (j : ℕ). get_or c j 0 ≡ get_or f.bytes j 0) (sym here) (eq_of (get_or c k 0) (get_or f.bytes k 0) (first_of_two (get_or c k 0 == get_or f.bytes k 0) (is_loose k f.loose) parts.0 loose_k)))
    (λ (before : o < k). below_same k f c parts.1 o before tight)
    (last_or_before o k lt)

same_to_below : (k : ℕ) (f : Stored) (c : Bytes) → ((o : ℕ) → o < k → is_loose o f.loose ≡ false → get_or c o 0 ≡ get_or f.bytes o 0) → same_below k f c ≡ true
same_to_below zero f c same = refl
same_to_below (suc k) f c same = and_both ((get_or c k 0 == get_or f.bytes k 0) || is_loose k f.loose) (same_below k f c)
    (is_either (get_or c k 0 == get_or f.bytes k 0) (is_loose k f.loose) (λ tight. of_eq (get_or c k 0) (get_or f.bytes k 0) (same k (omega arith) tight)))
    (same_to_below k f c (λ o lt tight. same o (omega (arith, lt)) tight))

pub is_left-sound : (f : Stored) (c : Bytes) → is_left f c ≡ true → IsLeft f c
is_left-sound f c is =
    let parts = both_of (nat_le f.synced (length c) && nat_le (length c) f.end) (same_below f.synced f c) is in
    let lens = both_of (nat_le f.synced (length c)) (nat_le (length c) f.end) parts.0 in
    record { no_shorter = le_of f.synced (length c) lens.0; no_longer = le_of (length c) f.end lens.1; same = λ o lt tight. below_same f.synced f c parts.1 o lt tight }

pub is_left-whole : (f : Stored) (c : Bytes) → IsLeft f c → is_left f c ≡ true
is_left-whole f c left = and_both (nat_le f.synced (length c) && nat_le (length c) f.end) (same_below f.synced f c)
    (and_both (nat_le f.synced (length c)) (nat_le (length c) f.end) (of_le f.synced (length c) left.no_shorter) (of_le (length c) f.end left.no_longer))
    (same_to_below f.synced f c (λ o lt tight. left.same o lt tight))
