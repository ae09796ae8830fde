-- Lists in which each text stands once.
use Rattle.std.proofs.Common.{◌≡◌, refl, suc, ◌+◌, ◌≤◌, Bool, true, false, not, List, [], ◌∷◌, length, map, filter, cond, bytes_eq, inl, inr, sym, subst, ap, ◌∙◌, arith}
use Rattle.pp_law.specs.Lists.{Bytes, without}
use Rattle.pp_law.specs.State.{Entry}
use Rattle.pp_laws.specs.Runs.{IsIn}
use Rattle.pp_laws.proofs.Lists.{in_filter}
use Rattle.pp_laws_crash.proofs.Views.{differs, name_same, same_name, unlike}
use Rattle.pp_laws_found.proofs.FoundInv.{into_filter}

abbrev pub AreApart : List Bytes → Type 0
AreApart [] = Unit {0}
AreApart (n ∷ ns) = (IsIn n ns → ⊥) × AreApart ns

apart_by : (p : Bytes → Bool) (n : Bytes) (ns : List Bytes) (b : Bool) → (IsIn n ns → ⊥) → AreApart (filter p ns) → AreApart (cond b (n ∷ filter p ns) (filter p ns))
apart_by p n ns true out rest = ((λ i. out (in_filter p n ns i).0), rest)
apart_by p n ns false out rest = rest

pub apart_filter : (p : Bytes → Bool) (ns : List Bytes) → AreApart ns → AreApart (filter p ns)
apart_filter p [] a = tt
apart_filter p (n ∷ ns) a = apart_by p n ns (p n) a.0 (apart_filter p ns a.1)

not_true : (b : Bool) → not b ≡ true → b ≡ false
not_true true is = absurd (cc is)
not_true false is = refl

pub out_of : (n : Bytes) (ns : List Bytes) → IsIn n (without (bytes_eq n) ns) → ⊥
out_of n ns i = differs n n (not_true (bytes_eq n n) (in_filter (λ m. not (bytes_eq n m)) n ns i).1) refl

pub apart_push : (n : Bytes) (ns : List Bytes) → AreApart ns → AreApart (n ∷ without (bytes_eq n) ns)
apart_push n ns a = (out_of n ns, apart_filter (λ m. not (bytes_eq n m)) ns a)

-- ---- how many

out_by : (n m : Bytes) (ms : List Bytes) (b : Bool) → bytes_eq n m ≡ b → ((b ≡ false) → length (filter (λ k. not (bytes_eq n k)) ms) + 1 ≤ length ms) → length (filter (λ k. not (bytes_eq n k)) ms) ≤ length ms → length (cond (not b) (m ∷ filter (λ k. not (bytes_eq n k)) ms) (filter (λ k. not (bytes_eq n k)) ms)) + 1 ≤ suc (length ms)
out_by n m ms true is more le = omega (arith, le)
out_by n m ms false is more le = let l = more refl in omega (arith, l)

fewer_by : (n m : Bytes) (ms : List Bytes) (b : Bool) → length (filter (λ k. not (bytes_eq n k)) ms) ≤ length ms → length (cond (not b) (m ∷ filter (λ k. not (bytes_eq n k)) ms) (filter (λ k. not (bytes_eq n k)) ms)) ≤ suc (length ms)
fewer_by n m ms true le = omega (arith, le)
fewer_by n m ms false le = omega (arith, le)

pub fewer : (n : Bytes) (ms : List Bytes) → length (without (bytes_eq n) ms) ≤ length ms
fewer n [] = omega arith
fewer n (m ∷ ms) = fewer_by n m ms (bytes_eq n m) (fewer n ms)

one_out : (n : Bytes) (ms : List Bytes) → IsIn n ms → length (without (bytes_eq n) ms) + 1 ≤ length ms
one_out n [] i = absurd i
one_out n (m ∷ ms) (inl eq) = out_by n m ms (bytes_eq n m) refl (λ isnt. let both : true ≡ false = sym (name_same n) ∙ ap (bytes_eq n) eq ∙ isnt in absurd (cc both)) (fewer n ms)
one_out n (m ∷ ms) (inr i) = out_by n m ms (bytes_eq n m) refl (λ isnt. one_out n ms i) (fewer n ms)

pub into_without : (n m : Bytes) (ms : List Bytes) → IsIn m ms → (n ≡ m → ⊥) → IsIn m (without (bytes_eq n) ms)
into_without n m ms i differ = into_filter (λ k. not (bytes_eq n k)) m ms i (ap not (unlike (bytes_eq n m) (λ is. differ (same_name n m is))))

-- where each stands among others too, there are no more of them
pub pigeons : (ns ms : List Bytes) → AreApart ns → ((n : Bytes) → IsIn n ns → IsIn n ms) → length ns ≤ length ms
pigeons [] ms a each = omega arith
pigeons (n ∷ ns) ms a each =
    let rest = pigeons ns (without (bytes_eq n) ms) a.1 (λ m i. into_without n m ms (each m (inr i)) (λ is. a.0 (subst (λ k. IsIn k ns) (sym is) i))) in
    omega (arith, rest, one_out n ms (each n (inl refl)))

-- ---- the names of entries

abbrev pub entry_name : Entry → Bytes
entry_name e = e.name

pub entry_named : (e : Entry) (es : List Entry) → IsIn e es → IsIn e.name (map entry_name es)
entry_named e [] i = absurd i
entry_named e (x ∷ es) (inl eq) = inl (ap entry_name eq)
entry_named e (x ∷ es) (inr i) = inr (entry_named e es i)

pub map_length : {A B : Type 0} (f : A → B) (xs : List A) → length (map f xs) ≡ length xs
map_length f [] = refl
map_length f (x ∷ xs) = let rest = map_length f xs in omega (arith, rest)
