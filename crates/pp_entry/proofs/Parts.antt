-- Texts that are written part by part.
use Rattle.std.proofs.Common.{◌≡◌, ℕ, List, ◌++◌, length, Result, Ok, Err, ◌∙◌, ap, append_assoc, ◌-◌, drop, replicate, arith, length-append}
use Rattle.std.proofs.lemmas.List.{drop-replicate}
use Rattle.pp_entry.specs.declared.lines.TooLong.{TooLong}
use Rattle.pp_entry.specs.Puts.{IsPut}

regroup : (out a b c d : List ℕ) → out ++ a ++ b ++ c ++ d ≡ out ++ (a ++ b ++ c ++ d)
regroup out a b c d = simp append_assoc

four : (out a b c d o1 o2 o3 o4 : List ℕ) → o1 ≡ out ++ a → o2 ≡ o1 ++ b → o3 ≡ o2 ++ c → o4 ≡ o3 ++ d → o4 ≡ out ++ (a ++ b ++ c ++ d)
four out a b c d o1 o2 o3 o4 p1 p2 p3 p4 =
    p4 ∙ ap (λ (t : List ℕ). t ++ d) (p3 ∙ ap (λ (t : List ℕ). t ++ c) (p2 ∙ ap (λ (t : List ℕ). t ++ b) p1)) ∙ regroup out a b c d

-- a last part behind four others
pub put_last : {A : Type 0} (out a b c d e o1 o2 o3 o4 o5 : List ℕ) (r : Result A TooLong) → o1 ≡ out ++ a → o2 ≡ o1 ++ b → o3 ≡ o2 ++ c → o4 ≡ o3 ++ d
    → IsPut e o4 o5 r → IsPut (a ++ b ++ c ++ d ++ e) out o5 r
put_last out a b c d e o1 o2 o3 o4 o5 (Ok done) p1 p2 p3 p4 p5 =
    p5 ∙ ap (λ (t : List ℕ). t ++ e) (four out a b c d o1 o2 o3 o4 p1 p2 p3 p4) ∙ append_assoc out (a ++ b ++ c ++ d) e
put_last out a b c d e o1 o2 o3 o4 o5 (Err fault) p1 p2 p3 p4 over =
    omega (arith, over, ap length (four out a b c d o1 o2 o3 o4 p1 p2 p3 p4), length-append out (a ++ b ++ c ++ d), length-append (a ++ b ++ c ++ d) e)

-- a text that was copied to the front of zeros
pub copied : (text front : List ℕ) → front ≡ text → front ++ drop (length text) (replicate 8192 0) ≡ text ++ replicate (8192 - length text) 0
copied text front is =
    ap (λ (t : List ℕ). t ++ drop (length text) (replicate 8192 0)) is
    ∙ ap (λ (z : List ℕ). text ++ z) (drop-replicate {X = ℕ} (length text) 8192 0)

three : (out a b c o1 o2 o3 : List ℕ) → o1 ≡ out ++ a → o2 ≡ o1 ++ b → o3 ≡ o2 ++ c → o3 ≡ out ++ (a ++ b ++ c)
three out a b c o1 o2 o3 p1 p2 p3 =
    let regrouped : out ++ a ++ b ++ c ≡ out ++ (a ++ b ++ c) = simp append_assoc in
    p3 ∙ ap (λ (t : List ℕ). t ++ c) (p2 ∙ ap (λ (t : List ℕ). t ++ b) p1) ∙ regrouped

-- a last part behind three others
pub put_last_of_four : {A : Type 0} (out a b c d o1 o2 o3 o4 : List ℕ) (r : Result A TooLong) → o1 ≡ out ++ a → o2 ≡ o1 ++ b → o3 ≡ o2 ++ c
    → IsPut d o3 o4 r → IsPut (a ++ b ++ c ++ d) out o4 r
put_last_of_four out a b c d o1 o2 o3 o4 (Ok done) p1 p2 p3 p4 =
    p4 ∙ ap (λ (t : List ℕ). t ++ d) (three out a b c o1 o2 o3 p1 p2 p3) ∙ append_assoc out (a ++ b ++ c) d
put_last_of_four out a b c d o1 o2 o3 o4 (Err fault) p1 p2 p3 over =
    omega (arith, over, ap length (three out a b c o1 o2 o3 p1 p2 p3), length-append out (a ++ b ++ c), length-append (a ++ b ++ c) d)
