-- Texts that are written part by part.
use Rattle.std.proofs.Common.{◌≡◌, ℕ, List, ◌++◌, length, Result, Ok, Err, ◌∙◌, ap, append_assoc, arith, length-append}
use Rattle.pp_ask.specs.declared.lines.TooLong.{TooLong}
use Rattle.pp_ask.specs.Puts.{IsPut}

regroup : (out a b c d : List ℕ) → out ++ a ++ b ++ c ++ d ≡ out ++ (a ++ b ++ c ++ d)
regroup out a b c d = simp append_assoc

four : (out a b c d o1 o2 o3 o4 : List ℕ) → o1 ≡ out ++ a → o2 ≡ o1 ++ b → o3 ≡ o2 ++ c → o4 ≡ o3 ++ d → o4 ≡ out ++ (a ++ b ++ c ++ d)
four out a b c d o1 o2 o3 o4 p1 p2 p3 p4 =
    p4 ∙ ap (λ (t : List ℕ). t ++ d) (p3 ∙ ap (λ (t : List ℕ). t ++ c) (p2 ∙ ap (λ (t : List ℕ). t ++ b) p1)) ∙ regroup out a b c d

-- a last part behind four others
pub put_last : {A : Type 0} (out a b c d e o1 o2 o3 o4 o5 : List ℕ) (r : Result A TooLong) → o1 ≡ out ++ a → o2 ≡ o1 ++ b → o3 ≡ o2 ++ c → o4 ≡ o3 ++ d
    → IsPut e o4 o5 r → IsPut (a ++ b ++ c ++ d ++ e) out o5 r
put_last out a b c d e o1 o2 o3 o4 o5 (Ok done) p1 p2 p3 p4 p5 =
    p5 ∙ ap (λ (t : List ℕ). t ++ e) (four out a b c d o1 o2 o3 o4 p1 p2 p3 p4) ∙ append_assoc out (a ++ b ++ c ++ d) e
put_last out a b c d e o1 o2 o3 o4 o5 (Err fault) p1 p2 p3 p4 over =
    omega (arith, over, ap length (four out a b c d o1 o2 o3 o4 p1 p2 p3 p4), length-append out (a ++ b ++ c ++ d), length-append (a ++ b ++ c ++ d) e)
