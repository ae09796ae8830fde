-- Texts that are written part by part.
use Rattle.std.proofs.Common.{◌≡◌, ℕ, Bool, List, [], ◌++◌, ◌∙◌, ap, sym, append_assoc, append-nil}
use Rattle.pp_reply.specs.Texts.{page_head, page_body}

pub page_parts : (out headed all title wanted : List ℕ) (keep kept head_asked : Bool) → title ≡ wanted → keep ≡ kept
    → headed ≡ out ++ page_head title keep → all ≡ headed ++ page_body title head_asked → all ≡ out ++ (page_head wanted kept ++ page_body wanted head_asked)
page_parts out headed all title wanted keep kept head_asked same_title same_keep head body =
    body ∙ ap (λ (t : List ℕ). t ++ page_body title head_asked) head
    ∙ append_assoc out (page_head title keep) (page_body title head_asked)
    ∙ ap (λ (t : List ℕ). out ++ (page_head t keep ++ page_body t head_asked)) same_title
    ∙ ap (λ (k : Bool). out ++ (page_head wanted k ++ page_body wanted head_asked)) same_keep

pub six_parts : (out a b c d e f o1 o2 o3 o4 o5 o6 : List ℕ) → o1 ≡ out ++ a → o2 ≡ o1 ++ b → o3 ≡ o2 ++ c → o4 ≡ o3 ++ d → o5 ≡ o4 ++ e → o6 ≡ o5 ++ f
    → o6 ≡ out ++ (a ++ b ++ c ++ d ++ e ++ f)
six_parts out a b c d e f o1 o2 o3 o4 o5 o6 p1 p2 p3 p4 p5 p6 =
    let all : o6 ≡ out ++ a ++ b ++ c ++ d ++ e ++ f =
    p6 ∙ ap (λ (t : List ℕ). t ++ f) (p5 ∙ ap (λ (t : List ℕ). t ++ e) (p4 ∙ ap (λ (t : List ℕ). t ++ d) (p3 ∙ ap (λ (t : List ℕ). t ++ c) (p2 ∙ ap (λ (t : List ℕ). t ++ b) p1)))) in
    let regroup : out ++ a ++ b ++ c ++ d ++ e ++ f ≡ out ++ (a ++ b ++ c ++ d ++ e ++ f) = simp append_assoc in
    all ∙ regroup

-- the last two parts are written at once
pub head_parts : (out a b c d e f g o1 o2 o3 o4 o5 o6 : List ℕ) → o1 ≡ out ++ a → o2 ≡ o1 ++ b → o3 ≡ o2 ++ c → o4 ≡ o3 ++ d → o5 ≡ o4 ++ e → o6 ≡ o5 ++ f ++ g
    → o6 ≡ out ++ (a ++ b ++ c ++ d ++ e ++ f ++ g)
head_parts out a b c d e f g o1 o2 o3 o4 o5 o6 p1 p2 p3 p4 p5 p6 =
    six_parts out a b c d e (f ++ g) o1 o2 o3 o4 o5 o6 p1 p2 p3 p4 p5 (p6 ∙ append_assoc o5 f g)
    ∙ ap (λ (t : List ℕ). out ++ t) (sym (append_assoc (a ++ b ++ c ++ d ++ e) f g))

-- one part, written as two
pub two_parts : (out a b o1 o2 : List ℕ) → o1 ≡ out ++ a → o2 ≡ o1 ++ b → o2 ≡ out ++ (a ++ b)
two_parts out a b o1 o2 p1 p2 = p2 ∙ ap (λ (t : List ℕ). t ++ b) p1 ∙ append_assoc out a b

pub no_part : (out : List ℕ) → out ≡ out ++ []
no_part out = sym (append-nil out)

-- a page with a range: a head of which two parts are written at once, the title and a line feed
pub page_with_range_parts : (out a b c d e f g h o1 o2 o3 o4 o5 o6 o7 : List ℕ) → o1 ≡ out ++ a → o2 ≡ o1 ++ b → o3 ≡ o2 ++ c → o4 ≡ o3 ++ d → o5 ≡ o4 ++ e ++ f → o6 ≡ o5 ++ g → o7 ≡ o6 ++ h
    → o7 ≡ out ++ (a ++ b ++ c ++ d ++ e ++ f ++ g ++ h)
page_with_range_parts out a b c d e f g h o1 o2 o3 o4 o5 o6 o7 p1 p2 p3 p4 p5 p6 p7 =
    two_parts out (a ++ b ++ c ++ d ++ (e ++ f) ++ g) h o6 o7 (six_parts out a b c d (e ++ f) g o1 o2 o3 o4 o5 o6 p1 p2 p3 p4 (p5 ∙ append_assoc o4 e f) p6) p7
    ∙ ap (λ (t : List ℕ). out ++ (t ++ g ++ h)) (sym (append_assoc (a ++ b ++ c ++ d) e f))
