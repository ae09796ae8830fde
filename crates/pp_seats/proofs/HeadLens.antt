-- The length of the head at the front of a text, place by place.
use Rattle.std.proofs.Common.{◌≡◌, refl, ℕ, ◌+◌, ◌<◌, ◌≤◌, suc, zero, Bool, true, false, nat_eq, arith, cond, List, [], ◌∷◌, length, drop, get_or, ap, sym, ◌∙◌}
use Rattle.std.proofs.Math.Seq.{drop-cons}
use Rattle.std.proofs.lemmas.Bool.{false≢true}
use Rattle.std.proofs.lemmas.List.{drop_all}
use Rattle.std.specs.List.{starts_with}
use Rattle.pp_seats.specs.Accounts.{head_len_in}

abbrev pub ends : List ℕ → Bool
ends text = starts_with nat_eq text (13 ∷ 10 ∷ 13 ∷ 10 ∷ [])

pub found : (text : List ℕ) → ends text ≡ true → head_len_in text ≡ 4
unfolding head_len_in
found [] is = absurd (false≢true is)
found (b ∷ bs) is = ap (λ s. cond s 4 (1 + head_len_in bs)) is

pub passed_at : (b : ℕ) (bs : List ℕ) → ends (b ∷ bs) ≡ false → head_len_in (b ∷ bs) ≡ 1 + head_len_in bs
unfolding head_len_in
passed_at b bs is = ap (λ s. cond s 4 (1 + head_len_in bs)) is

pub none : head_len_in [] ≡ 0
unfolding head_len_in
none = refl

next : (n : ℕ) → suc n ≡ n + 1
next n = grind (arith)

-- where the head does not end here, it is longer by the byte that stands here
pub passed : (at : ℕ) (text : List ℕ) → at < length text → ends (drop at text) ≡ false → head_len_in (drop at text) ≡ 1 + head_len_in (drop (at + 1) text)
passed at text lt is =
    ap head_len_in (drop-cons text at 0 lt) ∙ passed_at (get_or text at 0) (drop (suc at) text) (sym (ap ends (drop-cons text at 0 lt)) ∙ is)
    ∙ ap (λ n. 1 + head_len_in (drop n text)) (next at)

-- ---- the loop over the places

moved : (at one more all : ℕ) → at + one ≡ all → one ≡ 1 + more → at + 1 + more ≡ all
moved at one more all before is = grind (arith)

at_end : (at len rest all : ℕ) → at + rest ≡ all → len ≤ at → at ≤ len → rest ≡ 0 → len ≡ all
at_end at len rest all before least most is = grind (arith)

pub ends_here : (at : ℕ) (text : List ℕ) → at + head_len_in (drop at text) ≡ head_len_in text → ends (drop at text) ≡ true → at + 4 ≡ head_len_in text
ends_here at text before is = ap (λ n. at + n) (sym (found (drop at text) is)) ∙ before

pub goes_on : (at : ℕ) (text : List ℕ) → at + head_len_in (drop at text) ≡ head_len_in text → at < length text → ends (drop at text) ≡ false → at + 1 + head_len_in (drop (at + 1) text) ≡ head_len_in text
goes_on at text before lt is = moved at (head_len_in (drop at text)) (head_len_in (drop (at + 1) text)) (head_len_in text) before (passed at text lt is)

pub all_passed : (at : ℕ) (text : List ℕ) → at + head_len_in (drop at text) ≡ head_len_in text → length text ≤ at → at ≤ length text → length text ≡ head_len_in text
all_passed at text before least most = at_end at (length text) (head_len_in (drop at text)) (head_len_in text) before least most (ap head_len_in (drop_all at text least) ∙ none)
