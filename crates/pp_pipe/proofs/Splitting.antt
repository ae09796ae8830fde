-- What is written is the texts of the asks, one behind the other.
use Rattle.std.proofs.Common.{◌≡◌, ℕ, zero, suc, ◌+◌, ◌<◌, ◌≤◌, Bool, List, [], ◌∷◌, ◌++◌, length, take, drop, refl, sym, ap, ◌∙◌, arith}
use Rattle.std.specs.List.{concat, remove}
use Rattle.std.proofs.lemmas.List.{drop-append-le, length-drop, length-take-le, take-append-drop, take-append-le, take_all}
use Rattle.std.proofs.lemmas.List.Sums.{sum_by-take-le}
use Rattle.pp_pipe.proofs.Taking.{cut_behind, total_cons}
use Rattle.pp_pipe.specs.Asks.{fresh, total}
use Rattle.pp_pipe.specs.Line.{without_span}
use Rattle.pp_pipe.specs.Texts.{split}
use Rattle.pp_pipe.specs.declared.asks.Ask.{Ask}

none : (bytes : List ℕ) → 0 ≡ length bytes → bytes ≡ []
none [] is = refl
none (b ∷ bytes) is = absurd (omega (arith, is))

rest_total : (ask : Ask) (asks : List Ask) (bytes : List ℕ) → total (ask ∷ asks) ≡ length bytes → total asks ≡ length (drop ask.text_left bytes)
rest_total ask asks bytes all = omega (arith, total_cons ask asks, length-drop ask.text_left bytes, all)

first_fits : (ask : Ask) (asks : List Ask) (bytes : List ℕ) → total (ask ∷ asks) ≡ length bytes → ask.text_left ≤ length bytes
first_fits ask asks bytes all = omega (arith, total_cons ask asks, all)

pub joined : (asks : List Ask) (bytes : List ℕ) → total asks ≡ length bytes → concat (split asks bytes) ≡ bytes
joined [] bytes all = sym (none bytes all)
joined (ask ∷ asks) bytes all =
    ap (λ (t : List ℕ). take ask.text_left bytes ++ t) (joined asks (drop ask.text_left bytes) (rest_total ask asks bytes all)) ∙ take-append-drop ask.text_left bytes

pub pushed_last : (asks : List Ask) (bytes text : List ℕ) (head_request : Bool) → total asks ≡ length bytes
    → split (asks ++ fresh text head_request ∷ []) (bytes ++ text) ≡ split asks bytes ++ text ∷ []
pushed_last [] bytes text head_request all =
    ap (λ (b : List ℕ). take (length text) (b ++ text) ∷ []) (none bytes all) ∙ ap (λ (t : List ℕ). t ∷ []) (take_all (length text) text (omega arith))
pushed_last (ask ∷ asks) bytes text head_request all =
    let fits = first_fits ask asks bytes all in
    ap (λ (t : List ℕ). t ∷ split (asks ++ fresh text head_request ∷ []) (drop ask.text_left (bytes ++ text))) (take-append-le ask.text_left bytes text fits)
    ∙ ap (λ (t : List ℕ). take ask.text_left bytes ∷ split (asks ++ fresh text head_request ∷ []) t) (drop-append-le ask.text_left bytes text fits)
    ∙ ap (λ (ts : List (List ℕ)). take ask.text_left bytes ∷ ts) (pushed_last asks (drop ask.text_left bytes) text head_request (rest_total ask asks bytes all))

take_first : (n m : ℕ) (xs : List ℕ) → take n (take (n + m) xs) ≡ take n xs
take_first zero m xs = refl
take_first (suc n) m [] = ap (take (suc n)) (take_all (suc n + m) [] (omega arith))
take_first (suc n) m (x ∷ xs) = ap (λ (k : ℕ). take (suc n) (take k (x ∷ xs))) (let e : suc n + m ≡ suc (n + m) = omega arith in e) ∙ ap (λ (t : List ℕ). x ∷ t) (take_first n m xs)

-- the span of a later ask leaves the first one
cut_later : (ask : Ask) (asks : List Ask) (bytes : List ℕ) (from to : ℕ) → from ≤ to → ask.text_left + to ≤ length bytes
    → split (ask ∷ asks) (without_span (ask.text_left + from) (ask.text_left + to) bytes) ≡ take ask.text_left bytes ∷ split asks (without_span from to (drop ask.text_left bytes))
cut_later ask asks bytes from to order within =
    let s : ℕ = ask.text_left in
    ap (λ (t : List ℕ). t ∷ split asks (drop s (without_span (s + from) (s + to) bytes)))
    (take-append-le s (take (s + from) bytes) (drop (s + to) bytes) (omega (arith, length-take-le (s + from) bytes (omega (arith, order, within)))) ∙ take_first s from bytes)
    ∙ ap (λ (t : List ℕ). take s bytes ∷ split asks t) (cut_behind s from to bytes order within)

grows : (asks : List Ask) (place : ℕ) → total (take place asks) ≤ total (take (suc place) asks)
grows [] zero = omega arith
grows [] (suc place) = omega arith
grows (ask ∷ asks) zero = omega arith
grows (ask ∷ asks) (suc place) = omega (arith, total_cons ask (take place asks), total_cons ask (take (suc place) asks), grows asks place)

pub withdrawn_at : (asks : List Ask) (bytes : List ℕ) (place : ℕ) → total asks ≡ length bytes → place < length asks
    → split (remove asks place) (without_span (total (take place asks)) (total (take (suc place) asks)) bytes) ≡ remove (split asks bytes) place
withdrawn_at [] bytes place all within = absurd (omega (arith, within))
withdrawn_at (ask ∷ asks) bytes zero all within =
    ap (λ (n : ℕ). split asks (without_span 0 n bytes)) (total_cons ask [] ∙ (let e : ask.text_left + total [] ≡ ask.text_left = omega arith in e))
withdrawn_at (ask ∷ asks) bytes (suc place) all within =
    let from : ℕ = total (take place asks) in
    let to : ℕ = total (take (suc place) asks) in
    let fits : ask.text_left + to ≤ length bytes = omega (arith, sum_by-take-le (λ (a : Ask). a.text_left) asks (suc place), total_cons ask asks, all) in
    ap (λ (n : ℕ). split (ask ∷ remove asks place) (without_span n (total (ask ∷ take (suc place) asks)) bytes)) (total_cons ask (take place asks))
    ∙ ap (λ (n : ℕ). split (ask ∷ remove asks place) (without_span (ask.text_left + from) n bytes)) (total_cons ask (take (suc place) asks))
    ∙ cut_later ask (remove asks place) bytes from to (grows asks place) fits
    ∙ ap (λ (ts : List (List ℕ)). take ask.text_left bytes ∷ ts) (withdrawn_at asks (drop ask.text_left bytes) place (rest_total ask asks bytes all) (omega (arith, within)))

-- ---- of a whole line, whose asks have all bytes but the first so many

rest_of : (stray all : ℕ) (out : List ℕ) → stray + all ≡ length out → all ≡ length (drop stray out)
rest_of stray all out is = omega (arith, is, length-drop stray out)

pub out_texts : (stray : ℕ) (asks : List Ask) (out : List ℕ) → stray + total asks ≡ length out → out ≡ take stray out ++ concat (split asks (drop stray out))
out_texts stray asks out is =
    sym (take-append-drop stray out) ∙ ap (λ (t : List ℕ). take stray out ++ t) (sym (joined asks (drop stray out) (rest_of stray (total asks) out is)))

pub push_texts : (stray : ℕ) (asks : List Ask) (out text : List ℕ) (head_request : Bool) → stray + total asks ≡ length out
    → split (asks ++ fresh text head_request ∷ []) (drop stray (out ++ text)) ≡ split asks (drop stray out) ++ text ∷ []
push_texts stray asks out text head_request is =
    ap (split (asks ++ fresh text head_request ∷ [])) (drop-append-le stray out text (omega (arith, is)))
    ∙ pushed_last asks (drop stray out) text head_request (rest_of stray (total asks) out is)

pub withdraw_texts : (stray : ℕ) (asks : List Ask) (out : List ℕ) (place : ℕ) → stray + total asks ≡ length out → place < length asks
    → split (remove asks place) (drop stray (without_span (stray + total (take place asks)) (stray + total (take (place + 1) asks)) out)) ≡ remove (split asks (drop stray out)) place
withdraw_texts stray asks out place is within =
    let next : place + 1 ≡ suc place = omega arith in
    ap (λ (n : ℕ). split (remove asks place) (drop stray (without_span (stray + total (take place asks)) (stray + total (take n asks)) out))) next
    ∙ ap (split (remove asks place)) (cut_behind stray (total (take place asks)) (total (take (suc place) asks)) out (grows asks place) (omega (arith, sum_by-take-le (λ (a : Ask). a.text_left) asks (suc place), is)))
    ∙ withdrawn_at asks (drop stray out) place (rest_of stray (total asks) out is) within
