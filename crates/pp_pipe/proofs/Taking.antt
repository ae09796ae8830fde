-- How many bytes are left when some were taken, or taken out.
use Rattle.std.proofs.Common.{◌≡◌, ℕ, suc, ◌+◌, ◌-◌, ◌≤◌, List, [], ◌∷◌, ◌++◌, length, take, drop, min, refl, sym, ap, ◌∙◌, arith, append-nil}
use Rattle.std.proofs.lemmas.List.{drop-append-le, drop-drop, drop-take, drop_all, length-drop, length-take-le, take_all}
use Rattle.std.specs.List.{refill}
use Rattle.std.proofs.lemmas.List.Sums.{sum_by-cons}
use Rattle.pp_pipe.specs.Asks.{all_taken, ask_taken, out_room, total}
use Rattle.pp_pipe.specs.Line.{without_span}
use Rattle.pp_pipe.specs.declared.asks.Ask.{Ask}

pub total_cons : (ask : Ask) (asks : List Ask) → total (ask ∷ asks) ≡ ask.text_left + total asks
total_cons ask asks = sum_by-cons (λ (a : Ask). a.text_left) ask asks

pub total_taken : (n : ℕ) (asks : List Ask) → total (all_taken n asks) ≡ total asks - n
total_taken n [] = omega arith
total_taken n (ask ∷ asks) =
    omega (arith, total_taken (n - ask.text_left) asks, total_cons ask asks, total_cons (ask_taken n ask) (all_taken (n - ask.text_left) asks))

pub length_taken : (n : ℕ) (asks : List Ask) → length (all_taken n asks) ≡ length asks
length_taken n [] = refl
length_taken n (ask ∷ asks) = ap suc (length_taken (n - ask.text_left) asks)

pub cut_behind : (front from to : ℕ) (items : List ℕ) → from ≤ to → front + to ≤ length items → drop front (without_span (front + from) (front + to) items) ≡ without_span from to (drop front items)
cut_behind front from to items order within =
    drop-append-le front (take (front + from) items) (drop (front + to) items) (omega (arith, length-take-le (front + from) items (omega (arith, order, within))))
    ∙ ap (λ (t : List ℕ). t ++ drop (front + to) items) (drop-take front from items)
    ∙ ap (λ (t : List ℕ). take from (drop front items) ++ t) (sym (drop-drop to front items))

pub left_over : (n stray of_stray : ℕ) (asks : List Ask) (out : List ℕ) → of_stray ≡ min n stray → stray + total asks ≡ length out → length out ≤ out_room
    → (stray - of_stray + total (all_taken (n - of_stray) asks) ≡ length (drop n out)) × (length (drop n out) ≤ out_room)
left_over n stray of_stray asks out least all few = (
  omega (arith, least, all, total_taken (n - of_stray) asks, length-drop n out),
  omega (arith, few, length-drop n out),
)

pub refill_whole : (xs ws : List Ask) → length ws ≡ length xs → refill (length xs) xs ws ≡ ws
refill_whole xs ws same =
    ap (λ (t : List Ask). take (length xs) (ws ++ t)) (drop_all (length ws) xs (omega (arith, same)))
    ∙ ap (take (length xs)) (append-nil ws)
    ∙ take_all (length xs) ws (omega (arith, same))
