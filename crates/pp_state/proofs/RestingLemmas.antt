-- Exchange after exchange is noted how far its body is wanted, and none gets another number.
use Rattle.std.proofs.Common.{◌≡◌, ◌+◌, ℕ, zero, suc, Bool, true, false, cond, List, [], ◌∷◌, ◌++◌, take, slice_get, add-one, refl, sym, ◌∙◌, ap, Option, Some, None}
use Rattle.std.specs.List.{fold, list_any}
use Rattle.std.proofs.lemmas.List.{map-append}
use Rattle.pp_flow.specs.Changes.{Exchanges, changed, entry_of, numbers}
use Rattle.pp_flow.specs.Entries.{asking, is_number}
use Rattle.pp_flow.specs.declared.entry.Entry.{Entry}
use Rattle.pp_flow.specs.declared.errand.Body.{Body}
use Rattle.pp_flow.specs.declared.errand.Body.TheVariants.{Joining}
use Rattle.pp_flow.specs.declared.errand.Errand.{Errand}
use Rattle.pp_seats.specs.declared.seat.Seat.{Seat}
use Rattle.pp_state.specs.Unseen.{body_noted, bound_of, rested, rested_to, wanted_of}
use Rattle.pp_state.specs.declared.state.State.{State}

-- ---- numbers

abbrev pub numbers_of : Exchanges → List ℕ
numbers_of f = numbers (f.waiting ++ f.placed)

same_by : (b : Bool) (errand : Errand) (e : Entry) (es ds : List Entry) → numbers ds ≡ numbers es → numbers (cond b (asking errand e ∷ es) (e ∷ ds)) ≡ numbers (e ∷ es)
same_by true errand e es ds same = refl
same_by false errand e es ds same = ap (λ ns. e.exchange.number ∷ ns) same

same_numbers : (n : ℕ) (errand : Errand) (es : List Entry) → numbers (changed n (asking errand) es) ≡ numbers es
same_numbers n errand [] = refl
same_numbers n errand (e ∷ es) = same_by (is_number n e) errand e es (changed n (asking errand) es) (same_numbers n errand es)

both_same : (xs ys zs ws : List Entry) → numbers xs ≡ numbers zs → numbers ys ≡ numbers ws → numbers (xs ++ ys) ≡ numbers (zs ++ ws)
both_same xs ys zs ws left right =
    map-append (λ (e : Entry). e.exchange.number) xs ys ∙ ap (λ ns. ns ++ numbers ys) left ∙ ap (λ ns. numbers zs ++ ns) right ∙ sym (map-append (λ (e : Entry). e.exchange.number) zs ws)

errand_by : (b : Bool) (n : ℕ) (errand : Errand) (f : Exchanges)
    → numbers_of (cond b (record f { waiting = changed n (asking errand) f.waiting }) (record f { placed = changed n (asking errand) f.placed })) ≡ numbers_of f
errand_by true n errand f = both_same (changed n (asking errand) f.waiting) f.placed f.waiting f.placed (same_numbers n errand f.waiting) refl
errand_by false n errand f = both_same f.waiting (changed n (asking errand) f.placed) f.waiting f.placed refl (same_numbers n errand f.placed)

noted_numbers : (x : Option Entry) (n : ℕ) (body : Body) (f : Exchanges) → numbers_of (body_noted x n body f) ≡ numbers_of f
noted_numbers None n body f = refl
noted_numbers (Some e) n body f = errand_by (list_any (is_number n) f.waiting) n (record e.errand { body = body }) f

rested_by : (at : Option ℕ) (n : ℕ) (f : Exchanges) → numbers_of (rested_to at n f) ≡ numbers_of f
rested_by None n f = refl
rested_by (Some at) n f = noted_numbers (entry_of n f) n (Joining at) f

rested_numbers : (awake : List ℕ) (seats : List Seat) (n : ℕ) (f : Exchanges) → numbers_of (rested awake seats f n) ≡ numbers_of f
rested_numbers awake seats n f = rested_by (wanted_of awake seats (bound_of (entry_of n f))) n f

-- ---- one after the other

abbrev pub applied : (Exchanges → ℕ → Exchanges) → Exchanges → Option ℕ → Exchanges
applied step f None = f
applied step f (Some n) = step f n

folded_next : (step : Exchanges → ℕ → Exchanges) (f : Exchanges) (ns : List ℕ) (i : ℕ) → fold step f (take (suc i) ns) ≡ applied step (fold step f (take i ns)) (slice_get ns i)
folded_next step f [] zero = refl
folded_next step f [] (suc i) = refl
folded_next step f (n ∷ ns) zero = refl
folded_next step f (n ∷ ns) (suc i) = folded_next step (step f n) ns i

-- so far, from one state on
abbrev pub rested_so_far : State → List ℕ → ℕ → State
rested_so_far s ns i = record s { flow = fold (rested s.awake.items s.seats.items) s.flow (take i ns) }

abbrev pub rested_once : State → Option ℕ → State
rested_once s n = record s { flow = applied (rested s.awake.items s.seats.items) s.flow n }

pub rested_next : (s t u : State) (ns : List ℕ) (i : ℕ) (n : Option ℕ) → t ≡ rested_so_far s ns i → n ≡ slice_get ns i → u ≡ rested_once t n → u ≡ rested_so_far s ns (i + 1)
rested_next s t u ns i n before at now =
    now ∙ ap (λ r. rested_once r n) before ∙ ap (rested_once (rested_so_far s ns i)) at
    ∙ ap (λ f. record s { flow = f }) (sym (folded_next (rested s.awake.items s.seats.items) s.flow ns i)) ∙ ap (rested_so_far s ns) (sym (add-one i))

once_numbers : (t : State) (n : Option ℕ) → numbers_of (rested_once t n).flow ≡ numbers_of t.flow
once_numbers t None = refl
once_numbers t (Some n) = rested_numbers t.awake.items t.seats.items n t.flow

pub still_numbers : (t u : State) (n : Option ℕ) → u ≡ rested_once t n → numbers_of u.flow ≡ numbers_of t.flow
still_numbers t u n now = ap (λ r. numbers_of r.flow) now ∙ once_numbers t n
