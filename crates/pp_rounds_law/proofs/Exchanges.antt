-- As exchanges get places, and as one is over behind a lost attempt, none begins, none gets another client, and none is left to nobody.
use Rattle.std.proofs.Common.{◌≡◌, ◌≤◌, refl, sym, subst, ap, ◌∙◌, ℕ, Bool, true, false, not, ◌==◌, ◌||◌, cond, filter, length, map, List, [], ◌∷◌, is_some, Option, Some, None, le_trans}
use Rattle.std.specs.List.{list_any}
use Rattle.std.specs.Prelude.{count_by}
use Rattle.pp_cache_law.proofs.PairLemmas.{count_kept, count_mapped_same}
use Rattle.pp_law.specs.Closing.{is_of, is_over, left_alone}
use Rattle.pp_law.specs.Connections.{attempts_of, charge, end_exchange, give_up_row, is_exchange, is_unfilled, lose_attempt, lost_one, on_client_of, on_conn, on_exchange, placing, put_on, without_row}
use Rattle.pp_law.specs.Lists.{change, without}
use Rattle.pp_law.specs.State.{State, Exchange}
use Rattle.pp_law.specs.Table.{clear, swept}
use Rattle.pp_laws_bounds.proofs.Counts.{length-filter, length-map}
use Rattle.pp_laws_bounds.proofs.Places.{placing-any}
use Rattle.pp_target.specs.Key.{text_of}

-- ---- of lists

either_none : (a b : Bool) → (a || b) ≡ false → (a ≡ false) × (b ≡ false)
either_none true b none = absurd (let bad : true ≡ false = none in cc bad)
either_none false b none = (refl, none)

none_mapped : {A : Type 0} (p : A → Bool) (f : A → A) (xs : List A) → ((x : A) → p x ≡ false → p (f x) ≡ false) → list_any p xs ≡ false → list_any p (map f xs) ≡ false
none_mapped p f [] keeps none = refl
none_mapped p f (x ∷ xs) keeps none =
    let both : (p x ≡ false) × (list_any p xs ≡ false) = either_none (p x) (list_any p xs) none in
    ap (λ (b : Bool). b || list_any p (map f xs)) (keeps x both.0) ∙ none_mapped p f xs keeps both.1

none_kept : {A : Type 0} (p q : A → Bool) (xs : List A) → list_any p xs ≡ false → list_any p (filter q xs) ≡ false
none_kept p q [] none = refl
none_kept {A} p q (x ∷ xs) none = by (q x) (none_kept p q xs (either_none (p x) (list_any p xs) none).1)
  where
    by : (b : Bool) → list_any p (filter q xs) ≡ false → list_any p (cond b (x ∷ filter q xs) (filter q xs)) ≡ false
    by true rest = ap (λ (c : Bool). c || list_any p (filter q xs)) (either_none (p x) (list_any p xs) none).0 ∙ rest
    by false rest = rest

-- ---- places are given

abbrev put_if : ℕ → ℕ → Exchange → Exchange
put_if n k e = elim (is_exchange n e) as (λ t. Exchange) [ true ↦ record e { place = Some k; asked = 0 } | false ↦ e ]

put_is : (n k : ℕ) (s : State) → ((put_on n k s).exchanges ≡ map (put_if n k) s.exchanges) × ((put_on n k s).clients ≡ s.clients)
unfolding put_on on_conn on_exchange
put_is n k s = (refl, refl)

same_asker : (n k m : ℕ) (e : Exchange) → is_of m (put_if n k e) ≡ is_of m e
same_asker n k m e = by (is_exchange n e)
  where
    by : (b : Bool) → is_of m (elim b as (λ t. Exchange) [ true ↦ record e { place = Some k; asked = 0 } | false ↦ e ]) ≡ is_of m e
    by true = refl
    by false = refl

somewhere : (o : Option ℕ) → not (is_some o || true) ≡ false
somewhere None = refl
somewhere (Some n) = refl

not_over : (n k : ℕ) (e : Exchange) → is_over e ≡ false → is_over (put_if n k e) ≡ false
not_over n k e none = by (is_exchange n e)
  where
    by : (b : Bool) → is_over (elim b as (λ t. Exchange) [ true ↦ record e { place = Some k; asked = 0 } | false ↦ e ]) ≡ false
    by true = somewhere e.asker
    by false = none

pub placed_once : (m : ℕ) (s : State) → count_by (is_of m) s.exchanges ≤ 1 → count_by (is_of m) (placing s).state.exchanges ≤ 1
placed_once m s once =
    placing-any (λ (t : State). count_by (is_of m) t.exchanges ≤ 1)
    (λ n k t few. subst (λ (c : ℕ). c ≤ 1) (sym (ap (λ (es : List Exchange). count_by (is_of m) es) (put_is n k t).0 ∙ count_mapped_same (is_of m) (put_if n k) t.exchanges (λ e. same_asker n k m e))) few) s once

pub placed_going : (s : State) → list_any is_over s.exchanges ≡ false → list_any is_over (placing s).state.exchanges ≡ false
placed_going s going =
    placing-any (λ (t : State). list_any is_over t.exchanges ≡ false)
    (λ n k t none. ap (λ (es : List Exchange). list_any is_over es) (put_is n k t).0 ∙ none_mapped is_over (put_if n k) t.exchanges (λ e on. not_over n k e on) none) s going

pub placed_few : (most : ℕ) (s : State) → length s.exchanges ≤ most → length (placing s).state.exchanges ≤ most
placed_few most s few =
    placing-any (λ (t : State). length t.exchanges ≤ most)
    (λ n k t so. subst (λ (c : ℕ). c ≤ most) (sym (ap (λ (es : List Exchange). length es) (put_is n k t).0 ∙ length-map (put_if n k) t.exchanges)) so) s few

pub placed_clients : (s : State) → (placing s).state.clients ≡ s.clients
placed_clients s = placing-any (λ (t : State). t.clients ≡ s.clients) (λ n k t same. (put_is n k t).1 ∙ same) s refl

-- ---- one is over, behind a lost attempt

abbrev left_of : ℕ → List Exchange → List Exchange
left_of n es = without (is_exchange n) (change (is_exchange n) left_alone es)

abbrev left_if : Bool → Exchange → Exchange
left_if b e = elim b as (λ t. Exchange) [ true ↦ left_alone e | false ↦ e ]

out_changed : (n : ℕ) (es : List Exchange) → left_of n es ≡ without (is_exchange n) es
out_changed n [] = refl
out_changed n (e ∷ es) = by (e.number == n) refl (out_changed n es)
  where
    by : (b : Bool) → (e.number == n) ≡ b → left_of n es ≡ without (is_exchange n) es
        → cond (not (is_exchange n (left_if b e))) (left_if b e ∷ left_of n es) (left_of n es) ≡ cond (not b) (e ∷ without (is_exchange n) es) (without (is_exchange n) es)
    by true is rest = ap (λ (c : Bool). cond (not c) (left_alone e ∷ left_of n es) (left_of n es)) is ∙ rest
    by false isnt rest = ap (λ (c : Bool). cond (not c) (e ∷ left_of n es) (left_of n es)) isnt ∙ ap (λ (ds : List Exchange). e ∷ ds) rest

pub over_exchanges : (e : Exchange) (s : State) → (end_exchange e.number (lose_attempt e s)).exchanges ≡ without (is_exchange e.number) s.exchanges
unfolding end_exchange lose_attempt charge give_up_row clear swept on_client_of on_exchange
over_exchanges e s = by (is_unfilled (on_client_of e (λ c. record c { course = lost_one (attempts_of e) c.course }) s) e)
  where
    lost : State
    lost = on_client_of e (λ c. record c { course = lost_one (attempts_of e) c.course }) s

    by : (b : Bool) → without (is_exchange e.number) (elim b as (λ c. State) [ false ↦ lost | true ↦ on_exchange e.number left_alone (on_client_of e without_row (clear (text_of e.key) lost)) ]).exchanges ≡ without (is_exchange e.number) s.exchanges
    by false = refl
    by true = out_changed e.number s.exchanges

pub over_once : (m n : ℕ) (es : List Exchange) → count_by (is_of m) es ≤ 1 → count_by (is_of m) (without (is_exchange n) es) ≤ 1
over_once m n es once = le_trans (count_kept (is_of m) (λ e. not (is_exchange n e)) es) once

pub over_going : (n : ℕ) (es : List Exchange) → list_any is_over es ≡ false → list_any is_over (without (is_exchange n) es) ≡ false
over_going n es going = none_kept is_over (λ e. not (is_exchange n e)) es going

pub over_few : (most n : ℕ) (es : List Exchange) → length es ≤ most → length (without (is_exchange n) es) ≤ most
over_few most n es few = le_trans (length-filter (λ e. not (is_exchange n e)) es) few
