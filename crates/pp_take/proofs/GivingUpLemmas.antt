-- The asks without a place are looked at one behind the other, each that began after the last, and that is each of them once.
use Rattle.std.proofs.Common.{arith, ◌≡◌, ◌≤◌, ◌<◌, ◌+◌, ◌-◌, refl, sym, subst, ap, ◌∙◌, ℕ, zero, suc, Bool, true, false, cond, ◌==◌, filter, find, length, map, List, [], ◌∷◌, Option, Some, None, option_map}
use Rattle.std.proofs.lemmas.Bool.Decides.{nat_tests}
use Rattle.std.proofs.lemmas.List.{length-map}
use Rattle.std.specs.Prelude.{nat_lt}
use Rattle.pp_flow.specs.Changes.{entry_of, is_after, numbers, without}
use Rattle.pp_flow.specs.Entries.{is_number}
use Rattle.pp_flow.specs.declared.entry.Entry.{Entry}
use Rattle.pp_state.proofs.NumbersLemmas.{Above, above_none, lower}
use Rattle.pp_state.specs.Asking.{is_useless}
use Rattle.pp_state.specs.Ends.{AreInOrder, Parts, ended}
use Rattle.pp_take.specs.GivingUp.{all_given_up, given_up_if}

-- those that began after it, and the first of them
abbrev pub later : Option ℕ → List Entry → List ℕ
later after es = numbers (filter (is_after after) es)

abbrev pub next : Option ℕ → List Entry → Option ℕ
next after es = option_map (λ e. e.exchange.number) (find (is_after after) es)

all_later : (es : List Entry) → later None es ≡ numbers es
all_later [] = refl
all_later (e ∷ es) = ap (λ ns. e.exchange.number ∷ ns) (all_later es)

none_later : (after : Option ℕ) (es : List Entry) → next after es ≡ None → later after es ≡ []
none_later after [] none = refl
none_later after (e ∷ es) none = by (is_after after e) (none_later after es) none
  where
    by : (b : Bool) → (next after es ≡ None → later after es ≡ []) → option_map (λ x. x.exchange.number) (cond b (Some e) (find (is_after after) es)) ≡ None → numbers (cond b (e ∷ filter (is_after after) es) (filter (is_after after) es)) ≡ []
    by true rest is = absurd (cc is)
    by false rest is = rest is

-- ---- behind the next stand all that are left

above_all : (n low : ℕ) (es : List Entry) → n < low → Above low (numbers es) → later (Some n) es ≡ numbers es
above_all n low [] less up = refl
above_all n low (e ∷ es) less up =
    let after : nat_lt n e.exchange.number ≡ true = grind (arith, nat_tests, less, up.0) in
    ap (λ b. numbers (cond b (e ∷ filter (is_after (Some n)) es) (filter (is_after (Some n)) es))) after ∙ ap (λ ns. e.exchange.number ∷ ns) (above_all n (e.exchange.number + 1) es (omega (arith, less, up.0)) up.1)

not_itself : (e : Entry) (es : List Entry) → Above (e.exchange.number + 1) (numbers es) → later (Some e.exchange.number) (e ∷ es) ≡ numbers es
not_itself e es up =
    let itself : nat_lt e.exchange.number e.exchange.number ≡ false = grind (arith, nat_tests) in
    ap (λ b. numbers (cond b (e ∷ filter (is_after (Some e.exchange.number)) es) (filter (is_after (Some e.exchange.number)) es))) itself
    ∙ above_all e.exchange.number (e.exchange.number + 1) es (omega arith) up

not_before : (n : ℕ) (e : Entry) (es : List Entry) → e.exchange.number < n → later (Some n) (e ∷ es) ≡ later (Some n) es
not_before n e es less =
    let before : nat_lt n e.exchange.number ≡ false = grind (arith, nat_tests, less) in
    ap (λ b. numbers (cond b (e ∷ filter (is_after (Some n)) es) (filter (is_after (Some n)) es))) before

-- what is found is above the low
next_above : (after : Option ℕ) (n low : ℕ) (es : List Entry) → Above low (numbers es) → next after es ≡ Some n → low ≤ n
next_above after n low [] up is = absurd (cc is)
next_above after n low (e ∷ es) up is = by (is_after after e) (next_above after n (e.exchange.number + 1) es up.1) is
  where
    by : (b : Bool) → (next after es ≡ Some n → e.exchange.number + 1 ≤ n) → option_map (λ x. x.exchange.number) (cond b (Some e) (find (is_after after) es)) ≡ Some n → low ≤ n
    by true rest found = let same : e.exchange.number ≡ n = cc found in omega (arith, same, up.0)
    by false rest found = let above : e.exchange.number + 1 ≤ n = rest found in omega (arith, above, up.0)

all_behind : (after : Option ℕ) (e : Entry) (es : List Entry) → Above (e.exchange.number + 1) (numbers es) → is_after after e ≡ true → later after es ≡ numbers es
all_behind None e es up is = all_later es
all_behind (Some k) e es up is = let less : k < e.exchange.number = grind (arith, nat_tests, is) in above_all k (e.exchange.number + 1) es (omega (arith, less)) up

next_later : (after : Option ℕ) (n low : ℕ) (es : List Entry) → Above low (numbers es) → next after es ≡ Some n → later after es ≡ n ∷ later (Some n) es
next_later after n low [] up is = absurd (cc is)
next_later after n low (e ∷ es) up is = by (is_after after e) refl (next_later after n (e.exchange.number + 1) es up.1) is
  where
    by : (b : Bool) → is_after after e ≡ b → (next after es ≡ Some n → later after es ≡ n ∷ later (Some n) es) → option_map (λ x. x.exchange.number) (cond b (Some e) (find (is_after after) es)) ≡ Some n → numbers (cond b (e ∷ filter (is_after after) es) (filter (is_after after) es)) ≡ n ∷ later (Some n) (e ∷ es)
    by true test rest found =
        let same : e.exchange.number ≡ n = cc found in
        ap (λ ns. e.exchange.number ∷ ns) (all_behind after e es up.1 test ∙ sym (not_itself e es up.1)) ∙ ap (λ m. m ∷ later (Some m) (e ∷ es)) same
    by false test rest found =
        let above : e.exchange.number + 1 ≤ n = next_above after n (e.exchange.number + 1) es up.1 found in
        rest found ∙ ap (λ ns. n ∷ ns) (sym (not_before n e es (omega (arith, above))))

-- ---- and it may be over

out_later : (n : ℕ) (es : List Entry) → later (Some n) (without n es) ≡ later (Some n) es
out_later n [] = refl
out_later n (e ∷ es) = by (is_number n e) refl (nat_lt n e.exchange.number) refl (out_later n es)
  where
    by : (b : Bool) → is_number n e ≡ b → (c : Bool) → nat_lt n e.exchange.number ≡ c → later (Some n) (without n es) ≡ later (Some n) es → later (Some n) (cond b es (e ∷ without n es)) ≡ numbers (cond c (e ∷ filter (is_after (Some n)) es) (filter (is_after (Some n)) es))
    by true is true less rest = absurd (grind (arith, nat_tests, is, less))
    by true is false less rest = refl
    by false is true less rest =
        ap (λ b. numbers (cond b (e ∷ filter (is_after (Some n)) (without n es)) (filter (is_after (Some n)) (without n es)))) less ∙ ap (λ ns. e.exchange.number ∷ ns) rest
    by false is false less rest = ap (λ b. numbers (cond b (e ∷ filter (is_after (Some n)) (without n es)) (filter (is_after (Some n)) (without n es)))) less ∙ rest

out_above : (n low : ℕ) (es : List Entry) → Above low (numbers es) → Above low (numbers (without n es))
out_above n low [] up = tt
out_above n low (e ∷ es) up = by (is_number n e) (out_above n (e.exchange.number + 1) es up.1)
  where
    by : (b : Bool) → Above (e.exchange.number + 1) (numbers (without n es)) → Above low (numbers (cond b es (e ∷ without n es)))
    by true rest = lower low (e.exchange.number + 1) (numbers es) (omega (arith, up.0)) up.1
    by false rest = (up.0, rest)

-- ---- one step

-- what is left to look at leads to the same
pub record Leads (after : Option ℕ) (most : ℕ) (old p : Parts) : Type 0 where
  pub is : all_given_up (later after p.flow.waiting) p ≡ all_given_up (numbers old.flow.waiting) old
  pub order : Above 0 (numbers p.flow.waiting)
  pub few : length (later after p.flow.waiting) ≤ most

pub leads_first : (most : ℕ) (p : Parts) → AreInOrder (numbers p.flow.waiting) → length p.flow.waiting ≤ most → Leads None most p p
leads_first most p rises few = record {
  is = ap (λ ns. all_given_up ns p) (all_later p.flow.waiting);
  order = above_none (numbers p.flow.waiting) rises;
  few = subst (λ m. m ≤ most) (sym (ap (λ (ns : List ℕ). length ns) (all_later p.flow.waiting) ∙ length-map p.flow.waiting (λ (e : Entry). e.exchange.number))) few;
}

pub leads_next : (after : Option ℕ) (n most : ℕ) (old p q : Parts) → Leads after most old p → next after p.flow.waiting ≡ Some n → q ≡ given_up_if n p → Leads (Some n) (most - 1) old q
unfolding all_given_up
leads_next after n most old p q leads found is = subst (λ r. Leads (Some n) (most - 1) old r) (sym is) (by (is_useless p.cache p.seats (entry_of n p.flow)) refl)
  where
    left : later after p.flow.waiting ≡ n ∷ later (Some n) p.flow.waiting
    left = next_later after n 0 p.flow.waiting leads.order found

    fewer : length (later (Some n) p.flow.waiting) ≤ most - 1
    fewer = let one : length (n ∷ later (Some n) p.flow.waiting) ≤ most = subst (λ m. m ≤ most) (ap (λ (ns : List ℕ). length ns) left) leads.few in omega (arith, one)

    step : all_given_up (later (Some n) p.flow.waiting) (given_up_if n p) ≡ all_given_up (numbers old.flow.waiting) old
    step = ap (λ ns. all_given_up ns p) (sym left) ∙ leads.is

    by : (b : Bool) → is_useless p.cache p.seats (entry_of n p.flow) ≡ b → Leads (Some n) (most - 1) old (elim b as (λ t. Parts) [ true ↦ ended n p | false ↦ p ])
    by true test = record {
      is = ap (λ ns. all_given_up ns (ended n p)) (out_later n p.flow.waiting)
          ∙ ap (λ (b : Bool). all_given_up (later (Some n) p.flow.waiting) (elim b as (λ t. Parts) [ true ↦ ended n p | false ↦ p ])) (sym test) ∙ step;
      order = out_above n 0 p.flow.waiting leads.order;
      few = subst (λ (ns : List ℕ). length ns ≤ most - 1) (sym (out_later n p.flow.waiting)) fewer;
    }
    by false test = record {
      is = ap (λ (b : Bool). all_given_up (later (Some n) p.flow.waiting) (elim b as (λ t. Parts) [ true ↦ ended n p | false ↦ p ])) (sym test) ∙ step;
      order = leads.order;
      few = fewer;
    }

-- none is left
pub leads_over : (after : Option ℕ) (most : ℕ) (old p : Parts) → Leads after most old p → next after p.flow.waiting ≡ None → p ≡ all_given_up (numbers old.flow.waiting) old
unfolding all_given_up
leads_over after most old p leads none = sym (ap (λ ns. all_given_up ns p) (none_later after p.flow.waiting none)) ∙ leads.is

pub leads_out : (after : Option ℕ) (old p : Parts) → Leads after 0 old p → p ≡ all_given_up (numbers old.flow.waiting) old
unfolding all_given_up
leads_out after old p leads = sym (ap (λ ns. all_given_up ns p) (empty (later after p.flow.waiting) leads.few)) ∙ leads.is
  where
    empty : (ns : List ℕ) → length ns ≤ 0 → ns ≡ []
    empty [] few = refl
    empty (n ∷ ns) few = absurd (omega (arith, few))
