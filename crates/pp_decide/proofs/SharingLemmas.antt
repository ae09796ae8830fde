-- The first of those that are shared, and of one more.
use Rattle.std.proofs.Common.{◌≡◌, ◌+◌, ℕ, true, false, cond, List, take, slice_get, refl, sym, ◌∙◌, ap, Option, Some, None}
use Rattle.std.specs.Prelude.{min, option_and_then}
use Rattle.std.specs.List.{filter_map, reduce}
use Rattle.pp_flow.specs.declared.entry.Entry.{Entry}
use Rattle.pp_state.specs.Readers.{of_both}
use Rattle.pp_decide.specs.Sharing.{earlier, is_shared, shared_number}
use Rattle.pp_state.proofs.Walks.{reduced_next}

earlier_is : (first : Option ℕ) (n : ℕ) → of_both min first (Some n) ≡ Some (earlier first n)
earlier_is None n = refl
earlier_is (Some m) n = refl

pub one_more : (key : List ℕ) (e : Entry) (before after : Option ℕ) (n : ℕ) → is_shared key e ≡ true → after ≡ Some n → n ≡ earlier before e.exchange.number → after ≡ of_both min before (option_and_then (shared_number key) (Some e))
one_more key e before after n shared is first =
    is ∙ ap Some first ∙ sym (earlier_is before e.exchange.number) ∙ ap (λ b. of_both min before (cond b (Some e.exchange.number) None)) (sym shared)

pub no_more : (key : List ℕ) (e : Entry) (before after : Option ℕ) → is_shared key e ≡ false → after ≡ before → after ≡ of_both min before (option_and_then (shared_number key) (Some e))
no_more key e before after not is = is ∙ ap (λ b. of_both min before (cond b (Some e.exchange.number) None)) (sym not)

pub first_next : (key : List ℕ) (es : List Entry) (i : ℕ) (x : Option Entry) (before after : Option ℕ) → x ≡ slice_get es i → before ≡ reduce min (filter_map (shared_number key) (take i es))
    → after ≡ of_both min before (option_and_then (shared_number key) x) → after ≡ reduce min (filter_map (shared_number key) (take (i + 1) es))
first_next key es i x before after at first is =
    is ∙ ap (λ b. of_both min b (option_and_then (shared_number key) x)) first ∙ sym (reduced_next min (shared_number key) es i x at)
