-- One pass over the lengths of a head finds what they say together.
use Rattle.std.proofs.Common.{◌≡◌, ℕ, Bool, true, false, ◌==◌, ◌&&◌, not, List, [], ◌∷◌, ap, sym, ◌∙◌, refl, is_some, slice_get, subst, inl, inr, eq-eqb, Option, Some, None, Result, Ok, Err}
use Rattle.std.specs.List.{list_all, filter_map, cons_option}
use Rattle.std.proofs.lemmas.Bool.{ne_eqb}
use Rattle.std.proofs.lemmas.Bool.Decides.{eqb_tells}
use Rattle.pp_text.specs.Numbers.{number_of}
use Rattle.pp_framing.specs.Framing.{all_equal, length_of, is_other_length}
use Rattle.pp_framing.specs.declared.framing.FramingFault.{FramingFault}
use Rattle.pp_framing.specs.declared.framing.FramingFault.TheVariants.{TwoLengths, BadLength}

-- what the values say, the length and a fault of those before them being known
abbrev pub length_from : Option ℕ → Bool → List (List ℕ) → Result (Option ℕ) FramingFault
length_from length is_bad [] = elim is_bad [ true ↦ Err BadLength | false ↦ Ok length ]
length_from length is_bad (value ∷ values) = elim (number_of value) [
  | None ↦ length_from length true values
  | Some n ↦ elim (is_other_length length n) [ true ↦ Err TwoLengths | false ↦ length_from (Some n) is_bad values ]
]

-- the lengths so far, where one was read
abbrev and_lengths : Option ℕ → List ℕ → List ℕ
and_lengths None lengths = lengths
and_lengths (Some n) lengths = n ∷ lengths

-- what the values say, as `length_of` does, with what is known of those before them
abbrev length_with : Option ℕ → Bool → Bool → List ℕ → Result (Option ℕ) FramingFault
length_with length is_bad all_read lengths = elim (all_equal (and_lengths length lengths)) [
  | false ↦ Err TwoLengths
  | true ↦ elim (not is_bad && all_read) [ true ↦ Ok (slice_get (and_lengths length lengths) 0) | false ↦ Err BadLength ]
]

abbrev all_numbers : List (List ℕ) → Bool
all_numbers values = list_all (λ value. is_some (number_of value)) values

-- one value, being this number or none
length_from-step : (number : Option ℕ) (length : Option ℕ) (is_bad : Bool) (values : List (List ℕ))
    → ((length : Option ℕ) (is_bad : Bool) → length_from length is_bad values ≡ length_with length is_bad (all_numbers values) (filter_map number_of values))
    → elim number [
      | None ↦ length_from length true values
      | Some n ↦ elim (is_other_length length n) [ true ↦ Err TwoLengths | false ↦ length_from (Some n) is_bad values ]
    ] ≡ length_with length is_bad (is_some number && all_numbers values) (cons_option number (filter_map number_of values))
length_from-step None length true values again = again length true
length_from-step None length false values again = again length true
length_from-step (Some n) None is_bad values again = again (Some n) is_bad
length_from-step (Some n) (Some m) is_bad values again =
    let all : Bool = all_numbers values in
    let lengths : List ℕ = filter_map number_of values in
    elim (eqb_tells m n) [
      | inl same ↦
          ap (λ t. elim (not t) [ true ↦ Err TwoLengths | false ↦ length_from (Some n) is_bad values ]) same.0
          ∙ again (Some n) is_bad
          ∙ subst (λ (k : ℕ). length_with (Some n) is_bad all lengths ≡ length_with (Some k) is_bad all (n ∷ lengths)) (sym same.1)
          (sym (ap (λ t. elim (t && list_all (λ m. m == n) lengths) [
            | false ↦ Err TwoLengths
            | true ↦ elim (not is_bad && all) [ true ↦ Ok (Some n) | false ↦ Err BadLength ]
          ]) (eq-eqb n n refl)))
      | inr other ↦
          ap (λ t. elim (not t) [ true ↦ Err TwoLengths | false ↦ length_from (Some n) is_bad values ]) other.0
          ∙ sym (ap (λ t. elim (t && list_all (λ k. k == m) lengths) [
            | false ↦ Err TwoLengths
            | true ↦ elim (not is_bad && all) [ true ↦ Ok (Some m) | false ↦ Err BadLength ]
          ]) (ne_eqb n m (λ e. other.1 (sym e))))
    ]

length_from-with : (length : Option ℕ) (is_bad : Bool) (values : List (List ℕ)) → length_from length is_bad values ≡ length_with length is_bad (all_numbers values) (filter_map number_of values)
length_from-with None true [] = refl
length_from-with None false [] = refl
length_from-with (Some n) true [] = refl
length_from-with (Some n) false [] = refl
length_from-with length is_bad (value ∷ values) = length_from-step (number_of value) length is_bad values (λ length is_bad. length_from-with length is_bad values)

pub length_from-start : (values : List (List ℕ)) → length_from None false values ≡ length_of values
length_from-start values = length_from-with None false values
