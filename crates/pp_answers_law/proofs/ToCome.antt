-- The span that comes is the law's.
use Rattle.std.proofs.Common.{◌≡◌, ◌<◌, refl, subst, ap, ◌∙◌, ℕ, Bool, true, false, ◌+◌, ◌-◌, ◌^◌, ◌==◌, ◌&&◌, cond, not, List, Some, None, Option, nat_le, nat_lt, arith}
use Rattle.std.proofs.lemmas.Bool.Decides.{nat_tests}
use Rattle.std.specs.List.{list_all}
use Rattle.std.specs.Char.{is_digit}
use Rattle.std.specs.Prelude.{bytes_eq, codes, min, option_and_then, ⊤}
use Rattle.pp_head.specs.Response.{Response}
use Rattle.pp_text.specs.Bytes.{is_empty, is_same}
use Rattle.pp_text.specs.Fields.{Field}
use Rattle.pp_text.specs.Numbers.{number_of, value_of}
use Rattle.pp_text.specs.Parts.{cut_at, sole}
use Rattle.pp_valid.specs.ContentRanges.{content_range_of, range_in as range_of_parts, range_of_value, response_range, span_in, span_of, unit_range}
use Rattle.pp_valid.specs.EndToEnd.{end_to_end_values}
use Rattle.pp_valid.specs.declared.content_range.ContentRange.{ContentRange}
use Rattle.pp_valid.specs.declared.content_range.ContentRange.TheVariants.{Span, Unsatisfied}
use Rattle.pp_law.specs.OwnHeads.{end_in as law_end, first_in as law_first, range_in}
use Rattle.pp_answers.specs.OwnHeads.{end_in, first_in}
use Rattle.pp_answers_law.specs.Spans.{SpansAreTheLaws}

-- its last byte has a number behind it that 64 bits hold
abbrev Fits : Option ContentRange → Type 0
Fits None = ⊤
Fits (Some (Unsatisfied n)) = ⊤
Fits (Some (Span first last n)) = last + 1 < 2 ^ 64

then_fits : {A : Type 0} (f : A → Option ContentRange) (o : Option A) → ((x : A) → o ≡ Some x → Fits (f x)) → Fits (option_and_then f o)
then_fits f None each = tt
then_fits f (Some x) each = each x refl

both : (a b : Bool) → (a && b) ≡ true → b ≡ true
both true b is = is
both false true is = refl
both false false is = is

-- what 64 bits hold is read
small : (text : List ℕ) (n : ℕ) → number_of text ≡ Some n → n < 2 ^ 64
small text n is = by (not (is_empty text) && list_all (λ b. is_digit b 10) text && nat_lt (value_of 10 text) (2 ^ 64)) refl is
  where
    here : (v : ℕ) → nat_lt v (2 ^ 64) ≡ true → Some v ≡ Some n → n < 2 ^ 64
    here v less same = subst (λ (m : ℕ). m < 2 ^ 64) (ap (λ (o : Option ℕ). elim o as (λ t. ℕ) [ None ↦ n | Some m ↦ m ]) same) (grind (arith, nat_tests))

    by : (b : Bool) → (not (is_empty text) && list_all (λ c. is_digit c 10) text && nat_lt (value_of 10 text) (2 ^ 64)) ≡ b → cond b (Some (value_of 10 text)) None ≡ Some n → n < 2 ^ 64
    by true t same = here (value_of 10 text) (both (not (is_empty text) && list_all (λ c. is_digit c 10) text) (nat_lt (value_of 10 text) (2 ^ 64)) t) same
    by false t same = absurd (let x : None ≡ Some n = same in cc x)

spans : (n first last : ℕ) → n < 2 ^ 64 → Fits (span_of first last n)
spans n first last less = by (nat_le first last && nat_lt last n) refl
  where
    fits : nat_lt last n ≡ true → last + 1 < 2 ^ 64
    fits is = grind (arith, nat_tests)

    by : (b : Bool) → (nat_le first last && nat_lt last n) ≡ b → Fits (cond b (Some (Span first last n)) None)
    by true is = fits (both (nat_le first last) (nat_lt last n) is)
    by false is = tt

ends : (n : ℕ) (parts : List ℕ × List ℕ) → n < 2 ^ 64 → Fits (span_in parts n)
ends n parts less = then_fits (λ first. option_and_then (λ last. span_of first last n) (number_of parts.1)) (number_of parts.0) (λ first at. then_fits (λ last. span_of first last n) (number_of parts.1) (λ last to. spans n first last less))

ranges : (n : ℕ) (parts : List ℕ × List ℕ) → n < 2 ^ 64 → Fits (range_of_parts parts n)
ranges n parts less = by (bytes_eq parts.0 (codes "*"))
  where
    by : (b : Bool) → Fits (cond b (Some (Unsatisfied n)) (option_and_then (λ these. span_in these n) (cut_at 45 parts.0)))
    by true = tt
    by false = then_fits (λ these. span_in these n) (cut_at 45 parts.0) (λ these is. ends n these less)

responses : (parts : List ℕ × List ℕ) → Fits (response_range parts)
responses parts = then_fits (range_of_parts parts) (number_of parts.1) (λ n is. ranges n parts (small parts.1 n is))

units : (parts : List ℕ × List ℕ) → Fits (unit_range parts)
units parts = by (is_same (codes "bytes") parts.0)
  where
    by : (b : Bool) → Fits (cond b (option_and_then response_range (cut_at 47 parts.1)) None)
    by true = then_fits response_range (cut_at 47 parts.1) (λ these is. responses these)
    by false = tt

values : (fields : List Field) → Fits (content_range_of fields)
values fields = then_fits range_of_value (sole (end_to_end_values (codes "content-range") fields)) (λ value is. then_fits unit_range (cut_at 32 value) (λ these at. units these))

fits_in : (head : Response) → Fits (range_in head)
fits_in head = by (head.status == 206)
  where
    by : (b : Bool) → Fits (elim b as (λ t. Option ContentRange) [ true ↦ content_range_of head.fields | false ↦ None ])
    by true = values head.fields
    by false = tt

the_least : (last : ℕ) → last + 1 < 2 ^ 64 → min (last + 1) (2 ^ 64 - 1) ≡ last + 1
the_least last less = omega (arith, less)

same_first : (range : Option ContentRange) → first_in range ≡ law_first range
same_first None = refl
same_first (Some (Unsatisfied n)) = refl
same_first (Some (Span first last n)) = refl

same_end : (range : Option ContentRange) (n : ℕ) → Fits range → end_in range n ≡ law_end range n
same_end None n fits = refl
same_end (Some (Unsatisfied m)) n fits = refl
same_end (Some (Span first last m)) n fits = the_least last fits

pub spans_same : SpansAreTheLaws
spans_same head v = ap (λ (from : ℕ). (from, end_in (range_in head) v.length)) (same_first (range_in head)) ∙ ap (λ (to : ℕ). (law_first (range_in head), to)) (same_end (range_in head) v.length (fits_in head))
