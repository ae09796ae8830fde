-- The limits: as tests and as facts, and what a head has of them.
use Rattle.std.proofs.Common.{◌≡◌, ℕ, ◌+◌, ◌≤◌, ◌⊎◌, true, false, ◌&&◌, ◌||◌, List, [], ◌∷◌, ◌++◌, length, refl, sym, ap, ◌∙◌, arith, append_assoc, append-nil, length-append, inl, inr, flat_map}
use Rattle.std.specs.Prelude.{nat_le}
use Rattle.std.proofs.lemmas.List.Sums.{sum_by-append}
use Rattle.std.proofs.lemmas.Bool.Decides.{nat_tests}
use Rattle.httparse.specs.Grammar.{LineEnd, crlf, lf, print_end, print_blank, print_version, print_reason, Field, print_field, print_section, RequestHead as Head, print_request, ReadsRequest, ResponseHead as Answer, print_response, ReadsResponse}
use Rattle.httparse.specs.Spans.{RequestExceeds, ResponseExceeds}
use Rattle.httparse.proofs.GrammarLemmas.{print_request-append, print_response-append, cons-append}
use Rattle.pp_head.specs.Limits.{line_ends, is_within_limits, is_limit_reached, IsWithinLimits, IsLimitReached}

-- ---- tests and facts

pub within_limits : (text : List ℕ) (fields : ℕ) → is_within_limits text fields ≡ true → IsWithinLimits text fields
within_limits text fields is = record { few = all.0; short = all.1; lines = all.2 }
  where
    by : (f n l : ℕ) → (nat_le f 100 && (nat_le n 16384 && nat_le l 102)) ≡ true → (f ≤ 100) × (n ≤ 16384) × (l ≤ 102)
    by f n l is = (grind (arith, nat_tests), grind (arith, nat_tests), grind (arith, nat_tests))

    all : (fields ≤ 100) × (length text ≤ 16384) × (line_ends text ≤ 102)
    all = by fields (length text) (line_ends text) is

pub is_within-true : (text : List ℕ) (fields : ℕ) → IsWithinLimits text fields → is_within_limits text fields ≡ true
is_within-true text fields limits = by fields (length text) (line_ends text) limits.few limits.short limits.lines
  where
    by : (f n l : ℕ) → f ≤ 100 → n ≤ 16384 → l ≤ 102 → (nat_le f 100 && (nat_le n 16384 && nat_le l 102)) ≡ true
    by f n l few short lines = grind (arith, nat_tests)

pub limit_reached : (bytes : List ℕ) → is_limit_reached bytes ≡ true → IsLimitReached bytes
limit_reached bytes is = by (length bytes) (line_ends bytes) is
  where
    by : (n l : ℕ) → (nat_le 16384 n || nat_le 102 l) ≡ true → (16384 ≤ n) ⊎ (102 ≤ l)
    by n l is = grind (arith, nat_tests)

pub is_limit_reached-true : (bytes : List ℕ) → IsLimitReached bytes → is_limit_reached bytes ≡ true
is_limit_reached-true bytes reached = by (length bytes) (line_ends bytes) reached
  where
    by : (n l : ℕ) → (16384 ≤ n) ⊎ (102 ≤ l) → (nat_le 16384 n || nat_le 102 l) ≡ true
    by n l reached = grind (arith, nat_tests)

-- ---- line ends

pub line_ends-append : (xs ys : List ℕ) → line_ends (xs ++ ys) ≡ line_ends xs + line_ends ys
line_ends-append xs ys = sum_by-append _ xs ys

line_ends-print_end : (e : LineEnd) → line_ends (print_end e) ≡ 1
line_ends-print_end crlf = refl
line_ends-print_end lf = refl

one_a_field : (f : Field) → 1 ≤ line_ends (print_field f)
one_a_field f = omega (arith, line_ends-append (f.name ++ 58 ∷ f.raw) (print_end f.end), line_ends-print_end f.end)

of_fields : (fs : List Field) → length fs ≤ line_ends (flat_map print_field fs)
of_fields [] = omega arith
of_fields (f ∷ fs) = omega (arith, one_a_field f, of_fields fs, line_ends-append (print_field f) (flat_map print_field fs))

after_start : (start : List ℕ) (e last : LineEnd) (fs : List Field) (rest : List ℕ)
    → length fs + 2 ≤ line_ends (start ++ (print_end e ++ (print_section fs last ++ rest)))
after_start start e last fs rest = omega (
  arith,
  line_ends-append start (print_end e ++ (print_section fs last ++ rest)),
  line_ends-append (print_end e) (print_section fs last ++ rest),
  line_ends-append (print_section fs last) rest,
  line_ends-append (flat_map print_field fs) (print_end last),
  line_ends-print_end e,
  line_ends-print_end last,
  of_fields fs,
)

-- a head has two more line ends than fields
pub request_lines : (text : List ℕ) (h : Head) (rest : List ℕ) → ReadsRequest text h rest → length h.fields + 2 ≤ line_ends text
request_lines text h rest reads =
    rw (reads.1 ∙ print_request-append h rest ∙ start_of (print_blank h.blank) h.method h.target (print_version h.minor) (print_end h.line_end ++ (print_section h.fields h.last ++ rest)))
    (after_start (print_blank h.blank ++ (h.method ++ 32 ∷ (h.target ++ 32 ∷ print_version h.minor))) h.line_end h.last h.fields rest)
  where
    start_of : (a b c d e : List ℕ) → a ++ (b ++ 32 ∷ (c ++ 32 ∷ (d ++ e))) ≡ (a ++ (b ++ 32 ∷ (c ++ 32 ∷ d))) ++ e
    start_of a b c d e = simp (append_assoc, cons-append)

pub response_lines : (text : List ℕ) (h : Answer) (rest : List ℕ) → ReadsResponse text h rest → length h.fields + 2 ≤ line_ends text
response_lines text h rest reads =
    rw (reads.1 ∙ print_response-append h rest ∙ start_of (print_blank h.blank) (print_version h.minor) h.digits (print_reason h.reason) (print_end h.line_end ++ (print_section h.fields h.last ++ rest)))
    (after_start (print_blank h.blank ++ (print_version h.minor ++ 32 ∷ (h.digits ++ print_reason h.reason))) h.line_end h.last h.fields rest)
  where
    start_of : (a b c d e : List ℕ) → a ++ (b ++ 32 ∷ (c ++ (d ++ e))) ≡ (a ++ (b ++ 32 ∷ (c ++ d))) ++ e
    start_of a b c d e = simp append_assoc

-- ---- what reaches a limit

-- a head that exceeds the limits, at the front
pub reached_by : (bytes text rest : List ℕ) (fields : ℕ) → bytes ≡ text ++ rest → fields + 2 ≤ line_ends bytes → is_within_limits text fields ≡ false → IsLimitReached bytes
reached_by bytes text rest fields whole lines is =
    by fields (length text) (length rest) (line_ends text) (line_ends rest) (length bytes) (line_ends bytes) (ap length whole ∙ length-append text rest) (ap line_ends whole ∙ line_ends-append text rest) lines is
  where
    by : (f n m l k len all : ℕ) → len ≡ n + m → all ≡ l + k → f + 2 ≤ all → (nat_le f 100 && (nat_le n 16384 && nat_le l 102)) ≡ false → (16384 ≤ len) ⊎ (102 ≤ all)
    by f n m l k len all is_len is_all lines is = grind (arith, nat_tests)

of_lines : (text front rest : List ℕ) → text ≡ front ++ rest → 103 ≤ line_ends (front ++ 10 ∷ []) → IsLimitReached text
of_lines text front rest is many =
    inr (omega (arith, ap line_ends is ∙ line_ends-append front rest, line_ends-append front (10 ∷ [])))

-- more fields than there is room for
pub request_exceeds : (text : List ℕ) → RequestExceeds 100 text → IsLimitReached text
request_exceeds text (front, rest, is, h, reads, many) = of_lines text front rest is (omega (arith, request_lines (front ++ 10 ∷ []) h [] reads, many))

pub response_exceeds : (text : List ℕ) → ResponseExceeds 100 text → IsLimitReached text
response_exceeds text (front, rest, is, h, reads, many) = of_lines text front rest is (omega (arith, response_lines (front ++ 10 ∷ []) h [] reads, many))

-- more bytes do not take a limit back
pub reached-append : (bytes more : List ℕ) → IsLimitReached bytes → IsLimitReached (bytes ++ more)
reached-append bytes more (inl n) = inl (omega (arith, length-append bytes more))
reached-append bytes more (inr n) = inr (omega (arith, line_ends-append bytes more))

-- ---- a head ends with a line end

pub record EndsInLine (text : List ℕ) : Type 0 where
  pub before : List ℕ
  pub is : text ≡ before ++ 10 ∷ []

end_ends : (e : LineEnd) → EndsInLine (print_end e)
end_ends crlf = record { before = 13 ∷ []; is = refl }
end_ends lf = record { before = []; is = refl }

after_ends : (xs ys : List ℕ) → EndsInLine ys → EndsInLine (xs ++ ys)
after_ends xs ys e = record { before = xs ++ e.before; is = ap (λ (l : List ℕ). xs ++ l) e.is ∙ sym (append_assoc xs e.before (10 ∷ [])) }

pub request_ends : (h : Head) → EndsInLine (print_request h)
unfolding print_request
request_ends h = after_ends _ (print_section h.fields h.last) (after_ends _ (print_end h.last) (end_ends h.last))

pub response_ends : (h : Answer) → EndsInLine (print_response h)
unfolding print_response
response_ends h = after_ends _ (print_section h.fields h.last) (after_ends _ (print_end h.last) (end_ends h.last))

-- ---- two ways to part a text

-- of two fronts of one text, one is a front of the other
pub seam : (a b c d : List ℕ) → a ++ b ≡ c ++ d
    → ((x : List ℕ) × (a ≡ c ++ x) × (d ≡ x ++ b)) ⊎ ((x : List ℕ) × (c ≡ a ++ x) × (b ≡ x ++ d))
seam [] b c d e = inr (c, refl, e)
seam (p ∷ a) b [] d e = inl (p ∷ a, refl, sym e)
seam (p ∷ a) b (q ∷ c) d e = push (seam a b c d (cc e))
  where
    first : p ≡ q
    first = cc e

    push : ((x : List ℕ) × (a ≡ c ++ x) × (d ≡ x ++ b)) ⊎ ((x : List ℕ) × (c ≡ a ++ x) × (b ≡ x ++ d))
        → ((x : List ℕ) × (p ∷ a ≡ (q ∷ c) ++ x) × (d ≡ x ++ b)) ⊎ ((x : List ℕ) × (q ∷ c ≡ (p ∷ a) ++ x) × (b ≡ x ++ d))
    push (inl x) = inl (x.0, cc (first, x.1), x.2)
    push (inr x) = inr (x.0, cc (first, x.1), x.2)

-- a text that ends in a line, within the limits, ends before bytes that reach one do
pub ends_before : (text bytes : List ℕ) (fields : ℕ) → EndsInLine text → IsWithinLimits text fields → IsLimitReached bytes
    → (rest more : List ℕ) → bytes ++ more ≡ text ++ rest → (last : List ℕ) × (bytes ≡ text ++ last)
ends_before text bytes fields ends limits reached rest more e = by (seam bytes more text rest e)
  where
    long : length text ≡ length ends.before + 1
    long = ap length ends.is ∙ length-append ends.before (10 ∷ [])

    lines : line_ends text ≡ line_ends ends.before + 1
    lines = ap line_ends ends.is ∙ line_ends-append ends.before (10 ∷ [])

    too_far : (x : List ℕ) → ends.before ≡ bytes ++ x → IsLimitReached bytes → ⊥
    too_far x is (inl n) = absurd (omega (arith, limits.short, long, ap length is, length-append bytes x))
    too_far x is (inr n) = absurd (omega (arith, limits.lines, lines, ap line_ends is, line_ends-append bytes x))

    last_of : (y z : List ℕ) → text ≡ bytes ++ y → bytes ≡ ends.before ++ z → ◌≡◌ {A = List ℕ} (10 ∷ []) (z ++ y) → (last : List ℕ) × (bytes ≡ text ++ last)
    last_of y [] is before one = absurd (too_far [] (sym (append-nil ends.before) ∙ sym before ∙ sym (append-nil bytes)) reached)
    last_of [] (c ∷ z) is before one = ([], sym (append-nil bytes) ∙ sym is ∙ sym (append-nil text))
    last_of (d ∷ y) (c ∷ z) is before one = absurd (omega (arith, ap length one, length-append z (d ∷ y)))

    inside : (y : List ℕ) → text ≡ bytes ++ y
        → ((x : List ℕ) × (ends.before ≡ bytes ++ x) × (y ≡ x ++ 10 ∷ [])) ⊎ ((x : List ℕ) × (bytes ≡ ends.before ++ x) × (10 ∷ [] ≡ x ++ y))
        → (last : List ℕ) × (bytes ≡ text ++ last)
    inside y is (inl x) = absurd (too_far x.0 x.1 reached)
    inside y is (inr x) = last_of y x.0 is x.1 x.2

    by : ((x : List ℕ) × (bytes ≡ text ++ x) × (rest ≡ x ++ more)) ⊎ ((x : List ℕ) × (text ≡ bytes ++ x) × (more ≡ x ++ rest)) → (last : List ℕ) × (bytes ≡ text ++ last)
    by (inl x) = (x.0, x.1)
    by (inr x) = inside x.0 x.1 (seam ends.before (10 ∷ []) bytes x.0 (sym ends.is ∙ x.1))
