-- `response_at` is the grammar's answer and the only one, and more bytes leave it.
use Rattle.std.proofs.Common.{◌≡◌, ℕ, ◌+◌, ◌<◌, ◌≤◌, Bool, true, false, List, [], ◌∷◌, ◌++◌, length, refl, sym, ap, ◌∙◌, subst, arith, append_assoc, append-nil, length-append, flat_map, take, drop}
use Rattle.std.proofs.Common.{Option, Some, None}
use Rattle.std.specs.Char.{is_ascii_digit, digit_value}
use Rattle.std.proofs.lemmas.Str.{digit_value_digit}
use Rattle.std.proofs.lemmas.Bool.Decides.{nat_tests}
use Rattle.std.specs.Str.Parse.{digits_value}
use Rattle.std.proofs.lemmas.Bool.{both_ways}
use Rattle.std.proofs.lemmas.List.{length-map, length-take, take-append-drop}
use Rattle.httparse.specs.Grammar.{AllPass, print_end, print_blank, print_version, print_reason, reason_phrase, print_section, print_field, ResponseHead as Head, print_response, ReadsResponse, NeverHasResponse}
use Rattle.httparse.specs.Spans.{name_and_value}
use Rattle.httparse.proofs.PieceLemmas.{Never_elim, NotYet_elim}
use Rattle.httparse.proofs.GrammarLemmas.{response_unique, ReadsResponse-append, print_response-append}
use Rattle.pp_head.specs.Limits.{is_limit_reached, IsLimitReached}
use Rattle.pp_head.specs.Step.{Step, Done, Short, Wrong}
use Rattle.pp_head.specs.Read.{Read, Whole, TooLong, Bad, More, read_by, Stays, IsCutAt}
use Rattle.pp_head.specs.Response.{Response, find_response, is_within, response_of, response_at}
use Rattle.pp_head.specs.Agreement.{BeginsWithResponse, IsResponseRead, IsResponseExact, IsResponseWithin}
use Rattle.pp_head.proofs.SpanLemmas.{take_front}
use Rattle.pp_head.proofs.LimitLemmas.{within_limits, is_within-true, limit_reached, is_limit_reached-true, response_lines, reached_by, response_ends, ends_before, reached-append}
use Rattle.pp_head.proofs.FieldLemmas.{fields_text, fields_len-le, some_end}
use Rattle.pp_head.proofs.ResponseLemmas.{ResponseTells, find_response_tells}

-- a head that exceeds the limits is too long
pub response_too_long : (bytes : List ℕ) (h : Head) (rest : List ℕ) → ReadsResponse bytes h rest → is_within h ≡ false → IsResponseRead bytes TooLong
response_too_long bytes h rest reads is = (
  (λ k begins. both_ways _ is
      (subst (λ (g : Head). is_within g ≡ true) (response_unique bytes k h begins.rest rest begins.reads reads).0 (is_within-true (print_response k) (length k.fields) begins.limits))),
  reached_by bytes (print_response h) rest (length h.fields) reads.1 (response_lines bytes h rest reads) is,
)

step_read : (bytes : List ℕ) (s : Step Head) → ResponseTells bytes s → IsResponseRead bytes (read_by is_within response_of bytes s)
step_read bytes (Done h rest) told = by (is_within h) refl
  where
    by : (v : Bool) → is_within h ≡ v → IsResponseRead bytes (elim v [ true ↦ Whole (response_of h) | false ↦ TooLong ])
    by true is = (h, record { rest = rest; reads = told.says; limits = within_limits (print_response h) (length h.fields) is }, refl)
    by false is = response_too_long bytes h rest told.says is
step_read bytes Short told = by (is_limit_reached bytes) refl
  where
    by : (v : Bool) → is_limit_reached bytes ≡ v → IsResponseRead bytes (elim v [ true ↦ TooLong | false ↦ More ])
    by true is = ((λ k begins. NotYet_elim told.says.0 (k, begins.rest, begins.reads)), limit_reached bytes is)
    by false is = ((λ reached. both_ways _ is (is_limit_reached-true bytes reached)), (λ k rest reads. NotYet_elim told.says.0 (k, rest, reads)), told.says.1)
step_read bytes Wrong told = by (is_limit_reached bytes) refl
  where
    by : (v : Bool) → is_limit_reached bytes ≡ v → IsResponseRead bytes (elim v [ true ↦ TooLong | false ↦ Bad ])
    by true is = ((λ k begins. Never_elim told.says [] (k, begins.rest ++ [], ReadsResponse-append bytes k begins.rest [] begins.reads)), limit_reached bytes is)
    by false is = (
      (λ reached. both_ways _ is (is_limit_reached-true bytes reached)),
      (λ more k rest reads. Never_elim told.says more (k, rest, reads)),
    )

pub response_holds : (bytes : List ℕ) → IsResponseRead bytes (response_at bytes)
unfolding response_at
response_holds bytes = step_read bytes (find_response bytes) (find_response_tells bytes)

-- ---- the only one

pub never_has : (bytes : List ℕ) → NeverHasResponse bytes → (h : Head) (rest : List ℕ) → ReadsResponse bytes h rest → ⊥
never_has bytes never h rest reads = never [] h (rest ++ []) (ReadsResponse-append bytes h rest [] reads)

one_answer : (bytes : List ℕ) (a b : Read Response) → IsResponseRead bytes a → IsResponseRead bytes b → a ≡ b
one_answer bytes (Whole r) (Whole q) (h, x, e) (k, y, f) = ap Whole (e ∙ ap response_of (response_unique bytes h k x.rest y.rest x.reads y.reads).0 ∙ sym f)
one_answer bytes (Whole r) TooLong (h, x, e) y = absurd (y.0 h x)
one_answer bytes (Whole r) Bad (h, x, e) y = absurd (never_has bytes y.1 h x.rest x.reads)
one_answer bytes (Whole r) More (h, x, e) y = absurd (y.1 h x.rest x.reads)
one_answer bytes TooLong (Whole q) x (k, y, f) = absurd (x.0 k y)
one_answer bytes TooLong TooLong x y = refl
one_answer bytes TooLong Bad x y = absurd (y.0 x.1)
one_answer bytes TooLong More x y = absurd (y.0 x.1)
one_answer bytes Bad (Whole q) x (k, y, f) = absurd (never_has bytes x.1 k y.rest y.reads)
one_answer bytes Bad TooLong x y = absurd (x.0 y.1)
one_answer bytes Bad Bad x y = refl
one_answer bytes Bad More x y = let m = y.2 in absurd (x.1 m.0 m.1 [] m.2)
one_answer bytes More (Whole q) x (k, y, f) = absurd (x.1 k y.rest y.reads)
one_answer bytes More TooLong x y = absurd (x.0 y.1)
one_answer bytes More Bad x y = let m = x.2 in absurd (y.1 m.0 m.1 [] m.2)
one_answer bytes More More x y = refl

pub response_only : (bytes : List ℕ) (answer : Read Response) → IsResponseRead bytes answer → answer ≡ response_at bytes
response_only bytes answer read = one_answer bytes answer (response_at bytes) read (response_holds bytes)

pub response_exact : (bytes : List ℕ) → IsResponseExact bytes
response_exact bytes = record { holds = response_holds bytes; only = response_only bytes }

-- ---- what follows for a whole head

response_texts : (h : Head) → length (reason_phrase h.reason) + length (flat_map print_field h.fields) + 2 ≤ length (print_response h)
response_texts h =
    let a = print_blank h.blank in
    let v = print_version h.minor in
    let r = print_reason h.reason in
    let e = print_end h.line_end in
    let s = print_section h.fields h.last in
    let flat = sym (append-nil (print_response h)) ∙ print_response-append h [] in
    omega (
      arith,
      ap length flat,
      length-append a (v ++ 32 ∷ (h.digits ++ (r ++ (e ++ (s ++ []))))),
      length-append v (32 ∷ (h.digits ++ (r ++ (e ++ (s ++ []))))),
      length-append h.digits (r ++ (e ++ (s ++ []))),
      length-append r (e ++ (s ++ [])),
      length-append e (s ++ []),
      length-append s [],
      length-append (flat_map print_field h.fields) (print_end h.last),
      phrase_len h.reason,
      some_end h.last,
    )
  where
    phrase_len : (reason : Option (List ℕ)) → length (reason_phrase reason) ≤ length (print_reason reason)
    phrase_len None = omega arith
    phrase_len (Some phrase) = omega arith

digit_small : (b : ℕ) → is_ascii_digit b ≡ true → digit_value b ≤ 9
digit_small b is = omega (arith, digit_value_digit b (range b is), (range b is).1)
  where
    range : (b : ℕ) → is_ascii_digit b ≡ true → (48 ≤ b) × (b ≤ 57)
    range b is = (grind (arith, nat_tests), grind (arith, nat_tests))

-- three digits make a number below a thousand
code_small : (digits : List ℕ) → length digits ≡ 3 → AllPass is_ascii_digit digits → digits_value 10 digits < 1000
code_small [] three all = absurd (omega arith)
code_small (a ∷ []) three all = absurd (omega arith)
code_small (a ∷ b ∷ []) three all = absurd (omega arith)
code_small (a ∷ b ∷ c ∷ []) three all = omega (arith, digit_small a (all 0 0 (omega arith)), digit_small b (all 1 0 (omega arith)), digit_small c (all 2 0 (omega arith)))
code_small (a ∷ b ∷ c ∷ d ∷ digits) three all = absurd (omega arith)

within_of : (bytes : List ℕ) (h : Head) → BeginsWithResponse bytes h → IsResponseWithin bytes (response_of h)
within_of bytes h begins = record {
  some = omega (arith, response_texts h);
  within = omega (arith, ap length begins.reads.1, length-append (print_response h) begins.rest);
  short = begins.limits.short;
  few = omega (arith, length-map h.fields name_and_value, begins.limits.few);
  minor = begins.reads.0.minor;
  status = code_small h.digits begins.reads.0.digits.0 begins.reads.0.digits.1;
  reason = begins.reads.0.reason;
  fields = fields_text h.fields begins.reads.0.fields;
  texts = omega (arith, response_texts h, fields_len-le h.fields);
}

whole_within : (bytes : List ℕ) (a : Read Response) (r : Response) → a ≡ Whole r → IsResponseRead bytes a → IsResponseWithin bytes r
whole_within bytes (Whole q) r is (h, begins, e) = let same : response_of h ≡ r = cc (is, e) in subst (IsResponseWithin bytes) same (within_of bytes h begins)
whole_within bytes TooLong r is read = absurd (cc is)
whole_within bytes Bad r is read = absurd (cc is)
whole_within bytes More r is read = absurd (cc is)

pub response_within : (bytes : List ℕ) (r : Response) → response_at bytes ≡ Whole r → IsResponseWithin bytes r
response_within bytes r is = whole_within bytes (response_at bytes) r is (response_holds bytes)

-- ---- more bytes

-- a head that stands there once more has come stood there before, where a limit was reached
stood : (bytes more : List ℕ) → IsLimitReached bytes → (h : Head) → BeginsWithResponse (bytes ++ more) h → BeginsWithResponse bytes h
stood bytes more reached h begins =
    let before = ends_before (print_response h) bytes (length h.fields) (response_ends h) begins.limits reached begins.rest more begins.reads.1 in
    record { rest = before.0; reads = (begins.reads.0, before.1); limits = begins.limits }

stays_by : (bytes : List ℕ) (a : Read Response) → IsResponseRead bytes a → Stays response_at bytes a
stays_by bytes (Whole r) (h, begins, e) = λ more.
    sym (response_only (bytes ++ more) (Whole r) (h, record { rest = begins.rest ++ more; reads = ReadsResponse-append bytes h begins.rest more begins.reads; limits = begins.limits }, e))
stays_by bytes TooLong (none, reached) = λ more.
    sym (response_only (bytes ++ more) TooLong ((λ h begins. none h (stood bytes more reached h begins)), reached-append bytes more reached))
stays_by bytes Bad (open_, never) = λ more. by more (is_limit_reached (bytes ++ more)) refl
  where
    by : (more : List ℕ) (v : Bool) → is_limit_reached (bytes ++ more) ≡ v → response_at (bytes ++ more) ≡ elim v as (λ _. Read Response) [ true ↦ TooLong | false ↦ Bad ]
    by more true is = sym (response_only (bytes ++ more) TooLong ((λ h begins. never more h begins.rest begins.reads), limit_reached (bytes ++ more) is))
    by more false is = sym (response_only (bytes ++ more) Bad (
      (λ reached. both_ways _ is (is_limit_reached-true (bytes ++ more) reached)),
      (λ last h rest reads. never (more ++ last) h rest (subst (λ (t : List ℕ). ReadsResponse t h rest) (append_assoc bytes more last) reads)),
    ))
stays_by bytes More read = tt

pub response_stays : (bytes : List ℕ) → Stays response_at bytes (response_at bytes)
response_stays bytes = stays_by bytes (response_at bytes) (response_holds bytes)

-- ---- where a whole head is cut

response_enough : (bytes : List ℕ) (r : Response) → IsResponseRead bytes (Whole r) → response_at (take r.length bytes) ≡ Whole r
response_enough bytes r (h, begins, e) =
    let own = take_front bytes (print_response h) begins.rest r.length begins.reads.1 (ap (λ (q : Response). q.length) e) in
    sym (response_only (take r.length bytes) (Whole r) (h, record { rest = []; reads = (begins.reads.0, own ∙ sym (append-nil (print_response h))); limits = begins.limits }, e))

fewer_by : (bytes : List ℕ) (r : Response) (n : ℕ) → n < r.length → response_at bytes ≡ Whole r → (a : Read Response) → response_at (take n bytes) ≡ a
    → Stays response_at (take n bytes) a → a ≡ More
fewer_by bytes r n less is (Whole q) before stays =
    let more : response_at bytes ≡ Whole q = ap response_at (sym (take-append-drop n bytes)) ∙ stays (drop n bytes) in
    let same : q ≡ r = cc (more, is) in
    absurd (omega (arith, less, (response_within (take n bytes) q before).within, length-take n bytes, ap (λ (p : Response). p.length) same))
fewer_by bytes r n less is TooLong before stays =
    let more : response_at bytes ≡ TooLong = ap response_at (sym (take-append-drop n bytes)) ∙ stays (drop n bytes) in absurd (cc (more, is))
fewer_by bytes r n less is Bad before stays = by (is_limit_reached (take n bytes ++ drop n bytes)) (ap response_at (sym (take-append-drop n bytes)) ∙ stays (drop n bytes))
  where
    by : (v : Bool) → response_at bytes ≡ elim v as (λ _. Read Response) [ true ↦ TooLong | false ↦ Bad ] → ◌≡◌ {A = Read Response} Bad More
    by true more = absurd (cc (more, is))
    by false more = absurd (cc (more, is))
fewer_by bytes r n less is More before stays = refl

pub response_cut : (bytes : List ℕ) (r : Response) → response_at bytes ≡ Whole r → IsCutAt response_at bytes r.length r
response_cut bytes r is = record {
  enough = response_enough bytes r (subst (IsResponseRead bytes) is (response_holds bytes));
  fewer = λ n less. fewer_by bytes r n less is (response_at (take n bytes)) refl (response_stays (take n bytes));
}
