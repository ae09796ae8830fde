-- `request_at` is the grammar's answer and the only one, and more bytes leave it.
use Rattle.std.proofs.Common.{◌≡◌, ◌<◌, ℕ, ◌+◌, ◌≤◌, ◌⊎◌, Bool, true, false, List, [], ◌∷◌, ◌++◌, length, refl, sym, ap, ◌∙◌, subst, arith, append_assoc, append-nil, length-append, inl, inr, flat_map, take, drop}
use Rattle.std.specs.Prelude.{IsUtf8}
use Rattle.std.specs.Str.{is_utf8, chars}
use lib.Utf8.{encode}
use Rattle.std.proofs.lemmas.Str.{IsUtf8-from_is_utf8}
use Rattle.std.proofs.lemmas.Bool.{both_ways}
use Rattle.std.proofs.lemmas.List.{length-map, length-take, take-append-drop}
use Rattle.std.proofs.lemmas.List.Elements.{All-nil, All-cons, All-head, All-tail}
use Rattle.httparse.specs.Grammar.{is_uri_byte, AllPass, IsToken, LineEnd, lf, print_end, print_blank, print_version, print_section, print_field, RequestHead as Head, print_request, ReadsRequest, NeverHasRequest, EndsInTarget}
use Rattle.httparse.specs.Spans.{name_and_value}
use Rattle.httparse.proofs.PieceLemmas.{Never_elim, NotYet_elim}
use Rattle.httparse.proofs.GrammarLemmas.{request_unique, ReadsRequest-append, print_request-append, cons-append}
use Rattle.pp_head.specs.Limits.{is_limit_reached, IsLimitReached}
use Rattle.pp_head.specs.Step.{Step, Done, Short, Wrong}
use Rattle.pp_head.specs.Read.{Read, Whole, TooLong, Bad, More, read_by, Stays, IsCutAt}
use Rattle.pp_head.specs.Request.{Request, find_request, is_within, request_of, request_at}
use Rattle.pp_head.specs.Agreement.{BeginsWithRequest, IsRequestRead, IsRequestExact, IsRequestWithin}
use Rattle.pp_head.proofs.SpanLemmas.{take_front}
use Rattle.pp_head.proofs.LimitLemmas.{within_limits, is_within-true, limit_reached, is_limit_reached-true, request_lines, reached_by, request_ends, seam, ends_before, reached-append}
use Rattle.pp_head.proofs.FieldLemmas.{fields_text, fields_len-le}
use Rattle.pp_head.proofs.RequestLemmas.{RequestTells, find_request_tells, in_target_short}

-- a head that exceeds the limits is too long
pub request_too_long : (bytes : List ℕ) (h : Head) (rest : List ℕ) → ReadsRequest bytes h rest → is_within h ≡ false → IsRequestRead bytes TooLong
request_too_long bytes h rest reads is = (
  (λ k begins. both_ways _ is
      (subst (λ (g : Head). is_within g ≡ true) (request_unique bytes k h begins.rest rest begins.reads reads).0 (is_within-true (print_request k) (length k.fields) begins.limits))),
  reached_by bytes (print_request h) rest (length h.fields) reads.1 (request_lines bytes h rest reads) is,
)

step_read : (bytes : List ℕ) (s : Step Head) → RequestTells bytes s → (EndsInTarget bytes → s ≡ Short) → IsRequestRead bytes (read_by is_within request_of bytes s)
step_read bytes (Done h rest) told target = by (is_within h) refl
  where
    by : (v : Bool) → is_within h ≡ v → IsRequestRead bytes (elim v [ true ↦ Whole (request_of h) | false ↦ TooLong ])
    by true is = (h, record { rest = rest; reads = told.says; limits = within_limits (print_request h) (length h.fields) is }, refl)
    by false is = request_too_long bytes h rest told.says is
step_read bytes Short told target = by (is_limit_reached bytes) refl
  where
    by : (v : Bool) → is_limit_reached bytes ≡ v → IsRequestRead bytes (elim v [ true ↦ TooLong | false ↦ More ])
    by true is = ((λ k begins. NotYet_elim told.says.0 (k, begins.rest, begins.reads)), limit_reached bytes is)
    by false is = ((λ reached. both_ways _ is (is_limit_reached-true bytes reached)), (λ k rest reads. NotYet_elim told.says.0 (k, rest, reads)), told.says.1)
step_read bytes Wrong told target = by (is_limit_reached bytes) refl
  where
    by : (v : Bool) → is_limit_reached bytes ≡ v → IsRequestRead bytes (elim v [ true ↦ TooLong | false ↦ Bad ])
    by true is = ((λ k begins. Never_elim told.says [] (k, begins.rest ++ [], ReadsRequest-append bytes k begins.rest [] begins.reads)), limit_reached bytes is)
    by false is = (
      (λ reached. both_ways _ is (is_limit_reached-true bytes reached)),
      (λ more k rest reads. Never_elim told.says more (k, rest, reads)),
      (λ ends. let short = target ends in absurd (cc short)),
    )

pub request_holds : (bytes : List ℕ) → IsRequestRead bytes (request_at bytes)
unfolding request_at
request_holds bytes = step_read bytes (find_request bytes) (find_request_tells bytes) (in_target_short bytes)

-- ---- the only one

pub never_has : (bytes : List ℕ) → NeverHasRequest bytes → (h : Head) (rest : List ℕ) → ReadsRequest bytes h rest → ⊥
never_has bytes never h rest reads = never [] h (rest ++ []) (ReadsRequest-append bytes h rest [] reads)

one_answer : (bytes : List ℕ) (a b : Read Request) → IsRequestRead bytes a → IsRequestRead bytes b → a ≡ b
one_answer bytes (Whole r) (Whole q) (h, x, e) (k, y, f) = ap Whole (e ∙ ap request_of (request_unique bytes h k x.rest y.rest x.reads y.reads).0 ∙ sym f)
one_answer bytes (Whole r) TooLong (h, x, e) y = absurd (y.0 h x)
one_answer bytes (Whole r) Bad (h, x, e) y = absurd (never_has bytes y.1 h x.rest x.reads)
one_answer bytes (Whole r) More (h, x, e) y = absurd (y.1 h x.rest x.reads)
one_answer bytes TooLong (Whole q) x (k, y, f) = absurd (x.0 k y)
one_answer bytes TooLong TooLong x y = refl
one_answer bytes TooLong Bad x y = absurd (y.0 x.1)
one_answer bytes TooLong More x y = absurd (y.0 x.1)
one_answer bytes Bad (Whole q) x (k, y, f) = absurd (never_has bytes x.1 k y.rest y.reads)
one_answer bytes Bad TooLong x y = absurd (x.0 y.1)
one_answer bytes Bad Bad x y = refl
one_answer bytes Bad More x y = elim y.2 [ inl m ↦ absurd (x.1 m.0 m.1 [] m.2) | inr ends ↦ absurd (x.2 ends) ]
one_answer bytes More (Whole q) x (k, y, f) = absurd (x.1 k y.rest y.reads)
one_answer bytes More TooLong x y = absurd (x.0 y.1)
one_answer bytes More Bad x y = elim x.2 [ inl m ↦ absurd (y.1 m.0 m.1 [] m.2) | inr ends ↦ absurd (y.2 ends) ]
one_answer bytes More More x y = refl

pub request_only : (bytes : List ℕ) (answer : Read Request) → IsRequestRead bytes answer → answer ≡ request_at bytes
request_only bytes answer read = one_answer bytes answer (request_at bytes) read (request_holds bytes)

pub request_exact : (bytes : List ℕ) → IsRequestExact bytes
request_exact bytes = record { holds = request_holds bytes; only = request_only bytes }

-- ---- what follows for a whole head

long_enough : (a b c d e f n : ℕ) → c ≡ a + (b + (1 + (d + (1 + (e + f))))) → n ≤ f → b + d + n ≤ c
long_enough a b c d e f n is le = omega (arith, is, le)

request_texts : (h : Head) → length h.method + length h.target + length (flat_map print_field h.fields) + 2 ≤ length (print_request h)
request_texts h =
    let a = print_blank h.blank in
    let v = print_version h.minor in
    let e = print_end h.line_end in
    let s = print_section h.fields h.last in
    let flat = sym (append-nil (print_request h)) ∙ print_request-append h [] in
    omega (
      arith,
      ap length flat,
      length-append a (h.method ++ 32 ∷ (h.target ++ 32 ∷ (v ++ (e ++ (s ++ []))))),
      length-append h.method (32 ∷ (h.target ++ 32 ∷ (v ++ (e ++ (s ++ []))))),
      length-append h.target (32 ∷ (v ++ (e ++ (s ++ [])))),
      length-append v (e ++ (s ++ [])),
      length-append e (s ++ []),
      length-append s [],
      length-append (flat_map print_field h.fields) (print_end h.last),
    )

within_of : (bytes : List ℕ) (h : Head) → BeginsWithRequest bytes h → IsRequestWithin bytes (request_of h)
within_of bytes h begins = record {
  some = omega (arith, request_texts h);
  within = omega (arith, ap length begins.reads.1, length-append (print_request h) begins.rest);
  short = begins.limits.short;
  few = omega (arith, length-map h.fields name_and_value, begins.limits.few);
  method = begins.reads.0.method;
  target = begins.reads.0.target;
  minor = begins.reads.0.minor;
  fields = fields_text h.fields begins.reads.0.fields;
  texts = omega (arith, request_texts h, fields_len-le h.fields);
}

whole_within : (bytes : List ℕ) (a : Read Request) (r : Request) → a ≡ Whole r → IsRequestRead bytes a → IsRequestWithin bytes r
whole_within bytes (Whole q) r is (h, begins, e) = let same : request_of h ≡ r = cc (is, e) in subst (IsRequestWithin bytes) same (within_of bytes h begins)
whole_within bytes TooLong r is read = absurd (cc is)
whole_within bytes Bad r is read = absurd (cc is)
whole_within bytes More r is read = absurd (cc is)

pub request_within : (bytes : List ℕ) (r : Request) → request_at bytes ≡ Whole r → IsRequestWithin bytes r
request_within bytes r is = whole_within bytes (request_at bytes) r is (request_holds bytes)

-- ---- more bytes

-- a head that stands there once more has come stood there before, where a limit was reached
stood : (bytes more : List ℕ) → IsLimitReached bytes → (h : Head) → BeginsWithRequest (bytes ++ more) h → BeginsWithRequest bytes h
stood bytes more reached h begins =
    let before = ends_before (print_request h) bytes (length h.fields) (request_ends h) begins.limits reached begins.rest more begins.reads.1 in
    record { rest = before.0; reads = (begins.reads.0, before.1); limits = begins.limits }

all_front : (test : ℕ → Bool) (text more : List ℕ) → AllPass test (text ++ more) → AllPass test text
all_front test [] more all = All-nil _
all_front test (b ∷ text) more all = All-cons (λ v. test v ≡ true) b text (All-head (λ v. test v ≡ true) b (text ++ more) all) (all_front test text more (All-tail (λ v. test v ≡ true) b (text ++ more) all))

letter_is_text : IsUtf8 (97 ∷ [])
unfolding is_utf8 chars encode
letter_is_text = IsUtf8-from_is_utf8 (97 ∷ []) refl

-- what follows the space behind the method in a short head
abbrev ending : List ℕ
ending = 97 ∷ 32 ∷ (print_version 1 ++ (10 ∷ 10 ∷ []))

short_head : (blank : List LineEnd) (method text : List ℕ) → IsToken method → text ≡ (print_blank blank ++ (method ++ 32 ∷ [])) ++ ending → (h : Head) × ReadsRequest text h []
short_head blank method text token is = (
  h,
  (
    record { method = token; target = (omega arith, All-cons (λ v. is_uri_byte v ≡ true) 97 [] refl (All-nil _)); target_text = letter_is_text; minor = omega arith; fields = All-nil _ },
    is ∙ grouped (print_blank blank) method ∙ sym (print_request-append h []),
  ),
)
  where
    h : Head
    h = record { blank = blank; method = method; target = 97 ∷ []; minor = 1; line_end = lf; fields = []; last = lf }

    grouped : (a b : List ℕ) → (a ++ (b ++ 32 ∷ [])) ++ ending ≡ a ++ (b ++ 32 ∷ ending)
    grouped a b = append_assoc a (b ++ 32 ∷ []) ending ∙ ap (λ (t : List ℕ). a ++ t) (append_assoc b (32 ∷ []) ending)

-- bytes that no continuation makes a head do not come to end inside a target
stays_outside : (bytes more : List ℕ) → NeverHasRequest bytes → (EndsInTarget bytes → ⊥) → EndsInTarget (bytes ++ more) → ⊥
stays_outside bytes more never outside (blank, method, target, token, all, is) = by (seam bytes more start target (is ∙ grouped (print_blank blank) method target))
  where
    start : List ℕ
    start = print_blank blank ++ (method ++ 32 ∷ [])

    grouped : (a b c : List ℕ) → (a ++ b) ++ 32 ∷ c ≡ (a ++ (b ++ 32 ∷ [])) ++ c
    grouped a b c = simp (append_assoc, cons-append)

    by : ((x : List ℕ) × (bytes ≡ start ++ x) × (target ≡ x ++ more)) ⊎ ((x : List ℕ) × (start ≡ bytes ++ x) × (more ≡ x ++ target)) → ⊥
    by (inl x) = outside (blank, method, x.0, token, all_front is_uri_byte x.0 more (subst (AllPass is_uri_byte) x.2 all), x.1 ∙ sym (grouped (print_blank blank) method x.0))
    by (inr x) =
        let head = short_head blank method (bytes ++ (x.0 ++ ending)) token (sym (append_assoc bytes x.0 ending) ∙ ap (λ (t : List ℕ). t ++ ending) (sym x.1)) in
        never (x.0 ++ ending) head.0 [] head.1

stays_by : (bytes : List ℕ) (a : Read Request) → IsRequestRead bytes a → Stays request_at bytes a
stays_by bytes (Whole r) (h, begins, e) = λ more.
    sym (request_only (bytes ++ more) (Whole r) (h, record { rest = begins.rest ++ more; reads = ReadsRequest-append bytes h begins.rest more begins.reads; limits = begins.limits }, e))
stays_by bytes TooLong (none, reached) = λ more.
    sym (request_only (bytes ++ more) TooLong ((λ h begins. none h (stood bytes more reached h begins)), reached-append bytes more reached))
stays_by bytes Bad (open_, never, outside) = λ more. by more (is_limit_reached (bytes ++ more)) refl
  where
    by : (more : List ℕ) (v : Bool) → is_limit_reached (bytes ++ more) ≡ v → request_at (bytes ++ more) ≡ elim v as (λ _. Read Request) [ true ↦ TooLong | false ↦ Bad ]
    by more true is = sym (request_only (bytes ++ more) TooLong ((λ h begins. never more h begins.rest begins.reads), limit_reached (bytes ++ more) is))
    by more false is = sym (request_only (bytes ++ more) Bad (
      (λ reached. both_ways _ is (is_limit_reached-true (bytes ++ more) reached)),
      (λ last h rest reads. never (more ++ last) h rest (subst (λ (t : List ℕ). ReadsRequest t h rest) (append_assoc bytes more last) reads)),
      stays_outside bytes more never outside,
    ))
stays_by bytes More read = tt

pub request_stays : (bytes : List ℕ) → Stays request_at bytes (request_at bytes)
request_stays bytes = stays_by bytes (request_at bytes) (request_holds bytes)

-- ---- where a whole head is cut

request_enough : (bytes : List ℕ) (r : Request) → IsRequestRead bytes (Whole r) → request_at (take r.length bytes) ≡ Whole r
request_enough bytes r (h, begins, e) =
    let own = take_front bytes (print_request h) begins.rest r.length begins.reads.1 (ap (λ (q : Request). q.length) e) in
    sym (request_only (take r.length bytes) (Whole r) (h, record { rest = []; reads = (begins.reads.0, own ∙ sym (append-nil (print_request h))); limits = begins.limits }, e))

fewer_by : (bytes : List ℕ) (r : Request) (n : ℕ) → n < r.length → request_at bytes ≡ Whole r → (a : Read Request) → request_at (take n bytes) ≡ a
    → Stays request_at (take n bytes) a → a ≡ More
fewer_by bytes r n less is (Whole q) before stays =
    let more : request_at bytes ≡ Whole q = ap request_at (sym (take-append-drop n bytes)) ∙ stays (drop n bytes) in
    let same : q ≡ r = cc (more, is) in
    absurd (omega (arith, less, (request_within (take n bytes) q before).within, length-take n bytes, ap (λ (p : Request). p.length) same))
fewer_by bytes r n less is TooLong before stays =
    let more : request_at bytes ≡ TooLong = ap request_at (sym (take-append-drop n bytes)) ∙ stays (drop n bytes) in absurd (cc (more, is))
fewer_by bytes r n less is Bad before stays = by (is_limit_reached (take n bytes ++ drop n bytes)) (ap request_at (sym (take-append-drop n bytes)) ∙ stays (drop n bytes))
  where
    by : (v : Bool) → request_at bytes ≡ elim v as (λ _. Read Request) [ true ↦ TooLong | false ↦ Bad ] → ◌≡◌ {A = Read Request} Bad More
    by true more = absurd (cc (more, is))
    by false more = absurd (cc (more, is))
fewer_by bytes r n less is More before stays = refl

pub request_cut : (bytes : List ℕ) (r : Request) → request_at bytes ≡ Whole r → IsCutAt request_at bytes r.length r
request_cut bytes r is = record {
  enough = request_enough bytes r (subst (IsRequestRead bytes) is (request_holds bytes));
  fewer = λ n less. fewer_by bytes r n less is (request_at (take n bytes)) refl (request_stays (take n bytes));
}
