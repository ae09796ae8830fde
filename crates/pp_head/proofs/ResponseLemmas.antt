-- A response that is read is one of the grammar, and what is refused is none.
use Rattle.std.proofs.Common.{◌≡◌, ℕ, Bool, true, false, List, [], ◌∷◌, ◌++◌, refl, sym, ap, subst, arith, Option, Some, None}
use Rattle.std.specs.Prelude.{◌==◌}
use Rattle.std.specs.Char.{is_ascii_digit}
use Rattle.std.proofs.lemmas.Bool.{eqb-true, eqb-false, both_ways}
use Rattle.std.proofs.lemmas.List.Elements.{All-nil}
use Rattle.httparse.specs.Grammar.{LineEnd, print_end, print_reason, ResponseHead as Answer, ReadsResponse, MayBecomeResponse}
use Rattle.httparse.specs.Pieces.{Begins, Then, Refutes, Completes, Bytes, Version, Digit, Code, Reason, Section, ResponseStart}
use Rattle.httparse.proofs.PieceLemmas.{Refutes_by, Never_intro, NotYet_intro, Bytes_deterministic, Blank_deterministic, Version_deterministic, Code_deterministic, ResponseStart_deterministic, Digit_deterministic}
use Rattle.httparse.proofs.ReadLemmas.{Reason_text, Reason_newline}
use Rattle.httparse.proofs.OpenLemmas.{Completes_first, Completes_next, some_reason, some_digit, Reason_without, Reason_with, status_blank, some_bytes, some_code, some_section, response_may}
use Rattle.httparse.proofs.GrammarLemmas.{response_from_pieces, response_pieces}
use Rattle.pp_head.specs.Step.{Step, Done, Wrong, map_step, and_then, read_bytes}
use Rattle.pp_head.specs.Lines.{read_end, read_version, read_text}
use Rattle.pp_head.specs.Section.{read_section}
use Rattle.pp_head.specs.Response.{read_digit, read_code, read_reason, read_status_line, head_from, find_response}
use Rattle.pp_head.proofs.StepLemmas.{Tells, Reads, map_tells, then_tells, both_tell, bytes_tell}
use Rattle.pp_head.proofs.LineLemmas.{no_end, end_tells, blank_tells, version_tells, text_tells}
use Rattle.pp_head.proofs.SectionLemmas.{section_tells}

-- ---- the status line

digit_tells : Reads Digit read_digit
digit_tells [] = record { says = (NotYet_intro (λ h. cc h.2.1), some_digit) }
digit_tells (b ∷ text) = by (is_ascii_digit b) refl
  where
    by : (v : Bool) → is_ascii_digit b ≡ v → Tells Digit (Completes Digit) (b ∷ text) (elim v [ true ↦ Done b text | false ↦ Wrong ])
    by true is = record { says = (is, refl) }
    by false is = record { says = Never_intro (λ more h. let e : b ≡ h.0 = cc h.2.1 in both_ways _ is (subst (λ (x : ℕ). is_ascii_digit x ≡ true) (sym e) h.2.0)) }

pub code_tells : Reads Code read_code
code_tells text = both_tell Digit_deterministic (Completes_first some_digit some_digit) _ (digit_tells text)
    (λ t. both_tell Digit_deterministic some_digit read_digit (digit_tells t) digit_tells)

pub reason_tells : Reads Reason read_reason
reason_tells [] = record { says = (NotYet_intro (λ h. none h.0.0 h.0.1 h.1 h.2.1), some_reason) }
  where
    none : (r : Option (List ℕ)) (e : LineEnd) (rest : List ℕ) → ◌≡◌ {A = List ℕ} [] (print_reason r ++ (print_end e ++ rest)) → ⊥
    none None e rest h = no_end e rest h
    none (Some phrase) e rest h = cc
reason_tells (b ∷ text) = by (b == 32) refl
  where
    by : (v : Bool) → (b == 32) ≡ v → Tells Reason (Completes Reason) (b ∷ text) (elim v [
      | true ↦ map_step (λ t. (Some t.0, t.1)) (read_text text)
      | false ↦ map_step (λ e. (None, e)) (read_end (b ∷ text))
    ])
    by true is =
        let space = eqb-true b 32 is in
        map_tells (λ t. (Some t.0, t.1)) (text_tells text) (λ t rest g. (g.0, cc (space, g.1)))
        (λ M r. subst (λ (x : ℕ). Refutes M (Begins Reason) (x ∷ text)) (sym space) (Reason_text (32 ∷ text) 0 (omega arith) refl r))
        (λ x. Reason_with (ap (λ (y : ℕ). y ∷ text) space) x)
    by false is = map_tells (λ e. (None, e)) (end_tells (b ∷ text)) (λ e rest g. (All-nil _, g))
        (λ M r. Reason_newline (b ∷ text) 0 (omega arith) (eqb-false b 32 is) r) Reason_without

pub status_line_tells : Reads ResponseStart read_status_line
status_line_tells text = then_tells Blank_deterministic _ (blank_tells text) after_blank status_blank
    (λ es t blank x. Completes_next Blank_deterministic {a = es} blank x)
  where
    after_space : Reads (Then Code Reason) (λ v. and_then (read_code v) read_reason)
    after_space v = both_tell Code_deterministic some_reason read_reason (code_tells v) reason_tells

    after_version : Reads (Then (Bytes (32 ∷ [])) (Then Code Reason)) (λ u. and_then (read_bytes (32 ∷ []) u) (λ v. and_then (read_code v) read_reason))
    after_version u = both_tell (Bytes_deterministic (32 ∷ [])) (Completes_first some_code some_reason) _ (bytes_tell (32 ∷ []) u) after_space

    after_blank : Reads (Then Version (Then (Bytes (32 ∷ [])) (Then Code Reason)))
        (λ t. and_then (read_version t) (λ u. and_then (read_bytes (32 ∷ []) u) (λ v. and_then (read_code v) read_reason)))
    after_blank t = both_tell Version_deterministic (Completes_first (some_bytes (32 ∷ [])) (Completes_first some_code some_reason)) _ (version_tells t) after_version

-- ---- the head

abbrev pub ResponseTells : List ℕ → Step Answer → Type 0
ResponseTells bytes step = Tells (λ head text rest. ReadsResponse text head rest) MayBecomeResponse bytes step

pub find_response_tells : (text : List ℕ) → ResponseTells text (find_response text)
unfolding find_response
find_response_tells text = map_tells {G = Then ResponseStart Section} {P = MayBecomeResponse} head_from
    (then_tells ResponseStart_deterministic read_section (status_line_tells text) section_tells
    (λ x. response_may (Completes_first x some_section)) (λ a rest g x. response_may (Completes_next ResponseStart_deterministic {a = a} g x)))
    (λ t rest g. response_from_pieces text t rest g)
    (λ M. Refutes_by (λ more x. let p = response_pieces (text ++ more) x.0 x.1 x.2 in (p.0, x.1, p.2)))
    (λ may. may)
