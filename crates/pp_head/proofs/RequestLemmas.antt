-- A request that is read is one of the grammar, and what is refused is none.
use Rattle.std.proofs.Common.{◌≡◌, ℕ, ◌⊎◌, Bool, true, false, List, ◌∷◌, ◌++◌, refl, sym, ◌∙◌, subst, append_assoc, inl, inr}
use Rattle.std.specs.Prelude.{IsUtf8}
use Rattle.std.specs.Str.{is_utf8}
use Rattle.std.proofs.lemmas.Str.{IsUtf8-from_is_utf8, is_utf8-from_IsUtf8}
use Rattle.std.proofs.lemmas.Bool.{both_ways}
use Rattle.httparse.specs.Grammar.{is_token_byte, is_uri_byte, AllPass, print_blank, RequestHead as Head, ReadsRequest, EndsInTarget, MayBecomeRequest}
use Rattle.httparse.specs.Pieces.{Then, Completes, Newline, Word, Method, Version, Section, RequestStart, Target, MayBecomeRequestStart}
use Rattle.httparse.proofs.PieceLemmas.{Refutes_by, Never_intro, Stops_token, Blank_deterministic, Method_deterministic, Target_deterministic, Version_deterministic, RequestStart_deterministic, Word_deterministic, space_ends_token}
use Rattle.httparse.proofs.ReadLemmas.{Target_word}
use Rattle.httparse.proofs.OpenLemmas.{Completes_first, Completes_next, some_newline, letter_is_token, line_blank, ends_in_target, some_target, some_version, request_may_from_line, request_may}
use Rattle.httparse.proofs.GrammarLemmas.{request_from_pieces, request_pieces, request_tree}
use Rattle.pp_head.specs.Step.{Step, Done, Short, Wrong, and_then}
use Rattle.pp_head.specs.Lines.{read_end, read_version}
use Rattle.pp_head.specs.Section.{read_section}
use Rattle.pp_head.specs.Request.{read_method, check_text, read_target, read_request_line, head_from, find_request}
use Rattle.pp_head.proofs.StepLemmas.{Tells, Reads, map_tells, then_tells, both_tell, finds, cut_all, OpenWord, word_tells, weaker}
use Rattle.pp_head.proofs.LineLemmas.{end_tells, blank_tells, version_tells}
use Rattle.pp_head.proofs.SectionLemmas.{section_tells}

pub method_tells : Reads Method read_method
method_tells text = weaker (word_tells is_token_byte 32 65 space_ends_token letter_is_token text) (λ x. x.0)

-- ---- the target

target_step : (text : List ℕ) (s : Step (List ℕ)) → Tells (Word is_uri_byte 32) (OpenWord is_uri_byte 32) text s → Tells Target (AllPass is_uri_byte) text (check_text s)
target_step text (Done word rest) t = by (is_utf8 word) refl
  where
    by : (v : Bool) → is_utf8 word ≡ v → Tells Target (AllPass is_uri_byte) text (elim v [ true ↦ Done word rest | false ↦ Wrong ])
    by true is = record { says = (t.says, IsUtf8-from_is_utf8 word is) }
    by false is = record {
      says = Never_intro (λ more h.
          let same = (Word_deterministic is_uri_byte 32 refl).unique word h.0 _ _ _ ((Word_deterministic is_uri_byte 32 refl).append word text rest more t.says) h.2.0 in
          both_ways _ is (is_utf8-from_IsUtf8 word (subst IsUtf8 (sym same.0) h.2.1)));
    }
target_step text Short t = record { says = (Target_word t.says.0, t.says.1.1) }
target_step text Wrong t = record { says = Target_word t.says }

pub target_tells : (text : List ℕ) → Tells Target (AllPass is_uri_byte) text (read_target text)
target_tells text = target_step text _ (word_tells is_uri_byte 32 65 refl refl text)

-- ---- start lines

-- a method and its space, and then bytes of a target that is not ended
abbrev InTarget : List ℕ → Type 0
InTarget t = (m : List ℕ) × (u : List ℕ) × Method m t u × AllPass is_uri_byte u

pub request_line_tells : (text : List ℕ) → Tells RequestStart MayBecomeRequestStart text (read_request_line text)
request_line_tells text = then_tells Blank_deterministic _ (blank_tells text) after_blank
    (λ x. inl (line_blank x))
    (λ es t blank x. elim x [
      | inl y ↦ inl (Completes_next Blank_deterministic {a = es} blank y)
      | inr y ↦ inr (ends_in_target es y.0 y.1 blank y.2 y.3)
    ])
  where
    after_target : Reads (Then Version Newline) (λ v. and_then (read_version v) read_end)
    after_target v = both_tell Version_deterministic some_newline read_end (version_tells v) end_tells

    after_method : (u : List ℕ) → Tells (Then Target (Then Version Newline)) (λ u. Completes (Then Target (Then Version Newline)) u ⊎ AllPass is_uri_byte u) u
        (and_then (read_target u) (λ v. and_then (read_version v) read_end))
    after_method u = then_tells Target_deterministic _ (target_tells u) after_target (λ all. inr all)
        (λ p v target x. inl (Completes_next Target_deterministic {a = p} target x))

    after_blank : (t : List ℕ) → Tells (Then Method (Then Target (Then Version Newline)))
        (λ t. Completes (Then Method (Then Target (Then Version Newline))) t ⊎ InTarget t) t
        (and_then (read_method t) (λ u. and_then (read_target u) (λ v. and_then (read_version v) read_end)))
    after_blank t = then_tells Method_deterministic _ (method_tells t) after_method
        (λ x. inl (Completes_first x (Completes_first some_target (Completes_first some_version some_newline))))
        (λ m u method y. elim y [ inl z ↦ inl (Completes_next Method_deterministic {a = m} method z) | inr all ↦ inr (m, u, method, all) ])

-- ---- the head

abbrev pub RequestTells : List ℕ → Step Head → Type 0
RequestTells bytes step = Tells (λ head text rest. ReadsRequest text head rest) MayBecomeRequest bytes step

pub find_request_tells : (text : List ℕ) → RequestTells text (find_request text)
unfolding find_request
find_request_tells text = map_tells {G = Then RequestStart Section} {P = MayBecomeRequest} head_from
    (then_tells RequestStart_deterministic read_section (request_line_tells text) section_tells
    request_may_from_line (λ a rest g x. request_may (Completes_next RequestStart_deterministic {a = a} g x)))
    (λ t rest g. request_from_pieces text t rest g)
    (λ M. Refutes_by (λ more x. (request_tree x.0, x.1, request_pieces (text ++ more) x.0 x.1 x.2)))
    (λ may. may)

pub in_target_short : (text : List ℕ) → EndsInTarget text → find_request text ≡ Short
unfolding find_request
in_target_short text (blank, method, target, token, all, is) =
    let first = finds {rest = method ++ 32 ∷ target} blank Blank_deterministic (blank_tells text) (is ∙ append_assoc (print_blank blank) method (32 ∷ target), Stops_token method (32 ∷ target) token.0 token.1) in
    let second = finds {rest = target} method Method_deterministic (method_tells (method ++ 32 ∷ target)) (token.0, token.1, refl) in
    let third = cut_all is_uri_byte target all in
    rw (first, second, third) refl
