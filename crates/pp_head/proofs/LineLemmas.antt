-- The parts that first lines share are those of the grammar.
use Rattle.std.proofs.Common.{◌≡◌, ◌≢◌, ℕ, zero, suc, ◌+◌, ◌<◌, ◌≤◌, Bool, true, false, List, [], ◌∷◌, ◌++◌, length, refl, sym, ap, ◌∙◌, subst, arith, append_assoc, append-nil, codes}
use Rattle.std.specs.Prelude.{◌==◌}
use Rattle.std.proofs.lemmas.Bool.{eqb-true, eqb-false}
use Rattle.httparse.specs.Grammar.{is_value_byte, AllPass, LineEnd, crlf, lf, print_end, print_blank}
use Rattle.httparse.specs.Pieces.{Piece, Completes, is_newline, Newline, BlankLines, Blank, Version, Text}
use Rattle.httparse.proofs.RunLemmas.{run_unique, run_unstopped}
use Rattle.httparse.proofs.PieceLemmas.{Refutes_by, Never_intro, NotYet_intro, front-append, Bytes_deterministic, Stops_value}
use Rattle.httparse.proofs.ReadLemmas.{Blank_open, Blank_newline, Blank_after}
use Rattle.httparse.proofs.OpenLemmas.{some_newline, BlankLines_after}
use Rattle.pp_head.specs.Step.{Step, Done, Short, Wrong, map_step, and_then, cut, read_bytes}
use Rattle.pp_head.specs.Lines.{read_end, push_end, read_blank_within, read_blank, read_minor, read_version, read_text}
use Rattle.pp_head.proofs.StepLemmas.{Tells, Reads, map_tells, both_tell, bytes_tell, IsCut, cut_is}

-- ---- line ends

pub no_end : (e : LineEnd) (rest : List ℕ) → ◌≡◌ {A = List ℕ} [] (print_end e ++ rest) → ⊥
no_end crlf rest h = cc
no_end lf rest h = cc

pub end_tells : Reads Newline read_end
end_tells [] = record { says = (NotYet_intro (λ h. no_end h.0 h.1 h.2), some_newline) }
end_tells (b ∷ text) = by (b == 10) refl
  where
    other : b ≢ 10 → b ≢ 13 → (e : LineEnd) (rest more : List ℕ) → b ∷ (text ++ more) ≡ print_end e ++ rest → ⊥
    other n c crlf rest more h = c (cc)
    other n c lf rest more h = n (cc)

    after : b ≡ 13 → (e : LineEnd) (rest more : List ℕ) → b ∷ (text ++ more) ≡ print_end e ++ rest → text ++ more ≡ 10 ∷ rest
    after is crlf rest more h = cc
    after is lf rest more h = let no : ◌≡◌ {A = ℕ} 13 10 = cc in absurd (omega arith)

    by_cr : (v : Bool) → (b == 10) ≡ false → (b == 13) ≡ v → Tells Newline (Completes Newline) (b ∷ text) (elim v [ true ↦ map_step (λ _. crlf) (read_bytes (10 ∷ []) text) | false ↦ Wrong ])
    by_cr true n is =
        let cr = eqb-true b 13 is in
        map_tells (λ _. crlf) (bytes_tell (10 ∷ []) text) (λ a rest g. cc (cr, g))
        (λ M. Refutes_by (λ more h. (tt, h.1, after cr h.0 h.1 more h.2)))
        (λ x. record { more = x.more; tree = crlf; reads = λ rest. cc (cr, x.reads rest) })
    by_cr false n is = record { says = Never_intro (λ more h. other (eqb-false b 10 n) (eqb-false b 13 is) h.0 h.1 more h.2) }

    by : (v : Bool) → (b == 10) ≡ v → Tells Newline (Completes Newline) (b ∷ text) (elim v [ true ↦ Done lf text | false ↦ elim (b == 13) [ true ↦ map_step (λ _. crlf) (read_bytes (10 ∷ []) text) | false ↦ Wrong ] ])
    by true is = record { says = cc (eqb-true b 10 is) }
    by false is = by_cr (b == 13) is refl

-- ---- empty lines

end_shorter : (e : LineEnd) (text rest : List ℕ) (n : ℕ) → Newline e text rest → length text < suc n → length rest < n
end_shorter crlf text rest n g fits = omega (arith, ap length g)
end_shorter lf text rest n g fits = omega (arith, ap length g)

blank_push : (e : LineEnd) {text rest : List ℕ} → Newline e text rest → (s : Step (List LineEnd))
    → Tells Blank (Completes BlankLines) rest s
    → Tells Blank (Completes BlankLines) text (map_step push_end (map_step (λ b. (e, b)) s))
blank_push e {text} {rest} g s t = by s t
  where
    lines : text ≡ print_blank (e ∷ []) ++ rest
    lines = g ∙ ap (λ (t : List ℕ). t ++ rest) (sym (append-nil (print_end e)))

    by : (s : Step (List LineEnd)) → Tells Blank (Completes BlankLines) rest s
        → Tells Blank (Completes BlankLines) text (map_step push_end (map_step (λ b. (e, b)) s))
    by (Done p end) t = record { says = (g ∙ ap (λ (u : List ℕ). print_end e ++ u) t.says.0 ∙ sym (append_assoc (print_end e) (print_blank p) end), t.says.1) }
    by Short t = record {
      says = (
        Blank_after (e ∷ []) lines t.says.0,
        record {
          more = t.says.1.more;
          tree = e ∷ t.says.1.tree;
          reads = λ r. front-append text (print_end e) rest (t.says.1.more ++ r) g ∙ ap (λ (u : List ℕ). print_end e ++ u) (t.says.1.reads r)
              ∙ sym (append_assoc (print_end e) (print_blank t.says.1.tree) r);
        },
      );
    }
    by Wrong t = record { says = Blank_after (e ∷ []) lines t.says }

blank_step : (n : ℕ) (b : ℕ) (text : List ℕ) → is_newline b ≡ true → length (b ∷ text) < suc n
    → ((rest : List ℕ) → length rest < n → Tells Blank (Completes BlankLines) rest (read_blank_within n rest))
    → (s : Step LineEnd) → Tells Newline (Completes Newline) (b ∷ text) s
    → Tells Blank (Completes BlankLines) (b ∷ text) (map_step push_end (and_then s (read_blank_within n)))
blank_step n b text newline fits more (Done e rest) t =
    blank_push e t.says (read_blank_within n rest) (more rest (end_shorter e (b ∷ text) rest n t.says fits))
blank_step n b text newline fits more Short t = record { says = (Blank_newline (b ∷ text) 0 (omega arith) newline t.says.0, BlankLines_after [] refl t.says.1) }
blank_step n b text newline fits more Wrong t = record { says = Blank_newline (b ∷ text) 0 (omega arith) newline t.says }

blank_tell : (n : ℕ) (text : List ℕ) → length text < n → Tells Blank (Completes BlankLines) text (read_blank_within n text)
blank_tell zero text fits = absurd (omega arith)
blank_tell (suc n) [] fits = record { says = (Blank_open [] 0 (omega arith), record { more = []; tree = []; reads = λ rest. refl }) }
blank_tell (suc n) (b ∷ text) fits = by (is_newline b) refl (blank_tell n)
  where
    by : (v : Bool) → is_newline b ≡ v → ((rest : List ℕ) → length rest < n → Tells Blank (Completes BlankLines) rest (read_blank_within n rest))
        → Tells Blank (Completes BlankLines) (b ∷ text) (elim v [
          | true ↦ map_step push_end (and_then (read_end (b ∷ text)) (read_blank_within n))
          | false ↦ Done [] (b ∷ text)
        ])
    by true is more = blank_step n b text is fits more (read_end (b ∷ text)) (end_tells (b ∷ text))
    by false is more = record { says = (refl, is) }

pub blank_tells : (text : List ℕ) → Tells Blank (Completes BlankLines) text (read_blank text)
blank_tells text = blank_tell (suc (length text)) text (omega arith)

-- ---- the version

abbrev Minor : Piece ℕ
Minor minor text rest = (minor ≤ 1) × (text ≡ (48 + minor) ∷ rest)

minor_tells : Reads Minor read_minor
minor_tells [] = record { says = (NotYet_intro (λ h. cc h.2.1), record { more = 48 ∷ []; tree = 0; reads = λ rest. (omega arith, refl) }) }
minor_tells (b ∷ text) = by (b == 48) refl (b == 49) refl
  where
    by : (v : Bool) → (b == 48) ≡ v → (u : Bool) → (b == 49) ≡ u
        → Tells Minor (Completes Minor) (b ∷ text) (elim v [ true ↦ Done 0 text | false ↦ elim u [ true ↦ Done 1 text | false ↦ Wrong ] ])
    by true is u or_is = record { says = (omega arith, cc (eqb-true b 48 is)) }
    by false is true or_is = record { says = (omega arith, cc (eqb-true b 49 or_is)) }
    by false is false or_is = record {
      says = Never_intro (λ more h.
          let e : b ≡ 48 + h.0 = cc h.2.1 in
          let n = eqb-false b 48 is in
          let m = eqb-false b 49 or_is in
          grind (arith, h.2.0, e, n, m));
    }

pub version_tells : Reads Version read_version
version_tells text =
    map_tells (λ p. p.1) (both_tell (Bytes_deterministic (codes "HTTP/1.")) (record { more = 48 ∷ []; tree = 0; reads = λ rest. (omega arith, refl) }) read_minor (bytes_tell (codes "HTTP/1.") text) minor_tells)
    (λ a rest g. (g.2.0, g.1 ∙ ap (λ (t : List ℕ). codes "HTTP/1." ++ t) g.2.1))
    (λ M. Refutes_by (λ more h. ((tt, h.0), h.1, (_, h.2.1, (h.2.0, refl)))))
    (λ x. record { more = x.more; tree = x.tree.1; reads = λ rest. let g = x.reads rest in (g.2.0, g.1 ∙ ap (λ (t : List ℕ). codes "HTTP/1." ++ t) g.2.1) })

-- ---- the rest of a line

text_by : (run rest : List ℕ) {text : List ℕ} → IsCut is_value_byte text (run, rest) → Tells Text (Completes Text) text (map_step (λ e. (run, e)) (read_end rest))
text_by run [] {text} c =
    let is : text ≡ run = c.whole ∙ append-nil run in
    record {
      says = (
        NotYet_intro (λ h. run_unstopped is_value_byte h.0.0 _ (subst (AllPass is_value_byte) (sym is ∙ h.2.1) c.pass) (Stops_value h.0.1 h.1)),
        record { more = 10 ∷ []; tree = (run, lf); reads = λ r. (c.pass, ap (λ (t : List ℕ). t ++ 10 ∷ r) is) },
      );
    }
text_by run (b ∷ rest) {text} c = map_tells (λ e. (run, e)) (end_tells (b ∷ rest))
    (λ e r g. (c.pass, c.whole ∙ ap (λ (t : List ℕ). run ++ t) g))
    (λ M. Refutes_by (λ more h. (
      h.0.1,
      h.1,
      (run_unique is_value_byte run h.0.0 (b ∷ (rest ++ more)) _ c.pass h.2.0 c.ends (Stops_value h.0.1 h.1)
          (sym (front-append text run (b ∷ rest) more c.whole) ∙ h.2.1)).1,
    )))
    (λ x. record { more = x.more; tree = (run, x.tree); reads = λ r. (c.pass, front-append text run (b ∷ rest) (x.more ++ r) c.whole ∙ ap (λ (t : List ℕ). run ++ t) (x.reads r)) })

pub text_tells : Reads Text read_text
text_tells text = text_by (cut is_value_byte text).0 (cut is_value_byte text).1 (cut_is is_value_byte text)
