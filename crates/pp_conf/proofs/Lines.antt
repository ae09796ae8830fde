-- The first line of a text, where its end is found.
use Rattle.std.proofs.Common.{◌≡◌, ℕ, ◌+◌, ◌<◌, ◌≤◌, nat_lt, Bool, true, false, ◌==◌, List, [], ◌∷◌, length, take, drop, Some, None, cond, not, refl, ap, sym, subst, ◌∙◌, arith}
use Rattle.std.specs.List.{position, position_or_len}
use Rattle.std.proofs.lemmas.Grind.{common_steps}
use Rattle.std.proofs.lemmas.List.Sums.{prefix_len-le-length}
use Rattle.pp_text.specs.Lists.{onto_first}
use Rattle.pp_conf.specs.Text.{lines_of, pieces_of, strip_cr, without_crs}

abbrev is_lf : ℕ → Bool
is_lf b = b == 10

abbrev place : List ℕ → ℕ
place text = position_or_len is_lf text

-- what the pieces are where the first line end stands within the text
abbrev Cuts : List ℕ → Type 0
Cuts text = place text < length text → pieces_of text ≡ take (place text) text ∷ pieces_of (drop (place text + 1) text)

cut_step : (b : ℕ) (text : List ℕ) (x : Bool) → (b == 10) ≡ x → Cuts text → Cuts (b ∷ text)
cut_step b text true is_x rest h = grind (arith, common_steps)
cut_step b text false is_x rest h = grind (arith, common_steps)

pieces_cut : (text : List ℕ) → Cuts text
pieces_cut [] h = absurd (omega arith)
pieces_cut (b ∷ text) h = cut_step b text (b == 10) refl (pieces_cut text) h

-- there is always a piece
more_crs : (line : List ℕ) (pieces : List (List ℕ)) (b : ℕ) → without_crs (line ∷ onto_first b pieces) ≡ strip_cr line ∷ without_crs (onto_first b pieces)
more_crs line [] b = refl
more_crs line (p ∷ ps) b = refl

crs_at : (line : List ℕ) (ps qs : List (List ℕ)) → ps ≡ qs → without_crs (line ∷ qs) ≡ strip_cr line ∷ without_crs qs
    → without_crs (line ∷ ps) ≡ strip_cr line ∷ without_crs ps
crs_at line ps qs same h = subst (λ (x : List (List ℕ)). without_crs (line ∷ x) ≡ strip_cr line ∷ without_crs x) (sym same) h

crs_step : (line : List ℕ) (b : ℕ) (text : List ℕ) (x : Bool) → (b == 10) ≡ x
    → without_crs (line ∷ pieces_of (b ∷ text)) ≡ strip_cr line ∷ without_crs (pieces_of (b ∷ text))
crs_step line b text true is_x =
    let here : pieces_of (b ∷ text) ≡ [] ∷ pieces_of text = grind (arith, is_x) in
    crs_at line (pieces_of (b ∷ text)) ([] ∷ pieces_of text) here refl
crs_step line b text false is_x =
    let here : pieces_of (b ∷ text) ≡ onto_first b (pieces_of text) = grind (arith, is_x) in
    crs_at line (pieces_of (b ∷ text)) (onto_first b (pieces_of text)) here (more_crs line (pieces_of text) b)

without_crs-pieces : (line text : List ℕ) → without_crs (line ∷ pieces_of text) ≡ strip_cr line ∷ without_crs (pieces_of text)
without_crs-pieces line [] = refl
without_crs-pieces line (b ∷ text) = crs_step line b text (b == 10) refl

found_by : (text : List ℕ) (at : ℕ) (b : Bool) → nat_lt (place text) (length text) ≡ b → cond b (Some (place text)) None ≡ Some at
    → lines_of text ≡ strip_cr (take at text) ∷ lines_of (drop (at + 1) text)
found_by text at true is_b h =
    let same : place text ≡ at = cc in
    let within : place text < length text = grind arith in
    ap without_crs (pieces_cut text within) ∙ (rw same (without_crs-pieces (take at text) (drop (at + 1) text)))
found_by text at false is_b h = absurd (cc)

pub lines_found : (text : List ℕ) (at : ℕ) → position is_lf text ≡ Some at → lines_of text ≡ strip_cr (take at text) ∷ lines_of (drop (at + 1) text)
lines_found text at h = found_by text at (nat_lt (place text) (length text)) refl h

-- what the pieces are where the text has no line end
abbrev Alone : List ℕ → Type 0
Alone text = place text ≡ length text → pieces_of text ≡ text ∷ []

alone_step : (b : ℕ) (text : List ℕ) (x : Bool) → (b == 10) ≡ x → Alone text → Alone (b ∷ text)
alone_step b text true is_x rest h = grind (arith, common_steps)
alone_step b text false is_x rest h = grind (arith, common_steps)

pieces_alone : (text : List ℕ) → Alone text
pieces_alone [] h = refl
pieces_alone (b ∷ text) h = alone_step b text (b == 10) refl (pieces_alone text) h

place_within : (text : List ℕ) → place text ≤ length text
place_within text = prefix_len-le-length (λ x. not (is_lf x)) text

missed_by : (text : List ℕ) (b : Bool) → nat_lt (place text) (length text) ≡ b → cond b (Some (place text)) None ≡ None → lines_of text ≡ text ∷ []
missed_by text true is_b h = absurd (cc)
missed_by text false is_b h =
    let whole : place text ≡ length text = grind (arith, place_within text) in
    ap without_crs (pieces_alone text whole)

pub lines_missed : (text : List ℕ) → position is_lf text ≡ None → lines_of text ≡ text ∷ []
lines_missed text h = missed_by text (nat_lt (place text) (length text)) refl h
