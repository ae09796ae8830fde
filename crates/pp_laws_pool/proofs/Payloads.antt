-- Of what one more text gives a body that went on, its data and what follows it are no more than that text.
use Rattle.std.proofs.Common.{◌≡◌, refl, ℕ, ◌+◌, ◌≤◌, nat_le, drop, Bool, true, false, List, [], ◌∷◌, ◌++◌, length, sym, subst, ap, ◌∙◌, zero-le, le_refl, length-append, arith}
use Rattle.pp_framing.proofs.BodiesExact.{read_from-first_place}
use Rattle.pp_framing.specs.Body.{Body, Outcome, Done, Going, Bad}
use Rattle.pp_framing.specs.Places.{first_place, datum, is_framing, step, read_from}
use Rattle.pp_framing.specs.Rules.{body_of}
use Rattle.pp_framing.specs.declared.body.BodyRule.{BodyRule}
use Rattle.pp_framing.specs.declared.body.BodyRule.TheVariants.{Empty, Length, Chunked, ToEnd}
use Rattle.pp_framing.specs.declared.place.Place.TheVariants.{Over, Wrong}
use Rattle.pp_framing.specs.declared.place.Place.{Place}

-- what follows a body
abbrev pub left_by : Outcome → ℕ
left_by (Done rest) = length rest
left_by Going = 0
left_by Bad = 0

abbrev pub weight : Body → ℕ
weight body = length body.payload + left_by body.outcome

datum_short : (place : Place) (b : ℕ) → length (datum place b) ≤ 1
datum_short place b = by (is_framing place)
  where
    by : (t : Bool) → length (elim t as (λ c. List ℕ) [ true ↦ [] | false ↦ b ∷ [] ]) ≤ 1
    by true = zero-le
    by false = le_refl 1

more_data : (front xs : List ℕ) (left b : ℕ) (text : List ℕ) → length front ≤ 1 → length xs + left ≤ length text → length (front ++ xs) + left ≤ length (b ∷ text)
more_data front xs left b text short le = omega (arith, length-append front xs)

all_weighs : (place : Place) (text : List ℕ) → weight (read_from place text) ≤ length text
all_weighs Over text = omega arith
all_weighs Wrong text = zero-le
all_weighs place [] = le_refl 0
all_weighs place (b ∷ text) = more_data (datum place b) (read_from (step place b) text).payload (left_by (read_from (step place b) text).outcome) b text (datum_short place b) (all_weighs (step place b) text)

behind_data : (front xs ys : List ℕ) (left n : ℕ) → length ys + left ≤ length xs + n → length (front ++ ys) + left ≤ length (front ++ xs) + n
behind_data front xs ys left n le = omega (arith, length-append front xs, length-append front ys)

from_none : (m n : ℕ) → m ≤ n → m ≤ 0 + n
from_none m n le = omega arith

more_weighs : (place : Place) (text more : List ℕ) → (read_from place text).outcome ≡ Going → weight (read_from place (text ++ more)) ≤ length (read_from place text).payload + length more
more_weighs Over text more is = absurd (cc is)
more_weighs Wrong text more is = absurd (cc is)
more_weighs place [] more is = from_none (weight (read_from place more)) (length more) (all_weighs place more)
more_weighs place (b ∷ text) more is = behind_data (datum place b) (read_from (step place b) text).payload (read_from (step place b) (text ++ more)).payload (left_by (read_from (step place b) (text ++ more)).outcome) (length more) (more_weighs (step place b) text more is)

pub body_weighs : (rule : BodyRule) (raw more : List ℕ) → (body_of rule raw).outcome ≡ Going → weight (body_of rule (raw ++ more)) ≤ length (body_of rule raw).payload + length more
body_weighs rule raw more is =
    subst (λ (body : Body). weight body ≤ length (body_of rule raw).payload + length more) (read_from-first_place rule (raw ++ more))
    (subst (λ (body : Body). weight (read_from (first_place rule) (raw ++ more)) ≤ length body.payload + length more) (read_from-first_place rule raw)
    (more_weighs (first_place rule) raw more (ap (λ (body : Body). body.outcome) (read_from-first_place rule raw) ∙ is)))

-- no text is no bad body
pub nothing_bad : (rule : BodyRule) → (body_of rule []).outcome ≡ Bad → ⊥
nothing_bad Empty is = cc
nothing_bad (Length n) is = by (nat_le n 0) is
  where
    by : (t : Bool) → (elim t as (λ c. Outcome) [ true ↦ Done (drop n []) | false ↦ Going ]) ≡ Bad → ⊥
    by true at = cc at
    by false at = cc at
nothing_bad Chunked is = cc
nothing_bad ToEnd is = cc
