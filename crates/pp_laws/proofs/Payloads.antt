-- The data of a body only grow as its text does.
use Rattle.std.proofs.Common.{◌≡◌, refl, ℕ, ◌≤◌, List, [], ◌∷◌, ◌++◌, length, ap, sym, subst, ◌∙◌, length-append, zero-le, le_refl, arith}
use Rattle.pp_framing.proofs.BodiesExact.{read_from-first_place}
use Rattle.pp_framing.specs.Body.{Body}
use Rattle.pp_framing.specs.Places.{first_place, datum, step, read_from}
use Rattle.pp_framing.specs.Rules.{body_of}
use Rattle.pp_framing.specs.declared.body.BodyRule.{BodyRule}
use Rattle.pp_framing.specs.declared.place.Place.TheVariants.{Over, Wrong}
use Rattle.pp_framing.specs.declared.place.Place.{Place}

behind_grows : (front xs ys : List ℕ) → length xs ≤ length ys → length (front ++ xs) ≤ length (front ++ ys)
behind_grows front xs ys le = omega (arith, length-append front xs, length-append front ys)

read_from-grows : (place : Place) (text more : List ℕ) → length (read_from place text).payload ≤ length (read_from place (text ++ more)).payload
read_from-grows Over text more = le_refl 0
read_from-grows Wrong text more = le_refl 0
read_from-grows place [] more = zero-le
read_from-grows place (b ∷ text) more = behind_grows (datum place b) _ _ (read_from-grows (step place b) text more)

pub payload-grows : (rule : BodyRule) (text more : List ℕ) → length (body_of rule text).payload ≤ length (body_of rule (text ++ more)).payload
payload-grows rule text more =
    subst (λ (body : Body). length (body_of rule text).payload ≤ length body.payload) (read_from-first_place rule (text ++ more))
    (subst (λ (body : Body). length body.payload ≤ length (read_from (first_place rule) (text ++ more)).payload) (read_from-first_place rule text) (read_from-grows (first_place rule) text more))

read_from-nothing : (place : Place) → (read_from place []).payload ≡ []
read_from-nothing Over = refl
read_from-nothing Wrong = refl
read_from-nothing place = refl

-- no text has no data
pub payload-nothing : (rule : BodyRule) → (body_of rule []).payload ≡ []
payload-nothing rule = sym (ap (λ (body : Body). body.payload) (read_from-first_place rule [])) ∙ read_from-nothing (first_place rule)
