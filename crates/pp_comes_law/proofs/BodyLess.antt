-- A body that goes on takes some of what follows it.
use Rattle.std.proofs.Common.{◌≡◌, ℕ, ◌+◌, ◌<◌, List, [], ◌∷◌, ◌++◌, length, ap, ◌∙◌, length-append, arith}
use Rattle.pp_framing.proofs.BodiesExact.{read_from-first_place}
use Rattle.pp_framing.specs.Body.{Body, Done, Going}
use Rattle.pp_framing.specs.Places.{first_place, step, read_from}
use Rattle.pp_framing.specs.Rules.{body_of}
use Rattle.pp_framing.specs.declared.body.BodyRule.{BodyRule}
use Rattle.pp_framing.specs.declared.place.Place.TheVariants.{Over, Wrong}
use Rattle.pp_framing.specs.declared.place.Place.{Place}

same_rest : {xs ys : List ℕ} → Done xs ≡ Done ys → xs ≡ ys
same_rest e = cc e

read_done : (place : Place) (text rest : List ℕ) → (read_from place text).outcome ≡ Done rest → (used : List ℕ) × (text ≡ used ++ rest)
read_done Over text rest is = ([], same_rest is)
read_done Wrong text rest is = absurd (cc is)
read_done place [] rest is = absurd (cc is)
read_done place (b ∷ text) rest is = let r = read_done (step place b) text rest is in (b ∷ r.0, ap (λ (xs : List ℕ). b ∷ xs) r.1)

fewer : (place : Place) (text rest : List ℕ) → (read_from place []).outcome ≡ Going → (read_from place text).outcome ≡ Done rest → length rest < length text
fewer Over text rest going is = absurd (cc going)
fewer Wrong text rest going is = absurd (cc going)
fewer place [] rest going is = absurd (cc is)
fewer place (b ∷ text) rest going is =
    let r = read_done (step place b) text rest is in
    let long : length text ≡ length r.0 + length rest = ap length r.1 ∙ length-append r.0 rest in omega arith

read_less : (place : Place) (text more rest : List ℕ) → (read_from place text).outcome ≡ Going → (read_from place (text ++ more)).outcome ≡ Done rest → length rest < length more
read_less Over text more rest going is = absurd (cc going)
read_less Wrong text more rest going is = absurd (cc going)
read_less place [] more rest going is = fewer place more rest going is
read_less place (b ∷ text) more rest going is = read_less (step place b) text more rest going is

-- a body that went on takes some of what follows
pub body_less : (rule : BodyRule) (text more rest : List ℕ) → (body_of rule text).outcome ≡ Going → (body_of rule (text ++ more)).outcome ≡ Done rest → length rest < length more
body_less rule text more rest going is =
    read_less (first_place rule) text more rest (ap (λ (b : Body). b.outcome) (read_from-first_place rule text) ∙ going) (ap (λ (b : Body). b.outcome) (read_from-first_place rule (text ++ more)) ∙ is)
