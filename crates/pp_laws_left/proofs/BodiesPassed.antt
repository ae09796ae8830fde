-- The law: an exchange that has more of a body to ask is passed, so it fills no hole.
use Rattle.std.proofs.Common.{◌≡◌, refl, Bool, true, false, None}
use Rattle.pp_law.specs.State.{Aim, Through, Own, Filling}
use Rattle.pp_laws_turn.proofs.View.{facts_of}
use Rattle.pp_laws_left.specs.Bodies.{BodiesArePassed}
use Rattle.pp_laws_left.proofs.Owned.{filled_in}
use Rattle.pp_laws_left.proofs.OwnedEnds.{owned_on}

pub bodies_are_passed : BodiesArePassed
bodies_are_passed terms s log obeys e i some = ((facts_of (owned_on terms s log obeys)).plain e i).through some

-- ---- what is passed fills no hole

abbrev through_in : Aim → Bool
through_in a = elim a as (λ x. Bool) [ Through ↦ true | Own ↦ false | Filling v from to ↦ false ]

pub fills_none : (a : Aim) → through_in a ≡ true → filled_in a ≡ None
fills_none Through is = refl
fills_none Own is = refl
fills_none (Filling v from to) is = absurd (cc is)
