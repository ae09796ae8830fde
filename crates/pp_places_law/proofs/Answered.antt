-- Each exchange without a place gets one, one behind the other, also where dials are refused.
use Rattle.std.proofs.Common.{◌≡◌, refl, ℕ, suc, [], ◌++◌, Option, Some}
use Rattle.pp_law.specs.State.{State}
use Rattle.pp_obeys.proofs.Moving.{lead_joined}
use Rattle.pp_places.specs.Around.{Around, Moment, moment_of}
use Rattle.pp_places.specs.Placing.{IsPlaced, goes_on_behind, next_waiting, place_for}
use Rattle.pp_world.specs.Log.{Log}
use Rattle.pp_places_law.proofs.Loops.{run}
use Rattle.pp_places_law.proofs.Refused.{answers}
use Rattle.pp_places_law.specs.Places.{Reaches}
use Rattle.pp_places_law.specs.Refusals.{AllAnswersAreTheLaws, EachMayBeRefused}

one_more : (steps : ℕ) (m : Moment) (after : Option ℕ) (n : ℕ) (x next y : Around) (one two : Log) → next_waiting after x.sides ≡ Some n → IsPlaced m n x one next → Reaches steps m (goes_on_behind (place_for m.limits n x.sides) n) next two y
    → Reaches (suc steps) m after x (one ++ two) y
unfolding Reaches
one_more steps m after n x next y one two waiting placed rest = (n, next, one, two, waiting, refl, placed, rest)

none_yet : (m : Moment) (after : Option ℕ) (x : Around) → Reaches 0 m after x [] x
unfolding Reaches
none_yet m after x = (refl, refl)

pub answers_all : AllAnswersAreTheLaws
answers_all number p x s shows may more log y refusable steps =
    run number p (λ (after : Option ℕ) (z : Around) (hs : Log) (t : State). EachMayBeRefused number p after z t)
    (record {
      front = λ after z one two hs t is so. so;
      behind_it = λ after z next n one two hs t u waiting placed is leads so.
          (λ count on v w e reached led ok shown waits. so (suc count) (one ++ on) v w e (one_more count (moment_of p) after n z next v one on waiting placed reached) (lead_joined one on t u w leads led) ok shown waits);
      dials = λ after z t e hs w shown ok un waits so dial. answers number p z t shown ok e hs w un waits (so 0 [] z t e (none_yet (moment_of p) after z) refl ok shown waits) dial;
    })
    x s shows may more log y refusable steps
