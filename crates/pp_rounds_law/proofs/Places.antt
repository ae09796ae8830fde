-- As exchanges get their places, whatever dials answer, clients stay as they were.
use Rattle.std.proofs.Common.{◌≡◌, refl, sym, subst, ℕ, zero, suc, Bool, true, false, List, [], ◌++◌, Option, Some, None}
use Rattle.std.specs.Prelude.{is_some}
use Rattle.pp_desk.specs.Closings.{Sides, with_parts}
use Rattle.pp_flow.specs.Changes.{entry_of}
use Rattle.pp_flow.specs.declared.entry.Entry.{Entry}
use Rattle.pp_peers.specs.declared.placing.Placed.{Placed}
use Rattle.pp_peers.specs.declared.placing.Placed.TheVariants.{On, Dial, CloseThenDial, Wait}
use Rattle.pp_places.specs.Around.{Around, Moment, with_sides}
use Rattle.pp_places.specs.Placing.{ArePlaced, IsDialledFor, IsDialledTo, IsPlaced, IsPlacedAs, dials_to, goes_on_behind, host_of, met_at, new_one, next_waiting, place_for, put_on}
use Rattle.pp_places_law.specs.Places.{Reaches}
use Rattle.pp_state.specs.Astray.{astray_where}
use Rattle.pp_world.specs.Log.{Log}
use Rattle.pp_rounds_law.proofs.Carried.{Carries, carries_ended, carries_flow, carries_itself, carries_then}
use Rattle.pp_rounds_law.proofs.Quiet.{carries_refused}

carries_same : (x y : Around) → y ≡ x → Carries false x.sides.parts y.sides.parts
carries_same x y same = subst (λ (z : Around). Carries false x.sides.parts z.sides.parts) (sym same) (carries_itself false x.sides.parts)

put : (number k : ℕ) (x : Sides) → Carries false x.parts (put_on number k x).parts
put number k x = carries_flow false x.parts _

met : (m : Moment) (number : ℕ) (e : Entry) (host : List ℕ) (o : Option ℕ) (x : Sides) → Carries false x.parts (met_at m number e host o x).parts
met m number e host None x = carries_refused m.is_stopped m.name m.awake e.exchange x.parts
met m number e host (Some k) x = put number k _

dialled_to : (m : Moment) (number : ℕ) (e : Entry) (o : Option (List ℕ)) (x y : Around) (log : Log) → IsDialledTo m number e o x log y → Carries false x.sides.parts y.sides.parts
dialled_to m number e None x y log is = subst (λ (z : Around). Carries false x.sides.parts z.sides.parts) (sym is.1) (carries_ended false number x.sides.parts)
dialled_to m number e (Some host) x y log is = subst (λ (z : Sides). Carries false x.sides.parts z.parts) (sym is.sides) (met m number e host (new_one is.answer x.sides.peers) x.sides)

dialled : (m : Moment) (number : ℕ) (o : Option Entry) (x y : Around) (log : Log) → IsDialledFor m number o x log y → Carries false x.sides.parts y.sides.parts
dialled m number None x y log is = carries_same x y is.1
dialled m number (Some e) x y log is = dialled_to m number e (dials_to (host_of e) x.sides.peers) x y log is

placed_as : (w : Placed) (m : Moment) (number : ℕ) (x y : Around) (log : Log) → IsPlacedAs w m number x log y → Carries false x.sides.parts y.sides.parts
placed_as (On k) m number x y log is = subst (λ (z : Around). Carries false x.sides.parts z.sides.parts) (sym is.1) (put number k x.sides)
placed_as Dial m number x y log is = dialled m number (entry_of number x.sides.parts.flow) x y log is
placed_as (CloseThenDial k) m number x y log is = subst (λ (z : Around). Carries false x.sides.parts z.sides.parts) (sym is.1) (carries_itself false x.sides.parts)
placed_as Wait m number x y log is = carries_same x y is.1

abbrev Onward : ℕ → Moment → Type 0
Onward more m = (after : Option ℕ) (x y : Around) (log : Log) → ArePlaced more m after x log y → Carries false x.sides.parts y.sides.parts

abbrev Steps : ℕ → Moment → Around → Log → Around → Option ℕ → Type 0
Steps more m x log y o = elim o [
  | None ↦ (log ≡ []) × (y ≡ x)
  | Some number ↦ (next : Around) × (first : Log) × (rest : Log) × (log ≡ first ++ rest) × IsPlaced m number x first next × ArePlaced more m (goes_on_behind (place_for m.limits number x.sides) number) next rest y
]

one_more : (more : ℕ) (m : Moment) → Onward more m → (x y : Around) (log : Log) (o : Option ℕ) → Steps more m x log y o → Carries false x.sides.parts y.sides.parts
one_more more m onward x y log None is = carries_same x y is.1
one_more more m onward x y log (Some number) (next, first, rest, is, placed, others) =
    carries_then false x.sides.parts next.sides.parts y.sides.parts (placed_as (place_for m.limits number x.sides) m number x next first placed)
    (onward (goes_on_behind (place_for m.limits number x.sides) number) next y rest others)

-- where one is left, this life goes astray
gone_astray : (b : Bool) (x : Around) → Carries false x.sides.parts (with_sides (with_parts (astray_where b)) x).sides.parts
gone_astray false x = carries_itself false x.sides.parts
gone_astray true x = let same : Carries false x.sides.parts x.sides.parts = carries_itself false x.sides.parts in record { count = same.count; each = same.each; memory = same.memory; astray = λ is. refl }

pub carries_places : (more : ℕ) (m : Moment) → Onward more m
unfolding ArePlaced
carries_places zero m after x y log is = subst (λ (z : Around). Carries false x.sides.parts z.sides.parts) (sym is.1) (gone_astray (is_some (next_waiting after x.sides)) x)
carries_places (suc more) m after x y log is = one_more more m (carries_places more m) x y log (next_waiting after x.sides) is

-- also up to wherever they come to
pub carries_reached : (steps : ℕ) (m : Moment) (after : Option ℕ) (x y : Around) (log : Log) → Reaches steps m after x log y → Carries false x.sides.parts y.sides.parts
unfolding Reaches
carries_reached zero m after x y log is = carries_same x y is.1
carries_reached (suc more) m after x y log (number, next, first, rest, waiting, is, placed, others) =
    carries_then false x.sides.parts next.sides.parts y.sides.parts (placed_as (place_for m.limits number x.sides) m number x next first placed)
    (carries_reached more m (goes_on_behind (place_for m.limits number x.sides) number) next y rest others)
