-- What happens as connections are closed and places are given: connections are shut, dropped and dialled.
use Rattle.std.proofs.Common.{◌≡◌, sym, subst, ℕ, zero, suc, Bool, true, false, cond, find, length, nat_lt, List, [], ◌∷◌, ◌++◌, Option, Some, None, Result, Ok, Err}
use Rattle.pp_asks_law.proofs.Along.{AreOfPlaces, dials, drops, of_both, refuses, shuts}
use Rattle.pp_desk.specs.Shutting.{closed_as, closings}
use Rattle.pp_flow.specs.Changes.{entry_of}
use Rattle.pp_flow.specs.declared.entry.Entry.{Entry}
use Rattle.pp_links.specs.Links.{Link, is_link, max_links, without as without_link}
use Rattle.pp_peers.specs.declared.placing.Placed.{Placed}
use Rattle.pp_peers.specs.declared.placing.Placed.TheVariants.{On, Dial, CloseThenDial, Wait}
use Rattle.pp_places.specs.Around.{Around, Moment}
use Rattle.pp_places.specs.Placing.{ArePlaced, IsDialledFor, IsDialledTo, IsPlaced, IsPlacedAs, dial_log, dials_to, goes_on_behind, host_of, next_waiting, place_for}
use Rattle.pp_places_law.specs.Places.{Reaches}
use Rattle.pp_world.specs.Log.{Log}
use Rattle.pp_world.specs.Wire.{dial_happening}
use Rattle.pp_world.specs.declared.event.Side.{Side}
use Rattle.pp_world.specs.declared.event.Side.TheVariants.{Client as OfClient, Origin}
use Rattle.pp_world.specs.declared.wire.WireFault.{WireFault}

-- ---- what happens as places are given

pub of_same : (a b : Log) → a ≡ b → AreOfPlaces b → AreOfPlaces a
of_same a b same are = subst AreOfPlaces (sym same) are

side_is : (id : ℕ) (side : Side) → AreOfPlaces (closed_as (Some (id, side)))
side_is id OfClient = (shuts id, tt)
side_is id Origin = (drops id, tt)

link_is : (o : Option Link) → AreOfPlaces (closed_as o)
link_is None = tt
link_is (Some link) = side_is link.0 link.1

pub closings_are : (ids : List ℕ) (links : List Link) → AreOfPlaces (closings ids links)
closings_are [] links = tt
closings_are (id ∷ ids) links = of_both (closed_as (find (is_link id) links)) (closings ids (without_link id links)) (link_is (find (is_link id) links)) (closings_are ids (without_link id links))

dial_is : (n : ℕ) (host : List ℕ) (port : ℕ) (answer : Result ℕ WireFault) → AreOfPlaces (dial_log n host port answer)
dial_is n host port answer = by (nat_lt n max_links) answer
  where
    by : (b : Bool) (r : Result ℕ WireFault) → AreOfPlaces (cond b (dial_happening host port r ∷ []) [])
    by true (Ok k) = (dials k host port, tt)
    by true (Err fault) = (refuses host port, tt)
    by false r = tt

dialled_to_is : (m : Moment) (n : ℕ) (e : Entry) (o : Option (List ℕ)) (x y : Around) (log : Log) → IsDialledTo m n e o x log y → AreOfPlaces log
dialled_to_is m n e None x y log it = of_same log [] it.0 tt
dialled_to_is m n e (Some host) x y log it = of_same log (dial_log (length x.links) host e.errand.place.port it.answer) it.log_is (dial_is (length x.links) host e.errand.place.port it.answer)

dialled_is : (m : Moment) (n : ℕ) (o : Option Entry) (x y : Around) (log : Log) → IsDialledFor m n o x log y → AreOfPlaces log
dialled_is m n None x y log it = of_same log [] it.0 tt
dialled_is m n (Some e) x y log it = dialled_to_is m n e (dials_to (host_of e) x.sides.peers) x y log it

placed_as_is : (p : Placed) (m : Moment) (n : ℕ) (x y : Around) (log : Log) → IsPlacedAs p m n x log y → AreOfPlaces log
placed_as_is (On k) m n x y log it = of_same log [] it.0 tt
placed_as_is Dial m n x y log it = dialled_is m n (entry_of n x.sides.parts.flow) x y log it
placed_as_is (CloseThenDial k) m n x y log it = of_same log (closings (k ∷ []) x.links) it.0 (closings_are (k ∷ []) x.links)
placed_as_is Wait m n x y log it = of_same log [] it.0 tt

pub reached_is : (steps : ℕ) (m : Moment) (after : Option ℕ) (x y : Around) (log : Log) → Reaches steps m after x log y → AreOfPlaces log
unfolding Reaches
reached_is zero m after x y log it = of_same log [] it.0 tt
reached_is (suc more) m after x y log (number, next, first, rest, waiting, is, placed, others) =
    of_same log (first ++ rest) is (of_both first rest (placed_as_is (place_for m.limits number x.sides) m number x next first placed)
    (reached_is more m (goes_on_behind (place_for m.limits number x.sides) number) next y rest others))

abbrev Steps : ℕ → Moment → Around → Log → Around → Option ℕ → Type 0
Steps more m x log y o = elim o [
  | None ↦ (log ≡ []) × (y ≡ x)
  | Some number ↦ (next : Around) × (first : Log) × (rest : Log) × (log ≡ first ++ rest) × IsPlaced m number x first next × ArePlaced more m (goes_on_behind (place_for m.limits number x.sides) number) next rest y
]

pub placed_are : (more : ℕ) (m : Moment) (after : Option ℕ) (x y : Around) (log : Log) → ArePlaced more m after x log y → AreOfPlaces log
unfolding ArePlaced
placed_are zero m after x y log it = of_same log [] it.0 tt
placed_are (suc more) m after x y log it = by (next_waiting after x.sides) it (λ behind next rest others. placed_are more m behind next y rest others)
  where
    by : (o : Option ℕ) → Steps more m x log y o → ((behind : Option ℕ) (next : Around) (rest : Log) → ArePlaced more m behind next rest y → AreOfPlaces rest) → AreOfPlaces log
    by None same behind = of_same log [] same.0 tt
    by (Some n) (next, first, rest, is, placed, others) behind =
        of_same log (first ++ rest) is (of_both first rest (placed_as_is (place_for m.limits n x.sides) m n x next first placed) (behind (goes_on_behind (place_for m.limits n x.sides) n) next rest others))
