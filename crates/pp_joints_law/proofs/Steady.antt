-- From the first decision of a turn to its end nothing that happens is of the disk, and the clock does not tick.
use Rattle.std.proofs.Common.{◌≡◌, refl, sym, subst, ℕ, zero, suc, Bool, true, false, ◌||◌, not, nat_lt, cond, find, length, List, [], ◌∷◌, ◌++◌, Option, Some, None, Result, Ok, Err}
use Rattle.pp_desk.specs.Shutting.{closed_as, closings}
use Rattle.pp_flow.specs.Changes.{entry_of}
use Rattle.pp_flow.specs.declared.entry.Entry.{Entry}
use Rattle.pp_laws.proofs.Tests.{first_holds, second_holds}
use Rattle.pp_laws_crash.specs.Changes.{changes_disk}
use Rattle.pp_laws_quiet.specs.Quiet.{AreQuiet}
use Rattle.pp_laws_quiet.specs.Steady.{AreSteady, ticks}
use Rattle.pp_links.specs.Links.{Link, is_link, max_links, without as without_link}
use Rattle.pp_objects.specs.Instances.{Instance}
use Rattle.pp_obeys.proofs.Silent.{both_hold}
use Rattle.pp_peers.specs.declared.placing.Placed.{Placed}
use Rattle.pp_peers.specs.declared.placing.Placed.TheVariants.{On, Dial, CloseThenDial, Wait}
use Rattle.pp_places.specs.Around.{Around, Moment, moment_of}
use Rattle.pp_places.specs.Placing.{ArePlaced, IsDialledFor, IsDialledTo, IsPlaced, IsPlacedAs, dial_log, dials_to, goes_on_behind, host_of, next_waiting, place_for}
use Rattle.pp_proxy.specs.Closing.{ClosesOver}
use Rattle.pp_proxy.specs.Deciding.{Decides, DecidesAll, TakesOne, turned_log}
use Rattle.pp_proxy.specs.Moving.{Moving, with_state}
use Rattle.pp_proxy.specs.Rounds.{GoRounds, GoesRound}
use Rattle.pp_proxy.specs.Settling.{GoesOn, Settles}
use Rattle.pp_proxy.specs.Taking.{due_log, due_log_of, who_at}
use Rattle.pp_seats.specs.declared.due.Due.{Due}
use Rattle.pp_seats.specs.declared.due.Due.TheVariants.{Decide, CutOff}
use Rattle.pp_state.specs.declared.state.State.{State as Turn}
use Rattle.pp_steps.specs.Evicting.{row_in_way, row_notes}
use Rattle.pp_store.specs.Kept.{KeptMap}
use Rattle.pp_take.specs.Deciding.{afforded}
use Rattle.pp_world.specs.Log.{Log}
use Rattle.pp_world.specs.Wire.{dial_happening}
use Rattle.pp_world.specs.declared.event.Side.{Side}
use Rattle.pp_world.specs.declared.event.Side.TheVariants.{Client as OfClient, Origin}
use Rattle.pp_world.specs.declared.happening.Happening.{Happening}
use Rattle.pp_world.specs.declared.happening.Happening.TheVariants.{Noted}
use Rattle.pp_world.specs.declared.note.Cause.TheVariants.{Memory}
use Rattle.pp_world.specs.declared.note.Remark.TheVariants.{Taken, Cut}
use Rattle.pp_world.specs.declared.wire.WireFault.{WireFault}

-- ---- one behind the other

abbrev is_steady : Happening → Bool
is_steady h = not (changes_disk h || ticks h)

steady_then : (a b : Log) → AreSteady a → AreSteady b → AreSteady (a ++ b)
steady_then [] b one two = two
steady_then (h ∷ hs) b one two = both_hold (is_steady h) _ (first_holds (is_steady h) _ one) (steady_then hs b (second_holds (is_steady h) _ one) two)

steady_as : (a b : Log) → a ≡ b → AreSteady b → AreSteady a
steady_as a b same are = subst AreSteady (sym same) are

steady_both : (log a b : Log) → log ≡ a ++ b → AreSteady a → AreSteady b → AreSteady log
steady_both log a b is one two = steady_as log (a ++ b) is (steady_then a b one two)

-- ---- connections are closed

side_steady : (id : ℕ) (side : Side) → AreSteady (closed_as (Some (id, side)))
side_steady id OfClient = refl
side_steady id Origin = refl

link_steady : (o : Option Link) → AreSteady (closed_as o)
link_steady None = refl
link_steady (Some link) = side_steady link.0 link.1

closings_steady : (ids : List ℕ) (links : List Link) → AreSteady (closings ids links)
closings_steady [] links = refl
closings_steady (id ∷ ids) links = steady_then (closed_as (find (is_link id) links)) (closings ids (without_link id links)) (link_steady (find (is_link id) links)) (closings_steady ids (without_link id links))

-- ---- decisions

row_steady : (o : Option Instance) → AreSteady (row_notes o)
row_steady None = refl
row_steady (Some row) = refl

due_steady : (o : Option (ℕ × ℕ)) (i : ℕ) (due : Due) (p : Turn) → AreSteady (due_log_of o i due p)
due_steady None i due p = refl
due_steady (Some who) i (Decide d) p = steady_then (row_notes (row_in_way (afforded i d p) i p)) (Noted (Taken who.0 who.1 (afforded i d p)) ∷ []) (row_steady (row_in_way (afforded i d p) i p)) refl
due_steady (Some who) i (CutOff cause) p = refl

turned_steady : (o : Option ℕ) (links : List Link) → AreSteady (turned_log o links)
turned_steady None links = refl
turned_steady (Some c) links = steady_then (Noted (Cut c Memory) ∷ []) (closings (c ∷ []) links) refl (closings_steady (c ∷ []) links)

decided_steady : (more : ℕ) (shelf : KeptMap) (x y : Moving) (log : Log) (any : Bool) → Decides more shelf x log y any → AreSteady log
unfolding Decides
decided_steady zero shelf x y log any it = steady_as log [] it.0 refl
decided_steady (suc more) shelf x y log any it = by it.1 it.3 (λ next rest later decides. decided_steady more shelf next y rest later decides)
  where
    by : (o : Option (ℕ × Due)) → (elim o as (λ c. Type 0) [
      | None ↦ (log ≡ []) × (y ≡ with_state it.0 x) × (any ≡ false)
      | Some d ↦ (next : Moving) × (first : Log) × (rest : Log) × (later : Bool) × (log ≡ first ++ rest) × TakesOne d.0 d.1 (with_state it.0 x) first next × Decides more shelf next rest y later × (any ≡ true)
    ]) → ((next : Moving) (rest : Log) (later : Bool) → Decides more shelf next rest y later → AreSteady rest) → AreSteady log
    by None same behind = steady_as log [] same.0 refl
    by (Some d) taken behind =
        steady_both log taken.1 taken.2 taken.4 (steady_as taken.1 (due_log d.0 d.1 it.0) taken.5.log_is (due_steady (who_at d.0 it.0) d.0 d.1 it.0)) (behind taken.0 taken.2 taken.3 taken.6)

all_decided_steady : (shelf : KeptMap) (x y : Moving) (log : Log) (any : Bool) → DecidesAll shelf x log y any → AreSteady log
all_decided_steady shelf x y log any it =
    steady_both log it.first it.rest it.log_is (steady_as it.first (turned_log x.desk.turned_away x.links) it.turned.log_is (turned_steady x.desk.turned_away x.links)) (decided_steady 65536 shelf it.between y it.rest it.later it.decides)

-- ---- places

answer_steady : (host : List ℕ) (port : ℕ) (answer : Result ℕ WireFault) → AreSteady (dial_happening host port answer ∷ [])
answer_steady host port (Ok k) = refl
answer_steady host port (Err fault) = refl

dial_steady : (n : ℕ) (host : List ℕ) (port : ℕ) (answer : Result ℕ WireFault) → AreSteady (dial_log n host port answer)
dial_steady n host port answer = by (nat_lt n max_links)
  where
    by : (b : Bool) → AreSteady (cond b (dial_happening host port answer ∷ []) [])
    by true = answer_steady host port answer
    by false = refl

dialled_to_steady : (m : Moment) (n : ℕ) (e : Entry) (o : Option (List ℕ)) (x y : Around) (log : Log) → IsDialledTo m n e o x log y → AreSteady log
dialled_to_steady m n e None x y log it = steady_as log [] it.0 refl
dialled_to_steady m n e (Some host) x y log it = steady_as log (dial_log (length x.links) host e.errand.place.port it.answer) it.log_is (dial_steady (length x.links) host e.errand.place.port it.answer)

dialled_steady : (m : Moment) (n : ℕ) (o : Option Entry) (x y : Around) (log : Log) → IsDialledFor m n o x log y → AreSteady log
dialled_steady m n None x y log it = steady_as log [] it.0 refl
dialled_steady m n (Some e) x y log it = dialled_to_steady m n e (dials_to (host_of e) x.sides.peers) x y log it

placed_as_steady : (p : Placed) (m : Moment) (n : ℕ) (x y : Around) (log : Log) → IsPlacedAs p m n x log y → AreSteady log
placed_as_steady (On k) m n x y log it = steady_as log [] it.0 refl
placed_as_steady Dial m n x y log it = dialled_steady m n (entry_of n x.sides.parts.flow) x y log it
placed_as_steady (CloseThenDial k) m n x y log it = steady_as log (closings (k ∷ []) x.links) it.0 (closings_steady (k ∷ []) x.links)
placed_as_steady Wait m n x y log it = steady_as log [] it.0 refl

placed_steady : (more : ℕ) (m : Moment) (after : Option ℕ) (x y : Around) (log : Log) → ArePlaced more m after x log y → AreSteady log
unfolding ArePlaced
placed_steady zero m after x y log it = steady_as log [] it.0 refl
placed_steady (suc more) m after x y log it = by (next_waiting after x.sides) it (λ behind next rest placed. placed_steady more m behind next y rest placed)
  where
    by : (o : Option ℕ) → (elim o as (λ c. Type 0) [
      | None ↦ (log ≡ []) × (y ≡ x)
      | Some number ↦ (next : Around) × (first : Log) × (rest : Log) × (log ≡ first ++ rest) × IsPlaced m number x first next × ArePlaced more m (goes_on_behind (place_for m.limits number x.sides) number) next rest y
    ]) → ((behind : Option ℕ) (next : Around) (rest : Log) → ArePlaced more m behind next rest y → AreSteady rest) → AreSteady log
    by None same behind = steady_as log [] same.0 refl
    by (Some n) taken behind =
        steady_both log taken.1 taken.2 taken.3 (placed_as_steady (place_for m.limits n x.sides) m n x taken.0 taken.1 taken.4) (behind (goes_on_behind (place_for m.limits n x.sides) n) taken.0 taken.2 taken.5)

-- ---- rounds

closed_steady : (x y : Moving) (log : Log) → ClosesOver x log y → AreSteady log
closed_steady x y log it = steady_as log (closings _ x.links) it.log_is (closings_steady _ x.links)

round_steady : (shelf : KeptMap) (x y : Moving) (log : Log) (any : Bool) → GoesRound shelf x log y any → AreSteady log
round_steady shelf x y log any it =
    steady_both log (it.closing ++ it.placing) it.deciding it.log_is
    (steady_then it.closing it.placing (closed_steady _ it.closed it.closing it.closes) (placed_steady 65536 (moment_of it.closed.desk.state) None _ _ it.placing it.places.is))
    (all_decided_steady shelf it.placed y it.deciding any it.decides)

rounds_steady : (more : ℕ) (shelf : KeptMap) (any : Bool) (x y : Moving) (log : Log) → GoRounds more shelf any x log y → AreSteady log
unfolding GoRounds
rounds_steady zero shelf any x y log it = steady_as log [] it.0 refl
rounds_steady (suc more) shelf false x y log it = steady_as log [] it.0 refl
rounds_steady (suc more) shelf true x y log it = steady_both log it.1 it.2 it.4 (round_steady shelf x it.0 it.1 it.3 it.5) (rounds_steady more shelf it.3 it.0 y it.2 it.6)

-- ---- all of it

goes_steady : (b : Bool) (shelf : KeptMap) (x y : Moving) (log : Log) → GoesOn b shelf x log y → AreSteady log
goes_steady true shelf x y log it = closed_steady x y log it
goes_steady false shelf x y log it = rounds_steady 65536 shelf true x it.between log it.rounds

pub settles_steady : (shelf : KeptMap) (x y : Moving) (log : Log) → Settles shelf x log y → AreSteady log
settles_steady shelf x y log it = steady_both log it.first it.rest it.log_is (all_decided_steady shelf x it.between it.first it.any it.decides) (goes_steady it.between.desk.state.is_stopped shelf it.between y it.rest it.goes)

-- ---- so nothing is of the disk

is_quiet : (a b : Bool) → not (a || b) ≡ true → not a ≡ true
is_quiet true b is = is
is_quiet false b is = refl

pub steady_quiet : (hs : Log) → AreSteady hs → AreQuiet hs
steady_quiet [] are = refl
steady_quiet (h ∷ hs) are = both_hold (not (changes_disk h)) _ (is_quiet (changes_disk h) (ticks h) (first_holds (is_steady h) _ are)) (steady_quiet hs (second_holds (is_steady h) _ are))
