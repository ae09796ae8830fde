-- Each exchange without a place gets one, one behind the other, where the law gives it one.
use Rattle.std.proofs.Common.{◌≡◌, refl, sym, subst, ap, ◌∙◌, ℕ, zero, suc, Bool, true, false, not, find, List, [], ◌++◌, Option, Some, None}
use Rattle.std.proofs.lemmas.List.Folds.{list_all-append}
use Rattle.std.specs.List.{list_all}
use Rattle.std.specs.Prelude.{is_some, option_map}
use Rattle.pp_desk.specs.Closings.{with_parts}
use Rattle.pp_flow.specs.Changes.{entry_of, is_after}
use Rattle.pp_flow.specs.declared.entry.Entry.{Entry}
use Rattle.pp_flow_law.specs.Tables.{ShowsFlow, none_leaves}
use Rattle.pp_law.specs.Connections.{AllPlaced, Placement, WaitsDial, place_each, place_for, placing, put_on}
use Rattle.pp_law.specs.Phases.{is_placed}
use Rattle.pp_law.specs.State.{State, Exchange}
use Rattle.pp_laws.proofs.Tests.{first_holds, second_holds}
use Rattle.pp_obeys.proofs.Moving.{leads_then}
use Rattle.pp_obeys.specs.Failures.{fails}
use Rattle.pp_obeys.specs.Moves.{AreCalm, Leads}
use Rattle.pp_peers.specs.declared.placing.Placed.{Placed}
use Rattle.pp_peers.specs.declared.placing.Placed.TheVariants.{On, Dial, CloseThenDial, Wait}
use Rattle.pp_places.specs.Around.{Around, moment_of, with_sides}
use Rattle.pp_places.specs.Placing.{ArePlaced, IsDialledFor, IsPlaced, IsPlacedAs, given_way, goes_on_behind, next_waiting, place_for as place_in_turn, put_on as put_in_turn}
use Rattle.pp_state.specs.Astray.{astray_where}
use Rattle.pp_state.specs.declared.state.State.{State as Turn}
use Rattle.pp_world.specs.Log.{Log}
use Rattle.pp_places_law.proofs.Dials.{dials}
use Rattle.pp_places_law.proofs.Ended.{done_is, next_shows}
use Rattle.pp_places_law.proofs.Puts.{places, puts}
use Rattle.pp_places_law.proofs.Walks.{IsNext, all_there, behind, behind_put, by_place, from_first, stops_at, walks}
use Rattle.pp_places_law.proofs.Ways.{ways}
use Rattle.pp_places_law.specs.Around.{MayPlace, ShowsAround}
use Rattle.pp_places_law.specs.Places.{AllPlacesAreTheLaws, AreLed, HavePlaces, IsLed, IsUnplaced}

-- ---- the happenings in it are calm

abbrev is_calm : Log → Bool
is_calm hs = list_all (λ h. not (fails h)) hs

calm_first : (one two log : Log) → log ≡ one ++ two → AreCalm log → AreCalm one
calm_first one two log is calm = first_holds (is_calm one) (is_calm two) (sym (list_all-append (λ h. not (fails h)) one two) ∙ ap is_calm (sym is) ∙ calm)

calm_rest : (one two log : Log) → log ≡ one ++ two → AreCalm log → AreCalm two
calm_rest one two log is calm = second_holds (is_calm one) (is_calm two) (sym (list_all-append (λ h. not (fails h)) one two) ∙ ap is_calm (sym is) ∙ calm)

-- ---- what is so of a log that leads on from a state

-- it is so of the front of it, and behind one that got its place or found none; and a dial leads on
pub record LeadsOn (number : ℕ → ℕ) (p : Turn) (May : Option ℕ → Around → Log → State → Type 0) : Type 0 where
  pub front : (after : Option ℕ) (x : Around) (one two log : Log) (s : State) → log ≡ one ++ two → May after x log s → May after x one s
  pub behind_it : (after : Option ℕ) (x next : Around) (n : ℕ) (one two log : Log) (s t : State) → next_waiting after x.sides ≡ Some n → IsPlaced (moment_of p) n x one next → log ≡ one ++ two → Leads one s t → May after x log s
      → May (goes_on_behind (place_in_turn p.limits n x.sides) n) next two t
  pub dials : (after : Option ℕ) (x : Around) (s : State) (e : Exchange) (log : Log) (y : Around) → ShowsAround number p x (placing s).state → MayPlace s → IsUnplaced (placing s).state e → (placing s).pause ≡ WaitsDial e → May after x log s
      → IsDialledFor (moment_of p) e.number (entry_of e.number x.sides.parts.flow) x log y → IsLed number p log y s

-- ---- where the turn stands

-- the law goes on with those behind that one
record Stands (number : ℕ → ℕ) (p : Turn) (after : Option ℕ) (x : Around) (s t : State) : Type 0 where
  shows : ShowsAround number p x t
  may : MayPlace s
  late : MayPlace t
  walks : placing s ≡ place_each (behind after t.exchanges) t

from_start : (number : ℕ → ℕ) (p : Turn) (x : Around) (s : State) → ShowsAround number p x s → MayPlace s → Stands number p None x s s
from_start number p x s shows may = record {
  shows = shows;
  may = may;
  late = may;
  walks = ap (λ (ns : List ℕ). place_each ns s) (sym (from_first s.next_exchange s.exchanges shows.turn.steps.shows.exchanges.given));
}

next_of : (number : ℕ → ℕ) (p : Turn) (after : Option ℕ) (x : Around) (t : State) → ShowsAround number p x t → IsNext number t after 0 t.exchanges (find (is_after after) x.sides.parts.flow.waiting)
next_of number p after x t shows =
    let flow : ShowsFlow number none_leaves x.sides.parts.flow t = shows.turn.steps.shows.exchanges in
    walks number t after 0 t.next_exchange t.exchanges x.sides.parts.flow.waiting flow.given (all_there t t.next_exchange flow.given) flow.waiting

-- ---- what comes of one

-- these happenings lead on, and the turn stands there
record GoesOn (number : ℕ → ℕ) (p : Turn) (after : Option ℕ) (log : Log) (y : Around) (s : State) : Type 0 where
  behind_it : State
  now : State
  leads : Leads log s behind_it
  stands : Stands number p after y behind_it now

led : (number : ℕ → ℕ) (p : Turn) (log : Log) (y : Around) (s : State) → IsLed number p log y s → GoesOn number p None log y s
led number p log y s is = record { behind_it = is.state; now = is.state; leads = is.leads; stands = from_start number p y is.state is.shows is.may }

still : (s : State) (log : Log) → log ≡ [] → Leads log s s
still s log is = subst (λ (hs : Log). Leads hs s s) (sym is) refl

one : (number : ℕ → ℕ) (p : Turn) (May : Option ℕ → Around → Log → State → Type 0) → LeadsOn number p May → (after : Option ℕ) (x y : Around) (s t : State) (e : Exchange) (ns : List ℕ) (log : Log) (w : Placed) → ShowsAround number p x t → MayPlace s → MayPlace t → IsUnplaced t e
    → ns ≡ behind (Some e.number) t.exchanges → placing s ≡ by_place t ns e.number e w → place_for t e ≡ w → May after x log s → IsPlacedAs w (moment_of p) e.number x log y → GoesOn number p (goes_on_behind w e.number) log y s
one number p May on after x y s t e ns log (On k) shows may late un these is place so step =
    let put : ShowsAround number p (with_sides (put_in_turn e.number k) x) (put_on e.number k t) × MayPlace (put_on e.number k t) = puts number p x t shows late e k un place in
    record {
      behind_it = s;
      now = put_on e.number k t;
      leads = still s log step.0;
      stands = record {
        shows = subst (λ (z : Around). ShowsAround number p z (put_on e.number k t)) (sym step.1) put.0;
        may = may;
        late = put.1;
        walks = is ∙ ap (λ (ms : List ℕ). place_each ms (put_on e.number k t)) (these ∙ sym (behind_put (Some e.number) e.number k t));
      };
    }
one number p May on after x y s t e ns log Wait shows may late un these is place so step = record {
  behind_it = s;
  now = t;
  leads = still s log step.0;
  stands = record {
    shows = subst (λ (z : Around). ShowsAround number p z t) (sym step.1) shows;
    may = may;
    late = late;
    walks = is ∙ ap (λ (ms : List ℕ). place_each ms t) these;
  };
}
one number p May on after x y s t e ns log Dial shows may late un these is place so step =
    led number p log y s
    (on.dials after x s e log y (subst (λ (q : Placement). ShowsAround number p x q.state) (sym is) shows) may (subst (λ (q : Placement). IsUnplaced q.state e) (sym is) un) (ap (λ (q : Placement). q.pause) is) so step)
one number p May on after x y s t e ns log (CloseThenDial k) shows may late un these is place so step =
    led number p log y s
    (subst (λ (z : Around). IsLed number p log z s) (sym step.1)
    (subst (λ (hs : Log). IsLed number p hs (given_way k x) s) (sym step.0)
    (ways number p x s (subst (λ (q : Placement). ShowsAround number p x q.state) (sym is) shows) may k e (ap (λ (q : Placement). q.pause) is))))

-- ---- one behind the other

-- so far, and how it ends
record Ends (number : ℕ → ℕ) (p : Turn) (log : Log) (y : Around) (s : State) : Type 0 where
  state : State
  leads : Leads log s state
  ends : y.sides.parts.is_astray ≡ false → HavePlaces number p y state

nothing : (number : ℕ → ℕ) (p : Turn) (after : Option ℕ) (x : Around) (log : Log) (y : Around) (s t : State) → Stands number p after x s t → placing s ≡ record { state = t; pause = AllPlaced } → y ≡ x → HavePlaces number p y s
nothing number p after x log y s t stands is same =
    let placed : is_placed (placing s).pause ≡ true = ap (λ (q : Placement). is_placed q.pause) is in
    let shows : ShowsAround number p y (placing s).state =
    subst (λ (q : Placement). ShowsAround number p y q.state) (sym is) (subst (λ (z : Around). ShowsAround number p z t) (sym same) stands.shows) in
    record { placed = placed; shows = shows; may = stands.may; done = done_is s stands.may placed; behind = next_shows number p y s stands.may shows }

abbrev Steps : Turn → ℕ → Option ℕ → Around → Log → Around → Option ℕ → Type 0
Steps p more after x log y o = elim o [
  | None ↦ (log ≡ []) × (y ≡ x)
  | Some n ↦ (next : Around) × (first : Log) × (rest : Log) × (log ≡ first ++ rest) × IsPlaced (moment_of p) n x first next × ArePlaced more (moment_of p) (goes_on_behind (place_in_turn (moment_of p).limits n x.sides) n) next rest y
]

loop : (number : ℕ → ℕ) (p : Turn) (May : Option ℕ → Around → Log → State → Type 0) → LeadsOn number p May → (more : ℕ) (after : Option ℕ) (x y : Around) (s t : State) (log : Log) → Stands number p after x s t → May after x log s → ArePlaced more (moment_of p) after x log y
    → Ends number p log y s
unfolding ArePlaced
loop number p May on zero after x y s t log stands so run = record { state = s; leads = still s log run.0; ends = by (find (is_after after) x.sides.parts.flow.waiting) refl (next_of number p after x t stands.shows) }
  where
    ends_as : (o : Option Entry) → find (is_after after) x.sides.parts.flow.waiting ≡ o → y ≡ with_sides (with_parts (astray_where (is_some (option_map (λ (e : Entry). e.exchange.number) o)))) x
    ends_as o is = subst (λ (o : Option Entry). y ≡ with_sides (with_parts (astray_where (is_some (option_map (λ (e : Entry). e.exchange.number) o)))) x) is run.1

    -- where one is left, this life went astray
    by : (o : Option Entry) → find (is_after after) x.sides.parts.flow.waiting ≡ o → IsNext number t after 0 t.exchanges o → y.sides.parts.is_astray ≡ false → HavePlaces number p y s
    by None is next well = nothing number p after x log y s t stands (stands.walks ∙ next) (ends_as None is)
    by (Some w) is next well = absurd (let both : true ≡ false = sym (ap (λ (z : Around). z.sides.parts.is_astray) (ends_as (Some w) is)) ∙ well in cc both)
loop number p May on (suc more) after x y s t log stands so run =
    by (find (is_after after) x.sides.parts.flow.waiting) refl (next_of number p after x t stands.shows) (λ behind_it z u v hs now ok go. loop number p May on more behind_it z y u v hs now ok go)
  where
    by : (o : Option Entry) → find (is_after after) x.sides.parts.flow.waiting ≡ o → IsNext number t after 0 t.exchanges o → ((behind_it : Option ℕ) (z : Around) (u v : State) (hs : Log) → Stands number p behind_it z u v → May behind_it z hs u → ArePlaced more (moment_of p) behind_it z hs y → Ends number p hs y u) → Ends number p log y s
    by None is next again =
        let end : (log ≡ []) × (y ≡ x) = subst (λ (o : Option Entry). Steps p more after x log y (option_map (λ e. e.exchange.number) o)) is run in
        record { state = s; leads = still s log end.0; ends = λ well. nothing number p after x log y s t stands (stands.walks ∙ next) end.1 }
    by (Some w) is next again =
        let place : place_in_turn p.limits next.known.number x.sides ≡ place_for t next.known = places number p x t stands.shows stands.late next.known next.un in
        let at : GoesOn number p (goes_on_behind (place_for t next.known) next.known.number) step.1 step.0 s =
        one number p May on after x step.0 s t next.known (behind (Some next.known.number) t.exchanges) step.1 (place_for t next.known) stands.shows stands.may stands.late next.un refl
        (stands.walks ∙ next.walks ∙ stops_at t next.known (behind (Some next.known.number) t.exchanges) (place_for t next.known) next.un refl) refl (on.front after x step.1 step.2 log s step.3 so)
        (subst (λ (v : Placed). IsPlacedAs v (moment_of p) next.known.number x step.1 step.0) place step.4) in
        let more_run : ArePlaced more (moment_of p) (goes_on_behind (place_for t next.known) next.known.number) step.0 step.2 y =
        subst (λ (v : Placed). ArePlaced more (moment_of p) (goes_on_behind v next.known.number) step.0 step.2 y) place step.5 in
        let rest : Ends number p step.2 y at.behind_it =
        again (goes_on_behind (place_for t next.known) next.known.number) step.0 at.behind_it at.now step.2 at.stands
        (subst (λ (v : Placed). May (goes_on_behind v next.known.number) step.0 step.2 at.behind_it) place (on.behind_it after x step.0 next.known.number step.1 step.2 log s at.behind_it number_next step.4 step.3 at.leads so)) more_run in
        record {
          state = rest.state;
          leads = subst (λ (hs : Log). Leads hs s rest.state) (sym step.3) (leads_then (λ v. v ≡ rest.state) step.1 step.2 s at.behind_it at.leads rest.leads);
          ends = rest.ends;
        }
      where
        number_next : next_waiting after x.sides ≡ Some next.known.number
        number_next = ap (λ (o : Option Entry). option_map (λ e. e.exchange.number) o) is ∙ ap (λ (m : ℕ). Some m) next.shows.number

        step : Steps p more after x log y (Some next.known.number)
        step = subst (λ (m : ℕ). Steps p more after x log y (Some m)) next.shows.number (subst (λ (o : Option Entry). Steps p more after x log y (option_map (λ e. e.exchange.number) o)) is run)

pub run : (number : ℕ → ℕ) (p : Turn) (May : Option ℕ → Around → Log → State → Type 0) → LeadsOn number p May → (x : Around) (s : State) → ShowsAround number p x s → MayPlace s → (more : ℕ) (log : Log) (y : Around) → May None x log s → ArePlaced more (moment_of p) None x log y
    → AreLed number p log y s
run number p May on x s shows may more log y so steps =
    let end : Ends number p log y s = loop number p May on more None x y s s log (from_start number p x s shows may) so steps in record { state = end.state; leads = end.leads; ends = end.ends }

-- where no dial is refused
pub all : AllPlacesAreTheLaws
all number p x s shows may more log y calm steps =
    run number p (λ (after : Option ℕ) (z : Around) (hs : Log) (t : State). AreCalm hs)
    (record {
      front = λ after z one two hs t is so. calm_first one two hs is so;
      behind_it = λ after z next n one two hs t u waiting placed is leads so. calm_rest one two hs is so;
      dials = λ after z t e hs w shown ok un waits so dial. dials number p z t shown ok e hs w un waits so dial;
    })
    x s shows may more log y calm steps
