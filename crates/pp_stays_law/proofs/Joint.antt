-- As exchanges get their places, what is kept on the disk stands for the law's entries, and what came on connections stands, also where dials
-- are refused.
use Rattle.std.proofs.Common.{◌≡◌, ◌<◌, refl, sym, subst, ap, ◌∙◌, ℕ, zero, suc, Bool, true, false, find, length, List, [], ◌∷◌, ◌++◌, Option, Some, None}
use Rattle.std.specs.Prelude.{is_some, option_map}
use Rattle.pp_desk.specs.Closings.{with_parts}
use Rattle.pp_desk.specs.Shutting.{closings}
use Rattle.pp_flow.specs.Changes.{is_after}
use Rattle.pp_flow.specs.declared.entry.Entry.{Entry}
use Rattle.pp_flow_law.specs.Tables.{ShowsFlow, none_leaves}
use Rattle.pp_law.specs.Connections.{Placement, WaitsDial, place_each, place_for, placing, put_on}
use Rattle.pp_law.specs.State.{State, Exchange}
use Rattle.pp_obeys.proofs.Moving.{leads_then}
use Rattle.pp_obeys.specs.Moves.{Leads}
use Rattle.pp_peers.specs.declared.placing.Placed.{Placed}
use Rattle.pp_peers.specs.declared.placing.Placed.TheVariants.{On, Dial, CloseThenDial, Wait}
use Rattle.pp_places.specs.Around.{Around, moment_of, with_sides}
use Rattle.pp_places.specs.Placing.{ArePlaced, IsPlaced, IsPlacedAs, given_way, goes_on_behind, next_waiting, place_for as place_in_turn, put_on as put_in_turn}
use Rattle.pp_places_law.proofs.Loops.{LeadsOn}
use Rattle.pp_places_law.proofs.Puts.{places, puts}
use Rattle.pp_places_law.proofs.Walks.{IsNext, all_there, behind, behind_put, by_place, from_first, stops_at, walks}
use Rattle.pp_places_law.proofs.Ways.{ways}
use Rattle.pp_places_law.specs.Around.{MayPlace, ShowsAround}
use Rattle.pp_places_law.specs.Places.{IsLed, IsUnplaced}
use Rattle.pp_places_law.specs.Refusals.{MayBeRefused}
use Rattle.pp_state.specs.Astray.{astray_where}
use Rattle.pp_state.specs.declared.state.State.{State as Turn}
use Rattle.pp_store.specs.Kept.{KeptMap}
use Rattle.pp_world.specs.Log.{Log}
use Rattle.pp_stays_law.proofs.Came.{Came, any_came, put_came}
use Rattle.pp_stays_law.proofs.Dialled.{Behind, dialled_behind}
use Rattle.pp_stays_law.proofs.Events.{all_close, closings_fine}
use Rattle.pp_stays_law.proofs.Fits.{HasNameAmong, named_places, named_suits}
use Rattle.pp_stays_law.proofs.Names.{few_noted}
use Rattle.pp_stays_law.proofs.OnDisk.{IsKeptBy, any_disk, put_disk}
use Rattle.pp_stays_law.proofs.Rested.{placed_as}
use Rattle.pp_stays_law.proofs.Walk.{Holds}
use Rattle.pp_stays_law.specs.Names.{AsksAmong, HasRoomFor}

-- ---- what stands beside

abbrev Named : List (List ℕ) → Around → Type 0
Named names x = Holds (AsksAmong names) (HasNameAmong names) (HasNameAmong names) (HasRoomFor names) x.sides.parts

-- from a state on
pub record Beside (shelf : KeptMap) (names : List (List ℕ)) (start : State) (x : Around) (s : State) : Type 0 where
  pub fine : Holds (AsksAmong names) (HasNameAmong names) (HasNameAmong names) (HasRoomFor names) x.sides.parts
  pub disk : IsKeptBy shelf x.sides.parts.cache.outdated s
  pub came : (n k : ℕ) → Came n k start → Came n k s

module _ (shelf : KeptMap) (names : List (List ℕ)) (start : State) (number : ℕ → ℕ) (p : Turn) (May : Option ℕ → Around → Log → State → Type 0) (on : LeadsOn number p May)
    (refusable : (after : Option ℕ) (x : Around) (s : State) (e : Exchange) (log : Log) → ShowsAround number p x (placing s).state → MayPlace s → (placing s).pause ≡ WaitsDial e → May after x log s → MayBeRefused p x (placing s).state e) where
  abbrev Stands : Around → State → Type 0
  Stands x s = Beside shelf names start x s

  -- ---- where the turn stands

  -- the law goes on with those behind that one
  record Goes (after : Option ℕ) (x : Around) (s t : State) : Type 0 where
    shows : ShowsAround number p x t
    may : MayPlace s
    late : MayPlace t
    walks_on : placing s ≡ place_each (behind after t.exchanges) t

  from_start : (x : Around) (s : State) → ShowsAround number p x s → MayPlace s → Goes None x s s
  from_start x s shows may = record {
    shows = shows;
    may = may;
    late = may;
    walks_on = ap (λ (ns : List ℕ). place_each ns s) (sym (from_first s.next_exchange s.exchanges shows.turn.steps.shows.exchanges.given));
  }

  next_of : (after : Option ℕ) (x : Around) (t : State) → ShowsAround number p x t → IsNext number t after 0 t.exchanges (find (is_after after) x.sides.parts.flow.waiting)
  next_of after x t shows =
      let flow : ShowsFlow number none_leaves x.sides.parts.flow t = shows.turn.steps.shows.exchanges in
      walks number t after 0 t.next_exchange t.exchanges x.sides.parts.flow.waiting flow.given (all_there t t.next_exchange flow.given) flow.waiting

  -- ---- what comes of one

  record GoesOn (after : Option ℕ) (log : Log) (y : Around) (s : State) : Type 0 where
    behind_it : State
    now : State
    leads : Leads log s behind_it
    goes : Goes after y behind_it now
    stands : Stands y behind_it

  still : (s : State) (log : Log) → log ≡ [] → Leads log s s
  still s log is = subst (λ (hs : Log). Leads hs s s) (sym is) refl

  led : (log : Log) (y : Around) (s : State) (is : IsLed number p log y s) → Stands y is.state → GoesOn None log y s
  led log y s is stands = record { behind_it = is.state; now = is.state; leads = is.leads; goes = from_start y is.state is.shows is.may; stands = stands }

  fine_on : (w : Placed) (n : ℕ) (x y : Around) (log : Log) → IsPlacedAs w (moment_of p) n x log y → Named names x → Named names y
  fine_on w n x y log step h = placed_as (AsksAmong names) (HasNameAmong names) (HasNameAmong names) (HasRoomFor names) (named_suits names) (named_places names) w (moment_of p) n x y log step h

  one : (after : Option ℕ) (x y : Around) (s t : State) (e : Exchange) (ns : List ℕ) (log : Log) (w : Placed) → ShowsAround number p x t → MayPlace s → MayPlace t → IsUnplaced t e → ns ≡ behind (Some e.number) t.exchanges → placing s ≡ by_place t ns e.number e w → place_for t e ≡ w
      → May after x log s → Stands x s → IsPlacedAs w (moment_of p) e.number x log y → GoesOn (goes_on_behind w e.number) log y s
  one after x y s t e ns log (On k) shows may late un these is place so stands step =
      let put : ShowsAround number p (with_sides (put_in_turn e.number k) x) (put_on e.number k t) × MayPlace (put_on e.number k t) = puts number p x t shows late e k un place in
      record {
        behind_it = s;
        now = put_on e.number k t;
        leads = still s log step.0;
        goes = record {
          shows = subst (λ (z : Around). ShowsAround number p z (put_on e.number k t)) (sym step.1) put.0;
          may = may;
          late = put.1;
          walks_on = is ∙ ap (λ (ms : List ℕ). place_each ms (put_on e.number k t)) (these ∙ sym (behind_put (Some e.number) e.number k t));
        };
        stands = record { fine = fine_on (On k) e.number x y log step stands.fine; disk = subst (λ (z : Around). IsKeptBy shelf z.sides.parts.cache.outdated s) (sym step.1) stands.disk; came = stands.came };
      }
  one after x y s t e ns log Wait shows may late un these is place so stands step = record {
    behind_it = s;
    now = t;
    leads = still s log step.0;
    goes = record { shows = subst (λ (z : Around). ShowsAround number p z t) (sym step.1) shows; may = may; late = late; walks_on = is ∙ ap (λ (ms : List ℕ). place_each ms t) these };
    stands = record { fine = fine_on Wait e.number x y log step stands.fine; disk = subst (λ (z : Around). IsKeptBy shelf z.sides.parts.cache.outdated s) (sym step.1) stands.disk; came = stands.came };
  }
  one after x y s t e ns log Dial shows may late un these is place so stands step =
      let there : ShowsAround number p x (placing s).state = subst (λ (q : Placement). ShowsAround number p x q.state) (sym is) shows in
      let unplaced : IsUnplaced (placing s).state e = subst (λ (q : Placement). IsUnplaced q.state e) (sym is) un in
      let waits : (placing s).pause ≡ WaitsDial e = ap (λ (q : Placement). q.pause) is in
      let all : IsLed number p log y s = on.dials after x s e log y there may unplaced waits so step in
      let few : length x.sides.parts.cache.outdated < 2048 = few_noted names x.sides.parts.cache stands.fine.memory in
      let its : Behind shelf number p x y s all.state e log there may unplaced waits (refusable after x s e log there may waits so) step all.leads few stands.disk =
      dialled_behind shelf number p x y s all.state e log there may unplaced waits (refusable after x s e log there may waits so) step all.leads few stands.disk in
      led log y s all (record { fine = fine_on Dial e.number x y log step stands.fine; disk = its.disk; came = λ n k at. its.came n k (stands.came n k at) })
  one after x y s t e ns log (CloseThenDial k) shows may late un these is place so stands step =
      let all : IsLed number p log y s =
      subst (λ (z : Around). IsLed number p log z s) (sym step.1)
      (subst (λ (hs : Log). IsLed number p hs (given_way k x) s) (sym step.0)
      (ways number p x s (subst (λ (q : Placement). ShowsAround number p x q.state) (sym is) shows) may k e (ap (λ (q : Placement). q.pause) is))) in
      let leads_by : Leads (closings (k ∷ []) x.links) s all.state = subst (λ (hs : Log). Leads hs s all.state) step.0 all.leads in
      led log y s all
      (record {
        fine = fine_on (CloseThenDial k) e.number x y log step stands.fine;
        disk =
            subst (λ (z : Around). IsKeptBy shelf z.sides.parts.cache.outdated all.state) (sym step.1)
            (closings_fine (IsKeptBy shelf x.sides.parts.cache.outdated) (any_disk shelf x.sides.parts.cache.outdated) (put_disk shelf x.sides.parts.cache.outdated) (closings (k ∷ []) x.links) s all.state (all_close (k ∷ []) x.links) may.connecting leads_by stands.disk);
        came = λ n c at. closings_fine (Came n c) (any_came n c) (put_came n c) (closings (k ∷ []) x.links) s all.state (all_close (k ∷ []) x.links) may.connecting leads_by (stands.came n c at);
      })

  -- ---- one behind the other

  pub record Ends (log : Log) (y : Around) (s : State) : Type 0 where
    pub state : State
    pub leads : Leads log s state
    pub may : MayPlace state
    pub stands : Beside shelf names start y state

  abbrev Steps : ℕ → Option ℕ → Around → Log → Around → Option ℕ → Type 0
  Steps more after x log y o = elim o [
    | None ↦ (log ≡ []) × (y ≡ x)
    | Some n ↦ (next : Around) × (first : Log) × (rest : Log) × (log ≡ first ++ rest) × IsPlaced (moment_of p) n x first next × ArePlaced more (moment_of p) (goes_on_behind (place_in_turn (moment_of p).limits n x.sides) n) next rest y
  ]

  -- where one is left, this life goes astray
  astray_stands : (b : Bool) (x : Around) (s : State) → Stands x s → Stands (with_sides (with_parts (astray_where b)) x) s
  astray_stands false x s stands = stands
  astray_stands true x s stands = record { fine = record { seats = stands.fine.seats; waiting = stands.fine.waiting; placed = stands.fine.placed; memory = stands.fine.memory }; disk = stands.disk; came = stands.came }

  loop : (more : ℕ) (after : Option ℕ) (x y : Around) (s t : State) (log : Log) → Goes after x s t → May after x log s → Stands x s → ArePlaced more (moment_of p) after x log y → Ends log y s
  unfolding ArePlaced
  loop zero after x y s t log goes so stands run = record {
    state = s;
    leads = still s log run.0;
    may = goes.may;
    stands = subst (λ (z : Around). Stands z s) (sym run.1) (astray_stands (is_some (next_waiting after x.sides)) x s stands);
  }
  loop (suc more) after x y s t log goes so stands run =
      by (find (is_after after) x.sides.parts.flow.waiting) refl (next_of after x t goes.shows) (λ behind_it z u v hs now ok at go. loop more behind_it z y u v hs now ok at go)
    where
      by : (o : Option Entry) → find (is_after after) x.sides.parts.flow.waiting ≡ o → IsNext number t after 0 t.exchanges o
          → ((behind_it : Option ℕ) (z : Around) (u v : State) (hs : Log) → Goes behind_it z u v → May behind_it z hs u → Stands z u → ArePlaced more (moment_of p) behind_it z hs y → Ends hs y u) → Ends log y s
      by None is next again =
          let end : (log ≡ []) × (y ≡ x) = subst (λ (o : Option Entry). Steps more after x log y (option_map (λ e. e.exchange.number) o)) is run in
          record { state = s; leads = still s log end.0; may = goes.may; stands = subst (λ (z : Around). Stands z s) (sym end.1) stands }
      by (Some w) is next again =
          let place : place_in_turn p.limits next.known.number x.sides ≡ place_for t next.known = places number p x t goes.shows goes.late next.known next.un in
          let at : GoesOn (goes_on_behind (place_for t next.known) next.known.number) step.1 step.0 s =
          one after x step.0 s t next.known (behind (Some next.known.number) t.exchanges) step.1 (place_for t next.known) goes.shows goes.may goes.late next.un refl
          (goes.walks_on ∙ next.walks ∙ stops_at t next.known (behind (Some next.known.number) t.exchanges) (place_for t next.known) next.un refl) refl (on.front after x step.1 step.2 log s step.3 so) stands
          (subst (λ (v : Placed). IsPlacedAs v (moment_of p) next.known.number x step.1 step.0) place step.4) in
          let more_run : ArePlaced more (moment_of p) (goes_on_behind (place_for t next.known) next.known.number) step.0 step.2 y =
          subst (λ (v : Placed). ArePlaced more (moment_of p) (goes_on_behind v next.known.number) step.0 step.2 y) place step.5 in
          let rest : Ends step.2 y at.behind_it =
          again (goes_on_behind (place_for t next.known) next.known.number) step.0 at.behind_it at.now step.2 at.goes
          (subst (λ (v : Placed). May (goes_on_behind v next.known.number) step.0 step.2 at.behind_it) place (on.behind_it after x step.0 next.known.number step.1 step.2 log s at.behind_it number_next step.4 step.3 at.leads so)) at.stands more_run in
          record {
            state = rest.state;
            leads = subst (λ (hs : Log). Leads hs s rest.state) (sym step.3) (leads_then (λ v. v ≡ rest.state) step.1 step.2 s at.behind_it at.leads rest.leads);
            may = rest.may;
            stands = rest.stands;
          }
        where
          number_next : next_waiting after x.sides ≡ Some next.known.number
          number_next = ap (λ (o : Option Entry). option_map (λ e. e.exchange.number) o) is ∙ ap (λ (m : ℕ). Some m) next.shows.number

          step : Steps more after x log y (Some next.known.number)
          step = subst (λ (m : ℕ). Steps more after x log y (Some m)) next.shows.number (subst (λ (o : Option Entry). Steps more after x log y (option_map (λ e. e.exchange.number) o)) is run)

  pub run_beside : (x : Around) (s : State) → ShowsAround number p x s → MayPlace s → (more : ℕ) (log : Log) (y : Around) → May None x log s → Beside shelf names start x s → ArePlaced more (moment_of p) None x log y → Ends log y s
  run_beside x s shows may more log y so stands steps = loop more None x y s s log (from_start x s shows may) so stands steps
