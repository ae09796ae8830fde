-- A dial, whatever the world answers: what is kept on the disk stands for the law's entries behind it, and what came on connections stands.
use Rattle.std.proofs.Common.{◌≡◌, ◌≤◌, ◌<◌, ◌+◌, refl, sym, subst, ap, ◌∙◌, ℕ, Bool, true, false, not, ◌==◌, ◌&&◌, cond, nat_lt, length, List, [], ◌∷◌, ◌++◌, Option, Some, None, Result, Ok, Err, arith}
use Rattle.std.specs.List.{list_any}
use Rattle.std.specs.Prelude.{IfOk, count_by}
use Rattle.pp_cache_law.proofs.Finds.{none_found}
use Rattle.pp_cache_law.proofs.PairLemmas.{none_of}
use Rattle.pp_turns_law.proofs.AllDropped.{stays as stays_there}
use Rattle.pp_turns_law.specs.Log.{IsConnecting}
use Rattle.pp_desk.specs.Closings.{Sides}
use Rattle.pp_flow.specs.Changes.{entry_of}
use Rattle.pp_flow_law.proofs.Entries.{same_as}
use Rattle.pp_flow_law.specs.Tables.{none_leaves}
use Rattle.pp_law.specs.After.{after, changed, dialled, new_conn, refused_dial, undialled}
use Rattle.pp_law.specs.Connections.{Pause, AllPlaced, WaitsDial, WaitsDrop, end_exchange, is_conn, may_ask_again, placing, put_on}
use Rattle.pp_law.specs.Followers.{fill}
use Rattle.pp_law.specs.Lists.{Bytes}
use Rattle.pp_law.specs.Permits.{IsPermitted, is_new_number, is_permitted, permits, permits_behind_forgotten, permits_dial}
use Rattle.pp_law.specs.State.{State, Exchange}
use Rattle.pp_laws.proofs.Tests.{first_holds}
use Rattle.pp_laws.proofs.Tops.{placing-top}
use Rattle.pp_obeys.specs.Moves.{Leads}
use Rattle.pp_peers.specs.Peers.{is_number}
use Rattle.pp_places.specs.Around.{Around, moment_of}
use Rattle.pp_places.specs.Placing.{IsDialledFor, met_at, new_one}
use Rattle.pp_places_law.proofs.Dials.{IsCalledFor, called_for, log_called}
use Rattle.pp_places_law.proofs.Fits.{none_new, placing_may}
use Rattle.pp_places_law.proofs.Links.{counted}
use Rattle.pp_places_law.specs.Around.{MayPlace, ShowsAround}
use Rattle.pp_places_law.specs.Places.{IsUnplaced}
use Rattle.pp_places_law.specs.Refusals.{MayBeRefused, lost_in}
use Rattle.pp_state.specs.Ends.{Parts, ended, lost_attempt, may_ask_again as may_ask_again_in}
use Rattle.pp_state.specs.declared.state.State.{State as Turn}
use Rattle.pp_states_law.proofs.Framed.{states}
use Rattle.pp_states_law.specs.Steps.{ShowsSteps, whole}
use Rattle.pp_store.specs.Kept.{KeptMap}
use Rattle.pp_take.specs.Unplaced.{asked_again_where}
use Rattle.pp_world.specs.Log.{Log}
use Rattle.pp_world.specs.Wire.{IsNewNumber, dial_happening}
use Rattle.pp_world.specs.declared.happening.Happening.TheVariants.{Dialled, Undialled}
use Rattle.pp_world.specs.declared.wire.WireFault.{WireFault}
use Rattle.pp_stays_law.proofs.Came.{Came, any_came, lost_came, opened_came, put_came}
use Rattle.pp_stays_law.proofs.Events.{placing_fine}
use Rattle.pp_stays_law.proofs.Fits.{AnyEntry, AnySeat, IsNoting, any_entries, noting_suits}
use Rattle.pp_stays_law.proofs.Law.{Any, fill_any}
use Rattle.pp_stays_law.proofs.Lost.{lost_noted}
use Rattle.pp_stays_law.proofs.OnDisk.{IsKeptBy, any_disk, lost_disk, opened_disk, put_disk}
use Rattle.pp_stays_law.proofs.Rested.{filled_fine}

-- ---- of the law

goes : (s : State) (n port : ℕ) (host : Bytes) (e : Exchange) → IsConnecting s → (placing s).pause ≡ WaitsDial e → after s (Dialled n host port) ≡ put_on e.number n (record (placing s).state { conns = (placing s).state.conns ++ new_conn n host port (placing s).state.clock ∷ []; top = n })
unfolding changed dialled
goes s n port host e is waits =
    ap (λ (t : State). dialled n host port (placing t)) (stays_there s is)
    ∙ ap (λ (q : Pause). elim q as (λ t. State) [
      | AllPlaced ↦ (placing s).state
      | WaitsDrop k d ↦ (placing s).state
      | WaitsDial d ↦ put_on d.number n (record (placing s).state { conns = (placing s).state.conns ++ new_conn n host port (placing s).state.clock ∷ []; top = n })
    ]) waits

refused : (s : State) (port : ℕ) (host : Bytes) (e : Exchange) → IsConnecting s → (placing s).pause ≡ WaitsDial e → after s (Undialled host port) ≡ refused_dial e (lost_in e (placing s).state)
unfolding changed undialled
refused s port host e is waits =
    ap (λ (t : State). undialled (placing t)) (stays_there s is)
    ∙ ap (λ (q : Pause). elim q as (λ t. State) [ AllPlaced ↦ (placing s).state | WaitsDrop k d ↦ (placing s).state | WaitsDial d ↦ refused_dial d (lost_in d (placing s).state) ]) waits

-- its number is above each that was given
is_new : (s : State) (n port : ℕ) (host : Bytes) → IsConnecting s → IsPermitted s (Dialled n host port) → nat_lt (placing s).state.top n ≡ true
unfolding is_permitted permits
is_new s n port host is may =
    ap (λ (top : ℕ). nat_lt top n) (placing-top s)
    ∙ first_holds (is_new_number s n) (permits_dial s host port)
    (sym (ap (λ (o : Option ℕ). elim o as (λ t. Bool) [ Some who ↦ permits_behind_forgotten s (Dialled n host port) | None ↦ is_new_number s n && permits_dial s host port ]) is.none) ∙ may)

-- behind a loss
asked_after : (P : State → Type 0) → Any P → (e : Exchange) (t : State) → P t → P (refused_dial e t)
unfolding refused_dial
asked_after P any e t h = by (may_ask_again t e.number)
  where
    by : (b : Bool) → P (elim b as (λ u. State) [ true ↦ t | false ↦ fill (end_exchange e.number t) ])
    by true = h
    by false = fill_any P any (end_exchange e.number t) (any.over e.number t h)

abbrev failed_in : State → State
failed_in t = record t { failures = t.failures + 1 }

failed_any : (P : State → Type 0) → Any P → (t : State) → P t → P (failed_in t)
failed_any P any t h = any.quiet t (failed_in t) (record { entries = refl; displaced = refl; closed = refl; conns = refl; top = refl }) h

-- ---- what came

pub came_dialled : (n c m port : ℕ) (host : Bytes) (s : State) (e : Exchange) → IsConnecting s → (placing s).pause ≡ WaitsDial e → IsPermitted s (Dialled m host port) → Came n c s → Came n c (after s (Dialled m host port))
came_dialled n c m port host s e is waits may came =
    subst (λ (t : State). Came n c t) (sym (goes s m port host e is waits))
    (put_came n c e.number m _ (opened_came n c m host port (placing s).state.clock (placing s).state (is_new s m port host is may) (placing_fine (Came n c) (any_came n c) (put_came n c) s came)))

pub came_refused : (n c port : ℕ) (host : Bytes) (s : State) (e : Exchange) → IsConnecting s → (placing s).pause ≡ WaitsDial e → Came n c s → Came n c (after s (Undialled host port))
came_refused n c port host s e is waits came =
    subst (λ (t : State). Came n c t) (sym (refused s port host e is waits))
    (asked_after (Came n c) (any_came n c) e (lost_in e (placing s).state) (lost_came n c e (failed_in (placing s).state) (failed_any (Came n c) (any_came n c) (placing s).state (placing_fine (Came n c) (any_came n c) (put_came n c) s came))))

-- ---- what is kept on the disk

failed_steps : (number : ℕ → ℕ) (p : Turn) (x : Around) (t : State) → ShowsAround number p x t → ShowsSteps number p.name.items none_leaves x.sides.peers x.sides.parts (failed_in t)
failed_steps number p x t shows = record {
  shows =
      states number p.name.items [] none_leaves (whole x.sides.parts x.sides.peers) t shows.turn.steps.shows (failed_in t)
      (record { clients = refl; conns = refl; exchanges = refl; next_exchange = refl; instances = refl; next_instance = refl; chunks = refl; kept = λ k. refl });
  order = shows.turn.steps.order;
  told = shows.turn.steps.told;
  refused = shows.turn.steps.refused;
}

-- what followers ask for is noted nowhere
asked_noting : (b stopped : Bool) (name awake : List ℕ) (n : ℕ) (p : Parts) → (asked_again_where b stopped name awake n p).cache.outdated ≡ p.cache.outdated
asked_noting true stopped name awake n p = refl
asked_noting false stopped name awake n p =
    (filled_fine AnySeat AnyEntry AnyEntry (IsNoting p.cache.outdated) (noting_suits p.cache.outdated) stopped name awake (ended n p)
    (record { seats = λ i seat at. tt; waiting = any_entries (ended n p).flow.waiting; placed = any_entries (ended n p).flow.placed; memory = refl })).memory

none_one : (b : Bool) (n : ℕ) → n ≡ 0 → (n == 0) ≡ not b → b ≡ false
none_one false n zero is = refl
none_one true n zero is = absurd (let bad : true ≡ false = sym (same_as n 0 zero) ∙ is in cc bad)

given_new : (a b c : ℕ) → a ≤ b → b < c → a + 1 ≤ c
given_new a b c one two = omega (arith, one, two)

new_to_peers : (number : ℕ → ℕ) (p : Turn) (x : Around) (t : State) (n : ℕ) → ShowsAround number p x t → MayPlace t → t.top + 1 ≤ n → new_one (Ok n) x.sides.peers ≡ Some n
new_to_peers number p x t n shows may given =
    ap (λ (b : Bool). cond b None (Some n))
    (none_one (list_any (is_number n) x.sides.peers) (count_by (is_number n) x.sides.peers)
    (counted n t x.sides.peers t.conns shows.turn.steps.shows.conns ∙ none_found (is_conn n) t.conns (none_new t n may given)) (none_of (is_number n) x.sides.peers))

module _ (shelf : KeptMap) (number : ℕ → ℕ) (p : Turn) (x y : Around) (s t : State) (e : Exchange) (log : Log) (shows : ShowsAround number p x (placing s).state) (may : MayPlace s) (un : IsUnplaced (placing s).state e) (waits : (placing s).pause ≡ WaitsDial e)
    (refusable : MayBeRefused p x (placing s).state e) (dial : IsDialledFor (moment_of p) e.number (entry_of e.number x.sides.parts.flow) x log y) (leads : Leads log s t) (few : length x.sides.parts.cache.outdated < 2048) (its : IsKeptBy shelf x.sides.parts.cache.outdated s) where
  abbrev was : State
  was = (placing s).state

  abbrev names : List Bytes
  names = x.sides.parts.cache.outdated

  placed_its : IsKeptBy shelf names was
  placed_its = placing_fine (IsKeptBy shelf names) (any_disk shelf names) (put_disk shelf names) s its

  c : IsCalledFor number p x e log y
  c = called_for number p x y s e log shows may un waits dial

  log_is : log ≡ dial_happening e.key.host c.entry.errand.place.port c.dials.answer ∷ []
  log_is = log_called number p x y was e log shows c

  -- what the program has then
  sides_by : (answer : Result ℕ WireFault) → c.dials.answer ≡ answer → y.sides ≡ met_at (moment_of p) e.number c.entry e.key.host (new_one answer x.sides.peers) x.sides
  sides_by answer is = c.dials.sides ∙ ap (λ (a : Result ℕ WireFault). met_at (moment_of p) e.number c.entry e.key.host (new_one a x.sides.peers) x.sides) is

  leads_by : (answer : Result ℕ WireFault) → c.dials.answer ≡ answer → Leads (dial_happening e.key.host c.entry.errand.place.port answer ∷ []) s t
  leads_by answer is = subst (λ (hs : Log). Leads hs s t) (log_is ∙ ap (λ (a : Result ℕ WireFault). dial_happening e.key.host c.entry.errand.place.port a ∷ []) is) leads

  pub record Behind : Type 0 where
    pub disk : IsKeptBy shelf y.sides.parts.cache.outdated t
    pub came : (n k : ℕ) → Came n k s → Came n k t

  -- one is there
  met : (n : ℕ) → c.dials.answer ≡ Ok n → Behind
  met n is =
      let above : IsNewNumber x.top n = subst (λ (a : Result ℕ WireFault). IfOk a (IsNewNumber x.top)) is c.dials.number_is in
      let new : new_one (Ok n) x.sides.peers ≡ Some n = new_to_peers number p x was n shows (placing_may s may) (given_new was.top x.top n shows.top above.above) in
      let same : y.sides.parts.cache.outdated ≡ names =
      ap (λ (z : Sides). z.parts.cache.outdated) (sides_by (Ok n) is ∙ ap (λ (o : Option ℕ). met_at (moment_of p) e.number c.entry e.key.host o x.sides) new) in
      let on : Leads (Dialled n e.key.host c.entry.errand.place.port ∷ []) s t = leads_by (Ok n) is in
      record {
        disk =
            subst (λ (ns : List Bytes). IsKeptBy shelf ns t) (sym same)
            (subst (λ (u : State). IsKeptBy shelf names u) (sym (goes s n c.entry.errand.place.port e.key.host e may.connecting waits) ∙ on.holds)
            (put_disk shelf names e.number n _ (opened_disk shelf names n e.key.host c.entry.errand.place.port was.clock was placed_its)));
        came = λ m k came. subst (λ (u : State). Came m k u) on.holds (came_dialled m k n c.entry.errand.place.port e.key.host s e may.connecting waits (on.may (λ bad. absurd (cc bad))) came);
      }

  -- none is
  none : (fault : WireFault) → c.dials.answer ≡ Err fault → Behind
  none fault is =
      let lost : Parts = lost_attempt c.entry.exchange x.sides.parts in
      let same : y.sides.parts.cache.outdated ≡ lost.cache.outdated =
      ap (λ (z : Sides). z.parts.cache.outdated) (sides_by (Err fault) is)
      ∙ asked_noting (may_ask_again_in c.entry.exchange.number lost) p.is_stopped p.name.items p.awake.items c.entry.exchange.number lost in
      let on : Leads (Undialled e.key.host c.entry.errand.place.port ∷ []) s t = leads_by (Err fault) is in
      record {
        disk =
            subst (λ (ns : List Bytes). IsKeptBy shelf ns t) (sym same)
            (subst (λ (u : State). IsKeptBy shelf lost.cache.outdated u) (sym (refused s c.entry.errand.place.port e.key.host e may.connecting waits) ∙ on.holds)
            (asked_after (IsKeptBy shelf lost.cache.outdated) (any_disk shelf lost.cache.outdated) e (lost_in e was)
            (lost_disk shelf names lost.cache.outdated e (failed_in was)
            (lost_noted number p.name.items none_leaves x.sides.peers x.sides.parts (failed_in was) (failed_steps number p x was shows) e.number c.entry e (record { here = c.known; there = un.there }) refusable.goes placed_its.shows.named few placed_its.noted)
            (failed_any (IsKeptBy shelf names) (any_disk shelf names) was placed_its))));
        came = λ m k came. subst (λ (u : State). Came m k u) on.holds (came_refused m k c.entry.errand.place.port e.key.host s e may.connecting waits came);
      }

  by_answer : (answer : Result ℕ WireFault) → c.dials.answer ≡ answer → Behind
  by_answer (Ok n) is = met n is
  by_answer (Err fault) is = none fault is

  pub dialled_behind : Behind
  dialled_behind = by_answer c.dials.answer refl
