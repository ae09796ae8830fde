-- A connection is dialled, and the exchange is the first of its line.
use Rattle.std.proofs.Common.{◌≡◌, inl, inr, ◌≤◌, ◌+◌, ◌<◌, refl, sym, subst, ap, ap₂, ◌∙◌, ℕ, Bool, true, false, not, ◌==◌, ◌&&◌, ◌||◌, cond, nat_le, nat_lt, length, List, [], ◌∷◌, ◌++◌, Option, Some, None, Result, Ok, Err, arith}
use Rattle.std.proofs.lemmas.Bool.Decides.{nat_tests}
use Rattle.std.proofs.lemmas.List.Elements.{All-push}
use Rattle.std.proofs.lemmas.Slice.Eq.{bytes_eq-Decides}
use Rattle.std.specs.List.{All, list_all, list_any}
use Rattle.std.specs.Prelude.{IfOk, count_by, slice_index_or}
use Rattle.std.specs.Result.{result_unwrap_or}
use Rattle.pp_cache_law.proofs.Finds.{find_joined, first_of_two, none_found}
use Rattle.pp_cache_law.proofs.PairLemmas.{none_of}
use Rattle.pp_turns_law.proofs.AllDropped.{at_it, stays}
use Rattle.pp_turns_law.specs.Log.{AreLinked}
use Rattle.pp_desk.specs.Closings.{Sides, peer_numbers}
use Rattle.pp_flow.specs.Changes.{entry_of}
use Rattle.pp_flow.specs.Entries.{is_number as is_entry}
use Rattle.pp_flow.specs.declared.entry.Entry.{Entry}
use Rattle.pp_flow_law.proofs.Entries.{same_as}
use Rattle.pp_flow_law.specs.Tables.{none_leaves}
use Rattle.pp_law.specs.After.{after, changed, dialled, new_conn}
use Rattle.pp_law.specs.Connections.{Pause, AllPlaced, WaitsDial, WaitsDrop, conn, is_conn, place_for, placing, put_on}
use Rattle.pp_law.specs.Lists.{Bytes}
use Rattle.pp_law.specs.Opening.{is_at}
use Rattle.pp_law.specs.Permits.{IsPermitted, is_dial_of, is_new_number, is_permitted, may_dial, permits, permits_behind_forgotten, permits_dial}
use Rattle.pp_law.specs.Phases.{has_closings}
use Rattle.pp_law.specs.State.{State, Connecting, Conn, Exchange}
use Rattle.pp_laws.proofs.Tops.{placing-top}
use Rattle.pp_laws.specs.Runs.{IsIn}
use Rattle.pp_laws_bounds.proofs.Places.{dial_room, placing-paused}
use Rattle.pp_links.specs.Links.{Link, links_with, max_links}
use Rattle.pp_obeys.specs.Failures.{fails}
use Rattle.pp_obeys.specs.Moves.{Leads}
use Rattle.pp_peers.specs.Peers.{is_number, unused}
use Rattle.pp_peers.specs.declared.peers.Peer.{Peer}
use Rattle.pp_peers.specs.declared.placing.Placed.TheVariants.{Dial}
use Rattle.pp_places.specs.Around.{Around, moment_of, with_sides}
use Rattle.pp_places.specs.Placing.{IsDialled, IsDialledFor, IsDialledTo, dial_log, dials_to, met_at, new_one, put_on as put_in_turn}
use Rattle.pp_state.specs.declared.state.State.{State as Turn}
use Rattle.pp_seats_law.specs.Exchanges.{ShowsExchange}
use Rattle.pp_states_law.proofs.Dialled.{dials as state_dials}
use Rattle.pp_states_law.specs.Steps.{whole}
use Rattle.pp_target.specs.Key.{Key}
use Rattle.pp_world.specs.Log.{Log}
use Rattle.pp_world.specs.Wire.{IsNewNumber, dial_happening}
use Rattle.pp_world.specs.declared.event.Side.TheVariants.{Origin}
use Rattle.pp_world.specs.declared.happening.Happening.TheVariants.{Dialled}
use Rattle.pp_world.specs.declared.wire.WireFault.{WireFault}
use Rattle.pp_places_law.proofs.Entries.{HasEntry, askable_found, host_is, host_short, waits}
use Rattle.pp_places_law.proofs.Fits.{new_may, none_new, placing_may, put_may, with_new}
use Rattle.pp_places_law.proofs.Links.{as_many, counted, linked_more, numbers_more, one_longer}
use Rattle.pp_places_law.proofs.Puts.{put_there}
use Rattle.pp_places_law.proofs.Ways.{none_closes}
use Rattle.pp_places_law.specs.Around.{IsAskable, MayPlace, ShowsAround, ShowsTurnWith}
use Rattle.pp_places_law.specs.Places.{DialsAreTheLaws, IsLed, IsUnplaced}

-- ---- there is room for one connection more

none_in : (ks : List Conn) → list_any (λ j. j.is_closing) ks ≡ false → (k : Conn) → IsIn k ks → k.is_closing ≡ false
none_in [] none k within = absurd within
none_in (j ∷ ks) none k within = by j.is_closing refl none within (λ less later. none_in ks less k later)
  where
    by : (b : Bool) → j.is_closing ≡ b → (b || list_any (λ i. i.is_closing) ks) ≡ false → IsIn k (j ∷ ks) → (list_any (λ i. i.is_closing) ks ≡ false → IsIn k ks → k.is_closing ≡ false) → k.is_closing ≡ false
    by true is both there rest = absurd (let bad : true ≡ false = both in cc bad)
    by false is both (inl same) rest = ap (λ (i : Conn). i.is_closing) same ∙ is
    by false is both (inr later) rest = rest both later

few_peers : (number : ℕ → ℕ) (p : Turn) (x : Around) (t : State) (e : Exchange) → ShowsAround number p x t → MayPlace t → place_for t e ≡ Dial → length x.sides.peers < 64
few_peers number p x t e shows may is = below (length x.sides.peers) (length t.conns) (as_many t x.sides.peers t.conns shows.turn.steps.shows.conns) (dial_room t e (none_in t.conns (none_closes t may)) is).0
  where
    below : (m n : ℕ) → m ≡ n → n < 64 → m < 64
    below m n same less = omega (arith, same, less)

dials_there : (host : Bytes) (peers : List Peer) → length host ≤ 255 → length peers < 64 → dials_to (Some host) peers ≡ Some host
dials_there host peers short few = ap₂ (λ (b c : Bool). cond (b && c) (Some host) None) (le (length host) 255 short) (lt (length peers) 64 few)
  where
    le : (m n : ℕ) → m ≤ n → nat_le m n ≡ true
    le m n is = grind (arith, nat_tests)

    lt : (m n : ℕ) → m < n → nat_lt m n ≡ true
    lt m n is = grind (arith, nat_tests)

-- so the world is called
pub is_called : (number : ℕ → ℕ) (p : Turn) (x : Around) (t : State) (host : Bytes) (port : ℕ) (answer : Result ℕ WireFault) → ShowsAround number p x t → length x.sides.peers < 64 → dial_log (length x.links) host port answer ≡ dial_happening host port answer ∷ []
is_called number p x t host port answer shows few =
    ap (λ (b : Bool). cond b (dial_happening host port answer ∷ []) []) (lt (length x.links) max_links (fits (length x.links) (length x.sides.peers) shows.few few))
  where
    fits : (m n : ℕ) → m ≤ 256 + n → n < 64 → m < 512
    fits m n one two = omega (arith, one, two)

    lt : (m n : ℕ) → m < n → nat_lt m n ≡ true
    lt m n is = grind (arith, nat_tests)

-- ---- as the program finds it

pub record IsCalledFor (number : ℕ → ℕ) (p : Turn) (x : Around) (e : Exchange) (log : Log) (y : Around) : Type 0 where
  pub entry : Entry
  pub known : entry_of e.number x.sides.parts.flow ≡ Some entry
  pub shows : ShowsExchange number entry e
  pub dials : IsDialled (moment_of p) e.number entry e.key.host x log y
  pub port : entry.errand.place.port ≡ e.key.port
  pub few : length x.sides.peers < 64

pub calls : (number : ℕ → ℕ) (p : Turn) (x : Around) (t : State) (e : Exchange) (log : Log) (y : Around) → ShowsAround number p x t → MayPlace t → IsUnplaced t e → place_for t e ≡ Dial → IsDialledFor (moment_of p) e.number (entry_of e.number x.sides.parts.flow) x log y
    → IsCalledFor number p x e log y
calls number p x t e log y shows may un is dial =
    let one : HasEntry number x.sides.parts.flow e = waits number none_leaves x.sides.parts.flow t e shows.turn.steps.shows.exchanges un in
    let ask : IsAskable one.entry = askable_found (is_entry e.number) x.sides.parts.flow.waiting one.entry one.here shows.waiting in
    let few : length x.sides.peers < 64 = few_peers number p x t e shows may is in
    record {
      entry = one.entry;
      known = one.known;
      shows = one.shows;
      dials =
          subst (λ (o : Option Bytes). IsDialledTo (moment_of p) e.number one.entry o x log y) (dials_there e.key.host x.sides.peers (host_short number one.entry e one.shows ask) few)
          (subst (λ (o : Option Bytes). IsDialledTo (moment_of p) e.number one.entry (dials_to o x.sides.peers) x log y) (host_is number one.entry e one.shows ask)
          (subst (λ (o : Option Entry). IsDialledFor (moment_of p) e.number o x log y) one.known dial));
      port = ap (λ (key : Key). key.port) one.shows.parts;
      few = few;
    }

-- ---- it may be dialled

above_top : (a b c : ℕ) → a ≡ b → b < c → nat_lt a c ≡ true
above_top a b c same less = lt a c (omega (arith, same, less))
  where
    lt : (m n : ℕ) → m < n → nat_lt m n ≡ true
    lt m n is = grind (arith, nat_tests)

both_not : (a b c : Bool) → a ≡ false → b ≡ false → c ≡ true → (not a && not b && c) ≡ true
both_not true b c one two is = absurd (let bad : true ≡ false = one in cc bad)
both_not false true c one two is = absurd (let bad : true ≡ false = two in cc bad)
both_not false false c one two is = is

pub may_call : (s : State) (e : Exchange) → MayPlace s → (placing s).pause ≡ WaitsDial e → permits_dial s e.key.host e.key.port ≡ true
may_call s e may waits =
    ap (λ (t : State). elim (is_at Connecting t) as (λ u. Bool) [ true ↦ may_dial t e.key.host e.key.port | false ↦ false ]) (stays s may.connecting)
    ∙ ap (λ (b : Bool). elim b as (λ u. Bool) [ true ↦ may_dial s e.key.host e.key.port | false ↦ false ]) (at_it s may.connecting)
    ∙ both_not s.is_stopped (has_closings s) (is_dial_of (placing s).pause e.key.host e.key.port) may.going may.closed
    (ap (λ (q : Pause). is_dial_of q e.key.host e.key.port) waits ∙ ap₂ (λ (b c : Bool). b && c) ((bytes_eq-Decides e.key.host e.key.host).1 refl) (same_as e.key.port e.key.port refl))

permitted : (s : State) (e : Exchange) (n : ℕ) → MayPlace s → (placing s).pause ≡ WaitsDial e → (placing s).state.top < n → IsPermitted s (Dialled n e.key.host e.key.port)
unfolding is_permitted permits
permitted s e n may waits above =
    ap (λ (o : Option ℕ). elim o as (λ t. Bool) [ Some who ↦ permits_behind_forgotten s (Dialled n e.key.host e.key.port) | None ↦ is_new_number s n && permits_dial s e.key.host e.key.port ]) may.connecting.none
    ∙ ap₂ (λ (b c : Bool). b && c) (above_top s.top (placing s).state.top n (sym (placing-top s)) above) (may_call s e may waits)

goes : (s : State) (e : Exchange) (n : ℕ) → MayPlace s → (placing s).pause ≡ WaitsDial e → after s (Dialled n e.key.host e.key.port) ≡ put_on e.number n (with_new n e.key.host e.key.port (placing s).state)
unfolding changed dialled
goes s e n may waits =
    ap (λ (t : State). dialled n e.key.host e.key.port (placing t)) (stays s may.connecting)
    ∙ ap (λ (q : Pause). elim q as (λ t. State) [ AllPlaced ↦ (placing s).state | WaitsDrop k d ↦ (placing s).state | WaitsDial d ↦ put_on d.number n (with_new n e.key.host e.key.port (placing s).state) ]) waits

-- ---- what is shown then

abbrev with_peer_new : ℕ → Bytes → ℕ → ℕ → Around → Around
with_peer_new n host port now x = record {
  sides = record x.sides { peers = x.sides.peers ++ unused n host port now ∷ [] };
  links = x.links ++ (n, Origin) ∷ [];
  top = n;
}

new_turn : (number : ℕ → ℕ) (p : Turn) (x : Sides) (t : State) (n port : ℕ) (host : Bytes) → ShowsTurnWith number p x t → conn t n ≡ None → ShowsTurnWith number p (record x { peers = x.peers ++ unused n host port t.clock ∷ [] }) (with_new n host port t)
new_turn number p x t n port host shows none = record {
  steps = record {
    shows = state_dials number p.name.items [] none_leaves (whole x.parts x.peers) t shows.steps.shows n port host none;
    order = shows.steps.order;
    told = shows.steps.told;
    refused = shows.steps.refused;
  };
  name = shows.name;
  shares = shows.shares;
  clock = shows.clock;
  ticked = shows.ticked;
  stopped = shows.stopped;
  bounded = shows.bounded;
}

above_all : (m top n : ℕ) → m ≤ top → top < n → m + 1 ≤ n
above_all m top n one two = omega (arith, one, two)

still_given : (m n : ℕ) → m + 1 ≤ n → m ≤ n
still_given m n less = omega (arith, less)

all_below : (top n : ℕ) (links : List Link) → top < n → All (λ link. link.0 ≤ top) links → All (λ link. link.0 + 1 ≤ n) links
all_below top n links less all = λ k d within. above_all (slice_index_or links k d).0 top n (all k d within) less

all_given : (top n : ℕ) (links : List Link) → top < n → All (λ link. link.0 ≤ top) links → All (λ link. link.0 ≤ n) links
all_given top n links less all = λ k d within. still_given (slice_index_or links k d).0 n (above_all (slice_index_or links k d).0 top n (all k d within) less)

few_more : (a b c d : ℕ) → a ≤ 256 + b → c ≡ a + 1 → d ≡ b + 1 → c ≤ 256 + d
few_more a b c d few one two = omega (arith, few, one, two)

new_around : (number : ℕ → ℕ) (p : Turn) (x : Around) (t : State) (n port : ℕ) (host : Bytes) → ShowsAround number p x t → MayPlace t → x.top < n → t.top + 1 ≤ n → ShowsAround number p (with_peer_new n host port t.clock x) (with_new n host port t)
new_around number p x t n port host shows may above given = record {
  turn = new_turn number p x.sides t n port host shows.turn (none_new t n may given);
  limits = shows.limits;
  waiting = shows.waiting;
  placed = shows.placed;
  linked =
      subst (λ (ns : List ℕ). AreLinked ns (x.links ++ (n, Origin) ∷ [])) (sym (numbers_more x.sides.peers (unused n host port t.clock)))
      (linked_more (peer_numbers x.sides.peers) n x.links (all_below x.top n x.links above shows.given) shows.linked);
  given = All-push (λ link. link.0 ≤ n) x.links (n, Origin) (all_given x.top n x.links above shows.given) (omega arith);
  few =
      few_more (length x.links) (length x.sides.peers) (length (x.links ++ (n, Origin) ∷ [])) (length (x.sides.peers ++ unused n host port t.clock ∷ [])) shows.few
      (one_longer x.links (n, Origin)) (one_longer x.sides.peers (unused n host port t.clock));
  top = omega arith;
}

new_conn_there : (t : State) (n port : ℕ) (host : Bytes) → MayPlace t → t.top + 1 ≤ n → conn (with_new n host port t) n ≡ Some (new_conn n host port t.clock)
new_conn_there t n port host may given =
    find_joined (is_conn n) t.conns (new_conn n host port t.clock ∷ [])
    ∙ ap₂ (λ (o : Option Conn) (b : Bool). first_of_two o (cond b (Some (new_conn n host port t.clock)) None)) (none_new t n may given) (same_as n n refl)

put_new : (number : ℕ → ℕ) (p : Turn) (x : Around) (t : State) (e : Exchange) (n : ℕ) → ShowsAround number p x t → MayPlace t → IsUnplaced t e → x.top < n → t.top + 1 ≤ n
    → ShowsAround number p (with_sides (put_in_turn e.number n) (with_peer_new n e.key.host e.key.port t.clock x)) (put_on e.number n (with_new n e.key.host e.key.port t))
put_new number p x t e n shows may un above given =
    put_there number p (with_peer_new n e.key.host e.key.port t.clock x) (with_new n e.key.host e.key.port t) e (new_conn n e.key.host e.key.port t.clock)
    (new_around number p x t n e.key.port e.key.host shows may above given) (new_may n e.key.host e.key.port t may given).apart (record { there = un.there; waits = un.waits })
    (new_conn_there t n e.key.port e.key.host may given) refl (omega arith) (λ may_pipeline. absurd cc)

-- ---- its number is new to both

none_one : (b : Bool) (n : ℕ) → n ≡ 0 → (n == 0) ≡ not b → b ≡ false
none_one false n zero is = refl
none_one true n zero is = absurd (let bad : true ≡ false = sym (same_as n 0 zero) ∙ is in cc bad)

new_to_peers : (number : ℕ → ℕ) (p : Turn) (x : Around) (t : State) (n : ℕ) → ShowsAround number p x t → MayPlace t → t.top + 1 ≤ n → new_one (Ok n) x.sides.peers ≡ Some n
new_to_peers number p x t n shows may given =
    ap (λ (b : Bool). cond b None (Some n))
    (none_one (list_any (is_number n) x.sides.peers) (count_by (is_number n) x.sides.peers)
    (counted n t x.sides.peers t.conns shows.turn.steps.shows.conns ∙ none_found (is_conn n) t.conns (none_new t n may given)) (none_of (is_number n) x.sides.peers))

less_given : (a b : ℕ) → a + 1 ≤ b → a < b
less_given a b less = omega (arith, less)

given_new : (a b c : ℕ) → a ≤ b → b < c → a + 1 ≤ c
given_new a b c one two = omega (arith, one, two)

-- what the program has then
as_met : (number : ℕ → ℕ) (p : Turn) (x y : Around) (t : State) (e : Exchange) (log : Log) (n : ℕ) → ShowsAround number p x t → MayPlace t → (c : IsCalledFor number p x e log y) → c.dials.answer ≡ Ok n → x.top < n
    → y ≡ with_sides (put_in_turn e.number n) (with_peer_new n e.key.host e.key.port t.clock x)
as_met number p x y t e log n shows may c is above =
    around_same y.sides (put_in_turn e.number n (record x.sides { peers = x.sides.peers ++ unused n e.key.host e.key.port t.clock ∷ [] })) y.links (x.links ++ (n, Origin) ∷ []) y.top n
    (c.dials.sides
    ∙ ap (λ (a : Result ℕ WireFault). met_at (moment_of p) e.number c.entry e.key.host (new_one a x.sides.peers) x.sides) is
    ∙ ap (λ (o : Option ℕ). met_at (moment_of p) e.number c.entry e.key.host o x.sides) (new_to_peers number p x t n shows may (given_new t.top x.top n shows.top above))
    ∙ ap₂ (λ (port now : ℕ). put_in_turn e.number n (record x.sides { peers = x.sides.peers ++ unused n e.key.host port now ∷ [] })) c.port shows.turn.clock)
    (c.dials.links ∙ ap (λ (a : Result ℕ WireFault). links_with a x.links) is)
    (c.dials.top ∙ ap (λ (a : Result ℕ WireFault). result_unwrap_or a x.top) is)
  where
    around_same : (a b : Sides) (c d : List Link) (i j : ℕ) → a ≡ b → c ≡ d → i ≡ j → (let one : Around = record { sides = a; links = c; top = i } in one) ≡ record { sides = b; links = d; top = j }
    around_same a b c d i j one two three =
        ap (λ (z : Sides). record { sides = z; links = c; top = i }) one
        ∙ ap (λ (ls : List Link). record { sides = b; links = ls; top = i }) two
        ∙ ap (λ (m : ℕ). record { sides = b; links = d; top = m }) three

-- what the log gets of it
pub log_called : (number : ℕ → ℕ) (p : Turn) (x y : Around) (t : State) (e : Exchange) (log : Log) → ShowsAround number p x t → (c : IsCalledFor number p x e log y) → log ≡ dial_happening e.key.host c.entry.errand.place.port c.dials.answer ∷ []
log_called number p x y t e log shows c = c.dials.log_is ∙ is_called number p x t e.key.host c.entry.errand.place.port c.dials.answer shows c.few

-- where the world gave one
pub meets : (number : ℕ → ℕ) (p : Turn) (x y : Around) (s : State) (e : Exchange) (log : Log) (n : ℕ) → ShowsAround number p x (placing s).state → MayPlace s → IsUnplaced (placing s).state e → (placing s).pause ≡ WaitsDial e
    → (c : IsCalledFor number p x e log y) → c.dials.answer ≡ Ok n → IsLed number p log y s
meets number p x y s e log n shows may un waits c is =
    let late : MayPlace (placing s).state = placing_may s may in
    let above : IsNewNumber x.top n = subst (λ (a : Result ℕ WireFault). IfOk a (IsNewNumber x.top)) is c.dials.number_is in
    let given : (placing s).state.top + 1 ≤ n = given_new (placing s).state.top x.top n shows.top above.above in
    let log_is : log ≡ Dialled n e.key.host e.key.port ∷ [] =
    log_called number p x y (placing s).state e log shows c ∙ ap₂ (λ (a : Result ℕ WireFault) (port : ℕ). dial_happening e.key.host port a ∷ []) is c.port in
    record {
      state = put_on e.number n (with_new n e.key.host e.key.port (placing s).state);
      leads =
          subst (λ (hs : Log). Leads hs s (put_on e.number n (with_new n e.key.host e.key.port (placing s).state))) (sym log_is)
          (record { awake = refl; may = λ failed. permitted s e n may waits (less_given (placing s).state.top n given); holds = goes s e n may waits });
      shows =
          subst (λ (z : Around). ShowsAround number p z (put_on e.number n (with_new n e.key.host e.key.port (placing s).state))) (sym (as_met number p x y (placing s).state e log n shows late c is above.above))
          (put_new number p x (placing s).state e n shows late un above.above given);
      may = put_may e.number n (with_new n e.key.host e.key.port (placing s).state) (new_may n e.key.host e.key.port (placing s).state late given);
    }

pub called_for : (number : ℕ → ℕ) (p : Turn) (x y : Around) (s : State) (e : Exchange) (log : Log) → ShowsAround number p x (placing s).state → MayPlace s → IsUnplaced (placing s).state e → (placing s).pause ≡ WaitsDial e
    → IsDialledFor (moment_of p) e.number (entry_of e.number x.sides.parts.flow) x log y → IsCalledFor number p x e log y
called_for number p x y s e log shows may un waits dial = calls number p x (placing s).state e log y shows (placing_may s may) un ((placing-paused s).dial e waits) dial

pub dials : DialsAreTheLaws
dials number p x s shows may e log y un waits calm dial = by (called_for number p x y s e log shows may un waits dial)
  where
    at : (c : IsCalledFor number p x e log y) (answer : Result ℕ WireFault) → c.dials.answer ≡ answer → IsLed number p log y s
    at c (Err fault) is =
        absurd
        (let bad : false ≡ true =
        sym (ap (λ (hs : Log). list_all (λ h. not (fails h)) hs) (log_called number p x y (placing s).state e log shows c ∙ ap (λ (a : Result ℕ WireFault). dial_happening e.key.host c.entry.errand.place.port a ∷ []) is)) ∙ calm in cc bad)
    at c (Ok n) is = meets number p x y s e log n shows may un waits c is

    by : IsCalledFor number p x e log y → IsLed number p log y s
    by c = at c c.dials.answer refl
