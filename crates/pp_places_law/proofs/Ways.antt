-- An idle connection gives way.
use Rattle.std.proofs.Common.{◌≡◌, inl, inr, ◌≤◌, ◌+◌, refl, sym, subst, ap, ap₂, ◌∙◌, ℕ, Bool, true, false, not, ◌&&◌, ◌||◌, cond, find, length, List, [], ◌∷◌, Option, Some, None, arith}
use Rattle.std.proofs.lemmas.List.Elements.{All-filter}
use Rattle.std.specs.List.{list_any}
use Rattle.std.specs.Prelude.{count_by, is_some, option_map}
use Rattle.pp_cache_law.proofs.Finds.{find_mapped}
use Rattle.pp_cache_law.proofs.Numbers.{some_is}
use Rattle.pp_cache_law.proofs.PairLemmas.{count_first}
use Rattle.pp_turns_law.proofs.AllDropped.{at_it, stays}
use Rattle.pp_turns_law.proofs.Peers.{HasPeer, linked}
use Rattle.pp_desk.specs.Closings.{Sides}
use Rattle.pp_desk.specs.Shutting.{closings}
use Rattle.pp_flow_law.proofs.Entries.{none_some, same_as}
use Rattle.pp_flow_law.specs.Tables.{line_at, line_in, none_leaves}
use Rattle.pp_law.specs.After.{after, changed, dropped, out}
use Rattle.pp_law.specs.Connections.{Pause, WaitsDrop, conn, is_conn, on_conn, on_exchange, placing, put_on}
use Rattle.pp_law.specs.Opening.{is_at}
use Rattle.pp_law.specs.Permits.{IsPermitted, gives_way, is_drop_of, is_permitted, may_drop, permits, permits_behind_forgotten}
use Rattle.pp_law.specs.Phases.{may_in}
use Rattle.pp_law.specs.State.{State, Connecting, Conn, Exchange}
use Rattle.pp_laws.specs.Runs.{IsIn}
use Rattle.pp_laws_bounds.proofs.Places.{IsIdle, drop_idle, placing-any, placing-paused}
use Rattle.pp_links.specs.Links.{is_other, without as without_link}
use Rattle.pp_obeys.specs.Moves.{Leads}
use Rattle.pp_peers.specs.Peers.{is_number, without as without_peer}
use Rattle.pp_places.specs.Around.{Around}
use Rattle.pp_places.specs.Placing.{given_way}
use Rattle.pp_state.specs.declared.state.State.{State as Turn}
use Rattle.pp_states_law.proofs.Dialled.{empty_drops}
use Rattle.pp_states_law.specs.Decisions.{AreApart}
use Rattle.pp_states_law.specs.Steps.{whole}
use Rattle.pp_world.specs.Log.{Log}
use Rattle.pp_world.specs.declared.event.Side.TheVariants.{Origin}
use Rattle.pp_world.specs.declared.happening.Happening.TheVariants.{Dropped}
use Rattle.pp_places_law.proofs.Fits.{longer_if, out_may, placing_may, same_numbered}
use Rattle.pp_places_law.proofs.Links.{closing_is, counted, fewer_links, fewer_peers, link_of, linked_without}
use Rattle.pp_places_law.specs.Around.{MayPlace, ShowsAround, ShowsTurnWith}
use Rattle.pp_places_law.specs.Places.{WaysAreTheLaws}

-- ---- it is there

in_counted : (n : ℕ) (ks : List Conn) (c : Conn) → IsIn c ks → is_conn n c ≡ true → 1 ≤ count_by (is_conn n) ks
in_counted n [] c within is = absurd within
in_counted n (k ∷ ks) c (inl same) is = let e : is_conn n k ≡ true = ap (λ (j : Conn). is_conn n j) (sym same) ∙ is in one (is_conn n k) e (count_first (is_conn n) k ks)
  where
    one : (b : Bool) → b ≡ true → count_by (is_conn n) (k ∷ ks) ≡ cond b 1 0 + count_by (is_conn n) ks → 1 ≤ count_by (is_conn n) (k ∷ ks)
    one true e count = omega (arith, count)
    one false e count = absurd cc
in_counted n (k ∷ ks) c (inr within) is = omega (arith, in_counted n ks c within is, count_first (is_conn n) k ks)

pub in_found : (n : ℕ) (ks : List Conn) (c : Conn) → IsIn c ks → is_conn n c ≡ true → count_by (is_conn n) ks ≤ 1 → find (is_conn n) ks ≡ Some c
in_found n [] c within is few = absurd within
in_found n (k ∷ ks) c (inl same) is few =
    ap (λ (b : Bool). cond b (Some k) (find (is_conn n) ks)) (ap (λ (j : Conn). is_conn n j) (sym same) ∙ is) ∙ ap (λ (j : Conn). Some j) (sym same)
in_found n (k ∷ ks) c (inr within) is few = by (is_conn n k) (let e : cond (is_conn n k) 1 0 + count_by (is_conn n) ks ≤ 1 = omega (arith, few, count_first (is_conn n) k ks) in e) (λ less. in_found n ks c within is less)
  where
    by : (b : Bool) → cond b 1 0 + count_by (is_conn n) ks ≤ 1 → (count_by (is_conn n) ks ≤ 1 → find (is_conn n) ks ≡ Some c) → cond b (Some k) (find (is_conn n) ks) ≡ Some c
    by true less rest = absurd (omega (arith, less, in_counted n ks c within is))
    by false less rest = rest (omega (arith, less))

some_kept : (f : Conn → Conn) (o : Option Conn) → is_some (option_map f o) ≡ is_some o
some_kept f None = refl
some_kept f (Some k) = refl

put_there : (k n m : ℕ) (s : State) → is_some (conn (put_on n m s) k) ≡ is_some (conn s k)
unfolding put_on on_conn on_exchange
put_there k n m s = ap (λ (o : Option Conn). is_some o) (find_mapped (is_conn k) (longer_if n m) s.conns (same_numbered n m k)) ∙ some_kept (longer_if n m) (find (is_conn k) s.conns)

-- as before exchanges got their places
pub as_there : (k : ℕ) (s : State) → is_some (conn (placing s).state k) ≡ is_some (conn s k)
as_there k s = placing-any (λ t. is_some (conn t k) ≡ is_some (conn s k)) (λ n m t is. put_there k n m t ∙ is) s refl

none_closing : (n : ℕ) (ks : List Conn) (k : Conn) → list_any (λ j. j.is_closing) ks ≡ false → find (is_conn n) ks ≡ Some k → k.is_closing ≡ false
none_closing n [] k none there = absurd (none_some k there)
none_closing n (j ∷ ks) k none there = by (is_conn n j) j.is_closing refl none there (λ less later. none_closing n ks k less later)
  where
    by : (b c : Bool) → j.is_closing ≡ c → (c || list_any (λ i. i.is_closing) ks) ≡ false → cond b (Some j) (find (is_conn n) ks) ≡ Some k → (list_any (λ i. i.is_closing) ks ≡ false → find (is_conn n) ks ≡ Some k → k.is_closing ≡ false) → k.is_closing ≡ false
    by b true is both found rest = absurd (let bad : true ≡ false = both in cc bad)
    by true false is both found rest = ap (λ (i : Conn). i.is_closing) (sym (some_is j k found)) ∙ is
    by false false is both found rest = rest both found

second_none : (a b : Bool) → (a || b) ≡ false → b ≡ false
second_none true b none = absurd (let bad : true ≡ false = none in cc bad)
second_none false b none = none

pub open_conn : (s : State) (n : ℕ) (k : Conn) → MayPlace s → conn s n ≡ Some k → k.is_closing ≡ false
open_conn s n k may there = none_closing n s.conns k (second_none (list_any (λ c. c.is_closing) s.clients) (list_any (λ j. j.is_closing) s.conns) may.closed) there

pub none_closes : (s : State) → MayPlace s → list_any (λ j. j.is_closing) s.conns ≡ false
none_closes s may = second_none (list_any (λ c. c.is_closing) s.clients) (list_any (λ j. j.is_closing) s.conns) may.closed

-- ---- it may be dropped, and is gone

or_true : (b : Bool) → (b || true) ≡ true
or_true true = refl
or_true false = refl

drops : (s : State) (k : ℕ) (e : Exchange) → MayPlace s → (placing s).pause ≡ WaitsDrop k e → gives_way s k ≡ true
drops s k e may waits = ap₂ (λ (b : Bool) (p : Pause). not b && is_drop_of p k) may.closed waits ∙ same_as k k refl

permitted : (s : State) (k : ℕ) (e : Exchange) → MayPlace s → (placing s).pause ≡ WaitsDrop k e → IsPermitted s (Dropped k)
unfolding is_permitted permits
permitted s k e may waits =
    ap (λ (o : Option ℕ). elim o as (λ t. Bool) [ Some who ↦ permits_behind_forgotten s (Dropped k) | None ↦ may_in Connecting (λ t. may_drop t k) s ]) may.connecting.none
    ∙ ap (λ (t : State). elim (is_at Connecting t) as (λ u. Bool) [ true ↦ may_drop t k | false ↦ false ]) (stays s may.connecting)
    ∙ ap (λ (b : Bool). elim b as (λ u. Bool) [ true ↦ may_drop s k | false ↦ false ]) (at_it s may.connecting)
    ∙ ap (λ (b : Bool). list_any (λ j. is_conn k j && (j.is_closing || s.is_stopped)) s.conns || b) (drops s k e may waits)
    ∙ or_true (list_any (λ j. is_conn k j && (j.is_closing || s.is_stopped)) s.conns)

goes_by : (s : State) (k : ℕ) (o : Option Conn) → MayPlace s → conn s k ≡ o → is_some o ≡ true → dropped k s ≡ out k (placing s).state
unfolding dropped
goes_by s k None may is there = absurd (let bad : false ≡ true = there in cc bad)
goes_by s k (Some j) may is there =
    ap (λ (o : Option Conn). elim o as (λ t. State) [ None ↦ s | Some i ↦ elim i.is_closing as (λ t. State) [ true ↦ out k s | false ↦ out k (placing s).state ] ]) is
    ∙ ap (λ (b : Bool). elim b as (λ t. State) [ true ↦ out k s | false ↦ out k (placing s).state ]) (open_conn s k j may is)

goes : (s : State) (k : ℕ) → MayPlace s → is_some (conn s k) ≡ true → after s (Dropped k) ≡ out k (placing s).state
unfolding changed
goes s k may there = ap (λ (t : State). dropped k t) (stays s may.connecting) ∙ goes_by s k (conn s k) may refl there

-- ---- what is shown then

way_turn : (number : ℕ → ℕ) (p : Turn) (x : Sides) (t : State) (k : ℕ) → ShowsTurnWith number p x t → AreApart t → line_at t k ≡ [] → ShowsTurnWith number p (record x { peers = without_peer k x.peers }) (out k t)
unfolding out
way_turn number p x t k shows apart empty = record {
  steps = record {
    shows = empty_drops number p.name.items [] none_leaves (whole x.parts x.peers) t shows.steps.shows k (apart k) empty;
    order = shows.steps.order;
    told = shows.steps.told;
    refused = shows.steps.refused;
  };
  name = shows.name;
  shares = shows.shares;
  clock = shows.clock;
  ticked = shows.ticked;
  stopped = shows.stopped;
  bounded = shows.bounded;
}

few_behind : (a b c d : ℕ) → a + 1 ≤ b → b ≤ 256 + c → d + 1 ≡ c → a ≤ 256 + d
few_behind a b c d less few one = omega (arith, less, few, one)

less_of : (a b c : ℕ) → a ≡ b → b ≤ c → a ≤ c
less_of a b c same less = omega (arith, same, less)

way_shown : (number : ℕ → ℕ) (p : Turn) (x : Around) (t : State) (k : ℕ) (c : Conn) → ShowsAround number p x t → MayPlace t → conn t k ≡ Some c → c.line ≡ [] → ShowsAround number p (given_way k x) (out k t)
unfolding out
way_shown number p x t k c shows may there empty =
    let one : HasPeer t k x.sides.peers c = linked t k x.sides.peers t.conns c there shows.turn.steps.shows.conns in
    record {
      turn = way_turn number p x.sides t k shows.turn may.apart (ap (λ (o : Option Conn). line_in o) there ∙ empty);
      limits = shows.limits;
      waiting = shows.waiting;
      placed = shows.placed;
      linked = linked_without k x.sides.peers x.links (less_of (count_by (is_number k) x.sides.peers) (count_by (is_conn k) t.conns) 1 (counted k t x.sides.peers t.conns shows.turn.steps.shows.conns) (may.apart k)) shows.linked;
      given = All-filter (is_other k) (λ link. link.0 ≤ x.top) x.links shows.given;
      few =
          few_behind (length (without_link k x.links)) (length x.links) (length x.sides.peers) (length (without_peer k x.sides.peers))
          (fewer_links k x.links (k, Origin) (link_of k x.sides.peers x.links one.peer shows.linked one.there)) shows.few (fewer_peers k x.sides.peers one.peer one.there);
      top = shows.top;
    }

pub ways : WaysAreTheLaws
ways number p x s shows may k e waits =
    let late : MayPlace (placing s).state = placing_may s may in
    let idle : IsIdle (placing s).state k = drop_idle (placing s).state e k ((placing-paused s).drop k e waits) in
    let there : conn (placing s).state k ≡ Some idle.conn = in_found k (placing s).state.conns idle.conn idle.there (same_as idle.conn.number k idle.number) (late.apart k) in
    let one : HasPeer (placing s).state k x.sides.peers idle.conn = linked (placing s).state k x.sides.peers (placing s).state.conns idle.conn there shows.turn.steps.shows.conns in
    let log : closings (k ∷ []) x.links ≡ Dropped k ∷ [] = closing_is k x.links (link_of k x.sides.peers x.links one.peer shows.linked one.there) in
    record {
      state = out k (placing s).state;
      leads =
          subst (λ (hs : Log). Leads hs s (out k (placing s).state)) (sym log)
          (record { awake = refl; may = λ failed. permitted s k e may waits; holds = goes s k may (sym (as_there k s) ∙ ap (λ (o : Option Conn). is_some o) there) });
      shows = way_shown number p x (placing s).state k idle.conn shows late there idle.idle;
      may = out_may k (placing s).state late;
    }
