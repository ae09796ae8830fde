-- Where nobody is there and nothing is in memory, all is shown.
use Rattle.std.proofs.Common.{◌≡◌, refl, sym, subst, ap, ◌∙◌, ℕ, ◌%◌, ◌&&◌, Bool, List, [], arith}
use Rattle.std.specs.Prelude.{false, nat_lt}
use Rattle.std.proofs.lemmas.Bool.Decides.{nat_tests}
use Rattle.pp_cache.specs.Bounds.{IsBounded}
use Rattle.pp_cache.specs.Memory.{Memory, empty_memory}
use Rattle.pp_cache_law.proofs.Framing.{beginnings_of}
use Rattle.pp_conf.specs.Conf.{Settings}
use Rattle.pp_conf.specs.Shown.{shown_conf}
use Rattle.pp_conf.specs.declared.conf.Conf.{Conf}
use Rattle.pp_desk.specs.Opening.{IsNew, IsSet}
use Rattle.pp_flow.specs.Changes.{Exchanges}
use Rattle.pp_flow_law.proofs.Begun.{beginnings}
use Rattle.pp_flow_law.specs.Tables.{none_leaves}
use Rattle.pp_law.specs.Chunks.{floor, trigger}
use Rattle.pp_law.specs.Connections.{limits}
use Rattle.pp_law.specs.State.{Client, Conn, State}
use Rattle.pp_law.specs.Store.{run_len}
use Rattle.pp_opening_law.specs.Openings.{IsInForce, IsUnused, MemoryIsTheLaws, SettingsAreTheLaws}
use Rattle.pp_peers_law.specs.Peers.{ShowConns}
use Rattle.pp_seats.specs.declared.seat.Seat.{Seat}
use Rattle.pp_seats_law.specs.Clients.{AreShown}
use Rattle.pp_state.specs.Ends.{AreInOrder, Parts, numbers_of, parts}
use Rattle.pp_state.specs.declared.state.State.{State as Turn}
use Rattle.pp_states_law.specs.Steps.{ShowsSteps}
use Rattle.pp_turns_law.specs.Turns.{ShowsTurn}

-- ---- the settings

pub set_as : SettingsAreTheLaws
set_as conf p s set is = record {
  name = set.name ∙ ap (λ (c : Settings). c.name) (sym is);
  trigger = set.trigger ∙ ap (λ (c : Settings). trigger (record s { settings = c })) (sym is);
  floor = set.floor ∙ ap (λ (c : Settings). floor (record s { settings = c })) (sym is);
  shares = set.shares ∙ ap (λ (c : Settings). c.shares_fetches) (sym is);
  limits = set.limits ∙ ap (λ (c : Settings). limits (record s { settings = c })) (sym is);
  run = set.run ∙ ap (λ (c : Settings). run_len (record s { settings = c })) (sym is);
}

-- ---- the memory

abbrev nobody : ℕ → Parts
nobody size = record { seats = []; flow = record { waiting = []; placed = []; begun = 0 }; cache = empty_memory size; refused = []; is_astray = false }

not_below : (n : ℕ) → nat_lt n 0 ≡ false
not_below n = grind (arith, nat_tests)

nothing_is_bounded : (size : ℕ) → IsBounded (empty_memory size)
nothing_is_bounded size = record {
  slots = λ id there. absurd cc;
  fronts = λ slot index. omega arith;
  ends = λ slot at behind. not_below (at % 4096);
  cells = λ slot at. ap (λ (b : Bool). b && nat_lt (at % 4096) 0) (not_below at) ∙ sym (not_below (at % 4096));
  few = omega arith;
}

none_to_show : (number : ℕ → ℕ) (s : State) (cs : List Client) (name : List ℕ) → cs ≡ [] → AreShown number name [] [] cs
none_to_show number s cs name none = subst (λ (cs : List Client). AreShown number name [] [] cs) (sym none) tt

none_linked : (s : State) (ks : List Conn) → ks ≡ [] → ShowConns s [] ks
none_linked s ks none = subst (λ (ks : List Conn). ShowConns s [] ks) (sym none) tt

nobody_shows : (number : ℕ → ℕ) (name : List ℕ) (size : ℕ) (s : State) → IsUnused s → ShowsSteps number name none_leaves [] (nobody size) s
nobody_shows number name size s unused = record {
  shows = record {
    clients = none_to_show number s s.clients name unused.clients;
    exchanges = beginnings number s unused.exchanges unused.conns unused.begun;
    table = beginnings_of number size s unused.instances unused.chunks unused.clients;
    conns = none_linked s s.conns unused.conns;
  };
  order = λ i j before within. omega (arith, within);
  told = record { waiting = tt; placed = tt };
  refused = refl;
}

begins_with : (conf : Conf) (p : Turn) → IsNew conf p → parts p ≡ nobody conf.critical
begins_with conf p new =
    ap (λ (seats : List Seat). record (parts p) { seats = seats }) new.seats
    ∙ ap (λ (flow : Exchanges). record (parts p) { seats = []; flow = flow }) new.flow
    ∙ ap (λ (m : Memory). record (nobody conf.critical) { cache = m; refused = p.refused; is_astray = p.is_astray }) new.cache
    ∙ ap (λ (keys : List (List ℕ)). record (nobody conf.critical) { refused = keys; is_astray = p.is_astray }) new.refused
    ∙ ap (λ (b : Bool). record (nobody conf.critical) { is_astray = b }) new.astray

pub memory_is : MemoryIsTheLaws
memory_is number conf p s set new is unused =
    let force = set_as conf p s set is in
    record {
      steps = subst (λ (u : Parts). ShowsSteps number p.name.items none_leaves [] u s) (sym (begins_with conf p new)) (nobody_shows number p.name.items conf.critical s unused);
      name = force.name;
      shares = force.shares;
      clock = new.now ∙ sym unused.clock;
      ticked = new.still ∙ sym unused.still;
      stopped = new.goes ∙ sym unused.goes;
      bounded = subst (λ (m : Memory). IsBounded m) (sym new.cache) (nothing_is_bounded conf.critical);
    }
