-- Those that are looked at behind the wants.
use Rattle.std.proofs.Common.{◌≡◌, ◌≤◌, refl, sym, subst, ap, ap₂, ◌∙◌, ℕ, ◌+◌, Bool, true, false, not, ◌||◌, ◌==◌, cond, filter, length, List, [], ◌∷◌, Option, Some, arith}
use Rattle.std.specs.Prelude.{slice_get}
use Rattle.pp_cache.specs.Bounds.{IsBounded}
use Rattle.pp_cache.specs.Memory.{Memory}
use Rattle.pp_cache_law.proofs.Numbers.{is_same}
use Rattle.pp_desk.specs.declared.desk.Desk.{Desk}
use Rattle.pp_due.specs.Waits.{is_loud, is_loud_in}
use Rattle.pp_flow.specs.Changes.{Exchanges}
use Rattle.pp_flow_law.specs.Tables.{AreGiven, none_leaves}
use Rattle.pp_law.specs.Lists.{Bytes, has_number}
use Rattle.pp_law.specs.State.{State}
use Rattle.pp_peers.specs.declared.peers.Peer.{Peer}
use Rattle.pp_proxy.specs.Awaiting.{Awaits}
use Rattle.pp_seats.specs.Seats.{is_silent}
use Rattle.pp_seats.specs.declared.seat.Seat.{Seat}
use Rattle.pp_state.specs.Ends.{Parts, parts}
use Rattle.pp_state.specs.declared.state.State.{State as Turn}
use Rattle.pp_states_law.specs.Steps.{ShowsSteps}
use Rattle.pp_turns_law.specs.Rows.{AreReady}
use Rattle.pp_turns_law.specs.Turns.{ShowsTurn}
use Rattle.pp_waits_law.specs.Rests.{StandsToWait, StandsLoud, WantsLeaveTurns}
use Rattle.pp_world.specs.declared.event.Wants.{Wants}

-- ---- places that rise, of which some are left out

lower : (low high next : ℕ) (ns : List ℕ) → low ≤ high → AreGiven high next ns → AreGiven low next ns
lower low high next [] less given = omega (arith, less, given)
lower low high next (n ∷ ns) less given = (omega (arith, less, given.0), given.1)

fewer : (f : ℕ → Bool) (low next : ℕ) (ns : List ℕ) → AreGiven low next ns → AreGiven low next (filter f ns)
fewer f low next [] given = given
fewer f low next (n ∷ ns) given = by (f n) (fewer f (n + 1) next ns given.1)
  where
    by : (b : Bool) → AreGiven (n + 1) next (filter f ns) → AreGiven low next (cond b (n ∷ filter f ns) (filter f ns))
    by true rest = (given.0, rest)
    by false rest = lower low (n + 1) next (filter f ns) (omega (arith, given.0)) rest

stays_in : (f : ℕ → Bool) (i : ℕ) (ns : List ℕ) → f i ≡ true → has_number i ns ≡ true → has_number i (filter f ns) ≡ true
stays_in f i [] holds has = has
stays_in f i (n ∷ ns) holds has = by (f n) (n == i) refl refl has (λ there. stays_in f i ns holds there)
  where
    or_true : (b : Bool) → (b || true) ≡ true
    or_true true = refl
    or_true false = refl

    by : (b c : Bool) → f n ≡ b → (n == i) ≡ c → (c || has_number i ns) ≡ true → (has_number i ns ≡ true → has_number i (filter f ns) ≡ true) → has_number i (cond b (n ∷ filter f ns) (filter f ns)) ≡ true
    by true true is same there rest = ap (λ (b : Bool). b || has_number i (filter f ns)) same
    by true false is same there rest = ap (λ (b : Bool). (n == i) || b) (rest there) ∙ or_true (n == i)
    by false true is same there rest = absurd (let both : true ≡ false = sym holds ∙ ap f (sym (is_same n i same)) ∙ is in cc both)
    by false false is same there rest = rest there

silent_of : (b : Bool) → not b ≡ false → b ≡ true
silent_of true is = refl
silent_of false is = absurd (cc is)

-- ---- it shows what it showed

pub parts_of : (p : Parts) (seats : List Seat) (flow : Exchanges) (cache : Memory) (refused : List Bytes) (astray : Bool) → p.seats ≡ seats → p.flow ≡ flow → p.cache ≡ cache → p.refused ≡ refused → p.is_astray ≡ astray
    → p ≡ record { seats = seats; flow = flow; cache = cache; refused = refused; is_astray = astray }
parts_of p seats flow cache refused astray a b c d e =
    ap₂ (λ (xs : List Seat) (f : Exchanges). let q : Parts = record { seats = xs; flow = f; cache = p.cache; refused = p.refused; is_astray = p.is_astray } in q) a b
    ∙ ap₂ (λ (m : Memory) (ts : List Bytes). let q : Parts = record { seats = seats; flow = flow; cache = m; refused = ts; is_astray = p.is_astray } in q) c d
    ∙ ap (λ (b : Bool). let q : Parts = record { seats = seats; flow = flow; cache = cache; refused = refused; is_astray = b } in q) e

module _ (number : ℕ → ℕ) (before : List ℕ) (w : Wants) (clients : ℕ) (d e : Desk) (s : State) (stands : StandsToWait number d s) (awaits : Awaits before w clients d e) where
  of_turn : {A : Type 0} (f : Turn → A) → f (record e.state { seats = d.state.seats; awake = d.state.awake }) ≡ f d.state
  of_turn f = ap (λ (x : Desk). f x.state) awaits.rest

  pub same_parts : parts e.state ≡ parts d.state
  same_parts = parts_of (parts e.state) d.state.seats.items d.state.flow d.state.cache d.state.refused d.state.is_astray awaits.seats (of_turn (λ (t : Turn). t.flow)) (of_turn (λ (t : Turn). t.cache)) (of_turn (λ (t : Turn). t.refused)) (of_turn (λ (t : Turn). t.is_astray))

  same_name : e.state.name.items ≡ d.state.name.items
  same_name = of_turn (λ (t : Turn). t.name.items)

  same_cache : e.state.cache ≡ d.state.cache
  same_cache = of_turn (λ (t : Turn). t.cache)

  same_peers : e.peers ≡ d.peers
  same_peers = ap (λ (x : Desk). x.peers) awaits.rest

  steps : ShowsSteps number e.state.name.items none_leaves e.peers (parts e.state) s
  steps =
      subst (λ (name : Bytes). ShowsSteps number name none_leaves e.peers (parts e.state) s) (sym same_name)
      (subst (λ (ps : List Peer). ShowsSteps number d.state.name.items none_leaves ps (parts e.state) s) (sym same_peers)
      (subst (λ (r : Parts). ShowsSteps number d.state.name.items none_leaves d.peers r s) (sym same_parts) stands.turn.steps))

  turn : ShowsTurn number none_leaves e.peers e.state s
  turn = record {
    steps = steps;
    name = same_name ∙ stands.turn.name;
    shares = of_turn (λ (t : Turn). t.shares_fetches) ∙ stands.turn.shares;
    clock = of_turn (λ (t : Turn). t.now) ∙ stands.turn.clock;
    ticked = of_turn (λ (t : Turn). t.is_ticked) ∙ stands.turn.ticked;
    stopped = of_turn (λ (t : Turn). t.is_stopped) ∙ stands.turn.stopped;
    bounded = subst (λ (m : Memory). IsBounded m) (sym same_cache) stands.turn.bounded;
  }

  others : (i : ℕ) (seat : Seat) → slice_get d.state.seats.items i ≡ Some seat → has_number i (filter (is_loud d.state.seats.items) d.state.awake.items) ≡ false → is_silent seat ≡ true
  others i seat here none = by (has_number i d.state.awake.items) refl (not (is_silent seat)) refl
    where
      loud_is : is_loud d.state.seats.items i ≡ not (is_silent seat)
      loud_is = ap (λ (o : Option Seat). is_loud_in o) here

      by : (b : Bool) → has_number i d.state.awake.items ≡ b → (c : Bool) → not (is_silent seat) ≡ c → is_silent seat ≡ true
      by false out c is = (stands.awake.others i seat here out).silent
      by true there true is = absurd (let both : true ≡ false = sym (stays_in (is_loud d.state.seats.items) i d.state.awake.items (loud_is ∙ is) there) ∙ none in cc both)
      by true there false is = silent_of (is_silent seat) is

  left_loud : StandsLoud number e s
  left_loud = record {
    turn = turn;
    ready =
        subst (λ (m : Memory). AreReady number m s.next_instance e.state.seats.items) (sym same_cache)
        (subst (λ (seats : List Seat). AreReady number d.state.cache s.next_instance seats) (sym awaits.seats) stands.ready);
    loud = record {
      order =
          subst (λ (n : ℕ). AreGiven 0 n e.state.awake.items) (ap (λ (xs : List Seat). length xs) (sym awaits.seats))
          (subst (λ (ns : List ℕ). AreGiven 0 (length d.state.seats.items) ns) (sym awaits.awake) (fewer (is_loud d.state.seats.items) 0 (length d.state.seats.items) d.state.awake.items stands.awake.order));
      others = λ i seat here none. others i seat (ap (λ (xs : List Seat). slice_get xs i) (sym awaits.seats) ∙ here) (ap (λ (ns : List ℕ). has_number i ns) (sym awaits.awake) ∙ none);
    };
    closed = stands.closed;
  }

pub wants_leave : WantsLeaveTurns
wants_leave number before w clients d e s stands awaits = left_loud number before w clients d e s stands awaits
