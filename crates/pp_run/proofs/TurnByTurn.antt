-- Turns, one after the other.
use Rattle.std.proofs.Common.{◌≡◌, ◌≢◌, ◌<◌, ◌≤◌, ◌+◌, ◌-◌, ◌∙◌, inr, inl, ℕ, zero, suc, Bool, true, ◌&&◌, List, [], ◌∷◌, ◌++◌, Option, ap, append_assoc, refl, sym, subst, arith}
use Rattle.std.proofs.lemmas.List.{append-nil, flat_map_more, length-append}
use Rattle.std.proofs.lemmas.List.Folds.{list_all-append}
use Rattle.pp_world.specs.declared.event.Event.{Event}
use Rattle.pp_world.specs.declared.event.Event.TheVariants.{Stop, Tick, Accepted, Readable, Writable, Reached, Broken}
use Rattle.pp_world.specs.Log.{Log}
use Rattle.pp_links.specs.Links.{IsLinked, Link}
use Rattle.pp_links.specs.Quiet.{GrowsBy}
use Rattle.pp_shelf.specs.Steady.{IsSteady}
use Rattle.pp_links.proofs.Keeping.{none_linked}
use Rattle.pp_proxy.specs.Awaiting.{Standing, TurnsOn}
use Rattle.pp_proxy.specs.Turns.{TakesTurn, turn_by}
use Rattle.pp_proxy.specs.declared.proxy.Turn.{Turn}
use Rattle.pp_proxy.specs.declared.proxy.Turn.TheVariants.{Went, Stopped}
use Rattle.pp_run.specs.Serving.{GoesOn, GoesUpTo, LoggedTurn, TurnsUpTo, is_going, turn_happenings, went_on}

-- before the first
pub linked_none : (log : Option Log) (top : ℕ) (links : List Link) → links ≡ [] → IsLinked log top links
linked_none log top links none = subst (λ (each : List Link). IsLinked log top each) (sym none) (none_linked log top)

pub goes_none : (log : Option Log) → GrowsBy [] (GoesOn 0) log log
goes_none log = record { was = λ l is. (l, is, ([], sym (append-nil l), record { turns = []; counted = refl; going = refl; log_is = refl })) }

both_true : (a b : Bool) → a ≡ true → b ≡ true → (a && b) ≡ true
both_true a b one two = ap (λ (t : Bool). t && b) one ∙ two

goes_more : (count : ℕ) (log : Log) (last : LoggedTurn) → GoesOn count log → went_on last ≡ true → GoesOn (count + 1) (log ++ turn_happenings last)
goes_more count log last goes went = record {
  turns = goes.turns ++ last ∷ [];
  counted = length-append goes.turns (last ∷ []) ∙ ap (λ (n : ℕ). n + 1) goes.counted;
  going = list_all-append went_on goes.turns (last ∷ []) ∙ both_true _ _ goes.going (both_true _ _ went refl);
  log_is = ap (λ (l : Log). l ++ turn_happenings last) goes.log_is ∙ flat_map_more turn_happenings [] goes.turns last;
}

-- a step behind what grew
grows_then : {old mid new : Option Log} (P Q R : Log → Type 0) (first : Log) → ((front rest : Log) → P front → Q rest → R (front ++ (first ++ rest))) → GrowsBy [] P old mid → GrowsBy first Q mid new → GrowsBy [] R old new
grows_then P Q R first join one two = record {
  was = λ l is.
      let later = two.was l is in
      let earlier = one.was later.0 later.1 in
      let there : l ≡ earlier.0 ++ (earlier.2.0 ++ (first ++ later.2.0))
      = later.2.1 ∙ ap (λ (b : Log). b ++ (first ++ later.2.0)) earlier.2.1 ∙ append_assoc earlier.0 earlier.2.0 (first ++ later.2.0) in
      (earlier.0, earlier.1, (earlier.2.0 ++ (first ++ later.2.0), there, join earlier.2.0 later.2.0 earlier.2.2 later.2.2));
}

unless_stopped : (turn : Turn) → turn ≢ Stopped → is_going turn ≡ true
unless_stopped Went other = refl
unless_stopped Stopped other = absurd (other refl)

-- one turn more, which was not stopped
pub goes_then : {old mid new : Option Log} (count clients : ℕ) (result : Turn) → GrowsBy [] (GoesOn count) old mid → TakesTurn clients result mid new → result ≢ Stopped → GrowsBy [] (GoesOn (count + 1)) old new
goes_then count clients result goes turn other =
    grows_then (GoesOn count) IsSteady (GoesOn (count + 1)) _
    (λ front rest p steady. goes_more count front (record { wants = turn.wants; event = turn.event; rest = rest }) p (both_true _ _ steady (ap is_going (sym turn.result_is) ∙ unless_stopped result other)))
    goes turn.grows

stops_by : (event : Event) → Stopped ≡ turn_by event → event ≡ Stop
stops_by Stop is = refl
stops_by (Tick seconds) is = absurd (cc)
stops_by (Accepted c) is = absurd (cc)
stops_by (Readable id) is = absurd (cc)
stops_by (Writable id) is = absurd (cc)
stops_by (Reached k) is = absurd (cc)
stops_by (Broken k) is = absurd (cc)

-- the turn that was
pub goes_stopped : {old mid new : Option Log} (count most clients : ℕ) (result : Turn) → count < most → GrowsBy [] (GoesOn count) old mid → TakesTurn clients result mid new → result ≡ Stopped → GrowsBy [] (GoesUpTo most) old new
goes_stopped count most clients result fewer goes turn stopped =
    grows_then (GoesOn count) IsSteady (GoesUpTo most) _
    (λ front rest p steady. inr (record {
      count = count;
      fewer = fewer;
      front = front;
      goes = p;
      last = record { wants = turn.wants; event = turn.event; rest = rest };
      stopped = stops_by turn.event (sym stopped ∙ turn.result_is);
      steady = steady;
      log_is = refl;
    }))
    goes turn.grows

-- as many as there may be
pub goes_whole : {old new : Option Log} (count most : ℕ) → count ≡ most → GrowsBy [] (GoesOn count) old new → GrowsBy [] (GoesUpTo most) old new
goes_whole count most all goes = record {
  was = λ l is. let w = goes.was l is in (w.0, w.1, (w.2.0, w.2.1, inl (subst (λ (n : ℕ). GoesOn n w.2.0) all w.2.2)));
}

-- ---- what the proxy has between them

-- so far i of so many were made
pub record AreTurnsSoFar (i most : ℕ) (x mid : Standing) : Type 0 where
  pub on : (y : Standing) → TurnsUpTo (most - i) mid y → TurnsUpTo most x y

pub no_turn : (most : ℕ) (x : Standing) → AreTurnsSoFar 0 most x x
no_turn most x = record { on = λ y all. subst (λ (n : ℕ). TurnsUpTo n x y) whole all }
  where
    whole : most - 0 ≡ most
    whole = omega arith

one_less : (most i : ℕ) → i < most → most - i ≡ suc (most - (i + 1))
one_less most i less = omega (arith, less)

went_on_to : (more : ℕ) (x next y : Standing) → TurnsOn Went x next → TurnsUpTo more next y → TurnsUpTo (suc more) x y
unfolding TurnsUpTo
went_on_to more x next y turn others = inl (next, turn, others)

stopped_at : (more : ℕ) (x y : Standing) → TurnsOn Stopped x y → TurnsUpTo (suc more) x y
unfolding TurnsUpTo
stopped_at more x y turn = inr turn

none_more : (x : Standing) → TurnsUpTo zero x x
unfolding TurnsUpTo
none_more x = refl

pub one_more_turn : (i most : ℕ) (x mid next : Standing) (result : Turn) → i < most → result ≢ Stopped → AreTurnsSoFar i most x mid → TurnsOn result mid next → AreTurnsSoFar (i + 1) most x next
one_more_turn i most x mid next result less other so turn = record {
  on = λ y others. so.on y (subst (λ (n : ℕ). TurnsUpTo n mid y) (sym (one_less most i less)) (went_on_to (most - (i + 1)) mid next y (subst (λ (t : Turn). TurnsOn t mid next) (unless_stopped_went result other) turn) others));
}
  where
    unless_stopped_went : (t : Turn) → t ≢ Stopped → t ≡ Went
    unless_stopped_went Went other = refl
    unless_stopped_went Stopped other = absurd (other refl)

pub last_turn : (i most : ℕ) (x mid next : Standing) (result : Turn) → i < most → result ≡ Stopped → AreTurnsSoFar i most x mid → TurnsOn result mid next → TurnsUpTo most x next
last_turn i most x mid next result less stopped so turn =
    so.on next (subst (λ (n : ℕ). TurnsUpTo n mid next) (sym (one_less most i less)) (stopped_at (most - (i + 1)) mid next (subst (λ (t : Turn). TurnsOn t mid next) stopped turn)))

pub all_turns : (i most : ℕ) (x mid : Standing) → most ≤ i → AreTurnsSoFar i most x mid → TurnsUpTo most x mid
all_turns i most x mid done so = so.on mid (subst (λ (n : ℕ). TurnsUpTo n mid mid) (sym none_left) (none_more mid))
  where
    none_left : most - i ≡ zero
    none_left = omega (arith, done)
