-- As exchanges get their places, and dials may be refused: what is kept on the disk, and what is counted of what is dropped.
use Rattle.std.proofs.Common.{◌≡◌, refl, sym, subst, ap, ◌∙◌, ℕ, suc, false, List, [], ◌++◌, append_assoc, Option, Some, None}
use Rattle.pp_law.specs.Connections.{WaitsDial, placing}
use Rattle.pp_law.specs.Phases.{behind, has_closings, in_phase, next}
use Rattle.pp_law.specs.State.{State, Exchange, Phase, Term, Connecting, DecidingAgain}
use Rattle.pp_laws_coming.proofs.Laws.{asks_told}
use Rattle.pp_laws_turn.proofs.Laws.{sound_turns}
use Rattle.pp_laws_turn.specs.SoundTurn.{IsSoundTurn}
use Rattle.pp_obeys.proofs.Moving.{lead_joined}
use Rattle.pp_obeys.specs.Moves.{Leads}
use Rattle.pp_obeys.specs.Obeys.{Obeys}
use Rattle.pp_places.specs.Around.{Around, Moment, around, moment_of}
use Rattle.pp_places.specs.Placing.{IsPlaced, goes_on_behind, next_waiting, place_for}
use Rattle.pp_places_law.proofs.Loops.{LeadsOn}
use Rattle.pp_places_law.proofs.Refused.{answers}
use Rattle.pp_places_law.specs.Around.{MayPlace, ShowsAround}
use Rattle.pp_places_law.specs.Places.{Reaches}
use Rattle.pp_places_law.specs.Refusals.{MayBeRefused}
use Rattle.pp_proxy.specs.Moving.{Moving}
use Rattle.pp_proxy.specs.Rounds.{Places}
use Rattle.pp_rounds_law.specs.Stands.{StandsAmid}
use Rattle.pp_state.specs.Ends.{parts}
use Rattle.pp_state.specs.declared.state.State.{State as Turn}
use Rattle.pp_store.specs.Kept.{KeptMap}
use Rattle.pp_world.specs.Log.{Log}
use Rattle.pp_stays_law.proofs.Bodies.{counted_on, given_at, start}
use Rattle.pp_stays_law.proofs.Came.{Came, any_came, put_came}
use Rattle.pp_stays_law.proofs.Counted.{IsAsBefore, NothingCame, nothing_came}
use Rattle.pp_stays_law.proofs.Disk.{kept_of, noted_for}
use Rattle.pp_stays_law.proofs.Events.{lead_once, placing_fine}
use Rattle.pp_stays_law.proofs.Fits.{AnyMemory, AnySeat, all_named, are_named, bodies_placed, waiting_suit}
use Rattle.pp_stays_law.proofs.Joint.{Beside, Ends, run_beside}
use Rattle.pp_stays_law.proofs.Law.{phased}
use Rattle.pp_stays_law.proofs.OnDisk.{IsKeptBy, any_disk, put_disk}
use Rattle.pp_stays_law.proofs.Stepped.{all_placed_fine}
use Rattle.pp_stays_law.specs.Dials.{MayBeRefusedAlong}
use Rattle.pp_stays_law.specs.Turns.{AreCounted, IsNotedFor}

-- ---- dials, each of which may be refused

one_more : (steps : ℕ) (m : Moment) (after : Option ℕ) (n : ℕ) (x next y : Around) (one two : Log) → next_waiting after x.sides ≡ Some n → IsPlaced m n x one next → Reaches steps m (goes_on_behind (place_for m.limits n x.sides) n) next two y
    → Reaches (suc steps) m after x (one ++ two) y
unfolding Reaches
one_more steps m after n x next y one two waiting placed rest = (n, next, one, two, waiting, refl, placed, rest)

none_yet : (m : Moment) (after : Option ℕ) (x : Around) → Reaches 0 m after x [] x
unfolding Reaches
none_yet m after x = (refl, refl)

abbrev May : (ℕ → ℕ) → Turn → Option ℕ → Around → Log → State → Type 0
May number p after x log s = MayBeRefusedAlong log number p after x s

lead_on : (number : ℕ → ℕ) (p : Turn) → LeadsOn number p (May number p)
lead_on number p = record {
  front = λ after z one two log t is so. (λ steps hs rest v w e front reached leads ok shown waits. so steps hs (rest ++ two) v w e (is ∙ ap (λ (l : Log). l ++ two) front ∙ append_assoc hs rest two) reached leads ok shown waits);
  behind_it = λ after z next n one two log t u waiting placed is leads so.
      (λ steps hs rest v w e front reached led ok shown waits.
      so (suc steps) (one ++ hs) rest v w e (is ∙ ap (λ (l : Log). one ++ l) front ∙ sym (append_assoc one hs rest)) (one_more steps (moment_of p) after n z next v one hs waiting placed reached) (lead_joined one hs t u w leads led) ok shown waits);
  dials = λ after z t e log w shown ok un waits so dial. answers number p z t shown ok e log w un waits (so 0 [] log z t e refl (none_yet (moment_of p) after z) refl ok shown waits) dial;
}

may_be_refused : (number : ℕ → ℕ) (p : Turn) (after : Option ℕ) (x : Around) (s : State) (e : Exchange) (log : Log) → ShowsAround number p x (placing s).state → MayPlace s → (placing s).pause ≡ WaitsDial e → May number p after x log s → MayBeRefused p x (placing s).state e
may_be_refused number p after x s e log shown ok waits so = so 0 [] log x s e refl (none_yet (moment_of p) after x) refl ok shown waits

-- ---- all of them

next_again : (s : State) → s.phase ≡ Connecting → next s ≡ (placing (in_phase DecidingAgain s)).state
unfolding next
next_again s at = ap (λ (p : Phase). behind p s) at

module _ (terms : List Term) (shelf : KeptMap) (before : Log) (number : ℕ → ℕ) (x y : Moving) (log : Log) (s t : State) (obeys : Obeys terms s before) (amid : StandsAmid number shelf x s) (h : IsNotedFor shelf x.desk.state s) (phase : s.phase ≡ Connecting) (closed : has_closings s ≡ false)
    (dials : MayBeRefusedAlong log number x.desk.state None (around x.desk x.links x.top) s) (places : Places x log y) (leads : Leads log s t) where
  abbrev p : Turn
  p = x.desk.state

  abbrev q : Turn
  q = y.desk.state

  abbrev names : List (List ℕ)
  names = h.room.names

  sound : IsSoundTurn s
  sound = sound_turns terms s before obeys

  shows : ShowsAround number p (around x.desk x.links x.top) s
  shows = record {
    turn = record { steps = amid.turn.steps; name = amid.turn.name; shares = amid.turn.shares; clock = amid.turn.clock; ticked = amid.turn.ticked; stopped = amid.turn.stopped; bounded = amid.turn.bounded };
    limits = amid.limits;
    waiting = amid.waiting;
    placed = amid.placed;
    linked = amid.linked;
    given = amid.given;
    few = amid.few;
    top = amid.top;
  }

  may : MayPlace s
  may = record { connecting = record { at = phase; none = amid.none }; going = amid.going; closed = closed; apart = λ n. sound.apart.conns n; given = given_at s sound }

  start_here : Beside shelf names s (around x.desk x.links x.top) s
  start_here = record {
    fine = record { seats = h.room.seats; waiting = all_named names p.flow.waiting h.room.waiting; placed = all_named names p.flow.placed h.room.placed; memory = h.room.room };
    disk = kept_of shelf p s h;
    came = λ n k came. came;
  }

  ends : Ends shelf names s number p (May number p) (lead_on number p) (may_be_refused number p) log (around y.desk y.links y.top) s
  ends =
      run_beside shelf names s number p (May number p) (lead_on number p) (may_be_refused number p) (around x.desk x.links x.top) s shows may 65536 log (around y.desk y.links y.top) dials start_here places.is

  same : ends.state ≡ t
  same = lead_once log s ends.state t ends.leads leads

  at : t.phase ≡ Connecting
  at = ap (λ (u : State). u.phase) (sym same) ∙ ends.may.connecting.at

  its : IsKeptBy shelf q.cache.outdated (next t)
  its =
      subst (λ (u : State). IsKeptBy shelf q.cache.outdated u) (sym (next_again t at))
      (placing_fine (IsKeptBy shelf q.cache.outdated) (any_disk shelf q.cache.outdated) (put_disk shelf q.cache.outdated) (in_phase DecidingAgain t)
      (phased (IsKeptBy shelf q.cache.outdated) (any_disk shelf q.cache.outdated) DecidingAgain t (subst (λ (u : State). IsKeptBy shelf q.cache.outdated u) same ends.stands.disk)))

  pub places_noted : IsNotedFor shelf q (next t)
  places_noted =
      noted_for shelf q.cache.outdated q (next t) refl its
      (record { names = names; seats = ends.stands.fine.seats; waiting = are_named names q.flow.waiting ends.stands.fine.waiting; placed = are_named names q.flow.placed ends.stands.fine.placed; room = ends.stands.fine.memory })

  came : (n c : ℕ) → Came n c s → Came n c (next t)
  came n c first =
      subst (λ (u : State). Came n c u) (sym (next_again t at))
      (placing_fine (Came n c) (any_came n c) (put_came n c) (in_phase DecidingAgain t) (phased (Came n c) (any_came n c) DecidingAgain t (subst (λ (u : State). Came n c u) same (ends.stands.came n c first))))

  pub places_counted : AreCounted p s → StandsAmid number shelf y (next t) → AreCounted q (next t)
  places_counted counted then =
      counted_on terms before number number p.flow q.flow s (next t) obeys amid.turn.steps.shows.exchanges then.turn.steps.shows.exchanges
      (all_placed_fine AnySeat NothingCame (IsAsBefore p.flow) AnyMemory (waiting_suit p.flow) (bodies_placed p.flow) x y log places
      (record {
        seats = λ i seat here. tt;
        waiting = nothing_came number p.flow s amid.turn.steps.shows.exchanges (asks_told terms s before obeys);
        placed = (start number (parts p) s amid.turn.steps.shows.exchanges).placed;
        memory = tt;
      })).placed
      came counted
