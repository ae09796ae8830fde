-- A connection to an origin breaks, and the turn stands behind it.
use Rattle.std.proofs.Common.{◌≡◌, refl, sym, subst, ap, ap₂, ◌∙◌, ℕ, false, is_some, List, [], ◌∷◌, Option, Some}
use Rattle.std.specs.Prelude.{slice_get}
use Rattle.pp_cache.specs.Bounds.{IsBounded}
use Rattle.pp_client.specs.Replies.{Reply, is_said}
use Rattle.pp_turns_law.specs.Sides.{ShowsSides}
use Rattle.pp_turns_law.proofs.Regained.{regains}
use Rattle.pp_desk.specs.Closings.{peer_numbers, sides}
use Rattle.pp_desk.specs.declared.desk.Desk.{Desk}
use Rattle.pp_endings_law.specs.Gone.{IsAnswering, MayBeGone}
use Rattle.pp_flow_law.specs.Tables.{none_leaves}
use Rattle.pp_law.specs.After.{event, gone, paid}
use Rattle.pp_law.specs.Connections.{conn, is_conn}
use Rattle.pp_law.specs.Lists.{Bytes}
use Rattle.pp_law.specs.Replies.{regained}
use Rattle.pp_law.specs.Responses.{ended}
use Rattle.pp_law.specs.State.{State, Conn, Phase, Term, Awaiting, Handling, Free}
use Rattle.pp_laws.proofs.Clients.{regained-sound}
use Rattle.pp_laws.proofs.Lists.{in_find}
use Rattle.pp_laws.proofs.Pieces.{ended-sound}
use Rattle.pp_laws.proofs.Sound.{Sound}
use Rattle.pp_laws.proofs.Steps.{in_phase-sound}
use Rattle.pp_laws.specs.Runs.{IsIn}
use Rattle.pp_laws_bounds.proofs.Happenings.{from_now}
use Rattle.pp_laws_turn.proofs.Amid.{conn_ends}
use Rattle.pp_laws_turn.proofs.Happenings.{event-turn}
use Rattle.pp_laws_turn.proofs.Kept.{Turn as Kept}
use Rattle.pp_laws_turn.proofs.Laws.{sound_turns}
use Rattle.pp_laws_turn.proofs.Lifts.{sound_on, turn_on}
use Rattle.pp_laws_turn.proofs.View.{Holds, is_late}
use Rattle.pp_laws_turn.specs.SoundTurn.{IsSoundTurn}
use Rattle.pp_obeys.proofs.Happenings.{goes_broke_waiting}
use Rattle.pp_obeys.specs.Moves.{Leads}
use Rattle.pp_obeys.specs.Obeys.{Obeys}
use Rattle.pp_peers.specs.declared.peers.Peer.{Peer}
use Rattle.pp_proxy.specs.Handling.{Breaks, IsSilent}
use Rattle.pp_proxy.specs.Moving.{Turning, moving}
use Rattle.pp_seats.specs.declared.seat.Seat.{Seat}
use Rattle.pp_state.specs.Ends.{Parts, all_regained, parts}
use Rattle.pp_turns_law.specs.Firsts.{AreAwake}
use Rattle.pp_turns_law.specs.Turns.{IsFollowing, ShowsTurn}
use Rattle.pp_world.specs.Log.{Log}
use Rattle.pp_world.specs.declared.event.Event.TheVariants.{Broken}
use Rattle.pp_world.specs.declared.happening.Happening.TheVariants.{Broke}
use Rattle.pp_events_law.proofs.Alike.{AreAlike, WasAlike, awake_alike, ready_alike}
use Rattle.pp_events_law.proofs.Anew.{all_anew, anew_may}
use Rattle.pp_events_law.proofs.Gone.{IsGone, IsSoundAmid, ShowsGone, amid_by, gone_handled, gone_left, gone_next}
use Rattle.pp_events_law.proofs.Left.{AreLeft, alike_left, left_then}
use Rattle.pp_events_law.proofs.ReadyBehind.{ready_behind}
use Rattle.pp_events_law.proofs.Standing.{HasWords, may_as, one_leads, open_as, steps_as}
use Rattle.pp_events_law.specs.Breaks.{BreaksLead, MayBreak}
use Rattle.pp_events_law.specs.Ready.{StaysReady}
use Rattle.pp_events_law.specs.Stands.{AreReadyAt, IsHandled, StandsAtEvent, come}

-- ---- what is sound amid it

module _ (terms : List Term) (log : Log) (s : State) (obeys : Obeys terms s log) (at : s.phase ≡ Awaiting) (n : ℕ) (k : Conn) (there : conn s n ≡ Some k) where
  sound_event : Sound from_now (event s)
  unfolding event
  sound_event = regained-sound _ (in_phase-sound Handling s (sound_on terms s log obeys))

  in_event : IsIn k (event s).conns
  unfolding event regained
  in_event = (in_find (is_conn n) k s.conns there).0

  sound_ended : Sound from_now (ended false k (event s))
  sound_ended = ended-sound false k (event s) refl in_event sound_event

  kept_ended : Holds Kept (ended false k (event s))
  kept_ended = conn_ends false k (event s) (event-turn s (ap (λ (p : Phase). is_late p) at) (turn_on terms s log obeys))

  pub amid_break : IsSoundAmid (ended false k (event s))
  amid_break = amid_by (ended false k (event s)) sound_ended kept_ended

-- ---- of both

module _ (terms : List Term) (log : Log) (number : ℕ → ℕ) (k : ℕ) (x y : Turning) (s : State) (j : Conn) (obeys : Obeys terms s log) (stands : StandsAtEvent number Awaiting Free x.moving s) (ready : AreReadyAt number x.moving s) (may : MayBreak k x s j) (bounded : IsBounded y.moving.desk.state.cache)
    (breaks : Breaks k x.moving.desk y.moving.desk) (silent : IsSilent (come (Broken k) x) y) where
  abbrev old : Desk
  old = x.moving.desk

  abbrev new : Desk
  new = y.moving.desk

  abbrev anew : Desk
  anew = breaks.anew

  abbrev name : Bytes
  name = anew.state.name.items

  abbrev w : State
  w = event s

  parts_are : parts anew.state ≡ record (parts old.state) { seats = all_regained old.state.cache old.state.awake.items old.state.seats.items }
  parts_are = ap₂ (λ (p : Parts) (ss : List Seat). record p { seats = ss }) (ap (λ (d : Desk). parts d.state) breaks.regains.rest) breaks.regains.is

  peers_are : anew.peers ≡ old.peers
  peers_are = ap (λ (d : Desk). d.peers) breaks.regains.rest

  anew_alike : AreAlike (parts old.state) (parts anew.state)
  anew_alike = subst (λ (p : Parts). AreAlike (parts old.state) p) (sym parts_are) (all_anew old.state.cache old.state.awake.items (parts old.state))

  shown : ShowsTurn number none_leaves anew.peers anew.state (regained s)
  shown = subst (λ (ps : List Peer). ShowsTurn number none_leaves ps anew.state (regained s)) (sym peers_are)
      (regains number none_leaves old.peers old.state anew.state s stands.desk.turn stands.awake (λ i seat here going. (ready i seat here going).follows) (record { seats = breaks.regains.is; rest = ap (λ (d : Desk). d.state) breaks.regains.rest }))

  shows : ShowsSides number name (sides anew) w
  unfolding event regained
  shows = record {
    steps = steps_as number name anew.peers (parts anew.state) (regained s) w (record { clients = refl; conns = refl; exchanges = refl; next_exchange = refl; instances = refl; next_instance = refl; chunks = refl; kept = λ i. refl }) shown.steps;
    may = may_as (regained s) w refl refl refl (anew_may s stands.desk.may);
  }

  sound : IsSoundTurn s
  sound = sound_turns terms s log obeys

  may_gone : MayBeGone k w j
  unfolding event regained
  may_gone = record {
    there = may.there;
    goes_on = may.going;
    answers = λ a is. let one : IsAnswering s j = may.answers a is in record { first = one.first; others = one.others; line = one.line; known = one.known; whole = one.whole };
    once = sound.once;
  }

  words : HasWords anew.state w
  unfolding event regained
  words = record { name = shown.name; shares = shown.shares; clock = shown.clock; ticked = shown.ticked; stopped = shown.stopped }

  awake_anew : AreAwake anew.state
  awake_anew = awake_alike old.state anew.state anew_alike (ap (λ (d : Desk). d.state.awake.items) breaks.regains.rest) (ap (λ (d : Desk). d.state.is_ticked) breaks.regains.rest) stands.awake

  ready_anew : (i : ℕ) (seat : Seat) → slice_get anew.state.seats.items i ≡ Some seat → seat.is_closing ≡ false → IsFollowing anew.state.cache seat
  ready_anew i seat here going = (ready_alike number s.next_instance (parts old.state) (parts anew.state) anew_alike (ap (λ (d : Desk). d.state.cache) breaks.regains.rest) ready i seat here going).follows

  has_shown : ShowsGone number k anew x.moving.links x.moving.top w j
  unfolding event regained
  has_shown = record {
    shows = shows;
    words = words;
    may = may_gone;
    amid = amid_break terms log s obeys stands.law.at k j may.there;
    ready = ready_anew;
    unsaid = λ i seat here going.
        let was : WasAlike old.state.seats.items i seat = anew_alike.was i seat here in
        ap (λ (r : Reply). is_said r) was.is.reply ∙ (may.settled i was.old was.here).said (sym was.is.closing ∙ going);
    awake = awake_anew;
    ticked = ap (λ (d : Desk). d.state.has_ticked) breaks.regains.rest ∙ stands.ticked;
    at = refl;
    none = stands.law.none;
    opened = open_as x.moving (moving anew x.moving.links x.moving.top) s.top w.top breaks.regains.numbers (ap (λ (ps : List Peer). peer_numbers ps) peers_are) refl refl refl stands.opened;
  }

  is_gone : IsGone k anew new
  is_gone = record { ends = breaks.ends; numbers = breaks.numbers; rest = breaks.rest }

  break_handled : IsHandled number y.moving (paid (gone false k w))
  break_handled = gone_handled number k anew x.moving.links x.moving.top w j y.moving has_shown is_gone bounded silent.links silent.top

  break_left : AreLeft (parts old.state) (parts new.state)
  break_left = left_then (parts old.state) (parts anew.state) (parts new.state) (alike_left (parts old.state) (parts anew.state) anew_alike) (gone_left number k anew x.moving.links x.moving.top w j y.moving has_shown is_gone bounded silent.links silent.top)

  break_next : (gone false k w).next_instance ≡ s.next_instance
  unfolding event regained
  break_next = gone_next number k anew x.moving.links x.moving.top w j y.moving has_shown is_gone bounded silent.links silent.top

  break_ready : StaysReady number x y (paid (gone false k w))
  unfolding paid regained
  break_ready = ready_behind number x y s (paid (gone false k w)) break_next break_left break_handled.follows ready

  break_leads : Leads (Broke k ∷ []) s (paid (gone false k w))
  break_leads = one_leads s (paid (gone false k w)) (Broke k) refl (goes_broke_waiting s k stands.law.none stands.law.at (ap (λ (o : Option Conn). is_some o) may.there))

pub breaks : BreaksLead
breaks terms log number k x y s j obeys stands ready may bounded handles = (
  record {
    leads = break_leads terms log number k x y s j obeys stands ready may bounded handles.0 handles.1;
    handled = break_handled terms log number k x y s j obeys stands ready may bounded handles.0 handles.1;
  },
  break_ready terms log number k x y s j obeys stands ready may bounded handles.0 handles.1,
)
