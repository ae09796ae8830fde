-- Bytes came of an origin: they are got as by the law, and the turn stands behind them.
use Rattle.std.proofs.Common.{◌≡◌, ◌≤◌, refl, sym, subst, ap, ◌∙◌, ℕ, false, length, map, List, [], Some, arith}
use Rattle.pp_cache.specs.Bounds.{IsBounded}
use Rattle.pp_turns_law.specs.Sides.{ShowsSides}
use Rattle.pp_turns_law.proofs.Sitting.{is_at, shown_at}
use Rattle.pp_turns_law.specs.Useless.{AllFollow}
use Rattle.pp_desk.specs.Closings.{Sides, peer_numbers, sides}
use Rattle.pp_desk.specs.Replies.{EndsReplies}
use Rattle.pp_desk.specs.declared.desk.Desk.{Desk}
use Rattle.pp_events_law.proofs.Gone.{amid_by}
use Rattle.pp_events_law.proofs.Standing.{HasWords}
use Rattle.pp_events_law.specs.Ready.{StaysReady}
use Rattle.pp_events_law.specs.Stands.{AreReadyAt, IsHandled, StandsAtEvent}
use Rattle.pp_law.specs.After.{paid}
use Rattle.pp_law.specs.Lists.{Bytes}
use Rattle.pp_law.specs.Replies.{end_replies}
use Rattle.pp_law.specs.Responses.{got}
use Rattle.pp_law.specs.State.{State, Conn, Term, Handling, ReadOf}
use Rattle.pp_laws.proofs.Pieces.{got-sound}
use Rattle.pp_laws.proofs.Sound.{client_number, facts_of as sound_facts}
use Rattle.pp_laws.specs.Numbers.{AreRising}
use Rattle.pp_laws_replies.proofs.Quiet.{facts_of as quiet_facts, quiet_same}
use Rattle.pp_laws_replies.proofs.QuietHeads.{got-quiet}
use Rattle.pp_laws_turn.proofs.Happenings.{got-turn}
use Rattle.pp_laws_turn.proofs.Lifts.{sound_on, turn_on}
use Rattle.pp_obeys.proofs.Frames.{frame_of, stays}
use Rattle.pp_obeys.proofs.StaysResponses.{got-stays}
use Rattle.pp_obeys.specs.Obeys.{Obeys}
use Rattle.pp_origins.specs.Gots.{Both, EndsBehind, HasGot, Makes, both, remaining, sides_of}
use Rattle.pp_proxy.specs.Handling.{ReceivesOn}
use Rattle.pp_proxy.specs.Moving.{Turning}
use Rattle.pp_reads_law.proofs.ReadWhole.{read_whole}
use Rattle.pp_reads_law.specs.Heads.{HeadsComeAsTheLaws}
use Rattle.pp_reads_law.specs.Reads.{IsReadTo}
use Rattle.pp_seats_law.specs.Seats.{ShowsSeat}
use Rattle.pp_state.specs.Ends.{parts}
use Rattle.pp_world.specs.Log.{Log}
use Rattle.pp_reads_law.proofs.BehindRead.{StandsAmid, behind_handled, behind_is, behind_ready}
use Rattle.pp_reads_law.proofs.Calm.{replies_calm}
use Rattle.pp_reads_law.proofs.Knows.{knows_rest, knows_then}
use Rattle.pp_reads_law.proofs.StayReads.{reads_stay}
use Rattle.pp_reads_law.proofs.StillClients.{are_as, none, then}
use Rattle.pp_reads_law.proofs.Supplied.{Moment, first, supplies}
use Rattle.pp_reads_law.specs.Brings.{LeadsTo, ReadRestsOn}
use Rattle.pp_reads_law.specs.Readable.{IsBrought, IsReadThrough, MayBring, MayRead}
use Rattle.pp_reads_law.specs.Stays.{KnowsAsMuch, StaysBeside}
use Rattle.pp_reads_law.specs.Told.{IsToldAt}

module _ (comes : HeadsComeAsTheLaws) (terms : List Term) (log : Log) (number0 : ℕ → ℕ) (k : ℕ) (x y : Turning) (s : State) (j : Conn) (obeys : Obeys terms s log) (stands : StandsAtEvent number0 Handling (ReadOf k) x.moving s) (ready : AreReadyAt number0 x.moving s) (may : MayRead k x s j) (brings : MayBring k x y s)
    (bounded : IsBounded y.moving.desk.state.cache) (calm : y.moving.desk.state.is_astray ≡ false) (receives : ReceivesOn k x y) (begins next : Both) (same : Makes (λ z. z) (both x.moving.desk) begins) (bytes : Bytes) (few : length bytes ≤ 32768) (brought : IsBrought k x y s bytes) (has_got : HasGot x.shelf k bytes begins next) (behind : EndsBehind (λ z. z) next (both y.moving.desk)) where
  abbrev old : Desk
  old = x.moving.desk

  abbrev new : Desk
  new = y.moving.desk

  abbrev name : Bytes
  name = old.state.name.items

  abbrev v : State
  v = got (length bytes) k bytes s

  rise : AreRising (map client_number s.clients)
  rise = (sound_facts (sound_on terms s log obeys)).callers.rise

  shown_old : ShowsSides number0 name (sides old) s
  shown_old = record { steps = stands.desk.turn.steps; may = stands.desk.may }

  pub knows : KnowsAsMuch old.state begins.state
  knows = knows_rest old.state begins.state same.rest

  pub words : HasWords begins.state s
  words = record {
    name = knows.name ∙ stands.desk.turn.name;
    shares = knows.shares ∙ stands.desk.turn.shares;
    clock = knows.clock ∙ stands.desk.turn.clock;
    ticked = knows.ticked ∙ stands.desk.turn.ticked;
    stopped = knows.stopped ∙ stands.desk.turn.stopped;
  }

  pub bounded_first : IsBounded begins.state.cache
  bounded_first = subst (λ (w : Sides). IsBounded w.parts.cache) (sym same.is) stands.desk.turn.bounded

  pub next_calm : next.state.is_astray ≡ false
  next_calm = replies_calm next.state.awake.items (sides_of next) (sides new) behind.is calm

  pub rests : ReadRestsOn name x.shelf k begins s bytes next
  rests = brings.rests begins next bytes brought same has_got next_calm

  shown_begins : ShowsSides number0 name (sides_of begins) s
  shown_begins = subst (λ (w : Sides). ShowsSides number0 name w s) (sym same.is) shown_old

  leads : LeadsTo x.shelf k begins next
  leads = record { more = 65600; behind = Some (remaining bytes []); then = has_got }

  abbrev pub At : Both → State → Bytes → Type 0
  At = Moment name x.shelf k begins s bytes words knows.name bounded_first next next_calm rests

  pub read : IsReadTo At name x.shelf k number0 begins s next v
  read =
      read_whole comes name x.shelf k next At (supplies name x.shelf k begins s bytes words knows.name bounded_first next next_calm rests) 65600 number0 begins s bytes
      (first name x.shelf k begins s bytes words knows.name bounded_first next next_calm rests leads number0 shown_begins) shown_begins (omega (arith, few)) has_got

  abbrev pub number : ℕ → ℕ
  number = read.number

  stay : StaysBeside begins next
  stay = reads_stay 65600 x.shelf k (Some (remaining bytes [])) begins next has_got

  next_know : KnowsAsMuch old.state next.state
  next_know = knows_then old.state begins.state next.state knows stay.knows

  follow : AllFollow (parts next.state) v
  follow i seat c place going =
      let one : ShowsSeat number name [] seat c = shown_at number name [] next.state.seats.items v.clients seat.client.id i seat c read.shows.steps.shows.clients (is_at i next.state.seats.items seat read.shows.steps.order place.here) place.here place.there in
      brings.followed begins next bytes brought same has_got next_calm i seat place.here (one.closing ∙ going)

  amid : StandsAmid number0 number x y s v (sides_of next)
  amid = record {
    shown = read.shows;
    still = then old.state.seats.items begins.state.seats.items next.state.seats.items (are_as old.state.seats.items old.state.seats.items begins.state.seats.items (ap (λ (w : Sides). w.parts.seats) (sym same.is)) (none old.state.seats.items)) stay.clients;
    conns = stay.conns ∙ ap (λ (w : Sides). peer_numbers w.peers) same.is;
    framed = frame_of (got-stays (length bytes) k bytes s (stays refl));
    quiet = quiet_facts (got-quiet (length bytes) k bytes s (quiet_same s));
    amid = amid_by v (got-sound (length bytes) k bytes s refl (sound_on terms s log obeys)) (got-turn (length bytes) k bytes s (turn_on terms s log obeys));
    follow = follow;
    knows = knows_then old.state next.state new.state next_know (knows_rest next.state new.state behind.rest);
    ends = subst (λ (ns : List ℕ). EndsReplies ns (sides_of next) (sides new)) next_know.awake behind.is;
    numbers = receives.numbers;
    links = receives.one.links;
    top = receives.one.top;
  }

  pub got_handled : IsHandled number y.moving (paid (end_replies v))
  got_handled = behind_handled number0 number (ReadOf k) x y s v (sides_of next) stands may.settled may.next rise amid bounded

  pub got_through : IsReadThrough k x y s bytes got_handled.handled
  unfolding got_handled
  got_through = record {
    begins = begins;
    next = next;
    same = same;
    brought = brought;
    got_all = has_got;
    behind = behind;
    straight = next_calm;
    ends = record { x = read.ends.x; s = read.ends.s; bytes = read.ends.bytes; holds = (read.ends.holds.pieces, read.ends.holds.is); last = read.ends.last };
    law = behind_is number0 number (ReadOf k) x y s v (sides_of next) stands may.settled may.next rise amid bounded;
  }

  pub got_ready : StaysReady number x y (paid (end_replies v))
  got_ready = behind_ready number0 number (ReadOf k) x y s v (sides_of next) stands may.settled may.next rise amid bounded ready (λ i told. read.told i (subst (λ (w : Sides). IsToldAt i number0 w.parts s) (sym same.is) told))
