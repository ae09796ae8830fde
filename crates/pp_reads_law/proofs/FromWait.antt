-- The event of an origin that can be read, from the wait on.
use Rattle.std.proofs.Common.{◌≡◌, ◌≤◌, ◌<◌, sym, subst, ap, ◌∙◌, ℕ, false, length, List, [], ◌∷◌, ◌++◌, Option, None}
use Rattle.std.specs.Prelude.{vec_capacity}
use Rattle.pp_cache.specs.Bounds.{IsBounded}
use Rattle.pp_turns_law.proofs.Peers.{HasPeer, linked}
use Rattle.pp_desk.specs.declared.desk.Desk.{Desk}
use Rattle.pp_events_law.proofs.Alike.{AreAlike, WasAlike}
use Rattle.pp_events_law.proofs.ReadWhole.{settled_as}
use Rattle.pp_events_law.proofs.ReadyBehind.{given_on}
use Rattle.pp_events_law.proofs.Touched.{no_seat}
use Rattle.pp_events_law.proofs.Woken.{origin_reads, woken_alike}
use Rattle.pp_events_law.specs.Stands.{AreReadyAt, StandsAtEvent, come}
use Rattle.pp_events_law.specs.Woken.{IsOwed}
use Rattle.pp_law.specs.State.{State, Conn, Term, Awaiting, Free, ReadOf}
use Rattle.pp_law.specs.Turn.{marked_conn}
use Rattle.pp_obeys.proofs.Happenings.{goes_can_read, obeys_by}
use Rattle.pp_obeys.proofs.Moving.{lead_joined}
use Rattle.pp_obeys.specs.Obeys.{Obeys}
use Rattle.pp_proxy.specs.Handling.{ReadsAt, ReadsBy, ReceivesOn, Wakes}
use Rattle.pp_proxy.specs.Moving.{Turning, at_desk}
use Rattle.pp_reads_law.specs.Heads.{HeadsComeAsTheLaws}
use Rattle.pp_state.specs.Ends.{numbers_of, parts, place_of}
use Rattle.pp_world.specs.Log.{Log}
use Rattle.pp_world.specs.declared.event.Event.TheVariants.{Readable}
use Rattle.pp_world.specs.declared.happening.Happening.TheVariants.{CanRead}
use Rattle.pp_reads_law.proofs.Owed.{all_go_on, its_answers, its_conn, once_anew, owed_read, same_read_room}
use Rattle.pp_reads_law.proofs.Reading.{readings}
use Rattle.pp_reads_law.specs.Readable.{HasLedTold, HasLedToldBehind, MayBeRead, MayBring, MayRead, OriginReadsLead}

module _ (comes : HeadsComeAsTheLaws) (terms : List Term) (log : Log) (number : ℕ → ℕ) (k : ℕ) (x y : Turning) (s : State) (j : Conn) (obeys : Obeys terms s log) (stands : StandsAtEvent number Awaiting Free x.moving s) (ready : AreReadyAt number x.moving s) (may : MayBeRead k x s j)
    (brings : (woken : Desk) → Wakes k x.moving.desk woken → MayBring k (at_desk woken x) y (owed_read k s)) (bounded : IsBounded y.moving.desk.state.cache) (calm : y.moving.desk.state.is_astray ≡ false) (reads : ReadsAt k (come (Readable k) x) y) where
  abbrev old : Desk
  old = x.moving.desk

  abbrev woken : Desk
  woken = reads.woken

  abbrev v : State
  v = owed_read k s

  abbrev next : Turning
  next = at_desk woken x

  its : HasPeer s k old.peers j
  its = linked s k old.peers s.conns j may.there stands.desk.turn.steps.shows.conns

  place : place_of k (numbers_of woken.state.seats.items) ≡ None
  place = ap (λ (ns : List ℕ). place_of k ns) (reads.wakes.touches.numbers ∙ reads.wakes.regains.numbers) ∙ no_seat k (numbers_of old.state.seats.items) old.peers x.moving.links its.peer its.there stands.opened.clients stands.opened.origins

  receives : ReceivesOn k next y
  receives = subst (λ (o : Option ℕ). ReadsBy o k next y) place reads.reads

  owed : IsOwed number (ReadOf k) (CanRead k) next.moving s v
  owed = origin_reads number k x.moving woken s stands ready reads.wakes its.peer its.there

  alike : AreAlike (parts old.state) (parts woken.state)
  alike = woken_alike number k x.moving woken s stands ready reads.wakes (ReadOf k)

  obeys_now : Obeys terms v (log ++ CanRead k ∷ [])
  obeys_now = obeys_by (CanRead k) obeys (goes_can_read s k stands.law.none stands.law.at) (λ fails. absurd (cc fails))

  -- what the desk has beside its parts
  kept : (P : Desk → Type 0) → P old → P (record reads.wakes.anew { state = record reads.wakes.anew.state { seats = old.state.seats } })
  kept P holds = subst P (sym reads.wakes.regains.rest) holds

  may_now : MayRead k next v (marked_conn s.clock j)
  may_now = record {
    there = its_conn k s j may.there;
    going = may.going;
    answers = λ a is. its_answers k s j (may.answers a is);
    room = subst (λ (n : ℕ). 0 < n) (sym (same_read_room k s j may.there)) may.room;
    long = subst (λ (d : Desk). length d.buffer.items ≡ 32768) (sym reads.wakes.touches.rest) (kept (λ d. length d.buffer.items ≡ 32768) may.long);
    holds = subst (λ (d : Desk). 32768 ≤ vec_capacity d.«data») (sym reads.wakes.touches.rest) (kept (λ d. 32768 ≤ vec_capacity d.«data») may.holds);
    anew = once_anew k s;
    linked = may.linked;
    settled = λ i other here. let one : WasAlike old.state.seats.items i other = alike.was i other here in settled_as one.old other one.is (may.settled i one.old one.here);
    next = all_go_on k s may.next;
  }

  read : HasLedTold k next y v
  read = readings comes terms (log ++ CanRead k ∷ []) number k next y v (marked_conn s.clock j) obeys_now owed.stands owed.ready may_now (brings woken reads.wakes) bounded calm receives

  pub read_behind : HasLedToldBehind k x y s
  read_behind = record {
    number = read.number;
    led = record { log = read.led.log; then = read.led.then; told = read.led.handled.told; leads = lead_joined (CanRead k ∷ []) read.led.log s v read.led.then owed.leads read.led.handled.leads; handled = read.led.handled.handled };
    ready = λ given. read.ready (given_on x next y alike given);
    through = λ bytes is. record { woken = woken; wakes = reads.wakes; through = read.through bytes is };
  }

pub origins_read : HeadsComeAsTheLaws → OriginReadsLead
origins_read comes terms log number k x y s j obeys stands ready may brings bounded calm reads = read_behind comes terms log number k x y s j obeys stands ready may brings bounded calm reads
