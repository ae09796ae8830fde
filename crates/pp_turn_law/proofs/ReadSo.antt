-- From the end of a turn, over its wait, to where an origin is read.
use Rattle.std.proofs.Common.{◌≡◌, ◌≤◌, ◌⊎◌, inl, inr, refl, sym, subst, ap, ◌∙◌, ℕ, ◌+◌, Bool, false, ◌&&◌, cond, List, [], ◌∷◌, ◌++◌, append_assoc, length, take, Option, Some, None, Ok, Err, arith}
use Rattle.std.specs.Prelude.{count_by, vec_capacity}
use Rattle.pp_reads_law.specs.Readable.{IsReadAwake}
use Rattle.pp_given_law.specs.MayNote.{most_names}
use Rattle.pp_given_law.specs.Reads.{CountedAsRead}
use Rattle.pp_joints_law.specs.ReadsNoteAll.{NotesThere}
use Rattle.pp_joints_law.specs.ReadsCome.{ReadsComeBehind, ReadsNoteAmid}
use Rattle.pp_cache_law.proofs.PairLemmas.{count_first}
use Rattle.pp_turns_law.proofs.Peers.{HasPeer, linked}
use Rattle.pp_comes_law.proofs.KeptOpen.{goes_on}
use Rattle.pp_comes_law.proofs.OriginReads.{wanted}
use Rattle.pp_comes_law.proofs.OriginWanted.{IsWanted}
use Rattle.pp_comes_law.specs.Moments.{MayBringBeside}
use Rattle.pp_conf.specs.Conf.{Settings}
use Rattle.pp_comes_law.specs.Origins.{IsOfOrigin, IsReadBehind, OriginReadsCome}
use Rattle.pp_desk.specs.Calls.{Found, read_log}
use Rattle.pp_desk.specs.declared.desk.Desk.{Desk}
use Rattle.pp_events_law.proofs.Calls.{its_side}
use Rattle.pp_events_law.proofs.Touched.{link_of}
use Rattle.pp_given_law.proofs.CountedEnds.{as_ended}
use Rattle.pp_given_law.specs.Ends.{AreOfEnd}
use Rattle.pp_joints_law.proofs.BytesBehind.{origin_bytes_carry}
use Rattle.pp_joints_law.proofs.CallsBehind.{WasAdded, was_added}
use Rattle.pp_joints_law.proofs.Ends.{origin_ends_carry}
use Rattle.pp_joints_law.specs.BehindEnds.{BringsNoBytes}
use Rattle.pp_joints_law.specs.Behind.{CarriesOn, HasFew, MayNote, StandsBefore}
use Rattle.pp_joints_law.specs.Carried.{IsCarried}
use Rattle.pp_law.specs.After.{event, owing}
use Rattle.pp_law.specs.Connections.{is_conn}
use Rattle.pp_law.specs.Lists.{Bytes}
use Rattle.pp_law.specs.Phases.{ending}
use Rattle.pp_law.specs.Replies.{regained}
use Rattle.pp_law.specs.State.{State, Conn, Term, ReadOf}
use Rattle.pp_law.specs.Turn.{rest_with, rested_conn}
use Rattle.pp_laws_sides.proofs.Linked.{links_few}
use Rattle.pp_laws_sides.specs.Counts.{IsShortLog}
use Rattle.pp_laws_turn.proofs.Laws.{sound_turns}
use Rattle.pp_links.specs.Links.{IsLinked}
use Rattle.pp_obeys.proofs.Frames.{Frame}
use Rattle.pp_obeys.proofs.StaysTurns.{ending-frame}
use Rattle.pp_obeys.specs.Failures.{fails}
use Rattle.pp_obeys.specs.Obeys.{Life}
use Rattle.pp_origins.specs.Gots.{Receives, both}
use Rattle.pp_places_law.proofs.Links.{as_many}
use Rattle.pp_proxy.specs.Awaiting.{Standing}
use Rattle.pp_proxy.specs.Handling.{ReadsBy, ReceivesOn, Wakes}
use Rattle.pp_proxy.specs.Moving.{Turning, at_desk}
use Rattle.pp_rounds_law.proofs.Coming.{none_fail}
use Rattle.pp_rounds_law.specs.Coming.{ComesTo}
use Rattle.pp_state.specs.Ends.{numbers_of, place_of}
use Rattle.pp_stays_law.specs.Turns.{AreCounted}
use Rattle.pp_store.specs.Kept.{KeptMap}
use Rattle.pp_turn_law.proofs.Along.{then_more}
use Rattle.pp_turn_law.proofs.HandledSo.{before, come_so, supplied_before, supplied_behind, waited}
use Rattle.pp_turn_law.proofs.Kept.{some_log}
use Rattle.pp_turn_law.proofs.OfCalls.{end_of}
use Rattle.pp_turn_law.specs.Awaited.{HasComeBehind, awaiting}
use Rattle.pp_turn_law.specs.Called.{Calls}
use Rattle.pp_turn_law.specs.Handled.{IsHandledOn, Turns}
use Rattle.pp_turn_law.specs.Kept.{StandsHandled}
use Rattle.pp_turn_law.specs.Read.{OriginReadsAreHandled}
use Rattle.pp_turn_law.specs.Waited.{HasWaitedOn}
use Rattle.pp_world.specs.Connections.{side_of}
use Rattle.pp_world.specs.Log.{AppendsAll, Log}
use Rattle.pp_world.specs.Wire.{by_side}
use Rattle.pp_world.specs.declared.event.Event.TheVariants.{Readable}
use Rattle.pp_world.specs.declared.event.Got.TheVariants.{Bytes as Came, End, NotYet}
use Rattle.pp_world.specs.declared.event.Side.{Side}
use Rattle.pp_world.specs.declared.event.Side.TheVariants.{Client as OfClient, Origin as OfOrigin}
use Rattle.pp_world.specs.declared.event.Wants.{Wants}
use Rattle.pp_world.specs.declared.happening.Happening.{Happening}
use Rattle.pp_world.specs.declared.happening.Happening.TheVariants.{Broke, CanRead, Ended, Got, Heard, HungUp, Waits}

-- ---- in a read the outside does not fail

one_of : (a b : Happening) (o : Option Side) → fails a ≡ false → fails b ≡ false → count_by fails (by_side o a b ∷ []) ≡ 0
one_of a b None first second = let one : ◌≡◌ {A = ℕ} (cond (fails b) 1 0) 0 = ap (λ (c : Bool). cond c 1 0) second in omega (arith, count_first fails b [], one)
one_of a b (Some OfClient) first second = let one : ◌≡◌ {A = ℕ} (cond (fails a) 1 0) 0 = ap (λ (c : Bool). cond c 1 0) first in omega (arith, count_first fails a [], one)
one_of a b (Some OfOrigin) first second = let one : ◌≡◌ {A = ℕ} (cond (fails b) 1 0) 0 = ap (λ (c : Bool). cond c 1 0) second in omega (arith, count_first fails b [], one)

read_calm : (k : ℕ) (found : Found) (front : List ℕ) (l : Log) → count_by fails (read_log k found front l) ≡ 0
read_calm k None front l = refl
read_calm k (Some (Ok (Came n))) front l = one_of _ _ (side_of k l) refl refl
read_calm k (Some (Ok End)) front l = one_of _ _ (side_of k l) refl refl
read_calm k (Some (Ok NotYet)) front l = refl
read_calm k (Some (Err fault)) front l = one_of _ _ (side_of k l) refl refl

-- bytes came, or none did
CameOrNone : ℕ → Log → Type 0
CameOrNone k hs = ((bytes : Bytes) × (hs ≡ Got k bytes ∷ [])) ⊎ BringsNoBytes k hs

came_or_none : (k : ℕ) (found : Found) (front : List ℕ) (l : Log) → CameOrNone k (read_log k found front l)
unfolding CameOrNone
came_or_none k None front l = inr (λ bytes is. absurd (cc is))
came_or_none k (Some (Ok (Came n))) front l = by (side_of k l)
  where
    by : (o : Option Side) → CameOrNone k (by_side o (Heard k (take n front)) (Got k (take n front)) ∷ [])
    by None = inl (take n front, refl)
    by (Some OfOrigin) = inl (take n front, refl)
    by (Some OfClient) = inr (λ bytes is. absurd (cc is))
came_or_none k (Some (Ok End)) front l = by (side_of k l)
  where
    by : (o : Option Side) → CameOrNone k (by_side o (HungUp k) (Ended k) ∷ [])
    by None = inr (λ bytes is. absurd (cc is))
    by (Some OfOrigin) = inr (λ bytes is. absurd (cc is))
    by (Some OfClient) = inr (λ bytes is. absurd (cc is))
came_or_none k (Some (Ok NotYet)) front l = inr (λ bytes is. absurd (cc is))
came_or_none k (Some (Err fault)) front l = by (side_of k l)
  where
    by : (o : Option Side) → CameOrNone k (by_side o (HungUp k) (Broke k) ∷ [])
    by None = inr (λ bytes is. absurd (cc is))
    by (Some OfOrigin) = inr (λ bytes is. absurd (cc is))
    by (Some OfClient) = inr (λ bytes is. absurd (cc is))

-- ---- the log

-- behind the event it has what was added there
told_then : (log now hs : Log) (wait h : Happening) (old new : Option Log) → old ≡ Some ((log ++ wait ∷ []) ++ h ∷ []) → new ≡ Some now → AppendsAll old new (λ l. hs) → new ≡ Some (log ++ (wait ∷ h ∷ hs))
told_then log now hs wait h old new before told added =
    let was : (l : Log) × (old ≡ Some l) × (now ≡ l ++ hs) = added.was now told in
    told ∙ ap (λ (l : Log). Some l)
    (was.2 ∙ ap (λ (l : Log). l ++ hs) (some_log was.0 ((log ++ wait ∷ []) ++ h ∷ []) (sym was.1 ∙ before)) ∙ append_assoc (log ++ wait ∷ []) (h ∷ []) hs ∙ append_assoc log (wait ∷ []) (h ∷ hs))

-- what it has behind is what was added
added_is : (all hs : Log) (new : Option Log) (told : (l : Log) × (new ≡ Some l)) → AppendsAll (Some all) new (λ l. hs) → new ≡ Some (all ++ hs)
added_is all hs new told added =
    let was : (l : Log) × (Some all ≡ Some l) × (told.0 ≡ l ++ hs) = added.was told.0 told.1 in
    told.1 ∙ ap (λ (l : Log). Some l) (was.2 ∙ ap (λ (l : Log). l ++ hs) (sym (some_log all was.0 was.1)))

-- ---- an origin is read

-- attempts count anew for clients alone
same_conns : (s t : State) → t ≡ regained s → t.conns ≡ s.conns
unfolding regained
same_conns s t is = ap (λ (u : State). u.conns) is

-- what is said of the bytes that come
pub record SaysOfBytes : Type 0 where
  pub amid : ReadsNoteAmid
  pub behind : ReadsComeBehind
  pub counts : CountedAsRead

module _ (leads : OriginReadsCome) (k : ℕ) (life : Life) (budget : ℕ) (log : Log) (w : Wants) (x : Standing) (f : Desk) (all : Log) (faults : ℕ) (y : Turning) (s : State) (off : IsOfOrigin k (awaiting x f all faults)) (short : IsShortLog (log ++ Waits w ∷ [])) (calls : Calls life budget log w (Readable k) x f all faults y s) where
  abbrev terms : List Term
  terms = life.terms budget

  abbrev came : Turning
  came = awaiting x f all faults

  abbrev waiting : Log
  waiting = log ++ Waits w ∷ []

  abbrev rested : State
  rested = rest_with w (ending s)

  abbrev it : Turns life budget log w (Readable k) x f all faults y s
  it = calls.turns

  come : HasComeBehind life budget log it.stands.number w (Readable k) x f all faults s
  come = come_so life budget log w (Readable k) x f all faults y s it

  stood : StandsBefore terms waiting it.stands.number x.turning.shelf came.moving rested
  stood = before life budget log w (Readable k) x f all faults y s it

  wait : HasWaitedOn life budget log x w it.clients f it.stands.number s
  wait = waited life budget log w (Readable k) x f all faults y s it

  its : IsWanted w (ending s) k (λ j. is_conn k j && j.is_reached)
  its = wanted terms waiting it.stands.number w came (ending s) come.stands k off come.came

  -- whose it is, once the turn is woken
  abbrev woken : Desk
  woken = calls.handles.woken

  nobody : place_of k (numbers_of woken.state.seats.items) ≡ None
  nobody = ap (λ (ns : List ℕ). place_of k ns) (calls.handles.wakes.touches.numbers ∙ calls.handles.wakes.regains.numbers) ∙ off

  reads : ReceivesOn k (at_desk woken came) y
  reads = subst (λ (o : Option ℕ). ReadsBy o k (at_desk woken came) y) nobody calls.handles.reads

  fits : length f.buffer.items ≤ vec_capacity f.«data»
  fits = subst (λ (n : ℕ). n ≤ vec_capacity f.«data») (sym come.stands.buffer) come.stands.holds

  has_room : length woken.buffer.items ≤ vec_capacity woken.«data»
  has_room =
      subst (λ (d : Desk). length d.buffer.items ≤ vec_capacity d.«data») (sym calls.handles.wakes.touches.rest)
      (subst (λ (d : Desk). length d.buffer.items ≤ vec_capacity d.«data») (sym calls.handles.wakes.regains.rest) fits)

  receives : Receives (length woken.buffer.items) came.shelf k came.moving.links (both woken) (both y.moving.desk) came.log y.log
  receives = reads.receives has_room

  -- over the wait neither the cache nor what is set changes
  same_settings : rested.settings ≡ s.settings
  unfolding rest_with
  same_settings = ap (λ (z : Frame). z.settings) (ending-frame false s)

  sized : x.turning.moving.desk.state.cache.size ≡ s.settings.critical → came.moving.desk.state.cache.size ≡ rested.settings.critical
  sized size = ap (λ (d : Desk). d.state.cache.size) it.rests.rest ∙ ap (λ (d : Desk). d.state.cache.size) it.awaits.rest ∙ size ∙ sym (ap (λ (c : Settings). c.critical) same_settings)

  named : length x.turning.moving.desk.state.cache.outdated ≤ most_names → length came.moving.desk.state.cache.outdated ≤ most_names
  named few = subst (λ (names : List Bytes). length names ≤ most_names) (sym (ap (λ (d : Desk). d.state.cache.outdated) it.rests.rest ∙ ap (λ (d : Desk). d.state.cache.outdated) it.awaits.rest)) few

  abbrev owed : State
  owed = event (owing (ReadOf k) k rested)

  module _ (says : SaysOfBytes) (noted : MayNote came.moving) (size : x.turning.moving.desk.state.cache.size ≡ s.settings.critical) (names : length x.turning.moving.desk.state.cache.outdated ≤ most_names) where
    -- at each moment what is kept, and what left memory, is the law's
    brings : (desk : Desk) → Wakes k f desk → MayBringBeside k (at_desk desk came) y owed
    brings desk wakes = record {
      rests = λ begins next bytes brought same got straight pieces z u left moment leads_to number shows.
          let one : NotesThere came.shelf z u =
          says.amid terms waiting it.stands.number desk.state.name.items came.shelf k came.moving desk begins rested bytes stood wakes same (named names) pieces z u left moment in
          record { disk = one.kept; forgotten = one.forgotten };
    }

    read : IsReadBehind k came y rested
    read =
        leads k terms waiting it.stands.number w came y (ending s) off come.stands come.came (record { brings = brings; disk = record { done = stood.carried.disk.done; shows = stood.carried.disk.shows; names = stood.carried.disk.names }; size = λ bytes told. sized size; next = goes_on terms rested waiting come.stands.obeys short }) calls.handles it.bounded it.straight

    abbrev hs : Log
    hs = read.led.log

    abbrev t : State
    t = read.led.then

    abbrev more : Log
    more = Waits w ∷ CanRead k ∷ hs

    was : WasAdded came.log (read_log k receives.found receives.front) hs
    was = was_added came.log y.log calls.told.log hs (read_log k receives.found receives.front) calls.told.told read.led.told receives.told

    calm : count_by fails more ≡ 0
    calm =
        let none : count_by fails hs ≡ 0 = subst (λ (l : Log). count_by fails l ≡ 0) (sym was.is) (read_calm k receives.found receives.front was.before) in
        omega (arith, count_first fails (Waits w) (CanRead k ∷ hs), count_first fails (CanRead k) hs, none)

    told : y.log ≡ Some (log ++ more)
    told = told_then log calls.told.log hs (Waits w) (CanRead k) (Some all) y.log come.came.told calls.told.told read.led.told

    went : ComesTo terms log more s t
    went = then_more terms log (Waits w ∷ []) (CanRead k ∷ hs) s rested t wait.comes (none_fail rested (count_by fails (CanRead k ∷ hs)) calm) read.led.leads

    few : HasFew y.moving
    few =
        let links : length y.moving.links ≤ length t.clients + length t.conns =
        links_few terms t (log ++ more) y.moving.top y.moving.links went.obeys (subst (λ (l : Option Log). IsLinked l y.moving.top y.moving.links) told calls.linked) in
        let clients : length t.clients ≤ 256 = (sound_turns terms t (log ++ more) went.obeys).bounded.clients in
        let peers : length y.moving.desk.peers ≡ length read.led.handled.handled.conns = as_many read.led.handled.handled y.moving.desk.peers read.led.handled.handled.conns read.led.handled.stands.desk.turn.steps.shows.conns in
        let conns : length t.conns ≡ length read.led.handled.handled.conns = ap (λ (ks : List Conn). length ks) (same_conns read.led.handled.handled t read.led.handled.anew) in
        omega (arith, links, clients, peers, conns)

    failed : t.failures + life.base ≤ y.faults
    failed = omega (arith, went.failures, calm, it.stands.allows.failed, it.counted, reads.one.count)

    shelf_same : y.shelf ≡ x.turning.shelf
    shelf_same = reads.one.shelf

    -- by what was added: bytes, or an end
    counted_before : AreCounted came.moving.desk.state rested
    counted_before = (supplied_before life budget log w (Readable k) x f all faults y s it).counted

    peer : HasPeer rested k f.peers (rested_conn (ending s) w its.was)
    peer = linked rested k f.peers rested.conns (rested_conn (ending s) w its.was) its.there stood.stands.desk.turn.steps.shows.conns

    side : side_of k was.before ≡ Some OfOrigin
    side = its_side came.log came.moving.top came.moving.links k OfOrigin was.before come.came.linked (link_of k f.peers came.moving.links peer.peer stood.stands.opened.origins peer.there) was.told

    an_end : BringsNoBytes k hs → AreOfEnd hs
    an_end none = subst AreOfEnd (sym was.is) (end_of k receives.found receives.front was.before side (subst (λ (l : Log). BringsNoBytes k l) was.is none))

    found : CameOrNone k hs
    found = subst (λ (l : Log). CameOrNone k l) (sym was.is) (came_or_none k receives.found receives.front was.before)

    -- what is carried, and how much is counted of what is dropped
    record IsBehind : Type 0 where
      carries : CarriesOn x.turning.shelf y.moving read.led.handled.handled
      counts : AreCounted y.moving.desk.state read.led.handled.handled

    behind : CameOrNone k hs → IsBehind
    unfolding CameOrNone
    behind (inl bytes) =
        let through : IsReadAwake k came y rested bytes.0 read.led.handled.handled = read.through bytes.0 bytes.1 in
        record {
          carries =
              origin_bytes_carry terms waiting it.stands.number read.number x.turning.shelf k bytes.0 came y rested _ stood its.there fits calls.handles few read.led bytes.1
              (says.behind terms waiting it.stands.number read.number k bytes.0 came y rested stood (named names) read.led through);
          counts = says.counts terms waiting it.stands.number read.number k came y rested bytes.0 come.stands.obeys short come.stands.stands read.led through counted_before;
        }
    behind (inr none) = record {
      carries = origin_ends_carry terms waiting it.stands.number read.number x.turning.shelf k came y rested _ stood its.there come.came.linked calls.told fits calls.handles few noted read.led none;
      counts = as_ended it.stands.number read.number k came y rested calls.told.log stood.stands off fits calls.told.told calls.handles read.led (an_end none) counted_before;
    }

    stands : StandsHandled life budget (log ++ more) read.number y t
    stands =
        let at : IsBehind = behind found in
        record {
          obeys = went.obeys;
          allows = record { failed = failed; allowed = subst (λ (term : Term). budget ≤ term.faults) (sym went.term) it.stands.allows.allowed };
          told = told;
          handled = read.led.handled;
          ready = read.ready;
          carried = subst (λ (m : KeptMap). IsCarried m y.moving read.led.handled.handled) (sym shelf_same) at.carries.carried;
          leave = at.carries.leaves;
          supplied = supplied_behind life budget log w (Readable k) x f all faults y s it read.led.handled.handled calls.handles at.counts;
        }

    pub handled_on : IsHandledOn life budget log w (Readable k) y
    handled_on = record { added = hs; number = read.number; then = t; stands = stands }

pub origin_reads_handled : OriginReadsCome → SaysOfBytes → OriginReadsAreHandled
origin_reads_handled leads says k life budget log w x f all faults y s off short calls noted size names = handled_on leads k life budget log w x f all faults y s off short calls says noted size names
