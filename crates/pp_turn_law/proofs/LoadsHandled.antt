-- From the end of a turn, over its wait, to where a client is written to whose next byte is on the disk alone.
use Rattle.std.proofs.Common.{◌≡◌, ◌≤◌, ◌⊎◌, inl, inr, refl, sym, subst, ap, ◌∙◌, ℕ, ◌+◌, false, [], ◌∷◌, ◌++◌, length, List, Option, Some, arith}
use Rattle.std.specs.Prelude.{count_by, slice_get}
use Rattle.pp_cache.specs.Bounds.{IsBounded}
use Rattle.pp_cache.specs.Memory.{Memory}
use Rattle.pp_cache_law.proofs.PairLemmas.{count_first}
use Rattle.pp_comes_law.proofs.CanWrite.{alike, obeys as obeys_owed, owed}
use Rattle.pp_comes_law.proofs.ClientWrites.{its, loaded, may_load, says as says_now}
use Rattle.pp_comes_law.specs.ClientWrites.{CanBeLoaded, CanBeWritten, at_write}
use Rattle.pp_desk.proofs.DiskLemmas.{holds_over_wait}
use Rattle.pp_desk.specs.declared.desk.Desk.{Desk}
use Rattle.pp_due.specs.OnDisk.{next_on_disk}
use Rattle.pp_events_law.specs.Loads.{HasLostChunk, MayLoad}
use Rattle.pp_events_law.specs.Losses.{at_disk, without_entry}
use Rattle.pp_events_law.proofs.ReadyBehind.{given_on}
use Rattle.pp_events_law.specs.Ready.{HasLedReady, KeysAreGiven}
use Rattle.pp_events_law.specs.Stands.{AreReadyAt, IsHandled, come as come_to}
use Rattle.pp_events_law.specs.Woken.{IsOwed}
use Rattle.pp_evicting_law.specs.Evicting.{IsDoneWithEvent}
use Rattle.pp_given_law.proofs.CountedWrites.{as_lost, as_owed, as_said}
use Rattle.pp_given_law.specs.Writes.{AreOfWrite}
use Rattle.pp_joints_law.proofs.Done.{handled_done}
use Rattle.pp_joints_law.proofs.LawLosses.{IsLessOne, entry_less}
use Rattle.pp_joints_law.proofs.LoadedSo.{HasReadBack, loads_carry, read_back as read_back_of}
use Rattle.pp_joints_law.proofs.Losses.{losses_carry}
use Rattle.pp_joints_law.proofs.Near.{IsOfSame, memory_near}
use Rattle.pp_joints_law.proofs.OwedSo.{writes_owed}
use Rattle.pp_joints_law.proofs.ToLoad.{carried_on_disk}
use Rattle.pp_joints_law.specs.Behind.{CarriesOn, HasFew, StandsBefore}
use Rattle.pp_joints_law.specs.BehindLosses.{StandsOwed}
use Rattle.pp_law.specs.After.{after}
use Rattle.pp_law.specs.Followers.{give_up_asks}
use Rattle.pp_law.specs.Phases.{ending, next}
use Rattle.pp_law.specs.Replies.{regained}
use Rattle.pp_conf.specs.Conf.{Settings}
use Rattle.pp_law.specs.State.{State, Conn, Term, WriteTo}
use Rattle.pp_law.specs.Turn.{rest_with}
use Rattle.pp_laws_sides.proofs.Linked.{links_few}
use Rattle.pp_laws_sides.specs.Counts.{IsShortLog}
use Rattle.pp_laws_turn.proofs.Laws.{sound_turns}
use Rattle.pp_laws_versions.proofs.Laws.{found_have_one}
use Rattle.pp_links.specs.Links.{IsLinked}
use Rattle.pp_obeys.proofs.Frames.{Frame}
use Rattle.pp_obeys.proofs.StaysTurns.{ending-frame}
use Rattle.pp_obeys.proofs.Moving.{lead_joined}
use Rattle.pp_obeys.specs.Failures.{fails}
use Rattle.pp_obeys.specs.Moves.{Leads}
use Rattle.pp_obeys.specs.Obeys.{Life, Obeys}
use Rattle.pp_places_law.proofs.Links.{as_many}
use Rattle.pp_proxy.specs.Awaiting.{Standing}
use Rattle.pp_proxy.specs.Handling.{SaysAt}
use Rattle.pp_proxy.specs.Moving.{Turning, at_desk}
use Rattle.pp_reads_law.proofs.KeysGiven.{events_give}
use Rattle.pp_rounds_law.proofs.Coming.{none_fail}
use Rattle.pp_rounds_law.specs.Coming.{ComesTo}
use Rattle.pp_seats.specs.declared.seat.Next.{Next}
use Rattle.pp_seats.specs.declared.seat.Seat.{Seat}
use Rattle.pp_state.specs.Ends.{numbers_of, place_of}
use Rattle.pp_stays_law.specs.Turns.{AreCounted}
use Rattle.pp_target.specs.Name.{name_of}
use Rattle.pp_turn_law.proofs.Along.{then_done, then_more}
use Rattle.pp_turn_law.proofs.CallsHandled.{told_then}
use Rattle.pp_turn_law.proofs.HandledSo.{before as before_of, come_so, same_conns, supplied_before, supplied_behind, waited as waited_of}
use Rattle.pp_turn_law.proofs.LoadsCounted.{says_counted}
use Rattle.pp_turn_law.proofs.LostLaw.{IsBesideDisk, without_beside}
use Rattle.pp_turn_law.proofs.OfCalls.{wrote_of}
use Rattle.pp_turn_law.proofs.WholeChunks.{are_whole}
use Rattle.pp_turn_law.specs.Awaited.{HasComeBehind, awaiting}
use Rattle.pp_turn_law.specs.Called.{Calls, ClientLoadsAreHandled, IsLostOn, StandsToLoad}
use Rattle.pp_turn_law.specs.Handled.{IsHandledOn, Turns}
use Rattle.pp_turn_law.specs.Supplied.{StandsGiven}
use Rattle.pp_turn_law.specs.Waited.{HasWaitedOn}
use Rattle.pp_world.specs.Log.{AppendsAll, Log}
use Rattle.pp_world.specs.declared.event.Event.TheVariants.{Writable}
use Rattle.pp_world.specs.declared.event.Wants.{Wants}
use Rattle.pp_world.specs.declared.happening.Happening.TheVariants.{CanWrite, Noted, Unread, Waits}
use Rattle.pp_world.specs.declared.note.Remark.TheVariants.{Gone}

-- so many failures are allowed still, and counted
enough_left : (now was base before faults count y budget most : ℕ) → now ≡ was → was + base ≤ before → before ≤ faults → faults + count ≤ y → y ≤ budget + base → budget ≤ most → now + count ≤ most
enough_left now was base before faults count y budget most h1 h2 h3 h4 h5 h6 = omega (arith, h1, h2, h3, h4, h5, h6)

counted_now : (now was base before faults count y : ℕ) → now ≡ was + count → was + base ≤ before → before ≤ faults → faults + count ≤ y → now + base ≤ y
counted_now now was base before faults count y h1 h2 h3 h4 = omega (arith, h1, h2, h3, h4)

none_more : (n : ℕ) → 0 + n ≡ n
none_more n = omega arith

module _ (id i : ℕ) (seat : Seat) (next_there : Next) (life : Life) (budget : ℕ) (log : Log) (w : Wants) (x : Standing) (f : Desk) (all : Log) (faults : ℕ) (y : Turning) (s : State) (place : place_of id (numbers_of f.state.seats.items) ≡ Some i) (here : slice_get f.state.seats.items i ≡ Some seat)
    (alone : next_on_disk f.state seat ≡ Some next_there) (short : IsShortLog (log ++ Waits w ∷ [])) (calls : Calls life budget log w (Writable id) x f all faults y s) (load : StandsToLoad life budget x y s) where
  abbrev it : Turns life budget log w (Writable id) x f all faults y s
  it = calls.turns

  abbrev terms : List Term
  terms = life.terms budget

  abbrev number : ℕ → ℕ
  number = it.stands.number

  abbrev waiting : Log
  waiting = log ++ Waits w ∷ []

  abbrev came : Turning
  came = awaiting x f all faults

  abbrev rested : State
  rested = rest_with w (ending s)

  come : HasComeBehind life budget log number w (Writable id) x f all faults s
  come = come_so life budget log w (Writable id) x f all faults y s it

  waited : HasWaitedOn life budget log x w it.clients f number s
  waited = waited_of life budget log w (Writable id) x f all faults y s it

  before : StandsBefore terms waiting number x.turning.shelf came.moving rested
  before = before_of life budget log w (Writable id) x f all faults y s it

  can : CanBeWritten id i seat waiting w came
  can = record { place = place; here = here; came = come.came; short = short }

  -- ---- memory and the disk, where the event comes

  same_cache : f.state.cache ≡ x.turning.moving.desk.state.cache
  same_cache = ap (λ (d : Desk). d.state.cache) it.rests.rest ∙ ap (λ (d : Desk). d.state.cache) it.awaits.rest

  bounded : IsBounded f.state.cache
  bounded = subst IsBounded (sym same_cache) load.bounded

  same_settings : rested.settings ≡ s.settings
  unfolding rest_with
  same_settings = ap (λ (z : Frame). z.settings) (ending-frame false s)

  can_load : CanBeLoaded came y rested
  can_load = record {
    disk = carried_on_disk terms waiting x.turning.shelf came.moving rested come.stands.obeys waited.carried (found_have_one terms rested waiting come.stands.obeys) (are_whole terms waiting number f.state.cache rested come.stands.obeys come.stands.stands.desk.turn.steps.shows.table.table bounded);
    holds = holds_over_wait w (Writable id) x.turning.shelf it.comes.told load.holds;
    size = ap (λ (m : Memory). m.size) same_cache ∙ load.size ∙ sym (ap (λ (c : Settings). c.critical) same_settings);
    log = calls.told.log;
    told = calls.told.told;
  }

  -- ---- where the write is owed

  abbrev woken : Desk
  woken = calls.handles.woken

  abbrev at : Turning
  at = at_desk woken came

  abbrev v : State
  v = at_write id rested

  says : SaysAt i at y
  says = says_now id i seat terms waiting number w came y (ending s) come.stands can calls.handles it.bounded

  owes : IsOwed number (WriteTo id) (CanWrite id) at.moving rested v
  owes = owed id i seat terms waiting number w came (ending s) come.stands can woken calls.handles.wakes

  obeys : Obeys terms v (waiting ++ CanWrite id ∷ [])
  obeys = obeys_owed id i seat terms waiting number w came (ending s) come.stands can woken calls.handles.wakes

  few_owed : HasFew at.moving
  few_owed =
      let links : length at.moving.links ≤ length v.clients + length v.conns = links_few terms v (waiting ++ CanWrite id ∷ []) at.moving.top at.moving.links obeys (subst (λ (l : Option Log). IsLinked l at.moving.top at.moving.links) come.came.told come.came.linked) in
      let clients : length v.clients ≤ 256 = (sound_turns terms v (waiting ++ CanWrite id ∷ []) obeys).bounded.clients in
      let peers : length at.moving.desk.peers ≡ length v.conns = as_many v at.moving.desk.peers v.conns owes.stands.desk.turn.steps.shows.conns in
      omega (arith, links, clients, peers)

  carried_owed : StandsOwed x.turning.shelf at.moving v
  carried_owed = writes_owed terms waiting number x.turning.shelf id came.moving woken rested before calls.handles.wakes few_owed owes

  -- ---- behind it

  counts : (hs : Log) → AppendsAll at.log y.log (λ l. hs) → faults + count_by fails hs ≤ y.faults
  counts hs added = says_counted i at y says calls.told.log hs calls.told.told added

  one_more : (hs : Log) → count_by fails (CanWrite id ∷ hs) ≡ count_by fails hs
  one_more hs = count_first fails (CanWrite id) hs ∙ none_more (count_by fails hs)

  rested_failures : rested.failures ≡ s.failures
  rested_failures = let none : count_by fails (Waits w ∷ []) ≡ 0 = refl in omega (arith, waited.comes.failures, none)

  enough : (n : ℕ) → faults + n ≤ y.faults → rested.failures + n ≤ rested.term.faults
  enough n count =
      subst (λ (term : Term). rested.failures + n ≤ term.faults) (sym waited.comes.term)
      (enough_left rested.failures s.failures life.base x.turning.faults faults n y.faults budget s.term.faults rested_failures it.stands.allows.failed it.counted count load.few it.stands.allows.allowed)

  -- how many are open there
  few_at : (t : State) (hs : Log) → Obeys terms t (log ++ hs) → y.log ≡ Some (log ++ hs) → (u : State) → IsHandled number y.moving u → length t.conns ≡ length u.conns → HasFew y.moving
  few_at t hs obeys_t told u at_u conns_same =
      let links : length y.moving.links ≤ length t.clients + length t.conns = links_few terms t (log ++ hs) y.moving.top y.moving.links obeys_t (subst (λ (l : Option Log). IsLinked l y.moving.top y.moving.links) told calls.linked) in
      let clients : length t.clients ≤ 256 = (sound_turns terms t (log ++ hs) obeys_t).bounded.clients in
      let peers : length y.moving.desk.peers ≡ length at_u.handled.conns = as_many at_u.handled y.moving.desk.peers at_u.handled.conns at_u.stands.desk.turn.steps.shows.conns in
      let conns : length u.conns ≡ length at_u.handled.conns = ap (λ (ks : List Conn). length ks) (same_conns at_u.handled u at_u.anew) in
      omega (arith, links, clients, peers, conns, conns_same)

  -- memory was given for each head that was read
  given : KeysAreGiven at.moving.desk.state.seats.items y.moving.desk.state.seats.items
  given = given_on came at y (alike id i seat terms waiting number w came (ending s) come.stands can woken calls.handles.wakes) ((events_give (Writable id) (come_to (Writable id) came) y (omega (arith, come.stands.buffer, come.stands.holds)) calls.handles).given it.straight)

  may_load_it : MayLoad id i at y (its id i seat terms waiting number w came y (ending s) come.stands can calls.handles it.bounded) next_there v
  may_load_it = may_load id i seat terms waiting number w came y (ending s) come.stands can calls.handles it.bounded next_there alone can_load

  -- of what is dropped as much is counted as came
  counted_owed : AreCounted at.moving.desk.state v
  counted_owed = as_owed (WriteTo id) id f woken rested calls.handles.wakes (supplied_before life budget log w (Writable id) x f all faults y s it).counted

  supplied : (u : State) → AreCounted y.moving.desk.state u → StandsGiven y.moving.desk.state u
  supplied u counted = supplied_behind life budget log w (Writable id) x f all faults y s it u calls.handles counted

  -- ---- it was read

  module _ (led : HasLedReady number at y v) where
    ready : AreReadyAt number y.moving led.led.then
    ready = led.ready given

    leads : Leads (CanWrite id ∷ led.led.log) rested led.led.then
    leads = lead_joined (CanWrite id ∷ []) led.led.log rested v led.led.then owes.leads led.led.handled.leads

    count : faults + count_by fails (CanWrite id ∷ led.led.log) ≤ y.faults
    count = subst (λ (n : ℕ). faults + n ≤ y.faults) (sym (one_more led.led.log)) (counts led.led.log led.led.handled.told)

    told : y.log ≡ Some (log ++ (Waits w ∷ CanWrite id ∷ led.led.log))
    told = told_then log calls.told.log led.led.log (Waits w) (CanWrite id) (Some all) y.log come.came.told calls.told.told led.led.handled.told

    went : ComesTo terms log (Waits w ∷ CanWrite id ∷ led.led.log) s led.led.then
    went = then_more terms log (Waits w ∷ []) (CanWrite id ∷ led.led.log) s rested led.led.then waited.comes (λ some. enough (count_by fails (CanWrite id ∷ led.led.log)) count) leads

    failed : led.led.then.failures + life.base ≤ y.faults
    failed =
        let n : count_by fails (Waits w ∷ CanWrite id ∷ led.led.log) ≡ count_by fails (CanWrite id ∷ led.led.log) = count_first fails (Waits w) (CanWrite id ∷ led.led.log) ∙ none_more (count_by fails (CanWrite id ∷ led.led.log)) in
        counted_now led.led.then.failures s.failures life.base x.turning.faults faults (count_by fails (CanWrite id ∷ led.led.log)) y.faults (went.failures ∙ ap (λ (m : ℕ). s.failures + m) n) it.stands.allows.failed it.counted count

    few : HasFew y.moving
    few = few_at led.led.then (Waits w ∷ CanWrite id ∷ led.led.log) went.obeys told led.led.then led.led.handled.handled refl

    read_back : HasReadBack says.says.between y.log may_load_it.log led.led.log
    read_back =
        read_back_of terms (waiting ++ CanWrite id ∷ []) number id i at y (its id i seat terms waiting number w came y (ending s) come.stands can calls.handles it.bounded) next_there v come.came.told obeys owes.stands may_load_it says says.says.bounded carried_owed few led.led

    only_of_write : AreOfWrite led.led.log
    only_of_write = subst AreOfWrite (sym read_back.is) (refl, wrote_of i at y may_load_it.log may_load_it.told says read_back.wrote)

    carries : CarriesOn y.shelf y.moving led.led.handled.handled.handled
    carries =
        loads_carry terms (waiting ++ CanWrite id ∷ []) number id i at y (its id i seat terms waiting number w came y (ending s) come.stands can calls.handles it.bounded) next_there v come.came.told obeys owes.stands may_load_it says says.says.bounded
        carried_owed few led.led

    read_on : IsHandledOn life budget log w (Writable id) y
    read_on = record {
      added = led.led.log;
      number = number;
      then = led.led.then;
      stands = record {
        obeys = went.obeys;
        allows = record { failed = failed; allowed = subst (λ (term : Term). budget ≤ term.faults) (sym went.term) it.stands.allows.allowed };
        told = told;
        handled = led.led.handled.handled;
        ready = ready;
        carried = carries.carried;
        leave = carries.leaves;
        supplied = supplied led.led.handled.handled.handled (as_said number id i at y v owes.stands says led.led only_of_write counted_owed);
      };
    }

  -- ---- it could not be

  module _ (lost : HasLostChunk number at y v) where
    abbrev hs : Log
    hs = Unread (name_of lost.key) ∷ Noted (Gone lost.key) ∷ []

    abbrev t : State
    t = at_disk (without_entry lost.key v)

    lost_count : faults + 1 ≤ y.faults
    lost_count = counts hs lost.told

    lost_told : y.log ≡ Some (log ++ (Waits w ∷ CanWrite id ∷ hs))
    lost_told = told_then log calls.told.log hs (Waits w) (CanWrite id) (Some all) y.log come.came.told calls.told.told lost.told

    abbrev read : State
    read = after v (Unread (name_of lost.key))

    owed_on : ComesTo terms log (Waits w ∷ CanWrite id ∷ []) s v
    owed_on = then_more terms log (Waits w ∷ []) (CanWrite id ∷ []) s rested v waited.comes (none_fail rested (count_by fails (CanWrite id ∷ [])) refl) owes.leads

    read_once : ComesTo terms log (Waits w ∷ CanWrite id ∷ Unread (name_of lost.key) ∷ []) s read
    read_once = then_more terms log (Waits w ∷ CanWrite id ∷ []) (Unread (name_of lost.key) ∷ []) s v read owed_on (λ some. owed_enough) (record { awake = lost.leads.awake; may = lost.leads.may; holds = refl })
      where
        owed_enough : v.failures + 1 ≤ v.term.faults
        owed_enough =
            subst (λ (term : Term). v.failures + 1 ≤ term.faults) (sym owed_on.term)
            (let none : count_by fails (Waits w ∷ CanWrite id ∷ []) ≡ 0 = refl in let same : v.failures ≡ s.failures = (let n : v.failures ≡ s.failures + count_by fails (Waits w ∷ CanWrite id ∷ []) = owed_on.failures in omega (arith, n, none)) in
            enough_left v.failures s.failures life.base x.turning.faults faults 1 y.faults budget s.term.faults same it.stands.allows.failed it.counted lost_count load.few it.stands.allows.allowed)

    at_keeping : ComesTo terms log (Waits w ∷ CanWrite id ∷ Unread (name_of lost.key) ∷ []) s (next (next read))
    at_keeping =
        let handled_done : ComesTo terms log (Waits w ∷ CanWrite id ∷ Unread (name_of lost.key) ∷ []) s (next read) = then_done terms log (Waits w ∷ CanWrite id ∷ Unread (name_of lost.key) ∷ []) s read read_once lost.leads.holds.done in
        then_done terms log (Waits w ∷ CanWrite id ∷ Unread (name_of lost.key) ∷ []) s (next read) handled_done lost.leads.holds.holds.done

    lost_went : ComesTo terms log (Waits w ∷ CanWrite id ∷ hs) s t
    lost_went = then_more terms log (Waits w ∷ CanWrite id ∷ Unread (name_of lost.key) ∷ []) (Noted (Gone lost.key) ∷ []) s (next (next read)) t at_keeping (none_fail (next (next read)) (count_by fails (Noted (Gone lost.key) ∷ [])) refl)
        (record { awake = lost.leads.holds.holds.holds.awake; may = lost.leads.holds.holds.holds.may; holds = lost.leads.holds.holds.holds.holds })

    lost_failed : t.failures + life.base ≤ y.faults
    lost_failed =
        let one : count_by fails (Waits w ∷ CanWrite id ∷ hs) ≡ 1 = refl in
        counted_now t.failures s.failures life.base x.turning.faults faults 1 y.faults (lost_went.failures ∙ ap (λ (m : ℕ). s.failures + m) one) it.stands.allows.failed it.counted lost_count

    same_conns_lost : t.conns ≡ (without_entry lost.key v).conns
    unfolding give_up_asks
    same_conns_lost = refl

    lost_few : HasFew y.moving
    lost_few = few_at t (Waits w ∷ CanWrite id ∷ hs) lost_went.obeys lost_told (without_entry lost.key v) lost.handled (ap (λ (ks : List Conn). length ks) same_conns_lost)

    lost_carries : CarriesOn y.shelf y.moving lost.handled.handled
    lost_carries = losses_carry number id i at y v owes.stands carried_owed calls.told says lost_few lost

    -- it is as it was owed but for the disk
    beside : IsBesideDisk v (without_entry lost.key v)
    beside = without_beside lost.key v owes.stands.law.at may_load_it.first.anew

    of_same : IsOfSame lost.handled.handled v
    unfolding regained
    of_same = record {
      clients = sym beside.clients ∙ ap (λ (u : State). u.clients) lost.handled.anew;
      exchanges = sym beside.exchanges ∙ ap (λ (u : State). u.exchanges) lost.handled.anew;
      instances = sym beside.instances ∙ ap (λ (u : State). u.instances) lost.handled.anew;
    }

    less : IsLessOne v (without_entry lost.key v)
    less = entry_less lost.key v owes.stands.law.at

    lost_done : IsDoneWithEvent number y.moving lost.handled.handled
    lost_done = handled_done number y.moving (without_entry lost.key v) lost.handled (lost.ready given)

    lost_on : IsLostOn life budget log w id y
    lost_on = record {
      key = lost.key;
      number = number;
      then = without_entry lost.key v;
      told = lost_told;
      obeys = lost_went.obeys;
      allows = record { failed = lost_failed; allowed = subst (λ (term : Term). budget ≤ term.faults) (sym lost_went.term) it.stands.allows.allowed };
      handled = lost.handled;
      ready = lost.ready given;
      none = record { evicting = less.evicting ∙ may_load_it.first.evicting; forgotten = less.forgotten ∙ may_load_it.first.forgotten };
      may = memory_near terms (waiting ++ CanWrite id ∷ []) number y.moving lost.handled.handled v obeys of_same lost_done lost_carries.carried.set.force.floor lost_carries.leaves;
      carried = lost_carries.carried;
      supplied = supplied lost.handled.handled (as_lost number id i at y v owes.stands says lost counted_owed);
    }

  pub load_handled : IsHandledOn life budget log w (Writable id) y ⊎ IsLostOn life budget log w id y
  load_handled = by (loaded id i seat terms waiting number w came y (ending s) come.stands can calls.handles it.bounded next_there alone can_load)
    where
      by : HasLedReady number at y v ⊎ HasLostChunk number at y v → IsHandledOn life budget log w (Writable id) y ⊎ IsLostOn life budget log w id y
      by (inl led) = inl (read_on led)
      by (inr lost) = inr (lost_on lost)

pub loads_handled : ClientLoadsAreHandled
loads_handled id i seat next life budget log w x f all faults y s place here alone short calls load = load_handled id i seat next life budget log w x f all faults y s place here alone short calls load
