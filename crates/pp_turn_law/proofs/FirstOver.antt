-- The first turn of a life, to its second wait, or to where all is closed.
use Rattle.std.proofs.Common.{◌≡◌, ◌≤◌, refl, sym, subst, ap, ap₂, ◌∙◌, ℕ, true, false, cond, ◌==◌, fold, take, List, [], length, arith}
use Rattle.std.specs.Prelude.{max, min, vec_capacity}
use Rattle.pp_cache.specs.Memory.{Memory}
use Rattle.pp_conf.specs.Conf.{Settings}
use Rattle.pp_conf.specs.Shown.{shown_conf}
use Rattle.pp_conf.specs.declared.conf.Conf.{Conf}
use Rattle.pp_due.specs.Waits.{all_read, read_before, with_read}
use Rattle.pp_given_law.specs.Apart.{AreClients}
use Rattle.pp_grown_law.specs.Numbered.{AreNumbered}
use Rattle.pp_joints_law.proofs.OpenedWords.{marked_told}
use Rattle.pp_joints_law.specs.Opened.{BeginsWith}
use Rattle.pp_law.specs.Opening.{settings_in}
use Rattle.pp_law.specs.State.{State}
use Rattle.pp_laws_pool.proofs.Marks.{reading_marked}
use Rattle.pp_obeys.specs.Obeys.{Allows, Life}
use Rattle.pp_proxy.specs.Awaiting.{Standing, TurnsOn}
use Rattle.pp_proxy.specs.declared.proxy.Proxy.{Proxy}
use Rattle.pp_proxy.specs.declared.proxy.Turn.{Turn as Result}
use Rattle.pp_proxy.specs.declared.proxy.Turn.TheVariants.{Stopped, Went}
use Rattle.pp_seats.specs.declared.seat.Seat.{Seat}
use Rattle.pp_state.specs.Ends.{AreInOrder, numbers_of}
use Rattle.pp_store.specs.Kept.{KeptMap}
use Rattle.pp_world.specs.Log.{Log}
use Rattle.pp_turn_law.proofs.FirstEvents.{first_handled}
use Rattle.pp_turn_law.proofs.FirstWait.{first_wait}
use Rattle.pp_turn_law.proofs.Grown.{empty_have}
use Rattle.pp_turn_law.proofs.TurnHalf.{StandsOver}
use Rattle.pp_turn_law.proofs.TurnOver.{handled_taken, turns_over}
use Rattle.pp_turn_law.proofs.TurnStops.{stopped_at}
use Rattle.pp_turn_law.specs.First.{FirstTurnsGoOn, OpenedOnesAreSized}
use Rattle.pp_turn_law.specs.Opening.{opened_at}
use Rattle.pp_turn_law.specs.Ordered.{AreGivenTo, StandsOrdered}
use Rattle.pp_turn_law.specs.Stopping.{FirstTurnsStop}

none_in_order : AreInOrder []
none_in_order = λ i j before within. absurd (omega (arith, within))

none_numbered : AreNumbered (record { waiting = []; placed = []; begun = 0 })
none_numbered = record { order = none_in_order; once = λ n. omega arith; given = λ n least. refl }

has_room : (n cap : ℕ) → n ≡ 32768 → 32768 ≤ cap → n ≤ cap
has_room n cap is holds = omega (arith, is, holds)

module _ (life : Life) (budget : ℕ) (log : Log) (conf : Conf) (p : Proxy) (shelf : KeptMap) (top faults : ℕ) (y : Standing) (s : State) (it : BeginsWith (life.terms budget) log conf p shelf top s) (short : length p.desk.state.name.items ≤ 64) (allows : Allows life budget faults s) (result : Result) (turns : TurnsOn result (opened_at p shelf top log faults) y) where
  -- nobody stands in a wrong order
  pub ordered : StandsOrdered (opened_at p shelf top log faults).turning.moving
  ordered = record {
    seated = subst (λ (seats : List Seat). AreInOrder (numbers_of seats)) (sym it.opened.new.seats) none_in_order;
    given = subst (λ (seats : List Seat). AreGivenTo top (numbers_of seats)) (sym it.opened.new.seats) tt;
    room = has_room (length p.desk.buffer.items) (vec_capacity p.desk.«data») it.opened.buffers.buffer it.opened.buffers.bytes;
  }

  -- ---- nobody is read

  before_none : p.wants.read.items ≡ []
  before_none = it.opened.read

  none_read : all_read p.desk.state [] ≡ []
  none_read =
      ap (λ (awake : List ℕ). fold (with_read p.desk.state.seats.items) (read_before p.desk.state []) awake) it.opened.new.awake
      ∙ ap₂ (λ (awake : List ℕ) (seats : List Seat). cond {A = List ℕ} (length awake == length seats) [] []) it.opened.new.awake it.opened.new.seats

  clients_none : turns.clients ≡ 0
  clients_none = turns.awaits.first (subst (λ (ns : List ℕ). AreInOrder ns) (sym before_none) none_in_order) ∙ ap (λ (ns : List ℕ). length (all_read p.desk.state ns)) before_none ∙ ap (λ (ns : List ℕ). length ns) none_read

  take_none : take turns.clients turns.wants.read.items ≡ []
  take_none = ap (λ (n : ℕ). take n turns.wants.read.items) clients_none

  none_reads : AreClients (take turns.clients turns.wants.read.items) turns.rested
  none_reads = subst (λ (ns : List ℕ). AreClients ns turns.rested) (sym take_none) nobody_reads
    where
      nobody_reads : AreClients [] turns.rested
      nobody_reads n has = absurd (let no : false ≡ true = has in cc no)

  -- no exchange is there
  numbered : AreNumbered p.desk.state.flow
  numbered = subst AreNumbered (sym it.opened.new.flow) none_numbered

  -- ---- all of it

  over : StandsOver life budget log (opened_at p shelf top log faults) s (λ n. n) turns.wants turns.clients turns.rested turns.event
  over = record {
    log_is = refl;
    waited = first_wait life budget log conf p shelf top faults s (λ n. n) turns.wants turns.clients turns.awaiting turns.rested it short turns.awaits turns.rests;
    ordered = ordered;
    buffer = it.opened.buffers.buffer;
    holds = it.opened.buffers.bytes;
    file = it.opened.buffers.file;
    going = it.opened.new.goes;
    nothing = empty_have p.desk.state shelf (ap (λ (m : Memory). m.instances) it.opened.new.cache) (ap (λ (m : Memory). m.grown) it.opened.new.cache);
    handled = λ event is all now h taken brief less. handled_taken life budget log turns.wants event h (first_handled event life budget log conf p shelf top faults turns.wants turns.rested all now h s (record {
      begins = it;
      name = short;
      allows = allows;
      clients = turns.clients;
      awaiting = turns.awaiting;
      awaits = turns.awaits;
      rests = turns.rests;
      comes = taken.comes;
      counted = taken.counted;
      bounded = taken.bounded;
      straight = taken.straight;
    }) taken.handles);
    read = none_reads;
  }

pub first_turns : FirstTurnsGoOn
first_turns life budget log after conf p shelf top faults y s it short size allows turns well told few brief =
    turns_over life budget log after (opened_at p shelf top log faults) y s (λ n. n) turns (over life budget log conf p shelf top faults y s it short allows Went turns) well told few brief (numbered life budget log conf p shelf top faults y s it short allows Went turns) size

-- ---- so many chunks as are set

mark_in : (n : ℕ) → 512 ≤ n → n ≤ 65536 → min (max n 512) 65536 ≡ n
mark_in n least most = omega (arith, least, most)

pub opened_sized : OpenedOnesAreSized
opened_sized terms words text log conf p shelf top s set it =
    ap (λ (m : Memory). m.size) it.opened.new.cache
    ∙ mark_in conf.critical (reading_marked words text (shown_conf conf) (ap settings_in set.says)) (marked_told words text (shown_conf conf) set.says)
    ∙ sym (ap (λ (c : Settings). c.critical) it.stands.opens.settings)

-- ---- Stop comes at once

pub first_stop : FirstTurnsStop
first_stop life budget log after conf p shelf top faults y s it short allows turns well told few brief =
    stopped_at life budget log after (opened_at p shelf top log faults) y s (λ n. n) turns (over life budget log conf p shelf top faults y s it short allows Stopped turns) well told few brief
