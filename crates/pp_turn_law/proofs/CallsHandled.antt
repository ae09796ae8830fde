-- From the end of a turn, over its wait, to where a read or a write is handled.
use Rattle.std.proofs.Common.{◌≡◌, refl, sym, ap, ◌∙◌, ℕ, Bool, cond, [], ◌∷◌, ◌++◌, append_assoc, Option, Some, arith}
use Rattle.std.specs.Prelude.{count_by}
use Rattle.pp_cache_law.proofs.PairLemmas.{count_first}
use Rattle.pp_comes_law.proofs.ClientReads.{client_reads_come}
use Rattle.pp_comes_law.proofs.ClientWrites.{client_writes_come}
use Rattle.pp_comes_law.proofs.OriginWrites.{origin_writes_come, wanted}
use Rattle.pp_comes_law.proofs.WokenOnes.{written_ones_wake}
use Rattle.pp_comes_law.specs.Awaited.{IsHandledBehind}
use Rattle.pp_comes_law.specs.ClientWrites.{CanBeWritten, IsWokenAs}
use Rattle.pp_given_law.proofs.CountedReads.{as_heard}
use Rattle.pp_given_law.proofs.CountedWrites.{as_written}
use Rattle.pp_joints_law.proofs.Carries.{asked_asks, asked_silent, client_reads_carry, client_writes_carry, heard_hears, heard_silent, origin_writes_carry, written_now, written_silent}
use Rattle.pp_joints_law.proofs.ClearedAll.{BringNone, brings_none}
use Rattle.pp_joints_law.proofs.LawBehind.{never_fails}
use Rattle.pp_joints_law.specs.BehindReads.{HoldsNext}
use Rattle.pp_law.specs.Phases.{ending}
use Rattle.pp_law.specs.Turn.{rest_with}
use Rattle.pp_laws.proofs.Tests.{first_holds, second_holds}
use Rattle.pp_obeys.specs.Failures.{fails}
use Rattle.pp_proxy.specs.Moving.{at_desk}
use Rattle.pp_turn_law.proofs.HandledSo.{before, come_so, handled_on, supplied_before}
use Rattle.pp_turn_law.proofs.Kept.{some_log}
use Rattle.pp_turn_law.proofs.OfCalls.{asked_of, heard_of, written_of}
use Rattle.pp_turn_law.specs.Awaited.{HasComeBehind, awaiting}
use Rattle.pp_turn_law.specs.Called.{ClientReadsAreHandled, ClientWritesAreHandled, OriginWritesAreHandled}
use Rattle.pp_world.specs.Log.{AppendsAll, Log}
use Rattle.pp_world.specs.declared.event.Event.TheVariants.{Readable, Writable}
use Rattle.pp_world.specs.declared.happening.Happening.{Happening}
use Rattle.pp_world.specs.declared.happening.Happening.TheVariants.{CanRead, CanWrite, Waits}

-- ---- the log

pub none_fails : (hs : Log) → BringNone hs → count_by fails hs ≡ 0
none_fails [] none = refl
none_fails (h ∷ hs) none =
    let first : ◌≡◌ {A = ℕ} (cond (fails h) 1 0) 0 = ap (λ (b : Bool). cond b 1 0) (never_fails h (first_holds (brings_none h) _ none)) in
    let rest : count_by fails hs ≡ 0 = none_fails hs (second_holds (brings_none h) _ none) in
    omega (arith, count_first fails h hs, first, rest)

-- behind the event it has what was added there
pub told_then : (log now hs : Log) (wait h : Happening) (old new : Option Log) → old ≡ Some ((log ++ wait ∷ []) ++ h ∷ []) → new ≡ Some now → AppendsAll old new (λ l. hs) → new ≡ Some (log ++ (wait ∷ h ∷ hs))
told_then log now hs wait h old new before told added =
    let was : (l : Log) × (old ≡ Some l) × (now ≡ l ++ hs) = added.was now told in
    told ∙ ap (λ (l : Log). Some l)
    (was.2 ∙ ap (λ (l : Log). l ++ hs) (some_log was.0 ((log ++ wait ∷ []) ++ h ∷ []) (sym was.1 ∙ before)) ∙ append_assoc (log ++ wait ∷ []) (h ∷ []) hs ∙ append_assoc log (wait ∷ []) (h ∷ hs))

-- ---- a client is read

pub client_reads_handled : ClientReadsAreHandled
client_reads_handled id i life budget log w x f all faults y s place calls =
    let it = calls.turns in
    let come : HasComeBehind life budget log it.stands.number w (Readable id) x f all faults s = come_so life budget log w (Readable id) x f all faults y s it in
    let before = before life budget log w (Readable id) x f all faults y s it in
    let led : IsHandledBehind it.stands.number (Readable id) (awaiting x f all faults) y (rest_with w (ending s)) =
    client_reads_come id i (life.terms budget) (log ++ Waits w ∷ []) it.stands.number w (awaiting x f all faults) y (ending s) place come.stands come.came calls.handles it.bounded it.straight in
    let hears = heard_hears (life.terms budget) (log ++ Waits w ∷ []) it.stands.number x.turning.shelf id i (awaiting x f all faults) y (rest_with w (ending s)) before place come.came.linked calls.told calls.handles led.led in
    let silent = heard_silent (life.terms budget) (log ++ Waits w ∷ []) it.stands.number x.turning.shelf id i (awaiting x f all faults) y (rest_with w (ending s)) before place come.came.linked calls.told calls.handles led.led in
    handled_on life budget log w (Readable id) x f all faults y s it led.led.then led.led.log hears.one.shelf hears.one.count
    (told_then log calls.told.log led.led.log (Waits w) (CanRead id) (Some all) y.log come.came.told calls.told.told led.led.told) calls.linked led.led.leads led.led.handled led.ready
    (let none : count_by fails led.led.log ≡ 0 = none_fails led.led.log silent.none in omega (arith, count_first fails (CanRead id) led.led.log, none))
    (λ few. client_reads_carry (life.terms budget) (log ++ Waits w ∷ []) it.stands.number x.turning.shelf id i (awaiting x f all faults) y (rest_with w (ending s)) before place come.came.linked calls.told calls.handles few led.led)
    calls.handles (as_heard it.stands.number id i (awaiting x f all faults) y (rest_with w (ending s)) before.stands place calls.handles led.led (heard_of (life.terms budget) (log ++ Waits w ∷ []) it.stands.number x.turning.shelf id i (awaiting x f all faults) y (rest_with w (ending s)) before place come.came.linked calls.told calls.handles led.led)
    (supplied_before life budget log w (Readable id) x f all faults y s it).counted)

-- ---- a client is written to

pub client_writes_handled : ClientWritesAreHandled
client_writes_handled id i seat life budget log w x f all faults y s place here held short calls =
    let it = calls.turns in
    let come : HasComeBehind life budget log it.stands.number w (Writable id) x f all faults s = come_so life budget log w (Writable id) x f all faults y s it in
    let before = before life budget log w (Writable id) x f all faults y s it in
    let can : CanBeWritten id i seat (log ++ Waits w ∷ []) w (awaiting x f all faults) = record { place = place; here = here; came = come.came; short = short } in
    let woke : IsWokenAs id i seat (awaiting x f all faults) = written_ones_wake id i seat (life.terms budget) (log ++ Waits w ∷ []) it.stands.number w (awaiting x f all faults) y (ending s) come.stands can calls.handles in
    let holds : HoldsNext id i (awaiting x f all faults) woke.new = record { place = place; here = woke.here; held = λ woken wakes. woke.next woken wakes ∙ held } in
    let led : IsHandledBehind it.stands.number (Writable id) (awaiting x f all faults) y (rest_with w (ending s)) =
    client_writes_come id i seat (life.terms budget) (log ++ Waits w ∷ []) it.stands.number w (awaiting x f all faults) y (ending s) come.stands can held calls.handles it.bounded it.straight in
    let now = written_now (life.terms budget) (log ++ Waits w ∷ []) it.stands.number x.turning.shelf id i (awaiting x f all faults) y woke.new (rest_with w (ending s)) before holds calls.told calls.handles led.led in
    let silent = written_silent (life.terms budget) (log ++ Waits w ∷ []) it.stands.number x.turning.shelf id i (awaiting x f all faults) y woke.new (rest_with w (ending s)) before holds calls.told calls.handles led.led in
    handled_on life budget log w (Writable id) x f all faults y s it led.led.then led.led.log now.shelf now.counted
    (told_then log calls.told.log led.led.log (Waits w) (CanWrite id) (Some all) y.log come.came.told calls.told.told led.led.told) calls.linked led.led.leads led.led.handled led.ready
    (let none : count_by fails led.led.log ≡ 0 = none_fails led.led.log silent.none in omega (arith, count_first fails (CanWrite id) led.led.log, none))
    (λ few. client_writes_carry (life.terms budget) (log ++ Waits w ∷ []) it.stands.number x.turning.shelf id i (awaiting x f all faults) y woke.new (rest_with w (ending s)) before holds calls.told calls.handles few led.led)
    calls.handles
    (as_written it.stands.number id (awaiting x f all faults) y (rest_with w (ending s)) before.stands calls.handles led.led
    (written_of (life.terms budget) (log ++ Waits w ∷ []) it.stands.number x.turning.shelf id i (awaiting x f all faults) y woke.new (rest_with w (ending s)) before holds calls.told calls.handles led.led)
    (supplied_before life budget log w (Writable id) x f all faults y s it).counted)

-- ---- an origin is asked

pub origin_writes_handled : OriginWritesAreHandled
origin_writes_handled k life budget log w x f all faults y s off calls noted =
    let it = calls.turns in
    let come : HasComeBehind life budget log it.stands.number w (Writable k) x f all faults s = come_so life budget log w (Writable k) x f all faults y s it in
    let before = before life budget log w (Writable k) x f all faults y s it in
    let its = wanted (life.terms budget) (log ++ Waits w ∷ []) it.stands.number w (awaiting x f all faults) (ending s) come.stands k off come.came in
    let led : IsHandledBehind it.stands.number (Writable k) (awaiting x f all faults) y (rest_with w (ending s)) =
    origin_writes_come k (life.terms budget) (log ++ Waits w ∷ []) it.stands.number w (awaiting x f all faults) y (ending s) off come.stands come.came calls.handles it.bounded it.straight in
    let asks = asked_asks (life.terms budget) (log ++ Waits w ∷ []) it.stands.number x.turning.shelf k (awaiting x f all faults) y (rest_with w (ending s)) _ before its.there calls.told calls.handles noted led.led in
    let silent = asked_silent (life.terms budget) (log ++ Waits w ∷ []) it.stands.number x.turning.shelf k (awaiting x f all faults) y (rest_with w (ending s)) _ before its.there calls.told calls.handles noted led.led in
    handled_on life budget log w (Writable k) x f all faults y s it led.led.then led.led.log asks.one.shelf asks.one.count
    (told_then log calls.told.log led.led.log (Waits w) (CanWrite k) (Some all) y.log come.came.told calls.told.told led.led.told) calls.linked led.led.leads led.led.handled led.ready
    (let none : count_by fails led.led.log ≡ 0 = none_fails led.led.log silent.none in omega (arith, count_first fails (CanWrite k) led.led.log, none))
    (λ few. origin_writes_carry (life.terms budget) (log ++ Waits w ∷ []) it.stands.number x.turning.shelf k (awaiting x f all faults) y (rest_with w (ending s)) _ before its.there calls.told calls.handles few noted led.led)
    calls.handles
    (as_written it.stands.number k (awaiting x f all faults) y (rest_with w (ending s)) before.stands calls.handles led.led
    (asked_of k (awaiting x f all faults) (at_desk calls.handles.woken (awaiting x f all faults)) y led.led.log calls.told led.led.told refl asks) (supplied_before life budget log w (Writable k) x f all faults y s it).counted)
