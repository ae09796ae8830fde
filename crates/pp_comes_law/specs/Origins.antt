-- Events of connections to origins, each as it was waited for, are handled as the law has it: one breaks, as it may at any wait, can be written
-- to, or can be read (RFC 2616, sections 5, 6, 8.1, 8.1.4 and 8.2; the order is ours).
--
-- Where the premises of a read come from: `brings` is what the law alone does not give of the moments of the read (Moments). That who is
-- answered can go on to the next request is of each state of a log that is not too long: that its request has a known end, as a reply begins
-- (`keeps_open`), and that requests can be counted (CountsAreFarFromTheirEnds of `pp_laws_sides`).
use Rattle.std.specs.Prelude.{◌≡◌, ℕ, false, List, [], ◌∷◌, None}
use Rattle.pp_cache.specs.Bounds.{IsBounded}
use Rattle.pp_comes_law.specs.Awaited.{HasComeTo, IsAwaited, IsHandledBehind}
use Rattle.pp_comes_law.specs.Moments.{MayBringBeside, StandsToRead}
use Rattle.pp_comes_law.specs.Silent.{Comes}
use Rattle.pp_desk.specs.declared.desk.Desk.{Desk}
use Rattle.pp_events_law.specs.Stands.{AreReadyAt, HasLedBehind, come}
use Rattle.pp_law.specs.After.{event as event_in, owing}
use Rattle.pp_law.specs.Lists.{Bytes}
use Rattle.pp_law.specs.State.{State, Term, ReadOf}
use Rattle.pp_law.specs.Turn.{rest_with}
use Rattle.pp_proxy.specs.Handling.{Handles, Wakes}
use Rattle.pp_proxy.specs.Moving.{Turning, at_desk}
use Rattle.pp_reads_law.specs.Goes.{AllGoOn}
pub use Rattle.pp_reads_law.specs.Readable.{IsReadAwake}
use Rattle.pp_state.specs.Ends.{numbers_of, place_of}
use Rattle.pp_world.specs.Log.{AppendsAll, Log}
use Rattle.pp_world.specs.declared.event.Event.{Event}
use Rattle.pp_world.specs.declared.event.Event.TheVariants.{Broken, Readable, Writable}
use Rattle.pp_world.specs.declared.event.Wants.{Wants}
use Rattle.pp_world.specs.declared.happening.Happening.TheVariants.{CanRead, Got}

abbrev pub BrokenOnesCome : Type 0
BrokenOnesCome = (k : ℕ) → Comes (Broken k)

-- the program has no client of that number, by which it tells whose the event is
abbrev pub IsOfOrigin : ℕ → Turning → Type 0
IsOfOrigin k x = place_of k (numbers_of x.moving.desk.state.seats.items) ≡ None

abbrev pub ComesOf : ℕ → Event → Type 0
ComesOf k event = (terms : List Term) (log : Log) (number : ℕ → ℕ) (w : Wants) (x y : Turning) (u : State) → IsOfOrigin k x → IsAwaited terms log number w x u → HasComeTo log w event x → Handles event (come event x) y → IsBounded y.moving.desk.state.cache → y.moving.desk.state.is_astray ≡ false
    → IsHandledBehind number event x y (rest_with w u)

abbrev pub OriginWritesCome : Type 0
OriginWritesCome = (k : ℕ) → ComesOf k (Writable k)

-- ---- reads

-- what the bytes that come rest on, of the turn as it stands once it is woken; what is kept;
-- that the cache may have as many chunks as are set; and that who is answered can go on to the next request
pub record MayBringBytes (k : ℕ) (x y : Turning) (s : State) : Type 0 where
  pub brings : (woken : Desk) → Wakes k x.moving.desk woken → MayBringBeside k (at_desk woken x) y (event_in (owing (ReadOf k) k s))
  pub disk : StandsToRead x.shelf s
  -- where any came
  pub size : (bytes : Bytes) → AppendsAll x.log y.log (λ l. Got k bytes ∷ []) → x.moving.desk.state.cache.size ≡ s.settings.critical
  pub next : AllGoOn s

-- a row that came with it has a number, so that the numbers may be others. Each client that goes on can be decided
pub record IsReadBehind (k : ℕ) (x y : Turning) (s : State) : Type 0 where
  pub number : ℕ → ℕ
  pub led : HasLedBehind number (CanRead k) x y s
  pub ready : AreReadyAt number y.moving led.then
  -- bytes that came were read through
  pub through : (bytes : Bytes) → led.log ≡ Got k bytes ∷ [] → IsReadAwake k x y s bytes led.handled.handled

abbrev pub OriginReadsCome : Type 0
OriginReadsCome = (k : ℕ) (terms : List Term) (log : Log) (number : ℕ → ℕ) (w : Wants) (x y : Turning) (u : State) → IsOfOrigin k x → IsAwaited terms log number w x u → HasComeTo log w (Readable k) x → MayBringBytes k x y (rest_with w u)
    → Handles (Readable k) (come (Readable k) x) y → IsBounded y.moving.desk.state.cache → y.moving.desk.state.is_astray ≡ false → IsReadBehind k x y (rest_with w u)
