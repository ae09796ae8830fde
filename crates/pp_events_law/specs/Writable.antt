-- The event of an origin that can be written to, whole: attempts count anew, and it is asked what is left to ask there (RFC 2616, sections 5
-- and 8.2).
--
-- Where the premises come from: as in `Asks`, of the connection as it stands at the wait.
use Rattle.std.specs.Prelude.{◌≡◌, ◌≤◌, ℕ, false, length, List, Some}
use Rattle.pp_cache.specs.Bounds.{IsBounded}
use Rattle.pp_endings_law.specs.Gone.{IsAnswering}
use Rattle.pp_law.specs.Asking.{asking, left_to_ask}
use Rattle.pp_law.specs.Connections.{conn}
use Rattle.pp_law.specs.State.{State, Answer, Conn, Exchange, Term, Awaiting, Free}
use Rattle.pp_links.specs.Links.{IsLinked}
use Rattle.pp_obeys.specs.Obeys.{Obeys}
use Rattle.pp_proxy.specs.Handling.{Handles}
use Rattle.pp_proxy.specs.Moving.{Turning}
use Rattle.pp_text.specs.Bytes.{is_empty}
use Rattle.pp_world.specs.Log.{Log}
use Rattle.pp_world.specs.declared.event.Event.TheVariants.{Writable}
use Rattle.pp_world.specs.declared.happening.Happening.TheVariants.{CanWrite}
use Rattle.pp_events_law.specs.Hears.{AreSettled}
use Rattle.pp_events_law.specs.Ready.{HasLedReadyBehind}
use Rattle.pp_events_law.specs.Stands.{AreReadyAt, StandsAtEvent, come}

pub record MayBeAsked (k : ℕ) (x : Turning) (s : State) (j : Conn) (e : Exchange) : Type 0 where
  pub there : conn s k ≡ Some j
  pub going : j.is_closing ≡ false
  pub next : asking s k ≡ Some e
  pub some : is_empty (left_to_ask s e) ≡ false
  pub few : length j.line ≤ 16
  pub short : length e.text ≤ 16384
  pub answers : (a : Answer) → j.answer ≡ Some a → IsAnswering s j
  pub linked : IsLinked x.log x.moving.top x.moving.links
  pub settled : AreSettled x.moving.desk.state.seats.items

abbrev pub OriginWritesLead : Type 0
OriginWritesLead = (terms : List Term) (log : Log) (number : ℕ → ℕ) (k : ℕ) (x y : Turning) (s : State) (j : Conn) (e : Exchange) → Obeys terms s log → StandsAtEvent number Awaiting Free x.moving s → AreReadyAt number x.moving s → MayBeAsked k x s j e → IsBounded y.moving.desk.state.cache
    → Handles (Writable k) (come (Writable k) x) y → HasLedReadyBehind number (CanWrite k) x y s
