-- An origin is asked what is left to ask on its connection: of a text, or of the body of a request as it was heard (RFC 2616, sections 5
-- and 8.2). Where the write fails, the connection is gone (section 8.1.4).
--
-- Where the premises come from: the log obeys the law up to where the write is owed. What is asked is there, as the wait wanted the
-- connection (`has_to_ask`); nobody is closing at a wait, and no reply is over (`AreSettled`). That attempts count anew no more is
-- `RegainsOnce` of pp_turns_law, of what `event` leaves. No line is longer than 8 (IsSoundTurn, `bounded`), nor a text than 16,384 (`Entry` of
-- pp_flow). Whose response was begun is as in `Breaks`.
use Rattle.std.specs.Prelude.{◌≡◌, ◌≤◌, ℕ, false, length, List, Some}
use Rattle.pp_cache.specs.Bounds.{IsBounded}
use Rattle.pp_endings_law.specs.Gone.{IsAnswering}
use Rattle.pp_law.specs.Asking.{asking, left_to_ask}
use Rattle.pp_law.specs.Connections.{conn}
use Rattle.pp_law.specs.Replies.{regained}
use Rattle.pp_law.specs.State.{State, Answer, Conn, Exchange, Term, Handling, WriteTo}
use Rattle.pp_links.specs.Links.{IsLinked}
use Rattle.pp_obeys.specs.Obeys.{Obeys}
use Rattle.pp_proxy.specs.Handling.{AsksOn}
use Rattle.pp_proxy.specs.Moving.{Turning}
use Rattle.pp_text.specs.Bytes.{is_empty}
use Rattle.pp_world.specs.Log.{Log}
use Rattle.pp_events_law.specs.Hears.{AreSettled}
use Rattle.pp_events_law.specs.Ready.{HasLedReady}
use Rattle.pp_events_law.specs.Stands.{AreReadyAt, StandsAtEvent}

pub record MayAsk (k : ℕ) (x : Turning) (s : State) (j : Conn) (e : Exchange) : Type 0 where
  pub there : conn s k ≡ Some j
  pub going : j.is_closing ≡ false
  pub next : asking s k ≡ Some e
  pub some : is_empty (left_to_ask s e) ≡ false
  pub few : length j.line ≤ 16
  pub short : length e.text ≤ 16384
  pub answers : (a : Answer) → j.answer ≡ Some a → IsAnswering s j
  pub anew : regained s ≡ s
  pub linked : IsLinked x.log x.moving.top x.moving.links
  pub settled : AreSettled x.moving.desk.state.seats.items

-- from where the write is owed
abbrev pub AskingsLead : Type 0
AskingsLead = (terms : List Term) (log : Log) (number : ℕ → ℕ) (k : ℕ) (x y : Turning) (s : State) (j : Conn) (e : Exchange) → Obeys terms s log → StandsAtEvent number Handling (WriteTo k) x.moving s → AreReadyAt number x.moving s → MayAsk k x s j e → IsBounded y.moving.desk.state.cache → AsksOn k x y → HasLedReady number x y s
