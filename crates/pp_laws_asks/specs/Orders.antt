-- What is asked next on a connection, and what is not asked twice (RFC 2616, section 8.1.2.2; one fetch for many is ours).
use Rattle.std.specs.Prelude.{◌≡◌, ℕ, true, false, List, [], ◌∷◌, ◌++◌, length, Option, Some, None}
use Rattle.pp_target.specs.Key.{text_of, Key}
use Rattle.pp_world.specs.Log.{Log}
use Rattle.pp_world.specs.declared.happening.Happening.TheVariants.{Asked, Noted}
use Rattle.pp_world.specs.declared.note.Decision.{Decision}
use Rattle.pp_world.specs.declared.note.Remark.TheVariants.{Taken}
use Rattle.pp_law.specs.Asking.{left_to_ask}
use Rattle.pp_law.specs.Connections.{client, conn, exchange}
use Rattle.pp_law.specs.Lawful.{Lawful}
use Rattle.pp_law.specs.Lists.{Bytes}
use Rattle.pp_law.specs.Phases.{come_to_decide}
use Rattle.pp_law.specs.Requests.{key_in}
use Rattle.pp_law.specs.Sharing.{is_shared, may_share}
use Rattle.pp_law.specs.State.{State, Term, Client, Conn, Exchange, Undecided}
use Rattle.pp_laws.specs.Runs.{state_after, IsIn}

-- ---- in the order of the line

-- its text was asked whole, and all of its request's body
abbrev pub IsAskedWhole : Exchange → Type 0
IsAskedWhole e = (e.asked ≡ length e.text) × (e.body_left ≡ 0)

-- those of the line that stand before it
abbrev pub AreAskedWhole : State → List ℕ → Type 0
AreAskedWhole s line = (n : ℕ) (e : Exchange) → IsIn n line → exchange s n ≡ Some e → IsAskedWhole e

-- what is asked is the front of what is left of an exchange of the line, and all before it were asked whole
pub record IsNextAsk (s : State) (k : Conn) (bytes : Bytes) : Type 0 where
  pub before : List ℕ
  pub number : ℕ
  pub behind : List ℕ
  pub line : k.line ≡ before ++ number ∷ behind
  pub whole : AreAskedWhole s before
  pub asks : Exchange
  pub there : exchange s number ≡ Some asks
  pub rest : Bytes
  pub front : left_to_ask s asks ≡ bytes ++ rest

abbrev pub AsksAreInOrder : Type 0
AsksAreInOrder = (terms : List Term) (log : Log) (n : ℕ) (bytes : Bytes) (k : Conn) → Lawful terms (log ++ Asked n bytes ∷ []) → conn (state_after terms log) n ≡ Some k → IsNextAsk (state_after terms log) k bytes

-- ---- one fetch for many

-- a request that has not waited yet
pub record IsFirst (c : Client) : Type 0 where
  pub stage : c.stage ≡ Undecided
  pub waited : c.waits_on ≡ None

-- where fetches are shared, it asks for the whole of a key, or a check of it, only while no such answer is to come
abbrev pub AsksAlone : State → ℕ → Decision → Type 0
AsksAlone s n d = (c : Client) (key : Key) (e : Exchange) → client s n ≡ Some c → IsFirst c → s.settings.shares_fetches ≡ true → may_share d ≡ true → key_in c.front ≡ Some key → IsIn e s.exchanges
    → is_shared (text_of key) e ≡ false

-- in the state in which it is decided
abbrev pub OneFetchForMany : Type 0
OneFetchForMany = (terms : List Term) (log : Log) (n i : ℕ) (d : Decision) → Lawful terms (log ++ Noted (Taken n i d) ∷ []) → AsksAlone (come_to_decide (state_after terms log)) n d
