-- What each step of the law keeps of clients, connections and places.
use Rattle.std.proofs.Common.{◌≡◌, ◌⊎◌, ℕ, ◌≤◌, Bool, true, false, List, [], ◌∷◌, map, filter, length, Some}
use Rattle.std.specs.List.{list_any}
use Rattle.pp_conf.specs.Conf.{Settings}
use Rattle.pp_law.specs.Lists.{Bytes}
use Rattle.pp_law.specs.Opening.{is_same_phase}
use Rattle.pp_law.specs.State.{State, Phase, IsWoken, IsConfigured, IsRooted, IsListed, IsListening, IsStuck, Client, Conn, Exchange}
use Rattle.pp_laws.specs.Numbers.{AreRising}
use Rattle.pp_laws.specs.Runs.{IsIn}
use Rattle.pp_laws.proofs.Sound.{conn_number}
use Rattle.pp_laws_bounds.specs.Bounds.{goes_to}

-- the bounds of connections and lines; and one that is closing carries nothing
pub record Lines (settings : Settings) (conns : List Conn) : Type 0 where
  pub rise : AreRising (map conn_number conns)
  pub few : length conns ≤ 64
  pub spared : (host : Bytes) (port : ℕ) → length (filter (goes_to host port) conns) ≤ settings.host_connections
  pub short : (k : Conn) → IsIn k conns → length k.line ≤ 8
  pub closed : (k : Conn) → IsIn k conns → k.is_closing ≡ true → k.line ≡ []

-- a phase of the opening
abbrev pub is_early : Phase → Bool
is_early phase = list_any (λ p. is_same_phase p phase) (IsWoken ∷ IsConfigured ∷ IsRooted ∷ IsListed ∷ IsListening ∷ IsStuck ∷ [])

-- it stands in the line of its place
abbrev pub Stands : Exchange → ℕ → List Conn → Type 0
Stands e n conns = (k : Conn) × IsIn k conns × (k.number ≡ n) × IsIn e.number k.line

-- each exchange that has a place does, but these
abbrev pub AreLined : List ℕ → List Exchange → List Conn → Type 0
AreLined but exchanges conns = (e : Exchange) (n : ℕ) → IsIn e exchanges → e.place ≡ Some n → Stands e n conns ⊎ IsIn e.number but

pub record Facts (but : List ℕ) (settings : Settings) (phase : Phase) (is_stopped : Bool) (top : ℕ) (clients : List Client) (conns : List Conn) (exchanges : List Exchange) : Type 0 where
  pub few_clients : length clients ≤ 256
  pub lines : Lines settings conns
  pub given : (k : Conn) → IsIn k conns → k.number ≤ top
  -- no more of an ask was asked than there is
  pub asked_well : (e : Exchange) → IsIn e exchanges → e.asked ≤ length e.text
  -- behind Stop connections go with all that they carry
  pub lined : is_stopped ≡ false → AreLined but exchanges conns
  -- in the opening there is no connection, and nobody said Stop
  pub none_yet : is_early phase ≡ true → (conns ≡ []) × (is_stopped ≡ false)

abbrev pub FactsOf : List ℕ → State → Type 0
FactsOf but s = Facts but s.settings s.phase s.is_stopped s.top s.clients s.conns s.exchanges

pub data Kept (but : List ℕ) (s : State) : Type 0 where
  kept : FactsOf but s → Kept but s

pub facts_of : {but : List ℕ} {s : State} → Kept but s → FactsOf but s
facts_of (kept facts) = facts
