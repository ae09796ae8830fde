-- How clients, exchanges and connections together stand for the state of the law, as closings find them and leave them.
use Rattle.std.specs.Prelude.{◌≡◌, ◌≤◌, ℕ, true, List, [], ◌∷◌, length, ⊤}
use Rattle.pp_flow_law.specs.Tables.{none_leaves}
use Rattle.pp_law.specs.Lists.{Bytes}
use Rattle.pp_law.specs.State.{State, Conn}
use Rattle.pp_desk.specs.Closings.{Sides}
use Rattle.pp_states_law.specs.Decisions.{AreApart}
use Rattle.pp_states_law.specs.Lines.{AllGo}
use Rattle.pp_states_law.specs.Steps.{ShowsSteps}

-- one that is closing has no line any more, and no line is longer than all exchanges that may be there
pub record IsOrderly (k : Conn) : Type 0 where
  pub closed : k.is_closing ≡ true → k.line ≡ []
  pub few : length k.line ≤ 1024

abbrev pub AreOrderly : List Conn → Type 0
AreOrderly [] = ⊤
AreOrderly (k ∷ ks) = IsOrderly k × AreOrderly ks

-- no two connections have one number, and the clients of exchanges go on
pub record MayClose (s : State) : Type 0 where
  pub apart : AreApart s
  pub orderly : AreOrderly s.conns
  pub go : AllGo s

pub record ShowsSides (number : ℕ → ℕ) (name : Bytes) (x : Sides) (s : State) : Type 0 where
  pub steps : ShowsSteps number name none_leaves x.peers x.parts s
  pub may : MayClose s

-- of all that do
abbrev pub OfSides : ((ℕ → ℕ) → Bytes → Sides → State → Type 0) → Type 0
OfSides P = (number : ℕ → ℕ) (name : Bytes) (x : Sides) (s : State) → ShowsSides number name x s → P number name x s
