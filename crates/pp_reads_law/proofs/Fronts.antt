-- The first exchange of a line.
use Rattle.std.proofs.Common.{◌≡◌, refl, sym, ap, ◌∙◌, ℕ, List, [], ◌∷◌, Some, None, Option}
use Rattle.pp_flow_law.proofs.Entries.{none_some}
use Rattle.pp_law.specs.Connections.{exchange, front_of_line}
use Rattle.pp_law.specs.State.{State, Conn, Exchange}
use Rattle.pp_states_law.proofs.Charged.{number_is}

pub record IsFront (s : State) (k : Conn) (e : Exchange) : Type 0 where
  pub others : List ℕ
  pub line : k.line ≡ e.number ∷ others
  pub known : exchange s e.number ≡ Some e

pub is_front : (s : State) (k : Conn) (e : Exchange) → front_of_line s k ≡ Some e → IsFront s k e
is_front s k e front = by k.line refl front
  where
    by : (ns : List ℕ) → k.line ≡ ns → (elim ns as (λ t. Option Exchange) [ [] ↦ None | n ∷ line ↦ exchange s n ]) ≡ Some e → IsFront s k e
    by [] is first = absurd (none_some e first)
    by (m ∷ ms) is first =
        let same : e.number ≡ m = number_is m s e first in
        record { others = ms; line = is ∙ ap (λ (i : ℕ). i ∷ ms) (sym same); known = ap (λ (i : ℕ). exchange s i) same ∙ first }
