-- The law drops interim heads piece by piece, and comes to the text behind them (RFC 2616, sections 8.2.3 and 10.1).
use Rattle.std.specs.Prelude.{◌≡◌, ◌⊎◌, ◌≤◌, ◌+◌, ℕ, [], ◌∷◌, drop, length}
use Rattle.pp_head.specs.Read.{More, Whole}
use Rattle.pp_head.specs.Response.{Response, response_at}
use Rattle.pp_law.specs.Connections.{on_conn}
use Rattle.pp_law.specs.Lists.{Bytes}
use Rattle.pp_law.specs.Responses.{got, head_piece_of, with_unread}
use Rattle.pp_law.specs.State.{State, Conn}
use Rattle.pp_states_law.specs.Gots.{IsAmidHead}
use Rattle.pp_reads_law.specs.Awaits.{text_of}

-- where it was, or with nothing unread
abbrev pub IsClearedTo : State → ℕ → Conn → Conn → State → Type 0
IsClearedTo s n k before t = ((before ≡ k) × (t ≡ s)) ⊎ ((before ≡ with_unread [] k) × (t ≡ on_conn n (with_unread []) s))

-- what it makes of these bytes, with so many pieces, is what it makes of that text, and of what follows the head
pub record IsPassedTo (more : ℕ) (s : State) (n : ℕ) (k : Conn) (bytes text : Bytes) : Type 0 where
  pub before : Conn
  pub then : State
  pub stands : IsClearedTo s n k before then
  pub less : ℕ
  pub law : got more n bytes s ≡ got less n (head_piece_of before text then).rest (head_piece_of before text then).state
  pub enough : (head : Response) → response_at text ≡ Whole head → length (drop head.length text) ≤ less
  -- with so many pieces it comes there, and goes on behind
  pub pieces : ℕ
  pub comes : (later : ℕ) → got (pieces + later) n bytes s ≡ got later n (head_piece_of before text then).rest (head_piece_of before text then).state

-- where a head is whole behind them, or none is one
abbrev pub InterimsArePassed : Type 0
InterimsArePassed = (s : State) (n : ℕ) (k : Conn) (b : ℕ) (bytes : Bytes) → IsAmidHead s n k → (response_at (text_of k (b ∷ bytes)) ≡ More → ⊥) → IsPassedTo (length (b ∷ bytes)) s n k (b ∷ bytes) (text_of k (b ∷ bytes))
