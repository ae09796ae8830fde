-- Numbers of what is there: distinct, and below the next that is given.
use Rattle.std.specs.Prelude.{◌≡◌, ℕ, ◌<◌, ◌≤◌, List, [], ◌∷◌, map, Some}
use Rattle.pp_world.specs.Log.{Log}
use Rattle.pp_law.specs.Lawful.{Lawful}
use Rattle.pp_law.specs.Stages.{bound_of}
use Rattle.pp_law.specs.State.{State, Term, Client, Conn, Exchange, Instance, Chunk, Bound}
use Rattle.pp_laws.specs.Runs.{state_after, IsIn}

-- each is above this one
abbrev pub AllAbove : ℕ → List ℕ → Type 0
AllAbove low [] = Unit {0}
AllAbove low (n ∷ ns) = (low < n) × AllAbove low ns

-- each is above all before it
abbrev pub AreRising : List ℕ → Type 0
AreRising [] = Unit {0}
AreRising (n ∷ ns) = AllAbove n ns × AreRising ns

-- none is there twice
abbrev pub AreDistinct : List ℕ → Type 0
AreDistinct [] = Unit {0}
AreDistinct (n ∷ ns) = ¬ (IsIn n ns) × AreDistinct ns

-- those that are there have numbers of their own, and a new one would get one above them; what speaks of an instance does not
-- speak of one that is still to come. Instances stand in the order of their use
pub record HasOwnNumbers (s : State) : Type 0 where
  pub clients_rise : AreRising (map (λ c. c.number) s.clients)
  pub clients_given : (c : Client) → IsIn c s.clients → c.number ≤ s.top
  pub conns_rise : AreRising (map (λ k. k.number) s.conns)
  pub conns_given : (k : Conn) → IsIn k s.conns → k.number ≤ s.top
  pub exchanges_rise : AreRising (map (λ e. e.number) s.exchanges)
  pub exchanges_given : (e : Exchange) → IsIn e s.exchanges → e.number < s.next_exchange
  pub instances_differ : AreDistinct (map (λ x. x.id) s.instances)
  pub instances_given : (x : Instance) → IsIn x s.instances → x.id < s.next_instance
  pub chunks_given : (c : Chunk) → IsIn c s.chunks → c.instance < s.next_instance
  pub bounds_given : (e : Exchange) (b : Bound) → IsIn e s.exchanges → bound_of e ≡ Some b → b.instance < s.next_instance

abbrev pub NumbersAreDistinct : Type 0
NumbersAreDistinct = (terms : List Term) (log : Log) → Lawful terms log → HasOwnNumbers (state_after terms log)
