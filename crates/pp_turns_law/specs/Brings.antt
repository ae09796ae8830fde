-- What the exchanges bring to an instance is what those of the law bring.
use Rattle.std.specs.Prelude.{◌≡◌, ℕ, Some}
use Rattle.pp_flow.specs.Changes.{entry_of}
use Rattle.pp_flow.specs.declared.entry.Entry.{Entry}
use Rattle.pp_law.specs.Connections.{exchange}
use Rattle.pp_law.specs.Deciding.{serves as serves_reply}
use Rattle.pp_law.specs.State.{Exchange, Reply}
use Rattle.pp_law.specs.Table.{asks_for as asks_for_it, brings as brings_it, is_brought as is_being_brought, is_provided as is_being_provided}
use Rattle.pp_seats.specs.Follows.{next_at}
use Rattle.pp_state.specs.Bringing.{asks_for, brings, is_brought, is_provided}
use Rattle.pp_take.specs.Deciding.{serves_next}
use Rattle.pp_turns_law.specs.Nexts.{OfNexts}

-- of the exchange with a number
abbrev pub AsksAreTheLaws : Type 0
AsksAreTheLaws = OfNexts (λ p s x n. (k : ℕ) (e : Entry) (d : Exchange) → entry_of k p.flow ≡ Some e → exchange s k ≡ Some d → asks_for x.source x.at p.cache e ≡ asks_for_it n.source n.at d)

abbrev pub BringsAreTheLaws : Type 0
BringsAreTheLaws = OfNexts (λ p s x n. (k : ℕ) (e : Entry) (d : Exchange) → entry_of k p.flow ≡ Some e → exchange s k ≡ Some d → brings x.source x.at p.cache e ≡ brings_it s n.source n.at d)

-- of what the reply still wants, where it wants any byte
abbrev pub ServesAreTheLaws : Type 0
ServesAreTheLaws = OfNexts (λ p s x n. (k : ℕ) (e : Entry) (d : Exchange) (r : Reply) → entry_of k p.flow ≡ Some e → exchange s k ≡ Some d → r.at ≡ n.at → r.to ≡ n.to → serves_next (next_at x.source x.to (Some x.at)) p.cache e ≡ serves_reply n.source r d)

-- of them all
abbrev pub BroughtIsTheLaws : Type 0
BroughtIsTheLaws = OfNexts (λ p s x n. is_brought x.source x.at p.cache p.flow ≡ is_being_brought s n.source n.at)

-- the next byte is there or comes
abbrev pub ProvidedIsTheLaws : Type 0
ProvidedIsTheLaws = OfNexts (λ p s x n. is_provided x p.cache p.flow ≡ is_being_provided s n)
