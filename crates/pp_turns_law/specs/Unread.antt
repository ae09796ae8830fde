-- What nobody will see is not read on: its connection is closed, and the others of its line are asked elsewhere (RFC 2616, section 8.1.4).
use Rattle.std.specs.Prelude.{◌≡◌, ℕ, true, Some}
use Rattle.pp_turns_law.specs.Unseen.{AreFollowing, IsCounted}
use Rattle.pp_flow.specs.Changes.{Exchanges, entry_of}
use Rattle.pp_flow.specs.declared.entry.Entry.{Entry}
use Rattle.pp_law.specs.Connections.{conn}
use Rattle.pp_law.specs.Lists.{has_number}
use Rattle.pp_law.specs.State.{State, Conn}
use Rattle.pp_law.specs.Unseen.{drop_on, drop_unseen}
use Rattle.pp_desk.specs.Closings.{Sides}
use Rattle.pp_desk.specs.Origins.{without_unseen, without_unseen_on}
use Rattle.pp_turns_law.specs.Sides.{OfSides, ShowsSides}

-- of each exchange of a line as much is counted of what is dropped as came: of those behind the first nothing came
abbrev pub IsCountedOn : Exchanges → Conn → Type 0
IsCountedOn f k = (m : ℕ) (e : Entry) → has_number m k.line ≡ true → entry_of m f ≡ Some e → IsCounted e.errand.body k

-- and what each client that goes on follows is there
pub record Tells (x : Sides) (s : State) : Type 0 where
  pub following : AreFollowing x.parts.cache s x.parts.seats s.clients
  pub counted : (n : ℕ) (k : Conn) → conn s n ≡ Some k → IsCountedOn x.parts.flow k

-- on one connection
abbrev pub DropsAreTheLaws : Type 0
DropsAreTheLaws = OfSides (λ number name x s. (n : ℕ) (k : Conn) → conn s n ≡ Some k → Tells x s → ShowsSides number name (without_unseen_on x n) (drop_on k s))

-- and on all, one behind the other
abbrev pub UnseenAreTheLaws : Type 0
UnseenAreTheLaws = OfSides (λ number name x s. Tells x s → ShowsSides number name (without_unseen x) (drop_unseen s) × Tells (without_unseen x) (drop_unseen s))
