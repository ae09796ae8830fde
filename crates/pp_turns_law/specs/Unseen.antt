-- What nobody will see is what nobody will see by the law (RFC 2616, section 8.1.4).
use Rattle.std.specs.Prelude.{◌≡◌, ℕ, true, false, List, [], ◌∷◌, Some, IfSome, ⊤}
use Rattle.pp_cache.specs.Memory.{Memory}
use Rattle.pp_flow.specs.Changes.{entry_of}
use Rattle.pp_flow.specs.declared.entry.Entry.{Entry}
use Rattle.pp_flow.specs.declared.errand.Body.{Body}
use Rattle.pp_flow.specs.declared.errand.Body.TheVariants.{Pending, Joining, Relaying, Dropping}
use Rattle.pp_law.specs.Connections.{exchange}
use Rattle.pp_law.specs.State.{State, Client, Conn, Exchange}
use Rattle.pp_law.specs.Unseen.{came_of, is_unseen}
use Rattle.pp_objects.specs.Instances.{is_there}
use Rattle.pp_seats.specs.Follows.{next_of}
use Rattle.pp_seats.specs.declared.seat.Seat.{Seat}
use Rattle.pp_seats_law.specs.Words.{HasSource}
use Rattle.pp_state.specs.Unseen.{is_nobodys}
use Rattle.pp_states_law.specs.Steps.{OfSteps}

-- what each of the clients that go on follows is there
abbrev pub AreFollowing : Memory → State → List Seat → List Client → Type 0
AreFollowing m s [] [] = ⊤
AreFollowing m s (seat ∷ seats) (c ∷ cs) = IfSome (next_of seat) (λ x. is_there x.source m.instances ≡ true) × (c.is_closing ≡ false → HasSource s c) × AreFollowing m s seats cs
AreFollowing m s seats cs = ⊥

-- as much is counted of what is dropped as came behind the head of the response
abbrev pub IsCounted : Body → Conn → Type 0
IsCounted Pending k = ⊤
IsCounted (Joining wanted) k = ⊤
IsCounted Relaying k = ⊤
IsCounted (Dropping count) k = count ≡ came_of k

-- of the exchange that is the first of the line of a connection
abbrev pub UnseenIsTheLaws : Type 0
UnseenIsTheLaws = OfSteps (λ number name l peers p s. (k : Conn) (n : ℕ) (e : Entry) (d : Exchange) → AreFollowing p.cache s p.seats s.clients → entry_of n p.flow ≡ Some e → exchange s n ≡ Some d → IsCounted e.errand.body k
    → is_nobodys p.seats e ≡ is_unseen s k d)
