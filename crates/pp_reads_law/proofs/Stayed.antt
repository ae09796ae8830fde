-- What changes of clients, exchanges and rows in a read: clients stay at their requests, and a life that went astray stays so; where it did not,
-- memory was refused for no row.
use Rattle.std.proofs.Common.{◌≡◌, refl, sym, subst, ap, ◌∙◌, ℕ, false, List, [], Option, Some, None}
use Rattle.pp_cache.specs.Memory.{Memory}
use Rattle.pp_cache.specs.Notes.{unnoted}
use Rattle.pp_flow.specs.Changes.{Exchanges}
use Rattle.pp_seats.specs.declared.seat.Seat.{Seat}
use Rattle.pp_state.specs.Ends.{Parts, on_seat_where}
use Rattle.pp_reads_law.proofs.StillClients.{Keeps, none, then, where_seated}
use Rattle.pp_reads_law.specs.Stays.{AreStill}

pub record Stay (p q : Parts) : Type 0 where
  pub clients : AreStill p.seats q.seats
  pub astray : q.is_astray ≡ false → p.is_astray ≡ false
  pub refused : q.is_astray ≡ false → p.refused ≡ [] → q.refused ≡ []

pub stay_same : (p : Parts) → Stay p p
stay_same p = record { clients = none p.seats; astray = λ on. on; refused = λ on is. is }

pub stay_then : (p q r : Parts) → Stay p q → Stay q r → Stay p r
stay_then p q r one two = record { clients = then p.seats q.seats r.seats one.clients two.clients; astray = λ on. one.astray (two.astray on); refused = λ on is. two.refused on (one.refused (two.astray on) is) }

pub becomes : (p r q : Parts) → q ≡ r → Stay p r → Stay p q
becomes p r q is all = subst (λ (o : Parts). Stay p o) (sym is) all

pub same : (p q : Parts) → q ≡ p → Stay p q
same p q is = becomes p p q is (stay_same p)

-- from where other exchanges and rows stand
pub from_other : (p q : Parts) (f : Exchanges) (m : Memory) → Stay (record p { flow = f; cache = m }) q → Stay p q
from_other p q f m all = record { clients = all.clients; astray = all.astray; refused = all.refused }

-- where nothing was refused, and no clients came or went
pub seated : (p q : Parts) → q.is_astray ≡ p.is_astray → q.refused ≡ p.refused → AreStill p.seats q.seats → Stay p q
seated p q astray refused all = record { clients = all; astray = λ on. sym astray ∙ on; refused = λ on is. refused ∙ is }

pub where_stays : (o : Option ℕ) (f : Seat → Seat) (p : Parts) → Keeps f → Stay p (on_seat_where o f p)
where_stays None f p keeps = stay_same p
where_stays (Some i) f p keeps = seated p (on_seat_where (Some i) f p) refl refl (where_seated (Some i) f p keeps)

-- none is noted of none
pub unnoted_none : (key : List ℕ) (keys : List (List ℕ)) → keys ≡ [] → unnoted key keys ≡ []
unnoted_none key keys is = ap (λ (ks : List (List ℕ)). unnoted key ks) is
