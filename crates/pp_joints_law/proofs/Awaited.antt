-- Behind its wait a turn stands where an event is awaited.
use Rattle.std.proofs.Common.{◌≤◌, sym, subst, ◌∙◌, ℕ, List, [], ◌∷◌}
use Rattle.pp_turns_law.specs.Log.{AreLinked}
use Rattle.pp_desk.specs.declared.desk.Desk.{Desk}
use Rattle.pp_events_law.specs.Stands.{AreClients, AreOpen as AreOpenAt}
use Rattle.pp_rests_law.proofs.MayClose.{closings_may}
use Rattle.pp_joints_law.specs.Awaiting.{RestedOnesAwait}
use Rattle.pp_joints_law.specs.Carried.{IsCarried}
use Rattle.pp_law.specs.State.{State}
use Rattle.pp_links.specs.Links.{Link}
use Rattle.pp_places_law.specs.Closings.{AreOpen}
use Rattle.pp_proxy.specs.Moving.{Moving, with_desk}
use Rattle.pp_store.specs.Kept.{KeptMap}
use Rattle.pp_waits_law.specs.Rests.{HasRested}

-- both say that each is open, as a client's
clients_as : (ns : List ℕ) (links : List Link) → AreOpen ns links → AreClients ns links
clients_as [] links are = tt
clients_as (n ∷ ns) links are = (are.0, clients_as ns links are.1)

opened : (number : ℕ → ℕ) (shelf : KeptMap) (x : Moving) (f : Desk) (s t : State) → HasRested number x.desk f s t → IsCarried shelf x s → AreOpenAt (with_desk f x) t.top
opened number shelf x f s t rested carried = record {
  clients = subst (λ (ns : List ℕ). AreClients ns x.links) (sym rested.clients) (clients_as _ x.links carried.links.clients);
  origins = subst (λ (ns : List ℕ). AreLinked ns x.links) (sym rested.origins) carried.links.origins;
  given = carried.links.given;
  top = subst (λ (n : ℕ). n ≤ x.top) (sym rested.top) carried.links.top;
}

pub rested_await : RestedOnesAwait
rested_await terms log number shelf x f s t obeys rested none carried given = record {
  stands = record {
    law = record { at = rested.at; owes = rested.owes; none = rested.none ∙ none };
    desk = record { turn = rested.turn; may = closings_may terms t log obeys given };
    ticked = rested.ticked ∙ carried.set.ticked ∙ sym rested.has_ticked;
    awake = rested.awake;
    opened = opened number shelf x f s t rested carried;
  };
  ready = rested.ready;
}
