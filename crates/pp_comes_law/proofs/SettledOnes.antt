-- Nothing is over of whom a turn seats.
use Rattle.std.proofs.Common.{◌≡◌, inl, inr, refl, sym, subst, ◌∙◌, ℕ, zero, suc, false, List, [], ◌∷◌, Some}
use Rattle.std.specs.Prelude.{slice_get}
use Rattle.pp_clients_obey.specs.Ending.{IsSettled}
use Rattle.pp_comes_law.specs.Awaited.{IsAwaited}
use Rattle.pp_comes_law.specs.Settled.{AwaitedOnesAreSettled}
use Rattle.pp_events_law.specs.Hears.{AreSettled}
use Rattle.pp_flow_law.specs.Tables.{none_leaves}
use Rattle.pp_law.specs.Lists.{Bytes}
use Rattle.pp_law.specs.Replies.{is_finished, is_said as is_over}
use Rattle.pp_law.specs.State.{State, Client, Term}
use Rattle.pp_law.specs.Turn.{rest_with}
use Rattle.pp_laws.specs.Runs.{IsIn}
use Rattle.pp_laws_answers.proofs.NoneFinished.{nobody_is_finished}
use Rattle.pp_laws_left.proofs.SpokenLaws.{turns_are_spoken}
use Rattle.pp_proxy.specs.Moving.{Turning}
use Rattle.pp_seats.specs.declared.seat.Seat.{Seat}
use Rattle.pp_seats_law.proofs.Dues.{finished}
use Rattle.pp_seats_law.proofs.SaidWhole.{ends_same}
use Rattle.pp_seats_law.specs.Clients.{AreShown}
use Rattle.pp_seats_law.specs.Seats.{ShowsSeat}
use Rattle.pp_world.specs.Log.{Log}
use Rattle.pp_world.specs.declared.event.Wants.{Wants}

-- the client that it shows
pub record IsOf (number : ℕ → ℕ) (name : Bytes) (seat : Seat) (cs : List Client) : Type 0 where
  pub client : Client
  pub there : IsIn client cs
  pub shows : ShowsSeat number name [] seat client

same_seat : (seat other : Seat) → Some other ≡ Some seat → other ≡ seat
same_seat seat other is = cc is

pub of_seat : (number : ℕ → ℕ) (name : Bytes) (i : ℕ) (seats : List Seat) (cs : List Client) (seat : Seat) → AreShown number name [] seats cs → slice_get seats i ≡ Some seat → IsOf number name seat cs
of_seat number name i [] cs seat shown here = absurd (cc here)
of_seat number name i (other ∷ seats) [] seat shown here = absurd shown
of_seat number name zero (other ∷ seats) (c ∷ cs) seat shown here = record { client = c; there = inl refl; shows = subst (λ (x : Seat). ShowsSeat number name [] x c) (same_seat seat other here) shown.0 }
of_seat number name (suc i) (other ∷ seats) (c ∷ cs) seat shown here = let more = of_seat number name i seats cs seat shown.1 here in record { client = more.client; there = inr more.there; shows = more.shows }

settled_one : (number : ℕ → ℕ) (name : Bytes) (seat : Seat) (c : Client) → ShowsSeat number name [] seat c → (c.is_closing ≡ false → is_over c ≡ false) → is_finished c ≡ false → IsSettled seat
settled_one number name seat c shows unsaid stays = record {
  said = λ going. let goes : c.is_closing ≡ false = sym shows.closing ∙ going in ends_same number name [] seat c (shows.going goes) ∙ unsaid goes;
  finished = finished number name [] seat c shows ∙ stays;
}

pub awaited_settled : AwaitedOnesAreSettled
awaited_settled terms number l peers p s log obeys shows i seat here =
    let its : IsOf number p.name.items seat s.clients = of_seat number p.name.items i p.seats.items s.clients seat shows.steps.shows.clients here in
    settled_one number p.name.items seat its.client its.shows ((turns_are_spoken terms s log obeys).unsaid its.client its.there) (nobody_is_finished terms s log obeys its.client its.there)

-- where an event is awaited
pub settled_so : (terms : List Term) (log : Log) (number : ℕ → ℕ) (w : Wants) (x : Turning) (u : State) → IsAwaited terms log number w x u → AreSettled x.moving.desk.state.seats.items
settled_so terms log number w x u it = awaited_settled terms number none_leaves x.moving.desk.peers x.moving.desk.state (rest_with w u) log it.obeys it.stands.desk.turn
