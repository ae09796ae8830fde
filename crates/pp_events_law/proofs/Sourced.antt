-- What each client follows is there still, where by the law what it is answered from is.
use Rattle.std.proofs.Common.{◌≡◌, inl, inr, refl, sym, subst, ap, ◌∙◌, ℕ, zero, suc, false, List, [], ◌∷◌, Option, Some, None}
use Rattle.std.specs.Prelude.{slice_get}
use Rattle.pp_cache_law.proofs.Numbers.{some_is}
use Rattle.pp_cache_law.specs.Tables.{ShowsTable}
use Rattle.pp_turns_law.proofs.StandingOn.{there_by}
use Rattle.pp_turns_law.proofs.Sitting.{is_at}
use Rattle.pp_turns_law.specs.Useless.{AllFollow}
use Rattle.pp_flow_law.specs.Tables.{none_leaves}
use Rattle.pp_law.specs.Lists.{Bytes}
use Rattle.pp_law.specs.Stages.{reply_of}
use Rattle.pp_law.specs.State.{State, Client, Instance as Known, Reply, Stage, Undecided, Waiting, Passing, Answering}
use Rattle.pp_law.specs.Table.{instance}
use Rattle.pp_laws.specs.Runs.{IsIn}
use Rattle.pp_laws_turn.specs.SoundTurn.{HasSource}
use Rattle.pp_objects.specs.declared.id.ObjectId.{ObjectId}
use Rattle.pp_peers.specs.declared.peers.Peer.{Peer}
use Rattle.pp_seats.specs.Follows.{answer_in}
use Rattle.pp_seats.specs.declared.seat.Answer.{Answer}
use Rattle.pp_seats.specs.declared.seat.Seat.{Seat}
use Rattle.pp_seats.specs.declared.seat.Stage.{Stage as SeatStage}
use Rattle.pp_seats.specs.declared.seat.Stage.TheVariants.{Undecided as IsUndecided, Waiting as IsWaiting, Passing as IsPassing, Answering as AnsweringTo}
use Rattle.pp_seats_law.proofs.AllSeats.{places}
use Rattle.pp_seats_law.specs.Clients.{IsFound}
use Rattle.pp_seats_law.specs.Replies.{ShowsStage, source_number}
use Rattle.pp_seats_law.specs.Seats.{ShowsOpen}
use Rattle.pp_state.specs.Ends.{Parts}
use Rattle.pp_states_law.specs.Steps.{ShowsSteps}
use Rattle.pp_turns_law.proofs.First.{IsShownAt, seat_shown}
use Rattle.pp_turns_law.specs.Turns.{IsFollowing}
use Rattle.pp_events_law.proofs.Alike.{AreAlike, WasAlike}

-- ---- who stands at a place is one of all

in_place : {A : Type 0} (i : ℕ) (xs : List A) (x : A) → slice_get xs i ≡ Some x → IsIn x xs
in_place i [] x at = absurd (cc at)
in_place zero (y ∷ ys) x at = inl (sym (some_is y x at))
in_place (suc i) (y ∷ ys) x at = inr (in_place i ys x at)

-- ---- what a seat follows its client is answered from

record IsAnsweredFrom (number : ℕ → ℕ) (c : Client) (id : ObjectId) : Type 0 where
  reply : Reply
  stage : reply_of c ≡ Some reply
  source : reply.source ≡ Some (number id.life)

answered_from : (number : ℕ → ℕ) (name : Bytes) (seat : Seat) (c : Client) (a : Answer) (id : ObjectId) → ShowsOpen number name [] seat c → answer_in seat.stage ≡ Some a → a.source ≡ Some id → IsAnsweredFrom number c id
answered_from number name seat c a id shows answer source = by seat.stage c.stage refl shows.stage answer
  where
    by : (t : SeatStage) (u : Stage) → c.stage ≡ u → ShowsStage number seat.client.reply t u → answer_in t ≡ Some a → IsAnsweredFrom number c id
    by (AnsweringTo b) (Answering r) is stage its =
        let same : b ≡ a = some_is b a its in
        record {
          reply = r;
          stage = ap (λ (t : Stage). elim t as (λ c. Option Reply) [ Undecided ↦ None | Waiting ↦ None | Passing ↦ None | Answering q ↦ Some q ]) is;
          source = sym stage.source ∙ ap (λ (x : Answer). source_number number x.source) same ∙ ap (λ (o : Option ObjectId). source_number number o) source;
        }
    by IsUndecided u is stage its = absurd (cc its)
    by IsWaiting u is stage its = absurd (cc its)
    by IsPassing u is stage its = absurd (cc its)
    by (AnsweringTo b) Undecided is stage its = absurd stage
    by (AnsweringTo b) Waiting is stage its = absurd stage
    by (AnsweringTo b) Passing is stage its = absurd stage

-- ---- of all

module _ (number : ℕ → ℕ) (name : Bytes) (peers : List Peer) (p q : Parts) (s t : State) (before : ShowsTable number p.cache s) (follow : (i : ℕ) (seat : Seat) → slice_get p.seats i ≡ Some seat → seat.is_closing ≡ false → IsFollowing p.cache seat) (alike : AreAlike p q)
    (shows : ShowsSteps number name none_leaves peers q t) (sources : (c : Client) → IsIn c t.clients → c.is_closing ≡ false → HasSource t c) where
  pub follow_alike : (i : ℕ) (new : Seat) → slice_get q.seats i ≡ Some new → new.is_closing ≡ false → IsFollowing q.cache new
  follow_alike i new at going a id answer source =
      let one : IsShownAt number name q.seats t.clients i = seat_shown number name q.seats t.clients i new shows.shows.clients at in
      let same : one.seat ≡ new = some_is one.seat new (sym one.here ∙ at) in
      let closing : one.client.is_closing ≡ false = sym one.shows.closing ∙ ap (λ (x : Seat). x.is_closing) same ∙ going in
      let shown : ShowsOpen number name [] new one.client = subst (λ (x : Seat). ShowsOpen number name [] x one.client) same (one.shows.going closing) in
      let own : IsAnsweredFrom number one.client id = answered_from number name new one.client a id shown answer source in
      let law : (x : Known) × (instance t (number id.life) ≡ Some x) = sources one.client (in_place i t.clients one.client one.there) closing own.reply (number id.life) own.stage own.source in
      let was : WasAlike p.seats i new = alike.was i new at in
      there_by number p.cache q.cache s t id law.0 before shows.shows.table.table
      (follow i was.old was.here (sym was.is.closing ∙ going) a id (ap (λ (u : SeatStage). answer_in u) (sym was.is.stage) ∙ answer) source) alike.there law.1

-- ---- as replies that ended leave it

pub follow_of : (number : ℕ → ℕ) (name : Bytes) (peers : List Peer) (q : Parts) (t : State) → ShowsSteps number name none_leaves peers q t → AllFollow q t → (i : ℕ) (seat : Seat) → slice_get q.seats i ≡ Some seat → seat.is_closing ≡ false → IsFollowing q.cache seat
follow_of number name peers q t shows follow i seat here going =
    let one : IsFound number name [] seat seat.client.id t.clients = places number name [] q.seats t.clients seat.client.id i seat shows.shows.clients (is_at i q.seats seat shows.order here) here in
    follow i seat one.client (record { here = here; there = one.there }) (sym one.shows.closing ∙ going)
