-- What a client sent, or that it sends no more, changes of it nothing that its reply, its exchange and its closing rest on.
use Rattle.std.proofs.Common.{◌≡◌, refl, ap, ◌∙◌, ℕ, ◌-◌, true, false, ◌++◌, drop, length, Option}
use Rattle.pp_turns_law.specs.Sides.{MayClose}
use Rattle.pp_law.specs.Connections.{is_client, on_client}
use Rattle.pp_law.specs.Hearing.{fronted, heard_by, what_counts, with_front}
use Rattle.pp_law.specs.Lists.{Bytes, is_some_with}
use Rattle.pp_law.specs.Requests.{Front, NoHeadYet, NoHead, IsRequest}
use Rattle.pp_law.specs.Stages.{passed_of}
use Rattle.pp_law.specs.State.{State, Client, Course, Passed}
use Rattle.pp_law.specs.Table.{follows}
use Rattle.pp_seats.specs.Seats.{IsRead, IsReadBehind}
use Rattle.pp_seats.specs.declared.front.Front.{Front as SeatFront}
use Rattle.pp_seats.specs.declared.front.Front.TheVariants.{NoHeadYet as NoneYet, NoHead as NoneThere, Request}
use Rattle.pp_seats.specs.declared.seat.Seat.{Seat}
use Rattle.pp_seats_law.specs.Fates.{is_refused}
use Rattle.pp_states_law.proofs.Kept.{GoesThrough}
use Rattle.pp_events_law.proofs.Standing.{go_through}
use Rattle.pp_events_law.proofs.Touched.{through_if}

-- ---- of the law

-- its request alone is read
with_same : {A : Type 0} (g : Client → A) (c : Client) → g (fronted c) ≡ g c → g (with_front c) ≡ g c
with_same {A} g c same = by c.front
  where
    by : (f : Front) → g (elim f as (λ t. Client) [ NoHeadYet ↦ fronted c | NoHead status ↦ c | IsRequest r ↦ c ]) ≡ g c
    by NoHeadYet = same
    by (NoHead status) = refl
    by (IsRequest r) = refl

-- before it is read as a request
abbrev had : Bytes → Client → Client
had bytes c = record c { heard = c.heard ++ what_counts c.front (drop c.skip bytes); skip = c.skip - length bytes }

pub heard_through : (bytes : Bytes) → GoesThrough (heard_by bytes)
heard_through bytes = record {
  number = λ c. with_same (λ d. d.number) (had bytes c) refl;
  goes = λ c on. record { going = with_same (λ d. d.is_closing) (had bytes c) refl ∙ on.going; given = ap (λ (o : Course). is_refused o) (with_same (λ d. d.course) (had bytes c) refl) ∙ on.given };
  comes = λ c on. ap (λ (o : Option Passed). is_some_with (λ p. p.pipe.is_finished) o) (with_same (λ d. passed_of d) (had bytes c) refl) ∙ on;
}

pub heard_follows : (bytes : Bytes) (id : ℕ) (c : Client) → follows id (heard_by bytes c) ≡ follows id c
heard_follows bytes id c = with_same (λ d. follows id d) (had bytes c) refl

pub hung_through : GoesThrough (λ c. record c { has_hung_up = true })
hung_through = record { number = λ c. refl; goes = λ c on. record { going = on.going; given = on.given }; comes = λ c on. on }

pub client_may : (n : ℕ) (f : Client → Client) → GoesThrough f → (s : State) → MayClose s → MayClose (on_client n f s)
unfolding on_client
client_may n f goes s may = record { apart = may.apart; orderly = may.orderly; go = go_through (λ c. elim (is_client n c) as (λ t. Client) [ true ↦ f c | false ↦ c ]) (through_if n f goes) s (on_client n f s) refl refl may.go }

-- ---- of the program

pub record IsSameReply (seat new : Seat) : Type 0 where
  pub id : new.client.id ≡ seat.client.id
  pub stage : new.stage ≡ seat.stage
  pub reply : new.client.reply ≡ seat.client.reply
  pub closing : new.is_closing ≡ seat.is_closing

pub read_same : (old new : Seat) → IsRead old new → IsSameReply old new
read_same old new is = by old.front is
  where
    same : new ≡ old → IsSameReply old new
    same it = record { id = ap (λ (o : Seat). o.client.id) it; stage = ap (λ (o : Seat). o.stage) it; reply = ap (λ (o : Seat). o.client.reply) it; closing = ap (λ (o : Seat). o.is_closing) it }

    by : (f : SeatFront) → IsReadBehind f old new → IsSameReply old new
    by NoneYet read = record { id = ap (λ (o : Seat). o.client.id) read.1; stage = ap (λ (o : Seat). o.stage) read.1; reply = ap (λ (o : Seat). o.client.reply) read.1; closing = ap (λ (o : Seat). o.is_closing) read.1 }
    by (NoneThere status) read = same read
    by (Request a) read = same read
