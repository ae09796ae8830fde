-- What comes is dropped, and the request is decided again, as the law has it.
use Rattle.std.proofs.Common.{◌≡◌, refl, sym, subst, ap, ◌∙◌, ℕ, Bool, true, false, cond, find, List, [], Some, None, Option}
use Rattle.std.specs.Prelude.{is_some, option_and_then, slice_set}
use Rattle.pp_flow.specs.Changes.{Exchanges}
use Rattle.pp_flow.specs.declared.entry.Entry.{Entry}
use Rattle.pp_flow.specs.declared.entry.Exchange.{Exchange as SeatExchange}
use Rattle.pp_flow.specs.declared.errand.Body.TheVariants.{Dropping as IsDropping}
use Rattle.pp_flow_law.proofs.Standing.{entry_placed, none_waits}
use Rattle.pp_flow_law.specs.Tables.{Leaving}
use Rattle.pp_law.specs.Connections.{is_client, on_exchange}
use Rattle.pp_law.specs.Lists.{Bytes}
use Rattle.pp_law.specs.OwnHeads.{drop_answer, tell, use_body}
use Rattle.pp_law.specs.Stages.{passed_of}
use Rattle.pp_law.specs.State.{State, Body, Brought, Client, Dropping, Exchange, Passed, Useless}
use Rattle.pp_client.specs.Replies.{Reply as Said}
use Rattle.pp_flow_law.proofs.Entries.{none_some}
use Rattle.pp_law.specs.Requests.{Front}
use Rattle.pp_seats_law.specs.Exchanges.{ShowsExchange}
use Rattle.pp_peers.specs.declared.peers.Peer.{Peer}
use Rattle.pp_seats.specs.Courses.{has_begun}
use Rattle.pp_seats.specs.Seats.{passed_in}
use Rattle.pp_seats.specs.declared.seat.Brought.{Brought as SeatBrought}
use Rattle.pp_seats.specs.declared.seat.Brought.TheVariants.{Useless as NoneOfUse}
use Rattle.pp_seats.specs.declared.seat.Passed.{Passed as SeatPassed}
use Rattle.pp_seats.specs.declared.seat.Seat.{Seat}
use Rattle.pp_seats_law.proofs.AllSeats.{places}
use Rattle.pp_seats_law.proofs.Stages.{passed}
use Rattle.pp_seats_law.specs.Clients.{IsAt, IsFound}
use Rattle.pp_seats_law.specs.Seats.{ShowsSeat}
use Rattle.pp_seats_law.specs.Words.{ShowsMaybePassed}
use Rattle.pp_state.specs.Bodies.{body_by, is_passed, is_passed_in, seat_in}
use Rattle.pp_state.specs.Ends.{Parts, bound_by, changed_at, numbers_of, on_seat_where, place_of, seat_for, told, told_to, unusable}
use Rattle.pp_answers.specs.FinalHeads.{noted_body}
use Rattle.pp_states_law.proofs.Charged.{number_is, same_entry}
use Rattle.pp_states_law.proofs.Places.{HasSeat, at_place, has_seat, numbers_set}
use Rattle.pp_states_law.specs.Charges.{IsFor, IsThere}
use Rattle.pp_states_law.specs.Steps.{ShowsSteps}
use Rattle.pp_answers_law.specs.Answers.{DropsAreTheLaws, IsAnswered, Stands, TellsAs}
use Rattle.pp_answers_law.proofs.Bodies.{get_set, headed, heads, noted_behind, on_seats, with_flow}
use Rattle.pp_answers_law.proofs.Told.{tells, told_id}

-- ---- nothing is passed to its client

pub none_passed : (name : Bytes) (said : Said) (front : Front) (o : Option SeatPassed) (u : Option Passed) → ShowsMaybePassed name said front o u → u ≡ None → is_some o ≡ false
none_passed name said front None u shows none = refl
none_passed name said front (Some x) None shows none = absurd shows
none_passed name said front (Some x) (Some p) shows none = absurd (none_some p (sym none))

abbrev told_if : SeatBrought → Seat → Bool → Seat
told_if b seat t = cond t seat (record seat { brought = b })

seat_unpassed : (number : ℕ → ℕ) (name : Bytes) (seat : Seat) (c : Client) (b : SeatBrought) → ShowsSeat number name [] seat c → Stands c → is_some (passed_in b) ≡ false → is_some (passed_in (told b seat).brought) ≡ false
seat_unpassed number name seat c b shows stands none = by (has_begun seat)
  where
    by : (t : Bool) → is_some (passed_in (told_if b seat t).brought) ≡ false
    by true = none_passed name seat.client.reply c.front (passed_in seat.brought) (passed_of c) (passed number name [] seat c (shows.going stands.on.going)) stands.untold
    by false = none

abbrev passed_at : Option ℕ → List Seat → Bool
passed_at asker seats = is_passed_in (seat_in (option_and_then (λ (c : ℕ). place_of c (numbers_of seats)) asker) seats)

abbrev set_in : ℕ → SeatBrought → List Seat → Option Seat → List Seat
set_in i b seats o = elim o as (λ t. List Seat) [ None ↦ seats | Some seat ↦ slice_set seats i (told b seat) ]

pub not_passed : (number : ℕ → ℕ) (name : Bytes) (l : Leaving) (peers : List Peer) (p : Parts) (s : State) → ShowsSteps number name l peers p s → (x : SeatExchange) (own : SeatExchange) (e : Exchange) (b : SeatBrought) → is_some (passed_in b) ≡ false
    → own.asker ≡ e.asker → ((m : ℕ) → x.asker ≡ Some m → own.asker ≡ Some m) → IsFor s e Stands → is_passed x (on_seat_where (seat_for own p.seats) (told b) p).seats ≡ false
not_passed number name l peers p s shows x own e b none same still stands = by x.asker refl
  where
    there : (m i : ℕ) → own.asker ≡ Some m → place_of m (numbers_of p.seats) ≡ Some i → passed_at (Some m) (changed_at i (told b) p.seats) ≡ false
    there m i asks place =
        subst (λ (o : Option Seat). passed_at (Some m) (set_in i b p.seats o) ≡ false) (sym one.there)
        (ap (λ (ns : List ℕ). is_passed_in (seat_in (place_of m ns) (slice_set p.seats i (told b one.seat)))) (numbers_set i p.seats one.seat (told b one.seat) one.there (told_id b one.seat))
        ∙ ap (λ (o : Option ℕ). is_passed_in (seat_in o (slice_set p.seats i (told b one.seat)))) place
        ∙ ap (λ (o : Option Seat). is_passed_in o) (get_set i p.seats one.seat (told b one.seat) one.there)
        ∙ seat_unpassed number name one.seat found.client b found.shows (stands m found.client (sym same ∙ asks) found.there) none)
      where
        at : IsAt m i p.seats
        at = at_place m i p.seats shows.order place

        one : HasSeat i p.seats
        one = has_seat m i p.seats at

        found : IsFound number name [] one.seat m s.clients
        found = places number name [] p.seats s.clients m i one.seat shows.shows.clients at one.there

    at_it : (m : ℕ) (o : Option ℕ) → own.asker ≡ Some m → place_of m (numbers_of p.seats) ≡ o → passed_at (Some m) (on_seat_where o (told b) p).seats ≡ false
    at_it m None asks place = ap (λ (o : Option ℕ). is_passed_in (seat_in o p.seats)) place
    at_it m (Some i) asks place = there m i asks place

    by : (o : Option ℕ) → x.asker ≡ o → passed_at x.asker (on_seat_where (seat_for own p.seats) (told b) p).seats ≡ false
    by None is = ap (λ (o : Option ℕ). passed_at o (on_seat_where (seat_for own p.seats) (told b) p).seats) is
    by (Some m) is =
        let asks : own.asker ≡ Some m = still m is in
        ap (λ (o : Option ℕ). passed_at o (on_seat_where (seat_for own p.seats) (told b) p).seats) is
        ∙ ap (λ (o : Option ℕ). passed_at (Some m) (on_seat_where (option_and_then (λ (c : ℕ). place_of c (numbers_of p.seats)) o) (told b) p).seats) asks
        ∙ at_it m (place_of m (numbers_of p.seats)) asks refl

-- ---- what comes is nobody's

-- an exchange as it was read when its head came, and as it stands
pub record IsRead (n : ℕ) (own : SeatExchange) (e : Exchange) (x : Entry) (now : Exchange) : Type 0 where
  pub number : own.number ≡ n
  pub law : e.number ≡ n
  pub asker : own.asker ≡ e.asker
  pub still : (m : ℕ) → x.exchange.asker ≡ Some m → own.asker ≡ Some m

same_body : (e now : Exchange) (body : Body) (s : State) → now.number ≡ e.number → use_body now body s ≡ use_body e body s
unfolding use_body
same_body e now body s same = ap (λ (m : ℕ). on_exchange m (λ x. record x { body = body }) s) same

same_clients : (e : Exchange) (body : Body) (s : State) → (use_body e body s).clients ≡ s.clients
unfolding use_body on_exchange
same_clients e body s = refl

pub still_for : (e : Exchange) (body : Body) (s : State) (P : Client → Type 0) → IsFor s e P → IsFor (use_body e body s) e P
still_for e body s P each = λ m c asks found. each m c asks (ap (λ (cs : List Client). find (is_client m) cs) (sym (same_clients e body s)) ∙ found)

seats_alike : (o : Option ℕ) (f : Seat → Seat) (p : Parts) (flow : Exchanges) → (on_seat_where o f (with_flow flow p)).seats ≡ (on_seat_where o f p).seats
seats_alike None f p flow = refl
seats_alike (Some i) f p flow = refl

pub told_dropped : (number : ℕ → ℕ) (name : Bytes) (l : Leaving) (peers : List Peer) (p : Parts) (s : State) → ShowsSteps number name l peers p s → (n : ℕ) (own : SeatExchange) (e : Exchange) (x : Entry) (now : Exchange) (b : SeatBrought) (d : Brought)
    → IsAnswered n p s x now → IsRead n own e x now → IsFor s e Stands → is_some (passed_in b) ≡ false → TellsAs number b d → ShowsSteps number name l peers (noted_body n (told_to own b (bound_by n None p))) (tell e d (use_body e Dropping s))
told_dropped number name l peers p s shows n own e x now b d answered read stands none fits =
    subst (λ (q : Parts). ShowsSteps number name l peers q (tell e d (use_body e Dropping s))) (sym is)
    (tells number name l peers (with_flow (headed n None (IsDropping 0) x p.flow) p) (use_body e Dropping s) dropped own e b d read.asker (still_for e Dropping s Stands stands) fits)
  where
    at : Option ℕ
    at = seat_for own p.seats

    dropped : ShowsSteps number name l peers (with_flow (headed n None (IsDropping 0) x p.flow) p) (use_body e Dropping s)
    dropped =
        subst (λ (t : State). ShowsSteps number name l peers (with_flow (headed n None (IsDropping 0) x p.flow) p) t) (same_body e now Dropping s (number_is n s now answered.there ∙ sym read.law))
        (heads number name l peers p s shows n x now None (IsDropping 0) Dropping answered tt tt)

    unpassed : is_passed x.exchange (on_seat_where at (told b) p).seats ≡ false
    unpassed = not_passed number name l peers p s shows x.exchange own e b none read.asker read.still stands

    is : noted_body n (told_to own b (bound_by n None p)) ≡ on_seat_where at (told b) (with_flow (headed n None (IsDropping 0) x p.flow) p)
    is =
        ap (noted_body n) (on_seats at (told b) (bound_by n None p))
        ∙ ap (λ (seats : List Seat). noted_body n (record (bound_by n None p) { seats = seats })) (seats_alike at (told b) p (bound_by n None p).flow)
        ∙ noted_behind n p x None (on_seat_where at (told b) p).seats answered.placed (none_waits number l p.flow s shows.shows.exchanges n x answered.placed)
        ∙ ap (λ (t : Bool). record (with_flow (headed n None (body_by None t) x p.flow) p) { seats = (on_seat_where at (told b) p).seats }) unpassed
        ∙ ap (λ (seats : List Seat). record (with_flow (headed n None (IsDropping 0) x p.flow) p) { seats = seats }) (sym (seats_alike at (told b) p (headed n None (IsDropping 0) x p.flow)))
        ∙ sym (on_seats at (told b) (with_flow (headed n None (IsDropping 0) x p.flow) p))

pub there_too : (number : ℕ → ℕ) (name : Bytes) (l : Leaving) (peers : List Peer) (p : Parts) (s : State) → ShowsSteps number name l peers p s → (n : ℕ) (x : Entry) (e : Exchange) → IsAnswered n p s x e → IsThere n p s x e
there_too number name l peers p s shows n x e answered =
    record { here = entry_placed n p.flow x (none_waits number l p.flow s shows.shows.exchanges n x answered.placed) answered.placed; there = answered.there }

-- as it stands
pub read_now : (number : ℕ → ℕ) (name : Bytes) (l : Leaving) (peers : List Peer) (p : Parts) (s : State) → ShowsSteps number name l peers p s → (n : ℕ) (x : Entry) (e : Exchange) → IsAnswered n p s x e → IsRead n x.exchange e x e
read_now number name l peers p s shows n x e answered = record { number = shown.number ∙ number_is n s e answered.there; law = number_is n s e answered.there; asker = shown.asker; still = λ m is. is }
  where
    shown : ShowsExchange number x e
    shown = same_entry number name l peers p s shows n x e (there_too number name l peers p s shows n x e answered)

pub drop_read : (number : ℕ → ℕ) (name : Bytes) (l : Leaving) (peers : List Peer) (p : Parts) (s : State) → ShowsSteps number name l peers p s → (n : ℕ) (own : SeatExchange) (e : Exchange) (x : Entry) (now : Exchange) → IsAnswered n p s x now → IsRead n own e x now
    → IsFor s e Stands → ShowsSteps number name l peers (noted_body n (unusable own p)) (drop_answer e s)
unfolding drop_answer
drop_read number name l peers p s shows n own e x now answered read stands =
    subst (λ (m : ℕ). ShowsSteps number name l peers (noted_body n (told_to own NoneOfUse (bound_by m None p))) (tell e Useless (use_body e Dropping s))) (sym read.number)
    (told_dropped number name l peers p s shows n own e x now NoneOfUse Useless answered read stands refl tt)

pub drops : DropsAreTheLaws
drops number name l peers p s shows n x e answered stands = drop_read number name l peers p s shows n x.exchange e x e answered (read_now number name l peers p s shows n x e answered) stands
