-- What the request of an exchange is told, where it has no reply yet, is what the law tells it.
use Rattle.std.proofs.Common.{◌≡◌, refl, sym, subst, ap, ◌∙◌, ℕ, Bool, true, false, cond, find, List, [], Some, None, Option}
use Rattle.std.specs.Prelude.{slice_get}
use Rattle.pp_client.specs.declared.reply.Stage.{Stage as SaidStage}
use Rattle.pp_client.specs.declared.reply.Stage.TheVariants.{Due}
use Rattle.pp_flow.specs.declared.entry.Exchange.{Exchange as SeatExchange}
use Rattle.pp_flow_law.specs.Tables.{Leaving}
use Rattle.pp_law.specs.Connections.{is_client, on_client_of}
use Rattle.pp_law.specs.Lists.{Bytes}
use Rattle.pp_law.specs.Requests.{Front, NoHeadYet, NoHead, IsRequest, has_request}
use Rattle.pp_law.specs.Stages.{is_begun}
use Rattle.pp_law.specs.State.{State, Awaited, Brought, Client, Exchange, Joins, Passes, TooWide, Useless}
use Rattle.pp_peers.specs.declared.peers.Peer.{Peer}
use Rattle.pp_seats.specs.Courses.{has_begun}
use Rattle.pp_seats.specs.declared.seat.Brought.{Brought as SeatBrought}
use Rattle.pp_seats.specs.declared.seat.Brought.TheVariants.{Awaited as NoneYet, Useless as NoneOfUse, Joins as JoinsRow, Passes as PassesOn, TooWide as IsTooWide, Refused}
use Rattle.pp_seats.specs.declared.seat.Seat.{Seat}
use Rattle.pp_seats_law.proofs.Begins.{reply_due}
use Rattle.pp_seats_law.proofs.Stages.{begun}
use Rattle.pp_seats_law.specs.Replies.{IsBroughtFor, IsPipedFor, ShowsFate, course_of}
use Rattle.pp_seats_law.specs.Seats.{ShowsOpen, ShowsSeat}
use Rattle.pp_states_law.specs.Clients.{FollowsOn}
use Rattle.pp_state.specs.Ends.{Parts, numbers_of, on_seat_where, seat_for, told, told_to}
use Rattle.pp_states_law.proofs.Charged.{course_shown, on_asker}
use Rattle.pp_states_law.proofs.Places.{HasNone, HasPlace, has_none, has_place}
use Rattle.pp_states_law.specs.Steps.{ShowsSteps}
use Rattle.pp_answers_law.proofs.Orders.{follow_told, tell_is, told_client, told_client_if}
use Rattle.pp_answers_law.specs.Answers.{Stands, TellsAreTheLaws, TellsAs}

-- ---- the client of an exchange is changed, where it is there

pub record GoesAlong (number : ℕ → ℕ) (name : Bytes) (p : Parts) (s : State) (e : Exchange) (f : Seat → Seat) (g : Client → Client) : Type 0 where
  pub follows : FollowsOn g
  pub id : (seat : Seat) → (f seat).client.id ≡ seat.client.id
  pub shows : (n i : ℕ) (seat : Seat) (c : Client) → e.asker ≡ Some n → slice_get p.seats i ≡ Some seat → find (is_client n) s.clients ≡ Some c → ShowsSeat number name [] seat c → ShowsSeat number name [] (f seat) (g c)

nobody_there : (e : Exchange) (g : Client → Client) (s : State) → HasNone e.asker s.clients → on_client_of e g s ≡ s
unfolding on_client_of
nobody_there e g s none = ap (λ (cs : List Client). record s { clients = cs }) (none.changes g)

pub asker_changed : (number : ℕ → ℕ) (name : Bytes) (l : Leaving) (peers : List Peer) (p : Parts) (s : State) → ShowsSteps number name l peers p s → (x : SeatExchange) (e : Exchange) (f : Seat → Seat) (g : Client → Client) → x.asker ≡ e.asker
    → GoesAlong number name p s e f g → ShowsSteps number name l peers (on_seat_where (seat_for x p.seats) f p) (on_client_of e g s)
asker_changed number name l peers p s shows x e f g same goes = by (seat_for x p.seats) refl
  where
    by : (o : Option ℕ) → seat_for x p.seats ≡ o → ShowsSteps number name l peers (on_seat_where o f p) (on_client_of e g s)
    by None none =
        subst (λ (t : State). ShowsSteps number name l peers p t)
        (sym (nobody_there e g s (subst (λ (asker : Option ℕ). HasNone asker s.clients) same (has_none number name [] x.asker p.seats s.clients shows.shows.clients none)))) shows
    by (Some i) at =
        let one : HasPlace x.asker (numbers_of p.seats) i = has_place x.asker (numbers_of p.seats) i at in
        let asks : e.asker ≡ Some one.client = sym same ∙ one.asks in
        on_asker number name l peers p s shows e one.client i f g asks one.place
        (record { follows = goes.follows; id = goes.id; shows = λ seat c there found shown. goes.shows one.client i seat c asks there found shown })

-- ---- where no reply has begun, none is said

pub is_due : (number : ℕ → ℕ) (name : Bytes) (owed : List Bytes) (seat : Seat) (c : Client) → ShowsOpen number name owed seat c → has_begun seat ≡ false → seat.client.reply.stage ≡ Due
is_due number name owed seat c shows none = reply_due number seat.client.reply seat.stage c.stage shows.stage (sym (begun number name owed seat c shows) ∙ none)

-- ---- one seat

abbrev told_seat_if : SeatBrought → Seat → Bool → Seat
told_seat_if b seat t = cond t seat (record seat { brought = b })

fate_as : (number : ℕ → ℕ) (name : Bytes) (seat : Seat) (c : Client) (b : SeatBrought) (d : Brought) → TellsAs number b d → course_of seat.course ≡ c.course → ShowsFate number name [] seat.client.reply seat.course b (record c { brought = d })
fate_as number name seat c NoneYet d tells same = absurd tells
fate_as number name seat c (PassesOn x) d tells same = absurd tells
fate_as number name seat c Refused d tells same = absurd tells
fate_as number name seat c NoneOfUse Awaited tells same = absurd tells
fate_as number name seat c NoneOfUse Useless tells same = (same, tt)
fate_as number name seat c NoneOfUse (Joins n plain) tells same = absurd tells
fate_as number name seat c NoneOfUse (Passes p) tells same = absurd tells
fate_as number name seat c NoneOfUse TooWide tells same = absurd tells
fate_as number name seat c (JoinsRow id plain) Awaited tells same = absurd tells
fate_as number name seat c (JoinsRow id plain) Useless tells same = absurd tells
fate_as number name seat c (JoinsRow id plain) (Joins n other) tells same = (same, tells)
fate_as number name seat c (JoinsRow id plain) (Passes p) tells same = absurd tells
fate_as number name seat c (JoinsRow id plain) TooWide tells same = absurd tells
fate_as number name seat c IsTooWide Awaited tells same = absurd tells
fate_as number name seat c IsTooWide Useless tells same = absurd tells
fate_as number name seat c IsTooWide (Joins n plain) tells same = absurd tells
fate_as number name seat c IsTooWide (Passes p) tells same = absurd tells
fate_as number name seat c IsTooWide TooWide tells same = (same, tt)

pub asked_as : (front : Front) (b : SeatBrought) → has_request front ≡ true → IsBroughtFor front b
asked_as NoHeadYet b there = absurd (let not_so : false ≡ true = there in cc not_so)
asked_as (NoHead status) b there = tt
asked_as (IsRequest r) b there = tt

pub piped_as : (stage : SaidStage) (b : SeatBrought) → stage ≡ Due → IsPipedFor stage b
piped_as stage b is = subst (λ (t : SaidStage). IsPipedFor t b) (sym is) tt

told_open : (number : ℕ → ℕ) (name : Bytes) (seat : Seat) (c : Client) (b : SeatBrought) (d : Brought) → TellsAs number b d → Stands c → ShowsSeat number name [] seat c → ShowsOpen number name [] seat c → has_begun seat ≡ false
    → ShowsOpen number name [] (record seat { brought = b }) (record c { brought = d })
told_open number name seat c b d tells stands shown shows none = record {
  hung_up = shows.hung_up;
  mark = shows.mark;
  heard = shows.heard;
  body = shows.body;
  over = shows.over;
  front = shows.front;
  body_left = shows.body_left;
  index = shows.index;
  stage = shows.stage;
  waits_on = shows.waits_on;
  fate = fate_as number name seat c b d tells (course_shown number name seat c shown stands.on);
  asked = asked_as c.front b stands.request;
  piped = piped_as seat.client.reply.stage b (is_due number name [] seat c shows none);
  given_up = shows.given_up;
  interim = shows.interim;
  before_body = shows.before_body;
  closes = shows.closes;
}

told_one : (number : ℕ → ℕ) (name : Bytes) (seat : Seat) (c : Client) (b : SeatBrought) (d : Brought) → TellsAs number b d → Stands c → ShowsSeat number name [] seat c → ShowsSeat number name [] (told b seat) (told_client d c)
told_one number name seat c b d tells stands shown = by (has_begun seat) refl
  where
    same : has_begun seat ≡ is_begun c
    same = begun number name [] seat c (shown.going stands.on.going)

    by : (t : Bool) → has_begun seat ≡ t → ShowsSeat number name [] (told b seat) (told_client d c)
    by true is =
        subst (λ (u : Seat). ShowsSeat number name [] u (told_client d c)) (ap (λ (t : Bool). told_seat_if b seat t) (sym is))
        (subst (λ (u : Client). ShowsSeat number name [] seat u) (ap (λ (t : Bool). told_client_if d c t) (sym is ∙ same)) shown)
    by false is =
        subst (λ (u : Seat). ShowsSeat number name [] u (told_client d c)) (ap (λ (t : Bool). told_seat_if b seat t) (sym is))
        (subst (λ (u : Client). ShowsSeat number name [] (record seat { brought = b }) u) (ap (λ (t : Bool). told_client_if d c t) (sym is ∙ same))
        (record { number = shown.number; closing = shown.closing; going = λ goes. told_open number name seat c b d tells stands shown (shown.going goes) is }))

pub told_id : (b : SeatBrought) (seat : Seat) → (told b seat).client.id ≡ seat.client.id
told_id b seat = by (has_begun seat)
  where
    by : (t : Bool) → (told_seat_if b seat t).client.id ≡ seat.client.id
    by true = refl
    by false = refl

pub tells : TellsAreTheLaws
tells number name l peers p s shows x e b d same stands fits =
    subst (λ (t : State). ShowsSteps number name l peers (told_to x b p) t) (sym (tell_is e d s))
    (asker_changed number name l peers p s shows x e (told b) (told_client d) same
    (record { follows = follow_told d; id = told_id b; shows = λ n i seat c asks there found shown. told_one number name seat c b d fits (stands n c asks found) shown }))
