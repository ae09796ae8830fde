-- A response is passed to the request that waits for it, or dropped, as the law has it.
use Rattle.std.proofs.Common.{◌≡◌, refl, sym, subst, ap, ap₂, ◌∙◌, ℕ, Bool, true, false, not, ◌&&◌, length, List, [], Some, None, Option}
use Rattle.std.specs.List.{list_any}
use Rattle.std.specs.Prelude.{is_some, option_and_then, slice_set}
use Rattle.pp_client.specs.Clients.{IsAnswerable}
use Rattle.pp_client.specs.Replies.{Reply as Said, has_begun as said_begun}
use Rattle.pp_client.specs.Requests.{current_of, is_answerable}
use Rattle.pp_client.specs.declared.reply.Stage.{Stage as SaidStage}
use Rattle.pp_client.specs.declared.reply.Stage.TheVariants.{Due, Begun}
use Rattle.pp_flow.specs.Changes.{Exchanges}
use Rattle.pp_flow.specs.declared.entry.Exchange.{Exchange as SeatExchange}
use Rattle.pp_flow_law.proofs.Standing.{none_waits}
use Rattle.pp_flow_law.specs.Tables.{Leaving}
use Rattle.pp_framing.specs.declared.body.BodyRule.{BodyRule}
use Rattle.pp_framing.specs.declared.body.BodyRule.TheVariants.{Empty, Length, Chunked, ToEnd}
use Rattle.pp_head.specs.Request.{Request as AskedHead}
use Rattle.pp_head.specs.Response.{Response}
use Rattle.pp_law.specs.Lists.{Bytes, is_this}
use Rattle.pp_law.specs.OwnHeads.{is_asked_by, relay_head, tell, use_body}
use Rattle.pp_law.specs.Passing.{is_coded as law_is_coded, passed_by}
use Rattle.pp_law.specs.Requests.{Front, Parsed, IsRequest}
use Rattle.pp_law.specs.Stages.{is_begun, passed_of}
use Rattle.pp_law.specs.State.{State, Body, Client, Dropping, Exchange, Passed, Passes, Relaying, Reply, Stage, Undecided, Waiting, Passing, Answering}
use Rattle.pp_peers.specs.declared.peers.Peer.{Peer}
use Rattle.pp_pass.specs.Pipe.{Pipe, started}
use Rattle.pp_reply.specs.Texts.{passed_head}
use Rattle.pp_seats.specs.Courses.{has_begun, has_begun_in}
use Rattle.pp_seats.specs.Follows.{answer_in}
use Rattle.pp_seats.specs.declared.seat.Answer.{Answer}
use Rattle.pp_seats.specs.Heads.{asked_in}
use Rattle.pp_seats.specs.Seats.{passed_in}
use Rattle.pp_seats.specs.declared.front.Asked.{Asked}
use Rattle.pp_seats.specs.declared.front.Front.{Front as SeatFront}
use Rattle.pp_seats.specs.declared.front.Front.TheVariants.{NoHeadYet as NoneYet, NoHead as NoneThere, Request}
use Rattle.pp_seats.specs.declared.seat.Brought.TheVariants.{Passes as PassesOn}
use Rattle.pp_seats.specs.declared.seat.Passed.{Passed as SeatPassed}
use Rattle.pp_seats.specs.declared.seat.PassedEnd.TheVariants.{Coming}
use Rattle.pp_seats.specs.declared.seat.Seat.{Seat}
use Rattle.pp_seats.specs.declared.seat.Stage.{Stage as SeatStage}
use Rattle.pp_seats.specs.declared.seat.Stage.TheVariants.{Undecided as IsUndecided, Waiting as IsWaiting, Passing as IsPassing, Answering as IsAnswering}
use Rattle.pp_seats_law.proofs.AllSeats.{places}
use Rattle.pp_seats_law.proofs.Begins.{may_begin}
use Rattle.pp_seats_law.proofs.Stages.{begun, passed}
use Rattle.pp_seats_law.specs.Clients.{IsAt, IsFound}
use Rattle.pp_seats_law.specs.Exchanges.{ShowsBody}
use Rattle.pp_seats_law.specs.Fronts.{ShowsAsked, ShowsFront}
use Rattle.pp_seats_law.specs.Replies.{IsHeadKept, ShowsPassed, ShowsSaid, ShowsStage, passed_text}
use Rattle.pp_seats_law.specs.Seats.{ShowsOpen, ShowsSeat}
use Rattle.pp_state.specs.Bodies.{body_by, is_passed, is_passed_in, on_asker, on_place, seat_in}
use Rattle.pp_state.specs.Ends.{Parts, bound_by, changed_at, numbers_of, on_seat_where, place_of, seat_for}
use Rattle.pp_answers.specs.FinalHeads.{noted_body}
use Rattle.pp_state.specs.Passing.{head_for, is_coded, may_answer, passed_on, passed_to, with_head}
use Rattle.pp_states_law.proofs.Charged.{course_shown}
use Rattle.pp_states_law.proofs.Places.{HasPlace, HasSeat, at_place, has_none, has_place, has_seat, numbers_set, one_asks}
use Rattle.pp_states_law.specs.Charges.{IsFor}
use Rattle.pp_states_law.specs.Steps.{ShowsSteps}
use Rattle.pp_answers_law.specs.Answers.{Asks, Stands}
use Rattle.pp_answers_law.specs.Passing.{RelaysAreTheLaws}
use Rattle.pp_answers_law.proofs.Bodies.{get_set, headed, heads, noted_behind, with_flow}
use Rattle.pp_answers_law.proofs.Dropped.{IsRead, none_passed, read_now, still_for}
use Rattle.pp_answers_law.proofs.Orders.{follow_told, tell_is, told_client, told_client_if}
use Rattle.pp_answers_law.proofs.Told.{asked_as, asker_changed, piped_as}

-- ---- where its reply has begun it stays

said_by : (stage : SaidStage) (text : Bytes) (a : Answer) (r : Reply) → ShowsSaid stage text a r → a.has_begun ≡ true → said_begun stage ≡ true
said_by Due text a r says is = absurd (let both : true ≡ false = sym is ∙ says.due in cc both)
said_by (Begun reply) text a r says is = refl

reply_begun : (number : ℕ → ℕ) (said : Said) (stage : SeatStage) (other : Stage) → ShowsStage number said stage other → has_begun_in (answer_in stage) ≡ true → said_begun said.stage ≡ true
reply_begun number said IsUndecided other shows is = absurd (let both : false ≡ true = is in cc both)
reply_begun number said IsWaiting other shows is = absurd (let both : false ≡ true = is in cc both)
reply_begun number said IsPassing other shows is = absurd (let both : false ≡ true = is in cc both)
reply_begun number said (IsAnswering a) Undecided shows is = absurd shows
reply_begun number said (IsAnswering a) Waiting shows is = absurd shows
reply_begun number said (IsAnswering a) Passing shows is = absurd shows
reply_begun number said (IsAnswering a) (Answering r) shows is = said_by said.stage said.text a r shows.says is

none_passed_on : (name : List ℕ) (head : Response) (rule : BodyRule) (o : Option Asked) (seat : Seat) → passed_on name head rule o false seat ≡ seat
none_passed_on name head rule None seat = refl
none_passed_on name head rule (Some a) seat = refl

and_not : (a b : Bool) → b ≡ true → a && not b ≡ false
and_not true b is = ap not is
and_not false b is = refl

stays : (number : ℕ → ℕ) (name own : Bytes) (seat : Seat) (c : Client) (head : Response) (rule : BodyRule) → ShowsOpen number name [] seat c → has_begun seat ≡ true → passed_to own head rule seat ≡ seat
stays number name own seat c head rule shows is =
    ap (λ (b : Bool). passed_on own head rule (asked_in seat.front) b seat)
    (and_not (is_answerable (current_of seat.client.heard)) (said_begun seat.client.reply.stage) (reply_begun number seat.client.reply seat.stage c.stage shows.stage is))
    ∙ none_passed_on own head rule (asked_in seat.front) seat

-- ---- where none has, the response is its reply

record IsAsked (front : SeatFront) (r : Parsed) : Type 0 where
  asked : Asked
  there : asked_in front ≡ Some asked
  shows : ShowsAsked asked r

is_asked : (front : SeatFront) (r : Parsed) → ShowsFront front (IsRequest r) → IsAsked front r
is_asked NoneYet r shows = absurd shows
is_asked (NoneThere status) r shows = absurd shows
is_asked (Request a) r shows = record { asked = a; there = refl; shows = shows }

coded_same : (rule : BodyRule) (minor : ℕ) → is_coded rule minor ≡ law_is_coded rule minor
coded_same Empty minor = refl
coded_same (Length n) minor = refl
coded_same Chunked minor = refl
coded_same ToEnd minor = refl

abbrev replying : Said → Bytes → Pipe → Said
replying said text pipe = record said { text = text; pipe = pipe }

stage_with : (number : ℕ → ℕ) (said : Said) (text : Bytes) (pipe : Pipe) (stage : SeatStage) (other : Stage) → said.stage ≡ Due → ShowsStage number said stage other → ShowsStage number (replying said text pipe) stage other
stage_with number said text pipe IsUndecided Undecided due shows = shows
stage_with number said text pipe IsUndecided Waiting due shows = absurd shows
stage_with number said text pipe IsUndecided Passing due shows = absurd shows
stage_with number said text pipe IsUndecided (Answering r) due shows = absurd shows
stage_with number said text pipe IsWaiting Undecided due shows = absurd shows
stage_with number said text pipe IsWaiting Waiting due shows = shows
stage_with number said text pipe IsWaiting Passing due shows = absurd shows
stage_with number said text pipe IsWaiting (Answering r) due shows = absurd shows
stage_with number said text pipe IsPassing Undecided due shows = absurd shows
stage_with number said text pipe IsPassing Waiting due shows = absurd shows
stage_with number said text pipe IsPassing Passing due shows = shows
stage_with number said text pipe IsPassing (Answering r) due shows = absurd shows
stage_with number said text pipe (IsAnswering a) Undecided due shows = absurd shows
stage_with number said text pipe (IsAnswering a) Waiting due shows = absurd shows
stage_with number said text pipe (IsAnswering a) Passing due shows = absurd shows
stage_with number said text pipe (IsAnswering a) (Answering r) due shows = record {
  decision = shows.decision;
  source = shows.source;
  begun = shows.begun;
  says = subst (λ (t : SaidStage). ShowsSaid t text a r) (sym due) (subst (λ (t : SaidStage). ShowsSaid t said.text a r) due shows.says);
}

head_kept : (name : Bytes) (said : Said) (front : Front) (x : SeatPassed) (p : Passed) → said.stage ≡ Due → said.text ≡ passed_text name front p → x.head_len ≡ length said.text → IsHeadKept name said.stage said front x p
head_kept name said front x p due text len = subst (λ (t : SaidStage). IsHeadKept name t said front x p) (sym due) (text, len)

abbrev passing : Response → BodyRule → ℕ → SeatPassed
passing head rule len = record { status = head.status; rule = rule; head_len = len; end = Coming }

passed_shown : (name : Bytes) (seat : Seat) (c : Client) (e : Exchange) (head : Response) (rule : BodyRule) (a : Asked) (r : Parsed) → ShowsAsked a r → c.front ≡ IsRequest r → r.head ≡ e.head → seat.client.reply.stage ≡ Due
    → ShowsPassed name (replying seat.client.reply (head_for name head rule a) (started (is_coded rule a.minor))) c.front (passing head rule (length (head_for name head rule a))) (passed_by e head rule)
passed_shown name seat c e head rule a r asked front same due = record {
  rule = refl;
  pipe = ap started (ap (λ (minor : ℕ). is_coded rule minor) (asked.minor ∙ ap (λ (h : AskedHead). h.minor) same) ∙ coded_same rule e.head.minor);
  end = refl;
  head =
      head_kept name (replying seat.client.reply (head_for name head rule a) (started (is_coded rule a.minor))) c.front (passing head rule (length (head_for name head rule a))) (passed_by e head rule) due
      (ap (λ (minor : ℕ). passed_head head rule minor a.is_head name a.keeps_open) asked.minor
      ∙ ap₂ (λ (h k : Bool). passed_head head rule r.head.minor h name k) asked.is_head asked.keeps_open
      ∙ sym (ap (λ (f : Front). passed_text name f (passed_by e head rule)) front)) refl;
}

open_passed : (number : ℕ → ℕ) (name : Bytes) (seat : Seat) (c : Client) (e : Exchange) (head : Response) (rule : BodyRule) (a : Asked) (r : Parsed) → ShowsSeat number name [] seat c → Stands c → ShowsAsked a r → c.front ≡ IsRequest r → r.head ≡ e.head
    → seat.client.reply.stage ≡ Due → ShowsOpen number name [] seat c → ShowsOpen number name [] (with_head (head_for name head rule a) head rule a seat) (record c { brought = Passes (passed_by e head rule) })
open_passed number name seat c e head rule a r shown stands asked front same due shows = record {
  hung_up = shows.hung_up;
  mark = shows.mark;
  heard = shows.heard;
  body = shows.body;
  over = shows.over;
  front = shows.front;
  body_left = shows.body_left;
  index = shows.index;
  stage = stage_with number seat.client.reply (head_for name head rule a) (started (is_coded rule a.minor)) seat.stage c.stage due shows.stage;
  waits_on = shows.waits_on;
  fate = (course_shown number name seat c shown stands.on, passed_shown name seat c e head rule a r asked front same due);
  asked = asked_as c.front (PassesOn (passing head rule (length (head_for name head rule a)))) stands.request;
  piped = piped_as seat.client.reply.stage (PassesOn (passing head rule (length (head_for name head rule a)))) due;
  given_up = shows.given_up;
  interim = shows.interim;
  before_body = shows.before_body;
  closes = shows.closes;
}

-- ---- one seat

abbrev seat_passed : Seat → Bool
seat_passed seat = is_some (passed_in seat.brought)

record OnSeat (number : ℕ → ℕ) (name : Bytes) (e : Exchange) (head : Response) (rule : BodyRule) (seat : Seat) (c : Client) : Type 0 where
  shows : ShowsSeat number name [] (passed_to name head rule seat) (told_client (Passes (passed_by e head rule)) c)
  passes : seat_passed (passed_to name head rule seat) ≡ not (is_begun c)

on_seat : (number : ℕ → ℕ) (name : Bytes) (e : Exchange) (head : Response) (rule : BodyRule) (seat : Seat) (c : Client) → ShowsSeat number name [] seat c → Stands c → Asks e c → OnSeat number name e head rule seat c
on_seat number name e head rule seat c shown stands asks = by (is_begun c) refl
  where
    opened : ShowsOpen number name [] seat c
    opened = shown.going stands.on.going

    same : has_begun seat ≡ is_begun c
    same = begun number name [] seat c opened

    one : IsAsked seat.front asks.request
    one = is_asked seat.front asks.request (subst (λ (f : Front). ShowsFront seat.front f) asks.front opened.front)

    by : (b : Bool) → is_begun c ≡ b → OnSeat number name e head rule seat c
    by true is =
        let still : passed_to name head rule seat ≡ seat = stays number name name seat c head rule opened (same ∙ is) in record {
          shows =
              subst (λ (u : Seat). ShowsSeat number name [] u (told_client (Passes (passed_by e head rule)) c)) (sym still)
              (subst (λ (u : Client). ShowsSeat number name [] seat u) (ap (λ (t : Bool). told_client_if (Passes (passed_by e head rule)) c t) (sym is)) shown);
          passes =
              ap (λ (u : Seat). seat_passed u) still ∙ none_passed name seat.client.reply c.front (passed_in seat.brought) (passed_of c) (passed number name [] seat c opened) stands.untold ∙ sym (ap (λ (t : Bool). not t) is);
        }
    by false is =
        let may : IsAnswerable seat.client = may_begin number name [] seat c opened stands.request is in
        let now : passed_to name head rule seat ≡ with_head (head_for name head rule one.asked) head rule one.asked seat =
        ap₂ (λ (o : Option Asked) (b : Bool). passed_on name head rule o b seat) one.there (ap₂ (λ (a : Bool) (t : SaidStage). a && not (said_begun t)) may.current may.due) in record {
          shows =
              subst (λ (u : Seat). ShowsSeat number name [] u (told_client (Passes (passed_by e head rule)) c)) (sym now)
              (subst (λ (u : Client). ShowsSeat number name [] (with_head (head_for name head rule one.asked) head rule one.asked seat) u) (ap (λ (t : Bool). told_client_if (Passes (passed_by e head rule)) c t) (sym is))
              (record { number = shown.number; closing = shown.closing; going = λ goes. open_passed number name seat c e head rule one.asked asks.request shown stands one.shows asks.front asks.head may.due opened }));
          passes = ap (λ (u : Seat). seat_passed u) now ∙ sym (ap (λ (t : Bool). not t) is);
        }

passed_id : (name : List ℕ) (head : Response) (rule : BodyRule) (seat : Seat) → (passed_to name head rule seat).client.id ≡ seat.client.id
passed_id name head rule seat = by (asked_in seat.front) (may_answer seat.client)
  where
    by : (o : Option Asked) (b : Bool) → (passed_on name head rule o b seat).client.id ≡ seat.client.id
    by None b = refl
    by (Some a) true = refl
    by (Some a) false = refl

-- ---- what becomes of the body

abbrev passed_at : Option ℕ → List Seat → Bool
passed_at asker seats = is_passed_in (seat_in (option_and_then (λ (c : ℕ). place_of c (numbers_of seats)) asker) seats)

abbrev set_in : ℕ → (Seat → Seat) → List Seat → Option Seat → List Seat
set_in i f seats o = elim o as (λ t. List Seat) [ None ↦ seats | Some seat ↦ slice_set seats i (f seat) ]

abbrev asked_among : Option ℕ → List Client → Bool
asked_among asker cs = list_any (λ c. is_this c.number asker && not (is_begun c)) cs

its_seats : (number : ℕ → ℕ) (name : Bytes) (l : Leaving) (peers : List Peer) (p : Parts) (s : State) → ShowsSteps number name l peers p s → (x : SeatExchange) (e : Exchange) (head : Response) (rule : BodyRule) → x.asker ≡ e.asker → IsFor s e Stands → IsFor s e (Asks e)
    → is_passed x (on_asker x (passed_to name head rule) p.seats) ≡ list_any (is_asked_by e) s.clients
its_seats number name l peers p s shows x e head rule same stands asks = by x.asker refl
  where
    there : (m i : ℕ) → x.asker ≡ Some m → place_of m (numbers_of p.seats) ≡ Some i → passed_at (Some m) (changed_at i (passed_to name head rule) p.seats) ≡ asked_among (Some m) s.clients
    there m i is place =
        subst (λ (o : Option Seat). passed_at (Some m) (set_in i (passed_to name head rule) p.seats o) ≡ asked_among (Some m) s.clients) (sym one.there)
        (ap (λ (ns : List ℕ). is_passed_in (seat_in (place_of m ns) (slice_set p.seats i (passed_to name head rule one.seat)))) (numbers_set i p.seats one.seat (passed_to name head rule one.seat) one.there (passed_id name head rule one.seat))
        ∙ ap (λ (o : Option ℕ). is_passed_in (seat_in o (slice_set p.seats i (passed_to name head rule one.seat)))) place
        ∙ ap (λ (o : Option Seat). is_passed_in o) (get_set i p.seats one.seat (passed_to name head rule one.seat) one.there)
        ∙ (on_seat number name e head rule one.seat found.client found.shows (stands m found.client (sym same ∙ is) found.there) (asks m found.client (sym same ∙ is) found.there)).passes
        ∙ sym (one_asks number name [] m i (λ c. not (is_begun c)) p.seats s.clients found.client shows.shows.clients at found.there))
      where
        at : IsAt m i p.seats
        at = at_place m i p.seats shows.order place

        one : HasSeat i p.seats
        one = has_seat m i p.seats at

        found : IsFound number name [] one.seat m s.clients
        found = places number name [] p.seats s.clients m i one.seat shows.shows.clients at one.there

    at_it : (o : Option ℕ) (u : Option ℕ) → x.asker ≡ o → option_and_then (λ (c : ℕ). place_of c (numbers_of p.seats)) o ≡ u → passed_at o (on_place u (passed_to name head rule) p.seats) ≡ asked_among o s.clients
    at_it o None is place = ap (λ (i : Option ℕ). is_passed_in (seat_in i p.seats)) place ∙ sym ((has_none number name [] o p.seats s.clients shows.shows.clients place).asks (λ c. not (is_begun c)))
    at_it o (Some i) is place =
        let one : HasPlace o (numbers_of p.seats) i = has_place o (numbers_of p.seats) i place in
        subst (λ (v : Option ℕ). passed_at v (changed_at i (passed_to name head rule) p.seats) ≡ asked_among v s.clients) (sym one.asks) (there one.client i (is ∙ one.asks) one.place)

    by : (o : Option ℕ) → x.asker ≡ o → passed_at x.asker (on_place (option_and_then (λ (c : ℕ). place_of c (numbers_of p.seats)) x.asker) (passed_to name head rule) p.seats) ≡ list_any (is_asked_by e) s.clients
    by o is = at_it x.asker (option_and_then (λ (c : ℕ). place_of c (numbers_of p.seats)) x.asker) refl refl ∙ ap (λ (v : Option ℕ). asked_among v s.clients) same

-- ---- all of it

abbrev body_if : Bool → Body
body_if b = elim b as (λ t. Body) [ true ↦ Relaying | false ↦ Dropping ]

body_shown : (number : ℕ → ℕ) (b : Bool) → ShowsBody number (body_by None b) true None (body_if b)
body_shown number true = tt
body_shown number false = tt

seats_where : (o : Option ℕ) (f : Seat → Seat) (p : Parts) (flow : Exchanges) → record (with_flow flow p) { seats = on_place o f p.seats } ≡ on_seat_where o f (with_flow flow p)
seats_where None f p flow = refl
seats_where (Some i) f p flow = refl

pub relays : RelaysAreTheLaws
unfolding relay_head
relays number name l peers p s shows n x e head rule answered stands asks =
    subst (λ (m : ℕ). ShowsSteps number name l peers (noted_body n (record (bound_by m None p) { seats = on_asker x.exchange (passed_to name head rule) p.seats })) (tell e (Passes (passed_by e head rule)) (use_body e (body_if waits) s))) (sym read.number)
    (subst (λ (q : Parts). ShowsSteps number name l peers q (tell e (Passes (passed_by e head rule)) (use_body e (body_if waits) s))) (sym is)
    (subst (λ (t : State). ShowsSteps number name l peers (on_seat_where (seat_for x.exchange p.seats) (passed_to name head rule) (with_flow (headed n None (body_by None waits) x p.flow) p)) t) (sym (tell_is e (Passes (passed_by e head rule)) (use_body e (body_if waits) s)))
    (asker_changed number name l peers (with_flow (headed n None (body_by None waits) x p.flow) p) (use_body e (body_if waits) s) (heads number name l peers p s shows n x e None (body_by None waits) (body_if waits) answered (body_shown number waits) tt) x.exchange e
    (passed_to name head rule) (told_client (Passes (passed_by e head rule))) read.asker
    (record {
      follows = follow_told (Passes (passed_by e head rule));
      id = passed_id name head rule;
      shows = λ m i seat c is_m there found shown. (on_seat number name e head rule seat c shown (still_for e (body_if waits) s Stands stands m c is_m found) (still_for e (body_if waits) s (Asks e) asks m c is_m found)).shows;
    }))))
  where
    waits : Bool
    waits = list_any (is_asked_by e) s.clients

    read : IsRead n x.exchange e x e
    read = read_now number name l peers p s shows n x e answered

    is : noted_body n (record (bound_by n None p) { seats = on_asker x.exchange (passed_to name head rule) p.seats }) ≡ on_seat_where (seat_for x.exchange p.seats) (passed_to name head rule) (with_flow (headed n None (body_by None waits) x p.flow) p)
    is =
        noted_behind n p x None (on_asker x.exchange (passed_to name head rule) p.seats) answered.placed (none_waits number l p.flow s shows.shows.exchanges n x answered.placed)
        ∙ ap (λ (b : Bool). record (with_flow (headed n None (body_by None b) x p.flow) p) { seats = on_asker x.exchange (passed_to name head rule) p.seats }) (its_seats number name l peers p s shows x.exchange e head rule read.asker stands asks)
        ∙ seats_where (seat_for x.exchange p.seats) (passed_to name head rule) p (headed n None (body_by None waits) x p.flow)
