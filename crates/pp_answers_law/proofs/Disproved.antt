-- What GET and HEAD show of a row outdates it, as the law has it.
use Rattle.std.proofs.Common.{◌≡◌, refl, sym, subst, ap, ap₂, ◌∙◌, ℕ, Bool, true, false, not, ◌==◌, ◌&&◌, ◌||◌, cond, find, List, [], ◌∷◌, ◌++◌, Some, None, Option, arith, nat_lt}
use Rattle.std.proofs.lemmas.Bool.Decides.{nat_tests}
use Rattle.std.specs.List.{list_any}
use Rattle.std.specs.Prelude.{option_and_then, slice_get}
use Rattle.pp_cache_law.proofs.Alike.{versions_of}
use Rattle.pp_cache_law.proofs.Numbers.{true_false}
use Rattle.pp_client.specs.Requests.{Front as Heading, Nothing, Begun as More, Asked as IsAsked, Refused, current_of}
use Rattle.pp_flow.specs.declared.entry.Entry.{Entry}
use Rattle.pp_flow.specs.declared.entry.Exchange.{Exchange as SeatExchange}
use Rattle.pp_flow_law.proofs.Entries.{none_some}
use Rattle.pp_flow_law.specs.Tables.{Leaving}
use Rattle.pp_framing.specs.Framing.{request_rule_of}
use Rattle.pp_head.specs.Request.{Request as AskedHead}
use Rattle.pp_head.specs.Response.{Response}
use Rattle.pp_heads_law.proofs.Ruled.{disproved as disproves_same}
use Rattle.pp_law.specs.Connections.{is_client}
use Rattle.pp_law.specs.Lists.{Bytes, is_some_with, is_this}
use Rattle.pp_law.specs.OwnHeads.{key_of, known_version as law_known}
use Rattle.pp_law.specs.Requests.{Front, NoHeadYet, NoHead, IsRequest, Parsed, body_len_by, front_of, goes_alone, is_asked_once, parsed_of}
use Rattle.pp_law.specs.Responses.{asks_head}
use Rattle.pp_law.specs.Stages.{is_through}
use Rattle.pp_law.specs.State.{State, Aim, Through, Own, Filling, Client, Exchange}
use Rattle.pp_law.specs.Table.{clear}
use Rattle.pp_law.specs.ThroughHeads.{disproved as law_disproved, disproves as law_disproves, reads as law_reads}
use Rattle.pp_peers.specs.declared.peers.Peer.{Peer}
use Rattle.pp_pipe.specs.Authentication.{binds_connection}
use Rattle.pp_plan.specs.Requests.{is_get, is_head}
use Rattle.pp_seats.specs.declared.seat.Seat.{Seat}
use Rattle.pp_seats_law.proofs.AllSeats.{places}
use Rattle.pp_seats_law.proofs.Fronts.{front_from, same_front}
use Rattle.pp_seats_law.specs.Clients.{IsAt, IsFound}
use Rattle.pp_seats_law.specs.Fronts.{StandsStill}
use Rattle.pp_seats_law.specs.Exchanges.{ShowsExchange}
use Rattle.pp_seats_law.specs.Seats.{ShowsOpen}
use Rattle.pp_state.specs.Ends.{Parts, cleared_row, known_version, numbers_of, seat_for, version_at}
use Rattle.pp_answers.specs.ThroughHeads.{disproved, gets, is_disproved, is_disproved_by, is_get_in, is_get_of, reads}
use Rattle.pp_states_law.proofs.Charged.{same_entry}
use Rattle.pp_states_law.proofs.Places.{HasPlace, HasSeat, at_place, has_none, has_place, has_seat}
use Rattle.pp_states_law.specs.Charges.{IsFor}
use Rattle.pp_states_law.specs.Steps.{ShowsSteps}
use Rattle.pp_valid.specs.declared.version.Version.{Version}
use Rattle.pp_answers_law.specs.Answers.{Asks, IsAnswered, Stands}
use Rattle.pp_answers_law.specs.Disproving.{DisprovedAreTheLaws, GoesWithClient, HasClient}
use Rattle.pp_answers_law.proofs.Dropped.{there_too}
use Rattle.pp_answers_law.proofs.Useless.{key_is, row_cleared}

-- ---- its client's request

get_in : (heading : Heading) (r : Parsed) → front_from heading ≡ IsRequest r → is_get_in heading ≡ is_get r.head.method
get_in Nothing r is = absurd (let both : NoHeadYet ≡ IsRequest r = is in cc both)
get_in More r is = absurd (let both : NoHeadYet ≡ IsRequest r = is in cc both)
get_in (IsAsked head fault) r is =
    let both : IsRequest (parsed_of head) ≡ IsRequest r = is in
    let same : parsed_of head ≡ r = cc both in
    ap (λ (q : Parsed). is_get q.head.method) same
get_in (Refused status) r is = absurd (let both : NoHead status ≡ IsRequest r = is in cc both)

pub still_now : (f now : Front) (r : Parsed) → f ≡ IsRequest r → StandsStill f now → now ≡ IsRequest r
still_now f now r is still = subst (λ (g : Front). StandsStill g now) is still

get_of : (number : ℕ → ℕ) (name : Bytes) (seat : Seat) (c : Client) (e : Exchange) → ShowsOpen number name [] seat c → Asks e c → is_get_in (current_of seat.client.heard) ≡ is_get e.head.method
get_of number name seat c e shows asks =
    get_in (current_of seat.client.heard) asks.request
    (sym (same_front (seat.client.heard.head ++ seat.client.heard.rest)) ∙ still_now c.front (front_of (seat.client.heard.head ++ seat.client.heard.rest)) asks.request asks.front shows.heard.is_front)
    ∙ ap (λ (h : AskedHead). is_get h.method) asks.head

swapped : (m n : ℕ) → (m == n) ≡ (n == m)
swapped m n = grind (arith, nat_tests)

pub any_there : (n : ℕ) (cs : List Client) (c : Client) → find (is_client n) cs ≡ Some c → list_any (λ d. is_this d.number (Some n) && true) cs ≡ true
any_there n [] c found = absurd (none_some c found)
any_there n (d ∷ cs) c found = by (is_client n d) refl found (λ e. any_there n cs c e)
  where
    by : (b : Bool) → is_client n d ≡ b → cond b (Some d) (find (is_client n) cs) ≡ Some c → (find (is_client n) cs ≡ Some c → list_any (λ i. is_this i.number (Some n) && true) cs ≡ true)
        → ((n == d.number) && true) || list_any (λ i. is_this i.number (Some n) && true) cs ≡ true
    by true is f rest = ap (λ (b : Bool). (b && true) || list_any (λ i. is_this i.number (Some n) && true) cs) (swapped n d.number ∙ is)
    by false is f rest = ap (λ (b : Bool). (b && true) || list_any (λ i. is_this i.number (Some n) && true) cs) (swapped n d.number ∙ is) ∙ rest f

gets_same : (number : ℕ → ℕ) (name : Bytes) (l : Leaving) (peers : List Peer) (p : Parts) (s : State) → ShowsSteps number name l peers p s → (x : SeatExchange) (e : Exchange) → x.asker ≡ e.asker → IsFor s e Stands → IsFor s e (Asks e) → HasClient s e
    → gets x p ≡ is_get e.head.method
gets_same number name l peers p s shows x e same stands asks has = by (seat_for x p.seats) refl
  where
    by : (o : Option ℕ) → seat_for x p.seats ≡ o → is_get_of (option_and_then (slice_get p.seats) (seat_for x p.seats)) ≡ is_get e.head.method
    by None none =
        absurd
        (true_false
        (sym (any_there has.number s.clients has.client has.there)
        ∙ ap (λ (asker : Option ℕ). list_any (λ d. is_this d.number asker && true) s.clients) (sym (same ∙ has.asker))
        ∙ (has_none number name [] x.asker p.seats s.clients shows.shows.clients none).asks (λ c. true)))
    by (Some i) at =
        let one : HasPlace x.asker (numbers_of p.seats) i = has_place x.asker (numbers_of p.seats) i at in
        let here : IsAt one.client i p.seats = at_place one.client i p.seats shows.order one.place in
        let seat : HasSeat i p.seats = has_seat one.client i p.seats here in
        let found : IsFound number name [] seat.seat one.client s.clients = places number name [] p.seats s.clients one.client i seat.seat shows.shows.clients here seat.there in
        let is_its : e.asker ≡ Some one.client = sym same ∙ one.asks in
        ap (λ (o : Option ℕ). is_get_of (option_and_then (slice_get p.seats) o)) at
        ∙ ap (λ (o : Option Seat). is_get_of o) seat.there
        ∙ get_of number name seat.seat found.client e (found.shows.going (stands one.client found.client is_its found.there).on.going) (asks one.client found.client is_its found.there)

-- ---- it reads

reads_by : (h g b k : Bool) → (b ≡ false → (g || h) ≡ true) → (b ≡ true → k ≡ g) → (h || not b || k) ≡ (g || h)
reads_by true true b k plain alone = refl
reads_by true false b k plain alone = refl
reads_by false true true k plain alone = alone refl
reads_by false false true k plain alone = alone refl
reads_by false true false k plain alone = refl
reads_by false false false k plain alone = sym (plain refl)

not_once : (a b : Bool) → (not a || b) ≡ false → a ≡ true
not_once true b is = refl
not_once false b is = absurd (true_false is)

left_false : (a b : Bool) → (a || b) ≡ false → a ≡ false
left_false true b is = absurd (true_false is)
left_false false b is = refl

plain_reads : (head : AskedHead) → goes_alone head ≡ false → (is_get head.method || is_head head.method) ≡ true
plain_reads head alone =
    not_once (is_get head.method || is_head head.method) (nat_lt 0 (body_len_by (request_rule_of head.fields))) (left_false (is_asked_once head) (binds_connection head.fields) alone)

through_asks : (e : Exchange) → is_through e ≡ true → asks_head e ≡ is_head e.head.method
through_asks e through = by e.aim through
  where
    by : (aim : Aim) → (elim aim as (λ t. Bool) [ Through ↦ true | Own ↦ false | Filling v from to ↦ false ]) ≡ true → (elim aim as (λ t. Bool) [ Through ↦ is_head e.head.method | Own ↦ false | Filling v from to ↦ false ]) ≡ is_head e.head.method
    by Through is = refl
    by Own is = absurd (true_false (sym is))
    by (Filling v from to) is = absurd (true_false (sym is))

reads_same : (number : ℕ → ℕ) (name : Bytes) (l : Leaving) (peers : List Peer) (p : Parts) (s : State) → ShowsSteps number name l peers p s → (n : ℕ) (x : Entry) (e : Exchange) → IsAnswered n p s x e → is_through e ≡ true → IsFor s e Stands → IsFor s e (Asks e)
    → GoesWithClient s e → reads x.exchange x.errand p ≡ law_reads e
reads_same number name l peers p s shows n x e answered through stands asks with =
    ap₂ (λ (h b : Bool). h || not b || gets x.exchange p) (shown.asks_head ∙ through_asks e through) (ap₂ (λ (a b : Bool). a || b) shown.is_asked_once shown.binds)
    ∙ reads_by (is_head e.head.method) (is_get e.head.method) (goes_alone e.head) (gets x.exchange p) (plain_reads e.head) (λ alone. gets_same number name l peers p s shows x.exchange e shown.asker stands asks (with alone))
  where
    shown : ShowsExchange number x e
    shown = same_entry number name l peers p s shows n x e (there_too number name l peers p s shows n x e answered)

-- ---- what is known of its key

known_same : (number : ℕ → ℕ) (name : Bytes) (l : Leaving) (peers : List Peer) (p : Parts) (s : State) → ShowsSteps number name l peers p s → (n : ℕ) (x : Entry) (e : Exchange) → IsAnswered n p s x e
    → known_version x.exchange.number p ≡ law_known s (key_of e)
known_same number name l peers p s shows n x e answered =
    ap (λ (o : Option (List ℕ)). version_at o p.cache) (key_is number name l peers p s shows n x e answered) ∙ versions_of number p.cache s shows.shows.table.table (key_of e)

and_false : (b : Bool) → false ≡ (b && false)
and_false true = refl
and_false false = refl

and_swap : (a b : Bool) → (a && b) ≡ (b && a)
and_swap true true = refl
and_swap true false = refl
and_swap false true = refl
and_swap false false = refl

tests_same : (x : Entry) (e : Exchange) (head : Response) (p : Parts) (o : Option Version) → is_disproved_by x.exchange x.errand head p o ≡ (reads x.exchange x.errand p && is_some_with (law_disproves head) o)
tests_same x e head p None = and_false (reads x.exchange x.errand p)
tests_same x e head p (Some v) = ap (λ (b : Bool). b && reads x.exchange x.errand p) (disproves_same head v) ∙ and_swap (law_disproves head v) (reads x.exchange x.errand p)

-- ---- and then the row is cleared

abbrev disproved_if : Entry → Parts → Bool → Parts
disproved_if x p b = elim b as (λ t. Parts) [ true ↦ cleared_row x.exchange.number p | false ↦ p ]

abbrev law_disproved_if : Exchange → State → Bool → State
law_disproved_if e s b = elim b as (λ t. State) [ true ↦ clear (key_of e) s | false ↦ s ]

pub law_is : (e : Exchange) (head : Response) (s : State) → law_disproved e head s ≡ law_disproved_if e s (law_reads e && is_some_with (law_disproves head) (law_known s (key_of e)))
unfolding law_disproved
law_is e head s = refl

pub disproved_same : (number : ℕ → ℕ) (name : Bytes) (l : Leaving) (peers : List Peer) (p : Parts) (s : State) → ShowsSteps number name l peers p s → (n : ℕ) (x : Entry) (e : Exchange) (head : Response) → IsAnswered n p s x e → is_through e ≡ true → IsFor s e Stands
    → IsFor s e (Asks e) → GoesWithClient s e → is_disproved x.exchange x.errand head p ≡ (law_reads e && is_some_with (law_disproves head) (law_known s (key_of e)))
disproved_same number name l peers p s shows n x e head answered through stands asks with =
    tests_same x e head p (known_version x.exchange.number p)
    ∙ ap₂ (λ (b : Bool) (o : Option Version). b && is_some_with (law_disproves head) o) (reads_same number name l peers p s shows n x e answered through stands asks with) (known_same number name l peers p s shows n x e answered)

pub disproveds : DisprovedAreTheLaws
disproveds number name l peers p s shows n x e head answered through stands asks with =
    subst (λ (t : State). ShowsSteps number name l peers (disproved x.exchange x.errand head p) t) (sym (law_is e head s))
    (subst (λ (b : Bool). ShowsSteps number name l peers (disproved_if x p b) (law_disproved_if e s (law_reads e && is_some_with (law_disproves head) (law_known s (key_of e)))))
    (sym (disproved_same number name l peers p s shows n x e head answered through stands asks with))
    (by (law_reads e && is_some_with (law_disproves head) (law_known s (key_of e)))))
  where
    by : (b : Bool) → ShowsSteps number name l peers (disproved_if x p b) (law_disproved_if e s b)
    by true = row_cleared number name l peers p s shows n x e answered
    by false = shows
