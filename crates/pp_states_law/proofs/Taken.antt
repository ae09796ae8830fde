-- Bytes of the body of a request are asked: its client sends them.
use Rattle.std.proofs.Common.{◌≡◌, ◌≤◌, ◌-◌, refl, sym, subst, ap, ◌∙◌, ℕ, Bool, true, false, length, take, drop, List, [], ◌∷◌, ◌++◌, Some, arith}
use Rattle.std.specs.Prelude.{slice_get, slice_set}
use Rattle.pp_cache_law.proofs.Framing.{frames_of, the_same}
use Rattle.pp_client.specs.Bodies.{IsIdle, IsKept, shortened, unread}
use Rattle.pp_client.specs.Replies.{Reply as Said}
use Rattle.pp_client.specs.Requests.{Heard, body_in, body_taken}
use Rattle.pp_client.specs.declared.body.Body.{Body}
use Rattle.pp_client.specs.declared.body.Body.TheVariants.{Unread, Dropped, Over}
use Rattle.pp_flow.specs.Changes.{Exchanges, entry_of, with_errand}
use Rattle.pp_flow.specs.declared.entry.Entry.{Entry}
use Rattle.pp_flow_law.proofs.Errands.{bodies as flow_bodies}
use Rattle.pp_flow_law.specs.Tables.{Leaving}
use Rattle.pp_law.specs.Asking.{ask_body, ask_next, asked_body, asked_text}
use Rattle.pp_law.specs.Connections.{is_outstanding, on_client_of, on_exchange}
use Rattle.pp_law.specs.Lists.{Bytes}
use Rattle.pp_law.specs.Requests.{Front, NoHeadYet, NoHead, IsRequest, front_of}
use Rattle.pp_law.specs.State.{State, Client, Exchange}
use Rattle.pp_seats.specs.declared.seat.Brought.{Brought as SeatBrought}
use Rattle.pp_seats.specs.declared.seat.Brought.TheVariants.{Awaited as IsAwaited, Useless, Joins, Passes, TooWide, Refused}
use Rattle.pp_seats.specs.declared.seat.Course.{Course as SeatCourse}
use Rattle.pp_seats.specs.declared.seat.Seat.{Seat}
use Rattle.pp_seats_law.proofs.Hears.{request_still}
use Rattle.pp_seats_law.specs.Fronts.{IsHeadTaken, ShowsBody, ShowsHeard, StandsStill, is_over}
use Rattle.pp_seats_law.specs.Replies.{ShowsFate}
use Rattle.pp_seats_law.specs.Seats.{ShowsOpen, ShowsSeat}
use Rattle.pp_states_law.specs.Askings.{BodiesAreTheLaws, asked_of}
use Rattle.pp_states_law.specs.States.{Parts, ShowsState}
use Rattle.pp_states_law.proofs.Alone.{same_some}
use Rattle.pp_states_law.proofs.Asked.{all_as, frames, one_as}
use Rattle.pp_states_law.proofs.Changed.{askers}
use Rattle.pp_states_law.proofs.Texts.{asks_next}

-- ---- what was heard

-- behind a head its body is read, and only there
none_there : (n : ℕ) (rest : Bytes) → n ≤ length (take 0 rest) → rest ≡ drop n rest
none_there n rest few = let zero : n ≡ 0 = none n few in ap (λ (m : ℕ). drop m rest) (sym zero)
  where
    none : (n : ℕ) → n ≤ 0 → n ≡ 0
    none n few = omega (arith, few)

still : (head rest : Bytes) (body : Body) (front : Front) (n : ℕ) → IsHeadTaken head front → StandsStill front (front_of (head ++ rest)) → IsIdle head body → n ≤ length (take (unread body) rest) → StandsStill front (front_of (head ++ drop n rest))
still [] rest (Unread m) front n taken stands idle few = absurd idle
still [] rest (Dropped m) front n taken stands idle few = subst (λ (xs : Bytes). StandsStill front (front_of xs)) (none_there n rest few) stands
still [] rest Over front n taken stands idle few = subst (λ (xs : Bytes). StandsStill front (front_of xs)) (none_there n rest few) stands
still (b ∷ head) rest body NoHeadYet n taken stands idle few = absurd taken
still (b ∷ head) rest body (NoHead status) n taken stands idle few = absurd taken
still (b ∷ head) rest body (IsRequest r) n taken stands idle few = request_still (b ∷ head) r.head (drop n rest) taken ∙ sym (request_still (b ∷ head) r.head rest taken) ∙ stands

unread_kept : (rest : Bytes) (n : ℕ) → IsKept rest (Unread n)
unread_kept [] n = tt
unread_kept (b ∷ rest) n = tt

kept : (rest : Bytes) (body : Body) (n : ℕ) → n ≤ length (take (unread body) rest) → IsKept rest body → IsKept (drop n rest) (shortened body n)
kept rest (Unread m) n few is = unread_kept (drop n rest) (m - n)
kept rest (Dropped m) n few is = subst (λ (xs : Bytes). IsKept xs (Dropped m)) (none_there n rest few) is
kept rest Over n few is = subst (λ (xs : Bytes). IsKept xs Over) (none_there n rest few) is

idle_on : (head : Bytes) (body : Body) (n : ℕ) → IsIdle head body → IsIdle head (shortened body n)
idle_on [] (Unread m) n idle = absurd idle
idle_on [] (Dropped m) n idle = tt
idle_on [] Over n idle = tt
idle_on (b ∷ head) body n idle = tt

less : (left n : ℕ) → left ≡ 0 → left - n ≡ 0
less left n none = omega (arith, none)

body_on : (body : Body) (left skip n : ℕ) → ShowsBody body left skip → ShowsBody (shortened body n) (left - n) skip
body_on (Unread m) left skip n shows = (ap (λ (k : ℕ). k - n) shows.0, shows.1)
body_on (Dropped m) left skip n shows = (less left n shows.0, shows.1)
body_on Over left skip n shows = (less left n shows.0, shows.1)

over_on : (body : Body) (n : ℕ) → is_over (shortened body n) ≡ is_over body
over_on (Unread m) n = refl
over_on (Dropped m) n = refl
over_on Over n = refl

heard_on : (h : Heard) (front : Front) (heard : Bytes) (n : ℕ) → n ≤ length (body_in h) → ShowsHeard h front heard → ShowsHeard (body_taken n h) front (drop n heard)
heard_on h front heard n few shows = record {
  is_front = still h.head h.rest h.body front n shows.head shows.is_front shows.idle few;
  head = shows.head;
  behind = ap (λ (xs : Bytes). drop n xs) shows.behind;
  kept = kept h.rest h.body n few shows.kept;
  idle = idle_on h.head h.body n shows.idle;
}

-- ---- the seat

fate_on : (number : ℕ → ℕ) (name : Bytes) (owed : List Bytes) (said : Said) (course : SeatCourse) (brought : SeatBrought) (c : Client) (n : ℕ) → ShowsFate number name owed said course brought c → ShowsFate number name owed said course brought (asked_body n c)
fate_on number name owed said course Refused c n shows = record { waits = shows.waits; joins = shows.joins; refused = shows.refused }
fate_on number name owed said course IsAwaited c n shows = shows
fate_on number name owed said course Useless c n shows = shows
fate_on number name owed said course (Joins id plain) c n shows = shows
fate_on number name owed said course (Passes x) c n shows = shows
fate_on number name owed said course TooWide c n shows = shows

open_on : (number : ℕ → ℕ) (name : Bytes) (owed : List Bytes) (seat : Seat) (c : Client) (n : ℕ) → n ≤ length (body_in seat.client.heard) → ShowsOpen number name owed seat c → ShowsOpen number name owed (asked_of n seat) (asked_body n c)
open_on number name owed seat c n few shows = record {
  hung_up = shows.hung_up;
  mark = shows.mark;
  heard = heard_on seat.client.heard c.front c.heard n few shows.heard;
  body = body_on seat.client.heard.body c.body_left c.skip n shows.body;
  over = over_on seat.client.heard.body n ∙ shows.over;
  front = shows.front;
  body_left = ap (λ (k : ℕ). k - n) shows.body_left;
  index = shows.index;
  stage = shows.stage;
  waits_on = shows.waits_on;
  fate = fate_on number name owed seat.client.reply seat.course seat.brought c n shows.fate;
  asked = shows.asked;
  piped = shows.piped;
  given_up = shows.given_up;
  interim = shows.interim;
  before_body = shows.before_body;
  closes = shows.closes;
}

pub asked_seat : (number : ℕ → ℕ) (name : Bytes) (owed : List Bytes) (seat : Seat) (c : Client) (n : ℕ) → n ≤ length (body_in seat.client.heard) → ShowsSeat number name owed seat c → ShowsSeat number name owed (asked_of n seat) (asked_body n c)
asked_seat number name owed seat c n few shows = record { number = shows.number; closing = shows.closing; going = λ going. open_on number name owed seat c n few (shows.going going) }

-- ---- the whole

abbrev asked_in : ℕ → Exchange → Exchange
asked_in m e = record e { body_left = e.body_left - m }

its_exchange : (number : ℕ → ℕ) (name : Bytes) (owed : List Bytes) (l : Leaving) (p : Parts) (s : State) → ShowsState number name owed l p s → (n m : ℕ) (x : Entry) → entry_of n p.flow ≡ Some x
    → ShowsState number name owed l (record p { flow = with_errand n (record x.errand { body_left = x.errand.body_left - m }) p.flow }) (on_exchange n (asked_in m) s)
unfolding on_exchange
its_exchange number name owed l p s shows n m x here = record {
  clients = shows.clients;
  exchanges = flow_bodies number l p.flow s shows.exchanges n m x here;
  table =
      frames_of number p.memory s shows.table p.memory (on_exchange n (asked_in m) s) (record { instances = refl; lives = refl; chunks = refl; extents = refl })
      (record { instances = refl; made = the_same s.next_instance; chunks = refl; followers = λ id. refl; kept = λ y. refl });
  conns =
      frames s (on_exchange n (asked_in m) s) p.peers s.conns
      (all_as s (on_exchange n (asked_in m) s) (λ i. one_as n i (asked_in m) (λ e. refl) (λ e. record { to_head = refl; asked = refl; text = refl; alone = refl }) s.exchanges) s.conns) shows.conns;
}

body_next : (s : State) (e : Exchange) (m : ℕ) → is_outstanding e ≡ true → ask_next e m s ≡ on_client_of e (asked_body m) (on_exchange e.number (asked_in m) s)
unfolding ask_next ask_body
body_next s e m is = ap (λ (b : Bool). elim b as (λ x. State) [ false ↦ on_exchange e.number (asked_text m s.clock) s | true ↦ on_client_of e (asked_body m) (on_exchange e.number (asked_in m) s) ]) is

pub bodies : BodiesAreTheLaws
bodies number name owed l p s shows n i m seat x e k is whole asks at here few =
    subst (λ (u : State). ShowsState number name owed l (record p { seats = slice_set p.seats i (asked_of m seat); flow = flow }) u) (sym (asks_next s k.number m e is.next ∙ body_next s e m whole))
    (askers number name owed l (record p { flow = flow }) (on_exchange e.number (asked_in m) s) (its_exchange number name owed l p s shows e.number m x is.entry) e n i (asked_of m seat) (asked_body m) asks at (λ id c. refl)
    (λ old c found there shown. asked_seat number name owed seat c m few (subst (λ (o : Seat). ShowsSeat number name owed o c) (same_some seat old (slice_get p.seats i) here found) shown)))
  where
    flow : Exchanges
    flow = with_errand e.number (record x.errand { body_left = x.errand.body_left - m }) p.flow
