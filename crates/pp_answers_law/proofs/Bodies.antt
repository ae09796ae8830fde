-- What becomes of the body of a response whose head came.
use Rattle.std.proofs.Common.{◌≡◌, refl, ap, ◌∙◌, ℕ, zero, suc, Bool, true, false, cond, find, List, [], ◌∷◌, Some, None, Option}
use Rattle.std.specs.Prelude.{option_map, slice_get, slice_set}
use Rattle.pp_cache.specs.Memory.{Memory}
use Rattle.pp_cache_law.proofs.Framing.{frames_of, the_same}
use Rattle.pp_flow.specs.Changes.{Exchanges, changed, entry_of, first_of, with_errand}
use Rattle.pp_flow.specs.Entries.{bound_to, is_number}
use Rattle.pp_flow.specs.declared.entry.Entry.{Entry}
use Rattle.pp_flow.specs.declared.errand.Body.{Body as ErrandBody}
use Rattle.pp_flow_law.proofs.Entries.{find_changed, none_some}
use Rattle.pp_flow_law.proofs.Errands.{heads as flow_heads}
use Rattle.pp_flow_law.specs.Tables.{Leaving}
use Rattle.pp_law.specs.Connections.{on_exchange}
use Rattle.pp_law.specs.Lists.{Bytes}
use Rattle.pp_law.specs.OwnHeads.{use_body}
use Rattle.pp_law.specs.State.{State, Body, Exchange}
use Rattle.pp_peers.specs.declared.peers.Peer.{Peer}
use Rattle.pp_seats.specs.declared.seat.Seat.{Seat}
use Rattle.pp_seats_law.specs.Exchanges.{Binding, ShowsBody}
use Rattle.pp_states_law.proofs.Asked.{all_as, frames, one_as}
use Rattle.pp_states_law.specs.States.{ShowsState}
use Rattle.pp_state.specs.Bodies.{body_by, is_passed, with_body, with_body_for}
use Rattle.pp_state.specs.Ends.{Parts, bound_by, on_seat_where}
use Rattle.pp_answers.specs.FinalHeads.{noted_body}
use Rattle.pp_states_law.proofs.Told.{told_asked, told_next}
use Rattle.pp_states_law.specs.Steps.{ShowsSteps, whole}
use Rattle.pp_states_law.specs.Told.{AreTold, EachIsTold, IsToldBy}
use Rattle.pp_answers_law.specs.Answers.{IsAnswered}

-- ---- its head came, and its body belongs there

abbrev pub headed : ℕ → Option Binding → ErrandBody → Entry → Exchanges → Exchanges
headed n to body x f = with_errand n (record x.errand { body = body }) (record f { placed = changed n (bound_to to) f.placed })

abbrev pub with_flow : Exchanges → Parts → Parts
with_flow f p = record p { flow = f }

state_headed : (number : ℕ → ℕ) (name : Bytes) (l : Leaving) (peers : List Peer) (p : Parts) (s : State) → ShowsState number name [] l (whole p peers) s → (n : ℕ) (x : Entry) (e : Exchange) (to : Option Binding) (body : ErrandBody) (other : Body) → IsAnswered n p s x e
    → ShowsBody number body true to other → ShowsState number name [] l (whole (with_flow (headed n to body x p.flow) p) peers) (use_body e other s)
unfolding use_body on_exchange
state_headed number name l peers p s shows n x e to body other answered fits = record {
  clients = shows.clients;
  exchanges = flow_heads number l p.flow s shows.exchanges n x e to body other answered.placed answered.there fits;
  table =
      frames_of number p.cache s shows.table p.cache (use_body e other s) (record { instances = refl; lives = refl; chunks = refl; extents = refl })
      (record { instances = refl; made = the_same s.next_instance; chunks = refl; followers = λ id. refl; kept = λ y. refl });
  conns =
      frames s (use_body e other s) peers s.conns
      (all_as s (use_body e other s) (λ m. one_as e.number m (λ d. record d { body = other }) (λ d. refl) (λ d. record { to_head = refl; asked = refl; text = refl; alone = refl }) s.exchanges) s.conns) shows.conns;
}

-- what it is bound to is told by its number
abbrev pub TellsBound : (ℕ → ℕ) → Parts → State → Option Binding → Type 0
TellsBound number p s to = IsToldBy number p.cache s.next_instance to

each_bound : (number : ℕ → ℕ) (m : Memory) (next n : ℕ) (to : Option Binding) (xs : List Entry) → IsToldBy number m next to → EachIsTold number m next xs → EachIsTold number m next (changed n (bound_to to) xs)
each_bound number m next n to [] one told = tt
each_bound number m next n to (x ∷ xs) one told = by (is_number n x) (each_bound number m next n to xs one told.1)
  where
    by : (b : Bool) → EachIsTold number m next (changed n (bound_to to) xs) → EachIsTold number m next (cond b (bound_to to x ∷ xs) (x ∷ changed n (bound_to to) xs))
    by true rest = (one, told.1)
    by false rest = (told.0, rest)

told_headed : (number : ℕ → ℕ) (m : Memory) (next n : ℕ) (to : Option Binding) (body : ErrandBody) (x : Entry) (f : Exchanges) → IsToldBy number m next to → AreTold number m next f → AreTold number m next (headed n to body x f)
told_headed number m next n to body x f one told =
    told_asked number m next n (record x.errand { body = body }) (record f { placed = changed n (bound_to to) f.placed })
    (record { waiting = told.waiting; placed = each_bound number m next n to f.placed one told.placed })

body_next : (e : Exchange) (other : Body) (s : State) → (use_body e other s).next_instance ≡ s.next_instance
unfolding use_body on_exchange
body_next e other s = refl

pub heads : (number : ℕ → ℕ) (name : Bytes) (l : Leaving) (peers : List Peer) (p : Parts) (s : State) → ShowsSteps number name l peers p s → (n : ℕ) (x : Entry) (e : Exchange) (to : Option Binding) (body : ErrandBody) (other : Body) → IsAnswered n p s x e
    → ShowsBody number body true to other → TellsBound number p s to → ShowsSteps number name l peers (with_flow (headed n to body x p.flow) p) (use_body e other s)
heads number name l peers p s shows n x e to body other answered fits one = record {
  shows = state_headed number name l peers p s shows.shows n x e to body other answered fits;
  order = shows.order;
  told = told_next number p.cache s.next_instance (use_body e other s).next_instance (headed n to body x p.flow) (body_next e other s) (told_headed number p.cache s.next_instance n to body x p.flow one shows.told);
  refused = shows.refused;
}

-- ---- what is noted of it behind that

pub body_noted : (n : ℕ) (f : Exchanges) (x : Entry) (to : Option Binding) (seats : List Seat) → find (is_number n) f.placed ≡ Some x → find (is_number n) f.waiting ≡ None
    → with_body n seats (record f { placed = changed n (bound_to to) f.placed }) ≡ headed n to (body_by to (is_passed x.exchange seats)) x f
body_noted n f x to seats here none = ap (λ (o : Option Entry). with_body_for o n seats (record f { placed = changed n (bound_to to) f.placed })) entry
  where
    entry : entry_of n (record f { placed = changed n (bound_to to) f.placed }) ≡ Some (bound_to to x)
    entry =
        ap (λ (o : Option Entry). first_of o (find (is_number n) (changed n (bound_to to) f.placed))) none
        ∙ find_changed n (bound_to to) (λ y. (refl, refl)) f.placed
        ∙ ap (λ (o : Option Entry). option_map (bound_to to) o) here

abbrev with_seats : List Seat → Parts → Parts
with_seats seats p = record p { seats = seats }

-- where only clients change between
pub noted_behind : (n : ℕ) (p : Parts) (x : Entry) (to : Option Binding) (seats : List Seat) → find (is_number n) p.flow.placed ≡ Some x → find (is_number n) p.flow.waiting ≡ None
    → noted_body n (record (bound_by n to p) { seats = seats }) ≡ record (with_flow (headed n to (body_by to (is_passed x.exchange seats)) x p.flow) p) { seats = seats }
noted_behind n p x to seats here none = ap (λ (f : Exchanges). record p { seats = seats; flow = f }) (body_noted n p.flow x to seats here none)

-- the client of an exchange changes what stands in its seat
pub on_seats : (o : Option ℕ) (f : Seat → Seat) (p : Parts) → on_seat_where o f p ≡ record p { seats = (on_seat_where o f p).seats }
on_seats None f p = refl
on_seats (Some i) f p = refl

pub on_flow : (o : Option ℕ) (f : Seat → Seat) (p : Parts) (flow : Exchanges) → on_seat_where o f (with_flow flow p) ≡ with_flow flow (on_seat_where o f p)
on_flow None f p flow = refl
on_flow (Some i) f p flow = refl

-- its place holds another seat now
pub get_set : (i : ℕ) (seats : List Seat) (seat new : Seat) → slice_get seats i ≡ Some seat → slice_get (slice_set seats i new) i ≡ Some new
get_set i [] seat new there = absurd (none_some seat there)
get_set zero (first ∷ seats) seat new there = refl
get_set (suc i) (first ∷ seats) seat new there = get_set i seats seat new there
