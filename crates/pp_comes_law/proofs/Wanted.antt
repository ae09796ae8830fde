-- Who is read or written to was waited for: a client that the law has so.
use Rattle.std.proofs.Common.{◌≡◌, ◌⊎◌, inl, inr, refl, sym, ap, ◌∙◌, ℕ, zero, suc, Bool, true, false, ◌==◌, ◌&&◌, ◌||◌, List, [], ◌∷◌, map, Option, Some}
use Rattle.std.specs.List.{list_all, list_any}
use Rattle.std.specs.Prelude.{IsTrue, slice_get}
use Rattle.pp_comes_law.specs.Awaited.{IsAwaited}
use Rattle.pp_law.specs.State.{State, Client, Conn, Term}
use Rattle.pp_law.specs.Turn.{rest_with, rested_client, rested_conn}
use Rattle.pp_laws.proofs.Lists.{one_of}
use Rattle.pp_laws.proofs.Sound.{client_number}
use Rattle.pp_laws.proofs.Tests.{same_number}
use Rattle.pp_laws.specs.Runs.{IsIn}
use Rattle.pp_laws_sides.proofs.Linked.{numbers_rise}
use Rattle.pp_proxy.specs.Moving.{Turning}
use Rattle.pp_seats.specs.declared.seat.Seat.{Seat}
use Rattle.pp_seats_law.specs.Clients.{IsAt}
use Rattle.pp_state.specs.Ends.{numbers_of, place_of}
use Rattle.pp_states_law.proofs.Places.{HasSeat, at_place, has_seat}
use Rattle.pp_turns_law.proofs.First.{IsShownAt, seat_shown}
use Rattle.pp_waits_law.proofs.Rested.{first_none, none_at}
use Rattle.pp_world.specs.Log.{Log}
use Rattle.pp_world.specs.Wire.{has_number}
use Rattle.pp_world.specs.declared.event.Wants.{Wants}

-- ---- of lists

pub in_mapped : {A B : Type 0} (f : A → B) (x : A) (xs : List A) → IsIn x xs → IsIn (f x) (map f xs)
in_mapped f x [] i = absurd i
in_mapped f x (y ∷ ys) (inl is) = inl (ap f is)
in_mapped f x (y ∷ ys) (inr i) = inr (in_mapped f x ys i)

pub at_in : {A : Type 0} (i : ℕ) (xs : List A) (x : A) → slice_get xs i ≡ Some x → IsIn x xs
at_in i [] x at = absurd (cc at)
at_in zero (y ∷ ys) x at = inl (let same : y ≡ x = cc at in sym same)
at_in (suc i) (y ∷ ys) x at = inr (at_in i ys x at)

pub record Found {A : Type 0} (p : A → Bool) (xs : List A) : Type 0 where
  pub it : A
  pub there : IsIn it xs
  pub is : p it ≡ true

pub found_in : {A : Type 0} (p : A → Bool) (xs : List A) → list_any p xs ≡ true → Found p xs
found_in p [] any = absurd (cc any)
found_in p (x ∷ xs) any = by (found_in p xs) (p x) refl any
  where
    by : (list_any p xs ≡ true → Found p xs) → (b : Bool) → p x ≡ b → (b || list_any p xs) ≡ true → Found p (x ∷ xs)
    by rest true is on = record { it = x; there = inl refl; is = is }
    by rest false is on = let later : Found p xs = rest on in record { it = later.it; there = inr later.there; is = later.is }

pub first_true : (a b : Bool) → (a && b) ≡ true → (a ≡ true) × (b ≡ true)
first_true true b both = (refl, both)
first_true false b both = absurd (cc both)

pub both_true : (a b : Bool) → a ≡ true → b ≡ true → (a && b) ≡ true
both_true a true one other = ap (λ (c : Bool). c && true) one
both_true a false one other = absurd (cc other)

pub either : (a b : Bool) → (a || b) ≡ true → (a ≡ true) ⊎ (b ≡ true)
either true b on = inl refl
either false b on = inr on

pub all_of : (p : ℕ → Bool) (ns : List ℕ) (n : ℕ) → list_all p ns ≡ true → IsTrue (has_number n ns) → p n ≡ true
all_of p [] n all has = absurd (cc has)
all_of p (m ∷ ms) n all has = by (all_of p ms n) (m == n) refl has (first_true (p m) (list_all p ms) all)
  where
    by : (list_all p ms ≡ true → IsTrue (has_number n ms) → p n ≡ true) → (b : Bool) → (m == n) ≡ b → IsTrue (b || has_number n ms) → (p m ≡ true) × (list_all p ms ≡ true) → p n ≡ true
    by rest true is on both = ap p (sym (same_number m n is)) ∙ both.0
    by rest false is on both = rest both.1 on

number_at : (n i : ℕ) (seats : List Seat) (seat : Seat) → IsAt n i seats → slice_get seats i ≡ Some seat → seat.client.id ≡ n
number_at n i [] seat at here = absurd at
number_at n zero (x ∷ xs) seat at here = let same : x ≡ seat = cc here in ap (λ (z : Seat). z.client.id) (sym same) ∙ same_number x.client.id n at.0
number_at n (suc i) (x ∷ xs) seat at here = number_at n i xs seat at.1 here

-- ---- the client at a place

module _ (terms : List Term) (log : Log) (number : ℕ → ℕ) (w : Wants) (x : Turning) (u : State) (it : IsAwaited terms log number w x u) (id i : ℕ) (place : place_of id (numbers_of x.moving.desk.state.seats.items) ≡ Some i) where
  abbrev seats : List Seat
  seats = x.moving.desk.state.seats.items

  abbrev clients : List Client
  clients = (rest_with w u).clients

  at : IsAt id i seats
  at = at_place id i seats it.stands.desk.turn.steps.order place

  pub its : HasSeat i seats
  its = has_seat id i seats at

  pub number_is : its.seat.client.id ≡ id
  number_is = number_at id i seats its.seat at its.there

  pub shown : IsShownAt number x.moving.desk.state.name.items seats clients i
  shown = seat_shown number x.moving.desk.state.name.items seats clients i its.seat it.stands.desk.turn.steps.shows.clients its.there

  pub same_seat : shown.seat ≡ its.seat
  same_seat = let both : (let o : Option Seat = Some shown.seat in o ≡ Some its.seat) = sym shown.here ∙ its.there in cc both

  pub client_number_is : shown.client.number ≡ id
  client_number_is = sym shown.shows.number ∙ ap (λ (z : Seat). z.client.id) same_seat ∙ number_is

  pub client_goes : shown.client.is_closing ≡ false
  client_goes = none_at (λ (c : Client). c.is_closing) clients i shown.client (first_none (list_any (λ (c : Client). c.is_closing) clients) (list_any (λ (k : Conn). k.is_closing) (rest_with w u).conns) it.closed).0 shown.there

  pub seat_goes : its.seat.is_closing ≡ false
  seat_goes = ap (λ (z : Seat). z.is_closing) (sym same_seat) ∙ shown.shows.closing ∙ client_goes

  -- a client of this number, of the turn's end, is that one as the wait left it
  pub is_that : (d : Client) → IsIn d u.clients → d.number ≡ id → rested_client u d ≡ shown.client
  unfolding rest_with
  is_that d there is =
      one_of client_number clients (rested_client u d) shown.client (numbers_rise terms (rest_with w u) log it.obeys).clients_rise (in_mapped (rested_client u) d u.clients there) (at_in i clients shown.client shown.there) (is ∙ sym client_number_is)

  -- no connection to an origin has its number
  pub no_conn : (k : Conn) → IsIn k u.conns → k.number ≡ id → ⊥
  unfolding rest_with
  no_conn k there is =
      (numbers_rise terms (rest_with w u) log it.obeys).apart shown.client (rested_conn u w k) (at_in i clients shown.client shown.there) (in_mapped (rested_conn u w) k u.conns there) (client_number_is ∙ sym is)
