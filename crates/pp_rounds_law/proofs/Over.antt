-- Clients that are over: none of them is left, and whoever is left was there.
use Rattle.std.proofs.Common.{◌≡◌, ◌≤◌, refl, sym, subst, ap, ap₂, ◌∙◌, ℕ, zero, suc, Bool, true, false, not, ◌==◌, ◌||◌, cond, filter, find, length, List, [], ◌∷◌, ◌++◌, Option, Some, None, arith}
use Rattle.std.specs.List.{cons_option, filter_map, list_any}
use Rattle.std.specs.Prelude.{slice_get}
use Rattle.pp_cache_law.proofs.Numbers.{some_is}
use Rattle.pp_turns_law.specs.Log.{AreLinked}
use Rattle.pp_turns_law.proofs.Sitting.{is_at}
use Rattle.pp_desk.specs.Closings.{peer_numbers}
use Rattle.pp_desk.specs.Shutting.{over_at, over_client, over_clients, over_peers, seats_left, stays, without_all}
use Rattle.pp_law.specs.Lists.{has_number}
use Rattle.pp_links.specs.Links.{Link, is_link}
use Rattle.pp_peers.specs.declared.peers.Peer.{Peer}
use Rattle.pp_places_law.specs.Closings.{AreOpen}
use Rattle.pp_seats.specs.declared.seat.Seat.{Seat}
use Rattle.pp_seats_law.specs.Clients.{IsAt, IsNowhere}
use Rattle.pp_state.specs.Ends.{AreInOrder, is_over_at, numbers_of}
use Rattle.pp_state.specs.declared.state.State.{State as Turn}
use Rattle.pp_world.specs.declared.event.Side.TheVariants.{Client as OfClient}
use Rattle.pp_rounds_law.proofs.Left.{left_open}

-- ---- each client is open

abbrev IsOpen : List Link → Seat → Type 0
IsOpen links seat = find (is_link seat.client.id) links ≡ Some (seat.client.id, OfClient)

pub open_at : (i : ℕ) (seats : List Seat) (seat : Seat) (links : List Link) → AreOpen (numbers_of seats) links → slice_get seats i ≡ Some seat → find (is_link seat.client.id) links ≡ Some (seat.client.id, OfClient)
open_at i [] seat links ones at = absurd (cc at)
open_at zero (first ∷ seats) seat links ones at = subst (λ (x : Seat). IsOpen links x) (some_is first seat at) ones.0
open_at (suc i) (first ∷ seats) seat links ones at = open_at i seats seat links ones.1 at

pub all_open : (seats : List Seat) (links : List Link) → ((i : ℕ) (seat : Seat) → slice_get seats i ≡ Some seat → find (is_link seat.client.id) links ≡ Some (seat.client.id, OfClient)) → AreOpen (numbers_of seats) links
all_open [] links each = tt
all_open (seat ∷ seats) links each = (each zero seat refl, all_open seats links (λ i other at. each (suc i) other at))

-- ---- those that are over

module _ (p : Turn) (links : List Link) (ones : AreOpen (numbers_of p.seats.items) links) where
  over_open : (is : List ℕ) → AreOpen (filter_map (over_at p) is) links
  over_open [] = tt
  over_open (i ∷ is) = by (slice_get p.seats.items i) refl (over_open is)
    where
      closed : (seat : Seat) → slice_get p.seats.items i ≡ Some seat → AreOpen (filter_map (over_at p) is) links → (b : Bool) → AreOpen (cons_option (cond b (Some seat.client.id) None) (filter_map (over_at p) is)) links
      closed seat here rest true = (open_at i p.seats.items seat links ones here, rest)
      closed seat here rest false = rest

      by : (o : Option Seat) → slice_get p.seats.items i ≡ o → AreOpen (filter_map (over_at p) is) links → AreOpen (cons_option (over_client p.is_stopped o) (filter_map (over_at p) is)) links
      by None here rest = rest
      by (Some seat) here rest = closed seat here rest (p.is_stopped || seat.is_closing)

  pub clients_open : AreOpen (over_clients p) links
  clients_open = over_open p.awake.items

-- ---- whoever is left was there, and goes on where any is over

got_before : (q : Seat → Bool) (seats : List Seat) (j : ℕ) (new : Seat) → slice_get (filter q seats) j ≡ Some new → (i : ℕ) × (slice_get seats i ≡ Some new) × (q new ≡ true)
got_before q [] j new at = absurd (cc at)
got_before q (seat ∷ seats) j new at = by (q seat) refl at (λ k other. got_before q seats k new other)
  where
    later : (i : ℕ) × (slice_get seats i ≡ Some new) × (q new ≡ true) → (i : ℕ) × (slice_get (seat ∷ seats) i ≡ Some new) × (q new ≡ true)
    later (i, here, is) = (suc i, here, is)

    first : (k : ℕ) → q seat ≡ true → slice_get (seat ∷ filter q seats) k ≡ Some new → ((k : ℕ) → slice_get (filter q seats) k ≡ Some new → (i : ℕ) × (slice_get seats i ≡ Some new) × (q new ≡ true)) → (i : ℕ) × (slice_get (seat ∷ seats) i ≡ Some new) × (q new ≡ true)
    first zero is here rest = (zero, here, subst (λ (x : Seat). q x ≡ true) (some_is seat new here) is)
    first (suc k) is here rest = later (rest k here)

    by : (b : Bool) → q seat ≡ b → slice_get (cond b (seat ∷ filter q seats) (filter q seats)) j ≡ Some new → ((k : ℕ) → slice_get (filter q seats) k ≡ Some new → (i : ℕ) × (slice_get seats i ≡ Some new) × (q new ≡ true)) → (i : ℕ) × (slice_get (seat ∷ seats) i ≡ Some new) × (q new ≡ true)
    by true is here rest = first j is here rest
    by false is here rest = later (rest j here)

-- ---- no number of theirs is that of one that is over

nowhere_at : (n k : ℕ) (seats : List Seat) (other : Seat) → IsNowhere n seats → slice_get seats k ≡ Some other → (other.client.id == n) ≡ false
nowhere_at n k [] other nowhere at = absurd (cc at)
nowhere_at n zero (seat ∷ seats) other nowhere at = subst (λ (x : Seat). (x.client.id == n) ≡ false) (some_is seat other at) nowhere.0
nowhere_at n (suc k) (seat ∷ seats) other nowhere at = nowhere_at n k seats other nowhere.1 at

bad_test : (b : Bool) → b ≡ true → b ≡ false → ⊥
bad_test true is isnt = cc isnt
bad_test false is isnt = cc is

at_once : (n i k : ℕ) (seats : List Seat) (other : Seat) → IsAt n i seats → slice_get seats k ≡ Some other → (other.client.id == n) ≡ true → i ≡ k
at_once n i k [] other at here is = absurd (cc here)
at_once n zero zero (seat ∷ seats) other at here is = refl
at_once n zero (suc k) (seat ∷ seats) other at here is = absurd (bad_test (other.client.id == n) is (nowhere_at n k seats other at.1 here))
at_once n (suc i) zero (seat ∷ seats) other at here is = absurd (bad_test (other.client.id == n) is (subst (λ (x : Seat). (x.client.id == n) ≡ false) (some_is seat other here) at.0))
at_once n (suc i) (suc k) (seat ∷ seats) other at here is = ap (λ (m : ℕ). suc m) (at_once n i k seats other at.1 here is)

module _ (p : Turn) (order : AreInOrder (numbers_of p.seats.items)) (going : p.is_stopped ≡ false) (i : ℕ) (new : Seat) (here : slice_get p.seats.items i ≡ Some new) where
  same_seat : (k : ℕ) (seat : Seat) → slice_get p.seats.items k ≡ Some seat → (seat.client.id == new.client.id) ≡ true → seat ≡ new
  same_seat k seat at is =
      let place : i ≡ k = at_once new.client.id i k p.seats.items seat (is_at i p.seats.items new order here) at is in
      some_is seat new (sym at ∙ ap (λ (m : ℕ). slice_get p.seats.items m) (sym place) ∙ here)

  -- one that goes on is none of them
  not_over : new.is_closing ≡ false → (is : List ℕ) → has_number new.client.id (filter_map (over_at p) is) ≡ false
  not_over on [] = refl
  not_over on (k ∷ is) = by (slice_get p.seats.items k) refl (not_over on is)
    where
      isnt : (seat : Seat) → slice_get p.seats.items k ≡ Some seat → (p.is_stopped || seat.is_closing) ≡ true → (b : Bool) → (seat.client.id == new.client.id) ≡ b → b ≡ false
      isnt seat at closing false is = refl
      isnt seat at closing true is =
          absurd (bad_test (p.is_stopped || seat.is_closing) closing (ap₂ (λ (a b : Bool). a || b) going (ap (λ (x : Seat). x.is_closing) (same_seat k seat at is) ∙ on)))

      closed : (seat : Seat) → slice_get p.seats.items k ≡ Some seat → has_number new.client.id (filter_map (over_at p) is) ≡ false → (b : Bool) → (p.is_stopped || seat.is_closing) ≡ b → has_number new.client.id (cons_option (cond b (Some seat.client.id) None) (filter_map (over_at p) is)) ≡ false
      closed seat at rest true is = ap₂ (λ (a b : Bool). a || b) (isnt seat at is (seat.client.id == new.client.id) refl) rest
      closed seat at rest false is = rest

      by : (o : Option Seat) → slice_get p.seats.items k ≡ o → has_number new.client.id (filter_map (over_at p) is) ≡ false → has_number new.client.id (cons_option (over_client p.is_stopped o) (filter_map (over_at p) is)) ≡ false
      by None at rest = rest
      by (Some seat) at rest = closed seat at rest (p.is_stopped || seat.is_closing) refl

-- where none is over, none is noted
none_over : (p : Turn) (is : List ℕ) → list_any (λ i. is_over_at i p) is ≡ false → filter_map (over_at p) is ≡ []
none_over p [] none = refl
none_over p (i ∷ is) none = by (slice_get p.seats.items i) none (λ less. none_over p is less)
  where
    second : (b : Bool) → (b || list_any (λ k. is_over_at k p) is) ≡ false → (b ≡ false) × (list_any (λ k. is_over_at k p) is ≡ false)
    second true both = absurd (cc both)
    second false both = (refl, both)

    by : (o : Option Seat) → ((elim o as (λ t. Bool) [ None ↦ false | Some seat ↦ p.is_stopped || seat.is_closing ]) || list_any (λ k. is_over_at k p) is) ≡ false → (list_any (λ k. is_over_at k p) is ≡ false → filter_map (over_at p) is ≡ []) → cons_option (over_client p.is_stopped o) (filter_map (over_at p) is) ≡ []
    by None both rest = rest both
    by (Some seat) both rest =
        let these : ((p.is_stopped || seat.is_closing) ≡ false) × (list_any (λ k. is_over_at k p) is ≡ false) = second (p.is_stopped || seat.is_closing) both in
        ap (λ (b : Bool). cons_option (cond b (Some seat.client.id) None) (filter_map (over_at p) is)) these.0 ∙ rest these.1

-- ---- of those that are left

pub record IsLeft (p : Turn) (new : Seat) : Type 0 where
  pub place : ℕ
  pub here : slice_get p.seats.items place ≡ Some new
  pub off : has_number new.client.id (over_clients p) ≡ false

pub left_at : (p : Turn) → AreInOrder (numbers_of p.seats.items) → p.is_stopped ≡ false → (j : ℕ) (new : Seat) → slice_get (seats_left p) j ≡ Some new → IsLeft p new
left_at p order going j new at = by (list_any (λ i. is_over_at i p) p.awake.items) refl at
  where
    goes : (new : Seat) → not (p.is_stopped || new.is_closing) ≡ true → new.is_closing ≡ false
    goes new is = half p.is_stopped new.is_closing is
      where
        half : (a b : Bool) → not (a || b) ≡ true → b ≡ false
        half true b is = absurd (cc is)
        half false true is = absurd (cc is)
        half false false is = refl

    by : (b : Bool) → list_any (λ i. is_over_at i p) p.awake.items ≡ b → slice_get (cond b (filter (stays p.is_stopped) p.seats.items) p.seats.items) j ≡ Some new → IsLeft p new
    by true any here =
        let was : (i : ℕ) × (slice_get p.seats.items i ≡ Some new) × (stays p.is_stopped new ≡ true) = got_before (stays p.is_stopped) p.seats.items j new here in
        record { place = was.0; here = was.1; off = not_over p order going was.0 new was.1 (goes new was.2) p.awake.items }
    by false none here = record { place = j; here = here; off = ap (λ (ns : List ℕ). has_number new.client.id ns) (none_over p p.awake.items none) }

-- each of them is open still
pub seated_left : (p : Turn) (ps : List Peer) (links : List Link) → AreInOrder (numbers_of p.seats.items) → p.is_stopped ≡ false → AreOpen (numbers_of p.seats.items) links → AreLinked (peer_numbers ps) links → AreOpen (numbers_of (seats_left p)) (without_all (over_clients p ++ over_peers false ps) links)
seated_left p ps links order going ones linked =
    all_open (seats_left p) (without_all (over_clients p ++ over_peers false ps) links) (λ j new at.
    let was : IsLeft p new = left_at p order going j new at in
    left_open new.client.id (over_clients p) ps links was.off linked (open_at was.place p.seats.items new links ones was.here))

-- and they are no more than before
pub fewer_seats : (p : Turn) → length (seats_left p) ≤ length p.seats.items
fewer_seats p = by (list_any (λ i. is_over_at i p) p.awake.items)
  where
    kept : (q : Seat → Bool) (seats : List Seat) → length (filter q seats) ≤ length seats
    kept q [] = omega arith
    kept q (seat ∷ seats) = one (q seat) (kept q seats)
      where
        one : (b : Bool) → length (filter q seats) ≤ length seats → length (cond b (seat ∷ filter q seats) (filter q seats)) ≤ length (seat ∷ seats)
        one true rest = omega (arith, rest)
        one false rest = omega (arith, rest)

    by : (b : Bool) → length (cond b (filter (stays p.is_stopped) p.seats.items) p.seats.items) ≤ length p.seats.items
    by true = kept (stays p.is_stopped) p.seats.items
    by false = omega arith
