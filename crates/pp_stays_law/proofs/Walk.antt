-- What holds of each client, of each exchange and of what is in memory holds behind all that a turn does to them, where it does behind each
-- of its steps.
use Rattle.std.proofs.Common.{◌≡◌, refl, sym, subst, ap, ◌∙◌, ℕ, zero, suc, ◌+◌, Bool, true, false, ◌==◌, ◌||◌, cond, find, List, [], ◌∷◌, ◌++◌, map, Option, Some, None}
use Rattle.std.specs.List.{list_any}
use Rattle.std.specs.Prelude.{slice_get, slice_set}
use Rattle.pp_cache.specs.Memory.{Memory}
use Rattle.pp_cache_law.proofs.Numbers.{is_same, some_is}
use Rattle.pp_turns_law.proofs.Changed.{get_set}
use Rattle.pp_turns_law.proofs.Regained.{get_other}
use Rattle.pp_flow.specs.Changes.{Exchanges, changed, first_of, with_errand, without}
use Rattle.pp_flow.specs.Entries.{asking, begun_with, is_number, nobodys}
use Rattle.pp_flow.specs.declared.entry.Aim.{Aim}
use Rattle.pp_flow.specs.declared.entry.Entry.{Entry}
use Rattle.pp_flow.specs.declared.entry.Exchange.{Exchange}
use Rattle.pp_flow.specs.declared.errand.Body.TheVariants.{Pending}
use Rattle.pp_flow.specs.declared.errand.Errand.{Errand}
use Rattle.pp_objects.specs.declared.id.ObjectId.{ObjectId}
use Rattle.pp_seats.specs.Heads.{asked_in, owned_in}
use Rattle.pp_seats.specs.declared.key.Key.{Key}
use Rattle.pp_seats.specs.declared.seat.Seat.{Seat}
use Rattle.pp_state.specs.Ends.{Parts, asked_anew, changed_at, ended, exchange_of, forsaken, left, left_at_decision, left_by, left_source, on_seat, source_at, unfollowed, without_source}
use Rattle.pp_take.specs.Deciding.{begun_at, begun_by, begun_for, begun_of, exchange_begun, may_ask}
use Rattle.pp_stays_law.proofs.Onward.{IsOnward}

-- ---- of all

abbrev pub AllAt : (Seat → Type 0) → List Seat → Type 0
AllAt S seats = (i : ℕ) (seat : Seat) → slice_get seats i ≡ Some seat → S seat

abbrev pub AllOf : (Entry → Type 0) → List Entry → Type 0
AllOf W [] = Unit {0}
AllOf W (x ∷ xs) = W x × AllOf W xs

-- of clients, of exchanges without a place and with one, and of what is in memory
pub record Holds (S : Seat → Type 0) (W Q : Entry → Type 0) (C : Memory → Type 0) (p : Parts) : Type 0 where
  pub seats : AllAt S p.seats
  pub waiting : AllOf W p.flow.waiting
  pub placed : AllOf Q p.flow.placed
  pub memory : C p.cache

-- it holds behind each step
pub record Suits (S : Seat → Type 0) (W Q : Entry → Type 0) (C : Memory → Type 0) : Type 0 where
  pub seat : (a b : Seat) → IsOnward a b → S a → S b
  -- an exchange is nobody's, is asked from the front on, and begins for a client
  pub left_waiting : (x : Entry) → W x → W (nobodys x)
  pub left_placed : (x : Entry) → Q x → Q (nobodys x)
  pub anew_waiting : (x : Entry) → W x → W (asking (record x.errand { asked = 0 }) x)
  pub anew_placed : (x : Entry) → Q x → Q (asking (record x.errand { asked = 0 }) x)
  pub begins : (seat : Seat) (key : Key) (n : ℕ) (aim : Aim) (errand : Errand) (text : List ℕ) → S seat → owned_in (asked_in seat.front) ≡ Some key → errand.body ≡ Pending → W (begun_with n seat.client.id key.text.items aim errand text)
  -- what is noted of the disk is the same
  pub memory : (m k : Memory) → k.outdated ≡ m.outdated → C m → C k

-- ---- lists

pub all_found : (W : Entry → Type 0) (test : Entry → Bool) (xs : List Entry) (x : Entry) → find test xs ≡ Some x → AllOf W xs → W x
all_found W test [] x there all = absurd (cc there)
all_found W test (y ∷ ys) x there all = by (test y) there (λ later. all_found W test ys x later all.1)
  where
    by : (b : Bool) → cond b (Some y) (find test ys) ≡ Some x → (find test ys ≡ Some x → W x) → W x
    by true found rest = subst W (some_is y x found) all.0
    by false found rest = rest found

pub all_without : (W : Entry → Type 0) (n : ℕ) (xs : List Entry) → AllOf W xs → AllOf W (without n xs)
all_without W n [] all = tt
all_without W n (x ∷ xs) all = by (is_number n x) (all_without W n xs all.1)
  where
    by : (b : Bool) → AllOf W (without n xs) → AllOf W (cond b xs (x ∷ without n xs))
    by true rest = all.1
    by false rest = (all.0, rest)

all_changed : (W : Entry → Type 0) (n : ℕ) (f : Entry → Entry) (xs : List Entry) → ((x : Entry) → W x → W (f x)) → AllOf W xs → AllOf W (changed n f xs)
all_changed W n f [] each all = tt
all_changed W n f (x ∷ xs) each all = by (is_number n x) (all_changed W n f xs each all.1)
  where
    by : (b : Bool) → AllOf W (changed n f xs) → AllOf W (cond b (f x ∷ xs) (x ∷ changed n f xs))
    by true rest = (each x all.0, all.1)
    by false rest = (all.0, rest)

pub all_last : (W : Entry → Type 0) (xs : List Entry) (x : Entry) → AllOf W xs → W x → AllOf W (xs ++ x ∷ [])
all_last W [] x all one = (one, tt)
all_last W (y ∷ ys) x all one = (all.0, all_last W ys x all.1 one)

-- the first of a number
change_first : (W : Entry → Type 0) (n : ℕ) (f : Entry → Entry) (xs : List Entry) (x : Entry) → find (is_number n) xs ≡ Some x → W (f x) → AllOf W xs → AllOf W (changed n f xs)
change_first W n f [] x found one all = tt
change_first W n f (y ∷ ys) x found one all = by (is_number n y) found (λ later. change_first W n f ys x later one all.1)
  where
    by : (b : Bool) → cond b (Some y) (find (is_number n) ys) ≡ Some x → (find (is_number n) ys ≡ Some x → AllOf W (changed n f ys)) → AllOf W (cond b (f y ∷ ys) (y ∷ changed n f ys))
    by true is rest = (subst (λ (z : Entry). W (f z)) (sym (some_is y x is)) one, all.1)
    by false is rest = (all.0, rest is)

pub found_any : (n : ℕ) (xs : List Entry) (x : Entry) → find (is_number n) xs ≡ Some x → list_any (is_number n) xs ≡ true
found_any n [] x found = absurd (cc found)
found_any n (y ∷ ys) x found = by (is_number n y) found (λ later. found_any n ys x later)
  where
    by : (b : Bool) → cond b (Some y) (find (is_number n) ys) ≡ Some x → (find (is_number n) ys ≡ Some x → list_any (is_number n) ys ≡ true) → (b || list_any (is_number n) ys) ≡ true
    by true is rest = refl
    by false is rest = rest is

pub none_any : (n : ℕ) (xs : List Entry) → find (is_number n) xs ≡ None → list_any (is_number n) xs ≡ false
none_any n [] none = refl
none_any n (y ∷ ys) none = by (is_number n y) none (λ later. none_any n ys later)
  where
    by : (b : Bool) → cond b (Some y) (find (is_number n) ys) ≡ None → (find (is_number n) ys ≡ None → list_any (is_number n) ys ≡ false) → (b || list_any (is_number n) ys) ≡ false
    by true is rest = absurd (cc is)
    by false is rest = rest is

pub set_all : (S : Seat → Type 0) (i : ℕ) (seats : List Seat) (seat new : Seat) → slice_get seats i ≡ Some seat → S new → AllAt S seats → AllAt S (slice_set seats i new)
set_all S i seats seat new here one all j other at = by (i == j) refl
  where
    by : (b : Bool) → (i == j) ≡ b → S other
    by true same = subst S (some_is new other (sym (get_set i seats seat new here) ∙ ap (λ (k : ℕ). slice_get (slice_set seats i new) k) (is_same i j same) ∙ at)) one
    by false apart = all j other (sym (get_other i j seats new apart) ∙ at)

pub changed_all : (S : Seat → Type 0) (i : ℕ) (f : Seat → Seat) (seats : List Seat) → ((seat : Seat) → S seat → S (f seat)) → AllAt S seats → AllAt S (changed_at i f seats)
changed_all S i f seats each all = by (slice_get seats i) refl
  where
    by : (o : Option Seat) → slice_get seats i ≡ o → AllAt S (elim o as (λ t. List Seat) [ None ↦ seats | Some seat ↦ slice_set seats i (f seat) ])
    by None here = all
    by (Some seat) here = set_all S i seats seat (f seat) here (each seat (all i seat here)) all

pub mapped_all : (S : Seat → Type 0) (f : Seat → Seat) (seats : List Seat) → ((seat : Seat) → S seat → S (f seat)) → AllAt S seats → AllAt S (map f seats)
mapped_all S f [] each all i seat at = absurd (cc at)
mapped_all S f (x ∷ seats) each all zero seat at = subst S (some_is (f x) seat at) (each x (all zero x refl))
mapped_all S f (x ∷ seats) each all (suc i) seat at = mapped_all S f seats each (λ j other here. all (suc j) other here) i seat at

-- ---- one step behind the other

module _ (S : Seat → Type 0) (W Q : Entry → Type 0) (C : Memory → Type 0) (suits : Suits S W Q C) where
  abbrev pub Fine : Parts → Type 0
  Fine p = Holds S W Q C p

  pub on_seat_fine : (i : ℕ) (f : Seat → Seat) (p : Parts) → ((seat : Seat) → IsOnward seat (f seat)) → Fine p → Fine (on_seat i f p)
  on_seat_fine i f p on h = record { seats = changed_all S i f p.seats (λ seat its. suits.seat seat (f seat) (on seat) its) h.seats; waiting = h.waiting; placed = h.placed; memory = h.memory }

  pub with_memory : (p : Parts) (k : Memory) → k.outdated ≡ p.cache.outdated → Fine p → Fine (record p { cache = k })
  with_memory p k same h = record { seats = h.seats; waiting = h.waiting; placed = h.placed; memory = suits.memory p.cache k same h.memory }

  -- ---- an exchange is over, or nobody's

  pub ended_fine : (n : ℕ) (p : Parts) → Fine p → Fine (ended n p)
  ended_fine n p h = record { seats = h.seats; waiting = all_without W n p.flow.waiting h.waiting; placed = all_without Q n p.flow.placed h.placed; memory = h.memory }

  pub left_fine : (n : ℕ) (p : Parts) → Fine p → Fine (left n p)
  left_fine n p h = record { seats = h.seats; waiting = all_changed W n nobodys p.flow.waiting suits.left_waiting h.waiting; placed = all_changed Q n nobodys p.flow.placed suits.left_placed h.placed; memory = h.memory }

  pub decision_fine : (i : ℕ) (p : Parts) → Fine p → Fine (left_at_decision i p)
  decision_fine i p h = by (exchange_of i p)
    where
      at : (n : ℕ) (o : Option ℕ) → Fine (elim o as (λ t. Parts) [ None ↦ ended n p | Some k ↦ left n p ])
      at n None = ended_fine n p h
      at n (Some k) = left_fine n p h

      by : (o : Option Exchange) → Fine (elim o as (λ t. Parts) [ None ↦ p | Some e ↦ left_by e p ])
      by None = h
      by (Some e) = at e.number e.place

  pub forsaken_fine : (i : ℕ) (p : Parts) → Fine p → Fine (forsaken i p)
  forsaken_fine i p h = by (exchange_of i p)
    where
      by : (o : Option Exchange) → Fine (elim o as (λ t. Parts) [ None ↦ p | Some e ↦ left e.number p ])
      by None = h
      by (Some e) = left_fine e.number p h

  -- ---- it follows nothing any more

  unfollowed_same : (id : ObjectId) (m : Memory) → (unfollowed id m).outdated ≡ m.outdated
  unfollowed_same id m = if_same _ _ m refl
    where
      if_same : (b : Bool) (k l : Memory) → k.outdated ≡ l.outdated → (cond b k l).outdated ≡ l.outdated
      if_same true k l same = same
      if_same false k l same = refl

  pub source_fine : (i : ℕ) (p : Parts) → Fine p → Fine (left_source i p)
  source_fine i p h = by (source_at i p)
    where
      by : (o : Option ObjectId) → Fine (elim o as (λ t. Parts) [ None ↦ p | Some id ↦ record p { seats = changed_at i without_source p.seats; cache = unfollowed id p.cache } ])
      by None = h
      by (Some id) = with_memory (on_seat i without_source p) (unfollowed id p.cache) (unfollowed_same id p.cache) (on_seat_fine i without_source p (λ seat. record { front = refl; given = λ is. is; short = λ is. is }) h)

  -- ---- it is asked from the front on

  abbrev from_front : Entry → Entry → Entry
  from_front x y = asking (record x.errand { asked = 0 }) y

  abbrev chosen : ℕ → Parts → Entry → Bool → Exchanges
  chosen n p x b = cond b (record p.flow { waiting = changed n (from_front x) p.flow.waiting }) (record p.flow { placed = changed n (from_front x) p.flow.placed })

  pub anew_fine : (n : ℕ) (p : Parts) → Fine p → Fine (record p { flow = asked_anew n p.flow })
  anew_fine n p h = by (find (is_number n) p.flow.waiting) (find (is_number n) p.flow.placed) refl refl
    where
      waits : (x : Entry) → find (is_number n) p.flow.waiting ≡ Some x → Fine (record p { flow = with_errand n (record x.errand { asked = 0 }) p.flow })
      waits x found =
          subst (λ (b : Bool). Fine (record p { flow = chosen n p x b })) (sym (found_any n p.flow.waiting x found))
          (record { seats = h.seats; waiting = change_first W n (from_front x) p.flow.waiting x found (suits.anew_waiting x (all_found W (is_number n) p.flow.waiting x found h.waiting)) h.waiting; placed = h.placed; memory = h.memory })

      stands : (x : Entry) → find (is_number n) p.flow.waiting ≡ None → find (is_number n) p.flow.placed ≡ Some x → Fine (record p { flow = with_errand n (record x.errand { asked = 0 }) p.flow })
      stands x none found =
          subst (λ (b : Bool). Fine (record p { flow = chosen n p x b })) (sym (none_any n p.flow.waiting none))
          (record { seats = h.seats; waiting = h.waiting; placed = change_first Q n (from_front x) p.flow.placed x found (suits.anew_placed x (all_found Q (is_number n) p.flow.placed x found h.placed)) h.placed; memory = h.memory })

      by : (a b : Option Entry) → find (is_number n) p.flow.waiting ≡ a → find (is_number n) p.flow.placed ≡ b → Fine (record p { flow = elim (first_of a b) as (λ t. Exchanges) [ None ↦ p.flow | Some x ↦ with_errand n (record x.errand { asked = 0 }) p.flow ] })
      by (Some x) b one other = waits x one
      by None (Some x) one other = stands x one other
      by None None one other = h

  -- ---- it begins

  begun_by_fine : (seat : Seat) (key : Key) (aim : Aim) (errand : Errand) (text : List ℕ) (p : Parts) → S seat → owned_in (asked_in seat.front) ≡ Some key → errand.body ≡ Pending → Fine p → Fine (record p { flow = begun_by key seat.client.id aim errand text p.flow })
  begun_by_fine seat key aim errand text p its keyed pending h = by (may_ask p.flow)
    where
      by : (b : Bool)
          → Fine (record p {
            flow = elim b as (λ t. Exchanges) [
              | true ↦ record p.flow { waiting = p.flow.waiting ++ begun_with p.flow.begun seat.client.id key.text.items aim errand text ∷ []; begun = p.flow.begun + 1 }
              | false ↦ p.flow
            ];
          })
      by true = record { seats = h.seats; waiting = all_last W p.flow.waiting (begun_with p.flow.begun seat.client.id key.text.items aim errand text) h.waiting (suits.begins seat key p.flow.begun aim errand text its keyed pending); placed = h.placed; memory = h.memory }
      by false = h

  begun_fine : (i : ℕ) (aim : Aim) (errand : Errand) (text : List ℕ) (p : Parts) → errand.body ≡ Pending → Fine p → Fine (begun_at i aim errand text p)
  begun_fine i aim errand text p pending h = by (slice_get p.seats i) refl
    where
      owned : (seat : Seat) → S seat → (o : Option Key) → owned_in (asked_in seat.front) ≡ o → Fine (record p { flow = begun_of o seat.client.id aim errand text p.flow })
      owned seat its None keyed = h
      owned seat its (Some key) keyed = begun_by_fine seat key aim errand text p its keyed pending h

      by : (o : Option Seat) → slice_get p.seats i ≡ o → Fine (record p { flow = begun_for o aim errand text p.flow })
      by None here = h
      by (Some seat) here = owned seat (h.seats i seat here) (owned_in (asked_in seat.front)) refl

  pub exchange_fine : (i : ℕ) (aim : Aim) (errand : Errand) (text : List ℕ) (p : Parts) → errand.body ≡ Pending → Fine p → Fine (exchange_begun i aim errand text p)
  unfolding exchange_begun
  exchange_fine i aim errand text p pending h = begun_fine i aim errand text (left_at_decision i p) pending (decision_fine i p h)
