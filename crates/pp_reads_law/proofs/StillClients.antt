-- Clients that are changed one by one, or all at once, by nothing that their places, requests and decisions are read from.
use Rattle.std.proofs.Common.{◌≡◌, refl, sym, subst, ap, ◌∙◌, ℕ, zero, suc, Bool, true, false, ◌==◌, cond, map, List, [], ◌∷◌, Option, Some, None}
use Rattle.std.specs.Prelude.{slice_get, slice_set}
use Rattle.pp_cache.specs.Notes.{has_noted}
use Rattle.pp_cache_law.proofs.Numbers.{is_same, some_is}
use Rattle.pp_turns_law.proofs.Changed.{get_set}
use Rattle.pp_turns_law.proofs.Regained.{get_other}
use Rattle.pp_flow_law.proofs.Entries.{none_some}
use Rattle.pp_seats.specs.Seats.{has_key}
use Rattle.pp_seats.specs.declared.seat.Seat.{Seat}
use Rattle.pp_state.proofs.SeatsLemmas.{changed_numbers, mapped_numbers}
use Rattle.pp_state.specs.Bodies.{on_asker, on_place}
use Rattle.pp_state.specs.Ends.{Parts, all_decided_anew, changed_at, decided_anew, on_seat_where, seat_for, useless_if_refused}
use Rattle.pp_flow.specs.declared.entry.Exchange.{Exchange}
use Rattle.pp_reads_law.specs.Stays.{AreStill, IsStill, WasStill}

pub itself : (seat : Seat) → IsStill seat seat
itself seat = record { id = refl; front = refl; stage = refl; hung_up = refl; closing = refl }

still_then : (a b c : Seat) → IsStill a b → IsStill b c → IsStill a c
still_then a b c one two = record { id = two.id ∙ one.id; front = two.front ∙ one.front; stage = two.stage ∙ one.stage; hung_up = two.hung_up ∙ one.hung_up; closing = two.closing ∙ one.closing }

pub none : (seats : List Seat) → AreStill seats seats
none seats = record { numbers = refl; was = λ i new at. record { old = new; here = at; is = itself new } }

pub then : (a b c : List Seat) → AreStill a b → AreStill b c → AreStill a c
then a b c one two = record { numbers = two.numbers ∙ one.numbers; was = λ i new at. join i new (two.was i new at) }
  where
    join : (i : ℕ) (new : Seat) → WasStill b i new → WasStill a i new
    join i new later = let was : WasStill a i later.old = one.was i later.old later.here in record { old = was.old; here = was.here; is = still_then was.old later.old new was.is later.is }

pub are_as : (a b c : List Seat) → b ≡ c → AreStill a b → AreStill a c
are_as a b c is all = subst (λ (seats : List Seat). AreStill a seats) is all

-- ---- one is changed

abbrev pub Keeps : (Seat → Seat) → Type 0
Keeps f = (seat : Seat) → IsStill seat (f seat)

set_was : (i : ℕ) (f : Seat → Seat) → Keeps f → (seats : List Seat) (seat : Seat) → slice_get seats i ≡ Some seat → (j : ℕ) (new : Seat) → slice_get (slice_set seats i (f seat)) j ≡ Some new → WasStill seats j new
set_was i f keeps seats seat here j new at = by (i == j) refl
  where
    by : (b : Bool) → (i == j) ≡ b → WasStill seats j new
    by false off = record { old = new; here = sym (get_other i j seats (f seat) off) ∙ at; is = itself new }
    by true same =
        let one : f seat ≡ new = some_is (f seat) new (sym (get_set i seats seat (f seat) here) ∙ ap (λ (k : ℕ). slice_get (slice_set seats i (f seat)) k) (is_same i j same) ∙ at) in
        record { old = seat; here = ap (λ (k : ℕ). slice_get seats k) (sym (is_same i j same)) ∙ here; is = subst (λ (o : Seat). IsStill seat o) one (keeps seat) }

pub one : (i : ℕ) (f : Seat → Seat) (seats : List Seat) → Keeps f → AreStill seats (changed_at i f seats)
one i f seats keeps = record { numbers = changed_numbers i f seats (λ seat. (keeps seat).id); was = λ j new at. by j new (slice_get seats i) refl at }
  where
    by : (j : ℕ) (new : Seat) (o : Option Seat) → slice_get seats i ≡ o → slice_get (elim o as (λ t. List Seat) [ None ↦ seats | Some seat ↦ slice_set seats i (f seat) ]) j ≡ Some new → WasStill seats j new
    by j new None here at = record { old = new; here = at; is = itself new }
    by j new (Some seat) here at = set_was i f keeps seats seat here j new at

pub placed : (o : Option ℕ) (f : Seat → Seat) (seats : List Seat) → Keeps f → AreStill seats (on_place o f seats)
placed None f seats keeps = none seats
placed (Some i) f seats keeps = one i f seats keeps

pub asker : (e : Exchange) (f : Seat → Seat) (seats : List Seat) → Keeps f → AreStill seats (on_asker e f seats)
asker e f seats keeps = placed (seat_for e seats) f seats keeps

pub where_seated : (o : Option ℕ) (f : Seat → Seat) (p : Parts) → Keeps f → AreStill p.seats (on_seat_where o f p).seats
where_seated None f p keeps = none p.seats
where_seated (Some i) f p keeps = one i f p.seats keeps

-- ---- all are

map_was : (f : Seat → Seat) → Keeps f → (seats : List Seat) (j : ℕ) (new : Seat) → slice_get (map f seats) j ≡ Some new → WasStill seats j new
map_was f keeps [] j new at = absurd (none_some new at)
map_was f keeps (seat ∷ seats) zero new at = record { old = seat; here = refl; is = subst (λ (o : Seat). IsStill seat o) (some_is (f seat) new at) (keeps seat) }
map_was f keeps (seat ∷ seats) (suc j) new at = let was : WasStill seats j new = map_was f keeps seats j new at in record { old = was.old; here = was.here; is = was.is }

pub each : (f : Seat → Seat) (seats : List Seat) → Keeps f → AreStill seats (map f seats)
each f seats keeps = record { numbers = mapped_numbers f seats (λ seat. (keeps seat).id); was = λ j new at. map_was f keeps seats j new at }

anew_still : (key : List ℕ) (seat : Seat) → IsStill seat (decided_anew key seat)
anew_still key seat = by (has_key key seat)
  where
    by : (b : Bool) → IsStill seat (cond b (record seat { brought = useless_if_refused seat.brought }) seat)
    by true = record { id = refl; front = refl; stage = refl; hung_up = refl; closing = refl }
    by false = itself seat

pub all_anew : (key : List ℕ) (refused : List (List ℕ)) (seats : List Seat) → AreStill seats (all_decided_anew key refused seats)
all_anew key refused seats = by (has_noted key refused)
  where
    by : (b : Bool) → AreStill seats (cond b (map (decided_anew key) seats) seats)
    by true = each (decided_anew key) seats (anew_still key)
    by false = none seats
