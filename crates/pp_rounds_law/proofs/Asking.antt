-- What waits can be asked still, as connections are closed, clients leave, and decisions are taken.
use Rattle.std.proofs.Common.{◌≡◌, refl, sym, subst, ℕ, zero, suc, Bool, true, false, ◌||◌, ◌==◌, cond, find, List, [], ◌∷◌, Option, Some, None, nat_lt}
use Rattle.std.specs.List.{fold, list_any}
use Rattle.std.specs.Prelude.{option_map}
use Rattle.pp_desk.specs.Closings.{Sides, closed_client, closed_line, closing_at, left_at, left_by_errand, left_own, peer_numbers, with_parts, withdrawn}
use Rattle.pp_desk.specs.Origins.{unseen_dropped, without_unseen, without_unseen_on}
use Rattle.pp_flow.specs.Changes.{Exchanges, changed, entered, entry_of, first_of, unplaced, with_errand, without}
use Rattle.pp_flow.specs.Entries.{asking, is_number as is_exchange, nobodys, with_place}
use Rattle.pp_flow.specs.declared.entry.Entry.{Entry}
use Rattle.pp_flow.specs.declared.entry.Exchange.{Exchange}
use Rattle.pp_flow.specs.declared.errand.Errand.{Errand}
use Rattle.pp_objects.specs.declared.id.ObjectId.{ObjectId}
use Rattle.pp_peers.specs.Peers.{is_number}
use Rattle.pp_peers.specs.declared.peers.Peer.{Peer}
use Rattle.pp_places_law.proofs.Askable.{CanBeAsked, ended_can}
use Rattle.pp_places_law.proofs.Entries.{askable_found, askable_without}
use Rattle.pp_places_law.specs.Around.{AreAskable, IsAskable}
use Rattle.pp_seats.specs.Seats.{brought_to}
use Rattle.pp_seats.specs.declared.seat.PassedEnd.TheVariants.{Short}
use Rattle.pp_seats.specs.declared.seat.Seat.{Seat}
use Rattle.pp_state.specs.Asking.{is_useless}
use Rattle.pp_state.specs.Ends.{Parts, asked_anew, asked_elsewhere, changed_at, cut_short, ended, exchange_at, exchange_of, forsaken, left, left_at_decision, left_by, left_place, left_place_at, left_source, lost_place, may_go_elsewhere, on_seat_where, seat_for, source_at, unfollowed, without_source}
use Rattle.pp_state.specs.Lines.{first_on, lost_line}
use Rattle.pp_state.specs.Unseen.{unseen_on}
use Rattle.pp_take.specs.GivingUp.{all_given_up, given_up_if}

-- ---- one is changed

change_first : (n : ℕ) (f : Entry → Entry) (xs : List Entry) (x : Entry) → find (is_exchange n) xs ≡ Some x → IsAskable (f x) → AreAskable xs → AreAskable (changed n f xs)
change_first n f [] x found one all = tt
change_first n f (y ∷ ys) x found one all = by (is_exchange n y) found (λ later. change_first n f ys x later one all.1)
  where
    same : Some y ≡ Some x → y ≡ x
    same is = cc is

    by : (b : Bool) → cond b (Some y) (find (is_exchange n) ys) ≡ Some x → (find (is_exchange n) ys ≡ Some x → AreAskable (changed n f ys)) → AreAskable (cond b (f y ∷ ys) (y ∷ changed n f ys))
    by true is rest = (subst (λ (z : Entry). IsAskable (f z)) (sym (same is)) one, all.1)
    by false is rest = (all.0, rest is)

found_any : (n : ℕ) (xs : List Entry) (x : Entry) → find (is_exchange n) xs ≡ Some x → list_any (is_exchange n) xs ≡ true
found_any n [] x found = absurd (cc found)
found_any n (y ∷ ys) x found = by (is_exchange n y) found (λ later. found_any n ys x later)
  where
    by : (b : Bool) → cond b (Some y) (find (is_exchange n) ys) ≡ Some x → (find (is_exchange n) ys ≡ Some x → list_any (is_exchange n) ys ≡ true) → (b || list_any (is_exchange n) ys) ≡ true
    by true is rest = refl
    by false is rest = rest is

none_any : (n : ℕ) (xs : List Entry) → find (is_exchange n) xs ≡ None → list_any (is_exchange n) xs ≡ false
none_any n [] none = refl
none_any n (y ∷ ys) none = by (is_exchange n y) none (λ later. none_any n ys later)
  where
    by : (b : Bool) → cond b (Some y) (find (is_exchange n) ys) ≡ None → (find (is_exchange n) ys ≡ None → list_any (is_exchange n) ys ≡ false) → (b || list_any (is_exchange n) ys) ≡ false
    by true is rest = absurd (cc is)
    by false is rest = rest is

abbrev Can : Exchanges → Type 0
Can f = AreAskable f.waiting × AreAskable f.placed

anew_askable : (x : Entry) → IsAskable x → IsAskable (asking (record x.errand { asked = 0 }) x)
anew_askable x ask = record { place = ask.place; short = ask.short }

place_askable : (o : Option ℕ) (x : Entry) → IsAskable x → IsAskable (with_place o x)
place_askable o x ask = record { place = ask.place; short = ask.short }

askable_entered : (x : Entry) (xs : List Entry) → IsAskable x → AreAskable xs → AreAskable (entered x xs)
askable_entered x [] one all = (one, tt)
askable_entered x (y ∷ ys) one all = by (nat_lt x.exchange.number y.exchange.number) (askable_entered x ys one all.1)
  where
    by : (b : Bool) → AreAskable (entered x ys) → AreAskable (cond b (x ∷ y ∷ ys) (y ∷ entered x ys))
    by true rest = (one, all)
    by false rest = (all.0, rest)

anew_can : (n : ℕ) (f : Exchanges) → Can f → Can (asked_anew n f)
anew_can n f can = by (find (is_exchange n) f.waiting) (find (is_exchange n) f.placed) refl refl
  where
    with : (x : Entry) → Exchanges
    with x = with_errand n (record x.errand { asked = 0 }) f

    chosen : (b : Bool) (x : Entry) → Exchanges
    chosen b x = cond b (record f { waiting = changed n (asking (record x.errand { asked = 0 })) f.waiting }) (record f { placed = changed n (asking (record x.errand { asked = 0 })) f.placed })

    waits : (x : Entry) → find (is_exchange n) f.waiting ≡ Some x → Can (with x)
    waits x found =
        subst (λ (b : Bool). Can (chosen b x)) (sym (found_any n f.waiting x found))
        (change_first n (asking (record x.errand { asked = 0 })) f.waiting x found (anew_askable x (askable_found (is_exchange n) f.waiting x found can.0)) can.0, can.1)

    stands : (x : Entry) → find (is_exchange n) f.waiting ≡ None → find (is_exchange n) f.placed ≡ Some x → Can (with x)
    stands x none found =
        subst (λ (b : Bool). Can (chosen b x)) (sym (none_any n f.waiting none))
        (can.0, change_first n (asking (record x.errand { asked = 0 })) f.placed x found (anew_askable x (askable_found (is_exchange n) f.placed x found can.1)) can.1)

    by : (a b : Option Entry) → find (is_exchange n) f.waiting ≡ a → find (is_exchange n) f.placed ≡ b → Can (elim (first_of a b) as (λ t. Exchanges) [ None ↦ f | Some x ↦ with_errand n (record x.errand { asked = 0 }) f ])
    by (Some x) b one other = waits x one
    by None (Some x) one other = stands x one other
    by None None one other = can

unplaced_can : (n : ℕ) (f : Exchanges) → Can f → Can (unplaced n f)
unplaced_can n f can = by (find (is_exchange n) f.placed) refl
  where
    by : (o : Option Entry) → find (is_exchange n) f.placed ≡ o → Can (elim o as (λ t. Exchanges) [ None ↦ f | Some e ↦ record f { waiting = entered (with_place None e) f.waiting; placed = without n f.placed } ])
    by None none = can
    by (Some e) found = (askable_entered (with_place None e) f.waiting (place_askable None e (askable_found (is_exchange n) f.placed e found can.1)) can.0, askable_without n f.placed can.1)

-- ---- what nobody sees

where_can : (o : Option ℕ) (f : Seat → Seat) (p : Parts) → CanBeAsked p → CanBeAsked (on_seat_where o f p)
where_can None f p can = can
where_can (Some i) f p can = can

short_can : (e : Exchange) (p : Parts) → CanBeAsked p → CanBeAsked (cut_short e p)
short_can e p can = where_can (seat_for e p.seats) (λ seat. record seat { brought = brought_to Short seat.brought }) p can

place_can : (e : Exchange) (p : Parts) → CanBeAsked p → CanBeAsked (left_place e p)
unfolding left_place
place_can e p can = by e.headed (may_go_elsewhere e.number p)
  where
    by : (a b : Bool) → CanBeAsked (cond a (ended e.number (cut_short e p)) (cond b (asked_elsewhere e.number p) (ended e.number p)))
    by true b = ended_can e.number (cut_short e p) (short_can e p can)
    by false true = anew_can e.number (unplaced e.number p.flow) (unplaced_can e.number p.flow can)
    by false false = ended_can e.number p can

lost_place_can : (n : ℕ) (p : Parts) → CanBeAsked p → CanBeAsked (lost_place n false p)
lost_place_can n p can = by (exchange_at n p.flow)
  where
    by : (o : Option Exchange) → CanBeAsked (left_place_at o false p)
    by None = can
    by (Some e) = place_can e p can

line_can : (more k : ℕ) (p : Parts) → CanBeAsked p → CanBeAsked (lost_line more k false p)
line_can zero k p can = can
line_can (suc more) k p can = by (first_on k p) (λ q rest. line_can more k q rest)
  where
    by : (o : Option ℕ) → ((q : Parts) → CanBeAsked q → CanBeAsked (lost_line more k false q)) → CanBeAsked (elim o as (λ t. Parts) [ None ↦ p | Some n ↦ lost_line more k false (lost_place n false p) ])
    by None rest = can
    by (Some n) rest = rest (lost_place n false p) (lost_place_can n p can)

closed_can : (k : ℕ) (o : Option Peer) (p : Parts) → CanBeAsked p → CanBeAsked (closed_line k false o p)
closed_can k None p can = can
closed_can k (Some peer) p can = by peer.is_closing
  where
    by : (b : Bool) → CanBeAsked (cond b p (lost_line 1024 k false p))
    by true = can
    by false = line_can 1024 k p can

dropped_can : (k : ℕ) (o : Option ℕ) (x : Sides) → CanBeAsked x.parts → CanBeAsked (unseen_dropped k o x).parts
dropped_can k None x can = can
dropped_can k (Some n) x can = closed_can k (find (is_number k) x.peers) (ended n x.parts) (ended_can n x.parts can)

each_can : (ns : List ℕ) (x : Sides) → CanBeAsked x.parts → CanBeAsked (fold without_unseen_on x ns).parts
each_can [] x can = can
each_can (n ∷ ns) x can = each_can ns (without_unseen_on x n) (dropped_can n (unseen_on n x.parts.seats x.parts.flow) x can)

pub unseen_can : (x : Sides) → CanBeAsked x.parts → CanBeAsked (without_unseen x).parts
unseen_can x can = each_can (peer_numbers x.peers) x can

pub given_up_can : (ns : List ℕ) (p : Parts) → CanBeAsked p → CanBeAsked (all_given_up ns p)
unfolding all_given_up
given_up_can [] p can = can
given_up_can (n ∷ ns) p can = given_up_can ns (given_up_if n p) (by (is_useless p.cache p.seats (entry_of n p.flow)))
  where
    by : (b : Bool) → CanBeAsked (elim b as (λ t. Parts) [ true ↦ ended n p | false ↦ p ])
    by true = ended_can n p can
    by false = can

-- ---- a client leaves its exchange

nobodys_can : (x : Entry) → IsAskable x → IsAskable (nobodys x)
nobodys_can x ask = record { place = ask.place; short = ask.short }

all_changed : (n : ℕ) (xs : List Entry) → AreAskable xs → AreAskable (changed n nobodys xs)
all_changed n [] all = tt
all_changed n (x ∷ xs) all = by (is_exchange n x) (all_changed n xs all.1)
  where
    by : (b : Bool) → AreAskable (changed n nobodys xs) → AreAskable (cond b (nobodys x ∷ xs) (x ∷ changed n nobodys xs))
    by true rest = (nobodys_can x all.0, all.1)
    by false rest = (all.0, rest)

left_can : (n : ℕ) (p : Parts) → CanBeAsked p → CanBeAsked (left n p)
left_can n p can = (all_changed n p.flow.waiting can.0, all_changed n p.flow.placed can.1)

pub decision_can : (i : ℕ) (p : Parts) → CanBeAsked p → CanBeAsked (left_at_decision i p)
decision_can i p can = by (exchange_of i p)
  where
    at : (n : ℕ) (o : Option ℕ) → CanBeAsked (elim o as (λ t. Parts) [ None ↦ ended n p | Some k ↦ left n p ])
    at n None = ended_can n p can
    at n (Some k) = left_can n p can

    by : (o : Option Exchange) → CanBeAsked (elim o as (λ t. Parts) [ None ↦ p | Some e ↦ left_by e p ])
    by None = can
    by (Some e) = at e.number e.place

pub source_can : (i : ℕ) (p : Parts) → CanBeAsked p → CanBeAsked (left_source i p)
source_can i p can = by (source_at i p)
  where
    by : (o : Option ObjectId) → CanBeAsked (elim o as (λ t. Parts) [ None ↦ p | Some id ↦ record p { seats = changed_at i without_source p.seats; cache = unfollowed id p.cache } ])
    by None = can
    by (Some id) = can

forsaken_can : (i : ℕ) (p : Parts) → CanBeAsked p → CanBeAsked (forsaken i p)
forsaken_can i p can = by (exchange_of i p)
  where
    by : (o : Option Exchange) → CanBeAsked (elim o as (λ t. Parts) [ None ↦ p | Some e ↦ left e.number p ])
    by None = can
    by (Some e) = left_can e.number p can

own_can : (i : ℕ) (o : Option Exchange) (x : Sides) → CanBeAsked x.parts → CanBeAsked (left_own i o x).parts
own_can i None x can = can
own_can i (Some e) x can = by (option_map (λ (y : Entry). y.errand) (entry_of e.number x.parts.flow))
  where
    asked : (b : Bool) (k : ℕ) → CanBeAsked (cond b (withdrawn e.number k x) (with_parts (forsaken i) x)).parts
    asked true k = ended_can e.number x.parts can
    asked false k = forsaken_can i x.parts can

    at : (errand : Errand) (o : Option ℕ) → CanBeAsked (left_at i e.number errand o x).parts
    at errand None = ended_can e.number x.parts can
    at errand (Some k) = asked (errand.asked == 0) k

    by : (o : Option Errand) → CanBeAsked (left_by_errand i e o x).parts
    by None = can
    by (Some errand) = at errand e.place

pub cut_can : (i : ℕ) (x : Sides) → CanBeAsked x.parts → CanBeAsked (closed_client i x).parts
cut_can i x can = own_can i (exchange_of i (closing_at i x.parts)) (with_parts (closing_at i) x) (source_can i x.parts can)
