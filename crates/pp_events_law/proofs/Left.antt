-- Where replies end, who goes on went on before, what exchanges joined is what they joined before, and no instance comes in.
use Rattle.std.proofs.Common.{◌≡◌, refl, sym, subst, ap, ◌∙◌, ℕ, Bool, true, false, ◌==◌, ◌&&◌, cond, nat_lt, List, [], ◌∷◌, Option, Some, None, option_map}
use Rattle.std.specs.Prelude.{slice_get, slice_set}
use Rattle.pp_cache.specs.Memory.{Memory}
use Rattle.pp_cache_law.proofs.Numbers.{is_same, some_is}
use Rattle.pp_client.specs.Clients.{said_by}
use Rattle.pp_turns_law.proofs.Changed.{get_set}
use Rattle.pp_turns_law.proofs.Refused.{left_stands}
use Rattle.pp_turns_law.proofs.Regained.{get_other}
use Rattle.pp_desk.specs.Closings.{Sides, closed_client, closing_at, left_at, left_by_errand, left_own, with_parts, withdrawn}
use Rattle.pp_desk.specs.Replies.{EndsBy, EndsReplies, EndsSaid, EndsSaidOf, EndsWhere, IsLookedAt, account_renewed, at_next, closes_in, is_finished_in, without_finished, without_finished_at}
use Rattle.pp_flow.specs.Changes.{Exchanges, entry_of}
use Rattle.pp_flow.specs.declared.entry.Exchange.{Exchange}
use Rattle.pp_flow.specs.declared.errand.Errand.{Errand}
use Rattle.pp_objects.specs.Instances.{followers_of, in_slot, is_there}
use Rattle.pp_objects.specs.declared.id.ObjectId.{ObjectId}
use Rattle.pp_seats.specs.Seats.{IsRead, IsReadBehind, at_next_request}
use Rattle.pp_seats.specs.declared.front.Front.{Front}
use Rattle.pp_seats.specs.declared.front.Front.TheVariants.{NoHeadYet, NoHead, Request}
use Rattle.pp_seats.specs.declared.seat.Brought.TheVariants.{Joins}
use Rattle.pp_seats.specs.declared.seat.Seat.{Seat}
use Rattle.pp_state.specs.Ends.{Parts, changed_at, ended, exchange_of, followed_less, forsaken, left, left_source, on_seat, source_at, unfollowed, without_source}
use Rattle.pp_state.specs.Hearing.{is_said_in, may_end, with_end}
use Rattle.pp_state.specs.Places.{IsChangedIn}
use Rattle.pp_events_law.proofs.Alike.{AreAlike, WasAlike}

-- ---- a client, and all

pub record IsLeft (seat new : Seat) : Type 0 where
  pub going : new.is_closing ≡ false → seat.is_closing ≡ false
  pub joins : (id : ObjectId) (plain : Bool) → new.brought ≡ Joins id plain → seat.brought ≡ Joins id plain

pub record WasLeft (seats : List Seat) (j : ℕ) (new : Seat) : Type 0 where
  pub old : Seat
  pub here : slice_get seats j ≡ Some old
  pub is : IsLeft old new

pub record AreLeft (p q : Parts) : Type 0 where
  pub was : (j : ℕ) (new : Seat) → slice_get q.seats j ≡ Some new → WasLeft p.seats j new
  pub lives : q.cache.lives ≡ p.cache.lives
  pub there : (id : ObjectId) → is_there id q.cache.instances ≡ true → is_there id p.cache.instances ≡ true

pub left_as : (seat : Seat) → IsLeft seat seat
left_as seat = record { going = λ on. on; joins = λ id plain is. is }

pub left_flow : (p : Parts) (f : Exchanges) → AreLeft p (record p { flow = f })
left_flow p f = record { was = λ j new at. record { old = new; here = at; is = left_as new }; lives = refl; there = λ id is. is }

pub left_then : (p q r : Parts) → AreLeft p q → AreLeft q r → AreLeft p r
left_then p q r one two = record { was = λ j new at. join j new (two.was j new at); lives = two.lives ∙ one.lives; there = λ id is. one.there id (two.there id is) }
  where
    join : (j : ℕ) (new : Seat) → WasLeft q.seats j new → WasLeft p.seats j new
    join j new b =
        let a : WasLeft p.seats j b.old = one.was j b.old b.here in
        record { old = a.old; here = a.here; is = record { going = λ on. a.is.going (b.is.going on); joins = λ id plain is. a.is.joins id plain (b.is.joins id plain is) } }

pub alike_left : (p q : Parts) → AreAlike p q → AreLeft p q
alike_left p q alike = record {
  was = λ j new at. let a : WasAlike p.seats j new = alike.was j new at in record { old = a.old; here = a.here; is = record { going = λ on. sym a.is.closing ∙ on; joins = a.is.joins } };
  lives = alike.lives;
  there = alike.there;
}

-- ---- one client is changed

pub set_left : (i : ℕ) (seats : List Seat) (seat new : Seat) → slice_get seats i ≡ Some seat → IsLeft seat new → (j : ℕ) (other : Seat) → slice_get (slice_set seats i new) j ≡ Some other → WasLeft seats j other
set_left i seats seat new here left j other at = by (i == j) refl
  where
    by : (b : Bool) → (i == j) ≡ b → WasLeft seats j other
    by false off = record { old = other; here = sym (get_other i j seats new off) ∙ at; is = left_as other }
    by true same =
        let one : new ≡ other = some_is new other (sym (get_set i seats seat new here) ∙ ap (λ (k : ℕ). slice_get (slice_set seats i new) k) (is_same i j same) ∙ at) in
        record { old = seat; here = ap (λ (k : ℕ). slice_get seats k) (sym (is_same i j same)) ∙ here; is = subst (λ (o : Seat). IsLeft seat o) one left }

pub on_left : (i : ℕ) (f : Seat → Seat) (p : Parts) → ((seat : Seat) → IsLeft seat (f seat)) → AreLeft p (on_seat i f p)
on_left i f p keeps = record { was = λ j new at. by j new (slice_get p.seats i) refl at; lives = refl; there = λ id is. is }
  where
    by : (j : ℕ) (new : Seat) (o : Option Seat) → slice_get p.seats i ≡ o → slice_get (elim o as (λ t. List Seat) [ None ↦ p.seats | Some seat ↦ slice_set p.seats i (f seat) ]) j ≡ Some new → WasLeft p.seats j new
    by j new None here at = record { old = new; here = at; is = left_as new }
    by j new (Some seat) here at = set_left i p.seats seat (f seat) here (keeps seat) j new at

-- ---- it follows nothing any more

less_lives : (id : ObjectId) (m : Memory) → (unfollowed id m).lives ≡ m.lives
less_lives id m = by (is_there id m.instances && nat_lt 0 (followers_of (in_slot id.slot m.instances)))
  where
    by : (b : Bool) → (cond b (followed_less id m) m).lives ≡ m.lives
    by true = refl
    by false = refl

leaves_source : (i : ℕ) (p : Parts) → AreLeft p (left_source i p)
leaves_source i p = by (source_at i p)
  where
    by : (o : Option ObjectId) → AreLeft p (elim o as (λ t. Parts) [ None ↦ p | Some id ↦ record p { seats = changed_at i without_source p.seats; cache = unfollowed id p.cache } ])
    by None = left_flow p p.flow
    by (Some id) =
        left_then p (on_seat i without_source p) (record p { seats = changed_at i without_source p.seats; cache = unfollowed id p.cache }) (on_left i without_source p (λ seat. record { going = λ on. on; joins = λ k plain is. is }))
        (record { was = λ j new at. record { old = new; here = at; is = left_as new }; lives = less_lives id p.cache; there = (left_stands (Some id) p.cache 0).there })

forsakes : (i : ℕ) (p : Parts) → AreLeft p (forsaken i p)
forsakes i p = by (exchange_of i p)
  where
    by : (o : Option Exchange) → AreLeft p (elim o as (λ t. Parts) [ None ↦ p | Some e ↦ left e.number p ])
    by None = left_flow p p.flow
    by (Some e) = left_flow p (left e.number p).flow

-- ---- one is closed

leaves_ask : (i : ℕ) (o : Option Exchange) (x : Sides) → AreLeft x.parts (left_own i o x).parts
leaves_ask i None x = left_flow x.parts x.parts.flow
leaves_ask i (Some e) x = by (option_map (λ entry. entry.errand) (entry_of e.number x.parts.flow))
  where
    on : (b : Bool) (k : ℕ) → AreLeft x.parts (cond b (withdrawn e.number k x) (with_parts (forsaken i) x)).parts
    on true k = left_flow x.parts (ended e.number x.parts).flow
    on false k = forsakes i x.parts

    at : (errand : Errand) (o : Option ℕ) → AreLeft x.parts (left_at i e.number errand o x).parts
    at errand None = left_flow x.parts (ended e.number x.parts).flow
    at errand (Some k) = on (errand.asked == 0) k

    by : (o : Option Errand) → AreLeft x.parts (left_by_errand i e o x).parts
    by None = left_flow x.parts x.parts.flow
    by (Some errand) = at errand e.place

pub closes_one : (i : ℕ) (x : Sides) → AreLeft x.parts (closed_client i x).parts
closes_one i x =
    let p : Parts = left_source i x.parts in
    let q : Parts = closing_at i x.parts in
    left_then x.parts q (closed_client i x).parts (left_then x.parts p q (leaves_source i x.parts) (on_left i (λ seat. record seat { is_closing = true }) p (λ seat. record { going = λ on. absurd (cc on); joins = λ id plain is. is })))
    (leaves_ask i (exchange_of i q) (with_parts (closing_at i) x))

-- ---- its reply is over

pub read_left : (old new : Seat) → IsRead old new → IsLeft old new
read_left old new is = by old.front is
  where
    same : new ≡ old → IsLeft old new
    same it = record { going = λ on. ap (λ (o : Seat). o.is_closing) (sym it) ∙ on; joins = λ id plain joined. ap (λ (o : Seat). o.brought) (sym it) ∙ joined }

    by : (f : Front) → IsReadBehind f old new → IsLeft old new
    by NoHeadYet read = record { going = λ on. ap (λ (o : Seat). o.is_closing) (sym read.1) ∙ on; joins = λ id plain joined. ap (λ (o : Seat). o.brought) (sym read.1) ∙ joined }
    by (NoHead status) read = same read
    by (Request a) read = same read

looks : (i : ℕ) (x z : Sides) → IsLookedAt i x z → AreLeft x.parts z.parts
looks i x z is = record {
  was = λ j new at. by j new at (slice_get x.parts.seats i) refl is.0;
  lives = ap (λ (y : Sides). y.parts.cache.lives) is.1;
  there = λ id there. subst (λ (m : Memory). is_there id m.instances ≡ true) (ap (λ (y : Sides). y.parts.cache) is.1) there;
}
  where
    by : (j : ℕ) (new : Seat) → slice_get z.parts.seats j ≡ Some new → (o : Option Seat) → slice_get x.parts.seats i ≡ o → IsChangedIn IsRead o i x.parts.seats z.parts.seats → WasLeft x.parts.seats j new
    by j new at None here same = record { old = new; here = ap (λ (ss : List Seat). slice_get ss j) (sym same) ∙ at; is = left_as new }
    by j new at (Some seat) here change = set_left i x.parts.seats seat change.0 here (read_left seat change.0 change.1) j new (ap (λ (ss : List Seat). slice_get ss j) (sym change.2) ∙ at)

ends_by : (i : ℕ) (b : Bool) (x z : Sides) → EndsBy b i x z → AreLeft x.parts z.parts
ends_by i true x z is = subst (λ (y : Sides). AreLeft x.parts y.parts) (sym is) (closes_one i x)
ends_by i false x z is =
    let a : Parts = left_source i x.parts in
    let b : Parts = forsaken i a in
    let c : Parts = at_next i x.parts in
    left_then x.parts c z.parts (left_then x.parts b c (left_then x.parts a b (leaves_source i x.parts) (forsakes i a)) (on_left i at_next_request b (λ seat. record { going = λ on. on; joins = λ id plain is. absurd (cc is) })))
    (looks i (with_parts (at_next i) x) z is)

ends_where : (i : ℕ) (b : Bool) (x z : Sides) → EndsWhere b i x z → AreLeft x.parts z.parts
ends_where i true x z is =
    let y : Sides = with_parts (on_seat i account_renewed) x in
    left_then x.parts y.parts z.parts (on_left i account_renewed x.parts (λ seat. record { going = λ on. on; joins = λ id plain is. is })) (ends_by i (closes_in (slice_get x.parts.seats i)) y z is)
ends_where i false x z is = subst (λ (y : Sides). AreLeft x.parts y.parts) (sym is) (left_flow x.parts x.parts.flow)

end_left : (seat : Seat) → IsLeft seat (with_end seat)
end_left seat = by (may_end seat)
  where
    by : (b : Bool) → IsLeft seat (elim b as (λ t. Seat) [ true ↦ record seat { client = said_by 0 seat.client } | false ↦ seat ])
    by true = record { going = λ on. on; joins = λ id plain is. is }
    by false = left_as seat

ends_of : (i : ℕ) (x z : Sides) → EndsSaidOf i x z → AreLeft x.parts z.parts
ends_of i x z is =
    let y : Sides = with_parts (on_seat i with_end) x in
    left_then x.parts y.parts z.parts (on_left i with_end x.parts end_left) (ends_where i (is_said_in (slice_get x.parts.seats i)) y z is)

-- ---- all of them

said_left : (is : List ℕ) (x z : Sides) → EndsSaid is x z → AreLeft x.parts z.parts
said_left [] x z ends = subst (λ (y : Sides). AreLeft x.parts y.parts) (sym ends) (left_flow x.parts x.parts.flow)
said_left (i ∷ is) x z ends = left_then x.parts ends.0.parts z.parts (ends_of i x ends.0 ends.1) (said_left is ends.0 z ends.2)

finished_one : (i : ℕ) (x : Sides) → AreLeft x.parts (without_finished_at x i).parts
finished_one i x = by (is_finished_in (slice_get x.parts.seats i))
  where
    by : (b : Bool) → AreLeft x.parts (cond b (closed_client i x) x).parts
    by true = closes_one i x
    by false = left_flow x.parts x.parts.flow

finished_left : (is : List ℕ) (x : Sides) → AreLeft x.parts (without_finished is x).parts
finished_left [] x = left_flow x.parts x.parts.flow
finished_left (i ∷ is) x = left_then x.parts (without_finished_at x i).parts (without_finished (i ∷ is) x).parts (finished_one i x) (finished_left is (without_finished_at x i))

pub replies_left : (is : List ℕ) (x z : Sides) → EndsReplies is x z → AreLeft x.parts z.parts
replies_left is x z ends = left_then x.parts ends.0.parts z.parts (said_left is x ends.0 ends.1) (subst (λ (y : Sides). AreLeft ends.0.parts y.parts) (sym ends.2) (finished_left is ends.0))
