-- The next request stands behind a reply that is over, as the law says.
use Rattle.std.proofs.Common.{◌≡◌, ◌<◌, ◌≤◌, ◌+◌, ◌-◌, ◌^◌, ◌⊎◌, inl, inr, ℕ, true, false, not, is_ok, min, List, [], ◌∷◌, length, drop, refl, sym, ◌∙◌, ap, subst, arith}
use Rattle.std.proofs.lemmas.Bool.{cases_lt}
use Rattle.std.proofs.lemmas.List.{drop_all}
use Rattle.pp_client.specs.Bodies.{IsKept}
use Rattle.pp_client.specs.Requests.{Heard, answered, with_next}
use Rattle.pp_client.specs.declared.body.Body.{Body}
use Rattle.pp_client.specs.declared.body.Body.TheVariants.{Unread, Dropped, Over}
use Rattle.pp_law.specs.Lists.{Bytes}
use Rattle.pp_law.specs.Replies.{next_request}
use Rattle.pp_law.specs.Requests.{Front, Parsed, NoHeadYet, NoHead, IsRequest, front_of}
use Rattle.pp_law.specs.State.{Client}
use Rattle.pp_seats.specs.declared.front.Front.{Front as SeatFront}
use Rattle.pp_seats.specs.declared.seat.Seat.{Seat}
use Rattle.pp_seats.specs.Heads.{asked_in, body_len_in}
use Rattle.pp_seats.specs.Seats.{at_next_request}
use Rattle.pp_seats_law.specs.Fronts.{IsHeadTaken, ShowsBody, ShowsFront, has_no_end, is_over}
use Rattle.pp_seats_law.specs.Reads.{NextRequestsAreTheLaws, answered_on}
use Rattle.pp_seats_law.specs.Replies.{IsBroughtFor}
use Rattle.pp_seats_law.specs.Seats.{ShowsOpen}
use Rattle.pp_seats_law.proofs.Hears.{IsFronted, IsHeardAs, front_seen, left_same, of, read_new}
use Rattle.pp_seats.specs.declared.seat.Brought.TheVariants.{Awaited as NoneYet}

-- ---- what was heard behind the request

pub dropped_in_order : (n : ℕ) (rest : Bytes) → IsKept (drop n rest) (Dropped (n - length rest))
dropped_in_order n rest = by (cases_lt n (length rest))
  where
    none : (bytes : Bytes) (m : ℕ) → m ≡ 0 → IsKept bytes (Dropped m)
    none [] m zero = tt
    none (b ∷ bytes) m zero = zero

    by : (n < length rest) ⊎ (length rest ≤ n) → IsKept (drop n rest) (Dropped (n - length rest))
    by (inl within) = none (drop n rest) (n - length rest) (omega (arith, within))
    by (inr past) = subst (λ (bytes : Bytes). IsKept bytes (Dropped (n - length rest))) (sym (drop_all n rest past)) tt

-- by its body: what is left of that is dropped
answered_by : (head rest : Bytes) (body : Body) (r : Parsed) (left skip : ℕ) → IsHeadTaken head (IsRequest r) → IsKept rest body → ShowsBody body left skip → is_over body ≡ has_no_end (IsRequest r) → is_ok r.rule ≡ true
    → IsFronted (answered (of head rest body)) (drop left rest) (skip + (left - length rest))
answered_by [] rest body r left skip taken is shows over ok = absurd taken
answered_by (b ∷ head) rest Over r left skip taken is shows over ok = let e : true ≡ false = over ∙ ap not ok in absurd (cc e)
answered_by (b ∷ head) rest (Unread n) r left skip taken is shows over ok =
    let gone = shows.1 in
    let same : n - length rest ≡ skip + (left - length rest) = ap (λ (m : ℕ). m - length rest) (sym shows.0) ∙ omega (arith, gone) in
    subst (λ (m : ℕ). IsFronted (with_next (of [] (drop n rest) (Dropped (n - length rest)))) (drop m rest) (skip + (left - length rest))) (sym shows.0)
    (subst (λ (m : ℕ). IsFronted (with_next (of [] (drop n rest) (Dropped (n - length rest)))) (drop n rest) m) same
    (read_new (drop n rest) (n - length rest) (dropped_in_order n rest)))
answered_by (b ∷ head) rest (Dropped n) r left skip taken is shows over ok =
    let none = shows.0 in
    let gone = shows.1 in
    let same : n ≡ skip + (left - length rest) = omega (arith, none, gone) in
    subst (λ (m : ℕ). IsFronted (with_next (of [] rest (Dropped n))) (drop m rest) (skip + (left - length rest))) (sym none)
    (subst (λ (m : ℕ). IsFronted (with_next (of [] rest (Dropped n))) rest m) same (read_new rest n is))

answered_as : (h : Heard) (r : Parsed) (heard : Bytes) (left skip : ℕ) → IsHeardAs h (IsRequest r) heard left skip → is_ok r.rule ≡ true → IsFronted (answered h) (drop left heard) (skip + (left - length heard))
answered_as h r heard left skip shows ok =
    subst (λ (b : Bytes). IsFronted (answered h) (drop left b) (skip + (left - length b))) shows.heard.behind
    (answered_by h.head h.rest h.body r left skip shows.heard.head shows.heard.kept shows.body shows.over ok)

-- ---- the seat

pub brought_anew : (f : Front) → IsBroughtFor f NoneYet
brought_anew NoHeadYet = tt
brought_anew (NoHead status) = tt
brought_anew (IsRequest r) = tt

counted : (n m : ℕ) → n ≡ m → n + 1 ≤ 2 ^ 64 - 1 → min (n + 1) (2 ^ 64 - 1) ≡ m + 1
counted n m same few = omega (arith, same, few)

heard_for : (number : ℕ → ℕ) (name : Bytes) (owed : List Bytes) (seat : Seat) (c : Client) (r : Parsed) → ShowsOpen number name owed seat c → c.front ≡ IsRequest r → IsHeardAs seat.client.heard (IsRequest r) c.heard c.body_left c.skip
heard_for number name owed seat c r shows same = subst (λ (f : Front). IsHeardAs seat.client.heard f c.heard c.body_left c.skip) same (record { heard = shows.heard; body = shows.body; over = shows.over })

next_shows : (number : ℕ → ℕ) (name : Bytes) (owed : List Bytes) (seat : Seat) (c : Client) (nf : SeatFront) → ShowsOpen number name owed seat c → seat.index + 1 ≤ 2 ^ 64 - 1 → IsFronted (answered seat.client.heard) (drop c.body_left c.heard) (c.skip + (c.body_left - length c.heard))
    → ShowsFront nf (front_of (drop c.body_left c.heard)) → ShowsOpen number name owed (record (at_next_request (answered_on seat)) { front = nf; body_left = body_len_in (asked_in nf) }) (next_request c)
next_shows number name owed seat c nf shows few there front = record {
  hung_up = shows.hung_up;
  mark = shows.mark;
  heard = there.stands.heard;
  body = there.stands.body;
  over = there.stands.over;
  front = front;
  body_left = left_same nf (front_of (drop c.body_left c.heard)) front;
  index = counted seat.index c.index shows.index few;
  stage = (refl, refl);
  waits_on = refl;
  fate = (refl, tt);
  asked = brought_anew (front_of (drop c.body_left c.heard));
  piped = tt;
  given_up = refl;
  interim = refl;
  before_body = refl;
  closes = refl;
}

pub next_requests : NextRequestsAreTheLaws
next_requests number name owed seat new c r shows is ok few read =
    let there : IsFronted (answered seat.client.heard) (drop c.body_left c.heard) (c.skip + (c.body_left - length c.heard)) = answered_as seat.client.heard r c.heard c.body_left c.skip (heard_for number name owed seat c r shows is) ok in
    subst (λ (s : Seat). ShowsOpen number name owed s (next_request c)) (sym read.1)
    (next_shows number name owed seat c new.front shows few there (front_seen new.front (answered seat.client.heard) (front_of (drop c.body_left c.heard)) read.0 there.exact))
