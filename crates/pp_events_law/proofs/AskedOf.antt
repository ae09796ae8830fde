-- What was heard of the body of a request is what the law has left to ask of it.
use Rattle.std.proofs.Common.{◌≡◌, refl, sym, ap, ap₂, ◌∙◌, ℕ, zero, suc, Bool, ◌==◌, cond, find, min, take, List, [], ◌∷◌, Option, Some, None, arith}
use Rattle.std.proofs.lemmas.Bool.Decides.{nat_tests}
use Rattle.pp_client.specs.Bodies.{unread}
use Rattle.pp_client.specs.Requests.{body_in}
use Rattle.pp_client.specs.declared.body.Body.{Body}
use Rattle.pp_client.specs.declared.body.Body.TheVariants.{Dropped, Over, Unread}
use Rattle.pp_law.specs.Connections.{is_client, is_for}
use Rattle.pp_law.specs.Lists.{Bytes, is_this}
use Rattle.pp_law.specs.State.{Client, Exchange}
use Rattle.pp_seats.specs.declared.seat.Seat.{Seat}
use Rattle.pp_seats_law.specs.Fronts.{ShowsBody}
use Rattle.pp_seats_law.specs.Seats.{ShowsOpen}

other_way : (m n : ℕ) → (m == n) ≡ (n == m)
other_way m n = grind (arith, nat_tests)

-- whose it is
pub find_asker : (e : Exchange) (n : ℕ) → e.asker ≡ Some n → (cs : List Client) → find (is_for e) cs ≡ find (is_client n) cs
find_asker e n asks [] = refl
find_asker e n asks (c ∷ cs) = ap₂ (λ (b : Bool) (o : Option Client). cond b (Some c) o) (ap (λ (o : Option ℕ). is_this c.number o) asks ∙ other_way n c.number) (find_asker e n asks cs)

pub find_nobody : (e : Exchange) → e.asker ≡ None → (cs : List Client) → find (is_for e) cs ≡ None
find_nobody e none [] = refl
find_nobody e none (c ∷ cs) = ap (λ (o : Option ℕ). cond (is_this c.number o) (Some c) (find (is_for e) cs)) none ∙ find_nobody e none cs

take_both : (a b : ℕ) (xs : List ℕ) → take a (take b xs) ≡ take (min a b) xs
take_both zero b xs = ap (λ (n : ℕ). take n xs) (sym (least b))
  where
    least : (n : ℕ) → min 0 n ≡ 0
    least n = omega arith
take_both (suc a) zero xs = ap (λ (n : ℕ). take n xs) (sym (least a))
  where
    least : (n : ℕ) → min (suc n) 0 ≡ 0
    least n = omega arith
take_both (suc a) (suc b) [] = ap (λ (n : ℕ). let none : List ℕ = [] in take n none) (sym (both a b))
  where
    both : (m n : ℕ) → min (suc m) (suc n) ≡ suc (min m n)
    both m n = omega arith
take_both (suc a) (suc b) (x ∷ xs) = ap (λ (ys : List ℕ). x ∷ ys) (take_both a b xs) ∙ ap (λ (n : ℕ). take n (x ∷ xs)) (sym (both a b))
  where
    both : (m n : ℕ) → min (suc m) (suc n) ≡ suc (min m n)
    both m n = omega arith

unread_is : (body : Body) (left skip : ℕ) → ShowsBody body left skip → unread body ≡ left
unread_is (Unread n) left skip shows = sym shows.0
unread_is (Dropped n) left skip shows = sym shows.0
unread_is Over left skip shows = sym shows.0

pub heard_is : (number : ℕ → ℕ) (name : Bytes) (seat : Seat) (c : Client) (left : ℕ) → ShowsOpen number name [] seat c → take left (body_in seat.client.heard) ≡ take (min left c.body_left) c.heard
heard_is number name seat c left shows =
    ap₂ (λ (n : ℕ) (xs : List ℕ). take left (take n xs)) (unread_is seat.client.heard.body c.body_left c.skip shows.body) shows.heard.behind ∙ take_both left c.body_left c.heard
