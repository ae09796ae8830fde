-- Where no reply is over, and nobody is finished, nothing ends; and one that is closed rests.
use Rattle.std.proofs.Common.{◌≡◌, refl, sym, subst, ap, ◌∙◌, ℕ, suc, Bool, true, false, ◌&&◌, ◌||◌, not, cond, find, length, map, nat_lt, List, [], ◌∷◌, Option, Some, None}
use Rattle.pp_cache_law.proofs.Numbers.{some_is}
use Rattle.pp_client.specs.Requests.{body_in}
use Rattle.pp_clients_obey.proofs.Walks.{Rests, close_none, end_none, rests}
use Rattle.pp_clients_obey.specs.Ending.{IsSettled}
use Rattle.pp_turns_law.proofs.Quit.{quit}
use Rattle.pp_events_law.specs.Hears.{AreSettled}
use Rattle.pp_law.specs.Connections.{client, each_client, is_client}
use Rattle.pp_law.specs.Lists.{Bytes}
use Rattle.pp_law.specs.Replies.{close_finished, end_replies, end_said}
use Rattle.pp_law.specs.State.{State, Client}
use Rattle.pp_objects.specs.declared.id.ObjectId.{ObjectId}
use Rattle.pp_seats.specs.Heads.{is_there_in}
use Rattle.pp_seats.specs.Seats.{finished_in}
use Rattle.pp_seats.specs.declared.seat.Seat.{Seat}
use Rattle.pp_seats_law.specs.Clients.{AreShown}

-- ---- of the law: where no reply is over, and nobody is finished, nothing ends

pub none_each : (f : Client → State → State) (s : State) → ((n : ℕ) (c : Client) → client s n ≡ Some c → f c s ≡ s) → (ns : List ℕ) → each_client f ns s ≡ s
unfolding each_client
none_each f s none [] = refl
none_each f s none (n ∷ ns) = ap (λ (t : State). each_client f ns t) (by (client s n) refl) ∙ none_each f s none ns
  where
    by : (o : Option Client) → client s n ≡ o → (elim o as (λ c. State) [ None ↦ s | Some c ↦ f c s ]) ≡ s
    by None is = refl
    by (Some c) is = none n c is

pub none_ends : (s : State) → ((n : ℕ) (c : Client) → client s n ≡ Some c → Rests c) → end_replies s ≡ s
unfolding end_replies
none_ends s all =
    ap (λ (t : State). each_client close_finished (map (λ (c : Client). c.number) s.clients) t) (none_each end_said s (λ n c there. end_none c s (all n c there).said) (map (λ (c : Client). c.number) s.clients))
    ∙ none_each close_finished s (λ n c there. close_none c s (all n c there).finished) (map (λ (c : Client). c.number) s.clients)

-- each client is shown by a seat that is settled
pub all_rest : (number : ℕ → ℕ) (name : Bytes) (seats : List Seat) (cs : List Client) → AreShown number name [] seats cs → AreSettled seats → (n : ℕ) (c : Client) → find (is_client n) cs ≡ Some c → Rests c
all_rest number name [] [] shown settled n c there = absurd (cc there)
all_rest number name [] (d ∷ cs) shown settled n c there = absurd shown
all_rest number name (seat ∷ seats) [] shown settled n c there = absurd shown
all_rest number name (seat ∷ seats) (d ∷ cs) shown settled n c there = by (is_client n d) there (λ found. all_rest number name seats cs shown.1 (λ j other at. settled (suc j) other at) n c found)
  where
    by : (b : Bool) → cond b (Some d) (find (is_client n) cs) ≡ Some c → (find (is_client n) cs ≡ Some c → Rests c) → Rests c
    by true found rest = subst (λ (o : Client). Rests o) (some_is d c found) (rests number name [] seat d shown.0 (settled 0 seat refl))
    by false found rest = rest found

-- ---- one that is closed rests

pub quit_settled : (o : Option ObjectId) (seat : Seat) → IsSettled (quit o seat)
quit_settled o seat = record { said = λ going. absurd (let both : true ≡ false = sym (closed o) ∙ going in cc both); finished = over o }
  where
    closed : (o : Option ObjectId) → (quit o seat).is_closing ≡ true
    closed None = refl
    closed (Some id) = refl

    none_of : (a b : Bool) → (a && false && b) ≡ false
    none_of true b = refl
    none_of false b = refl

    over : (o : Option ObjectId) → finished_in (quit o seat) ≡ false
    over None = none_of seat.has_hung_up (not (is_there_in seat.front) || nat_lt (length (body_in seat.client.heard)) seat.body_left)
    over (Some id) = none_of seat.has_hung_up (not (is_there_in seat.front) || nat_lt (length (body_in seat.client.heard)) seat.body_left)
