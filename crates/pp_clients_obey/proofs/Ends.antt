-- The last bytes of a reply are what the law permits, and behind them the next request stands, or the client is closed.
use Rattle.std.proofs.Common.{◌≡◌, refl, sym, subst, ap, ◌∙◌, ℕ, zero, suc, ◌-◌, ◌≤◌, nat_lt, Bool, true, false, not, ◌==◌, ◌&&◌, ◌||◌, is_ok, find, List, [], ◌∷◌, length, Some}
use Rattle.std.specs.Prelude.{slice_get, slice_set}
use Rattle.pp_client.specs.Clients.{Client as Side, said_by as side_said}
use Rattle.pp_client.specs.Replies.{ended as ended_reply, is_said, left_next, said as said_in}
use Rattle.pp_client.specs.Requests.{answered}
use Rattle.pp_reply.specs.Keeping.{is_kept_open}
use Rattle.pp_world.specs.declared.happening.Happening.TheVariants.{Said}
use Rattle.pp_law.specs.After.{paid}
use Rattle.pp_law.specs.Closing.{close_client, forsake, is_of}
use Rattle.pp_law.specs.Connections.{client, is_client, on_client}
use Rattle.pp_law.specs.Lists.{Bytes, change}
use Rattle.pp_law.specs.Replies.{close_finished, end_replies, end_reply, end_said, is_finished, is_said as is_over, next_request, said_by, use_said}
use Rattle.pp_law.specs.Requests.{Front, IsRequest, NoHead, NoHeadYet, Parsed, has_request}
use Rattle.pp_law.specs.State.{State, Client}
use Rattle.pp_law.specs.Table.{swept}
use Rattle.pp_laws.proofs.Callers.{next_request-same, said_by-same}
use Rattle.pp_laws.proofs.Tests.{same_number, second_holds}
use Rattle.pp_obeys.specs.Moves.{Leads}
use Rattle.pp_obeys.proofs.Happenings.{goes_said}
use Rattle.pp_seats.specs.Accounts.{said as said_account}
use Rattle.pp_seats.specs.declared.front.Front.{Front as SeatFront}
use Rattle.pp_seats.specs.declared.front.Front.TheVariants.{NoHeadYet as NoneYet, NoHead as NoneThere, Request as IsThere}
use Rattle.pp_seats.specs.declared.seat.Seat.{Seat}
use Rattle.pp_seats.specs.Heads.{asked_in}
use Rattle.pp_seats.specs.Seats.{IsRead, at_next_request, finished_in, told_by}
use Rattle.pp_seats_law.specs.Clients.{AreShown, IsAt, IsFound}
use Rattle.pp_seats_law.specs.Fronts.{ShowsFront}
use Rattle.pp_seats_law.specs.Saying.{IsNext}
use Rattle.pp_seats_law.specs.Seats.{ShowsSeat}
use Rattle.pp_seats_law.proofs.AllSeats.{changes, places}
use Rattle.pp_seats_law.proofs.Dues.{finished}
use Rattle.pp_seats_law.proofs.Nexts.{found_holds}
use Rattle.pp_seats_law.proofs.SaidOn.{IsToldBy, open_told, told_with}
use Rattle.pp_seats_law.proofs.SaidWhole.{endings, ends_same}
use Rattle.pp_clients_obey.specs.Closing.{IsClosed}
use Rattle.pp_clients_obey.specs.Ending.{AreSettledBut, EndsLead, GoesOn, IsLeftAs, LastsLead, LeavesNone, RestsAreTheLaws, keeps_open_in}
use Rattle.pp_clients_obey.specs.Hearing.{AreSeen, Sits}
use Rattle.pp_clients_obey.specs.Saying.{OwesWrite, told_to}
use Rattle.pp_clients_obey.proofs.Closes.{closed_all, closed_shows, closing_by, seen_closed, seen_forsaken, seen_on, seen_swept}
use Rattle.pp_clients_obey.proofs.Hears.{leads_on, same_seat}
use Rattle.pp_clients_obey.proofs.Says.{said_is, seen, seen_said}
use Rattle.pp_clients_obey.proofs.Walks.{AllRestBut, Changes, all_rest, change_rest, change_twice, close_none, close_one, end_none, end_one, ends_by, found_in, found_rests, not_over}

-- ---- a state whose clients are these

-- by its name and clients alone
record Has (name : Bytes) (cs : List Client) (s : State) : Type 0 where
  same : seen s ≡ (name, cs)

clients_of : (name : Bytes) (cs : List Client) (s : State) → Has name cs s → s.clients ≡ cs
clients_of name cs s has = ap (λ (p : Bytes × List Client). p.1) has.same

shown_in : (number : ℕ → ℕ) (name : Bytes) (owed : List Bytes) (seats : List Seat) (cs : List Client) (s : State) → Has name cs s → AreShown number name owed seats cs → AreShown number s.settings.name owed seats s.clients
shown_in number name owed seats cs s has shown = subst (λ (p : Bytes × List Client). AreShown number p.0 owed seats p.1) (sym has.same) shown

rest_in : (name : Bytes) (cs : List Client) (n : ℕ) (s : State) → Has name cs s → AllRestBut n cs → AllRestBut n s.clients
rest_in name cs n s has all = subst (λ (xs : List Client). AllRestBut n xs) (sym (clients_of name cs s has)) all

client_in : (name : Bytes) (cs : List Client) (n : ℕ) (c : Client) (s : State) → Has name cs s → find (is_client n) cs ≡ Some c → client s n ≡ Some c
client_in name cs n c s has found = ap (λ (xs : List Client). find (is_client n) xs) (clients_of name cs s has) ∙ found

-- ---- a seat among the others

at_set : (n i : ℕ) (seats : List Seat) (seat new : Seat) → IsAt n i seats → slice_get seats i ≡ Some seat → new.client.id ≡ seat.client.id → IsAt n i (slice_set seats i new)
at_set n i [] seat new at there same = absurd at
at_set n zero (first ∷ seats) seat new at there same = (ap (λ (m : ℕ). m == n) (same ∙ ap (λ (x : Seat). x.client.id) (same_seat first seat there)) ∙ at.0, at.1)
at_set n (suc i) (first ∷ seats) seat new at there same = (at.0, at_set n i seats seat new at.1 there same)

get_set : (n i : ℕ) (seats : List Seat) (new : Seat) → IsAt n i seats → slice_get (slice_set seats i new) i ≡ Some new
get_set n i [] new at = absurd at
get_set n zero (first ∷ seats) new at = refl
get_set n (suc i) (first ∷ seats) new at = get_set n i seats new at.1

set_set : (n i : ℕ) (seats : List Seat) (new after : Seat) → IsAt n i seats → slice_set (slice_set seats i new) i after ≡ slice_set seats i after
set_set n i [] new after at = absurd at
set_set n zero (first ∷ seats) new after at = refl
set_set n (suc i) (first ∷ seats) new after at = ap (λ (rest : List Seat). first ∷ rest) (set_set n i seats new after at.1)

shown_again : (number : ℕ → ℕ) (name : Bytes) (owed : List Bytes) (seats : List Seat) (cs : List Client) (n i : ℕ) (seat : Seat) → AreShown number name owed seats cs → IsAt n i seats → slice_get seats i ≡ Some seat → AreShown number name owed (slice_set seats i seat) cs
shown_again number name owed [] cs n i seat shown at there = absurd at
shown_again number name owed (first ∷ seats) [] n i seat shown at there = absurd shown
shown_again number name owed (first ∷ seats) (c ∷ cs) n zero seat shown at there = (subst (λ (x : Seat). ShowsSeat number name owed x c) (sym (same_seat first seat there)) shown.0, shown.1)
shown_again number name owed (first ∷ seats) (c ∷ cs) n (suc i) seat shown at there = (shown.0, shown_again number name owed seats cs n i seat shown.1 at.1 there)

-- ---- nothing is left of it to answer, or something is

and_false : (b : Bool) → (b && false) ≡ false
and_false true = refl
and_false false = refl

not_finished : (c : Client) → c.is_closing ≡ true → is_finished c ≡ false
not_finished c is =
    ap (λ (b : Bool). c.has_hung_up && not b && (not (has_request c.front) || nat_lt (length c.heard) c.body_left)) is
    ∙ ap (λ (b : Bool). b && (not (has_request c.front) || nat_lt (length c.heard) c.body_left)) (and_false c.has_hung_up)

pub number_found : (n : ℕ) (cs : List Client) (c : Client) → find (is_client n) cs ≡ Some c → c.number ≡ n
number_found n cs c found = same_number c.number n (found_holds (is_client n) c cs found)

closed_has : (name : Bytes) (cs : List Client) (n : ℕ) (t : State) → Has name cs t → Has name (change (is_client n) (closing_by false) cs) (close_client n false t)
closed_has name cs n t has = record { same = seen_closed n false t ∙ ap (λ (p : Bytes × List Client). (p.0, change (is_client n) (closing_by false) p.1)) has.same }

-- it stays
stays_then : (n : ℕ) (t : State) (c : Client) → client t n ≡ Some c → AllRestBut n t.clients → is_finished c ≡ false → Changes close_finished n t t
stays_then n t c found all isnt = record {
  here = c;
  found = found;
  leads = close_none c t isnt;
  now = c;
  again = found;
  stays = close_none c t isnt;
  others = λ m x other there. close_none x t (found_rests n m t.clients x all there other).finished;
  others_then = λ m x other there. close_none x t (found_rests n m t.clients x all there other).finished;
}

-- it is closed
closed_then : (n : ℕ) (t : State) (c : Client) → client t n ≡ Some c → AllRestBut n t.clients → is_finished c ≡ true → Changes close_finished n t (close_client n false t)
closed_then n t c found all is =
    let has : Has t.settings.name (change (is_client n) (closing_by false) t.clients) (close_client n false t) = closed_has t.settings.name t.clients n t (record { same = refl }) in
    let then : AllRestBut n (close_client n false t).clients
    = rest_in t.settings.name (change (is_client n) (closing_by false) t.clients) n (close_client n false t) has (change_rest (closing_by false) (λ x. refl) n t.clients all) in record {
      here = c;
      found = found;
      leads = close_one c t is ∙ ap (λ (m : ℕ). close_client m false t) (number_found n t.clients c found);
      now = closing_by false c;
      again = client_in t.settings.name (change (is_client n) (closing_by false) t.clients) n (closing_by false c) (close_client n false t) has (found_in (closing_by false) (λ x. refl) n t.clients c found);
      stays = close_none (closing_by false c) (close_client n false t) (not_finished (closing_by false c) refl);
      others = λ m x other there. close_none x t (found_rests n m t.clients x all there other).finished;
      others_then = λ m x other there. close_none x (close_client n false t) (found_rests n m (close_client n false t).clients x then there other).finished;
    }

-- it stays, or is closed where nothing is left
record Finishes (number : ℕ → ℕ) (owed : List Bytes) (seats : List Seat) (n : ℕ) (t : State) : Type 0 where
  last : State
  closes : Changes close_finished n t last
  shown : AreShown number last.settings.name owed seats last.clients

finishes : (number : ℕ → ℕ) (owed : List Bytes) (n i : ℕ) (seats : List Seat) (seat new : Seat) (t : State) (b : Bool) → AreShown number t.settings.name owed seats t.clients → IsAt n i seats → slice_get seats i ≡ Some seat → AllRestBut n t.clients → finished_in seat ≡ b
    → IsLeftAs b seat new → Finishes number owed (slice_set seats i new) n t
finishes number owed n i seats seat new t true shown at there all is left =
    let here : IsFound number t.settings.name owed seat n t.clients = places number t.settings.name owed seats t.clients n i seat shown at there in record {
      last = close_client n false t;
      closes = closed_then n t here.client here.there all (sym (finished number t.settings.name owed seat here.client here.shows) ∙ is);
      shown = closed_all number owed n i seats seat new false t shown at there left;
    }
finishes number owed n i seats seat new t false shown at there all isnt left =
    let here : IsFound number t.settings.name owed seat n t.clients = places number t.settings.name owed seats t.clients n i seat shown at there in record {
      last = t;
      closes = stays_then n t here.client here.there all (sym (finished number t.settings.name owed seat here.client here.shows) ∙ isnt);
      shown = subst (λ (x : Seat). AreShown number t.settings.name owed (slice_set seats i x) t.clients) (sym left) (shown_again number t.settings.name owed seats t.clients n i seat shown at there);
    }

-- ---- where no reply is over

none_end : (n : ℕ) (t : State) (c : Client) → client t n ≡ Some c → AllRestBut n t.clients → (is_over c && not c.is_closing) ≡ false → Changes end_said n t t
none_end n t c found all isnt = record {
  here = c;
  found = found;
  leads = end_none c t isnt;
  now = c;
  again = found;
  stays = end_none c t isnt;
  others = λ m x other there. end_none x t (found_rests n m t.clients x all there other).said;
  others_then = λ m x other there. end_none x t (found_rests n m t.clients x all there other).said;
}

pub rests : RestsAreTheLaws
rests number n i owed seats seat new t at there settled unsaid left shown =
    let here : IsFound number t.settings.name owed seat n t.clients = places number t.settings.name owed seats t.clients n i seat shown at there in
    let all : AllRestBut n t.clients = all_rest number t.settings.name owed seats t.clients n shown settled in
    let f : Finishes number owed (slice_set seats i new) n t = finishes number owed n i seats seat new t (finished_in seat) shown at there all refl left in
    subst (λ (s : State). AreSeen number owed (slice_set seats i new) s)
    (sym (ends_by n t t f.last (none_end n t here.client here.there all (not_over number t.settings.name owed seat here.client here.shows unsaid here.client.is_closing refl)) f.closes)) f.shown

-- ---- the last bytes of a reply

-- what is said to it, and the client
record Writes (number : ℕ → ℕ) (owed : List Bytes) (n i k : ℕ) (seats : List Seat) (seat : Seat) (s : State) (c : Client) : Type 0 where
  shown : AreShown number s.settings.name owed seats s.clients
  at : IsAt n i seats
  there : slice_get seats i ≡ Some seat
  going : seat.is_closing ≡ false
  settled : AreSettledBut n seats
  few : k ≤ left_next seat.client.reply
  all : is_said (said_in k seat.client.reply) ≡ true
  found : client s n ≡ Some c
  shows : ShowsSeat number s.settings.name owed seat c

said_number : (k : ℕ) (x : Client) → (said_by k x).number ≡ x.number
said_number k x = (said_by-same k x).number

said_has : (k n : ℕ) (c : Client) (s : State) → Has s.settings.name (change (is_client n) (said_by k) s.clients) (told_to k n c s)
said_has k n c s = record { same = seen_on n (said_by k) (use_said k c s) ∙ ap (λ (p : Bytes × List Client). (p.0, change (is_client n) (said_by k) p.1)) (seen_said k c s) }

told_so : (number : ℕ → ℕ) (name : Bytes) (owed : List Bytes) (seat : Seat) (c : Client) (k : ℕ) → ShowsSeat number name owed seat c → seat.is_closing ≡ false → k ≤ left_next seat.client.reply → IsToldBy number k name owed seat c (said_account k seat.account) (said_in k seat.client.reply)
told_so number name owed seat c k shows going few = open_told number k name owed seat c (said_account k seat.account) (shows.going (sym shows.closing ∙ going)) few

both_hold : (a b : Bool) → a ≡ true → b ≡ false → (a && not b) ≡ true
both_hold true false first second = refl
both_hold true true first second = absurd (cc second)
both_hold false b first second = absurd (cc first)

-- its reply is over in the words of the law
is_over_now : (number : ℕ → ℕ) (owed : List Bytes) (n i k : ℕ) (seats : List Seat) (seat : Seat) (s : State) (c : Client) → Writes number owed n i k seats seat s c → (is_over (said_by k c) && not (said_by k c).is_closing) ≡ true
is_over_now number owed n i k seats seat s c w =
    let told : IsToldBy number k s.settings.name owed seat c (said_account k seat.account) (said_in k seat.client.reply) = told_so number s.settings.name owed seat c k w.shows w.going w.few in
    both_hold (is_over (said_by k c)) (said_by k c).is_closing
    (sym (ends_same number s.settings.name owed (told_with (said_in k seat.client.reply) (seat.before_body - k) (said_account k seat.account) seat) (said_by k c) told.shows) ∙ w.all)
    (told.closing ∙ sym w.shows.closing ∙ w.going)

closes_so : (number : ℕ → ℕ) (owed : List Bytes) (n i k : ℕ) (seats : List Seat) (seat : Seat) (s : State) (c : Client) → Writes number owed n i k seats seat s c → seat.closes ≡ (said_by k c).closes
closes_so number owed n i k seats seat s c w = (told_so number s.settings.name owed seat c k w.shows w.going w.few).shows.closes

said_rest : (number : ℕ → ℕ) (owed : List Bytes) (n i k : ℕ) (seats : List Seat) (seat : Seat) (s : State) (c : Client) → Writes number owed n i k seats seat s c → AllRestBut n (change (is_client n) (said_by k) s.clients)
said_rest number owed n i k seats seat s c w = change_rest (said_by k) (said_number k) n s.clients (all_rest number s.settings.name owed seats s.clients n w.shown w.settled)

-- how the reply ends: what becomes of its client
ending_with : (number : ℕ → ℕ) (owed : List Bytes) (n i k : ℕ) (seats : List Seat) (seat : Seat) (s : State) (c : Client) (g : Client → Client) (t : State) → Writes number owed n i k seats seat s c → ((x : Client) → (g x).number ≡ x.number)
    → Has s.settings.name (change (is_client n) g (change (is_client n) (said_by k) s.clients)) t → end_reply (said_by k c) (told_to k n c s) ≡ t → (is_over (g (said_by k c)) && not (g (said_by k c)).is_closing) ≡ false
    → Changes end_said n (told_to k n c s) t
ending_with number owed n i k seats seat s c g t w kept has leads isnt =
    let here : find (is_client n) (change (is_client n) (said_by k) s.clients) ≡ Some (said_by k c) = found_in (said_by k) (said_number k) n s.clients c w.found in
    let rest : AllRestBut n (told_to k n c s).clients = rest_in s.settings.name (change (is_client n) (said_by k) s.clients) n (told_to k n c s) (said_has k n c s) (said_rest number owed n i k seats seat s c w) in
    let then : AllRestBut n t.clients
    = rest_in s.settings.name (change (is_client n) g (change (is_client n) (said_by k) s.clients)) n t has (change_rest g kept n (change (is_client n) (said_by k) s.clients) (said_rest number owed n i k seats seat s c w)) in record {
      here = said_by k c;
      found = client_in s.settings.name (change (is_client n) (said_by k) s.clients) n (said_by k c) (told_to k n c s) (said_has k n c s) here;
      leads = end_one (said_by k c) (told_to k n c s) (is_over_now number owed n i k seats seat s c w) ∙ leads;
      now = g (said_by k c);
      again = client_in s.settings.name (change (is_client n) g (change (is_client n) (said_by k) s.clients)) n (g (said_by k c)) t has (found_in g kept n (change (is_client n) (said_by k) s.clients) (said_by k c) here);
      stays = end_none (g (said_by k c)) t isnt;
      others = λ m x other there. end_none x (told_to k n c s) (found_rests n m (told_to k n c s).clients x rest there other).said;
      others_then = λ m x other there. end_none x t (found_rests n m t.clients x then there other).said;
    }

-- it is there still
again_so : (number : ℕ → ℕ) (owed : List Bytes) (n i k : ℕ) (seats : List Seat) (seat : Seat) (s : State) (c : Client) (g : Client → Client) (t : State) → Writes number owed n i k seats seat s c → ((x : Client) → (g x).number ≡ x.number)
    → Has s.settings.name (change (is_client n) g (change (is_client n) (said_by k) s.clients)) t → client t n ≡ Some (g (said_by k c))
again_so number owed n i k seats seat s c g t w kept has =
    client_in s.settings.name (change (is_client n) g (change (is_client n) (said_by k) s.clients)) n (g (said_by k c)) t has
    (found_in g kept n (change (is_client n) (said_by k) s.clients) (said_by k c) (found_in (said_by k) (said_number k) n s.clients c w.found))

then_rest : (number : ℕ → ℕ) (owed : List Bytes) (n i k : ℕ) (seats : List Seat) (seat : Seat) (s : State) (c : Client) (g : Client → Client) (t : State) → Writes number owed n i k seats seat s c → ((x : Client) → (g x).number ≡ x.number)
    → Has s.settings.name (change (is_client n) g (change (is_client n) (said_by k) s.clients)) t → AllRestBut n t.clients
then_rest number owed n i k seats seat s c g t w kept has =
    rest_in s.settings.name (change (is_client n) g (change (is_client n) (said_by k) s.clients)) n t has (change_rest g kept n (change (is_client n) (said_by k) s.clients) (said_rest number owed n i k seats seat s c w))

then_shown : (number : ℕ → ℕ) (owed : List Bytes) (n i k : ℕ) (seats : List Seat) (seat new : Seat) (s : State) (c : Client) (g : Client → Client) (t : State) → Writes number owed n i k seats seat s c
    → Has s.settings.name (change (is_client n) g (change (is_client n) (said_by k) s.clients)) t → ((x : Client) → ShowsSeat number s.settings.name owed seat x → ShowsSeat number s.settings.name owed new (g (said_by k x)))
    → AreShown number t.settings.name owed (slice_set seats i new) t.clients
then_shown number owed n i k seats seat new s c g t w has one =
    shown_in number s.settings.name owed (slice_set seats i new) (change (is_client n) g (change (is_client n) (said_by k) s.clients)) t has
    (subst (λ (cs : List Client). AreShown number s.settings.name owed (slice_set seats i new) cs) (sym (change_twice (said_by k) g (said_number k) n s.clients))
    (changes number s.settings.name owed seats s.clients n i new (λ x. g (said_by k x)) w.shown w.at
    (λ other x there shows. one x (subst (λ (y : Seat). ShowsSeat number s.settings.name owed y x) (same_seat seat other (sym w.there ∙ there)) shows))))

-- ---- the next request stands

next_leads : (x : Client) (n : ℕ) (s : State) → x.closes ≡ false → x.number ≡ n → end_reply x s ≡ swept (forsake (is_of n) (on_client n next_request s))
unfolding end_reply
next_leads x n s stays number =
    ap (λ (b : Bool). elim b as (λ c. State) [ true ↦ close_client x.number false s | false ↦ swept (forsake (is_of x.number) (on_client x.number next_request s)) ]) stays
    ∙ ap (λ (m : ℕ). swept (forsake (is_of m) (on_client m next_request s))) number

next_has : (name : Bytes) (cs : List Client) (n : ℕ) (s : State) → Has name cs s → Has name (change (is_client n) next_request cs) (swept (forsake (is_of n) (on_client n next_request s)))
next_has name cs n s has = record {
  same =
      seen_swept (forsake (is_of n) (on_client n next_request s)) ∙ seen_forsaken (is_of n) (on_client n next_request s) ∙ seen_on n next_request s
      ∙ ap (λ (p : Bytes × List Client). (p.0, change (is_client n) next_request p.1)) has.same;
}

pub request_there : (front : SeatFront) (f : Front) → ShowsFront front f → keeps_open_in (asked_in front) ≡ true → (r : Parsed) × (f ≡ IsRequest r) × (is_ok r.rule ≡ true)
request_there NoneYet NoHeadYet shows keeps = absurd (cc keeps)
request_there (NoneThere status) (NoHead other) shows keeps = absurd (cc keeps)
request_there (IsThere a) (IsRequest r) shows keeps = (r, refl, second_holds (is_kept_open r.head.minor r.head.fields) (is_ok r.rule) (sym shows.keeps_open ∙ keeps))
request_there front f shows keeps = absurd shows

told_id : (k : ℕ) (client : Side) (b : Bool) → is_said (said_in k client.reply) ≡ b → (side_said k client).id ≡ client.id
told_id k client true is = ap (λ (b : Bool). (elim b as (λ x. Side) [ true ↦ record client { heard = answered client.heard; reply = ended_reply (said_in k client.reply) } | false ↦ record client { reply = said_in k client.reply } ]).id) is
told_id k client false is = ap (λ (b : Bool). (elim b as (λ x. Side) [ true ↦ record client { heard = answered client.heard; reply = ended_reply (said_in k client.reply) } | false ↦ record client { reply = said_in k client.reply } ]).id) is

next_shows : (number : ℕ → ℕ) (name : Bytes) (owed : List Bytes) (k : ℕ) (seat next : Seat) (x : Client) → ShowsSeat number name owed seat x → seat.is_closing ≡ false → k ≤ left_next seat.client.reply → is_said (said_in k seat.client.reply) ≡ true → GoesOn seat
    → IsRead (at_next_request (told_by k seat)) next → ShowsSeat number name owed next (next_request (said_by k x))
next_shows number name owed k seat next x shows going few all goes read =
    let runs : x.is_closing ≡ false = sym shows.closing ∙ going in
    let r : (r : Parsed) × (x.front ≡ IsRequest r) × (is_ok r.rule ≡ true) = request_there seat.front x.front (shows.going runs).front goes.keeps in
    let told : IsToldBy number k name owed seat x (said_account k seat.account) (said_in k seat.client.reply) = told_so number name owed seat x k shows going few in
    let after : IsNext number name owed next (said_by k x) = endings number k name owed seat next x r.0 shows runs few all r.1 r.2 goes.counted read in record {
      number = ap (λ (y : Seat). y.client.id) read.1 ∙ told_id k seat.client true all ∙ shows.number ∙ sym (said_number k x);
      closing = ap (λ (y : Seat). y.is_closing) read.1 ∙ shows.closing ∙ sym told.closing;
      going = λ still. after.next;
    }

next_number : (k : ℕ) (seat next : Seat) → is_said (said_in k seat.client.reply) ≡ true → IsRead (at_next_request (told_by k seat)) next → next.client.id ≡ seat.client.id
next_number k seat next all read = ap (λ (y : Seat). y.client.id) read.1 ∙ told_id k seat.client true all

-- no reply of it has begun
next_silent : (x : Client) → (is_over (next_request x) && not (next_request x).is_closing) ≡ false
next_silent x = refl

-- it leads there
said_leads : (number : ℕ → ℕ) (owed : List Bytes) (n offered : ℕ) (seats : List Seat) (bytes : Bytes) (c : Client) (s : State) → client s n ≡ Some c → OwesWrite number owed n offered bytes seats s → Leads (Said n offered bytes ∷ []) s (paid (end_replies (told_to (length bytes) n c s)))
said_leads number owed n offered seats bytes c s there owes =
    leads_on refl (goes_said s n offered bytes c owes.none owes.writes there (owes.first c there)) (paid (end_replies (told_to (length bytes) n c s))) (said_is n (length bytes) c s there)

writes : (number : ℕ → ℕ) (owed : List Bytes) (n i offered : ℕ) (seats : List Seat) (seat : Seat) (bytes : Bytes) (c : Client) (s : State) → client s n ≡ Some c → Sits n i seats seat → AreSettledBut n seats → LeavesNone seat bytes → OwesWrite number owed n offered bytes seats s
    → Writes number owed n i (length bytes) seats seat s c
writes number owed n i offered seats seat bytes c s there sits settled leaves owes =
    let here : IsFound number s.settings.name owed seat n s.clients = places number s.settings.name owed seats s.clients n i seat owes.shown sits.at sits.there in
    let same : here.client ≡ c = let e : Some here.client ≡ Some c = sym here.there ∙ there in cc e in record {
      shown = owes.shown;
      at = sits.at;
      there = sits.there;
      going = sits.going;
      settled = settled;
      few = leaves.few;
      all = leaves.all;
      found = there;
      shows = subst (λ (x : Client). ShowsSeat number s.settings.name owed seat x) same here.shows;
    }

pub ends_lead : EndsLead
ends_lead number n i offered owed seats seat next after bytes c s there sits settled leaves goes read left owes =
    let w : Writes number owed n i (length bytes) seats seat s c = writes number owed n i offered seats seat bytes c s there sits settled leaves owes in
    let has : Has s.settings.name (change (is_client n) next_request (change (is_client n) (said_by (length bytes)) s.clients)) (swept (forsake (is_of n) (on_client n next_request (told_to (length bytes) n c s))))
    = next_has s.settings.name (change (is_client n) (said_by (length bytes)) s.clients) n (told_to (length bytes) n c s) (said_has (length bytes) n c s) in
    let leads : end_reply (said_by (length bytes) c) (told_to (length bytes) n c s) ≡ swept (forsake (is_of n) (on_client n next_request (told_to (length bytes) n c s)))
    = next_leads (said_by (length bytes) c) n (told_to (length bytes) n c s) (sym (closes_so number owed n i (length bytes) seats seat s c w) ∙ goes.stays) (said_number (length bytes) c ∙ number_found n s.clients c there) in
    let over : Changes end_said n (told_to (length bytes) n c s) (swept (forsake (is_of n) (on_client n next_request (told_to (length bytes) n c s))))
    = ending_with number owed n i (length bytes) seats seat s c next_request (swept (forsake (is_of n) (on_client n next_request (told_to (length bytes) n c s)))) w (λ x. (next_request-same x).number) has leads (next_silent (said_by (length bytes) c)) in
    let f : Finishes number owed (slice_set (slice_set seats i next) i after) n (swept (forsake (is_of n) (on_client n next_request (told_to (length bytes) n c s))))
    = finishes number owed n i (slice_set seats i next) next after (swept (forsake (is_of n) (on_client n next_request (told_to (length bytes) n c s)))) (finished_in next)
    (then_shown number owed n i (length bytes) seats seat next s c next_request (swept (forsake (is_of n) (on_client n next_request (told_to (length bytes) n c s)))) w has
    (λ x shows. next_shows number s.settings.name owed (length bytes) seat next x shows sits.going leaves.few leaves.all goes read))
    (at_set n i seats seat next sits.at sits.there (next_number (length bytes) seat next leaves.all read)) (get_set n i seats next sits.at)
    (then_rest number owed n i (length bytes) seats seat s c next_request (swept (forsake (is_of n) (on_client n next_request (told_to (length bytes) n c s)))) w (λ x. (next_request-same x).number) has) refl left in (
      said_leads number owed n offered seats bytes c s there owes,
      subst (λ (t : State). AreSeen number owed (slice_set seats i after) t)
          (sym (ends_by n (told_to (length bytes) n c s) (swept (forsake (is_of n) (on_client n next_request (told_to (length bytes) n c s)))) f.last over f.closes))
          (subst (λ (rest : List Seat). AreShown number f.last.settings.name owed rest f.last.clients) (set_set n i seats next after sits.at) f.shown),
    )

-- ---- behind the last reply

last_leads : (x : Client) (n : ℕ) (s : State) → x.closes ≡ true → x.number ≡ n → end_reply x s ≡ close_client n false s
unfolding end_reply
last_leads x n s closes number =
    ap (λ (b : Bool). elim b as (λ c. State) [ true ↦ close_client x.number false s | false ↦ swept (forsake (is_of x.number) (on_client x.number next_request s)) ]) closes
    ∙ ap (λ (m : ℕ). close_client m false s) number

closed_silent : (x : Client) → (is_over (closing_by false x) && not (closing_by false x).is_closing) ≡ false
closed_silent x = and_false (is_over (closing_by false x))

pub lasts_lead : LastsLead
lasts_lead number n i offered owed seats seat after bytes c s there sits settled leaves closes closed owes =
    let w : Writes number owed n i (length bytes) seats seat s c = writes number owed n i offered seats seat bytes c s there sits settled leaves owes in
    let has : Has s.settings.name (change (is_client n) (closing_by false) (change (is_client n) (said_by (length bytes)) s.clients)) (close_client n false (told_to (length bytes) n c s))
    = closed_has s.settings.name (change (is_client n) (said_by (length bytes)) s.clients) n (told_to (length bytes) n c s) (said_has (length bytes) n c s) in
    let leads : end_reply (said_by (length bytes) c) (told_to (length bytes) n c s) ≡ close_client n false (told_to (length bytes) n c s)
    = last_leads (said_by (length bytes) c) n (told_to (length bytes) n c s) (sym (closes_so number owed n i (length bytes) seats seat s c w) ∙ closes) (said_number (length bytes) c ∙ number_found n s.clients c there) in
    let over : Changes end_said n (told_to (length bytes) n c s) (close_client n false (told_to (length bytes) n c s))
    = ending_with number owed n i (length bytes) seats seat s c (closing_by false) (close_client n false (told_to (length bytes) n c s)) w (λ x. refl) has leads (closed_silent (said_by (length bytes) c)) in
    let none : Changes close_finished n (close_client n false (told_to (length bytes) n c s)) (close_client n false (told_to (length bytes) n c s))
    = stays_then n (close_client n false (told_to (length bytes) n c s)) (closing_by false (said_by (length bytes) c))
    (again_so number owed n i (length bytes) seats seat s c (closing_by false) (close_client n false (told_to (length bytes) n c s)) w (λ x. refl) has)
    (then_rest number owed n i (length bytes) seats seat s c (closing_by false) (close_client n false (told_to (length bytes) n c s)) w (λ x. refl) has) (not_finished (closing_by false (said_by (length bytes) c)) refl) in (
      said_leads number owed n offered seats bytes c s there owes,
      subst (λ (t : State). AreSeen number owed (slice_set seats i after) t)
          (sym (ends_by n (told_to (length bytes) n c s) (close_client n false (told_to (length bytes) n c s)) (close_client n false (told_to (length bytes) n c s)) over none))
          (then_shown number owed n i (length bytes) seats seat after s c (closing_by false) (close_client n false (told_to (length bytes) n c s)) w has
          (λ x shows. closed_shows number s.settings.name owed seat after x (closing_by false (said_by (length bytes) x)) shows closed (said_number (length bytes) x) refl)),
    )
