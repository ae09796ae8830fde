-- Around the head of a response to the ask of a follower: whoever is answered from an instance is one of its followers, a seat is as it was but for
-- what it is told, an attempt is lost of the same exchange whatever its head brought, and whether it is bound is the law's.
use Rattle.std.proofs.Common.{◌≡◌, ◌⊎◌, inl, inr, refl, sym, subst, ap, ◌∙◌, ℕ, zero, suc, ◌+◌, Bool, true, false, ◌==◌, cond, find, is_some, List, [], ◌∷◌, Some, None, Option, arith}
use Rattle.std.proofs.lemmas.Bool.Decides.{nat_tests}
use Rattle.std.specs.List.{list_any}
use Rattle.std.specs.Prelude.{count_by, option_and_then, option_map, slice_get, slice_set}
use Rattle.pp_cache_law.proofs.Numbers.{some_is}
use Rattle.pp_cache_law.proofs.PairLemmas.{count_first}
use Rattle.pp_cache_law.specs.Pairs.{AreBoth}
use Rattle.pp_flow.specs.Changes.{changed, entry_of, first_of}
use Rattle.pp_flow.specs.Entries.{asking, is_number}
use Rattle.pp_flow.specs.Errands.{attempts_in}
use Rattle.pp_flow.specs.declared.entry.Aim.{Aim as SeatAim}
use Rattle.pp_flow.specs.declared.entry.Entry.{Entry}
use Rattle.pp_flow.specs.declared.entry.Exchange.{Exchange as SeatExchange}
use Rattle.pp_flow.specs.declared.errand.Errand.{Errand}
use Rattle.pp_flow_law.proofs.Entries.{find_changed, none_some}
use Rattle.pp_flow_law.specs.Tables.{Leaving}
use Rattle.pp_law.specs.Connections.{charge, exchange, give_up_row, lose_attempt, on_client_of}
use Rattle.pp_law.specs.Lists.{Bytes, is_some_with}
use Rattle.pp_law.specs.OwnHeads.{is_bound as law_is_bound}
use Rattle.pp_law.specs.Stages.{bound_of, reply_of}
use Rattle.pp_law.specs.State.{State, Body, Bound, Client, Exchange, Reply}
use Rattle.pp_objects.specs.declared.id.ObjectId.{ObjectId}
use Rattle.pp_peers.specs.declared.peers.Peer.{Peer}
use Rattle.pp_client.specs.Replies.{Reply as Said}
use Rattle.pp_seats.specs.Courses.{has_begun, is_unfilled, lost_one, without_row}
use Rattle.pp_seats.specs.declared.seat.Course.{Course}
use Rattle.pp_seats.specs.Follows.{answer_in}
use Rattle.pp_seats.specs.declared.seat.Answer.{Answer}
use Rattle.pp_seats.specs.declared.seat.Brought.{Brought as SeatBrought}
use Rattle.pp_seats.specs.declared.seat.Seat.{Seat}
use Rattle.pp_seats_law.proofs.Entries.{exchanges}
use Rattle.pp_seats_law.specs.Exchanges.{Binding, ShowsBound, ShowsExchange}
use Rattle.pp_seats_law.specs.Replies.{source_number}
use Rattle.pp_seats_law.specs.Words.{ShowsReply}
use Rattle.pp_state.specs.Bodies.{body_of, with_body_for}
use Rattle.pp_state.specs.Ends.{Parts, charged_at, cleared_row, dropped_row, given_up_row, is_unfilled_at, is_unfilled_by, known_version, left, lost_attempt, numbers_of, on_seat, on_seat_where, place_of, seat_for, told, with_course}
use Rattle.pp_states_law.specs.Steps.{ShowsSteps}
use Rattle.pp_valid.specs.declared.version.Version.{Version}
use Rattle.pp_answers.specs.FinalHeads.{noted_body}
use Rattle.pp_answers.specs.Rows.{is_bound}

-- ---- whoever is answered from an instance is one of its followers

pub some_follow : (p q : Client → Bool) (cs : List Client) (c : Client) → find q cs ≡ Some c → p c ≡ true → (count_by p cs == 0) ≡ false
some_follow p q [] c found is = absurd (none_some c found)
some_follow p q (d ∷ cs) c found is = by (q d) (p d) refl refl found (λ f. some_follow p q cs c f is)
  where
    more : (n m : ℕ) → n ≡ 1 + m → (n == 0) ≡ false
    more n m same = grind (arith, nat_tests)

    same : (n m : ℕ) → n ≡ 0 + m → (m == 0) ≡ false → (n == 0) ≡ false
    same n m is off = grind (arith, nat_tests)

    same_or_more : (b : Bool) → p d ≡ b → (count_by p cs == 0) ≡ false → (count_by p (d ∷ cs) == 0) ≡ false
    same_or_more true at rest = more (count_by p (d ∷ cs)) (count_by p cs) (count_first p d cs ∙ ap (λ (t : Bool). cond t 1 0 + count_by p cs) at)
    same_or_more false at rest = same (count_by p (d ∷ cs)) (count_by p cs) (count_first p d cs ∙ ap (λ (t : Bool). cond t 1 0 + count_by p cs) at) rest

    by : (a b : Bool) → q d ≡ a → p d ≡ b → cond a (Some d) (find q cs) ≡ Some c → (find q cs ≡ Some c → (count_by p cs == 0) ≡ false) → (count_by p (d ∷ cs) == 0) ≡ false
    by true b first at f rest = more (count_by p (d ∷ cs)) (count_by p cs) (count_first p d cs ∙ ap (λ (t : Bool). cond t 1 0 + count_by p cs) (ap p (some_is d c f) ∙ is))
    by false b first at f rest = same_or_more b at (rest f)

pub record AnsweredFrom (number : ℕ → ℕ) (c : Client) (id : ObjectId) : Type 0 where
  pub reply : Reply
  pub is : reply_of c ≡ Some reply
  pub source : reply.source ≡ Some (number id.life)

pub answered_from : (number : ℕ → ℕ) (said : Said) (c : Client) (a : Answer) (id : ObjectId) (o : Option Answer) (r : Option Reply) → ShowsReply number said o r → reply_of c ≡ r → o ≡ Some a → a.source ≡ Some id → AnsweredFrom number c id
answered_from number said c a id None r shows is its own = absurd (none_some a its)
answered_from number said c a id (Some b) None shows is its own = absurd shows
answered_from number said c a id (Some b) (Some r) shows is its own = record {
  reply = r;
  is = is;
  source = sym shows.source ∙ ap (λ (z : Answer). source_number number z.source) (some_is b a its) ∙ ap (λ (z : Option ObjectId). source_number number z) own;
}

-- ---- a seat as it was

set_was : (seats : List Seat) (j i : ℕ) (old new seat : Seat) → slice_get seats j ≡ Some old → slice_get (slice_set seats j new) i ≡ Some seat → (slice_get seats i ≡ Some seat) ⊎ ((slice_get seats i ≡ Some old) × (new ≡ seat))
set_was [] j i old new seat there is = absurd (none_some old there)
set_was (first ∷ seats) zero zero old new seat there is = inr (there, some_is new seat is)
set_was (first ∷ seats) zero (suc i) old new seat there is = inl is
set_was (first ∷ seats) (suc j) zero old new seat there is = inl is
set_was (first ∷ seats) (suc j) (suc i) old new seat there is = set_was seats j i old new seat there is

pub record WasSeat (i : ℕ) (seats : List Seat) (seat : Seat) : Type 0 where
  pub was : Seat
  pub here : slice_get seats i ≡ Some was
  pub answer : answer_in seat.stage ≡ answer_in was.stage
  pub id : seat.client.id ≡ was.client.id

pub told_was : (o : Option ℕ) (b : SeatBrought) (p : Parts) (i : ℕ) (seat : Seat) → slice_get (on_seat_where o (told b) p).seats i ≡ Some seat → WasSeat i p.seats seat
told_was None b p i seat is = record { was = seat; here = is; answer = refl; id = refl }
told_was (Some j) b p i seat is = by (slice_get p.seats j) refl is
  where
    same : (old : Seat) → (answer_in (told b old).stage ≡ answer_in old.stage) × ((told b old).client.id ≡ old.client.id)
    same old = at (has_begun old)
      where
        at : (t : Bool) → let new : Seat = cond t old (record old { brought = b }) in (answer_in new.stage ≡ answer_in old.stage) × (new.client.id ≡ old.client.id)
        at true = (refl, refl)
        at false = (refl, refl)

    of : (old : Seat) → (slice_get p.seats i ≡ Some seat) ⊎ ((slice_get p.seats i ≡ Some old) × (told b old ≡ seat)) → WasSeat i p.seats seat
    of old (inl here) = record { was = seat; here = here; answer = refl; id = refl }
    of old (inr both) = record {
      was = old;
      here = both.0;
      answer = ap (λ (z : Seat). answer_in z.stage) (sym both.1) ∙ (same old).0;
      id = ap (λ (z : Seat). z.client.id) (sym both.1) ∙ (same old).1;
    }

    by : (o : Option Seat) → slice_get p.seats j ≡ o → slice_get (elim o as (λ t. List Seat) [ None ↦ p.seats | Some old ↦ slice_set p.seats j (told b old) ]) i ≡ Some seat → WasSeat i p.seats seat
    by None none it = record { was = seat; here = it; answer = refl; id = refl }
    by (Some old) there it = of old (set_was p.seats j i old (told b old) seat there it)

pub told_cache : (o : Option ℕ) (f : Seat → Seat) (p : Parts) → (on_seat_where o f p).cache ≡ p.cache
told_cache None f p = refl
told_cache (Some i) f p = refl

pub told_flow : (o : Option ℕ) (f : Seat → Seat) (p : Parts) → (on_seat_where o f p).flow ≡ p.flow
told_flow None f p = refl
told_flow (Some i) f p = refl

pub told_refused : (o : Option ℕ) (f : Seat → Seat) (p : Parts) → (on_seat_where o f p).refused ≡ p.refused
told_refused None f p = refl
told_refused (Some i) f p = refl

-- ---- of the same exchange an attempt is lost, whatever its head brought

module _ (a b : SeatExchange) (q : Parts) (number : a.number ≡ b.number) (asker : a.asker ≡ b.asker) (aim : a.aim ≡ b.aim) where
  unfilled_alike : (o : Option Seat) (k : Option Version) → is_unfilled_by a o k ≡ is_unfilled_by b o k
  unfilled_alike None k = refl
  unfilled_alike (Some seat) None = refl
  unfilled_alike (Some seat) (Some v) = ap (λ (z : SeatAim). is_unfilled z seat.course v) aim

  given_alike : (i : ℕ) (p : Parts) → given_up_row i a p ≡ given_up_row i b p
  unfolding given_up_row
  given_alike i p =
      ap (λ (t : Bool). cond t (dropped_row i a p) p) (unfilled_alike (slice_get p.seats i) (known_version a.number p) ∙ ap (λ (m : ℕ). is_unfilled_by b (slice_get p.seats i) (known_version m p)) number)
      ∙ ap (λ (m : ℕ). cond (is_unfilled_at i b p) (left m (on_seat i without_row (cleared_row m p))) p) number

  charged_alike : (o : Option ℕ) (cost : Course → Course) → charged_at o cost a q ≡ charged_at o cost b q
  unfolding charged_at
  charged_alike None cost = refl
  charged_alike (Some i) cost = given_alike i (on_seat i (with_course cost) q)

  pub lost_alike : lost_attempt a q ≡ lost_attempt b q
  lost_alike =
      ap (λ (m : ℕ). elim (entry_of m q.flow) as (λ t. Parts) [ None ↦ q | Some z ↦ charged_at (seat_for a q.seats) (lost_one (attempts_in z.errand.is_asked_once)) a q ]) number ∙ by (entry_of b.number q.flow)
    where
      by : (o : Option Entry)
          → (elim o as (λ t. Parts) [ None ↦ q | Some z ↦ charged_at (seat_for a q.seats) (lost_one (attempts_in z.errand.is_asked_once)) a q ])
          ≡ (elim o as (λ t. Parts) [ None ↦ q | Some z ↦ charged_at (seat_for b q.seats) (lost_one (attempts_in z.errand.is_asked_once)) b q ])
      by None = refl
      by (Some z) =
          ap (λ (asked : Option ℕ). charged_at (option_and_then (λ client. place_of client (numbers_of q.seats)) asked) (lost_one (attempts_in z.errand.is_asked_once)) a q) asker
          ∙ charged_alike (seat_for b q.seats) (lost_one (attempts_in z.errand.is_asked_once))

pub law_alike : (e : Exchange) (body : Body) (u : State) → lose_attempt (record e { body = body }) u ≡ lose_attempt e u
unfolding lose_attempt charge give_up_row on_client_of
law_alike e body u = refl

-- ---- whether it is bound

pub bound_noted : (n : ℕ) (p : Parts) → is_bound n (noted_body n p).flow ≡ is_bound n p.flow
bound_noted n p = by (entry_of n p.flow)
  where
    bound_in : Option Entry → Bool
    bound_in o = is_some (option_and_then (λ x. x.exchange.bound) o)

    firsts : (er : Errand) (o w : Option Entry) → (bound_in (first_of (option_map (asking er) o) w) ≡ bound_in (first_of o w)) × (bound_in (first_of o (option_map (asking er) w)) ≡ bound_in (first_of o w))
    firsts er None None = (refl, refl)
    firsts er None (Some y) = (refl, refl)
    firsts er (Some x) w = (refl, refl)

    at : (er : Errand) (b : Bool) → is_bound n (cond b (record p.flow { waiting = changed n (asking er) p.flow.waiting }) (record p.flow { placed = changed n (asking er) p.flow.placed })) ≡ is_bound n p.flow
    at er true = ap (λ (o : Option Entry). bound_in (first_of o (find (is_number n) p.flow.placed))) (find_changed n (asking er) (λ x. (refl, refl)) p.flow.waiting) ∙ (firsts er (find (is_number n) p.flow.waiting) (find (is_number n) p.flow.placed)).0
    at er false = ap (λ (o : Option Entry). bound_in (first_of (find (is_number n) p.flow.waiting) o)) (find_changed n (asking er) (λ x. (refl, refl)) p.flow.placed) ∙ (firsts er (find (is_number n) p.flow.waiting) (find (is_number n) p.flow.placed)).1

    by : (o : Option Entry) → is_bound n (with_body_for o n p.seats p.flow) ≡ is_bound n p.flow
    by None = refl
    by (Some y) = at (record y.errand { body = body_of y.exchange p.seats }) (list_any (is_number n) p.flow.waiting)

some_bound : (number : ℕ → ℕ) (o : Option Binding) (b : Option Bound) → ShowsBound number o b → is_some o ≡ is_some b
some_bound number None None shows = refl
some_bound number None (Some b) shows = absurd shows
some_bound number (Some x) None shows = absurd shows
some_bound number (Some x) (Some b) shows = refl

pub bounds_same : (number : ℕ → ℕ) (name : Bytes) (l : Leaving) (peers : List Peer) (q : Parts) (u : State) → ShowsSteps number name l peers q u → (n : ℕ) → is_bound n q.flow ≡ is_some_with law_is_bound (exchange u n)
bounds_same number name l peers q u shows n = by (entry_of n q.flow) (exchange u n) (shows.shows.exchanges.each n)
  where
    by : (o : Option Entry) (d : Option Exchange) → AreBoth (ShowsExchange number) o d → is_some (option_and_then (λ x. x.exchange.bound) o) ≡ is_some_with law_is_bound d
    by None None both = refl
    by None (Some d) both = absurd both
    by (Some y) None both = absurd both
    by (Some y) (Some d) both = some_bound number y.exchange.bound (bound_of d) (exchanges number y d both).bound

pub record HasEntry (number : ℕ → ℕ) (q : Parts) (n : ℕ) (now : Exchange) : Type 0 where
  pub entry : Entry
  pub here : entry_of n q.flow ≡ Some entry
  pub shown : ShowsExchange number entry now

pub has_entry : (number : ℕ → ℕ) (name : Bytes) (l : Leaving) (peers : List Peer) (q : Parts) (u : State) → ShowsSteps number name l peers q u → (n : ℕ) (now : Exchange) → exchange u n ≡ Some now → HasEntry number q n now
has_entry number name l peers q u shows n now there = by (entry_of n q.flow) refl (subst (λ (d : Option Exchange). AreBoth (ShowsExchange number) (entry_of n q.flow) d) there (shows.shows.exchanges.each n))
  where
    by : (o : Option Entry) → entry_of n q.flow ≡ o → AreBoth (ShowsExchange number) o (Some now) → HasEntry number q n now
    by None is both = absurd both
    by (Some y) is both = record { entry = y; here = is; shown = both }
