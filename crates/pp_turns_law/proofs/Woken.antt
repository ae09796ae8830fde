-- At a tick, who waits for an exchange, and has nothing to be said to it, is marked anew.
use Rattle.std.proofs.Common.{◌≡◌, refl, sym, subst, ap, ap₂, ◌∙◌, ℕ, Bool, true, false, map, List, [], ◌∷◌}
use Rattle.pp_cache.specs.Bounds.{IsBounded}
use Rattle.pp_turns_law.specs.Turns.{ShowsTurn}
use Rattle.pp_flow_law.specs.Tables.{Leaving}
use Rattle.pp_law.specs.Lists.{Bytes}
use Rattle.pp_law.specs.State.{State}
use Rattle.pp_law.specs.Turn.{renew_marks}
use Rattle.pp_peers.specs.declared.peers.Peer.{Peer}
use Rattle.pp_seats.specs.declared.seat.Seat.{Seat}
use Rattle.pp_states_law.proofs.Waited.{renewals}
use Rattle.pp_state.specs.Ends.{AreInOrder, Parts, numbers_of, parts}
use Rattle.pp_due.specs.Waits.{is_waiting, woken_by, woken_seat}
use Rattle.pp_state.specs.declared.state.State.{State as Turn}
use Rattle.pp_states_law.proofs.Told.{told_next}
use Rattle.pp_states_law.specs.Steps.{ShowsSteps, whole}
use Rattle.pp_turns_law.proofs.Waiting.{waits_on}
use Rattle.pp_turns_law.specs.Marks.{HasSeats, TicksAreTheLaws}

-- ---- the numbers stay

woken_number : (b : Bool) (now : ℕ) (seat : Seat) → (woken_by b now seat).client.id ≡ seat.client.id
woken_number true now seat = refl
woken_number false now seat = refl

numbers_woken : (now : ℕ) (p : Turn) (seats : List Seat) → numbers_of (map (woken_seat now p) seats) ≡ numbers_of seats
numbers_woken now p [] = refl
numbers_woken now p (seat ∷ seats) = ap₂ (λ (n : ℕ) (ns : List ℕ). n ∷ ns) (woken_number (is_waiting p seat) now seat) (numbers_woken now p seats)

-- ---- a turn whose clients alone are changed

abbrev pub with_seats : List Seat → Turn → Parts
with_seats seats p = record (parts p) { seats = seats }

-- what stays of the law's state
pub record StaysAs (s t : State) : Type 0 where
  pub settings : t.settings ≡ s.settings
  pub clock : t.clock ≡ s.clock
  pub ticked : t.is_ticked ≡ s.is_ticked
  pub stopped : t.is_stopped ≡ s.is_stopped

parts_are : (seats : List Seat) (p q : Turn) → HasSeats seats p q → with_seats seats p ≡ parts q
parts_are seats p q has = ap₂ (λ (u : Turn) (xs : List Seat). with_seats xs u) (sym has.rest) (sym has.are)

pub turn_with : (number : ℕ → ℕ) (l : Leaving) (peers : List Peer) (p q : Turn) (s t : State) (seats : List Seat) → ShowsTurn number l peers p s → HasSeats seats p q → StaysAs s t → ShowsSteps number p.name.items l peers (with_seats seats p) t
    → ShowsTurn number l peers q t
turn_with number l peers p q s t seats shows has stays steps = record {
  steps =
      subst (λ (name : Bytes). ShowsSteps number name l peers (parts q) t) (sym (ap (λ (u : Turn). u.name.items) has.rest))
      (subst (λ (r : Parts). ShowsSteps number p.name.items l peers r t) (parts_are seats p q has) steps);
  name = ap (λ (u : Turn). u.name.items) has.rest ∙ shows.name ∙ ap (λ settings. settings.name) (sym stays.settings);
  shares = ap (λ (u : Turn). u.shares_fetches) has.rest ∙ shows.shares ∙ ap (λ settings. settings.shares_fetches) (sym stays.settings);
  clock = ap (λ (u : Turn). u.now) has.rest ∙ shows.clock ∙ sym stays.clock;
  ticked = ap (λ (u : Turn). u.is_ticked) has.rest ∙ shows.ticked ∙ sym stays.ticked;
  stopped = ap (λ (u : Turn). u.is_stopped) has.rest ∙ shows.stopped ∙ sym stays.stopped;
  bounded = subst (λ m. IsBounded m) (sym (ap (λ (u : Turn). u.cache) has.rest)) shows.bounded;
}

-- ---- at a tick

renewed : (now : ℕ) (s : State) → StaysAs s (renew_marks now s)
unfolding renew_marks
renewed now s = record { settings = refl; clock = refl; ticked = refl; stopped = refl }

next_renewed : (now : ℕ) (s : State) → (renew_marks now s).next_instance ≡ s.next_instance
unfolding renew_marks
next_renewed now s = refl

pub wakes_all : TicksAreTheLaws
wakes_all number l peers p q s now shows ready has =
    turn_with number l peers p q s (renew_marks now s) (map (woken_seat now p) p.seats.items) shows has (renewed now s) (record {
      shows = renewals number p.name.items [] l (whole (parts p) peers) s shows.steps.shows now (is_waiting p)
          (λ i seat c here there seen going. waits_on number l peers p s p.name.items seat c shows seen going (ready i seat here (seen.closing ∙ going)));
      order = subst (λ (ns : List ℕ). AreInOrder ns) (sym (numbers_woken now p p.seats.items)) shows.steps.order;
      told = told_next number p.cache s.next_instance (renew_marks now s).next_instance p.flow (next_renewed now s) shows.steps.told;
      refused = shows.steps.refused;
    })
