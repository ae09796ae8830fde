-- All that are looked at, in a turn.
use Rattle.std.proofs.Common.{◌≡◌, refl, sym, subst, ap, ap₂, ◌∙◌, ℕ, suc, ◌+◌, Bool, true, false, length, map, List, [], ◌∷◌, arith}
use Rattle.std.specs.Prelude.{slice_get}
use Rattle.pp_turns_law.specs.Turns.{ShowsTurn}
use Rattle.pp_flow_law.specs.Tables.{AreGiven, Leaving}
use Rattle.pp_law.specs.Connections.{each_client}
use Rattle.pp_law.specs.Followers.{fill, fill_for}
use Rattle.pp_law.specs.Lists.{Bytes}
use Rattle.pp_law.specs.State.{State, Client}
use Rattle.pp_peers.specs.declared.peers.Peer.{Peer}
use Rattle.pp_seats.specs.declared.seat.Seat.{Seat}
use Rattle.pp_seats_law.specs.Clients.{AreShown}
use Rattle.pp_state.specs.Ends.{Parts, numbers_of, parts}
use Rattle.pp_take.specs.Filling.{all_filled, filled}
use Rattle.pp_state.specs.declared.state.State.{State as Turn}
use Rattle.pp_states_law.specs.Steps.{ShowsSteps}
use Rattle.pp_turns_law.specs.Firsts.{AreAwake}
use Rattle.pp_turns_law.proofs.Walked.{IsWalked, walk}
use Rattle.pp_turns_law.specs.Fills.{AllFillAsTheLaws, HasRoomForAll, IsFilled, MayAllFill, ShowsParts}

-- ---- in a turn

same_numbers : (number : ℕ → ℕ) (name : Bytes) (seats : List Seat) (cs : List Client) → AreShown number name [] seats cs → map (λ (c : Client). c.number) cs ≡ numbers_of seats
same_numbers number name [] [] shown = refl
same_numbers number name [] (c ∷ cs) shown = absurd shown
same_numbers number name (seat ∷ seats) [] shown = absurd shown
same_numbers number name (seat ∷ seats) (c ∷ cs) shown = ap₂ (λ (n : ℕ) (ns : List ℕ). n ∷ ns) (sym shown.0.number) (same_numbers number name seats cs shown.1)

as_many : (seats : List Seat) → length (numbers_of seats) ≡ length seats
as_many [] = refl
as_many (seat ∷ seats) = ap suc (as_many seats)

abbrev fill_if : Bool → State → State
fill_if b s = elim b as (λ t. State) [ true ↦ s | false ↦ each_client fill_for (map (λ (c : Client). c.number) s.clients) s ]

fill_is : (s : State) → fill s ≡ fill_if s.is_stopped s
unfolding fill
fill_is s = refl

abbrev filled_if : Bool → Turn → Parts
filled_if b p = elim b as (λ t. Parts) [ true ↦ parts p | false ↦ all_filled p.name.items p.awake.items (parts p) ]

shown_parts : (number : ℕ → ℕ) (l : Leaving) (peers : List Peer) (p : Turn) (s : State) → ShowsTurn number l peers p s → ShowsParts number p.name.items l peers (parts p) s
shown_parts number l peers p s shows = record { steps = shows.steps; named = shows.name; bounded = shows.bounded }

walked_by : (number : ℕ → ℕ) (l : Leaving) (peers : List Peer) (p : Turn) (s : State) (b : Bool) → s.is_stopped ≡ b → ShowsTurn number l peers p s → AreAwake p → MayAllFill p s → (s.is_stopped ≡ false → HasRoomForAll p s)
    → IsWalked number p.name.items l peers (parts p) s (filled_if b p) (fill_if b s)
walked_by number l peers p s true stopped shows awake may room = record { shows = shown_parts number l peers p s shows; asks = may.asks; rest = refl }
walked_by number l peers p s false stopped shows awake may room =
    let has : HasRoomForAll p s = room stopped in
    let numbers : map (λ (c : Client). c.number) s.clients ≡ numbers_of p.seats.items = same_numbers number p.name.items p.seats.items s.clients shows.steps.shows.clients in
    walk number p.name.items l peers (map (λ (c : Client). c.number) s.clients) p.awake.items 0 (parts p) s
    (λ j. let first : j + 0 ≡ j = omega arith in ap₂ (λ (ns : List ℕ) (m : ℕ). slice_get ns m) numbers (sym first)) (record {
      shows = shown_parts number l peers p s shows;
      given = subst (λ (m : ℕ). AreGiven 0 m p.awake.items) (sym (as_many p.seats.items)) awake.order;
      silent = λ j seat above_it here none. (awake.others j seat here none).silent;
      follow = may.follow;
      asks = may.asks;
      room = has.exchanges;
      numbers = has.numbers;
    })

turn_shown : (number : ℕ → ℕ) (l : Leaving) (peers : List Peer) (p q : Turn) (s t : State) → ShowsTurn number l peers p s → IsWalked number p.name.items l peers (parts p) s (parts q) t → IsFilled p q → ShowsTurn number l peers q t
turn_shown number l peers p q s t shows walked filled = record {
  steps = subst (λ (name : Bytes). ShowsSteps number name l peers (parts q) t) (sym name) walked.shows.steps;
  name = name ∙ walked.shows.named;
  shares = ap (λ (u : Turn). u.shares_fetches) filled.rest ∙ shows.shares ∙ ap (λ (u : State). u.settings.shares_fetches) (sym walked.rest);
  clock = ap (λ (u : Turn). u.now) filled.rest ∙ shows.clock ∙ ap (λ (u : State). u.clock) (sym walked.rest);
  ticked = ap (λ (u : Turn). u.is_ticked) filled.rest ∙ shows.ticked ∙ ap (λ (u : State). u.is_ticked) (sym walked.rest);
  stopped = ap (λ (u : Turn). u.is_stopped) filled.rest ∙ shows.stopped ∙ ap (λ (u : State). u.is_stopped) (sym walked.rest);
  bounded = walked.shows.bounded;
}
  where
    name : q.name.items ≡ p.name.items
    name = ap (λ (u : Turn). u.name.items) filled.rest

pub fills_all : AllFillAsTheLaws
fills_all number l peers p q s shows awake may room filled =
    let walked : IsWalked number p.name.items l peers (parts p) s (filled_if s.is_stopped p) (fill_if s.is_stopped s) = walked_by number l peers p s s.is_stopped refl shows awake may room in
    let program : filled_if s.is_stopped p ≡ parts q = ap (λ (b : Bool). filled_if b p) (sym shows.stopped) ∙ sym filled.is in
    let all : IsWalked number p.name.items l peers (parts p) s (parts q) (fill s) =
    subst (λ (t : State). IsWalked number p.name.items l peers (parts p) s (parts q) t) (sym (fill_is s))
    (subst (λ (r : Parts). IsWalked number p.name.items l peers (parts p) s r (fill_if s.is_stopped s)) program walked) in
    record { turn = turn_shown number l peers p q s (fill s) shows all filled; asks = all.asks }
