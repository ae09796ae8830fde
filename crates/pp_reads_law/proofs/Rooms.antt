-- How much one read of an origin takes at most is what the law has it take.
use Rattle.std.proofs.Common.{◌≡◌, refl, sym, ap, ap₂, ◌∙◌, ℕ, zero, suc, Bool, true, false, ◌==◌, cond, find, min, List, [], ◌∷◌, Option, Some, None, arith}
use Rattle.std.proofs.lemmas.Bool.Decides.{nat_tests}
use Rattle.std.specs.Prelude.{option_and_then, option_map, slice_get}
use Rattle.pp_cache_law.proofs.Finds.{find_passes}
use Rattle.pp_cache_law.specs.Pairs.{AreBoth}
use Rattle.pp_client.specs.Replies.{Reply as Said}
use Rattle.pp_turns_law.specs.Sides.{ShowsSides}
use Rattle.pp_desk.specs.Closings.{Sides}
use Rattle.pp_flow.specs.Changes.{entry_of, line_of}
use Rattle.pp_flow.specs.declared.entry.Entry.{Entry}
use Rattle.pp_flow_law.proofs.Entries.{other_way, same_number}
use Rattle.pp_flow_law.specs.Tables.{line_in}
use Rattle.pp_law.specs.Asking.{pipe_room, read_room as room_by_law, room_for as room_for_by_law}
use Rattle.pp_law.specs.Connections.{conn, exchange, is_client, is_exchange}
use Rattle.pp_law.specs.Lists.{Bytes, first_some, is_this}
use Rattle.pp_law.specs.Requests.{Front}
use Rattle.pp_law.specs.Stages.{passed_of}
use Rattle.pp_law.specs.State.{State, Client, Conn, Exchange, Passed}
use Rattle.pp_origins.specs.Responses.{read_room, room_by, room_on}
use Rattle.pp_pass.specs.Pipe.{Pipe, room_of}
use Rattle.pp_seats.specs.Seats.{passed_in}
use Rattle.pp_seats.specs.declared.seat.Passed.{Passed as SeatPassed}
use Rattle.pp_seats.specs.declared.seat.Seat.{Seat}
use Rattle.pp_seats_law.proofs.Stages.{passed}
use Rattle.pp_seats_law.specs.Clients.{AreShown, IsAt, IsNowhere}
use Rattle.pp_seats_law.specs.Exchanges.{ShowsExchange}
use Rattle.pp_seats_law.specs.Seats.{ShowsSeat}
use Rattle.pp_seats_law.specs.Words.{ShowsMaybePassed}
use Rattle.pp_state.specs.Bodies.{room_for, room_of_seat, seat_in}
use Rattle.pp_state.specs.Ends.{Parts, numbers_of, place_of}
use Rattle.pp_states_law.proofs.Places.{at_place, no_place}
use Rattle.pp_states_law.specs.Charges.{GoesOn}

-- ---- no more than 32,768 bytes

abbrev at_most : Option ℕ → ℕ
at_most o = min 32768 (elim o as (λ t. ℕ) [ None ↦ 32768 | Some n ↦ n ])

limited : (n : ℕ) → min (min n 32768) 32768 ≡ min 32768 n
limited n = omega arith

abbrev room_in_pipe : Pipe → Option SeatPassed → ℕ
room_in_pipe pipe o = elim o as (λ t. ℕ) [ None ↦ 32768 | Some x ↦ min (room_of pipe) 32768 ]

abbrev passed_room : Option Passed → Option ℕ
passed_room o = option_map (λ p. room_of p.pipe) o

pipe_same : (name : Bytes) (said : Said) (front : Front) (x : Option SeatPassed) (p : Option Passed) → ShowsMaybePassed name said front x p → min (room_in_pipe said.pipe x) 32768 ≡ at_most (passed_room p)
pipe_same name said front None None shows = refl
pipe_same name said front (Some x) (Some p) shows = limited (room_of said.pipe) ∙ ap (λ (pipe : Pipe). min 32768 (room_of pipe)) shows.pipe
pipe_same name said front None (Some p) shows = absurd shows
pipe_same name said front (Some x) None shows = absurd shows

-- ---- of the clients an exchange has one at most

abbrev room_if : Client → Bool → Option ℕ
room_if c b = elim b as (λ t. Option ℕ) [ false ↦ None | true ↦ passed_room (passed_of c) ]

abbrev or_other : Option ℕ → Option ℕ → Option ℕ
or_other o other = elim o as (λ t. Option ℕ) [ Some n ↦ Some n | None ↦ other ]

nobodys : (e : Exchange) → e.asker ≡ None → (cs : List Client) → first_some (pipe_room e) cs ≡ None
nobodys e none [] = refl
nobodys e none (c ∷ cs) = ap (λ (o : Option ℕ). or_other (room_if c (is_this c.number o)) (first_some (pipe_room e) cs)) none ∙ nobodys e none cs

module _ (number : ℕ → ℕ) (name : Bytes) (e : Exchange) (n : ℕ) (asks : e.asker ≡ Some n) where
  not_its : (seat : Seat) (c : Client) → ShowsSeat number name [] seat c → (seat.client.id == n) ≡ false → pipe_room e c ≡ None
  not_its seat c shows off = ap (λ (o : Option ℕ). room_if c (is_this c.number o)) asks ∙ ap (λ (b : Bool). room_if c b) (other_way c.number n (ap (λ (m : ℕ). m == n) (sym shows.number) ∙ off))

  nowhere : (seats : List Seat) (cs : List Client) → AreShown number name [] seats cs → IsNowhere n seats → first_some (pipe_room e) cs ≡ None
  nowhere [] [] shown none = refl
  nowhere [] (c ∷ cs) shown none = absurd shown
  nowhere (seat ∷ seats) [] shown none = absurd shown
  nowhere (seat ∷ seats) (c ∷ cs) shown none = ap (λ (o : Option ℕ). or_other o (first_some (pipe_room e) cs)) (not_its seat c shown.0 none.0) ∙ nowhere seats cs shown.1 none.1

  itself_is : (m k : ℕ) → m ≡ k → (k == m) ≡ true
  itself_is m k same = grind (arith, nat_tests, same)

  same_id : (m k : ℕ) → (m == k) ≡ true → m ≡ k
  same_id m k is = grind (arith, nat_tests, is)

  or_none : (o : Option ℕ) → or_other o None ≡ o
  or_none None = refl
  or_none (Some m) = refl

  its_room : (c : Client) → c.number ≡ n → pipe_room e c ≡ passed_room (passed_of c)
  its_room c same = ap (λ (o : Option ℕ). room_if c (is_this c.number o)) asks ∙ ap (λ (b : Bool). room_if c b) (itself_is c.number n same)

  -- the one at a place
  placed : (i : ℕ) (seats : List Seat) (cs : List Client) → AreShown number name [] seats cs → ((c : Client) → find (is_client n) cs ≡ Some c → c.is_closing ≡ false) → IsAt n i seats
      → min (room_of_seat 32768 (slice_get seats i)) 32768 ≡ at_most (first_some (pipe_room e) cs)
  placed i [] cs shown going at = absurd at
  placed zero (seat ∷ seats) [] shown going at = absurd shown
  placed (suc i) (seat ∷ seats) [] shown going at = absurd shown
  placed zero (seat ∷ seats) (c ∷ cs) shown going at =
      let same : c.number ≡ n = sym shown.0.number ∙ same_id seat.client.id n at.0 in
      let is : (c.number == n) ≡ true = ap (λ (m : ℕ). m == n) (sym shown.0.number) ∙ at.0 in
      pipe_same name seat.client.reply c.front (passed_in seat.brought) (passed_of c) (passed number name [] seat c (shown.0.going (going c (ap (λ (b : Bool). cond b (Some c) (find (is_client n) cs)) is))))
      ∙ ap (λ (o : Option ℕ). at_most o) (sym (ap₂ (λ (o other : Option ℕ). or_other o other) (its_room c same) (nowhere seats cs shown.1 at.1) ∙ or_none (passed_room (passed_of c))))
  placed (suc i) (seat ∷ seats) (c ∷ cs) shown going at =
      let off : (c.number == n) ≡ false = ap (λ (m : ℕ). m == n) (sym shown.0.number) ∙ at.0 in
      placed i seats cs shown.1 (λ d found. going d (ap (λ (b : Bool). cond b (Some c) (find (is_client n) cs)) off ∙ found)) at.1
      ∙ ap (λ (o : Option ℕ). at_most o) (sym (ap (λ (o : Option ℕ). or_other o (first_some (pipe_room e) cs)) (not_its seat c shown.0 at.0)))

-- ---- of one connection

module _ (number : ℕ → ℕ) (name : Bytes) (x : Sides) (s : State) (shows : ShowsSides number name x s) where
  abbrev p : Parts
  p = x.parts

  for_exchange : (y : Entry) (e : Exchange) → exchange s e.number ≡ Some e → ShowsExchange number y e → min (room_for y.exchange 32768 p.seats) 32768 ≡ min 32768 (room_for_by_law s e)
  for_exchange y e known same = by e.asker refl
    where
      room_at : Option ℕ → ℕ
      room_at asker = min (room_of_seat 32768 (seat_in (option_and_then (λ client. place_of client (numbers_of p.seats)) asker) p.seats)) 32768

      at : (n : ℕ) → e.asker ≡ Some n → (o : Option ℕ) → place_of n (numbers_of p.seats) ≡ o → min (room_of_seat 32768 (seat_in o p.seats)) 32768 ≡ at_most (first_some (pipe_room e) s.clients)
      at n asks None none = ap (λ (o : Option ℕ). at_most o) (sym (nowhere number name e n asks p.seats s.clients shows.steps.shows.clients (no_place n p.seats none)))
      at n asks (Some i) found = placed number name e n asks i p.seats s.clients shows.steps.shows.clients (λ c there. let on : GoesOn c = shows.may.go.going e.number e known n c asks there in on.going) (at_place n i p.seats shows.steps.order found)

      by : (o : Option ℕ) → e.asker ≡ o → min (room_for y.exchange 32768 p.seats) 32768 ≡ min 32768 (room_for_by_law s e)
      by None none = ap room_at (same.asker ∙ none) ∙ ap (λ (o : Option ℕ). at_most o) (sym (nobodys e none s.clients))
      by (Some n) asks = ap room_at (same.asker ∙ asks) ∙ at n asks (place_of n (numbers_of p.seats)) refl

  module _ (k : ℕ) (j : Conn) (there : conn s k ≡ Some j) where
    line : line_of k p.flow.placed ≡ j.line
    line = shows.steps.shows.exchanges.lines k ∙ ap (λ (o : Option Conn). line_in o) there

    by_entry : (m : ℕ) (y : Option Entry) (e : Option Exchange) → exchange s m ≡ e → AreBoth (ShowsExchange number) y e
        → min (room_by (option_map (λ (z : Entry). z.exchange) y) p) 32768 ≡ min 32768 (elim e as (λ t. ℕ) [ None ↦ 32768 | Some d ↦ room_for_by_law s d ])
    by_entry m None None known both = refl
    by_entry m None (Some e) known both = absurd both
    by_entry m (Some y) None known both = absurd both
    by_entry m (Some y) (Some e) known both = for_exchange y e (known_at m e known) both
      where
        known_at : (m : ℕ) (e : Exchange) → exchange s m ≡ Some e → exchange s e.number ≡ Some e
        known_at m e is = ap (λ (n : ℕ). exchange s n) (same_number e.number m (find_passes (is_exchange m) s.exchanges e is)) ∙ is

    by_line : (ns : List ℕ) → min (room_on (slice_get ns 0) p) 32768 ≡ min 32768 (elim (elim ns as (λ o. Option Exchange) [ [] ↦ None | m ∷ rest ↦ exchange s m ]) as (λ t. ℕ) [ None ↦ 32768 | Some e ↦ room_for_by_law s e ])
    by_line [] = refl
    by_line (m ∷ others) = by_entry m (entry_of m p.flow) (exchange s m) refl (shows.steps.shows.exchanges.each m)

    pub rooms_same : min (read_room k p) 32768 ≡ min 32768 (room_by_law s k)
    rooms_same =
        ap (λ (ns : List ℕ). min (room_on (slice_get ns 0) p) 32768) line
        ∙ by_line j.line
        ∙ ap (λ (o : Option Conn). min 32768 (elim o as (λ t. ℕ) [
          | None ↦ 0
          | Some i ↦ elim (elim i.line as (λ o. Option Exchange) [ [] ↦ None | m ∷ rest ↦ exchange s m ]) as (λ t. ℕ) [ None ↦ 32768 | Some e ↦ room_for_by_law s e ]
        ])) (sym there)
