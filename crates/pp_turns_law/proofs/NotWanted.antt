-- An ask without a place that brings nothing that its client wants next.
use Rattle.std.proofs.Common.{◌≡◌, refl, sym, subst, ap, ap₂, ◌∙◌, ℕ, zero, suc, Bool, true, false, ◌&&◌, not, find, List, [], ◌∷◌, Some, None, Option}
use Rattle.std.specs.List.{list_any}
use Rattle.std.specs.Prelude.{is_some, option_and_then, slice_get}
use Rattle.pp_turns_law.proofs.Comes.{brings_of}
use Rattle.pp_cache_law.proofs.Numbers.{is_same, some_is}
use Rattle.pp_cache_law.specs.Pairs.{AreBoth}
use Rattle.pp_turns_law.specs.Decides.{IsAtPlace}
use Rattle.pp_turns_law.specs.Turns.{IsFollowing}
use Rattle.pp_flow.specs.Changes.{entry_of}
use Rattle.pp_flow.specs.declared.entry.Aim.{Aim}
use Rattle.pp_flow.specs.declared.entry.Aim.TheVariants.{Own as OfItself, Hole, Pass}
use Rattle.pp_flow.specs.declared.entry.Entry.{Entry}
use Rattle.pp_flow_law.proofs.Standing.{entry_waiting, waits_has}
use Rattle.pp_flow_law.specs.Tables.{Leaving}
use Rattle.pp_law.specs.Connections.{exchange, is_client}
use Rattle.pp_law.specs.Followers.{is_wanted_by}
use Rattle.pp_law.specs.Lists.{Bytes, is_some_with, is_this}
use Rattle.pp_law.specs.Stages.{filled_of}
use Rattle.pp_law.specs.State.{State, Aim as LawAim, Client, Exchange, Filling, Own, Through}
use Rattle.pp_law.specs.Table.{Next, brings as brings_by_law, next_of}
use Rattle.pp_peers.specs.declared.peers.Peer.{Peer}
use Rattle.pp_seats.specs.Follows.{next_of as next_in_turn}
use Rattle.pp_seats.specs.declared.seat.Next.{Next as SeatNext}
use Rattle.pp_seats.specs.declared.seat.Seat.{Seat}
use Rattle.pp_seats_law.proofs.AllSeats.{places}
use Rattle.pp_seats_law.proofs.Nexts.{nexts}
use Rattle.pp_seats_law.specs.Clients.{IsAt, IsFound}
use Rattle.pp_seats_law.specs.Exchanges.{ShowsExchange}
use Rattle.pp_seats_law.specs.Fates.{aim_of}
use Rattle.pp_seats_law.specs.Seats.{ShowsSeat}
use Rattle.pp_seats_law.specs.Words.{ShowsNext}
use Rattle.pp_state.specs.Asking.{brings_next, fills_hole, is_useless, is_wanted, is_wanted_at}
use Rattle.pp_state.specs.Ends.{Parts, numbers_of, seat_for}
use Rattle.pp_states_law.proofs.Places.{HasNone, HasPlace, HasSeat, at_place, has_none, has_place, has_seat, one_asks}
use Rattle.pp_states_law.specs.Steps.{ShowsSteps}
use Rattle.pp_valid.specs.declared.version.Version.{Version}
use Rattle.pp_turns_law.proofs.Filled.{closed_in_law, closed_in_turn}
use Rattle.pp_turns_law.proofs.FollowingOn.{has_source, is_next}
use Rattle.pp_turns_law.specs.Useless.{AllFollow, UselessIsTheLaws}

-- ---- it fills a hole

abbrev filled_in : LawAim → Bool
filled_in aim = is_some (elim aim as (λ t. Option Version) [ Through ↦ None | Own ↦ None | Filling v from to ↦ Some v ])

fills_same : (aim : Aim) (other : LawAim) → aim_of aim ≡ other → fills_hole aim ≡ filled_in other
fills_same OfItself other same = ap filled_in same
fills_same (Hole v from to) other same = ap filled_in same
fills_same Pass other same = ap filled_in same

-- ---- its client wants it

id_at : (n i : ℕ) (seats : List Seat) (seat : Seat) → IsAt n i seats → slice_get seats i ≡ Some seat → seat.client.id ≡ n
id_at n i [] seat at there = absurd at
id_at n zero (first ∷ seats) seat at there = ap (λ (x : Seat). x.client.id) (sym (some_is first seat there)) ∙ is_same first.client.id n at.0
id_at n (suc i) (first ∷ seats) seat at there = id_at n i seats seat at.1 there

module _ (number : ℕ → ℕ) (name : Bytes) (l : Leaving) (peers : List Peer) (p : Parts) (s : State) (shows : ShowsSteps number name l peers p s) (n : ℕ) (x : Entry) (e : Exchange) (follow : AllFollow p s) (here : entry_of n p.flow ≡ Some x) (there : exchange s n ≡ Some e) where
  shown : ShowsExchange number x e
  shown = subst (λ (o : Option Exchange). AreBoth (ShowsExchange number) (Some x) o) there (subst (λ (o : Option Entry). AreBoth (ShowsExchange number) o (exchange s n)) here (shows.shows.exchanges.each n))

  by_next : (seat : Seat) (c : Client) (o : Option SeatNext) (k : Option Next) → ShowsSeat number name [] seat c → c.is_closing ≡ false → IsFollowing p.cache seat → next_in_turn seat ≡ o → next_of s c ≡ k → ShowsNext number o k
      → brings_next p.cache x o ≡ is_some_with (λ (k : Next). brings_by_law s k.source k.at e) k
  by_next seat c None None seen going its a b same = refl
  by_next seat c (Some y) None seen going its a b same = absurd same
  by_next seat c None (Some k) seen going its a b same = absurd same
  by_next seat c (Some y) (Some k) seen going its a b same = brings_of number name l peers p s shows y k (is_next number p.cache s name seat c y k seen going its a b same) n x e here there

  by_closing : (b : Bool) (i : ℕ) (seat : Seat) (c : Client) → c.is_closing ≡ b → ShowsSeat number name [] seat c → IsAtPlace i p s seat c → brings_next p.cache x (next_in_turn seat) ≡ is_some_with (λ (k : Next). brings_by_law s k.source k.at e) (next_of s c)
  by_closing true i seat c closing seen place =
      ap (λ (o : Option SeatNext). brings_next p.cache x o) (closed_in_turn seat (seen.closing ∙ closing)) ∙ sym (ap (λ (o : Option Next). is_some_with (λ (k : Next). brings_by_law s k.source k.at e) o) (closed_in_law s c closing))
  by_closing false i seat c going seen place =
      let its : IsFollowing p.cache seat = follow i seat c place going in
      by_next seat c (next_in_turn seat) (next_of s c) seen going its refl refl (nexts number s name [] seat c seen (λ on. has_source number p.cache s name seat c shows.shows.table.table seen going its))

  wanted_at : (o : Option ℕ) → seat_for x.exchange p.seats ≡ o → is_wanted_at p.cache p.seats x o ≡ list_any (is_wanted_by s e) s.clients
  wanted_at None none =
      let nobody : HasNone x.exchange.asker s.clients = has_none number name [] x.exchange.asker p.seats s.clients shows.shows.clients none in
      sym (ap (λ (asker : Option ℕ). list_any (λ (c : Client). is_this c.number asker && is_some_with (λ (k : Next). brings_by_law s k.source k.at e) (next_of s c)) s.clients) (sym shown.asker)
      ∙ nobody.asks (λ c. is_some_with (λ (k : Next). brings_by_law s k.source k.at e) (next_of s c)))
  wanted_at (Some i) some =
      let its : HasPlace x.exchange.asker (numbers_of p.seats) i = has_place x.exchange.asker (numbers_of p.seats) i some in
      let at : IsAt its.client i p.seats = at_place its.client i p.seats shows.order its.place in
      let one : HasSeat i p.seats = has_seat its.client i p.seats at in
      let found : IsFound number name [] one.seat its.client s.clients = places number name [] p.seats s.clients its.client i one.seat shows.shows.clients at one.there in
      let numbered : one.seat.client.id ≡ its.client = id_at its.client i p.seats one.seat at one.there in
      let place : IsAtPlace i p s one.seat found.client = record { here = one.there; there = ap (λ (m : ℕ). find (is_client m) s.clients) numbered ∙ found.there } in
      ap (λ (o : Option Seat). brings_next p.cache x (option_and_then next_in_turn o)) one.there ∙ by_closing found.client.is_closing i one.seat found.client refl found.shows place
      ∙ sym (ap (λ (asker : Option ℕ). list_any (λ (c : Client). is_this c.number asker && is_some_with (λ (k : Next). brings_by_law s k.source k.at e) (next_of s c)) s.clients) (sym shown.asker ∙ its.asks)
      ∙ one_asks number name [] its.client i (λ c. is_some_with (λ (k : Next). brings_by_law s k.source k.at e) (next_of s c)) p.seats s.clients found.client shows.shows.clients at found.there)

not_placed : (b : Bool) → not b ≡ true → b ≡ false
not_placed false is = refl
not_placed true is = absurd (cc is)

useless_by : (a b wanted place known : Bool) → a ≡ b → place ≡ false → wanted ≡ known → (a && not wanted) ≡ (b && not place && not known)
useless_by a b wanted place known fills none same = ap₂ (λ (f w : Bool). f && not w) fills same ∙ by b ∙ ap (λ (t : Bool). b && not t && not known) (sym none)
  where
    by : (b : Bool) → (b && not known) ≡ (b && not false && not known)
    by true = refl
    by false = refl

pub useless : UselessIsTheLaws
useless number name l peers p s shows n x e follow waits there =
    let here : entry_of n p.flow ≡ Some x = entry_waiting n p.flow x waits in
    let one : ShowsExchange number x e = shown number name l peers p s shows n x e follow here there in
    ap (λ (o : Option Entry). is_useless p.cache p.seats o) here
    ∙ useless_by (fills_hole x.exchange.aim) (is_some (filled_of e)) (is_wanted p.cache p.seats x) (is_some e.place) (list_any (is_wanted_by s e) s.clients) (fills_same x.exchange.aim e.aim one.aim)
    (not_placed (is_some e.place) (waits_has number l p.flow s shows.shows.exchanges n x e waits there)) (wanted_at number name l peers p s shows n x e follow here there (seat_for x.exchange p.seats) refl)
