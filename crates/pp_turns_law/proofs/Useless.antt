-- A request leaves the exchange that it asked where that brings nothing of what is wanted, and else keeps it.
use Rattle.std.proofs.Common.{◌≡◌, refl, sym, subst, ap, ap₂, ◌∙◌, ℕ, Bool, true, false, ◌&&◌, ◌||◌, not, cond, find, List, [], ◌∷◌, Some, None, Option, option_map}
use Rattle.std.specs.List.{list_any}
use Rattle.std.specs.Prelude.{option_and_then, slice_get}
use Rattle.pp_cache_law.proofs.Finds.{one_only}
use Rattle.pp_cache_law.proofs.PairLemmas.{AreOnly}
use Rattle.pp_cache_law.specs.Pairs.{AreBoth}
use Rattle.pp_turns_law.proofs.Left.{leaves_by}
use Rattle.pp_flow.specs.Changes.{entry_of}
use Rattle.pp_flow.specs.declared.entry.Entry.{Entry}
use Rattle.pp_flow.specs.declared.entry.Exchange.{Exchange as Asked}
use Rattle.pp_flow_law.proofs.Standing.{few_given}
use Rattle.pp_flow_law.proofs.Told.{askers, found_alone}
use Rattle.pp_flow_law.specs.Tables.{Leaving}
use Rattle.pp_law.specs.Closing.{forsake, is_of, is_over, leave, left_alone}
use Rattle.pp_law.specs.Connections.{exchange, is_exchange}
use Rattle.pp_law.specs.Lists.{Bytes, change, without}
use Rattle.pp_law.specs.State.{State, Exchange}
use Rattle.pp_peers.specs.declared.peers.Peer.{Peer}
use Rattle.pp_seats.specs.declared.seat.Seat.{Seat}
use Rattle.pp_seats_law.specs.Exchanges.{ShowsExchange}
use Rattle.pp_states_law.proofs.Lines.{same_itself}
use Rattle.pp_states_law.specs.Decisions.{AsksOnce}
use Rattle.pp_take.specs.Deciding.{is_served_by, left_if_useless, left_useless, serves_at}
use Rattle.pp_state.specs.Ends.{Parts, asked_by, exchange_at, exchange_of, left_at_decision}
use Rattle.pp_states_law.specs.Steps.{ShowsSteps}

-- ---- which are left

-- that of a client, where it does not serve
abbrev pub useless : ℕ → (Exchange → Bool) → Exchange → Bool
useless n serves e = is_of n e && not (serves e)

abbrev alone_if : Bool → Exchange → Exchange
alone_if b e = elim b as (λ t. Exchange) [ true ↦ left_alone e | false ↦ e ]

none_changed : (n : ℕ) (serves : Exchange → Bool) (es : List Exchange) → find (is_of n) es ≡ None → change (useless n serves) left_alone es ≡ es
none_changed n serves [] none = refl
none_changed n serves (e ∷ es) none = by (is_of n e) refl none (λ there. none_changed n serves es there)
  where
    by : (b : Bool) → is_of n e ≡ b → cond b (Some e) (find (is_of n) es) ≡ None → (find (is_of n) es ≡ None → change (useless n serves) left_alone es ≡ es) → change (useless n serves) left_alone (e ∷ es) ≡ e ∷ es
    by true is there rest = absurd (cc there)
    by false is there rest = ap₂ (λ (b : Bool) (xs : List Exchange). alone_if (b && not (serves e)) e ∷ xs) is (rest there)

one_kept : (n : ℕ) (serves : Exchange → Bool) (y : Exchange) (es : List Exchange) → AreOnly (is_of n) y es → serves y ≡ true → change (useless n serves) left_alone es ≡ es
one_kept n serves y [] only is = refl
one_kept n serves y (e ∷ es) only is = ap₂ (λ (b : Bool) (xs : List Exchange). alone_if b e ∷ xs) (by (is_of n e) refl) (one_kept n serves y es only.1 is)
  where
    by : (b : Bool) → is_of n e ≡ b → (b && not (serves e)) ≡ false
    by true of_it = ap (λ (x : Exchange). not (serves x)) (only.0 of_it) ∙ ap not is
    by false other = refl

one_changed : (n : ℕ) (serves : Exchange → Bool) (y : Exchange) (es : List Exchange) → AreOnly (is_of n) y es → serves y ≡ false → change (useless n serves) left_alone es ≡ change (is_of n) left_alone es
one_changed n serves y [] only isnt = refl
one_changed n serves y (e ∷ es) only isnt = ap₂ (λ (b : Bool) (xs : List Exchange). alone_if b e ∷ xs) (by (is_of n e) refl) (one_changed n serves y es only.1 isnt)
  where
    by : (b : Bool) → is_of n e ≡ b → (b && not (serves e)) ≡ b
    by true of_it = ap (λ (x : Exchange). not (serves x)) (only.0 of_it) ∙ ap not isnt
    by false other = refl

none_over : (es : List Exchange) → list_any is_over es ≡ false → without is_over es ≡ es
none_over [] going = refl
none_over (e ∷ es) going = by (is_over e) going (λ is. none_over es is)
  where
    by : (b : Bool) → (b || list_any is_over es) ≡ false → (list_any is_over es ≡ false → without is_over es ≡ es) → cond (not b) (e ∷ without is_over es) (without is_over es) ≡ e ∷ es
    by true is rest = absurd (cc is)
    by false is rest = ap (λ (xs : List Exchange). e ∷ xs) (rest is)

none_leaves : (test : Exchange → Bool) (s : State) → change test left_alone s.exchanges ≡ s.exchanges → list_any is_over s.exchanges ≡ false → leave test s ≡ s
unfolding leave forsake
none_leaves test s same going = ap (λ (es : List Exchange). let t : State = record s { exchanges = es } in t) (ap (λ (es : List Exchange). without is_over es) same ∙ none_over s.exchanges going)

leave_alike : (test other : Exchange → Bool) (s : State) → change test left_alone s.exchanges ≡ change other left_alone s.exchanges → leave test s ≡ leave other s
unfolding leave forsake
leave_alike test other s same = ap (λ (es : List Exchange). let t : State = record s { exchanges = without is_over es } in t) same

-- ---- the program's

asked_as : (i : ℕ) (p : Parts) (seat : Seat) (o : Option ℕ) → slice_get p.seats i ≡ Some seat → asked_by seat.client.id p.flow ≡ o → exchange_of i p ≡ option_and_then (λ n. exchange_at n p.flow) o
asked_as i p seat o here asked =
    ap (λ (x : Option Seat). option_and_then (λ (y : Seat). option_and_then (λ n. exchange_at n p.flow) (asked_by y.client.id p.flow)) x) here
    ∙ ap (λ (x : Option ℕ). option_and_then (λ n. exchange_at n p.flow) x) asked

left_as : (i : ℕ) (p : Parts) (o : Option Asked) → exchange_of i p ≡ o → left_useless i p ≡ left_if_useless i o p
unfolding left_useless
left_as i p o is = ap (λ (x : Option Asked). left_if_useless i x p) is

abbrev left_where : ℕ → Parts → Bool → Parts
left_where i p b = elim b as (λ t. Parts) [ true ↦ p | false ↦ left_at_decision i p ]

-- ---- in all

module _ (number : ℕ → ℕ) (name : Bytes) (l : Leaving) (peers : List Peer) (p : Parts) (s : State) (steps : ShowsSteps number name l peers p s) (i : ℕ) (seat : Seat) (here : slice_get p.seats i ≡ Some seat) (once : AsksOnce seat.client.id s)
    (serves : Exchange → Bool) (serving : (e : Entry) (y : Exchange) → entry_of y.number p.flow ≡ Some e → exchange s y.number ≡ Some y → serves_at i p (Some e) ≡ serves y) where
  stays : left_useless i p ≡ p → change (useless seat.client.id serves) left_alone s.exchanges ≡ s.exchanges → ShowsSteps number name l peers (left_useless i p) (leave (useless seat.client.id serves) s)
  stays same changed =
      subst (λ (q : Parts). ShowsSteps number name l peers q (leave (useless seat.client.id serves) s)) (sym same)
      (subst (λ (t : State). ShowsSteps number name l peers p t) (sym (none_leaves (useless seat.client.id serves) s changed once.going)) steps)

  goes : left_useless i p ≡ left_at_decision i p → change (useless seat.client.id serves) left_alone s.exchanges ≡ change (is_of seat.client.id) left_alone s.exchanges
      → ShowsSteps number name l peers (left_useless i p) (leave (useless seat.client.id serves) s)
  goes same changed =
      subst (λ (q : Parts). ShowsSteps number name l peers q (leave (useless seat.client.id serves) s)) (sym same)
      (subst (λ (t : State). ShowsSteps number name l peers (left_at_decision i p) t) (sym (leave_alike (useless seat.client.id serves) (is_of seat.client.id) s changed)) (leaves_by number name l peers p s steps i seat here once))

  asks : (o : Option Exchange) → find (is_of seat.client.id) s.exchanges ≡ o → asked_by seat.client.id p.flow ≡ option_map (λ (e : Exchange). e.number) o
  asks o is = askers number l p.flow s steps.shows.exchanges seat.client.id once.once ∙ ap (λ (x : Option Exchange). option_map (λ (e : Exchange). e.number) x) is

  none_asked : find (is_of seat.client.id) s.exchanges ≡ None → left_useless i p ≡ p
  none_asked none = left_as i p None (asked_as i p seat None here (asks None none))

  -- the exchange of the request, in the program
  one_asked : (y : Exchange) (e : Entry) → find (is_of seat.client.id) s.exchanges ≡ Some y → entry_of y.number p.flow ≡ Some e → exchange s y.number ≡ Some y → ShowsExchange number e y → left_useless i p ≡ left_where i p (serves y)
  one_asked y e is entry known shows =
      left_as i p (Some e.exchange) (asked_as i p seat (Some y.number) here (asks (Some y) is) ∙ ap (λ (o : Option Entry). option_map (λ (x : Entry). x.exchange) o) entry)
      ∙ ap (left_where i p) (ap (λ (n : ℕ). is_served_by i n p) shows.number ∙ ap (λ (o : Option Entry). serves_at i p o) entry ∙ serving e y entry known)

  one_leaves : (y : Exchange) (e : Entry) (b : Bool) → find (is_of seat.client.id) s.exchanges ≡ Some y → serves y ≡ b → left_useless i p ≡ left_where i p (serves y) → ShowsSteps number name l peers (left_useless i p) (leave (useless seat.client.id serves) s)
  one_leaves y e true is so left = stays (left ∙ ap (left_where i p) so) (one_kept seat.client.id serves y s.exchanges (one_only (is_of seat.client.id) s.exchanges y once.once is) so)
  one_leaves y e false is so left = goes (left ∙ ap (left_where i p) so) (one_changed seat.client.id serves y s.exchanges (one_only (is_of seat.client.id) s.exchanges y once.once is) so)

  at_entry : (y : Exchange) (o : Option Entry) → find (is_of seat.client.id) s.exchanges ≡ Some y → exchange s y.number ≡ Some y → entry_of y.number p.flow ≡ o → AreBoth (ShowsExchange number) o (Some y)
      → ShowsSteps number name l peers (left_useless i p) (leave (useless seat.client.id serves) s)
  at_entry y None is known entry both = absurd both
  at_entry y (Some e) is known entry both = one_leaves y e (serves y) is refl (one_asked y e is entry known both)

  by_exchange : (o : Option Exchange) → find (is_of seat.client.id) s.exchanges ≡ o → ShowsSteps number name l peers (left_useless i p) (leave (useless seat.client.id serves) s)
  by_exchange None none = stays (none_asked none) (none_changed seat.client.id serves s.exchanges none)
  by_exchange (Some y) is =
      let known : exchange s y.number ≡ Some y = found_alone (is_exchange y.number) (is_of seat.client.id) s.exchanges y is (same_itself y.number) (few_given number l p.flow s steps.shows.exchanges y.number) in
      at_entry y (entry_of y.number p.flow) is known refl (subst (λ (o : Option Exchange). AreBoth (ShowsExchange number) (entry_of y.number p.flow) o) known (steps.shows.exchanges.each y.number))

  -- it leaves one that does not serve
  pub useless_left : ShowsSteps number name l peers (left_useless i p) (leave (useless seat.client.id serves) s)
  useless_left = by_exchange (find (is_of seat.client.id) s.exchanges) refl
