-- The exchange of a client that is closed, in the program and in the law.
use Rattle.std.proofs.Common.{◌≡◌, ◌≤◌, refl, subst, ap, ap₂, ◌∙◌, ℕ, Bool, true, false, ◌==◌, find, map, List, [], ◌∷◌, Some, None, Option}
use Rattle.std.specs.Prelude.{count_by, option_and_then, option_map, slice_get, slice_set}
use Rattle.pp_cache_law.proofs.Finds.{none_kept, one_kept}
use Rattle.pp_cache_law.specs.Pairs.{AreBoth}
use Rattle.pp_turns_law.proofs.Changed.{get_set}
use Rattle.pp_turns_law.proofs.Quitting.{left_memory}
use Rattle.pp_flow.specs.Changes.{Exchanges, entry_of, first_of}
use Rattle.pp_flow.specs.Entries.{is_asked_by}
use Rattle.pp_flow.specs.declared.entry.Entry.{Entry}
use Rattle.pp_flow.specs.declared.entry.Exchange.{Exchange as Asked}
use Rattle.pp_flow_law.proofs.Standing.{few_given}
use Rattle.pp_flow_law.proofs.Told.{askers, found_alone}
use Rattle.pp_flow_law.specs.Tables.{Leaving, ShowsFlow}
use Rattle.pp_law.specs.Closing.{close_client, is_of, leave_one, left_alone}
use Rattle.pp_law.specs.Connections.{each_exchange, end_exchange, exchange, is_exchange, on_client, on_exchange}
use Rattle.pp_law.specs.State.{State, Exchange}
use Rattle.pp_law.specs.Table.{swept}
use Rattle.pp_objects.specs.declared.id.ObjectId.{ObjectId}
use Rattle.pp_desk.specs.Closings.{Sides, closed_client, closing_at, left_at, left_by_errand, left_own, with_parts}
use Rattle.pp_seats.specs.declared.seat.Seat.{Seat}
use Rattle.pp_seats_law.specs.Exchanges.{ShowsExchange}
use Rattle.pp_states_law.proofs.Lines.{same_itself}
use Rattle.pp_state.specs.Ends.{Parts, exchange_at, exchange_of, source_of}
use Rattle.pp_turns_law.proofs.Gone.{quitting}
use Rattle.pp_turns_law.proofs.Quit.{closing_client, closing_is, quit, quit_number}

-- ---- the law's

swept_over : (m : ℕ) (s : State) → swept (end_exchange m s) ≡ end_exchange m (swept s)
unfolding swept end_exchange
swept_over m s = refl

swept_left : (m : ℕ) (s : State) → swept (on_exchange m left_alone s) ≡ on_exchange m left_alone (swept s)
unfolding swept on_exchange
swept_left m s = refl

same_exchanges : (n m : ℕ) (is_cut : Bool) (s : State) → exchange (on_client n (closing_client is_cut) s) m ≡ exchange s m
unfolding on_client
same_exchanges n m is_cut s = refl

abbrev pub left_if : Exchange → State → Bool → State
left_if e t b = elim b as (λ c. State) [ true ↦ end_exchange e.number t | false ↦ on_exchange e.number left_alone t ]

one_leaves : (e : Exchange) (u : State) → swept (leave_one e u) ≡ left_if e (swept u) (e.asked == 0)
unfolding leave_one
one_leaves e u = by (e.asked == 0)
  where
    by : (b : Bool) → swept (elim b as (λ c. State) [ true ↦ end_exchange e.number u | false ↦ on_exchange e.number left_alone u ]) ≡ left_if e (swept u) b
    by true = swept_over e.number u
    by false = swept_left e.number u

abbrev each_of : ℕ → Bool → State → List Exchange → State
each_of n is_cut s es = swept (each_exchange leave_one (map (λ e. e.number) es) (on_client n (closing_client is_cut) s))

none_of : (n : ℕ) (is_cut : Bool) (s : State) → each_of n is_cut s [] ≡ quitting n is_cut s
unfolding each_exchange
none_of n is_cut s = refl

one_of : (n : ℕ) (is_cut : Bool) (s : State) (e : Exchange) → exchange s e.number ≡ Some e → each_of n is_cut s (e ∷ []) ≡ left_if e (quitting n is_cut s) (e.asked == 0)
unfolding each_exchange
one_of n is_cut s e there =
    ap (λ (o : Option Exchange). swept (elim o as (λ t. State) [ None ↦ on_client n (closing_client is_cut) s | Some d ↦ leave_one d (on_client n (closing_client is_cut) s) ])) (same_exchanges n e.number is_cut s ∙ there)
    ∙ one_leaves e (on_client n (closing_client is_cut) s)

pub law_none : (n : ℕ) (is_cut : Bool) (s : State) → find (is_of n) s.exchanges ≡ None → close_client n is_cut s ≡ quitting n is_cut s
unfolding close_client
law_none n is_cut s none = ap (λ (es : List Exchange). each_of n is_cut s es) (none_kept (is_of n) s.exchanges none) ∙ none_of n is_cut s

pub law_one : (n : ℕ) (is_cut : Bool) (s : State) (e : Exchange) → count_by (is_of n) s.exchanges ≤ 1 → find (is_of n) s.exchanges ≡ Some e → exchange s e.number ≡ Some e → close_client n is_cut s ≡ left_if e (quitting n is_cut s) (e.asked == 0)
unfolding close_client
law_one n is_cut s e once its there = ap (λ (es : List Exchange). each_of n is_cut s es) (one_kept (is_of n) s.exchanges e once its) ∙ one_of n is_cut s e there

pub its_number : (number : ℕ → ℕ) (l : Leaving) (f : Exchanges) (s : State) → ShowsFlow number l f s → (n : ℕ) (e : Exchange) → find (is_of n) s.exchanges ≡ Some e → exchange s e.number ≡ Some e
its_number number l f s shows n e its = found_alone (is_exchange e.number) (is_of n) s.exchanges e its (same_itself e.number) (few_given number l f s shows e.number)

-- ---- the program's

abbrev asked_in : Exchanges → Option ℕ → Option Asked
asked_in f o = option_and_then (λ number. exchange_at number f) o

quit_asks : (number : ℕ → ℕ) (l : Leaving) (s : State) (i n : ℕ) (p : Parts) (seat : Seat) → ShowsFlow number l p.flow s → slice_get p.seats i ≡ Some seat → seat.client.id ≡ n → count_by (is_of n) s.exchanges ≤ 1
    → exchange_of i (closing_at i p) ≡ asked_in p.flow (option_map (λ e. e.number) (find (is_of n) s.exchanges))
quit_asks number l s i n p seat shows here same once =
    let o : Option ObjectId = source_of seat in
    let q : Parts = record p { seats = slice_set p.seats i (quit o seat); cache = left_memory o p.cache } in
    ap (λ (r : Parts). exchange_of i r) (closing_is i p seat o here refl)
    ∙ ap (λ (x : Option Seat). option_and_then (λ (y : Seat). asked_in p.flow (option_map (λ (z : Entry). z.exchange.number) (first_of (find (is_asked_by y.client.id) p.flow.waiting) (find (is_asked_by y.client.id) p.flow.placed)))) x)
    (get_set i p.seats seat (quit o seat) here)
    ∙ ap (λ (m : ℕ). asked_in p.flow (option_map (λ (z : Entry). z.exchange.number) (first_of (find (is_asked_by m) p.flow.waiting) (find (is_asked_by m) p.flow.placed)))) (quit_number o seat ∙ same)
    ∙ ap (asked_in p.flow) (askers number l p.flow s shows n once)

pub flow_same : (i : ℕ) (p : Parts) (seat : Seat) → slice_get p.seats i ≡ Some seat → (closing_at i p).flow ≡ p.flow
flow_same i p seat here = ap (λ (q : Parts). q.flow) (closing_is i p seat (source_of seat) here refl)

-- its entry
pub record HasEntry (number : ℕ → ℕ) (f : Exchanges) (e : Exchange) : Type 0 where
  pub entry : Entry
  pub here : entry_of e.number f ≡ Some entry
  pub shows : ShowsExchange number entry e

pub has_entry : (number : ℕ → ℕ) (l : Leaving) (f : Exchanges) (s : State) → ShowsFlow number l f s → (e : Exchange) → exchange s e.number ≡ Some e → HasEntry number f e
has_entry number l f s shows e there = by (entry_of e.number f) refl (subst (λ (o : Option Exchange). AreBoth (ShowsExchange number) (entry_of e.number f) o) there (shows.each e.number))
  where
    by : (o : Option Entry) → entry_of e.number f ≡ o → AreBoth (ShowsExchange number) o (Some e) → HasEntry number f e
    by None is both = absurd both
    by (Some y) is both = record { entry = y; here = is; shows = both }

module _ (number : ℕ → ℕ) (l : Leaving) (s : State) (i n : ℕ) (x : Sides) (seat : Seat) (shows : ShowsFlow number l x.parts.flow s) (here : slice_get x.parts.seats i ≡ Some seat) (same : seat.client.id ≡ n) (once : count_by (is_of n) s.exchanges ≤ 1) where
  pub own_none : find (is_of n) s.exchanges ≡ None → closed_client i x ≡ with_parts (closing_at i) x
  own_none none =
      ap (λ (o : Option Asked). left_own i o (with_parts (closing_at i) x))
      (quit_asks number l s i n x.parts seat shows here same once ∙ ap (λ (o : Option Exchange). asked_in x.parts.flow (option_map (λ (e : Exchange). e.number) o)) none)

  pub asks_one : (e : Exchange) (it : HasEntry number x.parts.flow e) → find (is_of n) s.exchanges ≡ Some e → exchange_of i (closing_at i x.parts) ≡ Some it.entry.exchange
  asks_one e it its =
      quit_asks number l s i n x.parts seat shows here same once
      ∙ ap (λ (o : Option Exchange). asked_in x.parts.flow (option_map (λ (d : Exchange). d.number) o)) its
      ∙ ap (λ (o : Option Entry). option_map (λ (y : Entry). y.exchange) o) it.here

  pub own_one : (e : Exchange) (it : HasEntry number x.parts.flow e) → find (is_of n) s.exchanges ≡ Some e → closed_client i x ≡ left_at i e.number it.entry.errand e.place (with_parts (closing_at i) x)
  own_one e it its =
      let z : Sides = with_parts (closing_at i) x in
      ap (λ (o : Option Asked). left_own i o z) (asks_one e it its)
      ∙ ap (λ (f : Exchanges). left_by_errand i it.entry.exchange (option_map (λ (y : Entry). y.errand) (entry_of it.entry.exchange.number f)) z) (flow_same i x.parts seat here)
      ∙ ap (λ (m : ℕ). left_by_errand i it.entry.exchange (option_map (λ (y : Entry). y.errand) (entry_of m x.parts.flow)) z) it.shows.number
      ∙ ap (λ (o : Option Entry). left_by_errand i it.entry.exchange (option_map (λ (y : Entry). y.errand) o) z) it.here
      ∙ ap₂ (λ (m : ℕ) (place : Option ℕ). left_at i m it.entry.errand place z) it.shows.number it.shows.place
