-- A client that is closed leaves its exchange.
use Rattle.std.proofs.Common.{◌≡◌, ◌≤◌, refl, sym, subst, ap, ◌∙◌, ℕ, Bool, true, false, ◌==◌, cond, find, List, Some, None, Option}
use Rattle.std.specs.Prelude.{count_by}
use Rattle.pp_flow.specs.declared.entry.Exchange.{Exchange as Asked}
use Rattle.pp_flow_law.specs.Tables.{none_leaves}
use Rattle.pp_law.specs.Closing.{close_client, is_of, left_alone}
use Rattle.pp_law.specs.Connections.{end_exchange, exchange, is_conn, is_exchange, on_exchange}
use Rattle.pp_law.specs.Lists.{Bytes}
use Rattle.pp_law.specs.State.{State, Client, Conn, Exchange}
use Rattle.pp_desk.specs.Closings.{Sides, closed_client, closing_at, left_at, with_parts, withdrawn}
use Rattle.pp_seats.specs.declared.seat.Seat.{Seat}
use Rattle.pp_states_law.proofs.Lines.{all_found}
use Rattle.pp_states_law.specs.Decisions.{AreApart}
use Rattle.pp_state.specs.Ends.{Parts, ended, forsaken, left}
use Rattle.pp_states_law.specs.Lines.{AllGo}
use Rattle.pp_turns_law.proofs.Gone.{alone_left, go_on, none_left, over_left, quit_clients, quit_conns, quit_exchanges, quitting}
use Rattle.pp_turns_law.proofs.Orderly.{ended_apart, ended_orderly, same_clients}
use Rattle.pp_turns_law.proofs.Over.{alone, left_clients, left_conns, over_conns, over_with, withdraws}
use Rattle.pp_turns_law.proofs.Own.{HasEntry, asks_one, has_entry, its_number, law_none, law_one, left_if, own_none, own_one}
use Rattle.pp_turns_law.proofs.Quit.{quits, same_client}
use Rattle.pp_turns_law.proofs.Shut.{Steps}
use Rattle.pp_turns_law.proofs.StandsIn.{StandsOn, nowhere, stands_on}
use Rattle.pp_turns_law.specs.Clients.{ClientsLeaveAsTheLaws, IsAskOf, MayBeClosed}
use Rattle.pp_turns_law.specs.Sides.{AreOrderly, MayClose, ShowsSides}

-- ---- in all

apart_as : (s t : State) → t.conns ≡ s.conns → AreApart s → AreApart t
apart_as s t same apart n = subst (λ (ks : List Conn). count_by (is_conn n) ks ≤ 1) (sym same) (apart n)

orderly_as : (s t : State) → t.conns ≡ s.conns → AreOrderly s.conns → AreOrderly t.conns
orderly_as s t same orderly = subst (λ (ks : List Conn). AreOrderly ks) (sym same) orderly

module _ (number : ℕ → ℕ) (name : Bytes) (x : Sides) (s : State) (shows : ShowsSides number name x s) (i : ℕ) (is_cut : Bool) (seat : Seat) (c : Client) (may : MayBeClosed i x s seat c) where
  same : seat.client.id ≡ c.number
  same = sym (same_client seat.client.id s c may.place.there)

  steps : Steps number name (with_parts (closing_at i) x) (quitting c.number is_cut s)
  steps = quits number name x s shows.steps i is_cut seat c may

  apart : AreApart (quitting c.number is_cut s)
  apart = apart_as s (quitting c.number is_cut s) (quit_conns c.number is_cut s) shows.may.apart

  orderly : AreOrderly (quitting c.number is_cut s).conns
  orderly = orderly_as s (quitting c.number is_cut s) (quit_conns c.number is_cut s) shows.may.orderly

  -- no exchange was its
  pub none_its : find (is_of c.number) s.exchanges ≡ None → ShowsSides number name (closed_client i x) (close_client c.number is_cut s)
  none_its none =
      subst (λ (y : Sides). ShowsSides number name y (close_client c.number is_cut s)) (sym (own_none number none_leaves s i c.number x seat shows.steps.shows.exchanges may.place.here same may.once none))
      (subst (λ (t : State). ShowsSides number name (with_parts (closing_at i) x) t) (sym (law_none c.number is_cut s none)) (record {
        steps = steps;
        may = record { apart = apart; orderly = orderly; go = go_on c.number is_cut s (quitting c.number is_cut s) (quit_clients c.number is_cut s) (none_left c.number is_cut s none) shows.may.go };
      }))

  -- this one was
  module _ (e : Exchange) (its : IsAskOf s c e) where
    known_before : exchange s e.number ≡ Some e
    known_before = its_number number none_leaves x.parts.flow s shows.steps.shows.exchanges c.number e its

    known : exchange (quitting c.number is_cut s) e.number ≡ Some e
    known = ap (λ (es : List Exchange). find (is_exchange e.number) es) (quit_exchanges c.number is_cut s) ∙ known_before

    it : HasEntry number x.parts.flow e
    it = has_entry number none_leaves x.parts.flow s shows.steps.shows.exchanges e known_before

    own : closed_client i x ≡ left_at i e.number it.entry.errand e.place (with_parts (closing_at i) x)
    own = own_one number none_leaves s i c.number x seat shows.steps.shows.exchanges may.place.here same may.once e it its

    pub law : close_client c.number is_cut s ≡ left_if e (quitting c.number is_cut s) (e.asked == 0)
    law = law_one c.number is_cut s e may.once its known_before

    over_go : AllGo (end_exchange e.number (quitting c.number is_cut s))
    over_go =
        go_on c.number is_cut s (end_exchange e.number (quitting c.number is_cut s)) (same_clients e.number (quitting c.number is_cut s) ∙ quit_clients c.number is_cut s)
        (over_left c.number is_cut s e may.once its) shows.may.go

    over_may : MayClose (end_exchange e.number (quitting c.number is_cut s))
    over_may = record { apart = ended_apart e.number (quitting c.number is_cut s) apart; orderly = ended_orderly e.number (quitting c.number is_cut s) orderly; go = over_go }

    alone_may : MayClose (on_exchange e.number left_alone (quitting c.number is_cut s))
    alone_may = record {
      apart = apart_as (quitting c.number is_cut s) (on_exchange e.number left_alone (quitting c.number is_cut s)) (left_conns e.number (quitting c.number is_cut s)) apart;
      orderly = orderly_as (quitting c.number is_cut s) (on_exchange e.number left_alone (quitting c.number is_cut s)) (left_conns e.number (quitting c.number is_cut s)) orderly;
      go =
          go_on c.number is_cut s (on_exchange e.number left_alone (quitting c.number is_cut s)) (left_clients e.number (quitting c.number is_cut s) ∙ quit_clients c.number is_cut s)
          (alone_left c.number is_cut s e may.once its) shows.may.go;
    }

    -- it has no place
    unplaced : e.place ≡ None → ShowsSides number name (with_parts (ended e.number) (with_parts (closing_at i) x)) (left_if e (quitting c.number is_cut s) (e.asked == 0))
    unplaced none =
        subst (λ (b : Bool). ShowsSides number name (with_parts (ended e.number) (with_parts (closing_at i) x)) (left_if e (quitting c.number is_cut s) b)) (sym (may.rests e its none)) (record {
          steps =
              over_with number name e.number (with_parts (closing_at i) x) (quitting c.number is_cut s) x.peers steps
              (over_conns number name e.number (with_parts (closing_at i) x) (quitting c.number is_cut s) steps
              (nowhere number (closing_at i x.parts).flow (quitting c.number is_cut s) steps.shows.exchanges e.number e known none (quitting c.number is_cut s).conns (all_found (quitting c.number is_cut s) apart)));
          may = over_may;
        })

    -- nothing of it was asked
    unasked_yet : (k : ℕ) → e.place ≡ Some k → (e.asked == 0) ≡ true → ShowsSides number name (withdrawn e.number k (with_parts (closing_at i) x)) (left_if e (quitting c.number is_cut s) true)
    unasked_yet k on none =
        let at : StandsOn (quitting c.number is_cut s) e.number k = stands_on number (closing_at i x.parts).flow (quitting c.number is_cut s) steps.shows.exchanges e.number k e known on in
        record { steps = withdraws number name (with_parts (closing_at i) x) (quitting c.number is_cut s) steps apart e.number k e known on none at.k at.there at.has; may = over_may }

    forsaken_is : forsaken i (closing_at i x.parts) ≡ left e.number (closing_at i x.parts)
    forsaken_is =
        ap (λ (o : Option Asked). elim o as (λ t. Parts) [ None ↦ closing_at i x.parts | Some y ↦ left y.number (closing_at i x.parts) ]) (asks_one number none_leaves s i c.number x seat shows.steps.shows.exchanges may.place.here same may.once e it its)
        ∙ ap (λ (m : ℕ). left m (closing_at i x.parts)) it.shows.number

    -- something of it was
    asked_some : ShowsSides number name (with_parts (forsaken i) (with_parts (closing_at i) x)) (left_if e (quitting c.number is_cut s) false)
    asked_some =
        subst (λ (p : Parts). ShowsSides number name (record { parts = p; peers = x.peers }) (on_exchange e.number left_alone (quitting c.number is_cut s))) (sym forsaken_is)
        (record { steps = alone number name e.number (with_parts (closing_at i) x) (quitting c.number is_cut s) steps; may = alone_may })

    abbrev placed_as : ℕ → Bool → Sides
    placed_as k a = cond a (withdrawn e.number k (with_parts (closing_at i) x)) (with_parts (forsaken i) (with_parts (closing_at i) x))

    by_asked : (k : ℕ) → e.place ≡ Some k → (a : Bool) → (e.asked == 0) ≡ a → ShowsSides number name (placed_as k a) (left_if e (quitting c.number is_cut s) a)
    by_asked k on true is = unasked_yet k on is
    by_asked k on false is = asked_some

    by_place : (o : Option ℕ) → e.place ≡ o → ShowsSides number name (left_at i e.number it.entry.errand o (with_parts (closing_at i) x)) (left_if e (quitting c.number is_cut s) (e.asked == 0))
    by_place None is = unplaced is
    by_place (Some k) is =
        subst (λ (a : ℕ). ShowsSides number name (placed_as k (a == 0)) (left_if e (quitting c.number is_cut s) (e.asked == 0))) (sym it.shows.asked) (by_asked k is (e.asked == 0) refl)

    pub one_its : ShowsSides number name (closed_client i x) (close_client c.number is_cut s)
    one_its =
        subst (λ (y : Sides). ShowsSides number name y (close_client c.number is_cut s)) (sym own)
        (subst (λ (t : State). ShowsSides number name (left_at i e.number it.entry.errand e.place (with_parts (closing_at i) x)) t) (sym law) (by_place e.place refl))

pub leaves_client : ClientsLeaveAsTheLaws
leaves_client number name x s shows i is_cut seat c may = by (find (is_of c.number) s.exchanges) refl
  where
    by : (o : Option Exchange) → find (is_of c.number) s.exchanges ≡ o → ShowsSides number name (closed_client i x) (close_client c.number is_cut s)
    by None none = none_its number name x s shows i is_cut seat c may none
    by (Some e) its = one_its number name x s shows i is_cut seat c may e its
