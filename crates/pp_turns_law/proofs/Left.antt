-- The request of a client leaves the exchange that it asked.
use Rattle.std.proofs.Common.{◌≡◌, refl, sym, subst, ap, ◌∙◌, ℕ, Bool, true, find, List, [], Some, None, Option, option_map}
use Rattle.std.specs.Prelude.{option_and_then, slice_get}
use Rattle.pp_cache_law.proofs.Finds.{find_passes}
use Rattle.pp_cache_law.proofs.Numbers.{is_same}
use Rattle.pp_flow.specs.Changes.{Exchanges, changed, entry_of, first_of, without}
use Rattle.pp_flow.specs.Entries.{is_asked_by, is_number, nobodys}
use Rattle.pp_flow.specs.declared.entry.Entry.{Entry}
use Rattle.pp_flow.specs.declared.entry.Exchange.{Exchange as Asked}
use Rattle.pp_flow_law.proofs.Standing.{entry_placed, entry_waiting, few_placed, few_waiting, none_waits}
use Rattle.pp_flow_law.proofs.Told.{found_alone}
use Rattle.pp_flow_law.specs.Changes.{left_by as flow_left}
use Rattle.pp_flow_law.specs.Tables.{Leaving, ShowsFlow}
use Rattle.pp_law.specs.Closing.{forsake, is_of, leave}
use Rattle.pp_law.specs.Connections.{is_client}
use Rattle.pp_law.specs.Lists.{Bytes}
use Rattle.pp_law.specs.State.{State, Client, Exchange}
use Rattle.pp_peers.specs.declared.peers.Peer.{Peer}
use Rattle.pp_seats.specs.declared.seat.Seat.{Seat}
use Rattle.pp_states_law.proofs.Decided.{leaves as states_leave}
use Rattle.pp_states_law.proofs.Lines.{same_itself}
use Rattle.pp_states_law.specs.Decisions.{AsksOnce}
use Rattle.pp_states_law.specs.States.{ShowsState}
use Rattle.pp_state.specs.Ends.{Parts, asked_by, exchange_at, exchange_of, left_at_decision, left_by}
use Rattle.pp_states_law.proofs.Told.{told_left, told_over}
use Rattle.pp_states_law.specs.Steps.{ShowsSteps, whole}
use Rattle.pp_states_law.specs.Told.{AreTold}
use Rattle.pp_turns_law.specs.Decides.{IsAtPlace, LeavesAreTheLaws}

-- ---- the exchange that a client asks has its number alone

entry_is : (number : ℕ → ℕ) (l : Leaving) (f : Exchanges) (s : State) → ShowsFlow number l f s → (c : ℕ) (x : Entry) → first_of (find (is_asked_by c) f.waiting) (find (is_asked_by c) f.placed) ≡ Some x → entry_of x.exchange.number f ≡ Some x
entry_is number l f s shows c x is = by (find (is_asked_by c) f.waiting) refl is
  where
    n : ℕ
    n = x.exchange.number

    by : (o : Option Entry) → find (is_asked_by c) f.waiting ≡ o → first_of o (find (is_asked_by c) f.placed) ≡ Some x → entry_of n f ≡ Some x
    by None none there =
        let placed : find (is_number n) f.placed ≡ Some x = found_alone (is_number n) (is_asked_by c) f.placed x there (same_itself n) (few_placed number l f s shows n) in
        entry_placed n f x (none_waits number l f s shows n x placed) placed
    by (Some y) found there = entry_waiting n f x (found_alone (is_number n) (is_asked_by c) f.waiting x (found ∙ there) (same_itself n) (few_waiting number l f s shows n))

-- ---- what becomes of it

abbrev by_place : ℕ → Exchanges → Option ℕ → Exchanges
by_place n f place = elim place as (λ o. Exchanges) [
  | None ↦ record f { waiting = without n f.waiting; placed = without n f.placed }
  | Some k ↦ record f { waiting = changed n nobodys f.waiting; placed = changed n nobodys f.placed }
]

abbrev by_entry : Exchanges → Option Entry → Exchanges
by_entry f o = elim o as (λ t. Exchanges) [ None ↦ f | Some x ↦ by_place x.exchange.number f x.exchange.place ]

abbrev by_exchange : Parts → Option Asked → Parts
by_exchange p o = elim o as (λ t. Parts) [ None ↦ p | Some e ↦ left_by e p ]

placed_as : (e : Asked) (p : Parts) (place : Option ℕ) → e.place ≡ place → left_by e p ≡ record p { flow = by_place e.number p.flow place }
placed_as e p None is = ap (λ (o : Option ℕ). elim o as (λ t. Parts) [
  | None ↦ record p { flow = record p.flow { waiting = without e.number p.flow.waiting; placed = without e.number p.flow.placed } }
  | Some k ↦ record p { flow = record p.flow { waiting = changed e.number nobodys p.flow.waiting; placed = changed e.number nobodys p.flow.placed } }
]) is
placed_as e p (Some k) is = ap (λ (o : Option ℕ). elim o as (λ t. Parts) [
  | None ↦ record p { flow = record p.flow { waiting = without e.number p.flow.waiting; placed = without e.number p.flow.placed } }
  | Some k ↦ record p { flow = record p.flow { waiting = changed e.number nobodys p.flow.waiting; placed = changed e.number nobodys p.flow.placed } }
]) is

left_as : (number : ℕ → ℕ) (l : Leaving) (p : Parts) (s : State) → ShowsFlow number l p.flow s → (c : ℕ) (o : Option Entry) → first_of (find (is_asked_by c) p.flow.waiting) (find (is_asked_by c) p.flow.placed) ≡ o
    → by_exchange p (option_and_then (λ number. exchange_at number p.flow) (option_map (λ x. x.exchange.number) o)) ≡ record p { flow = by_entry p.flow o }
left_as number l p s shows c None is = refl
left_as number l p s shows c (Some x) is =
    ap (λ (o : Option Entry). by_exchange p (option_map (λ (y : Entry). y.exchange) o)) (entry_is number l p.flow s shows c x is)
    ∙ placed_as x.exchange p x.exchange.place refl

-- the request of the client at a place
pub left_is : (number : ℕ → ℕ) (l : Leaving) (p : Parts) (s : State) → ShowsFlow number l p.flow s → (i : ℕ) (seat : Seat) → slice_get p.seats i ≡ Some seat → left_at_decision i p ≡ record p { flow = flow_left seat.client.id p.flow }
left_is number l p s shows i seat here =
    let asked : Option Entry = first_of (find (is_asked_by seat.client.id) p.flow.waiting) (find (is_asked_by seat.client.id) p.flow.placed) in
    ap (λ (o : Option Seat). by_exchange p (option_and_then (λ (x : Seat). option_and_then (λ number. exchange_at number p.flow) (asked_by x.client.id p.flow)) o)) here
    ∙ left_as number l p s shows seat.client.id asked refl

-- ---- in all

left_next : (test : Exchange → Bool) (s : State) → (leave test s).next_instance ≡ s.next_instance
unfolding leave forsake
left_next test s = refl

told_by : (number : ℕ → ℕ) (p : Parts) (next : ℕ) (f : Exchanges) (o : Option Entry) → AreTold number p.cache next f → AreTold number p.cache next (by_entry f o)
told_by number p next f None told = told
told_by number p next f (Some x) told = by x.exchange.place
  where
    by : (place : Option ℕ) → AreTold number p.cache next (by_place x.exchange.number f place)
    by None = told_over number p.cache next x.exchange.number f told
    by (Some k) = told_left number p.cache next x.exchange.number f told

pub told_by_left : (number : ℕ → ℕ) (p : Parts) (next c : ℕ) → AreTold number p.cache next p.flow → AreTold number p.cache next (flow_left c p.flow)
told_by_left number p next c told = told_by number p next p.flow (first_of (find (is_asked_by c) p.flow.waiting) (find (is_asked_by c) p.flow.placed)) told

-- no number is given
pub flow_number : (c : ℕ) (f : Exchanges) → (flow_left c f).begun ≡ f.begun
flow_number c f = by (first_of (find (is_asked_by c) f.waiting) (find (is_asked_by c) f.placed))
  where
    at : (n : ℕ) (place : Option ℕ) → (by_place n f place).begun ≡ f.begun
    at n None = refl
    at n (Some k) = refl

    by : (o : Option Entry) → (by_entry f o).begun ≡ f.begun
    by None = refl
    by (Some x) = at x.exchange.number x.exchange.place

pub leaves_by : (number : ℕ → ℕ) (name : Bytes) (l : Leaving) (peers : List Peer) (p : Parts) (s : State) → ShowsSteps number name l peers p s → (i : ℕ) (seat : Seat) → slice_get p.seats i ≡ Some seat → AsksOnce seat.client.id s
    → ShowsSteps number name l peers (left_at_decision i p) (leave (is_of seat.client.id) s)
leaves_by number name l peers p s steps i seat here asks =
    let c : ℕ = seat.client.id in
    subst (λ (q : Parts). ShowsSteps number name l peers q (leave (is_of c) s)) (sym (left_is number l p s steps.shows.exchanges i seat here)) (record {
      shows = states_leave number name [] l (whole p peers) s steps.shows c asks;
      order = steps.order;
      told = subst (λ (n : ℕ). AreTold number p.cache n (flow_left c p.flow)) (sym (left_next (is_of c) s)) (told_by_left number p s.next_instance c steps.told);
      refused = steps.refused;
    })

pub leaves : LeavesAreTheLaws
leaves number name l peers p s steps i seat c place asks =
    let same : seat.client.id ≡ c.number = sym (is_same c.number seat.client.id (find_passes (is_client seat.client.id) s.clients c place.there)) in
    subst (λ (n : ℕ). ShowsSteps number name l peers (left_at_decision i p) (leave (is_of n) s)) same
    (leaves_by number name l peers p s steps i seat place.here (subst (λ (n : ℕ). AsksOnce n s) (sym same) asks))
