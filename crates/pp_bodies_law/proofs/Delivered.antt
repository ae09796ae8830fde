-- Data of a response that came: they join the instance of the law, and go into the pipe of the law's client.
use Rattle.std.proofs.Common.{◌≡◌, ◌+◌, ◌-◌, ◌^◌, refl, sym, subst, ap, ◌∙◌, ℕ, min, find, List, length, Option, Some, None, option_map}
use Rattle.pp_cache.specs.Memory.{Memory}
use Rattle.pp_flow.specs.Changes.{Exchanges, entry_of, with_errand}
use Rattle.pp_flow.specs.declared.entry.Entry.{Entry}
use Rattle.pp_flow.specs.declared.entry.Exchange.{Exchange as Asking}
use Rattle.pp_flow.specs.declared.errand.Body.{Body as ErrandBody}
use Rattle.pp_flow.specs.declared.errand.Body.TheVariants.{Pending as IsPending, Joining as IsJoining, Relaying as IsRelaying, Dropping as IsDropping}
use Rattle.pp_flow_law.proofs.Errands.{errands}
use Rattle.pp_flow_law.proofs.Framed.{frames}
use Rattle.pp_flow_law.proofs.Noted.{drops_none, same_all}
use Rattle.pp_flow_law.proofs.Standing.{entry_placed, none_waits}
use Rattle.pp_flow_law.specs.Tables.{Leaving, ShowsFlow}
use Rattle.pp_law.specs.Connections.{is_client, on_exchange}
use Rattle.pp_law.specs.Lists.{Bytes}
use Rattle.pp_law.specs.OwnHeads.{join, join_bound, moved_on}
use Rattle.pp_law.specs.Passing.{pour, poured}
use Rattle.pp_law.specs.Stages.{bound_of}
use Rattle.pp_law.specs.State.{State, Bound, Exchange}
use Rattle.pp_seats.specs.declared.seat.Seat.{Seat}
use Rattle.pp_seats_law.specs.Exchanges.{ShowsExchange}
use Rattle.pp_state.specs.Bodies.{IsButForCells, delivered_for, joined, poured_for, with_dropped_in}
use Rattle.pp_state.specs.Ends.{exchange_at, parts}
use Rattle.pp_state.specs.Unseen.{drops_in, dropped_more, with_dropped}
use Rattle.pp_state.specs.declared.state.State.{State as Core}
use Rattle.pp_states_law.proofs.Told.{told_asked}
use Rattle.pp_states_law.specs.Steps.{ShowsSteps}
use Rattle.pp_states_law.specs.Told.{AreTold}
use Rattle.pp_bodies_law.proofs.Bytes.{pours_are}
use Rattle.pp_bodies_law.proofs.Joined.{bounds, join_clients, joins}
use Rattle.pp_bodies_law.specs.Bytes.{DeliversAreTheLaws}

-- ---- how much was dropped is no part of the law

errand_again : (number : ℕ → ℕ) (l : Leaving) (f : Exchanges) (s : State) → ShowsFlow number l f s → (k : ℕ) (x : Entry) → entry_of k f ≡ Some x → ShowsFlow number l (with_errand k x.errand f) s
unfolding on_exchange
errand_again number l f s shows k x here =
    frames number l (with_errand k x.errand f) (on_exchange k (λ e. e) s) (errands number l f s shows k x x.errand (λ e. e) here (λ e. (refl, refl)) (λ e one. one)) l s
    (record { exchanges = sym (same_all k s.exchanges); next = refl; lines = λ i. refl })

dropped_by : (number : ℕ → ℕ) (l : Leaving) (f : Exchanges) (s : State) → ShowsFlow number l f s → (k c : ℕ) (x : Entry) → entry_of k f ≡ Some x → (b : ErrandBody) → x.errand.body ≡ b
    → ShowsFlow number l (with_errand k (record x.errand { body = dropped_more c b }) f) s
dropped_by number l f s shows k c x here IsPending is = subst (λ (b : ErrandBody). ShowsFlow number l (with_errand k (record x.errand { body = b }) f) s) is (errand_again number l f s shows k x here)
dropped_by number l f s shows k c x here (IsJoining far) is = subst (λ (b : ErrandBody). ShowsFlow number l (with_errand k (record x.errand { body = b }) f) s) is (errand_again number l f s shows k x here)
dropped_by number l f s shows k c x here IsRelaying is = subst (λ (b : ErrandBody). ShowsFlow number l (with_errand k (record x.errand { body = b }) f) s) is (errand_again number l f s shows k x here)
dropped_by number l f s shows k c x here (IsDropping m) is = drops_none number l f s shows k m (min (m + c) (2 ^ 64 - 1)) x here is

drops : (number : ℕ → ℕ) (l : Leaving) (f : Exchanges) (s : State) → ShowsFlow number l f s → (k c : ℕ) → ShowsFlow number l (with_dropped k c f) s
drops number l f s shows k c = by (entry_of k f) refl
  where
    by : (o : Option Entry) → entry_of k f ≡ o → ShowsFlow number l (drops_in o k c f) s
    by None here = shows
    by (Some x) here = dropped_by number l f s shows k c x here x.errand.body refl

-- ---- data came

bound_clients : (d : Exchange) (bytes : Bytes) (s : State) → (join_bound d bytes s).clients ≡ s.clients
unfolding join_bound on_exchange
bound_clients d bytes s = by (bound_of d)
  where
    by : (o : Option Bound) → (elim o as (λ t. State) [ None ↦ s | Some b ↦ on_exchange d.number (moved_on (length bytes)) (join b bytes s) ]).clients ≡ s.clients
    by None = refl
    by (Some b) = join_clients b bytes s

told_dropped : (number : ℕ → ℕ) (m : Memory) (next k c : ℕ) (f : Exchanges) → AreTold number m next f → AreTold number m next (with_dropped k c f)
told_dropped number m next k c f told = by (entry_of k f)
  where
    by : (o : Option Entry) → AreTold number m next (drops_in o k c f)
    by None = told
    by (Some x) = told_asked number m next k (record x.errand { body = dropped_more c x.errand.body }) f told

pub delivers : DeliversAreTheLaws
delivers number name l peers p s shows new x d bytes fed fits seats has =
    subst (λ (xs : List Seat). ShowsSteps number name l peers (record (parts new) { seats = xs }) (pour d (poured bytes) t)) (sym (seats ∙ ap (λ (o : Option Asking). poured_for o bytes p.seats.items) asked))
    (pours_are number name l peers (record (parts mid) { flow = new.flow }) t noted x.exchange d bytes shown.asker
    (λ n c asks found. fits n c asks (sym (ap (λ cs. find (is_client n) cs) (bound_clients d bytes s)) ∙ found)))
  where
    t : State
    t = join_bound d bytes s

    after : Core
    after = joined x.exchange bytes p

    shown : ShowsExchange number x d
    shown = bounds number l p.flow s x d shows.shows.exchanges fed.placed fed.known

    asked : exchange_at x.exchange.number p.flow ≡ Some x.exchange
    asked = ap (λ (o : Option Entry). option_map (λ (e : Entry). e.exchange) o) (entry_placed x.exchange.number p.flow x (none_waits number l p.flow s shows.shows.exchanges x.exchange.number x fed.placed) fed.placed)

    came : IsButForCells (with_dropped_in x.exchange.number (length bytes) after) (record new { seats = p.seats })
    came = subst (λ (o : Option Asking). IsButForCells (delivered_for o x.exchange.number bytes p) (record new { seats = p.seats })) asked has

    mid : Core
    mid = record new { seats = p.seats; flow = after.flow }

    kept : IsButForCells after mid
    kept = record { rest = ap (λ (c : Core). record c { flow = after.flow }) came.rest; cache = came.cache }

    joining : ShowsSteps number name l peers (parts mid) t
    joining = joins number name l peers p s shows mid x d bytes fed kept

    noted : ShowsSteps number name l peers (record (parts mid) { flow = new.flow }) t
    noted = subst (λ (c : Core). ShowsSteps number name l peers (record (parts mid) { flow = c.flow }) t) (sym came.rest) (record {
      shows = record { clients = joining.shows.clients; exchanges = drops number l after.flow t joining.shows.exchanges x.exchange.number (length bytes); table = joining.shows.table; conns = joining.shows.conns };
      order = joining.order;
      told = told_dropped number new.cache t.next_instance x.exchange.number (length bytes) after.flow joining.told;
      refused = joining.refused;
    })
