-- Behind asks that are given up no exchange is nobody's and nowhere, and none began meanwhile.
use Rattle.std.proofs.Common.{◌≡◌, refl, subst, ap, ℕ, Bool, true, false, ◌==◌, List, [], ◌∷◌, Option, Some, None}
use Rattle.std.specs.List.{list_any}
use Rattle.pp_law.specs.Closing.{is_over, leave_one, left_alone}
use Rattle.pp_law.specs.Connections.{each_exchange, end_exchange, exchange, lose_attempt, on_client, on_exchange}
use Rattle.pp_law.specs.Followers.{give_up_asks}
use Rattle.pp_law.specs.Phases.{in_phase}
use Rattle.pp_law.specs.State.{State, Client, Exchange, Term, Connecting, Deciding}
use Rattle.pp_law.specs.Unseen.{drop_unseen}
use Rattle.pp_laws_coming.proofs.Facts.{Coming}
use Rattle.pp_laws_coming.proofs.Filled.{give_up_asks-comes}
use Rattle.pp_laws_coming.proofs.Laws.{coming_on, told_at}
use Rattle.pp_laws_coming.proofs.Phases.{at_of, at_so}
use Rattle.pp_laws_coming.proofs.Steps.{drop_unseen-comes}
use Rattle.pp_laws_turn.proofs.Clients.{give_up_asks-keeps}
use Rattle.pp_laws_turn.proofs.Exchanges.{end_exchange-keeps, lose_attempt-keeps}
use Rattle.pp_laws_turn.proofs.Steps.{drop_unseen-keeps}
use Rattle.pp_laws_turn.proofs.View.{Holds, View, Walk, facts_of, holds, is_late}
use Rattle.pp_obeys.specs.Obeys.{Obeys}
use Rattle.pp_world.specs.Log.{Log}

-- ---- none is nobody's and nowhere

pub none_over : (terms : List Term) (log : Log) (s : State) → Obeys terms s log → s.phase ≡ Deciding → list_any is_over (give_up_asks (drop_unseen (in_phase Connecting s))).exchanges ≡ false
none_over terms log s obeys at =
    let late : Holds (Coming true) s = subst (λ (b : Bool). Holds (Coming b) s) (ap is_late at) (at_of s (coming_on terms s log obeys)) in
    let now : Holds (Coming true) (in_phase Connecting s) = holds (facts_of late) in
    let behind : Holds (Coming true) (give_up_asks (drop_unseen (in_phase Connecting s))) = give_up_asks-comes (drop_unseen (in_phase Connecting s)) (drop_unseen-comes (in_phase Connecting s) now) in
    let there : Holds (Coming true) (in_phase Connecting (give_up_asks (drop_unseen (in_phase Connecting s)))) = holds (facts_of behind) in
    (told_at (in_phase Connecting (give_up_asks (drop_unseen (in_phase Connecting s)))) (at_so true (in_phase Connecting (give_up_asks (drop_unseen (in_phase Connecting s)))) refl there)).going refl

-- ---- how many began

abbrev Begun : ℕ → View → Type 0
Begun k v = v.next_exchange ≡ k

left_one : (k : ℕ) (e : Exchange) (s : State) → s.next_exchange ≡ k → (leave_one e s).next_exchange ≡ k
unfolding leave_one end_exchange on_exchange
left_one k e s so = by (e.asked == 0)
  where
    by : (b : Bool) → (elim b as (λ t. State) [ true ↦ end_exchange e.number s | false ↦ on_exchange e.number left_alone s ]).next_exchange ≡ k
    by true = so
    by false = so

each_left : (k : ℕ) (ns : List ℕ) (s : State) → s.next_exchange ≡ k → (each_exchange leave_one ns s).next_exchange ≡ k
unfolding each_exchange
each_left k [] s so = so
each_left k (n ∷ ns) s so = each_left k ns (elim (exchange s n) as (λ t. State) [ None ↦ s | Some e ↦ leave_one e s ]) (by (exchange s n))
  where
    by : (o : Option Exchange) → (elim o as (λ t. State) [ None ↦ s | Some e ↦ leave_one e s ]).next_exchange ≡ k
    by None = so
    by (Some e) = left_one k e s so

closed : (k n : ℕ) (f : Client → Client) (ns : List ℕ) (s : State) → s.next_exchange ≡ k → (each_exchange leave_one ns (on_client n f s)).next_exchange ≡ k
unfolding on_client
closed k n f ns s so = each_left k ns (on_client n f s) so

-- as many as before
same_walk : (k : ℕ) → Walk (Begun k)
same_walk k = record {
  clients = λ f same v so. so;
  asks = λ f v each so. so;
  left = λ test v so. so;
  over = λ test v so. so;
  conns = λ f same v so. so;
  rows = λ xs next v from so. so;
  leaves = λ n f moves v so. so;
  closes = λ n f number closing body brought s so. closed k n f _ s so;
  tells = λ test b v in_it so. so;
}

pub none_begins : (s : State) → (give_up_asks (drop_unseen (in_phase Connecting s))).next_exchange ≡ s.next_exchange
none_begins s =
    facts_of (give_up_asks-keeps {P = Begun s.next_exchange} (same_walk s.next_exchange) (drop_unseen (in_phase Connecting s))
    (drop_unseen-keeps {P = Begun s.next_exchange} (same_walk s.next_exchange) (in_phase Connecting s) (holds refl)))

pub none_begins_behind : (e : Exchange) (s : State) → (end_exchange e.number (lose_attempt e s)).next_exchange ≡ s.next_exchange
none_begins_behind e s =
    facts_of (end_exchange-keeps {P = Begun s.next_exchange} (same_walk s.next_exchange) e.number (lose_attempt e s) (lose_attempt-keeps {P = Begun s.next_exchange} (same_walk s.next_exchange) e s (holds refl)))
