-- Places, what is not seen, marks, the clock and the end of a turn keep it.
use Rattle.std.proofs.Common.{◌≡◌, refl, ℕ, max, Bool, true, false, ◌&&◌, not, List, [], ◌∷◌, map, Option, Some, None, ap, subst, sym, ◌∙◌, le_refl}
use Rattle.pp_peers.specs.declared.placing.Placed.{Placed}
use Rattle.pp_peers.specs.declared.placing.Placed.TheVariants.{On, Dial, CloseThenDial, Wait}
use Rattle.pp_world.specs.declared.event.Wants.{Wants}
use Rattle.pp_law.specs.Connections.{Placement, WaitsDial, WaitsDrop, exchange, front_of_line, if_unplaced, is_exchange, place_each, place_for, placing, put_on}
use Rattle.pp_law.specs.Offers.{has_to_say}
use Rattle.pp_law.specs.Stages.{bound_in, bound_of, is_pending}
use Rattle.pp_law.specs.State.{State, Body, Bound, Pending, Joining, Relaying, Dropping, Client, Conn, Exchange}
use Rattle.pp_law.specs.Turn.{close_idle_conn, end_patience, is_idle_conn, is_leap, marked_client, marked_conn, marks_anew, owes_answer, renew_marks, rest_with, rested_client, rested_instance, tick, tick_to, touch, waits_for_exchange, woken_client}
use Rattle.pp_law.specs.Unseen.{drop_on, drop_unseen, furthest_at, is_unseen, rested_exchange, wanted_to}
use Rattle.pp_laws.specs.Runs.{IsIn}
use Rattle.pp_laws.proofs.Lists.{in_find}
use Rattle.pp_laws_turn.proofs.Cases.{each_of, each_so, when}
use Rattle.pp_laws_turn.proofs.Lined.{placing_puts}
use Rattle.pp_laws_turn.proofs.Rows.{rows_mapped}
use Rattle.pp_laws_turn.proofs.View.{Holds, facts_of, holds, view}
use Rattle.pp_laws_coming.proofs.Pieces.{front_in}
use Rattle.pp_laws_coming.proofs.Asks.{SameAsk, as_it_was, ask_same, asks_come, same_bound}
use Rattle.pp_laws_coming.proofs.Attempts.{alike, alike_left, fail-comes}
use Rattle.pp_laws_coming.proofs.Clients.{all_clients-comes, end_exchange-comes, on_client-comes, on_exchange-comes}
use Rattle.pp_laws_coming.proofs.Facts.{Coming, Early, rows}
use Rattle.pp_laws_coming.proofs.Lost.{close_conn-comes, close_conn-early, each_conn-comes, on_conn-comes}
use Rattle.pp_laws_coming.proofs.Stays.{Goes, clients_come, goes_as, goes_on}

-- ---- places

placed_ask : {late : Bool} → (k : ℕ) (e : Exchange) → SameAsk late (record e { place = Some k; asked = 0 }) e
placed_ask k e = record {
  number = refl;
  fills = refl;
  asker = λ n is. is;
  headed = refl;
  placed = λ is was none. cc none;
  asked = λ was none. refl;
  key = refl;
  left = le_refl e.body_left;
  bound = same_bound _ e refl;
  followers = λ counts was nowhere nobody. cc nowhere;
}

pub put_on-comes : {late : Bool} → (n k : ℕ) (s : State) → Holds (Coming late) s → Holds (Coming late) (put_on n k s)
unfolding put_on
put_on-comes n k s h = on_conn-comes k _ _ (on_exchange-comes n (λ e. record e { place = Some k; asked = 0 }) s (λ e i hit. placed_ask k e) h)

pub placing-comes : {late : Bool} → (s : State) → Holds (Coming late) s → Holds (Coming late) (placing s).state
placing-comes {late} s h = placing_puts (Holds (Coming late)) (λ n k e t found is ht. put_on-comes n k t ht) s h

-- what a connection is dialled for is there
dial_there : (ns : List ℕ) (s : State) (d : Exchange) → (place_each ns s).pause ≡ WaitsDial d → IsIn d (place_each ns s).state.exchanges
dial_there [] s d is = absurd (cc is)
dial_there (n ∷ ns) s d is = by (λ t at. dial_there ns t d at) (exchange s n) refl is
  where
    at_place : Exchange → Placed → Placement
    at_place e p = elim p as (λ c. Placement) [
      | On k ↦ place_each ns (put_on n k s)
      | Wait ↦ place_each ns s
      | Dial ↦ record { state = s; pause = WaitsDial e }
      | CloseThenDial k ↦ record { state = s; pause = WaitsDrop k e }
    ]

    dialled : (e : Exchange) → WaitsDial e ≡ WaitsDial d → IsIn e s.exchanges → IsIn d s.exchanges
    dialled e same i = let one : e ≡ d = cc same in subst (λ (x : Exchange). IsIn x s.exchanges) one i

    Later : Type 0
    Later = (t : State) → (place_each ns t).pause ≡ WaitsDial d → IsIn d (place_each ns t).state.exchanges

    placed_by : Later → (e : Exchange) (p : Placed) → IsIn e s.exchanges → (at_place e p).pause ≡ WaitsDial d → IsIn d (at_place e p).state.exchanges
    placed_by later e (On k) i at = later (put_on n k s) at
    placed_by later e Wait i at = later s at
    placed_by later e Dial i at = dialled e at i
    placed_by later e (CloseThenDial k) i at = absurd (cc at)

    at_next : Option Exchange → Placement
    at_next o = elim o as (λ c. Placement) [ None ↦ place_each ns s | Some e ↦ at_place e (place_for s e) ]

    if_none : Later → (e : Exchange) (place : Option ℕ) → IsIn e s.exchanges → (at_next (elim place as (λ c. Option Exchange) [ Some k ↦ None | None ↦ Some e ])).pause ≡ WaitsDial d
        → IsIn d (at_next (elim place as (λ c. Option Exchange) [ Some k ↦ None | None ↦ Some e ])).state.exchanges
    if_none later e (Some k) i at = later s at
    if_none later e None i at = placed_by later e (place_for s e) i at

    by : Later → (o : Option Exchange) → exchange s n ≡ o → (at_next (elim o as (λ c. Option Exchange) [ None ↦ None | Some e ↦ if_unplaced e ])).pause ≡ WaitsDial d
        → IsIn d (at_next (elim o as (λ c. Option Exchange) [ None ↦ None | Some e ↦ if_unplaced e ])).state.exchanges
    by later None found at = later s at
    by later (Some e) found at = if_none later e e.place (in_find (is_exchange n) e s.exchanges found).0 at

pub placing_there : (s : State) (d : Exchange) → (placing s).pause ≡ WaitsDial d → IsIn d (placing s).state.exchanges
placing_there s d is = dial_there _ s d is

-- ---- what is not seen

drop_on-comes : {late : Bool} → (k : Conn) (s : State) → Holds (Coming late) s → Holds (Coming late) (drop_on k s)
unfolding drop_on
drop_on-comes k s h = each_of (front_of_line s k) h (λ e. when (is_unseen s k e) (close_conn-comes false k _ (λ is. absurd (cc is)) (end_exchange-comes e.number s h)) h)

pub drop_unseen-comes : {late : Bool} → (s : State) → Holds (Coming late) s → Holds (Coming late) (drop_unseen s)
unfolding drop_unseen
drop_unseen-comes s h = each_conn-comes drop_on drop_on-comes _ s h

-- ---- marks, and the clock

pub touch-comes : (n : ℕ) (s : State) → Holds Early s → Holds Early (touch n s)
unfolding touch
touch-comes n s h = on_conn-comes n (marked_conn s.clock) _ (on_client-comes n (marked_client s.clock) s (λ c. refl) (λ c i hit. goes_as _ c refl refl refl refl refl) h)

marks_anew-comes : (now : ℕ) (s : State) → Holds Early s → Holds Early (marks_anew now s)
unfolding marks_anew
marks_anew-comes now s h = when (is_leap now s) marked h
  where
    marked : Holds Early (record s { has_ticked = true; clients = map (marked_client now) s.clients; conns = map (marked_conn now) s.conns })
    marked = holds (facts_of (all_clients-comes (marked_client now) s (λ c. goes_as _ c refl refl refl refl refl) h))

end_patience-comes : (k : Conn) (s : State) → Holds Early s → Holds Early (end_patience k s)
unfolding end_patience
end_patience-comes k s h = when_not (owes_answer s k) h (each_so (front_of_line s k) (λ none. h) (λ e front. fail-comes e s (alike_left e s.exchanges (alike e s (front_in s k e front) h)) h))
  where
    when_not : (t : Bool) {x y : State} → Holds Early x → Holds Early y → Holds Early (elim t as (λ c. State) [ false ↦ x | true ↦ y ])
    when_not false hx hy = hx
    when_not true hx hy = hy

close_idle_conn-comes : (k : Conn) (s : State) → Holds Early s → Holds Early (close_idle_conn k s)
unfolding close_idle_conn
close_idle_conn-comes k s h = when (is_idle_conn s k) (close_conn-early true k _ (end_patience-comes k s h)) h

woken_goes : (now : ℕ) (s : State) (c : Client) → Goes (woken_client now s c) c
woken_goes now s c = by (waits_for_exchange s c && not (has_to_say s c))
  where
    by : (t : Bool) → Goes (elim t as (λ d. Client) [ true ↦ marked_client now c | false ↦ c ]) c
    by true = goes_as _ c refl refl refl refl refl
    by false = goes_on c

renew_marks-comes : (now : ℕ) (s : State) → Holds Early s → Holds Early (renew_marks now s)
unfolding renew_marks
renew_marks-comes now s h = all_clients-comes (woken_client now s) s (woken_goes now s) h

tick_to-comes : (now : ℕ) (s : State) → Holds Early s → Holds Early (tick_to now s)
unfolding tick_to
tick_to-comes now s h = each_conn-comes close_idle_conn close_idle_conn-comes _ _ marked
  where
    marked : Holds Early (record (renew_marks now (marks_anew now s)) { clock = now; is_ticked = true; has_lost_draft = false })
    marked = holds (facts_of (renew_marks-comes now _ (marks_anew-comes now s h)))

pub tick-comes : (now : ℕ) (s : State) → Holds Early s → Holds Early (tick now s)
unfolding tick
tick-comes now s h = tick_to-comes (max s.clock now) s h

-- ---- the end of a turn

wanted_same : (s : State) (b : Bound) → (wanted_to s b).instance ≡ b.instance
wanted_same s b = by (furthest_at s b)
  where
    by : (o : Option ℕ) → (elim o as (λ x. Bound) [ None ↦ b | Some at ↦ record b { wanted = at } ]).instance ≡ b.instance
    by None = refl
    by (Some at) = refl

rested_ask : (s : State) (e : Exchange) → SameAsk false (rested_exchange s e) e
rested_ask s e = by e.body refl
  where
    its : (b to : Bound) → e.body ≡ Joining b → bound_of e ≡ Some to → (wanted_to s b).instance ≡ to.instance
    its b to is at =
        let both : Some b ≡ Some to = sym (ap bound_in is) ∙ at in
        let one : b ≡ to = cc both in
        wanted_same s b ∙ ap (λ (y : Bound). y.instance) one

    by : (body : Body) → e.body ≡ body → SameAsk false (elim (bound_in body) as (λ c. Exchange) [ None ↦ e | Some b ↦ record e { body = Joining (wanted_to s b) } ]) e
    by Pending is = ask_same e
    by Relaying is = ask_same e
    by Dropping is = ask_same e
    by (Joining b) is = as_it_was _ e refl refl refl (sym (ap (λ (x : Body). not (is_pending x)) is)) refl refl (le_refl e.body_left) (λ to at. record { to = wanted_to s b; is = refl; instance = its b to is at }) (λ was. was)

pub rest_with-comes : (w : Wants) (s : State) → Holds Early s → Holds Early (rest_with w s)
unfolding rest_with
rest_with-comes w s h =
    holds
    (rows (map rested_instance s.instances) s.next_instance (record (view s) { clients = map (rested_client s) s.clients; exchanges = map (rested_exchange s) s.exchanges })
    (rows_mapped (record (view s) { clients = map (rested_client s) s.clients; exchanges = map (rested_exchange s) s.exchanges }) rested_instance (λ x. record { id = refl; key = refl; is_new = λ is. absurd (cc is); retired = λ is. is }))
    (asks_come None (rested_exchange s) (map (rested_client s) s.clients) s.exchanges s.next_exchange s.instances s.next_instance (λ e i. rested_ask s e)
    (clients_come None (rested_client s) s.clients s.exchanges s.next_exchange s.instances s.next_instance (λ c. refl) (λ c i. goes_as _ c refl refl refl refl refl) (facts_of h))))
