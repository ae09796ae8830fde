-- The phases of a turn, its clock and its end keep the bounds.
use Rattle.std.proofs.Common.{◌≡◌, refl, ℕ, max, Bool, true, false, List, [], ◌∷◌, map, Option, Some, None, ap, is_some, ◌||◌}
use Rattle.pp_world.specs.declared.event.Wants.{Wants}
use Rattle.pp_law.specs.Connections.{front_of_line, put_on, placing, on_conn, on_exchange, is_exchange}
use Rattle.pp_law.specs.Lists.{is_this}
use Rattle.pp_law.specs.Opening.{is_at, is_same_phase}
use Rattle.pp_law.specs.Phases.{phases, in_phase, behind, next, is_done, come, come_to, decides, come_to_decide, deciding, ending}
use Rattle.pp_law.specs.Stages.{bound_of}
use Rattle.pp_law.specs.State.{State, Phase, Before, IsWoken, IsConfigured, IsRooted, IsListed, IsListening, IsStuck, Awaiting, Handling, Evicting, Keeping, Deciding, Following, Connecting, DecidingAgain, Bound, Joining, Conn, Exchange, Free}
use Rattle.pp_law.specs.Turn.{marked_client, marked_conn, touch, is_leap, marks_anew, is_idle_conn, owes_answer, end_patience, close_idle_conn, woken_client, renew_marks, tick_to, tick, rested_client, rest_with, rested_instance}
use Rattle.pp_law.specs.Unseen.{wanted_to, rested_exchange, is_unseen, drop_on, drop_unseen}
use Rattle.pp_laws_bounds.proofs.SmallCases.{each_of, when}
use Rattle.pp_laws_bounds.proofs.Changes.{SameConn}
use Rattle.pp_laws_bounds.proofs.SmallChanges.{NotBound, clients_mapped, exchanges_changed, same_body, exchanges_mapped, instances_mapped}
use Rattle.pp_laws_bounds.proofs.SmallClients.{begin_replies-small, fill-small, give_up_asks-small}
use Rattle.pp_laws_bounds.proofs.SmallClosings.{close_conn-small}
use Rattle.pp_laws_bounds.proofs.SmallDisk.{rephased}
use Rattle.pp_laws_bounds.proofs.SmallExchanges.{each_conn-small, end_exchange-small, fail-small, on_client-small, on_conn-small}
use Rattle.pp_laws_bounds.proofs.Small.{As, FactsOf, Small, counts_as_bound, facts_of, small}
use Rattle.pp_laws_bounds.proofs.Places.{placing-any}

pub put_on-small : {a : As} (n k : ℕ) (s : State) → Small a s → Small a (put_on n k s)
unfolding put_on on_conn on_exchange
put_on-small {a} n k s h = small (exchanges_changed a s (is_exchange n) (λ e. record e { place = Some k; asked = 0 }) (same_body (λ e. record e { place = Some k; asked = 0 }) (λ x. refl) (λ x. refl)) (facts_of h))

pub placing-small : {a : As} (s : State) → Small a s → Small a (placing s).state
placing-small {a} s h = placing-any (Small a) (λ n k t ht. put_on-small n k t ht) s h

drop_on-small : {a : As} (k : Conn) (s : State) → Small a s → Small a (drop_on k s)
unfolding drop_on
drop_on-small k s h =
    each_of (front_of_line s k) h
    (λ e. when (is_unseen s k e) (close_conn-small false k _ (end_exchange-small e.number s h)) h)

drop_unseen-small : {a : As} (s : State) → Small a s → Small a (drop_unseen s)
unfolding drop_unseen
drop_unseen-small s h = each_conn-small drop_on (λ k t there ht. drop_on-small k t ht) _ s h

-- ---- phases

pub in_phase-small : {a : As} (phase : Phase) (s : State) → is_same_phase Awaiting phase ≡ false → Small a s → Small a (in_phase phase s)
in_phase-small phase s apart h = rephased phase s apart h

behind-small : {a : As} (phase : Phase) (s : State) → Small a s → Small a (behind phase s)
behind-small Before s h = h
behind-small IsWoken s h = h
behind-small IsConfigured s h = h
behind-small IsRooted s h = h
behind-small IsListed s h = h
behind-small IsListening s h = h
behind-small IsStuck s h = h
behind-small Awaiting s h = h
behind-small Handling s h = in_phase-small Evicting s refl h
behind-small Evicting s h = give_up_asks-small _ (in_phase-small Keeping s refl h)
behind-small Keeping s h = in_phase-small Deciding s refl h
behind-small Deciding s h = in_phase-small Following s refl h
behind-small Following s h = fill-small _ (give_up_asks-small _ (drop_unseen-small _ (in_phase-small Connecting s refl h)))
behind-small Connecting s h = placing-small _ (in_phase-small DecidingAgain s refl h)
behind-small DecidingAgain s h = h

next-small : {a : As} (s : State) → Small a s → Small a (next s)
unfolding next
next-small s h = behind-small s.phase s h

come-small : {a : As} (stops : State → Bool) (ps : List Phase) (s : State) → Small a s → Small a (come stops ps s)
unfolding come
come-small stops [] s h = h
come-small stops (p ∷ ps) s h = come-small stops ps _ (when (is_at p s) (when (stops s) h (when (is_done s) (next-small s h) h)) h)

pub come_to-small : {a : As} (phase : Phase) (s : State) → Small a s → Small a (come_to phase s)
unfolding come_to
come_to-small phase s h = come-small (is_at phase) phases s h

pub come_to_decide-small : {a : As} (s : State) → Small a s → Small a (come_to_decide s)
unfolding come_to_decide
come_to_decide-small s h = come-small decides phases s h

pub deciding-small : {a : As} (s : State) → Small a s → Small a (deciding s)
unfolding deciding
deciding-small s h = in_phase-small Deciding _ refl (come_to_decide-small s h)

-- ---- marks, and the clock

alike : (k j : Conn) → k.number ≡ j.number → k.host ≡ j.host → k.port ≡ j.port → k.line ≡ j.line → k.is_closing ≡ j.is_closing → SameConn k j
alike k j number host port line closing = record { number = number; host = host; port = port; line = line; closing = closing }

pub touch-small : {a : As} (n : ℕ) (s : State) → Small a s → Small a (touch n s)
unfolding touch
touch-small n s h = on_conn-small n (marked_conn s.clock) _ (λ k. alike _ k refl refl refl refl refl) (on_client-small n (marked_client s.clock) s h)

marks_anew-small : {a : As} (now : ℕ) (s : State) → Small a s → Small a (marks_anew now s)
unfolding marks_anew
marks_anew-small {a} now s h = when (is_leap now s) (small (clients_mapped a (record s { conns = map (marked_conn now) s.conns }) (marked_client now) (facts_of h))) h

end_patience-small : {a : As} (k : Conn) (s : State) → Small a s → Small a (end_patience k s)
unfolding end_patience
end_patience-small {a} k s h = when_not (owes_answer s k) h (each_of (front_of_line s k) h (λ e. fail-small e s h))
  where
    when_not : (t : Bool) {x y : State} → Small a x → Small a y → Small a (elim t as (λ c. State) [ false ↦ x | true ↦ y ])
    when_not false hx hy = hx
    when_not true hx hy = hy

close_idle_conn-small : {a : As} (k : Conn) (s : State) → Small a s → Small a (close_idle_conn k s)
unfolding close_idle_conn
close_idle_conn-small k s h = when (is_idle_conn s k) (close_conn-small true k _ (end_patience-small k s h)) h

renew_marks-small : {a : As} (now : ℕ) (s : State) → Small a s → Small a (renew_marks now s)
unfolding renew_marks
renew_marks-small {a} now s h = small (clients_mapped a s (woken_client now s) (facts_of h))

tick_to-small : {a : As} (now : ℕ) (s : State) → Small a s → Small a (tick_to now s)
unfolding tick_to
tick_to-small {a} now s h = each_conn-small close_idle_conn (λ k t there ht. close_idle_conn-small k t ht) _ _ marked
  where
    marked : Small a (record (renew_marks now (marks_anew now s)) { clock = now; is_ticked = true; has_lost_draft = false })
    marked = small (facts_of (renew_marks-small now _ (marks_anew-small now s h)))

pub tick-small : {a : As} (now : ℕ) (s : State) → Small a s → Small a (tick now s)
unfolding tick
tick-small now s h = tick_to-small (max s.clock now) s h

pub ending-small : {a : As} (s : State) → Small a s → Small a (ending s)
unfolding ending
ending-small s h = begin_replies-small _ (come_to-small DecidingAgain s h)

rested_counts : (s : State) → NotBound (rested_exchange s)
rested_counts s expects e is = by (bound_of e) refl is
  where
    by : (o : Option Bound) → bound_of e ≡ o → counts_as_bound expects (elim o as (λ c. Exchange) [ None ↦ e | Some b ↦ record e { body = Joining (wanted_to s b) } ]) ≡ true → counts_as_bound expects e ≡ true
    by None none at = at
    by (Some b) some at = ap (λ o. is_some o || is_this e.number expects) some

-- where nobody said Stop, and nothing is owed
awaited : {a : As} (s : State) → a.stopped ≡ false → FactsOf a s → FactsOf a (record s { phase = Awaiting; owed = Free })
awaited s going h = record {
  said = h.said;
  rests = λ is. refl;
  awaits = λ at. (refl, going);
  few_clients = h.few_clients;
  few_bound = h.few_bound;
  expected = h.expected;
  few_rows = h.few_rows;
  differ = h.differ;
  given = h.given;
}

pub rest_with-small : {a : As} (w : Wants) (s : State) → a.stopped ≡ false → Small a s → Small a (rest_with w s)
unfolding rest_with
rest_with-small {a} w s going h =
    let one = clients_mapped a s (rested_client s) (facts_of h) in
    let two = exchanges_mapped a (record s { clients = map (rested_client s) s.clients }) (rested_exchange s) (rested_counts s) one in
    let three = instances_mapped a (record s { clients = map (rested_client s) s.clients; exchanges = map (rested_exchange s) s.exchanges }) rested_instance (λ x. refl) (λ x is. is) two in
    small (awaited (record s { clients = map (rested_client s) s.clients; exchanges = map (rested_exchange s) s.exchanges; instances = map rested_instance s.instances }) going three)
