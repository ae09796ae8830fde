-- The phases of a turn, its clock and its end keep what is sound.
use Rattle.std.proofs.Common.{◌≡◌, refl, ℕ, max, Bool, true, false, not, ◌&&◌, List, [], ◌∷◌, map, Option, Some, None, sym, ap, ◌∙◌}
use Rattle.pp_world.specs.declared.event.Wants.{Wants}
use Rattle.pp_law.specs.Connections.{front_of_line}
use Rattle.pp_law.specs.Offers.{has_to_say}
use Rattle.pp_law.specs.Opening.{is_at}
use Rattle.pp_law.specs.Phases.{phases, in_phase, behind, next, is_done, come, come_to, decides, come_to_decide, deciding, ending}
use Rattle.pp_law.specs.Stages.{bound_in, bound_of, is_pending}
use Rattle.pp_law.specs.State.{State, Phase, Before, IsWoken, IsConfigured, IsRooted, IsListed, IsListening, IsStuck, Awaiting, Handling, Evicting, Keeping, Deciding, Following, Connecting, DecidingAgain, Body, Bound, Pending, Joining, Relaying, Dropping, Client, Conn, Exchange}
use Rattle.pp_law.specs.Turn.{waits_for_exchange, marked_client, marked_conn, touch, is_leap, marks_anew, is_idle_conn, owes_answer, end_patience, close_idle_conn, woken_client, renew_marks, tick_to, tick, rested_client, rested_conn, rested_instance, rest_with}
use Rattle.pp_law.specs.Unseen.{furthest_at, wanted_to, rested_exchange, is_unseen, drop_on, drop_unseen}
use Rattle.pp_laws.proofs.Callers.{same_parts}
use Rattle.pp_laws.proofs.Cases.{each_of, when}
use Rattle.pp_laws.proofs.Clients.{begin_replies-sound, fill-sound, give_up_asks-sound}
use Rattle.pp_laws.proofs.Closings.{IsOwnLine, close_conn-sound, own_line, own_line_shrunk}
use Rattle.pp_laws.proofs.Exchanges.{each_conn-sound, end_exchange-sound, fail-sound, on_client-sound, on_conn-sound}
use Rattle.pp_laws.proofs.KeptClients.{SameClient, client_same, clients_mapped}
use Rattle.pp_laws.proofs.KeptConns.{conns_mapped}
use Rattle.pp_laws.proofs.KeptExchanges.{Rewanted, exchanges_rewanted}
use Rattle.pp_laws.proofs.KeptRows.{instances_mapped}
use Rattle.pp_laws.proofs.Places.{placing-sound}
use Rattle.pp_laws.proofs.Shrinks.{Shrinks, end_exchange-shrinks, fail-shrinks, shrinks_each, shrinks_same, shrinks_when}
use Rattle.pp_laws.proofs.Sound.{Since, Sound, facts_of, sound}

drop_on-sound : {b : Since} (k : Conn) (s : State) → IsOwnLine k s → Sound b s → Sound b (drop_on k s)
unfolding drop_on
drop_on-sound k s own h =
    each_of (front_of_line s k) h
    (λ e. when (is_unseen s k e) (close_conn-sound false k _ (own_line_shrunk k s _ (end_exchange-shrinks e.number s) own) (end_exchange-sound e.number s h)) h)

drop_unseen-sound : {b : Since} (s : State) → Sound b s → Sound b (drop_unseen s)
unfolding drop_unseen
drop_unseen-sound s h = each_conn-sound drop_on (λ k t there ht. drop_on-sound k t (own_line k t there ht) ht) _ s h

-- ---- phases

pub in_phase-sound : {b : Since} (phase : Phase) (s : State) → Sound b s → Sound b (in_phase phase s)
in_phase-sound phase s h = sound (facts_of h)

behind-sound : {b : Since} (phase : Phase) (s : State) → Sound b s → Sound b (behind phase s)
behind-sound Before s h = h
behind-sound IsWoken s h = h
behind-sound IsConfigured s h = h
behind-sound IsRooted s h = h
behind-sound IsListed s h = h
behind-sound IsListening s h = h
behind-sound IsStuck s h = h
behind-sound Awaiting s h = h
behind-sound Handling s h = in_phase-sound Evicting s h
behind-sound Evicting s h = give_up_asks-sound _ (in_phase-sound Keeping s h)
behind-sound Keeping s h = in_phase-sound Deciding s h
behind-sound Deciding s h = in_phase-sound Following s h
behind-sound Following s h = fill-sound _ (give_up_asks-sound _ (drop_unseen-sound _ (in_phase-sound Connecting s h)))
behind-sound Connecting s h = placing-sound _ (in_phase-sound DecidingAgain s h)
behind-sound DecidingAgain s h = h

next-sound : {b : Since} (s : State) → Sound b s → Sound b (next s)
unfolding next
next-sound s h = behind-sound s.phase s h

come-sound : {b : Since} (stops : State → Bool) (ps : List Phase) (s : State) → Sound b s → Sound b (come stops ps s)
unfolding come
come-sound stops [] s h = h
come-sound stops (p ∷ ps) s h = come-sound stops ps _ (when (is_at p s) (when (stops s) h (when (is_done s) (next-sound s h) h)) h)

pub come_to-sound : {b : Since} (phase : Phase) (s : State) → Sound b s → Sound b (come_to phase s)
unfolding come_to
come_to-sound phase s h = come-sound (is_at phase) phases s h

pub come_to_decide-sound : {b : Since} (s : State) → Sound b s → Sound b (come_to_decide s)
unfolding come_to_decide
come_to_decide-sound s h = come-sound decides phases s h

pub deciding-sound : {b : Since} (s : State) → Sound b s → Sound b (deciding s)
unfolding deciding
deciding-sound s h = in_phase-sound Deciding _ (come_to_decide-sound s h)

-- ---- marks, and the clock

pub touch-sound : {b : Since} (n : ℕ) (s : State) → Sound b s → Sound b (touch n s)
unfolding touch
touch-sound n s h = on_conn-sound n (marked_conn s.clock) _ (λ k. record { number = refl; line = refl; answer = refl }) (on_client-sound n (marked_client s.clock) s (λ c. same_parts _ c refl refl refl) h)

pub marks_anew-sound : {b : Since} (now : ℕ) (s : State) → Sound b s → Sound b (marks_anew now s)
unfolding marks_anew
marks_anew-sound {b} now s h = when (is_leap now s) (sound (clients_mapped b (record s { conns = map (marked_conn now) s.conns }) (marked_client now) (λ c. same_parts _ c refl refl refl)
    (conns_mapped b s (marked_conn now) (λ k. record { number = refl; line = refl; answer = refl }) (facts_of h)))) h

patience_ended : {b : Since} (k : Conn) (s : State) → Sound b s → Sound b (end_patience k s)
unfolding end_patience
patience_ended k s h = when (owes_answer s k) (each_of (front_of_line s k) h (λ e. fail-sound e s h)) h

end_patience-shrinks : (k : Conn) (s : State) → Shrinks s (end_patience k s)
unfolding end_patience
end_patience-shrinks k s = shrinks_when s (owes_answer s k) (shrinks_each s (front_of_line s k) (shrinks_same s) (λ e. fail-shrinks e s)) (shrinks_same s)

close_idle_conn-sound : {b : Since} (k : Conn) (s : State) → IsOwnLine k s → Sound b s → Sound b (close_idle_conn k s)
unfolding close_idle_conn
close_idle_conn-sound k s own h = when (is_idle_conn s k) (close_conn-sound true k _ (own_line_shrunk k s _ (end_patience-shrinks k s) own) (patience_ended k s h)) h

woken-by : (now : ℕ) (c : Client) (woken : Bool) → SameClient (elim woken as (λ x. Client) [ true ↦ marked_client now c | false ↦ c ]) c
woken-by now c true = same_parts _ c refl refl refl
woken-by now c false = client_same c

renew_marks-sound : {b : Since} (now : ℕ) (s : State) → Sound b s → Sound b (renew_marks now s)
unfolding renew_marks
renew_marks-sound {b} now s h = sound (clients_mapped b s (woken_client now s) (λ c. woken-by now c (waits_for_exchange s c && not (has_to_say s c))) (facts_of h))

pub tick_to-sound : {b : Since} (now : ℕ) (s : State) → Sound b s → Sound b (tick_to now s)
unfolding tick_to
tick_to-sound {b} now s h = each_conn-sound close_idle_conn (λ k t there ht. close_idle_conn-sound k t (own_line k t there ht) ht) _ _ marked
  where
    marked : Sound b (record (renew_marks now (marks_anew now s)) { clock = now; is_ticked = true; has_lost_draft = false })
    marked = sound (facts_of (renew_marks-sound now _ (marks_anew-sound now s h)))

pub tick-sound : {b : Since} (now : ℕ) (s : State) → Sound b s → Sound b (tick now s)
unfolding tick
tick-sound now s h = tick_to-sound (max s.clock now) s h

pub ending-sound : {b : Since} (s : State) → Sound b s → Sound b (ending s)
unfolding ending
ending-sound s h = begin_replies-sound _ (come_to-sound DecidingAgain s h)

-- how far its body was wanted is noted
wanted_same : (s : State) (b : Bound) (at : Option ℕ) (to : Bound) → (elim at as (λ c. Bound) [ None ↦ b | Some n ↦ record b { wanted = n } ]) ≡ to → (to.instance ≡ b.instance) × (to.next ≡ b.next)
wanted_same s b None to is = (sym (ap (λ (o : Bound). o.instance) is), sym (ap (λ (o : Bound). o.next) is))
wanted_same s b (Some n) to is = (sym (ap (λ (o : Bound). o.instance) is), sym (ap (λ (o : Bound). o.next) is))

bound_headed : (body : Body) (b : Bound) → bound_in body ≡ Some b → not (is_pending body) ≡ true
bound_headed Pending b is = absurd (cc is)
bound_headed (Joining c) b is = refl
bound_headed Relaying b is = absurd (cc is)
bound_headed Dropping b is = absurd (cc is)

rested_exchange-rewanted : (s : State) (e : Exchange) → Rewanted (rested_exchange s e) e
rested_exchange-rewanted s e = by (bound_of e) refl
  where
    by : (bound : Option Bound) → bound_of e ≡ bound → Rewanted (elim bound as (λ c. Exchange) [ None ↦ e | Some b ↦ record e { body = Joining (wanted_to s b) } ]) e
    by None none = record {
      number = refl;
      key = refl;
      aim = refl;
      place = refl;
      headed = refl;
      bound = λ to is. record { was = to; there = is; instance = refl; next = refl };
      unbound = λ is. is;
    }
    by (Some b) some = record {
      number = refl;
      key = refl;
      aim = refl;
      place = refl;
      headed = sym (bound_headed e.body b some);
      bound = λ to is. let w = wanted_same s b (furthest_at s b) to (cc is) in record { was = b; there = some; instance = w.0; next = w.1 };
      unbound = λ none. let both : None ≡ Some b = sym none ∙ some in absurd (cc both);
    }

pub rest_with-sound : {b : Since} (w : Wants) (s : State) → Sound b s → Sound b (rest_with w s)
unfolding rest_with
rest_with-sound {b} w s h = sound (clients_mapped b (record s { conns = map (rested_conn s w) s.conns; exchanges = map (rested_exchange s) s.exchanges; instances = map rested_instance s.instances }) (rested_client s) (λ c. same_parts _ c refl refl refl)
    (instances_mapped b (record s { conns = map (rested_conn s w) s.conns; exchanges = map (rested_exchange s) s.exchanges }) rested_instance (λ x. record { id = refl; key = refl; version = refl; row = λ key is. is })
    (exchanges_rewanted b (record s { conns = map (rested_conn s w) s.conns }) (rested_exchange s) (rested_exchange-rewanted s)
    (conns_mapped b s (rested_conn s w) (λ k. record { number = refl; line = refl; answer = refl }) (facts_of h)))))
