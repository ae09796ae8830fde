-- The phases of a turn, its clock and its end keep the lines.
use Rattle.std.proofs.Common.{◌≡◌, refl, Some, None, Option, inl, sym, ap, ◌∙◌, ℕ, zero, suc, ◌+◌, ◌/◌, max, nat_lt, Bool, true, false, List, [], ◌∷◌, map}
use Rattle.pp_world.specs.declared.event.Wants.{Wants}
use Rattle.pp_world.specs.declared.note.Decision.{Decision}
use Rattle.pp_law.specs.Chunks.{chunk_len}
use Rattle.pp_law.specs.Connections.{front_of_line, close_conn, end_exchange, fail}
use Rattle.pp_law.specs.Opening.{is_at}
use Rattle.pp_law.specs.Phases.{phases, in_phase, behind, next, is_done, come, come_to, decides, come_to_decide, deciding}
use Rattle.pp_law.specs.Replies.{use_chunks, use_from, use_said, of_body, is_finished, close_finished, regained}
use Rattle.pp_law.specs.State.{State, Phase, Before, IsWoken, IsConfigured, IsRooted, IsListed, IsListening, IsStuck, Awaiting, Handling, Evicting, Keeping, Deciding, Following, Connecting, DecidingAgain, Client, Conn, Exchange, Bound, Joining}
use Rattle.pp_law.specs.Stages.{bound_of}
use Rattle.pp_law.specs.Table.{Next, next_of}
use Rattle.pp_law.specs.Turn.{marked_client, marked_conn, touch, is_leap, marks_anew, is_idle_conn, owes_answer, end_patience, close_idle_conn, renew_marks, tick_to, tick, rested_conn, rest_with}
use Rattle.pp_law.specs.Unseen.{is_unseen, wanted_to, rested_exchange, drop_on, drop_unseen}
use Rattle.pp_laws.specs.Runs.{IsIn}
use Rattle.pp_laws.proofs.Closings.{own_line_shrunk}
use Rattle.pp_laws.proofs.Pieces.{front_by}
use Rattle.pp_laws.proofs.Shrinks.{Shrinks, end_exchange-shrinks, fail-shrinks, shrinks_on, shrinks_same}
use Rattle.pp_laws_passed.proofs.FedTurns.{enter_row-same}
use Rattle.pp_laws_passed.proofs.Same.{itself}
use Rattle.pp_laws_passed.proofs.SameRows.{use_chunk-same}
use Rattle.pp_law.specs.Deciding.{enter_row}
use Rattle.pp_laws_lines.proofs.Cases.{each_of, each_so, when}
use Rattle.pp_laws_lines.proofs.Lined.{IsPlain, Lined, SameConn, apart, conns_mapped, exchanges_mapped, facts_of, first_in, lined, on_gone, still, together}
use Rattle.pp_laws_lines.proofs.LinedAsks.{close_client-lined, close_conn-lined, closed_shut, each_conn-lined, end_exchange-lined, fail-lined, fill-lined, give_up_asks-lined, on_client-lined, on_conn-lined, own_line, placing-lined}
use Rattle.pp_laws_lines.proofs.Stands.{SameAsk, Since, ask_same}

-- the exchanges of its line stand in no other
abbrev pub IsAlone : Conn → Exchange → State → Type 0
IsAlone k e s = (j : Conn) → IsIn j s.conns → IsIn e.number j.line → j.number ≡ k.number

pub alone : {b : Since} (k : Conn) (e : Exchange) (s t : State) → IsIn k s.conns → IsIn e s.exchanges → IsIn e.number k.line → Shrinks s t → Lined b s → IsAlone k e t
alone k e s t there given l shrinks h j i m = let g = shrinks.conns j i in g.2 ∙ own_line k s there h e g.0 given l g.1 (g.3 e.number m)

-- the first of a line is over, and its connection is closed
pub closed_behind : {b : Since} (counts : Bool) (k : Conn) (e : Exchange) (s t : State) → IsPlain b → IsIn k s.conns → IsIn e s.exchanges → IsIn e.number k.line → Shrinks s t → Lined b s → Lined b t → Lined b (close_conn counts k (end_exchange e.number t))
closed_behind {b} counts k e s t p there given l shrinks hs h =
    together k.number _ p (closed_shut counts k (end_exchange e.number t))
    (close_conn-lined counts k (end_exchange e.number t) refl (own_line_shrunk k s (end_exchange e.number t) (shrinks_on s t (end_exchange e.number t) shrinks (end_exchange-shrinks e.number t)) (own_line k s there hs))
    (end_exchange-lined e.number t (λ j i m. on_gone (mine j i m) (mine j i m)) (apart k.number t p h)))
  where
    mine : (j : Conn) → IsIn j t.conns → IsIn e.number j.line → Some k.number ≡ Some j.number
    mine j i m = ap (λ n. Some n) (sym (alone k e s t there given l shrinks hs j i m))

drop_on-lined : {b : Since} (k : Conn) (s : State) → IsPlain b → IsIn k s.conns → Lined b s → Lined b (drop_on k s)
unfolding drop_on
drop_on-lined k s p there h =
    each_so (front_of_line s k) (λ none. h)
    (λ e front. let f = front_by s k.line e front in when (is_unseen s k e) (closed_behind false k e s s p there f.0 (first_in k.line e.number f.1) (shrinks_same s) h h) h)

drop_unseen-lined : {b : Since} (s : State) → IsPlain b → Lined b s → Lined b (drop_unseen s)
unfolding drop_unseen
drop_unseen-lined s p h = each_conn-lined drop_on (λ k t there ht. drop_on-lined k t p there ht) _ s h

-- ---- phases

pub in_phase-lined : {b : Since} (phase : Phase) (s : State) → Lined b s → Lined b (in_phase phase s)
in_phase-lined phase s h = lined (facts_of h)

behind-lined : {b : Since} (phase : Phase) (s : State) → IsPlain b → Lined b s → Lined b (behind phase s)
behind-lined Before s p h = h
behind-lined IsWoken s p h = h
behind-lined IsConfigured s p h = h
behind-lined IsRooted s p h = h
behind-lined IsListed s p h = h
behind-lined IsListening s p h = h
behind-lined IsStuck s p h = h
behind-lined Awaiting s p h = h
behind-lined Handling s p h = in_phase-lined Evicting s h
behind-lined Evicting s p h = give_up_asks-lined _ (in_phase-lined Keeping s h)
behind-lined Keeping s p h = in_phase-lined Deciding s h
behind-lined Deciding s p h = in_phase-lined Following s h
behind-lined Following s p h = fill-lined _ p.kept (give_up_asks-lined _ (drop_unseen-lined _ p (in_phase-lined Connecting s h)))
behind-lined Connecting s p h = (placing-lined _ p.kept (in_phase-lined DecidingAgain s h)).state
behind-lined DecidingAgain s p h = h

next-lined : {b : Since} (s : State) → IsPlain b → Lined b s → Lined b (next s)
unfolding next
next-lined s p h = behind-lined s.phase s p h

come-lined : {b : Since} (stops : State → Bool) (ps : List Phase) (s : State) → IsPlain b → Lined b s → Lined b (come stops ps s)
unfolding come
come-lined stops [] s p h = h
come-lined stops (q ∷ ps) s p h = come-lined stops ps _ p (when (is_at q s) (when (stops s) h (when (is_done s) (next-lined s p h) h)) h)

pub come_to-lined : {b : Since} (phase : Phase) (s : State) → IsPlain b → Lined b s → Lined b (come_to phase s)
unfolding come_to
come_to-lined phase s p h = come-lined (is_at phase) phases s p h

pub come_to_decide-lined : {b : Since} (s : State) → IsPlain b → Lined b s → Lined b (come_to_decide s)
unfolding come_to_decide
come_to_decide-lined s p h = come-lined decides phases s p h

pub deciding-lined : {b : Since} (s : State) → IsPlain b → Lined b s → Lined b (deciding s)
unfolding deciding
deciding-lined s p h = in_phase-lined Deciding _ (come_to_decide-lined s p h)

-- ---- marks, and the clock

marked : (now : ℕ) (k : Conn) → SameConn (marked_conn now k) k
marked now k = record { number = refl; host = refl; port = refl; line = refl; answer = inl refl; closing = refl }

pub touch-lined : {b : Since} (n : ℕ) (s : State) → Lined b s → Lined b (touch n s)
unfolding touch
touch-lined n s h = on_conn-lined n (marked_conn s.clock) _ (marked s.clock) (on_client-lined n (marked_client s.clock) s h)

marks_anew-lined : {b : Since} (now : ℕ) (s : State) → Lined b s → Lined b (marks_anew now s)
unfolding marks_anew
marks_anew-lined {b} now s h = when (is_leap now s) (lined (conns_mapped b s (marked_conn now) (marked now) (facts_of h))) h

end_patience-lined : {b : Since} (k : Conn) (s : State) → Lined b s → Lined b (end_patience k s)
unfolding end_patience
end_patience-lined k s h = when (owes_answer s k) (each_of (front_of_line s k) h (λ e. fail-lined e s h)) h

patience_shrinks : (k : Conn) (s : State) → Shrinks s (end_patience k s)
unfolding end_patience
patience_shrinks k s = by (owes_answer s k) (front_of_line s k)
  where
    by : (t : Bool) (o : Option Exchange) → Shrinks s (elim t as (λ c. State) [ false ↦ s | true ↦ elim o as (λ c. State) [ None ↦ s | Some e ↦ fail e s ] ])
    by false o = shrinks_same s
    by true None = shrinks_same s
    by true (Some e) = fail-shrinks e s

close_idle_conn-lined : {b : Since} (k : Conn) (s : State) → IsPlain b → IsIn k s.conns → Lined b s → Lined b (close_idle_conn k s)
unfolding close_idle_conn
close_idle_conn-lined k s p there h = when (is_idle_conn s k) (close_conn-lined true k _ p.kept (own_line_shrunk k s _ (patience_shrinks k s) (own_line k s there h)) (end_patience-lined k s h)) h

renew_marks-lined : {b : Since} (now : ℕ) (s : State) → Lined b s → Lined b (renew_marks now s)
unfolding renew_marks
renew_marks-lined now s h = lined (facts_of h)

tick_to-lined : {b : Since} (now : ℕ) (s : State) → IsPlain b → Lined b s → Lined b (tick_to now s)
unfolding tick_to
tick_to-lined {b} now s p h = each_conn-lined close_idle_conn (λ k t there ht. close_idle_conn-lined k t p there ht) _ _ at_it
  where
    at_it : Lined b (record (renew_marks now (marks_anew now s)) { clock = now; is_ticked = true; has_lost_draft = false })
    at_it = lined (facts_of (renew_marks-lined now _ (marks_anew-lined now s h)))

pub tick-lined : {b : Since} (now : ℕ) (s : State) → IsPlain b → Lined b s → Lined b (tick now s)
unfolding tick
tick-lined now s p h = tick_to-lined (max s.clock now) s p h

rested_same : (s : State) (e : Exchange) → SameAsk (rested_exchange s e) e
rested_same s e = by (bound_of e)
  where
    by : (o : Option Bound) → SameAsk (elim o as (λ y. Exchange) [ None ↦ e | Some b ↦ record e { body = Joining (wanted_to s b) } ]) e
    by None = ask_same e
    by (Some b) = record { number = refl; place = refl; text = refl; asked = refl; left = refl; key = refl; head = refl; aim = refl }

pub rest_with-lined : {b : Since} (w : Wants) (s : State) → Lined b s → Lined b (rest_with w s)
unfolding rest_with
rest_with-lined {b} w s h =
    lined (exchanges_mapped b (record s { conns = map (rested_conn s w) s.conns }) (rested_exchange s) (rested_same s) (conns_mapped b s (rested_conn s w) (λ k. record { number = refl; host = refl; port = refl; line = refl; answer = inl refl; closing = refl }) (facts_of h)))

-- ---- what clients wait for and use

pub regained-lined : {b : Since} (s : State) → Lined b s → Lined b (regained s)
unfolding regained
regained-lined s h = lined (facts_of h)

use_chunks-lined : {b : Since} (more id i : ℕ) (s : State) → Lined b s → Lined b (use_chunks more id i s)
unfolding use_chunks
use_chunks-lined zero id i s h = h
use_chunks-lined (suc more) id i s h = use_chunks-lined more id (i + 1) _ (still (use_chunk-same id i s (itself s)) h)

use_from-lined : {b : Since} (n : ℕ) (x : Next) (s : State) → Lined b s → Lined b (use_from n x s)
unfolding use_from
use_from-lined n x s h = use_chunks-lined _ x.source.id (x.at / chunk_len) s h

pub use_said-lined : {b : Since} (n : ℕ) (c : Client) (s : State) → Lined b s → Lined b (use_said n c s)
unfolding use_said
use_said-lined n c s h = when (nat_lt 0 (of_body n c)) (each_of (next_of s c) h (λ x. use_from-lined (of_body n c) x s h)) h

pub close_finished-lined : {b : Since} (c : Client) (s : State) → Lined b s → Lined b (close_finished c s)
unfolding close_finished
close_finished-lined c s h = when (is_finished c) (close_client-lined c.number false s h) h

pub enter_row-lined : {b : Since} (c : Client) (d : Decision) (s : State) → Lined b s → Lined b (enter_row c d s)
enter_row-lined c d s h = still (enter_row-same c d s (itself s)) h
