-- What a happening does to an event, to connections, to the disk and in the opening leaves as few chunks as it found, and so does a wait.
use Rattle.std.proofs.Common.{◌≡◌, refl, ℕ, ◌+◌, ◌≤◌, Bool, true, false, not, ◌&&◌, ◌||◌, List, [], ◌∷◌, ◌++◌, length, Option, Some, None, inr, ap, ◌∙◌, zero-le, le_refl, le_trans, arith}
use Rattle.std.specs.List.{list_any}
use Rattle.pp_conf.specs.Conf.{Settings, defaults}
use Rattle.pp_conf.specs.Words.{reading_of}
use Rattle.pp_world.specs.Files.{Files}
use Rattle.pp_world.specs.declared.event.Wants.{Wants}
use Rattle.pp_world.specs.declared.happening.Happening.TheVariants.{Woke}
use Rattle.pp_world.specs.declared.note.Decision.{Decision}
use Rattle.pp_world.specs.declared.op.DiskOp.{DiskOp}
use Rattle.pp_law.specs.After.{new_conn, event, opened, owing, reached, paid, said, gone, take_decision, evicted, refused_row, leave_memory, forgotten_by, begun_op, ended_op, shut, dialled, refused_dial, undialled, out, dropped}
use Rattle.pp_law.specs.Connections.{client, conn, is_client, lose_attempt, end_exchange, may_ask_again, placing, put_on, Pause, AllPlaced, WaitsDial, WaitsDrop}
use Rattle.pp_law.specs.Leaving.{Leaving, ForAnother, ForMemory, BeforeDecision, leaving_as}
use Rattle.pp_law.specs.Lists.{Bytes}
use Rattle.pp_law.specs.Opening.{are_texts, begun, configured, is_at, is_opening, is_same_phase, lose_in_opening, names_file, opened_to, settings_in, stuck, term_in, terms_behind, with_settings, woken}
use Rattle.pp_law.specs.Entries.{entries_in}
use Rattle.pp_law.specs.Repairs.{begin_in_opening}
use Rattle.pp_law.specs.Permits.{may_wait}
use Rattle.pp_law.specs.Followers.{fill}
use Rattle.pp_law.specs.Phases.{phases, in_phase, is_done, passed, come, come_to, come_to_decide, decides, deciding, due_victim, ending, may_decide, may_end, may_in}
use Rattle.pp_law.specs.Replies.{begin_replies, said_by}
use Rattle.pp_law.specs.State.{State, Exchange, Instance, Phase, IsWoken, IsConfigured, IsRooted, IsListed, IsListening, IsStuck, Awaiting, Handling, Evicting, Keeping, Deciding, DecidingAgain, Owed, Free, start}
use Rattle.pp_law.specs.Store.{begin_in_turn, close_name}
use Rattle.pp_law.specs.Turn.{rest_with}
use Rattle.pp_laws.proofs.Lists.{in_find}
use Rattle.pp_laws.proofs.Tests.{second_holds}
use Rattle.pp_laws_bounds.proofs.Kept.{is_early}
use Rattle.pp_laws_pool.proofs.Marks.{reading_marked}
use Rattle.pp_laws_pool.proofs.PoolTurns.{is_busy}
use Rattle.pp_laws_pool.proofs.View.{Walk, Holds, holds, facts_of}
use Rattle.pp_laws_pool.proofs.WalkCases.{by_pause, each_of, each_so, when}
use Rattle.pp_laws_pool.proofs.WalkClients.{begin_replies-keeps, close_client-keeps, decided-keeps, end_replies-keeps, fill-keeps, regained-keeps, use_said-keeps}
use Rattle.pp_laws_pool.proofs.WalkDisk.{begin_in_opening-keeps, begin_in_turn-keeps, close_name-keeps, end_op-keeps, lose_in_opening-keeps}
use Rattle.pp_laws_pool.proofs.WalkExchanges.{end_exchange-keeps, lose_attempt-keeps, on_client-keeps, on_conn-keeps, same_conn}
use Rattle.pp_laws_pool.proofs.WalkPieces.{ended-keeps}
use Rattle.pp_laws_pool.proofs.WalkRows.{drop_chunk-keeps, forget-keeps}
use Rattle.pp_laws_pool.proofs.WalkSteps.{placing-keeps, touch-keeps}
use Rattle.pp_laws.proofs.Callers.{said_by-same}
use Rattle.pp_joints_law.proofs.Enough.{AreHigh, Enough, IsEnough, enough_begins, enough_places, enough_uses, enough_walk}
use Rattle.pp_joints_law.proofs.EnoughMarks.{reading_high}
use Rattle.pp_joints_law.proofs.EnoughTurns.{InPhase, Turns, come_to_decide_turns, come_to_turns, enough_now, known_at, to_busy, to_calm}

-- ---- what changes nothing of it

abbrev pub Keeps : State → State → Type 0
Keeps s t = (p : Phase) → Holds (Enough p) s → Holds (Enough p) t

pub stays : {s : State} (t : State) → Keeps s t → InPhase s → InPhase t
stays t keeps i = record { phase = i.phase; held = keeps i.phase i.held }

-- an event begins, and what was owed to it is done
pub event_so : (s : State) → InPhase s → InPhase (event s)
unfolding event
event_so s i = record { phase = Handling; held = regained-keeps (enough_walk Handling) _ (to_busy i.phase Handling s refl i.held) }

pub paid_so : (s : State) → InPhase s → InPhase (paid s)
unfolding paid
paid_so s i = record { phase = i.phase; held = regained-keeps (enough_walk i.phase) _ (owes i.held) }
  where
    owes : Holds (Enough i.phase) s → Holds (Enough i.phase) (record s { owed = Free })
    owes h = holds (facts_of h)

pub opened_so : (n : ℕ) (s : State) → Keeps s (opened n s)
unfolding opened
opened_so n s p h = holds (facts_of h)

pub owing_so : (o : Owed) (n : ℕ) (s : State) → Keeps s (owing o n s)
unfolding owing
owing_so o n s p h = holds (facts_of (touch-keeps (enough_walk p) n s h))

pub reached_so : (n : ℕ) (s : State) → Keeps s (reached n s)
unfolding reached
reached_so n s p h = let w = enough_walk p in touch-keeps w n _ (on_conn-keeps w n (λ k. record k { is_reached = true }) s (λ k. same_conn _ k refl refl refl refl refl) h)

pub said_so : (c n : ℕ) (s : State) → Keeps s (said c n s)
unfolding said
said_so c n s p h =
    each_of (client s c) h (λ x. end_replies-keeps (enough_walk p) _ (on_client-keeps (enough_walk p) c (said_by n) _ (λ y. (said_by-same n y).number) (use_said-keeps (enough_uses p) n x s h)))

pub gone_so : (is_clean : Bool) (n : ℕ) (s : State) → Keeps s (gone is_clean n s)
unfolding gone
gone_so is_clean n s p h = let w = enough_walk p in each_of (conn s n) h (λ k. end_replies-keeps w _ (ended-keeps w is_clean k s h))

pub unread_so : (name : Bytes) (s : State) → Keeps s (lose_in_opening name (close_name name s))
unread_so name s p h = lose_in_opening-keeps name _ (close_name-keeps name s h)

-- ---- connections

pub shut_so : (n : ℕ) (s : State) → Keeps s (shut n s)
unfolding shut
shut_so n s p h = holds (facts_of (close_client-keeps (enough_walk p) n false s h))

pub dialled_so : (n : ℕ) (host : Bytes) (port : ℕ) (s : State) → Keeps s (dialled n host port (placing s))
unfolding dialled
dialled_so n host port s p h = by_pause (placing s).pause put (λ k e. put) (λ e. put_it e)
  where
    put : Holds (Enough p) (placing s).state
    put = placing-keeps (enough_places p) s h

    put_it : (e : Exchange) → Holds (Enough p) (put_on e.number n (record (placing s).state { conns = (placing s).state.conns ++ new_conn n host port (placing s).state.clock ∷ []; top = n }))
    put_it e = holds (enough_places p e.number n _ (facts_of put))

pub undialled_so : (s : State) → Keeps s (undialled (placing s))
unfolding undialled refused_dial
undialled_so s p h = pausing (placing s).pause
  where
    put : Holds (Enough p) (placing s).state
    put = placing-keeps (enough_places p) s h

    lost : (e : Exchange) → State
    lost e = lose_attempt e (record (placing s).state { failures = (placing s).state.failures + 1 })

    lost_so : (e : Exchange) → Holds (Enough p) (lost e)
    lost_so e = lose_attempt-keeps (enough_walk p) e _ (holds (facts_of put))

    refused : (e : Exchange) (t : Bool) → Holds (Enough p) (elim t as (λ c. State) [ true ↦ lost e | false ↦ fill (end_exchange e.number (lost e)) ])
    refused e true = lost_so e
    refused e false = fill-keeps (enough_walk p) (enough_begins p) _ (end_exchange-keeps (enough_walk p) e.number _ (lost_so e))

    pausing : (q : Pause) → Holds (Enough p) (elim q as (λ c. State) [ AllPlaced ↦ (placing s).state | WaitsDrop k e ↦ (placing s).state | WaitsDial e ↦ refused_dial e (lost e) ])
    pausing AllPlaced = put
    pausing (WaitsDrop k e) = put
    pausing (WaitsDial e) = refused e (may_ask_again (lost e) e.number)

out_so : (n : ℕ) (s : State) → Keeps s (out n s)
unfolding out
out_so n s p h = holds (facts_of h)

pub dropped_so : (n : ℕ) (s : State) → Keeps s (dropped n s)
unfolding dropped
dropped_so n s p h = each_of (conn s n) h (λ k. when k.is_closing (out_so n s p h) (out_so n _ p (placing-keeps (enough_places p) s h)))

-- ---- decisions and cuts

pub decided_at : (test : State → Bool) (s : State) → may_decide test s ≡ true → Turns s → Holds (Enough Deciding) (deciding s)
unfolding deciding
decided_at test s is turns = by (decides t) refl is
  where
    t : State
    t = come_to_decide s

    now : InPhase t
    now = (come_to_decide_turns s turns).now

    calmly : (p : Phase) → (elim (is_same_phase Deciding p) as (λ c. Bool) [ true ↦ not (is_done t) | false ↦ is_same_phase DecidingAgain p ]) ≡ true → is_busy p ≡ false
    calmly Handling at = absurd (cc at)
    calmly Evicting at = absurd (cc at)
    calmly p at = refl

    by : (d : Bool) → decides t ≡ d → (elim d as (λ c. Bool) [ true ↦ test t | false ↦ false ]) ≡ true → Holds (Enough Deciding) (in_phase Deciding t)
    by true at tests = to_calm t.phase Deciding t (calmly t.phase at) (known_at t.phase t refl now)
    by false at tests = absurd (cc tests)

pub take_decision_so : (n : ℕ) (d : Decision) (s : State) → Keeps s (take_decision n d s)
unfolding take_decision
take_decision_so n d s p h = each_so (client s n) (λ none. h) (λ c found. regained-keeps w _ (holds (facts_of (decided-keeps w (enough_begins p) c d s (in_find (is_client n) c s.clients found).0 h))))
  where
    w : Walk (Enough p)
    w = enough_walk p

-- ---- what leaves memory

pub evicted_so : (s : State) → Keeps s (evicted s)
unfolding evicted
evicted_so s p h = each_of (due_victim s) h (λ place. drop_chunk-keeps (enough_walk p) place.0 place.1 s h)

refused_row_so : (x : Instance) (s : State) → Keeps s (refused_row x s)
unfolding refused_row
refused_row_so x s p h = holds (facts_of (forget-keeps (enough_walk p) x.id s h))

pub forgotten_so : (key : Bytes) (s : State) → Turns s → InPhase (forgotten_by key s)
unfolding forgotten_by leave_memory
forgotten_so key s turns = leaving (leaving_as s key)
  where
    leaving : (o : Option Leaving) → InPhase (elim o as (λ c. State) [ None ↦ s | Some how ↦ leave_memory how s ])
    leaving None = turns.now
    leaving (Some ForAnother) = stays _ (λ p h. holds (facts_of h)) (come_to_turns Evicting s turns).now
    leaving (Some (ForMemory x)) = stays _ (refused_row_so x _) (come_to_turns Evicting s turns).now
    leaving (Some (BeforeDecision x)) = stays _ (λ p h. holds (facts_of (forget-keeps (enough_walk p) x.id _ h))) (come_to_decide_turns s turns).now

-- ---- the disk

pub begun_op_so : (op : DiskOp) (s : State) → Turns s → InPhase (begun_op op s)
unfolding begun_op
begun_op_so op s turns = by (is_opening s)
  where
    by : (t : Bool) → InPhase (elim t as (λ c. State) [ true ↦ begin_in_opening op s | false ↦ begin_in_turn op (come_to Keeping s) ])
    by true = stays _ (λ p h. begin_in_opening-keeps op s h) turns.now
    by false = stays _ (λ p h. begin_in_turn-keeps op _ h) (come_to_turns Keeping s turns).now

pub ended_op_so : (op : DiskOp) (ok : Bool) (s : State) → Keeps s (ended_op op ok s)
unfolding ended_op
ended_op_so op true s p h = end_op-keeps op true s h
ended_op_so op false s p h = lose_in_opening-keeps s.agenda.name _ (end_op-keeps op false s h)

-- ---- the opening

none_used : (c : Settings) (n : ℕ) → n ≤ 0 → IsEnough c n
none_used c n none = inr (le_trans none zero-le)

set_so : (o : Option Settings) (s : State) → ((c : Settings) → o ≡ Some c → AreHigh c) → AreHigh s.settings → length s.chunks ≤ 0 → InPhase (with_settings o s)
unfolding with_settings
set_so None s high before none = record { phase = IsStuck; held = holds (refl, (before, inr (none_used s.settings (length s.chunks) none))) }
set_so (Some c) s high before none = record { phase = IsConfigured; held = holds (refl, (high c refl, inr (none_used c (length s.chunks) none))) }

highs : (words : List Bytes) (text : Option Bytes) (c : Settings) → settings_in (reading_of words text) ≡ Some c → AreHigh c
highs words text c is = (reading_high words text c is, reading_marked words text c is)

pub first_high : AreHigh defaults
first_high = (omega arith, omega arith)

pub woken_so : (image : Files) (s : State) → InPhase (woken image s)
unfolding woken begun
woken_so image s = by (are_texts fresh.term) (names_file fresh.term)
  where
    fresh : State
    fresh = record (start (terms_behind s.terms)) { sent = s.sent; acknowledged = s.acknowledged; top = s.top; term = term_in s.terms; disk = Woke image ∷ []; entries = entries_in image }

    by : (t u : Bool) → InPhase (elim t as (λ c. State) [
      | false ↦ with_settings None fresh
      | true ↦ elim u as (λ c. State) [ true ↦ record fresh { phase = IsWoken } | false ↦ with_settings (settings_in (reading_of fresh.term.words None)) fresh ]
    ])
    by false u = set_so None fresh (λ c is. absurd (cc is)) first_high (le_refl 0)
    by true true = record { phase = IsWoken; held = holds (refl, (first_high, inr (inr zero-le))) }
    by true false = set_so (settings_in (reading_of fresh.term.words None)) fresh (λ c is. highs fresh.term.words None c is) first_high (le_refl 0)

pub at_this : (p q : Phase) → is_same_phase p q ≡ true → is_early p ≡ true → q ≡ p
at_this IsWoken IsWoken is early = refl
at_this IsConfigured IsConfigured is early = refl
at_this IsRooted IsRooted is early = refl
at_this IsListed IsListed is early = refl
at_this IsListening IsListening is early = refl
at_this IsStuck IsStuck is early = refl
at_this p q is early = grind arith

stuck_so : (p : Phase) (s : State) → is_busy p ≡ false → Holds (Enough p) s → InPhase (stuck s)
unfolding stuck
stuck_so p s calmly h = record { phase = IsStuck; held = holds (facts_of (to_calm p IsStuck s calmly h)) }

pub opened_to_so : (p q : Phase) (ok : Bool) (s : State) → is_at p s ≡ true → is_early p ≡ true → is_busy p ≡ false → InPhase s → InPhase (opened_to q ok s)
unfolding opened_to
opened_to_so p q true s at early calmly i = record { phase = q; held = to_calm p q s calmly (known_at p s (at_this p s.phase at early) i) }
opened_to_so p q false s at early calmly i = stuck_so p s calmly (known_at p s (at_this p s.phase at early) i)

pub configured_so : (text : Option Bytes) (s : State) → is_at IsWoken s ≡ true → length s.chunks ≤ 0 → InPhase s → InPhase (configured text s)
unfolding configured
configured_so None s at none i = stuck_so IsWoken s refl (known_at IsWoken s (at_this IsWoken s.phase at refl) i)
configured_so (Some text) s at none i = set_so (settings_in (reading_of s.term.words (Some text))) s (λ c is. highs s.term.words (Some text) c is) (facts_of i.held).1.0 none

-- ---- a wait

come_nowhere : (stops : State → Bool) (ps : List Phase) (s : State) → list_any (λ p. is_at p s) ps ≡ false → come stops ps s ≡ s
unfolding come
come_nowhere stops [] s none = refl
come_nowhere stops (p ∷ ps) s none = by (is_at p s) none (λ rest. come_nowhere stops ps s rest)
  where
    by : (t : Bool) → (t || list_any (λ q. is_at q s) ps) ≡ false → (list_any (λ q. is_at q s) ps ≡ false → come stops ps s ≡ s) → come stops ps (elim t as (λ c. State) [ true ↦ passed stops s | false ↦ s ]) ≡ s
    by true is more = absurd (cc is)
    by false is more = more is

in_its_phase : (p : Phase) (test : State → Bool) (s : State) → may_in p test s ≡ true → is_at p (come_to p s) ≡ true
in_its_phase p test s is = by (is_at p (come_to p s)) is
  where
    by : (t : Bool) → (elim t as (λ c. Bool) [ true ↦ test (come_to p s) | false ↦ false ]) ≡ true → t ≡ true
    by true at = refl
    by false at = absurd (cc at)

rest_so : (w : Wants) (p : Phase) (s : State) → is_busy p ≡ false → Holds (Enough p) s → InPhase (rest_with w s)
unfolding rest_with
rest_so w p s calmly h = record { phase = Awaiting; held = holds (refl, ((facts_of h).1.0, inr (enough_now p s calmly h))) }

pub waits_so : (w : Wants) (s : State) → may_wait s ≡ true → Turns s → InPhase (rest_with w (ending s))
unfolding ending come_to
waits_so w s may turns = by (is_at IsListening s) refl may
  where
    t : State
    t = come_to DecidingAgain s

    over : is_busy t.phase ≡ false → InPhase (rest_with w (begin_replies t))
    over calmly = rest_so w t.phase _ calmly (begin_replies-keeps (enough_walk t.phase) t (known_at t.phase t refl (come_to_turns DecidingAgain s turns).now))

    listening : (p : Phase) → is_same_phase IsListening p ≡ true → p ≡ IsListening
    listening IsListening at = refl
    listening p at = grind arith

    again : (p : Phase) → is_same_phase DecidingAgain p ≡ true → p ≡ DecidingAgain
    again DecidingAgain at = refl
    again p at = grind arith

    nowhere : s.phase ≡ IsListening → come (is_at DecidingAgain) phases s ≡ s
    nowhere is = come_nowhere (is_at DecidingAgain) phases s (ap (λ q. list_any (λ p. is_same_phase p q) phases) is)

    by : (u : Bool) → is_at IsListening s ≡ u → (u || (not s.is_stopped && may_end s)) ≡ true → InPhase (rest_with w (begin_replies t))
    by true at holds_so = over (ap (λ (x : State). is_busy x.phase) (nowhere (listening s.phase at)) ∙ ap is_busy (listening s.phase at))
    by false at holds_so = over (ap is_busy (again t.phase (in_its_phase DecidingAgain is_done s (second_holds (not s.is_stopped) (may_end s) holds_so))))
