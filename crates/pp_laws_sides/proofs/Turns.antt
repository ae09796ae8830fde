-- Phases of a turn leave the numbers of clients and of connections; each of them begins at most one exchange for each client.
use Rattle.std.proofs.Common.{ℕ, ◌+◌, ◌*◌, ◌≤◌, Bool, List, [], ◌∷◌, length, arith}
use Rattle.pp_law.specs.After.{leave_memory, forgotten_by, begun_op, refused_dial, take_decision}
use Rattle.pp_law.specs.Connections.{client, may_ask_again, placing}
use Rattle.pp_law.specs.Leaving.{Leaving, ForAnother, ForMemory, BeforeDecision, leaving_as}
use Rattle.pp_law.specs.Lists.{Bytes}
use Rattle.pp_law.specs.Opening.{is_at, is_opening}
use Rattle.pp_law.specs.Phases.{behind, come, come_to, come_to_decide, decides, deciding, ending, in_phase, is_done, next, phases}
use Rattle.pp_law.specs.State.{State, Phase, Before, IsWoken, IsConfigured, IsRooted, IsListed, IsListening, IsStuck, Awaiting, Handling, Evicting, Keeping, Deciding, Following, Connecting, DecidingAgain, Exchange}
use Rattle.pp_world.specs.declared.note.Decision.{Decision}
use Rattle.pp_world.specs.declared.op.DiskOp.{DiskOp}
use Rattle.pp_laws_pool.proofs.View.{Holds, holds, facts_of}
use Rattle.pp_laws_pool.proofs.WalkCases.{each_of, when}
use Rattle.pp_laws_pool.proofs.WalkClients.{begin_replies-keeps, give_up_asks-keeps, regained-keeps}
use Rattle.pp_laws_pool.proofs.WalkDisk.{begin_in_opening-keeps, begin_in_turn-keeps}
use Rattle.pp_laws_pool.proofs.WalkExchanges.{end_exchange-keeps}
use Rattle.pp_laws_pool.proofs.WalkRows.{forget-keeps}
use Rattle.pp_laws_pool.proofs.WalkSteps.{drop_unseen-keeps, placing-keeps}
use Rattle.pp_laws_sides.proofs.Begun.{decided-named, fill-named}
use Rattle.pp_laws_sides.proofs.Names.{Named, Names, named_places, named_walk, raise}
use Rattle.pp_laws_sides.proofs.Steps.{refused_row-named}

-- ---- from phase to phase

-- it may be one that begins them
more : {o : Names} {m : ℕ} (s : State) → Holds (Named o m) s → Holds (Named o (m + length o.clients)) s
more {o} {m} s h = raise m (m + length o.clients) s (omega arith) h

behind-named : {o : Names} {m : ℕ} (phase : Phase) (s : State) → Holds (Named o m) s → Holds (Named o (m + length o.clients)) (behind phase s)
behind-named Before s h = more s h
behind-named IsWoken s h = more s h
behind-named IsConfigured s h = more s h
behind-named IsRooted s h = more s h
behind-named IsListed s h = more s h
behind-named IsListening s h = more s h
behind-named IsStuck s h = more s h
behind-named Awaiting s h = more s h
behind-named Handling s h = more (in_phase Evicting s) (holds (facts_of h))
behind-named Evicting s h = more _ (give_up_asks-keeps (named_walk _ _) _ (holds (facts_of h)))
behind-named Keeping s h = more (in_phase Deciding s) (holds (facts_of h))
behind-named Deciding s h = more (in_phase Following s) (holds (facts_of h))
behind-named Following s h = fill-named _ (give_up_asks-keeps (named_walk _ _) _ (drop_unseen-keeps (named_walk _ _) _ (holds (facts_of h))))
behind-named Connecting s h = more (placing (in_phase DecidingAgain s)).state (placing-keeps (named_places _ _) (in_phase DecidingAgain s) (holds (facts_of h)))
behind-named DecidingAgain s h = more s h

pub next-named : {o : Names} {m : ℕ} (s : State) → Holds (Named o m) s → Holds (Named o (m + length o.clients)) (next s)
unfolding next
next-named s h = behind-named s.phase s h

-- so many at most, where so many phases are left
abbrev spent : List Phase → ℕ → ℕ
spent [] clients = 0
spent (p ∷ ps) clients = clients + spent ps clients

come-named : {o : Names} (m : ℕ) (stops : State → Bool) (ps : List Phase) (s : State) → Holds (Named o m) s → Holds (Named o (m + spent ps (length o.clients))) (come stops ps s)
unfolding come
come-named m stops [] s h = raise m (m + 0) s (omega arith) h
come-named {o} m stops (p ∷ ps) s h =
    raise (m + length o.clients + spent ps (length o.clients)) (m + spent (p ∷ ps) (length o.clients)) _ (sums m (length o.clients) (spent ps (length o.clients)))
    (come-named (m + length o.clients) stops ps _ (when (is_at p s) (when (stops s) (more s h) (when (is_done s) (next-named s h) (more s h))) (more s h)))
  where
    sums : (a b c : ℕ) → a + b + c ≤ a + (b + c)
    sums a b c = omega arith

seven : (m n : ℕ) → m + spent phases n ≤ m + 7 * n
seven m n = omega arith

pub come_to-named : {o : Names} {m : ℕ} (phase : Phase) (s : State) → Holds (Named o m) s → Holds (Named o (m + 7 * length o.clients)) (come_to phase s)
unfolding come_to
come_to-named {o} {m} phase s h = raise (m + spent phases (length o.clients)) (m + 7 * length o.clients) _ (seven m (length o.clients)) (come-named m (is_at phase) phases s h)

pub come_to_decide-named : {o : Names} {m : ℕ} (s : State) → Holds (Named o m) s → Holds (Named o (m + 7 * length o.clients)) (come_to_decide s)
unfolding come_to_decide
come_to_decide-named {o} {m} s h = raise (m + spent phases (length o.clients)) (m + 7 * length o.clients) _ (seven m (length o.clients)) (come-named m decides phases s h)

pub deciding-named : {o : Names} {m : ℕ} (s : State) → Holds (Named o m) s → Holds (Named o (m + 7 * length o.clients)) (deciding s)
unfolding deciding
deciding-named s h = holds (facts_of (come_to_decide-named s h))

pub ending-named : {o : Names} {m : ℕ} (s : State) → Holds (Named o m) s → Holds (Named o (m + 7 * length o.clients)) (ending s)
unfolding ending
ending-named s h = begin_replies-keeps (named_walk _ _) _ (come_to-named DecidingAgain s h)

pub placed-named : {o : Names} {m : ℕ} (phase : Phase) (s : State) → Holds (Named o m) s → Holds (Named o (m + 7 * length o.clients)) (placing (come_to phase s)).state
placed-named phase s h = placing-keeps (named_places _ _) _ (come_to-named phase s h)

-- ---- what comes in a phase

pub take_decision-named : {o : Names} {m : ℕ} (n : ℕ) (d : Decision) (s : State) → Holds (Named o m) s → Holds (Named o (m + 1)) (take_decision n d s)
unfolding take_decision
take_decision-named {o} {m} n d s h = each_of (client s n) (raise m (m + 1) s (omega arith) h) (λ c. regained-keeps (named_walk _ _) _ (holds (facts_of (decided-named c d s h))))

leave_memory-named : {o : Names} {m : ℕ} (how : Leaving) (s : State) → Holds (Named o m) s → Holds (Named o (m + 7 * length o.clients)) (leave_memory how s)
unfolding leave_memory
leave_memory-named ForAnother s h = holds (facts_of (come_to-named Evicting s h))
leave_memory-named (ForMemory x) s h = refused_row-named x _ (come_to-named Evicting s h)
leave_memory-named (BeforeDecision x) s h = holds (facts_of (forget-keeps (named_walk _ _) x.id _ (come_to_decide-named s h)))

pub forgotten_by-named : {o : Names} {m : ℕ} (key : Bytes) (s : State) → Holds (Named o m) s → Holds (Named o (m + 7 * length o.clients)) (forgotten_by key s)
unfolding forgotten_by
forgotten_by-named {o} {m} key s h = each_of (leaving_as s key) (raise m (m + 7 * length o.clients) s (omega arith) h) (λ how. leave_memory-named how s h)

pub begun_op-named : {o : Names} {m : ℕ} (op : DiskOp) (s : State) → Holds (Named o m) s → Holds (Named o (m + 7 * length o.clients)) (begun_op op s)
unfolding begun_op
begun_op-named {o} {m} op s h =
    when (is_opening s) (raise m (m + 7 * length o.clients) _ (omega arith) (begin_in_opening-keeps op s h)) (begin_in_turn-keeps op _ (come_to-named Keeping s h))

pub refused_dial-named : {o : Names} {m : ℕ} (e : Exchange) (s : State) → Holds (Named o m) s → Holds (Named o (m + length o.clients)) (refused_dial e s)
unfolding refused_dial
refused_dial-named e s h = when (may_ask_again s e.number) (more s h) (fill-named _ (end_exchange-keeps (named_walk _ _) e.number _ h))
